-- A name's parts against where they stand in it.
use Rattle.std.proofs.Common.{ap, subst, ◌≡◌, ℕ, suc, ◌+◌, ◌≤◌, ◌<◌, Bool, true, false, List, [], ◌∷◌, length, take, drop, Option, Some, None, refl, sym, ◌∙◌, arith}
use Rattle.std.specs.Prelude.{◌==◌, option_map, unwrap_or, nat_lt, if◌then◌else◌}
use Rattle.std.specs.List.{prefix_len}
use Rattle.std.specs.Char.{is_ascii_digit}
use Rattle.std.specs.Str.{byte}
use Rattle.std.proofs.lemmas.Bool.{lt-ltb, and_parts}
use Rattle.std.proofs.lemmas.Bool.Decides.{nat_tests}
use Rattle.std.proofs.lemmas.List.{length-drop, length-take}
use Rattle.std.proofs.lemmas.List.Sums.{prefix_len-le-length}
use Rattle.std.specs.Str.{bytes_eq}
use Rattle.std.specs.Prelude.{codes, ◌&&◌, nat_le, slice_index}
use Rattle.std.proofs.lemmas.Slice.Eq.{bytes_eq-Decides}
use Rattle.bl_format.specs.Limits.{most_elements}
use Rattle.bl_format.specs.Members.{MemberName, member_name, other_name, within_count, function_name, function_parts, extents, number_in, product, is_word_byte, plain_parts, plain_name}
use Rattle.bl_layout.specs.declared.member_names.NameShape.{NameShape}
use Rattle.bl_layout.specs.MemberNames.{name_parts, shape_of_name, bounded_count, bounded_shape, bracket_count, opens_number}

-- there are brackets where there is any text
brackets_of : (text ns : List ℕ) → extents (length text) text ≡ Some ns → nat_lt 0 (length ns) ≡ nat_lt 0 (length text)
unfolding extents
brackets_of [] ns e = let e' : ns ≡ [] = cc in rw e' refl
brackets_of (b ∷ bs) ns e = go (opens_number b bs) (extents (length bs) (drop (prefix_len is_ascii_digit bs + 1) bs)) e
  where
    go : (open_it : Bool) (o : Option (List ℕ))
        → (if open_it then option_map (λ xs. number_in (take (prefix_len is_ascii_digit bs) bs) ∷ xs) o else None) ≡ Some ns
        → nat_lt 0 (length ns) ≡ nat_lt 0 (length (b ∷ bs))
    go true (Some xs) e = let e' : ns ≡ number_in (take (prefix_len is_ascii_digit bs) bs) ∷ xs = cc in rw e' (lt-ltb 0 (suc (length xs)) (omega arith) ∙ sym (lt-ltb 0 (suc (length bs)) (omega arith)))
    go true None e = absurd cc
    go false o e = absurd cc

same_test : (a b c d : ℕ) → (a < b → c < d) → (c < d → a < b) → nat_lt a b ≡ nat_lt c d
same_test a b c d to from = grind (arith, nat_tests)

-- the shape of a name of the first form, from the numbers of its brackets
plain_shape_of : (name : List ℕ) (stars n : ℕ) (o : Option (List ℕ)) (count : ℕ)
    → stars + n ≤ length name → o ≡ extents (length (drop (stars + n) name)) (drop (stars + n) name)
    → Some count ≡ option_map (λ ns. bounded_count (product ns)) o
    → Some (record { pointer = nat_lt 0 stars; depth = stars; identifier_at = stars; identifier_len = n; key_len = stars + n; brackets = nat_lt (stars + n) (length name); count = count })
    ≡ option_map bounded_shape (option_map (plain_parts name stars n) o)
plain_shape_of name stars n None count inside is counted = absurd cc
plain_shape_of name stars n (Some ns) count inside is counted =
    let same : count ≡ bounded_count (product ns) = cc in
    let identifier : length (take n (drop stars name)) ≡ n = omega (arith, length-take n (drop stars name), length-drop stars name) in
    let key : length (take (stars + n) name) ≡ stars + n = omega (arith, length-take (stars + n) name) in
    let brackets : nat_lt 0 (length ns) ≡ nat_lt (stars + n) (length name) =
    brackets_of (drop (stars + n) name) ns (sym is)
    ∙ same_test 0 (length (drop (stars + n) name)) (stars + n) (length name) (λ lt. omega (arith, length-drop (stars + n) name)) (λ lt. omega (arith, length-drop (stars + n) name)) in
    rw (same, identifier, key, brackets) refl

-- the shape of a name of the first form
pub plain_found : (name : List ℕ) (stars n count : ℕ)
    → stars ≡ prefix_len (λ b. b == byte "*") name → n ≡ prefix_len is_word_byte (drop stars name)
    → (n ≡ 0 → ⊥) → Some count ≡ bracket_count (drop (stars + n) name)
    → Some (record { pointer = nat_lt 0 stars; depth = stars; identifier_at = stars; identifier_len = n; key_len = stars + n; brackets = nat_lt (stars + n) (length name); count = count })
    ≡ option_map bounded_shape (plain_name name)
plain_found name stars n count is_stars is_n some counted =
    let within : stars ≤ length name = rw is_stars (prefix_len-le-length (λ b. b == byte "*") name) in
    let inside : stars + n ≤ length name = omega (arith, length-drop stars name, prefix_len-le-length is_word_byte (drop stars name)) in
    let not_empty : (n == 0) ≡ false = grind (arith, nat_tests) in
    let shape = plain_shape_of name stars n (extents (length (drop (stars + n) name)) (drop (stars + n) name)) count inside refl counted in
    rw (← is_stars, ← is_n, not_empty) shape

-- ---- where the identifier stands

-- an identifier stands at a place of a name
pub record StandsIn (name : List ℕ) (m : MemberName) : Type 0 where
  pub same : take (length m.identifier) (drop m.identifier_at name) ≡ m.identifier
  pub inside : m.identifier_at + length m.identifier ≤ length name

word_stands : (name : List ℕ) (m : MemberName) (n : ℕ)
    → m.identifier ≡ take n (drop m.identifier_at name) → n ≤ length (drop m.identifier_at name) → m.identifier_at ≤ length name
    → StandsIn name m
word_stands name m n is fits inside =
    let len : length m.identifier ≡ n = ap length is ∙ omega (arith, length-take n (drop m.identifier_at name)) in
    record { same = rw len (sym is); inside = omega (arith, length-drop m.identifier_at name) }

function_stands : (name : List ℕ) (m : MemberName) → function_name name ≡ Some m → StandsIn name m
function_stands name m e = go (bytes_eq (take 2 name) (codes "(*") && nat_lt 0 n && slice_index name (n + 2) == byte ")") refl e
  where
    n : ℕ
    n = prefix_len is_word_byte (drop 2 name)

    go : (b : Bool) → (bytes_eq (take 2 name) (codes "(*") && nat_lt 0 n && slice_index name (n + 2) == byte ")") ≡ b
        → (if b then Some (function_parts name n) else None) ≡ Some m → StandsIn name m
    go true t e =
        let is : m ≡ function_parts name n = cc in
        let two : take 2 name ≡ codes "(*" = (bytes_eq-Decides (take 2 name) (codes "(*")).0 (and_parts _ _ (and_parts _ _ t).0).0 in
        let long : 2 ≤ length name = omega (arith, ap length two, length-take 2 name) in
        rw is (word_stands name (function_parts name n) n refl (prefix_len-le-length is_word_byte (drop 2 name)) long)
    go false t e = absurd cc

plain_stands : (name : List ℕ) (m : MemberName) → plain_name name ≡ Some m → StandsIn name m
plain_stands name m e = go (n == 0) (extents (length (drop (stars + n) name)) (drop (stars + n) name)) e
  where
    stars : ℕ
    stars = prefix_len (λ b. b == byte "*") name

    n : ℕ
    n = prefix_len is_word_byte (drop stars name)

    go : (b : Bool) (o : Option (List ℕ)) → (if b then None else option_map (plain_parts name stars n) o) ≡ Some m → StandsIn name m
    go true o e = absurd cc
    go false None e = absurd cc
    go false (Some ns) e =
        let is : m ≡ plain_parts name stars n ns = cc in
        rw is (word_stands name (plain_parts name stars n ns) n refl (prefix_len-le-length is_word_byte (drop stars name)) (prefix_len-le-length (λ b. b == byte "*") name))

-- the identifier of a name that is a member's stands in it
pub identifier_stands : (name : List ℕ) (m : MemberName) → member_name name ≡ Some m → StandsIn name m
unfolding member_name
identifier_stands name m e = go (slice_index name 0 == byte "(") (function_name name) (plain_name name) (function_stands name) (plain_stands name) e
  where
    within : (o : Option MemberName) → ((x : MemberName) → o ≡ Some x → StandsIn name x) → within_count o ≡ Some m → StandsIn name m
    within None all e = absurd cc
    within (Some x) all e = small (nat_le x.count most_elements) e
      where
        small : (b : Bool) → (if b then Some x else None) ≡ Some m → StandsIn name m
        small true e = let is : x ≡ m = cc in rw (← is) (all x refl)
        small false e = absurd cc

    go : (b : Bool) (f p : Option MemberName)
        → ((x : MemberName) → f ≡ Some x → StandsIn name x) → ((x : MemberName) → p ≡ Some x → StandsIn name x)
        → within_count (if b then f else p) ≡ Some m → StandsIn name m
    go true f p of_f of_p e = within f of_f e
    go false f p of_f of_p e = within p of_p e

-- the shape of a name that is a member's, as the code has it
pub record IsShapeIn (name : List ℕ) (x : NameShape) : Type 0 where
  pub same : take x.identifier_len (drop x.identifier_at name) ≡ (name_parts name).identifier
  pub inside : x.identifier_at + x.identifier_len ≤ length name

-- what a name says stands in it
pub entry_shape : (name : List ℕ) → IsShapeIn name (shape_of_name (name_parts name))
entry_shape name = go (member_name name) refl
  where
    of : (m : MemberName) → name_parts name ≡ m → StandsIn name m → IsShapeIn name (shape_of_name (name_parts name))
    of m is stands = record {
      same = subst (λ (p : MemberName). take (length p.identifier) (drop p.identifier_at name) ≡ p.identifier) (sym is) stands.same;
      inside = subst (λ (p : MemberName). p.identifier_at + length p.identifier ≤ length name) (sym is) stands.inside;
    }

    parts : (o : Option MemberName) → member_name name ≡ o → name_parts name ≡ unwrap_or o (other_name name)
    parts o is = ap (λ (x : Option MemberName). unwrap_or x (other_name name)) is

    go : (o : Option MemberName) → member_name name ≡ o → IsShapeIn name (shape_of_name (name_parts name))
    go None is = of (other_name name) (parts None is) (record { same = refl; inside = omega arith })
    go (Some m) is = of m (parts (Some m) is) (identifier_stands name m is)
