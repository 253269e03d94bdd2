-- Reading things one after another, where each is read by what was seen before: as for things that mustn't repeat.
use Rattle.std.proofs.Common.{◌≡◌, ℕ, zero, suc, ◌-◌, ◌+◌, ◌≤◌, ◌<◌, Bool, true, false, cond, not, List, [], ◌∷◌, ◌++◌, Result, Ok, Err, refl, sym, ap, ◌∙◌, arith}
use Rattle.std.specs.Prelude.{◌||◌, ◌==◌}
use Rattle.std.specs.Borrow.{Bor}
use Rattle.std.specs.BTreeSet.{BTreeSet, Updates}
use Rattle.std.specs.Cmp.Lexicographic.{slice_cmp}
use Rattle.std.specs.List.{list_any}
use Rattle.std.specs.Ordering.{nat_cmp}
use Rattle.std.specs.Str.{bytes_eq}
use Rattle.std.proofs.Math.Path.{fun_ext}
use Rattle.std.proofs.lemmas.Cmp.{nat_list_eq_equiv}
use Rattle.std.proofs.lemmas.List.{append-nil}
use Rattle.std.proofs.lemmas.Map.Text.{is_eq-slice_cmp}
use Rattle.bl_num.specs.declared.number.Order.{Order}
use Rattle.bl_format.specs.declared.catalogue.MemberEntry.{MemberEntry}
use Rattle.bl_format.specs.declared.catalogue.StructEntry.{StructEntry}
use Rattle.bl_format.specs.declared.catalogue.SdnaFault.{SdnaFault}
use Rattle.bl_format.specs.declared.catalogue.SdnaFault.TheVariants.{TwoTypes, TwoStructs, NoMemory}
use Rattle.bl_format.specs.Words.{is_one_of}
use Rattle.bl_format.specs.Schema.{◌>>=◌, Reading, Fails, ensure, count_at, index_at, name_at, many_at, member_at, type_names_at, structs_at}
use Rattle.bl_sdna.specs.Lists.{has_name, type_name_at, members_at, struct_at}
use Rattle.bl_sdna.proofs.Many.{with_front, regroup}

module _ {A K : Type 0} (one : (K → Bool) → ℕ → Reading A) (is_of : K → A → Bool) where
  -- what is seen after one more
  abbrev pub seen_after : (K → Bool) → A → K → Bool
  seen_after is_seen a x = is_of x a || is_seen x

  -- n things, each read by which keys those before have
  unfoldable pub many_after : (K → Bool) → ℕ → ℕ → Reading (List A)
  many_after is_seen zero at = Ok ([], at)
  many_after is_seen (suc n) at = one is_seen at >>= λ first. many_after (seen_after is_seen first.0) n first.1 >>= λ others. Ok (first.0 ∷ others.0, others.1)

  pub goes_on : (front : List A) (is_seen seen_then : K → Bool) (count i at : ℕ) (a : A) (after : ℕ) (total : Reading (List A)) → i < count → one is_seen at ≡ Ok (a, after)
      → ((x : K) → seen_then x ≡ seen_after is_seen a x)
      → with_front front (many_after is_seen (count - i) at) ≡ total → with_front (front ++ a ∷ []) (many_after seen_then (count - (i + 1)) after) ≡ total
  unfolding many_after
  goes_on front is_seen seen_then count i at a after total lt h seen so_far =
      let k : count - i ≡ suc (count - (i + 1)) = omega arith in
      let others = many_after (seen_after is_seen a) (count - (i + 1)) after in
      let same : many_after seen_then (count - (i + 1)) after ≡ others = ap (λ (s : K → Bool). many_after s (count - (i + 1)) after) (fun_ext seen) in
      let step : with_front front (many_after is_seen (count - i) at) ≡ with_front (front ++ a ∷ []) others = rw (k, h) (regroup front a others) in
      ap (with_front (front ++ a ∷ [])) same ∙ sym step ∙ so_far

  pub is_done : (front : List A) (is_seen : K → Bool) (count i at : ℕ) (total : Reading (List A)) → count ≤ i → with_front front (many_after is_seen (count - i) at) ≡ total → total ≡ Ok (front, at)
  unfolding many_after
  is_done front is_seen count i at total le so_far =
      let k : count - i ≡ 0 = omega arith in
      let step : with_front front (many_after is_seen (count - i) at) ≡ Ok (front, at) = rw k (ap (λ (xs : List A). Ok (xs, at)) (append-nil front)) in
      sym so_far ∙ step

  pub ends : (e : SdnaFault) (front : List A) (is_seen : K → Bool) (count i at : ℕ) (total : Reading (List A)) → i < count → Fails e (one is_seen at)
      → with_front front (many_after is_seen (count - i) at) ≡ total → Fails e total
  unfolding many_after
  ends NoMemory front is_seen count i at total lt h so_far = tt
  ends e front is_seen count i at total lt h so_far =
      let k : count - i ≡ suc (count - (i + 1)) = omega arith in
      let step : with_front front (many_after is_seen (count - i) at) ≡ Err e = rw (k, h) refl in
      sym so_far ∙ step

cond_or : (x y : Bool) → cond x true y ≡ (x || y)
cond_or true y = refl
cond_or false y = refl

-- a set of names has the one that is put into it, and those that it had
pub name_put : (old new : BTreeSet (Bor (List ℕ))) (put : Bor (List ℕ)) → Updates (λ x y. slice_cmp nat_cmp x.now y.now) old new put true
    → (name : List ℕ) → has_name new name ≡ (bytes_eq name put.now || has_name old name)
name_put old new put updates name =
    let lent : Bor (List ℕ) = record { ref_ptr = (0, 0); now = name } in
    updates.0 lent ∙ cond_or _ (has_name old name) ∙ ap (λ (b : Bool). b || has_name old name) (is_eq-slice_cmp put.now name ∙ nat_list_eq_equiv.symm put.now name)

bind_assoc : {A B C : Type 0} (r : Result A SdnaFault) (g : A → Result B SdnaFault) (f : B → Result C SdnaFault) → (r >>= λ x. g x >>= f) ≡ (r >>= g) >>= f
bind_assoc (Ok x) g f = refl
bind_assoc (Err e) g f = refl

bind_same : {A B : Type 0} (r : Result A SdnaFault) (f g : A → Result B SdnaFault) → ((x : A) → f x ≡ g x) → r >>= f ≡ r >>= g
bind_same (Ok x) f g same = same x
bind_same (Err e) f g same = refl

-- a test, and then a reading with what follows it
test_first : {A B : Type 0} (b : Bool) (e : SdnaFault) (r : Result A SdnaFault) (f : A → Result B SdnaFault) (x : Result B SdnaFault)
    → x ≡ r >>= f → (ensure b e >>= λ _. x) ≡ (ensure b e >>= λ _. r) >>= f
test_first true e r f x same = same
test_first false e r f x same = refl

-- type names are read by those before
pub type_names : (p : List ℕ) (before : List (List ℕ)) (n at : ℕ) → type_names_at p before n at ≡ many_after (type_name_at p) bytes_eq (λ x. is_one_of x before) n at
unfolding type_names_at many_after type_name_at
type_names p before zero at = refl
type_names p before (suc n) at = by (λ name. type_names p (name.0 ∷ before) n name.1) (name_at p at)
  where
    after : List ℕ × ℕ → Reading (List (List ℕ))
    after name = many_after (type_name_at p) bytes_eq (λ x. is_one_of x (name.0 ∷ before)) n name.1

    rest : List ℕ × ℕ → Reading (List (List ℕ))
    rest name = after name >>= λ others. Ok (name.0 ∷ others.0, others.1)

    by : ((name : List ℕ × ℕ) → type_names_at p (name.0 ∷ before) n name.1 ≡ after name)
        → (r : Reading (List ℕ)) → (r >>= λ name. ensure (not (is_one_of name.0 before)) (TwoTypes at) >>= λ _. type_names_at p (name.0 ∷ before) n name.1 >>= λ others. Ok (name.0 ∷ others.0, others.1))
        ≡ (r >>= λ name. ensure (not (is_one_of name.0 before)) (TwoTypes at) >>= λ _. Ok name) >>= rest
    by others (Err e) = refl
    by others (Ok name) =
        test_first (not (is_one_of name.0 before)) (TwoTypes at) (Ok name) rest _ (ap (λ (r : Reading (List (List ℕ))). r >>= λ x. Ok (name.0 ∷ x.0, x.1)) (others name))

-- whether a number is that of a struct's type
abbrev pub is_type_of : ℕ → StructEntry → Bool
is_type_of number s = s.type_number == number

-- structs are read by the types of those before
pub structs : (order : Order) (types names : ℕ) (p before : List ℕ) (n at : ℕ)
    → structs_at order types names p before n at ≡ many_after (struct_at order types names p) is_type_of (λ x. list_any (λ y. y == x) before) n at
unfolding structs_at many_after struct_at members_at
structs order types names p before zero at = refl
structs order types names p before (suc n) at = by (λ t end. structs order types names p (t ∷ before) n end) (index_at order types p at)
  where
    entry : ℕ → List MemberEntry × ℕ → StructEntry × ℕ
    entry t members = (record { type_number = t; members = members.0 }, members.1)

    with_others : StructEntry → Reading (List StructEntry) → Reading (List StructEntry)
    with_others s others = others >>= λ x. Ok (s ∷ x.0, x.1)

    rest : StructEntry × ℕ → Reading (List StructEntry)
    rest first = with_others first.0 (many_after (struct_at order types names p) is_type_of (λ x. list_any (λ y. y == x) (first.0.type_number ∷ before)) n first.1)

    rest_before : ℕ → List MemberEntry × ℕ → Reading (List StructEntry)
    rest_before t members = with_others (entry t members).0 (structs_at order types names p (t ∷ before) n members.1)

    AreOthers : Type 0
    AreOthers = (t end : ℕ) → structs_at order types names p (t ∷ before) n end ≡ many_after (struct_at order types names p) is_type_of (λ x. list_any (λ y. y == x) (t ∷ before)) n end

    same_rest : AreOthers → (t : ℕ) (members : List MemberEntry × ℕ) → rest_before t members ≡ rest (entry t members)
    same_rest others t members = ap (with_others (entry t members).0) (others t members.1)

    -- what stands behind a type number
    behind : AreOthers → (t after : ℕ) → (count_at order 2 p after >>= λ count. many_at (member_at order types names p) count.0 count.1 >>= rest_before t)
        ≡ (members_at order types names p after >>= λ members. Ok (entry t members)) >>= rest
    behind others t after =
        let read = members_at order types names p after in
        bind_assoc (count_at order 2 p after) (λ count. many_at (member_at order types names p) count.0 count.1) (rest_before t)
        ∙ bind_same read (rest_before t) (λ members. rest (entry t members)) (same_rest others t)
        ∙ bind_assoc read (λ members. Ok (entry t members)) rest

    by : AreOthers → (r : Reading ℕ) → (r >>= λ t. ensure (not (list_any (λ x. x == t.0) before)) (TwoStructs at) >>= λ _. count_at order 2 p t.1 >>= λ count. many_at (member_at order types names p) count.0 count.1 >>= rest_before t.0)
        ≡ (r >>= λ t. ensure (not (list_any (λ x. x == t.0) before)) (TwoStructs at) >>= λ _. members_at order types names p t.1 >>= λ members. Ok (entry t.0 members)) >>= rest
    by others (Err e) = refl
    by others (Ok t) = test_first (not (list_any (λ x. x == t.0) before)) (TwoStructs at) (members_at order types names p t.1 >>= λ members. Ok (entry t.0 members)) rest _ (behind others t.0 t.1)

-- nothing in front
pub front_none : {A : Type 0} (read : Reading (List A)) → with_front [] read ≡ read
front_none (Ok x) = refl
front_none (Err e) = refl
