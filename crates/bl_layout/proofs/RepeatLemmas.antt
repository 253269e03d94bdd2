-- The identifier that stood before, by the numbers of identifiers and by the identifiers themselves.
use Rattle.std.proofs.Common.{◌≡◌, ℕ, zero, suc, ◌<◌, Bool, eqb, List, length, map, refl, sym, ◌∙◌, ap, arith, eq-eqb}
use Rattle.std.specs.Prelude.{◌==◌, ◌||◌, slice_index}
use Rattle.std.specs.List.{list_any}
use Rattle.std.specs.Str.{bytes_eq}
use Rattle.std.proofs.lemmas.Bool.{eqb-true}
use Rattle.std.proofs.lemmas.List.{get_or_default, map_push}
use Rattle.bl_format.specs.Words.{numbers_below}
use Rattle.bl_format.specs.declared.catalogue.Catalogue.{Catalogue}
use Rattle.bl_format.specs.declared.catalogue.MemberEntry.{MemberEntry}
use Rattle.bl_format.specs.Schema.{IsCatalogue, MemberFits}
use Rattle.bl_format.specs.Layout.{struct_entry, member_entry, member_count, name_of, is_duplicate}
use Rattle.bl_layout.specs.Identifiers.{AreIdentifierNumbers, identifier_of, IsFirstDuplicate, number_of_member, stood_before}
use Rattle.bl_layout.specs.Tables.{numbered}
use Rattle.bl_layout.specs.Check.{IsFirstRepeat}
use Rattle.bl_layout.proofs.NumberedLemmas.{numbered_inside, identifier_at}
use Rattle.bl_layout.proofs.IdentifierLemmas.{bool_same}
use Rattle.bl_layout.proofs.DuplicateLemmas.{any-append}
use Rattle.bl_layout.proofs.CheckLemmas.{member_fits}

-- tests that agree on each number below n
any_same : {A B : Type 0} (p : A → Bool) (q : B → Bool) (f : ℕ → A) (g : ℕ → B) (n : ℕ)
    → ((j : ℕ) → j < n → p (f j) ≡ q (g j)) → list_any p (map f (numbers_below n)) ≡ list_any q (map g (numbers_below n))
any_same p q f g zero same = refl
any_same p q f g (suc n) same =
    ap (list_any p) (map_push f (numbers_below n) n) ∙ any-append p (map f (numbers_below n)) (f n)
    ∙ ap (λ (b : Bool). b || p (f n)) (any_same p q f g n (λ j lt. same j (omega arith)))
    ∙ ap (λ (b : Bool). list_any q (map g (numbers_below n)) || b) (same n (omega arith))
    ∙ sym (ap (list_any q) (map_push g (numbers_below n) n) ∙ any-append q (map g (numbers_below n)) (g n))

eqb_sym : (a b : ℕ) → eqb a b ≡ eqb b a
eqb_sym a b = bool_same (eqb a b) (eqb b a) (λ e. eq-eqb b a (sym (eqb-true a b e))) (λ e. eq-eqb a b (sym (eqb-true b a e)))

-- the number of a member's identifier is that of its name
number_at : (c : Catalogue) (ids : List ℕ) (s k : ℕ) → AreIdentifierNumbers (numbered c.names) ids → k < member_count c s
    → number_of_member ids (struct_entry c s).members k ≡ slice_index ids (member_entry c s k).name_number
number_at c ids s k is lt =
    ap (λ (m : MemberEntry). slice_index ids m.name_number)
    (get_or_default (struct_entry c s).members k (record { type_number = 0; name_number = length ids }) (record { type_number = length c.types; name_number = length c.names }) lt)

-- the test of two names by the numbers of their identifiers
same_names : (c : Catalogue) (ids : List ℕ) (m n : MemberEntry) → AreIdentifierNumbers (numbered c.names) ids → MemberFits c m → MemberFits c n
    → (slice_index ids m.name_number == slice_index ids n.name_number) ≡ bytes_eq (identifier_of c.names m.name_number) (identifier_of c.names n.name_number)
same_names c ids m n numbers of_m of_n =
    numbers.same m.name_number n.name_number
    (numbered_inside c.names m.name_number of_m.name_number of_m.name_number_fits) (numbered_inside c.names n.name_number of_n.name_number of_n.name_number_fits)
    ∙ ap (λ (x : List ℕ). bytes_eq x (identifier_of (numbered c.names) n.name_number)) (identifier_at c.names m.name_number of_m.name_number_fits)
    ∙ ap (bytes_eq (identifier_of c.names m.name_number)) (identifier_at c.names n.name_number of_n.name_number_fits)

-- the two tests agree
stood_before-is_duplicate : (c : Catalogue) (ids : List ℕ) (s k : ℕ)
    → IsCatalogue c → s < length c.structs → AreIdentifierNumbers (numbered c.names) ids → k < member_count c s
    → stood_before ids (struct_entry c s).members k ≡ is_duplicate c s k
unfolding name_of
stood_before-is_duplicate c ids s k is lt numbers small =
    any_same (λ y. y == number_of_member ids (struct_entry c s).members k) (bytes_eq (name_of c s k).identifier)
    (number_of_member ids (struct_entry c s).members) (λ j. (name_of c s j).identifier) k
    (λ j less. rw (number_at c ids s j numbers (omega arith), number_at c ids s k numbers small)
    (eqb_sym (slice_index ids (member_entry c s j).name_number) (slice_index ids (member_entry c s k).name_number)
    ∙ same_names c ids (member_entry c s k) (member_entry c s j) numbers (member_fits c s k is lt small) (member_fits c s j is lt (omega arith))))

-- the first member whose number stood before is the first whose identifier did
pub first_repeat : (c : Catalogue) (ids : List ℕ) (members : List MemberEntry) (s n : ℕ)
    → IsCatalogue c → s < length c.structs → AreIdentifierNumbers (numbered c.names) ids → members ≡ (struct_entry c s).members
    → IsFirstDuplicate ids members n → IsFirstRepeat c s n
first_repeat c ids members s n is lt numbers same first = record {
  before = λ k less.
      let small : k < member_count c s = omega (arith, first.within, ap length same) in
      sym (stood_before-is_duplicate c ids s k is lt numbers small) ∙ ap (λ (xs : List MemberEntry). stood_before ids xs k) (sym same) ∙ first.before k less;
  at = λ small.
      sym (stood_before-is_duplicate c ids s n is lt numbers small) ∙ ap (λ (xs : List MemberEntry). stood_before ids xs n) (sym same) ∙ first.at (omega (arith, ap length same));
  within = omega (arith, first.within, ap length same);
}
