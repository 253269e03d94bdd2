-- The members of a struct one after another: their faults and offsets.
use Rattle.std.proofs.Common.{◌≡◌, ℕ, zero, suc, ◌+◌, ◌≤◌, ◌<◌, Bool, true, false, eqb, List, [], ◌∷◌, ◌++◌, length, get_or, map, Option, Some, None, refl, sym, ◌∙◌, ap, arith, inl, inr, eq-eqb}
use Rattle.std.specs.Prelude.{sum, if◌then◌else◌}
use Rattle.std.specs.Option.{option_or}
use Rattle.std.proofs.lemmas.List.Sums.{sum_by_push}
use Rattle.std.proofs.lemmas.Bool.{lt-ltb, cases_lt}
use Rattle.bl_layout.proofs.DuplicateLemmas.{eqb_false}
use Rattle.bl_format.specs.declared.layout.LayoutFault.TheVariants.{BadName, BasicLength, Overrun, Cyclic, DuplicateMember}
use Rattle.bl_num.specs.declared.number.Width.{Width}
use Rattle.bl_format.specs.declared.catalogue.Catalogue.{Catalogue}
use Rattle.bl_format.specs.declared.catalogue.StructEntry.{StructEntry}
use Rattle.bl_format.specs.declared.catalogue.MemberEntry.{MemberEntry}
use Rattle.std.proofs.lemmas.List.{get_or_default, map_push}
use Rattle.bl_format.specs.declared.layout.LayoutFault.{LayoutFault}
use Rattle.bl_format.specs.Words.{find_map, numbers_below}
use Rattle.bl_format.specs.Layout.{struct_entry, member_entry, member_count, member_size, element_size, name_of, member_offset, member_fault, struct_length, is_duplicate, leads_back, inner_struct, has_bad_name, has_bad_length, overruns}
use Rattle.bl_format.proofs.MemberPasses.{find_map-append}
use Rattle.bl_layout.specs.Check.{IsFirstBack, IsFirstRepeat, struct_fault}
use Rattle.bl_layout.specs.Sizes.{size_of}

-- nothing behind an option changes nothing
pub or_none : {X : Type 0} (o : Option X) → option_or o None ≡ o
or_none None = refl
or_none (Some x) = refl

-- what is found among the numbers up to n
find_map-more : {X : Type 0} (f : ℕ → Option X) (n : ℕ) → find_map f (numbers_below (suc n)) ≡ option_or (find_map f (numbers_below n)) (f n)
find_map-more f n = find_map-append f (numbers_below n) (n ∷ []) ∙ ap (option_or (find_map f (numbers_below n))) (or_none (f n))

-- nothing is found up to n
pub find_map-pass : {X : Type 0} (f : ℕ → Option X) (n m : ℕ) → find_map f (numbers_below n) ≡ None → f n ≡ None → m ≡ n + 1 → find_map f (numbers_below m) ≡ None
find_map-pass f n m before here is = let s : m ≡ suc n = omega arith in rw (s, find_map-more f n, before, here) refl

-- what is found first is found among more
pub find_map-first : {X : Type 0} (f : ℕ → Option X) (k : ℕ) (n : ℕ) (x : X) → find_map f (numbers_below k) ≡ None → f k ≡ Some x → k < n → find_map f (numbers_below n) ≡ Some x
find_map-first f k zero x before here lt = absurd (omega arith)
find_map-first f k (suc n) x before here lt = elim (cases_lt k n) [
  | inl less ↦ rw (find_map-more f n, find_map-first f k n x before here less) refl
  | inr most ↦ (let at : n ≡ k = omega arith in rw (find_map-more f n, at, before, here) refl)
]

-- where the next member stands
pub member_offset-suc : (c : Catalogue) (w : Width) (s k : ℕ) → member_offset c w s (suc k) ≡ member_offset c w s k + size_of c w (member_entry c s k)
unfolding member_offset member_size element_size name_of
member_offset-suc c w s k = ap sum (map_push (member_size c w s) (numbers_below k) k) ∙ sum_by_push (λ x. x) (map (member_size c w s) (numbers_below k)) (member_size c w s k)

pub numbers-push : {X : Type 0} (f : ℕ → X) (k m : ℕ) → m ≡ k + 1 → map f (numbers_below m) ≡ map f (numbers_below k) ++ f k ∷ []
numbers-push f k m is = let s : m ≡ suc k = omega arith in rw s (map_push f (numbers_below k) k)

-- what a member without a fault passes
pub record Passes (c : Catalogue) (w : Width) (s k : ℕ) : Type 0 where
  pub identifier : is_duplicate c s k ≡ false
  pub back : leads_back c s (inner_struct c s k) ≡ false
  pub end : member_offset c w s (suc k) ≤ struct_length c s

pub member_passes : (c : Catalogue) (w : Width) (s k : ℕ) → member_fault c w s k ≡ None → Passes c w s k
unfolding member_fault
member_passes c w s k e = go (has_bad_name c s k) (is_duplicate c s k) (has_bad_length c s k) (leads_back c s (inner_struct c s k)) (overruns c w s k) refl refl refl e
  where
    go : (a b d f g : Bool) → is_duplicate c s k ≡ b → leads_back c s (inner_struct c s k) ≡ f → overruns c w s k ≡ g
        → (if a then Some (BadName s k) else if b then Some (DuplicateMember s k) else if d then Some (BasicLength s k) else if f then Some (Cyclic s k) else if g then Some (Overrun s k) else None) ≡ None
        → Passes c w s k
    go true b d f g p q r e = absurd cc
    go false true d f g p q r e = absurd cc
    go false false true f g p q r e = absurd cc
    go false false false true g p q r e = absurd cc
    go false false false false true p q r e = absurd cc
    go false false false false false p q r e = record {
      identifier = p;
      back = q;
      end = elim (cases_lt (struct_length c s) (member_offset c w s (suc k))) [
        | inl lt ↦ absurd (let t : overruns c w s k ≡ true = lt-ltb _ _ lt in let x : true ≡ false = sym t ∙ r in cc)
        | inr le ↦ le
      ];
    }

-- the members before the one that was reached
pub record AreChecked (c : Catalogue) (w : Width) (s duplicate back k offset : ℕ) (offsets : List ℕ) : Type 0 where
  pub none : find_map (member_fault c w s) (numbers_below k) ≡ None
  pub is_offset : offset ≡ member_offset c w s k
  pub small : offset ≤ struct_length c s
  pub are_offsets : offsets ≡ map (member_offset c w s) (numbers_below k)
  pub before_duplicate : k ≤ duplicate
  pub before_back : k ≤ back

-- a flag for one place is the test that first holds there
pub flag_of : (f : ℕ → Bool) (k n count : ℕ) → ((j : ℕ) → j < n → f j ≡ false) → (n < count → f n ≡ true) → k ≤ n → k < count → eqb k n ≡ f k
flag_of f k n count before at le lt = elim (cases_lt k n) [
  | inl less ↦ (eqb_false k n (λ e. omega (arith, e)) ∙ sym (before k less))
  | inr most ↦ (let is : k ≡ n = omega arith in eq-eqb k n is ∙ sym (rw is (at (omega arith))))
]

-- one member more, which passes
pub AreChecked-push : (c : Catalogue) (w : Width) (s duplicate back k offset end : ℕ) (offsets : List ℕ)
    → AreChecked c w s duplicate back k offset offsets → IsFirstRepeat c s duplicate → IsFirstBack c s back
    → k < member_count c s → end ≡ member_offset c w s (suc k) → member_fault c w s k ≡ None
    → AreChecked c w s duplicate back (k + 1) end (offsets ++ offset ∷ [])
AreChecked-push c w s duplicate back k offset end offsets ch first_duplicate first_back lt is_end passes =
    let p = member_passes c w s k passes in
    record {
      none = find_map-pass (member_fault c w s) k (k + 1) ch.none passes refl;
      is_offset = is_end ∙ ap (member_offset c w s) (omega arith);
      small = omega (arith, p.end, is_end);
      are_offsets = sym (numbers-push (member_offset c w s) k (k + 1) refl ∙ ap (λ (xs : List ℕ). xs ++ member_offset c w s k ∷ []) (sym ch.are_offsets) ∙ ap (λ (x : ℕ). offsets ++ x ∷ []) (sym ch.is_offset));
      before_duplicate = elim (cases_lt k duplicate) [
        | inl less ↦ omega arith
        | inr most ↦ absurd (let is : duplicate ≡ k = omega (arith, ch.before_duplicate) in let t : is_duplicate c s k ≡ true = rw is at (first_duplicate.at (omega arith)) in let x : true ≡ false = sym t ∙ p.identifier in cc)
      ];
      before_back = elim (cases_lt k back) [
        | inl less ↦ omega arith
        | inr most ↦ absurd (let is : back ≡ k = omega (arith, ch.before_back) in let t : leads_back c s (inner_struct c s k) ≡ true = rw is at (first_back.at (omega arith)) in let x : true ≡ false = sym t ∙ p.back in cc)
      ];
    }

-- before the first member
pub AreChecked-none : (c : Catalogue) (w : Width) (s duplicate back : ℕ) → AreChecked c w s duplicate back 0 0 []
unfolding member_offset
AreChecked-none c w s duplicate back = record {
  none = refl;
  is_offset = refl;
  small = omega arith;
  are_offsets = refl;
  before_duplicate = omega arith;
  before_back = omega arith;
}

-- the first member that fails
pub AreChecked-fails : (c : Catalogue) (w : Width) (s duplicate back k offset : ℕ) (offsets : List ℕ) (fault : LayoutFault)
    → AreChecked c w s duplicate back k offset offsets → k < member_count c s → member_fault c w s k ≡ Some fault → struct_fault c w s ≡ Some fault
AreChecked-fails c w s duplicate back k offset offsets fault ch lt fails = find_map-first (member_fault c w s) k (member_count c s) fault ch.none fails lt

-- the members of a struct as the code has them
pub members_same : (c : Catalogue) (s : ℕ) (structs : List StructEntry) (d : StructEntry) (members : List MemberEntry)
    → s < length c.structs → structs ≡ c.structs → members ≡ (get_or structs s d).members → members ≡ (struct_entry c s).members
members_same c s structs d members lt is of =
    let far : StructEntry = record { type_number = length c.types; members = [] } in
    of ∙ ap (λ (xs : List StructEntry). (get_or xs s d).members) is ∙ ap (λ (x : StructEntry). x.members) (get_or_default c.structs s d far lt)

-- where the member that was reached ends
pub end_of : (c : Catalogue) (w : Width) (s k offset size : ℕ) (members : List MemberEntry) (d : MemberEntry)
    → offset ≡ member_offset c w s k → members ≡ (struct_entry c s).members → k < length members → size ≡ size_of c w (get_or members k d)
    → offset + size ≡ member_offset c w s (suc k)
end_of c w s k offset size members d is same lt sized =
    let far : MemberEntry = record { type_number = length c.types; name_number = length c.names } in
    let entry : get_or members k d ≡ member_entry c s k = get_or_default members k d far lt ∙ ap (λ (xs : List MemberEntry). get_or xs k far) same in
    let of : size ≡ size_of c w (member_entry c s k) = sized ∙ ap (size_of c w) entry in
    omega (arith, is, of, member_offset-suc c w s k)
