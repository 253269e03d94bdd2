-- The target of an address by what is found in a scope.
use Rattle.std.proofs.Common.{◌≡◌, ℕ, Bool, true, false, List, Option, Some, None, refl, ◌∙◌, ap, eqb-true}
use Rattle.std.specs.Prelude.{◌==◌, ◌&&◌, if◌then◌else◌}
use Rattle.std.specs.Option.{option_or}
use Rattle.bl_format.specs.Nodes as nodes
use Rattle.bl_format.specs.Nodes.{target_of}
use Rattle.bl_format.specs.Words.{last_place}
use Rattle.bl_addresses.specs.declared.marks.Scope.TheVariants.{Group, File}
use Rattle.bl_addresses.specs.Marks.{is_found, target_in_group}

-- a number other than 0 fails the test for it
not_zero : (a : ℕ) → (a ≡ 0 → ⊥) → (a == 0) ≡ false
not_zero a other = go (a == 0) refl
  where
    go : (b : Bool) → (a == 0) ≡ b → (a == 0) ≡ false
    go true e = absurd (other (eqb-true a 0 e))
    go false e = e

-- a node that is found first is what is found
first_found : (null : Bool) (first second : Option ℕ) (n : ℕ) → Some n ≡ (if null then None else first)
    → Some n ≡ (if null then None else option_or first second)
first_found true first second n is = is
first_found false (Some m) second n is = is
first_found false None second n is = absurd (cc)

-- a node of the group is the target
pub target_in_own : (seen : List nodes.Mark) (group address n : ℕ)
    → Some n ≡ target_in_group seen group address → Some n ≡ target_of seen group address
unfolding target_of target_in_group
target_in_own seen group address n is =
    first_found (address == 0) (last_place (λ n. n.group == group && n.address == address) seen)
    (last_place (λ n. n.is_an_id && n.address == address) seen) n is

-- where the group has none, an ID is
pub target_in_file : (marks seen : List nodes.Mark) (group address : ℕ) (r : Option ℕ)
    → marks ≡ seen → None ≡ target_in_group seen group address → (address ≡ 0 → ⊥)
    → r ≡ last_place (is_found File (record { part = 0; address = address })) marks
    → r ≡ target_of seen group address
unfolding target_of target_in_group
target_in_file marks seen group address r view none other found =
    let id = last_place (λ (n : nodes.Mark). n.is_an_id && n.address == address) in
    let null = not_zero address other in
    let own : None ≡ last_place (λ (n : nodes.Mark). n.group == group && n.address == address) seen = none ∙ rw null refl in
    found ∙ ap id view ∙ ap (λ o. option_or o (id seen)) own ∙ rw null refl

-- what is found in the group is the target among its nodes alone
pub target_among : (marks seen : List nodes.Mark) (group address : ℕ) (r : Option ℕ)
    → marks ≡ seen → (address ≡ 0 → ⊥)
    → r ≡ last_place (is_found Group (record { part = group; address = address })) marks
    → r ≡ target_in_group seen group address
unfolding target_in_group
target_among marks seen group address r view other found =
    found ∙ rw (not_zero address other) (ap (λ ms. last_place (λ (n : nodes.Mark). n.group == group && n.address == address) ms) view)
