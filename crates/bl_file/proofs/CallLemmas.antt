-- Calls that read, one after another.
use Rattle.std.proofs.Common.{◌≡◌, ℕ, List, length, Option, subst, sym, ◌∙◌, arith}
use Rattle.std.specs.Prelude.{Result, Ok, Err, IfErr}
use Rattle.bl_shelf.specs.Calls.{Keeps, IsQuiet}
use Rattle.bl_shelf.specs.Told.{Told}
use Rattle.bl_shelf.specs.Contents.{AreBytesAt}
use Rattle.bl_shelf.specs.declared.shelf.Shelf.{Ghosts}
use Rattle.bl_shelf.specs.declared.shelf.ShelfFault.{ShelfFault}
use Rattle.bl_shelf.specs.declared.shelf.ShelfFault.TheVariants.{NoMemory}
use Rattle.bl_file.specs.declared.payload.Payload.{Ghosts as PayloadGhosts}
use Rattle.bl_file.specs.Calls.{Tells, IsOpen}
use Rattle.bl_file.specs.Frames.{StaysAs, IsBlamed, CountsReads}
use Rattle.bl_file.specs.Held.{IsHeldAnd}
use Rattle.bl_file.specs.Reading.{IsPartAt}
use Rattle.bl_file.proofs.HeldLemmas.{AreBytesAt-IsPartAt}

module _ {S : Type 0} (g : Ghosts S) (s s' s'' : S) where
  -- what a shelf keeps at two calls it keeps at both
  pub keeps_on : Keeps g s s' → Keeps g s' s'' → Keeps g s s''
  keeps_on first second = record {
    told = second.told ∙ first.told;
    room = second.room ∙ first.room;
    history = second.history ∙ first.history;
    faults = omega (arith, first.faults, second.faults);
    misses = omega (arith, first.misses, second.misses);
  }

-- what stays at two calls stays at both
pub stays_on : {S P : Type 0} {g : Ghosts S} {name_of : P → List ℕ} {size_of : P → ℕ} {agrees_of : P → List ℕ → Type 0} {s s' s'' : S} {p p' p'' : P}
    → StaysAs g name_of size_of agrees_of s s' p p' → StaysAs g name_of size_of agrees_of s' s'' p' p'' → StaysAs g name_of size_of agrees_of s s'' p p''
stays_on {g} {s} {s'} {s''} first second = record {
  shelf = keeps_on g s s' s'' first.shelf second.shelf;
  name = second.name ∙ first.name;
  size = second.size ∙ first.size;
  held = second.held;
}

-- counts that didn't rise at two calls didn't rise at both
pub quiet_on : {m m' m'' n n' n'' : ℕ} → (m' ≡ m) × (n' ≡ n) → (m'' ≡ m') × (n'' ≡ n') → (m'' ≡ m) × (n'' ≡ n)
quiet_on first second = (second.0 ∙ first.0, second.1 ∙ first.1)

-- what is told of the file after a read was told before
pub told_before : {S P : Type 0} {g : Ghosts S} {name_of : P → List ℕ} {size_of : P → ℕ} {agrees_of : P → List ℕ → Type 0} {s s' : S} {p p' : P} (Such : List ℕ → Type 0)
    → StaysAs g name_of size_of agrees_of s s' p p' → IsHeldAnd (g.told s') (name_of p') Such → IsHeldAnd (g.told s) (name_of p) Such
told_before {g} {name_of} {s' = s'} {p = p} Such stays told =
    subst (λ (t : Option Told). IsHeldAnd t (name_of p) Such) stays.shelf.told
    (subst (λ (name : List ℕ). IsHeldAnd (g.told s') name Such) stays.name told)

-- an answer that at most wants memory blames no count
pub counts_of_memory : {S T : Type 0} (g : Ghosts S) (s s' : S) (result : Result T ShelfFault) → IsQuiet g s s' → IfErr result (λ fault. fault ≡ NoMemory) → CountsReads g s s' result
counts_of_memory g s s' (Ok x) quiet memory = quiet
counts_of_memory g s s' (Err fault) quiet memory = subst (IsBlamed g s s') (sym memory) tt

-- what is copied of an open payload is a part of its file
pub copied_part : {S P : Type 0} (g : Ghosts S) (h : PayloadGhosts P) (s : S) (p : P) → ((p : P) (b : List ℕ) → h.agrees p b → length b ≡ h.file_size p) → IsOpen g h s p
    → (size at : ℕ) (part : List ℕ) → h.file_size p ≡ size → AreBytesAt (g.told s) (h.file_name p) at part → Tells g h s p (IsPartAt size at part)
copied_part g h s p agreed held size at part long copied =
    AreBytesAt-IsPartAt (g.told s) (h.file_name p) (h.agrees p) size at part copied held (λ b agrees. agreed p b agrees ∙ long)
