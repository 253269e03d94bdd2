-- A file that is staged after some reads.
use Rattle.std.proofs.Common.{◌≡◌, ◌∙◌, ◌⊎◌, inl, inr, List, ℕ, Option, None, Result, Ok, Err, subst, ap}
use Rattle.std.specs.Prelude.{IfOk}
use Rattle.bl_shelf.specs.Calls.{IsQuiet, Keeps}
use Rattle.bl_shelf.specs.Causes.{Rose}
use Rattle.bl_shelf.specs.History.{History, with_stage}
use Rattle.bl_shelf.specs.Told.{Told}
use Rattle.bl_shelf.specs.declared.shelf.Shelf.{Ghosts}
use Rattle.bl_writer.specs.declared.fault.WriteFault.{WriteFault}
use Rattle.bl_writer.specs.declared.fault.WriteFault.TheVariants as faults
use Rattle.bl_writer.specs.Calls.{CountsWrites, RefusesFirst, Stages}

-- three facts of an answer give a fourth
pub IfOk-three : {T E : Type 0} (r : Result T E) (P Q R W : T → Type 0) → IfOk r P → IfOk r Q → IfOk r R → ((x : T) → P x → Q x → R x → W x) → IfOk r W
IfOk-three (Ok x) P Q R W p q s so = so x p q s
IfOk-three (Err e) P Q R W p q s so = tt

module _ {S : Type 0} (g : Ghosts S) (s s1 s2 : S) (keeps : Keeps g s s1) where
  -- what is staged after reads is staged
  pub stages_after : {T F : Type 0} (name : List ℕ) (r : Result T F) → Stages g name s1 s2 r → Stages g name s s2 r
  stages_after name (Ok x) staged = record { room = staged.room; history = staged.history ∙ ap (with_stage name) keeps.history }
  stages_after name (Err e) none = record {
    room = none.room;
    history = subst (λ (h : History). (g.history s2 ≡ h) ⊎ (g.history s2 ≡ with_stage name h)) keeps.history none.history;
  }

  -- a refusal before anything was staged is one after reads
  pub first_after : {T : Type 0} (r : Result T WriteFault) → RefusesFirst g s1 s2 r → RefusesFirst g s s2 r
  first_after (Ok x) first = tt
  first_after (Err fault) first = elim first [
    | inl outside ↦ inl outside
    | inr same ↦ inr (same ∙ keeps.history)
  ]

  -- what is counted after reads that went well is counted
  pub writes_after : {T : Type 0} (r : Result T WriteFault) → IsQuiet g s s1 → CountsWrites g s1 s2 r → CountsWrites g s s2 r
  writes_after (Ok x) quiet more = (more.0 ∙ quiet.0, more.1 ∙ quiet.1)
  writes_after (Err faults.Absent) quiet is = (subst (λ (t : Option Told). t ≡ None) keeps.told is.0, subst (λ n. Rose n (g.misses s2)) quiet.1 is.1)
  writes_after (Err faults.Device) quiet is = subst (λ n. Rose n (g.faults s2)) quiet.0 is
  writes_after (Err faults.NoMemory) quiet is = tt
  writes_after (Err (faults.FloatCast t member)) quiet is = tt
  writes_after (Err (faults.TooManyBlocks n)) quiet is = tt
  writes_after (Err (faults.BlockTooLong n)) quiet is = tt
  writes_after (Err (faults.FileTooLarge n)) quiet is = tt
