-- What is so over a shelf that an input was read through is so over the shelf before.
use Rattle.std.proofs.Common.{◌≡◌, ◌⊎◌, inl, inr, List, ℕ, Option, ap, subst, ◌∙◌, arith}
use Rattle.std.specs.Prelude.{IfSome}
use Rattle.bl_commands.specs.declared.ending.Ending.{Ending}
use Rattle.bl_commands.specs.Texts.{Text}
use Rattle.bl_shelf.specs.Calls.{Keeps, IsQuiet}
use Rattle.bl_shelf.specs.History.{with_stage}
use Rattle.bl_shelf.specs.Told.{Told, held_of}
use Rattle.bl_shelf.specs.declared.shelf.Shelf.{Ghosts}
use Rattle.bl_run.specs.Blame.{BlamesRisen, IsEndingOf, IsShelfBlamed}
use Rattle.bl_run.specs.Meaning.{Meaning}
use Rattle.bl_run.specs.Staging.{IsStaged, IsReady, IsUnready}

module _ {S : Type 0} (g : Ghosts S) (s s1 s2 : S) (quiet : IsQuiet g s s1) where
  -- what an ending blames
  pub blamed_before : (e : Ending) → IsShelfBlamed g s1 s2 e → IsShelfBlamed g s s2 e
  blamed_before e blamed = record {
    misses = let same = quiet.1 in let later = blamed.misses in omega (arith, same, later);
    faults = let same = quiet.0 in let later = blamed.faults in omega (arith, same, later);
    blamed =
        subst (λ (n : ℕ). BlamesRisen e n (g.misses s2) (g.faults s) (g.faults s2) 0 0) quiet.1
        (subst (λ (n : ℕ). BlamesRisen e (g.misses s1) (g.misses s2) n (g.faults s2) 0 0) quiet.0 blamed.blamed);
  }

module _ {S : Type 0} (g : Ghosts S) (m : Meaning) (name : List ℕ) (s s1 s2 : S) (keeps : Keeps g s s1) (quiet : IsQuiet g s s1) where
  -- what a command makes ready
  pub ready_before : (line : Text) → IsReady g m name s1 s2 line → IsReady g m name s s2 line
  ready_before line ready = record {
    room = ready.room;
    history = ready.history ∙ ap (with_stage name) keeps.history;
    quiet = (ready.quiet.0 ∙ quiet.0, ready.quiet.1 ∙ quiet.1);
    told = subst (λ (told : Option Told). IfSome told (λ t. IsStaged m t name line (g.told s2))) keeps.told ready.told;
  }

  history_before : (g.history s2 ≡ g.history s1) ⊎ (g.history s2 ≡ with_stage name (g.history s1)) → (g.history s2 ≡ g.history s) ⊎ (g.history s2 ≡ with_stage name (g.history s))
  history_before (inl same) = inl (same ∙ keeps.history)
  history_before (inr staged) = inr (staged ∙ ap (with_stage name) keeps.history)

  -- and what it doesn't
  pub unready_before : (e : Ending) → IsUnready g m name s1 s2 e → IsUnready g m name s s2 e
  unready_before e not = record {
    room = not.room;
    history = history_before not.history;
    held = not.held ∙ ap held_of keeps.told;
    blamed = blamed_before g s s1 s2 quiet e not.blamed;
    missed = not.missed;
    checked = subst (λ (told : Option Told). IfSome told (λ t. IsEndingOf (m.outcome t.held) e)) keeps.told not.checked;
  }
