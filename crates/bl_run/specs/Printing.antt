-- A text that goes into a sink piece by piece, with what is still held back. This project's own.
use Rattle.std.specs.Prelude.{◌≡◌, ◌≤◌, ℕ, ◌++◌, length, take, drop, Option, Result, Ok, Err}
use Rattle.bl_commands.specs.declared.ending.Ending.{Ending}
use Rattle.bl_commands.specs.Texts.{Text}
use Rattle.bl_shelf.specs.Written.{Grows, GrowsByPrefix}
use Rattle.bl_shelf.specs.declared.sink.Sink.{Ghosts}
use Rattle.bl_run.specs.Blame.{BlamesRisen, IsOfPut}

-- behind what was held back comes a text; some of both is put, from the first byte on, and the rest is held back
pub record Adds (written : Option Text) (pending text : Text) (written' : Option Text) (pending' : Text) : Type 0 where
  pub put : ℕ
  pub within : put ≤ length (pending ++ text)
  pub grows : Grows written (take put (pending ++ text)) written'
  pub held_back : pending' ≡ drop put (pending ++ text)

-- only a part of a text is put, for want of memory or since the sink failed, which it counts
pub record IsCut {O : Type 0} (h : Ghosts O) (o o' : O) (text : Text) (ending : Ending) : Type 0 where
  pub part : GrowsByPrefix (h.written o) text (h.written o')
  pub puts : h.faults o ≤ h.faults o'
  pub of_put : IsOfPut ending
  pub blamed : BlamesRisen ending 0 0 0 0 (h.faults o) (h.faults o')

-- the text is put, or cut
abbrev pub Puts : {O T : Type 0} → Ghosts O → O → O → Text → Result T Ending → Type 0
Puts h o o' text (Ok _) = Grows (h.written o) text (h.written o') × (h.faults o' ≡ h.faults o)
Puts h o o' text (Err ending) = IsCut h o o' text ending

-- the text is added to what is held back, or both are cut
abbrev pub PutsLater : {O T : Type 0} → Ghosts O → O → O → Text → Text → Text → Result T Ending → Type 0
PutsLater h o o' pending pending' text (Ok _) =
    Adds (h.written o) pending text (h.written o') pending' × (h.faults o' ≡ h.faults o)
PutsLater h o o' pending pending' text (Err ending) = IsCut h o o' (pending ++ text) ending
