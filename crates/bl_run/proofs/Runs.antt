-- What the end of a command says of its run.
use Rattle.std.proofs.Common.{◌≡◌, ◌≢◌, ◌⊎◌, inl, inr, ◌≤◌, ℕ, List, [], length, take, Option, Some, None, Result, Ok, Err, refl, sym, ap, subst, ◌∙◌, arith}
use Rattle.std.specs.Prelude.{IfSome, IsOk}
use Rattle.std.proofs.lemmas.List.{take_all}
use Rattle.std.proofs.lemmas.Option.{IfSome_then}
use Rattle.bl_commands.specs.declared.command.Command.{Command}
use Rattle.bl_commands.specs.declared.ending.Ending.{Ending}
use Rattle.bl_commands.specs.declared.ending.Ending.TheVariants as endings
use Rattle.bl_commands.specs.Texts.{Text, status_of, fault_line}
use Rattle.bl_shelf.specs.Causes.{Rose}
use Rattle.bl_shelf.specs.History.{History}
use Rattle.bl_shelf.specs.Told.{Held, held_of}
use Rattle.bl_shelf.specs.Written.{Grows, GrowsByPrefix}
use Rattle.bl_shelf.specs.declared.shelf.Shelf.{Ghosts}
use Rattle.bl_shelf.specs.declared.sink.Sink.{Ghosts as SinkGhosts}
use Rattle.bl_run.specs.Blame.{BlamesRisen, IsBlamed, IsEndingOf, IsUsage, MayMiss}
use Rattle.bl_run.specs.Meaning.{Effect, Meaning, IsDone, IsLawful}
use Rattle.bl_run.specs.Obeying.{Obeys, IsLeft, IsHistoryLeft, own_text}
use Rattle.bl_run.specs.Run.{IsStatus, IsStatusOf, IsBlamedFor, LeavesFiles, Writes, outcome_line, ending_line, PutsEnding, PutsLines, TellsAbsent, Reports, Concludes}
use Rattle.bl_run.proofs.Written.{grown_twice, same_grown}

abbrev Done : Type 0
Done = Result (Unit {0}) Ending

-- ---- statuses

status_bounds : (e : Ending) → (2 ≤ status_of e) × (status_of e ≤ 10)
status_bounds endings.NoCommand = (omega arith, omega arith)
status_bounds endings.NoMemory = (omega arith, omega arith)
status_bounds (endings.Absent file) = (omega arith, omega arith)
status_bounds endings.Device = (omega arith, omega arith)
status_bounds (endings.BadFile file fault) = (omega arith, omega arith)
status_bounds (endings.Missing lack) = (omega arith, omega arith)
status_bounds (endings.FloatCast owner member) = (omega arith, omega arith)
status_bounds (endings.PastLimit quantity count) = (omega arith, omega arith)
status_bounds endings.Sink = (omega arith, omega arith)

-- the reported status is the ending's, or 3
reported : (e : Ending) (status puts puts' : ℕ) (w w' : Option Text) → Reports e status puts puts' w w' → (status ≡ status_of e) ⊎ (status ≡ 3)
reported e status puts puts' w w' (inl whole) = inl whole.0
reported e status puts puts' w w' (inr none) = inr none.0

-- so it isn't 0
not_zero : (e : Ending) (status : ℕ) → (status ≡ status_of e) ⊎ (status ≡ 3) → (2 ≤ status) × (status ≤ 10)
not_zero e status (inl same) = let bounds = status_bounds e in (omega (arith, same, bounds.0), omega (arith, same, bounds.1))
not_zero e status (inr three) = (omega (arith, three), omega (arith, three))

-- the ending of a status
of_usage : (e : Ending) → status_of e ≡ 2 → e ≡ endings.NoCommand
of_usage endings.NoCommand is = refl
of_usage endings.NoMemory is = absurd (omega arith)
of_usage (endings.Absent file) is = absurd (omega arith)
of_usage endings.Device is = absurd (omega arith)
of_usage (endings.BadFile file fault) is = absurd (omega arith)
of_usage (endings.Missing lack) is = absurd (omega arith)
of_usage (endings.FloatCast owner member) is = absurd (omega arith)
of_usage (endings.PastLimit quantity count) is = absurd (omega arith)
of_usage endings.Sink is = absurd (omega arith)

-- a status blames the count that its ending blames
blamed_for : (e : Ending) (m m' f f' p p' : ℕ) → BlamesRisen e m m' f f' p p'
    → (status_of e ≡ 4 → Rose m m') × (status_of e ≡ 5 → Rose f f') × (status_of e ≡ 10 → Rose p p')
blamed_for endings.NoCommand m m' f f' p p' blames = (λ is. absurd (omega arith), λ is. absurd (omega arith), λ is. absurd (omega arith))
blamed_for endings.NoMemory m m' f f' p p' blames = (λ is. absurd (omega arith), λ is. absurd (omega arith), λ is. absurd (omega arith))
blamed_for (endings.Absent file) m m' f f' p p' blames = (λ is. blames, λ is. absurd (omega arith), λ is. absurd (omega arith))
blamed_for endings.Device m m' f f' p p' blames = (λ is. absurd (omega arith), λ is. blames, λ is. absurd (omega arith))
blamed_for (endings.BadFile file fault) m m' f f' p p' blames = (λ is. absurd (omega arith), λ is. absurd (omega arith), λ is. absurd (omega arith))
blamed_for (endings.Missing lack) m m' f f' p p' blames = (λ is. absurd (omega arith), λ is. absurd (omega arith), λ is. absurd (omega arith))
blamed_for (endings.FloatCast owner member) m m' f f' p p' blames = (λ is. absurd (omega arith), λ is. absurd (omega arith), λ is. absurd (omega arith))
blamed_for (endings.PastLimit quantity count) m m' f f' p p' blames = (λ is. absurd (omega arith), λ is. absurd (omega arith), λ is. absurd (omega arith))
blamed_for endings.Sink m m' f f' p p' blames = (λ is. absurd (omega arith), λ is. absurd (omega arith), λ is. blames)

rose_on : (p q r : ℕ) → Rose p q → q ≤ r → Rose p r
rose_on p q r rose later = omega (arith, rose, later)

-- ---- the outcome

-- the status is that of the outcome, where the ending is
status_of_outcome : (outcome : Result Effect Ending) (e : Ending) (status : ℕ) → outcome ≡ Err e → (status ≡ status_of e) ⊎ (status ≡ 3) → IsStatusOf outcome status
status_of_outcome outcome e status is (inl same) = rw is (inl same)
status_of_outcome outcome e status is (inr three) = rw is (inr (inl three))

three_of : (outcome : Result Effect Ending) (status : ℕ) → status ≡ 3 → IsStatusOf outcome status
three_of (Ok effect) status three = inr (inl three)
three_of (Err e) status three = inr (inl three)

five_of : (outcome : Result Effect Ending) (status : ℕ) → (status ≡ 5) ⊎ (status ≡ 3) → IsStatusOf outcome status
five_of outcome status (inr three) = three_of outcome status three
five_of (Ok effect) status (inl five) = inr (inr (inl five))
five_of (Err e) status (inl five) = inr (inr five)

ten_of : (outcome : Result Effect Ending) (status : ℕ) → IsOk outcome → (status ≡ 10) ⊎ (status ≡ 3) → IsStatusOf outcome status
ten_of outcome status ok (inr three) = three_of outcome status three
ten_of (Ok effect) status ok (inl ten) = inr (inr (inr ten))
ten_of (Err e) status ok (inl ten) = cc

checked_of : (outcome : Result Effect Ending) (e : Ending) (status : ℕ) → IsEndingOf outcome e → (status ≡ status_of e) ⊎ (status ≡ 3) → IsStatusOf outcome status
checked_of outcome endings.NoCommand status is same = status_of_outcome outcome _ status is same
checked_of outcome endings.NoMemory status is (inl same) = three_of outcome status same
checked_of outcome endings.NoMemory status is (inr three) = three_of outcome status three
checked_of outcome (endings.Absent file) status is same = status_of_outcome outcome _ status is same
checked_of outcome endings.Device status is same = five_of outcome status same
checked_of outcome (endings.BadFile file fault) status is same = status_of_outcome outcome _ status is same
checked_of outcome (endings.Missing lack) status is same = status_of_outcome outcome _ status is same
checked_of outcome (endings.FloatCast owner member) status is same = status_of_outcome outcome _ status is same
checked_of outcome (endings.PastLimit quantity count) status is same = status_of_outcome outcome _ status is same
checked_of outcome endings.Sink status is same = ten_of outcome status is same

done_checked : (outcome : Result Effect Ending) (held : Held) (held' : Option Held) (w w' : Option Text) (status : ℕ) → status ≡ 0 → IsDone outcome held held' w w' → IsStatusOf outcome status
done_checked (Ok effect) held held' w w' status zero done = inl zero
done_checked (Err e) held held' w w' status zero done = absurd done

-- where the outcome is an effect and neither the shelf nor the sink failed, only memory ends the run
not_ok : {A : Type 0} (outcome : Result Effect Ending) (e : Ending) → outcome ≡ Err e → IsOk outcome → A
not_ok (Ok effect) e is ok = cc
not_ok (Err x) e is ok = cc

complete_of : (outcome : Result Effect Ending) (e : Ending) (status m m' f f' p p' : ℕ) → IsEndingOf outcome e → BlamesRisen e m m' f f' p p' → (status ≡ status_of e) ⊎ (status ≡ 3)
    → IsOk outcome → ¬ Rose f f' → ¬ Rose p p' → (status ≡ 0) ⊎ (status ≡ 3)
complete_of outcome endings.NoCommand status m m' f f' p p' is blames same ok quiet taken = not_ok outcome _ is ok
complete_of outcome endings.NoMemory status m m' f f' p p' is blames (inl same) ok quiet taken = inr same
complete_of outcome endings.NoMemory status m m' f f' p p' is blames (inr three) ok quiet taken = inr three
complete_of outcome (endings.Absent file) status m m' f f' p p' is blames same ok quiet taken = not_ok outcome _ is ok
complete_of outcome endings.Device status m m' f f' p p' is blames same ok quiet taken = absurd (quiet blames)
complete_of outcome (endings.BadFile file fault) status m m' f f' p p' is blames same ok quiet taken = not_ok outcome _ is ok
complete_of outcome (endings.Missing lack) status m m' f f' p p' is blames same ok quiet taken = not_ok outcome _ is ok
complete_of outcome (endings.FloatCast owner member) status m m' f f' p p' is blames same ok quiet taken = not_ok outcome _ is ok
complete_of outcome (endings.PastLimit quantity count) status m m' f f' p p' is blames same ok quiet taken = not_ok outcome _ is ok
complete_of outcome endings.Sink status m m' f f' p p' is blames same ok quiet taken = absurd (taken blames)

-- ---- lines

sink_line : (outcome : Result Effect Ending) → IsOk outcome → ending_line outcome 10 ≡ fault_line endings.Sink
unfolding fault_line
sink_line (Ok effect) ok = refl
sink_line (Err e) ok = cc

line_of_status : (outcome : Result Effect Ending) (e : Ending) → IsEndingOf outcome e → ending_line outcome (status_of e) ≡ fault_line e
line_of_status outcome endings.NoCommand is = ap outcome_line is
line_of_status outcome endings.NoMemory is = refl
line_of_status outcome (endings.Absent file) is = ap outcome_line is
line_of_status outcome endings.Device is = refl
line_of_status outcome (endings.BadFile file fault) is = ap outcome_line is
line_of_status outcome (endings.Missing lack) is = ap outcome_line is
line_of_status outcome (endings.FloatCast owner member) is = ap outcome_line is
line_of_status outcome (endings.PastLimit quantity count) is = ap outcome_line is
line_of_status outcome endings.Sink is = sink_line outcome is

-- a part of the effect's line, and then what is reported
put_lines : (outcome : Result Effect Ending) (e : Ending) (status puts1 puts2 puts : ℕ) (w w1 w2 : Option Text) → puts ≤ puts1 → IsEndingOf outcome e → GrowsByPrefix w (own_text outcome) w1 → Reports e status puts1 puts2 w1 w2
    → PutsLines outcome status puts puts2 w w2
put_lines outcome e status puts1 puts2 puts w w1 w2 later checked own (inr none) = record {
  own = own.0;
  told = 0;
  lines = grown_twice (take own.0 (own_text outcome)) [] w w1 w2 own.1 (same_grown w1 w2 none.1);
  whole = inl none.0;
}
put_lines outcome e status puts1 puts2 puts w w1 w2 later checked own (inl is) = by_whole is.1.whole
  where
    line : ending_line outcome status ≡ fault_line e
    line = ap (ending_line outcome) is.0 ∙ line_of_status outcome e checked

    by_whole : Rose puts1 puts2 ⊎ Grows w1 (fault_line e) w2 → PutsLines outcome status puts puts2 w w2
    by_whole (inl rose) = record {
      own = own.0;
      told = is.1.part.0;
      lines = grown_twice (take own.0 (own_text outcome)) (take is.1.part.0 (ending_line outcome status)) w w1 w2 own.1 (subst (λ x. Grows w1 (take is.1.part.0 x) w2) (sym line) is.1.part.1);
      whole = inr (inl (omega (arith, rose, later)));
    }
    by_whole (inr grown) = record {
      own = own.0;
      told = length (ending_line outcome status);
      lines = grown_twice (take own.0 (own_text outcome)) (take (length (ending_line outcome status)) (ending_line outcome status)) w w1 w2 own.1 (subst (λ x. Grows w1 x w2) (sym line ∙ sym (take_all (length (ending_line outcome status)) (ending_line outcome status) (omega arith))) grown);
      whole = inr (inr (omega arith));
    }

-- a sink that failed has its line put, which is empty
pub sink_reports : (puts : ℕ) (w : Option Text) → Reports endings.Sink (status_of endings.Sink) puts puts w w
unfolding fault_line
sink_reports puts w = inl (refl, record { part = (0, same_grown w w refl); whole = inr (same_grown w w refl) })

-- the line of a file that isn't there, behind what was put before
absent_told : (m : Meaning) (file own : List ℕ) (puts puts1 puts2 : ℕ) (w w1 w2 : Option Text) → m.may_miss file → Grows w own w1 → puts ≤ puts1 → PutsEnding (endings.Absent file) puts1 puts2 w1 w2
    → TellsAbsent m puts puts2 w w2
absent_told m file own puts puts1 puts2 w w1 w2 missed before later line = by_whole line.whole
  where
    text : Text
    text = fault_line (endings.Absent file)

    by_whole : Rose puts1 puts2 ⊎ Grows w1 text w2 → TellsAbsent m puts puts2 w w2
    by_whole (inl rose) = record {
      file = file;
      missed = missed;
      own = own;
      told = line.part.0;
      line = grown_twice own (take line.part.0 text) w w1 w2 before line.part.1;
      whole = inl (omega (arith, rose, later));
    }
    by_whole (inr grown) = record {
      file = file;
      missed = missed;
      own = own;
      told = length text;
      line = grown_twice own (take (length text) text) w w1 w2 before (subst (λ x. Grows w1 x w2) (sym (take_all (length text) text (omega arith))) grown);
      whole = inr (omega arith);
    }

tells_absent : (e : Ending) (m : Meaning) (own : List ℕ) (status puts puts1 puts2 : ℕ) (w w1 w2 : Option Text) → MayMiss m.may_miss e → Grows w own w1 → puts ≤ puts1 → Reports e status puts1 puts2 w1 w2
    → status ≡ 4 → TellsAbsent m puts puts2 w w2
tells_absent e m own status puts puts1 puts2 w w1 w2 missed before later (inr none) four = absurd (omega (arith, none.0, four))
tells_absent endings.NoCommand m own status puts puts1 puts2 w w1 w2 missed before later (inl is) four = absurd (omega (arith, is.0, four))
tells_absent endings.NoMemory m own status puts puts1 puts2 w w1 w2 missed before later (inl is) four = absurd (omega (arith, is.0, four))
tells_absent (endings.Absent file) m own status puts puts1 puts2 w w1 w2 missed before later (inl is) four = absent_told m file own puts puts1 puts2 w w1 w2 missed before later is.1
tells_absent endings.Device m own status puts puts1 puts2 w w1 w2 missed before later (inl is) four = absurd (omega (arith, is.0, four))
tells_absent (endings.BadFile file fault) m own status puts puts1 puts2 w w1 w2 missed before later (inl is) four = absurd (omega (arith, is.0, four))
tells_absent (endings.Missing lack) m own status puts puts1 puts2 w w1 w2 missed before later (inl is) four = absurd (omega (arith, is.0, four))
tells_absent (endings.FloatCast owner member) m own status puts puts1 puts2 w w1 w2 missed before later (inl is) four = absurd (omega (arith, is.0, four))
tells_absent (endings.PastLimit quantity count) m own status puts puts1 puts2 w w1 w2 missed before later (inl is) four = absurd (omega (arith, is.0, four))
tells_absent endings.Sink m own status puts puts1 puts2 w w1 w2 missed before later (inl is) four = absurd (omega (arith, is.0, four))

-- ---- what is left

device_status : (e : Ending) (status : ℕ) → e ≡ endings.Device → (status ≡ status_of e) ⊎ (status ≡ 3) → (status ≡ 3) ⊎ (status ≡ 5)
device_status e status is (inl same) = inr (same ∙ ap status_of is)
device_status e status is (inr three) = inl three

device_rose : (e : Ending) (m m' f f' p p' : ℕ) → e ≡ endings.Device → BlamesRisen e m m' f f' p p' → Rose f f'
device_rose e m m' f f' p p' is blames = subst (λ (x : Ending). BlamesRisen x m m' f f' p p') is blames

files_left : (outcome : Result Effect Ending) (held : Held) (held' : Option Held) (e : Ending) (status m m' f f' p p' : ℕ) → IsLeft outcome held held' e → (status ≡ status_of e) ⊎ (status ≡ 3) → BlamesRisen e m m' f f' p p'
    → LeavesFiles outcome status held held' f f'
files_left outcome held held' e status m m' f f' p p' (inl same) reports blames = inl same
files_left outcome held held' e status m m' f f' p p' (inr failed) reports blames =
    inr (device_status e status failed.0 reports, device_rose e m m' f f' p p' failed.0 blames, failed.1)

history_left : (names : List (List ℕ)) (e : Ending) (status m m' f f' p p' : ℕ) (past past' : History) → IsHistoryLeft names e past past' → (status ≡ status_of e) ⊎ (status ≡ 3) → BlamesRisen e m m' f f' p p'
    → Writes names status past past' f f'
history_left names e status m m' f f' p p' past past' (inl staged) reports blames =
    let bounds = not_zero e status reports in inr (inl (λ zero. absurd (omega (arith, bounds.0, zero)), staged))
history_left names e status m m' f f' p p' past past' (inr failed) reports blames =
    inr (inr (device_status e status failed.0 reports, device_rose e m m' f f' p p' failed.0 blames, failed.1))

-- ---- a run

module _ {S O : Type 0} (g : Ghosts S) (h : SinkGhosts O) (m : Meaning) (s s1 : S) (o o1 o2 : O) (status : ℕ) where
  -- how the run ends
  abbrev End : Done → Type 0
  End done = Concludes done status (h.faults o1) (h.faults o2) (h.written o1) (h.written o2)

  pub run_room : (done : Done) → Obeys g h m s s1 o o1 done → g.room s1 ≡ None
  run_room (Ok u) does = does.room
  run_room (Err e) ended = ended.room

  pub run_checked : (done : Done) → Obeys g h m s s1 o o1 done → End done → IfSome (g.told s) (λ t. IsStatusOf (m.outcome t.held) status)
  run_checked (Ok u) does ends = IfSome_then (g.told s) does.done (λ t done. done_checked (m.outcome t.held) t.held _ _ _ status ends.0 done.1)
  run_checked (Err e) ended ends = IfSome_then (g.told s) ended.ended (λ t is. checked_of (m.outcome t.held) e status is.checked (reported e status _ _ _ _ ends))

  pub run_complete : (done : Done) → Obeys g h m s s1 o o1 done → End done → h.faults o1 ≤ h.faults o2
      → IfSome (g.told s) (λ t. IsOk (m.outcome t.held) → ¬ Rose (g.faults s) (g.faults s1) → ¬ Rose (h.faults o) (h.faults o2) → (status ≡ 0) ⊎ (status ≡ 3))
  run_complete (Ok u) does ends later = IfSome_then (g.told s) does.done (λ t done ok quiet taken. inl ends.0)
  run_complete (Err e) ended ends later =
      IfSome_then (g.told s) ended.ended
      (λ t is ok quiet taken. complete_of (m.outcome t.held) e status _ _ _ _ _ _ is.checked ended.blamed.blamed (reported e status _ _ _ _ ends) ok quiet (λ rose. taken (rose_on _ _ _ rose later)))

  pub run_done : (done : Done) → Obeys g h m s s1 o o1 done → End done
      → IfSome (g.told s) (λ t. status ≡ 0 → IsDone (m.outcome t.held) t.held (held_of (g.told s1)) (h.written o) (h.written o2))
  run_done (Ok u) does ends = IfSome_then (g.told s) does.done (λ t done zero. subst (λ (w : Option Text). IsDone (m.outcome t.held) t.held (held_of (g.told s1)) (h.written o) w) (sym ends.2) done.1)
  run_done (Err e) ended ends =
      IfSome_then (g.told s) ended.ended (λ t is zero. absurd (let bounds = not_zero e status (reported e status _ _ _ _ ends) in omega (arith, bounds.0, zero)))

  pub run_accomplishes : IsLawful m → (done : Done) → Obeys g h m s s1 o o1 done → End done
      → IfSome (g.told s) (λ t. status ≡ 0 → m.accomplishes t.held (held_of (g.told s1)) (h.written o) (h.written o2))
  run_accomplishes law (Ok u) does ends =
      IfSome_then (g.told s) does.done
      (λ t done zero. subst (λ (w : Option Text). m.accomplishes t.held (held_of (g.told s1)) (h.written o) w) (sym ends.2) (law.accomplished t.held _ _ _ done.0 done.1))
  run_accomplishes law (Err e) ended ends =
      IfSome_then (g.told s) ended.ended (λ t is zero. absurd (let bounds = not_zero e status (reported e status _ _ _ _ ends) in omega (arith, bounds.0, zero)))

  pub run_left : (done : Done) → Obeys g h m s s1 o o1 done → End done
      → IfSome (g.told s) (λ t. status ≢ 0 → LeavesFiles (m.outcome t.held) status t.held (held_of (g.told s1)) (g.faults s) (g.faults s1))
  run_left (Ok u) does ends = IfSome_then (g.told s) does.done (λ t done other. absurd (other ends.0))
  run_left (Err e) ended ends =
      IfSome_then (g.told s) ended.ended (λ t is other. files_left (m.outcome t.held) t.held _ e status _ _ _ _ _ _ is.left (reported e status _ _ _ _ ends) ended.blamed.blamed)

  pub run_lines : (done : Done) → Obeys g h m s s1 o o1 done → End done
      → IfSome (g.told s) (λ t. status ≢ 0 → PutsLines (m.outcome t.held) status (h.faults o) (h.faults o2) (h.written o) (h.written o2))
  run_lines (Ok u) does ends = IfSome_then (g.told s) does.done (λ t done other. absurd (other ends.0))
  run_lines (Err e) ended ends =
      IfSome_then (g.told s) ended.ended (λ t is other. put_lines (m.outcome t.held) e status _ _ _ _ _ _ ended.blamed.puts is.checked is.part ends)

  pub run_writes : (done : Done) → Obeys g h m s s1 o o1 done → End done → Writes m.writes status (g.history s) (g.history s1) (g.faults s) (g.faults s1)
  run_writes (Ok u) does ends = inl (ends.0, does.history)
  run_writes (Err e) ended ends = history_left m.writes e status _ _ _ _ _ _ _ _ ended.history (reported e status _ _ _ _ ends) ended.blamed.blamed

  blamed_reported : (e : Ending) → IsBlamed g h s s1 o o1 e → (status ≡ status_of e) ⊎ (status ≡ 3) → h.faults o1 ≤ h.faults o2 → IsBlamedFor g h s s1 o o2 status
  blamed_reported e blamed (inr three) later = record {
    quiet = λ zero. absurd (omega (arith, three, zero));
    absent = λ four. absurd (omega (arith, three, four));
    device = λ five. absurd (omega (arith, three, five));
    sink = λ ten. absurd (omega (arith, three, ten));
  }
  blamed_reported e blamed (inl same) later =
      let blames = blamed_for e _ _ _ _ _ _ blamed.blamed in
      record {
        quiet = λ zero. absurd (let bounds = status_bounds e in omega (arith, bounds.0, same, zero));
        absent = λ four. blames.0 (sym same ∙ four);
        device = λ five. blames.1 (sym same ∙ five);
        sink = λ ten. rose_on _ _ _ (blames.2 (sym same ∙ ten)) later;
      }

  pub run_blames : (done : Done) → Obeys g h m s s1 o o1 done → End done → h.faults o1 ≤ h.faults o2 → IsBlamedFor g h s s1 o o2 status
  run_blames (Ok u) does ends later = record {
    quiet = λ zero. (does.quiet, ends.1 ∙ does.puts);
    absent = λ four. absurd (omega (arith, ends.0, four));
    device = λ five. absurd (omega (arith, ends.0, five));
    sink = λ ten. absurd (omega (arith, ends.0, ten));
  }
  run_blames (Err e) ended ends later = blamed_reported e ended.blamed (reported e status _ _ _ _ ends) later

  pub run_absent : (done : Done) → Obeys g h m s s1 o o1 done → End done → status ≡ 4 → TellsAbsent m (h.faults o) (h.faults o2) (h.written o) (h.written o2)
  run_absent (Ok u) does ends four = absurd (omega (arith, ends.0, four))
  run_absent (Err e) ended ends four = tells_absent e m ended.put.0 status _ _ _ _ _ _ ended.missed ended.put.1 ended.blamed.puts ends four

-- ---- words that spell no command

usage_of : (done : Done) (status puts1 puts2 : ℕ) (w1 w2 : Option Text) → Concludes done status puts1 puts2 w1 w2 → status ≡ 2 → done ≡ Err endings.NoCommand
usage_of (Ok u) status puts1 puts2 w1 w2 ends two = absurd (omega (arith, ends.0, two))
usage_of (Err e) status puts1 puts2 w1 w2 ends two =
    elim (reported e status puts1 puts2 w1 w2 ends) [ inl same ↦ ap Err (of_usage e (sym same ∙ two)) | inr three ↦ absurd (omega (arith, three, two)) ]

run_bounds : (done : Done) (status puts1 puts2 : ℕ) (w1 w2 : Option Text) → Concludes done status puts1 puts2 w1 w2 → (status ≡ 0) ⊎ ((2 ≤ status) × (status ≤ 10))
run_bounds (Ok u) status puts1 puts2 w1 w2 ends = inl ends.0
run_bounds (Err e) status puts1 puts2 w1 w2 ends = inr (not_zero e status (reported e status puts1 puts2 w1 w2 ends))

no_usage : (command : Option Command) (done : Done) → IsUsage command done → done ≡ Err endings.NoCommand → command ≡ None
no_usage None done usage is = refl
no_usage (Some command) done usage is = absurd (subst (IsUsage (Some command)) is usage)

unspelled_of : (done : Done) (status puts1 puts2 : ℕ) (w1 w2 : Option Text) → Concludes done status puts1 puts2 w1 w2 → (done ≡ Err endings.NoCommand) ⊎ (done ≡ Err endings.NoMemory) → (status ≡ 2) ⊎ (status ≡ 3)
unspelled_of done status puts1 puts2 w1 w2 ends (inl is) = reported endings.NoCommand status puts1 puts2 w1 w2 (subst (λ (d : Done). Concludes d status puts1 puts2 w1 w2) is ends)
unspelled_of done status puts1 puts2 w1 w2 ends (inr is) =
    elim (reported endings.NoMemory status puts1 puts2 w1 w2 (subst (λ (d : Done). Concludes d status puts1 puts2 w1 w2) is ends)) [ inl same ↦ inr same | inr three ↦ inr three ]

pub run_status : (command : Option Command) (done : Done) (status puts1 puts2 : ℕ) (w1 w2 : Option Text) → IsUsage command done → Concludes done status puts1 puts2 w1 w2 → IsStatus command status
run_status command done status puts1 puts2 w1 w2 usage ends = record {
  bounds = run_bounds done status puts1 puts2 w1 w2 ends;
  usage = λ two. no_usage command done usage (usage_of done status puts1 puts2 w1 w2 ends two);
  unspelled = λ none. unspelled_of done status puts1 puts2 w1 w2 ends (subst (λ (c : Option Command). IsUsage c done) none usage);
}
