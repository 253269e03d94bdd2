-- What a command stages, commits or prints makes what its function promises.
use Rattle.std.proofs.Common.{◌≡◌, ◌⊎◌, inl, inr, ℕ, List, [], ◌∷◌, ◌++◌, take, Option, Some, None, Result, Ok, Err, refl, sym, ap, subst, ◌∙◌, arith, option_map}
use Rattle.std.specs.Prelude.{IfSome}
use Rattle.bl_commands.specs.declared.command.Command.{Command}
use Rattle.bl_commands.specs.declared.ending.Ending.{Ending}
use Rattle.bl_commands.specs.declared.ending.Ending.TheVariants as endings
use Rattle.bl_commands.specs.Texts.{Text}
use Rattle.bl_shelf.specs.Calls.{Keeps, IsQuiet}
use Rattle.bl_shelf.specs.Causes.{HasRisen, Rose}
use Rattle.bl_shelf.specs.declared.shelf.ShelfFault.{ShelfFault}
use Rattle.bl_shelf.specs.declared.shelf.ShelfFault.TheVariants as shelf
use Rattle.bl_shelf.specs.History.{History, MayBeCommitted, with_stage, with_commit}
use Rattle.bl_shelf.specs.Told.{Told, Held, held_of, abandon_in, commit_in}
use Rattle.bl_shelf.specs.Written.{Grows, GrowsByPrefix}
use Rattle.bl_shelf.specs.declared.shelf.Shelf.{Ghosts}
use Rattle.bl_shelf.specs.declared.sink.Sink.{Ghosts as SinkGhosts}
use Rattle.bl_run.specs.Blame.{BlamesRisen, IsShelfBlamed, IsEndingOf, IsOfOutside, IsOfPut, IsUsage, MayMiss}
use Rattle.bl_run.specs.Meaning.{Effect, Meaning, IsDone, no_meaning}
use Rattle.bl_run.specs.Obeying.{IsHistoryLeft, IsLeft, IsEnded, Does, Ends, Obeys, own_text, with_files}
use Rattle.bl_run.specs.Printing.{IsCut, Puts}
use Rattle.bl_run.specs.Staging.{IsStaged, IsReady, IsUnready, IsCommitDone, IsCommitFailed, Commits}
use Rattle.std.proofs.lemmas.List.{append-nil}
use Rattle.bl_run.proofs.Written.{same_grown}

-- ---- blame

-- what doesn't blame a sink blames the same whatever its count is
pub blames_shelf : (e : Ending) (misses misses' faults faults' puts puts' : ℕ) → BlamesRisen e misses misses' faults faults' 0 0 → BlamesRisen e misses misses' faults faults' puts puts'
blames_shelf endings.NoCommand m m' f f' p p' is = tt
blames_shelf endings.NoMemory m m' f f' p p' is = tt
blames_shelf (endings.Absent file) m m' f f' p p' is = is
blames_shelf endings.Device m m' f f' p p' is = is
blames_shelf (endings.BadFile file fault) m m' f f' p p' is = tt
blames_shelf (endings.Missing lack) m m' f f' p p' is = tt
blames_shelf (endings.FloatCast owner member) m m' f f' p p' is = tt
blames_shelf (endings.PastLimit quantity count) m m' f f' p p' is = tt
blames_shelf endings.Sink m m' f f' p p' is = absurd (omega (arith, is))

-- what comes of a put blames the same whatever a shelf's counts are
pub blames_put : (e : Ending) (misses misses' faults faults' puts puts' : ℕ) → BlamesRisen e 0 0 0 0 puts puts' → BlamesRisen e misses misses' faults faults' puts puts'
blames_put endings.NoCommand m m' f f' p p' is = tt
blames_put endings.NoMemory m m' f f' p p' is = tt
blames_put (endings.Absent file) m m' f f' p p' is = absurd (omega (arith, is))
blames_put endings.Device m m' f f' p p' is = absurd (omega (arith, is))
blames_put (endings.BadFile file fault) m m' f f' p p' is = tt
blames_put (endings.Missing lack) m m' f f' p p' is = tt
blames_put (endings.FloatCast owner member) m m' f f' p p' is = tt
blames_put (endings.PastLimit quantity count) m m' f f' p p' is = tt
blames_put endings.Sink m m' f f' p p' is = is

-- memory, a device or the sink may end what has an effect
pub outside_ends : (outcome : Result Effect Ending) (effect : Effect) (e : Ending) → outcome ≡ Ok effect → IsOfOutside e → IsEndingOf outcome e
outside_ends outcome effect endings.NoCommand known outside = absurd outside
outside_ends outcome effect endings.NoMemory known outside = tt
outside_ends outcome effect (endings.Absent file) known outside = absurd outside
outside_ends outcome effect endings.Device known outside = tt
outside_ends outcome effect (endings.BadFile file fault) known outside = absurd outside
outside_ends outcome effect (endings.Missing lack) known outside = absurd outside
outside_ends outcome effect (endings.FloatCast owner member) known outside = absurd outside
outside_ends outcome effect (endings.PastLimit quantity count) known outside = absurd outside
outside_ends outcome effect endings.Sink known outside = rw known refl

-- they say of no file that it isn't there
pub outside_misses : (may_miss : List ℕ → Type 0) (e : Ending) → IsOfOutside e → MayMiss may_miss e
outside_misses may_miss endings.NoCommand outside = tt
outside_misses may_miss endings.NoMemory outside = tt
outside_misses may_miss (endings.Absent file) outside = absurd outside
outside_misses may_miss endings.Device outside = tt
outside_misses may_miss (endings.BadFile file fault) outside = tt
outside_misses may_miss (endings.Missing lack) outside = tt
outside_misses may_miss (endings.FloatCast owner member) outside = tt
outside_misses may_miss (endings.PastLimit quantity count) outside = tt
outside_misses may_miss endings.Sink outside = tt

put_outside : (e : Ending) → IsOfPut e → IsOfOutside e
put_outside endings.NoCommand is = is
put_outside endings.NoMemory is = tt
put_outside (endings.Absent file) is = is
put_outside endings.Device is = tt
put_outside (endings.BadFile file fault) is = is
put_outside (endings.Missing lack) is = is
put_outside (endings.FloatCast owner member) is = is
put_outside (endings.PastLimit quantity count) is = is
put_outside endings.Sink is = tt

-- ---- a commit that failed

-- what it leaves is blamed on a device
pub device_left : (told told' : Option Told) (history history' : History) → MayBeCommitted told told' history history'
    → ((told' ≡ option_map abandon_in told) × (history' ≡ history))
    ⊎ ((endings.Device ≡ endings.Device) × (told' ≡ option_map commit_in told) × (history' ≡ with_commit history))
device_left told told' history history' (inl forgotten) = inl forgotten
device_left told told' history history' (inr failed) = inr (refl, failed.0, failed.1)

device_rose_of : (fault : ShelfFault) (faults faults' misses misses' : ℕ) → fault ≡ shelf.Failed → HasRisen fault faults faults' misses misses' → Rose faults faults'
device_rose_of fault faults faults' misses misses' is rose = subst (λ (e : ShelfFault). HasRisen e faults faults' misses misses') is rose

-- an answer of a call that has no value
abbrev the_error : ShelfFault → Result (Unit {0}) ShelfFault
the_error fault = Err fault

-- the count of faults has risen
pub device_rose : (fault : ShelfFault) (faults faults' misses misses' : ℕ) → the_error fault ≡ Err shelf.Failed → HasRisen fault faults faults' misses misses' → Rose faults faults'
device_rose fault faults faults' misses misses' is rose = let same : fault ≡ shelf.Failed = cc in device_rose_of fault faults faults' misses misses' same rose

-- ---- what is staged and committed, where the shelf tells

done_of : (m : Meaning) (told told1 told2 : Option Told) (name line : List ℕ) (w w' : Option Text)
    → IfSome told (λ t. IsStaged m t name line told1) → told2 ≡ option_map commit_in told1 → Grows w line w'
    → IfSome told (λ t. m.reads_bytes t.held × IsDone (m.outcome t.held) t.held (held_of told2) w w')
done_of m None told1 told2 name line w w' staged committed grows = tt
done_of m (Some t) told1 told2 name line w w' staged committed grows =
    (staged.read, rw staged.known (ap held_of committed ∙ ap (λ (x : Option Told). held_of (option_map commit_in x)) staged.staged, grows))

-- what a commit that failed leaves
abbrev LeftTold : Option Told → Option Told → Ending → Type 0
LeftTold told1 told2 e = (told2 ≡ option_map abandon_in told1) ⊎ ((e ≡ endings.Device) × (told2 ≡ option_map commit_in told1))

left_of : (m : Meaning) (t : Told) (told1 told2 : Option Told) (name line : List ℕ) (e : Ending) → IsStaged m t name line told1 → LeftTold told1 told2 e
    → IsLeft (m.outcome t.held) t.held (held_of told2) e
left_of m t told1 told2 name line e staged (inl forgotten) =
    inl (ap held_of forgotten ∙ ap (λ (x : Option Told). held_of (option_map abandon_in x)) staged.staged)
left_of m t told1 told2 name line e staged (inr failed) =
    inr (failed.0, rw staged.known (ap held_of failed.1 ∙ ap (λ (x : Option Told). held_of (option_map commit_in x)) staged.staged))

ended_of : (m : Meaning) (told told1 told2 : Option Told) (name line : List ℕ) (w w' : Option Text) (e : Ending)
    → IfSome told (λ t. IsStaged m t name line told1) → LeftTold told1 told2 e → GrowsByPrefix w line w' → IsOfOutside e
    → IfSome told (λ t. IsEnded (m.outcome t.held) t.held (held_of told2) w w' e)
ended_of m None told1 told2 name line w w' e staged left part outside = tt
ended_of m (Some t) told1 told2 name line w w' e staged left part outside = record {
  checked = outside_ends (m.outcome t.held) _ e staged.known outside;
  left = left_of m t told1 told2 name line e staged left;
  part = rw staged.known part;
}

-- ---- what nothing was put of

nothing_put : (w : Option Text) (text : Text) → GrowsByPrefix w text w
nothing_put w text = (0, same_grown w w refl)

unready_of : (outcome : Held → Result Effect Ending) (told told' : Option Told) (w : Option Text) (e : Ending) → held_of told' ≡ held_of told → IfSome told (λ t. IsEndingOf (outcome t.held) e)
    → IfSome told (λ t. IsEnded (outcome t.held) t.held (held_of told') w w e)
unready_of outcome None told' w e same checked = tt
unready_of outcome (Some t) told' w e same checked = record {
  checked = checked;
  left = inl same;
  part = nothing_put w (own_text (outcome t.held));
}

module _ {S O : Type 0} (g : Ghosts S) (h : SinkGhosts O) (m : Meaning) (name : List ℕ) (writes : m.writes ≡ name ∷ []) (s s1 : S) (o : O) where
  -- the history of one file that is staged and committed
  written_history : (s2 : S) → g.history s1 ≡ with_stage name (g.history s) → g.history s2 ≡ with_commit (g.history s1) → g.history s2 ≡ with_files m.writes (g.history s)
  written_history s2 staged committed =
      committed ∙ ap with_commit staged ∙ ap (λ (names : List (List ℕ)). with_files names (g.history s)) (sym writes)

  staged_history : (e : Ending) → g.history s1 ≡ with_stage name (g.history s) → IsHistoryLeft m.writes e (g.history s) (g.history s1)
  staged_history e staged =
      inl (1, staged ∙ ap (λ (names : List (List ℕ)). record { staged = (g.history s).staged ++ take 1 names; commits = (g.history s).commits }) (sym writes))

  -- a file that is ready and committed is done
  ready_committed : (s2 : S) (o' : O) (line : Text) → IsReady g m name s s1 line → IsCommitDone g h line s1 s2 o o' → Does g h m s s2 o o'
  ready_committed s2 o' line ready done = record {
    room = done.room;
    history = written_history s2 ready.history done.history;
    quiet = (done.quiet.0 ∙ ready.quiet.0, done.quiet.1 ∙ ready.quiet.1);
    puts = done.puts;
    done = done_of m (g.told s) (g.told s1) (g.told s2) name line (h.written o) (h.written o') ready.told done.told done.line_put;
  }

  left_told : (s2 : S) (e : Ending) → ((g.told s2 ≡ option_map abandon_in (g.told s1)) × (g.history s2 ≡ g.history s1))
      ⊎ ((e ≡ endings.Device) × (g.told s2 ≡ option_map commit_in (g.told s1)) × (g.history s2 ≡ with_commit (g.history s1))) → LeftTold (g.told s1) (g.told s2) e
  left_told s2 e (inl forgotten) = inl forgotten.0
  left_told s2 e (inr failed) = inr (failed.0, failed.1)

  left_history : (s2 : S) (e : Ending) → g.history s1 ≡ with_stage name (g.history s) → ((g.told s2 ≡ option_map abandon_in (g.told s1)) × (g.history s2 ≡ g.history s1))
      ⊎ ((e ≡ endings.Device) × (g.told s2 ≡ option_map commit_in (g.told s1)) × (g.history s2 ≡ with_commit (g.history s1))) → IsHistoryLeft m.writes e (g.history s) (g.history s2)
  left_history s2 e staged (inl forgotten) = subst (IsHistoryLeft m.writes e (g.history s)) (sym forgotten.1) (staged_history e staged)
  left_history s2 e staged (inr failed) = inr (failed.0, written_history s2 staged failed.2)

  -- one that is ready and isn't committed ends so
  ready_uncommitted : (s2 : S) (o' : O) (line : Text) (e : Ending) → IsReady g m name s s1 line → IsCommitFailed g h line s1 s2 o o' e → Ends g h m s s2 o o' e
  ready_uncommitted s2 o' line e ready not = record {
    room = not.room;
    history = left_history s2 e ready.history not.left;
    blamed = record {
      misses = let quiet = ready.quiet.1 in let later = not.blamed.misses in omega (arith, quiet, later);
      faults = let quiet = ready.quiet.0 in let later = not.blamed.faults in omega (arith, quiet, later);
      puts = not.blamed.puts;
      blamed =
          subst (λ (n : ℕ). BlamesRisen e n (g.misses s2) (g.faults s) (g.faults s2) (h.faults o) (h.faults o')) ready.quiet.1
          (subst (λ (n : ℕ). BlamesRisen e (g.misses s1) (g.misses s2) n (g.faults s2) (h.faults o) (h.faults o')) ready.quiet.0 not.blamed.blamed);
    };
    missed = outside_misses m.may_miss e not.outside;
    put = (take not.part.0 line, not.part.1);
    ended = ended_of m (g.told s) (g.told s1) (g.told s2) name line (h.written o) (h.written o') e ready.told (left_told s2 e not.left) not.part not.outside;
  }

  -- so a command is done or ends by its commit
  committed_obeys : {T : Type 0} (s2 : S) (o' : O) (line : Text) (r : Result T Ending) → IsReady g m name s s1 line → Commits g h line s1 s2 o o' r → Obeys g h m s s2 o o' r
  committed_obeys s2 o' line (Ok x) ready commits = ready_committed s2 o' line ready commits
  committed_obeys s2 o' line (Err e) ready commits = ready_uncommitted s2 o' line e ready commits

  pub written_obeys : {T : Type 0} (s2 : S) (o' : O) (line given : Text) (r : Result T Ending) → given ≡ line → IsReady g m name s s1 line → Commits g h given s1 s2 o o' r → Obeys g h m s s2 o o' r
  written_obeys s2 o' line given r is ready commits = committed_obeys s2 o' line r ready (subst (λ (x : Text). Commits g h x s1 s2 o o' r) is commits)

  unready_history : (e : Ending) → (g.history s1 ≡ g.history s) ⊎ (g.history s1 ≡ with_stage name (g.history s)) → IsHistoryLeft m.writes e (g.history s) (g.history s1)
  unready_history e (inl same) = inl (0, same ∙ nothing_staged)
    where
      nothing_staged : g.history s ≡ record { staged = (g.history s).staged ++ []; commits = (g.history s).commits }
      nothing_staged = sym (λ i. record { staged = append-nil (g.history s).staged i; commits = (g.history s).commits })
  unready_history e (inr staged) = staged_history e staged

  -- one that isn't ready ends so, and nothing is put
  pub unready_ends : (e : Ending) → IsUnready g m name s s1 e → Ends g h m s s1 o o e
  unready_ends e not = record {
    room = not.room;
    history = unready_history e not.history;
    blamed = record {
      misses = not.blamed.misses;
      faults = not.blamed.faults;
      puts = omega arith;
      blamed = blames_shelf e _ _ _ _ _ _ not.blamed.blamed;
    };
    missed = not.missed;
    put = ([], same_grown _ _ refl);
    ended = unready_of m.outcome (g.told s) (g.told s1) (h.written o) e not.held not.checked;
  }

-- ---- what ends before anything is done

module _ {S O : Type 0} (g : Ghosts S) (h : SinkGhosts O) (m : Meaning) (s : S) (o : O) (empty : g.room s ≡ None) where
  same_history : (e : Ending) → IsHistoryLeft m.writes e (g.history s) (g.history s)
  same_history e = inl (0, sym (λ i. record { staged = append-nil (g.history s).staged i; commits = (g.history s).commits }))

  -- an ending that blames nobody, and is the outcome's or memory's
  ends_at_once : (e : Ending) → ((misses faults puts : ℕ) → BlamesRisen e misses misses faults faults puts puts) → MayMiss m.may_miss e → IfSome (g.told s) (λ t. IsEndingOf (m.outcome t.held) e)
      → Ends g h m s s o o e
  ends_at_once e blames missed checked = record {
    room = empty;
    history = same_history e;
    blamed = record { misses = omega arith; faults = omega arith; puts = omega arith; blamed = blames _ _ _ };
    missed = missed;
    put = ([], same_grown _ _ refl);
    ended = unready_of m.outcome (g.told s) (g.told s) (h.written o) e refl checked;
  }

  any_told : (told : Option Told) → IfSome told (λ t. IsEndingOf (m.outcome t.held) endings.NoMemory)
  any_told None = tt
  any_told (Some t) = tt

  -- without memory any command ends
  pub memory_ends : Ends g h m s s o o endings.NoMemory
  memory_ends = ends_at_once endings.NoMemory (λ misses faults puts. tt) tt (any_told (g.told s))

  none_told : (told : Option Told) → m ≡ no_meaning → IfSome told (λ t. IsEndingOf (m.outcome t.held) endings.NoCommand)
  none_told None is = tt
  none_told (Some t) is = subst (λ (x : Meaning). IsEndingOf (x.outcome t.held) endings.NoCommand) (sym is) refl

  -- and words that spell none
  pub none_ends : m ≡ no_meaning → Ends g h m s s o o endings.NoCommand
  none_ends is = ends_at_once endings.NoCommand (λ misses faults puts. tt) tt (none_told (g.told s) is)

-- ---- a text that is put, by a command that writes no file

printed_done : (m : Meaning) (told : Option Told) (text : Text) (w w' : Option Text) → IfSome told (λ t. m.reads_bytes t.held × (m.outcome t.held ≡ Ok (record { file = None; text = text }))) → Grows w text w'
    → IfSome told (λ t. m.reads_bytes t.held × IsDone (m.outcome t.held) t.held (held_of told) w w')
printed_done m None text w w' known grows = tt
printed_done m (Some t) text w w' known grows = (known.0, rw known.1 (refl, grows))

printed_ended : (m : Meaning) (told : Option Told) (text : Text) (w w' : Option Text) (e : Ending) → IfSome told (λ t. m.reads_bytes t.held × (m.outcome t.held ≡ Ok (record { file = None; text = text })))
    → GrowsByPrefix w text w' → IsOfOutside e → IfSome told (λ t. IsEnded (m.outcome t.held) t.held (held_of told) w w' e)
printed_ended m None text w w' e known part outside = tt
printed_ended m (Some t) text w w' e known part outside = record {
  checked = outside_ends (m.outcome t.held) _ e known.1 outside;
  left = inl refl;
  part = rw known.1 part;
}

module _ {S O : Type 0} (g : Ghosts S) (h : SinkGhosts O) (m : Meaning) (none : m.writes ≡ []) (s s1 : S) (o : O) (empty : g.room s ≡ None) (keeps : Keeps g s s1) where
  kept_history : g.history s1 ≡ with_files m.writes (g.history s)
  kept_history = keeps.history ∙ ap (λ (names : List (List ℕ)). with_files names (g.history s)) (sym none)

  unwritten_history : (e : Ending) → IsHistoryLeft m.writes e (g.history s) (g.history s1)
  unwritten_history e = subst (IsHistoryLeft m.writes e (g.history s)) (sym keeps.history) (same_history g h m s o empty e)

  -- what is known of the outcome of an input that was read, and the text is put: that is all
  printed_does : (o' : O) (text : Text) → IfSome (g.told s) (λ t. m.reads_bytes t.held × (m.outcome t.held ≡ Ok (record { file = None; text = text }))) → IsQuiet g s s1
      → Grows (h.written o) text (h.written o') → h.faults o' ≡ h.faults o → Does g h m s s1 o o'
  printed_does o' text known quiet grows puts = record {
    room = keeps.room ∙ empty;
    history = kept_history;
    quiet = quiet;
    puts = puts;
    done = subst (λ (told : Option Told). IfSome (g.told s) (λ t. m.reads_bytes t.held × IsDone (m.outcome t.held) t.held (held_of told) (h.written o) (h.written o'))) (sym keeps.told)
        (printed_done m (g.told s) text (h.written o) (h.written o') known grows);
  }

  -- or it is cut
  printed_ends : (o' : O) (text : Text) (e : Ending) → IfSome (g.told s) (λ t. m.reads_bytes t.held × (m.outcome t.held ≡ Ok (record { file = None; text = text }))) → IsCut h o o' text e → Ends g h m s s1 o o' e
  printed_ends o' text e known cut = record {
    room = keeps.room ∙ empty;
    history = unwritten_history e;
    blamed = record { misses = keeps.misses; faults = keeps.faults; puts = cut.puts; blamed = blames_put e _ _ _ _ _ _ cut.blamed };
    missed = outside_misses m.may_miss e (put_outside e cut.of_put);
    put = (take cut.part.0 text, cut.part.1);
    ended = subst (λ (told : Option Told). IfSome (g.told s) (λ t. IsEnded (m.outcome t.held) t.held (held_of told) (h.written o) (h.written o') e)) (sym keeps.told)
        (printed_ended m (g.told s) text (h.written o) (h.written o') e known cut.part (put_outside e cut.of_put));
  }

  pub printed_obeys : {T : Type 0} (o' : O) (text : Text) (r : Result T Ending) → IfSome (g.told s) (λ t. m.reads_bytes t.held × (m.outcome t.held ≡ Ok (record { file = None; text = text }))) → IsQuiet g s s1
      → Puts h o o' text r → Obeys g h m s s1 o o' r
  printed_obeys o' text (Ok x) known quiet puts = printed_does o' text known quiet puts.0 puts.1
  printed_obeys o' text (Err e) known quiet cut = printed_ends o' text e known cut

  unread_ended : (told : Option Told) (w : Option Text) (e : Ending) → IfSome told (λ t. IsEndingOf (m.outcome t.held) e) → IfSome told (λ t. IsEnded (m.outcome t.held) t.held (held_of told) w w e)
  unread_ended None w e checked = tt
  unread_ended (Some t) w e checked = record { checked = checked; left = inl refl; part = nothing_put w (own_text (m.outcome t.held)) }

  -- nothing is put of an input that isn't read
  pub unread_ends : (e : Ending) → IsShelfBlamed g s s1 e → MayMiss m.may_miss e → IfSome (g.told s) (λ t. IsEndingOf (m.outcome t.held) e) → Ends g h m s s1 o o e
  unread_ends e blamed missed checked = record {
    room = keeps.room ∙ empty;
    history = unwritten_history e;
    blamed = record { misses = blamed.misses; faults = blamed.faults; puts = omega arith; blamed = blames_shelf e _ _ _ _ _ _ blamed.blamed };
    missed = missed;
    put = ([], same_grown _ _ refl);
    ended = subst (λ (told : Option Told). IfSome (g.told s) (λ t. IsEnded (m.outcome t.held) t.held (held_of told) (h.written o) (h.written o) e)) (sym keeps.told)
        (unread_ended (g.told s) (h.written o) e checked);
  }

-- ---- usage

-- words that spell no command may say so
pub no_usage : (command : Option Command) → command ≡ None → IsUsage {T = Unit {0}} command (Err endings.NoCommand)
no_usage command none = rw none (inl refl)

-- any words may want memory
pub memory_usage : (command : Option Command) → IsUsage {T = Unit {0}} command (Err endings.NoMemory)
memory_usage None = inr refl
memory_usage (Some command) = tt
