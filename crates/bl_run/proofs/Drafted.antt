-- What is rendered of a draft of an opened input is the effect of a command that writes it, and how a draft isn't staged.
use Rattle.std.proofs.Common.{◌≡◌, ◌⊎◌, ◌<◌, inl, inr, List, [], ◌∷◌, length, ℕ, zero, suc, true, Option, Some, None, Ok, Err, refl, sym, ap, subst, ◌∙◌, arith, option_map}
use Rattle.std.specs.Prelude.{⊤, IfSome, IsSomeAnd, unwrap_or, nat_lt}
use Rattle.std.proofs.lemmas.Bool.{lt-ltb}
use Rattle.std.proofs.Math.Path.{fun_ext}
use Rattle.bl_format.specs.declared.catalogue.Catalogue.{Catalogue}
use Rattle.bl_format.specs.Limits.{most_output_nodes}
use Rattle.bl_format.specs.Nodes.{File}
use Rattle.bl_format.specs.Words.{find_map}
use Rattle.bl_selection.specs.declared.draft.Draft.{Draft}
use Rattle.bl_selection.specs.declared.draft.Entry.{Entry}
use Rattle.bl_selection.specs.declared.draft.Entry.TheVariants as entries
use Rattle.bl_selection.specs.OutputSizes.{OutputFault, ManyNodes, LongPayload, LongOutput, output_fault}
use Rattle.bl_selection.specs.Selection.{clash_of, selection_clash}
use Rattle.bl_commands.specs.declared.ending.Ending.{Ending}
use Rattle.bl_commands.specs.declared.ending.Ending.TheVariants as endings
use Rattle.bl_commands.specs.Texts.{Text, summary_line}
use Rattle.bl_answers.specs.Writing.{float_cast_ending, output_ending, writing_refusal}
use Rattle.bl_shelf.specs.Calls.{Keeps, Holds, IsQuiet}
use Rattle.bl_shelf.specs.Told.{Told, held_of, bytes_under, abandon_in}
use Rattle.bl_shelf.specs.declared.shelf.Shelf.{Ghosts as ShelfGhosts}
use Rattle.bl_file.specs.declared.outline.Outline.{Outline}
use Rattle.bl_file.specs.declared.payload.Payload.{Ghosts}
use Rattle.bl_file.specs.Calls.{Tells}
use Rattle.bl_file.specs.Held.{IsHeldAnd}
use Rattle.bl_file.specs.Opening.{file_in}
use Rattle.bl_file.specs.Outlines.{StandsFor}
use Rattle.bl_file.proofs.HeldLemmas.{IsHeldAnd-both, IsHeldAnd-weaker}
use Rattle.bl_draft.specs.Own.{outlined}
use Rattle.bl_draft.specs.Structs.{HasNoClash}
use Rattle.bl_writer.specs.declared.fault.WriteFault.{WriteFault}
use Rattle.bl_writer.specs.declared.fault.WriteFault.TheVariants as faults
use Rattle.bl_writer.specs.declared.rendering.Totals.{Totals}
use Rattle.bl_writer.specs.Calls.{IsBlamed, IsStagedAs, IsUnstaged}
use Rattle.bl_writer.specs.Faults.{HasOutputFault, IsRefusal}
use Rattle.bl_writer.specs.Outputs.{selection_form}
use Rattle.bl_writer.specs.Rendering.{staged_as}
use Rattle.bl_writer.specs.Totals.{AreTotals}
use Rattle.bl_run.specs.Blame.{BlamesRisen, IsEndingOf, IsNotUsage, MayMiss}
use Rattle.bl_run.specs.Input.{bytes_held}
use Rattle.bl_run.specs.Meaning.{Effect, Meaning, unless_ending}
use Rattle.bl_run.specs.Opened.{IsInput}
use Rattle.bl_run.specs.Rendering.{draft_effect, write_ending, IsDraftWritten, WritesDraft}
use Rattle.bl_run.specs.Staging.{IsStaged, IsReady, IsUnready}
use Rattle.bl_run.proofs.Inputs.{takes_effect}
use Rattle.bl_run.proofs.Refusals.{refusal_none, refusal_clash, refusal_fault}

-- ---- a clash is found without the bytes

entry_clash : (o : Outline) (a b : List ℕ) (d : Draft) (x : Entry) → clash_of (outlined o a ∷ []) d x ≡ clash_of (outlined o b ∷ []) d x
entry_clash o a b d (entries.Source zero n) = refl
entry_clash o a b d (entries.Source (suc i) n) = refl
entry_clash o a b d (entries.Made m) = refl
entry_clash o a b d (entries.Raw code bytes) = refl

same_clash : (o : Outline) (a b : List ℕ) (d : Draft) → selection_clash (outlined o a ∷ []) d ≡ selection_clash (outlined o b ∷ []) d
unfolding selection_clash
same_clash o a b d = ap (λ (f : Entry → Option (ℕ × ℕ)). find_map f d.entries) (fun_ext (entry_clash o a b d))

-- so it is that of the bytes for which the outline stands
clash_of_bytes : (b : List ℕ) (o : Outline) (d : Draft) → StandsFor b o → selection_clash (file_in b ∷ []) d ≡ selection_clash (outlined o [] ∷ []) d
clash_of_bytes b o d stands = ap (λ (f : File). selection_clash (f ∷ []) d) stands.file ∙ same_clash o b [] d

-- ---- what is staged

-- the bytes of a selection are staged under a name
abbrev IsStagedForm : Option Told → Option Told → List ℕ → Draft → List ℕ → Type 0
IsStagedForm told told' name d b = told' ≡ option_map (staged_as name (selection_form (file_in b ∷ []) d)) told

pub held_is : (t : Told) (input b : List ℕ) → bytes_under input t ≡ Some b → bytes_held t.held input ≡ b
held_is t input b is = ap (λ (x : Option (List ℕ)). unwrap_or x []) is

module _ (m : Meaning) (input name : List ℕ) (o : Outline) (d : Draft) where
  staged_of : (t : Told) (bytes : Option (List ℕ)) (line : List ℕ) (told' : Option Told) (blocks size : ℕ) → bytes_under input t ≡ bytes
      → IsDraftWritten m t.held (file_in (bytes_held t.held input)) d name → HasNoClash o d → blocks ≡ length d.entries → line ≡ summary_line blocks size
      → IsSomeAnd bytes (λ b. StandsFor b o) → IsSomeAnd bytes (λ b. output_fault (file_in b ∷ []) d ≡ None)
      → IsSomeAnd bytes (λ b. size ≡ length (selection_form (file_in b ∷ []) d)) → IsSomeAnd bytes (IsStagedForm (Some t) told' name d)
      → IsStaged m t name line told'
  staged_of t None line told' blocks size is writes clash count says stands fault long staged = absurd stands
  staged_of t (Some b) line told' blocks size is writes clash count says stands fault long staged =
      let written : IsDraftWritten m t.held (file_in b) d name = subst (λ (x : List ℕ). IsDraftWritten m t.held (file_in x) d name) (held_is t input b is) writes in
      let none = refusal_none (file_in b ∷ []) d (clash_of_bytes b o d stands ∙ clash) fault in
      let line_is : summary_line (length d.entries) (length (selection_form (file_in b ∷ []) d)) ≡ line = sym (says ∙ (λ i. summary_line (count i) (long i))) in
      record {
        bytes = selection_form (file_in b ∷ []) d;
        read = written.read;
        known =
            written.known
            ∙ takes_effect (writing_refusal (file_in b ∷ []) d) (draft_effect (file_in b ∷ []) d name) none
            ∙ ap Ok (λ i. record { file = Some (record { name = name; bytes = selection_form (file_in b ∷ []) d }); text = line_is i });
        staged = staged;
      }

  all_staged : (told told' : Option Told) (line : List ℕ) (blocks size : ℕ) → IfSome told (λ t. IsDraftWritten m t.held (file_in (bytes_held t.held input)) d name)
      → HasNoClash o d → blocks ≡ length d.entries → line ≡ summary_line blocks size → IsHeldAnd told input (λ b. StandsFor b o) → IsHeldAnd told input (λ b. output_fault (file_in b ∷ []) d ≡ None)
      → IsHeldAnd told input (λ b. size ≡ length (selection_form (file_in b ∷ []) d)) → IsHeldAnd told input (IsStagedForm told told' name d)
      → IfSome told (λ t. IsStaged m t name line told')
  all_staged None told' line blocks size writes clash count says stands fault long staged = tt
  all_staged (Some t) told' line blocks size writes clash count says stands fault long staged =
      staged_of t (bytes_under input t) line told' blocks size refl writes clash count says stands fault long staged

  -- ---- what is refused

  ending_of : (first : Option Ending) (effect : Effect) (e : Ending) → first ≡ Some e → unless_ending first effect ≡ Err e
  ending_of first effect e is = rw is refl

  refused_of : (t : Told) (bytes : Option (List ℕ)) (e : Ending) → bytes_under input t ≡ bytes → IsDraftWritten m t.held (file_in (bytes_held t.held input)) d name
      → IsSomeAnd bytes (λ b. writing_refusal (file_in b ∷ []) d ≡ Some e) → m.outcome t.held ≡ Err e
  refused_of t None e is writes refused = absurd refused
  refused_of t (Some b) e is writes refused =
      let written : IsDraftWritten m t.held (file_in b) d name = subst (λ (x : List ℕ). IsDraftWritten m t.held (file_in x) d name) (held_is t input b is) writes in
      written.known ∙ ending_of (writing_refusal (file_in b ∷ []) d) (draft_effect (file_in b ∷ []) d name) e refused

  -- where the shelf tells, what refuses the draft is the outcome
  all_refused : (told : Option Told) (e : Ending) → IfSome told (λ t. IsDraftWritten m t.held (file_in (bytes_held t.held input)) d name)
      → IsHeldAnd told input (λ b. writing_refusal (file_in b ∷ []) d ≡ Some e) → IfSome told (λ t. m.outcome t.held ≡ Err e)
  all_refused None e writes refused = tt
  all_refused (Some t) e writes refused = refused_of t (bytes_under input t) e refl writes refused

  told_clash : (told : Option Told) (t k : ℕ) → selection_clash (outlined o [] ∷ []) d ≡ Some (t, k) → IsHeldAnd told input (λ b. StandsFor b o)
      → IsHeldAnd told input (λ b. writing_refusal (file_in b ∷ []) d ≡ Some (float_cast_ending d.catalogue (t, k)))
  told_clash told t k clash stands =
      IsHeldAnd-weaker told input (λ b. StandsFor b o) (λ b. writing_refusal (file_in b ∷ []) d ≡ Some (float_cast_ending d.catalogue (t, k))) stands
      (λ b is. refusal_clash (file_in b ∷ []) d t k (clash_of_bytes b o d is ∙ clash))

  told_fault : (told : Option Told) (fault : OutputFault) → HasNoClash o d → IsHeldAnd told input (λ b. StandsFor b o) → IsHeldAnd told input (λ b. output_fault (file_in b ∷ []) d ≡ Some fault)
      → IsHeldAnd told input (λ b. writing_refusal (file_in b ∷ []) d ≡ Some (output_ending fault))
  told_fault told fault clash stands has =
      IsHeldAnd-both told input (λ b. StandsFor b o) (λ b. output_fault (file_in b ∷ []) d ≡ Some fault) (λ b. writing_refusal (file_in b ∷ []) d ≡ Some (output_ending fault)) stands has
      (λ b is found. refusal_fault (file_in b ∷ []) d fault (clash_of_bytes b o d is ∙ clash) found)

  many_nodes : (n : ℕ) (files : List File) → n ≡ length d.entries → most_output_nodes < n → output_fault files d ≡ Some (ManyNodes n)
  unfolding output_fault
  many_nodes n files is many =
      let more : nat_lt most_output_nodes (length d.entries) ≡ true = lt-ltb most_output_nodes (length d.entries) (omega (arith, is, many)) in
      rw more (ap (λ (x : ℕ). Some (ManyNodes x)) (sym is))

any_told : {T : Type 0} (o : Option T) → IfSome o (λ _. ⊤)
any_told None = tt
any_told (Some t) = tt

-- ---- an ending before anything is staged

-- without memory nothing is staged
pub memory_unready : {S : Type 0} (g : ShelfGhosts S) (m : Meaning) (name : List ℕ) (s s' : S) → g.room s ≡ None → Keeps g s s' → IsUnready g m name s s' endings.NoMemory
memory_unready g m name s s' empty keeps = record {
  room = keeps.room ∙ empty;
  history = inl keeps.history;
  held = ap held_of keeps.told;
  blamed = record { misses = keeps.misses; faults = keeps.faults; blamed = tt };
  missed = tt;
  checked = any_told (g.told s);
}

-- nor where a check gives the ending
pub checked_unready : {S : Type 0} (g : ShelfGhosts S) (m : Meaning) (name : List ℕ) (s s' : S) (e : Ending) → g.room s ≡ None → Keeps g s s'
    → BlamesRisen e (g.misses s) (g.misses s') (g.faults s) (g.faults s') 0 0 → MayMiss m.may_miss e → IfSome (g.told s) (λ t. IsEndingOf (m.outcome t.held) e) → IsUnready g m name s s' e
checked_unready g m name s s' e empty keeps blames missed checked = record {
  room = keeps.room ∙ empty;
  history = inl keeps.history;
  held = ap held_of keeps.told;
  blamed = record { misses = keeps.misses; faults = keeps.faults; blamed = blames };
  missed = missed;
  checked = checked;
}

-- ---- a draft that is rendered, or isn't

module _ {S : Type 0} (g : ShelfGhosts S) (m : Meaning) (input name : List ℕ) (s : S) (d : Draft) (writes : WritesDraft g m input name s d) where
  -- what is rendered of an opened input is ready
  pub draft_ready : {P : Type 0} (h : Ghosts P) (s' : S) (o : Outline) (p : P) (totals : Totals) (line : Text) → IsInput g h input s o p
      → IsStagedAs g name s s' → AreTotals g h s d o p totals → HasNoClash o d → HasOutputFault g h s p d None → Tells g h s p (IsStagedForm (g.told s) (g.told s') name d) → IsQuiet g s s'
      → line ≡ summary_line totals.blocks totals.bytes → IsReady g m name s s' line
  draft_ready h s' o p totals line is stages are clash none staged quiet says = record {
    room = rw stages.room refl;
    history = stages.history;
    quiet = quiet;
    told =
        all_staged m input name o d (g.told s) (g.told s') line totals.blocks totals.bytes writes.told clash are.blocks says
        (subst (λ (file : List ℕ). IsHeldAnd (g.told s) file (λ b. StandsFor b o)) is.named is.stands)
        (subst (λ (file : List ℕ). IsHeldAnd (g.told s) file (λ b. output_fault (file_in b ∷ []) d ≡ None)) is.named none)
        (subst (λ (file : List ℕ). IsHeldAnd (g.told s) file (λ b. totals.bytes ≡ length (selection_form (file_in b ∷ []) d))) is.named are.bytes)
        (subst (λ (file : List ℕ). IsHeldAnd (g.told s) file (IsStagedForm (g.told s) (g.told s') name d)) is.named staged);
  }

  unrendered : (s' : S) (e : Ending) → IsUnstaged g name s s' → Holds g s s' → BlamesRisen e (g.misses s) (g.misses s') (g.faults s) (g.faults s') 0 0 → MayMiss m.may_miss e
      → IfSome (g.told s) (λ t. IsEndingOf (m.outcome t.held) e) → IsUnready g m name s s' e
  unrendered s' e unstaged holds blames missed checked = record {
    room = unstaged.room;
    history = unstaged.history;
    held = holds.held;
    blamed = record { misses = holds.misses; faults = holds.faults; blamed = blames };
    missed = missed;
    checked = checked;
  }

  module _ {P : Type 0} (h : Ghosts P) (s' : S) (o : Outline) (p : P) (is : IsInput g h input s o p) (unstaged : IsUnstaged g name s s') (holds : Holds g s s') where
    stands : IsHeldAnd (g.told s) input (λ b. StandsFor b o)
    stands = subst (λ (file : List ℕ). IsHeldAnd (g.told s) file (λ b. StandsFor b o)) is.named is.stands

    faulty : (fault : OutputFault) → HasOutputFault g h s p d (Some fault) → IsHeldAnd (g.told s) input (λ b. output_fault (file_in b ∷ []) d ≡ Some fault)
    faulty fault has = subst (λ (file : List ℕ). IsHeldAnd (g.told s) file (λ b. output_fault (file_in b ∷ []) d ≡ Some fault)) is.named has

    -- by the fault itself
    unrendered_by : (fault : WriteFault) → IsBlamed g s s' fault → IsRefusal g h s d o p fault → IsUnready g m name s s' (write_ending d.catalogue input fault)
    unrendered_by faults.Absent blamed refusal =
        unrendered s' (endings.Absent input) unstaged holds blamed.1 writes.missed
        (subst (λ (told : Option Told). IfSome told (λ t. IsEndingOf (m.outcome t.held) (endings.Absent input))) (sym blamed.0) tt)
    unrendered_by faults.Device blamed refusal = unrendered s' endings.Device unstaged holds blamed tt (any_told (g.told s))
    unrendered_by faults.NoMemory blamed refusal = unrendered s' endings.NoMemory unstaged holds tt tt (any_told (g.told s))
    unrendered_by (faults.FloatCast t k) blamed refusal =
        unrendered s' (float_cast_ending d.catalogue (t, k)) unstaged holds tt tt
        (all_refused m input name o d (g.told s) (float_cast_ending d.catalogue (t, k)) writes.told (told_clash m input name o d (g.told s) t k refusal stands))
    unrendered_by (faults.TooManyBlocks n) blamed refusal =
        unrendered s' (output_ending (ManyNodes n)) unstaged holds tt tt
        (all_refused m input name o d (g.told s) (output_ending (ManyNodes n)) writes.told
        (told_fault m input name o d (g.told s) (ManyNodes n) refusal.0 stands
        (IsHeldAnd-weaker (g.told s) input (λ b. StandsFor b o) (λ b. output_fault (file_in b ∷ []) d ≡ Some (ManyNodes n)) stands
        (λ b x. many_nodes m input name o d n (file_in b ∷ []) refusal.1 refusal.2))))
    unrendered_by (faults.BlockTooLong n) blamed refusal =
        unrendered s' (output_ending (LongPayload n)) unstaged holds tt tt
        (all_refused m input name o d (g.told s) (output_ending (LongPayload n)) writes.told
        (told_fault m input name o d (g.told s) (LongPayload n) refusal.0 stands (faulty (LongPayload n) refusal.1)))
    unrendered_by (faults.FileTooLarge n) blamed refusal =
        unrendered s' (output_ending (LongOutput n)) unstaged holds tt tt
        (all_refused m input name o d (g.told s) (output_ending (LongOutput n)) writes.told
        (told_fault m input name o d (g.told s) (LongOutput n) refusal.0 stands (faulty (LongOutput n) refusal.1)))

    -- what isn't rendered ends so, or by want of memory
    pub draft_unready : (fault : WriteFault) (e : Ending) → IsBlamed g s s' fault → IsRefusal g h s d o p fault → (e ≡ write_ending d.catalogue input fault) ⊎ (e ≡ endings.NoMemory)
        → IsUnready g m name s s' e
    draft_unready fault e blamed refusal (inl is) = subst (IsUnready g m name s s') (sym is) (unrendered_by fault blamed refusal)
    draft_unready fault e blamed refusal (inr none) = subst (IsUnready g m name s s') (sym none) (unrendered s' endings.NoMemory unstaged holds tt tt (any_told (g.told s)))

  held_abandoned : (told told' : Option Told) → told' ≡ option_map abandon_in told → held_of told' ≡ held_of told
  held_abandoned None told' is = ap held_of is
  held_abandoned (Some t) told' is = ap held_of is

  -- one whose line isn't made is abandoned
  pub draft_abandoned : (s1 s2 : S) → IsStagedAs g name s s1 → Holds g s s1 → g.room s2 ≡ None → g.told s2 ≡ option_map abandon_in (g.told s1) → g.history s2 ≡ g.history s1
      → g.faults s2 ≡ g.faults s1 → g.misses s2 ≡ g.misses s1 → IsUnready g m name s s2 endings.NoMemory
  draft_abandoned s1 s2 stages holds room told history faults misses = record {
    room = room;
    history = inr (history ∙ stages.history);
    held = held_abandoned (g.told s1) (g.told s2) told ∙ holds.held;
    blamed = record {
      misses = let later = holds.misses in omega (arith, later, misses);
      faults = let later = holds.faults in omega (arith, later, faults);
      blamed = tt;
    };
    missed = tt;
    checked = any_told (g.told s);
  }

-- the words didn't give the ending of a fault of writing
write_not_usage : (c : Catalogue) (file : List ℕ) (fault : WriteFault) → IsNotUsage (write_ending c file fault)
write_not_usage c file faults.Absent = tt
write_not_usage c file faults.Device = tt
write_not_usage c file faults.NoMemory = tt
write_not_usage c file (faults.FloatCast t member) = tt
write_not_usage c file (faults.TooManyBlocks n) = tt
write_not_usage c file (faults.BlockTooLong n) = tt
write_not_usage c file (faults.FileTooLarge n) = tt

pub draft_not_usage : (c : Catalogue) (file : List ℕ) (fault : WriteFault) (e : Ending) → (e ≡ write_ending c file fault) ⊎ (e ≡ endings.NoMemory) → IsNotUsage e
draft_not_usage c file fault e (inl is) = subst IsNotUsage (sym is) (write_not_usage c file fault)
draft_not_usage c file fault e (inr none) = subst IsNotUsage (sym none) tt
