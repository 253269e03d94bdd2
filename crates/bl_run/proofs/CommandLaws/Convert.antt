-- The meaning of `convert` is lawful: what is done of accepted inputs is their conversion.
use Rattle.std.proofs.Common.{◌≡◌, ◌⊎◌, ◌<◌, ◌≤◌, inl, inr, ℕ, List, [], ◌∷◌, ◌++◌, length, All, false, cond, Option, Some, None, refl, sym, ap, subst, ◌∙◌, arith}
use Rattle.std.specs.Prelude.{option_map, unwrap_or, IfOk, IfSome, IsOk, IsSomeAnd}
use Rattle.std.specs.FinMap.{get}
use Rattle.bl_num.specs.declared.number.Order.{Order}
use Rattle.bl_num.specs.declared.number.Width.{Width}
use Rattle.bl_format.specs.declared.layout.LayoutFault.{LayoutFault}
use Rattle.bl_format.specs.declared.layout.LayoutFault.TheVariants as layout
use Rattle.bl_format.specs.Limits.{most_blocks, most_input_bytes}
use Rattle.bl_format.specs.Layout.{HasLayout}
use Rattle.bl_format.specs.Nodes.{File, Accepted}
use Rattle.bl_selection.specs.Committed.{AcceptedIfGiven, IsConverted}
use Rattle.bl_selection.specs.Selection.{rebuilt_graph, whole_selection}
use Rattle.bl_selection.proofs.ConvertedForm.{converted-within_limits, own_form-converted}
use Rattle.bl_selection.proofs.NothingClashes.{own_selection-no_clash}
use Rattle.bl_selection.proofs.OwnForm.{rebuilt_fits-own}
use Rattle.bl_selection.proofs.OwnFormGraph.{accepted-CanBeRead}
use Rattle.bl_selection.proofs.OwnFormSizes.{output_fault-own}
use Rattle.bl_selection.proofs.RebuiltStands.{rebuilt_graph-stands}
use Rattle.bl_selection.proofs.SameWidth.{rewidth-same}
use Rattle.bl_commands.specs.declared.ending.Ending.{Ending}
use Rattle.bl_commands.specs.Checks.{first_ending}
use Rattle.bl_commands.specs.Texts.{Text}
use Rattle.bl_answers.specs.Writing.{writing_refusal}
use Rattle.bl_shelf.specs.Told.{Held}
use Rattle.bl_file.specs.Opening.{file_in}
use Rattle.bl_writer.specs.Outputs.{selection_form}
use Rattle.bl_run.specs.Commands.Convert.{convert_checks, convert_draft, convert_effect, convert_meaning, convert_outcome, file_under, form_checks, is_plain, like_under, opening_checks, width_ending, width_fault, AreInputsReadable, CanBeFormed, CanBeWritten, HasFormCause, HasOpeningCause, IsClash, IsCommitted, IsLikeHeldAs, IsOutputFault, IsTooLong, IsUnwritten}
use Rattle.bl_run.specs.Input.{bytes_held, opening_check, IsHeldAs}
use Rattle.bl_run.specs.Meaning.{Effect, IsDone, IsLawful, IsOwnEnding, names_of_files, unless_ending}
use Rattle.bl_run.proofs.Inputs.{IsRead, check_caused, check_own, ended_by, first_of_one, first_of_two, first_split, input_passed, none_of_two, none_split, opening_passed, own_wider, read_of, readable_passes, split_none, two_check_caused, two_check_own, two_pass}
use Rattle.bl_run.proofs.Refusals.{none_refused, refusal_none, refusal_own, refused_by}

-- ---- a file's own form

-- the selection of a file under no option is that under its own header and catalogue
pub plain_draft : (b : List ℕ) (f : File) → All (λ x. x < 256) b → Accepted b f → convert_draft f None None None ≡ whole_selection f f.header f.catalogue
plain_draft b f bytes accepted =
    let layout : HasLayout f.catalogue f.header.width = record { can_be_read = accepted-CanBeRead b f bytes accepted; no_fault = accepted.no_layout_fault } in
    ap (whole_selection f f.header) (rewidth-same f.catalogue f.header.width layout)

-- what is written of an accepted input in its own form is its conversion
own_converted : (b : List ℕ) → All (λ x. x < 256) b → Accepted b (file_in b) → length (file_in b).nodes < most_blocks
    → IsConverted b None None None (selection_form (file_in b ∷ []) (convert_draft (file_in b) None None None))
unfolding rebuilt_graph
own_converted b bytes accepted few =
    let f : File = file_in b in
    subst (λ d. IsConverted b None None None (selection_form (f ∷ []) d)) (sym (plain_draft b f bytes accepted))
    (own_form-converted b (selection_form (f ∷ []) (whole_selection f f.header f.catalogue)) f bytes accepted
    (rebuilt_graph-stands b f f.header f.catalogue bytes accepted (rebuilt_fits-own b f bytes accepted (omega (arith, few)))))

-- nothing in it is refused
pub own_passes : (b : List ℕ) → All (λ x. x < 256) b → Accepted b (file_in b) → length (file_in b).nodes ≤ most_blocks → length b ≤ most_input_bytes
    → writing_refusal (file_in b ∷ []) (convert_draft (file_in b) None None None) ≡ None
own_passes b bytes accepted few small =
    let f : File = file_in b in
    ap (writing_refusal (f ∷ [])) (plain_draft b f bytes accepted)
    ∙ refusal_none (f ∷ []) (whole_selection f f.header f.catalogue) (own_selection-no_clash b f bytes accepted)
    (output_fault-own b f bytes accepted (omega (arith, few)) small)

-- ---- the checks of what is written

-- a length, a float or a limit ends the run as the command's own
width_own : (P : List ℕ → Type 0) (fault : LayoutFault) → IsOwnEnding P (width_ending fault)
width_own P (layout.BadName s k) = tt
width_own P (layout.BasicLength s k) = tt
width_own P (layout.Overrun s k) = tt
width_own P (layout.Cyclic s k) = tt
width_own P (layout.DuplicateMember s k) = tt
width_own P (layout.TooDeep n) = tt
width_own P (layout.TooManyLeaves n) = tt
width_own P (layout.TooLong n) = tt
width_own P layout.NoMemory = tt

-- an ending that a fault gives
by_fault : (o : Option LayoutFault) (e : Ending) → option_map width_ending o ≡ Some e → (fault : LayoutFault) × (o ≡ Some fault) × (e ≡ width_ending fault)
by_fault None e is = absurd (cc)
by_fault (Some fault) e is = (fault, refl, cc)

none_fault : (o : Option LayoutFault) → option_map width_ending o ≡ None → o ≡ None
none_fault None is = refl
none_fault (Some fault) is = absurd (cc)

-- a length, a float or a limit is in the way
abbrev IsInTheWay : File → Option File → Option Width → Option Order → Ending → Type 0
IsInTheWay f model width order e =
    IsTooLong f model width e ⊎ (IsClash (f ∷ []) (convert_draft f model width order) e ⊎ IsOutputFault (f ∷ []) (convert_draft f model width order) e)

module _ (f : File) (model : Option File) (width : Option Width) (order : Option Order) where
  form_own : (P : List ℕ → Type 0) (e : Ending) → first_ending (form_checks f model width order) ≡ Some e → IsOwnEnding P e
  form_own P e is = by (first_of_two (option_map width_ending (width_fault f model width)) (writing_refusal (f ∷ []) (convert_draft f model width order)) e is)
    where
      by : (option_map width_ending (width_fault f model width) ≡ Some e) ⊎ (writing_refusal (f ∷ []) (convert_draft f model width order) ≡ Some e) → IsOwnEnding P e
      by (inl long) = let cause = by_fault (width_fault f model width) e long in subst (IsOwnEnding P) (sym cause.2) (width_own P cause.0)
      by (inr refused) = refusal_own P (f ∷ []) (convert_draft f model width order) e refused

  form_caused : (held : Held) (input : List ℕ) (like : Option (List ℕ)) (e : Ending) → IsHeldAs held input f → IsLikeHeldAs held like model
      → first_ending (form_checks f model width order) ≡ Some e → IsUnwritten held input like width order e
  form_caused held input like e source target is = record {
    from = f;
    model = model;
    source = source;
    target = target;
    why = by (first_of_two (option_map width_ending (width_fault f model width)) (writing_refusal (f ∷ []) (convert_draft f model width order)) e is);
  }
    where
      by : (option_map width_ending (width_fault f model width) ≡ Some e) ⊎ (writing_refusal (f ∷ []) (convert_draft f model width order) ≡ Some e) → IsInTheWay f model width order e
      by (inl long) = inl (by_fault (width_fault f model width) e long)
      by (inr refused) = inr (refused_by (f ∷ []) (convert_draft f model width order) e refused)

  form_able : CanBeWritten f model width order → first_ending (form_checks f model width order) ≡ None
  form_able can =
      two_pass (option_map width_ending (width_fault f model width)) (writing_refusal (f ∷ []) (convert_draft f model width order))
      (ap (option_map width_ending) can.fits) (refusal_none (f ∷ []) (convert_draft f model width order) can.no_clash can.no_fault)

  form_passed : first_ending (form_checks f model width order) ≡ None → CanBeWritten f model width order
  form_passed is =
      let none = none_of_two (option_map width_ending (width_fault f model width)) (writing_refusal (f ∷ []) (convert_draft f model width order)) is in
      let parts = none_refused (f ∷ []) (convert_draft f model width order) none.1 in
      record { fits = none_fault (width_fault f model width) none.0; no_clash = parts.0; no_fault = parts.1 }

-- ---- the checks of the inputs

module _ (held : Held) (input : List ℕ) where
  abbrev b : List ℕ
  b = bytes_held held input

  -- the inputs are read
  record AreRead (like : Option (List ℕ)) : Type 0 where
    source : IsRead held input
    target : IfSome like (IsRead held)

  opening_read : (like : Option (List ℕ)) → first_ending (opening_checks held input like) ≡ None → AreRead like
  opening_read None is = record { source = read_of held input (input_passed held input is); target = tt }
  opening_read (Some cat) is =
      let none = none_of_two (opening_check 0 held input) (opening_check (length b) held cat) is in
      record {
        source = read_of held input (opening_passed 0 held input none.0);
        target = read_of held cat (opening_passed (length b) held cat none.1);
      }

  abbrev MayMissOf : Option (List ℕ) → List ℕ → Type 0
  MayMissOf like file = (file ≡ input) ⊎ IsSomeAnd like (λ cat. file ≡ cat)

  opening_own : (like : Option (List ℕ)) (e : Ending) → first_ending (opening_checks held input like) ≡ Some e → IsOwnEnding (MayMissOf like) e
  opening_own None e is =
      own_wider (λ file. file ≡ input) (MayMissOf None) (λ file same. inl same) e (check_own 0 held input e (sym (first_of_one (opening_check 0 held input)) ∙ is))
  opening_own (Some cat) e is = two_check_own held input cat e is

  opening_caused : (like : Option (List ℕ)) (e : Ending) → first_ending (opening_checks held input like) ≡ Some e → HasOpeningCause held input like e
  opening_caused None e is = check_caused 0 held input e (sym (first_of_one (opening_check 0 held input)) ∙ is)
  opening_caused (Some cat) e is = two_check_caused held input cat e is

  opening_able : (like : Option (List ℕ)) → AreInputsReadable held input like → first_ending (opening_checks held input like) ≡ None
  opening_able None can = first_of_one (opening_check 0 held input) ∙ readable_passes 0 held input can (omega (arith, can.small))
  opening_able (Some cat) can =
      let used : length b ≡ length can.first.b = ap (λ (o : Option (List ℕ)). length (unwrap_or o [])) can.first.is_held in
      two_pass (opening_check 0 held input) (opening_check (length b) held cat)
      (readable_passes 0 held input can.first (omega (arith, can.first.small)))
      (readable_passes (length b) held cat can.second (omega (arith, used, can.small)))

  held_as : (name : List ℕ) → IsRead held name → IsHeldAs held name (file_under held name)
  held_as name read = record {
    b = bytes_held held name;
    is_held = read.is_held;
    accepted = record { accepted = read.accepted; few = read.few };
  }

  like_held_as : (like : Option (List ℕ)) → IfSome like (IsRead held) → IsLikeHeldAs held like (like_under held like)
  like_held_as None read = tt
  like_held_as (Some cat) read = held_as cat read

  like_is_held : (like : Option (List ℕ)) → IfSome like (IsRead held) → option_map (get held) like ≡ option_map Some (option_map (bytes_held held) like)
  like_is_held None read = refl
  like_is_held (Some cat) read = ap Some read.is_held

  like_accepted : (like : Option (List ℕ)) → IfSome like (IsRead held) → AcceptedIfGiven (option_map (bytes_held held) like) (like_under held like)
  like_accepted None read = (refl, tt)
  like_accepted (Some cat) read =
      (ap Some read.accepted.bytes, subst (λ (x : List ℕ). Accepted x (file_under held cat)) (sym read.accepted.bytes) read.accepted)

  like_bytes : (like : Option (List ℕ)) → IfSome like (IsRead held) → All (λ x. x < 256) (bytes_held held (unwrap_or like input))
      → IfSome (like_under held like) (λ g. All (λ x. x < 256) g.bytes)
  like_bytes None read bytes = tt
  like_bytes (Some cat) read bytes = subst (All (λ x. x < 256)) (sym read.accepted.bytes) bytes

-- ---- what is done

module _ (held : Held) (input : List ℕ) where
  own_committed : (held' : Option Held) (w w' : Option Text) (out : List ℕ) → All (λ x. x < 256) (bytes_held held input)
      → (first : Option Ending) → first_ending (convert_checks held input None None None) ≡ first
      → IsDone (unless_ending first (convert_effect (file_under held input) None None None out)) held held' w w'
      → IsCommitted held held' input out None None None
  own_committed held' w w' out bytes (Some e) is done = absurd done
  own_committed held' w w' out bytes None is done =
      let read = (opening_read held input None (none_split (opening_checks held input None) [] is).0).source in
      record {
        new = selection_form (file_under held input ∷ []) (convert_draft (file_under held input) None None None);
        converted = record {
          old = bytes_held held input;
          like_bytes = None;
          input_held = read.is_held;
          like_held = refl;
          conversion = own_converted (bytes_held held input) bytes read.accepted read.few;
        };
        committed = done.0;
      }

module _ (held : Held) (input : List ℕ) (like : Option (List ℕ)) (width : Option Width) (order : Option Order) where
  abbrev f : File
  f = file_under held input

  abbrev model : Option File
  model = like_under held like

  abbrev openings : List (Option Ending)
  openings = opening_checks held input like

  -- what is written of accepted inputs, where nothing is refused, is the conversion
  form_converted : All (λ x. x < 256) (bytes_held held input) → All (λ x. x < 256) (bytes_held held (unwrap_or like input)) → AreRead held input like
      → CanBeWritten f model width order
      → IsConverted (bytes_held held input) (option_map (bytes_held held) like) width order (selection_form (f ∷ []) (convert_draft f model width order))
  unfolding rebuilt_graph
  form_converted bytes bytes' read can =
      converted-within_limits (bytes_held held input) (option_map (bytes_held held) like) f model width order bytes read.source.accepted
      (like_accepted held input like read.target) (like_bytes held input like read.target bytes') (let few = read.source.few in omega (arith, few))
      can.no_clash can.fits can.no_fault

  form_committed : (held' : Option Held) (w w' : Option Text) (out : List ℕ) → All (λ x. x < 256) (bytes_held held input)
      → All (λ x. x < 256) (bytes_held held (unwrap_or like input)) → (first : Option Ending) → first_ending (openings ++ form_checks f model width order) ≡ first
      → IsDone (unless_ending first (convert_effect f model width order out)) held held' w w' → IsCommitted held held' input out like width order
  form_committed held' w w' out bytes bytes' (Some e) is done = absurd done
  form_committed held' w w' out bytes bytes' None is done =
      let none = none_split openings (form_checks f model width order) is in
      let read = opening_read held input like none.0 in
      record {
        new = selection_form (f ∷ []) (convert_draft f model width order);
        converted = record {
          old = bytes_held held input;
          like_bytes = option_map (bytes_held held) like;
          input_held = read.source.is_held;
          like_held = like_is_held held input like read.target;
          conversion = form_converted bytes bytes' read (form_passed f model width order none.1);
        };
        committed = done.0;
      }

  -- an ending of the checks is the command's own
  all_own : (e : Ending) → first_ending (openings ++ form_checks f model width order) ≡ Some e → IsOwnEnding (MayMissOf held input like) e
  all_own e is = by (first_split openings (form_checks f model width order) e is)
    where
      by : (first_ending openings ≡ Some e) ⊎ ((first_ending openings ≡ None) × (first_ending (form_checks f model width order) ≡ Some e)) → IsOwnEnding (MayMissOf held input like) e
      by (inl opening) = opening_own held input like e opening
      by (inr form) = form_own f model width order (MayMissOf held input like) e form.1

  -- and has its cause
  all_caused : (e : Ending) → first_ending (openings ++ form_checks f model width order) ≡ Some e → HasFormCause false held input like width order e
  all_caused e is = by (first_split openings (form_checks f model width order) e is)
    where
      by : (first_ending openings ≡ Some e) ⊎ ((first_ending openings ≡ None) × (first_ending (form_checks f model width order) ≡ Some e)) → HasFormCause false held input like width order e
      by (inl opening) = inl (opening_caused held input like e opening)
      by (inr form) =
          let read = opening_read held input like form.0 in
          inr (form_caused f model width order held input like e (held_as held input input read.source) (like_held_as held input like read.target) form.1)

-- ---- the law

written_by : (first : Option Ending) (effect : Effect) (out : List ℕ) → names_of_files effect.file ≡ out ∷ []
    → IfOk (unless_ending first effect) (λ done. names_of_files done.file ≡ out ∷ [])
written_by (Some e) effect out is = tt
written_by None effect out is = is

done_ok : (first : Option Ending) (effect : Effect) → first ≡ None → IsOk (unless_ending first effect)
done_ok first effect is = rw is refl

-- without an option
plain_lawful : (input out : List ℕ) → IsLawful (convert_meaning input out None None None)
unfolding convert_meaning convert_outcome
plain_lawful input out =
    let first : Held → Option Ending = λ held. first_ending (convert_checks held input None None None) in
    let effect : Held → Effect = λ held. convert_effect (file_under held input) None None None out in
    record {
      own = λ held. ended_by (first held) (effect held) (IsOwnEnding (MayMissOf held input None)) (opening_own held input None);
      caused = λ held. ended_by (first held) (effect held) (HasOpeningCause held input None) (opening_caused held input None);
      able = λ held can. done_ok (first held) (effect held) (opening_able held input None can.0);
      accomplished = λ held held' w w' bytes done. own_committed held input held' w w' out bytes.0 (first held) refl done;
      written = λ held. written_by (first held) (effect held) out refl;
    }

-- with one
form_lawful : (input out : List ℕ) (like : Option (List ℕ)) (width : Option Width) (order : Option Order) → is_plain like width order ≡ false
    → IsLawful (convert_meaning input out like width order)
unfolding convert_meaning convert_outcome
form_lawful input out like width order not =
    let first : Held → Option Ending = λ held. first_ending (convert_checks held input like width order) in
    let effect : Held → Effect = λ held. convert_effect (file_under held input) (like_under held like) width order out in
    let forms : Held → List (Option Ending) = λ held. form_checks (file_under held input) (like_under held like) width order in
    let checks : (held : Held) → first held ≡ first_ending (opening_checks held input like ++ forms held) = λ held.
    ap (λ p. first_ending (opening_checks held input like ++ cond p [] (forms held))) not in
    record {
      own = λ held. ended_by (first held) (effect held) (IsOwnEnding (MayMissOf held input like))
          (λ e is. all_own held input like width order e (sym (checks held) ∙ is));
      caused = λ held. ended_by (first held) (effect held) (HasFormCause (is_plain like width order) held input like width order)
          (λ e is. subst (λ p. HasFormCause p held input like width order e) (sym not) (all_caused held input like width order e (sym (checks held) ∙ is)));
      able = λ held can. done_ok (first held) (effect held)
          (checks held ∙ split_none (opening_checks held input like) (forms held) (opening_able held input like can.0)
          ∙ form_able (file_under held input) (like_under held like) width order
          (subst (λ p. CanBeFormed p (file_under held input) (like_under held like) width order) not can.1));
      accomplished = λ held held' w w' bytes done.
          form_committed held input like width order held' w w' out bytes.0 bytes.1 (first held) (sym (checks held)) done;
      written = λ held. written_by (first held) (effect held) out refl;
    }

pub convert_lawful : (input out : List ℕ) (like : Option (List ℕ)) (width : Option Width) (order : Option Order) → IsLawful (convert_meaning input out like width order)
convert_lawful input out None None None = plain_lawful input out
convert_lawful input out None None (Some r) = form_lawful input out None None (Some r) refl
convert_lawful input out None (Some w) order = form_lawful input out None (Some w) order refl
convert_lawful input out (Some cat) width order = form_lawful input out (Some cat) width order refl

pub convert_writes : (input out : List ℕ) (like : Option (List ℕ)) (width : Option Width) (order : Option Order) → (convert_meaning input out like width order).writes ≡ out ∷ []
unfolding convert_meaning
convert_writes input out like width order = refl
