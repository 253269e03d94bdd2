-- The meaning of `fates` is lawful: what is done of two accepted inputs is the print of the fates.
use Rattle.std.proofs.Common.{◌≡◌, ◌⊎◌, inl, inr, ℕ, List, [], length, Option, Some, None, Ok, refl, sym, ap, subst, ◌∙◌}
use Rattle.std.specs.Prelude.{IfOk, IfSome, IsSomeAnd, flat_map, option_map, unwrap_or}
use Rattle.std.proofs.lemmas.Option.{IfSome_then}
use Rattle.bl_num.specs.declared.number.Width.{Width}
use Rattle.bl_format.specs.declared.catalogue.Catalogue.{Catalogue}
use Rattle.bl_format.specs.Layout.{struct_name, struct_named, struct_numbers}
use Rattle.bl_format.specs.Nodes.{File}
use Rattle.bl_answers.specs.Fates.{common_struct_lines, fate_lines, fates_text, new_struct_line}
use Rattle.bl_commands.specs.declared.ending.Ending.{Ending}
use Rattle.bl_commands.specs.Checks.{first_ending}
use Rattle.bl_commands.specs.Texts.{Text}
use Rattle.bl_shelf.specs.Calls.{Keeps}
use Rattle.bl_shelf.specs.Told.{Held, Told, bytes_under}
use Rattle.bl_shelf.specs.declared.shelf.Shelf.{Ghosts as ShelfGhosts}
use Rattle.bl_shelf.specs.Written.{Grows}
use Rattle.bl_file.specs.declared.outline.Outline.{Outline}
use Rattle.bl_file.specs.Held.{IsHeldAnd}
use Rattle.bl_file.specs.Opening.{file_in, open_fault}
use Rattle.bl_file.specs.Outlines.{StandsFor, file_with}
use Rattle.bl_run.specs.Blame.{BlamesRisen, IsEndingOf, MayMiss}
use Rattle.bl_run.specs.Commands.Fates.{fates_effect, fates_meaning, fates_of, fates_outcome, AreFatesPrinted}
use Rattle.bl_run.specs.Input.{IsChecked, bytes_held, open_ending, opening_check, two_input_checks, IsHeldAs}
use Rattle.bl_run.specs.Meaning.{IsDone, IsLawful, names_of_files, unless_ending}
use Rattle.bl_run.specs.Opened.{IsUnopened}
use Rattle.bl_run.proofs.Inputs.{IsPassed, first_ends, misses_wider, none_of_two, opening_passed, second_ends, takes_effect, two_able, two_caused, two_own, two_pass}

held_as : (held : Held) (name : List ℕ) (passed : IsPassed held name) → IsHeldAs held name (file_in passed.b)
held_as held name passed = record {
  b = passed.b;
  is_held = passed.is_held;
  accepted = record { accepted = passed.accepted; few = passed.few };
}

printed : (held : Held) (held' : Option Held) (w w' : Option Text) (input cat : List ℕ) → (first : Option Ending) → first_ending (two_input_checks held input cat) ≡ first
    → IsDone (unless_ending first (fates_effect (bytes_held held input) (bytes_held held cat))) held held' w w' → AreFatesPrinted held held' w w' input cat
printed held held' w w' input cat (Some e) is done = absurd done
printed held held' w w' input cat None is done =
    let passed = none_of_two (opening_check 0 held input) (opening_check (length (bytes_held held input)) held cat) is in
    let source = opening_passed 0 held input passed.0 in
    let target = opening_passed (length (bytes_held held input)) held cat passed.1 in
    record {
      from = file_in source.b;
      to = file_in target.b;
      source = held_as held input source;
      target = held_as held cat target;
      printed =
          subst (λ (b : List ℕ). Grows w (fates_of (file_in b) (file_in target.b)) w') source.bytes
          (subst (λ (b : List ℕ). Grows w (fates_of (file_in (bytes_held held input)) (file_in b)) w') target.bytes done.1);
      kept = done.0;
    }

written_by : (first : Option Ending) (b c : List ℕ) → IfOk (unless_ending first (fates_effect b c)) (λ effect. names_of_files effect.file ≡ [])
written_by (Some e) b c = tt
written_by None b c = refl

pub fates_lawful : (input cat : List ℕ) → IsLawful (fates_meaning input cat)
unfolding fates_meaning fates_outcome
fates_lawful input cat = record {
  own = λ held. two_own held input cat (fates_effect (bytes_held held input) (bytes_held held cat));
  caused = λ held. two_caused held input cat (fates_effect (bytes_held held input) (bytes_held held cat));
  able = λ held can. two_able held input cat (fates_effect (bytes_held held input) (bytes_held held cat)) can;
  accomplished = λ held held' w w' bytes done. printed held held' w w' input cat (first_ending (two_input_checks held input cat)) refl done;
  written = λ held. written_by (first_ending (two_input_checks held input cat)) (bytes_held held input) (bytes_held held cat);
}

-- ---- what is printed

pub new_lines : (from : Catalogue) (v : Width) (to : Catalogue) (w : Width) (t : ℕ) → struct_named from (struct_name to t) ≡ None → new_struct_line (struct_name to t) ≡ fate_lines from v to w t
new_lines from v to w t is = rw is refl

pub common_lines : (from : Catalogue) (v : Width) (s : ℕ) (to : Catalogue) (w : Width) (t : ℕ) → struct_named from (struct_name to t) ≡ Some s → common_struct_lines from v s to w t ≡ fate_lines from v to w t
common_lines from v s to w t is = rw is refl

pub all_lines : (from : Catalogue) (v : Width) (to : Catalogue) (w : Width) → flat_map (fate_lines from v to w) (struct_numbers to) ≡ fates_text from v to w
unfolding fates_text
all_lines from v to w = refl

-- the text of the fates by the outlines of both files
abbrev pub outlined_fates : Outline → Outline → Text
outlined_fates o p = fates_text o.layout.catalogue o.layout.width p.layout.catalogue p.layout.width

text_of_outlines : (b c : List ℕ) (o p : Outline) → StandsFor b o → StandsFor c p → o.layout.width ≡ o.header.width → p.layout.width ≡ p.header.width
    → fates_of (file_in b) (file_in c) ≡ outlined_fates o p
text_of_outlines b c o p source target wide wide' =
    ap (λ (f : File). fates_of f (file_in c)) source.file
    ∙ ap (λ (f : File). fates_of (file_with o.header o.layout.catalogue o.nodes b) f) target.file
    ∙ ap (λ (v : Width). fates_text o.layout.catalogue v p.layout.catalogue p.header.width) (sym wide)
    ∙ ap (λ (v : Width). fates_text o.layout.catalogue o.layout.width p.layout.catalogue v) (sym wide')

-- how many bytes an input has that is opened
length_opened : (A : List ℕ → Type 0) (t : Told) (input : List ℕ) (bytes : Option (List ℕ)) (o : Outline) → bytes_under input t ≡ bytes → IsSomeAnd bytes (λ b. A b × StandsFor b o)
    → length (bytes_held t.held input) ≡ o.size
length_opened A t input None o is stands = absurd stands
length_opened A t input (Some b) o is stands = ap (λ (x : Option (List ℕ)). length (unwrap_or x [])) is ∙ stands.1.size

-- the outcome of two inputs that are opened
fates_known : (A B : List ℕ → Type 0) (t : Told) (input cat : List ℕ) (bytes bytes' : Option (List ℕ)) (o p : Outline) → bytes_under input t ≡ bytes → bytes_under cat t ≡ bytes'
    → first_ending (two_input_checks t.held input cat) ≡ None → o.layout.width ≡ o.header.width → p.layout.width ≡ p.header.width
    → IsSomeAnd bytes (λ b. A b × StandsFor b o) → IsSomeAnd bytes' (λ b. B b × StandsFor b p)
    → (fates_meaning input cat).outcome t.held ≡ Ok (record { file = None; text = outlined_fates o p })
unfolding fates_meaning fates_outcome
fates_known A B t input cat None bytes' o p is is' passes wide wide' source target = absurd source
fates_known A B t input cat (Some b) None o p is is' passes wide wide' source target = absurd target
fates_known A B t input cat (Some b) (Some c) o p is is' passes wide wide' source target =
    takes_effect (first_ending (two_input_checks t.held input cat)) (fates_effect (bytes_held t.held input) (bytes_held t.held cat)) passes
    ∙ ap (λ (x : Option (List ℕ)). Ok (fates_effect (unwrap_or x []) (bytes_held t.held cat))) is
    ∙ ap (λ (x : Option (List ℕ)). Ok (fates_effect b (unwrap_or x []))) is'
    ∙ ap (λ (text : Text). Ok (record { file = None; text = text })) (text_of_outlines b c o p source.1 target.1 wide wide')

module _ (A B : List ℕ → Type 0) (input cat : List ℕ) (o p : Outline) (wide : o.layout.width ≡ o.header.width) (wide' : p.layout.width ≡ p.header.width) where
  known_of : (t : Told) → open_fault 0 (bytes_under input t) ≡ None → open_fault o.size (bytes_under cat t) ≡ None
      → IsSomeAnd (bytes_under input t) (λ b. A b × StandsFor b o) → IsSomeAnd (bytes_under cat t) (λ b. B b × StandsFor b p)
      → (fates_meaning input cat).outcome t.held ≡ Ok (record { file = None; text = outlined_fates o p })
  known_of t passes passes' source target =
      let used = length_opened A t input (bytes_under input t) o refl source in
      let second = ap (λ (n : ℕ). opening_check n t.held cat) used ∙ ap (option_map (open_ending cat)) passes' in
      fates_known A B t input cat (bytes_under input t) (bytes_under cat t) o p refl refl
      (two_pass (opening_check 0 t.held input) (opening_check (length (bytes_held t.held input)) t.held cat) (ap (option_map (open_ending input)) passes) second)
      wide wide' source target

  known_in : (told : Option Told) → IfSome told (λ t. open_fault 0 (bytes_under input t) ≡ None) → IfSome told (λ t. open_fault o.size (bytes_under cat t) ≡ None)
      → IsHeldAnd told input (λ b. A b × StandsFor b o) → IsHeldAnd told cat (λ b. B b × StandsFor b p)
      → IfSome told (λ t. (fates_meaning input cat).reads_bytes t.held × ((fates_meaning input cat).outcome t.held ≡ Ok (record { file = None; text = outlined_fates o p })))
  unfolding fates_meaning
  known_in None passes passes' source target = tt
  known_in (Some t) passes passes' source target = (tt, known_of t passes passes' source target)

  -- so where the second is opened over a shelf that tells the same
  pub fates_of_inputs : (told told' : Option Told) → told' ≡ told
      → IfSome told (λ t. open_fault 0 (bytes_under input t) ≡ None) → IfSome told' (λ t. open_fault o.size (bytes_under cat t) ≡ None)
      → IsHeldAnd told input (λ b. A b × StandsFor b o) → IsHeldAnd told' cat (λ b. B b × StandsFor b p)
      → IfSome told (λ t. (fates_meaning input cat).reads_bytes t.held × ((fates_meaning input cat).outcome t.held ≡ Ok (record { file = None; text = outlined_fates o p })))
  fates_of_inputs told told' same passes passes' source target =
      known_in told passes (subst (λ (x : Option Told). IfSome x (λ t. open_fault o.size (bytes_under cat t) ≡ None)) same passes')
      source (subst (λ (x : Option Told). IsHeldAnd x cat (λ b. B b × StandsFor b p)) same target)

-- ---- inputs that aren't opened

-- the check of the first ends the command
pub fates_unopened : {S : Type 0} (g : ShelfGhosts S) (input cat : List ℕ) (s s1 : S) (e : Ending) → IsUnopened g 0 input s s1 e
    → MayMiss (fates_meaning input cat).may_miss e × IfSome (g.told s) (λ t. IsEndingOf ((fates_meaning input cat).outcome t.held) e)
unfolding fates_meaning fates_outcome
fates_unopened g input cat s s1 e not = (
  misses_wider (λ name. name ≡ input) (λ name. (name ≡ input) ⊎ (name ≡ cat)) (λ name same. inl same) e not.missed,
  IfSome_then (g.told s) not.checked (λ t is.
      first_ends (fates_effect (bytes_held t.held input) (bytes_held t.held cat)) e _ _ _ _ not.blamed.blamed
      (opening_check 0 t.held input) (opening_check (length (bytes_held t.held input)) t.held cat) is),
)

second_checked : (A : List ℕ → Type 0) (told : Option Told) (input cat : List ℕ) (o : Outline) (e : Ending) (m m' f f' : ℕ) → BlamesRisen e m m' f f' 0 0
    → IfSome told (λ t. open_fault 0 (bytes_under input t) ≡ None) → IsHeldAnd told input (λ b. A b × StandsFor b o)
    → IfSome told (λ t. IsChecked (opening_check o.size t.held cat) e) → IfSome told (λ t. IsEndingOf ((fates_meaning input cat).outcome t.held) e)
unfolding fates_meaning fates_outcome
second_checked A None input cat o e m m' f f' blames passes source checked = tt
second_checked A (Some t) input cat o e m m' f f' blames passes source checked =
    second_ends (fates_effect (bytes_held t.held input) (bytes_held t.held cat)) e m m' f f' blames
    (opening_check 0 t.held input) (opening_check (length (bytes_held t.held input)) t.held cat) (ap (option_map (open_ending input)) passes)
    (subst (λ (n : ℕ). IsChecked (opening_check n t.held cat) e) (sym (length_opened A t input (bytes_under input t) o refl source)) checked)

-- so does that of the second, where the first is opened
pub fates_unopened_second : {S : Type 0} (g : ShelfGhosts S) (A : List ℕ → Type 0) (input cat : List ℕ) (o : Outline) (s s1 s2 : S) (e : Ending) → Keeps g s s1
    → IfSome (g.told s) (λ t. open_fault 0 (bytes_under input t) ≡ None) → IsHeldAnd (g.told s) input (λ b. A b × StandsFor b o) → IsUnopened g o.size cat s1 s2 e
    → MayMiss (fates_meaning input cat).may_miss e × IfSome (g.told s) (λ t. IsEndingOf ((fates_meaning input cat).outcome t.held) e)
unfolding fates_meaning
fates_unopened_second g A input cat o s s1 s2 e keeps passes source not = (
  misses_wider (λ name. name ≡ cat) (λ name. (name ≡ input) ⊎ (name ≡ cat)) (λ name same. inr same) e not.missed,
  second_checked A (g.told s) input cat o e _ _ _ _ not.blamed.blamed passes source
      (subst (λ (told : Option Told). IfSome told (λ t. IsChecked (opening_check o.size t.held cat) e)) keeps.told not.checked),
)

pub fates_writes : (input cat : List ℕ) → (fates_meaning input cat).writes ≡ []
unfolding fates_meaning
fates_writes input cat = refl
