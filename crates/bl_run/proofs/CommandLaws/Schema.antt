-- The meaning of `schema` is lawful: what is done of an accepted input is the print of its catalogue.
use Rattle.std.proofs.Common.{◌≡◌, ℕ, List, [], ◌++◌, length, Option, Some, None, Ok, refl, ap, subst, ◌∙◌}
use Rattle.std.specs.Prelude.{IfOk, IfSome, IsSomeAnd, flat_map, unwrap_or}
use Rattle.std.proofs.lemmas.Option.{IfSome_then}
use Rattle.bl_num.specs.declared.number.Width.{Width}
use Rattle.bl_format.specs.declared.file.Header.{Header}
use Rattle.bl_format.specs.declared.catalogue.Catalogue.{Catalogue}
use Rattle.bl_format.specs.Layout.{struct_numbers}
use Rattle.bl_format.specs.Nodes.{File}
use Rattle.bl_answers.specs.Schema.{schema_line, schema_text, struct_lines}
use Rattle.bl_commands.specs.declared.ending.Ending.{Ending}
use Rattle.bl_commands.specs.Checks.{first_ending}
use Rattle.bl_commands.specs.Texts.{Text}
use Rattle.bl_shelf.specs.Told.{Held, Told, bytes_under}
use Rattle.bl_shelf.specs.declared.shelf.Shelf.{Ghosts as ShelfGhosts}
use Rattle.bl_shelf.specs.Written.{Grows}
use Rattle.bl_file.specs.declared.outline.Outline.{Outline}
use Rattle.bl_file.specs.Held.{IsHeldAnd}
use Rattle.bl_file.specs.Opening.{header_in, catalogue_in, file_in, open_fault}
use Rattle.bl_file.specs.Outlines.{StandsFor}
use Rattle.bl_run.specs.Blame.{IsEndingOf, MayMiss}
use Rattle.bl_run.specs.Input.{bytes_held, opening_check, input_checks}
use Rattle.bl_run.specs.Meaning.{IsDone, IsLawful, names_of_files, unless_ending}
use Rattle.bl_run.specs.Opened.{IsUnopened}
use Rattle.bl_run.specs.Commands.Schema.{schema_effect, schema_meaning, schema_outcome, IsPrinted}
use Rattle.bl_run.proofs.Inputs.{input_passed, input_able, input_own, input_caused, one_ends, takes_effect}
use Rattle.bl_run.proofs.Opens.{input_passes}

printed : (held : Held) (held' : Option Held) (w w' : Option Text) (input : List ℕ)
    → (first : Option Ending) → first_ending (input_checks held input) ≡ first → IsDone (unless_ending first (schema_effect (bytes_held held input))) held held' w w' → IsPrinted held held' w w' input
printed held held' w w' input (Some e) is done = absurd done
printed held held' w w' input None is done =
    let passed = input_passed held input is in
    record {
      old = passed.b;
      file = file_in passed.b;
      input_held = passed.is_held;
      accepted = record { accepted = passed.accepted; few = passed.few };
      printed = subst (λ (b : List ℕ). Grows w (schema_text (header_in b) (catalogue_in b)) w') passed.bytes done.1;
      kept = done.0;
    }

written_by : (first : Option Ending) (b : List ℕ) → IfOk (unless_ending first (schema_effect b)) (λ effect. names_of_files effect.file ≡ [])
written_by (Some e) b = tt
written_by None b = refl

pub schema_lawful : (input : List ℕ) → IsLawful (schema_meaning input)
unfolding schema_meaning schema_outcome
schema_lawful input = record {
  own = λ held. input_own held input (schema_effect (bytes_held held input));
  caused = λ held. input_caused held input (schema_effect (bytes_held held input));
  able = λ held can. input_able held input (schema_effect (bytes_held held input)) can;
  accomplished = λ held held' w w' bytes done. printed held held' w w' input (first_ending (input_checks held input)) refl done;
  written = λ held. written_by (first_ending (input_checks held input)) (bytes_held held input);
}

-- ---- what is printed

-- the text of schema at the header's width
pub schema_text_at : (h : Header) (c : Catalogue) (v : Width) → v ≡ h.width → schema_text h c ≡ schema_line h (length c.names) (length c.types) (length c.structs) ++ flat_map (struct_lines c v) (struct_numbers c)
unfolding schema_text
schema_text_at h c v is = rw is refl

-- the outcome of an input that is opened
schema_known : (A : List ℕ → Type 0) (t : Told) (input : List ℕ) (bytes : Option (List ℕ)) (o : Outline) → bytes_under input t ≡ bytes → first_ending (input_checks t.held input) ≡ None
    → IsSomeAnd bytes (λ b. A b × StandsFor b o) → (schema_meaning input).outcome t.held ≡ Ok (record { file = None; text = schema_text o.header o.layout.catalogue })
unfolding schema_meaning schema_outcome
schema_known A t input None o is passes stands = absurd stands
schema_known A t input (Some b) o is passes stands =
    takes_effect (first_ending (input_checks t.held input)) (schema_effect (bytes_held t.held input)) passes
    ∙ ap (λ (x : Option (List ℕ)). Ok (schema_effect (unwrap_or x []))) is
    ∙ ap (λ (f : File). Ok (record { file = None; text = schema_text f.header f.catalogue })) stands.1.file

pub schema_of_input : (A : List ℕ → Type 0) (told : Option Told) (input : List ℕ) (o : Outline) → IfSome told (λ t. open_fault 0 (bytes_under input t) ≡ None)
    → IsHeldAnd told input (λ b. A b × StandsFor b o)
    → IfSome told (λ t. (schema_meaning input).reads_bytes t.held × ((schema_meaning input).outcome t.held ≡ Ok (record { file = None; text = schema_text o.header o.layout.catalogue })))
unfolding schema_meaning
schema_of_input A None input o passes stands = tt
schema_of_input A (Some t) input o passes stands = (tt, schema_known A t input (bytes_under input t) o refl (input_passes (Some t) input passes) stands)

-- the checks of an input that isn't opened end it
pub schema_unopened : {S : Type 0} (g : ShelfGhosts S) (input : List ℕ) (s s1 : S) (e : Ending) → IsUnopened g 0 input s s1 e
    → MayMiss (schema_meaning input).may_miss e × IfSome (g.told s) (λ t. IsEndingOf ((schema_meaning input).outcome t.held) e)
unfolding schema_meaning schema_outcome
schema_unopened g input s s1 e not =
    (not.missed, IfSome_then (g.told s) not.checked (λ t is. one_ends (schema_effect (bytes_held t.held input)) e _ _ _ _ not.blamed.blamed (opening_check 0 t.held input) is))

pub schema_writes : (input : List ℕ) → (schema_meaning input).writes ≡ []
unfolding schema_meaning
schema_writes input = refl
