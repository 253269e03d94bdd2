-- The command `convert IN OUT`, with or without `--like CAT`, `--width` and `--order`: the rebuilt graph of IN under the
-- catalogue and the version of CAT, or of IN itself, in the width and the order that are given, or in IN's, under the name
-- OUT. This project's own.
use Rattle.std.specs.Prelude.{◌≡◌, ◌<◌, ◌⊎◌, ⊤, ℕ, Bool, true, false, not, ◌||◌, if◌then◌else◌, All, List, [], ◌∷◌, ◌++◌, length, Option, Some, None, is_some, option_map, unwrap_or, IsSomeAnd, Result}
use Rattle.std.specs.FinMap.{get, insert}
use Rattle.bl_num.specs.declared.number.Order.{Order}
use Rattle.bl_num.specs.declared.number.Width.{Width}
use Rattle.bl_format.specs.declared.layout.LayoutFault.{LayoutFault}
use Rattle.bl_format.specs.declared.layout.LayoutFault.TheVariants.{TooLong}
use Rattle.bl_format.specs.Nodes.{File}
use Rattle.bl_format.specs.Rewidth.{rewidth_fault}
use Rattle.bl_selection.specs.declared.draft.Draft.{Draft}
use Rattle.bl_selection.specs.Selection.{selection_clash, whole_selection}
use Rattle.bl_selection.specs.OutputSizes.{OutputFault, output_fault}
use Rattle.bl_selection.specs.Committed.{IsConverted, target_catalogue, target_header}
use Rattle.bl_commands.specs.declared.ending.Ending.{Ending}
use Rattle.bl_commands.specs.declared.ending.Ending.TheVariants as endings
use Rattle.bl_commands.specs.declared.ending.Ending.TheVariants.{PastLimit}
use Rattle.bl_commands.specs.declared.ending.Quantity.TheVariants.{TypeBytes}
use Rattle.bl_commands.specs.Checks.{first_ending}
use Rattle.bl_answers.specs.Writing.{float_cast_ending, output_ending, writing_refusal}
use Rattle.bl_shelf.specs.Told.{Held}
use Rattle.bl_file.specs.Opening.{file_in}
use Rattle.bl_run.specs.Input.{bytes_held, input_checks, two_input_checks, IsReadable, AreReadable, IsHeldAs, HasInputCause}
use Rattle.bl_run.specs.Meaning.{Effect, Meaning, unless_ending}
use Rattle.bl_run.specs.Rendering.{draft_effect}

-- ---- what is written

-- the file that is held under a name
abbrev pub file_under : Held → List ℕ → File
file_under held name = file_in (bytes_held held name)

-- the file CAT, if it is given
abbrev pub like_under : Held → Option (List ℕ) → Option File
like_under held like = option_map (file_under held) like

-- the selection of all nodes of a file that a catalogue keeps, under the header and the catalogue that are wanted
abbrev pub convert_draft : File → Option File → Option Width → Option Order → Draft
convert_draft f like width order = whole_selection f (target_header f like width order) (target_catalogue f like width)

-- the effect under the word OUT
abbrev pub convert_effect : File → Option File → Option Width → Option Order → List ℕ → Effect
convert_effect f like width order out = draft_effect (f ∷ []) (convert_draft f like width order) out

-- ---- the checks

-- no option is given
abbrev pub is_plain : Option (List ℕ) → Option Width → Option Order → Bool
is_plain like width order = not (is_some like || is_some width || is_some order)

-- the first struct that is too long for a type at the width that is wanted
abbrev pub width_fault : File → Option File → Option Width → Option LayoutFault
width_fault f like width =
    let from = unwrap_or like f in
    rewidth_fault from.catalogue from.header.width (unwrap_or width f.header.width)

-- how a run ends for one; there is no other fault of a width
abbrev pub width_ending : LayoutFault → Ending
width_ending (TooLong n) = PastLimit TypeBytes n
width_ending _ = endings.NoMemory

-- the checks of what is written
abbrev pub form_checks : File → Option File → Option Width → Option Order → List (Option Ending)
form_checks f like width order =
    option_map width_ending (width_fault f like width) ∷ writing_refusal (f ∷ []) (convert_draft f like width order) ∷ []

-- the checks of the inputs
abbrev pub opening_checks : Held → List ℕ → Option (List ℕ) → List (Option Ending)
opening_checks held input None = input_checks held input
opening_checks held input (Some cat) = two_input_checks held input cat

-- the checks of a conversion; without an option no struct is too long, nothing clashes, and no limit is passed
abbrev pub convert_checks : Held → List ℕ → Option (List ℕ) → Option Width → Option Order → List (Option Ending)
convert_checks held input like width order =
    opening_checks held input like
    ++ (if is_plain like width order then [] else form_checks (file_under held input) (like_under held like) width order)

-- the first check that gives an ending, or the effect
unfoldable pub convert_outcome : Held → List ℕ → List ℕ → Option (List ℕ) → Option Width → Option Order → Result Effect Ending
convert_outcome held input out like width order =
    unless_ending (first_ending (convert_checks held input like width order))
    (convert_effect (file_under held input) (like_under held like) width order out)

-- ---- what is accomplished

-- IN is held, and CAT if it is given, and these bytes are what IN is converted to by CAT's bytes, the width and the order
pub record IsConvertedFrom (held : Held) (input : List ℕ) (like : Option (List ℕ)) (width : Option Width) (order : Option Order) (new : List ℕ)
    : Type 0 where
  pub old : List ℕ
  pub like_bytes : Option (List ℕ)
  pub input_held : get held input ≡ Some old
  pub like_held : option_map (get held) like ≡ option_map Some like_bytes
  pub conversion : IsConverted old like_bytes width order new

-- what is held afterwards is what was held, with a conversion of the input under the output's name
pub record IsCommitted (held : Held) (held' : Option Held) (input out : List ℕ) (like : Option (List ℕ)) (width : Option Width)
    (order : Option Order) : Type 0 where
  pub new : List ℕ
  pub converted : IsConvertedFrom held input like width order new
  pub committed : held' ≡ Some (insert held out new)

-- ---- when it can be done

-- the inputs can be read
abbrev pub AreInputsReadable : Held → List ℕ → Option (List ℕ) → Type 0
AreInputsReadable held input None = IsReadable held input
AreInputsReadable held input (Some cat) = AreReadable held input cat

-- no struct is too long, no float would become another number, and the output passes no limit
pub record CanBeWritten (f : File) (like : Option File) (width : Option Width) (order : Option Order) : Type 0 where
  pub fits : width_fault f like width ≡ None
  pub no_clash : selection_clash (f ∷ []) (convert_draft f like width order) ≡ None
  pub no_fault : output_fault (f ∷ []) (convert_draft f like width order) ≡ None

-- without an option there is nothing more to it
abbrev pub CanBeFormed : Bool → File → Option File → Option Width → Option Order → Type 0
CanBeFormed true f like width order = ⊤
CanBeFormed false f like width order = CanBeWritten f like width order

-- the inputs can be read, and what is wanted can be written
abbrev pub CanBeConverted : Held → List ℕ → Option (List ℕ) → Option Width → Option Order → Type 0
CanBeConverted held input like width order =
    AreInputsReadable held input like
    × CanBeFormed (is_plain like width order) (file_under held input) (like_under held like) width order

-- ---- why it is refused

-- an input isn't held or has a fault
abbrev pub HasOpeningCause : Held → List ℕ → Option (List ℕ) → Ending → Type 0
HasOpeningCause held input None ending = HasInputCause 0 held input ending
HasOpeningCause held input (Some cat) ending =
    HasInputCause 0 held input ending ⊎ HasInputCause (length (bytes_held held input)) held cat ending

-- a struct is too long at the width that is wanted, and the ending tells its length
abbrev pub IsTooLong : File → Option File → Option Width → Ending → Type 0
IsTooLong f like width ending = (fault : LayoutFault) × (width_fault f like width ≡ Some fault) × (ending ≡ width_ending fault)

-- a draft of some files has a float that would become another number, and the ending names it
abbrev pub IsClash : List File → Draft → Ending → Type 0
IsClash files d ending =
    (place : ℕ × ℕ) × (selection_clash files d ≡ Some place) × (ending ≡ float_cast_ending d.catalogue place)

-- the output of a draft of some files passes a limit, and the ending names it
abbrev pub IsOutputFault : List File → Draft → Ending → Type 0
IsOutputFault files d ending = (fault : OutputFault) × (output_fault files d ≡ Some fault) × (ending ≡ output_ending fault)

-- the file CAT is held as this, if it is given
abbrev pub IsLikeHeldAs : Held → Option (List ℕ) → Option File → Type 0
IsLikeHeldAs held None None = ⊤
IsLikeHeldAs held (Some cat) (Some f) = IsHeldAs held cat f
IsLikeHeldAs held _ _ = ⊥

-- the inputs are accepted, and a length, a float or a limit is in the way
pub record IsUnwritten (held : Held) (input : List ℕ) (like : Option (List ℕ)) (width : Option Width) (order : Option Order) (ending : Ending)
    : Type 0 where
  pub from : File
  pub model : Option File
  pub source : IsHeldAs held input from
  pub target : IsLikeHeldAs held like model
  pub why : IsTooLong from model width ending
      ⊎ (IsClash (from ∷ []) (convert_draft from model width order) ending ⊎ IsOutputFault (from ∷ []) (convert_draft from model width order) ending)

-- with an option there may be more in the way than the inputs
abbrev pub HasFormCause : Bool → Held → List ℕ → Option (List ℕ) → Option Width → Option Order → Ending → Type 0
HasFormCause true held input like width order ending = HasOpeningCause held input like ending
HasFormCause false held input like width order ending =
    HasOpeningCause held input like ending ⊎ IsUnwritten held input like width order ending

-- an input isn't held or has a fault, or with an option what is wanted can't be written
abbrev pub HasConvertCause : Held → List ℕ → Option (List ℕ) → Option Width → Option Order → Ending → Type 0
HasConvertCause held input like width order ending = HasFormCause (is_plain like width order) held input like width order ending

-- the meaning of the command with the words IN and OUT, and with CAT, a width and an order where they are given
unfoldable pub convert_meaning : List ℕ → List ℕ → Option (List ℕ) → Option Width → Option Order → Meaning
convert_meaning input out like width order = record {
  writes = out ∷ [];
  may_miss = λ file. (file ≡ input) ⊎ IsSomeAnd like (λ cat. file ≡ cat);
  outcome = λ held. convert_outcome held input out like width order;
  reads_bytes = λ held.
      All (λ byte. byte < 256) (bytes_held held input) × All (λ byte. byte < 256) (bytes_held held (unwrap_or like input));
  accomplishes = λ held held' written written'. IsCommitted held held' input out like width order;
  can_be_done = λ held. CanBeConverted held input like width order;
  has_cause = λ held ending. HasConvertCause held input like width order ending;
}
