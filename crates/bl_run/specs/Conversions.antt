-- What the steps of a conversion say, whatever the words IN and OUT are. This project's own.
use Rattle.std.specs.Prelude.{◌≡◌, ◌⊎◌, ℕ, List, Option, Some, None, unwrap_or, IfSome}
use Rattle.bl_num.specs.declared.number.Order.{Order}
use Rattle.bl_num.specs.declared.number.Width.{Width}
use Rattle.bl_format.specs.declared.file.Header.{Header}
use Rattle.bl_format.specs.declared.catalogue.Catalogue.{Catalogue}
use Rattle.bl_format.specs.declared.layout.LayoutFault.{LayoutFault}
use Rattle.bl_format.specs.Rewidth.{rewidth, rewidth_fault}
use Rattle.bl_selection.specs.declared.draft.Draft.{Draft}
use Rattle.bl_selection.specs.Selection.{whole_selection}
use Rattle.bl_commands.specs.declared.ending.Ending.{Ending}
use Rattle.bl_commands.specs.declared.ending.Ending.TheVariants as endings
use Rattle.bl_shelf.specs.Told.{Told, bytes_under}
use Rattle.bl_shelf.specs.declared.shelf.Shelf.{Ghosts as ShelfGhosts}
use Rattle.bl_file.specs.declared.outline.Outline.{Outline}
use Rattle.bl_file.specs.declared.payload.Payload.{Ghosts}
use Rattle.bl_file.specs.Held.{IsHeldAnd}
use Rattle.bl_file.specs.Opening.{open_fault}
use Rattle.bl_file.specs.Outlines.{StandsFor}
use Rattle.bl_draft.specs.Own.{outlined}
use Rattle.bl_run.specs.Commands.Convert.{convert_meaning, width_ending}
use Rattle.bl_run.specs.Opened.{IsInput}
use Rattle.bl_run.specs.Rendering.{WritesDraft}
use Rattle.bl_run.specs.Staging.{IsUnready}

-- ---- what is wanted

-- the width that is wanted of a file, or its own
abbrev pub wanted_width : Outline → Option Width → Width
wanted_width o width = unwrap_or width o.header.width

-- the header that is wanted, by a model's version
abbrev pub wanted_header : Outline → Outline → Option Width → Option Order → Header
wanted_header o q width order = record { width = wanted_width o width; order = unwrap_or order o.header.order; version = q.header.version }

-- the model's catalogue at the width that is wanted
abbrev pub wanted_catalogue : Outline → Outline → Option Width → Catalogue
wanted_catalogue o q width = rewidth q.layout.catalogue q.header.width (wanted_width o width)

-- what is too long in it
abbrev pub wanted_fault : Outline → Outline → Option Width → Option LayoutFault
wanted_fault o q width = rewidth_fault q.layout.catalogue q.header.width (wanted_width o width)

-- a draft has all nodes of an outline's file that this keeps, under it
abbrev pub IsFormDraft : Outline → Outline → Option Width → Option Order → Draft → Type 0
IsFormDraft o q width order d = (b : List ℕ) → d ≡ whole_selection (outlined o b) (wanted_header o q width order) (wanted_catalogue o q width)

-- there is no draft: for want of memory, or since a struct is too long
abbrev pub IsUnformed : Outline → Outline → Option Width → Ending → Type 0
IsUnformed o q width ending =
    (ending ≡ endings.NoMemory) ⊎ ((fault : LayoutFault) × (wanted_fault o q width ≡ Some fault) × (ending ≡ width_ending fault))

-- the model of a file is itself, or the file CAT, which was opened behind it, where a shelf tells this
abbrev pub IsModel : Option Told → Option (List ℕ) → Outline → Outline → Type 0
IsModel told None o q = q ≡ o
IsModel told (Some cat) o q = IsHeldAnd told cat (λ c. StandsFor c q) × IfSome told (λ t. open_fault o.size (bytes_under cat t) ≡ None)

-- ---- what becomes of it

-- a conversion writes a draft of the opened file, by what is wanted
abbrev pub IsConversionDraft : {S P : Type 0} → ShelfGhosts S → Ghosts P → Option (List ℕ) → Option Width → Option Order → S → Outline → P → Draft → Type 0
IsConversionDraft g h like width order s o p d =
    (input name : List ℕ) → IsInput g h input s o p → WritesDraft g (convert_meaning input name like width order) input name s d

-- a conversion of the opened file ends so
abbrev pub IsNoConversion : {S P : Type 0} → ShelfGhosts S → Ghosts P → Option (List ℕ) → Option Width → Option Order → S → S → Outline → P → Ending → Type 0
IsNoConversion g h like width order s s' o p ending =
    (input name : List ℕ) → IsInput g h input s o p → IsUnready g (convert_meaning input name like width order) name s s' ending
