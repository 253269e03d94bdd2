-- What a committed file is: accepted, with a header, a catalogue and a graph that are given, in their
-- written form; and what convert commits. This project's own.
use Rattle.std.specs.Prelude.{◌≡◌, ℕ, List, [], ◌∷◌, Option, None, option_map, unwrap_or, IfSome}
use Rattle.bl_num.specs.declared.number.Order.{Order}
use Rattle.bl_num.specs.declared.number.Width.{Width}
use Rattle.bl_format.specs.declared.file.Header.{Header}
use Rattle.bl_format.specs.declared.catalogue.Catalogue.{Catalogue}
use Rattle.bl_format.specs.Nodes.{File, Accepted}
use Rattle.bl_format.specs.Graph.{Node, graph}
use Rattle.bl_format.specs.Rewidth.{rewidth}
use Rattle.bl_selection.specs.Selection.{rebuilt_graph, selection_clash, whole_selection}
use Rattle.bl_selection.specs.Written.{written_form}

-- the bytes are accepted, have this header, catalogue and graph, and are their one written form
pub record Stands (b : List ℕ) (h : Header) (c : Catalogue) (g : List Node) : Type 0 where
  pub file : File
  pub accepted : Accepted b file
  pub header : file.header ≡ h
  pub catalogue : file.catalogue ≡ c
  pub graph_is : graph file ≡ g
  pub written : b ≡ written_form h c g

-- ---- convert

-- the header of a converted file: width and order are the options', else IN's; the version is CAT's, else
-- IN's
abbrev pub target_header : File → Option File → Option Width → Option Order → Header
target_header f like width order = record f.header {
  width = unwrap_or width f.header.width;
  order = unwrap_or order f.header.order;
  version = (unwrap_or like f).header.version;
}

-- the catalogue of a converted file: CAT's, else IN's, at the width of the header
abbrev pub target_catalogue : File → Option File → Option Width → Catalogue
target_catalogue f like width =
    let from = unwrap_or like f in
    rewidth from.catalogue from.header.width (unwrap_or width f.header.width)

-- bytes that may be given are accepted as a file that is there exactly where they are
abbrev pub AcceptedIfGiven : Option (List ℕ) → Option File → Type 0
AcceptedIfGiven bytes file =
    (option_map (λ (f : File). f.bytes) file ≡ bytes) × IfSome file (λ f. Accepted f.bytes f)

-- some bytes are those of a rebuilt graph, under a header and a catalogue
abbrev pub IsRebuilt : File → Header → Catalogue → List ℕ → Type 0
IsRebuilt f h c new = Stands new h c (rebuilt_graph f h c)

-- no float of a file's nodes becomes another number under a header and a catalogue
abbrev pub KeepsFloats : File → Header → Catalogue → Type 0
KeepsFloats f h c = selection_clash (f ∷ []) (whole_selection f h c) ≡ None

-- the bytes that convert commits, by those of IN and of CAT, the width and the order
pub record IsConverted
    (old : List ℕ) (like : Option (List ℕ)) (width : Option Width) (order : Option Order) (new : List ℕ)
    : Type 0 where
  pub file : File
  pub accepted : Accepted old file
  pub like_file : Option File
  pub likewise : AcceptedIfGiven like like_file
  pub no_clash : KeepsFloats file (target_header file like_file width order)
      (target_catalogue file like_file width)
  pub stands : IsRebuilt file (target_header file like_file width order)
      (target_catalogue file like_file width) new
