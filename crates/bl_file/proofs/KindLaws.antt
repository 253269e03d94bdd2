-- The kinds that are gathered of nodes are those by what addresses name, and those of a file by its own table.
use Rattle.std.proofs.Common.{◌≡◌, ℕ, List, [], ◌++◌, length, map, ap, ◌∙◌, arith}
use Rattle.std.specs.List.{enumerate_from}
use Rattle.std.specs.Prelude.{All}
use Rattle.bl_num.specs.declared.number.Width.{Width}
use Rattle.bl_format.specs.declared.file.Header.{Header}
use Rattle.bl_format.specs.declared.file.Head.{Head}
use Rattle.bl_format.specs.declared.catalogue.Catalogue.{Catalogue}
use Rattle.bl_format.specs.declared.raw.RawKind.{RawKind}
use Rattle.bl_format.specs.declared.raw.View.{View}
use Rattle.bl_format.specs.Layout.{HasLayout}
use Rattle.bl_format.specs.Nodes.{Mark}
use Rattle.bl_format.specs.Graph.{file_views}
use Rattle.bl_file.specs.declared.speakers.Speaker.{Speaker}
use Rattle.bl_file.specs.declared.views.Sight.{Sight}
use Rattle.bl_file.specs.Opening.{kinds_in}
use Rattle.bl_file.specs.Outlines.{IsNodeIn, file_with, marks_of}
use Rattle.bl_file.specs.Seen.{Namings, table_names, kind_seen, kinds_seen, views_seen}
use Rattle.bl_file.specs.Heard.{views_heard}
use Rattle.bl_file.specs.Speakers.{basic_lengths, struct_speakers}
use Rattle.bl_file.specs.Views.{raw_only, nodes_said, kinds_by, IsSight}
use Rattle.bl_file.proofs.HeardLaws.{heard_viewed, views_heard-views_seen}
use Rattle.bl_file.proofs.NodeViewLaws.{heard_law}
use Rattle.bl_file.proofs.KindLemmas.{kinds_by-kinds_seen}
use Rattle.bl_file.proofs.TableLemmas.{views_by_table}

-- the views that are gathered of all nodes give the kinds by what is heard
pub kinds_of_said : (names : Namings) (s : Sight) (n : ℕ) (b : List ℕ) (old seen : List View) (kinds : List RawKind)
    → IsSight s n → old ≡ [] → seen ≡ old ++ nodes_said names s b (length s.nodes.now) → kinds ≡ kinds_by s.nodes.now seen
    → kinds ≡ kinds_seen s.nodes.now (views_heard s.speakers.now names s.header.now s.layout.now.catalogue s.nodes.now b)
kinds_of_said names s n b old seen kinds sight empty said are =
    let h = s.header.now in
    let c = s.layout.now.catalogue in
    let nodes = s.nodes.now in
    let structs = s.speakers.now in
    let all : seen ≡ raw_only nodes (views_heard structs names h c nodes b) =
    said ∙ ap (λ vs. vs ++ nodes_said names s b (length nodes)) empty
    ∙ heard_law structs names h c nodes b n (length nodes) sight.nodes (omega arith) in
    are ∙ ap (kinds_by nodes) all ∙ kinds_by-kinds_seen nodes (views_heard structs names h c nodes b) (heard_viewed structs names h c nodes b sight.heard)

-- heard by the leaves of the file's own catalogue, they are the kinds by what its pointers say
pub kinds_of_own : (names : Namings) (h : Header) (c : Catalogue) (w : Width) (nodes : List Head) (structs : List (List Speaker)) (b : List ℕ) (n : ℕ) (kinds : List RawKind)
    → w ≡ h.width → HasLayout c w → All (IsNodeIn h c n) nodes → structs ≡ struct_speakers c w (basic_lengths c) → length b ≡ n
    → kinds ≡ kinds_seen nodes (views_heard structs names h c nodes b) → kinds ≡ kinds_seen nodes (views_seen names h c nodes b)
kinds_of_own names h c w nodes structs b n kinds width has all own long are =
    are ∙ ap (λ ss. kinds_seen nodes (views_heard ss names h c nodes b)) own
    ∙ ap (kinds_seen nodes) (views_heard-views_seen names h c w nodes b n width has all long)

-- the kinds of a file are those by all its views
file_kinds : (h : Header) (c : Catalogue) (nodes : List Head) (b : List ℕ) (views : List View)
    → views ≡ file_views (file_with h c nodes b) → kinds_seen nodes views ≡ kinds_in (file_with h c nodes b)
unfolding kinds_in kinds_seen
file_kinds h c nodes b views are = ap (λ vs. map (λ (p : ℕ × Head). kind_seen vs p.0 p.1) (enumerate_from 0 nodes)) are

-- so are those by the table of its nodes
pub kinds_by_table : (h : Header) (c : Catalogue) (nodes : List Head) (table : List Mark) (b : List ℕ) (kinds : List RawKind)
    → table ≡ marks_of h c nodes → kinds ≡ kinds_seen nodes (views_seen (table_names table) h c nodes b)
    → kinds ≡ kinds_in (file_with h c nodes b)
kinds_by_table h c nodes table b kinds is are =
    are ∙ file_kinds h c nodes b (views_seen (table_names table) h c nodes b) (views_by_table h c nodes table b is)
