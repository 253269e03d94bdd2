-- Bytes are accepted as one file at most. So they are converted in one way with no option, to the written form of the
-- graph that they have, and what stands is converted to itself.
use Rattle.std.proofs.Common.{◌≡◌, ℕ, ◌<◌, All, List, [], ◌∷◌, Option, Some, None, Result, Ok, refl, sym, ap, subst, ◌∙◌}
use Rattle.std.specs.Prelude.{option_map}
use Rattle.bl_format.specs.declared.file.Header.{Header}
use Rattle.bl_format.specs.declared.file.Head.{Head}
use Rattle.bl_format.specs.declared.catalogue.Catalogue.{Catalogue}
use Rattle.bl_format.specs.declared.catalogue.SdnaFault.{SdnaFault}
use Rattle.bl_format.specs.Schema.{catalogue_of}
use Rattle.bl_format.specs.Layout.{HasLayout}
use Rattle.bl_format.specs.Nodes.{File, payload, catalogues_in, nodes_in, Accepted}
use Rattle.bl_format.specs.Graph.{Node, graph}
use Rattle.bl_format.proofs.OneReading.{Reads-same}
use Rattle.bl_selection.specs.Written.{written_form}
use Rattle.bl_selection.specs.Committed.{Stands, target_header, target_catalogue, IsRebuilt, IsConverted}
use Rattle.bl_selection.proofs.SameWidth.{rewidth-same}
use Rattle.bl_selection.proofs.OwnFormGraph.{accepted-CanBeRead, rebuilt_graph-own}
use Rattle.bl_selection.proofs.OwnForm.{own_form-again}

-- ---- one file

place_is : (xs : List Head) (x y : Head) → xs ≡ x ∷ [] → xs ≡ y ∷ [] → x ≡ y
place_is xs x y p q = let e : ◌≡◌ {A = List Head} (x ∷ []) (y ∷ []) = sym p ∙ q in cc

catalogue_is : (r : Result Catalogue SdnaFault) (c d : Catalogue) → r ≡ Ok c → r ≡ Ok d → c ≡ d
catalogue_is r c d p q = let e : ◌≡◌ {A = Result Catalogue SdnaFault} (Ok c) (Ok d) = sym p ∙ q in cc

-- bytes are accepted as one file at most
pub accepted-same : (b : List ℕ) (f g : File) → Accepted b f → Accepted b g → f ≡ g
accepted-same b f g first second =
    let p = first.reads in
    let q = second.reads in
    let same = Reads-same b f.header g.header first.blocks second.blocks p.reads q.reads in
    let header : f.header ≡ g.header = same.0 in
    let blocks : first.blocks ≡ second.blocks = same.1 in
    let place : p.place ≡ q.place = place_is (catalogues_in second.blocks) p.place q.place (sym (ap catalogues_in blocks) ∙ p.one_catalogue) q.one_catalogue in
    let read : catalogue_of f.header.order (payload f.header b p.place) ≡ catalogue_of g.header.order (payload g.header b q.place) = λ i. catalogue_of (header i).order (payload (header i) b (place i)) in
    let catalogue : f.catalogue ≡ g.catalogue = catalogue_is (catalogue_of g.header.order (payload g.header b q.place)) f.catalogue g.catalogue (sym read ∙ p.catalogue) q.catalogue in
    let nodes : f.nodes ≡ g.nodes = first.nodes ∙ ap nodes_in blocks ∙ sym second.nodes in
    let bytes : f.bytes ≡ g.bytes = first.bytes ∙ sym second.bytes in
    λ i. record { header = header i; catalogue = catalogue i; nodes = nodes i; bytes = bytes i }

-- ---- one conversion with no option

-- no file is there where no bytes are given
pub none_given : (like : Option File) → option_map (λ (f : File). f.bytes) like ≡ None → like ≡ None
none_given None is = refl
none_given (Some f) is = cc

-- what a file is converted to with no option is rebuilt under its own header and catalogue
converted-rebuilt : (b new : List ℕ) (is : IsConverted b None None None new) → All (λ x. x < 256) b → IsRebuilt is.file is.file.header is.file.catalogue new
converted-rebuilt b new is bytes =
    let f : File = is.file in
    let none : is.like_file ≡ None = none_given is.like_file is.likewise.0 in
    let stands : IsRebuilt f (target_header f None None None) (target_catalogue f None None) new = subst (λ (like : Option File). IsRebuilt f (target_header f like None None) (target_catalogue f like None) new) none is.stands in
    let layout : HasLayout f.catalogue f.header.width = record { can_be_read = accepted-CanBeRead b f bytes is.accepted; no_fault = is.accepted.no_layout_fault } in
    subst (λ (c : Catalogue). IsRebuilt f f.header c new) (rewidth-same f.catalogue f.header.width layout) stands

-- what a file is converted to with no option is the written form of the file's own graph
pub converted-own_form : (b new : List ℕ) (f : File) → All (λ x. x < 256) b → Accepted b f → IsConverted b None None None new
    → new ≡ written_form f.header f.catalogue (graph f)
converted-own_form b new f bytes accepted is =
    let g : File = is.file in
    let written : new ≡ written_form g.header g.catalogue (graph g) = (converted-rebuilt b new is bytes).written ∙ ap (written_form g.header g.catalogue) (rebuilt_graph-own b g bytes is.accepted) in
    subst (λ (x : File). new ≡ written_form x.header x.catalogue (graph x)) (accepted-same b g f is.accepted accepted) written

-- ---- the laws

-- what stands is converted with no option to the same bytes
pub stands-converted : (b new : List ℕ) (h : Header) (c : Catalogue) (nodes : List Node) → All (λ x. x < 256) b → Stands b h c nodes → IsConverted b None None None new
    → new ≡ b
stands-converted b new h c nodes bytes stands is = converted-own_form b new stands.file bytes stands.accepted is ∙ own_form-again b h c nodes stands

-- what is converted with no option and converted so again is the same bytes
pub converted-again : (a b c : List ℕ) → All (λ x. x < 256) b → IsConverted a None None None b
    → IsConverted b None None None c → c ≡ b
converted-again a b c bytes first second = stands-converted b c _ _ _ bytes first.stands second
