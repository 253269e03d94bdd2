-- What is so of the nodes of a file by that by which its pointers are read.
use Rattle.std.proofs.Common.{◌≡◌, ◌≢◌, ◌<◌, inl, inr, ℕ, ◌^◌, false, cond, List, [], length, get_or, sym, ap, ◌∙◌, arith, eqb-true}
use Rattle.std.specs.Prelude.{◌==◌}
use Rattle.std.proofs.lemmas.Bool.{cases_lt, false_from_ne_true}
use Rattle.std.proofs.lemmas.List.{get_or_past, get_or_default}
use Rattle.bl_num.specs.declared.number.Width.{Width}
use Rattle.bl_format.specs.declared.file.Head.{Head}
use Rattle.bl_format.specs.declared.file.Header.{Header}
use Rattle.bl_format.specs.declared.catalogue.Catalogue.{Catalogue}
use Rattle.bl_format.specs.declared.catalogue.TypeEntry.{TypeEntry}
use Rattle.bl_format.specs.Layout.{HasLayout, struct_entry, struct_length}
use Rattle.bl_format.proofs.CatalogueRead.{IsCatalogue-catalogue_of}
use Rattle.bl_selection.specs.Selection.{no_head}
use Rattle.bl_file.specs.declared.views.Sight.{Sight}
use Rattle.bl_format.specs.Graph.{Target, Naming}
use Rattle.bl_file.specs.declared.speakers.Speaker.{Speaker}
use Rattle.bl_file.specs.Seen.{Namings}
use Rattle.bl_file.specs.Views.{elements_said, node_said, node_at_said}
use Rattle.bl_file.proofs.ViewLaws.{flat_map-nothing}

-- a type has fewer than 2^16 bytes, and so has an element of any struct
pub struct_short : (c : Catalogue) (w : Width) (s : ℕ) → HasLayout c w → struct_length c s < 2 ^ 16
struct_short c w s has =
    let read = has.can_be_read in
    let fits = (IsCatalogue-catalogue_of read.order read.payload c read.bytes read.reads).lengths_fit in
    let t : ℕ = (struct_entry c s).type_number in
    let none : TypeEntry = record { name = []; length = 0 } in
    elim (cases_lt t (length c.types)) [
      | inl lt ↦ fits t none lt
      | inr ge ↦ (let empty : struct_length c s ≡ 0 = ap (λ (e : TypeEntry). e.length) (get_or_past c.types t none ge) in omega (arith, empty))
    ]

-- a buffer of so many bytes has room for an element
pub length_short : (c : Catalogue) (w : Width) (s n : ℕ) → n ≡ struct_length c s → HasLayout c w → n < 2 ^ 16
length_short c w s n is has = omega (arith, is, struct_short c w s has)

-- what the elements of a struct node say is what the node says
pub node_is_said : (names : Namings) (s : Sight) (b : List ℕ) (k : ℕ) (d : Head) (e speakers : List Speaker) → k < length s.nodes.now
    → (get_or s.nodes.now k d).index ≢ 0 → (get_or s.nodes.now k d).index < length s.speakers.now
    → speakers ≡ get_or s.speakers.now (get_or s.nodes.now k d).index e
    → elements_said speakers s.nodes.now (names k) s.header.now s.layout.now.catalogue (get_or s.nodes.now k d) b (get_or s.nodes.now k d).count
    ≡ node_at_said names s b k
node_is_said names s b k d e speakers lt some below are =
    let c = s.layout.now.catalogue in
    let x = get_or s.nodes.now k d in
    let struct : (x.index == 0) ≡ false = false_from_ne_true (x.index == 0) (λ raw. some (eqb-true x.index 0 raw)) in
    ap (λ ss. elements_said ss s.nodes.now (names k) s.header.now c x b x.count)
    (are ∙ get_or_default s.speakers.now x.index e [] below)
    ∙ ap (λ t. cond t [] (elements_said (get_or s.speakers.now x.index []) s.nodes.now (names k) s.header.now c x b x.count)) (sym struct)
    ∙ ap (λ y. node_said s.speakers.now s.nodes.now (names k) s.header.now c y b) (get_or_default s.nodes.now k d no_head lt)

-- a raw node says nothing
pub raw_is_silent : (names : Namings) (s : Sight) (b : List ℕ) (k : ℕ) (d : Head) → k < length s.nodes.now
    → (get_or s.nodes.now k d).index ≡ 0 → [] ≡ node_at_said names s b k
raw_is_silent names s b k d lt raw =
    let c = s.layout.now.catalogue in
    let x = get_or s.nodes.now k d in
    ap (λ i. cond (i == 0) [] (elements_said (get_or s.speakers.now x.index []) s.nodes.now (names k) s.header.now c x b x.count)) (sym raw)
    ∙ ap (λ y. node_said s.speakers.now s.nodes.now (names k) s.header.now c y b) (get_or_default s.nodes.now k d no_head lt)

-- no element says anything where no leaf does
pub silent_elements : (nodes : List Head) (names : Naming Target) (h : Header) (c : Catalogue) (x : Head) (b : List ℕ) (n : ℕ)
    → [] ≡ elements_said [] nodes names h c x b n
silent_elements nodes names h c x b n = sym (flat_map-nothing n)
