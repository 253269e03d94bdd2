use Rattle.std.proofs.Common.{◌≡◌, map, sym, ap, ◌∙◌}
use Rattle.std.specs.Cmp.{booleans_Decides}
use Rattle.std.proofs.lemmas.Slice.Eq.{slice_eq-Decides}
use Rattle.bl_format.specs.declared.catalogue.Catalogue.{Catalogue}
use Rattle.bl_file.specs.Outlines.{ids_of}
use Rattle.bl_draft.specs.Numbers.{numbered_head, numbers_under}
use Rattle.bl_draft.proofs.targets.has_file_ids.Goals as goal

pub returns : goal.returns
returns c =
    let x = c.args.prepared.now in
    let o = x.outline.now in
    let d = x.draft.now in
    let numbers : c.deref.result.now ≡ numbers_under d.catalogue o.layout.catalogue = c.deref.ensures.value ∙ c.requires.structs.numbers in
    let made : c.as_slice-2.result.now ≡ ids_of d.catalogue (map (numbered_head (numbers_under d.catalogue o.layout.catalogue)) o.nodes) =
    c.as_slice-2.ensures.value ∙ c.in_ok-ids.ensures.ids
    ∙ ap (ids_of x.structs.now.layout.now.catalogue) (c.deref-2.ensures.value ∙ c.in_ok-numbered.ensures ∙ (λ i. map (numbered_head (numbers i)) (c.as_slice.ensures i)))
    ∙ ap (λ (to : Catalogue). ids_of to (map (numbered_head (numbers_under d.catalogue o.layout.catalogue)) o.nodes)) c.requires.structs.catalogue in
    let decides = slice_eq-Decides booleans_Decides c.as_slice-2.result.now c.as_slice-3.result.now c.eq.result c.eq.ensures in
    (λ is. sym made ∙ decides.0 is ∙ c.as_slice-3.ensures, λ has. decides.1 (made ∙ has ∙ sym c.as_slice-3.ensures))
