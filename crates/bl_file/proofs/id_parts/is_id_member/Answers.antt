use Rattle.std.proofs.Common.{ap, ◌∙◌}
use Rattle.bl_format.specs.Layout.{member_entry, name_entry}
use Rattle.bl_file.specs.Ids.{is_id_struct}
use Rattle.bl_file.proofs.IdLemmas.{shape_inside, id_member_by}
use Rattle.bl_file.proofs.id_parts.is_id_member.Goals as goal

pub identifier_in-identifier-requires : goal.identifier_in-identifier-requires
identifier_in-identifier-requires c =
    shape_inside c.args.layout.now.catalogue c.args.layout.now.width c.args.s c.member_shape-shape.result c.member_name-name.result.now
    c.member_shape-shape.ensures.shape
    (c.member_name-name.ensures ∙ ap (λ of. name_entry of (member_entry of c.args.s 0).name_number) c.catalogue.ensures.is)

pub returns : goal.returns
returns c =
    let shape = c.member_shape-shape.result in
    c.is_one_id.ensures
    ∙ id_member_by c.args.layout.now.catalogue c.args.layout.now.width c.args.s shape c.member_name-name.result.now
    c.identifier_in-identifier.result.now c.is_id_struct.result c.member_shape-shape.ensures.shape
    (c.member_name-name.ensures ∙ ap (λ of. name_entry of (member_entry of c.args.s 0).name_number) c.catalogue.ensures.is)
    c.identifier_in-identifier.ensures
    (c.is_id_struct.ensures ∙ ap (λ of. is_id_struct of shape.inner) c.catalogue-2.ensures.is)
