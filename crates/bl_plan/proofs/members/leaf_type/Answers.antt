use Rattle.std.proofs.Common.{sym, ◌∙◌}
use Rattle.bl_format.specs.Layout.{no_leaf, member_entry, type_entry}
use Rattle.bl_plan.proofs.WayLemmas.{leaf_type_named}
use Rattle.bl_plan.proofs.members.leaf_type.Goals as goal

pub returns : goal.returns
returns c =
    let of = c.args.layout.now in
    let d = c.direct_member-direct.ensures in
    c.member_type_name.ensures
    ∙ (λ i. (type_entry (c.catalogue.ensures.is i) (member_entry (c.catalogue.ensures.is i) (d.s i) (d.member i)).type_number).name)
    ∙ sym (leaf_type_named of.catalogue of.width c.args.s c.args.leaf no_leaf c.requires.leaf)
