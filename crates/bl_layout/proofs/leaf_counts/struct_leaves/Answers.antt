use Rattle.std.proofs.Common.{ap, ◌∙◌}
use Rattle.std.specs.Prelude.{slice_index}
use Rattle.bl_layout.specs.Counts.{count_of_members}
use Rattle.bl_layout.proofs.CountLemmas.{struct_leaves_are}
use Rattle.bl_layout.proofs.OffsetLemmas.{members_same}
use Rattle.bl_layout.proofs.leaf_counts.struct_leaves.Goals as goal

pub returns : goal.returns
returns c =
    let cat = c.args.catalogue.now in
    let w = c.args.width in
    let s = c.args.s in
    let members = members_same cat s c.as_slice.result.now c.index-as_slice-s.result c.as_slice-members.result.now c.requires.place c.as_slice.ensures c.as_slice-members.ensures in
    c.members_leaves.ensures ∙ ap (count_of_members (slice_index c.args.counts.now) cat w) members
    ∙ struct_leaves_are cat w c.args.depth s s c.args.counts.now c.requires.counts c.requires.members c.requires.depth c.requires.place c.requires.nested
