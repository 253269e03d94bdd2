use Rattle.std.proofs.Common.{◌≡◌, length, ap, ◌∙◌, arith}
use Rattle.bl_draft.specs.Kept.{file_of}
use Rattle.bl_draft.proofs.WholeSelection.{flags-long, whole_of}
use Rattle.bl_draft.proofs.whole.draft_of_nodes.Goals as goal

pub entries_by-requires : goal.entries_by-requires
entries_by-requires c =
    let f = file_of c.args.nodes.now c.args.from.now in
    let same : length c.deref.result.now ≡ length c.args.nodes.now =
    ap length c.deref.ensures.value ∙ flags-long c.args.catalogue f c.in_ok-kept.kept.items c.in_ok-kept.ensures in
    omega (arith, same, c.requires.few)

pub own_images-requires : goal.own_images-requires
own_images-requires c =
    let f = file_of c.args.nodes.now c.args.from.now in
    let same : length c.deref-2.result.now ≡ length c.args.nodes.now =
    ap length c.deref-2.ensures.value ∙ flags-long c.args.catalogue f c.in_ok-kept.kept.items c.in_ok-kept.ensures in
    omega (arith, same, c.requires.few)

pub returns : goal.returns
returns c =
    whole_of (file_of c.args.nodes.now c.args.from.now) c.args.header c.args.catalogue c.draft_of.result
    c.in_ok-kept.kept.items c.deref.result.now c.deref-2.result.now c.in_ok-entries.entries.items
    c.push.new.self.items c.in_ok-images.images.items c.from_vec.result c.in_ok-own_images.field-0.items
    c.draft_of.ensures c.in_ok-push.ensures.items c.in_ok-images.ensures.items c.from_vec.ensures
    c.in_ok-entries.ensures c.in_ok-own_images.ensures c.deref.ensures.value c.deref-2.ensures.value c.in_ok-kept.ensures
