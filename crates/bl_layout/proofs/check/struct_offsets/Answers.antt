use Rattle.std.proofs.Common.{◌<◌, ◌+◌, length, ap, sym, inr, arith}
use Rattle.bl_format.specs.Layout.{member_count}
use Rattle.bl_layout.proofs.OffsetLemmas.{AreChecked-none, AreChecked-push, AreChecked-fails, members_same, end_of}
use Rattle.bl_layout.proofs.check.struct_offsets.Goals as goal

pub loop-k-init : goal.loop-k-init
loop-k-init c = rw c.in_ok-offsets.ensures.items (AreChecked-none c.args.catalogue.now c.args.width c.args.s c.args.suspects.duplicate c.args.suspects.back)

pub member_fault-requires-clause-end : goal.member_fault-requires-clause-end
member_fault-requires-clause-end c =
    let cat = c.args.catalogue.now in
    let members = members_same cat c.args.s c.as_slice.result.now c.index-as_slice-s.result c.as_slice-members.result.now c.requires.place c.as_slice.ensures c.as_slice-members.ensures in
    end_of cat c.args.width c.args.s c.loop-k.k c.loop-k.offset c.member_size.result c.as_slice-members.result.now (record { type_number = 0; name_number = 0 }) c.loop-k.invariant.is_offset members c.loop-k-test.true c.member_size.ensures.size

pub returns-in-Some-clause-refuses : goal.returns-in-Some-clause-refuses
returns-in-Some-clause-refuses c =
    let cat = c.args.catalogue.now in
    let members = members_same cat c.args.s c.as_slice.result.now c.index-as_slice-s.result c.as_slice-members.result.now c.requires.place c.as_slice.ensures c.as_slice-members.ensures in
    let inside : c.loop-k.k < member_count cat c.args.s = omega (arith, c.loop-k-test.true, ap length members) in
    inr (AreChecked-fails cat c.args.width c.args.s c.args.suspects.duplicate c.args.suspects.back c.loop-k.k c.loop-k.offset c.loop-k.offsets.items c.in-Some.fault c.loop-k.invariant inside (sym c.in-Some.ensures))

pub loop-k-preserved : goal.loop-k-preserved
loop-k-preserved c =
    let cat = c.args.catalogue.now in
    let members = members_same cat c.args.s c.as_slice.result.now c.index-as_slice-s.result c.as_slice-members.result.now c.requires.place c.as_slice.ensures c.as_slice-members.ensures in
    let inside : c.loop-k.k < member_count cat c.args.s = omega (arith, c.loop-k-test.true, ap length members) in
    let end = end_of cat c.args.width c.args.s c.loop-k.k c.loop-k.offset c.member_size.result c.as_slice-members.result.now (record { type_number = 0; name_number = 0 }) c.loop-k.invariant.is_offset members c.loop-k-test.true c.member_size.ensures.size in
    rw c.in_ok-push.ensures.items (AreChecked-push cat c.args.width c.args.s c.args.suspects.duplicate c.args.suspects.back c.loop-k.k c.loop-k.offset (c.loop-k.offset + c.member_size.result) c.loop-k.offsets.items c.loop-k.invariant c.requires.duplicate c.requires.back inside end (sym c.in_default.ensures))
