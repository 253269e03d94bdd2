use Rattle.std.proofs.Common.{◌<◌, ◌+◌, ◌*◌, ◌^◌, length, get_or, ap, subst, sym, ◌∙◌, arith}
use Rattle.bl_format.specs.declared.catalogue.MemberEntry.{MemberEntry}
use Rattle.bl_format.specs.Layout.{member_entry}
use Rattle.bl_layout.specs.declared.leaves.Part.{Part}
use Rattle.bl_layout.specs.Leaves.{part_at}
use Rattle.bl_layout.proofs.BuildLemmas.{part-near}
use Rattle.bl_layout.proofs.LevelLemmas.{offsets-len, row-as_held, offset-at, row-len}
use Rattle.bl_layout.proofs.member_parts.part_of.Goals as goal

pub bounds-as_slice-s : goal.bounds-as_slice-s
bounds-as_slice-s c =
    let len = offsets-len c.args.catalogue.now c.args.width c.args.shape_tables.now.offsets.items c.requires.shape_tables.offsets in
    omega (arith, c.requires.place, ap length c.as_slice.ensures.value, len)

pub bounds-row-k : goal.bounds-row-k
bounds-row-k c =
    let cat = c.args.catalogue.now in
    let row = row-as_held cat c.args.width c.args.shape_tables.now.offsets.items c.as_slice.result.now c.args.s c.index-as_slice-s.result c.as_slice-row.result.now
    c.requires.shape_tables.offsets c.as_slice.ensures.value c.requires.place c.index-as_slice-s.is c.as_slice-row.ensures.value in
    omega (arith, c.requires.member, row-len cat c.args.width c.as_slice-row.result.now c.args.s row)

pub returns-clause-part : goal.returns-clause-part
returns-clause-part c =
    let cat = c.args.catalogue.now in
    let w = c.args.width in
    let row = row-as_held cat w c.args.shape_tables.now.offsets.items c.as_slice.result.now c.args.s c.index-as_slice-s.result c.as_slice-row.result.now
    c.requires.shape_tables.offsets c.as_slice.ensures.value c.requires.place c.index-as_slice-s.is c.as_slice-row.ensures.value in
    let offset = offset-at cat w c.as_slice-row.result.now c.args.s c.args.k row c.requires.member in
    c.part_at.ensures
    ∙ ap (λ (m : MemberEntry). part_at cat w c.args.k m (get_or c.as_slice-row.result.now c.args.k 0)) c.requires.entry
    ∙ ap (part_at cat w c.args.k (member_entry cat c.args.s c.args.k)) offset

pub returns-clause-near : goal.returns-clause-near
returns-clause-near c =
    let cat = c.args.catalogue.now in
    subst (λ (p : Part). p.offset + p.size * p.count < 2 ^ 31) (sym (returns-clause-part c))
    (part-near cat c.args.width c.args.s c.args.k c.requires.catalogue c.requires.members c.requires.place c.requires.member)
