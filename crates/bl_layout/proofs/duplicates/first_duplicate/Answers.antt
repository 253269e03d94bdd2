use Rattle.std.proofs.Common.{◌≡◌, ◌<◌, length, get_or, ap, arith}
use Rattle.std.specs.Prelude.{slice_index}
use Rattle.std.proofs.lemmas.List.{get_or_default}
use Rattle.bl_format.specs.declared.catalogue.MemberEntry.{MemberEntry}
use Rattle.bl_layout.specs.Identifiers.{number_of_member}
use Rattle.bl_layout.proofs.DuplicateLemmas.{AreMarks-push}
use Rattle.bl_layout.proofs.duplicates.first_duplicate.Goals as goal

pub loop-k-preserved : goal.loop-k-preserved
loop-k-preserved c =
    let ids = c.args.identifiers.now in
    let ms = c.args.members.now in
    let none : MemberEntry = record { type_number = 0; name_number = 0 } in
    let far : MemberEntry = record { type_number = 0; name_number = length ids } in
    let same : slice_index ids (get_or ms c.loop-k.k none).name_number ≡ number_of_member ids ms c.loop-k.k =
    ap (λ (m : MemberEntry). slice_index ids m.name_number) (get_or_default ms c.loop-k.k none far c.loop-k-test.true) in
    let inside : slice_index ids (get_or ms c.loop-k.k none).name_number < length c.loop-k.marks =
    let small = c.requires.inside (get_or ms c.loop-k.k none).name_number 0 (c.requires.names c.loop-k.k none c.loop-k-test.true) in omega (arith, small, c.loop-k.auto.marks) in
    AreMarks-push ids ms c.args.mark c.loop-k.marks c.loop-k.k (slice_index ids (get_or ms c.loop-k.k none).name_number) same inside c.if-marks-number.false c.loop-k.invariant
