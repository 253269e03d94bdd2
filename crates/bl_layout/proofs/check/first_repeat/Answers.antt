use Rattle.std.proofs.Common.{subst, sym, List, arith}
use Rattle.std.specs.Prelude.{All}
use Rattle.std.proofs.lemmas.List.{get_or_default}
use Rattle.bl_format.specs.declared.catalogue.MemberEntry.{MemberEntry}
use Rattle.bl_format.specs.Schema.{MemberFits}
use Rattle.bl_layout.proofs.CheckLemmas.{struct_fits}
use Rattle.bl_layout.proofs.NumberedLemmas.{numbered_inside}
use Rattle.bl_layout.proofs.OffsetLemmas.{members_same}
use Rattle.bl_layout.proofs.RepeatLemmas.{first_repeat}
use Rattle.bl_layout.proofs.check.first_repeat.Goals as goal

pub first_duplicate-requires-clause-names : goal.first_duplicate-requires-clause-names
first_duplicate-requires-clause-names c = λ k d lt.
    let cat = c.args.catalogue.now in
    let members = members_same cat c.args.s c.as_slice.result.now c.index-as_slice-s.result c.as_slice-members.result.now c.requires.place c.as_slice.ensures c.as_slice-members.ensures in
    let all : All (MemberFits cat) c.as_slice-members.result.now =
    subst (λ (ms : List MemberEntry). All (MemberFits cat) ms) (sym members) (struct_fits cat c.args.s c.requires.catalogue c.requires.place).members in
    let fits = all k d lt in
    let inside = numbered_inside cat.names _ fits.name_number fits.name_number_fits in
    omega (arith, inside, c.requires.identifiers.len)

pub first_duplicate-requires-clause-inside : goal.first_duplicate-requires-clause-inside
first_duplicate-requires-clause-inside c = λ k d lt.
    let ids = c.args.identifiers.now in
    let inside = c.requires.identifiers.inside k (omega (arith, lt, c.requires.identifiers.len)) in
    omega (arith, inside, get_or_default ids k d 0 lt, c.requires.marks)

pub returns-clause-first : goal.returns-clause-first
returns-clause-first c =
    let cat = c.args.catalogue.now in
    let members = members_same cat c.args.s c.as_slice.result.now c.index-as_slice-s.result c.as_slice-members.result.now c.requires.place c.as_slice.ensures c.as_slice-members.ensures in
    first_repeat cat c.args.identifiers.now c.as_slice-members.result.now c.args.s c.first_duplicate.result
    c.requires.catalogue c.requires.place c.requires.identifiers members c.first_duplicate.ensures.first
