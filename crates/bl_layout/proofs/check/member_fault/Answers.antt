use Rattle.std.proofs.Common.{◌≡◌, [], List, length, get_or, not, refl, ap, ◌∙◌}
use Rattle.std.specs.Prelude.{is_some, nat_lt}
use Rattle.std.proofs.lemmas.List.{get_or_default}
use Rattle.bl_format.specs.declared.catalogue.TypeEntry.{TypeEntry}
use Rattle.bl_format.specs.declared.catalogue.StructEntry.{StructEntry}
use Rattle.bl_format.specs.declared.catalogue.MemberEntry.{MemberEntry}
use Rattle.bl_format.specs.Members.{member_name}
use Rattle.bl_format.specs.Layout.{content_of, struct_entry, member_entry, type_entry, name_entry, struct_length, has_bad_name, has_bad_length, overruns}
use Rattle.bl_layout.specs.declared.member_names.NameEntry.{NameEntry}
use Rattle.bl_layout.specs.declared.check.Failed.{Failed}
use Rattle.bl_layout.specs.BasicTypes.{content_meant}
use Rattle.bl_layout.specs.Sizes.{parts_of}
use Rattle.bl_layout.proofs.CheckLemmas.{struct_fits, member_fits, length_test, member_fault-failed}
use Rattle.bl_layout.proofs.check.member_fault.Goals as goal

pub returns : goal.returns
returns c =
    let cat = c.args.catalogue.now in
    let w = c.args.width in
    let s = c.args.member.s in
    let k = c.args.member.member in
    let m = c.args.member.entry in
    let entry : m ≡ member_entry cat s k = c.requires.entry in
    let none : TypeEntry = record { name = []; length = 0 } in
    let far : StructEntry = record { type_number = length cat.types; members = [] } in
    let own : get_or c.as_slice.result.now s c.index-as_slice-s.result ≡ struct_entry cat s =
    ap (λ (xs : List StructEntry). get_or xs s c.index-as_slice-s.result) c.as_slice.ensures ∙ get_or_default cat.structs s c.index-as_slice-s.result far c.requires.place in
    let own_content : content_meant c.content_of-own_content.result ≡ content_of cat (struct_entry cat s).type_number =
    c.content_of-own_content.ensures ∙ ap (λ (x : StructEntry). content_of cat x.type_number) own in
    let content : content_meant c.content_of-content.result ≡ content_of cat (member_entry cat s k).type_number =
    c.content_of-content.ensures ∙ ap (λ (x : MemberEntry). content_of cat x.type_number) entry in
    let fits = member_fits cat s k c.requires.catalogue c.requires.place c.requires.number in
    let type_of : get_or c.as_slice-types.result.now m.type_number c.index-types-entry.result ≡ type_entry cat (member_entry cat s k).type_number =
    ap (λ (xs : List TypeEntry). get_or xs m.type_number c.index-types-entry.result) c.as_slice-types.ensures
    ∙ ap (λ (x : MemberEntry). get_or cat.types x.type_number c.index-types-entry.result) entry
    ∙ get_or_default cat.types (member_entry cat s k).type_number c.index-types-entry.result none fits.type_number in
    let pointer : c.name_of-name.result.shape.pointer ≡ (parts_of cat (member_entry cat s k)).pointer =
    ap (λ (x : NameEntry). x.shape.pointer) c.name_of-name.ensures ∙ ap (λ (x : MemberEntry). (parts_of cat x).pointer) entry in
    let name : not c.name_of-name.result.is_good ≡ has_bad_name cat s k =
    ap (λ (x : NameEntry). not x.is_good) c.name_of-name.ensures ∙ ap (λ (x : MemberEntry). not (is_some (member_name (name_entry cat x.name_number)))) entry in
    let long : c.has_bad_length.result ≡ has_bad_length cat s k =
    c.has_bad_length.ensures ∙ rw (own_content, content, type_of, pointer) (length_test cat s k) in
    let own_length : c.from.result ≡ struct_length cat s =
    c.from.ensures
    ∙ ap (λ (x : StructEntry). (get_or c.as_slice-types.result.now x.type_number c.index-types-own.result).length) own
    ∙ ap (λ (xs : List TypeEntry). (get_or xs (struct_entry cat s).type_number c.index-types-own.result).length) c.as_slice-types.ensures
    ∙ ap (λ (x : TypeEntry). x.length) (get_or_default cat.types (struct_entry cat s).type_number c.index-types-own.result none (struct_fits cat s c.requires.catalogue c.requires.place).type_number) in
    let end : nat_lt c.from.result c.args.member.end ≡ overruns cat w s k = rw (own_length, c.requires.end) refl in
    let failed : Failed = record { name = not c.name_of-name.result.is_good; identifier = c.args.member.is_duplicate; length = c.has_bad_length.result; leads_back = c.args.member.leads_back; overruns = nat_lt c.from.result c.args.member.end } in
    c.first_failed.ensures ∙ member_fault-failed cat w s k failed name c.requires.duplicate long c.requires.back end
