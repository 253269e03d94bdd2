use Rattle.std.proofs.Common.{◌<◌, ◌^◌, [], length, ap, ◌∙◌, arith}
use Rattle.std.proofs.lemmas.List.{get_or_default}
use Rattle.bl_format.specs.declared.catalogue.TypeEntry.{TypeEntry}
use Rattle.bl_format.specs.Layout.{basic_named, basic_or_struct, content_of}
use Rattle.bl_layout.specs.declared.basic_types.Content.TheVariants as contents
use Rattle.bl_layout.specs.BasicTypes.{content_meant, struct_among}
use Rattle.bl_layout.specs.Tables.{numbered}
use Rattle.bl_layout.proofs.NumberedLemmas.{numbered_inside, numbered_at}
use Rattle.bl_layout.proofs.members.content_of.Goals as goal

pub index-requires : goal.index-requires
index-requires c =
    let inside = numbered_inside c.args.catalogue.now.types c.args.type_number c.requires.fits (omega arith) in
    omega (arith, inside, c.requires.tables.contents.len, c.args.tables.now.contents.ok)

pub returns : goal.returns
unfolding content_of
returns c =
    let t = c.args.type_number in
    let types = c.args.catalogue.now.types in
    let table = c.args.tables.now.contents.items in
    let none : TypeEntry = record { name = []; length = 0 } in
    let small : t < 2 ^ 16 = omega arith in
    let among : t < length (numbered types) = numbered_inside types t c.requires.fits small in
    let inside : t < length table = omega (arith, among, c.requires.tables.contents.len) in
    ap content_meant (c.index.ensures ∙ get_or_default table t c.index.result.now contents.Opaque inside)
    ∙ c.requires.tables.contents.contents t among
    ∙ ap (λ (x : TypeEntry). basic_or_struct (basic_named x.name) (struct_among c.args.catalogue.now.structs t)) (numbered_at types t none small)
