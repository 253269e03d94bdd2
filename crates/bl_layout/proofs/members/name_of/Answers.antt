use Rattle.std.proofs.Common.{List, length, get_or, ap, ◌∙◌, arith}
use Rattle.std.proofs.lemmas.List.{length-map}
use Rattle.bl_layout.specs.declared.member_names.NameEntry.{NameEntry}
use Rattle.bl_layout.specs.MemberNames.{entry_of_name}
use Rattle.bl_layout.specs.Tables.{numbered}
use Rattle.bl_layout.proofs.NumberedLemmas.{numbered_inside, name_at}
use Rattle.bl_layout.proofs.members.name_of.Goals as goal

pub index-requires : goal.index-requires
index-requires c =
    let names = c.args.catalogue.now.names in
    let inside = numbered_inside names c.args.member.name_number c.requires.fits.name_number c.requires.fits.name_number_fits in
    omega (
      arith,
      inside,
      ap length c.requires.tables.names,
      length-map (numbered names) entry_of_name,
      c.args.tables.now.names.ok,
    )

pub returns : goal.returns
returns c =
    let n = c.args.member.name_number in
    c.index.ensures
    ∙ ap (λ (xs : List NameEntry). get_or xs n c.index.result.now) c.requires.tables.names
    ∙ name_at c.args.catalogue.now.names n c.index.result.now c.requires.fits.name_number c.requires.fits.name_number_fits
