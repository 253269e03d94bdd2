use Rattle.std.proofs.Common.{◌≡◌, ℕ, [], ap, arith}
use Rattle.bl_format.specs.Layout.{name_entry}
use Rattle.bl_layout.specs.MemberNames.{name_parts}
use Rattle.bl_layout.specs.declared.member_names.NameEntry.{NameEntry}
use Rattle.bl_layout.proofs.BuildLemmas.{depth-le}
use Rattle.bl_layout.proofs.member_parts.kind_at.Goals as goal

pub overflow_cast-result : goal.overflow_cast-result
overflow_cast-result c =
    let cat = c.args.catalogue.now in
    let n : ℕ = c.args.entry.name_number in
    let depth : c.name_of.result.shape.depth ≡ (name_parts (name_entry cat n)).depth = ap (λ (x : NameEntry). x.shape.depth) c.name_of.ensures in
    let short = c.requires.names n [] c.requires.fits.name_number in
    omega (arith, depth, short, depth-le (name_entry cat n))
