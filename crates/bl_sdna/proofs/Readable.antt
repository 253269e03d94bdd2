-- A catalogue that can be read is one by the grammar, so its counts fit and its numbers are in range.
use Rattle.std.proofs.Common.{◌≡◌, ◌<◌, ℕ, List, length, get_or, ap, ◌∙◌, arith}
use Rattle.bl_format.specs.declared.catalogue.Catalogue.{Catalogue}
use Rattle.bl_format.specs.declared.catalogue.StructEntry.{StructEntry}
use Rattle.bl_format.specs.Schema.{CanBeRead}
use Rattle.bl_format.proofs.CatalogueRead.{IsCatalogue-can_be_read}

-- the type of a struct is one of the catalogue's
pub struct_type_inside : (c : Catalogue) (structs : List StructEntry) (k : ℕ) (s : StructEntry) → CanBeRead c
    → structs ≡ c.structs → k < length structs → s ≡ get_or structs k s → s.type_number < length c.types
struct_type_inside c structs k s r same inside is =
    let fits = (IsCatalogue-can_be_read c r).structs k s (omega (arith, inside, ap length same)) in
    let number : s.type_number ≡ (get_or c.structs k s).type_number = ap (λ (t : StructEntry). t.type_number) (is ∙ ap (λ (ss : List StructEntry). get_or ss k s) same) in
    omega (arith, number, fits.type_number)
