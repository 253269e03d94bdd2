-- At its own width no struct of a catalogue is too long.
use Rattle.std.proofs.Common.{◌≡◌, ℕ, ◌<◌, ◌≤◌, [], false, Some, None, ap, cond, arith, length}
use Rattle.std.specs.Prelude.{nat_lt}
use Rattle.std.proofs.lemmas.Bool.{false_from_ne_true, ltb-true}
use Rattle.bl_num.specs.declared.number.Width.{Width}
use Rattle.bl_format.specs.declared.catalogue.Catalogue.{Catalogue}
use Rattle.bl_format.specs.declared.layout.LayoutFault.TheVariants.{TooLong}
use Rattle.bl_format.specs.Limits.{longest_type}
use Rattle.bl_format.specs.Schema.{IsCatalogue}
use Rattle.bl_format.specs.Layout.{HasLayout, struct_entry, struct_length}
use Rattle.bl_format.specs.Rewidth.{new_length, rewidth_fault}
use Rattle.bl_format.proofs.CatalogueRead.{IsCatalogue-catalogue_of}
use Rattle.bl_format.proofs.MemberPasses.{first_fault-none}
use Rattle.bl_format.proofs.RewidthKeeps.{none_found}
use Rattle.bl_selection.proofs.SameWidth.{new_length-same}

-- a struct is as long as its type, which a catalogue can write
struct_length-le : (c : Catalogue) (s : ℕ) → IsCatalogue c → s < length c.structs → struct_length c s ≤ longest_type
struct_length-le c s is lt =
    let fits = (is.structs s (record { type_number = length c.types; members = [] }) lt).type_number in
    let short = is.lengths_fit (struct_entry c s).type_number (record { name = []; length = 0 }) fits in
    omega (arith, short)

pub rewidth_fault-same : (c : Catalogue) (w : Width) → HasLayout c w → rewidth_fault c w w ≡ None
unfolding rewidth_fault
rewidth_fault-same c w has =
    let read = has.can_be_read in
    let is : IsCatalogue c = IsCatalogue-catalogue_of read.order read.payload c read.bytes read.reads in
    none_found (λ s. cond (nat_lt longest_type (new_length c w w s)) (Some (TooLong (new_length c w w s))) None) (length c.structs)
    (λ s lt.
    let same = new_length-same c w s (first_fault-none c w has.no_fault) lt in
    let short = struct_length-le c s is lt in
    let not : nat_lt longest_type (new_length c w w s) ≡ false = false_from_ne_true (nat_lt longest_type (new_length c w w s))
    (λ long. let more = ltb-true longest_type (new_length c w w s) long in absurd (omega (arith, more, same, short))) in
    ap (λ b. cond b (Some (TooLong (new_length c w w s))) None) not)
