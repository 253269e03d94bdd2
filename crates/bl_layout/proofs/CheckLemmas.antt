-- The checks of a member against their definition.
use Rattle.std.proofs.Common.{◌≡◌, ℕ, ◌<◌, [], length, Option, Some, None, refl}
use Rattle.bl_num.specs.declared.number.Width.{Width}
use Rattle.bl_format.specs.declared.catalogue.Catalogue.{Catalogue}
use Rattle.bl_format.specs.Layout.{Basic, basic_or_struct, content_of, struct_entry, member_entry, type_entry, name_of, basic_named, struct_of_type, has_bad_name, has_bad_length, is_duplicate, leads_back, inner_struct, member_count, overruns, member_fault}
use Rattle.bl_format.specs.Schema.{IsCatalogue, StructFits, MemberFits}
use Rattle.bl_layout.specs.declared.check.Failed.{Failed}
use Rattle.bl_layout.specs.Check.{first_failed}
use Rattle.bl_layout.specs.Sizes.{basic_in, has_bad_length as is_bad_by, parts_of}

basic_in-or : (o : Option Basic) (s : Option ℕ) → basic_in (basic_or_struct o s) ≡ o
basic_in-or (Some b) s = refl
basic_in-or None None = refl
basic_in-or None (Some s) = refl

-- the basic type that a type holds is that of its name
pub basic_in-content_of : (c : Catalogue) (t : ℕ) → basic_in (content_of c t) ≡ basic_named (type_entry c t).name
unfolding content_of
basic_in-content_of c t = basic_in-or (basic_named (type_entry c t).name) (struct_of_type c t)

-- the test of a member's length
pub length_test : (c : Catalogue) (s k : ℕ)
    → is_bad_by (content_of c (struct_entry c s).type_number) (content_of c (member_entry c s k).type_number)
    (type_entry c (member_entry c s k).type_number).length (parts_of c (member_entry c s k)).pointer
    ≡ has_bad_length c s k
unfolding name_of
length_test c s k = rw (basic_in-content_of c (struct_entry c s).type_number, basic_in-content_of c (member_entry c s k).type_number) refl

-- the fault of a member by its checks
pub member_fault-failed : (c : Catalogue) (w : Width) (s k : ℕ) (failed : Failed)
    → failed.name ≡ has_bad_name c s k → failed.identifier ≡ is_duplicate c s k → failed.length ≡ has_bad_length c s k
    → failed.leads_back ≡ leads_back c s (inner_struct c s k) → failed.overruns ≡ overruns c w s k
    → first_failed failed s k ≡ member_fault c w s k
unfolding member_fault
member_fault-failed c w s k failed name identifier long back end = rw (name, identifier, long, back, end) refl

-- a struct of a catalogue fits it
pub struct_fits : (c : Catalogue) (s : ℕ) → IsCatalogue c → s < length c.structs → StructFits c (struct_entry c s)
struct_fits c s is lt = is.structs s (record { type_number = length c.types; members = [] }) lt

-- a member of a catalogue fits it
pub member_fits : (c : Catalogue) (s k : ℕ) → IsCatalogue c → s < length c.structs → k < member_count c s → MemberFits c (member_entry c s k)
member_fits c s k is lt small = (struct_fits c s is lt).members k (record { type_number = length c.types; name_number = length c.names }) small
