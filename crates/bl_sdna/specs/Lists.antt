-- Parts of a payload that the format's definitions don't name by themselves.
use Rattle.std.specs.Prelude.{ℕ, Bool, List, not, Ok}
use Rattle.std.specs.Borrow.{Bor}
use Rattle.std.specs.Ordering.{nat_cmp}
use Rattle.std.specs.Cmp.Lexicographic.{slice_cmp}
use Rattle.std.specs.BTreeSet.{BTreeSet, contains_by}
use Rattle.bl_num.specs.declared.number.Order.{Order}
use Rattle.bl_format.specs.declared.catalogue.MemberEntry.{MemberEntry}
use Rattle.bl_format.specs.declared.catalogue.StructEntry.{StructEntry}
use Rattle.bl_format.specs.declared.catalogue.SdnaFault.TheVariants.{TwoTypes, TwoStructs}
use Rattle.bl_format.specs.Schema.{◌>>=◌, Reading, ensure, count_at, index_at, name_at, many_at, member_at}

-- whether a name is one of those in a set
abbrev pub has_name : BTreeSet (Bor (List ℕ)) → List ℕ → Bool
has_name names name = contains_by (λ k. slice_cmp nat_cmp name k.now) names

-- the name of a type, which isn't one that is seen
unfoldable pub type_name_at : List ℕ → (List ℕ → Bool) → ℕ → Reading (List ℕ)
type_name_at p is_seen at = do
  name ← name_at p at
  _ ← ensure (not (is_seen name.0)) (TwoTypes at)
  Ok name

-- the members of a struct behind its type number: how many they are, and then each
unfoldable pub members_at : Order → ℕ → ℕ → List ℕ → ℕ → Reading (List MemberEntry)
members_at order types names p at = do
  count ← count_at order 2 p at
  many_at (member_at order types names p) count.0 count.1

-- a struct, whose type isn't one that is seen
unfoldable pub struct_at : Order → ℕ → ℕ → List ℕ → (ℕ → Bool) → ℕ → Reading StructEntry
struct_at order types names p is_seen at = do
  t ← index_at order types p at
  _ ← ensure (not (is_seen t.0)) (TwoStructs at)
  members ← members_at order types names p t.1
  Ok (record { type_number = t.0; members = members.0 }, members.1)
