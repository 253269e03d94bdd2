-- Names of members, sizes and leaves, and what is wrong with layouts.
use Rattle.std.proofs.Common.{◌≡◌, ℕ, suc, ◌+◌, List, [], ◌∷◌, ◌++◌, length, Option, Some, None, Bool, true, false, refl}
use Rattle.std.specs.Prelude.{codes, map, take, drop, is_some, if◌then◌else◌, ◌==◌, option_map}
use Rattle.std.specs.List.{enumerate_from}
use Rattle.bl_num.specs.declared.number.Width.TheVariants.{Four, Eight}
use Rattle.bl_format.specs.declared.catalogue.Catalogue.{Catalogue}
use Rattle.bl_format.specs.declared.catalogue.TypeEntry.{TypeEntry}
use Rattle.bl_format.specs.declared.catalogue.StructEntry.{StructEntry}
use Rattle.bl_format.specs.declared.layout.LayoutFault.{LayoutFault}
use Rattle.bl_format.specs.declared.layout.LayoutFault.TheVariants.{BadName, DuplicateMember, BasicLength, Cyclic, Overrun, TooDeep, TooLong}
use Rattle.bl_format.specs.Words.{numbers_below}
use Rattle.bl_format.specs.Members.{MemberName, member_name, extents}
use Rattle.bl_format.specs.Layout.{NamedLeaf, named_leaves, depth_fault, layout_fault, shape_of}
use Rattle.bl_format.specs.Rewidth.{tail_of, rewidth, rewidth_fault}
use Rattle.bl_format.specs.Nodes.{has_id_part}
use Rattle.bl_rows.proofs.Evaluation.{leaves, faults, widths}
use Rattle.bl_rows.proofs.Literals.{catalogue}
use Rattle.bl_rows.proofs.Example.{example_8, example_4}

-- ---- names of members

-- whether it is a pointer, its stars, its elements, whether it has brackets, and the length of its key
abbrev parts : MemberName → Bool × ℕ × ℕ × Bool × ℕ
parts m = (m.pointer, m.depth, m.count, m.brackets, length m.key)

good_names : map (λ n. option_map parts (member_name n)) (codes "7x" ∷ codes "loc[007]" ∷ codes "**m[2][3]"
    ∷ codes "x[0]" ∷ codes "x[999999999][999999999][0]" ∷ codes "x[65536][32767]" ∷ codes "(*f)[3](int)"
    ∷ [])
    ≡ Some (false, 0, 1, false, 2) ∷ Some (false, 0, 7, true, 3) ∷ Some (true, 2, 6, true, 3)
    ∷ Some (false, 0, 0, true, 1) ∷ Some (false, 0, 0, true, 1) ∷ Some (false, 0, 2147418112, true, 1)
    ∷ Some (true, 0, 1, false, 12) ∷ []
unfolding member_name extents
good_names = refl

-- neither form, or more elements than there may be
bad_names : map (λ n. is_some (member_name n)) ([] ∷ codes "*" ∷ codes "[3]" ∷ codes "(*)()"
    ∷ codes "(**f)()" ∷ codes "(*f[2])()" ∷ codes "(f)" ∷ codes "(*f" ∷ codes "x[1234567890]" ∷ codes "x[]"
    ∷ codes "x[2]y" ∷ codes "x[2" ∷ codes "x[65536][32768]" ∷ codes "a b" ∷ codes "a*" ∷ codes "x[-1]" ∷ [])
    ≡ map (λ n. false) (numbers_below 16)
unfolding member_name extents
bad_names = refl

-- `**users` of struct `Mesh`
shape : shape_of example_8 Eight 4 3
    ≡ record {
      pointer = true;
      depth = 2;
      identifier_at = 2;
      identifier_len = 5;
      key_len = 7;
      brackets = false;
      count = 1;
      offset = 120;
      size = 8;
      inner = None;
    }
unfolding faults shape_of
shape = refl

-- ---- leaves and widths

-- where the leaves of struct `Object` stand
offsets : map (λ (x : NamedLeaf). x.offset) (named_leaves example_8 Eight 3)
    ≡ 0 ∷ 8 ∷ 16 ∷ 24 ∷ 32 ∷ 98 ∷ 100 ∷ 104 ∷ 112 ∷ 120 ∷ 132 ∷ 134 ∷ []
unfolding leaves
offsets = refl

-- a struct of two structs by value and a pointer: each element's leaves, one behind another
offsets_of_elements : map (λ (x : NamedLeaf). x.offset) (named_leaves (catalogue (codes "x" ∷ codes "y"
    ∷ codes "at[2]" ∷ codes "*name" ∷ []) ((codes "float", 4) ∷ (codes "char", 1) ∷ (codes "V", 8)
    ∷ (codes "P", 24) ∷ []) ((2, (0, 0) ∷ (0, 1) ∷ []) ∷ (3, (2, 2) ∷ (1, 3) ∷ []) ∷ [])) Eight 1)
    ≡ 0 ∷ 4 ∷ 8 ∷ 12 ∷ 16 ∷ []
unfolding leaves
offsets_of_elements = refl

narrower_and_wider : rewidth example_8 Eight Four ∷ rewidth example_4 Four Eight ∷ []
    ≡ example_4 ∷ example_8 ∷ []
unfolding widths
narrower_and_wider = refl

-- ---- faults in the example

abbrev fault : Catalogue → Option LayoutFault
fault c = layout_fault c Eight

-- the example with another length of type t
abbrev with_length : ℕ → ℕ → Catalogue
with_length t n = record example_8 { types = map changed (enumerate_from 0 example_8.types) }
  where
    changed : ℕ × TypeEntry → TypeEntry
    changed p = if p.0 == t then record p.1 { length = n } else p.1

-- the example with another member k in struct s, of a type and a name
abbrev with_member : ℕ → ℕ → ℕ → ℕ → Catalogue
with_member s k t n = record example_8 { structs = map changed (enumerate_from 0 example_8.structs) }
  where
    changed : ℕ × StructEntry → StructEntry
    changed p = if p.0 == s then record p.1 {
      members = take k p.1.members
          ++ record { type_number = t; name_number = n } ∷ drop (k + 1) p.1.members;
    } else p.1

no_fault : fault example_8 ≡ None
unfolding faults
no_fault = refl

-- `Object` one byte too short, and one byte longer than its members
too_short : fault (with_length 12 135) ≡ Some (Overrun 3 5)
unfolding faults
too_short = refl

with_a_tail : fault (with_length 12 137) ≡ None
unfolding faults
with_a_tail = refl

tail : tail_of (with_length 12 137) Eight 3 ≡ 1
unfolding widths
tail = refl

struct_in_itself : fault (with_member 4 0 13 7) ≡ Some (Cyclic 4 0)
unfolding faults
struct_in_itself = refl

int_of_eight_bytes : fault (with_length 4 8) ≡ Some (BasicLength 1 6)
unfolding faults
int_of_eight_bytes = refl

name_twice : fault (with_member 3 4 2 7) ≡ Some (DuplicateMember 3 4)
unfolding faults
name_twice = refl

-- ---- corners

-- the same identifier with stars and brackets
pointer_named_alike : fault (catalogue (codes "x" ∷ codes "*x[3]" ∷ []) ((codes "int", 4) ∷ (codes "S", 99)
    ∷ []) ((1, (0, 0) ∷ (0, 1) ∷ []) ∷ []))
    ≡ Some (DuplicateMember 0 1)
unfolding faults
pointer_named_alike = refl

-- A holds B, and the later B has a member of type A whose name is bad: by value, or by its beginning a
-- pointer
ring_through_bad_names : map (λ name. fault (catalogue (codes "b" ∷ name ∷ []) ((codes "A", 9)
    ∷ (codes "B", 9) ∷ []) ((0, (1, 0) ∷ []) ∷ (1, (0, 1) ∷ []) ∷ []))) (codes "a!" ∷ codes "*a!"
    ∷ codes "(*a" ∷ [])
    ≡ Some (Cyclic 0 0) ∷ Some (BadName 1 0) ∷ Some (BadName 1 0) ∷ []
unfolding faults
ring_through_bad_names = refl

-- a member without elements still holds its struct
ring_without_elements : fault (catalogue (codes "b[0]" ∷ codes "a" ∷ []) ((codes "A", 0) ∷ (codes "B", 0)
    ∷ []) ((0, (1, 0) ∷ []) ∷ (1, (0, 1) ∷ []) ∷ []))
    ≡ Some (Cyclic 0 0)
unfolding faults
ring_without_elements = refl

-- a struct that leads to a ring, but isn't in it, has no fault: the ring's first struct has it
beside_a_ring : fault (catalogue (codes "x" ∷ []) ((codes "A", 0) ∷ (codes "B", 0) ∷ (codes "C", 0)
    ∷ []) ((0, (1, 0) ∷ []) ∷ (1, (2, 0) ∷ []) ∷ (2, (1, 0) ∷ []) ∷ []))
    ≡ Some (Cyclic 1 0)
unfolding faults
beside_a_ring = refl

-- in a struct of a basic type's name each member is one of another length, a pointer too
struct_named_int : fault (catalogue (codes "*c" ∷ []) ((codes "char", 1) ∷ (codes "int", 8)
    ∷ []) ((1, (0, 0) ∷ []) ∷ []))
    ≡ Some (BasicLength 0 0)
unfolding faults
struct_named_int = refl

-- a bad name before a length, a length before an overrun, and a ring before an overrun
order_at_one_member : map fault (catalogue (codes "!" ∷ []) ((codes "int", 3) ∷ (codes "S", 0)
    ∷ []) ((1, (0, 0) ∷ []) ∷ []) ∷ catalogue (codes "x" ∷ []) ((codes "int", 3) ∷ (codes "S", 0)
    ∷ []) ((1, (0, 0) ∷ []) ∷ []) ∷ catalogue (codes "x[2]" ∷ []) ((codes "S", 7) ∷ []) ((0, (0, 0) ∷ [])
    ∷ []) ∷ [])
    ≡ Some (BadName 0 0) ∷ Some (BasicLength 0 0) ∷ Some (Cyclic 0 0) ∷ []
unfolding faults
order_at_one_member = refl

-- `long` has 4 or 8 bytes
lengths_of_long : map (λ n. fault (catalogue (codes "x" ∷ []) ((codes "long", n) ∷ (codes "S", 9)
    ∷ []) ((1, (0, 0) ∷ []) ∷ []))) (4 ∷ 8 ∷ 2 ∷ 0 ∷ [])
    ≡ None ∷ None ∷ Some (BasicLength 0 0) ∷ Some (BasicLength 0 0) ∷ []
unfolding faults
lengths_of_long = refl

-- ---- limits

-- n structs, each of which holds the next; the last holds none
abbrev tower : ℕ → Catalogue
tower n = catalogue (codes "x[0]" ∷ []) (map (λ k. (
  65 ∷ k
      ∷ [],
  0,
)) (numbers_below n)) (map (λ k. (
  k,
  if suc k == n then [] else (suc k, 0)
      ∷ [],
)) (numbers_below n))

deepest : fault (tower 32) ≡ None
unfolding faults
deepest = refl

-- the whole nesting is told
too_deep : depth_fault (tower 34) ≡ Some (TooDeep 34)
unfolding faults
too_deep = refl

-- one struct of pointers at the other width
wider_than_a_type : map (λ (p : List ℕ × ℕ). rewidth_fault (catalogue (p.0 ∷ []) ((codes "void", 0)
    ∷ (codes "S", p.1) ∷ []) ((1, (0, 0) ∷ []) ∷ [])) Four Eight) ((codes "*p[8191]", 32771)
    ∷ (codes "*p[16383]", 65532) ∷ [])
    ≡ None ∷ Some (TooLong 131064) ∷ []
unfolding widths rewidth_fault
wider_than_a_type = refl

-- ---- which structs are those of IDs

-- `ID` itself; a first member `id` with and without brackets; two of them; a pointer; no member at all; a
-- second member `id`; an `id` of another struct
id_structs : Catalogue
id_structs = catalogue (codes "id" ∷ codes "id[1]" ∷ codes "id[2]" ∷ codes "*id" ∷ codes "x" ∷ [])
    ((codes "ID", 1) ∷ (codes "A", 9) ∷ (codes "B", 9) ∷ (codes "C", 9) ∷ (codes "D", 9) ∷ (codes "E", 9)
    ∷ (codes "F", 9) ∷ (codes "G", 9) ∷ (codes "char", 1) ∷ [])
    ((0, (8, 4) ∷ []) ∷ (1, (0, 0) ∷ []) ∷ (2, (0, 1) ∷ []) ∷ (3, (0, 2) ∷ []) ∷ (4, (0, 3) ∷ []) ∷ (5, [])
    ∷ (6, (8, 4) ∷ (0, 0) ∷ []) ∷ (7, (8, 0) ∷ []) ∷ [])

id_parts : map (has_id_part id_structs) (numbers_below 8)
    ≡ true ∷ true ∷ true ∷ false ∷ false ∷ false ∷ false ∷ false ∷ []
unfolding faults has_id_part id_structs
id_parts = refl
