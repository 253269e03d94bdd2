-- Which structs have the part of an ID, and which nodes are IDs.
use Rattle.std.proofs.Common.{◌≡◌, ◌+◌, ◌≤◌, ◌<◌, inl, inr, ℕ, zero, suc, Bool, false, List, [], ◌∷◌, ◌++◌, length, take, get_or, Option, Some, None, refl, sym, ap, ◌∙◌, arith}
use Rattle.std.specs.Prelude.{◌==◌, ◌&&◌, ◌||◌, nat_lt, not, map, slice_index_or, codes}
use Rattle.std.specs.Str.{bytes_eq}
use Rattle.std.proofs.lemmas.Bool.{cases_lt}
use Rattle.std.proofs.lemmas.List.{get_or-map, get_or_past, get_or_push, get_or_append_left, take_more, map_push, length-map}
use Rattle.bl_num.specs.declared.number.Width.{Width}
use Rattle.bl_format.specs.declared.file.Head.{Head}
use Rattle.bl_format.specs.declared.catalogue.Catalogue.{Catalogue}
use Rattle.bl_format.specs.declared.catalogue.TypeEntry.{TypeEntry}
use Rattle.bl_format.specs.declared.catalogue.StructEntry.{StructEntry}
use Rattle.bl_format.specs.declared.layout.Shape.{Shape}
use Rattle.bl_format.specs.Words.{part, numbers_below}
use Rattle.bl_format.specs.Blocks.{is_two_letter}
use Rattle.bl_format.specs.Layout.{struct_name, type_entry, struct_entry, member_count, member_entry, name_entry, name_of, inner_struct, shape_of, struct_numbers}
use Rattle.bl_format.specs.Nodes.{has_id_part, is_id_member, is_id}
use Rattle.bl_selection.proofs.EntriesAsNodes.{length-numbers_below}
use Rattle.bl_layout.proofs.NameLemmas.{entry_shape}
use Rattle.bl_file.specs.Ids.{is_id_struct, id_parts, is_id_by}
use Rattle.bl_file.specs.Outlines.{ids_of}

-- number k is k
pub get_or-numbers_below : (n k d : ℕ) → k < n → get_or (numbers_below n) k d ≡ k
get_or-numbers_below zero k d lt = absurd (omega arith)
get_or-numbers_below (suc n) k d lt = elim (cases_lt k n) [
  | inl less ↦ (get_or_append_left (numbers_below n) (n ∷ []) d k (omega (arith, length-numbers_below n))
      ∙ get_or-numbers_below n k d less)
  | inr most ↦ (let is : n ≡ k = omega arith in get_or_push (numbers_below n) n d k (length-numbers_below n ∙ is) ∙ is)
]

-- what a function gives for number k stands at place k
pub get_or-by : {X : Type 0} (f : ℕ → X) (n k : ℕ) (d : X) → k < n → get_or (map f (numbers_below n)) k d ≡ f k
get_or-by f n k d lt =
    get_or-map f (numbers_below n) k 0 d (omega (arith, length-numbers_below n)) ∙ ap f (get_or-numbers_below n k 0 lt)

-- a struct that isn't there has no part of an ID
no_part : (c : Catalogue) (s : ℕ) → length c.structs ≤ s → has_id_part c s ≡ false
unfolding has_id_part
no_part c s ge =
    let none : struct_entry c s ≡ record { type_number = length c.types; members = [] } =
    get_or_past c.structs s (record { type_number = length c.types; members = [] }) ge in
    let nameless : struct_name c s ≡ [] =
    ap (λ (e : StructEntry). (type_entry c e.type_number).name) none
    ∙ ap (λ (t : TypeEntry). t.name) (get_or_past c.types (length c.types) (record { name = []; length = 0 }) (omega arith)) in
    let empty : member_count c s ≡ 0 = ap (λ (e : StructEntry). length e.members) none in
    by (struct_name c s) (member_count c s) nameless empty
  where
    by : (name : List ℕ) (count : ℕ) → name ≡ [] → count ≡ 0
        → (bytes_eq name (codes "ID") || (nat_lt 0 count && is_id_member c s 0)) ≡ false
    by name count nameless empty = rw (nameless, empty) refl

-- the identifier of a member stands in its name where the member's shape says
pub shape_inside : (c : Catalogue) (w : Width) (s : ℕ) (shape : Shape) (name : List ℕ)
    → shape ≡ shape_of c w s 0 → name ≡ name_entry c (member_entry c s 0).name_number
    → shape.identifier_at + shape.identifier_len ≤ length name
unfolding shape_of name_of
shape_inside c w s shape name is named = rw (is, named) (entry_shape (name_entry c (member_entry c s 0).name_number)).inside

identifier_of_shape : (c : Catalogue) (w : Width) (s : ℕ)
    → part (name_entry c (member_entry c s 0).name_number) (shape_of c w s 0).identifier_at (shape_of c w s 0).identifier_len
    ≡ (name_of c s 0).identifier
unfolding shape_of name_of
identifier_of_shape c w s = (entry_shape (name_entry c (member_entry c s 0).name_number)).same

-- what a member's name and shape say of whether it is `id` is what the catalogue says
pub id_member_by : (c : Catalogue) (w : Width) (s : ℕ) (shape : Shape) (name identifier : List ℕ) (of_id : Bool)
    → shape ≡ shape_of c w s 0 → name ≡ name_entry c (member_entry c s 0).name_number
    → identifier ≡ part name shape.identifier_at shape.identifier_len → of_id ≡ is_id_struct c shape.inner
    → (bytes_eq identifier (codes "id") && shape.count == 1 && of_id) ≡ is_id_member c s 0
unfolding shape_of
id_member_by c w s shape name identifier of_id is named read inner =
    let own : identifier ≡ (name_of c s 0).identifier =
    read ∙ ap (λ (y : Shape). part name y.identifier_at y.identifier_len) is
    ∙ ap (λ n. part n (shape_of c w s 0).identifier_at (shape_of c w s 0).identifier_len) named
    ∙ identifier_of_shape c w s in
    rw (own, inner) (ap (λ (y : Shape). bytes_eq (name_of c s 0).identifier (codes "id") && y.count == 1 && is_id_struct c y.inner) is
    ∙ by_inner (inner_struct c s 0) refl)
  where
    by_inner : (o : Option ℕ) → inner_struct c s 0 ≡ o
        → (bytes_eq (name_of c s 0).identifier (codes "id") && (name_of c s 0).count == 1 && is_id_struct c (inner_struct c s 0)) ≡ is_id_member c s 0
    by_inner None e = rw e refl
    by_inner (Some t) e = rw e refl

-- ---- nodes

-- number k stands at place k of the numbers below n
part_at : (c : Catalogue) (s : ℕ) → slice_index_or (id_parts c) s false ≡ has_id_part c s
part_at c s = elim (cases_lt s (length c.structs)) [
  | inl lt ↦ get_or-by (has_id_part c) (length c.structs) s false lt
  | inr ge ↦ (get_or_past (id_parts c) s false (omega (arith, ge, length-map (struct_numbers c) (has_id_part c), length-numbers_below (length c.structs))) ∙ sym (no_part c s ge))
]

-- by the table of structs a node is an ID where it is one
pub is_id_by-is_id : (c : Catalogue) (parts : List Bool) (x : Head) → parts ≡ id_parts c
    → is_id_by parts x ≡ is_id c x.code x.count x.index
unfolding is_id
is_id_by-is_id c parts x is =
    ap (λ bs. is_id_by bs x) is
    ∙ ap (λ b. is_two_letter x.code && x.count == 1 && not (x.index == 0) && b) (part_at c x.index)

-- one node more
pub ids-more : (c : Catalogue) (parts : List Bool) (nodes : List Head) (i : ℕ) (d : Head) (ids : List Bool) (own : Bool)
    → parts ≡ id_parts c → i < length nodes → own ≡ is_id_by parts (get_or nodes i d)
    → ids ≡ ids_of c (take i nodes) → ids ++ own ∷ [] ≡ ids_of c (take (i + 1) nodes)
ids-more c parts nodes i d ids own is lt own_is so_far =
    let x = get_or nodes i d in
    let test : Head → Bool = λ y. is_id c y.code y.count y.index in
    ap (λ bs. bs ++ own ∷ []) so_far
    ∙ ap (λ b. ids_of c (take i nodes) ++ b ∷ []) (own_is ∙ is_id_by-is_id c parts x is)
    ∙ sym (ap (map test) (take_more nodes i d lt) ∙ map_push test (take i nodes) x)
