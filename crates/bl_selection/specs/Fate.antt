-- What becomes of the members of a struct under another catalogue: the fate of each member, and the value
-- that each element of a leaf is carried to. That members meet by name is Blender's way (`DNA_genfile`);
-- the fates, which casts there are, and that floats meet no other numbers are this project's own.
use Rattle.std.specs.Prelude.{ℕ, ◌-◌, min, Bool, true, false, not, ◌&&◌, ◌||◌, ◌==◌, nat_lt, if◌then◌else◌, List, [], ◌∷◌, length, Option, Some, None, option_map, pos, codes}
use Rattle.std.specs.List.{find}
use Rattle.std.specs.Str.{bytes_eq}
use Rattle.bl_num.specs.declared.number.Order.{Order}
use Rattle.bl_num.specs.declared.number.Width.{Width}
use Rattle.bl_num.specs.Numbers.{number_meant, bits_of}
use Rattle.bl_format.specs.declared.catalogue.Catalogue.{Catalogue}
use Rattle.bl_format.specs.declared.layout.Kind.{Kind}
use Rattle.bl_format.specs.declared.layout.Kind.TheVariants as kinds
use Rattle.bl_selection.specs.declared.draft.Fate.{Fate}
use Rattle.bl_selection.specs.declared.draft.Fate.TheVariants as fates
use Rattle.bl_format.specs.Words.{first_place, zeros}
use Rattle.bl_format.specs.Layout.{MemberStep, NamedLeaf, Content, IsBasic, IsStruct, IsOpaque, IsWhole, IsFloat, content_of, type_entry, member_entry, member_numbers, member_size, name_of}
use Rattle.bl_format.specs.Graph.{Value, Number, Pattern, Points, Opaque, Naming, leaf_value}

-- ---- one member

-- the fate of members that carry their values over, by the counts of their elements
abbrev pub fate_by_count : ℕ → ℕ → Fate
fate_by_count from to =
    if nat_lt to from then fates.Cut else
    if nat_lt from to then fates.Extended else
    fates.Kept

-- both signs are one
abbrev pub same_sign : Bool → Bool → Bool
same_sign true b = b
same_sign false b = not b

-- the fate of two members by value, by what they hold, whether their types have one name and one length,
-- and their fate by counts
abbrev pub fate_by_content : Content → Content → Bool → Bool → Fate → Fate
fate_by_content (IsBasic (IsWhole a ms)) (IsBasic (IsWhole b ns)) name length counts =
    if same_sign a b && length then counts else fates.Cast
fate_by_content (IsBasic (IsFloat m)) (IsBasic (IsFloat n)) name length counts =
    if name then counts else fates.FloatCast
fate_by_content (IsBasic (IsFloat m)) (IsBasic (IsWhole b ns)) name length counts = fates.FloatCast
fate_by_content (IsBasic (IsWhole a ms)) (IsBasic (IsFloat n)) name length counts = fates.FloatCast
fate_by_content (IsStruct s) (IsStruct t) name length counts = if name then counts else fates.Fresh
fate_by_content IsOpaque IsOpaque name length counts = if name && length then counts else fates.Fresh
fate_by_content _ _ name length counts = fates.Fresh

-- the number of a member's type
abbrev pub member_type : Catalogue → ℕ → ℕ → ℕ
member_type c s k = (member_entry c s k).type_number

-- the fate of target member k of struct t, which meets source member j of struct s, neither of size 0
abbrev pub pair_fate : Catalogue → ℕ → ℕ → Catalogue → ℕ → ℕ → Fate
pair_fate from s j to t k =
    let a = name_of from s j in
    let b = name_of to t k in
    let m = member_type from s j in
    let n = member_type to t k in
    let same_name = bytes_eq (type_entry from m).name (type_entry to n).name in
    let same_length = (type_entry from m).length == (type_entry to n).length in
    let counts = fate_by_count a.count b.count in
    if a.pointer && b.pointer then counts else
    if a.pointer || b.pointer then fates.Fresh else
    fate_by_content (content_of from m) (content_of to n) same_name same_length counts

-- the member of a key in struct s
abbrev pub member_of_key : Catalogue → ℕ → List ℕ → Option ℕ
member_of_key c s key = first_place (λ j. bytes_eq (name_of c s j).key key) (member_numbers c s)

-- the fate of target member k of struct t, which meets struct s of the same name; v and w are the widths
unfoldable pub fate_of : Catalogue → Width → ℕ → Catalogue → Width → ℕ → ℕ → Fate
fate_of from v s to w t k = go (member_of_key from s (name_of to t k).key)
  where
    go : Option ℕ → Fate
    go None = fates.Fresh
    go (Some j) =
        if member_size from v s j == 0 || member_size to w t k == 0 then fates.Fresh else
        pair_fate from s j to t k

-- ---- one leaf

-- Values are carried leaf by leaf. The way to a leaf has the name of each struct on it, each member's key
-- and the element, so two ways meet exactly where member after member comes to the same pair, with elements
-- that both structs have. Members of size 0 have no leaves.

-- two members on the way to a leaf meet: of structs of one name, with one key, at one element
abbrev pub steps_meet : MemberStep → MemberStep → Bool
steps_meet x y = bytes_eq x.owner y.owner && bytes_eq x.key y.key && x.element == y.element

-- two ways meet, member by member
abbrev pub ways_meet : List MemberStep → List MemberStep → Bool
ways_meet [] [] = true
ways_meet (x ∷ xs) (y ∷ ys) = steps_meet x y && ways_meet xs ys
ways_meet _ _ = false

-- the source leaf on the same way, which the target leaf meets
abbrev pub source_leaf : List NamedLeaf → NamedLeaf → Option NamedLeaf
source_leaf xs y = find (λ (x : NamedLeaf). ways_meet x.way y.way) xs

-- the types of two leaves have one name
abbrev pub same_type : NamedLeaf → NamedLeaf → Bool
same_type x y = bytes_eq x.type_name y.type_name

-- the leaf holds whole numbers
abbrev pub is_whole : Kind → Bool
is_whole (kinds.Whole w) = true
is_whole k = false

-- the leaf holds `char` by value, not a pointer to it
abbrev pub is_char : NamedLeaf → Bool
is_char x = bytes_eq x.type_name (codes "char") && is_whole x.kind

-- how many elements the target leaf y keeps of x: of `char`, where y is shorter, one fewer than y has
abbrev pub kept_count : NamedLeaf → NamedLeaf → ℕ
kept_count x y = if is_char x && is_char y && nat_lt y.count x.count then y.count - 1 else min x.count y.count

-- zero for a leaf of a kind with elements of n bytes: number 0, pattern 0, null, or zero bytes
abbrev pub zero_of_kind : {P : Type 0} → P → Kind → ℕ → Value P
zero_of_kind null (kinds.Whole w) n = Number (pos 0)
zero_of_kind null (kinds.Bits b) n = Pattern 0
zero_of_kind null (kinds.Pointer depth t) n = Points null
zero_of_kind null kinds.Opaque n = Opaque (zeros n)

-- zero for a leaf
abbrev pub zero_of : {P : Type 0} → P → NamedLeaf → Value P
zero_of null y = zero_of_kind null y.kind y.size

-- a value of the source's kind under the target's, or another value where the kinds don't meet; alike says
-- that both leaves have one type name and one size
abbrev pub converted_value : {P : Type 0} → Bool → Value P → Kind → Kind → Value P → Value P
converted_value alike other (kinds.Pointer a s) (kinds.Pointer b t) v = v
converted_value alike other (kinds.Whole a) (kinds.Whole b) (Number z) =
    Number (number_meant b (bits_of b.bytes z))
converted_value alike other (kinds.Bits a) (kinds.Bits b) v = if alike then v else other
converted_value alike other kinds.Opaque kinds.Opaque v = if alike then v else other
converted_value alike other _ _ v = other

-- the value of element k of target leaf y, from the source leaf that it meets
abbrev pub value_from : {P : Type 0}
    → P → Naming P → Order → List ℕ → Option NamedLeaf → NamedLeaf → ℕ → Value P
value_from null names order bytes None y k = zero_of null y
value_from null names order bytes (Some x) y k =
    let alike = same_type x y && x.size == y.size in
    if nat_lt k (kept_count x y)
    then converted_value alike (zero_of null y) x.kind y.kind (leaf_value names order bytes x k)
    else zero_of null y

-- the value of element k of target leaf y, from the source's leaves and the bytes of one of its elements
unfoldable pub carried_value : {P : Type 0}
    → P → Naming P → Order → List NamedLeaf → List ℕ → NamedLeaf → ℕ → Value P
carried_value null names order xs bytes y k = value_from null names order bytes (source_leaf xs y) y k

-- ---- a float and another number

-- a float meets another number, or a float of another type; alike says that both types have one name
abbrev pub kinds_clash : Bool → Kind → Kind → Bool
kinds_clash alike (kinds.Bits a) (kinds.Bits b) = not alike
kinds_clash alike (kinds.Bits a) (kinds.Whole b) = true
kinds_clash alike (kinds.Whole a) (kinds.Bits b) = true
kinds_clash alike _ _ = false

-- target leaf y meets a source leaf that it can't carry
abbrev pub clashes : List NamedLeaf → NamedLeaf → Bool
clashes xs y = go (source_leaf xs y)
  where
    go : Option NamedLeaf → Bool
    go None = false
    go (Some x) = kinds_clash (same_type x y) x.kind y.kind

-- the struct in which a leaf stands directly, and its member there
abbrev pub direct_member : List MemberStep → ℕ × ℕ
direct_member [] = (0, 0)
direct_member (step ∷ []) = (step.s, step.member)
direct_member (step ∷ next ∷ steps) = direct_member (next ∷ steps)

-- the first target leaf that can't be carried, by struct and member; one within a struct by value is told
-- under the inner struct
unfoldable pub first_clash : List NamedLeaf → List NamedLeaf → Option (ℕ × ℕ)
first_clash xs ys = option_map (λ (y : NamedLeaf). direct_member y.way) (find (clashes xs) ys)
