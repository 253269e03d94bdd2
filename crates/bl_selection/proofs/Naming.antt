-- Values don't look at what pointers name: a value carried over while addresses name one sort of thing is, with
-- each of these replaced by another, the value carried over while addresses name the other. So one definition of
-- values serves nodes, entries and addresses of an output.
use Rattle.std.proofs.Common.{◌≡◌, ℕ, Bool, true, false, cond, List, Option, Some, None, refl}
use Rattle.std.specs.Prelude.{nat_lt, ◌&&◌, ◌==◌}
use Rattle.bl_num.specs.declared.number.Order.{Order}
use Rattle.bl_format.specs.declared.layout.Kind.{Kind}
use Rattle.bl_format.specs.declared.layout.Kind.TheVariants as kinds
use Rattle.bl_format.specs.Layout.{NamedLeaf}
use Rattle.bl_format.specs.Graph.{Value, Number, Pattern, Points, Opaque, Naming, value_by, leaf_bytes, leaf_value}
use Rattle.bl_selection.specs.Fate.{zero_of_kind, zero_of, converted_value, kept_count, same_type, source_leaf, value_from, carried_value}

-- a value with what its pointer names replaced
abbrev pub map_value : {P Q : Type 0} → (P → Q) → Value P → Value Q
map_value f (Number z) = Number z
map_value f (Pattern b) = Pattern b
map_value f (Points to) = Points (f to)
map_value f (Opaque b) = Opaque b

map_value-cond : {P Q : Type 0} (f : P → Q) (b : Bool) (x y : Value P)
    → map_value f (cond b x y) ≡ cond b (map_value f x) (map_value f y)
map_value-cond f true x y = refl
map_value-cond f false x y = refl

map_value-zero_of_kind : {P Q : Type 0} (f : P → Q) (null : P) (k : Kind) (n : ℕ)
    → map_value f (zero_of_kind null k n) ≡ zero_of_kind (f null) k n
map_value-zero_of_kind f null (kinds.Whole w) n = refl
map_value-zero_of_kind f null (kinds.Bits b) n = refl
map_value-zero_of_kind f null (kinds.Pointer depth t) n = refl
map_value-zero_of_kind f null kinds.Opaque n = refl

map_value-converted_value : {P Q : Type 0} (f : P → Q) (alike : Bool) (other : Value P) (k l : Kind) (names : Naming P) (order : Order) (bytes : List ℕ)
    → map_value f (converted_value alike other k l (value_by k names order bytes)) ≡ converted_value alike (map_value f other) k l (value_by k (λ a. f (names a)) order bytes)
map_value-converted_value f alike other (kinds.Pointer a s) (kinds.Pointer b t) names order bytes = refl
map_value-converted_value f alike other (kinds.Whole a) (kinds.Whole b) names order bytes = refl
map_value-converted_value f alike other (kinds.Bits a) (kinds.Bits b) names order bytes = map_value-cond f alike _ other
map_value-converted_value f alike other kinds.Opaque kinds.Opaque names order bytes = map_value-cond f alike _ other
map_value-converted_value f alike other _ _ names order bytes = refl

map_value-value_from : {P Q : Type 0} (f : P → Q) (null : P) (names : Naming P) (order : Order) (bytes : List ℕ) (o : Option NamedLeaf) (y : NamedLeaf) (k : ℕ)
    → map_value f (value_from null names order bytes o y k) ≡ value_from (f null) (λ a. f (names a)) order bytes o y k
unfolding leaf_value
map_value-value_from f null names order bytes None y k = map_value-zero_of_kind f null y.kind y.size
map_value-value_from f null names order bytes (Some x) y k =
    rw (map_value-cond f (nat_lt k (kept_count x y)) (converted_value (same_type x y && x.size == y.size) (zero_of null y) x.kind y.kind (value_by x.kind names order (leaf_bytes x bytes k))) (zero_of null y), map_value-zero_of_kind f null y.kind y.size, map_value-converted_value f (same_type x y && x.size == y.size) (zero_of null y) x.kind y.kind names order (leaf_bytes x bytes k), map_value-zero_of_kind f null y.kind y.size) refl

-- what pointers name can be replaced before a value is carried over, or after
pub map_value-carried_value : {P Q : Type 0} (f : P → Q) (null : P) (names : Naming P) (order : Order) (xs : List NamedLeaf) (bytes : List ℕ) (y : NamedLeaf) (k : ℕ)
    → map_value f (carried_value null names order xs bytes y k) ≡ carried_value (f null) (λ a. f (names a)) order xs bytes y k
unfolding carried_value
map_value-carried_value f null names order xs bytes y k = map_value-value_from f null names order bytes (source_leaf xs y) y k
