-- A value that is carried over to a leaf fills its place there, so an element that is carried over has the length of its
-- new struct. It needs that the source's element is whole, and nothing of what its pointers name.
use Rattle.std.proofs.Common.{◌≡◌, ℕ, ◌<◌, Bool, true, false, cond, All, List, length, get_or, Option, Some, None, refl, sym, subst, ◌∙◌, eqb-true}
use Rattle.std.specs.Prelude.{◌&&◌, ◌==◌, nat_lt, zip}
use Rattle.std.proofs.lemmas.Bool.{ltb-true}
use Rattle.std.proofs.lemmas.List.{length-replicate}
use Rattle.bl_num.specs.declared.number.Order.{Order}
use Rattle.bl_num.specs.declared.number.Width.{Width}
use Rattle.bl_format.specs.declared.catalogue.Catalogue.{Catalogue}
use Rattle.bl_format.specs.declared.layout.Kind.{Kind}
use Rattle.bl_format.specs.declared.layout.Kind.TheVariants as kinds
use Rattle.bl_format.specs.Layout.{NamedLeaf, named_leaves, struct_length, first_fault}
use Rattle.bl_format.specs.Graph.{Target, Value, Naming, Fields, leaf_bytes, leaf_value, value_by}
use Rattle.bl_format.proofs.LeafBytes.{length-leaf_bytes}
use Rattle.bl_selection.specs.Fate.{kept_count, same_type, source_leaf, zero_of_kind, zero_of, converted_value, value_from, carried_value, ways_meet}
use Rattle.bl_selection.specs.Fits.{FillsPlace, Slot, slots}
use Rattle.bl_selection.specs.Carried.{struct_form, carried_element}
use Rattle.bl_selection.proofs.CarriedFits.{both_true, kept_below, found-holds}
use Rattle.bl_selection.proofs.FieldsBack.{fields-slots}
use Rattle.bl_selection.proofs.OwnFormLengths.{all_elements, fields_fill}
use Rattle.bl_selection.proofs.WrittenBytes.{Fills, length-struct_written}

-- the elements of a leaf are whole in some bytes
abbrev IsWholeIn : List ℕ → NamedLeaf → Type 0
IsWholeIn bytes x = (k : ℕ) → k < x.count → length (leaf_bytes x bytes k) ≡ x.size

zero-fills : (kind : Kind) (size : ℕ) → FillsPlace size (zero_of_kind None kind size)
zero-fills (kinds.Whole whole) size = tt
zero-fills (kinds.Bits n) size = tt
zero-fills (kinds.Pointer depth t) size = tt
zero-fills kinds.Opaque size = length-replicate size 0

module _ (names : Naming Target) (order : Order) where
  converted-fills : (alike : Bool) (kind : Kind) (size : ℕ) (other_kind : Kind) (other_size : ℕ) (bytes : List ℕ)
      → (alike ≡ true → size ≡ other_size) → length bytes ≡ size
      → FillsPlace other_size (converted_value alike (zero_of_kind None other_kind other_size) kind other_kind (value_by kind names order bytes))
  converted-fills alike (kinds.Pointer a s) size (kinds.Pointer b t) other_size bytes same long = tt
  converted-fills alike (kinds.Whole a) size (kinds.Whole b) other_size bytes same long = tt
  converted-fills true (kinds.Bits a) size (kinds.Bits b) other_size bytes same long = tt
  converted-fills false (kinds.Bits a) size (kinds.Bits b) other_size bytes same long = tt
  converted-fills true kinds.Opaque size kinds.Opaque other_size bytes same long = long ∙ same refl
  converted-fills false kinds.Opaque size kinds.Opaque other_size bytes same long = zero-fills kinds.Opaque other_size
  converted-fills alike _ size other_kind other_size bytes same long = zero-fills other_kind other_size

  value_from-fills : (bytes : List ℕ) (y : NamedLeaf) (k : ℕ) (o : Option NamedLeaf) → ((x : NamedLeaf) → o ≡ Some x → IsWholeIn bytes x)
      → FillsPlace y.size (value_from None names order bytes o y k)
  unfolding leaf_value
  value_from-fills bytes y k None whole = zero-fills y.kind y.size
  value_from-fills bytes y k (Some x) whole = by_count (nat_lt k (kept_count x y)) refl
    where
      read : Value Target
      read = converted_value (same_type x y && x.size == y.size) (zero_of None y) x.kind y.kind (value_by x.kind names order (leaf_bytes x bytes k))

      by_count : (b : Bool) → nat_lt k (kept_count x y) ≡ b → FillsPlace y.size (cond b read (zero_of None y))
      by_count false is = zero-fills y.kind y.size
      by_count true is =
          converted-fills (same_type x y && x.size == y.size) x.kind x.size y.kind y.size (leaf_bytes x bytes k)
          (λ alike. eqb-true x.size y.size (both_true (same_type x y) (x.size == y.size) alike))
          (whole x refl k (kept_below x y k (ltb-true k (kept_count x y) is)))

  carried_value-fills : (xs : List NamedLeaf) (bytes : List ℕ) (y : NamedLeaf) (k : ℕ) → All (IsWholeIn bytes) xs
      → FillsPlace y.size (carried_value None names order xs bytes y k)
  unfolding carried_value
  carried_value-fills xs bytes y k whole =
      value_from-fills bytes y k (source_leaf xs y) (λ x is. found-holds (IsWholeIn bytes) (λ (x : NamedLeaf). ways_meet x.way y.way) xs x whole is)

-- ---- the law

-- an element that is carried over is as long as its new struct
pub length-carried_element : (names : Naming Target) (order order' : Order) (c c' : Catalogue) (v w : Width) (s t : ℕ) (bytes : List ℕ)
    → first_fault c v ≡ None → first_fault c' w ≡ None → length bytes ≡ struct_length c s
    → length (carried_element names (struct_form order c v s) (struct_form order' c' w t) bytes) ≡ struct_length c' t
length-carried_element names order order' c c' v w s t bytes old new long =
    let xs : List NamedLeaf = named_leaves c v s in
    let ys : List NamedLeaf = named_leaves c' w t in
    let value : NamedLeaf → ℕ → Value Target = λ y k. carried_value None names order xs bytes y k in
    let fill : All (λ (e : Slot). FillsPlace e.0.size (value e.0 e.1)) (slots ys) = all_elements (λ (e : Slot). FillsPlace e.0.size (value e.0 e.1)) ys
    (λ i d lt k below. carried_value-fills names order xs bytes (get_or ys i d) k (length-leaf_bytes c v s bytes old long)) in
    length-struct_written order' c' w t _ new
    (subst (λ (fs : Fields). All Fills (zip (slots ys) fs)) (sym (fields-slots value ys)) (fields_fill value (slots ys) fill))
