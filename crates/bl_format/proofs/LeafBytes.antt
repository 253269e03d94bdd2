-- Each element of each leaf stands whole in the bytes of a struct's element, so what is read there is as long as the
-- leaf says.
use Rattle.std.proofs.Common.{◌≡◌, ℕ, suc, ◌+◌, ◌*◌, ◌≤◌, ◌<◌, All, List, length, get_or, None, arith, mul-le-mul_right, drop, length-take, length-drop}
use Rattle.bl_num.specs.declared.number.Width.{Width}
use Rattle.bl_format.specs.declared.catalogue.Catalogue.{Catalogue}
use Rattle.bl_format.specs.Layout.{NamedLeaf, struct_length, named_leaves, first_fault}
use Rattle.bl_format.specs.Graph.{leaf_bytes}
use Rattle.bl_format.proofs.LeavesApart.{named_leaves-within}

element_within : (offset size count k to : ℕ) → k < count → offset + size * count ≤ to → offset + k * size + size ≤ to
element_within offset size count k to lt le =
    let more : suc k * size ≤ count * size = mul-le-mul_right size lt in
    omega arith

-- each element of a leaf ends within the struct's length
pub leaf_elements-within : (c : Catalogue) (w : Width) (s : ℕ) → first_fault c w ≡ None
    → All (λ x. (k : ℕ) → k < x.count → x.offset + k * x.size + x.size ≤ struct_length c s) (named_leaves c w s)
leaf_elements-within c w s e i d lt k below =
    let x : NamedLeaf = get_or (named_leaves c w s) i d in
    element_within x.offset x.size x.count k (struct_length c s) below (named_leaves-within c w s e i d lt)

-- the bytes of an element of a leaf are as many as the leaf says
pub length-leaf_bytes : (c : Catalogue) (w : Width) (s : ℕ) (bytes : List ℕ) → first_fault c w ≡ None → length bytes ≡ struct_length c s
    → All (λ x. (k : ℕ) → k < x.count → length (leaf_bytes x bytes k) ≡ x.size) (named_leaves c w s)
length-leaf_bytes c w s bytes e long i d lt k below =
    let x : NamedLeaf = get_or (named_leaves c w s) i d in
    let at : ℕ = x.offset + k * x.size in
    let within : at + x.size ≤ struct_length c s = leaf_elements-within c w s e i d lt k below in
    omega (arith, long, within, length-take x.size (drop at bytes), length-drop at bytes)
