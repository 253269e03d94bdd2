-- A payload of elements that are written one after another has these elements, and each of them reads as its fields.
use Rattle.std.proofs.Common.{◌≡◌, ℕ, zero, suc, ◌+◌, ◌*◌, All, List, [], ◌∷◌, ◌++◌, length, get_or, None, refl, sym, ap, ◌∙◌, append_assoc, append-nil, arith}
use Rattle.std.specs.Prelude.{map, flat_map, zip}
use Rattle.std.proofs.Math.Path.{fun_ext}
use Rattle.std.proofs.lemmas.List.{take_at, drop_at, length-append, map-append}
use Rattle.std.proofs.lemmas.List.Elements.{All-head, All-tail}
use Rattle.bl_num.specs.declared.number.Order.{Order}
use Rattle.bl_num.specs.declared.number.Width.{Width}
use Rattle.bl_format.specs.declared.catalogue.Catalogue.{Catalogue}
use Rattle.bl_format.specs.Words.{part, numbers_below}
use Rattle.bl_format.specs.Layout.{named_leaves, struct_length, first_fault}
use Rattle.bl_format.specs.Graph.{Target, Naming, Fields, elements, fields, struct_cells}
use Rattle.bl_selection.specs.Written.{element_written}
use Rattle.bl_selection.specs.Fits.{Slot, slots, FieldsFit}
use Rattle.bl_selection.proofs.WrittenBytes.{length-struct_written}
use Rattle.bl_selection.proofs.FieldsBack.{values_fill, fields_fit-each, fields_back}

-- the numbers below n + 1 are 0 and, one higher, those below n
pub numbers_below-first : (n : ℕ) → numbers_below (suc n) ≡ 0 ∷ map (λ k. suc k) (numbers_below n)
numbers_below-first zero = refl
numbers_below-first (suc n) =
    ap (λ (ks : List ℕ). ks ++ suc n ∷ []) (numbers_below-first n) ∙ ap (λ (ks : List ℕ). 0 ∷ ks) (sym (map-append (λ k. suc k) (numbers_below n) (n ∷ [])))

-- a text of some size, on which others follow, stands at its place
text_at : (front text rest : List ℕ) (at size : ℕ) → length front ≡ at → length text ≡ size → part (front ++ (text ++ rest)) at size ≡ text
text_at front text rest at size len long = rw (drop_at front (text ++ rest) at len) (take_at text rest size long)

-- what numbers give, one higher each
one_higher : {B : Type 0} (g h : ℕ → B) (ks : List ℕ) → ((k : ℕ) → g (suc k) ≡ h k) → map g (map (λ k. suc k) ks) ≡ map h ks
one_higher g h [] same = refl
one_higher g h (k ∷ ks) same = rw (same k, one_higher g h ks same) refl

module _ {X : Type 0} (f : X → List ℕ) (size : ℕ) where
  -- a text's length is that of f of an element
  abbrev pub IsEven : X → Type 0
  IsEven x = length (f x) ≡ size

  parts_behind : (front rest : List ℕ) (at : ℕ) (xs : List X) → length front ≡ at → All IsEven xs
      → map (λ i. part (front ++ (flat_map f xs ++ rest)) (at + i * size) size) (numbers_below (length xs)) ≡ map f xs
  parts_behind front rest at [] len even = refl
  parts_behind front rest at (x ∷ xs) len even =
      let bytes : List ℕ = front ++ ((f x ++ flat_map f xs) ++ rest) in
      let one : length (f x) ≡ size = All-head IsEven x xs even in
      let here : bytes ≡ front ++ (f x ++ (flat_map f xs ++ rest)) = simp append_assoc in
      let same : bytes ≡ front ++ f x ++ (flat_map f xs ++ rest) = simp append_assoc in
      let first : part bytes (at + 0 * size) size ≡ f x = ap (λ (b : List ℕ). part b (at + 0 * size) size) here ∙ text_at front (f x) (flat_map f xs ++ rest) (at + 0 * size) size (omega (arith, len)) one in
      let later = parts_behind (front ++ f x) rest (at + size) xs (omega (arith, len, one, length-append front (f x))) (All-tail IsEven x xs even) in
      let next : (k : ℕ) → part bytes (at + suc k * size) size ≡ part (front ++ f x ++ (flat_map f xs ++ rest)) (at + size + k * size) size = λ k.
      let place : at + suc k * size ≡ at + size + k * size = omega arith in
      λ i. part (same i) (place i) size in
      let others = one_higher (λ k. part bytes (at + k * size) size) (λ k. part (front ++ f x ++ (flat_map f xs ++ rest)) (at + size + k * size) size) (numbers_below (length xs)) next ∙ later in
      ap (map (λ k. part bytes (at + k * size) size)) (numbers_below-first (length xs)) ∙ λ i. first i ∷ others i

  -- some texts of one size are together as long as all of them
  pub length-flat_map_even : (xs : List X) → All IsEven xs → length (flat_map f xs) ≡ length xs * size
  length-flat_map_even [] long = omega arith
  length-flat_map_even (x ∷ xs) long =
      let one : length (f x) ≡ size = All-head IsEven x xs long in
      let later = length-flat_map_even xs (All-tail IsEven x xs long) in
      omega (arith, one, later, length-append (f x) (flat_map f xs))

  -- with something behind them, they are the elements of that size
  pub elements-texts : (xs : List X) (rest : List ℕ) → All IsEven xs → elements (flat_map f xs ++ rest) size (length xs) ≡ map f xs
  elements-texts xs rest even =
      let from_zero : (k : ℕ) → k * size ≡ 0 + k * size = λ k. omega arith in
      ap (λ (at : ℕ → ℕ). map (λ k. part (flat_map f xs ++ rest) (at k) size) (numbers_below (length xs))) (fun_ext from_zero) ∙ parts_behind [] rest 0 xs refl even

  -- and alone
  pub elements-flat_map : (xs : List X) → All IsEven xs → elements (flat_map f xs) size (length xs) ≡ map f xs
  elements-flat_map xs even = ap (λ (b : List ℕ). elements b size (length xs)) (sym (append-nil (flat_map f xs))) ∙ elements-texts xs [] even

-- ---- the laws

-- fields that fit the leaves of a struct
abbrev pub FitsStruct : Naming Target → Catalogue → Width → ℕ → Fields → Type 0
FitsStruct names c w s fs = FieldsFit names (slots (named_leaves c w s)) fs

-- an element of a struct as it is written
abbrev pub struct_written : Order → Catalogue → Width → ℕ → Fields → List ℕ
struct_written order c w s fs = element_written order (struct_length c s) (named_leaves c w s) fs

-- each element whose fields fit is as long as the struct
lengths : (names : Naming Target) (order : Order) (c : Catalogue) (w : Width) (s : ℕ) (es : List Fields)
    → first_fault c w ≡ None → All (FitsStruct names c w s) es
    → All (λ fs. length (struct_written order c w s fs) ≡ struct_length c s) es
lengths names order c w s es e fit i d lt =
    let fs : Fields = get_or es i d in
    let xs : List Slot = slots (named_leaves c w s) in
    length-struct_written order c w s fs e (values_fill names (zip xs fs) (fields_fit-each names xs fs (fit i d lt)))

-- a payload of elements is as long as all of them
pub length-payload : (names : Naming Target) (order : Order) (c : Catalogue) (w : Width) (s : ℕ) (es : List Fields)
    → first_fault c w ≡ None → All (FitsStruct names c w s) es
    → length (flat_map (struct_written order c w s) es) ≡ length es * struct_length c s
length-payload names order c w s es e fit = length-flat_map_even (struct_written order c w s) (struct_length c s) es (lengths names order c w s es e fit)

-- elements that are written one after another are the elements of their payload
pub elements_back : (names : Naming Target) (order : Order) (c : Catalogue) (w : Width) (s : ℕ) (es : List Fields)
    → first_fault c w ≡ None → All (FitsStruct names c w s) es
    → elements (flat_map (struct_written order c w s) es) (struct_length c s) (length es) ≡ map (struct_written order c w s) es
elements_back names order c w s es e fit =
    elements-flat_map (struct_written order c w s) (struct_length c s) es (lengths names order c w s es e fit)

each_back : (names : Naming Target) (order : Order) (c : Catalogue) (w : Width) (s : ℕ) (es : List Fields)
    → first_fault c w ≡ None → All (FitsStruct names c w s) es
    → map fields (map (struct_cells names order c w s) (map (struct_written order c w s) es)) ≡ es
each_back names order c w s [] e fit = refl
each_back names order c w s (fs ∷ es) e fit =
    let first = fields_back names order c w s fs e (All-head (FitsStruct names c w s) fs es fit) in
    let later = each_back names order c w s es e (All-tail (FitsStruct names c w s) fs es fit) in
    λ i. first i ∷ later i

-- and each reads as the fields that were written
pub payload_back : (names : Naming Target) (order : Order) (c : Catalogue) (w : Width) (s : ℕ) (es : List Fields)
    → first_fault c w ≡ None → All (FitsStruct names c w s) es
    → map fields (map (struct_cells names order c w s) (elements (flat_map (struct_written order c w s) es) (struct_length c s) (length es))) ≡ es
payload_back names order c w s es e fit =
    ap (λ (bs : List (List ℕ)). map fields (map (struct_cells names order c w s) bs)) (elements_back names order c w s es e fit)
    ∙ each_back names order c w s es e fit
