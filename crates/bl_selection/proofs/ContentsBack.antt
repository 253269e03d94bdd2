-- What a raw node holds is read again from the bytes in which it is written, as its kind.
use Rattle.std.proofs.Common.{◌≡◌, ℕ, ◌+◌, ◌*◌, ◌/◌, ◌^◌, ◌<◌, All, List, [], ◌∷◌, ◌++◌, length, drop, refl, sym, ap, ◌∙◌, append_assoc, append-nil, arith}
use Rattle.std.specs.Prelude.{map, flat_map}
use Rattle.std.proofs.lemmas.List.{drop_at, length-append}
use Rattle.std.proofs.lemmas.List.Elements.{All-head, All-tail}
use Rattle.std.proofs.lemmas.Nat.{div-mul-add}
use Rattle.bl_num.specs.declared.number.Order.{Order}
use Rattle.bl_num.specs.declared.number.Width.{Width}
use Rattle.bl_num.specs.declared.number.Width.TheVariants.{Four, Eight}
use Rattle.bl_num.specs.Numbers.{pointer_bytes, number_of, bytes_of}
use Rattle.bl_num.proofs.BytesOf.{length-bytes_of, number_of-bytes_of}
use Rattle.bl_format.specs.declared.file.Header.{Header}
use Rattle.bl_format.specs.declared.raw.RawKind.{RawKind}
use Rattle.bl_format.specs.declared.raw.RawKind.TheVariants as raw
use Rattle.bl_format.specs.Graph.{Target, Naming, Contents, IsBytes, IsNumbers, IsPointers, IsPair, pieces, elements, contents_by, form_of}
use Rattle.bl_selection.specs.Written.{address_of, contents_written}
use Rattle.bl_selection.specs.Fits.{PointerFits, ContentsFit}
use Rattle.bl_selection.proofs.ValuesBack.{number_back}
use Rattle.bl_selection.proofs.ElementsBack.{elements-texts, length-flat_map_even}

-- numbers of n bytes each with less than n bytes behind them, as pieces
module _ {X : Type 0} (order : Order) (n : ℕ) (number : X → ℕ) (xs : List X) (rest : List ℕ) (short : length rest < n) where
  abbrev texts : List ℕ
  texts = flat_map (λ x. bytes_of order n (number x)) xs

  long : length texts ≡ length xs * n
  long = length-flat_map_even (λ (x : X). bytes_of order n (number x)) n xs (λ i d lt. length-bytes_of order n _)

  as_many : length (texts ++ rest) / n ≡ length xs
  as_many = ap (λ (k : ℕ). k / n) (length-append texts rest ∙ ap (λ (k : ℕ). k + length rest) long) ∙ div-mul-add (length xs) n (length rest) short

  pub pieces_back : pieces n (texts ++ rest) ≡ map (λ x. bytes_of order n (number x)) xs
  pieces_back =
      ap (elements (texts ++ rest) n) as_many
      ∙ elements-texts (λ (x : X). bytes_of order n (number x)) n xs rest (λ i d lt. length-bytes_of order n _)

  pub rest_back : drop (length (texts ++ rest) / n * n) (texts ++ rest) ≡ rest
  rest_back = ap (λ (k : ℕ). drop (k * n) (texts ++ rest)) as_many ∙ drop_at texts rest (length xs * n) long

patterns_back : (order : Order) (n : ℕ) (ps : List ℕ) → All (λ p. p < 256 ^ n) ps
    → map (number_of order n) (map (bytes_of order n) ps) ≡ ps
patterns_back order n [] fit = refl
patterns_back order n (p ∷ ps) fit =
    let first = number_back order n p (All-head (λ p. p < 256 ^ n) p ps fit) in
    let later = patterns_back order n ps (All-tail (λ p. p < 256 ^ n) p ps fit) in
    λ i. first i ∷ later i

pointers_back : (names : Naming Target) (order : Order) (n : ℕ) (to : List Target) → All (PointerFits names n) to
    → map (λ p. names (number_of order n p)) (map (λ o. bytes_of order n (address_of o)) to) ≡ to
pointers_back names order n [] fit = refl
pointers_back names order n (o ∷ to) fit =
    let own = All-head (PointerFits names n) o to fit in
    let first : names (number_of order n (bytes_of order n (address_of o))) ≡ o = ap names (number_back order n (address_of o) own.0) ∙ own.1 in
    let later = pointers_back names order n to (All-tail (PointerFits names n) o to fit) in
    λ i. first i ∷ later i

pair_back : (order : Order) (a b : ℕ) (rest : List ℕ) → a < 256 ^ 4 → b < 256 ^ 4
    → let bytes : List ℕ = bytes_of order 4 a ++ bytes_of order 4 b ++ rest in
    IsPair (number_of order 4 bytes) (number_of order 4 (drop 4 bytes)) (drop 8 bytes) ≡ IsPair a b rest
pair_back order a b rest small less =
    let first : List ℕ = bytes_of order 4 a in
    let second : List ℕ = bytes_of order 4 b in
    let grouped : first ++ second ++ rest ≡ first ++ (second ++ rest) = simp append_assoc in
    let number : number_of order 4 (first ++ second ++ rest) ≡ a = ap (number_of order 4) grouped ∙ number_of-bytes_of order 4 a (second ++ rest) small in
    let next : number_of order 4 (drop 4 (first ++ second ++ rest)) ≡ b = ap (λ (t : List ℕ). number_of order 4 (drop 4 t)) grouped ∙ ap (number_of order 4) (drop_at first (second ++ rest) 4 (length-bytes_of order 4 a)) ∙ number_of-bytes_of order 4 b rest less in
    let behind : drop 8 (first ++ second ++ rest) ≡ rest = drop_at (first ++ second) rest 8 (omega (arith, length-append first second, length-bytes_of order 4 a, length-bytes_of order 4 b)) in
    λ i. IsPair (number i) (next i) (behind i)

pointers_have_bytes : (w : Width) → 0 < pointer_bytes w
pointers_have_bytes Four = omega arith
pointers_have_bytes Eight = omega arith

-- contents that fit a kind are read again as that kind
pub contents_back : (names : Naming Target) (h : Header) (kind : RawKind) (contents : Contents)
    → ContentsFit names h.width kind contents → contents_by kind names (form_of h) (contents_written h kind contents) ≡ contents
unfolding contents_by contents_written
contents_back names h raw.Bytes (IsBytes bytes) fit = refl
contents_back names h (raw.Numbers n) (IsNumbers patterns rest) fit =
    let pieces : map (number_of h.order n) (pieces n (flat_map (bytes_of h.order n) patterns ++ rest)) ≡ patterns = ap (map (number_of h.order n)) (pieces_back h.order n (λ p. p) patterns rest fit.1) ∙ patterns_back h.order n patterns fit.0 in
    let behind = rest_back h.order n (λ p. p) patterns rest fit.1 in
    λ i. IsNumbers (pieces i) (behind i)
contents_back names h raw.Pointers (IsPointers to) fit =
    let w : ℕ = pointer_bytes h.width in
    let bytes : List ℕ = flat_map (λ o. bytes_of h.order w (address_of o)) to in
    let alone : pieces w bytes ≡ pieces w (bytes ++ []) = ap (pieces w) (sym (append-nil bytes)) in
    let pieces : pieces w bytes ≡ map (λ o. bytes_of h.order w (address_of o)) to = alone ∙ pieces_back h.order w address_of to [] (pointers_have_bytes h.width) in
    ap IsPointers (ap (map (λ p. names (number_of h.order w p))) pieces ∙ pointers_back names h.order w to fit)
contents_back names h raw.Pair (IsPair first second rest) fit = pair_back h.order first second rest fit.0 fit.1
contents_back names h _ _ fit = absurd fit
