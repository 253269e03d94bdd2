-- A header, and what begins at a place, are read of as few bytes as the code copies.
use Rattle.std.proofs.Common.{Fits, w8, get_or, ◌≡◌, ℕ, ◌+◌, ◌-◌, ◌≤◌, ◌<◌, Bool, true, false, List, ◌++◌, length, take, drop, Ok, All, refl, sym, ap, subst, ◌∙◌, arith, append_assoc}
use Rattle.std.specs.Prelude.{nat_lt, min, slice_index}
use Rattle.std.proofs.lemmas.Bool.{le-ltb, ltb-true, ltb-false}
use Rattle.std.proofs.lemmas.List.{take_all, drop_at, drop-append-le, take-append-le, take-append-drop, get_or_append_left, get_or_default, length-append, length-drop, length-replicate}
use Rattle.std.proofs.lemmas.List.Elements.{All-append, All-drop, All-replicate}
use Rattle.bl_num.specs.declared.number.Order.{Order}
use Rattle.bl_num.specs.Numbers.{number_of, bytes_of, pointer_bytes}
use Rattle.bl_num.proofs.BytesOf.{number_of-bytes_of, number_of-lt}
use Rattle.bl_num.proofs.BytesBack.{bytes_of-number_of}
use Rattle.bl_format.specs.declared.file.Header.{Header}
use Rattle.bl_format.specs.declared.file.Head.{Head}
use Rattle.bl_format.specs.declared.file.Step.{Step}
use Rattle.bl_format.specs.declared.file.Step.TheVariants.{Block, End}
use Rattle.bl_format.specs.Words.{number_at, part, zeros}
use Rattle.bl_format.specs.Blocks.{header_of, header_size, head_size, head_in, step_in, step_at}
use Rattle.bl_format.proofs.BlocksOf.{IsBlockOf, block_facts, block_place}
use Rattle.bl_file.specs.Reading.{IsPartAt, IsBlockIn, IsStepIn}

-- ---- what follows isn't looked at

number_of-append : (order : Order) (n : ℕ) (p r : List ℕ) → All (λ x. x < 256) p → n ≤ length p → number_of order n (p ++ r) ≡ number_of order n p
number_of-append order n p r bytes fits =
    let v : ℕ = number_of order n p in
    let begins : p ≡ bytes_of order n v ++ drop n p = sym (take-append-drop n p) ∙ ap (λ (t : List ℕ). t ++ drop n p) (sym (bytes_of-number_of order n p bytes fits)) in
    let whole : p ++ r ≡ bytes_of order n v ++ (drop n p ++ r) = ap (λ (t : List ℕ). t ++ r) begins ∙ append_assoc (bytes_of order n v) (drop n p) r in
    ap (number_of order n) whole ∙ number_of-bytes_of order n v (drop n p ++ r) (number_of-lt order n p bytes)

number_at-append : (order : Order) (at n : ℕ) (p r : List ℕ) → All (λ x. x < 256) p → at + n ≤ length p → number_at order (p ++ r) at n ≡ number_at order p at n
number_at-append order at n p r bytes fits =
    ap (number_of order n) (drop-append-le at p r (omega (arith, fits)))
    ∙ number_of-append order n (drop at p) r (All-drop (λ x. x < 256) at p bytes) (omega (arith, fits, length-drop at p))

head_in-append : (h : Header) (p r : List ℕ) (at : ℕ) → All (λ x. x < 256) p → head_size h ≤ length p → head_in h (p ++ r) at ≡ head_in h p at
unfolding head_in
head_in-append h p r at bytes fits =
    let w = pointer_bytes h.width in
    rw (
      take-append-le 4 p r (omega (arith, fits)),
      number_at-append h.order 4 4 p r bytes (omega (arith, fits)),
      number_at-append h.order 8 w p r bytes (omega (arith, fits)),
      number_at-append h.order (8 + w) 4 p r bytes (omega (arith, fits)),
      number_at-append h.order (12 + w) 4 p r bytes (omega (arith, fits)),
    ) refl

step_cases : (h : Header) (w p : List ℕ) (at size : ℕ) (four head : Bool) → nat_lt size (at + 4) ≡ four → nat_lt size (at + head_size h) ≡ head
    → (four ≡ false → take 4 w ≡ take 4 p) → (head ≡ false → head_in h w at ≡ head_in h p at) → step_in h w at size ≡ step_in h p at size
unfolding step_in
step_cases h w p at size true head is is' code same = rw is refl
step_cases h w p at size false true is is' code same = rw (is, is', code refl) refl
step_cases h w p at size false false is is' code same = rw (is, is', code refl, same refl) refl

-- a step looks at a head, or at all that is left
pub step_in-append : (h : Header) (p r : List ℕ) (at size : ℕ) → All (λ x. x < 256) p → min (head_size h) (size - at) ≤ length p → step_in h (p ++ r) at size ≡ step_in h p at size
step_in-append h p r at size bytes fits =
    step_cases h (p ++ r) p at size (nat_lt size (at + 4)) (nat_lt size (at + head_size h)) refl refl
    (λ e. take-append-le 4 p r (omega (arith, fits, ltb-false size (at + 4) e)))
    (λ e. head_in-append h p r at bytes (omega (arith, fits, ltb-false size (at + head_size h) e)))

header_parts : (w p : List ℕ) → take 2 w ≡ take 2 p → take 4 w ≡ take 4 p → take 7 w ≡ take 7 p → nat_lt (length w) 12 ≡ nat_lt (length p) 12
    → ((i : ℕ) → i < 12 → slice_index w i ≡ slice_index p i) → part w 9 3 ≡ part p 9 3 → header_of w ≡ header_of p
unfolding header_of
header_parts w p two four seven short each version =
    rw (two, four, seven, short, each 7 (omega arith), each 8 (omega arith), each 9 (omega arith), each 10 (omega arith), each 11 (omega arith), version) refl

-- a header is read of twelve bytes
header_of-append : (p r : List ℕ) → 12 ≤ length p → header_of (p ++ r) ≡ header_of p
header_of-append p r fits =
    let long : 12 ≤ length (p ++ r) = omega (arith, fits, length-append p r) in
    header_parts (p ++ r) p
    (take-append-le 2 p r (omega (arith, fits)))
    (take-append-le 4 p r (omega (arith, fits)))
    (take-append-le 7 p r (omega (arith, fits)))
    (le-ltb (length (p ++ r)) 12 long ∙ sym (le-ltb (length p) 12 fits))
    (λ i within. get_or_append_left p r 0 i (omega (arith, fits, within)))
    (ap (take 3) (drop-append-le 9 p r (omega (arith, fits))) ∙ take-append-le 3 (drop 9 p) r (omega (arith, fits, length-drop 9 p)))

-- ---- a part that is copied

-- the part, and what follows it
part_and_rest : (p b : List ℕ) → take (length p) b ≡ p → b ≡ p ++ drop (length p) b
part_and_rest p b is = sym (take-append-drop (length p) b) ∙ ap (λ (t : List ℕ). t ++ drop (length p) b) is

header_cases : (size : ℕ) (p b : List ℕ) (short : Bool) → nat_lt size 12 ≡ short → length b ≡ size → take (length p) b ≡ p → length p ≡ min size 12 → header_of b ≡ header_of p
header_cases size p b true is len copied fits =
    ap header_of (sym (take_all (length p) b (omega (arith, ltb-true size 12 is, len, fits))) ∙ copied)
header_cases size p b false is len copied fits =
    ap header_of (part_and_rest p b copied) ∙ header_of-append p (drop (length p) b) (omega (arith, ltb-false size 12 is, fits))

-- the header of as many bytes as it has, or of all that there are
pub header_of-part : (size : ℕ) (p b : List ℕ) → length p ≡ min size 12 → IsPartAt size 0 p b → header_of b ≡ header_of p
header_of-part size p b fits copied = header_cases size p b (nat_lt size 12) refl copied.whole copied.bytes fits

-- the step of as many bytes as a head has, or of all that are left
pub step_at-part : (h : Header) (size at : ℕ) (p b : List ℕ) → All (λ x. x < 256) p → min (head_size h) (size - at) ≤ length p → IsPartAt size at p b → step_at h b at ≡ step_in h p at size
step_at-part h size at p b bytes fits copied =
    ap (step_in h (drop at b) at) copied.whole
    ∙ ap (λ (w : List ℕ). step_in h w at size) (part_and_rest p (drop at b) copied.bytes)
    ∙ step_in-append h p (drop (length p) (drop at b)) at size bytes fits

-- ---- what a step finds

-- any file of this size with this part at this place
around : ℕ → ℕ → List ℕ → List ℕ
around size at p = zeros at ++ (p ++ zeros (size - at - length p))

length-around : (size at : ℕ) (p : List ℕ) → at + length p ≤ size → length (around size at p) ≡ size
unfolding around
length-around size at p fits =
    let back : List ℕ = zeros (size - at - length p) in
    omega (arith, fits, length-append (zeros at) (p ++ back), length-append p back, length-replicate {A = ℕ} at 0, length-replicate {A = ℕ} (size - at - length p) 0)

bytes-around : (size at : ℕ) (p : List ℕ) → All (λ x. x < 256) p → All (λ x. x < 256) (around size at p)
unfolding around
bytes-around size at p bytes =
    let IsByte : ℕ → Type 0 = λ x. x < 256 in
    let back : List ℕ = zeros (size - at - length p) in
    All-append IsByte (zeros at) (p ++ back) (All-replicate IsByte at 0 (omega arith)) (All-append IsByte p back bytes (All-replicate IsByte (size - at - length p) 0 (omega arith)))

step-around : (h : Header) (size at : ℕ) (p : List ℕ) → All (λ x. x < 256) p → at + length p ≤ size → min (head_size h) (size - at) ≤ length p → step_at h (around size at p) at ≡ step_in h p at size
unfolding around
step-around h size at p bytes inside fits =
    let back : List ℕ = zeros (size - at - length p) in
    ap (step_in h (drop at (around size at p)) at) (length-around size at p inside)
    ∙ ap (λ (w : List ℕ). step_in h w at size) (drop_at (zeros at) (p ++ back) at (length-replicate {A = ℕ} at 0))
    ∙ step_in-append h p back at size bytes fits

block_in : (h : Header) (size : ℕ) (b : List ℕ) (x : Head) → length b ≡ size → All (λ y. y < 256) b → IsBlockOf h b x → IsBlockIn h size x
block_in h size b x len bytes of = record {
  behind = of.behind;
  fits = subst (λ n. x.at + head_size h + x.len ≤ n) len of.fits;
  len = of.len;
  index = of.index;
  count = of.count;
  address = of.address bytes;
  code_len = of.code_len;
  code = of.code;
  no_end = of.no_end;
}

-- a block that a step finds in bytes stands at its place, whole
pub step_in-sound : (h : Header) (size at : ℕ) (p : List ℕ) (step : Step) → header_size h ≤ at → at + length p ≤ size → min (head_size h) (size - at) ≤ length p
    → All (λ y. y < 256) p → step_in h p at size ≡ Ok step → IsStepIn h at size step
step_in-sound h size at p End behind inside fits bytes is = tt
step_in-sound h size at p (Block x) behind inside fits bytes is =
    let b = around size at p in
    let stands : step_at h b at ≡ Ok (Block x) = step-around h size at p bytes inside fits ∙ is in
    (block_place h b at x stands, block_in h size b x (length-around size at p inside) (bytes-around size at p bytes) (block_facts h b at x behind stands))

-- ---- bytes

-- numbers that each fit eight bits
pub fits_below : (p : List ℕ) → ((i : ℕ) → Fits w8 (get_or p i 0)) → All (λ x. x < 256) p
fits_below p fits = λ k d lt. let same = get_or_default p k d 0 lt in let byte = fits k in omega (arith, same, byte)
