-- What a step writes is what its elements are alone.
use Rattle.std.proofs.Common.{◌≡◌, ℕ, zero, suc, ◌+◌, ◌-◌, ◌*◌, ◌/◌, ◌≤◌, ◌<◌, List, ◌++◌, length, take, drop, sym, ap, ◌∙◌, append-nil, arith, inl, inr, drop_of_length-le, mul-le-mul_right}
use Rattle.std.specs.Prelude.{◌⊎◌, flat_map, true, false, All}
use Rattle.std.proofs.lemmas.List.Elements.{All-take, All-drop}
use Rattle.std.proofs.lemmas.List.{drop-take, take-take, drop-drop, length-append, take-append-drop}
use Rattle.bl_num.specs.declared.number.Order.{Order}
use Rattle.bl_num.specs.Numbers.{IsWholeLength}
use Rattle.bl_num.proofs.BytesOf.{length-bytes_of}
use Rattle.bl_format.specs.Words.{part, numbers_below}
use Rattle.bl_format.specs.Graph.{Target, Naming}
use Rattle.bl_members.specs.Leaf.{replaced_at}
use Rattle.bl_ptrarrays.specs.Pieces.{piece, pieces_by}
use Rattle.bl_ptrarrays.specs.Carried.{is_other, number_carried, numbers_carried}
use Rattle.bl_ptrarrays.proofs.NumbersCarried.{numbers-left}
use Rattle.bl_ptrarrays.proofs.PiecesPut.{piece_inside, length-piece, pieces_by-same, pieces_by-nothing}
use Rattle.bl_plan.specs.declared.steps.Carry.{Carry}
use Rattle.bl_plan.specs.declared.steps.Carry.TheVariants.{Kept}
use Rattle.bl_plan.specs.declared.steps.Step.{Step}
use Rattle.bl_plan.specs.Steps.{source_size, target_size, element_carried, source_part, step_written}
use Rattle.bl_plan.proofs.LeavesWritten.{flat_map-suc}
use Rattle.bl_plan.proofs.ElementsCarried.{flat_map-same, byte_carried}
use Rattle.bl_rebuild.specs.Runs.{run_written}

-- a part of a part
pub part_within : (b : List ℕ) (at m k n : ℕ) → k + n ≤ m → part (part b at m) k n ≡ part b (at + k) n
part_within b at m k n le =
    let sum : k + (m - k) ≡ m = omega (arith, le) in
    ap (λ (j : ℕ). take n (drop k (take j (drop at b)))) (sym sum)
    ∙ ap (take n) (drop-take k (m - k) (drop at b))
    ∙ take-take n (m - k) (drop k (drop at b)) (omega (arith, le))
    ∙ ap (take n) (drop-drop k at b)

module _ (names : Naming Target) (from to : Order) where
  -- the elements of a step by their own bytes
  pub run-step : (src : List ℕ) (x : Step)
      → run_written names from to x.carry x.count (part src x.from (x.count * source_size x.carry)) ≡ step_written names from to src x
  unfolding step_written pieces_by
  run-step src x =
      let n : ℕ = source_size x.carry in
      let own : List ℕ = part src x.from (x.count * n) in
      let f : List ℕ → List ℕ = element_carried names from to x.carry in
      flat_map-same (λ k. f (part own (k * n) n)) (λ k. f (source_part x src k)) x.count
      (λ k lt.
      let all : suc k * n ≤ x.count * n = mul-le-mul_right n (omega (arith, lt)) in
      let sum : suc k * n ≡ k * n + n = omega arith in
      ap f (part_within src x.from (x.count * n) (k * n) n (omega (arith, all, sum))))

  -- what a step writes is as long as its elements
  pub length-step_written : (src : List ℕ) (x : Step) → length (step_written names from to src x) ≡ x.count * target_size x.carry
  unfolding step_written
  length-step_written src x = go x.count
    where
      go : (n : ℕ) → length (flat_map (λ k. element_carried names from to x.carry (source_part x src k)) (numbers_below n)) ≡ n * target_size x.carry
      go zero = omega arith
      go (suc n) =
          let f : ℕ → List ℕ = λ k. element_carried names from to x.carry (source_part x src k) in
          let one : length (f n) ≡ target_size x.carry = length-bytes_of to (target_size x.carry) _ in
          ap (λ (t : List ℕ). length t) (flat_map-suc f n) ∙ omega (arith, go n, one, length-append (flat_map f (numbers_below n)) (f n))

  -- numbers that keep their size
  pub run-kept : (carry : Carry) (size count : ℕ) (src : List ℕ) → carry ≡ Kept size → IsWholeLength size → length src ≡ count * source_size carry
      → numbers_carried size from to src ≡ run_written names from to carry count src
  unfolding pieces_by
  run-kept carry size count src is whole long =
      let all : length src ≡ count * size = long ∙ ap (λ (c : Carry). count * source_size c) is in
      let few : length src / size ≡ count = ap (λ (n : ℕ). n / size) all ∙ quotient size whole in
      let f : List ℕ → List ℕ = number_carried size from to in
      ap (λ (q : ℕ). pieces_by f size q src ++ drop (q * size) src) few
      ∙ ap (λ (t : List ℕ). pieces_by f size count src ++ t) (drop_of_length-le src (omega (arith, all)))
      ∙ append-nil (pieces_by f size count src)
      ∙ ap (λ (c : Carry). run_written names from to c count src) (sym is)
    where
      quotient : (n : ℕ) → IsWholeLength n → count * n / n ≡ count
      quotient n (inl e) = rw e (omega arith)
      quotient n (inr (inl e)) = rw e (omega arith)
      quotient n (inr (inr (inl e))) = rw e (omega arith)
      quotient n (inr (inr (inr e))) = rw e (omega arith)

  -- what a step writes is put in its place
  pub step_put : (src dst : List ℕ) (x : Step) (front rest own tail own_src : List ℕ) (len : ℕ)
      → own_src ≡ part src x.from (x.count * source_size x.carry) → front ≡ take x.to dst → rest ≡ drop x.to dst → tail ≡ drop len rest
      → len ≡ x.count * target_size x.carry → own ≡ run_written names from to x.carry x.count own_src
      → front ++ (own ++ tail) ≡ replaced_at x.to (step_written names from to src x) dst
  step_put src dst x front rest own tail own_src len src_is front_is rest_is tail_is len_is is =
      let new : List ℕ = step_written names from to src x in
      let written : own ≡ new = is ∙ ap (run_written names from to x.carry x.count) src_is ∙ run-step src x in
      let long : len ≡ length new = len_is ∙ sym (length-step_written src x) in
      let behind : tail ≡ drop (x.to + length new) dst =
      tail_is ∙ ap (drop len) rest_is ∙ drop-drop len x.to dst ∙ ap (λ (n : ℕ). drop (x.to + n) dst) long in
      λ i. front_is i ++ (written i ++ behind i)

-- ---- numbers that are left as they are

-- bytes are the same in either order
bytes-left : (from to : Order) (src : List ℕ) → All (λ b. b < 256) src → src ≡ numbers_carried 1 from to src
bytes-left from to src all =
    let end : ℕ = length src / 1 * 1 in
    sym (take-append-drop end src)
    ∙ ap (λ (t : List ℕ). t ++ drop end src)
    (sym (pieces_by-same (number_carried 1 from to) (λ p. p) 1 (length src / 1) src (λ i lt.
    byte_carried from to (piece 1 src i) (All-take (λ b. b < 256) 1 (drop (i * 1) src) (All-drop (λ b. b < 256) (i * 1) src all))
    (length-piece 1 i src (piece_inside 1 i (length src) lt)))
    ∙ pieces_by-nothing 1 (length src / 1) src))

one_byte : (n : ℕ) → IsWholeLength n → n ≤ 1 → 1 ≡ n
one_byte n (inl e) le = sym e
one_byte n (inr (inl e)) le = absurd (omega (arith, e, le))
one_byte n (inr (inr (inl e))) le = absurd (omega (arith, e, le))
one_byte n (inr (inr (inr e))) le = absurd (omega (arith, e, le))

-- single bytes, and numbers in their own order, are left
pub numbers-kept : (size : ℕ) (from to : Order) (src : List ℕ) → IsWholeLength size → All (λ b. b < 256) src
    → ((is_other from to ≡ true) × (size ≤ 1)) ⊎ (is_other from to ≡ false) → src ≡ numbers_carried size from to src
numbers-kept size from to src whole all (inl bytes) =
    bytes-left from to src all ∙ ap (λ (n : ℕ). numbers_carried n from to src) (one_byte size whole bytes.1)
numbers-kept size from to src whole all (inr same) = numbers-left size from to src all (inr same)
