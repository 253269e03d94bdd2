-- Pieces that are put one by one in place of others, each as a function gives it.
use Rattle.std.proofs.Common.{◌≡◌, ℕ, zero, suc, ◌+◌, ◌*◌, ◌/◌, ◌≤◌, ◌<◌, List, [], ◌++◌, length, take, drop, refl, sym, ap, ◌∙◌, append-nil, append_assoc, arith, mul-le-mul_right, drop_of_length-le}
use Rattle.std.specs.Prelude.{flat_map}
use Rattle.std.proofs.Math.Nat.{div-mul-le_self}
use Rattle.std.proofs.Math.Seq.{take-add}
use Rattle.std.proofs.lemmas.List.{take_at, drop_at, length-append, length-drop, length-take-le, length-reverse}
use Rattle.std.proofs.lemmas.Slice.{drop-append-drop}
use Rattle.bl_num.specs.declared.number.Form.{Form}
use Rattle.bl_num.specs.Numbers.{pointer_bytes, number_of, bytes_of}
use Rattle.bl_num.proofs.BytesOf.{length-bytes_of}
use Rattle.bl_format.specs.Graph.{Target, Naming}
use Rattle.bl_format.specs.Words.{numbers_below}
use Rattle.bl_format.proofs.LeavesApart.{flat_map-numbers_below}
use Rattle.bl_selection.specs.Written.{address_of}
use Rattle.bl_ptrarrays.specs.Pieces.{piece, with_piece, turned, pieces_by}
use Rattle.bl_ptrarrays.specs.Carried.{pointer_carried}

-- ---- places

-- a piece that fits whole ends where the bytes do, or before
pub piece_inside : (n k len : ℕ) → k < len / n → k * n + n ≤ len
piece_inside n k len lt =
    let more : suc k * n ≤ len / n * n = mul-le-mul_right n lt in
    let all : len / n * n ≤ len = div-mul-le_self len n in
    omega arith

-- a piece of so many ends where they all do, or before
piece_of : (m k count len : ℕ) → k < count → len ≡ count * m → k * m + m ≤ len
piece_of m k count len lt long =
    let more : suc k * m ≤ count * m = mul-le-mul_right m lt in
    omega arith

-- such a piece has all its bytes
pub length-piece : (n k : ℕ) (bytes : List ℕ) → k * n + n ≤ length bytes → length (piece n bytes k) ≡ n
length-piece n k bytes le = length-take-le n (drop (k * n) bytes) (omega (arith, le, length-drop (k * n) bytes))

-- ---- pieces by a function

-- one piece more
pub pieces_by-more : (f : List ℕ → List ℕ) (n k : ℕ) (bytes : List ℕ)
    → pieces_by f n (k + 1) bytes ≡ pieces_by f n k bytes ++ f (piece n bytes k)
unfolding pieces_by
pieces_by-more f n k bytes =
    let next : k + 1 ≡ suc k = omega arith in
    ap (λ (m : ℕ). flat_map (λ (i : ℕ). f (piece n bytes i)) (numbers_below m)) next
    ∙ flat_map-numbers_below (λ (i : ℕ). f (piece n bytes i)) k
    ∙ ap (λ (ys : List ℕ). flat_map (λ (i : ℕ). f (piece n bytes i)) (numbers_below k) ++ ys) (append-nil (f (piece n bytes k)))

-- functions that agree on each piece give the same
pub pieces_by-same : (f g : List ℕ → List ℕ) (n k : ℕ) (bytes : List ℕ)
    → ((i : ℕ) → i < k → f (piece n bytes i) ≡ g (piece n bytes i)) → pieces_by f n k bytes ≡ pieces_by g n k bytes
unfolding pieces_by
pieces_by-same f g n zero bytes same = refl
pieces_by-same f g n (suc k) bytes same =
    flat_map-numbers_below (λ (i : ℕ). f (piece n bytes i)) k
    ∙ ap (λ (ys : List ℕ). pieces_by f n k bytes ++ (ys ++ [])) (same k (omega arith))
    ∙ ap (λ (ys : List ℕ). ys ++ (g (piece n bytes k) ++ [])) (pieces_by-same f g n k bytes (λ i lt. same i (omega (arith, lt))))
    ∙ sym (flat_map-numbers_below (λ (i : ℕ). g (piece n bytes i)) k)

-- pieces as they are stand one behind another as they did
pub pieces_by-nothing : (n k : ℕ) (bytes : List ℕ) → pieces_by (λ p. p) n k bytes ≡ take (k * n) bytes
unfolding pieces_by
pieces_by-nothing n zero bytes = let none : 0 ≡ 0 * n = omega arith in ap (λ (m : ℕ). take m bytes) none
pieces_by-nothing n (suc k) bytes =
    let sum : k * n + n ≡ suc k * n = omega arith in
    flat_map-numbers_below (λ (i : ℕ). piece n bytes i) k
    ∙ ap (λ (ys : List ℕ). pieces_by (λ p. p) n k bytes ++ ys) (append-nil (piece n bytes k))
    ∙ ap (λ (ys : List ℕ). ys ++ piece n bytes k) (pieces_by-nothing n k bytes)
    ∙ sym (take-add (k * n) n bytes) ∙ ap (λ (m : ℕ). take m bytes) sum

-- ---- the loop

-- the first k pieces stand as a function gives those of some bytes, m bytes each, and behind them what stood there
pub record PutSoFar (f : List ℕ → List ℕ) (n m k : ℕ) (src old dst : List ℕ) : Type 0 where
  pub text : dst ≡ pieces_by f n k src ++ drop (k * m) old
  pub front : length (pieces_by f n k src) ≡ k * m
  pub same : length dst ≡ length old

-- at the start there is none
pub put-none : (f : List ℕ → List ℕ) (n m : ℕ) (src old : List ℕ) → PutSoFar f n m 0 src old old
unfolding pieces_by
put-none f n m src old =
    let none : 0 ≡ 0 * m = omega arith in
    record { text = ap (λ (i : ℕ). drop i old) none; front = none; same = refl }

-- one piece more
put-more : (f : List ℕ → List ℕ) (n m k : ℕ) (src old dst own new : List ℕ)
    → k * m + m ≤ length old → length own ≡ m → own ≡ f (piece n src k) → new ≡ with_piece m k own dst
    → PutSoFar f n m k src old dst → PutSoFar f n m (k + 1) src old new
put-more f n m k src old dst own new room long is put so_far =
    let front : List ℕ = pieces_by f n k src in
    let at : ℕ = k * m in
    let next : (k + 1) * m ≡ at + m = omega arith in
    let more : pieces_by f n (k + 1) src ≡ front ++ own =
    pieces_by-more f n k src ∙ ap (λ (ys : List ℕ). front ++ ys) (sym is) in
    let behind : drop (at + m) (front ++ drop at old) ≡ drop (at + m) old =
    drop-append-drop at old front (at + m) (omega arith) so_far.front in
    let cut : new ≡ front ++ (own ++ drop (at + m) old) =
    put ∙ ap (with_piece m k own) so_far.text
    ∙ ap (λ (ys : List ℕ). ys ++ (own ++ drop (at + m) (front ++ drop at old))) (take_at front (drop at old) at so_far.front)
    ∙ ap (λ (ys : List ℕ). front ++ (own ++ ys)) behind in
    record {
      text = cut ∙ sym (append_assoc front own (drop (at + m) old))
          ∙ ap (λ (ys : List ℕ). ys ++ drop (at + m) old) (sym more)
          ∙ ap (λ (i : ℕ). pieces_by f n (k + 1) src ++ drop i old) (sym next);
      front = ap (λ (ys : List ℕ). length ys) more ∙ omega (arith, length-append front own, so_far.front, long);
      same = ap (λ (ys : List ℕ). length ys) cut
          ∙ omega (arith, length-append front (own ++ drop (at + m) old), length-append own (drop (at + m) old), length-drop (at + m) old, so_far.front, long, room);
    }

-- where the bytes are put in place of themselves, the next piece is as it was
next_piece : (f : List ℕ → List ℕ) (n k : ℕ) (old dst : List ℕ)
    → PutSoFar f n n k old old dst → piece n dst k ≡ piece n old k
next_piece f n k old dst so_far =
    ap (λ (ys : List ℕ). piece n ys k) so_far.text
    ∙ ap (take n) (drop_at (pieces_by f n k old) (drop (k * n) old) (k * n) so_far.front)

-- one piece more is turned round where it stands
pub turn-more : (n k : ℕ) (old dst new : List ℕ)
    → k < length old / n → new ≡ with_piece n k (turned (piece n dst k)) dst → PutSoFar turned n n k old old dst
    → PutSoFar turned n n (k + 1) old old new
turn-more n k old dst new lt put so_far =
    let room : k * n + n ≤ length old = piece_inside n k (length old) lt in
    let is : piece n dst k ≡ piece n old k = next_piece turned n k old dst so_far in
    let own : List ℕ = turned (piece n dst k) in
    let long : length own ≡ n =
    length-reverse (piece n dst k) ∙ ap (λ (ys : List ℕ). length ys) is ∙ length-piece n k old room in
    put-more turned n n k old old dst own new room long (ap turned is) put so_far

-- one pointer more is written
pub pointer-more : (names : Naming Target) (from to : Form) (k address image : ℕ) (src old dst new : List ℕ)
    → k < length src / pointer_bytes from.width → length old ≡ length src / pointer_bytes from.width * pointer_bytes to.width
    → address ≡ number_of from.order (pointer_bytes from.width) (piece (pointer_bytes from.width) src k)
    → image ≡ address_of (names address)
    → new ≡ with_piece (pointer_bytes to.width) k (bytes_of to.order (pointer_bytes to.width) image) dst
    → PutSoFar (pointer_carried names from to) (pointer_bytes from.width) (pointer_bytes to.width) k src old dst
    → PutSoFar (pointer_carried names from to) (pointer_bytes from.width) (pointer_bytes to.width) (k + 1) src old new
pointer-more names from to k address image src old dst new lt long read named put so_far =
    let n : ℕ = pointer_bytes from.width in
    let m : ℕ = pointer_bytes to.width in
    put-more (pointer_carried names from to) n m k src old dst (bytes_of to.order m image) new
    (piece_of m k (length src / n) (length old) lt long) (length-bytes_of to.order m image)
    (ap (bytes_of to.order m) (named ∙ ap (λ (a : ℕ). address_of (names a)) read)) put so_far

-- after the last piece nothing is left of what stood there
pub put-all : (f : List ℕ → List ℕ) (n m k : ℕ) (src old dst : List ℕ)
    → length old ≡ k * m → PutSoFar f n m k src old dst → dst ≡ pieces_by f n k src
put-all f n m k src old dst long so_far =
    so_far.text
    ∙ ap (λ (ys : List ℕ). pieces_by f n k src ++ ys) (drop_of_length-le old (omega (arith, long)))
    ∙ append-nil (pieces_by f n k src)
