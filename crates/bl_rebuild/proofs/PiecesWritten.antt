-- Pieces that are written one by one behind one another, each as a function gives those of some bytes.
use Rattle.std.proofs.Common.{◌≡◌, ℕ, suc, ◌+◌, ◌*◌, ◌≤◌, ◌<◌, List, ◌++◌, length, drop, sym, ap, ◌∙◌, append_assoc, arith, mul-le-mul_right}
use Rattle.std.proofs.lemmas.List.{take_at, length-append, length-drop}
use Rattle.std.proofs.lemmas.Slice.{drop-append-drop}
use Rattle.bl_num.specs.declared.number.Order.{Order}
use Rattle.bl_num.specs.Numbers.{number_of, bytes_of}
use Rattle.bl_num.proofs.BytesOf.{length-bytes_of}
use Rattle.bl_format.specs.Graph.{Target, Naming}
use Rattle.bl_selection.specs.Written.{address_of}
use Rattle.bl_ptrarrays.specs.Pieces.{piece, with_piece, pieces_by}
use Rattle.bl_ptrarrays.proofs.PiecesPut.{PutSoFar, pieces_by-more}
use Rattle.bl_rebuild.specs.Runs.{pointer_written}

-- a piece of so many ends where they all do, or before
pub piece_of : (m k count len : ℕ) → k < count → len ≡ count * m → k * m + m ≤ len
piece_of m k count len lt long =
    let more : suc k * m ≤ count * m = mul-le-mul_right m lt in
    omega arith

-- one piece more
put_more : (f : List ℕ → List ℕ) (n m k : ℕ) (src old dst own new : List ℕ)
    → k * m + m ≤ length old → length own ≡ m → own ≡ f (piece n src k) → new ≡ with_piece m k own dst
    → PutSoFar f n m k src old dst → PutSoFar f n m (k + 1) src old new
put_more f n m k src old dst own new room long is put so_far =
    let front : List ℕ = pieces_by f n k src in
    let at : ℕ = k * m in
    let next : (k + 1) * m ≡ at + m = omega arith in
    let more : pieces_by f n (k + 1) src ≡ front ++ own =
    pieces_by-more f n k src ∙ ap (λ (ys : List ℕ). front ++ ys) (sym is) in
    let behind : drop (at + m) (front ++ drop at old) ≡ drop (at + m) old =
    drop-append-drop at old front (at + m) (omega arith) so_far.front in
    let cut : new ≡ front ++ (own ++ drop (at + m) old) =
    put ∙ ap (with_piece m k own) so_far.text
    ∙ ap (λ (ys : List ℕ). ys ++ (own ++ drop (at + m) (front ++ drop at old))) (take_at front (drop at old) at so_far.front)
    ∙ ap (λ (ys : List ℕ). front ++ (own ++ ys)) behind in
    record {
      text = cut ∙ sym (append_assoc front own (drop (at + m) old))
          ∙ ap (λ (ys : List ℕ). ys ++ drop (at + m) old) (sym more)
          ∙ ap (λ (i : ℕ). pieces_by f n (k + 1) src ++ drop i old) (sym next);
      front = ap (λ (ys : List ℕ). length ys) more ∙ omega (arith, length-append front own, so_far.front, long);
      same = ap (λ (ys : List ℕ). length ys) cut
          ∙ omega (arith, length-append front (own ++ drop (at + m) old), length-append own (drop (at + m) old), length-drop (at + m) old, so_far.front, long, room);
    }

-- one number more, as a function gives it
pub number_more : (f : List ℕ → List ℕ) (to : Order) (n m k count v : ℕ) (src old dst new : List ℕ)
    → k < count → length old ≡ count * m → bytes_of to m v ≡ f (piece n src k) → new ≡ with_piece m k (bytes_of to m v) dst
    → PutSoFar f n m k src old dst → PutSoFar f n m (k + 1) src old new
number_more f to n m k count v src old dst new lt long is put so_far =
    put_more f n m k src old dst (bytes_of to m v) new (piece_of m k count (length old) lt long) (length-bytes_of to m v) is put so_far

-- a pointer is written as the address of what was read
pub pointer_is : (names : Naming Target) (from to : Order) (n m address image : ℕ) (bytes : List ℕ)
    → address ≡ number_of from n bytes → image ≡ address_of (names address) → bytes_of to m image ≡ pointer_written names n m from to bytes
pointer_is names from to n m address image bytes read is = ap (bytes_of to m) (is ∙ ap (λ (a : ℕ). address_of (names a)) read)
