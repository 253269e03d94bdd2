-- What bytes hold as a raw kind fits that kind, so that it can be written and read again. It needs that each pointer's
-- target fits.
use Rattle.std.proofs.Common.{ℕ, ◌*◌, ◌/◌, ◌^◌, ◌<◌, All, List, length, drop, arith}
use Rattle.std.proofs.Math.Nat.{lt-div-mul-add}
use Rattle.std.proofs.lemmas.List.{length-drop}
use Rattle.std.proofs.lemmas.List.Elements.{All-map, All-take, All-drop}
use Rattle.bl_num.specs.declared.number.Form.{Form}
use Rattle.bl_num.specs.declared.number.Width.{Width}
use Rattle.bl_num.specs.Numbers.{pointer_bytes, number_of}
use Rattle.bl_num.proofs.BytesOf.{number_of-lt}
use Rattle.bl_format.specs.declared.raw.RawKind.{RawKind}
use Rattle.bl_format.specs.declared.raw.RawKind.TheVariants as raw
use Rattle.bl_format.specs.Words.{part, numbers_below}
use Rattle.bl_format.specs.Graph.{Target, Naming, pieces, contents_by}
use Rattle.bl_selection.specs.Fits.{PointerFits, ContentsFit}
use Rattle.bl_selection.proofs.CarriedFits.{TargetsFit}

-- numbers of a kind have bytes; each view of numbers gives two at least
abbrev pub HasBytes : RawKind → Type 0
HasBytes (raw.Numbers n) = 0 < n
HasBytes kind = Unit {0}

-- a piece of bytes is bytes
part_below : (bytes : List ℕ) (at n : ℕ) → All (λ b. b < 256) bytes → All (λ b. b < 256) (part bytes at n)
part_below bytes at n all = All-take (λ b. b < 256) n (drop at bytes) (All-drop (λ b. b < 256) at bytes all)

-- what holds of the piece at each place holds of all pieces
all_pieces : (P : List ℕ → Type 0) (n : ℕ) (bytes : List ℕ) → ((at : ℕ) → P (part bytes at n)) → All P (pieces n bytes)
all_pieces P n bytes each = All-map P (λ (i : ℕ). part bytes (i * n) n) (numbers_below (length bytes / n)) (λ i d lt. each _)

-- what bytes are read as fits the kind as which they are read
pub contents_by-fits : (names from : Naming Target) (w : Width) (form : Form) (kind : RawKind) (bytes : List ℕ)
    → TargetsFit names w from → HasBytes kind → All (λ b. b < 256) bytes
    → ContentsFit names w kind (contents_by kind from form bytes)
unfolding contents_by
contents_by-fits names from w form raw.Bytes bytes targets some all = tt
contents_by-fits names from w form (raw.Numbers n) bytes targets some all = (
  All-map (λ p. p < 256 ^ n) (number_of form.order n) (pieces n bytes)
      (all_pieces (λ (piece : List ℕ). number_of form.order n piece < 256 ^ n) n bytes (λ at. number_of-lt form.order n (part bytes at n) (part_below bytes at n all))),
  omega (arith, length-drop (length bytes / n * n) bytes, lt-div-mul-add {a = length bytes} some),
)
contents_by-fits names from w form raw.Pointers bytes targets some all =
    let v : ℕ = pointer_bytes form.width in
    All-map (PointerFits names (pointer_bytes w)) (λ (p : List ℕ). from (number_of form.order v p)) (pieces v bytes)
    (all_pieces (λ (piece : List ℕ). PointerFits names (pointer_bytes w) (from (number_of form.order v piece))) v bytes (λ at. targets (number_of form.order v (part bytes at v))))
contents_by-fits names from w form raw.Pair bytes targets some all =
    (number_of-lt form.order 4 bytes all, number_of-lt form.order 4 (drop 4 bytes) (All-drop (λ b. b < 256) 4 bytes all))
