-- How long the blocks of an output are at most.
use Rattle.std.proofs.Common.{◌≡◌, ◌≤◌, ◌<◌, inl, inr, ℕ, zero, suc, ◌+◌, ◌-◌, List, ◌++◌, length, refl, ap, ◌∙◌, arith}
use Rattle.std.specs.Prelude.{codes, max}
use Rattle.std.proofs.lemmas.Bool.{cases_lt}
use Rattle.std.proofs.lemmas.List.{length-append, length-replicate}
use Rattle.std.proofs.Math.Nat.{le-max_left, le-max_right}
use Rattle.bl_num.specs.declared.number.Width.{Width}
use Rattle.bl_num.specs.declared.number.Width.TheVariants.{Four, Eight}
use Rattle.bl_num.specs.Numbers.{pointer_bytes}
use Rattle.bl_format.specs.declared.file.Header.{Header}
use Rattle.bl_format.specs.declared.file.Head.{Head}
use Rattle.bl_format.specs.Words.{zeros}
use Rattle.bl_format.specs.Blocks.{head_size, head_written}
use Rattle.bl_selection.specs.Written.{block_written}
pub use Rattle.bl_selection.proofs.CarriedLengths.{length-head_written}
use Rattle.bl_writer.specs.declared.output.Output.{Output}
use Rattle.bl_writer.specs.Outputs.{block_length}
use Rattle.bl_writer.specs.Lengths.{blocks_length}
use Rattle.bl_writer.specs.Rendering.{end_written}

pub head_size-le : (h : Header) → head_size h ≤ 24
head_size-le h = by h.width
  where
    by : (w : Width) → 16 + pointer_bytes w ≤ 24
    by Four = omega arith
    by Eight = omega arith

pub head_size-ge : (h : Header) → 20 ≤ head_size h
head_size-ge h = by h.width
  where
    by : (w : Width) → 20 ≤ 16 + pointer_bytes w
    by Four = omega arith
    by Eight = omega arith

pub blocks_length-more : (o : Output) (k : ℕ) → blocks_length o (k + 1) ≡ blocks_length o k + block_length o k
unfolding blocks_length
blocks_length-more o k = let next : k + 1 ≡ suc k = omega arith in ap (blocks_length o) next

-- the first blocks are no longer than all
pub blocks_length-mono : (o : Output) (k n : ℕ) → k ≤ n → blocks_length o k ≤ blocks_length o n
unfolding blocks_length
blocks_length-mono o k zero le = let same : k ≡ 0 = omega (arith, le) in rw same (omega arith)
blocks_length-mono o k (suc n) le = elim (cases_lt n k) [
  | inl above ↦ (let same : k ≡ suc n = omega (arith, le, above) in rw same (omega arith))
  | inr below ↦ (let before : blocks_length o k ≤ blocks_length o n = blocks_length-mono o k n (omega (arith, below)) in omega (arith, before))
]

-- ---- what is written

-- the block of a catalogue that is written so has its head's size and its own length
pub length-catalogue : (h : Header) (written : List ℕ) → length (block_written h (codes "DNA1") 0 0 1 written) ≡ head_size h + length written
length-catalogue h written =
    let head : Head = record { code = codes "DNA1"; len = length written; address = 0; index = 0; count = 1; at = 0 } in
    let own : length (head_written h head) ≡ head_size h = length-head_written h head refl refl in
    length-append (head_written h head) written ∙ ap (λ n. n + length written) own

-- the end has the size of a head
pub length-end_written : (h : Header) → length (end_written h) ≡ head_size h
length-end_written h =
    let at_least : 20 ≤ head_size h = head_size-ge h in
    length-append (codes "ENDB") (zeros (head_size h - 4)) ∙ omega (arith, at_least, length-replicate {A = ℕ} (head_size h - 4) 0)

-- so is what is written as an end in as many bytes
pub end_written-is : (h : Header) (n : ℕ) (text : List ℕ) → n ≡ head_size h → text ≡ codes "ENDB" ++ zeros (n - 4) → text ≡ end_written h
end_written-is h n text size is = is ∙ ap (λ m. codes "ENDB" ++ zeros (m - 4)) size

-- ---- measures

pub blocks_length-none : (o : Output) → 0 ≡ blocks_length o 0
unfolding blocks_length
blocks_length-none o = refl

-- the most of the first k numbers, and of one more
pub most_more : (f : ℕ → ℕ) (k own most next : ℕ) → own ≡ f k → next ≡ max own most → ((i : ℕ) → i < k → f i ≤ most) → (i : ℕ) → i < k + 1 → f i ≤ next
most_more f k own most next own_is next_is below i lt = elim (cases_lt i k) [
  | inl before ↦ (let le : f i ≤ most = below i before in omega (arith, le, next_is, le-max_right own most))
  | inr here ↦ (let same : i ≡ k = omega (arith, here, lt) in rw same (omega (arith, own_is, next_is, le-max_left own most)))
]
