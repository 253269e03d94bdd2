-- Pieces of one size that stand one behind another in some bytes. This project's own.
use Rattle.std.specs.Prelude.{ℕ, ◌+◌, ◌*◌, ◌/◌, List, ◌++◌, length, take, drop, reverse, flat_map}
use Rattle.bl_format.specs.Words.{part, numbers_below}

-- piece k of n bytes each
abbrev pub piece : ℕ → List ℕ → ℕ → List ℕ
piece n bytes k = part bytes (k * n) n

-- some bytes with others in place of piece k
abbrev pub with_piece : ℕ → ℕ → List ℕ → List ℕ → List ℕ
with_piece n k new bytes = take (k * n) bytes ++ (new ++ drop (k * n + n) bytes)

-- some bytes with the last one first
abbrev pub turned : List ℕ → List ℕ
turned bytes = reverse bytes

-- the first k pieces, each as a function gives it
unfoldable pub pieces_by : (List ℕ → List ℕ) → ℕ → ℕ → List ℕ → List ℕ
pieces_by f n k bytes = flat_map (λ i. f (piece n bytes i)) (numbers_below k)

-- all whole pieces as a function gives them, and the bytes behind them
abbrev pub whole_pieces_by : (List ℕ → List ℕ) → ℕ → List ℕ → List ℕ
whole_pieces_by f n bytes = pieces_by f n (length bytes / n) bytes ++ drop (length bytes / n * n) bytes

-- all whole pieces turned round, and the bytes behind them
abbrev pub turned_pieces : ℕ → List ℕ → List ℕ
turned_pieces n bytes = whole_pieces_by turned n bytes
