-- What a shelf that tells says of itself: the files that it holds, and the one that is staged.
use Rattle.std.specs.Prelude.{ℕ, List, [], ◌++◌, Option, Some, None, option_map}
use Rattle.std.specs.Ordering.{nat_cmp}
use Rattle.std.specs.Cmp.Lexicographic.{slice_cmp}
use Rattle.std.specs.FinMap.{FinMap, empty, get, insert}

-- files by their names
abbrev pub Held : Type 0
Held = FinMap (slice_cmp nat_cmp) (List ℕ)

-- the file that is being written, with the bytes pushed so far
pub record Staged : Type 0 where
  pub name : List ℕ
  pub bytes : List ℕ

-- the held files and the staged one
pub record Told : Type 0 where
  pub held : Held
  pub staged : Option Staged

-- no file is held and none is staged
abbrev pub empty_shelf : Told
empty_shelf = record { held = empty; staged = None }

-- the bytes held under the name
abbrev pub bytes_under : List ℕ → Told → Option (List ℕ)
bytes_under name t = get t.held name

-- the same files, and these bytes under the name
abbrev pub hold_in : List ℕ → List ℕ → Told → Told
hold_in name bytes t = record { held = insert t.held name bytes; staged = t.staged }

-- the same files, and this name staged with no bytes
abbrev pub stage_in : List ℕ → Told → Told
stage_in name t = record { held = t.held; staged = Some (record { name = name; bytes = [] }) }

-- the same files, and these bytes at the end of the staged ones
abbrev pub push_in : List ℕ → Told → Told
push_in bytes t = record {
  held = t.held;
  staged = option_map (λ s. record { name = s.name; bytes = s.bytes ++ bytes }) t.staged;
}

-- the same files, and nothing staged
abbrev pub abandon_in : Told → Told
abandon_in t = record { held = t.held; staged = None }

-- the files with the staged one among them
abbrev pub files_with : Held → Option Staged → Held
files_with held None = held
files_with held (Some s) = insert held s.name s.bytes

-- the staged file is held, and nothing is staged
abbrev pub commit_in : Told → Told
commit_in t = record { held = files_with t.held t.staged; staged = None }

-- the files that are told
abbrev pub held_of : Option Told → Option Held
held_of t = option_map (λ s. s.held) t
