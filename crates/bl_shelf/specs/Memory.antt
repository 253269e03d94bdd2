-- What a shelf in memory tells, its counts, and its calls that are to fail.
use Rattle.std.specs.Prelude.{◌≡◌, ℕ, List, Bool, true, false, Option, Result}
use Rattle.bl_shelf.specs.Told.{Told, commit_in, abandon_in}
use Rattle.bl_shelf.specs.Causes.{next_count, faults_after, misses_after}
use Rattle.bl_shelf.specs.History.{History, with_commit}
use Rattle.bl_shelf.specs.Steady.{steady_contents, steady_room, steady_history, steady_misses}
use Rattle.bl_shelf.specs.Meter.{fails_of, calls_of, faults_of, IsDueAt}
use Rattle.bl_shelf.specs.declared.shelf.ShelfFault.{ShelfFault}
use Rattle.bl_shelf.specs.declared.memory.MemoryShelf.{MemoryShelf}

-- the files that it holds, and the one that is staged
abbrev pub memory_contents : MemoryShelf → Told
memory_contents s = steady_contents s.shelf

-- how many bytes may still be pushed
abbrev pub memory_room : MemoryShelf → Option ℕ
memory_room s = steady_room s.shelf

-- the names under which files were staged, and how many commits took effect
abbrev pub memory_history : MemoryShelf → History
memory_history s = steady_history s.shelf

-- the numbers of the calls that are to fail, the first call being 0
abbrev pub memory_fails : MemoryShelf → List ℕ
memory_fails s = fails_of s.meter

-- whether a commit that fails takes effect
abbrev pub memory_takes_effect : MemoryShelf → Bool
memory_takes_effect s = s.takes_effect

-- how many of the counted calls there were
abbrev pub memory_calls : MemoryShelf → ℕ
memory_calls s = calls_of s.meter

-- how many of them failed
abbrev pub memory_faults : MemoryShelf → ℕ
memory_faults s = faults_of s.meter

-- how often a file wasn't there
abbrev pub memory_misses : MemoryShelf → ℕ
memory_misses s = steady_misses s.shelf

-- the next counted call is to fail
abbrev pub IsDue : MemoryShelf → Type 0
IsDue s = IsDueAt s.meter

-- what a commit that fails leaves, by whether it takes effect
abbrev pub failed_commit_in : Bool → Told → Told
failed_commit_in true t = commit_in t
failed_commit_in false t = abandon_in t

-- what the history then is
abbrev pub failed_commit_history : Bool → History → History
failed_commit_history true h = with_commit h
failed_commit_history false h = h

-- nothing is counted, and the calls that are to fail stay
pub record KeepsCounts (old new : MemoryShelf) : Type 0 where
  pub fails : memory_fails new ≡ memory_fails old
  pub takes_effect : memory_takes_effect new ≡ memory_takes_effect old
  pub calls : memory_calls new ≡ memory_calls old
  pub faults : memory_faults new ≡ memory_faults old
  pub misses : memory_misses new ≡ memory_misses old

-- the call is counted, and a fault or a miss by its answer; the calls that are to fail stay
pub record CountsCall {T : Type 0} (old new : MemoryShelf) (result : Result T ShelfFault) : Type 0 where
  pub fails : memory_fails new ≡ memory_fails old
  pub takes_effect : memory_takes_effect new ≡ memory_takes_effect old
  pub calls : memory_calls new ≡ next_count (memory_calls old)
  pub faults : memory_faults new ≡ faults_after result (memory_faults old)
  pub misses : memory_misses new ≡ misses_after result (memory_misses old)
