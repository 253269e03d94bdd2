-- What the counts of a shelf or a sink say of its answers.
use Rattle.std.specs.Prelude.{◌≡◌, ℕ, ◌+◌, ◌^◌, ◌-◌, ◌≤◌, min, Result, Ok, Err, ⊤}
use Rattle.bl_shelf.specs.declared.shelf.ShelfFault.{ShelfFault}
use Rattle.bl_shelf.specs.declared.shelf.ShelfFault.TheVariants.{Absent, Failed, NoMemory}
use Rattle.bl_shelf.specs.declared.sink.SinkFault.{SinkFault}
use Rattle.bl_shelf.specs.declared.sink.SinkFault.TheVariants as sink

-- the count after one more, which stays at its type's end
abbrev pub next_count : ℕ → ℕ
next_count count = min (count + 1) (2 ^ 64 - 1)

-- the count has risen, or stands at its type's end
abbrev pub Rose : ℕ → ℕ → Type 0
Rose before now = next_count before ≤ now

-- the count that a shelf's fault blames has risen
abbrev pub HasRisen : ShelfFault → ℕ → ℕ → ℕ → ℕ → Type 0
HasRisen Absent faults faults' misses misses' = Rose misses misses'
HasRisen Failed faults faults' misses misses' = Rose faults faults'
HasRisen NoMemory faults faults' misses misses' = ⊤

-- after Ok no count of a shelf has risen; after a fault none has fallen, and the one that it blames has risen
abbrev pub HasCause : {T : Type 0} → ℕ → ℕ → ℕ → ℕ → Result T ShelfFault → Type 0
HasCause faults faults' misses misses' (Ok _) = (faults' ≡ faults) × (misses' ≡ misses)
HasCause faults faults' misses misses' (Err fault) =
    (faults ≤ faults') × (misses ≤ misses') × HasRisen fault faults faults' misses misses'

-- the count that a sink's fault blames has risen
abbrev pub SinkHasRisen : SinkFault → ℕ → ℕ → Type 0
SinkHasRisen sink.Failed faults faults' = Rose faults faults'
SinkHasRisen sink.NoMemory faults faults' = ⊤

-- after Ok a sink's count hasn't risen; after a fault it hasn't fallen, and has risen where the fault blames it
abbrev pub HasSinkCause : {T : Type 0} → ℕ → ℕ → Result T SinkFault → Type 0
HasSinkCause faults faults' (Ok _) = faults' ≡ faults
HasSinkCause faults faults' (Err fault) = (faults ≤ faults') × SinkHasRisen fault faults faults'

-- the faults of a shelf after this answer, one more where it is `Failed`
abbrev pub faults_after : {T : Type 0} → Result T ShelfFault → ℕ → ℕ
faults_after (Ok _) faults = faults
faults_after (Err Absent) faults = faults
faults_after (Err Failed) faults = next_count faults
faults_after (Err NoMemory) faults = faults

-- the misses of a shelf after this answer, one more where it is `Absent`
abbrev pub misses_after : {T : Type 0} → Result T ShelfFault → ℕ → ℕ
misses_after (Ok _) misses = misses
misses_after (Err Absent) misses = next_count misses
misses_after (Err Failed) misses = misses
misses_after (Err NoMemory) misses = misses

-- the faults of a sink after this answer, one more where it is `Failed`
abbrev pub sink_faults_after : {T : Type 0} → Result T SinkFault → ℕ → ℕ
sink_faults_after (Ok _) faults = faults
sink_faults_after (Err sink.Failed) faults = next_count faults
sink_faults_after (Err sink.NoMemory) faults = faults
