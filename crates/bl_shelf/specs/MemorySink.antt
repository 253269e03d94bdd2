-- What a sink in memory was given, its counts, and its calls that are to fail.
use Rattle.std.specs.Prelude.{◌≡◌, ℕ, List, Result}
use Rattle.bl_shelf.specs.Causes.{next_count, sink_faults_after}
use Rattle.bl_shelf.specs.Meter.{fails_of, calls_of, faults_of, IsDueAt}
use Rattle.bl_shelf.specs.declared.sink.SinkFault.{SinkFault}
use Rattle.bl_shelf.specs.declared.memory_sink.MemorySink.{MemorySink}

-- the bytes that were put
abbrev pub bytes_put : MemorySink → List ℕ
bytes_put s = s.bytes.items

-- the numbers of the calls that are to fail, the first call being 0
abbrev pub sink_fails : MemorySink → List ℕ
sink_fails s = fails_of s.meter

-- how many calls there were
abbrev pub sink_calls : MemorySink → ℕ
sink_calls s = calls_of s.meter

-- how many of them failed
abbrev pub sink_faults : MemorySink → ℕ
sink_faults s = faults_of s.meter

-- the next call is to fail
abbrev pub IsSinkDue : MemorySink → Type 0
IsSinkDue s = IsDueAt s.meter

-- the call is counted, and a fault by its answer; the calls that are to fail stay
pub record CountsPut {T : Type 0} (old new : MemorySink) (result : Result T SinkFault) : Type 0 where
  pub fails : sink_fails new ≡ sink_fails old
  pub calls : sink_calls new ≡ next_count (sink_calls old)
  pub faults : sink_faults new ≡ sink_faults_after result (sink_faults old)
