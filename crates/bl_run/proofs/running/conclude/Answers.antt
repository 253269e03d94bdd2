use Rattle.bl_run.proofs.Runs.{sink_reports}
use Rattle.bl_run.proofs.running.conclude.Goals as goal

pub returns-in-Err-Sink-clause-concludes : goal.returns-in-Err-Sink-clause-concludes
returns-in-Err-Sink-clause-concludes g c = rw (c.in-Err-Sink.is, c.in-Err-Sink.field-0-is, c.status_of.ensures) (sink_reports _ _)
