-- Scaffold: What a refusal of the journal or of the flow means for the engine.
use Rattle.run_journal.specs.declared.error.JournalError.{JournalError}
use Rattle.run_journal.specs.declared.error.JournalError.TheVariants as journal
use Rattle.flow_core.specs.declared.flow_errors.LimitKind.TheVariants as limit
use Rattle.flow_engine_history.specs.declared.error.EngineError.{EngineError}
use Rattle.flow_engine_history.specs.declared.error.EngineError.TheVariants as refused

abbrev pub error_of : JournalError → EngineError
error_of journal.Disk = refused.Disk
error_of (journal.Damaged place) = refused.Damaged place
error_of (journal.Full length) = refused.Limit limit.Journal
error_of journal.Broken = refused.Broken
error_of journal.Memory = refused.Memory
