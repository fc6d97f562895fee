use Rattle.cacao_site_log.specs.Entries.{IsAsSynced}
use Rattle.cacao_site_log.specs.Replay.{FileState}
use Rattle.cacao_site_log.proofs.ReplayLemmas.{file_at}
use Rattle.cacao_site_log.proofs.tear.tear_all.Given as goal

abbrev pub invariant-loop-entry : goal.invariant-loop-entry
invariant-loop-entry l = (state : FileState) → IsAsSynced state l.fn.image → IsAsSynced (file_at l.file state l.bytes l.entries l.entry-index) l.image
