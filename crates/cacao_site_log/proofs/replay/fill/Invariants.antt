use Rattle.cacao_site_log.specs.Entries.{IsReadAt}
use Rattle.cacao_site_log.specs.Replay.{at_rest}
use Rattle.cacao_site_log.proofs.ReplayLemmas.{file_at}
use Rattle.cacao_site_log.proofs.replay.fill.Given as goal

abbrev pub invariant-loop-entry : goal.invariant-loop-entry
invariant-loop-entry l = IsReadAt (file_at l.file (at_rest l.start) l.bytes l.entries l.entry-index).reads l.at l.into
