use Rattle.cacao_site.proofs.Beats.{torn-write, torn-same, others-trans}
use Rattle.run_journal.proofs.store.write_and_sync.Goals as goal

pub returns-in_err-write-clause-torn : goal.returns-in_err-write-clause-torn
returns-in_err-write-clause-torn g c = torn-write c.write.ensures.call c.write.ensures.images

pub returns-in_err-sync-clause-torn : goal.returns-in_err-sync-clause-torn
returns-in_err-sync-clause-torn g c = torn-same (torn-write c.write.ensures.call c.write.ensures.images) c.sync.ensures.call c.sync.ensures.images

pub returns-clause-torn : goal.returns-clause-torn
returns-clause-torn g c = torn-same (torn-write c.write.ensures.call c.write.ensures.images) c.sync.ensures.call c.sync.ensures.images

pub returns-in_err-sync-clause-others : goal.returns-in_err-sync-clause-others
returns-in_err-sync-clause-others g c = others-trans c.write.ensures.call c.sync.ensures.call

pub returns-clause-others : goal.returns-clause-others
returns-clause-others g c = others-trans c.write.ensures.call c.sync.ensures.call
