use Rattle.cacao_site.proofs.Beats.{torn-write, torn-same, others-trans, rest-trans}
use Rattle.test_site_calls.proofs.composed.write_and_sync.Goals as goal

pub returns-in-Ok-clause-torn : goal.returns-in-Ok-clause-torn
returns-in-Ok-clause-torn g c = torn-same (torn-write c.write.ensures.call c.write.ensures.images) c.sync.ensures.call c.sync.ensures.images

pub returns-in-Ok-clause-others : goal.returns-in-Ok-clause-others
returns-in-Ok-clause-others g c = others-trans c.write.ensures.call c.sync.ensures.call

pub returns-in-Ok-clause-rest : goal.returns-in-Ok-clause-rest
returns-in-Ok-clause-rest g c = rest-trans c.write.ensures.rest c.sync.ensures.rest

pub returns-in-Err-clause-torn : goal.returns-in-Err-clause-torn
returns-in-Err-clause-torn g c = torn-write c.write.ensures.call c.write.ensures.images
