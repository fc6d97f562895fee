use Rattle.cacao_view_log.specs.Sources.{items_of}
use Rattle.cacao_view_log.proofs.LogLemmas.{logs_run}
use Rattle.cacao_view_log.proofs.logging.log.Goals as goal

pub returns-in-Ok-clause-ok : goal.returns-in-Ok-clause-ok
returns-in-Ok-clause-ok c =
    logs_run c.args.form (items_of c.args.source.now) c.in-Ok.told.flow c.in-Ok.told.texts.items c.in-Ok.ensures.ok
