use Rattle.std.proofs.lemmas.Result.{IfOk-weaker}
use Rattle.flow_engine_reports.proofs.BeginLemmas.{by_entry}
use Rattle.cacao_view_log.proofs.beginning.begun.Goals as goal

pub returns : goal.returns
returns c = λ bytes of.
    IfOk-weaker c.begun.result _ _ (λ o h. by_entry bytes c.args.item.now o of.reads c.requires.in_range of.is h) c.begun.ensures
