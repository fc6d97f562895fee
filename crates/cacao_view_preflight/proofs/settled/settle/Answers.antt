use Rattle.cacao_json.specs.Tree.{data_of}
use Rattle.cacao_view_preflight.specs.Settled.{set_if_open}
use Rattle.cacao_view_preflight.proofs.ChangeLemmas.{changed_absent, changed_there}
use Rattle.cacao_view_preflight.proofs.settled.settle.Goals as goal

pub returns-in_default : goal.returns-in_default
returns-in_default c = changed_absent c.args.name.now (set_if_open (data_of c.args.fitting)) c.args.pairs.now c.remove.new.self c.in_default.ensures.value c.in_default.ensures.others

pub returns : goal.returns
returns c =
    changed_there c.args.name.now (set_if_open (data_of c.args.fitting)) c.args.pairs.now c.remove.new.self c.put.new.pairs (data_of c.in-Some.found) (data_of c.set_if_open-made.result)
    c.in-Some.ensures.value c.in-Some.ensures.others c.set_if_open-made.ensures c.in_ok-put.ensures
