use Rattle.std.proofs.Common.{codes}
use Rattle.cacao_json.specs.Tree.{data_of}
use Rattle.cacao_view_preflight.specs.Settled.{in_object, slpf_members}
use Rattle.cacao_view_preflight.proofs.ChangeLemmas.{changed_absent, changed_there}
use Rattle.cacao_view_preflight.proofs.settled.settle_slpf.Goals as goal

pub returns-in_default : goal.returns-in_default
returns-in_default c = changed_absent (codes "slpf") (in_object slpf_members) c.args.pairs.now c.remove.new.self c.in_default.ensures.value c.in_default.ensures.others

pub returns : goal.returns
returns c =
    changed_there (codes "slpf") (in_object slpf_members) c.args.pairs.now c.remove.new.self c.put.new.pairs (data_of c.in-Some.found) (data_of c.in_ok-made.made)
    c.in-Some.ensures.value c.in-Some.ensures.others c.in_ok-made.ensures c.in_ok-put.ensures
