use Rattle.cacao_book.specs.Steps.{place_of}
use Rattle.cacao_book.specs.declared.cases.Case.{Case}
use Rattle.cacao_check_steps.proofs.LinkLemmas.{keys_more}
use Rattle.cacao_check_steps.proofs.links.add_cases.Goals as goal

pub loop-one-preserved : goal.loop-one-preserved
loop-one-preserved c = keys_more (λ (one : Case). one.step) (place_of c.args.steps.now) c.args.cases.now c.loop-one.one-index c.one-item.result c.args.places.now c.loop-one.places c.add_key.new.places c.loop-one-test.true c.one-item.is c.loop-one.invariant c.in_ok-add_key.ensures
