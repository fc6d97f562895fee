use Rattle.cacao_book.specs.Steps.{place_of}
use Rattle.cacao_check_steps.proofs.LinkLemmas.{names_more}
use Rattle.cacao_check_steps.proofs.links.add_keys.Goals as goal

pub loop-key-preserved : goal.loop-key-preserved
loop-key-preserved c = names_more (place_of c.args.steps.now) c.args.keys.now c.loop-key.key-index c.key-item.result c.args.places.now c.loop-key.places c.add_key.new.places c.loop-key-test.true c.key-item.is c.loop-key.invariant c.in_ok-add_key.ensures
