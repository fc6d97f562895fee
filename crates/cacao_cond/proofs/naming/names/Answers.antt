-- The names in order are the condition's, each once.
use Rattle.cacao_cond.specs.Trees.{tree_of}
use Rattle.cacao_cond.proofs.NameLemmas.{listed_once, listed_exactly}
use Rattle.cacao_cond.proofs.naming.names.Goals as goal

pub returns-clause-once : goal.returns-clause-once
returns-clause-once c = listed_once (tree_of c.args.cond.now) c.names_in_order.result c.names_in_order.ensures

pub returns-clause-exact : goal.returns-clause-exact
returns-clause-exact c = listed_exactly (tree_of c.args.cond.now) c.names_in_order.result c.names_in_order.ensures
