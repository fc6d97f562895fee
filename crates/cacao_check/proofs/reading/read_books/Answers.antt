use Rattle.std.proofs.Common.{map}
use Rattle.cacao_json.specs.Tree.{data_of}
use Rattle.cacao_check.proofs.FirstLemmas.{accepts, sense_refuses, shape_refuses}
use Rattle.cacao_check.proofs.reading.read_books.Goals as goal

pub returns-in-Err-clause-broken : goal.returns-in-Err-clause-broken
returns-in-Err-clause-broken c = shape_refuses (map data_of c.args.trees.now) c.args.mode c.in-Err.error c.in-Err.ensures.broken

pub returns-in-Ok-check-clause-accepted : goal.returns-in-Ok-check-clause-accepted
returns-in-Ok-check-clause-accepted c = accepts (map data_of c.args.trees.now) c.args.mode c.in-Ok.ensures.shaped c.in-Ok.books c.in-Ok.ensures.books c.in-Ok-check.ensures.sound

pub returns-in-Err-check-clause-broken : goal.returns-in-Err-check-clause-broken
returns-in-Err-check-clause-broken c = sense_refuses (map data_of c.args.trees.now) c.args.mode c.in-Ok.ensures.shaped c.in-Ok.books c.in-Err-check.error c.in-Ok.ensures.books c.in-Err-check.ensures.broken
