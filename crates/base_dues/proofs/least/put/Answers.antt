use Rattle.base_dues.proofs.LeastLemmas.{block_there, AreLeast-sooner, AreLeast-later, AreLeast-again}
use Rattle.base_dues.proofs.least.put.Goals as goal

pub returns-then-is_no_later-clause-block : goal.returns-then-is_no_later-clause-block
returns-then-is_no_later-clause-block c = block_there c.args.moments.now c.args.least.now c.args.number c.requires.tells c.requires.within

pub returns-then-is_no_later-clause-tells : goal.returns-then-is_no_later-clause-tells
returns-then-is_no_later-clause-tells c =
    rw c.set.ensures
    (AreLeast-sooner c.args.moments.now c.args.least.now c.args.number c.get-before.result c.get-was.result c.args.due c.sooner.result
    c.requires.tells c.requires.within c.get-before.ensures c.if-is_no_later.ensures c.get-was.ensures c.sooner.ensures)

pub returns-then-is_later-clause-block : goal.returns-then-is_later-clause-block
returns-then-is_later-clause-block c = block_there c.args.moments.now c.args.least.now c.args.number c.requires.tells c.requires.within

pub returns-then-is_later-clause-tells : goal.returns-then-is_later-clause-tells
returns-then-is_later-clause-tells c =
    rw c.set.ensures
    (AreLeast-later c.args.moments.now c.args.least.now c.args.number c.get-before.result c.get-was.result c.args.due c.sooner-then-is_later.result
    c.requires.tells c.requires.within c.get-before.ensures c.if-is_later.ensures c.get-was.ensures c.sooner-then-is_later.ensures)

pub returns-clause-block : goal.returns-clause-block
returns-clause-block c = block_there c.args.moments.now c.args.least.now c.args.number c.requires.tells c.requires.within

pub returns-clause-tells : goal.returns-clause-tells
returns-clause-tells c =
    rw c.set.ensures
    (AreLeast-again c.args.moments.now c.args.least.now c.set.new.self c.args.number c.args.due c.least_in.result
    c.requires.tells c.requires.within c.set.ensures c.least_in.ensures)
