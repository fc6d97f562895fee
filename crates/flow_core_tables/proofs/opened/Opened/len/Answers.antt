use Rattle.std.proofs.Common.{arith}
use Rattle.flow_core_tables.proofs.OpenedLemmas.{count_is, texts_count_is}
use Rattle.flow_core_tables.proofs.opened.Opened.len.Goals as goal

pub returns-clause-scopes : goal.returns-clause-scopes
returns-clause-scopes c = omega (arith, c.len.ensures, count_is c.self.inside c.args.self.now c.self.view_is c.self.invariant)

pub returns-clause-texts : goal.returns-clause-texts
returns-clause-texts c = omega (arith, c.len.ensures, texts_count_is c.self.inside c.args.self.now c.self.view_is c.self.invariant)
