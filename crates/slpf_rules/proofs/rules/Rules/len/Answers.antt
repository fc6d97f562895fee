use Rattle.std.proofs.Common.{subst}
use Rattle.slpf_rules.specs.Order.{IsRising}
use Rattle.slpf_rules.proofs.Rising.{IsRising-from_numbered}
use Rattle.slpf_rules.proofs.rules.Rules.len.Goals as goal

pub returns-clause-rising : goal.returns-clause-rising
returns-clause-rising c = subst IsRising c.self.view_is (IsRising-from_numbered c.self.inside.by_number.entries c.self.invariant.numbered)
