use Rattle.oc2_wire_site.proofs.LineLemmas.{breaks_first, holds_stopped}
use Rattle.oc2_wire_site.proofs.line_link.LineLink.read.Goals as goal

pub returns-in-Err-clause-broken : goal.returns-in-Err-clause-broken
returns-in-Err-clause-broken g c =
    breaks_first c.in-Err.state (g.K.Link.view c.args.self.now.link) (g.K.Link.view c.read_next.new.self.link) c.args.self.now.unread.items c.read_next.new.self.unread.items c.args.self.now.passed c.read_next.new.self.passed c.args.self.now.state
    c.in-Err.ensures.fills c.in-Err.ensures.stop c.in-Err.ensures.passed

pub invariant_of-self : goal.invariant_of-self
invariant_of-self g c = record {
  holds = holds_stopped c.in-Err.state (g.K.Link.view c.args.self.now.link).faults c.read_next.new.self.passed (g.K.Link.view c.read_next.new.self.link) c.read_next.new.self.unread.items c.read_next.new.self.holds.small c.in-Err.ensures.stop;
}
