use Rattle.std.proofs.Common.{ap}
use Rattle.oc2_wire_site.proofs.ResultLemmas.{fills_read, one_read, stop_read}
use Rattle.oc2_wire_site.proofs.line_link.LineLink.read_next.Goals as goal

pub returns-in-Ok-clause-one : goal.returns-in-Ok-clause-one
returns-in-Ok-clause-one g c =
    one_read c.read_first.result (g.K.Link.view c.args.self.now.link) (g.K.Link.view c.await_line.new.link) (g.K.Link.view c.read_first.new.self.link) c.args.self.now.unread.items c.await_line.new.unread.items c.read_first.new.self.unread.items
    (ap g.K.Link.view c.read_first.ensures.link) c.await_line.ensures.fills c.in-Ok.ensures.faultless c.args.back c.args.self.now.passed c.read_first.new.self.passed c.in-Ok.end c.args.self.now.state c.read_first.new.self.state
    c.in-Ok.ensures.line c.read_first.ensures.reads c.read_first.ensures.cut c.read_first.ensures.passed c.read_first.ensures.state

pub returns-in-Ok-clause-stop : goal.returns-in-Ok-clause-stop
returns-in-Ok-clause-stop g c =
    stop_read c.read_first.result (g.K.Link.view c.args.self.now.link) (g.K.Link.view c.await_line.new.link) (g.K.Link.view c.read_first.new.self.link) c.args.self.now.unread.items c.await_line.new.unread.items c.read_first.new.self.unread.items
    (ap g.K.Link.view c.read_first.ensures.link) c.await_line.ensures.fills c.in-Ok.ensures.faultless c.read_first.ensures.want

pub returns-in-Ok-clause-fills : goal.returns-in-Ok-clause-fills
returns-in-Ok-clause-fills g c =
    fills_read c.read_first.result (g.K.Link.view c.args.self.now.link) (g.K.Link.view c.await_line.new.link) (g.K.Link.view c.read_first.new.self.link) c.args.self.now.unread.items c.await_line.new.unread.items c.read_first.new.self.unread.items
    (ap g.K.Link.view c.read_first.ensures.link) c.await_line.ensures.fills c.in-Ok.ensures.faultless c.read_first.ensures.unread
