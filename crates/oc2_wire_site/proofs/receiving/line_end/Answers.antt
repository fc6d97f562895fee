use Rattle.oc2_wire_site.proofs.FirstLines.{first_line_is, no_line_is}
use Rattle.oc2_wire_site.proofs.receiving.line_end.Goals as goal

pub returns-in_default : goal.returns-in_default
returns-in_default c = no_line_is c.args.unread.now c.args.seen c.requires.none c.in_default.ensures

pub returns : goal.returns
returns c = first_line_is c.args.unread.now c.in-Some.front.now c.in-Some.field-0-1.now c.args.seen c.requires.seen c.requires.none c.in-Some.ensures
