use Rattle.std.proofs.Common.{◌≡◌, ◌+◌, ◌-◌, ◌≤◌, length, take}
use Rattle.oc2_wire_lines.specs.Lines.{IsOneLine, most_line}
use Rattle.oc2_wire_site.specs.LineSteps.{Fills}
use Rattle.oc2_wire_site.proofs.receiving.await_line.Given as goal

-- what came so far, of which a front is known to have no line feed
abbrev pub invariant-loop-end : goal.invariant-loop-end
invariant-loop-end g l = record {
  fills : Fills (g.K.Link.view l.fn.link) (g.K.Link.view l.link) l.fn.unread.items l.unread.items;
  small : length l.unread.items ≤ most_line + 1;
  seen : l.seen ≤ length l.unread.items;
  none : IsOneLine (take l.seen l.unread.items);
  faults : (g.K.Link.view l.link).faults ≡ (g.K.Link.view l.fn.link).faults;
}

abbrev pub decreases-loop-end : goal.decreases-loop-end
decreases-loop-end g l = most_line + 1 - length l.unread.items
