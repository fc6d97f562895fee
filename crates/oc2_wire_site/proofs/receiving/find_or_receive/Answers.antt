use Rattle.std.proofs.Common.{List, ℕ, arith, refl, subst}
use Rattle.oc2_wire_lines.specs.Lines.{IsOneLine}
use Rattle.oc2_wire_site.specs.LineSteps.{IsFirstLine}
use Rattle.oc2_wire_site.proofs.FirstLines.{too_long_line, too_long_rest}
use Rattle.oc2_wire_site.proofs.receiving.find_or_receive.Goals as goal

pub returns-then-end-ge-MOST_LINE-clause-stop : goal.returns-then-end-ge-MOST_LINE-clause-stop
returns-then-end-ge-MOST_LINE-clause-stop g c =
    (too_long_line c.args.unread.now.items c.in-Some.end (subst (λ (l : List ℕ). IsFirstLine c.in-Some.end l) c.as_slice.ensures.value c.in-Some.ensures) (omega (arith, c.if-end-ge-MOST_LINE.true)), refl)

pub returns-then-len-gt-MOST_LINE-clause-stop : goal.returns-then-len-gt-MOST_LINE-clause-stop
returns-then-len-gt-MOST_LINE-clause-stop g c =
    (too_long_rest c.args.unread.now.items (subst IsOneLine c.as_slice.ensures.value c.in_default.ensures) (omega (arith, c.if-len-gt-MOST_LINE.true, c.len.ensures)), refl)
