use Rattle.std.proofs.Common.{sym}
use Rattle.oc2_wire_process.proofs.PortLemmas.{none_said, says, zero_unsaid}
use Rattle.oc2_wire_process.proofs.port_line.port_of.Goals as goal

pub returns-in_default-read_number : goal.returns-in_default-read_number
returns-in_default-read_number c = none_said c.args.line.now c.in-Some.digits.now c.in-Some.ensures (sym c.in_default-read_number.ensures.value)

pub returns-then-port-eq0 : goal.returns-then-port-eq0
returns-then-port-eq0 c =
    zero_unsaid c.args.line.now c.in-Some.digits.now c.in-Some-read_number.port c.in-Some.ensures (sym c.in-Some-read_number.ensures.value) c.if-port-eq0.true

pub returns : goal.returns
returns c =
    says c.args.line.now c.in-Some.digits.now c.in-Some-read_number.port c.in-Some.ensures (sym c.in-Some-read_number.ensures.value) c.if-port-eq0.false
