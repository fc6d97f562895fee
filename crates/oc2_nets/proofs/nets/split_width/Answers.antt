use Rattle.std.proofs.Common.{arith, ap, sym, ◌∙◌}
use Rattle.base_decimals.specs.Numbers.{number}
use Rattle.oc2_nets.proofs.NetTexts.{width_read, width_not_read}
use Rattle.oc2_nets.proofs.nets.split_width.Goals as goal

pub returns-in_err-width-clause-found : goal.returns-in_err-width-clause-found
returns-in_err-width-clause-found c =
    rw c.from_residual.ensures (width_not_read c.args.most c.args.text.now c.in-Some.address.now c.in-Some.width.now (omega arith) c.in-Some.ensures (ap (number c.args.most) (sym c.as_bytes.ensures.value) ∙ sym c.in_err-width.ensures.value))

pub returns-clause-found : goal.returns-clause-found
returns-clause-found c =
    width_read c.args.most c.in_ok-width.width c.args.text.now c.in-Some.address.now c.in-Some.width.now (omega arith) c.in-Some.ensures (ap (number c.args.most) (sym c.as_bytes.ensures.value) ∙ sym c.in_ok-width.ensures.value)
