-- The pairs of digits, and the hyphens between them.
use Rattle.std.proofs.Common.{arith}
use Rattle.cacao_ids.proofs.StampLemmas.{date_spelled}
use Rattle.cacao_ids.proofs.stamps.date_of.Goals as goal

pub returns : goal.returns
returns c =
    let century = c.in_ok-century.ensures in
    let year = c.in_ok-year.ensures in
    let month = c.in_ok-month.ensures in
    let day = c.in_ok-day.ensures in
    rw (c.from.ensures, c.from-2.ensures) (
      omega (arith, century, year),
      month.0,
      day.0,
      date_spelled c.args.text.now c.in_ok-century.century c.in_ok-year.year c.in_ok-month.month c.in_ok-day.day year.0 c.if-text-ne10.false
          (century.1, (century.2, (year.1, (year.2, (c.if-text-ne45.false, (month.1, (month.2, (c.if-text-ne45-2.false, (day.1, (day.2, tt)))))))))),
    )
