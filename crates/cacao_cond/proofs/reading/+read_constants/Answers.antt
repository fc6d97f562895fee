-- Where the constants behind a comma are none, none are read.
use Rattle.std.proofs.Common.{◌-◌, ◌∙◌, sym, ap}
use Rattle.std.specs.Prelude.{codes}
use Rattle.std.proofs.lemmas.Result.{err_from_is_err_and}
use Rattle.cacao_cond.specs.Reading.{behind, constants_at}
use Rattle.cacao_cond.proofs.ReadLemmas.{err_through, constants_none}
use Rattle.cacao_cond.proofs.reading.+read_constants.Goals as goal

pub returns-in_err-others-in-Some : goal.returns-in_err-others-in-Some
returns-in_err-others-in-Some t c =
    let p = err_from_is_err_and c.from_residual-in_err-others-in-Some.result c.from_residual-in_err-others-in-Some.ensures.1 in
    let n = c.args.levels in
    rw (p.1, p.2) (err_through c.in_err-others-in-Some.field-0.0 (constants_at (n - 1) c.skip-in-Some.result.now) (constants_at n c.args.text.now) c.in_err-others-in-Some.ensures
    (λ e. constants_none n c.args.text.now c.in_ok-first.rest.now c.in-Some.rest.now c.in_ok-first.first c.if-levels-eq0.false c.in_ok-first.ensures
    (c.in-Some.ensures ∙ ap (behind (codes ",")) c.skip.ensures) (ap (constants_at (n - 1)) (sym c.skip-in-Some.ensures) ∙ e)))
