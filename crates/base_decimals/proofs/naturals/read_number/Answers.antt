use Rattle.std.proofs.Common.{sym, ◌∙◌, arith}
use Rattle.std.specs.Bool.{IsTrue}
use Rattle.std.proofs.lemmas.Bool.{true≢false}
use Rattle.base_decimals.specs.Begins.{MayBegin}
use Rattle.base_decimals.proofs.Decimals.{decimal_begins, number_none, no_text}
use Rattle.base_decimals.proofs.naturals.read_number.Goals as goal

pub returns-then-not-may_begin-clause-value : goal.returns-then-not-may_begin-clause-value
returns-then-not-may_begin-clause-value c = sym (number_none c.args.most c.args.text.now λ n fits is.
    let begins : MayBegin c.args.text.now = decimal_begins n c.args.text.now (omega arith) is in
    let yes : IsTrue c.may_begin.result = c.may_begin.ensures.1 begins in
    true≢false (sym yes ∙ c.if-not-may_begin.true))

pub returns-in-Err-clause-value : goal.returns-in-Err-clause-value
returns-in-Err-clause-value c = sym (number_none c.args.most c.args.text.now λ n fits is.
    no_text c.args.text.now c.in-Err.ensures.cases.0 n (omega arith) is)
