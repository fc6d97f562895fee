use Rattle.std.proofs.Common.{sym, ◌∙◌, arith}
use Rattle.base_decimals.proofs.Decimals.{parse_ok, parse_err, number_none, number_kept}
use Rattle.base_decimals.proofs.naturals.read_text.Goals as goal

pub returns-in-Err-clause-value : goal.returns-in-Err-clause-value
returns-in-Err-clause-value c = sym (number_none c.args.most c.args.text.now λ n fits is.
    parse_err c.args.text.now c.in-Err.field-0 c.parse.result c.in-Err.is c.parse.ensures.value.0 n (omega arith) is)

pub returns-in-Ok-clause-value : goal.returns-in-Ok-clause-value
returns-in-Ok-clause-value c =
    let read = parse_ok c.args.text.now c.in-Ok.value c.parse.result c.in-Ok.is c.parse.ensures.value.0 c.requires in
    c.then_some.ensures ∙ number_kept c.args.most c.in-Ok.value c.args.text.now (omega arith) read.1 read.0
