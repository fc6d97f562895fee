use Rattle.std.proofs.Common.{rules}
use Rattle.cacao_view_explain.specs.Naming.{IsMisfit}
use Rattle.cacao_view_explain.proofs.NameLemmas.{misfit_at}
use Rattle.cacao_view_explain.proofs.name_faults.misfit_result.Goals as goal

pub loop-number-init : goal.loop-number-init
loop-number-init c = c.new-memory.ensures c.args.book.now

pub returns-in-Some : goal.returns-in-Some
returns-in-Some c =
    let misfit : IsMisfit c.args.book.now c.args.place c.args.step.now c.loop-number.number c.name-item.result c.in-Some.says.now = search rules in
    misfit_at c.args.book.now c.args.place c.args.step.now c.out_args_of-name-items.result.now c.loop-number.number c.name-item.result c.in-Some.says.now
    c.out_args_of-name-items.ensures.names c.loop-number-test.true c.name-item.is misfit
