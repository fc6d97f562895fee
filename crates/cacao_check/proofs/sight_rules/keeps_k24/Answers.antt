use Rattle.std.proofs.Common.{◌≡◌, ◌<◌, Some, length, slice_get, sym, ◌∙◌, refl, arith}
use Rattle.std.proofs.lemmas.Option.{slice_get_read}
use Rattle.cacao_check.proofs.RuleLemmas.{k24_then, k24_else}
use Rattle.cacao_check.proofs.sight_rules.keeps_k24.Goals as goal

pub returns-then-not-ins_alike-clause-keeps : goal.returns-then-not-ins_alike-clause-keeps
returns-then-not-ins_alike-clause-keeps c =
    let theirs = c.index-books-at.result in
    let lt : c.in-Some.called < length c.args.books.now = omega arith in
    let at : slice_get c.args.books.now c.in-Some.called ≡ Some theirs = slice_get_read c.args.books.now (length c.args.books.now) c.in-Some.called theirs refl lt c.index-books-at.is in
    k24_else c.args.books.now c.args.book.now c.args.place c.args.step.now c.in-Some.called theirs (sym c.requires.reads.called ∙ c.in-Some.is) at c.in_args_of-ins.result.now c.in_ok-ins_alike.ins_alike c.in_args_of-ins.ensures c.in_ok-ins_alike.ensures.keeps c.if-not-ins_alike.true

pub returns-clause-keeps : goal.returns-clause-keeps
returns-clause-keeps c =
    let theirs = c.index-books-at.result in
    let lt : c.in-Some.called < length c.args.books.now = omega arith in
    let at : slice_get c.args.books.now c.in-Some.called ≡ Some theirs = slice_get_read c.args.books.now (length c.args.books.now) c.in-Some.called theirs refl lt c.index-books-at.is in
    k24_then c.args.books.now c.args.book.now c.args.place c.args.step.now c.in-Some.called theirs (sym c.requires.reads.called ∙ c.in-Some.is) at c.in_args_of-ins.result.now c.out_args_of-outs.result.now c.in_ok-ins_alike.ins_alike c.in_ok-outs_alike.outs_alike c.in_args_of-ins.ensures c.out_args_of-outs.ensures.names c.in_ok-ins_alike.ensures.keeps c.if-not-ins_alike.false c.in_ok-outs_alike.ensures.keeps
