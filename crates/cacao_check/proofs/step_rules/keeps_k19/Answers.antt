use Rattle.std.proofs.Common.{◌≡◌, ◌<◌, Some, length, slice_get, sym, ◌∙◌, refl, arith}
use Rattle.std.proofs.lemmas.Option.{slice_get_read}
use Rattle.cacao_check_steps.specs.Calls.{LeadsTo}
use Rattle.cacao_check.proofs.RuleLemmas.{k19_then, k19_else, not_iff, marked_iff}
use Rattle.cacao_check.proofs.step_rules.keeps_k19.Goals as goal

pub returns-then-not-has_version : goal.returns-then-not-has_version
returns-then-not-has_version c =
    let theirs = c.index-books-at.result in
    let lt : c.in-Some.called < length c.args.books.now = omega arith in
    let at : slice_get c.args.books.now c.in-Some.called ≡ Some theirs = slice_get_read c.args.books.now (length c.args.books.now) c.in-Some.called theirs refl lt c.index-books-at.is in
    k19_else c.args.books.now c.args.book.now 0 c.args.step.now c.in-Some.called theirs (sym c.requires.reads.called ∙ c.in-Some.is) at c.args.number c.has_version.result c.has_version.ensures c.if-not-has_version.true

pub returns : goal.returns
returns c =
    let theirs = c.index-books-at.result in
    let lt : c.in-Some.called < length c.args.books.now = omega arith in
    let in_leads : c.in-Some.called < length c.args.leads.now = omega (arith, c.requires.leads.len) in
    let at : slice_get c.args.books.now c.in-Some.called ≡ Some theirs = slice_get_read c.args.books.now (length c.args.books.now) c.in-Some.called theirs refl lt c.index-books-at.is in
    k19_then c.args.books.now c.args.book.now 0 c.args.step.now c.in-Some.called theirs (sym c.requires.reads.called ∙ c.in-Some.is) at c.args.number c.has_version.result _ c.has_version.ensures c.if-not-has_version.false
    (not_iff c.has.result (LeadsTo c.args.books.now c.in-Some.called c.args.number) (marked_iff c.args.leads.now c.in-Some.called c.args.number c.index-leads-at.result c.has.result (LeadsTo c.args.books.now c.in-Some.called c.args.number) in_leads c.index-leads-at.is c.has.ensures (c.requires.leads.each c.in-Some.called lt c.args.number)))
