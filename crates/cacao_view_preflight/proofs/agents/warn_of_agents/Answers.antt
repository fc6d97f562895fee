-- One playbook more was told.
use Rattle.std.proofs.Common.{◌++◌, sym, subst, refl, List, [], take}
use Rattle.cacao_book.specs.declared.books.Book.{Book}
use Rattle.cacao_view_preflight.specs.NameSets.{HasJust}
use Rattle.cacao_view_preflight.specs.Warnings.{Text, all_agents, each, of_agents}
use Rattle.cacao_view_preflight.proofs.EachLemmas.{each_all, each_next}
use Rattle.cacao_view_preflight.proofs.SetLemmas.{made_all, made_more}
use Rattle.cacao_view_preflight.proofs.agents.warn_of_agents.Goals as goal

abbrev agents : Book → List Text
agents book = book.agents

pub loop-n-init : goal.loop-n-init
loop-n-init c = (c.requires, λ all just. refl)

pub loop-n-preserved : goal.loop-n-preserved
loop-n-preserved c = (
  subst (HasJust c.add_book.new.met) (sym (made_more agents c.args.books.now c.loop-n.n c.index-books-n.result c.loop-n-test.true c.index-books-n.is [])) (c.in_ok-add_book.ensures.met (all_agents (take c.loop-n.n c.args.books.now)) c.loop-n.invariant.0),
  λ all just.
      each_next (of_agents all c.args.books.now) c.args.books.now c.loop-n.n c.index-books-n.result c.loop-n.lines c.add_book.new.lines (c.args.lines.now ++ each (of_agents all c.args.books.now) 0 c.args.books.now)
      c.loop-n-test.true c.index-books-n.is (c.in_ok-add_book.ensures.lines all (all_agents (take c.loop-n.n c.args.books.now)) just c.loop-n.invariant.0) (c.loop-n.invariant.1 all just),
)

pub returns-clause-lines : goal.returns-clause-lines
returns-clause-lines c = λ all just.
    each_all (of_agents all c.args.books.now) c.args.books.now c.loop-n.n c.loop-n.lines (c.args.lines.now ++ each (of_agents all c.args.books.now) 0 c.args.books.now) c.loop-n-test.false (c.loop-n.invariant.1 all just)

pub returns-clause-met : goal.returns-clause-met
returns-clause-met c = subst (HasJust c.loop-n.met) (made_all agents c.args.books.now c.loop-n.n [] c.loop-n-test.false) c.loop-n.invariant.0
