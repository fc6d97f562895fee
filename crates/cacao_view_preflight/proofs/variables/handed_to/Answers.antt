-- One playbook more was looked at.
use Rattle.std.proofs.Common.{[], sym, subst, take}
use Rattle.std.specs.List.{flat_map}
use Rattle.cacao_view_preflight.specs.NameSets.{HasJust}
use Rattle.cacao_view_preflight.specs.Warnings.{handed_in}
use Rattle.cacao_view_preflight.proofs.SetLemmas.{made_all, made_more}
use Rattle.cacao_view_preflight.proofs.variables.handed_to.Goals as goal

pub loop-book-init : goal.loop-book-init
loop-book-init c = c.new-names.ensures

pub loop-book-preserved : goal.loop-book-preserved
loop-book-preserved c =
    subst (HasJust c.add_handed_in.new.names) (sym (made_more (handed_in c.args.id.now) c.args.books.now c.loop-book.book-index c.book-item.result c.loop-book-test.true c.book-item.is []))
    (c.in_ok-add_handed_in.ensures (flat_map (handed_in c.args.id.now) (take c.loop-book.book-index c.args.books.now)) c.loop-book.invariant)

pub returns : goal.returns
returns c = subst (HasJust c.loop-book.names) (made_all (handed_in c.args.id.now) c.args.books.now c.loop-book.book-index [] c.loop-book-test.false) c.loop-book.invariant
