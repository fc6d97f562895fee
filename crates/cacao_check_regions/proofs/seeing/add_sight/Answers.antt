use Rattle.std.proofs.Common.{List, Contains, option_copied, subst, sym, ◌∙◌}
use Rattle.std.proofs.lemmas.Bool.{false≢true}
use Rattle.cacao_check_regions.specs.declared.seen.Sight.{Sight}
use Rattle.cacao_check_regions.specs.Seeing.{sight_of}
use Rattle.cacao_check_regions.proofs.SightLists.{sights_more, once_more}
use Rattle.cacao_check_regions.proofs.seeing.add_sight.Goals as goal

pub returns-clause-items : goal.returns-clause-items
returns-clause-items c sight = rw (c.in_ok-push.ensures.items, c.in_ok-make_sight.ensures) (sights_more c.args.items.now.items (sight_of (option_copied c.args.found)) sight)

pub returns-clause-once : goal.returns-clause-once
returns-clause-once c =
    rw (c.in_ok-push.ensures.items, c.in_ok-make_sight.ensures)
    (once_more c.args.items.now.items (sight_of (option_copied c.args.found))
    (λ there. false≢true (sym c.if-has_sight.false ∙ c.has_sight.ensures.1 (subst (λ (v : List Sight). Contains v (sight_of (option_copied c.args.found))) (sym c.deref.ensures.value) there))))
