use Rattle.std.proofs.Common.{Some, length, slice_get, sym, subst, ap, ◌∙◌, map, ◌≤◌}
use Rattle.cacao_json.specs.Tree.{data_of, pair_data}
use Rattle.cacao_book_shape.specs.Least.{FirstRule}
use Rattle.cacao_book_shape.specs.Shape.{shape_number, KeepsOfBook, KeepsOfStep}
use Rattle.cacao_book_shape.proofs.ShapeLemmas.{KeptTo, KeptTo-more, NamesLeast, book_is_least, step_is_least, read_mapped, no_more, all_kept}
use Rattle.cacao_book_shape.proofs.shape.test_shape.Goals as goal

pub returns-in-Some-clause-broken : goal.returns-in-Some-clause-broken
returns-in-Some-clause-broken c =
    book_is_least (data_of c.args.tree.now) c.in-Some.rule (subst (FirstRule shape_number (λ rule. KeepsOfBook rule (data_of c.args.tree.now))) c.in-Some.is c.in_ok-rule.ensures)

pub returns-in-Some-2-clause-broken : goal.returns-in-Some-2-clause-broken
returns-in-Some-2-clause-broken c =
    subst (λ key. NamesLeast (data_of c.args.tree.now) (Some key) c.in-Some-2.rule) (sym c.in_ok-key.ensures)
    (step_is_least (data_of c.args.tree.now) c.loop-pair.pair-index c.in-Some-2.rule (pair_data c.pair-item.result)
    (ap (λ l. slice_get l c.loop-pair.pair-index) (sym c.members_at-pair-items.ensures.members)
    ∙ read_mapped pair_data c.members_at-pair-items.result.now c.loop-pair.pair-index c.pair-item.result c.loop-pair-test.true c.pair-item.is)
    (subst (FirstRule shape_number (λ rule. KeepsOfBook rule (data_of c.args.tree.now))) c.in_default.is c.in_ok-rule.ensures)
    (subst (λ steps. KeptTo steps c.loop-pair.pair-index) c.members_at-pair-items.ensures.members c.loop-pair.invariant)
    (subst (FirstRule shape_number (λ rule. KeepsOfStep rule (pair_data c.pair-item.result).1)) c.in-Some-2.is c.in_ok-rule-2.ensures))

pub loop-pair-preserved : goal.loop-pair-preserved
loop-pair-preserved c =
    KeptTo-more (map pair_data c.members_at-pair-items.result.now) c.loop-pair.pair-index (pair_data c.pair-item.result)
    (read_mapped pair_data c.members_at-pair-items.result.now c.loop-pair.pair-index c.pair-item.result c.loop-pair-test.true c.pair-item.is)
    c.loop-pair.invariant
    (subst (FirstRule shape_number (λ rule. KeepsOfStep rule (pair_data c.pair-item.result).1)) c.in_default-2.is c.in_ok-rule-2.ensures)

pub returns-clause-shaped : goal.returns-clause-shaped
returns-clause-shaped c =
    all_kept (data_of c.args.tree.now) c.loop-pair.pair-index
    (subst (λ steps. length steps ≤ c.loop-pair.pair-index) c.members_at-pair-items.ensures.members
    (no_more pair_data c.members_at-pair-items.result.now c.loop-pair.pair-index c.loop-pair-test.false))
    (subst (FirstRule shape_number (λ rule. KeepsOfBook rule (data_of c.args.tree.now))) c.in_default.is c.in_ok-rule.ensures)
    (subst (λ steps. KeptTo steps c.loop-pair.pair-index) c.members_at-pair-items.ensures.members c.loop-pair.invariant)
