use Rattle.std.proofs.Common.{None, codes, slice_get, sym, subst, ap, ◌∙◌, map, arith}
use Rattle.std.specs.Prelude.{All}
use Rattle.serde_json.specs.Find.{get}
use Rattle.cacao_json.specs.Tree.{data_of, pair_data}
use Rattle.cacao_ids.specs.Ids.{IsId}
use Rattle.cacao_book_shape.specs.Members.{IsObject}
use Rattle.cacao_book_shape.specs.Shape.{k4}
use Rattle.cacao_book.specs.Books.{step_of}
use Rattle.cacao_book.specs.Steps.{AreSteps}
use Rattle.cacao_book_shape.proofs.ListLemmas.{fits_at, members_fit, may_have, made_more, made_all}
use Rattle.cacao_book_shape.proofs.ShapeLemmas.{read_mapped, step_shaped}
use Rattle.cacao_book.proofs.LimitLemmas.{are_steps}
use Rattle.cacao_book.proofs.step_reading.read_steps.Goals as goal

pub read_step-requires-clause-key : goal.read_step-requires-clause-key
read_step-requires-clause-key c =
    let steps = get (codes "workflow") (data_of c.args.book.now) in
    (fits_at pair_data (λ m. IsId m.0 × IsObject m.1) c.members_at-pair-items.result.now c.loop-pair.pair-index c.pair-item.result c.loop-pair-test.true c.pair-item.is
    (subst (All (λ m. IsId m.0 × IsObject m.1)) (sym c.members_at-pair-items.ensures.members)
    (members_fit (λ m. IsId m.0 × IsObject m.1) 1 4096 steps (may_have _ steps (c.requires (record { step = None; rule = k4 })).2)))).0

pub read_step-requires-clause-shaped : goal.read_step-requires-clause-shaped
read_step-requires-clause-shaped c =
    step_shaped (data_of c.args.book.now) c.loop-pair.pair-index (pair_data c.pair-item.result) c.requires
    (ap (λ l. slice_get l c.loop-pair.pair-index) (sym c.members_at-pair-items.ensures.members)
    ∙ read_mapped pair_data c.members_at-pair-items.result.now c.loop-pair.pair-index c.pair-item.result c.loop-pair-test.true c.pair-item.is)

pub loop-pair-preserved : goal.loop-pair-preserved
loop-pair-preserved c =
    made_more pair_data step_of c.members_at-pair-items.result.now c.loop-pair.pair-index c.pair-item.result c.loop-pair.steps.items c.push.new.self.items c.in_ok-read_step.field-0
    c.loop-pair-test.true c.pair-item.is c.loop-pair.invariant c.in_ok-read_step.ensures c.in_ok-push.ensures.items

pub from_vec-requires : goal.from_vec-requires
from_vec-requires c =
    subst AreSteps
    (sym (made_all pair_data step_of c.members_at-pair-items.result.now c.loop-pair.pair-index c.loop-pair.steps.items (omega arith) c.loop-pair.invariant ∙ ap (map step_of) c.members_at-pair-items.ensures.members))
    (are_steps (data_of c.args.book.now) c.requires c.members_at-pair-items.ensures.rising)
