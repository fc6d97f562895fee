use Rattle.std.specs.Prelude.{List, ℕ, ◌≡◌, ◌⊎◌, codes}
use Rattle.serde_json.specs.Data.{Data}
use Rattle.cacao_json.specs.Tree.{pair_data}
use Rattle.std.proofs.Common.{refl, sym, ◌∙◌, arith}
use Rattle.std.proofs.lemmas.Bool.{false≢true}
use Rattle.cacao_book_shape.proofs.ListLemmas.{fits_more, fits_all, fits_at}
use Rattle.flow_core_setup.proofs.bindings.are_parts.Goals as goal

pub returns-then-not-is_part_member : goal.returns-then-not-is_part_member
returns-then-not-is_part_member c = (
  λ e. absurd (false≢true e),
  λ all. absurd (false≢true (sym c.if-not-is_part_member.true ∙ c.is_part_member.ensures.1 (fits_at pair_data (λ (m : List ℕ × Data). (m.0 ≡ codes "agents") ⊎ (m.0 ≡ codes "variables")) c.args.members.now c.loop-pair.pair-index c.pair-item.result c.loop-pair-test.true c.pair-item.is all))),
)

pub loop-pair-preserved : goal.loop-pair-preserved
loop-pair-preserved c = fits_more pair_data (λ (m : List ℕ × Data). (m.0 ≡ codes "agents") ⊎ (m.0 ≡ codes "variables")) c.args.members.now c.loop-pair.pair-index c.pair-item.result c.loop-pair-test.true c.pair-item.is c.loop-pair.invariant (c.is_part_member.ensures.0 c.if-not-is_part_member.false)

pub returns : goal.returns
returns c = (λ _. fits_all pair_data (λ (m : List ℕ × Data). (m.0 ≡ codes "agents") ⊎ (m.0 ≡ codes "variables")) c.args.members.now c.loop-pair.pair-index (omega arith) c.loop-pair.invariant, λ _. refl)
