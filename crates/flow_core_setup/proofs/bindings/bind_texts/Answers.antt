use Rattle.std.specs.Prelude.{List, ℕ}
use Rattle.serde_json.specs.Data.{Data}
use Rattle.cacao_json.specs.Tree.{pair_data}
use Rattle.cacao_vars.specs.Names.{IsName}
use Rattle.cacao_book_shape.specs.Members.{TextFits, IsShort}
use Rattle.std.proofs.Common.{refl, sym, ◌∙◌, arith}
use Rattle.std.proofs.lemmas.Bool.{false≢true}
use Rattle.cacao_book_shape.proofs.ListLemmas.{fits_more, fits_all, fits_at}
use Rattle.flow_core_setup.proofs.bindings.bind_texts.Goals as goal

pub returns-then-not-binds_text : goal.returns-then-not-binds_text
returns-then-not-binds_text c = (
  λ e. absurd (false≢true e),
  λ all. absurd (false≢true (sym c.if-not-binds_text.true ∙ c.binds_text.ensures.1 (fits_at pair_data (λ (m : List ℕ × Data). IsName m.0 × TextFits (IsShort 4096) m.1) c.args.members.now c.loop-pair.pair-index c.pair-item.result c.loop-pair-test.true c.pair-item.is all))),
)

pub loop-pair-preserved : goal.loop-pair-preserved
loop-pair-preserved c = fits_more pair_data (λ (m : List ℕ × Data). IsName m.0 × TextFits (IsShort 4096) m.1) c.args.members.now c.loop-pair.pair-index c.pair-item.result c.loop-pair-test.true c.pair-item.is c.loop-pair.invariant (c.binds_text.ensures.0 c.if-not-binds_text.false)

pub returns : goal.returns
returns c = (λ _. fits_all pair_data (λ (m : List ℕ × Data). IsName m.0 × TextFits (IsShort 4096) m.1) c.args.members.now c.loop-pair.pair-index (omega arith) c.loop-pair.invariant, λ _. refl)
