use Rattle.std.proofs.Common.{ℕ, List, sym, ◌∙◌}
use Rattle.std.proofs.lemmas.Bool.{false≢true}
use Rattle.cacao_check_regions.specs.declared.flaws.Flaw.TheVariants as flaw
use Rattle.cacao_check_regions.specs.Flaws.{SeesFlaw}
use Rattle.cacao_check.proofs.RuleLemmas.{all_more, all_done, fails_at}
use Rattle.cacao_check.proofs.sight_rules.none_missing.Goals as goal

pub returns-then-sees-clause-keeps : goal.returns-then-sees-clause-keeps
returns-then-sees-clause-keeps c =
    fails_at (λ (name : List ℕ). ¬ SeesFlaw c.args.book.now name flaw.Missing c.args.place) c.args.names.now c.loop-name.name-index c.name-item.result c.loop-name-test.true c.name-item.is (λ free. free (c.in_ok-sees.ensures.sees.0 c.if-sees.true))

pub loop-name-preserved : goal.loop-name-preserved
loop-name-preserved c = (
  all_more (λ (name : List ℕ). ¬ SeesFlaw c.args.book.now name flaw.Missing c.args.place) c.args.names.now c.loop-name.name-index c.name-item.result c.loop-name-test.true c.name-item.is (λ found. false≢true (sym c.if-sees.false ∙ c.in_ok-sees.ensures.sees.1 found)) c.loop-name.invariant.0,
  c.in_ok-sees.ensures.memory,
)

pub returns-clause-keeps : goal.returns-clause-keeps
returns-clause-keeps c = all_done (λ (name : List ℕ). ¬ SeesFlaw c.args.book.now name flaw.Missing c.args.place) c.args.names.now c.loop-name.name-index c.loop-name-test.false c.loop-name.invariant.0
