-- The condition of a step, and its truth by what its names are worth.
use Rattle.std.proofs.Common.{◌≡◌, ℕ, Option, Some, ◌∙◌, ap}
use Rattle.std.specs.Prelude.{option_and_then}
use Rattle.cacao_cond.specs.Trees.{AnyTree}
use Rattle.cacao_cond.specs.Truth.{holds_by}
use Rattle.cacao_cond.proofs.TruthLemmas.{holds_listed}
use Rattle.cacao_book.specs.declared.steps.Step.{Step}
use Rattle.flow_core_rules.specs.Givens.{Given, step_at}
use Rattle.flow_core_rules.specs.State.{Lists}
use Rattle.flow_core_rules.specs.Values.{worth_at}
use Rattle.flow_core_tables.specs.Setups.{condition_at}
use Rattle.flow_core_values.specs.Truths.{holds_in, condition_in}

pub condition_here : (given : Given) (book step : ℕ) (s : Step) (t : AnyTree) → step_at given book step ≡ Some s → Some t ≡ condition_at given book step → Some t ≡ condition_in s.kind
condition_here given book step s t e h = h ∙ ap (λ (o : Option Step). option_and_then (λ (x : Step). condition_in x.kind) o) e

pub holds_here : (s : Lists) (scope : ℕ) (t : AnyTree) (o : Option AnyTree) → Some t ≡ o → holds_by t (worth_at s scope) ≡ holds_in s scope o
holds_here s scope t o e = holds_listed (worth_at s scope) t ∙ ap (holds_in s scope) e
