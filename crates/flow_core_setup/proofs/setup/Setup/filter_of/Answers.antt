use Rattle.std.proofs.Common.{◌≤◌, ◌∙◌, sym, ap, ℕ, List}
use Rattle.std.specs.Prelude.{find}
use Rattle.std.specs.Str.{bytes_eq}
use Rattle.flow_core_setup.proofs.SetupParts.{found_fits}
use Rattle.flow_core_setup.proofs.setup.Setup.filter_of.Goals as goal

pub returns-in-Some-clause-least : goal.returns-in-Some-clause-least
returns-in-Some-clause-least c =
    (found_fits (λ (entry : List ℕ × ℕ). (1 ≤ entry.1) × (entry.1 ≤ 16)) (λ entry. bytes_eq entry.0 c.text.result.now) c.self.inside.agents.items c.in-Some.bound.now c.self.invariant.0.runnable.filters
    (ap (find (λ (entry : List ℕ × ℕ). bytes_eq entry.0 c.text.result.now)) (sym c.as_slice.ensures.value) ∙ sym c.in-Some.ensures)).0

pub returns-in-Some-clause-most : goal.returns-in-Some-clause-most
returns-in-Some-clause-most c =
    (found_fits (λ (entry : List ℕ × ℕ). (1 ≤ entry.1) × (entry.1 ≤ 16)) (λ entry. bytes_eq entry.0 c.text.result.now) c.self.inside.agents.items c.in-Some.bound.now c.self.invariant.0.runnable.filters
    (ap (find (λ (entry : List ℕ × ℕ). bytes_eq entry.0 c.text.result.now)) (sym c.as_slice.ensures.value) ∙ sym c.in-Some.ensures)).1
