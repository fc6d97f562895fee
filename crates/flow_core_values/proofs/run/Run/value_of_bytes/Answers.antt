use Rattle.std.proofs.Common.{◌≡◌, ℕ, List, Option, Some, sym, ◌∙◌, ap}
use Rattle.std.specs.Prelude.{option_and_then, slice_get}
use Rattle.cacao_vars.specs.Scopes.{declaration, home}
use Rattle.flow_core_rules.specs.State.{Texts, Lists, text_in}
use Rattle.flow_core_values.specs.Sights.{lists_seen, scope_seen}
use Rattle.flow_core_values.proofs.LookLemmas.{declaration_named}
use Rattle.flow_core_values.proofs.run.Run.value_of_bytes.Goals as goal

pub returns-in-Some : goal.returns-in-Some
returns-in-Some c =
    let s : Lists = lists_seen c.args.self.now c.args.sight in
    let name : List ℕ = c.args.name.now in
    let at : ℕ = c.in-Some.found.0 in
    let here : Some at ≡ home s.scopes (scope_seen c.args.self.now c.args.sight) name = c.in-Some.ensures.home in
    let is : declaration s.scopes at name ≡ Some c.in-Some.found.1.now =
    ap (λ (o : Option ℕ). option_and_then (λ (h : ℕ). declaration s.scopes h name) o) here ∙ sym c.in-Some.ensures.declaration in
    let same : (c.in-Some.found.1.now).name ≡ name = declaration_named s.scopes at name c.in-Some.found.1.now is in
    c.text_at.ensures
    ∙ ap (λ (n : List ℕ). option_and_then (λ (texts : Texts). text_in texts n) (slice_get s.texts at)) same
    ∙ ap (λ (o : Option ℕ). option_and_then (λ (k : ℕ). option_and_then (λ (texts : Texts). text_in texts name) (slice_get s.texts k)) o) here
