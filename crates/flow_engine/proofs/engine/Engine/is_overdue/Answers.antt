use Rattle.std.proofs.Common.{◌≡◌, ℕ, false, Option, Some, IsSome, sym, subst, ap, ◌∙◌}
use Rattle.std.specs.Prelude.{nat_le, slice_get, option_map}
use Rattle.std.specs.Option.{option_map_or}
use Rattle.base_dues.specs.Pairs.{is_by}
use Rattle.flow_core_rules.specs.Changes.{is_waiting}
use Rattle.flow_core_rules.specs.Moves.{deadline_of}
use Rattle.flow_core_rules.specs.State.{Shown}
use Rattle.flow_core_rules.specs.declared.issues.Issue.{Issue}
use Rattle.flow_core_rules.proofs.RunLemmas.{some_inner}
use Rattle.flow_engine_history.proofs.HistoryLemmas.{get_within}
use Rattle.flow_engine.specs.EngineView.{EngineView}
use Rattle.flow_engine.specs.OpenIssues.{OpenIssues, puts_of, ArePut, IsPut}
use Rattle.flow_engine.specs.declared.puts.Puts.{Puts}
use Rattle.flow_engine.proofs.OverdueLemmas.{deadline_some, put_of}
use Rattle.flow_engine.proofs.engine.Engine.is_overdue.Goals as goal

abbrev Found : EngineView → ℕ → Type 0
Found v n = (puts : Puts) × (puts_of v.puts n ≡ Some puts) × IsPut v.history.seen (n, puts)

put : (v : EngineView) (issues : OpenIssues) (n : ℕ) (o : Option Puts) → ArePut v.history.seen v.puts → issues ≡ v.puts → o ≡ puts_of issues n → IsSome o → Found v n
put v issues n o are same is some =
    put_of v.history.seen v.puts n are (subst (λ list. IsSome (puts_of list n)) same (subst (λ (p : Option Puts). IsSome p) is some))

there : (v : EngineView) (s : Shown) (n : ℕ) → s ≡ v.history.seen → (p : Found v n) → slice_get s.lists.issues n ≡ Some (p.2).issue
there v s n same p = ap (λ (t : Shown). slice_get t.lists.issues n) same ∙ (p.2).there

pub deadline-requires-clause-exists : goal.deadline-requires-clause-exists
deadline-requires-clause-exists c =
    let v = c.args.self.now in
    let p = put v c.self.inside.puts c.args.issue c.get.result c.law.ensures.put (ap (λ (w : EngineView). w.puts) c.self.view_is) c.get.ensures.puts c.if-is_none.ensures in
    get_within c.flow.result.now.seen.lists.issues c.args.issue (p.2).issue (there v c.flow.result.now.seen c.args.issue c.flow.ensures.seen p)

pub deadline-requires-clause-waits : goal.deadline-requires-clause-waits
deadline-requires-clause-waits c =
    let v = c.args.self.now in
    let p = put v c.self.inside.puts c.args.issue c.get.result c.law.ensures.put (ap (λ (w : EngineView). w.puts) c.self.view_is) c.get.ensures.puts c.if-is_none.ensures in
    ap (λ (o : Option Issue). option_map_or (λ (one : Issue). is_waiting one.phase) o false) (there v c.flow.result.now.seen c.args.issue c.flow.ensures.seen p) ∙ (p.2).waits

pub deadline-requires-clause-filter : goal.deadline-requires-clause-filter
deadline-requires-clause-filter c = λ none.
    let v = c.args.self.now in
    let p = put v c.self.inside.puts c.args.issue c.get.result c.law.ensures.put (ap (λ (w : EngineView). w.puts) c.self.view_is) c.get.ensures.puts c.if-is_none.ensures in
    let here = there v c.flow.result.now.seen c.args.issue c.flow.ensures.seen p in
    (p.2).of_filter (some_inner (p.2).issue.agent 0 (sym (ap (λ (o : Option Issue). option_map (λ (one : Issue). one.agent) o) here) ∙ none))

pub returns : goal.returns
returns c =
    let v = c.args.self.now in
    let p = put v c.self.inside.puts c.args.issue c.get.result c.law.ensures.put (ap (λ (w : EngineView). w.puts) c.self.view_is) c.get.ensures.puts c.if-is_none.ensures in
    let here = there v c.flow.result.now.seen c.args.issue c.flow.ensures.seen p in
    ap (λ m. nat_le m c.args.moment) (c.deadline.ensures (p.2).issue here ∙ ap (λ (s : Shown). deadline_of s (p.2).issue) c.flow.ensures.seen)
    ∙ sym (ap (is_by c.args.moment) (deadline_some v c.args.issue p.0 p.1 p.2))
