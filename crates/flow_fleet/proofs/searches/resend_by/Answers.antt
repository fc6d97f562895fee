use Rattle.std.proofs.Common.{◌≡◌, ℕ, ◌<◌, ◌≤◌, Option, Some, None, subst}
use Rattle.std.specs.Prelude.{IfSome, MatchOption}
use Rattle.flow_engine.specs.EngineView.{EngineView}
use Rattle.flow_engine.specs.OpenIssues.{IsNextPut}
use Rattle.flow_fleet_steps.specs.Turns.{HasNoResend}
use Rattle.flow_fleet.proofs.searches.resend_by.Goals as goal

of_engine : (v : EngineView) (now : ℕ) (resend result : Option (ℕ × ℕ)) → IsNextPut v.puts resend
    → MatchOption result (IfSome resend (λ next. now < next.0)) (λ found. (resend ≡ Some (found.0, found.1)) × (found.0 ≤ now))
    → MatchOption result (HasNoResend now v) (λ found. IsNextPut v.puts (Some (found.0, found.1)) × (found.0 ≤ now))
of_engine v now resend None next later = record { resend = resend; next = next; later = later }
of_engine v now resend (Some found) next came = (subst (λ (o : Option (ℕ × ℕ)). IsNextPut v.puts o) came.0 next, came.1)

pub returns : goal.returns
returns c = of_engine c.args.engine.now c.args.now c.next_put.result c.come.result c.next_put.ensures c.come.ensures
