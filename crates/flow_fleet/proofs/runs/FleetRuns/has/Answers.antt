use Rattle.std.proofs.Common.{◌≡◌, ◌↔◌, ◌∙◌, subst}
use Rattle.std.specs.Prelude.{Any, IsTrue}
use Rattle.flow_fleet_steps.specs.Openings.{Runs}
use Rattle.flow_fleet.proofs.RunsLemmas.{among_iff}
use Rattle.flow_fleet.proofs.runs.FleetRuns.has.Goals as goal

pub returns : goal.returns
returns c =
    among_iff c.is_among.result c.args.self.now c.args.run
    (subst (λ (l : Runs). IsTrue c.is_among.result ↔ Any (λ one. one.0 ≡ c.args.run) l) (c.as_slice.ensures.value ∙ c.self.view_is) c.is_among.ensures)
