-- How a look through the runs by place ends, and what a run with no record is used by.
use Rattle.std.proofs.Common.{◌≡◌, ℕ, ◌≤◌, List, [], ◌∷◌, length, refl, sym, subst, arith}
use Rattle.std.specs.Prelude.{Option, Some, None, MatchOption}
use Rattle.run_records.specs.declared.record.Record.{Record}
use Rattle.flow_core_rules.specs.Moves.{due}
use Rattle.flow_engine.specs.EngineView.{EngineView}
use Rattle.slpf_actuator.specs.ActuatorView.{ActuatorView}
use Rattle.flow_world_parts.specs.Openings.{HasRunAt, IsFirstRunAt}
use Rattle.flow_fleet_steps.specs.Turns.{IsLeastNext}
use Rattle.flow_fleet_steps.specs.Worlds.{EachRun}
use Rattle.flow_fleet.specs.Searches.{IsUnusedBy}
use Rattle.flow_fleet.proofs.Scans.{LeastBelow, all_have, least_all}

-- the least of what comes next was found, or nothing is due for any run
pub least_end : (engines : List EngineView) (n : ℕ) (found : Option ℕ) → length engines ≤ n → LeastBelow n engines found
    → MatchOption found (EachRun engines (λ place v. due v.history.seen ≡ None)) (λ moment. IsLeastNext engines moment)
least_end engines n None most lower = all_have engines (λ k v. due v.history.seen ≡ None) n most lower
least_end engines n (Some moment) most is = least_all engines n moment most is

no_records : (records : List Record) (count : ℕ) → count ≡ length records → count ≡ 0 → records ≡ []
no_records [] count many none = refl
no_records (r ∷ records) count many none = absurd (omega (arith, many, none))

pub used_by : (filters : List ActuatorView) (v : EngineView) (count run : ℕ) (found : Option ℕ) → count ≡ length v.history.records → count ≡ 0 → run ≡ v.history.seen.run
    → MatchOption found ((agent : ℕ) → 1 ≤ agent → agent ≤ 16 → HasRunAt filters run agent → ⊥) (λ agent. IsFirstRunAt filters run agent)
    → MatchOption found (IsUnusedBy filters v) (λ agent. (v.history.records ≡ []) × IsFirstRunAt filters v.history.seen.run agent)
used_by filters v count run None many none of_run first = λ empty agent low high has. first agent low high (subst (λ (r : ℕ). HasRunAt filters r agent) (sym of_run) has)
used_by filters v count run (Some agent) many none of_run first =
    (no_records v.history.records count many none, subst (λ (r : ℕ). IsFirstRunAt filters r agent) of_run first)
