-- Scaffold: How the first entry of a run is taken.
use Rattle.std.specs.Prelude.{ℕ, List, [], ◌∷◌}
use Rattle.flow_core_rules.specs.Givens.{Given}
use Rattle.flow_core.specs.Views.{View}
use Rattle.flow_engine_reports.specs.Replaying.{IsReplayed}
use Rattle.flow_engine_reports.specs.RunFiles.{IsBegin}

-- the entry is no Begin of what is accepted
abbrev pub IsNotBegun : List ℕ → Type 0
IsNotBegun entry = (given : Given) (run : ℕ) → IsBegin entry given run → ⊥

-- the entry is the Begin of a run of what is accepted, and the flow took it
pub record HasBegun (entry : List ℕ) (flow : View) : Type 0 where
  pub begin : IsBegin entry flow.seen.given flow.seen.run
  pub replayed : IsReplayed flow.seen.given flow.seen.run (entry ∷ []) flow
