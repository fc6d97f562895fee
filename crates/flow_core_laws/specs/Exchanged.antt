-- Promise: Two neighbouring records of a run that stand apart may be exchanged.
use Rattle.std.specs.Prelude.{◌≡◌, ℕ, List, ◌∷◌}
use Rattle.run_records.specs.declared.record.Record.{Record}
use Rattle.flow_core_rules.specs.Givens.{Given}
use Rattle.flow_core_rules.specs.State.{State, shown}
use Rattle.flow_core_rules.specs.Changes.{moment_of}
use Rattle.flow_core_rules.specs.Runs.{Next, GoesOn, Leads}
use Rattle.flow_core_laws.specs.BothOrders.{AreOfTwoTasks, OpenApart, AreApart, MayStillCome}

-- the run goes on with the records exchanged and the same rest, and shows the same at its end
pub record GoesOnExchanged (s new : State) (one other : Record) (rest : List Record) : Type 0 where
  pub later : State
  pub goes_on : GoesOn s (other ∷ one ∷ rest) later
  pub same : shown new ≡ shown later

-- A run goes on with two records of different tasks at one moment, and then with others. The second could have come first, neither
-- reads or writes what the other writes, and they open apart. Then they may come in the other order, and all that follows too.
abbrev pub NeighboursMayBeExchanged : Type 0
NeighboursMayBeExchanged =
    (given : Given) (run : ℕ) (records rest : List Record) (s a ab b new : State) (one other : Record)
    → Leads given run records s → (x : Next s one a) → Next a other ab → GoesOn ab rest new → (y : Next s other b)
    → AreOfTwoTasks s one other → moment_of one ≡ moment_of other → OpenApart x.edits y.edits
    → AreApart s one other → MayStillCome b one → GoesOnExchanged s new one other rest
