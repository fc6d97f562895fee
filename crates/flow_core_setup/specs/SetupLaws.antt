-- Scaffold: What holds of what is accepted.
use Rattle.std.specs.Prelude.{ℕ, List}
use Rattle.cacao_check.specs.Fits.{FitsKind}
use Rattle.flow_core_rules.specs.Givens.{Given}
use Rattle.flow_core_rules.specs.Accepted.{Accepted}
use Rattle.flow_core_rules.specs.Runnable.{IsRunnable}
use Rattle.flow_core_setup.specs.Setups.{AreAccepted}

-- what is accepted can be run
abbrev pub AcceptedIsRunnable : Type 0
AcceptedIsRunnable =
    (texts : List (List ℕ)) (bind : List ℕ) (given : Given) → Accepted AreAccepted FitsKind texts bind given → IsRunnable given

-- what is accepted is accepted again by its canonical texts, and gives the same
abbrev pub AcceptedAgain : Type 0
AcceptedAgain = (texts : List (List ℕ)) (bind : List ℕ) (given : Given) → Accepted AreAccepted FitsKind texts bind given
    → Accepted AreAccepted FitsKind given.texts given.bind given
