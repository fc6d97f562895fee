-- Promise: How runs that share a link are told apart: by their numbers, before their lines and in their commands.
use Rattle.std.specs.Prelude.{ℕ, ◌==◌, List, [], ◌∷◌, ◌++◌, unwrap_or}
use Rattle.std.specs.Fmt.{decimal}
use Rattle.flow_laws.specs.Held.{Speech}

-- a run's number, and a space
abbrev pub head_of : ℕ → List ℕ
head_of run = decimal run ++ 32 ∷ []

-- The run with this number speaks behind the number of its journal's run, and behind its own where that is empty; its own commands
-- are those of its number.
abbrev pub numbered : ℕ → Speech
numbered run = record { head = λ held. head_of (unwrap_or held run); is_own = λ number. number == run }

-- the same, with nothing before its lines
abbrev pub bare : ℕ → Speech
bare run = record { head = λ held. []; is_own = λ number. number == run }

-- whether the lines of runs have their numbers before them
pub data Form : Type 0 where
  without_numbers : Form
  with_numbers : Form

abbrev pub spoken : Form → ℕ → Speech
spoken without_numbers run = bare run
spoken with_numbers run = numbered run

-- how many runs at most may speak so side by side
abbrev pub most_runs : Form → ℕ
most_runs without_numbers = 1
most_runs with_numbers = 16
