-- Promise: Which command may answer which status.
use Rattle.std.specs.Prelude.{ℕ, List, [], ◌∷◌, Option, Some, None}
use Rattle.cacao_cli_ends.specs.Asked.{Asked, canonises, checks, runs, shows, lists_rules, decides, shadows, rehearses, audits}
use Rattle.cacao_cli_ends.specs.Comes.{IsOneOf}

-- of a command that opens the file of a filter, and reads none of the words
abbrev pub filter_statuses : List ℕ
filter_statuses = 0 ∷ 8 ∷ 9 ∷ 10 ∷ 13 ∷ []

-- The files of the site on which a rehearsal runs are blank: there is no other run, no number that was used, and no damage. They
-- have no room for as many records as its budget, its clock reaches each moment, and no command of its playbook is for operators:
-- it neither pauses nor waits. Nothing fails on that site until it is used up, which is answered as want of memory; so 9 is of its
-- last line alone.
abbrev pub rehearsal_statuses : List ℕ
rehearsal_statuses = 0 ∷ 1 ∷ 6 ∷ 9 ∷ 10 ∷ 11 ∷ []

-- all that it may answer, for each command
abbrev pub statuses_of : Option Asked → List ℕ
statuses_of None = 2 ∷ 9 ∷ 10 ∷ []
statuses_of (Some (canonises book)) = 0 ∷ 3 ∷ 4 ∷ 5 ∷ 9 ∷ 10 ∷ 11 ∷ []
statuses_of (Some (checks books)) = 0 ∷ 1 ∷ 3 ∷ 4 ∷ 5 ∷ 9 ∷ 10 ∷ 11 ∷ []
statuses_of (Some (runs wanted)) =
    0 ∷ 1 ∷ 3 ∷ 4 ∷ 5 ∷ 6 ∷ 7 ∷ 8 ∷ 9 ∷ 10 ∷ 11 ∷ 12 ∷ 13 ∷ 14 ∷ 15 ∷ 16 ∷ []
statuses_of (Some shows) = 0 ∷ 8 ∷ 9 ∷ 10 ∷ 11 ∷ 13 ∷ []
statuses_of (Some (lists_rules agent)) = filter_statuses
statuses_of (Some (decides agent packets)) = 0 ∷ 3 ∷ 4 ∷ 5 ∷ 8 ∷ 9 ∷ 10 ∷ 11 ∷ 13 ∷ []
statuses_of (Some (shadows agent)) = filter_statuses
statuses_of (Some (rehearses positions)) = rehearsal_statuses
statuses_of (Some (audits engine filters)) = 0 ∷ 3 ∷ 4 ∷ 9 ∷ 10 ∷ 11 ∷ 18 ∷ []

abbrev pub IsOwnStatus : Option Asked → ℕ → Type 0
IsOwnStatus asked answer = IsOneOf answer (statuses_of asked)
