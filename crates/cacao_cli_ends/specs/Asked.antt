-- Promise: What the program is asked to do: one case and one row a command that is built.
use Rattle.std.specs.Prelude.{ℕ, List, Option, Some, option_and_then}
use Rattle.cacao_cli_words.specs.Words.{Text}
use Rattle.cacao_cli_words.specs.Requests.{Request, RunRequest, request}
use Rattle.cacao_cli_words.specs.Requests as words

-- what the program is asked to do
pub data Asked : Type 0 where
  canonises : (book : Text) → Asked
  checks : (books : List Text) → Asked
  runs : (wanted : RunRequest) → Asked
  shows : Asked
  lists_rules : (agent : ℕ) → Asked
  decides : (agent : ℕ) (packets : Text) → Asked
  shadows : (agent : ℕ) → Asked
  rehearses : (positions : ℕ) → Asked
  audits : (engine : Text) (filters : List (ℕ × Text)) → Asked

-- a request that the program does; each is built
abbrev pub built : Request → Option Asked
built (words.canonises book) = Some (canonises book)
built (words.checks books) = Some (checks books)
built (words.runs wanted) = Some (runs wanted)
built words.shows = Some shows
built (words.lists_rules agent) = Some (lists_rules agent)
built (words.decides agent packets) = Some (decides agent packets)
built (words.rehearses positions) = Some (rehearses positions)
built (words.shadows agent) = Some (shadows agent)
built (words.audits engine filters) = Some (audits engine filters)

abbrev pub asked : List Text → Option Asked
asked words = option_and_then built (request words)
