-- Promise: The values of the code as those of the definitions.
use Rattle.std.specs.Prelude.{ℕ, Option, map, option_map}
use Rattle.std.specs.Borrow.{Bor}
use Rattle.cacao_cli_words.specs.Words.{Text}
use Rattle.cacao_cli_words.specs.Found.{Parts}
use Rattle.cacao_cli_words.specs.Requests.{FleetRequest, PeerRequest, Request, RunRequest, fleet_of, pairs, serves, canonises, checks, runs, shows, lists_rules, decides, rehearses, shadows, audits}
use Rattle.cacao_cli_words.specs.declared.filter_file.FilterFile.{FilterFile}
use Rattle.cacao_cli_words.specs.declared.fleet_words.FleetWords.{FleetWords}
use Rattle.cacao_cli_words.specs.RunBooks.{run_of}
use Rattle.cacao_cli_words.specs.declared.reading.Found.{Found}
use Rattle.cacao_cli_words.specs.declared.peer_words.PeerCommand.{PeerCommand}
use Rattle.cacao_cli_words.specs.declared.peer_words.PeerCommand.TheVariants.{Filters, Pair}
use Rattle.cacao_cli_words.specs.declared.run_words.RunWords.{RunWords}
use Rattle.cacao_cli_words.specs.declared.words.Command.{Command}
use Rattle.cacao_cli_words.specs.declared.words.Command.TheVariants.{Canon, Check, Run, Show, Rules, Decide, Rehearse, Shadow, Audit}

abbrev pub maybe_text : Option (Bor Text) → Option Text
maybe_text = option_map (λ text. text.now)

abbrev pub found_parts : Found → Parts
found_parts found = record { values = map maybe_text found.values.items; names = map (λ name. name.now) found.names.items }

abbrev pub run_request : RunWords → RunRequest
run_request wanted = record {
  run = wanted.run;
  most = wanted.most;
  bind = maybe_text wanted.bind;
  answers = maybe_text wanted.answers;
  books = map (λ name. name.now) wanted.books.items.items;
}

-- the number of the agent, and the name of its file
abbrev pub filter_of : FilterFile → ℕ × Text
filter_of file = (file.agent.number, file.name.now)

abbrev pub request_by : Command → Request
request_by (Canon book) = canonises book.now
request_by (Check books) = checks (map (λ name. name.now) books.items.items)
request_by (Run wanted) = runs (run_request wanted)
request_by Show = shows
request_by (Rules agent) = lists_rules agent.number
request_by (Decide agent packets) = decides agent.number packets.now
request_by (Rehearse positions) = rehearses positions.count
request_by (Shadow agent) = shadows agent.number
request_by (Audit engine filters) = audits engine.now (map filter_of filters.items)

abbrev pub peer_request_by : PeerCommand → PeerRequest
peer_request_by (Pair wanted) = pairs (run_request wanted)
peer_request_by Filters = serves

abbrev pub fleet_request_by : FleetWords → FleetRequest
fleet_request_by wanted = fleet_of wanted.most (map run_of wanted.runs.items)
