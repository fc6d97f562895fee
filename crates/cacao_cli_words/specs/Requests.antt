-- Promise: What the words of the command line ask for: one case and one row a command.
use Rattle.std.specs.Prelude.{ℕ, nat_le, ◌==◌, Bool, true, not, ◌&&◌, List, [], ◌∷◌, length, Option, Some, None, option_map, option_and_then, find, codes, if◌then◌else◌}
use Rattle.std.specs.List.{list_any}
use Rattle.std.specs.Str.{bytes_eq}
use Rattle.base_decimals.specs.Numbers.{number}
use Rattle.cacao_cli_words.specs.Words.{Text, Reading, read, value_in}

-- what `run` and `pair` ask for
pub record RunRequest : Type 0 where
  pub run : ℕ
  pub most : ℕ  -- the most records of this session
  pub bind : Option Text
  pub answers : Option Text
  pub books : List Text

-- what the program is asked to do
pub data Request : Type 0 where
  canonises : (book : Text) → Request
  checks : (books : List Text) → Request
  runs : (wanted : RunRequest) → Request
  shows : Request
  lists_rules : (agent : ℕ) → Request
  decides : (agent : ℕ) (packets : Text) → Request
  rehearses : (positions : ℕ) → Request
  shadows : (agent : ℕ) → Request
  audits : (engine : Text) (filters : List (ℕ × Text)) → Request

-- what it is asked to do with a peer: to go on with a run whose filters stand in another process, or to be that process
pub data PeerRequest : Type 0 where
  pairs : (wanted : RunRequest) → PeerRequest
  serves : PeerRequest

-- what `fleet` asks for: runs side by side, each with its number and the name of its playbook
pub record FleetRequest : Type 0 where
  pub runs : List (ℕ × Text)
  pub most : ℕ  -- the most records of all runs together

-- a number from low to most, in decimal without a sign and without a leading zero
abbrev pub at_least : ℕ → ℕ → Option ℕ
at_least low n = if nat_le low n then Some n else None

abbrev pub number_from : ℕ → ℕ → Text → Option ℕ
number_from low most text = option_and_then (at_least low) (number most text)

abbrev pub run_number : Text → Option ℕ
run_number = number_from 1 9_007_199_254_740_991

abbrev pub agent_number : Text → Option ℕ
agent_number = number_from 1 16

abbrev pub positions_number : Text → Option ℕ
positions_number = number_from 1 1_000

-- the records of a session, 1,000,000,000 where nothing is said of them
abbrev pub most_records : Option Text → Option ℕ
most_records None = Some 1_000_000_000
most_records (Some text) = number_from 1 1_000_000_000 text

-- one name
abbrev pub canon_asks : List Text → Option Request
canon_asks [] = None
canon_asks (book ∷ []) = Some (canonises book)
canon_asks (book ∷ other ∷ names) = None

-- one name or more
abbrev pub check_asks : List Text → Option Request
check_asks [] = None
check_asks (book ∷ books) = Some (checks (book ∷ books))

-- the same, with `--run`, and with `--steps`, `--bind` and `--answers` or without
abbrev pub run_of : Option Text → Option Text → ℕ → List Text → ℕ → Option RunRequest
run_of bind answers run books most =
    Some (record { run = run; most = most; bind = bind; answers = answers; books = books })

abbrev pub run_from : Option Text → Option Text → Option Text → Option Text → List Text → Option RunRequest
run_from run steps bind answers [] = None
run_from run steps bind answers (book ∷ books) =
    option_and_then (λ n. option_and_then (run_of bind answers n (book ∷ books)) (most_records steps))
    (option_and_then run_number run)

abbrev pub run_wanted : Reading → Option RunRequest
run_wanted r = run_from (value_in (codes "run") r.options) (value_in (codes "steps") r.options)
    (value_in (codes "bind") r.options) (value_in (codes "answers") r.options) r.names

-- no name
abbrev pub show_asks : List Text → Option Request
show_asks [] = Some shows
show_asks (name ∷ names) = None

-- one name, which is a number
abbrev pub number_asks : (Text → Option ℕ) → (ℕ → Request) → List Text → Option Request
number_asks read asks [] = None
number_asks read asks (name ∷ []) = option_map asks (read name)
number_asks read asks (name ∷ other ∷ names) = None

-- the number of an agent, and one name
abbrev pub decide_asks : List Text → Option Request
decide_asks [] = None
decide_asks (agent ∷ []) = None
decide_asks (agent ∷ packets ∷ []) = option_map (λ n. decides n packets) (agent_number agent)
decide_asks (agent ∷ packets ∷ other ∷ names) = None

-- numbers, each with a name behind it
abbrev pub pairs_of : (Text → Option ℕ) → List Text → Option (List (ℕ × Text))
pairs_of read [] = Some []
pairs_of read (number ∷ []) = None
pairs_of read (number ∷ name ∷ names) =
    option_and_then (λ n. option_map (λ more. (n, name) ∷ more) (pairs_of read names)) (read number)

abbrev pub has_number : ℕ → List (ℕ × Text) → Bool
has_number n = list_any (λ pair. pair.0 == n)

-- no number stands twice
abbrev pub are_apart : List (ℕ × Text) → Bool
are_apart [] = true
are_apart (pair ∷ behind) = not (has_number pair.0 behind) && are_apart behind

abbrev pub if_apart : List (ℕ × Text) → Option (List (ℕ × Text))
if_apart all = if are_apart all then Some all else None

-- one name, and the files of agents, each agent at most once
abbrev pub audit_asks : List Text → Option Request
audit_asks [] = None
audit_asks (engine ∷ names) = option_map (audits engine) (option_and_then if_apart (pairs_of agent_number names))

-- a command: its name, its options, and what a reading of its words asks for
pub record Command (A : Type 0) : Type 0 where
  pub name : Text
  pub options : List Text
  pub asks : Reading → Option A

abbrev pub command : {A : Type 0} → Text → List Text → (Reading → Option A) → Command A
command name options asks = record { name = name; options = options; asks = asks }

abbrev pub run_options : List Text
run_options = codes "run" ∷ codes "steps" ∷ codes "bind" ∷ codes "answers" ∷ []

abbrev pub commands : List (Command Request)
commands =
    command (codes "canon") [] (λ r. canon_asks r.names)
    ∷ command (codes "check") [] (λ r. check_asks r.names)
    ∷ command (codes "run") run_options (λ r. option_map runs (run_wanted r))
    ∷ command (codes "show") [] (λ r. show_asks r.names)
    ∷ command (codes "rules") [] (λ r. number_asks agent_number lists_rules r.names)
    ∷ command (codes "decide") [] (λ r. decide_asks r.names)
    ∷ command (codes "rehearse") [] (λ r. number_asks positions_number rehearses r.names)
    ∷ command (codes "shadow") [] (λ r. number_asks agent_number shadows r.names)
    ∷ command (codes "audit") [] (λ r. audit_asks r.names)
    ∷ []

-- `pair` has the words of `run`, and `filters` no further ones
abbrev pub serve_asks : List Text → Option PeerRequest
serve_asks [] = Some serves
serve_asks (name ∷ names) = None

abbrev pub peer_commands : List (Command PeerRequest)
peer_commands =
    command (codes "pair") run_options (λ r. option_map pairs (run_wanted r))
    ∷ command (codes "filters") [] (λ r. serve_asks r.names)
    ∷ []

abbrev pub request_of : {A : Type 0} → List Text → Command A → Option A
request_of words c = option_and_then c.asks (read c.options words)

-- the first word names the command
abbrev pub request_in : {A : Type 0} → List (Command A) → List Text → Option A
request_in commands [] = None
request_in commands (first ∷ words) = option_and_then (request_of words) (find (λ c. bytes_eq first c.name) commands)

abbrev pub request : List Text → Option Request
request = request_in commands

abbrev pub peer_request : List Text → Option PeerRequest
peer_request = request_in peer_commands

-- 1 to 16 of them
abbrev pub if_fleet : List (ℕ × Text) → Option (List (ℕ × Text))
if_fleet [] = None
if_fleet (pair ∷ behind) = if nat_le (length (pair ∷ behind)) 16 then Some (pair ∷ behind) else None

abbrev pub fleet_of : ℕ → List (ℕ × Text) → FleetRequest
fleet_of most all = record { runs = all; most = most }

-- 1 to 16 numbers of runs, each with a name behind it, and no number twice; with `--steps` or without
abbrev pub fleet_runs : List Text → Option (List (ℕ × Text))
fleet_runs names = option_and_then if_apart (option_and_then if_fleet (pairs_of run_number names))

abbrev pub fleet_from : Option Text → List Text → Option FleetRequest
fleet_from steps names = option_and_then (λ most. option_map (fleet_of most) (fleet_runs names)) (most_records steps)

abbrev pub fleet_commands : List (Command FleetRequest)
fleet_commands = command (codes "fleet") (codes "steps" ∷ []) (λ r. fleet_from (value_in (codes "steps") r.options) r.names) ∷ []

abbrev pub fleet_request : List Text → Option FleetRequest
fleet_request = request_in fleet_commands
