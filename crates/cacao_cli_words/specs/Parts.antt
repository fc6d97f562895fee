-- Scaffold: The same, as it is read: by the first word, and by the values of the options of `run`.
use Rattle.std.specs.Prelude.{List, [], ◌∷◌, Option, None, codes, if◌then◌else◌}
use Rattle.std.specs.Str.{bytes_eq}
use Rattle.cacao_cli_words.specs.Words.{Text}
use Rattle.cacao_cli_words.specs.Found.{Parts}
use Rattle.cacao_cli_words.specs.Requests.{FleetRequest, Request, RunRequest, fleet_from, lists_rules, rehearses, shadows, agent_number, positions_number, canon_asks, check_asks, show_asks, decide_asks, number_asks, audit_asks, run_from}

-- what the commands without options, but for `audit`, `canon` and `check`, ask for with these names
abbrev pub other_asks : Text → List Text → Option Request
other_asks first names =
    if bytes_eq first (codes "show") then show_asks names
    else (if bytes_eq first (codes "rules") then number_asks agent_number lists_rules names
    else (if bytes_eq first (codes "decide") then decide_asks names
    else (if bytes_eq first (codes "rehearse") then number_asks positions_number rehearses names
    else (if bytes_eq first (codes "shadow") then number_asks agent_number shadows names else None))))

-- and with `canon` and `check`
abbrev pub plain_asks : Text → List Text → Option Request
plain_asks first names =
    if bytes_eq first (codes "canon") then canon_asks names
    else (if bytes_eq first (codes "check") then check_asks names else other_asks first names)

-- and with `audit`
abbrev pub names_asks : Text → List Text → Option Request
names_asks first names = if bytes_eq first (codes "audit") then audit_asks names else plain_asks first names

-- what `run` and `pair` ask for with the values of their four options and these names
abbrev pub run_by_values : List (Option Text) → List Text → Option RunRequest
run_by_values [] names = None
run_by_values (run ∷ []) names = None
run_by_values (run ∷ steps ∷ []) names = None
run_by_values (run ∷ steps ∷ bind ∷ []) names = None
run_by_values (run ∷ steps ∷ bind ∷ answers ∷ []) names = run_from run steps bind answers names
run_by_values (run ∷ steps ∷ bind ∷ answers ∷ other ∷ values) names = None

abbrev pub run_by : Parts → Option RunRequest
run_by parts = run_by_values parts.values parts.names

-- what `fleet` asks for with the value of its option and these names
abbrev pub fleet_by_values : List (Option Text) → List Text → Option FleetRequest
fleet_by_values [] names = None
fleet_by_values (steps ∷ []) names = fleet_from steps names
fleet_by_values (steps ∷ other ∷ values) names = None

abbrev pub fleet_by : Parts → Option FleetRequest
fleet_by parts = fleet_by_values parts.values parts.names
