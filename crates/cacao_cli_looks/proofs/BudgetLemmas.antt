-- The words of `run` give a budget of one record at least.
use Rattle.std.proofs.Common.{◌≡◌, refl, subst, arith, ℕ, ◌≤◌, Bool, true, false, cond, List, [], ◌∷◌, Option, Some, None}
use Rattle.std.specs.Prelude.{IfSome, find, nat_le, option_and_then, option_map}
use Rattle.std.specs.List.{AllByRecursion}
use Rattle.std.specs.Str.{bytes_eq}
use Rattle.std.proofs.lemmas.Option.{none-some}
use Rattle.base_decimals.specs.Numbers.{number}
use Rattle.flow_core_rules.proofs.HereLemmas.{some_option}
use Rattle.cacao_cli_words.specs.Words.{Text, Reading, read}
use Rattle.cacao_cli_words.specs.Requests.{Command, Request, agent_number, at_least, audit_asks, canon_asks, check_asks, commands, decide_asks, if_apart, most_records, number_asks, pairs_of, positions_number, request, request_of, run_from, run_number, run_of, run_wanted, RunRequest, show_asks}
use Rattle.cacao_cli_words.specs.Requests as words
use Rattle.cacao_cli_ends.specs.Asked.{Asked, canonises, checks, runs, shows, lists_rules, decides, shadows, rehearses, audits, asked, built}

-- one record at least, where it is a run that is asked for
abbrev HasRoom : Request → Type 0
HasRoom (words.canonises book) = Unit {0}
HasRoom (words.checks books) = Unit {0}
HasRoom (words.runs wanted) = 1 ≤ wanted.most
HasRoom words.shows = Unit {0}
HasRoom (words.lists_rules agent) = Unit {0}
HasRoom (words.decides agent packets) = Unit {0}
HasRoom (words.rehearses positions) = Unit {0}
HasRoom (words.shadows agent) = Unit {0}
HasRoom (words.audits engine filters) = Unit {0}

abbrev pub HasBudget : Asked → Type 0
HasBudget (canonises book) = Unit {0}
HasBudget (checks books) = Unit {0}
HasBudget (runs wanted) = 1 ≤ wanted.most
HasBudget shows = Unit {0}
HasBudget (lists_rules agent) = Unit {0}
HasBudget (decides agent packets) = Unit {0}
HasBudget (shadows agent) = Unit {0}
HasBudget (rehearses positions) = Unit {0}
HasBudget (audits engine filters) = Unit {0}

mapped : {A : Type 0} (f : A → Request) (o : Option A) → ((x : A) → HasRoom (f x)) → IfSome (option_map f o) HasRoom
mapped f None each = tt
mapped f (Some x) each = each x

-- ---- the budget

same-some : (x y : ℕ) → Some x ≡ Some y → x ≡ y
same-some x y e = cc

low : (n : ℕ) → nat_le 1 n ≡ true → 1 ≤ n
low n h = grind arith

at-least : (n most : ℕ) (b : Bool) → nat_le 1 n ≡ b → cond b (Some n) None ≡ Some most → 1 ≤ most
at-least n most true is e = let same = same-some n most e in let le = low n is in omega (arith, same, le)
at-least n most false is e = absurd (none-some most e)

budget : (steps : Option Text) (most : ℕ) → most_records steps ≡ Some most → 1 ≤ most
budget None most e = let same = same-some 1_000_000_000 most e in omega (arith, same)
budget (Some text) most e = by (number 1_000_000_000 text) e
  where
    by : (o : Option ℕ) → option_and_then (at_least 1) o ≡ Some most → 1 ≤ most
    by None f = absurd (none-some most f)
    by (Some n) f = at-least n most (nat_le 1 n) refl f

abbrev HasMost : RunRequest → Type 0
HasMost wanted = 1 ≤ wanted.most

from-room : (run steps bind answers : Option Text) (names : List Text) → IfSome (run_from run steps bind answers names) HasMost
from-room run steps bind answers [] = tt
from-room run steps bind answers (book ∷ books) =
    some_option (option_and_then run_number run) (λ n. option_and_then (run_of bind answers n (book ∷ books)) (most_records steps)) HasMost (λ n e.
    some_option (most_records steps) (run_of bind answers n (book ∷ books)) HasMost (λ most f. budget steps most f))

run-room : (o : Option RunRequest) → IfSome o HasMost → IfSome (option_map words.runs o) HasRoom
run-room None some = tt
run-room (Some wanted) some = some

-- ---- the other commands

canon-room : (names : List Text) → IfSome (canon_asks names) HasRoom
canon-room [] = tt
canon-room (book ∷ []) = tt
canon-room (book ∷ other ∷ names) = tt

check-room : (names : List Text) → IfSome (check_asks names) HasRoom
check-room [] = tt
check-room (book ∷ books) = tt

show-room : (names : List Text) → IfSome (show_asks names) HasRoom
show-room [] = tt
show-room (name ∷ names) = tt

number-room : (reads : Text → Option ℕ) (asks : ℕ → Request) → ((n : ℕ) → HasRoom (asks n)) → (names : List Text) → IfSome (number_asks reads asks names) HasRoom
number-room reads asks each [] = tt
number-room reads asks each (name ∷ []) = mapped asks (reads name) each
number-room reads asks each (name ∷ other ∷ names) = tt

decide-room : (names : List Text) → IfSome (decide_asks names) HasRoom
decide-room [] = tt
decide-room (agent ∷ []) = tt
decide-room (agent ∷ packets ∷ []) = mapped (λ n. words.decides n packets) (agent_number agent) (λ n. tt)
decide-room (agent ∷ packets ∷ other ∷ names) = tt

audit-room : (names : List Text) → IfSome (audit_asks names) HasRoom
audit-room [] = tt
audit-room (engine ∷ names) = mapped (words.audits engine) (option_and_then if_apart (pairs_of agent_number names)) (λ filters. tt)

-- ---- all

abbrev AsksWithRoom : Command Request → Type 0
AsksWithRoom c = (r : Reading) → IfSome (c.asks r) HasRoom

each-command : AllByRecursion AsksWithRoom commands
each-command = (
  λ r. canon-room r.names,
  (
    λ r. check-room r.names,
    (
      λ r. run-room (run_wanted r) (from-room _ _ _ _ r.names),
      (
        λ r. show-room r.names,
        (
          λ r. number-room agent_number words.lists_rules (λ n. tt) r.names,
          (
            λ r. decide-room r.names,
            (
              λ r. number-room positions_number words.rehearses (λ n. tt) r.names,
              (
                λ r. number-room agent_number words.shadows (λ n. tt) r.names,
                (λ r. audit-room r.names, tt),
              ),
            ),
          ),
        ),
      ),
    ),
  ),
)

found : (p : Command Request → Bool) (list : List (Command Request)) → AllByRecursion AsksWithRoom list → IfSome (find p list) AsksWithRoom
found p [] all = tt
found p (c ∷ list) all = by (p c) (found p list all.1)
  where
    by : (b : Bool) → IfSome (find p list) AsksWithRoom → IfSome (cond b (Some c) (find p list)) AsksWithRoom
    by true rest = all.0
    by false rest = rest

request-room : (ws : List Text) → IfSome (request ws) HasRoom
request-room [] = tt
request-room (first ∷ ws) = some_option (find (λ c. bytes_eq first c.name) commands) (request_of ws) HasRoom (λ c e.
    some_option (read c.options ws) c.asks HasRoom (λ r f. subst (λ (o : Option (Command Request)). IfSome o AsksWithRoom) e (found (λ c. bytes_eq first c.name) commands each-command) r))

built-budget : (q : Request) → HasRoom q → IfSome (built q) HasBudget
built-budget (words.canonises book) room = tt
built-budget (words.checks books) room = tt
built-budget (words.runs wanted) room = room
built-budget words.shows room = tt
built-budget (words.lists_rules agent) room = tt
built-budget (words.decides agent packets) room = tt
built-budget (words.rehearses positions) room = tt
built-budget (words.shadows agent) room = tt
built-budget (words.audits engine filters) room = tt

pub asked-budget : (ws : List Text) → IfSome (asked ws) HasBudget
asked-budget ws = some_option (request ws) built HasBudget (λ q e. built-budget q (subst (λ (o : Option Request). IfSome o HasRoom) e (request-room ws)))
