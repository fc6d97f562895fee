-- Runs that are computed: how a run goes by itself, the records of which are told by their lines.
use Rattle.std.proofs.Common.{ℕ, zero, suc, List, [], ◌∷◌, ◌++◌, Option, None}
use Rattle.std.specs.Prelude.{Bool, false, slice_get, codes, option_and_then, option_map}
use Rattle.std.specs.Option.{option_map_or}
use Rattle.run_records.specs.declared.record.Record.{Record}
use Rattle.cacao_vars.specs.declared.declarations.Var.{Var}
use Rattle.cacao_vars.specs.declared.kinds.Kind.{Kind}
use Rattle.cacao_book.specs.declared.books.Book.{Book}
use Rattle.cacao_book.specs.declared.steps.Step.{Step}
use Rattle.cacao_book.specs.declared.step_kinds.StepKind.{StepKind}
use Rattle.cacao_book.specs.declared.step_kinds.StepKind.TheVariants as does
use Rattle.flow_core_rules.specs.Givens.{Given}
use Rattle.flow_core_rules.specs.State.{State, shown, value}
use Rattle.flow_core_rules.specs.Changes.{change, moment_of, outcome}
use Rattle.flow_core_rules.specs.Runs.{after, begun, begin_of, blank}
use Rattle.flow_core_rules.specs.Moves.{enabled_move, record_of}
use Rattle.flow_core_rules.specs.Lines.{record_line, report}

-- the state after a record, if it may come next
abbrev pub next : State → Record → Option State
next s r = option_map (λ edits. after (moment_of r) edits s) (change (shown s) r)

-- a state, the number of the next record, and the lines of those before
pub record Told : Type 0 where
  pub state : State
  pub count : ℕ
  pub lines : List (List ℕ)

-- a record that is no next one changes nothing and is told by no line
abbrev pub takes : Told → Record → Told
takes t r =
    option_map_or (λ (s : State). record { state = s; count = suc t.count; lines = t.lines ++ record_line (shown t.state) t.count r ∷ [] }) (next t.state r) t

-- the record of the least-numbered task that has a move at a moment
abbrev pub move_of : ℕ → State → Option Record
move_of now s = option_and_then (record_of (shown s) now) (enabled_move (shown s) now)

-- A run that makes its moves, and takes the next of these records where it has none; at most so many of both.
abbrev mutual
  pub drive : ℕ → ℕ → List Record → Told → Told
  drive zero now others t = t
  drive (suc n) now others t = option_map_or (λ (r : Record). drive n now others (takes t r)) (move_of now t.state) (other n now others t)

  pub other : ℕ → ℕ → List Record → Told → Told
  other zero now others t = t
  other (suc n) now [] t = t
  other (suc n) now (r ∷ others) t = drive n (moment_of r) others (takes t r)

-- the run 7 of what is given, from its Begin at moment 0
abbrev pub start : Given → ℕ → State → Told
start given run s = record { state = s; count = 1; lines = record_line (shown (blank given run)) 0 (begin_of given run 0) ∷ [] }

abbrev pub told : Given → ℕ → List Record → Option Told
told given run others = option_map (λ s. drive 60 0 others (start given run s)) (begun given run 0)

abbrev pub lines_of : Given → ℕ → List Record → Option (List (List ℕ))
lines_of given run others = option_map (λ t. t.lines) (told given run others)

abbrev pub outcome_of : Given → ℕ → List Record → Option Bool
outcome_of given run others = option_and_then (λ t. outcome (shown t.state).lists) (told given run others)

-- the value of a name in a scope at the end
abbrev pub value_of : Given → ℕ → List Record → ℕ → List ℕ → Option (List ℕ)
value_of given run others scope name = option_and_then (λ t. value t.state scope name) (told given run others)

-- ---- playbooks

abbrev pub step : List ℕ → Option (List ℕ) → StepKind → Step
step key next what = record {
  key = key;
  delay = 0;
  timeout = 60000;
  variables = [];
  completion = next;
  success = None;
  failure = None;
  kind = what;
}

abbrev pub end_step : List ℕ → Step
end_step key = step key None does.End

abbrev pub var_of : Kind → List ℕ → Option (List ℕ) → Var
var_of kind name text = record { name = name; kind = kind; worth = text; constant = false; external = false }

abbrev pub book_of : List ℕ → List Var → List Step → Book
book_of id vars steps = record {
  id = id;
  modified = codes "2024-01-02T03:04:05.000Z";
  start = codes "start--10";
  exception = None;
  variables = vars;
  agents = [];
  steps = steps;
}

abbrev pub given_by : List Book → Given
given_by books = record { books = books; texts = []; bind = []; agents = []; variables = [] }

abbrev pub only : List Var → List Step → Given
only vars steps = given_by (book_of (codes "playbook--1") vars steps ∷ [])

-- the bytes of an issue at the end, and what `show` says then
abbrev pub issue_of : Given → ℕ → List Record → ℕ → Option (List ℕ)
issue_of given run others n = option_and_then (λ t. option_map (λ issue. issue.bytes) (slice_get t.state.issues n)) (told given run others)

abbrev pub report_of : Given → ℕ → List Record → Option (List ℕ)
report_of given run others = option_map (λ t. report (shown t.state) t.count) (told given run others)
