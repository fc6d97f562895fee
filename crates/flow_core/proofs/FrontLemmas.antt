-- Fronts of runs, and that tasks become no fewer.
use Rattle.std.proofs.Common.{◌≡◌, ◌+◌, ◌≤◌, List, [], ◌∷◌, ◌++◌, length, refl, sym, ap, ◌∙◌, arith}
use Rattle.std.specs.Prelude.{count_by}
use Rattle.run_records.specs.declared.record.Record.{Record}
use Rattle.flow_core_rules.specs.Edits.{Edit}
use Rattle.flow_core_rules.specs.Laws.{HasPlacedWrites, IsShownAlone}
use Rattle.flow_core_rules.specs.Runs.{GoesOn, Next}
use Rattle.flow_core_rules.specs.State.{Shown, State, shown}
use Rattle.flow_core_rules.proofs.PlacedLemmas.{records_shown}
use Rattle.flow_core_rules.proofs.RunLemmas.{some_inner}
use Rattle.flow_core.specs.Views.{is_makes}
use Rattle.flow_core.proofs.FlowLemmas.{tasks_grow}

-- records in two parts
pub record Halves (s : State) (xs ys : List Record) (new : State) : Type 0 where
  pub mid : State
  pub first : GoesOn s xs mid
  pub rest : GoesOn mid ys new

pub halves : (xs ys : List Record) (s new : State) → GoesOn s (xs ++ ys) new → Halves s xs ys new
halves [] ys s new g = record { mid = s; first = refl; rest = g }
halves (x ∷ xs) ys s new g =
    let h = halves xs ys g.0 new g.2 in
    record { mid = h.mid; first = (g.0, g.1, h.first); rest = h.rest }

pub next_tasks : (s new : State) (r : Record) → HasPlacedWrites s → (n : Next s r new) → length new.tasks ≡ length s.tasks + count_by is_makes n.edits
next_tasks s new r placed n =
    let alone : IsShownAlone s r new = records_shown s new r placed n in
    let same : alone.edits ≡ n.edits = some_inner alone.edits n.edits (sym alone.edits_are ∙ n.change_is) in
    ap (λ (x : Shown). length x.lists.tasks) alone.shown_is ∙ tasks_grow alone.edits (shown s).lists ∙ ap (λ (es : List Edit). length s.tasks + count_by is_makes es) same

pub tasks_on : (rs : List Record) (s new : State) → HasPlacedWrites s → GoesOn s rs new → length s.tasks ≤ length new.tasks
tasks_on [] s new placed g = let e : length s.tasks ≡ length new.tasks = ap (λ (x : State). length x.tasks) g in omega arith
tasks_on (r ∷ rs) s new placed g =
    let n : Next s r g.0 = g.1 in
    let alone : IsShownAlone s r g.0 = records_shown s g.0 r placed n in
    let one : length (g.0).tasks ≡ length s.tasks + count_by is_makes n.edits = next_tasks s g.0 r placed n in
    let rest : length (g.0).tasks ≤ length new.tasks = tasks_on rs g.0 new alone.placed g.2 in
    omega arith
