-- What holds in each state of a run, whatever it is given.
use Rattle.std.proofs.Common.{◌≡◌, ℕ, zero, suc, ◌<◌, List, [], ◌∷◌, ◌++◌, Option, Some, None, refl, ap, sym, subst, ◌∙◌}
use Rattle.std.specs.Prelude.{IfSome, option_and_then, option_map, map, slice_get}
use Rattle.run_records.specs.declared.record.Record.{Record}
use Rattle.cacao_vars.specs.declared.scoping.Scope.{Scope}
use Rattle.cacao_vars.specs.Scopes.{HasParentsBefore, parent_of}
use Rattle.cacao_book.specs.declared.books.Book.{Book}
use Rattle.flow_core_rules.specs.declared.tasks.Task.{Task}
use Rattle.flow_core_rules.specs.Givens.{Given}
use Rattle.flow_core_rules.specs.State.{State}
use Rattle.flow_core_rules.specs.Edits.{Edit}
use Rattle.flow_core_rules.specs.Edits.Edit.{opens, writes, makes}
use Rattle.flow_core_rules.specs.Runs.{Next, GoesOn, Leads, after, begun, blank, first_task}
use Rattle.flow_core_rules.specs.Laws.{HasPlacedWrites}
use Rattle.flow_core_rules.proofs.RunLemmas.{some_inner}
use Rattle.flow_core_rules.proofs.PlacedLemmas.{records_shown, first_shown}
use Rattle.flow_core_rules.proofs.TaskLemmas.{tasks_are}
use Rattle.flow_core_rules.proofs.EndLemmas.{Ordered, ordered_next, first_ordered, bound_tasks}
use Rattle.flow_core_rules.proofs.ScopeLemmas.{AllScoped, scoped_next, first_scoped}
use Rattle.flow_core_laws.proofs.Somes.{none_some}
use Rattle.flow_core_laws.proofs.Joins.{JoinsBelow, AllJoin, joined_next}

pub record IsOfRun (s : State) : Type 0 where
  pub ordered : Ordered s
  pub scoped : AllScoped s.scopes s.tasks
  pub placed : HasPlacedWrites s
  pub joined : AllJoin s.tasks

pub of_run_next : (s new : State) (r : Record) → IsOfRun s → Next s r new → IsOfRun new
of_run_next s new r k next = record {
  ordered = ordered_next s new r k.ordered next;
  scoped = scoped_next s new r k.scoped next;
  placed = (records_shown s new r k.placed next).placed;
  joined = joined_next s new r k.joined next;
}

of_run_along : (records : List Record) (s new : State) → IsOfRun s → GoesOn s records new → IsOfRun new
of_run_along [] s new k g = subst IsOfRun g k
of_run_along (r ∷ records) s new k g = of_run_along records g.0 new (of_run_next s g.0 r k g.1) g.2

first_joined : (given : Given) (run now : ℕ) (first : State) → begun given run now ≡ Some first → AllJoin first.tasks
first_joined given run now first e = by (slice_get given.books 0) e
  where
    one : (task : Task) → ((n : ℕ) → JoinsBelow n task.phase) → AllJoin (task ∷ [])
    one task all zero x g = subst (λ (y : Task). JoinsBelow 1 y.phase) (some_inner task x g) (all 1)
    one task all (suc t) x g = absurd (none_some x g)

    by : (o : Option Book) → option_map (λ (es : List Edit). after now es (blank given run)) (option_map (λ (book : Book). opens None book.variables ∷ (map (λ b. writes 0 b.0 b.1) given.variables ++ makes (first_task given now book) ∷ [])) o) ≡ Some first
        → AllJoin first.tasks
    by None h = absurd (none_some first h)
    by (Some book) h =
        let es : List Edit = opens None book.variables ∷ (map (λ b. writes 0 b.0 b.1) given.variables ++ makes (first_task given now book) ∷ []) in
        let is : after now es (blank given run) ≡ first = some_inner (after now es (blank given run)) first h in
        let tasks : first.tasks ≡ first_task given now book ∷ [] = ap (λ (x : State). x.tasks) (sym is) ∙ tasks_are es (blank given run) ∙ bound_tasks given now book given.variables [] in
        subst AllJoin (sym tasks) (one (first_task given now book) (λ n. tt))

pub of_run : (given : Given) (run : ℕ) (records : List Record) (s : State) → Leads given run records s → IsOfRun s
of_run given run records s l =
    of_run_along l.others l.first s
    (record {
      ordered = first_ordered given run l.now l.first l.begins;
      scoped = first_scoped given run l.now l.first l.begins;
      placed = (first_shown given run l.now l.first l.begins).placed;
      joined = first_joined given run l.now l.first l.begins;
    })
    l.goes_on

-- the scope around a scope is an earlier one
pub parents_before : (s : State) → IsOfRun s → HasParentsBefore s.scopes
parents_before s k n = by (slice_get s.scopes n) refl
  where
    by : (o : Option Scope) → slice_get s.scopes n ≡ o → IfSome (parent_of s.scopes n) (λ p. p < n)
    by None e = subst (λ (o : Option Scope). IfSome (option_and_then (λ (x : Scope). x.parent) o) (λ p. p < n)) (sym e) tt
    by (Some scope) e = subst (λ (o : Option Scope). IfSome (option_and_then (λ (x : Scope). x.parent) o) (λ p. p < n)) (sym e) (k.scoped.around n scope e)
