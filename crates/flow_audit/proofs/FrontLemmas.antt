-- Fronts of runs, and runs with one record more.
use Rattle.std.proofs.Common.{ℕ, List, [], ◌∷◌, ◌++◌, sym, ap, subst}
use Rattle.serde_json.specs.Data.{Data}
use Rattle.run_records.specs.declared.record.Record.{Record}
use Rattle.cacao_vars.specs.declared.kinds.Kind.{Kind}
use Rattle.flow_core_rules.specs.Accepted.{Accepted, IsRunOf}
use Rattle.flow_core_rules.specs.Givens.{Given}
use Rattle.flow_core_rules.specs.Runs.{GoesOn, Leads, Next, begin_of}
use Rattle.flow_core_rules.specs.State.{State}
use Rattle.flow_core_rules.proofs.OneRunLemmas.{one_run}
use Rattle.flow_core.proofs.FrontLemmas.{halves}
use Rattle.flow_core_rules.proofs.RunLemmas.{list_heads}

-- ---- a front of a run is a run

pub record IsFront (given : Given) (run : ℕ) (front rest : List Record) (new : State) : Type 0 where
  pub state : State
  pub leads : Leads given run front state
  pub goes_on : GoesOn state rest new

pub front_leads : (given : Given) (run : ℕ) (x : Record) (xs ys : List Record) (new : State) → Leads given run (x ∷ xs ++ ys) new → IsFront given run (x ∷ xs) ys new
front_leads given run x xs ys new l =
    let both = list_heads x (begin_of given run l.now) (xs ++ ys) l.others l.records_are in
    let h = halves xs ys l.first new (subst (λ (rs : List Record). GoesOn l.first rs new) (sym both.1) l.goes_on) in
    record {
      state = h.mid;
      leads = record {
        now = l.now;
        others = xs;
        first = l.first;
        in_time = l.in_time;
        records_are = ap (λ (r : Record). r ∷ xs) both.0;
        begins = l.begins;
        goes_on = h.first;
      };
      goes_on = h.rest;
    }

-- ---- one record more

module _ (AreAccepted : List Data → Type 0) (Fits : Kind → List ℕ → Type 0) where
  -- a run that goes on by a record has it as a next step, whatever is taken for its state
  pub next_of_run : (given : Given) (run : ℕ) (x : Record) (xs : List Record) (r : Record) (state : State) → Accepted AreAccepted Fits given.texts given.bind given
      → Leads given run (x ∷ xs) state → IsRunOf AreAccepted Fits (x ∷ xs ++ r ∷ []) → (new : State) × Next state r new
  next_of_run given run x xs r state accepted l longer =
      let front = front_leads longer.given longer.run x xs (r ∷ []) longer.state longer.leads in
      let mine : IsRunOf AreAccepted Fits (x ∷ xs) = record { given = given; run = run; state = state; accepted = accepted; leads = l } in
      let theirs : IsRunOf AreAccepted Fits (x ∷ xs) = record { given = longer.given; run = longer.run; state = front.state; accepted = longer.accepted; leads = front.leads } in
      let same = one_run AreAccepted Fits (x ∷ xs) theirs mine in
      (front.goes_on.0, subst (λ (s : State). Next s r front.goes_on.0) same.state_is front.goes_on.1)
