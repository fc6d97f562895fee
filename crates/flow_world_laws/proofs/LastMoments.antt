-- The moment that a run shows is that of its last record.
use Rattle.std.proofs.Common.{◌≡◌, ℕ, List, [], ◌∷◌, sym, ◌∙◌, ap}
use Rattle.std.specs.Prelude.{Option, Some, None, option_map}
use Rattle.std.proofs.lemmas.Option.{none-some}
use Rattle.run_records.specs.declared.record.Record.{Record}
use Rattle.flow_core_rules.specs.Changes.{moment_of}
use Rattle.flow_core_rules.specs.Edits.{Edit}
use Rattle.flow_core_rules.specs.Givens.{Given}
use Rattle.flow_core_rules.specs.Runs.{GoesOn, Leads, after, begun, blank, first_edits}
use Rattle.flow_core_rules.specs.State.{Shown, State}
use Rattle.flow_engine_history.specs.Histories.{IsSoFar}
use Rattle.flow_laws.proofs.Basics.{same_some}
use Rattle.flow_world_laws.specs.Returns.{last_of}

goes_on_moment : (s : State) (records : List Record) (new : State) → GoesOn s records new → new.moment ≡ last_of s.moment records
goes_on_moment s [] new is = sym (ap (λ (x : State). x.moment) is)
goes_on_moment s (r ∷ records) new is =
    let next : (is.0).moment ≡ moment_of r = ap (λ (x : State). x.moment) (is.1).new_is in
    goes_on_moment is.0 records new is.2 ∙ ap (λ (n : ℕ). last_of n records) next

begun_moment : (given : Given) (run now : ℕ) (first : State) → begun given run now ≡ Some first → first.moment ≡ now
begun_moment given run now first e = by (first_edits given now) e
  where
    by : (o : Option (List Edit)) → option_map (λ (edits : List Edit). after now edits (blank given run)) o ≡ Some first → first.moment ≡ now
    by None h = absurd (none-some first h)
    by (Some edits) h = sym (ap (λ (s : State). s.moment) (same_some h))

leads_moment : (given : Given) (run : ℕ) (records : List Record) (state : State) → Leads given run records state → state.moment ≡ last_of 0 records
leads_moment given run records state is =
    goes_on_moment is.first is.others state is.goes_on ∙ ap (λ (n : ℕ). last_of n is.others) (begun_moment given run is.now is.first is.begins)
    ∙ sym (ap (λ (l : List Record). last_of 0 l) is.records_are)

pub seen_moment : (records : List Record) (seen : Shown) → IsSoFar records seen → seen.moment ≡ last_of 0 records
seen_moment [] seen is = ap (λ (s : Shown). s.moment) is
seen_moment (r ∷ records) seen is = ap (λ (s : Shown). s.moment) is.is ∙ leads_moment seen.given seen.run (r ∷ records) is.state is.leads
