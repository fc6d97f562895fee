-- How the records of one run came.
use Rattle.std.proofs.Common.{◌≡◌, ℕ, Bool, true, false, List, [], ◌∷◌, ◌++◌, refl, sym, ◌∙◌, subst, ap}
use Rattle.std.specs.Prelude.{Some, slice_get, ◌==◌, if◌then◌else◌}
use Rattle.std.proofs.lemmas.List.{append_assoc, append_cancel_left}
use Rattle.run_records.specs.declared.record.Record.{Record}
use Rattle.run_records.specs.declared.record.Record.TheVariants as entry
use Rattle.flow_core_rules.specs.Givens.{Given}
use Rattle.flow_core_rules.specs.Runs.{begin_of}
use Rattle.flow_engine.specs.EngineView.{EngineView}
use Rattle.flow_world_steps.specs.Ready.{FoundNone}
use Rattle.flow_world_steps.specs.Worlds.{looked, owes, rests}
use Rattle.flow_fleet_steps.specs.Openings.{Runs}
use Rattle.flow_fleet_steps.specs.Steps.FleetSteps.{nothing, and_then}
use Rattle.flow_fleet_steps.specs.Worlds.{FleetWorld}
use Rattle.flow_fleet_sums.specs.Sums.{AddsAt, of_place}
use Rattle.flow_fleet_runs.specs.Came.{BeginsAsGiven, EachFleetBegins, EachFleetCame, EachFleetLooked, ShowsWhy}
use Rattle.flow_fleet_runs.specs.Lines.{AppendedBehind}
use Rattle.flow_fleet_runs.proofs.Calls.{Did, did}
use Rattle.flow_fleet_runs.proofs.Calls.Did.{no_more, one_line, one_more}
use Rattle.flow_fleet_runs.proofs.Lines.{Told, not_empty, same_eqb, told}

-- ---- among the records of all runs

-- a record of one place, among those of all
record StandsIn (place : ℕ) (front : List Record) (r : Record) (added : List (ℕ × Record)) : Type 0 where
  before : List (ℕ × Record)
  after : List (ℕ × Record)
  split : added ≡ before ++ (place, r) ∷ after
  own : of_place place before ≡ front

stands_in : (place : ℕ) (front back : List Record) (r : Record) (added : List (ℕ × Record)) → of_place place added ≡ front ++ r ∷ back → StandsIn place front r added
stands_in place front back r [] e = absurd (not_empty front back r e)
stands_in place front back r (e ∷ added) is = by (λ f rest. stands_in place f back r added rest) (e.0 == place) refl is
  where
    further : (f g : List Record) → ((l : List (ℕ × Record)) → of_place place l ≡ f → of_place place (e ∷ l) ≡ g) → StandsIn place f r added → StandsIn place g r (e ∷ added)
    further f g more one = record {
      before = e ∷ one.before;
      after = one.after;
      split = ap (λ (l : List (ℕ × Record)). e ∷ l) one.split;
      own = more one.before one.own;
    }

    mine : (e.0 == place) ≡ true → (l : List (ℕ × Record)) → of_place place (e ∷ l) ≡ e.1 ∷ of_place place l
    mine same l = ap (λ (b : Bool). if b then e.1 ∷ of_place place l else of_place place l) same

    others : (e.0 == place) ≡ false → (l : List (ℕ × Record)) → of_place place (e ∷ l) ≡ of_place place l
    others other l = ap (λ (b : Bool). if b then e.1 ∷ of_place place l else of_place place l) other

    here : ((f : List Record) → of_place place added ≡ f ++ r ∷ back → StandsIn place f r added) → (e.0 == place) ≡ true → (f : List Record) → e.1 ∷ of_place place added ≡ f ++ r ∷ back
        → StandsIn place f r (e ∷ added)
    here again same [] head =
        let one : e.1 ≡ r = cc in
        record {
          before = [];
          after = added;
          split = ap (λ (n : ℕ). (n, e.1) ∷ added) (same_eqb e.0 place same) ∙ ap (λ (x : Record). (place, x) ∷ added) one;
          own = refl;
        }
    here again same (x ∷ f) head =
        let one : e.1 ≡ x = cc in
        let rest : of_place place added ≡ f ++ r ∷ back = cc in
        further f (x ∷ f) (λ l own. mine same l ∙ ap (λ (m : List Record). e.1 ∷ m) own ∙ ap (λ (y : Record). y ∷ f) one) (again f rest)

    by : ((f : List Record) → of_place place added ≡ f ++ r ∷ back → StandsIn place f r added) → (b : Bool) → (e.0 == place) ≡ b
        → (if b then e.1 ∷ of_place place added else of_place place added) ≡ front ++ r ∷ back → StandsIn place front r (e ∷ added)
    by again true same head = here again same front head
    by again false other rest = further front front (λ l own. others other l ∙ own) (again front rest)

-- ---- of one run

pub fleets_came : EachFleetCame
fleets_came a b steps place v w there here front back r split = record {
  by = one.by;
  was = at.is ∙ ap (λ (l : List (ℕ × Record)). v.history.records ++ of_place place l) one.are ∙ ap (λ (l : List Record). v.history.records ++ l) is.own;
  run = at.run;
  given = at.given;
}
  where
    t : Told a b
    t = told a b steps

    own : of_place place t.adds.added ≡ front ++ r ∷ back
    own = append_cancel_left v.history.records (of_place place t.adds.added) (front ++ r ∷ back)
        (sym (t.adds.each place v w there here).is ∙ split ∙ append_assoc v.history.records front (r ∷ back))

    is : StandsIn place front r t.adds.added
    is = stands_in place front back r t.adds.added own

    one : AppendedBehind is.before (place, r) a b
    one = t.in_order is.before is.after (place, r) is.split

    at : AddsAt place one.adds.added a.site.clock.now one.by.old.site.clock.now v one.by.v
    at = one.adds.each place v one.by.v there one.by.there

-- ---- takes

looked_by : (old new : FleetWorld) → Did old new → new.phase ≡ looked → FoundNone new.site new.site.clock.now
looked_by old new (one_more place r is) e = absurd (owes_not (sym is.owed ∙ e))
  where
    owes_not : owes ≡ looked → ⊥
    owes_not e = cc
looked_by old new (no_more is) e = is.looks e
looked_by old new (one_line place v bytes is) e = absurd (rests_not (sym is.phase ∙ e))
  where
    rests_not : rests ≡ looked → ⊥
    rests_not e = cc

pub fleets_looked : EachFleetLooked
fleets_looked a b not nothing e = absurd (not e)
fleets_looked a b not (and_then {mid} steps step) e = looked_by mid b (did mid b step) e

-- ---- Begins

begins_as : (runs : Runs) (place run moment : ℕ) (given : Given) → slice_get runs place ≡ Some (run, given) → (next : Record) → next ≡ begin_of given run moment → BeginsAsGiven runs place next
begins_as runs place run moment given there next e =
    subst (λ (r : Record). BeginsAsGiven runs place r) (sym e) (record { given = given; there = there; books_are = refl; bind_is = refl })

pub begins_why : (runs : Runs) (place : ℕ) (from v : EngineView) (w : FleetWorld) (r : Record) → slice_get runs place ≡ Some (from.history.seen.run, from.history.seen.given) → v.history.seen.run ≡ from.history.seen.run
    → v.history.seen.given ≡ from.history.seen.given → ShowsWhy r place v w → BeginsAsGiven runs place r
begins_why runs place from v w (entry.Begin run moment books bind) there same given why =
    begins_as runs place from.history.seen.run w.site.clock.now from.history.seen.given there (entry.Begin run moment books bind)
    (why.is.is ∙ ap (λ (g : Given). begin_of g v.history.seen.run w.site.clock.now) given ∙ ap (λ (n : ℕ). begin_of from.history.seen.given n w.site.clock.now) same)
begins_why runs place from v w (entry.Walk task moment) there same given why = tt
begins_why runs place from v w (entry.Send task issue agent moment bytes) there same given why = tt
begins_why runs place from v w (entry.Reply issue moment status rule text) there same given why = tt
begins_why runs place from v w (entry.Expire issue moment) there same given why = tt
begins_why runs place from v w (entry.Upgrade version moment) there same given why = tt
begins_why runs place from v w (entry.Ask task issue moment bytes) there same given why = tt
begins_why runs place from v w (entry.Told issue moment status text) there same given why = tt

pub fleets_begin : EachFleetBegins
fleets_begin a b runs most opened steps place v w there here front back r split =
    let came = fleets_came a b steps place v w there here front back r split in
    begins_why runs place v came.by.v came.by.old r (opened.of_runs place v there) came.run came.given came.by.why
