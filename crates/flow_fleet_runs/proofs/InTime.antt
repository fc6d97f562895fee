-- The moments of the records of a run never fall.
use Rattle.std.proofs.Common.{◌≡◌, ℕ, suc, ◌≤◌, Bool, cond, not, List, [], ◌∷◌, ◌++◌, length, refl, sym, ◌∙◌, subst, ap, arith}
use Rattle.std.specs.Prelude.{Option, Some, None, ◌==◌, option_map}
use Rattle.std.proofs.lemmas.List.Elements.{All-append, All-nil}
use Rattle.run_records.specs.declared.record.Record.{Record}
use Rattle.flow_core_rules.specs.Changes.{change, moment_of}
use Rattle.flow_core_rules.specs.Edits.{Edit}
use Rattle.flow_core_rules.specs.Givens.{Given}
use Rattle.flow_core_rules.specs.Runs.{GoesOn, Leads, Next, after, begin_of, blank, first_edits}
use Rattle.flow_core_rules.specs.State.{Shown, State, shown}
use Rattle.flow_core.specs.Views.{View, begins, taken}
use Rattle.flow_core.proofs.ShapedLemmas.{change_in_time, moment_within}
use Rattle.flow_engine_history.specs.Histories.{IsSoFar}
use Rattle.flow_engine_history.specs.HistoryView.{HistoryView, flow_of}
use Rattle.flow_engine.specs.EngineView.{EngineView}
use Rattle.flow_laws.proofs.Basics.{same_some}
use Rattle.flow_world_steps.proofs.Handling.{All-one}
use Rattle.flow_world_steps.proofs.Issues.{below}
use Rattle.flow_fleet_steps.specs.Worlds.{Own}
use Rattle.flow_fleet_sums.proofs.Adding.{fleet_steps_add, not_equal, there_of}
use Rattle.flow_fleet_runs.specs.Moments.{EachFleetRecordIsInTime, EachOfferedIsInTime, NoneIsLater}
use Rattle.flow_fleet_runs.proofs.Known.{are_histories}
use Rattle.flow_fleet_runs.proofs.Lines.{not_empty}
use Rattle.flow_fleet_runs.proofs.Offered.{fleets_offer}

-- ---- lists

first_later : (moment : ℕ) (x : Record) (xs : List Record) → moment_of x ≤ moment → NoneIsLater moment xs → NoneIsLater moment (x ∷ xs)
first_later moment x xs le rest = All-append (λ r. moment_of r ≤ moment) (x ∷ []) xs (All-one (λ r. moment_of r ≤ moment) x le) rest

none_later : (moment : ℕ) → NoneIsLater moment []
none_later moment = All-nil _

-- ---- one record

change_later : (s : Shown) (r : Record) (edits : List Edit) → change s r ≡ Some edits → s.moment ≤ moment_of r
change_later s r edits e = (moment_within s (moment_of r) (change_in_time s r edits e)).0

next_moment : (s : State) (r : Record) (new : State) → Next s r new → new.moment ≡ moment_of r
next_moment s r new is = ap (λ (x : State). x.moment) is.new_is

-- ---- records in a row

goes_rises : (s : State) (records : List Record) (new : State) → GoesOn s records new → (front back : List Record) (r : Record) → records ≡ front ++ r ∷ back
    → (s.moment ≤ moment_of r) × NoneIsLater (moment_of r) front
goes_rises s [] new goes front back r e = absurd (not_empty front back r e)
goes_rises s (x ∷ xs) new goes [] back r e =
    let one : x ≡ r = cc in
    (subst (λ (y : Record). s.moment ≤ moment_of y) one (change_later (shown s) x goes.1.edits goes.1.change_is), none_later (moment_of r))
goes_rises s (x ∷ xs) new goes (y ∷ front) back r e =
    let one : x ≡ y = cc in
    let others : xs ≡ front ++ r ∷ back = cc in
    let rest = goes_rises goes.0 xs new goes.2 front back r others in
    let step : s.moment ≤ moment_of x = change_later (shown s) x goes.1.edits goes.1.change_is in
    let at : (goes.0).moment ≡ moment_of x = next_moment s x goes.0 goes.1 in
    let le = rest.0 in
    (omega (arith, step, at, le), subst (λ (z : Record). NoneIsLater (moment_of r) (z ∷ front)) one (first_later (moment_of r) x front (omega (arith, at, le)) rest.1))

goes_ends : (s : State) (records : List Record) (new : State) → GoesOn s records new → (s.moment ≤ new.moment) × NoneIsLater new.moment records
goes_ends s [] new goes = (let same = ap (λ (x : State). x.moment) goes in omega (arith, same), none_later new.moment)
goes_ends s (x ∷ xs) new goes =
    let rest = goes_ends goes.0 xs new goes.2 in
    let step : s.moment ≤ moment_of x = change_later (shown s) x goes.1.edits goes.1.change_is in
    let at : (goes.0).moment ≡ moment_of x = next_moment s x goes.0 goes.1 in
    let le = rest.0 in
    (omega (arith, step, at, le), first_later new.moment x xs (omega (arith, at, le)) rest.1)

-- ---- a run

begun_at : (given : Given) (run now : ℕ) (first : State) (o : Option (List Edit)) → option_map (λ edits. after now edits (blank given run)) o ≡ Some first → first.moment ≡ now
begun_at given run now first None e = absurd (cc)
begun_at given run now first (Some edits) e = ap (λ (s : State). s.moment) (sym (same_some e))

module _ (given : Given) (run : ℕ) (records : List Record) (new : State) (l : Leads given run records new) where
  first_moment : l.first.moment ≡ moment_of (begin_of given run l.now)
  first_moment = begun_at given run l.now l.first (first_edits given l.now) l.begins

  leads_rises : (front back : List Record) (r : Record) → records ≡ front ++ r ∷ back → NoneIsLater (moment_of r) front
  leads_rises front back r e = by front (sym l.records_are ∙ e)
    where
      by : (f : List Record) → begin_of given run l.now ∷ l.others ≡ f ++ r ∷ back → NoneIsLater (moment_of r) f
      by [] is = none_later (moment_of r)
      by (y ∷ f) is =
          let one : begin_of given run l.now ≡ y = cc in
          let others : l.others ≡ f ++ r ∷ back = cc in
          let rest = goes_rises l.first l.others new l.goes_on f back r others in
          let le = rest.0 in
          let at = first_moment in
          subst (λ (z : Record). NoneIsLater (moment_of r) (z ∷ f)) one (first_later (moment_of r) (begin_of given run l.now) f (omega (arith, at, le)) rest.1)

  leads_ends : NoneIsLater new.moment records
  leads_ends =
      let rest = goes_ends l.first l.others new l.goes_on in
      let le = rest.0 in
      let at = first_moment in
      subst (λ (rs : List Record). NoneIsLater new.moment rs) (sym l.records_are) (first_later new.moment (begin_of given run l.now) l.others (omega (arith, at, le)) rest.1)

so_far_rises : (records : List Record) (seen : Shown) → IsSoFar records seen → (front back : List Record) (r : Record) → records ≡ front ++ r ∷ back → NoneIsLater (moment_of r) front
so_far_rises [] seen is front back r e = absurd (not_empty front back r e)
so_far_rises (x ∷ xs) seen is front back r e = leads_rises seen.given seen.run (x ∷ xs) is.state is.leads front back r e

-- none is later than what is shown
so_far_ends : (records : List Record) (seen : Shown) → IsSoFar records seen → NoneIsLater seen.moment records
so_far_ends [] seen is = none_later seen.moment
so_far_ends (x ∷ xs) seen is =
    subst (λ (n : ℕ). NoneIsLater n (x ∷ xs)) (ap (λ (s : Shown). s.moment) (sym is.is)) (leads_ends seen.given seen.run (x ∷ xs) is.state is.leads)

-- ---- a record that was offered

raised : (from to : ℕ) (records : List Record) → from ≤ to → NoneIsLater from records → NoneIsLater to records
raised from to records le all k d lt = let is = all k d lt in omega (arith, is, le)

taken_change : (n : ℕ) (v : View) (r : Record) (edits : List Edit) → v.count ≡ suc n → taken v r ≡ Some edits → change v.seen r ≡ Some edits
taken_change n v r edits c e = subst (λ (b : Bool). cond (not b) (change v.seen r) (begins v.seen r) ≡ Some edits) (ap (λ (k : ℕ). k == 0) c ∙ not_equal (suc n) 0 (λ f. absurd (omega (arith, f)))) e

taken_later : (records : List Record) (h : HistoryView) (r : Record) (edits : List Edit) → h.records ≡ records → taken (flow_of h) r ≡ Some edits → IsSoFar records h.seen → NoneIsLater (moment_of r) records
taken_later [] h r edits same e is = none_later (moment_of r)
taken_later (x ∷ xs) h r edits same e is =
    let change_is : change h.seen r ≡ Some edits = taken_change (length xs) (flow_of h) r edits (ap (λ (l : List Record). length l) same) e in
    raised h.seen.moment (moment_of r) (x ∷ xs) (change_later h.seen r edits change_is) (so_far_ends (x ∷ xs) h.seen is)

-- ---- a fleet

pub records_in_time : EachFleetRecordIsInTime
records_in_time a b runs most opened steps place w here front back r e =
    so_far_rises w.history.records w.history.seen (are_histories a b runs most opened steps place w here).so_far front back r e

pub offered_in_time : EachOfferedIsInTime
offered_in_time a b runs most opened steps place w r here has =
    let many = (fleet_steps_add a b steps).many in
    let low = below b.engines place w here in
    let v = there_of a.engines place (omega (arith, low, many)) in
    let by = (fleets_offer a b steps place v.0 r v.1 (ap (λ (o : ℕ → Own). (o place).unsure) opened.own) has).by in
    let is = are_histories a by.old runs most opened by.before place by.v by.there in
    let last : by.w ≡ w = same_some (sym by.here ∙ here) in
    let records : by.v.history.records ≡ w.history.records = sym by.same ∙ ap (λ (x : EngineView). x.history.records) last in
    subst (λ (rs : List Record). NoneIsLater (moment_of r) rs) records
    (subst (λ (x : Record). NoneIsLater (moment_of x) by.v.history.records) by.offers.comes.is
    (taken_later by.v.history.records by.v.history by.offers.comes.next by.offers.comes.edits refl by.offers.comes.takes is.so_far))
