-- What an engine does in a turn whose take found no parcel.
use Rattle.std.proofs.Common.{◌≡◌, ◌≢◌, inl, inr, ℕ, ◌+◌, ◌≤◌, Bool, true, false, List, [], ◌∷◌, ◌++◌, length, refl, sym, ◌∙◌, subst, ap, arith, length-append}
use Rattle.std.specs.Prelude.{Option, Some, None, Result, Ok, Err, OnOk, IfErr, ⊤}
use Rattle.cacao_site.specs.Sound.{IsSound}
use Rattle.cacao_site.specs.View.{ClockView, SiteView}
use Rattle.run_records.specs.declared.record.Record.{Record}
use Rattle.run_records.specs.declared.record.Record.TheVariants as entry
use Rattle.base_dues.specs.Pairs.{IsFirstBy}
use Rattle.flow_world_steps.specs.HistoryCalls.{Is}
use Rattle.flow_world_steps.specs.HistoryView.{HistoryView}
use Rattle.flow_world_steps.specs.Histories.{IsHistory}
use Rattle.flow_engine_answers.specs.declared.answers.OperatorAnswer.{OperatorAnswer}
use Rattle.flow_world_steps.specs.EngineError.{EngineError}
use Rattle.flow_world_steps.specs.EngineCalls.{Appends, IsMove, IsWaiting, Refused, Sends, put_deadline}
use Rattle.flow_world_steps.specs.EngineView.{EngineView}
use Rattle.flow_world_steps.specs.OpenIssues.{ArePut, IsNextPut, OpenIssues, puts_of}
use Rattle.flow_world_steps.specs.Puts.{Puts}
use Rattle.flow_world_steps.proofs.Basics.{same_or_not}
use Rattle.flow_core_rules.specs.Changes.{is_in_time, moment_of}
use Rattle.flow_core_rules.specs.State.{Shown}
use Rattle.flow_core_rules.specs.declared.issues.Issue.{Issue}
use Rattle.slpf_actuator.specs.ActuatorView.{ActuatorView}
use Rattle.flow_world_steps.specs.Sides.{AllPut, IsEngine}
use Rattle.flow_world_steps.specs.Steps.Step.{moves, upgrades, tells, expires, resends}
use Rattle.flow_world_steps.specs.Steps.Steps.{nothing, and_then}
use Rattle.flow_world_steps.specs.Turns.{HasLooked, IsOnTime, IsToBeTold, IsUntold}
use Rattle.flow_world_steps.specs.Worlds.{Notes, looked, owes, rests}
use Rattle.flow_world_steps.proofs.AllPuts.{all_stay_put, put_after}
use Rattle.flow_world_steps.proofs.Issues.{below, is_put_of, puts_were}
use Rattle.flow_world_steps.proofs.Timely.{in_time_after, in_time_bounds}
use Rattle.flow_world_parts.specs.Dues.{IsToUpgrade}
use Rattle.flow_world_parts.specs.Errors.{append_refusal}
use Rattle.flow_world_parts.specs.Leads.{AnyNotes, ArePutBelow, EngineDid, EngineGoes, EngineRefuses, IsAtWork, MayAnswer, WhereLooked, at}
use Rattle.flow_world_parts.specs.declared.error.WorldError.{WorldError}
use Rattle.flow_world_parts.specs.declared.error.WorldError.TheVariants as error
use Rattle.flow_world_parts.proofs.EngineSteps.{IsTry, appended, did_then, not_appended, wants}

-- ---- a record that was appended

pub ok_true : {E : Type 0} (result : Result Bool E) (b : Bool) → result ≡ Ok b → b ≡ true → result ≡ Ok true
ok_true result b is e = subst (λ (t : Bool). result ≡ Ok t) e is

-- as many issues as were told
pub issues_are : (v : EngineView) (seen : Shown) (n : ℕ) → seen ≡ v.history.seen → n ≡ length seen.lists.issues → n ≡ length v.history.seen.lists.issues
issues_are v seen n same is = subst (λ (s : Shown). n ≡ length s.lists.issues) same is

module _ (IsNext : Record → Type 0) (so sn : SiteView) (v w : EngineView) (is : Appends v w IsNext so sn) where
  pub now_after : sn.clock.now ≡ so.clock.now
  now_after = ap (λ (c : ClockView). c.now) is.adds.offers.file.rest.clock

  some_after : w.history.records ≢ []
  some_after none =
      let long = ap (λ (l : List Record). length l) (sym none ∙ ap (λ (h : HistoryView). h.records) is.adds.view) in
      absurd (omega (arith, long, length-append v.history.records (is.adds.offers.comes.next ∷ [])))

  pub at_work_after : IsAtWork v so → IsEngine w sn → moment_of is.adds.offers.comes.next ≡ so.clock.now → IsAtWork w sn
  at_work_after work engine at_now = record {
    up = record { has_file = record { engine = engine; whole = ap (λ (h : HistoryView). h.broken) is.adds.view }; begun = some_after };
    in_time = subst (λ (n : ℕ). is_in_time w.history.seen n ≡ true) (sym now_after)
        (in_time_after v w IsNext so.clock.now so sn is at_now (in_time_bounds v.history.seen so.clock.now work.in_time).1);
  }

  -- with the number of the issue that it makes, if it makes one
  module _ (next : ℕ) (counted : next ≡ length v.history.seen.lists.issues) where
    -- that one was not put yet
    pub unput_after : ArePut v.history.seen v.puts → ArePut w.history.seen w.puts → puts_of w.puts next ≡ None
    unput_after are now = by (puts_of w.puts next) refl
      where
        by : (o : Option Puts) → puts_of w.puts next ≡ o → puts_of w.puts next ≡ None
        by None e = e
        by (Some p) e =
            let was = puts_were v.history.seen v.puts is.adds.offers.comes.next next p are
            (subst (λ (o : OpenIssues). puts_of o next ≡ Some p) is.puts e) in
            let there = is_put_of v.history.seen v.puts next p are was in
            absurd (omega (arith, below v.history.seen.lists.issues next there.issue there.there, counted))

    -- all others were
    pub below_after : IsHistory v.history → ArePut w.history.seen w.puts → AllPut v → ArePutBelow next w
    below_after history are all lower it lt waiting = put_after v w IsNext so sn history are is all lower it waiting (λ e. absurd (omega (arith, e, lt, counted)))

    -- and that one is put: all were
    pub put_then : (x : EngineView) → IsHistory v.history → ArePut w.history.seen w.puts → AllPut v → x.history ≡ w.history
        → ((n : ℕ) → n ≢ next → puts_of x.puts n ≡ puts_of w.puts n) → ArePutBelow (next + 1) x → AllPut x
    put_then x history are all same others put n it waiting = elim (same_or_not n next) [
      | inl e ↦ put n it (omega (arith, e)) waiting
      | inr apart ↦ λ none. put_after v w IsNext so sn history are is all n it waited (λ e. apart (e ∙ sym counted)) (sym (others n apart) ∙ none)
    ]
      where
        waited : IsWaiting w.history.seen n it
        waited = subst (λ (h : HistoryView). IsWaiting h.seen n it) same waiting

-- ---- what became of a call that appends

-- what holds, holds where a call is ok
pub on_ok : {T E X : Type 0} (result : Result T E) → X → OnOk result X
on_ok (Ok t) x = x
on_ok (Err e) x = tt

module _ (answers : List OperatorAnswer) (IsNext : Record → Type 0) (so : SiteView) (v : EngineView) (step : IsTry (MayAnswer answers) IsNext so v looked) where
  -- the record was appended, and this came behind it
  pub appended_then : (result : Result ⊤ WorldError) (mid sn : SiteView) (w x : EngineView) → Appends v w IsNext so mid → IsEngine w mid
      → EngineDid result AnyNotes 0 mid w owes sn x → EngineDid result (MayAnswer answers) 1 so v looked sn x
  appended_then result mid sn w x is engine then_ =
      did_then result (MayAnswer answers) 1 0 so mid sn v w x looked owes
      (appended (MayAnswer answers) (λ notes given. given.budget) IsNext so v looked step mid w is engine) then_

  -- its line was said, and this came behind it
  pub moved_then : (result : Result ⊤ WorldError) (mid last sn : SiteView) (w x : EngineView) → Appends v w IsNext so mid → IsEngine w mid → EngineGoes AnyNotes 0 mid w owes last w rests
      → EngineDid result AnyNotes 0 last w rests sn x → EngineDid result (MayAnswer answers) 1 so v looked sn x
  moved_then result mid last sn w x is engine said then_ = appended_then result mid sn w x is engine (did_then result AnyNotes 0 0 mid last sn w w x owes rests said then_)

  -- it was refused
  pub refused_so : (sn : SiteView) (w : EngineView) (why : EngineError) (left : WorldError) → left ≡ append_refusal why → v.history.broken ≡ false → IsEngine w sn
      → Refused v w IsNext why so sn → EngineRefuses (MayAnswer answers) left so v looked sn
  refused_so sn w why left same whole engine refuses =
      subst (λ (e : WorldError). EngineRefuses (MayAnswer answers) e so v looked sn) (sym same)
      (not_appended (MayAnswer answers) (λ notes given. given.budget) IsNext so v looked step sn w why tt refl whole engine refuses)

-- ---- what each call tries

module _ (answers : List OperatorAnswer) (so : SiteView) (v : EngineView) where
  pub looks : (filters : List ActuatorView) (notes : Notes) → IsSound so → IsAtWork v so → MayAnswer answers notes → HasLooked (at so v filters notes looked)
  looks filters notes sound work given = record { phase = refl; sound = sound; up = work.up; budget = given.budget }

  pub try_move : (now : ℕ) → IsSound so → IsAtWork v so → now ≡ so.clock.now → IsTry (MayAnswer answers) (IsMove v.history now) so v looked
  try_move now sound work is = subst (λ (n : ℕ). IsTry (MayAnswer answers) (IsMove v.history n) so v looked) (sym is)
      (λ filters notes given new tries. moves (record { has_looked = looks filters notes sound work given; tries = tries }))

  pub try_upgrade : (now : ℕ) → WhereLooked IsToUpgrade answers so v → now ≡ so.clock.now → IsTry (MayAnswer answers) (Is (entry.Upgrade 2 now)) so v looked
  try_upgrade now due is = subst (λ (n : ℕ). IsTry (MayAnswer answers) (Is (entry.Upgrade 2 n)) so v looked) (sym is)
      (λ filters notes given new tries. let it = due filters notes given in upgrades it.issue it.told (record { to_be_told = it.to_be_told; earlier = it.earlier; tries = tries }))

  pub try_told : (now : ℕ) (told : OperatorAnswer) → WhereLooked (λ w. IsToBeTold w told.issue told) answers so v → v.history.seen.lists.is_upgraded ≡ true → now ≡ so.clock.now
      → IsTry (MayAnswer answers) (Is (entry.Told told.issue now told.status told.text)) so v looked
  try_told now told to_be upgraded is = subst (λ (n : ℕ). IsTry (MayAnswer answers) (Is (entry.Told told.issue n told.status told.text)) so v looked) (sym is)
      (λ filters notes given new tries. tells told.issue told (record { to_be_told = to_be filters notes given; upgraded = upgraded; tries = tries }))

  pub try_expire : (issue now : ℕ) → WhereLooked IsUntold answers so v → IsFirstBy now (put_deadline v) (Some issue) → now ≡ so.clock.now
      → IsTry (MayAnswer answers) (Is (entry.Expire issue now)) so v looked
  try_expire issue now untold first is = subst (λ (n : ℕ). IsFirstBy n (put_deadline v) (Some issue) → IsTry (MayAnswer answers) (Is (entry.Expire issue n)) so v looked) (sym is)
      (λ least filters notes given new tries. expires issue (record { overdue = record { untold = untold filters notes given; first = least }; tries = tries })) first

  pub on_time_of : (now : ℕ) → WhereLooked IsUntold answers so v → IsFirstBy now (put_deadline v) None → now ≡ so.clock.now → WhereLooked IsOnTime answers so v
  on_time_of now untold none is filters notes given = record {
    untold = untold filters notes given;
    none = subst (λ (n : ℕ). IsFirstBy n (put_deadline v) None) is none;
  }

  pub resent : (issue moment now : ℕ) (sn : SiteView) (w : EngineView) → WhereLooked IsOnTime answers so v → IsNextPut v.puts (Some (moment, issue)) → moment ≤ now → now ≡ so.clock.now
      → Sends v w issue now so sn → IsEngine w sn → EngineGoes (MayAnswer answers) 0 so v looked sn w rests
  resent issue moment now sn w on_time next come is sends engine filters notes given = record {
    notes = record notes { put = notes.put ++ issue ∷ [] };
    steps = and_then nothing (resends issue (record {
      due = record { on_time = on_time filters notes given; moment = moment; next = next; come = subst (λ (n : ℕ). moment ≤ n) is come };
      puts = record { sends = subst (λ (n : ℕ). Sends v w issue n so sn) is sends; engine = engine; filters = refl; notes = refl; phase = refl };
    }));
    adds = record { left = omega arith; answers = refl; ignored = refl };
  }

  pub wants_now : (why : WorldError) (sn : SiteView) → why ≡ error.Memory → sn ≡ so → EngineRefuses (MayAnswer answers) why so v looked sn
  wants_now why sn is same =
      subst (λ (e : WorldError). EngineRefuses (MayAnswer answers) e so v looked sn) (sym is)
      (subst (λ (s : SiteView). EngineRefuses (MayAnswer answers) error.Memory so v looked s) (sym same) (wants (MayAnswer answers) so v looked tt))

  -- a resend: the command was put, or memory was wanted
  pub resend_did : {S : Type 0} (a b : S) (result : Result ⊤ WorldError) (issue moment now : ℕ) (sn : SiteView) (w : EngineView) → WhereLooked IsOnTime answers so v → IsNextPut v.puts (Some (moment, issue)) → moment ≤ now
      → now ≡ so.clock.now → OnOk result (Sends v w issue now so sn) → OnOk result (IsAtWork w sn) → IfErr result (λ (why : WorldError). (why ≡ error.Memory) × (w ≡ v) × (b ≡ a)) → (b ≡ a → sn ≡ so)
      → EngineDid result (MayAnswer answers) 0 so v looked sn w
  resend_did a b (Ok done) issue moment now sn w on_time next come is sends work refused same = resent issue moment now sn w on_time next come is sends work.up.has_file.engine
  resend_did a b (Err why) issue moment now sn w on_time next come is sends work refused same = wants_now why sn refused.0 (same refused.2)

-- the issue of the next resend waits for a filter
pub put_waits : (v : EngineView) (issue moment : ℕ) → ArePut v.history.seen v.puts → IsNextPut v.puts (Some (moment, issue)) → (it : Issue) × IsWaiting v.history.seen issue it
put_waits v issue moment are next =
    let is = is_put_of v.history.seen v.puts issue next.0.0 are next.0.1 in
    (is.issue, record { there = is.there; waits = is.waits; of_filter = is.of_filter })

-- all that were put stay put
pub resend_put : (result : Result ⊤ WorldError) (issue now : ℕ) (so sn : SiteView) (v w : EngineView) → OnOk result (Sends v w issue now so sn) → OnOk result (AllPut v → AllPut w)
resend_put (Ok done) issue now so sn v w sends = all_stay_put v w issue now so sn sends
resend_put (Err why) issue now so sn v w sends = tt
