-- How each record came that a session appended.
use Rattle.std.proofs.Common.{◌≡◌, ◌⊎◌, inl, inr, ℕ, ◌≤◌, true, List, [], ◌∷◌, ◌++◌, length, refl, sym, ◌∙◌, subst, ap, ap₂, arith}
use Rattle.std.specs.Prelude.{Option, Some, None, All, nat_le, option_and_then, option_map, slice_get}
use Rattle.std.proofs.lemmas.List.{append_cancel_left, length-append}
use Rattle.std.specs.Option.{option_map_or}
use Rattle.std.proofs.lemmas.Option.{none-some}
use Rattle.base_dues.specs.Pairs.{is_by}
use Rattle.cacao_site.specs.View.{ClockView, SiteView}
use Rattle.cacao_site.specs.declared.parcel.Parcel.{Parcel}
use Rattle.run_records.specs.declared.record.Record.{Record}
use Rattle.flow_core_rules.specs.Changes.{moment_of}
use Rattle.flow_core_rules.specs.Givens.{Given}
use Rattle.flow_core_rules.specs.Moves.{deadline_of, record_of}
use Rattle.flow_core_rules.specs.Runs.{begin_of}
use Rattle.flow_core_rules.specs.State.{Shown}
use Rattle.flow_core_rules.specs.declared.issues.Issue.{Issue}
use Rattle.flow_core_rules.specs.declared.moves.Move.{Move}
use Rattle.flow_core_rules.specs.declared.moves.Move.TheVariants as move
use Rattle.flow_core_rules.proofs.RunLemmas.{list_heads}
use Rattle.flow_laws.proofs.Basics.{same_some}
use Rattle.flow_engine_history.specs.Histories.{IsShownAfter, IsSoFar}
use Rattle.flow_engine_history.specs.HistoryView.{HistoryView}
use Rattle.flow_engine.specs.EngineCalls.{put_deadline}
use Rattle.flow_engine.specs.EngineView.{EngineView}
use Rattle.flow_engine.specs.OpenIssues.{puts_of}
use Rattle.flow_engine.specs.declared.puts.Puts.{Puts}
use Rattle.flow_engine_answers.specs.declared.answers.OperatorAnswer.{OperatorAnswer}
use Rattle.flow_world_steps.specs.Appends.{Tries}
use Rattle.flow_world_steps.specs.Appends.Tries.{done, failed, limited}
use Rattle.flow_world_steps.specs.Ready.{FoundNone}
use Rattle.flow_world_steps.specs.Steps.{Expires, Step, Steps}
use Rattle.flow_world_steps.specs.Steps.Step.{opens_clock, finds_run_used, asks_clock, finds_late, begins, moves, upgrades, tells, expires, says, fails_to_say}
use Rattle.flow_world_steps.specs.Steps.Step.{puts_first, resends, takes, finds_none, fails_to_take, drops, replies, ignores_reply, acts_on, repeats_reply, fails_to_act, wants_memory_now}
use Rattle.flow_world_steps.specs.Stands.{InTime}
use Rattle.flow_world_steps.specs.Sums.{IsBetween}
use Rattle.flow_world_steps.specs.Worlds.{IsGoing, Notes, Phase, World, holds, looked, opened, rests}
use Rattle.flow_world_steps.proofs.Adding.{begins_now, moves_now, of_option, replies_now, step_adds, steps_add, steps_same_given}
use Rattle.flow_world_steps.proofs.Came.{steps_came}
use Rattle.flow_world_steps.proofs.Failing.{fails_notes}
use Rattle.flow_world_steps.proofs.Issues.{is_put_of}
use Rattle.flow_world_steps.proofs.Looked.{steps_look}
use Rattle.flow_world_steps.proofs.Timely.{in_time_bounds, opened_in_time, steps_in_time}
use Rattle.flow_world_steps.proofs.Unsure.{steps_unsure}
use Rattle.flow_world_steps.proofs.Whole.{steps_add_up}
use Rattle.flow_world.specs.Sessions.{Went}
use Rattle.flow_world_laws.specs.AllCame.{WentOn}
use Rattle.flow_world_laws.specs.Came.{AppendedBehind, BeginsAs, EachOfferedCame, EachRecordCame, EachRecordInTime, IsInTime, IsOwnRun, OfferedLast, ShowsWhy, WasEnabled, WasOverdue}

-- ---- what a call knew

module _ (given : Given) (run : ℕ) (old : World) (given_is : old.engine.history.seen.given ≡ given) (run_is : old.engine.history.seen.run ≡ run)
    (in_time : InTime old) (looks : old.phase ≡ looked → FoundNone old.site old.site.clock.now) where
  record Why (r : Record) : Type 0 where
    moment : moment_of r ≡ old.site.clock.now
    no_earlier : old.engine.history.seen.moment ≤ moment_of r
    why : ShowsWhy given run r old

  made : (p : Phase) → old.phase ≡ p → IsGoing p → (p ≡ opened → ⊥) → (r : Record) → moment_of r ≡ old.site.clock.now → ShowsWhy given run r old → Why r
  made p e going not r at why = record {
    moment = at;
    no_earlier =
        let bounds = in_time_bounds old.engine.history.seen old.site.clock.now (in_time (subst IsGoing (sym e) going) (λ f. not (sym e ∙ f))) in
        omega (arith, bounds.0, at);
    why = why;
  }

  looked_not : looked ≡ opened → ⊥
  looked_not e = cc

  rests_not : rests ≡ opened → ⊥
  rests_not e = cc

  holds_not : (beat : ℕ) (parcel : Parcel) → holds beat parcel ≡ opened → ⊥
  holds_not beat parcel e = cc

  shows_move : (now : ℕ) (m : Move) (next : Record) → record_of old.engine.history.seen now m ≡ Some next → WasEnabled next old → ShowsWhy given run next old
  shows_move now (move.Walk t) next e = subst (λ (r : Record). WasEnabled r old → ShowsWhy given run r old) (same_some e) (λ w. w)
  shows_move now (move.Send t) next e = of_option _ _ (λ (r : Record). WasEnabled r old → ShowsWhy given run r old) next (λ x w. w) e
  shows_move now (move.Ask t) next e = of_option _ _ (λ (r : Record). WasEnabled r old → ShowsWhy given run r old) next (λ x w. w) e
  shows_move now move.Upgrade next e = subst (λ (r : Record). WasEnabled r old → ShowsWhy given run r old) (same_some e) (λ w. inl w)

  by_le : (m now : ℕ) → nat_le m now ≡ true → m ≤ now
  by_le m now h = grind arith

  -- an issue was put, and its deadline has come
  record HasPassed (v : EngineView) (now issue : ℕ) : Type 0 where
    puts : Puts
    put : puts_of v.puts issue ≡ Some puts
    it : Issue
    there : slice_get v.history.seen.lists.issues issue ≡ Some it
    past : deadline_of v.history.seen it ≤ now

  has_passed : (v : EngineView) (now issue : ℕ) → is_by now (put_deadline v issue) ≡ true → HasPassed v now issue
  has_passed v now issue is = by (puts_of v.puts issue) refl is
    where
      some : (p : Puts) → puts_of v.puts issue ≡ Some p → (o : Option Issue) → slice_get v.history.seen.lists.issues issue ≡ o → is_by now (option_map (deadline_of v.history.seen) o) ≡ true → HasPassed v now issue
      some p put None there e = absurd (cc)
      some p put (Some it) there e = record { puts = p; put = put; it = it; there = there; past = by_le (deadline_of v.history.seen it) now e }

      by : (o : Option Puts) → puts_of v.puts issue ≡ o
          → is_by now (option_and_then (λ puts. option_map (deadline_of v.history.seen) (slice_get v.history.seen.lists.issues issue)) o) ≡ true → HasPassed v now issue
      by None put e = absurd (cc)
      by (Some p) put e = some p put (slice_get v.history.seen.lists.issues issue) refl e

  overdue : (issue : ℕ) (new : World) → Expires issue old new → WasOverdue issue old
  overdue issue new is =
      let passed = has_passed old.engine old.site.clock.now issue is.overdue.first.0 in
      let put = is_put_of old.engine.history.seen old.engine.puts issue passed.puts is.overdue.untold.idle.has_looked.up.has_file.engine.put passed.put in
      let one : put.issue ≡ passed.it = same_some (sym put.there ∙ passed.there) in
      record {
        found = looks is.overdue.untold.idle.has_looked.phase;
        no_move = is.overdue.untold.idle.no_move;
        untold = is.overdue.untold.none;
        it = put.issue;
        waiting = record { there = put.there; waits = put.waits; of_filter = put.of_filter };
        put = subst (λ (o : Option Puts). 1 ≤ option_map_or (λ (p : Puts). p.count) o 0) (sym passed.put) put.some;
        past = subst (λ (x : Issue). deadline_of old.engine.history.seen x ≤ old.site.clock.now) (sym one) passed.past;
        least = is.overdue.first.1;
      }

  begin_is : (next : Record) → next ≡ begin_of old.engine.history.seen.given old.engine.history.seen.run old.site.clock.now → next ≡ begin_of given run old.site.clock.now
  begin_is next e = e ∙ ap (λ (g : Given). begin_of g old.engine.history.seen.run old.site.clock.now) given_is ∙ ap (λ (n : ℕ). begin_of given n old.site.clock.now) run_is

  -- ---- one call

  not_more : (xs : List Record) (r : Record) → xs ≡ xs ++ r ∷ [] → ⊥
  not_more xs r e = let long = ap (λ (l : List Record). length l) e in omega (arith, long, length-append xs (r ∷ []))

  -- the record was appended, or offered while the disk failed
  abbrev Stands : World → Record → Type 0
  Stands new r = (new.engine.history.records ≡ old.engine.history.records ++ r ∷ []) ⊎ ((old.notes.unsure ≡ None) × (new.notes.unsure ≡ Some r))

  module _ (new : World) (r : Record) (has : Stands new r) where
    none : new.engine.history.records ≡ old.engine.history.records → new.notes.unsure ≡ old.notes.unsure → Why r
    none same unsure = elim has [
      | inl more ↦ absurd (not_more old.engine.history.records r (sym same ∙ more))
      | inr offered ↦ absurd (none-some r (sym (sym offered.1 ∙ unsure ∙ offered.0)))
    ]

    same : new.engine ≡ old.engine → new.notes.unsure ≡ old.notes.unsure → Why r
    same e unsure = none (ap (λ (v : EngineView). v.history.records) e) unsure

    tried : (IsNext : Record → Type 0) → Tries IsNext old new → ((next : Record) → IsNext next → Why next) → Why r
    tried IsNext (done is) all = elim has [
      | inl more ↦
          let next = is.appends.adds.offers.comes.next in
          let lists : next ∷ [] ≡ r ∷ [] = append_cancel_left old.engine.history.records (next ∷ []) (r ∷ []) (sym (ap (λ (h : HistoryView). h.records) is.appends.adds.view) ∙ more) in
          let one : next ≡ r = cc in
          subst (λ (x : Record). Why x) one (all next is.appends.adds.offers.comes.is)
      | inr offered ↦ absurd (none-some r (sym (sym offered.1 ∙ ap (λ (n : Notes). n.unsure) is.notes ∙ offered.0)))
    ]
    tried IsNext (failed is) all = elim has [
      | inl more ↦ absurd (not_more old.engine.history.records r (sym (ap (λ (h : HistoryView). h.records) is.refuses.0.1) ∙ more))
      | inr offered ↦
          let one : is.refuses.0.0.comes.next ≡ r = same_some (sym (ap (λ (n : Notes). n.unsure) is.notes) ∙ offered.1) in
          subst (λ (x : Record). Why x) one (all is.refuses.0.0.comes.next is.refuses.0.0.comes.is)
    ]
    tried IsNext (limited what is) all = none (ap (λ (h : HistoryView). h.records) is.refuses.0.1) (ap (λ (n : Notes). n.unsure) is.notes)

    by_step : Step old new → Why r
    by_step (opens_clock answer is) = same is.goes.sides.engine (ap (λ (n : Notes). n.unsure) is.goes.notes)
    by_step (finds_run_used agent is) = same is.only.sides.engine (ap (λ (n : Notes). n.unsure) is.only.notes)
    by_step (asks_clock moment answer is) = same is.goes.sides.engine (ap (λ (n : Notes). n.unsure) is.goes.notes)
    by_step (finds_late moment is) = same is.only.sides.engine (ap (λ (n : Notes). n.unsure) is.only.notes)
    by_step (begins is) = tried _ is.tries (λ next first.
        let one = begin_is next first.is in
        made rests is.phase tt rests_not next (begins_now old.engine.history old.site.clock.now next first)
        (subst (λ (x : Record). ShowsWhy given run x old) (sym one) (record { phase = is.phase; empty = first.empty; is = refl })))
    by_step (moves is) = tried _ is.tries (λ next one.
        made looked is.has_looked.phase tt looked_not next (moves_now old.engine.history old.site.clock.now next one)
        (shows_move old.site.clock.now one.move next one.is (record { has_looked = is.has_looked; found = looks is.has_looked.phase; move = one })))
    by_step (upgrades issue told is) = tried _ is.tries (λ next e.
        made looked is.to_be_told.idle.has_looked.phase tt looked_not next (ap moment_of e)
        (subst (λ (x : Record). ShowsWhy given run x old) (sym e) (inr (record {
          issue = issue;
          told = told;
          was_told = record { found = looks is.to_be_told.idle.has_looked.phase; to_be_told = is.to_be_told };
          earlier = is.earlier;
          is = refl;
        }))))
    by_step (tells issue told is) = tried _ is.tries (λ next e.
        made looked is.to_be_told.idle.has_looked.phase tt looked_not next (ap moment_of e)
        (subst (λ (x : Record). ShowsWhy given run x old) (sym e) (record {
          issue = issue;
          told = told;
          was_told = record { found = looks is.to_be_told.idle.has_looked.phase; to_be_told = is.to_be_told };
          upgraded = is.upgraded;
          is = refl;
        })))
    by_step (expires issue is) = tried _ is.tries (λ next e.
        made looked is.overdue.untold.idle.has_looked.phase tt looked_not next (ap moment_of e)
        (subst (λ (x : Record). ShowsWhy given run x old) (sym e) (overdue issue new is)))
    by_step (says bytes is) = same is.speaks.sides.engine (ap (λ (n : Notes). n.unsure) is.speaks.notes)
    by_step (fails_to_say bytes is) = same is.speaks.sides.engine (ap (λ (n : Notes). n.unsure) is.speaks.notes)
    by_step (puts_first issue is) = none (ap (λ (x : EngineView). x.history.records) is.puts.sends.view) (ap (λ (n : Notes). n.unsure) is.puts.notes)
    by_step (resends issue is) = none (ap (λ (x : EngineView). x.history.records) is.puts.sends.view) (ap (λ (n : Notes). n.unsure) is.puts.notes)
    by_step (takes parcel is) = same is.sides.engine (ap (λ (n : Notes). n.unsure) is.notes)
    by_step (finds_none is) = same is.sides.engine (ap (λ (n : Notes). n.unsure) is.notes)
    by_step (fails_to_take is) = same is.sides.engine (ap (λ (n : Notes). n.unsure) is.notes)
    by_step (drops beat parcel is) = same is.ignores.engine (ap (λ (n : Notes). n.unsure) is.ignores.notes)
    by_step (replies beat parcel is) = tried _ is.tries (λ next reply.
        made (holds beat parcel) is.holds_reply.phase tt (holds_not beat parcel) next (replies_now old.engine.history parcel old.site.clock.now next reply)
        (subst (λ (x : Record). ShowsWhy given run x old) (sym reply.is) (record {
          beat = beat;
          parcel = parcel;
          in_hand = is.holds_reply.phase;
          is = record { read = reply.read; to = reply.to; is = refl };
        })))
    by_step (ignores_reply beat parcel is) = same is.ignores.engine (ap (λ (n : Notes). n.unsure) is.ignores.notes)
    by_step (acts_on beat parcel v w is) = same is.engine (ap (λ (n : Notes). n.unsure) is.notes)
    by_step (repeats_reply beat parcel v w is) = same is.ignores.engine (ap (λ (n : Notes). n.unsure) is.ignores.notes)
    by_step (fails_to_act beat parcel v w error cause is) = same is.engine (ap (λ (n : Notes). n.unsure) (fails_notes error parcel v old new is.notes))
    by_step (wants_memory_now is) = same is.only.sides.engine (ap (λ (n : Notes). n.unsure) is.only.notes)

-- ---- whose journal it was

begins_as : (given : Given) (run : ℕ) (records : List Record) (seen : Shown) → seen.given ≡ given → seen.run ≡ run → IsSoFar records seen → BeginsAs given run records
begins_as given run [] seen given_is run_is is = tt
begins_as given run (first ∷ others) seen given_is run_is is =
    let shows : IsShownAfter seen.given seen.run (first ∷ others) seen = is in
    let leads = shows.leads in
    (leads.now, (list_heads first (begin_of seen.given seen.run leads.now) others leads.others leads.records_are).0 ∙ ap₂ (λ (g : Given) (n : ℕ). begin_of g n leads.now) given_is run_is)

-- ---- what went on from open files

phase_not : (p : Phase) → p ≡ opened → p ≡ looked → ⊥
phase_not p e f = let same : opened ≡ looked = sym e ∙ f in cc

none_later : (from to moment : ℕ) → moment ≡ to → (records : List Record) → All (IsBetween from to) records → All (λ (r : Record). moment_of r ≤ moment) records
none_later from to moment same records all k d lt = let is = (all k d lt).1 in omega (arith, is, same)

module _ (given : Given) (run most : ℕ) (answers : List OperatorAnswer) (a b : World) (old new : SiteView) (went : WentOn given run most answers a b old new) where
  own_run : (mid : World) → Steps a mid → IsOwnRun given run a mid
  own_run mid before =
      let kept = steps_same_given a mid before in
      let given_is = kept.given ∙ went.begins.given_is in
      let run_is = kept.run ∙ went.begins.of_run in
      let engine = (steps_add_up a mid given run most answers went.begins before).journal.engine in
      record {
        of_run = run_is;
        given_is = given_is;
        begins = begins_as given run mid.engine.history.records mid.engine.history.seen given_is run_is engine.history.so_far;
        answers = kept.answers;
      }

  in_time_at : (mid : World) → Steps a mid → InTime mid
  in_time_at mid before = steps_in_time a mid (opened_in_time a went.begins.phase) before

  looks_at : (mid : World) → Steps a mid → mid.phase ≡ looked → FoundNone mid.site mid.site.clock.now
  looks_at mid before = steps_look a mid (phase_not a.phase went.begins.phase) before

  first_now : a.site.clock.now ≡ old.clock.now
  first_now = ap (λ (c : ClockView). c.now) went.rest.clock

  last_now : b.site.clock.now ≡ new.clock.now
  last_now = ap (λ (s : SiteView). s.clock.now) went.to_is

  pub record_came : (front back : List Record) (r : Record) → b.engine.history.records ≡ (a.engine.history.records ++ front) ++ r ∷ back → AppendedBehind given run a b front r
  record_came front back r split =
      let c = steps_came a b went.steps front back r split in
      let own = own_run c.old c.before in
      let why = by_step given run c.old own.given_is own.of_run (in_time_at c.old c.before) (looks_at c.old c.before) c.new r (inl c.has) c.step in
      record {
        old = c.old;
        new = c.new;
        before = c.before;
        step = c.step;
        after = c.after;
        was = c.was;
        has = c.has;
        own = own;
        moment = why.moment;
        no_earlier = why.no_earlier;
        why = why.why;
      }

  pub record_in_time : (front back : List Record) (r : Record) → b.engine.history.records ≡ (a.engine.history.records ++ front) ++ r ∷ back → IsInTime old new front r
  record_in_time front back r split =
      let came = record_came front back r split in
      let early = steps_add a came.old came.before in
      let call = step_adds came.old came.new came.step in
      let late = steps_add came.new b came.after in
      let at = came.moment in
      let one : early.added ≡ front = append_cancel_left a.engine.history.records early.added front (sym early.is ∙ came.was) in
      record {
        between = (omega (arith, at, early.later, first_now), omega (arith, at, call.later, late.later, last_now));
        none_later = none_later a.site.clock.now came.old.site.clock.now (moment_of r) at front
            (subst (λ (l : List Record). All (IsBetween a.site.clock.now came.old.site.clock.now) l) one early.moments);
      }

  -- a record that may stand behind the others
  pub offered_came : (added : List Record) (r : Record) → b.engine.history.records ≡ a.engine.history.records ++ added → b.notes.unsure ≡ Some r
      → OfferedLast given run a b r × IsInTime old new added r
  offered_came added r are unsure =
      let by = steps_unsure a b r (ap (λ (n : Notes). n.unsure) went.begins.notes) went.steps unsure in
      let own = own_run by.old by.before in
      let why = by_step given run by.old own.given_is own.of_run (in_time_at by.old by.before) (looks_at by.old by.before) b r (inr (by.was, by.has)) by.step in
      let at = by.moment in
      let now : b.site.clock.now ≡ by.old.site.clock.now = ap (λ (c : ClockView). c.now) by.offers.file.rest.clock in
      let all = steps_add a b went.steps in
      let one : all.added ≡ added = append_cancel_left a.engine.history.records all.added added (sym all.is ∙ are) in (
        record { old = by.old; before = by.before; step = by.step; own = own; moment = why.moment; no_earlier = why.no_earlier; why = why.why },
        record {
          between = (omega (arith, at, by.later, first_now), omega (arith, at, by.up_to, last_now));
          none_later = none_later a.site.clock.now b.site.clock.now (moment_of r) (at ∙ sym now) added
              (subst (λ (l : List Record). All (IsBetween a.site.clock.now b.site.clock.now) l) one all.moments);
        },
      )

-- ---- a session

pub went_on : (given : Given) (run most : ℕ) (answers : List OperatorAnswer) (old new : SiteView) → (went : Went given run most answers old new)
    → WentOn given run most answers went.start went.to old new
went_on given run most answers old new went = record {
  begins = went.begins;
  rest = record {
    link = went.files.others.rest.link ∙ went.files.journal.opens.only.rest.link;
    clock = went.files.others.rest.clock ∙ went.files.journal.opens.only.rest.clock;
    counts = went.files.others.rest.counts ∙ went.files.journal.opens.only.rest.counts;
  };
  steps = went.steps;
  to_is = went.to_is;
}

pub each_record_came : EachRecordCame
each_record_came given run most answers old new went = record_came given run most answers went.start went.to old new (went_on given run most answers old new went)

pub each_record_in_time : EachRecordInTime
each_record_in_time given run most answers old new went = record_in_time given run most answers went.start went.to old new (went_on given run most answers old new went)

pub each_offered_came : EachOfferedCame
each_offered_came given run most answers old new went r unsure =
    offered_came given run most answers went.start went.to old new (went_on given run most answers old new went) went.sums.adds.added r went.sums.adds.is unsure
