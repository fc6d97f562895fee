-- Where 1,000,000 parcels changed neither journal by what the files show, and a limit stopped the session all the same, the last of
-- them was in hand, and its Reply or its act would have passed it.
use Rattle.std.proofs.Common.{◌≡◌, inl, inr, ◌∙◌, refl, sym, ap, subst, arith, ℕ, suc, ◌+◌, ◌-◌, ◌<◌, ◌≤◌, List, [], ◌++◌, length, length-append, Option, None}
use Rattle.std.specs.Prelude.{IfSome, IsSome, IsTrue}
use Rattle.cacao_check.specs.Fits.{FitsKind}
use Rattle.cacao_site.specs.LinkCalls.{GainsAll}
use Rattle.cacao_site.specs.View.{LinkView, SiteView}
use Rattle.cacao_site.specs.declared.parcel.Parcel.{Parcel}
use Rattle.run_records.specs.Ranges.{last_moment}
use Rattle.run_records.specs.declared.act.Act.{Act}
use Rattle.run_records.specs.declared.record.Record.{Record}
use Rattle.flow_core.specs.Setups.{AreAccepted}
use Rattle.flow_core.specs.declared.flow_errors.LimitKind.{LimitKind}
use Rattle.flow_core.specs.declared.flow_errors.LimitKind.TheVariants as limit
use Rattle.flow_core_rules.specs.Accepted.{Accepted}
use Rattle.flow_core_rules.specs.Givens.{Given}
use Rattle.flow_engine_history.specs.HistoryView.{HistoryView}
use Rattle.flow_engine_answers.specs.declared.answers.OperatorAnswer.{OperatorAnswer}
use Rattle.flow_engine.specs.EngineCalls.{IsReply}
use Rattle.flow_engine.specs.EngineView.{EngineView}
use Rattle.flow_laws.specs.Images.{IsActs, IsAgent}
use Rattle.flow_laws.proofs.OneList.{acts_of_layout, same_records}
use Rattle.slpf_actuator.specs.ActuatorView.{ActuatorView}
use Rattle.slpf_actuator.specs.declared.error.ActError.TheVariants as act_error
use Rattle.flow_world_steps.specs.Appends.{HasPassedLimit}
use Rattle.flow_world_steps.specs.Grown.{HasGrown, acts_of}
use Rattle.flow_world_steps.specs.Handled.{Handles, IsAtHand, one_reply}
use Rattle.flow_world_steps.specs.Steps.{FailsToAct, GoesTowards, OnlyPhase, Replies, Steps}
use Rattle.flow_world_steps.specs.Steps.Steps.{nothing, and_then}
use Rattle.flow_world_steps.specs.Sums.{total}
use Rattle.flow_world_steps.specs.Turns.{most_ignored}
use Rattle.flow_world_steps.specs.Unbroken.{IsJournalSure}
use Rattle.flow_world_steps.specs.Worlds.{IsGoing, Notes, Phase, World, holds, looked, opened, past}
use Rattle.flow_world_steps.proofs.Asked.{step_not_opened}
use Rattle.flow_world_steps.proofs.Handling.{steps_handle}
use Rattle.flow_world_steps.proofs.Timely.{in_time_bounds, opened_in_time, steps_in_time}
use Rattle.flow_world.specs.Closes.{IsRefusal}
use Rattle.flow_world.specs.Sessions.{Went}
use Rattle.flow_world.specs.WorldError.TheVariants as error
use Rattle.flow_world_laws.specs.Ends.{PassesAt, TurnAt}
use Rattle.flow_world_laws.specs.Ends.PassesAt.{by_begin, by_move, by_upgrade, by_told, by_expire, by_reply, by_act}
use Rattle.flow_world_laws.proofs.Shown.{steps_in_turn}
use Rattle.cacao_cli_session.specs.Holding.{AreAnswers}
use Rattle.cacao_cli_session_laws.specs.Returning.{FloodsSo, GainsActs, PassesInHand}
use Rattle.cacao_cli_ends.specs.Work.{Start}
use Rattle.cacao_cli_session_laws.proofs.FloodLemmas.{acted-is, flooded-so, had-acts, none-acted, same-added, taken-exactly}
use Rattle.cacao_cli_session_laws.proofs.LimitLemmas.{TriedNext, Turn, act-so, next-so, phase-is, reply-turn, tried-act, tried-next}
use Rattle.cacao_cli_session_laws.proofs.PastLemmas.{past-unsure, stands-there}
use Rattle.cacao_cli_session_laws.proofs.ReachedLemmas.{AsksTime, IsStopped, PastBy, past-by, past-stops}
use Rattle.cacao_cli_session_laws.proofs.ReturnedRuns.{ReadsImages, sure-records, there-at}
use Rattle.flow_world_steps.proofs.Adding.{replies_now}

-- the step left the parcels taken, and what was done with them
record LeavesCounts (o w : World) : Type 0 where
  taken : w.site.link.taken ≡ o.site.link.taken
  ignored : w.notes.ignored ≡ o.notes.ignored
  acted : w.notes.acted ≡ o.notes.acted
  records : w.engine.history.records ≡ o.engine.history.records

passed-leaves : (IsNext : Record → Type 0) (what : LimitKind) (o w : World) → HasPassedLimit IsNext what o w → LeavesCounts o w
passed-leaves IsNext what o w p = record {
  taken = ap (λ (s : SiteView). s.link.taken) p.refuses.0.2;
  ignored = ap (λ (n : Notes). n.ignored) p.notes;
  acted = ap (λ (n : Notes). n.acted) p.notes;
  records = ap (λ (h : HistoryView). h.records) p.refuses.0.1;
}

phase-leaves : (then_ : Phase) (o w : World) → OnlyPhase o w then_ → LeavesCounts o w
phase-leaves then_ o w only = record {
  taken = ap (λ (s : SiteView). s.link.taken) only.site;
  ignored = ap (λ (n : Notes). n.ignored) only.notes;
  acted = ap (λ (n : Notes). n.acted) only.notes;
  records = ap (λ (v : EngineView). v.history.records) only.sides.engine;
}

clock-leaves : (moment answer : ℕ) (o w : World) → GoesTowards moment answer o w → LeavesCounts o w
clock-leaves moment answer o w goes = record {
  taken = goes.reaches.taken;
  ignored = ap (λ (n : Notes). n.ignored) goes.notes;
  acted = ap (λ (n : Notes). n.acted) goes.notes;
  records = ap (λ (v : EngineView). v.history.records) goes.sides.engine;
}

-- no parcel was handed on where no call was made yet
opened-none : (a o : World) → a.notes.ignored ≡ 0 → Steps a o → o.phase ≡ opened → o.notes.ignored ≡ 0
opened-none a o none nothing here = none
opened-none a o none (and_then {mid} steps step) here = absurd (step_not_opened mid o step here)

module _ (start : Start) (old mid : SiteView) (sound : ReadsImages mid) (told : IsTrue mid.disk.told) (given : Given) (accepted : Accepted AreAccepted FitsKind start.books start.bind given)
    (answers : List OperatorAnswer) (are : AreAnswers start answers) (went : Went given start.run start.most answers old mid) (sure : IsJournalSure went.to) where
  -- what the files of the agents gained
  gained-past : went.to.notes.unsure_act ≡ None → (agent : ℕ) → IsAgent agent → GainsActs agent (acts_of agent went.sums.grow.acted) old mid
  gained-past none agent is =
      let all : length went.start.filters ≡ 16 = went.files.others.many in
      let found = there-at given start.run start.most answers old mid sound told went went.start.filters (agent - 1) (omega (arith, is.0, is.1, all)) in
      let same : suc (agent - 1) ≡ agent = omega (arith, is.0) in
      let grown : HasGrown found.0 went.to.filters (agent - 1) (acts_of agent went.sums.grow.acted) =
      subst (λ (n : ℕ). HasGrown found.0 went.to.filters (agent - 1) (acts_of n went.sums.grow.acted)) same (went.sums.grow.each (agent - 1) found.0 found.1) in
      let f = stands-there given start.run start.most answers old mid sound told went none agent is.0 grown.now grown.there in
      record {
        before = (found.0).acts;
        had = had-acts given start.run start.most answers old mid sound told went agent is found.0 found.1;
        has = subst (IsActs (mid.disk.reads agent)) grown.has (acts_of_layout (mid.disk.reads agent) (grown.now).acts f.history.ranges f.holds);
      }

  module _ (o : World) (before : Steps went.start o) (left : LeavesCounts o went.to) where
    hand : Handles went.start o
    hand = steps_handle went.start o (subst (λ (p : Phase). IsAtHand p []) (sym went.begins.phase) refl) before

    takes-at : GainsAll old.link.taken (hand.handled ++ hand.at_hand) mid.link.taken
    takes-at =
        let link : went.start.site.link ≡ old.link = went.files.others.rest.link ∙ went.files.journal.opens.only.rest.link in
        subst (λ (s : SiteView). GainsAll old.link.taken (hand.handled ++ hand.at_hand) s.link.taken) went.to_is
        (subst (λ (t : Option (List (ℕ × Parcel))). GainsAll old.link.taken (hand.handled ++ hand.at_hand) t) (sym left.taken)
        (subst (λ (l : LinkView). GainsAll l.taken (hand.handled ++ hand.at_hand) o.site.link.taken) link hand.takes))

    -- how many parcels were taken, by what the session counted before its last step
    many-at : IfSome old.link.taken (λ before. IfSome mid.link.taken (λ after.
        length after ≡ length before + ((o.notes.ignored + length hand.at_hand) + total one_reply went.sums.adds.added + length went.sums.grow.acted)))
    many-at =
        let none : went.start.notes.ignored ≡ 0 = ap (λ (n : Notes). n.ignored) went.begins.notes in
        let counted = hand.counted in
        let added : hand.added ≡ went.sums.adds.added = same-added went.start.engine.history.records hand.added went.sums.adds.added (sym hand.adds ∙ sym left.records ∙ went.sums.adds.is) in
        let replied : total one_reply hand.added ≡ total one_reply went.sums.adds.added = ap (λ (l : List Record). total one_reply l) added in
        let acts : went.start.notes.acted ++ hand.acted ≡ went.sums.grow.acted =
        sym hand.acts ∙ sym left.acted ∙ acted-is given start.run start.most answers old mid sound told went in
        let acted : length (went.start.notes.acted ++ hand.acted) ≡ length went.sums.grow.acted = ap (λ (l : List (ℕ × Act)). length l) acts in
        let before : length went.start.notes.acted ≡ 0 = ap (λ (l : List (ℕ × Act)). length l) (none-acted given start.run start.most answers old mid sound told went) in
        taken-exactly old.link.taken mid.link.taken (hand.handled ++ hand.at_hand)
        ((o.notes.ignored + length hand.at_hand) + total one_reply went.sums.adds.added + length went.sums.grow.acted)
        (omega (arith, none, counted, replied, acted, before, length-append hand.handled hand.at_hand, length-append went.start.notes.acted hand.acted)) takes-at

    -- none of them was in hand, and they were not too many
    calm-not : went.to.notes.unsure_act ≡ None → (phase : Phase) → o.phase ≡ phase → (IsAtHand phase hand.at_hand → hand.at_hand ≡ []) → o.notes.ignored < most_ignored
        → FloodsSo start old mid → IsSome old.link.taken → ⊥
    calm-not none phase here empty calm f some =
        let all : o.notes.ignored + length hand.at_hand ≡ 1_000_000 =
        flooded-so given start.run start.most answers old mid sound told went start sure (gained-past none) (o.notes.ignored + length hand.at_hand) many-at f some in
        let at_hand : length hand.at_hand ≡ 0 = ap (λ (l : List (ℕ × Parcel)). length l) (empty (subst (λ (p : Phase). IsAtHand p hand.at_hand) here hand.open_one)) in
        omega (arith, all, at_hand, calm)

  -- ---- the last step

  turn-at : (o : World) → Steps went.start o → TurnAt o.phase o
  turn-at o before = steps_in_turn went.start o went.begins.phase before

  module _ (what : LimitKind) (is : IsRefusal (error.Limit what) went.to) (f : FloodsSo start old mid) (some : IsSome old.link.taken) where
    unsure : went.to.notes.unsure_act ≡ None
    unsure = past-unsure given start.run start.most answers old mid sound told went what is

    -- behind a take that found no parcel
    looked-not : (o : World) → Steps went.start o → LeavesCounts o went.to → o.phase ≡ looked → ⊥
    looked-not o before left here =
        let turn = subst (λ (p : Phase). TurnAt p o) here (turn-at o before) in
        calm-not o before left unsure looked here (λ e. e) turn.calm f some

    opened-not : (o : World) → Steps went.start o → LeavesCounts o went.to → o.phase ≡ opened → ⊥
    opened-not o before left here =
        let none : o.notes.ignored ≡ 0 = opened-none went.start o (ap (λ (n : Notes). n.ignored) went.begins.notes) before here in
        calm-not o before left unsure opened here (λ e. e) (omega (arith, none)) f some

    empty-not : (o : World) → LeavesCounts o went.to → o.engine.history.records ≡ [] → ⊥
    empty-not o left none = f.may.begun (same_records (mid.disk.reads 0) f.may.goes_on.reads.records went.to.engine.history.records f.may.goes_on.reads.reads
        (sure-records given start.run start.most answers old mid sound told went sure) ∙ left.records ∙ none)

    -- the clock is within the limit where a parcel is in hand
    in-time : (o : World) (beat : ℕ) (parcel : Parcel) → Steps went.start o → o.phase ≡ holds beat parcel → o.site.clock.now ≤ last_moment
    in-time o beat parcel before here =
        (in_time_bounds o.engine.history.seen o.site.clock.now
        (steps_in_time went.start o (opened_in_time went.start went.begins.phase) before (subst IsGoing (sym here) tt) (λ e. apart (sym here ∙ e)))).1
      where
        apart : holds beat parcel ≡ opened → ⊥
        apart e = cc

    stopped-of : (o : World) (beat : ℕ) (parcel : Parcel) → Steps went.start o → o.phase ≡ holds beat parcel → went.to.site ≡ o.site → IsStopped went.to
    stopped-of o beat parcel before here same =
        elim (past-stops went.start went.to what is.lacks went.begins.phase went.steps (phase-is start old mid sound told given accepted answers are went sure what is)) [
          | inl late ↦ absurd (let now : went.to.site.clock.now ≡ o.site.clock.now = ap (λ (s : SiteView). s.clock.now) same in
              let within = in-time o beat parcel before here in omega (arith, late, now, within))
          | inr stopped ↦ stopped
        ]

    -- the record comes in its turn, and is a Reply
    abbrev IsReplied : World → Record → Type 0
    IsReplied o next = Turn start old mid sound told given accepted answers are went sure o next × (one_reply next ≡ 1)

    abbrev in-turn : (o : World) → TriedNext (IsReplied o) o went.to → TriedNext (Turn start old mid sound told given accepted answers are went sure o) o went.to
    in-turn o t = record {
      next = t.next;
      turn = t.turn.0;
      edits = t.edits;
      now = t.now;
      takes = t.takes;
      what = t.what;
      passes = t.passes;
      same = t.same;
      site = t.site;
    }

    replied : (o : World) (kind : LimitKind) (beat : ℕ) (parcel : Parcel) → Steps went.start o → Replies beat parcel o went.to
        → HasPassedLimit (IsReply o.engine.history parcel o.site.clock.now) kind o went.to → PassesInHand start old mid
    replied o kind beat parcel before r p =
        let t : TriedNext (IsReplied o) o went.to = tried-next _ (IsReplied o) kind o went.to (replies_now o.engine.history parcel o.site.clock.now) (λ next e. (
          reply-turn start old mid sound told given accepted answers are went sure o kind beat parcel before r p next e,
          ap one_reply e.is,
        )) p in
        inl (next-so start old mid sound told given accepted answers are went sure (stopped-of o beat parcel before r.holds_reply.phase p.refuses.0.2) o (in-turn o t), t.turn.1)

    acted : (o : World) (beat : ℕ) (parcel : Parcel) (v w : ActuatorView) (needed : ℕ) → Steps went.start o → FailsToAct beat parcel v w (act_error.Full needed) (past limit.Journal) o went.to
        → PassesInHand start old mid
    acted o beat parcel v w needed before a =
        inr (act-so start old mid sound told given accepted answers are went sure (stopped-of o beat parcel before a.holds_command.phase a.refuses.site) o what before is
        (tried-act start old mid sound told given accepted answers are went sure o beat parcel v w needed a))

    by-step : (o : World) (kind : LimitKind) → Steps went.start o → PassesAt o went.to kind → PassesInHand start old mid
    by-step o kind before (by_begin other b p) = absurd (empty-not o (passed-leaves _ other o went.to p) b.empty)
    by-step o kind before (by_move other m p) = absurd (looked-not o before (passed-leaves _ other o went.to p) m.has_looked.phase)
    by-step o kind before (by_upgrade other issue told_ u p) = absurd (looked-not o before (passed-leaves _ other o went.to p) u.to_be_told.idle.has_looked.phase)
    by-step o kind before (by_told other issue told_ t p) = absurd (looked-not o before (passed-leaves _ other o went.to p) t.to_be_told.idle.has_looked.phase)
    by-step o kind before (by_expire other issue e p) = absurd (looked-not o before (passed-leaves _ other o went.to p) e.overdue.untold.idle.has_looked.phase)
    by-step o kind before (by_reply other beat parcel r p) = replied o other beat parcel before r p
    by-step o kind before (by_act beat parcel v w needed a) = acted o beat parcel v w needed before a

    by-clock : (o : World) → Steps went.start o → AsksTime o went.to → ⊥
    by-clock o before (inl (answer, opens)) = opened-not o before (clock-leaves _ answer o went.to opens.goes) opens.phase
    by-clock o before (inr (moment, answer, asks)) =
        looked-not o before (clock-leaves moment answer o went.to asks.goes) asks.next.up_to_date.on_time.untold.idle.has_looked.phase

    by-last : (o : World) → Steps went.start o → PastBy o went.to what → PassesInHand start old mid
    by-last o before (inl (late, time)) = absurd (by-clock o before time)
    by-last o before (inr (inl (moment, late))) = absurd (looked-not o before (phase-leaves _ o went.to late.only) late.next.up_to_date.on_time.untold.idle.has_looked.phase)
    by-last o before (inr (inr p)) = by-step o what before p

    pub passes-in-hand : PassesInHand start old mid
    passes-in-hand =
        let last = past-by went.start went.to what is.lacks went.begins.phase went.steps (phase-is start old mid sound told given accepted answers are went sure what is) in
        by-last last.old last.before last.by
