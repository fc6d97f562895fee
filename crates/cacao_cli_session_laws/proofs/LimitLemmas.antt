-- What a status 11 of a session tells: the record or the act that comes next would pass a limit, or the clock or what is due does.
use Rattle.std.proofs.Common.{◌≡◌, ◌≢◌, ◌⊎◌, inl, inr, ◌∙◌, refl, sym, ap, subst, arith, ℕ, ◌-◌, ◌<◌, ◌≤◌, Bool, true, List, [], ◌∷◌, ◌++◌, length, Option, Some, None}
use Rattle.std.specs.Prelude.{IsSome, IsTrue, min, slice_get, slice_set}
use Rattle.std.specs.Option.{option_map_or}
use Rattle.cacao_check.specs.Fits.{FitsKind}
use Rattle.cacao_site.specs.LinkCalls.{GainsAll}
use Rattle.cacao_site.specs.View.{LinkView, SiteView}
use Rattle.cacao_site.specs.declared.parcel.Parcel.{Parcel}
use Rattle.run_records.specs.Ranges.{last_moment}
use Rattle.run_records.specs.declared.act.Act.{Act}
use Rattle.run_records.specs.declared.record.Record.{Record}
use Rattle.flow_core.specs.Setups.{AreAccepted}
use Rattle.flow_core.specs.Views.{taken}
use Rattle.flow_core.specs.declared.flow_errors.LimitKind.{LimitKind}
use Rattle.flow_core.specs.declared.flow_errors.LimitKind.TheVariants as limit
use Rattle.flow_core_rules.specs.Accepted.{Accepted}
use Rattle.flow_core_rules.specs.Changes.{is_waiting, moment_of, outcome}
use Rattle.flow_core_rules.specs.Edits.{Edit}
use Rattle.flow_core_rules.specs.Givens.{Given}
use Rattle.flow_core_rules.specs.Moves.{due, record_of}
use Rattle.flow_core_rules.specs.State.{Shown}
use Rattle.flow_core_rules.specs.declared.issues.Issue.{Issue}
use Rattle.flow_core_rules.specs.declared.moves.Move.{Move}
use Rattle.flow_core_rules.specs.declared.moves.Move.TheVariants as move
use Rattle.flow_engine_history.specs.HistoryCalls.{limit_of}
use Rattle.flow_engine_history.specs.HistoryView.{HistoryView, flow_of}
use Rattle.flow_engine_answers.specs.declared.answers.OperatorAnswer.{OperatorAnswer}
use Rattle.flow_laws.proofs.Basics.{same_some}
use Rattle.flow_laws.proofs.OneList.{acts_of_layout}
use Rattle.slpf_actuator.specs.ActLists.{IsNew, length_with}
use Rattle.slpf_actuator.specs.ActuatorCalls.{Overflows}
use Rattle.slpf_actuator.specs.ActuatorView.{ActuatorView, act_for}
use Rattle.slpf_actuator.specs.declared.error.ActError.TheVariants as act_error
use Rattle.flow_world_steps.specs.Appends.{HasPassedLimit}
use Rattle.flow_world_steps.specs.Handled.{Handles, IsAtHand, IsCommand}
use Rattle.flow_world_steps.specs.Steps.{FailsToAct, FindsLate, Replies, Steps}
use Rattle.flow_world_steps.specs.Turns.{IsToBeTold, IsUntold, answer_for}
use Rattle.flow_world_steps.specs.Unbroken.{IsJournalSure}
use Rattle.flow_world_steps.specs.Worlds.{Cause, Notes, Phase, World, holds, opened, past, refused}
use Rattle.flow_world_steps.proofs.Adding.{begins_now, moves_now, of_option, replies_now}
use Rattle.flow_world_steps.proofs.Filters.{get_set}
use Rattle.flow_world_steps.proofs.Handling.{steps_handle}
use Rattle.flow_engine.specs.EngineCalls.{IsReply}
use Rattle.flow_engine.specs.EngineView.{EngineView}
use Rattle.flow_world.specs.Closes.{IsRefusal}
use Rattle.flow_world.specs.Sessions.{Went}
use Rattle.flow_world.specs.WorldError.TheVariants as error
use Rattle.flow_world_laws.specs.Ends.{PassesAt, TurnAt}
use Rattle.flow_world_laws.specs.Ends.PassesAt.{by_begin, by_move, by_upgrade, by_told, by_expire, by_reply, by_act}
use Rattle.flow_world_laws.proofs.Shown.{steps_in_turn}
use Rattle.cacao_cli_session.specs.Holding.{AreAnswers}
use Rattle.cacao_cli_session_laws.specs.Returning.{ComesInTurn, CouldAppend, DuePasses, IsIdleNow, IsLateSo, IsOfEnabledMove, IsTakenLast, IsToldNext, NextActPasses, NextPasses, ReadsSo, WouldPassSo}
use Rattle.cacao_cli_ends.specs.Work.{Start}
use Rattle.cacao_cli_session_laws.proofs.PastLemmas.{past-unsure, stands-filter}
use Rattle.cacao_cli_session_laws.proofs.ReachedLemmas.{IsStopped, PastBy, past-by, past-stops}
use Rattle.cacao_cli_session_laws.proofs.ReturnedRuns.{HoldsFilter, ReadsImages, cause-past, fewer-added, gains-added, reads-run, sure-holds}
use Rattle.cacao_cli_session_laws.proofs.WaitLemmas.{answers-given, none-answers}

-- ---- the last step

-- the record that came next would pass a limit, and nothing changed
pub record TriedNext (Turn : Record → Type 0) (o w : World) : Type 0 where
  pub next : Record
  pub turn : Turn next
  pub edits : List Edit
  pub now : moment_of next ≡ o.site.clock.now
  pub takes : taken (flow_of o.engine.history) next ≡ Some edits
  pub what : LimitKind
  pub passes : limit_of o.engine.history next edits ≡ Some what
  pub same : w.engine.history ≡ o.engine.history
  pub site : w.site ≡ o.site

-- the act on the command in hand would pass the limit of its filter's file
pub record TriedAct (o w : World) : Type 0 where
  pub beat : ℕ
  pub parcel : Parcel
  pub in_hand : o.phase ≡ holds beat parcel
  pub is_command : IsCommand parcel
  pub engine : w.engine ≡ o.engine
  pub v : ActuatorView
  pub next : ActuatorView
  pub needed : ℕ
  pub passes : Overflows v parcel o.site.clock.now needed
  pub site : w.site ≡ o.site
  pub acts : next.acts ≡ v.acts
  pub filters : w.filters ≡ slice_set o.filters (parcel.agent - 1) next

pub tried-next : (IsNext Turn : Record → Type 0) (what : LimitKind) (o w : World) → ((next : Record) → IsNext next → moment_of next ≡ o.site.clock.now) → ((next : Record) → IsNext next → Turn next)
    → HasPassedLimit IsNext what o w → TriedNext Turn o w
tried-next IsNext Turn what o w now turn h =
    let p = h.refuses.0.0 in
    record {
      next = p.comes.next;
      turn = turn p.comes.next p.comes.is;
      edits = p.comes.edits;
      now = now p.comes.next p.comes.is;
      takes = p.comes.takes;
      what = what;
      passes = p.passes;
      same = h.refuses.0.1;
      site = h.refuses.0.2;
    }

-- ---- the parcel in hand

last-taken : (before after : Option (List (ℕ × Parcel))) (front : List (ℕ × Parcel)) (beat : ℕ) (parcel : Parcel) → GainsAll before (front ++ (beat, parcel) ∷ []) after → IsTakenLast parcel before after
last-taken None after front beat parcel g = tt
last-taken (Some xs) None front beat parcel g = tt
last-taken (Some xs) (Some ys) front beat parcel g = (front, beat, g)

-- it was taken last
pub hand-last : (a o : World) (beat : ℕ) (parcel : Parcel) → a.phase ≡ opened → Steps a o → o.phase ≡ holds beat parcel → IsTakenLast parcel a.site.link.taken o.site.link.taken
hand-last a o beat parcel first before here =
    last-taken a.site.link.taken o.site.link.taken h.handled beat parcel
    (subst (λ (l : List (ℕ × Parcel)). GainsAll a.site.link.taken (h.handled ++ l) o.site.link.taken) (subst (λ (p : Phase). IsAtHand p h.at_hand) here h.open_one) h.takes)
  where
    h : Handles a o
    h = steps_handle a o (subst (λ (p : Phase). IsAtHand p []) (sym first) refl) before

-- ---- the enabled move

module _ (start : Start) (before after : Option (List (ℕ × Parcel))) (seen : Shown) (now : ℕ) where
  of-move : (m : Move) (next : Record) → record_of seen now m ≡ Some next → IsOfEnabledMove seen now next → ComesInTurn start before after seen now next
  of-move (move.Walk t) next e = subst (λ (r : Record). IsOfEnabledMove seen now r → ComesInTurn start before after seen now r) (same_some e) (λ is. is)
  of-move (move.Send t) next e = of_option _ _ (λ r. IsOfEnabledMove seen now r → ComesInTurn start before after seen now r) next (λ x is. is) e
  of-move (move.Ask t) next e = of_option _ _ (λ r. IsOfEnabledMove seen now r → ComesInTurn start before after seen now r) next (λ x is. is) e
  of-move move.Upgrade next e = subst (λ (r : Record). IsOfEnabledMove seen now r → ComesInTurn start before after seen now r) (same_some e) (λ is. inl is)

-- ---- what the files tell

module _ (start : Start) (old mid : SiteView) (sound : ReadsImages mid) (told : IsTrue mid.disk.told) (given : Given) (accepted : Accepted AreAccepted FitsKind start.books start.bind given)
    (answers : List OperatorAnswer) (are : AreAnswers start answers) (went : Went given start.run start.most answers old mid) (sure : IsJournalSure went.to) where
  abbrev run-so : (how : Option Bool) → outcome went.to.engine.history.seen.lists ≡ how → ReadsSo start how mid
  run-so how is = record {
    given = given;
    accepted = accepted;
    seen = went.to.engine.history.seen;
    reads = reads-run given start.run mid (sure-holds given start.run start.most answers old mid sound told went sure);
    outcome_is = is;
  }

  pub now-is : (o : World) → went.to.site ≡ o.site → o.site.clock.now ≡ mid.clock.now
  now-is o same = ap (λ (s : SiteView). s.clock.now) (sym same ∙ went.to_is)

  -- the run goes on, and a record more may be appended
  abbrev could-so : IsStopped went.to → CouldAppend start old mid
  could-so stopped = record {
    goes_on = run-so None stopped.goes_on;
    many = length went.sums.adds.added;
    gains = gains-added given start.run start.most answers old mid sound told went sure;
    fewer = fewer-added given start.run start.most answers old mid sound told went stopped.budget;
    reached = subst (λ (s : SiteView). s.clock.asked ≤ s.clock.now) went.to_is stopped.reached;
  }

  pub some-kind : (o : Option LimitKind) (what : LimitKind) → o ≡ Some what → IsSome o
  some-kind o what e = subst (λ (p : Option LimitKind). IsSome p) (sym e) refl

  -- ---- what came next in its turn

  -- the answers at the last step
  answers-at : (o : World) → went.to.notes ≡ o.notes → o.notes.answers ≡ answers
  answers-at o same = sym (ap (λ (n : Notes). n.answers) same) ∙ answers-given given start.run start.most answers old mid went

  idle-at : (o : World) → went.to.notes ≡ o.notes → IsUntold o → IsIdleNow start o.engine.history.seen o.site.clock.now
  idle-at o same untold = record {
    no_move = untold.idle.no_move;
    answers = answers;
    are = are;
    unanswered = none-answers given start.run start.most answers old mid went o (answers-at o same) untold;
  }

  told-at : (o : World) (issue : ℕ) (told : OperatorAnswer) → went.to.notes ≡ o.notes → IsToBeTold o issue told → IsToldNext start o.engine.history.seen o.site.clock.now issue told
  told-at o issue told same t = record {
    no_move = t.idle.no_move;
    answers = answers;
    are = are;
    it = t.has.it;
    there = t.has.there;
    waits = t.has.waits;
    first = subst (λ (l : List OperatorAnswer). answer_for l issue ≡ Some told) (answers-at o same) t.has.first;
    least = none-before;
  }
    where
      none-before : (lower : ℕ) (other : Issue) → lower < issue → slice_get o.engine.history.seen.lists.issues lower ≡ Some other → is_waiting other.phase ≡ true → answer_for answers lower ≡ None
      none-before lower other lt there waits = go (answer_for answers lower) refl
        where
          go : (a : Option OperatorAnswer) → a ≡ answer_for answers lower → answer_for answers lower ≡ None
          go None e = sym e
          go (Some one) e = absurd (t.least lower one lt (record {
            it = other;
            there = there;
            waits = waits;
            first = subst (λ (l : List OperatorAnswer). answer_for l lower ≡ Some one) (sym (answers-at o same)) (sym e);
          }))

  -- the parcel in hand was taken last since the call began
  hand-since : (o : World) (beat : ℕ) (parcel : Parcel) → Steps went.start o → o.phase ≡ holds beat parcel → IsTakenLast parcel old.link.taken o.site.link.taken
  hand-since o beat parcel before here =
      subst (λ (l : LinkView). IsTakenLast parcel l.taken o.site.link.taken) (went.files.others.rest.link ∙ went.files.journal.opens.only.rest.link)
      (hand-last went.start o beat parcel went.begins.phase before here)

  abbrev pub Turn : World → Record → Type 0
  Turn o next = ComesInTurn start old.link.taken o.site.link.taken o.engine.history.seen o.site.clock.now next

  -- the Reply of the parcel in hand
  pub reply-turn : (o : World) (what : LimitKind) (beat : ℕ) (parcel : Parcel) → Steps went.start o → Replies beat parcel o went.to
      → HasPassedLimit (IsReply o.engine.history parcel o.site.clock.now) what o went.to → (next : Record) → IsReply o.engine.history parcel o.site.clock.now next → Turn o next
  reply-turn o what beat parcel before is p next e = subst (Turn o) (sym e.is) (record {
    parcel = parcel;
    is_back = record { addressed = is.holds_reply.addressed; back = is.holds_reply.back };
    of_run = e.to.sent_back.of_run ∙ sym (ap (λ (h : HistoryView). h.seen.run) p.refuses.0.1) ∙ went.sums.given.run ∙ went.begins.of_run;
    of_issue = refl;
    it = e.to.sent_back.it;
    waiting = e.to.sent_back.waiting;
    of_agent = e.to.sent_back.of_agent;
    reads = e.to.read_is.reads;
    final = e.to.read_is.final;
    taken_last = hand-since o beat parcel before is.holds_reply.phase;
  })

  -- and the act on it
  pub tried-act : (o : World) (beat : ℕ) (parcel : Parcel) (v next : ActuatorView) (needed : ℕ) → FailsToAct beat parcel v next (act_error.Full needed) (past limit.Journal) o went.to → TriedAct o went.to
  tried-act o beat parcel v next needed is = record {
    beat = beat;
    parcel = parcel;
    in_hand = is.holds_command.phase;
    is_command = record { addressed = is.holds_command.addressed; command = is.holds_command.command };
    engine = is.engine;
    v = v;
    next = next;
    needed = needed;
    passes = is.why.0;
    site = is.refuses.site;
    acts = ap (λ (x : ActuatorView). x.acts) is.refuses.view;
    filters = is.filters;
  }

  tried : (o : World) (what : LimitKind) → Steps went.start o → PassesAt o went.to what → TriedNext (Turn o) o went.to ⊎ TriedAct o went.to
  tried o what before (by_begin other is p) =
      inl (tried-next _ (Turn o) other o went.to (begins_now o.engine.history o.site.clock.now) (λ next e. subst (Turn o) (sym e.is) tt) p)
  tried o what before (by_move other is p) = inl (tried-next _ (Turn o) other o went.to (moves_now o.engine.history o.site.clock.now)
      (λ next e. of-move start old.link.taken o.site.link.taken o.engine.history.seen o.site.clock.now e.move next e.is (e.move, e.enabled, e.is)) p)
  tried o what before (by_upgrade other issue told is p) = inl (tried-next _ (Turn o) other o went.to (λ next e. ap moment_of e)
      (λ next e. subst (Turn o) (sym e) (inr (issue, told, told-at o issue told p.notes is.to_be_told))) p)
  tried o what before (by_told other issue told is p) = inl (tried-next _ (Turn o) other o went.to (λ next e. ap moment_of e)
      (λ next e. subst (Turn o) (sym e) (told, told-at o issue told p.notes is.to_be_told, refl, refl)) p)
  tried o what before (by_expire other issue is p) = inl (tried-next _ (Turn o) other o went.to (λ next e. ap moment_of e)
      (λ next e. subst (Turn o) (sym e) (idle-at o p.notes is.overdue.untold)) p)
  tried o what before (by_reply other beat parcel is p) = inl (tried-next _ (Turn o) other o went.to (replies_now o.engine.history parcel o.site.clock.now) (reply-turn o other beat parcel before is p) p)
  tried o what before (by_act beat parcel v next needed is) = inr (tried-act o beat parcel v next needed is)

  abbrev pub next-so : IsStopped went.to → (o : World) → TriedNext (Turn o) o went.to → NextPasses start old mid
  next-so stopped o t = record {
    could = could-so stopped;
    next = t.next;
    edits = t.edits;
    now = t.now ∙ now-is o t.site;
    takes = subst (λ (h : HistoryView). taken (flow_of h) t.next ≡ Some t.edits) (sym t.same) t.takes;
    in_turn = subst (λ (s : SiteView). ComesInTurn start old.link.taken s.link.taken went.to.engine.history.seen s.clock.now t.next) (sym t.site ∙ went.to_is)
        (subst (λ (h : HistoryView). ComesInTurn start old.link.taken o.site.link.taken h.seen o.site.clock.now t.next) (sym t.same) t.turn);
    passes = some-kind (limit_of went.to.engine.history t.next t.edits) t.what (subst (λ (h : HistoryView). limit_of h t.next t.edits ≡ Some t.what) (sym t.same) t.passes);
  }

  pub act-so : IsStopped went.to → (o : World) (what : LimitKind) → Steps went.start o → IsRefusal (error.Limit what) went.to → TriedAct o went.to → NextActPasses start old mid
  act-so stopped o what before is t = record {
    could = could-so stopped;
    begun = λ none. turn.0.may.begun (sym (ap (λ (v : EngineView). v.history.records) t.engine) ∙ none);
    parcel = t.parcel;
    is_command = t.is_command;
    taken_last = subst (λ (s : SiteView). IsTakenLast t.parcel old.link.taken s.link.taken) (sym t.site ∙ went.to_is)
        (hand-since o t.beat t.parcel before t.in_hand);
    acts = f.v.acts;
    are = acts_of_layout (mid.disk.reads t.parcel.agent) f.v.acts f.history.ranges f.holds;
    is_new = subst (λ (l : List Act). IsNew l t.parcel.run t.parcel.issue) (sym same) t.passes.is_new;
    past = subst (λ (l : List Act). 67_108_864 < length_with l (act_for l t.parcel mid.clock.now)) (sym same)
        (subst (λ (n : ℕ). 67_108_864 < length_with t.v.acts (act_for t.v.acts t.parcel n)) (now-is o t.site) over);
  }
    where
      turn : TurnAt (holds t.beat t.parcel) o
      turn = subst (λ (p : Phase). TurnAt p o) t.in_hand (steps_in_turn went.start o went.begins.phase before)

      f : HoldsFilter given start.run start.most answers old mid sound told went t.parcel.agent
      f = stands-filter given start.run start.most answers old mid sound told went (past-unsure given start.run start.most answers old mid sound told went what is)
          t.parcel.agent (t.is_command.addressed.low, t.is_command.addressed.high)

      placed : ((t.parcel.agent - 1 ≡ t.parcel.agent - 1) × (t.next ≡ f.v)) ⊎ ((t.parcel.agent - 1 ≢ t.parcel.agent - 1) × (slice_get o.filters (t.parcel.agent - 1) ≡ Some f.v)) → t.next ≡ f.v
      placed (inl here) = here.1
      placed (inr apart) = absurd (apart.0 refl)

      same : f.v.acts ≡ t.v.acts
      same = sym (ap (λ (x : ActuatorView). x.acts) (placed (get_set o.filters (t.parcel.agent - 1) (t.parcel.agent - 1) t.next f.v
          (subst (λ (l : List ActuatorView). slice_get l (t.parcel.agent - 1) ≡ Some f.v) t.filters f.there)))) ∙ t.acts

      over : 67_108_864 < length_with t.v.acts (act_for t.v.acts t.parcel o.site.clock.now)
      over = let past_ = t.passes.past in let needed = t.passes.is in omega (arith, past_, needed)

  late-so : last_moment < went.to.site.clock.now → IsLateSo start mid
  late-so late = record {
    how = outcome went.to.engine.history.seen.lists;
    reads = run-so (outcome went.to.engine.history.seen.lists) refl;
    late = subst (λ (s : SiteView). 9_000_000_000_000_000 < s.clock.now) went.to_is late;
  }

  least-due : (at moment : ℕ) (resend : Option (ℕ × ℕ)) → moment ≡ option_map_or (λ (next : ℕ × ℕ). min at next.0) resend at → last_moment < moment → last_moment < at
  least-due at moment None is late = let same : moment ≡ at = is in omega (arith, same, late)
  least-due at moment (Some next) is late = let same : moment ≡ min at next.0 = is in omega (arith, same, late)

  due-so : IsStopped went.to → (o : World) (moment : ℕ) → FindsLate moment o went.to → DuePasses start old mid
  due-so stopped o moment f = record {
    could = could-so stopped;
    idle = subst (λ (s : SiteView). IsIdleNow start went.to.engine.history.seen s.clock.now) (sym f.only.site ∙ went.to_is)
        (subst (λ (v : EngineView). IsIdleNow start v.history.seen o.site.clock.now) (sym f.only.sides.engine) (idle-at o f.only.notes f.next.up_to_date.on_time.untold));
    at = f.next.at;
    due_is = subst (λ (v : EngineView). due v.history.seen ≡ Some f.next.at) (sym f.only.sides.engine) f.next.due_is;
    late = least-due f.next.at moment f.next.up_to_date.resend f.next.is f.late;
  }

  pub phase-is : (what : LimitKind) (is : IsRefusal (error.Limit what) went.to) → went.to.phase ≡ refused (past what) is.lacks
  phase-is what is = is.phase ∙ ap (λ (c : Cause). refused c is.lacks)
      (cause-past given start.run start.most answers old mid sound told went what is.cause is.is)

  tried-so : IsStopped went.to → (what : LimitKind) → IsRefusal (error.Limit what) went.to → (o : World) → Steps went.start o → TriedNext (Turn o) o went.to ⊎ TriedAct o went.to → WouldPassSo start old mid
  tried-so stopped what is o before (inl t) = inr (inr (inl (next-so stopped o t)))
  tried-so stopped what is o before (inr t) = inr (inr (inr (act-so stopped o what before is t)))

  stopped-so : IsStopped went.to → (what : LimitKind) → IsRefusal (error.Limit what) went.to → (o : World) → Steps went.start o → PastBy o went.to what → WouldPassSo start old mid
  stopped-so stopped what is o before (inl late) = inl (late-so late.0)
  stopped-so stopped what is o before (inr (inl (moment, f))) = inr (inl (due-so stopped o moment f))
  stopped-so stopped what is o before (inr (inr p)) = tried-so stopped what is o before (tried o what before p)

  -- which of them
  pub would-pass : (what : LimitKind) → IsRefusal (error.Limit what) went.to → WouldPassSo start old mid
  would-pass what is = elim (past-stops went.start went.to what is.lacks went.begins.phase went.steps (phase-is what is)) [
    | inl late ↦ inl (late-so late)
    | inr stopped ↦ let last = past-by went.start went.to what is.lacks went.begins.phase went.steps (phase-is what is) in stopped-so stopped what is last.old last.before last.by
  ]
