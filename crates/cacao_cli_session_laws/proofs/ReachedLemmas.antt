-- A session that goes on came to each moment that it asked the clock for; so did one that a limit stopped, or the clock is past the limit.
use Rattle.std.proofs.Common.{◌≡◌, ◌≢◌, ◌⊎◌, inl, inr, ◌∙◌, refl, sym, ap, subst, arith, ℕ, ◌<◌, ◌≤◌, Bool, true, false, List, [], None}
use Rattle.std.specs.Prelude.{nat_lt, if◌then◌else◌}
use Rattle.cacao_site.specs.View.{ClockView, SiteView}
use Rattle.cacao_site.specs.declared.parcel.Parcel.{Parcel}
use Rattle.run_records.specs.Ranges.{last_moment}
use Rattle.run_records.specs.declared.record.Record.{Record}
use Rattle.flow_core.specs.declared.flow_errors.LimitKind.{LimitKind}
use Rattle.flow_core.specs.declared.flow_errors.LimitKind.TheVariants as limit
use Rattle.flow_core_rules.specs.Changes.{outcome}
use Rattle.flow_core_rules.specs.Givens.{Given}
use Rattle.flow_core_rules.specs.State.{Shown}
use Rattle.flow_engine_answers.specs.declared.answers.OperatorAnswer.{OperatorAnswer}
use Rattle.flow_engine_history.specs.HistoryView.{HistoryView}
use Rattle.flow_engine_history.specs.Histories.{IsSoFar}
use Rattle.flow_engine.specs.EngineView.{EngineView}
use Rattle.slpf_actuator.specs.ActuatorView.{ActuatorView}
use Rattle.slpf_actuator.specs.declared.error.ActError.{ActError}
use Rattle.slpf_actuator.specs.declared.error.ActError.TheVariants as act_error
use Rattle.flow_world_steps.specs.Appends.{HasPassedLimit, Tries}
use Rattle.flow_world_steps.specs.Appends.Tries.{done, failed, limited}
use Rattle.flow_world_steps.specs.Steps.{AsksClock, FailsToAct, FindsLate, GoesTowards, OpensClock, Step, Steps}
use Rattle.flow_world_steps.specs.Steps.Step.{opens_clock, finds_run_used, asks_clock, finds_late, begins, moves, upgrades, tells, expires, says, fails_to_say, puts_first, resends, takes, finds_none, fails_to_take, drops, replies, ignores_reply, acts_on, repeats_reply, fails_to_act, wants_memory_now}
use Rattle.flow_world_steps.specs.Steps.Steps.{nothing, and_then}
use Rattle.flow_world_steps.specs.Worlds.{Cause, IsGoing, Notes, Phase, World, disk_failed, holds, looked, not_said, opened, owes, past, refused, rests, run_used, waits, wants_memory}
use Rattle.flow_world_steps.proofs.Adding.{fails_clock}
use Rattle.flow_world_steps.proofs.Ended.{going_as, steps_end}
use Rattle.flow_world_steps.proofs.Failing.{fails_notes}
use Rattle.flow_world_steps.proofs.Timely.{goes_reached}
use Rattle.flow_world.specs.Closes.{IsClose}
use Rattle.flow_world.specs.Close.{Close}
use Rattle.flow_world.specs.Close.TheVariants as close
use Rattle.flow_world.specs.Sessions.{HasClosed}
use Rattle.flow_world_laws.specs.Ends.{IsInTurn, PassesAt, TurnAt}
use Rattle.flow_world_laws.specs.Ends.PassesAt.{by_begin, by_move, by_upgrade, by_told, by_expire, by_reply, by_act}
use Rattle.flow_world_laws.proofs.Shown.{steps_in_turn}
use Rattle.cacao_cli_session_laws.proofs.SpentLemmas.{unlike, unlike-cause}

-- ---- a session that goes on

abbrev pub HasCome : World → Type 0
HasCome w = IsGoing w.phase → w.phase ≢ opened → w.site.clock.asked ≤ w.site.clock.now

-- it was so at a phase that goes on and is no opening
was-come : (w : World) (p : Phase) → w.phase ≡ p → IsGoing p → (p ≡ opened → ⊥) → HasCome w → w.site.clock.asked ≤ w.site.clock.now
was-come w p at going not come = come (subst IsGoing (sym at) going) (λ e. not (sym at ∙ e))

same-come : (old new : World) → new.site.clock.asked ≡ old.site.clock.asked → new.site.clock.now ≡ old.site.clock.now → old.site.clock.asked ≤ old.site.clock.now → new.site.clock.asked ≤ new.site.clock.now
same-come old new asked now le = omega (arith, asked, now, le)

clock-come : (old new : World) → new.site.clock ≡ old.site.clock → old.site.clock.asked ≤ old.site.clock.now → new.site.clock.asked ≤ new.site.clock.now
clock-come old new e le = same-come old new (ap (λ (c : ClockView). c.asked) e) (ap (λ (c : ClockView). c.now) e) le

site-come : (old new : World) → new.site ≡ old.site → old.site.clock.asked ≤ old.site.clock.now → new.site.clock.asked ≤ new.site.clock.now
site-come old new e le = clock-come old new (ap (λ (s : SiteView). s.clock) e) le

over : (new : World) (cause : Cause) (lacks : Bool) → new.phase ≡ refused cause lacks → HasCome new
over new cause lacks at going = absurd (subst IsGoing at going)

towards : (moment answer : ℕ) (old new : World) → GoesTowards moment answer old new → HasCome new
towards moment answer old new is going not =
    let reached = (goes_reached moment answer old new is going).reached in
    let asked = is.reaches.asked in
    let now = is.reaches.now in
    omega (arith, reached, asked, now)

tried-come : (IsNext : Record → Type 0) (old new : World) → Tries IsNext old new → old.site.clock.asked ≤ old.site.clock.now → HasCome new
tried-come IsNext old new (done is) le = λ going not. clock-come old new is.appends.adds.offers.file.rest.clock le
tried-come IsNext old new (failed is) le = over new _ _ is.phase
tried-come IsNext old new (limited what is) le = over new _ _ is.phase

step-come : (old new : World) → HasCome old → Step old new → HasCome new
step-come old new come (opens_clock answer is) = towards _ answer old new is.goes
step-come old new come (finds_run_used agent is) = over new _ _ is.only.phase
step-come old new come (asks_clock moment answer is) = towards moment answer old new is.goes
step-come old new come (finds_late moment is) = over new _ _ is.only.phase
step-come old new come (begins is) = tried-come _ old new is.tries (was-come old rests is.phase tt (λ e. cc) come)
step-come old new come (moves is) = tried-come _ old new is.tries (was-come old looked is.has_looked.phase tt (λ e. cc) come)
step-come old new come (upgrades issue told is) = tried-come _ old new is.tries (was-come old looked is.to_be_told.idle.has_looked.phase tt (λ e. cc) come)
step-come old new come (tells issue told is) = tried-come _ old new is.tries (was-come old looked is.to_be_told.idle.has_looked.phase tt (λ e. cc) come)
step-come old new come (expires issue is) = tried-come _ old new is.tries (was-come old looked is.overdue.untold.idle.has_looked.phase tt (λ e. cc) come)
step-come old new come (says bytes is) = λ going not.
    same-come old new is.speaks.only.time.asked is.speaks.only.time.now (was-come old owes is.speaks.phase tt (λ e. cc) come)
step-come old new come (fails_to_say bytes is) = over new _ _ is.phase
step-come old new come (puts_first issue is) = λ going not.
    same-come old new is.puts.sends.put.time.asked is.puts.sends.put.time.now (was-come old rests is.phase tt (λ e. cc) come)
step-come old new come (resends issue is) = λ going not.
    same-come old new is.puts.sends.put.time.asked is.puts.sends.put.time.now (was-come old looked is.due.on_time.untold.idle.has_looked.phase tt (λ e. cc) come)
step-come old new come (takes parcel is) = λ going not. same-come old new is.only.time.asked is.only.time.now (was-come old rests is.turn.phase tt (λ e. cc) come)
step-come old new come (finds_none is) = λ going not. same-come old new is.only.time.asked is.only.time.now (was-come old rests is.turn.phase tt (λ e. cc) come)
step-come old new come (fails_to_take is) = over new _ _ is.phase
step-come old new come (drops beat parcel is) = λ going not. site-come old new is.site (was-come old (holds beat parcel) is.phase tt (λ e. cc) come)
step-come old new come (replies beat parcel is) = tried-come _ old new is.tries (was-come old (holds beat parcel) is.holds_reply.phase tt (λ e. cc) come)
step-come old new come (ignores_reply beat parcel is) = λ going not. site-come old new is.site (was-come old (holds beat parcel) is.holds_reply.phase tt (λ e. cc) come)
step-come old new come (acts_on beat parcel v w is) = λ going not.
    same-come old new (is.acts.puts.time.asked ∙ ap (λ (c : ClockView). c.asked) is.acts.offers.adds.file.rest.clock)
    (is.acts.puts.time.now ∙ ap (λ (c : ClockView). c.now) is.acts.offers.adds.file.rest.clock) (was-come old (holds beat parcel) is.holds_command.phase tt (λ e. cc) come)
step-come old new come (repeats_reply beat parcel v w is) = λ going not.
    same-come old new is.repeats.puts.time.asked is.repeats.puts.time.now (was-come old (holds beat parcel) is.holds_command.phase tt (λ e. cc) come)
step-come old new come (fails_to_act beat parcel v w error cause is) = over new _ _ is.phase
step-come old new come (wants_memory_now is) = over new _ _ is.only.phase

pub steps-come : (a b : World) → a.phase ≡ opened → Steps a b → HasCome b
steps-come a b first nothing = λ going not. absurd (not first)
steps-come a b first (and_then {mid} steps step) = step-come mid b (steps-come a mid first steps) step

-- so it is where it closed, but for one that waits
closes-come : (how : Close) (w : World) → IsClose how w → ((moment : ℕ) → how ≡ close.Waiting moment → ⊥) → HasCome w → w.site.clock.asked ≤ w.site.clock.now
closes-come (close.Ended well) w c not come = was-come w rests c.turn.phase tt (λ e. cc) come
closes-come close.Paused w c not come = was-come w rests c.turn.phase tt (λ e. cc) come
closes-come (close.Waiting moment) w c not come = absurd (not moment refl)
closes-come close.Flooded w c not come = was-come w rests c.phase tt (λ e. cc) come
closes-come (close.Asked issue) w c not come = was-come w looked c.untold.idle.has_looked.phase tt (λ e. cc) come

pub closed-come : (how : Close) (given : Given) (run most : ℕ) (answers : List OperatorAnswer) (old mid : SiteView) → HasClosed how given run most answers old mid
    → ((moment : ℕ) → how ≡ close.Waiting moment → ⊥) → mid.clock.asked ≤ mid.clock.now
closed-come how given run most answers old mid h not =
    subst (λ (s : SiteView). s.clock.asked ≤ s.clock.now) h.went.to_is
    (closes-come how h.went.to h.closes not (steps-come h.went.start h.went.to h.went.begins.phase h.went.steps))

-- ---- one that a limit stopped

pub blank-goes : (records : List Record) (seen : Shown) → IsSoFar records seen → records ≡ [] → outcome seen.lists ≡ None
blank-goes records seen is none = ap (λ (s : Shown). outcome s.lists) (subst (λ (l : List Record). IsSoFar l seen) none is)

-- the run goes on, a record more may be appended, and the clock came to the moment that it was asked for last
pub record IsStopped (w : World) : Type 0 where
  pub goes_on : outcome w.engine.history.seen.lists ≡ None
  pub budget : 1 ≤ w.notes.left
  pub reached : w.site.clock.asked ≤ w.site.clock.now

-- past the limit, or so
abbrev pub Stops : World → Type 0
Stops w = (last_moment < w.site.clock.now) ⊎ IsStopped w

-- the clock answered past the limit, or it would not be refused for that
late-answer : (moment answer : ℕ) (old new : World) (what : LimitKind) (lacks : Bool) → GoesTowards moment answer old new → new.phase ≡ refused (past what) lacks → last_moment < new.site.clock.now
late-answer moment answer old new what lacks is at = by (nat_lt last_moment answer) (nat_lt answer moment) refl (sym is.phase ∙ at)
  where
    less : (a b : ℕ) → nat_lt a b ≡ true → a < b
    less a b h = grind arith

    by : (p q : Bool) → nat_lt last_moment answer ≡ p → (if p then refused (past limit.Moment) false else if q then waits moment else rests) ≡ refused (past what) lacks → last_moment < new.site.clock.now
    by true q e f = let now = is.reaches.now in let late = less last_moment answer e in omega (arith, now, late)
    by false true e f = absurd (cc)
    by false false e f = absurd (cc)

module _ (old new : World) (what : LimitKind) (lacks : Bool) (at : new.phase ≡ refused (past what) lacks) where
  stays : outcome old.engine.history.seen.lists ≡ None → 1 ≤ old.notes.left → old.site.clock.asked ≤ old.site.clock.now
      → new.engine.history ≡ old.engine.history → new.notes.left ≡ old.notes.left → new.site.clock ≡ old.site.clock → Stops new
  stays goes_on left come engine notes clock = inr (record {
    goes_on = ap (λ (h : HistoryView). outcome h.seen.lists) engine ∙ goes_on;
    budget = omega (arith, left, notes);
    reached = clock-come old new clock come;
  })

  tried-stops : (IsNext : Record → Type 0) → Tries IsNext old new → outcome old.engine.history.seen.lists ≡ None → 1 ≤ old.notes.left → old.site.clock.asked ≤ old.site.clock.now → Stops new
  tried-stops IsNext (done is) goes_on left come = absurd (unlike new.phase owes what lacks (λ e. cc) is.phase at)
  tried-stops IsNext (failed is) goes_on left come = absurd (unlike-cause new.phase disk_failed false what lacks (λ e. cc) is.phase at)
  tried-stops IsNext (limited kind is) goes_on left come =
      stays goes_on left come is.refuses.0.1 (ap (λ (n : Notes). n.left) is.notes) (ap (λ (s : SiteView). s.clock) is.refuses.0.2)

  module _ (come : HasCome old) (turn : TurnAt old.phase old) where
    here : (p : Phase) → old.phase ≡ p → IsGoing p → (p ≡ opened → ⊥) → old.site.clock.asked ≤ old.site.clock.now
    here p e going not = was-come old p e going not come

    looks : old.phase ≡ looked → IsInTurn old
    looks e = subst (λ (p : Phase). TurnAt p old) e turn

    has : (beat : ℕ) (parcel : Parcel) → old.phase ≡ holds beat parcel → IsInTurn old
    has beat parcel e = (subst (λ (p : Phase). TurnAt p old) e turn).0

    looked-stops : (IsNext : Record → Type 0) → old.phase ≡ looked → Tries IsNext old new → Stops new
    looked-stops IsNext e tries = let t = looks e in tried-stops IsNext tries t.may.goes_on t.may.budget (here looked e tt (λ f. cc))

    step-stops : Step old new → Stops new
    step-stops (opens_clock answer is) = inl (late-answer _ answer old new what lacks is.goes at)
    step-stops (finds_run_used agent is) = absurd (unlike-cause new.phase (run_used agent) false what lacks (λ e. cc) is.only.phase at)
    step-stops (asks_clock moment answer is) = inl (late-answer moment answer old new what lacks is.goes at)
    step-stops (finds_late moment is) =
        let phase = is.next.up_to_date.on_time.untold.idle.has_looked.phase in
        let t = looks phase in
        stays t.may.goes_on t.may.budget (here looked phase tt (λ f. cc)) (ap (λ (v : EngineView). v.history) is.only.sides.engine) (ap (λ (n : Notes). n.left) is.only.notes)
        (ap (λ (s : SiteView). s.clock) is.only.site)
    step-stops (begins is) = tried-stops _ is.tries (blank-goes old.engine.history.records old.engine.history.seen is.whole.engine.history.so_far is.empty) is.budget (here rests is.phase tt (λ f. cc))
    step-stops (moves is) = looked-stops _ is.has_looked.phase is.tries
    step-stops (upgrades issue told is) = looked-stops _ is.to_be_told.idle.has_looked.phase is.tries
    step-stops (tells issue told is) = looked-stops _ is.to_be_told.idle.has_looked.phase is.tries
    step-stops (expires issue is) = looked-stops _ is.overdue.untold.idle.has_looked.phase is.tries
    step-stops (says bytes is) = absurd (unlike new.phase rests what lacks (λ e. cc) is.phase at)
    step-stops (fails_to_say bytes is) = absurd (unlike-cause new.phase not_said true what lacks (λ e. cc) is.phase at)
    step-stops (puts_first issue is) = absurd (unlike new.phase rests what lacks (λ e. cc) is.puts.phase at)
    step-stops (resends issue is) = absurd (unlike new.phase rests what lacks (λ e. cc) is.puts.phase at)
    step-stops (takes parcel is) = absurd (unlike new.phase (holds new.site.disk.beat parcel) what lacks (λ e. cc) is.phase at)
    step-stops (finds_none is) = absurd (unlike new.phase looked what lacks (λ e. cc) is.phase at)
    step-stops (fails_to_take is) = absurd (unlike-cause new.phase wants_memory false what lacks (λ e. cc) is.phase at)
    step-stops (drops beat parcel is) = absurd (unlike new.phase rests what lacks (λ e. cc) is.ignores.phase at)
    step-stops (replies beat parcel is) =
        tried-stops _ is.tries (has beat parcel is.holds_reply.phase).may.goes_on is.budget (here (holds beat parcel) is.holds_reply.phase tt (λ f. cc))
    step-stops (ignores_reply beat parcel is) = absurd (unlike new.phase rests what lacks (λ e. cc) is.ignores.phase at)
    step-stops (acts_on beat parcel v w is) = absurd (unlike new.phase rests what lacks (λ e. cc) is.phase at)
    step-stops (repeats_reply beat parcel v w is) = absurd (unlike new.phase rests what lacks (λ e. cc) is.ignores.phase at)
    step-stops (fails_to_act beat parcel v w error cause is) =
        let t = has beat parcel is.holds_command.phase in
        stays t.may.goes_on t.may.budget (here (holds beat parcel) is.holds_command.phase tt (λ f. cc)) (ap (λ (v : EngineView). v.history) is.engine)
        (ap (λ (n : Notes). n.left) (fails_notes error parcel v old new is.notes)) (fails_clock v parcel old.site.clock.now old.site new.site error is.refuses.site)
    step-stops (wants_memory_now is) = absurd (unlike-cause new.phase wants_memory _ what lacks (λ e. cc) is.only.phase at)

pub past-stops : (a b : World) (what : LimitKind) (lacks : Bool) → a.phase ≡ opened → Steps a b → b.phase ≡ refused (past what) lacks → Stops b
past-stops a b what lacks first steps at =
    let last = steps_end a b (going_as a.phase opened first tt) steps (λ going. subst IsGoing at going) in
    step-stops last.old b what lacks at (steps-come a last.old first last.before) (steps_in_turn a last.old first last.before) last.step

-- ---- by which step

-- the clock was asked, at the opening or in a turn
abbrev pub AsksTime : World → World → Type 0
AsksTime old new = ((answer : ℕ) × OpensClock answer old new) ⊎ ((moment : ℕ) × (answer : ℕ) × AsksClock moment answer old new)

-- the clock is past the limit, or what comes next is, or a record or an act would pass it
abbrev pub PastBy : World → World → LimitKind → Type 0
PastBy old new what = ((last_moment < new.site.clock.now) × AsksTime old new) ⊎ (((moment : ℕ) × FindsLate moment old new) ⊎ PassesAt old new what)

same-past : (a b : LimitKind) (x y : Bool) → refused (past a) x ≡ refused (past b) y → a ≡ b
same-past a b x y e = cc

same-kind : (a b : LimitKind) → past a ≡ past b → a ≡ b
same-kind a b e = cc

act-past : (error : ActError) (beat : ℕ) (parcel : Parcel) (v w : ActuatorView) (cause : Cause) (what : LimitKind) (old new : World) → FailsToAct beat parcel v w error cause old new → cause ≡ past what
    → PassesAt old new what
act-past act_error.Disk beat parcel v w cause what old new is e = absurd (let f : disk_failed ≡ past what = sym is.why.1 ∙ e in cc)
act-past (act_error.Full needed) beat parcel v w cause what old new is e = subst (λ (k : LimitKind). PassesAt old new k) (same-kind limit.Journal what (sym is.why.1 ∙ e))
    (by_act beat parcel v w needed (subst (λ (c : Cause). FailsToAct beat parcel v w (act_error.Full needed) c old new) is.why.1 is))
act-past act_error.Memory beat parcel v w cause what old new is e = absurd (let f : wants_memory ≡ past what = sym is.why ∙ e in cc)
act-past (act_error.Damaged place) beat parcel v w cause what old new is e = absurd is.why
act-past act_error.Broken beat parcel v w cause what old new is e = absurd is.why

module _ (old new : World) (what : LimitKind) (lacks : Bool) (at : new.phase ≡ refused (past what) lacks) where
  tried-past : (IsNext : Record → Type 0) → Tries IsNext old new → ((kind : LimitKind) → HasPassedLimit IsNext kind old new → PassesAt old new kind) → PastBy old new what
  tried-past IsNext (done is) passes = absurd (unlike new.phase owes what lacks (λ e. cc) is.phase at)
  tried-past IsNext (failed is) passes = absurd (unlike-cause new.phase disk_failed false what lacks (λ e. cc) is.phase at)
  tried-past IsNext (limited kind is) passes =
      inr (inr (subst (λ (k : LimitKind). PassesAt old new k) (same-past kind what false lacks (sym is.phase ∙ at)) (passes kind is)))

  same-act-cause : (cause : Cause) → new.phase ≡ refused cause false → cause ≡ past what
  same-act-cause cause e = same (sym e ∙ at)
    where
      same : refused cause false ≡ refused (past what) lacks → cause ≡ past what
      same e = cc

  step-past : Step old new → PastBy old new what
  step-past (opens_clock answer is) = inl (late-answer _ answer old new what lacks is.goes at, inl (answer, is))
  step-past (finds_run_used agent is) = absurd (unlike-cause new.phase (run_used agent) false what lacks (λ e. cc) is.only.phase at)
  step-past (asks_clock moment answer is) = inl (late-answer moment answer old new what lacks is.goes at, inr (moment, answer, is))
  step-past (finds_late moment is) = inr (inl (moment, is))
  step-past (begins is) = tried-past _ is.tries (λ kind p. by_begin kind is p)
  step-past (moves is) = tried-past _ is.tries (λ kind p. by_move kind is p)
  step-past (upgrades issue told is) = tried-past _ is.tries (λ kind p. by_upgrade kind issue told is p)
  step-past (tells issue told is) = tried-past _ is.tries (λ kind p. by_told kind issue told is p)
  step-past (expires issue is) = tried-past _ is.tries (λ kind p. by_expire kind issue is p)
  step-past (says bytes is) = absurd (unlike new.phase rests what lacks (λ e. cc) is.phase at)
  step-past (fails_to_say bytes is) = absurd (unlike-cause new.phase not_said true what lacks (λ e. cc) is.phase at)
  step-past (puts_first issue is) = absurd (unlike new.phase rests what lacks (λ e. cc) is.puts.phase at)
  step-past (resends issue is) = absurd (unlike new.phase rests what lacks (λ e. cc) is.puts.phase at)
  step-past (takes parcel is) = absurd (unlike new.phase (holds new.site.disk.beat parcel) what lacks (λ e. cc) is.phase at)
  step-past (finds_none is) = absurd (unlike new.phase looked what lacks (λ e. cc) is.phase at)
  step-past (fails_to_take is) = absurd (unlike-cause new.phase wants_memory false what lacks (λ e. cc) is.phase at)
  step-past (drops beat parcel is) = absurd (unlike new.phase rests what lacks (λ e. cc) is.ignores.phase at)
  step-past (replies beat parcel is) = tried-past _ is.tries (λ kind p. by_reply kind beat parcel is p)
  step-past (ignores_reply beat parcel is) = absurd (unlike new.phase rests what lacks (λ e. cc) is.ignores.phase at)
  step-past (acts_on beat parcel v w is) = absurd (unlike new.phase rests what lacks (λ e. cc) is.phase at)
  step-past (repeats_reply beat parcel v w is) = absurd (unlike new.phase rests what lacks (λ e. cc) is.ignores.phase at)
  step-past (fails_to_act beat parcel v w error cause is) = inr (inr (act-past error beat parcel v w cause what old new is (same-act-cause cause is.phase)))
  step-past (wants_memory_now is) = absurd (unlike-cause new.phase wants_memory _ what lacks (λ e. cc) is.only.phase at)

-- the last step of a session that a limit stopped
pub record LastPast (a b : World) (what : LimitKind) : Type 0 where
  pub old : World
  pub before : Steps a old
  pub by : PastBy old b what

pub past-by : (a b : World) (what : LimitKind) (lacks : Bool) → a.phase ≡ opened → Steps a b → b.phase ≡ refused (past what) lacks → LastPast a b what
past-by a b what lacks first steps at =
    let last = steps_end a b (going_as a.phase opened first tt) steps (λ going. subst IsGoing at going) in
    record { old = last.old; before = last.before; by = step-past last.old b what lacks at last.step }
