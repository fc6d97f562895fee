-- What a run that may go on, and the clock, tell of the status of a session.
use Rattle.std.proofs.Common.{◌≡◌, ◌≢◌, ◌⊎◌, inl, inr, ◌∙◌, refl, sym, ap, subst, arith, ℕ, ◌<◌, ◌≤◌, Bool, true, false, cond, List, [], ◌∷◌, length, Option, Some, None}
use Rattle.std.specs.Prelude.{IsSome, IsTrue, nat_lt, if◌then◌else◌}
use Rattle.cacao_site.specs.View.{SiteView}
use Rattle.run_records.specs.Ranges.{last_moment}
use Rattle.flow_core.specs.SetupLaws.{AcceptedIsRunnable}
use Rattle.flow_core.specs.declared.flow_errors.LimitKind.TheVariants as limit
use Rattle.flow_core_rules.specs.Changes.{is_in_time, outcome}
use Rattle.flow_core_rules.specs.Givens.{Given}
use Rattle.flow_core_rules.specs.Moves.{due, enabled_move, first_move}
use Rattle.flow_core_rules.specs.State.{Shown}
use Rattle.flow_engine_answers.specs.declared.answers.OperatorAnswer.{OperatorAnswer}
use Rattle.flow_engine.specs.EngineView.{EngineView}
use Rattle.flow_laws.proofs.OneList.{same_records}
use Rattle.flow_world_steps.specs.Causes.{AskedFirst, AskedLast, IsResendNear, IsShort, Shows}
use Rattle.flow_world_steps.specs.Steps.{GoesTowards, after_reach}
use Rattle.flow_world_steps.specs.Turns.{most_ignored}
use Rattle.flow_world_steps.specs.Unbroken.{AreFiltersSure, IsJournalSure}
use Rattle.flow_world_steps.specs.Worlds.{IsGoing, Notes, Phase, World, looked, opened, past, refused, rests, waits}
use Rattle.flow_world_steps.proofs.Timely.{in_time_bounds, opened_in_time, steps_in_time}
use Rattle.flow_world.specs.Closes.{IsClose}
use Rattle.flow_world.specs.Sessions.{Went}
use Rattle.flow_world.specs.Close.TheVariants as close
use Rattle.flow_world_laws.specs.Ends.{IsInTurn}
use Rattle.flow_world_laws.specs.Returned.{ReadsAsRun}
use Rattle.flow_world_laws.proofs.Returning.{reads_as_one_run}
use Rattle.cacao_cli_session_laws.specs.Returning.{AsksSo, CanGoOn, FloodsSo, PassesIdle, PassesInHand, ReadsSo, TurnTells}
use Rattle.cacao_cli_ends.specs.Work.{Start}
use Rattle.cacao_cli_session_laws.proofs.FloodLemmas.{flooded-exactly, hand-empty, same-not}
use Rattle.cacao_cli_session_laws.proofs.ReturnedRuns.{ReadsImages, gained-many, reads-run, sure-holds, sure-records}
use Rattle.cacao_cli_session_laws.proofs.ReturnTells.{behind-faults}
use Rattle.cacao_cli_session_laws.proofs.WaitLemmas.{looked-going, looked-not, waits-idle}

-- ---- by the status

pub turns-past : (start : Start) (old mid : SiteView) (answer : ℕ) → answer ≡ 11 → (AsksSo start old mid → PassesIdle start old mid)
    → (FloodsSo start old mid → IsSome old.link.taken → PassesInHand start old mid) → TurnTells start old mid answer
turns-past start old mid answer is idle hand = record {
  may = λ m. inr (inr (behind-faults answer (11 ∷ 13 ∷ 14 ∷ []) (inl is)));
  asks = λ a le. inr (is, idle a);
  moves = λ m some. inl is;
  late = λ a lt. inl is;
  floods = λ f some. inr (is, hand f some);
}

pub turns-damaged : (start : Start) (old mid : SiteView) (answer : ℕ) → answer ≡ 13 → mid.link.taken ≡ old.link.taken → TurnTells start old mid answer
turns-damaged start old mid answer is same = record {
  may = λ m. inr (inr (behind-faults answer (11 ∷ 13 ∷ 14 ∷ []) (inr (inl is))));
  asks = λ a le. inl (inr (inr (behind-faults answer (13 ∷ []) (inl is))));
  moves = λ m some. inr (inr (behind-faults answer (13 ∷ []) (inl is)));
  late = λ a lt. inr (behind-faults answer (12 ∷ 13 ∷ []) (inr (inl is)));
  floods = λ f some. absurd (same-not start old mid same f some);
}

pub turns-another : (start : Start) (old mid : SiteView) (answer : ℕ) → answer ≡ 12 → (CanGoOn start old mid → ⊥) → TurnTells start old mid answer
turns-another start old mid answer is none = record {
  may = λ m. absurd (none m);
  asks = λ a le. absurd (none a.may);
  moves = λ m some. absurd (none m);
  late = λ a lt. inr (behind-faults answer (12 ∷ 13 ∷ []) (inl is));
  floods = λ f some. absurd (none f.may);
}

-- a run that may not go on, and a clock that is within the limit
turns-none : (start : Start) (old mid : SiteView) (answer : ℕ) → (CanGoOn start old mid → ⊥) → mid.clock.now ≤ last_moment → TurnTells start old mid answer
turns-none start old mid answer none within = record {
  may = λ m. absurd (none m);
  asks = λ a le. absurd (none a.may);
  moves = λ m some. absurd (none m);
  late = λ a lt. absurd (omega (arith, within, lt));
  floods = λ f some. absurd (none f.may);
}

-- ---- the clock

not-yet : (s : Shown) (now : ℕ) → now < s.moment → enabled_move s now ≡ None
not-yet s now lt = by (is_in_time s now) refl
  where
    by : (b : Bool) → is_in_time s now ≡ b → cond b (first_move s now 0 s.lists.tasks) None ≡ None
    by true e = let bounds = in_time_bounds s now e in absurd (omega (arith, bounds.0, lt))
    by false e = refl

-- the clock that answers too early is within the limit
waits-within : (moment answer due_ : ℕ) → after_reach moment answer ≡ waits due_ → answer ≤ last_moment
waits-within moment answer due_ = by (nat_lt last_moment answer) (nat_lt answer moment) refl
  where
    not-less : (a b : ℕ) → nat_lt a b ≡ false → b ≤ a
    not-less a b h = grind arith

    apart : refused (past limit.Moment) false ≡ waits due_ → ⊥
    apart h = cc

    by : (a b : Bool) → nat_lt last_moment answer ≡ a → (if a then refused (past limit.Moment) false else if b then waits moment else rests) ≡ waits due_ → answer ≤ last_moment
    by true b e f = absurd (apart f)
    by false b e f = not-less last_moment answer e

no-due : (at : ℕ) → Some at ≡ None → ⊥
no-due at e = cc

rests-going : (p : Phase) → p ≡ rests → IsGoing p
rests-going p e = subst IsGoing (sym e) tt

rests-not : (p : Phase) → p ≡ rests → p ≢ opened
rests-not p e f = apart (sym e ∙ f)
  where
    apart : rests ≡ opened → ⊥
    apart h = cc

-- ---- sessions

module _ (start : Start) (old mid : SiteView) (sound : ReadsImages mid) (told : IsTrue mid.disk.told) (given : Given) (reads-as : (how : Option Bool) (r : ReadsSo start how mid) → ReadsAsRun given start.run mid r.seen)
    (answers : List OperatorAnswer) (went : Went given start.run start.most answers old mid) (sure : IsJournalSure went.to) where
  seen : Shown
  seen = went.to.engine.history.seen

  same-seen : (m : CanGoOn start old mid) → m.goes_on.seen ≡ went.to.engine.history.seen
  same-seen m = reads_as_one_run given start.run mid m.goes_on.seen went.to.engine.history.seen (reads-as None m.goes_on)
      (reads-run given start.run mid (sure-holds given start.run start.most answers old mid sound told went sure))

  some-none : (x : Bool) → Some x ≡ None → ⊥
  some-none x e = cc

  -- a run that has ended, one that has not begun, and one without budget may not go on
  ended-not : (well : Bool) → outcome went.to.engine.history.seen.lists ≡ Some well → CanGoOn start old mid → ⊥
  ended-not well is m = some-none well (sym is ∙ ap (λ (s : Shown). outcome s.lists) (sym (same-seen m)) ∙ m.goes_on.outcome_is)

  pub empty-not : went.to.engine.history.records ≡ [] → CanGoOn start old mid → ⊥
  empty-not none m = m.begun (same_records (mid.disk.reads 0) m.goes_on.reads.records went.to.engine.history.records m.goes_on.reads.reads
      (sure-records given start.run start.most answers old mid sound told went sure) ∙ none)

  spent-not : went.to.notes.left ≡ 0 → CanGoOn start old mid → ⊥
  spent-not none m =
      let many : m.many ≡ length went.sums.adds.added = gained-many given start.run start.most answers old mid sound told went sure m.many m.gains in
      let fewer = m.fewer in
      let budget = went.sums.budget in
      omega (arith, many, fewer, budget, none)

  now-is : went.to.site.clock.now ≡ mid.clock.now
  now-is = ap (λ (s : SiteView). s.clock.now) went.to_is

  within-at : IsGoing went.to.phase → went.to.phase ≢ opened → mid.clock.now ≤ last_moment
  within-at going not_ =
      let bounds = in_time_bounds went.to.engine.history.seen went.to.site.clock.now (steps_in_time went.start went.to (opened_in_time went.start went.begins.phase) went.steps going not_) in
      let now = now-is in
      omega (arith, bounds.1, now)

  within-rests : went.to.phase ≡ rests → mid.clock.now ≤ last_moment
  within-rests e = within-at (rests-going went.to.phase e) (rests-not went.to.phase e)

  within-looked : went.to.phase ≡ looked → mid.clock.now ≤ last_moment
  within-looked e = within-at (looked-going went.to.phase e) (looked-not went.to.phase e)

  pub turns-ended : (answer : ℕ) (well : Bool) → IsClose (close.Ended well) went.to → TurnTells start old mid answer
  turns-ended answer well c = turns-none start old mid answer (ended-not well c.outcome_is) (within-rests c.turn.phase)

  pub turns-paused : (answer : ℕ) → IsClose close.Paused went.to → TurnTells start old mid answer
  turns-paused answer c = turns-none start old mid answer (spent-not c.none_left) (within-rests c.turn.phase)

  pub turns-flooded : (answer : ℕ) → answer ≡ 15 → IsClose close.Flooded went.to → TurnTells start old mid answer
  turns-flooded answer is c = record {
    may = λ m. inl is;
    asks = λ a le. inl (inr (inl is));
    moves = λ m some. inr (inl is);
    late = λ a lt. let within = within-rests c.phase in absurd (omega (arith, within, lt));
    floods = λ f some. inl (inl is);
  }

  moves-not : enabled_move went.to.engine.history.seen mid.clock.now ≡ None → (m : CanGoOn start old mid) → enabled_move m.goes_on.seen mid.clock.now ≢ None → ⊥
  moves-not none m some = some (subst (λ (s : Shown). enabled_move s mid.clock.now ≡ None) (sym (same-seen m)) none)

  -- a session that closed in a turn was not flooded
  calm-not : AreFiltersSure went.to → went.sums.handles.at_hand ≡ [] → went.to.notes.ignored < most_ignored → FloodsSo start old mid → IsSome old.link.taken → ⊥
  calm-not filters empty calm f some =
      let many = flooded-exactly given start.run start.most answers old mid sound told went start sure filters empty f some in omega (arith, calm, many)

  pub turns-asked : (answer issue : ℕ) → answer ≡ 16 → IsClose (close.Asked issue) went.to → AreFiltersSure went.to → IsInTurn went.to → TurnTells start old mid answer
  turns-asked answer issue is c filters turn = record {
    may = λ m. inr (inl is);
    asks = λ a le. inl (inl is);
    moves = λ m some. absurd (moves-not (subst (λ (n : ℕ). enabled_move went.to.engine.history.seen n ≡ None) now-is c.untold.idle.no_move) m some);
    late = λ a lt. let within = within-looked c.untold.idle.has_looked.phase in absurd (omega (arith, within, lt));
    floods = λ f some. absurd (calm-not filters
        (hand-empty given start.run start.most answers old mid sound told went looked c.untold.idle.has_looked.phase (λ e. e)) turn.calm f some);
  }

  -- ---- where it waits

  module _ (moment : ℕ) (closes : went.to.phase ≡ waits moment) where
    is-short : IsShort went.start went.to moment
    is-short = subst (λ (p : Phase). Shows p went.start went.to) closes went.cause.shows

    short : mid.clock.now < moment
    short = subst (λ (n : ℕ). n < moment) now-is is-short.short

    within-towards : (moment answer : ℕ) (w : World) → GoesTowards moment answer w went.to → (due_ : ℕ) → went.to.phase ≡ waits due_ → mid.clock.now ≤ last_moment
    within-towards moment answer w is due_ e =
        let within = waits-within moment answer due_ (sym is.phase ∙ e) in
        let answered = is.reaches.now in
        let now = now-is in
        omega (arith, within, answered, now)

    within-waits : AskedFirst went.start went.to moment ⊎ AskedLast went.start went.to moment → mid.clock.now ≤ last_moment
    within-waits (inl f) = within-towards went.start.engine.history.seen.moment f.answer went.start f.opens.goes moment closes
    within-waits (inr l) = within-towards moment l.answer l.old l.asks.goes moment closes

    -- at the opening the clock is before the last record
    first-early : AskedFirst went.start went.to moment → mid.clock.now < went.to.engine.history.seen.moment
    first-early f =
        let same : went.to.engine.history.seen.moment ≡ went.start.engine.history.seen.moment = ap (λ (v : EngineView). v.history.seen.moment) f.opens.goes.sides.engine in
        let is = f.is in
        let early = short in
        omega (arith, same, is, early)

    asks-first : AskedFirst went.start went.to moment → (a : AsksSo start old mid) → a.may.goes_on.seen.moment ≤ mid.clock.now → ⊥
    asks-first f a le =
        let early = first-early f in
        let same : a.may.goes_on.seen.moment ≡ went.to.engine.history.seen.moment = ap (λ (s : Shown). s.moment) (same-seen a.may) in
        omega (arith, early, same, le)

    asks-last : AskedLast went.start went.to moment → AsksSo start old mid → ⊥
    asks-last l a = by (l.what went.begins.no_puts)
      where
        none : due went.to.engine.history.seen ≡ None
        none = ap due (sym (same-seen a.may)) ∙ a.nothing_due

        by : (due went.to.engine.history.seen ≡ Some moment) ⊎ IsResendNear went.to moment → ⊥
        by (inl is) = no-due moment (sym is ∙ none)
        by (inr near) = no-due near.at (sym near.due_is ∙ none)

    -- so no move is enabled
    waits-none : AcceptedIsRunnable → AskedFirst went.start went.to moment ⊎ IsInTurn went.to → AskedFirst went.start went.to moment ⊎ AskedLast went.start went.to moment
        → enabled_move went.to.engine.history.seen mid.clock.now ≡ None
    waits-none runnable (inl f) why = not-yet went.to.engine.history.seen mid.clock.now (first-early f)
    waits-none runnable (inr t) (inl f) = not-yet went.to.engine.history.seen mid.clock.now (first-early f)
    waits-none runnable (inr t) (inr l) = waits-idle given start.run start.most answers old mid went moment l runnable sure t short

    -- no parcel was taken at the opening
    waits-calm : AskedFirst went.start went.to moment ⊎ IsInTurn went.to → went.to.notes.ignored < most_ignored
    waits-calm (inl f) =
        let same : went.to.notes.ignored ≡ went.start.notes.ignored = ap (λ (n : Notes). n.ignored) f.opens.goes.notes in
        let none : went.start.notes.ignored ≡ 0 = ap (λ (n : Notes). n.ignored) went.begins.notes in
        omega (arith, same, none)
    waits-calm (inr t) = t.calm

    pub turns-waits : AcceptedIsRunnable → (answer : ℕ) → answer ≡ 14 → AreFiltersSure went.to → AskedFirst went.start went.to moment ⊎ IsInTurn went.to → TurnTells start old mid answer
    turns-waits runnable answer is filters turn = record {
      may = λ m. inr (inr (behind-faults answer (11 ∷ 13 ∷ 14 ∷ []) (inr (inr (inl is)))));
      asks = λ a le. absurd (elim is-short.why [ inl f ↦ asks-first f a le | inr l ↦ asks-last l a ]);
      moves = λ m some. absurd (moves-not (waits-none runnable turn is-short.why) m some);
      late = λ a lt. let within = within-waits is-short.why in absurd (omega (arith, within, lt));
      floods = λ f some. absurd (calm-not filters
          (hand-empty given start.run start.most answers old mid sound told went (waits moment) closes (λ e. e)) (waits-calm turn) f some);
    }
