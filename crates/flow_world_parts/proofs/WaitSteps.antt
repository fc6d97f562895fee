-- Where the questions to the clock lead, and how a session closes.
use Rattle.std.proofs.Common.{◌≡◌, ◌≢◌, ◌⊎◌, inl, inr, ℕ, ◌<◌, ◌≤◌, Bool, true, false, nat_lt, ◌==◌, not, List, [], ◌∷◌, length, refl, sym, ◌∙◌, subst, ap, arith}
use Rattle.std.specs.Prelude.{Option, Some, None, Any, MatchOption, IsSome, Result, Ok, Err, if◌then◌else◌}
use Rattle.std.proofs.lemmas.Bool.Decides.{nat_tests}
use Rattle.cacao_site.specs.SiteCalls.{Reaches}
use Rattle.cacao_site.specs.Sound.{IsSound}
use Rattle.cacao_site.specs.View.{SiteView}
use Rattle.run_records.specs.Ranges.{last_moment}
use Rattle.run_records.specs.declared.act.Act.{Act}
use Rattle.run_records.specs.declared.record.Record.{Record}
use Rattle.flow_world_steps.specs.LimitKind.TheVariants as limit
use Rattle.flow_engine_answers.specs.declared.answers.OperatorAnswer.{OperatorAnswer}
use Rattle.flow_world_steps.specs.EngineView.{EngineView}
use Rattle.flow_core_rules.specs.Changes.{is_in_time, outcome}
use Rattle.flow_core_rules.specs.Moves.{asks, due, enabled_move}
use Rattle.flow_core_rules.specs.Sane.{IsNotStuck}
use Rattle.flow_core_rules.specs.State.{Shown}
use Rattle.slpf_actuator.specs.ActuatorView.{ActuatorView}
use Rattle.flow_world_steps.specs.Sides.{IsWhole}
use Rattle.flow_world_steps.specs.Steps.{GoesTowards, Step, Steps, after_reach, HasRun}
use Rattle.flow_world_steps.specs.Steps.Step.{asks_clock, finds_late, opens_clock, finds_run_used}
use Rattle.flow_world_steps.specs.Steps.Steps.{nothing, and_then}
use Rattle.flow_world_steps.proofs.Timely.{in_time_bounds, in_time_later}
use Rattle.flow_world_steps.specs.Turns.{ComesNext}
use Rattle.flow_world_steps.specs.Worlds.{Notes, Phase, World, looked, opened, past, refused, rests, run_used, waits}
use Rattle.flow_world_parts.specs.Clock.{FallsShort, IsReached, IsTooLate}
use Rattle.flow_world_parts.specs.Closes.{IsAtTurn}
use Rattle.flow_world_parts.specs.Dues.{IsToAsk}
use Rattle.flow_world_parts.specs.Leads.{ClosesAt, ClosesFrom, Counts, Ended, EndedAt, Goes, IsBetweenTurns, IsNewTo, IsWorking, Refuses, RefusesAt, WhereLooked, at, world_of}
use Rattle.flow_world_parts.specs.Openings.{HasRunAt, IsFirstRunAt}
use Rattle.flow_world_parts.specs.declared.close.Close.{Close}
use Rattle.flow_world_parts.specs.declared.close.Close.TheVariants as close
use Rattle.flow_world_parts.specs.declared.error.WorldError.{WorldError}
use Rattle.flow_world_parts.specs.declared.error.WorldError.TheVariants as error
use Rattle.flow_world_parts.specs.declared.turns.Session.{Session}
use Rattle.flow_world_parts.proofs.EngineSteps.{steps_then}
use Rattle.flow_world_parts.proofs.SessionSteps.{may_answer}
use Rattle.flow_world_parts.proofs.Standing.{filters_stay, whole_stays}

not_less : (a b : ℕ) → b ≤ a → nat_lt a b ≡ false
not_less a b h = grind (arith, nat_tests)

is_less : (a b : ℕ) → a < b → nat_lt a b ≡ true
is_less a b h = grind (arith, nat_tests)

-- ---- what follows an answer of the clock

reached_so : (moment now : ℕ) → now ≤ last_moment → moment ≤ now → rests ≡ after_reach moment now
reached_so moment now high far = by (nat_lt last_moment now) (nat_lt now moment) (not_less last_moment now high) (not_less now moment far)
  where
    by : (a b : Bool) → a ≡ false → b ≡ false → rests ≡ (if a then refused (past limit.Moment) false else if b then waits moment else rests)
    by false false e f = refl
    by true b e f = let g : false ≡ true = sym e in absurd (cc)
    by false true e f = let g : false ≡ true = sym f in absurd (cc)

short_so : (moment now : ℕ) → now ≤ last_moment → now < moment → waits moment ≡ after_reach moment now
short_so moment now high short = by (nat_lt last_moment now) (nat_lt now moment) (not_less last_moment now high) (is_less now moment short)
  where
    by : (a b : Bool) → a ≡ false → b ≡ true → waits moment ≡ (if a then refused (past limit.Moment) false else if b then waits moment else rests)
    by false true e f = refl
    by true b e f = let g : false ≡ true = sym e in absurd (cc)
    by false false e f = let g : false ≡ true = f in absurd (cc)

late_so : (moment now : ℕ) → last_moment < now → refused (past limit.Moment) false ≡ after_reach moment now
late_so moment now late = by (nat_lt last_moment now) (nat_lt now moment) (is_less last_moment now late)
  where
    by : (a b : Bool) → a ≡ true → refused (past limit.Moment) false ≡ (if a then refused (past limit.Moment) false else if b then waits moment else rests)
    by true b e = refl
    by false b e = let g : false ≡ true = e in absurd (cc)

towards : (so sn : SiteView) (v : EngineView) (filters : List ActuatorView) (notes : Notes) (p q : Phase) (moment now : ℕ) → IsSound so → Reaches moment now so sn → q ≡ after_reach moment now
    → GoesTowards moment now (at so v filters notes p) (at sn v filters (record notes { asked = Some moment }) q)
towards so sn v filters notes p q moment now sound reaches is =
    record { sound = sound; reaches = reaches; sides = record { engine = refl; filters = refl }; notes = refl; phase = is }

-- ---- at the end of a turn

module _ (answers : List OperatorAnswer) (so : SiteView) (s : Session) (moment : ℕ) (sound : IsSound so) (some : 1 ≤ s.left) (comes : WhereLooked (λ w. ComesNext w moment) answers so s.engine) where
  comes_next : (notes : Notes) → Counts answers s notes → ComesNext (world_of so s notes looked) moment
  comes_next notes counts = comes s.filters notes (may_answer answers s some notes counts)

  pub waited : (now : ℕ) (sn : SiteView) → moment ≤ last_moment → IsReached moment now so sn → Goes answers so s looked sn (record s { now = now }) rests
  waited now sn high is notes counts = record {
    notes = record notes { asked = Some moment };
    steps = and_then nothing (asks_clock moment now (record {
      next = comes_next notes counts;
      in_time = high;
      goes = towards so sn s.engine s.filters notes looked rests moment now sound is.reaches (reached_so moment now is.in_time is.far);
    }));
    counts = record { answers_are = counts.answers_are; left = counts.left; ignored = counts.ignored };
  }

  pub waits_on : (sn : SiteView) → moment ≤ last_moment → FallsShort moment so sn → ClosesFrom (close.Waiting moment) answers so s looked sn
  waits_on sn high is notes counts = record {
    to = world_of sn s (record notes { asked = Some moment }) (waits moment);
    steps = and_then nothing (asks_clock moment is.now (record {
      next = comes_next notes counts;
      in_time = high;
      goes = towards so sn s.engine s.filters notes looked (waits moment) moment is.now sound is.reaches (short_so moment is.now is.in_time is.short);
    }));
    left_is = refl;
    closes = refl;
  }

  pub passes_limit : (sn : SiteView) → moment ≤ last_moment → IsTooLate moment so sn → Refuses (error.Limit limit.Moment) answers so s looked sn
  passes_limit sn high is notes counts = record {
    to = world_of sn s (record notes { asked = Some moment }) (refused (past limit.Moment) false);
    steps = and_then nothing (asks_clock moment is.now (record {
      next = comes_next notes counts;
      in_time = high;
      goes = towards so sn s.engine s.filters notes looked (refused (past limit.Moment) false) moment is.now sound is.reaches (late_so moment is.now is.late);
    }));
    left_is = refl;
    refuses = record { cause = past limit.Moment; lacks = false; phase = refl; is = refl };
  }

  pub next_is_late : last_moment < moment → Refuses (error.Limit limit.Moment) answers so s looked so
  next_is_late late notes counts = record {
    to = world_of so s notes (refused (past limit.Moment) false);
    steps = and_then nothing (finds_late moment (record {
      next = comes_next notes counts;
      late = late;
      only = record { site = refl; sides = record { engine = refl; filters = refl }; notes = refl; phase = refl };
    }));
    left_is = refl;
    refuses = record { cause = past limit.Moment; lacks = false; phase = refl; is = refl };
  }

-- ---- closes

-- an operator is asked
pub asking : (answers : List OperatorAnswer) (so : SiteView) (s : Session) (issue : ℕ) → 1 ≤ s.left → WhereLooked (λ w. IsToAsk w issue) answers so s.engine → ClosesFrom (close.Asked issue) answers so s looked so
asking answers so s issue some due notes counts = record {
  to = world_of so s notes looked;
  steps = nothing;
  left_is = refl;
  closes = (due s.filters notes (may_answer answers s some notes counts)).asking;
}

at_turn : (answers : List OperatorAnswer) (so : SiteView) (s : Session) → IsBetweenTurns s so → (notes : Notes) → Counts answers s notes → IsAtTurn (world_of so s notes rests)
at_turn answers so s between notes counts = record { phase = refl; up = between.works.engine.up; put = between.put; calm = omega (arith, between.calm, counts.ignored) }

pub has_ended : (answers : List OperatorAnswer) (so : SiteView) (s : Session) (well : Bool) → IsBetweenTurns s so → outcome s.engine.history.seen.lists ≡ Some well → ClosesFrom (close.Ended well) answers so s rests so
has_ended answers so s well between is notes counts = record {
  to = world_of so s notes rests;
  steps = nothing;
  left_is = refl;
  closes = record { turn = at_turn answers so s between notes counts; outcome_is = is };
}

pub has_paused : (answers : List OperatorAnswer) (so : SiteView) (s : Session) → IsBetweenTurns s so → outcome s.engine.history.seen.lists ≡ None → s.left ≡ 0 → ClosesFrom close.Paused answers so s rests so
has_paused answers so s between goes_on none notes counts = record {
  to = world_of so s notes rests;
  steps = nothing;
  left_is = refl;
  closes = record { turn = at_turn answers so s between notes counts; goes_on = goes_on; none_left = counts.left ∙ none };
}

-- ---- the opening

has_run : (so : SiteView) (v : EngineView) (filters : List ActuatorView) (notes : Notes) (run agent : ℕ) → v.history.seen.run ≡ run → HasRunAt filters run agent → HasRun (at so v filters notes opened) agent
has_run so v filters notes run agent of_run has =
    record { v = has.v; there = has.there; has = subst (λ (n : ℕ). Any (λ (act : Act). act.run ≡ n) has.v.acts) (sym of_run) has.has }

has_run_at : (so : SiteView) (v : EngineView) (filters : List ActuatorView) (notes : Notes) (run agent : ℕ) → v.history.seen.run ≡ run → HasRun (at so v filters notes opened) agent → HasRunAt filters run agent
has_run_at so v filters notes run agent of_run has =
    record { v = has.v; there = has.there; has = subst (λ (n : ℕ). Any (λ (act : Act). act.run ≡ n) has.v.acts) of_run has.has }

module _ (so : SiteView) (v : EngineView) (filters : List ActuatorView) (whole : IsWhole v so) (notes : Notes) (run : ℕ) (of_run : v.history.seen.run ≡ run) where
  pub used_before : (agent : ℕ) → v.history.records ≡ [] → IsFirstRunAt filters run agent → RefusesAt (error.RunUsed agent) so (at so v filters notes opened)
  used_before agent empty first = record {
    to = at so v filters notes (refused (run_used agent) false);
    steps = and_then nothing (finds_run_used agent (record {
      phase = refl;
      empty = empty;
      low = first.low;
      high = first.high;
      has = has_run so v filters notes run agent of_run first.has;
      least = λ lower low less has. first.least lower low less (has_run_at so v filters notes run lower of_run has);
      only = record { site = refl; sides = record { engine = refl; filters = refl }; notes = refl; phase = refl };
    }));
    left_is = refl;
    refuses = record { cause = run_used agent; lacks = false; phase = refl; is = refl };
  }

  module _ (sound : IsSound so) (unused : v.history.records ≡ [] → (agent : ℕ) → 1 ≤ agent → agent ≤ 16 → HasRunAt filters run agent → ⊥) where
    opens : (now : ℕ) (sn : SiteView) (q : Phase) → Reaches v.history.seen.moment now so sn → q ≡ after_reach v.history.seen.moment now
        → Step (at so v filters notes opened) (at sn v filters (record notes { asked = Some v.history.seen.moment }) q)
    opens now sn q reaches is = opens_clock now (record {
      phase = refl;
      whole = whole;
      unused = λ empty agent low high has. unused empty agent low high (has_run_at so v filters notes run agent of_run has);
      goes = towards so sn v filters notes opened q v.history.seen.moment now sound reaches is;
    })

    pub opened_late : (sn : SiteView) → IsTooLate v.history.seen.moment so sn → RefusesAt (error.Limit limit.Moment) sn (at so v filters notes opened)
    opened_late sn is = record {
      to = at sn v filters (record notes { asked = Some v.history.seen.moment }) (refused (past limit.Moment) false);
      steps = and_then nothing (opens is.now sn (refused (past limit.Moment) false) is.reaches (late_so v.history.seen.moment is.now is.late));
      left_is = refl;
      refuses = record { cause = past limit.Moment; lacks = false; phase = refl; is = refl };
    }

    pub opened_short : (sn : SiteView) → FallsShort v.history.seen.moment so sn → ClosesAt (close.Waiting v.history.seen.moment) sn (at so v filters notes opened)
    opened_short sn is = record {
      to = at sn v filters (record notes { asked = Some v.history.seen.moment }) (waits v.history.seen.moment);
      steps = and_then nothing (opens is.now sn (waits v.history.seen.moment) is.reaches (short_so v.history.seen.moment is.now is.in_time is.short));
      left_is = refl;
      closes = refl;
    }

    pub opened_now : (now : ℕ) (sn : SiteView) (answers : List OperatorAnswer) (most : ℕ) (s : Session) (result : Result Close WorldError) (last : SiteView) → IsNewTo answers most notes
        → IsReached v.history.seen.moment now so sn → s.engine ≡ v → s.filters ≡ filters → s.left ≡ most → s.ignored ≡ 0
        → Ended result answers sn s rests last → EndedAt result last (at so v filters notes opened)
    opened_now now sn answers most s result last new is engine filters_are left ignored ended =
        by result ended
      where
        after : Notes
        after = record notes { asked = Some v.history.seen.moment }

        counts : Counts answers s after
        counts = record { answers_are = new.answers_are; left = new.left ∙ sym left; ignored = new.ignored ∙ sym ignored }

        first : Steps (at so v filters notes opened) (world_of sn s after rests)
        first = subst (λ (w : World). Steps (at so v filters notes opened) w) same
            (and_then nothing (opens now sn rests is.reaches (reached_so v.history.seen.moment now is.in_time is.far)))
          where
            same : at sn v filters after rests ≡ world_of sn s after rests
            same = ap (λ (x : EngineView). at sn x filters after rests) (sym engine) ∙ ap (λ (fs : List ActuatorView). at sn s.engine fs after rests) (sym filters_are)

        by : (r : Result Close WorldError) → Ended r answers sn s rests last → EndedAt r last (at so v filters notes opened)
        by (Ok close) e = let c = e after counts in record { to = c.to; steps = steps_then first c.steps; left_is = c.left_is; closes = c.closes }
        by (Err error) e = let c = e after counts in record { to = c.to; steps = steps_then first c.steps; left_is = c.left_is; refuses = c.refuses }

-- ---- a turn in which no move is enabled

not_zero : (records : List Record) (count : ℕ) → count ≡ length records → records ≢ [] → not (count == 0) ≡ true
not_zero [] count e some = absurd (some refl)
not_zero (r ∷ records) count e some = grind (arith, nat_tests)

-- something is due, or an operator was asked
pub never_stuck : (v : EngineView) (now : ℕ) (seen : Shown) (count : ℕ) → v.history.records ≢ [] → outcome v.history.seen.lists ≡ None → is_in_time v.history.seen now ≡ true
    → enabled_move v.history.seen now ≡ None → seen ≡ v.history.seen → count ≡ length v.history.records → (not (count == 0) ≡ true → IsNotStuck seen) → due v.history.seen ≡ None → asks v.history.seen ≡ None → ⊥
never_stuck v now seen count begun goes_on in_time idle same many not_stuck no_due no_asks =
    let bounds = in_time_bounds v.history.seen now in_time in
    let law = subst (λ (s : Shown). IsNotStuck s) same (not_stuck (not_zero v.history.records count many begun)) in
    one (due v.history.seen) (asks v.history.seen) no_due no_asks (law now bounds.0 bounds.1 goes_on idle)
  where
    one : (a b : Option ℕ) → a ≡ None → b ≡ None → IsSome a ⊎ IsSome b → ⊥
    one None None e f (inl h) = let g : false ≡ true = h in cc
    one None None e f (inr h) = let g : false ≡ true = h in cc
    one (Some x) b e f h = let g : Some x ≡ None = e in cc
    one None (Some y) e f h = let g : Some y ≡ None = f in cc

-- time went on
pub reached_works : (s : Session) (so sn : SiteView) (moment now : ℕ) → IsWorking s so → IsReached moment now so sn → IsWorking (record s { now = now }) sn
reached_works s so sn moment now works is =
    let disk = is.reaches.disk.disk in
    record {
      engine = record {
        up = record { has_file = whole_stays s.engine so sn disk works.engine.up.has_file; begun = works.engine.up.begun };
        in_time = subst (λ (n : ℕ). is_in_time s.engine.history.seen n ≡ true) (sym is.reaches.now)
            (in_time_later s.engine.history.seen so.clock.now now works.engine.in_time is.reaches.later is.in_time);
      };
      filters = filters_stay s.filters so sn disk works.filters;
      now = sym is.reaches.now;
    }

pub match_some : {T : Type 0} (o : Option T) (x : T) (A : Type 0) (B : T → Type 0) → o ≡ Some x → MatchOption o A B → B x
match_some o x A B e is = subst (λ p. MatchOption p A B) e is

pub match_none : {T : Type 0} (o : Option T) (A : Type 0) (B : T → Type 0) → o ≡ None → MatchOption o A B → A
match_none o A B e is = subst (λ p. MatchOption p A B) e is
