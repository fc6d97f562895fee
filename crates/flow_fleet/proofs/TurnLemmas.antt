-- The turns of a fleet: what is taken, what runs out, and how it closes.
use Rattle.std.proofs.Common.{◌≡◌, ◌≢◌, inl, inr, ℕ, suc, ◌+◌, ◌-◌, ◌*◌, ◌<◌, ◌≤◌, Bool, true, false, List, [], ◌∷◌, ◌++◌, length, refl, sym, ◌∙◌, subst, ap, arith}
use Rattle.std.specs.Prelude.{Option, Some, None, MatchOption, Result, Ok, Err, slice_get, slice_set, nat_lt, if◌then◌else◌}
use Rattle.std.proofs.lemmas.Bool.{cases_lt}
use Rattle.std.proofs.lemmas.Bool.Decides.{nat_tests}
use Rattle.cacao_site.specs.DiskCalls.{KeepsDisk}
use Rattle.cacao_site.specs.SiteCalls.{Reaches, TakesNone, TakesOnly, TakesSome}
use Rattle.cacao_site.specs.Sound.{IsSound}
use Rattle.cacao_site.specs.View.{SiteView}
use Rattle.cacao_site.specs.declared.parcel.Parcel.{Parcel}
use Rattle.run_records.specs.Ranges.{last_moment}
use Rattle.flow_core.specs.declared.flow_errors.LimitKind.TheVariants as limit
use Rattle.flow_core.specs.SetupLaws.{AcceptedIsRunnable}
use Rattle.flow_core_rules.specs.Changes.{is_in_time, outcome}
use Rattle.flow_core_rules.specs.Moves.{asks, due}
use Rattle.flow_engine.specs.EngineCalls.{IsReplyTo}
use Rattle.flow_engine.specs.EngineView.{EngineView}
use Rattle.oc2_msg.specs.declared.answers.Answer.{Answer}
use Rattle.slpf_actuator.specs.ActuatorCalls.{Acts, Offers as FilterOffers, Refuses as FilterRefuses, Repeats}
use Rattle.slpf_actuator.specs.ActuatorView.{ActuatorView, act_for}
use Rattle.slpf_actuator.specs.declared.error.ActError.{ActError}
use Rattle.slpf_actuator.specs.declared.error.ActError.TheVariants as act_error
use Rattle.flow_world_steps.specs.Sides.{AreFilters, FiltersReady, IsEngine, IsFilter}
use Rattle.flow_world_steps.specs.Spent.{all_acts, most_spent, place}
use Rattle.flow_world_steps.specs.Sums.{total}
use Rattle.flow_world_steps.specs.Steps.{HoldsCommand, IsActCause as IsStepCause, IsAddressed, Unsures, after_reach}
use Rattle.flow_world_steps.specs.Turns.{most_ignored}
use Rattle.flow_world_steps.specs.Worlds.{Cause, Phase, disk_failed, holds, looked, past, refused, rests, waits, wants_memory}
use Rattle.flow_world_steps.proofs.Bounded.{spent_few}
use Rattle.flow_world_steps.proofs.Filters.{ready_stays}
use Rattle.flow_world_steps.proofs.Timely.{in_time_bounds, in_time_later}
use Rattle.flow_world_parts.specs.Acting.{IsActCause}
use Rattle.flow_world_parts.specs.Errors.{act_refusal}
use Rattle.flow_world_parts.proofs.FilterSteps.{has_begun}
use Rattle.flow_world_parts.specs.Clock.{FallsShort, IsReached, IsTooLate}
use Rattle.flow_fleet_laws.specs.Views.{seen_from}
use Rattle.flow_fleet_laws.proofs.Seen.{views_from_the_first}
use Rattle.flow_fleet_steps.specs.Errors.{fleet_refusal}
use Rattle.flow_fleet_steps.specs.Spent.{spent_by}
use Rattle.flow_fleet_steps.proofs.Spending.{fleet_turn_spends}
use Rattle.flow_fleet_steps.specs.Steps.{GoesTowards}
use Rattle.flow_fleet_steps.specs.Steps.FleetStep.{acts_on, asks_clock, drops, fails_to_act, repeats_reply, fails_to_take, finds_late, finds_none, ignores_reply, takes}
use Rattle.flow_fleet_steps.specs.Steps.FleetSteps.{nothing, and_then}
use Rattle.flow_fleet_steps.specs.Closes.{IsRefusalFor, TellsFailed}
use Rattle.flow_fleet_steps.specs.Turns.{BeginsTurn, ComesNext, StandsAt, IsIdle, HasNoMove, HasNoResend, HasNoneOverdue, IsLeastNext, IsSettled}
use Rattle.flow_fleet_steps.specs.Worlds.{EachBelow, EachRun, FleetWorld, Own, Shared, part}
use Rattle.flow_fleet_steps.specs.declared.close.FleetClose.TheVariants as close
use Rattle.flow_fleet_steps.specs.declared.error.FleetError.{FleetError}
use Rattle.flow_fleet_steps.specs.declared.error.FleetError.TheVariants as error
use Rattle.flow_fleet.specs.Leads.{ClosesFrom, Counts, Goes, IsBetweenTurns, IsWorking, Refuses, RefusesAt, SomeGoes, at, world_of}
use Rattle.flow_fleet.specs.Searches.{FailedFirst, IsFirstAsked}
use Rattle.flow_fleet.specs.Used.{most_used, used}
use Rattle.flow_fleet.specs.declared.fleet_state.Fleet.{Fleet}
use Rattle.flow_fleet.proofs.FleetLemmas.{looks}
use Rattle.flow_fleet.proofs.Places.{set_self, settled_stays, whole_stays}
use Rattle.cacao_site.specs.RunViews.{file_of}

not_less : (a b : ℕ) → b ≤ a → nat_lt a b ≡ false
not_less a b h = grind (arith, nat_tests)

is_less : (a b : ℕ) → a < b → nat_lt a b ≡ true
is_less a b h = grind (arith, nat_tests)

-- what follows an answer of the clock
pub reached_so : (moment now : ℕ) → now ≤ last_moment → moment ≤ now → rests ≡ after_reach moment now
reached_so moment now high far = by (nat_lt last_moment now) (nat_lt now moment) (not_less last_moment now high) (not_less now moment far)
  where
    by : (a b : Bool) → a ≡ false → b ≡ false → rests ≡ (if a then refused (past limit.Moment) false else if b then waits moment else rests)
    by false false e f = refl
    by true b e f = let g : false ≡ true = sym e in absurd (cc)
    by false true e f = let g : false ≡ true = sym f in absurd (cc)

pub short_so : (moment now : ℕ) → now ≤ last_moment → now < moment → waits moment ≡ after_reach moment now
short_so moment now high short = by (nat_lt last_moment now) (nat_lt now moment) (not_less last_moment now high) (is_less now moment short)
  where
    by : (a b : Bool) → a ≡ false → b ≡ true → waits moment ≡ (if a then refused (past limit.Moment) false else if b then waits moment else rests)
    by false true e f = refl
    by true b e f = let g : false ≡ true = sym e in absurd (cc)
    by false false e f = let g : false ≡ true = f in absurd (cc)

pub late_so : (moment now : ℕ) → last_moment < now → refused (past limit.Moment) false ≡ after_reach moment now
late_so moment now late = by (nat_lt last_moment now) (nat_lt now moment) (is_less last_moment now late)
  where
    by : (a b : Bool) → a ≡ true → refused (past limit.Moment) false ≡ (if a then refused (past limit.Moment) false else if b then waits moment else rests)
    by true b e = refl
    by false b e = let g : false ≡ true = e in absurd (cc)

-- there is a run at place 0
abbrev pub first_of : (engines : List EngineView) {n : ℕ} → n < length engines → (v : EngineView) × (slice_get engines 0 ≡ Some v)
first_of [] {n} lt = absurd (none n lt)
  where
    none : (n : ℕ) → n < 0 → ⊥
    none n lt = absurd (omega (arith, lt))
first_of (v ∷ engines) lt = (v, refl)

-- ---- a site whose disk stays

pub working_kept : (s t : Fleet) (so sn : SiteView) → KeepsDisk so.disk sn.disk → so.clock.now ≤ sn.clock.now → sn.clock.now ≤ last_moment → t.engines.items ≡ s.engines.items → t.filters ≡ s.filters → t.turn ≡ s.turn
    → t.now ≡ sn.clock.now → IsWorking s so → IsWorking t sn
working_kept s t so sn keeps later in_time engines filters turn now was = record {
  few = subst (λ (l : List EngineView). length l ≤ 16) (sym engines) was.few;
  stands = subst (λ (l : List EngineView). EachRun l (StandsAt sn)) (sym engines) (λ k v there. whole_stays k v so sn keeps.goes_on (keeps.stays (file_of k)) (was.stands k v there));
  in_time = subst (λ (l : List EngineView). EachRun l (λ k v. is_in_time v.history.seen sn.clock.now ≡ true)) (sym engines)
      (λ k v there. in_time_later v.history.seen so.clock.now sn.clock.now (was.in_time k v there) later in_time);
  filters = subst (λ (l : List ActuatorView). AreFilters l sn) (sym filters) (record {
    all = was.filters.all;
    each = λ k v there.
        let is = was.filters.each k v there in
        record { ready = ready_stays v so sn keeps.goes_on (keeps.stays v.agent) is.ready; whole = is.whole; of_agent = is.of_agent };
  });
  now = now;
  turn = subst (λ (l : List EngineView). t.turn < length l) (sym engines) (subst (λ (n : ℕ). n < length s.engines.items) (sym turn) was.turn);
}

pub settled_kept : (s t : Fleet) (so sn : SiteView) → KeepsDisk so.disk sn.disk → t.engines.items ≡ s.engines.items → EachRun s.engines.items (IsSettled so) → EachRun t.engines.items (IsSettled sn)
settled_kept s t so sn keeps engines was =
    subst (λ (l : List EngineView). EachRun l (IsSettled sn)) (sym engines) (λ k v there. settled_stays k v so sn keeps.goes_on (keeps.stays (file_of k)) (was k v there))

-- ---- a take

module _ (so sn : SiteView) (s : Fleet) (sound : IsSound so) (between : IsBetweenTurns s so) (goes : SomeGoes s.engines.items) (some : 1 ≤ s.left) (only : TakesOnly so sn) where
  begins_turn : (own : ℕ → Own) (notes : Shared) (k : ℕ) → Counts s notes → BeginsTurn (world_of so s own notes rests k)
  begins_turn own notes k counts = record {
    phase = refl;
    sound = sound;
    settled = between.settled;
    on = goes.place;
    goes_on = record { v = goes.v; there = goes.there; has = goes.on };
    budget = let left = counts.left in omega (arith, left, some);
    calm = let ignored = counts.ignored in let calm = between.calm in omega (arith, ignored, calm);
  }

  pub took_some : (parcel : Parcel) → TakesSome parcel so sn → Goes so s rests sn s (holds sn.disk.beat parcel)
  took_some parcel is own notes k counts = record {
    own = own;
    notes = notes;
    at_place = k;
    steps = and_then nothing (takes parcel (record {
      turn = begins_turn own notes k counts;
      only = only;
      some = is;
      sides = record { engines = refl; own = refl; filters = refl };
      notes = refl;
      phase = refl;
    }));
    counts = counts;
  }

  pub took_none : TakesNone so sn → Goes so s rests sn s looked
  took_none is own notes k counts = record {
    own = own;
    notes = notes;
    at_place = k;
    steps = and_then nothing (finds_none (record {
      turn = begins_turn own notes k counts;
      only = only;
      none = is;
      sides = record { engines = refl; own = refl; filters = refl };
      notes = refl;
      phase = refl;
    }));
    counts = counts;
  }

  pub took_nothing : sn.link ≡ so.link → Refuses error.Memory so s rests sn
  took_nothing same own notes k counts = record {
    to = world_of sn s own notes (refused wants_memory false) k;
    steps = and_then nothing (fails_to_take (record {
      turn = begins_turn own notes k counts;
      only = only;
      link = same;
      sides = record { engines = refl; own = refl; filters = refl };
      notes = refl;
      phase = refl;
    }));
    left_is = refl;
    refuses = record { cause = wants_memory; lacks = false; phase = refl; is = refl };
  }

  pub between_taken : IsBetweenTurns s sn
  between_taken = record {
    works = working_kept s s so sn only.disk.disk (let now = only.time.now in omega (arith, now)) (let now = only.time.now in let most = within in omega (arith, now, most)) refl refl refl (between.works.now ∙ sym only.time.now) between.works;
    settled = settled_kept s s so sn only.disk.disk refl between.settled;
    calm = between.calm;
  }
    where
      within : so.clock.now ≤ last_moment
      within = in_time_within s.engines.items between.works.turn (λ k v there. between.works.in_time k v there)
        where
          in_time_within : (engines : List EngineView) → s.turn < length engines → ((k : ℕ) (v : EngineView) → slice_get engines k ≡ Some v → is_in_time v.history.seen so.clock.now ≡ true) → so.clock.now ≤ last_moment
          in_time_within [] lt each = absurd (omega (arith, lt))
          in_time_within (v ∷ engines) lt each = (in_time_bounds v.history.seen so.clock.now (each 0 v refl)).1

-- ---- parcels that change nothing

pub dropped : (so : SiteView) (s : Fleet) (beat : ℕ) (parcel : Parcel) → (IsAddressed parcel → ⊥) → s.ignored + 1 ≤ most_ignored
    → Goes so s (holds beat parcel) so (record s { ignored = s.ignored + 1 }) rests
dropped so s beat parcel why calm own notes k counts = record {
  own = own;
  notes = record notes { ignored = notes.ignored + 1 };
  at_place = k;
  steps = and_then nothing (drops beat parcel (record {
    phase = refl;
    why = why;
    site = refl;
    ignores = record { calm = let ignored = counts.ignored in omega (arith, ignored, calm); sides = record { engines = refl; own = refl; filters = refl }; notes = refl; phase = refl };
  }));
  counts = record { left = counts.left; turn = counts.turn; ignored = ap (λ (n : ℕ). n + 1) counts.ignored };
}

-- the 1,000,000th
pub flooded : (so : SiteView) (s : Fleet) → s.ignored ≡ most_ignored → ClosesFrom close.Flooded so s rests so
flooded so s many own notes k counts = record {
  to = world_of so s own notes rests k;
  steps = nothing;
  left_is = refl;
  closes = record { phase = refl; many = counts.ignored ∙ many };
}

-- a reply that is none of any run's
pub reply_ignored : (so : SiteView) (s : Fleet) (beat : ℕ) (parcel : Parcel) → IsAddressed parcel → parcel.back ≡ true
    → ((k : ℕ) (v : EngineView) (read : Answer) → slice_get s.engines.items k ≡ Some v → IsReplyTo v.history parcel read → ⊥) → s.ignored + 1 ≤ most_ignored
    → Goes so s (holds beat parcel) so (record s { ignored = s.ignored + 1 }) rests
reply_ignored so s beat parcel addressed back none calm own notes k counts = record {
  own = own;
  notes = record notes { ignored = notes.ignored + 1 };
  at_place = k;
  steps = and_then nothing (ignores_reply beat parcel (record {
    holds_reply = record { phase = refl; addressed = addressed; back = back };
    no_reply = λ place v there read. none place v read there;
    site = refl;
    ignores = record { calm = let ignored = counts.ignored in omega (arith, ignored, calm); sides = record { engines = refl; own = refl; filters = refl }; notes = refl; phase = refl };
  }));
  counts = record { left = counts.left; turn = counts.turn; ignored = ap (λ (n : ℕ). n + 1) counts.ignored };
}

-- ---- at the end of a turn

module _ (so : SiteView) (s : Fleet) (sound : IsSound so) (between : IsBetweenTurns s so) (goes : SomeGoes s.engines.items) (some : 1 ≤ s.left) (idle : EachRun s.engines.items (λ other. HasNoMove s.now))
    (on_time : EachRun s.engines.items (λ other. HasNoneOverdue s.now)) (up_to_date : EachRun s.engines.items (λ other. HasNoResend s.now)) where
  is_idle : (own : ℕ → Own) (notes : Shared) (k : ℕ) → Counts s notes → IsIdle (world_of so s own notes looked k)
  is_idle own notes k counts = record {
    has_looked = looks so s sound between goes some own notes k counts;
    none = subst (λ (n : ℕ). EachRun s.engines.items (λ other. HasNoMove n)) between.works.now idle;
  }

  comes_next : (moment : ℕ) → IsLeastNext s.engines.items moment → (own : ℕ → Own) (notes : Shared) (k : ℕ) → Counts s notes → ComesNext (world_of so s own notes looked k) moment
  comes_next moment next own notes k counts = record {
    up_to_date = record {
      on_time = record {
        idle = is_idle own notes k counts;
        none = subst (λ (n : ℕ). EachRun s.engines.items (λ other. HasNoneOverdue n)) between.works.now on_time;
      };
      none = subst (λ (n : ℕ). EachRun s.engines.items (λ other. HasNoResend n)) between.works.now up_to_date;
    };
    next = next;
  }

  towards : (moment now : ℕ) (sn : SiteView) (q : Phase) (own : ℕ → Own) (notes : Shared) (k : ℕ) → Reaches moment now so sn → q ≡ after_reach moment now
      → GoesTowards moment now (world_of so s own notes looked k) (world_of sn s own (record notes { asked = Some moment }) q k)
  towards moment now sn q own notes k reaches is =
      record { sound = sound; reaches = reaches; sides = record { engines = refl; own = refl; filters = refl }; notes = refl; phase = is }

  pub waited : (moment now : ℕ) (sn : SiteView) → IsLeastNext s.engines.items moment → moment ≤ last_moment → IsReached moment now so sn → Goes so s looked sn (record s { now = now }) rests
  waited moment now sn next high is own notes k counts = record {
    own = own;
    notes = record notes { asked = Some moment };
    at_place = k;
    steps = and_then nothing (asks_clock moment now (record {
      next = comes_next moment next own notes k counts;
      in_time = high;
      goes = towards moment now sn rests own notes k is.reaches (reached_so moment now is.in_time is.far);
    }));
    counts = record { left = counts.left; turn = counts.turn; ignored = counts.ignored };
  }

  pub waits_on : (moment : ℕ) (sn : SiteView) → IsLeastNext s.engines.items moment → moment ≤ last_moment → FallsShort moment so sn → ClosesFrom (close.Waiting moment) so s looked sn
  waits_on moment sn next high is own notes k counts = record {
    to = world_of sn s own (record notes { asked = Some moment }) (waits moment) k;
    steps = and_then nothing (asks_clock moment is.now (record {
      next = comes_next moment next own notes k counts;
      in_time = high;
      goes = towards moment is.now sn (waits moment) own notes k is.reaches (short_so moment is.now is.in_time is.short);
    }));
    left_is = refl;
    closes = refl;
  }

  pub passes_limit : (moment : ℕ) (sn : SiteView) → IsLeastNext s.engines.items moment → moment ≤ last_moment → IsTooLate moment so sn → Refuses (error.Limit limit.Moment) so s looked sn
  passes_limit moment sn next high is own notes k counts = record {
    to = world_of sn s own (record notes { asked = Some moment }) (refused (past limit.Moment) false) k;
    steps = and_then nothing (asks_clock moment is.now (record {
      next = comes_next moment next own notes k counts;
      in_time = high;
      goes = towards moment is.now sn (refused (past limit.Moment) false) own notes k is.reaches (late_so moment is.now is.late);
    }));
    left_is = refl;
    refuses = record { cause = past limit.Moment; lacks = false; phase = refl; is = refl };
  }

  pub next_is_late : (moment : ℕ) → IsLeastNext s.engines.items moment → last_moment < moment → Refuses (error.Limit limit.Moment) so s looked so
  next_is_late moment next late own notes k counts = record {
    to = world_of so s own notes (refused (past limit.Moment) false) k;
    steps = and_then nothing (finds_late moment (record {
      next = comes_next moment next own notes k counts;
      late = late;
      only = record { site = refl; sides = record { engines = refl; own = refl; filters = refl }; notes = refl; phase = refl };
    }));
    left_is = refl;
    refuses = record { cause = past limit.Moment; lacks = false; phase = refl; is = refl };
  }

  pub asking : (run issue : ℕ) → EachRun s.engines.items (λ place v. due v.history.seen ≡ None) → IsFirstAsked s.engines.items run issue → ClosesFrom (close.Asked run issue) so s looked so
  asking run issue none first own notes k counts = record {
    to = world_of so s own notes looked k;
    steps = nothing;
    left_is = refl;
    closes = record {
      idle = is_idle own notes k counts;
      nothing_due = none;
      place = first.place;
      least = record { v = first.v; there = first.there; has = (first.least, first.of_run) };
      lower = first.lower;
    };
  }

-- time went on
pub reached_between : (so sn : SiteView) (s : Fleet) (moment now : ℕ) → IsBetweenTurns s so → IsReached moment now so sn → IsBetweenTurns (record s { now = now }) sn
reached_between so sn s moment now between is = record {
  works = working_kept s (record s { now = now }) so sn is.reaches.disk.disk (let later = is.reaches.later in let at = is.reaches.now in omega (arith, later, at)) (let most = is.in_time in let at = is.reaches.now in omega (arith, most, at))
      refl refl refl (sym is.reaches.now) between.works;
  settled = settled_kept s (record s { now = now }) so sn is.reaches.disk.disk refl between.settled;
  calm = between.calm;
}

-- ---- closes at rest

pub has_ended : (so : SiteView) (s : Fleet) (failed : Option ℕ) → IsBetweenTurns s so → EachRun s.engines.items (λ place v. outcome v.history.seen.lists ≢ None)
    → MatchOption failed (EachRun s.engines.items (λ place v. outcome v.history.seen.lists ≢ Some false)) (λ run. FailedFirst s.engines.items run) → ClosesFrom (close.Ended failed) so s rests so
has_ended so s failed between none first own notes k counts = record {
  to = world_of so s own notes rests k;
  steps = nothing;
  left_is = refl;
  closes = record {
    turn = record { phase = refl; settled = between.settled; calm = let ignored = counts.ignored in let calm = between.calm in omega (arith, ignored, calm) };
    ended = λ place on. none place on.v on.there on.has;
    tells = by failed first;
  };
}
  where
    by : (o : Option ℕ) → MatchOption o (EachRun s.engines.items (λ place v. outcome v.history.seen.lists ≢ Some false)) (λ run. FailedFirst s.engines.items run) → TellsFailed (world_of so s own notes rests k) o
    by None is = λ place at. is place at.v at.there at.has
    by (Some run) is = record {
      place = is.place;
      failed = record { v = is.v; there = is.there; has = (is.failed, is.of_run) };
      lower = λ other lt at. is.lower other at.v lt at.there at.has;
    }

pub has_paused : (so : SiteView) (s : Fleet) → IsBetweenTurns s so → SomeGoes s.engines.items → s.left ≡ 0 → ClosesFrom close.Paused so s rests so
has_paused so s between goes none own notes k counts = record {
  to = world_of so s own notes rests k;
  steps = nothing;
  left_is = refl;
  closes = record {
    none_left = counts.left ∙ none;
    more = inr (record {
      turn = record { phase = refl; settled = between.settled; calm = let ignored = counts.ignored in let calm = between.calm in omega (arith, ignored, calm) };
      place = goes.place;
      goes_on = record { v = goes.v; there = goes.there; has = goes.on };
    });
  };
}

-- a Begin is to come
pub begin_to_come : (so : SiteView) (s : Fleet) (place : ℕ) (v : EngineView) → slice_get s.engines.items place ≡ Some v → v.history.records ≡ [] → EachBelow place s.engines.items (IsSettled so) → s.ignored ≡ 0 → s.left ≡ 0
    → ClosesFrom close.Paused so s rests so
begin_to_come so s place v there empty settled calm none own notes k counts = record {
  to = world_of so s own notes rests k;
  steps = nothing;
  left_is = refl;
  closes = record {
    none_left = counts.left ∙ none;
    more = inl (record {
      phase = refl;
      calm = let ignored = counts.ignored in omega (arith, ignored, calm);
      place = place;
      empty = record { v = v; there = there; has = empty };
      settled = settled;
    });
  };
}

-- ---- each turn uses something up, and there is not more than so much

no_filters : (site : SiteView) → FiltersReady [] site
no_filters site = record { few = omega arith; each = λ k v there. absurd (cc) }

engines_few : (engines : List EngineView) (site : SiteView) → EachRun engines (StandsAt site) → total spent_by engines ≤ length engines * most_spent
engines_few engines site stands = by engines 0 (λ k v there. subst (λ (m : ℕ). IsEngine v (seen_from m site)) (omega arith) (stands k v there).engine)
  where
    by : (xs : List EngineView) (n : ℕ) → ((k : ℕ) (v : EngineView) → slice_get xs k ≡ Some v → IsEngine v (seen_from (n + k) site)) → total spent_by xs ≤ length xs * most_spent
    by [] n each = omega arith
    by (x ∷ xs) n each =
        let one = each 0 x refl in
        let first = spent_few x [] site 0 0 one.history one.put (no_filters site) (omega arith) (omega arith) in
        let rest = by xs (n + 1) (λ k v there. subst (λ (m : ℕ). IsEngine v (seen_from m site)) (omega arith) (each (suc k) v there)) in
        omega (arith, first, rest)

pub used_few : (s : Fleet) (site : SiteView) → IsBetweenTurns s site → used site s ≤ most_used
used_few s site is =
    let few = is.works.few in
    let runs = engines_few s.engines.items site is.works.stands in
    let times : length s.engines.items * most_spent ≤ 16 * most_spent = omega (arith, few) in
    let all = is.works.filters in
    let many = all.all in
    let at = first_of s.engines.items is.works.turn in
    let engine = (is.works.stands 0 at.0 at.1).engine in
    let within = (in_time_bounds at.0.history.seen site.clock.now (is.works.in_time 0 at.0 at.1)).1 in
    let calm = is.calm in
    let rest = spent_few at.0 s.filters site s.ignored site.clock.now engine.history engine.put (record { few = omega (arith, many); each = all.each }) (omega (arith, calm)) within in
    omega (arith, runs, times, rest)

pub more_used : AcceptedIsRunnable → (so sn : SiteView) (s t : Fleet) (p : Phase) → IsWorking s so → place rests < place p → Goes so s p sn t rests → used so s < used sn t
more_used runnable so sn s t p works less goes =
    let notes : Shared = record { left = s.left; turn = s.turn; acted = []; unsure_act = None; ignored = s.ignored; asked = None } in
    let own : ℕ → Own = λ k. record { put = []; unsure = None } in
    let leads = goes own notes 0 (record { left = refl; turn = refl; ignored = refl }) in
    let more = fleet_turn_spends runnable (world_of so s own notes p 0) (world_of sn t leads.own leads.notes rests leads.at_place) (λ g o. works.in_time) leads.steps tt less in
    let ignored = leads.counts.ignored in
    omega (arith, more, ignored)

-- ---- a command in hand, beside the run at place 0

-- a rack as the run at place 0 sees it
seen_both : (P : SiteView → SiteView → Type 0) (so sn : SiteView) → P so sn → P (seen_from 0 so) (seen_from 0 sn)
seen_both P so sn is =
    subst (λ (x : SiteView). P x (seen_from 0 sn)) (sym (views_from_the_first so)) (subst (λ (y : SiteView). P so y) (sym (views_from_the_first sn)) is)

seen_one : (P : SiteView → Type 0) (so : SiteView) → P so → P (seen_from 0 so)
seen_one P so is = subst P (sym (views_from_the_first so)) is

module _ (beat : ℕ) (parcel : Parcel) (so sn : SiteView) (s : Fleet) (gs : List ActuatorView) (v w : ActuatorView) (sound : IsSound so) (between : IsBetweenTurns s so) (addressed : IsAddressed parcel)
    (command : parcel.back ≡ false) (there : slice_get s.filters (parcel.agent - 1) ≡ Some v) (filter : IsFilter v parcel.agent so) (is : gs ≡ slice_set s.filters (parcel.agent - 1) w) where
  abbrev Run : EngineView
  Run = (first_of s.engines.items between.works.turn).0

  run_there : slice_get s.engines.items 0 ≡ Some Run
  run_there = (first_of s.engines.items between.works.turn).1

  holds_it : (own : ℕ → Own) (notes : Shared) (k : ℕ) → HoldsCommand beat parcel v (part 0 Run (own 0) (world_of so s own notes (holds beat parcel) k))
  holds_it own notes k = record {
    phase = refl;
    addressed = addressed;
    command = command;
    sound = seen_one IsSound so sound;
    there = there;
    filter = seen_one (λ (x : SiteView). IsFilter v parcel.agent x) so filter;
    begun = has_begun Run (seen_from 0 so) (between.settled 0 Run run_there).up;
  }

  pub acted_so : IsSound sn → Acts v w parcel so.clock.now so sn → IsFilter w parcel.agent sn → Goes so s (holds beat parcel) sn (record s { filters = gs }) rests
  acted_so sound_after acts after own notes k counts = record {
    own = own;
    notes = record notes { acted = notes.acted ++ (parcel.agent, act_for v.acts parcel so.clock.now) ∷ [] };
    at_place = k;
    steps = and_then nothing (acts_on beat parcel v w (record {
      v = Run;
      there = run_there;
      does = record {
        holds_command = holds_it own notes k;
        acts = seen_both (λ (x y : SiteView). Acts v w parcel so.clock.now x y) so sn acts;
        filter = seen_one (λ (x : SiteView). IsFilter w parcel.agent x) sn after;
        sound = seen_one IsSound sn sound_after;
        engine = refl;
        filters = is;
        notes = refl;
        phase = refl;
      };
      engines = refl;
      own = refl;
      turn = refl;
    }));
    counts = record { left = counts.left; turn = counts.turn; ignored = counts.ignored };
  }

  pub repeated_so : Repeats v w parcel so sn → s.ignored + 1 ≤ most_ignored → Goes so s (holds beat parcel) sn (record s { filters = gs; ignored = s.ignored + 1 }) rests
  repeated_so repeats calm own notes k counts = record {
    own = own;
    notes = record notes { ignored = notes.ignored + 1 };
    at_place = k;
    steps = and_then nothing (repeats_reply beat parcel v w (record {
      v = Run;
      there = run_there;
      does = record {
        holds_command = holds_it own notes k;
        repeats = seen_both (λ (x y : SiteView). Repeats v w parcel x y) so sn repeats;
        ignores = record { calm = let ignored = counts.ignored in omega (arith, ignored, calm); engine = refl; filters = same; notes = refl; phase = refl };
      };
      engines = refl;
      own = refl;
      turn = refl;
    }));
    counts = record { left = counts.left; turn = counts.turn; ignored = ap (λ (n : ℕ). n + 1) counts.ignored };
  }
    where
      same : gs ≡ s.filters
      same = is ∙ ap (λ x. slice_set s.filters (parcel.agent - 1) x) repeats.view ∙ set_self s.filters (parcel.agent - 1) v there

  refuses_as : (why : ActError) (cause : Cause) (said : FleetError) (own : ℕ → Own) (notes after : Shared) (k : ℕ) → ((x : FleetWorld) → IsRefusalFor said cause x) → FilterRefuses v w parcel so.clock.now why so sn
      → IsStepCause why v parcel (part 0 Run (own 0) (world_of so s own notes (holds beat parcel) k)) (part 0 Run (own 0) (at sn s.engines.items own gs after (refused cause false) k)) cause
      → Unsures why parcel v (part 0 Run (own 0) (world_of so s own notes (holds beat parcel) k)) (part 0 Run (own 0) (at sn s.engines.items own gs after (refused cause false) k))
      → after.turn ≡ notes.turn → RefusesAt said sn (world_of so s own notes (holds beat parcel) k)
  refuses_as why cause said own notes after k said_is refuses_it because unsure turn = record {
    to = at sn s.engines.items own gs after (refused cause false) k;
    steps = and_then nothing (fails_to_act beat parcel v w why cause (record {
      v = Run;
      there = run_there;
      does = record {
        holds_command = holds_it own notes k;
        refuses = seen_both (λ (x y : SiteView). FilterRefuses v w parcel so.clock.now why x y) so sn refuses_it;
        why = because;
        engine = refl;
        filters = is;
        notes = unsure;
        phase = refl;
      };
      engines = refl;
      own = refl;
      turn = turn;
    }));
    left_is = refl;
    refuses = record { cause = cause; lacks = false; phase = refl; is = said_is (at sn s.engines.items own gs after (refused cause false) k) };
  }

  abbrev with_act : Shared → Shared
  with_act notes = record notes { unsure_act = Some (parcel.agent, act_for v.acts parcel so.clock.now) }

  seen_offers : FilterOffers v parcel so.clock.now so sn → FilterOffers v parcel so.clock.now (seen_from 0 so) (seen_from 0 sn)
  seen_offers offers = seen_both (λ (x y : SiteView). FilterOffers v parcel so.clock.now x y) so sn offers

  pub refused_so : (why : ActError) → FilterRefuses v w parcel so.clock.now why so sn → IsActCause why v parcel so.clock.now so sn
      → (own : ℕ → Own) (notes : Shared) (k : ℕ) → RefusesAt (fleet_refusal 0 0 (act_refusal why)) sn (world_of so s own notes (holds beat parcel) k)
  refused_so act_error.Disk refuses_it rose own notes k =
      refuses_as act_error.Disk disk_failed _ own notes (with_act notes) k (λ x. refl) refuses_it (rose, refl) (record { offers = seen_offers refuses_it.site; notes = refl }) refl
  refused_so (act_error.Full needed) refuses_it over own notes k =
      refuses_as (act_error.Full needed) (past limit.Journal) _ own notes notes k (λ x. refl) refuses_it (over, refl) (record { site = ap (seen_from 0) refuses_it.site; notes = refl }) refl
  refused_so act_error.Memory refuses_it free own notes k = elim refuses_it.site [
    | inl same ↦ refuses_as act_error.Memory wants_memory _ own notes notes k (λ x. refl) refuses_it refl (inl (record { site = ap (seen_from 0) same; notes = refl })) refl
    | inr offers ↦ refuses_as act_error.Memory wants_memory _ own notes (with_act notes) k (λ x. refl) refuses_it refl (inr (record { offers = seen_offers offers; notes = refl })) refl
  ]
  refused_so (act_error.Damaged place) refuses_it none own notes k = absurd none
  refused_so act_error.Broken refuses_it none own notes k = absurd none
