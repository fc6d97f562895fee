-- What stands where a session has gone on.
use Rattle.std.proofs.Common.{◌≡◌, ◌≢◌, ℕ, true, List, [], refl, sym, ◌∙◌, subst, arith}
use Rattle.std.specs.Prelude.{None, Result, Ok, Err, OnOk}
use Rattle.cacao_site.specs.DiskCalls.{KeepsDisk, OnlyFile}
use Rattle.cacao_site.specs.View.{SiteView}
use Rattle.flow_engine_answers.specs.declared.answers.OperatorAnswer.{OperatorAnswer}
use Rattle.flow_world_steps.specs.EngineView.{EngineView}
use Rattle.flow_core_rules.specs.Changes.{is_in_time}
use Rattle.slpf_actuator.specs.ActuatorView.{ActuatorView}
use Rattle.flow_world_steps.specs.Sides.{FiltersReady, IsWhole}
use Rattle.flow_world_steps.specs.Worlds.{IsGoing, Notes, Phase, opened, rests}
use Rattle.flow_world_steps.proofs.Filters.{ready_stays}
use Rattle.flow_world_steps.proofs.Readiness.{engine_stays}
use Rattle.flow_world_steps.proofs.Standing.{steps_stand, steps_up}
use Rattle.flow_world_steps.proofs.Timely.{steps_in_time}
use Rattle.flow_world_parts.specs.Leads.{Counts, Goes, IsAtWork, IsWorking, KeepsFilters, world_of}
use Rattle.flow_world_parts.specs.declared.turns.Session.{Session}

-- some notes of a session
abbrev pub sample : List OperatorAnswer → ℕ → ℕ → Notes
sample answers left ignored = record { answers = answers; left = left; unsure = None; acted = []; unsure_act = None; put = []; ignored = ignored; asked = None }

pub sample_counts : (answers : List OperatorAnswer) (s : Session) → Counts answers s (sample answers s.left s.ignored)
sample_counts answers s = record { answers_are = refl; left = refl; ignored = refl }

-- ---- a session

pub works_after : (answers : List OperatorAnswer) (so sn : SiteView) (s t : Session) (p q : Phase) → IsWorking s so → Goes answers so s p sn t q → IsGoing q → q ≢ opened → t.now ≡ sn.clock.now → IsWorking t sn
works_after answers so sn s t p q works goes going fresh now =
    let leads = goes (sample answers s.left s.ignored) (sample_counts answers s) in
    let a = world_of so s (sample answers s.left s.ignored) p in
    let b = world_of sn t leads.notes q in
    let all = steps_stand a b (record { engine = works.engine.up.has_file; filters = works.filters }) leads.steps going in
    record {
      engine = record { up = steps_up a b works.engine.up leads.steps going; in_time = steps_in_time a b (λ g o. works.engine.in_time) leads.steps going fresh };
      filters = all.filters;
      now = now;
    }

-- the filters of a session whose run may not have begun
pub filters_after : (answers : List OperatorAnswer) (so sn : SiteView) (s t : Session) (p q : Phase) → IsWhole s.engine so → FiltersReady s.filters so → Goes answers so s p sn t q → IsGoing q → FiltersReady t.filters sn
filters_after answers so sn s t p q whole filters goes going =
    let leads = goes (sample answers s.left s.ignored) (sample_counts answers s) in
    (steps_stand (world_of so s (sample answers s.left s.ignored) p) (world_of sn t leads.notes q) (record { engine = whole; filters = filters }) leads.steps going).filters

-- ---- a disk that stays

pub whole_stays : (v : EngineView) (old new : SiteView) → KeepsDisk old.disk new.disk → IsWhole v old → IsWhole v new
whole_stays v old new keeps is = record { engine = engine_stays v old new keeps.goes_on (keeps.stays 0) is.engine; whole = is.whole }

pub work_stays : (v : EngineView) (old new : SiteView) → KeepsDisk old.disk new.disk → new.clock.now ≡ old.clock.now → IsAtWork v old → IsAtWork v new
work_stays v old new keeps now is = record {
  up = record { has_file = whole_stays v old new keeps is.up.has_file; begun = is.up.begun };
  in_time = subst (λ (n : ℕ). is_in_time v.history.seen n ≡ true) (sym now) is.in_time;
}

pub filters_stay : (filters : List ActuatorView) (old new : SiteView) → KeepsDisk old.disk new.disk → FiltersReady filters old → FiltersReady filters new
filters_stay filters old new keeps are = record {
  few = are.few;
  each = λ k v there.
      let is = are.each k v there in
      record { ready = ready_stays v old new keeps.goes_on (keeps.stays v.agent) is.ready; whole = is.whole; of_agent = is.of_agent };
}

pub filters_beside : (P : List ℕ → Type 0) (old new : SiteView) → OnlyFile 0 old new P → KeepsFilters old new
filters_beside P old new only filters are = record {
  few = are.few;
  each = λ k v there.
      let is = are.each k v there in
      record {
        ready = ready_stays v old new only.each.goes_on (only.others v.agent (λ e. absurd (omega (arith, e, is.ready.low)))) is.ready;
        whole = is.whole;
        of_agent = is.of_agent;
      };
}

pub keeps_then : (old mid new : SiteView) → KeepsFilters old mid → KeepsFilters mid new → KeepsFilters old new
keeps_then old mid new one two filters are = two filters (one filters are)

-- behind a call that returned this
pub keeps_if : {T E : Type 0} (result : Result T E) (old mid new : SiteView) → KeepsFilters old mid → OnOk result (KeepsFilters mid new) → OnOk result (KeepsFilters old new)
keeps_if (Ok x) old mid new one two = keeps_then old mid new one two
keeps_if (Err x) old mid new one two = two

pub filters_kept : (old new : SiteView) → KeepsDisk old.disk new.disk → KeepsFilters old new
filters_kept old new keeps filters are = filters_stay filters old new keeps are

pub working_stays : (s : Session) (old new : SiteView) → KeepsDisk old.disk new.disk → new.clock.now ≡ old.clock.now → IsWorking s old → IsWorking s new
working_stays s old new keeps now is = record {
  engine = work_stays s.engine old new keeps now is.engine;
  filters = filters_stay s.filters old new keeps is.filters;
  now = is.now ∙ sym now;
}

-- ---- phases

pub rests_fresh : rests ≢ opened
rests_fresh e = cc
