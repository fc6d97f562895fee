-- The opening of a fleet's files: what stands once they are open, and where the question to the clock leads.
use Rattle.std.proofs.Common.{◌≡◌, ◌≢◌, ◌⊎◌, inl, inr, ℕ, zero, suc, ◌+◌, ◌<◌, ◌≤◌, Bool, true, false, List, [], ◌∷◌, ◌++◌, length, min, refl, sym, ◌∙◌, subst, ap, arith}
use Rattle.std.specs.Prelude.{Option, Some, None, MatchOption, Result, Ok, Err, IfOk, slice_get}
use Rattle.std.proofs.lemmas.List.{append-nil}
use Rattle.cacao_site.specs.DiskCalls.{GoesOn, IsLeft}
use Rattle.cacao_site.specs.RunViews.{file_of}
use Rattle.cacao_site.specs.SiteCalls.{Reaches}
use Rattle.cacao_site.specs.Sound.{IsSound}
use Rattle.cacao_site.specs.View.{SiteView}
use Rattle.run_records.specs.Ranges.{last_moment}
use Rattle.flow_core.specs.declared.flow_errors.LimitKind.TheVariants as limit
use Rattle.flow_core_rules.specs.Changes.{is_in_time}
use Rattle.flow_core_rules.specs.Givens.{Given}
use Rattle.flow_engine_history.specs.declared.error.EngineError.TheVariants as engine_error
use Rattle.flow_engine.specs.EngineView.{EngineView}
use Rattle.flow_laws.proofs.Basics.{same_some}
use Rattle.slpf_actuator.specs.ActuatorView.{ActuatorView}
use Rattle.flow_world_steps.specs.Sides.{AreFilters, IsWhole}
use Rattle.flow_world_steps.specs.Steps.{after_reach}
use Rattle.flow_world_steps.specs.Worlds.{Phase, opened, past, refused, rests, run_used, waits}
use Rattle.flow_world_steps.proofs.Filters.{ready_stays}
use Rattle.flow_world_steps.proofs.Growth.{get_last_or}
use Rattle.flow_world_steps.proofs.Issues.{below}
use Rattle.flow_world_steps.proofs.Timely.{in_time_of}
use Rattle.flow_world_parts.specs.Clock.{FallsShort, IsReached, IsTooLate}
use Rattle.flow_world_parts.specs.Openings.{IsFirstRunAt, IsJournalOpen, RefusesFilters, RefusesJournal}
use Rattle.flow_world_parts.specs.declared.error.WorldError.{WorldError}
use Rattle.flow_world_parts.specs.declared.error.WorldError.TheVariants as world_error
use Rattle.flow_world_parts.proofs.OpenSteps.{filters_after}
use Rattle.flow_fleet_laws.specs.Views.{seen_from}
use Rattle.flow_fleet_laws.proofs.Seen.{file_is, journals_differ}
use Rattle.flow_fleet_steps.specs.Errors.{fleet_refusal}
use Rattle.flow_fleet_steps.specs.Openings.{AreFleetOpen, OpensJournals, RefusesFleetOpening, RefusesJournalAt, Runs}
use Rattle.flow_fleet_steps.specs.Openings.OpensJournals.{nothing as no_journal, and_then as one_journal}
use Rattle.flow_fleet_steps.specs.Steps.{FleetStep, FleetSteps, IsUsedBy}
use Rattle.flow_fleet_steps.specs.Steps.FleetStep.{finds_run_used, opens_clock}
use Rattle.flow_fleet_steps.specs.Steps.FleetSteps.{nothing, and_then}
use Rattle.flow_fleet_steps.specs.Turns.{StandsAt, last_of}
use Rattle.flow_fleet_steps.specs.Worlds.{EachRun, FleetWorld, Own, Shared}
use Rattle.flow_fleet_steps.specs.declared.close.FleetClose.{FleetClose}
use Rattle.flow_fleet_steps.specs.declared.close.FleetClose.TheVariants as close
use Rattle.flow_fleet_steps.specs.declared.error.FleetError.{FleetError}
use Rattle.flow_fleet_steps.specs.declared.error.FleetError.TheVariants as error
use Rattle.flow_fleet.specs.Journals.{OpensNextJournal, RefusesNextJournal}
use Rattle.flow_fleet.specs.Leads.{ClosesAt, Counts, Ended, EndedAt, IsNewTo, IsWorking, RefusesAt, at, world_of}
use Rattle.flow_fleet.specs.Searches.{IsFirstUsed, IsUnusedBy}
use Rattle.flow_fleet.specs.declared.fleet_state.Fleet.{Fleet}
use Rattle.flow_fleet.proofs.Places.{low_place, rest_only, whole_stays}
use Rattle.flow_fleet.proofs.RunSteps.{steps_then}
use Rattle.flow_fleet.proofs.TurnLemmas.{late_so, reached_so, short_so}

-- ---- the next of a list, behind those that were done

get_next : {T : Type 0} (done rest : List T) (x : T) → slice_get (done ++ x ∷ rest) (length done) ≡ Some x
get_next [] rest x = refl
get_next (y ∷ done) rest x = get_next done rest x

pub there_next : {T : Type 0} (all done rest : List T) (x : T) → all ≡ done ++ x ∷ rest → slice_get all (length done) ≡ Some x
there_next {T} all done rest x e = subst (λ (l : List T). slice_get l (length done) ≡ Some x) (sym e) (get_next done rest x)

pub length_last : {T : Type 0} (xs : List T) (x : T) → length (xs ++ x ∷ []) ≡ length xs + 1
length_last [] x = refl
length_last (y ∷ xs) x = let rest = length_last xs x in omega (arith, rest)

-- a journal was opened, and memory was wanted for its engine
pub no_memory : (place run : ℕ) (given : Given) (old new : SiteView) (v : EngineView) → IsJournalOpen given run (seen_from place old) (seen_from place new) v → RefusesNextJournal error.Memory place run given old new
no_memory place run given old new v is = record {
  why = world_error.Memory;
  refuses = record { opens = is.opens; why = engine_error.Memory; refused = tt; is = refl; steady = λ other. is.steady; reads = λ other. is.reads };
  is = refl;
}

-- ---- one journal more

-- the journals of the first runs are open, so many; the place of the next one is at most 15
pub record HasOpened (runs : Runs) (start site : SiteView) (n : ℕ) (engines : List EngineView) (place : ℕ) : Type 0 where
  pub opens : OpensJournals runs start n site engines
  pub place_is : place ≡ min n 15

pub opened_none : (runs : Runs) (start : SiteView) → HasOpened runs start start 0 [] 0
opened_none runs start = record { opens = no_journal; place_is = omega arith }

-- the place of a run that is there
pub place_of_next : (runs : Runs) (n place : ℕ) (one : ℕ × Given) → length runs ≤ 16 → slice_get runs n ≡ Some one → place ≡ min n 15 → place ≡ n
place_of_next runs n place one few there is = let lt = below runs n one there in omega (arith, few, lt, is)

pub opened_next : (runs : Runs) (start old new : SiteView) (n place : ℕ) (before after : List EngineView) (run : ℕ) (given : Given) (v : EngineView) → length runs ≤ 16 → slice_get runs n ≡ Some (run, given)
    → HasOpened runs start old n before place → IsJournalOpen given run (seen_from place old) (seen_from place new) v → after ≡ before ++ v ∷ [] → OpensJournals runs start (n + 1) new after
opened_next runs start old new n place before after run given v few there was is more =
    let same : place ≡ n = place_of_next runs n place (run, given) few there was.place_is in
    subst (λ (l : List EngineView). OpensJournals runs start (n + 1) new l) (sym more)
    (one_journal run given v was.opens there (subst (λ (k : ℕ). IsJournalOpen given run (seen_from k old) (seen_from k new) v) same is))

pub refused_next : (error : FleetError) (runs : Runs) (start old new : SiteView) (n place : ℕ) (before : List EngineView) (run : ℕ) (given : Given) (why : WorldError) → length runs ≤ 16 → slice_get runs n ≡ Some (run, given)
    → HasOpened runs start old n before place → RefusesJournal why given run (seen_from place old) (seen_from place new) → error ≡ fleet_refusal place run why → RefusesJournalAt error runs start new
refused_next error runs start old new n place before run given why few there was refuses is =
    let same : place ≡ n = place_of_next runs n place (run, given) few there was.place_is in
    record {
      place = n;
      middle = old;
      engines = before;
      before = was.opens;
      run = run;
      given = given;
      there = there;
      why = why;
      refuses = subst (λ (k : ℕ). RefusesJournal why given run (seen_from k old) (seen_from k new)) same refuses;
      is = is ∙ ap (λ (k : ℕ). fleet_refusal k run why) same;
    }

module _ (runs : Runs) (start old new : SiteView) (done rest : List (ℕ × Given)) (run place : ℕ) (given : Given) (before : List EngineView) (few : length runs ≤ 16) (all : runs ≡ done ++ (run, given) ∷ rest)
    (was : HasOpened runs start old (length done) before place) where
  there_now : slice_get runs (length done) ≡ Some (run, given)
  there_now = there_next runs done rest (run, given) all

  pub place_low : place ≤ 15
  place_low = let is = was.place_is in omega (arith, is)

  pub journals_more : (after : List EngineView) (next : ℕ) → OpensNextJournal place run given old new before after → next ≡ min (place + 1) 15 → HasOpened runs start new (length (done ++ (run, given) ∷ [])) after next
  journals_more after next is next_is =
      let many = length_last done (run, given) in
      record {
        opens = subst (λ (n : ℕ). OpensJournals runs start n new after) (sym many) (opened_next runs start old new (length done) place before after run given is.v few there_now was is.opens is.more);
        place_is = let at = was.place_is in omega (arith, at, next_is, many);
      }

  pub journals_refused : (error : FleetError) → RefusesNextJournal error place run given old new → RefusesJournalAt error runs start new
  journals_refused error is = refused_next error runs start old new (length done) place before run given is.why few there_now was is.refuses is.is

pub journals_all : (runs : Runs) (start site : SiteView) (done rest : List (ℕ × Given)) (engines : List EngineView) (place : ℕ) → runs ≡ done ++ rest → length rest ≡ 0 → HasOpened runs start site (length done) engines place
    → OpensJournals runs start (length runs) site engines
journals_all runs start site done [] engines place all none was =
    subst (λ (n : ℕ). OpensJournals runs start n site engines) (sym (ap (λ (l : List (ℕ × Given)). length l) (all ∙ append-nil done))) was.opens
journals_all runs start site done (one ∷ rest) engines place all none was = absurd (omega (arith, none))

-- ---- what stands once they are open

pub journals_many : (runs : Runs) (start : SiteView) (n : ℕ) (site : SiteView) (engines : List EngineView) → OpensJournals runs start n site engines → length engines ≡ n
journals_many runs start n site engines no_journal = refl
journals_many runs start many site engines (one_journal {n} {old} {new} {before} run given v was there is) = length_last before v ∙ ap (λ (k : ℕ). k + 1) (journals_many runs start n old before was)

pub record AreAllOpen (runs : Runs) (site : SiteView) (engines : List EngineView) : Type 0 where
  pub stands : EachRun engines (StandsAt site)
  pub of_runs : (place : ℕ) (v : EngineView) → slice_get engines place ≡ Some v → slice_get runs place ≡ Some (v.history.seen.run, v.history.seen.given)
  pub no_puts : EachRun engines (λ place v. v.puts ≡ [])

module _ (runs : Runs) (old new : SiteView) (n : ℕ) (before : List EngineView) (few : n + 1 ≤ 16) (many : length before ≡ n) (run : ℕ) (given : Given) (v : EngineView) (there : slice_get runs n ≡ Some (run, given))
    (is : IsJournalOpen given run (seen_from n old) (seen_from n new) v) (rest : AreAllOpen runs old before) where
  earlier_stands : (k : ℕ) (x : EngineView) → slice_get before k ≡ Some x → IsWhole x (seen_from k new)
  earlier_stands k x at =
      let lt = below before k x at in
      let stay = rest_only n (IsLeft (seen_from n old).disk 0 (seen_from n old).disk.beat) old new is.opens.only in
      whole_stays k x old new stay.on (stay.files (file_of k) (journals_differ k n (omega (arith, lt, many, few)) (omega (arith, few)) (λ e. absurd (omega (arith, e, lt, many))))) (rest.stands k x at)

  here_of_run : slice_get runs n ≡ Some (v.history.seen.run, v.history.seen.given)
  here_of_run = subst (λ (r : ℕ). slice_get runs n ≡ Some (r, v.history.seen.given)) (sym is.of_run) (subst (λ (g : Given). slice_get runs n ≡ Some (run, g)) (sym is.given_is) there)

  pub open_more : AreAllOpen runs new (before ++ v ∷ [])
  open_more = record {
    stands = λ k x at. elim (get_last_or before v x k at) [
      | inl was ↦ earlier_stands k x was
      | inr last ↦ subst (λ (m : ℕ). IsWhole x (seen_from m new)) (sym (last.0 ∙ many)) (subst (λ (y : EngineView). IsWhole y (seen_from n new)) last.1 is.whole)
    ];
    of_runs = λ k x at. elim (get_last_or before v x k at) [
      | inl was ↦ rest.of_runs k x was
      | inr last ↦ subst (λ (m : ℕ). slice_get runs m ≡ Some (x.history.seen.run, x.history.seen.given)) (sym (last.0 ∙ many))
          (subst (λ (y : EngineView). slice_get runs n ≡ Some (y.history.seen.run, y.history.seen.given)) last.1 here_of_run)
    ];
    no_puts = λ k x at. elim (get_last_or before v x k at) [
      | inl was ↦ rest.no_puts k x was
      | inr last ↦ subst (λ (y : EngineView). y.puts ≡ []) last.1 is.no_puts
    ];
  }

pub journals_stand : (runs : Runs) (start : SiteView) (n : ℕ) (site : SiteView) (engines : List EngineView) → n ≤ 16 → OpensJournals runs start n site engines → AreAllOpen runs site engines
journals_stand runs start n site engines few no_journal = record { stands = λ k v at. absurd (cc); of_runs = λ k v at. absurd (cc); no_puts = λ k v at. absurd (cc) }
journals_stand runs start many site engines few (one_journal {n} {old} {new} {before} run given v was there is) =
    open_more runs old new n before few (journals_many runs start n old before was) run given v there is (journals_stand runs start n old before (omega (arith, few)) was)

-- no filter's file is a journal
beyond : (k : ℕ) → (file_of k ≡ 0) ⊎ (16 < file_of k)
beyond k = elim (file_is k) [ inl first ↦ inl first.1 | inr other ↦ let low = other.0 in let is = other.1 in inr (omega (arith, low, is)) ]

module _ (runs : Runs) (start site : SiteView) (engines : List EngineView) (filters : List ActuatorView) (few : length runs ≤ 16) (files : AreFleetOpen runs start site engines filters) where
  pub files_many : length engines ≡ length runs
  files_many = journals_many runs start (length runs) files.middle engines files.journals

  pub files_stand : AreAllOpen runs site engines
  files_stand =
      let was = journals_stand runs start (length runs) files.middle engines few files.journals in
      record {
        stands = λ k v at. whole_stays k v files.middle site files.others.goes_on (files.others.others (file_of k) (beyond k)) (was.stands k v at);
        of_runs = was.of_runs;
        no_puts = was.no_puts;
      }

  pub files_filters : AreFilters filters site
  files_filters = filters_after files.middle site filters files.others

-- ---- the clock

last_most : (engines : List EngineView) (k : ℕ) (v : EngineView) → slice_get engines k ≡ Some v → v.history.seen.moment ≤ last_of engines
last_most [] k v there = absurd (cc)
last_most (x ∷ engines) zero v there = let same = ap (λ (y : EngineView). y.history.seen.moment) (same_some there) in omega (arith, same)
last_most (x ∷ engines) (suc k) v there = let rest = last_most engines k v there in omega (arith, rest)

-- once the clock stands at the greatest moment of a last record, a record of each run may come
pub reached_works : (s : Fleet) (so sn : SiteView) (now : ℕ) → length s.engines.items ≤ 16 → 1 ≤ length s.engines.items → EachRun s.engines.items (StandsAt so) → AreFilters s.filters so → s.now ≡ now → s.turn ≡ 0
    → IsReached (last_of s.engines.items) now so sn → IsWorking s sn
reached_works s so sn now few some stands filters now_is turn is =
    let keeps = is.reaches.disk.disk in
    record {
      few = few;
      stands = λ k v there. whole_stays k v so sn keeps.goes_on (keeps.stays (file_of k)) (stands k v there);
      in_time = λ k v there. subst (λ (n : ℕ). is_in_time v.history.seen n ≡ true) (sym is.reaches.now)
          (in_time_of v.history.seen now (let most = last_most s.engines.items k v there in let far = is.far in omega (arith, most, far)) is.in_time);
      filters = record {
        all = filters.all;
        each = λ k v there.
            let one = filters.each k v there in
            record { ready = ready_stays v so sn keeps.goes_on (keeps.stays v.agent) one.ready; whole = one.whole; of_agent = one.of_agent };
      };
      now = now_is ∙ sym is.reaches.now;
      turn = omega (arith, turn, some);
    }

module _ (so : SiteView) (engines : List EngineView) (own : ℕ → Own) (filters : List ActuatorView) (notes : Shared) (k : ℕ) where
  pub used_before : (run agent : ℕ) → IsFirstUsed engines filters run agent → RefusesAt (error.RunUsed run agent) so (at so engines own filters notes opened k)
  used_before run agent first = record {
    to = at so engines own filters notes (refused (run_used agent) false) first.place;
    steps = and_then nothing (finds_run_used first.place agent (record {
      phase = refl;
      used = record { v = first.v; there = first.there; has = (first.empty, subst (λ (r : ℕ). IsFirstRunAt filters r agent) (sym first.of_run) first.used) };
      lower = λ place v lt there other used. first.lower place v lt there used.empty other used.low used.high used.has;
      only = record { site = refl; sides = record { engines = refl; own = refl; filters = refl }; notes = refl; phase = refl };
      place_is = refl;
    }));
    left_is = refl;
    refuses = record {
      cause = run_used agent;
      lacks = false;
      phase = refl;
      is = record { v = first.v; there = first.there; has = ap (λ (r : ℕ). error.RunUsed r agent) (sym first.of_run) };
    };
  }

  module _ (sound : IsSound so) (stands : EachRun engines (StandsAt so)) (unused : EachRun engines (λ place. IsUnusedBy filters)) where
    opens : (now : ℕ) (sn : SiteView) (q : Phase) → Reaches (last_of engines) now so sn → q ≡ after_reach (last_of engines) now
        → FleetStep (at so engines own filters notes opened k) (at sn engines own filters (record notes { asked = Some (last_of engines) }) q k)
    opens now sn q reaches is = opens_clock now (record {
      phase = refl;
      stands = stands;
      unused = λ place v there agent used. unused place v there used.empty agent used.low used.high used.has;
      goes = record { sound = sound; reaches = reaches; sides = record { engines = refl; own = refl; filters = refl }; notes = refl; phase = is };
    })

    pub opened_late : (sn : SiteView) → IsTooLate (last_of engines) so sn → RefusesAt (error.Limit limit.Moment) sn (at so engines own filters notes opened k)
    opened_late sn is = record {
      to = at sn engines own filters (record notes { asked = Some (last_of engines) }) (refused (past limit.Moment) false) k;
      steps = and_then nothing (opens is.now sn (refused (past limit.Moment) false) is.reaches (late_so (last_of engines) is.now is.late));
      left_is = refl;
      refuses = record { cause = past limit.Moment; lacks = false; phase = refl; is = refl };
    }

    pub opened_short : (sn : SiteView) → FallsShort (last_of engines) so sn → ClosesAt (close.Waiting (last_of engines)) sn (at so engines own filters notes opened k)
    opened_short sn is = record {
      to = at sn engines own filters (record notes { asked = Some (last_of engines) }) (waits (last_of engines)) k;
      steps = and_then nothing (opens is.now sn (waits (last_of engines)) is.reaches (short_so (last_of engines) is.now is.in_time is.short));
      left_is = refl;
      closes = refl;
    }

    pub opened_now : (now : ℕ) (sn : SiteView) (most : ℕ) (s : Fleet) (result : Result FleetClose FleetError) (last : SiteView) → IsNewTo most notes → IsReached (last_of engines) now so sn → s.engines.items ≡ engines
        → s.filters ≡ filters → s.left ≡ most → s.turn ≡ 0 → s.ignored ≡ 0 → Ended result sn s rests last → EndedAt result last (at so engines own filters notes opened k)
    opened_now now sn most s result last new is engines_are filters_are left turn ignored ended = by result ended
      where
        after : Shared
        after = record notes { asked = Some (last_of engines) }

        counts : Counts s after
        counts = record { left = new.left ∙ sym left; turn = new.turn ∙ sym turn; ignored = new.ignored ∙ sym ignored }

        first : FleetSteps (at so engines own filters notes opened k) (world_of sn s own after rests k)
        first = subst (λ (w : FleetWorld). FleetSteps (at so engines own filters notes opened k) w) same
            (and_then nothing (opens now sn rests is.reaches (reached_so (last_of engines) now is.in_time is.far)))
          where
            same : at sn engines own filters after rests k ≡ world_of sn s own after rests k
            same = ap (λ (l : List EngineView). at sn l own filters after rests k) (sym engines_are) ∙ ap (λ (fs : List ActuatorView). at sn s.engines.items own fs after rests k) (sym filters_are)

        by : (r : Result FleetClose FleetError) → Ended r sn s rests last → EndedAt r last (at so engines own filters notes opened k)
        by (Ok close) e = let c = e own after k counts in record { to = c.to; steps = steps_then first c.steps; left_is = c.left_is; closes = c.closes }
        by (Err error) e = let c = e own after k counts in record { to = c.to; steps = steps_then first c.steps; left_is = c.left_is; refuses = c.refuses }

-- ---- what the clock answered

pub reached_is : (last moment : ℕ) (old new : SiteView) (o : Option ℕ) (now : ℕ) → last ≡ moment → o ≡ Some now → MatchOption o (FallsShort last old new) (λ (now : ℕ). IsReached last now old new)
    → IsReached moment now old new
reached_is last moment old new o now at some told =
    subst (λ (m : ℕ). IsReached m now old new) at (subst (λ (x : Option ℕ). MatchOption x (FallsShort last old new) (λ (now : ℕ). IsReached last now old new)) some told)

pub short_is : (last moment : ℕ) (old new : SiteView) (o : Option ℕ) → last ≡ moment → o ≡ None → MatchOption o (FallsShort last old new) (λ (now : ℕ). IsReached last now old new) → FallsShort moment old new
short_is last moment old new o at none told =
    subst (λ (m : ℕ). FallsShort m old new) at (subst (λ (x : Option ℕ). MatchOption x (FallsShort last old new) (λ (now : ℕ). IsReached last now old new)) none told)
