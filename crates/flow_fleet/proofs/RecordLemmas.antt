-- What a call for the run at a place may rely on, as far as the fleet knows it.
use Rattle.std.proofs.Common.{◌≡◌, ◌≢◌, ℕ, ◌+◌, ◌<◌, ◌≤◌, Bool, true, false, List, [], length, get_or, refl, sym, ◌∙◌, subst, arith}
use Rattle.std.specs.Prelude.{OnOk, Result, Ok, Err, Some, ◌==◌, if◌then◌else◌, slice_get, slice_set}
use Rattle.std.proofs.lemmas.Bool.Decides.{nat_tests}
use Rattle.std.proofs.lemmas.Option.{slice_get_read}
use Rattle.cacao_site.specs.Sound.{IsSound}
use Rattle.cacao_site.specs.View.{SiteView}
use Rattle.cacao_site.specs.declared.parcel.Parcel.{Parcel}
use Rattle.oc2_msg.specs.declared.answers.Answer.{Answer}
use Rattle.run_records.specs.Ranges.{last_moment}
use Rattle.base_dues.specs.Pairs.{IsFirstBy}
use Rattle.flow_core_rules.specs.Changes.{is_in_time}
use Rattle.flow_engine.specs.EngineCalls.{IsReplyTo, put_deadline}
use Rattle.flow_engine.specs.EngineView.{EngineView}
use Rattle.flow_engine.specs.OpenIssues.{IsNextPut}
use Rattle.flow_laws.proofs.Basics.{same_some}
use Rattle.flow_world_steps.specs.Sides.{AllPut}
use Rattle.flow_world_steps.specs.Worlds.{Phase, looked, rests}
use Rattle.flow_world_steps.proofs.Issues.{below}
use Rattle.flow_world_steps.proofs.Timely.{in_time_bounds}
use Rattle.flow_world_parts.specs.Leads.{IsAtWork}
use Rattle.flow_fleet_laws.specs.Views.{seen_from}
use Rattle.flow_fleet_steps.specs.Turns.{HasMove, HasNoMove, HasNoResend, HasNoneOverdue, IsIdle, IsSettled, IsTurnOf, turn_after}
use Rattle.flow_fleet_steps.specs.Worlds.{EachBelow, EachRun, FleetWorld, Own, Shared}
use Rattle.flow_fleet_steps.specs.declared.error.FleetError.{FleetError}
use Rattle.flow_fleet.specs.Leads.{Below, Counts, Did, HasBegun, IsBetweenTurns, IsWorking, LeavesRest, MayAppend, MayExpire, MayMove, MayResend, RunDid, SomeGoes, same_turn, world_of}
use Rattle.flow_fleet.specs.Searches.{IsFirstOverdue, IsFirstResend}
use Rattle.flow_fleet.specs.declared.fleet_state.Fleet.{Fleet}
use Rattle.flow_fleet.proofs.FleetLemmas.{begun_after, between_after, looks, run_goes, run_refuses}
use Rattle.flow_fleet.proofs.Places.{set_self}

-- ---- the run at a place

pub its_run : (engines : List EngineView) (place : ℕ) (v : EngineView) → place < length engines → v ≡ get_or engines place v → slice_get engines place ≡ Some v
its_run engines place v lt is = slice_get_read engines (length engines) place v refl lt is

pub same_run : (engines : List EngineView) (place : ℕ) (v w : EngineView) → slice_get engines place ≡ Some v → slice_get engines place ≡ Some w → v ≡ w
same_run engines place v w here there = same_some (sym here ∙ there)

module _ (so : SiteView) (s : Fleet) (place : ℕ) (v : EngineView) (there : slice_get s.engines.items place ≡ Some v) where
  pub at_work : IsBetweenTurns s so → IsAtWork v (seen_from place so)
  at_work between = record { up = (between.settled place v there).up; in_time = between.works.in_time place v there }

  pub at_work_begun : IsWorking s so → v.history.records ≢ [] → IsAtWork v (seen_from place so)
  at_work_begun works begun = record { up = record { has_file = works.stands place v there; begun = begun }; in_time = works.in_time place v there }

  pub not_before : IsWorking s so → v.history.seen.moment ≤ s.now
  not_before works =
      let bounds = (in_time_bounds v.history.seen so.clock.now (works.in_time place v there)).0 in
      let now = works.now in
      omega (arith, bounds, now)

  pub not_late : IsWorking s so → s.now ≤ last_moment
  not_late works =
      let bounds = (in_time_bounds v.history.seen so.clock.now (works.in_time place v there)).1 in
      let now = works.now in
      omega (arith, bounds, now)

  pub its_move : IsTurnOf s.engines.items s.turn s.now place → HasMove s.now v
  its_move turn = subst (λ (x : EngineView). HasMove s.now x) (same_run s.engines.items place turn.v v turn.there there) turn.has

  pub its_overdue : IsFirstOverdue s.engines.items s.now place → (issue : ℕ) × IsFirstBy s.now (put_deadline v) (Some issue)
  its_overdue first = (first.issue, subst (λ (x : EngineView). IsFirstBy s.now (put_deadline x) (Some first.issue)) (same_run s.engines.items place first.v v first.there there) first.first)

  pub its_resend : (moment issue : ℕ) → IsFirstResend s.engines.items s.now place moment issue → IsNextPut v.puts (Some (moment, issue))
  its_resend moment issue first = subst (λ (x : EngineView). IsNextPut x.puts (Some (moment, issue))) (same_run s.engines.items place first.v v first.there there) first.next

-- ---- where the place is

pub turn_within : (engines : List EngineView) (turn now place : ℕ) → IsTurnOf engines turn now place → place < length engines
turn_within engines turn now place is = below engines place is.v is.there

pub overdue_within : (engines : List EngineView) (now place : ℕ) → IsFirstOverdue engines now place → place < length engines
overdue_within engines now place is = below engines place is.v is.there

pub resend_within : (engines : List EngineView) (now place moment issue : ℕ) → IsFirstResend engines now place moment issue → place < length engines
resend_within engines now place moment issue is = below engines place is.v is.there

pub turn_low : (n place : ℕ) → place < n → turn_after n place < n
turn_low n place lt = by (place + 1 == n) refl
  where
    by : (b : Bool) → place + 1 == n ≡ b → (if b then 0 else place + 1) < n
    by true e = omega (arith, lt)
    by false e = grind (arith, nat_tests)

-- ---- what the world of the fleet allows

module _ (so : SiteView) (s : Fleet) (place : ℕ) (works : IsWorking s so) where
  pub may_put : EachBelow place s.engines.items (IsSettled so) → (p : Phase) (own : ℕ → Own) (notes : Shared) (k : ℕ) → Counts s notes → Below place (world_of so s own notes p k)
  may_put settled p own notes k counts = record { few = works.few; stands = works.stands; settled = settled }

  pub may_append : EachBelow place s.engines.items (IsSettled so) → 1 ≤ s.left → (p : Phase) (own : ℕ → Own) (notes : Shared) (k : ℕ) → Counts s notes → MayAppend place (world_of so s own notes p k)
  may_append settled some p own notes k counts = (may_put settled p own notes k counts, let left = counts.left in omega (arith, left, some))

pub each_below : (engines : List EngineView) (place : ℕ) (P : ℕ → EngineView → Type 0) → EachRun engines P → EachBelow place engines P
each_below engines place P each k v lt there = each k v there

module _ (so : SiteView) (s : Fleet) (sound : IsSound so) (between : IsBetweenTurns s so) (goes : SomeGoes s.engines.items) (some : 1 ≤ s.left) where
  pub may_move : (place : ℕ) → IsTurnOf s.engines.items s.turn s.now place → (own : ℕ → Own) (notes : Shared) (k : ℕ) → Counts s notes → MayMove place (world_of so s own notes looked k)
  may_move place turn own notes k counts = record {
    has_looked = looks so s sound between goes some own notes k counts;
    turn_of = subst (λ (n : ℕ). IsTurnOf s.engines.items n so.clock.now place) (sym counts.turn) (subst (λ (n : ℕ). IsTurnOf s.engines.items s.turn n place) between.works.now turn);
    few = between.works.few;
  }

  idle_now : EachRun s.engines.items (λ other. HasNoMove s.now) → (own : ℕ → Own) (notes : Shared) (k : ℕ) → Counts s notes → IsIdle (world_of so s own notes looked k)
  idle_now idle own notes k counts = record {
    has_looked = looks so s sound between goes some own notes k counts;
    none = subst (λ (n : ℕ). EachRun s.engines.items (λ other. HasNoMove n)) between.works.now idle;
  }

  pub may_expire : (place : ℕ) → EachRun s.engines.items (λ other. HasNoMove s.now) → IsFirstOverdue s.engines.items s.now place → (own : ℕ → Own) (notes : Shared) (k : ℕ) → Counts s notes
      → MayExpire place (world_of so s own notes looked k)
  may_expire place idle first own notes k counts = record {
    idle = idle_now idle own notes k counts;
    lower = subst (λ (n : ℕ). EachBelow place s.engines.items (λ other. HasNoneOverdue n)) between.works.now first.lower;
    few = between.works.few;
  }

  pub may_resend : (place moment issue : ℕ) → EachRun s.engines.items (λ other. HasNoMove s.now) → EachRun s.engines.items (λ other. HasNoneOverdue s.now)
      → IsFirstResend s.engines.items s.now place moment issue → (own : ℕ → Own) (notes : Shared) (k : ℕ) → Counts s notes → MayResend place (world_of so s own notes looked k)
  may_resend place moment issue idle on_time first own notes k counts = record {
    on_time = record {
      idle = idle_now idle own notes k counts;
      none = subst (λ (n : ℕ). EachRun s.engines.items (λ other. HasNoneOverdue n)) between.works.now on_time;
    };
    lower = subst (λ (n : ℕ). EachBelow place s.engines.items (λ other. HasNoResend n)) between.works.now first.lower;
    few = between.works.few;
  }

-- ---- where a call for the run at a place leads, whatever comes of it

module _ (so sn : SiteView) (s t : Fleet) (place : ℕ) (v w : EngineView) (there : slice_get s.engines.items place ≡ Some v) (engines : t.engines.items ≡ slice_set s.engines.items place w) (filters : t.filters ≡ s.filters)
    (left : t.left ≡ s.left) (turn : t.turn ≡ s.turn) (ignored : t.ignored ≡ s.ignored) where
  -- where no record was appended
  pub did_so : {T : Type 0} (result : Result T FleetError) (P : FleetWorld → Type 0) (p : Phase) → ((own : ℕ → Own) (notes : Shared) (k : ℕ) → Counts s notes → P (world_of so s own notes p k))
      → RunDid result P 0 same_turn place so v p sn w → Did result so s p sn t
  did_so (Ok done) P p may did =
      run_goes P place so sn s v p there may 0 same_turn w rests t did engines filters (omega (arith, left)) (λ own notes k counts. counts.turn ∙ sym turn) ignored
  did_so (Err error) P p may did = run_refuses P place so sn s v p there may error did

  pub between_so : (now : t.now ≡ s.now) → {T : Type 0} (result : Result T FleetError) → OnOk result (AllPut w) → OnOk result (IsAtWork w (seen_from place sn)) → OnOk result (LeavesRest place so sn) → IsBetweenTurns s so
      → OnOk result (IsBetweenTurns t sn)
  between_so now (Ok done) put work rest between =
      between_after place so sn s t v w there rest work engines filters now (subst (λ (n : ℕ). n < length s.engines.items) (sym turn) between.works.turn) between put ignored
  between_so now (Err error) put work rest between = tt

  pub begun_so : (now : t.now ≡ s.now) → {T : Type 0} (result : Result T FleetError) → OnOk result (AllPut w) → OnOk result (IsAtWork w (seen_from place sn)) → OnOk result (LeavesRest place so sn) → IsWorking s so
      → EachBelow place s.engines.items (IsSettled so) → OnOk result (HasBegun place s t sn)
  begun_so now (Ok done) put work rest works settled =
      begun_after place so sn s t v w there rest work engines filters now (subst (λ (n : ℕ). n < length s.engines.items) (sym turn) works.turn) works put settled ignored
  begun_so now (Err error) put work rest works settled = tt

-- ---- a reply that is none of the run's

pub not_taken : (engines : List EngineView) (place : ℕ) (v : EngineView) (parcel : Parcel) → slice_get engines place ≡ Some v → ((read : Answer) → IsReplyTo v.history parcel read → ⊥)
    → (x : EngineView) (read : Answer) → slice_get engines place ≡ Some x → IsReplyTo x.history parcel read → ⊥
not_taken engines place v parcel there none x read at is = none read (subst (λ (y : EngineView). IsReplyTo y.history parcel read) (same_run engines place x v at there) is)

pub set_same : (engines : List EngineView) (place : ℕ) (v w : EngineView) → slice_get engines place ≡ Some v → w ≡ v → slice_set engines place w ≡ engines
set_same engines place v w there same = subst (λ (x : EngineView). slice_set engines place x ≡ engines) (sym same) (set_self engines place v there)
