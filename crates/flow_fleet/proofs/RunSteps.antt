-- Where the calls of one run's engine lead in a fleet.
use Rattle.std.proofs.Common.{◌≡◌, ◌≢◌, ℕ, ◌+◌, ◌-◌, ◌≤◌, true, false, List, [], ◌∷◌, ◌++◌, length, refl, sym, ◌∙◌, subst, ap, arith}
use Rattle.std.specs.Prelude.{Some, None, Result, Ok, Err, slice_get, slice_set}
use Rattle.cacao_site.specs.Counts.{next_count}
use Rattle.cacao_site.specs.LinkCalls.{Gains}
use Rattle.cacao_site.specs.SayCalls.{SaysOnly}
use Rattle.cacao_site.specs.Sound.{IsSound}
use Rattle.cacao_site.specs.View.{SiteView}
use Rattle.run_records.specs.declared.record.Record.{Record}
use Rattle.flow_engine_history.specs.declared.error.EngineError.{EngineError}
use Rattle.flow_engine_history.specs.declared.error.EngineError.TheVariants as engine_error
use Rattle.flow_engine.specs.EngineCalls.{Appends, Refused, Sends}
use Rattle.flow_engine.specs.EngineView.{EngineView}
use Rattle.slpf_actuator.specs.ActuatorView.{ActuatorView}
use Rattle.flow_world_steps.specs.Appends.{Tries}
use Rattle.flow_world_steps.specs.Appends.Tries.{done, failed, limited}
use Rattle.flow_world_steps.specs.Sides.{IsEngine, IsUp}
use Rattle.flow_world_steps.specs.Steps.{IsLastLine}
use Rattle.flow_world_steps.specs.Worlds.{IsGoing, Phase, disk_failed, not_said, owes, owes_line, past, refused, rests, wants_memory}
use Rattle.flow_world_parts.specs.Errors.{append_refusal}
use Rattle.flow_world_parts.specs.Leads.{ArePutBelow, IsAtWork}
use Rattle.flow_fleet_laws.specs.Speeches.{head_of}
use Rattle.flow_fleet_laws.specs.Views.{seen_from}
use Rattle.flow_fleet_laws.proofs.Seen.{sound-seen}
use Rattle.flow_fleet_steps.specs.Errors.{fleet_refusal}
use Rattle.flow_fleet_steps.specs.Steps.{FleetStep, FleetSteps}
use Rattle.flow_fleet_steps.specs.Steps.FleetStep.{says, fails_to_say, puts_first, wants_memory_now}
use Rattle.flow_fleet_steps.specs.Steps.FleetSteps.{nothing, and_then}
use Rattle.flow_fleet_steps.specs.Worlds.{FleetWorld, Own, Shared, part, set_own}
use Rattle.flow_fleet_steps.specs.declared.error.FleetError.{FleetError}
use Rattle.flow_fleet_steps.specs.declared.error.FleetError.TheVariants as error
use Rattle.flow_fleet_steps.proofs.Back.{same_back}
use Rattle.flow_fleet.specs.Leads.{Below, IsBelow, LeavesRest, Owing, RefusesAt, RunDid, RunGoes, RunLeads, RunRefuses, at, same_turn}
use Rattle.flow_fleet.proofs.Places.{below_after, set_get, set_self, set_twice}
use Rattle.flow_engine.specs.OpenIssues.{puts_of}

-- ---- steps in a row

pub steps_then : {a b c : FleetWorld} → FleetSteps a b → FleetSteps b c → FleetSteps a c
steps_then first nothing = first
steps_then first (and_then steps step) = and_then (steps_then first steps) step

-- what holds behind calls of one run, where they came from worlds like these
module _ (P Q : FleetWorld → Type 0) (place : ℕ) (so mid : SiteView) (v w : EngineView) (p q : Phase)
    (keep : (engines : List EngineView) (own : ℕ → Own) (filters : List ActuatorView) (notes : Shared) (k : ℕ) → slice_get engines place ≡ Some v → P (at so engines own filters notes p k)
    → (own' : ℕ → Own) (notes' : Shared) (k' : ℕ) → (q ≡ owes → k' ≡ place) → Q (at mid (slice_set engines place w) own' filters notes' q k')) (n : ℕ) (turn : FleetWorld → ℕ) (first : RunGoes P n turn place so v p mid w q) where
  pub goes_then : (m : ℕ) (sn : SiteView) (x : EngineView) (r : Phase) → RunGoes Q m same_turn place mid w q sn x r → RunGoes P (n + m) turn place so v p sn x r
  goes_then m sn x r second engines own filters notes k there given =
      let one = first engines own filters notes k there given in
      let E = slice_set engines place w in
      let two = second E one.own filters one.notes one.at_place (set_get engines place v w there) (keep engines own filters notes k there given one.own one.notes one.at_place one.owed) in
      record {
        own = two.own;
        notes = two.notes;
        at_place = two.at_place;
        steps = subst (λ (l : List EngineView). FleetSteps (at so engines own filters notes p k) (at sn l two.own filters two.notes r two.at_place)) (set_twice engines place w x)
            (steps_then one.steps two.steps);
        owed = two.owed;
        left = omega (arith, one.left, two.left);
        turn_is = two.turn_is ∙ one.turn_is;
        ignored = two.ignored ∙ one.ignored;
      }

  pub goes_refuses : (why : FleetError) (sn : SiteView) → RunRefuses Q why place mid w q sn → RunRefuses P why place so v p sn
  goes_refuses why sn second engines own filters notes k there given =
      let one = first engines own filters notes k there given in
      let two = second (slice_set engines place w) one.own filters one.notes one.at_place (set_get engines place v w there) (keep engines own filters notes k there given one.own one.notes one.at_place one.owed) in
      record { to = two.to; steps = steps_then one.steps two.steps; left_is = two.left_is; refuses = two.refuses }

  pub did_then : {T : Type 0} (result : Result T FleetError) (m : ℕ) (sn : SiteView) (x : EngineView) → RunDid result Q m same_turn place mid w q sn x → RunDid result P (n + m) turn place so v p sn x
  did_then (Ok t) m sn x second = goes_then m sn x rests second
  did_then (Err why) m sn x second = goes_refuses why sn second

-- nothing was done
pub stays_there : (P : FleetWorld → Type 0) (place : ℕ) (so : SiteView) (v : EngineView) (p : Phase) → p ≢ owes → RunGoes P 0 same_turn place so v p so v p
stays_there P place so v p none engines own filters notes k there given = record {
  own = own;
  notes = notes;
  at_place = k;
  steps = subst (λ (l : List EngineView). FleetSteps (at so engines own filters notes p k) (at so l own filters notes p k)) (sym (set_self engines place v there)) nothing;
  owed = λ e. absurd (none e);
  left = omega arith;
  turn_is = refl;
  ignored = refl;
}

pub stays_at_rest : (P : FleetWorld → Type 0) (place : ℕ) (so : SiteView) (v : EngineView) → RunGoes P 0 same_turn place so v rests so v rests
stays_at_rest P place so v = stays_there P place so v rests (λ e. cc)

-- the runs at lower places stay settled where the run at this place goes on
pub below_kept : (place : ℕ) (so mid : SiteView) (v w : EngineView) (p q : Phase) → LeavesRest place so mid → IsAtWork w (seen_from place mid)
    → (engines : List EngineView) (own : ℕ → Own) (filters : List ActuatorView) (notes : Shared) (k : ℕ) → slice_get engines place ≡ Some v → Below place (at so engines own filters notes p k)
    → (own' : ℕ → Own) (notes' : Shared) (k' : ℕ) → (q ≡ owes → k' ≡ place) → Below place (at mid (slice_set engines place w) own' filters notes' q k')
below_kept place so mid v w p q rest work engines own filters notes k there given own' notes' k' owed = below_after place so mid engines v w there given.few rest given work.up.has_file

-- ---- want of memory

pub wants : (P : FleetWorld → Type 0) (place : ℕ) (so : SiteView) (v : EngineView) (p : Phase) → IsGoing p → RunRefuses P error.Memory place so v p so
wants P place so v p going engines own filters notes k there given = record {
  to = at so engines own filters notes (refused wants_memory (owes_line p)) k;
  steps = and_then nothing (wants_memory_now (record { going = going; only = record { site = refl; sides = record { engines = refl; own = refl; filters = refl }; notes = refl; phase = refl } }));
  left_is = refl;
  refuses = record { cause = wants_memory; lacks = owes_line p; phase = refl; is = refl };
}

-- ---- lines

module _ (place : ℕ) (v : EngineView) (so sn : SiteView) (bytes : List ℕ) (sound : IsSound so) (up : IsUp v (seen_from place so)) (line : IsLastLine v bytes) (only : SaysOnly so sn) where
  pub line_said : Gains so.link.said (sn.disk.beat, head_of v.history.seen.run ++ bytes) sn.link.said → sn.counts.unsaid ≡ so.counts.unsaid → RunGoes (Owing place) 0 same_turn place so v owes sn v rests
  line_said said counted engines own filters notes k there given = record {
    own = own;
    notes = notes;
    at_place = place;
    owed = λ e. refl;
    steps = and_then nothing (says place v bytes (record {
      speaks = record {
        phase = refl;
        place_is = given.1;
        sound = sound;
        stands = given.0.stands;
        there = there;
        up = up;
        line = line;
        only = only;
        sides = record { engines = set_self engines place v there; own = refl; filters = refl };
        notes = refl;
      };
      said = said;
      counted = counted;
      phase = refl;
    }));
    left = omega arith;
    turn_is = refl;
    ignored = refl;
  }

  pub line_unsaid : sn.link.said ≡ so.link.said → sn.counts.unsaid ≡ next_count so.counts.unsaid → RunRefuses (Owing place) error.Say place so v owes sn
  line_unsaid unsaid counted engines own filters notes k there given = record {
    to = at sn engines own filters notes (refused not_said true) k;
    steps = and_then nothing (fails_to_say place v bytes (record {
      speaks = record {
        phase = refl;
        place_is = given.1;
        sound = sound;
        stands = given.0.stands;
        there = there;
        up = up;
        line = line;
        only = only;
        sides = record { engines = refl; own = refl; filters = refl };
        notes = refl;
      };
      unsaid = unsaid;
      counted = counted;
      phase = refl;
    }));
    left_is = refl;
    refuses = record { cause = not_said; lacks = true; phase = refl; is = refl };
  }

-- ---- records

-- Each call that appends is a step by what it tries, for each world of the fleet that has P.
abbrev pub IsTry : (FleetWorld → Type 0) → (Record → Type 0) → (FleetWorld → ℕ) → ℕ → SiteView → EngineView → Phase → Type 0
IsTry P IsNext turn place so v p =
    (engines : List EngineView) (own : ℕ → Own) (filters : List ActuatorView) (notes : Shared) (k : ℕ) → slice_get engines place ≡ Some v → P (at so engines own filters notes p k)
    → (sn : SiteView) (w : EngineView) (o : Own) (notes' : Shared) (q : Phase) → notes'.turn ≡ turn (at so engines own filters notes p k)
    → Tries IsNext (part place v (own place) (at so engines own filters notes p k)) (part place w o (at sn (slice_set engines place w) (set_own place o own) filters notes' q place))
    → FleetStep (at so engines own filters notes p k) (at sn (slice_set engines place w) (set_own place o own) filters notes' q place)

module _ (P : FleetWorld → Type 0) (budget : (w : FleetWorld) → P w → 1 ≤ w.notes.left) (IsNext : Record → Type 0) (turn : FleetWorld → ℕ) (place : ℕ) (so : SiteView) (v : EngineView) (p : Phase)
    (step : IsTry P IsNext turn place so v p) where
  -- it was appended
  pub appended : (sn : SiteView) (w : EngineView) → Appends v w IsNext (seen_from place so) (seen_from place sn) → IsEngine w (seen_from place sn) → RunGoes P 1 turn place so v p sn w owes
  appended sn w is engine engines own filters notes k there given =
      let from = at so engines own filters notes p k in
      let notes' : Shared = record notes { left = notes.left - 1; turn = turn from } in
      record {
        own = set_own place (own place) own;
        notes = notes';
        at_place = place;
        owed = λ e. refl;
        steps = and_then nothing (step engines own filters notes k there given sn w (own place) notes' owes refl
            (done (record { appends = is; engine = engine; filters = refl; notes = refl; phase = refl })));
        left = omega (arith, budget from given);
        turn_is = refl;
        ignored = refl;
      }

  -- it was refused
  pub not_appended : (sn : SiteView) (w : EngineView) (why : EngineError) → IsGoing p → owes_line p ≡ false → v.history.broken ≡ false → IsEngine w (seen_from place sn)
      → Refused v w IsNext why (seen_from place so) (seen_from place sn) → RunRefuses P (fleet_refusal 0 0 (append_refusal why)) place so v p sn
  not_appended sn w engine_error.Disk going none whole engine refuses engines own filters notes k there given =
      let from = at so engines own filters notes p k in
      let notes' : Shared = record notes { turn = turn from } in
      let o : Own = record (own place) { unsure = Some refuses.0.0.comes.next } in
      record {
        to = at sn (slice_set engines place w) (set_own place o own) filters notes' (refused disk_failed false) place;
        steps = and_then nothing (step engines own filters notes k there given sn w o notes' (refused disk_failed false) refl
            (failed (record { refuses = refuses; engine = engine; filters = refl; notes = refl; phase = refl })));
        left_is = refl;
        refuses = record { cause = disk_failed; lacks = false; phase = refl; is = refl };
      }
  not_appended sn w (engine_error.Limit what) going none whole engine refuses engines own filters notes k there given =
      let from = at so engines own filters notes p k in
      let notes' : Shared = record notes { turn = turn from } in
      record {
        to = at sn (slice_set engines place w) (set_own place (own place) own) filters notes' (refused (past what) false) place;
        steps = and_then nothing (step engines own filters notes k there given sn w (own place) notes' (refused (past what) false) refl
            (limited what (record { refuses = refuses; filters = refl; notes = refl; phase = refl })));
        left_is = refl;
        refuses = record { cause = past what; lacks = false; phase = refl; is = refl };
      }
  not_appended sn w engine_error.Memory going none whole engine refuses engines own filters notes k there given =
      subst (λ (s : SiteView). RefusesAt error.Memory s (at so engines own filters notes p k)) (sym (same_back place so sn refuses.0.2)) (wants P place so v p going engines own filters notes k there given)
  not_appended sn w engine_error.Broken going none whole engine refuses engines own filters notes k there given = absurd (both whole refuses.0.0)
    where
      both : v.history.broken ≡ false → v.history.broken ≡ true → ⊥
      both e f = let g : false ≡ true = sym e ∙ f in cc
  not_appended sn w (engine_error.Damaged at) going none whole engine refuses engines own filters notes k there given = absurd refuses.0
  not_appended sn w (engine_error.OtherRun held asked) going none whole engine refuses engines own filters notes k there given = absurd refuses.0
  not_appended sn w (engine_error.OtherBook index) going none whole engine refuses engines own filters notes k there given = absurd refuses.0

-- ---- a put

module _ (place : ℕ) (v w : EngineView) (issue : ℕ) (so sn : SiteView) (put : ArePutBelow issue v) (sends : Sends v w issue so.clock.now (seen_from place so) (seen_from place sn)) where
  pub put_goes : IsSound so → IsUp v (seen_from place so) → puts_of v.puts issue ≡ None → IsEngine w (seen_from place sn) → RunGoes (Below place) 0 same_turn place so v rests sn w rests
  put_goes sound up unput engine engines own filters notes k there given =
      let o : Own = record (own place) { put = (own place).put ++ issue ∷ [] } in
      record {
        own = set_own place o own;
        notes = notes;
        at_place = place;
        owed = λ e. refl;
        steps = and_then nothing (puts_first place issue (record {
          settled = given.settled;
          stands = given.stands;
          does = record {
            v = v;
            w = w;
            own = o;
            there = there;
            does = record {
              phase = refl;
              sound = sound-seen place so sound;
              up = up;
              first = unput;
              least = λ lower it less waiting. put lower it less waiting;
              puts = record { sends = sends; engine = engine; filters = refl; notes = refl; phase = refl };
            };
            engines = refl;
            owns = refl;
            place_is = refl;
          };
          turn = refl;
        }));
        left = omega arith;
        turn_is = refl;
        ignored = refl;
      }
