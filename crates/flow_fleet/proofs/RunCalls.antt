-- What each call for one run tries, and what comes behind an append.
use Rattle.std.proofs.Common.{◌≡◌, ◌≢◌, ℕ, ◌+◌, ◌-◌, ◌≤◌, true, false, List, [], ◌∷◌, ◌++◌, length, refl, sym, ◌∙◌, subst, ap, arith}
use Rattle.std.specs.Prelude.{Option, Some, None, Result, Ok, Err, IfOk, Vec, find, slice_get, slice_set, ⊤, ◌==◌}
use Rattle.std.specs.declared.alloc.Global.{Global}
use Rattle.flow_core_rules.specs.State.{Shown}
use Rattle.flow_engine_history.specs.Histories.{IsLineAt}
use Rattle.flow_fleet_laws.specs.Speeches.{head_of}
use Rattle.cacao_site.specs.DiskCalls.{KeepsDisk}
use Rattle.cacao_site.specs.LinkCalls.{Gains}
use Rattle.cacao_site.specs.Sound.{IsSound}
use Rattle.cacao_site.specs.View.{SiteView}
use Rattle.cacao_site.specs.declared.parcel.Parcel.{Parcel}
use Rattle.run_records.specs.declared.record.Record.{Record}
use Rattle.run_records.specs.declared.record.Record.TheVariants as entry
use Rattle.base_dues.specs.Pairs.{IsFirstBy}
use Rattle.flow_engine_answers.specs.declared.answers.OperatorAnswer.{OperatorAnswer}
use Rattle.flow_engine_history.specs.HistoryCalls.{Is}
use Rattle.flow_engine_history.specs.HistoryView.{HistoryView}
use Rattle.flow_engine.specs.EngineCalls.{Appends, IsBeginning, IsMove, IsReply, Sends, put_deadline}
use Rattle.flow_engine.specs.EngineView.{EngineView}
use Rattle.flow_engine.specs.OpenIssues.{IsNextPut}
use Rattle.slpf_actuator.specs.ActuatorView.{ActuatorView}
use Rattle.flow_world_steps.specs.Sides.{IsEngine, IsWhole}
use Rattle.flow_world_steps.specs.Steps.{IsAddressed}
use Rattle.flow_world_steps.specs.Turns.{HasAnswer, IsIdle, IsOnTime, IsUntold}
use Rattle.flow_world_steps.specs.Worlds.{World, Phase, holds, looked, owes, rests}
use Rattle.flow_world_parts.specs.Leads.{IsAtWork}
use Rattle.flow_fleet_laws.specs.Views.{seen_from}
use Rattle.flow_fleet_laws.proofs.Seen.{keeps-seen, sound-seen}
use Rattle.flow_world_parts.proofs.Standing.{work_stays}
use Rattle.flow_fleet_steps.specs.Steps.FleetStep.{begins, expires, moves, replies, resends}
use Rattle.flow_fleet_steps.specs.Steps.FleetSteps.{nothing, and_then}
use Rattle.flow_fleet_steps.specs.Worlds.{FleetWorld, Own, Shared, part, set_own}
use Rattle.flow_fleet_steps.specs.declared.error.FleetError.{FleetError}
use Rattle.flow_fleet.specs.Leads.{Below, IsBelow, IsNumberedLine, LeavesRest, MayAppend, MayExpire, MayMove, MayResend, Owing, RunDid, RunGoes, RunLeads, at, next_turn, same_turn}
use Rattle.flow_fleet.proofs.Places.{below_after, rest_only}
use Rattle.flow_fleet.proofs.RunSteps.{IsTry, appended, did_then}

-- ---- what each call tries

module _ (place : ℕ) (so : SiteView) (v : EngineView) (sound : IsSound so) where
  pub try_begin : IsWhole v (seen_from place so) → v.history.records ≡ [] → IsTry (MayAppend place) (IsBeginning v.history so.clock.now) same_turn place so v rests
  try_begin whole empty engines own filters notes k there given sn w o notes' q turn tries = begins place (record {
    settled = given.0.settled;
    stands = given.0.stands;
    does = record {
      v = v;
      w = w;
      own = o;
      there = there;
      does = record { phase = refl; sound = sound-seen place so sound; whole = whole; empty = empty; budget = given.1; tries = tries };
      engines = refl;
      owns = refl;
      place_is = refl;
    };
    turn = turn;
  })

  pub try_move : IsAtWork v (seen_from place so) → IsTry (MayMove place) (IsMove v.history so.clock.now) (next_turn place) place so v looked
  try_move work engines own filters notes k there given sn w o notes' q turn tries = moves place (record {
    has_looked = given.has_looked;
    turn_of = given.turn_of;
    does = record {
      v = v;
      w = w;
      own = o;
      there = there;
      does = record { has_looked = record { phase = refl; sound = sound-seen place so sound; up = work.up; budget = given.has_looked.budget }; tries = tries };
      engines = refl;
      owns = refl;
      place_is = refl;
    };
    turn = turn;
  })

  no_answer : (w : World) (issue : ℕ) (told : OperatorAnswer) → w.notes.answers ≡ [] → HasAnswer w issue told → ⊥
  no_answer w issue told none has = none_found (subst (λ (l : List OperatorAnswer). find (λ t. t.issue == issue) l ≡ Some told) none has.first)
    where
      none_found : find (λ (t : OperatorAnswer). t.issue == issue) [] ≡ Some told → ⊥
      none_found e = cc

  pub try_expire : (issue : ℕ) → IsAtWork v (seen_from place so) → IsFirstBy so.clock.now (put_deadline v) (Some issue)
      → IsTry (MayExpire place) (Is (entry.Expire issue so.clock.now)) same_turn place so v looked
  try_expire issue work first engines own filters notes k there given sn w o notes' q turn tries = expires place issue (record {
    idle = given.idle;
    lower = given.lower;
    does = record {
      v = v;
      w = w;
      own = o;
      there = there;
      does = record {
        overdue = record {
          untold = record {
            idle = record {
              has_looked = record { phase = refl; sound = sound-seen place so sound; up = work.up; budget = given.idle.has_looked.budget };
              no_move = given.idle.none place v there;
            };
            none = λ i told. no_answer (part place v (own place) (at so engines own filters notes looked k)) i told refl;
          };
          first = first;
        };
        tries = tries;
      };
      engines = refl;
      owns = refl;
      place_is = refl;
    };
    turn = turn;
  })

  pub try_reply : (beat : ℕ) (parcel : Parcel) → IsAtWork v (seen_from place so) → IsAddressed parcel → parcel.back ≡ true
      → IsTry (MayAppend place) (IsReply v.history parcel so.clock.now) same_turn place so v (holds beat parcel)
  try_reply beat parcel work addressed back engines own filters notes k there given sn w o notes' q turn tries = replies beat parcel place (record {
    stands = given.0.stands;
    does = record {
      v = v;
      w = w;
      own = o;
      there = there;
      does = record {
        holds_reply = record { phase = refl; addressed = addressed; back = back };
        sound = sound-seen place so sound;
        up = work.up;
        budget = given.1;
        tries = tries;
      };
      engines = refl;
      owns = refl;
      place_is = refl;
    };
    turn = turn;
  })

  pub resent : (moment issue : ℕ) (sn : SiteView) (w : EngineView) → IsAtWork v (seen_from place so) → IsNextPut v.puts (Some (moment, issue)) → moment ≤ so.clock.now
      → Sends v w issue so.clock.now (seen_from place so) (seen_from place sn) → IsEngine w (seen_from place sn) → RunGoes (MayResend place) 0 same_turn place so v looked sn w rests
  resent moment issue sn w work next come sends engine engines own filters notes k there given =
      let o : Own = record (own place) { put = (own place).put ++ issue ∷ [] } in
      record {
        own = set_own place o own;
        notes = notes;
        at_place = place;
        owed = λ e. refl;
        steps = and_then nothing (resends place issue (record {
          on_time = given.on_time;
          lower = given.lower;
          does = record {
            v = v;
            w = w;
            own = o;
            there = there;
            does = record {
              due = record {
                on_time = record {
                  untold = record {
                    idle = record {
                      has_looked = record { phase = refl; sound = sound-seen place so sound; up = work.up; budget = given.on_time.idle.has_looked.budget };
                      no_move = given.on_time.idle.none place v there;
                    };
                    none = λ i told. no_answer (part place v (own place) (at so engines own filters notes looked k)) i told refl;
                  };
                  none = given.on_time.none place v there;
                };
                moment = moment;
                next = next;
                come = come;
              };
              puts = record { sends = sends; engine = engine; filters = refl; notes = refl; phase = refl };
            };
            engines = refl;
            owns = refl;
            place_is = refl;
          };
          turn = refl;
        }));
        left = omega arith;
        turn_is = refl;
        ignored = refl;
      }

-- ---- what is asked of lower places

pub under_move : (place : ℕ) (w : FleetWorld) → MayMove place w → IsBelow place w.site w.engines
under_move place w may = record {
  few = may.few;
  stands = λ k v there. (may.has_looked.settled k v there).up.has_file;
  settled = λ k v lt there. may.has_looked.settled k v there;
}

pub under_expire : (place : ℕ) (w : FleetWorld) → MayExpire place w → IsBelow place w.site w.engines
under_expire place w may = record {
  few = may.few;
  stands = λ k v there. (may.idle.has_looked.settled k v there).up.has_file;
  settled = λ k v lt there. may.idle.has_looked.settled k v there;
}

-- ---- behind an append

pub whole_after : (place : ℕ) (so mid : SiteView) (v w : EngineView) (IsNext : Record → Type 0) → Appends v w IsNext (seen_from place so) (seen_from place mid) → IsEngine w (seen_from place mid)
    → IsWhole w (seen_from place mid)
whole_after place so mid v w IsNext is engine = record { engine = engine; whole = ap (λ (h : HistoryView). h.broken) is.adds.view }

module _ (P : FleetWorld → Type 0) (place : ℕ) (under : (w : FleetWorld) → P w → IsBelow place w.site w.engines) (budget : (w : FleetWorld) → P w → 1 ≤ w.notes.left) (IsNext : Record → Type 0)
    (turn : FleetWorld → ℕ) (so : SiteView) (v : EngineView) (p : Phase) (try : IsTry P IsNext turn place so v p) (mid : SiteView) (w : EngineView)
    (is : Appends v w IsNext (seen_from place so) (seen_from place mid)) (engine : IsEngine w (seen_from place mid)) where
  -- its line was said, or not
  pub appended_then : {T : Type 0} (result : Result T FleetError) (sn : SiteView) (x : EngineView) → RunDid result (Owing place) 0 same_turn place mid w owes sn x → RunDid result P 1 turn place so v p sn x
  appended_then result sn x said =
      did_then P (Owing place) place so mid v w p owes
      (λ engines own filters notes k there given own' notes' k' owed.
      let below = under (at so engines own filters notes p k) given in
      (below_after place so mid engines v w there below.few (rest_only place _ so mid is.adds.offers.file) below (whole_after place so mid v w IsNext is engine), owed refl))
      1 turn (appended P budget IsNext turn place so v p try mid w is engine) result 0 sn x said

-- the line was said, and something came behind it
pub said_then : {T : Type 0} (result : Result T FleetError) (place : ℕ) (mid last sn : SiteView) (w x : EngineView) → LeavesRest place mid last → IsAtWork w (seen_from place last)
    → RunGoes (Owing place) 0 same_turn place mid w owes last w rests → RunDid result (Below place) 0 same_turn place last w rests sn x → RunDid result (Owing place) 0 same_turn place mid w owes sn x
said_then result place mid last sn w x rest work said then_ =
    did_then (Owing place) (Below place) place mid last w w owes rests
    (λ engines own filters notes k there given own' notes' k' owed. below_after place mid last engines w w there given.0.few rest given.0 work.up.has_file)
    0 same_turn said result 0 sn x then_

-- a line that was made with the run's number before it
pub said_as : (a c : Option (List (ℕ × List ℕ))) (beat : ℕ) (text line : List ℕ) → text ≡ line → Gains a (beat, text) c → Gains a (beat, line) c
said_as a c beat text line e gained = subst (λ (l : List ℕ). Gains a (beat, l) c) e gained

-- ---- a disk that stays

pub work_kept : (place : ℕ) (v : EngineView) (so sn : SiteView) → KeepsDisk so.disk sn.disk → sn.clock.now ≡ so.clock.now → IsAtWork v (seen_from place so) → IsAtWork v (seen_from place sn)
work_kept place v so sn keeps now work = work_stays v (seen_from place so) (seen_from place sn) (keeps-seen place keeps) now work

-- ---- the line with the run's number

pub numbered_line : {E : Type 0} (v : EngineView) (line bytes : List ℕ) (run : ℕ) (seen : Shown) (result : Result (Vec ℕ Global) E) → v.history.records ≢ []
    → IsLineAt v.history (length v.history.records - 1) line → bytes ≡ line → seen ≡ v.history.seen → run ≡ seen.run → IfOk result (λ text. text.items ≡ head_of run ++ bytes) → IfOk result (λ text. IsNumberedLine v text.items)
numbered_line v line bytes run seen (Ok text) some at same shown of_run made = record {
  bytes = bytes;
  line = record {
    n = length v.history.records - 1;
    last = more v.history.records some;
    line = subst (λ (l : List ℕ). IsLineAt v.history (length v.history.records - 1) l) (sym same) at;
  };
  is = made ∙ ap (λ (n : ℕ). head_of n ++ bytes) (of_run ∙ ap (λ (s : Shown). s.run) shown);
}
  where
    more : (records : List Record) → records ≢ [] → length records - 1 + 1 ≡ length records
    more [] none = absurd (none refl)
    more (r ∷ records) none = omega arith
numbered_line v line bytes run seen (Err error) some at same shown of_run made = tt
