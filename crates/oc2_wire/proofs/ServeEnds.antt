-- How a call of the filters' end goes on, and how it ends.
use Rattle.std.proofs.Common.{◌≡◌, ◌≢◌, inl, inr, ℕ, ◌+◌, ◌-◌, ◌<◌, ◌≤◌, Bool, true, false, List, [], ◌∷◌, ◌++◌, length, refl, sym, ◌∙◌, subst, ap, IsTrue, arith}
use Rattle.std.specs.Prelude.{Option, Some, None, IsSome, Contains, Result, Ok, Err, slice_get, slice_set, drop}
use Rattle.std.proofs.lemmas.List.{append_assoc}
use Rattle.std.proofs.lemmas.List.Elements.{All-contains, All-nil, Contains-push}
use Rattle.std.proofs.Math.Nat.{max-zero}
use Rattle.cacao_site.specs.Counts.{Rose}
use Rattle.cacao_site.specs.LinkCalls.{GainsAll}
use Rattle.cacao_site.specs.Sound.{IsInTime}
use Rattle.cacao_site.specs.View.{SiteView}
use Rattle.cacao_site.specs.declared.parcel.Parcel.{Parcel}
use Rattle.run_records.specs.Ranges.{last_moment}
use Rattle.run_records.specs.declared.act.Act.{Act}
use Rattle.flow_core.specs.declared.flow_errors.LimitKind.TheVariants as limit
use Rattle.flow_laws.specs.Images.{told_list}
use Rattle.slpf_actuator.specs.ActLists.{IsNew, length_with}
use Rattle.slpf_actuator.specs.ActuatorCalls.{Overflows}
use Rattle.slpf_actuator.specs.ActuatorView.{ActuatorView, act_for}
use Rattle.slpf_actuator.specs.declared.error.ActError.{ActError}
use Rattle.slpf_actuator.specs.declared.error.ActError.TheVariants as act_error
use Rattle.flow_world_steps.specs.Handled.{IsCommand}
use Rattle.flow_world_steps.proofs.Growth.{gains_one, gains_same}
use Rattle.flow_world_steps.proofs.Handling.{All-one, get_set_same}
use Rattle.oc2_wire_laws.specs.Ends.{IsFiltersStart}
use Rattle.oc2_wire_site.specs.LineLinks.{LinesView}
use Rattle.oc2_wire_site.specs.Wires.{WireView}
use Rattle.oc2_wire_site.specs.declared.link_state.LinkState.TheVariants as state
use Rattle.oc2_wire.specs.Answering.{Floods, RefusesLast, Served, Serves, ServesAll, TellsLink, found_by, most_idle}
use Rattle.oc2_wire.specs.FilterTurns.{AnsweredAs, Ended, HandsOn, IsLate, KeptTo, Serving}
use Rattle.oc2_wire.specs.Turns.{Asks, IsCalm, TakesAs, TakesNext, TakesNothing, TookAs}
use Rattle.oc2_wire.specs.declared.error.WireError.{WireError}
use Rattle.oc2_wire.specs.declared.error.WireError.TheVariants as error
use Rattle.oc2_wire.proofs.AnswerKept.{kept_acts, kept_did, kept_quiet, kept_repeats, kept_took, taken_since}
use Rattle.oc2_wire.proofs.LinkTold.{tells_ended, tells_failed, tells_no_memory, tells_none, tells_too_long}
use Rattle.oc2_wire.proofs.ServeActs.{at_hand, of_parcel, serves_none, serves_unsure, serving_acts, serving_again}
use Rattle.oc2_wire.proofs.ServeSteps.{Quiet, serves_quiet, serving_quiet}

-- ---- what is at hand was taken

drop_front : {T : Type 0} (xs ys : List T) → drop (length xs) (xs ++ ys) ≡ ys
drop_front [] ys = refl
drop_front (x ∷ xs) ys = drop_front xs ys

hand_taken : (a b : Option (List (ℕ × Parcel))) (handled : List (ℕ × Parcel)) (x : ℕ × Parcel) → IsSome a → GainsAll a (handled ++ x ∷ []) b → Contains (drop (length (told_list a)) (told_list b)) x
hand_taken (Some a) (Some b) handled x some gains =
    subst (λ (l : List (ℕ × Parcel)). Contains (drop (length a) l) x) (sym gains) (subst (λ (l : List (ℕ × Parcel)). Contains l x) (sym (drop_front a (handled ++ x ∷ []))) (Contains-push handled x))
hand_taken (Some a) None handled x some gains = absurd gains
hand_taken None b handled x some gains = absurd (cc)

hand_early : (a b : Option (List (ℕ × Parcel))) (handled : List (ℕ × Parcel)) (x : ℕ × Parcel) (beat : ℕ) → IsSome a → GainsAll a (handled ++ x ∷ []) b → IsInTime beat b → x.0 ≤ beat
hand_early (Some a) (Some b) handled x beat some gains time =
    let all : Contains b x = subst (λ (l : List (ℕ × Parcel)). Contains l x) (sym (gains ∙ sym (append_assoc a handled (x ∷ [])))) (Contains-push (a ++ handled) x) in
    All-contains (λ (e : ℕ × Parcel). e.0 ≤ beat) b x time.past all
hand_early (Some a) None handled x beat some gains time = absurd gains
hand_early None b handled x beat some gains time = absurd (cc)

-- ---- a take

module _ (old : WireView) (opened : SiteView) (w t : WireView) (fs : List ActuatorView) (acts : List (ℕ × Act)) (repeats : ℕ) (s : Serving old opened w fs acts repeats []) where
  next_quiet : (parcel : Parcel) → TakesNext parcel w t → Quiet w t
  next_quiet parcel next = record {
    leaves = next.only.disk;
    puts = next.only.puts;
    said = next.only.said;
    furthest = next.only.time.furthest;
    unsaid = next.only.unsaid;
    asking = next.asking;
    later = next.later;
  }

  nothing_quiet : TakesNothing w t → Quiet w t
  nothing_quiet nothing = record {
    leaves = nothing.only.disk;
    puts = nothing.only.puts;
    said = nothing.only.said;
    furthest = nothing.only.time.furthest;
    unsaid = nothing.only.unsaid;
    asking = nothing.asking;
    later = nothing.later;
  }

  pub serving_next : (parcel : Parcel) → TakesNext parcel w t → Serving old opened t fs acts repeats ((t.site.disk.beat, parcel) ∷ [])
  serving_next parcel next =
      serving_quiet old opened w t fs acts repeats [] ((t.site.disk.beat, parcel) ∷ []) (next_quiet parcel next) (gains_one w.site.link.taken t.site.link.taken (t.site.disk.beat, parcel) next.some.taken)
      (All-one (λ (e : ℕ × Parcel). IsCommand e.1) (t.site.disk.beat, parcel) next.is_command) (ap found_by next.whole)
      (λ kept. kept_took old.site w.site t.site parcel next.sound next.only next.some kept) s

  serves_nothing : TakesNothing w t → Serves old opened t fs acts repeats [] None
  serves_nothing nothing =
      serves_quiet old opened w t fs acts repeats [] [] (nothing_quiet nothing) (gains_same w.site.link.taken t.site.link.taken nothing.taken) (All-nil (λ (e : ℕ × Parcel). IsCommand e.1)) s.serves

  kept_nothing : TakesNothing w t → IsTrue old.site.disk.told → IsFiltersStart old.site → KeptTo old.site t.site
  kept_nothing nothing told start =
      kept_quiet old.site w.site t.site nothing.sound nothing.only.disk.disk nothing.only.puts nothing.only.said nothing.taken (s.keeps told start)

  faults_nothing : TakesNothing w t → t.site.disk.faults ≡ old.site.disk.faults
  faults_nothing nothing = nothing.only.disk.disk.faults ∙ s.steady

  abbrev all_served : TakesNothing w t → IsCalm old.lines.passed repeats t → ServesAll old t
  all_served nothing calm = record {
    opened = opened;
    filters = fs;
    acted = acts;
    repeats = repeats;
    serves = serves_nothing nothing;
    steady = faults_nothing nothing;
    calm = calm;
  }

  lines_now : TakesNothing w t → old.lines.passed ≤ t.lines.passed
  lines_now nothing = omega (arith, nothing.later, s.serves.passed)

  -- the flood
  floods : (taken : Option Parcel) → TakesAs taken w t → most_idle ≤ t.lines.passed - old.lines.passed + repeats → Floods old t
  floods None nothing many = record {
    opened = opened;
    filters = fs;
    acted = acts;
    repeats = repeats;
    at_hand = [];
    one = omega arith;
    serves = serves_nothing nothing;
    steady = faults_nothing nothing;
    many = many;
  }
  floods (Some parcel) next many = record {
    opened = opened;
    filters = fs;
    acted = acts;
    repeats = repeats;
    at_hand = (t.site.disk.beat, parcel) ∷ [];
    one = omega arith;
    serves = (serving_next parcel next).serves;
    steady = (serving_next parcel next).steady;
    many = many;
  }

  -- what holds of the site, whatever was taken
  record After : Type 0 where
    pub keeps : IsTrue old.site.disk.told → IsFiltersStart old.site → KeptTo old.site t.site
    pub steady : t.site.disk.faults ≡ old.site.disk.faults
    pub asking : t.asking ≡ old.asking
    pub lines : old.lines.passed ≤ t.lines.passed

  after_take : (taken : Option Parcel) → TakesAs taken w t → After
  after_take None nothing = record {
    keeps = kept_nothing nothing;
    steady = faults_nothing nothing;
    asking = nothing.asking ∙ s.serves.asking;
    lines = lines_now nothing;
  }
  after_take (Some parcel) next =
      let now = serving_next parcel next in
      record { keeps = now.keeps; steady = now.steady; asking = now.serves.asking; lines = now.serves.passed }

  ended_by : (r : Result ℕ WireError) → r ≢ Err error.Disk → (r ≢ Err error.Flooded → TellsLink r t) → old.asking ≡ false → After → Served r old t → Ended r old t
  ended_by r other link is after served = record {
    served = served;
    keeps = λ told start. (after.keeps told start).kept;
    disk = λ is_disk. absurd (other is_disk);
    steady = λ ne. after.steady;
    answering = after.asking ∙ is;
    lines = after.lines;
    link = link;
  }

  pub ends_ok : (acted : ℕ) → acted ≡ length acts → old.asking ≡ false → TookAs (Ok None) old.lines.passed repeats w t → Ended (Ok acted) old t
  ends_ok acted many is took =
      ended_by (Ok acted) (λ e. cc) (λ ne. tells_ended acted t took.0.is) is (after_take None took.0.takes) (record { all = all_served took.0.takes took.1; found = took.0.is }, many)

  pub ends_err : (e : WireError) → old.asking ≡ false → TookAs (Err e) old.lines.passed repeats w t → Ended (Err e) old t
  ends_err error.Flooded is took = ended_by (Err error.Flooded) (λ e. cc) (λ ne. absurd (ne refl)) is (after_take took.taken took.takes) (floods took.taken took.takes took.many)
  ends_err error.TooLong is took = ended_by (Err error.TooLong) (λ e. cc) (λ ne. tells_too_long t took.0.is) is (after_take None took.0.takes) (record { all = all_served took.0.takes took.1; found = took.0.is })
  ends_err error.Link is took = ended_by (Err error.Link) (λ e. cc) (λ ne. tells_failed t took.0.is) is (after_take None took.0.takes) (record { all = all_served took.0.takes took.1; found = took.0.is })
  ends_err error.Memory is took =
      ended_by (Err error.Memory) (λ e. cc) (λ ne. tells_no_memory t took.0.is) is (after_take None took.0.takes)
      (inr (inl (record { all = all_served took.0.takes took.1; found = took.0.is })))
  ends_err error.Disk is took = absurd took
  ends_err (error.Damaged file place) is took = absurd took
  ends_err (error.OtherRun held asked) is took = absurd took
  ends_err (error.OtherBook index) is took = absurd took
  ends_err (error.Limit what) is took = absurd took
  ends_err error.Say is took = absurd took

-- ---- a command at hand

module _ (old : WireView) (opened : SiteView) (t u : WireView) (fs gs : List ActuatorView) (acts : List (ℕ × Act)) (repeats beat : ℕ) (parcel : Parcel)
    (s : Serving old opened t fs acts repeats ((beat, parcel) ∷ [])) (told_taken : IsSome old.site.link.taken) where
  asked_quiet : (m : WireView) → Asks t m → Quiet t m
  asked_quiet m asks = record {
    leaves = asks.reaches.disk;
    puts = asks.reaches.puts;
    said = asks.reaches.said;
    furthest = asks.reaches.furthest ∙ max-zero t.site.clock.furthest;
    unsaid = asks.reaches.unsaid;
    asking = asks.reads_none.asking;
    later = let same = asks.reads_none.passed in omega (arith, same);
  }

  serving_asked : (m : WireView) → Asks t m → Serving old opened m fs acts repeats ((beat, parcel) ∷ [])
  serving_asked m asks =
      serving_quiet old opened t m fs acts repeats ((beat, parcel) ∷ []) [] (asked_quiet m asks) (gains_same t.site.link.taken m.site.link.taken asks.reaches.taken)
      (All-nil (λ (e : ℕ × Parcel). IsCommand e.1)) (asks.reads_none.found_as ∙ s.found_none)
      (λ kept. kept_quiet old.site t.site m.site asks.sound asks.reaches.disk.disk asks.reaches.puts asks.reaches.said asks.reaches.taken kept) s

  calm_at : (m : WireView) → IsCalm old.lines.passed repeats t → m.lines.passed ≡ t.lines.passed → IsCalm old.lines.passed repeats m
  calm_at m calm same = subst (λ (n : ℕ). n - old.lines.passed + repeats < most_idle) (sym same) calm

  -- the clock is past the last moment
  pub ends_late : old.asking ≡ false → t.lines.state ≡ state.Whole → IsCalm old.lines.passed repeats t → IsLate t u fs gs → Ended (Err (error.Limit limit.Moment)) old u
  ends_late is whole calm late =
      let now = serving_asked u late.asks in
      record {
        served = record {
          parcel = parcel;
          refuses = record {
            opened = opened;
            filters = fs;
            acted = acts;
            repeats = repeats;
            beat = beat;
            unsure = None;
            serves = now.serves;
            calm = calm_at u calm late.asks.reads_none.passed;
            found_none = now.found_none;
          };
          steady = now.steady;
          late = subst (λ (n : ℕ). last_moment < n) (sym late.asks.reaches.now) late.late;
        };
        keeps = λ told start. (now.keeps told start).kept;
        disk = λ e. absurd (cc);
        steady = λ ne. now.steady;
        answering = now.serves.asking ∙ is;
        lines = now.serves.passed;
        link = λ ne. tells_none (Err (error.Limit limit.Moment)) u (ap (λ (l : LinesView). l.state) late.asks.lines ∙ whole);
      }

  module _ (r : Result Bool ActError) (hands : HandsOn r parcel t u fs gs) where
    abbrev m : WireView
    m = hands.middle

    pub served_middle : Serving old opened hands.middle fs acts repeats ((beat, parcel) ∷ [])
    served_middle = serving_asked hands.middle hands.asks

    in_hand : KeptTo old.site hands.middle.site → Contains (taken_since old.site hands.middle.site) (beat, parcel)
    in_hand kept = hand_taken old.site.link.taken hands.middle.site.link.taken served_middle.serves.handled (beat, parcel) told_taken served_middle.serves.takes

    is_early : beat ≤ hands.middle.site.disk.beat
    is_early =
        hand_early old.site.link.taken hands.middle.site.link.taken served_middle.serves.handled (beat, parcel) hands.middle.site.disk.beat told_taken served_middle.serves.takes hands.before.taken

  -- it acted
  pub goes_on_acted : (hands : HandsOn (Ok true) parcel t u fs gs) → Serving old opened u gs (acts ++ (parcel.agent, act_for hands.handed.answers.v.acts parcel hands.asks.now) ∷ []) repeats []
  goes_on_acted hands =
      let mid = served_middle (Ok true) hands in
      let one = hands.handed.answers in
      let is = of_parcel old opened hands.middle u fs gs acts repeats beat hands.asks.now parcel mid hands.handed.reads_none one.v one.there in
      let command = at_hand old opened hands.middle u fs gs acts repeats beat hands.asks.now parcel mid hands.handed.reads_none in
      serving_acts old opened hands.middle u fs gs acts repeats beat hands.asks.now parcel mid hands.handed.reads_none one.v one.w one.there one.others one.answers hands.handed.filters
      (kept_acts old.site hands.middle.site one.v parcel hands.asks.now beat hands.before is command.command (in_hand (Ok true) hands) (is_early (Ok true) hands) one.w u.site hands.after one.answers)

  -- it had acted before
  pub goes_on_again : (hands : HandsOn (Ok false) parcel t u fs gs) → Serving old opened u gs acts (repeats + 1) []
  goes_on_again hands =
      let mid = served_middle (Ok false) hands in
      let one = hands.handed.answers in
      let is = of_parcel old opened hands.middle u fs gs acts repeats beat hands.asks.now parcel mid hands.handed.reads_none one.v one.there in
      let command = at_hand old opened hands.middle u fs gs acts repeats beat hands.asks.now parcel mid hands.handed.reads_none in
      serving_again old opened hands.middle u fs gs acts repeats beat hands.asks.now parcel mid hands.handed.reads_none one.v one.w one.there one.others one.answers
      (kept_repeats old.site hands.middle.site one.v parcel hands.asks.now beat hands.before is command.command (in_hand (Ok false) hands) (is_early (Ok false) hands) one.w u.site one.answers)

  -- it was refused
  module _ (why : ActError) (hands : HandsOn (Err why) parcel t u fs gs) (calm : IsCalm old.lines.passed repeats t) where
    did_refuse : ((u.site ≡ hands.middle.site) → Serves old opened u gs acts repeats ((beat, parcel) ∷ []) None)
    did_refuse none =
        let one = hands.handed.answers in
        serves_none old opened hands.middle u fs gs acts repeats beat hands.asks.now parcel (served_middle (Err why) hands) hands.handed.reads_none one.v one.w one.there one.others
        (ap (λ (x : ActuatorView). x.acts) one.answers.0.view) one.agent none

    calm_now : IsCalm old.lines.passed repeats u
    calm_now = calm_at u calm (hands.handed.reads_none.passed ∙ hands.asks.reads_none.passed)

    found_now : found_by u.lines.state ≡ 0
    found_now = hands.handed.reads_none.found_as ∙ hands.asks.reads_none.found_as ∙ s.found_none

    pub refuses_with : (unsure : Option (ℕ × Act)) → Serves old opened u gs acts repeats ((beat, parcel) ∷ []) unsure → RefusesLast parcel old u
    refuses_with unsure serves = record {
      opened = opened;
      filters = gs;
      acted = acts;
      repeats = repeats;
      beat = beat;
      unsure = unsure;
      serves = serves;
      calm = calm_now;
      found_none = found_now;
    }

    pub refused_keeps : IsTrue old.site.disk.told → IsFiltersStart old.site → KeptTo old.site u.site
    refused_keeps told start =
        let mid = served_middle (Err why) hands in
        let one = hands.handed.answers in
        let is = of_parcel old opened hands.middle u fs gs acts repeats beat hands.asks.now parcel mid hands.handed.reads_none one.v one.there in
        let command = at_hand old opened hands.middle u fs gs acts repeats beat hands.asks.now parcel mid hands.handed.reads_none in
        kept_did old.site hands.middle.site one.v parcel hands.asks.now beat hands.before is command.command (in_hand (Err why) hands) (is_early (Err why) hands) why u.site one.answers.0.site
        (mid.keeps told start)

    pub refused_asking : u.asking ≡ old.asking
    refused_asking = hands.handed.reads_none.asking ∙ hands.asks.reads_none.asking ∙ s.serves.asking

    pub refused_lines : old.lines.passed ≤ u.lines.passed
    refused_lines = let a = hands.handed.reads_none.passed in let b = hands.asks.reads_none.passed in let c = s.serves.passed in omega (arith, a, b, c)

    pub refused_steady : why ≢ act_error.Disk → u.site.disk.faults ≡ old.site.disk.faults
    refused_steady ne = hands.handed.answers.answers.0.steady ne ∙ (served_middle (Err why) hands).steady

  -- a call of the disk failed
  pub ends_disk : old.asking ≡ false → IsCalm old.lines.passed repeats t → HandsOn (Err act_error.Disk) parcel t u fs gs → Ended (Err error.Disk) old u
  ends_disk is calm hands =
      let one = hands.handed.answers in
      let mid = served_middle (Err act_error.Disk) hands in
      let serves = serves_unsure old opened hands.middle u fs gs acts repeats beat hands.asks.now parcel mid hands.handed.reads_none one.v one.w one.there one.others
      (ap (λ (x : ActuatorView). x.acts) one.answers.0.view) one.agent one.answers.0.site in
      let rose : Rose old.site.disk.faults u.site.disk.faults = subst (λ (n : ℕ). Rose n u.site.disk.faults) mid.steady one.answers.1 in
      record {
        served = inr (record { parcel = parcel; refuses = refuses_with act_error.Disk hands calm (Some (parcel.agent, act_for one.v.acts parcel hands.asks.now)) serves; rose = rose });
        keeps = λ told start. (refused_keeps act_error.Disk hands calm told start).kept;
        disk = λ e. rose;
        steady = λ ne. absurd (ne refl);
        answering = refused_asking act_error.Disk hands calm ∙ is;
        lines = refused_lines act_error.Disk hands calm;
        link = λ ne. tells_none (Err error.Disk) u hands.handed.whole;
      }

  -- memory was wanted
  pub ends_memory : old.asking ≡ false → IsCalm old.lines.passed repeats t → HandsOn (Err act_error.Memory) parcel t u fs gs → Ended (Err error.Memory) old u
  ends_memory is calm hands =
      let one = hands.handed.answers in
      let mid = served_middle (Err act_error.Memory) hands in
      let steady = refused_steady act_error.Memory hands calm (λ e. cc) in
      let refuses : RefusesLast parcel old u = elim one.answers.0.site [
        | inl none ↦ refuses_with act_error.Memory hands calm None (did_refuse act_error.Memory hands calm none)
        | inr offers ↦ refuses_with act_error.Memory hands calm (Some (parcel.agent, act_for one.v.acts parcel hands.asks.now))
            (serves_unsure old opened hands.middle u fs gs acts repeats beat hands.asks.now parcel mid hands.handed.reads_none one.v one.w one.there one.others
            (ap (λ (x : ActuatorView). x.acts) one.answers.0.view) one.agent offers)
      ] in
      record {
        served = inr (inr (record { parcel = parcel; refuses = refuses; steady = steady }));
        keeps = λ told start. (refused_keeps act_error.Memory hands calm told start).kept;
        disk = λ e. absurd (cc);
        steady = λ ne. steady;
        answering = refused_asking act_error.Memory hands calm ∙ is;
        lines = refused_lines act_error.Memory hands calm;
        link = λ ne. tells_none (Err error.Memory) u hands.handed.whole;
      }

  -- the file is full
  pub ends_full : (needed : ℕ) → old.asking ≡ false → IsCalm old.lines.passed repeats t → HandsOn (Err (act_error.Full needed)) parcel t u fs gs → Ended (Err (error.Limit limit.Journal)) old u
  unfolding refuses_with
  ends_full needed is calm hands =
      let one = hands.handed.answers in
      let why = act_error.Full needed in
      let none = one.answers.0.site in
      let steady = refused_steady why hands calm (λ e. cc) in
      let now : hands.asks.now ≡ u.site.clock.now = sym (ap (λ (t : SiteView). t.clock.now) none ∙ hands.asks.reaches.now) in
      record {
        served = record {
          parcel = parcel;
          refuses = refuses_with why hands calm None (did_refuse why hands calm none);
          steady = steady;
          filter = one.w;
          there = w_there one.w one.v one.there one.others;
          needed = needed;
          past = subst (λ (n : ℕ). Overflows one.w parcel n needed) now (overflows one.v one.w (ap (λ (x : ActuatorView). x.acts) one.answers.0.view) hands.asks.now one.answers.1);
        };
        keeps = λ told start. (refused_keeps why hands calm told start).kept;
        disk = λ e. absurd (cc);
        steady = λ ne. steady;
        answering = refused_asking why hands calm ∙ is;
        lines = refused_lines why hands calm;
        link = λ ne. tells_none (Err (error.Limit limit.Journal)) u hands.handed.whole;
      }
    where
      w_there : (w v : ActuatorView) → slice_get fs (parcel.agent - 1) ≡ Some v → gs ≡ slice_set fs (parcel.agent - 1) w → slice_get gs (parcel.agent - 1) ≡ Some w
      w_there w v there now = ap (λ (l : List ActuatorView). slice_get l (parcel.agent - 1)) now ∙ get_set_same fs (parcel.agent - 1) v w there

      overflows : (v w : ActuatorView) → w.acts ≡ v.acts → (n : ℕ) → Overflows v parcel n needed → Overflows w parcel n needed
      overflows v w same n over = record {
        is_new = subst (λ (l : List Act). IsNew l parcel.run parcel.issue) (sym same) over.is_new;
        is = subst (λ (l : List Act). needed ≡ length_with l (act_for l parcel n)) (sym same) over.is;
        past = over.past;
      }

  pub ends_answer : (e : WireError) → old.asking ≡ false → t.lines.state ≡ state.Whole → IsCalm old.lines.passed repeats t → AnsweredAs (Err e) parcel t u fs gs → Ended (Err e) old u
  ends_answer error.Disk is whole calm did = ends_disk is calm did
  ends_answer error.Memory is whole calm did = ends_memory is calm did
  ends_answer (error.Limit limit.Moment) is whole calm did = ends_late is whole calm did
  ends_answer (error.Limit limit.Journal) is whole calm did = ends_full did.0 is calm did.1
  ends_answer (error.Limit limit.Tasks) is whole calm did = absurd did
  ends_answer (error.Limit limit.Command) is whole calm did = absurd did
  ends_answer (error.Damaged file place) is whole calm did = absurd did
  ends_answer (error.OtherRun held asked) is whole calm did = absurd did
  ends_answer (error.OtherBook index) is whole calm did = absurd did
  ends_answer error.Say is whole calm did = absurd did
  ends_answer error.Flooded is whole calm did = absurd did
  ends_answer error.TooLong is whole calm did = absurd did
  ends_answer error.Link is whole calm did = absurd did
