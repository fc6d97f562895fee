-- What becomes of the parcels that a fleet takes.
use Rattle.std.proofs.Common.{◌≡◌, ◌⊎◌, inl, inr, ℕ, List, [], ◌∷◌, ◌++◌, length, refl, sym, ◌∙◌, subst, ap, arith, All}
use Rattle.std.specs.Prelude.{Option, Some, IfSome, Contains, None, slice_get}
use Rattle.std.proofs.lemmas.List.{append_assoc, append-nil, length-append}
use Rattle.std.proofs.lemmas.List.Elements.{All-append, All-nil, All-push, Contains-append_left, Contains-push}
use Rattle.cacao_site.specs.LinkCalls.{GainsAll}
use Rattle.cacao_site.specs.declared.parcel.Parcel.{Parcel}
use Rattle.run_records.specs.declared.act.Act.{Act}
use Rattle.run_records.specs.declared.record.Record.{Record}
use Rattle.run_records.specs.declared.record.Record.TheVariants as entry
use Rattle.flow_engine.specs.EngineView.{EngineView}
use Rattle.flow_world_steps.specs.Handled.{IsAtHand, IsBack, IsCommand, IsTakenAct, IsTakenReply}
use Rattle.flow_world_steps.specs.Worlds.{Phase, holds}
use Rattle.flow_world_steps.proofs.Came.{last_of, same_last}
use Rattle.flow_world_steps.proofs.Growth.{gains_none, gains_then}
use Rattle.flow_world_steps.proofs.Hands.{hand_as}
use Rattle.flow_world_steps.proofs.Issues.{below}
use Rattle.flow_fleet_steps.specs.Steps.{FleetStep, FleetSteps}
use Rattle.flow_fleet_steps.specs.Steps.FleetSteps.{nothing, and_then}
use Rattle.flow_fleet_steps.specs.Worlds.{FleetWorld}
use Rattle.flow_fleet_sums.proofs.Adding.{there_of}
use Rattle.flow_laws.proofs.Basics.{same_some}
use Rattle.flow_fleet_runs.specs.Handled.{EachFleetHandles, FleetHandles, HasItsActIn, HasItsReplyIn, RepliesAreTaken, WasNoReplyIn}
use Rattle.flow_fleet_runs.proofs.Changing.{Changes, RunChanges, step_changes}
use Rattle.flow_fleet_runs.proofs.Handing.{Hands, step_hands}
use Rattle.flow_fleet_runs.proofs.Handing.Hands.{hands_on, keeps_hand, takes_one}

-- ---- what was taken stays taken

each_all : {T : Type 0} (P Q : T → Type 0) (xs : List T) → ((x : T) → P x → Q x) → All P xs → All Q xs
each_all P Q xs to all k d lt = to _ (all k d lt)

if_some_each : {T : Type 0} (P Q : T → Type 0) (o : Option T) → ((x : T) → P x → Q x) → IfSome o P → IfSome o Q
if_some_each P Q None to is = tt
if_some_each P Q (Some x) to is = to x is

reply_left : (run : ℕ) (a b : List (ℕ × Parcel)) (r : Record) → IsTakenReply run a r → IsTakenReply run (a ++ b) r
reply_left run a b (entry.Reply issue moment status rule text) is = (is.0, Contains-append_left a b is.0 is.1, is.2, is.3, is.4, is.5)
reply_left run a b (entry.Begin number moment books bind) is = tt
reply_left run a b (entry.Walk task moment) is = tt
reply_left run a b (entry.Send task issue agent moment bytes) is = tt
reply_left run a b (entry.Expire issue moment) is = tt
reply_left run a b (entry.Upgrade version moment) is = tt
reply_left run a b (entry.Ask task issue moment bytes) is = tt
reply_left run a b (entry.Told issue moment status text) is = tt

act_left : (a b : List (ℕ × Parcel)) (act : ℕ × Act) → IsTakenAct a act → IsTakenAct (a ++ b) act
act_left a b act is = (is.0, Contains-append_left a b is.0 is.1, is.2, is.3, is.4, is.5, is.6)

-- ---- one run, from one world to a later one

-- and then by one call more, where more may have been taken
run-then : (a b : List (ℕ × Parcel)) (u v w : EngineView) (p q r : Option Record) → RepliesAreTaken a u v p q → RunChanges (a ++ b) v w q r → RepliesAreTaken (a ++ b) u w p r
run-then a b u v w p q r one two =
    let run = u.history.seen.run in
    let all = a ++ b in
    record {
      run = two.run ∙ one.run;
      added = one.added ++ two.added;
      adds = two.adds ∙ ap (λ (l : List Record). l ++ two.added) one.adds ∙ append_assoc u.history.records one.added two.added;
      of_replies = All-append (IsTakenReply run all) one.added two.added (each_all (IsTakenReply run a) (IsTakenReply run all) one.added (reply_left run a b) one.of_replies)
          (subst (λ (n : ℕ). All (IsTakenReply n all) two.added) one.run two.of_replies);
      of_unsure = λ none. subst (λ (n : ℕ). IfSome r (IsTakenReply n all)) one.run
          (two.of_unsure (subst (λ (n : ℕ). IfSome q (IsTakenReply n all)) (sym one.run) (if_some_each (IsTakenReply run a) (IsTakenReply run all) q (reply_left run a b) (one.of_unsure none))));
    }

-- a Reply stays
reply_stays : (taken : List (ℕ × Parcel)) (old new : FleetWorld) → Changes taken old new → (parcel : Parcel) → HasItsReplyIn old.engines parcel → HasItsReplyIn new.engines parcel
reply_stays taken old new changes parcel is =
    let here = there_of new.engines is.place (let lt = below old.engines is.place is.v is.there in let many = changes.many in omega (arith, lt, many)) in
    let one = changes.runs is.place is.v here.0 is.there here.1 in
    record {
      place = is.place;
      v = here.0;
      there = here.1;
      of_run = is.of_run ∙ sym one.run;
      read = is.read;
      moment = is.moment;
      has = subst (λ (l : List Record). Contains l (entry.Reply parcel.issue is.moment is.read.status is.read.rule is.read.text)) (sym one.adds)
          (Contains-append_left is.v.history.records one.added _ is.has);
      reads = is.reads;
    }

-- ---- replies

-- the one behind these has its Reply, or was none
abbrev IsAnswered : FleetWorld → FleetWorld → List (ℕ × Parcel) → ℕ × Parcel → Type 0
IsAnswered a b front e = IsBack e.1 → HasItsReplyIn b.engines e.1 ⊎ WasNoReplyIn a b front e

abbrev AreAnswered : FleetWorld → FleetWorld → List (ℕ × Parcel) → Type 0
AreAnswered a b handled = (front back : List (ℕ × Parcel)) (e : ℕ × Parcel) → handled ≡ front ++ e ∷ back → IsAnswered a b front e

answered_on : (taken : List (ℕ × Parcel)) (a old new : FleetWorld) → FleetStep old new → Changes taken old new → (handled : List (ℕ × Parcel)) → AreAnswered a old handled → AreAnswered a new handled
answered_on taken a old new step changes handled to front back e at is_back = elim (to front back e at is_back) [
  | inl has ↦ inl (reply_stays taken old new changes e.1 has)
  | inr was ↦ inr (record { w = was.w; before = was.before; after = and_then was.after step; in_hand = was.in_hand; place = was.place; none = was.none })
]

-- one more
answered_more : (a b : FleetWorld) (handled : List (ℕ × Parcel)) (x : ℕ × Parcel) → AreAnswered a b handled → IsAnswered a b handled x → AreAnswered a b (handled ++ x ∷ [])
answered_more a b handled x all one front back e is to = elim (last_of back) [
  | inl none ↦
      let same = same_last handled front x e (is ∙ ap (λ (l : List (ℕ × Parcel)). front ++ e ∷ l) none) in
      let last : IsAnswered a b handled e = subst (λ (y : ℕ × Parcel). IsAnswered a b handled y) same.1 one in
      subst (λ (l : List (ℕ × Parcel)). IsAnswered a b l e) same.0 last to
  | inr some ↦
      let split : front ++ e ∷ back ≡ (front ++ e ∷ some.0) ++ some.1 ∷ [] =
      ap (λ (l : List (ℕ × Parcel)). front ++ e ∷ l) some.2 ∙ sym (append_assoc front (e ∷ some.0) (some.1 ∷ [])) in
      let same = same_last handled (front ++ e ∷ some.0) x some.1 (is ∙ split) in
      all front some.0 e same.0 to
]

none_answered : (a b : FleetWorld) → AreAnswered a b []
none_answered a b front back e is to = let long = ap (λ (l : List (ℕ × Parcel)). length l) is in absurd (omega (arith, long, length-append front (e ∷ back)))

-- ---- one call

abbrev Commands : FleetWorld → List (ℕ × Parcel) → Type 0
Commands b handled = All (λ (e : ℕ × Parcel). IsCommand e.1 → HasItsActIn b.filters e.1) handled

module _ (a old new : FleetWorld) (h : FleetHandles a old) (step : FleetStep old new) where
  abbrev was_taken : List (ℕ × Parcel)
  was_taken = h.handled ++ h.at_hand

  -- the parcel in hand was taken
  in_hand : (beat : ℕ) (parcel : Parcel) → old.phase ≡ holds beat parcel → h.at_hand ≡ (beat, parcel) ∷ []
  in_hand beat parcel at = hand_as old.phase (holds beat parcel) at h.at_hand h.open_one

  hand_taken : (b : List (ℕ × Parcel)) (beat : ℕ) (parcel : Parcel) → old.phase ≡ holds beat parcel → Contains (was_taken ++ b) (beat, parcel)
  hand_taken b beat parcel at =
      Contains-append_left was_taken b (beat, parcel) (subst (λ (l : List (ℕ × Parcel)). Contains (h.handled ++ l) (beat, parcel)) (sym (in_hand beat parcel at)) (Contains-push h.handled (beat, parcel)))

  -- what was taken and appended so far, with what this call did, where it took these
  module _ (b handled at_hand : List (ℕ × Parcel)) (list : handled ++ at_hand ≡ was_taken ++ b) where
    changes : Changes (was_taken ++ b) old new
    changes = step_changes (was_taken ++ b) old new (hand_taken b) step

    kept_commands : Commands new h.handled
    kept_commands = each_all (λ e. IsCommand e.1 → HasItsActIn old.filters e.1) (λ e. IsCommand e.1 → HasItsActIn new.filters e.1) h.handled (λ e to command. changes.keeps e.1 (to command)) h.commands

    kept_replies : AreAnswered a new h.handled
    kept_replies = answered_on (was_taken ++ b) a old new step changes h.handled h.replies

    runs : (place : ℕ) (u w : EngineView) → slice_get a.engines place ≡ Some u → slice_get new.engines place ≡ Some w → RepliesAreTaken (was_taken ++ b) u w (a.own place).unsure (new.own place).unsure
    runs place u w there here =
        let mid = there_of old.engines place (let lt = below a.engines place u there in let many = h.many in omega (arith, lt, many)) in
        run-then was_taken b u mid.0 w (a.own place).unsure (old.own place).unsure (new.own place).unsure (h.runs place u mid.0 there mid.1) (changes.runs place mid.0 w mid.1 here)

    abbrev all : List (ℕ × Parcel)
    all = was_taken ++ b

    handles : GainsAll a.site.link.taken (was_taken ++ b) new.site.link.taken → IsAtHand new.phase at_hand → Commands new handled → AreAnswered a new handled → FleetHandles a new
    handles takes opens commands replies = record {
      handled = handled;
      at_hand = at_hand;
      takes = subst (λ (l : List (ℕ × Parcel)). GainsAll a.site.link.taken l new.site.link.taken) (sym list) takes;
      open_one = opens;
      commands = commands;
      replies = replies;
      acted = h.acted ++ changes.further;
      acts = changes.acts ∙ ap (λ (l : List (ℕ × Act)). l ++ changes.further) h.acts ∙ append_assoc a.notes.acted h.acted changes.further;
      of_acts = subst (λ (l : List (ℕ × Parcel)). All (IsTakenAct l) (h.acted ++ changes.further)) (sym list)
          (All-append (IsTakenAct (was_taken ++ b)) h.acted changes.further (each_all (IsTakenAct was_taken) (IsTakenAct (was_taken ++ b)) h.acted (act_left was_taken b) h.of_acts) changes.of_acts);
      of_unsure_act = λ none. subst (λ (l : List (ℕ × Parcel)). IfSome new.notes.unsure_act (IsTakenAct l)) (sym list)
          (changes.of_unsure_act (if_some_each (IsTakenAct was_taken) (IsTakenAct (was_taken ++ b)) old.notes.unsure_act (act_left was_taken b) (h.of_unsure_act none)));
      many = changes.many ∙ h.many;
      runs = λ place u w there here. subst (λ (l : List (ℕ × Parcel)). RepliesAreTaken l u w (a.own place).unsure (new.own place).unsure) (sym list) (runs place u w there here);
    }

  -- no more was taken
  same_taken : new.site.link.taken ≡ old.site.link.taken → GainsAll a.site.link.taken (was_taken ++ []) new.site.link.taken
  same_taken same =
      subst (λ (l : List (ℕ × Parcel)). GainsAll a.site.link.taken l new.site.link.taken) (sym (append-nil was_taken))
      (subst (λ (o : Option (List (ℕ × Parcel))). GainsAll a.site.link.taken was_taken o) (sym same) h.takes)

  -- the one in hand was taken right behind those that were handed on
  place_of : (beat : ℕ) (parcel : Parcel) → old.phase ≡ holds beat parcel → GainsAll a.site.link.taken (h.handled ++ (beat, parcel) ∷ []) old.site.link.taken
  place_of beat parcel at = subst (λ (l : List (ℕ × Parcel)). GainsAll a.site.link.taken (h.handled ++ l) old.site.link.taken) (in_hand beat parcel at) h.takes

  by_hands : FleetSteps a old → Hands old new → FleetHandles a new
  by_hands so_far (keeps_hand same goes) =
      let list : was_taken ≡ was_taken ++ [] = sym (append-nil was_taken) in
      handles [] h.handled h.at_hand list (same_taken same) (goes h.at_hand h.open_one) (kept_commands [] h.handled h.at_hand list) (kept_replies [] h.handled h.at_hand list)
  by_hands so_far (takes_one parcel empty gained phase) =
      let x : ℕ × Parcel = (new.site.disk.beat, parcel) in
      let hand : h.at_hand ≡ [] = empty h.at_hand h.open_one in
      let all_handled : was_taken ≡ h.handled = ap (λ (l : List (ℕ × Parcel)). h.handled ++ l) hand ∙ append-nil h.handled in
      let list : h.handled ++ x ∷ [] ≡ was_taken ++ x ∷ [] = ap (λ (l : List (ℕ × Parcel)). l ++ x ∷ []) (sym all_handled) in
      handles (x ∷ []) h.handled (x ∷ []) list (gains_then a.site.link.taken old.site.link.taken new.site.link.taken was_taken (x ∷ []) h.takes gained)
      (subst (λ (p : Phase). IsAtHand p (x ∷ [])) (sym phase) refl) (kept_commands (x ∷ []) h.handled (x ∷ []) list) (kept_replies (x ∷ []) h.handled (x ∷ []) list)
  by_hands so_far (hands_on beat parcel at same opens has_act has_reply) =
      let x : ℕ × Parcel = (beat, parcel) in
      let list : (h.handled ++ x ∷ []) ++ [] ≡ was_taken ++ [] = ap (λ (l : List (ℕ × Parcel)). (h.handled ++ l) ++ []) (sym (in_hand beat parcel at)) in
      let answered : IsAnswered a new h.handled x = λ back. elim (has_reply back) [
        | inl is ↦ inl is
        | inr none ↦ inr (record { w = old; before = so_far; after = and_then nothing step; in_hand = at; place = place_of beat parcel at; none = none })
      ] in
      handles [] (h.handled ++ x ∷ []) [] list (same_taken same) opens
      (All-push (λ (e : ℕ × Parcel). IsCommand e.1 → HasItsActIn new.filters e.1) h.handled x (kept_commands [] (h.handled ++ x ∷ []) [] list) has_act)
      (answered_more a new h.handled x (kept_replies [] (h.handled ++ x ∷ []) [] list) answered)

-- ---- all

-- no run did anything
none_done : (v w : EngineView) (before : Option Record) → w ≡ v → RepliesAreTaken [] v w before before
none_done v w before same = record {
  run = ap (λ (x : EngineView). x.history.seen.run) same;
  added = [];
  adds = ap (λ (x : EngineView). x.history.records) same ∙ sym (append-nil v.history.records);
  of_replies = All-nil _;
  of_unsure = λ none. subst (λ (o : Option Record). IfSome o (IsTakenReply v.history.seen.run [])) (sym none) tt;
}

pub fleet_steps_handle : EachFleetHandles
fleet_steps_handle a b at nothing = record {
  handled = [];
  at_hand = [];
  takes = gains_none a.site.link.taken;
  open_one = at;
  commands = All-nil _;
  replies = none_answered a a;
  acted = [];
  acts = sym (append-nil a.notes.acted);
  of_acts = All-nil _;
  of_unsure_act = λ none. subst (λ (o : Option (ℕ × Act)). IfSome o (IsTakenAct [])) (sym none) tt;
  many = refl;
  runs = λ place v w there here. none_done v w (a.own place).unsure (same_some (sym here ∙ there));
}
fleet_steps_handle a b at (and_then {mid} steps step) = by_hands a mid b (fleet_steps_handle a mid at steps) step steps (step_hands mid b step)
