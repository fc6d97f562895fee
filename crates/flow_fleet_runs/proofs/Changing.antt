-- What each call of a fleet changes.
use Rattle.std.proofs.Common.{◌≡◌, ◌≢◌, inl, inr, ℕ, ◌-◌, Bool, true, List, [], ◌∷◌, ◌++◌, length, refl, sym, ◌∙◌, subst, ap, All}
use Rattle.std.specs.Prelude.{Option, Some, IfSome, Contains, slice_get, slice_set, if◌then◌else◌}
use Rattle.std.proofs.lemmas.List.{append-nil}
use Rattle.std.proofs.lemmas.List.Elements.{All-nil, Contains-append_left}
use Rattle.cacao_site.specs.declared.parcel.Parcel.{Parcel}
use Rattle.run_records.specs.declared.act.Act.{Act}
use Rattle.run_records.specs.declared.record.Record.{Record}
use Rattle.run_records.specs.declared.record.Record.TheVariants as entry
use Rattle.flow_core_rules.specs.Moves.{record_of}
use Rattle.flow_core_rules.specs.State.{Shown}
use Rattle.flow_core_rules.specs.declared.moves.Move.{Move}
use Rattle.flow_core_rules.specs.declared.moves.Move.TheVariants as move
use Rattle.flow_engine_history.specs.HistoryView.{HistoryView}
use Rattle.flow_engine.specs.EngineCalls.{IsBeginning, IsReply}
use Rattle.flow_engine.specs.EngineView.{EngineView}
use Rattle.slpf_actuator.specs.ActuatorView.{ActuatorView, act_for}
use Rattle.slpf_actuator.specs.declared.error.ActError.{ActError}
use Rattle.slpf_actuator.specs.declared.error.ActError.TheVariants as act_error
use Rattle.flow_laws.proofs.Basics.{same_or_not, same_some}
use Rattle.flow_world_steps.specs.Appends.{Tries}
use Rattle.flow_world_steps.specs.Appends.Tries.{done, failed, limited}
use Rattle.flow_world_steps.specs.Handled.{IsTakenAct, IsTakenReply}
use Rattle.flow_world_steps.specs.Steps.{DoesNothing, MayHaveActed, PutsCommand, Step, Unsures}
use Rattle.flow_world_steps.specs.Steps.Step.{begins as one_begins, moves as one_moves, expires as one_expires, replies as one_replies}
use Rattle.flow_world_steps.specs.Worlds.{Notes, World, holds}
use Rattle.flow_world_steps.proofs.Adding.{of_option}
use Rattle.flow_world_steps.proofs.Agreement.{step_run}
use Rattle.flow_world_steps.proofs.Failing.{fails_notes}
use Rattle.flow_world_steps.proofs.Filters.{get_set}
use Rattle.flow_world_steps.proofs.Handling.{All-one, get_set_other, get_set_same}
use Rattle.flow_fleet_steps.specs.Steps.{FiltersDo, FleetStep, SameSides}
use Rattle.flow_fleet_steps.specs.Steps.FleetStep.{opens_clock, finds_run_used, asks_clock, finds_late, begins, moves, expires, says, fails_to_say, puts_first, resends}
use Rattle.flow_fleet_steps.specs.Steps.FleetStep.{takes, finds_none, fails_to_take, drops, replies, ignores_reply, acts_on, repeats_reply, fails_to_act, wants_memory_now}
use Rattle.flow_fleet_steps.specs.Worlds.{FleetWorld, Own, Shared, part, set_own}
use Rattle.flow_fleet_sums.proofs.Adding.{length_set, not_equal}
use Rattle.flow_fleet_sums.proofs.Written.{own_here}
use Rattle.flow_fleet_runs.specs.Handled.{HasItsActIn}

-- what one call changed of a run, where these parcels were taken so far: each Reply that it appended is of one of them; and so is a
-- record that may stand behind the others, if one that might stand there was
pub record RunChanges (taken : List (ℕ × Parcel)) (v w : EngineView) (before now : Option Record) : Type 0 where
  pub run : w.history.seen.run ≡ v.history.seen.run
  pub added : List Record
  pub adds : w.history.records ≡ v.history.records ++ added
  pub of_replies : All (IsTakenReply v.history.seen.run taken) added
  pub of_unsure : IfSome before (IsTakenReply v.history.seen.run taken) → IfSome now (IsTakenReply v.history.seen.run taken)

-- what one call changed, where these parcels were taken so far
pub record Changes (taken : List (ℕ × Parcel)) (old new : FleetWorld) : Type 0 where
  pub keeps : (parcel : Parcel) → HasItsActIn old.filters parcel → HasItsActIn new.filters parcel
  pub further : List (ℕ × Act)
  pub acts : new.notes.acted ≡ old.notes.acted ++ further
  pub of_acts : All (IsTakenAct taken) further
  pub of_unsure_act : IfSome old.notes.unsure_act (IsTakenAct taken) → IfSome new.notes.unsure_act (IsTakenAct taken)
  pub many : length new.engines ≡ length old.engines
  pub runs : (place : ℕ) (v w : EngineView) → slice_get old.engines place ≡ Some v → slice_get new.engines place ≡ Some w
      → RunChanges taken v w (old.own place).unsure (new.own place).unsure

-- ---- one run

still_at : (taken : List (ℕ × Parcel)) (v w : EngineView) (a b : Option Record) → w.history ≡ v.history → b ≡ a → RunChanges taken v w a b
still_at taken v w a b same unsure = record {
  run = ap (λ (h : HistoryView). h.seen.run) same;
  added = [];
  adds = ap (λ (h : HistoryView). h.records) same ∙ sym (append-nil v.history.records);
  of_replies = All-nil _;
  of_unsure = λ is. subst (λ (o : Option Record). IfSome o (IsTakenReply v.history.seen.run taken)) (sym unsure) is;
}

one_at : (taken : List (ℕ × Parcel)) (v w : EngineView) (a b : Option Record) (next : Record) → w.history.seen.run ≡ v.history.seen.run → w.history.records ≡ v.history.records ++ next ∷ [] → b ≡ a
    → IsTakenReply v.history.seen.run taken next → RunChanges taken v w a b
one_at taken v w a b next run records unsure is = record {
  run = run;
  added = next ∷ [];
  adds = records;
  of_replies = All-one (IsTakenReply v.history.seen.run taken) next is;
  of_unsure = λ was. subst (λ (o : Option Record). IfSome o (IsTakenReply v.history.seen.run taken)) (sym unsure) was;
}

unsure_at : (taken : List (ℕ × Parcel)) (v w : EngineView) (a b : Option Record) (next : Record) → w.history.seen.run ≡ v.history.seen.run → w.history.records ≡ v.history.records → b ≡ Some next
    → IsTakenReply v.history.seen.run taken next → RunChanges taken v w a b
unsure_at taken v w a b next run records unsure is = record {
  run = run;
  added = [];
  adds = records ∙ sym (append-nil v.history.records);
  of_replies = All-nil _;
  of_unsure = λ was. subst (λ (o : Option Record). IfSome o (IsTakenReply v.history.seen.run taken)) (sym unsure) is;
}

-- a record was appended, may have been, or was not
tried_at : (IsNext : Record → Type 0) (taken : List (ℕ × Parcel)) (old new : World) → Tries IsNext old new → new.engine.history.seen.run ≡ old.engine.history.seen.run
    → ((next : Record) → IsNext next → IsTakenReply old.engine.history.seen.run taken next) → RunChanges taken old.engine new.engine old.notes.unsure new.notes.unsure
tried_at IsNext taken old new (done is) run of =
    let offers = is.appends.adds.offers in
    one_at taken old.engine new.engine old.notes.unsure new.notes.unsure offers.comes.next run (ap (λ (h : HistoryView). h.records) is.appends.adds.view) (ap (λ (n : Notes). n.unsure) is.notes)
    (of offers.comes.next offers.comes.is)
tried_at IsNext taken old new (failed is) run of =
    let comes = is.refuses.0.0.comes in
    unsure_at taken old.engine new.engine old.notes.unsure new.notes.unsure comes.next run (ap (λ (h : HistoryView). h.records) is.refuses.0.1) (ap (λ (n : Notes). n.unsure) is.notes)
    (of comes.next comes.is)
tried_at IsNext taken old new (limited what is) run of =
    still_at taken old.engine new.engine old.notes.unsure new.notes.unsure is.refuses.0.1 (ap (λ (n : Notes). n.unsure) is.notes)

tried_filters : (IsNext : Record → Type 0) (old new : World) → Tries IsNext old new → new.filters ≡ old.filters
tried_filters IsNext old new (done is) = is.filters
tried_filters IsNext old new (failed is) = is.filters
tried_filters IsNext old new (limited what is) = is.filters

-- neither acts nor what may stand changed
abbrev Marks : Type 0
Marks = (List (ℕ × Act)) × (Option (ℕ × Act))

abbrev marks : Notes → Marks
marks n = (n.acted, n.unsure_act)

abbrev shared_marks : Shared → Marks
shared_marks n = (n.acted, n.unsure_act)

tried_marks : (IsNext : Record → Type 0) (old new : World) → Tries IsNext old new → marks new.notes ≡ marks old.notes
tried_marks IsNext old new (done is) = ap marks is.notes
tried_marks IsNext old new (failed is) = ap marks is.notes
tried_marks IsNext old new (limited what is) = ap marks is.notes

-- ---- all runs

same_filters : (old new : FleetWorld) → new.filters ≡ old.filters → (parcel : Parcel) → HasItsActIn old.filters parcel → HasItsActIn new.filters parcel
same_filters old new same parcel is = subst (λ (l : List ActuatorView). HasItsActIn l parcel) (sym same) is

-- no run did anything
no_runs : (taken : List (ℕ × Parcel)) (old new : FleetWorld) → new.engines ≡ old.engines → new.own ≡ old.own → (place : ℕ) (v w : EngineView) → slice_get old.engines place ≡ Some v
    → slice_get new.engines place ≡ Some w → RunChanges taken v w (old.own place).unsure (new.own place).unsure
no_runs taken old new engines own place v w there here =
    let same : w ≡ v = same_some (sym (subst (λ (l : List EngineView). slice_get l place ≡ Some w) engines here) ∙ there) in
    still_at taken v w (old.own place).unsure (new.own place).unsure (ap (λ (x : EngineView). x.history) same) (ap (λ (o : ℕ → Own). (o place).unsure) own)

quiet : (taken : List (ℕ × Parcel)) (old new : FleetWorld) → SameSides old new → shared_marks new.notes ≡ shared_marks old.notes → Changes taken old new
quiet taken old new sides same = record {
  keeps = same_filters old new sides.filters;
  further = [];
  acts = ap (λ (m : Marks). m.0) same ∙ sym (append-nil old.notes.acted);
  of_acts = All-nil _;
  of_unsure_act = λ is. subst (λ (o : Option (ℕ × Act)). IfSome o (IsTakenAct taken)) (sym (ap (λ (m : Marks). m.1) same)) is;
  many = ap (λ (l : List EngineView). length l) sides.engines;
  runs = no_runs taken old new sides.engines sides.own;
}

pub own_other : (at k : ℕ) (own : Own) (owns : ℕ → Own) → k ≢ at → set_own at own owns k ≡ owns k
own_other at k own owns ne = ap (λ (b : Bool). if b then own else owns k) (not_equal k at ne)

-- one run went on, and the filters did nothing
module _ (taken : List (ℕ × Parcel)) (old new : FleetWorld) (at : ℕ) (v w : EngineView) (own : Own) (there : slice_get old.engines at ≡ Some v) (engines : new.engines ≡ slice_set old.engines at w)
    (owns : new.own ≡ set_own at own old.own) where
  one_run : RunChanges taken v w (old.own at).unsure own.unsure → (place : ℕ) (x y : EngineView) → slice_get old.engines place ≡ Some x → slice_get new.engines place ≡ Some y
      → RunChanges taken x y (old.own place).unsure (new.own place).unsure
  one_run is place x y was now = elim (get_set old.engines at place w y (subst (λ (l : List EngineView). slice_get l place ≡ Some y) engines now)) [
    | inl it ↦
        let x_is : x ≡ v = same_some (sym was ∙ ap (λ (n : ℕ). slice_get old.engines n) it.0 ∙ there) in
        let own_is : (new.own at).unsure ≡ own.unsure = ap (λ (o : ℕ → Own). (o at).unsure) owns ∙ ap (λ (o : Own). o.unsure) (own_here at own old.own) in
        subst (λ (n : ℕ). RunChanges taken x y (old.own n).unsure (new.own n).unsure) (sym it.0)
        (subst (λ (z : EngineView). RunChanges taken z y (old.own at).unsure (new.own at).unsure) (sym x_is)
        (subst (λ (z : EngineView). RunChanges taken v z (old.own at).unsure (new.own at).unsure) it.1
        (subst (λ (o : Option Record). RunChanges taken v w (old.own at).unsure o) (sym own_is) is)))
    | inr other ↦
        let same : y ≡ x = same_some (sym other.1 ∙ was) in
        still_at taken x y (old.own place).unsure (new.own place).unsure (ap (λ (z : EngineView). z.history) same)
        (ap (λ (o : ℕ → Own). (o place).unsure) owns ∙ ap (λ (o : Own). o.unsure) (own_other at place own old.own other.0))
  ]

  one_changes : RunChanges taken v w (old.own at).unsure own.unsure → new.filters ≡ old.filters → shared_marks new.notes ≡ shared_marks old.notes → Changes taken old new
  one_changes is filters same = record {
    keeps = same_filters old new filters;
    further = [];
    acts = ap (λ (m : Marks). m.0) same ∙ sym (append-nil old.notes.acted);
    of_acts = All-nil _;
    of_unsure_act = λ was. subst (λ (o : Option (ℕ × Act)). IfSome o (IsTakenAct taken)) (sym (ap (λ (m : Marks). m.1) same)) was;
    many = ap (λ (l : List EngineView). length l) engines ∙ length_set old.engines at w;
    runs = one_run is;
  }

  tried_changes : (IsNext : Record → Type 0) → Step (part at v (old.own at) old) (part at w own new) → Tries IsNext (part at v (old.own at) old) (part at w own new)
      → ((next : Record) → IsNext next → IsTakenReply v.history.seen.run taken next) → Changes taken old new
  tried_changes IsNext step try of =
      one_changes (tried_at IsNext taken (part at v (old.own at) old) (part at w own new) try (step_run _ _ step) of) (tried_filters IsNext _ _ try) (tried_marks IsNext _ _ try)

  put_changes : (issue : ℕ) → PutsCommand issue (part at v (old.own at) old) (part at w own new) → Changes taken old new
  put_changes issue is =
      one_changes (still_at taken v w (old.own at).unsure own.unsure (ap (λ (x : EngineView). x.history) is.sends.view) (ap (λ (n : Notes). n.unsure) is.notes)) is.filters (ap marks is.notes)

-- ---- the filters

-- one filter was replaced by one that has its acts
kept_set : (fs gs : List ActuatorView) (k : ℕ) (v w : ActuatorView) (more : List Act) → slice_get fs k ≡ Some v → gs ≡ slice_set fs k w → w.acts ≡ v.acts ++ more
    → (parcel : Parcel) → HasItsActIn fs parcel → HasItsActIn gs parcel
kept_set fs gs k v w more was now acts_are parcel is = elim (same_or_not (parcel.agent - 1) k) [
  | inl e ↦
      let same : is.filter ≡ v = same_some (sym is.there ∙ ap (λ (n : ℕ). slice_get fs n) e ∙ was) in
      record {
        filter = w;
        there = ap (λ (l : List ActuatorView). slice_get l (parcel.agent - 1)) now ∙ ap (λ (n : ℕ). slice_get (slice_set fs k w) n) e ∙ get_set_same fs k v w was;
        act = is.act;
        has = subst (λ (l : List Act). Contains l is.act) (sym acts_are) (Contains-append_left v.acts more is.act (subst (λ (f : ActuatorView). Contains f.acts is.act) same is.has));
        run = is.run;
        issue = is.issue;
      }
  | inr ne ↦ record {
    filter = is.filter;
    there = ap (λ (l : List ActuatorView). slice_get l (parcel.agent - 1)) now ∙ get_set_other fs k (parcel.agent - 1) w ne ∙ is.there;
    act = is.act;
    has = is.has;
    run = is.run;
    issue = is.issue;
  }
]

-- a filter did something with a command in hand
module _ (taken : List (ℕ × Parcel)) (Did : World → World → Type 0) (old new : FleetWorld) (is : FiltersDo Did old new) where
  filters_change : (k : ℕ) (v w : ActuatorView) (more : List Act) (further : List (ℕ × Act)) → slice_get old.filters k ≡ Some v → new.filters ≡ slice_set old.filters k w → w.acts ≡ v.acts ++ more
      → new.notes.acted ≡ old.notes.acted ++ further → All (IsTakenAct taken) further → (IfSome old.notes.unsure_act (IsTakenAct taken) → IfSome new.notes.unsure_act (IsTakenAct taken)) → Changes taken old new
  filters_change k v w more further there filters acts_are acted of unsure = record {
    keeps = kept_set old.filters new.filters k v w more there filters acts_are;
    further = further;
    acts = acted;
    of_acts = of;
    of_unsure_act = unsure;
    many = ap (λ (l : List EngineView). length l) is.engines;
    runs = no_runs taken old new is.engines is.own;
  }

  filters_stay : new.filters ≡ old.filters → shared_marks new.notes ≡ shared_marks old.notes → Changes taken old new
  filters_stay filters same = record {
    keeps = same_filters old new filters;
    further = [];
    acts = ap (λ (m : Marks). m.0) same ∙ sym (append-nil old.notes.acted);
    of_acts = All-nil _;
    of_unsure_act = λ was. subst (λ (o : Option (ℕ × Act)). IfSome o (IsTakenAct taken)) (sym (ap (λ (m : Marks). m.1) same)) was;
    many = ap (λ (l : List EngineView). length l) is.engines;
    runs = no_runs taken old new is.engines is.own;
  }

-- the act that may stand is of the parcel in hand
act_unsure : (error : ActError) (parcel : Parcel) (v : ActuatorView) (old new : World) (taken : List (ℕ × Parcel)) → Unsures error parcel v old new
    → IsTakenAct taken (parcel.agent, act_for v.acts parcel old.site.clock.now) → IfSome old.notes.unsure_act (IsTakenAct taken) → IfSome new.notes.unsure_act (IsTakenAct taken)
act_unsure error parcel v old new taken unsures is was = by error unsures
  where
    same : DoesNothing old new → IfSome new.notes.unsure_act (IsTakenAct taken)
    same nothing_done = subst (λ (o : Option (ℕ × Act)). IfSome o (IsTakenAct taken)) (sym (ap (λ (n : Notes). n.unsure_act) nothing_done.notes)) was

    may : MayHaveActed parcel v old new → IfSome new.notes.unsure_act (IsTakenAct taken)
    may acted = subst (λ (o : Option (ℕ × Act)). IfSome o (IsTakenAct taken)) (sym (ap (λ (n : Notes). n.unsure_act) acted.notes)) is

    by : (error : ActError) → Unsures error parcel v old new → IfSome new.notes.unsure_act (IsTakenAct taken)
    by act_error.Disk is = may is
    by act_error.Memory is = elim is [ inl none ↦ same none | inr acted ↦ may acted ]
    by (act_error.Damaged place) is = same is
    by (act_error.Full length) is = same is
    by act_error.Broken is = same is

-- ---- what each call changed

-- a record that is no Reply is of no parcel
begin_is_none : (run : ℕ) (taken : List (ℕ × Parcel)) (h : HistoryView) (now : ℕ) (next : Record) → IsBeginning h now next → IsTakenReply run taken next
begin_is_none run taken h now next is = subst (λ (r : Record). IsTakenReply run taken r) (sym is.is) tt

expire_is_none : (run : ℕ) (taken : List (ℕ × Parcel)) (issue moment : ℕ) (next : Record) → next ≡ entry.Expire issue moment → IsTakenReply run taken next
expire_is_none run taken issue moment next is = subst (λ (r : Record). IsTakenReply run taken r) (sym is) tt

move_is_none : (run : ℕ) (taken : List (ℕ × Parcel)) (seen : Shown) (now : ℕ) (m : Move) (next : Record) → record_of seen now m ≡ Some next → IsTakenReply run taken next
move_is_none run taken seen now (move.Walk t) next e = subst (λ (r : Record). IsTakenReply run taken r) (same_some e) tt
move_is_none run taken seen now (move.Send t) next e = of_option _ _ (λ (r : Record). IsTakenReply run taken r) next (λ x. tt) e
move_is_none run taken seen now (move.Ask t) next e = of_option _ _ (λ (r : Record). IsTakenReply run taken r) next (λ x. tt) e
move_is_none run taken seen now move.Upgrade next e = subst (λ (r : Record). IsTakenReply run taken r) (same_some e) tt

-- a Reply is of the reply in hand
reply_is_taken : (taken : List (ℕ × Parcel)) (h : HistoryView) (beat now : ℕ) (parcel : Parcel) → Contains taken (beat, parcel) → parcel.back ≡ true → (next : Record) → IsReply h parcel now next
    → IsTakenReply h.seen.run taken next
reply_is_taken taken h beat now parcel has back next is =
    subst (λ (r : Record). IsTakenReply h.seen.run taken r) (sym is.is) ((beat, parcel), has, back, is.to.sent_back.of_run, refl, is.to.read_is.reads)

pub step_changes : (taken : List (ℕ × Parcel)) (old new : FleetWorld) → ((beat : ℕ) (parcel : Parcel) → old.phase ≡ holds beat parcel → Contains taken (beat, parcel)) → FleetStep old new → Changes taken old new
step_changes taken old new in_hand (opens_clock answer is) = quiet taken old new is.goes.sides (ap shared_marks is.goes.notes)
step_changes taken old new in_hand (finds_run_used place agent is) = quiet taken old new is.only.sides (ap shared_marks is.only.notes)
step_changes taken old new in_hand (asks_clock moment answer is) = quiet taken old new is.goes.sides (ap shared_marks is.goes.notes)
step_changes taken old new in_hand (finds_late moment is) = quiet taken old new is.only.sides (ap shared_marks is.only.notes)
step_changes taken old new in_hand (begins place is) =
    let d = is.does in
    tried_changes taken old new place d.v d.w d.own d.there d.engines d.owns _ (one_begins d.does) d.does.tries (λ next i. begin_is_none _ taken d.v.history old.site.clock.now next i)
step_changes taken old new in_hand (moves place is) =
    let d = is.does in
    tried_changes taken old new place d.v d.w d.own d.there d.engines d.owns _ (one_moves d.does) d.does.tries (λ next i. move_is_none _ taken d.v.history.seen old.site.clock.now i.move next i.is)
step_changes taken old new in_hand (expires place issue is) =
    let d = is.does in
    tried_changes taken old new place d.v d.w d.own d.there d.engines d.owns _ (one_expires issue d.does) d.does.tries (λ next i. expire_is_none _ taken issue old.site.clock.now next i)
step_changes taken old new in_hand (says place v bytes is) = quiet taken old new is.speaks.sides (ap shared_marks is.speaks.notes)
step_changes taken old new in_hand (fails_to_say place v bytes is) = quiet taken old new is.speaks.sides (ap shared_marks is.speaks.notes)
step_changes taken old new in_hand (puts_first place issue is) = let d = is.does in put_changes taken old new place d.v d.w d.own d.there d.engines d.owns issue d.does.puts
step_changes taken old new in_hand (resends place issue is) = let d = is.does in put_changes taken old new place d.v d.w d.own d.there d.engines d.owns issue d.does.puts
step_changes taken old new in_hand (takes parcel is) = quiet taken old new is.sides (ap shared_marks is.notes)
step_changes taken old new in_hand (finds_none is) = quiet taken old new is.sides (ap shared_marks is.notes)
step_changes taken old new in_hand (fails_to_take is) = quiet taken old new is.sides (ap shared_marks is.notes)
step_changes taken old new in_hand (drops beat parcel is) = quiet taken old new is.ignores.sides (ap shared_marks is.ignores.notes)
step_changes taken old new in_hand (replies beat parcel place is) =
    let d = is.does in
    let held = d.does.holds_reply in
    tried_changes taken old new place d.v d.w d.own d.there d.engines d.owns _ (one_replies beat parcel d.does) d.does.tries
    (reply_is_taken taken d.v.history beat old.site.clock.now parcel (in_hand beat parcel held.phase) held.back)
step_changes taken old new in_hand (ignores_reply beat parcel is) = quiet taken old new is.ignores.sides (ap shared_marks is.ignores.notes)
step_changes taken old new in_hand (acts_on beat parcel v w is) =
    let held = is.does.holds_command in
    let act = act_for v.acts parcel old.site.clock.now in
    filters_change taken _ old new is (parcel.agent - 1) v w (act ∷ []) ((parcel.agent, act) ∷ []) held.there is.does.filters (ap (λ (x : ActuatorView). x.acts) is.does.acts.view)
    (ap (λ (n : Notes). n.acted) is.does.notes)
    (All-one (IsTakenAct taken) (parcel.agent, act) ((beat, parcel), in_hand beat parcel held.phase, held.command, refl, refl, refl, refl))
    (λ was. subst (λ (o : Option (ℕ × Act)). IfSome o (IsTakenAct taken)) (sym (ap (λ (n : Notes). n.unsure_act) is.does.notes)) was)
step_changes taken old new in_hand (repeats_reply beat parcel v w is) = filters_stay taken _ old new is is.does.ignores.filters (ap marks is.does.ignores.notes)
step_changes taken old new in_hand (fails_to_act beat parcel v w error cause is) =
    let held = is.does.holds_command in
    let notes = fails_notes error parcel v (part 0 is.v (old.own 0) old) (part 0 is.v (old.own 0) new) is.does.notes in
    filters_change taken _ old new is (parcel.agent - 1) v w [] [] held.there is.does.filters (ap (λ (x : ActuatorView). x.acts) is.does.refuses.view ∙ sym (append-nil v.acts))
    (ap (λ (n : Notes). n.acted) notes ∙ sym (append-nil old.notes.acted)) (All-nil _)
    (act_unsure error parcel v (part 0 is.v (old.own 0) old) (part 0 is.v (old.own 0) new) taken is.does.notes ((beat, parcel), in_hand beat parcel held.phase, held.command, refl, refl, refl, refl))
step_changes taken old new in_hand (wants_memory_now is) = quiet taken old new is.only.sides (ap shared_marks is.only.notes)
