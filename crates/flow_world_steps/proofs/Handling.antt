-- What becomes of the parcels that are taken.
use Rattle.std.proofs.Common.{◌≡◌, ◌≢◌, ◌⊎◌, inl, inr, ℕ, zero, suc, ◌+◌, ◌-◌, true, false, List, [], ◌∷◌, ◌++◌, length, refl, sym, ◌∙◌, subst, ap, arith, All}
use Rattle.std.specs.Prelude.{Option, Some, None, IfSome, Contains, slice_get, slice_set}
use Rattle.std.proofs.lemmas.Bool.{false≢true}
use Rattle.std.proofs.lemmas.List.{append_assoc, append-nil, length-append}
use Rattle.std.proofs.lemmas.Option.{none-some}
use Rattle.std.proofs.lemmas.List.Elements.{All-append, All-nil, All-push, Contains-append_left, Contains-push}
use Rattle.cacao_site.specs.LinkCalls.{GainsAll}
use Rattle.cacao_site.specs.View.{LinkView, SiteView}
use Rattle.cacao_site.specs.declared.parcel.Parcel.{Parcel}
use Rattle.run_records.specs.declared.record.Record.{Record}
use Rattle.run_records.specs.declared.record.Record.TheVariants as entry
use Rattle.run_records.specs.declared.act.Act.{Act}
use Rattle.flow_core_rules.specs.Moves.{record_of}
use Rattle.flow_core_rules.specs.State.{Shown}
use Rattle.flow_core_rules.specs.declared.moves.Move.{Move}
use Rattle.flow_core_rules.specs.declared.moves.Move.TheVariants as move
use Rattle.flow_engine.specs.HistoryView.{HistoryView}
use Rattle.flow_engine.specs.EngineCalls.{IsReply}
use Rattle.flow_engine.specs.EngineView.{EngineView}
use Rattle.slpf_actuator.specs.ActuatorView.{ActuatorView, act_for}
use Rattle.slpf_actuator.specs.declared.error.ActError.{ActError}
use Rattle.slpf_actuator.specs.declared.error.ActError.TheVariants as act_error
use Rattle.flow_laws.proofs.Basics.{same_or_not, same_some}
use Rattle.flow_world_steps.specs.Appends.{Tries}
use Rattle.flow_world_steps.specs.Appends.Tries.{done, failed, limited}
use Rattle.flow_world_steps.specs.Handled.{EachHandles, Handles, HasItsAct, HasItsReply, IsAtHand, IsBack, IsCommand, IsTakenAct, IsTakenReply, WasNoReply, one_reply}
use Rattle.flow_world_steps.specs.Steps.{DoesNothing, IsAddressed, LacksFilter, MayHaveActed, Step, Steps, Unsures}
use Rattle.flow_world_steps.specs.Sums.{total}
use Rattle.flow_world_steps.specs.Steps.Step.{opens_clock, finds_run_used, asks_clock, finds_late, begins, moves, upgrades, tells, expires, says, fails_to_say}
use Rattle.flow_world_steps.specs.Steps.Step.{puts_first, resends, takes, finds_none, fails_to_take, drops, replies, ignores_reply, acts_on, repeats_reply, fails_to_act, wants_memory_now}
use Rattle.flow_world_steps.specs.Steps.Steps.{nothing, and_then}
use Rattle.flow_world_steps.specs.Worlds.{World, Phase, Notes, holds}
use Rattle.flow_world_steps.proofs.Adding.{of_option}
use Rattle.flow_world_steps.proofs.Agreement.{steps_run}
use Rattle.flow_world_steps.proofs.Growth.{gains_none, gains_one, gains_then}
use Rattle.flow_world_steps.proofs.Hands.{HandGoes, IsEmptyAt, at_looked, at_opened, at_owes, at_rests, empty_to, hand_as, refused_to, to_looked, to_owes, to_reached, to_rests}
use Rattle.flow_world_steps.proofs.Spoken.{fails_said}
use Rattle.flow_world_steps.proofs.Came.{last_of, same_last}
use Rattle.flow_world_steps.proofs.Failing.{fails_notes}

-- ---- lists

each_all : {T : Type 0} (P Q : T → Type 0) (xs : List T) → ((x : T) → P x → Q x) → All P xs → All Q xs
each_all P Q xs to all k d lt = to _ (all k d lt)

pub All-one : {T : Type 0} (P : T → Type 0) (x : T) → P x → All P (x ∷ [])
All-one {T} P x p zero d lt = p
All-one {T} P x p (suc k) d lt = absurd (omega (arith, lt))

pub get_set_same : {T : Type 0} (xs : List T) (k : ℕ) (v w : T) → slice_get xs k ≡ Some v → slice_get (slice_set xs k w) k ≡ Some w
get_set_same [] zero v w is = absurd (cc)
get_set_same [] (suc k) v w is = absurd (cc)
get_set_same (x ∷ xs) zero v w is = refl
get_set_same (x ∷ xs) (suc k) v w is = get_set_same xs k v w is

pub get_set_other : {T : Type 0} (xs : List T) (k j : ℕ) (w : T) → j ≢ k → slice_get (slice_set xs k w) j ≡ slice_get xs j
get_set_other [] zero j w ne = refl
get_set_other [] (suc k) j w ne = refl
get_set_other (x ∷ xs) zero zero w ne = absurd (ne refl)
get_set_other (x ∷ xs) zero (suc j) w ne = refl
get_set_other (x ∷ xs) (suc k) zero w ne = refl
get_set_other (x ∷ xs) (suc k) (suc j) w ne = get_set_other xs k j w (λ e. ne (ap suc e))

-- ---- what was taken stays taken

reply_left : (run : ℕ) (a b : List (ℕ × Parcel)) (r : Record) → IsTakenReply run a r → IsTakenReply run (a ++ b) r
reply_left run a b (entry.Reply issue moment status rule text) is = (is.0, Contains-append_left a b is.0 is.1, is.2, is.3, is.4, is.5)
reply_left run a b (entry.Begin number moment books bind) is = tt
reply_left run a b (entry.Walk task moment) is = tt
reply_left run a b (entry.Send task issue agent moment bytes) is = tt
reply_left run a b (entry.Expire issue moment) is = tt
reply_left run a b (entry.Upgrade version moment) is = tt
reply_left run a b (entry.Ask task issue moment bytes) is = tt
reply_left run a b (entry.Told issue moment status text) is = tt

act_left : (a b : List (ℕ × Parcel)) (act : ℕ × Act) → IsTakenAct a act → IsTakenAct (a ++ b) act
act_left a b act is = (is.0, Contains-append_left a b is.0 is.1, is.2, is.3, is.4, is.5, is.6)

-- ---- acts and Replies stay

-- the command has its act, or no filter stands for its agent
abbrev pub IsDone : World → Parcel → Type 0
IsDone w parcel = HasItsAct w parcel ⊎ LacksFilter w parcel

-- the filters keep their acts, and no other stands
KeepsActs : World → World → Type 0
KeepsActs old new = (parcel : Parcel) → IsDone old parcel → IsDone new parcel

keeps_same : (old new : World) → new.filters ≡ old.filters → KeepsActs old new
unfolding KeepsActs
keeps_same old new same parcel (inl is) = inl (record {
  filter = is.filter;
  there = subst (λ (l : List ActuatorView). slice_get l (parcel.agent - 1) ≡ Some is.filter) (sym same) is.there;
  act = is.act;
  has = is.has;
  run = is.run;
  issue = is.issue;
})
keeps_same old new same parcel (inr is) = inr (record {
  addressed = is.addressed;
  is_command = is.is_command;
  none = subst (λ (l : List ActuatorView). slice_get l (parcel.agent - 1) ≡ None) (sym same) is.none;
})

-- one filter was replaced by one that has its acts
keeps_set : (old new : World) (k : ℕ) (v w : ActuatorView) (more : List Act) → slice_get old.filters k ≡ Some v → new.filters ≡ slice_set old.filters k w → w.acts ≡ v.acts ++ more → KeepsActs old new
unfolding KeepsActs
keeps_set old new k v w more was now acts_are parcel (inl is) = elim (same_or_not (parcel.agent - 1) k) [
  | inl e ↦
      let same : is.filter ≡ v = same_some (sym is.there ∙ ap (λ (n : ℕ). slice_get old.filters n) e ∙ was) in
      inl (record {
        filter = w;
        there = ap (λ (l : List ActuatorView). slice_get l (parcel.agent - 1)) now ∙ ap (λ (n : ℕ). slice_get (slice_set old.filters k w) n) e ∙ get_set_same old.filters k v w was;
        act = is.act;
        has = subst (λ (l : List Act). Contains l is.act) (sym acts_are) (Contains-append_left v.acts more is.act (subst (λ (f : ActuatorView). Contains f.acts is.act) same is.has));
        run = is.run;
        issue = is.issue;
      })
  | inr ne ↦ inl (record {
    filter = is.filter;
    there = ap (λ (l : List ActuatorView). slice_get l (parcel.agent - 1)) now ∙ get_set_other old.filters k (parcel.agent - 1) w ne ∙ is.there;
    act = is.act;
    has = is.has;
    run = is.run;
    issue = is.issue;
  })
]
keeps_set old new k v w more was now acts_are parcel (inr is) = elim (same_or_not (parcel.agent - 1) k) [
  | inl e ↦ absurd (none-some v (sym is.none ∙ ap (λ (n : ℕ). slice_get old.filters n) e ∙ was))
  | inr ne ↦ inr (record {
    addressed = is.addressed;
    is_command = is.is_command;
    none = ap (λ (l : List ActuatorView). slice_get l (parcel.agent - 1)) now ∙ get_set_other old.filters k (parcel.agent - 1) w ne ∙ is.none;
  })
]

-- the one behind these has its Reply, or was none
abbrev IsAnswered : World → World → List (ℕ × Parcel) → ℕ × Parcel → Type 0
IsAnswered a b front e = IsBack e.1 → HasItsReply b e.1 ⊎ WasNoReply a b front e

abbrev AreAnswered : World → World → List (ℕ × Parcel) → Type 0
AreAnswered a b handled = (front back : List (ℕ × Parcel)) (e : ℕ × Parcel) → handled ≡ front ++ e ∷ back → IsAnswered a b front e

answered_on : (a old new : World) (more : List Record) → Step old new → new.engine.history.records ≡ old.engine.history.records ++ more → (handled : List (ℕ × Parcel)) → AreAnswered a old handled → AreAnswered a new handled
answered_on a old new more step records handled to front back e at is_back = elim (to front back e at is_back) [
  | inl has ↦ inl (record {
    read = has.read;
    moment = has.moment;
    has = subst (λ (l : List Record). Contains l (entry.Reply e.1.issue has.moment has.read.status has.read.rule has.read.text)) (sym records)
        (Contains-append_left old.engine.history.records more _ has.has);
    reads = has.reads;
  })
  | inr was ↦ inr (record { w = was.w; before = was.before; after = and_then was.after step; in_hand = was.in_hand; place = was.place; none = was.none })
]

-- one more
answered_more : (a b : World) (handled : List (ℕ × Parcel)) (x : ℕ × Parcel) → AreAnswered a b handled → IsAnswered a b handled x → AreAnswered a b (handled ++ x ∷ [])
answered_more a b handled x all one front back e is to = elim (last_of back) [
  | inl none ↦
      let same = same_last handled front x e (is ∙ ap (λ (l : List (ℕ × Parcel)). front ++ e ∷ l) none) in
      let last : IsAnswered a b handled e = subst (λ (y : ℕ × Parcel). IsAnswered a b handled y) same.1 one in
      subst (λ (l : List (ℕ × Parcel)). IsAnswered a b l e) same.0 last to
  | inr some ↦
      let split : front ++ e ∷ back ≡ (front ++ e ∷ some.0) ++ some.1 ∷ [] =
      ap (λ (l : List (ℕ × Parcel)). front ++ e ∷ l) some.2 ∙ sym (append_assoc front (e ∷ some.0) (some.1 ∷ [])) in
      let same = same_last handled (front ++ e ∷ some.0) x some.1 (is ∙ split) in
      all front some.0 e same.0 to
]

none_answered : (a b : World) → AreAnswered a b []
none_answered a b front back e is to = let long = ap (λ (l : List (ℕ × Parcel)). length l) is in absurd (omega (arith, long, length-append front (e ∷ back)))

-- ---- what is counted, and what may stand

abbrev Marks : Type 0
Marks = ℕ × (List (ℕ × Act)) × (Option Record) × (Option (ℕ × Act))

abbrev marks : Notes → Marks
marks n = (n.ignored, n.acted, n.unsure, n.unsure_act)

pub total_append : {T : Type 0} (f : T → ℕ) (xs ys : List T) → total f (xs ++ ys) ≡ total f xs + total f ys
total_append f [] ys = omega arith
total_append f (x ∷ xs) ys = let rest = total_append f xs ys in omega (arith, rest)

-- a record that is no Reply is of no parcel
no_taken : (run : ℕ) (taken : List (ℕ × Parcel)) (r : Record) → one_reply r ≡ 0 → IsTakenReply run taken r
no_taken run taken (entry.Reply issue moment status rule text) e = absurd (omega (arith, e))
no_taken run taken (entry.Begin number moment books bind) e = tt
no_taken run taken (entry.Walk task moment) e = tt
no_taken run taken (entry.Send task issue agent moment bytes) e = tt
no_taken run taken (entry.Expire issue moment) e = tt
no_taken run taken (entry.Upgrade version moment) e = tt
no_taken run taken (entry.Ask task issue moment bytes) e = tt
no_taken run taken (entry.Told issue moment status text) e = tt

abbrev OfUnsure : World → World → List (ℕ × Parcel) → Type 0
OfUnsure a b taken = a.notes.unsure ≡ None → IfSome b.notes.unsure (IsTakenReply a.engine.history.seen.run taken)

abbrev OfUnsureAct : World → World → List (ℕ × Parcel) → Type 0
OfUnsureAct a b taken = a.notes.unsure_act ≡ None → IfSome b.notes.unsure_act (IsTakenAct taken)

same_unsure : (a old new : World) (taken : List (ℕ × Parcel)) → new.notes.unsure ≡ old.notes.unsure → OfUnsure a old taken → OfUnsure a new taken
same_unsure a old new taken e is none = subst (λ (o : Option Record). IfSome o (IsTakenReply a.engine.history.seen.run taken)) (sym e) (is none)

same_unsure_act : (a old new : World) (taken : List (ℕ × Parcel)) → new.notes.unsure_act ≡ old.notes.unsure_act → OfUnsureAct a old taken → OfUnsureAct a new taken
same_unsure_act a old new taken e is none = subst (λ (o : Option (ℕ × Act)). IfSome o (IsTakenAct taken)) (sym e) (is none)

if_some_each : {T : Type 0} (P Q : T → Type 0) (o : Option T) → ((x : T) → P x → Q x) → IfSome o P → IfSome o Q
if_some_each P Q None to is = tt
if_some_each P Q (Some x) to is = to x is

-- ---- no parcel was handed on

on_more : (a old new : World) (h : Handles a old) → Step old new → (more : List Record) → new.engine.history.records ≡ old.engine.history.records ++ more
    → ((taken : List (ℕ × Parcel)) → All (IsTakenReply a.engine.history.seen.run taken) more) → total one_reply more ≡ 0 → KeepsActs old new → new.notes.acted ≡ old.notes.acted
    → new.notes.ignored ≡ old.notes.ignored → OfUnsure a new (h.handled ++ h.at_hand) → OfUnsureAct a new (h.handled ++ h.at_hand)
    → new.site.link.taken ≡ old.site.link.taken → HandGoes old.phase new.phase → Handles a new
unfolding KeepsActs
on_more a old new h step more records no_replies no_count keeps acted ignored unsure unsure_act taken goes = record {
  handled = h.handled;
  at_hand = h.at_hand;
  takes = subst (λ (o : Option (List (ℕ × Parcel))). GainsAll a.site.link.taken (h.handled ++ h.at_hand) o) (sym taken) h.takes;
  open_one = goes h.at_hand h.open_one;
  commands = each_all (λ e. IsCommand e.1 → IsDone old e.1) (λ e. IsCommand e.1 → IsDone new e.1) h.handled (λ e to command. keeps e.1 (to command)) h.commands;
  replies = answered_on a old new more step records h.handled h.replies;
  acted = h.acted;
  acts = acted ∙ h.acts;
  of_acts = h.of_acts;
  added = h.added ++ more;
  adds = records ∙ ap (λ (l : List Record). l ++ more) h.adds ∙ append_assoc a.engine.history.records h.added more;
  of_replies = All-append (IsTakenReply a.engine.history.seen.run (h.handled ++ h.at_hand)) h.added more h.of_replies (no_replies (h.handled ++ h.at_hand));
  of_unsure = unsure;
  of_unsure_act = unsure_act;
  counted = omega (arith, h.counted, ignored, no_count, total_append one_reply h.added more);
}

records_of : (v w : EngineView) → w ≡ v → w.history.records ≡ v.history.records
records_of v w e = ap (λ (x : EngineView). x.history.records) e

still : (a old new : World) → Handles a old → Step old new → new.engine.history.records ≡ old.engine.history.records → new.filters ≡ old.filters → marks new.notes ≡ marks old.notes
    → new.site.link.taken ≡ old.site.link.taken → HandGoes old.phase new.phase → Handles a new
still a old new h step records filters same taken goes =
    on_more a old new h step [] (records ∙ sym (append-nil old.engine.history.records)) (λ taken. All-nil _) refl (keeps_same old new filters) (ap (λ (m : Marks). m.1) same) (ap (λ (m : Marks). m.0) same)
    (same_unsure a old new _ (ap (λ (m : Marks). m.2) same) h.of_unsure) (same_unsure_act a old new _ (ap (λ (m : Marks). m.3) same) h.of_unsure_act) taken goes

-- a record may stand in the journal
unsure_still : (a old new : World) (h : Handles a old) → Step old new → new.engine.history.records ≡ old.engine.history.records → new.filters ≡ old.filters → (next : Record)
    → new.notes ≡ record old.notes { unsure = Some next } → IsTakenReply a.engine.history.seen.run (h.handled ++ h.at_hand) next
    → new.site.link.taken ≡ old.site.link.taken → HandGoes old.phase new.phase → Handles a new
unsure_still a old new h step records filters next notes is taken goes =
    on_more a old new h step [] (records ∙ sym (append-nil old.engine.history.records)) (λ taken. All-nil _) refl (keeps_same old new filters) (ap (λ (n : Notes). n.acted) notes) (ap (λ (n : Notes). n.ignored) notes)
    (λ none. subst (λ (o : Option Record). IfSome o (IsTakenReply a.engine.history.seen.run (h.handled ++ h.at_hand))) (sym (ap (λ (n : Notes). n.unsure) notes)) is)
    (same_unsure_act a old new _ (ap (λ (n : Notes). n.unsure_act) notes) h.of_unsure_act) taken goes

taken_of : (old new : SiteView) → new ≡ old → new.link.taken ≡ old.link.taken
taken_of old new e = ap (λ (s : SiteView). s.link.taken) e

link_taken : (old new : SiteView) → new.link ≡ old.link → new.link.taken ≡ old.link.taken
link_taken old new e = ap (λ (l : LinkView). l.taken) e

-- a record that is no Reply
tried : (IsNext : Record → Type 0) (a old new : World) → Handles a old → Step old new → IsEmptyAt old.phase → Tries IsNext old new
    → ((next : Record) → IsNext next → one_reply next ≡ 0) → Handles a new
tried IsNext a old new h step empty (done is) no_reply =
    let offers = is.appends.adds.offers in
    let next = offers.comes.next in
    let run = a.engine.history.seen.run in
    let none = no_reply next offers.comes.is in
    on_more a old new h step (next ∷ []) (ap (λ (x : HistoryView). x.records) is.appends.adds.view)
    (λ taken. All-one (IsTakenReply run taken) next (no_taken run taken next none)) (omega (arith, none))
    (keeps_same old new is.filters) (ap (λ (n : Notes). n.acted) is.notes) (ap (λ (n : Notes). n.ignored) is.notes)
    (same_unsure a old new _ (ap (λ (n : Notes). n.unsure) is.notes) h.of_unsure) (same_unsure_act a old new _ (ap (λ (n : Notes). n.unsure_act) is.notes) h.of_unsure_act)
    (link_taken old.site new.site offers.file.rest.link) (empty_to old.phase new.phase empty (to_owes new.phase is.phase))
tried IsNext a old new h step empty (failed is) no_reply =
    unsure_still a old new h step (ap (λ (x : HistoryView). x.records) is.refuses.0.1) is.filters is.refuses.0.0.comes.next is.notes
    (no_taken a.engine.history.seen.run (h.handled ++ h.at_hand) is.refuses.0.0.comes.next (no_reply is.refuses.0.0.comes.next is.refuses.0.0.comes.is))
    (link_taken old.site new.site is.refuses.0.0.file.rest.link) (refused_to old.phase new.phase _ false is.phase)
tried IsNext a old new h step empty (limited what is) no_reply =
    still a old new h step (ap (λ (x : HistoryView). x.records) is.refuses.0.1) is.filters (ap marks is.notes) (taken_of old.site new.site is.refuses.0.2)
    (refused_to old.phase new.phase _ false is.phase)

-- ---- the parcel in hand was handed on

handed : (a old new : World) (h : Handles a old) → Step old new → (beat : ℕ) (parcel : Parcel) → old.phase ≡ holds beat parcel → (more : List Record)
    → new.engine.history.records ≡ old.engine.history.records ++ more
    → ((taken : List (ℕ × Parcel)) → Contains taken (beat, parcel) → All (IsTakenReply a.engine.history.seen.run taken) more) → KeepsActs old new
    → (IsCommand parcel → IsDone new parcel) → IsAnswered a new h.handled (beat, parcel)
    → (further : List (ℕ × Act)) → new.notes.acted ≡ old.notes.acted ++ further → ((taken : List (ℕ × Parcel)) → Contains taken (beat, parcel) → All (IsTakenAct taken) further)
    → new.notes.unsure ≡ old.notes.unsure → new.notes.unsure_act ≡ old.notes.unsure_act → new.notes.ignored + length further + total one_reply more ≡ old.notes.ignored + 1
    → new.site.link.taken ≡ old.site.link.taken → IsAtHand new.phase [] → Handles a new
unfolding KeepsActs
handed a old new h step beat parcel at more records of_records keeps has_act has_reply further acted of_further unsure unsure_act count taken opens =
    let hand : h.at_hand ≡ (beat, parcel) ∷ [] = hand_as old.phase (holds beat parcel) at h.at_hand h.open_one in
    let list : h.handled ++ h.at_hand ≡ (h.handled ++ (beat, parcel) ∷ []) ++ [] =
    ap (λ (l : List (ℕ × Parcel)). h.handled ++ l) hand ∙ sym (append-nil (h.handled ++ (beat, parcel) ∷ [])) in
    let all = (h.handled ++ (beat, parcel) ∷ []) ++ [] in
    let run = a.engine.history.seen.run in
    let here : Contains all (beat, parcel) = Contains-append_left (h.handled ++ (beat, parcel) ∷ []) [] (beat, parcel) (Contains-push h.handled (beat, parcel)) in
    record {
      handled = h.handled ++ (beat, parcel) ∷ [];
      at_hand = [];
      takes = subst (λ (l : List (ℕ × Parcel)). GainsAll a.site.link.taken l new.site.link.taken) list
          (subst (λ (o : Option (List (ℕ × Parcel))). GainsAll a.site.link.taken (h.handled ++ h.at_hand) o) (sym taken) h.takes);
      open_one = opens;
      commands = All-push (λ e. IsCommand e.1 → IsDone new e.1) h.handled (beat, parcel)
          (each_all (λ e. IsCommand e.1 → IsDone old e.1) (λ e. IsCommand e.1 → IsDone new e.1) h.handled (λ e to command. keeps e.1 (to command)) h.commands) has_act;
      replies = answered_more a new h.handled (beat, parcel) (answered_on a old new more step records h.handled h.replies) has_reply;
      acted = h.acted ++ further;
      acts = acted ∙ ap (λ (l : List (ℕ × Act)). l ++ further) h.acts ∙ append_assoc a.notes.acted h.acted further;
      of_acts = All-append (IsTakenAct all) h.acted further (subst (λ (l : List (ℕ × Parcel)). All (IsTakenAct l) h.acted) list h.of_acts) (of_further all here);
      added = h.added ++ more;
      adds = records ∙ ap (λ (l : List Record). l ++ more) h.adds ∙ append_assoc a.engine.history.records h.added more;
      of_replies = All-append (IsTakenReply run all) h.added more (subst (λ (l : List (ℕ × Parcel)). All (IsTakenReply run l) h.added) list h.of_replies) (of_records all here);
      of_unsure = same_unsure a old new all unsure (subst (λ (l : List (ℕ × Parcel)). OfUnsure a old l) list h.of_unsure);
      of_unsure_act = same_unsure_act a old new all unsure_act (subst (λ (l : List (ℕ × Parcel)). OfUnsureAct a old l) list h.of_unsure_act);
      counted = omega (arith, h.counted, count, length-append h.handled ((beat, parcel) ∷ []), length-append h.acted further, total_append one_reply h.added more);
    }

with_none : (v w : EngineView) → w ≡ v → w.history.records ≡ v.history.records ++ []
with_none v w e = records_of v w e ∙ sym (append-nil v.history.records)

-- a reply is no command, and a command no reply
no_command : (parcel : Parcel) (P : Type 0) → parcel.back ≡ true → IsCommand parcel → P
no_command parcel P back command = absurd (false≢true (sym command.command ∙ back))

no_back : (parcel : Parcel) (P : Type 0) → parcel.back ≡ false → IsBack parcel → P
no_back parcel P command back = absurd (false≢true (sym command ∙ back.back))

-- a command is dropped only where no filter stands for its agent, and a reply is dropped never
dropped_command : (old new : World) (parcel : Parcel) → new.filters ≡ old.filters → (IsAddressed parcel → ⊥) ⊎ LacksFilter old parcel → IsCommand parcel → IsDone new parcel
unfolding KeepsActs
dropped_command old new parcel same (inl not) command = absurd (not command.addressed)
dropped_command old new parcel same (inr lacks) command = keeps_same old new same parcel (inr lacks)

dropped_reply : (old : World) (parcel : Parcel) (P : Type 0) → (IsAddressed parcel → ⊥) ⊎ LacksFilter old parcel → IsBack parcel → P
dropped_reply old parcel P (inl not) back = absurd (not back.addressed)
dropped_reply old parcel P (inr lacks) back = no_back parcel P lacks.is_command back

-- its Reply was appended
replied : (a old new : World) → Handles a old → Step old new → old.engine.history.seen.run ≡ a.engine.history.seen.run → (beat : ℕ) (parcel : Parcel) → old.phase ≡ holds beat parcel → parcel.back ≡ true
    → Tries (IsReply old.engine.history parcel old.site.clock.now) old new → Handles a new
replied a old new h step run beat parcel at back (done is) =
    let offers = is.appends.adds.offers in
    let next = offers.comes.next in
    let reply = offers.comes.is in
    let now : ℕ = old.site.clock.now in
    let records : new.engine.history.records ≡ old.engine.history.records ++ next ∷ [] = ap (λ (x : HistoryView). x.records) is.appends.adds.view in
    handed a old new h step beat parcel at (next ∷ []) records
    (λ taken has. All-one (IsTakenReply a.engine.history.seen.run taken) next
    (subst (λ (r : Record). IsTakenReply a.engine.history.seen.run taken r) (sym reply.is)
    ((beat, parcel), has, back, reply.to.sent_back.of_run ∙ run, refl, reply.to.read_is.reads)))
    (keeps_same old new is.filters) (no_command parcel _ back)
    (λ b. inl (record {
      read = reply.read;
      moment = now;
      has = subst (λ (l : List Record). Contains l (entry.Reply parcel.issue now reply.read.status reply.read.rule reply.read.text)) (sym records)
          (subst (λ (r : Record). Contains (old.engine.history.records ++ next ∷ []) r) reply.is (Contains-push old.engine.history.records next));
      reads = reply.to.read_is.reads;
    }))
    [] (ap (λ (n : Notes). n.acted) is.notes ∙ sym (append-nil old.notes.acted)) (λ taken has. All-nil _)
    (ap (λ (n : Notes). n.unsure) is.notes) (ap (λ (n : Notes). n.unsure_act) is.notes)
    (let one : one_reply next ≡ 1 = ap one_reply reply.is in omega (arith, one, ap (λ (n : Notes). n.ignored) is.notes))
    (link_taken old.site new.site offers.file.rest.link) (to_owes new.phase is.phase [] refl)
replied a old new h step run beat parcel at back (failed is) =
    let next = is.refuses.0.0.comes.next in
    let reply = is.refuses.0.0.comes.is in
    let hand : h.at_hand ≡ (beat, parcel) ∷ [] = hand_as old.phase (holds beat parcel) at h.at_hand h.open_one in
    let has : Contains (h.handled ++ h.at_hand) (beat, parcel) = subst (λ (l : List (ℕ × Parcel)). Contains (h.handled ++ l) (beat, parcel)) (sym hand) (Contains-push h.handled (beat, parcel)) in
    unsure_still a old new h step (ap (λ (x : HistoryView). x.records) is.refuses.0.1) is.filters next is.notes
    (subst (λ (r : Record). IsTakenReply a.engine.history.seen.run (h.handled ++ h.at_hand) r) (sym reply.is)
    ((beat, parcel), has, back, reply.to.sent_back.of_run ∙ run, refl, reply.to.read_is.reads))
    (link_taken old.site new.site is.refuses.0.0.file.rest.link) (refused_to old.phase new.phase _ false is.phase)
replied a old new h step run beat parcel at back (limited what is) =
    still a old new h step (ap (λ (x : HistoryView). x.records) is.refuses.0.1) is.filters (ap marks is.notes) (taken_of old.site new.site is.refuses.0.2)
    (refused_to old.phase new.phase _ false is.phase)

-- ---- a parcel was taken

took : (a old new : World) → Handles a old → Step old new → (parcel : Parcel) → IsEmptyAt old.phase → GainsAll old.site.link.taken ((new.site.disk.beat, parcel) ∷ []) new.site.link.taken
    → new.engine ≡ old.engine → new.filters ≡ old.filters → marks new.notes ≡ marks old.notes → new.phase ≡ holds new.site.disk.beat parcel → Handles a new
unfolding KeepsActs
took a old new h step parcel empty gained engine filters same phase =
    let x : ℕ × Parcel = (new.site.disk.beat, parcel) in
    let run = a.engine.history.seen.run in
    let hand : h.at_hand ≡ [] = empty h.at_hand h.open_one in
    let list : h.handled ++ h.at_hand ≡ h.handled = ap (λ (l : List (ℕ × Parcel)). h.handled ++ l) hand ∙ append-nil h.handled in
    record {
      handled = h.handled;
      at_hand = x ∷ [];
      takes = gains_then a.site.link.taken old.site.link.taken new.site.link.taken h.handled (x ∷ [])
          (subst (λ (l : List (ℕ × Parcel)). GainsAll a.site.link.taken l old.site.link.taken) list h.takes) gained;
      open_one = subst (λ (p : Phase). IsAtHand p (x ∷ [])) (sym phase) refl;
      commands = each_all (λ e. IsCommand e.1 → IsDone old e.1) (λ e. IsCommand e.1 → IsDone new e.1) h.handled (λ e to command. keeps_same old new filters e.1 (to command)) h.commands;
      replies = answered_on a old new [] step (with_none old.engine new.engine engine) h.handled h.replies;
      acted = h.acted;
      acts = ap (λ (m : Marks). m.1) same ∙ h.acts;
      of_acts = each_all (IsTakenAct h.handled) (IsTakenAct (h.handled ++ x ∷ [])) h.acted (act_left h.handled (x ∷ [])) (subst (λ (l : List (ℕ × Parcel)). All (IsTakenAct l) h.acted) list h.of_acts);
      added = h.added;
      adds = records_of old.engine new.engine engine ∙ h.adds;
      of_replies = each_all (IsTakenReply run h.handled) (IsTakenReply run (h.handled ++ x ∷ [])) h.added (reply_left run h.handled (x ∷ []))
          (subst (λ (l : List (ℕ × Parcel)). All (IsTakenReply run l) h.added) list h.of_replies);
      of_unsure = λ none. if_some_each (IsTakenReply run h.handled) (IsTakenReply run (h.handled ++ x ∷ [])) new.notes.unsure (reply_left run h.handled (x ∷ []))
          (same_unsure a old new h.handled (ap (λ (m : Marks). m.2) same) (subst (λ (l : List (ℕ × Parcel)). OfUnsure a old l) list h.of_unsure) none);
      of_unsure_act = λ none. if_some_each (IsTakenAct h.handled) (IsTakenAct (h.handled ++ x ∷ [])) new.notes.unsure_act (act_left h.handled (x ∷ []))
          (same_unsure_act a old new h.handled (ap (λ (m : Marks). m.3) same) (subst (λ (l : List (ℕ × Parcel)). OfUnsureAct a old l) list h.of_unsure_act) none);
      counted = omega (arith, h.counted, ap (λ (m : Marks). m.0) same);
    }

-- ---- records that are no Reply

move_no_reply : (seen : Shown) (now : ℕ) (m : Move) (next : Record) → record_of seen now m ≡ Some next → one_reply next ≡ 0
move_no_reply seen now (move.Walk t) next e = sym (ap one_reply (same_some e))
move_no_reply seen now (move.Send t) next e = of_option _ _ (λ (r : Record). one_reply r ≡ 0) next (λ x. refl) e
move_no_reply seen now (move.Ask t) next e = of_option _ _ (λ (r : Record). one_reply r ≡ 0) next (λ x. refl) e
move_no_reply seen now move.Upgrade next e = sym (ap one_reply (same_some e))

-- the act that may stand is of the parcel in hand
act_unsure : (error : ActError) (parcel : Parcel) (v : ActuatorView) (a old new : World) (taken : List (ℕ × Parcel)) → Unsures error parcel v old new
    → IsTakenAct taken (parcel.agent, act_for v.acts parcel old.site.clock.now) → OfUnsureAct a old taken → OfUnsureAct a new taken
act_unsure error parcel v a old new taken unsures is was = by error unsures
  where
    same : DoesNothing old new → OfUnsureAct a new taken
    same nothing_done = same_unsure_act a old new taken (ap (λ (n : Notes). n.unsure_act) nothing_done.notes) was

    may : MayHaveActed parcel v old new → OfUnsureAct a new taken
    may acted none = subst (λ (o : Option (ℕ × Act)). IfSome o (IsTakenAct taken)) (sym (ap (λ (n : Notes). n.unsure_act) acted.notes)) is

    by : (error : ActError) → Unsures error parcel v old new → OfUnsureAct a new taken
    by act_error.Disk is = may is
    by act_error.Memory is = elim is [ inl none ↦ same none | inr acted ↦ may acted ]
    by (act_error.Damaged place) is = same is
    by (act_error.Full length) is = same is
    by act_error.Broken is = same is

-- the one in hand was taken right behind those that were handed on
place_of : (a old : World) (h : Handles a old) (beat : ℕ) (parcel : Parcel) → old.phase ≡ holds beat parcel → GainsAll a.site.link.taken (h.handled ++ (beat, parcel) ∷ []) old.site.link.taken
place_of a old h beat parcel at =
    subst (λ (l : List (ℕ × Parcel)). GainsAll a.site.link.taken (h.handled ++ l) old.site.link.taken) (hand_as old.phase (holds beat parcel) at h.at_hand h.open_one) h.takes

step_handles : (a old new : World) → Steps a old → old.engine.history.seen.run ≡ a.engine.history.seen.run → Handles a old → Step old new → Handles a new
unfolding KeepsActs
step_handles a old new so_far run h (opens_clock answer is) = still a old new h (opens_clock answer is) (records_of old.engine new.engine is.goes.sides.engine) is.goes.sides.filters (ap marks is.goes.notes) is.goes.reaches.taken (empty_to old.phase new.phase (at_opened old.phase is.phase) (to_reached new.phase _ answer is.goes.phase))
step_handles a old new so_far run h (finds_run_used agent is) = still a old new h (finds_run_used agent is) (records_of old.engine new.engine is.only.sides.engine) is.only.sides.filters (ap marks is.only.notes) (taken_of old.site new.site is.only.site) (refused_to old.phase new.phase _ _ is.only.phase)
step_handles a old new so_far run h (asks_clock moment answer is) = still a old new h (asks_clock moment answer is) (records_of old.engine new.engine is.goes.sides.engine) is.goes.sides.filters (ap marks is.goes.notes) is.goes.reaches.taken (empty_to old.phase new.phase (at_looked old.phase is.next.up_to_date.on_time.untold.idle.has_looked.phase) (to_reached new.phase moment answer is.goes.phase))
step_handles a old new so_far run h (finds_late moment is) = still a old new h (finds_late moment is) (records_of old.engine new.engine is.only.sides.engine) is.only.sides.filters (ap marks is.only.notes) (taken_of old.site new.site is.only.site) (refused_to old.phase new.phase _ _ is.only.phase)
step_handles a old new so_far run h (begins is) = tried _ a old new h (begins is) (at_rests old.phase is.phase) is.tries (λ next i. ap one_reply i.is)
step_handles a old new so_far run h (moves is) = tried _ a old new h (moves is) (at_looked old.phase is.has_looked.phase) is.tries (λ next i. move_no_reply old.engine.history.seen old.site.clock.now i.move next i.is)
step_handles a old new so_far run h (upgrades issue told is) = tried _ a old new h (upgrades issue told is) (at_looked old.phase is.to_be_told.idle.has_looked.phase) is.tries (λ next i. ap one_reply i)
step_handles a old new so_far run h (tells issue told is) = tried _ a old new h (tells issue told is) (at_looked old.phase is.to_be_told.idle.has_looked.phase) is.tries (λ next i. ap one_reply i)
step_handles a old new so_far run h (expires issue is) = tried _ a old new h (expires issue is) (at_looked old.phase is.overdue.untold.idle.has_looked.phase) is.tries (λ next i. ap one_reply i)
step_handles a old new so_far run h (says bytes is) = still a old new h (says bytes is) (records_of old.engine new.engine is.speaks.sides.engine) is.speaks.sides.filters (ap marks is.speaks.notes) is.speaks.only.taken (empty_to old.phase new.phase (at_owes old.phase is.speaks.phase) (to_rests new.phase is.phase))
step_handles a old new so_far run h (fails_to_say bytes is) = still a old new h (fails_to_say bytes is) (records_of old.engine new.engine is.speaks.sides.engine) is.speaks.sides.filters (ap marks is.speaks.notes) is.speaks.only.taken (refused_to old.phase new.phase _ _ is.phase)
step_handles a old new so_far run h (puts_first issue is) = still a old new h (puts_first issue is) (ap (λ (x : EngineView). x.history.records) is.puts.sends.view) is.puts.filters (ap marks is.puts.notes) is.puts.sends.put.taken (empty_to old.phase new.phase (at_rests old.phase is.phase) (to_rests new.phase is.puts.phase))
step_handles a old new so_far run h (resends issue is) = still a old new h (resends issue is) (ap (λ (x : EngineView). x.history.records) is.puts.sends.view) is.puts.filters (ap marks is.puts.notes) is.puts.sends.put.taken (empty_to old.phase new.phase (at_looked old.phase is.due.on_time.untold.idle.has_looked.phase) (to_rests new.phase is.puts.phase))
step_handles a old new so_far run h (takes parcel is) = took a old new h (takes parcel is) parcel (at_rests old.phase is.turn.phase) (gains_one old.site.link.taken new.site.link.taken (new.site.disk.beat, parcel) is.some.taken) is.sides.engine is.sides.filters (ap marks is.notes) is.phase
step_handles a old new so_far run h (finds_none is) = still a old new h (finds_none is) (records_of old.engine new.engine is.sides.engine) is.sides.filters (ap marks is.notes) is.none.taken (empty_to old.phase new.phase (at_rests old.phase is.turn.phase) (to_looked new.phase is.phase))
step_handles a old new so_far run h (fails_to_take is) = still a old new h (fails_to_take is) (records_of old.engine new.engine is.sides.engine) is.sides.filters (ap marks is.notes) (link_taken old.site new.site is.link) (refused_to old.phase new.phase _ _ is.phase)
step_handles a old new so_far run h (drops beat parcel is) = handed a old new h (drops beat parcel is) beat parcel is.phase [] (with_none old.engine new.engine is.ignores.engine) (λ taken has. All-nil _) (keeps_same old new is.ignores.filters)
    (dropped_command old new parcel is.ignores.filters is.why) (dropped_reply old parcel _ is.why) [] (ap (λ (n : Notes). n.acted) is.ignores.notes ∙ sym (append-nil old.notes.acted)) (λ taken has. All-nil _) (ap (λ (n : Notes). n.unsure) is.ignores.notes) (ap (λ (n : Notes). n.unsure_act) is.ignores.notes) (omega (arith, ap (λ (n : Notes). n.ignored) is.ignores.notes)) (taken_of old.site new.site is.site) (to_rests new.phase is.ignores.phase [] refl)
step_handles a old new so_far run h (replies beat parcel is) = replied a old new h (replies beat parcel is) run beat parcel is.holds_reply.phase is.holds_reply.back is.tries
step_handles a old new so_far run h (ignores_reply beat parcel is) = handed a old new h (ignores_reply beat parcel is) beat parcel is.holds_reply.phase [] (with_none old.engine new.engine is.ignores.engine) (λ taken has. All-nil _) (keeps_same old new is.ignores.filters)
    (no_command parcel _ is.holds_reply.back) (λ back. inr (record { w = old; before = so_far; after = and_then nothing (ignores_reply beat parcel is); in_hand = is.holds_reply.phase; place = place_of a old h beat parcel is.holds_reply.phase; none = is.no_reply })) [] (ap (λ (n : Notes). n.acted) is.ignores.notes ∙ sym (append-nil old.notes.acted)) (λ taken has. All-nil _) (ap (λ (n : Notes). n.unsure) is.ignores.notes) (ap (λ (n : Notes). n.unsure_act) is.ignores.notes) (omega (arith, ap (λ (n : Notes). n.ignored) is.ignores.notes)) (taken_of old.site new.site is.site) (to_rests new.phase is.ignores.phase [] refl)
step_handles a old new so_far run h (acts_on beat parcel v w is) =
    let held = is.holds_command in
    let act = act_for v.acts parcel old.site.clock.now in
    let acts_are : w.acts ≡ v.acts ++ act ∷ [] = ap (λ (x : ActuatorView). x.acts) is.acts.view in
    handed a old new h (acts_on beat parcel v w is) beat parcel held.phase [] (with_none old.engine new.engine is.engine) (λ taken has. All-nil _)
    (keeps_set old new (parcel.agent - 1) v w (act ∷ []) held.there is.filters acts_are)
    (λ command. inl (record {
      filter = w;
      there = ap (λ (l : List ActuatorView). slice_get l (parcel.agent - 1)) is.filters ∙ get_set_same old.filters (parcel.agent - 1) v w held.there;
      act = act;
      has = subst (λ (l : List Act). Contains l act) (sym acts_are) (Contains-push v.acts act);
      run = refl;
      issue = refl;
    })) (no_back parcel _ held.command)
    ((parcel.agent, act) ∷ []) (ap (λ (n : Notes). n.acted) is.notes)
    (λ taken has. All-one (IsTakenAct taken) (parcel.agent, act) ((beat, parcel), has, held.command, refl, refl, refl, refl))
    (ap (λ (n : Notes). n.unsure) is.notes) (ap (λ (n : Notes). n.unsure_act) is.notes) (omega (arith, ap (λ (n : Notes). n.ignored) is.notes))
    (is.acts.puts.taken ∙ link_taken old.site is.acts.between is.acts.offers.adds.file.rest.link) (to_rests new.phase is.phase [] refl)
step_handles a old new so_far run h (repeats_reply beat parcel v w is) =
    let held = is.holds_command in
    handed a old new h (repeats_reply beat parcel v w is) beat parcel held.phase [] (with_none old.engine new.engine is.ignores.engine) (λ taken has. All-nil _) (keeps_same old new is.ignores.filters)
    (λ command. inl (record {
      filter = v;
      there = ap (λ (l : List ActuatorView). slice_get l (parcel.agent - 1)) is.ignores.filters ∙ held.there;
      act = is.repeats.act;
      has = is.repeats.acted.has;
      run = is.repeats.acted.of_run;
      issue = is.repeats.acted.of_issue;
    })) (no_back parcel _ held.command)
    [] (ap (λ (n : Notes). n.acted) is.ignores.notes ∙ sym (append-nil old.notes.acted)) (λ taken has. All-nil _) (ap (λ (n : Notes). n.unsure) is.ignores.notes) (ap (λ (n : Notes). n.unsure_act) is.ignores.notes) (omega (arith, ap (λ (n : Notes). n.ignored) is.ignores.notes)) is.repeats.puts.taken (to_rests new.phase is.ignores.phase [] refl)
step_handles a old new so_far run h (fails_to_act beat parcel v w error cause is) =
    let held = is.holds_command in
    let acts_are : w.acts ≡ v.acts ++ [] = ap (λ (x : ActuatorView). x.acts) is.refuses.view ∙ sym (append-nil v.acts) in
    let notes = fails_notes error parcel v old new is.notes in
    let hand : h.at_hand ≡ (beat, parcel) ∷ [] = hand_as old.phase (holds beat parcel) held.phase h.at_hand h.open_one in
    let has : Contains (h.handled ++ h.at_hand) (beat, parcel) = subst (λ (l : List (ℕ × Parcel)). Contains (h.handled ++ l) (beat, parcel)) (sym hand) (Contains-push h.handled (beat, parcel)) in
    on_more a old new h (fails_to_act beat parcel v w error cause is) [] (with_none old.engine new.engine is.engine) (λ taken. All-nil _) refl (keeps_set old new (parcel.agent - 1) v w [] held.there is.filters acts_are)
    (ap (λ (n : Notes). n.acted) notes) (ap (λ (n : Notes). n.ignored) notes) (same_unsure a old new _ (ap (λ (n : Notes). n.unsure) notes) h.of_unsure)
    (act_unsure error parcel v a old new _ is.notes ((beat, parcel), has, held.command, refl, refl, refl, refl) h.of_unsure_act)
    (link_taken old.site new.site (fails_said v parcel old.site.clock.now old.site new.site error is.refuses.site)) (refused_to old.phase new.phase cause false is.phase)
step_handles a old new so_far run h (wants_memory_now is) = still a old new h (wants_memory_now is) (records_of old.engine new.engine is.only.sides.engine) is.only.sides.filters (ap marks is.only.notes) (taken_of old.site new.site is.only.site) (refused_to old.phase new.phase _ _ is.only.phase)

pub steps_handle : EachHandles
steps_handle a b at nothing = record {
  handled = [];
  at_hand = [];
  takes = gains_none a.site.link.taken;
  open_one = at;
  commands = All-nil _;
  replies = none_answered a a;
  acted = [];
  acts = sym (append-nil a.notes.acted);
  of_acts = All-nil _;
  added = [];
  adds = sym (append-nil a.engine.history.records);
  of_replies = All-nil _;
  of_unsure = λ none. subst (λ (o : Option Record). IfSome o (IsTakenReply a.engine.history.seen.run [])) (sym none) tt;
  of_unsure_act = λ none. subst (λ (o : Option (ℕ × Act)). IfSome o (IsTakenAct [])) (sym none) tt;
  counted = omega arith;
}
steps_handle a b at (and_then {mid} steps step) = step_handles a mid b steps (steps_run a mid steps) (steps_handle a mid at steps) step
