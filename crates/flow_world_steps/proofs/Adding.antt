-- What each step does to the journal's records, to the clock and to what was given.
use Rattle.std.proofs.Common.{◌≡◌, inl, inr, ℕ, zero, suc, ◌-◌, ◌≤◌, List, [], ◌∷◌, ◌++◌, length, refl, sym, ◌∙◌, subst, ap, arith, All}
use Rattle.std.specs.Prelude.{Option, Some, None, option_map}
use Rattle.std.proofs.lemmas.List.{append_assoc, append-nil, length-append}
use Rattle.std.proofs.lemmas.List.Elements.{All-append, All-nil}
use Rattle.std.proofs.lemmas.Option.{none-some}
use Rattle.cacao_site.specs.View.{SiteView, ClockView}
use Rattle.run_records.specs.declared.record.Record.{Record}
use Rattle.flow_core_rules.specs.Changes.{moment_of}
use Rattle.flow_core_rules.specs.Moves.{record_of}
use Rattle.flow_core_rules.specs.State.{Shown}
use Rattle.flow_core_rules.specs.declared.moves.Move.{Move}
use Rattle.flow_core_rules.specs.declared.moves.Move.TheVariants as move
use Rattle.flow_laws.proofs.Basics.{same_some}
use Rattle.flow_engine.specs.HistoryView.{HistoryView}
use Rattle.flow_engine.specs.EngineCalls.{IsBeginning, IsMove, IsReply}
use Rattle.flow_engine.specs.EngineView.{EngineView}
use Rattle.slpf_actuator.specs.ActuatorCalls.{MayHaveDone}
use Rattle.slpf_actuator.specs.ActuatorView.{ActuatorView}
use Rattle.slpf_actuator.specs.declared.error.ActError.{ActError}
use Rattle.slpf_actuator.specs.declared.error.ActError.TheVariants as act_error
use Rattle.cacao_site.specs.declared.parcel.Parcel.{Parcel}
use Rattle.flow_world_steps.specs.Appends.{Tries}
use Rattle.flow_world_steps.specs.Appends.Tries.{done, failed, limited}
use Rattle.flow_world_steps.specs.Steps.{Step, ActsOn}
use Rattle.flow_world_steps.specs.Steps.Step.{opens_clock, finds_run_used, asks_clock, finds_late, begins, moves, upgrades, tells, expires, says, fails_to_say}
use Rattle.flow_world_steps.specs.Steps.Step.{puts_first, resends, takes, finds_none, fails_to_take, drops, replies, ignores_reply, acts_on, repeats_reply, fails_to_act, wants_memory_now}
use Rattle.flow_world_steps.specs.Steps.Steps.{nothing, and_then}
use Rattle.flow_world_steps.specs.Sums.{Adds, EachAdds, EachSameGiven, IsBetween, SameGiven}
use Rattle.flow_world_steps.specs.Worlds.{Notes, World}
use Rattle.flow_world_steps.proofs.Failing.{fails_notes}

-- ---- moments of records

pub of_option : {A : Type 0} (o : Option A) (f : A → Record) (P : Record → Type 0) (next : Record) → ((x : A) → P (f x)) → option_map f o ≡ Some next → P next
of_option None f P next all e = absurd (none-some next e)
of_option (Some x) f P next all e = subst P (same_some e) (all x)

moment_made : (seen : Shown) (now : ℕ) (m : Move) (next : Record) → record_of seen now m ≡ Some next → moment_of next ≡ now
moment_made seen now (move.Walk t) next e = sym (ap moment_of (same_some e))
moment_made seen now (move.Send t) next e = of_option _ _ (λ r. moment_of r ≡ now) next (λ x. refl) e
moment_made seen now (move.Ask t) next e = of_option _ _ (λ r. moment_of r ≡ now) next (λ x. refl) e
moment_made seen now move.Upgrade next e = sym (ap moment_of (same_some e))

pub begins_now : (h : HistoryView) (now : ℕ) (next : Record) → IsBeginning h now next → moment_of next ≡ now
begins_now h now next is = ap moment_of is.is

pub moves_now : (h : HistoryView) (now : ℕ) (next : Record) → IsMove h now next → moment_of next ≡ now
moves_now h now next is = moment_made h.seen now is.move next is.is

pub replies_now : (h : HistoryView) (parcel : Parcel) (now : ℕ) (next : Record) → IsReply h parcel now next → moment_of next ≡ now
replies_now h parcel now next is = ap moment_of is.is

-- ---- no record

records_same : (old new : World) → new.engine ≡ old.engine → new.engine.history.records ≡ old.engine.history.records
records_same old new e = ap (λ (v : EngineView). v.history.records) e

pub adds_none : (old new : World) → new.engine.history.records ≡ old.engine.history.records → old.site.clock.now ≤ new.site.clock.now → new.notes.left ≡ old.notes.left → Adds old new
adds_none old new same later left = record {
  added = [];
  is = same ∙ sym (append-nil old.engine.history.records);
  later = later;
  moments = All-nil (IsBetween old.site.clock.now new.site.clock.now);
  budget = omega (arith, left);
}

left_of : (old new : World) → new.notes ≡ old.notes → new.notes.left ≡ old.notes.left
left_of old new e = ap (λ (n : Notes). n.left) e

now_of : (old new : SiteView) → new ≡ old → old.clock.now ≤ new.clock.now
now_of old new e = let same = ap (λ (s : SiteView). s.clock.now) e in omega (arith, same)

same_now : (old new : SiteView) → new.clock.now ≡ old.clock.now → old.clock.now ≤ new.clock.now
same_now old new e = omega (arith, e)

-- ---- one record

All-one : {T : Type 0} (P : T → Type 0) (x : T) → P x → All P (x ∷ [])
All-one {T} P x p zero d lt = p
All-one {T} P x p (suc k) d lt = absurd (omega (arith, lt))

adds_tried : (IsNext : Record → Type 0) (old new : World) → ((next : Record) → IsNext next → moment_of next ≡ old.site.clock.now) → 1 ≤ old.notes.left → Tries IsNext old new → Adds old new
adds_tried IsNext old new at budget (done is) =
    let offers = is.appends.adds.offers in
    let next = offers.comes.next in
    let now : new.site.clock.now ≡ old.site.clock.now = ap (λ (c : ClockView). c.now) offers.file.rest.clock in
    let here = at next offers.comes.is in
    let left : new.notes.left ≡ old.notes.left - 1 = ap (λ (n : Notes). n.left) is.notes in
    record {
      added = next ∷ [];
      is = ap (λ (h : HistoryView). h.records) is.appends.adds.view;
      later = same_now old.site new.site now;
      moments = All-one (IsBetween old.site.clock.now new.site.clock.now) next (omega (arith, here), omega (arith, here, now));
      budget = omega (arith, left, budget);
    }
adds_tried IsNext old new at budget (failed is) = adds_none old new (ap (λ (h : HistoryView). h.records) is.refuses.0.1)
    (same_now old.site new.site (ap (λ (c : ClockView). c.now) is.refuses.0.0.file.rest.clock)) (ap (λ (n : Notes). n.left) is.notes)
adds_tried IsNext old new at budget (limited what is) = adds_none old new (ap (λ (h : HistoryView). h.records) is.refuses.0.1) (now_of old.site new.site is.refuses.0.2) (left_of old new is.notes)

acts_now : (old new : World) (beat : ℕ) (parcel : Parcel) (v w : ActuatorView) → ActsOn beat parcel v w old new → old.site.clock.now ≤ new.site.clock.now
acts_now old new beat parcel v w is =
    same_now old.site new.site (is.acts.puts.time.now ∙ ap (λ (c : ClockView). c.now) is.acts.offers.adds.file.rest.clock)

-- a filter that refused counted nothing on the site
pub fails_counts : (v : ActuatorView) (parcel : Parcel) (moment : ℕ) (old new : SiteView) (error : ActError) → MayHaveDone error v parcel moment old new → new.counts ≡ old.counts
fails_counts v parcel moment old new act_error.Disk offers = offers.adds.file.rest.counts
fails_counts v parcel moment old new act_error.Memory may = elim may [ inl e ↦ ap (λ (s : SiteView). s.counts) e | inr offers ↦ offers.adds.file.rest.counts ]
fails_counts v parcel moment old new (act_error.Damaged place) e = ap (λ (s : SiteView). s.counts) e
fails_counts v parcel moment old new (act_error.Full length) e = ap (λ (s : SiteView). s.counts) e
fails_counts v parcel moment old new act_error.Broken e = ap (λ (s : SiteView). s.counts) e

pub fails_clock : (v : ActuatorView) (parcel : Parcel) (moment : ℕ) (old new : SiteView) (error : ActError) → MayHaveDone error v parcel moment old new → new.clock ≡ old.clock
fails_clock v parcel moment old new act_error.Disk offers = offers.adds.file.rest.clock
fails_clock v parcel moment old new act_error.Memory may = elim may [ inl e ↦ ap (λ (s : SiteView). s.clock) e | inr offers ↦ offers.adds.file.rest.clock ]
fails_clock v parcel moment old new (act_error.Damaged place) e = ap (λ (s : SiteView). s.clock) e
fails_clock v parcel moment old new (act_error.Full length) e = ap (λ (s : SiteView). s.clock) e
fails_clock v parcel moment old new act_error.Broken e = ap (λ (s : SiteView). s.clock) e

pub step_adds : (old new : World) → Step old new → Adds old new
step_adds old new (opens_clock answer is) = adds_none old new (records_same old new is.goes.sides.engine) (omega (arith, is.goes.reaches.later, is.goes.reaches.now)) (ap (λ (n : Notes). n.left) is.goes.notes)
step_adds old new (finds_run_used agent is) = adds_none old new (records_same old new is.only.sides.engine) (now_of old.site new.site is.only.site) (left_of old new is.only.notes)
step_adds old new (asks_clock moment answer is) = adds_none old new (records_same old new is.goes.sides.engine) (omega (arith, is.goes.reaches.later, is.goes.reaches.now)) (ap (λ (n : Notes). n.left) is.goes.notes)
step_adds old new (finds_late moment is) = adds_none old new (records_same old new is.only.sides.engine) (now_of old.site new.site is.only.site) (left_of old new is.only.notes)
step_adds old new (begins is) = adds_tried _ old new (begins_now old.engine.history old.site.clock.now) is.budget is.tries
step_adds old new (moves is) = adds_tried _ old new (moves_now old.engine.history old.site.clock.now) is.has_looked.budget is.tries
step_adds old new (upgrades issue told is) = adds_tried _ old new (λ next e. ap moment_of e) is.to_be_told.idle.has_looked.budget is.tries
step_adds old new (tells issue told is) = adds_tried _ old new (λ next e. ap moment_of e) is.to_be_told.idle.has_looked.budget is.tries
step_adds old new (expires issue is) = adds_tried _ old new (λ next e. ap moment_of e) is.overdue.untold.idle.has_looked.budget is.tries
step_adds old new (says bytes is) = adds_none old new (records_same old new is.speaks.sides.engine) (same_now old.site new.site is.speaks.only.time.now) (left_of old new is.speaks.notes)
step_adds old new (fails_to_say bytes is) = adds_none old new (records_same old new is.speaks.sides.engine) (same_now old.site new.site is.speaks.only.time.now) (left_of old new is.speaks.notes)
step_adds old new (puts_first issue is) = adds_none old new (ap (λ (v : EngineView). v.history.records) is.puts.sends.view) (same_now old.site new.site is.puts.sends.put.time.now) (ap (λ (n : Notes). n.left) is.puts.notes)
step_adds old new (resends issue is) = adds_none old new (ap (λ (v : EngineView). v.history.records) is.puts.sends.view) (same_now old.site new.site is.puts.sends.put.time.now) (ap (λ (n : Notes). n.left) is.puts.notes)
step_adds old new (takes parcel is) = adds_none old new (records_same old new is.sides.engine) (same_now old.site new.site is.only.time.now) (left_of old new is.notes)
step_adds old new (finds_none is) = adds_none old new (records_same old new is.sides.engine) (same_now old.site new.site is.only.time.now) (left_of old new is.notes)
step_adds old new (fails_to_take is) = adds_none old new (records_same old new is.sides.engine) (same_now old.site new.site is.only.time.now) (left_of old new is.notes)
step_adds old new (drops beat parcel is) = adds_none old new (records_same old new is.ignores.engine) (now_of old.site new.site is.site) (ap (λ (n : Notes). n.left) is.ignores.notes)
step_adds old new (replies beat parcel is) = adds_tried _ old new (replies_now old.engine.history parcel old.site.clock.now) is.budget is.tries
step_adds old new (ignores_reply beat parcel is) = adds_none old new (records_same old new is.ignores.engine) (now_of old.site new.site is.site) (ap (λ (n : Notes). n.left) is.ignores.notes)
step_adds old new (acts_on beat parcel v w is) = adds_none old new (records_same old new is.engine) (acts_now old new beat parcel v w is) (ap (λ (n : Notes). n.left) is.notes)
step_adds old new (repeats_reply beat parcel v w is) = adds_none old new (records_same old new is.ignores.engine) (same_now old.site new.site is.repeats.puts.time.now) (ap (λ (n : Notes). n.left) is.ignores.notes)
step_adds old new (fails_to_act beat parcel v w error cause is) = adds_none old new (records_same old new is.engine) (same_now old.site new.site (ap (λ (c : ClockView). c.now) (fails_clock v parcel old.site.clock.now old.site new.site error is.refuses.site)))
    (ap (λ (n : Notes). n.left) (fails_notes error parcel v old new is.notes))
step_adds old new (wants_memory_now is) = adds_none old new (records_same old new is.only.sides.engine) (now_of old.site new.site is.only.site) (left_of old new is.only.notes)

within : {T : Type 0} (P Q : T → Type 0) (xs : List T) → ((x : T) → P x → Q x) → All P xs → All Q xs
within P Q xs to all k d lt = to _ (all k d lt)

pub adds-trans : (a b c : World) → Adds a b → Adds b c → Adds a c
adds-trans a b c p q = record {
  added = p.added ++ q.added;
  is = q.is ∙ ap (λ (l : List Record). l ++ q.added) p.is ∙ append_assoc a.engine.history.records p.added q.added;
  later = omega (arith, p.later, q.later);
  moments = All-append (IsBetween a.site.clock.now c.site.clock.now) p.added q.added
      (within (IsBetween a.site.clock.now b.site.clock.now) (IsBetween a.site.clock.now c.site.clock.now) p.added (λ r is. (is.0, omega (arith, is.1, q.later))) p.moments)
      (within (IsBetween b.site.clock.now c.site.clock.now) (IsBetween a.site.clock.now c.site.clock.now) q.added (λ r is. (omega (arith, is.0, p.later), is.1)) q.moments);
  budget = omega (arith, length-append p.added q.added, p.budget, q.budget);
}

pub steps_add : EachAdds
steps_add a b nothing = adds_none a a refl (omega arith) refl
steps_add a b (and_then {mid} steps step) = adds-trans a mid b (steps_add a mid steps) (step_adds mid b step)

-- ---- what was given

given_tried : (IsNext : Record → Type 0) (old new : World) → Tries IsNext old new → SameGiven old new
given_tried IsNext old new (done is) = record {
  run = ap (λ (h : HistoryView). h.seen.run) is.appends.adds.view;
  given = ap (λ (h : HistoryView). h.seen.given) is.appends.adds.view;
  answers = ap (λ (n : Notes). n.answers) is.notes;
}
given_tried IsNext old new (failed is) = record {
  run = ap (λ (h : HistoryView). h.seen.run) is.refuses.0.1;
  given = ap (λ (h : HistoryView). h.seen.given) is.refuses.0.1;
  answers = ap (λ (n : Notes). n.answers) is.notes;
}
given_tried IsNext old new (limited what is) = record {
  run = ap (λ (h : HistoryView). h.seen.run) is.refuses.0.1;
  given = ap (λ (h : HistoryView). h.seen.given) is.refuses.0.1;
  answers = ap (λ (n : Notes). n.answers) is.notes;
}

pub given_same : (old new : World) → new.engine.history.seen ≡ old.engine.history.seen → new.notes.answers ≡ old.notes.answers → SameGiven old new
given_same old new e answers = record { run = ap (λ (s : Shown). s.run) e; given = ap (λ (s : Shown). s.given) e; answers = answers }

seen_of : (v w : EngineView) → w ≡ v → w.history.seen ≡ v.history.seen
seen_of v w e = ap (λ (x : EngineView). x.history.seen) e

pub step_given : (old new : World) → Step old new → SameGiven old new
step_given old new (opens_clock answer is) = given_same old new (seen_of old.engine new.engine is.goes.sides.engine) (ap (λ (n : Notes). n.answers) is.goes.notes)
step_given old new (finds_run_used agent is) = given_same old new (seen_of old.engine new.engine is.only.sides.engine) (ap (λ (n : Notes). n.answers) is.only.notes)
step_given old new (asks_clock moment answer is) = given_same old new (seen_of old.engine new.engine is.goes.sides.engine) (ap (λ (n : Notes). n.answers) is.goes.notes)
step_given old new (finds_late moment is) = given_same old new (seen_of old.engine new.engine is.only.sides.engine) (ap (λ (n : Notes). n.answers) is.only.notes)
step_given old new (begins is) = given_tried _ old new is.tries
step_given old new (moves is) = given_tried _ old new is.tries
step_given old new (upgrades issue told is) = given_tried _ old new is.tries
step_given old new (tells issue told is) = given_tried _ old new is.tries
step_given old new (expires issue is) = given_tried _ old new is.tries
step_given old new (says bytes is) = given_same old new (seen_of old.engine new.engine is.speaks.sides.engine) (ap (λ (n : Notes). n.answers) is.speaks.notes)
step_given old new (fails_to_say bytes is) = given_same old new (seen_of old.engine new.engine is.speaks.sides.engine) (ap (λ (n : Notes). n.answers) is.speaks.notes)
step_given old new (puts_first issue is) = given_same old new (ap (λ (x : EngineView). x.history.seen) is.puts.sends.view) (ap (λ (n : Notes). n.answers) is.puts.notes)
step_given old new (resends issue is) = given_same old new (ap (λ (x : EngineView). x.history.seen) is.puts.sends.view) (ap (λ (n : Notes). n.answers) is.puts.notes)
step_given old new (takes parcel is) = given_same old new (seen_of old.engine new.engine is.sides.engine) (ap (λ (n : Notes). n.answers) is.notes)
step_given old new (finds_none is) = given_same old new (seen_of old.engine new.engine is.sides.engine) (ap (λ (n : Notes). n.answers) is.notes)
step_given old new (fails_to_take is) = given_same old new (seen_of old.engine new.engine is.sides.engine) (ap (λ (n : Notes). n.answers) is.notes)
step_given old new (drops beat parcel is) = given_same old new (seen_of old.engine new.engine is.ignores.engine) (ap (λ (n : Notes). n.answers) is.ignores.notes)
step_given old new (replies beat parcel is) = given_tried _ old new is.tries
step_given old new (ignores_reply beat parcel is) = given_same old new (seen_of old.engine new.engine is.ignores.engine) (ap (λ (n : Notes). n.answers) is.ignores.notes)
step_given old new (acts_on beat parcel v w is) = given_same old new (seen_of old.engine new.engine is.engine) (ap (λ (n : Notes). n.answers) is.notes)
step_given old new (repeats_reply beat parcel v w is) = given_same old new (seen_of old.engine new.engine is.ignores.engine) (ap (λ (n : Notes). n.answers) is.ignores.notes)
step_given old new (fails_to_act beat parcel v w error cause is) = given_same old new (seen_of old.engine new.engine is.engine) (ap (λ (n : Notes). n.answers) (fails_notes error parcel v old new is.notes))
step_given old new (wants_memory_now is) = given_same old new (seen_of old.engine new.engine is.only.sides.engine) (ap (λ (n : Notes). n.answers) is.only.notes)

pub given-trans : (a b c : World) → SameGiven a b → SameGiven b c → SameGiven a c
given-trans a b c p q = record { run = q.run ∙ p.run; given = q.given ∙ p.given; answers = q.answers ∙ p.answers }

pub steps_same_given : EachSameGiven
steps_same_given a b nothing = record { run = refl; given = refl; answers = refl }
steps_same_given a b (and_then {mid} steps step) = given-trans a mid b (steps_same_given a mid steps) (step_given mid b step)
