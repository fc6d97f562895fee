-- What a call of a fleet does to the journals of its runs and to the lines.
use Rattle.std.proofs.Common.{◌≡◌, ℕ, ◌+◌, ◌-◌, ◌≤◌, Bool, true, false, List, [], ◌∷◌, ◌++◌, refl, sym, ◌∙◌, subst, ap, arith}
use Rattle.std.specs.Prelude.{Option, Some, None, Contains, IfSome, IsSome, nat_le, nat_lt, option_and_then, option_map, slice_get, slice_set, if◌then◌else◌}
use Rattle.std.proofs.lemmas.List.Elements.{Contains-push}
use Rattle.base_dues.specs.Pairs.{is_by}
use Rattle.cacao_site.specs.LinkCalls.{Gains}
use Rattle.cacao_site.specs.View.{LinkView, SiteView}
use Rattle.cacao_site.specs.declared.parcel.Parcel.{Parcel}
use Rattle.run_records.specs.Ranges.{last_moment}
use Rattle.run_records.specs.declared.record.Record.{Record}
use Rattle.run_records.specs.declared.record.Record.TheVariants as entry
use Rattle.flow_core.specs.declared.flow_errors.LimitKind.TheVariants as limit
use Rattle.flow_core_rules.specs.Changes.{moment_of}
use Rattle.flow_core_rules.specs.Moves.{deadline_of, record_of}
use Rattle.flow_core_rules.specs.declared.issues.Issue.{Issue}
use Rattle.flow_core_rules.specs.declared.moves.Move.{Move}
use Rattle.flow_core_rules.specs.declared.moves.Move.TheVariants as move
use Rattle.flow_laws.proofs.Basics.{same_some}
use Rattle.flow_engine_history.specs.HistoryView.{HistoryView}
use Rattle.flow_engine.specs.EngineCalls.{IsBeginning, IsMove, IsReply, put_deadline}
use Rattle.flow_engine.specs.EngineView.{EngineView}
use Rattle.flow_engine.specs.OpenIssues.{puts_of}
use Rattle.flow_engine.specs.declared.puts.Puts.{Puts}
use Rattle.flow_world_steps.specs.Appends.{Tries}
use Rattle.flow_world_steps.specs.Appends.Tries.{done, failed, limited}
use Rattle.flow_world_steps.specs.Ready.{FoundNone}
use Rattle.flow_world_steps.specs.Steps.{after_reach}
use Rattle.flow_world_steps.specs.Sums.{owed_lines}
use Rattle.flow_world_steps.specs.Worlds.{Cause, Notes, Phase, holds, looked, owes, past, refused, rests, waits}
use Rattle.flow_world_steps.proofs.Adding.{begins_now, moves_now, of_option, replies_now}
use Rattle.flow_world_steps.proofs.Failing.{fails_notes}
use Rattle.flow_world_steps.proofs.Handling.{get_set_same}
use Rattle.flow_world_steps.proofs.Issues.{is_put_of}
use Rattle.flow_world_steps.proofs.Spoken.{fails_said}
use Rattle.flow_fleet_steps.specs.Steps.{BeginsAt, ExpiresAt, FindsNone, FleetStep, MovesAt, RepliesAt, SaysAt}
use Rattle.flow_fleet_steps.specs.Steps.FleetStep.{opens_clock, finds_run_used, asks_clock, finds_late, begins, moves, expires, says, fails_to_say, puts_first, resends}
use Rattle.flow_fleet_steps.specs.Steps.FleetStep.{takes, finds_none, fails_to_take, drops, replies, ignores_reply, acts_on, repeats_reply, fails_to_act, wants_memory_now}
use Rattle.flow_fleet_steps.specs.Worlds.{FleetWorld, Own, Shared, part}
use Rattle.flow_fleet_runs.specs.Came.{ShowsWhy, WasEnabled, WasOverdue}

-- one record more stands in the journal at a place, and its line is owed
pub record OneMore (place : ℕ) (r : Record) (old new : FleetWorld) : Type 0 where
  pub v : EngineView
  pub w : EngineView
  pub there : slice_get old.engines place ≡ Some v
  pub here : slice_get new.engines place ≡ Some w
  pub has : w.history.records ≡ v.history.records ++ r ∷ []
  pub moment : moment_of r ≡ old.site.clock.now
  pub why : ShowsWhy r place v old
  pub left : new.notes.left + 1 ≡ old.notes.left
  pub said : new.site.link.said ≡ old.site.link.said
  pub free : owed_lines old.phase ≡ 0
  pub owed : new.phase ≡ owes
  pub place_is : new.place ≡ place

-- no record more, and no line was said
pub record NoMore (old new : FleetWorld) : Type 0 where
  pub left : new.notes.left ≡ old.notes.left
  pub said : new.site.link.said ≡ old.site.link.said
  pub owed : owed_lines new.phase ≡ owed_lines old.phase
  pub other : new.phase ≡ owes → ⊥
  pub looks : new.phase ≡ looked → FoundNone new.site new.site.clock.now

pub data Did (old new : FleetWorld) : Type 0 where
  one_more : (place : ℕ) (r : Record) → OneMore place r old new → Did old new
  no_more : NoMore old new → Did old new
  one_line : (place : ℕ) (v : EngineView) (bytes : List ℕ) → SaysAt place v bytes old new → Did old new

-- ---- why a record came

shows_move : (v : EngineView) (old : FleetWorld) (place now : ℕ) (m : Move) (next : Record) → record_of v.history.seen now m ≡ Some next → WasEnabled next place v old → ShowsWhy next place v old
shows_move v old place now (move.Walk t) next e = subst (λ (r : Record). WasEnabled r place v old → ShowsWhy r place v old) (same_some e) (λ w. w)
shows_move v old place now (move.Send t) next e = of_option _ _ (λ (r : Record). WasEnabled r place v old → ShowsWhy r place v old) next (λ x w. w) e
shows_move v old place now (move.Ask t) next e = of_option _ _ (λ (r : Record). WasEnabled r place v old → ShowsWhy r place v old) next (λ x w. w) e
shows_move v old place now move.Upgrade next e = subst (λ (r : Record). WasEnabled r place v old → ShowsWhy r place v old) (same_some e) (λ w. w)

by_le : (m now : ℕ) → nat_le m now ≡ true → m ≤ now
by_le m now h = grind arith

-- an issue was put, and its deadline has come
record HasPassed (v : EngineView) (now issue : ℕ) : Type 0 where
  puts : Puts
  put : puts_of v.puts issue ≡ Some puts
  it : Issue
  there : slice_get v.history.seen.lists.issues issue ≡ Some it
  past : deadline_of v.history.seen it ≤ now

has_passed : (v : EngineView) (now issue : ℕ) → is_by now (put_deadline v issue) ≡ true → HasPassed v now issue
has_passed v now issue is = by (puts_of v.puts issue) refl is
  where
    some : (p : Puts) → puts_of v.puts issue ≡ Some p → (o : Option Issue) → slice_get v.history.seen.lists.issues issue ≡ o → is_by now (option_map (deadline_of v.history.seen) o) ≡ true → HasPassed v now issue
    some p put None there e = absurd (cc)
    some p put (Some it) there e = record { puts = p; put = put; it = it; there = there; past = by_le (deadline_of v.history.seen it) now e }

    by : (o : Option Puts) → puts_of v.puts issue ≡ o
        → is_by now (option_and_then (λ puts. option_map (deadline_of v.history.seen) (slice_get v.history.seen.lists.issues issue)) o) ≡ true → HasPassed v now issue
    by None put e = absurd (cc)
    by (Some p) put e = some p put (slice_get v.history.seen.lists.issues issue) refl e

some_is : {A : Type 0} (o : Option A) (x : A) → o ≡ Some x → IsSome o
some_is o x e = cc

overdue : (place issue : ℕ) (old new : FleetWorld) (is : ExpiresAt place issue old new) → WasOverdue issue place is.does.v old
overdue place issue old new is =
    let v = is.does.v in
    let passed = has_passed v old.site.clock.now issue is.does.does.overdue.first.0 in
    let put = is_put_of v.history.seen v.puts issue passed.puts is.does.does.overdue.untold.idle.has_looked.up.has_file.engine.put passed.put in
    let one : put.issue ≡ passed.it = same_some (sym put.there ∙ passed.there) in
    record {
      idle = is.idle;
      it = put.issue;
      waiting = record { there = put.there; waits = put.waits; of_filter = put.of_filter };
      put = some_is (puts_of v.puts issue) passed.puts passed.put;
      past = subst (λ (x : Issue). deadline_of v.history.seen x ≤ old.site.clock.now) (sym one) passed.past;
      least = is.does.does.overdue.first.1;
      lower = is.lower;
    }

pub why_begins : (place : ℕ) (old new : FleetWorld) (is : BeginsAt place old new) (next : Record) → IsBeginning is.does.v.history old.site.clock.now next → ShowsWhy next place is.does.v old
why_begins place old new is next first = subst (λ (r : Record). ShowsWhy r place is.does.v old) (sym first.is) (record {
  phase = is.does.does.phase;
  settled = is.settled;
  is = record { empty = first.empty; is = refl };
})

pub why_moves : (place : ℕ) (old new : FleetWorld) (is : MovesAt place old new) (next : Record) → IsMove is.does.v.history old.site.clock.now next → ShowsWhy next place is.does.v old
why_moves place old new is next one =
    shows_move is.does.v old place old.site.clock.now one.move next one.is (record { has_looked = is.has_looked; turn = is.turn_of; move = one })

pub why_expires : (place issue : ℕ) (old new : FleetWorld) (is : ExpiresAt place issue old new) (next : Record) → next ≡ entry.Expire issue old.site.clock.now → ShowsWhy next place is.does.v old
why_expires place issue old new is next e = subst (λ (r : Record). ShowsWhy r place is.does.v old) (sym e) (overdue place issue old new is)

pub why_replies : (beat : ℕ) (parcel : Parcel) (place : ℕ) (old new : FleetWorld) (is : RepliesAt beat parcel place old new) (next : Record) → IsReply is.does.v.history parcel old.site.clock.now next
    → ShowsWhy next place is.does.v old
why_replies beat parcel place old new is next reply = subst (λ (r : Record). ShowsWhy r place is.does.v old) (sym reply.is) (record {
  beat = beat;
  parcel = parcel;
  in_hand = is.does.does.holds_reply.phase;
  is = record { read = reply.read; to = reply.to; is = refl };
})

-- ---- no record more

link_of : (old new : LinkView) → new ≡ old → new.said ≡ old.said
link_of old new e = ap (λ (l : LinkView). l.said) e

said_of : (old new : SiteView) → new ≡ old → new.link.said ≡ old.link.said
said_of old new e = ap (λ (s : SiteView). s.link.said) e

left_of : (old new : Shared) → new ≡ old → new.left ≡ old.left
left_of old new e = ap (λ (n : Shared). n.left) e

-- a phase that is neither
record IsNeither (q : Phase) : Type 0 where
  owes : q ≡ owes → ⊥
  looked : q ≡ looked → ⊥

none : (old new : FleetWorld) (p q : Phase) → old.phase ≡ p → new.phase ≡ q → owed_lines q ≡ owed_lines p → IsNeither q → new.notes.left ≡ old.notes.left → new.site.link.said ≡ old.site.link.said → NoMore old new
none old new p q was is owed other left said = record {
  left = left;
  said = said;
  owed = ap owed_lines is ∙ owed ∙ sym (ap owed_lines was);
  other = λ e. other.owes (sym is ∙ e);
  looks = λ e. absurd (other.looked (sym is ∙ e));
}

rests_not : IsNeither rests
rests_not = record { owes = λ e. cc; looked = λ e. cc }

holds_not : (beat : ℕ) (parcel : Parcel) → IsNeither (holds beat parcel)
holds_not beat parcel = record { owes = λ e. cc; looked = λ e. cc }

refused_not : (cause : Cause) (lacks : Bool) → IsNeither (refused cause lacks)
refused_not cause lacks = record { owes = λ e. cc; looked = λ e. cc }

waits_not : (due : ℕ) → IsNeither (waits due)
waits_not due = record { owes = λ e. cc; looked = λ e. cc }

reached_not : (moment answer : ℕ) → IsNeither (after_reach moment answer)
reached_not moment answer = by (nat_lt last_moment answer) (nat_lt answer moment)
  where
    by : (a b : Bool) → IsNeither (if a then refused (past limit.Moment) false else if b then waits moment else rests)
    by true b = refused_not (past limit.Moment) false
    by false true = waits_not moment
    by false false = rests_not

reached_free : (moment answer : ℕ) → owed_lines (after_reach moment answer) ≡ 0
reached_free moment answer = by (nat_lt last_moment answer) (nat_lt answer moment)
  where
    by : (a b : Bool) → owed_lines (if a then refused (past limit.Moment) false else if b then waits moment else rests) ≡ 0
    by true b = refl
    by false true = refl
    by false false = refl

-- ---- a take that found none

looked_not : looked ≡ owes → ⊥
looked_not e = cc

gained : (old new : Option (List ℕ)) (moment : ℕ) → Gains old moment new → IfSome new (λ moments. Contains moments moment)
gained (Some old) (Some new) moment is = subst (λ (l : List ℕ). Contains l moment) (sym is) (Contains-push old moment)
gained (Some old) None moment is = absurd is
gained None (Some new) moment is = absurd is
gained None None moment is = tt

found : (old new : FleetWorld) → FindsNone old new → FoundNone new.site new.site.clock.now
found old new is = record {
  has = gained old.site.link.empty_takes new.site.link.empty_takes new.site.clock.now is.none.empty_takes;
  none = subst (λ (o : Option (List Parcel)). IfSome o (λ pending. pending ≡ [])) (sym is.none.pending) is.none.none;
}

-- ---- one call

tried : (IsNext : Record → Type 0) (place : ℕ) (old new : FleetWorld) (v w : EngineView) (own : Own) (p : Phase) → slice_get old.engines place ≡ Some v → new.engines ≡ slice_set old.engines place w → new.place ≡ place
    → old.phase ≡ p → owed_lines p ≡ 0 → 1 ≤ old.notes.left → ((next : Record) → IsNext next → moment_of next ≡ old.site.clock.now) → ((next : Record) → IsNext next → ShowsWhy next place v old)
    → Tries IsNext (part place v (old.own place) old) (part place w own new) → Did old new
tried IsNext place old new v w own p there engines place_is was free budget at why (done is) =
    let offers = is.appends.adds.offers in
    let next = offers.comes.next in
    let left : new.notes.left ≡ old.notes.left - 1 = ap (λ (n : Notes). n.left) is.notes in
    one_more place next (record {
      v = v;
      w = w;
      there = there;
      here = subst (λ (l : List EngineView). slice_get l place ≡ Some w) (sym engines) (get_set_same old.engines place v w there);
      has = ap (λ (h : HistoryView). h.records) is.appends.adds.view;
      moment = at next offers.comes.is;
      why = why next offers.comes.is;
      left = omega (arith, left, budget);
      said = link_of old.site.link new.site.link offers.file.rest.link;
      free = ap owed_lines was ∙ free;
      owed = is.phase;
      place_is = place_is;
    })
tried IsNext place old new v w own p there engines place_is was free budget at why (failed is) =
    no_more (none old new p _ was is.phase (sym free) (refused_not _ false) (ap (λ (n : Notes). n.left) is.notes) (link_of old.site.link new.site.link is.refuses.0.0.file.rest.link))
tried IsNext place old new v w own p there engines place_is was free budget at why (limited what is) =
    no_more (none old new p _ was is.phase (sym free) (refused_not _ false) (ap (λ (n : Notes). n.left) is.notes) (ap (λ (s : SiteView). s.link.said) is.refuses.0.2))

pub did : (old new : FleetWorld) → FleetStep old new → Did old new
did old new (opens_clock answer is) = no_more (none old new _ _ is.phase is.goes.phase (reached_free _ answer) (reached_not _ answer) (ap (λ (n : Shared). n.left) is.goes.notes) is.goes.reaches.said)
did old new (finds_run_used place agent is) = no_more (none old new _ _ is.phase is.only.phase refl (refused_not _ false) (left_of old.notes new.notes is.only.notes) (said_of old.site new.site is.only.site))
did old new (asks_clock moment answer is) = no_more (none old new _ _ is.next.up_to_date.on_time.idle.has_looked.phase is.goes.phase (reached_free moment answer) (reached_not moment answer) (ap (λ (n : Shared). n.left) is.goes.notes) is.goes.reaches.said)
did old new (finds_late moment is) = no_more (none old new _ _ is.next.up_to_date.on_time.idle.has_looked.phase is.only.phase refl (refused_not _ false) (left_of old.notes new.notes is.only.notes) (said_of old.site new.site is.only.site))
did old new (begins place is) = tried _ place old new is.does.v is.does.w is.does.own _ is.does.there is.does.engines is.does.place_is is.does.does.phase refl is.does.does.budget
    (begins_now is.does.v.history old.site.clock.now) (why_begins place old new is) is.does.does.tries
did old new (moves place is) = tried _ place old new is.does.v is.does.w is.does.own _ is.does.there is.does.engines is.does.place_is is.has_looked.phase refl is.has_looked.budget
    (moves_now is.does.v.history old.site.clock.now) (why_moves place old new is) is.does.does.tries
did old new (expires place issue is) = tried _ place old new is.does.v is.does.w is.does.own _ is.does.there is.does.engines is.does.place_is is.idle.has_looked.phase refl is.idle.has_looked.budget
    (λ next e. ap moment_of e) (why_expires place issue old new is) is.does.does.tries
did old new (says place v bytes is) = one_line place v bytes is
did old new (fails_to_say place v bytes is) = no_more (none old new _ _ is.speaks.phase is.phase refl (refused_not _ true) (left_of old.notes new.notes is.speaks.notes) is.unsaid)
did old new (puts_first place issue is) = no_more (none old new _ _ is.does.does.phase is.does.does.puts.phase refl rests_not (ap (λ (n : Notes). n.left) is.does.does.puts.notes) is.does.does.puts.sends.put.said)
did old new (resends place issue is) = no_more (none old new _ _ is.on_time.idle.has_looked.phase is.does.does.puts.phase refl rests_not (ap (λ (n : Notes). n.left) is.does.does.puts.notes) is.does.does.puts.sends.put.said)
did old new (takes parcel is) = no_more (none old new _ _ is.turn.phase is.phase refl (holds_not _ parcel) (left_of old.notes new.notes is.notes) is.only.said)
did old new (finds_none is) = no_more (record {
  left = left_of old.notes new.notes is.notes;
  said = is.only.said;
  owed = ap owed_lines is.phase ∙ sym (ap owed_lines is.turn.phase);
  other = λ e. looked_not (sym is.phase ∙ e);
  looks = λ e. found old new is;
})
did old new (fails_to_take is) = no_more (none old new _ _ is.turn.phase is.phase refl (refused_not _ false) (left_of old.notes new.notes is.notes) is.only.said)
did old new (drops beat parcel is) = no_more (none old new _ _ is.phase is.ignores.phase refl rests_not (ap (λ (n : Shared). n.left) is.ignores.notes) (said_of old.site new.site is.site))
did old new (replies beat parcel place is) = tried _ place old new is.does.v is.does.w is.does.own _ is.does.there is.does.engines is.does.place_is is.does.does.holds_reply.phase refl is.does.does.budget
    (replies_now is.does.v.history parcel old.site.clock.now) (why_replies beat parcel place old new is) is.does.does.tries
did old new (ignores_reply beat parcel is) = no_more (none old new _ _ is.holds_reply.phase is.ignores.phase refl rests_not (ap (λ (n : Shared). n.left) is.ignores.notes) (said_of old.site new.site is.site))
did old new (acts_on beat parcel v w is) = no_more (none old new _ _ is.does.holds_command.phase is.does.phase refl rests_not (ap (λ (n : Notes). n.left) is.does.notes)
    (is.does.acts.puts.said ∙ link_of old.site.link is.does.acts.between.link is.does.acts.offers.adds.file.rest.link))
did old new (repeats_reply beat parcel v w is) = no_more (none old new _ _ is.does.holds_command.phase is.does.ignores.phase refl rests_not (ap (λ (n : Notes). n.left) is.does.ignores.notes) is.does.repeats.puts.said)
did old new (fails_to_act beat parcel v w error cause is) = no_more (none old new _ _ is.does.holds_command.phase is.does.phase refl (refused_not cause false)
    (ap (λ (n : Notes). n.left) (fails_notes error parcel v _ _ is.does.notes)) (link_of old.site.link new.site.link (fails_said v parcel old.site.clock.now _ _ error is.does.refuses.site)))
did old new (wants_memory_now is) = no_more (record {
  left = left_of old.notes new.notes is.only.notes;
  said = said_of old.site new.site is.only.site;
  owed = ap owed_lines is.only.phase;
  other = λ e. (refused_not _ _).owes (sym is.only.phase ∙ e);
  looks = λ e. absurd ((refused_not _ _).looked (sym is.only.phase ∙ e));
})
