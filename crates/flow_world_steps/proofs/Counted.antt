-- No issue is put more than nine times.
use Rattle.std.proofs.Common.{◌≡◌, ◌≢◌, inl, inr, ℕ, zero, suc, ◌+◌, ◌≤◌, ◌<◌, Bool, true, false, List, [], ◌∷◌, ◌++◌, length, refl, sym, ◌∙◌, subst, ap, arith}
use Rattle.std.specs.Prelude.{Option, Some, None, nat_eq, nat_lt, slice_get, if◌then◌else◌}
use Rattle.std.specs.Option.{option_map_or}
use Rattle.std.proofs.lemmas.Bool.{false≢true}
use Rattle.std.proofs.lemmas.Option.{none-some}
use Rattle.run_records.specs.declared.record.Record.{Record}
use Rattle.flow_core_rules.specs.Changes.{is_waiting, moment_of}
use Rattle.flow_core_rules.specs.Laws.{ended_by}
use Rattle.flow_core_rules.specs.Runs.{shown_after}
use Rattle.flow_core_rules.specs.State.{Shown}
use Rattle.flow_core_rules.specs.declared.issues.Issue.{Issue}
use Rattle.flow_laws.proofs.Basics.{same_or_not, same_some}
use Rattle.flow_engine.specs.HistoryView.{HistoryView}
use Rattle.flow_engine.specs.EngineView.{EngineView}
use Rattle.flow_engine.specs.OpenIssues.{ArePut, IsNextPut, OpenIssues, count_of, most_puts, puts_of, resend_of, with_put, without_ended}
use Rattle.flow_engine.specs.declared.puts.Puts.{Puts}
use Rattle.flow_world_steps.specs.Appends.{Tries}
use Rattle.flow_world_steps.specs.Appends.Tries.{done, failed, limited}
use Rattle.flow_world_steps.specs.Link.{EachCountsFew, PutsAreCounted}
use Rattle.flow_world_steps.specs.Sides.{IsWhole, times}
use Rattle.flow_world_steps.specs.Steps.{PutsCommand, Step}
use Rattle.flow_world_steps.specs.Steps.Step.{opens_clock, finds_run_used, asks_clock, finds_late, begins, moves, upgrades, tells, expires, says, fails_to_say}
use Rattle.flow_world_steps.specs.Steps.Step.{puts_first, resends, takes, finds_none, fails_to_take, drops, replies, ignores_reply, acts_on, repeats_reply, fails_to_act, wants_memory_now}
use Rattle.flow_world_steps.specs.Steps.Steps.{nothing, and_then}
use Rattle.flow_world_steps.specs.Worlds.{Notes, World}
use Rattle.flow_world_steps.proofs.Issues.{KeepsShown, below, counted_other, counted_same, eq_apart, eq_itself, is_ended, keeps_shown, puts_kept, puts_were}
use Rattle.flow_world_steps.proofs.Put.{times_more}
use Rattle.flow_world_steps.proofs.Failing.{fails_notes}

-- ---- nothing was put, and the engine stays

same : (old new : World) → new.engine.history.seen ≡ old.engine.history.seen → new.engine.puts ≡ old.engine.puts → new.notes.put ≡ old.notes.put → PutsAreCounted old → PutsAreCounted new
same old new seen puts notes is = record {
  few = λ issue. omega (arith, ap (times issue) notes, is.few issue);
  counted = λ issue it there waits.
      let had = is.counted issue it (subst (λ (s : Shown). slice_get s.lists.issues issue ≡ Some it) seen there) waits in
      omega (arith, ap (times issue) notes, ap (λ (o : OpenIssues). count_of o issue) puts, had);
  noted = λ issue. omega (arith, ap (times issue) notes, ap (λ (o : OpenIssues). count_of o issue) puts, is.noted issue);
  later = λ issue past.
      let long : length new.engine.history.seen.lists.issues ≡ length old.engine.history.seen.lists.issues = ap (λ (s : Shown). length s.lists.issues) seen in
      ap (times issue) notes ∙ is.later issue (omega (arith, past, long));
}

pub engine_same : (old new : World) → new.engine ≡ old.engine → new.notes.put ≡ old.notes.put → PutsAreCounted old → PutsAreCounted new
engine_same old new e notes = same old new (ap (λ (v : EngineView). v.history.seen) e) (ap (λ (v : EngineView). v.puts) e) notes

-- ---- a record was appended

-- the count of an issue that was put and isn't ended stays
count_kept : (next : Shown) (puts : OpenIssues) (r : Record) (n : ℕ) → ArePut next (without_ended puts r) → (ended_by r ≡ Some n → ⊥) → count_of puts n ≤ count_of (without_ended puts r) n
count_kept next puts r n are apart = by (puts_of puts n) refl
  where
    by : (o : Option Puts) → puts_of puts n ≡ o → option_map_or (λ (p : Puts). p.count) o 0 ≤ count_of (without_ended puts r) n
    by None e = omega arith
    by (Some p) e =
        let kept = ap (λ (o : Option Puts). option_map_or (λ (q : Puts). q.count) o 0) (puts_kept next puts r n p are e apart) in
        omega (arith, kept)

-- no count is more than it was
count_left : (seen : Shown) (puts : OpenIssues) (r : Record) (n : ℕ) → ArePut seen puts → count_of (without_ended puts r) n ≤ count_of puts n
count_left seen puts r n are = by (puts_of (without_ended puts r) n) refl
  where
    by : (o : Option Puts) → puts_of (without_ended puts r) n ≡ o → option_map_or (λ (p : Puts). p.count) o 0 ≤ count_of puts n
    by None e = omega arith
    by (Some p) e =
        let was = ap (λ (o : Option Puts). option_map_or (λ (q : Puts). q.count) o 0) (puts_were seen puts r n p are e) in
        omega (arith, was)

-- the puts noted stay, and what waits was there and waited, or is new
appended : (old new : World) (r : Record) → ArePut old.engine.history.seen old.engine.puts → KeepsShown old.engine.history.seen new.engine.history.seen r → ArePut new.engine.history.seen new.engine.puts
    → new.engine.puts ≡ without_ended old.engine.puts r → new.notes.put ≡ old.notes.put → PutsAreCounted old → PutsAreCounted new
appended old new r are_old keeps are puts notes is = record {
  few = λ issue. omega (arith, ap (times issue) notes, is.few issue);
  counted = λ issue it there waits. by issue it there waits (slice_get old.engine.history.seen.lists.issues issue) refl;
  noted = λ issue.
      let fewer = count_left old.engine.history.seen old.engine.puts r issue are_old in
      omega (arith, ap (times issue) notes, ap (λ (o : OpenIssues). count_of o issue) puts, fewer, is.noted issue);
  later = λ issue past. ap (times issue) notes ∙ is.later issue (omega (arith, past, keeps.longer));
}
  where
    are_left : ArePut new.engine.history.seen (without_ended old.engine.puts r)
    are_left = subst (λ (o : OpenIssues). ArePut new.engine.history.seen o) puts are

    past_end : (xs : List Issue) (n : ℕ) → slice_get xs n ≡ None → length xs ≤ n
    past_end [] n e = omega arith
    past_end (x ∷ xs) zero e = absurd (none-some x (sym e))
    past_end (x ∷ xs) (suc n) e = let le = past_end xs n e in omega (arith, le)

    by : (issue : ℕ) (it : Issue) → slice_get new.engine.history.seen.lists.issues issue ≡ Some it → is_waiting it.phase ≡ true
        → (o : Option Issue) → slice_get old.engine.history.seen.lists.issues issue ≡ o → times issue new.notes.put ≤ count_of new.engine.puts issue
    by issue it there waits None e =
        let none = is.later issue (past_end old.engine.history.seen.lists.issues issue e) in
        omega (arith, ap (times issue) notes, none)
    by issue it there waits (Some was) e = elim (is_ended (ended_by r) issue) [
      | inl ends ↦ absurd (false≢true (sym (keeps.ended issue was it e ends there) ∙ waits))
      | inr apart ↦
          let same_it : was ≡ it = same_some (sym (keeps.others issue was e apart) ∙ there) in
          let had = is.counted issue was e (ap (λ (x : Issue). is_waiting x.phase) same_it ∙ waits) in
          let kept = count_kept new.engine.history.seen old.engine.puts r issue are_left apart in
          omega (arith, ap (times issue) notes, had, kept, ap (λ (o : OpenIssues). count_of o issue) puts)
    ]

tried : (IsNext : Record → Type 0) (old new : World) → IsWhole old.engine old.site → Tries IsNext old new → PutsAreCounted old → PutsAreCounted new
tried IsNext old new up (done is) =
    let comes = is.appends.adds.offers.comes in
    let seen : new.engine.history.seen ≡ shown_after (moment_of comes.next) comes.edits old.engine.history.seen = ap (λ (h : HistoryView). h.seen) is.appends.adds.view in
    appended old new comes.next up.engine.put (subst (λ (s : Shown). KeepsShown old.engine.history.seen s comes.next) (sym seen) (keeps_shown old.engine.history IsNext up.engine.history comes))
    is.engine.put is.appends.puts (ap (λ (n : Notes). n.put) is.notes)
tried IsNext old new up (failed is) = same old new (ap (λ (h : HistoryView). h.seen) is.refuses.0.1) is.refuses.1 (ap (λ (n : Notes). n.put) is.notes)
tried IsNext old new up (limited what is) = same old new (ap (λ (h : HistoryView). h.seen) is.refuses.0.1) is.refuses.1 (ap (λ (n : Notes). n.put) is.notes)

-- ---- a command was put

-- an issue with a resend left was put less than nine times
resend_left : (p : Puts) (moment : ℕ) → resend_of p ≡ Some moment → p.count < most_puts
resend_left p moment is = by (nat_lt p.count most_puts) refl is
  where
    less : (a b : ℕ) → nat_lt a b ≡ true → a < b
    less a b h = grind arith

    by : (b : Bool) → nat_lt p.count most_puts ≡ b → (if b then Some (p.last + 5_000) else None) ≡ Some moment → p.count < most_puts
    by true e h = less p.count most_puts e
    by false e h = absurd (none-some moment h)

first_count : (puts : OpenIssues) (issue : ℕ) → puts_of puts issue ≡ None → count_of puts issue < most_puts
first_count puts issue e = let zero_is = ap (λ (o : Option Puts). option_map_or (λ (p : Puts). p.count) o 0) e in omega (arith, zero_is)

resend_count : (puts : OpenIssues) (issue moment : ℕ) → IsNextPut puts (Some (moment, issue)) → count_of puts issue < most_puts
resend_count puts issue moment next =
    let p = next.0.0 in
    let is = ap (λ (o : Option Puts). option_map_or (λ (q : Puts). q.count) o 0) next.0.1 in
    omega (arith, is, resend_left p moment next.0.2)

put : (old new : World) (issue : ℕ) → PutsCommand issue old new → count_of old.engine.puts issue < most_puts → PutsAreCounted old → PutsAreCounted new
put old new issue is left was =
    let notes : new.notes.put ≡ old.notes.put ++ issue ∷ [] = ap (λ (n : Notes). n.put) is.notes in
    let puts : new.engine.puts ≡ with_put old.engine.puts issue old.site.clock.now = ap (λ (v : EngineView). v.puts) is.sends.view in
    let seen : new.engine.history.seen ≡ old.engine.history.seen = ap (λ (v : EngineView). v.history.seen) is.sends.view in
    let waiting = is.sends.is_open.waiting in
    let had = was.counted issue is.sends.it waiting.there waiting.waits in
    let now : (i : ℕ) → times i new.notes.put ≡ times i old.notes.put + (if nat_eq issue i then 1 else 0) = λ i. ap (times i) notes ∙ times_more i old.notes.put issue in
    let other : (i : ℕ) → i ≢ issue → times i new.notes.put ≡ times i old.notes.put = λ i ne.
    let no : ◌≡◌ {A = ℕ} (if nat_eq issue i then 1 else 0) 0 = ap (λ (b : Bool). if b then 1 else 0) (eq_apart issue i (λ e. ne (sym e))) in
    omega (arith, now i, no) in
    let itself : ◌≡◌ {A = ℕ} (if nat_eq issue issue then 1 else 0) 1 = ap (λ (b : Bool). if b then 1 else 0) (eq_itself issue) in
    let own : times issue new.notes.put ≤ times issue old.notes.put + 1 = omega (arith, now issue, one_at_most (nat_eq issue issue)) in
    record {
      few = λ i. elim (same_or_not i issue) [
        | inl e ↦ subst (λ (n : ℕ). times n new.notes.put ≤ most_puts) (sym e) (omega (arith, own, had, left))
        | inr ne ↦ omega (arith, other i ne, was.few i)
      ];
      counted = λ i it there waits. elim (same_or_not i issue) [
        | inl e ↦ subst (λ (n : ℕ). times n new.notes.put ≤ count_of new.engine.puts n) (sym e)
            (omega (arith, own, had, ap (λ (o : OpenIssues). count_of o issue) puts, counted_same old.engine.puts issue old.site.clock.now left))
        | inr ne ↦
            let before = was.counted i it (subst (λ (s : Shown). slice_get s.lists.issues i ≡ Some it) seen there) waits in
            omega (arith, other i ne, before, ap (λ (o : OpenIssues). count_of o i) puts, counted_other old.engine.puts issue old.site.clock.now i ne)
      ];
      noted = λ i. elim (same_or_not i issue) [
        | inl e ↦ subst (λ (n : ℕ). count_of new.engine.puts n ≤ times n new.notes.put) (sym e)
            (omega (arith, was.noted issue, now issue, itself, ap (λ (o : OpenIssues). count_of o issue) puts, counted_same old.engine.puts issue old.site.clock.now left))
        | inr ne ↦ omega (arith, other i ne, was.noted i, ap (λ (o : OpenIssues). count_of o i) puts, counted_other old.engine.puts issue old.site.clock.now i ne)
      ];
      later = λ i past.
          let long : length new.engine.history.seen.lists.issues ≡ length old.engine.history.seen.lists.issues = ap (λ (s : Shown). length s.lists.issues) seen in
          let there = below old.engine.history.seen.lists.issues issue is.sends.it waiting.there in
          other i (λ e. absurd (omega (arith, e, past, long, there))) ∙ was.later i (omega (arith, past, long));
    }
  where
    one_at_most : (b : Bool) → (if b then 1 else 0) ≤ 1
    one_at_most true = omega arith
    one_at_most false = omega arith

pub step_counts : (old new : World) → PutsAreCounted old → Step old new → PutsAreCounted new
step_counts old new was (opens_clock answer is) = engine_same old new is.goes.sides.engine (ap (λ (n : Notes). n.put) is.goes.notes) was
step_counts old new was (finds_run_used agent is) = engine_same old new is.only.sides.engine (ap (λ (n : Notes). n.put) is.only.notes) was
step_counts old new was (asks_clock moment answer is) = engine_same old new is.goes.sides.engine (ap (λ (n : Notes). n.put) is.goes.notes) was
step_counts old new was (finds_late moment is) = engine_same old new is.only.sides.engine (ap (λ (n : Notes). n.put) is.only.notes) was
step_counts old new was (begins is) = tried _ old new is.whole is.tries was
step_counts old new was (moves is) = tried _ old new is.has_looked.up.has_file is.tries was
step_counts old new was (upgrades issue told is) = tried _ old new is.to_be_told.idle.has_looked.up.has_file is.tries was
step_counts old new was (tells issue told is) = tried _ old new is.to_be_told.idle.has_looked.up.has_file is.tries was
step_counts old new was (expires issue is) = tried _ old new is.overdue.untold.idle.has_looked.up.has_file is.tries was
step_counts old new was (says bytes is) = engine_same old new is.speaks.sides.engine (ap (λ (n : Notes). n.put) is.speaks.notes) was
step_counts old new was (fails_to_say bytes is) = engine_same old new is.speaks.sides.engine (ap (λ (n : Notes). n.put) is.speaks.notes) was
step_counts old new was (puts_first issue is) = put old new issue is.puts (first_count old.engine.puts issue is.first) was
step_counts old new was (resends issue is) = put old new issue is.puts (resend_count old.engine.puts issue is.due.moment is.due.next) was
step_counts old new was (takes parcel is) = engine_same old new is.sides.engine (ap (λ (n : Notes). n.put) is.notes) was
step_counts old new was (finds_none is) = engine_same old new is.sides.engine (ap (λ (n : Notes). n.put) is.notes) was
step_counts old new was (fails_to_take is) = engine_same old new is.sides.engine (ap (λ (n : Notes). n.put) is.notes) was
step_counts old new was (drops beat parcel is) = engine_same old new is.ignores.engine (ap (λ (n : Notes). n.put) is.ignores.notes) was
step_counts old new was (replies beat parcel is) = tried _ old new is.up.has_file is.tries was
step_counts old new was (ignores_reply beat parcel is) = engine_same old new is.ignores.engine (ap (λ (n : Notes). n.put) is.ignores.notes) was
step_counts old new was (acts_on beat parcel v w is) = engine_same old new is.engine (ap (λ (n : Notes). n.put) is.notes) was
step_counts old new was (repeats_reply beat parcel v w is) = engine_same old new is.ignores.engine (ap (λ (n : Notes). n.put) is.ignores.notes) was
step_counts old new was (fails_to_act beat parcel v w error cause is) = engine_same old new is.engine (ap (λ (n : Notes). n.put) (fails_notes error parcel v old new is.notes)) was
step_counts old new was (wants_memory_now is) = engine_same old new is.only.sides.engine (ap (λ (n : Notes). n.put) is.only.notes) was

pub steps_count_few : EachCountsFew
steps_count_few a b is nothing = is
steps_count_few a b is (and_then {mid} steps step) = step_counts mid b (steps_count_few a mid is steps) step
