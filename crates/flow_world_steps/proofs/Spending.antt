-- Each step of a session that goes on makes progress.
use Rattle.std.proofs.Common.{◌≡◌, ℕ, zero, suc, ◌+◌, ◌-◌, ◌≤◌, ◌<◌, Bool, true, false, cond, List, [], ◌∷◌, length, get_or, refl, ◌∙◌, subst, ap, arith, length-append}
use Rattle.std.specs.Prelude.{Option, Some, None, min, nat_eq, nat_lt, position, slice_get, slice_set, sum_by, swap_remove, if◌then◌else◌}
use Rattle.std.specs.Map.{keys_of, lookup}
use Rattle.std.specs.Option.{option_map_or}
use Rattle.std.proofs.lemmas.List.Quantifiers.{position-Some}
use Rattle.std.proofs.lemmas.List.Sums.{sum_by-cons, sum_by-swap_remove}
use Rattle.std.proofs.lemmas.Map.Entries.{length-keys_of}
use Rattle.std.proofs.lemmas.Option.{none-some}
use Rattle.indexmap.specs.IndexMap.{insert_entry, swap_remove_entry}
use Rattle.cacao_site.specs.View.{ClockView, SiteView}
use Rattle.cacao_site.specs.declared.parcel.Parcel.{Parcel}
use Rattle.run_records.specs.Ranges.{last_moment}
use Rattle.run_records.specs.declared.record.Record.{Record}
use Rattle.flow_core_rules.specs.Laws.{ended_by}
use Rattle.flow_core_rules.specs.State.{Shown}
use Rattle.flow_engine.specs.LimitKind.TheVariants as limit
use Rattle.flow_engine.specs.SetupLaws.{AcceptedIsRunnable}
use Rattle.flow_laws.proofs.Basics.{same_some}
use Rattle.flow_engine.specs.HistoryView.{HistoryView}
use Rattle.flow_engine.specs.EngineView.{EngineView}
use Rattle.flow_engine.specs.OpenIssues.{ArePut, IsNextPut, OpenIssues, count_of, most_puts, puts_of, resend_of, with_put, without_ended}
use Rattle.flow_engine.specs.declared.puts.Puts.{Puts}
use Rattle.slpf_actuator.specs.ActuatorView.{ActuatorView, act_for}
use Rattle.flow_world_steps.specs.Appends.{Tries}
use Rattle.flow_world_steps.specs.Appends.Tries.{done, failed, limited}
use Rattle.flow_world_steps.specs.Spent.{EachSpends, StepSpends, all_acts, all_counts, place, progress, spent}
use Rattle.flow_world_steps.specs.Stands.{AllPutWhileLooked, InTime}
use Rattle.flow_world_steps.specs.Steps.{ActsOn, GoesTowards, Ignores, PutsCommand, Steps, after_reach}
use Rattle.flow_world_steps.specs.Steps.Step.{opens_clock, finds_run_used, asks_clock, finds_late, begins, moves, upgrades, tells, expires, says, fails_to_say}
use Rattle.flow_world_steps.specs.Steps.Step.{puts_first, resends, takes, finds_none, fails_to_take, drops, replies, ignores_reply, acts_on, repeats_reply, fails_to_act, wants_memory_now}
use Rattle.flow_world_steps.specs.Steps.Steps.{nothing, and_then}
use Rattle.flow_world_steps.specs.Sums.{total}
use Rattle.flow_world_steps.specs.Worlds.{IsGoing, Notes, Phase, World, opened, rests, looked, owes, holds, waits, refused, past}
use Rattle.flow_world_steps.proofs.DueLater.{next_past_now}
use Rattle.flow_world_steps.proofs.PutWhile.{steps_all_put}
use Rattle.flow_world_steps.proofs.Standing.{step_going, stopped}
use Rattle.flow_world_steps.proofs.Timely.{goes_reached, steps_in_time}

-- ---- sums over lists

total_sum : {T : Type 0} (f : T → ℕ) (xs : List T) → total f xs ≡ sum_by f xs
total_sum f [] = refl
total_sum f (x ∷ xs) = let rest = total_sum f xs in omega (arith, rest, sum_by-cons f x xs)

total_set : {T : Type 0} (f : T → ℕ) (xs : List T) (k : ℕ) (y x : T) → slice_get xs k ≡ Some x → total f (slice_set xs k y) + f x ≡ total f xs + f y
total_set f [] zero y x e = absurd (none-some x e)
total_set f [] (suc k) y x e = absurd (none-some x e)
total_set f (z ∷ xs) zero y x e = let same = ap f (same_some e) in omega (arith, same)
total_set f (z ∷ xs) (suc k) y x e = let rest = total_set f xs k y x e in omega (arith, rest)

-- ---- what the issues that were put weigh

-- an entry that is taken out weighs nine at most
taken_out : (seen : Shown) (puts : OpenIssues) (m : ℕ) → ArePut seen puts → all_counts puts ≤ all_counts (swap_remove_entry (nat_eq m) puts) + 9
taken_out seen [] m are = omega arith
taken_out seen (e ∷ es) m are = by (position (nat_eq m) (keys_of (e ∷ es))) refl
  where
    f : ℕ × Puts → ℕ
    f put = (put.1).count

    by : (o : Option ℕ) → position (nat_eq m) (keys_of (e ∷ es)) ≡ o → total f (e ∷ es) ≤ total f (option_map_or (λ i. swap_remove (e ∷ es) i e) o (e ∷ es)) + 9
    by None h = omega arith
    by (Some i) h =
        let found = position-Some (nat_eq m) (keys_of (e ∷ es)) i e.0 h in
        let many_keys : length (keys_of (e ∷ es)) ≡ length (e ∷ es) = length-keys_of (e ∷ es) in
        let within : i < length (e ∷ es) = omega (arith, found.0, many_keys) in
        let few : f (get_or (e ∷ es) i e) ≤ 9 = (are.each i e within).few in
        let sum = sum_by-swap_remove f (e ∷ es) i e within in
        omega (arith, few, sum, total_sum f (e ∷ es), total_sum f (swap_remove (e ∷ es) i e))

-- a record takes nine at most
pub counts_left : (seen : Shown) (puts : OpenIssues) (r : Record) → ArePut seen puts → all_counts puts ≤ all_counts (without_ended puts r) + 9
counts_left seen puts r are = by (ended_by r)
  where
    by : (o : Option ℕ) → all_counts puts ≤ all_counts (option_map_or (λ issue. swap_remove_entry (nat_eq issue) puts) o puts) + 9
    by None = omega arith
    by (Some m) = taken_out seen puts m are

total_put : (es : OpenIssues) (k : ℕ) (p : Puts) → all_counts (insert_entry nat_eq es k p) + count_of es k ≡ all_counts es + p.count
total_put [] k p = omega arith
total_put (e ∷ es) k p = by (nat_eq k e.0) (total_put es k p)
  where
    by : (b : Bool) → all_counts (insert_entry nat_eq es k p) + count_of es k ≡ all_counts es + p.count
        → all_counts (cond b ((e.0, p) ∷ es) (e ∷ insert_entry nat_eq es k p)) + option_map_or (λ (q : Puts). q.count) (cond b (Some e.1) (lookup (nat_eq k) es)) 0 ≡ all_counts (e ∷ es) + p.count
    by true rest = omega arith
    by false rest = omega (arith, rest)

-- a put adds one, where the issue was put less than nine times
pub counts_put : (puts : OpenIssues) (issue moment : ℕ) → count_of puts issue < most_puts → all_counts (with_put puts issue moment) ≡ all_counts puts + 1
counts_put puts issue moment left =
    let sum = total_put puts issue (record { last = moment; count = min most_puts (count_of puts issue + 1) }) in
    omega (arith, sum, left)

-- an issue with a resend left was put less than nine times
resend_left : (p : Puts) (moment : ℕ) → resend_of p ≡ Some moment → p.count < most_puts
resend_left p moment is = by (nat_lt p.count most_puts) refl is
  where
    less : (a b : ℕ) → nat_lt a b ≡ true → a < b
    less a b h = grind arith

    by : (b : Bool) → nat_lt p.count most_puts ≡ b → (if b then Some (p.last + 5_000) else None) ≡ Some moment → p.count < most_puts
    by true e h = less p.count most_puts e
    by false e h = absurd (none-some moment h)

pub first_count : (puts : OpenIssues) (issue : ℕ) → puts_of puts issue ≡ None → count_of puts issue < most_puts
first_count puts issue e = let none = ap (λ (o : Option Puts). option_map_or (λ (p : Puts). p.count) o 0) e in omega (arith, none)

pub resend_count : (puts : OpenIssues) (issue moment : ℕ) → IsNextPut puts (Some (moment, issue)) → count_of puts issue < most_puts
resend_count puts issue moment next =
    let is = ap (λ (o : Option Puts). option_map_or (λ (q : Puts). q.count) o 0) next.0.1 in
    omega (arith, is, resend_left next.0.0 moment next.0.2)

-- ---- progress

pub place_at_most : (p : Phase) → place p ≤ 2
place_at_most opened = omega arith
place_at_most rests = omega arith
place_at_most looked = omega arith
place_at_most owes = omega arith
place_at_most (holds beat parcel) = omega arith
place_at_most (waits due) = omega arith
place_at_most (refused cause lacks) = omega arith

-- what is spent by so much more is progress, wherever a turn stands
more_spent : (old new : World) → spent old + 1 ≤ spent new → progress old < progress new
more_spent old new more = omega (arith, more, place_at_most old.phase)

-- and so is a later place
further : (old new : World) (p q : Phase) → old.phase ≡ p → new.phase ≡ q → spent old ≤ spent new → place p < place q → progress old < progress new
further old new p q was is no_less lt = omega (arith, ap place was, ap place is, no_less, lt)

-- the engine, the filters and the count stay
sides_spend : (old new : World) → new.engine ≡ old.engine → new.filters ≡ old.filters → new.notes.ignored ≡ old.notes.ignored → (k : ℕ) → old.site.clock.now + k ≤ new.site.clock.now
    → spent old + k ≤ spent new
sides_spend old new engine filters ignored k later =
    let records = ap (λ (v : EngineView). length v.history.records) engine in
    let counts = ap (λ (v : EngineView). all_counts v.puts) engine in
    let acts = ap all_acts filters in
    omega (arith, records, counts, acts, ignored, later)

same_now : (old new : World) → new.site.clock.now ≡ old.site.clock.now → old.site.clock.now + 0 ≤ new.site.clock.now
same_now old new e = omega (arith, e)

stays : (old new : World) → new.engine ≡ old.engine → new.filters ≡ old.filters → new.notes ≡ old.notes → new.site.clock.now ≡ old.site.clock.now → spent old ≤ spent new
stays old new engine filters notes now = let more = sides_spend old new engine filters (ap (λ (n : Notes). n.ignored) notes) 0 (same_now old new now) in omega (arith, more)

went : (moment answer : ℕ) (old new : World) → GoesTowards moment answer old new → (k : ℕ) → old.site.clock.now + k ≤ answer → spent old + k ≤ spent new
went moment answer old new is k later = sides_spend old new is.sides.engine is.sides.filters (ap (λ (n : Notes). n.ignored) is.notes) k (omega (arith, later, is.reaches.now))

-- the clock's answer after which a session goes on leads to a turn
rests_then : (moment answer : ℕ) → IsGoing (after_reach moment answer) → place (after_reach moment answer) ≡ 1
rests_then moment answer = by (nat_lt last_moment answer) (nat_lt answer moment)
  where
    by : (a b : Bool) → IsGoing (if a then refused (past limit.Moment) false else if b then waits moment else rests) → place (if a then refused (past limit.Moment) false else if b then waits moment else rests) ≡ 1
    by true b g = absurd g
    by false true g = absurd g
    by false false g = refl

opens : (answer : ℕ) (old new : World) → old.phase ≡ opened → GoesTowards old.engine.history.seen.moment answer old new → IsGoing new.phase → progress old < progress new
opens answer old new was is g =
    let at = ap place is.phase ∙ rests_then old.engine.history.seen.moment answer (subst IsGoing is.phase g) in
    let more = went old.engine.history.seen.moment answer old new is 0 (omega (arith, is.reaches.later)) in
    omega (arith, more, at, ap place was)

-- a record
tried : (IsNext : Record → Type 0) (old new : World) → ArePut old.engine.history.seen old.engine.puts → Tries IsNext old new → IsGoing new.phase → progress old < progress new
tried IsNext old new are (done is) g =
    let next = is.appends.adds.offers.comes.next in
    let records = ap (λ (h : HistoryView). length h.records) is.appends.adds.view ∙ length-append old.engine.history.records (next ∷ []) in
    let counts = ap all_counts is.appends.puts in
    let left = counts_left old.engine.history.seen old.engine.puts next are in
    let acts = ap all_acts is.filters in
    let ignored = ap (λ (n : Notes). n.ignored) is.notes in
    let now = ap (λ (c : ClockView). c.now) is.appends.adds.offers.file.rest.clock in
    more_spent old new (omega (arith, records, counts, left, acts, ignored, now))
tried IsNext old new are (failed is) g = stopped _ new.phase _ _ is.phase g
tried IsNext old new are (limited what is) g = stopped _ new.phase _ _ is.phase g

-- a put
put : (old new : World) (issue : ℕ) → PutsCommand issue old new → count_of old.engine.puts issue < most_puts → progress old < progress new
put old new issue is left =
    let records = ap (λ (v : EngineView). length v.history.records) is.sends.view in
    let counts = ap (λ (v : EngineView). all_counts v.puts) is.sends.view in
    let one = counts_put old.engine.puts issue old.site.clock.now left in
    let acts = ap all_acts is.filters in
    let ignored = ap (λ (n : Notes). n.ignored) is.notes in
    more_spent old new (omega (arith, records, counts, one, acts, ignored, is.sends.put.time.now))

-- a parcel that changed nothing
ignored_one : (old new : World) → Ignores old new → new.site.clock.now ≡ old.site.clock.now → progress old < progress new
ignored_one old new is now =
    let records = ap (λ (v : EngineView). length v.history.records) is.engine in
    let counts = ap (λ (v : EngineView). all_counts v.puts) is.engine in
    let acts = ap all_acts is.filters in
    let one = ap (λ (n : Notes). n.ignored) is.notes in
    more_spent old new (omega (arith, records, counts, acts, one, now))

site_now : (old new : SiteView) → new ≡ old → new.clock.now ≡ old.clock.now
site_now old new e = ap (λ (s : SiteView). s.clock.now) e

-- an act
acted : (old new : World) (beat : ℕ) (parcel : Parcel) (v w : ActuatorView) → ActsOn beat parcel v w old new → progress old < progress new
acted old new beat parcel v w is =
    let act = act_for v.acts parcel old.site.clock.now in
    let records = ap (λ (x : EngineView). length x.history.records) is.engine in
    let counts = ap (λ (x : EngineView). all_counts x.puts) is.engine in
    let long : length w.acts ≡ length v.acts + 1 = ap (λ (x : ActuatorView). length x.acts) is.acts.view ∙ length-append v.acts (act ∷ []) in
    let set_ = total_set (λ (x : ActuatorView). length x.acts) old.filters (parcel.agent - 1) w v is.holds_command.there in
    let acts = ap all_acts is.filters in
    let ignored = ap (λ (n : Notes). n.ignored) is.notes in
    let now = is.acts.puts.time.now ∙ ap (λ (c : ClockView). c.now) is.acts.offers.adds.file.rest.clock in
    more_spent old new (omega (arith, records, counts, long, set_, acts, ignored, now))

pub step_spends : AcceptedIsRunnable → StepSpends
step_spends runnable old new timely all (opens_clock answer is) g = opens answer old new is.phase is.goes g
step_spends runnable old new timely all (finds_run_used agent is) g = stopped _ new.phase _ _ is.only.phase g
step_spends runnable old new timely all (asks_clock moment answer is) g = more_spent old new (went moment answer old new is.goes 1 (omega (arith, next_past_now runnable old moment timely all is.next, (goes_reached moment answer old new is.goes g).reached)))
step_spends runnable old new timely all (finds_late moment is) g = stopped _ new.phase _ _ is.only.phase g
step_spends runnable old new timely all (begins is) g = tried _ old new is.whole.engine.put is.tries g
step_spends runnable old new timely all (moves is) g = tried _ old new is.has_looked.up.has_file.engine.put is.tries g
step_spends runnable old new timely all (upgrades issue told is) g = tried _ old new is.to_be_told.idle.has_looked.up.has_file.engine.put is.tries g
step_spends runnable old new timely all (tells issue told is) g = tried _ old new is.to_be_told.idle.has_looked.up.has_file.engine.put is.tries g
step_spends runnable old new timely all (expires issue is) g = tried _ old new is.overdue.untold.idle.has_looked.up.has_file.engine.put is.tries g
step_spends runnable old new timely all (says bytes is) g = further old new owes rests is.speaks.phase is.phase (stays old new is.speaks.sides.engine is.speaks.sides.filters is.speaks.notes is.speaks.only.time.now) (omega arith)
step_spends runnable old new timely all (fails_to_say bytes is) g = stopped _ new.phase _ _ is.phase g
step_spends runnable old new timely all (puts_first issue is) g = put old new issue is.puts (first_count old.engine.puts issue is.first)
step_spends runnable old new timely all (resends issue is) g = put old new issue is.puts (resend_count old.engine.puts issue is.due.moment is.due.next)
step_spends runnable old new timely all (takes parcel is) g = further old new rests (holds new.site.disk.beat parcel) is.turn.phase is.phase (stays old new is.sides.engine is.sides.filters is.notes is.only.time.now) (omega arith)
step_spends runnable old new timely all (finds_none is) g = further old new rests looked is.turn.phase is.phase (stays old new is.sides.engine is.sides.filters is.notes is.only.time.now) (omega arith)
step_spends runnable old new timely all (fails_to_take is) g = stopped _ new.phase _ _ is.phase g
step_spends runnable old new timely all (drops beat parcel is) g = ignored_one old new is.ignores (site_now old.site new.site is.site)
step_spends runnable old new timely all (replies beat parcel is) g = tried _ old new is.up.has_file.engine.put is.tries g
step_spends runnable old new timely all (ignores_reply beat parcel is) g = ignored_one old new is.ignores (site_now old.site new.site is.site)
step_spends runnable old new timely all (acts_on beat parcel v w is) g = acted old new beat parcel v w is
step_spends runnable old new timely all (repeats_reply beat parcel v w is) g = ignored_one old new is.ignores is.repeats.puts.time.now
step_spends runnable old new timely all (fails_to_act beat parcel v w error cause is) g = stopped _ new.phase _ _ is.phase g
step_spends runnable old new timely all (wants_memory_now is) g = stopped _ new.phase _ _ is.only.phase g

pub steps_spend : AcceptedIsRunnable → EachSpends
steps_spend runnable a b timely all nothing g = omega arith
steps_spend runnable a b timely all (and_then {mid} steps step) g =
    let so_far = steps_spend runnable a mid timely all steps (step_going mid b step) in
    let last = step_spends runnable mid b (steps_in_time a mid timely steps) (steps_all_put a mid all steps) step g in
    omega (arith, so_far, last)

-- So more is spent where a later world stands at an earlier place of its turn, as from a take to the next turn.
pub turn_spends : AcceptedIsRunnable → (a b : World) → InTime a → AllPutWhileLooked a → Steps a b → IsGoing b.phase → place b.phase < place a.phase → spent a < spent b
turn_spends runnable a b timely all steps g lt = omega (arith, steps_spend runnable a b timely all steps g, lt)
