-- What a fleet puts, what is lost, and what expires.
use Rattle.std.proofs.Common.{◌≡◌, ◌≢◌, ◌⊎◌, inl, inr, ℕ, zero, suc, ◌+◌, ◌≤◌, nat_eq, Bool, true, false, List, [], ◌∷◌, ◌++◌, length, refl, sym, ◌∙◌, subst, ap, arith, All}
use Rattle.std.specs.Prelude.{Option, Some, None, slice_get, ◌==◌, if◌then◌else◌}
use Rattle.std.specs.Option.{option_map_or}
use Rattle.std.proofs.lemmas.Bool.{eq-eqb}
use Rattle.std.proofs.lemmas.List.{append-nil, length-append}
use Rattle.std.proofs.lemmas.List.Elements.{All-append, All-nil}
use Rattle.cacao_site.specs.Counts.{last_count}
use Rattle.cacao_site.specs.declared.parcel.Parcel.{Parcel}
use Rattle.run_records.specs.declared.record.Record.{Record}
use Rattle.run_records.specs.declared.record.Record.TheVariants as entry
use Rattle.flow_core_rules.specs.Moves.{record_of}
use Rattle.flow_core_rules.specs.Runs.{begin_of}
use Rattle.flow_core_rules.specs.State.{Shown}
use Rattle.flow_core_rules.specs.declared.moves.Move.{Move}
use Rattle.flow_core_rules.specs.declared.moves.Move.TheVariants as move
use Rattle.flow_engine_history.specs.HistoryView.{HistoryView}
use Rattle.flow_engine.specs.EngineCalls.{IsBeginning, IsMove, IsReply}
use Rattle.flow_engine.specs.EngineView.{EngineView}
use Rattle.flow_engine.specs.OpenIssues.{ArePut, OpenIssues, count_of, puts_of}
use Rattle.flow_engine.specs.declared.puts.Puts.{Puts}
use Rattle.flow_engine.proofs.OverdueLemmas.{put_at}
use Rattle.flow_laws.proofs.Basics.{same_some}
use Rattle.flow_world_steps.specs.Appends.{Tries}
use Rattle.flow_world_steps.specs.Appends.Tries.{done, failed, limited}
use Rattle.flow_world_steps.specs.Link.{PutsAreCounted, PutsOrLost, commands_of}
use Rattle.flow_world_steps.specs.Sides.{times}
use Rattle.flow_world_steps.specs.Steps.Steps.{nothing as no_step, and_then as then_step}
use Rattle.flow_world_steps.specs.Worlds.{Notes}
use Rattle.flow_world_steps.proofs.Adding.{of_option}
use Rattle.flow_world_steps.proofs.Counted.{steps_count_few}
use Rattle.flow_world_steps.proofs.Filters.{get_set}
use Rattle.flow_world_steps.proofs.Growth.{gains_same, gains_then}
use Rattle.flow_world_steps.proofs.Issues.{below}
use Rattle.flow_world_steps.proofs.Lost.{steps_put_or_lose}
use Rattle.flow_world_steps.proofs.Put.{commands_more, times_more}
use Rattle.flow_world_steps.proofs.Waiting.{has_put}
use Rattle.flow_fleet_steps.specs.Steps.{FleetStep, FleetSteps}
use Rattle.flow_fleet_steps.specs.Steps.FleetSteps.{nothing, and_then}
use Rattle.flow_fleet_steps.specs.Steps.FleetStep.{opens_clock, finds_run_used, asks_clock, finds_late, begins, moves, expires, says, fails_to_say, puts_first, resends}
use Rattle.flow_fleet_steps.specs.Steps.FleetStep.{takes, finds_none, fails_to_take, drops, replies, ignores_reply, acts_on, repeats_reply, fails_to_act, wants_memory_now}
use Rattle.flow_world_steps.specs.Steps.Step.{begins as one_begins, moves as one_moves, expires as one_expires, puts_first as one_puts_first, resends as one_resends, replies as one_replies}
use Rattle.flow_fleet_steps.specs.Worlds.{FleetWorld, Own, part, set_own}
use Rattle.flow_fleet_sums.specs.Sums.{AddsAt, ExpiresArePut, ExpiresPut, FleetAdds, FleetPutsAreCounted, FleetPutsOrLost, of_place, times_at}
use Rattle.flow_fleet_sums.proofs.Adding.{adds-then, adds_none, fleet_steps_add, not_equal, of_both, step_adds, there_of}
use Rattle.flow_fleet_sums.proofs.StepKinds.{Kind, NoRun, OneRun, does, kind_of}
use Rattle.flow_fleet_sums.proofs.StepKinds.Kind.{filter, puts, quiet, tries}
use Rattle.flow_fleet_sums.proofs.Written.{own_here}

-- ---- lists of lost puts, with their places

abbrev lost_at : ℕ → List ℕ → List (ℕ × ℕ)
lost_at place [] = []
lost_at place (issue ∷ lost) = (place, issue) ∷ lost_at place lost

length_lost : (place : ℕ) (lost : List ℕ) → length (lost_at place lost) ≡ length lost
length_lost place [] = refl
length_lost place (issue ∷ lost) = ap suc (length_lost place lost)

times_here : (place issue : ℕ) (lost : List ℕ) → times_at place issue (lost_at place lost) ≡ times issue lost
times_here place issue [] = refl
times_here place issue (other ∷ lost) =
    ap (λ (b : Bool). (if b then (if nat_eq other issue then 1 else 0) else 0) + times_at place issue (lost_at place lost)) (eq-eqb place place refl)
    ∙ ap (λ (n : ℕ). (if nat_eq other issue then 1 else 0) + n) (times_here place issue lost)

times_both : (place issue : ℕ) (xs ys : List (ℕ × ℕ)) → times_at place issue (xs ++ ys) ≡ times_at place issue xs + times_at place issue ys
times_both place issue [] ys = omega arith
times_both place issue (e ∷ xs) ys = let rest = times_both place issue xs ys in omega (arith, rest)

own_other : (at k : ℕ) (own : Own) (owns : ℕ → Own) → k ≢ at → set_own at own owns k ≡ owns k
own_other at k own owns ne = ap (λ (b : Bool). if b then own else owns k) (not_equal k at ne)

-- ---- one step

none_lost : (old new : FleetWorld) → new.site.link.puts ≡ old.site.link.puts → new.own ≡ old.own → old.site.counts.mishaps ≤ new.site.counts.mishaps → FleetPutsOrLost old new
none_lost old new link own later = record {
  put = [];
  puts = gains_same old.site.link.puts new.site.link.puts link;
  lost = [];
  later = later;
  few = inl (omega (arith, later));
  each = λ place v issue there. let same = ap (λ (o : ℕ → Own). times issue (o place).put) own in omega (arith, same);
}

one_lost : (old new : FleetWorld) (at : ℕ) (v w : EngineView) (own : Own) → OneRun old new at v w own → FleetPutsOrLost old new
one_lost old new at v w own is = record {
  put = p.put;
  puts = p.puts;
  lost = lost_at at p.lost;
  later = p.later;
  few = subst (λ (n : ℕ). (old.site.counts.mishaps + n ≤ new.site.counts.mishaps) ⊎ (last_count ≤ new.site.counts.mishaps)) (sym (length_lost at p.lost)) p.few;
  each = λ place x issue there. each place x issue there (place == at) refl;
}
  where
    p : PutsOrLost (part at v (old.own at) old) (part at w own new)
    p = steps_put_or_lose _ _ (then_step no_step is.step)

    here : (issue : ℕ) → times issue (new.own at).put ≤ times issue (old.own at).put + commands_of v.history.seen.run issue p.put + times_at at issue (lost_at at p.lost)
    here issue =
        let one = p.each issue in
        let same = ap (λ (o : ℕ → Own). times issue (o at).put) is.owns ∙ ap (λ (o : Own). times issue o.put) (own_here at own old.own) in
        let many = times_here at issue p.lost in
        omega (arith, one, same, many)

    each : (place : ℕ) (x : EngineView) (issue : ℕ) → slice_get old.engines place ≡ Some x → (b : Bool) → (place == at) ≡ b
        → times issue (new.own place).put ≤ times issue (old.own place).put + commands_of x.history.seen.run issue p.put + times_at place issue (lost_at at p.lost)
    each place x issue there false e =
        let same = ap (λ (o : ℕ → Own). times issue (o place).put) is.owns in
        let other = ap (λ (b : Bool). times issue (if b then own else old.own place).put) e in
        omega (arith, same, other)
    each place x issue there true e =
        let at_is : place ≡ at = grind (arith, e) in
        let x_is : x ≡ v = same_some (sym there ∙ subst (λ (n : ℕ). slice_get old.engines n ≡ Some v) (sym at_is) is.there) in
        subst (λ (n : ℕ). times issue (new.own n).put ≤ times issue (old.own n).put + commands_of x.history.seen.run issue p.put + times_at n issue (lost_at at p.lost)) (sym at_is)
        (subst (λ (y : EngineView). times issue (new.own at).put ≤ times issue (old.own at).put + commands_of y.history.seen.run issue p.put + times_at at issue (lost_at at p.lost)) (sym x_is) (here issue))

no_run_lost : (old new : FleetWorld) (v : EngineView) → NoRun old new v → FleetPutsOrLost old new
no_run_lost old new v is = record {
  put = p.put;
  puts = p.puts;
  lost = [];
  later = p.later;
  few = elim p.few [ inl few ↦ inl (omega (arith, few)) | inr full ↦ inr full ];
  each = λ place x issue there. let same = ap (λ (o : ℕ → Own). times issue (o place).put) is.owns in omega (arith, same);
}
  where
    p : PutsOrLost (part 0 v (old.own 0) old) (part 0 v (old.own 0) new)
    p = steps_put_or_lose _ _ (then_step no_step is.step)

kind_loses : (old new : FleetWorld) → Kind old new → FleetPutsOrLost old new
kind_loses old new (tries at v w own IsNext is try) = one_lost old new at v w own is
kind_loses old new (puts at issue v w own is put) = one_lost old new at v w own is
kind_loses old new (filter v is did) = no_run_lost old new v is
kind_loses old new (quiet is) = none_lost old new is.puts is.sides.own is.mishaps

few-then : (a b c m n : ℕ) → (a + m ≤ b) ⊎ (last_count ≤ b) → (b + n ≤ c) ⊎ (last_count ≤ c) → b ≤ c → (a + (m + n) ≤ c) ⊎ (last_count ≤ c)
few-then a b c m n p (inr full) later = inr full
few-then a b c m n (inl p) (inl q) later = inl (omega (arith, p, q))
few-then a b c m n (inr full) (inl q) later = inr (omega (arith, full, later))

lost-then : (a b c : FleetWorld) → FleetAdds a b → FleetPutsOrLost a b → FleetPutsOrLost b c → FleetPutsOrLost a c
lost-then a b c adds p q = record {
  put = p.put ++ q.put;
  puts = gains_then a.site.link.puts b.site.link.puts c.site.link.puts p.put q.put p.puts q.puts;
  lost = p.lost ++ q.lost;
  later = let one = p.later in let two = q.later in omega (arith, one, two);
  few = subst (λ (n : ℕ). (a.site.counts.mishaps + n ≤ c.site.counts.mishaps) ⊎ (last_count ≤ c.site.counts.mishaps)) (sym (length-append p.lost q.lost))
      (few-then a.site.counts.mishaps b.site.counts.mishaps c.site.counts.mishaps (length p.lost) (length q.lost) p.few q.few q.later);
  each = λ place v issue there.
      let mid = there_of b.engines place (let lt = below a.engines place v there in let many = adds.many in omega (arith, lt, many)) in
      let run = ap (λ (n : ℕ). commands_of n issue q.put) (adds.each place v mid.0 there mid.1).run in
      let one = p.each place v issue there in
      let two = q.each place mid.0 issue mid.1 in
      let commands = commands_more v.history.seen.run issue p.put q.put in
      let lost = times_both place issue p.lost q.lost in
      omega (arith, run, one, two, commands, lost);
}

pub fleet_steps_lose : (a b : FleetWorld) → FleetSteps a b → FleetPutsOrLost a b
fleet_steps_lose a b nothing = none_lost a a refl refl (omega arith)
fleet_steps_lose a b (and_then {mid} steps step) = lost-then a mid b (fleet_steps_add a mid steps) (fleet_steps_lose a mid steps) (kind_loses mid b (kind_of mid b step))

-- ---- how often each issue was put

-- what is counted of a run lies in its engine and in what was noted of it
counted_same : (old new : FleetWorld) (k : ℕ) (x : EngineView) → new.own k ≡ old.own k → PutsAreCounted (part k x (old.own k) old) → PutsAreCounted (part k x (new.own k) new)
counted_same old new k x same is =
    subst (λ (o : Own). PutsAreCounted (part k x o new)) (sym same) (record { few = is.few; counted = is.counted; noted = is.noted; later = is.later })

one_counted : (old new : FleetWorld) (at : ℕ) (v w : EngineView) (own : Own) → OneRun old new at v w own → FleetPutsAreCounted old → FleetPutsAreCounted new
one_counted old new at v w own is was k x there = elim (get_set old.engines at k w x (subst (λ (l : List EngineView). slice_get l k ≡ Some x) is.engines there)) [
  | inl it ↦
      let own_is : new.own at ≡ own = ap (λ (o : ℕ → Own). o at) is.owns ∙ own_here at own old.own in
      subst (λ (n : ℕ). PutsAreCounted (part n x (new.own n) new)) (sym it.0)
      (subst (λ (y : EngineView). PutsAreCounted (part at y (new.own at) new)) it.1
      (subst (λ (o : Own). PutsAreCounted (part at w o new)) (sym own_is) (steps_count_few _ _ (was at v is.there) (then_step no_step is.step))))
  | inr other ↦ counted_same old new k x (ap (λ (o : ℕ → Own). o k) is.owns ∙ own_other at k own old.own other.0) (was k x other.1)
]

same_counted : (old new : FleetWorld) → new.engines ≡ old.engines → new.own ≡ old.own → FleetPutsAreCounted old → FleetPutsAreCounted new
same_counted old new engines own was k x there =
    counted_same old new k x (ap (λ (o : ℕ → Own). o k) own) (was k x (subst (λ (l : List EngineView). slice_get l k ≡ Some x) engines there))

kind_counted : (old new : FleetWorld) → Kind old new → FleetPutsAreCounted old → FleetPutsAreCounted new
kind_counted old new (tries at v w own IsNext is try) was = one_counted old new at v w own is was
kind_counted old new (puts at issue v w own is put) was = one_counted old new at v w own is was
kind_counted old new (filter v is did) was = same_counted old new is.engines is.owns was
kind_counted old new (quiet is) was = same_counted old new is.sides.engines is.sides.own was

pub fleet_steps_count : (a b : FleetWorld) → FleetPutsAreCounted a → FleetSteps a b → FleetPutsAreCounted b
fleet_steps_count a b was nothing = was
fleet_steps_count a b was (and_then {mid} steps step) = kind_counted mid b (kind_of mid b step) (fleet_steps_count a mid was steps)

-- ---- what expires

abbrev rest_of : {T : Type 0} → List T → List T
rest_of [] = []
rest_of (x ∷ xs) = xs

same_rest : {T : Type 0} (xs ys zs : List T) → xs ++ ys ≡ xs ++ zs → ys ≡ zs
same_rest [] ys zs e = e
same_rest {T} (x ∷ xs) ys zs e = same_rest xs ys zs (ap (λ (l : List T). rest_of l) e)

All-one : {T : Type 0} (P : T → Type 0) (x : T) → P x → All P (x ∷ [])
All-one {T} P x p zero d lt = p
All-one {T} P x p (suc k) d lt = absurd (omega (arith, lt))

-- what was appended at a place, read off its records
none_at : (P : Record → Type 0) (place from to : ℕ) (added : List (ℕ × Record)) (v w : EngineView) → AddsAt place added from to v w → w.history.records ≡ v.history.records → All P (of_place place added)
none_at P place from to added v w is same =
    subst (λ (l : List Record). All P l) (sym (same_rest v.history.records (of_place place added) [] (sym is.is ∙ same ∙ sym (append-nil v.history.records)))) (All-nil P)

one_at : (P : Record → Type 0) (place from to : ℕ) (added : List (ℕ × Record)) (v w : EngineView) (next : Record) → AddsAt place added from to v w → w.history.records ≡ v.history.records ++ next ∷ [] → P next
    → All P (of_place place added)
one_at P place from to added v w next is same p =
    subst (λ (l : List Record). All P l) (sym (same_rest v.history.records (of_place place added) (next ∷ []) (sym is.is ∙ same))) (All-one P next p)

-- no other record is an Expire
other_is_none : (put : List ℕ) (made next : Record) → ((issue moment : ℕ) → made ≡ entry.Expire issue moment → ⊥) → next ≡ made → ExpiresPut put next
other_is_none put made next other is issue moment e = absurd (other issue moment (sym is ∙ e))

begin_is_none : (put : List ℕ) (h : HistoryView) (now : ℕ) (next : Record) → IsBeginning h now next → ExpiresPut put next
begin_is_none put h now next is = other_is_none put (begin_of h.seen.given h.seen.run now) next (λ issue moment e. cc) is.is

move_is_none : (put : List ℕ) (h : HistoryView) (now : ℕ) (next : Record) → IsMove h now next → ExpiresPut put next
move_is_none put h now next is = by is.move is.is
  where
    walks : (t : ℕ) → ExpiresPut put (entry.Walk t now)
    walks t issue moment e = absurd (cc)

    upgrades : ExpiresPut put (entry.Upgrade 2 now)
    upgrades issue moment e = absurd (cc)

    sends : (t n agent : ℕ) (bytes : List ℕ) → ExpiresPut put (entry.Send t n agent now bytes)
    sends t n agent bytes issue moment e = absurd (cc)

    asks : (t n : ℕ) (bytes : List ℕ) → ExpiresPut put (entry.Ask t n now bytes)
    asks t n bytes issue moment e = absurd (cc)

    by : (m : Move) → record_of h.seen now m ≡ Some next → ExpiresPut put next
    by (move.Walk t) e = subst (ExpiresPut put) (same_some e) (walks t)
    by (move.Send t) e = of_option _ _ (ExpiresPut put) next (λ x. sends t _ _ _) e
    by (move.Ask t) e = of_option _ _ (ExpiresPut put) next (λ x. asks t _ _) e
    by move.Upgrade e = subst (ExpiresPut put) (same_some e) upgrades

reply_is_none : (put : List ℕ) (h : HistoryView) (parcel : Parcel) (now : ℕ) (next : Record) → IsReply h parcel now next → ExpiresPut put next
reply_is_none put h parcel now next is = other_is_none put (entry.Reply parcel.issue now is.read.status is.read.rule is.read.text) next (λ issue moment e. cc) is.is

-- an issue that was put was counted
count_some : (seen : Shown) (issues : OpenIssues) (issue : ℕ) → ArePut seen issues → puts_of issues issue ≢ None → 1 ≤ count_of issues issue
count_some seen issues issue are some = by (puts_of issues issue) refl some
  where
    by : (o : Option Puts) → puts_of issues issue ≡ o → o ≢ None → 1 ≤ option_map_or (λ (p : Puts). p.count) o 0
    by None e none = absurd (none refl)
    by (Some p) e none = (put_at seen issues issue p are e).some

-- ---- one step, at each place

module _ (old new : FleetWorld) (adds : FleetAdds old new) where
  -- the engines stayed
  engines_same : new.engines ≡ old.engines → ExpiresArePut adds.added new
  engines_same engines place w there =
      let was = subst (λ (l : List EngineView). slice_get l place ≡ Some w) engines there in
      none_at (ExpiresPut (new.own place).put) place old.site.clock.now new.site.clock.now adds.added w w (adds.each place w w was there) refl

  module _ (at : ℕ) (v w : EngineView) (own : Own) (is : OneRun old new at v w own) where
    own_is : new.own at ≡ own
    own_is = ap (λ (o : ℕ → Own). o at) is.owns ∙ own_here at own old.own

    -- one run's records are these
    at_one : ((x : AddsAt at adds.added old.site.clock.now new.site.clock.now v w) → All (ExpiresPut (new.own at).put) (of_place at adds.added)) → ExpiresArePut adds.added new
    at_one here place x there = elim (get_set old.engines at place w x (subst (λ (l : List EngineView). slice_get l place ≡ Some x) is.engines there)) [
      | inl it ↦
          let there_at : slice_get new.engines at ≡ Some w = subst (λ (y : EngineView). slice_get new.engines at ≡ Some y) (sym it.1) (subst (λ (n : ℕ). slice_get new.engines n ≡ Some x) it.0 there) in
          subst (λ (n : ℕ). All (ExpiresPut (new.own n).put) (of_place n adds.added)) (sym it.0) (here (adds.each at v w is.there there_at))
      | inr other ↦ none_at (ExpiresPut (new.own place).put) place old.site.clock.now new.site.clock.now adds.added x x (adds.each place x x other.1 there) refl
    ]

    pub records_same : w.history.records ≡ v.history.records → ExpiresArePut adds.added new
    records_same same = at_one (λ x. none_at (ExpiresPut (new.own at).put) at old.site.clock.now new.site.clock.now adds.added v w x same)

    pub tried_so : (IsNext : Record → Type 0) → Tries IsNext (part at v (old.own at) old) (part at w own new) → (own.put ≡ (old.own at).put → (next : Record) → IsNext next → ExpiresPut own.put next) → ExpiresArePut adds.added new
    tried_so IsNext (done it) may =
        let next = it.appends.adds.offers.comes.next in
        at_one (λ x. one_at (ExpiresPut (new.own at).put) at old.site.clock.now new.site.clock.now adds.added v w next x (ap (λ (h : HistoryView). h.records) it.appends.adds.view)
        (subst (λ (o : Own). ExpiresPut o.put next) (sym own_is) (may (ap (λ (n : Notes). n.put) it.notes) next it.appends.adds.offers.comes.is)))
    tried_so IsNext (failed it) may = records_same (ap (λ (h : HistoryView). h.records) it.refuses.0.1)
    tried_so IsNext (limited what it) may = records_same (ap (λ (h : HistoryView). h.records) it.refuses.0.1)

pub step_expires : (old new : FleetWorld) → FleetPutsAreCounted old → (step : FleetStep old new) → (adds : FleetAdds old new) → ExpiresArePut adds.added new
step_expires old new was (opens_clock answer is) adds = engines_same old new adds is.goes.sides.engines
step_expires old new was (finds_run_used place agent is) adds = engines_same old new adds is.only.sides.engines
step_expires old new was (asks_clock moment answer is) adds = engines_same old new adds is.goes.sides.engines
step_expires old new was (finds_late moment is) adds = engines_same old new adds is.only.sides.engines
step_expires old new was (begins place is) adds = tried_so old new adds place is.does.v is.does.w is.does.own (does _ place old new is.does (one_begins is.does.does)) _ is.does.does.tries (λ same next e. begin_is_none _ is.does.v.history _ next e)
step_expires old new was (moves place is) adds = tried_so old new adds place is.does.v is.does.w is.does.own (does _ place old new is.does (one_moves is.does.does)) _ is.does.does.tries (λ same next e. move_is_none _ is.does.v.history _ next e)
step_expires old new was (expires place issue is) adds =
    tried_so old new adds place is.does.v is.does.w is.does.own (does _ place old new is.does (one_expires issue is.does.does)) _ is.does.does.tries
    (λ same next e other moment f. subst (λ (n : ℕ). 1 ≤ times n is.does.own.put) (one_issue issue other old.site.clock.now moment (sym e ∙ f)) (put_before same))
  where
    one_issue : (a b m n : ℕ) → entry.Expire a m ≡ entry.Expire b n → a ≡ b
    one_issue a b m n e = cc

    put_before : is.does.own.put ≡ (old.own place).put → 1 ≤ times issue is.does.own.put
    put_before same =
        let v = is.does.v in
        let engine = (is.idle.has_looked.settled place v is.does.there).up.has_file.engine in
        let some = count_some v.history.seen v.puts issue engine.put (has_put v issue old.site.clock.now is.does.does.overdue.first.0) in
        let noted = (was place v is.does.there).noted issue in
        let times_same = ap (λ (l : List ℕ). times issue l) same in
        omega (arith, some, noted, times_same)
step_expires old new was (says place v bytes is) adds = engines_same old new adds is.speaks.sides.engines
step_expires old new was (fails_to_say place v bytes is) adds = engines_same old new adds is.speaks.sides.engines
step_expires old new was (puts_first place issue is) adds = records_same old new adds place is.does.v is.does.w is.does.own (does _ place old new is.does (one_puts_first issue is.does.does)) (ap (λ (x : EngineView). x.history.records) is.does.does.puts.sends.view)
step_expires old new was (resends place issue is) adds = records_same old new adds place is.does.v is.does.w is.does.own (does _ place old new is.does (one_resends issue is.does.does)) (ap (λ (x : EngineView). x.history.records) is.does.does.puts.sends.view)
step_expires old new was (takes parcel is) adds = engines_same old new adds is.sides.engines
step_expires old new was (finds_none is) adds = engines_same old new adds is.sides.engines
step_expires old new was (fails_to_take is) adds = engines_same old new adds is.sides.engines
step_expires old new was (drops beat parcel is) adds = engines_same old new adds is.ignores.sides.engines
step_expires old new was (replies beat parcel place is) adds = tried_so old new adds place is.does.v is.does.w is.does.own (does _ place old new is.does (one_replies beat parcel is.does.does)) _ is.does.does.tries (λ same next e. reply_is_none _ is.does.v.history parcel _ next e)
step_expires old new was (ignores_reply beat parcel is) adds = engines_same old new adds is.ignores.sides.engines
step_expires old new was (acts_on beat parcel v w is) adds = engines_same old new adds is.engines
step_expires old new was (repeats_reply beat parcel v w is) adds = engines_same old new adds is.engines
step_expires old new was (fails_to_act beat parcel v w error cause is) adds = engines_same old new adds is.engines
step_expires old new was (wants_memory_now is) adds = engines_same old new adds is.only.sides.engines

-- ---- all steps

own_stays : (old new : FleetWorld) (at : ℕ) (v w : EngineView) (own : Own) → OneRun old new at v w own → (place issue : ℕ) → times issue (old.own at).put ≤ times issue own.put
    → times issue (old.own place).put ≤ times issue (new.own place).put
own_stays old new at v w own is place issue more = by (place == at) refl
  where
    same : times issue (new.own place).put ≡ times issue (set_own at own old.own place).put
    same = ap (λ (o : ℕ → Own). times issue (o place).put) is.owns

    by : (b : Bool) → (place == at) ≡ b → times issue (old.own place).put ≤ times issue (new.own place).put
    by false e = let other = ap (λ (b : Bool). times issue (if b then own else old.own place).put) e in omega (arith, same, other)
    by true e =
        let it = ap (λ (b : Bool). times issue (if b then own else old.own place).put) e in
        let at_is : place ≡ at = grind (arith, e) in
        let was = ap (λ (n : ℕ). times issue (old.own n).put) at_is in
        omega (arith, same, it, was, more)

-- what was noted as put stays noted
puts_stay : (old new : FleetWorld) → Kind old new → (place issue : ℕ) → times issue (old.own place).put ≤ times issue (new.own place).put
puts_stay old new (tries at v w own IsNext is try) place issue = own_stays old new at v w own is place issue (let same = tried_put IsNext try in omega (arith, same))
  where
    tried_put : (IsNext : Record → Type 0) → Tries IsNext (part at v (old.own at) old) (part at w own new) → times issue own.put ≡ times issue (old.own at).put
    tried_put IsNext (done it) = ap (λ (n : Notes). times issue n.put) it.notes
    tried_put IsNext (failed it) = ap (λ (n : Notes). times issue n.put) it.notes
    tried_put IsNext (limited what it) = ap (λ (n : Notes). times issue n.put) it.notes
puts_stay old new (puts at number v w own is put) place issue =
    own_stays old new at v w own is place issue (let same = ap (λ (n : Notes). times issue n.put) put.notes in let more = times_more issue (old.own at).put number in omega (arith, same, more))
puts_stay old new (filter v is did) place issue = let same = ap (λ (o : ℕ → Own). times issue (o place).put) is.owns in omega (arith, same)
puts_stay old new (quiet is) place issue = let same = ap (λ (o : ℕ → Own). times issue (o place).put) is.sides.own in omega (arith, same)

still_put : (put later : List ℕ) (records : List Record) → ((issue : ℕ) → times issue put ≤ times issue later) → All (ExpiresPut put) records → All (ExpiresPut later) records
still_put put later records more all k d lt issue moment e = let is = all k d lt issue moment e in let le = more issue in omega (arith, is, le)

-- the records that were appended, with what is known of each Expire
pub record AddsPut (a b : FleetWorld) : Type 0 where
  pub adds : FleetAdds a b
  pub expires : ExpiresArePut adds.added b

puts_then : (a b c : FleetWorld) → AddsPut a b → (step : FleetStep b c) → FleetPutsAreCounted b → AddsPut a c
unfolding adds-then
puts_then a b c p step counted = record {
  adds = adds-then a b c p.adds (step_adds b c step);
  expires = λ place w there.
      let q = step_adds b c step in
      let mid = there_of b.engines place (let lt = below c.engines place w there in let many = q.many in omega (arith, lt, many)) in
      subst (λ (l : List Record). All (ExpiresPut (c.own place).put) l) (sym (of_both place p.adds.added q.added))
      (All-append (ExpiresPut (c.own place).put) (of_place place p.adds.added) (of_place place q.added)
      (still_put (b.own place).put (c.own place).put (of_place place p.adds.added) (puts_stay b c (kind_of b c step) place) (p.expires place mid.0 mid.1))
      (step_expires b c counted step q place w there));
}

none_put : (a : FleetWorld) → AddsPut a a
unfolding adds_none
none_put a = record { adds = adds_none a; expires = λ place v there. engines_same a a (adds_none a) refl place v there }

pub fleet_steps_put : (a b : FleetWorld) → FleetPutsAreCounted a → FleetSteps a b → AddsPut a b
fleet_steps_put a b counted nothing = none_put a
fleet_steps_put a b counted (and_then {mid} steps step) = puts_then a mid b (fleet_steps_put a mid counted steps) step (fleet_steps_count a mid counted steps)
