-- What a session uses up is bounded.
use Rattle.std.proofs.Common.{◌≡◌, ◌≢◌, ℕ, zero, suc, ◌+◌, ◌*◌, ◌≤◌, ◌<◌, Bool, true, false, ◌||◌, List, [], ◌∷◌, ◌++◌, length, get_or, refl, ap, arith, length-append}
use Rattle.std.specs.Prelude.{All, AllPairs, Option, Some, None, eqb, option_map, slice_get}
use Rattle.std.specs.List.{AllByRecursion, IsDistinct, list_any}
use Rattle.std.specs.Map.{keys_of}
use Rattle.std.proofs.lemmas.List.{length-map}
use Rattle.std.proofs.lemmas.Map.Entries.{length-keys_of}
use Rattle.std.proofs.lemmas.Map.Steps.{length-le_from_distinct_below}
use Rattle.std.proofs.lemmas.Option.{none-some}
use Rattle.cacao_site.specs.View.{SiteView}
use Rattle.run_journal.specs.Layout.{entries, front, header, length_field}
use Rattle.run_records.specs.Layout.{layout}
use Rattle.run_records.specs.Ranges.{last_moment}
use Rattle.run_records.specs.declared.record.Record.{Record}
use Rattle.run_records.specs.declared.record.Record.TheVariants as entry
use Rattle.flow_core_rules.specs.Edits.{Edit, all_edited, changed_at, closed}
use Rattle.flow_core_rules.specs.Givens.{Given}
use Rattle.flow_core_rules.specs.Runs.{GoesOn, Leads, Next, after, begun, blank, first_edits}
use Rattle.flow_core_rules.specs.State.{Shown, State, shown}
use Rattle.flow_core_rules.specs.declared.issues.Issue.{Issue}
use Rattle.flow_core_rules.specs.declared.issues.IssuePhase.{IssuePhase}
use Rattle.flow_core_rules.proofs.IssueLemmas.{closed-after, issued-after}
use Rattle.flow_core_rules.proofs.QuietLemmas.{IsQuiet, keeps_issues}
use Rattle.flow_core_rules.proofs.ShapeLemmas.{IssueShape, change_shape, new_issue}
use Rattle.flow_laws.proofs.Basics.{same_some}
use Rattle.flow_engine.specs.HistoryView.{HistoryView, entries_of}
use Rattle.flow_engine.specs.Histories.{IsHistory, IsSoFar}
use Rattle.flow_engine.specs.EngineView.{EngineView}
use Rattle.flow_engine.specs.OpenIssues.{ArePut, OpenIssues}
use Rattle.flow_engine.specs.declared.puts.Puts.{Puts}
use Rattle.slpf_actuator.specs.ActuatorView.{ActuatorView}
use Rattle.flow_world_steps.specs.Sides.{FiltersReady}
use Rattle.flow_world_steps.specs.Spent.{all_acts, all_counts, most_acts, most_records, most_spent}
use Rattle.flow_world_steps.specs.Turns.{most_ignored}
use Rattle.flow_world_steps.proofs.AllPuts.{first_quiet}
use Rattle.flow_world_steps.proofs.Issues.{below, eq_apart}

-- ---- records

many_entries : (items : List (List ℕ)) → length items ≤ length (entries items)
unfolding entries
many_entries [] = omega arith
many_entries (item ∷ items) =
    let whole : length ((1 ∷ length_field (length item) ++ item) ++ entries items) ≡ length (1 ∷ length_field (length item) ++ item) + length (entries items) = length-append (1 ∷ length_field (length item) ++ item) (entries items) in
    let front_part : length (1 ∷ length_field (length item) ++ item) ≡ length (1 ∷ length_field (length item)) + length item = length-append (1 ∷ length_field (length item)) item in
    omega (arith, whole, front_part, many_entries items)

many_in_front : (items : List (List ℕ)) → length items ≤ length (front items)
unfolding front
many_in_front items = omega (arith, length-append header (entries items), many_entries items)

pub records_few : (h : HistoryView) → IsHistory h → length h.records ≤ most_records
records_few h is =
    let many : length (entries_of h.records) ≡ length h.records = length-map h.records layout in
    omega (arith, is.fits, many_in_front (entries_of h.records), many)

-- ---- issues: at most as many as records

length-changed : {A : Type 0} (n : ℕ) (f : A → A) (xs : List A) → length (changed_at n f xs) ≡ length xs
length-changed n f [] = refl
length-changed zero f (x ∷ xs) = refl
length-changed (suc n) f (x ∷ xs) = ap suc (length-changed n f xs)

none_more : (s : State) (es : List Edit) → IsQuiet es → length (all_edited es s).issues ≤ length s.issues + 1
none_more s es q = let e = ap (λ (l : List Issue). length l) (keeps_issues es s q) in omega (arith, e)

one_more : (s : State) (l : List Issue) (new : Issue) → l ≡ s.issues ++ new ∷ [] → length l ≤ length s.issues + 1
one_more s l new is = let e = ap (λ (l : List Issue). length l) is in omega (arith, e, length-append s.issues (new ∷ []))

closed_more : (s : State) (l : List Issue) (n : ℕ) (end : IssuePhase) → l ≡ changed_at n (closed end) s.issues → length l ≤ length s.issues + 1
closed_more s l n end is = let e = ap (λ (l : List Issue). length l) is in omega (arith, e, length-changed n (closed end) s.issues)

shape_more : (s : State) (r : Record) (es : List Edit) → IssueShape (shown s) r es → length (all_edited es s).issues ≤ length s.issues + 1
shape_more s (entry.Begin run moment books bind) es shape = absurd shape
shape_more s (entry.Walk task moment) es shape = none_more s es shape
shape_more s (entry.Send task n agent moment bytes) es shape =
    let new : Issue = new_issue task agent moment bytes in
    one_more s _ new (issued-after es (shape.issued).rest s new (shape.issued).edits_are (shape.issued).quiet)
shape_more s (entry.Reply n moment status rule text) es shape = closed_more s _ n _ (closed-after es shape.rest s n _ shape.edits_are shape.quiet)
shape_more s (entry.Expire n moment) es shape = closed_more s _ n _ (closed-after es shape.rest s n _ shape.edits_are shape.quiet)
shape_more s (entry.Upgrade version moment) es shape = let e = ap (λ (xs : List Edit). length (all_edited xs s).issues) shape in omega (arith, e)
shape_more s (entry.Ask task n moment bytes) es shape =
    let new : Issue = new_issue task 0 moment bytes in
    one_more s _ new (issued-after es shape.rest s new shape.edits_are shape.quiet)
shape_more s (entry.Told n moment status text) es shape = closed_more s _ n _ (closed-after es shape.rest s n _ shape.edits_are shape.quiet)

next_more : (s new : State) (r : Record) → Next s r new → length new.issues ≤ length s.issues + 1
next_more s new r next =
    let e = ap (λ (x : State). length x.issues) next.new_is in
    omega (arith, e, shape_more s r next.edits (change_shape (shown s) r next.edits next.change_is))

run_more : (s new : State) (rs : List Record) → GoesOn s rs new → length new.issues ≤ length s.issues + length rs
run_more s new [] is = let e = ap (λ (x : State). length x.issues) is in omega (arith, e)
run_more s new (r ∷ rs) is = omega (arith, next_more s is.0 r is.1, run_more is.0 new rs is.2)

first_none : (given : Given) (run now : ℕ) (first : State) → begun given run now ≡ Some first → length first.issues ≡ 0
first_none given run now first e = by (first_edits given now) refl e
  where
    by : (o : Option (List Edit)) → first_edits given now ≡ o → option_map (λ edits. after now edits (blank given run)) o ≡ Some first → length first.issues ≡ 0
    by None is h = absurd (none-some first h)
    by (Some edits) is h =
        let there = ap (λ (x : State). length x.issues) (same_some h) in
        let none = ap (λ (l : List Issue). length l) (keeps_issues edits (blank given run) (first_quiet given now edits is)) in
        omega (arith, there, none)

leads_more : (given : Given) (run : ℕ) (records : List Record) (s : State) → Leads given run records s → length s.issues ≤ length records
leads_more given run records s l =
    let long = ap (λ (rs : List Record). length rs) l.records_are in
    omega (arith, long, run_more l.first s l.others l.goes_on, first_none given run l.now l.first l.begins)

so_far_more : (records : List Record) (seen : Shown) → IsSoFar records seen → length seen.lists.issues ≤ length records
so_far_more [] seen is = let e = ap (λ (s : Shown). length s.lists.issues) is in omega (arith, e)
so_far_more (first ∷ others) seen is =
    let e = ap (λ (s : Shown). length s.lists.issues) is.is in
    omega (arith, e, leads_more seen.given seen.run (first ∷ others) is.state is.leads)

pub issues_few : (h : HistoryView) → IsHistory h → length h.seen.lists.issues ≤ length h.records
issues_few h is = so_far_more h.records h.seen is.so_far

-- ---- issues that were put: at most as many as issues

distinct_of : (es : OpenIssues) → AllPairs (λ a b. a.0 ≢ b.0) es → IsDistinct eqb (keys_of es)
unfolding IsDistinct
distinct_of [] once = tt
distinct_of (e ∷ es) once = (
  firsts es (λ j d lt. once 0 (suc j) d (omega arith) (omega (arith, lt))),
  distinct_of es (λ i j d less lt. once (suc i) (suc j) d (omega (arith, less)) (omega (arith, lt))),
)
  where
    firsts : (fs : OpenIssues) → ((j : ℕ) (d : ℕ × Puts) → j < length fs → e.0 ≢ (get_or fs j d).0) → AllByRecursion (λ y. eqb e.0 y ≡ false) (keys_of fs)
    firsts [] all = tt
    firsts (f ∷ fs) all = (eq_apart e.0 f.0 (all 0 f (omega arith)), firsts fs (λ j d lt. all (suc j) d (omega (arith, lt))))

same_key : (q k : ℕ) → eqb q k ≡ true → q ≡ k
same_key q k h = grind arith

keys_below : (es : OpenIssues) (n q : ℕ) → All (λ (e : ℕ × Puts). e.0 < n) es → list_any (eqb q) (keys_of es) ≡ true → q < n
keys_below [] n q all h = absurd (cc)
keys_below (e ∷ es) n q all h = by (eqb q e.0) refl h (λ rest. keys_below es n q (λ k d lt. all (suc k) d (omega (arith, lt))) rest)
  where
    by : (b : Bool) → eqb q e.0 ≡ b → (b || list_any (eqb q) (keys_of es)) ≡ true → (list_any (eqb q) (keys_of es) ≡ true → q < n) → q < n
    by true is h rest = let same = same_key q e.0 is in omega (arith, same, all 0 e (omega arith))
    by false is h rest = rest h

pub puts_few : (seen : Shown) (puts : OpenIssues) → ArePut seen puts → length puts ≤ length seen.lists.issues
puts_few seen puts are =
    let many : length (keys_of puts) ≡ length puts = length-keys_of puts in
    let within = length-le_from_distinct_below (keys_of puts) (length seen.lists.issues) (distinct_of puts are.once)
    (λ q h. keys_below puts (length seen.lists.issues) q (λ k d lt. let is = are.each k d lt in below seen.lists.issues (get_or puts k d).0 is.issue is.there) h) in
    omega (arith, many, within)

nine_each : (puts : OpenIssues) → All (λ (e : ℕ × Puts). (e.1).count ≤ 9) puts → all_counts puts ≤ 9 * length puts
nine_each [] all = omega arith
nine_each (e ∷ puts) all =
    let rest = nine_each puts (λ k d lt. all (suc k) d (omega (arith, lt))) in
    omega (arith, rest, all 0 e (omega arith))

pub counts_few : (seen : Shown) (puts : OpenIssues) → ArePut seen puts → all_counts puts ≤ 9 * length puts
counts_few seen puts are = nine_each puts (λ k d lt. (are.each k d lt).few)

-- ---- acts

acts_each : (filters : List ActuatorView) → ((k : ℕ) (v : ActuatorView) → slice_get filters k ≡ Some v → length v.acts ≤ most_acts) → all_acts filters ≤ most_acts * length filters
acts_each [] each = omega arith
acts_each (v ∷ filters) each =
    let rest = acts_each filters (λ k x e. each (suc k) x e) in
    let first = each 0 v refl in
    omega (arith, rest, first)

pub acts_few : (filters : List ActuatorView) (site : SiteView) → FiltersReady filters site → all_acts filters ≤ most_acts * 16
acts_few filters site are =
    let each = acts_each filters (λ k v there. (are.each k v there).ready.history.few) in
    omega (arith, each, are.few)

-- ---- all

pub spent_few : (v : EngineView) (filters : List ActuatorView) (site : SiteView) (ignored now : ℕ) → IsHistory v.history → ArePut v.history.seen v.puts → FiltersReady filters site
    → ignored ≤ most_ignored → now ≤ last_moment → 10 * length v.history.records + all_counts v.puts + all_acts filters + ignored + now ≤ most_spent
spent_few v filters site ignored now history are filters_are few within =
    omega (arith, records_few v.history history, issues_few v.history history, puts_few v.history.seen v.puts are, counts_few v.history.seen v.puts are, acts_few filters site filters_are, few, within)
