-- The put of a command.
use Rattle.std.proofs.Common.{◌≡◌, ◌≢◌, ℕ, zero, suc, ◌==◌, ◌<◌, ◌≤◌, ◌-◌, Bool, true, false, cond, List, [], ◌∷◌, length, get_or, Some, None, nat_eq, arith, refl, ap, sym, subst, ◌∙◌}
use Rattle.std.specs.Prelude.{slice_get, AllPairs, Contains}
use Rattle.std.specs.List.{AllByRecursion, IsDistinct}
use Rattle.std.specs.Map.{keys_of}
use Rattle.std.proofs.lemmas.List.Elements.{All-contains, All-contains_itself, All-from_recursion}
use Rattle.std.proofs.lemmas.Map.Views.{lookup-from_Contains}
use Rattle.std.specs.Cmp.{nat_eq_equiv}
use Rattle.cacao_site.specs.declared.parcel.Parcel.{Parcel}
use Rattle.cacao_site.specs.SiteCalls.{Puts as PutsParcel}
use Rattle.cacao_site.specs.View.{SiteView}
use Rattle.run_records.specs.declared.record.Record.{Record}
use Rattle.run_records.specs.declared.record.Record.TheVariants as entry
use Rattle.run_records.specs.Ranges.{InRange}
use Rattle.run_journal.specs.Durable.{IsImage}
use Rattle.run_journal.proofs.DurableLemmas.{images_stay}
use Rattle.flow_core_rules.specs.declared.issues.Issue.{Issue}
use Rattle.flow_core_rules.specs.Laws.{HasRecords, IssuesHaveRecords, record_of_issue}
use Rattle.flow_core_rules.specs.Runnable.{IsRunnable}
use Rattle.flow_core_rules.specs.State.{Shown}
use Rattle.flow_engine_history.specs.SetupLaws.{AcceptedIsRunnable}
use Rattle.flow_engine_history.specs.HistoryView.{HistoryView, IsReady, entries_of}
use Rattle.flow_engine_history.specs.Histories.{IsHistory, IsSoFar}
use Rattle.flow_engine.specs.declared.puts.Puts.{Puts}
use Rattle.flow_engine.specs.EngineCalls.{IsOpen, IsWaiting}
use Rattle.flow_engine.specs.KeptPuts.{AreCounted, IsCounted}
use Rattle.flow_engine.specs.OpenIssues.{OpenIssues, puts_of, ArePut, IsPut}
use Rattle.flow_engine.proofs.OverdueLemmas.{put_at}

-- ---- the issues that were put, with one put more

distinct_apart : (es : OpenIssues) → IsDistinct nat_eq (keys_of es) → AllPairs (λ a b. a.0 ≢ b.0) es
unfolding IsDistinct
distinct_apart [] distinct = λ i j d less within. absurd (omega arith)
distinct_apart (e ∷ es) distinct = λ i j d less within. at i j d less within (distinct_apart es distinct.1)
  where
    apart : (k n : ℕ) → nat_eq k n ≡ false → k ≡ n → ⊥
    apart k n h same = grind arith

    first : (keys : OpenIssues) → AllByRecursion (λ n. nat_eq e.0 n ≡ false) (keys_of keys) → (j : ℕ) (d : ℕ × Puts) → j < length keys → e.0 ≢ (get_or keys j d).0
    first [] all j d within = absurd (omega arith)
    first (f ∷ fs) all zero d within = apart e.0 f.0 all.0
    first (f ∷ fs) all (suc j) d within = first fs all.1 j d (omega arith)

    at : (i j : ℕ) (d : ℕ × Puts) → i < j → j < length (e ∷ es) → AllPairs (λ a b. a.0 ≢ b.0) es → (get_or (e ∷ es) i d).0 ≢ (get_or (e ∷ es) j d).0
    at zero zero d less within rest = absurd (omega arith)
    at zero (suc j) d less within rest = first es distinct.0 j d (omega arith)
    at (suc i) zero d less within rest = absurd (omega arith)
    at (suc i) (suc j) d less within rest = rest i j d (omega arith) (omega arith)

-- issues with these puts wait
pub put_from : (seen : Shown) (issues : OpenIssues) → AreCounted issues → ((n : ℕ) (puts : Puts) → puts_of issues n ≡ Some puts → IsPut seen (n, puts)) → ArePut seen issues
put_from seen issues counted each = record {
  each = λ k d within. each _ _ (found (get_or issues k d) (All-contains_itself issues k d within));
  once = distinct_apart issues counted.once;
}
  where
    found : (x : ℕ × Puts) → Contains issues x → puts_of issues x.0 ≡ Some x.1
    found x has = lookup-from_Contains nat_eq_equiv x.0 x.1 issues counted.once has

pub puts_more : (seen : Shown) (old new : OpenIssues) (issue : ℕ) (it : Issue) → ArePut seen old → AreCounted new → IsWaiting seen issue it
    → ((n : ℕ) → nat_eq issue n ≡ false → puts_of new n ≡ puts_of old n) → ArePut seen new
puts_more seen old new issue it are counted waiting others = put_from seen new counted (λ n puts is. by n puts is (nat_eq issue n) refl)
  where
    same_number : (a b : ℕ) → nat_eq a b ≡ true → a ≡ b
    same_number a b h = grind arith

    by : (n : ℕ) (puts : Puts) → puts_of new n ≡ Some puts → (b : Bool) → nat_eq issue n ≡ b → IsPut seen (n, puts)
    by n puts is false apart = put_at seen old n puts are (sym (others n apart) ∙ is)
    by n puts is true same =
        let c : IsCounted puts = counted.each n puts is in
        record {
          issue = it;
          there = subst (λ k. slice_get seen.lists.issues k ≡ Some it) (same_number issue n same) waiting.there;
          waits = waiting.waits;
          of_filter = waiting.of_filter;
          some = c.some;
          few = c.few;
          in_time = c.in_time;
        }

-- ---- an issue that waits is open

pub record IsInRangeOf (it : Issue) : Type 0 where
  pub low : 1 ≤ it.agent
  pub high : it.agent ≤ 16
  pub small : length it.bytes ≤ 1_048_576

in_range_of : (n : ℕ) (it : Issue) → it.agent ≢ 0 → InRange (record_of_issue n it) → IsInRangeOf it
in_range_of n it apart fits = by (it.agent == 0) refl fits
  where
    zero_is : (k : ℕ) → (k == 0) ≡ true → k ≡ 0
    zero_is k h = grind arith

    by : (b : Bool) → (it.agent == 0) ≡ b → InRange (cond b (entry.Ask it.task n it.moment it.bytes) (entry.Send it.task n it.agent it.moment it.bytes)) → IsInRangeOf it
    by true e h = absurd (apart (zero_is it.agent e))
    by false e h = record { low = h.some_agent; high = h.last_agent; small = h.short_bytes }

has_records : IssuesHaveRecords → (h : HistoryView) (n : ℕ) (it : Issue) → IsRunnable h.seen.given → IsSoFar h.records h.seen → slice_get h.seen.lists.issues n ≡ Some it → HasRecords h.records n it
has_records law h n it runnable so_far there = by h.records so_far
  where
    by : (rs : List Record) → IsSoFar rs h.seen → HasRecords rs n it
    by [] is = absurd (no (sym (ap (λ (s : Shown). slice_get s.lists.issues n) is) ∙ there))
      where
        no : None ≡ Some it → ⊥
        no e = cc
    by (r ∷ rs) is =
        law h.seen.given h.seen.run (r ∷ rs) is.state n it runnable is.leads (sym (ap (λ (s : Shown). slice_get s.lists.issues n) is.is) ∙ there)

pub is_open : IssuesHaveRecords → AcceptedIsRunnable → (h : HistoryView) (n : ℕ) (it : Issue) → IsHistory h → IsWaiting h.seen n it → IsOpen h n it
is_open law runnable h n it history waiting =
    let given = h.seen.given in
    let has : HasRecords h.records n it = has_records law h n it (runnable given.texts given.bind given history.accepted) history.so_far waiting.there in
    let fits = in_range_of n it waiting.of_filter (All-contains InRange h.records (record_of_issue n it) (All-from_recursion InRange h.records history.ranges) has.issued) in
    record { waiting = waiting; has = has; low = fits.low; high = fits.high; small = fits.small }

-- ---- the site

pub ready_after_put : (h : HistoryView) (parcel : Parcel) (old new : SiteView) → IsReady h old → PutsParcel parcel old new → IsReady h new
ready_after_put h parcel old new ready puts = λ whole. images_stay 0 old.disk new.disk (IsImage h.prepared (entries_of h.records)) puts.disk.disk (ready whole)
