-- Issues that were put, after a record that may end one of them.
use Rattle.std.proofs.Common.{◌≡◌, ◌≢◌, ◌⊎◌, inl, inr, ℕ, ◌-◌, ◌<◌, ◌≤◌, Bool, true, false, cond, List, [], ◌∷◌, length, get_or, set, Option, Some, None, refl, sym, ap, subst, ◌∙◌, arith}
use Rattle.std.specs.Prelude.{AllPairs, nat_eq, nat_lt, position, swap_remove, slice_get}
use Rattle.std.specs.List.{position_or_len}
use Rattle.std.specs.Map.{keys_of}
use Rattle.std.specs.Option.{option_map_or}
use Rattle.std.proofs.lemmas.Bool.Decides.{eqb_tells}
use Rattle.std.proofs.lemmas.Grind.{get_or-set_at}
use Rattle.std.proofs.lemmas.List.{get_or-take, get_or-set_other, get_or-map, get_or_default, length-take-le, length-set}
use Rattle.std.proofs.lemmas.List.Quantifiers.{position-Some}
use Rattle.std.proofs.lemmas.List.Sums.{fails_before_first}
use Rattle.std.proofs.lemmas.Map.Entries.{length-keys_of}
use Rattle.indexmap.specs.IndexMap.{swap_remove_entry}
use Rattle.run_records.specs.declared.record.Record.{Record}
use Rattle.flow_core_rules.specs.Laws.{ended_by}
use Rattle.flow_core_rules.specs.State.{Shown}
use Rattle.flow_core_rules.specs.declared.issues.Issue.{Issue}
use Rattle.flow_engine.specs.declared.puts.Puts.{Puts}
use Rattle.flow_engine.specs.OpenIssues.{ArePut, IsPut, OpenIssues, without_ended}

-- ---- an element is taken out for the last one

-- where the k-th element stood then
record StoodAt {X : Type 0} (xs new : List X) (i k : ℕ) : Type 0 where
  place : ℕ
  below : place < length xs
  apart : place ≢ i
  is : (d : X) → get_or new k d ≡ get_or xs place d
  where_it_was : ((k ≡ i) × (place ≡ length xs - 1)) ⊎ ((k ≢ i) × (place ≡ k))

module _ {X : Type 0} (xs : List X) (i : ℕ) (e : X) (within : i < length xs) where
  last : X
  last = get_or xs (length xs - 1) e

  long : length (swap_remove xs i e) ≡ length xs - 1
  unfolding last
  long = length-take-le (length xs - 1) (set xs i last) (omega (arith, length-set {A = X} xs i last))

  stood : (k : ℕ) → k < length xs - 1 → StoodAt xs (swap_remove xs i e) i k
  unfolding last
  stood k lt = elim (eqb_tells k i) [
    | inl same ↦ record {
      place = length xs - 1;
      below = omega arith;
      apart = λ h. absurd (omega (arith, same.1, h));
      is = λ d. get_or-take (length xs - 1) (set xs i last) k d lt ∙ (get_or-set_at xs i k last d same.1 within ∙ get_or_default xs (length xs - 1) e d (omega arith));
      where_it_was = inl (same.1, refl);
    }
    | inr other ↦ record {
      place = k;
      below = omega arith;
      apart = other.1;
      is = λ d. get_or-take (length xs - 1) (set xs i last) k d lt ∙ get_or-set_other xs i k last d other.1;
      where_it_was = inr (other.1, refl);
    }
  ]

  -- two elements stood at two places
  two_places : (new : List X) (j k : ℕ) → j < k → k < length xs - 1 → (a : StoodAt xs new i j) (b : StoodAt xs new i k) → a.place ≢ b.place
  two_places new j k less lt a b = by a.where_it_was b.where_it_was
    where
      by : ((j ≡ i) × (a.place ≡ length xs - 1)) ⊎ ((j ≢ i) × (a.place ≡ j)) → ((k ≡ i) × (b.place ≡ length xs - 1)) ⊎ ((k ≢ i) × (b.place ≡ k)) → a.place ≢ b.place
      by (inl p) (inl q) h = absurd (omega (arith, less, p.0, q.0))
      by (inl p) (inr q) h = absurd (omega (arith, lt, p.1, q.1, h))
      by (inr p) (inl q) h = absurd (omega (arith, less, lt, p.1, q.1, h))
      by (inr p) (inr q) h = absurd (omega (arith, less, p.1, q.1, h))

-- ---- entries of which one is taken out

abbrev Entry : Type 0
Entry = ℕ × Puts

abbrev Apart : Entry → Entry → Type 0
Apart a b = a.0 ≢ b.0

-- what is left: each entry was there under another key, and each key is there once
record Left (es new : List Entry) (n : ℕ) : Type 0 where
  was : (k : ℕ) (d : Entry) → k < length new → (j : ℕ) × (j < length es) × (get_or new k d ≡ get_or es j d) × ((get_or es j d).0 ≢ n)
  once : AllPairs Apart new

two_keys : (es : List Entry) → AllPairs Apart es → (i j : ℕ) (d : Entry) → i < length es → j < length es → i ≢ j → (get_or es i d).0 ≢ (get_or es j d).0
two_keys es once i j d p q other same = elim (before i j other) [
  | inl less ↦ once i j d less q same
  | inr more ↦ once j i d more p (sym same)
]
  where
    before : (a b : ℕ) → a ≢ b → (a < b) ⊎ (b < a)
    before a b apart = grind arith

same_number : (a b : ℕ) → nat_eq a b ≡ true → a ≡ b
same_number a b h = grind arith

other_number : (a b : ℕ) → nat_eq a b ≡ false → b ≢ a
other_number a b h e = grind arith

none_there : (test : ℕ → Bool) (ks : List ℕ) → position test ks ≡ None → length ks ≤ position_or_len test ks
none_there test ks h = by (nat_lt (position_or_len test ks) (length ks)) refl h
  where
    not_less : (a b : ℕ) → nat_lt a b ≡ false → b ≤ a
    not_less a b e = grind arith

    none_some : Some (position_or_len test ks) ≡ None → ⊥
    none_some e = cc

    by : (b : Bool) → nat_lt (position_or_len test ks) (length ks) ≡ b → cond b (Some (position_or_len test ks)) None ≡ None → length ks ≤ position_or_len test ks
    by true e g = absurd (none_some g)
    by false e g = not_less (position_or_len test ks) (length ks) e

-- no entry has the key
left_all : (es : List Entry) (n : ℕ) → AllPairs Apart es → position (nat_eq n) (keys_of es) ≡ None → Left es es n
left_all es n once h = record {
  was = λ k d lt.
      let many : length (keys_of es) ≡ length es = length-keys_of es in
      let key : get_or (keys_of es) k d.0 ≡ (get_or es k d).0 = get_or-map (λ (e : Entry). e.0) es k d d.0 lt in
      let misses : nat_eq n (get_or (keys_of es) k d.0) ≡ false = fails_before_first (nat_eq n) (keys_of es) k d.0 (omega (arith, none_there (nat_eq n) (keys_of es) h)) in
      (k, lt, refl, other_number n (get_or es k d).0 (subst (λ m. nat_eq n m ≡ false) key misses));
  once = once;
}

-- the i-th entry has it
left_others : (es : List Entry) (n i : ℕ) (e : Entry) → AllPairs Apart es → position (nat_eq n) (keys_of es) ≡ Some i → Left es (swap_remove es i e) n
left_others es n i e once h =
    let many : length (keys_of es) ≡ length es = length-keys_of es in
    let found = position-Some (nat_eq n) (keys_of es) i e.0 h in
    let within : i < length es = omega (arith, found.0) in
    let len : length (swap_remove es i e) ≡ length es - 1 = long es i e within in
    let its : n ≡ (get_or es i e).0 = same_number n (get_or (keys_of es) i e.0) found.1 ∙ get_or-map (λ (x : Entry). x.0) es i e e.0 within in
    record {
      was = λ k d lt.
          let s : StoodAt es (swap_remove es i e) i k = stood es i e within k (omega (arith, lt, len)) in
          let mine : n ≡ (get_or es i d).0 = its ∙ ap (λ (x : Entry). x.0) (get_or_default es i e d within) in
          (s.place, s.below, s.is d, λ same. two_keys es once s.place i d s.below within s.apart (same ∙ mine));
      once = λ j k d less lt same.
          let a : StoodAt es (swap_remove es i e) i j = stood es i e within j (omega (arith, less, lt, len)) in
          let b : StoodAt es (swap_remove es i e) i k = stood es i e within k (omega (arith, lt, len)) in
          two_keys es once a.place b.place d a.below b.below (two_places es i e within (swap_remove es i e) j k less (omega (arith, lt, len)) a b)
          (ap (λ (x : Entry). x.0) (sym (a.is d)) ∙ same ∙ ap (λ (x : Entry). x.0) (b.is d));
    }

left_entries : (es : List Entry) (n : ℕ) → AllPairs Apart es → Left es (swap_remove_entry (nat_eq n) es) n
left_entries [] n once = record { was = λ k d lt. absurd (omega arith); once = once }
left_entries (e ∷ es) n once = by (position (nat_eq n) (keys_of (e ∷ es))) refl
  where
    by : (o : Option ℕ) → position (nat_eq n) (keys_of (e ∷ es)) ≡ o → Left (e ∷ es) (option_map_or (λ i. swap_remove (e ∷ es) i e) o (e ∷ es)) n
    by None h = left_all (e ∷ es) n once h
    by (Some i) h = left_others (e ∷ es) n i e once h

-- ---- issues that were put

-- issues that a record doesn't end stay
pub record KeepsOthers (seen next : Shown) (r : Record) : Type 0 where
  pub others : (n : ℕ) (issue : Issue) → slice_get seen.lists.issues n ≡ Some issue → (ended_by r ≡ Some n → ⊥) → slice_get next.lists.issues n ≡ Some issue

put_stays : (seen next : Shown) (r : Record) (one : Entry) → KeepsOthers seen next r → (ended_by r ≡ Some one.0 → ⊥) → IsPut seen one → IsPut next one
put_stays seen next r one keeps apart put = record {
  issue = put.issue;
  there = keeps.others one.0 put.issue put.there apart;
  waits = put.waits;
  of_filter = put.of_filter;
  some = put.some;
  few = put.few;
  in_time = put.in_time;
}

-- those that were put are put, but for the one that a record ends
pub puts_stay : (seen next : Shown) (r : Record) (issues : OpenIssues) → KeepsOthers seen next r → ArePut seen issues → ArePut next (without_ended issues r)
puts_stay seen next r issues keeps puts = by (ended_by r) refl
  where
    inner : (a b : ℕ) → Some a ≡ Some b → a ≡ b
    inner a b h = cc

    none_some : (a : ℕ) → None ≡ Some a → ⊥
    none_some a h = cc

    by : (o : Option ℕ) → ended_by r ≡ o → ArePut next (option_map_or (λ issue. swap_remove_entry (nat_eq issue) issues) o issues)
    by None h = record {
      each = λ k d lt. put_stays seen next r (get_or issues k d) keeps (λ e. none_some (get_or issues k d).0 (sym h ∙ e)) (puts.each k d lt);
      once = puts.once;
    }
    by (Some n) h =
        let left : Left issues (swap_remove_entry (nat_eq n) issues) n = left_entries issues n puts.once in
        record {
          each = λ k d lt.
              let w = left.was k d lt in
              subst (IsPut next) (sym w.2) (put_stays seen next r (get_or issues w.0 d) keeps (λ e. w.3 (inner (get_or issues w.0 d).0 n (sym e ∙ h))) (puts.each w.0 d w.1));
          once = left.once;
        }
