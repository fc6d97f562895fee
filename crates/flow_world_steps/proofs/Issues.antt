-- What an appended record does to the issues that are shown, and to those that were put.
use Rattle.std.proofs.Common.{◌≡◌, ◌≢◌, ◌⊎◌, inl, inr, ℕ, zero, suc, ◌+◌, ◌-◌, ◌≤◌, ◌<◌, Bool, true, false, cond, List, [], ◌∷◌, length, get_or, set, refl, sym, ◌∙◌, subst, ap, arith}
use Rattle.std.specs.Prelude.{Option, Some, None, Contains, AllPairs, slice_get, nat_eq, min, swap_remove, position}
use Rattle.std.proofs.lemmas.Bool.{false≢true}
use Rattle.std.proofs.lemmas.List.Elements.{All-contains}
use Rattle.std.specs.List.{AllByRecursion, IsDistinct}
use Rattle.std.specs.Map.{lookup, keys_of}
use Rattle.std.specs.Cmp.{nat_eq_equiv}
use Rattle.std.specs.Option.{option_map_or}
use Rattle.std.proofs.lemmas.Option.{none-some}
use Rattle.std.proofs.lemmas.Grind.{get_or-set_at}
use Rattle.std.proofs.lemmas.List.{get_or-take, get_or-set_other, get_or-map, get_or_default, length-take-le, length-set}
use Rattle.std.proofs.lemmas.List.Quantifiers.{position-Some}
use Rattle.std.proofs.lemmas.Map.Entries.{length-keys_of, lookup_head, lookup_tail}
use Rattle.std.proofs.lemmas.Map.Views.{Contains-from_lookup, lookup-from_Contains}
use Rattle.indexmap.specs.IndexMap.{insert_entry, swap_remove_entry}
use Rattle.run_records.specs.declared.record.Record.{Record}
use Rattle.run_records.specs.declared.record.Record.TheVariants as entry
use Rattle.flow_core_rules.specs.Changes.{change, is_waiting, moment_of}
use Rattle.flow_core_rules.specs.Edits.{Edit}
use Rattle.flow_core_rules.specs.Laws.{IsShownAlone, KeepsIssues, end_by, ended_by}
use Rattle.flow_core_rules.specs.Runs.{Next, after, shown_after}
use Rattle.flow_core_rules.specs.State.{Shown, State, shown}
use Rattle.flow_core_rules.specs.declared.issues.Issue.{Issue}
use Rattle.flow_core_rules.specs.declared.issues.IssuePhase.{IssuePhase}
use Rattle.flow_core_rules.specs.declared.issues.IssuePhase.TheVariants as issue_phase
use Rattle.flow_core_rules.proofs.KeepLemmas.{records_keep_issues}
use Rattle.flow_core_rules.proofs.PlacedLemmas.{records_shown}
use Rattle.flow_laws.proofs.Basics.{same_or_not, same_some}
use Rattle.flow_engine.specs.HistoryCalls.{MayCome}
use Rattle.flow_engine.specs.HistoryView.{HistoryView, flow_of}
use Rattle.flow_engine.specs.Histories.{IsHistory, IsSoFar}
use Rattle.flow_engine.proofs.SoFarLemmas.{leads_placed}
use Rattle.flow_engine.specs.OpenIssues.{ArePut, IsPut, OpenIssues, count_of, most_puts, puts_of, with_put, without_ended}
use Rattle.flow_engine.specs.declared.puts.Puts.{Puts}
use Rattle.flow_world_steps.proofs.Records.{so_far_begun, taken_next}

-- ---- the issues that are shown

-- a record leaves the issues that it doesn't end, and one that it ends waits no more; none goes away
pub record KeepsShown (seen next : Shown) (r : Record) : Type 0 where
  pub others : (n : ℕ) (it : Issue) → slice_get seen.lists.issues n ≡ Some it → (ended_by r ≡ Some n → ⊥) → slice_get next.lists.issues n ≡ Some it
  pub ended : (n : ℕ) (it last : Issue) → slice_get seen.lists.issues n ≡ Some it → ended_by r ≡ Some n → slice_get next.lists.issues n ≡ Some last → is_waiting last.phase ≡ false
  pub longer : length seen.lists.issues ≤ length next.lists.issues

record EndsSo (r : Record) : Type 0 where
  pub end : IssuePhase
  pub is : end_by r ≡ Some end
  pub waits_not : is_waiting end ≡ false

ends_so : (r : Record) (n : ℕ) → ended_by r ≡ Some n → EndsSo r
ends_so (entry.Reply issue moment status rule text) n e = record { end = issue_phase.Answered status; is = refl; waits_not = refl }
ends_so (entry.Told issue moment status text) n e = record { end = issue_phase.Told status; is = refl; waits_not = refl }
ends_so (entry.Expire issue moment) n e = record { end = issue_phase.Expired; is = refl; waits_not = refl }
ends_so (entry.Begin run moment books bind) n e = absurd (none-some n e)
ends_so (entry.Walk task moment) n e = absurd (none-some n e)
ends_so (entry.Send task issue agent moment bytes) n e = absurd (none-some n e)
ends_so (entry.Upgrade version moment) n e = absurd (none-some n e)
ends_so (entry.Ask task issue moment bytes) n e = absurd (none-some n e)

pub is_ended : (o : Option ℕ) (n : ℕ) → (o ≡ Some n) ⊎ (o ≡ Some n → ⊥)
is_ended None n = inr (λ e. none-some n e)
is_ended (Some m) n = elim (same_or_not m n) [ inl e ↦ inl (ap Some e) | inr ne ↦ inr (λ e. ne (same_some e)) ]

pub below : {T : Type 0} (xs : List T) (n : ℕ) (x : T) → slice_get xs n ≡ Some x → n < length xs
below [] n x e = absurd (cc)
below (y ∷ xs) zero x e = omega arith
below (y ∷ xs) (suc n) x e = let lt = below xs n x e in omega (arith, lt)

last_there : {T : Type 0} (x : T) (xs : List T) → (z : T) × (slice_get (x ∷ xs) (length xs) ≡ Some z)
last_there x [] = (x, refl)
last_there {T} x (y ∷ xs) =
    let rest = last_there y xs in
    let e : length (y ∷ xs) ≡ suc (length xs) = omega arith in
    (rest.0, subst (λ (n : ℕ). slice_get (x ∷ y ∷ xs) n ≡ Some rest.0) (sym e) rest.1)

longer_by : {T : Type 0} (xs ys : List T) → ((n : ℕ) (x : T) → slice_get xs n ≡ Some x → (y : T) × (slice_get ys n ≡ Some y)) → length xs ≤ length ys
longer_by [] ys each = omega arith
longer_by (x ∷ xs) ys each =
    let last = last_there x xs in
    let there = each (length xs) last.0 last.1 in
    let lt = below ys (length xs) there.0 there.1 in
    omega (arith, lt)

-- from states to what is shown of them
keeps_from : (seen next : Shown) (s new : State) (r : Record) → seen.lists.issues ≡ s.issues → next.lists.issues ≡ new.issues → KeepsIssues s new r → KeepsShown seen next r
keeps_from seen next s new r was now keeps = record {
  others = λ n it there apart. subst (λ (l : List Issue). slice_get l n ≡ Some it) (sym now)
      (keeps.others n it (subst (λ (l : List Issue). slice_get l n ≡ Some it) was there) apart);
  ended = λ n it last there ends then_.
      let so = ends_so r n ends in
      let had = keeps.ended n it so.end (subst (λ (l : List Issue). slice_get l n ≡ Some it) was there) ends so.is in
      let same : record it { phase = so.end } ≡ last = same_some (sym had ∙ subst (λ (l : List Issue). slice_get l n ≡ Some last) now then_) in
      ap (λ (x : Issue). is_waiting x.phase) (sym same) ∙ so.waits_not;
  longer = subst (λ (l : List Issue). length seen.lists.issues ≤ length l) (sym now) (subst (λ (l : List Issue). length l ≤ length new.issues) (sym was)
      (longer_by s.issues new.issues (λ n it there. elim (is_ended (ended_by r) n) [
        | inl ends ↦ let so = ends_so r n ends in (record it { phase = so.end }, keeps.ended n it so.end there ends so.is)
        | inr apart ↦ (it, keeps.others n it there apart)
      ])));
}

-- nothing is shown before the Begin
keeps_first : (seen next : Shown) (r : Record) → seen.lists.issues ≡ [] → KeepsShown seen next r
keeps_first seen next r none = record {
  others = λ n it there apart. absurd (nothing n it (subst (λ (l : List Issue). slice_get l n ≡ Some it) none there));
  ended = λ n it last there ends then_. absurd (nothing n it (subst (λ (l : List Issue). slice_get l n ≡ Some it) none there));
  longer = subst (λ (l : List Issue). length l ≤ length next.lists.issues) (sym none) (omega arith);
}
  where
    nothing : (n : ℕ) (it : Issue) → slice_get [] n ≡ Some it → ⊥
    nothing n it e = let lt = below [] n it e in absurd (omega (arith, lt))

keeps_by : (records : List Record) (h : HistoryView) (IsNext : Record → Type 0) → h.records ≡ records → IsHistory h → (comes : MayCome h IsNext)
    → KeepsShown h.seen (shown_after (moment_of comes.next) comes.edits h.seen) comes.next
keeps_by [] h IsNext are history comes =
    let so_far : IsSoFar [] h.seen = subst (λ (l : List Record). IsSoFar l h.seen) are history.so_far in
    keeps_first h.seen _ comes.next (ap (λ (s : Shown). s.lists.issues) so_far)
keeps_by (first ∷ others) h IsNext are history comes =
    let some : h.records ≢ [] = λ e. not_empty (sym are ∙ e) in
    let is = so_far_begun h.records h.seen history.so_far some in
    let there : change h.seen comes.next ≡ Some comes.edits = taken_next h.records (flow_of h) comes.next comes.edits refl some comes.takes in
    let new : State = after (moment_of comes.next) comes.edits is.state in
    let next : Next is.state comes.next new = record { edits = comes.edits; change_is = subst (λ (x : Shown). change x comes.next ≡ Some comes.edits) is.is there; new_is = refl } in
    let alone : IsShownAlone is.state comes.next new =
    records_shown is.state new comes.next (leads_placed h.seen.given h.seen.run h.records is.state is.leads) next in
    let same : alone.edits ≡ comes.edits = same_some (sym alone.edits_are ∙ next.change_is) in
    let shown_now : shown_after (moment_of comes.next) comes.edits h.seen ≡ shown new =
    ap (shown_after (moment_of comes.next) comes.edits) is.is
    ∙ ap (λ (es : List Edit). shown_after (moment_of comes.next) es (shown is.state)) (sym same) ∙ sym alone.shown_is in
    keeps_from h.seen (shown_after (moment_of comes.next) comes.edits h.seen) is.state new comes.next (ap (λ (s : Shown). s.lists.issues) is.is)
    (ap (λ (s : Shown). s.lists.issues) shown_now) (records_keep_issues is.state new comes.next next)
  where
    not_empty : first ∷ others ≡ [] → ⊥
    not_empty e = let long = ap (λ (l : List Record). length l) e in absurd (omega (arith, long))

pub keeps_shown : (h : HistoryView) (IsNext : Record → Type 0) → IsHistory h → (comes : MayCome h IsNext)
    → KeepsShown h.seen (shown_after (moment_of comes.next) comes.edits h.seen) comes.next
keeps_shown h IsNext history comes = keeps_by h.records h IsNext refl history comes

-- ---- the issues that were put: one put more

pub eq_itself : (n : ℕ) → nat_eq n n ≡ true
eq_itself n = grind arith

pub eq_apart : (n m : ℕ) → n ≢ m → nat_eq n m ≡ false
eq_apart n m ne = by (nat_eq n m) refl
  where
    eq_same : (a b : ℕ) → nat_eq a b ≡ true → a ≡ b
    eq_same a b h = grind arith

    by : (b : Bool) → nat_eq n m ≡ b → b ≡ false
    by false e = refl
    by true e = absurd (ne (eq_same n m e))

pub put_same : (es : OpenIssues) (k : ℕ) (v : Puts) → lookup (nat_eq k) (insert_entry nat_eq es k v) ≡ Some v
put_same [] k v = lookup_head (nat_eq k) (k, v) [] (eq_itself k)
put_same (e ∷ es) k v = by (nat_eq k e.0) refl (put_same es k v)
  where
    by : (b : Bool) → nat_eq k e.0 ≡ b → lookup (nat_eq k) (insert_entry nat_eq es k v) ≡ Some v → lookup (nat_eq k) (cond b ((e.0, v) ∷ es) (e ∷ insert_entry nat_eq es k v)) ≡ Some v
    by true t rest = lookup_head (nat_eq k) (e.0, v) es t
    by false t rest = lookup_tail (nat_eq k) e (insert_entry nat_eq es k v) t ∙ rest

put_other : (es : OpenIssues) (k n : ℕ) (v : Puts) → n ≢ k → lookup (nat_eq n) (insert_entry nat_eq es k v) ≡ lookup (nat_eq n) es
put_other [] k n v ne = lookup_tail (nat_eq n) (k, v) [] (eq_apart n k ne)
put_other (e ∷ es) k n v ne = by (nat_eq k e.0) refl (put_other es k n v ne)
  where
    same_key : (a b : ℕ) → nat_eq a b ≡ true → a ≡ b
    same_key a b h = grind arith

    by : (b : Bool) → nat_eq k e.0 ≡ b → lookup (nat_eq n) (insert_entry nat_eq es k v) ≡ lookup (nat_eq n) es
        → lookup (nat_eq n) (cond b ((e.0, v) ∷ es) (e ∷ insert_entry nat_eq es k v)) ≡ lookup (nat_eq n) (e ∷ es)
    by true t rest =
        let other : nat_eq n e.0 ≡ false = eq_apart n e.0 (λ h. ne (h ∙ sym (same_key k e.0 t))) in
        lookup_tail (nat_eq n) (e.0, v) es other ∙ sym (lookup_tail (nat_eq n) e es other)
    by false t rest = ap (λ (o : Option Puts). cond (nat_eq n e.0) (Some e.1) o) rest

pub counted_same : (es : OpenIssues) (issue moment : ℕ) → count_of es issue < 9 → count_of (with_put es issue moment) issue ≡ count_of es issue + 1
counted_same es issue moment lt =
    let e = ap (λ (o : Option Puts). option_map_or (λ (p : Puts). p.count) o 0) (put_same es issue (record { last = moment; count = min most_puts (count_of es issue + 1) })) in
    omega (arith, e, lt)

pub counted_other : (es : OpenIssues) (issue moment n : ℕ) → n ≢ issue → count_of (with_put es issue moment) n ≡ count_of es n
counted_other es issue moment n ne = ap (λ (o : Option Puts). option_map_or (λ (p : Puts). p.count) o 0) (put_other es issue n _ ne)

pub puts_other : (es : OpenIssues) (issue moment n : ℕ) → n ≢ issue → puts_of (with_put es issue moment) n ≡ puts_of es n
puts_other es issue moment n ne = put_other es issue n _ ne

-- ---- the issues that were put: one that ended is gone, and no other

stays_in : {X : Type 0} (xs : List X) (i : ℕ) (e x : X) → i < length xs → (has : Contains xs x) → has.0 ≢ i → Contains (swap_remove xs i e) x
stays_in {X} xs i e x within has ne =
    let last : X = get_or xs (length xs - 1) e in
    let long : length (swap_remove xs i e) ≡ length xs - 1 = length-take-le (length xs - 1) (set xs i last) (omega (arith, length-set {A = X} xs i last)) in
    elim (same_or_not has.0 (length xs - 1)) [
      | inl end ↦
          let lt : i < length xs - 1 = omega (arith, within, end, has.1, less i has.0 (length xs) within has.1 end ne) in (
            i,
            omega (arith, long, lt),
            get_or-take (length xs - 1) (set xs i last) i x lt ∙ (get_or-set_at xs i i last x refl within ∙ (get_or_default xs (length xs - 1) e x (omega (arith, within))
                ∙ subst (λ (n : ℕ). get_or xs n x ≡ x) end has.2)),
          )
      | inr other ↦
          let lt : has.0 < length xs - 1 = apart has.0 (length xs) has.1 other in
          (has.0, omega (arith, long, lt), get_or-take (length xs - 1) (set xs i last) has.0 x lt ∙ (get_or-set_other xs i has.0 last x ne ∙ has.2))
    ]
  where
    less : (i k n : ℕ) → i < n → k < n → k ≡ n - 1 → k ≢ i → i < n - 1
    less i k n a b e ne = grind arith

    apart : (k n : ℕ) → k < n → k ≢ n - 1 → k < n - 1
    apart k n lt ne = grind arith

distinct_of : (es : OpenIssues) → AllPairs (λ a b. a.0 ≢ b.0) es → IsDistinct nat_eq (keys_of es)
unfolding IsDistinct
distinct_of [] once = tt
distinct_of (e ∷ es) once = (
  firsts es (λ j d lt. once 0 (suc j) d (omega arith) (omega (arith, lt))),
  distinct_of es (λ i j d less lt. once (suc i) (suc j) d (omega (arith, less)) (omega (arith, lt))),
)
  where
    firsts : (fs : OpenIssues) → ((j : ℕ) (d : ℕ × Puts) → j < length fs → e.0 ≢ (get_or fs j d).0) → AllByRecursion (λ y. nat_eq e.0 y ≡ false) (keys_of fs)
    firsts [] all = tt
    firsts (f ∷ fs) all = (eq_apart e.0 f.0 (all 0 f (omega arith)), firsts fs (λ j d lt. all (suc j) d (omega (arith, lt))))

same_number : (a b : ℕ) → nat_eq a b ≡ true → a ≡ b
same_number a b h = grind arith

-- another key than the one that is taken out stays
key_stays : (es : OpenIssues) (m n : ℕ) (p : Puts) → m ≢ n → Contains es (n, p) → Contains (swap_remove_entry (nat_eq m) es) (n, p)
key_stays [] m n p ne has = has
key_stays (e ∷ es) m n p ne has = by (position (nat_eq m) (keys_of (e ∷ es))) refl
  where
    by : (o : Option ℕ) → position (nat_eq m) (keys_of (e ∷ es)) ≡ o → Contains (option_map_or (λ i. swap_remove (e ∷ es) i e) o (e ∷ es)) (n, p)
    by None h = has
    by (Some i) h =
        let found = position-Some (nat_eq m) (keys_of (e ∷ es)) i e.0 h in
        let many : length (keys_of (e ∷ es)) ≡ length (e ∷ es) = length-keys_of (e ∷ es) in
        let within : i < length (e ∷ es) = omega (arith, found.0, many) in
        let key : get_or (keys_of (e ∷ es)) i e.0 ≡ (get_or (e ∷ es) i e).0 = get_or-map (λ (x : ℕ × Puts). x.0) (e ∷ es) i e e.0 within in
        let its : m ≡ (get_or (e ∷ es) i e).0 = same_number m (get_or (keys_of (e ∷ es)) i e.0) found.1 ∙ key in
        stays_in (e ∷ es) i e (n, p) within has (λ at. ne (its ∙ ap (λ (x : ℕ × Puts). x.0) (get_or_default (e ∷ es) i e (n, p) within)
        ∙ ap (λ (k : ℕ). (get_or (e ∷ es) k (n, p)).0) (sym at) ∙ ap (λ (x : ℕ × Puts). x.0) has.2))

-- the puts of an issue that a record doesn't end stay
pub puts_kept : (next : Shown) (puts : OpenIssues) (r : Record) (n : ℕ) (p : Puts) → ArePut next (without_ended puts r) → puts_of puts n ≡ Some p → (ended_by r ≡ Some n → ⊥)
    → puts_of (without_ended puts r) n ≡ Some p
puts_kept next puts r n p are there apart = by (ended_by r) refl
  where
    has : Contains puts (n, p)
    has = Contains-from_lookup same_number n p puts there

    left : (o : Option ℕ) → ended_by r ≡ o → Contains (option_map_or (λ issue. swap_remove_entry (nat_eq issue) puts) o puts) (n, p)
    left None e = has
    left (Some m) e = key_stays puts m n p (λ h. apart (e ∙ ap Some h)) has

    by : (o : Option ℕ) → ended_by r ≡ o → puts_of (without_ended puts r) n ≡ Some p
    by o e = lookup-from_Contains nat_eq_equiv n p (without_ended puts r) (distinct_of (without_ended puts r) are.once) (left (ended_by r) refl)

-- what is left was there
was_in : {X : Type 0} (xs : List X) (i : ℕ) (e x : X) → i < length xs → Contains (swap_remove xs i e) x → Contains xs x
was_in {X} xs i e x within has =
    let last : X = get_or xs (length xs - 1) e in
    let long : length (swap_remove xs i e) ≡ length xs - 1 = length-take-le (length xs - 1) (set xs i last) (omega (arith, length-set {A = X} xs i last)) in
    let lt : has.0 < length xs - 1 = omega (arith, has.1, long) in
    let here : get_or (set xs i last) has.0 x ≡ x = sym (get_or-take (length xs - 1) (set xs i last) has.0 x lt) ∙ has.2 in
    elim (same_or_not has.0 i) [
      | inl at ↦ (
        length xs - 1,
        omega (arith, within),
        sym (get_or_default xs (length xs - 1) e x (omega (arith, within))) ∙ sym (get_or-set_at xs i has.0 last x at within) ∙ here,
      )
      | inr other ↦ (has.0, omega (arith, lt), sym (get_or-set_other xs i has.0 last x other) ∙ here)
    ]

key_was : (es : OpenIssues) (m : ℕ) (x : ℕ × Puts) → Contains (swap_remove_entry (nat_eq m) es) x → Contains es x
key_was [] m x has = has
key_was (e ∷ es) m x has = by (position (nat_eq m) (keys_of (e ∷ es))) refl has
  where
    by : (o : Option ℕ) → position (nat_eq m) (keys_of (e ∷ es)) ≡ o → Contains (option_map_or (λ i. swap_remove (e ∷ es) i e) o (e ∷ es)) x → Contains (e ∷ es) x
    by None h has = has
    by (Some i) h has =
        let found = position-Some (nat_eq m) (keys_of (e ∷ es)) i e.0 h in
        let many : length (keys_of (e ∷ es)) ≡ length (e ∷ es) = length-keys_of (e ∷ es) in
        was_in (e ∷ es) i e x (omega (arith, found.0, many)) has

left_was : (puts : OpenIssues) (o : Option ℕ) (x : ℕ × Puts) → Contains (option_map_or (λ issue. swap_remove_entry (nat_eq issue) puts) o puts) x → Contains puts x
left_was puts None x has = has
left_was puts (Some m) x has = key_was puts m x has

-- the puts of an issue that a record leaves are those that it had
pub puts_were : (seen : Shown) (puts : OpenIssues) (r : Record) (n : ℕ) (p : Puts) → ArePut seen puts → puts_of (without_ended puts r) n ≡ Some p → puts_of puts n ≡ Some p
puts_were seen puts r n p are e =
    lookup-from_Contains nat_eq_equiv n p puts (distinct_of puts are.once) (left_was puts (ended_by r) (n, p) (Contains-from_lookup same_number n p (without_ended puts r) e))

-- what is known of an issue that was put
pub is_put_of : (seen : Shown) (puts : OpenIssues) (n : ℕ) (p : Puts) → ArePut seen puts → puts_of puts n ≡ Some p → IsPut seen (n, p)
is_put_of seen puts n p are e = All-contains (IsPut seen) puts (n, p) are.each (Contains-from_lookup same_number n p puts e)

-- an issue that is put after a record was put before it, and the record doesn't end it
pub put_before : (seen next : Shown) (puts now : OpenIssues) (r : Record) (n : ℕ) → KeepsShown seen next r → ArePut seen puts → ArePut next now → now ≡ without_ended puts r
    → puts_of now n ≢ None → (puts_of puts n ≢ None) × (ended_by r ≡ Some n → ⊥)
put_before seen next puts now r n keeps are are_now is some = by (puts_of now n) refl some
  where
    found : (p : Puts) → puts_of now n ≡ Some p → Contains puts (n, p)
    found p e = left_was puts (ended_by r) (n, p) (subst (λ (l : OpenIssues). Contains l (n, p)) is (Contains-from_lookup same_number n p now e))

    there : (p : Puts) → puts_of now n ≡ Some p → puts_of puts n ≡ Some p
    there p e = lookup-from_Contains nat_eq_equiv n p puts (distinct_of puts are.once) (found p e)

    not_ended : (p : Puts) → puts_of now n ≡ Some p → ended_by r ≡ Some n → ⊥
    not_ended p e ends =
        let was : IsPut seen (n, p) = All-contains (IsPut seen) puts (n, p) are.each (found p e) in
        let put : IsPut next (n, p) = All-contains (IsPut next) now (n, p) are_now.each (Contains-from_lookup same_number n p now e) in
        false≢true (sym (keeps.ended n was.issue put.issue was.there ends put.there) ∙ put.waits)

    by : (o : Option Puts) → puts_of now n ≡ o → o ≢ None → (puts_of puts n ≢ None) × (ended_by r ≡ Some n → ⊥)
    by None e not = absurd (not refl)
    by (Some p) e not = (λ none. none-some p (sym none ∙ there p e), not_ended p e)
