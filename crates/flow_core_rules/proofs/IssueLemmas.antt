-- Issues and their records.
use Rattle.std.proofs.Common.{◌≡◌, ◌⊎◌, ℕ, zero, suc, ◌<◌, ◌≤◌, ◌==◌, Bool, true, false, cond, List, [], ◌∷◌, ◌++◌, length, Option, Some, None, arith, refl, ap, sym, subst, ◌∙◌, append_assoc, length-append, inl, inr}
use Rattle.std.specs.Prelude.{IfSome, All, Contains, option_map, slice_get, map, find}
use Rattle.std.specs.Option.{option_map_or}
use Rattle.std.specs.Str.{bytes_eq}
use Rattle.std.proofs.lemmas.List.{append-nil}
use Rattle.std.proofs.lemmas.List.Elements.{All-nil, All-push, All-head, All-tail, Contains-append_left, Contains-push}
use Rattle.run_records.specs.declared.record.Record.{Record}
use Rattle.run_records.specs.declared.record.Record.TheVariants as entry
use Rattle.cacao_book.specs.declared.books.Book.{Book}
use Rattle.flow_core_rules.specs.declared.issues.Issue.{Issue}
use Rattle.flow_core_rules.specs.declared.issues.IssuePhase.{IssuePhase}
use Rattle.flow_core_rules.specs.declared.issues.IssuePhase.TheVariants as issue_phase
use Rattle.flow_core_rules.specs.Givens.{Given}
use Rattle.flow_core_rules.specs.State.{State, shown}
use Rattle.flow_core_rules.specs.Edits.{Edit, edited, all_edited, changed_at, closed}
use Rattle.flow_core_rules.specs.Edits.Edit.{opens, writes, makes, issues, closes}
use Rattle.flow_core_rules.specs.Places.{filter_of}
use Rattle.flow_core_rules.specs.Changes.{moment_of, is_waiting}
use Rattle.flow_core_rules.specs.Runs.{Next, GoesOn, Leads, after, begun, begin_of, blank, first_task}
use Rattle.flow_core_rules.specs.Laws.{issued_by, ended_by, end_by, record_of_issue, HasEnd, HasRecords, IssuesAreNew, IssuesHaveRecords}
use Rattle.flow_core_rules.proofs.RunLemmas.{some_inner}
use Rattle.flow_core_rules.proofs.QuietLemmas.{IsQuiet, keeps_issues, keeps_given}
use Rattle.flow_core_rules.proofs.ShapeLemmas.{new_issue, Issued, IssueShape, change_shape}

-- ---- places of lists

pub get_push : {A : Type 0} (xs : List A) (x y : A) (k : ℕ) → slice_get (xs ++ x ∷ []) k ≡ Some y → (slice_get xs k ≡ Some y) ⊎ ((k ≡ length xs) × (x ≡ y))
get_push [] x y zero e = inr (refl, some_inner x y e)
get_push [] x y (suc k) e = inl e
get_push (z ∷ xs) x y zero e = inl e
get_push (z ∷ xs) x y (suc k) e = by (get_push xs x y k e)
  where
    by : (slice_get xs k ≡ Some y) ⊎ ((k ≡ length xs) × (x ≡ y)) → (slice_get xs k ≡ Some y) ⊎ ((suc k ≡ length (z ∷ xs)) × (x ≡ y))
    by (inl h) = inl h
    by (inr h) = inr (ap suc h.0, h.1)

pub get_below : {A : Type 0} (xs : List A) (k : ℕ) (x : A) → slice_get xs k ≡ Some x → k < length xs
get_below [] k x e = absurd (no e)
  where
    no : None ≡ Some x → ⊥
    no h = cc
get_below (y ∷ ys) zero x e = omega arith
get_below (y ∷ ys) (suc k) x e = let h : k < length ys = get_below ys k x e in omega arith

-- the element at a place after one was changed
pub record WasAt {A : Type 0} (xs : List A) (n : ℕ) (f : A → A) (k : ℕ) (y : A) : Type 0 where
  pub was : A
  pub was_is : slice_get xs k ≡ Some was
  pub same : k ≡ n → y ≡ f was
  pub other : (k ≡ n → ⊥) → y ≡ was

pub get_changed : {A : Type 0} (n : ℕ) (f : A → A) (xs : List A) (k : ℕ) (y : A) → slice_get (changed_at n f xs) k ≡ Some y → WasAt xs n f k y
get_changed n f [] k y e = absurd (no e)
  where
    no : None ≡ Some y → ⊥
    no h = cc
get_changed zero f (x ∷ xs) zero y e = record { was = x; was_is = refl; same = λ h. sym (some_inner (f x) y e); other = λ h. absurd (h refl) }
get_changed zero f (x ∷ xs) (suc k) y e = record { was = y; was_is = e; same = λ h. absurd (omega arith); other = λ h. refl }
get_changed (suc n) f (x ∷ xs) zero y e = record { was = x; was_is = refl; same = λ h. absurd (omega arith); other = λ h. sym (some_inner x y e) }
get_changed (suc n) f (x ∷ xs) (suc k) y e =
    let rest : WasAt xs n f k y = get_changed n f xs k y e in
    record { was = rest.was; was_is = rest.was_is; same = λ h. rest.same (omega arith); other = λ h. rest.other (λ g. h (ap suc g)) }

length-changed : {A : Type 0} (n : ℕ) (f : A → A) (xs : List A) → length (changed_at n f xs) ≡ length xs
length-changed n f [] = refl
length-changed zero f (x ∷ xs) = refl
length-changed (suc n) f (x ∷ xs) = ap suc (length-changed n f xs)

-- ---- what holds of the records and the issues of a run

abbrev IsBelow : ℕ → Option ℕ → Type 0
IsBelow n o = IfSome o (λ k. k < n)

abbrev EndsOther : ℕ → Record → Type 0
EndsOther n r = ended_by r ≡ Some n → ⊥

record Kept (Ok : Type 0) (records : List Record) (is : List Issue) : Type 0 where
  issued : All (λ r. IsBelow (length is) (issued_by r)) records
  ended : All (λ r. IsBelow (length is) (ended_by r)) records
  has : Ok → (n : ℕ) (issue : Issue) → slice_get is n ≡ Some issue → HasRecords records n issue

below-more : (o : Option ℕ) (n m : ℕ) → n ≤ m → IsBelow n o → IsBelow m o
below-more None n m le h = tt
below-more (Some k) n m le h = omega arith

All-weaken : {A : Type 0} (P Q : A → Type 0) (xs : List A) → ((x : A) → P x → Q x) → All P xs → All Q xs
All-weaken P Q xs f h = λ k d lt. f _ (h k d lt)

none_below : (n : ℕ) (o : Option ℕ) → o ≡ None → IsBelow n o
none_below n o e = subst (IsBelow n) (sym e) (tt {0})

some_below : (n k : ℕ) (o : Option ℕ) → o ≡ Some k → k < n → IsBelow n o
some_below n k o e less = subst (IsBelow n) (sym e) less

more_end : (records : List Record) (r : Record) (n : ℕ) (end : IssuePhase) → HasEnd records n end → HasEnd (records ++ r ∷ []) n end
more_end records r n end h = record { last = h.last; among = Contains-append_left records (r ∷ []) h.last h.among; issue_is = h.issue_is; end_is = h.end_is }

-- one that a record has not sent and not ended has the records that it had
more_has : (records : List Record) (r : Record) (n : ℕ) (issue : Issue) → HasRecords records n issue → EndsOther n r → HasRecords (records ++ r ∷ []) n issue
more_has records r n issue h ends = record {
  issued = Contains-append_left records (r ∷ []) (record_of_issue n issue) h.issued;
  waits = λ w. All-push (λ e. ended_by e ≡ Some n → ⊥) records r (h.waits w) ends;
  ended = λ w. more_end records r n issue.phase (h.ended w);
}

no_end : (r : Record) (n : ℕ) → ended_by r ≡ None → EndsOther n r
no_end r n none some = no (sym none ∙ some)
  where
    no : None ≡ Some n → ⊥
    no h = cc

-- a record that touches no issue
kept-quiet : (Ok : Type 0) (records : List Record) (r : Record) (is : List Issue) → issued_by r ≡ None → ended_by r ≡ None → Kept Ok records is → Kept Ok (records ++ r ∷ []) is
kept-quiet Ok records r is a b k = record {
  issued = All-push (λ e. IsBelow (length is) (issued_by e)) records r k.issued (none_below (length is) (issued_by r) a);
  ended = All-push (λ e. IsBelow (length is) (ended_by e)) records r k.ended (none_below (length is) (ended_by r) b);
  has = λ ok n issue e. more_has records r n issue (k.has ok n issue e) (no_end r n b);
}

-- a record that makes one
kept-issued : (Ok : Type 0) (records : List Record) (r : Record) (is : List Issue) (new : Issue) → issued_by r ≡ Some (length is) → ended_by r ≡ None → (Ok → record_of_issue (length is) new ≡ r)
    → is_waiting new.phase ≡ true → Kept Ok records is → Kept Ok (records ++ r ∷ []) (is ++ new ∷ [])
kept-issued Ok records r is new a b own waiting k =
    let grown : length (is ++ new ∷ []) ≡ suc (length is) = omega (arith, length-append is (new ∷ [])) in
    record {
      issued = All-push (λ e. IsBelow (length (is ++ new ∷ [])) (issued_by e)) records r
          (All-weaken (λ e. IsBelow (length is) (issued_by e)) (λ e. IsBelow (length (is ++ new ∷ [])) (issued_by e)) records (λ e h. below-more (issued_by e) (length is) (length (is ++ new ∷ [])) (omega arith) h) k.issued)
          (some_below (length (is ++ new ∷ [])) (length is) (issued_by r) a (omega arith));
      ended = All-push (λ e. IsBelow (length (is ++ new ∷ [])) (ended_by e)) records r
          (All-weaken (λ e. IsBelow (length is) (ended_by e)) (λ e. IsBelow (length (is ++ new ∷ [])) (ended_by e)) records (λ e h. below-more (ended_by e) (length is) (length (is ++ new ∷ [])) (omega arith) h) k.ended)
          (none_below (length (is ++ new ∷ [])) (ended_by r) b);
      has = λ ok n issue e. by ok n issue (get_push is new issue n e);
    }
  where
    no_both : (c : Bool) → c ≡ true → c ≡ false → ⊥
    no_both true x y = cc
    no_both false x y = cc

    past : (e : Record) → IsBelow (length is) (ended_by e) → ended_by e ≡ Some (length is) → ⊥
    past e h same = let less : length is < length is = subst (IsBelow (length is)) same h in omega arith

    by : Ok → (n : ℕ) (issue : Issue) → (slice_get is n ≡ Some issue) ⊎ ((n ≡ length is) × (new ≡ issue)) → HasRecords (records ++ r ∷ []) n issue
    by ok n issue (inl e) = more_has records r n issue (k.has ok n issue e) (no_end r n b)
    by ok n issue (inr e) =
        let here : HasRecords (records ++ r ∷ []) (length is) new = record {
          issued = subst (Contains (records ++ r ∷ [])) (sym (own ok)) (Contains-push records r);
          waits = λ w. All-push (λ e. ended_by e ≡ Some (length is) → ⊥) records r (All-weaken (λ e. IsBelow (length is) (ended_by e)) (λ e. ended_by e ≡ Some (length is) → ⊥) records past k.ended) (no_end r (length is) b);
          ended = λ w. absurd (no_both (is_waiting new.phase) waiting w);
        } in
        subst (λ m. HasRecords (records ++ r ∷ []) m issue) (sym e.0) (subst (HasRecords (records ++ r ∷ []) (length is)) e.1 here)

-- a record that ends one
kept-closed : (Ok : Type 0) (records : List Record) (r : Record) (is : List Issue) (n : ℕ) (end : IssuePhase) (was : Issue) → issued_by r ≡ None → ended_by r ≡ Some n → end_by r ≡ Some end → slice_get is n ≡ Some was
    → is_waiting end ≡ false → Kept Ok records is → Kept Ok (records ++ r ∷ []) (changed_at n (closed end) is)
kept-closed Ok records r is n end was a b so there over k =
    let same : length is ≡ length (changed_at n (closed end) is) = sym (length-changed n (closed end) is) in
    record {
      issued = subst (λ m. All (λ e. IsBelow m (issued_by e)) (records ++ r ∷ [])) same (All-push (λ e. IsBelow (length is) (issued_by e)) records r k.issued (none_below (length is) (issued_by r) a));
      ended = subst (λ m. All (λ e. IsBelow m (ended_by e)) (records ++ r ∷ [])) same (All-push (λ e. IsBelow (length is) (ended_by e)) records r k.ended (some_below (length is) n (ended_by r) b (get_below is n was there)));
      has = λ ok m issue e. by ok m issue (get_changed n (closed end) is m issue e) (m == n) refl;
    }
  where
    same_number : (x y : ℕ) → (x == y) ≡ true → x ≡ y
    same_number x y h = grind arith

    other_number : (x y : ℕ) → (x == y) ≡ false → x ≡ y → ⊥
    other_number x y h e = grind arith

    not_waiting : (old issue : Issue) → issue ≡ closed end old → is_waiting issue.phase ≡ true → ⊥
    not_waiting old issue e w = clash (is_waiting end) over (subst (λ (i : Issue). is_waiting i.phase ≡ true) e w)
      where
        clash : (c : Bool) → c ≡ false → c ≡ true → ⊥
        clash true x y = cc
        clash false x y = cc

    by : Ok → (m : ℕ) (issue : Issue) → WasAt is n (closed end) m issue → (c : Bool) → (m == n) ≡ c → HasRecords (records ++ r ∷ []) m issue
    by ok m issue w true e =
        let is_closed : issue ≡ closed end w.was = w.same (same_number m n e) in
        let old : HasRecords records m w.was = k.has ok m w.was w.was_is in
        record {
          issued = subst (λ (i : Issue). Contains (records ++ r ∷ []) (record_of_issue m i)) (sym is_closed) (Contains-append_left records (r ∷ []) (record_of_issue m w.was) old.issued);
          waits = λ waits. absurd (not_waiting w.was issue is_closed waits);
          ended = λ over. record { last = r; among = Contains-push records r; issue_is = b ∙ ap Some (sym (same_number m n e)); end_is = so ∙ ap (λ (i : Issue). Some i.phase) (sym is_closed) };
        }
    by ok m issue w false e =
        let apart : m ≡ n → ⊥ = other_number m n e in
        subst (HasRecords (records ++ r ∷ []) m) (sym (w.other apart)) (more_has records r m w.was (k.has ok m w.was w.was_is) (λ h. apart (some_inner m n (sym h ∙ b))))

-- ---- the issues after a record

pub issues-after : (s new : State) (r : Record) (edits : List Edit) → new ≡ after (moment_of r) edits s → new.issues ≡ (all_edited edits s).issues
issues-after s new r edits e = ap (λ (x : State). x.issues) e

pub issued-after : (es rest : List Edit) (s : State) (new : Issue) → es ≡ issues new ∷ rest → IsQuiet rest → (all_edited es s).issues ≡ s.issues ++ new ∷ []
issued-after es rest s new e q = ap (λ (xs : List Edit). (all_edited xs s).issues) e ∙ keeps_issues rest (edited (issues new) s) q

pub closed-after : (es rest : List Edit) (s : State) (n : ℕ) (end : IssuePhase) → es ≡ closes n end ∷ rest → IsQuiet rest → (all_edited es s).issues ≡ changed_at n (closed end) s.issues
closed-after es rest s n end e q = ap (λ (xs : List Edit). (all_edited xs s).issues) e ∙ keeps_issues rest (edited (closes n end) s) q

pub given-after : (s new : State) (r : Record) (edits : List Edit) → new ≡ after (moment_of r) edits s → new.given ≡ s.given
given-after s new r edits e = ap (λ (x : State). x.given) e ∙ keeps_given edits s

-- a filter that is bound, or 1, is no operator
abbrev AreFilters : List (List ℕ × ℕ) → Type 0
AreFilters agents = All (λ entry. (1 ≤ entry.1) × (entry.1 ≤ 16)) agents

pub filter-some : (agents : List (List ℕ × ℕ)) (to : List ℕ) → All (λ (entry : List ℕ × ℕ). 1 ≤ entry.1) agents → (filter_of agents to == 0) ≡ false
filter-some [] to h = refl
filter-some (a ∷ agents) to h = by (bytes_eq a.0 to) (All-head (λ (entry : List ℕ × ℕ). 1 ≤ entry.1) a agents h) (filter-some agents to (All-tail (λ (entry : List ℕ × ℕ). 1 ≤ entry.1) a agents h))
  where
    some_number : (n : ℕ) → 1 ≤ n → (n == 0) ≡ false
    some_number n h = grind arith

    by : (b : Bool) → 1 ≤ a.1 → (filter_of agents to == 0) ≡ false
        → (option_map_or (λ (found : List ℕ × ℕ). found.1) (cond b (Some a) (find (λ (entry : List ℕ × ℕ). bytes_eq entry.0 to) agents)) 1 == 0) ≡ false
    by true h rest = some_number a.1 h
    by false h rest = rest

if_false : {A : Type 0} (b : Bool) (x y : A) → b ≡ false → cond b x y ≡ y
if_false b x y e = rw e refl

-- ---- each record keeps it

kept_edits : (records : List Record) (s : State) (r : Record) (edits : List Edit) → Kept (AreFilters s.given.agents) records s.issues → IssueShape (shown s) r edits
    → Kept (AreFilters s.given.agents) (records ++ r ∷ []) (all_edited edits s).issues
kept_edits records s (entry.Begin run moment books bind) edits k shape = absurd shape
kept_edits records s (entry.Walk task moment) edits k shape =
    let r : Record = entry.Walk task moment in
    subst (Kept (AreFilters s.given.agents) (records ++ r ∷ [])) (sym (keeps_issues edits s shape)) (kept-quiet (AreFilters s.given.agents) records r s.issues refl refl k)
kept_edits records s (entry.Send task n agent moment bytes) edits k shape =
    let r : Record = entry.Send task n agent moment bytes in
    let new : Issue = new_issue task agent moment bytes in
    let i : Issued (shown s) task n agent moment bytes edits = shape.issued in
    let own : AreFilters s.given.agents → record_of_issue (length s.issues) new ≡ r = λ filters.
    if_false (agent == 0) (entry.Ask task (length s.issues) moment bytes) (entry.Send task (length s.issues) agent moment bytes)
    (subst (λ x. (x == 0) ≡ false) (sym shape.agent_is) (filter-some s.given.agents shape.to (All-weaken (λ (entry : List ℕ × ℕ). (1 ≤ entry.1) × (entry.1 ≤ 16)) (λ (entry : List ℕ × ℕ). 1 ≤ entry.1) s.given.agents (λ x h. h.0) filters)))
    ∙ ap (λ z. entry.Send task z agent moment bytes) (sym i.number_is) in
    subst (Kept (AreFilters s.given.agents) (records ++ r ∷ [])) (sym (issued-after edits i.rest s new i.edits_are i.quiet)) (kept-issued (AreFilters s.given.agents) records r s.issues new (ap Some i.number_is) refl own refl k)
kept_edits records s (entry.Ask task n moment bytes) edits k shape =
    let r : Record = entry.Ask task n moment bytes in
    let new : Issue = new_issue task 0 moment bytes in
    subst (Kept (AreFilters s.given.agents) (records ++ r ∷ [])) (sym (issued-after edits shape.rest s new shape.edits_are shape.quiet))
    (kept-issued (AreFilters s.given.agents) records r s.issues new (ap Some shape.number_is) refl (λ filters. ap (λ z. entry.Ask task z moment bytes) (sym shape.number_is)) refl k)
kept_edits records s (entry.Upgrade version moment) edits k shape =
    let r : Record = entry.Upgrade version moment in
    subst (Kept (AreFilters s.given.agents) (records ++ r ∷ [])) (sym (ap (λ (es : List Edit). (all_edited es s).issues) shape)) (kept-quiet (AreFilters s.given.agents) records r s.issues refl refl k)
kept_edits records s (entry.Reply n moment status rule text) edits k shape =
    let r : Record = entry.Reply n moment status rule text in
    subst (Kept (AreFilters s.given.agents) (records ++ r ∷ [])) (sym (closed-after edits shape.rest s n (issue_phase.Answered status) shape.edits_are shape.quiet))
    (kept-closed (AreFilters s.given.agents) records r s.issues n (issue_phase.Answered status) shape.issue refl refl refl shape.issue_is shape.waits_no_more k)
kept_edits records s (entry.Told n moment status text) edits k shape =
    let r : Record = entry.Told n moment status text in
    subst (Kept (AreFilters s.given.agents) (records ++ r ∷ [])) (sym (closed-after edits shape.rest s n (issue_phase.Told status) shape.edits_are shape.quiet))
    (kept-closed (AreFilters s.given.agents) records r s.issues n (issue_phase.Told status) shape.issue refl refl refl shape.issue_is shape.waits_no_more k)
kept_edits records s (entry.Expire n moment) edits k shape =
    let r : Record = entry.Expire n moment in
    subst (Kept (AreFilters s.given.agents) (records ++ r ∷ [])) (sym (closed-after edits shape.rest s n issue_phase.Expired shape.edits_are shape.quiet))
    (kept-closed (AreFilters s.given.agents) records r s.issues n issue_phase.Expired shape.issue refl refl refl shape.issue_is shape.waits_no_more k)

-- ---- runs

record Holds (given : Given) (records : List Record) (s : State) : Type 0 where
  given_is : s.given ≡ given
  kept : Kept (AreFilters s.given.agents) records s.issues

holds_next : (given : Given) (records : List Record) (s new : State) (r : Record) → Holds given records s → Next s r new → Holds given (records ++ r ∷ []) new
holds_next given records s new r h next =
    let same : new.given ≡ s.given = given-after s new r next.edits next.new_is in
    let here = kept_edits records s r next.edits h.kept (change_shape (shown s) r next.edits next.change_is) in
    record {
      given_is = same ∙ h.given_is;
      kept = subst (λ (g : Given). Kept (AreFilters g.agents) (records ++ r ∷ []) new.issues) (sym same) (subst (Kept (AreFilters s.given.agents) (records ++ r ∷ [])) (sym (issues-after s new r next.edits next.new_is)) here);
    }

holds_along : (given : Given) (others before : List Record) (s new : State) → Holds given before s → GoesOn s others new → Holds given (before ++ others) new
holds_along given [] before s new h g = subst (λ (rs : List Record). Holds given rs new) (sym (append-nil before)) (subst (Holds given before) g h)
holds_along given (r ∷ others) before s new h g =
    subst (λ (rs : List Record). Holds given rs new) (append_assoc before (r ∷ []) others)
    (holds_along given others (before ++ r ∷ []) g.0 new (holds_next given before s g.0 r h g.1) g.2)

first-quiet : (given : Given) (now : ℕ) (book : Book) (bound : List (List ℕ × List ℕ)) → IsQuiet (map (λ b. writes 0 b.0 b.1) bound ++ makes (first_task given now book) ∷ [])
first-quiet given now book [] = refl
first-quiet given now book (b ∷ bound) = first-quiet given now book bound

pub first_known : (given : Given) (run now : ℕ) (first : State) → begun given run now ≡ Some first → (first.issues ≡ []) × (first.given ≡ given)
first_known given run now first e = by (slice_get given.books 0) e
  where
    edits_of : Book → List Edit
    edits_of book = opens None book.variables ∷ (map (λ b. writes 0 b.0 b.1) given.variables ++ makes (first_task given now book) ∷ [])

    by : (o : Option Book) → option_map (λ (es : List Edit). after now es (blank given run)) (option_map (λ (book : Book). opens None book.variables ∷ (map (λ b. writes 0 b.0 b.1) given.variables ++ makes (first_task given now book) ∷ [])) o) ≡ Some first
        → (first.issues ≡ []) × (first.given ≡ given)
    by None h = absurd (no_first h)
      where
        no_first : None ≡ Some first → ⊥
        no_first g = cc
    by (Some book) h =
        let es : List Edit = opens None book.variables ∷ (map (λ b. writes 0 b.0 b.1) given.variables ++ makes (first_task given now book) ∷ []) in
        let is : after now es (blank given run) ≡ first = some_inner (after now es (blank given run)) first h in (
          ap (λ (x : State). x.issues) (sym is) ∙ keeps_issues es (blank given run) (first-quiet given now book given.variables),
          ap (λ (x : State). x.given) (sym is) ∙ keeps_given es (blank given run),
        )

no_records : (Ok : Type 0) → Kept Ok [] []
no_records Ok = record {
  issued = All-nil (λ r. IsBelow 0 (issued_by r));
  ended = All-nil (λ r. IsBelow 0 (ended_by r));
  has = λ ok n issue e. absurd (none_there issue e);
}
  where
    none_there : (issue : Issue) → None ≡ Some issue → ⊥
    none_there issue h = cc

holds_run : (given : Given) (run : ℕ) (records : List Record) (s : State) → Leads given run records s → Holds given records s
holds_run given run records s l =
    let known = first_known given run l.now l.first l.begins in
    let r : Record = begin_of given run l.now in
    let start : Kept (AreFilters l.first.given.agents) (r ∷ []) l.first.issues =
    subst (Kept (AreFilters l.first.given.agents) (r ∷ [])) (sym known.0) (kept-quiet (AreFilters l.first.given.agents) [] r [] refl refl (no_records (AreFilters l.first.given.agents))) in
    subst (λ (rs : List Record). Holds given rs s) (sym l.records_are) (holds_along given l.others (r ∷ []) l.first s (record { given_is = known.1; kept = start }) l.goes_on)

pub issues_have_records : IssuesHaveRecords
issues_have_records given run records s n issue runnable l e =
    let h : Holds given records s = holds_run given run records s l in
    (h.kept).has (subst (λ (g : Given). AreFilters g.agents) (sym h.given_is) runnable.filters) n issue e

-- a record that issues has the number of issues so far
number_next : (s : State) (r : Record) (n : ℕ) (edits : List Edit) → IssueShape (shown s) r edits → issued_by r ≡ Some n → n ≡ length s.issues
number_next s (entry.Begin run moment books bind) n edits shape e = absurd shape
number_next s (entry.Send task k agent moment bytes) n edits shape e = sym (some_inner k n e) ∙ (shape.issued).number_is
number_next s (entry.Ask task k moment bytes) n edits shape e = sym (some_inner k n e) ∙ shape.number_is
number_next s (entry.Walk task moment) n edits shape e = absurd (none_number e)
  where
    none_number : None ≡ Some n → ⊥
    none_number h = cc
number_next s (entry.Upgrade version moment) n edits shape e = absurd (none_number e)
  where
    none_number : None ≡ Some n → ⊥
    none_number h = cc
number_next s (entry.Reply k moment status rule text) n edits shape e = absurd (none_number e)
  where
    none_number : None ≡ Some n → ⊥
    none_number h = cc
number_next s (entry.Told k moment status text) n edits shape e = absurd (none_number e)
  where
    none_number : None ≡ Some n → ⊥
    none_number h = cc
number_next s (entry.Expire k moment) n edits shape e = absurd (none_number e)
  where
    none_number : None ≡ Some n → ⊥
    none_number h = cc

pub issues_are_new : IssuesAreNew
issues_are_new given run before s new r n l next e =
    let h : Holds given before s = holds_run given run before s l in
    let is : n ≡ length s.issues = number_next s r n next.edits (change_shape (shown s) r next.edits next.change_is) e in
    (is, All-weaken (λ x. IsBelow (length s.issues) (issued_by x)) (λ x. issued_by x ≡ Some n → ⊥) before (λ x below same. apart (subst (IsBelow (length s.issues)) same below) is) (h.kept).issued)
  where
    apart : n < length s.issues → n ≡ length s.issues → ⊥
    apart less is = omega arith
