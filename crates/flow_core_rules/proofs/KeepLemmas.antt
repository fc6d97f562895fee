-- What a record does to the issues that were there.
use Rattle.std.proofs.Common.{◌≡◌, ℕ, zero, suc, true, List, [], ◌∷◌, ◌++◌, length, Some, None, refl, ap, sym, subst, ◌∙◌}
use Rattle.std.specs.Prelude.{slice_get}
use Rattle.run_records.specs.declared.record.Record.{Record}
use Rattle.run_records.specs.declared.record.Record.TheVariants as entry
use Rattle.flow_core_rules.specs.declared.issues.Issue.{Issue}
use Rattle.flow_core_rules.specs.declared.issues.IssuePhase.{IssuePhase}
use Rattle.flow_core_rules.specs.declared.issues.IssuePhase.TheVariants as issue_phase
use Rattle.flow_core_rules.specs.State.{State, shown}
use Rattle.flow_core_rules.specs.Edits.{Edit, all_edited, changed_at, closed}
use Rattle.flow_core_rules.specs.Changes.{is_waiting}
use Rattle.flow_core_rules.specs.Laws.{issued_by, ended_by, end_by, RecordsKeepIssues}
use Rattle.flow_core_rules.proofs.RunLemmas.{some_inner}
use Rattle.flow_core_rules.proofs.QuietLemmas.{keeps_issues}
use Rattle.flow_core_rules.proofs.ShapeLemmas.{new_issue, Issued, IssueShape, change_shape}
use Rattle.flow_core_rules.proofs.IssueLemmas.{issues-after, issued-after, closed-after}

-- ---- places of lists

get_pushed : {A : Type 0} (xs : List A) (x y : A) (k : ℕ) → slice_get xs k ≡ Some y → slice_get (xs ++ x ∷ []) k ≡ Some y
get_pushed [] x y k e = absurd (no e)
  where
    no : None ≡ Some y → ⊥
    no h = cc
get_pushed (z ∷ xs) x y zero e = e
get_pushed (z ∷ xs) x y (suc k) e = get_pushed xs x y k e

get_last : {A : Type 0} (xs : List A) (x : A) → slice_get (xs ++ x ∷ []) (length xs) ≡ Some x
get_last [] x = refl
get_last (z ∷ xs) x = get_last xs x

get_other : {A : Type 0} (n : ℕ) (f : A → A) (xs : List A) (k : ℕ) (y : A) → slice_get xs k ≡ Some y → (n ≡ k → ⊥) → slice_get (changed_at n f xs) k ≡ Some y
get_other n f [] k y e apart = e
get_other zero f (x ∷ xs) zero y e apart = absurd (apart refl)
get_other zero f (x ∷ xs) (suc k) y e apart = e
get_other (suc n) f (x ∷ xs) zero y e apart = e
get_other (suc n) f (x ∷ xs) (suc k) y e apart = get_other n f xs k y e (λ h. apart (ap suc h))

get_same : {A : Type 0} (n : ℕ) (f : A → A) (xs : List A) (y : A) → slice_get xs n ≡ Some y → slice_get (changed_at n f xs) n ≡ Some (f y)
get_same n f [] y e = absurd (no e)
  where
    no : None ≡ Some y → ⊥
    no h = cc
get_same zero f (x ∷ xs) y e = ap (λ z. Some (f z)) (some_inner x y e)
get_same (suc n) f (x ∷ xs) y e = get_same n f xs y e

no_number : {A : Type 0} (n : ℕ) → None ≡ Some n → A
no_number n h = absurd (no h)
  where
    no : None ≡ Some n → ⊥
    no e = cc

-- ---- the issues after a record, by what it does to them

record Keeps (was now : List Issue) (r : Record) : Type 0 where
  others : (n : ℕ) (issue : Issue) → slice_get was n ≡ Some issue → (ended_by r ≡ Some n → ⊥) → slice_get now n ≡ Some issue
  ended : (n : ℕ) (issue : Issue) (end : IssuePhase) → slice_get was n ≡ Some issue → ended_by r ≡ Some n → end_by r ≡ Some end → slice_get now n ≡ Some (record issue { phase = end })
  issued : (n : ℕ) → issued_by r ≡ Some n → (issue : Issue) × (slice_get now n ≡ Some issue) × (is_waiting issue.phase ≡ true)

keeps-same : (is : List Issue) (r : Record) → ended_by r ≡ None → issued_by r ≡ None → Keeps is is r
keeps-same is r a b = record {
  others = λ n issue e apart. e;
  ended = λ n issue end e by so. no_number n (sym a ∙ by);
  issued = λ n by. no_number n (sym b ∙ by);
}

keeps-more : (is : List Issue) (new : Issue) (r : Record) → ended_by r ≡ None → issued_by r ≡ Some (length is) → is_waiting new.phase ≡ true → Keeps is (is ++ new ∷ []) r
keeps-more is new r a b waits = record {
  others = λ n issue e apart. get_pushed is new issue n e;
  ended = λ n issue end e by so. no_number n (sym a ∙ by);
  issued = λ n by. (new, subst (λ k. slice_get (is ++ new ∷ []) k ≡ Some new) (some_inner (length is) n (sym b ∙ by)) (get_last is new), waits);
}

keeps-closed : (is : List Issue) (k : ℕ) (phase : IssuePhase) (r : Record) → ended_by r ≡ Some k → end_by r ≡ Some phase → issued_by r ≡ None → Keeps is (changed_at k (closed phase) is) r
keeps-closed is k phase r a b c = record {
  others = λ n issue e apart. get_other k (closed phase) is n issue e (λ same. apart (a ∙ ap Some same));
  ended = λ n issue end e by so. by_parts n issue end e (some_inner k n (sym a ∙ by)) (some_inner phase end (sym b ∙ so));
  issued = λ n by. no_number n (sym c ∙ by);
}
  where
    by_parts : (n : ℕ) (issue : Issue) (end : IssuePhase) → slice_get is n ≡ Some issue → k ≡ n → phase ≡ end → slice_get (changed_at k (closed phase) is) n ≡ Some (record issue { phase = end })
    by_parts n issue end e same so =
        subst (λ m. slice_get (changed_at k (closed phase) is) m ≡ Some (record issue { phase = end })) same
        (subst (λ (p : IssuePhase). slice_get (changed_at k (closed phase) is) k ≡ Some (record issue { phase = p })) so
        (get_same k (closed phase) is issue (subst (λ m. slice_get is m ≡ Some issue) (sym same) e)))

keeps-edits : (s : State) (r : Record) (edits : List Edit) → IssueShape (shown s) r edits → Keeps s.issues (all_edited edits s).issues r
keeps-edits s (entry.Begin run moment books bind) edits shape = absurd shape
keeps-edits s (entry.Walk task moment) edits shape =
    let r : Record = entry.Walk task moment in
    subst (λ is. Keeps s.issues is r) (sym (keeps_issues edits s shape)) (keeps-same s.issues r refl refl)
keeps-edits s (entry.Send task n agent moment bytes) edits shape =
    let r : Record = entry.Send task n agent moment bytes in
    let new : Issue = new_issue task agent moment bytes in
    let i : Issued (shown s) task n agent moment bytes edits = shape.issued in
    subst (λ is. Keeps s.issues is r) (sym (issued-after edits i.rest s new i.edits_are i.quiet)) (keeps-more s.issues new r refl (ap Some i.number_is) refl)
keeps-edits s (entry.Ask task n moment bytes) edits shape =
    let r : Record = entry.Ask task n moment bytes in
    let new : Issue = new_issue task 0 moment bytes in
    subst (λ is. Keeps s.issues is r) (sym (issued-after edits shape.rest s new shape.edits_are shape.quiet)) (keeps-more s.issues new r refl (ap Some shape.number_is) refl)
keeps-edits s (entry.Upgrade version moment) edits shape =
    let r : Record = entry.Upgrade version moment in
    subst (λ is. Keeps s.issues is r) (sym (ap (λ (es : List Edit). (all_edited es s).issues) shape)) (keeps-same s.issues r refl refl)
keeps-edits s (entry.Reply n moment status rule text) edits shape =
    let r : Record = entry.Reply n moment status rule text in
    subst (λ is. Keeps s.issues is r) (sym (closed-after edits shape.rest s n (issue_phase.Answered status) shape.edits_are shape.quiet)) (keeps-closed s.issues n (issue_phase.Answered status) r refl refl refl)
keeps-edits s (entry.Told n moment status text) edits shape =
    let r : Record = entry.Told n moment status text in
    subst (λ is. Keeps s.issues is r) (sym (closed-after edits shape.rest s n (issue_phase.Told status) shape.edits_are shape.quiet)) (keeps-closed s.issues n (issue_phase.Told status) r refl refl refl)
keeps-edits s (entry.Expire n moment) edits shape =
    let r : Record = entry.Expire n moment in
    subst (λ is. Keeps s.issues is r) (sym (closed-after edits shape.rest s n issue_phase.Expired shape.edits_are shape.quiet)) (keeps-closed s.issues n issue_phase.Expired r refl refl refl)

pub records_keep_issues : RecordsKeepIssues
records_keep_issues s new r next =
    let here : Keeps s.issues new.issues r = subst (λ is. Keeps s.issues is r) (sym (issues-after s new r next.edits next.new_is))
    (keeps-edits s r next.edits (change_shape (shown s) r next.edits next.change_is)) in
    record { others = here.others; ended = here.ended; issued = here.issued }
