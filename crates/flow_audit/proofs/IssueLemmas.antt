-- Each record of a run that made an issue is that of the issue.
use Rattle.std.proofs.Common.{◌≡◌, ◌⊎◌, inl, inr, ℕ, ◌==◌, Bool, true, false, List, [], ◌∷◌, ◌++◌, Option, Some, None, refl, sym, ap, subst, ◌∙◌, arith, append_assoc, append-nil, eq-eqb}
use Rattle.std.specs.Prelude.{Contains, slice_get}
use Rattle.std.proofs.lemmas.Bool.{eqb-true}
use Rattle.std.proofs.lemmas.List.Elements.{Contains-push_cases, All-contains}
use Rattle.run_records.specs.declared.record.Record.{Record}
use Rattle.run_records.specs.declared.record.Record.TheVariants as entry
use Rattle.flow_core_rules.specs.declared.issues.Issue.{Issue}
use Rattle.flow_core_rules.specs.declared.issues.IssuePhase.{IssuePhase}
use Rattle.flow_core_rules.specs.declared.issues.IssuePhase.TheVariants as issue_phase
use Rattle.flow_core_rules.specs.Givens.{Given}
use Rattle.flow_core_rules.specs.Laws.{HasRecords, KeepsIssues, end_by, ended_by, issued_by, record_of_issue}
use Rattle.flow_core_rules.specs.Runnable.{IsRunnable}
use Rattle.flow_core_rules.specs.Runs.{GoesOn, Leads, Next, begin_of}
use Rattle.flow_core_rules.specs.State.{State}
use Rattle.flow_core_rules.proofs.IssueLemmas.{issues_are_new, issues_have_records}
use Rattle.flow_core_rules.proofs.KeepLemmas.{records_keep_issues}
use Rattle.flow_core_rules.proofs.RunLemmas.{some_inner}
use Rattle.flow_core.proofs.ReachedLemmas.{leads_more}

-- the state has the issue that the record made
pub record IsKnown (s : State) (n : ℕ) (r : Record) : Type 0 where
  pub one : Issue
  pub there : slice_get s.issues n ≡ Some one
  pub record_is : record_of_issue n one ≡ r

-- that of each record is known
pub AreKnown : State → List Record → Type 0
AreKnown s records = (r : Record) (n : ℕ) → Contains records r → issued_by r ≡ Some n → IsKnown s n r

ends_so : (r : Record) (n : ℕ) → ended_by r ≡ Some n → (end : IssuePhase) × (end_by r ≡ Some end)
ends_so (entry.Begin run moment books bind) n e = absurd (cc)
ends_so (entry.Walk task moment) n e = absurd (cc)
ends_so (entry.Send task issue agent moment bytes) n e = absurd (cc)
ends_so (entry.Reply issue moment status rule text) n e = (issue_phase.Answered status, refl)
ends_so (entry.Expire issue moment) n e = (issue_phase.Expired, refl)
ends_so (entry.Upgrade version moment) n e = absurd (cc)
ends_so (entry.Ask task issue moment bytes) n e = absurd (cc)
ends_so (entry.Told issue moment status text) n e = (issue_phase.Told status, refl)

is_or_not : (o : Option ℕ) (n : ℕ) → (o ≡ Some n) ⊎ (o ≡ Some n → ⊥)
is_or_not None n = inr (λ e. cc)
is_or_not (Some k) n = by (k == n) refl
  where
    by : (b : Bool) → (k == n) ≡ b → (Some k ≡ Some n) ⊎ (Some k ≡ Some n → ⊥)
    by true e = inl (ap (λ m. Some m) (eqb-true k n e))
    by false e = inr (λ same. let t : (k == n) ≡ true = eq-eqb k n (some_inner k n same) in cc)

-- an issue stays that of its record
kept : (s new : State) (r q : Record) (n : ℕ) → KeepsIssues s new r → IsKnown s n q → IsKnown new n q
kept s new r q n keeps was = elim (is_or_not (ended_by r) n) [
  | inl ends ↦
      let end = ends_so r n ends in
      record { one = record was.one { phase = end.0 }; there = keeps.ended n was.one end.0 was.there ends end.1; record_is = was.record_is }
  | inr goes ↦ record { one = was.one; there = keeps.others n was.one was.there goes; record_is = was.record_is }
]

issued_itself : (n : ℕ) (one : Issue) → issued_by (record_of_issue n one) ≡ Some n
issued_itself n one = by (one.agent == 0) refl
  where
    by : (b : Bool) → (one.agent == 0) ≡ b → issued_by (record_of_issue n one) ≡ Some n
    by true e = rw e refl
    by false e = rw e refl

known_more : (given : Given) (run : ℕ) (before : List Record) (s new : State) (r : Record) → IsRunnable given → Leads given run before s → Next s r new → AreKnown s before → AreKnown new (before ++ r ∷ [])
unfolding AreKnown
known_more given run before s new r runnable l next are q n has is = elim (Contains-push_cases before r q has) [
  | inl old ↦ kept s new r q n (records_keep_issues s new r next) (are q n old is)
  | inr same ↦
      let made : issued_by r ≡ Some n = ap issued_by same ∙ is in
      let there = (records_keep_issues s new r next).issued n made in
      let longer : Leads given run (before ++ r ∷ []) new = leads_more given run before s new r l next in
      let has_record : HasRecords (before ++ r ∷ []) n there.0 = issues_have_records given run (before ++ r ∷ []) new n there.0 runnable longer there.1 in
      record {
        one = there.0;
        there = there.1;
        record_is = elim (Contains-push_cases before r (record_of_issue n there.0) has_record.issued) [
          | inl earlier ↦
              let others = (issues_are_new given run before s new r n l next made).1 in
              absurd (All-contains (λ (x : Record). ¬ (issued_by x ≡ Some n)) before (record_of_issue n there.0) others earlier (issued_itself n there.0))
          | inr mine ↦ sym mine ∙ same
        ];
      }
]

known_on : (given : Given) (run : ℕ) (rest before : List Record) (s new : State) → IsRunnable given → Leads given run before s → AreKnown s before → GoesOn s rest new → AreKnown new (before ++ rest)
known_on given run [] before s new runnable l are g =
    subst (λ (rs : List Record). AreKnown new rs) (sym (append-nil before)) (subst (λ (x : State). AreKnown x before) g are)
known_on given run (r ∷ rest) before s new runnable l are g =
    subst (λ (rs : List Record). AreKnown new rs) (append_assoc before (r ∷ []) rest)
    (known_on given run rest (before ++ r ∷ []) g.0 new runnable (leads_more given run before s g.0 r l g.1) (known_more given run before s g.0 r runnable l g.1 are) g.2)

begins_none : (given : Given) (run now : ℕ) (s : State) → AreKnown s (begin_of given run now ∷ [])
unfolding AreKnown
begins_none given run now s r n has is = elim (Contains-push_cases [] (begin_of given run now) r has) [
  | inl none ↦ absurd (omega (arith, none.1))
  | inr same ↦ absurd (let e : None ≡ Some n = ap issued_by same ∙ is in cc)
]

pub known : (given : Given) (run : ℕ) (records : List Record) (s : State) (r : Record) (n : ℕ) → IsRunnable given → Leads given run records s → Contains records r → issued_by r ≡ Some n → IsKnown s n r
unfolding AreKnown
known given run records s r n runnable l has is =
    let first : Leads given run (begin_of given run l.now ∷ []) l.first =
    record { now = l.now; others = []; first = l.first; in_time = l.in_time; records_are = refl; begins = l.begins; goes_on = refl } in
    known_on given run l.others (begin_of given run l.now ∷ []) l.first s runnable first (begins_none given run l.now l.first) l.goes_on r n
    (subst (λ (rs : List Record). Contains rs r) l.records_are has) is
