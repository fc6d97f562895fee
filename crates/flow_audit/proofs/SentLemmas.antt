-- Issues that a flow shows, and the Sends of its journal.
use Rattle.std.proofs.Common.{◌≡◌, ℕ, ◌==◌, ◌≤◌, Bool, true, false, cond, List, [], Some, refl, sym, ap, subst, ◌∙◌, arith}
use Rattle.std.specs.Prelude.{Contains, slice_get}
use Rattle.std.proofs.lemmas.Bool.Decides.{nat_tests}
use Rattle.run_records.specs.declared.record.Record.{Record}
use Rattle.run_records.specs.declared.record.Record.TheVariants as entry
use Rattle.flow_core_rules.specs.declared.issues.Issue.{Issue}
use Rattle.flow_core_rules.specs.Laws.{HasRecords, record_of_issue}
use Rattle.flow_core_rules.specs.Runnable.{IsRunnable}
use Rattle.flow_core_rules.specs.State.{Shown}
use Rattle.flow_core_rules.proofs.IssueLemmas.{issues_have_records}
use Rattle.flow_core.specs.SetupLaws.{AcceptedIsRunnable}
use Rattle.flow_core.specs.Views.{View}
use Rattle.flow_laws.specs.Images.{IsAgent}
use Rattle.flow_laws.specs.Journals.{IsSent, run_of}
use Rattle.flow_audit.specs.Parts.{HasIssue, HasTaken}
use Rattle.flow_audit.proofs.IssueLemmas.{known}

runnable : AcceptedIsRunnable → (records : List Record) (v : View) → HasTaken records v → IsRunnable v.seen.given
runnable law records v h = law v.seen.given.texts v.seen.given.bind v.seen.given h.accepted

not_zero : (n : ℕ) → 1 ≤ n → (n == 0) ≡ false
not_zero n low = grind (arith, nat_tests)

-- an issue of a filter was sent
pub sent : AcceptedIsRunnable → (records : List Record) (v : View) (issue agent : ℕ) (bytes : List ℕ) → HasTaken records v → IsAgent agent → HasIssue v.seen issue agent bytes → IsSent records issue agent bytes
sent law records v issue agent bytes h is_agent has =
    let one = has.one in
    let there : slice_get h.state.issues issue ≡ Some one = ap (λ (s : Shown). slice_get s.lists.issues issue) (sym h.is) ∙ has.there in
    let records_are : HasRecords records issue one = issues_have_records v.seen.given v.seen.run records h.state issue one (runnable law records v h) h.leads there in
    let filter : (one.agent == 0) ≡ false = ap (λ a. a == 0) has.agent_is ∙ not_zero agent is_agent.0 in
    let send : record_of_issue issue one ≡ entry.Send one.task issue one.agent one.moment one.bytes =
    ap (λ b. cond b (entry.Ask one.task issue one.moment one.bytes) (entry.Send one.task issue one.agent one.moment one.bytes)) filter in
    record {
      task = one.task;
      moment = one.moment;
      has = subst (λ (b : List ℕ). Contains records (entry.Send one.task issue agent one.moment b)) has.bytes_are
          (subst (λ a. Contains records (entry.Send one.task issue a one.moment one.bytes)) has.agent_is (subst (Contains records) send records_are.issued));
    }

agent_in : Record → ℕ
agent_in (entry.Send task issue agent moment bytes) = agent
agent_in other = 0

bytes_in : Record → List ℕ
bytes_in (entry.Send task issue agent moment bytes) = bytes
bytes_in other = []

is_send : Record → Bool
is_send (entry.Send task issue agent moment bytes) = true
is_send other = false

issue_of : (one : Issue) (task issue agent moment : ℕ) (bytes : List ℕ) → record_of_issue issue one ≡ entry.Send task issue agent moment bytes → (one.agent ≡ agent) × (one.bytes ≡ bytes)
unfolding agent_in bytes_in is_send
issue_of one task issue agent moment bytes e = by (one.agent == 0) e
  where
    by : (b : Bool) → cond b (entry.Ask one.task issue one.moment one.bytes) (entry.Send one.task issue one.agent one.moment one.bytes) ≡ entry.Send task issue agent moment bytes
        → (one.agent ≡ agent) × (one.bytes ≡ bytes)
    by true h = absurd (let no : false ≡ true = ap is_send h in cc)
    by false h = (ap agent_in h, ap bytes_in h)

-- a Send is shown as an issue
pub issue_shown : AcceptedIsRunnable → (records : List Record) (v : View) (issue agent : ℕ) (bytes : List ℕ) → HasTaken records v → IsSent records issue agent bytes → HasIssue v.seen issue agent bytes
issue_shown law records v issue agent bytes h is =
    let k = known v.seen.given v.seen.run records h.state (entry.Send is.task issue agent is.moment bytes) issue (runnable law records v h) h.leads is.has refl in
    let same = issue_of k.one is.task issue agent is.moment bytes k.record_is in
    record { one = k.one; there = ap (λ (s : Shown). slice_get s.lists.issues issue) h.is ∙ k.there; agent_is = same.0; bytes_are = same.1 }

-- the number of the run is that of its Begin
pub run_is : (records : List Record) (v : View) → HasTaken records v → run_of records ≡ Some v.seen.run
run_is records v h = ap run_of h.leads.records_are
