-- What each record changes, by its edits: all are its own task's, but that an Upgrade has none but its mark.
use Rattle.std.proofs.Common.{◌≡◌, ℕ, ◌+◌, ◌==◌, ◌&&◌, Bool, true, false, cond, List, [], ◌∷◌, length, Some, None, refl, subst}
use Rattle.std.specs.Prelude.{IfSome, is_none, option_map, not, nat_le}
use Rattle.std.specs.Str.{bytes_eq}
use Rattle.run_records.specs.declared.record.Record.{Record}
use Rattle.run_records.specs.declared.record.Record.TheVariants as entry
use Rattle.flow_core_rules.specs.declared.issues.IssuePhase.TheVariants as issue_phase
use Rattle.flow_core_rules.specs.State.{Shown}
use Rattle.flow_core_rules.specs.Edits.{Edit}
use Rattle.flow_core_rules.specs.Edits.Edit.{closes, upgrades}
use Rattle.flow_core_rules.specs.Changes as changes
use Rattle.flow_core_rules.specs.Changes.{Waiting, Issuing, moment_of}
use Rattle.flow_core_rules.proofs.PlacedLemmas.{some_if, some_from, map_from}
use Rattle.flow_core_rules.proofs.HereLemmas.{IsWaitingAt, waiting_known}
use Rattle.flow_core_rules.proofs.ShapeLemmas.{filter_known}
use Rattle.flow_core_laws.specs.OwnTask.{owner_of, task_of}
use Rattle.flow_core_laws.proofs.OwnEdits.{OwnEdits, own_walk, own_issue, own_answered, own_expired}

abbrev pub is_walk : Record → Bool
is_walk (entry.Walk task moment) = true
is_walk other = false

abbrev pub OwnShape : Shown → Record → List Edit → Type 0
OwnShape s (entry.Begin run moment books bind) es = ⊥
OwnShape s (entry.Upgrade version moment) es = es ≡ upgrades ∷ []
OwnShape s r es = OwnEdits s (is_walk r) (moment_of r) (task_of s r) es

own_send : (s : Shown) (now t n agent : ℕ) (bytes : List ℕ) → IfSome (changes.send s now t n agent bytes) (OwnEdits s false now (Some t))
own_send s now t n agent bytes =
    some_from (changes.next_command s now t) (λ (made : Issuing). cond (same made) (Some made.1) None) (λ made. OwnEdits s false now (Some t) made.1) (OwnEdits s false now (Some t)) (own_issue s now t changes.command_at)
    (λ made own. some_if (same made) (Some made.1) (OwnEdits s false now (Some t)) own)
  where
    same : Issuing → Bool
    same made = (n == length s.lists.issues) && (agent == (made.0).agent) && bytes_eq bytes (made.0).bytes

own_ask : (s : Shown) (now t n : ℕ) (bytes : List ℕ) → IfSome (changes.ask s now t n bytes) (OwnEdits s false now (Some t))
own_ask s now t n bytes =
    some_from (changes.next_question s now t) (λ (made : Issuing). cond (same made) (Some made.1) None) (λ made. OwnEdits s false now (Some t) made.1) (OwnEdits s false now (Some t)) (own_issue s now t changes.question_at)
    (λ made own. some_if (same made) (Some made.1) (OwnEdits s false now (Some t)) own)
  where
    same : Issuing → Bool
    same made = s.lists.is_upgraded && (n == length s.lists.issues) && bytes_eq bytes (made.0).bytes

own_reply : (s : Shown) (now n status rule : ℕ) (text : List ℕ) → IfSome (changes.reply s now n status rule text) (OwnEdits s false now (owner_of s n))
own_reply s now n status rule text =
    let f : Waiting → List Edit = changes.answered n (issue_phase.Answered status) status rule text in
    some_if (changes.is_answer status text) (option_map f (changes.waiting_filter_at s now n)) (OwnEdits s false now (owner_of s n))
    (map_from (changes.waiting_filter_at s now n) f (IsWaitingAt s now n) (OwnEdits s false now (owner_of s n)) (filter_known s now n) (λ w known. own_answered s now n (issue_phase.Answered status) status rule text w known))

own_tell : (s : Shown) (now n status : ℕ) (text : List ℕ) → IfSome (changes.tell s now n status text) (OwnEdits s false now (owner_of s n))
own_tell s now n status text =
    let f : Waiting → List Edit = changes.answered n (issue_phase.Told status) status 0 text in
    some_if (s.lists.is_upgraded && changes.is_answer status text) (option_map f (changes.waiting_at s now n)) (OwnEdits s false now (owner_of s n))
    (map_from (changes.waiting_at s now n) f (IsWaitingAt s now n) (OwnEdits s false now (owner_of s n)) (waiting_known s now n) (λ w known. own_answered s now n (issue_phase.Told status) status 0 text w known))

own_expire : (s : Shown) (now n : ℕ) → IfSome (changes.expire s now n) (OwnEdits s false now (owner_of s n))
own_expire s now n =
    some_from (changes.waiting_filter_at s now n) (changes.expired n) (IsWaitingAt s now n) (OwnEdits s false now (owner_of s n)) (filter_known s now n) (λ w known.
    some_if (nat_le ((w.issue).moment + w.here.step.timeout) w.here.now) (Some (closes n issue_phase.Expired ∷ changes.done w.here false)) (OwnEdits s false now (owner_of s n)) (own_expired s now n w known))

edits_own : (s : Shown) (r : Record) → IfSome (changes.edits_of s r) (OwnShape s r)
edits_own s (entry.Begin run moment books bind) = tt
edits_own s (entry.Walk task moment) = own_walk s moment task
edits_own s (entry.Send task issue agent moment bytes) = own_send s moment task issue agent bytes
edits_own s (entry.Reply issue moment status rule text) = own_reply s moment issue status rule text
edits_own s (entry.Expire issue moment) = own_expire s moment issue
edits_own s (entry.Upgrade version moment) =
    some_if ((version == 2) && is_none (changes.outcome s.lists) && not s.lists.is_upgraded) (Some (upgrades ∷ [])) (λ es. es ≡ upgrades ∷ []) refl
edits_own s (entry.Ask task issue moment bytes) = own_ask s moment task issue bytes
edits_own s (entry.Told issue moment status text) = own_tell s moment issue status text

pub change_own : (s : Shown) (r : Record) (edits : List Edit) → changes.change s r ≡ Some edits → OwnShape s r edits
change_own s r edits e =
    subst (λ o. IfSome o (OwnShape s r)) e (some_if (changes.is_in_time s (moment_of r)) (changes.edits_of s r) (OwnShape s r) (edits_own s r))
