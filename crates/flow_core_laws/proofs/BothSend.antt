-- A Send behind a record of another task has the same filled content under the number of then.
use Rattle.std.proofs.Common.{◌≡◌, ℕ, ◌≤◌, ◌==◌, ◌&&◌, true, cond, List, [], length, Contains, Option, Some, None, is_some, refl, ap, sym, subst, ◌∙◌}
use Rattle.std.specs.Prelude.{nat_le, option_and_then}
use Rattle.std.specs.Option.{option_map_or}
use Rattle.std.specs.Str.{bytes_eq}
use Rattle.std.proofs.lemmas.Slice.Eq.{bytes_eq-Decides}
use Rattle.serde_json.specs.Data.{Data}
use Rattle.run_records.specs.declared.record.Record.TheVariants as entry
use Rattle.run_records.specs.Ranges.{last_moment}
use Rattle.cacao_json.specs.Reading.{tree}
use Rattle.cacao_text.specs.Canon.{canon}
use Rattle.cacao_book.specs.declared.steps.Step.{Step}
use Rattle.cacao_check_steps.specs.Uses.{referred_in}
use Rattle.flow_core_rules.specs.declared.tasks.Task.{Task}
use Rattle.flow_core_rules.specs.State.{Lists, Shown, shown}
use Rattle.flow_core_rules.specs.Places.{Place, to_filter, to_operator}
use Rattle.flow_core_rules.specs.Filled.{addressed, filled}
use Rattle.flow_core_rules.specs.Tasks.{Here}
use Rattle.flow_core_rules.specs.Changes as changes
use Rattle.flow_core_rules.specs.Changes.{Issuing, is_in_time, moment_of}
use Rattle.flow_core_rules.proofs.RunLemmas.{some_inner}
use Rattle.flow_core_rules.proofs.HereLemmas.{here_of}
use Rattle.flow_core_rules.proofs.MoveLemmas.{same_number, same_bytes, three, taken}
use Rattle.flow_core_laws.specs.OwnTask.{task_of, ChangesOwnTask}
use Rattle.flow_core_laws.specs.SameBytes.{names_at}
use Rattle.flow_core_laws.proofs.Somes.{none_some, le_true, equal_of, equal_true, both_true, parts_true, cond_some, cond_is_some, Known, then_some, some_then_some}
use Rattle.flow_core_laws.proofs.FilledLemmas.{IsSameIn, data_same}
use Rattle.flow_core_laws.proofs.OwnTask.{records_change_own_task}
use Rattle.flow_core_laws.proofs.StaysEnabled.{Found, found_at, at_is, same_place, made_from, command_from, filled_from}
use Rattle.flow_core_laws.specs.Reads.{issue_reads}
use Rattle.flow_core_laws.specs.BothSend.{BothMaySend}
use Rattle.flow_core_laws.proofs.RunStates.{IsOfRun, of_run}
use Rattle.flow_core_laws.proofs.Frame.{under, test_of, here_is, AreFree, refers, shown_is}

-- the command of then, by that of before
record Again (p q : Shown) (made : Issuing) (o : Option Issuing) : Type 0 where
  other : Issuing
  content : Data
  other_is : o ≡ Some other
  was : (made.0).bytes ≡ canon (addressed p.run (length p.lists.issues) content)
  again : (other.0).bytes ≡ canon (addressed p.run (length q.lists.issues) content)
  agent : (other.0).agent ≡ (made.0).agent

module _ (p : Shown) (m : ℕ) (l : Lists) (now t : ℕ) (task : Task) (step : Step) where
  abbrev q : Shown
  q = record p { moment = m; lists = l }

  abbrev h : Here
  h = here_of p now t task step

  abbrev g : Here
  g = here_of q now t task step

  filled_again : (to : List ℕ) (n : ℕ) (o : Option Data) (made : Issuing) → ((name : List ℕ) → Contains (option_map_or referred_in o []) name → IsSameIn p.lists l n name) → filled_from h to n o ≡ Some made
      → Again p q made (filled_from g to n o)
  filled_again to n None made same e = absurd (none_some made e)
  filled_again to n (Some d) made same e = record {
    other = _;
    content = filled p.lists n d;
    other_is = refl;
    was = ap (λ (x : Issuing). (x.0).bytes) (sym (some_inner _ made e));
    again = ap (λ (x : Data). canon (addressed p.run (length l.issues) x)) (data_same p.lists l n d same);
    agent = ap (λ (x : Issuing). (x.0).agent) (some_inner _ made e);
  }

  command_again : (to : List ℕ) (content : Option (List ℕ)) (scope : Option ℕ) (made : Issuing)
      → ((n : ℕ) (name : List ℕ) → scope ≡ Some n → Contains (option_map_or referred_in (option_and_then tree content) []) name → IsSameIn p.lists l n name)
      → command_from h to content scope ≡ Some made → Again p q made (command_from g to content scope)
  command_again to None scope made same e = absurd (none_some made e)
  command_again to (Some text) None made same e = absurd (none_some made e)
  command_again to (Some text) (Some n) made same e = filled_again to n (tree text) made (λ name c. same n name refl c) e

  place_again : (o : Option Place) (made : Issuing) → ((place : Place) → o ≡ Some place → (n : ℕ) → task.step_scope ≡ Some n → (name : List ℕ) → Contains (names_at place) name → IsSameIn p.lists l n name)
      → made_from changes.command_at h o ≡ Some made → Again p q made (made_from changes.command_at g o)
  place_again None made same e = absurd (none_some made e)
  place_again (Some (to_operator content)) made same e = absurd (none_some made e)
  place_again (Some (to_filter content to)) made same e = command_again to content task.step_scope made (λ n name at c. same (to_filter content to) refl n at name c) e

pub both_may_send : BothMaySend
both_may_send given run records s a b one t n agent now bytes leads x y apart le free = record {
  content = i.content;
  again = ((i.other).0).bytes;
  was = (bytes_eq-Decides bytes ((made.value).0).bytes).0 tests.1 ∙ i.was ∙ ap (λ (j : ℕ). canon (addressed s.run j i.content)) (sym number);
  again_is = i.again;
  comes = subst (λ (z : Shown). is_some (changes.change z (entry.Send t (length a.issues) agent now ((i.other).0).bytes)) ≡ true) (sym (shown_is s a one x k c))
      (cond_is_some (is_in_time q now) (changes.send q now t (length a.issues) agent ((i.other).0).bytes) timely
      (some_then_some (λ (z : Issuing). cond ((length a.issues == length a.issues) && (agent == (z.0).agent) && bytes_eq ((i.other).0).bytes (z.0).bytes) (Some z.1) None) (changes.next_command q now t) i.other i.other_is
      (taken ((length a.issues == length a.issues) && (agent == ((i.other).0).agent) && bytes_eq ((i.other).0).bytes ((i.other).0).bytes) (i.other).1
      (three (length a.issues == length a.issues) (agent == ((i.other).0).agent) (bytes_eq ((i.other).0).bytes ((i.other).0).bytes) (same_number (length a.issues))
      (equal_true agent ((i.other).0).agent (equal_of agent ((made.value).0).agent two.1 ∙ sym i.agent)) (same_bytes ((i.other).0).bytes)))));
}
  where
    p : Shown
    p = shown s

    q : Shown
    q = record (shown s) { moment = a.moment; lists = (shown a).lists }

    k : IsOfRun s
    k = of_run given run records s leads

    c : ChangesOwnTask s a one (task_of (shown s) one)
    c = records_change_own_task s a one x

    sent : changes.send (shown s) now t n agent bytes ≡ Some y.edits
    sent = under (is_in_time (shown s) now) (changes.send (shown s) now t n agent bytes) y.edits y.change_is

    made : Known (λ (z : Issuing). cond ((n == length s.issues) && (agent == (z.0).agent) && bytes_eq bytes (z.0).bytes) (Some z.1) None) (changes.next_command (shown s) now t)
    made = then_some (λ (z : Issuing). cond ((n == length s.issues) && (agent == (z.0).agent) && bytes_eq bytes (z.0).bytes) (Some z.1) None) (changes.next_command (shown s) now t) (ap is_some sent)

    tests : (((n == length s.issues) && (agent == ((made.value).0).agent)) ≡ true) × (bytes_eq bytes ((made.value).0).bytes ≡ true)
    tests = parts_true ((n == length s.issues) && (agent == ((made.value).0).agent)) (bytes_eq bytes ((made.value).0).bytes)
        (cond_some ((n == length s.issues) && (agent == ((made.value).0).agent) && bytes_eq bytes ((made.value).0).bytes) (Some (made.value).1) made.some).0

    two : ((n == length s.issues) ≡ true) × ((agent == ((made.value).0).agent) ≡ true)
    two = parts_true (n == length s.issues) (agent == ((made.value).0).agent) tests.0

    number : n ≡ length s.issues
    number = equal_of n (length s.issues) two.0

    at : Found (shown s) t
    at = found_at (shown s) now t (λ (z : Here). made_from changes.command_at z (changes.place_at z z.task.phase)) (ap is_some made.is)

    reads_free : AreFree s a one x k c (issue_reads (here_of (shown s) now t at.task at.step))
    reads_free =
        subst (λ (o : Option Here). AreFree s a one x k c (option_map_or issue_reads o [])) (here_is (shown s) now t at.task at.step at.task_is at.step_is) (λ place name r w. free place name w r)

    i : Again (shown s) (record (shown s) { moment = a.moment; lists = (shown a).lists }) made.value (changes.next_command (record (shown s) { moment = a.moment; lists = (shown a).lists }) now t)
    i =
        subst (Again (shown s) (record (shown s) { moment = a.moment; lists = (shown a).lists }) made.value)
        (sym (at_is (record (shown s) { moment = a.moment; lists = (shown a).lists }) now t (λ (z : Here). made_from changes.command_at z (changes.place_at z z.task.phase)) at.task at.step (c.tasks.others t at.task at.task_is apart) at.step_is
        ∙ ap (made_from changes.command_at (here_of (record (shown s) { moment = a.moment; lists = (shown a).lists }) now t at.task at.step)) (same_place (shown s) (record (shown s) { moment = a.moment; lists = (shown a).lists }) now now t at.task at.step (at.task).phase)))
        (place_again (shown s) a.moment (shown a).lists now t at.task at.step (changes.place_at (here_of (shown s) now t at.task at.step) (at.task).phase) made.value
        (refers s a one x k c t now at.task at.step at.task_is apart reads_free)
        (sym (at_is (shown s) now t (λ (z : Here). made_from changes.command_at z (changes.place_at z z.task.phase)) at.task at.step at.task_is at.step_is) ∙ made.is))

    timely : is_in_time (record (shown s) { moment = a.moment; lists = (shown a).lists }) now ≡ true
    timely =
        both_true (nat_le a.moment now) (nat_le now last_moment) (le_true a.moment now (subst (λ j. j ≤ now) (sym c.moment) le))
        (parts_true (nat_le s.moment now) (nat_le now last_moment) (test_of (is_in_time (shown s) now) (changes.send (shown s) now t n agent bytes) y.edits y.change_is)).1
