-- What a task is to send or ask stays the very same, where a record of another task keeps what it reads.
use Rattle.std.proofs.Common.{◌≡◌, ℕ, ◌≤◌, ◌==◌, ◌&&◌, true, cond, List, [], length, Contains, Option, Some, None, is_some, refl, ap, sym, subst, ◌∙◌}
use Rattle.std.specs.Prelude.{nat_le, option_and_then, slice_get}
use Rattle.std.specs.Option.{option_map_or}
use Rattle.std.specs.Str.{bytes_eq}
use Rattle.std.proofs.lemmas.Slice.Eq.{bytes_eq-Decides}
use Rattle.serde_json.specs.Data.{Data}
use Rattle.run_records.specs.declared.record.Record.{Record}
use Rattle.run_records.specs.declared.record.Record.TheVariants as entry
use Rattle.run_records.specs.Ranges.{last_moment}
use Rattle.cacao_json.specs.Reading.{tree}
use Rattle.cacao_text.specs.Canon.{canon}
use Rattle.cacao_check_steps.specs.Uses.{referred, referred_in}
use Rattle.flow_core_rules.specs.declared.tasks.Task.{Task}
use Rattle.flow_core_rules.specs.declared.phases.Phase.{Phase}
use Rattle.flow_core_rules.specs.declared.phases.Phase.TheVariants as phase
use Rattle.flow_core_rules.specs.Givens.{Given, step_at}
use Rattle.flow_core_rules.specs.State.{State, shown}
use Rattle.flow_core_rules.specs.Places.{Place, to_filter, to_operator, places, filter_of}
use Rattle.flow_core_rules.specs.Filled.{addressed, filled}
use Rattle.flow_core_rules.specs.Tasks.{Here}
use Rattle.flow_core_rules.specs.Changes as changes
use Rattle.flow_core_rules.specs.Changes.{Issuing, is_in_time, moment_of}
use Rattle.flow_core_rules.specs.Runs.{IsEnabled}
use Rattle.flow_core_rules.specs.Laws.{issued_by}
use Rattle.flow_core_rules.proofs.RunLemmas.{some_inner}
use Rattle.flow_core_rules.proofs.HereLemmas.{here_of}
use Rattle.flow_core_rules.proofs.ShownLemmas.{values_shown}
use Rattle.flow_core_rules.proofs.MoveLemmas.{three, taken}
use Rattle.flow_core_laws.specs.OwnTask.{task_of, ChangesOwnTask}
use Rattle.flow_core_laws.specs.SameBytes.{names_at, KeepsName, KeepsRead, SendsTheSame, AsksTheSame}
use Rattle.flow_core_laws.proofs.Somes.{none_some, le_true, equal_of, equal_true, both_true, parts_true, cond_some, cond_is_some, Known, then_some, some_then_some}
use Rattle.flow_core_laws.proofs.FilledLemmas.{IsSameIn, data_same, replaced_same}
use Rattle.flow_core_laws.proofs.OwnTask.{records_change_own_task}
use Rattle.flow_core_laws.proofs.StaysEnabled.{Found, found_at, at_is, same_place, made_from, command_from, filled_from, question_from, mark_stays}

-- the very same command or question
record SameIssue (made : Issuing) (o : Option Issuing) : Type 0 where
  other : Issuing
  other_is : o ≡ Some other
  agent : (other.0).agent ≡ (made.0).agent
  bytes : (other.0).bytes ≡ (made.0).bytes

-- the place at which a task stands
record Stands (kind_places : List Place) (at : Phase) (place : Place) : Type 0 where
  number : ℕ
  at_is : at ≡ phase.Sending number
  there : slice_get kind_places number ≡ Some place

stands_at : (h : Here) (at : Phase) (place : Place) → changes.place_at h at ≡ Some place → Stands (places h.step.kind) at place
stands_at h (phase.Sending n) place e = record { number = n; at_is = refl; there = e }
stands_at h (phase.At since) place e = absurd (none_some place e)
stands_at h (phase.Awaiting p issue) place e = absurd (none_some place e)
stands_at h (phase.Joining from) place e = absurd (none_some place e)
stands_at h (phase.Ended well) place e = absurd (none_some place e)

module _ (h g : Here) (task_is : g.task ≡ h.task) (given_is : g.seen.given ≡ h.seen.given) (run_is : g.seen.run ≡ h.seen.run) (count_is : length g.seen.lists.issues ≡ length h.seen.lists.issues) where
  filled_again : (to : List ℕ) (n : ℕ) (o : Option Data) (made : Issuing) → ((name : List ℕ) → Contains (option_map_or referred_in o []) name → IsSameIn h.seen.lists g.seen.lists n name) → filled_from h to n o ≡ Some made
      → SameIssue made (filled_from g to n o)
  filled_again to n None made same e = absurd (none_some made e)
  filled_again to n (Some d) made same e =
      record {
        other = _;
        other_is = refl;
        agent = ap (λ (given : Given). filter_of given.agents to) given_is ∙ ap (λ (x : Issuing). (x.0).agent) (some_inner _ made e);
        bytes =
            ap (λ run. canon (addressed run (length g.seen.lists.issues) (filled g.seen.lists n d))) run_is ∙ ap (λ k. canon (addressed h.seen.run k (filled g.seen.lists n d))) count_is
            ∙ ap (λ (x : Data). canon (addressed h.seen.run (length h.seen.lists.issues) x)) (data_same h.seen.lists g.seen.lists n d same) ∙ ap (λ (x : Issuing). (x.0).bytes) (some_inner _ made e);
      }

  command_again : (to : List ℕ) (content : Option (List ℕ)) (scope : Option ℕ) (made : Issuing)
      → ((n : ℕ) (name : List ℕ) → scope ≡ Some n → Contains (option_map_or referred_in (option_and_then tree content) []) name → IsSameIn h.seen.lists g.seen.lists n name)
      → command_from h to content scope ≡ Some made → SameIssue made (command_from g to content scope)
  command_again to None scope made same e = absurd (none_some made e)
  command_again to (Some text) None made same e = absurd (none_some made e)
  command_again to (Some text) (Some n) made same e = filled_again to n (tree text) made (λ name c. same n name refl c) e

  place_command : (o : Option Place) (made : Issuing) → ((n : ℕ) (place : Place) (name : List ℕ) → o ≡ Some place → h.task.step_scope ≡ Some n → Contains (names_at place) name → IsSameIn h.seen.lists g.seen.lists n name)
      → made_from changes.command_at h o ≡ Some made → SameIssue made (made_from changes.command_at g o)
  place_command None made same e = absurd (none_some made e)
  place_command (Some (to_operator content)) made same e = absurd (none_some made e)
  place_command (Some (to_filter content to)) made same e =
      subst (λ (x : Task). SameIssue made (command_from g to content x.step_scope)) (sym task_is)
      (command_again to content h.task.step_scope made (λ n name at c. same n (to_filter content to) name refl at c) e)

  question_again : (content : Option (List ℕ)) (scope : Option ℕ) (made : Issuing) → ((n : ℕ) (name : List ℕ) → scope ≡ Some n → Contains (option_map_or referred content []) name → IsSameIn h.seen.lists g.seen.lists n name)
      → question_from h content scope ≡ Some made → SameIssue made (question_from g content scope)
  question_again None scope made same e = absurd (none_some made e)
  question_again (Some text) None made same e = absurd (none_some made e)
  question_again (Some text) (Some n) made same e =
      record {
        other = _;
        other_is = refl;
        agent = ap (λ (x : Issuing). (x.0).agent) (some_inner _ made e);
        bytes = replaced_same h.seen.lists g.seen.lists n text (λ name c. same n name refl c) ∙ ap (λ (x : Issuing). (x.0).bytes) (some_inner _ made e);
      }

  place_question : (o : Option Place) (made : Issuing) → ((n : ℕ) (place : Place) (name : List ℕ) → o ≡ Some place → h.task.step_scope ≡ Some n → Contains (names_at place) name → IsSameIn h.seen.lists g.seen.lists n name)
      → made_from changes.question_at h o ≡ Some made → SameIssue made (made_from changes.question_at g o)
  place_question None made same e = absurd (none_some made e)
  place_question (Some (to_filter content to)) made same e = absurd (none_some made e)
  place_question (Some (to_operator content)) made same e =
      subst (λ (x : Task). SameIssue made (question_from g content x.step_scope)) (sym task_is)
      (question_again content h.task.step_scope made (λ n name at c. same n (to_operator content) name refl at c) e)

module _ (s new : State) (r : Record) (c : ChangesOwnTask s new r (task_of (shown s) r)) (m : ℕ) (timely : is_in_time (shown new) m ≡ true) (quiet : issued_by r ≡ None) (t : ℕ) (apart : task_of (shown s) r ≡ Some t → ⊥) (keeps : KeepsRead s new t) where
  count_is : length new.issues ≡ length s.issues
  count_is = c.issues.none_added quiet

  -- what the task reads is the same in what is shown
  reads_same : (now : ℕ) (k : Found (shown s) t) (n : ℕ) (place : Place) (name : List ℕ) → changes.place_at (here_of (shown s) now t k.task k.step) (k.task).phase ≡ Some place → (k.task).step_scope ≡ Some n → Contains (names_at place) name
      → IsSameIn (shown s).lists (shown new).lists n name
  reads_same now k n place name at scope among =
      let st : Stands (places (k.step).kind) (k.task).phase place = stands_at (here_of (shown s) now t k.task k.step) (k.task).phase place at in
      let kept : KeepsName s new n name = keeps k.task k.step st.number n place name k.task_is k.step_is st.at_is st.there scope among in
      (kept.0, sym (values_shown new n name) ∙ kept.1 ∙ values_shown s n name)

  command_same : (now : ℕ) (made : Issuing) → changes.next_command (shown s) now t ≡ Some made → SameIssue made (changes.next_command (shown new) m t)
  command_same now made e =
      let f : Here → Option Issuing = λ (h : Here). made_from changes.command_at h (changes.place_at h h.task.phase) in
      let k : Found (shown s) t = found_at (shown s) now t f (ap is_some e) in
      let hs : Here = here_of (shown s) now t k.task k.step in
      let hn : Here = here_of (shown new) m t k.task k.step in
      let was : made_from changes.command_at hs (changes.place_at hs (k.task).phase) ≡ Some made = sym (at_is (shown s) now t f k.task k.step k.task_is k.step_is) ∙ e in
      let now_is : changes.next_command (shown new) m t ≡ made_from changes.command_at hn (changes.place_at hn (k.task).phase) =
      at_is (shown new) m t f k.task k.step (c.tasks.others t k.task k.task_is apart) (subst (λ (x : Given). step_at x (k.task).book (k.task).step ≡ Some k.step) (sym c.given) k.step_is) in
      subst (SameIssue made) (sym (now_is ∙ ap (made_from changes.command_at hn) (same_place (shown s) (shown new) now m t k.task k.step (k.task).phase)))
      (place_command hs hn refl c.given c.run count_is (changes.place_at hs (k.task).phase) made (λ n place name at scope among. reads_same now k n place name at scope among) was)

  question_same : (now : ℕ) (made : Issuing) → changes.next_question (shown s) now t ≡ Some made → SameIssue made (changes.next_question (shown new) m t)
  question_same now made e =
      let f : Here → Option Issuing = λ (h : Here). made_from changes.question_at h (changes.place_at h h.task.phase) in
      let k : Found (shown s) t = found_at (shown s) now t f (ap is_some e) in
      let hs : Here = here_of (shown s) now t k.task k.step in
      let hn : Here = here_of (shown new) m t k.task k.step in
      let was : made_from changes.question_at hs (changes.place_at hs (k.task).phase) ≡ Some made = sym (at_is (shown s) now t f k.task k.step k.task_is k.step_is) ∙ e in
      let now_is : changes.next_question (shown new) m t ≡ made_from changes.question_at hn (changes.place_at hn (k.task).phase) =
      at_is (shown new) m t f k.task k.step (c.tasks.others t k.task k.task_is apart) (subst (λ (x : Given). step_at x (k.task).book (k.task).step ≡ Some k.step) (sym c.given) k.step_is) in
      subst (SameIssue made) (sym (now_is ∙ ap (made_from changes.question_at hn) (same_place (shown s) (shown new) now m t k.task k.step (k.task).phase)))
      (place_question hs hn refl c.given c.run count_is (changes.place_at hs (k.task).phase) made (λ n place name at scope among. reads_same now k n place name at scope among) was)

  same_text : (a b : List ℕ) → a ≡ b → bytes_eq a b ≡ true
  same_text a b e = (bytes_eq-Decides a b).1 e

  text_of : (a b : List ℕ) → bytes_eq a b ≡ true → a ≡ b
  text_of a b e = (bytes_eq-Decides a b).0 e

  pub send_same : (now n agent : ℕ) (bytes : List ℕ) → IsEnabled s (entry.Send t n agent now bytes) → IsEnabled new (entry.Send t n agent m bytes)
  send_same now n agent bytes e =
      let k : Known (λ (x : Issuing). cond ((n == length s.issues) && (agent == (x.0).agent) && bytes_eq bytes (x.0).bytes) (Some x.1) None) (changes.next_command (shown s) now t) =
      then_some (λ (x : Issuing). cond ((n == length s.issues) && (agent == (x.0).agent) && bytes_eq bytes (x.0).bytes) (Some x.1) None) (changes.next_command (shown s) now t)
      (cond_some (is_in_time (shown s) now) (changes.send (shown s) now t n agent bytes) e).1 in
      let all = parts_true ((n == length s.issues) && (agent == ((k.value).0).agent)) (bytes_eq bytes ((k.value).0).bytes)
      (cond_some ((n == length s.issues) && (agent == ((k.value).0).agent) && bytes_eq bytes ((k.value).0).bytes) (Some (k.value).1) k.some).0 in
      let two = parts_true (n == length s.issues) (agent == ((k.value).0).agent) all.0 in
      let i : SameIssue k.value (changes.next_command (shown new) m t) = command_same now k.value k.is in
      cond_is_some (is_in_time (shown new) m) (changes.send (shown new) m t n agent bytes) timely
      (some_then_some (λ (x : Issuing). cond ((n == length new.issues) && (agent == (x.0).agent) && bytes_eq bytes (x.0).bytes) (Some x.1) None) (changes.next_command (shown new) m t) i.other i.other_is
      (taken ((n == length new.issues) && (agent == ((i.other).0).agent) && bytes_eq bytes ((i.other).0).bytes) (i.other).1
      (three (n == length new.issues) (agent == ((i.other).0).agent) (bytes_eq bytes ((i.other).0).bytes)
      (equal_true n (length new.issues) (equal_of n (length s.issues) two.0 ∙ sym count_is))
      (equal_true agent ((i.other).0).agent (equal_of agent ((k.value).0).agent two.1 ∙ sym i.agent))
      (same_text bytes ((i.other).0).bytes (text_of bytes ((k.value).0).bytes all.1 ∙ sym i.bytes)))))

  pub ask_same : (now n : ℕ) (bytes : List ℕ) → IsEnabled s (entry.Ask t n now bytes) → IsEnabled new (entry.Ask t n m bytes)
  ask_same now n bytes e =
      let k : Known (λ (x : Issuing). cond (s.is_upgraded && (n == length s.issues) && bytes_eq bytes (x.0).bytes) (Some x.1) None) (changes.next_question (shown s) now t) =
      then_some (λ (x : Issuing). cond (s.is_upgraded && (n == length s.issues) && bytes_eq bytes (x.0).bytes) (Some x.1) None) (changes.next_question (shown s) now t)
      (cond_some (is_in_time (shown s) now) (changes.ask (shown s) now t n bytes) e).1 in
      let all = parts_true (s.is_upgraded && (n == length s.issues)) (bytes_eq bytes ((k.value).0).bytes)
      (cond_some (s.is_upgraded && (n == length s.issues) && bytes_eq bytes ((k.value).0).bytes) (Some (k.value).1) k.some).0 in
      let two = parts_true s.is_upgraded (n == length s.issues) all.0 in
      let i : SameIssue k.value (changes.next_question (shown new) m t) = question_same now k.value k.is in
      cond_is_some (is_in_time (shown new) m) (changes.ask (shown new) m t n bytes) timely
      (some_then_some (λ (x : Issuing). cond (new.is_upgraded && (n == length new.issues) && bytes_eq bytes (x.0).bytes) (Some x.1) None) (changes.next_question (shown new) m t) i.other i.other_is
      (taken (new.is_upgraded && (n == length new.issues) && bytes_eq bytes ((i.other).0).bytes) (i.other).1
      (three new.is_upgraded (n == length new.issues) (bytes_eq bytes ((i.other).0).bytes) (mark_stays s new r c.upgrade two.0)
      (equal_true n (length new.issues) (equal_of n (length s.issues) two.1 ∙ sym count_is))
      (same_text bytes ((i.other).0).bytes (text_of bytes ((k.value).0).bytes all.1 ∙ sym i.bytes)))))

in_time : (s new : State) (r : Record) (m : ℕ) → ChangesOwnTask s new r (task_of (shown s) r) → moment_of r ≤ m → m ≤ last_moment → is_in_time (shown new) m ≡ true
in_time s new r m c first most = both_true (nat_le new.moment m) (nat_le m last_moment) (le_true new.moment m (subst (λ n. n ≤ m) (sym c.moment) first)) (le_true m last_moment most)

pub sends_the_same : SendsTheSame
sends_the_same s new one t n agent moment now bytes next enabled apart quiet keeps first second most =
    let c : ChangesOwnTask s new one (task_of (shown s) one) = records_change_own_task s new one next in
    send_same s new one c now (in_time s new one now c first most) quiet t apart keeps moment n agent bytes enabled

pub asks_the_same : AsksTheSame
asks_the_same s new one t n moment now bytes next enabled apart quiet keeps first second most =
    let c : ChangesOwnTask s new one (task_of (shown s) one) = records_change_own_task s new one next in
    ask_same s new one c now (in_time s new one now c first most) quiet t apart keeps moment n bytes enabled
