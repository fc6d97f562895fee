-- What a task sends or asks is the same where what it refers to and the number of issues are.
use Rattle.std.proofs.Common.{◌≡◌, ℕ, ◌==◌, ◌&&◌, cond, List, [], ◌∷◌, length, Contains, Option, Some, None, refl, ap, sym, ◌∙◌}
use Rattle.std.specs.Prelude.{option_and_then, option_map, slice_get}
use Rattle.std.specs.Option.{option_map_or}
use Rattle.std.specs.Str.{bytes_eq}
use Rattle.serde_json.specs.Data.{Data}
use Rattle.cacao_json.specs.Reading.{tree}
use Rattle.cacao_text.specs.Canon.{canon}
use Rattle.cacao_book.specs.declared.steps.Step.{Step}
use Rattle.cacao_check_steps.specs.Uses.{referred, referred_in}
use Rattle.flow_core_rules.specs.declared.tasks.Task.{Task}
use Rattle.flow_core_rules.specs.declared.issues.Issue.{Issue}
use Rattle.flow_core_rules.specs.declared.phases.Phase.TheVariants as phase
use Rattle.flow_core_rules.specs.Givens.{step_at}
use Rattle.flow_core_rules.specs.State.{Lists, Shown}
use Rattle.flow_core_rules.specs.Edits.Edit.{issues, moves}
use Rattle.flow_core_rules.specs.Places.{Place, to_filter, to_operator, filter_of}
use Rattle.flow_core_rules.specs.Filled.{addressed, fill, filled, replaced}
use Rattle.flow_core_rules.specs.Tasks.{Here, here_at, in_phase}
use Rattle.flow_core_rules.specs.Changes as changes
use Rattle.flow_core_rules.specs.Changes.{Issuing, issue_with}
use Rattle.flow_core_rules.proofs.HereLemmas.{here_of}
use Rattle.flow_core_laws.specs.SameBytes.{names_at}
use Rattle.flow_core_laws.proofs.FilledLemmas.{IsSameIn, data_same, replaced_same}
use Rattle.flow_core_laws.proofs.StaysEnabled.{at_is, same_place, made_from}

module _ (p : Shown) (m : ℕ) (l : Lists) (now t : ℕ) (task : Task) (step : Step) (count : length l.issues ≡ length p.lists.issues) where
  abbrev q : Shown
  q = record p { moment = m; lists = l }

  abbrev h : Here
  h = here_of p now t task step

  abbrev g : Here
  g = here_of q now t task step

  abbrev pub RefersSame : Place → Type 0
  RefersSame place = (scope : ℕ) → task.step_scope ≡ Some scope → (name : List ℕ) → Contains (names_at place) name → IsSameIn p.lists l scope name

  fill_same : (text : List ℕ) (n : ℕ) → ((name : List ℕ) → Contains (option_map_or referred_in (tree text) []) name → IsSameIn p.lists l n name)
      → fill text l n p.run (length l.issues) ≡ fill text p.lists n p.run (length p.lists.issues)
  fill_same text n same = ap (fill text l n p.run) count ∙ by (tree text) same
    where
      by : (o : Option Data) → ((name : List ℕ) → Contains (option_map_or referred_in o []) name → IsSameIn p.lists l n name)
          → option_map (λ (d : Data). canon (addressed p.run (length p.lists.issues) (filled l n d))) o ≡ option_map (λ (d : Data). canon (addressed p.run (length p.lists.issues) (filled p.lists n d))) o
      by None same = refl
      by (Some d) same = ap (λ (x : Data). Some (canon (addressed p.run (length p.lists.issues) x))) (data_same p.lists l n d same)

  command_same : (place : Place) → RefersSame place → changes.command_at g place ≡ changes.command_at h place
  command_same (to_operator content) same = refl
  command_same (to_filter None to) same = refl
  command_same (to_filter (Some text) to) same = by task.step_scope (λ n at. same n at)
    where
      by : (o : Option ℕ) → ((n : ℕ) → o ≡ Some n → (name : List ℕ) → Contains (option_map_or referred_in (tree text) []) name → IsSameIn p.lists l n name)
          → option_and_then (λ (n : ℕ). option_and_then (λ (bytes : List ℕ). Some (issue_with g (filter_of p.given.agents to) bytes)) (fill text l n p.run (length l.issues))) o
          ≡ option_and_then (λ (n : ℕ). option_and_then (λ (bytes : List ℕ). Some (issue_with h (filter_of p.given.agents to) bytes)) (fill text p.lists n p.run (length p.lists.issues))) o
      by None same = refl
      by (Some n) same = ap (λ (o : Option (List ℕ)). option_and_then (λ (bytes : List ℕ). Some (issue_with h (filter_of p.given.agents to) bytes)) o) (fill_same text n (same n refl))

  question_same : (place : Place) → RefersSame place → changes.question_at g place ≡ changes.question_at h place
  question_same (to_filter content to) same = refl
  question_same (to_operator None) same = refl
  question_same (to_operator (Some text)) same = by task.step_scope (λ n at. same n at)
    where
      by : (o : Option ℕ) → ((n : ℕ) → o ≡ Some n → (name : List ℕ) → Contains (referred text) name → IsSameIn p.lists l n name)
          → option_and_then (λ (n : ℕ). Some (issue_with g 0 (replaced l n text))) o ≡ option_and_then (λ (n : ℕ). Some (issue_with h 0 (replaced p.lists n text))) o
      by None same = refl
      by (Some n) same = ap (λ (bytes : List ℕ). Some (issue_with h 0 bytes)) (replaced_same p.lists l n text (same n refl))

  issuing_same : (issue : Issue) → changes.issuing g issue ≡ changes.issuing h issue
  issuing_same issue =
      ap {B = Issuing} (λ (k : ℕ). (issue, issues issue ∷ moves t (in_phase task (phase.Awaiting (changes.place_number task.phase) k)) ∷ [])) count

  made_same : (issue_at : Here → Place → Option Issue) (o : Option Place) → ((place : Place) → o ≡ Some place → issue_at g place ≡ issue_at h place) → made_from issue_at g o ≡ made_from issue_at h o
  made_same issue_at None same = refl
  made_same issue_at (Some place) same =
      ap (λ (o : Option Issue). option_and_then (λ (issue : Issue). Some (changes.issuing g issue)) o) (same place refl) ∙ by (issue_at h place)
    where
      by : (o : Option Issue) → option_and_then (λ (issue : Issue). Some (changes.issuing g issue)) o ≡ option_and_then (λ (issue : Issue). Some (changes.issuing h issue)) o
      by None = refl
      by (Some issue) = ap Some (issuing_same issue)

  module _ (was : slice_get p.lists.tasks t ≡ Some task) (is : slice_get l.tasks t ≡ Some task) (stands : step_at p.given task.book task.step ≡ Some step)
      (reads : (place : Place) → changes.place_at h task.phase ≡ Some place → RefersSame place) where
    next_same : (issue_at : Here → Place → Option Issue) → ((place : Place) → RefersSame place → issue_at g place ≡ issue_at h place)
        → option_and_then (λ (x : Here). made_from issue_at x (changes.place_at x x.task.phase)) (here_at q now t) ≡ option_and_then (λ (x : Here). made_from issue_at x (changes.place_at x x.task.phase)) (here_at p now t)
    next_same issue_at same =
        at_is q now t (λ (x : Here). made_from issue_at x (changes.place_at x x.task.phase)) task step is stands
        ∙ ap (made_from issue_at g) (same_place p q now now t task step task.phase)
        ∙ made_same issue_at (changes.place_at h task.phase) (λ place e. same place (reads place e))
        ∙ sym (at_is p now t (λ (x : Here). made_from issue_at x (changes.place_at x x.task.phase)) task step was stands)

    pub send_same : (n agent : ℕ) (bytes : List ℕ) → changes.send q now t n agent bytes ≡ changes.send p now t n agent bytes
    send_same n agent bytes =
        ap (λ (k : ℕ). option_and_then (λ (made : Issuing). cond ((n == k) && (agent == (made.0).agent) && bytes_eq bytes (made.0).bytes) (Some made.1) None) (changes.next_command q now t)) count
        ∙ ap (λ (o : Option Issuing). option_and_then (λ (made : Issuing). cond ((n == length p.lists.issues) && (agent == (made.0).agent) && bytes_eq bytes (made.0).bytes) (Some made.1) None) o) (next_same changes.command_at command_same)

    pub ask_same : l.is_upgraded ≡ p.lists.is_upgraded → (n : ℕ) (bytes : List ℕ) → changes.ask q now t n bytes ≡ changes.ask p now t n bytes
    ask_same mark n bytes =
        ap (λ b. option_and_then (λ (made : Issuing). cond (b && (n == length l.issues) && bytes_eq bytes (made.0).bytes) (Some made.1) None) (changes.next_question q now t)) mark
        ∙ ap (λ (k : ℕ). option_and_then (λ (made : Issuing). cond (p.lists.is_upgraded && (n == k) && bytes_eq bytes (made.0).bytes) (Some made.1) None) (changes.next_question q now t)) count
        ∙ ap (λ (o : Option Issuing). option_and_then (λ (made : Issuing). cond (p.lists.is_upgraded && (n == length p.lists.issues) && bytes_eq bytes (made.0).bytes) (Some made.1) None) o) (next_same changes.question_at question_same)
