-- A task that is ready at a moment has a move then, and no other task has one.
use Rattle.std.proofs.Common.{◌≡◌, ◌⊎◌, ℕ, ◌+◌, ◌≤◌, Bool, true, false, cond, Option, Some, None, is_some, arith, refl, ap, sym, ◌∙◌, inl, inr}
use Rattle.std.specs.Prelude.{slice_get, option_and_then, option_map, nat_le, not, is_none}
use Rattle.std.specs.Option.{option_map_or}
use Rattle.std.specs.List.{list_all, list_any}
use Rattle.cacao_book.specs.declared.steps.Step.{Step}
use Rattle.base_dues.specs.Pairs.{is_by}
use Rattle.flow_core_rules.specs.declared.tasks.Task.{Task}
use Rattle.flow_core_rules.specs.declared.issues.Issue.{Issue}
use Rattle.flow_core_rules.specs.declared.phases.Phase.{Phase}
use Rattle.flow_core_rules.specs.declared.phases.Phase.TheVariants as phase
use Rattle.flow_core_rules.specs.declared.moves.Move.{Move}
use Rattle.flow_core_rules.specs.declared.moves.Move.TheVariants as move
use Rattle.flow_core_rules.specs.Givens.{step_at}
use Rattle.flow_core_rules.specs.State.{Shown}
use Rattle.flow_core_rules.specs.Places.{Place}
use Rattle.flow_core_rules.specs.Tasks.{Here, here_at}
use Rattle.flow_core_rules.specs.Changes as changes
use Rattle.flow_core_rules.specs.Changes.{Issuing, walk, next_command, next_question, upgrade, has_ended, children, outcome}
use Rattle.flow_core_rules.specs.Moves.{move_at, ready_at, delay_of}
use Rattle.flow_core_rules.specs.Sane.{IsSane, IsSaneTask, IsSaneAt, IsAllOver}
use Rattle.flow_core_rules.proofs.HereLemmas.{here_of}
use Rattle.flow_core_rules.proofs.CanEndLemmas.{ended_is_all_over}

clash : (b : Bool) → b ≡ true → b ≡ false → ⊥
clash true x y = cc
clash false x y = cc

some_known : {A : Type 0} (o : Option A) → is_some o ≡ true → (x : A) × (o ≡ Some x)
some_known None e = absurd (clash false e refl)
some_known (Some x) e = (x, refl)

-- ---- the three tests, where the task and its step are known

there : (s : Shown) (now t : ℕ) (task : Task) (step : Step) → slice_get s.lists.tasks t ≡ Some task → step_at s.given task.book task.step ≡ Some step → here_at s now t ≡ Some (here_of s now t task step)
there s now t task step e f =
    ap (option_and_then (λ (x : Task). option_map (λ (y : Step). here_of s now t x y) (step_at s.given x.book x.step))) e
    ∙ ap (option_map (λ (y : Step). here_of s now t task y)) f

walk_is : (s : Shown) (now t : ℕ) (task : Task) (step : Step) → slice_get s.lists.tasks t ≡ Some task → step_at s.given task.book task.step ≡ Some step → walk s now t ≡ changes.walked (here_of s now t task step) task.phase
walk_is s now t task step e f = ap (option_and_then (λ (h : Here). changes.walked h h.task.phase)) (there s now t task step e f)

abbrev command_from : Here → Option Place → Option Issuing
command_from h place = option_and_then (λ (p : Place). option_and_then (λ (i : Issue). Some (changes.issuing h i)) (changes.command_at h p)) place

abbrev question_from : Here → Option Place → Option Issuing
question_from h place = option_and_then (λ (p : Place). option_and_then (λ (i : Issue). Some (changes.issuing h i)) (changes.question_at h p)) place

command_is : (s : Shown) (now t : ℕ) (task : Task) (step : Step) → slice_get s.lists.tasks t ≡ Some task → step_at s.given task.book task.step ≡ Some step
    → next_command s now t ≡ command_from (here_of s now t task step) (changes.place_at (here_of s now t task step) task.phase)
command_is s now t task step e f = ap (option_and_then (λ (h : Here). command_from h (changes.place_at h h.task.phase))) (there s now t task step e f)

question_is : (s : Shown) (now t : ℕ) (task : Task) (step : Step) → slice_get s.lists.tasks t ≡ Some task → step_at s.given task.book task.step ≡ Some step
    → next_question s now t ≡ question_from (here_of s now t task step) (changes.place_at (here_of s now t task step) task.phase)
question_is s now t task step e f = ap (option_and_then (λ (h : Here). question_from h (changes.place_at h h.task.phase))) (there s now t task step e f)

-- ---- the choice of a move

abbrev choice : ℕ → Bool → Bool → Bool → Bool → Bool → Option Move
choice t walks sends asks upgraded rises =
    cond walks (Some (move.Walk t)) (cond sends (Some (move.Send t)) (cond (not asks) None (cond upgraded (Some (move.Ask t)) (cond rises (Some move.Upgrade) None))))

move_is : (s : Shown) (now t : ℕ) (walks sends asks : Bool) → is_some (walk s now t) ≡ walks → is_some (next_command s now t) ≡ sends → is_some (next_question s now t) ≡ asks
    → move_at s now t ≡ choice t walks sends asks s.lists.is_upgraded (is_some (upgrade s.lists 2))
move_is s now t walks sends asks e f g =
    ap (λ b. choice t b (is_some (next_command s now t)) (is_some (next_question s now t)) s.lists.is_upgraded (is_some (upgrade s.lists 2))) e
    ∙ ap (λ b. choice t walks b (is_some (next_question s now t)) s.lists.is_upgraded (is_some (upgrade s.lists 2))) f
    ∙ ap (λ b. choice t walks sends b s.lists.is_upgraded (is_some (upgrade s.lists 2))) g

-- ---- whether a task has a move

-- a phase at which there is no place
no_place : (h : Here) (at : Phase) → changes.place_at h at ≡ None → (is_some (command_from h (changes.place_at h at)) ≡ false) × (is_some (question_from h (changes.place_at h at)) ≡ false)
no_place h at e = (ap (λ o. is_some (command_from h o)) e, ap (λ o. is_some (question_from h o)) e)

module _ (s : Shown) (now t : ℕ) (task : Task) (step : Step) (e : slice_get s.lists.tasks t ≡ Some task) (f : step_at s.given task.book task.step ≡ Some step) where
  abbrev h : Here
  h = here_of s now t task step

  unplaced : (walks : Bool) → changes.place_at h task.phase ≡ None → is_some (walk s now t) ≡ walks → is_some (move_at s now t) ≡ walks
  unplaced walks none w =
      let c : is_some (next_command s now t) ≡ false = ap is_some (command_is s now t task step e f) ∙ (no_place h task.phase none).0 in
      let q : is_some (next_question s now t) ≡ false = ap is_some (question_is s now t task step e f) ∙ (no_place h task.phase none).1 in
      ap is_some (move_is s now t walks false false w c q) ∙ by walks
    where
      by : (b : Bool) → is_some (choice t b false false s.lists.is_upgraded (is_some (upgrade s.lists 2))) ≡ b
      by true = refl
      by false = refl

  delay_is : delay_of s task ≡ step.delay
  delay_is = ap (λ (o : Option Step). option_map_or (λ x. x.delay) o 0) f

  goes_on : IsSane s → has_ended task.phase ≡ false → is_none (outcome s.lists) ≡ true
  goes_on sane going = by (outcome s.lists) refl
    where
      by : (o : Option Bool) → outcome s.lists ≡ o → is_none o ≡ true
      by None g = refl
      by (Some b) g =
          let over : IsAllOver s = ended_is_all_over s sane (ap is_some g) in
          absurd (clash (has_ended task.phase) (over.tasks t task e) going)

  rises : IsSane s → has_ended task.phase ≡ false → s.lists.is_upgraded ≡ false → is_some (upgrade s.lists 2) ≡ true
  rises sane going upgraded = rw (goes_on sane going, upgraded) refl

  asks_moves : IsSane s → has_ended task.phase ≡ false → (walks sends : Bool) → is_some (choice t walks sends true s.lists.is_upgraded (is_some (upgrade s.lists 2))) ≡ true
  asks_moves sane going true sends = refl
  asks_moves sane going false true = refl
  asks_moves sane going false false = by s.lists.is_upgraded refl
    where
      by : (b : Bool) → s.lists.is_upgraded ≡ b → is_some (cond b (Some (move.Ask t)) (cond (is_some (upgrade s.lists 2)) (Some move.Upgrade) None)) ≡ true
      by true g = refl
      by false g = ap (λ b. is_some (cond b (Some move.Upgrade) None)) (rises sane going g)

  sending : IsSane s → (place : ℕ) → task.phase ≡ phase.Sending place → IsSaneAt s t task (phase.Sending place) → is_some (move_at s now t) ≡ true
  sending sane place at can = by (can now)
    where
      going : has_ended task.phase ≡ false
      going = ap has_ended at

      walks : is_some (walk s now t) ≡ false
      walks = ap is_some (walk_is s now t task step e f) ∙ ap (λ p. is_some (changes.walked h p)) at

      by : (is_some (next_command s now t) ≡ true) ⊎ (is_some (next_question s now t) ≡ true) → is_some (move_at s now t) ≡ true
      by (inl c) = ap is_some (move_is s now t false true (is_some (next_question s now t)) walks c refl)
      by (inr q) = ap is_some (move_is s now t false (is_some (next_command s now t)) true walks refl q) ∙ asks_moves sane going false (is_some (next_command s now t))

  at_phase : IsSane s → (at : Phase) → task.phase ≡ at → IsSaneAt s t task at → is_by now (ready_at s t task at) ≡ is_some (move_at s now t)
  at_phase sane (phase.At since) is can = by (nat_le (since + delay_of s task) now) refl
    where
      due : nat_le (since + delay_of s task) now ≡ nat_le (since + step.delay) now
      due = ap (λ d. nat_le (since + d) now) delay_is

      le_of : (a b : ℕ) → nat_le a b ≡ true → a ≤ b
      le_of a b g = grind arith

      none : changes.place_at h task.phase ≡ None
      none = ap (changes.place_at h) is

      walks : (b : Bool) → nat_le (since + step.delay) now ≡ b → is_some (walk s now t) ≡ is_some (cond b (changes.entered h step.kind) None)
      walks b g = ap is_some (walk_is s now t task step e f) ∙ ap (λ p. is_some (changes.walked h p)) is ∙ ap (λ x. is_some (cond x (changes.entered h step.kind) None)) g

      by : (b : Bool) → nat_le (since + delay_of s task) now ≡ b → nat_le (since + delay_of s task) now ≡ is_some (move_at s now t)
      by true g = g ∙ sym (unplaced true none (can now (le_of (since + delay_of s task) now g)))
      by false g = g ∙ sym (unplaced false none (walks false (sym due ∙ g)))
  at_phase sane (phase.Sending place) is can = least now ∙ sym (sending sane place is can)
    where
      least : (n : ℕ) → nat_le 0 n ≡ true
      least n = grind arith
  at_phase sane (phase.Awaiting place issue) is can =
      sym (unplaced false (ap (changes.place_at h) is) (ap is_some (walk_is s now t task step e f) ∙ ap (λ p. is_some (changes.walked h p)) is))
  at_phase sane (phase.Joining from) is can = by (list_all (λ (one : Task). has_ended one.phase) (children s.lists t from)) refl
    where
      none : changes.place_at h task.phase ≡ None
      none = ap (changes.place_at h) is

      least : (n : ℕ) → nat_le 0 n ≡ true
      least n = grind arith

      waits : (o : Option ℕ) → list_all (λ (one : Task). has_ended one.phase) (children s.lists t from) ≡ false → is_some (option_and_then (λ (scope : ℕ). changes.joined h from scope (children s.lists t from)) o) ≡ false
      waits None g = refl
      waits (Some scope) g = ap (λ b. is_some (cond (not b) None (cond (list_any (λ (x : Task). changes.has_failed x.phase) (children s.lists t from)) (Some (changes.done h false)) (Some (changes.rejoined h from scope step.kind))))) g

      by : (b : Bool) → list_all (λ (one : Task). has_ended one.phase) (children s.lists t from) ≡ b → is_by now (cond b (Some 0) None) ≡ is_some (move_at s now t)
      by true g = least now ∙ sym (unplaced true none (can.1 g now))
      by false g = sym (unplaced false none (ap is_some (walk_is s now t task step e f) ∙ ap (λ p. is_some (changes.walked h p)) is ∙ waits task.step_scope g))
  at_phase sane (phase.Ended well) is can =
      sym (unplaced false (ap (changes.place_at h) is) (ap is_some (walk_is s now t task step e f) ∙ ap (λ p. is_some (changes.walked h p)) is))
  -- ---- which move it is

-- a task of a sane state is ready by a moment exactly where it has a move then
pub ready_moves : (s : Shown) (now t : ℕ) (task : Task) → IsSane s → slice_get s.lists.tasks t ≡ Some task → is_by now (ready_at s t task task.phase) ≡ is_some (move_at s now t)
ready_moves s now t task sane e =
    let k : IsSaneTask s t task = sane.tasks t task e in
    let step = some_known (step_at s.given task.book task.step) k.step in
    at_phase s now t task step.0 e step.1 sane task.phase refl k.phase
