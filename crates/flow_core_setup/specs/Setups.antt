-- Promise: What a setup gives a run.
use Rattle.std.specs.Prelude.{◌≡◌, ℕ, ◌≤◌, List, length, All, Option, slice_get, option_and_then}
use Rattle.serde_json.specs.Data.{Data}
use Rattle.cacao_cond.specs.Trees.{AnyTree}
use Rattle.cacao_book.specs.Steps.{AreSteps}
use Rattle.cacao_check_steps.specs.Uses.{commands_of, content_tree}
use Rattle.cacao_check_steps.specs.Uses.{condition_of as condition_text}
use Rattle.cacao_check.specs.declared.breaks.Mode.TheVariants.{Run}
use Rattle.cacao_check.specs.FirstBreak.{IsAccepted}
use Rattle.flow_core_rules.specs.Givens.{Given, step_at}
use Rattle.flow_core_rules.specs.Conditions.{condition_of}
use Rattle.flow_core_rules.specs.Accepted.{Accepted}
use Rattle.flow_core_rules.specs.Runnable.{IsRunnable}
use Rattle.cacao_check.specs.Fits.{FitsKind}
use Rattle.flow_core_setup.specs.SetupGivens.{AreInOrder}

-- the trees of one playbook or more break no rule in the mode of runs
abbrev pub AreAccepted : List Data → Type 0
AreAccepted trees = (1 ≤ length trees) × IsAccepted trees Run

-- the condition of a step: what its text spells
abbrev pub condition_at : Given → ℕ → ℕ → Option AnyTree
condition_at given book step =
    option_and_then (λ s. option_and_then condition_of (condition_text s.kind)) (step_at given book step)

-- the tree of the content of one of a step's commands; the text for an operator has none
abbrev pub content_at : Given → ℕ → ℕ → ℕ → Option Data
content_at given book step command =
    option_and_then (λ s. option_and_then content_tree (slice_get (commands_of s.kind) command)) (step_at given book step)

-- a text is short enough to be read
abbrev pub IsReadable : List ℕ → Type 0
IsReadable text = length text ≤ 1048576

-- What a setup gives: its own texts are accepted and give it again; it can be run; it has at most 16 playbooks, each with its text
-- and with at most 4,096 steps in the order of their keys; its texts are short enough to be read; agents and targets stand in
-- the order of their names.
pub record IsSetup (given : Given) : Type 0 where
  pub accepted : Accepted AreAccepted FitsKind given.texts given.bind given
  pub runnable : IsRunnable given
  pub few : length given.books ≤ 16
  pub steps : All (λ book. AreSteps book.steps) given.books
  pub texts : length given.texts ≡ length given.books
  pub readable : All IsReadable given.texts
  pub bind : IsReadable given.bind
  pub order : AreInOrder given.agents
