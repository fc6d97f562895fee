use Rattle.std.proofs.Common.{List, ℕ, Bor, Option, Some, None, IfSome, IfNone}
use Rattle.cacao_cond.specs.Trees.{AnyTree}
use Rattle.cacao_cond.specs.Grammar.{Spells}
use Rattle.cacao_check_steps.specs.Uses.{condition_of}
use Rattle.cacao_check.proofs.RuleLemmas.{unread_iff}
use Rattle.cacao_check.proofs.step_rules.condition_is_read.Goals as goal

-- what no tree spells has no tree that spells it
paired : {C : Type 0} (part : Option C) (o : Option (List ℕ)) → IfNone part (IfSome o (λ text. (cond : AnyTree) → ¬ Spells cond text)) → IfNone part (IfSome o (λ text. ((cond : AnyTree) × Spells cond text) → ⊥))
paired (Some c) o h = tt
paired None None h = tt
paired None (Some text) h = λ found. h found.0 found.1

pub returns : goal.returns
returns c =
    unread_iff (λ (x : Bor (List ℕ)). x.now) c.condition_of.result (condition_of c.args.step.now.kind) (λ text. (cond : AnyTree) × Spells cond text) c.args.parts.now.condition c.is_some.result c.is_none.result c.condition_of.ensures.text c.is_some.ensures c.if-is_some.false (paired c.args.parts.now.condition (condition_of c.args.step.now.kind) c.requires.reads.no_condition) c.is_none.ensures
