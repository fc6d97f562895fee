use Rattle.std.proofs.Common.{ℕ, List, subst}
use Rattle.flow_core_plans.specs.SetupReading.{RefusesTexts}
use Rattle.flow_core.proofs.BeginLemmas.{not_accepted}
use Rattle.flow_core.proofs.replaying.setup_of.Goals as goal

pub returns : goal.returns
returns c =
    not_accepted c.args.books.now c.args.bind.now c.in-Err.error
    (subst (λ (l : List (List ℕ)). RefusesTexts l c.args.bind.now c.in-Err.error) c.as_slice.ensures c.in-Err.ensures.err) (c.wants_memory.ensures c.if-wants_memory.false)
