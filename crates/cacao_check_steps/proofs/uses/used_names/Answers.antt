use Rattle.cacao_check_steps.proofs.UseLemmas.{uses_iff}
use Rattle.cacao_check_steps.proofs.uses.used_names.Goals as goal

pub returns : goal.returns
returns c name = rw c.in_ok-all.ensures (uses_iff c.spells_at_most_one.ensures c.args.step.now name c.args.books.now c.args.book.now c.args.parts.now c.requires)
