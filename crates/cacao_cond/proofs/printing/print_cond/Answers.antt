-- What is printed spells its condition.
use Rattle.std.proofs.Common.{◌++◌, ◌∙◌, ap}
use Rattle.cacao_cond.specs.Printing.{printed}
use Rattle.cacao_cond.specs.Trees.{tree_of}
use Rattle.cacao_cond.proofs.Printed.{spells_printed}
use Rattle.cacao_cond.proofs.printing.print_cond.Goals as goal

pub returns-clause-spelled : goal.returns-clause-spelled
returns-clause-spelled c =
    spells_printed (tree_of c.args.cond.now) c.print_any.new.out.items c.in_ok-print_any.ensures.fit
    (c.in_ok-print_any.ensures.text ∙ ap (λ t. t ++ printed (tree_of c.args.cond.now)) c.new-bytes.ensures.items)
