use Rattle.std.proofs.Common.{◌≡◌, ◌++◌, drop}
use Rattle.cacao_view_preflight.specs.Warnings.{each, of_book_commands}
use Rattle.cacao_view_preflight.proofs.commands.warn_of_commands.Given as goal

abbrev pub invariant-loop-n : goal.invariant-loop-n
invariant-loop-n l =
    l.lines ++ each of_book_commands l.n (drop l.n l.books) ≡ l.fn.lines ++ each of_book_commands 0 l.books
