use Rattle.std.proofs.Common.{◌≡◌, ◌++◌, List, drop}
use Rattle.cacao_view_preflight.specs.NameSets.{HasJust}
use Rattle.cacao_view_preflight.specs.Warnings.{Text, each, of_book_variables}
use Rattle.cacao_view_preflight.proofs.variables.warn_of_variables.Given as goal

abbrev pub invariant-loop-n : goal.invariant-loop-n
invariant-loop-n l =
    (all : List Text) → HasJust l.bound all → l.lines ++ each (of_book_variables all l.books) l.n (drop l.n l.books) ≡ l.fn.lines ++ each (of_book_variables all l.books) 0 l.books
