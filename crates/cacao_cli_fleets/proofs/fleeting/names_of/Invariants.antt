use Rattle.std.proofs.Common.{◌≡◌, map, take}
use Rattle.cacao_cli_fleets.proofs.fleeting.names_of.Given as goal

abbrev pub invariant-loop-one : goal.invariant-loop-one
invariant-loop-one l = map (λ name. name.now) l.names.items ≡ map (λ one. one.book.now) (take l.one-index l.fn.runs)
