use Rattle.std.proofs.Common.{◌≡◌, ◌∷◌, map, take, string_bytes}
use Rattle.cacao_view.proofs.graph_word.names_of.Given as goal

abbrev pub invariant-loop-library : goal.invariant-loop-library
invariant-loop-library l = map (λ name. name.now) l.names.items ≡ l.book ∷ map string_bytes (take l.library-index l.libraries)
