use Rattle.std.proofs.Common.{◌≡◌, ◌++◌, map, take, string_bytes}
use Rattle.cacao_view_words.proofs.book_words.add_names.Given as goal

abbrev pub invariant-loop-word : goal.invariant-loop-word
invariant-loop-word l = map (λ name. name.now) l.names.items ≡ map (λ name. name.now) l.fn.names.items ++ map string_bytes (take l.word-index l.words)
