use Rattle.std.proofs.Common.{◌≡◌, ◌++◌, ◌∷◌, length, take}
use Rattle.std.specs.List.{flat_map}
use Rattle.run_records.specs.Layout.{string}
use Rattle.run_records.proofs.writing.put_strings.Given as goal

abbrev pub invariant-loop-text : goal.invariant-loop-text
invariant-loop-text l = l.out.items ≡ l.fn.out.items ++ (length l.texts ∷ flat_map string (take l.text-index l.texts))
