use Rattle.std.proofs.Common.{◌≡◌, List, ◌++◌, map}
use Rattle.cacao_json.specs.Tree.{pair_data}
use Rattle.cacao_json.proofs.StraightLemmas.{Entry, entry_member}
use Rattle.cacao_json.proofs.wide.pairs_of_map.Given as goal

abbrev pub invariant-loop-name : goal.invariant-loop-name
invariant-loop-name l = (done : List Entry) × (l.fn.map.entries ≡ done ++ l.name-iterator) × (map pair_data l.pairs.items ≡ map entry_member done)
