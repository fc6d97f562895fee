use Rattle.std.proofs.Common.{◌≡◌, ◌++◌, drop, map}
use Rattle.cacao_json.specs.Tree.{data_of}
use Rattle.cacao_view_preflight.specs.Warnings.{each, of_members}
use Rattle.cacao_view_preflight.proofs.members.warn_of_members.Given as goal

abbrev pub invariant-loop-n : goal.invariant-loop-n
invariant-loop-n l =
    l.lines ++ each of_members l.n (map data_of (drop l.n l.trees)) ≡ l.fn.lines ++ each of_members 0 (map data_of l.trees)
