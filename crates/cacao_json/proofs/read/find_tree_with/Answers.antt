use Rattle.std.proofs.Common.{◌≡◌, Some, subst}
use Rattle.std.specs.Prelude.{IfSome}
use Rattle.cacao_json.specs.Reading.{tree}
use Rattle.cacao_json.specs.Tree.{data_of}
use Rattle.cacao_json.proofs.Shapes.{IsTree-from_tree}
use Rattle.cacao_json.proofs.read.find_tree_with.Goals as goal

pub returns-in-Some-clause-profile : goal.returns-in-Some-clause-profile
returns-in-Some-clause-profile c = IsTree-from_tree c.args.bytes.now (data_of c.in-Some.tree) (subst (λ o. IfSome o (λ t. tree c.args.bytes.now ≡ Some (data_of t))) c.in-Some.is c.in_ok-tree.ensures)
