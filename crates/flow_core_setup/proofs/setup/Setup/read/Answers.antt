use Rattle.std.proofs.Common.{◌≡◌, sym, ap, subst, map}
use Rattle.cacao_json.specs.Tree.{data_of}
use Rattle.flow_core_setup.specs.SetupReading.{AreTreesOf}
use Rattle.flow_core_setup.proofs.SetupReasons.{refused_bind}
use Rattle.flow_core_setup.proofs.setup.Setup.read.Goals as goal

pub returns-in-Err-read_bindings-clause-err : goal.returns-in-Err-read_bindings-clause-err
returns-in-Err-read_bindings-clause-err c = refused_bind c.args.books.now c.args.bind.now (map data_of c.in-Ok.trees.items) c.in-Err-read_bindings.refusal c.in-Ok.ensures.ok c.in-Err-read_bindings.ensures.err

pub read_by_trees-requires-clause-trees : goal.read_by_trees-requires-clause-trees
read_by_trees-requires-clause-trees c =
    let same : map data_of c.as_slice.result.now ≡ map data_of c.in-Ok.trees.items = ap (map data_of) c.as_slice.ensures.value in
    subst (AreTreesOf c.args.books.now) (sym same) c.in-Ok.ensures.ok
