-- Trees that break no rule of shape are not refused for one.
use Rattle.std.proofs.Common.{map}
use Rattle.cacao_json.specs.Tree.{data_of}
use Rattle.cacao_view_graph.proofs.PlacingLemmas.{none_broken}
use Rattle.cacao_view_graph.proofs.pictures.books_of.Goals as goal

pub unreachable-requires : goal.unreachable-requires
unreachable-requires c = none_broken (map data_of c.args.trees.now) _ _ c.requires.shaped c.in-Err-Broken.field-0-is c.in-Err-Broken.ensures.broken
