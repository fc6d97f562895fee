use Rattle.cacao_view_log.specs.Sources.{items_of}
use Rattle.cacao_view_graph.proofs.RunLemmas.{draws_none}
use Rattle.cacao_view_graph.proofs.run_pictures.draw_none.Goals as goal

pub picture-requires-clause-shaped : goal.picture-requires-clause-shaped
picture-requires-clause-shaped c = λ n. tt

pub returns-in-Ok-clause-ok : goal.returns-in-Ok-clause-ok
returns-in-Ok-clause-ok c = draws_none (items_of c.args.source.now) c.in-Ok.lines.items c.requires c.in-Ok.ensures
