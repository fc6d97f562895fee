use Rattle.cacao_view_log.specs.Sources.{items_of}
use Rattle.cacao_view_graph.proofs.RunLemmas.{begun_told, draws_entries}
use Rattle.cacao_view_graph.proofs.run_pictures.draw_run.Goals as goal

pub draw-requires : goal.draw-requires
draw-requires c = begun_told (items_of c.args.source.now) c.in-Ok.followed.flow c.in-Ok.followed.course c.in-Ok.ensures.ok

pub returns-in-Ok-draw-clause-ok : goal.returns-in-Ok-draw-clause-ok
returns-in-Ok-draw-clause-ok c =
    draws_entries (items_of c.args.source.now) c.in-Ok.followed.flow c.in-Ok.followed.course c.in-Ok-draw.lines.items c.in-Ok.ensures.ok c.in-Ok-draw.ensures
