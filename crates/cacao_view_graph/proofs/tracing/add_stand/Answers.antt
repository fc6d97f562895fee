-- A task that is there stands at a step; another at none.
use Rattle.std.proofs.Common.{◌∙◌, ◌++◌, List, slice_get, sym, ap, append-nil}
use Rattle.cacao_view_graph.specs.declared.spot.Spot.{Spot}
use Rattle.cacao_view_graph.proofs.NoteLemmas.{spot_none, spot_some}
use Rattle.cacao_view_graph.proofs.tracing.add_stand.Goals as goal

pub returns-in_default : goal.returns-in_default
returns-in_default c =
    sym (append-nil c.args.list.now.items)
    ∙ ap (λ (l : List Spot). c.args.list.now.items ++ l) (sym (spot_none (slice_get c.args.flow.now.seen.lists.tasks c.args.task) (sym c.in_default.ensures)))

pub returns : goal.returns
returns c =
    c.in_ok-push.ensures.items
    ∙ ap (λ (l : List Spot). c.args.list.now.items ++ l) (sym (spot_some (slice_get c.args.flow.now.seen.lists.tasks c.args.task) c.in-Some.stand (sym c.in-Some.ensures)))
