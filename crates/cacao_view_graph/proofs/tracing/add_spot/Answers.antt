use Rattle.std.proofs.Common.{◌∙◌, ◌++◌, ℕ, Option, sym, ap, append-nil}
use Rattle.std.proofs.lemmas.Result.{on_ok_weaker}
use Rattle.cacao_view_graph.specs.Courses.{spots}
use Rattle.cacao_view_graph.proofs.tracing.add_spot.Goals as goal

pub returns-in-Some : goal.returns-in-Some
returns-in-Some c =
    on_ok_weaker c.add_stand.result (λ h. h ∙ ap (λ (number : Option ℕ). c.args.list.now.items ++ spots c.args.flow.now.seen number) (sym c.in-Some.is)) c.add_stand.ensures

pub returns-in-None : goal.returns-in-None
returns-in-None c =
    sym (append-nil c.args.list.now.items) ∙ ap (λ (number : Option ℕ). c.args.list.now.items ++ spots c.args.flow.now.seen number) (sym c.in-None.is)
