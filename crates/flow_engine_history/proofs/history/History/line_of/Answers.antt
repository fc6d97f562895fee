use Rattle.std.proofs.Common.{◌≡◌, ◌∙◌, Some, ap}
use Rattle.std.specs.Prelude.{slice_get}
use Rattle.flow_engine_history.specs.HistoryView.{HistoryView}
use Rattle.flow_engine_history.specs.KeptHistory.{records_of}
use Rattle.flow_engine_history.proofs.LineLemmas.{in_range_at}
use Rattle.flow_engine_history.proofs.history.History.line_of.Goals as goal

pub line_by_key-requires : goal.line_by_key-requires
line_by_key-requires c =
    let rs = records_of c.self.inside.journal.items in
    let item = c.args.item.now in
    let there : slice_get rs c.args.n ≡ Some item = ap (λ (v : HistoryView). slice_get v.records c.args.n) c.self.view_is ∙ c.requires in
    in_range_at rs c.args.n item c.self.invariant.ranges there
