-- One entry more.
use Rattle.std.proofs.Common.{◌≡◌, ◌≤◌, ◌<◌, refl, ℕ, List, [], ◌∷◌, ◌++◌, length, take, slice_index_or}
use Rattle.flow_core_rules.specs.Givens.{Given}
use Rattle.flow_core.specs.Views.{View, most_tasks}
use Rattle.flow_core.specs.declared.flow_errors.LimitKind.TheVariants as limit
use Rattle.flow_engine_history.specs.declared.error.EngineError.TheVariants as refused
use Rattle.flow_engine_history.proofs.OpenLemmas.{refused_at}
use Rattle.flow_engine_history.specs.KeptHistory.{stand_before}
use Rattle.flow_engine_history.specs.Replays.{Stands}
use Rattle.flow_engine_history.specs.Replays as engine
use Rattle.flow_engine_history.proofs.ReplayLemmas.{replayed_more}
use Rattle.flow_engine_reports.specs.Replaying.{IsReplayed, RefusesNext, StopsReplay, TakesEntry}
use Rattle.flow_engine_reports.specs.declared.error.ReportError.{ReportError}
use Rattle.flow_engine_reports.specs.declared.error.ReportError.TheVariants.{Damaged, TooManyTasks, Memory}

pub taken_more : (given : Given) (run : ℕ) (items : List (List ℕ)) (v w : View) (item : List ℕ) → IsReplayed given run items v → TakesEntry v item w → IsReplayed given run (items ++ item ∷ []) w
taken_more given run items v w item h t = (
  h.0 ++ stand_before v.seen t.r ∷ [],
  replayed_more given run items v w h.0 (h.0 ++ stand_before v.seen t.r ∷ []) item h.1 (record {
    r = t.r;
    in_range = t.in_range;
    is = t.is;
    took = record { took = record { edits = t.edits; takes = t.takes; new_is = t.new_is }; more_is = refl };
  }),
)

-- an entry that may come next and was not taken
pub stops_at : (given : Given) (run : ℕ) (items : List (List ℕ)) (v : View) (stands : Stands) (n : ℕ) (item : List ℕ) (error : ReportError) → engine.IsReplayed given run (take n items) v stands
    → 1 ≤ v.count → n < length items → item ≡ slice_index_or items n [] → length v.seen.lists.tasks ≤ most_tasks → RefusesNext v item error → StopsReplay given run items error
stops_at given run items v stands n item (Damaged place) h some within here few next = absurd next
stops_at given run items v stands n item TooManyTasks h some within here few next = refused_at given run items v stands n item (refused.Limit limit.Tasks) h some within here few (refl, next)
stops_at given run items v stands n item Memory h some within here few next = tt
