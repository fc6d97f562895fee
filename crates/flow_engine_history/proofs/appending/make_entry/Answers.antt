use Rattle.std.proofs.Common.{◌≤◌, ℕ, List, length, sym, subst}
use Rattle.flow_engine_history.proofs.HistoryLemmas.{entry_fits}
use Rattle.flow_engine_history.proofs.appending.make_entry.Goals as goal

pub make_room-requires : goal.make_room-requires
make_room-requires c =
    subst (λ (entry : List ℕ). length entry ≤ 17_829_888) (sym c.in-Ok.ensures.layout) (entry_fits c.args.next.now c.requires)

pub returns-in-Ok-make_room-clause-size : goal.returns-in-Ok-make_room-clause-size
returns-in-Ok-make_room-clause-size c =
    subst (λ (entry : List ℕ). length entry ≤ 17_829_888) (sym c.in-Ok.ensures.layout) (entry_fits c.args.next.now c.requires)
