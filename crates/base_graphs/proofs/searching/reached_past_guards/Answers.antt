use Rattle.std.proofs.Common.{Contains, sym, ◌∙◌}
use Rattle.base_graphs.specs.Tables.{Leads}
use Rattle.base_graphs.proofs.MarkLemmas.{Searches-first, Searches-more, Searches-end}
use Rattle.base_graphs.proofs.searching.reached_past_guards.Goals as goal

pub loop-place-init : goal.loop-place-init
loop-place-init c =
    Searches-first c.args.first.now (Leads c.args.free.now c.args.guarded.now c.args.shut.now c.args.blocked.now) c.args.count c.in_ok-marks.marks c.mark_row.new.marks c.mark_row.new.work.items c.in_ok-marks.ensures
    (rw (c.new-none.ensures, c.new-work.ensures.items) at c.in_ok-mark_row.ensures)

pub loop-place-preserved : goal.loop-place-preserved
loop-place-preserved c =
    Searches-more (Contains c.args.first.now) (Leads c.args.free.now c.args.guarded.now c.args.shut.now c.args.blocked.now) c.args.count c.in-Some.place c.loop-place.marks _ c.loop-place.work.items c.pop.new.self.items _ c.in-Some.ensures.items c.loop-place.invariant c.in_ok-expand.ensures

pub returns-clause-exact : goal.returns-clause-exact
returns-clause-exact c = Searches-end (Contains c.args.first.now) (Leads c.args.free.now c.args.guarded.now c.args.shut.now c.args.blocked.now) c.args.count c.loop-place.marks c.loop-place.work.items (sym c.loop-place.work.ok.0 ∙ c.in_default.ensures.cases.0) c.loop-place.invariant
