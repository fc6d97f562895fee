use Rattle.std.proofs.Common.{◌≡◌, ◌<◌, ◌∙◌, None, false, ℕ, ap, sym, subst}
use Rattle.flow_core.specs.Views.{View, passed}
use Rattle.flow_engine_history.specs.declared.history.History.TheInside.{Inside}
use Rattle.flow_engine_history.specs.HistoryCalls.{Adds, Is, IsOfMove, Refuses}
use Rattle.flow_engine_history.specs.HistoryView.{HistoryView}
use Rattle.flow_engine_history.specs.KeptHistory.{history_view}
use Rattle.flow_engine_history.proofs.AppendLemmas.{adds, is_of_move, kept_after, may_move_now, move_takes, move_within, ready_more, refuses_append, refuses_move, seen_after, view_same}
use Rattle.flow_engine_history.proofs.HistoryLemmas.{few_records}
use Rattle.flow_engine_history.proofs.KindLemmas.{refuses_as}
use Rattle.flow_engine_history.proofs.history.History.append_move.Goals as goal

pub prepare_move-requires-clause-moves : goal.prepare_move-requires-clause-moves
prepare_move-requires-clause-moves g c = may_move_now c.self.inside c.args.self.now c.args.step c.args.moment c.self.invariant c.self.view_is c.requires.moves

pub prepare_move-requires-clause-few : goal.prepare_move-requires-clause-few
prepare_move-requires-clause-few g c =
    let kept = c.self.invariant in
    subst (λ (n : ℕ). n < 100_000_000) (sym kept.count) (few_records c.self.inside.journal.items kept.entries c.count.ensures.fits)

pub returns-in-Err-clause-refused : goal.returns-in-Err-clause-refused
returns-in-Err-clause-refused g c =
    let h = c.self.inside in
    let site = g.D.Disk.view c.args.disk.now in
    let may = may_move_now h c.args.self.now c.args.step c.args.moment c.self.invariant c.self.view_is c.requires.moves in
    let b : Inside = record { alloc = h.alloc; journal = c.prepare_move.new.journal; flow = c.prepare_move.new.flow; stands = c.prepare_move.new.stands } in
    let whole : h.journal.broken ≡ false = sym c.is_broken.ensures ∙ c.if-is_broken.false in
    subst (λ (v : HistoryView). Refuses v (history_view b) (IsOfMove v c.args.step c.args.moment) c.in-Err.error site site) c.self.view_is
    (refuses_move h c.args.step c.args.moment c.self.invariant may.comes c.in-Err.error (history_view b) site whole
    (view_same h b c.prepare_move.ensures.same_journal c.prepare_move.ensures.same_flow) c.in-Err.ensures.refused)

pub returns-in-Err-keep-clause-refused : goal.returns-in-Err-keep-clause-refused
returns-in-Err-keep-clause-refused g c =
    let h = c.self.inside in
    let next = c.in-Ok.moved.next in
    let says = c.in-Err-keep.ensures in
    let old = g.D.Disk.view c.args.disk.now in
    let new = g.D.Disk.view c.keep.new.disk in
    let may = may_move_now h c.args.self.now c.args.step c.args.moment c.self.invariant c.self.view_is c.requires.moves in
    let takes = move_takes h.flow c.args.step c.args.moment next c.in-Ok.ensures.next may.comes in
    let b : Inside = record { alloc = h.alloc; journal = c.keep.new.journal; flow = c.keep.new.flow; stands = c.keep.new.stands } in
    let whole : h.journal.broken ≡ false = sym c.is_broken.ensures ∙ c.if-is_broken.false in
    let within : passed h.flow.seen takes.0 ≡ None = move_within h.flow c.args.step c.args.moment takes.0 takes.2 c.in-Ok.ensures.within in
    let seen : b.flow.seen ≡ h.flow.seen = ap (λ (v : View). v.seen) says.flow_stays ∙ c.prepare_move.ensures.same_flow.seen in
    subst (λ (v : HistoryView). Refuses v (history_view b) (IsOfMove v c.args.step c.args.moment) c.in-Err-keep.error old new) c.self.view_is
    (refuses_as (Is next) (IsOfMove (history_view h) c.args.step c.args.moment) (is_of_move (history_view h) c.args.step c.args.moment next c.in-Ok.ensures.next)
    (history_view h) (history_view b) c.in-Err-keep.error old new
    (refuses_append h next takes.0 c.self.invariant c.in-Ok.ensures.in_range takes.1 c.in-Err-keep.error c.prepare_move.new.journal b c.in-Ok.moved.made.entry old new
    c.prepare_move.ensures.same_journal c.in-Ok.ensures.entry within whole c.keep.ensures.appends says.items seen says.refused))

pub invariant_of-self-2 : goal.invariant_of-self-2
invariant_of-self-2 g c =
    let h = c.self.inside in
    let next = c.in-Ok.moved.next in
    let says = c.in-Ok-keep.ensures in
    let may = may_move_now h c.args.self.now c.args.step c.args.moment c.self.invariant c.self.view_is c.requires.moves in
    let takes = move_takes h.flow c.args.step c.args.moment next c.in-Ok.ensures.next may.comes in
    let b : Inside = record { alloc = h.alloc; journal = c.keep.new.journal; flow = c.keep.new.flow; stands = c.keep.new.stands } in
    kept_after h next takes.0 c.self.invariant c.in-Ok.ensures.in_range takes.1 c.prepare_move.new.flow c.prepare_move.new.journal b c.in-Ok.moved.made.entry c.prepare_move.new.stands.items c.in-Ok.moved.made.stand
    c.prepare_move.ensures.same_flow c.prepare_move.ensures.same_journal c.in-Ok.ensures.entry says.ok says.takes c.prepare_move.ensures.stands c.in-Ok.ensures.stand says.stands

pub returns-clause-ready : goal.returns-clause-ready
returns-clause-ready g c =
    let h = c.self.inside in
    let next = c.in-Ok.moved.next in
    let new = g.D.Disk.view c.keep.new.disk in
    let says = c.in-Ok-keep.ensures in
    let may = may_move_now h c.args.self.now c.args.step c.args.moment c.self.invariant c.self.view_is c.requires.moves in
    let takes = move_takes h.flow c.args.step c.args.moment next c.in-Ok.ensures.next may.comes in
    let b : Inside = record { alloc = h.alloc; journal = c.keep.new.journal; flow = c.keep.new.flow; stands = c.keep.new.stands } in
    let whole : h.journal.broken ≡ false = sym c.is_broken.ensures ∙ c.if-is_broken.false in
    let seen = (seen_after h next takes.0 c.self.invariant c.in-Ok.ensures.in_range takes.1 c.prepare_move.new.flow b.flow c.prepare_move.ensures.same_flow says.takes).1 in
    ready_more h next takes.0 c.self.invariant c.in-Ok.ensures.in_range takes.1 c.prepare_move.new.journal b c.in-Ok.moved.made.entry new
    c.prepare_move.ensures.same_journal c.in-Ok.ensures.entry says.ok whole seen says.images

pub returns-clause-made : goal.returns-clause-made
returns-clause-made g c = subst (λ (v : HistoryView). IsOfMove v c.args.step c.args.moment c.in-Ok.moved.next) c.self.view_is c.in-Ok.ensures.next

pub returns-clause-ok : goal.returns-clause-ok
returns-clause-ok g c =
    let h = c.self.inside in
    let next = c.in-Ok.moved.next in
    let old = g.D.Disk.view c.args.disk.now in
    let new = g.D.Disk.view c.keep.new.disk in
    let says = c.in-Ok-keep.ensures in
    let may = may_move_now h c.args.self.now c.args.step c.args.moment c.self.invariant c.self.view_is c.requires.moves in
    let takes = move_takes h.flow c.args.step c.args.moment next c.in-Ok.ensures.next may.comes in
    let b : Inside = record { alloc = h.alloc; journal = c.keep.new.journal; flow = c.keep.new.flow; stands = c.keep.new.stands } in
    let whole : h.journal.broken ≡ false = sym c.is_broken.ensures ∙ c.if-is_broken.false in
    let within : passed h.flow.seen takes.0 ≡ None = move_within h.flow c.args.step c.args.moment takes.0 takes.2 c.in-Ok.ensures.within in
    let seen = (seen_after h next takes.0 c.self.invariant c.in-Ok.ensures.in_range takes.1 c.prepare_move.new.flow b.flow c.prepare_move.ensures.same_flow says.takes).1 in
    subst (λ (v : HistoryView). Adds v (history_view b) (Is next) old new) c.self.view_is
    (adds h next takes.0 c.self.invariant c.in-Ok.ensures.in_range takes.1 c.prepare_move.new.journal b c.in-Ok.moved.made.entry old new
    c.prepare_move.ensures.same_journal c.in-Ok.ensures.entry within whole says.fits c.keep.ensures.appends says.ok seen (says.steady (λ e. cc)))
