use Rattle.std.proofs.Common.{◌≡◌, ◌<◌, ◌∙◌, None, false, ℕ, ap, sym, subst}
use Rattle.flow_core.specs.Views.{View, passed}
use Rattle.flow_engine_history.specs.declared.history.History.TheInside.{Inside}
use Rattle.flow_engine_history.specs.HistoryCalls.{Adds, Is, Refuses}
use Rattle.flow_engine_history.specs.HistoryView.{HistoryView}
use Rattle.flow_engine_history.specs.KeptHistory.{history_view}
use Rattle.flow_engine_history.proofs.AppendLemmas.{adds, kept_after, none_passed, ready_more, refuses_append, refuses_room, seen_after, taken_now, view_same}
use Rattle.flow_engine_history.proofs.HistoryLemmas.{few_records}
use Rattle.flow_engine_history.proofs.history.History.append.Goals as goal

pub prepare-requires-clause-few : goal.prepare-requires-clause-few
prepare-requires-clause-few g c =
    let kept = c.self.invariant in
    subst (λ (n : ℕ). n < 100_000_000) (sym kept.count) (few_records c.self.inside.journal.items kept.entries c.count.ensures.fits)

pub returns-in-Err-clause-refused : goal.returns-in-Err-clause-refused
returns-in-Err-clause-refused g c =
    let h = c.self.inside in
    let next = c.args.next.now in
    let site = g.D.Disk.view c.args.disk.now in
    let takes = taken_now h c.args.self.now next c.self.invariant c.self.view_is c.requires.comes in
    let b : Inside = record { alloc = h.alloc; journal = c.prepare.new.journal; flow = c.prepare.new.flow; stands = c.prepare.new.stands } in
    let whole : h.journal.broken ≡ false = sym c.is_broken.ensures ∙ c.if-is_broken.false in
    subst (λ (v : HistoryView). Refuses v (history_view b) (Is next) c.in-Err.error site site) c.self.view_is
    (refuses_room h next takes.0 c.self.invariant c.requires.in_range takes.1 c.in-Err.error (history_view b) site whole
    (view_same h b c.prepare.ensures.same_journal c.prepare.ensures.same_flow) c.in-Err.ensures.refused)

pub returns-in-Err-keep-clause-refused : goal.returns-in-Err-keep-clause-refused
returns-in-Err-keep-clause-refused g c =
    let h = c.self.inside in
    let next = c.args.next.now in
    let old = g.D.Disk.view c.args.disk.now in
    let new = g.D.Disk.view c.keep.new.disk in
    let says = c.in-Err-keep.ensures in
    let takes = taken_now h c.args.self.now next c.self.invariant c.self.view_is c.requires.comes in
    let b : Inside = record { alloc = h.alloc; journal = c.keep.new.journal; flow = c.keep.new.flow; stands = c.keep.new.stands } in
    let whole : h.journal.broken ≡ false = sym c.is_broken.ensures ∙ c.if-is_broken.false in
    let within : passed h.flow.seen takes.0 ≡ None = none_passed h.flow next takes.0 takes.1 c.in-Ok.ensures.within in
    let seen : b.flow.seen ≡ h.flow.seen = ap (λ (v : View). v.seen) says.flow_stays ∙ c.prepare.ensures.same_flow.seen in
    subst (λ (v : HistoryView). Refuses v (history_view b) (Is next) c.in-Err-keep.error old new) c.self.view_is
    (refuses_append h next takes.0 c.self.invariant c.requires.in_range takes.1 c.in-Err-keep.error c.prepare.new.journal b c.in-Ok.made.entry old new
    c.prepare.ensures.same_journal c.in-Ok.ensures.entry within whole c.keep.ensures.appends says.items seen says.refused)

pub invariant_of-self-2 : goal.invariant_of-self-2
invariant_of-self-2 g c =
    let h = c.self.inside in
    let next = c.args.next.now in
    let says = c.in-Ok-keep.ensures in
    let takes = taken_now h c.args.self.now next c.self.invariant c.self.view_is c.requires.comes in
    let b : Inside = record { alloc = h.alloc; journal = c.keep.new.journal; flow = c.keep.new.flow; stands = c.keep.new.stands } in
    kept_after h next takes.0 c.self.invariant c.requires.in_range takes.1 c.prepare.new.flow c.prepare.new.journal b c.in-Ok.made.entry c.prepare.new.stands.items c.in-Ok.made.stand
    c.prepare.ensures.same_flow c.prepare.ensures.same_journal c.in-Ok.ensures.entry says.ok says.takes c.prepare.ensures.stands c.in-Ok.ensures.stand says.stands

pub returns-clause-ready : goal.returns-clause-ready
returns-clause-ready g c =
    let h = c.self.inside in
    let next = c.args.next.now in
    let new = g.D.Disk.view c.keep.new.disk in
    let says = c.in-Ok-keep.ensures in
    let takes = taken_now h c.args.self.now next c.self.invariant c.self.view_is c.requires.comes in
    let b : Inside = record { alloc = h.alloc; journal = c.keep.new.journal; flow = c.keep.new.flow; stands = c.keep.new.stands } in
    let whole : h.journal.broken ≡ false = sym c.is_broken.ensures ∙ c.if-is_broken.false in
    let seen = (seen_after h next takes.0 c.self.invariant c.requires.in_range takes.1 c.prepare.new.flow b.flow c.prepare.ensures.same_flow says.takes).1 in
    ready_more h next takes.0 c.self.invariant c.requires.in_range takes.1 c.prepare.new.journal b c.in-Ok.made.entry new
    c.prepare.ensures.same_journal c.in-Ok.ensures.entry says.ok whole seen says.images

pub returns-clause-ok : goal.returns-clause-ok
returns-clause-ok g c =
    let h = c.self.inside in
    let next = c.args.next.now in
    let old = g.D.Disk.view c.args.disk.now in
    let new = g.D.Disk.view c.keep.new.disk in
    let says = c.in-Ok-keep.ensures in
    let takes = taken_now h c.args.self.now next c.self.invariant c.self.view_is c.requires.comes in
    let b : Inside = record { alloc = h.alloc; journal = c.keep.new.journal; flow = c.keep.new.flow; stands = c.keep.new.stands } in
    let whole : h.journal.broken ≡ false = sym c.is_broken.ensures ∙ c.if-is_broken.false in
    let within : passed h.flow.seen takes.0 ≡ None = none_passed h.flow next takes.0 takes.1 c.in-Ok.ensures.within in
    let seen = (seen_after h next takes.0 c.self.invariant c.requires.in_range takes.1 c.prepare.new.flow b.flow c.prepare.ensures.same_flow says.takes).1 in
    subst (λ (v : HistoryView). Adds v (history_view b) (Is next) old new) c.self.view_is
    (adds h next takes.0 c.self.invariant c.requires.in_range takes.1 c.prepare.new.journal b c.in-Ok.made.entry old new
    c.prepare.ensures.same_journal c.in-Ok.ensures.entry within whole says.fits c.keep.ensures.appends says.ok seen (says.steady (λ e. cc)))
