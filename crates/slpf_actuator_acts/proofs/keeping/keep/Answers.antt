use Rattle.std.proofs.Common.{◌≤◌, ℕ, List, length, sym, subst}
use Rattle.std.proofs.lemmas.Result.{err_from_is_err_and}
use Rattle.slpf_actuator_acts.proofs.KeepLemmas.{adds_act, adds_none, entry_fits, no_other_stays}
use Rattle.slpf_actuator_acts.proofs.keeping.keep.Goals as goal

pub reserve-requires : goal.reserve-requires
reserve-requires g c =
    subst (λ (entry : List ℕ). length entry ≤ 17_829_888) (sym c.requires.entry) (entry_fits c.args.act c.requires.fits)

pub returns-in_err-reserve-clause-adds : goal.returns-in_err-reserve-clause-adds
returns-in_err-reserve-clause-adds g c =
    adds_none c.args.journal.now c.args.history.now c.args.act (g.D.Disk.view c.args.disk.now) c.requires.ready

pub append_durably-requires-clause-size : goal.append_durably-requires-clause-size
append_durably-requires-clause-size g c =
    subst (λ (entry : List ℕ). length entry ≤ 17_829_888) (sym c.requires.entry) (entry_fits c.args.act c.requires.fits)

pub returns-in_err-append_durably-clause-adds : goal.returns-in_err-append_durably-clause-adds
returns-in_err-append_durably-clause-adds g c =
    let made = c.reserve.ensures in
    adds_act c.args.journal.now c.reserve.new.journal c.args.entry c.args.history.now c.args.act (g.D.Disk.view c.args.disk.now) (g.D.Disk.view c.append_durably.new.disk)
    made.file made.items made.prepared c.requires.entries c.requires.entry c.append_durably.ensures.appends

pub returns-in_err-append_durably-clause-no_other : goal.returns-in_err-append_durably-clause-no_other
returns-in_err-append_durably-clause-no_other g c =
    let passed = c.from_residual-in_err-append_durably in
    no_other_stays passed.result c.in_err-append_durably.field-0.0 (err_from_is_err_and passed.result passed.ensures.1) c.in_err-append_durably.ensures.no_other

pub returns-in_err-push-clause-adds : goal.returns-in_err-push-clause-adds
returns-in_err-push-clause-adds g c =
    let made = c.reserve.ensures in
    adds_act c.args.journal.now c.reserve.new.journal c.args.entry c.args.history.now c.args.act (g.D.Disk.view c.args.disk.now) (g.D.Disk.view c.append_durably.new.disk)
    made.file made.items made.prepared c.requires.entries c.requires.entry c.append_durably.ensures.appends

pub returns-clause-adds : goal.returns-clause-adds
returns-clause-adds g c =
    let made = c.reserve.ensures in
    adds_act c.args.journal.now c.reserve.new.journal c.args.entry c.args.history.now c.args.act (g.D.Disk.view c.args.disk.now) (g.D.Disk.view c.append_durably.new.disk)
    made.file made.items made.prepared c.requires.entries c.requires.entry c.append_durably.ensures.appends
