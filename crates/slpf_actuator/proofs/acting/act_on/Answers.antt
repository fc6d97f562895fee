use Rattle.std.proofs.lemmas.Result.{err_from_is_err_and}
use Rattle.slpf_actuator_acts.specs.ActuatorView.{view_over}
use Rattle.slpf_actuator.proofs.ErrorLemmas.{no_other_passes, on_err}
use Rattle.slpf_actuator.proofs.HandleLemmas.{offers_none, ready_after_put}
use Rattle.slpf_actuator.proofs.acting.act_on.Goals as goal

pub returns-in_err-asked-clause-refused : goal.returns-in_err-asked-clause-refused
returns-in_err-asked-clause-refused g c =
    on_err c.from_residual.result
    (offers_none c.args.journal.now c.args.history.now c.args.command.now c.args.moment (g.S.Disk.view c.args.site.now) c.requires.ready c.requires.is_new c.requires.fits)

pub returns-in_err-keep-clause-no_other : goal.returns-in_err-keep-clause-no_other
returns-in_err-keep-clause-no_other g c =
    let passed = c.from_residual-in_err-keep in
    no_other_passes passed.result c.in_err-keep.field-0.0 (err_from_is_err_and passed.result passed.ensures.1) c.in_err-keep.ensures.no_other

pub returns-clause-ready : goal.returns-clause-ready
returns-clause-ready g c =
    ready_after_put (view_over c.keep.new.journal c.keep.new.history) _ _ _ c.in_ok-keep.ensures.ready c.put.ensures
