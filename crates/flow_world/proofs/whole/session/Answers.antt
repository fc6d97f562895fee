use Rattle.std.proofs.Common.{Err, ap, inl}
use Rattle.flow_world_parts.specs.Whole.{blank_notes}
use Rattle.flow_world_parts.specs.declared.error.WorldError.{WorldError}
use Rattle.flow_world_parts.proofs.OpenSteps.{ready_after, whole_after}
use Rattle.flow_world.proofs.Quiet.{refused_agrees}
use Rattle.flow_world.proofs.Steady.{refusals_steady, session_steady}
use Rattle.flow_world.proofs.WholeSteps.{agrees, each_closed, each_refused, new_to}
use Rattle.flow_world.proofs.whole.session.Goals as goal

pub run_opened-requires-clause-whole : goal.run_opened-requires-clause-whole
run_opened-requires-clause-whole g c =
    let files = c.in-Ok.ensures.opens in
    whole_after files.middle (g.S.Disk.view c.open_files.new.site) c.in-Ok.engine c.in-Ok.filters 16 files.others files.journal.whole

pub run_opened-requires-clause-filters : goal.run_opened-requires-clause-filters
run_opened-requires-clause-filters g c =
    let files = c.in-Ok.ensures.opens in
    ready_after files.middle (g.S.Disk.view c.open_files.new.site) c.in-Ok.filters files.others

pub returns-in-Ok-clause-closed : goal.returns-in-Ok-clause-closed
returns-in-Ok-clause-closed g c =
    let answers = c.args.answers.now in
    each_closed c.args.setup c.args.run c.args.most answers (g.S.Disk.view c.args.site.now) (g.S.Disk.view c.open_files.new.site) (g.S.Disk.view c.run_opened.new.site) c.in-Ok.engine c.in-Ok.filters c.in-Ok.ensures.opens
    c.run_opened.result (c.run_opened.ensures.ended (blank_notes c.args.most answers) (new_to answers c.args.most))

pub returns-in-Ok-clause-refused : goal.returns-in-Ok-clause-refused
returns-in-Ok-clause-refused g c =
    let answers = c.args.answers.now in
    each_refused c.args.setup c.args.run c.args.most answers (g.S.Disk.view c.args.site.now) (g.S.Disk.view c.open_files.new.site) (g.S.Disk.view c.run_opened.new.site) c.in-Ok.engine c.in-Ok.filters c.in-Ok.ensures.opens
    c.run_opened.result (c.run_opened.ensures.ended (blank_notes c.args.most answers) (new_to answers c.args.most))

pub returns-in-Ok-clause-steady : goal.returns-in-Ok-clause-steady
returns-in-Ok-clause-steady g c =
    let answers = c.args.answers.now in
    let old = g.S.Disk.view c.args.site.now in
    let new = g.S.Disk.view c.run_opened.new.site in
    let ended = c.run_opened.ensures.ended (blank_notes c.args.most answers) (new_to answers c.args.most) in
    session_steady c.args.setup c.args.run c.args.most answers old new c.run_opened.result
    (each_closed c.args.setup c.args.run c.args.most answers old (g.S.Disk.view c.open_files.new.site) new c.in-Ok.engine c.in-Ok.filters c.in-Ok.ensures.opens c.run_opened.result ended)
    (each_refused c.args.setup c.args.run c.args.most answers old (g.S.Disk.view c.open_files.new.site) new c.in-Ok.engine c.in-Ok.filters c.in-Ok.ensures.opens c.run_opened.result ended)

pub returns-in-Ok-clause-agreement : goal.returns-in-Ok-clause-agreement
returns-in-Ok-clause-agreement g c =
    let answers = c.args.answers.now in
    agrees c.args.setup c.args.run c.args.most answers (g.S.Disk.view c.args.site.now) (g.S.Disk.view c.open_files.new.site) (g.S.Disk.view c.run_opened.new.site) c.in-Ok.engine c.in-Ok.filters c.in-Ok.ensures.opens
    c.run_opened.result (g.met.S.Disk.sound c.args.site.now) (c.run_opened.ensures.ended (blank_notes c.args.most answers) (new_to answers c.args.most))

pub returns-in-Err-clause-agreement : goal.returns-in-Err-clause-agreement
returns-in-Err-clause-agreement g c =
    refused_agrees c.in-Err.error c.args.setup c.args.run (g.S.Disk.view c.args.site.now) (g.S.Disk.view c.open_files.new.site) (g.met.S.Disk.sound c.args.site.now) c.in-Err.ensures.refused

pub returns-in-Err-clause-steady : goal.returns-in-Err-clause-steady
returns-in-Err-clause-steady g c = λ other.
    refusals_steady c.in-Err.error c.args.setup c.args.run c.args.most c.args.answers.now (g.S.Disk.view c.args.site.now) (g.S.Disk.view c.open_files.new.site) (inl c.in-Err.ensures.refused)
    (λ e. other (ap (λ (x : WorldError). Err x) e))
