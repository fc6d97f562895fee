use Rattle.std.proofs.Common.{inl}
use Rattle.flow_world_steps.specs.Whole.{blank_notes}
use Rattle.oc2_wire.proofs.Served.{ended_alone, filters_none, new_to, refuses, served, some_refusal}
use Rattle.oc2_wire.proofs.engine_end.hold.Goals as goal

pub run_opened-requires-clause-whole : goal.run_opened-requires-clause-whole
run_opened-requires-clause-whole g c = c.in-Ok.ensures.opens.whole

pub run_opened-requires-clause-filters : goal.run_opened-requires-clause-filters
run_opened-requires-clause-filters g c = filters_none c.none.result (g.S.Disk.view c.open_journal.new.disk) c.none.ensures

pub run_opened-requires-clause-of_run : goal.run_opened-requires-clause-of_run
run_opened-requires-clause-of_run g c = c.in-Ok.ensures.opens.of_run

pub run_opened-requires-clause-no_puts : goal.run_opened-requires-clause-no_puts
run_opened-requires-clause-no_puts g c = c.in-Ok.ensures.opens.no_puts

pub of_world-requires : goal.of_world-requires
of_world-requires g c =
    let answers = c.args.answers.now in
    let notes = blank_notes c.args.most answers in
    let mid = g.S.Disk.view c.open_journal.new.disk in
    let new = g.S.Disk.view c.run_opened.new.site in
    some_refusal c.args.setup c.args.run c.args.most answers (g.S.Disk.view c.args.site.now) mid new c.in-Ok.engine c.in-Ok.ensures.opens c.run_opened.result c.in-Err-run_opened.error c.in-Err-run_opened.is
    (ended_alone c.run_opened.result mid new c.in-Ok.engine c.none.result notes c.none.ensures (c.run_opened.ensures.ended notes (new_to answers c.args.most)))

pub returns-in-Ok-run_opened-clause-served : goal.returns-in-Ok-run_opened-clause-served
returns-in-Ok-run_opened-clause-served g c =
    let answers = c.args.answers.now in
    let notes = blank_notes c.args.most answers in
    let mid = g.S.Disk.view c.open_journal.new.disk in
    let new = g.S.Disk.view c.run_opened.new.site in
    served c.args.setup c.args.run c.args.most answers (g.S.Disk.view c.args.site.now) mid new c.in-Ok.engine c.in-Ok.ensures.opens c.run_opened.result c.in-Ok-run_opened.close c.in-Ok-run_opened.is
    (ended_alone c.run_opened.result mid new c.in-Ok.engine c.none.result notes c.none.ensures (c.run_opened.ensures.ended notes (new_to answers c.args.most)))

pub returns-in-Err-run_opened-clause-refused : goal.returns-in-Err-run_opened-clause-refused
returns-in-Err-run_opened-clause-refused g c =
    let answers = c.args.answers.now in
    let notes = blank_notes c.args.most answers in
    let mid = g.S.Disk.view c.open_journal.new.disk in
    let new = g.S.Disk.view c.run_opened.new.site in
    refuses c.args.setup c.args.run c.args.most answers (g.S.Disk.view c.args.site.now) mid new c.in-Ok.engine c.in-Ok.ensures.opens c.run_opened.result c.in-Err-run_opened.error c.in-Err-run_opened.is
    (ended_alone c.run_opened.result mid new c.in-Ok.engine c.none.result notes c.none.ensures (c.run_opened.ensures.ended notes (new_to answers c.args.most)))
    c.of_world.result c.of_world.ensures

pub returns-in-Err-clause-refused : goal.returns-in-Err-clause-refused
returns-in-Err-clause-refused g c = inl c.in-Err.ensures.refused
