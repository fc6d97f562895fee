use Rattle.std.proofs.Common.{sym, subst}
use Rattle.std.specs.Prelude.{IfErr, OnOk}
use Rattle.flow_world_parts.specs.Openings.{OpensNext, RefusesFile}
use Rattle.flow_world_parts.proofs.OpenFiles.{file_refuses, may_refuse_file, next_opens}
use Rattle.flow_world_parts.proofs.filters.open_next.Goals.{in-Ok-push, in-Err-push}
use Rattle.flow_world_parts.proofs.filters.open_next.Goals as goal

pub of_file-requires : goal.of_file-requires
of_file-requires g c = may_refuse_file c.open_on.result c.in-Err.error c.in-Err.is c.open_on.ensures.no_other

pub returns-after-push-clause-opens : goal.returns-after-push-clause-opens
returns-after-push-clause-opens g c = elim c.match-push.branch [
  | in-Ok-push w ↦
      subst (λ r. OnOk r (OpensNext c.args.agent (g.D.Disk.view c.args.disk.now) (g.D.Disk.view c.open_on.new.disk) c.args.list.now.items c.push.new.self.items)) (sym w.result-is)
      (next_opens c.args.agent (g.D.Disk.view c.args.disk.now) (g.D.Disk.view c.open_on.new.disk) c.in-Ok.filter c.args.list.now.items c.push.new.self.items
      (record { only = c.open_on.ensures.only; calls = c.open_on.ensures.calls; written = c.open_on.ensures.bytes }) (c.in-Ok.ensures.steady (λ e. cc)) (c.in-Ok.ensures.reads (λ e. cc)) c.in-Ok.ensures.ready
      c.in-Ok.ensures.durable c.in-Ok.ensures.stands c.in-Ok.ensures.prepared c.in-Ok.ensures.agent c.in-Ok.ensures.whole w.in-Ok-push.ensures.items)
  | in-Err-push w ↦
      subst (λ r. OnOk r (OpensNext c.args.agent (g.D.Disk.view c.args.disk.now) (g.D.Disk.view c.open_on.new.disk) c.args.list.now.items c.push.new.self.items)) (sym w.result-is) tt
]

pub returns-after-push-clause-refused : goal.returns-after-push-clause-refused
returns-after-push-clause-refused g c = elim c.match-push.branch [
  | in-Ok-push w ↦
      subst (λ r. IfErr r (λ error. RefusesFile error c.args.agent (g.D.Disk.view c.args.disk.now) (g.D.Disk.view c.open_on.new.disk))) (sym w.result-is) tt
  | in-Err-push w ↦
      subst (λ r. IfErr r (λ error. RefusesFile error c.args.agent (g.D.Disk.view c.args.disk.now) (g.D.Disk.view c.open_on.new.disk))) (sym w.result-is)
      (record { opens = record { only = c.open_on.ensures.only; calls = c.open_on.ensures.calls; written = c.open_on.ensures.bytes }; why = tt; steady = λ other. c.in-Ok.ensures.steady (λ e. cc); reads = λ other. c.in-Ok.ensures.reads (λ e. cc) })
]

pub returns-in-Err-clause-refused : goal.returns-in-Err-clause-refused
returns-in-Err-clause-refused g c =
    subst (λ error. RefusesFile error c.args.agent (g.D.Disk.view c.args.disk.now) (g.D.Disk.view c.open_on.new.disk)) (sym c.of_file.ensures)
    (file_refuses c.args.agent (g.D.Disk.view c.args.disk.now) (g.D.Disk.view c.open_on.new.disk) c.open_on.result c.in-Err.error c.in-Err.is
    (record { only = c.open_on.ensures.only; calls = c.open_on.ensures.calls; written = c.open_on.ensures.bytes }) c.open_on.ensures.damaged_durable c.open_on.ensures.damaged c.open_on.ensures.disk c.open_on.ensures.steady c.open_on.ensures.reads
    c.open_on.ensures.no_other)
