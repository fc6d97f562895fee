-- The report of the records was said.
use Rattle.std.proofs.Common.{refl}
use Rattle.cacao_cli_ends.specs.Told.{end_of}
use Rattle.cacao_view.proofs.program.say_disk_log.Goals as goal

pub returns : goal.returns
returns g c = record {
  between = g.S.Disk.view c.log_disk-report.new.disk;
  reports = record {
    lines = c.log_disk-report.result.lines;
    end = end_of c.log_disk-report.result.end;
    told = c.log_disk-report.ensures;
    left = end_of c.say-end.result;
    says = c.say-end.ensures;
    ends = refl;
  };
}
