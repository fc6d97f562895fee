-- The picture of the run was said.
use Rattle.std.proofs.Common.{refl}
use Rattle.cacao_cli_ends.specs.Told.{end_of}
use Rattle.cacao_view.proofs.program.say_run.Goals as goal

pub returns : goal.returns
returns g c = record {
  between = g.S.Disk.view c.graph_disk-report.new.disk;
  reports = record {
    lines = c.graph_disk-report.result.lines;
    end = end_of c.graph_disk-report.result.end;
    told = c.graph_disk-report.ensures;
    left = end_of c.say-end.result;
    says = c.say-end.ensures;
    ends = refl;
  };
}
