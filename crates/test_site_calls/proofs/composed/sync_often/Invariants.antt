use Rattle.cacao_site.specs.DiskCalls.{EachBeat, IsLeft, SameRest}
use Rattle.test_site_calls.proofs.composed.sync_often.Given as goal

abbrev pub invariant-loop : goal.invariant-loop
invariant-loop g l =
    EachBeat l.file (g.D.Disk.view l.fn.disk).disk (g.D.Disk.view l.disk).disk (IsLeft (g.D.Disk.view l.fn.disk).disk l.file (g.D.Disk.view l.fn.disk).disk.beat)
    × SameRest (g.D.Disk.view l.fn.disk) (g.D.Disk.view l.disk)
