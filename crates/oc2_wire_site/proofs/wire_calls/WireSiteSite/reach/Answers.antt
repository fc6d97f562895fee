use Rattle.oc2_wire_site.specs.Entries.{empty_by, puts_by, taken_by}
use Rattle.oc2_wire_site.specs.LinesOf.{mark_of}
use Rattle.oc2_wire_site.proofs.MarkLemmas.{reaches_marked}
use Rattle.oc2_wire_site.proofs.wire_calls.WireSiteSite.reach.Goals as goal

pub returns-clause-reaches : goal.returns-clause-reaches
returns-clause-reaches g c =
    reaches_marked c.args.self.now.asking (mark_of g.K.Link.view c.args.self.now.mark) (puts_by g.S.Disk.view c.args.self.now.puts.items) (taken_by g.S.Disk.view c.args.self.now.taken.items) (empty_by g.S.Disk.view c.args.self.now.empty.items) c.args.self.now.mishaps
    c.args.moment c.reach.result c.reach.ensures
