use Rattle.oc2_wire_site.specs.LinesOf.{mark_of}
use Rattle.oc2_wire_site.proofs.MarkLemmas.{calls_marked}
use Rattle.oc2_wire_site.proofs.wire_disk.WireSiteDisk.length.Goals as goal

pub returns-clause-call : goal.returns-clause-call
returns-clause-call g c = calls_marked c.args.self.now.asking (mark_of g.K.Link.view c.args.self.now.mark) c.args.file 0 c.length.ensures.call
