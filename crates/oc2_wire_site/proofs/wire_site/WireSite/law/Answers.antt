use Rattle.std.proofs.Common.{refl}
use Rattle.oc2_wire_site.proofs.wire_site.WireSite.law.Goals as goal

pub returns : goal.returns
returns g c = record {
  beneath = (g.S.Disk.view c.args.self.now.site).disk.label;
  label = refl;
  read = c.args.self.now.reads;
  sent = c.args.self.now.sends;
}
