use Rattle.std.proofs.Common.{refl}
use Rattle.std.specs.Prelude.{is_ok}
use Rattle.oc2_wire_site.specs.PutEnds.{uncarried}
use Rattle.oc2_wire_site.proofs.PutLemmas.{put_late}
use Rattle.oc2_wire_site.proofs.line_link.LineLink.put.Goals as goal

pub returns-then-not-is_carried : goal.returns-then-not-is_carried
returns-then-not-is_carried g c = uncarried (λ carried. absurd (cc (c.is_carried.ensures.1 carried, c.if-not-is_carried.true))) refl refl

pub returns : goal.returns
returns g c = put_late (is_ok c.push.result) c.args.put c.args.puts.now.items c.push.new.self.items _ (c.is_whole.ensures.broken c.if-is_whole.false) (c.is_carried.ensures.0 c.if-not-is_carried.false) c.push.ensures.items
