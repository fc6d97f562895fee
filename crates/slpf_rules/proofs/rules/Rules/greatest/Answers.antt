use Rattle.std.proofs.Common.{arith}
use Rattle.slpf_rules.proofs.Entries.{is_keyed, greatest-le, le-greatest}
use Rattle.slpf_rules.proofs.rules.Rules.greatest.Goals as goal

pub returns-in-Some : goal.returns-in-Some
returns-in-Some c =
    let keyed = is_keyed c.self.inside.by_number.entries c.self.invariant.numbered.keyed in
    let above = greatest-le c.in-Some.number.now c.self.inside.by_number.entries keyed c.in-Some.ensures.all_up_to in
    let among = le-greatest _ _ _ c.self.inside.by_number.entries keyed c.in-Some.ensures.last in
    rw (← c.self.view_is) (omega (arith, above, among))
