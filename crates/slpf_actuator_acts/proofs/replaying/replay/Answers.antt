use Rattle.std.proofs.Common.{◌≡◌, ◌<◌, Bool, false, length, Ok, ap, arith, rules}
use Rattle.slpf_actuator_acts.proofs.OpenLemmas.{breaks_at}
use Rattle.slpf_actuator_acts.proofs.replaying.replay.Goals as goal

pub returns-then-not-branch-clause-breaks : goal.returns-then-not-branch-clause-breaks
returns-then-not-branch-clause-breaks c =
    let items = c.args.journal.now.items in
    let within : c.loop-n.n < length items = omega arith in
    let bad : c.in_ok-add_entry.field-0 ≡ false = search rules in
    breaks_at c.loop-n.history items c.entry.result.now c.loop-n.n c.place.result c.loop-n.invariant.entries within c.entry.ensures c.place.ensures
    c.loop-n.invariant.history (c.in_ok-add_entry.ensures.bad (ap (λ (b : Bool). Ok b) bad))
