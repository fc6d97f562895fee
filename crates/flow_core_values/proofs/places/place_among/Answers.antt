use Rattle.std.proofs.Common.{◌∙◌, ◌<◌, length, arith}
use Rattle.flow_core_rules.specs.Places.{addressees, places_of}
use Rattle.flow_core_values.proofs.PlaceLemmas.{left_here, left_more, some_place, any_of_command}
use Rattle.flow_core_values.proofs.places.place_among.Goals as goal

pub returns-then-left-count-clause-place : goal.returns-then-left-count-clause-place
returns-then-left-count-clause-place c =
    let below : c.loop-number.number < length c.args.commands.now = omega arith in
    c.place_of.ensures.place
    ∙ left_here (places_of (addressees c.args.agent.now c.args.targets.now)) c.args.commands.now c.args.n c.loop-number.number c.loop-number.left c.index-commands-number.result below c.index-commands-number.is (omega (arith, c.place_count-count.ensures c.args.agent.now)) c.loop-number.invariant.1

pub returns-then-left-count-clause-command : goal.returns-then-left-count-clause-command
returns-then-left-count-clause-command c =
    let below : c.loop-number.number < length c.args.commands.now = omega arith in
    any_of_command c.args.commands.now c.loop-number.number c.index-commands-number.result c.place_of.result below c.index-commands-number.is c.place_of.ensures.command

pub loop-number-preserved : goal.loop-number-preserved
loop-number-preserved c =
    let below : c.loop-number.number < length c.args.commands.now = omega arith in (
      omega (arith, c.place_count-count.ensures c.args.agent.now, some_place c.args.agent.now c.args.targets.now c.index-commands-number.result),
      left_more (places_of (addressees c.args.agent.now c.args.targets.now)) c.args.commands.now c.args.n c.loop-number.number c.loop-number.left c.place_count-count.result c.index-commands-number.result below c.index-commands-number.is (c.place_count-count.ensures c.args.agent.now) (omega arith) c.loop-number.invariant.1,
    )
