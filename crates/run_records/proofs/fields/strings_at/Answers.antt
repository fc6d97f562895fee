use Rattle.std.proofs.Common.{sym}
use Rattle.run_records.specs.Fields.{strings_at}
use Rattle.run_records.proofs.Loop.{goes_on, ends, is_done}
use Rattle.run_records.proofs.fields.strings_at.Goals as goal

pub returns-in_default : goal.returns-in_default
returns-in_default c =
    ends c.loop.texts.items c.args.count c.loop.counter c.loop.rest.now (strings_at c.args.count c.args.bytes.now) c.loop-test.true (sym c.in_default.ensures) c.loop.invariant

pub loop-preserved : goal.loop-preserved
loop-preserved c =
    rw (c.in_ok-push.ensures.items, c.in_ok-from_slice.ensures) (goes_on c.loop.texts.items c.args.count c.loop.counter c.loop.rest.now c.in-Some.text.now c.in-Some.behind.now (strings_at c.args.count c.args.bytes.now) c.loop-test.true (sym c.in-Some.ensures) c.loop.invariant)

pub returns : goal.returns
returns c = is_done c.loop.texts.items c.args.count c.loop.counter c.loop.rest.now (strings_at c.args.count c.args.bytes.now) c.loop-test.false c.loop.invariant
