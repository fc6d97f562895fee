use Rattle.std.proofs.Common.{◌≡◌, ◌-◌}
use Rattle.run_records.specs.Fields.{strings_at}
use Rattle.run_records.proofs.Loop.{with_front}
use Rattle.run_records.proofs.fields.strings_at.Given as goal

abbrev pub invariant-loop : goal.invariant-loop
invariant-loop l = with_front l.texts.items (strings_at (l.count - l.counter) l.rest) ≡ strings_at l.count l.bytes
