use Rattle.std.proofs.Common.{inl, inr}
use Rattle.cacao_view_preflight.proofs.flight.judged_or_memory.Goals as goal

pub returns-in-Ok : goal.returns-in-Ok
returns-in-Ok c = inl c.in-Ok.ensures

pub returns-in-Err : goal.returns-in-Err
returns-in-Err c = inr (c.ending.ensures.lines, c.ending.ensures.end)
