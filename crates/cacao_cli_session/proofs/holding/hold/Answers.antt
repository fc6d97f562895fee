-- The session closed, or refused.
use Rattle.std.proofs.Common.{inl, inr}
use Rattle.cacao_cli_session.proofs.holding.hold.Goals as goal

pub returns-in-Ok : goal.returns-in-Ok
returns-in-Ok g c = record {
  held = inl (record { close = c.in-Ok.close; closed = c.in-Ok.ensures.closed; ends = c.close_end.ensures });
  agreement = c.session.ensures.agreement;
  sound = g.met.S.Disk.sound c.session.new.site;
}

pub returns-in-Err : goal.returns-in-Err
returns-in-Err g c = record {
  held = inr (record { error = c.in-Err.error; why = c.in-Err.ensures.refused; ends = c.error_end.ensures });
  agreement = c.session.ensures.agreement;
  sound = g.met.S.Disk.sound c.session.new.site;
}
