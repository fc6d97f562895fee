-- The line could not be said.
use Rattle.std.proofs.Common.{inl, inr, refl, []}
use Rattle.cacao_cli_ends.proofs.say.say_then.Goals as goal

pub returns : goal.returns
returns g c = inr (inl (record {
  front = [];
  line = c.args.line.now;
  behind = [];
  is = refl;
  between = g.S.Disk.view c.args.site.now;
  says = refl;
  fails = record { only = c.say.ensures.only; said = c.in-Err.ensures.said_before; unsaid = c.in-Err.ensures.cause };
  ends = refl;
}))
