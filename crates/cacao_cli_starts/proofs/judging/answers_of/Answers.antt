-- The first bad line.
use Rattle.std.proofs.Common.{inl, ap, refl, subst, ℕ, List}
use Rattle.std.specs.Prelude.{Err, option_map}
use Rattle.flow_engine_answers.specs.Answers.{IsFirstBadLine}
use Rattle.cacao_cli_looks.specs.Command.{text_of}
use Rattle.cacao_cli_starts.proofs.judging.answers_of.Goals as goal

pub returns-in-Err-Line-clause-err : goal.returns-in-Err-Line-clause-err
returns-in-Err-Line-clause-err c = inl (
  text_of c.in-Some.text,
  ap (option_map text_of) c.in-Some.is,
  c.in-Err-Line.number,
  subst (λ (bytes : List ℕ). IsFirstBadLine bytes c.in-Err-Line.number) c.as_slice.ensures (c.in-Err-Line.ensures.line c.in-Err-Line.number (ap (λ e. Err e) c.in-Err-Line.field-0-is)),
  refl,
)
