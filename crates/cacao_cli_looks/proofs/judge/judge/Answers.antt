use Rattle.std.proofs.Common.{inl, refl, sym, subst, map}
use Rattle.cacao_json.specs.Tree.{data_of}
use Rattle.cacao_cli_looks.specs.Command.{IsJudgement}
use Rattle.cacao_cli_looks.proofs.JudgeLemmas.{judged-refused}
use Rattle.cacao_cli_looks.proofs.judge.judge.Goals as goal

pub returns-in-Ok : goal.returns-in-Ok
returns-in-Ok c = inl (c.in-Ok.ensures.accepted, refl)

pub returns-in-Err : goal.returns-in-Err
returns-in-Err c =
    subst (IsJudgement (map data_of c.args.trees.now) c.args.mode) (sym c.refusal_end.ensures)
    (judged-refused (map data_of c.args.trees.now) c.args.mode c.in-Err.error c.in-Err.ensures.broken)
