-- How a call ends that judges playbooks.
use Rattle.std.proofs.Common.{inl, inr, refl, List}
use Rattle.serde_json.specs.Data.{Data}
use Rattle.cacao_check.specs.declared.breaks.CheckError.{CheckError}
use Rattle.cacao_check.specs.declared.breaks.CheckError.TheVariants as check_error
use Rattle.cacao_check.specs.declared.breaks.Mode.{Mode}
use Rattle.cacao_check.specs.FirstBreak.{RefusesTrees}
use Rattle.cacao_cli_looks.specs.Command.{IsJudgement, refusal_end}

pub judged-refused : (trees : List Data) (mode : Mode) (error : CheckError) → RefusesTrees trees mode error → IsJudgement trees mode (refusal_end error)
judged-refused trees mode (check_error.Broken told) first = inr (inl (told, first, refl))
judged-refused trees mode check_error.Memory first = inr (inr refl)
