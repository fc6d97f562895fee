-- The verdict is told.
use Rattle.std.proofs.Common.{refl, sym, subst, inl, ⊎_elim}
use Rattle.cacao_cli_looks.specs.Audited.{IsOnlyVerdict, PassTasks, TellsFiles}
use Rattle.cacao_cli_ends.specs.Ends.{End}
use Rattle.cacao_cli_looks.proofs.audit_command.compare.Goals as goal

pub returns-in-Ok : goal.returns-in-Ok
returns-in-Ok c =
    let within : PassTasks c.args.files.now → ⊥ = λ p. ⊎_elim (λ e. cc) (λ e. cc) (c.in-Ok.ensures.tasks_only p.0 p.1) in
    let only : IsOnlyVerdict c.args.files.now c.in-Ok.verdict = record { within = within; is = c.in-Ok.ensures.is; one = c.in-Ok.ensures.one } in
    subst (λ (e : End). TellsFiles c.args.files.now e) (sym c.verdict_end.ensures) (inl (c.in-Ok.verdict, only, refl))
