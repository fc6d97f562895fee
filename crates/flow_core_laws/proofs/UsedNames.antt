-- Each name that a step uses is declared where a task stands at it.
use Rattle.std.proofs.Common.{sym, subst}
use Rattle.cacao_vars.specs.Scopes.{home_declaration}
use Rattle.cacao_check.specs.declared.rules.SenseRule.TheVariants as rule
use Rattle.cacao_check.specs.Rules.{K22}
use Rattle.cacao_check.proofs.LawLemmas.{sound_gives}
use Rattle.cacao_check_regions.specs.Regions.{Sees}
use Rattle.flow_core_rules.specs.Runnable.{IsRunnable}
use Rattle.flow_core_setup.proofs.SetupRunnable.{accepted_is_runnable}
use Rattle.flow_core_laws.specs.ReadInScope.{ReadsInScope}
use Rattle.flow_core_laws.specs.UsedNames.{UsedNamesAreDeclared}
use Rattle.flow_core_laws.proofs.AcceptedRules.{keeps_of_step}
use Rattle.flow_core_laws.proofs.ScopedRuns.{tasks_read_in_scope}

pub used_names_are_declared : UsedNamesAreDeclared
used_names_are_declared records run t task book step scope name is there at inside uses =
    let runnable : IsRunnable run.given = accepted_is_runnable sound_gives (run.given).texts (run.given).bind run.given run.accepted in
    let reads : ReadsInScope run.state book task = tasks_read_in_scope run.given run.run records run.state t task book runnable run.leads is there in
    let sees : Sees book name task.step (home_declaration (run.state).scopes scope name) = subst (Sees book name task.step) (sym (reads.in_step scope name inside)) (reads.sees name) in
    let kept : K22 book task.step step = keeps_of_step run.given run.accepted task.book task.step book step rule.K22 there at in
    record { declared = kept name (home_declaration (run.state).scopes scope name) uses sees; seen = sees }
