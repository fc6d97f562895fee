use Rattle.flow_core_laws.proofs.ScopedRuns.{tasks_read_in_scope}
use Rattle.flow_core_laws.proofs.TextRuns.{constants_are_declared, constants_stay, values_fit_kinds}
use Rattle.flow_core_laws.proofs.UsedNames.{used_names_are_declared}
use Rattle.flow_core_laws.proofs.scopes_law.Goals as goal

pub returns : goal.returns
returns c = record {
  tasks = tasks_read_in_scope;
  used = used_names_are_declared;
  values = values_fit_kinds c.results_fit.ensures;
  constants = constants_stay c.results_fit.ensures;
  declared = constants_are_declared c.results_fit.ensures;
}
