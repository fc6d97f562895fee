-- The warnings of each kind, one behind another.
use Rattle.std.proofs.Common.{◌∙◌, sym, ap, subst, List, length, map}
use Rattle.cacao_json.specs.Tree.{data_of, pair_data}
use Rattle.cacao_check_regions.specs.Surveys.{AreSurveysOf}
use Rattle.cacao_check_regions.specs.declared.surveys.Survey.{Survey}
use Rattle.cacao_view_preflight.specs.Warnings.{Text, all_agents, names_of}
use Rattle.cacao_view_preflight.proofs.WarningLemmas.{are_warnings}
use Rattle.cacao_view_preflight.proofs.warning_lines.warnings.Goals as goal

pub warn_of_agents-requires : goal.warn_of_agents-requires
warn_of_agents-requires c = c.new-defined.ensures

pub warn_of_steps-requires : goal.warn_of_steps-requires
warn_of_steps-requires c = ap length c.as_slice.ensures.value ∙ c.in_ok-surveys.ensures.len

pub returns : goal.returns
returns c =
    let agents : List Text = names_of (map pair_data c.members_at-agents.result.now) in
    let variables : List Text = names_of (map pair_data c.members_at-variables.result.now) in
    are_warnings c.args.books.now (map data_of c.args.trees.now) (data_of c.args.bindings.now) c.as_slice.result.now agents variables
    c.new-lines.result c.warn_of_agents.new.lines c.warn_of_bindings.new.lines c.warn_of_variables.new.lines c.warn_of_inner_variables.new.lines c.warn_of_commands.new.lines c.warn_of_members.new.lines c.warn_of_steps.new.lines
    (subst (λ (l : List Survey). AreSurveysOf c.args.books.now l) (sym c.as_slice.ensures.value) c.in_ok-surveys.ensures) (ap names_of c.members_at-agents.ensures.members) (ap names_of c.members_at-variables.ensures.members) c.new-lines.ensures
    (c.in_ok-warn_of_agents.ensures.lines agents c.in_ok-bound.ensures) (c.in_ok-warn_of_bindings.ensures (all_agents c.args.books.now) c.in_ok-warn_of_agents.ensures.met) (c.in_ok-warn_of_variables.ensures variables c.in_ok-given.ensures)
    c.in_ok-warn_of_inner_variables.ensures c.in_ok-warn_of_commands.ensures c.in_ok-warn_of_members.ensures c.in_ok-warn_of_steps.ensures
