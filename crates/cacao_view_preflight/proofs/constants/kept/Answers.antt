use Rattle.std.proofs.Common.{rules, not, ◌&&◌}
use Rattle.std.proofs.lemmas.Fn.{filter_same}
use Rattle.cacao_vars.specs.declared.declarations.Var.{Var}
use Rattle.cacao_view_preflight.specs.Constants.{is_fixed}
use Rattle.cacao_view_preflight.specs.NameSets.{holds}
use Rattle.cacao_view_preflight.proofs.constants.kept.Goals as goal

pub returns : goal.returns
returns c = filter_same _ (λ (v : Var). is_fixed v && not (holds c.args.inner.now v.name)) _ (λ x b f' k. search rules) _ _ c.retain.ensures.filtered
