-- What is kept stands in the order of names, and is what the names that steps declare leave.
use Rattle.std.proofs.Common.{◌∙◌, ◌&&◌, List, map, not, subst, sym}
use Rattle.std.specs.List.{flat_map}
use Rattle.cacao_vars.specs.Declarations.{IsInNameOrder}
use Rattle.cacao_vars.specs.declared.declarations.Var.{Var}
use Rattle.cacao_book.specs.declared.steps.Step.{Step}
use Rattle.cacao_view_preflight.specs.Constants.{is_fixed}
use Rattle.cacao_view_preflight.specs.NameSets.{HasJust, holds}
use Rattle.cacao_view_preflight.proofs.OuterLemmas.{order_kept, outer_kept}
use Rattle.cacao_view_preflight.proofs.constants.outer_constants.Goals as goal

pub from_vec-requires : goal.from_vec-requires
from_vec-requires c =
    subst IsInNameOrder (sym c.kept.ensures)
    (order_kept (λ (v : Var). is_fixed v && not (holds c.in_ok-inner.inner v.name)) c.into_vec-vars.result.items (subst IsInNameOrder (sym c.into_vec-vars.ensures.items) c.into_vec-vars.ensures.order))

pub returns : goal.returns
returns c =
    c.from_vec.ensures ∙ c.kept.ensures
    ∙ outer_kept c.in_ok-inner.inner c.args.book.now c.into_vec-vars.result.items
    (subst (λ (l : List Step). HasJust c.in_ok-inner.inner (flat_map (λ step. map (λ var. var.name) step.variables) l)) c.as_slice.ensures.steps c.in_ok-inner.ensures)
    (c.into_vec-vars.ensures.items ∙ c.in_ok-clone.ensures.cases)
