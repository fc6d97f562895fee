-- The names before this one, and then this one.
use Rattle.std.proofs.Common.{◌∙◌, ◌++◌, ◌||◌, sym, ap, subst, map, take, append-nil}
use Rattle.std.specs.Str.{bytes_eq}
use Rattle.cacao_view_preflight.specs.NameSets.{HasJust, holds}
use Rattle.cacao_view_preflight.proofs.SetLemmas.{just_more, vars_all, vars_more}
use Rattle.cacao_view_preflight.proofs.constants.add_names.Goals as goal

pub loop-var-init : goal.loop-var-init
loop-var-init c = λ all just. subst (HasJust c.args.names.now) (sym (append-nil all)) just

pub loop-var-preserved : goal.loop-var-preserved
loop-var-preserved c = λ all just.
    subst (HasJust c.add.new.self) (sym (vars_more c.args.vars.now c.loop-var.var-index c.var-item.result all c.loop-var-test.true c.var-item.is))
    (just_more c.loop-var.names c.add.new.self c.var-item.result.name (all ++ map (λ var. var.name) (take c.loop-var.var-index c.args.vars.now)) (c.loop-var.invariant all just)
    (λ other. c.in_ok-add.ensures other ∙ ap (λ n. bytes_eq n other || holds c.loop-var.names other) c.text.ensures.text))

pub returns : goal.returns
returns c = λ all just. subst (HasJust c.loop-var.names) (vars_all c.args.vars.now c.loop-var.var-index all c.loop-var-test.false) (c.loop-var.invariant all just)
