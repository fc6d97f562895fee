use Rattle.std.proofs.Common.{Option, sym, ◌∙◌, ap}
use Rattle.std.specs.Prelude.{option_and_then}
use Rattle.cacao_vars.specs.declared.declarations.Var.{Var}
use Rattle.flow_core_values.proofs.LookLemmas.{declared_text_is}
use Rattle.flow_core_values.proofs.looking.declared_text.Goals as goal

pub returns-in-Some : goal.returns-in-Some
returns-in-Some c =
    let e = ap (λ (o : Option Var). option_and_then (λ (v : Var). v.worth) o) c.in-Some.ensures ∙ sym (declared_text_is c.args.vars.now c.args.name.now) in
    c.as_ref.ensures.value ∙ e

pub returns-in-None : goal.returns-in-None
returns-in-None c =
    ap (λ (o : Option Var). option_and_then (λ (v : Var). v.worth) o) c.in-None.ensures ∙ sym (declared_text_is c.args.vars.now c.args.name.now)
