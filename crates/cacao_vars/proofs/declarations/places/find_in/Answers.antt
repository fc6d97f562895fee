use Rattle.std.proofs.Common.{nat_cmp, rules, sym, ap, ◌∙◌, Some}
use Rattle.std.specs.Cmp.Lexicographic.{slice_cmp}
use Rattle.std.proofs.lemmas.Fn.{always_returns_same}
use Rattle.cacao_vars.specs.declared.declarations.Var.{Var}
use Rattle.cacao_vars.proofs.SearchLemmas.{searched_some, searched_none, searchable, vars_rise}
use Rattle.cacao_vars.proofs.declarations.places.find_in.Goals as goal

pub returns-in-Ok : goal.returns-in-Ok
returns-in-Ok c =
    ap Some c.index-vars-place.is
    ∙ sym (searched_some (λ (v : Var). v.name) c.args.name.now c.args.vars.now c.in-Ok.place c.index-vars-place.result (vars_rise c.args.vars.now c.requires) c.in-Ok.ensures.bound
    (c.in-Ok.ensures.position (λ (v : Var). slice_cmp nat_cmp v.name c.args.name.now) (always_returns_same _ _ _ (λ a r q k. search rules))))

pub returns-in-Err : goal.returns-in-Err
returns-in-Err c =
    let h = c.in-Err.ensures.position (λ (v : Var). slice_cmp nat_cmp v.name c.args.name.now) (always_returns_same _ _ _ (λ a r q k. search rules)) (searchable (λ (v : Var). v.name) c.args.vars.now c.args.name.now (vars_rise c.args.vars.now c.requires)) in
    sym (searched_none (λ (v : Var). v.name) c.args.name.now c.args.vars.now c.in-Err.field-0 h.0 h.1)
