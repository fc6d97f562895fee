use Rattle.std.proofs.Common.{nat_cmp, rules, sym, ap, ◌∙◌, Some, List, ℕ}
use Rattle.std.specs.Cmp.Lexicographic.{slice_cmp}
use Rattle.std.proofs.lemmas.Fn.{always_returns_same}
use Rattle.cacao_vars.proofs.SearchLemmas.{searched_some, searched_none, searchable}
use Rattle.flow_core_setup.proofs.SetupSearch.{entries_rise}
use Rattle.flow_core_setup.proofs.setup.find_bound.Goals as goal

pub returns-in-Ok : goal.returns-in-Ok
returns-in-Ok c =
    ap Some c.index-agents-place.is
    ∙ sym (searched_some (λ (v : List ℕ × ℕ). v.0) c.args.to.now c.args.agents.now c.in-Ok.place c.index-agents-place.result (entries_rise c.args.agents.now c.requires) c.in-Ok.ensures.bound
    (c.in-Ok.ensures.position (λ (v : List ℕ × ℕ). slice_cmp nat_cmp v.0 c.args.to.now) (always_returns_same _ _ _ (λ a r q k. search rules))))

pub returns-in-Err : goal.returns-in-Err
returns-in-Err c =
    let h = c.in-Err.ensures.position (λ (v : List ℕ × ℕ). slice_cmp nat_cmp v.0 c.args.to.now) (always_returns_same _ _ _ (λ a r q k. search rules)) (searchable (λ (v : List ℕ × ℕ). v.0) c.args.agents.now c.args.to.now (entries_rise c.args.agents.now c.requires)) in
    sym (searched_none (λ (v : List ℕ × ℕ). v.0) c.args.to.now c.args.agents.now c.in-Err.field-0 h.0 h.1)
