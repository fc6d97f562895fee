-- One step from a scope to the one around it.
use Rattle.std.proofs.Common.{◌≡◌, ◌<◌, ◌∙◌, ℕ, Option, sym, subst, ap, arith, true, false, is_some, length, Some, None}
use Rattle.std.specs.Prelude.{IfSome, option_and_then}
use Rattle.cacao_vars.specs.Scopes.{declaration, home, parent_of}
use Rattle.cacao_vars.proofs.ScopeLemmas.{home_here, home_outer, home_none}
use Rattle.flow_core_tables.proofs.opened.Opened.find.Goals as goal

pub outward-preserved : goal.outward-preserved
outward-preserved c =
    let scopes = c.args.self.now.scopes in
    let at = c.outward.at in
    let around = c.in-Some-parent.around in
    let name = c.args.name.now in
    let no : is_some (declaration scopes at name) ≡ false = ap is_some (sym c.in-None.ensures) in
    let outer : parent_of scopes at ≡ Some around = sym c.in-Some-parent.ensures in
    let lower : around < at = subst (λ o. IfSome o (λ p. p < at)) outer (c.requires.parents at) in record {
      exists = omega (arith, c.outward.invariant.exists);
      same = sym (home_outer scopes at around name c.requires.parents no outer lower) ∙ c.outward.invariant.same;
    }

-- the scope declares the name
pub returns-in-Some-clause-home : goal.returns-in-Some-clause-home
returns-in-Some-clause-home c =
    let scopes = c.args.self.now.scopes in
    let name = c.args.name.now in
    let yes : is_some (declaration scopes c.outward.at name) ≡ true = ap is_some (sym c.in-Some.ensures) in
    sym (home_here scopes c.outward.at name yes) ∙ c.outward.invariant.same

pub returns-in-Some-clause-declaration : goal.returns-in-Some-clause-declaration
returns-in-Some-clause-declaration c =
    let scopes = c.args.self.now.scopes in
    let name = c.args.name.now in
    let yes : is_some (declaration scopes c.outward.at name) ≡ true = ap is_some (sym c.in-Some.ensures) in
    let here : Some c.outward.at ≡ home scopes c.args.scope name = sym (home_here scopes c.outward.at name yes) ∙ c.outward.invariant.same in
    c.in-Some.ensures ∙ ap (λ (o : Option ℕ). option_and_then (λ (h : ℕ). declaration scopes h name) o) here

pub returns-in-Some-clause-exists : goal.returns-in-Some-clause-exists
returns-in-Some-clause-exists c =
    let scopes = c.args.self.now.scopes in
    let name = c.args.name.now in
    let yes : is_some (declaration scopes c.outward.at name) ≡ true = ap is_some (sym c.in-Some.ensures) in
    let here : Some c.outward.at ≡ home scopes c.args.scope name = sym (home_here scopes c.outward.at name yes) ∙ c.outward.invariant.same in
    subst (λ (o : Option ℕ). IfSome o (λ at. at < length scopes)) here c.outward.invariant.exists

-- no scope does
pub returns-in-None-parent-clause-home : goal.returns-in-None-parent-clause-home
returns-in-None-parent-clause-home c =
    let scopes = c.args.self.now.scopes in
    let name = c.args.name.now in
    let no : is_some (declaration scopes c.outward.at name) ≡ false = ap is_some (sym c.in-None.ensures) in
    sym (home_none scopes c.outward.at name no (sym c.in-None-parent.ensures)) ∙ c.outward.invariant.same

pub returns-in-None-parent-clause-declaration : goal.returns-in-None-parent-clause-declaration
returns-in-None-parent-clause-declaration c =
    let scopes = c.args.self.now.scopes in
    let name = c.args.name.now in
    let no : is_some (declaration scopes c.outward.at name) ≡ false = ap is_some (sym c.in-None.ensures) in
    let none : None ≡ home scopes c.args.scope name = sym (home_none scopes c.outward.at name no (sym c.in-None-parent.ensures)) ∙ c.outward.invariant.same in
    ap (λ (o : Option ℕ). option_and_then (λ (h : ℕ). declaration scopes h name) o) none

pub returns-in-None-parent-clause-exists : goal.returns-in-None-parent-clause-exists
returns-in-None-parent-clause-exists c =
    let scopes = c.args.self.now.scopes in
    let name = c.args.name.now in
    let no : is_some (declaration scopes c.outward.at name) ≡ false = ap is_some (sym c.in-None.ensures) in
    let none : None ≡ home scopes c.args.scope name = sym (home_none scopes c.outward.at name no (sym c.in-None-parent.ensures)) ∙ c.outward.invariant.same in
    subst (λ (o : Option ℕ). IfSome o (λ at. at < length scopes)) none tt
