use Rattle.std.proofs.Common.{◌≡◌, Some, false, is_some, sym, ap, ◌∙◌}
use Rattle.cacao_vars.specs.declared.scoping.Scope.{Scope}
use Rattle.cacao_vars.specs.Declarations.{declared}
use Rattle.flow_core_values.proofs.LookLemmas.{outer_home, outer_found, own_home, own_found}
use Rattle.flow_core_values.proofs.run.Run.found_opened.Goals as goal

pub returns-in-Some-clause-home : goal.returns-in-Some-clause-home
returns-in-Some-clause-home c =
    let new : Scope = record { parent = Some c.args.scope; vars = c.args.vars.now } in
    ap Some c.len.ensures.scopes
    ∙ sym (own_home c.args.self.now.tables.opened.scopes new c.args.name.now c.in-Some.var.now c.in-Some.ensures)

pub returns-in-Some-clause-declaration : goal.returns-in-Some-clause-declaration
returns-in-Some-clause-declaration c =
    let new : Scope = record { parent = Some c.args.scope; vars = c.args.vars.now } in
    sym (own_found c.args.self.now.tables.opened.scopes new c.args.name.now c.in-Some.var.now c.in-Some.ensures)

pub returns-in-None-clause-home : goal.returns-in-None-clause-home
returns-in-None-clause-home c =
    let no : is_some (declared c.args.vars.now c.args.name.now) ≡ false = ap is_some (sym c.in-None.ensures) in
    c.find.ensures.home ∙ sym (outer_home c.args.self.now c.args.vars.now c.args.scope c.args.name.now c.requires.well c.requires.scope no)

pub returns-in-None-clause-declaration : goal.returns-in-None-clause-declaration
returns-in-None-clause-declaration c =
    let no : is_some (declared c.args.vars.now c.args.name.now) ≡ false = ap is_some (sym c.in-None.ensures) in
    c.find.ensures.declaration
    ∙ sym (outer_found c.args.self.now c.args.vars.now c.args.scope c.args.name.now c.requires.well c.requires.scope no c.find.ensures.exists)
