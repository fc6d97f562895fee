use Rattle.std.proofs.Common.{◌<◌, length, Option, ap, sym, arith}
use Rattle.std.specs.Prelude.{option_and_then}
use Rattle.cacao_vars.specs.declared.scoping.Scope.{Scope}
use Rattle.flow_core_tables.proofs.TableLemmas.{read_there}
use Rattle.flow_core_tables.proofs.OpenedLemmas.{count_is, number_within, scope_kept, scope_inside}
use Rattle.flow_core_tables.proofs.opened.Opened.parent.Goals as goal

pub index-requires : goal.index-requires
index-requires c = omega (arith, c.requires, count_is c.self.inside c.args.self.now c.self.view_is c.self.invariant)

pub index-requires-in-Keeps : goal.index-requires-in-Keeps
index-requires-in-Keeps c =
    let there : c.args.scope < length c.self.inside.places.items = omega (arith, c.requires, count_is c.self.inside c.args.self.now c.self.view_is c.self.invariant, c.self.inside.places.ok.0) in
    let read = sym (read_there c.self.inside.places.items c.args.scope c.index.result.now there c.index.ensures) in
    omega (arith, (number_within c.self.inside c.args.self.now c.self.view_is c.self.invariant c.args.scope c.in-Keeps.number c.index.result.now read c.in-Keeps.is).0, c.self.inside.scopes.ok.0)

pub returns-in-Keeps : goal.returns-in-Keeps
returns-in-Keeps c =
    let there : c.args.scope < length c.self.inside.places.items = omega (arith, c.requires, count_is c.self.inside c.args.self.now c.self.view_is c.self.invariant, c.self.inside.places.ok.0) in
    let read = sym (read_there c.self.inside.places.items c.args.scope c.index.result.now there c.index.ensures) in
    sym (ap (λ (o : Option Scope). option_and_then (λ (s : Scope). s.parent) o)
    (scope_kept c.self.inside c.args.self.now c.self.view_is c.self.invariant c.args.scope c.in-Keeps.number c.index.result.now c.index-in-Keeps.result.now read c.in-Keeps.is c.index-in-Keeps.ensures))

pub returns-in-Inside : goal.returns-in-Inside
returns-in-Inside c =
    let there : c.args.scope < length c.self.inside.places.items = omega (arith, c.requires, count_is c.self.inside c.args.self.now c.self.view_is c.self.invariant, c.self.inside.places.ok.0) in
    let read = sym (read_there c.self.inside.places.items c.args.scope c.index.result.now there c.index.ensures) in
    sym (ap (λ (o : Option Scope). option_and_then (λ (s : Scope). s.parent) o)
    (scope_inside c.self.inside c.args.self.now c.self.view_is c.self.invariant c.args.scope c.in-Inside.around c.index.result.now read c.in-Inside.is))
