use Rattle.std.proofs.Common.{◌≡◌, ◌+◌, ◌<◌, List, [], ◌∷◌, length, reverse, ap, sym, subst, ◌∙◌}
use Rattle.std.proofs.lemmas.List.{reverse-append, reverse-reverse}
use Rattle.flow_core_rules.specs.Edits.{all_shown_edited}
use Rattle.flow_core_tables.specs.declared.planned.Planned.{Planned}
use Rattle.flow_core_tables.specs.Fits.{AllFit}
use Rattle.flow_core_tables.specs.Planned.{edits_of, AreDeclared}
use Rattle.flow_core_tables.specs.TableFacts.{lists_of, HasRoom}
use Rattle.flow_core_tables.proofs.PlanLemmas.{none_left, first_fits, first_declared, first_below, first_room, rest_fits, rest_declared, rest_same, rest_tasks, rest_issues, rest_room}
use Rattle.flow_core_tables.proofs.tables.Tables.edit_all.Goals as goal

pub loop-edit-init : goal.loop-edit-init
loop-edit-init c =
    let old = c.args.self.now in
    let whole : reverse c.reverse.new.self.items ≡ c.args.plan.items = ap reverse c.reverse.ensures.items ∙ reverse-reverse c.args.plan.items in
    record {
      fits = subst (λ (ps : List Planned). AllFit (lists_of old) (edits_of ps)) (sym whole) c.requires.fits;
      declared = subst AreDeclared (sym whole) c.requires.declared;
      tables = c.requires.tables;
      tasks = subst (λ (ps : List Planned). length old.tasks.items + length ps < 4294967295) (sym whole) c.requires.tasks;
      issues = subst (λ (ps : List Planned). length old.issues.items + length ps < 4294967295) (sym whole) c.requires.issues;
      room = subst (λ (ps : List Planned). HasRoom (length ps) old) (sym whole) c.requires.room;
      same = ap (λ (ps : List Planned). all_shown_edited (edits_of ps) (lists_of old)) whole;
    }

pub edit-requires-clause-fits : goal.edit-requires-clause-fits
edit-requires-clause-fits c =
    let first = ap reverse c.in-Some.ensures.items ∙ reverse-append c.pop.new.self.items (c.in-Some.edit ∷ []) in
    first_fits _ _ c.in-Some.edit (lists_of c.loop-edit.self) first c.loop-edit.invariant.fits

pub edit-requires-clause-declared : goal.edit-requires-clause-declared
edit-requires-clause-declared c =
    let first = ap reverse c.in-Some.ensures.items ∙ reverse-append c.pop.new.self.items (c.in-Some.edit ∷ []) in
    first_declared _ _ c.in-Some.edit first c.loop-edit.invariant.declared

pub edit-requires-clause-tasks : goal.edit-requires-clause-tasks
edit-requires-clause-tasks c =
    first_below (length c.loop-edit.self.tasks.items) 4294967295 (reverse c.loop-edit.rest.items) c.loop-edit.invariant.tasks

pub edit-requires-clause-issues : goal.edit-requires-clause-issues
edit-requires-clause-issues c =
    first_below (length c.loop-edit.self.issues.items) 4294967295 (reverse c.loop-edit.rest.items) c.loop-edit.invariant.issues

pub edit-requires-clause-room : goal.edit-requires-clause-room
edit-requires-clause-room c =
    let first = ap reverse c.in-Some.ensures.items ∙ reverse-append c.pop.new.self.items (c.in-Some.edit ∷ []) in
    first_room _ _ c.in-Some.edit c.loop-edit.self first c.loop-edit.invariant.room

pub loop-edit-preserved : goal.loop-edit-preserved
loop-edit-preserved c =
    let old = c.loop-edit.self in
    let new = c.edit.new.self in
    let first = ap reverse c.in-Some.ensures.items ∙ reverse-append c.pop.new.self.items (c.in-Some.edit ∷ []) in
    record {
      fits = rest_fits _ _ c.in-Some.edit (lists_of old) (lists_of new) first c.loop-edit.invariant.fits c.edit.ensures.lists;
      declared = rest_declared _ _ c.in-Some.edit first c.loop-edit.invariant.declared;
      tables = c.edit.ensures.tables;
      tasks = rest_tasks _ _ c.in-Some.edit (lists_of old) (lists_of new) 4294967295 first c.loop-edit.invariant.tasks c.edit.ensures.lists;
      issues = rest_issues _ _ c.in-Some.edit (lists_of old) (lists_of new) 4294967295 first c.loop-edit.invariant.issues c.edit.ensures.lists;
      room = rest_room _ _ c.in-Some.edit old new first c.loop-edit.invariant.room c.edit.ensures.room;
      same = rest_same _ _ c.in-Some.edit (lists_of old) (lists_of new) _ first c.loop-edit.invariant.same c.edit.ensures.lists;
    }

pub returns-clause-lists : goal.returns-clause-lists
returns-clause-lists c =
    let none : c.loop-edit.rest.items ≡ [] = none_left c.loop-edit.rest.items (sym c.loop-edit.rest.ok.0 ∙ c.in_default.ensures.cases.0) in
    ap (λ (ps : List Planned). all_shown_edited (edits_of (reverse ps)) (lists_of c.loop-edit.self)) (sym none) ∙ c.loop-edit.invariant.same
