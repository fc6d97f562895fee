use Rattle.std.proofs.Common.{◌≡◌, ◌<◌, ◌≤◌, ℕ, List, Option, length, Some, refl, sym, subst, arith}
use Rattle.std.specs.Prelude.{IfSome, slice_get}
use Rattle.std.specs.List.{slice_set}
use Rattle.flow_core_rules.specs.declared.tasks.Task.{Task}
use Rattle.flow_core_rules.specs.Edits.{moves, shown_edited}
use Rattle.flow_core_tables.specs.declared.tables.Wait.{Wait}
use Rattle.flow_core_tables.specs.TableFacts.{lists_of}
use Rattle.flow_core_tables.specs.Waits.{blank_wait}
use Rattle.flow_core_tables.proofs.MoveEdits.{move_below, move_some}
use Rattle.flow_core_tables.proofs.TableLemmas.{tells_of, tables_of, move_tells_by}
use Rattle.flow_core_tables.proofs.tables.Tables.move_to.Goals as goal

pub tell-requires-clause-some : goal.tell-requires-clause-some
tell-requires-clause-some c =
    let old = c.args.self.now in
    let ws : List Wait = old.waits.items in
    let t : ℕ = c.args.t in
    subst (λ (o : Option ℕ). IfSome o (λ p. (wait : Wait) → slice_get (slice_set ws t blank_wait) p ≡ Some wait → 0 < wait.open)) (sym c.told-parent.ensures)
    (move_some (lists_of old) t c.args.new ws c.requires.tables.waits_len c.requires.tables.waits c.requires.fits)

pub tell-requires-clause-room : goal.tell-requires-clause-room
tell-requires-clause-room c =
    let old = c.args.self.now in
    let all : List Task = old.tasks.items in
    let room : ℕ = c.settle.new.ready.room in
    let enough : length all ≤ room = omega (arith, old.tasks.ok.0, c.settle.ensures.ready_room, c.requires.room.ready) in
    subst (λ (o : Option ℕ). IfSome o (λ p. p < room)) (sym c.told-parent.ensures)
    (move_below (lists_of old) c.args.t c.args.new room c.requires.fits enough)

pub returns-clause-tables : goal.returns-clause-tables
returns-clause-tables c =
    let old = c.args.self.now in
    let given = c.args.setup.now in
    tables_of given _ (shown_edited (moves c.args.t c.args.new) (lists_of old)) _ refl
    (move_tells_by given (lists_of old) c.args.t c.args.new c.has_failed-failed.result c.told-parent.result _ _ _ _ _ _ _ _ _ (tells_of given (lists_of old) old c.requires.tables) c.requires.fits
    c.has_failed-failed.ensures c.told-parent.ensures c.tell.ensures.waits c.settle.ensures.ready c.tell.ensures.ready c.tell.ensures.others c.settle.ensures.delays)
