use Rattle.std.proofs.Common.{◌≡◌, ◌+◌, ◌<◌, length, reverse}
use Rattle.flow_core_rules.specs.Edits.{all_shown_edited}
use Rattle.flow_core_tables.specs.Fits.{AllFit}
use Rattle.flow_core_tables.specs.Planned.{edits_of, AreDeclared}
use Rattle.flow_core_tables.specs.TableFacts.{lists_of, seen_with, HasTables, HasRoom}
use Rattle.flow_core_tables.proofs.tables.Tables.edit_all.Given as goal

-- what is left to do, the last edit first, leads to where the whole plan leads, and there is room for it
abbrev pub invariant-loop-edit : goal.invariant-loop-edit
invariant-loop-edit l =
    record {
      fits : AllFit (lists_of l.self) (edits_of (reverse l.rest.items));
      declared : AreDeclared (reverse l.rest.items);
      tables : HasTables (seen_with l.setup (lists_of l.self)) l.self;
      tasks : length l.self.tasks.items + length (reverse l.rest.items) < 4294967295;
      issues : length l.self.issues.items + length (reverse l.rest.items) < 4294967295;
      room : HasRoom (length (reverse l.rest.items)) l.self;
      same : all_shown_edited (edits_of (reverse l.rest.items)) (lists_of l.self) ≡ all_shown_edited (edits_of l.fn.plan.items) (lists_of l.fn.self);
    }

abbrev pub decreases-loop-edit : goal.decreases-loop-edit
decreases-loop-edit l = length l.rest.items
