-- Promise: The first record of a run.
use Rattle.std.specs.Prelude.{◌==◌, ◌&&◌, nat_le, nat_eq, List, Option, None, if◌then◌else◌}
use Rattle.std.specs.Str.{bytes_eq}
use Rattle.std.specs.Cmp.Lexicographic.{pointwise}
use Rattle.run_records.specs.declared.record.Record.{Record}
use Rattle.run_records.specs.declared.record.Record.TheVariants as entry
use Rattle.run_records.specs.Ranges.{last_moment}
use Rattle.flow_core_rules.specs.State.{Shown}
use Rattle.flow_core_rules.specs.Edits.{Edit}
use Rattle.flow_core_rules.specs.Runs.{first_edits}

-- What the Begin of this run changes, at a moment that is not past the last one. No other record comes first.
abbrev pub begins : Shown → Record → Option (List Edit)
begins s (entry.Begin run moment books bind) =
    if nat_le moment last_moment && (run == s.run) && pointwise (pointwise nat_eq) books s.given.texts
    && bytes_eq bind s.given.bind
    then first_edits s.given moment else None
begins s other = None
