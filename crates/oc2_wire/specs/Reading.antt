-- Promise: What each end promises, in words of the lines that it reads.
use Rattle.std.specs.Prelude.{◌≡◌, ℕ, ◌≤◌, true, false, List}
use Rattle.cacao_site.specs.declared.parcel.Parcel.{Parcel}
use Rattle.oc2_wire_laws.specs.Ends.{EngineKeeps, FiltersKeep}
use Rattle.oc2_wire_site.specs.LineLinks.{ReadsLines}
use Rattle.oc2_wire_site.specs.ReadLines.{Carry}
use Rattle.oc2_wire_site.specs.Wires.{WireView}

-- From one moment of a wire to a later one these lines were read, of the bytes that were unread and those that came then. The lines `r`
-- among them carry these replies, in order. With them the end has kept at each beat what it promises, so each further Reply in the
-- journal is what one of these lines says.
pub record KeepsByLines (run : ℕ) (old new : WireView) : Type 0 where
  pub read : List (List ℕ)
  pub lines : ReadsLines read old.lines new.lines
  pub got : List Parcel
  pub carry : Carry true read got
  pub kept : (beat : ℕ) → old.site.disk.beat ≤ beat → beat ≤ new.site.disk.beat → EngineKeeps old.site run got new.site beat

-- The same of the end of the filters: the lines `c` among those read carry these commands, and each further act in a file is on one of them.
pub record FiltersKeepByLines (old new : WireView) : Type 0 where
  pub read : List (List ℕ)
  pub lines : ReadsLines read old.lines new.lines
  pub got : List Parcel
  pub carry : Carry false read got
  pub kept : (beat : ℕ) → old.site.disk.beat ≤ beat → beat ≤ new.site.disk.beat → FiltersKeep old.site got new.site beat
