-- Promise: What a `Journal` keeps.
use Rattle.std.specs.Prelude.{◌≡◌, ◌+◌, ◌<◌, ◌≤◌, All, [], false, length, vec_capacity}
use Rattle.run_journal.specs.declared.journal.Journal.TheInside.{Inside}
use Rattle.run_journal.specs.JournalView.{JournalView}
use Rattle.run_journal.specs.Layout.{front, IsEntry, most_image}

abbrev pub journal_view : Inside → JournalView
journal_view a = record { file = a.file; items = a.items.items; broken = a.broken; prepared = a.prepared; spare = a.spare }

pub record IsKept (a : Inside) : Type 0 where
  pub file : a.file ≤ 16
  pub gate : a.gate ≡ length (front a.items.items)
  pub fits : a.gate < most_image
  pub short : All IsEntry a.items.items
  pub blank : a.prepared ≡ false → a.items.items ≡ []
  pub item_place : 0 < a.spare → 0 < a.items.places
  pub item_room : 0 < a.spare → a.spare ≤ a.items.room + 1
  pub block_room : 0 < a.spare → a.spare + 4 ≤ vec_capacity a.block
