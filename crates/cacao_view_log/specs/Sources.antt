-- Scaffold: The entries of an engine's file, wherever they are taken from.
use Rattle.std.specs.Prelude.{ℕ, ◌<◌, List, length, ⊤}
use Rattle.run_journal.specs.Image.{ArePlaced, bytes_of}
use Rattle.run_journal.specs.Layout.{front}
use Rattle.cacao_view_log.specs.declared.source.Source.{Source}
use Rattle.cacao_view_log.specs.declared.source.Source.TheVariants as source

-- the entries, in order
abbrev pub items_of : Source → List (List ℕ)
items_of (source.Journal journal) = journal.now.items
items_of (source.Entries entries) = bytes_of entries.now

-- they stand at their places in a file that is no longer than one may be; of a journal that holds
abbrev pub IsWhole : Source → Type 0
IsWhole (source.Journal journal) = ⊤
IsWhole (source.Entries entries) = ArePlaced entries.now × (length (front (bytes_of entries.now)) < 67_108_864)
