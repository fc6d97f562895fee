-- Promise: What the files of the words settle. They are those of the words, in the order in which they are read.
use Rattle.std.specs.Prelude.{◌≡◌, ◌⊎◌, ℕ, ◌<◌, ◌≤◌, length, List, [], ◌∷◌, map, false, Some, None, IsSomeAnd, IsOkAnd, Ok, Err}
use Rattle.serde_json.specs.Data.{Data}
use Rattle.cacao_json.specs.Reading.{tree}
use Rattle.oc2_nets.specs.declared.packets.Packet.{Packet}
use Rattle.cacao_cli_filters.specs.PacketFiles.{packets_of}
use Rattle.cacao_cli_ends.specs.Asked.{audits, runs}
use Rattle.cacao_cli_ends.specs.Ends.{most}
use Rattle.cacao_cli_words.specs.Requests.{RunRequest}
use Rattle.cacao_cli_ends.specs.Files.{File, Files, files_of, has_too_many, reading, NamedText, book_file, run_names}
use Rattle.cacao_cli_ends.specs.Work.{run_files, trees_wanted}
use Rattle.cacao_cli_words.specs.Words.{Text}

-- the file is there, within its limit
abbrev pub IsWithin : Files → File → Type 0
IsWithin files file = IsSomeAnd (files file.name) (λ bytes. length bytes ≤ most file.limit)

abbrev pub AllWithin : Files → List File → Type 0
AllWithin files [] = Unit {0}
AllWithin files (file ∷ more) = IsWithin files file × AllWithin files more

-- the first file that is not there within its limit is so
abbrev pub First : Files → (File → Type 0) → List File → Type 0
First files P [] = ⊥
First files P (file ∷ more) = P file ⊎ (IsWithin files file × First files P more)

-- the first file that is not there within its limit is not there at all
abbrev pub IsMissing : Files → List File → Type 0
IsMissing files = First files (λ file. files file.name ≡ None)

-- the first file that is not there within its limit is longer than that
abbrev pub IsTooLong : Files → List File → Type 0
IsTooLong files = First files (λ file. IsSomeAnd (files file.name) (λ bytes. most file.limit < length bytes))

-- each file is there within its limit and has this tree
abbrev pub Trees : Files → List File → List Data → Type 0
Trees files [] [] = Unit {0}
Trees files [] (root ∷ roots) = ⊥
Trees files (file ∷ more) [] = ⊥
Trees files (file ∷ more) (root ∷ roots) =
    (IsWithin files file × IsSomeAnd (files file.name) (λ bytes. tree bytes ≡ Some root)) × Trees files more roots

-- a file has no tree
abbrev pub SomeTreeless : Files → List File → Type 0
SomeTreeless files [] = ⊥
SomeTreeless files (file ∷ more) = IsSomeAnd (files file.name) (λ bytes. tree bytes ≡ None) ⊎ SomeTreeless files more

-- the file is there within its limit, and its lines are these packets
abbrev pub HasPackets : Files → File → List (ℕ × Packet) → Type 0
HasPackets files file packets = IsWithin files file × IsSomeAnd (files file.name) (λ bytes. packets_of bytes ≡ Ok packets)

abbrev pub IsPacketFile : Files → File → Type 0
IsPacketFile files file = (packets : List (ℕ × Packet)) × HasPackets files file packets

-- a line of the file is no packet
abbrev pub HasBadLine : Files → File → Type 0
HasBadLine files file = IsSomeAnd (files file.name) (λ bytes. (number : ℕ) × (packets_of bytes ≡ Err number))

-- the files that an audit reads are there within their limits, and of what they hold as the files of a run P holds
abbrev pub IsAuditOf : Files → Text → List (ℕ × Text) → (List Text → Type 0) → Type 0
IsAuditOf files engine filters P =
    IsOkAnd (reading files (files_of (Some (audits engine filters)))) (λ texts. P (run_files filters texts))

-- ---- the files of `run`

-- not too many playbooks are named, and each file is there within its limit: these are their texts
pub record HasTexts (files : Files) (wanted : RunRequest) (texts : List NamedText) : Type 0 where
  pub few : has_too_many (runs wanted) ≡ false
  pub are : reading files (map book_file (run_names wanted)) ≡ Ok texts

-- one of the texts has no tree
abbrev pub LacksTree : List NamedText → Type 0
LacksTree [] = ⊥
LacksTree (text ∷ texts) = (tree text.bytes ≡ None) ⊎ LacksTree texts

-- each of the texts that want a tree has one
abbrev pub HasTrees : RunRequest → List NamedText → Type 0
HasTrees wanted texts = LacksTree (trees_wanted wanted texts) → ⊥
