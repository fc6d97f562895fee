-- Promise: What keeps the profile.
use Rattle.std.specs.Prelude.{◌≡◌, ◌<◌, ◌↔◌, ℕ, List, Some, None}
use Rattle.std.specs.Str.{IsUtf8}
use Rattle.serde_json.specs.Data.{Data, array, object, Items, Members, put, depth}
use Rattle.serde_json.specs.Find.{get}
use Rattle.cacao_json_counts.specs.Counts.{numbers, first_broken}
use Rattle.cacao_json.specs.Profile.{IsSorted, IsFormed, IsTree}
use Rattle.cacao_json.specs.Tree.{item_last, without}

-- a tree whose numbers are whole needs no more than the order that every tree has
abbrev pub FormedIfWhole : Type 0
FormedIfWhole = (d : Data) → IsFormed d ↔ IsSorted d × (first_broken (numbers d) ≡ None)

-- a member that is put keeps the profile
abbrev pub PutKeepsProfile : Type 0
PutKeepsProfile =
    (k : List ℕ) (d : Data) (ms : Members) → IsUtf8 k → IsTree d → depth d < 127 → IsTree (object ms)
    → IsTree (object (put k d ms))

-- so does one that is removed
abbrev pub RemovalKeepsProfile : Type 0
RemovalKeepsProfile = (k : List ℕ) (ms : Members) → IsTree (object ms) → IsTree (object (without k ms))

-- and an item that is pushed
abbrev pub PushKeepsProfile : Type 0
PushKeepsProfile = (d : Data) (ds : Items) → IsTree d → depth d < 127 → IsTree (array ds) → IsTree (array (item_last ds d))

-- the value of a member is of the profile
abbrev pub MembersHaveProfile : Type 0
MembersHaveProfile = (k : List ℕ) (d e : Data) → IsTree d → get k d ≡ Some e → IsTree e
