-- Promise: The grammar of identifiers.
use Rattle.std.specs.Prelude.{◌≡◌, ℕ, ◌≤◌, ◌<◌, ◌&&◌, ◌||◌, nat_le, Bool, IsTrue, List, ◌∷◌, ◌++◌, length}
use Rattle.std.specs.List.{list_all, AllByRecursion, join_with_byte}
use Rattle.cacao_ids.specs.Uuids.{IsUuid}

-- a letter from `a` to `z`, or a decimal digit
abbrev pub is_part_character : ℕ → Bool
is_part_character c = (nat_le 97 c && nat_le c 122) || (nat_le 48 c && nat_le c 57)

-- a part of an object type: one or more such characters
abbrev pub IsPart : List ℕ → Type 0
IsPart part = (0 < length part) × IsTrue (list_all is_part_character part)

-- one or more parts, joined by single hyphens
pub record IsObjectType (text : List ℕ) : Type 0 where
  pub parts : List (List ℕ)
  pub some_part : 0 < length parts
  pub each : AllByRecursion IsPart parts
  pub joined : text ≡ join_with_byte 45 parts

-- the text is this object type, two hyphens and a UUID
pub record HasObjectType (object_type text : List ℕ) : Type 0 where
  pub uuid : List ℕ
  pub object_type_fits : IsObjectType object_type
  pub uuid_fits : IsUuid uuid
  pub joined : text ≡ object_type ++ 45 ∷ 45 ∷ uuid

-- an identifier: at most 128 bytes, an object type, two hyphens and a UUID
abbrev pub IsId : List ℕ → Type 0
IsId text = (length text ≤ 128) × ((object_type : List ℕ) × HasObjectType object_type text)
