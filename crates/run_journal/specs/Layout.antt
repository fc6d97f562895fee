-- Promise: What an image of a journal stands for.
use Rattle.std.specs.Prelude.{◌≡◌, ◌≢◌, ◌⊎◌, ℕ, ◌<◌, ◌≤◌, List, [], ◌∷◌, ◌++◌, length, take, slice_index, All}
use Rattle.std.specs.Int.{w32, to_be_bytes, from_be_bytes}

-- the eight bytes `CACAOJ1` and a line feed
abbrev pub header : List ℕ
header = 67 ∷ 65 ∷ 67 ∷ 65 ∷ 79 ∷ 74 ∷ 49 ∷ 10 ∷ []

-- the most bytes of an image
abbrev pub most_image : ℕ
most_image = 67108864

-- the most bytes of an entry
abbrev pub most_entry : ℕ
most_entry = 17829888

-- an entry's length in four bytes, the greatest first
abbrev pub length_field : ℕ → List ℕ
length_field n = to_be_bytes w32 n

-- the length that four bytes say
abbrev pub length_of : ℕ → ℕ → ℕ → ℕ → ℕ
length_of a b c d = from_be_bytes w32 (a ∷ b ∷ c ∷ d ∷ [])

-- the entries, each behind its open gate and its length
unfoldable pub entries : List (List ℕ) → List ℕ
entries [] = []
entries (item ∷ items) = 1 ∷ length_field (length item) ++ item ++ entries items

-- the bytes up to the closed gate
unfoldable pub front : List (List ℕ) → List ℕ
front items = header ++ entries items

-- the image begins so, and then has a closed gate, and then anything
pub record IsClosed (start image : List ℕ) : Type 0 where
  pub gate : ℕ
  pub rest : List ℕ
  pub shut : gate ≢ 1
  pub is : image ≡ start ++ gate ∷ rest

-- the image begins so, and then has an open gate and the block, and then anything
abbrev pub HasOpened : List ℕ → List ℕ → List ℕ → Type 0
HasOpened start block image = (rest : List ℕ) × (image ≡ start ++ 1 ∷ (block ++ rest))

abbrev pub IsClosedOrOpened : List ℕ → List ℕ → List ℕ → Type 0
IsClosedOrOpened start block image = IsClosed start image ⊎ HasOpened start block image

abbrev pub IsEntry : List ℕ → Type 0
IsEntry item = length item ≤ most_entry

-- the image is no longer than a file may be
abbrev pub IsWithin : List ℕ → Type 0
IsWithin image = length image ≤ most_image

-- the header, the entries and a closed gate, in an image that is not too long
pub record HasLayout (items : List (List ℕ)) (image : List ℕ) : Type 0 where
  pub short : All IsEntry items
  pub closed : IsClosed (front items) image
  pub within : IsWithin image

-- an image of at most 9 bytes stands for the empty list, and a longer one by its layout
abbrev pub Stands : List ℕ → List (List ℕ) → Type 0
Stands image items = ((length image ≤ 9) × (items ≡ [])) ⊎ ((9 < length image) × HasLayout items image)

abbrev pub BeforeOrAfter : List (List ℕ) → List ℕ → List ℕ → Type 0
BeforeOrAfter items item image = HasLayout items image ⊎ HasLayout (items ++ item ∷ []) image

abbrev pub StandsBeforeOrAfter : List (List ℕ) → List ℕ → List ℕ → Type 0
StandsBeforeOrAfter items item image = Stands image items ⊎ Stands image (items ++ item ∷ [])

-- what is written behind the gate: the length, the entry and a closed gate
abbrev pub block_for : List ℕ → List ℕ
block_for item = length_field (length item) ++ item ++ 0 ∷ []

-- neither a whole entry nor a closed gate stands here
abbrev pub IsBroken : List ℕ → Type 0
IsBroken [] = Unit {0}
IsBroken (gate ∷ a ∷ b ∷ c ∷ d ∷ rest) = (gate ≡ 1) × ((most_entry < length_of a b c d) ⊎ (length rest < length_of a b c d))
IsBroken (gate ∷ rest) = gate ≡ 1

-- these whole entries, and then this
pub record Entries (bytes : List ℕ) (items : List (List ℕ)) (rest : List ℕ) : Type 0 where
  pub short : All IsEntry items
  pub is : bytes ≡ entries items ++ rest

-- the header and these whole entries, and then this
pub record Begins (image : List ℕ) (items : List (List ℕ)) (rest : List ℕ) : Type 0 where
  pub short : All IsEntry items
  pub is : image ≡ front items ++ rest

-- whole entries, and then no whole entry and no closed gate
pub record BreaksAt (image : List ℕ) (place : ℕ) : Type 0 where
  pub items : List (List ℕ)
  pub rest : List ℕ
  pub short : All IsEntry items
  pub is : image ≡ front items ++ rest
  pub at : place ≡ length (front items)
  pub broken : IsBroken rest

-- where an image stands for no list: the place of the damage
abbrev pub IsDamagedAt : List ℕ → ℕ → Type 0
IsDamagedAt image place =
    ((most_image < length image) × (place ≡ most_image))
    ⊎ (((9 < length image) × (length image ≤ most_image) × (place < 8) × (take place image ≡ take place header)
    × (slice_index image place ≢ slice_index header place))
    ⊎ ((9 < length image) × (length image ≤ most_image) × BreaksAt image place))
