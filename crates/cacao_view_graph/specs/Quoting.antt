-- Promise: Texts in DOT, the language of Graphviz: how a text is quoted, and how DOT reads a quoted label.
use Rattle.std.specs.Prelude.{◌≡◌, ◌≢◌, ℕ, ◌+◌, ◌==◌, nat_lt, ◌&&◌, ◌||◌, not, Bool, false, List, [], ◌∷◌, ◌++◌, flat_map, codes, if◌then◌else◌}

-- a control character but the line feed, which no picture can show
abbrev pub is_control : ℕ → Bool
is_control b = (nat_lt b 32 && not (b == 10)) || (b == 127)

-- its symbol, in UTF-8: U+2400 and on, U+2421 for 127
abbrev pub symbol : ℕ → List ℕ
symbol b = 226 ∷ 144 ∷ (if b == 127 then 161 else 128 + b) ∷ []

-- what is shown of a byte of a text
abbrev pub shown_byte : ℕ → List ℕ
shown_byte b = if is_control b then symbol b else b ∷ []

-- U+FFFE and U+FFFF, which XML has not, and so no picture in SVG: 239 191 190 and 239 191 191 in UTF-8. This is the last byte of one, behind
-- the two bytes before it.
abbrev pub ends_barred : ℕ → ℕ → ℕ → Bool
ends_barred first second b = (first == 239) && ((second == 191) && ((b == 190) || (b == 191)))

abbrev pub has_barred : ℕ → ℕ → List ℕ → Bool
has_barred first second [] = false
has_barred first second (b ∷ bs) = ends_barred first second b || has_barred second b bs

-- the text behind two bytes with U+FFFD in the place of each, 239 191 189
abbrev pub replaced : ℕ → ℕ → List ℕ → List ℕ
replaced first second [] = []
replaced first second (b ∷ bs) = (if ends_barred first second b then 189 else b) ∷ replaced second b bs

-- what is shown of a text
abbrev pub shown : List ℕ → List ℕ
shown text = flat_map shown_byte (replaced 0 0 text)

-- what stands in a quoted label for a byte of its text
abbrev pub quoted_byte : ℕ → List ℕ
quoted_byte b =
    if b == 10 then 92 ∷ 110 ∷ [] else
    (if b == 34 then 92 ∷ 34 ∷ [] else
    (if b == 38 then codes "&amp;" else
    (if b == 92 then 92 ∷ 92 ∷ [] else shown_byte b)))

abbrev pub quoted : List ℕ → List ℕ
quoted text = 34 ∷ (flat_map quoted_byte (replaced 0 0 text) ++ 34 ∷ [])

-- ---- how DOT reads a label

-- a byte that stands for itself
abbrev pub IsPlain : ℕ → Type 0
IsPlain b = (b ≢ 0) × (b ≢ 10) × (b ≢ 34) × (b ≢ 38) × (b ≢ 92)

-- Behind its opening quote, up to the closing one, the bytes are a label with this text: a quote and a backslash stand behind a backslash, a
-- backslash and an n begin a new line, and an ampersand is written as an entity.
pub data IsLabel : List ℕ → List ℕ → Type 0 where
  closed : IsLabel (34 ∷ []) []
  quote : {bytes text : List ℕ} → IsLabel bytes text → IsLabel (92 ∷ 34 ∷ bytes) (34 ∷ text)
  backslash : {bytes text : List ℕ} → IsLabel bytes text → IsLabel (92 ∷ 92 ∷ bytes) (92 ∷ text)
  new_line : {bytes text : List ℕ} → IsLabel bytes text → IsLabel (92 ∷ 110 ∷ bytes) (10 ∷ text)
  ampersand : {bytes text : List ℕ} → IsLabel bytes text → IsLabel (38 ∷ 97 ∷ 109 ∷ 112 ∷ 59 ∷ bytes) (38 ∷ text)
  plain : {b : ℕ} {bytes text : List ℕ} → IsPlain b → IsLabel bytes text → IsLabel (b ∷ bytes) (b ∷ text)

-- a quoted text is read as this one
abbrev pub IsRead : List ℕ → List ℕ → Type 0
IsRead word text = (bytes : List ℕ) × (word ≡ 34 ∷ bytes) × IsLabel bytes text
