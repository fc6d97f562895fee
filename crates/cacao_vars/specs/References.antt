-- Promise: References to variables in a text.
use Rattle.std.specs.Prelude.{◌≡◌, ℕ, zero, suc, ◌+◌, ◌-◌, ◌<◌, ◌≤◌, ◌&&◌, nat_le, Bool, true, false, List, [], ◌∷◌, ◌++◌, length, take, drop, codes, Option, Some, None, option_map, if◌then◌else◌}
use Rattle.std.specs.List.{list_all}
use Rattle.std.specs.Option.{option_map_or}
use Rattle.std.specs.Str.{bytes_eq}
use Rattle.cacao_vars.specs.Names.{IsName, is_name_character, underscores}

-- the text of a reference: a name and `:value`
abbrev pub reference_text : List ℕ → List ℕ
reference_text name = name ++ codes ":value"

-- the text begins with a reference
abbrev pub BeginsWithReference : List ℕ → Type 0
BeginsWithReference text = (name rest : List ℕ) × IsName name × (text ≡ reference_text name ++ rest)

-- a reference stands at this place of the text
abbrev pub HasReferenceAt : List ℕ → ℕ → Type 0
HasReferenceAt text place = BeginsWithReference (drop place text)

abbrev pub HasNoReference : List ℕ → Type 0
HasNoReference text = (place : ℕ) → ¬ HasReferenceAt text place

-- what stands before a reference, its name, and what stands behind it
pub record Found : Type 0 where
  pub before : List ℕ
  pub name : List ℕ
  pub rest : List ℕ

-- the reference is that at the first place at which one stands
pub record IsFirstReference (text : List ℕ) (found : Found) : Type 0 where
  pub name_fits : IsName found.name
  pub joined : text ≡ found.before ++ (reference_text found.name ++ found.rest)
  pub first : (place : ℕ) → place < length found.before → ¬ HasReferenceAt text place

-- a reference stands at this place, with a name of this length
pub record StandsAt (text : List ℕ) (place len : ℕ) : Type 0 where
  pub within : place + len + 6 ≤ length text
  pub name_fits : IsName (take len (drop place text))
  pub spelled : drop place text ≡ reference_text (take len (drop place text)) ++ drop (len + 6) (drop place text)

-- the same, as functions of the text

-- the name characters that the text begins with, and what follows them
abbrev pub name_run : List ℕ → List ℕ
name_run [] = []
name_run (c ∷ cs) = if is_name_character c then c ∷ name_run cs else []

abbrev pub behind_run : List ℕ → List ℕ
behind_run [] = []
behind_run (c ∷ cs) = if is_name_character c then behind_run cs else c ∷ cs

-- whether the text is a name
abbrev pub is_name : List ℕ → Bool
is_name text =
    nat_le 5 (length text) && nat_le (length text) 64 && bytes_eq (take 2 text) underscores
    && bytes_eq (drop (length text - 2) text) underscores && list_all is_name_character (take (length text - 4) (drop 2 text))

-- whether the text begins with a reference: its name is then the run of name characters
abbrev pub begins_with_reference : List ℕ → Bool
begins_with_reference text = is_name (name_run text) && bytes_eq (take 6 (behind_run text)) (codes ":value")

-- the length of the name of a reference at the front: the run of name characters, and what stands behind `:value`
abbrev pub IsExactFront : List ℕ → Option ℕ → Type 0
IsExactFront text None = begins_with_reference text ≡ false
IsExactFront text (Some len) =
    (begins_with_reference text ≡ true) × (take len text ≡ name_run text) × (drop (len + 6) text ≡ drop 6 (behind_run text))

-- one more character before a reference
abbrev pub behind : ℕ → Found → Found
behind c found = record { before = c ∷ found.before; name = found.name; rest = found.rest }

-- the first reference of a text
abbrev pub first_reference : List ℕ → Option Found
first_reference [] = None
first_reference (c ∷ cs) =
    if begins_with_reference (c ∷ cs)
    then Some (record { before = []; name = name_run (c ∷ cs); rest = drop 6 (behind_run (c ∷ cs)) })
    else option_map (behind c) (first_reference cs)

-- all references of a text, from left to right: the search goes on behind each. What stands behind the last comes beside them
abbrev pub references_within : ℕ → List ℕ → List Found × List ℕ
references_within zero text = ([], text)
references_within (suc n) text =
    option_map_or (λ found. (found ∷ (references_within n found.rest).0, (references_within n found.rest).1))
    (first_reference text) ([], text)

abbrev pub references : List ℕ → List Found × List ℕ
references text = references_within (length text) text

-- one step: nothing but the text where it has no reference, else the first one and those behind it
abbrev pub references_from : Option Found → List ℕ → List Found × List ℕ
references_from None text = ([], text)
references_from (Some found) text = (found ∷ (references found.rest).0, (references found.rest).1)

-- the references of a text are its first one, and those of what stands behind it
abbrev pub ReferencesGoOn : Type 0
ReferencesGoOn = (text : List ℕ) → references text ≡ references_from (first_reference text) text
