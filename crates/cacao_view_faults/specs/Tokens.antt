-- Promise: A name that stands again in its object, and a number that is not whole, at a place of a text.
use Rattle.std.specs.Prelude.{◌≡◌, ◌<◌, ◌-◌, ℕ, ◌==◌, ◌&&◌, ◌||◌, Bool, true, false, nat_le, nat_lt, if◌then◌else◌, List, codes, slice_range, Result, Ok, Err, is_some}
use Rattle.serde_json.specs.Data.{Data}
use Rattle.cacao_json.specs.Reading.{reading}
use Rattle.cacao_json.specs.Refusals.{answer}
use Rattle.cacao_json.specs.declared.error.JsonError.{JsonError}
use Rattle.cacao_json.specs.declared.error.JsonError.TheVariants.{NotJson, RepeatedName, NotWhole, Memory}
use Rattle.cacao_view_faults.specs.Stands.{byte_at, in_place, is_text_at}

-- how many members are lost since their names stand again
abbrev pub repeats : Result Data JsonError → ℕ
repeats (Ok root) = 0
repeats (Err NotJson) = 0
repeats (Err (RepeatedName colons members)) = colons - members
repeats (Err (NotWhole index)) = 0
repeats (Err Memory) = 0

-- the text with `~` at the end of the name that ends before a place, with its quotation mark
abbrev pub renamed : List ℕ → ℕ → List ℕ
renamed text end = in_place (codes "~\"") text (end - 1) end

-- A name stands here that stands again in its object: with another name in its place the text is JSON too, and fewer members are lost.
abbrev pub stands_again : List ℕ → ℕ → ℕ → Bool
stands_again text from end =
    if (byte_at text from == 34) && is_text_at text from end then
    (if is_some (reading (renamed text end)) then nat_lt (repeats (answer (renamed text end))) (repeats (answer text)) else false)
    else false

-- Two names are of one object: where both end in `~`, no fewer members are lost than where the first alone does.
abbrev pub are_together : List ℕ → ℕ → ℕ → Bool
are_together text first_end second_end =
    nat_le (repeats (answer (renamed text first_end))) (repeats (answer (renamed (renamed text second_end) first_end)))

-- one name stands at both places, at each stands again in its object, and that is one object
pub record IsTwice (text : List ℕ) (first second : ℕ) : Type 0 where
  pub first_end : ℕ
  pub first_again : stands_again text first first_end ≡ true
  pub second_end : ℕ
  pub second_again : stands_again text second second_end ≡ true
  pub apart : first < second
  pub alike : slice_range text first first_end ≡ slice_range text second second_end
  pub together : are_together text first_end second_end ≡ true

abbrev pub is_not_whole : Result Data JsonError → Bool
is_not_whole (Ok root) = false
is_not_whole (Err NotJson) = false
is_not_whole (Err (RepeatedName colons members)) = false
is_not_whole (Err (NotWhole index)) = true
is_not_whole (Err Memory) = false

abbrev pub begins_number : ℕ → Bool
begins_number byte = (byte == 45) || (nat_le 48 byte && nat_le byte 57)

-- A number stands here as a value, and is not whole: with an empty string in its place the text is JSON.
abbrev pub is_broken_number : List ℕ → ℕ → ℕ → Bool
is_broken_number text from end =
    if begins_number (byte_at text from) && is_text_at text from end then
    (if is_not_whole (answer (slice_range text from end)) then is_some (reading (in_place (codes "\"\"") text from end)) else false)
    else false

-- the first number that is not whole, as the numbers are counted, is that of this number
abbrev pub is_not_whole_at : ℕ → Result Data JsonError → Bool
is_not_whole_at number (Ok root) = false
is_not_whole_at number (Err NotJson) = false
is_not_whole_at number (Err (RepeatedName colons members)) = false
is_not_whole_at number (Err (NotWhole index)) = index == number
is_not_whole_at number (Err Memory) = false

-- The number that stands here is that of this number, as they are counted: with 0 in its place the first that is not whole is another one, or none is.
pub record IsBrokenNumber (text : List ℕ) (number at : ℕ) : Type 0 where
  pub end : ℕ
  pub is : is_broken_number text at end ≡ true
  pub counted : is_not_whole_at number (answer (in_place (codes "0") text at end)) ≡ false
