-- Promise: The grammar of stamps: RFC 3339 in UTC, with `Z` alone as the offset.
use Rattle.std.specs.Prelude.{◌≡◌, ℕ, ◌≤◌, ◌+◌, ◌/◌, ◌%◌, ◌&&◌, nat_le, Bool, IsTrue, List, [], ◌∷◌, ◌++◌, length}
use Rattle.std.specs.List.{list_all}
use Rattle.cacao_ids.specs.Calendar.{IsDate}

-- a decimal digit
abbrev pub is_digit : ℕ → Bool
is_digit c = nat_le 48 c && nat_le c 57

-- a number below 100 in two digits, and one below 10,000 in four
abbrev pub two_digits : ℕ → List ℕ
two_digits n = (48 + n / 10) ∷ (48 + n % 10) ∷ []

abbrev pub four_digits : ℕ → List ℕ
four_digits n = two_digits (n / 100) ++ two_digits (n % 100)

-- `YYYY-MM-DD`, and `hh:mm:ss`
abbrev pub date_text : ℕ → ℕ → ℕ → List ℕ
date_text year month day = four_digits year ++ 45 ∷ two_digits month ++ 45 ∷ two_digits day

abbrev pub time_text : ℕ → ℕ → ℕ → List ℕ
time_text hour minute second = two_digits hour ++ 58 ∷ two_digits minute ++ 58 ∷ two_digits second

-- a date of the calendar
pub record IsDateText (text : List ℕ) : Type 0 where
  pub year : ℕ
  pub month : ℕ
  pub day : ℕ
  pub exists : IsDate year month day
  pub spelled : text ≡ date_text year month day

-- a time of a day: hours to 23, minutes and seconds to 59
pub record IsTimeText (text : List ℕ) : Type 0 where
  pub hour : ℕ
  pub minute : ℕ
  pub second : ℕ
  pub hour_fits : hour ≤ 23
  pub minute_fits : minute ≤ 59
  pub second_fits : second ≤ 59
  pub spelled : text ≡ time_text hour minute second

-- nothing, or a point and one to nine digits
abbrev pub IsFraction : List ℕ → Type 0
IsFraction [] = Unit {0}
IsFraction (c ∷ digits) = (c ≡ 46) × (1 ≤ length digits) × (length digits ≤ 9) × IsTrue (list_all is_digit digits)

-- a stamp: a date, `T`, a time, perhaps a fraction of a second, and `Z`
pub record IsStamp (text : List ℕ) : Type 0 where
  pub date : List ℕ
  pub time : List ℕ
  pub fraction : List ℕ
  pub date_fits : IsDateText date
  pub time_fits : IsTimeText time
  pub fraction_fits : IsFraction fraction
  pub joined : text ≡ date ++ 84 ∷ time ++ fraction ++ 90 ∷ []
