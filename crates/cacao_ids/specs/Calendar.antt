-- Promise: The Gregorian calendar, for the years 0000 to 9999.
use Rattle.std.specs.Prelude.{ℕ, ◌≤◌, ◌%◌, ◌==◌, ◌&&◌, ◌||◌, Bool, not, if◌then◌else◌}

-- every fourth year, but of the hundreds every fourth alone
abbrev pub is_leap : ℕ → Bool
is_leap year = ((year % 4 == 0) && not (year % 100 == 0)) || (year % 400 == 0)

-- how many days a month has
abbrev pub days_of : ℕ → ℕ → ℕ
days_of year month = if month == 2 then (if is_leap year then 29 else 28)
    else (if (month == 4) || (month == 6) || (month == 9) || (month == 11) then 30 else 31)

-- the calendar has this date
abbrev pub IsDate : ℕ → ℕ → ℕ → Type 0
IsDate year month day = (year ≤ 9999) × (1 ≤ month) × (month ≤ 12) × (1 ≤ day) × (day ≤ days_of year month)
