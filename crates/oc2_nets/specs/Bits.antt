-- Promise: An address is a number of so many bits, 32 or 128, the most significant first.
use Rattle.std.specs.Prelude.{◌≡◌, ℕ, ◌-◌, ◌*◌, ◌/◌, ◌%◌, ◌^◌}

-- the address with every bit past the width cleared
abbrev pub cleared : ℕ → ℕ → ℕ → ℕ
cleared length bits width = bits / 2 ^ (length - width) * 2 ^ (length - width)

-- every bit past the width is cleared
abbrev pub IsCleared : ℕ → ℕ → ℕ → Type 0
IsCleared length bits width = bits % 2 ^ (length - width) ≡ 0
