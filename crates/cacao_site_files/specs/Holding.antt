-- Promise: Which locks a program holds, and which files they keep for it.
use Rattle.std.specs.Prelude.{ℕ, ◌-◌, ◌==◌, nat_le, List, Option, None, IsSome, get_or, if◌then◌else◌}

-- The number of the lock that the file has: lock 0 is that of file 0, lock 1 the one of all filters' files, and each run file has
-- its own.
abbrev pub lock_number : ℕ → ℕ
lock_number file = if file == 0 then 0 else if nat_le file 16 then 1 else file - 15

-- the lock of the file is held
abbrev pub IsHeld : {A : Type 0} → List (Option A) → ℕ → Type 0
IsHeld held file = IsSome (get_or held (lock_number file) None)

-- the files whose locks were held have them held still
abbrev pub KeepsHeld : {A : Type 0} → List (Option A) → List (Option A) → Type 0
KeepsHeld old new = (file : ℕ) → IsHeld old file → IsHeld new file
