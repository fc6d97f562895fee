-- Scaffold: How far the reading of a text is.
use Rattle.std.specs.Prelude.{◌≤◌, ℕ}
use Rattle.cacao_view_faults.specs.declared.faults.Next.{Next}
use Rattle.cacao_view_faults.specs.declared.faults.Next.TheVariants.{Goes, Stops}

-- it goes on at a place of so many bytes, or stops at one
abbrev pub IsWithin : ℕ → Next → Type 0
IsWithin most (Goes at expected) = at ≤ most
IsWithin most (Stops fault) = fault.at ≤ most
