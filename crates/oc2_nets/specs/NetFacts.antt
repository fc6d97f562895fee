-- Promise: What a net keeps.
use Rattle.std.specs.Prelude.{ℕ, ◌≤◌, ◌-◌, ◌/◌, ◌^◌, min}
use Rattle.std.proofs.Math.Nat.{min-le_right, mul-mod_left}
use Rattle.oc2_nets.specs.Bits.{cleared, IsCleared}

pub min_is_width : (most width : ℕ) → min width most ≤ most
min_is_width most width = min-le_right width most

pub cleared_is_cleared : (length address width : ℕ) → IsCleared length (cleared length address width) width
cleared_is_cleared length address width = mul-mod_left (address / 2 ^ (length - width)) (2 ^ (length - width))
