use Rattle.std.proofs.Common.{◌≡◌, ℕ, ◌<◌, ◌≤◌, false, Some}
use Rattle.std.specs.Prelude.{slice_get}
use Rattle.slpf_rules.specs.declared.slots.Slot.{Slot}
use Rattle.slpf_rules.specs.Slots.{is_free, is_of}
use Rattle.slpf_rules.specs.Quick.{Keeps}
use Rattle.slpf_rules.proofs.quick.free_near.Given as goal

abbrev pub invariant-loop-at : goal.invariant-loop-at
invariant-loop-at l =
    Keeps l.fn.slots.items l.slots.items
    × ((place : ℕ) (slot : Slot) → l.home ≤ place → place < l.at → slice_get l.slots.items place ≡ Some slot → is_free slot ≡ false → is_of l.net slot ≡ false)
