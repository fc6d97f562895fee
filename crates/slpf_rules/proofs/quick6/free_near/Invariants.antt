use Rattle.std.proofs.Common.{◌≡◌, ℕ, ◌<◌, ◌≤◌, false, Some}
use Rattle.std.specs.Prelude.{slice_get}
use Rattle.slpf_rules.specs.declared.slots6.Slot6.{Slot6}
use Rattle.slpf_rules.specs.Slots6.{is_free6, is_of6}
use Rattle.slpf_rules.specs.Quick6.{Keeps6}
use Rattle.slpf_rules.proofs.quick6.free_near.Given as goal

abbrev pub invariant-loop-at : goal.invariant-loop-at
invariant-loop-at l =
    Keeps6 l.fn.slots.items l.slots.items
    × ((place : ℕ) (slot : Slot6) → l.home ≤ place → place < l.at → slice_get l.slots.items place ≡ Some slot → is_free6 slot ≡ false → is_of6 l.net slot ≡ false)
