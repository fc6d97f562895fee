use Rattle.std.proofs.Common.{◌≡◌, Some, subst, arith}
use Rattle.std.specs.Prelude.{slice_get}
use Rattle.slpf_rules.proofs.QuickLemmas6.{Keeps6-then}
use Rattle.slpf_rules.proofs.Rising.{split}
use Rattle.slpf_rules.proofs.quick6.free_near.Goals as goal

pub loop-at-preserved : goal.loop-at-preserved
loop-at-preserved c = (
  Keeps6-then c.args.slots.now.items c.loop-at.slots.items c.free_at.new.slots.items c.loop-at.invariant.0 c.free_at.ensures.kept,
  λ place slot low high there taken.
      split place c.loop-at.at
      (λ lt. c.loop-at.invariant.1 place slot low lt (c.free_at.ensures.kept place slot there taken) taken)
      (λ le.
      let same : place ≡ c.loop-at.at = omega arith in
      c.free_at.ensures.freed slot (subst (λ k. slice_get c.free_at.new.slots.items k ≡ Some slot) same there) taken),
)
