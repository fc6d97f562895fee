-- The last sync among the first entries, and among one more.
use Rattle.std.proofs.Common.{ℕ, ◌+◌, subst, sym, arith}
use Rattle.cacao_site_log.specs.declared.entry.Entry.TheVariants.{Looked}
use Rattle.cacao_site_log.proofs.Tears.{rests-zero, rests-sync, none-more}
use Rattle.cacao_site_log.proofs.tear.last_sync.Invariants.{IsLastUpTo}
use Rattle.cacao_site_log.proofs.tear.last_sync.Goals.{then-is_sync, else-is_sync}
use Rattle.cacao_site_log.proofs.tear.last_sync.Goals as goal

pub loop-i-init : goal.loop-i-init
loop-i-init c = record { bound = omega arith; rests = rests-zero c.args.file c.args.entries.now; none = λ k d low high. absurd (omega arith) }

pub loop-i-preserved : goal.loop-i-preserved
loop-i-preserved c = elim c.if-is_sync.branch [
  | then-is_sync w ↦ subst (λ (n : ℕ). IsLastUpTo c.args.file c.args.entries.now n (c.loop-i.i + 1)) (sym w.found-is) (record {
    bound = omega arith;
    rests = rests-sync c.args.file c.args.entries.now c.loop-i.i Looked c.loop-i-test.true (c.is_sync.ensures.yes w.if-is_sync.true);
    none = λ k d low high. absurd (omega arith);
  })
  | else-is_sync w ↦ subst (λ (n : ℕ). IsLastUpTo c.args.file c.args.entries.now n (c.loop-i.i + 1)) (sym w.found-is) (record {
    bound = omega arith;
    rests = c.loop-i.invariant.rests;
    none = none-more c.args.file c.args.entries.now c.loop-i.found c.loop-i.i Looked c.loop-i-test.true c.loop-i.invariant.none (c.is_sync.ensures.no w.if-is_sync.false);
  })
]
