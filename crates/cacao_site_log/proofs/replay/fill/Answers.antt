-- The buffer after the first entries, and after one more.
use Rattle.std.proofs.Common.{subst, sym}
use Rattle.cacao_site_log.specs.Entries.{IsReadAt}
use Rattle.cacao_site_log.specs.Replay.{FileState, at_rest}
use Rattle.cacao_site_log.proofs.ReplayLemmas.{file_at-zero, file_at-more, file_at-all}
use Rattle.cacao_site_log.proofs.replay.fill.Goals as goal

pub loop-entry-init : goal.loop-entry-init
loop-entry-init c = subst (λ (s : FileState). IsReadAt s.reads c.args.at c.copy_from.new.into) (sym (file_at-zero c.args.file (at_rest c.args.start.now) c.args.bytes.now c.args.entries.now)) c.copy_from.ensures

pub loop-entry-preserved : goal.loop-entry-preserved
loop-entry-preserved c =
    subst (λ (s : FileState). IsReadAt s.reads c.args.at c.overlay_entry.new.into) (sym (file_at-more c.args.file (at_rest c.args.start.now) c.args.bytes.now c.args.entries.now c.loop-entry.entry-index _ c.loop-entry-test.true))
    (c.overlay_entry.ensures _ c.loop-entry.invariant)

pub returns : goal.returns
returns c =
    subst (λ (s : FileState). IsReadAt s.reads c.args.at c.loop-entry.into) (file_at-all c.args.file (at_rest c.args.start.now) c.args.bytes.now c.args.entries.now c.loop-entry.entry-index c.loop-entry-test.false)
    c.loop-entry.invariant
