-- The length after the first entries, and after one more.
use Rattle.std.proofs.Common.{length, ap, sym, ◌∙◌}
use Rattle.cacao_site_log.specs.Replay.{FileState, at_rest}
use Rattle.cacao_site_log.proofs.ReplayLemmas.{file_at-zero, file_at-more, file_at-all}
use Rattle.cacao_site_log.proofs.replay.length_after.Goals as goal

pub loop-entry-init : goal.loop-entry-init
loop-entry-init c = ap (λ (s : FileState). length s.reads) (sym (file_at-zero c.args.file (at_rest c.args.start.now) c.args.bytes.now c.args.entries.now))

pub loop-entry-preserved : goal.loop-entry-preserved
loop-entry-preserved c =
    sym (c.size_after-size.ensures _ (sym c.loop-entry.invariant))
    ∙ ap (λ (s : FileState). length s.reads) (sym (file_at-more c.args.file (at_rest c.args.start.now) c.args.bytes.now c.args.entries.now c.loop-entry.entry-index _ c.loop-entry-test.true))

pub returns : goal.returns
returns c =
    c.loop-entry.invariant
    ∙ ap (λ (s : FileState). length s.reads) (file_at-all c.args.file (at_rest c.args.start.now) c.args.bytes.now c.args.entries.now c.loop-entry.entry-index c.loop-entry-test.false)
