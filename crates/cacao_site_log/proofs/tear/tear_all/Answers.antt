-- The image after the first entries, and after one more.
use Rattle.std.proofs.Common.{subst, sym}
use Rattle.cacao_site_log.specs.Entries.{IsAsSynced}
use Rattle.cacao_site_log.specs.Replay.{FileState}
use Rattle.cacao_site_log.proofs.ReplayLemmas.{file_at-zero, file_at-more, file_at-all}
use Rattle.cacao_site_log.proofs.tear.tear_all.Goals as goal

pub loop-entry-init : goal.loop-entry-init
loop-entry-init c = λ state is. subst (λ (s : FileState). IsAsSynced s c.args.image.now) (sym (file_at-zero c.args.file state c.args.bytes.now c.args.entries.now)) is

pub loop-entry-preserved : goal.loop-entry-preserved
loop-entry-preserved c = λ state is.
    subst (λ (s : FileState). IsAsSynced s c.tear.new.image) (sym (file_at-more c.args.file state c.args.bytes.now c.args.entries.now c.loop-entry.entry-index _ c.loop-entry-test.true))
    (c.tear.ensures _ (c.loop-entry.invariant state is))

pub returns : goal.returns
returns c = λ state is.
    subst (λ (s : FileState). IsAsSynced s c.loop-entry.image) (file_at-all c.args.file state c.args.bytes.now c.args.entries.now c.loop-entry.entry-index c.loop-entry-test.false)
    (c.loop-entry.invariant state is)
