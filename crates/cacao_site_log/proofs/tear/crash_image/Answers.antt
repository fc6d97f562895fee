-- What the file reads as and what the last sync left are images.
use Rattle.std.proofs.Common.{List, ℕ, IsTrue, subst, sym}
use Rattle.cacao_site_log.specs.Entries.{calls_of}
use Rattle.cacao_site_log.specs.Replay.{at_rest, after_all, is_image}
use Rattle.cacao_site_log.proofs.Tears.{reads-left, synced-since, if_ok}
use Rattle.cacao_site_log.proofs.tear.crash_image.Goals as goal

pub returns-then-choice-eq0-clause-left : goal.returns-then-choice-eq0-clause-left
returns-then-choice-eq0-clause-left c =
    if_ok c.contents.result (λ v is. subst (λ (l : List ℕ). IsTrue (is_image (after_all c.args.file (at_rest c.args.start.now) (calls_of c.args.bytes.now c.args.entries.now)) l)) (sym is) (reads-left c.args.file c.args.start.now c.args.bytes.now c.args.entries.now))
    c.contents.ensures

pub returns-then-choice-eq1-clause-left : goal.returns-then-choice-eq1-clause-left
returns-then-choice-eq1-clause-left c =
    if_ok c.contents-then-choice-eq1.result (λ v is. (synced-since c.args.file c.args.start.now v.items c.args.bytes.now c.args.entries.now c.last_sync-n.result c.last_sync-n.ensures.front c.last_sync-n.ensures.back is).0)
    c.contents-then-choice-eq1.ensures

pub returns-then-choice-eq1-clause-synced : goal.returns-then-choice-eq1-clause-synced
returns-then-choice-eq1-clause-synced c =
    if_ok c.contents-then-choice-eq1.result (λ v is one. (synced-since c.args.file c.args.start.now v.items c.args.bytes.now c.args.entries.now c.last_sync-n.result c.last_sync-n.ensures.front c.last_sync-n.ensures.back is).1)
    c.contents-then-choice-eq1.ensures
