-- An image since the last sync is one of the whole record.
use Rattle.std.proofs.Common.{◌≡◌, List, IsTrue, IfOk, subst, sym, ap, ◌∙◌}
use Rattle.cacao_site_log.specs.declared.entry.Entry.{Entry}
use Rattle.cacao_site_log.specs.Entries.{calls_of}
use Rattle.cacao_site_log.specs.Replay.{FileState, at_rest, after_all, is_image}
use Rattle.cacao_site_log.proofs.ReplayLemmas.{file_at}
use Rattle.cacao_site_log.proofs.Tears.{since_sync}
use Rattle.cacao_site_log.proofs.tear.torn_since.Goals as goal

pub returns : goal.returns
returns c =
    let is : c.in_ok-synced.synced.items ≡ (file_at c.args.file (at_rest c.args.start.now) c.args.bytes.now c.args.entries.now c.args.n).reads =
    c.in_ok-synced.ensures ∙ ap (λ (l : List Entry). (after_all c.args.file (at_rest c.args.start.now) (calls_of c.args.bytes.now l)).reads) c.split_at.ensures.front in
    let since = since_sync c.args.file c.args.start.now c.in_ok-synced.synced.items c.args.bytes.now c.args.entries.now c.args.n c.requires.front is in
    subst (λ (s : FileState). IfOk c.torn.result (λ v. IsTrue (is_image s v.items))) (sym since)
    (subst (λ (l : List Entry). IfOk c.torn.result (λ v. IsTrue (is_image (after_all c.args.file (at_rest c.in_ok-synced.synced.items) (calls_of c.args.bytes.now l)) v.items))) c.split_at.ensures.back c.torn.ensures)
