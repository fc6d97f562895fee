-- The file after the write, byte by byte.
use Rattle.std.proofs.Common.{◌≡◌, ℕ, ◌+◌, ◌<◌, List, length, slice_range, get_or, ap, sym, ◌∙◌, arith}
use Rattle.cacao_site_log.specs.declared.entry.Entry.{Entry}
use Rattle.cacao_site_log.specs.declared.entry.Entry.TheVariants.{Wrote}
use Rattle.cacao_site_log.specs.Entries.{call_of}
use Rattle.cacao_site_log.specs.Replay.{FileState, byte_after, spliced, after}
use Rattle.cacao_site_log.specs.Images.{spliced-at}
use Rattle.cacao_site_log.proofs.Logged.{after-wrote}
use Rattle.cacao_site_log.proofs.replay.overlay_entry.Goals as goal

pub returns-in-Wrote : goal.returns-in-Wrote
returns-in-Wrote c = λ state reads k lt.
    let bytes : List ℕ = slice_range c.args.bytes.now c.in-Wrote.start c.in-Wrote.end in
    let below : k < length c.args.into.now = omega arith in
    let is : c.args.entry ≡ Wrote c.args.file c.in-Wrote.place c.in-Wrote.start c.in-Wrote.end = c.in-Wrote.is ∙ ap (λ f. Wrote f c.in-Wrote.place c.in-Wrote.start c.in-Wrote.end) c.if-other-file.true in
    let after_is : (after c.args.file state (call_of c.args.bytes.now c.args.entry)).reads ≡ spliced c.in-Wrote.place bytes state.reads = ap (λ (e : Entry). (after c.args.file state (call_of c.args.bytes.now e)).reads) is ∙ ap (λ (s : FileState). s.reads) (after-wrote c.args.file c.in-Wrote.place bytes state) in
    c.overlay.ensures k below
    ∙ ap (byte_after c.in-Wrote.place bytes (c.args.at + k)) (reads k below)
    ∙ sym (spliced-at c.in-Wrote.place bytes state.reads (c.args.at + k))
    ∙ ap (λ (l : List ℕ). get_or l (c.args.at + k) 0) (sym after_is)
