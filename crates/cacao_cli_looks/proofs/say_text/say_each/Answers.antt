-- The lines so far were said.
use Rattle.std.proofs.Common.{◌∙◌, sym, ap, List, [], ◌∷◌, ◌++◌, append_assoc}
use Rattle.cacao_site.specs.View.{SiteView}
use Rattle.cacao_cli_words.specs.Words.{Text}
use Rattle.flow_engine_reports.specs.RunLines.{lines_of}
use Rattle.cacao_cli_ends.specs.Lines.{SaysLine}
use Rattle.cacao_cli_ends.proofs.UnsaidLemmas.{says-more}
use Rattle.cacao_cli_looks.proofs.say_text.say_each.Goals as goal

pub loop-line-preserved : goal.loop-line-preserved
loop-line-preserved g c =
    let h = c.loop-line.invariant in
    let line : Text = c.in-Some.line.now in
    let behind : List Text = lines_of c.in-Some.behind.now in
    let old : SiteView = g.S.Disk.view c.args.site.now in
    let mid : SiteView = g.S.Disk.view c.loop-line.site in
    let new : SiteView = g.S.Disk.view c.say.new.self in
    let said : SaysLine line mid new = record { only = c.in-Ok.ensures.only; said = c.in-Ok.ensures.said; unsaid = c.in-Ok.ensures.unsaid } in
    (h.0 ++ line ∷ [], h.1 ∙ ap (λ (l : List Text). h.0 ++ l) c.in-Some.ensures.lines ∙ sym (append_assoc h.0 (line ∷ []) behind), says-more h.0 line old mid new h.2 said)
