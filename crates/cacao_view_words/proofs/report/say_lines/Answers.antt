-- The lines so far were said.
use Rattle.std.proofs.Common.{◌≡◌, ◌∙◌, sym, subst, ℕ, ◌+◌, List, take, take_all, drop, get_or}
use Rattle.std.proofs.lemmas.List.{take_more}
use Rattle.cacao_site.specs.View.{SiteView}
use Rattle.cacao_cli_words.specs.Words.{Text}
use Rattle.cacao_cli_ends.specs.Lines.{SaysAll, SaysLine}
use Rattle.cacao_cli_ends.proofs.ReadLemmas.{split_at}
use Rattle.cacao_cli_ends.proofs.UnsaidLemmas.{says-more}
use Rattle.cacao_view_words.proofs.report.say_lines.Goals as goal

pub returns-in-Err : goal.returns-in-Err
returns-in-Err g c =
    let lines : List Text = c.args.lines.now in
    let i : ℕ = c.loop-line.line-index in
    record {
      front = take i lines;
      line = get_or lines i c.line-item.result;
      behind = drop (i + 1) lines;
      is = split_at lines i c.line-item.result c.loop-line-test.true;
      between = g.S.Disk.view c.loop-line.site;
      says = c.loop-line.invariant;
      fails = record { only = c.in-Err.ensures.only; said = c.in-Err.ensures.said_before; unsaid = c.in-Err.ensures.cause };
    }

pub loop-line-preserved : goal.loop-line-preserved
loop-line-preserved g c =
    let lines : List Text = c.args.lines.now in
    let i : ℕ = c.loop-line.line-index in
    let old : SiteView = g.S.Disk.view c.args.site.now in
    let mid : SiteView = g.S.Disk.view c.loop-line.site in
    let new : SiteView = g.S.Disk.view c.say.new.self in
    let said : SaysLine c.as_slice.result.now mid new = record { only = c.in-Ok.ensures.only; said = c.in-Ok.ensures.said; unsaid = c.in-Ok.ensures.unsaid } in
    let line_is : c.as_slice.result.now ≡ get_or lines i c.line-item.result = c.as_slice.ensures ∙ c.line-item.is in
    subst (λ (l : List Text). SaysAll l old new) (sym (take_more lines i c.line-item.result c.loop-line-test.true))
    (says-more (take i lines) (get_or lines i c.line-item.result) old mid new c.loop-line.invariant (subst (λ (line : Text). SaysLine line mid new) line_is said))

pub returns : goal.returns
returns g c =
    let lines : List Text = c.args.lines.now in
    let all : take c.loop-line.line-index lines ≡ lines = take_all c.loop-line.line-index lines c.loop-line-test.false in
    subst (λ (l : List Text). SaysAll l (g.S.Disk.view c.args.site.now) (g.S.Disk.view c.loop-line.site)) all c.loop-line.invariant
