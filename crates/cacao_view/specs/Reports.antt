-- Promise: What is said of the files that were read: lines, and how the call ends behind them.
use Rattle.std.specs.Prelude.{◌≡◌, List}
use Rattle.cacao_site.specs.View.{SiteView}
use Rattle.cacao_cli_ends.specs.Ends as of_cacao
use Rattle.cacao_cli_ends.specs.Lines as of_cacao_lines
use Rattle.cacao_view_words.specs.Texts.{Text}
use Rattle.cacao_view.specs.Ends.{End, ends_as}

-- These lines and this end are told. The lines were said as far as they could be, from the one site to the other, all but the last one.
pub record Reports (Tells : List Text → of_cacao.End → Type 0) (old new : SiteView) (last : End) : Type 0 where
  pub lines : List Text
  pub end : of_cacao.End
  pub told : Tells lines end
  pub left : of_cacao.End
  pub says : of_cacao_lines.SaysWork lines end old new left
  pub ends : last ≡ ends_as left

-- the same behind a file of the disk that was opened
pub record ReportsOpened (Tells : SiteView → SiteView → List Text → of_cacao.End → Type 0) (old new : SiteView) (last : End) : Type 0 where
  pub between : SiteView
  pub reports : Reports (Tells old between) between new last
