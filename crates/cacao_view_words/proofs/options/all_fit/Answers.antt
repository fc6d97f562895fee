-- The same of their bytes.
use Rattle.std.proofs.Common.{◌∙◌, sym, Global, string_bytes}
use Rattle.std.proofs.lemmas.List.Folds.{list_all-map}
use Rattle.cacao_cli_words.specs.Words.{fits}
use Rattle.cacao_view_words.proofs.options.all_fit.Goals as goal

pub returns : goal.returns
returns c = c.each_fits.ensures ∙ sym (list_all-map fits (string_bytes {Z = Global}) c.args.words.now)
