-- The same of their bytes.
use Rattle.std.proofs.Common.{◌∙◌, sym, Global, string_bytes}
use Rattle.std.proofs.lemmas.List.Folds.{list_all-map}
use Rattle.cacao_view_words.specs.Requests.{is_name}
use Rattle.cacao_view_words.proofs.words.are_names.Goals as goal

pub returns : goal.returns
returns c = c.each_is_name.ensures ∙ sym (list_all-map is_name (string_bytes {Z = Global}) c.args.names.now)
