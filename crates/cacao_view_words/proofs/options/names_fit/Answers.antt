-- All names fit where those of each list do.
use Rattle.std.proofs.Common.{◌∙◌, map, string_bytes}
use Rattle.cacao_view_words.proofs.OptionLemmas.{all-parts}
use Rattle.cacao_view_words.proofs.options.names_fit.Goals as goal

pub returns : goal.returns
returns c = c.each_list_fits.ensures ∙ all-parts (map string_bytes c.args.before.now) (map string_bytes c.args.between.now) (map string_bytes c.args.behind.now)
