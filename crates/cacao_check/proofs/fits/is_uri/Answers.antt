use Rattle.std.proofs.Common.{sym, ◌∙◌}
use Rattle.cacao_check.proofs.UriLemmas.{uri_then}
use Rattle.cacao_check.proofs.fits.is_uri.Goals as goal

pub returns-then-is_letter : goal.returns-then-is_letter
returns-then-is_letter c = uri_then c.args.text.now c.has_scheme.result c.in-len1-up.len_at_least c.has_scheme.ensures (sym c.is_letter.ensures ∙ c.if-is_letter.true)
