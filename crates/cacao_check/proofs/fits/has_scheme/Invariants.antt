use Rattle.std.proofs.Common.{◌≡◌, drop}
use Rattle.cacao_check.specs.UriTexts.{has_rest}
use Rattle.cacao_check.proofs.fits.has_scheme.Given as goal

abbrev pub invariant-loop-place : goal.invariant-loop-place
invariant-loop-place l = has_rest l.text ≡ has_rest (drop l.place l.text)
