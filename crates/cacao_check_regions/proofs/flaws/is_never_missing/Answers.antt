use Rattle.std.proofs.Common.{◌≡◌, true, Option, Some, None, is_some, subst}
use Rattle.std.proofs.lemmas.Bool.{false≢true}
use Rattle.cacao_vars.specs.declared.declarations.Var.{Var}
use Rattle.cacao_check_regions.specs.declared.flaws.Flaw.TheVariants.{Missing}
use Rattle.cacao_check_regions.specs.Flaws.{is_flawed}
use Rattle.cacao_check_regions.proofs.flaws.is_never_missing.Goals as goal

there_is_one : (seen : Option Var) → is_some seen ≡ true → is_flawed Missing seen ≡ true → ⊥
there_is_one None some e = false≢true some
there_is_one (Some var) some e = false≢true e

pub returns-in-Missing : goal.returns-in-Missing
returns-in-Missing c h s = there_is_one s.0 (c.is_found_anyhow.ensures h s.0 s.1) (subst (λ f. is_flawed f s.0 ≡ true) c.in-Missing.is s.2)
