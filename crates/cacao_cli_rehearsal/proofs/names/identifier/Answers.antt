use Rattle.std.proofs.Common.{◌≡◌, ◌∙◌, ap, subst, ℕ, false, List, [], Option, Some}
use Rattle.std.specs.Prelude.{IfSome, option_map, codes, string_bytes}
use Rattle.std.specs.Fmt.{◌++?◌, digits, format_spec, padded_integral, styled_digits_output}
use Rattle.cacao_cli_rehearsal.specs.Books.{twelve_digits}
use Rattle.cacao_cli_rehearsal.proofs.Digits.{filled}
use Rattle.cacao_cli_rehearsal.proofs.names.identifier.Goals as goal

pub returns : goal.returns
returns c =
    let laid = ap (λ s. styled_digits_output c.in_radix.result s) c.laid_out.ensures in
    let put = ap (λ (o : Option (List ℕ)). option_map (padded_integral (format_spec 32 0 4 12 18446744073709551615) false []) o) c.in_radix.ensures in
    let all : styled_digits_output c.in_radix.result c.laid_out.result ≡ Some (twelve_digits c.args.number) = laid ∙ put ∙ ap (λ (l : List ℕ). Some l) (filled (digits 16 false c.args.number)) in
    subst (λ (o : Option (List ℕ)). IfSome (Some c.args.kind.now ++? (Some (codes "--00000000-0000-4000-8000-") ++? o)) (λ bs. string_bytes c.in_ok-text.text ≡ bs)) all c.in_ok-text.ensures.ok
