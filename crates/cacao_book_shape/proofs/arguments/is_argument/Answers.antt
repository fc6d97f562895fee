use Rattle.std.proofs.Common.{lit<, None, Some, sym, ◌∙◌}
use Rattle.std.proofs.lemmas.Bool.{false≢true}
use Rattle.std.proofs.lemmas.Str.Pattern.{split_parts}
use Rattle.cacao_book_shape.proofs.ArgumentLemmas.{argument_alone, argument_parts}
use Rattle.cacao_book_shape.proofs.arguments.is_argument.Goals as goal

pub returns-in_default : goal.returns-in_default
returns-in_default c =
    let alone = argument_alone c.args.text.now (split_parts 58 c.args.text.now None c.in_default.ensures.cases (lit< tt)) in
    let fits = c.fits.ensures in
    (λ t. alone.1 (fits.0 t), λ a. fits.1 (alone.0 a))

pub returns-then-not-is_value : goal.returns-then-not-is_value
returns-then-not-is_value c =
    let split = split_parts 58 c.args.text.now (Some (c.in-Some.name, c.in-Some.rest)) c.in-Some.ensures.cases (lit< tt) in
    let parts = argument_parts c.args.text.now c.in-Some.name.now c.in-Some.rest.now split.0 split.1 in
    (λ e. absurd (false≢true e), λ a. absurd (false≢true (sym c.if-not-is_value.true ∙ c.is_value.ensures.1 (parts.0 a).1)))

pub returns : goal.returns
returns c =
    let split = split_parts 58 c.args.text.now (Some (c.in-Some.name, c.in-Some.rest)) c.in-Some.ensures.cases (lit< tt) in
    let parts = argument_parts c.args.text.now c.in-Some.name.now c.in-Some.rest.now split.0 split.1 in
    let fits = c.fits-2.ensures in
    (λ t. parts.1 (fits.0 t, c.is_value.ensures.0 c.if-not-is_value.false), λ a. fits.1 (parts.0 a).0)
