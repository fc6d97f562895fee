-- What parses, of 36 characters with no upper-case digit, has the form.
use Rattle.std.proofs.Common.{rules, ◌<◌, ◌∙◌, sym, ℕ, length}
use Rattle.std.specs.Prelude.{slice_index}
use Rattle.cacao_ids.proofs.UuidLemmas.{IsNotUpper, parses_from, form_from}
use Rattle.cacao_ids.proofs.uuids.is_uuid.Goals as goal

pub returns-then-has_no_upper_hex : goal.returns-then-has_no_upper_hex
returns-then-has_no_upper_hex c =
    let low : (k : ℕ) → k < length c.args.text.now → IsNotUpper (slice_index c.args.text.now k) = search rules in (
      λ ok. let some = c.parse_str.ensures.ok.0 (sym c.is_ok.ensures.value ∙ ok) in form_from c.args.text.now some.0 (search rules) low some.1,
      λ form. c.is_ok.ensures.value ∙ c.parse_str.ensures.ok.1 (parses_from c.args.text.now form),
    )
