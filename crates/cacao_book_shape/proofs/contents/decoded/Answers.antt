use Rattle.std.proofs.Common.{Some, refl, sym, subst, ap, ◌∙◌}
use Rattle.std.specs.Str.{IsUtf8}
use Rattle.std.specs.Result.{result_ok}
use Rattle.std.proofs.lemmas.Str.{IsUtf8-string_bytes}
use Rattle.base64.specs.Engines.{standard}
use Rattle.base64.specs.GeneralPurpose.{decode_of, decoded_of}
use Rattle.cacao_book_shape.proofs.contents.decoded.Goals as goal

pub returns-in-Ok-from_utf8-clause-fits : goal.returns-in-Ok-from_utf8-clause-fits
returns-in-Ok-from_utf8-clause-fits c = (
  λ _. (
    c.in-Ok.bytes.items,
    c.in-Ok.ensures.bytes,
    subst IsUtf8 (ap (λ v. v.items) c.in-Ok-from_utf8.ensures.ok) (IsUtf8-string_bytes c.in-Ok-from_utf8.content),
    sym c.as_bytes.ensures.value ∙ c.in-Ok.ensures.exact (refl, refl),
  ),
  λ _. refl,
)

pub returns-in-Ok-from_utf8-clause-value : goal.returns-in-Ok-from_utf8-clause-value
unfolding decoded_of
returns-in-Ok-from_utf8-clause-value c =
    ap (λ text. result_ok (decode_of standard text)) (sym c.as_bytes.ensures.value) ∙ ap result_ok c.in-Ok.ensures.ok
    ∙ ap (λ v. Some v.items) (sym c.in-Ok-from_utf8.ensures.ok) ∙ ap Some (sym c.from_string.ensures)
