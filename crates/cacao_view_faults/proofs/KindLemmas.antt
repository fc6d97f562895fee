-- Words that no kind has.
use Rattle.std.proofs.Common.{◌≡◌, ◌≢◌, ◌∙◌, sym, ap, arith, ℕ, List, [], Option, Some, None, refl}
use Rattle.std.specs.Prelude.{unwrap_or}
use Rattle.cacao_view_faults.specs.Kinds.{IsOfNoKind}
use Rattle.cacao_view_faults.specs.Stands.{byte_at}
use Rattle.cacao_view_faults.specs.declared.kinds.Kind.TheVariants.{ByteOrderMark, Utf16, ZeroBytes, NotUtf8, Ends, Escape, Control, Comment, TrailingComma, SingleQuote, Other}
use Rattle.cacao_view_faults.specs.declared.kinds.TheConstants.{BYTE_ORDER_MARK, UTF_16, ZERO_BYTES, NOT_UTF8, ESCAPE, CONTROL, COMMENT, TRAILING_COMMA, SINGLE_QUOTE, NOT_JSON}

same : (one other : List ℕ) → Some one ≡ Some other → other ≡ one
same one other e = sym (ap (λ (o : Option (List ℕ)). unwrap_or o []) e)

none_some : (what : List ℕ) (o : Option (List ℕ)) → o ≡ None → o ≡ Some what → ⊥
none_some what o none some = cc

pub of_no_kind : (what : List ℕ) → what ≢ BYTE_ORDER_MARK.now → what ≢ UTF_16.now → what ≢ ZERO_BYTES.now → what ≢ NOT_UTF8.now → what ≢ ESCAPE.now → what ≢ CONTROL.now
    → what ≢ COMMENT.now → what ≢ TRAILING_COMMA.now → what ≢ SINGLE_QUOTE.now → IsOfNoKind what
of_no_kind what mark utf_16 zero utf_8 escape control comment comma quote ByteOrderMark e = mark (same BYTE_ORDER_MARK.now what e)
of_no_kind what mark utf_16 zero utf_8 escape control comment comma quote Utf16 e = utf_16 (same UTF_16.now what e)
of_no_kind what mark utf_16 zero utf_8 escape control comment comma quote ZeroBytes e = zero (same ZERO_BYTES.now what e)
of_no_kind what mark utf_16 zero utf_8 escape control comment comma quote NotUtf8 e = utf_8 (same NOT_UTF8.now what e)
of_no_kind what mark utf_16 zero utf_8 escape control comment comma quote Ends e = none_some what None refl e
of_no_kind what mark utf_16 zero utf_8 escape control comment comma quote Escape e = escape (same ESCAPE.now what e)
of_no_kind what mark utf_16 zero utf_8 escape control comment comma quote Control e = control (same CONTROL.now what e)
of_no_kind what mark utf_16 zero utf_8 escape control comment comma quote Comment e = comment (same COMMENT.now what e)
of_no_kind what mark utf_16 zero utf_8 escape control comment comma quote TrailingComma e = comma (same TRAILING_COMMA.now what e)
of_no_kind what mark utf_16 zero utf_8 escape control comment comma quote SingleQuote e = quote (same SINGLE_QUOTE.now what e)
of_no_kind what mark utf_16 zero utf_8 escape control comment comma quote Other e = none_some what None refl e

-- two texts with other bytes at a place
apart : (one other : List ℕ) (at m n : ℕ) → m ≢ n → byte_at one at ≡ m → byte_at other at ≡ n → one ≢ other
apart one other at m n differ here there e = differ (sym here ∙ ap (λ (text : List ℕ). byte_at text at) e ∙ there)

pub not_json_of_no_kind : IsOfNoKind NOT_JSON.now
not_json_of_no_kind =
    of_no_kind NOT_JSON.now
    (apart NOT_JSON.now BYTE_ORDER_MARK.now 0 116 97 (omega arith) refl refl)
    (apart NOT_JSON.now UTF_16.now 12 110 105 (omega arith) refl refl)
    (apart NOT_JSON.now ZERO_BYTES.now 12 110 105 (omega arith) refl refl)
    (apart NOT_JSON.now NOT_UTF8.now 0 116 97 (omega arith) refl refl)
    (apart NOT_JSON.now ESCAPE.now 0 116 110 (omega arith) refl refl)
    (apart NOT_JSON.now CONTROL.now 0 116 97 (omega arith) refl refl)
    (apart NOT_JSON.now COMMENT.now 0 116 97 (omega arith) refl refl)
    (apart NOT_JSON.now TRAILING_COMMA.now 0 116 97 (omega arith) refl refl)
    (apart NOT_JSON.now SINGLE_QUOTE.now 0 116 115 (omega arith) refl refl)
