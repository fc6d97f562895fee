-- Promise: What is wrong at a place of a text that is not JSON, told from the bytes there.
use Rattle.std.specs.Prelude.{◌≡◌, ◌⊎◌, ◌≤◌, ◌<◌, ℕ, ◌-◌, ◌==◌, ◌&&◌, ◌||◌, ◌++◌, Bool, true, false, not, nat_le, nat_lt, if◌then◌else◌, List, length, take, drop, fold, slice_range, Option, Some, None, is_some}
use Rattle.std.specs.List.{list_all}
use Rattle.std.specs.Str.{is_utf8}
use Rattle.std.specs.Str.Lossy.{utf8_valid_len}
use Rattle.cacao_json.specs.Reading.{reading}
use Rattle.cacao_view_faults.specs.Closing.{IsDead, is_begun, standing_behind}
use Rattle.cacao_view_faults.specs.Stands.{byte_at, is_space}
use Rattle.cacao_view_faults.specs.declared.kinds.Kind.{Kind}
use Rattle.cacao_view_faults.specs.declared.kinds.Kind.TheVariants.{ByteOrderMark, Utf16, ZeroBytes, NotUtf8, Ends, Escape, Control, Comment, TrailingComma, SingleQuote, Other}
use Rattle.cacao_view_faults.specs.declared.kinds.TheConstants.{BYTE_ORDER_MARK, UTF_16, ZERO_BYTES, NOT_UTF8, ESCAPE, CONTROL, COMMENT, TRAILING_COMMA, SINGLE_QUOTE}

abbrev pub mark_with : ℕ → ℕ → ℕ
mark_with last byte = if is_space byte then last else byte

-- the last byte before a place that is no white space; 0 where there is none
abbrev pub mark_before : List ℕ → ℕ → ℕ
mark_before text at = fold mark_with 0 (take at text)

-- a file that begins with a mark of its encoding
abbrev pub has_byte_order_mark : List ℕ → Bool
has_byte_order_mark text = (byte_at text 0 == 239) && (byte_at text 1 == 187) && (byte_at text 2 == 191)

abbrev pub is_utf16 : List ℕ → Bool
is_utf16 text = ((byte_at text 0 == 254) && (byte_at text 1 == 255)) || ((byte_at text 0 == 255) && (byte_at text 1 == 254))

-- the greatest end first, or the least, which begins as a mark of UTF-16 does
abbrev pub is_utf32 : List ℕ → Bool
is_utf32 text =
    nat_le 4 (length text)
    && (((byte_at text 0 == 0) && (byte_at text 1 == 0) && (byte_at text 2 == 254) && (byte_at text 3 == 255))
    || ((byte_at text 0 == 255) && (byte_at text 1 == 254) && (byte_at text 2 == 0) && (byte_at text 3 == 0)))

-- one that begins with two characters of ASCII in two bytes, or with one in four (RFC 4627, section 3)
abbrev pub has_zero_bytes : List ℕ → Bool
has_zero_bytes text =
    nat_le 4 (length text)
    && (((byte_at text 0 == 0) && (byte_at text 2 == 0)) || ((byte_at text 1 == 0) && (byte_at text 3 == 0)))

-- a mark at a place, by the byte there and the marks before it
abbrev pub mark_at : ℕ → ℕ → ℕ → Kind
mark_at byte before mark =
    if nat_lt byte 32 then Control else
    (if before == 92 then Escape else
    (if (byte == 47) || (byte == 35) then Comment else
    (if ((byte == 93) || (byte == 125)) && (mark == 44) then TrailingComma else
    (if byte == 39 then SingleQuote else Other))))

abbrev pub byte_before : List ℕ → ℕ → ℕ
byte_before text at = if at == 0 then 0 else byte_at text (at - 1)

-- the bytes begin with no character of UTF-8
abbrev pub has_no_character : List ℕ → Bool
has_no_character text = not (is_utf8 text) && (utf8_valid_len text == 0)

abbrev pub is_no_character : List ℕ → ℕ → Bool
is_no_character text at = has_no_character (drop at text)

abbrev pub kind_at : List ℕ → ℕ → Kind
kind_at text at =
    if has_byte_order_mark text then ByteOrderMark else
    (if is_utf32 text || has_zero_bytes text then ZeroBytes else
    (if is_utf16 text then Utf16 else
    (if nat_le (length text) at then Ends else
    (if is_no_character text at then NotUtf8 else mark_at (byte_at text at) (byte_before text at) (mark_before text at)))))

-- what is said of a kind, where that is one text
abbrev pub words_of : Kind → Option (List ℕ)
words_of ByteOrderMark = Some BYTE_ORDER_MARK.now
words_of Utf16 = Some UTF_16.now
words_of ZeroBytes = Some ZERO_BYTES.now
words_of NotUtf8 = Some NOT_UTF8.now
words_of Ends = None
words_of Escape = Some ESCAPE.now
words_of Control = Some CONTROL.now
words_of Comment = Some COMMENT.now
words_of TrailingComma = Some TRAILING_COMMA.now
words_of SingleQuote = Some SINGLE_QUOTE.now
words_of Other = None

-- no kind has these words
abbrev pub IsOfNoKind : List ℕ → Type 0
IsOfNoKind what = (kind : Kind) → ¬ (words_of kind ≡ Some what)

-- the words are those of this kind, if it has words; else those of no kind
abbrev pub AreWords : Option (List ℕ) → List ℕ → Type 0
AreWords None what = IsOfNoKind what
AreWords (Some words) what = what ≡ words

-- The bytes before a place are good: with some others behind them they are JSON text (RFC 8259).
pub record IsBegun (text : List ℕ) (at : ℕ) : Type 0 where
  pub more : List ℕ
  pub is : is_some (reading (take at text ++ more)) ≡ true

-- a byte of a word or a number: no white space, no quotation mark, comma or colon, and no bracket
abbrev pub is_of_word : ℕ → Bool
is_of_word byte =
    not (is_space byte || (byte == 34) || (byte == 44) || (byte == 58) || (byte == 91) || (byte == 93) || (byte == 123) || (byte == 125))

-- bytes of a string, from its quotation mark on, which do not go past its end
abbrev pub is_of_string : List ℕ → Bool
is_of_string bytes = (byte_at bytes 0 == 34) && (standing_behind (take (length bytes - 1) bytes)).in_string

-- a whole word with the byte behind it, or one byte that is of no word; where the text ends, the word may end with it
abbrev pub is_word_piece : List ℕ → Bool → Bool
is_word_piece bytes ends =
    list_all is_of_word (take (length bytes - 1) bytes) && (ends || not (is_of_word (byte_at bytes (length bytes - 1))))

-- a whole string, with both its quotation marks; where the text ends, it may end with it
abbrev pub is_string_piece : List ℕ → Bool → Bool
is_string_piece bytes ends = is_of_string bytes && (ends || not (standing_behind bytes).in_string)

-- what begins at a place, whole: a word and the byte behind it, a string, or one other byte
abbrev pub is_piece : List ℕ → Bool → Bool
is_piece bytes ends = is_word_piece bytes ends || is_string_piece bytes ends

-- With the piece that begins at this place the text is not found to be begun any longer; where the piece ends with the text, not with what may be
-- left of it either.
pub record Stops (text : List ℕ) (at : ℕ) : Type 0 where
  pub end : ℕ
  pub after : at < end
  pub before : end ≤ length text
  pub piece : is_piece (slice_range text at end) (end == length text) ≡ true
  pub is : is_begun (take end text) ≡ false
  pub uncut : end ≡ length text → IsDead text

-- What is wrong in a text that is not JSON, at a place of it: all before it is good, the text ends there or what begins there does not go on with
-- it, and the words are those of what stands there.
pub record IsFaultAt (text : List ℕ) (at : ℕ) (what : List ℕ) : Type 0 where
  pub within : at ≤ length text
  pub begun : IsBegun text at
  pub stops : (at ≡ length text) ⊎ Stops text at
  pub words : AreWords (words_of (kind_at text at)) what
