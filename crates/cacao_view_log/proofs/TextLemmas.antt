-- Texts, and bytes that are none, as data.
use Rattle.std.proofs.Common.{◌≡◌, ◌∙◌, refl, ℕ, Bool, true, false, cond, List, Result, Ok, Err}
use Rattle.std.specs.Prelude.{IfOk}
use Rattle.std.specs.Str.{IsUtf8, is_utf8}
use Rattle.std.proofs.lemmas.Bool.{false_from_ne_true}
use Rattle.std.proofs.lemmas.Str.{IsUtf8-from_is_utf8, is_utf8-from_IsUtf8}
use Rattle.serde_json.specs.Data.{string}
use Rattle.cacao_json.specs.Tree.{data_of}
use Rattle.cacao_json.specs.declared.tree.Tree.{Tree}
use Rattle.cacao_view_log.specs.Objects.{bytes_data, text_data}

yes : (bytes : List ℕ) (b : Bool) → b ≡ true → string bytes ≡ cond b (string bytes) (bytes_data bytes)
yes bytes true e = refl
yes bytes false e = absurd (cc)

no_text : (bytes : List ℕ) (b : Bool) → b ≡ false → bytes_data bytes ≡ cond b (string bytes) (bytes_data bytes)
no_text bytes false e = refl
no_text bytes true e = absurd (cc)

-- the tree of a text
pub of_text : {E : Type 0} (bytes text : List ℕ) (r : Result Tree E) → (text ≡ bytes) × IsUtf8 bytes → IfOk r (λ t. data_of t ≡ string text) → IfOk r (λ t. data_of t ≡ text_data bytes)
of_text bytes text (Ok t) h is = is ∙ same text bytes h.0 ∙ yes bytes (is_utf8 bytes) (is_utf8-from_IsUtf8 bytes h.1)
  where
    same : (a b : List ℕ) → a ≡ b → string a ≡ string b
    same a b e = cc
of_text bytes text (Err error) h is = tt

-- the tree of other bytes
pub of_bytes : {E : Type 0} (bytes : List ℕ) (r : Result Tree E) → ¬ (IsUtf8 bytes) → IfOk r (λ t. data_of t ≡ bytes_data bytes) → IfOk r (λ t. data_of t ≡ text_data bytes)
of_bytes bytes (Ok t) h is = is ∙ no_text bytes (is_utf8 bytes) (false_from_ne_true (is_utf8 bytes) (λ e. h (IsUtf8-from_is_utf8 bytes e)))
of_bytes bytes (Err error) h is = tt
