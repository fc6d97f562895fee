-- URIs, read from the left.
use Rattle.std.proofs.Common.{◌≡◌, ◌↔◌, ℕ, ◌+◌, ◌≤◌, Bool, true, false, List, [], ◌∷◌, ◌++◌, length, take, drop, get_or, ◌-◌, refl, sym, ◌∙◌, ap, arith}
use Rattle.std.specs.Prelude.{◌&&◌, ◌==◌, not}
use Rattle.std.specs.List.{list_all}
use Rattle.std.proofs.lemmas.Bool.{false≢true, and_parts, and_from}
use Rattle.std.proofs.lemmas.List.{take_all}
use Rattle.cacao_check.specs.Fits.{is_letter, is_scheme_character, is_visible, IsUri}
use Rattle.cacao_check.specs.UriTexts.{is_rest, has_rest}

colon_is_none : (c : ℕ) → is_scheme_character c ≡ true → (c == 58) ≡ false
colon_is_none c h = by_cases (c == 58) refl
  where
    by_cases : (b : Bool) → (c == 58) ≡ b → (c == 58) ≡ false
    by_cases false e = e
    by_cases true e = absurd (false≢true (sym (ap is_scheme_character (let same : c ≡ 58 = grind arith in same)) ∙ h))

-- a scheme, a colon, and what follows it
behind : (scheme rest : List ℕ) → list_all is_scheme_character scheme ≡ true → is_rest rest ≡ true → has_rest (scheme ++ 58 ∷ rest) ≡ true
behind [] rest s r = r
behind (c ∷ cs) rest s r =
    rw (colon_is_none c (and_parts (is_scheme_character c) (list_all is_scheme_character cs) s).0) (and_from (is_scheme_character c) (has_rest (cs ++ 58 ∷ rest)) (and_parts (is_scheme_character c) (list_all is_scheme_character cs) s).0 (behind cs rest (and_parts (is_scheme_character c) (list_all is_scheme_character cs) s).1 r))

some_rest : (rest : List ℕ) → 1 ≤ length rest → list_all is_visible rest ≡ true → is_rest rest ≡ true
some_rest [] h v = absurd (omega arith)
some_rest (c ∷ cs) h v = and_from (not (length (c ∷ cs) == 0)) (list_all is_visible (c ∷ cs)) (grind arith) v

record Splits (text : List ℕ) : Type 0 where
  scheme : List ℕ
  rest : List ℕ
  scheme_fits : list_all is_scheme_character scheme ≡ true
  rest_fits : is_rest rest ≡ true
  joined : text ≡ scheme ++ 58 ∷ rest

splits-step : (c : ℕ) (cs : List ℕ) (b : Bool) → (c == 58) ≡ b → (has_rest cs ≡ true → Splits cs) → has_rest (c ∷ cs) ≡ true → Splits (c ∷ cs)
splits-step c cs true h later e = record { scheme = []; rest = cs; scheme_fits = refl; rest_fits = rw h at e; joined = ap (λ x. x ∷ cs) (let same : c ≡ 58 = grind arith in same) }
splits-step c cs false h later e =
    let more : (is_scheme_character c && has_rest cs) ≡ true = rw h at e in
    let r : Splits cs = later (and_parts (is_scheme_character c) (has_rest cs) more).1 in
    record {
      scheme = c ∷ r.scheme;
      rest = r.rest;
      scheme_fits = and_from (is_scheme_character c) (list_all is_scheme_character r.scheme) (and_parts (is_scheme_character c) (has_rest cs) more).0 r.scheme_fits;
      rest_fits = r.rest_fits;
      joined = ap (λ x. c ∷ x) r.joined;
    }

splits : (text : List ℕ) → has_rest text ≡ true → Splits text
splits [] e = absurd (false≢true e)
splits (c ∷ cs) e = splits-step c cs (c == 58) refl (λ h. splits cs h) e

rest_has_some : (rest : List ℕ) → is_rest rest ≡ true → 1 ≤ length rest
rest_has_some [] e = absurd (false≢true e)
rest_has_some (c ∷ cs) e = omega arith

pub uri_iff : (letter : ℕ) (text : List ℕ) → (is_letter letter && has_rest text) ≡ true ↔ IsUri (letter ∷ text)
uri_iff letter text = (
  λ e. let r : Splits text = splits text (and_parts (is_letter letter) (has_rest text) e).1 in
      record {
        letter = letter;
        scheme = r.scheme;
        rest = r.rest;
        letter_fits = (and_parts (is_letter letter) (has_rest text) e).0;
        scheme_fits = r.scheme_fits;
        some_rest = rest_has_some r.rest r.rest_fits;
        rest_fits = (and_parts (not (length r.rest == 0)) (list_all is_visible r.rest) r.rest_fits).1;
        joined = ap (λ x. letter ∷ x) r.joined;
      },
  λ u. let head : letter ≡ u.letter = (let e = u.joined in cc) in
      let tail : text ≡ u.scheme ++ 58 ∷ u.rest = (let e = u.joined in cc) in
      and_from (is_letter letter) (has_rest text) (ap is_letter head ∙ u.letter_fits) (ap has_rest tail ∙ behind u.scheme u.rest u.scheme_fits (some_rest u.rest u.some_rest u.rest_fits)),
)

-- the first letter, and what stands behind it
pub uri_then : (text : List ℕ) (r : Bool) → 1 ≤ length text → r ≡ has_rest (take (length text - 1) (drop 1 text)) → is_letter (get_or text 0 0) ≡ true → r ≡ true ↔ IsUri text
uri_then [] r some e letter = absurd (omega arith)
uri_then (c ∷ cs) r some e' letter =
    let e : r ≡ has_rest cs = e' ∙ ap has_rest (take_all (length (c ∷ cs) - 1) cs (omega arith)) in
    let iff : (is_letter c && has_rest cs) ≡ true ↔ IsUri (c ∷ cs) = uri_iff c cs in
    (λ h. iff.0 (and_from (is_letter c) (has_rest cs) letter (sym e ∙ h)), λ u. e ∙ (and_parts (is_letter c) (has_rest cs) (iff.1 u)).1)
