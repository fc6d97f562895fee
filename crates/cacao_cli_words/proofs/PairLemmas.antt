-- Words two by two: numbers, each with a name behind it.
use Rattle.std.proofs.Common.{◌≡◌, ◌∙◌, ◌==◌, ◌&&◌, ◌||◌, ◌-◌, ◌≤◌, ◌<◌, ℕ, refl, sym, ap, arith, Bool, true, false, not, Bor, List, [], ◌∷◌, ◌++◌, length, map, take, drop, get_or, Option, Some, None}
use Rattle.std.specs.Prelude.{option_map, option_and_then}
use Rattle.std.specs.List.{list_any}
use Rattle.std.proofs.lemmas.Bool.{true≢false}
use Rattle.std.proofs.lemmas.List.{take_rest, append-nil}
use Rattle.cacao_cli_words.specs.Requests.{agent_number, audits, are_apart, audit_asks, has_number, if_apart, pairs_of}
use Rattle.cacao_cli_words.specs.Words.{Text}

abbrev pub texts : List (Bor Text) → List Text
texts names = map (λ (name : Bor Text). name.now) names

module _ {A : Type 0} (pair : A → ℕ × Text) where
  has-map : (n : ℕ) (list : List A) → has_number n (map pair list) ≡ list_any (λ (one : A). (pair one).0 == n) list
  has-map n [] = refl
  has-map n (one ∷ list) = ap (λ (b : Bool). ((pair one).0 == n) || b) (has-map n list)

  -- whether no number stands twice, by the first and those behind it
  pub apart-step : (list : List A) (first d : A) → 1 ≤ length list → first ≡ get_or list 0 d → (b : Bool) → b ≡ list_any (λ (one : A). (pair one).0 == (pair first).0) (take (length list - 1) (drop 1 list))
      → are_apart (map pair list) ≡ (not b && are_apart (map pair (take (length list - 1) (drop 1 list))))
  apart-step [] first d le is b e = absurd (omega (arith, le))
  apart-step (one ∷ list) first d le is b e =
      let tail : take (length (one ∷ list) - 1) (drop 1 (one ∷ list)) ≡ list = take_rest (one ∷ list) 1 in
      let any : has_number (pair one).0 (map pair list) ≡ b = has-map (pair one).0 list
      ∙ ap (λ (l : List A). list_any (λ (f : A). (pair f).0 == (pair one).0) l) (sym tail)
      ∙ ap (λ (g : A). list_any (λ (f : A). (pair f).0 == (pair g).0) (take (length (one ∷ list) - 1) (drop 1 (one ∷ list)))) (sym is) ∙ sym e in
      ap (λ (h : Bool). not h && are_apart (map pair list)) any ∙ ap (λ (l : List A). not b && are_apart (map pair l)) (sym tail)

  module _ (read : Text → Option ℕ) where
    -- no word is left
    pub pairs-end : (list : List A) (names rest : List (Bor Text)) → pairs_of read (texts names) ≡ option_map (λ (more : List (ℕ × Text)). map pair list ++ more) (pairs_of read (texts rest)) → length rest < 2 → (length rest == 0) ≡ true
        → Some (map pair list) ≡ pairs_of read (texts names)
    pairs-end list names [] h lt e = sym (h ∙ ap Some (append-nil (map pair list)))
    pairs-end list names (name ∷ []) h lt e = absurd (true≢false (sym e))
    pairs-end list names (name ∷ other ∷ rest) h lt e = absurd (omega (arith, lt))

    -- one word is left
    pub pairs-odd : (list : List A) (names rest : List (Bor Text)) → pairs_of read (texts names) ≡ option_map (λ (more : List (ℕ × Text)). map pair list ++ more) (pairs_of read (texts rest)) → length rest < 2 → (length rest == 0) ≡ false
        → None ≡ pairs_of read (texts names)
    pairs-odd list names [] h lt e = absurd (true≢false e)
    pairs-odd list names (name ∷ []) h lt e = sym h
    pairs-odd list names (name ∷ other ∷ rest) h lt e = absurd (omega (arith, lt))

pub asks-first : (names : List (Bor Text)) (d : Bor Text) → 1 ≤ length names
    → option_map (audits (get_or names 0 d).now) (option_and_then if_apart (pairs_of agent_number (texts (take (length names - 1) (drop 1 names))))) ≡ audit_asks (texts names)
asks-first [] d le = absurd (omega (arith, le))
asks-first (name ∷ names) d le = ap (λ (l : List (Bor Text)). option_map (audits name.now) (option_and_then if_apart (pairs_of agent_number (texts l)))) (take_rest (name ∷ names) 1)
