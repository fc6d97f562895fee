-- The name that an argument means is a name.
use Rattle.std.proofs.Common.{◌≡◌, ◌≢◌, inl, inr, ℕ, suc, ◌+◌, false, List, [], ◌∷◌, ◌++◌, take, not, cond, ◌==◌, Option, Some, None, refl, sym, ◌∙◌, ap, subst, arith, codes}
use Rattle.std.specs.List.{before_first, prefix_len}
use Rattle.std.specs.Prelude.{IsSomeAnd, unwrap_or}
use Rattle.cacao_vars.specs.Names.{IsName}
use Rattle.cacao_book_shape.specs.Shape.{IsArgument}
use Rattle.cacao_book_shape.proofs.ArgumentLemmas.{HasNoColon, name_has_no_colon}
use Rattle.cacao_book.specs.Books.{argument}

not_colon : (c : ℕ) → c ≢ 58 → (c == 58) ≡ false
not_colon c h = grind arith

one_more : (n : ℕ) → 1 + n ≡ suc n
one_more n = omega arith

before_none : (xs : List ℕ) → HasNoColon xs → before_first (λ c. c == 58) xs ≡ xs
before_none [] h = refl
before_none (x ∷ xs) h =
    ap (λ b. take (cond (not b) (1 + prefix_len (λ c. not (c == 58)) xs) 0) (x ∷ xs)) (not_colon x h.0)
    ∙ ap (λ k. take k (x ∷ xs)) (one_more (prefix_len (λ c. not (c == 58)) xs)) ∙ ap (λ l. x ∷ l) (before_none xs h.1)

before_here : (xs us : List ℕ) → HasNoColon xs → before_first (λ c. c == 58) (xs ++ 58 ∷ us) ≡ xs
before_here [] us h = refl
before_here (x ∷ xs) us h =
    ap (λ b. take (cond (not b) (1 + prefix_len (λ c. not (c == 58)) (xs ++ 58 ∷ us)) 0) (x ∷ (xs ++ 58 ∷ us))) (not_colon x h.0)
    ∙ ap (λ k. take k (x ∷ (xs ++ 58 ∷ us))) (one_more (prefix_len (λ c. not (c == 58)) (xs ++ 58 ∷ us))) ∙ ap (λ l. x ∷ l) (before_here xs us h.1)

-- it is a name
pub IsName-argument : (text : List ℕ) → IsArgument text → IsName (argument text)
IsName-argument text a = elim a.2 [
  | inl same ↦ subst IsName (sym (ap argument same ∙ before_none a.0 (name_has_no_colon a.0 a.1))) a.1
  | inr same ↦ subst IsName (sym (ap argument same ∙ before_here a.0 (codes "value") (name_has_no_colon a.0 a.1))) a.1
]

-- what fits a text fits it also where an empty one would stand in its place
pub text_fits : (P : List ℕ → Type 0) (o : Option (List ℕ)) → IsSomeAnd o P → P (unwrap_or o [])
text_fits P None h = absurd h
text_fits P (Some text) h = h
