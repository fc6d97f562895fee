-- A name holds no colon, so an argument is a name, or a name, a colon and `value`.
use Rattle.std.proofs.Common.{◌≡◌, ◌≢◌, ◌↔◌, inl, inr, ℕ, ◌+◌, ◌<◌, Bool, true, false, ◌&&◌, List, [], ◌∷◌, ◌++◌, length, get_or, refl, sym, ◌∙◌, ap, subst, codes}
use Rattle.std.specs.List.{AllByRecursion, list_all}
use Rattle.std.proofs.lemmas.List.Elements.{recursion_from_All, All-from_get_or}
use Rattle.std.proofs.lemmas.List.Folds.{list_all-append}
use Rattle.cacao_vars.specs.Names.{IsName, is_name_character, underscores}
use Rattle.cacao_book_shape.specs.Shape.{IsArgument}

abbrev pub HasNoColon : List ℕ → Type 0
HasNoColon = AllByRecursion (λ c. c ≢ 58)

from_places : (text : List ℕ) → ((i : ℕ) → i < length text → get_or text i 0 ≢ 58) → HasNoColon text
from_places text h = recursion_from_All (λ c. c ≢ 58) text (All-from_get_or (λ c. c ≢ 58) text 0 h)

both : (a b : Bool) → (a && b) ≡ true → (a ≡ true) × (b ≡ true)
both true b e = (refl, e)
both false b e = absurd cc

colon_passes : is_name_character 58 ≡ true → ⊥
colon_passes e = cc

passed : (name : List ℕ) → list_all is_name_character name ≡ true → HasNoColon name
passed [] e = tt
passed (c ∷ cs) e = let h = both (is_name_character c) (list_all is_name_character cs) e in ((λ colon. colon_passes (subst (λ x. is_name_character x ≡ true) colon h.0)), passed cs h.1)

name_characters : (name : List ℕ) (n : IsName name) → list_all is_name_character name ≡ true
name_characters name n =
    ap (list_all is_name_character) n.spelled ∙ list_all-append is_name_character (underscores ++ n.middle) underscores
    ∙ ap (λ b. b && true) (list_all-append is_name_character underscores n.middle ∙ n.characters)

pub name_has_no_colon : (name : List ℕ) → IsName name → HasNoColon name
name_has_no_colon name n = passed name (name_characters name n)

not_joined : (xs us : List ℕ) → HasNoColon (xs ++ 58 ∷ us) → ⊥
not_joined [] us h = h.0 refl
not_joined (x ∷ xs) us h = not_joined xs us h.1

parts_agree : (xs ys us vs : List ℕ) → HasNoColon xs → HasNoColon ys → xs ++ 58 ∷ us ≡ ys ++ 58 ∷ vs → (xs ≡ ys) × (us ≡ vs)
parts_agree [] [] us vs h k e = (refl, cc)
parts_agree [] (y ∷ ys) us vs h k e = absurd (k.0 cc)
parts_agree (x ∷ xs) [] us vs h k e = absurd (h.0 cc)
parts_agree (x ∷ xs) (y ∷ ys) us vs h k e = let r = parts_agree xs ys us vs h.1 k.1 cc in let heads : x ≡ y = cc in ((rw (heads, r.0) refl), r.1)

-- an argument with no colon is a name
pub argument_alone : (text : List ℕ) → ((i : ℕ) → i < length text → get_or text i 0 ≢ 58) → IsArgument text ↔ IsName text
argument_alone text h = (to, λ n. (text, n, inl refl))
  where
    to : IsArgument text → IsName text
    to a = elim a.2 [ inl e ↦ subst IsName (sym e) a.1 | inr e ↦ absurd (not_joined a.0 (codes "value") (subst HasNoColon e (from_places text h))) ]

-- one with a colon is a name before it and `value` behind it
pub argument_parts : (text name rest : List ℕ) → (text ≡ name ++ 58 ∷ rest) → ((i : ℕ) → i < length name → get_or name i 0 ≢ 58) → IsArgument text ↔ (IsName name × (rest ≡ codes "value"))
argument_parts text name rest e h = (to, λ n. (name, n.0, inr (e ∙ ap (λ l. name ++ 58 ∷ l) n.1)))
  where
    to : IsArgument text → IsName name × (rest ≡ codes "value")
    to a = elim a.2 [
      | inl same ↦ absurd (not_joined name rest (subst HasNoColon (sym same ∙ e) (name_has_no_colon a.0 a.1)))
      | inr same ↦ let r = parts_agree name a.0 rest (codes "value") (from_places name h) (name_has_no_colon a.0 a.1) (sym e ∙ same) in (subst IsName (sym r.0) a.1, r.1)
    ]
