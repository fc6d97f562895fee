-- Names that are added one after another, each once.
use Rattle.std.proofs.Common.{◌≡◌, ◌≢◌, ◌↔◌, ◌⊎◌, inl, inr, ℕ, zero, suc, ◌<◌, Bool, true, false, List, [], ◌∷◌, ◌++◌, length, get_or, Contains, Result, Ok, Err, IfOk, refl, sym, ◌∙◌, subst, arith}
use Rattle.std.specs.List.{list_any}
use Rattle.std.specs.Str.{bytes_eq}
use Rattle.std.proofs.lemmas.Bool.{false≢true}
use Rattle.std.proofs.lemmas.List.Elements.{Contains-append_left, Contains-append_right, Contains-append_cases, Contains-push, Contains-push_cases}
use Rattle.std.proofs.lemmas.List.Folds.{list_any_at}
use Rattle.std.proofs.lemmas.List.Quantifiers.{all_pairs_push}
use Rattle.std.proofs.lemmas.Slice.Eq.{bytes_eq-Decides}
use Rattle.cacao_cond.specs.Trees.{AnyTree}
use Rattle.cacao_cond.specs.Names.{named, with_name, with_names, HasNoTwin, HasNamesOf}

pub with_names_append : (names front back : List (List ℕ)) → with_names (with_names names front) back ≡ with_names names (front ++ back)
with_names_append names [] back = refl
with_names_append names (n ∷ ns) back = with_names_append (with_name names n) ns back

Contains-none : {X : Type 0} (x : X) → Contains [] x → ⊥
Contains-none x c = let lt : c.0 < 0 = c.1 in omega arith

Contains-one : {X : Type 0} (z x : X) → Contains (z ∷ []) x → z ≡ x
Contains-one z x (zero, lt, e) = e
Contains-one z x (suc k, lt, e) = absurd (omega arith)

-- ---- no name twice

-- a name that is not listed differs from each that is
unlisted : (names : List (List ℕ)) (new : List ℕ) → list_any (λ n. bytes_eq n new) names ≡ false → (k : ℕ) (d : List ℕ) → k < length names → get_or names k d ≢ new
unlisted names new h k d lt same =
    absurd (false≢true (sym h ∙ list_any_at (λ n. bytes_eq n new) names k d lt ((bytes_eq-Decides (get_or names k d) new).1 same)))

with_name_once : (names : List (List ℕ)) (new : List ℕ) → HasNoTwin names → HasNoTwin (with_name names new)
with_name_once names new once = by_cases (list_any (λ n. bytes_eq n new) names) refl
  where
    by_cases : (b : Bool) → list_any (λ n. bytes_eq n new) names ≡ b → HasNoTwin (with_name names new)
    by_cases true h = rw h once
    by_cases false h = rw h (all_pairs_push (λ (name later : List ℕ). name ≢ later) names new once (unlisted names new h))

with_names_once : (names more : List (List ℕ)) → HasNoTwin names → HasNoTwin (with_names names more)
with_names_once names [] once = once
with_names_once names (m ∷ ms) once = with_names_once (with_name names m) ms (with_name_once names m once)

-- ---- exactly these names

listed-step : (n : List ℕ) (ns : List (List ℕ)) (name : List ℕ) (b : Bool) → bytes_eq n name ≡ b → (list_any (λ m. bytes_eq m name) ns ≡ true → Contains ns name) → list_any (λ m. bytes_eq m name) (n ∷ ns) ≡ true → Contains (n ∷ ns) name
listed-step n ns name true h later e = Contains-append_left (n ∷ []) ns name (0, omega arith, (bytes_eq-Decides n name).0 h)
listed-step n ns name false h later e = Contains-append_right (n ∷ []) ns name (later (rw h at e))

listed : (names : List (List ℕ)) (name : List ℕ) → list_any (λ n. bytes_eq n name) names ≡ true → Contains names name
listed [] name e = absurd (cc)
listed (n ∷ ns) name e = listed-step n ns name (bytes_eq n name) refl (λ h. listed ns name h) e

with_name_iff : (names : List (List ℕ)) (new x : List ℕ) → Contains (with_name names new) x ↔ (Contains names x ⊎ (new ≡ x))
with_name_iff names new x = by_cases (list_any (λ n. bytes_eq n new) names) refl
  where
    by_cases : (b : Bool) → list_any (λ n. bytes_eq n new) names ≡ b → Contains (with_name names new) x ↔ (Contains names x ⊎ (new ≡ x))
    by_cases true h = rw h (λ c. inl c, λ d. elim d [ inl c ↦ c | inr same ↦ subst (Contains names) same (listed names new h) ])
    by_cases false h = rw h (λ c. Contains-push_cases names new x c, λ d. elim d [ inl c ↦ Contains-append_left names (new ∷ []) x c | inr same ↦ subst (Contains (names ++ new ∷ [])) same (Contains-push names new) ])

with_names_iff : (names more : List (List ℕ)) (x : List ℕ) → Contains (with_names names more) x ↔ (Contains names x ⊎ Contains more x)
with_names_iff names [] x = (λ c. inl c, λ d. elim d [ inl c ↦ c | inr none ↦ absurd (Contains-none x none) ])
with_names_iff names (m ∷ ms) x =
    let r = with_names_iff (with_name names m) ms x in
    let s = with_name_iff names m x in (
      λ c. elim (r.0 c) [
        | inl one ↦ elim (s.0 one) [ inl old ↦ inl old | inr same ↦ inr (Contains-append_left (m ∷ []) ms x (0, omega arith, same)) ]
        | inr later ↦ inr (Contains-append_right (m ∷ []) ms x later)
      ],
      λ d. elim d [
        | inl old ↦ r.1 (inl (s.1 (inl old)))
        | inr new ↦ elim (Contains-append_cases (m ∷ []) ms x new) [ inl one ↦ r.1 (inl (s.1 (inr (Contains-one m x one)))) | inr later ↦ r.1 (inr later) ]
      ],
    )

only_more : (more : List (List ℕ)) (x : List ℕ) → Contains (with_names [] more) x ↔ Contains more x
only_more more x =
    let r = with_names_iff [] more x in
    (λ c. elim (r.0 c) [ inl none ↦ absurd (Contains-none x none) | inr there ↦ there ], λ c. r.1 (inr c))

-- ---- of a condition

no_name : HasNoTwin []
no_name i j d lt below = absurd (omega arith)

-- what the names in order are
pub listed_once : {E : Type 0} (tree : AnyTree) (result : Result (List (List ℕ)) E) → IfOk result (λ names. names ≡ with_names [] (named tree)) → IfOk result HasNoTwin
listed_once tree (Ok names) is = subst HasNoTwin (sym is) (with_names_once [] (named tree) no_name)
listed_once tree (Err e) is = tt

pub listed_exactly : {E : Type 0} (tree : AnyTree) (result : Result (List (List ℕ)) E) → IfOk result (λ names. names ≡ with_names [] (named tree)) → IfOk result (HasNamesOf tree)
listed_exactly tree (Ok names) is = subst (HasNamesOf tree) (sym is) (only_more (named tree))
listed_exactly tree (Err e) is = tt
