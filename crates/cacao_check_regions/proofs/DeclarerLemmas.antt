-- Places under names, one more at a time.
use Rattle.std.proofs.Common.{◌≡◌, ◌↔◌, ◌⊎◌, inl, inr, ℕ, ◌+◌, ◌<◌, Bool, true, false, List, [], ◌∷◌, ◌++◌, length, take, get_or, Contains, IsSome, Some, None, refl, sym, ◌∙◌, ap, subst, arith, slice_get, ◌≤◌}
use Rattle.std.specs.Prelude.{is_some, if◌then◌else◌}
use Rattle.std.specs.Str.{bytes_eq}
use Rattle.std.proofs.lemmas.Bool.{false≢true, cases_lt}
use Rattle.std.proofs.lemmas.List.{take_more}
use Rattle.std.proofs.lemmas.List.Elements.{Contains-push, Contains-push_cases, Contains-append_left}
use Rattle.std.proofs.lemmas.Map.Text.{is_eq-slice_cmp}
use Rattle.std.proofs.lemmas.Slice.Eq.{bytes_eq-Decides}
use Rattle.base_graphs.proofs.MarkLemmas.{Contains-nil}
use Rattle.cacao_vars.specs.declared.declarations.Var.{Var}
use Rattle.cacao_vars.specs.Declarations.{declared}
use Rattle.cacao_book.specs.declared.books.Book.{Book}
use Rattle.cacao_book.specs.declared.steps.Step.{Step}
use Rattle.cacao_check_steps.specs.Links.{declares}
use Rattle.cacao_check_regions.specs.Declarers.{places_under, AreDeclarersOf, Puts, Adds, AddsEach}
use Rattle.cacao_check_regions.proofs.SightLists.{declares_here, some_within}

pub adds_from_puts : (old new : List (List ℕ × List ℕ)) (name : List ℕ) (place : ℕ) → Puts old new name place → Adds old new name place
adds_from_puts old new name place puts other at = by (bytes_eq name other) (bytes_eq-Decides name other) (puts other ∙ ap (λ t. if t then places_under old name ++ place ∷ [] else places_under old other) (is_eq-slice_cmp name other))
  where
    by : (t : Bool) → (t ≡ true ↔ name ≡ other) → places_under new other ≡ (if t then places_under old name ++ place ∷ [] else places_under old other) → Contains (places_under new other) at ↔ (Contains (places_under old other) at ⊎ ((name ≡ other) × (place ≡ at)))
    by true same e = (
      λ c. elim (Contains-push_cases (places_under old name) place at (subst (λ v. Contains v at) e c)) [
        | inl before ↦ inl (subst (λ n. Contains (places_under old n) at) (same.0 refl) before)
        | inr is ↦ inr (same.0 refl, is)
      ],
      λ h. subst (λ v. Contains v at) (sym e) (elim h [
        | inl before ↦ Contains-append_left (places_under old name) (place ∷ []) at (subst (λ n. Contains (places_under old n) at) (sym (same.0 refl)) before)
        | inr is ↦ subst (Contains (places_under old name ++ place ∷ [])) is.1 (Contains-push (places_under old name) place)
      ]),
    )
    by false same e = (
      λ c. inl (subst (λ v. Contains v at) e c),
      λ h. subst (λ v. Contains v at) (sym e) (elim h [ inl before ↦ before | inr is ↦ absurd (false≢true (same.1 is.0)) ]),
    )

declared_more : (vars : List Var) (var : Var) (name : List ℕ) → IsSome (declared (vars ++ var ∷ []) name) ↔ (IsSome (declared vars name) ⊎ (var.name ≡ name))
declared_more [] var name = by (bytes_eq var.name name) (bytes_eq-Decides var.name name)
  where
    by : (t : Bool) → (t ≡ true ↔ var.name ≡ name) → is_some (if t then Some var else None) ≡ true ↔ ((false ≡ true) ⊎ (var.name ≡ name))
    by true same = (λ h. inr (same.0 refl), λ h. refl)
    by false same = (λ h. absurd (false≢true h), λ h. elim h [ inl none ↦ none | inr is ↦ same.1 is ])
declared_more (v ∷ vars) var name = by (bytes_eq v.name name) (declared_more vars var name)
  where
    by : (t : Bool) → (IsSome (declared (vars ++ var ∷ []) name) ↔ (IsSome (declared vars name) ⊎ (var.name ≡ name))) → is_some (if t then Some v else declared (vars ++ var ∷ []) name) ≡ true ↔ ((is_some (if t then Some v else declared vars name) ≡ true) ⊎ (var.name ≡ name))
    by true rest = (λ h. inl refl, λ h. refl)
    by false rest = rest

-- one more name of those that are declared there
pub AddsEach-more : (old before after : List (List ℕ × List ℕ)) (vars : List Var) (n : ℕ) (var : Var) (place : ℕ) → n < length vars → get_or vars n var ≡ var → AddsEach old before (take n vars) place → Adds before after var.name place → AddsEach old after (take (n + 1) vars) place
AddsEach-more old before after vars n var place lt at done more other p =
    subst (λ (v : List Var). Contains (places_under after other) p ↔ (Contains (places_under old other) p ⊎ (IsSome (declared v other) × (place ≡ p)))) (sym (take_more vars n var lt ∙ ap (λ (x : Var). take n vars ++ x ∷ []) at)) (
      λ c. elim ((more other p).0 c) [
        | inl b ↦ elim ((done other p).0 b) [ inl o ↦ inl o | inr d ↦ inr ((declared_more (take n vars) var other).1 (inl d.0), d.1) ]
        | inr d ↦ inr ((declared_more (take n vars) var other).1 (inr d.0), d.1)
      ],
      λ h. (more other p).1 (elim h [
        | inl o ↦ inl ((done other p).1 (inl o))
        | inr d ↦ elim ((declared_more (take n vars) var other).0 d.0) [ inl b ↦ inl ((done other p).1 (inr (b, d.1))) | inr is ↦ inr (is, d.1) ]
      ]),
    )

-- under each name stand the places below n of the steps that declare it
abbrev pub DeclarersBelow : Book → ℕ → List (List ℕ × List ℕ) → Type 0
DeclarersBelow book n entries = (name : List ℕ) (place : ℕ) → Contains (places_under entries name) place ↔ (place < n × IsSome (declares book name place))

pub DeclarersBelow-none : (book : Book) (entries : List (List ℕ × List ℕ)) → entries ≡ [] → DeclarersBelow book 0 entries
DeclarersBelow-none book entries none name place = (
  λ c. absurd (Contains-nil place (subst (λ v. Contains (places_under v name) place) none c)),
  λ h. absurd (let lt : place < 0 = h.0 in omega arith),
)

pub DeclarersBelow-more : (book : Book) (n : ℕ) (step : Step) (old new : List (List ℕ × List ℕ)) → slice_get book.steps n ≡ Some step → DeclarersBelow book n old → AddsEach old new step.variables n → DeclarersBelow book (n + 1) new
DeclarersBelow-more book n step old new at done adds name place = (
  λ c. elim ((adds name place).0 c) [
    | inl o ↦ let d : place < n × IsSome (declares book name place) = (done name place).0 o in (let lt : place < n = d.0 in omega arith, d.1)
    | inr h ↦ (let e : n ≡ place = h.1 in omega arith, subst (λ p. IsSome (declares book name p)) h.1 (ap is_some (declares_here book name n step at) ∙ h.0))
  ],
  λ h. elim (cases_lt place n) [
    | inl below ↦ (adds name place).1 (inl ((done name place).1 (below, h.1)))
    | inr over ↦ let lt : place < n + 1 = h.0 in let e : place ≡ n = omega arith in
        (adds name place).1 (inr (sym (ap is_some (declares_here book name n step at)) ∙ subst (λ p. IsSome (declares book name p)) e h.1, sym e))
  ],
)

pub DeclarersBelow-all : (book : Book) (n : ℕ) (entries : List (List ℕ × List ℕ)) → length book.steps ≤ n → DeclarersBelow book n entries → AreDeclarersOf book entries
DeclarersBelow-all book n entries over done name place = (
  λ c. ((done name place).0 c).1,
  λ h. (done name place).1 (let lt = some_within book name place h in omega arith, h),
)
