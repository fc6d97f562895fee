-- Texts have one refusal at most.
use Rattle.std.proofs.Common.{◌≡◌, ◌∙◌, inl, inr, refl, sym, ap, ap₂, subst, arith, ℕ, ◌<◌, List, [], ◌∷◌, map, length, Option, Some, None}
use Rattle.std.specs.Prelude.{option_and_then, slice_get}
use Rattle.std.proofs.lemmas.Bool.{cases_order}
use Rattle.std.proofs.lemmas.Option.{same_Some}
use Rattle.serde_json.specs.Data.{Data}
use Rattle.cacao_book.specs.Books.{book}
use Rattle.cacao_book_shape.specs.Least.{Before}
use Rattle.cacao_book_shape.specs.Refusals.{key_at as key_in}
use Rattle.cacao_book_shape.specs.Shape.{place_rank, shape_number}
use Rattle.cacao_check.specs.Checks.{key_at}
use Rattle.cacao_check.specs.Fits.{FitsKind}
use Rattle.cacao_check.specs.FirstBreak.{Demand, IsFirstBreak, Keeps, book_of, of_sense, of_shape, rank, rule_of, step_of}
use Rattle.cacao_check.specs.Sense.{sense_number}
use Rattle.cacao_check.specs.declared.breaks.Break.{Break}
use Rattle.cacao_check.specs.declared.breaks.Mode.{Mode}
use Rattle.cacao_check.specs.declared.breaks.Mode.TheVariants.{Run}
use Rattle.flow_core_rules.specs.Accepted.{Accepted, first_variables}
use Rattle.flow_core_rules.specs.Bindings.{BindRule, KeepsBind, bind_number}
use Rattle.flow_core_rules.specs.Givens.{Given}
use Rattle.flow_core_rules.proofs.RunLemmas.{list_heads}
use Rattle.flow_core_setup.specs.Setups.{AreAccepted}
use Rattle.flow_core_setup.specs.SetupReading.{AreTreesOf, BreaksBindRule, BreaksRule, IsLeastBindBreak}
use Rattle.flow_core_setup.specs.declared.setup_errors.SetupError.TheVariants as setup_error
use Rattle.flow_core.proofs.BeginLemmas.{not_accepted}

-- ---- of two lists of numbers, as long as one another, one comes before the other, or they are equal

same_rank : (xs ys : List ℕ) → length xs ≡ length ys → (Before xs ys → ⊥) → (Before ys xs → ⊥) → xs ≡ ys
same_rank [] [] many first last = refl
same_rank [] (y ∷ ys) many first last = absurd (omega (arith, many))
same_rank (x ∷ xs) [] many first last = absurd (omega (arith, many))
same_rank (x ∷ xs) (y ∷ ys) many first last =
    elim (cases_order x y) [
      | inl e ↦
          ap₂ (λ (n : ℕ) (ns : List ℕ). n ∷ ns) e
          (same_rank xs ys (omega (arith, many)) (λ before. first (inr (e, before))) (λ before. last (inr (sym e, before))))
      | inr apart ↦ elim apart [ inl less ↦ absurd (first (inl less)) | inr more ↦ absurd (last (inl more)) ]
    ]

-- ---- one break

abbrev Four : (a b c d p q r s : ℕ) → Type 0
Four a b c d p q r s = (a ≡ p) × (b ≡ q) × (c ≡ r) × (d ≡ s)

four : (a b c d p q r s : ℕ) → a ∷ b ∷ c ∷ d ∷ [] ≡ p ∷ q ∷ r ∷ s ∷ [] → Four a b c d p q r s
four a b c d p q r s e = (cc, cc, cc, cc)

same_place : (o p : Option ℕ) → place_rank o ≡ place_rank p → o ≡ p
same_place None None e = refl
same_place None (Some p) e = absurd (omega (arith, e))
same_place (Some o) None e = absurd (omega (arith, e))
same_place (Some o) (Some p) e = let same : o ≡ p = omega (arith, e) in ap (λ (n : ℕ). Some n) same

-- what is told of a demand
abbrev IsTold : List Data → Break → Demand → Type 0
IsTold trees told demand = (told.book ≡ book_of demand) × (told.step ≡ step_of trees demand) × (told.rule ≡ rule_of demand)

abbrev AsBreak : ℕ → Option (List ℕ) → ℕ → Break
AsBreak n key k = record { book = n; step = key; rule = k }

as_break : (x y : ℕ) (s t : Option (List ℕ)) (r q : ℕ) → x ≡ y → s ≡ t → r ≡ q → AsBreak x s r ≡ AsBreak y t q
as_break x y s t r q e f g = cc

same_break : (one other : Break) → one.book ≡ other.book → one.step ≡ other.step → one.rule ≡ other.rule → one ≡ other
same_break one other e f g = as_break one.book other.book one.step other.step one.rule other.rule e f g

same_told : (trees : List Data) (one other : Break) (d e : Demand) → rank d ≡ rank e → IsTold trees one d → IsTold trees other e → one ≡ other
same_told trees one other (of_shape n d) (of_shape m e) same p q =
    let parts = four 0 n (place_rank d.step) (shape_number d.rule) 0 m (place_rank e.step) (shape_number e.rule) same in
    let step : step_of trees (of_shape n d) ≡ step_of trees (of_shape m e) =
    ap₂ (λ (k : ℕ) (place : Option ℕ). option_and_then (λ t. key_in t place) (slice_get trees k)) parts.1 (same_place d.step e.step parts.2) in
    same_break one other (p.0 ∙ parts.1 ∙ sym q.0) (p.1 ∙ step ∙ sym q.1) (p.2 ∙ parts.3 ∙ sym q.2)
same_told trees one other (of_shape n d) (of_sense e) same p q =
    absurd (let parts = four 0 n (place_rank d.step) (shape_number d.rule) 1 e.book (place_rank e.step) (sense_number e.rule) same in omega (arith, parts.0))
same_told trees one other (of_sense d) (of_shape m e) same p q =
    absurd (let parts = four 1 d.book (place_rank d.step) (sense_number d.rule) 0 m (place_rank e.step) (shape_number e.rule) same in omega (arith, parts.0))
same_told trees one other (of_sense d) (of_sense e) same p q =
    let parts = four 1 d.book (place_rank d.step) (sense_number d.rule) 1 e.book (place_rank e.step) (sense_number e.rule) same in
    let step : step_of trees (of_sense d) ≡ step_of trees (of_sense e) =
    ap₂ (λ (k : ℕ) (place : Option ℕ). key_at (map book trees) k place) parts.1 (same_place d.step e.step parts.2) in
    same_break one other (p.0 ∙ parts.1 ∙ sym q.0) (p.1 ∙ step ∙ sym q.1) (p.2 ∙ parts.3 ∙ sym q.2)

four_long : (d : Demand) → length (rank d) ≡ 4
four_long (of_shape n d) = refl
four_long (of_sense d) = refl

one_break : (trees : List Data) (mode : Mode) (one other : Break) → IsFirstBreak trees mode one → IsFirstBreak trees mode other → one ≡ other
one_break trees mode one other a b =
    let same : rank a.demand ≡ rank b.demand =
    same_rank (rank a.demand) (rank b.demand) (four_long a.demand ∙ sym (four_long b.demand))
    (λ before. a.least.is_broken (b.least.earlier a.demand before)) (λ before. b.least.is_broken (a.least.earlier b.demand before)) in
    same_told trees one other a.demand b.demand same (a.book, a.step, a.rule) (b.book, b.step, b.rule)

-- ---- of texts

each_same : (xs ys : List Data) → map (λ (t : Data). Some t) xs ≡ map (λ (t : Data). Some t) ys → xs ≡ ys
each_same [] [] e = refl
each_same [] (y ∷ ys) e = absurd (cc)
each_same (x ∷ xs) [] e = absurd (cc)
each_same (x ∷ xs) (y ∷ ys) e =
    let parts = list_heads (Some x) (Some y) (map (λ (t : Data). Some t) xs) (map (λ (t : Data). Some t) ys) e in
    ap₂ (λ (t : Data) (ts : List Data). t ∷ ts) (same_Some x y parts.0) (each_same xs ys parts.1)

one_trees : (texts : List (List ℕ)) (xs ys : List Data) → AreTreesOf texts xs → AreTreesOf texts ys → xs ≡ ys
one_trees texts xs ys p q = each_same xs ys (sym p ∙ q)

pub breaks_one : (texts : List (List ℕ)) (bind : List ℕ) (one other : Break) → BreaksRule texts bind one → BreaksRule texts bind other → one ≡ other
breaks_one texts bind one other a b =
    let same : a.trees ≡ b.trees = one_trees texts a.trees b.trees a.trees_are b.trees_are in
    one_break b.trees Run one other (subst (λ (ts : List Data). IsFirstBreak ts Run one) same a.first) b.first

least_one : (Holds : BindRule → Type 0) (n m : ℕ) (r q : BindRule) → bind_number r ≡ n → bind_number q ≡ m → (Holds r → ⊥) → (Holds q → ⊥)
    → ((other : BindRule) → bind_number other < n → Holds other) → ((other : BindRule) → bind_number other < m → Holds other) → n ≡ m
least_one Holds n m r q r_is q_is r_bad q_bad before_n before_m =
    elim (cases_order n m) [
      | inl same ↦ same
      | inr apart ↦ elim apart [
        | inl less ↦ absurd (r_bad (before_m r (omega (arith, less, r_is))))
        | inr more ↦ absurd (q_bad (before_n q (omega (arith, more, q_is))))
      ]
    ]

pub binds_one : (texts : List (List ℕ)) (bind : List ℕ) (n m : ℕ) → BreaksBindRule texts bind n → BreaksBindRule texts bind m → n ≡ m
binds_one texts bind n m a b =
    let trees : a.trees ≡ b.trees = one_trees texts a.trees b.trees a.trees_are b.trees_are in
    let bindings : a.bindings ≡ b.bindings = same_Some a.bindings b.bindings (sym a.bindings_are ∙ b.bindings_are) in
    let least : IsLeastBindBreak (first_variables b.trees) b.bindings n =
    subst (λ (d : Data). IsLeastBindBreak (first_variables b.trees) d n) bindings
    (subst (λ (ts : List Data). IsLeastBindBreak (first_variables ts) a.bindings n) trees a.least) in
    least_one (KeepsBind FitsKind (first_variables b.trees) b.bindings) n m least.0 (b.least).0 least.1 (b.least).1 least.2 (b.least).2 least.3 (b.least).3

pub no_both : (texts : List (List ℕ)) (bind : List ℕ) (broken : Break) (n : ℕ) → BreaksRule texts bind broken → BreaksBindRule texts bind n → ⊥
no_both texts bind broken n a b =
    let same : a.trees ≡ b.trees = one_trees texts a.trees b.trees a.trees_are b.trees_are in
    a.first.least.is_broken (subst (λ (ts : List Data). Keeps ts Run a.first.demand) (sym same) (b.accepted.1 a.first.demand))

pub no_break : (texts : List (List ℕ)) (bind : List ℕ) (broken : Break) (given : Given) → BreaksRule texts bind broken → Accepted AreAccepted FitsKind texts bind given → ⊥
no_break texts bind broken given h a = not_accepted texts bind (setup_error.Broken broken) h (λ e. cc) given a

pub no_bind : (texts : List (List ℕ)) (bind : List ℕ) (n : ℕ) (given : Given) → BreaksBindRule texts bind n → Accepted AreAccepted FitsKind texts bind given → ⊥
no_bind texts bind n given h a = not_accepted texts bind (setup_error.Bind n) h (λ e. cc) given a
