-- The first break of trees: from what the readers of each told, and what the check of all told.
use Rattle.std.proofs.Common.{◌≡◌, inl, inr, ◌∙◌, refl, sym, ap, subst, arith, ℕ, ◌+◌, ◌<◌, ◌≤◌, List, length, map, get_or, Option, Some, None, IfSome, option_and_then, slice_get}
use Rattle.std.proofs.lemmas.Bool.{cases_lt}
use Rattle.std.proofs.lemmas.Option.{slice_get_read, slice_get_within}
use Rattle.serde_json.specs.Data.{Data}
use Rattle.cacao_book.specs.declared.books.Book.{Book}
use Rattle.cacao_book.specs.Books.{book}
use Rattle.cacao_book_shape.specs.declared.refusals.BookError.{BookError}
use Rattle.cacao_book_shape.specs.declared.refusals.BookError.TheVariants as book_error
use Rattle.cacao_book_shape.specs.Least.{Before, IsLeastBreak}
use Rattle.cacao_book_shape.specs.Refusals.{RefusesTree, key_at}
use Rattle.cacao_book_shape.specs.Shape.{ShapeDemand, shape_rank, KeepsShape, IsWellShaped}
use Rattle.cacao_check.specs.declared.breaks.Break.{Break}
use Rattle.cacao_check.specs.declared.breaks.CheckError.{CheckError}
use Rattle.cacao_check.specs.declared.breaks.CheckError.TheVariants as check_error
use Rattle.cacao_check.specs.declared.breaks.Mode.{Mode}
use Rattle.cacao_check.specs.Checks.{RefusesBooks}
use Rattle.cacao_check.specs.FirstBreak.{AreShapedBefore, AreWellShaped, BreaksShape, Demand, IsAccepted, IsFirstBreak, Keeps, RefusesShapes, RefusesTrees, of_sense, of_shape, rank, shape_error}
use Rattle.cacao_check.specs.Sense.{IsSound, KeepsSense, SenseDemand, sense_rank}
use Rattle.cacao_check.proofs.LawLemmas.{at_some}

some_if : {X : Type 0} (o : Option X) (P : X → Type 0) → ((x : X) → o ≡ Some x → P x) → IfSome o P
some_if None P h = tt
some_if (Some x) P h = h x refl

same : {X : Type 0} {x y : X} → Some x ≡ Some y → x ≡ y
same e = cc

-- ---- the walk over trees

pub shaped_none : (trees : List Data) → AreShapedBefore trees 0
shaped_none trees k tree lt there = absurd (omega (arith, lt))

pub shaped_more : (trees : List Data) (n : ℕ) (tree : Data) → n < length trees → tree ≡ get_or trees n tree → AreShapedBefore trees n → IsWellShaped tree → AreShapedBefore trees (n + 1)
shaped_more trees n tree lt at done one k other below there = elim (cases_lt k n) [
  | inl before ↦ done k other before there
  | inr past ↦
      let here : k ≡ n = omega (arith, below, past) in
      subst IsWellShaped (same (sym (slice_get_read trees (length trees) n tree refl lt at) ∙ sym (ap (slice_get trees) here) ∙ there)) one
]

pub shaped_all : (trees : List Data) (n : ℕ) → length trees ≤ n → AreShapedBefore trees n → AreWellShaped trees
shaped_all trees n over done k = some_if (slice_get trees k) IsWellShaped (λ tree there. let within : k < length trees = slice_get_within trees k tree there in done k tree (omega (arith, within, over)) there)

pub shape_refused : (trees : List Data) (n : ℕ) (tree : Data) (error : BookError) → n < length trees → tree ≡ get_or trees n tree → AreShapedBefore trees n → RefusesTree tree error → RefusesShapes trees (shape_error n error)
shape_refused trees n tree (book_error.Shape step rule) lt at done refused = record { tree = tree; tree_is = slice_get_read trees (length trees) n tree refl lt at; earlier = done; refused = refused }
shape_refused trees n tree book_error.Memory lt at done refused = tt

-- ---- of shape

shape_earlier : (trees : List Data) (mode : Mode) (n : ℕ) (tree : Data) (demand : ShapeDemand) → slice_get trees n ≡ Some tree → AreShapedBefore trees n → IsLeastBreak shape_rank (KeepsShape tree) demand → (other : Demand)
    → Before (rank other) (rank (of_shape n demand)) → Keeps trees mode other
shape_earlier trees mode n tree demand at done least (of_sense d) b = elim b [ inl lt ↦ absurd (let h : 1 < 0 = lt in omega arith) | inr is ↦ absurd (let h : 1 ≡ 0 = is.0 in omega arith) ]
shape_earlier trees mode n tree demand at done least (of_shape k d) b = elim b [
  | inl lt ↦ absurd (let h : 0 < 0 = lt in omega arith)
  | inr is ↦ elim is.1 [
    | inl lower ↦ some_if (slice_get trees k) (λ u. KeepsShape u d) (λ u there. done k u lower there d)
    | inr here ↦ some_if (slice_get trees k) (λ u. KeepsShape u d) (λ u there. subst (λ v. KeepsShape v d) (same (sym at ∙ ap (slice_get trees) (sym here.0) ∙ there)) (least.earlier d here.1))
  ]
]

shape_first : (trees : List Data) (mode : Mode) (told : Break) → BreaksShape trees told → IsFirstBreak trees mode told
shape_first trees mode told breaks = record {
  demand = of_shape told.book breaks.refused.0;
  book = refl;
  step = breaks.refused.1.0 ∙ ap (λ (o : Option Data). option_and_then (λ t. key_at t breaks.refused.0.step) o) (sym breaks.tree_is);
  rule = breaks.refused.1.1;
  least = record {
    is_broken = λ kept. breaks.refused.2.is_broken (at_some (slice_get trees told.book) (λ t. KeepsShape t breaks.refused.0) breaks.tree breaks.tree_is kept);
    earlier = shape_earlier trees mode told.book breaks.tree breaks.refused.0 breaks.tree_is breaks.earlier breaks.refused.2;
  };
}

pub shape_refuses : (trees : List Data) (mode : Mode) (error : CheckError) → RefusesShapes trees error → RefusesTrees trees mode error
shape_refuses trees mode (check_error.Broken told) h = shape_first trees mode told h
shape_refuses trees mode check_error.Memory h = tt

-- ---- of sense

module _ (trees : List Data) (mode : Mode) (shaped : AreWellShaped trees) where
  keeps_shape : (k : ℕ) (d : ShapeDemand) → Keeps trees mode (of_shape k d)
  keeps_shape k d = some_if (slice_get trees k) (λ u. KeepsShape u d) (λ u there. at_some (slice_get trees k) IsWellShaped u there (shaped k) d)

  sense_earlier : (demand : SenseDemand) → IsLeastBreak sense_rank (KeepsSense (map book trees) mode) demand → (other : Demand) → Before (rank other) (rank (of_sense demand)) → Keeps trees mode other
  sense_earlier demand least (of_shape k d) b = keeps_shape k d
  sense_earlier demand least (of_sense d) b = elim b [ inl lt ↦ absurd (let h : 1 < 1 = lt in omega arith) | inr is ↦ least.earlier d is.1 ]

  pub sense_refuses : (books : List Book) (error : CheckError) → books ≡ map book trees → RefusesBooks books mode error → RefusesTrees trees mode error
  sense_refuses books (check_error.Broken told) are h =
      let k : RefusesBooks (map book trees) mode (check_error.Broken told) = subst (λ (bs : List Book). RefusesBooks bs mode (check_error.Broken told)) are h in
      record {
        demand = of_sense k.0;
        book = k.1.book;
        step = k.1.step;
        rule = k.1.rule;
        least = record { is_broken = k.2.is_broken; earlier = sense_earlier k.0 k.2 };
      }
  sense_refuses books check_error.Memory are h = tt

  accepted : (d : Demand) → IsSound (map book trees) mode → Keeps trees mode d
  accepted (of_shape k d) sound = keeps_shape k d
  accepted (of_sense d) sound = sound d

  pub accepts : (books : List Book) → books ≡ map book trees → IsSound books mode → IsAccepted trees mode
  accepts books are sound d = accepted d (subst (λ (bs : List Book). IsSound bs mode) are sound)
