-- The first break of a walk over books, places and rules is the least.
use Rattle.std.proofs.Common.{◌≡◌, ◌↔◌, inl, inr, ℕ, suc, ◌<◌, ◌≤◌, List, Option, Some, None, IfSome, slice_get, length, option_map, option_and_then, refl, sym, ◌∙◌, ap, subst, arith}
use Rattle.std.proofs.lemmas.Bool.{cases_lt}
use Rattle.std.proofs.lemmas.Option.{slice_get_past}
use Rattle.cacao_book.specs.declared.books.Book.{Book}
use Rattle.cacao_book_shape.specs.Least.{IsLeastBreak}
use Rattle.cacao_book_shape.specs.Shape.{place_rank}
use Rattle.cacao_check.specs.declared.breaks.Mode.{Mode}
use Rattle.cacao_check.specs.declared.breaks.Break.{Break}
use Rattle.cacao_check.specs.declared.rules.SenseRule.{SenseRule}
use Rattle.cacao_check.specs.Sense.{sense_rank, sense_number, KeepsAt, KeepsIn, KeepsSense}
use Rattle.cacao_check.specs.Checks.{key_at}
use Rattle.cacao_check.specs.Walk.{FindsRule, KeptBefore, FindsLeast, FindsAt}

-- ---- at one place

some_iff : {X : Type 0} (o : Option X) (x : X) (P : X → Type 0) (B : Type 0) → o ≡ Some x → B ↔ P x → B ↔ IfSome o P
some_iff {X} o x P B e h = let M : Option X → Type 0 = λ v. B ↔ IfSome v P in subst M (sym e) h

module _ (books : List Book) (mode : Mode) (n : ℕ) where
  -- all rules with smaller numbers are kept at a place
  abbrev pub RulesKept : Option ℕ → ℕ → Type 0
  RulesKept step which = (r : SenseRule) → sense_number r < which → KeepsIn books mode n step r

  -- all places of smaller ranks keep all rules
  abbrev pub PlacesKept : ℕ → Type 0
  PlacesKept rank = (step : Option ℕ) (r : SenseRule) → place_rank step < rank → KeepsIn books mode n step r

  same_place : (one other : Option ℕ) → place_rank one ≡ place_rank other → one ≡ other
  same_place None None e = refl
  same_place None (Some q) e = absurd (omega arith)
  same_place (Some p) None e = absurd (omega arith)
  same_place (Some p) (Some q) e = ap Some (let h : p ≡ q = omega arith in h)

  pub PlacesKept-all : (book : Book) (rank : ℕ) → slice_get books n ≡ Some book → length book.steps < rank → PlacesKept rank → FindsAt books mode n None
  PlacesKept-all book rank at over kept None r = kept None r (omega arith)
  PlacesKept-all book rank at over kept (Some p) r = elim (cases_lt (suc p) rank) [
    | inl inside ↦ kept (Some p) r inside
    | inr outside ↦ let none : slice_get book.steps p ≡ None = slice_get_past book.steps p (omega arith) in (some_iff (slice_get books n) book (λ b. KeepsAt books mode n b (Some p) r) (Unit {0}) at (top_iff book p r none)).0 tt
  ]
    where
      top_iff : (book : Book) (p : ℕ) (r : SenseRule) → slice_get book.steps p ≡ None → Unit {0} ↔ KeepsAt books mode n book (Some p) r
      top_iff book p r none = (λ u. rw none tt, λ k. tt)

  pub least_at : (step : Option ℕ) (r : SenseRule) → KeptBefore books mode n → PlacesKept (place_rank step) → FindsRule books mode n step (Some r) → IsLeastBreak sense_rank (KeepsSense books mode) (record { book = n; step = step; rule = r })
  least_at step r kept places found = record {
    is_broken = found.0;
    earlier = λ d before. elim before [
      | inl book ↦ kept d.book d.step d.rule book
      | inr here ↦ elim here.1 [
        | inl place ↦ subst (λ m. KeepsIn books mode m d.step d.rule) (sym here.0) (places d.step d.rule place)
        | inr there ↦ elim there.1 [
          | inl lower ↦ subst (λ m. KeepsIn books mode m d.step d.rule) (sym here.0) (subst (λ q. KeepsIn books mode n q d.rule) (sym (same_place d.step step there.0)) (found.1 d.rule lower))
          | inr no_more ↦ absurd no_more.1
        ]
      ]
    ];
  }

  key_is : (book : Book) (place : Option ℕ) → slice_get books n ≡ Some book → option_and_then (λ p. option_map (λ s. s.key) (slice_get book.steps p)) place ≡ key_at books n place
  key_is book None at = refl
  key_is book (Some p) at = rw at refl

  pub found_at : (book : Book) (step : Option ℕ) (r : SenseRule) (told : Break) → slice_get books n ≡ Some book → PlacesKept (place_rank step) → FindsRule books mode n step (Some r) → told.book ≡ n
      → told.step ≡ option_and_then (λ p. option_map (λ s. s.key) (slice_get book.steps p)) step → told.rule ≡ sense_number r → FindsAt books mode n (Some told)
  found_at book step r told at places found b s number kept =
      (record { book = n; step = step; rule = r }, record { book = b; step = s ∙ key_is book step at; rule = number }, least_at step r kept places found)

-- ---- the walk over the books

module _ (books : List Book) (mode : Mode) where
  pub KeptBefore-all : (n : ℕ) → length books ≤ n → KeptBefore books mode n → FindsLeast books mode None
  KeptBefore-all n over kept demand = elim (cases_lt demand.book n) [
    | inl lower ↦ kept demand.book demand.step demand.rule lower
    | inr there ↦ rw (slice_get_past books demand.book (let far : length books ≤ demand.book = omega arith in far)) tt
  ]
