-- What accepted playbooks and bindings keep of the rules.
use Rattle.std.proofs.Common.{◌≡◌, ℕ, zero, suc, Bool, true, false, cond, List, [], ◌∷◌, map, Contains, Option, Some, None, arith, refl, ap, sym, subst, ◌∙◌}
use Rattle.std.specs.Prelude.{IfSome, find, option_and_then, option_map, position, slice_get}
use Rattle.std.specs.Str.{bytes_eq}
use Rattle.std.proofs.lemmas.List.Elements.{All-head, All-tail, Contains-append_right}
use Rattle.cacao_vars.specs.declared.declarations.Var.{Var}
use Rattle.cacao_vars.specs.Declarations.{declared}
use Rattle.cacao_book.specs.declared.books.Book.{Book}
use Rattle.cacao_book.specs.declared.steps.Step.{Step}
use Rattle.cacao_book.specs.Books.{book as book_of}
use Rattle.cacao_check.specs.declared.breaks.Mode.TheVariants.{Run}
use Rattle.cacao_check.specs.declared.rules.SenseRule.{SenseRule}
use Rattle.cacao_check.specs.Fits.{FitsKind}
use Rattle.cacao_check.specs.FirstBreak.{of_sense}
use Rattle.cacao_check.specs.Rules.{K20, VarFits}
use Rattle.cacao_check.specs.Sense.{KeepsOfBook, KeepsOfStep}
use Rattle.cacao_check.proofs.LawLemmas.{sound_gives}
use Rattle.cacao_check_steps.specs.Calls.{book_with as place_with}
use Rattle.flow_core_rules.specs.Givens.{Given, book_at, book_with}
use Rattle.flow_core_rules.specs.Accepted.{Accepted}
use Rattle.flow_core_rules.proofs.RunLemmas.{some_inner}
use Rattle.flow_core_setup.specs.Setups.{AreAccepted}
use Rattle.flow_core_laws.proofs.Somes.{none_some}

module _ (given : Given) (accepted : Accepted AreAccepted FitsKind given.texts given.bind given) where
  books_are : given.books ≡ map book_of accepted.trees
  books_are = ap (λ (g : Given). g.books) accepted.given_is

  pub keeps_of_step : (n place : ℕ) (book : Book) (step : Step) (r : SenseRule) → book_at given n ≡ Some book → slice_get book.steps place ≡ Some step
      → KeepsOfStep given.books Run n book place step r
  keeps_of_step n place book step r there at =
      subst (λ (bs : List Book). KeepsOfStep bs Run n book place step r) (sym books_are)
      (sound_gives.of_step (map book_of accepted.trees) Run (λ demand. (accepted.accepted).1 (of_sense demand)) n place book step r
      (ap (λ (bs : List Book). slice_get bs n) (sym books_are) ∙ there) at)

  pub keeps_of_book : (n : ℕ) (book : Book) (r : SenseRule) → book_at given n ≡ Some book → KeepsOfBook given.books n book r
  keeps_of_book n book r there =
      subst (λ (bs : List Book). KeepsOfBook bs n book r) (sym books_are)
      (sound_gives.of_book (map book_of accepted.trees) Run (λ demand. (accepted.accepted).1 (of_sense demand)) n book r
      (ap (λ (bs : List Book). slice_get bs n) (sym books_are) ∙ there))

-- ---- declared values

abbrev pub VarsFit : List Var → Type 0
VarsFit vars = (name : List ℕ) (var : Var) → declared vars name ≡ Some var → VarFits var

pub vars_fit : (vars : List Var) → K20 vars → VarsFit vars
vars_fit [] all name var e = absurd (none_some var e)
vars_fit (v ∷ vars) all name var e = by (bytes_eq v.name name) e (λ h. vars_fit vars (All-tail VarFits v vars all) name var h)
  where
    by : (b : Bool) → cond b (Some v) (find (λ (x : Var). bytes_eq x.name name) vars) ≡ Some var → (declared vars name ≡ Some var → VarFits var) → VarFits var
    by true h rest = subst VarFits (some_inner v var h) (All-head VarFits v vars all)
    by false h rest = rest h

-- ---- lists and calls

pub contains_at : {A : Type 0} (xs : List A) (k : ℕ) (x : A) → slice_get xs k ≡ Some x → Contains xs x
contains_at [] k x e = absurd (none_some x e)
contains_at (y ∷ xs) zero x e = (0, omega arith, some_inner y x e)
contains_at (y ∷ xs) (suc k) x e = Contains-append_right (y ∷ []) xs x (contains_at xs k x e)

-- the playbook that is called, by its place
pub record IsCalled (given : Given) (id : List ℕ) (theirs : ℕ × Book) : Type 0 where
  pub place_is : place_with given.books id ≡ Some theirs.0
  pub book_is : book_at given theirs.0 ≡ Some theirs.1

pub called_known : (given : Given) (id : List ℕ) → IfSome (book_with given id) (IsCalled given id)
called_known given id = by (position (λ (b : Book). bytes_eq b.id id) given.books) refl
  where
    inner : (n : ℕ) → position (λ (b : Book). bytes_eq b.id id) given.books ≡ Some n → (o : Option Book) → book_at given n ≡ o
        → IfSome {T = ℕ × Book} (option_map (λ (b : Book). (n, b)) o) (IsCalled given id)
    inner n place None e = tt
    inner n place (Some b) e = record { place_is = place; book_is = e }

    by : (o : Option ℕ) → position (λ (b : Book). bytes_eq b.id id) given.books ≡ o
        → IfSome {T = ℕ × Book} (option_and_then (λ (n : ℕ). option_map (λ (b : Book). (n, b)) (book_at given n)) o) (IsCalled given id)
    by None e = tt
    by (Some n) e = inner n e (book_at given n) refl
