-- The tables of a book.
use Rattle.std.proofs.Common.{◌≡◌, ◌↔◌, inl, inr, ℕ, zero, suc, Bool, List, [], ◌∷◌, map, slice_get, Contains, Option, refl, subst, sym}
use Rattle.std.specs.Option.{option_map_or}
use Rattle.cacao_book.specs.declared.books.Book.{Book}
use Rattle.cacao_book.specs.declared.steps.Step.{Step}
use Rattle.base_graphs.specs.Closure.{Closure}
use Rattle.base_graphs.proofs.ClosureLemmas.{closure_map}
use Rattle.cacao_check_regions.specs.Charts.{AreMarksOf, LinksDown, LinksBeside, LeadsThrough}
use Rattle.base_graphs.specs.Nests.{LeadsBeside, IsInside, TellsGuards}
use Rattle.base_graphs.specs.Tables.{IsMarked, Leads, row, IsReverse}
use Rattle.cacao_check_steps.specs.Links.{next_keys, head_keys, next_places, head_places, places_of, start_places, GoesTo, Begins}

pub row_mapped : (f : Step → List ℕ) (steps : List Step) (p : ℕ) → row (map f steps) p ≡ option_map_or f (slice_get steps p) []
row_mapped f [] p = refl
row_mapped f (s ∷ steps) zero = refl
row_mapped f (s ∷ steps) (suc p) = row_mapped f steps p

-- the row of a step in the table of links is where it goes on
pub next_row_is : (book : Book) (rows : List (List ℕ)) (p : ℕ) → rows ≡ map (λ step. places_of book (next_keys step)) book.steps → row rows p ≡ next_places book p
next_row_is book rows p e = rw e (row_mapped (λ step. places_of book (next_keys step)) book.steps p)

pub head_row_is : (book : Book) (rows : List (List ℕ)) (p : ℕ) → rows ≡ map (λ step. places_of book (head_keys step.kind)) book.steps → row rows p ≡ head_places book p
head_row_is book rows p e = rw e (row_mapped (λ step. places_of book (head_keys step.kind)) book.steps p)

-- the table turned round says where one comes from
pub back_next_is : (book : Book) (rows back : List (List ℕ)) → rows ≡ map (λ step. places_of book (next_keys step)) book.steps → IsReverse rows back → (to from : ℕ) → Contains (row back to) from ↔ GoesTo book from to
back_next_is book rows back e r to from = (λ c. subst (λ v. Contains v to) (next_row_is book rows from e) ((r to from).0 c), λ g. (r to from).1 (subst (λ v. Contains v to) (sym (next_row_is book rows from e)) g))

pub back_heads_is : (book : Book) (rows back : List (List ℕ)) → rows ≡ map (λ step. places_of book (head_keys step.kind)) book.steps → IsReverse rows back → (to from : ℕ) → Contains (row back to) from ↔ Begins book from to
back_heads_is book rows back e r to from = (λ c. subst (λ v. Contains v to) (head_row_is book rows from e) ((r to from).0 c), λ g. (r to from).1 (subst (λ v. Contains v to) (sym (head_row_is book rows from e)) g))

-- ---- what a run reaches

pub reach_marks : (book : Book) (next heads : List (List ℕ)) (marks : List Bool) → next ≡ map (λ step. places_of book (next_keys step)) book.steps → heads ≡ map (λ step. places_of book (head_keys step.kind)) book.steps → ((p : ℕ) → IsMarked marks p ↔ Closure (Contains (start_places book)) (Leads next heads [] []) p) → AreMarksOf (Closure (Contains (start_places book)) (LinksDown book)) marks
reach_marks book next heads marks n h exact p = (
  λ m. closure_map (Contains (start_places book)) (Contains (start_places book)) (Leads next heads [] []) (LinksDown book) (λ q s. s) there p ((exact p).0 m),
  λ c. (exact p).1 (closure_map (Contains (start_places book)) (Contains (start_places book)) (LinksDown book) (Leads next heads [] []) (λ q s. s) back p c),
)
  where
    there : (from to : ℕ) → Leads next heads [] [] from to → LinksDown book from to
    there from to (inl g) = inl (subst (λ v. Contains v to) (next_row_is book next from n) g)
    there from to (inr b) = inr (subst (λ v. Contains v to) (head_row_is book heads from h) b.1)

    back : (from to : ℕ) → LinksDown book from to → Leads next heads [] [] from to
    back from to (inl g) = inl (subst (λ v. Contains v to) (sym (next_row_is book next from n)) g)
    back from to (inr b) = inr (refl, subst (λ v. Contains v to) (sym (head_row_is book heads from h)) b, refl)

-- ---- what nests tell

pub through_guards : (book : Book) (next heads : List (List ℕ)) (begin : List ℕ) (nests : List (Option ℕ)) → next ≡ map (λ step. places_of book (next_keys step)) book.steps → heads ≡ map (λ step. places_of book (head_keys step.kind)) book.steps → begin ≡ start_places book
    → TellsGuards next heads begin nests → (place control : ℕ) → IsInside nests place control → LeadsThrough book control place
through_guards book next heads begin nests n h b tells place control inside c = tells place control inside (closure_map (Contains (start_places book)) (Contains begin) (LinksBeside book control) (LeadsBeside next heads control) (λ q. subst (λ v. Contains v q) (sym b)) beside place c)
  where
    beside : (from to : ℕ) → LinksBeside book control from to → LeadsBeside next heads control from to
    beside from to (inl g) = inl (subst (λ v. Contains v to) (sym (next_row_is book next from n)) g)
    beside from to (inr e) = inr (e.1, subst (λ v. Contains v to) (sym (head_row_is book heads from h)) e.0)

-- a search by other names
pub same_search : (f f' : List ℕ) (a a' b b' : List (List ℕ)) (s s' t t' m : List Bool) → f ≡ f' → a ≡ a' → b ≡ b' → s ≡ s' → t ≡ t' → ((p : ℕ) → IsMarked m p ↔ Closure (Contains f) (Leads a b s t) p) → (p : ℕ) → IsMarked m p ↔ Closure (Contains f') (Leads a' b' s' t') p
same_search f f' a a' b b' s s' t t' m ef ea eb es et exact p =
    subst (λ x. IsMarked m p ↔ Closure (Contains f') (Leads a' b' s' x) p) et
    (subst (λ x. IsMarked m p ↔ Closure (Contains f') (Leads a' b' x t) p) es
    (subst (λ x. IsMarked m p ↔ Closure (Contains f') (Leads a' x s t) p) eb
    (subst (λ x. IsMarked m p ↔ Closure (Contains f') (Leads x b s t) p) ea
    (subst (λ x. IsMarked m p ↔ Closure (Contains x) (Leads a b s t) p) ef (exact p)))))
