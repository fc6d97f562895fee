-- Which books lead to which.
use Rattle.std.proofs.Common.{◌≡◌, ◌↔◌, inl, inr, ℕ, zero, suc, ◌+◌, ◌<◌, ◌≤◌, Bool, List, [], ◌∷◌, ◌++◌, length, take, get_or, filter_map, length-append, Option, Some, None, IsSomeAnd, Contains, slice_get, position, option_and_then, option_to_list, refl, sym, ◌∙◌, ap, subst, arith}
use Rattle.std.specs.List.{cons_option}
use Rattle.std.specs.Str.{bytes_eq}
use Rattle.std.proofs.lemmas.Bool.{cases_lt}
use Rattle.std.proofs.lemmas.List.{get_or_default, get_or_append_left, get_or_push, get_or_past, take_more}
use Rattle.std.proofs.lemmas.Option.{slice_get-get_or, slice_get_within, slice_get_cases, get_or_from_slice_get}
use Rattle.std.proofs.lemmas.List.Quantifiers.{position-Some}
use Rattle.std.proofs.lemmas.List.Elements.{Contains-append_right, Contains-append_cases, filter_map-append, Contains-get_or}
use Rattle.base_graphs.specs.Closure.{Closure}
use Rattle.base_graphs.specs.Tables.{IsMarked, IsWithin, row}
use Rattle.base_graphs.proofs.ClosureLemmas.{closure_map}
use Rattle.base_graphs.proofs.MarkLemmas.{Contains-nil}
use Rattle.cacao_book.specs.declared.books.Book.{Book}
use Rattle.cacao_book.specs.declared.steps.Step.{Step}
use Rattle.cacao_check_steps.specs.declared.parts.Parts.{Parts}
use Rattle.cacao_check_steps.specs.Uses.{call_of}
use Rattle.cacao_check_steps.specs.Calls.{book_with, called, AreCallsOf, Calls, LeadsTo}
use Rattle.cacao_check_steps.specs.Parts.{ReadsSteps}
use Rattle.cacao_check_steps.specs.Pairing.{EachPair}
use Rattle.cacao_check_regions.specs.Charts.{AreMarksOf}

none_there : {X : Type 0} (x : X) → Contains [] x → ⊥
none_there x c = let lt : c.0 < 0 = c.1 in omega arith

only : {X : Type 0} (z x : X) → Contains (z ∷ []) x → z ≡ x
only z x (zero, lt, e) = e
only z x (suc k, lt, e) = absurd (let h : suc k < 1 = lt in omega arith)

-- an element stands at some place
pub place_of_item : {X : Type 0} (xs : List X) (x : X) → Contains xs x → (k : ℕ) × (slice_get xs k ≡ Some x)
place_of_item xs x c = (c.0, slice_get-get_or xs c.0 x c.1 ∙ ap Some c.2)

pub item_at_place : {X : Type 0} (xs : List X) (x : X) (k : ℕ) → slice_get xs k ≡ Some x → Contains xs x
item_at_place xs x k e = (k, slice_get_within xs k x e, get_or_from_slice_get xs k x x e)

-- ---- one list, with what some of its items give

given_one : {Y : Type 0} (o : Option Y) → cons_option o [] ≡ option_to_list o
given_one None = refl
given_one (Some y) = refl

pub given_more : {X Y : Type 0} (f : X → Option Y) (xs : List X) (i : ℕ) (x : X) (old new : List Y) → i < length xs → x ≡ get_or xs i x → old ≡ filter_map f (take i xs) → new ≡ old ++ option_to_list (f x) → new ≡ filter_map f (take (i + 1) xs)
given_more f xs i x old new lt at before now =
    now ∙ ap (λ l. l ++ option_to_list (f x)) before
    ∙ sym (ap (filter_map f) (take_more xs i x lt ∙ ap (λ z. take i xs ++ z ∷ []) (sym at)) ∙ filter_map-append f (take i xs) (x ∷ []) ∙ ap (λ l. filter_map f (take i xs) ++ l) (given_one (f x)))

abbrev Given : {X Y : Type 0} → (X → Option Y) → List X → Y → Type 0
Given {X} f xs y = (k : ℕ) × (x : X) × (slice_get xs k ≡ Some x) × (f x ≡ Some y)

giver-step : {X Y : Type 0} (f : X → Option Y) (x : X) (xs : List X) (y : Y) (o : Option Y) → f x ≡ o → (Contains (filter_map f xs) y → Given f xs y) → Contains (cons_option o (filter_map f xs)) y → Given f (x ∷ xs) y
giver-step f x xs y None e later c = let r = later c in (suc r.0, r.1, r.2, r.3)
giver-step f x xs y (Some z) e later c = elim (Contains-append_cases (z ∷ []) (filter_map f xs) y c) [
  | inl here ↦ (0, x, refl, e ∙ ap Some (only z y here))
  | inr there ↦ let r = later there in (suc r.0, r.1, r.2, r.3)
]

giver : {X Y : Type 0} (f : X → Option Y) (xs : List X) (y : Y) → Contains (filter_map f xs) y → Given f xs y
giver f [] y c = absurd (none_there y c)
giver f (x ∷ xs) y c = giver-step f x xs y (f x) refl (λ d. giver f xs y d) c

given-step : {Y : Type 0} (o : Option Y) (ys : List Y) (y : Y) → Contains ys y → Contains (cons_option o ys) y
given-step None ys y c = c
given-step (Some z) ys y c = Contains-append_right (z ∷ []) ys y c

given-here : {Y : Type 0} (o : Option Y) (ys : List Y) (y : Y) → o ≡ Some y → Contains (cons_option o ys) y
given-here {Y} o ys y e = let P : Option Y → Type 0 = λ v. Contains (cons_option v ys) y in subst P (sym e) (0, omega arith, refl)

given : {X Y : Type 0} (f : X → Option Y) (xs : List X) (k : ℕ) (x : X) (y : Y) → slice_get xs k ≡ Some x → f x ≡ Some y → Contains (filter_map f xs) y
given f [] zero x y at e = absurd (cc)
given f [] (suc k) x y at e = absurd (cc)
given f (z ∷ zs) zero x y at e = given-here (f z) (filter_map f zs) y (ap f (let h : z ≡ x = cc in h) ∙ e)
given f (z ∷ zs) (suc k) x y at e = given-step (f z) (filter_map f zs) y (given f zs k x y at e)

past : {X : Type 0} (xs : List X) (k : ℕ) → slice_get xs k ≡ None → length xs ≤ k
past xs k e = let cases = (slice_get_cases xs k).1 in elim cases [ inl here ↦ absurd (let found : slice_get xs k ≡ Some here.0 = here.2 in cc) | inr out ↦ out.0 ]

no_item : {X : Type 0} (xs : List X) (k : ℕ) → k < length xs → slice_get xs k ≡ None → ⊥
no_item xs k lt e = let over : length xs ≤ k = past xs k e in omega arith

pub calls_of_book : (books : List Book) (book : Book) (all : List Parts) (row : List ℕ) → ReadsSteps books book all → row ≡ filter_map (λ (part : Parts). part.called) all → AreCallsOf books book row
calls_of_book books book all row reads e to = (
  λ c. let g : (k : ℕ) × (part : Parts) × (slice_get all k ≡ Some part) × (part.called ≡ Some to) = giver (λ (part : Parts). part.called) all to (subst (λ l. Contains l to) e c) in
      let inside : g.0 < length all = slice_get_within all g.0 g.1 g.2 in
      step_at g.0 g.1 g.2 g.3 (slice_get book.steps g.0) refl (let same = reads.len in let lt : g.0 < length book.steps = omega arith in lt),
  λ h. let p : (k : ℕ) × (slice_get book.steps k ≡ Some h.0) = place_of_item book.steps h.0 h.1 in
      subst (λ l. Contains l to) (sym e) (part_at p.0 h.0 p.1 h.2 (slice_get all p.0) refl (let same = reads.len in let inside : p.0 < length book.steps = slice_get_within book.steps p.0 h.0 p.1 in let lt : p.0 < length all = omega arith in lt)),
)
  where
    step_at : (k : ℕ) (part : Parts) → slice_get all k ≡ Some part → part.called ≡ Some to → (o : Option Step) → slice_get book.steps k ≡ o → k < length book.steps → (step : Step) × Contains book.steps step × (called books step ≡ Some to)
    step_at k part at gives None none lt = absurd (no_item book.steps k lt none)
    step_at k part at gives (Some step) here lt = (step, item_at_place book.steps step k here, sym (reads.each k step part here at).called ∙ gives)

    part_at : (k : ℕ) (step : Step) → slice_get book.steps k ≡ Some step → called books step ≡ Some to → (o : Option Parts) → slice_get all k ≡ o → k < length all → Contains (filter_map (λ (part : Parts). part.called) all) to
    part_at k step here calls None none lt = absurd (no_item all k lt none)
    part_at k step here calls (Some part) at lt = given (λ (part : Parts). part.called) all k part to at ((reads.each k step part here at).called ∙ calls)

-- ---- the table

pub called_within : (books : List Book) (step : Step) (m : ℕ) → called books step ≡ Some m → m < length books
called_within books step m e = by_cases (call_of step.kind) e
  where
    by_cases : (o : Option (List ℕ)) → option_and_then (book_with books) o ≡ Some m → m < length books
    by_cases None e = absurd (cc)
    by_cases (Some id) e = found books (λ (book : Book). bytes_eq book.id id) m e
      where
        found : (bs : List Book) (p : Book → Bool) (k : ℕ) → position p bs ≡ Some k → k < length bs
        found [] p k e = absurd (cc)
        found (b ∷ bs) p k e = (position-Some p (b ∷ bs) k b e).0

pub table_calls : (books : List Book) (rows : List (List ℕ)) → length rows ≡ length books → EachPair (AreCallsOf books) books rows → (from to : ℕ) → Contains (row rows from) to ↔ Calls books from to
table_calls books rows len each from to = by_cases (slice_get books from) refl (slice_get rows from) refl
  where
    by_cases : (b : Option Book) → slice_get books from ≡ b → (r : Option (List ℕ)) → slice_get rows from ≡ r → Contains (row rows from) to ↔ Calls books from to
    by_cases (Some book) at (Some r) here =
        let same : row rows from ≡ r = get_or_from_slice_get rows from r [] here in
        let iff : Contains r to ↔ ((step : Step) × Contains book.steps step × (called books step ≡ Some to)) = each from book r at here to in
        (λ c. rw at (iff.0 (subst (λ l. Contains l to) same c)), λ h. subst (λ l. Contains l to) (sym same) (iff.1 (rw at at h)))
    by_cases None at r here = (
      λ c. absurd (Contains-nil to (subst (λ l. Contains l to) (get_or_past rows from [] (let over : length books ≤ from = past books from at in omega arith)) c)),
      λ h. absurd (rw at at h),
    )
    by_cases (Some book) at None none = absurd (let inside : from < length books = slice_get_within books from book at in let over : length rows ≤ from = past rows from none in omega arith)

pub table_within : (books : List Book) (rows : List (List ℕ)) → length rows ≡ length books → EachPair (AreCallsOf books) books rows → IsWithin (length books) rows
table_within books rows len each k d lt j e inside =
    let r : List ℕ = get_or rows k d in
    let c : Contains r (get_or r j e) = Contains-get_or r j e inside in
    let same : row rows k ≡ r = sym (get_or_default rows k d [] lt) in
    let calls : Calls books k (get_or r j e) = (table_calls books rows len each k (get_or r j e)).0 (subst (λ l. Contains l (get_or r j e)) (sym same) c) in
    step_within (slice_get books k) calls
  where
    step_within : {to : ℕ} (b : Option Book) → IsSomeAnd b (λ book. (step : Step) × Contains book.steps step × (called books step ≡ Some to)) → to < length books
    step_within None h = absurd h
    step_within {to} (Some book) h = called_within books h.0 to h.2

pub leads_marks : (books : List Book) (rows : List (List ℕ)) (n : ℕ) (marks : List Bool) → ((from to : ℕ) → Contains (row rows from) to ↔ Calls books from to) → ((p : ℕ) → IsMarked marks p ↔ Closure (Contains (n ∷ [])) (λ from to. Contains (row rows from) to) p) → AreMarksOf (LeadsTo books n) marks
leads_marks books rows n marks calls exact p = (
  λ m. closure_map (Contains (n ∷ [])) (λ q. q ≡ n) (λ from to. Contains (row rows from) to) (Calls books) (λ q c. sym (only n q c)) (λ from to. (calls from to).0) p ((exact p).0 m),
  λ c. (exact p).1 (closure_map (λ q. q ≡ n) (Contains (n ∷ [])) (Calls books) (λ from to. Contains (row rows from) to) (λ q e. (0, omega arith, sym e)) (λ from to. (calls from to).1) p c),
)

-- ---- one more set

pub leads_more : (books : List Book) (leads leads' : List (List Bool)) (i : ℕ) (marks : List Bool) → leads' ≡ leads ++ marks ∷ [] → length leads ≡ i → AreMarksOf (LeadsTo books i) marks
    → ((n : ℕ) → n < i → AreMarksOf (LeadsTo books n) (get_or leads n [])) → (length leads' ≡ i + 1) × ((n : ℕ) → n < i + 1 → AreMarksOf (LeadsTo books n) (get_or leads' n []))
leads_more books leads leads' i marks pushed len here done = (ap length pushed ∙ length-append leads (marks ∷ []) ∙ ap (λ n. n + 1) len, each)
  where
    each : (n : ℕ) → n < i + 1 → AreMarksOf (LeadsTo books n) (get_or leads' n [])
    each n lt = elim (cases_lt n i) [
      | inl old ↦ subst (AreMarksOf (LeadsTo books n)) (sym (ap (λ l. get_or l n []) pushed ∙ get_or_append_left leads (marks ∷ []) [] n (omega arith))) (done n old)
      | inr new ↦ let same : i ≡ n = omega arith in
          subst (λ k. AreMarksOf (LeadsTo books k) (get_or leads' k [])) same (subst (AreMarksOf (LeadsTo books i)) (sym (ap (λ l. get_or l i []) pushed ∙ get_or_push leads marks [] i len)) here)
    ]
