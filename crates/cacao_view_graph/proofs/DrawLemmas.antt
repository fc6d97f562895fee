-- What the statements of a picture draw, each of them in order.
use Rattle.std.proofs.Common.{◌≡◌, ◌∙◌, ℕ, suc, ◌+◌, Bool, true, false, List, [], ◌∷◌, ◌++◌, map, filter, filter_map, Option, Some, None, option_to_list, refl, sym, ap, append_assoc, append-nil, cond}
use Rattle.std.specs.Prelude.{All, flat_map, codes, if◌then◌else◌}
use Rattle.std.specs.List.{cons_option}
use Rattle.std.proofs.lemmas.List.{map-append}
use Rattle.std.proofs.lemmas.List.Elements.{All-head, All-tail, filter_map-append}
use Rattle.serde_json.specs.Data.{Data}
use Rattle.cacao_book.specs.Books.{book, step_of}
use Rattle.cacao_book.specs.declared.books.Book.{Book}
use Rattle.cacao_book.specs.declared.cases.Case.{Case}
use Rattle.cacao_book.specs.declared.steps.Step.{Step}
use Rattle.cacao_book.specs.declared.step_kinds.StepKind.{StepKind}
use Rattle.cacao_book.specs.declared.step_kinds.StepKind.TheVariants.{Start, End, Action, PlaybookAction, Parallel, If, While, Switch}
use Rattle.cacao_book_shape.specs.Shape.{workflow}
use Rattle.cacao_check_steps.specs.Calls.{called}
use Rattle.cacao_check_steps.specs.Links.{head_keys, next_keys}
use Rattle.cacao_view_graph.specs.Drawings.{Drawn, DrawnBook, book_statements, books_statements, branches, call_edge, call_edges, case_edge, edges, exception_edges, head_edges, link, links, next_edges, region_clusters, statements, step_node, step_statements}
use Rattle.cacao_view_graph.specs.Labels.{title}
use Rattle.cacao_view_graph.specs.Laws.{area_drawn, areas_from, book_ends, ends_drawn, ends_to, links_from, place_drawn, start_of, step_ends, steps_from}
use Rattle.cacao_view_graph.specs.Pictures.{AreDrawn, IsDrawn}
use Rattle.cacao_view_graph.specs.Statements.{Place, Statement, cluster, frame}

-- ---- what is kept of lists

pub none_of : {X Y : Type 0} (h : Statement → Option Y) (f : X → Statement) (xs : List X) → ((x : X) → h (f x) ≡ None) → filter_map h (map f xs) ≡ []
none_of h f [] none = refl
none_of h f (x ∷ xs) none = ap (λ o. cons_option o (filter_map h (map f xs))) (none x) ∙ none_of h f xs none

pub all_of : {X Y : Type 0} (h : Statement → Option Y) (f : X → Statement) (g : X → Y) (xs : List X) → ((x : X) → h (f x) ≡ Some (g x)) → filter_map h (map f xs) ≡ map g xs
all_of h f g [] all = refl
all_of h f g (x ∷ xs) all = ap (λ o. cons_option o (filter_map h (map f xs))) (all x) ∙ ap (λ l. g x ∷ l) (all_of h f g xs all)

pub both_of : {Y : Type 0} (h : Statement → Option Y) (xs ys : List Statement) (a b : List Y) → filter_map h xs ≡ a → filter_map h ys ≡ b → filter_map h (xs ++ ys) ≡ a ++ b
both_of h xs ys a b e f = filter_map-append h xs ys ∙ ap (λ l. l ++ filter_map h ys) e ∙ ap (λ l. a ++ l) f

pub each_of : {X Y : Type 0} (h : Statement → Option Y) (f : X → List Statement) (g : X → List Y) (xs : List X) → ((x : X) → filter_map h (f x) ≡ g x) → filter_map h (flat_map f xs) ≡ flat_map g xs
each_of h f g [] each = refl
each_of h f g (x ∷ xs) each = both_of h (f x) (flat_map f xs) (g x) (flat_map g xs) (each x) (each_of h f g xs each)

-- a list by its members
pub by_members : {Y : Type 0} (g : List ℕ × Data → Y) (steps : List Drawn) (members : List (List ℕ × Data)) → map (λ step. step.member) steps ≡ members → map (λ step. g step.member) steps ≡ map g members
by_members g steps members e = inner g steps ∙ ap (map g) e
  where
    inner : {Y : Type 0} (g : List ℕ × Data → Y) (steps : List Drawn) → map (λ step. g step.member) steps ≡ map g (map (λ step. step.member) steps)
    inner g [] = refl
    inner g (s ∷ steps) = ap (λ l. g s.member ∷ l) (inner g steps)

pub flat_by_members : {Y : Type 0} (g : List ℕ × Data → List Y) (steps : List Drawn) (members : List (List ℕ × Data)) → map (λ step. step.member) steps ≡ members → flat_map (λ step. g step.member) steps ≡ flat_map g members
flat_by_members g steps members e = inner g steps ∙ ap (flat_map g) e
  where
    inner : {Y : Type 0} (g : List ℕ × Data → List Y) (steps : List Drawn) → flat_map (λ step. g step.member) steps ≡ flat_map g (map (λ step. step.member) steps)
    inner g [] = refl
    inner g (s ∷ steps) = ap (λ l. g s.member ++ l) (inner g steps)

single : {X Y : Type 0} (g : X → Y) (xs : List X) → flat_map (λ x. g x ∷ []) xs ≡ map g xs
single g [] = refl
single g (x ∷ xs) = ap (λ l. g x ∷ l) (single g xs)

pub books_same : (drawn : List DrawnBook) (trees : List Data) → map (λ d. d.tree) drawn ≡ trees → map (λ d. book d.tree) drawn ≡ map book trees
books_same drawn trees e = inner drawn ∙ ap (map book) e
  where
    inner : (drawn : List DrawnBook) → map (λ d. book d.tree) drawn ≡ map book (map (λ d. d.tree) drawn)
    inner [] = refl
    inner (d ∷ ds) = ap (λ l. book d.tree ∷ l) (inner ds)

-- ---- nodes

heads_no_node : (from : Place) (kind : StepKind) → filter_map place_drawn (head_edges from kind) ≡ []
heads_no_node from Start = refl
heads_no_node from End = refl
heads_no_node from (Action commands agent targets in_args out_args) = refl
heads_no_node from (PlaybookAction playbook version in_args out_args) = refl
heads_no_node from (Parallel next) = none_of place_drawn (link from (codes "next_steps")) next (λ key. refl)
heads_no_node from (If condition on_true on_false) = none_of place_drawn (link from (codes "on_false")) (option_to_list on_false) (λ key. refl)
heads_no_node from (While condition on_true) = refl
heads_no_node from (Switch subject cases) = none_of place_drawn (case_edge from) cases (λ c. refl)

next_no_node : (from : Place) (step : Step) → filter_map place_drawn (next_edges from step) ≡ []
next_no_node from step =
    both_of place_drawn (links from (codes "on_completion") step.completion) _ [] [] (none_of place_drawn (link from (codes "on_completion")) (option_to_list step.completion) (λ key. refl))
    (both_of place_drawn (links from (codes "on_success") step.success) _ [] [] (none_of place_drawn (link from (codes "on_success")) (option_to_list step.success) (λ key. refl))
    (none_of place_drawn (link from (codes "on_failure")) (option_to_list step.failure) (λ key. refl)))

edges_no_node : (books : List Book) (from : Place) (step : Step) → filter_map place_drawn (edges books from step) ≡ []
edges_no_node books from step =
    both_of place_drawn (next_edges from step) _ [] [] (next_no_node from step)
    (both_of place_drawn (head_edges from step.kind) _ [] [] (heads_no_node from step.kind)
    (none_of place_drawn (call_edge books from) (option_to_list (called books step)) (λ number. refl)))

region_no_node : (t : Bool) (s : Statement) → place_drawn s ≡ None → filter_map place_drawn (if t then s ∷ [] else []) ≡ []
region_no_node true s e = ap (λ o. cons_option o []) e
region_no_node false s e = refl

step_one_node : (books : List Book) (number : ℕ) (d : Drawn) → filter_map place_drawn (step_statements books number d) ≡ (number, d.member.0) ∷ []
step_one_node books number d =
    both_of place_drawn (region_clusters number d.member) _ [] ((number, d.member.0) ∷ []) (region_no_node (branches (step_of d.member).kind) _ refl)
    (ap (λ l. (number, d.member.0) ∷ l) (edges_no_node books (number, d.member.0) (step_of d.member)))

book_nodes : (books : List Book) (number : ℕ) (d : DrawnBook) → IsDrawn d → filter_map place_drawn (book_statements books number d) ≡ map (λ m. (number, m.0)) (workflow d.tree)
book_nodes books number d h =
    both_of place_drawn (exception_edges number (book d.tree)) _ [] _ (none_of place_drawn (link (number, (book d.tree).start) (codes "workflow_exception")) (option_to_list (book d.tree).exception) (λ key. refl))
    (each_of place_drawn (step_statements books number) (λ step. (number, step.member.0) ∷ []) d.steps (step_one_node books number)
    ∙ single (λ (step : Drawn). (number, step.member.0)) d.steps ∙ by_members (λ m. (number, m.0)) d.steps (workflow d.tree) h.members)

books_nodes : (books : List Book) (number : ℕ) (drawn : List DrawnBook) → All IsDrawn drawn → filter_map place_drawn (books_statements books number drawn) ≡ steps_from number (map (λ d. d.tree) drawn)
books_nodes books number [] h = refl
books_nodes books number (d ∷ ds) h =
    both_of place_drawn (book_statements books number d) (books_statements books (suc number) ds) _ _ (book_nodes books number d (All-head IsDrawn d ds h)) (books_nodes books (suc number) ds (All-tail IsDrawn d ds h))

pub nodes_are : (trees : List Data) (drawn : List DrawnBook) → AreDrawn trees drawn → filter_map place_drawn (statements drawn) ≡ steps_from 0 trees
nodes_are trees drawn h =
    both_of place_drawn (books_statements (map (λ d. book d.tree) drawn) 0 drawn) (frame (codes "}") ∷ []) _ [] (books_nodes (map (λ d. book d.tree) drawn) 0 drawn h.each) refl
    ∙ append-nil (steps_from 0 (map (λ d. d.tree) drawn)) ∙ ap (steps_from 0) h.trees_are

-- ---- edges

links_ends : (from : Place) (name : List ℕ) (key : Option (List ℕ)) → filter_map ends_drawn (links from name key) ≡ ends_to from (option_to_list key)
links_ends from name key = all_of ends_drawn (link from name) (λ k. (from, (from.0, k))) (option_to_list key) (λ k. refl)

case_ends : (from : Place) (cases : List Case) → filter_map ends_drawn (map (case_edge from) cases) ≡ ends_to from (map (λ c. c.step) cases)
case_ends from [] = refl
case_ends from (c ∷ cases) = ap (λ l. (from, (from.0, c.step)) ∷ l) (case_ends from cases)

head_ends : (from : Place) (kind : StepKind) → filter_map ends_drawn (head_edges from kind) ≡ ends_to from (head_keys kind)
head_ends from Start = refl
head_ends from End = refl
head_ends from (Action commands agent targets in_args out_args) = refl
head_ends from (PlaybookAction playbook version in_args out_args) = refl
head_ends from (Parallel next) = all_of ends_drawn (link from (codes "next_steps")) (λ k. (from, (from.0, k))) next (λ k. refl)
head_ends from (If condition on_true on_false) = ap (λ l. (from, (from.0, on_true)) ∷ l) (links_ends from (codes "on_false") on_false)
head_ends from (While condition on_true) = refl
head_ends from (Switch subject cases) = case_ends from cases

ends_then : (from : Place) (xs ys : List (List ℕ)) → ends_to from xs ++ ends_to from ys ≡ ends_to from (xs ++ ys)
ends_then from xs ys = sym (map-append (λ k. (from, (from.0, k))) xs ys)

next_ends : (from : Place) (step : Step) → filter_map ends_drawn (next_edges from step) ≡ ends_to from (next_keys step)
next_ends from step =
    let a = option_to_list step.completion in
    let b = option_to_list step.success in
    let c = option_to_list step.failure in
    both_of ends_drawn (links from (codes "on_completion") step.completion) _ (ends_to from a) (ends_to from b ++ ends_to from c) (links_ends from (codes "on_completion") step.completion)
    (both_of ends_drawn (links from (codes "on_success") step.success) _ (ends_to from b) (ends_to from c) (links_ends from (codes "on_success") step.success) (links_ends from (codes "on_failure") step.failure))
    ∙ ap (λ l. ends_to from a ++ l) (ends_then from b c) ∙ ends_then from a (b ++ c) ∙ ap (ends_to from) (sym (append_assoc a b c))

edges_ends : (books : List Book) (from : Place) (step : Step) → filter_map ends_drawn (edges books from step) ≡ step_ends books from step
edges_ends books from step =
    let calls = map (λ number. (from, start_of books number)) (option_to_list (called books step)) in
    both_of ends_drawn (next_edges from step) _ (ends_to from (next_keys step)) (ends_to from (head_keys step.kind) ++ calls) (next_ends from step)
    (both_of ends_drawn (head_edges from step.kind) (call_edges books from step) (ends_to from (head_keys step.kind)) calls (head_ends from step.kind)
    (all_of ends_drawn (call_edge books from) (λ number. (from, start_of books number)) (option_to_list (called books step)) (λ number. refl)))
    ∙ sym (append_assoc (ends_to from (next_keys step)) (ends_to from (head_keys step.kind)) calls) ∙ ap (λ l. l ++ calls) (ends_then from (next_keys step) (head_keys step.kind))

region_no_edge : (t : Bool) (s : Statement) → ends_drawn s ≡ None → filter_map ends_drawn (if t then s ∷ [] else []) ≡ []
region_no_edge true s e = ap (λ o. cons_option o []) e
region_no_edge false s e = refl

step_all_ends : (books : List Book) (number : ℕ) (d : Drawn) → filter_map ends_drawn (step_statements books number d) ≡ step_ends books (number, d.member.0) (step_of d.member)
step_all_ends books number d =
    both_of ends_drawn (region_clusters number d.member) (step_node number d ∷ edges books (number, d.member.0) (step_of d.member)) [] _ (region_no_edge (branches (step_of d.member).kind) _ refl)
    (edges_ends books (number, d.member.0) (step_of d.member))

book_all_ends : (books : List Book) (number : ℕ) (d : DrawnBook) → IsDrawn d → filter_map ends_drawn (book_statements books number d) ≡ book_ends books number d.tree
book_all_ends books number d h =
    both_of ends_drawn (exception_edges number (book d.tree)) (flat_map (step_statements books number) d.steps) _ _ (links_ends (number, (book d.tree).start) (codes "workflow_exception") (book d.tree).exception)
    (each_of ends_drawn (step_statements books number) (λ step. step_ends books (number, step.member.0) (step_of step.member)) d.steps (step_all_ends books number)
    ∙ flat_by_members (λ m. step_ends books (number, m.0) (step_of m)) d.steps (workflow d.tree) h.members)

books_all_ends : (books : List Book) (number : ℕ) (drawn : List DrawnBook) → All IsDrawn drawn → filter_map ends_drawn (books_statements books number drawn) ≡ links_from books number (map (λ d. d.tree) drawn)
books_all_ends books number [] h = refl
books_all_ends books number (d ∷ ds) h =
    both_of ends_drawn (book_statements books number d) (books_statements books (suc number) ds) _ _ (book_all_ends books number d (All-head IsDrawn d ds h)) (books_all_ends books (suc number) ds (All-tail IsDrawn d ds h))

pub edges_are : (trees : List Data) (drawn : List DrawnBook) → AreDrawn trees drawn → filter_map ends_drawn (statements drawn) ≡ links_from (map book trees) 0 trees
edges_are trees drawn h =
    let books = map (λ (d : DrawnBook). book d.tree) drawn in
    both_of ends_drawn (books_statements books 0 drawn) (frame (codes "}") ∷ []) _ [] (books_all_ends books 0 drawn h.each) refl
    ∙ append-nil (links_from books 0 (map (λ d. d.tree) drawn)) ∙ ap (links_from books 0) h.trees_are ∙ ap (λ b. links_from b 0 trees) (books_same drawn trees h.trees_are)

-- ---- clusters

heads_no_area : (from : Place) (kind : StepKind) → filter_map area_drawn (head_edges from kind) ≡ []
heads_no_area from Start = refl
heads_no_area from End = refl
heads_no_area from (Action commands agent targets in_args out_args) = refl
heads_no_area from (PlaybookAction playbook version in_args out_args) = refl
heads_no_area from (Parallel next) = none_of area_drawn (link from (codes "next_steps")) next (λ key. refl)
heads_no_area from (If condition on_true on_false) = none_of area_drawn (link from (codes "on_false")) (option_to_list on_false) (λ key. refl)
heads_no_area from (While condition on_true) = refl
heads_no_area from (Switch subject cases) = none_of area_drawn (case_edge from) cases (λ c. refl)

edges_no_area : (books : List Book) (from : Place) (step : Step) → filter_map area_drawn (edges books from step) ≡ []
edges_no_area books from step =
    both_of area_drawn (next_edges from step) _ [] [] next
    (both_of area_drawn (head_edges from step.kind) _ [] [] (heads_no_area from step.kind)
    (none_of area_drawn (call_edge books from) (option_to_list (called books step)) (λ number. refl)))
  where
    next : filter_map area_drawn (next_edges from step) ≡ []
    next =
        both_of area_drawn (links from (codes "on_completion") step.completion) _ [] [] (none_of area_drawn (link from (codes "on_completion")) (option_to_list step.completion) (λ key. refl))
        (both_of area_drawn (links from (codes "on_success") step.success) _ [] [] (none_of area_drawn (link from (codes "on_success")) (option_to_list step.success) (λ key. refl))
        (none_of area_drawn (link from (codes "on_failure")) (option_to_list step.failure) (λ key. refl)))

-- the area of a control step
abbrev area_of : ℕ → List ℕ × Data → List (ℕ × Option (List ℕ))
area_of number m = if branches (step_of m).kind then (number, Some m.0) ∷ [] else []

region_area : (t : Bool) (number : ℕ) (key label : List ℕ) → filter_map area_drawn (if t then cluster number (Some key) label ∷ [] else []) ≡ (if t then (number, Some key) ∷ [] else [])
region_area true number key label = refl
region_area false number key label = refl

step_area : (books : List Book) (number : ℕ) (d : Drawn) → filter_map area_drawn (step_statements books number d) ≡ area_of number d.member
step_area books number d =
    both_of area_drawn (region_clusters number d.member) (step_node number d ∷ edges books (number, d.member.0) (step_of d.member)) (area_of number d.member) []
    (region_area (branches (step_of d.member).kind) number d.member.0 (codes "region of " ++ title d.member)) (edges_no_area books (number, d.member.0) (step_of d.member))
    ∙ append-nil (area_of number d.member)

-- those of the members that are control steps
one_filtered : {X Y : Type 0} (p : X → Bool) (f : X → Y) (x : X) (xs : List X) (t : Bool) → flat_map (λ y. if p y then f y ∷ [] else []) xs ≡ map f (filter p xs)
    → (if t then f x ∷ [] else []) ++ flat_map (λ y. if p y then f y ∷ [] else []) xs ≡ map f (cond t (x ∷ filter p xs) (filter p xs))
one_filtered p f x xs true e = ap (λ l. f x ∷ l) e
one_filtered p f x xs false e = e

filtered : {X Y : Type 0} (p : X → Bool) (f : X → Y) (xs : List X) → flat_map (λ x. if p x then f x ∷ [] else []) xs ≡ map f (filter p xs)
filtered p f [] = refl
filtered p f (x ∷ xs) = one_filtered p f x xs (p x) (filtered p f xs)

book_areas : (books : List Book) (number : ℕ) (d : DrawnBook) → IsDrawn d
    → filter_map area_drawn (book_statements books number d) ≡ (number, None) ∷ map (λ m. (number, Some m.0)) (filter (λ m. branches (step_of m).kind) (workflow d.tree))
book_areas books number d h = ap (λ l. (number, None) ∷ l)
    (both_of area_drawn (exception_edges number (book d.tree)) (flat_map (step_statements books number) d.steps) [] _ (none_of area_drawn (link (number, (book d.tree).start) (codes "workflow_exception")) (option_to_list (book d.tree).exception) (λ key. refl))
    (each_of area_drawn (step_statements books number) (λ step. area_of number step.member) d.steps (step_area books number)
    ∙ flat_by_members (area_of number) d.steps (workflow d.tree) h.members
    ∙ filtered (λ (m : List ℕ × Data). branches (step_of m).kind) (λ (m : List ℕ × Data). (number, Some m.0)) (workflow d.tree)))

books_areas : (books : List Book) (number : ℕ) (drawn : List DrawnBook) → All IsDrawn drawn → filter_map area_drawn (books_statements books number drawn) ≡ areas_from number (map (λ d. d.tree) drawn)
books_areas books number [] h = refl
books_areas books number (d ∷ ds) h =
    both_of area_drawn (book_statements books number d) (books_statements books (suc number) ds) _ _ (book_areas books number d (All-head IsDrawn d ds h)) (books_areas books (suc number) ds (All-tail IsDrawn d ds h))

pub clusters_are : (trees : List Data) (drawn : List DrawnBook) → AreDrawn trees drawn → filter_map area_drawn (statements drawn) ≡ areas_from 0 trees
clusters_are trees drawn h =
    both_of area_drawn (books_statements (map (λ d. book d.tree) drawn) 0 drawn) (frame (codes "}") ∷ []) _ [] (books_areas (map (λ d. book d.tree) drawn) 0 drawn h.each) refl
    ∙ append-nil (areas_from 0 (map (λ d. d.tree) drawn)) ∙ ap (areas_from 0) h.trees_are
