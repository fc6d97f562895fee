-- Lines that are added one after another.
use Rattle.std.proofs.Common.{◌≡◌, ◌∙◌, Bool, Some, true, ℕ, suc, ◌+◌, ◌<◌, ◌≤◌, List, [], ◌∷◌, ◌++◌, length, get_or, drop, map, sym, ap, append_assoc, append-nil, arith}
use Rattle.std.specs.Prelude.{codes, if◌then◌else◌}
use Rattle.std.proofs.lemmas.List.{drop_all, drop_more, map-append}
use Rattle.serde_json.specs.Data.{Data}
use Rattle.cacao_book.specs.Books.{step_of}
use Rattle.cacao_book.specs.declared.books.Book.{Book}
use Rattle.cacao_view_graph.specs.Drawings.{DrawnBook, book_statements, books_statements, branches, region_clusters}
use Rattle.cacao_view_graph.specs.Labels.{title}
use Rattle.cacao_view_graph.specs.Statements.{Statement, cluster, line_of}

-- ---- one thing after another

-- what is written, one thing on: F says what is written of a list, h what of one thing
pub added_more : {X Y : Type 0} (F : List X → List Y) (h : X → List Y) (xs : List X) (i : ℕ) (x : X) (old new total : List Y) → ((z : X) (rest : List X) → F (z ∷ rest) ≡ h z ++ F rest)
    → i < length xs → x ≡ get_or xs i x → new ≡ old ++ h x → old ++ F (drop i xs) ≡ total → new ++ F (drop (i + 1) xs) ≡ total
added_more F h xs i x old new total step lt at is before =
    let rest = drop (i + 1) xs in
    ap (λ l. l ++ F rest) is ∙ append_assoc old (h x) (F rest) ∙ ap (λ l. old ++ l) (sym (step x rest)) ∙ ap (λ z. old ++ F (z ∷ rest)) at
    ∙ ap (λ l. old ++ F l) (sym (drop_more xs i x lt)) ∙ before

-- and at the end
pub added_all : {X Y : Type 0} (F : List X → List Y) (xs : List X) (i : ℕ) (old total : List Y) → F [] ≡ [] → length xs ≤ i → old ++ F (drop i xs) ≡ total → old ≡ total
added_all F xs i old total none over before =
    sym (append-nil old) ∙ ap (λ l. old ++ l) (sym none) ∙ ap (λ l. old ++ F l) (sym (drop_all i xs over)) ∙ before

-- ---- lines of statements

pub lines_then : (old mid new : List (List ℕ)) (xs ys : List Statement) → mid ≡ old ++ map line_of xs → new ≡ mid ++ map line_of ys → new ≡ old ++ map line_of (xs ++ ys)
lines_then old mid new xs ys first second =
    second ∙ ap (λ l. l ++ map line_of ys) first ∙ append_assoc old (map line_of xs) (map line_of ys) ∙ ap (λ l. old ++ l) (sym (map-append line_of xs ys))

-- the cluster of a region alone
pub region_lines : (old new : List (List ℕ)) (number : ℕ) (m : List ℕ × Data) (key label line : List ℕ) → branches (step_of m).kind ≡ true → key ≡ m.0 → label ≡ codes "region of " ++ title m
    → line ≡ line_of (cluster number (Some key) label) → new ≡ old ++ line ∷ [] → new ≡ old ++ map line_of (region_clusters number m)
region_lines old new number m key label line control at words is pushed =
    pushed ∙ ap (λ (l : List ℕ). old ++ l ∷ []) (is ∙ ap (λ (k : List ℕ). line_of (cluster number (Some k) label)) at ∙ ap (λ (l : List ℕ). line_of (cluster number (Some m.0) l)) words)
    ∙ ap (λ (b : Bool). old ++ map line_of (if b then cluster number (Some m.0) (codes "region of " ++ title m) ∷ [] else [])) (sym control)

-- the cluster of a region, a step and its links
pub step_lines : (old r n e : List (List ℕ)) (regions more : List Statement) (one : Statement) → r ≡ old ++ map line_of regions → n ≡ r ++ line_of one ∷ [] → e ≡ n ++ map line_of more → e ≡ old ++ map line_of (regions ++ one ∷ more)
step_lines old r n e regions more one first second third =
    lines_then old r e regions (one ∷ more) first (third ∙ ap (λ l. l ++ map line_of more) second ∙ append_assoc r (line_of one ∷ []) (map line_of more))

-- the cluster of a playbook, its exception and its steps
pub book_lines : (old h x e : List (List ℕ)) (one : Statement) (exception steps : List Statement) → h ≡ old ++ line_of one ∷ [] → x ≡ h ++ map line_of exception → e ≡ x ++ map line_of steps → e ≡ old ++ map line_of (one ∷ (exception ++ steps))
book_lines old h x e one exception steps first second third =
    lines_then old h e (one ∷ []) (exception ++ steps) first (lines_then h x e exception steps second third)

-- one playbook more
pub books_next : {X : Type 0} (f : X → DrawnBook) (books : List Book) (xs : List X) (i : ℕ) (x : X) (old new total : List (List ℕ)) → i < length xs → x ≡ get_or xs i x → new ≡ old ++ map line_of (book_statements books i (f x))
    → old ++ map line_of (books_statements books i (map f (drop i xs))) ≡ total → new ++ map line_of (books_statements books (i + 1) (map f (drop (i + 1) xs))) ≡ total
books_next f books xs i x old new total lt at is before =
    let rest = map f (drop (i + 1) xs) in
    let this = book_statements books i (f x) in
    let more = books_statements books (i + 1) rest in
    let next : i + 1 ≡ suc i = omega arith in
    ap (λ l. l ++ map line_of more) is ∙ append_assoc old (map line_of this) (map line_of more) ∙ ap (λ l. old ++ l) (sym (map-append line_of this more))
    ∙ ap (λ k. old ++ map line_of (this ++ books_statements books k rest)) next ∙ ap (λ z. old ++ map line_of (books_statements books i (f z ∷ rest))) at
    ∙ ap (λ l. old ++ map line_of (books_statements books i (map f l))) (sym (drop_more xs i x lt)) ∙ before
