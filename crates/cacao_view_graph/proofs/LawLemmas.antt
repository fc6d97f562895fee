-- The law of pictures.
use Rattle.std.proofs.Common.{◌∙◌, ℕ, suc, Bool, true, false, List, [], ◌∷◌, ◌++◌, map, Option, Some, None, option_to_list, refl, sym, ap, append_assoc}
use Rattle.std.specs.Prelude.{All, flat_map, codes, if◌then◌else◌}
use Rattle.std.proofs.lemmas.List.Elements.{All-append, All-cons, All-map, All-nil, All-weaker}
use Rattle.cacao_book.specs.Books.{book, step_of}
use Rattle.cacao_book.specs.declared.books.Book.{Book}
use Rattle.cacao_book.specs.declared.steps.Step.{Step}
use Rattle.cacao_book.specs.declared.step_kinds.StepKind.{StepKind}
use Rattle.cacao_book.specs.declared.step_kinds.StepKind.TheVariants.{Start, End, Action, PlaybookAction, Parallel, If, While, Switch}
use Rattle.cacao_check_steps.specs.Calls.{called}
use Rattle.cacao_view_graph.specs.Drawings.{Drawn, DrawnBook, book_statements, books_statements, branches, call_edge, case_edge, edges, exception_edges, head_edges, head_statements, link, links, next_edges, region_clusters, statements, step_statements}
use Rattle.cacao_view_graph.specs.Labels.{shape}
use Rattle.cacao_view_graph.specs.Laws.{IsLine, PictureLaw}
use Rattle.cacao_view_graph.specs.Pictures.{picture_of}
use Rattle.cacao_view_graph.specs.Quoting.{quoted}
use Rattle.cacao_view_graph.specs.Statements.{Place, Statement, cluster, cluster_text, edge, edge_text, frame, head_text, inside_text, line_of, node, node_text, pale_text, place_text, within}
use Rattle.cacao_view_graph.proofs.ApartLemmas.{names_apart, nodes_apart}
use Rattle.cacao_view_graph.proofs.AreaLemmas.{areas_apart, areas_named_apart}
use Rattle.cacao_view_graph.proofs.DrawLemmas.{clusters_are, edges_are, nodes_are}
use Rattle.cacao_view_graph.proofs.JoinLemmas.{edges_join}
use Rattle.cacao_view_graph.proofs.QuoteLemmas.{IsClean, clean_append, clean_quoted, clean_test, quoted_read, shown_plain}

-- ---- a statement is one line

line_after : (xs line : List ℕ) → IsClean xs → IsLine line → IsLine (xs ++ line)
line_after xs line h l = (xs ++ l.0, ap (λ r. xs ++ r) l.1 ∙ sym (append_assoc xs l.0 (10 ∷ [])), clean_append xs l.0 h l.2)

inside_line : (number : ℕ) (control : Option (List ℕ)) (text : List ℕ) → IsClean text → IsLine (inside_text number control text)
inside_line number None text h =
    line_after (codes " { ") _ (clean_test (codes " { ") refl) (line_after text (codes " }\n") h (codes " }", refl, clean_test (codes " }") refl))
inside_line number (Some key) text h =
    line_after (codes " { subgraph ") _ (clean_test (codes " { subgraph ") refl) (line_after (quoted (cluster_text number (Some key))) _ (clean_quoted (cluster_text number (Some key)))
    (line_after (codes " { ") _ (clean_test (codes " { ") refl) (line_after text (codes " } }\n") h (codes " } }", refl, clean_test (codes " } }") refl))))

within_line : (number : ℕ) (control : Option (List ℕ)) (text : List ℕ) → IsClean text → IsLine (within number control text)
within_line number control text h =
    line_after (codes "subgraph ") _ (clean_test (codes "subgraph ") refl)
    (line_after (quoted (cluster_text number None)) (inside_text number control text) (clean_quoted (cluster_text number None)) (inside_line number control text h))

clean_pale : (pale : Bool) → IsClean (pale_text pale)
clean_pale true = clean_test (codes ", color=gray, fontcolor=gray]") refl
clean_pale false = clean_test (codes "]") refl

clean_node : (place : Place) (label shape : List ℕ) (pale : Bool) → IsClean shape → IsClean (node_text place label shape pale)
clean_node place label shape pale h =
    let tail : List ℕ = codes ", shape=" ++ (shape ++ pale_text pale) in
    let clean_tail : IsClean tail = clean_append (codes ", shape=") (shape ++ pale_text pale) (clean_test (codes ", shape=") refl) (clean_append shape (pale_text pale) h (clean_pale pale)) in
    let rest : List ℕ = codes " [label=" ++ (quoted label ++ tail) in
    let clean_rest : IsClean rest = clean_append (codes " [label=") (quoted label ++ tail) (clean_test (codes " [label=") refl) (clean_append (quoted label) tail (clean_quoted label) clean_tail) in
    clean_append (quoted (place_text place)) rest (clean_quoted (place_text place)) clean_rest

head_line : (called : Option ℕ) → IsLine (head_text called)
head_line None = (codes "]", refl, clean_test (codes "]") refl)
head_line (Some number) =
    line_after (codes ", lhead=") _ (clean_test (codes ", lhead=") refl)
    (line_after (quoted (cluster_text number None)) (codes "]\n") (clean_quoted (cluster_text number None)) (codes "]", refl, clean_test (codes "]") refl))

edge_line : (from to : Place) (name : List ℕ) (called : Option ℕ) → IsLine (edge_text from to name called)
edge_line from to name called =
    line_after (quoted (place_text from)) _ (clean_quoted (place_text from)) (line_after (codes " -> ") _ (clean_test (codes " -> ") refl) (line_after (quoted (place_text to)) _ (clean_quoted (place_text to))
    (line_after (codes " [label=") _ (clean_test (codes " [label=") refl) (line_after (quoted name) (head_text called) (clean_quoted name) (head_line called)))))

-- what a statement says that is not quoted has no line feed
abbrev IsTidy : Statement → Type 0
IsTidy (frame text) = IsClean text
IsTidy (cluster number control label) = Unit {0}
IsTidy (node place control label shape pale) = IsClean shape
IsTidy (edge from to name called) = Unit {0}

line_is : (s : Statement) → IsTidy s → IsLine (line_of s)
line_is (frame text) h = (text, refl, h)
line_is (cluster number control label) h = within_line number control (codes "label=" ++ quoted label) (clean_append (codes "label=") (quoted label) (clean_test (codes "label=") refl) (clean_quoted label))
line_is (node place control label shape pale) h = within_line place.0 control (node_text place label shape pale) (clean_node place label shape pale h)
line_is (edge from to name called) h = edge_line from to name called

-- ---- all that is drawn is tidy

tidy_shape : (kind : StepKind) → IsClean (shape kind)
tidy_shape Start = clean_test (codes "ellipse") refl
tidy_shape End = clean_test (codes "doubleoctagon") refl
tidy_shape (Action commands agent targets in_args out_args) = clean_test (codes "box") refl
tidy_shape (PlaybookAction playbook version in_args out_args) = clean_test (codes "folder") refl
tidy_shape (Parallel next) = clean_test (codes "trapezium") refl
tidy_shape (If condition on_true on_false) = clean_test (codes "diamond") refl
tidy_shape (While condition on_true) = clean_test (codes "hexagon") refl
tidy_shape (Switch subject cases) = clean_test (codes "invhouse") refl

tidy_map : {X : Type 0} (f : X → Statement) (xs : List X) → ((x : X) → IsTidy (f x)) → All IsTidy (map f xs)
tidy_map f [] h = All-nil IsTidy
tidy_map f (x ∷ xs) h = All-cons IsTidy (f x) (map f xs) (h x) (tidy_map f xs h)

tidy_each : {X : Type 0} (f : X → List Statement) (xs : List X) → ((x : X) → All IsTidy (f x)) → All IsTidy (flat_map f xs)
tidy_each f [] h = All-nil IsTidy
tidy_each f (x ∷ xs) h = All-append IsTidy (f x) (flat_map f xs) (h x) (tidy_each f xs h)

tidy_links : (from : Place) (name : List ℕ) (key : Option (List ℕ)) → All IsTidy (links from name key)
tidy_links from name key = tidy_map (link from name) (option_to_list key) (λ k. tt)

tidy_heads : (from : Place) (kind : StepKind) → All IsTidy (head_edges from kind)
tidy_heads from Start = All-nil IsTidy
tidy_heads from End = All-nil IsTidy
tidy_heads from (Action commands agent targets in_args out_args) = All-nil IsTidy
tidy_heads from (PlaybookAction playbook version in_args out_args) = All-nil IsTidy
tidy_heads from (Parallel next) = tidy_map (link from (codes "next_steps")) next (λ k. tt)
tidy_heads from (If condition on_true on_false) = All-cons IsTidy (link from (codes "on_true") on_true) (links from (codes "on_false") on_false) tt (tidy_links from (codes "on_false") on_false)
tidy_heads from (While condition on_true) = All-cons IsTidy (link from (codes "on_true") on_true) [] tt (All-nil IsTidy)
tidy_heads from (Switch subject cases) = tidy_map (case_edge from) cases (λ c. tt)

tidy_edges : (books : List Book) (from : Place) (step : Step) → All IsTidy (edges books from step)
tidy_edges books from step =
    All-append IsTidy (next_edges from step) _
    (All-append IsTidy (links from (codes "on_completion") step.completion) _ (tidy_links from (codes "on_completion") step.completion)
    (All-append IsTidy (links from (codes "on_success") step.success) (links from (codes "on_failure") step.failure) (tidy_links from (codes "on_success") step.success) (tidy_links from (codes "on_failure") step.failure)))
    (All-append IsTidy (head_edges from step.kind) _ (tidy_heads from step.kind) (tidy_map (call_edge books from) (option_to_list (called books step)) (λ n. tt)))

tidy_region : (t : Bool) (s : Statement) → IsTidy s → All IsTidy (if t then s ∷ [] else [])
tidy_region true s h = All-cons IsTidy s [] h (All-nil IsTidy)
tidy_region false s h = All-nil IsTidy

tidy_step : (books : List Book) (number : ℕ) (d : Drawn) → All IsTidy (step_statements books number d)
tidy_step books number d =
    All-append IsTidy (region_clusters number d.member) _ (tidy_region (branches (step_of d.member).kind) _ tt)
    (All-cons IsTidy _ (edges books (number, d.member.0) (step_of d.member)) (tidy_shape (step_of d.member).kind) (tidy_edges books (number, d.member.0) (step_of d.member)))

tidy_book : (books : List Book) (number : ℕ) (d : DrawnBook) → All IsTidy (book_statements books number d)
tidy_book books number d =
    All-cons IsTidy _ (exception_edges number (book d.tree) ++ flat_map (step_statements books number) d.steps) tt
    (All-append IsTidy (exception_edges number (book d.tree)) (flat_map (step_statements books number) d.steps)
    (tidy_links (number, (book d.tree).start) (codes "workflow_exception") (book d.tree).exception) (tidy_each (step_statements books number) d.steps (tidy_step books number)))

tidy_books : (books : List Book) (number : ℕ) (drawn : List DrawnBook) → All IsTidy (books_statements books number drawn)
tidy_books books number [] = All-nil IsTidy
tidy_books books number (d ∷ ds) = All-append IsTidy (book_statements books number d) (books_statements books (suc number) ds) (tidy_book books number d) (tidy_books books (suc number) ds)

tidy : (drawn : List DrawnBook) → All IsTidy (statements drawn)
tidy drawn =
    let books = map (λ (d : DrawnBook). book d.tree) drawn in
    All-append IsTidy head_statements (books_statements books 0 drawn ++ frame (codes "}") ∷ [])
    (All-cons IsTidy (frame (codes "digraph {")) (frame (codes "compound=true") ∷ []) (clean_test (codes "digraph {") refl)
    (All-cons IsTidy (frame (codes "compound=true")) [] (clean_test (codes "compound=true") refl) (All-nil IsTidy)))
    (All-append IsTidy (books_statements books 0 drawn) (frame (codes "}") ∷ []) (tidy_books books 0 drawn) (All-cons IsTidy (frame (codes "}")) [] (clean_test (codes "}") refl) (All-nil IsTidy)))

lines_are : (drawn : List DrawnBook) → All IsLine (picture_of drawn)
lines_are drawn = All-map IsLine line_of (statements drawn) (All-weaker IsTidy (λ s. IsLine (line_of s)) line_is (statements drawn) (tidy drawn))

-- ---- the law

pub picture_law : PictureLaw
picture_law = record {
  nodes = nodes_are;
  edges = edges_are;
  clusters = clusters_are;
  apart = nodes_apart;
  named_apart = names_apart;
  areas_apart = areas_apart;
  areas_named_apart = areas_named_apart;
  joined = edges_join;
  read = quoted_read;
  plain = shown_plain;
  lines = lines_are;
}
