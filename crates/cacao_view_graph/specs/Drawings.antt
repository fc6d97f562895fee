-- Promise: What is drawn of playbooks: statements, from each step and each of its links.
use Rattle.std.specs.Prelude.{ℕ, suc, Bool, true, false, List, [], ◌∷◌, ◌++◌, map, codes, flat_map, Option, Some, None, option_to_list, slice_get, if◌then◌else◌}
use Rattle.std.specs.Option.{option_map_or}
use Rattle.serde_json.specs.Data.{Data}
use Rattle.cacao_book.specs.Books.{book, step_of}
use Rattle.cacao_book.specs.declared.books.Book.{Book}
use Rattle.cacao_book.specs.declared.cases.Case.{Case}
use Rattle.cacao_book.specs.declared.steps.Step.{Step}
use Rattle.cacao_book.specs.declared.step_kinds.StepKind.{StepKind}
use Rattle.cacao_book.specs.declared.step_kinds.StepKind.TheVariants.{Parallel, If, While, Switch}
use Rattle.cacao_check_steps.specs.Calls.{called}
use Rattle.cacao_view_graph.specs.Labels.{label_text, shape, title}
use Rattle.cacao_view_graph.specs.Statements.{Place, Statement, cluster, edge, frame, node}

-- A step with its key, the key of the control step in whose cluster it is drawn, what is noted there, and whether it is pale.
pub record Drawn : Type 0 where
  pub member : List ℕ × Data
  pub home : Option (List ℕ)
  pub notes : List ℕ
  pub pale : Bool

-- a playbook and its steps in order
pub record DrawnBook : Type 0 where
  pub tree : Data
  pub steps : List Drawn

-- ---- links

-- a link of a step, named by what it is
abbrev pub link : Place → List ℕ → List ℕ → Statement
link from name key = edge from (from.0, key) name None

-- the same, if there is one
abbrev pub links : Place → List ℕ → Option (List ℕ) → List Statement
links from name key = map (link from name) (option_to_list key)

abbrev pub next_edges : Place → Step → List Statement
next_edges from step =
    links from (codes "on_completion") step.completion
    ++ (links from (codes "on_success") step.success ++ links from (codes "on_failure") step.failure)

-- a case of a switch, named by its value
abbrev pub case_edge : Place → Case → Statement
case_edge from case = link from (codes "case " ++ case.value) case.step

abbrev pub head_edges : Place → StepKind → List Statement
head_edges from (Parallel next) = map (link from (codes "next_steps")) next
head_edges from (If condition on_true on_false) =
    link from (codes "on_true") on_true ∷ links from (codes "on_false") on_false
head_edges from (While condition on_true) = link from (codes "on_true") on_true ∷ []
head_edges from (Switch subject cases) = map (case_edge from) cases
head_edges from _ = []

-- a call, to the start of a given playbook, up to the cluster of that
abbrev pub call_edge : List Book → Place → ℕ → Statement
call_edge books from number =
    edge from (number, option_map_or (λ b. b.start) (slice_get books number) []) (codes "playbook_id") (Some number)

abbrev pub call_edges : List Book → Place → Step → List Statement
call_edges books from step = map (call_edge books from) (option_to_list (called books step))

abbrev pub edges : List Book → Place → Step → List Statement
edges books from step = next_edges from step ++ (head_edges from step.kind ++ call_edges books from step)

-- ---- steps

abbrev pub branches : StepKind → Bool
branches (Parallel next) = true
branches (If condition on_true on_false) = true
branches (While condition on_true) = true
branches (Switch subject cases) = true
branches _ = false

-- the cluster of the region of a control step
abbrev pub region_clusters : ℕ → List ℕ × Data → List Statement
region_clusters number m =
    if branches (step_of m).kind then cluster number (Some m.0) (codes "region of " ++ title m) ∷ [] else []

abbrev pub step_node : ℕ → Drawn → Statement
step_node number drawn =
    node (number, drawn.member.0) drawn.home (label_text (title drawn.member) (step_of drawn.member).kind ++ drawn.notes)
    (shape (step_of drawn.member).kind) drawn.pale

abbrev pub step_statements : List Book → ℕ → Drawn → List Statement
step_statements books number drawn =
    region_clusters number drawn.member
    ++ step_node number drawn ∷ edges books (number, drawn.member.0) (step_of drawn.member)

-- ---- playbooks

-- the step that follows a failure of the whole run, from the one at which it starts
abbrev pub exception_edges : ℕ → Book → List Statement
exception_edges number b = links (number, b.start) (codes "workflow_exception") b.exception

abbrev pub book_statements : List Book → ℕ → DrawnBook → List Statement
book_statements books number drawn =
    cluster number None (title ((book drawn.tree).id, drawn.tree))
    ∷ (exception_edges number (book drawn.tree) ++ flat_map (step_statements books number) drawn.steps)

-- from this number on
abbrev pub books_statements : List Book → ℕ → List DrawnBook → List Statement
books_statements books number [] = []
books_statements books number (drawn ∷ more) = book_statements books number drawn ++ books_statements books (suc number) more

-- edges may end at clusters
abbrev pub head_statements : List Statement
head_statements = frame (codes "digraph {") ∷ frame (codes "compound=true") ∷ []

abbrev pub statements : List DrawnBook → List Statement
statements drawn =
    head_statements ++ (books_statements (map (λ d. book d.tree) drawn) 0 drawn ++ frame (codes "}") ∷ [])
