-- Promise: What holds of each picture: what it has, and how DOT reads it.
use Rattle.std.specs.Prelude.{◌≡◌, ◌≢◌, ℕ, suc, ◌<◌, ◌^◌, not, false, List, [], ◌∷◌, ◌++◌, map, filter, filter_map, flat_map, All, Contains, IsTrue, Option, Some, None, option_to_list, slice_get, ⊤}
use Rattle.std.specs.List.{AllByRecursion, list_all}
use Rattle.std.specs.Option.{option_map_or}
use Rattle.serde_json.specs.Data.{Data}
use Rattle.cacao_book.specs.Books.{book, step_of}
use Rattle.cacao_book.specs.declared.books.Book.{Book}
use Rattle.cacao_book.specs.declared.steps.Step.{Step}
use Rattle.cacao_book_shape.specs.Shape.{workflow}
use Rattle.cacao_check.specs.FirstBreak.{IsAccepted}
use Rattle.cacao_check.specs.declared.breaks.Mode.{Mode}
use Rattle.cacao_check_steps.specs.Calls.{called}
use Rattle.cacao_check_steps.specs.Links.{head_keys, next_keys}
use Rattle.cacao_view_graph.specs.Drawings.{DrawnBook, branches, statements}
use Rattle.cacao_view_graph.specs.Pictures.{AreDrawn, picture_of}
use Rattle.cacao_view_graph.specs.Quoting.{IsRead, has_barred, is_control, quoted, shown}
use Rattle.cacao_view_graph.specs.Statements.{Place, Statement, cluster, cluster_text, edge, node, place_text}

-- ---- what there is to draw

-- each step of playbooks, the first of which has this number
abbrev pub steps_from : ℕ → List Data → List Place
steps_from number [] = []
steps_from number (t ∷ ts) = map (λ m. (number, m.0)) (workflow t) ++ steps_from (suc number) ts

-- links, each by its two ends, to steps of the same playbook
abbrev pub ends_to : Place → List (List ℕ) → List (Place × Place)
ends_to from keys = map (λ key. (from, (from.0, key))) keys

-- the start of the playbook with this number
abbrev pub start_of : List Book → ℕ → Place
start_of books number = (number, option_map_or (λ b. b.start) (slice_get books number) [])

-- the links of a step, and its call of a given playbook
abbrev pub step_ends : List Book → Place → Step → List (Place × Place)
step_ends books from step =
    ends_to from (next_keys step ++ head_keys step.kind)
    ++ map (λ number. (from, start_of books number)) (option_to_list (called books step))

-- those of a playbook, and its exception
abbrev pub book_ends : List Book → ℕ → Data → List (Place × Place)
book_ends books number t =
    ends_to (number, (book t).start) (option_to_list (book t).exception)
    ++ flat_map (λ m. step_ends books (number, m.0) (step_of m)) (workflow t)

abbrev pub links_from : List Book → ℕ → List Data → List (Place × Place)
links_from books number [] = []
links_from books number (t ∷ ts) = book_ends books number t ++ links_from books (suc number) ts

-- a playbook, or the region of a control step of it
abbrev pub Area : Type 0
Area = ℕ × Option (List ℕ)

-- the playbooks, and the regions of their control steps
abbrev pub areas_from : ℕ → List Data → List Area
areas_from number [] = []
areas_from number (t ∷ ts) =
    (number, None) ∷ (map (λ m. (number, Some m.0)) (filter (λ m. branches (step_of m).kind) (workflow t)) ++ areas_from (suc number) ts)

-- ---- what a statement draws

abbrev pub place_drawn : Statement → Option Place
place_drawn (node place control label shape pale) = Some place
place_drawn _ = None

abbrev pub ends_drawn : Statement → Option (Place × Place)
ends_drawn (edge from to name called) = Some (from, to)
ends_drawn _ = None

abbrev pub area_drawn : Statement → Option Area
area_drawn (cluster number control label) = Some (number, control)
area_drawn _ = None

-- ---- the law

-- no two are the same
abbrev pub AreApart : {A : Type 0} → List A → Type 0
AreApart [] = ⊤
AreApart (x ∷ xs) = AllByRecursion (λ later. x ≢ later) xs × AreApart xs

-- one line feed, at the end
abbrev pub IsLine : List ℕ → Type 0
IsLine line = (front : List ℕ) × (line ≡ front ++ 10 ∷ []) × All (λ b. b ≢ 10) front

-- Each step is one node, each link one edge, and each playbook and each region of a control step one cluster, in the order of the playbooks
-- and their steps; no two steps are the same node, no two of these the same cluster, and the edges of playbooks that are accepted join nodes.
-- What a statement says of a step or a playbook stands quoted, and DOT reads a quoted text as what is shown of it, which is the text itself
-- where it has no control character but line feeds, and neither U+FFFE nor U+FFFF. Each statement is one line.
pub record PictureLaw : Type 0 where
  pub nodes : (trees : List Data) (drawn : List DrawnBook) → AreDrawn trees drawn
      → filter_map place_drawn (statements drawn) ≡ steps_from 0 trees
  pub edges : (trees : List Data) (drawn : List DrawnBook) → AreDrawn trees drawn
      → filter_map ends_drawn (statements drawn) ≡ links_from (map book trees) 0 trees
  pub clusters : (trees : List Data) (drawn : List DrawnBook) → AreDrawn trees drawn
      → filter_map area_drawn (statements drawn) ≡ areas_from 0 trees
  pub apart : (trees : List Data) → AreApart (steps_from 0 trees)
  pub named_apart : (one other : Place) → one.0 < 2 ^ 32 → other.0 < 2 ^ 32 → place_text one ≡ place_text other → one ≡ other
  pub areas_apart : (trees : List Data) → AreApart (areas_from 0 trees)
  pub areas_named_apart : (one other : Area) → one.0 < 2 ^ 32 → other.0 < 2 ^ 32
      → cluster_text one.0 one.1 ≡ cluster_text other.0 other.1 → one ≡ other
  pub joined : (trees : List Data) (mode : Mode) → IsAccepted trees mode
      → All (λ ends. Contains (steps_from 0 trees) ends.0 × Contains (steps_from 0 trees) ends.1) (links_from (map book trees) 0 trees)
  pub read : (text : List ℕ) → IsRead (quoted text) (shown text)
  pub plain : (text : List ℕ) → IsTrue (list_all (λ b. not (is_control b)) text) → has_barred 0 0 text ≡ false → shown text ≡ text
  pub lines : (drawn : List DrawnBook) → All IsLine (picture_of drawn)
