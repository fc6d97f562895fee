-- Promise: The statements of a picture, and the line of each in DOT. A playbook is named by its number, a step by that and its key.
use Rattle.std.specs.Prelude.{ℕ, Bool, true, false, List, [], ◌∷◌, ◌++◌, codes, decimal, Option, Some, None}
use Rattle.cacao_view_graph.specs.Quoting.{quoted}

-- the number of a playbook, and the key of a step of it
abbrev pub Place : Type 0
Place = ℕ × List ℕ

-- A statement: one that frames the others; a cluster, of a playbook or of the region of a control step of it; a step, in such a cluster and
-- perhaps pale; a link, perhaps to the cluster of a playbook.
pub data Statement : Type 0 where
  frame : (text : List ℕ) → Statement
  cluster : (number : ℕ) (control : Option (List ℕ)) (label : List ℕ) → Statement
  node : (place : Place) (control : Option (List ℕ)) (label shape : List ℕ) (pale : Bool) → Statement
  edge : (from to : Place) (name : List ℕ) (called : Option ℕ) → Statement

-- ---- names

-- a number and a key, with a space between them
abbrev pub place_text : Place → List ℕ
place_text place = decimal place.0 ++ 32 ∷ place.1

-- the cluster of a playbook, and that of the region of a control step of it
abbrev pub cluster_text : ℕ → Option (List ℕ) → List ℕ
cluster_text number None = codes "cluster " ++ decimal number
cluster_text number (Some key) = codes "cluster " ++ place_text (number, key)

-- ---- lines

-- what stands in the cluster of a playbook, or in that of a region within it
abbrev pub inside_text : ℕ → Option (List ℕ) → List ℕ → List ℕ
inside_text number None text = codes " { " ++ (text ++ codes " }\n")
inside_text number (Some key) text =
    codes " { subgraph " ++ (quoted (cluster_text number (Some key)) ++ (codes " { " ++ (text ++ codes " } }\n")))

abbrev pub within : ℕ → Option (List ℕ) → List ℕ → List ℕ
within number control text = codes "subgraph " ++ (quoted (cluster_text number None) ++ inside_text number control text)

-- the end of the words of a step
abbrev pub pale_text : Bool → List ℕ
pale_text true = codes ", color=gray, fontcolor=gray]"
pale_text false = codes "]"

abbrev pub node_text : Place → List ℕ → List ℕ → Bool → List ℕ
node_text place label shape pale =
    quoted (place_text place) ++ (codes " [label=" ++ (quoted label ++ (codes ", shape=" ++ (shape ++ pale_text pale))))

-- the end of a link that leads to the cluster of a playbook
abbrev pub head_text : Option ℕ → List ℕ
head_text None = codes "]\n"
head_text (Some called) = codes ", lhead=" ++ (quoted (cluster_text called None) ++ codes "]\n")

abbrev pub edge_text : Place → Place → List ℕ → Option ℕ → List ℕ
edge_text from to name called =
    quoted (place_text from)
    ++ (codes " -> " ++ (quoted (place_text to) ++ (codes " [label=" ++ (quoted name ++ head_text called))))

-- the line of a statement, with its line feed
abbrev pub line_of : Statement → List ℕ
line_of (frame text) = text ++ 10 ∷ []
line_of (cluster number control label) = within number control (codes "label=" ++ quoted label)
line_of (node place control label shape pale) = within place.0 control (node_text place label shape pale)
line_of (edge from to name called) = edge_text from to name called
