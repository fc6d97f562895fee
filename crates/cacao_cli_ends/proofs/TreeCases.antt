-- The trees of texts, by cases.
use Rattle.std.proofs.Common.{◌≡◌, ◌⊎◌, inl, inr, ◌∙◌, refl, ap, List, [], ◌∷◌, Some, None, Result, Ok, Err}
use Rattle.serde_json.specs.Data.{Data}
use Rattle.cacao_json.specs.Reading.{tree}
use Rattle.cacao_cli_words.specs.Words.{Text}
use Rattle.cacao_cli_ends.specs.Ends.{End, not_readable}
use Rattle.cacao_cli_ends.specs.Files.{NamedText, item_then}
use Rattle.cacao_cli_ends.specs.Work.{trees_of}
use Rattle.cacao_cli_ends.specs.declared.reason.Reason.{Reason}
use Rattle.cacao_cli_ends.proofs.TreeLemmas.{TreeCase, has_tree, treeless, tree_case}

-- ---- their trees

abbrev pub Roots : List NamedText → List Data → Type 0
Roots [] [] = Unit {0}
Roots [] (root ∷ roots) = ⊥
Roots (text ∷ texts) [] = ⊥
Roots (text ∷ texts) (root ∷ roots) = (tree text.bytes ≡ Some root) × Roots texts roots

abbrev pub Treeless : List NamedText → Type 0
Treeless [] = ⊥
Treeless (text ∷ texts) = (tree text.bytes ≡ None) ⊎ Treeless texts

pub data TreesCase (texts : List NamedText) : Type 0 where
  all_trees : (roots : List Data) → Roots texts roots → trees_of texts ≡ Ok roots → TreesCase texts
  one_treeless : (name : Text) (reason : Reason) → Treeless texts → trees_of texts ≡ Err (not_readable name reason) → TreesCase texts

pub trees_case : (texts : List NamedText) → TreesCase texts
trees_case [] = all_trees [] tt refl
trees_case (text ∷ texts) = go (tree_case text.name text.bytes) (trees_case texts)
  where
    go : TreeCase text.name text.bytes → TreesCase texts → TreesCase (text ∷ texts)
    go (treeless reason none is) rest = one_treeless text.name reason (inl none) (ap (λ (r : Result Data End). item_then r (trees_of texts)) is)
    go (has_tree root has is) (all_trees roots r e) = all_trees (root ∷ roots) (has, r) (ap (λ (r : Result Data End). item_then r (trees_of texts)) is ∙ ap (item_then (Ok root)) e)
    go (has_tree root has is) (one_treeless name reason t e) = one_treeless name reason (inr t) (ap (λ (r : Result Data End). item_then r (trees_of texts)) is ∙ ap (item_then (Ok root)) e)
