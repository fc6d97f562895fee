-- The trees so far are those of the texts before the one that is read.
use Rattle.std.proofs.Common.{◌≡◌, ◌⊎◌, inl, inr, ◌∙◌, sym, ap, subst, ℕ, ◌+◌, List, ◌∷◌, [], ◌++◌, map, take, drop, get_or, Ok, Err}
use Rattle.std.proofs.lemmas.List.{map-append}
use Rattle.serde_json.specs.Data.{Data}
use Rattle.cacao_json.specs.Tree.{data_of}
use Rattle.cacao_cli_ends.specs.Told.{end_of}
use Rattle.cacao_cli_looks.specs.Command.{text_of}
use Rattle.cacao_cli_ends.specs.Ends.{End, no_memory}
use Rattle.cacao_cli_ends.specs.Files.{NamedText}
use Rattle.cacao_cli_ends.specs.Work.{tree_of, trees_of}
use Rattle.cacao_cli_looks.specs.declared.file_text.FileText.{FileText}
use Rattle.cacao_cli_ends.proofs.ReadLemmas.{map-split, map-more}
use Rattle.cacao_cli_ends.proofs.TreeLemmas.{trees-more, trees-stopped}
use Rattle.cacao_cli_looks.proofs.tree.trees_of.Goals as goal

stopped : (before after all : List NamedText) (text : NamedText) (roots : List Data) (end : End) → all ≡ before ++ text ∷ after → trees_of before ≡ Ok roots → (tree_of text ≡ Err end) ⊎ (end ≡ no_memory)
    → (trees_of all ≡ Err end) ⊎ (end ≡ no_memory)
stopped before after all text roots end is so (inl e) = inl (ap trees_of is ∙ trees-stopped before text after roots end so e)
stopped before after all text roots end is so (inr e) = inr e

pub returns-in-Err : goal.returns-in-Err
returns-in-Err c =
    let texts : List FileText = c.args.texts.now in
    let n : ℕ = c.loop-text.text-index in
    let here : get_or texts n c.text-item.result ≡ c.text-item.result = sym c.text-item.is in
    stopped (map text_of (take n texts)) (map text_of (drop (n + 1) texts)) (map text_of texts) (text_of (get_or texts n c.text-item.result)) (map data_of c.loop-text.trees.items) (end_of c.in-Err.end)
    (map-split text_of texts n c.text-item.result c.loop-text-test.true) c.loop-text.invariant
    (subst (λ (t : FileText). (tree_of (text_of t) ≡ Err (end_of c.in-Err.end)) ⊎ (end_of c.in-Err.end ≡ no_memory)) (sym here) c.in-Err.ensures)

pub loop-text-preserved : goal.loop-text-preserved
loop-text-preserved c =
    let texts : List FileText = c.args.texts.now in
    let n : ℕ = c.loop-text.text-index in
    let here : get_or texts n c.text-item.result ≡ c.text-item.result = sym c.text-item.is in
    ap trees_of (map-more text_of texts n c.text-item.result c.loop-text-test.true)
    ∙ trees-more (map text_of (take n texts)) (text_of (get_or texts n c.text-item.result)) (map data_of c.loop-text.trees.items) (data_of c.in-Ok.tree) c.loop-text.invariant
    (ap (λ (t : FileText). tree_of (text_of t)) here ∙ c.in-Ok.ensures)
    ∙ ap Ok (sym (ap (map data_of) c.in-Ok-push.ensures.items ∙ map-append data_of c.loop-text.trees.items (c.in-Ok.tree ∷ [])))
