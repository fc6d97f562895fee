use Rattle.std.proofs.Common.{◌∙◌, ◌≤◌, ℕ, List, ap, length, subst, sym}
use Rattle.serde_json.specs.Data.{Data}
use Rattle.cacao_json.specs.Profile.{IsSorted}
use Rattle.cacao_json.specs.Reading.{tree}
use Rattle.cacao_text.specs.Canon.{canon}
use Rattle.cacao_cli_rehearsal.proofs.Lengths.{text_short}
use Rattle.cacao_cli_rehearsal.proofs.Plain.{rehearsal_reads}
use Rattle.cacao_cli_rehearsal.proofs.book.rehearsal_text.Goals as goal

pub returns-clause-short : goal.returns-clause-short
returns-clause-short c few =
    let is = c.from_vec.ensures ∙ c.into_vec.ensures ∙ c.in_ok-text.ensures ∙ ap (λ (d : Data). canon d) c.in_ok-tree.ensures in
    subst (λ (t : List ℕ). length t ≤ 1048576) (sym is) (text_short c.args.positions few)

pub returns-clause-reads : goal.returns-clause-reads
returns-clause-reads c =
    let is = c.from_vec.ensures ∙ c.into_vec.ensures ∙ c.in_ok-text.ensures ∙ ap (λ (d : Data). canon d) c.in_ok-tree.ensures in
    ap tree is ∙ rehearsal_reads c.args.positions (subst (λ (d : Data). IsSorted d) c.in_ok-tree.ensures c.tree_law.ensures)
