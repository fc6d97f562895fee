use Rattle.std.proofs.Common.{sym, ap, subst, ◌∙◌}
use Rattle.std.specs.Prelude.{OnOk}
use Rattle.serde_json.specs.Data.{object}
use Rattle.cacao_json.specs.Tree.{data_of}
use Rattle.cacao_text.specs.Canon.{unsigned_of}
use Rattle.cacao_text.specs.Arranged.{value_tokens, Adds}
use Rattle.cacao_text.proofs.Unsigned.{unsigned_of-other}
use Rattle.cacao_text.proofs.write.write_book.Goals as goal

pub returns-in-Members : goal.returns-in-Members
returns-in-Members c =
    let same = ap (λ ms. unsigned_of (object ms)) c.as_slice.ensures.value ∙ ap (λ t. unsigned_of (data_of t)) (sym c.in-Members.is) in
    subst (λ d. OnOk c.write_unsigned.result (Adds c.args.writer.now c.write_unsigned.new.writer (value_tokens d))) same c.write_unsigned.ensures

pub returns-in_default : goal.returns-in_default
returns-in_default c =
    subst (λ d. OnOk c.write_tree.result (Adds c.args.writer.now c.write_tree.new.writer (value_tokens d))) (sym (unsigned_of-other c.args.tree.now c.in_default.not-Members)) c.write_tree.ensures
