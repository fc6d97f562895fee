-- What the writer holds is the canonical text.
use Rattle.std.proofs.Common.{◌∙◌}
use Rattle.cacao_json.specs.Tree.{data_of}
use Rattle.cacao_text.proofs.Written.{written}
use Rattle.cacao_text.proofs.write.canonical.Goals as goal

pub returns : goal.returns
returns c =
    written c.new-writer.result c.write_tree.new.writer (data_of c.args.tree.now) _ (c.new-writer.ensures.before ∙ c.new.ensures.items) c.new-writer.ensures.tokens c.in_ok-write_tree.ensures (c.from_vec.ensures ∙ c.into_inner.ensures.items)
