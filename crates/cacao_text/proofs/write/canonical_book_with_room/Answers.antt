-- What the writer holds is the canonical text without signatures.
use Rattle.std.proofs.Common.{◌∙◌}
use Rattle.cacao_json.specs.Tree.{data_of}
use Rattle.cacao_text.specs.Canon.{unsigned_of}
use Rattle.cacao_text.proofs.Written.{written}
use Rattle.cacao_text.proofs.write.canonical_book_with_room.Goals as goal

pub returns : goal.returns
returns c =
    written c.new-writer.result c.write_book.new.writer (unsigned_of (data_of c.args.tree.now)) _ (c.new-writer.ensures.before ∙ c.in_ok-with_capacity.ensures.items) c.new-writer.ensures.tokens c.in_ok-write_book.ensures (c.from_vec.ensures ∙ c.into_inner.ensures.items)
