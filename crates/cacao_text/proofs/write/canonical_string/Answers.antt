-- What the writer holds is the canonical text.
use Rattle.std.proofs.Common.{◌∙◌}
use Rattle.serde_json.specs.Data.{string}
use Rattle.cacao_text.proofs.Written.{written}
use Rattle.cacao_text.proofs.write.canonical_string.Goals as goal

pub returns : goal.returns
returns c =
    written c.new-writer.result c.string.new.self (string c.args.text.now) _ (c.new-writer.ensures.before ∙ c.new.ensures.items) c.new-writer.ensures.tokens (c.in_ok-string.ensures.room.0, c.in_ok-string.ensures.ok) (c.from_vec.ensures ∙ c.into_inner.ensures.items)
