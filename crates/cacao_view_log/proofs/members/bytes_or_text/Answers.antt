-- Bytes are a text, or they are none.
use Rattle.cacao_view_log.proofs.TextLemmas.{of_bytes, of_text}
use Rattle.cacao_view_log.proofs.members.bytes_or_text.Goals as goal

pub returns-in-Ok : goal.returns-in-Ok
returns-in-Ok c = of_text c.args.bytes.now c.in-Ok.text.now c.text_tree.result c.in-Ok.ensures.cases c.text_tree.ensures

pub returns-in-Err : goal.returns-in-Err
returns-in-Err c = of_bytes c.args.bytes.now c.bytes_tree.result c.in-Err.ensures.cases.0 c.bytes_tree.ensures
