-- The first name, and the words behind it.
use Rattle.std.proofs.Common.{◌≡◌, subst, Option, IfOk}
use Rattle.std.specs.Prelude.{option_map}
use Rattle.cacao_cli_words.specs.Commands.{request_by}
use Rattle.cacao_cli_words.specs.Requests.{Request}
use Rattle.cacao_cli_words.proofs.PairLemmas.{asks-first}
use Rattle.cacao_cli_words.proofs.audit_words.audit_asked.Goals as goal

pub returns-in-len1-up : goal.returns-in-len1-up
returns-in-len1-up c = subst (λ (r : Option Request). IfOk c.audit_with.result (λ o. option_map request_by o ≡ r)) (asks-first c.args.names.now _ c.in-len1-up.len_at_least) c.audit_with.ensures
