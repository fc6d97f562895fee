-- Fewer than two words are left.
use Rattle.std.proofs.Common.{◌≡◌, ◌∙◌, sym, subst, map}
use Rattle.std.specs.Prelude.{option_map}
use Rattle.cacao_cli_words.specs.Commands.{filter_of}
use Rattle.cacao_cli_words.specs.Requests.{agent_number, pairs_of}
use Rattle.cacao_cli_words.proofs.PairLemmas.{pairs-end, pairs-odd, texts}
use Rattle.cacao_cli_words.proofs.audit_words.pairs_of.Goals as goal
use Rattle.cacao_cli_words.proofs.audit_words.pairs_of.Goals.{then-is_empty, else-is_empty}

pub returns : goal.returns
returns c = elim c.if-is_empty.branch [
  | then-is_empty w ↦ subst (λ r. option_map (λ filters. map filter_of filters.items) r ≡ pairs_of agent_number (texts c.args.names.now)) (sym w.result-is)
      (pairs-end filter_of agent_number c.loop-rest.filters.items c.args.names.now c.loop-rest.rest.now c.loop-rest.invariant c.in_default.len_below (sym c.is_empty.ensures ∙ w.if-is_empty.true))
  | else-is_empty w ↦ subst (λ r. option_map (λ filters. map filter_of filters.items) r ≡ pairs_of agent_number (texts c.args.names.now)) (sym w.result-is)
      (pairs-odd filter_of agent_number c.loop-rest.filters.items c.args.names.now c.loop-rest.rest.now c.loop-rest.invariant c.in_default.len_below (sym c.is_empty.ensures ∙ w.if-is_empty.false))
]
