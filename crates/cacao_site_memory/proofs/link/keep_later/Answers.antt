use Rattle.std.proofs.Common.{rules}
use Rattle.std.proofs.lemmas.Fn.{filter_same}
use Rattle.cacao_site_memory.specs.Parcels.{is_later}
use Rattle.cacao_site_memory.proofs.link.keep_later.Goals as goal

pub returns-clause-items : goal.returns-clause-items
returns-clause-items c = filter_same _ (is_later c.args.now) _ (λ x b f' k. search rules) _ _ c.retain.ensures.filtered
