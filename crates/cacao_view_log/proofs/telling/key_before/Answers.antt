use Rattle.std.proofs.Common.{◌∙◌, ℕ, Option, [], ap, sym}
use Rattle.std.specs.Option.{option_map_or}
use Rattle.flow_core_rules.specs.Lines.{key_of}
use Rattle.cacao_view_log.proofs.telling.key_before.Goals as goal

pub returns-in-Some : goal.returns-in-Some
returns-in-Some c = c.key_at.ensures ∙ ap (λ (task : Option ℕ). option_map_or (key_of c.args.flow.now.seen) task []) (sym c.in-Some.is)

pub returns-in-None : goal.returns-in-None
returns-in-None c = ap (λ (task : Option ℕ). option_map_or (key_of c.args.flow.now.seen) task []) (sym c.in-None.is)
