use Rattle.std.proofs.Common.{ap, ◌∙◌}
use Rattle.std.specs.Map.{keys_of}
use Rattle.std.specs.BTreeSet.{insert_key}
use Rattle.slpf_rules.specs.AnyNets.{net_cmp}
use Rattle.slpf_rules.proofs.Counting.{keys-insert_entry}
use Rattle.slpf_rules.proofs.index.put.Goals as goal

pub returns-clause-keys : goal.returns-clause-keys
returns-clause-keys c =
    ap keys_of c.in_ok-insert-2.ensures.entries
    ∙ keys-insert_entry c.args.net _ c.put_under.new.nets.entries
    ∙ ap (λ keys. insert_key net_cmp keys c.args.net) c.put_under.ensures.same_keys
