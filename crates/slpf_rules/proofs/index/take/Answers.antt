use Rattle.std.proofs.Common.{ap, ◌∙◌}
use Rattle.std.specs.Map.{keys_of}
use Rattle.std.specs.Set.{remove_key}
use Rattle.std.specs.BTreeMap.{is_at}
use Rattle.slpf_rules.specs.AnyNets.{net_cmp}
use Rattle.slpf_rules.proofs.Counting.{keys-remove_entry}
use Rattle.slpf_rules.proofs.index.take.Goals as goal

pub returns-clause-keys : goal.returns-clause-keys
returns-clause-keys c =
    let test = is_at (net_cmp c.args.net.now) in
    ap keys_of c.remove.ensures.entries
    ∙ keys-remove_entry test c.take_under.new.nets.entries
    ∙ ap (remove_key test) c.take_under.ensures.same_keys
