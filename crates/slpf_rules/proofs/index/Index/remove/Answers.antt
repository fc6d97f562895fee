use Rattle.std.proofs.Common.{sym, ap, ◌∙◌, arith, count_by}
use Rattle.std.specs.BTreeMap.{is_at}
use Rattle.std.specs.Map.{keys_of}
use Rattle.slpf_rules.specs.AnyNets.{net_cmp}
use Rattle.slpf_rules.specs.Widths.{has_width_of}
use Rattle.slpf_rules.proofs.Counting.{is_some-lookup, one-le-count, count_by-remove_key, has_width_of-same}
use Rattle.slpf_rules.proofs.SoleLemmas.{sole_gone}
use Rattle.slpf_rules.proofs.index.Index.remove.Goals as goal

pub remove-requires : goal.remove-requires
remove-requires c =
    let net = c.args.net.now in
    let entries = c.self.inside.nets.entries in
    let present = sym (is_some-lookup (is_at (net_cmp net)) entries) ∙ c.if-take.ensures.present in
    omega (arith, c.self.invariant.counts net, one-le-count net (keys_of entries) present)

pub invariant_of-self : goal.invariant_of-self
invariant_of-self c =
    let net = c.args.net.now in
    let entries = c.self.inside.nets.entries in
    let present = sym (is_some-lookup (is_at (net_cmp net)) entries) ∙ c.if-take.ensures.present in
    record {
      counts = λ other.
          let counts = count_by-remove_key (has_width_of other) net (keys_of entries) (λ x same. has_width_of-same other net x same) present in
          let keys = ap (count_by (has_width_of other)) c.if-take.ensures.keys in
          omega (arith, counts, keys, c.remove.ensures other, c.self.invariant.counts other);
      soles = λ other.
          sole_gone (is_at (net_cmp net) other) other _ _ _ _ _ (c.self.invariant.soles other) (c.leave.ensures other) c.if-take.ensures.none (c.take.ensures.taken other);
    }
