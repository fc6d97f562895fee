use Rattle.std.proofs.Common.{◌≡◌, cond, None, Some, [], unwrap_or, nat_cmp, sym, ap, subst, ◌∙◌, arith, is_some, count_by}
use Rattle.std.specs.BTreeMap.{is_at}
use Rattle.std.specs.Bool.{OnTrue}
use Rattle.std.specs.BTreeSet.{insert_key}
use Rattle.std.specs.Map.{keys_of}
use Rattle.slpf_rules.specs.IndexEntries.{at}
use Rattle.slpf_rules.specs.AnyNets.{net_cmp}
use Rattle.slpf_rules.specs.Widths.{has_width_of}
use Rattle.slpf_rules.proofs.Counting.{is_some-lookup, count_by-insert_key}
use Rattle.slpf_rules.proofs.SoleLemmas.{still_sole, sole_added}
use Rattle.slpf_rules.proofs.index.Index.add.Goals as goal

pub invariant_of-self-in_err-added : goal.invariant_of-self-in_err-added
invariant_of-self-in_err-added c =
    let net = c.args.net in
    record {
      counts = λ other. c.self.invariant.counts other ∙ ap (count_by (has_width_of other)) (sym c.in_err-added.ensures.same_keys);
      soles = λ other.
          still_sole (is_at (net_cmp net) other) _ _ _ _ (c.self.invariant.soles other) (c.in_ok-hold.ensures.ok other) (c.in_err-added.ensures.err other);
    }

pub invariant_of-self-then-added : goal.invariant_of-self-then-added
invariant_of-self-then-added c =
    let net = c.args.net in
    let entries = c.self.inside.nets.entries in
    let none = subst (λ b. OnTrue b (at entries net ≡ None)) c.if-added.true c.in_ok-added.ensures.absent in
    let absent = sym (is_some-lookup (is_at (net_cmp net)) entries) ∙ ap is_some none in
    record {
      counts = λ other.
          let counts = count_by-insert_key (has_width_of other) net (keys_of entries) absent in
          let keys = ap (count_by (has_width_of other))
          (c.in_ok-added.ensures.keys ∙ ap (λ b. cond b (insert_key net_cmp (keys_of entries) net) (keys_of entries)) c.if-added.true) in
          omega (arith, counts, keys, c.add.ensures other, c.self.invariant.counts other);
      soles = λ other.
          sole_added (is_at (net_cmp net) other) net c.args.number _ _ _ _ _ (c.self.invariant.soles other) (c.in_ok-hold.ensures.ok other) (c.change.ensures other)
          (c.in_ok-added.ensures.ok other
          ∙ ap (λ o. cond (is_at (net_cmp net) other) (Some (insert_key nat_cmp (unwrap_or o []) c.args.number)) (at entries other)) none);
    }
