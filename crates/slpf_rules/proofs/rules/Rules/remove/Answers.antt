use Rattle.std.proofs.Common.{nat_cmp, nat_eq, None, sym, ap, subst, ◌∙◌}
use Rattle.std.specs.BTreeMap.{is_at}
use Rattle.std.specs.List.Sorted.{IsStrictlySortedBy}
use Rattle.std.specs.Map.{keys_of, values_of}
use Rattle.slpf_rules.specs.Rules.{without}
use Rattle.slpf_rules.specs.Order.{IsNumbered}
use Rattle.slpf_rules.proofs.Entries.{is_keyed, values-remove_entry, IsNumbered-remove_entry}
use Rattle.slpf_rules.proofs.FoundLemmas.{same_number, both_put}
use Rattle.slpf_rules.proofs.rules.Rules.remove.Goals as goal

pub invariant_of-self : goal.invariant_of-self
invariant_of-self c =
    let entries = c.remove.ensures.entries in
    let rising = subst (λ es. IsStrictlySortedBy nat_cmp (keys_of es)) entries c.remove.ensures.ordered in
    record {
      numbered = subst IsNumbered (sym entries) (IsNumbered-remove_entry c.args.number c.self.inside.by_number.entries c.self.invariant.numbered rising);
      finds = λ n.
          c.remove-2.ensures.updates.0 n
          ∙ both_put (nat_eq c.args.number n) (is_at (nat_cmp c.args.number) n) None _ _ (same_number c.args.number n) (c.self.invariant.finds n)
          ∙ sym (c.remove.ensures.updates.0 n);
    }

pub returns : goal.returns
returns c =
    ap values_of c.remove.ensures.entries
    ∙ values-remove_entry c.args.number c.self.inside.by_number.entries (is_keyed _ c.self.invariant.numbered.keyed) c.self.invariant.numbered.rising
    ∙ ap (without c.args.number) c.self.view_is
