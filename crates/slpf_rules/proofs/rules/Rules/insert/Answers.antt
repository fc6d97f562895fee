use Rattle.std.proofs.Common.{nat_cmp, nat_eq, cond, None, Some, sym, ap, subst, ◌∙◌}
use Rattle.std.specs.BTreeMap.{is_at}
use Rattle.std.specs.List.Sorted.{IsStrictlySortedBy}
use Rattle.std.specs.Map.{keys_of, values_of, lookup}
use Rattle.slpf_rules.specs.Rules.{is_held, place}
use Rattle.slpf_rules.specs.Order.{IsNumbered}
use Rattle.slpf_rules.proofs.Entries.{is_keyed, values-insert_entry, IsNumbered-insert_entry}
use Rattle.slpf_rules.proofs.FoundLemmas.{same_number, equal_number, both_put, undone}
use Rattle.slpf_rules.proofs.rules.Rules.insert.Goals as goal

pub invariant_of-self-in-Ok : goal.invariant_of-self-in-Ok
invariant_of-self-in-Ok c =
    let entries = c.in-Ok.ensures.entries in
    let rising = subst (λ es. IsStrictlySortedBy nat_cmp (keys_of es)) entries c.in-Ok.ensures.ordered in
    let rule = c.args.rule in
    record {
      numbered = subst IsNumbered (sym entries) (IsNumbered-insert_entry c.args.rule c.self.inside.by_number.entries c.self.invariant.numbered rising);
      finds = λ n.
          c.in_ok-insert.ensures.updates.0 n
          ∙ both_put (nat_eq rule.number n) (is_at (nat_cmp rule.number) n) (Some rule) _ _ (same_number rule.number n) (c.self.invariant.finds n)
          ∙ sym (c.in-Ok.ensures.updates.0 n);
    }

pub invariant_of-self-in-Err : goal.invariant_of-self-in-Err
invariant_of-self-in-Err c =
    let rule = c.args.rule in
    let entries = c.self.inside.by_number.entries in
    let same = c.in-Err.ensures.err in
    record {
      numbered = subst IsNumbered (sym same) c.self.invariant.numbered;
      finds = λ n.
          c.remove.ensures.updates.0 n
          ∙ ap (λ o. cond (nat_eq rule.number n) None o) (c.in_ok-insert.ensures.updates.0 n)
          ∙ undone (nat_eq rule.number n) (Some rule) _
          (λ e. c.self.invariant.finds n ∙ ap (λ k. lookup (is_at (nat_cmp k)) entries) (equal_number rule.number n e) ∙ c.in-Err.ensures.absent)
          ∙ c.self.invariant.finds n
          ∙ ap (lookup (is_at (nat_cmp n))) (sym same);
    }

pub returns-in-Ok-clause-ok : goal.returns-in-Ok-clause-ok
returns-in-Ok-clause-ok c =
    let free = ap (is_held c.args.rule.number) c.self.view_is ∙ c.requires in
    ap values_of c.in-Ok.ensures.entries
    ∙ values-insert_entry c.args.rule c.self.inside.by_number.entries (is_keyed _ c.self.invariant.numbered.keyed) free
    ∙ ap (place c.args.rule) c.self.view_is
