-- What is known of a net's numbers, after an edit.
use Rattle.std.proofs.Common.{◌≡◌, ℕ, ◌+◌, ◌*◌, ◌≤◌, Bool, true, false, cond, ◌==◌, ◌&&◌, List, [], ◌∷◌, Option, Some, None, option_map, refl, sym, ap, subst, ◌∙◌, arith}
use Rattle.std.specs.BTreeMap.{is_at}
use Rattle.std.proofs.lemmas.Bool.Decides.{nat_tests}
use Rattle.oc2_nets.specs.declared.ipv4_nets.Net4.{Net4}
use Rattle.slpf_rules.specs.declared.any_nets.AnyNet.{AnyNet}
use Rattle.slpf_rules.specs.declared.any_nets.AnyNet.TheVariants.{V4, V6}
use Rattle.slpf_rules.specs.AnyNets.{net_cmp}
use Rattle.slpf_rules.specs.Soles.{key4, kept, unheld, IsSole}
use Rattle.slpf_rules.proofs.NetWidths.{equal_parts}

keys_apart : (b nb w nw : ℕ) → w ≤ 32 → nw ≤ 32 → ((b == nb) && (w == nw)) ≡ (b * 256 + w == nb * 256 + nw)
keys_apart b nb w nw h k = grind (arith, nat_tests, h, k)

-- equal nets have equal keys, and no others
pub same_keys : (a b : Net4) → is_at (net_cmp (V4 a)) (V4 b) ≡ (key4 a == key4 b)
same_keys a b = equal_parts a.bits b.bits a.width b.width ∙ keys_apart a.bits b.bits a.width b.width a.in_range b.in_range

same_option : (b : Bool) (o : Option (Option ℕ)) → o ≡ cond b o o
same_option true o = refl
same_option false o = refl

-- ---- what is known still holds

pub still_sole : (b : Bool) (o new : Option (Option ℕ)) (before after : Option (List ℕ)) → IsSole o before → new ≡ cond b (Some None) o → after ≡ before → IsSole new after
still_sole true o new before after h is same = subst (λ s. IsSole s after) (sym is) tt
still_sole false o new before after h is same = subst (λ s. IsSole s after) (sym is) (subst (λ l. IsSole o l) (sym same) h)

kept_sole : (net : AnyNet) (number : ℕ) (list : Option (List ℕ)) → list ≡ Some (number ∷ []) → IsSole (Some (kept net (Some number))) list
kept_sole (V4 net) number list h = h
kept_sole (V6 net) number list h = tt

-- a number was put under a net that had none
pub sole_added : (b : Bool) (net : AnyNet) (number : ℕ) (o mid new : Option (Option ℕ)) (before after : Option (List ℕ)) → IsSole o before → mid ≡ cond b (Some None) o
    → new ≡ cond b (option_map (λ _. kept net (Some number)) mid) mid → after ≡ cond b (Some (number ∷ [])) before → IsSole new after
sole_added true net number o mid new before after h is_mid is_new is =
    subst (λ s. IsSole s after) (sym (is_new ∙ ap (option_map (λ _. kept net (Some number))) is_mid)) (kept_sole net number after is)
sole_added false net number o mid new before after h is_mid is_new is =
    subst (λ s. IsSole s after) (sym (is_new ∙ is_mid)) (subst (λ l. IsSole o l) (sym is) h)

unheld_sole : (other : AnyNet) (list : Option (List ℕ)) → list ≡ None → IsSole (unheld other) list
unheld_sole (V4 net) list h = h
unheld_sole (V6 net) list h = tt

-- a net went
pub sole_gone : (b : Bool) (other : AnyNet) (o new : Option (Option ℕ)) (before after list : Option (List ℕ)) → IsSole o before → new ≡ cond b (unheld other) o → list ≡ None → after ≡ cond b list before → IsSole new after
sole_gone true other o new before after list h is none same = subst (λ s. IsSole s after) (sym is) (unheld_sole other after (same ∙ none))
sole_gone false other o new before after list h is none same = subst (λ s. IsSole s after) (sym is) (subst (λ l. IsSole o l) (sym same) h)

forgotten : (net : AnyNet) (o : Option (Option ℕ)) (before after : Option (List ℕ)) → IsSole o before → (before ≡ None → after ≡ None) → IsSole (option_map (λ _. kept net None) o) after
forgotten net None before after h none = none h
forgotten (V4 net) (Some s) before after h none = tt
forgotten (V6 net) (Some s) before after h none = tt
