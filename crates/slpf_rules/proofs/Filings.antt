-- Where the rules are filed after one was placed or taken out.
use Rattle.std.proofs.Common.{◌≡◌, ℕ, true, false, ◌==◌, ◌&&◌, not, List, filter, Option, Some, None, is_none, nat_cmp, refl, sym, ap, ◌∙◌}
use Rattle.std.specs.Prelude.{Result, Ok, Err, OnErr}
use Rattle.std.specs.BTreeMap.{is_at}
use Rattle.std.specs.BTreeSet.{insert_key}
use Rattle.std.specs.Set.{remove_key}
use Rattle.slpf_rules.specs.declared.filing.Filing.{Filing}
use Rattle.slpf_rules.specs.declared.rules.Rule.{Rule}
use Rattle.slpf_rules.specs.declared.sides.Side.{Side}
use Rattle.slpf_rules.specs.Order.{IsRising}
use Rattle.slpf_rules.specs.Rules.{numbers, rule_at, is_held, place, without}
use Rattle.slpf_rules.specs.Filed.{source_net, destination_net, is_unfiled, unfiled}
use Rattle.slpf_rules.specs.Filing.{IsSide, IsFiling}
use Rattle.slpf_rules.proofs.Rising.{IsRising-filter, filter-place, filter-place_other, is_held-filter, numbers-place, numbers-without, filter_swap}
use Rattle.slpf_rules.proofs.Indexed.{filter-without_other}
use Rattle.slpf_rules.proofs.SideLemmas.{IsSide-place_none, IsSide-without_none}

-- where these are the maps and the list
abbrev pub filing_of : Side → Side → List ℕ → Filing
filing_of sources destinations others = record { sources = sources; destinations = destinations; unfiled = others }

none_and : (A B : Type 0) (o : Option A) (p : Option B) → (is_none o && is_none p) ≡ true → (o ≡ None) × (p ≡ None)
none_and A B None None h = (refl, refl)
none_and A B None (Some b) h = cc
none_and A B (Some a) p h = cc

-- what holds wherever a call ends holds where it fails
pub on_err_from : {T E P : Type 0} (r : Result T E) → P → OnErr r P
on_err_from (Ok x) h = tt
on_err_from (Err e) h = h

-- ---- a rule without a net

unfiled-place : (rule : Rule) (rules : List Rule) → IsRising rules → is_held rule.number rules ≡ false → is_unfiled rule ≡ true → unfiled (place rule rules) ≡ insert_key nat_cmp (unfiled rules) rule.number
unfiled-place rule rules rising free passes =
    ap numbers (filter-place is_unfiled rule rules rising passes)
    ∙ numbers-place rule (filter is_unfiled rules) (is_held-filter rule.number is_unfiled rules free)

pub IsFiling-place_unfiled : (rule : Rule) (rules : List Rule) (s d : Side) (old new : List ℕ) → IsFiling rules (filing_of s d old) → IsRising rules → is_held rule.number rules ≡ false
    → is_unfiled rule ≡ true → new ≡ insert_key nat_cmp old rule.number → IsFiling (place rule rules) (filing_of s d new)
IsFiling-place_unfiled rule rules s d old new h rising free passes is =
    let neither = none_and _ _ (source_net rule.flow) (destination_net rule.flow) passes in
    record {
      sources = IsSide-place_none source_net rule rules s h.sources neither.0;
      destinations = IsSide-place_none destination_net rule rules d h.destinations neither.1;
      unfiled = is ∙ ap (λ l. insert_key nat_cmp l rule.number) h.unfiled ∙ sym (unfiled-place rule rules rising free passes);
    }

pub IsFiling-without_unfiled : (rule : Rule) (rules : List Rule) (s d : Side) (old new : List ℕ) → IsFiling rules (filing_of s d old) → IsRising rules → rule_at rule.number rules ≡ Some rule
    → is_unfiled rule ≡ true → new ≡ remove_key (is_at (nat_cmp rule.number)) old → IsFiling (without rule.number rules) (filing_of s d new)
IsFiling-without_unfiled rule rules s d old new h rising held passes is =
    let neither = none_and _ _ (source_net rule.flow) (destination_net rule.flow) passes in
    record {
      sources = IsSide-without_none source_net rule rules s h.sources neither.0 rising held;
      destinations = IsSide-without_none destination_net rule rules d h.destinations neither.1 rising held;
      unfiled =
          is ∙ ap (remove_key (is_at (nat_cmp rule.number))) h.unfiled
          ∙ sym (numbers-without rule.number (filter is_unfiled rules) (IsRising-filter is_unfiled rules rising))
          ∙ ap numbers (filter_swap (λ r. not (r.number == rule.number)) is_unfiled rules);
    }

-- ---- a rule with one

pub IsFiling-place_filed : (rule : Rule) (rules : List Rule) (s d : Side) (u : List ℕ) → u ≡ unfiled rules → is_unfiled rule ≡ false
    → IsSide source_net (place rule rules) s → IsSide destination_net (place rule rules) d → IsFiling (place rule rules) (filing_of s d u)
IsFiling-place_filed rule rules s d u is fails hs hd = record {
  sources = hs;
  destinations = hd;
  unfiled = is ∙ ap numbers (sym (filter-place_other is_unfiled rule rules fails));
}

pub IsFiling-without_filed : (rule : Rule) (rules : List Rule) (s d : Side) (u : List ℕ) → u ≡ unfiled rules → is_unfiled rule ≡ false → IsRising rules → rule_at rule.number rules ≡ Some rule
    → IsSide source_net (without rule.number rules) s → IsSide destination_net (without rule.number rules) d → IsFiling (without rule.number rules) (filing_of s d u)
IsFiling-without_filed rule rules s d u is fails rising held hs hd = record {
  sources = hs;
  destinations = hd;
  unfiled = is ∙ ap numbers (sym (filter-without_other is_unfiled rule.number rule rules rising held fails));
}
