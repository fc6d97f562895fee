-- An index after a rule was placed or taken out.
use Rattle.std.proofs.Common.{◌≡◌, ℕ, Bool, true, false, cond, ◌==◌, not, List, [], ◌∷◌, filter, Option, Some, None, unwrap_or, Ordering, Less, Equal, Greater, nat_cmp, refl, sym, ap, subst, ◌∙◌}
use Rattle.std.specs.BTreeMap.{is_at}
use Rattle.std.specs.BTreeSet.{insert_key}
use Rattle.std.specs.Ordering.{eq_by_cmp, match_ordering}
use Rattle.std.specs.Set.{remove_key}
use Rattle.oc2_nets.specs.declared.flows.Flow.{Flow}
use Rattle.slpf_rules.specs.declared.any_nets.AnyNet.{AnyNet}
use Rattle.slpf_rules.specs.declared.rules.Rule.{Rule}
use Rattle.slpf_rules.specs.AnyNets.{net_cmp}
use Rattle.slpf_rules.specs.AnyNetOrder.{net_eq_equiv}
use Rattle.slpf_rules.specs.Order.{IsAbove, IsRising}
use Rattle.slpf_rules.specs.Rules.{numbers, rule_at, is_held, place, without}
use Rattle.slpf_rules.specs.Filed.{is_net, listed, filed}
use Rattle.slpf_rules.specs.IndexEntries.{at, Puts, Takes}
use Rattle.slpf_rules.specs.Filing.{IsIndexOf}
use Rattle.slpf_rules.proofs.NumberTests.{same_from, filter_all}
use Rattle.slpf_rules.proofs.Rising.{none_above, IsRising-filter, filter-place, filter-place_other, is_held-filter, numbers-place, numbers-without, filter_swap, filter_same}

-- the test of a rule by its net
abbrev pub files : (Flow → Option AnyNet) → AnyNet → Rule → Bool
files net_of net rule = is_net net (net_of rule.flow)

-- equal nets file the same
pub is_net_same : (a b : AnyNet) (o : Option AnyNet) → eq_by_cmp net_cmp a b ≡ true → is_net a o ≡ is_net b o
is_net_same a b None h = refl
is_net_same a b (Some other) h = net_eq_equiv.congr a b other h

pub unwrap_listed : (ns : List ℕ) → unwrap_or (listed ns) [] ≡ ns
unwrap_listed [] = refl
unwrap_listed (n ∷ ns) = refl

listed_if : (o : Ordering) (n m : ℕ) (ms behind : List ℕ) → listed (match_ordering o (n ∷ m ∷ ms) (m ∷ ms) (m ∷ behind)) ≡ Some (match_ordering o (n ∷ m ∷ ms) (m ∷ ms) (m ∷ behind))
listed_if Less n m ms behind = refl
listed_if Equal n m ms behind = refl
listed_if Greater n m ms behind = refl

listed-insert_key : (ns : List ℕ) (n : ℕ) → listed (insert_key nat_cmp ns n) ≡ Some (insert_key nat_cmp ns n)
listed-insert_key [] n = refl
listed-insert_key (m ∷ ms) n = listed_if (nat_cmp n m) n m ms (insert_key nat_cmp ms n)

listed_none : (rules : List Rule) → listed (numbers rules) ≡ None → rules ≡ []
listed_none [] h = refl
listed_none (r ∷ rules) h = cc

-- nothing is filed under a net
pub none_filed : (net_of : Flow → Option AnyNet) (rules : List Rule) (entries : List (AnyNet × List ℕ)) (net : AnyNet) → IsIndexOf net_of rules entries → at entries net ≡ None
    → filter (files net_of net) rules ≡ []
none_filed net_of rules entries net h none = listed_none (filter (files net_of net) rules) (sym (h net) ∙ none)

-- what stands under the rule's own net
under : (net_of : Flow → Option AnyNet) (rules : List Rule) (entries : List (AnyNet × List ℕ)) (net other : AnyNet) → IsIndexOf net_of rules entries → eq_by_cmp net_cmp net other ≡ true
    → unwrap_or (at entries net) [] ≡ numbers (filter (files net_of other) rules)
under net_of rules entries net other h same =
    ap (λ o. unwrap_or o []) (h net)
    ∙ unwrap_listed (numbers (filter (files net_of net) rules))
    ∙ ap numbers (filter_same (files net_of net) (files net_of other) rules (λ rule. is_net_same net other (net_of rule.flow) same))

puts_here : (net_of : Flow → Option AnyNet) (rule : Rule) (rules : List Rule) (old : List (AnyNet × List ℕ)) (net other : AnyNet) (b : Bool)
    → IsIndexOf net_of rules old → IsRising rules → is_held rule.number rules ≡ false → files net_of other rule ≡ b → eq_by_cmp net_cmp net other ≡ b
    → cond b (Some (insert_key nat_cmp (unwrap_or (at old net) []) rule.number)) (at old other) ≡ filed net_of (place rule rules) other
puts_here net_of rule rules old net other true h rising free passes same =
    let test = files net_of other in
    ap (λ ns. Some (insert_key nat_cmp ns rule.number)) (under net_of rules old net other h same)
    ∙ sym (listed-insert_key (numbers (filter test rules)) rule.number)
    ∙ ap listed (sym (numbers-place rule (filter test rules) (is_held-filter rule.number test rules free)))
    ∙ ap (λ l. listed (numbers l)) (sym (filter-place test rule rules rising passes))
puts_here net_of rule rules old net other false h rising free passes same =
    h other ∙ ap (λ l. listed (numbers l)) (sym (filter-place_other (files net_of other) rule rules passes))

-- a rule with a net is placed
pub IsIndexOf-place : (net_of : Flow → Option AnyNet) (rule : Rule) (rules : List Rule) (old new : List (AnyNet × List ℕ)) (net : AnyNet)
    → IsIndexOf net_of rules old → net_of rule.flow ≡ Some net → Puts old new net rule.number → IsRising rules → is_held rule.number rules ≡ false → IsIndexOf net_of (place rule rules) new
IsIndexOf-place net_of rule rules old new net h is puts rising free = λ other.
    puts other
    ∙ puts_here net_of rule rules old net other (eq_by_cmp net_cmp net other) h rising free (ap (is_net other) is ∙ net_eq_equiv.symm other net) refl

-- a rule without one is placed
pub IsIndexOf-place_none : (net_of : Flow → Option AnyNet) (rule : Rule) (rules : List Rule) (entries : List (AnyNet × List ℕ))
    → IsIndexOf net_of rules entries → net_of rule.flow ≡ None → IsIndexOf net_of (place rule rules) entries
IsIndexOf-place_none net_of rule rules entries h is = λ other.
    h other ∙ ap (λ l. listed (numbers l)) (sym (filter-place_other (files net_of other) rule rules (ap (is_net other) is)))

-- ---- taken out

other_if : (p : Rule → Bool) (n : ℕ) (rule q : Rule) (rules : List Rule) (b : Bool) → cond b (Some q) (rule_at n rules) ≡ Some rule → p rule ≡ false → (b ≡ true → without n rules ≡ rules)
    → (rule_at n rules ≡ Some rule → filter p (without n rules) ≡ filter p rules) → filter p (cond (not b) (q ∷ without n rules) (without n rules)) ≡ filter p (q ∷ rules)
other_if p n rule q rules true e fails all behind =
    let same : q ≡ rule = cc in
    ap (filter p) (all refl) ∙ sym (ap (λ b. cond b (q ∷ filter p rules) (filter p rules)) (ap p same ∙ fails))
other_if p n rule q rules false e fails all behind = ap (λ l. cond (p q) (q ∷ l) l) (behind e)

-- the rule of this number passes no such test
pub filter-without_other : (p : Rule → Bool) (n : ℕ) (rule : Rule) (rules : List Rule) → IsRising rules → rule_at n rules ≡ Some rule → p rule ≡ false → filter p (without n rules) ≡ filter p rules
filter-without_other p n rule [] rising at_n fails = refl
filter-without_other p n rule (q ∷ rules) rising at_n fails =
    other_if p n rule q rules (q.number == n) at_n fails
    (λ is. filter_all (λ r. r.number == n) rules (none_above n rules (subst (λ k. IsAbove k rules) (same_from q.number n is) rising.0)))
    (λ rest. filter-without_other p n rule rules rising.1 rest fails)

takes_here : (net_of : Flow → Option AnyNet) (rule : Rule) (rules : List Rule) (old : List (AnyNet × List ℕ)) (net other : AnyNet) (b : Bool)
    → IsIndexOf net_of rules old → IsRising rules → rule_at rule.number rules ≡ Some rule → files net_of other rule ≡ b → eq_by_cmp net_cmp net other ≡ b
    → cond b (listed (remove_key (is_at (nat_cmp rule.number)) (unwrap_or (at old net) []))) (at old other) ≡ filed net_of (without rule.number rules) other
takes_here net_of rule rules old net other true h rising at_n passes same =
    let test = files net_of other in
    ap (λ ns. listed (remove_key (is_at (nat_cmp rule.number)) ns)) (under net_of rules old net other h same)
    ∙ ap listed (sym (numbers-without rule.number (filter test rules) (IsRising-filter test rules rising)))
    ∙ ap (λ l. listed (numbers l)) (filter_swap (λ r. not (r.number == rule.number)) test rules)
takes_here net_of rule rules old net other false h rising at_n passes same =
    h other ∙ ap (λ l. listed (numbers l)) (sym (filter-without_other (files net_of other) rule.number rule rules rising at_n passes))

pub IsIndexOf-without : (net_of : Flow → Option AnyNet) (rule : Rule) (rules : List Rule) (old new : List (AnyNet × List ℕ)) (net : AnyNet)
    → IsIndexOf net_of rules old → net_of rule.flow ≡ Some net → Takes old new net rule.number → IsRising rules → rule_at rule.number rules ≡ Some rule → IsIndexOf net_of (without rule.number rules) new
IsIndexOf-without net_of rule rules old new net h is takes rising at_n = λ other.
    takes other
    ∙ takes_here net_of rule rules old net other (eq_by_cmp net_cmp net other) h rising at_n (ap (is_net other) is ∙ net_eq_equiv.symm other net) refl

pub IsIndexOf-without_none : (net_of : Flow → Option AnyNet) (rule : Rule) (rules : List Rule) (entries : List (AnyNet × List ℕ))
    → IsIndexOf net_of rules entries → net_of rule.flow ≡ None → IsRising rules → rule_at rule.number rules ≡ Some rule → IsIndexOf net_of (without rule.number rules) entries
IsIndexOf-without_none net_of rule rules entries h is rising at_n = λ other.
    h other ∙ ap (λ l. listed (numbers l)) (sym (filter-without_other (files net_of other) rule.number rule rules rising at_n (ap (is_net other) is)))
