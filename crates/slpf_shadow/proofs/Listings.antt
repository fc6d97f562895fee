-- What is listed are exactly the shadowed rules.
use Rattle.std.proofs.Common.{◌≡◌, ◌≢◌, ◌↔◌, ◌⊎◌, ℕ, zero, suc, ◌+◌, ◌<◌, ◌≤◌, min, Bool, true, false, cond, nat_cmp, Less, List, [], ◌∷◌, ◌++◌, Option, Some, None, refl, sym, ap, subst, ◌∙◌, inl, inr, arith}
use Rattle.std.specs.List.{All, AllByRecursion, Contains}
use Rattle.std.specs.List.Sorted.{IsStrictlyIncreasing, IsStrictlySortedBy}
use Rattle.std.proofs.lemmas.Bool.{false≢true}
use Rattle.std.proofs.lemmas.List.{append-nil}
use Rattle.std.proofs.lemmas.List.Elements.{All-nil, All-cons, All-append, All-contains}
use Rattle.std.proofs.lemmas.Bool.Decides.{nat_tests}
use Rattle.std.proofs.lemmas.Map.Keys.{IsStrictlyIncreasing-from_sorted}
use Rattle.slpf_rules.specs.declared.rules.Rule.{Rule}
use Rattle.slpf_rules.specs.Order.{IsAbove, IsRising}
use Rattle.slpf_rules.specs.Rules.{rule_at}
use Rattle.slpf_rules.specs.Deciding.{sooner, smallest}
use Rattle.slpf_rules.proofs.Rising.{split}
use Rattle.slpf_rules.proofs.Smallest.{EachRule, found_each}
use Rattle.slpf_shadow.specs.declared.shadow_lists.Shadow.{Shadow}
use Rattle.slpf_shadow.specs.Shadows.{Shadows}
use Rattle.slpf_shadow.specs.Listed.{shadowed_numbers, IsShadowed, IsLeastShadow}
use Rattle.slpf_shadow.specs.Ranges.{IsRule}
use Rattle.slpf_shadow.specs.Tests.{shadows}
use Rattle.slpf_shadow.specs.Searches.{least_shadow, entry, listing}
use Rattle.slpf_shadow.proofs.RuleLemmas.{shadows-sound, shadows-complete}

-- ---- elements of a list

contains_cases : {X : Type 0} (y : X) (xs : List X) (x : X) → Contains (y ∷ xs) x → (y ≡ x) ⊎ Contains xs x
contains_cases y xs x (zero, _, is) = inl is
contains_cases y xs x (suc k, fits, is) = inr (k, omega arith, is)

contains_head : {X : Type 0} (x : X) (xs : List X) → Contains (x ∷ xs) x
contains_head x xs = (zero, omega arith, refl)

contains_tail : {X : Type 0} (y : X) (xs : List X) (x : X) → Contains xs x → Contains (y ∷ xs) x
contains_tail y xs x (k, fits, is) = (suc k, omega arith, is)

contains_none : {X : Type 0} (x : X) → Contains [] x → ⊥
contains_none x (k, fits, is) = omega arith

pub each_contains : (P : Rule → Type 0) (rules : List Rule) (r : Rule) → EachRule P rules → Contains rules r → P r
each_contains P [] r h w = absurd (contains_none r w)
each_contains P (q ∷ rules) r h w =
    elim (contains_cases q rules r w) [ inl is ↦ subst P is h.0 | inr rest ↦ each_contains P rules r h.1 rest ]

-- rules of one number are one
one_rule : (rules : List Rule) (a b : Rule) → IsRising rules → Contains rules a → Contains rules b → a.number ≡ b.number → a ≡ b
one_rule rules a b rising in_a in_b same =
    let at_a = each_contains (λ r. rule_at r.number rules ≡ Some r) rules a (found_each rules rising) in_a in
    let at_b = each_contains (λ r. rule_at r.number rules ≡ Some r) rules b (found_each rules rising) in_b in
    let both : Some a ≡ Some b = sym at_a ∙ ap (λ n. rule_at n rules) same ∙ at_b in
    cc

-- ---- the least number of a rule that passes

pub record IsLeast (p : Rule → Bool) (rules : List Rule) (n : ℕ) : Type 0 where
  pub rule : Rule
  pub held : Contains rules rule
  pub passes : p rule ≡ true
  pub number : rule.number ≡ n
  pub least : (other : Rule) → Contains rules other → p other ≡ true → n ≤ other.number

-- what the least number says
abbrev pub Told : (Rule → Bool) → List Rule → Option ℕ → Type 0
Told p rules None = (other : Rule) → Contains rules other → p other ≡ false
Told p rules (Some n) = IsLeast p rules n

least_here : (p : Rule → Bool) (r : Rule) (rules : List Rule) (n : ℕ) → p r ≡ true → IsLeast p rules n → r.number ≤ n → IsLeast p (r ∷ rules) r.number
least_here p r rules n is h less = record {
  rule = r;
  held = contains_head r rules;
  passes = is;
  number = refl;
  least = λ other w passes.
      elim (contains_cases r rules other w) [
        | inl same ↦ let e : r.number ≡ other.number = ap (λ q. q.number) same in omega arith
        | inr rest ↦ let e : n ≤ other.number = h.least other rest passes in omega arith
      ];
}

least_behind : (p : Rule → Bool) (r : Rule) (rules : List Rule) (n : ℕ) → IsLeast p rules n → (p r ≡ true → n ≤ r.number) → IsLeast p (r ∷ rules) n
least_behind p r rules n h less = record {
  rule = h.rule;
  held = contains_tail r rules h.rule h.held;
  passes = h.passes;
  number = h.number;
  least = λ other w passes.
      elim (contains_cases r rules other w) [
        | inl same ↦
            let e : r.number ≡ other.number = ap (λ q. q.number) same in
            let f : n ≤ r.number = less (ap p same ∙ passes) in
            omega arith
        | inr rest ↦ h.least other rest passes
      ];
}

lesser_step : (p : Rule → Bool) (r : Rule) (rules : List Rule) (n : ℕ) → p r ≡ true → IsLeast p rules n → IsLeast p (r ∷ rules) (min r.number n)
lesser_step p r rules n is h =
    split r.number n
    (λ lt. let e : r.number ≡ min r.number n = omega arith in subst (IsLeast p (r ∷ rules)) e (least_here p r rules n is h (omega arith)))
    (λ ge. let e : n ≡ min r.number n = omega arith in subst (IsLeast p (r ∷ rules)) e (least_behind p r rules n h (λ passes. ge)))

told_step : (p : Rule → Bool) (r : Rule) (rules : List Rule) (b : Bool) (o : Option ℕ) → p r ≡ b → Told p rules o → Told p (r ∷ rules) (cond b (sooner (Some r.number) o) o)
told_step p r rules false None is h = λ other w.
    elim (contains_cases r rules other w) [ inl same ↦ ap p (sym same) ∙ is | inr rest ↦ h other rest ]
told_step p r rules false (Some n) is h = least_behind p r rules n h (λ passes. absurd (false≢true (sym is ∙ passes)))
told_step p r rules true None is h = record {
  rule = r;
  held = contains_head r rules;
  passes = is;
  number = refl;
  least = λ other w passes.
      elim (contains_cases r rules other w) [
        | inl same ↦ let e : r.number ≡ other.number = ap (λ q. q.number) same in omega arith
        | inr rest ↦ absurd (false≢true (sym (h other rest) ∙ passes))
      ];
}
told_step p r rules true (Some n) is h = lesser_step p r rules n is h

pub smallest-tells : (p : Rule → Bool) (rules : List Rule) → Told p rules (smallest p rules)
smallest-tells p [] = λ other w. absurd (contains_none other w)
smallest-tells p (r ∷ rules) = told_step p r rules (p r) (smallest p rules) refl (smallest-tells p rules)

-- ---- what is listed of a rule

least_shadow_of : (rules : List Rule) (later : Rule) (by : ℕ) → EachRule IsRule rules → Contains rules later → least_shadow rules later ≡ Some by → IsLeastShadow rules (record { rule = later.number; by = by })
least_shadow_of rules later by range held is =
    let tells : IsLeast (λ e. shadows e later) rules by = subst (Told (λ e. shadows e later) rules) is (smallest-tells (λ e. shadows e later) rules) in
    record {
      later = later;
      later_held = held;
      later_number = refl;
      earlier = tells.rule;
      earlier_held = tells.held;
      earlier_number = tells.number;
      shadows = shadows-sound tells.rule later tells.passes;
      least = λ other in_rules s.
          tells.least other in_rules
          (shadows-complete other later (each_contains IsRule rules later range held) (each_contains IsRule rules other range in_rules).stop s);
    }

entry_least : (rules : List Rule) (later : Rule) (o : Option ℕ) → EachRule IsRule rules → Contains rules later → least_shadow rules later ≡ o → All (IsLeastShadow rules) (entry later.number o)
entry_least rules later None range held is = All-nil (IsLeastShadow rules)
entry_least rules later (Some by) range held is = All-cons (IsLeastShadow rules) _ [] (least_shadow_of rules later by range held is) (All-nil (IsLeastShadow rules))

listing_least : (rules rest : List Rule) → EachRule IsRule rules → EachRule (Contains rules) rest → All (IsLeastShadow rules) (listing rules rest)
listing_least rules [] range held = All-nil (IsLeastShadow rules)
listing_least rules (later ∷ rest) range held =
    All-append (IsLeastShadow rules) (entry later.number (least_shadow rules later)) (listing rules rest)
    (entry_least rules later (least_shadow rules later) range held.0 refl) (listing_least rules rest range held.1)

held_behind : (q : Rule) (all rules : List Rule) → EachRule (Contains all) rules → EachRule (Contains (q ∷ all)) rules
held_behind q all [] h = tt
held_behind q all (r ∷ rules) h = (contains_tail q all r h.0, held_behind q all rules h.1)

each_held : (rules : List Rule) → EachRule (Contains rules) rules
each_held [] = tt
each_held (r ∷ rules) = (contains_head r rules, held_behind r rules rules (each_held rules))

pub listed_least : (rules : List Rule) → EachRule IsRule rules → All (IsLeastShadow rules) (listing rules rules)
listed_least rules range = listing_least rules rules range (each_held rules)

-- ---- what is listed is shadowed

-- the entry of a number that is listed
record IsEntry (list : List Shadow) (number : ℕ) : Type 0 where
  shadow : Shadow
  held : Contains list shadow
  same : shadow.rule ≡ number

entry_of : (list : List Shadow) (number : ℕ) → Contains (shadowed_numbers list) number → IsEntry list number
entry_of [] number h = absurd (contains_none number h)
entry_of (s ∷ list) number h =
    elim (contains_cases s.rule (shadowed_numbers list) number h) [
      | inl is ↦ record { shadow = s; held = contains_head s list; same = is }
      | inr rest ↦
          let e = entry_of list number rest in
          record { shadow = e.shadow; held = contains_tail s list e.shadow e.held; same = e.same }
    ]

shadowed_from : (rules : List Rule) (list : List Shadow) (later : Rule) → IsRising rules → Contains rules later → All (IsLeastShadow rules) list → Contains (shadowed_numbers list) later.number → IsShadowed rules later
shadowed_from rules list later rising held least h =
    let e = entry_of list later.number h in
    let l = All-contains (IsLeastShadow rules) list e.shadow least e.held in
    let same = one_rule rules l.later later rising l.later_held held (l.later_number ∙ e.same) in
    record { earlier = l.earlier; held = l.earlier_held; shadows = subst (λ r. Shadows l.earlier r) same l.shadows }

-- ---- what is shadowed is listed

numbers_behind : (number : ℕ) (o : Option ℕ) (list : List Shadow) (n : ℕ) → Contains (shadowed_numbers list) n → Contains (shadowed_numbers (entry number o ++ list)) n
numbers_behind number None list n h = h
numbers_behind number (Some by) list n h = contains_tail number (shadowed_numbers list) n h

numbers_here : (number by : ℕ) (o : Option ℕ) (list : List Shadow) → o ≡ Some by → Contains (shadowed_numbers (entry number o ++ list)) number
numbers_here number by None list is = cc
numbers_here number by (Some other) list is = contains_head number (shadowed_numbers list)

listed_number : (rules rest : List Rule) (later : Rule) (by : ℕ) → Contains rest later → least_shadow rules later ≡ Some by → Contains (shadowed_numbers (listing rules rest)) later.number
listed_number rules [] later by h is = absurd (contains_none later h)
listed_number rules (r ∷ rest) later by h is =
    elim (contains_cases r rest later h) [
      | inl same ↦
          subst (λ q. Contains (shadowed_numbers (listing rules (r ∷ rest))) q.number) same
          (numbers_here r.number by (least_shadow rules r) (listing rules rest) (ap (least_shadow rules) same ∙ is))
      | inr behind ↦ numbers_behind r.number (least_shadow rules r) (listing rules rest) later.number (listed_number rules rest later by behind is)
    ]

some_least : (rules : List Rule) (later : Rule) (o : Option ℕ) → EachRule IsRule rules → Contains rules later → least_shadow rules later ≡ o → IsShadowed rules later → Contains (shadowed_numbers (listing rules rules)) later.number
some_least rules later (Some by) range held is h = listed_number rules rules later by held is
some_least rules later None range held is h =
    let tells : Told (λ e. shadows e later) rules None = subst (Told (λ e. shadows e later) rules) is (smallest-tells (λ e. shadows e later) rules) in
    let passes = shadows-complete h.earlier later (each_contains IsRule rules later range held) (each_contains IsRule rules h.earlier range h.held).stop h.shadows in
    absurd (false≢true (sym (tells h.earlier h.held) ∙ passes))

pub listed_exactly : (rules : List Rule) (later : Rule) → EachRule IsRule rules → IsRising rules → Contains rules later → (Contains (shadowed_numbers (listing rules rules)) later.number) ↔ (IsShadowed rules later)
listed_exactly rules later range rising held =
    (λ h. shadowed_from rules (listing rules rules) later rising held (listed_least rules range) h, λ h. some_least rules later (least_shadow rules later) range held refl h)

-- ---- each once, in order of number

less_is : (n k : ℕ) → n < k → nat_cmp n k ≡ Less
less_is n k h = grind (arith, nat_tests)

above_entry : (n number : ℕ) (o : Option ℕ) (list : List Shadow) → n < number → AllByRecursion (λ y. nat_cmp n y ≡ Less) (shadowed_numbers list) → AllByRecursion (λ y. nat_cmp n y ≡ Less) (shadowed_numbers (entry number o ++ list))
above_entry n number None list less h = h
above_entry n number (Some by) list less h = (less_is n number less, h)

above_listing : (n : ℕ) (rules rest : List Rule) → IsAbove n rest → AllByRecursion (λ y. nat_cmp n y ≡ Less) (shadowed_numbers (listing rules rest))
above_listing n rules [] h = tt
above_listing n rules (r ∷ rest) h = above_entry n r.number (least_shadow rules r) (listing rules rest) h.0 (above_listing n rules rest h.1)

sorted_entry : (number : ℕ) (o : Option ℕ) (list : List Shadow) → AllByRecursion (λ y. nat_cmp number y ≡ Less) (shadowed_numbers list) → IsStrictlySortedBy nat_cmp (shadowed_numbers list) → IsStrictlySortedBy nat_cmp (shadowed_numbers (entry number o ++ list))
unfolding IsStrictlySortedBy
sorted_entry number None list above h = h
sorted_entry number (Some by) list above h = (above, h)

sorted_listing : (rules rest : List Rule) → IsRising rest → IsStrictlySortedBy nat_cmp (shadowed_numbers (listing rules rest))
unfolding IsStrictlySortedBy
sorted_listing rules [] h = tt
sorted_listing rules (r ∷ rest) h = sorted_entry r.number (least_shadow rules r) (listing rules rest) (above_listing r.number rules rest h.0) (sorted_listing rules rest h.1)

pub listed_rising : (rules : List Rule) → IsRising rules → IsStrictlyIncreasing (shadowed_numbers (listing rules rules))
listed_rising rules h = IsStrictlyIncreasing-from_sorted _ (sorted_listing rules rules h)

-- what is listed at the end of a walk through all rules
pub listed_all : (rules : List Rule) (list : List Shadow) (rest : List Rule) → rest ≡ [] → list ++ listing rules rest ≡ listing rules rules → list ≡ listing rules rules
listed_all rules list rest none so_far = sym (append-nil list) ∙ ap (λ l. list ++ listing rules l) (sym none) ∙ so_far
