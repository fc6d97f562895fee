-- The least number among the rules that pass a test.
use Rattle.std.proofs.Common.{◌≡◌, ℕ, ◌<◌, min, Bool, true, false, cond, nat_lt, ◌||◌, ◌&&◌, List, [], ◌∷◌, filter, find, Option, Some, None, unwrap_or, option_map, refl, sym, ap, ap₂, ◌∙◌, arith}
use Rattle.std.specs.Option.{option_map_or}
use Rattle.oc2_nets.specs.declared.packets.Packet.{Packet}
use Rattle.slpf_rules.specs.declared.rules.Rule.{Rule}
use Rattle.slpf_rules.specs.Order.{IsAbove, IsRising}
use Rattle.slpf_rules.specs.Rules.{numbers, rule_at}
use Rattle.slpf_rules.specs.Verdicts.{decides, lesser, least}
use Rattle.slpf_rules.specs.Deciding.{sooner, smallest, number_decides}
use Rattle.slpf_rules.proofs.NumberTests.{apart_from, lt_is, not_lt_is, eq_is}
use Rattle.slpf_rules.proofs.Rising.{split}

-- ---- the lesser of two

pub sooner-none : (a : Option ℕ) → sooner a None ≡ a
sooner-none None = refl
sooner-none (Some a) = refl

pub sooner-same : (n : ℕ) (a b : Option ℕ) → sooner (Some n) (sooner a b) ≡ sooner (sooner (Some n) a) (sooner (Some n) b)
sooner-same n None None = ap Some (omega arith)
sooner-same n None (Some b) = ap Some (omega arith)
sooner-same n (Some a) None = ap Some (omega arith)
sooner-same n (Some a) (Some b) = ap Some (omega arith)

pub sooner-left : (n : ℕ) (a b : Option ℕ) → sooner (Some n) (sooner a b) ≡ sooner (sooner (Some n) a) b
sooner-left n None None = refl
sooner-left n None (Some b) = refl
sooner-left n (Some a) None = refl
sooner-left n (Some a) (Some b) = ap Some (omega arith)

pub sooner-right : (n : ℕ) (a b : Option ℕ) → sooner (Some n) (sooner a b) ≡ sooner a (sooner (Some n) b)
sooner-right n None None = refl
sooner-right n None (Some b) = refl
sooner-right n (Some a) None = ap Some (omega arith)
sooner-right n (Some a) (Some b) = ap Some (omega arith)

-- ---- tests

either_step : (n : ℕ) (p q : Bool) (a b : Option ℕ) → cond (p || q) (sooner (Some n) (sooner a b)) (sooner a b) ≡ sooner (cond p (sooner (Some n) a) a) (cond q (sooner (Some n) b) b)
either_step n true true a b = sooner-same n a b
either_step n true false a b = sooner-left n a b
either_step n false true a b = sooner-right n a b
either_step n false false a b = refl

-- of the rules that pass one test or the other
pub smallest-or : (p q : Rule → Bool) (rules : List Rule) → smallest (λ r. p r || q r) rules ≡ sooner (smallest p rules) (smallest q rules)
smallest-or p q [] = refl
smallest-or p q (r ∷ rules) =
    ap (λ o. cond (p r || q r) (sooner (Some r.number) o) o) (smallest-or p q rules)
    ∙ either_step r.number (p r) (q r) (smallest p rules) (smallest q rules)

pub smallest-same : (p q : Rule → Bool) (rules : List Rule) → ((r : Rule) → p r ≡ q r) → smallest p rules ≡ smallest q rules
smallest-same p q [] h = refl
smallest-same p q (r ∷ rules) h = ap₂ (λ b o. cond b (sooner (Some r.number) o) o) (h r) (smallest-same p q rules h)

pub smallest-none : (p : Rule → Bool) (rules : List Rule) → ((r : Rule) → p r ≡ false) → smallest p rules ≡ None
smallest-none p [] h = refl
smallest-none p (r ∷ rules) h = ap₂ (λ b o. cond b (sooner (Some r.number) o) o) (h r) (smallest-none p rules h)

above_pick : (n m : ℕ) (b : Bool) (o : Option ℕ) → n < m → sooner (Some n) o ≡ Some n → sooner (Some n) (cond b (sooner (Some m) o) o) ≡ Some n
above_pick n m true None h w = ap Some (omega arith)
above_pick n m true (Some k) h w =
    let least : min n k ≡ n = ap (λ o. unwrap_or o 0) w in
    ap Some (omega arith)
above_pick n m false o h w = w

smallest-above : (n : ℕ) (p : Rule → Bool) (rules : List Rule) → IsAbove n rules → sooner (Some n) (smallest p rules) ≡ Some n
smallest-above n p [] h = refl
smallest-above n p (r ∷ rules) h = above_pick n r.number (p r) (smallest p rules) h.0 (smallest-above n p rules h.1)

-- ---- the first number of a list

-- what holds of each rule
abbrev pub EachRule : (Rule → Type 0) → List Rule → Type 0
EachRule P [] = Unit {0}
EachRule P (r ∷ rules) = P r × EachRule P rules

find_step : (n : ℕ) (e : ℕ → Bool) (f d : Bool) (ns : List ℕ) (o : Option ℕ) → e n ≡ d → find e ns ≡ o → sooner (Some n) o ≡ Some n
    → find e (cond f (n ∷ ns) ns) ≡ cond (f && d) (sooner (Some n) o) o
find_step n e true true ns o h w least = ap (λ b. cond b (Some n) (find e ns)) h ∙ sym least
find_step n e true false ns o h w least = ap (λ b. cond b (Some n) (find e ns)) h ∙ w
find_step n e false d ns o h w least = w

numbers_if : (b : Bool) (r : Rule) (rules : List Rule) → numbers (cond b (r ∷ rules) rules) ≡ cond b (r.number ∷ numbers rules) (numbers rules)
numbers_if true r rules = refl
numbers_if false r rules = refl

-- the first number that passes, of the rules that one test leaves, is the least that passes both
pub find-numbers : (e : ℕ → Bool) (f d : Rule → Bool) (rules : List Rule) → IsRising rules → EachRule (λ r. e r.number ≡ d r) rules → find e (numbers (filter f rules)) ≡ smallest (λ r. f r && d r) rules
find-numbers e f d [] h w = refl
find-numbers e f d (r ∷ rules) h w =
    ap (find e) (numbers_if (f r) r (filter f rules))
    ∙ find_step r.number e (f r) (d r) (numbers (filter f rules)) (smallest (λ q. f q && d q) rules) w.0 (find-numbers e f d rules h.1 w.1) (smallest-above r.number (λ q. f q && d q) rules h.0)

found_behind : (q : Rule) (all rules : List Rule) → IsAbove q.number rules → EachRule (λ r. rule_at r.number all ≡ Some r) rules → EachRule (λ r. rule_at r.number (q ∷ all) ≡ Some r) rules
found_behind q all [] h w = tt
found_behind q all (r ∷ rules) h w =
    (ap (λ b. cond b (Some q) (rule_at r.number all)) (apart_from q.number r.number h.0) ∙ w.0, found_behind q all rules h.1 w.1)

-- each rule is found by its number
pub found_each : (rules : List Rule) → IsRising rules → EachRule (λ r. rule_at r.number rules ≡ Some r) rules
found_each [] h = tt
found_each (r ∷ rules) h =
    (ap (λ b. cond b (Some r) (rule_at r.number rules)) (eq_is r.number r.number refl), found_behind r rules rules h.0 (found_each rules h.1))

decides_each : (all : List Rule) (packet : Packet) (moment : ℕ) (rules : List Rule) → EachRule (λ r. rule_at r.number all ≡ Some r) rules → EachRule (λ r. number_decides all packet moment r.number ≡ decides packet moment r) rules
decides_each all packet moment [] h = tt
decides_each all packet moment (r ∷ rules) h =
    (ap (λ o. option_map_or (decides packet moment) o false) h.0, decides_each all packet moment rules h.1)

pub first_decides : (f : Rule → Bool) (rules : List Rule) (packet : Packet) (moment : ℕ) → IsRising rules
    → find (number_decides rules packet moment) (numbers (filter f rules)) ≡ smallest (λ r. f r && decides packet moment r) rules
first_decides f rules packet moment h =
    find-numbers (number_decides rules packet moment) f (decides packet moment) rules h (decides_each rules packet moment rules (found_each rules h))

-- ---- the rule of the least number

lesser_number : (r : Rule) (o : Option Rule) → Some (lesser r o).number ≡ sooner (Some r.number) (option_map (λ q. q.number) o)
lesser_number r None = refl
lesser_number r (Some q) =
    split q.number r.number
    (λ lt. ap (λ b. Some (cond b q r).number) (lt_is q.number r.number lt) ∙ ap Some (omega arith))
    (λ ge. ap (λ b. Some (cond b q r).number) (not_lt_is q.number r.number ge) ∙ ap Some (omega arith))

least_if : (b : Bool) (r : Rule) (rules : List Rule) (o : Option ℕ) → o ≡ option_map (λ q. q.number) (least rules) → cond b (sooner (Some r.number) o) o ≡ option_map (λ q. q.number) (least (cond b (r ∷ rules) rules))
least_if true r rules o h = ap (sooner (Some r.number)) h ∙ sym (lesser_number r (least rules))
least_if false r rules o h = h

pub smallest-least : (d : Rule → Bool) (rules : List Rule) → smallest d rules ≡ option_map (λ q. q.number) (least (filter d rules))
smallest-least d [] = refl
smallest-least d (r ∷ rules) = least_if (d r) r (filter d rules) (smallest d rules) (smallest-least d rules)

each_if : (P : Rule → Type 0) (b : Bool) (r : Rule) (rules : List Rule) → P r → EachRule P rules → EachRule P (cond b (r ∷ rules) rules)
each_if P true r rules h w = (h, w)
each_if P false r rules h w = w

pub each_filter : (P : Rule → Type 0) (d : Rule → Bool) (rules : List Rule) → EachRule P rules → EachRule P (filter d rules)
each_filter P d [] h = tt
each_filter P d (r ∷ rules) h = each_if P (d r) r (filter d rules) h.0 (each_filter P d rules h.1)

-- what holds of the rule, if there is one
abbrev pub OfRule : (Rule → Type 0) → Option Rule → Type 0
OfRule P None = Unit {0}
OfRule P (Some r) = P r

of_choice : (P : Rule → Type 0) (b : Bool) (q r : Rule) → P q → P r → P (cond b q r)
of_choice P true q r h w = h
of_choice P false q r h w = w

of_lesser : (P : Rule → Type 0) (r : Rule) (o : Option Rule) → P r → OfRule P o → P (lesser r o)
of_lesser P r None h w = h
of_lesser P r (Some q) h w = of_choice P (nat_lt q.number r.number) q r w h

of_least : (P : Rule → Type 0) (rules : List Rule) → EachRule P rules → OfRule P (least rules)
of_least P [] h = tt
of_least P (r ∷ rules) h = of_lesser P r (least rules) h.0 (of_least P rules h.1)

-- the rule that a number finds, if there is one
abbrev pub found_at : List Rule → Option ℕ → Option Rule
found_at rules None = None
found_at rules (Some n) = rule_at n rules

found_again : (rules : List Rule) (o : Option Rule) → OfRule (λ r. rule_at r.number rules ≡ Some r) o → found_at rules (option_map (λ q. q.number) o) ≡ o
found_again rules None h = refl
found_again rules (Some r) h = h

-- the rule of the least number is found by it
pub found_number_of : (d : Rule → Bool) (rules : List Rule) → IsRising rules → OfRule (λ r. rule_at r.number rules ≡ Some r) (least (filter d rules))
found_number_of d rules h = of_least (λ r. rule_at r.number rules ≡ Some r) (filter d rules) (each_filter (λ r. rule_at r.number rules ≡ Some r) d rules (found_each rules h))

pub least_is_found : (d : Rule → Bool) (rules : List Rule) → IsRising rules → found_at rules (smallest d rules) ≡ least (filter d rules)
least_is_found d rules h =
    ap (found_at rules) (smallest-least d rules)
    ∙ found_again rules (least (filter d rules)) (found_number_of d rules h)
