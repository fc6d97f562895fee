-- Lists of what a decision compares, after an edit, and what is found in one.
use Rattle.std.proofs.Common.{◌≡◌, ℕ, zero, suc, length, ◌+◌, ◌-◌, ◌<◌, ◌≤◌, Bool, true, false, cond, ◌==◌, nat_le, nat_lt, nat_eq, ◌&&◌, List, [], ◌∷◌, ◌++◌, filter, find, Option, Some, None, option_map, unwrap_or, ◌⊎◌, inl, inr, refl, sym, ap, ap₂, subst, ◌∙◌, arith}
use Rattle.std.specs.Prelude.{slice_get}
use Rattle.std.specs.Bool.{OnTrue}
use Rattle.std.specs.Option.{option_map_or}
use Rattle.std.proofs.lemmas.Bool.Decides.{nat_tests}
use Rattle.oc2_nets.specs.declared.flows.Flow.{Flow}
use Rattle.oc2_nets.specs.declared.ipv4_nets.Net4.{Net4}
use Rattle.oc2_nets.specs.declared.packets.Packet.{Packet}
use Rattle.oc2_nets.specs.Flows.{covers}
use Rattle.slpf_rules.specs.declared.any_nets.AnyNet.{AnyNet}
use Rattle.slpf_rules.specs.declared.any_nets.AnyNet.TheVariants.{V4, V6}
use Rattle.slpf_rules.specs.declared.briefs.Brief.{Brief}
use Rattle.slpf_rules.specs.declared.rules.Rule.{Rule}
use Rattle.slpf_rules.specs.declared.verdicts.Verdict.{Verdict}
use Rattle.slpf_rules.specs.Briefs.{flow_of, IsBrief, brief_decides, said_of, AreBriefs, EndsBelow, Grown}
use Rattle.slpf_rules.specs.Deciding.{number_decides}
use Rattle.slpf_rules.specs.Filed.{is_net}
use Rattle.slpf_rules.specs.Filing.{IsIndexOf}
use Rattle.slpf_rules.specs.IndexEntries.{at}
use Rattle.slpf_rules.specs.Order.{IsAbove, IsRising}
use Rattle.slpf_rules.specs.Picking.{picked}
use Rattle.slpf_rules.specs.Rules.{numbers, rule_at, place, without}
use Rattle.slpf_rules.specs.Soles.{key4}
use Rattle.slpf_rules.specs.Verdicts.{has_direction, is_before_stop, decides, verdict_of}
use Rattle.slpf_rules.proofs.Indexed.{files, is_net_same, unwrap_listed}
use Rattle.slpf_rules.proofs.QuickLemmas.{lt_from}
use Rattle.slpf_rules.proofs.NumberTests.{lt_is, not_lt_is}
use Rattle.slpf_rules.proofs.Rising.{filter-place, filter_same, IsRising-filter}
use Rattle.slpf_rules.proofs.Smallest.{found_each, each_filter, EachRule}
use Rattle.slpf_rules.proofs.SoleLemmas.{same_keys}

-- ---- what is found in a list

decides_same : (b : Brief) (r : Rule) (packet : Packet) (moment : ℕ) → IsBrief b r → brief_decides packet moment b ≡ decides packet moment r
decides_same b r packet moment h =
    let out = packet.outward in
    ap (λ n. nat_le n moment && is_before_stop moment b.stop && has_direction b.direction out && covers (flow_of b.flow) packet) h.start
    ∙ ap (λ s. nat_le r.start moment && is_before_stop moment s && has_direction b.direction out && covers (flow_of b.flow) packet) h.stop
    ∙ ap (λ d. nat_le r.start moment && is_before_stop moment r.stop && has_direction d out && covers (flow_of b.flow) packet) h.direction
    ∙ ap (λ f. nat_le r.start moment && is_before_stop moment r.stop && has_direction r.direction out && covers f packet) h.flow

abbrev says : Bool → ℕ → Option Verdict
says d n = Some (record { deny = d; rule = n })

found_one : (rules : List Rule) (t e : Bool) (b : Brief) (r : Rule) (o : Option Brief) (p : Option ℕ) → t ≡ e → said_of (Some b) ≡ picked rules (Some r.number) → said_of o ≡ picked rules p
    → said_of (cond t (Some b) o) ≡ picked rules (cond e (Some r.number) p)
found_one rules true true b r o p h here behind = here
found_one rules true false b r o p h here behind = cc
found_one rules false true b r o p h here behind = cc
found_one rules false false b r o p h here behind = behind

find_briefs : (rules : List Rule) (packet : Packet) (moment : ℕ) (bs : List Brief) (rs : List Rule) → AreBriefs bs rs → EachRule (λ r. rule_at r.number rules ≡ Some r) rs
    → said_of (find (brief_decides packet moment) bs) ≡ picked rules (find (number_decides rules packet moment) (numbers rs))
find_briefs rules packet moment [] rs h each = sym (ap (λ l. picked rules (find (number_decides rules packet moment) (numbers l))) h)
find_briefs rules packet moment (b ∷ bs) [] h each = cc
find_briefs rules packet moment (b ∷ bs) (r ∷ rs) h each =
    found_one rules (brief_decides packet moment b) (number_decides rules packet moment r.number) b r (find (brief_decides packet moment) bs) (find (number_decides rules packet moment) (numbers rs))
    (decides_same b r packet moment h.0 ∙ sym (ap (λ o. option_map_or (decides packet moment) o false) each.0))
    (ap₂ says h.0.deny h.0.number ∙ sym (ap (λ o. Some (verdict_of o)) each.0))
    (find_briefs rules packet moment bs rs h.1 each.1)

-- the list of a net tells what is found there
pub briefs_said : (net_of : Flow → Option AnyNet) (rules : List Rule) (entries : List (AnyNet × List ℕ)) (packet : Packet) (moment : ℕ) (net : Net4) (list : List Brief)
    → AreBriefs list (filter (files net_of (V4 net)) rules) → IsIndexOf net_of rules entries → IsRising rules
    → said_of (find (brief_decides packet moment) list) ≡ picked rules (find (number_decides rules packet moment) (unwrap_or (at entries (V4 net)) []))
briefs_said net_of rules entries packet moment net list h indexed rising =
    let f = files net_of (V4 net) in
    let listed_is = ap (λ o. unwrap_or o []) (indexed (V4 net)) ∙ unwrap_listed (numbers (filter f rules)) in
    find_briefs rules packet moment list (filter f rules) h (each_filter (λ r. rule_at r.number rules ≡ Some r) f rules (found_each rules rising))
    ∙ ap (λ ns. picked rules (find (number_decides rules packet moment) ns)) (sym listed_is)

-- ---- one rule more

last_above : (bs : List Brief) (b : Brief) (rs : List Rule) (r : Rule) (n : ℕ) → AreBriefs (b ∷ bs) (r ∷ rs) → IsRising (r ∷ rs) → EndsBelow (b ∷ bs) n → r.number < n
last_above [] b rs r n h rising ends = omega (arith, h.0.number, ends)
last_above (c ∷ bs) b [] r n h rising ends = cc
last_above (c ∷ bs) b (q ∷ rs) r n h rising ends =
    let next = last_above bs c rs q n h.1 rising.1 ends in
    let here = rising.0.0 in
    omega arith

ends_behind : (c : Brief) (bs : List Brief) (n : ℕ) → EndsBelow (c ∷ bs) n → EndsBelow bs n
ends_behind c [] n h = tt
ends_behind c (d ∷ bs) n h = h

pub AreBriefs-push : (bs : List Brief) (rs : List Rule) (b : Brief) (r : Rule) → AreBriefs bs rs → IsBrief b r → IsRising rs → EndsBelow bs r.number → AreBriefs (bs ++ b ∷ []) (place r rs)
AreBriefs-push [] rs b r h is rising ends = subst (λ l. AreBriefs (b ∷ []) (place r l)) (sym h) (is, refl)
AreBriefs-push (c ∷ bs) [] b r h is rising ends = cc
AreBriefs-push (c ∷ bs) (q ∷ rs) b r h is rising ends =
    let low = last_above bs c rs q r.number h rising ends in
    let fits : q.number ≤ r.number = omega arith in
    subst (λ t. AreBriefs (c ∷ (bs ++ b ∷ [])) (cond t (r ∷ q ∷ rs) (q ∷ place r rs))) (sym (not_lt_is r.number q.number fits))
    (h.0, AreBriefs-push bs rs b r h.1 is rising.1 (ends_behind c bs r.number ends))

-- the list of a net after a rule was placed there
pub AreBriefs-grown : (net_of : Flow → Option AnyNet) (rule : Rule) (rules : List Rule) (net : Net4) (before : Option (List Brief)) (alone : Bool) (brief : Brief) (list : List Brief)
    → net_of rule.flow ≡ Some (V4 net) → IsRising rules → IsBrief brief rule → (alone ≡ true → filter (files net_of (V4 net)) rules ≡ [])
    → ((old : List Brief) → before ≡ Some old → AreBriefs old (filter (files net_of (V4 net)) rules)) → Grown before alone brief list
    → is_net (V4 net) (Some (V4 net)) ≡ true → AreBriefs list (filter (files net_of (V4 net)) (place rule rules))
AreBriefs-grown net_of rule rules net None alone brief list is rising told none stood grown self =
    let f = files net_of (V4 net) in
    subst (AreBriefs list) (sym (filter-place f rule rules rising (ap (is_net (V4 net)) is ∙ self) ∙ ap (place rule) (none grown.0)))
    (subst (λ l. AreBriefs l (rule ∷ [])) (sym grown.1) (told, refl))
AreBriefs-grown net_of rule rules net (Some old) alone brief list is rising told none stood grown self =
    let f = files net_of (V4 net) in
    subst (AreBriefs list) (sym (filter-place f rule rules rising (ap (is_net (V4 net)) is ∙ self)))
    (subst (λ l. AreBriefs l (place rule (filter f rules))) (sym grown.0)
    (AreBriefs-push old (filter f rules) brief rule (stood old refl) told (IsRising-filter f rules rising) (subst (EndsBelow old) told.number grown.1)))

-- ---- the lists of all nets

apart_keys : (a b : ℕ) → (a == b) ≡ false → (b == a) ≡ false
apart_keys a b h = grind (arith, nat_tests, h)

same_key : (a b : ℕ) → (a == b) ≡ true → (b == a) ≡ true
same_key a b h = grind (arith, nat_tests, h)

left_over : {V : Type 0} (items : V → List Brief) (b : Bool) (o m : Option V) (l : List Brief) → m ≡ cond b None o → option_map items m ≡ Some l → (b ≡ false) × (option_map items o ≡ Some l)
left_over items true o m l is h = let e : option_map items m ≡ None = ap (option_map items) is in cc
left_over items false o m l is h = (refl, sym (ap (option_map items) is) ∙ h)

-- each list is of all rules of its net
abbrev pub AllListed : {V : Type 0} → (V → List Brief) → (Flow → Option AnyNet) → List Rule → (ℕ → Option V) → Type 0
AllListed items net_of rules at = (net : Net4) (list : List Brief) → option_map items (at (key4 net)) ≡ Some list → AreBriefs list (filter (files net_of (V4 net)) rules)

pub AllListed-none : {V : Type 0} (items : V → List Brief) (net_of : Flow → Option AnyNet) (rules : List Rule) (at : ℕ → Option V) → ((key : ℕ) → at key ≡ None) → AllListed items net_of rules at
AllListed-none items net_of rules at none = λ b l is. let e : option_map items (at (key4 b)) ≡ None = ap (option_map items) (none (key4 b)) in cc

-- other rules, and the same of each net that has a list
pub AllListed-same : {V : Type 0} (items : V → List Brief) (net_of : Flow → Option AnyNet) (rules more : List Rule) (at : ℕ → Option V)
    → ((b : Net4) → filter (files net_of (V4 b)) more ≡ filter (files net_of (V4 b)) rules) → AllListed items net_of rules at → AllListed items net_of more at
AllListed-same items net_of rules more at same h = λ b l is. subst (AreBriefs l) (sym (same b)) (h b l is)

-- a list was taken out
pub AllListed-left : {V : Type 0} (items : V → List Brief) (net_of : Flow → Option AnyNet) (rules more : List Rule) (old new : ℕ → Option V) (net : Net4)
    → ((other : ℕ) → new other ≡ cond (key4 net == other) None (old other))
    → ((b : Net4) → is_net (V4 b) (Some (V4 net)) ≡ false → filter (files net_of (V4 b)) more ≡ filter (files net_of (V4 b)) rules) → AllListed items net_of rules old → AllListed items net_of more new
AllListed-left items net_of rules more old new net left same h = λ b l is.
    let both = left_over items (key4 net == key4 b) (old (key4 b)) (new (key4 b)) l (left (key4 b)) is in
    subst (AreBriefs l) (sym (same b (same_keys b net ∙ apart_keys (key4 net) (key4 b) both.0))) (h b l both.1)

put_cases : {V : Type 0} (items : V → List Brief) (b : Bool) (list : V) (m n : Option V) (l : List Brief) → n ≡ cond b (Some list) m → option_map items n ≡ Some l
    → ((b ≡ true) × (items list ≡ l)) ⊎ (option_map items m ≡ Some l)
put_cases items true list m n l is h = inl (refl, (let e : Some (items list) ≡ Some l = sym (ap (option_map items) is) ∙ h in cc))
put_cases items false list m n l is h = inr (sym (ap (option_map items) is) ∙ h)

-- a list was put in, or there was no memory
pub AllListed-put : {V : Type 0} (items : V → List Brief) (net_of : Flow → Option AnyNet) (rules : List Rule) (mid new : ℕ → Option V) (net : Net4) (list : V)
    → ((other : ℕ) → (new other ≡ mid other) ⊎ (new other ≡ cond (key4 net == other) (Some list) (mid other)))
    → AreBriefs (items list) (filter (files net_of (V4 net)) rules) → AllListed items net_of rules mid → AllListed items net_of rules new
AllListed-put items net_of rules mid new net list put told h = λ b l is.
    elim (put (key4 b)) [
      | inl same ↦ h b l (sym (ap (option_map items) same) ∙ is)
      | inr was ↦
          elim (put_cases items (key4 net == key4 b) list (mid (key4 b)) (new (key4 b)) l was is) [
            | inl here ↦
                let same = filter_same (files net_of (V4 b)) (files net_of (V4 net)) rules
                (λ r. is_net_same (V4 b) (V4 net) (net_of r.flow) (same_keys b net ∙ same_key (key4 net) (key4 b) here.0)) in
                subst (λ k. AreBriefs k (filter (files net_of (V4 b)) rules)) here.1 (subst (AreBriefs (items list)) (sym same) told)
            | inr before ↦ h b l before
          ]
    ]

-- the list of a net
pub AllListed-at : {V : Type 0} (items : V → List Brief) (net_of : Flow → Option AnyNet) (rules : List Rule) (at : ℕ → Option V) (key : ℕ) (net : Net4) (list : V)
    → at key ≡ Some list → key ≡ key4 net → AllListed items net_of rules at → AreBriefs (items list) (filter (files net_of (V4 net)) rules)
AllListed-at items net_of rules at key net list is same h =
    h net (items list) (ap (λ k. option_map items (at k)) (sym same) ∙ ap (option_map items) is)

-- a list that was taken out
pub AllListed-taken : {V : Type 0} (items : V → List Brief) (net_of : Flow → Option AnyNet) (rules : List Rule) (at : ℕ → Option V) (key : ℕ) (net : Net4) (found : Option V)
    → found ≡ at key → key ≡ key4 net → AllListed items net_of rules at → (old : List Brief) → option_map items found ≡ Some old → AreBriefs old (filter (files net_of (V4 net)) rules)
AllListed-taken items net_of rules at key net found is same h = λ old was.
    h net old (ap (λ k. option_map items (at k)) (sym same) ∙ ap (option_map items) (sym is) ∙ was)

-- one key in place of another
pub left_by : {V : Type 0} (old new : ℕ → Option V) (key same : ℕ) → key ≡ same → ((other : ℕ) → new other ≡ cond (key == other) None (old other)) → (other : ℕ) → new other ≡ cond (same == other) None (old other)
left_by old new key same is h = λ other. h other ∙ ap (λ k. cond (k == other) None (old other)) is

pub put_by : {V : Type 0} (old new : ℕ → Option V) (key same : ℕ) (list : V) → key ≡ same → ((other : ℕ) → (new other ≡ old other) ⊎ (new other ≡ cond (key == other) (Some list) (old other)))
    → (other : ℕ) → (new other ≡ old other) ⊎ (new other ≡ cond (same == other) (Some list) (old other))
put_by old new key same list is h = λ other.
    elim (h other) [ inl before ↦ inl before | inr put ↦ inr (put ∙ ap (λ k. cond (k == other) (Some list) (old other)) is) ]

-- the last of a list
pub ends_at : (bs : List Brief) (b : Brief) (n at : ℕ) → length bs ≡ at + 1 → slice_get bs at ≡ Some b → b.number < n → EndsBelow bs n
ends_at [] b n at size h lt = tt
ends_at (c ∷ []) b n zero size h lt = let e : c ≡ b = cc in subst (λ x. x.number < n) (sym e) lt
ends_at (c ∷ []) b n (suc at) size h lt = cc
ends_at (c ∷ d ∷ bs) b n zero size h lt = absurd (omega arith)
ends_at (c ∷ d ∷ bs) b n (suc at) size h lt = let behind : length (d ∷ bs) ≡ at + 1 = omega arith in ends_at (d ∷ bs) b n at behind h lt

on_true : (t : Bool) (P : Type 0) → (t ≡ true → P) → OnTrue t P
on_true true P h = h refl
on_true false P h = tt

pub ends_on : (bs : List Brief) (b : Brief) (n : ℕ) → slice_get bs (length bs - 1) ≡ Some b → OnTrue (nat_lt b.number n) (EndsBelow bs n)
ends_on [] b n h = on_true (nat_lt b.number n) (EndsBelow [] n) (λ is. tt)
ends_on (c ∷ bs) b n h =
    let size : length (c ∷ bs) ≡ length (c ∷ bs) - 1 + 1 = omega arith in
    on_true (nat_lt b.number n) (EndsBelow (c ∷ bs) n) (λ is. ends_at (c ∷ bs) b n (length (c ∷ bs) - 1) size h (lt_from b.number n is))
