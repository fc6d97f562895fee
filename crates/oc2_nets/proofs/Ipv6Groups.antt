-- Groups of an IPv6 address, as std's grammar has them and as this crate's has.
use Rattle.std.proofs.Common.{◌≡◌, ◌≤◌, ℕ, zero, suc, Bool, false, List, [], ◌∷◌, ◌++◌, length, Some, refl, sym, ap, ◌∙◌, subst, arith, inl, inr, append_assoc, append-nil, length-append, decimal, lit≤}
use Rattle.std.proofs.lemmas.Option.{same_Some, option_and_then_some}
use Rattle.std.specs.List.{join_with_byte}
use Rattle.std.specs.Char.{digit_value}
use Rattle.std.specs.Net.Grammar.{IsDotted, IsGroupsAfter, IsGroups}
use Rattle.oc2_nets.specs.Texts.{parts}
use Rattle.oc2_nets.specs.Ipv6.{group, each, groups}
use Rattle.oc2_nets.proofs.TextParts.{Lacks, Lacks-append, Lacks-right, parts_one, parts_more, joined_parts}
use Rattle.oc2_nets.proofs.Ipv4Lemmas.{regrouped}
use Rattle.oc2_nets.proofs.Ipv6Lemmas.{group_sound, group_complete, hex_lacks, no_colon}

abbrev pub colon : List ℕ
colon = 58 ∷ []

pub colon_plain : Lacks 46 colon
colon_plain zero h e = absurd (omega arith)
colon_plain (suc i) h e = absurd (omega arith)

-- ---- what is read is in std's grammar

each_sound : (ipv4 : Bool) (ps : List (List ℕ)) (p lead gs : List ℕ) → each (p ∷ ps) ≡ Some gs → IsGroupsAfter ipv4 lead (lead ++ join_with_byte 58 (p ∷ ps)) gs
each_sound ipv4 [] p lead gs e =
    option_and_then_some _ (group p) gs e λ g is e₁.
    subst (λ x. IsGroupsAfter ipv4 lead (lead ++ p) x) (same_Some _ _ e₁)
    (inl (p, [], sym (append-nil (lead ++ p)), group_sound p g is, refl))
each_sound ipv4 (q ∷ ps) p lead gs e =
    option_and_then_some _ (group p) gs e λ g is e₁.
    option_and_then_some _ (each (q ∷ ps)) gs e₁ λ rest more e₂.
    subst (λ x. IsGroupsAfter ipv4 lead (lead ++ join_with_byte 58 (p ∷ q ∷ ps)) x) (same_Some _ _ e₂)
    (inl (p, 58 ∷ join_with_byte 58 (q ∷ ps), sym (append_assoc lead p _), group_sound p g is, each_sound ipv4 ps q colon rest more))

of_parts : (ipv4 : Bool) (c : ℕ) (text gs : List ℕ) (ps : List (List ℕ)) → join_with_byte 58 ps ≡ c ∷ text → each ps ≡ Some gs → IsGroups ipv4 (c ∷ text) gs
of_parts ipv4 c text gs [] joined e = cc
of_parts ipv4 c text gs (p ∷ ps) joined e = subst (λ t. IsGroups ipv4 t gs) joined (each_sound ipv4 ps p [] gs e)

pub groups_sound : (ipv4 : Bool) (text gs : List ℕ) → groups text ≡ Some gs → IsGroups ipv4 text gs
groups_sound ipv4 [] gs e = subst (λ x. IsGroups ipv4 [] x) (same_Some _ _ e) refl
groups_sound ipv4 (c ∷ text) gs e = of_parts ipv4 c text gs (parts 58 (c ∷ text)) (joined_parts 58 (c ∷ text)) e

-- groups have no byte but digits and colons
pub groups_lack : (c : ℕ) → 16 ≤ digit_value c → Lacks c colon → (lead text gs : List ℕ) → Lacks c lead → IsGroupsAfter false lead text gs → Lacks c text
groups_lack c high apart lead text [] plain h = subst (Lacks c) (sym h) (λ i k. absurd (omega arith))
groups_lack c high apart lead text (s ∷ gs) plain (inl h) =
    let (g, rest, split, is, more) = h in
    subst (Lacks c) (sym split) (Lacks-append c (lead ++ g) rest (Lacks-append c lead g plain (hex_lacks c g high is.0.0.1)) (groups_lack c high apart colon rest gs apart more))
groups_lack c high apart lead text (s ∷ gs) plain (inr h) = cc

pub groups_plain : (lead text gs : List ℕ) → Lacks 46 lead → IsGroupsAfter false lead text gs → Lacks 46 text
groups_plain lead text gs plain h = groups_lack 46 (lit≤ tt) colon_plain lead text gs plain h

-- ---- what is in std's grammar is read, unless it has a dot

-- an IPv4 address has a dot
pub dotted_has_dot : (text octets : List ℕ) → IsDotted text octets → ¬ (Lacks 46 text)
dotted_has_dot text octets h plain =
    let whole = h.spelled ∙ regrouped h.a h.b h.c h.d in
    Lacks-right 46 (decimal h.a) (46 ∷ _) (subst (Lacks 46) whole plain) 0 (omega arith) refl

-- groups that follow a colon
pub behind_colon : (ipv4 : Bool) (text gs : List ℕ) (s : ℕ) → IsGroupsAfter ipv4 colon text (s ∷ gs) → (rest : List ℕ) × (text ≡ 58 ∷ rest) × IsGroups ipv4 rest (s ∷ gs)
behind_colon ipv4 text gs s (inl h) = let (g, more, split, is, later) = h in (g ++ more, split, inl (g, more, refl, is, later))
behind_colon ipv4 text gs s (inr h) = let (last, os, may, split, dotted, value) = h in (last, split, inr (last, os, may, refl, dotted, value))

each_complete : (ipv4 : Bool) (gs : List ℕ) (s : ℕ) (text : List ℕ) → IsGroups ipv4 text (s ∷ gs) → Lacks 46 text → each (parts 58 text) ≡ Some (s ∷ gs)
each_complete ipv4 [] s text (inl h) plain =
    let (g, rest, split, is, more) = h in
    let whole : text ≡ g = split ∙ ap (λ r. g ++ r) more ∙ append-nil g in
    ap (λ t. each (parts 58 t)) whole ∙ ap each (parts_one 58 g (no_colon g is.0.0.1)) ∙ rw (group_complete g s is) refl
each_complete ipv4 (r ∷ gs) s text (inl h) plain =
    let (g, rest, split, is, more) = h in
    let (behind, shown, later) = behind_colon ipv4 rest gs r more in
    let whole : text ≡ g ++ 58 ∷ behind = split ∙ ap (λ r. g ++ r) shown in
    let plain_rest : Lacks 46 (58 ∷ behind) = Lacks-right 46 g (58 ∷ behind) (subst (Lacks 46) whole plain) in
    let read = each_complete ipv4 gs r behind later (Lacks-right 46 colon behind plain_rest) in
    ap (λ t. each (parts 58 t)) whole ∙ ap each (parts_more 58 g behind (no_colon g is.0.0.1)) ∙ rw (group_complete g s is, read) refl
each_complete ipv4 gs s text (inr h) plain =
    let (last, os, may, split, dotted, value) = h in
    absurd (dotted_has_dot last os dotted (subst (Lacks 46) split plain))

not_empty : (ipv4 : Bool) (gs : List ℕ) (s : ℕ) → ¬ (IsGroups ipv4 [] (s ∷ gs))
not_empty ipv4 gs s (inl h) =
    let (g, rest, split, is, more) = h in
    omega (arith, ap length split, length-append g rest, is.0.0.0)
not_empty ipv4 gs s (inr h) =
    let (last, os, may, split, dotted, value) = h in
    dotted_has_dot last os dotted (subst (Lacks 46) split (λ i k. absurd (omega arith)))

pub groups_complete : (ipv4 : Bool) (text gs : List ℕ) → IsGroups ipv4 text gs → Lacks 46 text → groups text ≡ Some gs
groups_complete ipv4 text [] h plain = ap groups h
groups_complete ipv4 [] (s ∷ gs) h plain = absurd (not_empty ipv4 gs s h)
groups_complete ipv4 (c ∷ text) (s ∷ gs) h plain = each_complete ipv4 gs s (c ∷ text) h plain
