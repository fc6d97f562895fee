-- The two forms of an IPv6 address, as std's grammar has them and as this crate's has.
use Rattle.std.proofs.Common.{◌≡◌, ◌≢◌, ◌<◌, ◌==◌, ◌&&◌, ℕ, suc, Bool, true, false, List, [], ◌∷◌, ◌++◌, length, Option, Some, None, option_map, refl, sym, ap, ◌∙◌, subst, arith, inl, inr, append_assoc, append-nil, lt-ltb, ltb-true, eq-eqb, eqb-true, ne_eqb}
use Rattle.std.proofs.lemmas.Bool.{and_parts, cases_Bool}
use Rattle.std.proofs.lemmas.Option.{none-some, same_Some, option_and_then_some, cond_some}
use Rattle.std.specs.Str.Parse.{AllDigits}
use Rattle.std.specs.Net.Grammar.{IsGroups, IsColonHex}
use Rattle.oc2_nets.specs.Ipv6.{groups, cut, by_form, segments}
use Rattle.oc2_nets.proofs.Choices.{map_some}
use Rattle.oc2_nets.proofs.TextParts.{Lacks, Lacks-append, Lacks-right}
use Rattle.oc2_nets.proofs.Ipv6Lemmas.{no_colon}
use Rattle.oc2_nets.proofs.Ipv6Groups.{groups_sound, groups_complete, groups_plain, behind_colon, colon, colon_plain, dotted_has_dot}

-- ---- where `::` stands

-- a text before what was found
abbrev before : List ℕ → List ℕ × List ℕ → List ℕ × List ℕ
before front found = (front ++ found.0, found.1)

cut_past : (c : ℕ) (text : List ℕ) → c ≢ 58 → cut (c ∷ text) ≡ option_map (before (c ∷ [])) (cut text)
cut_past c [] other = refl
cut_past c (d ∷ text) other = rw (ne_eqb c 58 other) refl

-- a colon that no other follows
cut_alone : (d : ℕ) (text : List ℕ) → d ≢ 58 → cut (58 ∷ d ∷ text) ≡ option_map (before (58 ∷ [])) (cut (d ∷ text))
cut_alone d text other = rw (ne_eqb d 58 other) refl

before_before : (xs ys : List ℕ) (o : Option (List ℕ × List ℕ)) → option_map (before xs) (option_map (before ys) o) ≡ option_map (before (xs ++ ys)) o
before_before xs ys None = refl
before_before xs ys (Some p) = ap (λ t. Some (t, p.1)) (sym (append_assoc xs ys p.0))

before_none : (o : Option (List ℕ × List ℕ)) → o ≡ option_map (before []) o
before_none None = refl
before_none (Some p) = refl

cut_over : (front text : List ℕ) → Lacks 58 front → cut (front ++ text) ≡ option_map (before front) (cut text)
cut_over [] text lacks = before_none (cut text)
cut_over (c ∷ front) text lacks =
    cut_past c (front ++ text) (lacks 0 (omega arith))
    ∙ ap (option_map (before (c ∷ []))) (cut_over front text (λ i h. lacks (suc i) (omega arith)))
    ∙ before_before (c ∷ []) front (cut text)

-- a text that begins with another byte than a colon
Begins : List ℕ → Type 0
Begins text = (d : ℕ) × (rest : List ℕ) × (text ≡ d ∷ rest) × (d ≢ 58)

digit_begins : (g rest : List ℕ) → 0 < length g → AllDigits 16 g → Begins (g ++ rest)
unfolding Begins
digit_begins [] rest some all = absurd (omega arith)
digit_begins (d ∷ g) rest some all = (d, g ++ rest, refl, λ e. no_colon (d ∷ g) all 0 (omega arith) e)

group_begins : (ipv4 : Bool) (gs : List ℕ) (s : ℕ) (text : List ℕ) → IsGroups ipv4 text (s ∷ gs) → Lacks 46 text → Begins text
group_begins ipv4 gs s text (inl h) plain =
    let (g, rest, split, is, more) = h in
    subst Begins (sym split) (digit_begins g rest is.0.0.0 is.0.0.1)
group_begins ipv4 gs s text (inr h) plain =
    let (last, os, may, split, dotted, value) = h in
    absurd (dotted_has_dot last os dotted (subst (Lacks 46) split plain))

cut_colon : (text rest : List ℕ) → Begins text → cut (58 ∷ (text ++ rest)) ≡ option_map (before colon) (cut (text ++ rest))
unfolding Begins
cut_colon text rest h =
    let (d, more, is, other) = h in
    subst (λ t. cut (58 ∷ (t ++ rest)) ≡ option_map (before colon) (cut (t ++ rest))) (sym is) (cut_alone d (more ++ rest) other)

-- groups hold no `::`
cut_groups : (ipv4 : Bool) (gs : List ℕ) (s : ℕ) (text rest : List ℕ) → IsGroups ipv4 text (s ∷ gs) → Lacks 46 text → cut (text ++ rest) ≡ option_map (before text) (cut rest)
cut_groups ipv4 [] s text rest (inl h) plain =
    let (g, more, split, is, done) = h in
    let whole : text ≡ g = split ∙ ap (λ r. g ++ r) done ∙ append-nil g in
    subst (λ t. cut (t ++ rest) ≡ option_map (before t) (cut rest)) (sym whole) (cut_over g rest (no_colon g is.0.0.1))
cut_groups ipv4 (r ∷ gs) s text rest (inl h) plain =
    let (g, more, split, is, others) = h in
    let (behind, shown, later) = behind_colon ipv4 more gs r others in
    let whole : text ≡ g ++ 58 ∷ behind = split ∙ ap (λ r. g ++ r) shown in
    let plain_behind : Lacks 46 behind = Lacks-right 46 colon behind (Lacks-right 46 g (58 ∷ behind) (subst (Lacks 46) whole plain)) in
    let found = cut_groups ipv4 gs r behind rest later plain_behind in
    let from_colon : cut (58 ∷ (behind ++ rest)) ≡ option_map (before (58 ∷ behind)) (cut rest) =
    cut_colon behind rest (group_begins ipv4 gs r behind later plain_behind) ∙ ap (option_map (before colon)) found ∙ before_before colon behind (cut rest) in
    let from_group : cut ((g ++ 58 ∷ behind) ++ rest) ≡ option_map (before (g ++ 58 ∷ behind)) (cut rest) =
    ap cut (append_assoc g (58 ∷ behind) rest) ∙ cut_over g (58 ∷ (behind ++ rest)) (no_colon g is.0.0.1)
    ∙ ap (option_map (before g)) from_colon ∙ before_before g (58 ∷ behind) (cut rest) in
    subst (λ t. cut (t ++ rest) ≡ option_map (before t) (cut rest)) (sym whole) from_group
cut_groups ipv4 gs s text rest (inr h) plain =
    let (last, os, may, split, dotted, value) = h in
    absurd (dotted_has_dot last os dotted (subst (Lacks 46) split plain))

nothing_lacks : (c : ℕ) → Lacks c []
nothing_lacks c i h = absurd (omega arith)

cut_none : (ipv4 : Bool) (gs : List ℕ) (s : ℕ) (text : List ℕ) → IsGroups ipv4 text (s ∷ gs) → Lacks 46 text → cut text ≡ None
cut_none ipv4 gs s text h plain = ap cut (sym (append-nil text)) ∙ cut_groups ipv4 gs s text [] h plain

cut_at : (gs text rest : List ℕ) → IsGroups false text gs → cut (text ++ 58 ∷ 58 ∷ rest) ≡ Some (text, rest)
cut_at [] text rest h = subst (λ t. cut (t ++ 58 ∷ 58 ∷ rest) ≡ Some (t, rest)) (sym h) refl
cut_at (s ∷ gs) text rest h =
    cut_groups false gs s text (58 ∷ 58 ∷ rest) h (groups_plain [] text (s ∷ gs) (nothing_lacks 46) h)
    ∙ ap (λ t. Some (t, rest)) (append-nil text)

cut_sound : (text front rest : List ℕ) → cut text ≡ Some (front, rest) → text ≡ front ++ 58 ∷ 58 ∷ rest
cut_sound [] front rest e = absurd (none-some _ e)
cut_sound (c ∷ []) front rest e = absurd (none-some _ e)
cut_sound (c ∷ d ∷ text) front rest e = elim (cases_Bool (c == 58 && (d == 58))) [
  | inl both ↦
      let tests = and_parts _ _ both in
      let found : ◌≡◌ {A = Option (List ℕ × List ℕ)} (Some ([], text)) (Some (front, rest)) = rw both at e in
      let same = same_Some _ _ found in
      rw (eqb-true c 58 tests.0, eqb-true d 58 tests.1, ap (λ p. p.1) same, ← ap (λ p. p.0) same) refl
  | inr other ↦
      let found : option_map (before (c ∷ [])) (cut (d ∷ text)) ≡ Some (front, rest) = rw other at e in
      map_some (before (c ∷ [])) (cut (d ∷ text)) (front, rest) found λ p is shown.
      let later = cut_sound (d ∷ text) p.0 p.1 is in
      ap (λ t. c ∷ t) later ∙ ap (λ q. q.0 ++ 58 ∷ 58 ∷ q.1) shown
]

-- ---- both directions

full_complete : (text gs : List ℕ) → IsGroups true text gs → length gs ≡ 8 → Lacks 46 text → by_form text (cut text) ≡ Some gs
full_complete text [] h eight plain = absurd (omega arith)
full_complete text (s ∷ gs) h eight plain =
    rw (cut_none true gs s text h plain, groups_complete true text (s ∷ gs) h plain, eq-eqb _ _ eight) refl

pub segments_complete : (text gs : List ℕ) → IsColonHex text gs → Lacks 46 text → segments text ≡ Some gs
unfolding segments
segments_complete text gs (inl h) plain = full_complete text gs h.0 h.1 plain
segments_complete text gs (inr h) plain =
    let whole : text ≡ h.head_text ++ 58 ∷ 58 ∷ h.tail_text = h.spelled ∙ append_assoc h.head_text (58 ∷ 58 ∷ []) h.tail_text in
    let plain_head = groups_plain [] h.head_text h.head (nothing_lacks 46) h.head_groups in
    let plain_tail = Lacks-right 46 (h.head_text ++ 58 ∷ 58 ∷ []) h.tail_text (subst (Lacks 46) h.spelled plain) in
    let found : cut text ≡ Some (h.head_text, h.tail_text) = ap cut whole ∙ cut_at h.head h.head_text h.tail_text h.head_groups in
    rw (found, groups_complete false h.head_text h.head h.head_groups plain_head, groups_complete true h.tail_text h.tail h.tail_groups plain_tail, lt-ltb _ _ h.room)
    (ap Some (sym h.value))

by_form_sound : (text gs : List ℕ) (o : Option (List ℕ × List ℕ)) → cut text ≡ o → by_form text o ≡ Some gs → IsColonHex text gs × Lacks 46 text
by_form_sound text gs None is e =
    option_and_then_some _ (groups text) gs e λ all read e₁.
    let kept = cond_some _ _ _ e₁ in
    let same : groups text ≡ Some gs = read ∙ ap Some kept.1 in
    (inl (groups_sound true text gs same, sym (ap length kept.1) ∙ eqb-true _ _ kept.0), groups_plain [] text gs (nothing_lacks 46) (groups_sound false text gs same))
by_form_sound text gs (Some p) is e =
    option_and_then_some _ (groups p.0) gs e λ head read_head e₁.
    option_and_then_some _ (groups p.1) gs e₁ λ tail read_tail e₂.
    let kept = cond_some _ _ _ e₂ in
    let whole = cut_sound text p.0 p.1 is in
    let plain_head = groups_plain [] p.0 head (nothing_lacks 46) (groups_sound false p.0 head read_head) in
    let plain_tail = groups_plain [] p.1 tail (nothing_lacks 46) (groups_sound false p.1 tail read_tail) in (
      inr record {
        head_text = p.0;
        tail_text = p.1;
        head = head;
        tail = tail;
        spelled = whole ∙ sym (append_assoc p.0 (58 ∷ 58 ∷ []) p.1);
        head_groups = groups_sound false p.0 head read_head;
        tail_groups = groups_sound true p.1 tail read_tail;
        room = ltb-true _ _ kept.0;
        value = sym kept.1;
      },
      subst (Lacks 46) (sym whole) (Lacks-append 46 p.0 (58 ∷ 58 ∷ p.1) plain_head (Lacks-append 46 colon (58 ∷ p.1) colon_plain (Lacks-append 46 colon p.1 colon_plain plain_tail))),
    )

pub segments_sound : (text gs : List ℕ) → segments text ≡ Some gs → IsColonHex text gs × Lacks 46 text
unfolding segments
segments_sound text gs e = by_form_sound text gs (cut text) refl e
