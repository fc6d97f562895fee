-- An image stands for at most one list, and a damaged one for none.
use Rattle.std.proofs.Common.{◌≡◌, inl, inr, ℕ, ◌<◌, List, [], ◌∷◌, ◌++◌, length, get_or, refl, sym, ◌∙◌, ap, subst, arith, append_assoc, length-append}
use Rattle.std.proofs.Math.ListN.{get_or-append}
use Rattle.run_journal.specs.Laws.{OneList, NoListWhereDamaged}
use Rattle.run_journal.specs.Layout.{header, entries, front, length_field, IsBroken, BreaksAt, HasLayout}
use Rattle.run_journal.proofs.Unique.{NoEntry, no_entry_closed, field_inverse, same_back, unique}

-- what stands behind the header
pub behind_header : (xs ys : List (List ℕ)) (r s : List ℕ) → front xs ++ r ≡ front ys ++ s → entries xs ++ r ≡ entries ys ++ s
unfolding front
behind_header xs ys r s e = same_back header header (entries xs ++ r) (entries ys ++ s) refl (sym (append_assoc header (entries xs) r) ∙ e ∙ append_assoc header (entries ys) s)

same_items : (image : List ℕ) (xs ys : List (List ℕ)) → HasLayout xs image → HasLayout ys image → xs ≡ ys
same_items image xs ys p q =
    unique xs ys (p.closed.gate ∷ p.closed.rest) (q.closed.gate ∷ q.closed.rest) p.short q.short (no_entry_closed p.closed.gate p.closed.rest p.closed.shut) (no_entry_closed q.closed.gate q.closed.rest q.closed.shut)
    (behind_header xs ys (p.closed.gate ∷ p.closed.rest) (q.closed.gate ∷ q.closed.rest) (sym p.closed.is ∙ q.closed.is))

pub one_list : OneList
one_list image xs ys (inl p) (inl q) = p.1 ∙ sym q.1
one_list image xs ys (inl p) (inr q) = absurd (omega (arith, p.0, q.0))
one_list image xs ys (inr p) (inl q) = absurd (omega (arith, p.0, q.0))
one_list image xs ys (inr p) (inr q) = same_items image xs ys p.1 q.1

pub no_entry_broken : (rest : List ℕ) → IsBroken rest → NoEntry rest
no_entry_broken rest broken x after short e =
    let whole : IsBroken ((1 ∷ length_field (length x)) ++ x ++ after) = subst IsBroken e broken in
    let size = field_inverse (length x) short in
    elim whole.1 [
      | inl big ↦ absurd (omega (arith, big, size, short))
      | inr cut ↦ absurd (omega (arith, cut, size, length-append x after))
    ]

broken_gate : (gate : ℕ) (rest : List ℕ) → IsBroken (gate ∷ rest) → gate ≡ 1
broken_gate gate [] h = h
broken_gate gate (a ∷ []) h = h
broken_gate gate (a ∷ b ∷ []) h = h
broken_gate gate (a ∷ b ∷ c ∷ []) h = h
broken_gate gate (a ∷ b ∷ c ∷ d ∷ rest) h = h.0

not_broken : (image : List ℕ) (place : ℕ) (items : List (List ℕ)) → BreaksAt image place → HasLayout items image → ⊥
not_broken image place items breaks layout =
    let shut = layout.closed.gate ∷ layout.closed.rest in
    let body = behind_header breaks.items items breaks.rest shut (sym breaks.is ∙ layout.closed.is) in
    let same : breaks.items ≡ items = unique breaks.items items breaks.rest shut breaks.short layout.short (no_entry_broken breaks.rest breaks.broken) (no_entry_closed layout.closed.gate layout.closed.rest layout.closed.shut) body in
    let rest : breaks.rest ≡ shut = same_back (entries items) (entries items) breaks.rest shut refl (ap (λ (l : List (List ℕ)). entries l ++ breaks.rest) (sym same) ∙ body) in
    layout.closed.shut (broken_gate layout.closed.gate layout.closed.rest (subst IsBroken rest breaks.broken))

header_at : (image : List ℕ) (items : List (List ℕ)) (place : ℕ) → place < 8 → HasLayout items image → get_or image place 0 ≡ get_or header place 0
unfolding front
header_at image items place lt layout =
    ap (λ (l : List ℕ). get_or l place 0) (layout.closed.is ∙ append_assoc header (entries items) (layout.closed.gate ∷ layout.closed.rest))
    ∙ get_or-append header (entries items ++ layout.closed.gate ∷ layout.closed.rest) 0 place lt

pub no_list_where_damaged : NoListWhereDamaged
no_list_where_damaged image place items (inl big) (inl low) = omega (arith, big.0, low.0)
no_list_where_damaged image place items (inl big) (inr high) = omega (arith, big.0, high.1.within)
no_list_where_damaged image place items (inr (inl differs)) (inl low) = omega (arith, differs.0, low.0)
no_list_where_damaged image place items (inr (inl differs)) (inr high) = differs.4 (header_at image items place differs.2 high.1)
no_list_where_damaged image place items (inr (inr breaks)) (inl low) = omega (arith, breaks.0, low.0)
no_list_where_damaged image place items (inr (inr breaks)) (inr high) = not_broken image place items breaks.2 high.1
