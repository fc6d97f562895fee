-- The map that sorts, beside the sorted places.
use Rattle.std.proofs.Common.{◌≡◌, ℕ, ◌+◌, ◌<◌, ◌≤◌, List, [], ◌∷◌, length, drop, get_or, Bool, true, false, Ordering, Less, Equal, Greater, nat_cmp, refl, sym, ap, ap₂, subst, ◌∙◌, arith}
use Rattle.std.specs.Prelude.{fold, if◌then◌else◌}
use Rattle.std.proofs.lemmas.List.{at_drop_more, drop_all}
use Rattle.std.specs.Ordering.{match_ordering, ordering_then, is_lt}
use Rattle.std.specs.Cmp.Lexicographic.{slice_cmp}
use Rattle.std.specs.Cmp.{nat_cmp_is}
use Rattle.std.specs.BTreeMap.{insert_entry}
use Rattle.cacao_text.specs.declared.order.Key.{Key}
use Rattle.cacao_json.specs.declared.tree.Pair.{Pair}
use Rattle.cacao_json.specs.Tree.{pair_data}
use Rattle.cacao_text.specs.Canon.{units, insert_named, in_order}
use Rattle.cacao_text.specs.Arranged.{name_at, is_kept, kept_places}
use Rattle.cacao_text.specs.Keys.{key_cmp, places_in}
use Rattle.cacao_text.proofs.Sorting.{Each, Each-insert_named}
use Rattle.cacao_text.proofs.Placed.{pair_at-drop}

abbrev pub Entry : Type 0
Entry = Key × Unit {0}

-- the entries have these places, and the units of the names there
abbrev pub Keyed : (ℕ → List ℕ) → List Entry → List ℕ → Type 0
Keyed name [] [] = Unit {0}
Keyed name [] (j ∷ js) = ⊥
Keyed name (e ∷ es) [] = ⊥
Keyed name (e ∷ es) (j ∷ js) = (e.0.units.items ≡ units (name j)) × (e.0.place ≡ j) × Keyed name es js

keyed_by : (name : ℕ → List ℕ) (o p : Ordering) (k : Key) (e : Entry) (es x ins : List Entry) (i j : ℕ) (js pl : List ℕ) → p ≡ Greater → Keyed name ((k, tt) ∷ e ∷ es) (i ∷ j ∷ js) → Keyed name (e ∷ ins) (j ∷ pl)
    → Keyed name (match_ordering (ordering_then o p) ((k, tt) ∷ e ∷ es) x (e ∷ ins)) (if is_lt o then i ∷ j ∷ js else j ∷ pl)
keyed_by name Less p k e es x ins i j js pl g v w = v
keyed_by name Equal p k e es x ins i j js pl g v w = subst (λ q. Keyed name (match_ordering q ((k, tt) ∷ e ∷ es) x (e ∷ ins)) (j ∷ pl)) (sym g) w
keyed_by name Greater p k e es x ins i j js pl g v w = w

greater : (i j : ℕ) → j < i → nat_cmp i j ≡ Greater
greater i j h = sym (nat_cmp_is i j Greater h)

pub Keyed-insert : (name : ℕ → List ℕ) (es : List Entry) (js : List ℕ) (k : Key) (i : ℕ) → Keyed name es js → k.units.items ≡ units (name i) → k.place ≡ i → Each (λ j. j < i) js
    → Keyed name (insert_entry key_cmp es k tt) (insert_named name i js)
Keyed-insert name [] [] k i w u p b = (u, p, tt)
Keyed-insert name [] (j ∷ js) k i w u p b = absurd w
Keyed-insert name (e ∷ es) [] k i w u p b = absurd w
Keyed-insert name (e ∷ es) (j ∷ js) k i w u p b =
    let last : nat_cmp k.place e.0.place ≡ Greater = ap₂ (λ (x y : ℕ). nat_cmp x y) p w.1 ∙ greater i j b.0 in
    let same : slice_cmp nat_cmp k.units.items e.0.units.items ≡ slice_cmp nat_cmp (units (name i)) (units (name j)) = ap₂ (λ (x y : List ℕ). slice_cmp nat_cmp x y) u w.0 in
    subst (λ o. Keyed name (insert_entry key_cmp (e ∷ es) k tt) (if is_lt o then i ∷ j ∷ js else j ∷ insert_named name i js)) same
    (keyed_by name (slice_cmp nat_cmp k.units.items e.0.units.items) (nat_cmp k.place e.0.place) k e es _ (insert_entry key_cmp es k tt) i j js (insert_named name i js) last (u, p, w) (w.0, w.1, Keyed-insert name es js k i w.2 u p b.1))

pub places_in-Keyed : (name : ℕ → List ℕ) (es : List Entry) (js : List ℕ) → Keyed name es js → places_in es ≡ js
places_in-Keyed name [] [] w = refl
places_in-Keyed name [] (j ∷ js) w = absurd w
places_in-Keyed name (e ∷ es) [] w = absurd w
places_in-Keyed name (e ∷ es) (j ∷ js) w = ap₂ (λ (x : ℕ) (l : List ℕ). x ∷ l) w.1 (places_in-Keyed name es js w.2)

-- ---- the loop that sorts

-- the first i members are sorted, but those that do not stay
pub record IsPlaced (unsigned : Bool) (ps : List Pair) (i : ℕ) (es : List Entry) : Type 0 where
  pub done : List ℕ
  pub keyed : Keyed (name_at ps) es done
  pub below : Each (λ j. j < i) done
  pub rest : fold (λ sorted j. insert_named (name_at ps) j sorted) done (kept_places unsigned i (drop i ps)) ≡ in_order (name_at ps) (kept_places unsigned 0 ps)

pub placed_start : (unsigned : Bool) (ps : List Pair) (es : List Entry) → es ≡ [] → IsPlaced unsigned ps 0 es
placed_start unsigned ps es e = subst (IsPlaced unsigned ps 0) (sym e) (record { done = []; keyed = tt; below = tt; rest = refl })

abbrev placing : List Pair → List ℕ → List ℕ → List ℕ
placing ps done js = fold (λ sorted j. insert_named (name_at ps) j sorted) done js

weaker : (i : ℕ) (js : List ℕ) → Each (λ j. j < i) js → Each (λ j. j < i + 1) js
weaker i [] w = tt
weaker i (j ∷ js) w = (omega (arith, w.0), weaker i js w.1)

first_is : (ps : List Pair) (i : ℕ) (p : Pair) → i < length ps → p ≡ get_or ps i p → drop i ps ≡ p ∷ drop (i + 1) ps
first_is ps i p below at = at_drop_more (λ qs. qs) ps i p below ∙ ap (λ q. q ∷ drop (i + 1) ps) (sym at)

pub placed_kept : (unsigned : Bool) (ps : List Pair) (i : ℕ) (p : Pair) (k : Key) (es new : List Entry) → i < length ps → p ≡ get_or ps i p → is_kept unsigned (pair_data p).0 ≡ true
    → k.units.items ≡ units (pair_data p).0 → k.place ≡ i → new ≡ insert_entry key_cmp es k tt → IsPlaced unsigned ps i es → IsPlaced unsigned ps (i + 1) new
placed_kept unsigned ps i p k es new below at stays same here made w =
    let qs = drop (i + 1) ps in
    let first = first_is ps i p below at in
    let name : (pair_data p).0 ≡ name_at ps i = ap (λ m. m.0) (sym (pair_at-drop ps i p qs first)) in
    let left : kept_places unsigned i (drop i ps) ≡ i ∷ kept_places unsigned (i + 1) qs =
    ap (kept_places unsigned i) first ∙ ap (λ b. if b then i ∷ kept_places unsigned (i + 1) qs else kept_places unsigned (i + 1) qs) stays in
    record {
      done = insert_named (name_at ps) i w.done;
      keyed = subst (λ es'. Keyed (name_at ps) es' (insert_named (name_at ps) i w.done)) (sym made) (Keyed-insert (name_at ps) es w.done k i w.keyed (same ∙ ap units name) here w.below);
      below = Each-insert_named (λ j. j < i + 1) (name_at ps) i w.done (omega arith) (weaker i w.done w.below);
      rest = ap (placing ps w.done) (sym left) ∙ w.rest;
    }

pub placed_passed : (unsigned : Bool) (ps : List Pair) (i : ℕ) (p : Pair) (es : List Entry) → i < length ps → p ≡ get_or ps i p → is_kept unsigned (pair_data p).0 ≡ false → IsPlaced unsigned ps i es → IsPlaced unsigned ps (i + 1) es
placed_passed unsigned ps i p es below at goes w =
    let qs = drop (i + 1) ps in
    let left : kept_places unsigned i (drop i ps) ≡ kept_places unsigned (i + 1) qs =
    ap (kept_places unsigned i) (first_is ps i p below at) ∙ ap (λ b. if b then i ∷ kept_places unsigned (i + 1) qs else kept_places unsigned (i + 1) qs) goes in
    record { done = w.done; keyed = w.keyed; below = weaker i w.done w.below; rest = ap (placing ps w.done) (sym left) ∙ w.rest }

pub placed_end : (unsigned : Bool) (ps : List Pair) (i : ℕ) (es : List Entry) → length ps ≤ i → IsPlaced unsigned ps i es → places_in es ≡ in_order (name_at ps) (kept_places unsigned 0 ps)
placed_end unsigned ps i es past w = places_in-Keyed (name_at ps) es w.done w.keyed ∙ ap (λ qs. placing ps w.done (kept_places unsigned i qs)) (sym (drop_all i ps past)) ∙ w.rest
