-- Lists of a link that gain entries at their end.
use Rattle.std.proofs.Common.{◌≡◌, ◌⊎◌, inl, inr, ℕ, zero, suc, List, [], ◌∷◌, ◌++◌, length, refl, sym, ◌∙◌, subst, ap}
use Rattle.std.specs.Prelude.{Option, Some, None, slice_get}
use Rattle.std.proofs.lemmas.List.{append_assoc, append-nil}
use Rattle.cacao_site.specs.LinkCalls.{Gains, GainsAll}

pub gains_one : {T : Type 0} (a b : Option (List T)) (x : T) → Gains a x b → GainsAll a (x ∷ []) b
gains_one (Some a) (Some b) x g = g
gains_one (Some a) None x g = absurd g
gains_one None None x g = tt
gains_one None (Some b) x g = absurd g

pub gains_none : {T : Type 0} (a : Option (List T)) → GainsAll a [] a
gains_none (Some a) = sym (append-nil a)
gains_none None = tt

pub gains_same : {T : Type 0} (a b : Option (List T)) → b ≡ a → GainsAll a [] b
gains_same {T} a b e = subst (λ (o : Option (List T)). GainsAll a [] o) (sym e) (gains_none a)

pub gains_then : {T : Type 0} (a b c : Option (List T)) (x y : List T) → GainsAll a x b → GainsAll b y c → GainsAll a (x ++ y) c
gains_then (Some a) (Some b) (Some c) x y p q = q ∙ ap (λ l. l ++ y) p ∙ append_assoc a x y
gains_then (Some a) (Some b) None x y p q = absurd q
gains_then (Some a) None c x y p q = absurd p
gains_then None None None x y p q = tt
gains_then None None (Some c) x y p q = absurd q
gains_then None (Some b) c x y p q = absurd p

-- an entry of a list with one more at its end
pub get_last_or : {T : Type 0} (xs : List T) (x y : T) (k : ℕ) → slice_get (xs ++ x ∷ []) k ≡ Some y → (slice_get xs k ≡ Some y) ⊎ ((k ≡ length xs) × (x ≡ y))
get_last_or [] x y zero is = inr (refl, cc)
get_last_or [] x y (suc k) is = absurd (cc)
get_last_or (z ∷ xs) x y zero is = inl is
get_last_or (z ∷ xs) x y (suc k) is = elim (get_last_or xs x y k is) [
  | inl before ↦ inl before
  | inr last ↦ inr (ap suc last.0, last.1)
]
