-- How long the entries of an image are.
use Rattle.std.proofs.Common.{◌≡◌, inl, inr, ap, arith, ℕ, ◌<◌, List, [], ◌∷◌, length, length-append}
use Rattle.run_journal.specs.Layout.{Stands, entries, front}

front_none : (items : List (List ℕ)) → items ≡ [] → length (front items) < 67_108_864
unfolding front entries
front_none [] e = omega arith
front_none (item ∷ items) e = absurd (cc)

pub front_fits : (image : List ℕ) (items : List (List ℕ)) → Stands image items → length (front items) < 67_108_864
front_fits image items (inl h) = front_none items h.1
front_fits image items (inr h) =
    omega (arith, ap (λ (l : List ℕ). length l) h.1.closed.is, length-append (front items) (h.1.closed.gate ∷ h.1.closed.rest), h.1.within)
