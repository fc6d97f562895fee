-- Scaffold: The keys of the map that sorts.
use Rattle.std.specs.Prelude.{ℕ, List, map}
use Rattle.std.specs.Ordering.{nat_cmp, ordering_then}
use Rattle.std.specs.Cmp.Lexicographic.{slice_cmp}
use Rattle.std.specs.declared.cmp.Ordering.{Ordering}
use Rattle.cacao_text.specs.declared.order.Key.{Key}

-- by units, and then by place
abbrev pub key_cmp : Key → Key → Ordering
key_cmp a b = ordering_then (slice_cmp nat_cmp a.units.items b.units.items) (nat_cmp a.place b.place)

abbrev pub places_in : List (Key × Unit {0}) → List ℕ
places_in es = map (λ e. e.0.place) es
