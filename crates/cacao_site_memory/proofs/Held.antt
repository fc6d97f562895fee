-- Each parcel held back is due or held up to a later moment.
use Rattle.std.proofs.Common.{◌≡◌, ◌+◌, ◌<◌, ℕ, List, length, take, not, arith}
use Rattle.std.proofs.lemmas.Bool.Decides.{nat_tests}
use Rattle.std.proofs.lemmas.List.{length-take}
use Rattle.std.proofs.lemmas.List.Filters.{length-filter_both}
use Rattle.std.specs.List.{filter}
use Rattle.cacao_site_memory.specs.Parcels.{is_due, is_later}

later-or_due : (now : ℕ) (mark : ℕ × ℕ) → is_later now mark ≡ not (is_due now mark)
later-or_due now mark = grind (arith, nat_tests)

pub due-and_later : (now : ℕ) (held : List (ℕ × ℕ)) → length (filter (is_due now) held) + length (filter (is_later now) held) ≡ length held
due-and_later now held = length-filter_both (is_due now) (is_later now) (later-or_due now) held

pub due-below : (now k : ℕ) (held : List (ℕ × ℕ)) → k < length held → length (filter (is_due now) (take k held)) < length held
due-below now k held lt = omega (arith, due-and_later now (take k held), length-take k held)
