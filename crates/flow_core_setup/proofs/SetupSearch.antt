-- Looking for a name among entries in order.
use Rattle.std.proofs.Common.{ℕ, List, [], ◌∷◌}
use Rattle.cacao_vars.proofs.SearchLemmas.{Rises}
use Rattle.flow_core_setup.specs.SetupGivens.{AreInOrder}

pub entries_rise : (entries : List (List ℕ × ℕ)) → AreInOrder entries → Rises (λ (entry : List ℕ × ℕ). entry.0) entries
entries_rise [] order = tt
entries_rise (entry ∷ entries) order = (order.0, entries_rise entries order.1)
