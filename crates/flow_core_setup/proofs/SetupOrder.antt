-- Entries that are made of members stand in the order of their names.
use Rattle.std.proofs.Common.{ℕ, List, [], ◌∷◌, map}
use Rattle.std.specs.List.{AllByRecursion}
use Rattle.serde_json.specs.Data.{Data}
use Rattle.cacao_vars.specs.Declarations.{IsBefore}
use Rattle.cacao_book_shape.specs.Orders.{IsRising}
use Rattle.flow_core_setup.specs.SetupGivens.{AreInOrder}

entries_later : {A : Type 0} (name : List ℕ) (f : Data → A) (ms : List (List ℕ × Data)) → AllByRecursion (λ (later : List ℕ × Data). IsBefore name later.0) ms
    → AllByRecursion (λ (later : List ℕ × A). IsBefore name later.0) (map (λ (m : List ℕ × Data). (m.0, f m.1)) ms)
entries_later name f [] h = tt
entries_later name f (m ∷ ms) h = (h.0, entries_later name f ms h.1)

pub entries_in_order : {A : Type 0} (f : Data → A) (ms : List (List ℕ × Data)) → IsRising ms → AreInOrder {A = A} (map (λ (m : List ℕ × Data). (m.0, f m.1)) ms)
entries_in_order f [] h = tt
entries_in_order f (m ∷ ms) h = (entries_later m.0 f ms h.0, entries_in_order f ms h.1)
