-- The order of what is made of members in order.
use Rattle.std.proofs.Common.{ℕ, List, [], ◌∷◌, map}
use Rattle.std.specs.List.{AllByRecursion}
use Rattle.serde_json.specs.Data.{Data}
use Rattle.cacao_vars.specs.Declarations.{IsBefore, IsInNameOrder}
use Rattle.cacao_book_shape.specs.Orders.{IsRising}
use Rattle.cacao_book.specs.Books.{var_of, step_of}
use Rattle.cacao_book.specs.Steps.{IsInKeyOrder}

names_later : (name : List ℕ) (ms : List (List ℕ × Data)) → AllByRecursion (λ later. IsBefore name later.0) ms → AllByRecursion (λ later. IsBefore name later.name) (map var_of ms)
names_later name [] h = tt
names_later name (m ∷ ms) h = (h.0, names_later name ms h.1)

pub vars_in_order : (ms : List (List ℕ × Data)) → IsRising ms → IsInNameOrder (map var_of ms)
vars_in_order [] h = tt
vars_in_order (m ∷ ms) h = (names_later m.0 ms h.0, vars_in_order ms h.1)

keys_later : (key : List ℕ) (ms : List (List ℕ × Data)) → AllByRecursion (λ later. IsBefore key later.0) ms → AllByRecursion (λ later. IsBefore key later.key) (map step_of ms)
keys_later key [] h = tt
keys_later key (m ∷ ms) h = (h.0, keys_later key ms h.1)

pub steps_in_order : (ms : List (List ℕ × Data)) → IsRising ms → IsInKeyOrder (map step_of ms)
steps_in_order [] h = tt
steps_in_order (m ∷ ms) h = (keys_later m.0 ms h.0, steps_in_order ms h.1)
