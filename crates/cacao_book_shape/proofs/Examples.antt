-- The definitions on small trees, with answers written by hand.
use Rattle.std.proofs.Common.{◌≡◌, Bool, true, false, ℕ, List, [], ◌∷◌, cond, map, codes, refl, lit≤, pos, negsuc}
use Rattle.serde_json.specs.Data.{Data, unsigned, negative, number, string, object, Members, no_members, member}
use Rattle.cacao_book_shape.specs.Shape.{K6, links_agree}

-- a member that is there or not
maybe : List ℕ → Bool → Members → Members
maybe name there rest = cond there (member name (string []) rest) rest

-- a step of a type, with or without `on_completion`, `on_success` and `on_failure`
step : List ℕ → Bool × Bool × Bool → Data
step type links = object (maybe (codes "on_completion") links.0 (maybe (codes "on_failure") links.2 (maybe (codes "on_success") links.1 (member (codes "type") (string type) no_members))))

all_links : List (Bool × Bool × Bool)
all_links =
    (false, false, false) ∷ (false, false, true) ∷ (false, true, false) ∷ (false, true, true)
    ∷ (true, false, false) ∷ (true, false, true) ∷ (true, true, false) ∷ (true, true, true) ∷ []

-- which of the eight ways to have links a type may have
agreeing : List ℕ → List Bool
agreeing type = map (λ links. links_agree (step type links)) all_links

-- in any case, or by success, with failure or without
goes_on : List Bool
goes_on = false ∷ false ∷ true ∷ true ∷ true ∷ false ∷ false ∷ false ∷ []

-- the same, or not at all
may_go_on : List Bool
may_go_on = true ∷ true ∷ true ∷ true ∷ true ∷ false ∷ false ∷ false ∷ []

-- not at all
ends : List Bool
ends = true ∷ false ∷ false ∷ false ∷ false ∷ false ∷ false ∷ false ∷ []

links_by_type :
    map agreeing (codes "start" ∷ codes "action" ∷ codes "playbook-action" ∷ codes "end" ∷ codes "parallel" ∷ codes "if-condition" ∷ codes "while-condition" ∷ codes "switch-condition" ∷ codes "other" ∷ [])
    ≡ goes_on ∷ goes_on ∷ goes_on ∷ ends ∷ may_go_on ∷ may_go_on ∷ may_go_on ∷ may_go_on ∷ may_go_on ∷ []
unfolding agreeing step maybe all_links goes_on may_go_on ends
links_by_type = refl

wait_fits : K6 (object (member (codes "delay") (number (unsigned 10)) no_members))
wait_fits = ((10, refl, lit≤ tt), tt)

negative_wait : ¬ K6 (object (member (codes "delay") (number (negative (negsuc 0))) no_members))
negative_wait k = let e : negsuc 0 ≡ pos k.0.0 = k.0.1 in cc
