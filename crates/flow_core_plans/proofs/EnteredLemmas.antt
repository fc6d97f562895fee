-- What control steps do.
use Rattle.std.proofs.Common.{◌≡◌, ℕ, suc, List, [], ◌∷◌, ◌++◌, length, None, refl, ◌∙◌, ap, subst}
use Rattle.std.specs.List.{flat_map}
use Rattle.cacao_book.specs.declared.books.Book.{Book}
use Rattle.flow_core_values.specs.TableTypes.{Planned}
use Rattle.flow_core_rules.specs.declared.phases.Phase.TheVariants as phase
use Rattle.flow_core_rules.specs.Edits.{Edit, opens, moves, makes}
use Rattle.flow_core_rules.specs.Tasks.{Here, in_phase, child}
use Rattle.flow_core_rules.specs.Changes.{opening, inside, branched, called, binding, valued, joining}
use Rattle.flow_core_plans.specs.Adding.{Adds, IsPlan}
use Rattle.flow_core_plans.specs.Entered.{within, taking, acting}
use Rattle.flow_core_plans.proofs.AddingLemmas.{adds_then}

pub whole_plan : (plan : List Planned) (es : List Edit) → Adds [] plan es → IsPlan plan es
whole_plan plan es a = record { edits_are = a.edits_are; declared = a.declared tt }

-- the branches rest on no scope that is not open
branched_inside : (h : Here) (scope : ℕ) (keys : List (List ℕ)) → branched (within h) scope keys ≡ branched (inside h) scope keys
branched_inside h scope [] = refl
branched_inside h scope (key ∷ keys) = refl

pub plan_taking : (a b c : List Planned) (h in' : Here) (scope : ℕ) (keys : List (List ℕ)) → a ≡ [] → in' ≡ within h → scope ≡ length h.seen.lists.scopes
    → Adds a b (opening h ∷ []) → Adds b c (branched in' scope keys) → IsPlan c (taking h keys)
plan_taking a b c h in' scope keys e i s one two =
    let branches : branched in' scope keys ≡ branched (inside h) (length h.seen.lists.scopes) keys =
    ap (λ (x : Here). branched x scope keys) i ∙ branched_inside h scope keys ∙ ap (λ (n : ℕ). branched (inside h) n keys) s in
    let two' : Adds b c (branched (inside h) (length h.seen.lists.scopes) keys) = subst (λ (x : List Edit). Adds b c x) branches two in
    whole_plan c (taking h keys) (subst (λ (x : List Planned). Adds x c (taking h keys)) e (adds_then a b c (opening h ∷ []) (branched (inside h) (length h.seen.lists.scopes) keys) one two'))

pub plan_of : (a b : List Planned) (es : List Edit) → a ≡ [] → Adds a b es → IsPlan b es
plan_of a b es e one = whole_plan b es (subst (λ (x : List Planned). Adds x b es) e one)

pub plan_acting : (a b c : List Planned) (h : Here) (edit : Edit) → a ≡ [] → edit ≡ moves h.number (in_phase (inside h).task (phase.Sending 0))
    → Adds a b (opening h ∷ []) → Adds b c (edit ∷ []) → IsPlan c (acting h)
plan_acting a b c h edit e i one two =
    plan_of a c (acting h) e (subst (λ (x : Edit). Adds a c (opening h ∷ x ∷ [])) i (adds_then a b c (opening h ∷ []) (edit ∷ []) one two))

pub plan_called : (a b c d f : List Planned) (h in' : Here) (edit : Edit) (theirs : ℕ × Book) (inner : ℕ) (names : List (List ℕ)) → a ≡ [] → in' ≡ within h
    → edit ≡ opens None (theirs.1).variables → inner ≡ suc (length h.seen.lists.scopes)
    → Adds a b (opening h ∷ []) → Adds b c (edit ∷ [])
    → Adds c d (flat_map (binding inner) (valued (inside h).seen.lists (length h.seen.lists.scopes) names))
    → Adds d f (moves in'.number (joining in') ∷ makes (child in' theirs.0 inner (theirs.1).start) ∷ [])
    → IsPlan f (opening h ∷ called (inside h) (length h.seen.lists.scopes) names theirs)
plan_called a b c d f h in' edit theirs inner names e i o s one two three four =
    let scope : ℕ = length h.seen.lists.scopes in
    let binds : ℕ → List Edit = λ n. flat_map (binding n) (valued (inside h).seen.lists scope names) in
    let root : Here → ℕ → List Edit = λ x n. moves x.number (joining x) ∷ makes (child x theirs.0 n (theirs.1).start) ∷ [] in
    let two' : Adds b c (opens None (theirs.1).variables ∷ []) = subst (λ (x : Edit). Adds b c (x ∷ [])) o two in
    let three' : Adds c d (binds (suc scope)) = subst (λ (n : ℕ). Adds c d (binds n)) s three in
    let four' : Adds d f (root (within h) (suc scope)) = subst (λ (n : ℕ). Adds d f (root (within h) n)) s (subst (λ (x : Here). Adds d f (root x inner)) i four) in
    plan_of a f (opening h ∷ called (inside h) scope names theirs) e
    (adds_then a b f (opening h ∷ []) (called (inside h) scope names theirs) one
    (adds_then b c f (opens None (theirs.1).variables ∷ []) (binds (suc scope) ++ root (within h) (suc scope)) two'
    (adds_then c d f (binds (suc scope)) (root (within h) (suc scope)) three' four')))
