-- Edits that are added to a plan.
use Rattle.std.proofs.Common.{◌≡◌, ℕ, ◌+◌, List, [], ◌∷◌, ◌++◌, map, Option, refl, sym, ◌∙◌, ap, subst, append_assoc}
use Rattle.std.specs.List.{flat_map}
use Rattle.std.proofs.lemmas.List.{append-nil}
use Rattle.flow_core_values.specs.TableTypes.{Planned}
use Rattle.flow_core_rules.specs.Edits.{Edit}
use Rattle.flow_core_values.specs.Planned.{edit_of, edits_of, IsDeclared, AreDeclared}
use Rattle.flow_core_plans.specs.Adding.{Adds}

edits_of-append : (plan more : List Planned) → edits_of (plan ++ more) ≡ edits_of plan ++ edits_of more
edits_of-append [] more = refl
edits_of-append (p ∷ plan) more = ap (λ (es : List Edit). edit_of p ∷ es) (edits_of-append plan more)

declared-append : (plan more : List Planned) → AreDeclared plan → AreDeclared more → AreDeclared (plan ++ more)
declared-append [] more a b = b
declared-append (p ∷ plan) more a b = (a.0, declared-append plan more a.1 b)

pub adds_one : (plan new : List Planned) (p : Planned) → new ≡ plan ++ p ∷ [] → IsDeclared p → Adds plan new (edit_of p ∷ [])
adds_one plan new p e h = record {
  edits_are = ap edits_of e ∙ edits_of-append plan (p ∷ []);
  declared = λ d. subst AreDeclared (sym e) (declared-append plan (p ∷ []) d (h, tt));
}

pub adds_none : (plan new : List Planned) → new ≡ plan → Adds plan new []
adds_none plan new e = record { edits_are = ap edits_of e ∙ sym (append-nil (edits_of plan)); declared = λ d. subst AreDeclared (sym e) d }

pub adds_then : (a b c : List Planned) (es fs : List Edit) → Adds a b es → Adds b c fs → Adds a c (es ++ fs)
adds_then a b c es fs one two = record {
  edits_are = two.edits_are ∙ ap (λ (x : List Edit). x ++ fs) one.edits_are ∙ append_assoc (edits_of a) es fs;
  declared = λ d. two.declared (one.declared d);
}

-- ---- edits for each of several names or keys

gathered : (f : List ℕ × Option (List ℕ) → List Edit) (g : List ℕ → List ℕ × Option (List ℕ)) (names : List (List ℕ)) (name : List ℕ)
    → flat_map f (map g (names ++ name ∷ [])) ≡ flat_map f (map g names) ++ f (g name)
gathered f g [] name = append-nil (f (g name))
gathered f g (n ∷ names) name =
    ap (λ (es : List Edit). f (g n) ++ es) (gathered f g names name) ∙ sym (append_assoc (f (g n)) (flat_map f (map g names)) (f (g name)))
