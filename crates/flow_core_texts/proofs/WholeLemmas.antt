-- A text that is one whole reference, by the grammar and as a function of the text.
use Rattle.std.proofs.Common.{◌≡◌, ◌≢◌, ℕ, ◌+◌, ◌==◌, ◌≤◌, ◌&&◌, Bool, true, false, List, [], ◌++◌, length, codes, Some, None, refl, sym, ap, ◌∙◌, append-nil, length-append, arith}
use Rattle.std.specs.Prelude.{if◌then◌else◌}
use Rattle.std.proofs.lemmas.List.{drop_all}
use Rattle.cacao_vars.specs.Names.{IsName}
use Rattle.cacao_vars.specs.References.{reference_text, name_run, behind_run, begins_with_reference}
use Rattle.flow_core_rules.specs.Filled.{whole_reference}
use Rattle.cacao_vars.proofs.FirstLemmas.{Begins, begins, begins_from, run-append}

conj : (a b : Bool) → a ≡ true → b ≡ true → (a && b) ≡ true
conj true b e f = f
conj false b e f = absurd (cc)

six_true : (n : ℕ) → n ≡ 6 → (n == 6) ≡ true
six_true n e = ap (λ n. n == 6) e

true_six : (n : ℕ) → (n == 6) ≡ true → n ≡ 6
true_six n e = grind arith

pub whole_some : (text name : List ℕ) → IsName name → text ≡ reference_text name → whole_reference text ≡ Some name
whole_some text name n e =
    let b : Begins text name [] = begins text name [] n (e ∙ sym (append-nil (reference_text name))) in
    let six : length (codes ":value") ≡ 6 = refl in
    let parts : length text ≡ length (name_run text) + length (behind_run text) = ap length (run-append text) ∙ length-append (name_run text) (behind_run text) in
    let whole : length text ≡ length name + length (codes ":value") = ap length e ∙ length-append name (codes ":value") in
    let same : length (name_run text) ≡ length name = ap length b.run in
    let size : length (behind_run text) ≡ 6 = omega arith in
    ap (λ c. if c then Some (name_run text) else None) (conj (begins_with_reference text) (length (behind_run text) == 6) b.test (six_true (length (behind_run text)) size))
    ∙ ap (λ n. Some n) b.run

pub whole_none : (text : List ℕ) → ((name : List ℕ) → IsName name → text ≢ reference_text name) → whole_reference text ≡ None
whole_none text none = by (begins_with_reference text) (length (behind_run text) == 6) refl refl
  where
    by : (b c : Bool) → begins_with_reference text ≡ b → (length (behind_run text) == 6) ≡ c → (if b && c then Some (name_run text) else None) ≡ None
    by true true e f =
        let p = begins_from text e in
        let b = begins text p.0 p.1 p.2 p.3 in
        let size : length (behind_run text) ≤ 6 = omega (arith, true_six (length (behind_run text)) f) in
        let empty : p.1 ≡ [] = sym b.back ∙ drop_all 6 (behind_run text) size in
        absurd (none p.0 p.2 (p.3 ∙ ap (λ r. reference_text p.0 ++ r) empty ∙ append-nil (reference_text p.0)))
    by true false e f = refl
    by false c e f = refl
