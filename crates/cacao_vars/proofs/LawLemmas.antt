-- What one more write changes, and how the references of a text go on.
use Rattle.std.proofs.Common.{◌≡◌, ℕ, zero, suc, ◌+◌, ◌<◌, ◌≤◌, ◌==◌, ◌&&◌, Bool, true, false, List, [], ◌∷◌, ◌++◌, length, length-append, drop, cond, Option, Some, None, arith, refl, sym, ◌∙◌, ap, subst}
use Rattle.std.specs.Prelude.{find, option_and_then, option_map, IfSome}
use Rattle.std.specs.Option.{option_map_or}
use Rattle.std.specs.Str.{bytes_eq}
use Rattle.std.proofs.lemmas.List.{length-drop, reverse-append}
use Rattle.std.proofs.lemmas.Cmp.{nat_eq_equiv, nat_list_eq_equiv}
use Rattle.std.proofs.lemmas.Slice.Eq.{bytes_eq-Decides}
use Rattle.cacao_vars.specs.declared.scoping.Scope.{Scope}
use Rattle.cacao_vars.specs.declared.scoping.Write.{Write}
use Rattle.cacao_vars.specs.Scopes.{home, declaration, last_write, written_or_declared, value}
use Rattle.cacao_vars.specs.References.{Found, behind, name_run, behind_run, begins_with_reference, first_reference, references_within, references, references_from, ReferencesGoOn}
use Rattle.cacao_vars.proofs.ReferenceLemmas.{both}
use Rattle.cacao_vars.proofs.FirstLemmas.{run-append}

same_number : (a b : ℕ) → (a == b) ≡ true → a ≡ b
same_number a b e = grind arith

bool_false : (b : Bool) → (b ≡ true → ⊥) → b ≡ false
bool_false true h = absurd (h refl)
bool_false false h = refl

-- the last write of one more
last_write-push : (writes : List Write) (write : Write) (scope : ℕ) (name : List ℕ)
    → last_write (writes ++ write ∷ []) scope name ≡ cond ((write.scope == scope) && bytes_eq write.name name) (Some write) (last_write writes scope name)
last_write-push writes write scope name = ap (find (λ (w : Write). (w.scope == scope) && bytes_eq w.name name)) (reverse-append writes (write ∷ []))

pub value_at : (scopes : List Scope) (writes : List Write) (scope at : ℕ) (name : List ℕ) → home scopes scope name ≡ Some at
    → value scopes writes scope name ≡ written_or_declared (last_write writes at name) (declaration scopes at name)
value_at scopes writes scope at name e =
    ap (option_and_then (λ h. written_or_declared (last_write writes h name) (declaration scopes h name))) e

same_tests : (a : ℕ) (name : List ℕ) → ((a == a) && bytes_eq name name) ≡ true
same_tests a name = rw (nat_eq_equiv.refl a, nat_list_eq_equiv.refl name) refl

pub set_there : (scopes : List Scope) (writes : List Write) (at : ℕ) (name worth : List ℕ) (scope : ℕ) (other : List ℕ)
    → home scopes scope other ≡ Some at → other ≡ name
    → value scopes (writes ++ (record { scope = at; name = name; worth = worth }) ∷ []) scope other ≡ Some worth
set_there scopes writes at name worth scope other e same =
    let write : Write = record { scope = at; name = name; worth = worth } in
    let pushed : last_write (writes ++ write ∷ []) at name ≡ Some write = last_write-push writes write at name ∙ rw (same_tests at name) refl in
    subst (λ n. home scopes scope n ≡ Some at → value scopes (writes ++ write ∷ []) scope n ≡ Some worth) (sym same)
    (λ h. value_at scopes (writes ++ write ∷ []) scope at name h ∙ ap (λ w. written_or_declared w (declaration scopes at name)) pushed) e

pub not_there : (scopes : List Scope) (writes : List Write) (at : ℕ) (name worth : List ℕ) (scope : ℕ) (other : List ℕ)
    → (home scopes scope other ≡ Some at → other ≡ name → ⊥)
    → value scopes (writes ++ (record { scope = at; name = name; worth = worth }) ∷ []) scope other ≡ value scopes writes scope other
not_there scopes writes at name worth scope other apart = cases (home scopes scope other) apart
  where
    write : Write
    write = record { scope = at; name = name; worth = worth }

    cases : (h : Option ℕ) → (h ≡ Some at → other ≡ name → ⊥)
        → option_and_then (λ (k : ℕ). written_or_declared (last_write (writes ++ write ∷ []) k other) (declaration scopes k other)) h
        ≡ option_and_then (λ (k : ℕ). written_or_declared (last_write writes k other) (declaration scopes k other)) h
    cases None f = refl
    cases (Some k) f =
        let no : ((at == k) && bytes_eq name other) ≡ false = bool_false ((at == k) && bytes_eq name other) (λ e.
        let parts = both (at == k) (bytes_eq name other) e in
        f (ap Some (sym (same_number at k parts.0))) (sym ((bytes_eq-Decides name other).0 parts.1))) in
        ap (λ w. written_or_declared w (declaration scopes k other)) (last_write-push writes write k other ∙ rw no refl)

-- what stands behind the first reference is shorter than the text
shorter-at : (c : ℕ) (cs : List ℕ) (b : Bool) (later : Option Found) → IfSome later (λ found. length found.rest < length cs)
    → IfSome (cond b (Some (record { before = []; name = name_run (c ∷ cs); rest = drop 6 (behind_run (c ∷ cs)) })) (option_map (behind c) later)) (λ found. length found.rest < suc (length cs))
shorter-at c cs true later h =
    let whole : suc (length cs) ≡ length (name_run (c ∷ cs)) + length (behind_run (c ∷ cs)) = ap length (run-append (c ∷ cs)) ∙ length-append (name_run (c ∷ cs)) (behind_run (c ∷ cs)) in
    omega (arith, whole, length-drop 6 (behind_run (c ∷ cs)))
shorter-at c cs false None h = tt
shorter-at c cs false (Some found) h = omega arith

shorter : (text : List ℕ) → IfSome (first_reference text) (λ found. length found.rest < length text)
shorter [] = tt
shorter (c ∷ cs) = shorter-at c cs (begins_with_reference (c ∷ cs)) (first_reference cs) (shorter cs)

-- more steps than the text is long change nothing
enough-at : (n m : ℕ) (text : List ℕ) (first : Option Found) → ((found : Found) → first ≡ Some found → references_within n found.rest ≡ references_within m found.rest)
    → ◌≡◌ {A = List Found × List ℕ} (option_map_or (λ (found : Found). (found ∷ (references_within n found.rest).0, (references_within n found.rest).1)) first ([], text))
    (option_map_or (λ (found : Found). (found ∷ (references_within m found.rest).0, (references_within m found.rest).1)) first ([], text))
enough-at n m text None same = refl
enough-at n m text (Some found) same = ap (λ (r : List Found × List ℕ). (found ∷ r.0, r.1)) (same found refl)

enough : (n m : ℕ) (text : List ℕ) → length text ≤ n → length text ≤ m → references_within n text ≡ references_within m text
enough zero zero text a b = refl
enough zero (suc m) [] a b = refl
enough zero (suc m) (c ∷ cs) a b = absurd (omega arith)
enough (suc n) zero [] a b = refl
enough (suc n) zero (c ∷ cs) a b = absurd (omega arith)
enough (suc n) (suc m) text a b = enough-at n m text (first_reference text) (λ found e.
    let less : length found.rest < length text = subst (λ o. IfSome o (λ (f : Found). length f.rest < length text)) e (shorter text) in
    enough n m found.rest (omega arith) (omega arith))

go-on-at : (n : ℕ) (text : List ℕ) (first : Option Found) → ((found : Found) → first ≡ Some found → references_within n found.rest ≡ references found.rest)
    → ◌≡◌ {A = List Found × List ℕ} (option_map_or (λ (found : Found). (found ∷ (references_within n found.rest).0, (references_within n found.rest).1)) first ([], text)) (references_from first text)
go-on-at n text None same = refl
go-on-at n text (Some found) same = ap (λ (r : List Found × List ℕ). (found ∷ r.0, r.1)) (same found refl)

pub go_on : ReferencesGoOn
go_on [] = refl
go_on (c ∷ cs) = go-on-at (length cs) (c ∷ cs) (first_reference (c ∷ cs)) (λ found e.
    let less : length found.rest < suc (length cs) = subst (λ o. IfSome o (λ (f : Found). length f.rest < suc (length cs))) e (shorter (c ∷ cs)) in
    enough (length cs) (length found.rest) found.rest (omega arith) (omega arith))
