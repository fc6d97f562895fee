-- Lines that are written one after another.
use Rattle.std.proofs.Common.{◌≡◌, ℕ, zero, suc, ◌+◌, ◌≤◌, List, [], ◌∷◌, ◌++◌, length, drop, codes, Some, None, arith, refl, ap, sym, subst, ◌∙◌, append_assoc, append-nil}
use Rattle.std.specs.Prelude.{slice_get, decimal}
use Rattle.flow_core_rules.specs.declared.issues.Issue.{Issue}
use Rattle.flow_core_rules.specs.Lines.{line_from, issue_words, agent_word, issue_lines}

pub drop_at : {A : Type 0} (xs : List A) (n : ℕ) (x : A) → slice_get xs n ≡ Some x → drop n xs ≡ x ∷ drop (suc n) xs
drop_at [] n x e = absurd (none_some e)
  where
    none_some : None ≡ Some x → ⊥
    none_some g = cc
drop_at (y ∷ ys) zero x e = ap (λ z. z ∷ ys) (inner e)
  where
    inner : Some y ≡ Some x → y ≡ x
    inner g = cc
drop_at (y ∷ ys) (suc n) x e = drop_at ys n x e

drop_past : {A : Type 0} (xs : List A) (n : ℕ) → length xs ≤ n → drop n xs ≡ []
drop_past [] zero le = refl
drop_past [] (suc n) le = refl
drop_past (x ∷ xs) zero le = absurd (omega arith)
drop_past (x ∷ xs) (suc n) le = drop_past xs n (omega arith)

pub issue_more : (xs : List Issue) (n : ℕ) (x : Issue) (out next whole : List ℕ) → slice_get xs n ≡ Some x
    → next ≡ out ++ line_from (codes "issue") (decimal n ∷ agent_word x.agent ∷ issue_words x.phase) → out ++ issue_lines n (drop n xs) ≡ whole → next ++ issue_lines (n + 1) (drop (n + 1) xs) ≡ whole
issue_more xs n x out next whole is step h =
    let line : List ℕ = line_from (codes "issue") (decimal n ∷ agent_word x.agent ∷ issue_words x.phase) in
    let rest : List ℕ = issue_lines (suc n) (drop (suc n) xs) in
    let one : suc n ≡ n + 1 = omega arith in
    subst (λ m. next ++ issue_lines m (drop m xs) ≡ whole) one
    (ap (λ zs. zs ++ rest) step ∙ append_assoc out line rest ∙ ap (λ ys. out ++ issue_lines n ys) (sym (drop_at xs n x is)) ∙ h)

pub issues_end : (xs : List Issue) (n : ℕ) (out whole : List ℕ) → length xs ≤ n → out ++ issue_lines n (drop n xs) ≡ whole → out ≡ whole
issues_end xs n out whole e h = sym (append-nil out) ∙ ap (λ ys. out ++ issue_lines n ys) (sym (drop_past xs n e)) ∙ h
