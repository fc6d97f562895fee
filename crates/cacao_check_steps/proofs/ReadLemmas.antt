-- Texts that are read, and those that cannot be.
use Rattle.std.proofs.Common.{◌≡◌, ℕ, List, Option, Some, IfSome, IsSomeAnd, sym, subst}

pub spelled_in : {T : Type 0} (S : T → List ℕ → Type 0) (o : Option (List ℕ)) (text bytes : List ℕ) (t : T) → Some text ≡ o → bytes ≡ text → S t bytes → IsSomeAnd o (S t)
spelled_in S o text bytes t at same h = let M : Option (List ℕ) → Type 0 = λ v. IsSomeAnd v (S t) in subst M at (subst (S t) same h)

pub unspelled_in : {T : Type 0} (S : T → List ℕ → Type 0) (o : Option (List ℕ)) (text bytes : List ℕ) → Some text ≡ o → bytes ≡ text → ((t : T) → S t bytes → ⊥) → IfSome o (λ text. (t : T) → S t text → ⊥)
unspelled_in {T} S o text bytes at same h = let M : Option (List ℕ) → Type 0 = λ v. IfSome v (λ text. (t : T) → S t text → ⊥) in subst M at (λ t s. h t (subst (S t) (sym same) s))
