-- A status comes exactly where its cause holds, and causes exclude one another.
use Rattle.std.proofs.Common.{◌≡◌, ◌⊎◌, inl, inr, subst, ℕ, List, ◌∷◌, Option, Some, None}
use Rattle.std.specs.Prelude.{IsSomeAnd}
use Rattle.cacao_cli_ends.specs.Comes.{ComesExactly, IsOneOf}
use Rattle.cacao_view_words.specs.Texts.{Text}

-- what came tells its cause and is told by it, or a fault came that is another status
pub comes : (n : ℕ) (faults : List ℕ) (Has : Type 0) (cause : Type 0) (answer : ℕ) → (Has → answer ≡ n → cause) → (Has → cause → answer ≡ n) → (IsOneOf n faults → ⊥) → Has ⊎ IsOneOf answer faults → ComesExactly n faults cause answer
comes n faults Has cause answer to from apart h = record { only = only h; always = always h }
  where
    only : Has ⊎ IsOneOf answer faults → answer ≡ n → cause
    only (inl has) e = to has e
    only (inr f) e = absurd (apart (subst (λ (m : ℕ). IsOneOf m faults) e f))

    always : Has ⊎ IsOneOf answer faults → cause → IsOneOf answer (n ∷ faults)
    always (inl has) c = inl (from has c)
    always (inr f) c = inr f

-- a file is of one kind alone
pub some-both : (o : Option Text) (P Q : Text → Type 0) → ((bytes : Text) → P bytes → Q bytes → ⊥) → IsSomeAnd o P → IsSomeAnd o Q → ⊥
some-both None P Q h p q = p
some-both (Some bytes) P Q h p q = h bytes p q

pub some-none : (o : Option Text) (P : Text → Type 0) → o ≡ None → IsSomeAnd o P → ⊥
some-none None P e p = p
some-none (Some bytes) P e p = cc
