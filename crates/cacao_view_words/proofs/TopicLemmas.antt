-- The first of a name in one list before another.
use Rattle.std.proofs.Common.{◌≡◌, refl, Bool, true, false, List, [], ◌∷◌, ◌++◌, Some, None}
use Rattle.std.specs.Prelude.{if◌then◌else◌}
use Rattle.std.specs.Str.{bytes_eq}
use Rattle.cacao_view_words.specs.Texts.{Text}
use Rattle.cacao_view_words.specs.Topics.{Named, first_named}

found-from : {A : Type 0} (text : Text) (x : A) (xs ys : List (Named A)) (a : A) (b : Bool) → (Some a ≡ first_named text xs → Some a ≡ first_named text (xs ++ ys))
    → Some a ≡ (if b then Some x else first_named text xs) → Some a ≡ (if b then Some x else first_named text (xs ++ ys))
found-from text x xs ys a true rest e = e
found-from text x xs ys a false rest e = rest e

-- what is found in the first list is found
pub named-found : {A : Type 0} (text : Text) (xs ys : List (Named A)) (a : A) → Some a ≡ first_named text xs → Some a ≡ first_named text (xs ++ ys)
named-found text [] ys a e = absurd (cc)
named-found text (x ∷ xs) ys a e = found-from text x.item xs ys a (bytes_eq text x.name) (named-found text xs ys a) e

behind-from : {A : Type 0} (text : Text) (x : A) (xs ys : List (Named A)) (b : Bool) → (None ≡ first_named text xs → first_named text ys ≡ first_named text (xs ++ ys))
    → None ≡ (if b then Some x else first_named text xs) → first_named text ys ≡ (if b then Some x else first_named text (xs ++ ys))
behind-from text x xs ys true rest e = absurd (cc)
behind-from text x xs ys false rest e = rest e

-- where nothing is, what is found is in the other
pub named-behind : {A : Type 0} (text : Text) (xs ys : List (Named A)) → None ≡ first_named text xs → first_named text ys ≡ first_named text (xs ++ ys)
named-behind text [] ys e = refl
named-behind text (x ∷ xs) ys e = behind-from text x.item xs ys (bytes_eq text x.name) (named-behind text xs ys) e
