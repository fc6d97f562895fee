-- The last of all, taken off where it is bound.
use Rattle.std.proofs.Common.{◌≡◌, ◌∙◌, refl, ap, arith, ◌+◌, Bool, true, false, List, [], ◌∷◌, ◌++◌, length, map, Option, Some, None, length-append}
use Rattle.std.proofs.lemmas.List.{map-append}
use Rattle.std.specs.Prelude.{IsSome, option_map, option_to_list, unwrap_or, if◌then◌else◌}
use Rattle.cacao_view_preflight.specs.Preflights.{SplitsOff}

pub splits_off : {A : Type 0} (bound : Bool) (none : A) (all front : List A) (o : Option A) → all ≡ front ++ option_to_list o → (bound ≡ false → o ≡ None) → (bound ≡ true → IsSome o)
    → SplitsOff bound none all front (unwrap_or o none)
splits_off true none all front (Some x) e absent there = record { all_are = e; is_none = λ h. absurd (let wrong : false ≡ true = h in cc) }
splits_off true none all front None e absent there = absurd (let wrong : false ≡ true = there refl in cc)
splits_off false none all front None e absent there = record { all_are = e; is_none = λ h. refl }
splits_off false none all front (Some x) e absent there = absurd (let wrong : Some x ≡ None = absent refl in cc)

listed-map : {A B : Type 0} (f : A → B) (o : Option A) → map f (option_to_list o) ≡ option_to_list (option_map f o)
listed-map f None = refl
listed-map f (Some x) = refl

-- the same of what each stands for
pub mapped : {A B : Type 0} (f : A → B) (all front : List A) (o : Option A) → all ≡ front ++ option_to_list o → map f all ≡ map f front ++ option_to_list (option_map f o)
mapped f all front o e = ap (map f) e ∙ map-append f front (option_to_list o) ∙ ap (λ l. map f front ++ l) (listed-map f o)

pub none_mapped : {A B : Type 0} (f : A → B) (bound : Bool) (o : Option A) → (bound ≡ false → o ≡ None) → bound ≡ false → option_map f o ≡ None
none_mapped f bound o absent is = ap (option_map f) (absent is)

some-mapped : {A B : Type 0} (f : A → B) (o : Option A) → IsSome o → IsSome (option_map f o)
some-mapped f (Some x) h = refl
some-mapped f None h = absurd (let wrong : false ≡ true = h in cc)

pub some_mapped : {A B : Type 0} (f : A → B) (bound : Bool) (o : Option A) → (bound ≡ true → IsSome o) → bound ≡ true → IsSome (option_map f o)
some_mapped f bound o there is = some-mapped f o (there is)

-- what the first part counts
pub front_length : {A : Type 0} (bound : Bool) (all front : List A) (o : Option A) → all ≡ front ++ option_to_list o → (bound ≡ false → o ≡ None) → (bound ≡ true → IsSome o)
    → length all ≡ (if bound then 1 else 0) + length front
front_length true all front (Some x) e absent there = ap length e ∙ length-append front (x ∷ []) ∙ omega arith
front_length true all front None e absent there = absurd (let wrong : false ≡ true = there refl in cc)
front_length false all front None e absent there = ap length e ∙ length-append front [] ∙ omega arith
front_length false all front (Some x) e absent there = absurd (let wrong : Some x ≡ None = absent refl in cc)
