-- Steps of the reader that gave something, taken apart.
use Rattle.std.proofs.Common.{◌≡◌, ◌⊎◌, ℕ, ◌<◌, ◌==◌, ◌&&◌, Bool, true, false, List, [], ◌∷◌, ◌++◌, length, take, drop, take-append-drop, cond, Option, Some, None, arith, refl, sym, ◌∙◌, ap, inl, inr}
use Rattle.std.specs.Prelude.{nat_eq}
use Rattle.std.specs.List.{starts_with}
use Rattle.std.specs.Option.{option_map_or}
use Rattle.std.proofs.lemmas.Bool.{true≢false}
use Rattle.std.proofs.lemmas.Slice.Eq.{bytes_eq-Decides}
use Rattle.cacao_cond.specs.Grammar.{IsSpaces, IsGap}
use Rattle.cacao_cond.specs.Reading.{◌>>=◌, skipped, begins, behind, behind_joint}

pub bind_some : {A B : Type 0} (o : Option A) (f : A → Option B) (y : B) → (o >>= f) ≡ Some y → (x : A) × (o ≡ Some x) × (f x ≡ Some y)
bind_some None f y e = absurd (cc e)
bind_some (Some x) f y e = (x, refl, e)

pub or_cases : {A B : Type 0} (f : A → Option B) (o : Option A) (d : Option B) (y : B) → option_map_or f o d ≡ Some y
    → ((x : A) × (o ≡ Some x) × (f x ≡ Some y)) ⊎ ((o ≡ None) × (d ≡ Some y))
or_cases f None d y e = inr (refl, e)
or_cases f (Some x) d y e = inl (x, refl, e)

pub if_cases : {A : Type 0} (b : Bool) (x y z : A) → cond b x y ≡ z → ((b ≡ true) × (x ≡ z)) ⊎ ((b ≡ false) × (y ≡ z))
if_cases true x y z e = inl (refl, e)
if_cases false x y z e = inr (refl, e)

pub if_some : {A : Type 0} (b : Bool) (o : Option A) (y : A) → cond b o None ≡ Some y → (b ≡ true) × (o ≡ Some y)
if_some true o y e = (refl, e)
if_some false o y e = absurd (cc e)

pub both : (a b : Bool) → (a && b) ≡ true → (a ≡ true) × (b ≡ true)
both true b e = (refl, e)
both false b e = absurd (true≢false (sym e))

-- the spaces before a text
abbrev pub spaces : List ℕ → List ℕ
spaces [] = []
spaces (c ∷ cs) = cond (c == 32) (c ∷ spaces cs) []

pub split_spaces : (text : List ℕ) → text ≡ spaces text ++ skipped text
split_spaces [] = refl
split_spaces (c ∷ cs) = elim (c == 32) as (λ b. c ∷ cs ≡ cond b (c ∷ spaces cs) [] ++ cond b (skipped cs) (c ∷ cs)) [
  | true ↦ ap (λ t. c ∷ t) (split_spaces cs)
  | false ↦ refl
]

spaces_at : (c : ℕ) (cs : List ℕ) (b : Bool) → (c == 32) ≡ b → IsSpaces cs → IsSpaces (cond b (c ∷ cs) [])
spaces_at c cs true e all = rw (e, all) refl
spaces_at c cs false e all = refl

pub are_spaces : (text : List ℕ) → IsSpaces (spaces text)
are_spaces [] = refl
are_spaces (c ∷ cs) = spaces_at c (spaces cs) (c == 32) refl (are_spaces cs)

-- the number of spaces is not 0 where the text begins with one
pub some_space : (text : List ℕ) → begins 32 text ≡ true → 0 < length (spaces text)
some_space [] e = absurd (true≢false (sym e))
some_space (c ∷ cs) e = rw e (omega arith)

pub is_gap : (text : List ℕ) → begins 32 text ≡ true → IsGap (spaces text)
is_gap text e = (some_space text e, are_spaces text)

pub begins_with : (b : ℕ) (text : List ℕ) → begins b text ≡ true → text ≡ b ∷ drop 1 text
begins_with b [] e = absurd (true≢false (sym e))
begins_with b (c ∷ cs) e = grind arith

pub is_behind : (word text rest : List ℕ) → behind word text ≡ Some rest → text ≡ word ++ rest
is_behind word text rest e =
    let found = if_some (starts_with nat_eq text word) (Some (drop (length word) text)) rest e in
    let front : word ≡ take (length word) text = (bytes_eq-Decides word (take (length word) text)).0 found.0 in
    let back : drop (length word) text ≡ rest = cc found.1 in
    sym (take-append-drop (length word) text) ∙ ap (λ t. t ++ drop (length word) text) (sym front) ∙ ap (λ t. word ++ t) back

-- a connective has spaces on both sides
pub record Joint (word text rest : List ℕ) : Type 0 where
  pub before : List ℕ
  pub after : List ℕ
  pub gap_before : IsGap before
  pub gap_after : IsGap after
  pub joined : text ≡ before ++ (word ++ (after ++ rest))

pub is_joint : (word text rest : List ℕ) → behind_joint word text ≡ Some rest → Joint word text rest
is_joint word text rest e =
    let first = if_some (begins 32 text) (behind word (skipped text) >>= λ r. cond (begins 32 r) (Some (skipped r)) None) rest e in
    let second = bind_some (behind word (skipped text)) (λ r. cond (begins 32 r) (Some (skipped r)) None) rest first.1 in
    let third = if_some (begins 32 second.0) (Some (skipped second.0)) rest second.2 in
    let left : skipped second.0 ≡ rest = cc third.1 in record {
      before = spaces text;
      after = spaces second.0;
      gap_before = is_gap text first.0;
      gap_after = is_gap second.0 third.0;
      joined = split_spaces text ∙ ap (λ t. spaces text ++ t) (is_behind word (skipped text) second.0 second.1
          ∙ ap (λ t. word ++ t) (split_spaces second.0 ∙ ap (λ t. spaces second.0 ++ t) left));
    }

-- two pairs that were found are the same in both parts
pub some_pair : {A B : Type 0} {a c : A} {b d : B} → ◌≡◌ {A = Option (A × B)} (Some (a, b)) (Some (c, d)) → (a ≡ c) × (b ≡ d)
some_pair {A} {B} {a} {c} {b} {d} e = let whole : ◌≡◌ {A = A × B} (a, b) (c, d) = cc e in (ap (λ p. p.0) whole, ap (λ p. p.1) whole)
