-- A condition rests on the values of its own names alone.
use Rattle.std.proofs.Common.{◌≡◌, ℕ, Bool, true, false, ◌||◌, ◌&&◌, cond, List, [], ◌∷◌, ◌++◌, Some, refl, sym, ◌∙◌, ap, map}
use Rattle.std.specs.Prelude.{find, option_map, unwrap_or}
use Rattle.std.specs.List.{AllByRecursion}
use Rattle.std.specs.Str.{bytes_eq}
use Rattle.std.proofs.lemmas.Bool.{false≢true}
use Rattle.std.proofs.lemmas.Slice.Eq.{bytes_eq-Decides}
use Rattle.cacao_cond.specs.Trees.{AnyTree, AllTree, PrimeTree}
use Rattle.cacao_cond.specs.Trees.AnyTree.{last_part, or_else}
use Rattle.cacao_cond.specs.Trees.AllTree.{last_prime, and_also}
use Rattle.cacao_cond.specs.Trees.PrimeTree.{group, compared, among}
use Rattle.cacao_cond.specs.Names.{named, named_all, named_prime}
use Rattle.cacao_cond.specs.Truth.{holds, holds_by, holds_all, holds_prime, worth_in, compares, is_among}
use Rattle.cacao_cond.specs.Worths.{Worth, unset}

all_front : (P : List ℕ → Type 0) (xs ys : List (List ℕ)) → AllByRecursion P (xs ++ ys) → AllByRecursion P xs
all_front P [] ys h = tt
all_front P (x ∷ xs) ys h = (h.0, all_front P xs ys h.1)

all_back : (P : List ℕ → Type 0) (xs ys : List (List ℕ)) → AllByRecursion P (xs ++ ys) → AllByRecursion P ys
all_back P [] ys h = h
all_back P (x ∷ xs) ys h = all_back P xs ys h.1

both_or : (a b c d : Bool) → a ≡ b → c ≡ d → (a || c) ≡ (b || d)
both_or a b c d e f = rw (e, f) refl

both_and : (a b c d : Bool) → a ≡ b → c ≡ d → (a && c) ≡ (b && d)
both_and a b c d e f = rw (e, f) refl

module _ (one other : List ℕ → Worth) where
  abbrev Same : List ℕ → Type 0
  Same name = one name ≡ other name

  mutual
    pub same_any : (t : AnyTree) → AllByRecursion Same (named t) → holds_by t one ≡ holds_by t other
    same_any (last_part part) h = same_all part h
    same_any (or_else part rest) h =
        both_or (holds_all part one) (holds_all part other) (holds_by rest one) (holds_by rest other)
        (same_all part (all_front Same (named_all part) (named rest) h)) (same_any rest (all_back Same (named_all part) (named rest) h))

    same_all : (t : AllTree) → AllByRecursion Same (named_all t) → holds_all t one ≡ holds_all t other
    same_all (last_prime prime) h = same_prime prime h
    same_all (and_also prime rest) h =
        both_and (holds_prime prime one) (holds_prime prime other) (holds_all rest one) (holds_all rest other)
        (same_prime prime (all_front Same (named_prime prime) (named_all rest) h)) (same_all rest (all_back Same (named_prime prime) (named_all rest) h))

    same_prime : (t : PrimeTree) → AllByRecursion Same (named_prime t) → holds_prime t one ≡ holds_prime t other
    same_prime (group any) h = same_any any h
    same_prime (compared name op constant) h = ap (λ (w : Worth). compares w op constant) h.0
    same_prime (among name constants) h = ap (λ (w : Worth). is_among w constants) h.0

-- ---- the value that is listed of a name

module _ (worth : List ℕ → Worth) where
  abbrev valued : List (List ℕ) → List (List ℕ × Worth)
  valued names = map (λ (name : List ℕ). (name, worth name)) names

  abbrev IsListed : List (List ℕ) → List ℕ → Type 0
  IsListed names name = worth name ≡ worth_in (valued names) name

  -- one more name before the others
  one_more : (n : List ℕ) (names : List (List ℕ)) (name : List ℕ) (b : Bool) → bytes_eq n name ≡ b → IsListed names name
      → worth name ≡ unwrap_or (option_map (λ (p : List ℕ × Worth). p.1) (cond b (Some (n, worth n)) (find (λ (p : List ℕ × Worth). bytes_eq p.0 name) (valued names)))) unset
  one_more n names name true e h = sym (ap worth ((bytes_eq-Decides n name).0 e))
  one_more n names name false e h = h

  first_listed : (n : List ℕ) (names : List (List ℕ)) (b : Bool) → bytes_eq n n ≡ b
      → worth n ≡ unwrap_or (option_map (λ (p : List ℕ × Worth). p.1) (cond b (Some (n, worth n)) (find (λ (p : List ℕ × Worth). bytes_eq p.0 n) (valued names)))) unset
  first_listed n names true e = refl
  first_listed n names false e = absurd (false≢true (sym e ∙ (bytes_eq-Decides n n).1 refl))

  more_listed : (n : List ℕ) (names xs : List (List ℕ)) → AllByRecursion (IsListed names) xs → AllByRecursion (IsListed (n ∷ names)) xs
  more_listed n names [] h = tt
  more_listed n names (x ∷ xs) h = (one_more n names x (bytes_eq n x) refl h.0, more_listed n names xs h.1)

  each_listed : (names : List (List ℕ)) → AllByRecursion (IsListed names) names
  each_listed [] = tt
  each_listed (n ∷ names) = (first_listed n names (bytes_eq n n) refl, more_listed n names names (each_listed names))

  -- a condition holds by the values of names where it holds by the list of the values of its own
  pub holds_listed : (t : AnyTree) → holds_by t worth ≡ holds t (map (λ (name : List ℕ). (name, worth name)) (named t))
  holds_listed t = same_any worth (worth_in (valued (named t))) t (each_listed (named t))
