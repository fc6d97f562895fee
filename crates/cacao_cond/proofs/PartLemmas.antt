-- A condition's parts as lists.
use Rattle.std.proofs.Common.{◌≡◌, ◌≢◌, ℕ, Bool, true, false, ◌&&◌, ◌||◌, List, [], ◌∷◌, ◌++◌, refl, ap}
use Rattle.std.specs.List.{flat_map, list_all, list_any}
use Rattle.cacao_cond.specs.declared.trees.Constant.{Constant}
use Rattle.cacao_cond.specs.Trees.{ConstantTree, AnyTree, AllTree, PrimeTree}
use Rattle.cacao_cond.specs.Trees.ConstantTree.{last_constant, more_constants}
use Rattle.cacao_cond.specs.Trees.AnyTree.{last_part, or_else}
use Rattle.cacao_cond.specs.Trees.AllTree.{last_prime, and_also}
use Rattle.cacao_cond.specs.Worths.{Worth}
use Rattle.cacao_cond.specs.Truth.{equals, holds_by, holds_all, holds_prime, is_among}
use Rattle.cacao_cond.specs.Names.{named, named_all, named_prime}
use Rattle.cacao_cond.specs.Parts.{parts_of, primes_of, constants_in, AreLists, SaysByParts}

or_none : (b : Bool) → b ≡ (b || false)
or_none true = refl
or_none false = refl

and_none : (b : Bool) → b ≡ (b && true)
and_none true = refl
and_none false = refl

append_none : (xs : List (List ℕ)) → xs ≡ (xs ++ [])
append_none [] = refl
append_none (x ∷ xs) = ap (λ ys. x ∷ ys) (append_none xs)

-- ---- parts with `OR` between them

some_parts : (cond : AnyTree) → parts_of cond ≢ []
some_parts (last_part part) e = absurd (cc)
some_parts (or_else part rest) e = absurd (cc)

made_parts : (part : AllTree) (others : List AllTree) → (cond : AnyTree) × (parts_of cond ≡ part ∷ others)
made_parts part [] = (last_part part, refl)
made_parts part (next ∷ others) = let rest = made_parts next others in (or_else part rest.0, ap (λ ps. part ∷ ps) rest.1)

one_parts : (cond other : AnyTree) → parts_of cond ≡ parts_of other → cond ≡ other
one_parts (last_part a) (last_part b) e = let h : a ≡ b = cc e in ap last_part h
one_parts (last_part a) (or_else b rest) e = let h : parts_of rest ≡ [] = cc e in absurd (some_parts rest h)
one_parts (or_else a rest) (last_part b) e = let h : parts_of rest ≡ [] = cc e in absurd (some_parts rest h)
one_parts (or_else a rest) (or_else b more) e =
    let h : a ≡ b = cc e in
    let k : parts_of rest ≡ parts_of more = cc e in
    let same : rest ≡ more = one_parts rest more k in
    cc (h, same)

pub parts_are_lists : AreLists parts_of
parts_are_lists = record { some = some_parts; made = made_parts; one = one_parts }

-- ---- parts with `AND` between them

some_primes : (part : AllTree) → primes_of part ≢ []
some_primes (last_prime prime) e = absurd (cc)
some_primes (and_also prime rest) e = absurd (cc)

made_primes : (prime : PrimeTree) (others : List PrimeTree) → (part : AllTree) × (primes_of part ≡ prime ∷ others)
made_primes prime [] = (last_prime prime, refl)
made_primes prime (next ∷ others) = let rest = made_primes next others in (and_also prime rest.0, ap (λ ps. prime ∷ ps) rest.1)

one_primes : (part other : AllTree) → primes_of part ≡ primes_of other → part ≡ other
one_primes (last_prime a) (last_prime b) e = let h : a ≡ b = cc e in ap last_prime h
one_primes (last_prime a) (and_also b rest) e = let h : primes_of rest ≡ [] = cc e in absurd (some_primes rest h)
one_primes (and_also a rest) (last_prime b) e = let h : primes_of rest ≡ [] = cc e in absurd (some_primes rest h)
one_primes (and_also a rest) (and_also b more) e =
    let h : a ≡ b = cc e in
    let k : primes_of rest ≡ primes_of more = cc e in
    let same : rest ≡ more = one_primes rest more k in
    cc (h, same)

pub primes_are_lists : AreLists primes_of
primes_are_lists = record { some = some_primes; made = made_primes; one = one_primes }

-- ---- constants

some_constants : (constants : ConstantTree) → constants_in constants ≢ []
some_constants (last_constant constant) e = absurd (cc)
some_constants (more_constants constant rest) e = absurd (cc)

made_constants : (constant : Constant) (others : List Constant) → (constants : ConstantTree) × (constants_in constants ≡ constant ∷ others)
made_constants constant [] = (last_constant constant, refl)
made_constants constant (next ∷ others) = let rest = made_constants next others in (more_constants constant rest.0, ap (λ cs. constant ∷ cs) rest.1)

one_constants : (constants other : ConstantTree) → constants_in constants ≡ constants_in other → constants ≡ other
one_constants (last_constant a) (last_constant b) e = let h : a ≡ b = cc e in ap last_constant h
one_constants (last_constant a) (more_constants b rest) e = let h : constants_in rest ≡ [] = cc e in absurd (some_constants rest h)
one_constants (more_constants a rest) (last_constant b) e = let h : constants_in rest ≡ [] = cc e in absurd (some_constants rest h)
one_constants (more_constants a rest) (more_constants b more) e =
    let h : a ≡ b = cc e in
    let k : constants_in rest ≡ constants_in more = cc e in
    let same : rest ≡ more = one_constants rest more k in
    cc (h, same)

pub constants_are_lists : AreLists constants_in
constants_are_lists = record { some = some_constants; made = made_constants; one = one_constants }

-- ---- what they say

holds_by_parts : (cond : AnyTree) (worth : List ℕ → Worth) → holds_by cond worth ≡ list_any (λ part. holds_all part worth) (parts_of cond)
holds_by_parts (last_part part) worth = or_none (holds_all part worth)
holds_by_parts (or_else part rest) worth = ap (λ b. holds_all part worth || b) (holds_by_parts rest worth)

holds_by_primes : (part : AllTree) (worth : List ℕ → Worth) → holds_all part worth ≡ list_all (λ prime. holds_prime prime worth) (primes_of part)
holds_by_primes (last_prime prime) worth = and_none (holds_prime prime worth)
holds_by_primes (and_also prime rest) worth = ap (λ b. holds_prime prime worth && b) (holds_by_primes rest worth)

among_by_constants : (constants : ConstantTree) (value : Worth) → is_among value constants ≡ list_any (equals value) (constants_in constants)
among_by_constants (last_constant constant) value = or_none (equals value constant)
among_by_constants (more_constants constant rest) value = ap (λ b. equals value constant || b) (among_by_constants rest value)

named_by_parts : (cond : AnyTree) → named cond ≡ flat_map named_all (parts_of cond)
named_by_parts (last_part part) = append_none (named_all part)
named_by_parts (or_else part rest) = ap (λ ns. named_all part ++ ns) (named_by_parts rest)

named_by_primes : (part : AllTree) → named_all part ≡ flat_map named_prime (primes_of part)
named_by_primes (last_prime prime) = append_none (named_prime prime)
named_by_primes (and_also prime rest) = ap (λ ns. named_prime prime ++ ns) (named_by_primes rest)

pub says_by_parts : SaysByParts
says_by_parts = record {
  any = holds_by_parts;
  all = holds_by_primes;
  among = among_by_constants;
  names = named_by_parts;
  part_names = named_by_primes;
}
