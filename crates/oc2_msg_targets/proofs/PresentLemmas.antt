-- Objects of the parts that are there: their members, and what keeps them in the profile.
use Rattle.std.proofs.Common.{◌≡◌, ◌≤◌, ℕ, suc, Bool, true, false, ◌&&◌, List, [], ◌∷◌, Option, Some, None, Ordering, Less, Equal, Greater, nat_cmp, refl, sym, ap, ◌∙◌, arith}
use Rattle.std.specs.Ordering.{match_ordering}
use Rattle.std.specs.Cmp.Lexicographic.{slice_cmp}
use Rattle.std.specs.List.{list_all, list_any}
use Rattle.std.specs.Str.{bytes_eq, IsUtf8}
use Rattle.serde_json.specs.Data.{Data, Members, no_members, member, depth, members_depth}
use Rattle.serde_json.specs.Find.{get_member}
use Rattle.cacao_json.specs.Profile.{IsBelow, IsFormed, AreFormedMembers}
use Rattle.oc2_msg_targets.specs.Parts.{names_of, are_among, is_object, is_absent_or, present, object_of, unless_empty}
use Rattle.oc2_msg_targets.specs.Ranges.{Each}

abbrev pub Part : Type 0
Part = List ℕ × Option Data

-- ---- members

-- the first, if it is there, else the second
abbrev pub or_else : Option Data → Option Data → Option Data
or_else first None = first
or_else None (Some d) = Some d
or_else (Some e) (Some d) = Some e

none_or : (o : Option Data) → or_else None o ≡ o
none_or None = refl
none_or (Some d) = refl

some_or : (d : Data) (o : Option Data) → or_else (Some d) o ≡ Some d
some_or d None = refl
some_or d (Some e) = refl

all_same : (o : Ordering) (x : Option Data) → match_ordering o x (or_else None x) x ≡ x
all_same Less x = refl
all_same Equal x = none_or x
all_same Greater x = refl

-- the part with this name
abbrev pub part_at : List ℕ → List Part → Option Data
part_at k [] = None
part_at k (p ∷ ps) = match_ordering (slice_cmp nat_cmp k p.0) (part_at k ps) (or_else p.1 (part_at k ps)) (part_at k ps)

found_here : (o : Ordering) (d : Data) (x : Option Data) → match_ordering o x (Some d) x ≡ match_ordering o x (or_else (Some d) x) x
found_here Less d x = refl
found_here Equal d x = sym (some_or d x)
found_here Greater d x = refl

pub get_member-present : (k : List ℕ) (ps : List Part) → get_member k (present ps) ≡ part_at k ps
get_member-present k [] = refl
get_member-present k ((l, None) ∷ ps) = get_member-present k ps ∙ sym (all_same (slice_cmp nat_cmp k l) (part_at k ps))
get_member-present k ((l, Some d) ∷ ps) =
    ap (λ o. match_ordering (slice_cmp nat_cmp k l) o (Some d) o) (get_member-present k ps)
    ∙ found_here (slice_cmp nat_cmp k l) d (part_at k ps)

-- ---- names

both : (a b : Bool) → a && b ≡ true → (a ≡ true) × (b ≡ true)
both true true e = (refl, refl)
both true false e = absurd (cc)
both false b e = absurd (cc)

and_true : (a b : Bool) → a ≡ true → b ≡ true → a && b ≡ true
and_true true b e f = f
and_true false b e f = absurd (cc)

abbrev pub part_names_among : List (List ℕ) → List Part → Bool
part_names_among allowed ps = list_all (λ p. list_any (λ word. bytes_eq p.0 word) allowed) ps

pub are_among-present : (allowed : List (List ℕ)) (ps : List Part) → part_names_among allowed ps ≡ true → are_among allowed (names_of (present ps)) ≡ true
are_among-present allowed [] e = refl
are_among-present allowed ((l, None) ∷ ps) e = are_among-present allowed ps (both _ _ e).1
are_among-present allowed ((l, Some d) ∷ ps) e = and_true _ _ (both _ _ e).0 (are_among-present allowed ps (both _ _ e).1)

-- ---- the profile

-- the name is less than each of the parts' names
abbrev pub AreAbove : List ℕ → List Part → Type 0
AreAbove k [] = Unit {0}
AreAbove k (p ∷ ps) = (slice_cmp nat_cmp k p.0 ≡ Less) × AreAbove k ps

-- The names rise; each name is UTF-8, and each part that is there is formed and has at most so many levels.
abbrev pub ArePartsOf : ℕ → List Part → Type 0
ArePartsOf n [] = Unit {0}
ArePartsOf n (p ∷ ps) = IsUtf8 p.0 × Each IsFormed p.1 × Each (λ d. depth d ≤ n) p.1 × AreAbove p.0 ps × ArePartsOf n ps

IsBelow-present : (k : List ℕ) (ps : List Part) → AreAbove k ps → IsBelow k (present ps)
IsBelow-present k [] h = tt
IsBelow-present k ((l, None) ∷ ps) h = IsBelow-present k ps h.1
IsBelow-present k ((l, Some d) ∷ ps) h = h.0

pub AreFormedMembers-present : (n : ℕ) (ps : List Part) → ArePartsOf n ps → AreFormedMembers (present ps)
AreFormedMembers-present n [] h = tt
AreFormedMembers-present n ((l, None) ∷ ps) h = AreFormedMembers-present n ps h.4
AreFormedMembers-present n ((l, Some d) ∷ ps) h = (h.0, h.1, IsBelow-present l ps h.3, AreFormedMembers-present n ps h.4)

pub members_depth-present : (n : ℕ) (ps : List Part) → ArePartsOf n ps → members_depth (present ps) ≤ n
members_depth-present n [] h = omega arith
members_depth-present n ((l, None) ∷ ps) h = members_depth-present n ps h.4
members_depth-present n ((l, Some d) ∷ ps) h = omega (arith, h.2, members_depth-present n ps h.4)

-- an object of parts
pub IsFormed-object_of : (n : ℕ) (ps : List Part) → ArePartsOf n ps → IsFormed (object_of ps)
IsFormed-object_of n ps h = AreFormedMembers-present n ps h

pub depth-object_of : (n : ℕ) (ps : List Part) → ArePartsOf n ps → depth (object_of ps) ≤ suc n
depth-object_of n ps h = omega (arith, members_depth-present n ps h)

-- an object that may be left out
pub Each-unless_empty : (n : ℕ) (ms : Members) → AreFormedMembers ms → members_depth ms ≤ n → Each IsFormed (unless_empty ms) × Each (λ d. depth d ≤ suc n) (unless_empty ms)
Each-unless_empty n no_members f h = (tt, tt)
Each-unless_empty n (member k d ms) f h = (f, omega arith)

pub is_object-unless_empty : (ms : Members) → is_absent_or is_object (unless_empty ms) ≡ true
is_object-unless_empty no_members = refl
is_object-unless_empty (member k d ms) = refl
