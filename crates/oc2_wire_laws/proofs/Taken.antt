-- Parcels that were taken before a beat.
use Rattle.std.proofs.Common.{◌≡◌, ℕ, zero, suc, ◌≤◌, ◌<◌, Bool, true, false, cond, List, [], ◌∷◌, ◌++◌, length, map, refl, sym, subst, ap, arith}
use Rattle.std.specs.Prelude.{drop, filter, nat_lt, Contains, Option, Some, None, IsSome}
use Rattle.std.proofs.lemmas.Bool.{false≢true, lt-ltb, ltb-true}
use Rattle.std.proofs.lemmas.List.{drop-append-le}
use Rattle.std.proofs.lemmas.List.Elements.{Contains-append_left, Contains-push}
use Rattle.cacao_site.specs.LinkCalls.{Gains}
use Rattle.cacao_site.specs.declared.parcel.Parcel.{Parcel}
use Rattle.flow_laws.specs.Images.{told_list}

kept_or_not : (b : Bool) (e : ℕ × Parcel) (rest : List (ℕ × Parcel)) (p : Parcel) → Contains (map (λ (e : ℕ × Parcel). e.1) rest) p
    → Contains (map (λ (e : ℕ × Parcel). e.1) (cond b (e ∷ rest) rest)) p
kept_or_not true e rest p has = (suc has.0, omega (arith, has.1), has.2)
kept_or_not false e rest p has = has

-- an entry of an earlier beat is there
pub in_before : (entries : List (ℕ × Parcel)) (beat at : ℕ) (p : Parcel) → Contains entries (at, p) → at < beat
    → Contains (map (λ (e : ℕ × Parcel). e.1) (filter (λ e. nat_lt e.0 beat) entries)) p
in_before [] beat at p has lt = absurd (omega (arith, has.1))
in_before (e ∷ entries) beat at p (zero, l, is) lt =
    let rest = filter (λ (x : ℕ × Parcel). nat_lt x.0 beat) entries in
    let there : nat_lt e.0 beat ≡ true = lt-ltb e.0 beat (subst (λ (x : ℕ × Parcel). x.0 < beat) (sym is) lt) in
    subst (λ (b : Bool). Contains (map (λ (x : ℕ × Parcel). x.1) (cond b (e ∷ rest) rest)) p) (sym there) (0, omega arith, ap (λ (x : ℕ × Parcel). x.1) is)
in_before (e ∷ entries) beat at p (suc k, l, is) lt =
    kept_or_not (nat_lt e.0 beat) e (filter (λ (x : ℕ × Parcel). nat_lt x.0 beat) entries) p (in_before entries beat at p (k, omega (arith, l), is) lt)

-- where a parcel is there, so is its entry
record IsBefore (entries : List (ℕ × Parcel)) (beat : ℕ) (p : Parcel) : Type 0 where
  pub at : ℕ
  pub has : Contains entries (at, p)
  pub early : at < beat

behind : (e : ℕ × Parcel) (entries : List (ℕ × Parcel)) (beat : ℕ) (p : Parcel) → IsBefore entries beat p → IsBefore (e ∷ entries) beat p
behind e entries beat p is = record { at = is.at; has = (suc is.has.0, omega (arith, is.has.1), is.has.2); early = is.early }

one_before : (b : Bool) (e : ℕ × Parcel) (entries rest : List (ℕ × Parcel)) (beat : ℕ) (p : Parcel) → nat_lt e.0 beat ≡ b
    → (Contains (map (λ (x : ℕ × Parcel). x.1) rest) p → IsBefore entries beat p) → Contains (map (λ (x : ℕ × Parcel). x.1) (cond b (e ∷ rest) rest)) p
    → IsBefore (e ∷ entries) beat p
one_before false e entries rest beat p t later has = behind e entries beat p (later has)
one_before true e entries rest beat p t later (zero, l, is) = record { at = e.0; has = (0, omega arith, ap (λ (q : Parcel). (e.0, q)) is); early = ltb-true e.0 beat t }
one_before true e entries rest beat p t later (suc k, l, is) = behind e entries beat p (later (k, omega (arith, l), is))

before_is : (entries : List (ℕ × Parcel)) (beat : ℕ) (p : Parcel) → Contains (map (λ (e : ℕ × Parcel). e.1) (filter (λ e. nat_lt e.0 beat) entries)) p → IsBefore entries beat p
before_is [] beat p has = absurd (omega (arith, has.1))
before_is (e ∷ entries) beat p has =
    one_before (nat_lt e.0 beat) e entries (filter (λ (x : ℕ × Parcel). nat_lt x.0 beat) entries) beat p refl (λ later. before_is entries beat p later) has

-- more entries, and a later beat
pub more_before : (old new : List (ℕ × Parcel)) (b c : ℕ) → b ≤ c → ((e : ℕ × Parcel) → Contains old e → Contains new e) → (p : Parcel)
    → Contains (map (λ (e : ℕ × Parcel). e.1) (filter (λ e. nat_lt e.0 b) old)) p → Contains (map (λ (e : ℕ × Parcel). e.1) (filter (λ e. nat_lt e.0 c) new)) p
more_before old new b c le all p has =
    let is = before_is old b p has in
    in_before new c is.at p (all (is.at, p) is.has) (omega (arith, is.early, le))

-- ---- a take

pub gained_list : (old new : Option (List (ℕ × Parcel))) (x : ℕ × Parcel) → IsSome old → Gains old x new → told_list new ≡ told_list old ++ x ∷ []
gained_list (Some old) (Some new) x some gained = gained
gained_list (Some old) None x some gained = absurd gained
gained_list None new x some gained = absurd (false≢true some)

pub longer : (n : ℕ) (xs : List (ℕ × Parcel)) (x : ℕ × Parcel) → n ≤ length xs → n ≤ length (xs ++ x ∷ [])
longer zero xs x le = omega arith
longer (suc n) [] x le = absurd (omega (arith, le))
longer (suc n) (y ∷ xs) x le = let rest = longer n xs x (omega (arith, le)) in omega (arith, rest)

module _ (first : ℕ) (old new : List (ℕ × Parcel)) (x : ℕ × Parcel) (le : first ≤ length old) (is : new ≡ old ++ x ∷ []) where
  now : drop first new ≡ drop first old ++ x ∷ []
  now = subst (λ (l : List (ℕ × Parcel)). drop first l ≡ drop first old ++ x ∷ []) (sym is) (drop-append-le first old (x ∷ []) le)

  pub still_taken : (e : ℕ × Parcel) → Contains (drop first old) e → Contains (drop first new) e
  still_taken e has = subst (λ (l : List (ℕ × Parcel)). Contains l e) (sym now) (Contains-append_left (drop first old) (x ∷ []) e has)

  pub is_taken : Contains (drop first new) x
  is_taken = subst (λ (l : List (ℕ × Parcel)). Contains l x) (sym now) (Contains-push (drop first old) x)
