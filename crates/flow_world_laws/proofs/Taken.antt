-- Lists of parcels, and parcels that were taken.
use Rattle.std.proofs.Common.{◌≡◌, ℕ, zero, suc, ◌+◌, ◌-◌, ◌<◌, ◌≤◌, Bool, true, false, List, [], ◌∷◌, ◌++◌, length, get_or, Option, Some, None, refl, sym, ap, subst, ◌∙◌, arith, All}
use Rattle.std.specs.Prelude.{Contains, IfSome, IsSome, drop, take, nat_eq, slice_get, if◌then◌else◌}
use Rattle.std.specs.List.{AllByRecursion}
use Rattle.std.proofs.lemmas.Bool.{eqb-true, false≢true}
use Rattle.std.proofs.lemmas.List.{append_cancel_left, length-append, take-append-drop, take-append-le}
use Rattle.std.proofs.lemmas.List.Elements.{All-contains, Contains-append_left}
use Rattle.cacao_site.specs.LinkCalls.{GainsAll}
use Rattle.cacao_site.specs.Sound.{WasPut as WasPutBy}
use Rattle.cacao_site.specs.declared.parcel.Parcel.{Parcel}
use Rattle.run_records.specs.declared.act.Act.{Act}
use Rattle.flow_laws.specs.Images.{told_list, up_to}
use Rattle.flow_laws.proofs.Basics.{same_some}
use Rattle.flow_laws.proofs.Calls.{all_past}
use Rattle.flow_world_steps.specs.Grown.{acts_of}
use Rattle.flow_world_laws.specs.Parcels.{but_the_last}

-- ---- lists

pub none_in : {T : Type 0} (x : T) → Contains [] x → ⊥
none_in x has = omega (arith, has.1)

pub in_take : {T : Type 0} (n : ℕ) (xs : List T) (x : T) → Contains (take n xs) x → Contains xs x
in_take {T} n xs x has = subst (λ (l : List T). Contains l x) (take-append-drop n xs) (Contains-append_left (take n xs) (drop n xs) x has)

-- what is not last stands before what is at most one
pub in_front : (xs ys : List (ℕ × Parcel)) (e : ℕ × Parcel) → length ys ≤ 1 → Contains (but_the_last (xs ++ ys)) e → Contains xs e
in_front xs ys e few has =
    let n = length (xs ++ ys) - 1 in
    let le : n ≤ length xs = omega (arith, few, length-append xs ys) in
    in_take n xs e (subst (λ (l : List (ℕ × Parcel)). Contains l e) (take-append-le n xs ys le) has)

-- an element, and what stands before and behind it
pub record Parts {T : Type 0} (xs : List T) (x : T) : Type 0 where
  pub front : List T
  pub back : List T
  pub are : xs ≡ front ++ x ∷ back

parts_at : {T : Type 0} (xs : List T) (k : ℕ) (x : T) → k < length xs → get_or xs k x ≡ x → Parts xs x
parts_at [] k x lt e = absurd (omega (arith, lt))
parts_at {T} (y ∷ xs) zero x lt e = record { front = []; back = xs; are = ap (λ (z : T). z ∷ xs) e }
parts_at {T} (y ∷ xs) (suc k) x lt e =
    let rest = parts_at xs k x (omega (arith, lt)) e in
    record { front = y ∷ rest.front; back = rest.back; are = ap (λ (l : List T). y ∷ l) rest.are }

pub parts : {T : Type 0} (xs : List T) (x : T) → Contains xs x → Parts xs x
parts xs x has = parts_at xs has.0 x has.1 has.2

at_in_all : {T : Type 0} (P : T → Type 0) (xs : List T) (k : ℕ) (x : T) → AllByRecursion P xs → k < length xs → get_or xs k x ≡ x → P x
at_in_all P [] k x all lt e = absurd (omega (arith, lt))
at_in_all P (y ∷ xs) zero x all lt e = subst P e all.0
at_in_all P (y ∷ xs) (suc k) x all lt e = at_in_all P xs k x all.1 (omega (arith, lt)) e

pub in_all : {T : Type 0} (P : T → Type 0) (xs : List T) (x : T) → AllByRecursion P xs → Contains xs x → P x
in_all P xs x all has = at_in_all P xs has.0 x all has.1 has.2

pub there_at : {T : Type 0} (xs : List T) (k : ℕ) → suc k ≤ length xs → (x : T) × (slice_get xs k ≡ Some x)
there_at [] k lt = absurd (omega (arith, lt))
there_at (x ∷ xs) zero lt = (x, refl)
there_at (x ∷ xs) (suc k) lt = there_at xs k (omega (arith, lt))

-- ---- what was taken

-- the list of those taken is what was gained
pub all_taken : (old new : Option (List (ℕ × Parcel))) (before taken gained : List (ℕ × Parcel)) → old ≡ Some before → new ≡ Some (before ++ taken) → GainsAll old gained new → taken ≡ gained
all_taken None new before taken gained was now gains = absurd (cc)
all_taken (Some a) None before taken gained was now gains = absurd (cc)
all_taken (Some a) (Some b) before taken gained was now gains =
    append_cancel_left before taken gained (sym (same_some now) ∙ gains ∙ ap (λ (l : List (ℕ × Parcel)). l ++ gained) (same_some was))

past_told : (beat : ℕ) (o : Option (List (ℕ × Parcel))) → IfSome o (λ l. All (λ (e : ℕ × Parcel). e.0 ≤ beat) l) → up_to beat (told_list o) ≡ told_list o
past_told beat None past = refl
past_told beat (Some l) past = all_past beat l past

put_of : (pending : Option (List Parcel)) (taken puts : Option (List (ℕ × Parcel))) (list : List (ℕ × Parcel)) (e : ℕ × Parcel) → IsSome pending → taken ≡ Some list → IsSome puts
    → IfSome pending (λ pending. IfSome taken (λ taken. IfSome puts (λ puts. All (λ entry. WasPutBy puts entry.0 entry.1) taken))) → Contains list e → (at : ℕ) × Contains (told_list puts) (at, e.1)
put_of None taken puts list e some is told sound has = absurd (false≢true some)
put_of (Some p) None puts list e some is told sound has = absurd (cc)
put_of (Some p) (Some t) None list e some is told sound has = absurd (false≢true told)
put_of (Some p) (Some t) (Some u) list e some is told sound has =
    let put : WasPutBy u e.0 e.1 = All-contains (λ (x : ℕ × Parcel). WasPutBy u x.0 x.1) t e sound (subst (λ (l : List (ℕ × Parcel)). Contains l e) (sym (same_some is)) has) in
    (put.0, put.2)

-- a parcel that was taken was put
pub was_put : (beat : ℕ) (pending : Option (List Parcel)) (taken puts : Option (List (ℕ × Parcel))) (list : List (ℕ × Parcel)) (e : ℕ × Parcel) → IsSome pending → taken ≡ Some list → IsSome puts
    → IfSome pending (λ pending. IfSome taken (λ taken. IfSome puts (λ puts. All (λ entry. WasPutBy puts entry.0 entry.1) taken)))
    → IfSome puts (λ l. All (λ (x : ℕ × Parcel). x.0 ≤ beat) l) → Contains list e → (at : ℕ) × Contains (up_to beat (told_list puts)) (at, e.1)
was_put beat pending taken puts list e some is told sound past has =
    let put = put_of pending taken puts list e some is told sound has in
    (put.0, subst (λ (l : List (ℕ × Parcel)). Contains l (put.0, e.1)) (sym (past_told beat puts past)) put.1)

-- ---- the acts of an agent

pub in_acts_of : (agent : ℕ) (acted : List (ℕ × Act)) (act : Act) → Contains (acts_of agent acted) act → Contains acted (agent, act)
in_acts_of agent [] act has = absurd (none_in act has)
in_acts_of agent (e ∷ acted) act has = by (nat_eq e.0 agent) refl (λ h. in_acts_of agent acted act h) has
  where
    pair : e.0 ≡ agent → e.1 ≡ act → ◌≡◌ {A = ℕ × Act} e (agent, act)
    pair p q = ap (λ (n : ℕ). (n, e.1)) p ∙ ap (λ (x : Act). (agent, x)) q

    first : (Contains (acts_of agent acted) act → Contains acted (agent, act)) → (k : ℕ) → e.0 ≡ agent → k < length (e.1 ∷ acts_of agent acted)
        → get_or (e.1 ∷ acts_of agent acted) k act ≡ act → Contains (e ∷ acted) (agent, act)
    first later zero same lt is = (0, omega arith, pair same is)
    first later (suc k) same lt is = let rest = later (k, omega (arith, lt), is) in (suc rest.0, omega (arith, rest.1), rest.2)

    by : (b : Bool) → nat_eq e.0 agent ≡ b → (Contains (acts_of agent acted) act → Contains acted (agent, act))
        → Contains (if b then e.1 ∷ acts_of agent acted else acts_of agent acted) act → Contains (e ∷ acted) (agent, act)
    by true is later has = first later has.0 (eqb-true e.0 agent is) has.1 has.2
    by false is later has = let rest = later has in (suc rest.0, omega (arith, rest.1), rest.2)
