-- What is in hand, as a session goes on.
use Rattle.std.proofs.Common.{◌≡◌, ℕ, ◌≤◌, Bool, true, false, List, [], length, sym, subst, ap, arith}
use Rattle.std.specs.Prelude.{nat_lt, if◌then◌else◌}
use Rattle.cacao_site.specs.declared.parcel.Parcel.{Parcel}
use Rattle.run_records.specs.Ranges.{last_moment}
use Rattle.flow_engine.specs.LimitKind.TheVariants as limit
use Rattle.flow_world_steps.specs.Handled.{IsAtHand}
use Rattle.flow_world_steps.specs.Steps.{after_reach}
use Rattle.flow_world_steps.specs.Worlds.{Phase, Cause, opened, rests, looked, owes, holds, waits, refused, past}

pub hand_as : (p q : Phase) → p ≡ q → (parcels : List (ℕ × Parcel)) → IsAtHand p parcels → IsAtHand q parcels
hand_as p q e parcels is = subst (λ (x : Phase). IsAtHand x parcels) e is

pub few_at_hand : (p : Phase) (parcels : List (ℕ × Parcel)) → IsAtHand p parcels → length parcels ≤ 1
few_at_hand opened parcels is = omega (arith, ap (λ (l : List (ℕ × Parcel)). length l) is)
few_at_hand rests parcels is = omega (arith, ap (λ (l : List (ℕ × Parcel)). length l) is)
few_at_hand looked parcels is = omega (arith, ap (λ (l : List (ℕ × Parcel)). length l) is)
few_at_hand owes parcels is = omega (arith, ap (λ (l : List (ℕ × Parcel)). length l) is)
few_at_hand (holds beat parcel) parcels is = omega (arith, ap (λ (l : List (ℕ × Parcel)). length l) is)
few_at_hand (waits due) parcels is = omega (arith, ap (λ (l : List (ℕ × Parcel)). length l) is)
few_at_hand (refused cause lacks) parcels is = is

-- from an empty hand to an empty hand, and to a refusal
abbrev pub HandGoes : Phase → Phase → Type 0
HandGoes p q = (parcels : List (ℕ × Parcel)) → IsAtHand p parcels → IsAtHand q parcels

pub empty_to : (p q : Phase) → ((parcels : List (ℕ × Parcel)) → IsAtHand p parcels → parcels ≡ []) → ((parcels : List (ℕ × Parcel)) → parcels ≡ [] → IsAtHand q parcels) → HandGoes p q
empty_to p q from to parcels is = to parcels (from parcels is)

pub refused_to : (p q : Phase) (cause : Cause) (lacks : Bool) → q ≡ refused cause lacks → HandGoes p q
refused_to p q cause lacks now parcels is = subst (λ (x : Phase). IsAtHand x parcels) (sym now) (few_at_hand p parcels is)

abbrev pub IsEmptyAt : Phase → Type 0
IsEmptyAt p = (parcels : List (ℕ × Parcel)) → IsAtHand p parcels → parcels ≡ []

abbrev pub TakesEmpty : Phase → Type 0
TakesEmpty q = (parcels : List (ℕ × Parcel)) → parcels ≡ [] → IsAtHand q parcels

pub at_opened : (p : Phase) → p ≡ opened → IsEmptyAt p
at_opened p e parcels is = hand_as p opened e parcels is

pub at_rests : (p : Phase) → p ≡ rests → IsEmptyAt p
at_rests p e parcels is = hand_as p rests e parcels is

pub at_looked : (p : Phase) → p ≡ looked → IsEmptyAt p
at_looked p e parcels is = hand_as p looked e parcels is

pub at_owes : (p : Phase) → p ≡ owes → IsEmptyAt p
at_owes p e parcels is = hand_as p owes e parcels is

pub to_rests : (q : Phase) → q ≡ rests → TakesEmpty q
to_rests q e parcels is = hand_as rests q (sym e) parcels is

pub to_looked : (q : Phase) → q ≡ looked → TakesEmpty q
to_looked q e parcels is = hand_as looked q (sym e) parcels is

pub to_owes : (q : Phase) → q ≡ owes → TakesEmpty q
to_owes q e parcels is = hand_as owes q (sym e) parcels is

pub to_reached : (q : Phase) (moment answer : ℕ) → q ≡ after_reach moment answer → TakesEmpty q
to_reached q moment answer e parcels is = subst (λ (x : Phase). IsAtHand x parcels) (sym e) (by (nat_lt last_moment answer) (nat_lt answer moment))
  where
    by : (a b : Bool) → IsAtHand (if a then refused (past limit.Moment) false else if b then waits moment else rests) parcels
    by true b = omega (arith, ap (λ (l : List (ℕ × Parcel)). length l) is)
    by false true = is
    by false false = is
