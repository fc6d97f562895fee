-- What a crash leaves, and what a session put, in the words of the laws.
use Rattle.std.proofs.Common.{◌≡◌, inl, inr, ℕ, zero, suc, ◌≤◌, ◌<◌, Bool, List, [], ◌∷◌, refl, sym, ◌∙◌, subst, ap, arith, All, if◌then◌else◌}
use Rattle.std.specs.Prelude.{drop, Contains, Option, Some, None, AllPairs}
use Rattle.std.proofs.lemmas.Bool.{cases_lt, lt-leb, le-leb}
use Rattle.cacao_site.specs.Sound.{IsInTime}
use Rattle.cacao_site.specs.View.{SiteView, LinkView}
use Rattle.cacao_site.specs.declared.parcel.Parcel.{Parcel}
use Rattle.flow_laws.specs.Images.{up_to, told_list, puts_to}
use Rattle.flow_laws.specs.Sessions.{IsCrashed, CrashesAreRestarts, SessionPutsArePast}

-- ---- a crash

same_puts : (old new : SiteView) → IsCrashed old new → puts_to new new.disk.beat ≡ puts_to old old.disk.beat
same_puts old new is =
    ap (λ (l : LinkView). up_to new.disk.beat (told_list l.puts)) is.link ∙ ap (λ (n : ℕ). up_to n (told_list old.link.puts)) is.beat

same_said : (old new : SiteView) → IsCrashed old new → up_to new.disk.beat (told_list new.link.said) ≡ up_to old.disk.beat (told_list old.link.said)
same_said old new is =
    ap (λ (l : LinkView). up_to new.disk.beat (told_list l.said)) is.link ∙ ap (λ (n : ℕ). up_to n (told_list old.link.said)) is.beat

pub crashes_are_restarts : CrashesAreRestarts
crashes_are_restarts old new is = record {
  images = λ file le image left. is.left file image le left;
  puts = λ at parcel has. (at, subst (λ (l : List (ℕ × Parcel)). Contains l (at, parcel)) (same_puts old new is) has);
  said = λ bytes said. record { at = said.at; has = subst (λ (l : List (ℕ × List ℕ)). Contains l (said.at, bytes)) (same_said old new is) said.has };
}

-- ---- what a session put

-- one entry no later than a beat, and one later than it
kept : {T : Type 0} (beat : ℕ) (e : ℕ × T) (entries : List (ℕ × T)) → e.0 ≤ beat → up_to beat (e ∷ entries) ≡ e ∷ up_to beat entries
kept {T} beat e entries le = ap (λ (b : Bool). if b then e ∷ up_to beat entries else up_to beat entries) (le-leb e.0 beat le)

left_out : {T : Type 0} (beat : ℕ) (e : ℕ × T) (entries : List (ℕ × T)) → beat < e.0 → up_to beat (e ∷ entries) ≡ up_to beat entries
left_out {T} beat e entries lt = ap (λ (b : Bool). if b then e ∷ up_to beat entries else up_to beat entries) (lt-leb e.0 beat lt)

-- where all are later, none is left, nor past the first ones
none_left : {T : Type 0} (beat : ℕ) (entries : List (ℕ × T)) → All (λ (e : ℕ × T). beat < e.0) entries → up_to beat entries ≡ []
none_left beat [] later = refl
none_left beat (e ∷ entries) later =
    left_out beat e entries (later 0 e (omega arith)) ∙ none_left beat entries (λ k d lt. later (suc k) d (omega (arith, lt)))

none_past : {T : Type 0} (beat n : ℕ) (entries : List (ℕ × T)) → All (λ (e : ℕ × T). beat < e.0) entries → up_to beat (drop n entries) ≡ []
none_past beat zero entries later = none_left beat entries later
none_past beat (suc n) [] later = refl
none_past beat (suc n) (e ∷ entries) later = none_past beat n entries (λ k d lt. later (suc k) d (omega (arith, lt)))

drop_none : {T : Type 0} (n : ℕ) → drop {A = T} n [] ≡ []
drop_none zero = refl
drop_none (suc n) = refl

-- the first ones can be left out before the later ones, or behind them
pub drop_up_to : {T : Type 0} (n beat : ℕ) (entries : List (ℕ × T)) → AllPairs (λ (e later : ℕ × T). e.0 ≤ later.0) entries
    → drop n (up_to beat entries) ≡ up_to beat (drop n entries)
drop_up_to zero beat entries order = refl
drop_up_to (suc n) beat [] order = refl
drop_up_to {T} (suc n) beat (e ∷ entries) order = elim (cases_lt beat e.0) [
  | inl later ↦
      let all : All (λ (x : ℕ × T). beat < x.0) entries = λ k d lt. omega (arith, later, order 0 (suc k) d (omega arith) (omega (arith, lt))) in
      ap (λ (l : List (ℕ × T)). drop (suc n) l) (left_out beat e entries later ∙ none_left beat entries all) ∙ sym (none_past beat n entries all)
  | inr soon ↦
      ap (λ (l : List (ℕ × T)). drop (suc n) l) (kept beat e entries soon)
      ∙ drop_up_to n beat entries (λ i j d before within. order (suc i) (suc j) d (omega (arith, before)) (omega (arith, within)))
]

in_list : (first beat last : ℕ) (puts : Option (List (ℕ × Parcel))) → IsInTime last puts
    → drop first (up_to beat (told_list puts)) ≡ up_to beat (drop first (told_list puts))
in_list first beat last None is = drop_none first ∙ sym (ap (λ (l : List (ℕ × Parcel)). up_to beat l) (drop_none first))
in_list first beat last (Some puts) is = drop_up_to first beat puts is.in_order

pub session_puts_are_past : SessionPutsArePast
session_puts_are_past first site beat is = in_list first beat site.disk.beat site.link.puts is
