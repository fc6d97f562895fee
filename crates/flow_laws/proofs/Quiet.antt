-- Sites for examples: where nothing was said and no command was put, and which law then fails.
use Rattle.std.proofs.Common.{◌≡◌, inl, inr, ℕ, ◌≤◌, true, false, List, [], ◌∷◌, subst, arith}
use Rattle.std.specs.Prelude.{Contains, Some}
use Rattle.std.proofs.lemmas.List.Elements.{Contains-push_cases}
use Rattle.cacao_site.specs.View.{SiteView}
use Rattle.cacao_site.specs.declared.parcel.Parcel.{Parcel}
use Rattle.run_records.specs.declared.record.Record.{Record}
use Rattle.flow_laws.specs.Journals.{run_of}
use Rattle.flow_laws.specs.Images.{up_to, puts_to, WasSaid, IsRecords}
use Rattle.flow_laws.specs.Good.{IsGood}
use Rattle.flow_laws.specs.Held.{IsHeldAs, plain}
use Rattle.flow_laws.proofs.Basics.{in_drop, not_begun}
use Rattle.flow_laws.proofs.OneList.{none_of_empty}
use Rattle.flow_laws.proofs.Calls.{entry_now}
use Rattle.flow_laws.proofs.Needed.{is_short, is_empty}

-- what is good and held at the earlier beat, and not at the later one
pub record Breaks (earlier : SiteView) (early : ℕ) (later : SiteView) (late first : ℕ) : Type 0 where
  pub good : IsGood earlier early
  pub held : IsHeldAs plain earlier first early
  pub ends : IsGood later late → IsHeldAs plain later first late → ⊥

-- where no line was said and no command put, all is held
pub held_quiet : (site : SiteView) (first beat : ℕ) → ((bytes : List ℕ) → WasSaid site beat bytes → ⊥)
    → ((at : ℕ) (parcel : Parcel) → Contains (puts_to site beat) (at, parcel) → parcel.back ≡ false → ⊥) → IsHeldAs plain site first beat
held_quiet site first beat unsaid none = record {
  lines = λ image records left stands bytes said line. absurd (unsaid bytes said);
  sent = λ image records left stands at parcel has command of. absurd (none at parcel has command);
  none_while_empty = λ image left empty at parcel own. none at parcel (in_drop first (puts_to site beat) (at, parcel) own.has) own.command;
  was_open = λ at parcel own. absurd (none at parcel (in_drop first (puts_to site beat) (at, parcel) own.has) own.command);
}

-- the one entry
pub only_entry : {T : Type 0} (beat at : ℕ) (x : T) (e : ℕ × T) → at ≤ beat → Contains (up_to beat ((at, x) ∷ [])) e → ◌≡◌ {A = ℕ × T} (at, x) e
only_entry {T} beat at x e le has = elim (Contains-push_cases [] (at, x) e (subst (λ (l : List (ℕ × T)). Contains l e) (entry_now {T = T} beat at [] x le) has)) [
  | inl none ↦ absurd (omega (arith, none.1))
  | inr is ↦ is
]

-- nothing is in the empty list
pub none_in : {T : Type 0} (e : T) → Contains [] e → ⊥
none_in e has = absurd (omega (arith, has.1))

-- a short image of the journal is of no run
pub of_no_run : (image : List ℕ) (records : List Record) (run : ℕ) → is_short image ≡ true → IsRecords image records → run_of records ≡ Some run → ⊥
of_no_run image records run short are of =
    not_begun run (subst (λ (l : List Record). run_of l ≡ Some run) (none_of_empty image records (is_empty image short) are) of)
