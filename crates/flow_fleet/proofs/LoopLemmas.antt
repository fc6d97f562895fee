-- The turns of a fleet up to its end, and the runs that begin before them.
use Rattle.std.proofs.Common.{◌≡◌, ◌≢◌, ◌⊎◌, inl, inr, ℕ, ◌+◌, ◌<◌, ◌≤◌, Bool, true, false, not, List, [], ◌∷◌, length, refl, sym, ◌∙◌, subst, ap, arith}
use Rattle.std.specs.Prelude.{Option, Some, None, MatchOption, Result, Ok, Err, IsSome, is_some, slice_get, get_or}
use Rattle.std.proofs.lemmas.Option.{slice_get_read}
use Rattle.cacao_site.specs.View.{SiteView}
use Rattle.run_records.specs.declared.record.Record.{Record}
use Rattle.flow_core.specs.SetupLaws.{AcceptedIsRunnable}
use Rattle.flow_core_rules.specs.Changes.{is_in_time, outcome}
use Rattle.flow_core_rules.specs.Moves.{asks, due, enabled_move}
use Rattle.flow_core_rules.proofs.NotStuck.{not_stuck}
use Rattle.flow_engine.specs.EngineView.{EngineView}
use Rattle.flow_laws.proofs.Basics.{same_some}
use Rattle.flow_world_steps.specs.Turns.{most_ignored}
use Rattle.flow_world_steps.specs.Worlds.{Phase, rests}
use Rattle.flow_world_steps.proofs.DueLater.{sane_engine}
use Rattle.flow_world_steps.proofs.Issues.{below}
use Rattle.flow_world_steps.proofs.Timely.{in_time_bounds}
use Rattle.flow_fleet_steps.specs.Turns.{HasNoMove, IsSettled}
use Rattle.flow_fleet_steps.specs.Worlds.{EachBelow, EachRun}
use Rattle.flow_fleet_steps.specs.declared.close.FleetClose.{FleetClose}
use Rattle.flow_fleet_steps.specs.declared.error.FleetError.{FleetError}
use Rattle.flow_fleet.specs.Leads.{Goes, HasBegun, IsBetweenTurns, IsWorking, SomeGoes, Turned}
use Rattle.flow_fleet.specs.Searches.{GoesOnHere}
use Rattle.flow_fleet.specs.declared.fleet_state.Fleet.{Fleet}

pub match_some : {T : Type 0} (o : Option T) (x : T) (A : Type 0) (B : T → Type 0) → o ≡ Some x → MatchOption o A B → B x
match_some o x A B e is = subst (λ p. MatchOption p A B) e is

pub match_none : {T : Type 0} (o : Option T) (A : Type 0) (B : T → Type 0) → o ≡ None → MatchOption o A B → A
match_none o A B e is = subst (λ p. MatchOption p A B) e is

-- it went on
pub went_on : (result : Result (Option FleetClose) FleetError) (so sn : SiteView) (s t : Fleet) (p : Phase) → result ≡ Ok None → Turned result so s p sn t → Goes so s p sn t rests
went_on result so sn s t p is turned = subst (λ (r : Result (Option FleetClose) FleetError). Turned r so s p sn t) is turned

pub some_goes : (engines : List EngineView) (place : ℕ) → GoesOnHere engines place → SomeGoes engines
some_goes engines place is = record { place = place; v = is.v; there = is.there; on = is.on }

-- ---- where no run has a move

-- Where a run goes on, something is due, or an operator was asked.
pub never_stuck : AcceptedIsRunnable → (so : SiteView) (s : Fleet) → IsBetweenTurns s so → SomeGoes s.engines.items → EachRun s.engines.items (λ place. HasNoMove s.now)
    → EachRun s.engines.items (λ place v. due v.history.seen ≡ None) → EachRun s.engines.items (λ place v. asks v.history.seen ≡ None) → ⊥
never_stuck runnable so s between goes idle no_due no_asks =
    let v = goes.v in
    let up = (between.settled goes.place v goes.there).up in
    let timely = subst (λ (n : ℕ). is_in_time v.history.seen n ≡ true) (sym between.works.now) (between.works.in_time goes.place v goes.there) in
    let bounds = in_time_bounds v.history.seen s.now timely in
    let sane = sane_engine runnable v.history up.has_file.engine.history up.begun in
    one (due v.history.seen) (asks v.history.seen) (no_due goes.place v goes.there) (no_asks goes.place v goes.there)
    (not_stuck v.history.seen sane s.now bounds.0 bounds.1 goes.on (idle goes.place v goes.there))
  where
    one : (a b : Option ℕ) → a ≡ None → b ≡ None → IsSome a ⊎ IsSome b → ⊥
    one None None e f (inl h) = let g : false ≡ true = h in cc
    one None None e f (inr h) = let g : false ≡ true = h in cc
    one (Some x) b e f h = let g : Some x ≡ None = e in cc
    one None (Some y) e f h = let g : Some y ≡ None = f in cc

-- ---- Begins by place

-- the runs at lower places have begun, and their commands were put; those from this place on are as they were
pub record HaveBegun (place : ℕ) (s t : Fleet) (so sn : SiteView) : Type 0 where
  pub goes : Goes so s rests sn t rests
  pub works : IsWorking t sn
  pub settled : EachBelow place t.engines.items (IsSettled sn)
  pub puts : (k : ℕ) (v : EngineView) → place ≤ k → slice_get t.engines.items k ≡ Some v → v.puts ≡ []
  pub many : length t.engines.items ≡ length s.engines.items
  pub calm : t.ignored ≡ 0

pub begun_more : (place : ℕ) (s t u : Fleet) (so mid sn : SiteView) → HaveBegun place s t so mid → Goes so s rests sn u rests → HasBegun place t u sn → HaveBegun (place + 1) s u so sn
begun_more place s t u so mid sn was goes is = record {
  goes = goes;
  works = is.works;
  settled = is.settled;
  puts = λ k v le there. was.puts k v (omega (arith, le)) (is.above k v (omega (arith, le)) there);
  many = is.many ∙ was.many;
  calm = is.ignored ∙ was.calm;
}

pub begun_all : (place : ℕ) (s t : Fleet) (so sn : SiteView) → HaveBegun place s t so sn → length t.engines.items ≤ place → IsBetweenTurns t sn
begun_all place s t so sn is most = record {
  works = is.works;
  settled = λ k v there. is.settled k v (let lt = below t.engines.items k v there in omega (arith, lt, most)) there;
  calm = let calm = is.calm in omega (arith, calm);
}

pub begun_here : (place : ℕ) (s t : Fleet) (so sn : SiteView) → HaveBegun place s t so sn → (v : EngineView) → slice_get t.engines.items place ≡ Some v → v.puts ≡ []
begun_here place s t so sn is v there = is.puts place v (omega arith) there

-- ---- the journal at a place

pub read_at : (engines : List EngineView) (place : ℕ) (v : EngineView) → place < length engines → v ≡ get_or engines place v → slice_get engines place ≡ Some v
read_at engines place v lt is = slice_get_read engines (length engines) place v refl lt is

-- its records were counted
pub has_begun_at : (engines : List EngineView) (place count : ℕ) (v : EngineView) → slice_get engines place ≡ Some v → count ≡ length v.history.records → count ≢ 0
    → (x : EngineView) → slice_get engines place ≡ Some x → x.history.records ≢ []
has_begun_at engines place count v there is some x at none =
    let same : v ≡ x = same_some (sym there ∙ at) in
    some (is ∙ ap (λ (y : EngineView). length y.history.records) same ∙ ap (λ (l : List Record). length l) none)

pub is_empty_at : (engines : List EngineView) (place count : ℕ) (v : EngineView) → slice_get engines place ≡ Some v → count ≡ length v.history.records → count ≡ 0
    → (x : EngineView) → slice_get engines place ≡ Some x → x.history.records ≡ []
is_empty_at engines place count v there is none x at =
    let same : v ≡ x = same_some (sym there ∙ at) in
    no_length x.history.records (sym (ap (λ (y : EngineView). length y.history.records) same) ∙ sym is ∙ none)
  where
    no_length : (l : List Record) → length l ≡ 0 → l ≡ []
    no_length [] e = refl
    no_length (r ∷ l) e = absurd (omega (arith, e))

-- ---- whether a run goes on

pub none_goes : (o : Option ℕ) (none : Bool) (A : Type 0) (B : ℕ → Type 0) → is_some o ≡ not none → none ≡ true → MatchOption o A B → A
none_goes None b A B e t is = is
none_goes (Some x) b A B e t is = absurd (let f : true ≡ false = e ∙ ap not t in cc)

pub one_goes : (engines : List EngineView) (o : Option ℕ) (none : Bool) (A : Type 0) → is_some o ≡ not none → none ≡ false → MatchOption o A (λ place. GoesOnHere engines place) → SomeGoes engines
one_goes engines None b A e t is = absurd (let f : false ≡ true = e ∙ ap not t in cc)
one_goes engines (Some place) b A e t is = some_goes engines place is
