-- The records that a fleet appends.
use Rattle.std.proofs.Common.{◌≡◌, ◌≢◌, inl, inr, ℕ, zero, suc, ◌<◌, ◌≤◌, Bool, true, false, List, [], ◌∷◌, ◌++◌, length, refl, sym, ◌∙◌, subst, ap, arith, All}
use Rattle.std.specs.Prelude.{Some, slice_get, slice_set, ◌==◌, if◌then◌else◌}
use Rattle.std.proofs.lemmas.Bool.{eq-eqb}
use Rattle.std.proofs.lemmas.List.{append_assoc, append-nil, length-append}
use Rattle.std.proofs.lemmas.List.Elements.{All-append, All-nil}
use Rattle.run_records.specs.declared.record.Record.{Record}
use Rattle.flow_engine.specs.EngineView.{EngineView}
use Rattle.flow_laws.proofs.Basics.{same_some}
use Rattle.flow_world_steps.specs.Sums.{Adds, IsBetween, SameGiven, total}
use Rattle.flow_world_steps.specs.Steps.Steps.{nothing as no_step, and_then as then_step}
use Rattle.flow_world_steps.proofs.Adding.{steps_add, steps_same_given}
use Rattle.flow_world_steps.proofs.Costs.{sum_set}
use Rattle.flow_world_steps.proofs.Filters.{get_set}
use Rattle.flow_world_steps.proofs.Issues.{below}
use Rattle.flow_fleet_steps.specs.Steps.{FleetStep, FleetSteps}
use Rattle.flow_fleet_steps.specs.Steps.FleetSteps.{nothing, and_then}
use Rattle.flow_fleet_steps.specs.Worlds.{FleetWorld, Own, part}
use Rattle.flow_fleet_sums.specs.Sums.{AddsAt, FleetAdds, of_place, records_of}
use Rattle.flow_fleet_sums.proofs.StepKinds.{Kind, NoRun, OneRun, kind_of}
use Rattle.flow_fleet_sums.proofs.StepKinds.Kind.{filter, puts, quiet, tries}

-- ---- lists with places

abbrev pub tag : ℕ → List Record → List (ℕ × Record)
tag place [] = []
tag place (r ∷ records) = (place, r) ∷ tag place records

of_cons_same : (place : ℕ) (e : ℕ × Record) (added : List (ℕ × Record)) → e.0 ≡ place → of_place place (e ∷ added) ≡ e.1 ∷ of_place place added
of_cons_same place e added same = ap (λ (b : Bool). if b then e.1 ∷ of_place place added else of_place place added) (eq-eqb e.0 place same)

pub not_equal : (a b : ℕ) → a ≢ b → (a == b) ≡ false
not_equal a b ne = by (a == b) refl
  where
    by : (c : Bool) → (a == b) ≡ c → (a == b) ≡ false
    by false e = e
    by true e = absurd (ne (grind (arith, e)))

of_cons_other : (place : ℕ) (e : ℕ × Record) (added : List (ℕ × Record)) → e.0 ≢ place → of_place place (e ∷ added) ≡ of_place place added
of_cons_other place e added ne = ap (λ (b : Bool). if b then e.1 ∷ of_place place added else of_place place added) (not_equal e.0 place ne)

pub of_tag : (place : ℕ) (records : List Record) → of_place place (tag place records) ≡ records
of_tag place [] = refl
of_tag place (r ∷ records) = of_cons_same place (place, r) (tag place records) refl ∙ ap (λ (l : List Record). r ∷ l) (of_tag place records)

pub of_other : (place other : ℕ) (records : List Record) → other ≢ place → of_place place (tag other records) ≡ []
of_other place other [] ne = refl
of_other place other (r ∷ records) ne = of_cons_other place (other, r) (tag other records) ne ∙ of_other place other records ne

pub of_both : (place : ℕ) (xs ys : List (ℕ × Record)) → of_place place (xs ++ ys) ≡ of_place place xs ++ of_place place ys
of_both place [] ys = refl
of_both place (e ∷ xs) ys = by (e.0 == place) (of_both place xs ys)
  where
    by : (b : Bool) → of_place place (xs ++ ys) ≡ of_place place xs ++ of_place place ys
        → (if b then e.1 ∷ of_place place (xs ++ ys) else of_place place (xs ++ ys)) ≡ (if b then e.1 ∷ of_place place xs else of_place place xs) ++ of_place place ys
    by true rest = ap (λ (l : List Record). e.1 ∷ l) rest
    by false rest = rest

length_tag : (place : ℕ) (records : List Record) → length (tag place records) ≡ length records
length_tag place [] = refl
length_tag place (r ∷ records) = ap suc (length_tag place records)

pub length_set : {T : Type 0} (xs : List T) (k : ℕ) (w : T) → length (slice_set xs k w) ≡ length xs
length_set [] zero w = refl
length_set [] (suc k) w = refl
length_set (x ∷ xs) zero w = refl
length_set (x ∷ xs) (suc k) w = ap suc (length_set xs k w)

pub there_of : {T : Type 0} (xs : List T) (k : ℕ) → k < length xs → (x : T) × (slice_get xs k ≡ Some x)
there_of [] k lt = absurd (omega (arith, lt))
there_of (x ∷ xs) zero lt = (x, refl)
there_of (x ∷ xs) (suc k) lt = there_of xs k (omega (arith, lt))

-- ---- at one place

-- nothing was appended
same_at : (place from to : ℕ) (added : List (ℕ × Record)) (v w : EngineView) → w ≡ v → of_place place added ≡ [] → AddsAt place added from to v w
same_at place from to added v w e none = record {
  run = ap (λ (x : EngineView). x.history.seen.run) e;
  given = ap (λ (x : EngineView). x.history.seen.given) e;
  is = ap (λ (x : EngineView). x.history.records) e ∙ sym (append-nil v.history.records) ∙ ap (λ (l : List Record). v.history.records ++ l) (sym none);
  moments = subst (λ (l : List Record). All (IsBetween from to) l) (sym none) (All-nil (IsBetween from to));
}

within : (from to later : ℕ) (xs : List Record) → to ≤ later → All (IsBetween from to) xs → All (IsBetween from later) xs
within from to later xs le all k d lt = let is = all k d lt in (is.0, let most = is.1 in omega (arith, most, le))

within_from : (from to earlier : ℕ) (xs : List Record) → earlier ≤ from → All (IsBetween from to) xs → All (IsBetween earlier to) xs
within_from from to earlier xs le all k d lt = let is = all k d lt in (let least = is.0 in omega (arith, least, le), is.1)

pub then_at : (place from mid to : ℕ) (xs ys : List (ℕ × Record)) (u v w : EngineView) → from ≤ mid → mid ≤ to → AddsAt place xs from mid u v → AddsAt place ys mid to v w → AddsAt place (xs ++ ys) from to u w
then_at place from mid to xs ys u v w less more p q = record {
  run = q.run ∙ p.run;
  given = q.given ∙ p.given;
  is = q.is ∙ ap (λ (l : List Record). l ++ of_place place ys) p.is ∙ append_assoc u.history.records (of_place place xs) (of_place place ys) ∙ ap (λ (l : List Record). u.history.records ++ l) (sym (of_both place xs ys));
  moments = subst (λ (l : List Record). All (IsBetween from to) l) (sym (of_both place xs ys))
      (All-append (IsBetween from to) (of_place place xs) (of_place place ys) (within from mid to (of_place place xs) more p.moments) (within_from mid to from (of_place place ys) less q.moments));
}

-- ---- one step

pub none_added : (old new : FleetWorld) → new.engines ≡ old.engines → new.notes.left ≡ old.notes.left → old.site.clock.now ≤ new.site.clock.now → FleetAdds old new
none_added old new engines left later = record {
  added = [];
  many = ap (λ (l : List EngineView). length l) engines;
  each = λ place v w there here.
      same_at place old.site.clock.now new.site.clock.now [] v w (same_some (sym (subst (λ (l : List EngineView). slice_get l place ≡ Some w) engines here) ∙ there)) refl;
  all = let same = ap (λ (l : List EngineView). total records_of l) engines in omega (arith, same);
  later = later;
  budget = omega (arith, left);
}

one_added : (old new : FleetWorld) (at : ℕ) (v w : EngineView) (own : Own) → OneRun old new at v w own → FleetAdds old new
one_added old new at v w own is = record {
  added = tag at adds.added;
  many = ap (λ (l : List EngineView). length l) is.engines ∙ length_set old.engines at w;
  each = each;
  all =
      let sums = ap (λ (l : List EngineView). total records_of l) is.engines in
      let one = sum_set records_of old.engines at v w is.there in
      let records = ap (λ (l : List Record). length l) adds.is ∙ length-append v.history.records adds.added in
      let many = length_tag at adds.added in
      omega (arith, sums, one, records, many);
  later = adds.later;
  budget = let budget = adds.budget in let many = length_tag at adds.added in omega (arith, budget, many);
}
  where
    adds : Adds (part at v (old.own at) old) (part at w own new)
    adds = steps_add _ _ (then_step no_step is.step)

    given : SameGiven (part at v (old.own at) old) (part at w own new)
    given = steps_same_given _ _ (then_step no_step is.step)

    here_at : AddsAt at (tag at adds.added) old.site.clock.now new.site.clock.now v w
    here_at = record {
      run = given.run;
      given = given.given;
      is = adds.is ∙ ap (λ (l : List Record). v.history.records ++ l) (sym (of_tag at adds.added));
      moments = subst (λ (l : List Record). All (IsBetween old.site.clock.now new.site.clock.now) l) (sym (of_tag at adds.added)) adds.moments;
    }

    each : (place : ℕ) (x y : EngineView) → slice_get old.engines place ≡ Some x → slice_get new.engines place ≡ Some y → AddsAt place (tag at adds.added) old.site.clock.now new.site.clock.now x y
    each place x y there here = elim (get_set old.engines at place w y (subst (λ (l : List EngineView). slice_get l place ≡ Some y) is.engines here)) [
      | inl it ↦
          let same : x ≡ v = same_some (sym there ∙ subst (λ (n : ℕ). slice_get old.engines n ≡ Some v) (sym it.0) is.there) in
          subst (λ (n : ℕ). AddsAt n (tag at adds.added) old.site.clock.now new.site.clock.now x y) (sym it.0)
          (subst (λ (z : EngineView). AddsAt at (tag at adds.added) old.site.clock.now new.site.clock.now z y) (sym same)
          (subst (λ (z : EngineView). AddsAt at (tag at adds.added) old.site.clock.now new.site.clock.now v z) it.1 here_at))
      | inr other ↦ same_at place old.site.clock.now new.site.clock.now (tag at adds.added) x y (same_some (sym other.1 ∙ there)) (of_other place at adds.added (λ e. absurd (other.0 (sym e))))
    ]

no_run_added : (old new : FleetWorld) (v : EngineView) → NoRun old new v → FleetAdds old new
no_run_added old new v is = none_added old new is.engines left adds.later
  where
    adds : Adds (part 0 v (old.own 0) old) (part 0 v (old.own 0) new)
    adds = steps_add _ _ (then_step no_step is.step)

    left : new.notes.left ≡ old.notes.left
    left =
        let records = ap (λ (l : List Record). length l) adds.is ∙ length-append v.history.records adds.added in
        let budget = adds.budget in
        omega (arith, records, budget)

kind_adds : (old new : FleetWorld) → Kind old new → FleetAdds old new
kind_adds old new (tries place v w own IsNext is try) = one_added old new place v w own is
kind_adds old new (puts place issue v w own is put) = one_added old new place v w own is
kind_adds old new (filter v is did) = no_run_added old new v is
kind_adds old new (quiet is) = none_added old new is.sides.engines is.left is.later

pub step_adds : (old new : FleetWorld) → FleetStep old new → FleetAdds old new
step_adds old new step = kind_adds old new (kind_of old new step)

unfoldable pub adds-then : (a b c : FleetWorld) → FleetAdds a b → FleetAdds b c → FleetAdds a c
adds-then a b c p q = record {
  added = p.added ++ q.added;
  many = q.many ∙ p.many;
  each = λ place u w there here.
      let mid = there_of b.engines place (let lt = below a.engines place u there in let many = p.many in omega (arith, lt, many)) in
      then_at place a.site.clock.now b.site.clock.now c.site.clock.now p.added q.added u mid.0 w p.later q.later (p.each place u mid.0 there mid.1) (q.each place mid.0 w mid.1 here);
  all = let one = p.all in let two = q.all in let both = length-append p.added q.added in omega (arith, one, two, both);
  later = let one = p.later in let two = q.later in omega (arith, one, two);
  budget = let one = p.budget in let two = q.budget in let both = length-append p.added q.added in omega (arith, one, two, both);
}

unfoldable pub adds_none : (a : FleetWorld) → FleetAdds a a
adds_none a = none_added a a refl refl (omega arith)

pub fleet_steps_add : (a b : FleetWorld) → FleetSteps a b → FleetAdds a b
fleet_steps_add a b nothing = adds_none a
fleet_steps_add a b (and_then {mid} steps step) = adds-then a mid b (fleet_steps_add a mid steps) (step_adds mid b step)
