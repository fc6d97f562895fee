-- What a fleet appends, in order, and the lines that it says of it.
use Rattle.std.proofs.Common.{◌≡◌, inl, inr, ℕ, zero, suc, ◌+◌, ◌<◌, Bool, true, false, List, [], ◌∷◌, ◌++◌, length, take, refl, sym, ◌∙◌, subst, ap, arith}
use Rattle.std.specs.Prelude.{Option, Some, slice_get, ◌==◌, if◌then◌else◌}
use Rattle.std.proofs.lemmas.List.{append_assoc, append_cancel_left, append-nil, length-append, take-append-le}
use Rattle.cacao_site.specs.LinkCalls.{GainsAll}
use Rattle.run_records.specs.declared.record.Record.{Record}
use Rattle.flow_core_rules.specs.Givens.{Given}
use Rattle.flow_core_rules.specs.Lines.{record_line}
use Rattle.flow_laws.proofs.Basics.{get_more, same_some}
use Rattle.flow_engine_history.specs.HistoryView.{HistoryView}
use Rattle.flow_engine_history.specs.Histories.{IsLineAt, IsShownBefore}
use Rattle.flow_engine.specs.EngineView.{EngineView}
use Rattle.flow_world_steps.specs.Sums.{one_if, owed_lines}
use Rattle.flow_world_steps.specs.Worlds.{owes, owes_line, rests}
use Rattle.flow_world_steps.proofs.Came.{last_of, same_last}
use Rattle.flow_world_steps.proofs.Growth.{gains_none, gains_one, gains_then, get_last_or}
use Rattle.flow_world_steps.proofs.Issues.{below}
use Rattle.flow_fleet_laws.specs.Speeches.{head_of}
use Rattle.flow_fleet_steps.specs.Steps.{FleetStep, FleetSteps, SaysAt}
use Rattle.flow_fleet_steps.specs.Steps.FleetSteps.{nothing, and_then}
use Rattle.flow_fleet_steps.specs.Worlds.{FleetWorld, Shared}
use Rattle.flow_fleet_sums.specs.Sums.{AddsAt, FleetAdds, of_place}
use Rattle.flow_fleet_sums.proofs.Adding.{adds-then, adds_none, of_both, of_tag, step_adds, there_of}
use Rattle.flow_fleet_runs.specs.Lines.{AppendedBehind, EachFleetTells, FleetSpeaks, IsLineOf}
use Rattle.flow_fleet_runs.proofs.Calls.{Did, NoMore, OneMore, did}
use Rattle.flow_fleet_runs.proofs.Calls.Did.{no_more, one_line, one_more}

-- ---- lists

none_of : {T : Type 0} (xs : List T) → length xs ≡ 0 → xs ≡ []
none_of [] e = refl
none_of (x ∷ xs) e = absurd (omega (arith, e))

pub get_end : {T : Type 0} (xs : List T) (x : T) (ys : List T) → slice_get (xs ++ x ∷ ys) (length xs) ≡ Some x
get_end [] x ys = refl
get_end (y ∷ xs) x ys = get_end xs x ys

pub take_front : {T : Type 0} (xs ys : List T) → take (length xs) (xs ++ ys) ≡ xs
take_front [] ys = refl
take_front (x ∷ xs) ys = ap (λ l. x ∷ l) (take_front xs ys)

pub not_empty : {T : Type 0} (front back : List T) (x : T) → [] ≡ front ++ x ∷ back → ⊥
not_empty {T} front back x e = let long = ap (λ (l : List T). length l) e in omega (arith, long, length-append front (x ∷ back))

pub same_eqb : (a b : ℕ) → (a == b) ≡ true → a ≡ b
same_eqb a b e = grind (arith, e)

pub single : (place : ℕ) (r : Record) (xs : List (ℕ × Record)) → length xs ≡ 1 → of_place place xs ≡ r ∷ [] → xs ≡ (place, r) ∷ []
single place r [] long is = absurd (omega (arith, long))
single place r (e ∷ f ∷ xs) long is = absurd (omega (arith, long))
single place r (e ∷ []) long is = by (e.0 == place) refl is
  where
    by : (b : Bool) → (e.0 == place) ≡ b → (if b then e.1 ∷ [] else []) ≡ r ∷ [] → e ∷ [] ≡ (place, r) ∷ []
    by true same one =
        let first : e.0 ≡ place = same_eqb e.0 place same in
        let second : e.1 ≡ r = cc in
        ap (λ (n : ℕ). (n, e.1) ∷ []) first ∙ ap (λ (x : Record). (place, x) ∷ []) second
    by false other one = absurd (cc)

-- ---- what one call appended

pub one_list : (place : ℕ) (r : Record) (old new : FleetWorld) (q : FleetAdds old new) → OneMore place r old new → q.added ≡ (place, r) ∷ []
one_list place r old new q is =
    let long : length q.added ≡ 1 = let budget = q.budget in let left = is.left in omega (arith, budget, left) in
    let at = q.each place is.v is.w is.there is.here in
    single place r q.added long (append_cancel_left is.v.history.records (of_place place q.added) (r ∷ []) (sym at.is ∙ is.has))

no_list : (old new : FleetWorld) (q : FleetAdds old new) → new.notes.left ≡ old.notes.left → q.added ≡ []
no_list old new q left = none_of q.added (let budget = q.budget in omega (arith, budget, left))

both_added : (a b c : FleetWorld) (p : FleetAdds a b) (q : FleetAdds b c) → (adds-then a b c p q).added ≡ p.added ++ q.added
unfolding adds-then
both_added a b c p q = refl

-- ---- a line stays that of its record

abbrev pub line_at : (h k : HistoryView) (n m : ℕ) (bytes : List ℕ) (more : List Record) → k.records ≡ h.records ++ more → k.seen.given ≡ h.seen.given → k.seen.run ≡ h.seen.run → m ≡ n
    → IsLineAt h n bytes → IsLineAt k m bytes
line_at h k n m bytes more records given run number line =
    let lt : n < length h.records = below h.records n line.it line.there in
    let same : take m k.records ≡ take n h.records =
    ap (λ (i : ℕ). take i k.records) number ∙ ap (λ (l : List Record). take n l) records ∙ take-append-le n h.records more (omega (arith, lt)) in
    record {
      it = line.it;
      before = line.before;
      there = subst (λ (i : ℕ). slice_get k.records i ≡ Some line.it) (sym number)
          (subst (λ (l : List Record). slice_get l n ≡ Some line.it) (sym records) (get_more h.records more n line.it line.there));
      shows = subst (λ (l : List Record). IsShownBefore k.seen.given k.seen.run l line.before) (sym same)
          (subst (λ (g : Given). IsShownBefore g k.seen.run (take n h.records) line.before) (sym given)
          (subst (λ (r : ℕ). IsShownBefore h.seen.given r (take n h.records) line.before) (sym run) line.shows));
      is = line.is ∙ ap (λ (i : ℕ). record_line line.before i line.it) (sym number);
    }

line_on : (a mid b : FleetWorld) (q : FleetAdds mid b) (added more now : List (ℕ × Record)) → now ≡ added ++ more → (k : ℕ) (bytes : List ℕ) → IsLineOf a mid added k bytes → IsLineOf a b now k bytes
line_on a mid b q added more now e k bytes l =
    let end = there_of b.engines l.place (let lt = below mid.engines l.place l.w l.here in let many = q.many in omega (arith, lt, many)) in
    let at = q.each l.place l.w end.0 l.here end.1 in
    let lt : k < length added = below added k (l.place, l.r) l.appended in
    let same : take k now ≡ take k added = ap (λ (xs : List (ℕ × Record)). take k xs) e ∙ take-append-le k added more (omega (arith, lt)) in
    let number = ap (λ (xs : List (ℕ × Record)). length l.v.history.records + length (of_place l.place xs)) same in
    record {
      place = l.place;
      r = l.r;
      appended = subst (λ (xs : List (ℕ × Record)). slice_get xs k ≡ Some (l.place, l.r)) (sym e) (get_more added more k (l.place, l.r) l.appended);
      v = l.v;
      w = end.0;
      there = l.there;
      here = end.1;
      line = l.line;
      line_is = line_at l.w.history end.0.history _ _ l.line (of_place l.place q.added) at.is at.given at.run number l.line_is;
      of_it = l.of_it;
      is = l.is ∙ ap (λ (n : ℕ). head_of n ++ l.line) (sym at.run);
    }

-- ---- what was appended and said so far

-- the last of these is of that place
pub record EndsAt (place : ℕ) (added : List (ℕ × Record)) : Type 0 where
  pub front : List (ℕ × Record)
  pub r : Record
  pub is : added ≡ front ++ (place, r) ∷ []

pub record Told (a b : FleetWorld) : Type 0 where
  pub adds : FleetAdds a b
  pub in_order : (front back : List (ℕ × Record)) (e : ℕ × Record) → adds.added ≡ front ++ e ∷ back → AppendedBehind front e a b
  pub speaks : owes_line a.phase ≡ false → FleetSpeaks a b adds.added
  pub last : owes_line a.phase ≡ false → b.phase ≡ owes → EndsAt b.place adds.added

later : (a mid b : FleetWorld) (front : List (ℕ × Record)) (e : ℕ × Record) → FleetStep mid b → AppendedBehind front e a mid → AppendedBehind front e a b
later a mid b front e step is = record {
  by = record {
    old = is.by.old;
    new = is.by.new;
    before = is.by.before;
    step = is.by.step;
    after = and_then is.by.after step;
    v = is.by.v;
    w = is.by.w;
    there = is.by.there;
    here = is.by.here;
    has = is.by.has;
    moment = is.by.moment;
    why = is.by.why;
  };
  adds = is.adds;
  are = is.are;
}

module _ (a mid b : FleetWorld) (steps : FleetSteps a mid) (step : FleetStep mid b) (t : Told a mid) where
  q : FleetAdds mid b
  q = step_adds mid b step

  -- no record more
  same_list : b.notes.left ≡ mid.notes.left → (adds-then a mid b t.adds q).added ≡ t.adds.added
  same_list left = both_added a mid b t.adds q ∙ ap (λ (l : List (ℕ × Record)). t.adds.added ++ l) (no_list mid b q left) ∙ append-nil t.adds.added

  same_order : b.notes.left ≡ mid.notes.left → (front back : List (ℕ × Record)) (e : ℕ × Record) → (adds-then a mid b t.adds q).added ≡ front ++ e ∷ back → AppendedBehind front e a b
  same_order left front back e is = later a mid b front e step (t.in_order front back e (sym (same_list left) ∙ is))

  told_none : NoMore mid b → Told a b
  told_none is = record {
    adds = adds-then a mid b t.adds q;
    in_order = same_order is.left;
    speaks = λ free. let s = t.speaks free in record {
      said = s.said;
      says = subst (λ (o : Option (List (ℕ × List ℕ))). GainsAll a.site.link.said s.said o) (sym is.said) s.says;
      many =
          let many = s.many in
          let owed = is.owed in
          let long = ap (λ (l : List (ℕ × Record)). length l) (same_list is.left) in
          omega (arith, many, owed, long);
      lines = λ k e there. line_on a mid b q t.adds.added [] _ (same_list is.left ∙ sym (append-nil t.adds.added)) k e.1 (s.lines k e there);
    };
    last = λ free owed. absurd (is.other owed);
  }

  module _ (place : ℕ) (r : Record) (is : OneMore place r mid b) where
    more_list : (adds-then a mid b t.adds q).added ≡ t.adds.added ++ (place, r) ∷ []
    more_list = both_added a mid b t.adds q ∙ ap (λ (l : List (ℕ × Record)). t.adds.added ++ l) (one_list place r mid b q is)

    last_one : AppendedBehind t.adds.added (place, r) a b
    last_one = record {
      by = record {
        old = mid;
        new = b;
        before = steps;
        step = step;
        after = nothing;
        v = is.v;
        w = is.w;
        there = is.there;
        here = is.here;
        has = is.has;
        moment = is.moment;
        why = is.why;
      };
      adds = t.adds;
      are = refl;
    }

    more_order : (front back : List (ℕ × Record)) (e : ℕ × Record) → t.adds.added ++ (place, r) ∷ [] ≡ front ++ e ∷ back → AppendedBehind front e a b
    more_order front back e split = elim (last_of back) [
      | inl none ↦
          let same = same_last t.adds.added front (place, r) e (split ∙ ap (λ (l : List (ℕ × Record)). front ++ e ∷ l) none) in
          subst (λ (f : List (ℕ × Record)). AppendedBehind f e a b) same.0 (subst (λ (x : ℕ × Record). AppendedBehind t.adds.added x a b) same.1 last_one)
      | inr some ↦
          let whole : front ++ e ∷ back ≡ (front ++ e ∷ some.0) ++ some.1 ∷ [] =
          ap (λ (l : List (ℕ × Record)). front ++ e ∷ l) some.2 ∙ sym (append_assoc front (e ∷ some.0) (some.1 ∷ [])) in
          let same = same_last t.adds.added (front ++ e ∷ some.0) (place, r) some.1 (split ∙ whole) in
          later a mid b front e step (t.in_order front some.0 e same.0)
    ]

    told_more : Told a b
    told_more = record {
      adds = adds-then a mid b t.adds q;
      in_order = λ front back e split. more_order front back e (sym more_list ∙ split);
      speaks = λ free. let s = t.speaks free in record {
        said = s.said;
        says = subst (λ (o : Option (List (ℕ × List ℕ))). GainsAll a.site.link.said s.said o) (sym is.said) s.says;
        many =
            let many = s.many in
            let was = is.free in
            let owed : owed_lines b.phase ≡ 1 = ap owed_lines is.owed in
            let long = ap (λ (l : List (ℕ × Record)). length l) more_list ∙ length-append t.adds.added ((place, r) ∷ []) in
            omega (arith, many, was, owed, long);
        lines = λ k e there. line_on a mid b q t.adds.added ((place, r) ∷ []) _ more_list k e.1 (s.lines k e there);
      };
      last = λ free owed. record { front = t.adds.added; r = r; is = more_list ∙ ap (λ (n : ℕ). t.adds.added ++ (n, r) ∷ []) (sym is.place_is) };
    }

  module _ (place : ℕ) (v : EngineView) (bytes : List ℕ) (is : SaysAt place v bytes mid b) (free : owes_line a.phase ≡ false) where
    s : FleetSpeaks a mid t.adds.added
    s = t.speaks free

    owed : owed_lines mid.phase ≡ 1
    owed = ap owed_lines is.speaks.phase

    end : EndsAt place t.adds.added
    end = subst (λ (n : ℕ). EndsAt n t.adds.added) is.speaks.place_is (t.last free is.speaks.phase)

    -- all but the last one have their lines
    many_said : length s.said ≡ length end.front
    many_said =
        let many = s.many in
        let one = owed in
        let long = ap (λ (l : List (ℕ × Record)). length l) end.is ∙ length-append end.front ((place, end.r) ∷ []) in
        omega (arith, many, one, long)

    first : (u : EngineView) × (slice_get a.engines place ≡ Some u)
    first = there_of a.engines place (let lt = below mid.engines place v is.speaks.there in let many = t.adds.many in omega (arith, lt, many))

    at : AddsAt place t.adds.added a.site.clock.now mid.site.clock.now first.0 v
    at = t.adds.each place first.0 v first.1 is.speaks.there

    own : of_place place t.adds.added ≡ of_place place end.front ++ end.r ∷ []
    own = ap (of_place place) end.is ∙ of_both place end.front ((place, end.r) ∷ []) ∙ ap (λ (l : List Record). of_place place end.front ++ l) (of_tag place (end.r ∷ []))

    records : v.history.records ≡ (first.0.history.records ++ of_place place end.front) ++ end.r ∷ []
    records = at.is ∙ ap (λ (l : List Record). first.0.history.records ++ l) own ∙ sym (append_assoc first.0.history.records (of_place place end.front) (end.r ∷ []))

    before : take (length s.said) t.adds.added ≡ end.front
    before = ap (λ (n : ℕ). take n t.adds.added) many_said ∙ ap (λ (l : List (ℕ × Record)). take (length end.front) l) end.is ∙ take_front end.front ((place, end.r) ∷ [])

    long_before : length (first.0.history.records ++ of_place place end.front) ≡ length first.0.history.records + length (of_place place end.front)
    long_before = length-append first.0.history.records (of_place place end.front)

    last_is : is.speaks.line.n ≡ length first.0.history.records + length (of_place place end.front)
    last_is =
        let last = is.speaks.line.last in
        let long = ap (λ (l : List Record). length l) records ∙ length-append (first.0.history.records ++ of_place place end.front) (end.r ∷ []) in
        let parts = long_before in
        omega (arith, last, long, parts)

    number : length first.0.history.records + length (of_place place (take (length s.said) t.adds.added)) ≡ is.speaks.line.n
    number = ap (λ (l : List (ℕ × Record)). length first.0.history.records + length (of_place place l)) before ∙ sym last_is

    it_is : is.speaks.line.line.it ≡ end.r
    it_is = same_some (sym is.speaks.line.line.there
        ∙ ap (λ (n : ℕ). slice_get v.history.records n) (last_is ∙ sym long_before)
        ∙ ap (λ (l : List Record). slice_get l (length (first.0.history.records ++ of_place place end.front))) records
        ∙ get_end (first.0.history.records ++ of_place place end.front) end.r [])

    new_line : IsLineOf a mid t.adds.added (length s.said) (head_of v.history.seen.run ++ bytes)
    new_line = record {
      place = place;
      r = end.r;
      appended = ap (λ (n : ℕ). slice_get t.adds.added n) many_said ∙ ap (λ (l : List (ℕ × Record)). slice_get l (length end.front)) end.is
          ∙ get_end end.front (place, end.r) [];
      v = first.0;
      w = v;
      there = first.1;
      here = is.speaks.there;
      line = bytes;
      line_is = line_at v.history v.history _ _ bytes [] (sym (append-nil v.history.records)) refl refl number is.speaks.line.line;
      of_it = it_is;
      is = refl;
    }

    left_same : b.notes.left ≡ mid.notes.left
    left_same = ap (λ (n : Shared). n.left) is.speaks.notes

    line : ℕ × List ℕ
    line = (b.site.disk.beat, head_of v.history.seen.run ++ bytes)

    on : (k : ℕ) (text : List ℕ) → IsLineOf a mid t.adds.added k text → IsLineOf a b (adds-then a mid b t.adds q).added k text
    on = line_on a mid b q t.adds.added [] _ (same_list left_same ∙ sym (append-nil t.adds.added))

    speaks_line : FleetSpeaks a b (adds-then a mid b t.adds q).added
    speaks_line = record {
      said = s.said ++ (b.site.disk.beat, head_of v.history.seen.run ++ bytes) ∷ [];
      says = gains_then a.site.link.said mid.site.link.said b.site.link.said s.said _ s.says (gains_one mid.site.link.said b.site.link.said _ is.said);
      many =
          let many = s.many in
          let was = owed in
          let now : owed_lines b.phase ≡ 0 = ap owed_lines is.phase in
          let said = length-append s.said ((b.site.disk.beat, head_of v.history.seen.run ++ bytes) ∷ []) in
          let long = ap (λ (l : List (ℕ × Record)). length l) (same_list left_same) in
          omega (arith, many, was, now, said, long);
      lines = λ k e there. elim (get_last_or s.said (b.site.disk.beat, head_of v.history.seen.run ++ bytes) e k there) [
        | inl was ↦ on k e.1 (s.lines k e was)
        | inr is_new ↦
            subst (λ (x : ℕ × List ℕ). IsLineOf a b (adds-then a mid b t.adds q).added k x.1) is_new.1
            (on k (head_of v.history.seen.run ++ bytes) (subst (λ (n : ℕ). IsLineOf a mid t.adds.added n (head_of v.history.seen.run ++ bytes)) (sym is_new.0) new_line))
      ];
    }

  told_line : (place : ℕ) (v : EngineView) (bytes : List ℕ) → SaysAt place v bytes mid b → Told a b
  told_line place v bytes is = record {
    adds = adds-then a mid b t.adds q;
    in_order = same_order (ap (λ (n : Shared). n.left) is.speaks.notes);
    speaks = λ free. speaks_line place v bytes is free;
    last = λ free owed. absurd (rests_not (sym is.phase ∙ owed));
  }
    where
      rests_not : rests ≡ owes → ⊥
      rests_not e = cc

  told_by : Did mid b → Told a b
  told_by (one_more place r is) = told_more place r is
  told_by (no_more is) = told_none is
  told_by (one_line place v bytes is) = told_line place v bytes is

told_first : (a : FleetWorld) → Told a a
told_first a = record {
  adds = adds_none a;
  in_order = λ front back e split. absurd (not_empty front back e (sym none ∙ split));
  speaks = λ free. record {
    said = [];
    says = gains_none a.site.link.said;
    many =
        let long = ap (λ (l : List (ℕ × Record)). length l) none in
        let owed : owed_lines a.phase ≡ 0 = ap one_if free in
        omega (arith, long, owed);
    lines = λ k e there. absurd (none_there k e there);
  };
  last = λ free owed. absurd (not_owed (sym free ∙ ap owes_line owed));
}
  where
    none : (adds_none a).added ≡ []
    none = no_list a a (adds_none a) refl

    none_there : (k : ℕ) (e : ℕ × List ℕ) → slice_get [] k ≡ Some e → ⊥
    none_there zero e is = cc
    none_there (suc k) e is = cc

    not_owed : false ≡ true → ⊥
    not_owed e = cc

pub told : (a b : FleetWorld) → FleetSteps a b → Told a b
told a b nothing = told_first a
told a b (and_then {mid} steps step) = told_by a mid b steps step (told a mid steps) (did mid b step)

pub fleets_tell : EachFleetTells
fleets_tell a b free steps = let t = told a b steps in record { adds = t.adds; in_order = t.in_order; speaks = t.speaks free }
