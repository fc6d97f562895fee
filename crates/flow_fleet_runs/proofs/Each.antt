-- The lines of one run of a fleet, told by their number.
use Rattle.std.proofs.Common.{◌≡◌, ◌≢◌, ℕ, zero, suc, ◌+◌, ◌<◌, ◌≤◌, ◌^◌, Bool, true, false, List, [], ◌∷◌, ◌++◌, length, take, drop, refl, sym, ◌∙◌, subst, ap, arith}
use Rattle.std.specs.Fmt.{decimal}
use Rattle.std.specs.Prelude.{Option, Some, None, slice_get, ◌==◌, if◌then◌else◌}
use Rattle.std.specs.Option.{option_map_or}
use Rattle.std.specs.Str.Parse.{AllDigits}
use Rattle.std.proofs.lemmas.Bool.{eq-eqb}
use Rattle.std.proofs.lemmas.Fmt.{decimal_injective, decimal_is_IsNumeral}
use Rattle.std.proofs.lemmas.List.{append_assoc, length-append, length-drop, take-append-drop}
use Rattle.std.proofs.lemmas.Str.Parse.{digit_from_value}
use Rattle.run_records.specs.declared.record.Record.{Record}
use Rattle.flow_laws.proofs.Basics.{same_some}
use Rattle.flow_engine_history.specs.Histories.{IsLineAt}
use Rattle.flow_engine.specs.EngineView.{EngineView}
use Rattle.flow_world_steps.specs.Worlds.{Phase, opened, owes_line}
use Rattle.flow_fleet_laws.specs.Fleets.{IsAt}
use Rattle.flow_fleet_laws.specs.Speeches.{head_of}
use Rattle.flow_fleet_steps.specs.Openings.{numbers}
use Rattle.flow_fleet_steps.specs.Worlds.{FleetWorld}
use Rattle.flow_fleet_steps.proofs.Numbers.{at_place, opened_for}
use Rattle.flow_fleet_sums.specs.Sums.{FleetAdds, of_place}
use Rattle.flow_fleet_sums.proofs.Adding.{of_both}
use Rattle.flow_fleet_runs.specs.Lines.{EachFleetSpeaksAt, FleetTells, IsLineOf, behind, lines_of}
use Rattle.flow_fleet_runs.proofs.Lines.{fleets_tell, same_eqb}

-- ---- a line tells its number

-- digits up to a space are the same, however they are taken
same_front : (xs ys a b : List ℕ) → AllDigits 10 xs → AllDigits 10 ys → xs ++ 32 ∷ a ≡ ys ++ 32 ∷ b → xs ≡ ys
same_front [] [] a b dx dy e = refl
same_front [] (y ∷ ys) a b dx dy e = let first : 32 ≡ y = cc in absurd (let digit = digit_from_value y dy.0 in omega (arith, digit, first))
same_front (x ∷ xs) [] a b dx dy e = let first : x ≡ 32 = cc in absurd (let digit = digit_from_value x dx.0 in omega (arith, digit, first))
same_front (x ∷ xs) (y ∷ ys) a b dx dy e =
    let first : x ≡ y = cc in
    let rest : xs ++ 32 ∷ a ≡ ys ++ 32 ∷ b = cc in
    ap (λ (n : ℕ). n ∷ xs) first ∙ ap (λ (l : List ℕ). y ∷ l) (same_front xs ys a b dx.1 dy.1 rest)

same_number : (n m : ℕ) (a b : List ℕ) → n < 2 ^ 64 → m < 2 ^ 64 → head_of n ++ a ≡ head_of m ++ b → n ≡ m
same_number n m a b small small' e =
    decimal_injective n m small small' (same_front (decimal n) (decimal m) a b (decimal_is_IsNumeral n small).0.1 (decimal_is_IsNumeral m small').0.1
    (sym (append_assoc (decimal n) (32 ∷ []) a) ∙ e ∙ append_assoc (decimal m) (32 ∷ []) b))

behind_is : (head line : List ℕ) → behind head (head ++ line) ≡ Some line
behind_is [] line = refl
behind_is (x ∷ head) line = ap (λ (b : Bool). if b then behind head (head ++ line) else None) (eq-eqb x x refl) ∙ behind_is head line

behind_only : (head text line : List ℕ) → behind head text ≡ Some line → text ≡ head ++ line
behind_only [] text line e = same_some e
behind_only (x ∷ head) [] line e = absurd (cc)
behind_only (x ∷ head) (y ∷ text) line e = by (behind_only head text line) (x == y) refl e
  where
    by : (behind head text ≡ Some line → text ≡ head ++ line) → (b : Bool) → (x == y) ≡ b → (if b then behind head text else None) ≡ Some line → y ∷ text ≡ x ∷ (head ++ line)
    by again true same rest = ap (λ (n : ℕ). n ∷ text) (sym (same_eqb x y same)) ∙ ap (λ (l : List ℕ). x ∷ l) (again rest)
    by again false other rest = absurd (cc)

-- a line of the run
mine : (run : ℕ) (e : ℕ × List ℕ) (said : List (ℕ × List ℕ)) (line : List ℕ) → e.1 ≡ head_of run ++ line → lines_of run (e ∷ said) ≡ line ∷ lines_of run said
mine run e said line is =
    ap (λ (o : Option (List ℕ)). option_map_or (λ l. l ∷ lines_of run said) o (lines_of run said)) (ap (behind (head_of run)) is ∙ behind_is (head_of run) line)

-- and one of another run
not_mine : (run n : ℕ) (e : ℕ × List ℕ) (said : List (ℕ × List ℕ)) (line : List ℕ) → run < 2 ^ 64 → n < 2 ^ 64 → n ≢ run → e.1 ≡ head_of n ++ line → lines_of run (e ∷ said) ≡ lines_of run said
not_mine run n e said line small small' other is = by (behind (head_of run) e.1) refl
  where
    by : (o : Option (List ℕ)) → behind (head_of run) e.1 ≡ o → option_map_or (λ l. l ∷ lines_of run said) o (lines_of run said) ≡ lines_of run said
    by None found = refl
    by (Some rest) found = absurd (other (same_number n run line rest small' small (sym is ∙ behind_only (head_of run) e.1 rest found)))

-- ---- lists

take_next : {T : Type 0} (n : ℕ) (xs : List T) (x : T) → slice_get xs n ≡ Some x → take (suc n) xs ≡ take n xs ++ x ∷ []
take_next zero [] x e = absurd (cc)
take_next zero (y ∷ xs) x e = let same : y ≡ x = cc in ap (λ z. z ∷ []) same
take_next (suc n) [] x e = absurd (cc)
take_next (suc n) (y ∷ xs) x e = ap (λ l. y ∷ l) (take_next n xs x e)

longer : {T : Type 0} (xs : List T) (x : T) → length (xs ++ x ∷ []) ≡ suc (length xs)
longer xs x = omega (arith, length-append xs (x ∷ []))

next_taken : {T : Type 0} (done all : List T) (x : T) → take (length done) all ≡ done → slice_get all (length done) ≡ Some x → take (length (done ++ x ∷ [])) all ≡ done ++ x ∷ []
next_taken done all x is there = ap (λ n. take n all) (longer done x) ∙ take_next (length done) all x there ∙ ap (λ l. l ++ x ∷ []) is

of_few : (place : ℕ) (xs : List (ℕ × Record)) → length (of_place place xs) ≤ length xs
of_few place [] = omega arith
of_few place (e ∷ xs) = by (e.0 == place) (of_few place xs)
  where
    by : (b : Bool) → length (of_place place xs) ≤ length xs → length (if b then e.1 ∷ of_place place xs else of_place place xs) ≤ suc (length xs)
    by true few = omega (arith, few)
    by false few = omega (arith, few)

of_mine : (place : ℕ) (e : ℕ × Record) → (e.0 == place) ≡ true → length (of_place place (e ∷ [])) ≡ 1
of_mine place e same = ap (λ (b : Bool). length (if b then e.1 ∷ [] else [])) same

of_others : (place : ℕ) (e : ℕ × Record) → (e.0 == place) ≡ false → length (of_place place (e ∷ [])) ≡ 0
of_others place e other = ap (λ (b : Bool). length (if b then e.1 ∷ [] else [])) other

of_more : (place : ℕ) (xs : List (ℕ × Record)) (e : ℕ × Record) → length (of_place place (xs ++ e ∷ [])) ≡ length (of_place place xs) + length (of_place place (e ∷ []))
of_more place xs e = ap (λ (l : List Record). length l) (of_both place xs (e ∷ [])) ∙ length-append (of_place place xs) (of_place place (e ∷ []))

-- ---- the lines of one run

module _ (a b : FleetWorld) (adds : FleetAdds a b) (place : ℕ) (v w : EngineView) (there : slice_get a.engines place ≡ Some v) (here : slice_get b.engines place ≡ Some w) where
  abbrev run : ℕ
  run = v.history.seen.run

  -- these are the lines of the run's records among the first n, from behind those that are done on
  record Own (done : List (ℕ × Record)) (n : ℕ) (lines : List (List ℕ)) : Type 0 where
    many : length (of_place place done) + length lines ≡ length (of_place place (take n adds.added))
    each : (k : ℕ) (line : List ℕ) → slice_get lines k ≡ Some line → IsLineAt w.history (length v.history.records + (length (of_place place done) + k)) line

  one_line : (done next : List (ℕ × Record)) (n : ℕ) (line : List ℕ) (lines : List (List ℕ)) → length (of_place place next) ≡ length (of_place place done) + 1
      → IsLineAt w.history (length v.history.records + length (of_place place done)) line → Own next n lines → Own done n (line ∷ lines)
  one_line done next n line lines more is rest = record {
    many = let many = rest.many in omega (arith, many, more);
    each = each;
  }
    where
      each : (k : ℕ) (text : List ℕ) → slice_get (line ∷ lines) k ≡ Some text → IsLineAt w.history (length v.history.records + (length (of_place place done) + k)) text
      each zero text e =
          let same : line ≡ text = same_some e in
          let number : length v.history.records + length (of_place place done) ≡ length v.history.records + (length (of_place place done) + 0) = omega arith in
          subst (λ (l : List ℕ). IsLineAt w.history (length v.history.records + (length (of_place place done) + 0)) l) same
          (subst (λ (m : ℕ). IsLineAt w.history m line) number is)
      each (suc k) text e =
          let number : length v.history.records + (length (of_place place next) + k) ≡ length v.history.records + (length (of_place place done) + suc k) = omega (arith, more) in
          subst (λ (m : ℕ). IsLineAt w.history m text) number (rest.each k text e)

  other_line : (done next : List (ℕ × Record)) (n : ℕ) (lines : List (List ℕ)) → length (of_place place next) ≡ length (of_place place done) → Own next n lines → Own done n lines
  other_line done next n lines same rest = record {
    many = let many = rest.many in omega (arith, many, same);
    each = λ k text e. subst (λ (m : ℕ). IsLineAt w.history (length v.history.records + (m + k)) text) same (rest.each k text e);
  }

  -- a line of this place is one of this run
  at_this : (k : ℕ) (bytes : List ℕ) (l : IsLineOf a b adds.added k bytes) → l.place ≡ place
      → (bytes ≡ head_of run ++ l.line) × IsLineAt w.history (length v.history.records + length (of_place place (take k adds.added))) l.line
  at_this k bytes l same =
      let first : l.v ≡ v = same_some (sym l.there ∙ ap (λ (n : ℕ). slice_get a.engines n) same ∙ there) in
      let last : l.w ≡ w = same_some (sym l.here ∙ ap (λ (n : ℕ). slice_get b.engines n) same ∙ here) in
      let named : l.w.history.seen.run ≡ run = ap (λ (x : EngineView). x.history.seen.run) last ∙ (adds.each place v w there here).run in (
        l.is ∙ ap (λ (n : ℕ). head_of n ++ l.line) named,
        subst (λ (n : ℕ). IsLineAt w.history (length v.history.records + length (of_place n (take k adds.added))) l.line) same
            (subst (λ (x : EngineView). IsLineAt w.history (length x.history.records + length (of_place l.place (take k adds.added))) l.line) first
            (subst (λ (x : EngineView). IsLineAt x.history (length l.v.history.records + length (of_place l.place (take k adds.added))) l.line) last l.line_is)),
      )

  module _
      (once : (other : ℕ) (x : EngineView) → slice_get a.engines other ≡ Some x → x.history.seen.run ≡ v.history.seen.run → other ≡ place)
      (small : (other : ℕ) (x : EngineView) → slice_get a.engines other ≡ Some x → x.history.seen.run < 2 ^ 64)
    where
      own_next : (done : List (ℕ × Record)) (e : ℕ × List ℕ) (said : List (ℕ × List ℕ)) (n : ℕ) → take (length done) adds.added ≡ done → (l : IsLineOf a b adds.added (length done) e.1)
          → Own (done ++ (l.place, l.r) ∷ []) n (lines_of run said) → Own done n (lines_of run (e ∷ said))
      own_next done e said n is l rest = by (l.place == place) refl
        where
          more : length (of_place place (done ++ (l.place, l.r) ∷ [])) ≡ length (of_place place done) + length (of_place place ((l.place, l.r) ∷ []))
          more = of_more place done (l.place, l.r)

          not_both : false ≡ true → ⊥
          not_both f = cc

          by : (c : Bool) → (l.place == place) ≡ c → Own done n (lines_of run (e ∷ said))
          by true same =
              let this = at_this (length done) e.1 l (same_eqb l.place place same) in
              let one = of_mine place (l.place, l.r) same in
              let longer_by = more in
              let number = ap (λ (xs : List (ℕ × Record)). length v.history.records + length (of_place place xs)) is in
              subst (λ (ls : List (List ℕ)). Own done n ls) (sym (mine run e said l.line this.0))
              (one_line done (done ++ (l.place, l.r) ∷ []) n l.line (lines_of run said) (omega (arith, longer_by, one)) (subst (λ (m : ℕ). IsLineAt w.history m l.line) number this.1) rest)
          by false other =
              let none = of_others place (l.place, l.r) other in
              let longer_by = more in
              let named : l.w.history.seen.run ≡ l.v.history.seen.run = (adds.each l.place l.v l.w l.there l.here).run in
              let apart : l.v.history.seen.run ≢ run = λ same. absurd (not_both (sym other ∙ eq-eqb l.place place (once l.place l.v l.there same))) in
              subst (λ (ls : List (List ℕ)). Own done n ls)
              (sym (not_mine run l.v.history.seen.run e said l.line (small place v there) (small l.place l.v l.there) apart (l.is ∙ ap (λ (m : ℕ). head_of m ++ l.line) named)))
              (other_line done (done ++ (l.place, l.r) ∷ []) n (lines_of run said) (omega (arith, longer_by, none)) rest)

      none_there : (k : ℕ) (line : List ℕ) → slice_get [] k ≡ Some line → ⊥
      none_there zero line e = cc
      none_there (suc k) line e = cc

      own_lines : (done : List (ℕ × Record)) (said : List (ℕ × List ℕ)) → take (length done) adds.added ≡ done
          → ((k : ℕ) (e : ℕ × List ℕ) → slice_get said k ≡ Some e → IsLineOf a b adds.added (length done + k) e.1) → Own done (length done + length said) (lines_of run said)
      own_lines done [] is all = record {
        many =
            let here : length (of_place place (take (length done + 0) adds.added)) ≡ length (of_place place done) =
            ap (λ (n : ℕ). length (of_place place (take n adds.added))) {x = length done + 0} {y = length done} (omega arith) ∙ ap (λ (l : List (ℕ × Record)). length (of_place place l)) is in
            omega (arith, here);
        each = λ k line e. absurd (none_there k line e);
      }
      own_lines done (e ∷ said) is all =
          let l : IsLineOf a b adds.added (length done) e.1 = subst (λ (n : ℕ). IsLineOf a b adds.added n e.1) {x = length done + 0} {y = length done} (omega arith) (all 0 e refl) in
          let long = longer done (l.place, l.r) in
          let number : length (done ++ (l.place, l.r) ∷ []) + length said ≡ length done + suc (length said) = omega (arith, long) in
          own_next done e said (length done + suc (length said)) is l (subst (λ (n : ℕ). Own (done ++ (l.place, l.r) ∷ []) n (lines_of run said)) number
          (own_lines (done ++ (l.place, l.r) ∷ []) said (next_taken done adds.added (l.place, l.r) is l.appended)
          (λ k x there_k. let at : length done + suc k ≡ length (done ++ (l.place, l.r) ∷ []) + k = omega (arith, long) in
          subst (λ (n : ℕ). IsLineOf a b adds.added n x.1) at (all (suc k) x there_k))))

-- ---- from the opening on

pub fleets_speak_at : EachFleetSpeaksAt
fleets_speak_at a b runs most opening are steps place v w there here = record {
  said = t.speaks.said;
  says = t.speaks.says;
  lacks = length (of_place place (drop (length t.speaks.said) t.adds.added));
  few =
      let many = t.speaks.many in
      let few = of_few place (drop (length t.speaks.said) t.adds.added) in
      let long = length-drop (length t.speaks.said) t.adds.added in
      omega (arith, many, few, long);
  many =
      let own_many = own.many in
      let records = ap (λ (l : List Record). length l) (t.adds.each place v w there here).is ∙ length-append v.history.records (of_place place t.adds.added) in
      let parts = both in
      omega (arith, own_many, records, parts);
  lines = λ k line e.
      let number : length v.history.records + (0 + k) ≡ length v.history.records + k = omega arith in
      subst (λ (n : ℕ). IsLineAt w.history n line) number (own.each k line e);
}
  where
    free : (p : Phase) → p ≡ opened → owes_line p ≡ false
    free p e = ap owes_line e

    t : FleetTells a b
    t = fleets_tell a b (free a.phase opening.phase) steps

    number_at : (other : ℕ) (x : EngineView) → slice_get a.engines other ≡ Some x → IsAt (numbers runs) other x.history.seen.run
    number_at other x at = subst (λ (l : List ℕ). IsAt l other x.history.seen.run) (opened_for runs a.engines opening.many opening.of_runs) (at_place a.engines other x at)

    own : Own a b t.adds place v w there here [] (length t.speaks.said) (lines_of v.history.seen.run t.speaks.said)
    own = subst (λ (n : ℕ). Own a b t.adds place v w there here [] n (lines_of v.history.seen.run t.speaks.said)) (omega arith)
        (own_lines a b t.adds place v w there here
        (λ other x at same. are.once place other v.history.seen.run (number_at place v there) (subst (λ (n : ℕ). IsAt (numbers runs) other n) same (number_at other x at)))
        (λ other x at. are.small other x.history.seen.run (number_at other x at))
        [] t.speaks.said refl (λ k e at. subst (λ (n : ℕ). IsLineOf a b t.adds.added n e.1) (omega arith) (t.speaks.lines k e at)))

    both : length (of_place place t.adds.added) ≡ length (of_place place (take (length t.speaks.said) t.adds.added)) + length (of_place place (drop (length t.speaks.said) t.adds.added))
    both = ap (λ (l : List (ℕ × Record)). length (of_place place l)) (sym (take-append-drop (length t.speaks.said) t.adds.added))
        ∙ ap (λ (l : List Record). length l) (of_both place (take (length t.speaks.said) t.adds.added) (drop (length t.speaks.said) t.adds.added))
        ∙ length-append (of_place place (take (length t.speaks.said) t.adds.added)) (of_place place (drop (length t.speaks.said) t.adds.added))
