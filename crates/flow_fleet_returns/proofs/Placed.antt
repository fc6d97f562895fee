-- Records with the places of their runs.
use Rattle.std.proofs.Common.{◌≡◌, ◌≢◌, ℕ, zero, suc, ◌+◌, ◌<◌, ◌==◌, Bool, true, false, List, [], ◌∷◌, ◌++◌, length, refl, sym, ◌∙◌, subst, ap, arith}
use Rattle.std.specs.Prelude.{Some, slice_get, if◌then◌else◌}
use Rattle.std.specs.List.{AllByRecursion}
use Rattle.std.proofs.lemmas.Bool.{eqb-true}
use Rattle.run_records.specs.declared.record.Record.{Record}
use Rattle.flow_engine.specs.EngineView.{EngineView}
use Rattle.flow_world_steps.specs.Sums.{total}
use Rattle.flow_fleet_sums.specs.Sums.{of_place, records_of}

pub total_append : {T : Type 0} (f : T → ℕ) (xs ys : List T) → total f (xs ++ ys) ≡ total f xs + total f ys
total_append {T} f [] ys = omega arith
total_append {T} f (x ∷ xs) ys = let rest = total_append f xs ys in omega (arith, rest)

-- of all places
abbrev pub of_all : (Record → ℕ) → List (ℕ × Record) → ℕ
of_all f added = total (λ (e : ℕ × Record). f e.1) added

abbrev pub of_engines : (Record → ℕ) → List EngineView → ℕ
of_engines f engines = total (λ (v : EngineView). total f v.history.records) engines

-- those of other places
abbrev pub without : ℕ → List (ℕ × Record) → List (ℕ × Record)
without place [] = []
without place (e ∷ added) = if e.0 == place then without place added else e ∷ without place added

-- those of none of so many places, from this one on
abbrev pub rest_of : ℕ → ℕ → List (ℕ × Record) → List (ℕ × Record)
rest_of zero place added = added
rest_of (suc n) place added = rest_of n (place + 1) (without place added)

parted : (f : Record → ℕ) (place : ℕ) (added : List (ℕ × Record)) → total f (of_place place added) + of_all f (without place added) ≡ of_all f added
parted f place [] = refl
parted f place (e ∷ added) = by (e.0 == place) (parted f place added)
  where
    by : (b : Bool) → total f (of_place place added) + of_all f (without place added) ≡ of_all f added
        → total f (if b then e.1 ∷ of_place place added else of_place place added) + of_all f (if b then without place added else e ∷ without place added) ≡ of_all f (e ∷ added)
    by true rest = omega (arith, rest)
    by false rest = omega (arith, rest)

other_of : (place k : ℕ) (added : List (ℕ × Record)) → k ≢ place → of_place k (without place added) ≡ of_place k added
other_of place k [] ne = refl
other_of place k (e ∷ added) ne = by (e.0 == place) refl (e.0 == k) refl (other_of place k added ne)
  where
    by : (p : Bool) → (e.0 == place) ≡ p → (q : Bool) → (e.0 == k) ≡ q → of_place k (without place added) ≡ of_place k added
        → of_place k (if p then without place added else e ∷ without place added) ≡ (if q then e.1 ∷ of_place k added else of_place k added)
    by true ep true eq rest = absurd (ne (sym (eqb-true e.0 k eq) ∙ eqb-true e.0 place ep))
    by true ep false eq rest = rest
    by false ep true eq rest = ap (λ (b : Bool). if b then e.1 ∷ of_place k (without place added) else of_place k (without place added)) eq ∙ ap (λ (l : List Record). e.1 ∷ l) rest
    by false ep false eq rest = ap (λ (b : Bool). if b then e.1 ∷ of_place k (without place added) else of_place k (without place added)) eq ∙ rest

-- engines by place, from this one on, each of which gained the records of its place
abbrev pub Gained : ℕ → List (ℕ × Record) → List EngineView → List EngineView → Type 0
Gained place added vs ws =
    (j : ℕ) (v w : EngineView) → slice_get vs j ≡ Some v → slice_get ws j ≡ Some w → w.history.records ≡ v.history.records ++ of_place (place + j) added

-- they gained all but what is of none of their places
pub gained : (f : Record → ℕ) (place : ℕ) (added : List (ℕ × Record)) (vs ws : List EngineView) → length ws ≡ length vs → Gained place added vs ws
    → of_engines f ws + of_all f (rest_of (length vs) place added) ≡ of_engines f vs + of_all f added
gained f place added [] [] many is = omega arith
gained f place added [] (w ∷ ws) many is = absurd (omega (arith, many))
gained f place added (v ∷ vs) [] many is = absurd (omega (arith, many))
gained f place added (v ∷ vs) (w ∷ ws) many is =
    let here : total f w.history.records ≡ total f v.history.records + total f (of_place (place + 0) added) =
    ap (λ (l : List Record). total f l) (is 0 v w refl refl) ∙ total_append f v.history.records (of_place (place + 0) added) in
    let at : total f (of_place (place + 0) added) ≡ total f (of_place place added) = ap (λ (n : ℕ). total f (of_place n added)) (omega arith) in
    let both = parted f place added in
    let rest = gained f (place + 1) (without place added) vs ws (omega (arith, many)) (λ j x y there now.
    is (suc j) x y there now
    ∙ ap (λ (l : List Record). x.history.records ++ l) (ap (λ (n : ℕ). of_place n added) (omega arith) ∙ sym (other_of place (place + 1 + j) added (λ e. absurd (omega (arith, e)))))) in
    omega (arith, here, at, both, rest)

-- ---- each is of one of the places

one_each : (added : List (ℕ × Record)) → of_all (λ (r : Record). 1) added ≡ length added
one_each [] = refl
one_each (e ∷ added) = let rest = one_each added in omega (arith, rest)

one_record : (records : List Record) → total (λ (r : Record). 1) records ≡ length records
one_record [] = refl
one_record (r ∷ records) = let rest = one_record records in omega (arith, rest)

one_engine : (engines : List EngineView) → of_engines (λ (r : Record). 1) engines ≡ total records_of engines
one_engine [] = refl
one_engine (v ∷ engines) = let here = one_record v.history.records in let rest = one_engine engines in omega (arith, here, rest)

abbrev Below : ℕ → List (ℕ × Record) → Type 0
Below n added = AllByRecursion (λ (e : ℕ × Record). e.0 < n) added

with_place : (n place : ℕ) (added : List (ℕ × Record)) → place < n → Below n (without place added) → Below n added
with_place n place [] lt all = tt
with_place n place (e ∷ added) lt all = by (e.0 == place) refl all (with_place n place added lt)
  where
    by : (b : Bool) → (e.0 == place) ≡ b → Below n (if b then without place added else e ∷ without place added) → (Below n (without place added) → Below n added) → Below n (e ∷ added)
    by true eq all rest = (let same = eqb-true e.0 place eq in omega (arith, same, lt), rest all)
    by false eq all rest = (all.0, rest all.1)

none_left : (n place : ℕ) (added : List (ℕ × Record)) → length (rest_of n place added) ≡ 0 → Below (place + n) added
none_left zero place [] none = tt
none_left zero place (e ∷ added) none = absurd (omega (arith, none))
none_left (suc n) place added none =
    with_place (place + suc n) place added (omega arith) (subst (λ (m : ℕ). Below m (without place added)) (omega arith) (none_left n (place + 1) (without place added) none))

-- where they gained as many as there are
pub all_placed : (added : List (ℕ × Record)) (vs ws : List EngineView) (n : ℕ) → length vs ≡ n → length ws ≡ length vs → Gained 0 added vs ws → total records_of ws ≡ total records_of vs + length added
    → AllByRecursion (λ (e : ℕ × Record). e.0 < n) added
all_placed added vs ws n long many is all =
    let sum = gained (λ (r : Record). 1) 0 added vs ws many is in
    let a = one_each added in
    let b = one_each (rest_of (length vs) 0 added) in
    let c = one_engine vs in
    let d = one_engine ws in
    subst (λ (m : ℕ). AllByRecursion (λ (e : ℕ × Record). e.0 < m) added) (omega (arith, long)) (none_left (length vs) 0 added (omega (arith, sum, a, b, c, d, all)))
