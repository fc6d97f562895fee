-- Parcels named by their places, where the puts gain one, where those held back are released, and where the first is taken.
use Rattle.std.proofs.Common.{◌≡◌, ℕ, suc, zero, ◌+◌, ◌-◌, ◌<◌, ◌≤◌, Bool, true, false, cond, List, [], ◌∷◌, ◌++◌, length, map, replicate, get_or, refl, sym, ◌∙◌, ap, subst, arith, length-append}
use Rattle.std.specs.List.{All, filter}
use Rattle.std.proofs.lemmas.List.{map-append, get_or-append_right}
use Rattle.std.proofs.lemmas.List.Elements.{All-append, All-filter, All-map, All-push, All-replicate}
use Rattle.std.proofs.Math.ListN.{get_or-append}
use Rattle.cacao_site_memory.specs.Parcels.{AreNamed, IsAfterPut, all_marked_at, is_due, is_later, marked_at, no_put, parcel_at, parcels_at}
use Rattle.cacao_site_memory.specs.Weather.{marks}
use Rattle.cacao_site.specs.declared.parcel.Parcel.{Parcel}
use Rattle.cacao_site_memory.specs.declared.plan.Weather.{Weather}
use Rattle.cacao_site_memory.specs.declared.plan.Weather.TheVariants.{Deliver, Lose, Twice, Hold}

all_to : {T : Type 0} (P Q : T → Type 0) (xs : List T) → ((x : T) → P x → Q x) → All P xs → All Q xs
all_to P Q xs f h = λ k d lt. f (get_or xs k d) (h k d lt)

map_same : {S T : Type 0} (f g : S → T) (xs : List S) → All (λ x. f x ≡ g x) xs → map f xs ≡ map g xs
map_same f g [] h = refl
map_same f g (x ∷ xs) h = λ i. h 0 x (omega arith) i ∷ map_same f g xs (λ k d lt. h (suc k) d (omega arith)) i

map_replicate : {S T : Type 0} (f : S → T) (n : ℕ) (x : S) (y : T) → f x ≡ y → map f (replicate n x) ≡ replicate n y
map_replicate f zero x y e = refl
map_replicate f (suc n) x y e = λ i. e i ∷ map_replicate f n x y e i

-- one put more
module _ (puts : List (ℕ × Parcel)) (entry : ℕ × Parcel) where
  more : List (ℕ × Parcel)
  more = puts ++ entry ∷ []

  longer : length more ≡ length puts + 1
  unfolding more
  longer = omega (arith, length-append puts (entry ∷ []))

  put_stays : (place : ℕ) → place < length puts → get_or more place no_put ≡ get_or puts place no_put
  unfolding more
  put_stays place lt = get_or-append puts (entry ∷ []) no_put place lt

  put_added : get_or more (length puts) no_put ≡ entry
  unfolding more
  put_added =
      let first : length puts - length puts ≡ 0 = omega arith in
      get_or-append_right puts (entry ∷ []) (length puts) (length puts) no_put refl (omega arith) ∙ ap (λ m. get_or (entry ∷ []) m no_put) first

  parcels_stay : (places : List ℕ) → All (λ place. place < length puts) places → parcels_at more places ≡ parcels_at puts places
  parcels_stay places named = map_same (parcel_at more) (parcel_at puts) places (λ k d lt. ap (λ (e : ℕ × Parcel). e.1) (put_stays (get_or places k d) (named k d lt)))

  marked_stay : (entries : List (ℕ × ℕ)) → All (λ mark. mark.1 < length puts) entries → all_marked_at more entries ≡ all_marked_at puts entries
  marked_stay entries named = map_same (marked_at more) (marked_at puts) entries (λ k d lt. ap (λ (e : ℕ × Parcel). ((get_or entries k d).0, e.1)) (put_stays (get_or entries k d).1 (named k d lt)))

  marks_added : (weather : Weather) → map (marked_at more) (marks weather (length puts)) ≡ marks weather entry.1
  marks_added Deliver = refl
  marks_added Lose = refl
  marks_added Twice = refl
  marks_added (Hold until) = ap (λ (e : ℕ × Parcel). (until, e.1) ∷ []) put_added

  marks_named : (weather : Weather) → All (λ (mark : ℕ × ℕ). mark.1 < length more) (marks weather (length puts))
  marks_named Deliver = λ k d lt. absurd (omega arith)
  marks_named Lose = λ k d lt. absurd (omega arith)
  marks_named Twice = λ k d lt. absurd (omega arith)
  marks_named (Hold until) = All-replicate (λ (mark : ℕ × ℕ). mark.1 < length more) 1 (until, length puts) (omega (arith, longer))

  after_put : (mark : ℕ × ℕ) → IsAfterPut puts mark → IsAfterPut more mark
  after_put mark h = (omega (arith, longer, h.0), subst (λ (e : ℕ × Parcel). e.0 ≤ mark.0) (sym (put_stays mark.1 h.0)) h.1)

  module _ (pending : List ℕ) (held taken : List (ℕ × ℕ)) (weather : Weather) (n : ℕ) (named : AreNamed puts pending held taken) where
    pub put-pending : parcels_at (puts ++ entry ∷ []) (pending ++ replicate n (length puts)) ≡ parcels_at puts pending ++ replicate n entry.1
    unfolding more
    put-pending =
        map-append (parcel_at more) pending (replicate n (length puts))
        ∙ (λ i. parcels_stay pending named.pending_put i ++ map_replicate (parcel_at more) n (length puts) entry.1 (ap (λ (e : ℕ × Parcel). e.1) put_added) i)

    pub put-held : all_marked_at (puts ++ entry ∷ []) (held ++ marks weather (length puts)) ≡ all_marked_at puts held ++ marks weather entry.1
    unfolding more
    put-held = map-append (marked_at more) held (marks weather (length puts)) ∙ (λ i. marked_stay held named.held_put i ++ marks_added weather i)

    pub put-taken : all_marked_at (puts ++ entry ∷ []) taken ≡ all_marked_at puts taken
    unfolding more
    put-taken = marked_stay taken (all_to (IsAfterPut puts) (λ mark. mark.1 < length puts) taken (λ mark h. h.0) named.taken_put)

    pub put-named : AreNamed (puts ++ entry ∷ []) (pending ++ replicate n (length puts)) (held ++ marks weather (length puts)) taken
    unfolding more
    put-named = record {
      pending_put = All-append (λ place. place < length more) pending (replicate n (length puts))
          (all_to (λ place. place < length puts) (λ place. place < length more) pending (λ place lt. omega (arith, longer, lt)) named.pending_put)
          (All-replicate (λ place. place < length more) n (length puts) (omega (arith, longer)));
      held_put = All-append (λ (mark : ℕ × ℕ). mark.1 < length more) held (marks weather (length puts))
          (all_to (λ (mark : ℕ × ℕ). mark.1 < length puts) (λ (mark : ℕ × ℕ). mark.1 < length more) held (λ mark lt. omega (arith, longer, lt)) named.held_put)
          (marks_named weather);
      taken_put = all_to (IsAfterPut puts) (IsAfterPut more) taken after_put named.taken_put;
    }

-- those held back up to a moment are released
module _ (puts : List (ℕ × Parcel)) (now : ℕ) where
  one_due : (b : Bool) (mark : ℕ × ℕ) (F : List (ℕ × Parcel)) (G : List (ℕ × ℕ)) → map (λ (h : ℕ × Parcel). h.1) F ≡ parcels_at puts (map (λ (m : ℕ × ℕ). m.1) G)
      → map (λ (h : ℕ × Parcel). h.1) (cond b (marked_at puts mark ∷ F) F) ≡ parcels_at puts (map (λ (m : ℕ × ℕ). m.1) (cond b (mark ∷ G) G))
  one_due true mark F G e = λ i. parcel_at puts mark.1 ∷ e i
  one_due false mark F G e = e

  due_parcels : (held : List (ℕ × ℕ)) → map (λ (h : ℕ × Parcel). h.1) (filter (is_due now) (all_marked_at puts held)) ≡ parcels_at puts (map (λ (m : ℕ × ℕ). m.1) (filter (is_due now) held))
  due_parcels [] = refl
  due_parcels (mark ∷ held) = one_due (is_due now mark) mark _ _ (due_parcels held)

  one_later : (b : Bool) (mark : ℕ × ℕ) (F : List (ℕ × Parcel)) (G : List (ℕ × ℕ)) → F ≡ all_marked_at puts G → cond b (marked_at puts mark ∷ F) F ≡ all_marked_at puts (cond b (mark ∷ G) G)
  one_later true mark F G e = λ i. marked_at puts mark ∷ e i
  one_later false mark F G e = e

  pub release-held : (held : List (ℕ × ℕ)) → filter (is_later now) (all_marked_at puts held) ≡ all_marked_at puts (filter (is_later now) held)
  release-held [] = refl
  release-held (mark ∷ held) = one_later (is_later now mark) mark _ _ (release-held held)

  pub release-pending : (pending : List ℕ) (held : List (ℕ × ℕ)) → parcels_at puts (pending ++ map (λ (m : ℕ × ℕ). m.1) (filter (is_due now) held)) ≡ parcels_at puts pending ++ map (λ (h : ℕ × Parcel). h.1) (filter (is_due now) (all_marked_at puts held))
  release-pending pending held = map-append (parcel_at puts) pending (map (λ (m : ℕ × ℕ). m.1) (filter (is_due now) held)) ∙ (λ i. parcels_at puts pending ++ sym (due_parcels held) i)

  pub release-named : (pending : List ℕ) (held taken : List (ℕ × ℕ)) → AreNamed puts pending held taken → AreNamed puts (pending ++ map (λ (m : ℕ × ℕ). m.1) (filter (is_due now) held)) (filter (is_later now) held) taken
  release-named pending held taken named = record {
    pending_put = All-append (λ place. place < length puts) pending (map (λ (m : ℕ × ℕ). m.1) (filter (is_due now) held)) named.pending_put
        (All-map (λ place. place < length puts) (λ (m : ℕ × ℕ). m.1) (filter (is_due now) held) (All-filter (is_due now) (λ (mark : ℕ × ℕ). mark.1 < length puts) held named.held_put));
    held_put = All-filter (is_later now) (λ (mark : ℕ × ℕ). mark.1 < length puts) held named.held_put;
    taken_put = named.taken_put;
  }

-- the first is taken
module _ (puts : List (ℕ × Parcel)) (pending : List ℕ) (held taken : List (ℕ × ℕ)) (place beat : ℕ) where
  all_behind : (rest : List ℕ) → All (λ p. p < length puts) (place ∷ rest) → All (λ p. p < length puts) rest
  all_behind rest h = λ k d lt. h (suc k) d (omega arith)

  pub take-named : (rest : List ℕ) → pending ≡ place ∷ rest → place < length puts → (get_or puts place no_put).0 ≤ beat → AreNamed puts pending held taken → AreNamed puts rest held (taken ++ (beat, place) ∷ [])
  take-named rest e lt le named = record {
    pending_put = all_behind rest (subst (All (λ p. p < length puts)) e named.pending_put);
    held_put = named.held_put;
    taken_put = All-push (IsAfterPut puts) taken (beat, place) named.taken_put (lt, le);
  }
