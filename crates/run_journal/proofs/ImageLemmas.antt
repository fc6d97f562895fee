-- The places of gates.
use Rattle.std.proofs.Common.{◌≡◌, ◌⊎◌, ℕ, ◌+◌, ◌-◌, ◌≤◌, ◌<◌, List, [], ◌∷◌, ◌++◌, length, take, get_or, Some, refl, sym, ap, subst, ◌∙◌, arith, inl, inr, length-append}
use Rattle.std.proofs.lemmas.Bool.{cases_lt}
use Rattle.std.proofs.lemmas.List.{map-append, length-map, take-append-le, get_or_append_left, take_all}
use Rattle.std.proofs.Math.Seq.{get_or-append_seam}
use Rattle.std.proofs.lemmas.Option.{slice_get_within, get_or_from_slice_get, slice_get-get_or}
use Rattle.std.specs.List.{slice_get}
use Rattle.run_journal.specs.declared.entries.Entry.{Entry}
use Rattle.run_journal.specs.Image.{bytes_of, ArePlaced}
use Rattle.run_journal.specs.declared.error.ImageError.{ImageError}
use Rattle.run_journal.specs.declared.error.ImageError.TheVariants as refused
use Rattle.run_journal.specs.Layout.{header, entries, front, Entries, IsDamagedAt, most_entry, length_field}
use Rattle.run_journal.proofs.EntryLemmas.{entries_more}
use Rattle.run_journal.proofs.PlaceLaws.{one_place}

pub length-front : (items : List (List ℕ)) → length (front items) ≡ 8 + length (entries items)
unfolding front
length-front items = length-append header (entries items)

-- the place right behind the entries that were read
pub place_is : {bytes : List ℕ} {items : List (List ℕ)} {rest : List ℕ} → Entries bytes items rest → 8 + length bytes - length rest ≡ length (front items)
place_is {bytes} {items} {rest} has = omega (arith, ap length has.is, length-append (entries items) rest, length-front items)

pub placed_none : ArePlaced []
placed_none n entry is = absurd (omega (arith, slice_get_within {A = Entry} [] n entry is))

-- one entry more
pub placed_more : (list : List Entry) (entry : Entry) → ArePlaced list → entry.place ≡ length (front (bytes_of list)) → ArePlaced (list ++ entry ∷ [])
placed_more list entry placed at n other is =
    let bytes : bytes_of (list ++ entry ∷ []) ≡ bytes_of list ++ entry.bytes ∷ [] = map-append (λ (e : Entry). e.bytes) list (entry ∷ []) in
    let long : length (bytes_of list) ≡ length list = length-map list (λ (e : Entry). e.bytes) in
    let within : n < length (list ++ entry ∷ []) = slice_get_within (list ++ entry ∷ []) n other is in
    let here : get_or (list ++ entry ∷ []) n other ≡ other = get_or_from_slice_get (list ++ entry ∷ []) n other other is in
    let low : n ≤ length (bytes_of list) = omega (arith, within, long, length-append list (entry ∷ [])) in
    let fronts : take n (bytes_of (list ++ entry ∷ [])) ≡ take n (bytes_of list) = ap (take n) bytes ∙ take-append-le n (bytes_of list) (entry.bytes ∷ []) low in
    elim (cases_lt n (length list)) [
      | inl before ↦
          let was : slice_get list n ≡ Some other = slice_get-get_or list n other before ∙ ap (λ (e : Entry). Some e) (sym (get_or_append_left list (entry ∷ []) other n before) ∙ here) in
          placed n other was ∙ ap (λ (l : List (List ℕ)). length (front l)) (sym fronts)
      | inr behind ↦
          let last : n ≡ length list = omega (arith, behind, low, long) in
          let same : entry ≡ other = sym (get_or-append_seam list entry [] other) ∙ ap (λ k. get_or (list ++ entry ∷ []) k other) (sym last) ∙ here in
          ap (λ (e : Entry). e.place) (sym same) ∙ at ∙ ap (λ (l : List (List ℕ)). length (front l)) (sym (fronts ∙ take_all n (bytes_of list) (omega (arith, last, long))))
    ]

-- what is read goes on by one entry
pub read_more : (bytes : List ℕ) (list : List Entry) (rest item after : List ℕ) (entry : Entry) → Entries bytes (bytes_of list) rest → length item ≤ most_entry
    → rest ≡ 1 ∷ length_field (length item) ++ item ++ after → entry.bytes ≡ item → Entries bytes (bytes_of (list ++ entry ∷ [])) after
read_more bytes list rest item after entry so_far short is same =
    subst (λ (l : List (List ℕ)). Entries bytes l after) (ap (λ (i : List ℕ). bytes_of list ++ i ∷ []) (sym same) ∙ sym (map-append (λ (e : Entry). e.bytes) list (entry ∷ [])))
    (entries_more bytes (bytes_of list) rest item after so_far short is)

-- an image that is damaged at a place is refused there, or for want of memory
pub refused_there : (image : List ℕ) (place : ℕ) (error : ImageError) → ((at : ℕ) → error ≡ refused.Damaged at → IsDamagedAt image at) → IsDamagedAt image place
    → (error ≡ refused.Damaged place) ⊎ (error ≡ refused.Memory)
refused_there image place (refused.Damaged at) sound damaged = inl (ap (λ n. refused.Damaged n) (one_place image at place (sound at refl) damaged))
refused_there image place refused.Memory sound damaged = inr refl
