-- Lists of bytes that lie one behind another.
use Rattle.std.proofs.Common.{◌≡◌, ℕ, zero, suc, ◌+◌, ◌-◌, ◌*◌, ◌≤◌, ◌<◌, List, [], ◌∷◌, ◌++◌, length, take, drop, get_or, refl, sym, ◌∙◌, ap, arith, append_assoc, length-append, length-take, length-drop}
use Rattle.std.proofs.lemmas.List.{append-nil, take_all, take-append-le, drop-append-le, drop_at}
use Rattle.run_journal.specs.Packed.{parts, AreEnds}
use Rattle.run_journal.specs.PackedView.{total}
use Rattle.run_journal.specs.Layout.{entries, front, length_field, most_entry}
use Rattle.run_journal.specs.Taking.{Joins}
use Rattle.run_journal.proofs.EntryLemmas.{entries_none, entries_more}
use Rattle.run_journal.proofs.TakeLemmas.{front-append}

pub length-parts : (from : ℕ) (ends bytes : List ℕ) → length (parts from ends bytes) ≡ length ends
length-parts from [] bytes = refl
length-parts from (end ∷ ends) bytes = ap suc (length-parts end ends bytes)

-- the list with a number
pub part_at : (n from : ℕ) (ends bytes : List ℕ) → n < length ends → get_or (parts from ends bytes) n [] ≡ take (get_or ends n 0 - get_or (from ∷ ends) n 0) (drop (get_or (from ∷ ends) n 0) bytes)
part_at n from [] bytes lt = absurd (omega (arith, lt))
part_at zero from (end ∷ ends) bytes lt = refl
part_at (suc n) from (end ∷ ends) bytes lt = part_at n end ends bytes (omega (arith, lt))

ends_low : (from : ℕ) (ends : List ℕ) (size : ℕ) → AreEnds from ends size → from ≤ size
ends_low from [] size are = omega (arith, are)
ends_low from (end ∷ ends) size are = omega (arith, are.0, ends_low end ends size are.1)

-- where it begins and ends
pub part_within : (n from : ℕ) (ends : List ℕ) (size : ℕ) → AreEnds from ends size → n < length ends → (get_or (from ∷ ends) n 0 ≤ get_or ends n 0) × (get_or ends n 0 ≤ size)
part_within n from [] size are lt = absurd (omega (arith, lt))
part_within zero from (end ∷ ends) size are lt = (are.0, ends_low end ends size are.1)
part_within (suc n) from (end ∷ ends) size are lt = part_within n end ends size are.1 (omega (arith, lt))

length-part : (from end : ℕ) (bytes : List ℕ) → from ≤ end → end ≤ length bytes → length (take (end - from) (drop from bytes)) ≡ end - from
length-part from end bytes low high = omega (arith, low, high, length-take (end - from) (drop from bytes), length-drop from bytes)

-- how many bytes the first ones have
pub size_is : (n from : ℕ) (ends bytes : List ℕ) → AreEnds from ends (length bytes) → n ≤ length ends → from + total (take n (parts from ends bytes)) ≡ get_or (from ∷ ends) n 0
size_is zero from ends bytes are le = omega arith
size_is (suc n) from [] bytes are le = absurd (omega (arith, le))
size_is (suc n) from (end ∷ ends) bytes are le =
    let rest : ℕ = total (take n (parts end ends bytes)) in
    let so_far : end + rest ≡ get_or (end ∷ ends) n 0 = size_is n end ends bytes are.1 (omega (arith, le)) in
    omega (arith, so_far, are.0, length-part from end bytes are.0 (ends_low end ends (length bytes) are.1))

-- all bytes are of the lists
pub size_of_all : (from : ℕ) (ends bytes : List ℕ) → AreEnds from ends (length bytes) → from + total (parts from ends bytes) ≡ length bytes
size_of_all from [] bytes are = omega (arith, are)
size_of_all from (end ∷ ends) bytes are =
    omega (arith, size_of_all end ends bytes are.1, are.0, length-part from end bytes are.0 (ends_low end ends (length bytes) are.1))

-- a number that stands in a list is read whatever stands for one that does not
same_default : (xs : List ℕ) (i a b : ℕ) → i < length xs → get_or xs i a ≡ get_or xs i b
same_default [] i a b lt = absurd (omega (arith, lt))
same_default (x ∷ xs) zero a b lt = refl
same_default (x ∷ xs) (suc i) a b lt = same_default xs i a b (omega (arith, lt))

-- the list before a list ends where it begins
end_before : (n : ℕ) (ends : List ℕ) → 0 < n → get_or (0 ∷ ends) n 0 ≡ get_or ends (n - 1) 0
end_before zero ends lt = absurd (omega (arith, lt))
end_before (suc n) ends lt =
    let same : n ≡ suc n - 1 = omega arith in
    ap (λ k. get_or ends k 0) same

-- what is read of the ends
module _ (ends bytes : List ℕ) (items : List (List ℕ)) (is : parts 0 ends bytes ≡ items) (are : AreEnds 0 ends (length bytes)) where
  pub count_is : length items ≡ length ends
  count_is = ap length (sym is) ∙ length-parts 0 ends bytes

  pub start_is : (n start : ℕ) → n ≤ length items → start ≡ total (take n items) → start ≡ get_or (0 ∷ ends) n 0
  start_is n start le size =
      omega (arith, size, ap (λ (l : List (List ℕ)). total (take n l)) is, size_is n 0 ends bytes are (omega (arith, le, count_is)))

  pub size_before : (n end : ℕ) → n ≤ length items → 0 < n → end ≡ get_or ends (n - 1) end → end ≡ total (take n items)
  size_before n end le lt read =
      let count : length items ≡ length ends = count_is in
      omega (arith, read, same_default ends (n - 1) end 0 (omega (arith, le, lt, count)), end_before n ends lt, ap (λ (l : List (List ℕ)). total (take n l)) is, size_is n 0 ends bytes are (omega (arith, le, count)))

  pub list_within : (n start end : ℕ) → n < length items → start ≡ total (take n items) → end ≡ get_or ends n end → (start ≤ end) × (end ≤ length bytes)
  list_within n start end lt size read =
      let count : length items ≡ length ends = count_is in
      let within = part_within n 0 ends (length bytes) are (omega (arith, lt, count)) in
      let first : start ≡ get_or (0 ∷ ends) n 0 = start_is n start (omega (arith, lt)) size in
      let last : end ≡ get_or ends n 0 = read ∙ same_default ends n end 0 (omega (arith, lt, count)) in
      (omega (arith, within.0, first, last), omega (arith, within.1, last))

  pub list_is : (n start end : ℕ) → n < length items → start ≡ total (take n items) → end ≡ get_or ends n end → take (end - start) (drop start bytes) ≡ get_or items n []
  list_is n start end lt size read =
      let count : length items ≡ length ends = count_is in
      let first : start ≡ get_or (0 ∷ ends) n 0 = start_is n start (omega (arith, lt)) size in
      let last : end ≡ get_or ends n 0 = read ∙ same_default ends n end 0 (omega (arith, lt, count)) in
      (λ i. take (last i - first i) (drop (first i) bytes))
      ∙ sym (part_at n 0 ends bytes (omega (arith, lt, count)))
      ∙ ap (λ (l : List (List ℕ)). get_or l n []) is

-- one list more
pub ends_push : (from : ℕ) (ends : List ℕ) (size end : ℕ) → AreEnds from ends size → size ≤ end → AreEnds from (ends ++ end ∷ []) end
ends_push from [] size end are le = (omega (arith, are, le), refl)
ends_push from (e ∷ ends) size end are le = (are.0, ends_push e ends size end are.1 le)

pub parts_push : (from : ℕ) (ends bytes item : List ℕ) (end : ℕ) → AreEnds from ends (length bytes) → end ≡ length bytes + length item → parts from (ends ++ end ∷ []) (bytes ++ item) ≡ parts from ends bytes ++ item ∷ []
parts_push from [] bytes item end are is =
    let behind : drop from (bytes ++ item) ≡ item = drop_at bytes item from (sym are) in
    let whole : take (end - from) (drop from (bytes ++ item)) ≡ item = ap (take (end - from)) behind ∙ take_all (end - from) item (omega (arith, are, is)) in
    ap (λ (l : List ℕ). l ∷ []) whole
parts_push from (e ∷ ends) bytes item end are is =
    let high : e ≤ length bytes = ends_low e ends (length bytes) are.1 in
    let behind : drop from (bytes ++ item) ≡ drop from bytes ++ item = drop-append-le from bytes item (omega (arith, are.0, high)) in
    let part : take (e - from) (drop from (bytes ++ item)) ≡ take (e - from) (drop from bytes) =
    ap (take (e - from)) behind ∙ take-append-le (e - from) (drop from bytes) item (omega (arith, are.0, high, length-drop from bytes)) in
    λ i. part i ∷ parts_push e ends bytes item end are.1 is i

-- ---- entries

-- the header, and of each entry the gate, the length and the bytes
pub length-front-all : (items : List (List ℕ)) → length (front items) ≡ 8 + 5 * length items + total items
unfolding front entries
length-front-all [] = refl
length-front-all (x ∷ items) =
    omega (arith, length-front-all items, length-append (1 ∷ (length_field (length x) ++ x)) (entries items))

pub joins_none : (bytes : List ℕ) (items : List (List ℕ)) → Joins bytes items items bytes
joins_none bytes items = record { more = []; has = entries_none bytes; is = sym (append-nil items) }

-- one entry more
pub joins_more : {bytes rest : List ℕ} {old new : List (List ℕ)} (item after : List ℕ) (newer : List (List ℕ)) → Joins bytes old new rest → length item ≤ most_entry
    → rest ≡ 1 ∷ length_field (length item) ++ item ++ after → newer ≡ new ++ item ∷ [] → Joins bytes old newer after
joins_more {bytes} {rest} {old} {new} item after newer was short is one = record {
  more = was.more ++ item ∷ [];
  has = entries_more bytes was.more rest item after was.has short is;
  is = one ∙ ap (λ (l : List (List ℕ)). l ++ item ∷ []) was.is ∙ append_assoc old was.more (item ∷ []);
}

-- entries and what stands behind them have as many bytes as before
pub joins_size : {bytes rest : List ℕ} {old new : List (List ℕ)} → Joins bytes old new rest → length (front new) + length rest ≡ length (front old) + length bytes
joins_size {bytes} {rest} {old} {new} was =
    omega (arith, ap (λ (l : List (List ℕ)). length (front l)) was.is, ap length (front-append old was.more), length-append (front old) (entries was.more), ap length was.has.is, length-append (entries was.more) rest)

-- an entry at the front of the rest is short enough to be packed
pub next_fits : (items : List (List ℕ)) (rest item after : List ℕ) → length (front items) + length rest ≤ 67108864 → rest ≡ 1 ∷ length_field (length item) ++ item ++ after → total items + length item < 4294967296
next_fits items rest item after fits is = omega (arith, fits, length-front-all items, ap length is, length-append (1 ∷ (length_field (length item) ++ item)) after)
