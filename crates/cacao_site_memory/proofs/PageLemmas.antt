-- What a byte that is put and a page that is added do to pages.
use Rattle.std.proofs.Common.{◌≡◌, ◌≢◌, ◌⊎◌, ℕ, zero, suc, ◌+◌, ◌-◌, ◌*◌, ◌%◌, ◌<◌, ◌≤◌, Bool, true, ◌==◌, ◌&&◌, List, [], ◌∷◌, ◌++◌, length, replicate, slice_set, get_or, refl, sym, ◌∙◌, ap, arith, inl, inr, append_assoc}
use Rattle.std.proofs.lemmas.Bool.{and_parts, cases_eq, cases_lt, eqb-true}
use Rattle.std.proofs.lemmas.List.{get_or-set_same, get_or-set_other, get_or_append_left, get_or-append_right, get_or-replicate, get_or_past, length-replicate, replicate-append-replicate}
use Rattle.cacao_site_memory.specs.Pages.{slot_of, byte_in, ArePages}

-- a byte is put into the page of a place
module _ (table pages : List ℕ) (count file place page byte : ℕ) (p : ArePages table pages count) (at : page ≡ get_or table (slot_of file place) 0) (some : 0 < page) where
  index : ℕ
  index = page * 4096 + place % 4096

  in_page : page < count
  in_page = omega (arith, p.below (slot_of file place))

  pub index-in : page * 4096 + place % 4096 < length pages
  index-in = omega (arith, in_page, p.sized)

  pub byte-put : byte_in table (slice_set pages (page * 4096 + place % 4096) byte) file place ≡ byte
  unfolding byte_in
  byte-put =
      ap (λ n. get_or (slice_set pages (page * 4096 + place % 4096) byte) (n * 4096 + place % 4096) 0) (sym at)
      ∙ get_or-set_same pages (page * 4096 + place % 4096) byte 0 index-in

  apart_from : (other k : ℕ) → file ≤ 31 → other ≤ 31 → (other ≢ file) ⊎ (k ≢ place) → get_or table (slot_of other k) 0 * 4096 + k % 4096 ≡ page * 4096 + place % 4096 → ⊥
  apart_from other k low low' ne e =
      let same : page ≡ get_or table (slot_of other k) 0 = omega (arith, e) in
      let slots : slot_of file place ≡ slot_of other k = p.apart (slot_of file place) (slot_of other k) (omega (arith, at, some)) (sym at ∙ same) in
      elim ne [
        | inl other_file ↦ other_file (omega (arith, slots))
        | inr other_place ↦
            let files : other ≡ file = omega (arith, slots) in
            other_place (omega (arith, slots, files, e, same))
      ]

  pub byte-put_other : (other k : ℕ) → file ≤ 31 → other ≤ 31 → (other ≢ file) ⊎ (k ≢ place) → byte_in table (slice_set pages (page * 4096 + place % 4096) byte) other k ≡ byte_in table pages other k
  unfolding byte_in
  byte-put_other other k low low' ne = get_or-set_other pages (page * 4096 + place % 4096) (get_or table (slot_of other k) 0 * 4096 + k % 4096) byte 0 (apart_from other k low low' ne)

-- a block gets a page of zeros
module _ (table pages blank : List ℕ) (count slot : ℕ) (p : ArePages table pages count) (none : get_or table slot 0 ≡ 0) (has_slot : slot < length table) (sized : length blank ≡ 4096) (zeros : (k : ℕ) → get_or blank k 0 ≡ 0) where
  set_at : (s : ℕ) → ((s ≡ slot) × (get_or (slice_set table slot count) s 0 ≡ count)) ⊎ ((s ≢ slot) × (get_or (slice_set table slot count) s 0 ≡ get_or table s 0))
  set_at s = elim (cases_eq s slot) [
    | inl here ↦ inl (here, ap (λ n. get_or (slice_set table slot count) n 0) here ∙ get_or-set_same table slot count 0 has_slot)
    | inr ne ↦ inr (ne, get_or-set_other table slot s count 0 ne)
  ]

  grown_at : (n rest : ℕ) → n < count → rest < 4096 → get_or (pages ++ blank) (n * 4096 + rest) 0 ≡ get_or pages (n * 4096 + rest) 0
  grown_at n rest lt low = get_or_append_left pages blank 0 (n * 4096 + rest) (omega (arith, p.sized))

  grown_new : (rest : ℕ) → get_or (pages ++ blank) (count * 4096 + rest) 0 ≡ 0
  grown_new rest = get_or-append_right pages blank (length pages) (count * 4096 + rest) 0 refl (omega (arith, p.sized)) ∙ zeros (count * 4096 + rest - length pages)

  pub byte-grown : (file place : ℕ) → byte_in (slice_set table slot count) (pages ++ blank) file place ≡ byte_in table pages file place
  unfolding byte_in
  byte-grown file place = elim (set_at (slot_of file place)) [
    | inl here ↦
        let is_none : get_or table (slot_of file place) 0 ≡ 0 = ap (λ s. get_or table s 0) here.0 ∙ none in
        let same : place % 4096 ≡ get_or table (slot_of file place) 0 * 4096 + place % 4096 = omega (arith, is_none) in
        ap (λ n. get_or (pages ++ blank) (n * 4096 + place % 4096) 0) here.1
        ∙ grown_new (place % 4096)
        ∙ sym (p.blank (place % 4096) (omega arith))
        ∙ ap (λ n. get_or pages n 0) same
    | inr there ↦
        ap (λ n. get_or (pages ++ blank) (n * 4096 + place % 4096) 0) there.1
        ∙ grown_at (get_or table (slot_of file place) 0) (place % 4096) (p.below (slot_of file place)) (omega arith)
  ]

-- a list of zeros has a zero at each place
pub zero_at : (n k : ℕ) → ◌≡◌ {A = ℕ} (get_or (replicate n 0) k 0) 0
zero_at n k = elim (cases_lt k n) [ inl below ↦ get_or-replicate n k 0 0 below | inr past ↦ get_or_past (replicate n 0) k 0 (omega (arith, length-replicate {A = ℕ})) ]

-- one zero more
pub zeros-push : (old : List ℕ) (n : ℕ) → (old ++ replicate n 0) ++ 0 ∷ [] ≡ old ++ replicate (n + 1) 0
zeros-push old n = append_assoc old (replicate n 0) (0 ∷ []) ∙ ap (λ (l : List ℕ). old ++ l) (replicate-append-replicate n 1 0)

abbrev pub is_zeros : List ℕ → Bool
is_zeros [] = true
is_zeros (x ∷ xs) = (x == 0) && is_zeros xs

-- the same of a list that is written out
pub zero_in : (xs : List ℕ) (k : ℕ) → is_zeros xs ≡ true → get_or xs k 0 ≡ 0
zero_in [] k h = refl
zero_in (x ∷ xs) zero h = eqb-true x 0 (and_parts (x == 0) (is_zeros xs) h).0
zero_in (x ∷ xs) (suc k) h = zero_in xs k (and_parts (x == 0) (is_zeros xs) h).1

-- one page of zeros, and no block has a page
pub pages-blank : (table pages : List ℕ) → ((s : ℕ) → get_or table s 0 ≡ 0) → pages ≡ replicate 4096 0 → ArePages table pages 1
pages-blank table pages none e = record {
  sized = ap length e ∙ length-replicate {A = ℕ} 4096 0;
  filled = omega arith;
  below = λ slot. omega (arith, none slot);
  apart = λ slot other some same. absurd (omega (arith, none slot, some));
  blank = λ k low. ap (λ (l : List ℕ). get_or l k 0) e ∙ zero_at 4096 k;
}

-- no page but that of zeros
pub byte-blank : (table pages : List ℕ) → ((s : ℕ) → get_or table s 0 ≡ 0) → ((k : ℕ) → get_or pages k 0 ≡ 0) → (file place : ℕ) → byte_in table pages file place ≡ 0
unfolding byte_in
byte-blank table pages none zeros file place = zeros _
