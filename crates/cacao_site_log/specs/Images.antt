-- Promise: What the test of an image says, and what each call does to the set of images.
use Rattle.std.proofs.Common.{◌≡◌, ◌⊎◌, ◌&&◌, ◌||◌, ◌==◌, ◌-◌, ℕ, suc, zero, ◌+◌, ◌<◌, ◌≤◌, min, max, nat_le, nat_lt, Bool, true, false, IsTrue, if◌then◌else◌, List, [], ◌∷◌, ◌++◌, length, take, drop, replicate, slice_index_or, inl, inr, ⊎_elim, refl, sym, ◌∙◌, ap, subst, arith, get_or, length-append, length-drop}
use Rattle.std.proofs.lemmas.Bool.{and_parts, and_from, or_cases, leb-true, le-leb, lt-ltb, eqb-true, eq-eqb, cases_lt, cases_Bool, lt-leb, le-ltb, and_left, and_right, both_ways}
use Rattle.std.proofs.lemmas.List.{get_or-append_right, get_or-take, get_or-drop, get_or-replicate, get_or_past, length-replicate, length-take, ext_get_or}
use Rattle.std.proofs.Math.ListN.{get_or-append}
use Rattle.cacao_site.specs.DiskCalls.{Torn, Written}
use Rattle.cacao_site.proofs.Beats.{torn-refl}
use Rattle.cacao_site_log.specs.Replay.{Call, looked, wrote, tried, flushed, FileState, at_rest, touch, spliced, byte_after, after, after_all, file_after, is_touched, agrees, is_image}

-- the test of an image, in facts
pub record Image (file : FileState) (image : List ℕ) : Type 0 where
  pub no_shorter : length file.synced ≤ length image
  pub no_longer : length image ≤ file.longest
  pub agrees : (k : ℕ) → k < length file.synced → (is_touched file.touched k ≡ true) ⊎ (get_or image k 0 ≡ get_or file.synced k 0)

agrees-each : (touched : List (ℕ × ℕ)) (synced image : List ℕ) (n : ℕ) → agrees touched synced image n ≡ true → (k : ℕ) → k < n
    → (is_touched touched k ≡ true) ⊎ (get_or image k 0 ≡ get_or synced k 0)
agrees-each touched synced image zero e k lt = absurd (omega arith)
agrees-each touched synced image (suc n) e k lt =
    let parts = and_parts _ _ e in
    elim (cases_lt k n) [
      | inl below ↦ agrees-each touched synced image n parts.0 k below
      | inr here ↦
          let is : k ≡ n = omega arith in
          subst (λ m. (is_touched touched m ≡ true) ⊎ (get_or image m 0 ≡ get_or synced m 0)) (sym is)
          (⊎_elim inl (λ same. inr (eqb-true _ _ same)) (or_cases _ _ parts.1))
    ]

or_left : (a b : Bool) → a ≡ true → (a || b) ≡ true
or_left a b e = ap (λ x. x || b) e

or_right : (a b : Bool) → b ≡ true → (a || b) ≡ true
or_right true b e = refl
or_right false b e = e

agrees-from : (touched : List (ℕ × ℕ)) (synced image : List ℕ) (n : ℕ)
    → ((k : ℕ) → k < n → (is_touched touched k ≡ true) ⊎ (get_or image k 0 ≡ get_or synced k 0))
    → agrees touched synced image n ≡ true
agrees-from touched synced image zero h = refl
agrees-from touched synced image (suc n) h =
    and_from _ _ (agrees-from touched synced image n (λ k lt. h k (omega arith)))
    (⊎_elim (λ hit. or_left _ _ hit) (λ same. or_right _ _ (eq-eqb _ _ same)) (h n (omega arith)))

pub image-parts : (file : FileState) (image : List ℕ) → IsTrue (is_image file image) → Image file image
unfolding is_image
image-parts file image h =
    let all = and_parts _ _ h in
    let rest = and_parts _ _ all.1 in
    record {
      no_shorter = leb-true _ _ all.0;
      no_longer = leb-true _ _ rest.0;
      agrees = agrees-each file.touched file.synced image (length file.synced) rest.1;
    }

pub image-from : (file : FileState) (image : List ℕ) → Image file image → IsTrue (is_image file image)
unfolding is_image
image-from file image i =
    and_from _ _ (le-leb _ _ i.no_shorter)
    (and_from _ _ (le-leb _ _ i.no_longer) (agrees-from file.touched file.synced image (length file.synced) i.agrees))

not_touched : false ≡ true → ⊥
not_touched e = cc

-- at rest there is one image
pub rest-image : (bytes image : List ℕ) → IsTrue (is_image (at_rest bytes) image) → image ≡ bytes
rest-image bytes image h =
    let i = image-parts (at_rest bytes) image h in
    ext_get_or 0 image bytes (omega (arith, i.no_shorter, i.no_longer)) (λ k lt. elim (i.agrees k (omega (arith, i.no_longer))) [
      | inl hit ↦ absurd (not_touched hit)
      | inr same ↦ same
    ])

-- the list of f 0, f 1 and so on
build : (ℕ → ℕ) → ℕ → List ℕ
build f zero = []
build f (suc n) = build f n ++ f n ∷ []

length-build : (f : ℕ → ℕ) (n : ℕ) → length (build f n) ≡ n
unfolding build
length-build f zero = refl
length-build f (suc n) = omega (arith, length-append (build f n) (f n ∷ []), length-build f n)

get_or-build : (f : ℕ → ℕ) (n k : ℕ) → k < n → get_or (build f n) k 0 ≡ f k
unfolding build
get_or-build f zero k lt = absurd (omega arith)
get_or-build f (suc n) k lt = elim (cases_lt k n) [
  | inl below ↦ get_or-append (build f n) (f n ∷ []) 0 k (omega (arith, length-build f n)) ∙ get_or-build f n k below
  | inr here ↦
      let is : k ≡ n = omega arith in
      let first : k - n ≡ 0 = omega arith in
      get_or-append_right (build f n) (f n ∷ []) n k 0 (length-build f n) here ∙ ap (λ m. get_or (f n ∷ []) m 0) first
      ∙ ap f (sym is)
]

-- where a place lies to a range
pub where_is : (at size k : ℕ) → ((k < at) ⊎ (at + size ≤ k)) ⊎ ((at ≤ k) × (k < at + size))
where_is at size k = elim (cases_lt k at) [
  | inl before ↦ inl (inl before)
  | inr le ↦ elim (cases_lt k (at + size)) [ inl inside ↦ inr (le, inside) | inr behind ↦ inl (inr behind) ]
]

pub more_touched : (ranges : List (ℕ × ℕ)) (at size k : ℕ) → is_touched ranges k ≡ true
    → is_touched ((at, size) ∷ ranges) k ≡ true
more_touched ranges at size k hit = or_right _ _ hit

pub now_touched : (ranges : List (ℕ × ℕ)) (at size k : ℕ) → at ≤ k → k < at + size → is_touched ((at, size) ∷ ranges) k ≡ true
now_touched ranges at size k le lt = or_left _ _ (and_from _ _ (le-leb _ _ le) (lt-ltb _ _ lt))

-- an image after a write is one before it, torn
module _ (file : FileState) (room : length file.synced ≤ file.longest) (at size : ℕ) (reads image : List ℕ)
    (i : Image (touch at size reads file) image) where
  is_in : ℕ → Bool
  is_in k = nat_le at k && nat_lt k (at + size)

  was_at : ℕ → ℕ
  was_at k = if is_in k then get_or file.synced k 0 else get_or image k 0

  was_before : List ℕ
  was_before = build was_at (min (length image) file.longest)

  length-was : length was_before ≡ min (length image) file.longest
  unfolding was_before
  length-was = length-build was_at (min (length image) file.longest)

  in_range : (k : ℕ) → is_in k ≡ true → was_at k ≡ get_or file.synced k 0
  unfolding was_at
  in_range k e = ap (λ b. if b then get_or file.synced k 0 else get_or image k 0) e

  out_of_range : (k : ℕ) → is_in k ≡ false → was_at k ≡ get_or image k 0
  unfolding was_at
  out_of_range k e = ap (λ b. if b then get_or file.synced k 0 else get_or image k 0) e

  read_was : (k : ℕ) → k < min (length image) file.longest → get_or was_before k 0 ≡ was_at k
  unfolding was_before
  read_was k lt = get_or-build was_at (min (length image) file.longest) k lt

  not_in : (k : ℕ) → (k < at) ⊎ (at + size ≤ k) → is_in k ≡ false
  unfolding is_in
  not_in k h = elim h [
    | inl before ↦ and_left _ _ (lt-leb _ _ before)
    | inr behind ↦ and_right _ _ (le-ltb _ _ behind)
  ]

  pub torn-from_image : (was : List ℕ) × Image file was × Torn at size was image
  unfolding is_in
  torn-from_image = (
    was_before,
    record {
      no_shorter = omega (arith, length-was, i.no_shorter);
      no_longer = omega (arith, length-was);
      agrees = λ k lt.
          let read = read_was k (omega (arith, i.no_shorter)) in
          elim (cases_Bool (is_in k)) [
            | inl inside ↦ inr (read ∙ in_range k inside)
            | inr outside ↦ elim (i.agrees k lt) [
              | inl hit ↦ inl (⊎_elim (λ inside. absurd (both_ways (is_in k) outside inside)) (λ old. old) (or_cases _ _ hit))
              | inr same ↦ inr (read ∙ out_of_range k outside ∙ same)
            ]
          ];
    },
    record {
      same = λ k lt where_. sym (read_was k (omega (arith, length-was)) ∙ out_of_range k (not_in k where_));
      no_shorter = omega (arith, length-was);
      no_longer = omega (arith, length-was, i.no_longer);
    },
  )

-- an image before a write, torn, is one after it
pub image-from_torn : (file : FileState) (at size : ℕ) (reads was image : List ℕ) → Image file was → Torn at size was image
    → Image (touch at size reads file) image
image-from_torn file at size reads was image i torn = record {
  no_shorter = omega (arith, i.no_shorter, torn.no_shorter);
  no_longer = omega (arith, i.no_longer, torn.no_longer);
  agrees = λ k lt. elim (where_is at size k) [
    | inr inside ↦ inl (now_touched file.touched at size k inside.0 inside.1)
    | inl outside ↦
        let same = torn.same k (omega (arith, i.no_shorter)) outside in
        ⊎_elim (λ hit. inl (more_touched file.touched at size k hit)) (λ old. inr (same ∙ old)) (i.agrees k lt)
  ];
}

-- what holds of each file
pub record IsGood (file : FileState) : Type 0 where
  pub room : length file.synced ≤ file.longest
  pub image : Image file file.reads

pub good-rest : (bytes : List ℕ) → IsGood (at_rest bytes)
good-rest bytes =
    record { room = omega arith; image = record { no_shorter = omega arith; no_longer = omega arith; agrees = λ k lt. inr refl } }

pub byte_after-inside : (at : ℕ) (bytes : List ℕ) (place byte : ℕ) → at ≤ place → place < at + length bytes
    → byte_after at bytes place byte ≡ get_or bytes (place - at) 0
byte_after-inside at bytes place byte le lt =
    ap (λ b. if b then get_or bytes (place - at) 0 else byte) (and_from _ _ (le-leb _ _ le) (lt-ltb _ _ lt))

pub byte_after-outside : (at : ℕ) (bytes : List ℕ) (place byte : ℕ) → (place < at) ⊎ (at + length bytes ≤ place)
    → byte_after at bytes place byte ≡ byte
byte_after-outside at bytes place byte h = elim h [
  | inl before ↦ ap (λ b. if b then get_or bytes (place - at) 0 else byte) (and_left _ _ (lt-leb _ _ before))
  | inr behind ↦ ap (λ b. if b then get_or bytes (place - at) 0 else byte) (and_right _ _ (le-ltb _ _ behind))
]

-- the bytes that a write leaves
module _ (at : ℕ) (bytes old : List ℕ) where
  pub length-spliced : length (spliced at bytes old) ≡ max (length old) (at + length bytes)
  length-spliced = simp (length-append, length-take, length-replicate, length-drop) (omega arith)

  padded : List ℕ
  padded = take at old ++ replicate (at - length old) 0

  length-padded : length padded ≡ at
  unfolding padded
  length-padded = simp (length-append, length-take, length-replicate) (omega arith)

  is_padded : spliced at bytes old ≡ padded ++ bytes ++ drop (at + length bytes) old
  unfolding padded
  is_padded = refl

  read_padded : (k : ℕ) → k < at → k < length old → get_or padded k 0 ≡ get_or old k 0
  unfolding padded
  read_padded k below lt =
      get_or-append (take at old) (replicate (at - length old) 0) 0 k (omega (arith, length-take at old))
      ∙ get_or-take at old k 0 below

  length-front : length (padded ++ bytes) ≡ at + length bytes
  length-front = omega (arith, length-append padded bytes, length-padded)

  same_before : (k : ℕ) → k < length old → k < at → get_or (spliced at bytes old) k 0 ≡ get_or old k 0
  same_before k lt below =
      ap (λ (l : List ℕ). get_or l k 0) is_padded
      ∙ get_or-append (padded ++ bytes) (drop (at + length bytes) old) 0 k (omega (arith, length-front))
      ∙ get_or-append padded bytes 0 k (omega (arith, length-padded))
      ∙ read_padded k below lt

  same_behind : (k : ℕ) → at + length bytes ≤ k → get_or (spliced at bytes old) k 0 ≡ get_or old k 0
  same_behind k le =
      let back : at + length bytes + (k - (at + length bytes)) ≡ k = omega arith in
      ap (λ (l : List ℕ). get_or l k 0) is_padded
      ∙ get_or-append_right (padded ++ bytes) (drop (at + length bytes) old) (at + length bytes) k 0 length-front le
      ∙ get_or-drop (at + length bytes) old (k - (at + length bytes)) 0
      ∙ ap (λ m. get_or old m 0) back

  before_start : (k : ℕ) → k < at → length old ≤ k → get_or (spliced at bytes old) k 0 ≡ get_or old k 0
  unfolding padded
  before_start k below past =
      ap (λ (l : List ℕ). get_or l k 0) is_padded
      ∙ get_or-append (padded ++ bytes) (drop (at + length bytes) old) 0 k (omega (arith, length-front))
      ∙ get_or-append padded bytes 0 k (omega (arith, length-padded))
      ∙ get_or-append_right (take at old) (replicate (at - length old) 0) (length old) k 0
      (omega (arith, length-take at old)) past
      ∙ get_or-replicate (at - length old) (k - length old) 0 0 (omega arith)
      ∙ sym (get_or_past old k 0 past)

  inside : (k : ℕ) → at ≤ k → k < at + length bytes → get_or (spliced at bytes old) k 0 ≡ get_or bytes (k - at) 0
  inside k le lt =
      ap (λ (l : List ℕ). get_or l k 0) is_padded
      ∙ get_or-append (padded ++ bytes) (drop (at + length bytes) old) 0 k (omega (arith, length-front))
      ∙ get_or-append_right padded bytes at k 0 length-padded le

  -- each byte after the write
  pub spliced-at : (k : ℕ) → get_or (spliced at bytes old) k 0 ≡ byte_after at bytes k (get_or old k 0)
  spliced-at k = elim (where_is at (length bytes) k) [
    | inr within ↦ inside k within.0 within.1 ∙ sym (byte_after-inside at bytes k (get_or old k 0) within.0 within.1)
    | inl outside ↦
        ⊎_elim (λ below. ⊎_elim (λ lt. same_before k lt below) (λ past. before_start k below past) (cases_lt k (length old)))
        (same_behind k) outside
        ∙ sym (byte_after-outside at bytes k (get_or old k 0) outside)
  ]

  pub spliced-written : Written at bytes old (spliced at bytes old)
  spliced-written = record {
    same = λ k lt where_. ⊎_elim (same_before k lt) (same_behind k) where_;
    there = λ k lt.
        let back : at + k - at ≡ k = omega arith in
        ap (λ (l : List ℕ). get_or l (at + k) 0) is_padded
        ∙ get_or-append (padded ++ bytes) (drop (at + length bytes) old) 0 (at + k) (omega (arith, length-front))
        ∙ get_or-append_right padded bytes at (at + k) 0 length-padded (omega arith)
        ∙ ap (λ m. get_or bytes m 0) back;
    long = length-spliced;
  }

-- a write that was done is one that a crash did not cut short
pub torn-from_written : (at : ℕ) (bytes old new : List ℕ) → Written at bytes old new → Torn at (length bytes) old new
torn-from_written at bytes old new w =
    record { same = w.same; no_shorter = omega (arith, w.long); no_longer = omega (arith, w.long) }

pub good-touch : (file : FileState) (at size : ℕ) (reads : List ℕ) → IsGood file → Torn at size file.reads reads
    → IsGood (touch at size reads file)
good-touch file at size reads good torn =
    record { room = omega (arith, good.room); image = image-from_torn file at size reads file.reads reads good.image torn }

-- what holds of each file after any calls
choose_good : (b : Bool) (s t : FileState) → IsGood s → IsGood t → IsGood (if b then s else t)
choose_good true s t p q = p
choose_good false s t p q = q

good-after : (file : ℕ) (state : FileState) (call : Call) → IsGood state → IsGood (after file state call)
good-after file state looked good = good
good-after file state (wrote other at bytes) good =
    choose_good (other == file) _ _
    (good-touch state at (length bytes) (spliced at bytes state.reads) good
    (torn-from_written at bytes state.reads (spliced at bytes state.reads) (spliced-written at bytes state.reads))) good
good-after file state (tried other at size) good =
    choose_good (other == file) _ _ (good-touch state at size state.reads good (torn-refl at size state.reads)) good
good-after file state (flushed other) good = choose_good (other == file) _ _ (good-rest state.reads) good

pub good-all : (file : ℕ) (state : FileState) (log : List Call) → IsGood state → IsGood (after_all file state log)
unfolding after_all
good-all file state [] good = good
good-all file state (call ∷ log) good = good-all file (after file state call) log (good-after file state call good)

pub good-file : (starts : List (List ℕ)) (log : List Call) (file : ℕ) → IsGood (file_after starts log file)
good-file starts log file =
    good-all file (at_rest (slice_index_or starts file [])) log (good-rest (slice_index_or starts file []))
