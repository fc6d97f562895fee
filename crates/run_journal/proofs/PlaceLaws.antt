-- An image stands for a list or is damaged, at one place.
use Rattle.std.proofs.Common.{◌≡◌, ◌≢◌, ◌⊎◌, inl, inr, ℕ, zero, suc, ◌+◌, ◌<◌, ◌≤◌, List, [], ◌∷◌, ◌++◌, length, get_or, take, drop, refl, sym, ◌∙◌, ap, subst, arith, append_assoc, length-append, length-drop, length-take, take-append-drop, All}
use Rattle.std.proofs.lemmas.Bool.{cases_lt, cases_eq}
use Rattle.std.proofs.lemmas.List.{nil_from_length, get_or-take}
use Rattle.std.proofs.Math.Seq.{take-suc}
use Rattle.std.proofs.lemmas.List.Elements.{All-nil, All-drop, All-cons}
use Rattle.std.proofs.Math.ListN.{get_or-append}
use Rattle.run_journal.specs.Laws.{LayoutStands, OnePlace, StandsOrDamaged}
use Rattle.run_journal.specs.Layout.{header, entries, front, length_field, length_of, most_entry, most_image, IsEntry, IsBroken, BreaksAt}
use Rattle.run_journal.proofs.Headers.{count-le}
use Rattle.run_journal.proofs.EntryLemmas.{field_of}
use Rattle.run_journal.proofs.LayoutLaws.{behind_header, no_entry_broken}
use Rattle.run_journal.proofs.Unique.{unique}

pub layout_stands : LayoutStands
layout_stands image items layout = elim (cases_lt 9 (length image)) [
  | inl long ↦ inr (long, layout)
  | inr low ↦
      let whole : length image ≡ length (front items) + length (layout.closed.gate ∷ layout.closed.rest) = ap length layout.closed.is ∙ length-append (front items) (layout.closed.gate ∷ layout.closed.rest) in
      inl (low, nil_from_length items (omega (arith, whole, count-le items)))
]

-- ---- one place

header_there : (image rest : List ℕ) (items : List (List ℕ)) (place : ℕ) → place < 8 → image ≡ front items ++ rest → get_or image place 0 ≡ get_or header place 0
unfolding front
header_there image rest items place lt is =
    ap (λ (l : List ℕ). get_or l place 0) (is ∙ append_assoc header (entries items) rest)
    ∙ get_or-append header (entries items ++ rest) 0 place lt

-- what two lists have at a place within a front that they share
shared : (xs ys : List ℕ) (n k : ℕ) → k < n → take n xs ≡ take n ys → get_or xs k 0 ≡ get_or ys k 0
shared xs ys n k lt same = sym (get_or-take n xs k 0 lt) ∙ ap (λ (l : List ℕ). get_or l k 0) same ∙ get_or-take n ys k 0 lt

one_break : (image : List ℕ) (p q : ℕ) → BreaksAt image p → BreaksAt image q → p ≡ q
one_break image p q one other =
    let same : one.items ≡ other.items = unique one.items other.items one.rest other.rest one.short other.short (no_entry_broken one.rest one.broken) (no_entry_broken other.rest other.broken)
    (behind_header one.items other.items one.rest other.rest (sym one.is ∙ other.is)) in
    one.at ∙ ap (λ (l : List (List ℕ)). length (front l)) same ∙ sym other.at

pub one_place : OnePlace
one_place image p q (inl one) (inl other) = one.1 ∙ sym other.1
one_place image p q (inl one) (inr (inl other)) = absurd (omega (arith, one.0, other.1))
one_place image p q (inl one) (inr (inr other)) = absurd (omega (arith, one.0, other.1))
one_place image p q (inr (inl one)) (inl other) = absurd (omega (arith, other.0, one.1))
one_place image p q (inr (inl one)) (inr (inl other)) = elim (cases_lt p q) [
  | inl before ↦ absurd (one.4 (shared image header q p before other.3))
  | inr le ↦ elim (cases_lt q p) [
    | inl behind ↦ absurd (other.4 (shared image header p q behind one.3))
    | inr ge ↦ omega arith
  ]
]
one_place image p q (inr (inl one)) (inr (inr other)) = absurd (one.4 (header_there image other.2.rest other.2.items p one.2 other.2.is))
one_place image p q (inr (inr one)) (inl other) = absurd (omega (arith, other.0, one.1))
one_place image p q (inr (inr one)) (inr (inl other)) = absurd (other.4 (header_there image one.2.rest one.2.items q other.2 one.2.is))
one_place image p q (inr (inr one)) (inr (inr other)) = one_break image p q one.2 other.2

-- ---- a list or a place

one_more : (n : ℕ) (xs ys : List ℕ) → n < length xs → n < length ys → take n xs ≡ take n ys → get_or xs n 0 ≡ get_or ys n 0 → take (suc n) xs ≡ take (suc n) ys
one_more n xs ys p q same here = take-suc xs n 0 p ∙ (λ i. same i ++ here i ∷ []) ∙ sym (take-suc ys n 0 q)

-- the first place at which two lists differ, within their first bytes
first_differs : (n : ℕ) (xs ys : List ℕ) → n ≤ length xs → n ≤ length ys
    → ((k : ℕ) × (k < n) × (take k xs ≡ take k ys) × (get_or xs k 0 ≢ get_or ys k 0)) ⊎ (take n xs ≡ take n ys)
first_differs zero xs ys p q = inr refl
first_differs (suc n) xs ys p q = elim (first_differs n xs ys (omega arith) (omega arith)) [
  | inl found ↦ inl (found.0, omega (arith, found.1), found.2, found.3)
  | inr same ↦ elim (cases_eq (get_or xs n 0) (get_or ys n 0)) [
    | inl here ↦ inr (one_more n xs ys (omega arith) (omega arith) same here)
    | inr ne ↦ inl (n, omega arith, same, ne)
  ]
]

-- whole entries, and then a closed gate or no whole entry
record Parsed (bytes : List ℕ) : Type 0 where
  items : List (List ℕ)
  rest : List ℕ
  short : All IsEntry items
  is : bytes ≡ entries items ++ rest
  ends : IsBroken rest ⊎ ((gate : ℕ) × (behind : List ℕ) × (rest ≡ gate ∷ behind) × (gate ≢ 1))

at_once : (bytes : List ℕ) → IsBroken bytes ⊎ ((gate : ℕ) × (behind : List ℕ) × (bytes ≡ gate ∷ behind) × (gate ≢ 1)) → Parsed bytes
unfolding entries
at_once bytes ends = record { items = []; rest = bytes; short = All-nil IsEntry; is = refl; ends = ends }

-- a whole entry in front
with_entry : (a b c d : ℕ) (after : List ℕ) → a < 256 → b < 256 → c < 256 → d < 256 → length_of a b c d ≤ most_entry → length_of a b c d ≤ length after
    → Parsed (drop (length_of a b c d) after) → Parsed (1 ∷ a ∷ b ∷ c ∷ d ∷ after)
unfolding entries
with_entry a b c d after pa pb pc pd low whole p =
    let n = length_of a b c d in
    let item : List ℕ = take n after in
    let len : length item ≡ n = omega (arith, length-take n after) in
    let field : length_field (length item) ≡ a ∷ b ∷ c ∷ d ∷ [] = ap length_field len ∙ field_of a b c d pa pb pc pd in
    let body : after ≡ (item ++ entries p.items) ++ p.rest =
    sym (take-append-drop n after) ∙ ap (λ (l : List ℕ). item ++ l) p.is ∙ sym (append_assoc item (entries p.items) p.rest) in
    record {
      items = item ∷ p.items;
      rest = p.rest;
      short = All-cons IsEntry item p.items (omega (arith, len)) p.short;
      is = ap (λ (l : List ℕ). 1 ∷ a ∷ b ∷ c ∷ d ∷ l) body ∙ ap (λ (f : List ℕ). (((1 ∷ f) ++ item) ++ entries p.items) ++ p.rest) (sym field);
      ends = p.ends;
    }

-- an open gate, the length behind it, and what follows
parse_open : (a b c d : ℕ) (after : List ℕ) → a < 256 → b < 256 → c < 256 → d < 256 → ((n : ℕ) → Parsed (drop n after)) → Parsed (1 ∷ a ∷ b ∷ c ∷ d ∷ after)
parse_open a b c d after pa pb pc pd others = elim (cases_lt most_entry (length_of a b c d)) [
  | inl big ↦ at_once (1 ∷ a ∷ b ∷ c ∷ d ∷ after) (inl (refl, inl big))
  | inr low ↦ elim (cases_lt (length after) (length_of a b c d)) [
    | inl cut ↦ at_once (1 ∷ a ∷ b ∷ c ∷ d ∷ after) (inl (refl, inr cut))
    | inr whole ↦ with_entry a b c d after pa pb pc pd low whole (others (length_of a b c d))
  ]
]

by_gate : (gate : ℕ) (rest : List ℕ) → (gate ≡ 1 → Parsed (gate ∷ rest)) → Parsed (gate ∷ rest)
by_gate gate rest if_open = elim (cases_eq gate 1) [
  | inl is ↦ if_open is
  | inr shut ↦ at_once (gate ∷ rest) (inr (gate, rest, refl, shut))
]

parse : (fuel : ℕ) (bytes : List ℕ) → length bytes ≤ fuel → All (λ b. b < 256) bytes → Parsed bytes
parse fuel [] fits small = at_once [] (inl tt)
parse fuel (gate ∷ []) fits small = by_gate gate [] (λ is. at_once (gate ∷ []) (inl is))
parse fuel (gate ∷ a ∷ []) fits small = by_gate gate (a ∷ []) (λ is. at_once (gate ∷ a ∷ []) (inl is))
parse fuel (gate ∷ a ∷ b ∷ []) fits small = by_gate gate (a ∷ b ∷ []) (λ is. at_once (gate ∷ a ∷ b ∷ []) (inl is))
parse fuel (gate ∷ a ∷ b ∷ c ∷ []) fits small = by_gate gate (a ∷ b ∷ c ∷ []) (λ is. at_once (gate ∷ a ∷ b ∷ c ∷ []) (inl is))
parse zero (gate ∷ a ∷ b ∷ c ∷ d ∷ after) fits small = absurd (omega arith)
parse (suc fuel) (gate ∷ a ∷ b ∷ c ∷ d ∷ after) fits small = by_gate gate (a ∷ b ∷ c ∷ d ∷ after) (λ is.
    let rest : All (λ b. b < 256) after = All-drop (λ b. b < 256) 5 (gate ∷ a ∷ b ∷ c ∷ d ∷ after) small in
    subst (λ g. Parsed (g ∷ a ∷ b ∷ c ∷ d ∷ after)) (sym is)
    (parse_open a b c d after (small 1 0 (omega arith)) (small 2 0 (omega arith)) (small 3 0 (omega arith)) (small 4 0 (omega arith))
    (λ n. parse fuel (drop n after) (omega (arith, length-drop n after)) (All-drop (λ b. b < 256) n after rest))))

pub stands_or_damaged : StandsOrDamaged
unfolding front
stands_or_damaged image small = elim (cases_lt most_image (length image)) [
  | inl big ↦ inr (most_image, inl (big, refl))
  | inr fits ↦ elim (cases_lt 9 (length image)) [
    | inr low ↦ inl ([], inl (low, refl))
    | inl long ↦ elim (first_differs 8 image header (omega arith) (omega arith)) [
      | inl found ↦ inr (found.0, inr (inl (long, fits, found.1, found.2, found.3)))
      | inr same ↦
          let p = parse (length image) (drop 8 image) (omega (arith, length-drop 8 image)) (All-drop (λ b. b < 256) 8 image small) in
          let is : image ≡ front p.items ++ p.rest =
          sym (take-append-drop 8 image) ∙ ap (λ (l : List ℕ). l ++ drop 8 image) same ∙ ap (λ (l : List ℕ). header ++ l) p.is ∙ sym (append_assoc header (entries p.items) p.rest) in
          elim p.ends [
            | inl broken ↦ inr (length (front p.items), inr (inr (long, fits, record { items = p.items; rest = p.rest; short = p.short; is = is; at = refl; broken = broken })))
            | inr closed ↦ inl (
              p.items,
              inr (
                long,
                record {
                  short = p.short;
                  closed = record { gate = closed.0; rest = closed.1; shut = closed.3; is = is ∙ ap (λ (l : List ℕ). front p.items ++ l) closed.2 };
                  within = fits;
                },
              ),
            )
          ]
    ]
  ]
]
