-- What torn and whole writes leave of a start, a gate and a rest.
use Rattle.std.proofs.Common.{◌≡◌, ◌≢◌, inl, inr, ℕ, zero, suc, ◌+◌, ◌-◌, ◌<◌, ◌≤◌, List, [], ◌∷◌, ◌++◌, length, get_or, take, drop, refl, sym, ◌∙◌, ap, subst, arith, IsTrue, append_assoc, length-append, length-drop, take-append-drop}
use Rattle.std.proofs.lemmas.List.{take_at, drop_at, drop_more, get_or-take, get_or-drop, length-take, drop-drop}
use Rattle.std.proofs.lemmas.Bool.{cases_eq}
use Rattle.cacao_site.specs.DiskCalls.{Torn, Written}
use Rattle.cacao_site.specs.View.{DiskView}
use Rattle.cacao_site.specs.DiskCalls.{IsLeft, IsDurable, EachBeat, AllLeft, TornSince}
use Rattle.cacao_site.proofs.Beats.{each-weaken, each-more, each-trans, each-now}
use Rattle.run_journal.specs.Layout.{IsClosed, HasOpened, IsClosedOrOpened, IsWithin, most_image}

pub same_list : (xs ys : List ℕ) → length xs ≡ length ys → ((k : ℕ) → k < length xs → get_or xs k 0 ≡ get_or ys k 0) → xs ≡ ys
same_list [] [] e h = refl
same_list [] (y ∷ ys) e h = absurd (omega arith)
same_list (x ∷ xs) [] e h = absurd (omega arith)
same_list (x ∷ xs) (y ∷ ys) e h = λ i. h 0 (omega arith) i ∷ same_list xs ys (omega arith) (λ k lt. h (suc k) (omega arith)) i

pub same_take : (n : ℕ) (xs ys : List ℕ) → n ≤ length xs → n ≤ length ys → ((k : ℕ) → k < n → get_or xs k 0 ≡ get_or ys k 0) → take n xs ≡ take n ys
same_take zero xs ys p q h = refl
same_take (suc n) [] ys p q h = absurd (omega arith)
same_take (suc n) (x ∷ xs) [] p q h = absurd (omega arith)
same_take (suc n) (x ∷ xs) (y ∷ ys) p q h = λ i. h 0 (omega arith) i ∷ same_take n xs ys (omega arith) (omega arith) (λ k lt. h (suc k) (omega arith)) i

pub same_drop : (n : ℕ) (xs ys : List ℕ) → length xs ≡ length ys → ((k : ℕ) → n ≤ k → k < length xs → get_or xs k 0 ≡ get_or ys k 0) → drop n xs ≡ drop n ys
same_drop zero xs ys e h = same_list xs ys e (λ k lt. h k (omega arith) lt)
same_drop (suc n) [] [] e h = refl
same_drop (suc n) [] (y ∷ ys) e h = absurd (omega arith)
same_drop (suc n) (x ∷ xs) [] e h = absurd (omega arith)
same_drop (suc n) (x ∷ xs) (y ∷ ys) e h = same_drop n xs ys (omega arith) (λ k le lt. h (suc k) (omega arith) (omega arith))

-- the front of a file stays under a write behind it
front_stays : (n at size : ℕ) (old new : List ℕ) → n ≤ at → n ≤ length old → Torn at size old new → take n new ≡ take n old
front_stays n at size old new le long torn = same_take n new old (omega (arith, torn.no_shorter)) long (λ k lt. torn.same k (omega arith) (inl (omega arith)))

-- a write behind a closed gate leaves it closed
pub closed_stays : (start : List ℕ) (at size : ℕ) (old new : List ℕ) → length start < at → IsClosed start old → Torn at size old new → IsClosed start new
closed_stays start at size old new lt closed torn =
    let long : length old ≡ length start + length (closed.gate ∷ closed.rest) = ap length closed.is ∙ length-append start (closed.gate ∷ closed.rest) in
    let split : old ≡ (start ++ closed.gate ∷ []) ++ closed.rest = closed.is ∙ sym (append_assoc start (closed.gate ∷ []) closed.rest) in
    let size_of : length (start ++ closed.gate ∷ []) ≡ length start + 1 = length-append start (closed.gate ∷ []) in
    let kept : take (length start + 1) new ≡ start ++ closed.gate ∷ [] =
    front_stays (length start + 1) at size old new (omega arith) (omega arith) torn
    ∙ ap (λ (l : List ℕ). take (length start + 1) l) split
    ∙ take_at (start ++ closed.gate ∷ []) closed.rest (length start + 1) size_of in
    record {
      gate = closed.gate;
      rest = drop (length start + 1) new;
      shut = closed.shut;
      is = sym (take-append-drop (length start + 1) new) ∙ ap (λ (l : List ℕ). l ++ drop (length start + 1) new) kept ∙ append_assoc start (closed.gate ∷ []) (drop (length start + 1) new);
    }

-- a write of the gate alone leaves what is before it and behind it
pub gate_torn : (start rest : List ℕ) (gate : ℕ) (new : List ℕ) → Torn (length start) 1 (start ++ gate ∷ rest) new → (x : ℕ) × (new ≡ start ++ x ∷ rest)
gate_torn start rest gate new torn =
    let old = start ++ gate ∷ rest in
    let long : length old ≡ length start + length (gate ∷ rest) = length-append start (gate ∷ rest) in
    let same_size : length new ≡ length old = omega (arith, torn.no_shorter, torn.no_longer) in
    let split : old ≡ (start ++ gate ∷ []) ++ rest = sym (append_assoc start (gate ∷ []) rest) in
    let size_of : length (start ++ gate ∷ []) ≡ length start + 1 = length-append start (gate ∷ []) in
    let kept : take (length start) new ≡ start = front_stays (length start) (length start) 1 old new (omega arith) (omega arith) torn ∙ take_at start (gate ∷ rest) (length start) refl in
    let behind : drop (length start + 1) new ≡ rest =
    same_drop (length start + 1) new old same_size (λ k le lt. torn.same k (omega arith) (inr le))
    ∙ ap (λ (l : List ℕ). drop (length start + 1) l) split
    ∙ drop_at (start ++ gate ∷ []) rest (length start + 1) size_of in
    let x = get_or new (length start) 0 in (
      x,
      sym (take-append-drop (length start) new) ∙ ap (λ (l : List ℕ). l ++ drop (length start) new) kept
          ∙ ap (λ (l : List ℕ). start ++ l) (drop_more new (length start) 0 (omega arith) ∙ ap (λ (l : List ℕ). x ∷ l) behind),
    )

-- a whole write is one of those that a crash may leave of it
pub whole_torn : (at : ℕ) (bytes old new : List ℕ) → Written at bytes old new → Torn at (length bytes) old new
whole_torn at bytes old new written = record {
  same = written.same;
  no_shorter = omega (arith, written.long);
  no_longer = omega (arith, written.long);
}

-- the bytes stand where they were written
pub bytes_there : (at : ℕ) (bytes old new : List ℕ) → Written at bytes old new → drop at new ≡ bytes ++ drop (at + length bytes) new
bytes_there at bytes old new written =
    let size : length (drop at new) ≡ length new - at = length-drop at new in
    let is : take (length bytes) (drop at new) ≡ bytes =
    same_list (take (length bytes) (drop at new)) bytes (omega (arith, length-take (length bytes) (drop at new), written.long, size))
    (λ k lt.
    let short : k < length bytes = omega (arith, length-take (length bytes) (drop at new)) in
    get_or-take (length bytes) (drop at new) k 0 short ∙ get_or-drop at new k 0 ∙ written.there k short) in
    sym (take-append-drop (length bytes) (drop at new)) ∙ ap (λ (l : List ℕ). l ++ drop (length bytes) (drop at new)) is ∙ ap (λ (l : List ℕ). bytes ++ l) (drop-drop (length bytes) at new)

-- after the first write, torn or whole, the gate is closed
pub staged_beats : {a b : DiskView} {file at size : ℕ} (start : List ℕ) → length start < at → AllLeft file a (IsClosed start) → TornSince file at size a b → EachBeat file a b (IsClosed start)
staged_beats {a} {b} {file} {at} {size} start lt closed torn = each-weaken torn (λ told image from. closed_stays start at size from.0 image lt (closed told from.0 from.1) from.2)

-- what a file reads as once the block is behind the gate
pub record IsStaged (start block file : List ℕ) : Type 0 where
  pub gate : ℕ
  pub rest : List ℕ
  pub shut : gate ≢ 1
  pub is : file ≡ start ++ gate ∷ (block ++ rest)

pub staged : (start block old new : List ℕ) (at : ℕ) → at ≡ length start + 1 → IsClosed start old → Written at block old new → IsStaged start block new
staged start block old new at where_ closed written =
    let kept = closed_stays start at (length block) old new (omega arith) closed (whole_torn at block old new written) in
    let behind : drop at new ≡ kept.rest =
    ap (λ (l : List ℕ). drop at l) (kept.is ∙ sym (append_assoc start (kept.gate ∷ []) kept.rest))
    ∙ drop_at (start ++ kept.gate ∷ []) kept.rest at (omega (arith, length-append start (kept.gate ∷ []))) in
    record {
      gate = kept.gate;
      rest = drop (at + length block) new;
      shut = kept.shut;
      is = kept.is ∙ ap (λ (l : List ℕ). start ++ kept.gate ∷ l) (sym behind ∙ bytes_there at block old new written);
    }

gate_beat : (start block file image : List ℕ) → IsStaged start block file → Torn (length start) 1 file image → IsClosedOrOpened start block image
gate_beat start block file image s torn =
    let left = gate_torn start (block ++ s.rest) s.gate image (subst (λ f. Torn (length start) 1 f image) s.is torn) in
    elim (cases_eq left.0 1) [
      | inl open_gate ↦ inr (s.rest, left.1 ∙ ap (λ (x : ℕ). start ++ x ∷ (block ++ s.rest)) open_gate)
      | inr shut ↦ inl (record { gate = left.0; rest = block ++ s.rest; shut = shut; is = left.1 })
    ]

-- the second write leaves the block behind a closed gate or behind an open one
pub opened_beats : {b c : DiskView} {file at : ℕ} (start block : List ℕ) → at ≡ length start → IsDurable file b → IsStaged start block (b.reads file) → TornSince file at 1 b c → EachBeat file b c (IsClosedOrOpened start block)
opened_beats {b} {c} {file} {at} start block where_ durable s torn =
    each-weaken torn (λ told image from.
    let at_gate : Torn (length start) 1 (b.reads file) image = subst (λ n. Torn n 1 (b.reads file) image) where_ (subst (λ f. Torn at 1 f image) (durable from.0 from.1) from.2) in
    gate_beat start block (b.reads file) image s at_gate)

pub opened : (start block old new : List ℕ) (at : ℕ) → at ≡ length start → IsStaged start block old → Written at (1 ∷ []) old new → HasOpened start block new
unfolding gate_torn
opened start block old new at where_ s written =
    let torn : Torn (length start) 1 old new = subst (λ n. Torn n 1 old new) where_ (whole_torn at (1 ∷ []) old new written) in
    let left = gate_torn start (block ++ s.rest) s.gate new (subst (λ f. Torn (length start) 1 f new) s.is torn) in
    let at_gate : get_or new (length start) 0 ≡ 1 = ap (λ (n : ℕ). get_or new n 0) (omega (arith, where_)) ∙ written.there 0 (omega arith) in
    let same : left.0 ≡ 1 = at_gate in
    (s.rest, left.1 ∙ ap (λ (x : ℕ). start ++ x ∷ (block ++ s.rest)) same)

-- a write within the bound leaves each image within it
pub within_torn : {a b : DiskView} {file at size : ℕ} → at + size ≤ most_image → AllLeft file a IsWithin → TornSince file at size a b → EachBeat file a b IsWithin
within_torn fits all torn = each-weaken torn (λ told image from. let low : length from.0 ≤ most_image = all told from.0 from.1 in omega (arith, low, from.2.no_longer))

-- and so does a further one
pub within_both : {a b c : DiskView} {file at size : ℕ} → at + size ≤ most_image → EachBeat file a b IsWithin → TornSince file at size b c → EachBeat file a c IsWithin
within_both fits first torn = each-trans first (within_torn fits (λ told. each-now first (subst IsTrue first.goes_on.told told)) torn)

-- both, one after the other
pub first_beats : {a b : DiskView} {file gate : ℕ} (start block : List ℕ) → length start ≡ gate → AllLeft file a (IsClosed start) → TornSince file (gate + 1) (length block) a b → EachBeat file a b (IsClosedOrOpened start block)
first_beats start block size closed torn = each-weaken (staged_beats start (omega arith) closed torn) (λ told image shut. inl shut)

-- what is known after the first write, where the disk is told
pub record FirstWrite (file gate : ℕ) (block : List ℕ) (a b : DiskView) : Type 0 where
  pub reads : IsTrue a.told → IsLeft a file a.beat (a.reads file)
  pub torn : TornSince file (gate + 1) (length block) a b
  pub durable : IsDurable file b
  pub written : IsTrue a.told → Written (gate + 1) block (a.reads file) (b.reads file)

module _ {a b : DiskView} {file gate : ℕ} (start block : List ℕ) (size : length start ≡ gate) (closed : AllLeft file a (IsClosed start)) (first : FirstWrite file gate block a b) where
  pub is_staged : IsTrue a.told → IsStaged start block (b.reads file)
  is_staged told = staged start block (a.reads file) (b.reads file) (gate + 1) (omega arith) (closed told (a.reads file) (first.reads told)) (first.written told)

  pub both_beats : (c : DiskView) → TornSince file gate 1 b c → EachBeat file a c (IsClosedOrOpened start block)
  both_beats c torn_gate = each-more (first_beats start block size closed first.torn) torn_gate.goes_on (λ told beat image late to left.
      (opened_beats start block (sym size) first.durable (is_staged told) torn_gate).each (subst IsTrue (sym first.torn.goes_on.told) told) beat image (omega (arith, late)) to left)

  pub both_opened : (c : DiskView) → TornSince file gate 1 b c → IsDurable file c → (IsTrue b.told → Written gate (1 ∷ []) (b.reads file) (c.reads file)) → AllLeft file c (HasOpened start block)
  both_opened c torn_gate durable_gate written_gate told image left =
      let told_b : IsTrue b.told = subst IsTrue torn_gate.goes_on.told told in
      let told_a : IsTrue a.told = subst IsTrue first.torn.goes_on.told told_b in
      let now : HasOpened start block (c.reads file) = opened start block (b.reads file) (c.reads file) gate (sym size) (is_staged told_a) (written_gate told_b) in
      subst (λ f. HasOpened start block f) (sym (durable_gate image left)) now
