-- Marks of a row, one place at a time.
use Rattle.std.proofs.Common.{◌≡◌, ◌⊎◌, ◌↔◌, inl, inr, Some, ℕ, suc, ◌+◌, ◌<◌, Bool, true, false, not, List, [], ◌∷◌, ◌++◌, length, set, get_or, refl, sym, ◌∙◌, arith, get_or-set_same, get_or-set_other, length-set, length-append, zero, cond, replicate}
use Rattle.std.proofs.Math.ListN.{length-replicate}
use Rattle.std.specs.Prelude.{Contains, All, slice_index_or, count_by}
use Rattle.std.proofs.lemmas.Bool.{false≢true, cases_eq, cases_lt}
use Rattle.std.proofs.lemmas.List.{get_or_past}
use Rattle.std.proofs.lemmas.List.Elements.{Contains-append_left, Contains-append_right, Contains-append_cases, Contains-push, Contains-push_cases, All-pop, All-nil, All-push, All-replicate}
use Rattle.std.proofs.lemmas.List.Sums.{sum_by-set}
use Rattle.base_graphs.specs.Tables.{IsMarked, IsOpen, Leads, row}
use Rattle.base_graphs.specs.Searching.{IsOpenIn, Marks, Searches}
use Rattle.base_graphs.specs.Closure.{Closure}
use Rattle.base_graphs.specs.Closure.Closure.{first, onward}

-- a list of one
pub one_at : (x p k : ℕ) → k < 1 → get_or (x ∷ []) k p ≡ p → x ≡ p
one_at x p zero lt e = e
one_at x p (suc k) lt e = absurd (omega arith)

pub the_one : (x p : ℕ) → Contains (x ∷ []) p → x ≡ p
the_one x p c = one_at x p c.0 c.1 c.2

-- a mark that stands, and one that is set
set_kept : (marks : List Bool) (x p : ℕ) → x < length marks → IsMarked marks p → IsMarked (set marks x true) p
set_kept marks x p lt h = elim (cases_eq p x) [ inl same ↦ rw same (get_or-set_same marks x true false lt) | inr other ↦ rw (get_or-set_other marks x p true false other) h ]

set_same : (marks : List Bool) (x p : ℕ) → x < length marks → x ≡ p → IsMarked (set marks x true) p
set_same marks x p lt e = rw (← e) (get_or-set_same marks x true false lt)

set_fresh : (marks : List Bool) (x p : ℕ) → IsMarked (set marks x true) p → IsMarked marks p ⊎ (x ≡ p)
set_fresh marks x p h = elim (cases_eq p x) [ inl same ↦ inr (sym same) | inr other ↦ inl (rw (get_or-set_other marks x p true false other) at h) ]

set_count : (marks : List Bool) (x : ℕ) → x < length marks → slice_index_or marks x false ≡ false → count_by not (set marks x true) + 1 ≡ count_by not marks
set_count marks x lt un = let e : count_by not (set marks x true) + cond (not (get_or marks x false)) 1 0 ≡ count_by not marks + 0 = sum_by-set (λ b. cond (not b) 1 0) marks x true false lt in
    let one : ◌≡◌ {A = ℕ} (cond (not (get_or marks x false)) 1 0) 1 = rw un refl in omega (arith, e, one)

itself : (x : ℕ) → Contains (x ∷ []) x
itself x = (0, omega arith, refl)

-- first those of which P holds, then those of which Q holds
pub Marks-then : (P Q R : ℕ → Type 0) (m0 m1 m2 : List Bool) (w0 w1 w2 : List ℕ) → ((p : ℕ) → R p → P p ⊎ Q p) → ((p : ℕ) → P p → R p) → ((p : ℕ) → Q p → R p) → Marks P m0 w0 m1 w1 → Marks Q m1 w1 m2 w2 → Marks R m0 w0 m2 w2
Marks-then P Q R m0 m1 m2 w0 w1 w2 splits left right one two = record {
  len = two.len ∙ one.len;
  kept = λ p h. two.kept p (one.kept p h);
  waits = λ p h. two.waits p (one.waits p h);
  fresh = λ p h. elim (two.fresh p h) [
    | inl was ↦ elim (one.fresh p was) [ inl old ↦ inl old | inr new ↦ inr (left p new.0, two.waits p new.1) ]
    | inr new ↦ inr (right p new.0, new.1)
  ];
  each = λ p c. elim (splits p c) [ inl before ↦ two.kept p (one.each p before) | inr last ↦ two.each p last ];
  stands = λ p c. elim (two.stands p c) [ inl between ↦ elim (one.stands p between) [ inl old ↦ inl old | inr m ↦ inr (two.kept p m) ] | inr m ↦ inr m ];
  within = λ h. let n : length m1 ≡ length m0 = one.len in
      let inside : All (λ p. p < length m1) w1 = λ k d lt. rw n (one.within h k d lt) in
      λ k d lt. rw (← n) (two.within inside k d lt);
  spent = let a = one.spent in let b = two.spent in omega arith;
}

-- a row, and one more place
pub Marks-more : (xs : List ℕ) (x : ℕ) (blocked m0 m1 m2 : List Bool) (w0 w1 w2 : List ℕ) → Marks (IsOpenIn xs blocked) m0 w0 m1 w1 → Marks (IsOpenIn (x ∷ []) blocked) m1 w1 m2 w2 → Marks (IsOpenIn (xs ++ x ∷ []) blocked) m0 w0 m2 w2
Marks-more xs x blocked m0 m1 m2 w0 w1 w2 = Marks-then (IsOpenIn xs blocked) (IsOpenIn (x ∷ []) blocked) (IsOpenIn (xs ++ x ∷ []) blocked) m0 m1 m2 w0 w1 w2
    (λ p c. elim (Contains-append_cases xs (x ∷ []) p c.0) [ inl a ↦ inl (a, c.1) | inr b ↦ inr (b, c.1) ])
    (λ p c. (Contains-append_left xs (x ∷ []) p c.0, c.1))
    (λ p c. (Contains-append_right xs (x ∷ []) p c.0, c.1))

-- one place is marked
pub Marks-one : (x : ℕ) (blocked marks : List Bool) (work : List ℕ) → x < length marks → slice_index_or blocked x false ≡ false → slice_index_or marks x false ≡ false → Marks (IsOpenIn (x ∷ []) blocked) marks work (set marks x true) (work ++ x ∷ [])
Marks-one x blocked marks work lt free un = record {
  len = length-set marks x true;
  kept = λ p h. set_kept marks x p lt h;
  waits = λ p h. Contains-append_left work (x ∷ []) p h;
  fresh = λ p h. elim (set_fresh marks x p h) [
    | inl old ↦ inl old
    | inr new ↦ inr ((rw (← new) (itself x), rw (← new) free), rw (← new) (Contains-push work x))
  ];
  each = λ p c. set_same marks x p lt (the_one x p c.0);
  stands = λ p c. elim (Contains-push_cases work x p c) [ inl old ↦ inl old | inr e ↦ inr (set_same marks x p lt e) ];
  within = λ h. All-push (λ p. p < length marks) work x h lt;
  spent = let a = set_count marks x lt un in let b : length (work ++ x ∷ []) ≡ length work + 1 = length-append work (x ∷ []) in omega arith;
}

pub Contains-nil : (p : ℕ) → Contains [] p → ⊥
Contains-nil p c = let k : ℕ = c.0 in let lt : k < 0 = c.1 in omega arith

pub Marks-nil : (blocked marks : List Bool) (work : List ℕ) → Marks (IsOpenIn [] blocked) marks work marks work
Marks-nil blocked marks work = record {
  len = refl;
  kept = λ p h. h;
  waits = λ p h. h;
  fresh = λ p h. inl h;
  each = λ p c. absurd (Contains-nil p c.0);
  stands = λ p c. inl c;
  within = λ h. h;
  spent = omega arith;
}

-- an all-false list blocks nothing
pub none_blocked : (none : List Bool) (p : ℕ) → All (λ b. b ≡ false) none → slice_index_or none p false ≡ false
none_blocked none p h = elim (cases_lt p (length none)) [ inl lt ↦ h p false lt | inr ge ↦ get_or_past none p false ge ]

-- one step of the search
pub Searches-more : (F : ℕ → Type 0) (G : ℕ → ℕ → Type 0) (n x : ℕ) (m m' : List Bool) (w0 w w' : List ℕ) → w0 ≡ w ++ x ∷ [] → Searches F G n m w0 → Marks (G x) m w m' w' → Searches F G n m' w'
Searches-more F G n x m m' w0 w w' e s0 step =
    let s : Searches F G n m (w ++ x ∷ []) = rw e at s0 in
    let inside : All (λ p. p < n) w = (All-pop (λ p. p < n) (w ++ x ∷ []) w (Some x) refl s.within).0 in
    record {
      len = step.len ∙ s.len;
      within = λ k d lt. rw (← s.len) (step.within (λ i a l. rw s.len (inside i a l)) k d lt);
      sound = λ p h. elim (step.fresh p h) [ inl old ↦ s.sound p old | inr new ↦ onward (s.sound x (s.waiting x (Contains-push w x))) new.0 ];
      begun = λ p h. step.kept p (s.begun p h);
      waiting = λ p h. elim (step.stands p h) [ inl old ↦ step.kept p (s.waiting p (Contains-append_left w (x ∷ []) p old)) | inr m ↦ m ];
      closed = λ p q h g. elim (step.fresh p h) [
        | inl old ↦ elim (s.closed p q old g) [
          | inl waits ↦ elim (Contains-push_cases w x p waits) [ inl still ↦ inl (step.waits p still) | inr here ↦ inr (step.each q (rw here g)) ]
          | inr marked ↦ inr (step.kept q marked)
        ]
        | inr new ↦ inl new.1
      ];
    }

-- the beginning of the search
pub Searches-none : (F : ℕ → Type 0) (G : ℕ → ℕ → Type 0) (n : ℕ) (m m' : List Bool) (w' : List ℕ) → length m ≡ n → All (λ b. b ≡ false) m → Marks F m [] m' w' → Searches F G n m' w'
Searches-none F G n m m' w' len none step =
    let un : (p : ℕ) → IsMarked m p → ⊥ = λ p h. false≢true (sym (none_blocked m p none) ∙ h) in
    record {
      len = step.len ∙ len;
      within = λ k d lt. rw (← len) (step.within (All-nil (λ p. p < length m)) k d lt);
      sound = λ p h. elim (step.fresh p h) [ inl old ↦ absurd (un p old) | inr new ↦ first new.0 ];
      begun = λ p h. step.each p h;
      waiting = λ p h. elim (step.stands p h) [ inl old ↦ absurd (Contains-nil p old) | inr m ↦ m ];
      closed = λ p q h g. elim (step.fresh p h) [ inl old ↦ absurd (un p old) | inr new ↦ inl new.1 ];
    }

-- a free row and a guarded one together are what a place leads to
pub Marks-leads : (free guarded : List (List ℕ)) (shut blocked : List Bool) (x : ℕ) (m0 m1 m2 : List Bool) (w0 w1 w2 : List ℕ) → IsOpen shut x → Marks (IsOpenIn (row free x) []) m0 w0 m1 w1 → Marks (IsOpenIn (row guarded x) blocked) m1 w1 m2 w2 → Marks (Leads free guarded shut blocked x) m0 w0 m2 w2
Marks-leads free guarded shut blocked x m0 m1 m2 w0 w1 w2 clear = Marks-then (IsOpenIn (row free x) []) (IsOpenIn (row guarded x) blocked) (Leads free guarded shut blocked x) m0 m1 m2 w0 w1 w2
    (λ p c. elim c [ inl a ↦ inl (a, refl) | inr b ↦ inr (b.1, b.2) ])
    (λ p c. inl c.0)
    (λ p c. inr (clear, c.0, c.1))

-- the same under another name
pub Marks-same : (P Q : ℕ → Type 0) (m0 m1 : List Bool) (w0 w1 : List ℕ) → ((p : ℕ) → P p → Q p) → ((p : ℕ) → Q p → P p) → Marks P m0 w0 m1 w1 → Marks Q m0 w0 m1 w1
Marks-same P Q m0 m1 w0 w1 there back one = record {
  len = one.len;
  kept = one.kept;
  waits = one.waits;
  fresh = λ p h. elim (one.fresh p h) [ inl old ↦ inl old | inr new ↦ inr (there p new.0, new.1) ];
  each = λ p c. one.each p (back p c);
  stands = one.stands;
  within = one.within;
  spent = one.spent;
}

-- a shut place leads along free edges alone
pub Marks-shut : (free guarded : List (List ℕ)) (shut blocked : List Bool) (x : ℕ) (m0 m1 : List Bool) (w0 w1 : List ℕ) → slice_index_or shut x false ≡ true → Marks (IsOpenIn (row free x) []) m0 w0 m1 w1 → Marks (Leads free guarded shut blocked x) m0 w0 m1 w1
Marks-shut free guarded shut blocked x m0 m1 w0 w1 closed = Marks-same (IsOpenIn (row free x) []) (Leads free guarded shut blocked x) m0 m1 w0 w1
    (λ p c. inl c.0)
    (λ p c. elim c [ inl a ↦ (a, refl) | inr b ↦ absurd (false≢true (sym b.0 ∙ closed)) ])

-- the first places are marked
pub Searches-first : (begin : List ℕ) (G : ℕ → ℕ → Type 0) (n : ℕ) (m m' : List Bool) (w' : List ℕ) → m ≡ replicate n false → Marks (IsOpenIn begin []) m [] m' w' → Searches (Contains begin) G n m' w'
Searches-first begin G n m m' w' clear step =
    Searches-none (Contains begin) G n m m' w' (rw clear (length-replicate n false)) (rw clear (All-replicate (λ b. b ≡ false) n false refl))
    (Marks-same (IsOpenIn begin []) (Contains begin) m m' [] w' (λ p c. c.0) (λ p c. (c, refl)) step)

-- the end of the search
pub Searches-all : (F : ℕ → Type 0) (G : ℕ → ℕ → Type 0) (n : ℕ) (m : List Bool) → Searches F G n m [] → (p : ℕ) → Closure F G p → IsMarked m p
Searches-all F G n m s p (first h) = s.begun p h
Searches-all F G n m s p (onward {from} c g) = elim (s.closed from p (Searches-all F G n m s from c) g) [ inl no_work ↦ absurd (Contains-nil from no_work) | inr here ↦ here ]

no_items : (w : List ℕ) → length w ≡ 0 → w ≡ []
no_items [] e = refl
no_items (x ∷ w) e = absurd (omega arith)

pub Searches-end : (F : ℕ → Type 0) (G : ℕ → ℕ → Type 0) (n : ℕ) (m : List Bool) (w : List ℕ) → length w ≡ 0 → Searches F G n m w → (p : ℕ) → IsMarked m p ↔ Closure F G p
Searches-end F G n m w e s p = (s.sound p, Searches-all F G n m (rw (no_items w e) at s) p)
