-- The least moments of blocks.
use Rattle.std.proofs.Common.{◌≡◌, ◌⊎◌, inl, inr, ℕ, suc, ◌+◌, ◌*◌, ◌/◌, ◌<◌, ◌≤◌, min, Bool, true, false, cond, ◌||◌, Option, Some, None, List, [], ◌∷◌, ◌++◌, length, set, get_or, arith, refl, sym, ap, ◌∙◌, subst, get_or-set_same, get_or-set_other, length-set, length-append}
use Rattle.std.specs.Prelude.{slice_get, nat_le, IfSome, is_some, count_by}
use Rattle.std.proofs.lemmas.Bool.{cases_eq, cases_lt, cases_Bool, false≢true, or_cases, or_left, or_right, le-leb, leb-true}
use Rattle.std.proofs.lemmas.Bool.Decides.{nat_tests}
use Rattle.std.proofs.lemmas.List.{get_or_past}
use Rattle.std.proofs.lemmas.Option.{none-some}
use Rattle.base_dues.specs.Pairs.{at, is_by, IsFirstBy, listed}
use Rattle.base_dues.specs.Least.{sooner, IsLeast, AreLeast, IsKept, IsFirstWithin}
use Rattle.base_dues.proofs.ListedLemmas.{at-listed, IsQueue-listed, get_push_none, count_push, count_put, none_counted}
use Rattle.base_dues.proofs.FirstLemmas.{first_pair, no_pairs}

or_false : (b : Bool) → b ≡ (b || false)
or_false true = refl
or_false false = refl

le_min : (t a b : ℕ) → nat_le (min a b) t ≡ (nat_le a t || nat_le b t)
le_min t a b = grind (arith, nat_tests)

is_by-sooner : (t : ℕ) (a b : Option ℕ) → is_by t (sooner a b) ≡ (is_by t a || is_by t b)
is_by-sooner t None b = refl
is_by-sooner t (Some a) None = or_false (nat_le a t)
is_by-sooner t (Some a) (Some b) = le_min t a b

sooner_left : (t : ℕ) (a b : Option ℕ) → is_by t a ≡ true → is_by t (sooner a b) ≡ true
sooner_left t a b h = is_by-sooner t a b ∙ or_left (is_by t a) (is_by t b) h

sooner_right : (t : ℕ) (a b : Option ℕ) → is_by t b ≡ true → is_by t (sooner a b) ≡ true
sooner_right t a b h = is_by-sooner t a b ∙ or_right (is_by t a) (is_by t b) h

sooner_cases : (t : ℕ) (a b : Option ℕ) → is_by t (sooner a b) ≡ true → (is_by t a ≡ true) ⊎ (is_by t b ≡ true)
sooner_cases t a b h = or_cases (is_by t a) (is_by t b) (sym (is_by-sooner t a b) ∙ h)

both : (b : Bool) → b ≡ false → b ≡ true → ⊥
both b f t = false≢true (sym f ∙ t)

-- ---- one range

pub IsLeast-none : (ms : List (Option ℕ)) (from to : ℕ) → to ≤ from → IsLeast ms from to None
IsLeast-none ms from to le = record { bound = λ t k a b h. absurd (omega arith); reached = λ t h none. false≢true h }

pub IsLeast-more : (ms : List (Option ℕ)) (from n : ℕ) (o : Option ℕ) → from ≤ n → IsLeast ms from n o → IsLeast ms from (n + 1) (sooner o (get_or ms n None))
IsLeast-more ms from n o le l = record {
  bound = λ t k a b h. elim (cases_eq k n) [
    | inl same ↦ sooner_right t o (get_or ms n None) (ap (λ j. is_by t (get_or ms j None)) (sym same) ∙ h)
    | inr other ↦ sooner_left t o (get_or ms n None) (l.bound t k a (omega arith) h)
  ];
  reached = λ t h none. elim (sooner_cases t o (get_or ms n None) h) [
    | inl left ↦ l.reached t left (λ k a b. none k a (omega arith))
    | inr right ↦ both (is_by t (get_or ms n None)) (none n le (omega arith)) right
  ];
}

IsLeast-same : (ms new : List (Option ℕ)) (from to : ℕ) (o : Option ℕ) → ((k : ℕ) → from ≤ k → k < to → get_or new k None ≡ get_or ms k None) → IsLeast ms from to o → IsLeast new from to o
IsLeast-same ms new from to o same l = record {
  bound = λ t k a b h. l.bound t k a b (ap (λ v. is_by t v) (sym (same k a b)) ∙ h);
  reached = λ t h none. l.reached t h (λ k a b. ap (λ v. is_by t v) (sym (same k a b)) ∙ none k a b);
}

sooner_last : (t : ℕ) (old new : Option ℕ) → sooner old new ≡ new → is_by t old ≡ true → is_by t new ≡ true
sooner_last t old new e h = subst (λ (o : Option ℕ). is_by t o ≡ true) e (sooner_left t old new h)

not_before : (t : ℕ) (old new : Option ℕ) → sooner old new ≡ new → is_by t new ≡ false → is_by t old ≡ false
not_before t old new e late = elim (cases_Bool (is_by t old)) [
  | inl early ↦ absurd (both (is_by t new) late (sooner_last t old new e early))
  | inr is_late ↦ is_late
]

-- a number gets a moment that is no later than the one before it
pub IsLeast-sooner : (ms : List (Option ℕ)) (from to n : ℕ) (o new : Option ℕ) → from ≤ n → n < to → n < length ms → sooner (get_or ms n None) new ≡ new → IsLeast ms from to o → IsLeast (set ms n new) from to (sooner o new)
IsLeast-sooner ms from to n o new ge lt in_list early l =
    let here : get_or (set ms n new) n None ≡ new = get_or-set_same ms n new None in_list in
    record {
      bound = λ t k a b h. elim (cases_eq k n) [
        | inl same ↦ sooner_right t o new (ap (λ v. is_by t v) (sym here) ∙ ap (λ j. is_by t (get_or (set ms n new) j None)) (sym same) ∙ h)
        | inr other ↦ sooner_left t o new (l.bound t k a b (ap (λ v. is_by t v) (sym (get_or-set_other ms n k new None other)) ∙ h))
      ];
      reached = λ t h none.
          let late : is_by t new ≡ false = ap (λ v. is_by t v) (sym here) ∙ none n ge lt in
          elim (sooner_cases t o new h) [
            | inl left ↦ l.reached t left (λ k a b. elim (cases_eq k n) [
              | inl same ↦ ap (λ j. is_by t (get_or ms j None)) same ∙ not_before t (get_or ms n None) new early late
              | inr other ↦ ap (λ v. is_by t v) (sym (get_or-set_other ms n k new None other)) ∙ none k a b
            ])
            | inr right ↦ both (is_by t new) late right
          ];
    }

itself : (m : ℕ) → is_by m (Some m) ≡ true
itself m = le-leb m m (omega arith)

later_by : (t m : ℕ) (o : Option ℕ) → m ≤ t → is_by m o ≡ true → is_by t o ≡ true
later_by t m None le h = absurd (false≢true h)
later_by t m (Some x) le h = let below : x ≤ m = leb-true x m h in le-leb x t (omega arith)

not_later_by : (t m : ℕ) (o : Option ℕ) → m ≤ t → is_by t o ≡ false → is_by m o ≡ false
not_later_by t m o le late = elim (cases_Bool (is_by m o)) [
  | inl early ↦ absurd (both (is_by t o) late (later_by t m o le early))
  | inr is_late ↦ is_late
]

-- where a number had a moment later than the least one, some other number has the least one
other_least : (ms : List (Option ℕ)) (from to n t : ℕ) (o : Option ℕ) → ((m : ℕ) → o ≡ Some m → is_by m (get_or ms n None) ≡ false) → IsLeast ms from to o
    → is_by t o ≡ true → ((k : ℕ) → from ≤ k → k < to → (k ≡ n → ⊥) → is_by t (get_or ms k None) ≡ false) → ⊥
other_least ms from to n t None later l early none = false≢true early
other_least ms from to n t (Some m) later l early none =
    let le : m ≤ t = leb-true m t early in
    l.reached m (itself m) (λ k a b. elim (cases_eq k n) [
      | inl same ↦ ap (λ j. is_by m (get_or ms j None)) same ∙ later m refl
      | inr other ↦ not_later_by t m (get_or ms k None) le (none k a b other)
    ])

-- a number gets another moment, and the one before it was later than the least one
pub IsLeast-later : (ms : List (Option ℕ)) (from to n : ℕ) (o new : Option ℕ) → from ≤ n → n < to → n < length ms → ((m : ℕ) → o ≡ Some m → is_by m (get_or ms n None) ≡ false)
    → IsLeast ms from to o → IsLeast (set ms n new) from to (sooner o new)
IsLeast-later ms from to n o new ge lt in_list later l =
    let here : get_or (set ms n new) n None ≡ new = get_or-set_same ms n new None in_list in
    record {
      bound = λ t k a b h. elim (cases_eq k n) [
        | inl same ↦ sooner_right t o new (ap (λ v. is_by t v) (sym here) ∙ ap (λ j. is_by t (get_or (set ms n new) j None)) (sym same) ∙ h)
        | inr other ↦ sooner_left t o new (l.bound t k a b (ap (λ v. is_by t v) (sym (get_or-set_other ms n k new None other)) ∙ h))
      ];
      reached = λ t h none. elim (sooner_cases t o new h) [
        | inl left ↦ other_least ms from to n t o later l left (λ k a b other. ap (λ v. is_by t v) (sym (get_or-set_other ms n k new None other)) ∙ none k a b)
        | inr right ↦ both (is_by t new) (ap (λ v. is_by t v) (sym here) ∙ none n ge lt) right
      ];
    }

-- ---- all blocks

pub AreLeast-put : (ms ls : List (Option ℕ)) (n : ℕ) (new o : Option ℕ) → AreLeast ms ls → n < length ms
    → IsLeast (set ms n new) (32 * (n / 32)) (32 * (n / 32) + 32) o → AreLeast (set ms n new) (set ls (n / 32) o)
AreLeast-put ms ls n new o all lt block =
    let covers = all.covers in
    let inside : n / 32 < length ls = omega arith in
    record {
      covers = omega (arith, length-set ms n new, length-set ls (n / 32) o);
      blocks = λ b below. elim (cases_eq b (n / 32)) [
        | inl same ↦ rw (same, get_or-set_same ls (n / 32) o None inside) block
        | inr other ↦ rw (get_or-set_other ls (n / 32) b o None other) (IsLeast-same ms (set ms n new) (32 * b) (32 * b + 32) (get_or ls b None)
            (λ k a z. get_or-set_other ms n k new None (λ e. other (omega arith))) (all.blocks b (omega (arith, length-set ls (n / 32) o))))
      ];
    }

-- the block of a number is there
pub block_there : (ms ls : List (Option ℕ)) (n : ℕ) → AreLeast ms ls → n < length ms → n / 32 < length ls
block_there ms ls n all lt = let covers = all.covers in omega arith

-- a number gets a moment that is no later than the one before it
pub AreLeast-sooner : (ms ls : List (Option ℕ)) (n : ℕ) (before block new o : Option ℕ) → AreLeast ms ls → n < length ms → before ≡ get_or ms n None
    → sooner before new ≡ new → block ≡ get_or ls (n / 32) None → o ≡ sooner block new → AreLeast (set ms n new) (set ls (n / 32) o)
AreLeast-sooner ms ls n before block new o all lt was early read e =
    let covers = all.covers in
    let inside : n / 32 < length ls = omega arith in
    let there : sooner (get_or ms n None) new ≡ new = ap (λ v. sooner v new) (sym was) ∙ early in
    let left : IsLeast ms (32 * (n / 32)) (32 * (n / 32) + 32) block = subst (λ (l : Option ℕ). IsLeast ms (32 * (n / 32)) (32 * (n / 32) + 32) l) (sym read) (all.blocks (n / 32) inside) in
    AreLeast-put ms ls n new o all lt (rw e (IsLeast-sooner ms (32 * (n / 32)) (32 * (n / 32) + 32) n block new (omega arith) (omega arith) lt there left))

-- a number gets another moment, and the one before it was later than the least one of its block
pub AreLeast-later : (ms ls : List (Option ℕ)) (n : ℕ) (before block new o : Option ℕ) → AreLeast ms ls → n < length ms → before ≡ get_or ms n None
    → ((m : ℕ) → block ≡ Some m → is_by m before ≡ false) → block ≡ get_or ls (n / 32) None → o ≡ sooner block new → AreLeast (set ms n new) (set ls (n / 32) o)
AreLeast-later ms ls n before block new o all lt was later read e =
    let covers = all.covers in
    let inside : n / 32 < length ls = omega arith in
    let left : IsLeast ms (32 * (n / 32)) (32 * (n / 32) + 32) block = subst (λ (l : Option ℕ). IsLeast ms (32 * (n / 32)) (32 * (n / 32) + 32) l) (sym read) (all.blocks (n / 32) inside) in
    AreLeast-put ms ls n new o all lt (rw e (IsLeast-later ms (32 * (n / 32)) (32 * (n / 32) + 32) n block new (omega arith) (omega arith) lt
    (λ m is. ap (λ v. is_by m v) (sym was) ∙ later m is) left))

-- a number gets another moment, and its block is looked through
pub AreLeast-again : (ms ls l : List (Option ℕ)) (n : ℕ) (new o : Option ℕ) → AreLeast ms ls → n < length ms → l ≡ set ms n new
    → IsLeast l (32 * (n / 32)) (32 * (n / 32) + 32) o → AreLeast (set ms n new) (set ls (n / 32) o)
AreLeast-again ms ls l n new o all lt e block =
    AreLeast-put ms ls n new o all lt (subst (λ (m : List (Option ℕ)). IsLeast m (32 * (n / 32)) (32 * (n / 32) + 32) o) e block)

-- where no number of a range has a moment, there is no least one
quiet_least : (ms : List (Option ℕ)) (from to : ℕ) (o : Option ℕ) → ((k : ℕ) → from ≤ k → k < to → get_or ms k None ≡ None) → IsLeast ms from to o → o ≡ None
quiet_least ms from to None quiet l = refl
quiet_least ms from to (Some m) quiet l = absurd (l.reached m (itself m) (λ k a b. ap (λ v. is_by m v) (quiet k a b)))

-- no other number has a moment
abbrev IsAlone : List (Option ℕ) → ℕ → Type 0
IsAlone ms n = (k : ℕ) → (k ≡ n → ⊥) → get_or ms k None ≡ None

alone_above : (ms ls : List (Option ℕ)) (n : ℕ) → AreLeast ms ls → IsAlone ms n → IsAlone ls (n / 32)
alone_above ms ls n all alone b other = elim (cases_lt b (length ls)) [
  | inl inside ↦ quiet_least ms (32 * b) (32 * b + 32) (get_or ls b None) (λ k a z. alone k (λ e. other (omega arith))) (all.blocks b inside)
  | inr past ↦ get_or_past ls b None past
]

IsLeast-alone : (ms : List (Option ℕ)) (from to n : ℕ) (new : Option ℕ) → from ≤ n → n < to → n < length ms → IsAlone ms n → IsLeast (set ms n new) from to new
IsLeast-alone ms from to n new ge lt in_list alone =
    let here : get_or (set ms n new) n None ≡ new = get_or-set_same ms n new None in_list in
    record {
      bound = λ t k a b h. elim (cases_eq k n) [
        | inl same ↦ ap (λ v. is_by t v) (sym here) ∙ ap (λ j. is_by t (get_or (set ms n new) j None)) (sym same) ∙ h
        | inr other ↦ absurd (both (is_by t (get_or (set ms n new) k None)) (ap (λ v. is_by t v) (get_or-set_other ms n k new None other ∙ alone k other)) h)
      ];
      reached = λ t h none. both (is_by t new) (ap (λ v. is_by t v) (sym here) ∙ none n ge lt) h;
    }

AreLeast-alone : (ms ls : List (Option ℕ)) (n : ℕ) (new : Option ℕ) → AreLeast ms ls → n < length ms → IsAlone ms n → AreLeast (set ms n new) (set ls (n / 32) new)
AreLeast-alone ms ls n new all lt alone =
    AreLeast-put ms ls n new new all lt (IsLeast-alone ms (32 * (n / 32)) (32 * (n / 32) + 32) n new (omega arith) (omega arith) lt alone)

-- a number more, without a moment
pub AreLeast-number : (ms ls : List (Option ℕ)) → AreLeast ms ls → length ms < 32 * length ls → AreLeast (ms ++ None ∷ []) ls
AreLeast-number ms ls all room = record {
  covers = omega (arith, length-append ms (None ∷ []));
  blocks = λ b below. IsLeast-same ms (ms ++ None ∷ []) (32 * b) (32 * b + 32) (get_or ls b None) (λ k a z. get_push_none ms k) (all.blocks b below);
}

-- one number more, with room at each level
pub kept_more : (ms low middle high new_low new_middle new_high new : List (Option ℕ)) (count : ℕ) → IsKept ms low middle high count
    → AreLeast middle new_high → length middle < 32 * length new_high → length new_high ≤ 4294967296
    → AreLeast low new_middle → length low < 32 * length new_middle → length new_middle ≤ 4294967296
    → ((above : List (Option ℕ)) → AreLeast middle above → length middle < 32 * length above → AreLeast new_middle above)
    → AreLeast ms new_low → length ms < 32 * length new_low → length new_low ≤ 4294967296
    → ((above : List (Option ℕ)) → AreLeast low above → length low < 32 * length above → AreLeast new_low above)
    → new ≡ ms ++ None ∷ [] → length ms + 1 < 4294967296 → IsKept new new_low new_middle new_high count
kept_more ms low middle high new_low new_middle new_high new count k high_tells high_room high_few middle_tells middle_room middle_few middle_above low_tells low_room low_few low_above e lt = record {
  low_of = subst (λ (l : List (Option ℕ)). AreLeast l new_low) (sym e) (AreLeast-number ms new_low low_tells low_room);
  middle_of = low_above new_middle middle_tells middle_room;
  high_of = middle_above new_high high_tells high_room;
  counted = k.counted ∙ sym (ap (λ (l : List (Option ℕ)). count_by is_some l) e ∙ count_push ms);
  small = subst (λ (l : List (Option ℕ)). length l < 4294967296) (sym e) (omega (arith, length-append ms (None ∷ [])));
  few_low = low_few;
  few_middle = middle_few;
  few_high = high_few;
}

-- where as many numbers have a moment as this one makes by itself, no other one has
alone_counted : (ms : List (Option ℕ)) (count n r : ℕ) (before due : Option ℕ) → count ≡ count_by is_some ms → n < length ms → before ≡ get_or ms n None
    → r + cond (is_some before) 1 0 ≡ count + cond (is_some due) 1 0 → r ≡ cond (is_some due) 1 0 → IsAlone ms n
alone_counted ms count n r before due counted lt was sum one k other =
    let put = count_put ms n before None lt was in
    let empty : count_by is_some (set ms n None) ≡ 0 = omega (arith, counted, sum, one, put) in
    sym (get_or-set_other ms n k None None other) ∙ none_counted (set ms n None) k empty

-- a number gets a moment, or loses it, and no other one has any
pub kept_alone : (ms low middle high : List (Option ℕ)) (count n r : ℕ) (before due : Option ℕ) → IsKept ms low middle high count → n < length ms → before ≡ get_or ms n None
    → r + cond (is_some before) 1 0 ≡ count + cond (is_some due) 1 0 → r ≡ cond (is_some due) 1 0
    → IsKept (set ms n due) (set low (n / 32) due) (set middle (n / 32 / 32) due) (set high (n / 32 / 32 / 32) due) r
kept_alone ms low middle high count n r before due k lt was sum one =
    let alone : IsAlone ms n = alone_counted ms count n r before due k.counted lt was sum one in
    let alone_low : IsAlone low (n / 32) = alone_above ms low n k.low_of alone in
    let alone_middle : IsAlone middle (n / 32 / 32) = alone_above low middle (n / 32) k.middle_of alone_low in
    let in_low : n / 32 < length low = block_there ms low n k.low_of lt in
    record {
      low_of = AreLeast-alone ms low n due k.low_of lt alone;
      middle_of = AreLeast-alone low middle (n / 32) due k.middle_of in_low alone_low;
      high_of = AreLeast-alone middle high (n / 32 / 32) due k.high_of (block_there low middle (n / 32) k.middle_of in_low) alone_middle;
      counted = let counted = k.counted in let put = count_put ms n before due lt was in omega (arith, counted, sum, put);
      small = let small = k.small in omega (arith, length-set ms n due);
      few_low = let few = k.few_low in omega (arith, length-set low (n / 32) due);
      few_middle = let few = k.few_middle in omega (arith, length-set middle (n / 32 / 32) due);
      few_high = let few = k.few_high in omega (arith, length-set high (n / 32 / 32 / 32) due);
    }

-- ---- the first number by a moment

past_none : (t : ℕ) (ms : List (Option ℕ)) (k : ℕ) → length ms ≤ k → is_by t (get_or ms k None) ≡ false
past_none t ms k past = ap (λ v. is_by t v) (get_or_past ms k None past)

-- no number of a block is in time where its least moment is not
pub late_block : (t from to k : ℕ) (ms : List (Option ℕ)) (o : Option ℕ) → IsLeast ms from to o → is_by t o ≡ false → from ≤ k → k < to → is_by t (get_or ms k None) ≡ false
late_block t from to k ms o l late a b = elim (cases_Bool (is_by t (get_or ms k None))) [
  | inl yes_by ↦ absurd (both (is_by t o) late (l.bound t k a b yes_by))
  | inr no_by ↦ no_by
]

-- nor of the blocks before one
before_block : (t n : ℕ) (ms ls : List (Option ℕ)) → AreLeast ms ls → ((b : ℕ) → b < n → is_by t (get_or ls b None) ≡ false) → (k : ℕ) → k < 32 * n → is_by t (get_or ms k None) ≡ false
before_block t n ms ls all none k lt = elim (cases_lt k (length ms)) [
  | inl inside ↦
      let covers = all.covers in
      let below : k / 32 < length ls = omega arith in
      late_block t (32 * (k / 32)) (32 * (k / 32) + 32) k ms (get_or ls (k / 32) None) (all.blocks (k / 32) below) (none (k / 32) (omega arith)) (omega arith) (omega arith)
  | inr past ↦ past_none t ms k past
]

pub none_under : (t : ℕ) (ms ls : List (Option ℕ)) → AreLeast ms ls → IsFirstBy t (λ k. get_or ls k None) None → IsFirstBy t (λ k. get_or ms k None) None
none_under t ms ls all none = λ k. before_block t (suc k) ms ls all (λ b lt. none b) k (omega arith)

pub found_there : (t from to : ℕ) (ms : List (Option ℕ)) (least o : Option ℕ) → IsLeast ms from to least → is_by t least ≡ true
    → ((k : ℕ) → k < from → is_by t (get_or ms k None) ≡ false) → IsFirstWithin ms from to t o → IsFirstBy t (λ k. get_or ms k None) o
found_there t from to ms least None l early none h = absurd (l.reached t early h)
found_there t from to ms least (Some n) l early none h = (h.2, λ k lt. elim (cases_lt k from) [ inl before ↦ none k before | inr here ↦ h.3 k here lt ])

-- the first number is in the first block that has one
pub found_under : (t n : ℕ) (ms ls : List (Option ℕ)) (o : Option ℕ) → AreLeast ms ls → n < length ls → IsFirstBy t (λ k. get_or ls k None) (Some n)
    → IsFirstWithin ms (32 * n) (32 * n + 32) t o → IsFirstBy t (λ k. get_or ms k None) o
found_under t n ms ls o all inside h within =
    found_there t (32 * n) (32 * n + 32) ms (get_or ls n None) o (all.blocks n inside) h.0 (before_block t n ms ls all h.1) within

pub in_list : (t : ℕ) (ms : List (Option ℕ)) (o : Option ℕ) → IsFirstBy t (λ k. get_or ms k None) o → IfSome o (λ n. n < length ms)
in_list t ms None h = tt
in_list t ms (Some n) h = elim (cases_lt n (length ms)) [
  | inl inside ↦ inside
  | inr past ↦ absurd (both (is_by t (get_or ms n None)) (past_none t ms n past) h.0)
]

pub first_at : (t : ℕ) (ms : List (Option ℕ)) (o : Option ℕ) → IsFirstBy t (λ k. get_or ms k None) o → IsFirstBy t (at (listed ms)) o
first_at t ms None h = λ k. ap (λ v. is_by t v) (at-listed ms k) ∙ h k
first_at t ms (Some n) h = (ap (λ v. is_by t v) (at-listed ms n) ∙ h.0, λ k lt. ap (λ v. is_by t v) (at-listed ms k) ∙ h.1 k lt)

-- the one number that has a moment
pub only_first : (t : ℕ) (ms : List (Option ℕ)) (count n due : ℕ) → count ≡ count_by is_some ms → count ≡ 1 → Some due ≡ get_or ms n None
    → IsFirstBy t (λ k. get_or ms k None) (cond (nat_le due t) (Some n) None)
only_first t ms count n due counted one has = elim (cases_lt n (length ms)) [
  | inl inside ↦ by (alone_counted ms count n count (Some due) (Some due) counted inside has refl one) (nat_le due t) refl
  | inr past ↦ absurd (none-some due (sym (get_or_past ms n None past) ∙ sym has))
]
  where
    by : IsAlone ms n → (b : Bool) → nat_le due t ≡ b → IsFirstBy t (λ k. get_or ms k None) (cond b (Some n) None)
    by alone true early = (ap (λ v. is_by t v) (sym has) ∙ early, λ k lt. ap (λ v. is_by t v) (alone k (omega arith)))
    by alone false late = λ k. elim (cases_eq k n) [
      | inl same ↦ ap (λ j. is_by t (get_or ms j None)) same ∙ ap (λ v. is_by t v) (sym has) ∙ late
      | inr other ↦ ap (λ v. is_by t v) (alone k other)
    ]

-- ---- the least pair

-- the least of the blocks' least moments is the least moment
pub IsLeast-under : (ms ls : List (Option ℕ)) (o : Option ℕ) → AreLeast ms ls → IsLeast ls 0 (length ls) o → IsLeast ms 0 (length ms) o
IsLeast-under ms ls o all top = record {
  bound = λ t k a inside h.
      let covers = all.covers in
      let below : k / 32 < length ls = omega arith in
      top.bound t (k / 32) (omega arith) below ((all.blocks (k / 32) below).bound t k (omega arith) (omega arith) h);
  reached = λ t h none. top.reached t h (λ b a below. elim (cases_Bool (is_by t (get_or ls b None))) [
    | inl early ↦ absurd ((all.blocks b below).reached t early (λ k x y. elim (cases_lt k (length ms)) [
      | inl inside ↦ none k (omega arith) inside
      | inr past ↦ past_none t ms k past
    ]))
    | inr late ↦ late
  ]);
}

pub kept_least : (ms low middle high : List (Option ℕ)) (count : ℕ) (o : Option ℕ) → IsKept ms low middle high count → IsLeast high 0 (length high) o → IsLeast ms 0 (length ms) o
kept_least ms low middle high count o k top =
    IsLeast-under ms low o k.low_of (IsLeast-under low middle o k.middle_of (IsLeast-under middle high o k.high_of top))

-- each moment is by the least of all
reaches : (ms : List (Option ℕ)) (o : Option ℕ) (k m : ℕ) → IsLeast ms 0 (length ms) o → get_or ms k None ≡ Some m → is_by m o ≡ true
reaches ms o k m top e = elim (cases_lt k (length ms)) [
  | inl inside ↦ top.bound m k (omega arith) inside (ap (λ v. is_by m v) e ∙ itself m)
  | inr past ↦ absurd (none-some m (sym (get_or_past ms k None past) ∙ e))
]

none_of : (o : Option ℕ) → ((m : ℕ) → o ≡ Some m → ⊥) → o ≡ None
none_of None h = refl
none_of (Some m) h = absurd (h m refl)

pub first_none : (ms : List (Option ℕ)) → IsLeast ms 0 (length ms) None → slice_get (listed ms) 0 ≡ None
first_none ms top =
    ap (λ ds. slice_get ds 0) (no_pairs (listed ms) (λ k. at-listed ms k ∙ none_of (get_or ms k None) (λ m e. false≢true (reaches ms None k m top e))))

-- the least moment of all is that of some number
pub first_found : (ms : List (Option ℕ)) (moment : ℕ) → IsLeast ms 0 (length ms) (Some moment) → IsFirstBy moment (at (listed ms)) None → ⊥
first_found ms moment top none = top.reached moment (itself moment) (λ k x y. ap (λ v. is_by moment v) (sym (at-listed ms k)) ∙ none k)

some_by : (t : ℕ) (o : Option ℕ) → is_by t o ≡ true → (m : ℕ) × (o ≡ Some m) × (m ≤ t)
some_by t None h = absurd (false≢true h)
some_by t (Some m) h = (m, refl, leb-true m t h)

pub first_some : (ms : List (Option ℕ)) (moment n : ℕ) → IsLeast ms 0 (length ms) (Some moment) → IsFirstBy moment (at (listed ms)) (Some n)
    → slice_get (listed ms) 0 ≡ Some (moment, n)
first_some ms moment n top h =
    let low : (k l : ℕ) → at (listed ms) k ≡ Some l → moment ≤ l = λ k l e. leb-true moment l (reaches ms (Some moment) k l top (sym (at-listed ms k) ∙ e)) in
    let has = some_by moment (at (listed ms) n) h.0 in
    let ge : moment ≤ has.0 = low n has.0 has.1 in
    let same : has.0 ≡ moment = omega (arith, has.2, ge) in
    first_pair (listed ms) moment n (IsQueue-listed ms).rises (has.1 ∙ ap (λ m. Some m) same)
    (λ k l e. (
      low k l e,
      λ lt.
          let le : moment ≤ l = low k l e in
          elim (cases_lt moment l) [
            | inl less ↦ less
            | inr more ↦ absurd (both (is_by moment (at (listed ms) k)) (h.1 k lt) (ap (λ v. is_by moment v) e ∙ le-leb l moment more))
          ],
    ))
