-- Lines, one after another.
use Rattle.std.proofs.Common.{◌≡◌, ◌∙◌, refl, sym, ap, arith, ℕ, ◌+◌, ◌<◌, ◌≤◌, ◌==◌, nat_lt, Bool, true, false, cond, List, [], ◌∷◌, ◌++◌, length, take, drop, get_or, Option, Some, None}
use Rattle.std.specs.List.{position, position_or_len}
use Rattle.std.proofs.lemmas.List.{take_more}
use Rattle.std.proofs.lemmas.List.Splits.{slice_split_first, slice_split_none}
use Rattle.std.proofs.lemmas.List.Sums.{fails_before_first, passes_at_first}
use Rattle.oc2_nets.specs.Texts.{parts}
use Rattle.flow_engine_reports.specs.RunLines.{each_line, line_feed, lines_of}

abbrev is_feed : ℕ → Bool
is_feed c = c == line_feed

below : (i n : ℕ) → nat_lt i n ≡ true → i < n
below i n e = grind arith

above : (i n : ℕ) → nat_lt i n ≡ false → n ≤ i
above i n e = grind arith

feed-is : (c : ℕ) → (c == line_feed) ≡ true → c ≡ line_feed
feed-is c e = grind arith

record IsCutAt (text : List ℕ) (i : ℕ) : Type 0 where
  within : i < length text
  at : get_or text i 0 ≡ line_feed
  cut : parts line_feed text ≡ take i text ∷ parts line_feed (drop (i + 1) text)

cut-some : (text : List ℕ) (i : ℕ) → Some i ≡ position is_feed text → IsCutAt text i
cut-some text i is = go (nat_lt (position_or_len is_feed text) (length text)) refl is
  where
    go : (b : Bool) → b ≡ nat_lt (position_or_len is_feed text) (length text) → Some i ≡ cond b (Some (position_or_len is_feed text)) None → IsCutAt text i
    go false e f = absurd (cc)
    go true e f = let same : i ≡ position_or_len is_feed text = cc in let lt : position_or_len is_feed text < length text = below (position_or_len is_feed text) (length text) (sym e) in record {
      within = omega (arith, same, lt);
      at = ap (λ (n : ℕ). get_or text n 0) same ∙ feed-is (get_or text (position_or_len is_feed text) 0) (passes_at_first is_feed text 0 lt);
      cut = slice_split_first is_feed text 0 lt ∙ ap (λ (n : ℕ). take n text ∷ parts line_feed (drop (n + 1) text)) (sym same);
    }

cut-none : (text : List ℕ) → None ≡ position is_feed text → parts line_feed text ≡ text ∷ []
cut-none text is = go (nat_lt (position_or_len is_feed text) (length text)) refl is
  where
    go : (b : Bool) → b ≡ nat_lt (position_or_len is_feed text) (length text) → None ≡ cond b (Some (position_or_len is_feed text)) None → parts line_feed text ≡ text ∷ []
    go true e f = absurd (cc)
    go false e f = let le : length text ≤ position_or_len is_feed text = above (position_or_len is_feed text) (length text) (sym e) in
        slice_split_none is_feed text (λ k d lt. fails_before_first is_feed text k d (omega (arith, lt, le)))

-- there is a part behind each line feed
parts-some : (text : List ℕ) → (first : List ℕ) × ((more : List (List ℕ)) × (parts line_feed text ≡ first ∷ more))
parts-some text = go (position is_feed text) refl
  where
    go : (o : Option ℕ) → o ≡ position is_feed text → (first : List ℕ) × ((more : List (List ℕ)) × (parts line_feed text ≡ first ∷ more))
    go None e = (text, ([], cut-none text e))
    go (Some i) e = (take i text, (parts line_feed (drop (i + 1) text), (cut-some text i e).cut))

-- a line before others
each-more : (line : List ℕ) (others : List (List ℕ)) (first : List ℕ) (more : List (List ℕ)) → others ≡ first ∷ more → each_line (line ∷ others) ≡ (line ++ line_feed ∷ []) ∷ each_line others
each-more line others first more is =
    ap (λ (l : List (List ℕ)). each_line (line ∷ l)) is ∙ ap (λ (l : List (List ℕ)). (line ++ line_feed ∷ []) ∷ each_line l) (sym is)

pub next-some : (text : List ℕ) (i : ℕ) → Some i ≡ position is_feed text → lines_of text ≡ take (i + 1) text ∷ lines_of (drop (i + 1) text)
unfolding lines_of
next-some text i is =
    let k : IsCutAt text i = cut-some text i is in
    let some = parts-some (drop (i + 1) text) in
    let line : take i text ++ line_feed ∷ [] ≡ take (i + 1) text = ap (λ (c : ℕ). take i text ++ c ∷ []) (sym k.at) ∙ sym (take_more text i 0 k.within) in
    ap each_line k.cut ∙ each-more (take i text) (parts line_feed (drop (i + 1) text)) some.0 some.1.0 some.1.1
    ∙ ap (λ (l : List ℕ). l ∷ lines_of (drop (i + 1) text)) line

pub next-none : (text : List ℕ) → None ≡ position is_feed text → lines_of text ≡ []
unfolding lines_of
next-none text is = ap each_line (cut-none text is)
