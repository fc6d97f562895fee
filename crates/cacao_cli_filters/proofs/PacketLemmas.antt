-- Lines of a file, one after another.
use Rattle.std.proofs.Common.{◌≡◌, ◌∙◌, refl, sym, ap, arith, ℕ, ◌+◌, ◌<◌, ◌≤◌, ◌==◌, nat_lt, Bool, true, false, cond, List, [], ◌∷◌, ◌++◌, length, take, drop, Option, Some, None, Result, Ok, Err, append_assoc}
use Rattle.std.specs.Prelude.{if◌then◌else◌}
use Rattle.std.specs.List.{position, position_or_len}
use Rattle.std.specs.Str.{IsUtf8, is_utf8}
use Rattle.std.proofs.lemmas.List.Splits.{slice_split_first, slice_split_none}
use Rattle.std.proofs.lemmas.List.Sums.{fails_before_first}
use Rattle.std.proofs.lemmas.Str.{IsUtf8-from_is_utf8, is_utf8-from_IsUtf8}
use Rattle.oc2_nets.specs.declared.packets.Packet.{Packet}
use Rattle.oc2_nets.specs.Packets.{packet_of}
use Rattle.oc2_nets.specs.Texts.{parts}
use Rattle.cacao_cli_filters.specs.PacketFiles.{packet_in, onto, one_onto, packets_from, line_feed, packets_of}

abbrev is_feed : ℕ → Bool
is_feed c = c == line_feed

below : (i n : ℕ) → nat_lt i n ≡ true → i < n
below i n e = grind arith

above : (i n : ℕ) → nat_lt i n ≡ false → n ≤ i
above i n e = grind arith

-- ---- a line is cut off

pub record IsCutAt (text : List ℕ) (i : ℕ) : Type 0 where
  pub within : i < length text
  pub parts : parts line_feed text ≡ take i text ∷ parts line_feed (drop (i + 1) text)

pub cut-some : (text : List ℕ) (i : ℕ) → Some i ≡ position is_feed text → IsCutAt text i
cut-some text i is = go (nat_lt (position_or_len is_feed text) (length text)) refl is
  where
    go : (b : Bool) → b ≡ nat_lt (position_or_len is_feed text) (length text) → Some i ≡ cond b (Some (position_or_len is_feed text)) None → IsCutAt text i
    go false e f = absurd (cc)
    go true e f = let at : i ≡ position_or_len is_feed text = cc in let lt : position_or_len is_feed text < length text = below (position_or_len is_feed text) (length text) (sym e) in record {
      within = omega (arith, at, lt);
      parts = slice_split_first is_feed text 0 lt ∙ ap (λ (n : ℕ). take n text ∷ parts line_feed (drop (n + 1) text)) (sym at);
    }

pub cut-none : (text : List ℕ) → None ≡ position is_feed text → parts line_feed text ≡ text ∷ []
cut-none text is = go (nat_lt (position_or_len is_feed text) (length text)) refl is
  where
    go : (b : Bool) → b ≡ nat_lt (position_or_len is_feed text) (length text) → None ≡ cond b (Some (position_or_len is_feed text)) None → parts line_feed text ≡ text ∷ []
    go true e f = absurd (cc)
    go false e f = let le : length text ≤ position_or_len is_feed text = above (position_or_len is_feed text) (length text) (sym e) in
        slice_split_none is_feed text (λ k d lt. fails_before_first is_feed text k d (omega (arith, lt, le)))

-- ---- a line is read

pub read-some : (line : List ℕ) → IsUtf8 line → packet_of line ≡ packet_in line
read-some line is = ap (λ (b : Bool). if b then packet_of line else None) (sym (is_utf8-from_IsUtf8 line is))

pub read-none : (line : List ℕ) → (IsUtf8 line → ⊥) → None ≡ packet_in line
read-none line not_so = go (is_utf8 line) refl
  where
    go : (b : Bool) → b ≡ is_utf8 line → None ≡ (if b then packet_of line else None)
    go false e = refl
    go true e = absurd (not_so (IsUtf8-from_is_utf8 line (sym e)))

-- ---- the lines so far

-- there is a part behind each line feed
pub parts-some : (text : List ℕ) → (first : List ℕ) × ((more : List (List ℕ)) × (parts line_feed text ≡ first ∷ more))
parts-some text = go (position is_feed text) refl
  where
    go : (o : Option ℕ) → o ≡ position is_feed text → (first : List ℕ) × ((more : List (List ℕ)) × (parts line_feed text ≡ first ∷ more))
    go None e = (text, ([], cut-none text e))
    go (Some i) e = (take i text, (parts line_feed (drop (i + 1) text), (cut-some text i e).parts))

-- the packets of the lines are these and those of the rest
abbrev pub IsSoFar : List ℕ → List (ℕ × Packet) → ℕ → List ℕ → Type 0
IsSoFar text packets number rest = packets_of text ≡ onto packets (packets_from number (parts line_feed rest))

onto-nil : (r : Result (List (ℕ × Packet)) ℕ) → onto [] r ≡ r
onto-nil (Ok packets) = refl
onto-nil (Err number) = refl

onto-onto : (a b : List (ℕ × Packet)) (r : Result (List (ℕ × Packet)) ℕ) → onto a (onto b r) ≡ onto (a ++ b) r
onto-onto a b (Ok packets) = ap (λ (l : List (ℕ × Packet)). Ok l) (sym (append_assoc a b packets))
onto-onto a b (Err number) = refl

pub so_far-none : (text : List ℕ) → IsSoFar text [] 1 text
unfolding packets_of
so_far-none text = sym (onto-nil (packets_from 1 (parts line_feed text)))

from-line : (number : ℕ) (line behind : List ℕ) → packets_from number (line ∷ parts line_feed behind) ≡ one_onto number (packet_in line) (packets_from (number + 1) (parts line_feed behind))
from-line number line behind = let p = parts-some behind in
    ap (λ (l : List (List ℕ)). packets_from number (line ∷ l)) p.1.1 ∙ ap (λ (l : List (List ℕ)). one_onto number (packet_in line) (packets_from (number + 1) l)) (sym p.1.1)

pub so_far-more : (text : List ℕ) (packets : List (ℕ × Packet)) (number : ℕ) (rest line behind : List ℕ) (packet : ℕ × Packet) → IsSoFar text packets number rest → parts line_feed rest ≡ line ∷ parts line_feed behind → Some packet ≡ packet_in line
    → IsSoFar text (packets ++ packet ∷ []) (number + 1) behind
so_far-more text packets number rest line behind packet so cut is =
    so ∙ ap (λ (l : List (List ℕ)). onto packets (packets_from number l)) cut ∙ ap (onto packets) (from-line number line behind)
    ∙ ap (λ (o : Option (ℕ × Packet)). onto packets (one_onto number o (packets_from (number + 1) (parts line_feed behind)))) (sym is)
    ∙ onto-onto packets (packet ∷ []) (packets_from (number + 1) (parts line_feed behind))

pub so_far-bad : (text : List ℕ) (packets : List (ℕ × Packet)) (number : ℕ) (rest line behind : List ℕ) → IsSoFar text packets number rest → parts line_feed rest ≡ line ∷ parts line_feed behind → None ≡ packet_in line → packets_of text ≡ Err number
so_far-bad text packets number rest line behind so cut is =
    so ∙ ap (λ (l : List (List ℕ)). onto packets (packets_from number l)) cut ∙ ap (onto packets) (from-line number line behind)
    ∙ ap (λ (o : Option (ℕ × Packet)). onto packets (one_onto number o (packets_from (number + 1) (parts line_feed behind)))) (sym is)

append-nil : (packets : List (ℕ × Packet)) → packets ++ [] ≡ packets
append-nil [] = refl
append-nil (packet ∷ packets) = ap (λ (l : List (ℕ × Packet)). packet ∷ l) (append-nil packets)
