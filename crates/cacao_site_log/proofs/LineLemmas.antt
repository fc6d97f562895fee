-- A line more.
use Rattle.std.proofs.Common.{◌≡◌, ℕ, ◌+◌, ◌<◌, ◌≤◌, List, [], ◌∷◌, ◌++◌, length, take, get_or, All, slice_range, slice_get, Some, option_map, refl, suc, sym, ◌∙◌, ap, arith}
use Rattle.std.proofs.lemmas.Grind.{common_steps}
use Rattle.std.proofs.lemmas.List.{map-append, take_more}
use Rattle.std.proofs.lemmas.Option.{slice_get-get_or}
use Rattle.cacao_site_log.specs.declared.line.Line.{Line}
use Rattle.cacao_site_log.specs.SaidLines.{line_of, lines_of, LiesIn}

pub length-lines_of : (text : List ℕ) (lines : List Line) → length (lines_of text lines) ≡ length lines
length-lines_of text [] = grind arith
length-lines_of text (line ∷ later) = grind (arith, common_steps, length-lines_of text later)

-- a part of the text stays where more is added
pub range-append : (text bytes : List ℕ) (start end : ℕ) → start ≤ end → end ≤ length text → slice_range (text ++ bytes) start end ≡ slice_range text start end
range-append text bytes start end h k = grind (arith, common_steps)

-- what was added
pub range-added : (text bytes : List ℕ) (start end : ℕ) → start ≡ length text → end ≡ length text + length bytes → slice_range (text ++ bytes) start end ≡ bytes
range-added text bytes start end h k = grind (arith, common_steps)

pub lines_of-more : (text bytes : List ℕ) (n : ℕ) (lines : List Line) → n ≤ length text → All (LiesIn n) lines → lines_of (text ++ bytes) lines ≡ lines_of text lines
lines_of-more text bytes n [] le h = refl
lines_of-more text bytes n (line ∷ later) le h =
    let here : LiesIn n line = h 0 line (omega arith) in
    λ i. (line.beat, range-append text bytes line.start line.end here.0 (omega (arith, here.1)) i) ∷ lines_of-more text bytes n later le (λ k d lt. h (suc k) d (omega arith)) i

pub lines_of-push : (text bytes : List ℕ) (n : ℕ) (lines : List Line) (line : Line) → n ≡ length text → All (LiesIn n) lines → line.start ≡ n → line.end ≡ n + length bytes → lines_of (text ++ bytes) (lines ++ line ∷ []) ≡ lines_of text lines ++ (line.beat, bytes) ∷ []
lines_of-push text bytes n lines line is h s e =
    map-append (line_of (text ++ bytes)) lines (line ∷ [])
    ∙ (λ i. lines_of-more text bytes n lines (omega arith) h i ++ (line.beat, range-added text bytes line.start line.end (omega arith) (omega arith) i) ∷ [])

same_some : {T : Type 0} (x y : T) → Some x ≡ Some y → x ≡ y
same_some x y e = cc

-- the first lines, and the next one
pub line-next : (lines : List (ℕ × List ℕ)) (n beat : ℕ) (bytes : List ℕ) → n < length lines
    → option_map (λ (line : ℕ × List ℕ). line.0) (slice_get lines n) ≡ Some beat → option_map (λ (line : ℕ × List ℕ). line.1) (slice_get lines n) ≡ Some bytes
    → take n lines ++ (beat, bytes) ∷ [] ≡ take (n + 1) lines
line-next lines n beat bytes lt at_beat of_bytes =
    let d : ℕ × List ℕ = (0, []) in
    let e = slice_get-get_or lines n d lt in
    let one = same_some beat (get_or lines n d).0 (sym at_beat ∙ ap (option_map (λ (line : ℕ × List ℕ). line.0)) e) in
    let two = same_some bytes (get_or lines n d).1 (sym of_bytes ∙ ap (option_map (λ (line : ℕ × List ℕ). line.1)) e) in
    (λ i. take n lines ++ (one i, two i) ∷ []) ∙ sym (take_more lines n d lt)

pub ruleset line_count = (length-lines_of)
