-- The laws of the lines of a wire.
use Rattle.std.proofs.Common.{◌≡◌, ◌≢◌, ◌∙◌, ◌<◌, ◌≤◌, ◌^◌, ℕ, Bool, true, false, List, [], ◌∷◌, ◌++◌, length, get_or, Option, Some, None, refl, ap, sym, subst, arith, length-append}
use Rattle.std.specs.Fmt.{decimal}
use Rattle.std.proofs.lemmas.Fmt.{length-decimal-le}
use Rattle.std.proofs.lemmas.List.Elements.{All-cons, All-append}
use Rattle.std.proofs.lemmas.Option.{same_Some}
use Rattle.cacao_site.specs.declared.parcel.Parcel.{Parcel}
use Rattle.oc2_wire_lines.specs.Lines.{IsCarried, IsOneLine, Reads, carries, passes, Spells, letter, line_of, most_line}
use Rattle.oc2_wire_lines.specs.LineReading.{line_read}
use Rattle.oc2_wire_lines.specs.Laws.{LinesSpellOne, LinesReadOneWay, CarriedReadBack}
use Rattle.oc2_wire_lines.proofs.LineLemmas.{body_line, body_of, line_again, line_is, no_digit, spelled, spells_body}

same_letter : (a b : Bool) → letter a ≡ letter b → a ≡ b
same_letter true true e = refl
same_letter true false e = absurd (omega arith)
same_letter false true e = absurd (omega arith)
same_letter false false e = refl

pub lines_spell_one : LinesSpellOne
lines_spell_one line a b of_a of_b =
    let whole : body_of a ≡ body_of b = sym (spelled line a of_a) ∙ spelled line b of_b in
    let way : a.back ≡ b.back = same_letter a.back b.back (ap (λ l. get_or l 0 0) whole) in
    let first : line_read b.back line ≡ Some a = subst (λ (back : Bool). line_read back line ≡ Some a) way (line_again line a of_a) in
    same_Some _ _ (sym first ∙ line_again line b of_b)

none_read : (back : Bool) (line : List ℕ) (o : Option Parcel) → line_read back line ≡ o → ((parcel : Parcel) → Spells line parcel → parcel.back ≡ back → ⊥) → None ≡ o
none_read back line None e other = refl
none_read back line (Some parcel) e other = let is = line_is back line parcel e in absurd (other parcel is.0 is.1)

read_is : (back : Bool) (line : List ℕ) (o : Option Parcel) → Reads back line o → o ≡ line_read back line
read_is back line (Some _) (carries parcel spells same) = sym (subst (λ (b : Bool). line_read b line ≡ Some parcel) same (line_again line parcel spells))
read_is back line None (passes other) = none_read back line (line_read back line) refl other

pub lines_read_one_way : LinesReadOneWay
lines_read_one_way back line a b of_a of_b = read_is back line a of_a ∙ sym (read_is back line b of_b)

-- ---- The line of what a line can carry

letter_is_no_feed : (back : Bool) → letter back ≢ 10
letter_is_no_feed true e = absurd (omega arith)
letter_is_no_feed false e = absurd (omega arith)

field_is_one_line : (n : ℕ) (rest : List ℕ) → n < 2 ^ 64 → IsOneLine rest → IsOneLine (decimal n ++ (32 ∷ rest))
field_is_one_line n rest small one = All-append (λ c. c ≢ 10) (decimal n) (32 ∷ rest) (no_digit 10 n small (omega arith)) (All-cons (λ c. c ≢ 10) 32 rest (λ e. absurd (omega arith)) one)

body_is_one_line : (parcel : Parcel) → IsCarried parcel → IsOneLine (body_of parcel)
body_is_one_line parcel carried =
    let issue : IsOneLine (decimal parcel.issue ++ (32 ∷ parcel.bytes)) = field_is_one_line parcel.issue parcel.bytes (omega (arith, carried.issue_high)) carried.one_line in
    let run : IsOneLine (decimal parcel.run ++ (32 ∷ (decimal parcel.issue ++ (32 ∷ parcel.bytes)))) = field_is_one_line parcel.run _ (omega (arith, carried.run_high)) issue in
    let fields : List ℕ = decimal parcel.agent ++ (32 ∷ (decimal parcel.run ++ (32 ∷ (decimal parcel.issue ++ (32 ∷ parcel.bytes))))) in
    let agent : IsOneLine fields = field_is_one_line parcel.agent _ (omega (arith, carried.agent_high)) run in
    All-cons (λ c. c ≢ 10) (letter parcel.back) (32 ∷ fields) (letter_is_no_feed parcel.back) (All-cons (λ c. c ≢ 10) 32 fields (λ e. absurd (omega arith)) agent)

fields_length : (a b c text : List ℕ) → length a ≤ 2 → length b ≤ 16 → length c ≤ 10 → length text ≤ 1_048_576
    → length (a ++ (32 ∷ (b ++ (32 ∷ (c ++ (32 ∷ (text ++ (10 ∷ [])))))))) ≤ 1_048_608
fields_length a b c text la lb lc lt = omega (
  arith,
  length-append a (32 ∷ (b ++ (32 ∷ (c ++ (32 ∷ (text ++ (10 ∷ []))))))),
  length-append b (32 ∷ (c ++ (32 ∷ (text ++ (10 ∷ []))))),
  length-append c (32 ∷ (text ++ (10 ∷ []))),
  length-append text (10 ∷ []),
)

line_is_short : (parcel : Parcel) → IsCarried parcel → length (line_of parcel) ≤ most_line
line_is_short parcel carried =
    let agent : length (decimal parcel.agent) ≤ 2 = length-decimal-le 2 parcel.agent (omega arith) (omega (arith, carried.agent_high)) (omega (arith, carried.agent_high)) in
    let run : length (decimal parcel.run) ≤ 16 = length-decimal-le 16 parcel.run (omega arith) (omega (arith, carried.run_high)) (omega (arith, carried.run_high)) in
    let issue : length (decimal parcel.issue) ≤ 10 = length-decimal-le 10 parcel.issue (omega arith) (omega (arith, carried.issue_high)) (omega (arith, carried.issue_high)) in
    omega (arith, fields_length (decimal parcel.agent) (decimal parcel.run) (decimal parcel.issue) parcel.bytes agent run issue carried.short)

pub carried_read_back : CarriedReadBack
carried_read_back parcel carried = (
  body_of parcel,
  record {
    is = sym (body_line parcel);
    one_line = body_is_one_line parcel carried;
    short = line_is_short parcel carried;
    spells = spells_body parcel carried;
    reads = carries parcel (spells_body parcel carried) refl;
  },
)
