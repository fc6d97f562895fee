-- Bytes have lines in one way.
use Rattle.std.proofs.Common.{◌≡◌, ◌∙◌, ℕ, zero, suc, ◌≤◌, List, [], ◌∷◌, ◌++◌, length, refl, ap, sym, arith, append_assoc}
use Rattle.std.specs.Prelude.{Contains}
use Rattle.std.proofs.lemmas.Option.{same_Some, none-some}
use Rattle.oc2_wire_lines.specs.Lines.{AreLines, IsOneLine, joined}
use Rattle.oc2_wire_lines.specs.Laws.{FrontsHaveSentLines, LinesAreCutOneWay, LinesStay}
use Rattle.oc2_wire_lines.specs.LineReading.{cut}
use Rattle.oc2_wire_lines.proofs.CutLemmas.{cut_first, cut_none}

-- each is one line
abbrev AreSingle : List (List ℕ) → Type 0
AreSingle lines = (line : List ℕ) → Contains lines line → IsOneLine line

single : (bytes : List ℕ) (lines : List (List ℕ)) (rest : List ℕ) → AreLines bytes lines rest → AreSingle lines
single bytes lines rest are line has = (are.each line has).0

first_single : (line : List ℕ) (lines : List (List ℕ)) → AreSingle (line ∷ lines) → IsOneLine line
first_single line lines each = each line (zero, omega arith, refl)

others_single : (line : List ℕ) (lines : List (List ℕ)) → AreSingle (line ∷ lines) → AreSingle lines
others_single line lines each other has = each other (suc has.0, omega (arith, has.1), has.2)

-- the first line, and what stands behind it
first_joined : (line : List ℕ) (lines : List (List ℕ)) (rest : List ℕ) → joined (line ∷ lines) ++ rest ≡ line ++ (10 ∷ (joined lines ++ rest))
first_joined line lines rest = append_assoc line (10 ∷ joined lines) rest

same_cut : (x y behind_x behind_y : List ℕ) → IsOneLine x → IsOneLine y → x ++ (10 ∷ behind_x) ≡ y ++ (10 ∷ behind_y) → (x ≡ y) × (behind_x ≡ behind_y)
same_cut x y behind_x behind_y one_x one_y e =
    let same = same_Some (x, behind_x) (y, behind_y) (sym (cut_first 10 x behind_x one_x) ∙ ap (λ (t : List ℕ). cut 10 t) e ∙ cut_first 10 y behind_y one_y) in
    (ap (λ (p : List ℕ × List ℕ). p.0) same, ap (λ (p : List ℕ × List ℕ). p.1) same)

same_first : (x : List ℕ) (xs : List (List ℕ)) (a : List ℕ) (y : List ℕ) (ys : List (List ℕ)) (b : List ℕ) → AreSingle (x ∷ xs) → AreSingle (y ∷ ys)
    → joined (x ∷ xs) ++ a ≡ joined (y ∷ ys) ++ b → (x ≡ y) × (joined xs ++ a ≡ joined ys ++ b)
same_first x xs a y ys b xs_single ys_single e =
    same_cut x y (joined xs ++ a) (joined ys ++ b) (first_single x xs xs_single) (first_single y ys ys_single)
    (sym (first_joined x xs a) ∙ e ∙ first_joined y ys b)

-- one line has no line
no_line : (line : List ℕ) (lines : List (List ℕ)) (rest part : List ℕ) → AreSingle (line ∷ lines) → IsOneLine part → part ≡ joined (line ∷ lines) ++ rest → ⊥
no_line line lines rest part each one e =
    let cuts = cut_first 10 line (joined lines ++ rest) (first_single line lines each) in
    none-some _ (sym (cut_none 10 part one) ∙ ap (λ (t : List ℕ). cut 10 t) (e ∙ first_joined line lines rest) ∙ cuts)

cut_one_way : (few many : List (List ℕ)) (a b : List ℕ) → AreSingle few → AreSingle many → joined few ++ a ≡ joined many ++ b → length few ≤ length many
    → (more : List (List ℕ)) × (many ≡ few ++ more)
cut_one_way [] many a b few_single many_single e le = (many, refl)
cut_one_way (x ∷ xs) [] a b few_single many_single e le = absurd (omega (arith, le))
cut_one_way (x ∷ xs) (y ∷ ys) a b few_single many_single e le =
    let same = same_first x xs a y ys b few_single many_single e in
    let behind = cut_one_way xs ys a b (others_single x xs few_single) (others_single y ys many_single) same.1 (omega (arith, le)) in
    (behind.0, ap (λ (line : List ℕ). line ∷ ys) (sym same.0) ∙ ap (λ (lines : List (List ℕ)). x ∷ lines) behind.1)

front_cut : (lines sent : List (List ℕ)) (rest part : List ℕ) → AreSingle lines → AreSingle sent → IsOneLine part → joined sent ++ part ≡ joined lines ++ rest
    → (others : List (List ℕ)) × (sent ≡ lines ++ others)
front_cut [] sent rest part lines_single sent_single one e = (sent, refl)
front_cut (x ∷ xs) [] rest part lines_single sent_single one e = absurd (no_line x xs rest part lines_single one e)
front_cut (x ∷ xs) (y ∷ ys) rest part lines_single sent_single one e =
    let same = same_first x xs rest y ys part lines_single sent_single (sym e) in
    let behind = front_cut xs ys rest part (others_single x xs lines_single) (others_single y ys sent_single) one (sym same.1) in
    (behind.0, ap (λ (line : List ℕ). line ∷ ys) (sym same.0) ∙ ap (λ (lines : List (List ℕ)). x ∷ lines) behind.1)

pub lines_are_cut_one_way : LinesAreCutOneWay
lines_are_cut_one_way bytes few many a b are_few are_many le =
    cut_one_way few many a b (single bytes few a are_few) (single bytes many b are_many) (sym are_few.is ∙ are_many.is) le

pub lines_stay : LinesStay
lines_stay bytes more lines rest are = record {
  is = ap (λ (t : List ℕ). t ++ more) are.is ∙ append_assoc (joined lines) rest more;
  each = are.each;
}

pub fronts_have_sent_lines : FrontsHaveSentLines
fronts_have_sent_lines received more rest part lines sent are_sent one are =
    let stay = lines_stay received more lines rest are in
    front_cut lines sent (rest ++ more) part (single received lines rest are) (single (received ++ more) sent part are_sent) one (sym are_sent.is ∙ stay.is)
