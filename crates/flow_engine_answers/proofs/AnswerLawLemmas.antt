-- A text is lines that tell something, and a rest that does not go on so, in one way.
use Rattle.std.proofs.Common.{◌≡◌, ◌∙◌, ℕ, ◌+◌, suc, List, [], ◌∷◌, ◌++◌, length, Some, refl, ap, sym, arith}
use Rattle.std.proofs.lemmas.List.{append_assoc, append-nil}
use Rattle.std.proofs.lemmas.Option.{same_Some}
use Rattle.flow_engine_answers.specs.declared.answers.OperatorAnswer.{OperatorAnswer}
use Rattle.flow_engine_answers.specs.Answers.{IsOneLine, joined, AreTold, of_run, IsFirstBadLine}
use Rattle.flow_engine_answers.specs.AnswerReading.{cut, first_told}
use Rattle.flow_engine_answers.specs.AnswerLaws.{AnswersAreOne, FirstBadLineIsOne, BadLinesTellNothing}
use Rattle.flow_engine_answers.proofs.CutLemmas.{cut_first}
use Rattle.flow_engine_answers.proofs.ToldLines.{IsStuck, first_again}

abbrev pub Told : Type 0
Told = ℕ × OperatorAnswer

-- the same lines, the same told, and the same rest
pub record AreSame (one other : List (List ℕ)) (told said : List Told) (rest behind : List ℕ) : Type 0 where
  pub lines : one ≡ other
  pub tell : told ≡ said
  pub rests : rest ≡ behind

-- lines are told behind the first one
told_behind : (line : List ℕ) (lines : List (List ℕ)) (it : Told) (told : List Told) → AreTold (line ∷ lines) (it ∷ told) → AreTold lines told
told_behind line lines it told h = record {
  many = omega (arith, h.many);
  whole = λ k d lt. h.whole (suc k) d (omega arith);
  each = λ n. h.each (suc n);
}

-- the first line in front of all that stands behind it
split : (line : List ℕ) (lines : List (List ℕ)) (rest : List ℕ) → joined (line ∷ lines) ++ rest ≡ line ++ (10 ∷ (joined lines ++ rest))
split line lines rest = append_assoc (line ++ 10 ∷ []) (joined lines) rest ∙ append_assoc line (10 ∷ []) (joined lines ++ rest)

-- a text that begins with a told line does not stick
unstuck : (line : List ℕ) (lines : List (List ℕ)) (it : Told) (told : List Told) (rest behind : List ℕ)
    → behind ≡ joined (line ∷ lines) ++ rest → AreTold (line ∷ lines) (it ∷ told) → IsStuck behind → ⊥
unstuck line lines it told rest behind e h stuck =
    stuck line (joined lines ++ rest) it.0 it.1 (e ∙ split line lines rest) (h.whole 0 line (omega arith)) (h.each 0 line it refl refl)

cut_same : (one other rest behind : List ℕ) → IsOneLine one → IsOneLine other → one ++ (10 ∷ rest) ≡ other ++ (10 ∷ behind) → one ≡ other
cut_same one other rest behind h k e =
    let both : ◌≡◌ {A = List ℕ × List ℕ} (one, rest) (other, behind) = same_Some _ _ (sym (cut_first 10 one rest h) ∙ ap (cut 10) e ∙ cut_first 10 other behind k) in
    ap (λ (p : List ℕ × List ℕ). p.0) both

pub one_way : (one other : List (List ℕ)) (told said : List Told) (rest behind : List ℕ) → joined one ++ rest ≡ joined other ++ behind
    → AreTold one told → AreTold other said → IsStuck rest → IsStuck behind → AreSame one other told said rest behind
one_way [] [] [] [] rest behind e h k stuck still = record { lines = refl; tell = refl; rests = e }
one_way [] other (it ∷ told) said rest behind e h k stuck still = absurd (omega (arith, h.many))
one_way one [] told (it ∷ said) rest behind e h k stuck still = absurd (omega (arith, k.many))
one_way (line ∷ one) other [] said rest behind e h k stuck still = absurd (omega (arith, h.many))
one_way one (line ∷ other) told [] rest behind e h k stuck still = absurd (omega (arith, k.many))
one_way [] (line ∷ other) [] (it ∷ said) rest behind e h k stuck still = absurd (unstuck line other it said behind rest e k stuck)
one_way (line ∷ one) [] (it ∷ told) [] rest behind e h k stuck still = absurd (unstuck line one it told rest behind (sym e) h still)
one_way (line ∷ one) (text ∷ other) (it ∷ told) (thing ∷ said) rest behind e h k stuck still =
    let first : first_told (line ++ (10 ∷ (joined one ++ rest))) ≡ Some (it, joined one ++ rest) =
    first_again line (joined one ++ rest) it.0 it.1 (h.whole 0 line (omega arith)) (h.each 0 line it refl refl) in
    let second : first_told (text ++ (10 ∷ (joined other ++ behind))) ≡ Some (thing, joined other ++ behind) =
    first_again text (joined other ++ behind) thing.0 thing.1 (k.whole 0 text (omega arith)) (k.each 0 text thing refl refl) in
    let whole : line ++ (10 ∷ (joined one ++ rest)) ≡ text ++ (10 ∷ (joined other ++ behind)) = sym (split line one rest) ∙ e ∙ split text other behind in
    let both : ◌≡◌ {A = Told × List ℕ} (it, joined one ++ rest) (thing, joined other ++ behind) =
    same_Some _ _ (sym first ∙ ap first_told whole ∙ second) in
    let rests : joined one ++ rest ≡ joined other ++ behind = ap (λ (p : Told × List ℕ). p.1) both in
    let its : it ≡ thing = ap (λ (p : Told × List ℕ). p.0) both in
    let lines : line ≡ text = cut_same line text (joined one ++ rest) (joined other ++ behind) (h.whole 0 line (omega arith)) (k.whole 0 text (omega arith)) whole in
    let same = one_way one other told said rest behind rests (told_behind line one it told h) (told_behind text other thing said k) stuck still in
    record { lines = cc (lines, same.lines); tell = cc (its, same.tell); rests = same.rests }

-- an empty rest goes on in no way
stuck_at_end : IsStuck []
stuck_at_end [] after run it e one tells = absurd (cc e)
stuck_at_end (c ∷ line) after run it e one tells = absurd (cc e)

pub answers_are_one : AnswersAreOne
answers_are_one text run one other h k =
    let whole : joined h.lines ++ [] ≡ joined k.lines ++ [] = append-nil (joined h.lines) ∙ sym h.is ∙ k.is ∙ sym (append-nil (joined k.lines)) in
    let same = one_way h.lines k.lines h.told k.told [] [] whole h.are k.are stuck_at_end stuck_at_end in
    h.answers_are ∙ ap (of_run run) same.tell ∙ sym k.answers_are

stuck_at_bad : (text : List ℕ) (number : ℕ) (h : IsFirstBadLine text number) → IsStuck h.rest
stuck_at_bad text number h line after run it e one tells = h.bad line after run it e one tells

pub first_bad_line_is_one : FirstBadLineIsOne
first_bad_line_is_one text one other h k =
    let same = one_way h.lines k.lines h.told k.told h.rest k.rest (sym h.is ∙ k.is) h.are k.are (stuck_at_bad text one h) (stuck_at_bad text other k) in
    h.at ∙ ap (λ (l : List (List ℕ)). length l + 1) same.lines ∙ sym k.at

pub bad_lines_tell_nothing : BadLinesTellNothing
bad_lines_tell_nothing text run number answers h k =
    let whole : joined h.lines ++ h.rest ≡ joined k.lines ++ [] = sym h.is ∙ k.is ∙ sym (append-nil (joined k.lines)) in
    let same = one_way h.lines k.lines h.told k.told h.rest [] whole h.are k.are (stuck_at_bad text number h) stuck_at_end in
    h.some same.rests
