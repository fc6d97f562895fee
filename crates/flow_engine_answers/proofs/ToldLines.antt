-- The lines of a text of answers, one after another.
use Rattle.std.proofs.Common.{◌≡◌, ◌≢◌, ◌∙◌, ◌<◌, ◌≤◌, ℕ, ◌+◌, zero, suc, List, [], ◌∷◌, ◌++◌, length, Some, None, refl, ap, sym, subst, arith, length-append}
use Rattle.std.specs.List.{All, filter, slice_get}
use Rattle.std.specs.Prelude.{◌==◌}
use Rattle.std.proofs.lemmas.List.{append_assoc, append-nil, map-append}
use Rattle.std.proofs.lemmas.List.Elements.{All-cons, All-nil, All-append, All-filter, All-map, All-same, filter-append}
use Rattle.std.proofs.lemmas.Option.{same_Some, none-some, option_and_then_some}
use Rattle.flow_engine_answers.specs.declared.answers.OperatorAnswer.{OperatorAnswer}
use Rattle.flow_engine_answers.specs.Answers.{Tells, IsOneLine, IsOperatorAnswer, joined, AreTold, of_run, Answers, IsFirstBadLine}
use Rattle.flow_engine_answers.specs.AnswerReading.{cut, line_told, first_told}
use Rattle.flow_engine_answers.proofs.CutLemmas.{cut_is, cut_first}
use Rattle.flow_engine_answers.proofs.AnswerLemmas.{line_is, line_again}

-- A text is lines and this rest. They tell this of the run, and the next line has this number.
pub record IsReadUpTo (text : List ℕ) (run : ℕ) (rest : List ℕ) (number : ℕ) (list : List OperatorAnswer) : Type 0 where
  pub lines : List (List ℕ)
  pub told : List (ℕ × OperatorAnswer)
  pub is : text ≡ joined lines ++ rest
  pub are : AreTold lines told
  pub at : number ≡ length lines + 1
  pub fits : number + length rest ≤ length text + 1
  pub list_is : list ≡ of_run run told

-- no line stands in front that tells something
abbrev pub IsStuck : List ℕ → Type 0
IsStuck rest = (line after : List ℕ) (run : ℕ) (it : OperatorAnswer) → rest ≡ line ++ (10 ∷ after) → IsOneLine line → Tells line run it → ⊥

-- ---- One line more

none_told : AreTold [] []
none_told = record {
  many = refl;
  whole = All-nil (λ line. IsOneLine line);
  each = λ n line it e _. absurd (none-some line e);
}

pub read_none : (text : List ℕ) (run : ℕ) → IsReadUpTo text run text 1 []
read_none text run = record {
  lines = [];
  told = [];
  is = refl;
  are = none_told;
  at = refl;
  fits = omega arith;
  list_is = refl;
}

abbrev pub EachTells : List (List ℕ) → List (ℕ × OperatorAnswer) → Type 0
EachTells lines told = (n : ℕ) (line : List ℕ) (it : ℕ × OperatorAnswer) → slice_get lines n ≡ Some line → slice_get told n ≡ Some it → Tells line it.0 it.1

each_push : (lines : List (List ℕ)) (told : List (ℕ × OperatorAnswer)) (line : List ℕ) (it : ℕ × OperatorAnswer)
    → length lines ≡ length told → EachTells lines told → Tells line it.0 it.1 → EachTells (lines ++ line ∷ []) (told ++ it ∷ [])
each_push [] [] line it many each tells zero l i e e' =
    subst (λ (x : List ℕ). Tells x i.0 i.1) (same_Some line l e) (subst (λ (x : ℕ × OperatorAnswer). Tells line x.0 x.1) (same_Some it i e') tells)
each_push [] [] line it many each tells (suc n) l i e e' = absurd (none-some l e)
each_push [] (y ∷ ys) line it many each tells n l i e e' = absurd (omega arith)
each_push (x ∷ xs) [] line it many each tells n l i e e' = absurd (omega arith)
each_push (x ∷ xs) (y ∷ ys) line it many each tells zero l i e e' = each zero l i e e'
each_push (x ∷ xs) (y ∷ ys) line it many each tells (suc n) l i e e' =
    each_push xs ys line it (omega arith) (λ m. each (suc m)) tells n l i e e'

told_push : (lines : List (List ℕ)) (told : List (ℕ × OperatorAnswer)) (line : List ℕ) (it : ℕ × OperatorAnswer)
    → AreTold lines told → IsOneLine line → Tells line it.0 it.1 → AreTold (lines ++ line ∷ []) (told ++ it ∷ [])
told_push lines told line it are one tells = record {
  many = omega (arith, are.many, length-append lines (line ∷ []), length-append told (it ∷ []));
  whole = All-append (λ l. IsOneLine l) lines (line ∷ []) are.whole (All-cons (λ l. IsOneLine l) line [] one (All-nil (λ l. IsOneLine l)));
  each = each_push lines told line it are.many are.each tells;
}

joined_push : (lines : List (List ℕ)) (line rest : List ℕ) → joined (lines ++ line ∷ []) ++ rest ≡ joined lines ++ (line ++ (10 ∷ rest))
joined_push [] line rest = append_assoc (line ++ 10 ∷ []) [] rest ∙ append_assoc line (10 ∷ []) rest
joined_push (l ∷ ls) line rest =
    append_assoc (l ++ 10 ∷ []) (joined (ls ++ line ∷ [])) rest ∙ ap (λ t. (l ++ 10 ∷ []) ++ t) (joined_push ls line rest)
    ∙ sym (append_assoc (l ++ 10 ∷ []) (joined ls) (line ++ (10 ∷ rest)))

of_run_push : (run : ℕ) (told more : List (ℕ × OperatorAnswer)) → of_run run (told ++ more) ≡ of_run run told ++ of_run run more
of_run_push run told more = rw (filter-append, map-append) refl

-- what the first line tells
pub first_is : (text : List ℕ) (found : (ℕ × OperatorAnswer) × List ℕ) → first_told text ≡ Some found
    → (line : List ℕ) × (text ≡ line ++ (10 ∷ found.1)) × IsOneLine line × Tells line (found.0).0 (found.0).1
unfolding first_told
first_is text found e =
    option_and_then_some _ (cut 10 text) found e λ parts is_cut e₁.
    option_and_then_some _ (line_told parts.0) found e₁ λ it is_told e₂.
    let whole = cut_is 10 text parts is_cut in
    subst (λ (f : (ℕ × OperatorAnswer) × List ℕ). (line : List ℕ) × (text ≡ line ++ (10 ∷ f.1)) × IsOneLine line × Tells line (f.0).0 (f.0).1)
    (same_Some _ _ e₂) (parts.0, whole.0, whole.1, line_is parts.0 it is_told)

pub first_again : (line after : List ℕ) (run : ℕ) (it : OperatorAnswer) → IsOneLine line → Tells line run it
    → first_told (line ++ (10 ∷ after)) ≡ Some ((run, it), after)
unfolding first_told
first_again line after run it one tells = rw (cut_first 10 line after one, line_again line run it tells) refl

pub read_more : (text : List ℕ) (run : ℕ) (rest : List ℕ) (number : ℕ) (list more : List OperatorAnswer) (found : (ℕ × OperatorAnswer) × List ℕ)
    → IsReadUpTo text run rest number list → first_told rest ≡ Some found → more ≡ list ++ of_run run (found.0 ∷ [])
    → IsReadUpTo text run found.1 (number + 1) more
read_more text run rest number list more found h e adds =
    let first = first_is rest found e in
    let short : length rest ≡ length (first.0 ++ (10 ∷ found.1)) = ap length first.1 in
    record {
      lines = h.lines ++ first.0 ∷ [];
      told = h.told ++ found.0 ∷ [];
      is = h.is ∙ ap (λ t. joined h.lines ++ t) first.1 ∙ sym (joined_push h.lines first.0 found.1);
      are = told_push h.lines h.told first.0 found.0 h.are first.2 first.3;
      at = omega (arith, h.at, length-append h.lines (first.0 ∷ []));
      fits = omega (arith, h.fits, short, length-append first.0 (10 ∷ found.1));
      list_is = adds ∙ ap (λ l. l ++ of_run run (found.0 ∷ [])) h.list_is ∙ sym (of_run_push run h.told (found.0 ∷ []));
    }

-- the rest gets shorter
pub first_shorter : (rest : List ℕ) (found : (ℕ × OperatorAnswer) × List ℕ) → first_told rest ≡ Some found → length found.1 < length rest
first_shorter rest found e =
    let first = first_is rest found e in
    let short : length rest ≡ length (first.0 ++ (10 ∷ found.1)) = ap length first.1 in
    omega (arith, short, length-append first.0 (10 ∷ found.1))

-- ---- The end

pub read_all : (text : List ℕ) (run : ℕ) (rest : List ℕ) (number : ℕ) (list : List OperatorAnswer) → IsReadUpTo text run rest number list → rest ≡ [] → Answers text run list
read_all text run rest number list h none = record {
  lines = h.lines;
  told = h.told;
  is = h.is ∙ ap (λ t. joined h.lines ++ t) none ∙ append-nil (joined h.lines);
  are = h.are;
  answers_are = h.list_is;
}

stuck_at : (rest : List ℕ) → first_told rest ≡ None → IsStuck rest
stuck_at rest e line after run it is one tells =
    let found : first_told rest ≡ Some ((run, it), after) = ap first_told is ∙ first_again line after run it one tells in
    none-some _ (sym e ∙ found)

pub read_bad : (text : List ℕ) (run : ℕ) (rest : List ℕ) (number : ℕ) (list : List OperatorAnswer) → IsReadUpTo text run rest number list → rest ≢ []
    → first_told rest ≡ None → IsFirstBadLine text number
read_bad text run rest number list h some e = record {
  lines = h.lines;
  told = h.told;
  rest = rest;
  is = h.is;
  are = h.are;
  at = h.at;
  some = some;
  bad = λ line after run it is one tells. stuck_at rest e line after run it is one tells;
}

-- ---- Each answer may end an issue

abbrev IsGood : ℕ × OperatorAnswer → Type 0
IsGood it = IsOperatorAnswer it.1

line_good : (line : List ℕ) (run : ℕ) (told : OperatorAnswer) → Tells line run told → IsOperatorAnswer told
line_good line run told h = record { final = h.final; is_text = h.is_text; short = h.short }

each_good : (lines : List (List ℕ)) (told : List (ℕ × OperatorAnswer)) → length lines ≡ length told → EachTells lines told → All IsGood told
each_good [] [] many each = All-nil IsGood
each_good [] (it ∷ told) many each = absurd (omega arith)
each_good (line ∷ lines) [] many each = All-nil IsGood
each_good (line ∷ lines) (it ∷ told) many each =
    All-cons IsGood it told (line_good line it.0 it.1 (each zero line it refl refl)) (each_good lines told (omega arith) (λ n. each (suc n)))

pub read_good : (text : List ℕ) (run : ℕ) (rest : List ℕ) (number : ℕ) (list : List OperatorAnswer) → IsReadUpTo text run rest number list → All IsOperatorAnswer list
read_good text run rest number list h =
    let each : All IsGood h.told = each_good h.lines h.told h.are.many h.are.each in
    All-same IsOperatorAnswer list (of_run run h.told) h.list_is
    (All-map IsOperatorAnswer (λ (it : ℕ × OperatorAnswer). it.1) (filter (λ (it : ℕ × OperatorAnswer). it.0 == run) h.told)
    (All-filter (λ (it : ℕ × OperatorAnswer). it.0 == run) IsGood h.told each))
