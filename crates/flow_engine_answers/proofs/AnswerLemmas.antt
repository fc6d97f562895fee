-- A line of operators' answers is read exactly where it tells something.
use Rattle.std.proofs.Common.{◌≡◌, ◌≢◌, ◌∙◌, ◌<◌, ◌≤◌, ◌^◌, ◌%◌, ℕ, ◌+◌, true, List, [], ◌∷◌, ◌++◌, ◌⊎◌, length, Option, Some, None, refl, ap, sym, subst, arith, inl, inr, leb, le-leb, leb-true}
use Rattle.std.specs.Prelude.{unwrap_or}
use Rattle.std.specs.Fmt.{decimal}
use Rattle.std.specs.Str.{IsUtf8}
use Rattle.std.proofs.lemmas.Bool.{and_parts, and_from, eqb-true}
use Rattle.std.proofs.lemmas.Fmt.{decimal_by_steps}
use Rattle.std.proofs.lemmas.List.{append-nil}
use Rattle.std.proofs.lemmas.List.Elements.{All-cons, All-nil, All-append}
use Rattle.std.proofs.lemmas.Option.{cond_some, same_Some, option_and_then_some}
use Rattle.std.proofs.lemmas.Str.{IsUtf8-from_is_utf8, is_utf8-from_IsUtf8}
use Rattle.base_decimals.specs.Numbers.{number}
use Rattle.base_decimals.proofs.Decimals.{number_some, number_sound}
use Rattle.run_records.specs.Ranges.{most_status_text}
use Rattle.flow_core_rules.specs.Changes.{is_final}
use Rattle.flow_engine_answers.specs.declared.answers.OperatorAnswer.{OperatorAnswer}
use Rattle.flow_engine_answers.specs.Answers.{last_run, Tells}
use Rattle.flow_engine_answers.specs.AnswerReading.{cut, numbered, last_parts, final_status, is_text, ending, line_told}
use Rattle.flow_engine_answers.proofs.CutLemmas.{Lacks, cut_is, cut_first, cut_none}

-- a number has no space
pub no_space : (n : ℕ) → n < 2 ^ 64 → Lacks 32 (decimal n)
no_space n small = decimal_by_steps (λ _ ds. Lacks 32 ds)
    (λ k lt. All-cons (λ c. c ≢ 32) (48 + k) [] (λ e. absurd (omega arith)) (All-nil (λ c. c ≢ 32)))
    (λ k ds _ rest. All-append (λ c. c ≢ 32) ds ((48 + k % 10) ∷ []) rest
    (All-cons (λ c. c ≢ 32) (48 + k % 10) [] (λ e. absurd (omega arith)) (All-nil (λ c. c ≢ 32))))
    n small

-- ---- A number and a space

pub numbered_is : (most : ℕ) (text : List ℕ) (found : ℕ × List ℕ) → numbered most text ≡ Some found → (text ≡ decimal found.0 ++ (32 ∷ found.1)) × (found.0 ≤ most)
unfolding numbered
numbered_is most text found e =
    option_and_then_some _ (cut 32 text) found e λ parts is_cut e₁.
    option_and_then_some _ (number most parts.0) found e₁ λ n is_number e₂.
    let whole = cut_is 32 text parts is_cut in
    let sound = number_sound most n parts.0 is_number in
    subst (λ (p : ℕ × List ℕ). (text ≡ decimal p.0 ++ (32 ∷ p.1)) × (p.0 ≤ most)) (same_Some _ _ e₂)
    (whole.0 ∙ ap (λ front. front ++ (32 ∷ parts.1)) sound.0, sound.1)

pub numbered_again : (most n : ℕ) (rest : List ℕ) → n ≤ most → most < 2 ^ 64 → numbered most (decimal n ++ (32 ∷ rest)) ≡ Some (n, rest)
unfolding numbered
numbered_again most n rest fits small =
    rw (cut_first 32 (decimal n) rest (no_space n (omega arith)), number_some most n (decimal n) fits small refl) refl

-- ---- A status

last_status : (status : ℕ) → is_final status ≡ true → status ≤ 65_535
last_status status e = grind (arith, eqb-true)

pub final_is : (text : List ℕ) (status : ℕ) → final_status text ≡ Some status → (text ≡ decimal status) × (is_final status ≡ true)
unfolding final_status
final_is text status e = option_and_then_some _ (number 65_535 text) status e λ n is_number e₁.
    let test = cond_some (is_final n) n status e₁ in
    let sound = number_sound 65_535 n text is_number in
    subst (λ (s : ℕ). (text ≡ decimal s) × (is_final s ≡ true)) test.1 (sound.0, test.0)

pub final_again : (status : ℕ) → is_final status ≡ true → final_status (decimal status) ≡ Some status
unfolding final_status
final_again status e =
    let fits : status ≤ 65_535 = last_status status e in
    let is : number 65_535 (decimal status) ≡ Some status = number_some 65_535 status (decimal status) fits (omega arith) refl in
    rw (is, e) refl

-- ---- The text behind it

-- this stands behind a status for this text
abbrev pub HasText : List ℕ → List ℕ → Type 0
HasText tail text = ((tail ≡ []) × (text ≡ [])) ⊎ (tail ≡ 32 ∷ text)

last_by : (text : List ℕ) (o : Option (List ℕ × List ℕ)) → cut 32 text ≡ o
    → (tail : List ℕ) × (text ≡ (unwrap_or o (text, [])).0 ++ tail) × HasText tail (unwrap_or o (text, [])).1
last_by text None e = ([], sym (append-nil text), inl (refl, refl))
last_by text (Some parts) e = (32 ∷ parts.1, (cut_is 32 text parts e).0, inr refl)

pub last_is : (text : List ℕ) → (tail : List ℕ) × (text ≡ (last_parts text).0 ++ tail) × HasText tail (last_parts text).1
unfolding last_parts
last_is text = last_by text (cut 32 text) refl

pub last_again : (front tail text : List ℕ) → Lacks 32 front → HasText tail text → last_parts (front ++ tail) ≡ (front, text)
unfolding last_parts
last_again front tail text lacks has = elim has [
  | inl none ↦ rw (none.0, none.1, append-nil front, cut_none 32 front lacks) refl
  | inr some ↦ rw (some, cut_first 32 front text lacks) refl
]

pub is_text_parts : (text : List ℕ) → is_text text ≡ true → IsUtf8 text × (length text ≤ most_status_text)
unfolding is_text
is_text_parts text e =
    let both = and_parts _ _ e in
    (IsUtf8-from_is_utf8 text both.0, leb-true _ _ both.1)

pub is_text_from : (text : List ℕ) → IsUtf8 text → length text ≤ most_status_text → is_text text ≡ true
unfolding is_text
is_text_from text utf8 short = and_from _ _ (is_utf8-from_IsUtf8 text utf8) (le-leb _ _ short)

-- ---- The end of a line

-- a status, and the text behind it
pub record Ends (text : List ℕ) (status : ℕ) (told : List ℕ) : Type 0 where
  pub tail : List ℕ
  pub is : text ≡ decimal status ++ tail
  pub has : HasText tail told
  pub final : is_final status ≡ true
  pub is_text : IsUtf8 told
  pub short : length told ≤ most_status_text

pub ending_is : (text : List ℕ) (found : ℕ × List ℕ) → ending text ≡ Some found → Ends text found.0 found.1
unfolding ending
ending_is text found e = option_and_then_some _ (final_status (last_parts text).0) found e λ status is_status e₁.
    let test = cond_some (is_text (last_parts text).1) (status, (last_parts text).1) found e₁ in
    let final = final_is (last_parts text).0 status is_status in
    let last = last_is text in
    let good = is_text_parts (last_parts text).1 test.0 in
    subst (λ (p : ℕ × List ℕ). Ends text p.0 p.1) test.1 record {
      tail = last.0;
      is = last.1 ∙ ap (λ front. front ++ last.0) final.0;
      has = last.2;
      final = final.1;
      is_text = good.0;
      short = good.1;
    }

pub ending_again : (text : List ℕ) (status : ℕ) (told : List ℕ) → Ends text status told → ending text ≡ Some (status, told)
unfolding ending
ending_again text status told h =
    let small : status < 2 ^ 64 = omega (arith, last_status status h.final) in
    let parts : last_parts (decimal status ++ h.tail) ≡ (decimal status, told) = last_again (decimal status) h.tail told (no_space status small) h.has in
    rw (h.is, parts, final_again status h.final, is_text_from told h.is_text h.short) refl

-- ---- A line

pub line_is : (line : List ℕ) (found : ℕ × OperatorAnswer) → line_told line ≡ Some found → Tells line found.0 found.1
unfolding line_told
line_is line found e =
    option_and_then_some _ (numbered last_run line) found e λ first is_first e₁.
    option_and_then_some _ (numbered 4_294_967_295 first.1) found e₁ λ second is_second e₂.
    option_and_then_some _ (ending second.1) found e₂ λ end is_end e₃.
    let test = cond_some (leb 1 first.0) (first.0, record { issue = second.0; status = end.0; text = end.1 }) found e₃ in
    let one = numbered_is last_run line first is_first in
    let two = numbered_is 4_294_967_295 first.1 second is_second in
    let three = ending_is second.1 end is_end in
    let behind : second.1 ≡ decimal end.0 ++ three.tail = three.is in
    let rest : first.1 ≡ decimal second.0 ++ (32 ∷ (decimal end.0 ++ three.tail)) = two.0 ∙ ap (λ t. decimal second.0 ++ (32 ∷ t)) behind in
    let whole : line ≡ decimal first.0 ++ (32 ∷ (decimal second.0 ++ (32 ∷ (decimal end.0 ++ three.tail)))) = one.0 ∙ ap (λ t. decimal first.0 ++ (32 ∷ t)) rest in
    subst (λ (p : ℕ × OperatorAnswer). Tells line p.0 p.1) test.1 record {
      tail = three.tail;
      is = whole;
      text = three.has;
      run_low = leb-true _ _ test.0;
      run_high = one.1;
      issue_fits = omega (arith, two.1);
      final = three.final;
      is_text = three.is_text;
      short = three.short;
    }

pub line_again : (line : List ℕ) (run : ℕ) (told : OperatorAnswer) → Tells line run told → line_told line ≡ Some (run, told)
unfolding line_told
line_again line run told h =
    let behind : List ℕ = decimal told.status ++ h.tail in
    let rest : List ℕ = decimal told.issue ++ (32 ∷ (decimal told.status ++ h.tail)) in
    let one : numbered last_run (decimal run ++ (32 ∷ rest)) ≡ Some (run, rest) = numbered_again last_run run rest h.run_high (omega arith) in
    let two : numbered 4_294_967_295 rest ≡ Some (told.issue, behind) = numbered_again 4_294_967_295 told.issue behind (omega (arith, h.issue_fits)) (omega arith) in
    let three : ending behind ≡ Some (told.status, told.text) = ending_again behind told.status told.text
    record { tail = h.tail; is = refl; has = h.text; final = h.final; is_text = h.is_text; short = h.short } in
    rw (h.is, one, two, three, le-leb 1 run h.run_low) refl
