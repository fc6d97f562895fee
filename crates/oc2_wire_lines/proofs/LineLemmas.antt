-- A line is read as a parcel exactly where it is the parcel's.
use Rattle.std.proofs.Common.{◌≡◌, ◌≢◌, ◌∙◌, ◌<◌, ◌≤◌, ◌^◌, ◌%◌, ℕ, ◌+◌, Bool, true, false, List, [], ◌∷◌, ◌++◌, length, get_or, Option, Some, None, refl, ap, sym, subst, arith, eqb, eq-eqb, ne_eqb, le-leb, leb-true, append_assoc}
use Rattle.std.specs.Prelude.{not, MatchOption, option_map}
use Rattle.std.specs.Borrow.{Bor}
use Rattle.std.specs.Fmt.{decimal}
use Rattle.std.specs.List.{list_any}
use Rattle.std.proofs.lemmas.Bool.{and_parts, and_from, eqb-true}
use Rattle.std.proofs.lemmas.Fmt.{decimal_by_steps}
use Rattle.std.proofs.lemmas.List.{append_cancel_right, get_or_default}
use Rattle.std.proofs.lemmas.List.Elements.{All-cons, All-nil, All-append, All-from_get_or}
use Rattle.std.proofs.lemmas.List.Folds.{list_any_none, list_any-from_Any}
use Rattle.std.proofs.lemmas.Option.{cond_some, same_Some, none-some, option_and_then_some}
use Rattle.cacao_site.specs.declared.parcel.Parcel.{Parcel}
use Rattle.base_decimals.specs.Numbers.{number}
use Rattle.base_decimals.proofs.Decimals.{number_some, number_sound}
use Rattle.oc2_wire_lines.specs.Lines.{BeginsWithLine, IsCarried, IsOneLine, Reads, carries, passes, Spells, letter, line_of, most_text}
use Rattle.oc2_wire_lines.specs.LineReading.{behind_letter, cut, is_one_line, is_text, line_read, numbered}
use Rattle.oc2_wire_lines.proofs.CutLemmas.{Lacks, cut_is, cut_first, uncut_lacks}

-- ---- A number and a space

-- a byte that is no digit stands in no number
pub no_digit : (byte n : ℕ) → n < 2 ^ 64 → byte < 48 → Lacks byte (decimal n)
no_digit byte n small low = decimal_by_steps (λ _ ds. Lacks byte ds)
    (λ k lt. All-cons (λ c. c ≢ byte) (48 + k) [] (λ e. absurd (omega arith)) (All-nil (λ c. c ≢ byte)))
    (λ k ds _ rest. All-append (λ c. c ≢ byte) ds ((48 + k % 10) ∷ []) rest
    (All-cons (λ c. c ≢ byte) (48 + k % 10) [] (λ e. absurd (omega arith)) (All-nil (λ c. c ≢ byte))))
    n small

numbered_is : (most : ℕ) (text : List ℕ) (found : ℕ × List ℕ) → numbered most text ≡ Some found → (text ≡ decimal found.0 ++ (32 ∷ found.1)) × (found.0 ≤ most)
unfolding numbered
numbered_is most text found e =
    option_and_then_some _ (cut 32 text) found e λ parts is_cut e₁.
    option_and_then_some _ (number most parts.0) found e₁ λ n is_number e₂.
    let whole = cut_is 32 text parts is_cut in
    let sound = number_sound most n parts.0 is_number in
    subst (λ (p : ℕ × List ℕ). (text ≡ decimal p.0 ++ (32 ∷ p.1)) × (p.0 ≤ most)) (same_Some _ _ e₂)
    (whole.0 ∙ ap (λ front. front ++ (32 ∷ parts.1)) sound.0, sound.1)

numbered_again : (most n : ℕ) (rest : List ℕ) → n ≤ most → most < 2 ^ 64 → numbered most (decimal n ++ (32 ∷ rest)) ≡ Some (n, rest)
unfolding numbered
numbered_again most n rest fits small =
    rw (cut_first 32 (decimal n) rest (no_digit 32 n (omega arith) (omega arith)), number_some most n (decimal n) fits small refl) refl

-- ---- The letter

one_item : (xs : List ℕ) → length xs ≡ 1 → xs ≡ get_or xs 0 0 ∷ []
one_item [] e = absurd (omega arith)
one_item (x ∷ []) e = refl
one_item (x ∷ y ∷ ys) e = absurd (omega arith)

behind_is : (back : Bool) (line rest : List ℕ) → behind_letter back line ≡ Some rest → line ≡ letter back ∷ 32 ∷ rest
unfolding behind_letter
behind_is back line rest e = option_and_then_some _ (cut 32 line) rest e λ parts is_cut e₁.
    let test = cond_some _ parts.1 rest e₁ in
    let both = and_parts _ _ test.0 in
    let first : parts.0 ≡ letter back ∷ [] = one_item parts.0 (eqb-true _ _ both.0) ∙ ap (λ (c : ℕ). c ∷ []) (eqb-true _ _ both.1) in
    (cut_is 32 line parts is_cut).0 ∙ ap (λ front. front ++ (32 ∷ parts.1)) first ∙ ap (λ behind. letter back ∷ 32 ∷ behind) test.1

letter_is_no_space : (back : Bool) → Lacks 32 (letter back ∷ [])
letter_is_no_space true = All-cons (λ c. c ≢ 32) 114 [] (λ e. absurd (omega arith)) (All-nil (λ c. c ≢ 32))
letter_is_no_space false = All-cons (λ c. c ≢ 32) 99 [] (λ e. absurd (omega arith)) (All-nil (λ c. c ≢ 32))

behind_again : (back : Bool) (rest : List ℕ) → behind_letter back (letter back ∷ 32 ∷ rest) ≡ Some rest
unfolding behind_letter
behind_again true rest = let is = cut_first 32 (114 ∷ []) rest (letter_is_no_space true) in rw is refl
behind_again false rest = let is = cut_first 32 (99 ∷ []) rest (letter_is_no_space false) in rw is refl

-- ---- The text

one_line_from : (bytes : List ℕ) → is_one_line bytes ≡ true → IsOneLine bytes
unfolding is_one_line
one_line_from bytes e = All-from_get_or (λ c. c ≢ 10) bytes 0 λ k lt same.
    let any : list_any (λ c. eqb c 10) bytes ≡ true = list_any-from_Any (λ c. eqb c 10) bytes (k, get_or bytes k 0, lt, get_or_default bytes k (get_or bytes k 0) 0 lt, eq-eqb _ _ same) in
    let bad : false ≡ true = sym (ap not any) ∙ e in
    absurd (cc bad)

is_one_line_from : (bytes : List ℕ) → IsOneLine bytes → is_one_line bytes ≡ true
unfolding is_one_line
is_one_line_from bytes lacks = ap not (list_any_none (λ c. eqb c 10) bytes (λ k d lt. ne_eqb _ _ (lacks k d lt)))

pub text_from : (bytes : List ℕ) → is_text bytes ≡ true → (length bytes ≤ most_text) × IsOneLine bytes
unfolding is_text
text_from bytes e = let both = and_parts _ _ e in (leb-true _ _ both.1, one_line_from bytes both.0)

pub is_text_from : (bytes : List ℕ) → length bytes ≤ most_text → IsOneLine bytes → is_text bytes ≡ true
unfolding is_text
is_text_from bytes short one = and_from _ _ (is_one_line_from bytes one) (le-leb _ _ short)

-- ---- A line

-- the line of a parcel without its line feed
abbrev pub body_of : Parcel → List ℕ
body_of parcel = letter parcel.back ∷ 32 ∷ (decimal parcel.agent ++ (32 ∷ (decimal parcel.run ++ (32 ∷ (decimal parcel.issue ++ (32 ∷ parcel.bytes))))))

fields_end : (a b c text : List ℕ) → (a ++ (32 ∷ (b ++ (32 ∷ (c ++ (32 ∷ text)))))) ++ (10 ∷ []) ≡ a ++ (32 ∷ (b ++ (32 ∷ (c ++ (32 ∷ (text ++ (10 ∷ [])))))))
fields_end a b c text = simp append_assoc

pub body_line : (parcel : Parcel) → body_of parcel ++ (10 ∷ []) ≡ line_of parcel
body_line parcel = ap (λ fields. letter parcel.back ∷ 32 ∷ fields) (fields_end (decimal parcel.agent) (decimal parcel.run) (decimal parcel.issue) parcel.bytes)

pub spelled : (line : List ℕ) (parcel : Parcel) → Spells line parcel → line ≡ body_of parcel
spelled line parcel spells = append_cancel_right line (body_of parcel) (10 ∷ []) (spells.is ∙ sym (body_line parcel))

pub spells_body : (parcel : Parcel) → IsCarried parcel → Spells (body_of parcel) parcel
spells_body parcel carried = record { carried = carried; is = body_line parcel }

pub line_is : (back : Bool) (line : List ℕ) (parcel : Parcel) → line_read back line ≡ Some parcel → Spells line parcel × (parcel.back ≡ back)
unfolding line_read
line_is back line parcel e =
    option_and_then_some _ (behind_letter back line) parcel e λ rest is_rest e₁.
    option_and_then_some _ (numbered 16 rest) parcel e₁ λ agent is_agent e₂.
    option_and_then_some _ (numbered 9_007_199_254_740_991 agent.1) parcel e₂ λ run is_run e₃.
    option_and_then_some _ (numbered 4_294_967_295 run.1) parcel e₃ λ issue is_issue e₄.
    let test = cond_some _ (record { agent = agent.0; back = back; run = run.0; issue = issue.0; bytes = issue.1 }) parcel e₄ in
    let first = and_parts _ _ test.0 in
    let second = and_parts _ _ first.0 in
    let text = text_from issue.1 first.1 in
    let one = numbered_is 16 rest agent is_agent in
    let two = numbered_is 9_007_199_254_740_991 agent.1 run is_run in
    let three = numbered_is 4_294_967_295 run.1 issue is_issue in
    let behind_run : agent.1 ≡ decimal run.0 ++ (32 ∷ (decimal issue.0 ++ (32 ∷ issue.1))) = two.0 ∙ ap (λ t. decimal run.0 ++ (32 ∷ t)) three.0 in
    let behind : rest ≡ decimal agent.0 ++ (32 ∷ (decimal run.0 ++ (32 ∷ (decimal issue.0 ++ (32 ∷ issue.1))))) = one.0 ∙ ap (λ t. decimal agent.0 ++ (32 ∷ t)) behind_run in
    let whole : line ≡ letter back ∷ 32 ∷ (decimal agent.0 ++ (32 ∷ (decimal run.0 ++ (32 ∷ (decimal issue.0 ++ (32 ∷ issue.1)))))) = behind_is back line rest is_rest ∙ ap (λ t. letter back ∷ 32 ∷ t) behind in
    let told : Parcel = record { agent = agent.0; back = back; run = run.0; issue = issue.0; bytes = issue.1 } in
    let carried : IsCarried told = record {
      agent_low = leb-true _ _ second.0;
      agent_high = one.1;
      run_low = leb-true _ _ second.1;
      run_high = two.1;
      issue_high = three.1;
      short = text.0;
      one_line = text.1;
    } in
    subst (λ (p : Parcel). Spells line p × (p.back ≡ back)) test.1
    (record { carried = carried; is = ap (λ l. l ++ (10 ∷ [])) whole ∙ body_line told }, refl)

pub line_again : (line : List ℕ) (parcel : Parcel) → Spells line parcel → line_read parcel.back line ≡ Some parcel
unfolding line_read
line_again line parcel spells =
    let carried = spells.carried in
    let behind_issue : List ℕ = parcel.bytes in
    let behind_run : List ℕ = decimal parcel.issue ++ (32 ∷ parcel.bytes) in
    let behind_agent : List ℕ = decimal parcel.run ++ (32 ∷ behind_run) in
    let rest : List ℕ = decimal parcel.agent ++ (32 ∷ behind_agent) in
    let one : numbered 16 rest ≡ Some (parcel.agent, behind_agent) = numbered_again 16 parcel.agent behind_agent carried.agent_high (omega arith) in
    let two : numbered 9_007_199_254_740_991 behind_agent ≡ Some (parcel.run, behind_run) = numbered_again 9_007_199_254_740_991 parcel.run behind_run carried.run_high (omega arith) in
    let three : numbered 4_294_967_295 behind_run ≡ Some (parcel.issue, parcel.bytes) = numbered_again 4_294_967_295 parcel.issue parcel.bytes carried.issue_high (omega arith) in
    let text : is_text parcel.bytes ≡ true = is_text_from parcel.bytes carried.short carried.one_line in
    rw (spelled line parcel spells, behind_again parcel.back rest, one, two, three, le-leb 1 parcel.agent carried.agent_low, le-leb 1 parcel.run carried.run_low, text) refl

pub read_by : (back : Bool) (line : List ℕ) (o : Option Parcel) → line_read back line ≡ o → Reads back line o
read_by back line None e = passes (λ parcel spells same. none-some _ (sym e ∙ subst (λ (b : Bool). line_read b line ≡ Some parcel) same (line_again line parcel spells)))
read_by back line (Some parcel) e = let is = line_is back line parcel e in carries parcel is.0 is.1

-- the first line of the bytes
pub first_by : (bytes : List ℕ) (r : Option (Bor (List ℕ) × Bor (List ℕ))) → option_map (λ x. (x.0.now, x.1.now)) r ≡ cut 10 bytes
    → MatchOption r (IsOneLine bytes) (λ parts. BeginsWithLine bytes parts.0.now parts.1.now)
first_by bytes None e = uncut_lacks 10 bytes (sym e)
first_by bytes (Some parts) e = let is = cut_is 10 bytes (parts.0.now, parts.1.now) (sym e) in record { is = is.0; one_line = is.1 }
