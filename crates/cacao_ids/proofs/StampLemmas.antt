-- Dates and whole stamps, from their characters.
use Rattle.std.proofs.Common.{◌≡◌, ℕ, suc, ◌+◌, ◌*◌, ◌/◌, ◌%◌, ◌-◌, ◌≤◌, List, [], ◌∷◌, ◌++◌, length, take, drop, get_or, arith, refl, sym, ◌∙◌, ap, subst, take_at, drop_at, take-append-drop, drop-cons, length-append, append_assoc}
use Rattle.std.proofs.lemmas.List.{drop-drop, drop_all}
use Rattle.std.proofs.lemmas.Slice.Eq.{HasBytesAt, text_from_reads}
use Rattle.cacao_ids.specs.Stamps.{two_digits, four_digits, date_text, IsDateText, IsTimeText, IsFraction, IsStamp}

-- a year of two pairs of digits
year_spelled : (century year : ℕ) → year ≤ 99 → four_digits (century * 100 + year) ≡ two_digits century ++ two_digits year
year_spelled century year h =
    let front : (century * 100 + year) / 100 ≡ century = omega arith in
    let back : (century * 100 + year) % 100 ≡ year = omega arith in
    rw (front, back) refl

pub date_spelled : (text : List ℕ) (century year month day : ℕ) → year ≤ 99 → length text ≡ 10
    → HasBytesAt text 0 (two_digits century ++ two_digits year ++ 45 ∷ two_digits month ++ 45 ∷ two_digits day)
    → text ≡ date_text (century * 100 + year) month day
date_spelled text century year month day h size reads =
    text_from_reads text (two_digits century ++ two_digits year ++ 45 ∷ two_digits month ++ 45 ∷ two_digits day) size reads
    ∙ ap (λ t. t ++ 45 ∷ two_digits month ++ 45 ∷ two_digits day) (sym (year_spelled century year h))

date_size : (date : List ℕ) → IsDateText date → length date ≡ 10
date_size date d = ap length d.spelled

time_size : (time : List ℕ) → IsTimeText time → length time ≡ 8
time_size time t = ap length t.spelled

regroup : (date time fraction last : List ℕ) → date ++ 84 ∷ time ++ fraction ++ last ≡ date ++ (84 ∷ (time ++ (fraction ++ last)))
regroup date time fraction last = simp append_assoc

take_of : (text front rest : List ℕ) (n : ℕ) → text ≡ front ++ rest → length front ≡ n → take n text ≡ front
take_of text front rest n e h = ap (take n) e ∙ take_at front rest n h

drop_of : (text front rest : List ℕ) (n : ℕ) → text ≡ front ++ rest → length front ≡ n → drop n text ≡ rest
drop_of text front rest n e h = ap (drop n) e ∙ drop_at front rest n h

-- a fraction and the last character follow 19 others
stamp_rest : (text : List ℕ) (s : IsStamp text) → (drop 19 text ≡ s.fraction ++ 90 ∷ []) × (length text ≡ 20 + length s.fraction)
stamp_rest text s =
    let front : length (s.date ++ 84 ∷ s.time) ≡ 19 = omega (arith, length-append s.date (84 ∷ s.time), date_size s.date s.date_fits, time_size s.time s.time_fits) in
    let whole : text ≡ (s.date ++ 84 ∷ s.time) ++ (s.fraction ++ 90 ∷ []) = s.joined ∙ append_assoc (s.date ++ 84 ∷ s.time) s.fraction (90 ∷ []) in (
      drop_of text (s.date ++ 84 ∷ s.time) (s.fraction ++ 90 ∷ []) 19 whole front,
      omega (arith, ap length whole, length-append (s.date ++ 84 ∷ s.time) (s.fraction ++ 90 ∷ []), length-append s.fraction (90 ∷ []), front),
    )

pub stamp_fraction : (text : List ℕ) → IsStamp text → IsFraction (take (length text - 1 - 19) (drop 19 text))
stamp_fraction text s =
    let rest = stamp_rest text s in
    subst IsFraction (sym (take_of (drop 19 text) s.fraction (90 ∷ []) (length text - 1 - 19) rest.0 (omega (arith, rest.1)))) s.fraction_fits

pub stamp_from : (text : List ℕ) → 20 ≤ length text → get_or text 10 0 ≡ 84 → get_or text (length text - 1) 0 ≡ 90
    → IsDateText (take 10 text) → IsTimeText (take 8 (drop 11 text)) → IsFraction (take (length text - 1 - 19) (drop 19 text)) → IsStamp text
stamp_from text size middle last date time fraction =
    let none : drop (suc (length text - 1)) text ≡ [] = drop_all (suc (length text - 1)) text (omega arith) in
    let tail : drop (length text - 1) text ≡ 90 ∷ [] = drop-cons text (length text - 1) 0 (omega arith) ∙ cc (last, none) in
    let place : 19 + (length text - 1 - 19) ≡ length text - 1 = omega arith in
    let end : drop (length text - 1 - 19) (drop 19 text) ≡ 90 ∷ [] = drop-drop (length text - 1 - 19) 19 text ∙ ap (λ i. drop i text) place ∙ tail in
    let behind : drop 19 text ≡ take (length text - 1 - 19) (drop 19 text) ++ 90 ∷ [] = sym (take-append-drop (length text - 1 - 19) (drop 19 text)) ∙ ap (λ t. take (length text - 1 - 19) (drop 19 text) ++ t) end in
    let clock : drop 11 text ≡ take 8 (drop 11 text) ++ drop 19 text = sym (take-append-drop 8 (drop 11 text)) ∙ ap (λ t. take 8 (drop 11 text) ++ t) (drop-drop 8 11 text) in
    let day : drop 10 text ≡ 84 ∷ drop 11 text = drop-cons text 10 0 (omega arith) ∙ ap (λ b. b ∷ drop 11 text) middle in
    record {
      date = take 10 text;
      time = take 8 (drop 11 text);
      fraction = take (length text - 1 - 19) (drop 19 text);
      date_fits = date;
      time_fits = time;
      fraction_fits = fraction;
      joined = sym (take-append-drop 10 text) ∙ ap (λ t. take 10 text ++ t) (day ∙ ap (λ t. 84 ∷ t) (clock ∙ ap (λ t. take 8 (drop 11 text) ++ t) behind))
          ∙ sym (regroup (take 10 text) (take 8 (drop 11 text)) (take (length text - 1 - 19) (drop 19 text)) (90 ∷ []));
    }
