-- UTF-8 byte by byte: what follows a byte of a text.
use Rattle.std.proofs.Common.{◌≡◌, ℕ, ◌+◌, ◌/◌, ◌<◌, ◌≤◌, List, [], ◌∷◌, ◌++◌, length, Bool, true, false, cond, nat_lt, IsUtf8, refl, sym, ap, subst, ◌∙◌, arith}
use Rattle.std.proofs.lemmas.Bool.{and_parts}
use Rattle.std.proofs.lemmas.Str.{IsUtf8-append, IsUtf8-encode}
use lib.Utf8.{scalar, scalars, encode, encodes, next}

-- each byte is one of a character past ASCII
abbrev pub AreHigh : List ℕ → Type 0
AreHigh [] = Unit {0}
AreHigh (x ∷ xs) = (128 ≤ x) × AreHigh xs

-- a character's first byte, and its others
pub record Encoded (c : ℕ) : Type 0 where
  pub first : ℕ
  pub others : List ℕ
  pub parts : encode c ≡ first ∷ others
  pub high : AreHigh others
  pub short : length others ≤ 3
  pub alone : first < 128 → others ≡ []

encoded_by : (a b d : Bool) (c : ℕ) → (first : ℕ) × (others : List ℕ)
    × (cond a (c ∷ []) (cond b ((192 + c / 64) ∷ next c ∷ []) (cond d ((224 + c / 4096) ∷ next (c / 64) ∷ next c ∷ []) ((240 + c / 262144) ∷ next (c / 4096) ∷ next (c / 64) ∷ next c ∷ []))) ≡ first ∷ others) × AreHigh others × (length others ≤ 3) × (first < 128 → others ≡ [])
encoded_by true b d c = (c, [], refl, tt, omega arith, λ h. refl)
encoded_by false true d c = (192 + c / 64, next c ∷ [], refl, (omega arith, tt), omega arith, λ h. absurd (omega arith))
encoded_by false false true c = (224 + c / 4096, next (c / 64) ∷ next c ∷ [], refl, (omega arith, (omega arith, tt)), omega arith, λ h. absurd (omega arith))
encoded_by false false false c = (240 + c / 262144, next (c / 4096) ∷ next (c / 64) ∷ next c ∷ [], refl, (omega arith, (omega arith, (omega arith, tt))), omega arith, λ h. absurd (omega arith))

pub encoded : (c : ℕ) → Encoded c
unfolding encode
encoded c = let w = encoded_by (nat_lt c 128) (nat_lt c 2048) (nat_lt c 65536) c in record { first = w.0; others = w.1; parts = w.2; high = w.3; short = w.4; alone = w.5 }

-- a text's first character begins with x
pub record FirstChar (x : ℕ) (xs : List ℕ) : Type 0 where
  pub others : List ℕ
  pub later : List ℕ
  pub parts : xs ≡ others ++ later
  pub high : AreHigh others
  pub utf8 : IsUtf8 later
  pub whole : (t : List ℕ) → IsUtf8 t → IsUtf8 (x ∷ (others ++ t))
  pub alone : x < 128 → others ≡ []

first_char_by : (cs : List ℕ) (x : ℕ) (xs : List ℕ) → scalars cs ≡ true → encodes cs ≡ x ∷ xs → FirstChar x xs
first_char_by [] x xs ok e = absurd (cc)
first_char_by (c ∷ cs) x xs ok e =
    let p = and_parts (scalar c) (scalars cs) ok in
    let w = encoded c in
    let same : w.first ∷ (w.others ++ encodes cs) ≡ x ∷ xs = ap (λ l. l ++ encodes cs) (sym w.parts) ∙ e in
    let x_is : w.first ≡ x = cc in
    let rest : w.others ++ encodes cs ≡ xs = cc in
    record {
      others = w.others;
      later = encodes cs;
      parts = sym rest;
      high = w.high;
      utf8 = (cs, (p.1, refl));
      whole = λ t h. subst IsUtf8 (ap (λ l. l ++ t) w.parts ∙ ap (λ y. y ∷ (w.others ++ t)) x_is) (IsUtf8-append (encode c) t (IsUtf8-encode c p.0) h);
      alone = λ h. w.alone (omega (arith, x_is));
    }

pub first_char : (x : ℕ) (xs : List ℕ) → IsUtf8 (x ∷ xs) → FirstChar x xs
first_char x xs u = first_char_by u.0 x xs u.1.0 u.1.1

-- what follows an ASCII byte is a text
pub IsUtf8-after : (x : ℕ) (xs : List ℕ) → x < 128 → IsUtf8 (x ∷ xs) → IsUtf8 xs
IsUtf8-after x xs h u = let w = first_char x xs u in subst IsUtf8 (sym (w.parts ∙ ap (λ l. l ++ w.later) (w.alone h))) w.utf8

-- a text from some byte on, which may be within a character
pub record IsTail (xs : List ℕ) : Type 0 where
  pub rest_of_char : List ℕ
  pub later : List ℕ
  pub parts : xs ≡ rest_of_char ++ later
  pub high : AreHigh rest_of_char
  pub utf8 : IsUtf8 later

tail_by : (a b : List ℕ) (x : ℕ) (xs : List ℕ) → x ∷ xs ≡ a ++ b → AreHigh a → IsUtf8 b → IsTail xs
tail_by [] b x xs e h u =
    let w = first_char x xs (subst IsUtf8 (sym e) u) in
    record { rest_of_char = w.others; later = w.later; parts = w.parts; high = w.high; utf8 = w.utf8 }
tail_by (y ∷ a) b x xs e h u = let rest : xs ≡ a ++ b = cc in record { rest_of_char = a; later = b; parts = rest; high = h.1; utf8 = u }

pub tail_next : (x : ℕ) (xs : List ℕ) → IsTail (x ∷ xs) → IsTail xs
tail_next x xs w = tail_by w.rest_of_char w.later x xs w.parts w.high w.utf8

after_by : (a b : List ℕ) (x : ℕ) (xs : List ℕ) → x < 128 → x ∷ xs ≡ a ++ b → AreHigh a → IsUtf8 b → IsUtf8 xs
after_by [] b x xs low e h u = IsUtf8-after x xs low (subst IsUtf8 (sym e) u)
after_by (y ∷ a) b x xs low e h u = let same : x ≡ y = cc in absurd (omega (arith, h.0, same))

pub tail_after : (x : ℕ) (xs : List ℕ) → x < 128 → IsTail (x ∷ xs) → IsUtf8 xs
tail_after x xs low w = after_by w.rest_of_char w.later x xs low w.parts w.high w.utf8

pub IsTail-from_IsUtf8 : (xs : List ℕ) → IsUtf8 xs → IsTail xs
IsTail-from_IsUtf8 xs u = record { rest_of_char = []; later = xs; parts = refl; high = tt; utf8 = u }
