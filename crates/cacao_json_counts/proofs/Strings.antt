-- Passing over the bytes of a string many at a time.
use Rattle.std.proofs.Common.{◌≡◌, ℕ, suc, zero, ◌+◌, ◌-◌, ◌<◌, ◌≤◌, List, [], ◌∷◌, length, drop, get_or, Bool, true, false, ◌||◌, ◌==◌, refl, sym, ap, ◌∙◌, subst, arith}
use Rattle.std.specs.Prelude.{if◌then◌else◌}
use Rattle.std.proofs.lemmas.Bool.{eqb-true}
use Rattle.std.proofs.lemmas.List.{drop-drop, drop_more, drop_all, get_or-drop}
use Rattle.memchr.specs.Find.{Passes, Nowhere, NoneBefore, is_byte2}
use Rattle.cacao_json_counts.specs.Counts.{Outside, Inside, Escaped, colons_from}

-- a byte that ends a string or takes the next one along
abbrev pub IsStop : List ℕ → ℕ → Type 0
IsStop = Passes (is_byte2 34 92)

plain_by : (q b : Bool) (xs : List ℕ) → (q || b ≡ true → ⊥) → colons_from (if q then Outside else (if b then Escaped else Inside)) xs ≡ colons_from Inside xs
plain_by true b xs h = absurd (h refl)
plain_by false true xs h = absurd (h refl)
plain_by false false xs h = refl

-- the first bytes are no stops
plain : (xs : List ℕ) (k : ℕ) → k ≤ length xs → ((j : ℕ) → j < k → ¬ IsStop xs j) → colons_from Inside xs ≡ colons_from Inside (drop k xs)
plain xs zero h w = refl
plain [] (suc k) h w = refl
plain (x ∷ xs) (suc k) h w = omega (arith, plain_by (x == 34) (x == 92) xs (w 0 (omega arith)), plain xs k (omega (arith, h)) (λ j b. w (suc j) (omega (arith, b))))

-- none of the bytes from the place on is a stop
pub plain_to_end : (bytes : List ℕ) (place : ℕ) → Nowhere (IsStop (drop place bytes)) 0 (length (drop place bytes)) → colons_from Inside (drop place bytes) ≡ 0
plain_to_end bytes place w =
    plain (drop place bytes) (length (drop place bytes)) (omega arith) (λ j b. w j (omega arith) b)
    ∙ ap (colons_from Inside) (drop_all (length (drop place bytes)) (drop place bytes) (omega arith))

plain_to_stop : (bytes : List ℕ) (place plain_bytes : ℕ) → NoneBefore (IsStop (drop place bytes)) 0 (length (drop place bytes)) plain_bytes
    → colons_from Inside (drop place bytes) ≡ colons_from Inside (drop (place + plain_bytes) bytes)
plain_to_stop bytes place plain_bytes w =
    plain (drop place bytes) plain_bytes (omega (arith, w.high)) (λ j b. w.before j (omega arith) b) ∙ ap (colons_from Inside) (drop-drop plain_bytes place bytes)

at_quote : (b : ℕ) (xs : List ℕ) → b ≡ 34 → colons_from Inside (b ∷ xs) ≡ colons_from Outside xs
at_quote b xs e = subst (λ x. colons_from Inside (x ∷ xs) ≡ colons_from Outside xs) (sym e) (omega arith)

-- the stop is a quotation mark
pub quote_ends : (bytes : List ℕ) (place plain_bytes : ℕ) → NoneBefore (IsStop (drop place bytes)) 0 (length (drop place bytes)) plain_bytes → place + plain_bytes < length bytes → get_or bytes (place + plain_bytes) 0 ≡ 34
    → colons_from Inside (drop place bytes) ≡ colons_from Outside (drop (place + plain_bytes + 1) bytes)
quote_ends bytes place plain_bytes w below is =
    plain_to_stop bytes place plain_bytes w ∙ ap (colons_from Inside) (drop_more bytes (place + plain_bytes) 0 below) ∙ at_quote (get_or bytes (place + plain_bytes) 0) (drop (place + plain_bytes + 1) bytes) is

at_backslash : (b : ℕ) (xs : List ℕ) → b ≡ 92 → colons_from Inside (b ∷ xs) ≡ colons_from Inside (drop 1 xs)
at_backslash b [] e = subst (λ x. colons_from Inside (x ∷ []) ≡ 0) (sym e) (omega arith)
at_backslash b (y ∷ xs) e = subst (λ x. colons_from Inside (x ∷ y ∷ xs) ≡ colons_from Inside xs) (sym e) (omega arith)

to_escaped : (bytes : List ℕ) (place plain_bytes : ℕ) → NoneBefore (IsStop (drop place bytes)) 0 (length (drop place bytes)) plain_bytes → place + plain_bytes < length bytes → get_or bytes (place + plain_bytes) 0 ≡ 92
    → colons_from Inside (drop place bytes) ≡ colons_from Inside (drop (place + plain_bytes + 1 + 1) bytes)
to_escaped bytes place plain_bytes w below is =
    plain_to_stop bytes place plain_bytes w ∙ ap (colons_from Inside) (drop_more bytes (place + plain_bytes) 0 below) ∙ at_backslash (get_or bytes (place + plain_bytes) 0) (drop (place + plain_bytes + 1) bytes) is
    ∙ ap (colons_from Inside) (drop-drop 1 (place + plain_bytes + 1) bytes)

-- the stop is a backslash with a byte behind it
pub backslash_goes_on : (bytes : List ℕ) (place plain_bytes : ℕ) → NoneBefore (IsStop (drop place bytes)) 0 (length (drop place bytes)) plain_bytes → place + plain_bytes < length bytes → get_or bytes (place + plain_bytes) 0 ≡ 92
    → colons_from Inside (drop place bytes) ≡ colons_from Inside (drop (place + plain_bytes + 2) bytes)
backslash_goes_on bytes place plain_bytes w below is =
    to_escaped bytes place plain_bytes w below is ∙ ap (λ n. colons_from Inside (drop n bytes)) (omega arith)

-- the stop is a backslash at the end
pub backslash_ends : (bytes : List ℕ) (place plain_bytes : ℕ) → NoneBefore (IsStop (drop place bytes)) 0 (length (drop place bytes)) plain_bytes → place + plain_bytes < length bytes → get_or bytes (place + plain_bytes) 0 ≡ 92
    → length bytes - (place + plain_bytes) ≡ 1 → colons_from Inside (drop place bytes) ≡ 0
backslash_ends bytes place plain_bytes w below is last =
    to_escaped bytes place plain_bytes w below is ∙ ap (colons_from Inside) (drop_all (place + plain_bytes + 1 + 1) bytes (omega (arith, below, last)))

-- no colon is behind the end
pub none_behind : (bytes : List ℕ) → colons_from Outside (drop (length bytes) bytes) ≡ 0
none_behind bytes = ap (colons_from Outside) (drop_all (length bytes) bytes (omega arith))

backslash_by : (x : ℕ) (q b : Bool) → (x == 34) ≡ q → (x == 92) ≡ b → q || b ≡ true → ¬ x ≡ 34 → x ≡ 92
backslash_by x true b e f h other = absurd (other (eqb-true x 34 e))
backslash_by x false true e f h other = eqb-true x 92 f
backslash_by x false false e f h other = absurd (cc)

-- a stop that is no quotation mark is a backslash
pub other_stop : (bytes : List ℕ) (place plain_bytes : ℕ) → IsStop (drop place bytes) plain_bytes → ¬ get_or bytes (place + plain_bytes) 0 ≡ 34 → get_or bytes (place + plain_bytes) 0 ≡ 92
other_stop bytes place plain_bytes h other =
    let x = get_or bytes (place + plain_bytes) 0 in
    backslash_by x (x == 34) (x == 92) refl refl (ap (is_byte2 34 92) (sym (get_or-drop place bytes plain_bytes 0)) ∙ h) other
