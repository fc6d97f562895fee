-- How DOT reads what is quoted.
use Rattle.std.proofs.Common.{◌≡◌, ◌≢◌, ◌∙◌, ℕ, ◌+◌, ◌≤◌, ◌==◌, ◌||◌, Bool, true, false, not, List, [], ◌∷◌, ◌++◌, refl, sym, ap, subst, arith, append_assoc}
use Rattle.std.specs.Prelude.{All, flat_map, codes, IsTrue, if◌then◌else◌}
use Rattle.std.specs.List.{list_all}
use Rattle.std.proofs.lemmas.Bool.{and_parts, eqb-true, eqb-false}
use Rattle.std.proofs.lemmas.List.Elements.{All-append, All-cons, All-nil}
use Rattle.cacao_view_graph.specs.Quoting.{IsLabel, IsPlain, IsRead, closed, quote, backslash, new_line, ampersand, plain, ends_barred, has_barred, is_control, quoted, quoted_byte, replaced, shown, shown_byte, symbol}

-- ---- what is read

high : (x : ℕ) → 128 ≤ x → IsPlain x
high x h = (λ e. omega (arith, h, e), λ e. omega (arith, h, e), λ e. omega (arith, h, e), λ e. omega (arith, h, e), λ e. omega (arith, h, e))

symbol_end : (t : Bool) (b : ℕ) → 128 ≤ (if t then 161 else 128 + b)
symbol_end true b = omega arith
symbol_end false b = omega arith

symbol_read : (b : ℕ) (rest text : List ℕ) → IsLabel rest text → IsLabel (symbol b ++ rest) (symbol b ++ text)
symbol_read b rest text h = plain (high 226 (omega arith)) (plain (high 144 (omega arith)) (plain (high (if b == 127 then 161 else 128 + b) (symbol_end (b == 127) b)) h))

not_nul : (b : ℕ) → is_control b ≡ false → b ≢ 0
not_nul b e is = let nul : is_control 0 ≡ false = subst (λ n. is_control n ≡ false) is e in absurd cc

shown_read : (b : ℕ) (rest text : List ℕ) (t : Bool) → is_control b ≡ t → b ≢ 10 → b ≢ 34 → b ≢ 38 → b ≢ 92 → IsLabel rest text → IsLabel ((if t then symbol b else b ∷ []) ++ rest) ((if t then symbol b else b ∷ []) ++ text)
shown_read b rest text true e n10 n34 n38 n92 h = symbol_read b rest text h
shown_read b rest text false e n10 n34 n38 n92 h = plain (not_nul b e, n10, n34, n38, n92) h

-- a byte and what it is read as, by whether it is each of four others
at_92 : (b : ℕ) (rest text : List ℕ) (t : Bool) → (b == 92) ≡ t → b ≢ 10 → b ≢ 34 → b ≢ 38 → IsLabel rest text → IsLabel ((if t then 92 ∷ 92 ∷ [] else shown_byte b) ++ rest) (shown_byte b ++ text)
at_92 b rest text true e n10 n34 n38 h = subst (λ c. IsLabel (92 ∷ 92 ∷ rest) (shown_byte c ++ text)) (sym (eqb-true b 92 e)) (backslash h)
at_92 b rest text false e n10 n34 n38 h = shown_read b rest text (is_control b) refl n10 n34 n38 (eqb-false b 92 e) h

at_38 : (b : ℕ) (rest text : List ℕ) (t : Bool) → (b == 38) ≡ t → b ≢ 10 → b ≢ 34 → IsLabel rest text → IsLabel ((if t then codes "&amp;" else (if b == 92 then 92 ∷ 92 ∷ [] else shown_byte b)) ++ rest) (shown_byte b ++ text)
at_38 b rest text true e n10 n34 h = subst (λ c. IsLabel (codes "&amp;" ++ rest) (shown_byte c ++ text)) (sym (eqb-true b 38 e)) (ampersand h)
at_38 b rest text false e n10 n34 h = at_92 b rest text (b == 92) refl n10 n34 (eqb-false b 38 e) h

at_34 : (b : ℕ) (rest text : List ℕ) (t : Bool) → (b == 34) ≡ t → b ≢ 10 → IsLabel rest text
    → IsLabel ((if t then 92 ∷ 34 ∷ [] else (if b == 38 then codes "&amp;" else (if b == 92 then 92 ∷ 92 ∷ [] else shown_byte b))) ++ rest) (shown_byte b ++ text)
at_34 b rest text true e n10 h = subst (λ c. IsLabel (92 ∷ 34 ∷ rest) (shown_byte c ++ text)) (sym (eqb-true b 34 e)) (quote h)
at_34 b rest text false e n10 h = at_38 b rest text (b == 38) refl n10 (eqb-false b 34 e) h

at_10 : (b : ℕ) (rest text : List ℕ) (t : Bool) → (b == 10) ≡ t → IsLabel rest text
    → IsLabel ((if t then 92 ∷ 110 ∷ [] else (if b == 34 then 92 ∷ 34 ∷ [] else (if b == 38 then codes "&amp;" else (if b == 92 then 92 ∷ 92 ∷ [] else shown_byte b)))) ++ rest) (shown_byte b ++ text)
at_10 b rest text true e h = subst (λ c. IsLabel (92 ∷ 110 ∷ rest) (shown_byte c ++ text)) (sym (eqb-true b 10 e)) (new_line h)
at_10 b rest text false e h = at_34 b rest text (b == 34) refl (eqb-false b 10 e) h

label_read : (text : List ℕ) → IsLabel (flat_map quoted_byte text ++ 34 ∷ []) (flat_map shown_byte text)
label_read [] = closed
label_read (b ∷ bs) =
    let rest = flat_map quoted_byte bs in
    let more = flat_map shown_byte bs in
    subst (λ l. IsLabel l (shown_byte b ++ more)) (sym (append_assoc (quoted_byte b) rest (34 ∷ []))) (at_10 b (rest ++ 34 ∷ []) more (b == 10) refl (label_read bs))

pub quoted_read : (text : List ℕ) → IsRead (quoted text) (shown text)
quoted_read text = (flat_map quoted_byte (replaced 0 0 text) ++ 34 ∷ [], refl, label_read (replaced 0 0 text))

-- ---- texts without control characters

shown_same : (b : ℕ) (t : Bool) → not t ≡ true → (if t then symbol b else b ∷ []) ≡ b ∷ []
shown_same b true h = absurd cc
shown_same b false h = refl

bytes_plain : (text : List ℕ) → IsTrue (list_all (λ b. not (is_control b)) text) → flat_map shown_byte text ≡ text
bytes_plain [] h = refl
bytes_plain (b ∷ bs) h =
    let p = and_parts (not (is_control b)) (list_all (λ c. not (is_control c)) bs) h in
    ap (λ l. l ++ flat_map shown_byte bs) (shown_same b (is_control b) p.0) ∙ ap (λ l. b ∷ l) (bytes_plain bs p.1)

none_replaced : (first second b : ℕ) (bs more : List ℕ) (t u : Bool) → t || u ≡ false → (u ≡ false → more ≡ bs) → (if t then 189 else b) ∷ more ≡ b ∷ bs
none_replaced first second b bs more true u e h = absurd cc
none_replaced first second b bs more false u e h = ap (λ l. b ∷ l) (h e)

replaced_same : (first second : ℕ) (text : List ℕ) → has_barred first second text ≡ false → replaced first second text ≡ text
replaced_same first second [] e = refl
replaced_same first second (b ∷ bs) e =
    none_replaced first second b bs (replaced second b bs) (ends_barred first second b) (has_barred second b bs) e (λ none. replaced_same second b bs none)

pub shown_plain : (text : List ℕ) → IsTrue (list_all (λ b. not (is_control b)) text) → has_barred 0 0 text ≡ false → shown text ≡ text
shown_plain text h e = ap (flat_map shown_byte) (replaced_same 0 0 text e) ∙ bytes_plain text h

-- ---- no line feed

-- no byte is a line feed
abbrev pub IsClean : List ℕ → Type 0
IsClean bytes = All (λ b. b ≢ 10) bytes

pub clean_test : (bytes : List ℕ) → list_all (λ b. not (b == 10)) bytes ≡ true → IsClean bytes
clean_test [] h = All-nil (λ b. b ≢ 10)
clean_test (b ∷ bs) h =
    let p = and_parts (not (b == 10)) (list_all (λ c. not (c == 10)) bs) h in
    All-cons (λ c. c ≢ 10) b bs (no (b == 10) refl p.0) (clean_test bs p.1)
  where
    no : (t : Bool) → (b == 10) ≡ t → not t ≡ true → b ≢ 10
    no true e n = absurd cc
    no false e n = eqb-false b 10 e

pub clean_append : (xs ys : List ℕ) → IsClean xs → IsClean ys → IsClean (xs ++ ys)
clean_append xs ys h k = All-append (λ b. b ≢ 10) xs ys h k

clean_if : (t : Bool) (xs ys : List ℕ) → IsClean xs → (t ≡ false → IsClean ys) → IsClean (if t then xs else ys)
clean_if true xs ys h k = h
clean_if false xs ys h k = k refl

clean_symbol : (b : ℕ) (t : Bool) → IsClean (226 ∷ 144 ∷ (if t then 161 else 128 + b) ∷ [])
clean_symbol b t =
    let last : ℕ = if t then 161 else 128 + b in
    let low : 128 ≤ last = symbol_end t b in
    All-cons (λ c. c ≢ 10) 226 (144 ∷ last ∷ []) (λ e. omega (arith, e))
    (All-cons (λ c. c ≢ 10) 144 (last ∷ []) (λ e. omega (arith, e)) (All-cons (λ c. c ≢ 10) last [] (λ e. omega (arith, e, low)) (All-nil (λ c. c ≢ 10))))

clean_byte : (b : ℕ) → IsClean (quoted_byte b)
clean_byte b =
    clean_if (b == 10) (92 ∷ 110 ∷ []) (if b == 34 then 92 ∷ 34 ∷ [] else (if b == 38 then codes "&amp;" else (if b == 92 then 92 ∷ 92 ∷ [] else shown_byte b))) (clean_test (92 ∷ 110 ∷ []) refl) (λ n10.
    clean_if (b == 34) (92 ∷ 34 ∷ []) (if b == 38 then codes "&amp;" else (if b == 92 then 92 ∷ 92 ∷ [] else shown_byte b)) (clean_test (92 ∷ 34 ∷ []) refl) (λ n34.
    clean_if (b == 38) (codes "&amp;") (if b == 92 then 92 ∷ 92 ∷ [] else shown_byte b) (clean_test (codes "&amp;") refl) (λ n38.
    clean_if (b == 92) (92 ∷ 92 ∷ []) (shown_byte b) (clean_test (92 ∷ 92 ∷ []) refl) (λ n92.
    clean_if (is_control b) (symbol b) (b ∷ []) (clean_symbol b (b == 127)) (λ n. All-cons (λ c. c ≢ 10) b [] (eqb-false b 10 n10) (All-nil (λ c. c ≢ 10)))))))

clean_bytes : (text : List ℕ) → IsClean (flat_map quoted_byte text)
clean_bytes [] = All-nil (λ b. b ≢ 10)
clean_bytes (b ∷ bs) = clean_append (quoted_byte b) (flat_map quoted_byte bs) (clean_byte b) (clean_bytes bs)

pub clean_quoted : (text : List ℕ) → IsClean (quoted text)
clean_quoted text =
    let bytes : List ℕ = replaced 0 0 text in
    clean_append (34 ∷ []) (flat_map quoted_byte bytes ++ 34 ∷ []) (clean_test (34 ∷ []) refl)
    (clean_append (flat_map quoted_byte bytes) (34 ∷ []) (clean_bytes bytes) (clean_test (34 ∷ []) refl))
