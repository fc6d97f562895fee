-- The first reference, as a relation and as a function of the text.
use Rattle.std.proofs.Common.{◌≡◌, ℕ, suc, ◌+◌, ◌-◌, ◌<◌, ◌≤◌, ◌&&◌, Bool, true, false, List, [], ◌∷◌, ◌++◌, length, take, drop, get_or, take_at, drop_at, take-append-drop, length-append, append_assoc, cond, Option, Some, None, arith, refl, sym, ◌∙◌, ap, subst}
use Rattle.std.specs.Prelude.{codes, MatchOption, option_map, nat_le}
use Rattle.std.specs.List.{list_all}
use Rattle.std.specs.Str.{bytes_eq}
use Rattle.std.proofs.lemmas.Bool.{true≢false}
use Rattle.std.specs.Str.{IsUtf8, IsCharBoundary}
use Rattle.std.proofs.lemmas.List.{drop-drop, length-drop, length-take-le, get_or-drop, get_or-append-add}
use Rattle.std.proofs.lemmas.Str.{IsCharBoundary-before_ascii, IsCharBoundary-after_ascii}
use Rattle.std.proofs.lemmas.Slice.Eq.{bytes_eq-Decides}
use Rattle.cacao_vars.specs.Names.{IsName, is_name_character, underscores}
use Rattle.cacao_vars.specs.References.{BeginsWithReference, HasReferenceAt, HasNoReference, StandsAt, IsFirstReference, reference_text, name_run, behind_run, is_name, begins_with_reference, IsExactFront, behind, first_reference}
use Rattle.cacao_vars.proofs.ReferenceLemmas.{both, name_size, name_characters}

-- the run ends where the name ends
name_run-name : (name rest : List ℕ) → list_all is_name_character name ≡ true → name_run (name ++ 58 ∷ rest) ≡ name
name_run-name [] rest e = refl
name_run-name (c ∷ cs) rest e =
    let h = both (is_name_character c) (list_all is_name_character cs) e in rw h.0 (ap (λ t. c ∷ t) (name_run-name cs rest h.1))

behind_run-name : (name rest : List ℕ) → list_all is_name_character name ≡ true → behind_run (name ++ 58 ∷ rest) ≡ 58 ∷ rest
behind_run-name [] rest e = refl
behind_run-name (c ∷ cs) rest e =
    let h = both (is_name_character c) (list_all is_name_character cs) e in rw h.0 (behind_run-name cs rest h.1)

pub run-append : (text : List ℕ) → text ≡ name_run text ++ behind_run text
run-append [] = refl
run-append (c ∷ cs) = elim (is_name_character c) as (λ b. c ∷ cs ≡ (cond b (c ∷ name_run cs) []) ++ (cond b (behind_run cs) (c ∷ cs))) [
  | true ↦ ap (λ t. c ∷ t) (run-append cs)
  | false ↦ refl
]

conj : (a b : Bool) → a ≡ true → b ≡ true → (a && b) ≡ true
conj true b e f = f
conj false b e f = absurd (true≢false (sym e))

bool_false : (b : Bool) → (b ≡ true → ⊥) → b ≡ false
bool_false true h = absurd (h refl)
bool_false false h = refl

equal_bytes : (a b : List ℕ) → bytes_eq a b ≡ true → a ≡ b
equal_bytes a b e = (bytes_eq-Decides a b).0 e

le_true : (a b : ℕ) → a ≤ b → nat_le a b ≡ true
le_true a b h = grind arith

true_le : (a b : ℕ) → nat_le a b ≡ true → a ≤ b
true_le a b h = grind arith

-- the test of a name is the grammar
is_name-IsName : (text : List ℕ) → is_name text ≡ true → IsName text
is_name-IsName text e =
    let fourth = both (nat_le 5 (length text) && nat_le (length text) 64 && bytes_eq (take 2 text) underscores && bytes_eq (drop (length text - 2) text) underscores)
    (list_all is_name_character (take (length text - 4) (drop 2 text))) e in
    let third = both (nat_le 5 (length text) && nat_le (length text) 64 && bytes_eq (take 2 text) underscores) (bytes_eq (drop (length text - 2) text) underscores) fourth.0 in
    let second = both (nat_le 5 (length text) && nat_le (length text) 64) (bytes_eq (take 2 text) underscores) third.0 in
    let first = both (nat_le 5 (length text)) (nat_le (length text) 64) second.0 in
    let least : 5 ≤ length text = true_le 5 (length text) first.0 in
    let most : length text ≤ 64 = true_le (length text) 64 first.1 in
    let size : length (take (length text - 4) (drop 2 text)) ≡ length text - 4 = length-take-le (length text - 4) (drop 2 text) (omega (arith, length-drop 2 text)) in
    let place : 2 + (length text - 4) ≡ length text - 2 = omega arith in
    let end : drop (length text - 4) (drop 2 text) ≡ underscores =
    drop-drop (length text - 4) 2 text ∙ ap (λ i. drop i text) place ∙ equal_bytes (drop (length text - 2) text) underscores third.1 in
    let middle = take (length text - 4) (drop 2 text) in record {
      middle = middle;
      at_least = omega (arith, size);
      at_most = omega (arith, size);
      characters = fourth.1;
      spelled = sym (take-append-drop 2 text)
          ∙ ap (λ t. t ++ drop 2 text) (equal_bytes (take 2 text) underscores second.1)
          ∙ ap (λ t. underscores ++ t) (sym (take-append-drop (length text - 4) (drop 2 text)) ∙ ap (λ t. middle ++ t) end);
    }

IsName-is_name : (text : List ℕ) → IsName text → is_name text ≡ true
IsName-is_name text n =
    let size : length text ≡ length n.middle + 4 = ap length n.spelled ∙ omega (arith, length-append (underscores ++ n.middle) underscores) in
    let least : nat_le 5 (length text) ≡ true = le_true 5 (length text) (omega (arith, n.at_least)) in
    let most : nat_le (length text) 64 ≡ true = le_true (length text) 64 (omega (arith, n.at_most)) in
    let front : take 2 text ≡ underscores = ap (take 2) n.spelled in
    let back : drop (length text - 2) text ≡ underscores =
    ap (drop (length text - 2)) n.spelled ∙ drop_at (underscores ++ n.middle) underscores (length text - 2) (omega arith) in
    let middle : take (length text - 4) (drop 2 text) ≡ n.middle =
    ap (λ t. take (length text - 4) (drop 2 t)) n.spelled ∙ take_at n.middle underscores (length text - 4) (omega arith) in
    conj (nat_le 5 (length text) && nat_le (length text) 64 && bytes_eq (take 2 text) underscores && bytes_eq (drop (length text - 2) text) underscores)
    (list_all is_name_character (take (length text - 4) (drop 2 text)))
    (conj (nat_le 5 (length text) && nat_le (length text) 64 && bytes_eq (take 2 text) underscores) (bytes_eq (drop (length text - 2) text) underscores)
    (conj (nat_le 5 (length text) && nat_le (length text) 64) (bytes_eq (take 2 text) underscores)
    (conj (nat_le 5 (length text)) (nat_le (length text) 64) least most)
    (ap (λ t. bytes_eq t underscores) front))
    (ap (λ t. bytes_eq t underscores) back))
    (ap (list_all is_name_character) middle ∙ n.characters)

-- a text that begins with the reference to a name
pub record Begins (text name rest : List ℕ) : Type 0 where
  pub test : begins_with_reference text ≡ true
  pub run : name_run text ≡ name
  pub back : drop 6 (behind_run text) ≡ rest

pub begins : (text name rest : List ℕ) → IsName name → text ≡ reference_text name ++ rest → Begins text name rest
begins text name rest n e =
    let whole : text ≡ name ++ (codes ":value" ++ rest) = e ∙ append_assoc name (codes ":value") rest in
    let characters = name_characters name n in
    let run : name_run text ≡ name = ap name_run whole ∙ name_run-name name (118 ∷ 97 ∷ 108 ∷ 117 ∷ 101 ∷ rest) characters in
    let back : behind_run text ≡ codes ":value" ++ rest = ap behind_run whole ∙ behind_run-name name (118 ∷ 97 ∷ 108 ∷ 117 ∷ 101 ∷ rest) characters in record {
      test = conj (is_name (name_run text)) (bytes_eq (take 6 (behind_run text)) (codes ":value")) (ap is_name run ∙ IsName-is_name name n) (ap (λ t. bytes_eq (take 6 t) (codes ":value")) back);
      run = run;
      back = ap (drop 6) back;
    }

pub begins_from : (text : List ℕ) → begins_with_reference text ≡ true → BeginsWithReference text
begins_from text e =
    let parts = both (is_name (name_run text)) (bytes_eq (take 6 (behind_run text)) (codes ":value")) e in
    let value : take 6 (behind_run text) ≡ codes ":value" = equal_bytes (take 6 (behind_run text)) (codes ":value") parts.1 in (
      name_run text,
      drop 6 (behind_run text),
      is_name-IsName (name_run text) parts.0,
      run-append text ∙ ap (λ t. name_run text ++ t) (sym (take-append-drop 6 (behind_run text)) ∙ ap (λ t. t ++ drop 6 (behind_run text)) value)
          ∙ sym (append_assoc (name_run text) (codes ":value") (drop 6 (behind_run text))),
    )

pub begins_not : (text : List ℕ) → ¬ BeginsWithReference text → begins_with_reference text ≡ false
begins_not text none = bool_false (begins_with_reference text) (λ e. none (begins_from text e))

no_empty : (name rest : List ℕ) → IsName name → [] ≡ reference_text name ++ rest → ⊥
no_empty name rest n e =
    let size = name_size name n in
    omega (arith, ap length e, length-append (name ++ codes ":value") rest, length-append name (codes ":value"))

found_same : (c : ℕ) (cs : List ℕ) (name rest : List ℕ) → Begins (c ∷ cs) name rest → first_reference (c ∷ cs) ≡ Some (record { before = []; name = name; rest = rest })
found_same c cs name rest b = rw b.test (cc (b.run, b.back))

pub first_from : (before text name rest : List ℕ) → IsFirstReference text (record { before = before; name = name; rest = rest })
    → first_reference text ≡ Some (record { before = before; name = name; rest = rest })
first_from [] [] name rest f = absurd (no_empty name rest f.name_fits f.joined)
first_from [] (c ∷ cs) name rest f = found_same c cs name rest (begins (c ∷ cs) name rest f.name_fits f.joined)
first_from (b ∷ bs) [] name rest f = absurd (omega (arith, ap length f.joined))
first_from (b ∷ bs) (c ∷ cs) name rest f =
    let head : c ≡ b = cc f.joined in
    let tail : cs ≡ bs ++ (reference_text name ++ rest) = cc f.joined in
    let later = first_from bs cs name rest (record {
      name_fits = f.name_fits;
      joined = tail;
      first = λ place h. f.first (suc place) (omega arith);
    }) in
    rw (begins_not (c ∷ cs) (f.first 0 (omega arith))) (ap (option_map (behind c)) later ∙ cc head)

pub none_from : (text : List ℕ) → HasNoReference text → first_reference text ≡ None
none_from [] none = refl
none_from (c ∷ cs) none =
    rw (begins_not (c ∷ cs) (none 0)) (ap (option_map (behind c)) (none_from cs (λ place. none (suc place))))

-- what is cut out where a reference stands
pub first_of : (text before name rest : List ℕ) (place len : ℕ) → StandsAt text place len → before ≡ take place text → name ≡ take len (drop place text) → rest ≡ drop (place + len + 6) text
    → ((at : ℕ) → at < place → ¬ HasReferenceAt text at) → IsFirstReference text (record { before = before; name = name; rest = rest })
first_of text before name rest place len s b n r none =
    let behind : drop (len + 6) (drop place text) ≡ drop (place + len + 6) text = drop-drop (len + 6) place text ∙ (let at : place + (len + 6) ≡ place + len + 6 = omega arith in ap (λ i. drop i text) at) in
    let size : length (take place text) ≡ place = length-take-le place text (omega (arith, s.within)) in record {
      name_fits = subst IsName (sym n) s.name_fits;
      joined = sym (take-append-drop place text) ∙ cc (s.spelled, behind, b, n, r);
      first = λ at h. none at (omega (arith, ap length b, size));
    }

-- where the text may be cut
spelled_at : (text : List ℕ) (place len : ℕ) → StandsAt text place len → drop place text ≡ take len (drop place text) ++ (codes ":value" ++ drop (len + 6) (drop place text))
spelled_at text place len s = s.spelled ∙ append_assoc (take len (drop place text)) (codes ":value") (drop (len + 6) (drop place text))

character_at : (text : List ℕ) (place len i : ℕ) → StandsAt text place len → get_or text (place + (len + i)) 0 ≡ get_or (codes ":value" ++ drop (len + 6) (drop place text)) i 0
character_at text place len i s =
    let size : length (take len (drop place text)) ≡ len = length-take-le len (drop place text) (omega (arith, s.within, length-drop place text)) in
    sym (get_or-drop place text (len + i) 0) ∙ ap (λ t. get_or t (len + i) 0) (spelled_at text place len s)
    ∙ ap (λ n. get_or (take len (drop place text) ++ (codes ":value" ++ drop (len + 6) (drop place text))) (n + i) 0) (sym size)
    ∙ get_or-append-add (take len (drop place text)) (codes ":value" ++ drop (len + 6) (drop place text)) i 0

pub cut_before_value : (text : List ℕ) (place len : ℕ) → StandsAt text place len → IsCharBoundary text (place + len)
cut_before_value text place len s =
    let same : place + (len + 0) ≡ place + len = omega arith in
    let colon : get_or text (place + len) 0 ≡ 58 = ap (λ i. get_or text i 0) (sym same) ∙ character_at text place len 0 s in
    IsCharBoundary-before_ascii text (place + len) (omega (arith, s.within)) (omega arith)

pub cut_behind_value : (text : List ℕ) (place len : ℕ) → IsUtf8 text → StandsAt text place len → IsCharBoundary text (place + len + 6)
cut_behind_value text place len utf8 s =
    let same : place + (len + 5) + 1 ≡ place + len + 6 = omega arith in
    let last : get_or text (place + (len + 5)) 0 ≡ 101 = character_at text place len 5 s in
    subst (IsCharBoundary text) same (IsCharBoundary-after_ascii text (place + (len + 5)) utf8 (omega (arith, s.within)) (omega arith))

-- the reference at the front, as functions of the text
pub exact_front : (text : List ℕ) (found : Option ℕ) → MatchOption found (¬ (BeginsWithReference text)) (λ len. StandsAt text 0 len) → IsExactFront text found
exact_front text None none = begins_not text none
exact_front text (Some len) s =
    let b = begins text (take len text) (drop (len + 6) text) s.name_fits s.spelled in (b.test, sym b.run, sym b.back)
