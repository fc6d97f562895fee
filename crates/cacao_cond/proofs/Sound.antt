-- What the reader reads is in the grammar.
use Rattle.std.proofs.Common.{◌≡◌, ℕ, ℤ, zero, suc, pos, negsuc, ◌-◌, ◌<◌, ◌≤◌, ◌^◌, ◌==◌, ◌&&◌, ◌||◌, Bool, true, false, List, [], ◌∷◌, ◌++◌, length, drop, append_assoc, cond, Option, Some, None, Result, Ok, Err, arith, refl, sym, ◌∙◌, ap, subst, inl, inr}
use Rattle.std.specs.Prelude.{nat_eq, nat_lt, nat_le, codes, option_map, FitsSigned, IfOk}
use Rattle.std.specs.Fmt.{decimal, signed_decimal}
use Rattle.std.specs.Int.{w64}
use Rattle.std.specs.List.{starts_with}
use Rattle.std.specs.Option.{option_map_or}
use Rattle.std.specs.Str.{is_utf8}
use Rattle.std.proofs.lemmas.Str.{IsUtf8-from_is_utf8}
use Rattle.std.proofs.lemmas.List.{append-nil}
use Rattle.cacao_vars.specs.Names.{IsName}
use Rattle.cacao_vars.specs.References.{reference_text, begins_with_reference, name_run, behind_run}
use Rattle.cacao_vars.proofs.FirstLemmas.{begins as front_of, begins_from}
use Rattle.cacao_cond.specs.declared.trees.Op.{Op}
use Rattle.cacao_cond.specs.declared.trees.Op.TheVariants.{Equal, Unequal, Less, AtMost, More, AtLeast}
use Rattle.cacao_cond.specs.declared.trees.Constant.{Constant}
use Rattle.cacao_cond.specs.declared.trees.Constant.TheVariants.{Whole, Flag, Text}
use Rattle.cacao_cond.specs.declared.errors.CondError.{CondError}
use Rattle.cacao_cond.specs.declared.trees.Cond.{Cond}
use Rattle.cacao_cond.specs.Trees.{tree_of, ConstantTree, AnyTree, AllTree, PrimeTree}
use Rattle.cacao_cond.specs.Trees.ConstantTree.{last_constant, more_constants}
use Rattle.cacao_cond.specs.Trees.AnyTree.{last_part, or_else}
use Rattle.cacao_cond.specs.Trees.AllTree.{last_prime, and_also}
use Rattle.cacao_cond.specs.Trees.PrimeTree.{group, compared, among}
use Rattle.cacao_cond.specs.Grammar.{IsSpaces, IsGap, SpellsOp, SpellsConstant, SpellsConstants, SpellsAny, SpellsAll, SpellsPrime, Spells, escaped}
use Rattle.cacao_cond.specs.Reading.{◌>>=◌, skipped, begins, behind, behind_joint, reference_at, op_at, digit_run, behind_digits, is_digit, number_of, negative_of, positive_of, whole_at, quoted, with_first, text_of, constant_at, constants_at, compared_at, among_at, opening_at, comparison_at, any_at, all_at, prime_at, condition_at, Gives}
use Rattle.cacao_cond.proofs.NumberLemmas.{number_of-is}
use Rattle.cacao_cond.proofs.Steps.{some_pair, bind_some, or_cases, if_cases, if_some, both, spaces, split_spaces, are_spaces, is_gap, begins_with, is_behind, is_joint}

-- a text is what was read of it and the rest
pub record Splits (P : List ℕ → Type 0) (text rest : List ℕ) : Type 0 where
  pub front : List ℕ
  pub fits : P front
  pub joined : text ≡ front ++ rest

head_is : (c b : ℕ) → (c == b) ≡ true → c ≡ b
head_is c b e = grind arith

begins_then : (b : ℕ) (cs : List ℕ) → begins b cs ≡ true → cs ≡ b ∷ drop 1 cs
begins_then b cs e = begins_with b cs e

equal_sign : (c : ℕ) (cs rest : List ℕ) → (c == 61) ≡ true → (cond (begins 61 cs) (drop 1 cs) cs) ≡ rest → Splits (SpellsOp Equal) (c ∷ cs) rest
equal_sign c cs rest h e = elim (if_cases (begins 61 cs) (drop 1 cs) cs rest e) [
  | inl k ↦ record { front = 61 ∷ 61 ∷ []; fits = inr refl; joined = cc (head_is c 61 h, begins_then 61 cs k.0, k.1) }
  | inr k ↦ record { front = 61 ∷ []; fits = inl refl; joined = cc (head_is c 61 h, k.1) }
]

-- the numbers of digits
digits_split : (text : List ℕ) → text ≡ digit_run text ++ behind_digits text
digits_split [] = refl
digits_split (c ∷ cs) = elim (is_digit c) as (λ b. c ∷ cs ≡ (cond b (c ∷ digit_run cs) []) ++ (cond b (behind_digits cs) (c ∷ cs))) [
  | true ↦ ap (λ t. c ∷ t) (digits_split cs)
  | false ↦ refl
]

-- a quoted text is spelled by its characters
with_some : (c : ℕ) (o : Option (List ℕ × List ℕ)) (y : List ℕ × List ℕ) → option_map (with_first c) o ≡ Some y → (x : List ℕ × List ℕ) × (o ≡ Some x) × (with_first c x ≡ y)
with_some c None y e = absurd (cc e)
with_some c (Some x) y e = (x, refl, cc e)

pub escaped-yes : (c : ℕ) (cs : List ℕ) → ((c == 39) || (c == 92)) ≡ true → escaped (c ∷ cs) ≡ 92 ∷ c ∷ escaped cs
escaped-yes c cs e = rw e refl

pub escaped-no : (c : ℕ) (cs : List ℕ) → (c == 39) ≡ false → (c == 92) ≡ false → escaped (c ∷ cs) ≡ c ∷ escaped cs
escaped-no c cs e f = rw (e, f) refl

pub quoted_splits : (b : Bool) (text word rest : List ℕ) → quoted b text ≡ Some (word, rest) → cond b (92 ∷ text) text ≡ escaped word ++ 39 ∷ rest
quoted_splits b [] word rest e = absurd (cc e)
quoted_splits true (c ∷ cs) word rest e =
    let found = if_some ((c == 39) || (c == 92)) (option_map (with_first c) (quoted false cs)) (word, rest) e in
    let read = with_some c (quoted false cs) (word, rest) found.1 in
    let inner = quoted_splits false cs read.0.0 read.0.1 read.1 in
    let written = escaped-yes c read.0.0 found.0 in
    ap (λ t. 92 ∷ c ∷ t) inner ∙ ap (λ t. t ++ 39 ∷ read.0.1) (sym written) ∙ ap (λ (r : List ℕ × List ℕ). escaped r.0 ++ 39 ∷ r.1) read.2
quoted_splits false (c ∷ cs) word rest e = elim (if_cases (c == 39) (Some ([], cs)) (cond (c == 92) (quoted true cs) (option_map (with_first c) (quoted false cs))) (Some (word, rest)) e) [
  | inl h ↦ let p = some_pair h.1 in ap (λ x. x ∷ cs) (head_is c 39 h.0) ∙ ap (λ t. 39 ∷ t) p.1 ∙ ap (λ w. escaped w ++ 39 ∷ rest) p.0
  | inr h ↦ elim (if_cases (c == 92) (quoted true cs) (option_map (with_first c) (quoted false cs)) (Some (word, rest)) h.1) [
    | inl k ↦ let c_is : c ≡ 92 = head_is c 92 k.0 in ap (λ x. x ∷ cs) c_is ∙ quoted_splits true cs word rest k.1
    | inr k ↦
        let read = with_some c (quoted false cs) (word, rest) k.1 in
        let inner = quoted_splits false cs read.0.0 read.0.1 read.1 in
        let written = escaped-no c read.0.0 h.0 k.0 in
        ap (λ t. c ∷ t) inner ∙ ap (λ t. t ++ 39 ∷ read.0.1) (sym written) ∙ ap (λ (r : List ℕ × List ℕ). escaped r.0 ++ 39 ∷ r.1) read.2
  ]
]

-- whole numbers
negative_splits : (n : ℕ) (z : ℤ) → negative_of n ≡ Some z → FitsSigned w64 z × (45 ∷ decimal n ≡ signed_decimal z)
negative_splits n z e =
    let found = if_some (nat_le 1 n && nat_le n (2 ^ 63)) (Some (negsuc (n - 1))) z e in
    let tests = both (nat_le 1 n) (nat_le n (2 ^ 63)) found.0 in
    let least : 1 ≤ n = grind arith in
    let most : n ≤ 2 ^ 63 = grind arith in
    let same : negsuc (n - 1) ≡ z = cc found.1 in
    let back : suc (n - 1) ≡ n = omega arith in
    (subst (FitsSigned w64) same (record { sfits = omega arith }), ap (λ k. 45 ∷ decimal k) (sym back) ∙ ap signed_decimal same)

positive_splits : (n : ℕ) (z : ℤ) → positive_of n ≡ Some z → FitsSigned w64 z × (decimal n ≡ signed_decimal z)
positive_splits n z e =
    let found = if_some (nat_lt n (2 ^ 63)) (Some (pos n)) z e in
    let most : n < 2 ^ 63 = grind arith in
    let same : pos n ≡ z = cc found.1 in
    (subst (FitsSigned w64) same (record { sfits = omega arith }), ap signed_decimal same)

whole_splits : (text rest : List ℕ) (z : ℤ) → whole_at text ≡ Some (z, rest) → Splits (SpellsConstant (Whole z)) text rest
whole_splits text rest z e = elim (if_cases (begins 45 text) (number_of (digit_run (drop 1 text)) >>= negative_of >>= λ z. Some (z, behind_digits (drop 1 text)))
    (number_of (digit_run text) >>= positive_of >>= λ z. Some (z, behind_digits text)) (Some (z, rest)) e) [
      | inl h ↦
          let second = bind_some (number_of (digit_run (drop 1 text)) >>= negative_of) (λ z. Some (z, behind_digits (drop 1 text))) (z, rest) h.1 in
          let first = bind_some (number_of (digit_run (drop 1 text))) negative_of second.0 second.1 in
          let is = number_of-is (digit_run (drop 1 text)) first.0 first.1 in
          let z_is : second.0 ≡ z = (some_pair second.2).0 in
          let rest_is : behind_digits (drop 1 text) ≡ rest = (some_pair second.2).1 in
          let spelled = negative_splits first.0 z (first.2 ∙ ap Some z_is) in record {
            front = 45 ∷ digit_run (drop 1 text);
            fits = (spelled.0, ap (λ d. 45 ∷ d) is.1 ∙ spelled.1);
            joined = begins_with 45 text h.0 ∙ ap (λ t. 45 ∷ t) (digits_split (drop 1 text) ∙ ap (λ r. digit_run (drop 1 text) ++ r) rest_is);
          }
      | inr h ↦
          let second = bind_some (number_of (digit_run text) >>= positive_of) (λ z. Some (z, behind_digits text)) (z, rest) h.1 in
          let first = bind_some (number_of (digit_run text)) positive_of second.0 second.1 in
          let is = number_of-is (digit_run text) first.0 first.1 in
          let z_is : second.0 ≡ z = (some_pair second.2).0 in
          let rest_is : behind_digits text ≡ rest = (some_pair second.2).1 in
          let spelled = positive_splits first.0 z (first.2 ∙ ap Some z_is) in record {
            front = digit_run text;
            fits = (spelled.0, is.1 ∙ spelled.1);
            joined = digits_split text ∙ ap (λ r. digit_run text ++ r) rest_is;
          }
    ]

text_splits : (read : List ℕ × List ℕ) (text rest : List ℕ) (constant : Constant) → text ≡ 39 ∷ (escaped read.0 ++ 39 ∷ read.1) → text_of read ≡ Some (constant, rest)
    → Splits (SpellsConstant constant) text rest
text_splits read text rest constant e f =
    let found = if_some (is_utf8 read.0) (Some (Text read.0, read.1)) (constant, rest) f in
    let word_is : Text read.0 ≡ constant = (some_pair found.1).0 in
    let rest_is : read.1 ≡ rest = (some_pair found.1).1 in record {
      front = 39 ∷ escaped read.0 ++ 39 ∷ [];
      fits = subst (λ k. SpellsConstant k (39 ∷ escaped read.0 ++ 39 ∷ [])) word_is (IsUtf8-from_is_utf8 read.0 found.0, refl);
      joined = e ∙ ap (λ r. 39 ∷ (escaped read.0 ++ 39 ∷ r)) rest_is ∙ sym (append_assoc (39 ∷ escaped read.0) (39 ∷ []) rest);
    }

starts_splits : (word text : List ℕ) → starts_with nat_eq text word ≡ true → text ≡ word ++ drop (length word) text
starts_splits word text e = is_behind word text (drop (length word) text) (rw e refl)

pub constant_splits : (text rest : List ℕ) (constant : Constant) → constant_at text ≡ Some (constant, rest) → Splits (SpellsConstant constant) text rest
constant_splits text rest constant e = elim (if_cases (begins 39 text) (quoted false (drop 1 text) >>= text_of)
    (cond (starts_with nat_eq text (codes "true")) (Some (Flag true, drop 4 text)) (cond (starts_with nat_eq text (codes "false")) (Some (Flag false, drop 5 text)) (whole_at text >>= λ read. Some (Whole read.0, read.1))))
    (Some (constant, rest)) e) [
      | inl h ↦
          let read = bind_some (quoted false (drop 1 text)) text_of (constant, rest) h.1 in
          text_splits read.0 text rest constant (begins_with 39 text h.0 ∙ ap (λ t. 39 ∷ t) (quoted_splits false (drop 1 text) read.0.0 read.0.1 read.1)) read.2
      | inr h ↦ elim (if_cases (starts_with nat_eq text (codes "true")) (Some (Flag true, drop 4 text))
          (cond (starts_with nat_eq text (codes "false")) (Some (Flag false, drop 5 text)) (whole_at text >>= λ read. Some (Whole read.0, read.1))) (Some (constant, rest)) h.1) [
            | inl k ↦
                let is : Flag true ≡ constant = (some_pair k.1).0 in
                let left : drop 4 text ≡ rest = (some_pair k.1).1 in record {
                  front = codes "true";
                  fits = subst (λ x. SpellsConstant x (codes "true")) is refl;
                  joined = starts_splits (codes "true") text k.0 ∙ ap (λ r. codes "true" ++ r) left;
                }
            | inr k ↦ elim (if_cases (starts_with nat_eq text (codes "false")) (Some (Flag false, drop 5 text)) (whole_at text >>= λ read. Some (Whole read.0, read.1)) (Some (constant, rest)) k.1) [
              | inl m ↦
                  let is : Flag false ≡ constant = (some_pair m.1).0 in
                  let left : drop 5 text ≡ rest = (some_pair m.1).1 in record {
                    front = codes "false";
                    fits = subst (λ x. SpellsConstant x (codes "false")) is refl;
                    joined = starts_splits (codes "false") text m.0 ∙ ap (λ r. codes "false" ++ r) left;
                  }
              | inr m ↦
                  let read = bind_some (whole_at text) (λ read. Some (Whole read.0, read.1)) (constant, rest) m.1 in
                  let is : Whole read.0.0 ≡ constant = (some_pair read.2).0 in
                  let left : read.0.1 ≡ rest = (some_pair read.2).1 in
                  subst (λ r. Splits (SpellsConstant constant) text r) left (subst (λ x. Splits (SpellsConstant x) text read.0.1) is (whole_splits text read.0.1 read.0.0 read.1))
            ]
          ]
    ]

pub constants_splits : (n : ℕ) (text rest : List ℕ) (tree : ConstantTree) → constants_at n text ≡ Some (tree, rest) → Splits (SpellsConstants tree) text rest
constants_splits zero text rest tree e = absurd (cc e)
constants_splits (suc n) text rest tree e =
    let first = bind_some (constant_at text) (λ first. option_map_or (λ rest. constants_at n (skipped rest) >>= λ others. Some (more_constants first.0 others.0, others.1))
    (behind (codes ",") (skipped first.1)) (Some (last_constant first.0, first.1))) (tree, rest) e in
    let front = constant_splits text first.0.1 first.0.0 first.1 in
    elim (or_cases (λ rest. constants_at n (skipped rest) >>= λ others. Some (more_constants first.0.0 others.0, others.1)) (behind (codes ",") (skipped first.0.1)) (Some (last_constant first.0.0, first.0.1)) (tree, rest) first.2) [
      | inr h ↦
          let is : last_constant first.0.0 ≡ tree = (some_pair h.1).0 in
          let left : first.0.1 ≡ rest = (some_pair h.1).1 in
          subst (λ r. Splits (SpellsConstants tree) text r) left (subst (λ t. Splits (SpellsConstants t) text first.0.1) is (record { front = front.front; fits = front.fits; joined = front.joined }))
      | inl h ↦
          let others = bind_some (constants_at n (skipped h.0)) (λ others. Some (more_constants first.0.0 others.0, others.1)) (tree, rest) h.2 in
          let back = constants_splits n (skipped h.0) others.0.1 others.0.0 others.1 in
          let is : more_constants first.0.0 others.0.0 ≡ tree = (some_pair others.2).0 in
          let left : others.0.1 ≡ rest = (some_pair others.2).1 in
          let whole : text ≡ front.front ++ (spaces first.0.1 ++ (codes "," ++ (spaces h.0 ++ back.front))) ++ others.0.1 = front.joined
          ∙ ap (λ t. front.front ++ t) (split_spaces first.0.1 ∙ ap (λ t. spaces first.0.1 ++ t) (is_behind (codes ",") (skipped first.0.1) h.0 h.1
          ∙ ap (λ t. codes "," ++ t) (split_spaces h.0 ∙ ap (λ t. spaces h.0 ++ t) back.joined))) ∙ simp append_assoc in
          subst (λ r. Splits (SpellsConstants tree) text r) left (subst (λ t. Splits (SpellsConstants t) text others.0.1) is (record {
            front = front.front ++ (spaces first.0.1 ++ (codes "," ++ (spaces h.0 ++ back.front)));
            fits = (front.front, spaces first.0.1, spaces h.0, back.front, front.fits, are_spaces first.0.1, are_spaces h.0, back.fits, refl);
            joined = whole;
          }))
    ]

-- what a splitting says of equal values
made : {X : Type 0} (P : X → List ℕ → Type 0) (x y : X) (front text left rest : List ℕ) → x ≡ y → left ≡ rest → P x front → text ≡ front ++ left → Splits (P y) text rest
made P x y front text left rest e l fits joined = record {
  front = front;
  fits = subst (λ v. P v front) e fits;
  joined = joined ∙ ap (λ r. front ++ r) l;
}

pub op_splits : (text rest : List ℕ) (op : Op) → op_at text ≡ Some (op, rest) → Splits (SpellsOp op) text rest
op_splits [] rest op e = absurd (cc e)
op_splits (c ∷ cs) rest op e = elim (if_cases (c == 61) (Some (Equal, cond (begins 61 cs) (drop 1 cs) cs))
    (cond (c == 33) (cond (begins 61 cs) (Some (Unequal, drop 1 cs)) None)
    (cond (c == 60) (cond (begins 62 cs) (Some (Unequal, drop 1 cs)) (cond (begins 61 cs) (Some (AtMost, drop 1 cs)) (Some (Less, cs))))
    (cond (c == 62) (cond (begins 61 cs) (Some (AtLeast, drop 1 cs)) (Some (More, cs))) None))) (Some (op, rest)) e) [
      | inl h ↦
          let is : Equal ≡ op = (some_pair h.1).0 in
          let left : cond (begins 61 cs) (drop 1 cs) cs ≡ rest = (some_pair h.1).1 in
          subst (λ o. Splits (SpellsOp o) (c ∷ cs) rest) is (equal_sign c cs rest h.0 left)
      | inr h ↦ elim (if_cases (c == 33) (cond (begins 61 cs) (Some (Unequal, drop 1 cs)) None)
          (cond (c == 60) (cond (begins 62 cs) (Some (Unequal, drop 1 cs)) (cond (begins 61 cs) (Some (AtMost, drop 1 cs)) (Some (Less, cs))))
          (cond (c == 62) (cond (begins 61 cs) (Some (AtLeast, drop 1 cs)) (Some (More, cs))) None)) (Some (op, rest)) h.1) [
            | inl k ↦
                let found = if_some (begins 61 cs) (Some (Unequal, drop 1 cs)) (op, rest) k.1 in
                made SpellsOp Unequal op (33 ∷ 61 ∷ []) (c ∷ cs) (drop 1 cs) rest (some_pair found.1).0 (some_pair found.1).1 (inl refl) (cc (head_is c 33 k.0, begins_then 61 cs found.0))
            | inr k ↦ elim (if_cases (c == 60) (cond (begins 62 cs) (Some (Unequal, drop 1 cs)) (cond (begins 61 cs) (Some (AtMost, drop 1 cs)) (Some (Less, cs))))
                (cond (c == 62) (cond (begins 61 cs) (Some (AtLeast, drop 1 cs)) (Some (More, cs))) None) (Some (op, rest)) k.1) [
                  | inl m ↦ elim (if_cases (begins 62 cs) (Some (Unequal, drop 1 cs)) (cond (begins 61 cs) (Some (AtMost, drop 1 cs)) (Some (Less, cs))) (Some (op, rest)) m.1) [
                    | inl p ↦ made SpellsOp Unequal op (60 ∷ 62 ∷ []) (c ∷ cs) (drop 1 cs) rest (some_pair p.1).0 (some_pair p.1).1 (inr refl) (cc (head_is c 60 m.0, begins_then 62 cs p.0))
                    | inr p ↦ elim (if_cases (begins 61 cs) (Some (AtMost, drop 1 cs)) (Some (Less, cs)) (Some (op, rest)) p.1) [
                      | inl q ↦ made SpellsOp AtMost op (60 ∷ 61 ∷ []) (c ∷ cs) (drop 1 cs) rest (some_pair q.1).0 (some_pair q.1).1 refl (cc (head_is c 60 m.0, begins_then 61 cs q.0))
                      | inr q ↦ made SpellsOp Less op (60 ∷ []) (c ∷ cs) cs rest (some_pair q.1).0 (some_pair q.1).1 refl (cc (head_is c 60 m.0))
                    ]
                  ]
                  | inr m ↦
                      let found = if_some (c == 62) (cond (begins 61 cs) (Some (AtLeast, drop 1 cs)) (Some (More, cs))) (op, rest) m.1 in
                      elim (if_cases (begins 61 cs) (Some (AtLeast, drop 1 cs)) (Some (More, cs)) (Some (op, rest)) found.1) [
                        | inl q ↦ made SpellsOp AtLeast op (62 ∷ 61 ∷ []) (c ∷ cs) (drop 1 cs) rest (some_pair q.1).0 (some_pair q.1).1 refl (cc (head_is c 62 found.0, begins_then 61 cs q.0))
                        | inr q ↦ made SpellsOp More op (62 ∷ []) (c ∷ cs) cs rest (some_pair q.1).0 (some_pair q.1).1 refl (cc (head_is c 62 found.0))
                      ]
                ]
          ]
    ]

pub reference_splits : (text name rest : List ℕ) → reference_at text ≡ Some (name, rest) → IsName name × (text ≡ reference_text name ++ rest)
reference_splits text name rest e =
    let found = if_some (begins_with_reference text) (Some (name_run text, drop 6 (behind_run text))) (name, rest) e in
    let b = begins_from text found.0 in
    let front = front_of text b.0 b.1 b.2 b.3 in
    let name_is : b.0 ≡ name = sym front.run ∙ (some_pair found.1).0 in
    let left : b.1 ≡ rest = sym front.back ∙ (some_pair found.1).1 in
    (subst IsName name_is b.2, b.3 ∙ ap (λ n. reference_text n ++ b.1) name_is ∙ ap (λ r. reference_text name ++ r) left)

compared_splits : (name : List ℕ) (op : Op) (text rest : List ℕ) (tree : PrimeTree) → compared_at name op text ≡ Some (tree, rest)
    → (constant : Constant) × (compared name op constant ≡ tree) × Splits (λ t. (value : List ℕ) × SpellsConstant constant value × (t ≡ spaces text ++ value)) text rest
compared_splits name op text rest tree e =
    let read = bind_some (constant_at (skipped text)) (λ value. Some (compared name op value.0, value.1)) (tree, rest) e in
    let value = constant_splits (skipped text) read.0.1 read.0.0 read.1 in
    let left : read.0.1 ≡ rest = (some_pair read.2).1 in (
      read.0.0,
      (some_pair read.2).0,
      record {
        front = spaces text ++ value.front;
        fits = (value.front, value.fits, refl);
        joined = split_spaces text ∙ ap (λ t. spaces text ++ t) (value.joined ∙ ap (λ r. value.front ++ r) left) ∙ sym (append_assoc (spaces text) value.front rest);
      },
    )

-- what stands before the constants of an `IN`
record Opening (text rest : List ℕ) : Type 0 where
  before : List ℕ
  open_before : List ℕ
  open_after : List ℕ
  gap : IsGap before
  spaces_before : IsSpaces open_before
  spaces_after : IsSpaces open_after
  joined : text ≡ before ++ (codes "IN" ++ (open_before ++ (codes "(" ++ (open_after ++ rest))))

opening_splits : (text rest : List ℕ) → opening_at text ≡ Some rest → Opening text rest
opening_splits text rest e =
    let first = if_some (begins 32 text) (behind (codes "IN") (skipped text) >>= λ a. behind (codes "(") (skipped a) >>= λ b. Some (skipped b)) rest e in
    let third = bind_some (behind (codes "IN") (skipped text)) (λ a. behind (codes "(") (skipped a) >>= λ b. Some (skipped b)) rest first.1 in
    let second = bind_some (behind (codes "(") (skipped third.0)) (λ b. Some (skipped b)) rest third.2 in
    let left : skipped second.0 ≡ rest = cc second.2 in record {
      before = spaces text;
      open_before = spaces third.0;
      open_after = spaces second.0;
      gap = is_gap text first.0;
      spaces_before = are_spaces third.0;
      spaces_after = are_spaces second.0;
      joined = split_spaces text ∙ ap (λ t. spaces text ++ t) (is_behind (codes "IN") (skipped text) third.0 third.1
          ∙ ap (λ t. codes "IN" ++ t) (split_spaces third.0 ∙ ap (λ t. spaces third.0 ++ t) (is_behind (codes "(") (skipped third.0) second.0 second.1
          ∙ ap (λ t. codes "(" ++ t) (split_spaces second.0 ∙ ap (λ t. spaces second.0 ++ t) left))));
    }

comparison_splits : (n : ℕ) (name after rest : List ℕ) (tree : PrimeTree) → IsName name → comparison_at n (name, after) ≡ Some (tree, rest)
    → Splits (λ t. SpellsPrime tree (reference_text name ++ t)) after rest
comparison_splits n name after rest tree is_name e =
    elim (or_cases (λ (op : Op × List ℕ). compared_at name op.0 op.1) (op_at (skipped after)) (among_at n name after) (tree, rest) e) [
      | inl h ↦
          let sign = op_splits (skipped after) h.0.1 h.0.0 h.1 in
          let value = compared_splits name h.0.0 h.0.1 rest tree h.2 in
          let front : List ℕ = spaces after ++ (sign.front ++ (spaces h.0.1 ++ value.2.fits.0)) in record {
            front = front;
            fits = subst (λ p. SpellsPrime p (reference_text name ++ front)) value.1
                (spaces after, sign.front, spaces h.0.1, value.2.fits.0, is_name, are_spaces after, sign.fits, are_spaces h.0.1, value.2.fits.1, refl);
            joined = split_spaces after ∙ ap (λ t. spaces after ++ t) (sign.joined ∙ ap (λ t. sign.front ++ t) (value.2.joined ∙ ap (λ t. t ++ rest) value.2.fits.2)) ∙ simp append_assoc;
          }
      | inr h ↦
          let a = bind_some (opening_at after) (λ a. constants_at n a >>= λ list. behind (codes ")") (skipped list.1) >>= λ left. Some (among name list.0, left)) (tree, rest) h.1 in
          let list = bind_some (constants_at n a.0) (λ list. behind (codes ")") (skipped list.1) >>= λ left. Some (among name list.0, left)) (tree, rest) a.2 in
          let close = bind_some (behind (codes ")") (skipped list.0.1)) (λ left. Some (among name list.0.0, left)) (tree, rest) list.2 in
          let opened = opening_splits after a.0 a.1 in
          let inner = constants_splits n a.0 list.0.1 list.0.0 list.1 in
          made (λ p t. SpellsPrime p (reference_text name ++ t)) (among name list.0.0) tree
          (opened.before ++ (codes "IN" ++ (opened.open_before ++ (codes "(" ++ (opened.open_after ++ (inner.front ++ (spaces list.0.1 ++ codes ")")))))))
          after close.0 rest (some_pair close.2).0 (some_pair close.2).1
          (opened.before, opened.open_before, opened.open_after, inner.front, spaces list.0.1, is_name, opened.gap, opened.spaces_before, opened.spaces_after, inner.fits, are_spaces list.0.1, refl)
          (opened.joined ∙ ap (λ t. opened.before ++ (codes "IN" ++ (opened.open_before ++ (codes "(" ++ (opened.open_after ++ t)))))
          (inner.joined ∙ ap (λ t. inner.front ++ t) (split_spaces list.0.1 ∙ ap (λ t. spaces list.0.1 ++ t) (is_behind (codes ")") (skipped list.0.1) close.0 close.1))) ∙ simp append_assoc)
    ]

mutual
  pub any_splits : (n : ℕ) (text rest : List ℕ) (tree : AnyTree) → any_at n text ≡ Some (tree, rest) → Splits (SpellsAny tree) text rest
  any_splits zero text rest tree e = absurd (cc e)
  any_splits (suc n) text rest tree e =
      let first = bind_some (all_at n text) (λ first. option_map_or (λ rest. any_at n rest >>= λ others. Some (or_else first.0 others.0, others.1))
      (behind_joint (codes "OR") first.1) (Some (last_part first.0, first.1))) (tree, rest) e in
      let front = all_splits n text first.0.1 first.0.0 first.1 in
      elim (or_cases (λ rest. any_at n rest >>= λ others. Some (or_else first.0.0 others.0, others.1)) (behind_joint (codes "OR") first.0.1) (Some (last_part first.0.0, first.0.1)) (tree, rest) first.2) [
        | inr h ↦ made SpellsAny (last_part first.0.0) tree front.front text first.0.1 rest (some_pair h.1).0 (some_pair h.1).1 front.fits front.joined
        | inl h ↦
            let joint = is_joint (codes "OR") first.0.1 h.0 h.1 in
            let others = bind_some (any_at n h.0) (λ others. Some (or_else first.0.0 others.0, others.1)) (tree, rest) h.2 in
            let back = any_splits n h.0 others.0.1 others.0.0 others.1 in
            made SpellsAny (or_else first.0.0 others.0.0) tree (front.front ++ (joint.before ++ (codes "OR" ++ (joint.after ++ back.front)))) text others.0.1 rest (some_pair others.2).0 (some_pair others.2).1
            (front.front, joint.before, joint.after, back.front, front.fits, joint.gap_before, joint.gap_after, back.fits, refl)
            (front.joined ∙ ap (λ t. front.front ++ t) (joint.joined ∙ ap (λ t. joint.before ++ (codes "OR" ++ (joint.after ++ t))) back.joined) ∙ simp append_assoc)
      ]

  pub all_splits : (n : ℕ) (text rest : List ℕ) (tree : AllTree) → all_at n text ≡ Some (tree, rest) → Splits (SpellsAll tree) text rest
  all_splits zero text rest tree e = absurd (cc e)
  all_splits (suc n) text rest tree e =
      let first = bind_some (prime_at n text) (λ first. option_map_or (λ rest. all_at n rest >>= λ others. Some (and_also first.0 others.0, others.1))
      (behind_joint (codes "AND") first.1) (Some (last_prime first.0, first.1))) (tree, rest) e in
      let front = prime_splits n text first.0.1 first.0.0 first.1 in
      elim (or_cases (λ rest. all_at n rest >>= λ others. Some (and_also first.0.0 others.0, others.1)) (behind_joint (codes "AND") first.0.1) (Some (last_prime first.0.0, first.0.1)) (tree, rest) first.2) [
        | inr h ↦ made SpellsAll (last_prime first.0.0) tree front.front text first.0.1 rest (some_pair h.1).0 (some_pair h.1).1 front.fits front.joined
        | inl h ↦
            let joint = is_joint (codes "AND") first.0.1 h.0 h.1 in
            let others = bind_some (all_at n h.0) (λ others. Some (and_also first.0.0 others.0, others.1)) (tree, rest) h.2 in
            let back = all_splits n h.0 others.0.1 others.0.0 others.1 in
            made SpellsAll (and_also first.0.0 others.0.0) tree (front.front ++ (joint.before ++ (codes "AND" ++ (joint.after ++ back.front)))) text others.0.1 rest (some_pair others.2).0 (some_pair others.2).1
            (front.front, joint.before, joint.after, back.front, front.fits, joint.gap_before, joint.gap_after, back.fits, refl)
            (front.joined ∙ ap (λ t. front.front ++ t) (joint.joined ∙ ap (λ t. joint.before ++ (codes "AND" ++ (joint.after ++ t))) back.joined) ∙ simp append_assoc)
      ]

  pub prime_splits : (n : ℕ) (text rest : List ℕ) (tree : PrimeTree) → prime_at n text ≡ Some (tree, rest) → Splits (SpellsPrime tree) text rest
  prime_splits zero text rest tree e = absurd (cc e)
  prime_splits (suc n) text rest tree e = elim (if_cases (begins 40 text) (any_at n (skipped (drop 1 text)) >>= λ inner. behind (codes ")") (skipped inner.1) >>= λ left. Some (group inner.0, left))
      (reference_at text >>= comparison_at n) (Some (tree, rest)) e) [
        | inl h ↦
            let inner = bind_some (any_at n (skipped (drop 1 text))) (λ inner. behind (codes ")") (skipped inner.1) >>= λ left. Some (group inner.0, left)) (tree, rest) h.1 in
            let close = bind_some (behind (codes ")") (skipped inner.0.1)) (λ left. Some (group inner.0.0, left)) (tree, rest) inner.2 in
            let body = any_splits n (skipped (drop 1 text)) inner.0.1 inner.0.0 inner.1 in
            made SpellsPrime (group inner.0.0) tree (codes "(" ++ (spaces (drop 1 text) ++ (body.front ++ (spaces inner.0.1 ++ codes ")")))) text close.0 rest (some_pair close.2).0 (some_pair close.2).1
            (spaces (drop 1 text), body.front, spaces inner.0.1, are_spaces (drop 1 text), body.fits, are_spaces inner.0.1, refl)
            (begins_with 40 text h.0 ∙ ap (λ t. 40 ∷ t) (split_spaces (drop 1 text) ∙ ap (λ t. spaces (drop 1 text) ++ t) (body.joined
            ∙ ap (λ t. body.front ++ t) (split_spaces inner.0.1 ∙ ap (λ t. spaces inner.0.1 ++ t) (is_behind (codes ")") (skipped inner.0.1) close.0 close.1)))) ∙ simp append_assoc)
        | inr h ↦
            let name = bind_some (reference_at text) (comparison_at n) (tree, rest) h.1 in
            let is = reference_splits text name.0.0 name.0.1 name.1 in
            let back = comparison_splits n name.0.0 name.0.1 rest tree is.0 name.2 in record {
              front = reference_text name.0.0 ++ back.front;
              fits = back.fits;
              joined = is.1 ∙ ap (λ t. reference_text name.0.0 ++ t) back.joined ∙ sym (append_assoc (reference_text name.0.0) back.front rest);
            }
      ]

-- a condition that is read is spelled by its text
empty_from : (text : List ℕ) → (length text == 0) ≡ true → text ≡ []
empty_from [] e = refl
empty_from (c ∷ cs) e = absurd (omega (arith, head_is (suc (length cs)) 0 e))

pub condition_splits : (n : ℕ) (text : List ℕ) (tree : AnyTree) → condition_at n text ≡ Some tree → Spells tree text
condition_splits n text tree e =
    let read = bind_some (any_at n (skipped text)) (λ read. cond (length (skipped read.1) == 0) (Some read.0) None) tree e in
    let last = if_some (length (skipped read.0.1) == 0) (Some read.0.0) tree read.2 in
    let body = any_splits n (skipped text) read.0.1 read.0.0 read.1 in
    let is : read.0.0 ≡ tree = cc last.1 in
    let none : skipped read.0.1 ≡ [] = empty_from (skipped read.0.1) last.0 in
    let end : read.0.1 ≡ spaces read.0.1 = split_spaces read.0.1 ∙ ap (λ t. spaces read.0.1 ++ t) none ∙ append-nil (spaces read.0.1) in
    subst (λ t. Spells t text) is (
      spaces text,
      body.front,
      spaces read.0.1,
      are_spaces text,
      body.fits,
      are_spaces read.0.1,
      split_spaces text ∙ ap (λ t. spaces text ++ t) (body.joined ∙ ap (λ t. body.front ++ t) end),
    )

pub gives_spelled : (n : ℕ) (text : List ℕ) (r : Result Cond CondError) → Gives tree_of r (condition_at n text) → IfOk r (λ cond. Spells (tree_of cond) text)
gives_spelled n text (Ok cond) g = condition_splits n text (tree_of cond) g
gives_spelled n text (Err e) g = tt
