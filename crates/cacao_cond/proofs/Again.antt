-- What is in the grammar is read, whatever follows it that may follow.
use Rattle.std.proofs.Common.{◌≡◌, ◌⊎◌, ℕ, ℤ, zero, suc, pos, negsuc, ◌+◌, ◌-◌, ◌*◌, ◌<◌, ◌≤◌, ◌^◌, ◌==◌, ◌||◌, Bool, true, false, List, [], ◌∷◌, ◌++◌, length, get_or, take_at, drop_at, length-append, append_assoc, cond, Option, Some, None, Result, Ok, Err, arith, refl, sym, ◌∙◌, ap, subst, inl, inr}
use Rattle.std.specs.Prelude.{nat_lt, nat_le, codes, FitsSigned, IfOk, IsErrOf}
use Rattle.std.specs.Fmt.{decimal, signed_decimal}
use Rattle.std.specs.Int.{w64}
use Rattle.std.specs.List.{list_all}
use Rattle.std.specs.Str.{is_utf8}
use Rattle.std.proofs.lemmas.Cmp.{nat_list_eq_equiv}
use Rattle.std.proofs.lemmas.Fmt.{digits_decimal, decimal_nonempty}
use Rattle.std.proofs.lemmas.List.{append-nil}
use Rattle.std.proofs.lemmas.Str.{is_utf8-from_IsUtf8}
use Rattle.std.proofs.lemmas.Str.Parse.{digit_at}
use Rattle.cacao_vars.specs.Names.{IsName}
use Rattle.cacao_vars.specs.References.{reference_text}
use Rattle.cacao_vars.proofs.FirstLemmas.{begins as front_of}
use Rattle.cacao_vars.proofs.ReferenceLemmas.{name_size}
use Rattle.cacao_cond.specs.declared.trees.Op.{Op}
use Rattle.cacao_cond.specs.declared.trees.Op.TheVariants.{Equal, Unequal, Less, AtMost, More, AtLeast}
use Rattle.cacao_cond.specs.declared.trees.Constant.{Constant}
use Rattle.cacao_cond.specs.declared.trees.Constant.TheVariants.{Whole, Flag, Text}
use Rattle.cacao_cond.specs.declared.errors.CondError.{CondError}
use Rattle.cacao_cond.specs.declared.errors.CondError.TheVariants.{Grammar, Memory}
use Rattle.cacao_cond.specs.declared.trees.Cond.{Cond}
use Rattle.cacao_cond.specs.Trees.{tree_of, ConstantTree, AnyTree, AllTree, PrimeTree}
use Rattle.cacao_cond.specs.Trees.ConstantTree.{last_constant, more_constants}
use Rattle.cacao_cond.specs.Trees.AnyTree.{last_part, or_else}
use Rattle.cacao_cond.specs.Trees.AllTree.{last_prime, and_also}
use Rattle.cacao_cond.specs.Trees.PrimeTree.{group, compared, among}
use Rattle.cacao_cond.specs.Grammar.{IsSpaces, IsGap, SpellsOp, SpellsConstant, SpellsConstants, SpellsAny, SpellsAll, SpellsPrime, Spells, escaped}
use Rattle.cacao_cond.specs.Reading.{◌>>=◌, skipped, begins, behind, behind_joint, reference_at, op_at, digit_run, behind_digits, is_digit, whole_at, quoted, constant_at, constants_at, opening_at, comparison_at, any_at, all_at, prime_at, condition_at, Gives}
use Rattle.cacao_cond.proofs.NumberLemmas.{number_of-decimal}
use Rattle.base_decimals.proofs.Decimals.{own}
use Rattle.cacao_cond.proofs.Steps.{both}
use Rattle.cacao_cond.proofs.Sound.{escaped-yes, escaped-no}

-- spaces
skipped-spaces : (front text : List ℕ) → IsSpaces front → skipped (front ++ text) ≡ skipped text
skipped-spaces [] text s = refl
skipped-spaces (c ∷ cs) text s = let h = both (c == 32) (list_all (λ c. c == 32) cs) s in rw h.0 (skipped-spaces cs text h.1)

only-spaces : (front : List ℕ) → IsSpaces front → skipped front ≡ []
only-spaces [] s = refl
only-spaces (c ∷ cs) s = let h = both (c == 32) (list_all (λ c. c == 32) cs) s in rw h.0 (only-spaces cs h.1)

begins-gap : (front text : List ℕ) → IsGap front → begins 32 (front ++ text) ≡ true
begins-gap [] text g = absurd (omega (arith, g.0))
begins-gap (c ∷ cs) text g = (both (c == 32) (list_all (λ c. c == 32) cs) g.1).0

-- what follows spaces is no space's neighbour: the text goes on with another character, or with spaces before one
behind-word : (word rest : List ℕ) → behind word (word ++ rest) ≡ Some rest
behind-word word rest =
    let front = take_at word rest (length word) refl in
    let back = drop_at word rest (length word) refl in
    rw (front, nat_list_eq_equiv.refl word) (ap Some back)

-- a text that does not begin with a space, a sign or a digit's neighbour
record Solid (text : List ℕ) : Type 0 where
  first : ℕ
  others : List ℕ
  joined : text ≡ first ∷ others
  no_space : (first == 32) ≡ false

solid-skipped : (text rest : List ℕ) → Solid text → skipped (text ++ rest) ≡ text ++ rest
solid-skipped text rest s =
    let e : text ++ rest ≡ s.first ∷ (s.others ++ rest) = ap (λ t. t ++ rest) s.joined in
    ap skipped e ∙ rw s.no_space refl ∙ sym e

joint-again : (word before after rest : List ℕ) → ((more : List ℕ) → skipped (word ++ more) ≡ word ++ more) → IsGap before → IsGap after → skipped rest ≡ rest
    → behind_joint word (before ++ (word ++ (after ++ rest))) ≡ Some rest
joint-again word before after rest solid gap_before gap_after rest_solid =
    let a = begins-gap before (word ++ (after ++ rest)) gap_before in
    let b : skipped (before ++ (word ++ (after ++ rest))) ≡ word ++ (after ++ rest) = skipped-spaces before (word ++ (after ++ rest)) gap_before.1 ∙ solid (after ++ rest) in
    let d = begins-gap after rest gap_after in
    let e : skipped (after ++ rest) ≡ rest = skipped-spaces after rest gap_after.1 ∙ rest_solid in
    rw a (rw b (rw (behind-word word (after ++ rest)) (rw d (ap Some e))))

joint-none-at : (b : Bool) (o : Option (List ℕ)) → o ≡ None → cond b (o >>= λ rest. cond (begins 32 rest) (Some (skipped rest)) None) None ≡ None
joint-none-at true o e = rw e refl
joint-none-at false o e = refl

joint-none : (word text : List ℕ) → behind word (skipped text) ≡ None → behind_joint word text ≡ None
joint-none word text e = joint-none-at (begins 32 text) (behind word (skipped text)) e

-- what may follow a comparison, a part and a condition
abbrev pub digit_head : List ℕ → Bool
digit_head [] = false
digit_head (c ∷ cs) = is_digit c

pub record EndsAll (rest : List ℕ) : Type 0 where
  pub no_digit : digit_head rest ≡ false
  pub no_and : behind_joint (codes "AND") rest ≡ None

pub record EndsAny (rest : List ℕ) : Type 0 where
  pub part : EndsAll rest
  pub no_or : behind_joint (codes "OR") rest ≡ None

no_digit-spaces : (front text : List ℕ) → IsSpaces front → digit_head text ≡ false → digit_head (front ++ text) ≡ false
no_digit-spaces [] text s e = e
no_digit-spaces (c ∷ cs) text s e = let h = both (c == 32) (list_all (λ c. c == 32) cs) s in let is : c ≡ 32 = grind arith in rw is refl

pub ends_spaces : (front : List ℕ) → IsSpaces front → EndsAny front
ends_spaces front s = record {
  part = record {
    no_digit = subst (λ t. digit_head t ≡ false) (append-nil front) (no_digit-spaces front [] s refl);
    no_and = joint-none (codes "AND") front (rw (only-spaces front s) refl);
  };
  no_or = joint-none (codes "OR") front (rw (only-spaces front s) refl);
}

ends_close : (front rest : List ℕ) → IsSpaces front → EndsAny (front ++ (41 ∷ rest))
ends_close front rest s =
    let e : skipped (front ++ (41 ∷ rest)) ≡ 41 ∷ rest = skipped-spaces front (41 ∷ rest) s in record {
      part = record {
        no_digit = no_digit-spaces front (41 ∷ rest) s refl;
        no_and = joint-none (codes "AND") (front ++ (41 ∷ rest)) (rw e refl);
      };
      no_or = joint-none (codes "OR") (front ++ (41 ∷ rest)) (rw e refl);
    }

ends_or : (front rest : List ℕ) → IsGap front → EndsAll (front ++ (79 ∷ rest))
ends_or front rest g =
    let e : skipped (front ++ (79 ∷ rest)) ≡ 79 ∷ rest = skipped-spaces front (79 ∷ rest) g.1 in record {
      no_digit = no_digit-spaces front (79 ∷ rest) g.1 refl;
      no_and = joint-none (codes "AND") (front ++ (79 ∷ rest)) (rw e refl);
    }

-- operators
op_again : (op : Op) (sign rest : List ℕ) → SpellsOp op sign → begins 61 rest ≡ false → begins 62 rest ≡ false → op_at (sign ++ rest) ≡ Some (op, rest)
op_again Equal sign rest (inl e) a b = rw e (rw a refl)
op_again Equal sign rest (inr e) a b = rw e refl
op_again Unequal sign rest (inl e) a b = rw e refl
op_again Unequal sign rest (inr e) a b = rw e refl
op_again Less sign rest e a b = rw e (rw (b, a) refl)
op_again AtMost sign rest e a b = rw e refl
op_again More sign rest e a b = rw e (rw a refl)
op_again AtLeast sign rest e a b = rw e refl

-- numbers
list_all_from : (xs : List ℕ) → ((k : ℕ) → k < length xs → is_digit (get_or xs k 0) ≡ true) → list_all is_digit xs ≡ true
list_all_from [] holds = refl
list_all_from (x ∷ xs) holds = rw (holds 0 (omega arith), list_all_from xs (λ k h. holds (suc k) (omega arith))) refl

all_digits : (n : ℕ) → n < 2 ^ 64 → list_all is_digit (decimal n) ≡ true
all_digits n small = list_all_from (decimal n) (λ k h. let d = digit_at (decimal n) k (digits_decimal own n small) h in grind arith)

digit_run-digits : (digits rest : List ℕ) → list_all is_digit digits ≡ true → digit_head rest ≡ false → digit_run (digits ++ rest) ≡ digits
digit_run-digits [] [] d e = refl
digit_run-digits [] (c ∷ cs) d e = rw e refl
digit_run-digits (c ∷ cs) rest d e = let h = both (is_digit c) (list_all is_digit cs) d in rw h.0 (ap (λ t. c ∷ t) (digit_run-digits cs rest h.1 e))

behind_digits-digits : (digits rest : List ℕ) → list_all is_digit digits ≡ true → digit_head rest ≡ false → behind_digits (digits ++ rest) ≡ rest
behind_digits-digits [] [] d e = refl
behind_digits-digits [] (c ∷ cs) d e = rw e refl
behind_digits-digits (c ∷ cs) rest d e = let h = both (is_digit c) (list_all is_digit cs) d in rw h.0 (behind_digits-digits cs rest h.1 e)

-- the first digit of a number
record FirstDigit (n : ℕ) : Type 0 where
  first : ℕ
  others : List ℕ
  joined : decimal n ≡ first ∷ others
  least : 48 ≤ first
  most : first ≤ 57

first_at : (digits : List ℕ) → 0 < length digits → list_all is_digit digits ≡ true → (c : ℕ) × (cs : List ℕ) × (digits ≡ c ∷ cs) × (48 ≤ c) × (c ≤ 57)
first_at [] h d = absurd (omega arith)
first_at (c ∷ cs) h d =
    let t = both (is_digit c) (list_all is_digit cs) d in
    let u = both (nat_le 48 c) (nat_le c 57) t.0 in
    (c, cs, refl, grind arith, grind arith)

first_digit : (n : ℕ) → n < 2 ^ 64 → FirstDigit n
first_digit n small =
    let f = first_at (decimal n) (decimal_nonempty n small) (all_digits n small) in
    record { first = f.0; others = f.1; joined = f.2; least = f.3; most = f.4 }

whole_again : (z : ℤ) (rest : List ℕ) → FitsSigned w64 z → digit_head rest ≡ false → whole_at (signed_decimal z ++ rest) ≡ Some (z, rest)
whole_again (pos n) rest fits e =
    let most : n < 2 ^ 63 = fits.sfits in
    let small : n < 2 ^ 64 = omega arith in
    let f = first_digit n small in
    let no_sign : begins 45 (decimal n ++ rest) ≡ false = rw f.joined (grind (arith, f.least)) in
    let run = digit_run-digits (decimal n) rest (all_digits n small) e in
    let back = behind_digits-digits (decimal n) rest (all_digits n small) e in
    let less : nat_lt n (2 ^ 63) ≡ true = grind arith in
    rw no_sign (rw run (rw (number_of-decimal n small) (rw less (cc back))))
whole_again (negsuc k) rest fits e =
    let most : k < 2 ^ 63 = fits.sfits in
    let small : suc k < 2 ^ 64 = omega arith in
    let run = digit_run-digits (decimal (suc k)) rest (all_digits (suc k) small) e in
    let back = behind_digits-digits (decimal (suc k)) rest (all_digits (suc k) small) e in
    let one : nat_le 1 (suc k) ≡ true = grind arith in
    let less : nat_le (suc k) (2 ^ 63) ≡ true = grind arith in
    let same : suc k - 1 ≡ k = omega arith in
    rw run (rw (number_of-decimal (suc k) small) (rw (one, less) (cc (back, same))))

-- quoted texts
escape_cases : (c : ℕ) → (((c == 39) || (c == 92)) ≡ true) ⊎ (((c == 39) ≡ false) × ((c == 92) ≡ false))
escape_cases c = at (c == 39) (c == 92)
  where
    at : (a b : Bool) → ((a || b) ≡ true) ⊎ ((a ≡ false) × (b ≡ false))
    at true b = inl refl
    at false true = inl refl
    at false false = inr (refl, refl)

escaped_in : (c : ℕ) (cs rest : List ℕ) → ((c == 39) || (c == 92)) ≡ true → quoted false (escaped cs ++ 39 ∷ rest) ≡ Some (cs, rest)
    → quoted false (escaped (c ∷ cs) ++ 39 ∷ rest) ≡ Some (c ∷ cs, rest)
escaped_in c cs rest h e = ap (λ t. quoted false (t ++ 39 ∷ rest)) (escaped-yes c cs h) ∙ rw h (rw e refl)

plain_in : (c : ℕ) (cs rest : List ℕ) → (c == 39) ≡ false → (c == 92) ≡ false → quoted false (escaped cs ++ 39 ∷ rest) ≡ Some (cs, rest)
    → quoted false (escaped (c ∷ cs) ++ 39 ∷ rest) ≡ Some (c ∷ cs, rest)
plain_in c cs rest h k e = ap (λ t. quoted false (t ++ 39 ∷ rest)) (escaped-no c cs h k) ∙ rw (h, k) (rw e refl)

quoted_again : (word rest : List ℕ) → quoted false (escaped word ++ 39 ∷ rest) ≡ Some (word, rest)
quoted_again [] rest = refl
quoted_again (c ∷ cs) rest = elim (escape_cases c) [
  | inl h ↦ escaped_in c cs rest h (quoted_again cs rest)
  | inr h ↦ plain_in c cs rest h.0 h.1 (quoted_again cs rest)
]

-- the first character of a constant
record Starts (text : List ℕ) : Type 0 where
  first : ℕ
  others : List ℕ
  joined : text ≡ first ∷ others
  no_space : (first == 32) ≡ false
  no_equal : (first == 61) ≡ false
  no_more : (first == 62) ≡ false

whole_starts : (z : ℤ) → FitsSigned w64 z → Starts (signed_decimal z)
whole_starts (pos n) fits =
    let most : n < 2 ^ 63 = fits.sfits in
    let f = first_digit n (omega arith) in
    let least : 48 ≤ f.first = f.least in
    let last : f.first ≤ 57 = f.most in record {
      first = f.first;
      others = f.others;
      joined = f.joined;
      no_space = grind arith;
      no_equal = grind arith;
      no_more = grind arith;
    }
whole_starts (negsuc k) fits = record { first = 45; others = decimal (suc k); joined = refl; no_space = refl; no_equal = refl; no_more = refl }

constant_starts : (constant : Constant) (text : List ℕ) → SpellsConstant constant text → Starts text
constant_starts (Whole z) text s = subst Starts (sym s.1) (whole_starts z s.0)
constant_starts (Flag true) text s = record { first = 116; others = 114 ∷ 117 ∷ 101 ∷ []; joined = s; no_space = refl; no_equal = refl; no_more = refl }
constant_starts (Flag false) text s = record { first = 102; others = 97 ∷ 108 ∷ 115 ∷ 101 ∷ []; joined = s; no_space = refl; no_equal = refl; no_more = refl }
constant_starts (Text word) text s = record { first = 39; others = escaped word ++ 39 ∷ []; joined = s.1; no_space = refl; no_equal = refl; no_more = refl }

starts_solid : (text : List ℕ) → Starts text → Solid text
starts_solid text s = record { first = s.first; others = s.others; joined = s.joined; no_space = s.no_space }

begins-starts : (text rest : List ℕ) (s : Starts text) → (begins 61 (text ++ rest) ≡ false) × (begins 62 (text ++ rest) ≡ false)
begins-starts text rest s = (rw s.joined s.no_equal, rw s.joined s.no_more)

begins-spaces : (b : ℕ) (front text : List ℕ) → IsSpaces front → (32 == b) ≡ false → begins b text ≡ false → begins b (front ++ text) ≡ false
begins-spaces b [] text s e f = f
begins-spaces b (c ∷ cs) text s e f = let h = both (c == 32) (list_all (λ c. c == 32) cs) s in let is : c ≡ 32 = grind arith in rw is e

-- a whole number begins no other constant
other_first : (c : ℕ) (cs : List ℕ) → (c == 39) ≡ false → (116 == c) ≡ false → (102 == c) ≡ false → constant_at (c ∷ cs) ≡ (whole_at (c ∷ cs) >>= λ read. Some (Whole read.0, read.1))
other_first c cs a b d = rw (a, b, d) refl

whole_constant : (z : ℤ) (rest : List ℕ) → FitsSigned w64 z → digit_head rest ≡ false → constant_at (signed_decimal z ++ rest) ≡ Some (Whole z, rest)
whole_constant (pos n) rest fits e =
    let most : n < 2 ^ 63 = fits.sfits in
    let f = first_digit n (omega arith) in
    let least : 48 ≤ f.first = f.least in
    let last : f.first ≤ 57 = f.most in
    let cells : signed_decimal (pos n) ++ rest ≡ f.first ∷ (f.others ++ rest) = ap (λ t. t ++ rest) f.joined in
    let a : (f.first == 39) ≡ false = grind arith in
    let b : (116 == f.first) ≡ false = grind arith in
    let d : (102 == f.first) ≡ false = grind arith in
    ap constant_at cells ∙ other_first f.first (f.others ++ rest) a b d ∙ ap (λ t. whole_at t >>= λ read. Some (Whole read.0, read.1)) (sym cells)
    ∙ rw (whole_again (pos n) rest fits e) refl
whole_constant (negsuc k) rest fits e = rw (whole_again (negsuc k) rest fits e) refl

constant_again : (constant : Constant) (text rest : List ℕ) → SpellsConstant constant text → digit_head rest ≡ false → constant_at (text ++ rest) ≡ Some (constant, rest)
constant_again (Whole z) text rest s e = ap (λ t. constant_at (t ++ rest)) s.1 ∙ whole_constant z rest s.0 e
constant_again (Flag true) text rest s e = ap (λ t. constant_at (t ++ rest)) s
constant_again (Flag false) text rest s e = ap (λ t. constant_at (t ++ rest)) s
constant_again (Text word) text rest s e =
    let cells : text ++ rest ≡ 39 ∷ (escaped word ++ 39 ∷ rest) = ap (λ t. t ++ rest) s.1 ∙ append_assoc (39 ∷ escaped word) (39 ∷ []) rest in
    let yes : is_utf8 word ≡ true = is_utf8-from_IsUtf8 word s.0 in
    ap constant_at cells ∙ rw (quoted_again word rest) (rw yes refl)

-- how many steps are enough
abbrev pub size_constants : ConstantTree → ℕ
size_constants (last_constant c) = 1
size_constants (more_constants c rest) = suc (size_constants rest)

constants_solid : (tree : ConstantTree) (text : List ℕ) → SpellsConstants tree text → Solid text
constants_solid (last_constant c) text s = starts_solid text (constant_starts c text s)
constants_solid (more_constants c rest) text (first, before, after, others, is, a, b, more, e) =
    let f = constant_starts c first is in
    record { first = f.first; others = f.others ++ (before ++ (codes "," ++ (after ++ others))); joined = e ∙ ap (λ t. t ++ (before ++ (codes "," ++ (after ++ others)))) f.joined; no_space = f.no_space }

constants_again : (tree : ConstantTree) (text rest : List ℕ) (n : ℕ) → SpellsConstants tree text → digit_head rest ≡ false → behind (codes ",") (skipped rest) ≡ None → size_constants tree ≤ n
    → constants_at n (text ++ rest) ≡ Some (tree, rest)
constants_again tree text rest zero s d e h = absurd (no_size tree h)
  where
    no_size : (t : ConstantTree) → size_constants t ≤ 0 → ⊥
    no_size (last_constant c) h = omega arith
    no_size (more_constants c r) h = omega arith
constants_again (last_constant c) text rest (suc n) s d e h = rw (constant_again c text rest s d) (rw e refl)
constants_again (more_constants c more) text rest (suc n) (first, before, after, others, is, a, b, fits, j) d e h =
    let tail : List ℕ = before ++ (44 ∷ (after ++ (others ++ rest))) in
    let cells : text ++ rest ≡ first ++ tail = ap (λ t. t ++ rest) j ∙ simp append_assoc in
    let front = constant_again c first tail is (no_digit-spaces before (44 ∷ (after ++ (others ++ rest))) a refl) in
    let comma : skipped tail ≡ 44 ∷ (after ++ (others ++ rest)) = skipped-spaces before (44 ∷ (after ++ (others ++ rest))) a in
    let found : behind (codes ",") (skipped tail) ≡ Some (after ++ (others ++ rest)) = ap (behind (codes ",")) comma ∙ behind-word (codes ",") (after ++ (others ++ rest)) in
    let next : skipped (after ++ (others ++ rest)) ≡ others ++ rest = skipped-spaces after (others ++ rest) b ∙ solid-skipped others rest (constants_solid more others fits) in
    let back = constants_again more others rest n fits d e (omega arith) in
    ap (constants_at (suc n)) cells ∙ rw front (rw found (rw next (rw back refl)))

-- references
reference_again : (name rest : List ℕ) → IsName name → reference_at (reference_text name ++ rest) ≡ Some (name, rest)
reference_again name rest n =
    let f = front_of (reference_text name ++ rest) name rest n refl in
    rw f.test (cc (f.run, f.back))

name_cells : (name rest : List ℕ) → IsName name → (cs : List ℕ) × (reference_text name ++ rest ≡ 95 ∷ cs)
name_cells name rest n = (95 ∷ (n.middle ++ (95 ∷ 95 ∷ [])) ++ codes ":value" ++ rest, ap (λ m. (m ++ codes ":value") ++ rest) n.spelled)

abbrev mutual
  pub size_any : AnyTree → ℕ
  size_any (last_part part) = suc (size_all part)
  size_any (or_else part rest) = suc (size_all part + size_any rest)

  pub size_all : AllTree → ℕ
  size_all (last_prime prime) = suc (size_prime prime)
  size_all (and_also prime rest) = suc (size_prime prime + size_all rest)

  pub size_prime : PrimeTree → ℕ
  size_prime (group any) = suc (size_any any)
  size_prime (compared name op constant) = 1
  size_prime (among name constants) = suc (size_constants constants)

prime_solid : (tree : PrimeTree) (text : List ℕ) → SpellsPrime tree text → Solid text
prime_solid (group any) text (before, inner, after, a, s, b, e) = record { first = 40; others = before ++ (inner ++ (after ++ codes ")")); joined = e; no_space = refl }
prime_solid (compared name op constant) text (before, sign, after, value, n, a, o, b, v, e) =
    let f = name_cells name (before ++ (sign ++ (after ++ value))) n in record { first = 95; others = f.0; joined = e ∙ f.1; no_space = refl }
prime_solid (among name constants) text (before, open_before, open_after, list, close, n, g, a, b, v, d, e) =
    let f = name_cells name (before ++ (codes "IN" ++ (open_before ++ (codes "(" ++ (open_after ++ (list ++ (close ++ codes ")"))))))) n in record { first = 95; others = f.0; joined = e ∙ f.1; no_space = refl }

longer_solid : (text front more : List ℕ) → text ≡ front ++ more → Solid front → Solid text
longer_solid text front more e f = record { first = f.first; others = f.others ++ more; joined = e ∙ ap (λ t. t ++ more) f.joined; no_space = f.no_space }

all_solid : (tree : AllTree) (text : List ℕ) → SpellsAll tree text → Solid text
all_solid (last_prime prime) text s = prime_solid prime text s
all_solid (and_also prime rest) text (first, before, after, others, is, a, b, more, e) = longer_solid text first (before ++ (codes "AND" ++ (after ++ others))) e (prime_solid prime first is)

any_solid : (tree : AnyTree) (text : List ℕ) → SpellsAny tree text → Solid text
any_solid (last_part part) text s = all_solid part text s
any_solid (or_else part rest) text (first, before, after, others, is, a, b, more, e) = longer_solid text first (before ++ (codes "OR" ++ (after ++ others))) e (all_solid part first is)

op_solid : (op : Op) (sign : List ℕ) → SpellsOp op sign → Solid sign
op_solid Equal sign (inl e) = record { first = 61; others = []; joined = e; no_space = refl }
op_solid Equal sign (inr e) = record { first = 61; others = 61 ∷ []; joined = e; no_space = refl }
op_solid Unequal sign (inl e) = record { first = 33; others = 61 ∷ []; joined = e; no_space = refl }
op_solid Unequal sign (inr e) = record { first = 60; others = 62 ∷ []; joined = e; no_space = refl }
op_solid Less sign e = record { first = 60; others = []; joined = e; no_space = refl }
op_solid AtMost sign e = record { first = 60; others = 61 ∷ []; joined = e; no_space = refl }
op_solid More sign e = record { first = 62; others = []; joined = e; no_space = refl }
op_solid AtLeast sign e = record { first = 62; others = 61 ∷ []; joined = e; no_space = refl }

compared_again : (n : ℕ) (name : List ℕ) (op : Op) (constant : Constant) (before sign after value rest : List ℕ) → IsSpaces before → SpellsOp op sign → IsSpaces after → SpellsConstant constant value
    → digit_head rest ≡ false → comparison_at n (name, before ++ (sign ++ (after ++ (value ++ rest)))) ≡ Some (compared name op constant, rest)
compared_again n name op constant before sign after value rest a o b v d =
    let f = constant_starts constant value v in
    let t = begins-starts value rest f in
    let first : skipped (before ++ (sign ++ (after ++ (value ++ rest)))) ≡ sign ++ (after ++ (value ++ rest)) =
    skipped-spaces before (sign ++ (after ++ (value ++ rest))) a ∙ solid-skipped sign (after ++ (value ++ rest)) (op_solid op sign o) in
    let found = op_again op sign (after ++ (value ++ rest)) o (begins-spaces 61 after (value ++ rest) b refl t.0) (begins-spaces 62 after (value ++ rest) b refl t.1) in
    let next : skipped (after ++ (value ++ rest)) ≡ value ++ rest = skipped-spaces after (value ++ rest) b ∙ solid-skipped value rest (starts_solid value f) in
    let last = constant_again constant value rest v d in
    rw first (rw found (rw next (rw last refl)))

among_again : (n : ℕ) (name : List ℕ) (constants : ConstantTree) (before open_before open_after list close rest : List ℕ) → IsGap before → IsSpaces open_before → IsSpaces open_after
    → SpellsConstants constants list → IsSpaces close → size_constants constants ≤ n
    → comparison_at n (name, before ++ (codes "IN" ++ (open_before ++ (codes "(" ++ (open_after ++ (list ++ (close ++ (41 ∷ rest)))))))) ≡ Some (among name constants, rest)
among_again n name constants before open_before open_after list close rest g a b l d h =
    let inner : List ℕ = open_after ++ (list ++ (close ++ (41 ∷ rest))) in
    let behind_in : List ℕ = open_before ++ (codes "(" ++ inner) in
    let whole : List ℕ = before ++ (codes "IN" ++ behind_in) in
    let first : skipped whole ≡ codes "IN" ++ behind_in = skipped-spaces before (codes "IN" ++ behind_in) g.1 in
    let second : skipped behind_in ≡ codes "(" ++ inner = skipped-spaces open_before (codes "(" ++ inner) a in
    let third : skipped inner ≡ list ++ (close ++ (41 ∷ rest)) = skipped-spaces open_after (list ++ (close ++ (41 ∷ rest))) b ∙ solid-skipped list (close ++ (41 ∷ rest)) (constants_solid constants list l) in
    let last : skipped (close ++ (41 ∷ rest)) ≡ 41 ∷ rest = skipped-spaces close (41 ∷ rest) d in
    let no_comma : behind (codes ",") (skipped (close ++ (41 ∷ rest))) ≡ None = ap (behind (codes ",")) last in
    let read = constants_again constants list (close ++ (41 ∷ rest)) n l (no_digit-spaces close (41 ∷ rest) d refl) no_comma h in
    let opened : opening_at whole ≡ Some (list ++ (close ++ (41 ∷ rest))) =
    rw (begins-gap before (codes "IN" ++ behind_in) g) (rw first (rw second (ap Some third))) in
    let closed : behind (codes ")") (skipped (close ++ (41 ∷ rest))) ≡ Some rest = ap (behind (codes ")")) last ∙ behind-word (codes ")") rest in
    let no_op : op_at (skipped whole) ≡ None = ap op_at first in
    rw no_op (rw opened (rw read (rw closed refl)))

mutual
  any_again : (tree : AnyTree) (text rest : List ℕ) (n : ℕ) → SpellsAny tree text → EndsAny rest → size_any tree ≤ n → any_at n (text ++ rest) ≡ Some (tree, rest)
  any_again (last_part part) text rest zero s e h = absurd (omega arith)
  any_again (or_else part more) text rest zero s e h = absurd (omega arith)
  any_again (last_part part) text rest (suc n) s e h = rw (all_again part text rest n s e.part (omega arith)) (rw e.no_or refl)
  any_again (or_else part more) text rest (suc n) (first, before, after, others, is, a, b, fits, j) e h =
      let tail : List ℕ = before ++ (codes "OR" ++ (after ++ (others ++ rest))) in
      let cells : text ++ rest ≡ first ++ tail = ap (λ t. t ++ rest) j ∙ simp append_assoc in
      let front = all_again part first tail n is (ends_or before (82 ∷ (after ++ (others ++ rest))) a) (omega arith) in
      let joint = joint-again (codes "OR") before after (others ++ rest) (λ more. refl) a b (solid-skipped others rest (any_solid more others fits)) in
      let back = any_again more others rest n fits e (omega arith) in
      ap (any_at (suc n)) cells ∙ rw front (rw joint (rw back refl))

  all_again : (tree : AllTree) (text rest : List ℕ) (n : ℕ) → SpellsAll tree text → EndsAll rest → size_all tree ≤ n → all_at n (text ++ rest) ≡ Some (tree, rest)
  all_again (last_prime prime) text rest zero s e h = absurd (omega arith)
  all_again (and_also prime more) text rest zero s e h = absurd (omega arith)
  all_again (last_prime prime) text rest (suc n) s e h = rw (prime_again prime text rest n s e.no_digit (omega arith)) (rw e.no_and refl)
  all_again (and_also prime more) text rest (suc n) (first, before, after, others, is, a, b, fits, j) e h =
      let tail : List ℕ = before ++ (codes "AND" ++ (after ++ (others ++ rest))) in
      let cells : text ++ rest ≡ first ++ tail = ap (λ t. t ++ rest) j ∙ simp append_assoc in
      let front = prime_again prime first tail n is (no_digit-spaces before (codes "AND" ++ (after ++ (others ++ rest))) a.1 refl) (omega arith) in
      let joint = joint-again (codes "AND") before after (others ++ rest) (λ more. refl) a b (solid-skipped others rest (all_solid more others fits)) in
      let back = all_again more others rest n fits e (omega arith) in
      ap (all_at (suc n)) cells ∙ rw front (rw joint (rw back refl))

  prime_again : (tree : PrimeTree) (text rest : List ℕ) (n : ℕ) → SpellsPrime tree text → digit_head rest ≡ false → size_prime tree ≤ n → prime_at n (text ++ rest) ≡ Some (tree, rest)
  prime_again (group any) text rest zero s d h = absurd (omega arith)
  prime_again (compared name op constant) text rest zero s d h = absurd (omega arith)
  prime_again (among name constants) text rest zero s d h = absurd (omega arith)
  prime_again (group any) text rest (suc n) (before, inner, after, a, s, b, j) d h =
      let tail : List ℕ = after ++ (41 ∷ rest) in
      let cells : text ++ rest ≡ 40 ∷ (before ++ (inner ++ tail)) = ap (λ t. t ++ rest) j ∙ simp append_assoc in
      let opens : skipped (before ++ (inner ++ tail)) ≡ inner ++ tail = skipped-spaces before (inner ++ tail) a ∙ solid-skipped inner tail (any_solid any inner s) in
      let read = any_again any inner tail n s (ends_close after rest b) (omega arith) in
      let last : skipped tail ≡ 41 ∷ rest = skipped-spaces after (41 ∷ rest) b in
      let closed : behind (codes ")") (skipped tail) ≡ Some rest = ap (behind (codes ")")) last ∙ behind-word (codes ")") rest in
      ap (prime_at (suc n)) cells ∙ rw opens (rw read (rw closed refl))
  prime_again (compared name op constant) text rest (suc n) (before, sign, after, value, is, a, o, b, v, j) d h =
      let tail : List ℕ = before ++ (sign ++ (after ++ (value ++ rest))) in
      let cells : text ++ rest ≡ reference_text name ++ tail = ap (λ t. t ++ rest) j ∙ simp append_assoc in
      let no_group : begins 40 (reference_text name ++ tail) ≡ false = ap (begins 40) (name_cells name tail is).1 in
      ap (prime_at (suc n)) cells ∙ rw no_group (rw (reference_again name tail is) (compared_again n name op constant before sign after value rest a o b v d))
  prime_again (among name constants) text rest (suc n) (before, open_before, open_after, list, close, is, g, a, b, l, c, j) d h =
      let tail : List ℕ = before ++ (codes "IN" ++ (open_before ++ (codes "(" ++ (open_after ++ (list ++ (close ++ (41 ∷ rest))))))) in
      let cells : text ++ rest ≡ reference_text name ++ tail = ap (λ t. t ++ rest) j ∙ simp append_assoc in
      let no_group : begins 40 (reference_text name ++ tail) ≡ false = ap (begins 40) (name_cells name tail is).1 in
      ap (prime_at (suc n)) cells ∙ rw no_group (rw (reference_again name tail is) (among_again n name constants before open_before open_after list close rest g a b l c (omega arith)))

-- three steps for each character are enough
starts_long : (text : List ℕ) → Starts text → 1 ≤ length text
starts_long text s = omega (arith, ap length s.joined)

constants_bound : (tree : ConstantTree) (text : List ℕ) → SpellsConstants tree text → size_constants tree ≤ length text
constants_bound (last_constant c) text s = starts_long text (constant_starts c text s)
constants_bound (more_constants c more) text (first, before, after, others, is, a, b, fits, j) =
    omega (arith, starts_long first (constant_starts c first is), constants_bound more others fits, simp length-append at (ap length j))

mutual
  any_bound : (tree : AnyTree) (text : List ℕ) → SpellsAny tree text → size_any tree ≤ 3 * length text
  any_bound (last_part part) text s = omega (arith, all_bound part text s)
  any_bound (or_else part more) text (first, before, after, others, is, a, b, fits, j) = omega (arith, all_bound part first is, any_bound more others fits, simp length-append at (ap length j))

  all_bound : (tree : AllTree) (text : List ℕ) → SpellsAll tree text → size_all tree + 1 ≤ 3 * length text
  all_bound (last_prime prime) text s = omega (arith, prime_bound prime text s)
  all_bound (and_also prime more) text (first, before, after, others, is, a, b, fits, j) = omega (arith, prime_bound prime first is, all_bound more others fits, simp length-append at (ap length j))

  prime_bound : (tree : PrimeTree) (text : List ℕ) → SpellsPrime tree text → size_prime tree + 2 ≤ 3 * length text
  prime_bound (group any) text (before, inner, after, a, s, b, j) = omega (arith, any_bound any inner s, simp length-append at (ap length j))
  prime_bound (compared name op constant) text (before, sign, after, value, is, a, o, b, v, j) = omega (arith, name_size name is, simp length-append at (ap length j))
  prime_bound (among name constants) text (before, open_before, open_after, list, close, is, g, a, b, l, c, j) = omega (arith, name_size name is, constants_bound constants list l, simp length-append at (ap length j))

-- a condition that a text spells is read
pub condition_again : (tree : AnyTree) (text : List ℕ) → Spells tree text → condition_at (3 * length text) text ≡ Some tree
condition_again tree text (before, inner, after, a, s, b, j) =
    let n = 3 * length text in
    let fits : size_any tree ≤ n = omega (arith, any_bound tree inner s, simp length-append at (ap length j)) in
    let opens : skipped text ≡ inner ++ after = ap skipped j ∙ skipped-spaces before (inner ++ after) a ∙ solid-skipped inner after (any_solid tree inner s) in
    let read = any_again tree inner after n s (ends_spaces after b) fits in
    let whole : any_at n (skipped text) ≡ Some (tree, after) = ap (any_at n) opens ∙ read in
    rw whole (rw (only-spaces after b) refl)

-- a text spells at most one condition
pub at_most_one : (one other : AnyTree) (text : List ℕ) → Spells one text → Spells other text → one ≡ other
at_most_one one other text s t = let e = sym (condition_again one text s) ∙ condition_again other text t in cc e

-- what the reader answers of the texts of the grammar
pub gives_grammar : (text : List ℕ) (r : Result Cond CondError) → Gives tree_of r (condition_at (3 * length text) text) → IsErrOf r Grammar → (tree : AnyTree) → ¬ Spells tree text
gives_grammar text (Ok cond) g e tree s = cc e
gives_grammar text (Err Grammar) g e tree s = let f = sym (condition_again tree text s) ∙ g in cc f
gives_grammar text (Err Memory) g e tree s = cc e

pub gives_only : (text : List ℕ) (r : Result Cond CondError) → Gives tree_of r (condition_at (3 * length text) text) → (tree : AnyTree) → Spells tree text → IfOk r (λ cond. tree_of cond ≡ tree)
gives_only text (Ok cond) g tree s = let f = sym g ∙ condition_again tree text s in cc f
gives_only text (Err e) g tree s = tt
