-- The lines of the program that are no record's.
use Rattle.std.proofs.Common.{◌≡◌, refl, sym, subst, arith, ℕ, zero, suc, ◌/◌, ◌%◌, ◌==◌, Bool, true, false, List, [], ◌∷◌, ◌++◌, append_assoc, map, Option, Some, None}
use Rattle.std.specs.Prelude.{if◌then◌else◌, pos, negsuc}
use Rattle.std.specs.Fmt.{decimal, digits, digits_onto, digit_glyph}
use Rattle.std.specs.List.{list_all}
use Rattle.serde_json.specs.Data.{Data, Num, null, boolean, number, string, array, object, unsigned, negative, float}
use Rattle.cacao_text.specs.Canon.{canon, unsigned_of, whole_text}
use Rattle.flow_core_rules.specs.Laws.{is_digit}
use Rattle.flow_core_rules.proofs.LineLemmas.{others_are_no_records}
use Rattle.oc2_nets.specs.declared.packets.Packet.{Packet}
use Rattle.slpf_rules.specs.Verdicts.{verdict}
use Rattle.slpf_rules.specs.declared.rules.Rule.{Rule}
use Rattle.slpf_shadow.specs.declared.shadow_lists.Shadow.{Shadow}
use Rattle.cacao_cli_filters.specs.Lines.{decision_lines, rule_line, rule_lines, shadow_line, verdict_word}
use Rattle.cacao_cli_words.specs.Words.{Text}
use Rattle.cacao_cli_ends.specs.Ends.{End, text_of, done, accepted, agrees, disagrees, refused, bind_refused, ended_ok, ended_failed, paused, waiting, flooded, asked_for, other_run, other_book, run_used, not_understood, past, shelf_failed, no_such_file, not_readable, rehearsed, damaged, disk_failed, peers_failed, unsaid, no_memory}
use Rattle.cacao_cli_looks.specs.Openings.{AreLines}
use Rattle.cacao_cli_ends.specs.Work.{Look, at_decisions, at_rules, at_shadows, canon_line}
use Rattle.cacao_cli_looks.proofs.AgreeLemmas.{AreOtherLines, IsOtherLine}

-- ---- numbers

glyph-digit : (n : ℕ) → is_digit (digit_glyph false (n % 10)) ≡ true
glyph-digit n = grind arith

one-of : (b : Bool) (xs ys : List ℕ) → list_all is_digit xs ≡ true → list_all is_digit ys ≡ true → list_all is_digit (if b then xs else ys) ≡ true
one-of true xs ys p q = p
one-of false xs ys p q = q

onto-digits : (k n : ℕ) (acc : List ℕ) → list_all is_digit acc ≡ true → list_all is_digit (digits_onto k 10 false n acc) ≡ true
onto-digits zero n acc h = h
onto-digits (suc k) n acc h = one-of (n / 10 == 0) (digit_glyph false (n % 10) ∷ acc) (digits_onto k 10 false (n / 10) (digit_glyph false (n % 10) ∷ acc)) more
    (onto-digits k (n / 10) (digit_glyph false (n % 10) ∷ acc) more)
  where
    more : list_all is_digit (digit_glyph false (n % 10) ∷ acc) ≡ true
    more = rw (glyph-digit n, h) refl

-- a number has digits alone
pub decimal-digits : (n : ℕ) → list_all is_digit (decimal n) ≡ true
unfolding digits
decimal-digits n = onto-digits 64 n [] refl

-- ---- by the first characters

begins-other : (c : ℕ) (rest : List ℕ) → is_digit c ≡ false → IsOtherLine (c ∷ rest)
begins-other c rest h = others_are_no_records.no_number c rest h

-- a number, a space and a word
word-behind : (n c : ℕ) (rest : List ℕ) → is_digit c ≡ false → IsOtherLine (decimal n ++ 32 ∷ c ∷ rest)
word-behind n c rest h = others_are_no_records.no_moment (decimal n) c rest (decimal-digits n) h

-- a number and a line feed
number-alone : (n : ℕ) → IsOtherLine (decimal n ++ 10 ∷ [])
number-alone n = others_are_no_records.no_space (decimal n) 10 [] (decimal-digits n) refl refl

-- ---- `canon`

number-line : (n : Num) → IsOtherLine (whole_text n ++ 10 ∷ [])
number-line (unsigned n) = number-alone n
number-line (negative (pos n)) = number-alone n
number-line (negative (negsuc n)) = begins-other 45 (decimal (suc n) ++ 10 ∷ []) refl
number-line (float x) = begins-other 10 [] refl

data-line : (d : Data) → IsOtherLine (canon d ++ 10 ∷ [])
data-line null = begins-other _ _ refl
data-line (boolean true) = begins-other _ _ refl
data-line (boolean false) = begins-other _ _ refl
data-line (number n) = number-line n
data-line (string s) = begins-other _ _ refl
data-line (array ds) = begins-other _ _ refl
data-line (object ms) = begins-other _ _ refl

pub canon-others : (roots : List Data) → AreOtherLines (map canon_line roots)
canon-others [] = tt
canon-others (root ∷ roots) = (data-line (unsigned_of root), canon-others roots)

-- ---- what is said of a filter

rule-other : (rule : Rule) → IsOtherLine (rule_line rule)
rule-other rule = go rule.deny
  where
    go : (deny : Bool) → IsOtherLine (rule_line (record rule { deny = deny }))
    go true = subst IsOtherLine (sym (append_assoc (decimal rule.number) _ _)) (word-behind rule.number 100 _ refl)
    go false = subst IsOtherLine (sym (append_assoc (decimal rule.number) _ _)) (word-behind rule.number 97 _ refl)

rules-others : (rules : List Rule) → AreOtherLines (rule_lines rules)
rules-others [] = tt
rules-others (rule ∷ rules) = (rule-other rule, rules-others rules)

decision-other : (deny : Bool) (rest : List ℕ) → IsOtherLine (verdict_word deny ++ rest)
decision-other true rest = begins-other _ _ refl
decision-other false rest = begins-other _ _ refl

decisions-others : (packets : List (ℕ × Packet)) (rules : List Rule) → AreOtherLines (decision_lines packets rules)
decisions-others [] rules = tt
decisions-others (packet ∷ packets) rules = (decision-other (verdict rules packet.1 packet.0).deny _, decisions-others packets rules)

shadows-others : (list : List Shadow) → AreOtherLines (map shadow_line list)
shadows-others [] = tt
shadows-others (shadow ∷ list) = (word-behind shadow.rule 98 _ refl, shadows-others list)

pub filter-others : (look : Look) (rules : List Rule) (lines : List Text) → AreLines look rules lines → AreOtherLines lines
filter-others at_rules rules lines is = subst AreOtherLines (sym is) (rules-others rules)
filter-others (at_decisions packets) rules lines is = subst AreOtherLines (sym is) (decisions-others packets rules)
filter-others at_shadows rules lines is = subst AreOtherLines (sym is.are) (shadows-others is.list)

-- ---- the last line

-- a text that begins with no digit
abbrev BeginsOther : Option Text → Type 0
BeginsOther None = Unit {0}
BeginsOther (Some []) = ⊥
BeginsOther (Some (c ∷ text)) = is_digit c ≡ false

begins : (o : Option Text) (text : Text) → o ≡ Some text → BeginsOther o → IsOtherLine (text ++ 10 ∷ [])
begins None text is h = absurd (cc)
begins (Some []) text is h = absurd h
begins (Some (c ∷ rest)) text is h = subst (λ (t : Text). IsOtherLine (t ++ 10 ∷ [])) (same (c ∷ rest) text is) (begins-other c (rest ++ 10 ∷ []) h)
  where
    same : (x y : Text) → Some x ≡ Some y → x ≡ y
    same x y e = cc

pub last-other : (end : End) (text : Text) → text_of end ≡ Some text → IsOtherLine (text ++ 10 ∷ [])
last-other done text is = absurd (cc)
last-other accepted text is = begins (text_of accepted) text is refl
last-other (refused broken) text is = begins (text_of (refused broken)) text is refl
last-other (bind_refused rule) text is = begins (text_of (bind_refused rule)) text is refl
last-other ended_ok text is = begins (text_of ended_ok) text is refl
last-other ended_failed text is = begins (text_of ended_failed) text is refl
last-other paused text is = begins (text_of paused) text is refl
last-other (waiting moment) text is = begins (text_of (waiting moment)) text is refl
last-other flooded text is = begins (text_of flooded) text is refl
last-other (asked_for issue) text is = begins (text_of (asked_for issue)) text is refl
last-other (other_run held asked) text is = begins (text_of (other_run held asked)) text is refl
last-other (other_book index) text is = begins (text_of (other_book index)) text is refl
last-other (run_used agent) text is = begins (text_of (run_used agent)) text is refl
last-other not_understood text is = begins (text_of not_understood) text is refl
last-other (past limit) text is = begins (text_of (past limit)) text is refl
last-other (shelf_failed name) text is = begins (text_of (shelf_failed name)) text is refl
last-other (no_such_file name) text is = begins (text_of (no_such_file name)) text is refl
last-other (not_readable name reason) text is = begins (text_of (not_readable name reason)) text is refl
last-other (agrees records acts) text is = begins (text_of (agrees records acts)) text is refl
last-other (disagrees file place) text is = begins (text_of (disagrees file place)) text is refl
last-other (rehearsed positions records acts rules) text is = begins (text_of (rehearsed positions records acts rules)) text is refl
last-other (damaged file place) text is = begins (text_of (damaged file place)) text is refl
last-other peers_failed text is = begins (text_of peers_failed) text is refl
last-other disk_failed text is = begins (text_of disk_failed) text is refl
last-other unsaid text is = absurd (cc)
last-other no_memory text is = absurd (cc)
