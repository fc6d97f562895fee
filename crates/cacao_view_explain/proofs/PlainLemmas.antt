-- Each line that is told is one line.
use Rattle.std.proofs.Common.{◌≡◌, ◌∙◌, inl, inr, refl, sym, ap, subst, arith, ℕ, List, [], ◌∷◌, ◌++◌, append-nil, Option, Some, None, Result, Ok, Err}
use Rattle.std.specs.Prelude.{zero, suc, ◌+◌, ◌/◌, ◌%◌, ◌==◌, ◌&&◌, nat_le, nat_lt, Bool, true, false, if◌then◌else◌, codes, decimal, slice_get, flat_map, is_some}
use Rattle.std.proofs.lemmas.Bool.{false≢true}
use Rattle.std.specs.Fmt.{digit_glyph, digits, digits_onto}
use Rattle.std.specs.List.{list_all}
use Rattle.std.proofs.lemmas.List.Folds.{list_all-append}
use Rattle.serde_json.specs.Data.{Data, string}
use Rattle.cacao_json.specs.Refusals.{answer}
use Rattle.cacao_json.specs.declared.error.JsonError.{JsonError}
use Rattle.cacao_json.specs.declared.error.JsonError.TheVariants.{NotJson, RepeatedName, NotWhole, Memory}
use Rattle.cacao_text.specs.Canon.{canon, escaped, hex_digit}
use Rattle.cacao_check.specs.declared.breaks.Break.{Break}
use Rattle.cacao_cli_ends.specs.Ends.{End}
use Rattle.cacao_cli_ends.specs.Files.{NamedText}
use Rattle.cacao_view_words.specs.Rules.{book_lines}
use Rattle.cacao_view_words.specs.Texts.{Text}
use Rattle.cacao_view_faults.specs.Places.{Place, place_behind}
use Rattle.cacao_view_explain.specs.Explains.{ExplainsTrees}
use Rattle.cacao_view_explain.specs.Lines.{TellsPart, file_front, name_part, place_words, pointer_line, step_line, step_lines, step_name, text_line, told_line}
use Rattle.cacao_view_explain.specs.Plain.{AreLines, EachIsLine, IsLine, is_plain_line, shown, shown_byte}
use Rattle.cacao_view_explain.specs.Reasons.{TellsNoPlace, TellsReason}
use Rattle.cacao_view_explain.specs.Tells.{TellsBroken, TellsFault, TellsOf, TellsUnread, Unread, first_unread, unread_or}

-- ---- truth values

both : (a b : Bool) → a ≡ true → b ≡ true → (a && b) ≡ true
both true b ea eb = eb
both false b ea eb = ea

left_of : (a b : Bool) → (a && b) ≡ true → a ≡ true
left_of true b h = refl
left_of false b h = h

right_of : (a b : Bool) → (a && b) ≡ true → b ≡ true
right_of true b h = h
right_of false b h = absurd (false≢true h)

-- ---- words

abbrev is_plain : Text → Bool
is_plain words = list_all (nat_le 32) words

chosen : (test : Bool) (xs ys : Text) → is_plain xs ≡ true → is_plain ys ≡ true → is_plain (if test then xs else ys) ≡ true
chosen true xs ys a b = a
chosen false xs ys a b = b

one_chosen : (test : Bool) (x y : ℕ) → nat_le 32 x ≡ true → nat_le 32 y ≡ true → nat_le 32 (if test then x else y) ≡ true
one_chosen true x y a b = a
one_chosen false x y a b = b

joined : (xs ys : Text) → is_plain xs ≡ true → is_plain ys ≡ true → is_plain (xs ++ ys) ≡ true
joined xs ys a b = list_all-append (nat_le 32) xs ys ∙ both (is_plain xs) (is_plain ys) a b

high : (b : ℕ) → nat_lt b 32 ≡ false → nat_le 32 b ≡ true
high b e = grind arith

above : (k n : ℕ) → nat_le 32 k ≡ true → nat_le 32 (k + n) ≡ true
above k n e = grind arith

shown_one : (b : ℕ) (test : Bool) → nat_lt b 32 ≡ test → nat_le 32 (if test then 32 else b) ≡ true
shown_one b true e = refl
shown_one b false e = high b e

shown_plain : (words : Text) → is_plain (shown words) ≡ true
shown_plain [] = refl
shown_plain (b ∷ bs) = both (nat_le 32 (shown_byte b)) (is_plain (shown bs)) (shown_one b (nat_lt b 32) refl) (shown_plain bs)

hex_plain : (n : ℕ) → nat_le 32 (hex_digit n) ≡ true
hex_plain n = one_chosen (nat_lt n 10) (48 + n) (87 + n) (above 48 n refl) (above 87 n refl)

low_plain : (b : ℕ) → is_plain (92 ∷ 117 ∷ 48 ∷ 48 ∷ hex_digit (b / 16) ∷ hex_digit (b % 16) ∷ []) ≡ true
low_plain b = both (nat_le 32 (hex_digit (b / 16))) _ (hex_plain (b / 16)) (both (nat_le 32 (hex_digit (b % 16))) true (hex_plain (b % 16)) refl)

last_plain : (b : ℕ) (test : Bool) → nat_lt b 32 ≡ test → is_plain (if test then 92 ∷ 117 ∷ 48 ∷ 48 ∷ hex_digit (b / 16) ∷ hex_digit (b % 16) ∷ [] else b ∷ []) ≡ true
last_plain b true e = low_plain b
last_plain b false e = both (nat_le 32 b) true (high b e) refl

escaped_plain : (b : ℕ) → is_plain (escaped b) ≡ true
unfolding escaped
escaped_plain b =
    chosen (b == 34) _ _ refl (chosen (b == 92) _ _ refl (chosen (b == 8) _ _ refl (chosen (b == 9) _ _ refl
    (chosen (b == 10) _ _ refl (chosen (b == 12) _ _ refl (chosen (b == 13) _ _ refl (last_plain b (nat_lt b 32) refl)))))))

text_plain : (text : Text) → is_plain (flat_map escaped text) ≡ true
text_plain [] = refl
text_plain (b ∷ bs) = joined (escaped b) (flat_map escaped bs) (escaped_plain b) (text_plain bs)

canon_plain : (text : Text) → is_plain (canon (string text)) ≡ true
canon_plain text = joined (flat_map escaped text) (34 ∷ []) (text_plain text) refl

digits_plain : (k n : ℕ) (more : Text) → is_plain more ≡ true → is_plain (digits_onto k 10 false n more) ≡ true
digits_plain zero n more h = h
digits_plain (suc k) n more h =
    let glyph : nat_le 32 (digit_glyph false (n % 10)) ≡ true = one_chosen (nat_lt (n % 10) 10) (48 + n % 10) (87 + n % 10) (above 48 (n % 10) refl) (above 87 (n % 10) refl) in
    let one : is_plain (digit_glyph false (n % 10) ∷ more) ≡ true = both (nat_le 32 (digit_glyph false (n % 10))) (is_plain more) glyph h in
    chosen (n / 10 == 0) (digit_glyph false (n % 10) ∷ more) (digits_onto k 10 false (n / 10) (digit_glyph false (n % 10) ∷ more)) one
    (digits_plain k (n / 10) (digit_glyph false (n % 10) ∷ more) one)

decimal_plain : (n : ℕ) → is_plain (decimal n) ≡ true
unfolding digits
decimal_plain n = digits_plain 64 n [] refl

place_plain : (place : Place) → is_plain (place_words place) ≡ true
place_plain place =
    let column : is_plain (decimal place.column ++ codes ": ") ≡ true = joined (decimal place.column) (codes ": ") (decimal_plain place.column) refl in
    joined (codes " line ") (decimal place.line ++ (codes " column " ++ (decimal place.column ++ codes ": "))) refl
    (joined (decimal place.line) (codes " column " ++ (decimal place.column ++ codes ": ")) (decimal_plain place.line)
    (joined (codes " column ") (decimal place.column ++ codes ": ") refl column))

-- ---- a line

plain_line : (words : Text) → is_plain words ≡ true → is_plain_line (words ++ 10 ∷ []) ≡ true
plain_line [] h = refl
plain_line (c ∷ []) h = both (nat_le 32 c) true (left_of (nat_le 32 c) true h) refl
plain_line (c ∷ d ∷ cs) h =
    both (nat_le 32 c) (is_plain_line (d ∷ cs ++ 10 ∷ [])) (left_of (nat_le 32 c) (is_plain (d ∷ cs)) h) (plain_line (d ∷ cs) (right_of (nat_le 32 c) (is_plain (d ∷ cs)) h))

alone : (texts : List NamedText) (words : Text) → is_plain words ≡ true → IsLine texts (words ++ codes "\n")
alone texts words h = record { front = []; names = inl refl; words = words ++ codes "\n"; plain = plain_line words h; is = refl }

of_file : (texts : List NamedText) (n : ℕ) (text : NamedText) (words : Text) → slice_get texts n ≡ Some text → is_plain words ≡ true → IsLine texts (file_front text.name ++ (words ++ codes "\n"))
of_file texts n text words e h = record {
  front = file_front text.name;
  names = inr (record { number = n; text = text; there = e; is = refl });
  words = words ++ codes "\n";
  plain = plain_line words h;
  is = refl;
}

told : (texts : List NamedText) (n : ℕ) (text : NamedText) (at : ℕ) (what line : Text) → slice_get texts n ≡ Some text → line ≡ told_line text at what → IsLine texts line
told texts n text at what line e is =
    subst (λ (l : Text). IsLine texts l) (sym is)
    (of_file texts n text (place_words (place_behind text.bytes at) ++ shown what) e (joined (place_words (place_behind text.bytes at)) (shown what) (place_plain (place_behind text.bytes at)) (shown_plain what)))

told_plain : (texts : List NamedText) (n : ℕ) (text : NamedText) (what line : Text) → slice_get texts n ≡ Some text → line ≡ text_line text.name what → IsLine texts line
told_plain texts n text what line e is =
    subst (λ (l : Text). IsLine texts l) (sym is) (of_file texts n text (codes ": " ++ shown what) e (joined (codes ": ") (shown what) refl (shown_plain what)))

-- ---- lines

same_lines : (texts : List NamedText) (lines others : List Text) → others ≡ lines → EachIsLine texts lines → EachIsLine texts others
same_lines texts lines others e h = subst (λ (l : List Text). EachIsLine texts l) (sym e) h

joined_lines : (texts : List NamedText) (lines more : List Text) → EachIsLine texts lines → EachIsLine texts more → EachIsLine texts (lines ++ more)
joined_lines texts [] more h m = m
joined_lines texts (line ∷ lines) more h m = (h.0, joined_lines texts lines more h.1 m)

-- no rule is told behind them
pub alone_lines : (texts : List NamedText) (lines : List Text) → EachIsLine texts lines → AreLines texts lines
alone_lines texts lines h = record { told = lines; each = h; rule = []; one = inl refl; are = sym (append-nil lines) }

-- ---- a break

step_plain : (texts : List NamedText) (key : Text) (name : Option Text) → IsLine texts (step_line key name)
step_plain texts key None = alone texts (codes "step " ++ shown key ++ []) (joined (codes "step " ++ shown key) [] (joined (codes "step ") (shown key) refl (shown_plain key)) refl)
step_plain texts key (Some name) =
    alone texts (codes "step " ++ shown key ++ name_part (Some name))
    (joined (codes "step " ++ shown key) (name_part (Some name)) (joined (codes "step ") (shown key) refl (shown_plain key)) (canon_plain name))

steps_plain : (texts : List NamedText) (key : Option Text) (root : Data) → EachIsLine texts (step_lines key root)
steps_plain texts None root = tt
steps_plain texts (Some key) root = (step_plain texts key (step_name key root), tt)

pointer_plain : (texts : List NamedText) (path : Text) → IsLine texts (pointer_line path)
pointer_plain texts path = alone texts (codes "at " ++ canon (string path)) (joined (codes "at ") (canon (string path)) refl (canon_plain path))

part_plain : (texts : List NamedText) (n : ℕ) (text : NamedText) (path what line : Text) → slice_get texts n ≡ Some text → TellsPart text path what line → IsLine texts line
part_plain texts n text path what line e (inl v) = told texts n text v.at what line e v.is
part_plain texts n text path what line e (inr is) = told_plain texts n text what line e is

fault_plain : (texts : List NamedText) (n : ℕ) (text : NamedText) (root : Data) (step : Option Text) (what : Text) (lines : List Text) → slice_get texts n ≡ Some text → TellsFault text root step what lines → EachIsLine texts lines
fault_plain texts n text root step what lines e f =
    same_lines texts _ lines f.are
    (joined_lines texts (step_lines step root) (pointer_line f.path ∷ f.part ∷ []) (steps_plain texts step root) (pointer_plain texts f.path, (part_plain texts n text f.path what f.part e f.tells, tt)))

broken_plain : (texts : List NamedText) (roots : List Data) (broken : Break) (lines : List Text) → TellsBroken texts roots broken lines → AreLines texts lines
broken_plain texts roots broken lines b = record {
  told = b.fault;
  each = fault_plain texts broken.book b.text b.root broken.step b.what b.fault b.text_is b.tells;
  rule = book_lines broken.rule;
  one = inr (broken.rule, refl);
  are = b.are;
}

pub none_plain : (texts : List NamedText) (lines : List Text) → lines ≡ [] → AreLines texts lines
none_plain texts lines e = alone_lines texts lines (same_lines texts [] lines e tt)

-- what is told of the first break of playbooks
pub trees_plain : (texts : List NamedText) (roots : List Data) (lines : List Text) (end : End) → ExplainsTrees roots lines end → TellsOf (Ok roots) texts lines end → AreLines texts lines
trees_plain texts roots lines end (inl accepted) tells = none_plain texts lines accepted.1
trees_plain texts roots lines end (inr (inl b)) tells = broken_plain texts roots b.broken lines (tells b.broken b.ends)
trees_plain texts roots lines end (inr (inr none)) tells = none_plain texts lines none.0

-- ---- a text that has no tree

no_place_plain : (texts : List NamedText) (n : ℕ) (text : NamedText) (lines : List Text) → slice_get texts n ≡ Some text → TellsNoPlace text lines → EachIsLine texts lines
no_place_plain texts n text lines e t = same_lines texts _ lines t.are (told_plain texts n text t.what _ e refl, tt)

reason_plain : (texts : List NamedText) (n : ℕ) (text : NamedText) (why : JsonError) (lines : List Text) → slice_get texts n ≡ Some text → TellsReason text why lines → EachIsLine texts lines
reason_plain texts n text NotJson lines e (inl f) = same_lines texts _ lines f.are (told texts n text f.at f.what _ e refl, tt)
reason_plain texts n text NotJson lines e (inr t) = no_place_plain texts n text lines e t
reason_plain texts n text (RepeatedName colons members) lines e (inl t) =
    same_lines texts _ lines t.are (told texts n text t.first t.here _ e refl, (told texts n text t.second t.there _ e refl, tt))
reason_plain texts n text (RepeatedName colons members) lines e (inr t) = no_place_plain texts n text lines e t
reason_plain texts n text (NotWhole index) lines e (inl t) = same_lines texts _ lines t.are (told texts n text t.at t.what _ e refl, tt)
reason_plain texts n text (NotWhole index) lines e (inr t) = no_place_plain texts n text lines e t
reason_plain texts n text Memory lines e t = absurd t

record IsAmong (texts : List NamedText) (text : NamedText) : Type 0 where
  number : ℕ
  is : slice_get texts number ≡ Some text

abbrev or_other : Option Unread → Unread → Unread
or_other None other = other
or_other (Some unread) other = unread

same_unread : (one other : Unread) → Some one ≡ Some other → other ≡ one
same_unread one other e = sym (ap (λ (o : Option Unread). or_other o one) e)

among_first : (text : NamedText) (texts : List NamedText) (unread : Unread) (why : JsonError) → unread ≡ (text, why) → IsAmong (text ∷ texts) unread.0
among_first text texts unread why is = record { number = 0; is = ap (λ (u : Unread). Some u.0) (sym is) }

among_step : (text : NamedText) (texts : List NamedText) (unread : Unread) (read : Result Data JsonError) → unread_or text (first_unread texts) read ≡ Some unread
    → (first_unread texts ≡ Some unread → IsAmong texts unread.0) → IsAmong (text ∷ texts) unread.0
among_step text texts unread (Ok root) e later = let it : IsAmong texts unread.0 = later e in record { number = suc it.number; is = it.is }
among_step text texts unread (Err why) e later = among_first text texts unread why (same_unread (text, why) unread e)

among : (texts : List NamedText) (unread : Unread) → first_unread texts ≡ Some unread → IsAmong texts unread.0
among [] unread e = absurd (false≢true (ap is_some e))
among (text ∷ texts) unread e = among_step text texts unread (answer text.bytes) e (among texts unread)

unread_cases : (texts : List NamedText) (lines : List Text) (first : Option Unread) → first_unread texts ≡ first → TellsUnread first lines → EachIsLine texts lines
unread_cases texts lines None e tells = same_lines texts [] lines tells tt
unread_cases texts lines (Some unread) e tells =
    let it : IsAmong texts unread.0 = among texts unread e in reason_plain texts it.number unread.0 unread.1 lines it.is tells

-- what is told of the first text that has no tree
pub unread_plain : (texts : List NamedText) (lines : List Text) → TellsUnread (first_unread texts) lines → AreLines texts lines
unread_plain texts lines tells = alone_lines texts lines (unread_cases texts lines (first_unread texts) refl tells)
