-- Lines of records, with a number before them and without.
use Rattle.std.proofs.Common.{◌≡◌, ◌≢◌, ℕ, ◌<◌, ◌^◌, ◌==◌, ◌&&◌, Bool, true, false, List, [], ◌∷◌, ◌++◌, length, arith, refl, ap, sym, subst, ◌∙◌}
use Rattle.std.specs.Prelude.{codes, nat_eq, Option, Some, None, unwrap_or}
use Rattle.std.specs.Fmt.{decimal}
use Rattle.std.specs.List.{list_all, list_any}
use Rattle.std.specs.Str.{bytes_eq}
use Rattle.std.proofs.lemmas.List.{append_assoc}
use Rattle.run_records.specs.declared.record.Record.{Record}
use Rattle.run_records.specs.declared.record.Record.TheVariants as entry
use Rattle.cacao_text.specs.Canon.{string_text}
use Rattle.flow_core_rules.specs.State.{Shown}
use Rattle.flow_core_rules.specs.Lines.{line, key_of, record_line}
use Rattle.flow_core_rules.specs.Laws.{is_digit, AreDigits, IsRecordLine, record_words, word_starts}
use Rattle.flow_core_rules.proofs.LineLemmas.{others_are_no_records}
use Rattle.flow_laws.specs.Held.{IsLineOf, IsRunLine}
use Rattle.flow_laws.specs.Journals.{run_of}
use Rattle.flow_fleet_laws.specs.Lines.{IsNoRecords, OtherLines}
use Rattle.flow_fleet_laws.specs.Speeches.{Form, head_of, spoken}
use Rattle.flow_fleet_laws.specs.Speeches.Form.{without_numbers, with_numbers}
use Rattle.flow_fleet_laws.proofs.Numbers.{are_digits, behind_head, same_digits, same_number}

-- ---- the line of each record looks like one

words_line : (n m : ℕ) (word next : List ℕ) (others : List (List ℕ)) → list_any (bytes_eq word) record_words ≡ true
    → IsRecordLine (decimal n ++ line (decimal m ∷ word ∷ next ∷ others))
words_line n m word next others is = record {
  number = decimal n;
  moment = decimal m;
  word = word;
  rest = next ++ line others;
  number_is = are_digits n;
  moment_is = are_digits m;
  word_is = is;
  joined = refl;
}

pub looks : (before : Shown) (n : ℕ) (r : Record) → IsRecordLine (record_line before n r)
looks before n (entry.Begin run moment books bind) = words_line n moment (codes "begin") (decimal run) [] refl
looks before n (entry.Walk task moment) = words_line n moment (codes "walk") (decimal task) (key_of before task ∷ []) refl
looks before n (entry.Send task issue agent moment bytes) = words_line n moment (codes "send") (decimal issue) (decimal agent ∷ []) refl
looks before n (entry.Reply issue moment status rule text) = words_line n moment (codes "reply") (decimal issue) (decimal status ∷ []) refl
looks before n (entry.Expire issue moment) = words_line n moment (codes "expire") (decimal issue) [] refl
looks before n (entry.Upgrade version moment) = words_line n moment (codes "upgrade") (decimal version) [] refl
looks before n (entry.Ask task issue moment bytes) = words_line n moment (codes "ask") (decimal issue) (string_text bytes ∷ []) refl
looks before n (entry.Told issue moment status text) = words_line n moment (codes "told") (decimal issue) (decimal status ∷ []) refl

-- ---- behind a number it does not

digit_first : (xs : List ℕ) → AreDigits xs → (c : ℕ) × (rest : List ℕ) × (is_digit c ≡ true) × (xs ≡ c ∷ rest)
digit_first [] are = absurd (omega (arith, are.0))
digit_first (x ∷ xs) are = (x, xs, both (is_digit x) (list_all is_digit xs) are.1, refl)
  where
    both : (a b : Bool) → (a && b) ≡ true → a ≡ true
    both true b e = refl
    both false b e = let f : false ≡ true = e in absurd (cc)

-- a digit begins no word
starts_none : (c : ℕ) → is_digit c ≡ true → list_any (nat_eq c) word_starts ≡ false
starts_none c digit = grind arith

pub headed : (m : ℕ) (text : List ℕ) → IsRecordLine text → IsRecordLine (head_of m ++ text) → ⊥
headed m text is =
    let first = digit_first is.moment is.moment_is in
    let c = first.0 in
    let rest = first.1 ++ 32 ∷ (is.word ++ 32 ∷ is.rest) in
    let split : text ≡ is.number ++ 32 ∷ c ∷ rest =
    is.joined ∙ ap (λ (l : List ℕ). is.number ++ 32 ∷ (l ++ 32 ∷ (is.word ++ 32 ∷ is.rest))) first.3 in
    let whole : head_of m ++ text ≡ decimal m ++ 32 ∷ (is.number ++ 32 ∷ c ∷ rest) =
    append_assoc (decimal m) (32 ∷ []) text ∙ ap (λ (l : List ℕ). decimal m ++ 32 ∷ l) split in
    λ other. others_are_no_records.no_word (decimal m) is.number c rest (are_digits m).1 is.number_is.1 (starts_none c first.2) (subst IsRecordLine whole other)

-- ---- a line of a run, by its form

-- what a record's line is then
abbrev pub Says : Form → ℕ → List ℕ → Type 0
Says without_numbers run bytes = IsRecordLine bytes
Says with_numbers run bytes = (text : List ℕ) × IsRecordLine text × (bytes ≡ head_of run ++ text)

-- what is known of the number of its journal
abbrev pub IsOf : ℕ → Option ℕ → Type 0
IsOf run held = (other : ℕ) → held ≡ Some other → other ≡ run

says_head : (form : Form) (run : ℕ) (held : Option ℕ) (text bytes : List ℕ) → IsOf run held → IsRecordLine text
    → bytes ≡ (spoken form run).head held ++ text → Says form run bytes
says_head without_numbers run held text bytes own is e = subst IsRecordLine (sym e) is
says_head with_numbers run None text bytes own is e = (text, is, e)
says_head with_numbers run (Some other) text bytes own is e = (text, is, e ∙ ap (λ (n : ℕ). head_of n ++ text) (own other refl))

pub says_line : (form : Form) (run : ℕ) (records : List Record) (bytes : List ℕ) → IsOf run (run_of records)
    → IsLineOf (spoken form run) records bytes → Says form run bytes
says_line form run records bytes own is = says_head form run (run_of records) (record_line is.before is.n is.it) bytes own (looks is.before is.n is.it) is.is

pub heard_line : (form : Form) (run : ℕ) (held : Option ℕ) (bytes : List ℕ) → IsOf run held → IsRunLine (spoken form run) held bytes → Says form run bytes
heard_line form run held bytes own is = says_head form run held is.line bytes own is.looks is.is

-- ---- lines of two runs, or in two forms, are apart

abbrev pub Apart : Form → Form → ℕ → ℕ → Type 0
Apart without_numbers without_numbers n run = ⊥
Apart without_numbers with_numbers n run = Unit {0}
Apart with_numbers without_numbers n run = Unit {0}
Apart with_numbers with_numbers n run = n ≢ run

pub unlike : (form other : Form) (n run : ℕ) (bytes : List ℕ) → n < 2 ^ 64 → run < 2 ^ 64 → Apart form other n run → Says form n bytes → Says other run bytes → ⊥
unlike without_numbers without_numbers n run bytes small small' apart said heard = apart
unlike without_numbers with_numbers n run bytes small small' apart said heard = headed run heard.0 heard.1 (subst IsRecordLine heard.2 said)
unlike with_numbers without_numbers n run bytes small small' apart said heard = headed n said.0 said.1 (subst IsRecordLine said.2 heard)
unlike with_numbers with_numbers n run bytes small small' apart said heard = apart (same_number n run said.0 heard.0 small small' (sym said.2 ∙ heard.2))

-- ---- lines that are no record's

-- behind a run's number a line is one where what stands behind the first digits and a space is
numbered_by : (first rest : List ℕ) (run : ℕ) (text : List ℕ) → list_all is_digit first ≡ true → IsRecordLine text
    → first ++ 32 ∷ rest ≡ head_of run ++ text → IsRecordLine rest
numbered_by first rest run text digits is e =
    let same = same_digits first (decimal run) 32 32 rest text digits (are_digits run).1 refl refl (e ∙ behind_head run text) in
    subst IsRecordLine (sym same.2) is

-- and there is none where no space stands there
not_numbered : (first : List ℕ) (c : ℕ) (rest : List ℕ) (run : ℕ) (text : List ℕ) → list_all is_digit first ≡ true → is_digit c ≡ false → (c == 32) ≡ false
    → first ++ c ∷ rest ≡ head_of run ++ text → ⊥
not_numbered first c rest run text digits other no_space e =
    let same = same_digits first (decimal run) c 32 rest text digits (are_digits run).1 other refl (e ∙ behind_head run text) in
    let f : true ≡ false = subst (λ (n : ℕ). (n == 32) ≡ false) same.1 no_space in
    absurd (cc)

pub other_lines : OtherLines
other_lines = record {
  no_number = λ c rest other. record {
    bare = others_are_no_records.no_number c rest other;
    numbered = λ run text is e. begins_so c rest run text other e;
  };
  no_space = λ first c rest digits other no_space. record {
    bare = others_are_no_records.no_space first c rest digits other no_space;
    numbered = λ run text is e. not_numbered first c rest run text digits other no_space e;
  };
  no_second_number = λ first c rest digits other. record {
    bare = others_are_no_records.no_moment first c rest digits other;
    numbered = λ run text is e. others_are_no_records.no_number c rest other (numbered_by first (c ∷ rest) run text digits is e);
  };
  no_second_space = λ first second c rest digits more other no_space. record {
    bare = others_are_no_records.no_second_space first second c rest digits more other no_space;
    numbered = λ run text is e.
        others_are_no_records.no_space second c rest more other no_space (numbered_by first (second ++ c ∷ rest) run text digits is e);
  };
  no_word = λ first second c rest digits more other no_start. record {
    bare = others_are_no_records.no_word first second c rest digits more no_start;
    numbered = λ run text is e.
        others_are_no_records.no_moment second c rest more other (numbered_by first (second ++ 32 ∷ c ∷ rest) run text digits is e);
  };
}
  where
    begins_so : (c : ℕ) (rest : List ℕ) (run : ℕ) (text : List ℕ) → is_digit c ≡ false → c ∷ rest ≡ head_of run ++ text → ⊥
    begins_so c rest run text other e =
        let same = same_digits [] (decimal run) c 32 rest text refl (are_digits run).1 other refl (e ∙ behind_head run text) in
        let none : 0 < 0 = subst (λ (l : List ℕ). 0 < length l) (sym same.0) (are_digits run).0 in
        absurd (omega (arith, none))

-- no run has such a line
pub not_heard : (form : Form) (run : ℕ) (held : Option ℕ) (bytes : List ℕ) → IsNoRecords bytes → IsRunLine (spoken form run) held bytes → ⊥
not_heard without_numbers run held bytes none is = none.bare (subst IsRecordLine (sym is.is) is.looks)
not_heard with_numbers run held bytes none is = none.numbered (unwrap_or held run) is.line is.looks is.is
