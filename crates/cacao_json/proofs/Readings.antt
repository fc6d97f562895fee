-- From a reading to the tree, and back.
use Rattle.std.proofs.Common.{◌≡◌, ◌==◌, ◌&&◌, ℕ, ◌+◌, ◌-◌, ◌≤◌, List, length, Bool, true, false, Option, Some, None, refl, sym, ap, ◌∙◌, eq-eqb, Result, Ok, Err, is_err, arith}
use Rattle.std.specs.Prelude.{option_and_then, is_none, if◌then◌else◌}
use Rattle.std.specs.Str.{is_utf8}
use Rattle.std.proofs.lemmas.Bool.{eqb-true, and_parts}
use Rattle.serde_json.specs.Data.{Data}
use Rattle.serde_json.specs.Read.{read}
use Rattle.cacao_json_counts.specs.Counts.{colons, members, numbers, first_broken, TakesWhole}
use Rattle.cacao_json.specs.Reading.{reading, kept, tree}
use Rattle.cacao_json.proofs.Bounds.{members-read, numbers-read}

if_utf8 : (b : Bool) (o : Option Data) (d : Data) → (if b then o else None) ≡ Some d → (b ≡ true) × (o ≡ Some d)
if_utf8 true o d e = (refl, e)
if_utf8 false o d e = absurd (cc)

-- what is read is UTF-8
pub read-reading : (bytes : List ℕ) (d : Data) → reading bytes ≡ Some d → (is_utf8 bytes ≡ true) × (read bytes ≡ Some d)
read-reading bytes d e = if_utf8 (is_utf8 bytes) (read bytes) d e

pub members-reading : (bytes : List ℕ) (d : Data) → reading bytes ≡ Some d → members d ≤ colons bytes
members-reading bytes d e = members-read bytes d (read-reading bytes d e).1

pub numbers-reading : (bytes : List ℕ) (d : Data) → reading bytes ≡ Some d → length (numbers d) ≤ length bytes + 1
numbers-reading bytes d e = numbers-read bytes d (read-reading bytes d e).1

both : (b c : Bool) (d : Data) → b ≡ true → c ≡ true → (if b && c then Some d else None) ≡ Some d
both true true d e f = refl
both true false d e f = absurd (cc)
both false c d e f = absurd (cc)

pub tree-from_reading : (bytes : List ℕ) (d : Data) → reading bytes ≡ Some d → colons bytes ≡ members d → first_broken (numbers d) ≡ None → tree bytes ≡ Some d
tree-from_reading bytes d e same whole =
    ap (option_and_then (kept bytes)) e ∙ both (colons bytes == members d) (is_none (first_broken (numbers d))) d (eq-eqb (colons bytes) (members d) same) (ap is_none whole)

-- what a text's tree is
pub record HasTree (bytes : List ℕ) (d : Data) : Type 0 where
  pub reads : reading bytes ≡ Some d
  pub same : colons bytes ≡ members d
  pub whole : first_broken (numbers d) ≡ None

none_of : (o : Option ℕ) → is_none o ≡ true → o ≡ None
none_of None e = refl
none_of (Some i) e = absurd (cc)

if_kept : (b : Bool) (x d : Data) → (if b then Some x else None) ≡ Some d → (b ≡ true) × (x ≡ d)
if_kept true x d e = (refl, cc)
if_kept false x d e = absurd (cc)

has_tree_by : (bytes : List ℕ) (o : Option Data) (d : Data) → reading bytes ≡ o → option_and_then (kept bytes) o ≡ Some d → HasTree bytes d
has_tree_by bytes None d r e = absurd (cc)
has_tree_by bytes (Some x) d r e =
    let k = if_kept ((colons bytes == members x) && is_none (first_broken (numbers x))) x d e in
    let p = and_parts _ _ k.0 in
    record {
      reads = r ∙ ap Some k.1;
      same = eqb-true (colons bytes) (members x) p.0 ∙ ap members k.1;
      whole = ap (λ y. first_broken (numbers y)) (sym k.1) ∙ none_of (first_broken (numbers x)) p.1;
    }

pub HasTree-from_tree : (bytes : List ℕ) (d : Data) → tree bytes ≡ Some d → HasTree bytes d
HasTree-from_tree bytes d e = has_tree_by bytes (reading bytes) d refl e

-- where no colon is left, the members are as many
pub all_taken : (bytes : List ℕ) (d : Data) (count left : ℕ) → reading bytes ≡ Some d → count ≡ colons bytes → left ≡ count - members d → left ≤ 0 → colons bytes ≡ members d
all_taken bytes d count left e c l h = omega (arith, members-reading bytes d e, c, l)

-- what `left_after_numbers` answers where all numbers are whole
pub none_broken : (r : Result ℕ ℕ) (n : ℕ) (d : Data) → is_err r ≡ false → TakesWhole r n (numbers d) → first_broken (numbers d) ≡ None
none_broken (Ok m) n d e h = h.0
none_broken (Err m) n d e h = absurd (cc)
