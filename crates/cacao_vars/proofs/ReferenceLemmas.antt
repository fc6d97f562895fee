-- The run of name characters with which a text begins is the name of its reference, if it begins with one.
use Rattle.std.proofs.Common.{◌≡◌, ℕ, zero, suc, ◌+◌, ◌-◌, ◌<◌, ◌≤◌, ◌&&◌, Bool, true, false, List, [], ◌∷◌, ◌++◌, length, get_or, take, drop, take_at, drop_at, take-append-drop, length-append, append_assoc, inl, inr, arith, refl, sym, ◌∙◌, ap, subst}
use Rattle.std.specs.Prelude.{codes}
use Rattle.std.specs.List.{list_all}
use Rattle.std.proofs.Math.ListN.{get_or-append}
use Rattle.std.proofs.Math.Seq.{get_or-append_seam}
use Rattle.std.proofs.lemmas.Bool.{true≢false, cases_order, cases_lt}
use Rattle.std.proofs.lemmas.List.{get_or-take, take_all, drop_all, drop-drop, length-drop, length-take-le}
use Rattle.cacao_vars.specs.Names.{IsName, is_name_character, underscores}
use Rattle.cacao_vars.specs.References.{BeginsWithReference, HasReferenceAt, HasNoReference, StandsAt}

pub both : (a b : Bool) → (a && b) ≡ true → (a ≡ true) × (b ≡ true)
both true b e = (refl, e)
both false b e = absurd (true≢false (sym e))

holds_at : (p : ℕ → Bool) (xs : List ℕ) (k : ℕ) → list_all p xs ≡ true → k < length xs → p (get_or xs k 0) ≡ true
holds_at p [] k e h = absurd (omega arith)
holds_at p (x ∷ xs) zero e h = (both (p x) (list_all p xs) e).0
holds_at p (x ∷ xs) (suc k) e h = holds_at p xs k (both (p x) (list_all p xs) e).1 (omega arith)

pub all-append : (p : ℕ → Bool) (xs ys : List ℕ) → list_all p xs ≡ true → list_all p ys ≡ true → list_all p (xs ++ ys) ≡ true
all-append p [] ys e f = f
all-append p (x ∷ xs) ys e f = let h = both (p x) (list_all p xs) e in rw (h.0, all-append p xs ys h.1 f) refl

pub name_size : (name : List ℕ) → IsName name → (5 ≤ length name) × (length name ≤ 64)
name_size name n =
    let size : length name ≡ length n.middle + 4 = ap length n.spelled ∙ omega (arith, length-append (underscores ++ n.middle) underscores) in
    (omega (arith, n.at_least), omega (arith, n.at_most))

pub name_characters : (name : List ℕ) → IsName name → list_all is_name_character name ≡ true
name_characters name n =
    ap (list_all is_name_character) n.spelled
    ∙ all-append is_name_character (underscores ++ n.middle) underscores (all-append is_name_character underscores n.middle refl n.characters) refl

-- the run is no longer than the name, since a colon follows it
run-not-longer : (text name behind : List ℕ) (len : ℕ) → text ≡ name ++ 58 ∷ behind → len ≤ length text → list_all is_name_character (take len text) ≡ true → length name < len → ⊥
run-not-longer text name behind len e within each longer =
    let size : length (take len text) ≡ len = length-take-le len text within in
    let colon : get_or text (length name) 0 ≡ 58 = ap (λ t. get_or t (length name) 0) e ∙ get_or-append_seam name 58 behind 0 in
    let here : get_or (take len text) (length name) 0 ≡ 58 = get_or-take len text (length name) 0 longer ∙ colon in
    true≢false (sym (holds_at is_name_character (take len text) (length name) each (omega arith)) ∙ ap is_name_character here)

-- nor is it shorter, since each character of the name is counted
run-not-shorter : (text name behind : List ℕ) (len : ℕ) → IsName name → text ≡ name ++ 58 ∷ behind → (len ≤ 64 → len < length text → is_name_character (get_or text len 0) ≡ false) → len < length name → ⊥
run-not-shorter text name behind len n e end shorter =
    let size = name_size name n in
    let total : length text ≡ length name + suc (length behind) = ap length e ∙ length-append name (58 ∷ behind) in
    let same : get_or text len 0 ≡ get_or name len 0 = ap (λ t. get_or t len 0) e ∙ get_or-append name (58 ∷ behind) 0 len shorter in
    true≢false (sym (holds_at is_name_character name len (name_characters name n) shorter) ∙ ap is_name_character (sym same) ∙ end (omega arith) (omega arith))

pub run_is_name : (text name behind : List ℕ) (len : ℕ) → IsName name → text ≡ name ++ 58 ∷ behind → len ≤ length text
    → list_all is_name_character (take len text) ≡ true → (len ≤ 64 → len < length text → is_name_character (get_or text len 0) ≡ false) → len ≡ length name
run_is_name text name behind len n e within each end = elim (cases_order len (length name)) [
  | inl same ↦ same
  | inr other ↦ elim other [
    | inl less ↦ absurd (run-not-shorter text name behind len n e end less)
    | inr more ↦ absurd (run-not-longer text name behind len e within each more)
  ]
]

-- how a text is cut that begins with the reference to a name
pub record Cut (text name rest : List ℕ) (len : ℕ) : Type 0 where
  pub name_fits : IsName name
  pub size : len ≡ length name
  pub front : take len text ≡ name
  pub back : drop len text ≡ codes ":value" ++ rest

pub cut_of : (text : List ℕ) (len : ℕ) → len ≤ length text → list_all is_name_character (take len text) ≡ true
    → (len ≤ 64 → len < length text → is_name_character (get_or text len 0) ≡ false) → (b : BeginsWithReference text) → Cut text b.0 b.1 len
cut_of text len within each end (name, rest, n, e) =
    let whole : text ≡ name ++ (codes ":value" ++ rest) = e ∙ append_assoc name (codes ":value") rest in
    let size = run_is_name text name (118 ∷ 97 ∷ 108 ∷ 117 ∷ 101 ∷ rest) len n whole within each end in record {
      name_fits = n;
      size = size;
      front = ap (take len) whole ∙ take_at name (codes ":value" ++ rest) len (sym size);
      back = ap (drop len) whole ∙ drop_at name (codes ":value" ++ rest) len (sym size);
    }

pub all_behind : (text : List ℕ) (len : ℕ) → len ≤ length text → take (length text - len) (drop len text) ≡ drop len text
all_behind text len h = take_all (length text - len) (drop len text) (omega (arith, length-drop len text))

pub value_front : (text rest : List ℕ) → text ≡ codes ":value" ++ rest → text ≡ codes ":value" ++ drop 6 text
value_front text rest e = e ∙ ap (λ r. codes ":value" ++ r) (sym (ap (drop 6) e))

pub stands_from : (text : List ℕ) (len : ℕ) → len ≤ length text → IsName (take len text) → drop len text ≡ codes ":value" ++ drop 6 (drop len text) → StandsAt text 0 len
stands_from text len within name e = record {
  within = omega (arith, ap length e, length-drop len text, length-append (codes ":value") (drop 6 (drop len text)));
  name_fits = name;
  spelled = sym (take-append-drop len text) ∙ ap (λ t. take len text ++ t) (e ∙ ap (λ r. codes ":value" ++ r) (drop-drop 6 len text))
      ∙ sym (append_assoc (take len text) (codes ":value") (drop (len + 6) text));
}

pub stands_further : (text : List ℕ) (place len : ℕ) → place ≤ length text → StandsAt (drop place text) 0 len → StandsAt text place len
stands_further text place len within s = record {
  within = omega (arith, s.within, length-drop place text);
  name_fits = s.name_fits;
  spelled = s.spelled;
}

pub none_at_end : (text : List ℕ) (place : ℕ) → length text ≤ place → ¬ HasReferenceAt text place
none_at_end text place h (name, rest, n, e) =
    let size = name_size name n in
    omega (arith, sym (ap length (drop_all place text h)) ∙ ap length e, length-append (name ++ codes ":value") rest, length-append name (codes ":value"))

pub none_anywhere : (text : List ℕ) (end : ℕ) → length text ≤ end → ((place : ℕ) → place < end → ¬ HasReferenceAt text place) → HasNoReference text
none_anywhere text end h before place = elim (cases_lt place end) [
  | inl less ↦ before place less
  | inr more ↦ none_at_end text place (omega arith)
]

pub none_here : (text : List ℕ) (place : ℕ) → place ≤ length text → ¬ BeginsWithReference (take (length text - place) (drop place text)) → ¬ HasReferenceAt text place
none_here text place within none has = none (subst BeginsWithReference (sym (all_behind text place within)) has)
