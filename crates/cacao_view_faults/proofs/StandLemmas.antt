-- What tests of places show.
use Rattle.std.proofs.Common.{◌≡◌, ◌⊎◌, ◌∙◌, inl, inr, refl, sym, ap, subst, ℕ, List, [], ◌∷◌, ◌++◌, take, length, arith, append-nil, Bool, true, false, if◌then◌else◌, Option, Some, None}
use Rattle.std.specs.Prelude.{is_some, IsSome, IsTrue, codes}
use Rattle.std.proofs.lemmas.List.{append_assoc, take_all}
use Rattle.serde_json.specs.Data.{Data}
use Rattle.cacao_json.specs.Reading.{reading}
use Rattle.cacao_view_faults.specs.Closing.{closes_with, closing, is_begun, standing_behind}
use Rattle.cacao_view_faults.specs.Kinds.{IsBegun}
use Rattle.cacao_view_faults.specs.Stands.{LeadsOn, leads}

-- ---- the beginning of a text

one_of : {P : Type 0} (a b : Bool) → (a ≡ true → P) → (b ≡ true → P) → (if a then true else b) ≡ true → P
one_of true b here there e = here refl
one_of false b here there e = there e

closed : (text : List ℕ) (at : ℕ) (middle : List ℕ) → closes_with (take at text) middle ≡ true → IsBegun text at
closed text at middle e = record { more = closing (standing_behind (take at text)) middle; is = e }

pub begun : (text : List ℕ) (at : ℕ) → is_begun (take at text) ≡ true → IsBegun text at
begun text at =
    one_of (closes_with (take at text) (codes "")) _ (closed text at (codes ""))
    (one_of (closes_with (take at text) (codes "0")) _ (closed text at (codes "0"))
    (one_of (closes_with (take at text) (codes ":0")) _ (closed text at (codes ":0")) (closed text at (codes "\"\":0"))))

-- ---- the beginning of a text that is cut

joined : (text rest more : List ℕ) → (text ++ rest) ++ more ≡ take (length text) text ++ (rest ++ more)
joined text rest more = append_assoc text rest more ∙ ap (λ (front : List ℕ). front ++ (rest ++ more)) (sym (take_all (length text) text (omega arith)))

closed_with : (text rest middle : List ℕ) → closes_with (text ++ rest) middle ≡ true → IsBegun text (length text)
closed_with text rest middle e = record {
  more = rest ++ closing (standing_behind (text ++ rest)) middle;
  is = subst (λ (bytes : List ℕ). is_some (reading bytes) ≡ true) (joined text rest (closing (standing_behind (text ++ rest)) middle)) e;
}

pub begun_with : (text rest : List ℕ) → is_begun (text ++ rest) ≡ true → IsBegun text (length text)
begun_with text rest =
    one_of (closes_with (text ++ rest) (codes "")) _ (closed_with text rest (codes ""))
    (one_of (closes_with (text ++ rest) (codes "0")) _ (closed_with text rest (codes "0"))
    (one_of (closes_with (text ++ rest) (codes ":0")) _ (closed_with text rest (codes ":0")) (closed_with text rest (codes "\"\":0"))))

-- ---- a pointer

some_or_none : (o : Option Data) → IsSome o ⊎ (o ≡ None)
some_or_none None = inr refl
some_or_none (Some d) = inl refl

base_leads : (text base : List ℕ) (o : Option Data) → leads text base ≡ o → IsSome o ⊎ (o ≡ None) → LeadsOn text base base
base_leads text base o e (inl some) = record { part = []; is = sym (append-nil base); below = inl refl; leads_to = inl (ap is_some e ∙ some) }
base_leads text base o e (inr none) = record { part = []; is = sym (append-nil base); below = inl refl; leads_to = inr (refl, e ∙ none) }

pub leads_base : (text base path : List ℕ) → path ≡ base → LeadsOn text base path
leads_base text base path is = subst (λ (p : List ℕ). LeadsOn text base p) (sym is) (base_leads text base (leads text base) refl (some_or_none (leads text base)))

pub leads_part : (text base part path : List ℕ) (found : Bool) → path ≡ base ++ (codes "/" ++ part) → found ≡ is_some (leads text path) → IsTrue found → LeadsOn text base path
leads_part text base part path found is found_is t = record { part = 47 ∷ part; is = is; below = inr (part, refl); leads_to = inl (sym found_is ∙ t) }
