-- The edits of an answer, one after another.
use Rattle.std.proofs.Common.{◌≡◌, ℕ, ◌≤◌, ◌&&◌, Bool, true, false, length, IsUtf8, arith, List, [], ◌∷◌, ◌++◌, drop, Option, refl, sym, ap, subst, ◌∙◌, append_assoc}
use Rattle.std.specs.Prelude.{nat_le}
use Rattle.std.specs.List.{flat_map}
use Rattle.std.specs.Str.{is_utf8}
use Rattle.std.proofs.lemmas.Str.{IsUtf8-from_is_utf8, is_utf8-from_IsUtf8}
use Rattle.std.proofs.lemmas.List.{append-nil}
use Rattle.flow_core_rules.specs.Edits.{Edit}
use Rattle.flow_core_rules.specs.Changes.{paired, is_final, is_answer}
use Rattle.flow_core_values.specs.TableTypes.{Planned}
use Rattle.flow_core_plans.specs.Adding.{Adds}
use Rattle.flow_core_plans.proofs.AddingLemmas.{adds_then}

module _ (f : List ℕ × Option (List ℕ) → List Edit) where
  -- the first name, and what it gets
  pub adds_first : (a b : List Planned) (names : List (List ℕ)) (name : List ℕ) (others : List (List ℕ)) (text : Option (List ℕ)) → names ≡ name ∷ others
      → Adds a b (f (name, text)) → Adds a b (flat_map f (paired names (text ∷ [])))
  adds_first a b names name others text e w =
      subst (λ (es : List Edit). Adds a b es) (sym (append-nil (f (name, text))) ∙ at others ∙ ap (λ (ns : List (List ℕ)). flat_map f (paired ns (text ∷ []))) (sym e)) w
    where
      at : (others : List (List ℕ)) → f (name, text) ++ [] ≡ flat_map f (paired (name ∷ others) (text ∷ []))
      at [] = refl
      at (n ∷ others) = refl

  one_by_one : (names : List (List ℕ)) (x y z : Option (List ℕ))
      → (flat_map f (paired names (x ∷ [])) ++ flat_map f (paired (drop 1 names) (y ∷ []))) ++ flat_map f (paired (drop 1 (drop 1 names)) (z ∷ []))
      ≡ flat_map f (paired names (x ∷ y ∷ z ∷ []))
  one_by_one [] x y z = refl
  one_by_one (k ∷ []) x y z = append-nil _ ∙ append-nil _
  one_by_one (k ∷ l ∷ []) x y z =
      append-nil _ ∙ ap (λ (es : List Edit). es ++ (f (l, y) ++ [])) (append-nil (f (k, x)))
  one_by_one (k ∷ l ∷ m ∷ names) x y z =
      let last : List Edit = f (m, z) ++ flat_map f (paired names []) in
      ap (λ (es : List Edit). (es ++ (f (l, y) ++ [])) ++ last) (append-nil (f (k, x)))
      ∙ ap (λ (es : List Edit). (f (k, x) ++ es) ++ last) (append-nil (f (l, y)))
      ∙ append_assoc (f (k, x)) (f (l, y)) last

  -- three names, and what they get
  pub adds_three : (a b c d : List Planned) (names second third : List (List ℕ)) (x y z : Option (List ℕ)) → second ≡ drop 1 names → third ≡ drop 1 second
      → Adds a b (flat_map f (paired names (x ∷ []))) → Adds b c (flat_map f (paired second (y ∷ []))) → Adds c d (flat_map f (paired third (z ∷ [])))
      → Adds a d (flat_map f (paired names (x ∷ y ∷ z ∷ [])))
  adds_three a b c d names second third x y z e g u v w =
      let v1 = subst (λ (ns : List (List ℕ)). Adds b c (flat_map f (paired ns (y ∷ [])))) e v in
      let w1 = subst (λ (ns : List (List ℕ)). Adds c d (flat_map f (paired ns (z ∷ [])))) (g ∙ ap (drop 1) e) w in
      subst (λ (es : List Edit). Adds a d es) (one_by_one names x y z) (adds_then a c d _ _ (adds_then a b c _ _ u v1) w1)

  pub adds_results : (a b c d : List Planned) (given names second third : List (List ℕ)) (x y z x1 y1 z1 : Option (List ℕ)) → given ≡ names → second ≡ drop 1 given → third ≡ drop 1 second → x ≡ x1 → y ≡ y1 → z ≡ z1
      → Adds a b (flat_map f (paired given (x ∷ []))) → Adds b c (flat_map f (paired second (y ∷ []))) → Adds c d (flat_map f (paired third (z ∷ [])))
      → Adds a d (flat_map f (paired names (x1 ∷ y1 ∷ z1 ∷ [])))
  adds_results a b c d given names second third x y z x1 y1 z1 e g h ex ey ez u v w =
      let same : flat_map f (paired given (x ∷ y ∷ z ∷ [])) ≡ flat_map f (paired names (x1 ∷ y1 ∷ z1 ∷ [])) =
      ap (λ ns. flat_map f (paired ns (x ∷ y ∷ z ∷ []))) e ∙ ap (λ x. flat_map f (paired names (x ∷ y ∷ z ∷ []))) ex
      ∙ ap (λ y. flat_map f (paired names (x1 ∷ y ∷ z ∷ []))) ey ∙ ap (λ z. flat_map f (paired names (x1 ∷ y1 ∷ z ∷ []))) ez in
      subst (λ (es : List Edit). Adds a d es) same (adds_three a b c d given second third x y z g h u v w)

-- ---- what an answer is

and_false : (a : Bool) → (a && false) ≡ false
and_false true = refl
and_false false = refl

pub not_text : (status : ℕ) (text : List ℕ) → ¬ IsUtf8 text → is_answer status text ≡ false
not_text status text h = ap (λ b. (is_final status && b) && nat_le (length text) 4096) (is_false (is_utf8 text) refl) ∙ ap (λ b. b && nat_le (length text) 4096) (and_false (is_final status))
  where
    is_false : (b : Bool) → is_utf8 text ≡ b → b ≡ false
    is_false true e = absurd (h (IsUtf8-from_is_utf8 text e))
    is_false false e = refl

pub is_one : (status : ℕ) (text : List ℕ) → is_final status ≡ true → length text ≤ 4096 → IsUtf8 text → is_answer status text ≡ true
is_one status text e h u =
    ap (λ b. (b && is_utf8 text) && nat_le (length text) 4096) e ∙ ap (λ b. b && nat_le (length text) 4096) (is_utf8-from_IsUtf8 text u) ∙ is_le (length text) h
  where
    is_le : (n : ℕ) → n ≤ 4096 → nat_le n 4096 ≡ true
    is_le n h = grind arith
