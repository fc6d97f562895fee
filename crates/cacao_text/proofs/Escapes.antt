-- The table of escapes is that of the library's writer.
use Rattle.std.proofs.Common.{◌≡◌, ℕ, List, [], ◌∷◌, ◌++◌, Bool, true, false, ◌==◌, refl, sym, ap, subst, ◌∙◌}
use Rattle.std.specs.Prelude.{flat_map}
use Rattle.std.proofs.lemmas.Bool.{eqb-true}
use Rattle.json.specs.Print.{escape_byte, escape, quoted}
use Rattle.cacao_text.specs.Canon.{escaped, string_text}

-- a byte is c, or its test against c fails
by_test : (b : Bool) (c x : ℕ) (P : ℕ → Type 0) → (b ≡ true → x ≡ c) → P c → (b ≡ false → P x) → P x
by_test true c x P e here other = subst P (sym (e refl)) here
by_test false c x P e here other = other refl

pub escaped-escape_byte : (x : ℕ) → escaped x ≡ escape_byte x
unfolding escaped escape_byte
escaped-escape_byte x =
    let P : ℕ → Type 0 = λ y. escaped y ≡ escape_byte y in
    by_test (x == 34) 34 x P (eqb-true x 34) refl (λ q.
    by_test (x == 92) 92 x P (eqb-true x 92) refl (λ s.
    by_test (x == 8) 8 x P (eqb-true x 8) refl (λ b.
    by_test (x == 9) 9 x P (eqb-true x 9) refl (λ t.
    by_test (x == 10) 10 x P (eqb-true x 10) refl (λ n.
    by_test (x == 12) 12 x P (eqb-true x 12) refl (λ f.
    by_test (x == 13) 13 x P (eqb-true x 13) refl (λ r. rw (q, s, b, t, n, f, r) refl)))))))

flat_map-escaped : (s : List ℕ) → flat_map escaped s ≡ escape s
flat_map-escaped [] = refl
flat_map-escaped (x ∷ s) = ap (λ l. l ++ flat_map escaped s) (escaped-escape_byte x) ∙ ap (λ l. escape_byte x ++ l) (flat_map-escaped s)

pub string_text-quoted : (s : List ℕ) → string_text s ≡ quoted s
string_text-quoted s = ap (λ l. 34 ∷ (l ++ 34 ∷ [])) (flat_map-escaped s)
