-- What a reader answers where one of its steps answers nothing.
use Rattle.std.proofs.Common.{◌≡◌, ◌∙◌, ℕ, zero, suc, ◌-◌, ◌<◌, List, get_or, Bool, true, false, [], ◌∷◌, cond, Option, Some, None, arith, refl, sym, ap, subst}
use Rattle.std.specs.Prelude.{codes}
use Rattle.std.specs.List.{list_all}
use Rattle.std.specs.Str.{IsUtf8, is_utf8}
use Rattle.std.proofs.lemmas.Str.{IsUtf8-from_ascii, is_utf8-from_IsUtf8, IsUtf8-from_is_utf8}
use Rattle.cacao_vars.specs.Names.{IsName, is_name_character}
use Rattle.cacao_vars.proofs.ReferenceLemmas.{name_characters}
use Rattle.cacao_cond.specs.declared.errors.CondError.{CondError}
use Rattle.cacao_cond.specs.declared.errors.CondError.TheVariants.{Grammar, Memory}
use Rattle.cacao_cond.specs.declared.trees.Constant.{Constant}
use Rattle.cacao_cond.specs.declared.trees.Constant.TheVariants.{Text}
use Rattle.cacao_cond.specs.Reading.{Fails, begins, text_of, named_at, behind, skipped, constant_at, constants_at, prime_at}
use Rattle.cacao_cond.proofs.Steps.{both}

-- an error is passed on
pub err_through : {Y W : Type 0} (e : CondError) (inner : Option Y) (outer : Option W) → Fails e inner → (inner ≡ None → outer ≡ None) → Fails e outer
err_through Grammar inner outer g f = f g
err_through Memory inner outer g f = tt

-- what begins with no parenthesis is a comparison
pub prime_named : (n : ℕ) (text : List ℕ) → (n ≡ 0 → ⊥) → begins 40 text ≡ false → prime_at n text ≡ named_at (n - 1) text
prime_named zero text h b = absurd (h refl)
prime_named (suc n) text h b =
    let less : suc n - 1 ≡ n = omega arith in
    rw b (ap (λ k. named_at k text) (sym less))

-- characters that are a text, and others
pub text_yes : (items rest word : List ℕ) → word ≡ items → IsUtf8 word → text_of (items, rest) ≡ Some (Text word, rest)
text_yes items rest word e h =
    let yes : is_utf8 items ≡ true = subst (λ t. is_utf8 t ≡ true) e (is_utf8-from_IsUtf8 word h) in rw yes (cc e)

text_no_at : (b : Bool) (word rest : List ℕ) → (b ≡ true → ⊥) → cond {A = Option (Constant × List ℕ)} b (Some (Text word, rest)) None ≡ None
text_no_at true word rest h = absurd (h refl)
text_no_at false word rest h = refl

pub text_no : (items rest : List ℕ) → (IsUtf8 items → ⊥) → text_of (items, rest) ≡ None
text_no items rest h = text_no_at (is_utf8 items) items rest (λ e. h (IsUtf8-from_is_utf8 items e))

pub constants_none : (n : ℕ) (text left more : List ℕ) (first : Constant) → (n ≡ 0 → ⊥) → constant_at text ≡ Some (first, left)
    → Some more ≡ behind (codes ",") (skipped left) → constants_at (n - 1) (skipped more) ≡ None → constants_at n text ≡ None
constants_none zero text left more first h a b e = absurd (h refl)
constants_none (suc n) text left more first h a b e =
    let less : suc n - 1 ≡ n = omega arith in
    let inner : constants_at n (skipped more) ≡ None = ap (λ k. constants_at k (skipped more)) (sym less) ∙ e in
    rw a (rw (← b) (rw inner refl))

below_128 : (c : ℕ) → is_name_character c ≡ true → c < 128
below_128 c e = grind arith

ascii_at : (text : List ℕ) → list_all is_name_character text ≡ true → (i : ℕ) → get_or text i 0 < 128
ascii_at [] e i = omega arith
ascii_at (c ∷ cs) e zero = below_128 c (both (is_name_character c) (list_all is_name_character cs) e).0
ascii_at (c ∷ cs) e (suc i) = ascii_at cs (both (is_name_character c) (list_all is_name_character cs) e).1 i

-- a name is a text
pub name_is_text : (name : List ℕ) → IsName name → IsUtf8 name
name_is_text name n = IsUtf8-from_ascii name (ascii_at name (name_characters name n))
