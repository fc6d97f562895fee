-- What a session of a rehearsal is given.
use Rattle.std.proofs.Common.{◌≡◌, ℕ, zero, suc, List, [], ◌∷◌, Bool, true, false, Option, Some, None, Ok, Err, Result, nat_lt, refl, sym, subst, ap, ◌∙◌, arith}
use Rattle.std.specs.Prelude.{IsSome, if◌then◌else◌}
use Rattle.std.proofs.lemmas.Bool.{ltb-true}
use Rattle.std.proofs.lemmas.Option.{same_Some}
use Rattle.serde_json.specs.Data.{Data, object, no_members}
use Rattle.cacao_json.specs.Counts.{colons, members, numbers, first_broken}
use Rattle.cacao_json.specs.Reading.{tree}
use Rattle.cacao_json.specs.Refusals.{answer, if_read, if_whole}
use Rattle.cacao_json.specs.declared.error.JsonError.{JsonError}
use Rattle.cacao_json.specs.declared.error.JsonError.TheVariants.{RepeatedName}
use Rattle.cacao_json.proofs.Readings.{HasTree-from_tree}
use Rattle.cacao_vars.specs.declared.declarations.Var.{Var}
use Rattle.cacao_check.specs.Fits.{FitsKind}
use Rattle.flow_core_rules.specs.Accepted.{first_variables}
use Rattle.flow_core_rules.specs.Bindings.{BindRule, b1, b2, b3, KeepsBind}
use Rattle.flow_core.specs.SetupReading.{BreaksBindRule, IsFirstUnreadable, IsLeastBindBreak, RefusesTexts}
use Rattle.flow_core_setup.specs.declared.setup_errors.SetupError.{SetupError}
use Rattle.flow_core_setup.specs.declared.setup_errors.SetupError.TheVariants as setup_error
use Rattle.flow_engine_answers.specs.Answers.{Answers, IsFirstBadLine}
use Rattle.flow_engine_answers.specs.declared.answers.OperatorAnswer.{OperatorAnswer}
use Rattle.flow_engine_answers.proofs.AnswerLawLemmas.{answers_are_one, bad_lines_tell_nothing}

-- ---- answers

nothing_told : (run : ℕ) → Answers [] run []
nothing_told run = record {
  lines = [];
  told = [];
  is = refl;
  are = record { many = refl; whole = λ k x lt. absurd (omega (arith, lt)); each = λ n line it there. absurd (cc) };
  answers_are = refl;
}

pub none_told : (run : ℕ) (answers : List OperatorAnswer) → Answers [] run answers → answers ≡ []
none_told run answers told = answers_are_one [] run answers [] told (nothing_told run)

pub no_bad_line : (number : ℕ) → IsFirstBadLine [] number → ⊥
no_bad_line number bad = bad_lines_tell_nothing [] 1 number [] bad (nothing_told 1)

-- ---- texts

chosen : (b : Bool) (x y : Result Data JsonError) → (b ≡ true → ⊥) → (if b then x else y) ≡ y
chosen true x y h = absurd (h refl)
chosen false x y h = refl

-- a text with a tree is answered by it
answers_tree : (bytes : List ℕ) (d : Data) → tree bytes ≡ Some d → answer bytes ≡ Ok d
answers_tree bytes d e =
    let k = HasTree-from_tree bytes d e in
    ap (λ (o : Option Data). if_read (colons bytes) o) k.reads
    ∙ chosen (nat_lt (members d) (colons bytes)) (Err (RepeatedName (colons bytes) (members d))) (if_whole d (first_broken (numbers d)))
    (λ t. let lt = ltb-true _ _ t in let same = k.same in omega (arith, lt, same))
    ∙ ap (λ (o : Option ℕ). if_whole d o) k.whole

some_of : {T : Type 0} (o : Option T) → IsSome o → (x : T) × (o ≡ Some x)
some_of None is = absurd (cc)
some_of (Some x) is = (x, refl)

is_readable : (text : List ℕ) (file : ℕ) (error : JsonError) → IsSome (tree text) → IsFirstUnreadable (text ∷ []) file error → ⊥
is_readable text zero error has is =
    let found = some_of (tree text) has in
    let same : text ≡ is.text = same_Some text is.text is.text_is in
    let clash : Ok found.0 ≡ Err error = sym (answers_tree text found.0 found.1) ∙ ap answer same ∙ is.refused in
    cc
is_readable text (suc n) error has is = let none : None ≡ Some is.text = is.text_is in cc

pub not_unreadable : (text bind : List ℕ) (file : ℕ) (error : JsonError) (why : SetupError) → bind ≡ [] → why ≡ setup_error.Unreadable file error → IsSome (tree text)
    → RefusesTexts (text ∷ []) bind why → ⊥
not_unreadable text bind file error why none is has told =
    is_readable text file error has
    (subst (λ (w : SetupError). RefusesTexts (text ∷ []) [] w) is (subst (λ (b : List ℕ). RefusesTexts (text ∷ []) b why) none told))

-- ---- bindings

no_bindings : (vars : List Var) (rule : BindRule) → KeepsBind FitsKind vars (object no_members) rule
no_bindings vars b1 = ((λ k x lt. absurd (omega (arith, lt))), tt, tt)
no_bindings vars b2 = λ k x lt. absurd (omega (arith, lt))
no_bindings vars b3 = λ k x lt. absurd (omega (arith, lt))

no_break : (texts : List (List ℕ)) (rule : ℕ) → BreaksBindRule texts [] rule → ⊥
no_break texts rule is =
    let same : object no_members ≡ is.bindings = same_Some (object no_members) is.bindings is.bindings_are in
    let least = subst (λ (d : Data). IsLeastBindBreak (first_variables is.trees) d rule) (sym same) is.least in
    least.2 (no_bindings (first_variables is.trees) least.0)

pub not_bind : (text bind : List ℕ) (rule : ℕ) (why : SetupError) → bind ≡ [] → why ≡ setup_error.Bind rule → RefusesTexts (text ∷ []) bind why → ⊥
not_bind text bind rule why none is told =
    no_break (text ∷ []) rule
    (subst (λ (w : SetupError). RefusesTexts (text ∷ []) [] w) is (subst (λ (b : List ℕ). RefusesTexts (text ∷ []) b why) none told))
