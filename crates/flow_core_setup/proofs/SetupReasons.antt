-- Why texts give no setup, from what each part of reading told.
use Rattle.std.proofs.Common.{◌≡◌, ◌∙◌, refl, sym, ap, subst, arith, ℕ, zero, suc, ◌+◌, ◌<◌, List, [], ◌∷◌, ◌++◌, length, map, take, get_or, Option, Some, Err}
use Rattle.std.specs.Prelude.{IfSome, IsSome, slice_get}
use Rattle.std.proofs.lemmas.List.{length-map}
use Rattle.std.proofs.lemmas.Option.{slice_get_read}
use Rattle.serde_json.specs.Data.{Data}
use Rattle.cacao_json.specs.Reading.{tree}
use Rattle.cacao_json.specs.Refusals.{answer}
use Rattle.cacao_json.specs.declared.error.JsonError.{JsonError}
use Rattle.cacao_book.specs.declared.books.Book.{Book}
use Rattle.cacao_book.specs.Books.{book}
use Rattle.cacao_check.specs.declared.breaks.CheckError.{CheckError}
use Rattle.cacao_check.specs.declared.breaks.CheckError.TheVariants as check_error
use Rattle.cacao_check.specs.declared.breaks.Mode.TheVariants.{Run}
use Rattle.cacao_check.specs.FirstBreak.{RefusesTrees as RefusesJudged}
use Rattle.cacao_vars.specs.declared.declarations.Var.{Var}
use Rattle.cacao_check.specs.Fits.{FitsKind}
use Rattle.flow_core_rules.specs.Bindings.{bindings_of, BindRule, b1, b2, b3, B1, B2, B3, KeepsBind, bind_number}
use Rattle.flow_core_rules.specs.Accepted.{first_variables}
use Rattle.flow_core_setup.specs.declared.setup_errors.SetupError.{SetupError}
use Rattle.flow_core_setup.specs.declared.setup_errors.SetupError.TheVariants as setup_error
use Rattle.flow_core_setup.specs.Setups.{AreAccepted}
use Rattle.flow_core_setup.specs.SetupReading.{IsFirstUnreadable, AreTreesOf, RefusesTexts, RefusesText, RefusesBooks, RefusesBindText, RefusesTrees, RefusesBindings, RefusesRule, IsLeastBindBreak}

-- ---- places in lists of texts

get_before : {X : Type 0} (xs ys : List X) (n : ℕ) → n < length xs → slice_get (xs ++ ys) n ≡ slice_get xs n
get_before [] ys n lt = absurd (omega arith)
get_before (x ∷ xs) ys zero lt = refl
get_before (x ∷ xs) ys (suc n) lt = get_before xs ys n (omega arith)

get_behind : {X : Type 0} (xs : List X) (y : X) → slice_get (xs ++ y ∷ []) (length xs) ≡ Some y
get_behind [] y = refl
get_behind (x ∷ xs) y = get_behind xs y

-- the texts before a place have trees
HaveTrees : List (List ℕ) → ℕ → Type 0
HaveTrees texts n = (k : ℕ) → k < n → IfSome (slice_get texts k) (λ before. IsSome (tree before))

have_all : (texts : List (List ℕ)) (trees : List Data) → AreTreesOf texts trees → (k : ℕ) → IfSome (slice_get texts k) (λ before. IsSome (tree before))
have_all [] trees e k = tt
have_all (text ∷ texts) [] e k = absurd (cc)
have_all (text ∷ texts) (t ∷ trees) e zero = let here : tree text ≡ Some t = cc in subst (λ (o : Option Data). IsSome o) (sym here) refl
have_all (text ∷ texts) (t ∷ trees) e (suc k) = have_all texts trees (let rest : map tree texts ≡ map (λ t. Some t) trees = cc in rest) k

have_first : (texts : List (List ℕ)) (n : ℕ) (trees : List Data) → AreTreesOf (take n texts) trees → HaveTrees texts n
unfolding HaveTrees
have_first texts zero trees e k lt = absurd (omega arith)
have_first [] (suc n) trees e k lt = tt
have_first (text ∷ texts) (suc n) [] e k lt = absurd (cc)
have_first (text ∷ texts) (suc n) (t ∷ trees) e zero lt = let here : tree text ≡ Some t = cc in subst (λ (o : Option Data). IsSome o) (sym here) refl
have_first (text ∷ texts) (suc n) (t ∷ trees) e (suc k) lt = have_first texts n trees (let rest : map tree (take n texts) ≡ map (λ t. Some t) trees = cc in rest) k (omega arith)

pub count_trees : (texts : List (List ℕ)) (trees : List Data) → AreTreesOf texts trees → length trees ≡ length texts
count_trees texts trees e = sym (length-map trees (λ t. Some t)) ∙ sym (ap length e) ∙ length-map texts tree

-- ---- the loop over texts

pub refused_at : (texts : List (List ℕ)) (n : ℕ) (text : List ℕ) (trees : List Data) (error : SetupError) → n < length texts → text ≡ get_or texts n text → AreTreesOf (take n texts) trees → RefusesText text n error → RefusesBooks texts error
unfolding HaveTrees
refused_at texts n text trees (setup_error.Unreadable file error) lt at done h = record {
  text = text;
  text_is = ap (slice_get texts) h.0 ∙ slice_get_read texts (length texts) n text refl lt at;
  refused = h.1;
  earlier = λ k below. have_first texts n trees done k (subst (λ m. k < m) h.0 below);
}
refused_at texts n text trees (setup_error.Broken told) lt at done h = h
refused_at texts n text trees (setup_error.Bind rule) lt at done h = h
refused_at texts n text trees setup_error.Memory lt at done h = tt

-- ---- the whole

unreadable_bind : (texts : List (List ℕ)) (b : ℕ) (bytes : List ℕ) (trees : List Data) (file : ℕ) (error : JsonError) → AreTreesOf texts trees → file ≡ length texts → answer (b ∷ bytes) ≡ Err error
    → IsFirstUnreadable (texts ++ (b ∷ bytes) ∷ []) file error
unreadable_bind texts b bytes trees file error are is refused = record {
  text = b ∷ bytes;
  text_is = ap (slice_get (texts ++ (b ∷ bytes) ∷ [])) is ∙ get_behind texts (b ∷ bytes);
  refused = refused;
  earlier = λ k lt. subst (λ (o : Option (List ℕ)). IfSome o (λ before. IsSome (tree before))) (sym (get_before texts ((b ∷ bytes) ∷ []) k (subst (λ n. k < n) is lt))) (have_all texts trees are k);
}

pub refused_bind : (texts : List (List ℕ)) (bind : List ℕ) (trees : List Data) (error : SetupError) → AreTreesOf texts trees → RefusesBindText bind (length texts) error → RefusesTexts texts bind error
refused_bind texts [] trees error are h = subst (RefusesTexts texts []) (sym h) tt
refused_bind texts (b ∷ bytes) trees (setup_error.Unreadable file error) are h = unreadable_bind texts b bytes trees file error are h.0 h.1
refused_bind texts (b ∷ bytes) trees (setup_error.Broken told) are h = absurd h
refused_bind texts (b ∷ bytes) trees (setup_error.Bind rule) are h = absurd h
refused_bind texts (b ∷ bytes) trees setup_error.Memory are h = tt

pub refused_bindings : (texts : List (List ℕ)) (bind : List ℕ) (trees : List Data) (bindings : Data) (error : SetupError) → AreTreesOf texts trees → bindings_of bind ≡ Some bindings → AreAccepted trees
    → RefusesBindings (first_variables trees) bindings error → RefusesTexts texts bind error
refused_bindings texts bind trees bindings (setup_error.Unreadable file error) are is accepted h = absurd h
refused_bindings texts bind trees bindings (setup_error.Broken told) are is accepted h = absurd h
refused_bindings texts bind trees bindings (setup_error.Bind rule) are is accepted h = record { trees = trees; bindings = bindings; trees_are = are; bindings_are = is; accepted = accepted; least = h }
refused_bindings texts bind trees bindings setup_error.Memory are is accepted h = tt

pub variables_are : (trees : List Data) (books : List Book) (b : Book) → books ≡ map book trees → slice_get books 0 ≡ Some b → first_variables trees ≡ b.variables
variables_are trees books b e at = go trees (sym (ap (λ (bs : List Book). slice_get bs 0) e) ∙ at)
  where
    go : (trees : List Data) → slice_get (map book trees) 0 ≡ Some b → first_variables trees ≡ b.variables
    go [] h = absurd (cc)
    go (t ∷ trees) h = let same : book t ≡ b = cc in ap (λ (x : Book). x.variables) same

-- ---- breaks of rules of playbooks

pub rule_refused : (trees : List Data) (error : CheckError) (refusal : SetupError) → RefusesJudged trees Run error → RefusesRule error refusal → RefusesTrees trees refusal
rule_refused trees (check_error.Broken told) refusal first is = subst (RefusesTrees trees) (sym is) first
rule_refused trees check_error.Memory refusal first is = subst (RefusesTrees trees) (sym is) tt

-- ---- the rules of bindings

pub least_third : (vars : List Var) (d : Data) → B1 d → B2 vars d → ¬ B3 FitsKind vars d → IsLeastBindBreak vars d 3
least_third vars d one two three = (b3, refl, three, rest)
  where
    rest : (other : BindRule) → bind_number other < 3 → KeepsBind FitsKind vars d other
    rest b1 lt = one
    rest b2 lt = two
    rest b3 lt = absurd (omega (arith, lt))
