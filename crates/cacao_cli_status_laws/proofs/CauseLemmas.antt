-- The status that the files call for, and its cause in words.
use Rattle.std.proofs.Common.{◌≡◌, ◌⊎◌, inl, inr, ◌∙◌, refl, sym, ap, subst, arith, ℕ, ◌≤◌, ◌<◌, nat_le, Bool, true, false, List, [], ◌∷◌, length, Option, Some, None, Result, Ok, Err}
use Rattle.std.specs.Prelude.{IsSomeAnd, if◌then◌else◌}
use Rattle.serde_json.specs.Data.{Data}
use Rattle.cacao_json.specs.Reading.{tree}
use Rattle.cacao_site.specs.View.{SiteView}
use Rattle.cacao_cli_words.specs.Words.{Text}
use Rattle.cacao_cli_ends.specs.Ends.{End, most, no_such_file, past, not_readable}
use Rattle.cacao_cli_ends.specs.Files.{File, Files, NamedText, whole, too_long, named, text_in, item_then, content_in, reading}
use Rattle.cacao_cli_ends.specs.Work.{Work, ends, or_end, trees_of}
use Rattle.cacao_cli_ends.specs.Comes.{IsOneOf, ComesExactly}
use Rattle.cacao_cli_ends.specs.FileCauses.{IsWithin, AllWithin, First, IsMissing, IsTooLong, Trees, SomeTreeless}
use Rattle.cacao_cli_ends.specs.declared.limit.Limit.{Limit}
use Rattle.cacao_cli_ends.specs.declared.reason.Reason.{Reason}
use Rattle.cacao_cli_status_laws.proofs.ExactLemmas.{Comes}
use Rattle.cacao_cli_ends.proofs.ReadLemmas.{Read}
use Rattle.cacao_cli_ends.proofs.TreeCases.{Roots, Treeless, TreesCase, all_trees, one_treeless, trees_case}

-- ---- what the files hold

-- each file is there within its limit, and this is its text
abbrev pub Texts : Files → List File → List NamedText → Type 0
Texts files [] [] = Unit {0}
Texts files [] (text ∷ texts) = ⊥
Texts files (file ∷ more) [] = ⊥
Texts files (file ∷ more) (text ∷ texts) = (IsWithin files file × (files file.name ≡ Some text.bytes)) × Texts files more texts

pub data ReadingCase (files : Files) (list : List File) : Type 0 where
  all_within : (texts : List NamedText) → Texts files list texts → reading files list ≡ Ok texts → ReadingCase files list
  one_missing : (name : Text) → IsMissing files list → reading files list ≡ Err (no_such_file name) → ReadingCase files list
  one_long : (limit : Limit) → IsTooLong files list → reading files list ≡ Err (past limit) → ReadingCase files list

le-true : (n m : ℕ) → true ≡ nat_le n m → n ≤ m
le-true n m e = grind arith

le-false : (n m : ℕ) → false ≡ nat_le n m → m < n
le-false n m e = grind arith

pub reading_case : (files : Files) (list : List File) → ReadingCase files list
reading_case files [] = all_within [] tt refl
reading_case files (file ∷ more) = go (files file.name) refl (reading_case files more)
  where
    go : (o : Option Text) → o ≡ files file.name → ReadingCase files more → ReadingCase files (file ∷ more)
    go None is rest = one_missing file.name (inl (sym is)) (ap (λ (o : Option Text). item_then (text_in file (content_in file.limit o)) (reading files more)) (sym is))
    go (Some bytes) is rest = by (nat_le (length bytes) (most file.limit)) refl rest
      where
        at : (b : Bool) → b ≡ nat_le (length bytes) (most file.limit) → reading files (file ∷ more) ≡ item_then (text_in file (if b then whole bytes else too_long)) (reading files more)
        at b le = ap (λ (o : Option Text). item_then (text_in file (content_in file.limit o)) (reading files more)) (sym is) ∙ ap (λ (b : Bool). item_then (text_in file (if b then whole bytes else too_long)) (reading files more)) (sym le)

        by : (b : Bool) → b ≡ nat_le (length bytes) (most file.limit) → ReadingCase files more → ReadingCase files (file ∷ more)
        by false le rest = one_long file.limit (inl (subst (λ (o : Option Text). IsSomeAnd o (λ c. most file.limit < length c)) is (le-false (length bytes) (most file.limit) le))) (at false le)
        by true le (all_within texts t e) = all_within (named file.name bytes ∷ texts) ((within, sym is), t) (at true le ∙ ap (item_then (Ok (named file.name bytes))) e)
          where
            within : IsWithin files file
            within = subst (λ (o : Option Text). IsSomeAnd o (λ c. length c ≤ most file.limit)) is (le-true (length bytes) (most file.limit) le)
        by true le (one_missing name m e) = one_missing name (inr (within, m)) (at true le ∙ ap (item_then (Ok (named file.name bytes))) e)
          where
            within : IsWithin files file
            within = subst (λ (o : Option Text). IsSomeAnd o (λ c. length c ≤ most file.limit)) is (le-true (length bytes) (most file.limit) le)
        by true le (one_long limit m e) = one_long limit (inr (within, m)) (at true le ∙ ap (item_then (Ok (named file.name bytes))) e)
          where
            within : IsWithin files file
            within = subst (λ (o : Option Text). IsSomeAnd o (λ c. length c ≤ most file.limit)) is (le-true (length bytes) (most file.limit) le)

trees-roots : (files : Files) (list : List File) (texts : List NamedText) (roots : List Data) → Texts files list texts → Roots texts roots → Trees files list roots
trees-roots files [] [] [] t r = tt
trees-roots files [] [] (root ∷ roots) t r = absurd r
trees-roots files [] (text ∷ texts) roots t r = absurd t
trees-roots files (file ∷ more) [] roots t r = absurd t
trees-roots files (file ∷ more) (text ∷ texts) [] t r = absurd r
trees-roots files (file ∷ more) (text ∷ texts) (root ∷ roots) t r = ((t.0.0, subst (λ (o : Option Text). IsSomeAnd o (λ bytes. tree bytes ≡ Some root)) (sym t.0.1) r.0), trees-roots files more texts roots t.1 r.1)

treeless-some : (files : Files) (list : List File) (texts : List NamedText) → Texts files list texts → Treeless texts → SomeTreeless files list
treeless-some files [] [] t r = absurd r
treeless-some files [] (text ∷ texts) t r = absurd t
treeless-some files (file ∷ more) [] t r = absurd t
treeless-some files (file ∷ more) (text ∷ texts) t (inl none) = inl (subst (λ (o : Option Text). IsSomeAnd o (λ bytes. tree bytes ≡ None)) (sym t.0.1) none)
treeless-some files (file ∷ more) (text ∷ texts) t (inr r) = inr (treeless-some files more texts t.1 r)

pub texts-within : (files : Files) (list : List File) (texts : List NamedText) → Texts files list texts → AllWithin files list
texts-within files [] [] t = tt
texts-within files [] (text ∷ texts) t = absurd t
texts-within files (file ∷ more) [] t = absurd t
texts-within files (file ∷ more) (text ∷ texts) t = (t.0.0, texts-within files more texts t.1)

-- ---- the status of a command that reads trees and then does its work with them

abbrev pub tree_work : Files → List File → (List Data → Work) → Work
tree_work files list does = or_end (reading files list) (λ texts. or_end (trees_of texts) does)

pub data TreeWork (files : Files) (list : List File) (does : List Data → Work) : Type 0 where
  is_missing : (name : Text) → IsMissing files list → tree_work files list does ≡ ends [] (no_such_file name) → TreeWork files list does
  is_too_long : (limit : Limit) → IsTooLong files list → tree_work files list does ≡ ends [] (past limit) → TreeWork files list does
  is_treeless : (name : Text) (reason : Reason) → AllWithin files list → SomeTreeless files list → tree_work files list does ≡ ends [] (not_readable name reason) → TreeWork files list does
  is_read : (roots : List Data) → Trees files list roots → tree_work files list does ≡ does roots → TreeWork files list does

pub tree_work_case : (files : Files) (list : List File) (does : List Data → Work) → TreeWork files list does
tree_work_case files list does = go (reading_case files list)
  where
    at : (r : Read) → reading files list ≡ r → tree_work files list does ≡ or_end r (λ texts. or_end (trees_of texts) does)
    at r e = ap (λ (r : Read). or_end r (λ texts. or_end (trees_of texts) does)) e

    go : ReadingCase files list → TreeWork files list does
    go (one_missing name m e) = is_missing name m (at (Err (no_such_file name)) e)
    go (one_long limit m e) = is_too_long limit m (at (Err (past limit)) e)
    go (all_within texts t e) = by (trees_case texts)
      where
        by : TreesCase texts → TreeWork files list does
        by (all_trees roots r f) = is_read roots (trees-roots files list texts roots t r) (at (Ok texts) e ∙ ap (λ (r : Result (List Data) End). or_end r does) f)
        by (one_treeless name reason r f) = is_treeless name reason (texts-within files list texts t) (treeless-some files list texts t r) (at (Ok texts) e ∙ ap (λ (r : Result (List Data) End). or_end r does) f)

-- ---- the causes exclude one another

pub some-both : (o : Option Text) (P Q : Text → Type 0) → ((bytes : Text) → P bytes → Q bytes → ⊥) → IsSomeAnd o P → IsSomeAnd o Q → ⊥
some-both None P Q h p q = p
some-both (Some bytes) P Q h p q = h bytes p q

some-none : (o : Option Text) (P : Text → Type 0) → o ≡ None → IsSomeAnd o P → ⊥
some-none None P e p = p
some-none (Some bytes) P e p = cc

pub missing-within : (files : Files) (file : File) → files file.name ≡ None → IsWithin files file → ⊥
missing-within files file none within = some-none (files file.name) (λ bytes. length bytes ≤ most file.limit) none within

pub long-within : (files : Files) (file : File) → IsSomeAnd (files file.name) (λ bytes. most file.limit < length bytes) → IsWithin files file → ⊥
long-within files file long within = some-both (files file.name) (λ bytes. most file.limit < length bytes) (λ bytes. length bytes ≤ most file.limit) (λ bytes p q. omega (arith, p, q)) long within

pub first-within : (files : Files) (P : File → Type 0) (list : List File) → ((file : File) → P file → IsWithin files file → ⊥) → First files P list → AllWithin files list → ⊥
first-within files P [] h f a = f
first-within files P (file ∷ more) h (inl p) a = h file p a.0
first-within files P (file ∷ more) h (inr f) a = first-within files P more h f.1 a.1

first-both : (files : Files) (P Q : File → Type 0) (list : List File) → ((file : File) → P file → Q file → ⊥) → ((file : File) → P file → IsWithin files file → ⊥) → ((file : File) → Q file → IsWithin files file → ⊥)
    → First files P list → First files Q list → ⊥
first-both files P Q [] both p q f g = f
first-both files P Q (file ∷ more) both p q (inl f) (inl g) = both file f g
first-both files P Q (file ∷ more) both p q (inl f) (inr g) = p file f g.0
first-both files P Q (file ∷ more) both p q (inr f) (inl g) = q file g f.0
first-both files P Q (file ∷ more) both p q (inr f) (inr g) = first-both files P Q more both p q f.1 g.1

pub missing-long : (files : Files) (list : List File) → IsMissing files list → IsTooLong files list → ⊥
missing-long files list = first-both files (λ file. files file.name ≡ None) (λ file. IsSomeAnd (files file.name) (λ bytes. most file.limit < length bytes)) list
    (λ file none long. some-none (files file.name) (λ bytes. most file.limit < length bytes) none long) (missing-within files) (long-within files)

pub trees-within : (files : Files) (list : List File) (roots : List Data) → Trees files list roots → AllWithin files list
trees-within files [] [] t = tt
trees-within files [] (root ∷ roots) t = absurd t
trees-within files (file ∷ more) [] t = absurd t
trees-within files (file ∷ more) (root ∷ roots) t = (t.0.0, trees-within files more roots t.1)

trees-treeless : (files : Files) (list : List File) (roots : List Data) → Trees files list roots → SomeTreeless files list → ⊥
trees-treeless files [] [] t s = s
trees-treeless files [] (root ∷ roots) t s = t
trees-treeless files (file ∷ more) [] t s = t
trees-treeless files (file ∷ more) (root ∷ roots) t (inl none) = some-both (files file.name) (λ bytes. tree bytes ≡ Some root) (λ bytes. tree bytes ≡ None) (λ bytes p q. cc) t.0.1 none
trees-treeless files (file ∷ more) (root ∷ roots) t (inr s) = trees-treeless files more roots t.1 s

some-same : (o : Option Text) (a b : Data) → IsSomeAnd o (λ bytes. tree bytes ≡ Some a) → IsSomeAnd o (λ bytes. tree bytes ≡ Some b) → a ≡ b
some-same None a b p q = absurd p
some-same (Some bytes) a b p q = cc

pub trees-same : (files : Files) (list : List File) (roots others : List Data) → Trees files list roots → Trees files list others → roots ≡ others
trees-same files [] [] [] s t = refl
trees-same files [] [] (b ∷ others) s t = absurd t
trees-same files [] (a ∷ roots) others s t = absurd s
trees-same files (file ∷ more) [] others s t = absurd s
trees-same files (file ∷ more) (a ∷ roots) [] s t = absurd t
trees-same files (file ∷ more) (a ∷ roots) (b ∷ others) s t = ap (λ (x : Data). x ∷ roots) (some-same (files file.name) a b s.0.1 t.0.1) ∙ ap (λ (xs : List Data). b ∷ xs) (trees-same files more roots others s.1 t.1)

-- ---- both ways

-- the status of the work with the trees is 0 or 1
abbrev pub EndsByTrees : (List Data → Work) → Type 0
EndsByTrees does = (roots : List Data) (old new : SiteView) (n : ℕ) → Comes (does roots) old new n → n ≤ 1

module _ (files : Files) (list : List File) (does : List Data → Work) (so : EndsByTrees does) (old new : SiteView) (n : ℕ) where
  at : (w : Work) → tree_work files list does ≡ w → Comes (tree_work files list does) old new n → Comes w old new n
  at w is h = subst (λ (w : Work). Comes w old new n) is h

  pub missing-only : Comes (tree_work files list does) old new n → n ≡ 4 → IsMissing files list
  missing-only h e = go (tree_work_case files list does)
    where
      go : TreeWork files list does → IsMissing files list
      go (is_missing name m is) = m
      go (is_too_long limit l is) = let k : n ≡ 11 = at (ends [] (past limit)) is h in absurd (omega (arith, e, k))
      go (is_treeless name reason a s is) = let k : n ≡ 5 = at (ends [] (not_readable name reason)) is h in absurd (omega (arith, e, k))
      go (is_read roots t is) = let k = so roots old new n (at (does roots) is h) in absurd (omega (arith, e, k))

  pub missing-always : Comes (tree_work files list does) old new n → IsMissing files list → n ≡ 4
  missing-always h m = go (tree_work_case files list does)
    where
      go : TreeWork files list does → n ≡ 4
      go (is_missing name _ is) = at (ends [] (no_such_file name)) is h
      go (is_too_long limit l is) = absurd (missing-long files list m l)
      go (is_treeless name reason a s is) = absurd (first-within files (λ file. files file.name ≡ None) list (missing-within files) m a)
      go (is_read roots t is) = absurd (first-within files (λ file. files file.name ≡ None) list (missing-within files) m (trees-within files list roots t))

  pub long-only : Comes (tree_work files list does) old new n → n ≡ 11 → IsTooLong files list
  long-only h e = go (tree_work_case files list does)
    where
      go : TreeWork files list does → IsTooLong files list
      go (is_missing name m is) = let k : n ≡ 4 = at (ends [] (no_such_file name)) is h in absurd (omega (arith, e, k))
      go (is_too_long limit l is) = l
      go (is_treeless name reason a s is) = let k : n ≡ 5 = at (ends [] (not_readable name reason)) is h in absurd (omega (arith, e, k))
      go (is_read roots t is) = let k = so roots old new n (at (does roots) is h) in absurd (omega (arith, e, k))

  pub long-always : Comes (tree_work files list does) old new n → IsTooLong files list → n ≡ 11
  long-always h l = go (tree_work_case files list does)
    where
      go : TreeWork files list does → n ≡ 11
      go (is_missing name m is) = absurd (missing-long files list m l)
      go (is_too_long limit _ is) = at (ends [] (past limit)) is h
      go (is_treeless name reason a s is) = absurd (first-within files (λ file. IsSomeAnd (files file.name) (λ bytes. most file.limit < length bytes)) list (long-within files) l a)
      go (is_read roots t is) = absurd (first-within files (λ file. IsSomeAnd (files file.name) (λ bytes. most file.limit < length bytes)) list (long-within files) l (trees-within files list roots t))

  pub treeless-only : Comes (tree_work files list does) old new n → n ≡ 5 → AllWithin files list × SomeTreeless files list
  treeless-only h e = go (tree_work_case files list does)
    where
      go : TreeWork files list does → AllWithin files list × SomeTreeless files list
      go (is_missing name m is) = let k : n ≡ 4 = at (ends [] (no_such_file name)) is h in absurd (omega (arith, e, k))
      go (is_too_long limit l is) = let k : n ≡ 11 = at (ends [] (past limit)) is h in absurd (omega (arith, e, k))
      go (is_treeless name reason a s is) = (a, s)
      go (is_read roots t is) = let k = so roots old new n (at (does roots) is h) in absurd (omega (arith, e, k))

  pub treeless-always : Comes (tree_work files list does) old new n → AllWithin files list × SomeTreeless files list → n ≡ 5
  treeless-always h c = go (tree_work_case files list does)
    where
      go : TreeWork files list does → n ≡ 5
      go (is_missing name m is) = absurd (first-within files (λ file. files file.name ≡ None) list (missing-within files) m c.0)
      go (is_too_long limit l is) = absurd (first-within files (λ file. IsSomeAnd (files file.name) (λ bytes. most file.limit < length bytes)) list (long-within files) l c.0)
      go (is_treeless name reason a s is) = at (ends [] (not_readable name reason)) is h
      go (is_read roots t is) = absurd (trees-treeless files list roots t c.1)

  -- 0 and 1 come where all trees are there, by the work with them
  pub trees-only : Comes (tree_work files list does) old new n → n ≤ 1 → (roots : List Data) × Trees files list roots × Comes (does roots) old new n
  trees-only h le = go (tree_work_case files list does)
    where
      go : TreeWork files list does → (roots : List Data) × Trees files list roots × Comes (does roots) old new n
      go (is_missing name m is) = let k : n ≡ 4 = at (ends [] (no_such_file name)) is h in absurd (omega (arith, le, k))
      go (is_too_long limit l is) = let k : n ≡ 11 = at (ends [] (past limit)) is h in absurd (omega (arith, le, k))
      go (is_treeless name reason a s is) = let k : n ≡ 5 = at (ends [] (not_readable name reason)) is h in absurd (omega (arith, le, k))
      go (is_read roots t is) = (roots, t, at (does roots) is h)

  pub trees-always : Comes (tree_work files list does) old new n → (roots : List Data) → Trees files list roots → Comes (does roots) old new n
  trees-always h roots t = go (tree_work_case files list does)
    where
      go : TreeWork files list does → Comes (does roots) old new n
      go (is_missing name m is) = absurd (first-within files (λ file. files file.name ≡ None) list (missing-within files) m (trees-within files list roots t))
      go (is_too_long limit l is) = absurd (first-within files (λ file. IsSomeAnd (files file.name) (λ bytes. most file.limit < length bytes)) list (long-within files) l (trees-within files list roots t))
      go (is_treeless name reason a s is) = absurd (trees-treeless files list roots t s)
      go (is_read others u is) = subst (λ (rs : List Data). Comes (does rs) old new n) (trees-same files list others roots u t) (at (does others) is h)

-- the work ends with no other status
pub trees-few : (files : Files) (list : List File) (does : List Data → Work) (so : EndsByTrees does) (old new : SiteView) (n : ℕ) → Comes (tree_work files list does) old new n → n ≤ 11
trees-few files list does so old new n h = go (tree_work_case files list does)
  where
    at : (w : Work) → tree_work files list does ≡ w → Comes w old new n
    at w is = subst (λ (w : Work). Comes w old new n) is h

    go : TreeWork files list does → n ≤ 11
    go (is_missing name m is) = let k : n ≡ 4 = at (ends [] (no_such_file name)) is in omega (arith, k)
    go (is_too_long limit l is) = let k : n ≡ 11 = at (ends [] (past limit)) is in omega (arith, k)
    go (is_treeless name reason a s is) = let k : n ≡ 5 = at (ends [] (not_readable name reason)) is in omega (arith, k)
    go (is_read roots t is) = let k = so roots old new n (at (does roots) is) in omega (arith, k)

-- ---- a clause on one status

pub comes : (n : ℕ) (faults : List ℕ) (Has : Type 0) (cause : Type 0) (answer : ℕ) → (Has → answer ≡ n → cause) → (Has → cause → answer ≡ n) → (IsOneOf n faults → ⊥) → Has ⊎ IsOneOf answer faults → ComesExactly n faults cause answer
comes n faults Has cause answer to from apart h = record { only = only h; always = always h }
  where
    only : Has ⊎ IsOneOf answer faults → answer ≡ n → cause
    only (inl has) e = to has e
    only (inr f) e = absurd (apart (subst (λ (m : ℕ). IsOneOf m faults) e f))

    always : Has ⊎ IsOneOf answer faults → cause → IsOneOf answer (n ∷ faults)
    always (inl has) c = inl (from has c)
    always (inr f) c = inr f

-- the same of a status that others than faults may replace
pub comes-in : (n : ℕ) (faults stands : List ℕ) (Has : Type 0) (cause : Type 0) (answer : ℕ) → (Has → answer ≡ n → cause) → (Has → cause → IsOneOf answer (n ∷ stands)) → (IsOneOf n faults → ⊥)
    → (IsOneOf answer faults → IsOneOf answer stands) → Has ⊎ IsOneOf answer faults → ComesExactly n stands cause answer
comes-in n faults stands Has cause answer to from apart with h = record { only = only h; always = always h }
  where
    only : Has ⊎ IsOneOf answer faults → answer ≡ n → cause
    only (inl has) e = to has e
    only (inr f) e = absurd (apart (subst (λ (m : ℕ). IsOneOf m faults) e f))

    always : Has ⊎ IsOneOf answer faults → cause → IsOneOf answer (n ∷ stands)
    always (inl has) c = from has c
    always (inr f) c = inr (with f)

-- ---- files that are all there

pub first-missing : (files : Files) (list : List File) → IsMissing files list → AllWithin files list → ⊥
first-missing files list = first-within files (λ file. files file.name ≡ None) list (missing-within files)

pub first-long : (files : Files) (list : List File) → IsTooLong files list → AllWithin files list → ⊥
first-long files list = first-within files (λ file. IsSomeAnd (files file.name) (λ bytes. most file.limit < length bytes)) list (long-within files)
