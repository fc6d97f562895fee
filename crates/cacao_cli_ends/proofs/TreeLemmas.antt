-- A text has a tree, or a reason for which it has none.
use Rattle.std.proofs.Common.{◌≡◌, ◌∙◌, refl, sym, ap, arith, ℕ, ◌<◌, ◌≤◌, nat_lt, Bool, true, false, Option, Some, None, Result, Ok, Err, List, [], ◌∷◌, ◌++◌, length, suc}
use Rattle.std.specs.Prelude.{◌==◌, ◌&&◌, is_none, if◌then◌else◌, option_and_then}
use Rattle.std.proofs.lemmas.Bool.{ltb-true}
use Rattle.serde_json.specs.Data.{Data}
use Rattle.cacao_json.specs.Counts.{colons, members, numbers, first_broken}
use Rattle.cacao_json.specs.Reading.{reading, tree}
use Rattle.cacao_json.specs.Refusals.{answer, if_read, if_whole}
use Rattle.cacao_json.specs.declared.error.JsonError.TheVariants as json
use Rattle.cacao_json.proofs.Readings.{members-reading, tree-from_reading}
use Rattle.cacao_cli_words.specs.Words.{Text}
use Rattle.cacao_cli_ends.specs.Ends.{End, not_readable}
use Rattle.cacao_cli_ends.specs.Files.{NamedText, item_then}
use Rattle.cacao_cli_ends.specs.Work.{tree_or_end, tree_of, trees_of}
use Rattle.cacao_cli_ends.specs.declared.reason.Reason.{Reason}
use Rattle.cacao_cli_ends.specs.declared.reason.Reason.TheVariants.{NotJson, RepeatedName, NotWhole}

pub data TreeCase (name bytes : Text) : Type 0 where
  has_tree : (root : Data) → tree bytes ≡ Some root → tree_or_end name (answer bytes) ≡ Ok root → TreeCase name bytes
  treeless : (reason : Reason) → tree bytes ≡ None → tree_or_end name (answer bytes) ≡ Err (not_readable name reason) → TreeCase name bytes

not_less : (n m : ℕ) → nat_lt n m ≡ false → m ≤ n
not_less n m e = grind arith

differs : (n m : ℕ) → m < n → (n == m) ≡ false
differs n m lt = grind arith

pub tree_case : (name bytes : Text) → TreeCase name bytes
tree_case name bytes = by_reading (reading bytes) refl
  where
    by_first : (root : Data) → Some root ≡ reading bytes → nat_lt (members root) (colons bytes) ≡ false → (o : Option ℕ) → o ≡ first_broken (numbers root) → TreeCase name bytes
    by_first root is few None first = has_tree root (tree-from_reading bytes root (sym is) same (sym first)) (ap (tree_or_end name) answers)
      where
        same : colons bytes ≡ members root
        same = omega (arith, not_less (members root) (colons bytes) few, members-reading bytes root (sym is))

        answers : answer bytes ≡ Ok root
        answers = ap (if_read (colons bytes)) (sym is) ∙ ap (λ b. if b then Err (json.RepeatedName (colons bytes) (members root)) else if_whole root (first_broken (numbers root))) few ∙ ap (if_whole root) (sym first)
    by_first root is few (Some index) first = treeless (NotWhole index) none (ap (tree_or_end name) answers)
      where
        answers : answer bytes ≡ Err (json.NotWhole index)
        answers = ap (if_read (colons bytes)) (sym is) ∙ ap (λ b. if b then Err (json.RepeatedName (colons bytes) (members root)) else if_whole root (first_broken (numbers root))) few ∙ ap (if_whole root) (sym first)

        broken : (b : Bool) → (if b && is_none (first_broken (numbers root)) then Some root else None) ≡ None
        broken true = ap (λ o. if is_none o then Some root else None) (sym first)
        broken false = refl

        none : tree bytes ≡ None
        none = ap (option_and_then (λ d. if (colons bytes == members d) && is_none (first_broken (numbers d)) then Some d else None)) (sym is) ∙ broken (colons bytes == members root)

    by_count : (root : Data) → Some root ≡ reading bytes → (b : Bool) → b ≡ nat_lt (members root) (colons bytes) → TreeCase name bytes
    by_count root is false few = by_first root is (sym few) (first_broken (numbers root)) refl
    by_count root is true many = treeless (RepeatedName (colons bytes) (members root)) none (ap (tree_or_end name) answers)
      where
        answers : answer bytes ≡ Err (json.RepeatedName (colons bytes) (members root))
        answers = ap (if_read (colons bytes)) (sym is) ∙ ap (λ b. if b then Err (json.RepeatedName (colons bytes) (members root)) else if_whole root (first_broken (numbers root))) (sym many)

        none : tree bytes ≡ None
        none = ap (option_and_then (λ d. if (colons bytes == members d) && is_none (first_broken (numbers d)) then Some d else None)) (sym is)
            ∙ ap (λ b. if b && is_none (first_broken (numbers root)) then Some root else None) (differs (colons bytes) (members root) (ltb-true (members root) (colons bytes) (sym many)))

    by_reading : (o : Option Data) → o ≡ reading bytes → TreeCase name bytes
    by_reading None is = treeless NotJson (ap (option_and_then (λ d. if (colons bytes == members d) && is_none (first_broken (numbers d)) then Some d else None)) (sym is)) (ap (λ o. tree_or_end name (if_read (colons bytes) o)) (sym is))
    by_reading (Some root) is = by_count root is (nat_lt (members root) (colons bytes)) refl

-- ---- trees one after another

pub trees-more : (xs : List NamedText) (x : NamedText) (roots : List Data) (root : Data) → trees_of xs ≡ Ok roots → tree_of x ≡ Ok root → trees_of (xs ++ x ∷ []) ≡ Ok (roots ++ root ∷ [])
trees-more [] x roots root all one = let none : roots ≡ [] = cc in ap (λ (r : Result Data End). item_then r (Ok [])) one ∙ ap (λ (rs : List Data). Ok (rs ++ root ∷ [])) (sym none)
trees-more (y ∷ xs) x roots root all one = go (tree_of y) (trees_of xs) refl (λ others e. trees-more xs x others root e one) all
  where
    go : (r : Result Data End) (rs : Result (List Data) End) → tree_of y ≡ r → ((others : List Data) → rs ≡ Ok others → trees_of (xs ++ x ∷ []) ≡ Ok (others ++ root ∷ [])) → item_then r rs ≡ Ok roots
        → item_then (tree_of y) (trees_of (xs ++ x ∷ [])) ≡ Ok (roots ++ root ∷ [])
    go (Err end) rs is rest e = absurd (cc)
    go (Ok a) (Err end) is rest e = absurd (cc)
    go (Ok a) (Ok others) is rest e = let same : roots ≡ a ∷ others = cc in
        ap (λ (r : Result Data End). item_then r (trees_of (xs ++ x ∷ []))) is ∙ ap (item_then (Ok a)) (rest others refl) ∙ ap (λ (rs : List Data). Ok (rs ++ root ∷ [])) (sym same)

pub trees-stopped : (xs : List NamedText) (x : NamedText) (ys : List NamedText) (roots : List Data) (end : End) → trees_of xs ≡ Ok roots → tree_of x ≡ Err end → trees_of (xs ++ x ∷ ys) ≡ Err end
trees-stopped [] x ys roots end all one = ap (λ (r : Result Data End). item_then r (trees_of ys)) one
trees-stopped (y ∷ xs) x ys roots end all one = go (tree_of y) (trees_of xs) refl (λ others e. trees-stopped xs x ys others end e one) all
  where
    go : (r : Result Data End) (rs : Result (List Data) End) → tree_of y ≡ r → ((others : List Data) → rs ≡ Ok others → trees_of (xs ++ x ∷ ys) ≡ Err end) → item_then r rs ≡ Ok roots → item_then (tree_of y) (trees_of (xs ++ x ∷ ys)) ≡ Err end
    go (Err stop) rs is rest e = absurd (cc)
    go (Ok a) (Err stop) is rest e = absurd (cc)
    go (Ok a) (Ok others) is rest e = ap (λ (r : Result Data End). item_then r (trees_of (xs ++ x ∷ ys))) is ∙ ap (item_then (Ok a)) (rest others refl)

pub trees-length : (xs : List NamedText) (roots : List Data) → trees_of xs ≡ Ok roots → length roots ≡ length xs
trees-length [] roots e = let none : roots ≡ [] = cc in ap length none
trees-length (x ∷ xs) roots e = go (tree_of x) (trees_of xs) (λ others f. trees-length xs others f) e
  where
    go : (r : Result Data End) (rs : Result (List Data) End) → ((others : List Data) → rs ≡ Ok others → length others ≡ length xs) → item_then r rs ≡ Ok roots → length roots ≡ suc (length xs)
    go (Err end) rs rest e = absurd (cc)
    go (Ok a) (Err end) rest e = absurd (cc)
    go (Ok a) (Ok others) rest e = let same : roots ≡ a ∷ others = cc in ap length same ∙ ap suc (rest others refl)
