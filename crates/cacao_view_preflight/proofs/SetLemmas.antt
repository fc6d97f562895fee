-- Sets of names, and the lists of names that they have as these grow.
use Rattle.std.proofs.Common.{◌≡◌, ◌∙◌, refl, sym, ap, subst, ℕ, ◌+◌, ◌<◌, ◌≤◌, Bool, true, false, ◌||◌, cond, List, [], ◌∷◌, ◌++◌, length, take, map, get_or, append_assoc, append-nil}
use Rattle.std.proofs.lemmas.List.{map-append, take_more, take_all}
use Rattle.std.proofs.lemmas.Grind.{flat_map-append}
use Rattle.std.proofs.lemmas.List.Folds.{list_any-append}
use Rattle.std.specs.List.{flat_map}
use Rattle.std.specs.Str.{bytes_eq}
use Rattle.cacao_vars.specs.declared.declarations.Var.{Var}
use Rattle.cacao_view_preflight.specs.NameSets.{HasJust, holds}
use Rattle.cacao_view_preflight.specs.Warnings.{Text, is_named}
use Rattle.cacao_view_preflight.specs.declared.name_set.NameSet.{NameSet}

pub or_is : (b c : Bool) → cond b true c ≡ (b || c)
or_is true c = refl
or_is false c = refl

flip : (a b : Bool) → (a || b) ≡ (b || (a || false))
flip true true = refl
flip true false = refl
flip false true = refl
flip false false = refl

-- one name more
pub just_more : (old new : NameSet) (name : Text) (all : List Text) → HasJust old all → ((other : Text) → holds new other ≡ (bytes_eq name other || holds old other)) → HasJust new (all ++ name ∷ [])
just_more old new name all just adds other =
    adds other ∙ ap (λ b. bytes_eq name other || b) (just other) ∙ flip (bytes_eq name other) (is_named all other) ∙ sym (list_any-append (λ o. bytes_eq o other) all (name ∷ []))

-- what is made of one item more
module _ {A : Type 0} (make : A → List Text) (xs : List A) (i : ℕ) (x : A) (lt : i < length xs) (at : x ≡ get_or xs i x) (all : List Text) where
  pub made_more : all ++ flat_map make (take (i + 1) xs) ≡ (all ++ flat_map make (take i xs)) ++ make x
  made_more =
      let one : take (i + 1) xs ≡ take i xs ++ x ∷ [] = take_more xs i x lt ∙ ap (λ y. take i xs ++ y ∷ []) (sym at) in
      ap (λ l. all ++ flat_map make l) one ∙ ap (λ l. all ++ l) (flat_map-append make (take i xs) (x ∷ []))
      ∙ ap (λ l. all ++ (flat_map make (take i xs) ++ l)) (append-nil (make x)) ∙ sym (append_assoc all (flat_map make (take i xs)) (make x))

pub made_all : {A : Type 0} (make : A → List Text) (xs : List A) (i : ℕ) (all : List Text) → length xs ≤ i → all ++ flat_map make (take i xs) ≡ all ++ flat_map make xs
made_all make xs i all over = ap (λ l. all ++ flat_map make l) (take_all i xs over)

-- the names themselves
pub names_more : (xs : List Text) (i : ℕ) (x : Text) (all : List Text) → i < length xs → x ≡ get_or xs i x → all ++ take (i + 1) xs ≡ (all ++ take i xs) ++ x ∷ []
names_more xs i x all lt at =
    let one : take (i + 1) xs ≡ take i xs ++ x ∷ [] = take_more xs i x lt ∙ ap (λ y. take i xs ++ y ∷ []) (sym at) in
    ap (λ l. all ++ l) one ∙ sym (append_assoc all (take i xs) (x ∷ []))

-- the names of variables
pub vars_more : (vars : List Var) (i : ℕ) (v : Var) (all : List Text) → i < length vars → v ≡ get_or vars i v → all ++ map (λ var. var.name) (take (i + 1) vars) ≡ (all ++ map (λ var. var.name) (take i vars)) ++ v.name ∷ []
vars_more vars i v all lt at =
    let one : take (i + 1) vars ≡ take i vars ++ v ∷ [] = take_more vars i v lt ∙ ap (λ y. take i vars ++ y ∷ []) (sym at) in
    ap (λ (l : List Var). all ++ map (λ var. var.name) l) one ∙ ap (λ (l : List Text). all ++ l) (map-append (λ (var : Var). var.name) (take i vars) (v ∷ []))
    ∙ sym (append_assoc all (map (λ var. var.name) (take i vars)) (v.name ∷ []))

pub vars_all : (vars : List Var) (i : ℕ) (all : List Text) → length vars ≤ i → all ++ map (λ var. var.name) (take i vars) ≡ all ++ map (λ var. var.name) vars
vars_all vars i all over = ap (λ (l : List Var). all ++ map (λ var. var.name) l) (take_all i vars over)

-- the names of members
module _ {A D : Type 0} (f : A → Text × D) (xs : List A) (i : ℕ) where
  abbrev named : List A → List Text
  named ys = map (λ (m : Text × D). m.0) (map f ys)

  named_one : (ys : List A) (x : A) → named (ys ++ x ∷ []) ≡ named ys ++ (f x).0 ∷ []
  named_one [] x = refl
  named_one (y ∷ ys) x = ap (λ l. (f y).0 ∷ l) (named_one ys x)

  pub members_more : (x : A) (old new : NameSet) → i < length xs → x ≡ get_or xs i x → HasJust old (named (take i xs)) → ((other : Text) → holds new other ≡ (bytes_eq (f x).0 other || holds old other))
      → HasJust new (named (take (i + 1) xs))
  members_more x old new lt at just adds =
      let one : take (i + 1) xs ≡ take i xs ++ x ∷ [] = take_more xs i x lt ∙ ap (λ y. take i xs ++ y ∷ []) (sym at) in
      subst (HasJust new) (sym (ap named one ∙ named_one (take i xs) x)) (just_more old new (f x).0 (named (take i xs)) just adds)

  pub members_all : (set : NameSet) → length xs ≤ i → HasJust set (named (take i xs)) → HasJust set (named xs)
  members_all set over just = subst (HasJust set) (ap named (take_all i xs over)) just
