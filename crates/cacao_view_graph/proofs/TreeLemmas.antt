-- The trees of texts that are accepted.
use Rattle.std.proofs.Common.{◌≡◌, ◌∙◌, ℕ, ◌+◌, ◌<◌, ◌≤◌, List, [], ◌∷◌, ◌++◌, length, get_or, take, map, All, Option, Some, None, IsSome, IfSome, is_some, option_map, slice_get, refl, sym, ap, ap₂, subst, arith, true≢false}
use Rattle.std.proofs.lemmas.List.{length-map, map_more, map-append}
use Rattle.std.proofs.lemmas.List.Elements.{All-cons, All-nil}
use Rattle.serde_json.specs.Data.{Data}
use Rattle.cacao_book_shape.specs.Shape.{IsWellShaped, KeepsShape, ShapeDemand}
use Rattle.cacao_check.specs.FirstBreak.{AreWellShaped, IsAccepted, of_shape}
use Rattle.cacao_check.specs.declared.breaks.Mode.{Mode}
use Rattle.cacao_check.specs.declared.breaks.Mode.TheVariants.{Run}
use Rattle.cacao_json.specs.Reading.{tree}
use Rattle.cacao_json.specs.Tree.{data_of}
use Rattle.cacao_json.specs.declared.tree.Tree.{Tree}
use Rattle.flow_core_rules.specs.Givens.{Given}
use Rattle.flow_core.specs.Setups.{IsSetup}

some_is : (a b : Data) → Some a ≡ Some b → a ≡ b
some_is a b e = cc

pub heads : {A : Type 0} (x y : A) (xs ys : List A) → x ∷ xs ≡ y ∷ ys → (x ≡ y) × (xs ≡ ys)
heads x y xs ys e = (cc, cc)

-- ---- one tree

pub no_tree : (o : Option Tree) (p : Option Data) → IsSome p → option_map data_of o ≡ p → o ≡ None → ⊥
no_tree o p some e none = true≢false (sym some ∙ ap is_some (sym e ∙ ap (λ (q : Option Tree). option_map data_of q) none))

abbrev pub read_as : Tree → Option Data
read_as t = Some (data_of t)

-- one tree more was read
pub read_more : (texts : List (List ℕ)) (i : ℕ) (text : List ℕ) (old new : List Tree) (t : Tree) → i < length texts → text ≡ get_or texts i text → new ≡ old ++ t ∷ [] → Some (data_of t) ≡ tree text
    → map (λ (t : Tree). Some (data_of t)) old ≡ map tree (take i texts) → map (λ (t : Tree). Some (data_of t)) new ≡ map tree (take (i + 1) texts)
read_more texts i text old new t lt at is reads before =
    ap (map read_as) is ∙ map-append read_as old (t ∷ []) ∙ ap (λ l. l ++ Some (data_of t) ∷ []) before
    ∙ ap (λ o. map tree (take i texts) ++ o ∷ []) (reads ∙ ap tree at) ∙ sym (map_more tree texts i text lt)

-- ---- all trees

-- each text has a tree
pub have_trees : (texts : List (List ℕ)) (trees : List Data) → map tree texts ≡ map (λ t. Some t) trees → All (λ text. IsSome (tree text)) texts
have_trees [] trees e = All-nil (λ text. IsSome (tree text))
have_trees (text ∷ texts) [] e = absurd (cc)
have_trees (text ∷ texts) (t ∷ trees) e =
    let h : (tree text ≡ Some t) × (map tree texts ≡ map (λ t. Some t) trees) = heads (tree text) (Some t) (map tree texts) (map (λ t. Some t) trees) e in
    All-cons (λ text. IsSome (tree text)) text texts (subst (λ (o : Option Data). IsSome o) (sym h.0) refl) (have_trees texts trees h.1)

-- the trees that were read are those that are accepted
same_trees : (read : List Tree) (trees : List Data) → map read_as read ≡ map (λ t. Some t) trees → map data_of read ≡ trees
same_trees [] [] e = refl
same_trees [] (t ∷ trees) e = absurd (cc)
same_trees (r ∷ read) [] e = absurd (cc)
same_trees (r ∷ read) (t ∷ trees) e =
    let h : (read_as r ≡ Some t) × (map read_as read ≡ map (λ t. Some t) trees) = heads (read_as r) (Some t) (map read_as read) (map (λ t. Some t) trees) e in
    ap₂ (λ (x : Data) (xs : List Data). x ∷ xs) (some_is (data_of r) t h.0) (same_trees read trees h.1)

well_shaped : (o : Option Data) → ((demand : ShapeDemand) → IfSome o (λ t. KeepsShape t demand)) → IfSome o IsWellShaped
well_shaped None h = tt
well_shaped (Some t) h = h

-- playbooks that are accepted break no rule of shape
shaped : (trees : List Data) (mode : Mode) → IsAccepted trees mode → AreWellShaped trees
shaped trees mode kept n = well_shaped (slice_get trees n) (λ demand. kept (of_shape n demand))

-- ---- what was read of the texts that a run was given

pub are_accepted : (given : Given) (setup : IsSetup given) (texts : List (List ℕ)) (read taken : List Tree) → texts ≡ given.texts → map (λ (t : Tree). Some (data_of t)) read ≡ map tree texts → taken ≡ read
    → map data_of taken ≡ setup.accepted.trees
are_accepted given setup texts read taken same reads is =
    ap (map data_of) is ∙ same_trees read setup.accepted.trees (reads ∙ ap (map tree) same ∙ setup.accepted.trees_are)

pub few_trees : (given : Given) (setup : IsSetup given) (taken : List Tree) → map data_of taken ≡ setup.accepted.trees → length taken ≤ 16
few_trees given setup taken same =
    let count : length taken ≡ length setup.accepted.trees = sym (length-map taken data_of) ∙ ap length same in
    omega (arith, count, setup.accepted.few)

pub are_shaped : (given : Given) (setup : IsSetup given) (taken : List Tree) → map data_of taken ≡ setup.accepted.trees → AreWellShaped (map data_of taken)
are_shaped given setup taken same = subst AreWellShaped (sym same) (shaped setup.accepted.trees Run setup.accepted.accepted.1)
