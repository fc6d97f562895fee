-- A member that is changed, if it is there; and a value that has none.
use Rattle.std.proofs.Common.{◌≡◌, ◌∙◌, refl, ap, ℕ, Bool, true, false, not, cond, ◌||◌, List, [], ◌∷◌, map, Option, Some, None}
use Rattle.std.specs.Prelude.{filter, if◌then◌else◌}
use Rattle.std.specs.List.{list_any}
use Rattle.std.specs.Option.{option_map_or}
use Rattle.serde_json.specs.Data.{Data, Items, Members, item, put}
use Rattle.serde_json.specs.Find.{get_member}
use Rattle.cacao_json.specs.Tree.{data_of, items_of, without}
use Rattle.cacao_json.specs.declared.tree.Tree.{Tree}
use Rattle.cacao_json.specs.declared.tree.Tree.TheVariants as tree
use Rattle.cacao_view_preflight.specs.Settled.{changed, closed_items, has_open, in_array, in_object, is_open}

pub changed_absent : (name : List ℕ) (change : Data → Data) (old new : Members) → None ≡ get_member name old → new ≡ without name old → new ≡ changed name change old
changed_absent name change old new e is = is ∙ ap (λ (o : Option Data). option_map_or (λ (d : Data). put name (change d) (without name old)) o (without name old)) e

pub changed_there : (name : List ℕ) (change : Data → Data) (old mid new : Members) (was is : Data) → Some was ≡ get_member name old → mid ≡ without name old → is ≡ change was → new ≡ put name is mid
    → new ≡ changed name change old
changed_there name change old mid new was is there rest so puts =
    puts ∙ ap (put name is) rest ∙ ap (λ (d : Data). put name d (without name old)) so
    ∙ ap (λ (o : Option Data). option_map_or (λ (d : Data). put name (change d) (without name old)) o (without name old)) there

pub other_stays : (t : Tree) (change : Members → Members) → ((ms : Members) → t ≡ tree.Members ms → ⊥) → data_of t ≡ in_object change (data_of t)
other_stays tree.Null change h = refl
other_stays (tree.Flag b) change h = refl
other_stays (tree.Whole z) change h = refl
other_stays (tree.Text s) change h = refl
other_stays (tree.List ds) change h = refl
other_stays (tree.Members ms) change h = absurd (h ms refl)

pub other_items_stay : (t : Tree) (change : Items → Items) → ((ds : Items) → t ≡ tree.List ds → ⊥) → data_of t ≡ in_array change (data_of t)
other_items_stay tree.Null change h = refl
other_items_stay (tree.Flag b) change h = refl
other_items_stay (tree.Whole z) change h = refl
other_items_stay (tree.Text s) change h = refl
other_items_stay (tree.List ds) change h = absurd (h ds refl)
other_items_stay (tree.Members ms) change h = refl

-- an item that is open, by the trees
pub has_open-trees : (trees : List Tree) → list_any (λ (t : Tree). is_open (data_of t)) trees ≡ has_open (items_of (map data_of trees))
has_open-trees [] = refl
has_open-trees (t ∷ ts) = ap (λ b. is_open (data_of t) || b) (has_open-trees ts)

-- the items that are not, by the trees
pub closed-trees : (trees : List Tree) → items_of (map data_of (filter (λ (t : Tree). not (is_open (data_of t))) trees)) ≡ closed_items (items_of (map data_of trees))
closed-trees [] = refl
closed-trees (t ∷ ts) = by (is_open (data_of t)) (closed-trees ts)
  where
    by : (b : Bool) → items_of (map data_of (filter (λ (t : Tree). not (is_open (data_of t))) ts)) ≡ closed_items (items_of (map data_of ts))
        → items_of (map data_of (cond (not b) (t ∷ filter (λ (t : Tree). not (is_open (data_of t))) ts) (filter (λ (t : Tree). not (is_open (data_of t))) ts)))
        ≡ (if b then closed_items (items_of (map data_of ts)) else item (data_of t) (closed_items (items_of (map data_of ts))))
    by true ih = ih
    by false ih = ap (item (data_of t)) ih
