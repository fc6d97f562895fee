-- Steps and playbooks, each with what is drawn of it.
use Rattle.std.proofs.Common.{◌≡◌, ◌⊎◌, ◌∙◌, inl, inr, ℕ, zero, suc, ◌+◌, ◌<◌, List, [], ◌∷◌, ◌++◌, length, get_or, take, map, Option, Some, slice_get, refl, sym, ap, subst, arith, length-append}
use Rattle.std.specs.Prelude.{IfSome, option_map}
use Rattle.std.proofs.lemmas.List.{map-append, map_more, length-map}
use Rattle.std.proofs.lemmas.List.Elements.{All-push}
use Rattle.std.proofs.lemmas.Grind.{common_steps}
use Rattle.std.proofs.lemmas.Option.{get_or_from_slice_get, slice_get-map, slice_get_read}
use Rattle.serde_json.specs.Data.{Data}
use Rattle.cacao_book.specs.declared.books.Book.{Book}
use Rattle.cacao_book_shape.specs.Shape.{IsWellShaped}
use Rattle.cacao_check.specs.declared.breaks.Break.{Break}
use Rattle.cacao_check.specs.declared.breaks.CheckError.{CheckError}
use Rattle.cacao_check.specs.declared.breaks.CheckError.TheVariants as check_error
use Rattle.cacao_check.specs.FirstBreak.{AreWellShaped, BreaksShape, RefusesShapes}
use Rattle.cacao_json.specs.Tree.{data_of, pair_data}
use Rattle.cacao_json.specs.declared.tree.Pair.{Pair}
use Rattle.cacao_json.specs.declared.tree.Tree.{Tree}
use Rattle.cacao_view_graph.specs.Drawings.{Drawn, DrawnBook}
use Rattle.cacao_view_graph.specs.Homes.{IsHome}
use Rattle.cacao_view_graph.specs.Pictures.{AreDrawn, IsDrawn}
use Rattle.cacao_view_graph.specs.Placing.{AreDrawnOf}

-- what stands at a place of a list that is made of another
pub made_at : {X Y : Type 0} (f : X → Y) (xs : List X) (ys : List Y) (i : ℕ) (x : X) → ys ≡ map f xs → i < length xs → x ≡ get_or xs i x → slice_get ys i ≡ Some (f x)
made_at f xs ys i x are lt at =
    ap (λ l. slice_get l i) are ∙ slice_get-map f xs i ∙ ap (option_map f) (slice_get_read xs (length xs) i x refl lt at)

-- and of one that is made of that
pub made_twice : {X Y Z : Type 0} (f : X → Y) (g : Y → Z) (xs : List X) (zs : List Z) (i : ℕ) (x : X) → zs ≡ map g (map f xs) → i < length xs → x ≡ get_or xs i x → slice_get zs i ≡ Some (g (f x))
made_twice f g xs zs i x are lt at = ap (λ l. slice_get l i) are ∙ slice_get-map g (map f xs) i ∙ ap (option_map g) (made_at f xs (map f xs) i x refl lt at)

pub made_is : {X Y Z : Type 0} (f : X → Y) (g : Y → Z) (xs : List X) (zs : List Z) (i : ℕ) (x : X) (z : Z) → zs ≡ map g (map f xs) → i < length xs → x ≡ get_or xs i x → z ≡ get_or zs i z → z ≡ g (f x)
made_is f g xs zs i x z are lt at is = is ∙ get_or_from_slice_get zs i (g (f x)) z (made_twice f g xs zs i x are lt at)

-- trees that break no rule of shape are not refused for one
pub none_broken : (trees : List Data) (error : CheckError) (told : Break) → AreWellShaped trees → error ≡ check_error.Broken told → RefusesShapes trees error → ⊥
none_broken trees error told shaped is refuses = go (subst (λ (e : CheckError). RefusesShapes trees e) is refuses)
  where
    go : BreaksShape trees told → ⊥
    go breaks = let one : IsWellShaped breaks.tree = subst (λ (o : Option Data). IfSome o IsWellShaped) breaks.tree_is (shaped told.book) in breaks.refused.2.is_broken (one breaks.refused.0)

-- what stands at a place of a list with one more item
pub get_pushed : {Y : Type 0} (ys : List Y) (new : Y) (k : ℕ) (y : Y) → slice_get (ys ++ new ∷ []) k ≡ Some y → (slice_get ys k ≡ Some y) ⊎ ((k ≡ length ys) × (new ≡ y))
get_pushed [] new zero y e = inr (refl, cc)
get_pushed [] new (suc k) y e = absurd (cc)
get_pushed (z ∷ zs) new zero y e = inl e
get_pushed (z ∷ zs) new (suc k) y e = elim (get_pushed zs new k y e) [ inl old ↦ inl old | inr last ↦ inr (let n : k ≡ length zs = last.0 in omega arith, last.1) ]

-- ---- steps

pub none_drawn : (book : Book) → AreDrawnOf book [] []
none_drawn book = record { members_are = refl; homes = λ place step e. absurd cc }

home_of_pushed : (book : Book) (steps : List Drawn) (new : Drawn) (n place : ℕ) (step : Drawn) → length steps ≡ n → IsHome book n new.home
    → (slice_get steps place ≡ Some step → IsHome book place step.home) → (slice_get steps place ≡ Some step) ⊎ ((place ≡ length steps) × (new ≡ step)) → IsHome book place step.home
home_of_pushed book steps new n place step len home before (inl old) = before old
home_of_pushed book steps new n place step len home before (inr last) =
    subst (λ (d : Drawn). IsHome book place d.home) last.1 (subst (λ k. IsHome book k new.home) (sym len ∙ sym last.0) home)

-- one step more is drawn
pub drawn_more : (book : Book) (members : List (List ℕ × Data)) (steps : List Drawn) (new : Drawn) (m : List ℕ × Data) (n : ℕ) → length members ≡ n → new.member ≡ m → IsHome book n new.home → AreDrawnOf book members steps
    → AreDrawnOf book (members ++ m ∷ []) (steps ++ new ∷ [])
drawn_more book members steps new m n len member home before =
    let count : length steps ≡ n = sym (length-map steps (λ (step : Drawn). step.member)) ∙ ap length before.members_are ∙ len in
    record {
      members_are = map-append (λ (step : Drawn). step.member) steps (new ∷ []) ∙ ap (λ l. l ++ new.member ∷ []) before.members_are ∙ ap (λ k. members ++ k ∷ []) member;
      homes = λ place step e. home_of_pushed book steps new n place step count home (before.homes place step) (get_pushed steps new place step e);
    }

-- ---- playbooks

pub no_books_drawn : AreDrawn [] []
no_books_drawn = record { trees_are = refl; each = λ k d lt. absurd (omega arith) }

pub books_more : (trees : List Data) (drawn : List DrawnBook) (tree : Data) (new : DrawnBook) → new.tree ≡ tree → IsDrawn new → AreDrawn trees drawn → AreDrawn (trees ++ tree ∷ []) (drawn ++ new ∷ [])
books_more trees drawn tree new is one before = record {
  trees_are = map-append (λ (d : DrawnBook). d.tree) drawn (new ∷ []) ∙ ap (λ l. l ++ new.tree ∷ []) before.trees_are ∙ ap (λ t. trees ++ t ∷ []) is;
  each = All-push IsDrawn drawn new before.each one;
}

-- ---- one more, as the code goes on

each_by : {Y : Type 0} (P : ℕ → Y → Type 0) (ys : List Y) (new : Y) (n k : ℕ) (y : Y) → length ys ≡ n → P n new → (slice_get ys k ≡ Some y → P k y) → (slice_get ys k ≡ Some y) ⊎ ((k ≡ length ys) × (new ≡ y)) → P k y
each_by P ys new n k y len last before (inl old) = before old
each_by P ys new n k y len last before (inr end) = subst (λ z. P k z) end.1 (subst (λ j. P j new) (sym len ∙ sym end.0) last)

pub grown : {X : Type 0} (old new : List X) (x : X) (n : ℕ) → length old ≡ n → new ≡ old ++ x ∷ [] → length new ≡ n + 1
grown old new x n len is = ap length is ∙ length-append old (x ∷ []) ∙ ap (λ k. k + 1) len

-- what holds at each place of a list that grows
pub each_next : {X Y : Type 0} (P : ℕ → Y → Type 0) (f : X → Y) (n : ℕ) (old new : List X) (x : X) → length old ≡ n → new ≡ old ++ x ∷ [] → P n (f x)
    → ((k : ℕ) (y : Y) → slice_get (map f old) k ≡ Some y → P k y) → (k : ℕ) (y : Y) → slice_get (map f new) k ≡ Some y → P k y
each_next P f n old new x len is last before k y e =
    let grown : map f new ≡ map f old ++ f x ∷ [] = ap (map f) is ∙ map-append f old (x ∷ []) in
    each_by P (map f old) (f x) n k y (length-map old f ∙ len) last (before k y) (get_pushed (map f old) (f x) k y (ap (λ l. slice_get l k) (sym grown) ∙ e))

pub drawn_next : {X : Type 0} (f : X → Drawn) (book : Book) (pairs : List Pair) (place : ℕ) (pair : Pair) (old new : List X) (x : X) → place < length pairs → pair ≡ get_or pairs place pair → new ≡ old ++ x ∷ []
    → (f x).member ≡ pair_data pair → IsHome book place (f x).home → AreDrawnOf book (map pair_data (take place pairs)) (map f old) → AreDrawnOf book (map pair_data (take (place + 1) pairs)) (map f new)
drawn_next f book pairs place pair old new x lt at is member home before =
    let front = map pair_data (take place pairs) in
    let members : map pair_data (take (place + 1) pairs) ≡ front ++ pair_data pair ∷ [] =
    map_more pair_data pairs place pair lt ∙ ap (λ p. front ++ pair_data p ∷ []) (sym at) in
    let steps : map f new ≡ map f old ++ f x ∷ [] = ap (map f) is ∙ map-append f old (x ∷ []) in
    let taken : length (take place pairs) ≡ place = grind (arith, common_steps) in
    let count : length front ≡ place = length-map (take place pairs) pair_data ∙ taken in
    subst (λ s. AreDrawnOf book (map pair_data (take (place + 1) pairs)) s) (sym steps)
    (subst (λ m. AreDrawnOf book m (map f old ++ f x ∷ [])) (sym members) (drawn_more book front (map f old) (f x) (pair_data pair) place count member home before))

pub books_drawn_next : {X : Type 0} (f : X → DrawnBook) (trees : List Tree) (n : ℕ) (tree : Tree) (old new : List X) (x : X) → n < length trees → tree ≡ get_or trees n tree → new ≡ old ++ x ∷ []
    → (f x).tree ≡ data_of tree → IsDrawn (f x) → AreDrawn (map data_of (take n trees)) (map f old) → AreDrawn (map data_of (take (n + 1) trees)) (map f new)
books_drawn_next f trees n tree old new x lt at is same one before =
    let front = map data_of (take n trees) in
    let all : map data_of (take (n + 1) trees) ≡ front ++ data_of tree ∷ [] = map_more data_of trees n tree lt ∙ ap (λ t. front ++ data_of t ∷ []) (sym at) in
    let drawn : map f new ≡ map f old ++ f x ∷ [] = ap (map f) is ∙ map-append f old (x ∷ []) in
    subst (λ d. AreDrawn (map data_of (take (n + 1) trees)) d) (sym drawn) (subst (λ t. AreDrawn t (map f old ++ f x ∷ [])) (sym all) (books_more front (map f old) (data_of tree) (f x) same one before))
