-- What was read of steps, as setups tell it.
use Rattle.std.proofs.Common.{◌≡◌, ◌∙◌, refl, sym, ap, subst, arith, ℕ, zero, suc, ◌<◌, Bool, true, false, List, [], ◌∷◌, length, map, Option, Some, None, Bor}
use Rattle.std.specs.Prelude.{IfSome, IfNone, IsSomeAnd, option_and_then, option_map, slice_get, find, if◌then◌else◌}
use Rattle.std.specs.Option.{option_copied}
use Rattle.std.specs.List.{All, AllByRecursion}
use Rattle.std.proofs.lemmas.List.Elements.{recursion_from_All}
use Rattle.cacao_cond.specs.Trees.{AnyTree, tree_of}
use Rattle.cacao_cond.specs.Grammar.{Spells}
use Rattle.cacao_cond.specs.declared.trees.Cond.{Cond}
use Rattle.cacao_book.specs.declared.books.Book.{Book}
use Rattle.cacao_book.specs.declared.steps.Step.{Step}
use Rattle.cacao_check_steps.specs.declared.parts.Parts.{Parts}
use Rattle.cacao_check_steps.specs.Uses.{condition_of as condition_text}
use Rattle.flow_core_rules.specs.Conditions.{condition_of}
use Rattle.flow_core_rules.specs.Laws.{ConditionsAreSpelled}
use Rattle.flow_core_rules.specs.Givens.{Given}
use Rattle.cacao_check_steps.specs.Parts.{ReadsStep}
use Rattle.flow_core_rules.specs.Givens.{step_at}
use Rattle.flow_core_setup.specs.SetupGivens.{AreParts}

-- ---- conditions

spelled_by : ConditionsAreSpelled → (found : Option Cond) (text : Option (List ℕ)) → IfSome found (λ cond. IsSomeAnd text (Spells (tree_of cond))) → IfNone found (IfSome text (λ text. (cond : AnyTree) → ¬ Spells cond text))
    → option_map tree_of found ≡ option_and_then condition_of text
spelled_by law (Some cond) (Some text) h none = sym ((law text (tree_of cond)).1 h)
spelled_by law (Some cond) None h none = absurd h
spelled_by law None None h none = refl
spelled_by law None (Some text) h none = go (condition_of text) refl
  where
    go : (o : Option AnyTree) → condition_of text ≡ o → None ≡ o
    go None e = refl
    go (Some tree) e = absurd (none tree ((law text tree).0 e))

pub condition_read : ConditionsAreSpelled → (given : Given) (at : Option Step) (parts : Parts) → AreParts given at parts
    → option_map tree_of parts.condition ≡ option_and_then (λ (s : Step). option_and_then condition_of (condition_text s.kind)) at
condition_read law given at parts h =
    spelled_by law parts.condition (condition_text h.step.kind) h.reads.condition h.reads.no_condition
    ∙ sym (ap (option_and_then (λ (s : Step). option_and_then condition_of (condition_text s.kind))) h.step_is)

-- ---- contents

pub same_at : {X Y Z : Type 0} (f : X → Option Z) (g : Y → Option Z) (xs : List X) (ys : List Y) (k : ℕ) → map f xs ≡ map g ys → option_and_then f (slice_get xs k) ≡ option_and_then g (slice_get ys k)
same_at f g [] [] k e = refl
same_at f g [] (y ∷ ys) k e = absurd (cc)
same_at f g (x ∷ xs) [] k e = absurd (cc)
same_at f g (x ∷ xs) (y ∷ ys) zero e = cc
same_at f g (x ∷ xs) (y ∷ ys) (suc k) e = same_at f g xs ys k (let rest : map f xs ≡ map g ys = cc in rest)

-- ---- what is behind a reference

pub tree_behind : (o : Option (Bor Cond)) → option_map (λ (cond : Bor Cond). tree_of cond.now) o ≡ option_map tree_of (option_copied o)
tree_behind None = refl
tree_behind (Some cond) = refl

-- ---- what is found

found_passes : {X : Type 0} (P : X → Type 0) (test : X → Bool) (xs : List X) → AllByRecursion P xs → IfSome (find test xs) P
found_passes P test [] h = tt
found_passes P test (x ∷ xs) h = go (test x) (found_passes P test xs h.1)
  where
    go : (b : Bool) → IfSome (find test xs) P → IfSome (if b then Some x else find test xs) P
    go true rest = h.0
    go false rest = rest

pub found_fits : {X : Type 0} (P : X → Type 0) (test : X → Bool) (xs : List X) (x : X) → All P xs → find test xs ≡ Some x → P x
found_fits {X = X} P test xs x all e = subst (λ (o : Option X). IfSome o P) e (found_passes P test xs (recursion_from_All P xs all))

-- ---- what stands at a place

pub record IsAt {X : Type 0} (xs : List X) (n : ℕ) : Type 0 where
  pub x : X
  pub is : slice_get xs n ≡ Some x

got_at : {X : Type 0} (xs : List X) (n : ℕ) → n < length xs → IsAt xs n
got_at [] n lt = absurd (omega arith)
got_at (x ∷ xs) zero lt = record { x = x; is = refl }
got_at (x ∷ xs) (suc n) lt = let rest = got_at xs n (omega arith) in record { x = rest.x; is = rest.is }

pub parts_at : (given : Given) (b : Book) (parts : Parts) (book step : ℕ) → slice_get given.books book ≡ Some b → step < length b.steps
    → ((found : Book) (s : Step) → slice_get given.books book ≡ Some found → slice_get found.steps step ≡ Some s → ReadsStep given.books found s parts) → AreParts given (step_at given book step) parts
parts_at given b parts book step at lt reads =
    let here = got_at b.steps step lt in
    record {
      book = b;
      step = here.x;
      step_is = ap (option_and_then (λ (found : Book). slice_get found.steps step)) at ∙ here.is;
      reads = reads b here.x at here.is;
    }
