-- The places of commands, one command after another.
use Rattle.std.proofs.Common.{◌≡◌, ℕ, zero, suc, ◌+◌, ◌-◌, ◌*◌, ◌<◌, ◌≤◌, Bool, true, false, List, [], ◌∷◌, ◌++◌, length, drop, get_or, map, Option, Some, None, refl, sym, ap, subst, ◌∙◌, arith}
use Rattle.std.specs.Prelude.{All, IfSome, slice_get, option_and_then, if◌then◌else◌}
use Rattle.std.specs.List.{flat_map}
use Rattle.std.proofs.lemmas.List.{at_drop_more}
use Rattle.std.proofs.lemmas.Option.{slice_get_read, slice_get_within, get_or_from_slice_get}
use Rattle.std.proofs.Math.ListN.{length-append}
use Rattle.cacao_book.specs.declared.commands.StepCommand.{StepCommand}
use Rattle.cacao_book.specs.declared.step_kinds.StepKind.{StepKind}
use Rattle.cacao_book.specs.declared.step_kinds.StepKind.TheVariants as does
use Rattle.cacao_book.specs.Steps.{KindKeepsLimits, KeepsLimits}
use Rattle.cacao_book.specs.declared.books.Book.{Book}
use Rattle.cacao_book.specs.declared.steps.Step.{Step}
use Rattle.flow_core_rules.specs.Givens.{Given, book_at, step_at}
use Rattle.flow_core_rules.specs.Places.{to_filter, is_manual, addressees, places_of, places}
use Rattle.cacao_check_steps.specs.Uses.{content_tree}
use Rattle.flow_core_values.specs.declared.places.Place.{Place}
use Rattle.flow_core_values.specs.declared.places.Place.TheVariants as place
use Rattle.flow_core_values.specs.PlaceViews.{IsPlaceOf, IsOfCommand}
use Rattle.flow_core_texts.specs.Questions.{question_of}

module _ {X : Type 0} where
  get_front : (xs ys : List X) (n : ℕ) → n < length xs → slice_get (xs ++ ys) n ≡ slice_get xs n
  get_front [] ys n lt = absurd (omega arith)
  get_front (x ∷ xs) ys zero lt = refl
  get_front (x ∷ xs) ys (suc n) lt = get_front xs ys n (omega arith)

  get_behind : (xs ys : List X) (n m : ℕ) → m ≡ length xs + n → slice_get (xs ++ ys) m ≡ slice_get ys n
  get_behind [] ys n m e = let same : m ≡ n = omega arith in ap (slice_get ys) same
  get_behind (x ∷ xs) ys n zero e = absurd (omega arith)
  get_behind (x ∷ xs) ys n (suc m) e = get_behind xs ys n m (omega arith)

module _ {A X : Type 0} (f : A → List X) (xs : List A) where
  -- a place among those of all is one among those that are left
  abbrev pub IsLeft : ℕ → ℕ → ℕ → Type 0
  IsLeft n i left = slice_get (flat_map f (drop i xs)) left ≡ slice_get (flat_map f xs) n

  left_next : (i : ℕ) (x : A) → i < length xs → x ≡ get_or xs i x → flat_map f (drop i xs) ≡ f x ++ flat_map f (drop (i + 1) xs)
  left_next i x below at = at_drop_more (flat_map f) xs i x below ∙ ap (λ y. f y ++ flat_map f (drop (i + 1) xs)) (sym at)

  pub left_here : (n i left : ℕ) (x : A) → i < length xs → x ≡ get_or xs i x → left < length (f x) → IsLeft n i left → slice_get (f x) left ≡ slice_get (flat_map f xs) n
  left_here n i left x below at lt w =
      sym (get_front (f x) (flat_map f (drop (i + 1) xs)) left lt) ∙ ap (λ l. slice_get l left) (sym (left_next i x below at)) ∙ w

  pub left_more : (n i left count : ℕ) (x : A) → i < length xs → x ≡ get_or xs i x → count ≡ length (f x) → count ≤ left → IsLeft n i left → IsLeft n (i + 1) (left - count)
  left_more n i left count x below at size past w =
      let same : left ≡ length (f x) + (left - count) = omega arith in
      sym (get_behind (f x) (flat_map f (drop (i + 1) xs)) (left - count) left same)
      ∙ ap (λ l. slice_get l left) (sym (left_next i x below at)) ∙ w

-- ---- how many there are

some_if : {X : Type 0} (b : Bool) (xs ys : List X) → 1 ≤ length xs → 1 ≤ length ys → 1 ≤ length (if b then xs else ys)
some_if true xs ys v w = v
some_if false xs ys v w = w

pub some_place : (agent : List ℕ) (targets : List (List ℕ)) (command : StepCommand) → 1 ≤ length (places_of (addressees agent targets) command)
some_place agent [] command = some_if (is_manual command) _ _ (omega arith) (omega arith)
some_place agent (target ∷ targets) command = some_if (is_manual command) _ _ (omega arith) (omega arith)

few_if : {X : Type 0} (b : Bool) (xs ys : List X) (n : ℕ) → length xs ≤ n → length ys ≤ n → length (if b then xs else ys) ≤ n
few_if true xs ys n v w = v
few_if false xs ys n v w = w

map_length : {A B : Type 0} (f : A → B) (xs : List A) → length (map f xs) ≡ length xs
map_length f [] = refl
map_length f (x ∷ xs) = ap suc (map_length f xs)

few_of : (agent : List ℕ) (targets : List (List ℕ)) (command : StepCommand) → length targets ≤ 64 → length (places_of (addressees agent targets) command) ≤ 64
few_of agent [] command w = few_if (is_manual command) _ _ 64 (omega arith) (omega arith)
few_of agent (target ∷ targets) command w = few_if (is_manual command) _ _ 64 (omega arith) (omega (arith, map_length (λ one. to_filter command.content one) (target ∷ targets)))

few_all : (agent : List ℕ) (targets : List (List ℕ)) (commands : List StepCommand) → length targets ≤ 64 → length (flat_map (places_of (addressees agent targets)) commands) ≤ 64 * length commands
few_all agent targets [] w = omega arith
few_all agent targets (c ∷ commands) w =
    omega (arith, length-append (places_of (addressees agent targets) c) (flat_map (places_of (addressees agent targets)) commands), few_of agent targets c w, few_all agent targets commands w)

-- a step within its limits has few places
pub few : (kind : StepKind) → KindKeepsLimits kind → length (places kind) ≤ 4096
few does.Start w = omega arith
few does.End w = omega arith
few (does.Action commands agent targets ins outs) w = omega (arith, few_all agent targets commands w.1)
few (does.PlaybookAction playbook version ins outs) w = omega arith
few (does.Parallel next) w = omega arith
few (does.If condition on_true on_false) w = omega arith
few (does.While condition on_true) w = omega arith
few (does.Switch subject cases) w = omega arith

-- ---- the command of a place

pub of_command : (commands : List StepCommand) (number : ℕ) (command : StepCommand) (p : Place) → number < length commands → command ≡ get_or commands number command
    → IsPlaceOf command number p → IsOfCommand commands p
of_command commands number command (place.Filter n content to) below at w =
    w.1 ∙ ap (option_and_then content_tree) (sym (ap (slice_get commands) w.0 ∙ slice_get_read commands (length commands) number command refl below at))
of_command commands number command (place.Operator n content) below at w =
    w.1 ∙ ap (option_and_then question_of) (sym (ap (slice_get commands) w.0 ∙ slice_get_read commands (length commands) number command refl below at))

pub any_of_command : (commands : List StepCommand) (number : ℕ) (command : StepCommand) (o : Option Place) → number < length commands → command ≡ get_or commands number command
    → IfSome o (IsPlaceOf command number) → IfSome o (IsOfCommand commands)
any_of_command commands number command None below at w = tt
any_of_command commands number command (Some p) below at w = of_command commands number command p below at w

-- the step of a playbook is within its limits
pub few_at : (given : Given) (book number : ℕ) (b : Book) (step : Step) → Some b ≡ book_at given book → step_at given book number ≡ Some step → All KeepsLimits b.steps → length (places step.kind) ≤ 4096
few_at given book number b step e f w =
    let at : slice_get b.steps number ≡ Some step = ap (λ o. option_and_then (λ (b : Book). slice_get b.steps number) o) e ∙ f in
    few step.kind (subst KeepsLimits (get_or_from_slice_get b.steps number step step at) (w number step (slice_get_within b.steps number step at)))
