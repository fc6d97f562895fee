-- Where a run goes on, begins a branch or begins a playbook, the links of the playbook lead.
use Rattle.std.proofs.Common.{◌≡◌, ◌++◌, ℕ, Bool, true, false, cond, List, [], ◌∷◌, length, map, filter_map, Contains, Option, Some, None, is_some, arith, refl, ap, sym, subst, ◌∙◌}
use Rattle.std.specs.Prelude.{IfSome, All, option_and_then, option_map, option_to_list, slice_get, slice_index_or, unwrap_or, find, codes}
use Rattle.std.specs.Option.{option_map_or, option_or}
use Rattle.std.specs.Str.{bytes_eq}
use Rattle.std.proofs.lemmas.List.Elements.{All-nil, All-cons, All-push, All-head, All-tail, All-weaker, All-contains, All-contains_itself, Contains-append_right}
use Rattle.cacao_vars.specs.References.{name_run}
use Rattle.cacao_book.specs.declared.books.Book.{Book}
use Rattle.cacao_book.specs.declared.cases.Case.{Case}
use Rattle.cacao_book.specs.declared.steps.Step.{Step}
use Rattle.cacao_book.specs.declared.step_kinds.StepKind.{StepKind}
use Rattle.cacao_book.specs.declared.step_kinds.StepKind.TheVariants as does
use Rattle.cacao_book.specs.Steps.{place_of}
use Rattle.cacao_check_steps.specs.Links.{next_keys, start_keys, places_of, start_places, GoesTo, Begins}
use Rattle.cacao_check_steps.specs.Links.{head_keys as link_keys}
use Rattle.flow_core_rules.specs.Givens.{Given, book_at, number_of_step}
use Rattle.flow_core_rules.specs.State.{Lists, value_shown}
use Rattle.flow_core_rules.specs.Conditions.{heads, is_true, case_with}
use Rattle.flow_core_rules.specs.Runnable.{NamesStep, head_keys}
use Rattle.flow_core_laws.proofs.Somes.{clash}

-- ---- keys and places

found_head : {Y : Type 0} (o : Option Y) (ys : List Y) (y : Y) → Contains ys y → Contains (option_to_list o ++ ys) y
found_head None ys y c = c
found_head (Some z) ys y c = Contains-append_right (z ∷ []) ys y c

filter_first : {X Y : Type 0} (f : X → Option Y) (x : X) (xs : List X) (o : Option Y) → f x ≡ o → filter_map f (x ∷ xs) ≡ option_to_list o ++ filter_map f xs
filter_first f x xs None e = rw e refl
filter_first f x xs (Some y) e = rw e refl

found_all : {X Y : Type 0} (f : X → Option Y) (xs : List X) → All (λ (x : X). (y : Y) → f x ≡ Some y → Contains (filter_map f xs) y) xs
found_all f [] = All-nil (λ (x : _). (y : _) → f x ≡ Some y → Contains (filter_map f []) y)
found_all {X} {Y} f (x ∷ xs) =
    All-cons (λ (z : X). (y : Y) → f z ≡ Some y → Contains (filter_map f (x ∷ xs)) y) x xs
    (λ y e. subst (λ (ys : List Y). Contains ys y) (sym (filter_first f x xs (Some y) e)) (0, omega arith, refl))
    (All-weaker (λ (z : X). (y : Y) → f z ≡ Some y → Contains (filter_map f xs) y) (λ (z : X). (y : Y) → f z ≡ Some y → Contains (filter_map f (x ∷ xs)) y)
    (λ z h y e. subst (λ (ys : List Y). Contains ys y) (sym (filter_first f x xs (f x) refl)) (found_head (f x) (filter_map f xs) y (h y e))) xs (found_all f xs))

found : {X Y : Type 0} (f : X → Option Y) (xs : List X) (x : X) (y : Y) → Contains xs x → f x ≡ Some y → Contains (filter_map f xs) y
found {X} {Y} f xs x y c e = All-contains (λ (z : X). (y : Y) → f z ≡ Some y → Contains (filter_map f xs) y) xs x (found_all f xs) c y e

-- the place of a key that names a step
place_is : (given : Given) (n : ℕ) (b : Book) (key : List ℕ) → book_at given n ≡ Some b → NamesStep b key → place_of b.steps key ≡ Some (number_of_step given n key)
place_is given n b key there names = by (place_of b.steps key) refl names
  where
    by : (o : Option ℕ) → place_of b.steps key ≡ o → is_some o ≡ true → o ≡ Some (number_of_step given n key)
    by None e h = absurd (clash false h refl)
    by (Some p) e h =
        sym (ap Some (ap (λ (x : Option Book). option_map_or (λ (c : Book). unwrap_or (place_of c.steps key) (length c.steps)) x 0) there ∙ ap (λ (x : Option ℕ). unwrap_or x (length b.steps)) e))

place_among : (given : Given) (n : ℕ) (b : Book) (keys : List (List ℕ)) (key : List ℕ) → book_at given n ≡ Some b → Contains keys key → NamesStep b key → Contains (places_of b keys) (number_of_step given n key)
place_among given n b keys key there among names = found (place_of b.steps) keys key (number_of_step given n key) among (place_is given n b key there names)

pub starts_at : (given : Given) (n : ℕ) (b : Book) (key : List ℕ) → book_at given n ≡ Some b → Contains (start_keys b) key → NamesStep b key → Contains (start_places b) (number_of_step given n key)
starts_at given n b key there among names = place_among given n b (start_keys b) key there among names

pub goes_to : (given : Given) (n from : ℕ) (b : Book) (step : Step) (key : List ℕ) → book_at given n ≡ Some b → slice_get b.steps from ≡ Some step → Contains (next_keys step) key → NamesStep b key
    → GoesTo b from (number_of_step given n key)
goes_to given n from b step key there at among names =
    subst (λ (o : Option Step). Contains (option_map_or (λ (x : Step). places_of b (next_keys x)) o []) (number_of_step given n key)) (sym at) (place_among given n b (next_keys step) key there among names)

begins_at : (given : Given) (n from : ℕ) (b : Book) (step : Step) (key : List ℕ) → book_at given n ≡ Some b → slice_get b.steps from ≡ Some step → Contains (link_keys step.kind) key → NamesStep b key
    → Begins b from (number_of_step given n key)
begins_at given n from b step key there at among names =
    subst (λ (o : Option Step). Contains (option_map_or (λ (x : Step). places_of b (link_keys x.kind)) o []) (number_of_step given n key)) (sym at) (place_among given n b (link_keys step.kind) key there among names)

-- ---- the links of a step

pub both_ways : (P : List ℕ → Type 0) (a b c : Option (List ℕ)) (well : Bool) → All P (option_to_list a ++ option_to_list b ++ option_to_list c) → IfSome (option_or a (cond well b c)) P
both_ways P (Some x) b c well h = All-head P x (option_to_list b ++ option_to_list c) h
both_ways P None (Some y) c true h = All-head P y (option_to_list c) h
both_ways P None None c true h = tt
both_ways P None b None false h = tt
both_ways P None None (Some z) false h = All-head P z [] h
both_ways P None (Some y) (Some z) false h = All-head P z [] (All-tail P y (z ∷ []) h)

same_heads : (kind : StepKind) → link_keys kind ≡ head_keys kind
same_heads does.Start = refl
same_heads does.End = refl
same_heads (does.Action a b c d e) = refl
same_heads (does.PlaybookAction a b c d) = refl
same_heads (does.Parallel next) = refl
same_heads (does.If a b c) = refl
same_heads (does.While a b) = refl
same_heads (does.Switch a b) = refl

-- each key of a list that names a step is one of the list
pub each_of : (b : Book) (keys : List (List ℕ)) → All (NamesStep b) keys → All (λ (key : List ℕ). Contains keys key × NamesStep b key) keys
each_of b keys names = λ k d lt. (All-contains_itself keys k d lt, names k d lt)

pub branches_begin : (given : Given) (n from : ℕ) (b : Book) (step : Step) → book_at given n ≡ Some b → slice_get b.steps from ≡ Some step → All (NamesStep b) (head_keys step.kind)
    → All (λ (key : List ℕ). Begins b from (number_of_step given n key)) (head_keys step.kind)
branches_begin given n from b step there at names = λ k d lt.
    let key : List ℕ = slice_index_or (head_keys step.kind) k d in
    let each : Contains (head_keys step.kind) key × NamesStep b key = each_of b (head_keys step.kind) names k d lt in
    begins_at given n from b step key there at (subst (λ (keys : List (List ℕ)). Contains keys key) (sym (same_heads step.kind)) each.0) each.1

-- what holds of all branches of a step holds of those that it takes
pub taken_heads : (P : List ℕ → Type 0) (s : Lists) (scope : ℕ) (kind : StepKind) → All P (head_keys kind) → All P (heads s scope kind)
taken_heads P s scope does.Start all = All-nil P
taken_heads P s scope does.End all = All-nil P
taken_heads P s scope (does.Action a b c d e) all = All-nil P
taken_heads P s scope (does.PlaybookAction a b c d) all = All-nil P
taken_heads P s scope (does.Parallel next) all = all
taken_heads P s scope (does.If condition on_true on_false) all = by (is_true s scope condition)
  where
    by : (b : Bool) → All P (cond b (on_true ∷ []) (option_to_list on_false))
    by true = All-push P [] on_true (All-nil P) (All-head P on_true (option_to_list on_false) all)
    by false = All-tail P on_true (option_to_list on_false) all
taken_heads P s scope (does.While condition on_true) all = by (is_true s scope condition)
  where
    by : (b : Bool) → All P (cond b (on_true ∷ []) [])
    by true = all
    by false = All-nil P
taken_heads P s scope (does.Switch subject cases) all = by (value_shown s scope (name_run subject))
  where
    chosen : (cases : List Case) (key : List ℕ) → All P (map (λ one. one.step) cases) → IfSome (case_with cases key) P
    chosen [] key h = tt
    chosen (x ∷ xs) key h = at (bytes_eq x.value key) (All-head P x.step (map (λ one. one.step) xs) h) (chosen xs key (All-tail P x.step (map (λ one. one.step) xs) h))
      where
        at : (b : Bool) → P x.step → IfSome (option_map (λ (one : Case). one.step) (find (λ (one : Case). bytes_eq one.value key) xs)) P
            → IfSome (option_map (λ (one : Case). one.step) (cond b (Some x) (find (λ (one : Case). bytes_eq one.value key) xs))) P
        at true p rest = p
        at false p rest = rest

    either : (a b : Option (List ℕ)) → IfSome a P → IfSome b P → All P (option_to_list (option_or a b))
    either (Some x) b p q = All-push P [] x (All-nil P) p
    either None (Some y) p q = All-push P [] y (All-nil P) q
    either None None p q = All-nil P

    by : (o : Option (List ℕ)) → All P (option_to_list (option_or (option_and_then (case_with cases) o) (case_with cases (codes "default"))))
    by None = either None (case_with cases (codes "default")) (tt {0}) (chosen cases (codes "default") all)
    by (Some v) = either (case_with cases v) (case_with cases (codes "default")) (chosen cases v all) (chosen cases (codes "default") all)
