-- What is accepted can be run.
use Rattle.std.proofs.Common.{◌≡◌, ◌≢◌, inl, inr, ◌∙◌, refl, sym, ap, subst, arith, ℕ, ℤ, pos, nat_abs, ◌≤◌, Bool, true, false, List, [], ◌∷◌, ◌++◌, length, map, Option, Some, None, codes}
use Rattle.std.specs.Prelude.{IfSome, IsSome, IsSomeAnd, option_and_then, option_map, position, slice_get, unwrap_or, if◌then◌else◌}
use Rattle.std.specs.Option.{option_map_or}
use Rattle.std.specs.List.{All, AllByRecursion, flat_map}
use Rattle.std.specs.Str.{bytes_eq}
use Rattle.std.proofs.lemmas.List.{length-map}
use Rattle.std.proofs.lemmas.List.Elements.{All-from_recursion, recursion_from_All, All-nil}
use Rattle.serde_json.specs.Data.{Data, Items, Members}
use Rattle.serde_json.specs.Find.{get, as_array, as_object, as_str}
use Rattle.cacao_json.specs.Reading.{tree}
use Rattle.cacao_ids.specs.Ids.{IsId}
use Rattle.cacao_book.specs.declared.books.Book.{Book}
use Rattle.cacao_book.specs.declared.steps.Step.{Step}
use Rattle.cacao_book.specs.declared.step_kinds.StepKind.{StepKind}
use Rattle.cacao_book.specs.declared.step_kinds.StepKind.TheVariants as does
use Rattle.cacao_book.specs.declared.commands.StepCommand.{StepCommand}
use Rattle.cacao_book_shape.specs.Members.{IsObject, IsText, Has, ListOf, whole, items_in, members_in, members_at, in_order, texts_at}
use Rattle.cacao_book.specs.Steps.{place_of}
use Rattle.cacao_book_shape.specs.Shape.{k9, K9, KeepsShape, KeepsOfStep as KeepsShapeOfStep, is_of_type, workflow}
use Rattle.cacao_book.specs.Books.{book, step_of, kind_at, action_of, playbook_action_of, if_of, while_of, switch_of, commands_at, command_of}
use Rattle.cacao_book_shape.proofs.ListLemmas.{members_fit}
use Rattle.cacao_check.specs.declared.breaks.Mode.TheVariants.{Run}
use Rattle.cacao_check.specs.declared.rules.SenseRule.TheVariants as rule
use Rattle.cacao_check_steps.specs.Links.{head_keys as check_head_keys}
use Rattle.cacao_check_steps.specs.Uses.{commands_of, call_of}
use Rattle.cacao_check_steps.specs.Calls.{book_with as check_book_with}
use Rattle.cacao_check.specs.Rules.{CanBeSent, IsFilterText, K13, K15, K16, K18}
use Rattle.cacao_check.specs.Sense.{IsSound}
use Rattle.cacao_check.specs.FirstBreak.{IsAccepted, of_shape, of_sense}
use Rattle.cacao_check.specs.Laws.{SoundGives}
use Rattle.flow_core_rules.specs.Givens.{Given, book_with}
use Rattle.flow_core_rules.specs.Places.{Place, to_filter, to_operator, places_of, addressees, is_manual}
use Rattle.flow_core_rules.specs.Runnable.{IsRunnable, IsRunnableBook, IsRunnableStep, NamesStep, CanDo, CanIssue, next_keys, head_keys}
use Rattle.flow_core_rules.specs.Bindings.{IsFilter, B1, b1, agents_in}
use Rattle.flow_core_setup.specs.Setups.{AreAccepted}
use Rattle.flow_core_setup.specs.SetupLaws.{AcceptedIsRunnable}
use Rattle.flow_core_setup.proofs.SetupLists.{each_append, all_map, all_first, all_second, mapped_at, known, there, found_there, has_first, is_there, weaker, chosen}

-- ---- the links of the two crates below are the same

pub same_heads : (kind : StepKind) → check_head_keys kind ≡ head_keys kind
same_heads does.Start = refl
same_heads does.End = refl
same_heads (does.Action commands agent targets in_args out_args) = refl
same_heads (does.PlaybookAction playbook version in_args out_args) = refl
same_heads (does.Parallel next) = refl
same_heads (does.If condition on_true on_false) = refl
same_heads (does.While condition on_true) = refl
same_heads (does.Switch subject cases) = refl

-- ---- the places of an action

issues_of : (b : Bool) (content : Option (List ℕ)) (all : List (List ℕ)) → IsSomeAnd content (λ text. IsSome (tree text))
    → AllByRecursion CanIssue (if b then to_operator content ∷ [] else map (λ one. to_filter content one) all)
issues_of true content all h = (is_there content (λ text. IsSome (tree text)) h, tt)
issues_of false content all h = go all
  where
    go : (all : List (List ℕ)) → AllByRecursion CanIssue (map (λ one. to_filter content one) all)
    go [] = tt
    go (one ∷ all) = (h, go all)

issues_one : (all : List (List ℕ)) (command : StepCommand) → CanBeSent command → AllByRecursion CanIssue (places_of all command)
issues_one all command (inl h) =
    issues_of (is_manual command) command.content all
    (weaker command.content IsFilterText (λ text. IsSome (tree text)) (λ text fits. is_there (tree text) IsObject fits.1) h.1)
issues_one all command (inr h) =
    subst (λ (b : Bool). AllByRecursion CanIssue (if b then to_operator command.content ∷ [] else map (λ one. to_filter command.content one) all))
    (sym (ap (λ k. bytes_eq k (codes "manual")) h.0)) (is_there command.content (λ text. length text ≤ 4096) h.1, tt)

issues_all : (all : List (List ℕ)) (commands : List StepCommand) → AllByRecursion CanBeSent commands → AllByRecursion CanIssue (flat_map (places_of all) commands)
issues_all all [] h = tt
issues_all all (command ∷ commands) h = each_append CanIssue (places_of all command) (flat_map (places_of all) commands) (issues_one all command h.0) (issues_all all commands h.1)

some_place : (b : Bool) (content : Option (List ℕ)) (one : List ℕ) (all : List (List ℕ)) (rest : List Place)
    → ((if b then to_operator content ∷ [] else map (λ one. to_filter content one) (one ∷ all)) ++ rest) ≢ []
some_place true content one all rest = λ e. absurd (cc)
some_place false content one all rest = λ e. absurd (cc)

some_places : (agent : List ℕ) (targets : List (List ℕ)) (commands : List StepCommand) → 1 ≤ length commands → flat_map (places_of (addressees agent targets)) commands ≢ []
some_places agent targets [] h = absurd (omega arith)
some_places agent [] (command ∷ commands) h = some_place (is_manual command) command.content agent [] (flat_map (places_of (agent ∷ [])) commands)
some_places agent (target ∷ targets) (command ∷ commands) h = some_place (is_manual command) command.content target targets (flat_map (places_of (target ∷ targets)) commands)

-- ---- what a step does

has_items : (Fits : Data → Type 0) (o : Option Data) → IsSomeAnd o (ListOf 1 64 Fits) → 1 ≤ length (option_map_or items_in (option_and_then as_array o) [])
has_items Fits None h = absurd h
has_items Fits (Some d) h = inner (as_array d) h
  where
    inner : (p : Option Items) → IsSomeAnd p (λ ds. (1 ≤ length (items_in ds)) × (length (items_in ds) ≤ 64) × All Fits (items_in ds)) → 1 ≤ length (option_map_or items_in p [])
    inner None h = absurd h
    inner (Some ds) h = h.0

called_there : (given : Given) (id : List ℕ) → IsSome (check_book_with given.books id) → IsSome (book_with given id)
called_there given id h = go (position (λ b. bytes_eq b.id id) given.books) (found_there (λ b. bytes_eq b.id id) given.books h)
  where
    go : (o : Option ℕ) → IsSome (option_and_then (λ n. slice_get given.books n) o) → IsSome {T = ℕ × Book} (option_and_then (λ n. option_map (λ b. (n, b)) (slice_get given.books n)) o)
    go None h = absurd (cc)
    go (Some n) h = inner (slice_get given.books n) h
      where
        inner : (p : Option Book) → IsSome p → IsSome {T = ℕ × Book} (option_map (λ b. (n, b)) p)
        inner None h = absurd (cc)
        inner (Some b) h = refl

-- what the rules that are kept give the kind of a step
Can : Given → StepKind → Type 0
Can given kind = All CanBeSent (commands_of kind) → IfSome (call_of kind) (λ id. IsSome (check_book_with given.books id)) → CanDo given kind

can_act : (given : Given) (s : Data) → K9 s → is_of_type (codes "action") s ≡ true → Can given (action_of s)
unfolding Can
can_act given s shaped is sent called =
    let commands : List StepCommand = commands_at (codes "commands") s in
    let all : List (List ℕ) = addressees (unwrap_or (option_and_then as_str (get (codes "agent") s)) []) (texts_at (codes "targets") s) in
    let items = has_items (Has (codes "type") IsText) (get (codes "commands") s) (shaped is).0 in (
      some_places (unwrap_or (option_and_then as_str (get (codes "agent") s)) []) (texts_at (codes "targets") s) commands (subst (λ n. 1 ≤ n) (sym (length-map (option_map_or items_in (option_and_then as_array (get (codes "commands") s)) []) command_of)) items),
      All-from_recursion CanIssue (flat_map (places_of all) commands) (issues_all all commands (recursion_from_All CanBeSent commands sent)),
    )

can_all : (given : Given) (s : Data) → K9 s → Can given (kind_at s)
unfolding Can
can_all given s shaped =
    chosen (Can given) (is_of_type (codes "start") s) does.Start (if is_of_type (codes "end") s then does.End else rest) (λ _ sent called. tt)
    (chosen (Can given) (is_of_type (codes "end") s) does.End rest (λ _ sent called. tt)
    (chosen (Can given) (is_of_type (codes "action") s) (action_of s) more (can_act given s shaped)
    (chosen (Can given) (is_of_type (codes "playbook-action") s) (playbook_action_of s) branches (λ _ sent called. called_there given (unwrap_or (option_and_then as_str (get (codes "playbook_id") s)) []) called)
    (chosen (Can given) (is_of_type (codes "parallel") s) (does.Parallel (texts_at (codes "next_steps") s)) ifs (λ _ sent called. tt)
    (chosen (Can given) (is_of_type (codes "if-condition") s) (if_of s) whiles (λ _ sent called. tt)
    (chosen (Can given) (is_of_type (codes "while-condition") s) (while_of s) (switch_of s) (λ _ sent called. tt) (λ sent called. tt)))))))
  where
    whiles : StepKind
    whiles = if is_of_type (codes "while-condition") s then while_of s else switch_of s

    ifs : StepKind
    ifs = if is_of_type (codes "if-condition") s then if_of s else whiles

    branches : StepKind
    branches = if is_of_type (codes "parallel") s then does.Parallel (texts_at (codes "next_steps") s) else ifs

    more : StepKind
    more = if is_of_type (codes "playbook-action") s then playbook_action_of s else branches

    rest : StepKind
    rest = if is_of_type (codes "action") s then action_of s else more

can : (given : Given) (s : Data) → K9 s → All CanBeSent (commands_of (kind_at s)) → IfSome (call_of (kind_at s)) (λ id. IsSome (check_book_with given.books id)) → CanDo given (kind_at s)
unfolding Can
can given s shaped = can_all given s shaped

-- ---- the playbooks

shape_of_step : (trees : List Data) → IsAccepted trees Run → (n place : ℕ) (t : Data) (m : List ℕ × Data) → slice_get trees n ≡ Some t → slice_get (workflow t) place ≡ Some m → K9 m.1
shape_of_step trees accepted n place t m at here =
    known (slice_get (workflow t) place) (λ (step : List ℕ × Data). KeepsShapeOfStep k9 step.1) m here
    (known (slice_get trees n) (λ t. KeepsShape t (record { step = Some place; rule = k9 })) t at (accepted (of_shape n (record { step = Some place; rule = k9 }))))

runnable_step : SoundGives → (given : Given) (trees : List Data) → given.books ≡ map book trees → IsAccepted trees Run → (n place : ℕ) (t : Data) (m : List ℕ × Data)
    → slice_get trees n ≡ Some t → slice_get (map book trees) n ≡ Some (book t) → slice_get (workflow t) place ≡ Some m → slice_get (book t).steps place ≡ Some (step_of m) → IsRunnableStep given (book t) (step_of m)
runnable_step gives given trees books accepted n place t m at book_at here step_at =
    let sound : IsSound (map book trees) Run = λ demand. accepted (of_sense demand) in
    let links : K16 (book t) (step_of m) = gives.of_step (map book trees) Run sound n place (book t) (step_of m) rule.K16 book_at step_at in
    let sent : K13 Run (step_of m) = gives.of_step (map book trees) Run sound n place (book t) (step_of m) rule.K13 book_at step_at in
    let called : K18 (map book trees) Run (step_of m) = gives.of_step (map book trees) Run sound n place (book t) (step_of m) rule.K18 book_at step_at in
    record {
      goes_on = all_first (NamesStep (book t)) (next_keys (step_of m)) (check_head_keys (step_of m).kind) links;
      branches = subst (All (NamesStep (book t))) (same_heads (step_of m).kind) (all_second (NamesStep (book t)) (next_keys (step_of m)) (check_head_keys (step_of m).kind) links);
      does = can given m.1 (shape_of_step trees accepted n place t m at here) (sent refl) (subst (λ (bs : List Book). IfSome (call_of (kind_at m.1)) (λ id. IsSome (check_book_with bs id))) (sym books) (called refl));
    }

runnable_tree : SoundGives → (given : Given) (trees : List Data) → given.books ≡ map book trees → IsAccepted trees Run → (n : ℕ) (t : Data) → slice_get trees n ≡ Some t → slice_get (map book trees) n ≡ Some (book t) → IsRunnableBook given (book t)
runnable_tree gives given trees books accepted n t at book_at =
    let sound : IsSound (map book trees) Run = λ demand. accepted (of_sense demand) in
    let starts : K15 (book t) = gives.of_book (map book trees) Run sound n (book t) rule.K15 book_at in
    record {
      start = has_first (place_of (book t).steps (book t).start) (slice_get (book t).steps) (λ step. step.kind ≡ does.Start) starts.0;
      exception = starts.1;
      steps = λ place step step_at. let found = mapped_at step_of (workflow t) place step step_at in
          subst (IsRunnableStep given (book t)) (sym found.is)
          (runnable_step gives given trees books accepted n place t found.x at book_at found.at (step_at ∙ ap (λ (s : Step). Some s) found.is));
    }

runnable_book : SoundGives → (given : Given) (trees : List Data) → given.books ≡ map book trees → IsAccepted trees Run → (n : ℕ) (b : Book) → slice_get given.books n ≡ Some b → IsRunnableBook given b
runnable_book gives given trees books accepted n b at =
    let here : slice_get (map book trees) n ≡ Some b = ap (λ (bs : List Book). slice_get bs n) (sym books) ∙ at in
    let found = mapped_at book trees n b here in
    subst (IsRunnableBook given) (sym found.is) (runnable_tree gives given trees books accepted n found.x found.at (here ∙ ap (λ (x : Book). Some x) found.is))

-- ---- the filters

counted : Option Members → ℕ
counted p = option_map_or (λ ms. length (members_in ms)) p 0

with_count : (P : List ℕ × Data → Type 0) (p : Option Members) → IsSomeAnd p (λ ms. All P (members_in ms)) → IsSomeAnd p (λ ms. (0 ≤ length (members_in ms)) × (length (members_in ms) ≤ counted p) × All P (members_in ms))
unfolding counted
with_count P None h = h
with_count P (Some ms) h = (omega arith, omega arith, h)

pub members_all : (P : List ℕ × Data → Type 0) (o : Option Data) → IfSome o (λ d. IsSomeAnd (as_object d) (λ ms. All P (members_in ms))) → All P (option_map_or (λ ms. in_order (members_in ms)) (option_and_then as_object o) [])
members_all P None h = All-nil P
members_all P (Some d) h = members_fit P 0 (counted (as_object d)) (Some d) (with_count P (as_object d) h)

filter_fits : (o : Option ℤ) → IsSomeAnd o (λ z. (n : ℕ) × (z ≡ pos n) × (1 ≤ n) × (n ≤ 16)) → (1 ≤ unwrap_or (option_map nat_abs o) 0) × (unwrap_or (option_map nat_abs o) 0 ≤ 16)
filter_fits None h = absurd h
filter_fits (Some z) h = let is : nat_abs z ≡ h.0 = ap nat_abs h.1 in (subst (λ n. 1 ≤ n) (sym is) h.2, subst (λ n. n ≤ 16) (sym is) h.3)

pub filters_fit : (d : Data) → B1 d → All (λ (entry : List ℕ × ℕ). (1 ≤ entry.1) × (entry.1 ≤ 16)) (agents_in d)
filters_fit d h =
    all_map (λ (m : List ℕ × Data). IsId m.0 × IsFilter m.1) (λ (entry : List ℕ × ℕ). (1 ≤ entry.1) × (entry.1 ≤ 16)) (λ m. (m.0, unwrap_or (option_map nat_abs (whole m.1)) 0))
    (λ m fits. filter_fits (whole m.1) fits.1) (members_at (codes "agents") d) (members_all (λ (m : List ℕ × Data). IsId m.0 × IsFilter m.1) (get (codes "agents") d) h.1)

-- ---- what is accepted

first_there : (books : List Book) (trees : List Data) → books ≡ map book trees → 1 ≤ length trees → IsSome (slice_get books 0)
first_there books trees e h = subst (λ (bs : List Book). IsSome (slice_get bs 0)) (sym e) (there (map book trees) 0 (omega (arith, length-map trees book)))

runnable_given : SoundGives → (given : Given) (trees : List Data) (bindings : Data) → given.books ≡ map book trees → given.agents ≡ agents_in bindings → AreAccepted trees → B1 bindings → IsRunnable given
runnable_given gives given trees bindings books agents accepted bound = record {
  first = first_there given.books trees books accepted.0;
  books = runnable_book gives given trees books accepted.1;
  filters = subst (All (λ (entry : List ℕ × ℕ). (1 ≤ entry.1) × (entry.1 ≤ 16))) (sym agents) (filters_fit bindings bound);
}

pub accepted_is_runnable : SoundGives → AcceptedIsRunnable
accepted_is_runnable gives texts bind given h =
    runnable_given gives given h.trees h.bindings (ap (λ (g : Given). g.books) h.given_is) (ap (λ (g : Given). g.agents) h.given_is) h.accepted (h.bound b1)
