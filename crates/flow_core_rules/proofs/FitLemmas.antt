-- What holds of each task of a run by itself: it stands at a step, and its phase fits that step.
use Rattle.std.proofs.Common.{◌≡◌, ◌≢◌, ◌⊎◌, ℕ, suc, ◌+◌, ◌<◌, ◌&&◌, Bool, true, false, cond, List, [], ◌∷◌, ◌++◌, length, Option, Some, None, is_some, arith, refl, ap, sym, subst, ◌∙◌, append_assoc, length-append, inl, inr}
use Rattle.std.specs.Bool.{⊤}
use Rattle.std.specs.Prelude.{IfSome, IsSome, All, option_and_then, option_map, option_to_list, map, slice_get, not, nat_le, unwrap_or, find, position, codes}
use Rattle.std.specs.List.{flat_map, list_any, list_all, slice_set}
use Rattle.std.specs.Option.{option_map_or, option_or}
use Rattle.std.specs.Str.{bytes_eq}
use Rattle.std.proofs.lemmas.List.Elements.{All-nil, All-push, All-head, All-tail}
use Rattle.cacao_vars.specs.Scopes.{home}
use Rattle.cacao_book.specs.declared.books.Book.{Book}
use Rattle.cacao_book.specs.declared.cases.Case.{Case}
use Rattle.cacao_book.specs.declared.steps.Step.{Step}
use Rattle.cacao_book.specs.declared.step_kinds.StepKind.{StepKind}
use Rattle.cacao_book.specs.declared.step_kinds.StepKind.TheVariants as does
use Rattle.cacao_book.specs.Steps.{place_of}
use Rattle.flow_core_rules.specs.declared.tasks.Task.{Task}
use Rattle.flow_core_rules.specs.declared.phases.Phase.{Phase}
use Rattle.flow_core_rules.specs.declared.phases.Phase.TheVariants as phase
use Rattle.flow_core_rules.specs.Givens.{Given, book_at, number_of_step, book_with}
use Rattle.cacao_vars.specs.References.{name_run}
use Rattle.flow_core_rules.specs.State.{Lists, value_shown}
use Rattle.flow_core_rules.specs.Edits.{Edit}
use Rattle.flow_core_rules.specs.Edits.Edit.{opens, writes, makes, moves, issues, closes, upgrades}
use Rattle.flow_core_rules.specs.Conditions.{heads, is_true, case_with}
use Rattle.flow_core_rules.specs.Places.{places}
use Rattle.flow_core_rules.specs.Tasks.{Here, is_root, go, finish, child, next_key, exception_of, in_phase}
use Rattle.flow_core_rules.specs.Runnable.{NamesStep, head_keys, CanDo, IsRunnableStep, IsRunnableBook, IsRunnable}
use Rattle.flow_core_rules.specs.Changes as changes
use Rattle.flow_core_rules.proofs.PlacedLemmas.{some_then, some_if, two_ways}
use Rattle.flow_core_rules.proofs.TaskLemmas.{tasks_after, get_set, get_pushed, set_length}

inner : {A : Type 0} (a b : A) → Some a ≡ Some b → a ≡ b
inner a b h = cc

none_some : {A : Type 0} (x : A) → None ≡ Some x → ⊥
none_some x h = cc

-- ---- keys name steps

place_there : (steps : List Step) (key : List ℕ) (p : ℕ) → place_of steps key ≡ Some p → (step : Step) × (slice_get steps p ≡ Some step)
place_there [] key p e = absurd (none_some p e)
place_there (x ∷ steps) key p e = by (bytes_eq x.key key) (place_of steps key) e (λ q h. place_there steps key q h)
  where
    by : (b : Bool) (o : Option ℕ) → cond b (Some 0) (option_map suc o) ≡ Some p → ((q : ℕ) → o ≡ Some q → (step : Step) × (slice_get steps q ≡ Some step)) → (step : Step) × (slice_get (x ∷ steps) p ≡ Some step)
    by true o h rest = (x, ap (slice_get (x ∷ steps)) (sym (inner 0 p h)))
    by false None h rest = absurd (none_some p h)
    by false (Some q) h rest =
        let there = rest q refl in
        (there.0, ap (slice_get (x ∷ steps)) (sym (inner (suc q) p h)) ∙ there.1)

clash : (b : Bool) → b ≡ true → b ≡ false → ⊥
clash true x y = cc
clash false x y = cc

-- the step to which a key of a playbook that is there leads
pub named : (given : Given) (n : ℕ) (book : Book) (key : List ℕ) → book_at given n ≡ Some book → NamesStep book key → (step : Step) × (slice_get book.steps (number_of_step given n key) ≡ Some step)
named given n book key there names = by (place_of book.steps key) refl names
  where
    by : (o : Option ℕ) → place_of book.steps key ≡ o → is_some o ≡ true → (step : Step) × (slice_get book.steps (number_of_step given n key) ≡ Some step)
    by None e h = absurd (clash false h refl)
    by (Some p) e h =
        let at = place_there book.steps key p e in
        let number : number_of_step given n key ≡ p =
        ap (λ (x : Option Book). option_map_or (λ (b : Book). unwrap_or (place_of b.steps key) (length b.steps)) x 0) there ∙ ap (λ (x : Option ℕ). unwrap_or x (length book.steps)) e in
        (at.0, ap (slice_get book.steps) number ∙ at.1)

-- ---- what holds of a task by itself

abbrev pub FitsPhase : ℕ → Step → Option ℕ → Phase → Type 0
FitsPhase t step scope (phase.At since) = ⊤
FitsPhase t step scope (phase.Sending n) = IsSome scope × IsSome (slice_get (places step.kind) n)
FitsPhase t step scope (phase.Awaiting place issue) = IsSome scope
FitsPhase t step scope (phase.Joining from) = IsSome scope × (t < from)
FitsPhase t step scope (phase.Ended well) = ⊤

-- it stands at a step of its playbook, and its phase fits that step
pub record Fits (given : Given) (t : ℕ) (task : Task) : Type 0 where
  pub book : Book
  pub step : Step
  pub book_is : book_at given task.book ≡ Some book
  pub step_is : slice_get book.steps task.step ≡ Some step
  pub fits : FitsPhase t step task.step_scope task.phase

-- the edits make and move tasks that fit; there are so many tasks
abbrev pub AreFit : Given → ℕ → List Edit → Type 0
AreFit given n [] = ⊤
AreFit given n (opens parent vars ∷ es) = AreFit given n es
AreFit given n (writes scope name text ∷ es) = AreFit given n es
AreFit given n (makes task ∷ es) = Fits given n task × AreFit given (suc n) es
AreFit given n (moves t task ∷ es) = Fits given t task × AreFit given n es
AreFit given n (issues issue ∷ es) = AreFit given n es
AreFit given n (closes i end ∷ es) = AreFit given n es
AreFit given n (upgrades ∷ es) = AreFit given n es

abbrev pub AllFit : Given → List Task → Type 0
AllFit given ts = (t : ℕ) (task : Task) → slice_get ts t ≡ Some task → Fits given t task

pub fit_after : (given : Given) (es : List Edit) (ts : List Task) → AllFit given ts → AreFit given (length ts) es → AllFit given (tasks_after es ts)
fit_after given [] ts all f = all
fit_after given (opens parent vars ∷ es) ts all f = fit_after given es ts all f
fit_after given (writes scope name text ∷ es) ts all f = fit_after given es ts all f
fit_after given (issues issue ∷ es) ts all f = fit_after given es ts all f
fit_after given (closes i end ∷ es) ts all f = fit_after given es ts all f
fit_after given (upgrades ∷ es) ts all f = fit_after given es ts all f
fit_after given (makes task ∷ es) ts all f =
    let grown : length (ts ++ task ∷ []) ≡ suc (length ts) = omega (arith, length-append ts (task ∷ [])) in
    fit_after given es (ts ++ task ∷ []) (λ t x e. by t x (get_pushed ts task x t e)) (subst (λ n. AreFit given n es) (sym grown) f.1)
  where
    by : (t : ℕ) (x : Task) → (slice_get ts t ≡ Some x) ⊎ ((t ≡ length ts) × (task ≡ x)) → Fits given t x
    by t x (inl e) = all t x e
    by t x (inr e) = subst (λ n. Fits given n x) (sym e.0) (subst (Fits given (length ts)) e.1 f.0)
fit_after given (moves n task ∷ es) ts all f =
    fit_after given es (slice_set ts n task) (λ t x e. by t x (get_set ts n task t x e)) (subst (λ m. AreFit given m es) (sym (set_length ts n task)) f.1)
  where
    by : (t : ℕ) (x : Task) → ((t ≡ n) × (task ≡ x)) ⊎ ((t ≡ n → ⊥) × (slice_get ts t ≡ Some x)) → Fits given t x
    by t x (inl e) = subst (λ m. Fits given m x) (sym e.0) (subst (Fits given n) e.1 f.0)
    by t x (inr e) = all t x e.1

-- ---- where a rule is used

pub record Runs (h : Here) : Type 0 where
  pub runnable : IsRunnable h.seen.given
  pub book : Book
  pub book_is : book_at h.seen.given h.task.book ≡ Some book
  pub step_is : slice_get book.steps h.task.step ≡ Some h.step
  pub within : h.number < length h.seen.lists.tasks

inside_runs : (h : Here) → Runs h → Runs (changes.inside h)
inside_runs h r = record { runnable = r.runnable; book = r.book; book_is = r.book_is; step_is = r.step_is; within = r.within }

book_runs : (h : Here) (r : Runs h) → IsRunnableBook h.seen.given r.book
book_runs h r = (r.runnable).books h.task.book r.book r.book_is

step_runs : (h : Here) (r : Runs h) → IsRunnableStep h.seen.given r.book h.step
step_runs h r = let b = book_runs h r in b.steps h.task.step h.step r.step_is

-- a task before the step with a key that names one
pub fits_at : (given : Given) (t n since : ℕ) (book : Book) (key : List ℕ) (task : Task) → book_at given n ≡ Some book → NamesStep book key → task.book ≡ n → task.step ≡ number_of_step given n key
    → task.phase ≡ phase.At since → Fits given t task
fits_at given t n since book key task there names own number at =
    let step = named given n book key there names in
    record {
      book = book;
      step = step.0;
      book_is = ap (book_at given) own ∙ there;
      step_is = ap (slice_get book.steps) number ∙ step.1;
      fits = subst (FitsPhase t step.0 task.step_scope) (sym at) (tt {0});
    }

fits_go : (h : Here) (t : ℕ) (key : List ℕ) (task : Task) (r : Runs h) → NamesStep r.book key → task.book ≡ h.task.book → Fits h.seen.given t (go h.seen.given h.now task key)
fits_go h t key task r names own =
    fits_at h.seen.given t task.book h.now r.book key (go h.seen.given h.now task key) (ap (book_at h.seen.given) own ∙ r.book_is) names refl refl refl

-- ---- finish

link_named : (P : List ℕ → Type 0) (a b c : Option (List ℕ)) (well : Bool) → All P (option_to_list a ++ option_to_list b ++ option_to_list c) → IfSome (option_or a (cond well b c)) P
link_named P (Some x) b c well h = All-head P x (option_to_list b ++ option_to_list c) h
link_named P None (Some y) c true h = All-head P y (option_to_list c) h
link_named P None None c true h = tt
link_named P None b None false h = tt
link_named P None None (Some z) false h = All-head P z [] h
link_named P None (Some y) (Some z) false h = All-head P z [] (All-tail P y (z ∷ []) h)

exception_named : (h : Here) (r : Runs h) → IfSome (exception_of h.seen h.task) (NamesStep r.book)
exception_named h r = by (is_root h.seen h.task && not h.task.excepted)
  where
    here : IfSome (option_and_then (λ (book : Book). book.exception) (book_at h.seen.given h.task.book)) (NamesStep r.book)
    here = let b = book_runs h r in subst (λ (o : Option Book). IfSome (option_and_then (λ (book : Book). book.exception) o) (NamesStep r.book)) (sym r.book_is) b.exception

    by : (b : Bool) → IfSome (cond b (option_and_then (λ (book : Book). book.exception) (book_at h.seen.given h.task.book)) None) (NamesStep r.book)
    by true = here
    by false = tt

pub fits_finish : (h : Here) (t : ℕ) (well : Bool) → Runs h → Fits h.seen.given t (finish h well)
fits_finish h t well r =
    let steps = step_runs h r in
    by (next_key h.step well) well (exception_of h.seen h.task) (link_named (NamesStep r.book) h.step.completion h.step.success h.step.failure well steps.goes_on) (exception_named h r)
  where
    ends : (b : Bool) → Fits h.seen.given t (in_phase h.task (phase.Ended b))
    ends b = record { book = r.book; step = h.step; book_is = r.book_is; step_is = r.step_is; fits = tt }

    by : (o : Option (List ℕ)) (b : Bool) (x : Option (List ℕ)) → IfSome o (NamesStep r.book) → IfSome x (NamesStep r.book)
        → Fits h.seen.given t (option_map_or (go h.seen.given h.now h.task) o (cond b (in_phase h.task (phase.Ended true)) (option_map_or (λ key. record (go h.seen.given h.now h.task key) { excepted = true }) x (in_phase h.task (phase.Ended false)))))
    by (Some key) b x names other = fits_go h t key h.task r names refl
    by None true x names other = ends true
    by None false None names other = ends false
    by None false (Some key) names other =
        let f : Fits h.seen.given t (go h.seen.given h.now h.task key) = fits_go h t key h.task r other refl in
        record { book = f.book; step = f.step; book_is = f.book_is; step_is = f.step_is; fits = tt }

pub fit_done : (h : Here) (n : ℕ) (well : Bool) → Runs h → AreFit h.seen.given n (changes.done h well)
fit_done h n well r = (fits_finish h h.number well r, tt)

-- ---- Walk

pub fit_written : (given : Given) (n : ℕ) (s : Lists) (scope : ℕ) (ps : List (List ℕ × Option (List ℕ))) (es : List Edit) → AreFit given n es → AreFit given n (flat_map (changes.written s scope) ps ++ es)
fit_written given n s scope [] es h = h
fit_written given n s scope (p ∷ ps) es h =
    subst (AreFit given n) (sym (append_assoc (changes.written s scope p) (flat_map (changes.written s scope) ps) es))
    (one p (flat_map (changes.written s scope) ps ++ es) (fit_written given n s scope ps es h))
  where
    one : (p : List ℕ × Option (List ℕ)) (es : List Edit) → AreFit given n es → AreFit given n (changes.written s scope p ++ es)
    one (name, None) es h = h
    one (name, Some text) es h = by (home s.scopes scope name)
      where
        by : (o : Option ℕ) → AreFit given n (option_map_or (λ at. writes at name text ∷ []) o [] ++ es)
        by None = h
        by (Some at) = h

fit_bound : (given : Given) (n scope : ℕ) (ps : List (List ℕ × Option (List ℕ))) (es : List Edit) → AreFit given n es → AreFit given n (flat_map (changes.binding scope) ps ++ es)
fit_bound given n scope [] es h = h
fit_bound given n scope (p ∷ ps) es h =
    subst (AreFit given n) (sym (append_assoc (changes.binding scope p) (flat_map (changes.binding scope) ps) es))
    (one p (flat_map (changes.binding scope) ps ++ es) (fit_bound given n scope ps es h))
  where
    one : (p : List ℕ × Option (List ℕ)) (es : List Edit) → AreFit given n es → AreFit given n (changes.binding scope p ++ es)
    one (name, None) es h = h
    one (name, Some text) es h = h

-- a child before a step of a playbook that is there
fits_child : (h : Here) (t n scope : ℕ) (book : Book) (key : List ℕ) → book_at h.seen.given n ≡ Some book → NamesStep book key → Fits h.seen.given t (child h n scope key)
fits_child h t n scope book key there names = fits_at h.seen.given t n h.now book key (child h n scope key) there names refl refl refl

fit_made : (h : Here) (k scope : ℕ) (book : Book) (keys : List (List ℕ)) → book_at h.seen.given h.task.book ≡ Some book → All (NamesStep book) keys
    → AreFit h.seen.given k (map (λ key. makes (child h h.task.book scope key)) keys)
fit_made h k scope book [] there all = tt
fit_made h k scope book (key ∷ keys) there all =
    (fits_child h k h.task.book scope book key there (All-head (NamesStep book) key keys all), fit_made h (suc k) scope book keys there (All-tail (NamesStep book) key keys all))

-- the heads that a step takes are among its branches
heads_named : (P : List ℕ → Type 0) (s : Lists) (scope : ℕ) (kind : StepKind) → All P (head_keys kind) → All P (heads s scope kind)
heads_named P s scope does.Start all = All-nil P
heads_named P s scope does.End all = All-nil P
heads_named P s scope (does.Action a b c d e) all = All-nil P
heads_named P s scope (does.PlaybookAction a b c d) all = All-nil P
heads_named P s scope (does.Parallel next) all = all
heads_named P s scope (does.If condition on_true on_false) all = by (is_true s scope condition)
  where
    first : All P (on_true ∷ [])
    first = All-push P [] on_true (All-nil P) (All-head P on_true (option_to_list on_false) all)

    by : (b : Bool) → All P (cond b (on_true ∷ []) (option_to_list on_false))
    by true = first
    by false = All-tail P on_true (option_to_list on_false) all
heads_named P s scope (does.While condition on_true) all = by (is_true s scope condition)
  where
    by : (b : Bool) → All P (cond b (on_true ∷ []) [])
    by true = all
    by false = All-nil P
heads_named P s scope (does.Switch subject cases) all = by (value_shown s scope (name_run subject))
  where
    found : (cases : List Case) (key : List ℕ) → All P (map (λ one. one.step) cases) → IfSome (case_with cases key) P
    found [] key h = tt
    found (x ∷ xs) key h = at (bytes_eq x.value key) (All-head P x.step (map (λ one. one.step) xs) h) (found xs key (All-tail P x.step (map (λ one. one.step) xs) h))
      where
        at : (b : Bool) → P x.step → IfSome (option_map (λ (one : Case). one.step) (find (λ (one : Case). bytes_eq one.value key) xs)) P
            → IfSome (option_map (λ (one : Case). one.step) (cond b (Some x) (find (λ (one : Case). bytes_eq one.value key) xs))) P
        at true p rest = p
        at false p rest = rest

    both : (a b : Option (List ℕ)) → IfSome a P → IfSome b P → All P (option_to_list (option_or a b))
    both (Some x) b p q = All-push P [] x (All-nil P) p
    both None (Some y) p q = All-push P [] y (All-nil P) q
    both None None p q = All-nil P

    by : (o : Option (List ℕ)) → All P (option_to_list (option_or (option_and_then (case_with cases) o) (case_with cases (codes "default"))))
    by None = both None (case_with cases (codes "default")) (tt {0}) (found cases (codes "default") all)
    by (Some v) = both (case_with cases v) (case_with cases (codes "default")) (found cases v all) (found cases (codes "default") all)

pub inside_done : (h : Here) (n : ℕ) (well : Bool) → Runs h → AreFit h.seen.given n (changes.done (changes.inside h) well)
inside_done h n well r = fit_done (changes.inside h) n well (inside_runs h r)

-- the task inside its step's scope, in a phase that fits
fits_inside : (h : Here) (new : Phase) → Runs h → FitsPhase h.number h.step (Some (length h.seen.lists.scopes)) new → Fits h.seen.given h.number (in_phase (changes.inside h).task new)
fits_inside h new r f = record { book = r.book; step = h.step; book_is = r.book_is; step_is = r.step_is; fits = f }

fit_branched : (h : Here) (r : Runs h) (keys : List (List ℕ)) → All (NamesStep r.book) keys
    → AreFit h.seen.given (length h.seen.lists.tasks) (changes.branched (changes.inside h) (length h.seen.lists.scopes) keys)
fit_branched h r [] all = inside_done h (length h.seen.lists.tasks) true r
fit_branched h r (key ∷ keys) all = (
  fits_inside h (phase.Joining (length h.seen.lists.tasks)) r (refl, r.within),
  fit_made (changes.inside h) (length h.seen.lists.tasks) (length h.seen.lists.scopes) r.book (key ∷ keys) r.book_is all,
)

fit_controlled : (h : Here) (r : Runs h) (kind : StepKind) → All (NamesStep r.book) (head_keys kind) → AreFit h.seen.given (length h.seen.lists.tasks) (changes.controlled h kind)
fit_controlled h r kind all =
    fit_branched h r (heads (changes.inside h).seen.lists (length h.seen.lists.scopes) kind) (heads_named (NamesStep r.book) (changes.inside h).seen.lists (length h.seen.lists.scopes) kind all)

-- a list that is not empty has a first
first_there : {A : Type 0} (xs : List A) → xs ≢ [] → IsSome (slice_get xs 0)
first_there [] h = absurd (h refl)
first_there (x ∷ xs) h = refl

-- the playbook that is called is there, and its start names a step
book_called : (given : Given) (id : List ℕ) (n : ℕ) (book : Book) → book_with given id ≡ Some (n, book) → book_at given n ≡ Some book
book_called given id n book e = by (position (λ (b : Book). bytes_eq b.id id) given.books) e
  where
    pair : (left right : ℕ × Book) → Some left ≡ Some right → (left.0 ≡ right.0) × (left.1 ≡ right.1)
    pair left right h = let e : left ≡ right = inner left right h in (ap (λ (x : ℕ × Book). x.0) e, ap (λ (x : ℕ × Book). x.1) e)

    at : (m : ℕ) (o : Option Book) → book_at given m ≡ o → option_map {U = ℕ × Book} (λ (b : Book). (m, b)) o ≡ Some (n, book) → book_at given n ≡ Some book
    at m None is h = absurd (none_some {A = ℕ × Book} (n, book) h)
    at m (Some b) is h =
        let both = pair (m, b) (n, book) h in
        ap (book_at given) (sym both.0) ∙ is ∙ ap Some both.1

    by : (o : Option ℕ) → option_and_then (λ (m : ℕ). option_map {U = ℕ × Book} (λ (b : Book). (m, b)) (book_at given m)) o ≡ Some (n, book) → book_at given n ≡ Some book
    by None h = absurd (none_some {A = ℕ × Book} (n, book) h)
    by (Some m) h = at m (book_at given m) refl h

map_known : {A B : Type 0} (o : Option A) (f : A → B) (P : B → Type 0) → ((x : A) → o ≡ Some x → P (f x)) → IfSome (option_map f o) P
map_known None f P g = tt
map_known (Some x) f P g = g x refl

fit_entered : (h : Here) (r : Runs h) (kind : StepKind) → h.step.kind ≡ kind → IfSome (changes.entered h kind) (AreFit h.seen.given (length h.seen.lists.tasks))
fit_entered h r does.Start e = fit_done h (length h.seen.lists.tasks) true r
fit_entered h r does.End e = (record { book = r.book; step = h.step; book_is = r.book_is; step_is = r.step_is; fits = tt }, tt)
fit_entered h r (does.Action commands agent targets ins outs) e =
    let s = step_runs h r in
    let can = subst (CanDo h.seen.given) e s.does in
    let first : IsSome (slice_get (places h.step.kind) 0) = subst (λ (k : StepKind). IsSome (slice_get (places k) 0)) (sym e) (first_there (places (does.Action commands agent targets ins outs)) can.0) in
    (fits_inside h (phase.Sending 0) r (refl, first), tt)
fit_entered h r (does.PlaybookAction playbook version in_args out_args) e =
    let n : ℕ = length h.seen.lists.scopes in
    map_known (book_with h.seen.given playbook) (λ theirs. changes.opening h ∷ changes.called (changes.inside h) n in_args theirs) (AreFit h.seen.given (length h.seen.lists.tasks)) (λ theirs known.
    let there : book_at h.seen.given theirs.0 ≡ Some theirs.1 = book_called h.seen.given playbook theirs.0 theirs.1 known in
    let runs = (r.runnable).books theirs.0 theirs.1 there in
    fit_bound h.seen.given (length h.seen.lists.tasks) (suc n) (changes.valued (changes.inside h).seen.lists n in_args)
    (moves h.number (changes.joining (changes.inside h)) ∷ makes (child (changes.inside h) theirs.0 (suc n) (theirs.1).start) ∷ [])
    (fits_inside h (phase.Joining (length h.seen.lists.tasks)) r (refl, r.within), (fits_child (changes.inside h) (length h.seen.lists.tasks) theirs.0 (suc n) theirs.1 (theirs.1).start there runs.start, tt)))
fit_entered h r (does.Parallel a) e = let s = step_runs h r in fit_controlled h r (does.Parallel a) (subst (λ (k : StepKind). All (NamesStep r.book) (head_keys k)) e s.branches)
fit_entered h r (does.If a b c) e = let s = step_runs h r in fit_controlled h r (does.If a b c) (subst (λ (k : StepKind). All (NamesStep r.book) (head_keys k)) e s.branches)
fit_entered h r (does.While a b) e = let s = step_runs h r in fit_controlled h r (does.While a b) (subst (λ (k : StepKind). All (NamesStep r.book) (head_keys k)) e s.branches)
fit_entered h r (does.Switch a b) e = let s = step_runs h r in fit_controlled h r (does.Switch a b) (subst (λ (k : StepKind). All (NamesStep r.book) (head_keys k)) e s.branches)

fit_rejoined : (h : Here) (r : Runs h) (from scope : ℕ) (kind : StepKind) → h.step.kind ≡ kind → AreFit h.seen.given (length h.seen.lists.tasks) (changes.rejoined h from scope kind)
fit_rejoined h r from scope (does.While condition on_true) e = by (is_true h.seen.lists scope condition)
  where
    named_branch : NamesStep r.book on_true
    named_branch = let s = step_runs h r in All-head (NamesStep r.book) on_true [] (subst (λ (k : StepKind). All (NamesStep r.book) (head_keys k)) e s.branches)

    by : (b : Bool) → AreFit h.seen.given (length h.seen.lists.tasks) (cond b (makes (child h h.task.book scope on_true) ∷ []) (changes.done h true))
    by true = (fits_child h (length h.seen.lists.tasks) h.task.book scope r.book on_true r.book_is named_branch, tt)
    by false = fit_done h (length h.seen.lists.tasks) true r
fit_rejoined h r from scope (does.PlaybookAction a b c d) e =
    fit_written h.seen.given (length h.seen.lists.tasks) h.seen.lists scope (option_map_or (λ (root : Task). changes.valued h.seen.lists root.scope d) (slice_get h.seen.lists.tasks from) []) (changes.done h true) (fit_done h (length h.seen.lists.tasks) true r)
fit_rejoined h r from scope does.Start e = fit_done h (length h.seen.lists.tasks) true r
fit_rejoined h r from scope does.End e = fit_done h (length h.seen.lists.tasks) true r
fit_rejoined h r from scope (does.Action a b c d f) e = fit_done h (length h.seen.lists.tasks) true r
fit_rejoined h r from scope (does.Parallel a) e = fit_done h (length h.seen.lists.tasks) true r
fit_rejoined h r from scope (does.If a b c) e = fit_done h (length h.seen.lists.tasks) true r
fit_rejoined h r from scope (does.Switch a b) e = fit_done h (length h.seen.lists.tasks) true r

pub fit_walked : (h : Here) (r : Runs h) (at : Phase) → IfSome (changes.walked h at) (AreFit h.seen.given (length h.seen.lists.tasks))
fit_walked h r (phase.At since) = some_if (nat_le (since + h.step.delay) h.now) (changes.entered h h.step.kind) (AreFit h.seen.given (length h.seen.lists.tasks)) (fit_entered h r h.step.kind refl)
fit_walked h r (phase.Joining from) =
    some_then h.task.step_scope (λ (scope : ℕ). changes.joined h from scope (changes.children h.seen.lists h.number from)) (AreFit h.seen.given (length h.seen.lists.tasks)) (λ scope. joined scope (changes.children h.seen.lists h.number from))
  where
    joined : (scope : ℕ) (branches : List Task) → IfSome (changes.joined h from scope branches) (AreFit h.seen.given (length h.seen.lists.tasks))
    joined scope branches =
        let n : ℕ = length h.seen.lists.tasks in
        let stops : Option (List Edit) = Some (changes.done h false) in
        let goes : Option (List Edit) = Some (changes.rejoined h from scope h.step.kind) in
        let failed : Bool = list_any (λ task. changes.has_failed task.phase) branches in
        two_ways (not (list_all (λ task. changes.has_ended task.phase) branches)) None (cond failed stops goes) (AreFit h.seen.given n) (tt {0})
        (two_ways failed stops goes (AreFit h.seen.given n) (fit_done h n false r) (fit_rejoined h r from scope h.step.kind refl))
fit_walked h r (phase.Sending place) = tt
fit_walked h r (phase.Awaiting place issue) = tt
fit_walked h r (phase.Ended well) = tt
