-- The edits of a record move its task along the links of its playbook, and make tasks where branches and playbooks begin, in scopes that fit.
use Rattle.std.proofs.Common.{◌≡◌, ◌⊎◌, ℕ, suc, ◌+◌, ◌<◌, ◌≤◌, ◌==◌, ◌&&◌, Bool, true, false, cond, List, [], ◌∷◌, ◌++◌, length, map, Contains, Option, Some, None, is_some, arith, refl, ap, sym, subst, ◌∙◌, append_assoc, length-append, inl, inr}
use Rattle.std.specs.Bool.{⊤}
use Rattle.std.specs.Prelude.{IfSome, All, option_and_then, option_map, option_to_list, slice_get, not, nat_le, position}
use Rattle.std.specs.List.{flat_map, list_any, list_all, slice_set}
use Rattle.std.specs.Option.{option_map_or}
use Rattle.std.specs.Str.{bytes_eq}
use Rattle.std.proofs.lemmas.List.Elements.{All-head, All-tail, All-weaker, Contains-push}
use Rattle.cacao_vars.specs.declared.scoping.Scope.{Scope}
use Rattle.cacao_vars.specs.Scopes.{home}
use Rattle.cacao_book.specs.declared.books.Book.{Book}
use Rattle.cacao_book.specs.declared.step_kinds.StepKind.{StepKind}
use Rattle.cacao_book.specs.declared.step_kinds.StepKind.TheVariants as does
use Rattle.cacao_check_steps.specs.Links.{next_keys, start_keys, start_places, GoesTo, Begins}
use Rattle.flow_core_rules.specs.declared.tasks.Task.{Task}
use Rattle.flow_core_rules.specs.declared.phases.Phase.{Phase}
use Rattle.flow_core_rules.specs.declared.phases.Phase.TheVariants as phase
use Rattle.flow_core_rules.specs.Givens.{Given, book_at, book_with, number_of_step}
use Rattle.flow_core_rules.specs.State.{State, Lists}
use Rattle.flow_core_rules.specs.Edits.{Edit, edited, all_edited}
use Rattle.flow_core_rules.specs.Edits.Edit.{opens, writes, makes, moves, issues, closes, upgrades}
use Rattle.flow_core_rules.specs.Conditions.{heads, is_true}
use Rattle.flow_core_rules.specs.Places.{places}
use Rattle.flow_core_rules.specs.Tasks.{Here, is_root, is_call, go, finish, child, next_key, exception_of, in_phase}
use Rattle.flow_core_rules.specs.Changes as changes
use Rattle.flow_core_rules.specs.Changes.{Waiting, has_ended}
use Rattle.flow_core_rules.specs.Runnable.{NamesStep, head_keys, IsRunnableBook, IsRunnableStep}
use Rattle.flow_core_rules.proofs.PlacedLemmas.{some_then, some_if, map_from, two_ways}
use Rattle.flow_core_rules.proofs.FitLemmas.{Runs}
use Rattle.flow_core_rules.proofs.TaskLemmas.{get_set, get_pushed, set_here, push_front}
use Rattle.flow_core_laws.proofs.Somes.{clash, parts_true}
use Rattle.flow_core_laws.specs.ReadInScope.{IsScopeOf}
use Rattle.flow_core_laws.proofs.LinkLemmas.{starts_at, goes_to, both_ways, each_of, branches_begin, taken_heads}

-- the scope of a playbook: its variables, with no scope around it
abbrev pub IsScopeOfBook : List Scope → Book → ℕ → Type 0
IsScopeOfBook scopes book n = slice_get scopes n ≡ Some (record { parent = None; vars = book.variables })

-- Where a task stands after a move: at the same step, in the same scope of it or in one that was opened for it; or at a step to which that one goes on; or, of a
-- root, where its playbook begins again.
pub data IsMoved (h : Here) (b : Book) (ss : List Scope) (task : Task) : Type 0 where
  stays : task.step ≡ h.task.step → task.step_scope ≡ h.task.step_scope → IsMoved h b ss task
  enters : (n : ℕ) → task.step ≡ h.task.step → task.step_scope ≡ Some n → IsScopeOf ss h.task h.step n → IsMoved h b ss task
  goes_on : task.step_scope ≡ None → GoesTo b h.task.step task.step → IsMoved h b ss task
  excepts : task.step_scope ≡ None → is_root h.seen h.task ≡ true → Contains (start_places b) task.step → IsMoved h b ss task

-- Where a task is made: at a branch of the step, in the step's scope, or where a called playbook begins, in its scope.
pub data IsMade (h : Here) (b : Book) (ss : List Scope) (task : Task) : Type 0 where
  branch : task.book ≡ h.task.book → is_call h.step.kind ≡ false → Begins b h.task.step task.step → IsScopeOf ss h.task h.step task.scope → IsMade h b ss task
  call : (theirs : Book) → book_at h.seen.given task.book ≡ Some theirs → Contains (start_places theirs) task.step → IsScopeOfBook ss theirs task.scope → IsMade h b ss task

-- Edits that do so, from such scopes on, and from such a state of the task; whether one was made.
abbrev pub AreRead : Here → Book → List Scope → Task → Bool → List Edit → Type 0
AreRead h b ss cur made [] = ⊤
AreRead h b ss cur made (opens parent vars ∷ es) = AreRead h b (ss ++ (record { parent = parent; vars = vars }) ∷ []) cur made es
AreRead h b ss cur made (writes scope name text ∷ es) = AreRead h b ss cur made es
AreRead h b ss cur made (makes task ∷ es) = (cur.step ≡ h.task.step) × IsMade h b ss task × AreRead h b ss cur true es
AreRead h b ss cur made (moves n task ∷ es) = (n ≡ h.number) × (made ≡ false) × IsMoved h b ss task × AreRead h b ss task made es
AreRead h b ss cur made (issues issue ∷ es) = AreRead h b ss cur made es
AreRead h b ss cur made (closes i end ∷ es) = AreRead h b ss cur made es
AreRead h b ss cur made (upgrades ∷ es) = AreRead h b ss cur made es

-- ---- what such edits leave

moved_more : (h : Here) (b : Book) (ss : List Scope) (new : Scope) (task : Task) → IsMoved h b ss task → IsMoved h b (ss ++ new ∷ []) task
moved_more h b ss new task (stays a e) = stays a e
moved_more h b ss new task (enters n a e scope) = enters n a e (push_front ss new n _ scope)
moved_more h b ss new task (goes_on e link) = goes_on e link
moved_more h b ss new task (excepts e root link) = excepts e root link

made_more : (h : Here) (b : Book) (ss : List Scope) (new : Scope) (task : Task) → IsMade h b ss task → IsMade h b (ss ++ new ∷ []) task
made_more h b ss new task (branch own calls link scope) = branch own calls link (push_front ss new task.scope _ scope)
made_more h b ss new task (call theirs there link scope) = call theirs there link (push_front ss new task.scope _ scope)

-- the task, and those that it made, behind so many
pub record Read (h : Here) (b : Book) (old : ℕ) (x : State) : Type 0 where
  pub last : Task
  pub last_is : slice_get x.tasks h.number ≡ Some last
  pub moved : IsMoved h b x.scopes last
  pub made : (k : ℕ) (task : Task) → old ≤ k → slice_get x.tasks k ≡ Some task → (last.step ≡ h.task.step) × IsMade h b x.scopes task

abbrev AllMade : Here → Book → ℕ → Task → Bool → State → Type 0
AllMade h b old cur made x = (k : ℕ) (task : Task) → old ≤ k → slice_get x.tasks k ≡ Some task → (made ≡ true) × (cur.step ≡ h.task.step) × IsMade h b x.scopes task

module _ (h : Here) (b : Book) (old : ℕ) (within : h.number < old) where
  pub read_after : (es : List Edit) (x : State) (cur : Task) (made : Bool) → AreRead h b x.scopes cur made es → slice_get x.tasks h.number ≡ Some cur → IsMoved h b x.scopes cur → AllMade h b old cur made x
      → Read h b old (all_edited es x)
  read_after [] x cur made own is moved all = record { last = cur; last_is = is; moved = moved; made = λ k task le e. let a = all k task le e in (a.1, a.2) }
  read_after (opens parent vars ∷ es) x cur made own is moved all =
      let new : Scope = record { parent = parent; vars = vars } in
      read_after es (edited (opens parent vars) x) cur made own is (moved_more h b x.scopes new cur moved) (λ k task le e. let a = all k task le e in (a.0, a.1, made_more h b x.scopes new task a.2))
  read_after (writes scope name text ∷ es) x cur made own is moved all = read_after es (edited (writes scope name text) x) cur made own is moved all
  read_after (makes new ∷ es) x cur made own is moved all =
      read_after es (edited (makes new) x) cur true own.2 (push_front x.tasks new h.number cur is) moved (λ k task le e. by k task le (get_pushed x.tasks new task k e))
    where
      by : (k : ℕ) (task : Task) → old ≤ k → (slice_get x.tasks k ≡ Some task) ⊎ ((k ≡ length x.tasks) × (new ≡ task)) → (true ≡ true) × (cur.step ≡ h.task.step) × IsMade h b x.scopes task
      by k task le (inl e) = let a = all k task le e in (refl, a.1, a.2)
      by k task le (inr e) = (refl, own.0, subst (IsMade h b x.scopes) e.1 own.1)
  read_after (moves n new ∷ es) x cur made own is moved all =
      read_after es (edited (moves n new) x) new made own.3 (subst (λ m. slice_get (slice_set x.tasks m new) h.number ≡ Some new) (sym own.0) (set_here x.tasks h.number new cur is)) own.2
      (λ k task le e. absurd (by k task le (get_set x.tasks n new k task e)))
    where
      by : (k : ℕ) (task : Task) → old ≤ k → ((k ≡ n) × (new ≡ task)) ⊎ ((k ≡ n → ⊥) × (slice_get x.tasks k ≡ Some task)) → ⊥
      by k task le (inl e) = let here : k ≡ h.number = e.0 ∙ own.0 in absurd (omega arith)
      by k task le (inr e) = let a = all k task le e.1 in clash made a.0 own.1
  read_after (issues issue ∷ es) x cur made own is moved all = read_after es (edited (issues issue) x) cur made own is moved all
  read_after (closes i end ∷ es) x cur made own is moved all = read_after es (edited (closes i end) x) cur made own is moved all
  read_after (upgrades ∷ es) x cur made own is moved all = read_after es (edited upgrades x) cur made own is moved all

-- ---- a step that is done

-- a link of the step that names a step, and the exception of a root
abbrev IsLink : Here → Book → List ℕ → Type 0
IsLink h b key = Contains (next_keys h.step) key × NamesStep b key

abbrev IsException : Here → Book → List ℕ → Type 0
IsException h b key = (is_root h.seen h.task ≡ true) × Contains (start_keys b) key × NamesStep b key

-- the task of a rule, perhaps inside its step's scope
record Stands (h : Here) (r : Runs h) (ss : List Scope) (task : Task) : Type 0 where
  book_is : book_at h.seen.given task.book ≡ Some r.book
  in_any : (p : Phase) → IsMoved h r.book ss (in_phase task p)

finished : (h : Here) (r : Runs h) (ss : List Scope) (task : Task) → Stands h r ss task → (o : Option (List ℕ)) (well : Bool) (x : Option (List ℕ)) → IfSome o (IsLink h r.book) → IfSome x (IsException h r.book)
    → IsMoved h r.book ss (option_map_or (go h.seen.given h.now task) o (cond well (in_phase task (phase.Ended true)) (option_map_or (λ key. record (go h.seen.given h.now task key) { excepted = true }) x (in_phase task (phase.Ended false)))))
finished h r ss task st (Some key) well x link other = goes_on refl (goes_to h.seen.given task.book h.task.step r.book h.step key st.book_is r.step_is link.0 link.1)
finished h r ss task st None true x link other = st.in_any (phase.Ended true)
finished h r ss task st None false None link other = st.in_any (phase.Ended false)
finished h r ss task st None false (Some key) link other = excepts refl other.0 (starts_at h.seen.given task.book r.book key st.book_is other.1 other.2)

book_runs : (h : Here) (r : Runs h) → IsRunnableBook h.seen.given r.book
book_runs h r = (r.runnable).books h.task.book r.book r.book_is

step_runs : (h : Here) (r : Runs h) → IsRunnableStep h.seen.given r.book h.step
step_runs h r = let b = book_runs h r in b.steps h.task.step h.step r.step_is

link_is : (h : Here) (r : Runs h) (well : Bool) → IfSome (next_key h.step well) (IsLink h r.book)
link_is h r well =
    let steps = step_runs h r in
    both_ways (IsLink h r.book) h.step.completion h.step.success h.step.failure well (each_of r.book (next_keys h.step) steps.goes_on)

exception_is : (h : Here) (r : Runs h) → IfSome (exception_of h.seen h.task) (IsException h r.book)
exception_is h r = by (is_root h.seen h.task && not h.task.excepted) refl
  where
    named : (root : is_root h.seen h.task ≡ true) (o : Option (List ℕ)) → (r.book).exception ≡ o → IfSome o (NamesStep r.book) → IfSome o (IsException h r.book)
    named root None e names = tt
    named root (Some key) e names = (root, subst (λ (o : Option (List ℕ)). Contains ((r.book).start ∷ option_to_list o) key) (sym e) (Contains-push ((r.book).start ∷ []) key), names)

    there : is_root h.seen h.task ≡ true → IfSome (option_and_then (λ (book : Book). book.exception) (book_at h.seen.given h.task.book)) (IsException h r.book)
    there root =
        let b = book_runs h r in
        subst (λ (o : Option Book). IfSome (option_and_then (λ (book : Book). book.exception) o) (IsException h r.book)) (sym r.book_is) (named root (r.book).exception refl b.exception)

    by : (c : Bool) → (is_root h.seen h.task && not h.task.excepted) ≡ c → IfSome (cond c (option_and_then (λ (book : Book). book.exception) (book_at h.seen.given h.task.book)) None) (IsException h r.book)
    by true e = there (parts_true (is_root h.seen h.task) (not h.task.excepted) e).0
    by false e = tt

moved_finish : (h : Here) (r : Runs h) (ss : List Scope) (well : Bool) → Stands h r ss h.task → IsMoved h r.book ss (finish h well)
moved_finish h r ss well st = finished h r ss h.task st (next_key h.step well) well (exception_of h.seen h.task) (link_is h r well) (exception_is h r)

moved_inside : (h : Here) (r : Runs h) (ss : List Scope) (well : Bool) → Stands h r ss (changes.inside h).task → IsMoved h r.book ss (finish (changes.inside h) well)
moved_inside h r ss well st = finished h r ss (changes.inside h).task st (next_key h.step well) well (exception_of h.seen h.task) (link_is h r well) (exception_is h r)

stands_here : (h : Here) (r : Runs h) (ss : List Scope) → Stands h r ss h.task
stands_here h r ss = record { book_is = r.book_is; in_any = λ p. stays refl refl }

stands_inside : (h : Here) (r : Runs h) (ss : List Scope) → IsScopeOf ss h.task h.step (length h.seen.lists.scopes) → Stands h r ss (changes.inside h).task
stands_inside h r ss scope = record { book_is = r.book_is; in_any = λ p. enters (length h.seen.lists.scopes) refl refl scope }

read_done : (h : Here) (r : Runs h) (cur : Task) (ss : List Scope) (well : Bool) → AreRead h r.book ss cur false (changes.done h well)
read_done h r cur ss well = (refl, refl, moved_finish h r ss well (stands_here h r ss), tt)

-- ---- writes

read_written : (h : Here) (b : Book) (ss : List Scope) (cur : Task) (made : Bool) (s : Lists) (scope : ℕ) (ps : List (List ℕ × Option (List ℕ))) (es : List Edit) → AreRead h b ss cur made es
    → AreRead h b ss cur made (flat_map (changes.written s scope) ps ++ es)
read_written h b ss cur made s scope [] es a = a
read_written h b ss cur made s scope (p ∷ ps) es a =
    subst (AreRead h b ss cur made) (sym (append_assoc (changes.written s scope p) (flat_map (changes.written s scope) ps) es))
    (one p (flat_map (changes.written s scope) ps ++ es) (read_written h b ss cur made s scope ps es a))
  where
    one : (p : List ℕ × Option (List ℕ)) (es : List Edit) → AreRead h b ss cur made es → AreRead h b ss cur made (changes.written s scope p ++ es)
    one (name, None) es a = a
    one (name, Some text) es a = by (home s.scopes scope name)
      where
        by : (o : Option ℕ) → AreRead h b ss cur made (option_map_or (λ at. writes at name text ∷ []) o [] ++ es)
        by None = a
        by (Some at) = a

read_bound : (h : Here) (b : Book) (ss : List Scope) (cur : Task) (made : Bool) (scope : ℕ) (ps : List (List ℕ × Option (List ℕ))) (es : List Edit) → AreRead h b ss cur made es
    → AreRead h b ss cur made (flat_map (changes.binding scope) ps ++ es)
read_bound h b ss cur made scope [] es a = a
read_bound h b ss cur made scope (p ∷ ps) es a =
    subst (AreRead h b ss cur made) (sym (append_assoc (changes.binding scope p) (flat_map (changes.binding scope) ps) es))
    (one p (flat_map (changes.binding scope) ps ++ es) (read_bound h b ss cur made scope ps es a))
  where
    one : (p : List ℕ × Option (List ℕ)) (es : List Edit) → AreRead h b ss cur made es → AreRead h b ss cur made (changes.binding scope p ++ es)
    one (name, None) es a = a
    one (name, Some text) es a = a

-- ---- Walk of a task before its step

get_last : {A : Type 0} (xs : List A) (x : A) → slice_get (xs ++ x ∷ []) (length xs) ≡ Some x
get_last [] x = refl
get_last (z ∷ xs) x = get_last xs x

abbrev scope_of : Here → Scope
scope_of h = record { parent = Some h.task.scope; vars = h.step.variables }

read_made : (h : Here) (b : Book) (ss : List Scope) (cur : Task) (made : Bool) (f : List ℕ → Task) (keys : List (List ℕ)) → cur.step ≡ h.task.step → All (λ (key : List ℕ). IsMade h b ss (f key)) keys
    → AreRead h b ss cur made (map (λ key. makes (f key)) keys)
read_made h b ss cur made f [] same all = tt
read_made h b ss cur made f (key ∷ keys) same all =
    (same, All-head (λ (key : List ℕ). IsMade h b ss (f key)) key keys all, read_made h b ss cur true f keys same (All-tail (λ (key : List ℕ). IsMade h b ss (f key)) key keys all))

read_branched : (h : Here) (r : Runs h) (ss : List Scope) (cur : Task) (keys : List (List ℕ)) → IsScopeOf ss h.task h.step (length h.seen.lists.scopes) → is_call h.step.kind ≡ false
    → All (λ (key : List ℕ). Begins r.book h.task.step (number_of_step h.seen.given h.task.book key)) keys
    → AreRead h r.book ss cur false (changes.branched (changes.inside h) (length h.seen.lists.scopes) keys)
read_branched h r ss cur [] scope calls all = (refl, refl, moved_inside h r ss true (stands_inside h r ss scope), tt)
read_branched h r ss cur (key ∷ keys) scope calls all =
    let n : ℕ = length h.seen.lists.scopes in (
      refl,
      refl,
      enters n refl refl scope,
      read_made h r.book ss (changes.joining (changes.inside h)) false (child (changes.inside h) h.task.book n) (key ∷ keys) refl
          (All-weaker (λ (key : List ℕ). Begins r.book h.task.step (number_of_step h.seen.given h.task.book key)) (λ (key : List ℕ). IsMade h r.book ss (child (changes.inside h) h.task.book n key)) (λ key link. branch refl calls link scope) (key ∷ keys) all),
    )

read_controlled : (h : Here) (r : Runs h) (cur : Task) (kind : StepKind) → h.step.kind ≡ kind → is_call kind ≡ false → AreRead h r.book h.seen.lists.scopes cur false (changes.controlled h kind)
read_controlled h r cur kind same calls =
    let n : ℕ = length h.seen.lists.scopes in
    let steps = step_runs h r in
    read_branched h r (h.seen.lists.scopes ++ scope_of h ∷ []) cur (heads (changes.inside h).seen.lists n kind) (get_last h.seen.lists.scopes (scope_of h)) (ap is_call same ∙ calls)
    (taken_heads (λ (key : List ℕ). Begins r.book h.task.step (number_of_step h.seen.given h.task.book key)) (changes.inside h).seen.lists n kind
    (subst (λ (k : StepKind). All (λ (key : List ℕ). Begins r.book h.task.step (number_of_step h.seen.given h.task.book key)) (head_keys k)) same
    (branches_begin h.seen.given h.task.book h.task.step r.book h.step r.book_is r.step_is steps.branches)))

called_is : (given : Given) (id : List ℕ) → IfSome (book_with given id) (λ (theirs : ℕ × Book). book_at given theirs.0 ≡ Some theirs.1)
called_is given id =
    some_then (position (λ (b : Book). bytes_eq b.id id) given.books) (λ (n : ℕ). option_map (λ (b : Book). (n, b)) (book_at given n)) (λ (theirs : ℕ × Book). book_at given theirs.0 ≡ Some theirs.1) (λ n. by n (book_at given n) refl)
  where
    by : (n : ℕ) (o : Option Book) → book_at given n ≡ o → IfSome {T = ℕ × Book} (option_map (λ (b : Book). (n, b)) o) (λ (theirs : ℕ × Book). book_at given theirs.0 ≡ Some theirs.1)
    by n None e = tt
    by n (Some b) e = e

read_called : (h : Here) (r : Runs h) (cur : Task) (in_args : List (List ℕ)) (theirs : ℕ × Book) → book_at h.seen.given theirs.0 ≡ Some theirs.1
    → AreRead h r.book h.seen.lists.scopes cur false (changes.opening h ∷ changes.called (changes.inside h) (length h.seen.lists.scopes) in_args theirs)
read_called h r cur in_args theirs there =
    let n : ℕ = length h.seen.lists.scopes in
    let own : Scope = scope_of h in
    let called : Scope = record { parent = None; vars = (theirs.1).variables } in
    let ss : List Scope = (h.seen.lists.scopes ++ own ∷ []) ++ called ∷ [] in
    let mid : List Scope = h.seen.lists.scopes ++ own ∷ [] in
    let grown : length mid ≡ suc n = omega (arith, length-append h.seen.lists.scopes (own ∷ [])) in
    let b : IsRunnableBook h.seen.given theirs.1 = (r.runnable).books theirs.0 theirs.1 there in
    let first : IsScopeOf ss h.task h.step n = push_front mid called n own (get_last h.seen.lists.scopes own) in
    let second : IsScopeOfBook ss theirs.1 (suc n) = subst (λ m. slice_get ss m ≡ Some called) grown (get_last mid called) in
    read_bound h r.book ss cur false (suc n) (changes.valued (changes.inside h).seen.lists n in_args)
    (moves h.number (changes.joining (changes.inside h)) ∷ makes (child (changes.inside h) theirs.0 (suc n) (theirs.1).start) ∷ [])
    (refl, refl, enters n refl refl first, (refl, call theirs.1 there (starts_at h.seen.given theirs.0 theirs.1 (theirs.1).start there (0, omega arith, refl) b.start) second, tt))

read_entered : (h : Here) (r : Runs h) (cur : Task) (kind : StepKind) → h.step.kind ≡ kind → IfSome (changes.entered h kind) (AreRead h r.book h.seen.lists.scopes cur false)
read_entered h r cur does.Start same = read_done h r cur h.seen.lists.scopes true
read_entered h r cur does.End same = (refl, refl, stays refl refl, tt)
read_entered h r cur (does.Action a b c d e) same = (refl, refl, enters (length h.seen.lists.scopes) refl refl (get_last h.seen.lists.scopes (scope_of h)), tt)
read_entered h r cur (does.PlaybookAction playbook version in_args out_args) same =
    map_from (book_with h.seen.given playbook) (λ (theirs : ℕ × Book). changes.opening h ∷ changes.called (changes.inside h) (length h.seen.lists.scopes) in_args theirs)
    (λ (theirs : ℕ × Book). book_at h.seen.given theirs.0 ≡ Some theirs.1) (AreRead h r.book h.seen.lists.scopes cur false) (called_is h.seen.given playbook) (λ theirs there. read_called h r cur in_args theirs there)
read_entered h r cur (does.Parallel a) same = read_controlled h r cur (does.Parallel a) same refl
read_entered h r cur (does.If a b c) same = read_controlled h r cur (does.If a b c) same refl
read_entered h r cur (does.While a b) same = read_controlled h r cur (does.While a b) same refl
read_entered h r cur (does.Switch a b) same = read_controlled h r cur (does.Switch a b) same refl

-- ---- Walk of a task that joins

read_choice : (h : Here) (b : Book) (ss : List Scope) (cur : Task) (test : Bool) (xs ys : List Edit) → AreRead h b ss cur false xs → AreRead h b ss cur false ys → AreRead h b ss cur false (cond test xs ys)
read_choice h b ss cur true xs ys x y = x
read_choice h b ss cur false xs ys x y = y

read_rejoined : (h : Here) (r : Runs h) (from scope : ℕ) (kind : StepKind) → h.step.kind ≡ kind → IsScopeOf h.seen.lists.scopes h.task h.step scope
    → AreRead h r.book h.seen.lists.scopes h.task false (changes.rejoined h from scope kind)
read_rejoined h r from scope (does.While condition on_true) same at =
    let steps = step_runs h r in
    let P : List ℕ → Type 0 = λ (key : List ℕ). Begins r.book h.task.step (number_of_step h.seen.given h.task.book key) in
    let all : All P (on_true ∷ []) = subst (λ (k : StepKind). All P (head_keys k)) same (branches_begin h.seen.given h.task.book h.task.step r.book h.step r.book_is r.step_is steps.branches) in
    read_choice h r.book h.seen.lists.scopes h.task (is_true h.seen.lists scope condition) (makes (child h h.task.book scope on_true) ∷ []) (changes.done h true)
    (refl, branch refl (ap is_call same) (All-head P on_true [] all) at, tt) (read_done h r h.task h.seen.lists.scopes true)
read_rejoined h r from scope (does.PlaybookAction a b c d) same at =
    read_written h r.book h.seen.lists.scopes h.task false h.seen.lists scope (option_map_or (λ (root : Task). changes.valued h.seen.lists root.scope d) (slice_get h.seen.lists.tasks from) []) (changes.done h true)
    (read_done h r h.task h.seen.lists.scopes true)
read_rejoined h r from scope does.Start same at = read_done h r h.task h.seen.lists.scopes true
read_rejoined h r from scope does.End same at = read_done h r h.task h.seen.lists.scopes true
read_rejoined h r from scope (does.Action a b c d e) same at = read_done h r h.task h.seen.lists.scopes true
read_rejoined h r from scope (does.Parallel a) same at = read_done h r h.task h.seen.lists.scopes true
read_rejoined h r from scope (does.If a b c) same at = read_done h r h.task h.seen.lists.scopes true
read_rejoined h r from scope (does.Switch a b) same at = read_done h r h.task h.seen.lists.scopes true

pub read_at : (h : Here) (r : Runs h) (since : ℕ) → IfSome (changes.walked h (phase.At since)) (AreRead h r.book h.seen.lists.scopes h.task false)
read_at h r since = some_if (nat_le (since + h.step.delay) h.now) (changes.entered h h.step.kind) (AreRead h r.book h.seen.lists.scopes h.task false) (read_entered h r h.task h.step.kind refl)

-- it joins once all have ended
abbrev pub JoinsRead : Here → Book → ℕ → List Edit → Type 0
JoinsRead h b from es = AreRead h b h.seen.lists.scopes h.task false es × (list_all (λ one. has_ended one.phase) (changes.children h.seen.lists h.number from) ≡ true)

pub read_joined : (h : Here) (r : Runs h) (from scope : ℕ) → IsScopeOf h.seen.lists.scopes h.task h.step scope
    → IfSome (changes.joined h from scope (changes.children h.seen.lists h.number from)) (JoinsRead h r.book from)
read_joined h r from scope at = by (list_all (λ one. has_ended one.phase) branches) refl
  where
    branches : List Task
    branches = changes.children h.seen.lists h.number from

    stops : Option (List Edit)
    stops = Some (changes.done h false)

    goes : Option (List Edit)
    goes = Some (changes.rejoined h from scope h.step.kind)

    by : (c : Bool) → list_all (λ one. has_ended one.phase) branches ≡ c → IfSome (cond (not c) None (cond (list_any (λ one. changes.has_failed one.phase) branches) stops goes)) (JoinsRead h r.book from)
    by false e = tt
    by true e =
        two_ways (list_any (λ one. changes.has_failed one.phase) branches) stops goes (JoinsRead h r.book from) (read_done h r h.task h.seen.lists.scopes false, e)
        (read_rejoined h r from scope h.step.kind refl at, e)

-- ---- an issue is made, or ends

pub read_moved : (h : Here) (r : Runs h) (p : Phase) → AreRead h r.book h.seen.lists.scopes h.task false (moves h.number (in_phase h.task p) ∷ [])
read_moved h r p = (refl, refl, stays refl refl, tt)

pub read_answered : (h : Here) (r : Runs h) (w : Waiting) (status : ℕ) (ps : List (List ℕ × Option (List ℕ))) → w.here ≡ h
    → AreRead h r.book h.seen.lists.scopes h.task false (flat_map (changes.written h.seen.lists w.scope) ps ++ moves h.number (changes.after_answer w status) ∷ [])
read_answered h r w status ps same =
    read_written h r.book h.seen.lists.scopes h.task false h.seen.lists w.scope ps (moves h.number (changes.after_answer w status) ∷ []) (refl, refl, moved, tt)
  where
    after : (g : Here) → w.here ≡ g → ((well : Bool) → IsMoved h r.book h.seen.lists.scopes (finish g well)) → ((p : Phase) → IsMoved h r.book h.seen.lists.scopes (in_phase g.task p)) → (a b : Bool)
        → IsMoved h r.book h.seen.lists.scopes (cond a (finish g false) (cond b (in_phase g.task (phase.Sending (suc w.place))) (finish g true)))
    after g is finishes in_any true b = finishes false
    after g is finishes in_any false true = in_any (phase.Sending (suc w.place))
    after g is finishes in_any false false = finishes true

    moved : IsMoved h r.book h.seen.lists.scopes (changes.after_answer w status)
    moved =
        subst (λ (g : Here). IsMoved h r.book h.seen.lists.scopes (cond (not (status == 200)) (finish g false) (cond (is_some (slice_get (places g.step.kind) (suc w.place))) (in_phase g.task (phase.Sending (suc w.place))) (finish g true)))) (sym same)
        (after h same (λ well. moved_finish h r h.seen.lists.scopes well (stands_here h r h.seen.lists.scopes)) (λ p. stays refl refl) (not (status == 200)) (is_some (slice_get (places h.step.kind) (suc w.place))))

pub read_expired : (h : Here) (r : Runs h) → AreRead h r.book h.seen.lists.scopes h.task false (changes.done h false)
read_expired h r = read_done h r h.task h.seen.lists.scopes false
