-- In each state of a run the scopes of each task agree with the regions of its playbook.
use Rattle.std.proofs.Common.{◌≡◌, ◌⊎◌, ℕ, ◌<◌, ◌≤◌, Bool, true, false, List, [], ◌∷◌, ◌++◌, length, map, Option, Some, None, is_some, arith, refl, ap, sym, subst, ◌∙◌, inl, inr}
use Rattle.std.specs.Prelude.{IfSome, nat_eq, option_and_then, option_map, slice_get}
use Rattle.std.specs.Option.{option_map_or}
use Rattle.std.specs.List.{list_all}
use Rattle.run_records.specs.declared.record.Record.{Record}
use Rattle.run_records.specs.declared.record.Record.TheVariants as entry
use Rattle.cacao_vars.specs.declared.scoping.Scope.{Scope}
use Rattle.cacao_vars.specs.Declarations.{declared}
use Rattle.cacao_vars.specs.Scopes.{HasParentsBefore, home_declaration}
use Rattle.cacao_book.specs.declared.books.Book.{Book}
use Rattle.cacao_book.specs.declared.steps.Step.{Step}
use Rattle.cacao_check_steps.specs.Links.{declares}
use Rattle.cacao_check_regions.specs.Regions.{Outside, nearer, ScopesAgree}
use Rattle.cacao_check_regions.proofs.SeenLemmas.{scopes_agree}
use Rattle.flow_core_rules.specs.declared.tasks.Task.{Task}
use Rattle.flow_core_rules.specs.declared.phases.Phase.{Phase}
use Rattle.flow_core_rules.specs.declared.phases.Phase.TheVariants as phase
use Rattle.flow_core_rules.specs.Givens.{Given, book_at, step_at}
use Rattle.flow_core_rules.specs.State.{State, Shown, shown}
use Rattle.flow_core_rules.specs.Edits.{Edit, edited, all_edited}
use Rattle.flow_core_rules.specs.Edits.Edit.{opens, writes, makes}
use Rattle.flow_core_rules.specs.Tasks.{Here, is_call, is_root, stands_at_call}
use Rattle.flow_core_rules.specs.Changes.{has_ended, children, is_child_of, moment_of}
use Rattle.flow_core_rules.specs.Runs.{Next, GoesOn, Leads, after, begun, begin_of, blank, first_task}
use Rattle.flow_core_rules.specs.Runnable.{IsRunnable, IsRunnableBook}
use Rattle.flow_core_rules.specs.Sane.{IsSane, IsSaneTask, IsAwaitedBy, JoinsFrom}
use Rattle.flow_core_rules.proofs.RunLemmas.{some_inner, runs_go_on}
use Rattle.flow_core_rules.proofs.QuietLemmas.{keeps_given}
use Rattle.flow_core_rules.proofs.HereLemmas.{here_of}
use Rattle.flow_core_rules.proofs.TaskLemmas.{get_pushed, get_within}
use Rattle.flow_core_rules.proofs.SaneRuns.{runs_are_sane}
use Rattle.flow_core_laws.specs.OwnTask.{task_of, KeepsPlace, Goes, MayMake, ChangesOwnTask}
use Rattle.flow_core_laws.proofs.Somes.{none_some, clash}
use Rattle.flow_core_laws.proofs.Children.{all_filtered, is_own, none_past}
use Rattle.flow_core_laws.proofs.OwnTask.{records_change_own_task}
use Rattle.flow_core_laws.specs.ReadInScope.{IsScopeOf, TasksReadInScope}
use Rattle.flow_core_laws.proofs.HomeLemmas.{declared_inside, declared_alone, get_front, declared_still}
use Rattle.flow_core_laws.proofs.LinkLemmas.{starts_at}
use Rattle.flow_core_laws.proofs.ScopedEdits.{IsScopeOfBook, IsMoved, IsMade, Read, read_after}
use Rattle.flow_core_laws.proofs.ScopedEdits.IsMoved.{stays, enters, goes_on, excepts}
use Rattle.flow_core_laws.proofs.ScopedEdits.IsMade.{branch, call}
use Rattle.flow_core_laws.proofs.ScopedRecords.{joins_at, OwnRead, change_read, read_of}

-- what holds of a task
record IsScoped (s : State) (task : Task) : Type 0 where
  outside : (book : Book) (name : List ℕ) → book_at s.given task.book ≡ Some book → Outside book name task.step (home_declaration s.scopes task.scope name)
  step_scope : (n : ℕ) (step : Step) → task.step_scope ≡ Some n → step_at s.given task.book task.step ≡ Some step → IsScopeOf s.scopes task step n
  root : (book : Book) → book_at s.given task.book ≡ Some book → has_ended task.phase ≡ false → is_root (shown s) task ≡ true → IsScopeOfBook s.scopes book task.scope

abbrev AllScoped : State → Type 0
AllScoped s = (t : ℕ) (task : Task) → slice_get s.tasks t ≡ Some task → IsScoped s task

same_number : (a b : ℕ) → a ≡ b → nat_eq a b ≡ true
same_number a b h = grind arith

pub parents_before : (s : State) → IsSane (shown s) → HasParentsBefore s.scopes
parents_before s sane k = by (slice_get s.scopes k) refl
  where
    by : (o : Option Scope) → slice_get s.scopes k ≡ o → IfSome (option_and_then (λ (x : Scope). x.parent) o) (λ p. p < k)
    by None e = tt
    by (Some scope) e = sane.scopes k scope e

-- a task that joins
record Joins (t : ℕ) (at : Phase) : Type 0 where
  from : ℕ
  joins : joins_at at ≡ Some from
  le : from ≤ t

joins_from : (t : ℕ) (at : Phase) → JoinsFrom t at → Joins t at
joins_from t (phase.Joining from) h = record { from = from; joins = refl; le = h }
joins_from t (phase.At since) h = absurd h
joins_from t (phase.Sending place) h = absurd h
joins_from t (phase.Awaiting place issue) h = absurd h
joins_from t (phase.Ended well) h = absurd h

-- what a Walk makes is a child of its task
record IsChild (n : ℕ) (task : Task) : Type 0 where
  parent_is : task.parent ≡ Some n
  no_step_scope : task.step_scope ≡ None

made_child : (s : Shown) (r : Record) (n : ℕ) (task : Task) → MayMake r task → task_of s r ≡ Some n → IsChild n task
made_child s (entry.Walk t moment) n task made e = record { parent_is = made.parent_is ∙ e; no_step_scope = made.no_step_scope }
made_child s (entry.Begin run moment books bind) n task made e = absurd made
made_child s (entry.Send t issue agent moment bytes) n task made e = absurd made
made_child s (entry.Reply issue moment status rule text) n task made e = absurd made
made_child s (entry.Expire issue moment) n task made e = absurd made
made_child s (entry.Upgrade version moment) n task made e = absurd made
made_child s (entry.Ask t issue moment bytes) n task made e = absurd made
made_child s (entry.Told issue moment status text) n task made e = absurd made

made_by : (s : Shown) (r : Record) (task : Task) → MayMake r task → (n : ℕ) × (task_of s r ≡ Some n)
made_by s (entry.Walk t moment) task made = (t, refl)
made_by s (entry.Begin run moment books bind) task made = absurd made
made_by s (entry.Send t issue agent moment bytes) task made = absurd made
made_by s (entry.Reply issue moment status rule text) task made = absurd made
made_by s (entry.Expire issue moment) task made = absurd made
made_by s (entry.Upgrade version moment) task made = absurd made
made_by s (entry.Ask t issue moment bytes) task made = absurd made
made_by s (entry.Told issue moment status text) task made = absurd made

abbrev call_at : Given → Task → Bool
call_at given x = option_map_or (λ (step : Step). is_call step.kind) (step_at given x.book x.step) false

call_is : (s : State) (p : ℕ) (x : Task) → slice_get s.tasks p ≡ Some x → stands_at_call (shown s) p ≡ call_at s.given x
call_is s p x e = ap (λ (o : Option Task). option_map_or (λ (task : Task). option_map_or (λ (step : Step). is_call step.kind) (step_at s.given task.book task.step) false) o false) e

-- ---- one record

module _ (s : State) (r : Record) (edits : List Edit) (c : ChangesOwnTask s (after (moment_of r) edits s) r (task_of (shown s) r)) (runnable : IsRunnable s.given) (sane : IsSane (shown s)) (sane_new : IsSane (shown (after (moment_of r) edits s))) (all : AllScoped s) (shape : (t : ℕ) → task_of (shown s) r ≡ Some t → OwnRead s (task_of (shown s) r) edits) where
  abbrev later : State
  later = after (moment_of r) edits s

  given_is : later.given ≡ s.given
  given_is = c.given

  still : (k : ℕ) (name : List ℕ) → k < length s.scopes → home_declaration later.scopes k name ≡ home_declaration s.scopes k name
  still k name less =
      subst (λ (ss : List Scope). home_declaration ss k name ≡ home_declaration s.scopes k name) (sym c.texts.scopes_are)
      (declared_still s.scopes c.texts.opened (parents_before s sane) (subst HasParentsBefore c.texts.scopes_are (parents_before later sane_new)) name k less)

  kept : (k : ℕ) (x : Scope) → slice_get s.scopes k ≡ Some x → slice_get later.scopes k ≡ Some x
  kept k x e = subst (λ (ss : List Scope). slice_get ss k ≡ Some x) (sym c.texts.scopes_are) (get_front s.scopes c.texts.opened k (get_within s.scopes k x e) ∙ e)

  book_before : (n : ℕ) (book : Book) → book_at later.given n ≡ Some book → book_at s.given n ≡ Some book
  book_before n book e = subst (λ (g : Given). book_at g n ≡ Some book) given_is e

  step_before : (n m : ℕ) (step : Step) → step_at later.given n m ≡ Some step → step_at s.given n m ≡ Some step
  step_before n m step e = subst (λ (g : Given). step_at g n m ≡ Some step) given_is e

  -- a record's task has no child that goes on, so the parent of one that goes on stays as it was
  no_child : (t : ℕ) (task : Task) (p : ℕ) → slice_get s.tasks t ≡ Some task → has_ended task.phase ≡ false → task.parent ≡ Some p → task_of (shown s) r ≡ Some p → ⊥
  no_child t task p is going parent own =
      let o : OwnRead s (task_of (shown s) r) edits = shape p own in
      let k : IsSaneTask (shown s) t task = sane.tasks t task is in
      let a : IsAwaitedBy (shown s) t task.phase p = subst (λ (x : Option ℕ). IfSome x (IsAwaitedBy (shown s) t task.phase)) parent k.parent in
      let number : o.number ≡ p = some_inner o.number p (sym o.number_is ∙ own) in
      let same : a.by ≡ o.was = some_inner a.by o.was (sym a.by_is ∙ ap (slice_get s.tasks) (sym number) ∙ o.was_is) in
      let j : Joins t (a.by).phase = joins_from t (a.by).phase (a.joins going) in
      let ended : list_all (λ one. has_ended one.phase) (children (shown s).lists o.number j.from) ≡ true = o.free j.from (ap (λ (x : Task). joins_at x.phase) (sym same) ∙ j.joins) in
      let child : is_child_of o.number task ≡ true = ap (λ (x : Option ℕ). option_map_or (nat_eq o.number) x false) parent ∙ same_number o.number p number in
      clash (has_ended task.phase) (all_filtered (λ one. has_ended one.phase) (is_child_of o.number) s.tasks j.from ended t task j.le is child) going

  root_before : (t : ℕ) (task moved : Task) → slice_get s.tasks t ≡ Some task → has_ended task.phase ≡ false → moved.parent ≡ task.parent → is_root (shown later) moved ≡ true → is_root (shown s) task ≡ true
  root_before t task moved is going same root = by task.parent refl (subst (λ (x : Option ℕ). option_map_or (stands_at_call (shown later)) x true ≡ true) same root)
    where
      by : (o : Option ℕ) → task.parent ≡ o → option_map_or (stands_at_call (shown later)) o true ≡ true → option_map_or (stands_at_call (shown s)) o true ≡ true
      by None e h = refl
      by (Some p) e h =
          let k : IsSaneTask (shown s) t task = sane.tasks t task is in
          let a : IsAwaitedBy (shown s) t task.phase p = subst (λ (x : Option ℕ). IfSome x (IsAwaitedBy (shown s) t task.phase)) e k.parent in
          let there : slice_get later.tasks p ≡ Some a.by = c.tasks.others p a.by a.by_is (λ own. no_child t task p is going e own) in
          call_is s p a.by a.by_is ∙ sym (ap (λ (g : Given). call_at g a.by) given_is) ∙ sym (call_is later p a.by there) ∙ h

  -- one of another task
  other_scoped : (t : ℕ) (task : Task) → slice_get s.tasks t ≡ Some task → IsScoped later task
  other_scoped t task is =
      let i : IsScoped s task = all t task is in
      let k : IsSaneTask (shown s) t task = sane.tasks t task is in
      record {
        outside = λ book name e. subst (Outside book name task.step) (sym (still task.scope name k.scope)) (i.outside book name (book_before task.book book e));
        step_scope = λ n step at e. kept n _ (i.step_scope n step at (step_before task.book task.step step e));
        root = λ book e going root. kept task.scope _ (i.root book (book_before task.book book e) going (root_before t task task is going refl root));
      }

  -- the record's own
  module _ (o : OwnRead s (task_of (shown s) r) edits) where
    abbrev here : Here
    here = here_of (shown s) o.now o.number o.was o.step

    same_book : (book : Book) (n : ℕ) → n ≡ (o.was).book → book_at later.given n ≡ Some book → book ≡ o.book
    same_book book n same e = some_inner book o.book (sym (subst (λ m. book_at s.given m ≡ Some book) same (book_before n book e)) ∙ o.book_is)

    own_scoped : (last : Task) → KeepsPlace o.was last → has_ended (o.was).phase ≡ false → IsMoved here o.book later.scopes last → IsScoped later last
    own_scoped last place going moved = record {
      outside = λ book name e. subst (λ (b : Book). Outside b name last.step (home_declaration later.scopes last.scope name)) (sym (same_book book last.book place.1 e)) (outside moved name);
      step_scope = λ n step at e. step_scope moved n step at (own_step step e);
      root = λ book e goes root. subst (λ (b : Book). IsScopeOfBook later.scopes b last.scope) (sym (same_book book last.book place.1 e)) (root_scope root);
    }
      where
        i : IsScoped s o.was
        i = all o.number o.was o.was_is

        own_sane : IsSaneTask (shown s) o.number o.was
        own_sane = sane.tasks o.number o.was o.was_is

        same_declared : (name : List ℕ) → home_declaration later.scopes last.scope name ≡ home_declaration s.scopes (o.was).scope name
        same_declared name = ap (λ k. home_declaration later.scopes k name) place.2 ∙ still (o.was).scope name (let k = own_sane in k.scope)

        -- before the move, from the scope that stays
        around : (name : List ℕ) → Outside o.book name (o.was).step (home_declaration later.scopes last.scope name)
        around name = subst (Outside o.book name (o.was).step) (sym (same_declared name)) (i.outside o.book name o.book_is)

        root_scope : is_root (shown later) last ≡ true → IsScopeOfBook later.scopes o.book last.scope
        root_scope root =
            subst (IsScopeOfBook later.scopes o.book) (sym place.2) (kept (o.was).scope _ (i.root o.book o.book_is going (root_before o.number o.was last o.was_is going place.0 root)))

        agree : ScopesAgree
        agree = scopes_agree

        outside : IsMoved (here_of (shown s) o.now o.number o.was o.step) o.book later.scopes last → (name : List ℕ) → Outside o.book name last.step (home_declaration later.scopes last.scope name)
        outside (stays same e) name = subst (λ k. Outside o.book name k (home_declaration later.scopes last.scope name)) (sym same) (around name)
        outside (enters n same e scope) name = subst (λ k. Outside o.book name k (home_declaration later.scopes last.scope name)) (sym same) (around name)
        outside (goes_on e link) name = let a = agree in a.goes_on o.book name (o.was).step last.step (home_declaration later.scopes last.scope name) link (around name)
        outside (excepts e root link) name =
            let a = agree in
            let top : home_declaration s.scopes (o.was).scope name ≡ declared (o.book).variables name = declared_alone s.scopes (o.was).scope (o.book).variables name (i.root o.book o.book_is going root) in
            subst (Outside o.book name last.step) (sym (same_declared name ∙ top)) (a.starts o.book name last.step link)

        own_step : (step : Step) → step_at later.given last.book last.step ≡ Some step → step_at s.given (o.was).book last.step ≡ Some step
        own_step step e = subst (λ n. step_at s.given n last.step ≡ Some step) place.1 (step_before last.book last.step step e)

        of_own : (n : ℕ) (step : Step) → IsScopeOf later.scopes o.was step n → IsScopeOf later.scopes last step n
        of_own n step scope = subst (λ k. slice_get later.scopes n ≡ Some (record { parent = Some k; vars = step.variables })) (sym place.2) scope

        step_scope : IsMoved (here_of (shown s) o.now o.number o.was o.step) o.book later.scopes last → (n : ℕ) (step : Step) → last.step_scope ≡ Some n → step_at s.given (o.was).book last.step ≡ Some step
            → IsScopeOf later.scopes last step n
        step_scope (stays same scope) n step at e = of_own n step (kept n _ (i.step_scope n step (sym scope ∙ at) (subst (λ k. step_at s.given (o.was).book k ≡ Some step) same e)))
        step_scope (enters m same scope is) n step at e =
            let number : m ≡ n = some_inner m n (sym scope ∙ at) in
            let same_step : o.step ≡ step = some_inner o.step step (sym o.step_is ∙ subst (λ k. step_at s.given (o.was).book k ≡ Some step) same e) in
            of_own n step (subst (λ k. IsScopeOf later.scopes o.was step k) number (subst (λ (x : Step). IsScopeOf later.scopes o.was x m) same_step is))
        step_scope (goes_on none link) n step at e = absurd (none_some n (sym none ∙ at))
        step_scope (excepts none root link) n step at e = absurd (none_some n (sym none ∙ at))

    -- a task that it makes
    made_scoped : (last task : Task) → slice_get later.tasks o.number ≡ Some last → KeepsPlace o.was last → last.step ≡ (o.was).step → IsChild o.number task → IsMade here o.book later.scopes task → IsScoped later task
    made_scoped last task last_is place stands child (branch own calls link scope) = record {
      outside = λ book name e. subst (λ (b : Book). Outside b name task.step (home_declaration later.scopes task.scope name)) (sym (same_book book task.book own e)) (outside name);
      step_scope = λ n step at e. absurd (none_some n (sym child.no_step_scope ∙ at));
      root = λ book e going root. absurd (clash true refl (sym root ∙ no_root));
    }
      where
        i : IsScoped s o.was
        i = all o.number o.was o.was_is

        own_sane : IsSaneTask (shown s) o.number o.was
        own_sane = sane.tasks o.number o.was o.was_is

        agree : ScopesAgree
        agree = scopes_agree

        earlier : (o.was).scope < task.scope
        earlier = sane_new.scopes task.scope (record { parent = Some (o.was).scope; vars = (o.step).variables }) scope

        is_declared : (name : List ℕ) → home_declaration later.scopes task.scope name ≡ nearer (declares o.book name (o.was).step) (home_declaration s.scopes (o.was).scope name)
        is_declared name =
            let k = own_sane in
            declared_inside later.scopes task.scope (o.was).scope (o.step).variables name (parents_before later sane_new) scope earlier
            ∙ ap (nearer (declared (o.step).variables name)) (still (o.was).scope name k.scope)
            ∙ ap (λ x. nearer x (home_declaration s.scopes (o.was).scope name)) (sym (ap (option_and_then (λ (x : Step). declared x.variables name)) o.there))

        outside : (name : List ℕ) → Outside o.book name task.step (home_declaration later.scopes task.scope name)
        outside name =
            let a = agree in
            subst (Outside o.book name task.step) (sym (is_declared name)) (a.branches o.book name (o.was).step task.step (home_declaration s.scopes (o.was).scope name) link (i.outside o.book name o.book_is))

        no_root : is_root (shown later) task ≡ false
        no_root =
            ap (λ (x : Option ℕ). option_map_or (stands_at_call (shown later)) x true) child.parent_is ∙ call_is later o.number last last_is
            ∙ ap (λ (g : Given). option_map_or (λ (x : Step). is_call x.kind) (step_at g last.book last.step) false) given_is
            ∙ ap (λ n. option_map_or (λ (x : Step). is_call x.kind) (step_at s.given n last.step) false) place.1
            ∙ ap (λ n. option_map_or (λ (x : Step). is_call x.kind) (step_at s.given (o.was).book n) false) stands
            ∙ ap (λ x. option_map_or (λ (x : Step). is_call x.kind) x false) o.step_is
            ∙ calls
    made_scoped last task last_is place stands child (call theirs there link scope) = record {
      outside = λ book name e. subst (λ (b : Book). Outside b name task.step (home_declaration later.scopes task.scope name)) (theirs_is book e) (outside name);
      step_scope = λ n step at e. absurd (none_some n (sym child.no_step_scope ∙ at));
      root = λ book e going root. subst (λ (b : Book). IsScopeOfBook later.scopes b task.scope) (theirs_is book e) scope;
    }
      where
        theirs_is : (book : Book) → book_at later.given task.book ≡ Some book → theirs ≡ book
        theirs_is book e = some_inner theirs book (sym there ∙ book_before task.book book e)

        outside : (name : List ℕ) → Outside theirs name task.step (home_declaration later.scopes task.scope name)
        outside name =
            let a : ScopesAgree = scopes_agree in
            subst (Outside theirs name task.step) (sym (declared_alone later.scopes task.scope theirs.variables name scope)) (a.starts theirs name task.step link)

    past : (k : ℕ) (x : Task) → length s.tasks ≤ k → slice_get s.tasks k ≡ Some x → ⊥
    past k x le e = let less : k < length s.tasks = get_within s.tasks k x e in omega arith

    read : Read here o.book (length s.tasks) (all_edited edits s)
    read =
        read_after (here_of (shown s) o.now o.number o.was o.step) o.book (length s.tasks) (get_within s.tasks o.number o.was o.was_is) edits s o.was false o.read o.was_is (stays refl refl)
        (λ k x le e. absurd (past k x le e))

  -- each task after the record
  record_scoped : AllScoped (after (moment_of r) edits s)
  record_scoped t task e = by (slice_get s.tasks t) refl
    where
      moved : (was : Task) → slice_get s.tasks t ≡ Some was → task_of (shown s) r ≡ Some t → IsScoped later task
      moved was is own =
          let o : OwnRead s (task_of (shown s) r) edits = shape t own in
          let number : o.number ≡ t = some_inner o.number t (sym o.number_is ∙ own) in
          let g : Goes s later o.number = c.tasks.its_own o.number o.number_is in
          let done : Read (here_of (shown s) o.now o.number o.was o.step) o.book (length s.tasks) (all_edited edits s) = read o in
          let same_was : g.was ≡ o.was = some_inner g.was o.was (sym g.was_is ∙ o.was_is) in
          let same_now : g.now ≡ done.last = some_inner g.now done.last (sym g.now_is ∙ done.last_is) in
          let same_task : done.last ≡ task = some_inner done.last task (sym done.last_is ∙ ap (slice_get (all_edited edits s).tasks) number ∙ e) in
          let place : KeepsPlace o.was done.last = subst (λ (x : Task). KeepsPlace x done.last) same_was (subst (KeepsPlace g.was) same_now g.keeps) in
          let going : has_ended (o.was).phase ≡ false = subst (λ (x : Task). has_ended x.phase ≡ false) same_was g.goes_on in
          subst (IsScoped later) same_task (own_scoped o done.last place going done.moved)

      made : MayMake r task → length s.tasks ≤ t → IsScoped later task
      made m le =
          let by = made_by (shown s) r task m in
          let o : OwnRead s (task_of (shown s) r) edits = shape by.0 by.1 in
          let g : Goes s later o.number = c.tasks.its_own o.number o.number_is in
          let done : Read (here_of (shown s) o.now o.number o.was o.step) o.book (length s.tasks) (all_edited edits s) = read o in
          let same_was : g.was ≡ o.was = some_inner g.was o.was (sym g.was_is ∙ o.was_is) in
          let same_now : g.now ≡ done.last = some_inner g.now done.last (sym g.now_is ∙ done.last_is) in
          let place : KeepsPlace o.was done.last = subst (λ (x : Task). KeepsPlace x done.last) same_was (subst (KeepsPlace g.was) same_now g.keeps) in
          let there = done.made t task le e in
          made_scoped o done.last task done.last_is place there.0 (made_child (shown s) r o.number task m o.number_is) there.1

      by : (o : Option Task) → slice_get s.tasks t ≡ o → IsScoped later task
      by None is = let le : length s.tasks ≤ t = none_past s.tasks t is in made (c.tasks.made t task le e) le
      by (Some was) is = one (is_own (task_of (shown s) r) t)
        where
          one : (task_of (shown s) r ≡ Some t) ⊎ (task_of (shown s) r ≡ Some t → ⊥) → IsScoped later task
          one (inl own) = moved was is own
          one (inr apart) =
              let same : was ≡ task = some_inner was task (sym (c.tasks.others t was is apart) ∙ e) in
              subst (IsScoped later) same (other_scoped t was is)

next_scoped : (s new : State) (r : Record) → Next s r new → IsRunnable s.given → IsSane (shown s) → IsSane (shown new) → AllScoped s → AllScoped new
next_scoped s new r next runnable sane sane_new all =
    let there : State = after (moment_of r) next.edits s in
    let again : Next s r there = record { edits = next.edits; change_is = next.change_is; new_is = refl } in
    let scoped : (t : ℕ) (task : Task) (n : ℕ) (step : Step) → slice_get s.tasks t ≡ Some task → task.step_scope ≡ Some n → step_at s.given task.book task.step ≡ Some step → IsScopeOf s.scopes task step n =
    λ t task n step is at e. let i : IsScoped s task = all t task is in i.step_scope n step at e in
    subst AllScoped (sym next.new_is)
    (record_scoped s r next.edits (records_change_own_task s there r again) runnable sane (subst (λ (x : State). IsSane (shown x)) next.new_is sane_new) all
    (λ t own. read_of s runnable scoped r next.edits t (change_read s runnable scoped r next.edits next.change_is) own))

-- ---- the first record

bound_tasks : (bound : List (List ℕ × List ℕ)) (task : Task) (x : State) → (all_edited (map (λ b. writes 0 b.0 b.1) bound ++ makes task ∷ []) x).tasks ≡ x.tasks ++ task ∷ []
bound_tasks [] task x = refl
bound_tasks (b ∷ bound) task x = bound_tasks bound task (edited (writes 0 b.0 b.1) x)

bound_scopes : (bound : List (List ℕ × List ℕ)) (task : Task) (x : State) → (all_edited (map (λ b. writes 0 b.0 b.1) bound ++ makes task ∷ []) x).scopes ≡ x.scopes
bound_scopes [] task x = refl
bound_scopes (b ∷ bound) task x = bound_scopes bound task (edited (writes 0 b.0 b.1) x)

record Scoped (given : Given) (s : State) : Type 0 where
  given_is : s.given ≡ given
  all : AllScoped s

first_scoped : (given : Given) (run now : ℕ) (first : State) → IsRunnable given → begun given run now ≡ Some first → Scoped given first
first_scoped given run now first runnable e = by (slice_get given.books 0) refl e
  where
    begins : (book : Book) → slice_get given.books 0 ≡ Some book → AllScoped (after now (opens None book.variables ∷ (map (λ b. writes 0 b.0 b.1) given.variables ++ makes (first_task given now book) ∷ [])) (blank given run))
    begins book there t task is = by (get_pushed [] (first_task given now book) task t (subst (λ (ts : List Task). slice_get ts t ≡ Some task) (bound_tasks given.variables (first_task given now book) opened) is))
      where
        opened : State
        opened = edited (opens None book.variables) (blank given run)

        made : State
        made = after now (opens None book.variables ∷ (map (λ b. writes 0 b.0 b.1) given.variables ++ makes (first_task given now book) ∷ [])) (blank given run)

        same_given : made.given ≡ given
        same_given = keeps_given (map (λ b. writes 0 b.0 b.1) given.variables ++ makes (first_task given now book) ∷ []) opened

        top : IsScopeOfBook made.scopes book 0
        top = ap (λ (ss : List Scope). slice_get ss 0) (bound_scopes given.variables (first_task given now book) opened)

        same_book : (other : Book) → book_at made.given 0 ≡ Some other → book ≡ other
        same_book other e = some_inner book other (sym there ∙ subst (λ (g : Given). book_at g 0 ≡ Some other) same_given e)

        starts : (name : List ℕ) → Outside book name (first_task given now book).step (home_declaration made.scopes 0 name)
        starts name =
            let a : ScopesAgree = scopes_agree in
            let b : IsRunnableBook given book = runnable.books 0 book there in
            subst (Outside book name (first_task given now book).step) (sym (declared_alone made.scopes 0 book.variables name top))
            (a.starts book name (first_task given now book).step (starts_at given 0 book book.start there (0, omega arith, refl) b.start))

        first_is : IsScoped made (first_task given now book)
        first_is = record {
          outside = λ other name e. subst (λ (b : Book). Outside b name (first_task given now book).step (home_declaration made.scopes 0 name)) (same_book other e) (starts name);
          step_scope = λ n step at e. absurd (none_some n at);
          root = λ other e going root. subst (λ (b : Book). IsScopeOfBook made.scopes b 0) (same_book other e) top;
        }

        by : (slice_get [] t ≡ Some task) ⊎ ((t ≡ 0) × (first_task given now book ≡ task)) → IsScoped made task
        by (inl h) = absurd (none_some task h)
        by (inr h) = subst (IsScoped made) h.1 first_is

    by : (o : Option Book) → slice_get given.books 0 ≡ o
        → option_map (λ (es : List Edit). after now es (blank given run)) (option_map (λ (book : Book). opens None book.variables ∷ (map (λ b. writes 0 b.0 b.1) given.variables ++ makes (first_task given now book) ∷ [])) o) ≡ Some first
        → Scoped given first
    by None there h = absurd (none_some first h)
    by (Some book) there h =
        let es : List Edit = opens None book.variables ∷ (map (λ b. writes 0 b.0 b.1) given.variables ++ makes (first_task given now book) ∷ []) in
        let is : after now es (blank given run) ≡ first = some_inner (after now es (blank given run)) first h in
        subst (Scoped given) is (record { given_is = keeps_given es (blank given run); all = begins book there })

-- ---- all records

along : (given : Given) (run now : ℕ) → IsRunnable given → (others earlier : List Record) (mid s : State) → Leads given run (begin_of given run now ∷ earlier) mid → Scoped given mid → GoesOn mid others s → Scoped given s
along given run now runnable [] earlier mid s leads scoped goes = subst (Scoped given) goes scoped
along given run now runnable (r ∷ others) earlier mid s leads scoped goes =
    let x : State = goes.0 in
    let next : Next mid r x = goes.1 in
    let more : Leads given run (begin_of given run now ∷ (earlier ++ r ∷ [])) x = (runs_go_on given run (begin_of given run now) earlier r x).1 (record { state = mid; leads = leads; next = next }) in
    let sane : IsSane (shown mid) = runs_are_sane given run (begin_of given run now ∷ earlier) mid runnable leads in
    let sane_next : IsSane (shown x) = runs_are_sane given run (begin_of given run now ∷ (earlier ++ r ∷ [])) x runnable more in
    let all : AllScoped x = next_scoped mid x r next (subst IsRunnable (sym scoped.given_is) runnable) sane sane_next scoped.all in
    let c : ChangesOwnTask mid x r (task_of (shown mid) r) = records_change_own_task mid x r next in
    along given run now runnable others (earlier ++ r ∷ []) x s more (record { given_is = c.given ∙ scoped.given_is; all = all }) goes.2

run_scoped : (given : Given) (run : ℕ) (records : List Record) (s : State) → IsRunnable given → Leads given run records s → Scoped given s
run_scoped given run records s runnable l =
    along given run l.now runnable l.others [] l.first s (record { now = l.now; others = []; first = l.first; in_time = l.in_time; records_are = refl; begins = l.begins; goes_on = refl })
    (first_scoped given run l.now l.first runnable l.begins) l.goes_on

pub tasks_read_in_scope : TasksReadInScope
tasks_read_in_scope given run records s t task book runnable leads is book_is =
    record { outside = outside; sees = λ name. let a = agree in a.sees book name task.step (home_declaration s.scopes task.scope name) (outside name); step_scope = step_scope; in_step = in_step }
  where
    scoped : Scoped given s
    scoped = run_scoped given run records s runnable leads

    sane : IsSane (shown s)
    sane = runs_are_sane given run records s runnable leads

    agree : ScopesAgree
    agree = scopes_agree

    i : IsScoped s task
    i = let x = scoped in x.all t task is

    book_there : book_at s.given task.book ≡ Some book
    book_there = let x = scoped in subst (λ (g : Given). book_at g task.book ≡ Some book) (sym x.given_is) book_is

    step_there : (step : Step) → slice_get book.steps task.step ≡ Some step → step_at s.given task.book task.step ≡ Some step
    step_there step e = ap (option_and_then (λ (b : Book). slice_get b.steps task.step)) book_there ∙ e

    outside : (name : List ℕ) → Outside book name task.step (home_declaration s.scopes task.scope name)
    outside name = let x = i in x.outside book name book_there

    step_scope : (scope : ℕ) (step : Step) → task.step_scope ≡ Some scope → slice_get book.steps task.step ≡ Some step → IsScopeOf s.scopes task step scope
    step_scope n step at e = let x = i in x.step_scope n step at (step_there step e)

    in_step : (scope : ℕ) (name : List ℕ) → task.step_scope ≡ Some scope → home_declaration s.scopes scope name ≡ nearer (declares book name task.step) (home_declaration s.scopes task.scope name)
    in_step n name at = by (slice_get book.steps task.step) refl
      where
        k : IsSaneTask (shown s) t task
        k = let x = sane in x.tasks t task is

        by : (o : Option Step) → slice_get book.steps task.step ≡ o → home_declaration s.scopes n name ≡ nearer (option_and_then (λ (x : Step). declared x.variables name) o) (home_declaration s.scopes task.scope name)
        by None e =
            let x = k in
            absurd (clash false (sym (ap is_some (ap (option_and_then (λ (b : Book). slice_get b.steps task.step)) book_there ∙ e)) ∙ x.step) refl)
        by (Some step) e =
            let x = sane in
            let scope : IsScopeOf s.scopes task step n = step_scope n step at e in
            declared_inside s.scopes n task.scope step.variables name (parents_before s sane) scope (x.scopes n (record { parent = Some task.scope; vars = step.variables }) scope)
