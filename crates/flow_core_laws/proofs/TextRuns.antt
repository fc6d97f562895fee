-- In each state of a run texts fit, and constants stay as they were.
use Rattle.std.proofs.Common.{◌≡◌, ◌⊎◌, ℕ, ◌<◌, IsTrue, List, [], ◌∷◌, ◌++◌, length, map, Option, Some, None, is_some, arith, refl, ap, sym, subst, ◌∙◌, inl, inr}
use Rattle.std.specs.Prelude.{IfSome, IsSomeAnd, option_and_then, option_map, slice_get, unwrap_or}
use Rattle.std.specs.List.{AllByRecursion}
use Rattle.std.proofs.lemmas.List.Elements.{recursion_from_All}
use Rattle.serde_json.specs.Data.{Data}
use Rattle.run_records.specs.declared.record.Record.{Record}
use Rattle.run_records.specs.declared.record.Record.TheVariants as entry
use Rattle.cacao_vars.specs.declared.declarations.Var.{Var}
use Rattle.cacao_vars.specs.declared.scoping.Scope.{Scope}
use Rattle.cacao_vars.specs.Declarations.{declared}
use Rattle.cacao_vars.specs.Scopes.{HasParentsBefore, home, home_declaration, declaration, last_write}
use Rattle.cacao_vars.proofs.ScopeLemmas.{home_none}
use Rattle.cacao_book.specs.declared.books.Book.{Book}
use Rattle.cacao_book.specs.declared.steps.Step.{Step}
use Rattle.cacao_book.specs.Books.{book as book_of}
use Rattle.cacao_check.specs.declared.rules.SenseRule.TheVariants as rule
use Rattle.cacao_check.specs.Fits.{FitsKind}
use Rattle.cacao_check.specs.Laws.{ResultsFit}
use Rattle.cacao_check.specs.Rules.{K20}
use Rattle.cacao_check.proofs.LawLemmas.{sound_gives}
use Rattle.cacao_check_steps.specs.Uses.{call_of}
use Rattle.flow_core_rules.specs.declared.tasks.Task.{Task}
use Rattle.flow_core_rules.specs.Givens.{Given, book_at, step_at}
use Rattle.flow_core_rules.specs.Accepted.{Accepted, first_variables}
use Rattle.flow_core_rules.specs.Bindings.{B2, B3, b2, b3, variables_in}
use Rattle.flow_core_rules.specs.State.{State, shown, value}
use Rattle.flow_core_rules.specs.Edits.{Edit, edited, all_edited}
use Rattle.flow_core_rules.specs.Edits.Edit.{opens, writes, makes}
use Rattle.flow_core_rules.specs.Tasks.{Here}
use Rattle.flow_core_rules.specs.Changes.{change, moment_of}
use Rattle.flow_core_rules.specs.Runs.{Next, GoesOn, Leads, after, begun, begin_of, blank, first_task}
use Rattle.flow_core_rules.specs.Runnable.{IsRunnable}
use Rattle.flow_core_rules.specs.Sane.{IsSane, IsSaneTask}
use Rattle.flow_core_rules.specs.Laws.{HasPlacedWrites, IsShownAtFirst}
use Rattle.flow_core_rules.proofs.RunLemmas.{some_inner, runs_go_on}
use Rattle.flow_core_rules.proofs.QuietLemmas.{keeps_given}
use Rattle.flow_core_rules.proofs.PlacedLemmas.{Placed, all_shown, change-placed, first_shown}
use Rattle.flow_core_rules.proofs.HereLemmas.{here_of}
use Rattle.flow_core_rules.proofs.TaskLemmas.{get_pushed, get_within}
use Rattle.flow_core_rules.proofs.SaneRuns.{runs_are_sane}
use Rattle.flow_core_setup.specs.Setups.{AreAccepted}
use Rattle.flow_core_setup.proofs.SetupLists.{IsMapped, mapped_at}
use Rattle.flow_core_setup.proofs.SetupRunnable.{accepted_is_runnable}
use Rattle.flow_core_laws.specs.OwnTask.{task_of, Goes, MayMake, ChangesOwnTask}
use Rattle.flow_core_laws.proofs.Somes.{none_some}
use Rattle.flow_core_laws.proofs.Children.{is_own, none_past}
use Rattle.flow_core_laws.proofs.OwnTask.{records_change_own_task}
use Rattle.flow_core_laws.specs.ReadInScope.{ReadsInScope}
use Rattle.flow_core_laws.specs.FitValues.{HasShortRule, ValuesFitKinds, KeepsConstant, ConstantsStay, ConstantsAreDeclared}
use Rattle.flow_core_laws.proofs.AcceptedRules.{keeps_of_book, vars_fit}
use Rattle.flow_core_laws.proofs.HomeLemmas.{home_still}
use Rattle.flow_core_laws.proofs.ScopedRecords.{joins_at}
use Rattle.flow_core_laws.proofs.ScopedRuns.{parents_before, tasks_read_in_scope}
use Rattle.flow_core_laws.proofs.TextLemmas.{text_by, FitsText, AreTextsFit, MayWrite, HasHome, has_home, value_by, declares_in, DeclaresIn, declared_front, fit_written, fit_opened}
use Rattle.flow_core_laws.proofs.TextEdits.{HasCalled, Stands, EndsSo, texts_after, constants_after, called_more, ends_after}
use Rattle.flow_core_laws.proofs.TextEdits.Stands.{as_it_was, stands_apart, calls_none, has_called}
use Rattle.flow_core_laws.proofs.TextEdits.SoFar.{unmoved}
use Rattle.flow_core_laws.proofs.TextRecords.{AllCalls, OwnSound, SoundShape, change_sound}

-- what holds of each state
record Holds (given : Given) (s : State) : Type 0 where
  given_is : s.given ≡ given
  placed : HasPlacedWrites s
  fit : AreTextsFit s.scopes s.writes
  calls : AllCalls given s.scopes s.tasks

-- ---- one record

-- what a record makes stands before its step
made_apart : (r : Record) (task : Task) → MayMake r task → joins_at task.phase ≡ None
made_apart (entry.Walk t moment) task made = ap joins_at made.phase_is
made_apart (entry.Begin run moment books bind) task made = absurd made
made_apart (entry.Send t issue agent moment bytes) task made = absurd made
made_apart (entry.Reply issue moment status rule text) task made = absurd made
made_apart (entry.Expire issue moment) task made = absurd made
made_apart (entry.Upgrade version moment) task made = absurd made
made_apart (entry.Ask t issue moment bytes) task made = absurd made
made_apart (entry.Told issue moment status text) task made = absurd made

module _ (s : State) (r : Record) (edits : List Edit) (c : ChangesOwnTask s (after (moment_of r) edits s) r (task_of (shown s) r)) (calls : AllCalls s.given s.scopes s.tasks) where
  abbrev later : State
  later = after (moment_of r) edits s

  -- a task that was there is there, in its scope
  root_later : (k : ℕ) (x : Task) → slice_get s.tasks k ≡ Some x → (y : Task) × (slice_get later.tasks k ≡ Some y) × (y.scope ≡ x.scope)
  root_later k x e = by (is_own (task_of (shown s) r) k)
    where
      by : (task_of (shown s) r ≡ Some k) ⊎ (task_of (shown s) r ≡ Some k → ⊥) → (y : Task) × (slice_get later.tasks k ≡ Some y) × (y.scope ≡ x.scope)
      by (inl own) =
          let g : Goes s later k = c.tasks.its_own k own in
          (g.now, g.now_is, (g.keeps).2 ∙ ap (λ (z : Task). z.scope) (some_inner g.was x (sym g.was_is ∙ e)))
      by (inr apart) = (x, c.tasks.others k x e apart, refl)

  called_later : (id : List ℕ) (from : ℕ) → HasCalled s.given s.scopes s.tasks id from → HasCalled s.given later.scopes later.tasks id from
  called_later id from h =
      let root = root_later from h.root h.root_is in
      subst (λ (ss : List Scope). HasCalled s.given ss later.tasks id from) (sym c.texts.scopes_are)
      (called_more s.given s.scopes c.texts.opened s.tasks later.tasks id from h root.0 root.1 root.2)

  same_step : (a b : Task) (x y : Step) → a.book ≡ b.book → a.step ≡ b.step → step_at s.given a.book a.step ≡ Some x → step_at s.given b.book b.step ≡ Some y → x ≡ y
  same_step a b x y books steps e f =
      some_inner x y (sym e ∙ ap (λ n. step_at s.given n a.step) books ∙ ap (step_at s.given b.book) steps ∙ f)

  own_calls : (o : OwnSound s (task_of (shown s) r) edits) (task : Task) (step : Step) (id : List ℕ) (from : ℕ) → slice_get later.tasks o.number ≡ Some task → step_at s.given task.book task.step ≡ Some step
      → call_of step.kind ≡ Some id → joins_at task.phase ≡ Some from → HasCalled s.given later.scopes later.tasks id from
  own_calls o task step id from is step_is calls_is joins =
      by ends.stands
    where
      h : Here
      h = here_of (shown s) o.now o.number o.was o.step

      ends : EndsSo h o.was (all_edited edits s)
      ends = ends_after h o.was (length s.scopes) (length s.tasks) edits s o.was refl o.sound o.was_is (unmoved refl)

      same : ends.last ≡ task
      same = some_inner ends.last task (sym ends.last_is ∙ is)

      by : Stands h o.was (all_edited edits s) ends.last → HasCalled s.given later.scopes later.tasks id from
      by (as_it_was e) =
          let was : task ≡ o.was = sym same ∙ e in
          called_later id from
          (calls o.number o.was step id from o.was_is (subst (λ (x : Task). step_at s.given x.book x.step ≡ Some step) was step_is) calls_is (subst (λ (x : Task). joins_at x.phase ≡ Some from) was joins))
      by (stands_apart e) = absurd (none_some from (sym e ∙ ap (λ (x : Task). joins_at x.phase) same ∙ joins))
      by (calls_none books steps e) =
          let one : o.step ≡ step = same_step o.was task o.step step (sym books ∙ ap (λ (x : Task). x.book) same) (sym steps ∙ ap (λ (x : Task). x.step) same) o.step_is step_is in
          absurd (none_some id (sym e ∙ ap (λ (x : Step). call_of x.kind) one ∙ calls_is))
      by (has_called other at books steps e j called) =
          let one : o.step ≡ step = same_step o.was task o.step step (sym books ∙ ap (λ (x : Task). x.book) same) (sym steps ∙ ap (λ (x : Task). x.step) same) o.step_is step_is in
          let same_id : other ≡ id = some_inner other id (sym e ∙ ap (λ (x : Step). call_of x.kind) one ∙ calls_is) in
          let same_from : at ≡ from = some_inner at from (sym j ∙ ap (λ (x : Task). joins_at x.phase) same ∙ joins) in
          subst (HasCalled s.given later.scopes later.tasks id) same_from (subst (λ w. HasCalled s.given later.scopes later.tasks w at) same_id called)

  calls_later : ((t : ℕ) → task_of (shown s) r ≡ Some t → OwnSound s (task_of (shown s) r) edits) → AllCalls s.given later.scopes later.tasks
  calls_later sound t task step id from is step_is calls_is joins = by (slice_get s.tasks t) refl
    where
      by : (o : Option Task) → slice_get s.tasks t ≡ o → HasCalled s.given later.scopes later.tasks id from
      by None e = absurd (none_some from (sym (made_apart r task (c.tasks.made t task (none_past s.tasks t e) is)) ∙ joins))
      by (Some was) e = one (is_own (task_of (shown s) r) t)
        where
          one : (task_of (shown s) r ≡ Some t) ⊎ (task_of (shown s) r ≡ Some t → ⊥) → HasCalled s.given later.scopes later.tasks id from
          one (inl own) =
              let o : OwnSound s (task_of (shown s) r) edits = sound t own in
              let number : o.number ≡ t = some_inner o.number t (sym o.number_is ∙ own) in
              own_calls o task step id from (ap (slice_get later.tasks) number ∙ is) step_is calls_is joins
          one (inr apart) =
              let same : was ≡ task = some_inner was task (sym (c.tasks.others t was e apart) ∙ is) in
              called_later id from (calls t task step id from (e ∙ ap Some same) step_is calls_is joins)

-- what is known where a record comes next
record Ground (given : Given) (s : State) (r : Record) (edits : List Edit) : Type 0 where
  held : Holds given s
  shape : AreTextsFit (all_edited edits s).scopes (all_edited edits s).writes
  own : (t : ℕ) → task_of (shown s) r ≡ Some t → OwnSound s (task_of (shown s) r) edits
  constant : (k : ℕ) (name : List ℕ) (var : Var) → k < length s.scopes → declaration s.scopes k name ≡ Some var → IsTrue var.constant → last_write (all_edited edits s).writes k name ≡ last_write s.writes k name

module _ (fits : ResultsFit) (given : Given) (accepted : Accepted AreAccepted FitsKind given.texts given.bind given) where
  runnable : IsRunnable given
  runnable = accepted_is_runnable sound_gives given.texts given.bind given accepted

  placed_edits : (s : State) (r : Record) (edits : List Edit) → change (shown s) r ≡ Some edits → Placed (length s.scopes) edits
  placed_edits s r edits e = subst (λ o. IfSome o (Placed (length s.scopes))) e (change-placed (shown s) r)

  ground : (run : ℕ) (before : List Record) (s : State) (r : Record) (edits : List Edit) → Leads given run before s → Holds given s → HasShortRule r → change (shown s) r ≡ Some edits → Ground given s r edits
  ground run before s r edits leads held short e = by r refl (shaped r refl)
    where
      sane : IsSane (shown s)
      sane = runs_are_sane given run before s runnable leads

      parents : HasParentsBefore s.scopes
      parents = parents_before s sane

      own_accepted : Accepted AreAccepted FitsKind (s.given).texts (s.given).bind s.given
      own_accepted = subst (λ (g : Given). Accepted AreAccepted FitsKind g.texts g.bind g) (sym held.given_is) accepted

      reads : (t : ℕ) (task : Task) (book : Book) → slice_get s.tasks t ≡ Some task → book_at s.given task.book ≡ Some book → ReadsInScope s book task
      reads t task book is there = tasks_read_in_scope given run before s t task book runnable leads is (subst (λ (g : Given). book_at g task.book ≡ Some book) held.given_is there)

      within : (t : ℕ) (task : Task) → slice_get s.tasks t ≡ Some task → task.scope < length s.scopes
      within t task is = let k : IsSaneTask (shown s) t task = sane.tasks t task is in k.scope

      calls : AllCalls s.given s.scopes s.tasks
      calls = subst (λ (g : Given). AllCalls g s.scopes s.tasks) (sym held.given_is) held.calls

      shaped : (q : Record) → r ≡ q → SoundShape fits s own_accepted held.placed parents held.fit reads within calls q edits
      shaped q same = subst (λ (p : Record). SoundShape fits s own_accepted held.placed parents held.fit reads within calls p edits) same (change_sound fits s own_accepted held.placed parents held.fit reads within calls r edits short e)

      of_task : OwnSound s (task_of (shown s) r) edits → Ground given s r edits
      of_task o =
          let h : Here = here_of (shown s) o.now o.number o.was o.step in
          record {
            held = held;
            shape = texts_after h (length s.scopes) (length s.tasks) edits s (placed_edits s r edits e) o.sound held.fit;
            own = λ t own. o;
            constant = λ k name var less is constant. constants_after h (length s.scopes) (length s.tasks) edits s o.sound k name var less is constant;
          }

      by : (q : Record) → r ≡ q → SoundShape fits s own_accepted held.placed parents held.fit reads within calls q edits → Ground given s r edits
      by (entry.Begin run moment books bind) same shape = absurd shape
      by (entry.Upgrade version moment) same shape = record {
        held = held;
        shape = subst (λ (es : List Edit). AreTextsFit (all_edited es s).scopes (all_edited es s).writes) (sym shape) held.fit;
        own = λ t own. absurd (none_some t (ap (task_of (shown s)) (sym same) ∙ own));
        constant = λ k name var less is constant. ap (λ (es : List Edit). last_write (all_edited es s).writes k name) shape;
      }
      by (entry.Walk t moment) same shape = of_task (subst (λ (q : Record). OwnSound s (task_of (shown s) q) edits) (sym same) shape)
      by (entry.Send t issue agent moment bytes) same shape = of_task (subst (λ (q : Record). OwnSound s (task_of (shown s) q) edits) (sym same) shape)
      by (entry.Ask t issue moment bytes) same shape = of_task (subst (λ (q : Record). OwnSound s (task_of (shown s) q) edits) (sym same) shape)
      by (entry.Reply issue moment status rule text) same shape = of_task (subst (λ (q : Record). OwnSound s (task_of (shown s) q) edits) (sym same) shape)
      by (entry.Told issue moment status text) same shape = of_task (subst (λ (q : Record). OwnSound s (task_of (shown s) q) edits) (sym same) shape)
      by (entry.Expire issue moment) same shape = of_task (subst (λ (q : Record). OwnSound s (task_of (shown s) q) edits) (sym same) shape)

  held_next : (s : State) (r : Record) (edits : List Edit) → change (shown s) r ≡ Some edits → Ground given s r edits → Holds given (after (moment_of r) edits s)
  held_next s r edits e g =
      let held : Holds given s = g.held in
      let there : State = after (moment_of r) edits s in
      let c : ChangesOwnTask s there r (task_of (shown s) r) = records_change_own_task s there r (record { edits = edits; change_is = e; new_is = refl }) in
      let calls : AllCalls s.given s.scopes s.tasks = subst (λ (x : Given). AllCalls x s.scopes s.tasks) (sym held.given_is) held.calls in
      record {
        given_is = keeps_given edits s ∙ held.given_is;
        placed = (all_shown edits s (placed_edits s r edits e) held.placed).1;
        fit = g.shape;
        calls = subst (λ (x : Given). AllCalls x there.scopes there.tasks) held.given_is (calls_later s r edits c calls g.own);
      }

  -- ---- the first record

  -- what is bound fits, and is external
  BoundFits : List Var → List ℕ × List ℕ → Type 0
  BoundFits vars b = IsSomeAnd (declared vars b.0) (λ var. IsTrue var.external) × IfSome (declared vars b.0) (λ var. FitsKind var.kind b.1)

  module _ (vars : List Var) (task : Task) where
    all_bound : (bound : List (List ℕ × List ℕ)) (x : State) → x.scopes ≡ (record { parent = None; vars = vars }) ∷ [] → AllByRecursion (BoundFits vars) bound → AreTextsFit x.scopes x.writes
        → AreTextsFit (all_edited (map (λ b. writes 0 b.0 b.1) bound ++ makes task ∷ []) x).scopes (all_edited (map (λ b. writes 0 b.0 b.1) bound ++ makes task ∷ []) x).writes
    unfolding BoundFits
    all_bound [] x scopes all fit = fit
    all_bound (b ∷ bound) x scopes all fit =
        all_bound bound (edited (writes 0 b.0 b.1) x) scopes all.1 (fit_written x 0 0 b.0 b.1 (subst (λ (ss : List Scope). 0 < length ss) (sym scopes) (omega arith)) may fit)
      where
        at : declaration x.scopes 0 b.0 ≡ declared vars b.0
        at = ap (λ (ss : List Scope). declaration ss 0 b.0) scopes

        may : MayWrite 0 x.scopes 0 b.0 b.1
        may var is =
            let found : declared vars b.0 ≡ Some var = sym at ∙ is in
            let external : IsTrue var.external = subst (λ (o : Option Var). IsSomeAnd o (λ v. IsTrue v.external)) found (all.0).0 in
            (subst (λ (o : Option Var). IfSome o (λ v. FitsKind v.kind b.1)) found (all.0).1, λ constant. (external, omega arith))

  both_rules : (vars : List Var) (bound : List (List ℕ × List ℕ)) → AllByRecursion (λ (b : List ℕ × List ℕ). IsSomeAnd (declared vars b.0) (λ var. IsTrue var.external)) bound
      → AllByRecursion (λ (b : List ℕ × List ℕ). IfSome (declared vars b.0) (λ var. FitsKind var.kind b.1)) bound → AllByRecursion (BoundFits vars) bound
  unfolding BoundFits
  both_rules vars [] x y = tt
  both_rules vars (b ∷ bound) x y = ((x.0, y.0), both_rules vars bound x.1 y.1)

  bound_fit : (book : Book) → slice_get given.books 0 ≡ Some book → AllByRecursion (BoundFits book.variables) given.variables
  bound_fit book there =
      let books : given.books ≡ map book_of accepted.trees = ap (λ (g : Given). g.books) accepted.given_is in
      let found : IsMapped book_of accepted.trees 0 book = mapped_at book_of accepted.trees 0 book (ap (λ (bs : List Book). slice_get bs 0) (sym books) ∙ there) in
      let first : first_variables accepted.trees ≡ book.variables =
      ap (λ (o : Option Data). unwrap_or (option_map (λ (t : Data). (book_of t).variables) o) []) found.at ∙ ap (λ (b : Book). b.variables) (sym found.is) in
      let two : B2 (first_variables accepted.trees) accepted.bindings = accepted.bound b2 in
      let three : B3 FitsKind (first_variables accepted.trees) accepted.bindings = accepted.bound b3 in
      let External : List Var → List ℕ × List ℕ → Type 0 = λ vars b. IsSomeAnd (declared vars b.0) (λ var. IsTrue var.external) in
      let Fitting : List Var → List ℕ × List ℕ → Type 0 = λ vars b. IfSome (declared vars b.0) (λ var. FitsKind var.kind b.1) in
      subst (λ (vars : List Var). AllByRecursion (BoundFits vars) given.variables) first
      (subst (AllByRecursion (BoundFits (first_variables accepted.trees))) (sym (ap (λ (g : Given). g.variables) accepted.given_is))
      (both_rules (first_variables accepted.trees) (variables_in accepted.bindings)
      (recursion_from_All (External (first_variables accepted.trees)) (variables_in accepted.bindings) two)
      (recursion_from_All (Fitting (first_variables accepted.trees)) (variables_in accepted.bindings) three)))

  bound_tasks : (bound : List (List ℕ × List ℕ)) (task : Task) (x : State) → (all_edited (map (λ b. writes 0 b.0 b.1) bound ++ makes task ∷ []) x).tasks ≡ x.tasks ++ task ∷ []
  bound_tasks [] task x = refl
  bound_tasks (b ∷ bound) task x = bound_tasks bound task (edited (writes 0 b.0 b.1) x)

  abbrev first_of : ℕ → Book → List Edit
  first_of now book = opens None book.variables ∷ (map (λ b. writes 0 b.0 b.1) given.variables ++ makes (first_task given now book) ∷ [])

  first_held : (run now : ℕ) (first : State) → begun given run now ≡ Some first → Holds given first
  first_held run now first e = by (slice_get given.books 0) refl e
    where
      placed : HasPlacedWrites first
      placed = let shown_first : IsShownAtFirst given run now first = first_shown given run now first e in shown_first.placed

      calls : (book : Book) → AllCalls given (after now (first_of now book) (blank given run)).scopes (after now (first_of now book) (blank given run)).tasks
      calls book t task step id from is step_is calls_is joins =
          one (get_pushed [] (first_task given now book) task t (subst (λ (ts : List Task). slice_get ts t ≡ Some task) (bound_tasks given.variables (first_task given now book) (edited (opens None book.variables) (blank given run))) is))
        where
          one : (slice_get [] t ≡ Some task) ⊎ ((t ≡ 0) × (first_task given now book ≡ task)) → HasCalled given (after now (first_of now book) (blank given run)).scopes (after now (first_of now book) (blank given run)).tasks id from
          one (inl h) = absurd (none_some task h)
          one (inr h) = absurd (none_some from (ap (λ (x : Task). joins_at x.phase) h.1 ∙ joins))

      fit : (book : Book) → slice_get given.books 0 ≡ Some book → AreTextsFit (all_edited (first_of now book) (blank given run)).scopes (all_edited (first_of now book) (blank given run)).writes
      fit book is =
          let k20 : K20 book.variables = keeps_of_book given accepted 0 book rule.K20 is in
          all_bound book.variables (first_task given now book) given.variables (edited (opens None book.variables) (blank given run)) refl (bound_fit book is)
          (fit_opened (blank given run) None book.variables (vars_fit book.variables k20) (record { fresh = λ n name le. refl; fit = λ n name var is. absurd (none_some var is) }))

      by : (o : Option Book) → slice_get given.books 0 ≡ o
          → option_map (λ (es : List Edit). after now es (blank given run)) (option_map (λ (book : Book). opens None book.variables ∷ (map (λ b. writes 0 b.0 b.1) given.variables ++ makes (first_task given now book) ∷ [])) o) ≡ Some first
          → Holds given first
      by None is h = absurd (none_some first h)
      by (Some book) is h =
          let same : after now (first_of now book) (blank given run) ≡ first = some_inner (after now (first_of now book) (blank given run)) first h in
          record {
            given_is = ap (λ (x : State). x.given) (sym same) ∙ keeps_given (first_of now book) (blank given run);
            placed = placed;
            fit = subst (λ (x : State). AreTextsFit x.scopes x.writes) same (fit book is);
            calls = subst (λ (x : State). AllCalls given x.scopes x.tasks) same (calls book);
          }

  -- ---- all records

  module _ (run now : ℕ) where
    more : (r : Record) (earlier : List Record) (mid x : State) → Leads given run (begin_of given run now ∷ earlier) mid → Next mid r x → Leads given run (begin_of given run now ∷ (earlier ++ r ∷ [])) x
    more r earlier mid x leads next = (runs_go_on given run (begin_of given run now) earlier r x).1 (record { state = mid; leads = leads; next = next })

    next_held : (r : Record) (earlier : List Record) (mid x : State) → Leads given run (begin_of given run now ∷ earlier) mid → Holds given mid → HasShortRule r → Next mid r x → Holds given x
    next_held r earlier mid x leads held short next =
        subst (Holds given) (sym next.new_is) (held_next mid r next.edits next.change_is (ground run (begin_of given run now ∷ earlier) mid r next.edits leads held short next.change_is))

    along_held : (others earlier : List Record) (mid s : State) → Leads given run (begin_of given run now ∷ earlier) mid → Holds given mid → AllByRecursion HasShortRule others → GoesOn mid others s → Holds given s
    along_held [] earlier mid s leads held short goes = subst (Holds given) goes held
    along_held (r ∷ others) earlier mid s leads held short goes =
        along_held others (earlier ++ r ∷ []) goes.0 s (more r earlier mid goes.0 leads goes.1) (next_held r earlier mid goes.0 leads held short.0 goes.1) short.1 goes.2

    -- one record keeps a constant
    keeps_one : (r : Record) (earlier : List Record) (s new : State) (scope : ℕ) (name : List ℕ) (var : Var) → Leads given run (begin_of given run now ∷ earlier) s → Holds given s → HasShortRule r → Next s r new
        → home_declaration s.scopes scope name ≡ Some var → IsTrue var.constant → KeepsConstant s new scope name var
    keeps_one r earlier s new scope name var leads held short next seen constant =
        subst (λ (x : State). KeepsConstant s x scope name var) (sym next.new_is) (record { declared = declared_later; value_is = value_later })
      where
        again : Next s r (after (moment_of r) next.edits s)
        again = record { edits = next.edits; change_is = next.change_is; new_is = refl }

        c : ChangesOwnTask s (after (moment_of r) next.edits s) r (task_of (shown s) r)
        c = records_change_own_task s (after (moment_of r) next.edits s) r again

        sane : IsSane (shown s)
        sane = runs_are_sane given run (begin_of given run now ∷ earlier) s runnable leads

        sane_new : IsSane (shown (after (moment_of r) next.edits s))
        sane_new = runs_are_sane given run (begin_of given run now ∷ (earlier ++ r ∷ [])) (after (moment_of r) next.edits s) runnable (more r earlier s (after (moment_of r) next.edits s) leads again)

        g : Ground given s r next.edits
        g = ground run (begin_of given run now ∷ earlier) s r next.edits leads held short next.change_is

        h : HasHome s.scopes scope name var
        h = has_home s.scopes scope name var seen

        d : DeclaresIn s.scopes h.at name var
        d = declares_in s.scopes h.at name var h.declared_is

        after_is : HasParentsBefore (s.scopes ++ c.texts.opened)
        after_is = subst HasParentsBefore c.texts.scopes_are (parents_before (after (moment_of r) next.edits s) sane_new)

        within : scope < length s.scopes
        within = by (slice_get s.scopes scope) refl
          where
            by : (o : Option Scope) → slice_get s.scopes scope ≡ o → scope < length s.scopes
            by None e =
                let no_home : home s.scopes scope name ≡ None =
                home_none s.scopes scope name (ap (λ (o : Option Scope). is_some (option_and_then (λ (y : Scope). declared y.vars name) o)) e) (ap (λ (o : Option Scope). option_and_then (λ (y : Scope). y.parent) o) e) in
                absurd (none_some h.at (sym no_home ∙ h.home_is))
            by (Some y) e = get_within s.scopes scope y e

        home_later : home (after (moment_of r) next.edits s).scopes scope name ≡ Some h.at
        home_later =
            subst (λ (ss : List Scope). home ss scope name ≡ Some h.at) (sym c.texts.scopes_are)
            (home_still s.scopes c.texts.opened (parents_before s sane) after_is name scope within ∙ h.home_is)

        declared_at : declaration (after (moment_of r) next.edits s).scopes h.at name ≡ Some var
        declared_at = subst (λ (ss : List Scope). declaration ss h.at name ≡ Some var) (sym c.texts.scopes_are) (declared_front s.scopes c.texts.opened h.at name var h.declared_is)

        declared_later : home_declaration (after (moment_of r) next.edits s).scopes scope name ≡ Some var
        declared_later = ap (option_and_then (λ k. declaration (after (moment_of r) next.edits s).scopes k name)) home_later ∙ declared_at

        value_later : value (after (moment_of r) next.edits s) scope name ≡ value s scope name
        value_later =
            value_by (after (moment_of r) next.edits s) scope h.at name var home_later declared_at
            ∙ ap (λ o. text_by o var) (g.constant h.at name var (get_within s.scopes h.at d.scope d.scope_is) h.declared_is constant)
            ∙ sym (value_by s scope h.at name var h.home_is h.declared_is)

    along_kept : (others earlier : List Record) (s new : State) (scope : ℕ) (name : List ℕ) (var : Var) → Leads given run (begin_of given run now ∷ earlier) s → Holds given s → AllByRecursion HasShortRule others
        → GoesOn s others new → home_declaration s.scopes scope name ≡ Some var → IsTrue var.constant → KeepsConstant s new scope name var
    along_kept [] earlier s new scope name var leads held short goes seen constant =
        subst (λ (x : State). KeepsConstant s x scope name var) goes (record { declared = seen; value_is = refl })
    along_kept (r ∷ others) earlier s new scope name var leads held short goes seen constant =
        let one : KeepsConstant s goes.0 scope name var = keeps_one r earlier s goes.0 scope name var leads held short.0 goes.1 seen constant in
        let rest : KeepsConstant goes.0 new scope name var =
        along_kept others (earlier ++ r ∷ []) goes.0 new scope name var (more r earlier s goes.0 leads goes.1) (next_held r earlier s goes.0 leads held short.0 goes.1) short.1 goes.2 one.declared constant in
        record { declared = rest.declared; value_is = rest.value_is ∙ one.value_is }

  run_holds : (run : ℕ) (records : List Record) (s : State) → AllByRecursion HasShortRule records → Leads given run records s → Holds given s
  run_holds run records s short l =
      along_held run l.now l.others [] l.first s (record { now = l.now; others = []; first = l.first; in_time = l.in_time; records_are = refl; begins = l.begins; goes_on = refl })
      (first_held run l.now l.first l.begins) (subst (AllByRecursion HasShortRule) l.records_are short).1 l.goes_on

-- ---- the laws

pub values_fit_kinds : ResultsFit → ValuesFitKinds
values_fit_kinds fits records run scope name var short seen =
    let held : Holds run.given run.state = run_holds fits run.given run.accepted run.run records run.state short run.leads in
    let h : HasHome (run.state).scopes scope name var = has_home (run.state).scopes scope name var seen in
    let f : FitsText (last_write (run.state).writes h.at name) var = (held.fit).fit h.at name var h.declared_is in
    subst (λ (o : Option (List ℕ)). IfSome o (FitsKind var.kind)) (sym (value_by run.state scope h.at name var h.home_is h.declared_is)) f.fits

pub constants_are_declared : ResultsFit → ConstantsAreDeclared
constants_are_declared fits records run scope name var short seen constant own =
    let held : Holds run.given run.state = run_holds fits run.given run.accepted run.run records run.state short run.leads in
    let h : HasHome (run.state).scopes scope name var = has_home (run.state).scopes scope name var seen in
    let f : FitsText (last_write (run.state).writes h.at name) var = (held.fit).fit h.at name var h.declared_is in
    value_by run.state scope h.at name var h.home_is h.declared_is ∙ f.fixed constant own

pub constants_stay : ResultsFit → ConstantsStay
constants_stay fits records more_ run later scope name var short short_more goes seen constant =
    let l : Leads run.given run.run records run.state = run.leads in
    along_kept fits run.given run.accepted run.run l.now more_ l.others run.state later scope name var (subst (λ rs. Leads run.given run.run rs run.state) l.records_are l)
    (run_holds fits run.given run.accepted run.run records run.state short l) short_more goes seen constant
