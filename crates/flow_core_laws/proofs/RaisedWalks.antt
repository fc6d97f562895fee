-- A Walk changes the same, but for the numbers of what it opens, where its task and what it reads are the same.
use Rattle.std.proofs.Common.{◌≡◌, ℕ, suc, ◌+◌, ◌<◌, ◌≤◌, Bool, true, false, cond, List, [], ◌∷◌, ◌++◌, length, map, Contains, Option, Some, None, arith, refl, ap, sym, subst, ◌∙◌}
use Rattle.std.specs.Prelude.{IfSome, nat_le, not, option_and_then, option_map, slice_get}
use Rattle.std.specs.List.{flat_map, list_all, list_any}
use Rattle.std.specs.Option.{option_map_or}
use Rattle.std.proofs.lemmas.List.{map-append}
use Rattle.cacao_book.specs.declared.books.Book.{Book}
use Rattle.cacao_book.specs.declared.steps.Step.{Step}
use Rattle.cacao_book.specs.declared.step_kinds.StepKind.{StepKind}
use Rattle.cacao_book.specs.declared.step_kinds.StepKind.TheVariants as does
use Rattle.flow_core_rules.specs.declared.tasks.Task.{Task}
use Rattle.flow_core_rules.specs.declared.phases.Phase.{Phase}
use Rattle.flow_core_rules.specs.declared.phases.Phase.TheVariants as phase
use Rattle.flow_core_rules.specs.Givens.{book_with}
use Rattle.flow_core_rules.specs.State.{Lists, Shown}
use Rattle.flow_core_rules.specs.Edits.{Edit, shown_edited}
use Rattle.flow_core_rules.specs.Edits.Edit.{opens, writes, makes, moves}
use Rattle.flow_core_rules.specs.Conditions.{heads, is_true}
use Rattle.flow_core_rules.specs.Tasks.{Here, go, finish, child, next_key, in_phase}
use Rattle.flow_core_rules.specs.Changes as changes
use Rattle.flow_core_rules.specs.Changes.{opening, binding, valued, written, has_ended, has_failed}
use Rattle.flow_core_rules.proofs.HereLemmas.{here_of}
use Rattle.flow_core_rules.proofs.ScopeLemmas.{IsScoped}
use Rattle.flow_core_laws.specs.Reads.{entered_names}
use Rattle.flow_core_laws.specs.Renumbered.{Grown, raised, raised_phase, renumbered_task, renumbered}
use Rattle.flow_core_laws.proofs.Joins.{JoinsBelow}
use Rattle.flow_core_laws.proofs.Raised.{raised_old, raised_next, again, old_in, done_old, written_old}
use Rattle.flow_core_laws.proofs.SameReads.{SeenSame, valued_same, heads_same}

module _ (p : Shown) (m : ℕ) (l : Lists) (now t : ℕ) (task : Task) (step : Step) (by : Grown) (count : length p.lists.scopes ≡ by.scopes) (scopes : length l.scopes ≡ raised by.scopes by.more_scopes (length p.lists.scopes))
    (tasks : length l.tasks ≡ raised by.tasks by.more_tasks (length p.lists.tasks)) (scoped : IsScoped by.scopes task) (joins : JoinsBelow by.tasks task.phase) where
  abbrev q : Shown
  q = record p { moment = m; lists = l }

  abbrev h : Here
  h = here_of p now t task step

  abbrev g : Here
  g = here_of q now t task step

  abbrev n : ℕ
  n = length p.lists.scopes

  abbrev up : ℕ → ℕ
  up k = raised by.scopes by.more_scopes k

  around : up task.scope ≡ task.scope
  around = raised_old by.scopes by.more_scopes task.scope scoped.0

  behind_last : up (suc n) ≡ suc (up n)
  behind_last = raised_next by.scopes by.more_scopes n (subst (λ k. k ≤ n) count (omega arith))

  abbrev opened : Lists → Lists
  opened s = shown_edited (opening h) s

  abbrev within : ℕ → Lists → ℕ → Here
  within moment s k = record { seen = record p { moment = moment; lists = s }; now = now; number = t; task = record task { step_scope = Some k }; step = step }

  -- ---- a step that is entered

  -- the task in its step's scope, in a phase
  inside_in : (at : Phase) → renumbered_task by (in_phase (record task { step_scope = Some n }) at) ≡ in_phase (record task { step_scope = Some (up n) }) (raised_phase by at)
  inside_in at = ap (λ (k : ℕ). record task { scope = k; step_scope = Some (up n); phase = raised_phase by at }) around

  -- a step that succeeds there
  well_inside : finish (within m (opened l) (up n)) true ≡ renumbered_task by (finish (within p.moment (opened p.lists) n) true)
  well_inside = ways (next_key step true)
    where
      F : ℕ → Option (List ℕ) → Task
      F k o = option_map_or (go p.given now (record task { step_scope = Some k })) o (in_phase (record task { step_scope = Some k }) (phase.Ended true))

      ways : (o : Option (List ℕ)) → F (up n) o ≡ renumbered_task by (F n o)
      ways None = sym (inside_in (phase.Ended true))
      ways (Some key) = ap (λ (k : ℕ). record (go p.given now task key) { scope = k }) (sym around)

  children_again : (keys : List (List ℕ)) → map (λ key. makes (child (within m (opened l) (up n)) task.book (up n) key)) keys ≡ again by (map (λ key. makes (child (within p.moment (opened p.lists) n) task.book n key)) keys)
  children_again [] = refl
  children_again (key ∷ keys) = ap (λ (es : List Edit). makes (child (within m (opened l) (up n)) task.book (up n) key) ∷ es) (children_again keys)

  branched_again : (keys : List (List ℕ)) → changes.branched (within m (opened l) (up n)) (up n) keys ≡ again by (changes.branched (within p.moment (opened p.lists) n) n keys)
  branched_again [] = ap (λ (new : Task). moves t new ∷ []) well_inside
  branched_again (key ∷ keys) =
      ap (λ (k : ℕ). moves t (in_phase (record task { step_scope = Some (up n) }) (phase.Joining k)) ∷ map (λ one. makes (child (within m (opened l) (up n)) task.book (up n) one)) (key ∷ keys)) tasks
      ∙ ap (λ (new : Task). moves t new ∷ map (λ one. makes (child (within m (opened l) (up n)) task.book (up n) one)) (key ∷ keys)) (sym (inside_in (phase.Joining (length p.lists.tasks))))
      ∙ ap (λ (es : List Edit). moves t (renumbered_task by (in_phase (record task { step_scope = Some n }) (phase.Joining (length p.lists.tasks)))) ∷ es) (children_again (key ∷ keys))

  abbrev pub EntersAgain : StepKind → Type 0
  EntersAgain kind = (name : List ℕ) → Contains (entered_names kind) name → SeenSame (opened p.lists) n (opened l) (up n) name

  opening_again : (es fs : List Edit) → es ≡ again by fs → opening h ∷ es ≡ again by (opening h ∷ fs)
  opening_again es fs e = ap (λ (k : ℕ). opens (Some k) step.variables ∷ es) (sym around) ∙ ap (λ (xs : List Edit). opens (Some (up task.scope)) step.variables ∷ xs) e

  controlled_again : (kind : StepKind) → EntersAgain kind → changes.controlled g kind ≡ again by (changes.controlled h kind)
  controlled_again kind reads =
      ap (λ (k : ℕ). opening h ∷ changes.branched (within m (opened l) k) k (heads (opened l) k kind)) scopes
      ∙ ap (λ (keys : List (List ℕ)). opening h ∷ changes.branched (within m (opened l) (up n)) (up n) keys) (heads_same (opened p.lists) (opened l) n (up n) kind reads)
      ∙ opening_again (changes.branched (within m (opened l) (up n)) (up n) (heads (opened p.lists) n kind)) (changes.branched (within p.moment (opened p.lists) n) n (heads (opened p.lists) n kind)) (branched_again (heads (opened p.lists) n kind))

  bound_again : (vs : List (List ℕ × Option (List ℕ))) → flat_map (binding (suc (up n))) vs ≡ again by (flat_map (binding (suc n)) vs)
  bound_again [] = refl
  bound_again (v ∷ vs) =
      ap (λ (es : List Edit). binding (suc (up n)) v ++ es) (bound_again vs) ∙ ap (λ (es : List Edit). es ++ again by (flat_map (binding (suc n)) vs)) (one v)
      ∙ sym (map-append (renumbered by) (binding (suc n) v) (flat_map (binding (suc n)) vs))
    where
      one : (v : List ℕ × Option (List ℕ)) → binding (suc (up n)) v ≡ again by (binding (suc n) v)
      one (name, None) = refl
      one (name, Some text) = ap (λ (k : ℕ). writes k name text ∷ []) (sym behind_last)

  called_again : (in_args : List (List ℕ)) (theirs : ℕ × Book) → ((name : List ℕ) → Contains in_args name → SeenSame (opened p.lists) n (opened l) (up n) name)
      → opening h ∷ changes.called (within m (opened l) (length l.scopes)) (length l.scopes) in_args theirs ≡ again by (opening h ∷ changes.called (within p.moment (opened p.lists) n) n in_args theirs)
  called_again in_args theirs reads =
      ap (λ (k : ℕ). opening h ∷ changes.called (within m (opened l) k) k in_args theirs) scopes
      ∙ ap (λ (vs : List (List ℕ × Option (List ℕ))). opening h ∷ (opens None (theirs.1).variables ∷ (flat_map (binding (suc (up n))) vs ++ last))) (valued_same (opened p.lists) (opened l) n (up n) in_args reads)
      ∙ opening_again (opens None (theirs.1).variables ∷ (flat_map (binding (suc (up n))) values ++ last)) (opens None (theirs.1).variables ∷ (flat_map (binding (suc n)) values ++ first))
      (ap (λ (es : List Edit). opens None (theirs.1).variables ∷ es)
      (ap (λ (es : List Edit). es ++ last) (bound_again values) ∙ ap (λ (es : List Edit). again by (flat_map (binding (suc n)) values) ++ es) lasts
      ∙ sym (map-append (renumbered by) (flat_map (binding (suc n)) values) first)))
    where
      values : List (List ℕ × Option (List ℕ))
      values = valued (opened p.lists) n in_args

      first : List Edit
      first = moves t (in_phase (record task { step_scope = Some n }) (phase.Joining (length p.lists.tasks))) ∷ makes (child (within p.moment (opened p.lists) n) theirs.0 (suc n) (theirs.1).start) ∷ []

      last : List Edit
      last = moves t (in_phase (record task { step_scope = Some (up n) }) (phase.Joining (length l.tasks))) ∷ makes (child (within m (opened l) (up n)) theirs.0 (suc (up n)) (theirs.1).start) ∷ []

      lasts : moves t (in_phase (record task { step_scope = Some (up n) }) (phase.Joining (length l.tasks))) ∷ makes (child (within m (opened l) (up n)) theirs.0 (suc (up n)) (theirs.1).start) ∷ []
          ≡ again by (moves t (in_phase (record task { step_scope = Some n }) (phase.Joining (length p.lists.tasks))) ∷ makes (child (within p.moment (opened p.lists) n) theirs.0 (suc n) (theirs.1).start) ∷ [])
      lasts =
          ap (λ (k : ℕ). moves t (in_phase (record task { step_scope = Some (up n) }) (phase.Joining k)) ∷ makes (child (within m (opened l) (up n)) theirs.0 (suc (up n)) (theirs.1).start) ∷ []) tasks
          ∙ ap (λ (new : Task). moves t new ∷ makes (child (within m (opened l) (up n)) theirs.0 (suc (up n)) (theirs.1).start) ∷ []) (sym (inside_in (phase.Joining (length p.lists.tasks))))
          ∙ ap (λ (k : ℕ). moves t (renumbered_task by (in_phase (record task { step_scope = Some n }) (phase.Joining (length p.lists.tasks)))) ∷ makes (child (within m (opened l) (up n)) theirs.0 k (theirs.1).start) ∷ []) (sym behind_last)

  entered_again : (kind : StepKind) → EntersAgain kind → changes.entered g kind ≡ option_map (again by) (changes.entered h kind)
  entered_again does.Start reads = ap Some (sym (done_old by h true scoped))
  entered_again does.End reads = ap (λ (new : Task). Some (moves t new ∷ [])) (sym (old_in by task (phase.Ended true) scoped refl))
  entered_again (does.Action commands agent targets in_args out_args) reads =
      ap (λ (k : ℕ). Some (opening h ∷ moves t (in_phase (record task { step_scope = Some k }) (phase.Sending 0)) ∷ [])) scopes
      ∙ ap Some (opening_again (moves t (in_phase (record task { step_scope = Some (up n) }) (phase.Sending 0)) ∷ []) (moves t (in_phase (record task { step_scope = Some n }) (phase.Sending 0)) ∷ [])
      (ap (λ (new : Task). moves t new ∷ []) (sym (inside_in (phase.Sending 0)))))
  entered_again (does.PlaybookAction playbook version in_args out_args) reads = ways (book_with p.given playbook)
    where
      ways : (o : Option (ℕ × Book)) → option_map (λ theirs. opening h ∷ changes.called (within m (opened l) (length l.scopes)) (length l.scopes) in_args theirs) o
          ≡ option_map (again by) (option_map (λ theirs. opening h ∷ changes.called (within p.moment (opened p.lists) n) n in_args theirs) o)
      ways None = refl
      ways (Some theirs) = ap Some (called_again in_args theirs reads)
  entered_again (does.Parallel a) reads = ap Some (controlled_again (does.Parallel a) reads)
  entered_again (does.If a b c) reads = ap Some (controlled_again (does.If a b c) reads)
  entered_again (does.While a b) reads = ap Some (controlled_again (does.While a b) reads)
  entered_again (does.Switch a b) reads = ap Some (controlled_again (does.Switch a b) reads)

  -- ---- a task that joins

  rejoined_old : (from scope : ℕ) (kind : StepKind) → scope < by.scopes → again by (changes.rejoined h from scope kind) ≡ changes.rejoined h from scope kind
  rejoined_old from scope (does.While condition on_true) less = ways (is_true p.lists scope condition)
    where
      F : Bool → List Edit
      F b = cond b (makes (child h task.book scope on_true) ∷ []) (changes.done h true)

      ways : (b : Bool) → again by (F b) ≡ F b
      ways true = ap (λ (k : ℕ). makes (child h task.book k on_true) ∷ []) (raised_old by.scopes by.more_scopes scope less)
      ways false = done_old by h true scoped
  rejoined_old from scope (does.PlaybookAction a b c d) less =
      map-append (renumbered by) (flat_map (written p.lists scope) returned) (changes.done h true)
      ∙ ap (λ (es : List Edit). es ++ again by (changes.done h true)) (written_old by p.lists scope returned count)
      ∙ ap (λ (es : List Edit). flat_map (written p.lists scope) returned ++ es) (done_old by h true scoped)
    where
      returned : List (List ℕ × Option (List ℕ))
      returned = option_map_or (λ (root : Task). valued p.lists root.scope d) (slice_get p.lists.tasks from) []
  rejoined_old from scope does.Start less = done_old by h true scoped
  rejoined_old from scope does.End less = done_old by h true scoped
  rejoined_old from scope (does.Action a b c d e) less = done_old by h true scoped
  rejoined_old from scope (does.Parallel a) less = done_old by h true scoped
  rejoined_old from scope (does.If a b c) less = done_old by h true scoped
  rejoined_old from scope (does.Switch a b) less = done_old by h true scoped

  abbrev decided : Bool → Bool → List Edit → List Edit → Option (List Edit)
  decided all any stops goes = cond (not all) None (cond any (Some stops) (Some goes))

  joined_old : (from scope : ℕ) → scope < by.scopes → (branches : List Task) → option_map (again by) (changes.joined h from scope branches) ≡ changes.joined h from scope branches
  joined_old from scope less branches = ways (list_all (λ one. has_ended one.phase) branches) (list_any (λ one. has_failed one.phase) branches)
    where
      ways : (all any : Bool) → option_map (again by) (decided all any (changes.done h false) (changes.rejoined h from scope step.kind)) ≡ decided all any (changes.done h false) (changes.rejoined h from scope step.kind)
      ways false any = refl
      ways true true = ap Some (done_old by h false scoped)
      ways true false = ap Some (rejoined_old from scope step.kind less)

  -- where a task joins, its Walk changes what has no new number
  pub walked_old : (from : ℕ) → option_map (again by) (changes.walked h (phase.Joining from)) ≡ changes.walked h (phase.Joining from)
  walked_old from = ways task.step_scope (λ k e. subst (λ o. IfSome o (λ j. j < by.scopes)) e scoped.1)
    where
      ways : (o : Option ℕ) → ((k : ℕ) → o ≡ Some k → k < by.scopes)
          → option_map (again by) (option_and_then (λ scope. changes.joined h from scope (changes.children p.lists t from)) o) ≡ option_and_then (λ scope. changes.joined h from scope (changes.children p.lists t from)) o
      ways None less = refl
      ways (Some k) less = joined_old from k (less k refl) (changes.children p.lists t from)

  -- and where it enters a step
  pub walked_again : (since : ℕ) → EntersAgain step.kind → changes.walked g (phase.At since) ≡ option_map (again by) (changes.walked h (phase.At since))
  walked_again since reads = ways (nat_le (since + step.delay) now)
    where
      ways : (b : Bool) → cond b (changes.entered g step.kind) None ≡ option_map (again by) (cond b (changes.entered h step.kind) None)
      ways true = entered_again step.kind reads
      ways false = refl
