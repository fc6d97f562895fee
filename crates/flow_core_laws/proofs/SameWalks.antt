-- A Walk changes the same where the task, what it reads and the numbers of what it opens are the same.
use Rattle.std.proofs.Common.{◌≡◌, ℕ, suc, ◌+◌, ◌&&◌, ◌||◌, Bool, true, false, cond, List, [], ◌∷◌, ◌++◌, length, map, Contains, Option, Some, None, refl, ap, sym, subst, ◌∙◌}
use Rattle.std.specs.Bool.{⊤}
use Rattle.std.specs.Prelude.{IfSome, nat_le, not, option_and_then, option_map, slice_get}
use Rattle.std.specs.List.{flat_map, list_all, list_any}
use Rattle.std.specs.Option.{option_map_or}
use Rattle.cacao_vars.specs.Scopes.{home}
use Rattle.cacao_book.specs.declared.books.Book.{Book}
use Rattle.cacao_book.specs.declared.steps.Step.{Step}
use Rattle.cacao_book.specs.declared.step_kinds.StepKind.{StepKind}
use Rattle.cacao_book.specs.declared.step_kinds.StepKind.TheVariants as does
use Rattle.flow_core_rules.specs.declared.tasks.Task.{Task}
use Rattle.flow_core_rules.specs.declared.phases.Phase.{Phase}
use Rattle.flow_core_rules.specs.declared.phases.Phase.TheVariants as phase
use Rattle.flow_core_rules.specs.Givens.{book_at, book_with}
use Rattle.flow_core_rules.specs.State.{Lists, Shown}
use Rattle.flow_core_rules.specs.Edits.{Edit, shown_edited}
use Rattle.flow_core_rules.specs.Edits.Edit.{opens, makes, moves}
use Rattle.flow_core_rules.specs.Conditions.{heads}
use Rattle.flow_core_rules.specs.Tasks.{Here, go, finish, child, next_key, is_root, in_phase}
use Rattle.flow_core_rules.specs.Changes as changes
use Rattle.flow_core_rules.specs.Changes.{opening, binding, valued, written, has_ended, has_failed}
use Rattle.flow_core_rules.proofs.HereLemmas.{here_of}
use Rattle.flow_core_laws.proofs.Somes.{none_some}
use Rattle.flow_core_laws.specs.Reads.{compared_names, entered_names}
use Rattle.flow_core_laws.specs.BothOrders.{opens_scope, makes_task}
use Rattle.flow_core_laws.proofs.SameReads.{SeenSame, valued_same, true_same, heads_same, written_same}

-- a list ends in such an edit
pub any_behind : (test : Edit → Bool) (xs ys : List Edit) → list_any test ys ≡ true → list_any test (xs ++ ys) ≡ true
any_behind test [] ys e = e
any_behind test (x ∷ xs) ys e = by (test x) (any_behind test xs ys e)
  where
    by : (b : Bool) → list_any test (xs ++ ys) ≡ true → (b || list_any test (xs ++ ys)) ≡ true
    by true h = refl
    by false h = h

module _ (p : Shown) (m : ℕ) (l : Lists) (now t : ℕ) (task : Task) (step : Step) where
  abbrev q : Shown
  q = record p { moment = m; lists = l }

  abbrev h : Here
  h = here_of p now t task step

  abbrev g : Here
  g = here_of q now t task step

  -- what edits open has the numbers that it had
  abbrev pub OpensSame : List Edit → Type 0
  OpensSame es =
      (list_any opens_scope es ≡ true → length l.scopes ≡ length p.lists.scopes) × (list_any makes_task es ≡ true → length l.tasks ≡ length p.lists.tasks)

  pub finish_same : is_root q task ≡ is_root p task → (well : Bool) → finish g well ≡ finish h well
  finish_same root well =
      ap
      (λ (b : Bool). option_map_or (go p.given now task) (next_key step well) (cond well (in_phase task (phase.Ended true)) (option_map_or (λ key. record (go p.given now task key) { excepted = true }) (cond (b && not task.excepted) (option_and_then (λ (book : Book). book.exception) (book_at p.given task.book)) None) (in_phase task (phase.Ended false)))))
      root

  -- ---- a step that is entered

  abbrev opened : Lists → Lists
  opened s = shown_edited (opening h) s

  -- the same place, once the step's scope is open
  abbrev within : ℕ → Lists → ℕ → Here
  within moment s n = record { seen = record p { moment = moment; lists = s }; now = now; number = t; task = record task { step_scope = Some n }; step = step }

  branched_same : (n : ℕ) (keys : List (List ℕ)) → (list_any makes_task (changes.branched (within p.moment (opened p.lists) n) n keys) ≡ true → length l.tasks ≡ length p.lists.tasks)
      → changes.branched (within m (opened l) n) n keys ≡ changes.branched (within p.moment (opened p.lists) n) n keys
  branched_same n [] count = refl
  branched_same n (key ∷ keys) count =
      ap (λ (k : ℕ). moves t (in_phase (record task { step_scope = Some n }) (phase.Joining k)) ∷ map (λ one. makes (child (within p.moment (opened p.lists) n) task.book n one)) (key ∷ keys)) (count refl)

  abbrev pub EntersSame : StepKind → Type 0
  EntersSame kind = length l.scopes ≡ length p.lists.scopes → (name : List ℕ) → Contains (entered_names kind) name → SeenSame (opened p.lists) (length p.lists.scopes) (opened l) (length p.lists.scopes) name

  controlled_same : (kind : StepKind) → OpensSame (changes.controlled h kind) → EntersSame kind → changes.controlled g kind ≡ changes.controlled h kind
  controlled_same kind same reads =
      let n : ℕ = length p.lists.scopes in
      let scopes : length l.scopes ≡ n = same.0 refl in
      ap (λ (k : ℕ). opening h ∷ changes.branched (within m (opened l) k) k (heads (opened l) k kind)) scopes
      ∙ ap (λ (keys : List (List ℕ)). opening h ∷ changes.branched (within m (opened l) n) n keys) (heads_same (opened p.lists) (opened l) n n kind (reads scopes))
      ∙ ap (λ (es : List Edit). opening h ∷ es) (branched_same n (heads (opened p.lists) n kind) same.1)

  called_same : (in_args : List (List ℕ)) (theirs : ℕ × Book) → OpensSame (opening h ∷ changes.called (within p.moment (opened p.lists) (length p.lists.scopes)) (length p.lists.scopes) in_args theirs)
      → (length l.scopes ≡ length p.lists.scopes → (name : List ℕ) → Contains in_args name → SeenSame (opened p.lists) (length p.lists.scopes) (opened l) (length p.lists.scopes) name)
      → opening h ∷ changes.called (within m (opened l) (length l.scopes)) (length l.scopes) in_args theirs ≡ opening h ∷ changes.called (within p.moment (opened p.lists) (length p.lists.scopes)) (length p.lists.scopes) in_args theirs
  called_same in_args theirs same reads =
      let n : ℕ = length p.lists.scopes in
      let scopes : length l.scopes ≡ n = same.0 refl in
      let bound : List Edit = flat_map (binding (suc n)) (valued (opened p.lists) n in_args) in
      let last : ℕ → List Edit = λ (k : ℕ). moves t (in_phase (record task { step_scope = Some n }) (phase.Joining k)) ∷ makes (child (within p.moment (opened p.lists) n) theirs.0 (suc n) (theirs.1).start) ∷ [] in
      let tasks : length l.tasks ≡ length p.lists.tasks = same.1 (any_behind makes_task bound (last (length p.lists.tasks)) refl) in
      ap (λ (k : ℕ). opening h ∷ changes.called (within m (opened l) k) k in_args theirs) scopes
      ∙ ap (λ (vs : List (List ℕ × Option (List ℕ))). opening h ∷ (opens None (theirs.1).variables ∷ (flat_map (binding (suc n)) vs ++ last (length l.tasks)))) (valued_same (opened p.lists) (opened l) n n in_args (reads scopes))
      ∙ ap (λ (k : ℕ). opening h ∷ (opens None (theirs.1).variables ∷ (bound ++ last k))) tasks

  entered_same : (kind : StepKind) → IfSome (changes.entered h kind) OpensSame → EntersSame kind → changes.entered g kind ≡ changes.entered h kind
  entered_same does.Start same reads = refl
  entered_same does.End same reads = refl
  entered_same (does.Action commands agent targets in_args out_args) same reads =
      ap (λ (k : ℕ). Some (opening h ∷ moves t (in_phase (record task { step_scope = Some k }) (phase.Sending 0)) ∷ [])) (same.0 refl)
  entered_same (does.PlaybookAction playbook version in_args out_args) same reads = by (book_with p.given playbook) same
    where
      by : (o : Option (ℕ × Book)) → IfSome (option_map (λ theirs. opening h ∷ changes.called (within p.moment (opened p.lists) (length p.lists.scopes)) (length p.lists.scopes) in_args theirs) o) OpensSame
          → option_map (λ theirs. opening h ∷ changes.called (within m (opened l) (length l.scopes)) (length l.scopes) in_args theirs) o
          ≡ option_map (λ theirs. opening h ∷ changes.called (within p.moment (opened p.lists) (length p.lists.scopes)) (length p.lists.scopes) in_args theirs) o
      by None same = refl
      by (Some theirs) same = ap Some (called_same in_args theirs same reads)
  entered_same (does.Parallel a) same reads = ap Some (controlled_same (does.Parallel a) same reads)
  entered_same (does.If a b c) same reads = ap Some (controlled_same (does.If a b c) same reads)
  entered_same (does.While a b) same reads = ap Some (controlled_same (does.While a b) same reads)
  entered_same (does.Switch a b) same reads = ap Some (controlled_same (does.Switch a b) same reads)

  -- ---- a task that joins

  -- what a step reads once its branches have ended well
  abbrev pub RejoinsSame : ℕ → ℕ → StepKind → Type 0
  RejoinsSame from scope (does.While condition on_true) = (name : List ℕ) → Contains (compared_names condition) name → SeenSame p.lists scope l scope name
  RejoinsSame from scope (does.PlaybookAction playbook version in_args out_args) =
      (root : Task) → slice_get p.lists.tasks from ≡ Some root → (name : List ℕ) → Contains out_args name → SeenSame p.lists root.scope l root.scope name
  RejoinsSame from scope other = ⊤

  -- the root of a called playbook has the scope that it had
  abbrev pub RootSame : ℕ → Type 0
  RootSame from = option_map (λ (root : Task). root.scope) (slice_get l.tasks from) ≡ option_map (λ (root : Task). root.scope) (slice_get p.lists.tasks from)

  abbrev returned : Lists → List (List ℕ) → Option ℕ → List (List ℕ × Option (List ℕ))
  returned s names o = option_map_or (λ (k : ℕ). valued s k names) o []

  by_scope : (s : Lists) (names : List (List ℕ)) (o : Option Task) → option_map_or (λ (root : Task). valued s root.scope names) o [] ≡ returned s names (option_map (λ (root : Task). root.scope) o)
  by_scope s names None = refl
  by_scope s names (Some root) = refl

  returned_same : (from : ℕ) (names : List (List ℕ)) → RootSame from → ((root : Task) → slice_get p.lists.tasks from ≡ Some root → (name : List ℕ) → Contains names name → SeenSame p.lists root.scope l root.scope name)
      → option_map_or (λ (root : Task). valued l root.scope names) (slice_get l.tasks from) [] ≡ option_map_or (λ (root : Task). valued p.lists root.scope names) (slice_get p.lists.tasks from) []
  returned_same from names root reads = by_scope l names (slice_get l.tasks from) ∙ ap (returned l names) root ∙ by (slice_get p.lists.tasks from) (λ x e. reads x e)
    where
      by : (o : Option Task) → ((root : Task) → o ≡ Some root → (name : List ℕ) → Contains names name → SeenSame p.lists root.scope l root.scope name)
          → returned l names (option_map (λ (root : Task). root.scope) o) ≡ option_map_or (λ (root : Task). valued p.lists root.scope names) o []
      by None reads = refl
      by (Some x) reads = valued_same p.lists l x.scope x.scope names (reads x refl)

  rejoined_same : (from scope : ℕ) (kind : StepKind) → ((name : List ℕ) → home l.scopes scope name ≡ home p.lists.scopes scope name) → RootSame from → RejoinsSame from scope kind
      → changes.rejoined g from scope kind ≡ changes.rejoined h from scope kind
  rejoined_same from scope (does.While condition on_true) homes root reads =
      ap (λ (b : Bool). cond b (makes (child h task.book scope on_true) ∷ []) (changes.done h true)) (true_same p.lists l scope scope condition reads)
  rejoined_same from scope (does.PlaybookAction playbook version in_args out_args) homes root reads =
      ap (λ (ps : List (List ℕ × Option (List ℕ))). flat_map (written l scope) ps ++ changes.done h true) (returned_same from out_args root reads)
      ∙ ap (λ (es : List Edit). es ++ changes.done h true) (written_same p.lists l scope (option_map_or (λ (x : Task). valued p.lists x.scope out_args) (slice_get p.lists.tasks from) []) homes)
  rejoined_same from scope does.Start homes root reads = refl
  rejoined_same from scope does.End homes root reads = refl
  rejoined_same from scope (does.Action a b c d e) homes root reads = refl
  rejoined_same from scope (does.Parallel a) homes root reads = refl
  rejoined_same from scope (does.If a b c) homes root reads = refl
  rejoined_same from scope (does.Switch a b) homes root reads = refl

  -- the children of the task have ended as they had
  pub record BranchesSame (from : ℕ) : Type 0 where
    pub ended : list_all (λ one. has_ended one.phase) (changes.children p.lists t from) ≡ true → list_all (λ one. has_ended one.phase) (changes.children l t from) ≡ true
    pub failed : list_all (λ one. has_ended one.phase) (changes.children p.lists t from) ≡ true
        → list_any (λ one. has_failed one.phase) (changes.children l t from) ≡ list_any (λ one. has_failed one.phase) (changes.children p.lists t from)

  abbrev decided : Bool → Bool → List Edit → List Edit → Option (List Edit)
  decided all any stops goes = cond (not all) None (cond any (Some stops) (Some goes))

  joined_same : (from scope : ℕ) (fs : List Edit) → is_root q task ≡ is_root p task → BranchesSame from
      → (list_any (λ one. has_failed one.phase) (changes.children p.lists t from) ≡ false → changes.rejoined g from scope step.kind ≡ changes.rejoined h from scope step.kind)
      → changes.joined h from scope (changes.children p.lists t from) ≡ Some fs → changes.joined g from scope (changes.children l t from) ≡ Some fs
  joined_same from scope fs root branches goes e =
      by (list_all (λ one. has_ended one.phase) (changes.children p.lists t from)) (list_any (λ one. has_failed one.phase) (changes.children p.lists t from)) refl refl
    where
      by : (all any : Bool) → list_all (λ one. has_ended one.phase) (changes.children p.lists t from) ≡ all → list_any (λ one. has_failed one.phase) (changes.children p.lists t from) ≡ any
          → changes.joined g from scope (changes.children l t from) ≡ Some fs
      by false any a b =
          absurd (none_some fs (sym (ap (λ (x : Bool). decided x (list_any (λ one. has_failed one.phase) (changes.children p.lists t from)) (changes.done h false) (changes.rejoined h from scope step.kind)) a) ∙ e))
      by true any a b =
          ap (λ (x : Bool). decided x (list_any (λ one. has_failed one.phase) (changes.children l t from)) (changes.done g false) (changes.rejoined g from scope step.kind)) (branches.ended a)
          ∙ ap (λ (x : Bool). decided true x (changes.done g false) (changes.rejoined g from scope step.kind)) (branches.failed a ∙ b)
          ∙ ways any b
          ∙ sym (ap (λ (x : Bool). decided true x (changes.done h false) (changes.rejoined h from scope step.kind)) b)
          ∙ sym (ap (λ (x : Bool). decided x (list_any (λ one. has_failed one.phase) (changes.children p.lists t from)) (changes.done h false) (changes.rejoined h from scope step.kind)) a)
          ∙ e
        where
          ways : (x : Bool) → list_any (λ one. has_failed one.phase) (changes.children p.lists t from) ≡ x
              → decided true x (changes.done g false) (changes.rejoined g from scope step.kind) ≡ decided true x (changes.done h false) (changes.rejoined h from scope step.kind)
          ways true c = ap (λ (new : Task). Some (moves t new ∷ [])) (finish_same root false)
          ways false c = ap Some (goes c)

  -- ---- both

  -- What a task reads where it stands, and the tasks that it waits for, are the same.
  abbrev pub WalksSame : Phase → Type 0
  WalksSame (phase.At since) = EntersSame step.kind
  WalksSame (phase.Joining from) =
      BranchesSame from × RootSame from
      × ((scope : ℕ) → task.step_scope ≡ Some scope → ((name : List ℕ) → home l.scopes scope name ≡ home p.lists.scopes scope name)
      × (list_any (λ one. has_failed one.phase) (changes.children p.lists t from) ≡ false → RejoinsSame from scope step.kind))
  WalksSame other = ⊤

  pub walked_joins : (from : ℕ) (fs : List Edit) → is_root q task ≡ is_root p task → WalksSame (phase.Joining from) → changes.walked h (phase.Joining from) ≡ Some fs → changes.walked g (phase.Joining from) ≡ Some fs
  walked_joins from fs root reads e = by task.step_scope refl e
    where
      by : (o : Option ℕ) → task.step_scope ≡ o → option_and_then (λ scope. changes.joined h from scope (changes.children p.lists t from)) o ≡ Some fs
          → changes.walked g (phase.Joining from) ≡ Some fs
      by None at a = absurd (none_some fs a)
      by (Some scope) at a =
          let inner = (reads.2) scope at in
          ap (λ (o : Option ℕ). option_and_then (λ k. changes.joined g from k (changes.children l t from)) o) at
          ∙ joined_same from scope fs root reads.0 (λ well. rejoined_same from scope step.kind inner.0 reads.1 (inner.1 well)) a

  pub walked_same : (at : Phase) (fs : List Edit) → is_root q task ≡ is_root p task → OpensSame fs → WalksSame at → changes.walked h at ≡ Some fs → changes.walked g at ≡ Some fs
  walked_same (phase.At since) fs root same reads e = by (nat_le (since + step.delay) now) refl
    where
      by : (b : Bool) → nat_le (since + step.delay) now ≡ b → changes.walked g (phase.At since) ≡ Some fs
      by false a = absurd (none_some fs (sym (ap (λ (x : Bool). cond x (changes.entered h step.kind) None) a) ∙ e))
      by true a =
          let enters : changes.entered h step.kind ≡ Some fs = sym (ap (λ (x : Bool). cond x (changes.entered h step.kind) None) a) ∙ e in
          ap (λ (x : Bool). cond x (changes.entered g step.kind) None) a
          ∙ entered_same step.kind (subst (λ (o : Option (List Edit)). IfSome o OpensSame) (sym enters) same) reads ∙ enters
  walked_same (phase.Joining from) fs root same reads e = walked_joins from fs root reads e
  walked_same (phase.Sending place) fs root same reads e = absurd (none_some fs e)
  walked_same (phase.Awaiting place issue) fs root same reads e = absurd (none_some fs e)
  walked_same (phase.Ended well) fs root same reads e = absurd (none_some fs e)
