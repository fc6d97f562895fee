-- What a record changes stays the very same after a record of another task that writes nothing that it reads.
use Rattle.std.proofs.Common.{◌≡◌, ℕ, ◌<◌, ◌≤◌, ◌==◌, ◌&&◌, Bool, true, false, cond, List, [], ◌∷◌, ◌++◌, length, Contains, Option, Some, None, is_some, arith, refl, ap, sym, subst, ◌∙◌, ◌⊎◌, inl, inr, length-append}
use Rattle.std.specs.Prelude.{IfSome, is_none, nat_le, not, option_and_then, option_map, slice_get}
use Rattle.std.specs.List.{list_all, list_any}
use Rattle.std.specs.Option.{option_map_or}
use Rattle.std.specs.Str.{bytes_eq}
use Rattle.run_records.specs.declared.record.Record.{Record}
use Rattle.run_records.specs.declared.record.Record.TheVariants as entry
use Rattle.run_records.specs.Ranges.{last_moment}
use Rattle.cacao_vars.specs.Scopes.{home}
use Rattle.cacao_book.specs.declared.steps.Step.{Step}
use Rattle.cacao_book.specs.declared.step_kinds.StepKind.{StepKind}
use Rattle.cacao_book.specs.declared.step_kinds.StepKind.TheVariants as does
use Rattle.flow_core_rules.specs.declared.tasks.Task.{Task}
use Rattle.flow_core_rules.specs.declared.issues.Issue.{Issue}
use Rattle.flow_core_rules.specs.declared.issues.IssuePhase.TheVariants as issue_phase
use Rattle.flow_core_rules.specs.declared.phases.Phase.{Phase}
use Rattle.flow_core_rules.specs.declared.phases.Phase.TheVariants as phase
use Rattle.flow_core_rules.specs.Givens.{Given, step_at}
use Rattle.flow_core_rules.specs.State.{State, Lists, Shown, shown}
use Rattle.flow_core_rules.specs.Edits.{Edit, edited, all_edited, closed}
use Rattle.flow_core_rules.specs.Edits.Edit.{opens, writes, makes, moves, issues, closes, upgrades}
use Rattle.flow_core_rules.specs.Places.{Place}
use Rattle.flow_core_rules.specs.Tasks.{Here, here_at}
use Rattle.flow_core_rules.specs.Changes as changes
use Rattle.flow_core_rules.specs.Changes.{Waiting, Issuing, has_ended, has_failed, children, awaited_place, is_in_time, moment_of, outcome}
use Rattle.flow_core_rules.specs.Runs.{Next}
use Rattle.flow_core_rules.specs.Laws.{ended_by}
use Rattle.flow_core_rules.proofs.RunLemmas.{some_inner}
use Rattle.flow_core_rules.proofs.HereLemmas.{here_of}
use Rattle.flow_core_rules.proofs.ShapeLemmas.{Issued, change_shape}
use Rattle.flow_core_rules.proofs.TaskLemmas.{set_length}
use Rattle.flow_core_laws.specs.OwnTask.{owner_of, task_of, Goes, UpgradesAlone, ChangesOwnTask}
use Rattle.flow_core_laws.specs.SameBytes.{names_at}
use Rattle.flow_core_laws.proofs.Somes.{none_some, clash, le_true, both_true, parts_true, cond_some, Known, then_some}
use Rattle.flow_core_laws.proofs.Children.{none_past, is_own}
use Rattle.flow_core_laws.proofs.OwnTask.{records_change_own_task}
use Rattle.flow_core_laws.proofs.StaysEnabled.{Found, found_at, at_is, made_from, mark_stays}
use Rattle.flow_core_laws.specs.Reads.{homes, compared_names, entered_names, rejoined_reads, walk_reads, issue_reads, reads, writes_of}
use Rattle.flow_core_laws.specs.BothOrders.{opens_scope, makes_task, makes_issue, AtMostOne, OpenApart, MayStillCome, ChangesTheSame}
use Rattle.flow_core_laws.proofs.Acts.{changed_length}
use Rattle.flow_core_laws.proofs.Homes.{in_homes}
use Rattle.flow_core_laws.proofs.Joins.{JoinsBelow}
use Rattle.flow_core_laws.proofs.RunStates.{IsOfRun}
use Rattle.flow_core_laws.proofs.SameReads.{SeenSame}
use Rattle.flow_core_laws.proofs.SameWalks.{RejoinsSame, WalksSame, walked_same}
use Rattle.flow_core_laws.proofs.SameIssues.{send_same, ask_same}
use Rattle.flow_core_laws.proofs.SameAnswers.{AllWaitSame, reply_same, tell_same, expire_same}
use Rattle.flow_core_laws.proofs.Tasks.{children_same}
use Rattle.flow_core_laws.proofs.Roots.{FreeAt, change_free, root_same}
use Rattle.flow_core_laws.proofs.Seen.{homes_same, seen_still, seen_inside}

-- ---- options and tests

pub under : (b : Bool) (o : Option (List Edit)) (fs : List Edit) → cond b o None ≡ Some fs → o ≡ Some fs
under true o fs e = e
under false o fs e = absurd (none_some fs e)

pub test_of : (b : Bool) (o : Option (List Edit)) (fs : List Edit) → cond b o None ≡ Some fs → b ≡ true
test_of true o fs e = refl
test_of false o fs e = absurd (none_some fs e)

not_both : (b c : Bool) → (b && c) ≡ false → c ≡ true → b ≡ false
not_both true c e h = absurd (clash c h e)
not_both false c e h = refl

same_mark : (b c : Bool) → (b ≡ true → c ≡ true) → b ≡ true → c ≡ b
same_mark b c f e = f e ∙ sym e

-- ---- what a record without such an edit leaves in number

no_truth : true ≡ false → ⊥
no_truth h = cc

no_opens : (es : List Edit) (z : State) → list_any opens_scope es ≡ false → length (all_edited es z).scopes ≡ length z.scopes
no_opens [] z none = refl
no_opens (opens parent vars ∷ es) z none = absurd (no_truth none)
no_opens (writes at name text ∷ es) z none = no_opens es (edited (writes at name text) z) none
no_opens (makes task ∷ es) z none = no_opens es (edited (makes task) z) none
no_opens (moves n task ∷ es) z none = no_opens es (edited (moves n task) z) none
no_opens (issues issue ∷ es) z none = no_opens es (edited (issues issue) z) none
no_opens (closes n end ∷ es) z none = no_opens es (edited (closes n end) z) none
no_opens (upgrades ∷ es) z none = no_opens es (edited upgrades z) none

more_scopes : (es : List Edit) (z : State) → length z.scopes ≤ length (all_edited es z).scopes
more_scopes [] z = omega arith
more_scopes (opens parent vars ∷ es) z =
    omega (arith, more_scopes es (edited (opens parent vars) z), length-append z.scopes ((record { parent = parent; vars = vars }) ∷ []))
more_scopes (writes at name text ∷ es) z = more_scopes es (edited (writes at name text) z)
more_scopes (makes task ∷ es) z = more_scopes es (edited (makes task) z)
more_scopes (moves n task ∷ es) z = more_scopes es (edited (moves n task) z)
more_scopes (issues issue ∷ es) z = more_scopes es (edited (issues issue) z)
more_scopes (closes n end ∷ es) z = more_scopes es (edited (closes n end) z)
more_scopes (upgrades ∷ es) z = more_scopes es (edited upgrades z)

-- the number of scopes stays only where none is opened
pub opens_none : (es : List Edit) (z : State) → length (all_edited es z).scopes ≡ length z.scopes → list_any opens_scope es ≡ false
opens_none [] z same = refl
opens_none (opens parent vars ∷ es) z same =
    let more = more_scopes es (edited (opens parent vars) z) in
    let grown = length-append z.scopes ((record { parent = parent; vars = vars }) ∷ []) in
    absurd (omega arith)
opens_none (writes at name text ∷ es) z same = opens_none es (edited (writes at name text) z) same
opens_none (makes task ∷ es) z same = opens_none es (edited (makes task) z) same
opens_none (moves n task ∷ es) z same = opens_none es (edited (moves n task) z) same
opens_none (issues issue ∷ es) z same = opens_none es (edited (issues issue) z) same
opens_none (closes n end ∷ es) z same = opens_none es (edited (closes n end) z) same
opens_none (upgrades ∷ es) z same = opens_none es (edited upgrades z) same

no_makes : (es : List Edit) (z : State) → list_any makes_task es ≡ false → length (all_edited es z).tasks ≡ length z.tasks
no_makes [] z none = refl
no_makes (opens parent vars ∷ es) z none = no_makes es (edited (opens parent vars) z) none
no_makes (writes at name text ∷ es) z none = no_makes es (edited (writes at name text) z) none
no_makes (makes task ∷ es) z none = absurd (no_truth none)
no_makes (moves n task ∷ es) z none = no_makes es (edited (moves n task) z) none ∙ set_length z.tasks n task
no_makes (issues issue ∷ es) z none = no_makes es (edited (issues issue) z) none
no_makes (closes n end ∷ es) z none = no_makes es (edited (closes n end) z) none
no_makes (upgrades ∷ es) z none = no_makes es (edited upgrades z) none

no_issues : (es : List Edit) (z : State) → list_any makes_issue es ≡ false → length (all_edited es z).issues ≡ length z.issues
no_issues [] z none = refl
no_issues (opens parent vars ∷ es) z none = no_issues es (edited (opens parent vars) z) none
no_issues (writes at name text ∷ es) z none = no_issues es (edited (writes at name text) z) none
no_issues (makes task ∷ es) z none = no_issues es (edited (makes task) z) none
no_issues (moves n task ∷ es) z none = no_issues es (edited (moves n task) z) none
no_issues (issues issue ∷ es) z none = absurd (no_truth none)
no_issues (closes n end ∷ es) z none = no_issues es (edited (closes n end) z) none ∙ changed_length n (closed end) z.issues
no_issues (upgrades ∷ es) z none = no_issues es (edited upgrades z) none

-- ---- what is read

-- the record that ends an issue is of the issue's task
ends_own : (s : Shown) (r : Record) (n : ℕ) → ended_by r ≡ Some n → task_of s r ≡ owner_of s n
ends_own s (entry.Reply issue moment status rule text) n e = ap (owner_of s) (some_inner issue n e)
ends_own s (entry.Told issue moment status text) n e = ap (owner_of s) (some_inner issue n e)
ends_own s (entry.Expire issue moment) n e = ap (owner_of s) (some_inner issue n e)
ends_own s (entry.Begin run moment books bind) n e = absurd (none_some n e)
ends_own s (entry.Walk task moment) n e = absurd (none_some n e)
ends_own s (entry.Send task issue agent moment bytes) n e = absurd (none_some n e)
ends_own s (entry.Upgrade version moment) n e = absurd (none_some n e)
ends_own s (entry.Ask task issue moment bytes) n e = absurd (none_some n e)

awaiting_goes : (n : ℕ) (at : Phase) (place : ℕ) → awaited_place n at ≡ Some place → has_ended at ≡ false
awaiting_goes n (phase.Ended well) place e = absurd (none_some place e)
awaiting_goes n (phase.At since) place e = refl
awaiting_goes n (phase.Sending p) place e = refl
awaiting_goes n (phase.Awaiting p issue) place e = refl
awaiting_goes n (phase.Joining from) place e = refl

pub here_is : (s : Shown) (now t : ℕ) (task : Task) (step : Step) → slice_get s.lists.tasks t ≡ Some task → step_at s.given task.book task.step ≡ Some step → here_at s now t ≡ Some (here_of s now t task step)
here_is s now t task step a b =
    ap (λ (o : Option Task). option_and_then (λ (x : Task). option_map (here_of s now t x) (step_at s.given x.book x.step)) o) a
    ∙ ap (λ (o : Option Step). option_map (here_of s now t task) o) b

module _ (s a : State) (one : Record) (x : Next s one a) (k : IsOfRun s) (c : ChangesOwnTask s a one (task_of (shown s) one)) where
  abbrev p : Shown
  p = shown s

  abbrev m : ℕ
  m = a.moment

  abbrev l : Lists
  l = (shown a).lists

  abbrev q : Shown
  q = record p { moment = m; lists = l }

  abbrev pub AreFree : List (ℕ × List ℕ) → Type 0
  AreFree pairs = (at : ℕ) (name : List ℕ) → Contains pairs (at, name) → Contains (writes_of p one) (at, name) → ⊥

  step_scope_below : (t : ℕ) (task : Task) (scope : ℕ) → slice_get s.tasks t ≡ Some task → task.step_scope ≡ Some scope → scope < length s.scopes
  step_scope_below t task scope is at = subst (λ (o : Option ℕ). IfSome o (λ n. n < length s.scopes)) at (k.scoped.tasks t task is).1

  -- the root of a called playbook has the scope that it had
  root_scope : (t from : ℕ) (task : Task) → slice_get s.tasks t ≡ Some task → task.phase ≡ phase.Joining from → option_map (λ (root : Task). root.scope) (slice_get a.tasks from) ≡ option_map (λ (root : Task). root.scope) (slice_get s.tasks from)
  root_scope t from task is at = by (slice_get s.tasks from) refl
    where
      below : from < length s.tasks
      below = subst (λ (f : Phase). JoinsBelow (length s.tasks) f) at (k.joined t task is)

      by : (o : Option Task) → slice_get s.tasks from ≡ o → option_map (λ (root : Task). root.scope) (slice_get a.tasks from) ≡ option_map (λ (root : Task). root.scope) (slice_get s.tasks from)
      by None e = let past : length s.tasks ≤ from = none_past s.tasks from e in absurd (omega (arith, below))
      by (Some root) e = one_of (is_own (task_of p one) from)
        where
          one_of : (task_of p one ≡ Some from) ⊎ (task_of p one ≡ Some from → ⊥) → option_map (λ (root : Task). root.scope) (slice_get a.tasks from) ≡ option_map (λ (root : Task). root.scope) (slice_get s.tasks from)
          one_of (inl own) =
              let g : Goes s a from = c.tasks.its_own from own in
              ap (option_map (λ (y : Task). y.scope)) g.now_is ∙ ap Some (g.keeps).2 ∙ sym (ap (option_map (λ (y : Task). y.scope)) g.was_is)
          one_of (inr other) = ap (option_map (λ (y : Task). y.scope)) (c.tasks.others from root e other ∙ sym e)

  module _ (t now : ℕ) (task : Task) (step : Step) (is : slice_get s.tasks t ≡ Some task) (apart : task_of p one ≡ Some t → ⊥) where
    abbrev h : Here
    h = here_of p now t task step

    rejoins : (from scope : ℕ) (kind : StepKind) → scope < length s.scopes → AreFree (rejoined_reads h from scope kind) → RejoinsSame p m l now t task step from scope kind
    rejoins from scope (does.While condition on_true) less free =
        λ name among. seen_still s a one x k c scope name less (λ at e w. free at name (in_homes s.scopes scope (compared_names condition) name at among e) w)
    rejoins from scope (does.PlaybookAction playbook version in_args out_args) less free =
        λ root root_is name among. seen_still s a one x k c root.scope name (k.scoped.tasks from root root_is).0 (λ at e w.
        free at name (subst (λ (o : Option Task). Contains (option_map_or (λ (y : Task). homes s.scopes y.scope out_args) o []) (at, name)) (sym root_is) (in_homes s.scopes root.scope out_args name at among e)) w)
    rejoins from scope does.Start less free = tt
    rejoins from scope does.End less free = tt
    rejoins from scope (does.Action a b c d e) less free = tt
    rejoins from scope (does.Parallel a) less free = tt
    rejoins from scope (does.If a b c) less free = tt
    rejoins from scope (does.Switch a b) less free = tt

    pub walks : (at : Phase) → task.phase ≡ at → FreeAt p t at → (length l.scopes ≡ length p.lists.scopes → list_any opens_scope x.edits ≡ false) → AreFree (walk_reads h at) → WalksSame p m l now t task step at
    walks (phase.At since) stands free none known =
        λ count name among. seen_inside s a one x k c task.scope step.variables name (none count) count (k.scoped.tasks t task is).0 (λ at e w.
        known at name (in_homes (s.scopes ++ (record { parent = Some task.scope; vars = step.variables }) ∷ []) (length s.scopes) (entered_names step.kind) name at among e) w)
    walks (phase.Joining from) stands all none known = (
      record {
        ended = λ e. ap (list_all (λ one. has_ended one.phase)) (children_same s a one t from c apart all) ∙ e;
        failed = λ e. ap (list_any (λ one. has_failed one.phase)) (children_same s a one t from c apart all);
      },
      root_scope t from task is stands,
      λ scope at. (
        homes_same s a one x k c scope (step_scope_below t task scope is at),
        λ well. rejoins from scope step.kind (step_scope_below t task scope is at) (λ n name among w. known n name (inner scope at well n name among) w),
      ),
    )
      where
        inner : (scope : ℕ) → task.step_scope ≡ Some scope → list_any (λ one. has_failed one.phase) (children p.lists t from) ≡ false → (n : ℕ) (name : List ℕ) → Contains (rejoined_reads h from scope step.kind) (n, name) → Contains (walk_reads h (phase.Joining from)) (n, name)
        inner scope at well n name among =
            subst (λ (o : Option ℕ). Contains (option_map_or (λ j. cond (list_any (λ one. has_failed one.phase) (children p.lists t from)) [] (rejoined_reads h from j step.kind)) o []) (n, name)) (sym at)
            (subst (λ (b : Bool). Contains (cond b [] (rejoined_reads h from scope step.kind)) (n, name)) (sym well) among)
    walks (phase.Sending place) stands free none known = tt
    walks (phase.Awaiting place issue) stands free none known = tt
    walks (phase.Ended well) stands free none known = tt

    pub refers : AreFree (issue_reads h) → (place : Place) → changes.place_at h task.phase ≡ Some place → (scope : ℕ) → task.step_scope ≡ Some scope → (name : List ℕ) → Contains (names_at place) name → SeenSame p.lists scope l scope name
    refers free place place_is scope at name among =
        seen_still s a one x k c scope name (step_scope_below t task scope is at) (λ n e w. free n name (inner n e) w)
      where
        inner : (n : ℕ) → home s.scopes scope name ≡ Some n → Contains (issue_reads h) (n, name)
        inner n e =
            subst (λ (o : Option Place). Contains (option_map_or (λ (y : Place). option_map_or (λ j. homes s.scopes j (names_at y)) task.step_scope []) o []) (n, name)) (sym place_is)
            (subst (λ (o : Option ℕ). Contains (option_map_or (λ j. homes s.scopes j (names_at place)) o []) (n, name)) (sym at) (in_homes s.scopes scope (names_at place) name n among e))

  -- ---- the records

  frame_walk : (b : State) (t now : ℕ) (fs : List Edit) → changes.change p (entry.Walk t now) ≡ Some fs → ChangesOwnTask s b (entry.Walk t now) (Some t) → (task_of p one ≡ Some t → ⊥)
      → AtMostOne opens_scope x.edits fs → AtMostOne makes_task x.edits fs → AreFree (reads p (entry.Walk t now)) → changes.walk q now t ≡ Some fs
  frame_walk b t now fs e own apart scopes tasks free =
      let made : changes.walk p now t ≡ Some fs = under (is_in_time p now) (changes.walk p now t) fs e in
      let at : Found p t = found_at p now t (λ (y : Here). changes.walked y y.task.phase) (ap is_some made) in
      let h : Here = here_of p now t at.task at.step in
      let g : Goes s b t = own.tasks.its_own t refl in
      let goes : has_ended (at.task).phase ≡ false = ap (λ (y : Task). has_ended y.phase) (some_inner at.task g.was (sym at.task_is ∙ g.was_is)) ∙ g.goes_on in
      let none : length l.scopes ≡ length p.lists.scopes → list_any opens_scope x.edits ≡ false = λ same. opens_none x.edits s (ap (λ (z : State). length z.scopes) (sym x.new_is) ∙ same) in
      at_is q now t (λ (y : Here). changes.walked y y.task.phase) at.task at.step (c.tasks.others t at.task at.task_is apart) at.step_is
      ∙ walked_same p m l now t at.task at.step (at.task).phase fs (root_same s a one k x c t at.task m at.task_is goes) (
        λ o. ap (λ (z : State). length z.scopes) x.new_is ∙ no_opens x.edits s (not_both (list_any opens_scope x.edits) (list_any opens_scope fs) scopes o),
        λ o. ap (λ (z : State). length z.tasks) x.new_is ∙ no_makes x.edits s (not_both (list_any makes_task x.edits) (list_any makes_task fs) tasks o),
      )
      (walks t now at.task at.step at.task_is apart (at.task).phase refl (change_free p (entry.Walk t now) fs e t at.task refl at.task_is) none
      (λ n name among w. free n name (subst (λ (o : Option Here). Contains (option_map_or (λ (y : Here). walk_reads y y.task.phase) o []) (n, name)) (sym (here_is p now t at.task at.step at.task_is at.step_is)) among) w))
      (sym (at_is p now t (λ (y : Here). changes.walked y y.task.phase) at.task at.step at.task_is at.step_is) ∙ made)

  count_same : (fs : List Edit) → AtMostOne makes_issue x.edits fs → list_any makes_issue fs ≡ true → length a.issues ≡ length s.issues
  count_same fs apart some = ap (λ (z : State). length z.issues) x.new_is ∙ no_issues x.edits s (not_both (list_any makes_issue x.edits) (list_any makes_issue fs) apart some)

  issued_some : (task n agent now : ℕ) (bytes : List ℕ) (fs : List Edit) → Issued p task n agent now bytes fs → list_any makes_issue fs ≡ true
  issued_some task n agent now bytes fs i = ap (list_any makes_issue) i.edits_are

  frees : (t now : ℕ) (at : Found p t) → AreFree (option_map_or issue_reads (here_at p now t) []) → AreFree (issue_reads (here_of p now t at.task at.step))
  frees t now at free = subst (λ (o : Option Here). AreFree (option_map_or issue_reads o [])) (here_is p now t at.task at.step at.task_is at.step_is) free

  frame_send : (t n agent now : ℕ) (bytes : List ℕ) (fs : List Edit) → changes.change p (entry.Send t n agent now bytes) ≡ Some fs → (task_of p one ≡ Some t → ⊥) → AtMostOne makes_issue x.edits fs
      → AreFree (reads p (entry.Send t n agent now bytes)) → changes.send q now t n agent bytes ≡ Some fs
  frame_send t n agent now bytes fs e apart few free =
      let made : changes.send p now t n agent bytes ≡ Some fs = under (is_in_time p now) (changes.send p now t n agent bytes) fs e in
      let f : Issuing → Option (List Edit) = λ (y : Issuing). cond ((n == length p.lists.issues) && (agent == (y.0).agent) && bytes_eq bytes (y.0).bytes) (Some y.1) None in
      let known : Known f (changes.next_command p now t) = then_some f (changes.next_command p now t) (ap is_some made) in
      let at : Found p t = found_at p now t (λ (y : Here). made_from changes.command_at y (changes.place_at y y.task.phase)) (ap is_some known.is) in
      let count : length a.issues ≡ length s.issues = count_same fs few (issued_some t n agent now bytes fs (change_shape p (entry.Send t n agent now bytes) fs e).issued) in
      send_same p m l now t at.task at.step count at.task_is (c.tasks.others t at.task at.task_is apart) at.step_is (refers t now at.task at.step at.task_is apart (frees t now at free)) n agent bytes ∙ made

  frame_ask : (t n now : ℕ) (bytes : List ℕ) (fs : List Edit) → changes.change p (entry.Ask t n now bytes) ≡ Some fs → (task_of p one ≡ Some t → ⊥) → AtMostOne makes_issue x.edits fs
      → AreFree (reads p (entry.Ask t n now bytes)) → changes.ask q now t n bytes ≡ Some fs
  frame_ask t n now bytes fs e apart few free =
      let made : changes.ask p now t n bytes ≡ Some fs = under (is_in_time p now) (changes.ask p now t n bytes) fs e in
      let f : Issuing → Option (List Edit) = λ (y : Issuing). cond (p.lists.is_upgraded && (n == length p.lists.issues) && bytes_eq bytes (y.0).bytes) (Some y.1) None in
      let known : Known f (changes.next_question p now t) = then_some f (changes.next_question p now t) (ap is_some made) in
      let at : Found p t = found_at p now t (λ (y : Here). made_from changes.question_at y (changes.place_at y y.task.phase)) (ap is_some known.is) in
      let count : length a.issues ≡ length s.issues = count_same fs few (issued_some t n 0 now bytes fs (change_shape p (entry.Ask t n now bytes) fs e)) in
      let tests = parts_true (s.is_upgraded && (n == length s.issues)) (bytes_eq bytes ((known.value).0).bytes) (cond_some (s.is_upgraded && (n == length s.issues) && bytes_eq bytes ((known.value).0).bytes) (Some (known.value).1) known.some).0 in
      let mark : s.is_upgraded ≡ true = (parts_true s.is_upgraded (n == length s.issues) tests.0).0 in
      ask_same p m l now t at.task at.step count at.task_is (c.tasks.others t at.task at.task_is apart) at.step_is (refers t now at.task at.step at.task_is apart (frees t now at free))
      (same_mark s.is_upgraded a.is_upgraded (mark_stays s a one c.upgrade) mark) n bytes ∙ made

  waits : (now n : ℕ) → (task_of p one ≡ owner_of p n → ⊥) → AllWaitSame p m l now n
  waits now n apart w known =
      let owner : owner_of p n ≡ Some (w.issue).task = ap (option_map (λ (issue : Issue). issue.task)) known.issue_is in
      record {
        issue = c.issues.kept.others n w.issue known.issue_is (λ ends. apart (ends_own p one n ends));
        task = c.tasks.others (w.issue).task known.task known.task_is (λ same. apart (same ∙ sym owner));
        root = root_same s a one k x c (w.issue).task known.task m known.task_is (awaiting_goes n (known.task).phase w.place known.place_is);
        homes = homes_same s a one x k c w.scope (step_scope_below (w.issue).task known.task w.scope known.task_is known.scope_is);
      }

  frame_tell : (n now status : ℕ) (text : List ℕ) (fs : List Edit) → changes.change p (entry.Told n now status text) ≡ Some fs → (task_of p one ≡ owner_of p n → ⊥) → changes.tell q now n status text ≡ Some fs
  frame_tell n now status text fs e apart =
      let made : changes.tell p now n status text ≡ Some fs = under (is_in_time p now) (changes.tell p now n status text) fs e in
      let mark : s.is_upgraded ≡ true = (parts_true s.is_upgraded (changes.is_answer status text) (cond_some (s.is_upgraded && changes.is_answer status text) (option_map (changes.answered n (issue_phase.Told status) status 0 text) (changes.waiting_at p now n)) (ap is_some made)).0).0 in
      tell_same p m l now n (same_mark s.is_upgraded a.is_upgraded (mark_stays s a one c.upgrade) mark) status text fs (waits now n apart) made

  no_mark : (r : Record) → UpgradesAlone s a r → (task_of p r ≡ None → ⊥) → a.is_upgraded ≡ s.is_upgraded
  no_mark (entry.Upgrade version moment) same apart = absurd (apart refl)
  no_mark (entry.Begin run moment books bind) same apart = same
  no_mark (entry.Walk task moment) same apart = same
  no_mark (entry.Send task issue agent moment bytes) same apart = same
  no_mark (entry.Reply issue moment status rule text) same apart = same
  no_mark (entry.Expire issue moment) same apart = same
  no_mark (entry.Ask task issue moment bytes) same apart = same
  no_mark (entry.Told issue moment status text) same apart = same

  none_of : (o : Option Bool) → (is_some o ≡ true → ⊥) → is_none o ≡ true
  none_of None h = refl
  none_of (Some y) h = absurd (h refl)

  frame_upgrade : (version now : ℕ) (fs : List Edit) → changes.change p (entry.Upgrade version now) ≡ Some fs → (task_of p one ≡ None → ⊥) → (is_some (outcome l) ≡ true → ⊥) → changes.upgrade l version ≡ Some fs
  frame_upgrade version now fs e apart going =
      let made : changes.upgrade p.lists version ≡ Some fs = under (is_in_time p now) (changes.upgrade p.lists version) fs e in
      let test = parts_true ((version == 2) && is_none (outcome p.lists)) (not p.lists.is_upgraded) (test_of ((version == 2) && is_none (outcome p.lists) && not p.lists.is_upgraded) (Some (upgrades ∷ [])) fs made) in
      let goes_on : is_none (outcome p.lists) ≡ true = (parts_true (version == 2) (is_none (outcome p.lists)) test.0).1 in
      ap (λ b. cond ((version == 2) && b && not l.is_upgraded) (Some (upgrades ∷ [])) None) (none_of (outcome l) going ∙ sym goes_on)
      ∙ ap (λ b. cond ((version == 2) && is_none (outcome p.lists) && not b) (Some (upgrades ∷ [])) None) (no_mark one c.upgrade apart) ∙ made

  -- each kind of record
  pub frame_of : (b : State) (r : Record) (y : Next s r b) → (task_of p one ≡ task_of p r → ⊥) → OpenApart x.edits y.edits → AreFree (reads p r) → MayStillCome a r → changes.edits_of q r ≡ Some y.edits
  frame_of b (entry.Begin run moment books bind) y apart few free may = absurd (none_some y.edits (under (is_in_time p moment) None y.edits y.change_is))
  frame_of b (entry.Walk t now) y apart few free may = frame_walk b t now y.edits y.change_is (records_change_own_task s b (entry.Walk t now) y) apart few.scopes few.tasks free
  frame_of b (entry.Send t n agent now bytes) y apart few free may = frame_send t n agent now bytes y.edits y.change_is apart few.issues free
  frame_of b (entry.Ask t n now bytes) y apart few free may = frame_ask t n now bytes y.edits y.change_is apart few.issues free
  frame_of b (entry.Reply n now status rule text) y apart few free may =
      reply_same p m l now n status rule text y.edits (waits now n apart) (under (is_in_time p now) (changes.reply p now n status rule text) y.edits y.change_is)
  frame_of b (entry.Told n now status text) y apart few free may = frame_tell n now status text y.edits y.change_is apart
  frame_of b (entry.Expire n now) y apart few free may = expire_same p m l now n y.edits (waits now n apart) (under (is_in_time p now) (changes.expire p now n) y.edits y.change_is)
  frame_of b (entry.Upgrade version now) y apart few free may = frame_upgrade version now y.edits y.change_is apart may

  pub shown_is : shown a ≡ q
  shown_is = ap (λ (n : ℕ). record (shown a) { run = n }) c.run ∙ ap (λ (g : Given). record (shown a) { run = s.run; given = g }) c.given

  pub frame : (b : State) (r : Record) (y : Next s r b) → (task_of p one ≡ task_of p r → ⊥) → moment_of one ≤ moment_of r → OpenApart x.edits y.edits → AreFree (reads p r) → MayStillCome a r → ChangesTheSame s a r
  frame b r y apart le few free may =
      subst (λ (z : Shown). changes.change z r ≡ changes.change p r) (sym shown_is)
      (ap (λ t. cond t (changes.edits_of q r) None) timely ∙ frame_of b r y apart few free may ∙ sym y.change_is)
    where
      bounded : nat_le (moment_of r) last_moment ≡ true
      bounded = (parts_true (nat_le s.moment (moment_of r)) (nat_le (moment_of r) last_moment) (test_of (is_in_time p (moment_of r)) (changes.edits_of p r) y.edits y.change_is)).1

      timely : is_in_time q (moment_of r) ≡ true
      timely = both_true (nat_le a.moment (moment_of r)) (nat_le (moment_of r) last_moment) (le_true a.moment (moment_of r) (subst (λ n. n ≤ moment_of r) (sym c.moment) le)) bounded
