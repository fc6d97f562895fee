-- What a record changes stays the same after a record of another task, but for the numbers of what it opens.
use Rattle.std.proofs.Common.{◌≡◌, ℕ, suc, ◌+◌, ◌-◌, ◌≤◌, ◌&&◌, Bool, true, false, cond, List, [], ◌∷◌, ◌++◌, length, map, Contains, Option, Some, None, is_some, arith, refl, ap, sym, subst, ◌∙◌, length-append}
use Rattle.std.specs.Prelude.{IfSome, nat_le, option_map}
use Rattle.std.specs.List.{list_any}
use Rattle.std.specs.Option.{option_map_or}
use Rattle.run_records.specs.declared.record.Record.{Record}
use Rattle.run_records.specs.declared.record.Record.TheVariants as entry
use Rattle.run_records.specs.Ranges.{last_moment}
use Rattle.cacao_vars.specs.declared.scoping.Scope.{Scope}
use Rattle.flow_core_rules.specs.declared.tasks.Task.{Task}
use Rattle.flow_core_rules.specs.declared.phases.Phase.{Phase}
use Rattle.flow_core_rules.specs.declared.phases.Phase.TheVariants as phase
use Rattle.flow_core_rules.specs.State.{State, Lists, Shown, shown}
use Rattle.flow_core_rules.specs.Edits.{Edit, shown_edited}
use Rattle.flow_core_rules.specs.Edits.Edit.{opens, writes, makes, moves, issues, closes, upgrades}
use Rattle.flow_core_rules.specs.Tasks.{Here}
use Rattle.flow_core_rules.specs.Changes as changes
use Rattle.flow_core_rules.specs.Changes.{has_ended, is_in_time, moment_of}
use Rattle.flow_core_rules.specs.Runs.{Next, after}
use Rattle.flow_core_rules.proofs.RunLemmas.{some_inner}
use Rattle.flow_core_rules.proofs.HereLemmas.{here_of}
use Rattle.flow_core_rules.proofs.TaskLemmas.{tasks_after, tasks_are}
use Rattle.flow_core_laws.specs.OwnTask.{task_of, Goes, ChangesOwnTask}
use Rattle.flow_core_laws.proofs.Somes.{none_some, clash, le_true, both_true, parts_true}
use Rattle.flow_core_laws.proofs.OwnEdits.{AreOwn, OwnEdits}
use Rattle.flow_core_laws.proofs.OwnRecords.{OwnShape, change_own}
use Rattle.flow_core_laws.proofs.OwnTask.{records_change_own_task}
use Rattle.flow_core_laws.proofs.StaysEnabled.{Found, found_at, at_is}
use Rattle.flow_core_laws.specs.Reads.{entered_names, walk_reads, reads}
use Rattle.flow_core_laws.specs.BothOrders.{opens_scope, makes_task, makes_issue, AtMostOne, MayStillCome}
use Rattle.flow_core_laws.specs.Renumbered.{Grown, grown, raised, renumbered, OthersChangeTheSameRenumbered, BothOrdersGoOn}
use Rattle.flow_core_laws.proofs.Homes.{in_homes}
use Rattle.flow_core_laws.proofs.Joins.{made, count_after}
use Rattle.flow_core_laws.proofs.RunStates.{IsOfRun, of_run}
use Rattle.flow_core_laws.proofs.SameReads.{SeenSame}
use Rattle.flow_core_laws.proofs.SameWalks.{walked_joins}
use Rattle.flow_core_laws.proofs.Roots.{FreeAt, change_free, root_same}
use Rattle.flow_core_laws.proofs.Frame.{under, test_of, opens_none, here_is, AreFree, walks, frame_of, shown_is}
use Rattle.flow_core_laws.proofs.Inside.{seen_opened}
use Rattle.flow_core_laws.proofs.Raised.{raised_new, again, StaysOld, stays_old}
use Rattle.flow_core_laws.proofs.RaisedWalks.{walked_old, walked_again}

-- ---- only a Walk opens scopes and makes tasks

module _ (s : Shown) (now t : ℕ) (was : Task) where
  none_opened : (es : List Edit) (k : ℕ) → AreOwn false s now t was k es → list_any opens_scope es ≡ false
  none_opened [] k own = refl
  none_opened (opens parent vars ∷ es) k own = absurd (clash false own.0 refl)
  none_opened (writes at name text ∷ es) k own = none_opened es k own.1
  none_opened (makes task ∷ es) k own = none_opened es k own.2
  none_opened (moves n task ∷ es) k own = none_opened es k own.2
  none_opened (issues issue ∷ es) k own = none_opened es k own
  none_opened (closes n end ∷ es) k own = none_opened es k own
  none_opened (upgrades ∷ es) k own = absurd own

  none_made : (es : List Edit) (k : ℕ) → AreOwn false s now t was k es → list_any makes_task es ≡ false
  none_made [] k own = refl
  none_made (opens parent vars ∷ es) k own = none_made es (suc k) own.2
  none_made (writes at name text ∷ es) k own = none_made es k own.1
  none_made (makes task ∷ es) k own = absurd (clash false own.0 refl)
  none_made (moves n task ∷ es) k own = none_made es k own.2
  none_made (issues issue ∷ es) k own = none_made es k own
  none_made (closes n end ∷ es) k own = none_made es k own
  none_made (upgrades ∷ es) k own = absurd own

abbrev OpensNone : List Edit → Type 0
OpensNone es = (list_any opens_scope es ≡ false) × (list_any makes_task es ≡ false)

own_none : (s : Shown) (now : ℕ) (own : Option ℕ) (es : List Edit) → OwnEdits s false now own es → OpensNone es
own_none s now own es o = (none_opened s now o.number o.was es 0 o.are, none_made s now o.number o.was es 0 o.are)

and_false : (a b : Bool) → b ≡ false → (a && b) ≡ false
and_false true b e = e
and_false false b e = refl

-- ---- a number that has grown

is_raised : (n m : ℕ) → n ≤ m → m ≡ raised n (m - n) n
is_raised n m le = back n m le ∙ sym (raised_new n (m - n) n (same n))
  where
    same : (a : ℕ) → a ≤ a
    same a = omega arith

    back : (a b : ℕ) → a ≤ b → b ≡ a + (b - a)
    back a b h = omega arith

module _ (s a : State) (one : Record) (x : Next s one a) (k : IsOfRun s) (c : ChangesOwnTask s a one (task_of (shown s) one)) where
  abbrev p : Shown
  p = shown s

  abbrev m : ℕ
  m = a.moment

  abbrev l : Lists
  l = (shown a).lists

  abbrev q : Shown
  q = record p { moment = m; lists = l }

  abbrev by : Grown
  by = grown s a

  scopes_grown : length a.scopes ≡ raised (length s.scopes) (length a.scopes - length s.scopes) (length s.scopes)
  scopes_grown = is_raised (length s.scopes) (length a.scopes) (subst (λ (ss : List Scope). length s.scopes ≤ length ss) (sym c.texts.scopes_are) (longer s.scopes c.texts.opened))
    where
      longer : (xs ys : List Scope) → length xs ≤ length (xs ++ ys)
      longer xs ys = omega (arith, length-append xs ys)

  tasks_grown : length a.tasks ≡ raised (length s.tasks) (length a.tasks - length s.tasks) (length s.tasks)
  tasks_grown = is_raised (length s.tasks) (length a.tasks) (subst (λ (ts : List Task). length s.tasks ≤ length ts) (sym same) (omega (arith, count_after x.edits s.tasks)))
    where
      same : a.tasks ≡ tasks_after x.edits s.tasks
      same = ap (λ (z : State). z.tasks) x.new_is ∙ tasks_are x.edits s

  walk_again : (b : State) (t now : ℕ) (fs : List Edit) → changes.change p (entry.Walk t now) ≡ Some fs → ChangesOwnTask s b (entry.Walk t now) (Some t) → (task_of p one ≡ Some t → ⊥)
      → AreFree s a one x k c (reads p (entry.Walk t now)) → changes.walk q now t ≡ Some (again by fs)
  walk_again b t now fs e own apart free =
      at_is q now t (λ (y : Here). changes.walked y y.task.phase) at.task at.step (c.tasks.others t at.task at.task_is apart) at.step_is
      ∙ ways (at.task).phase refl (change_free p (entry.Walk t now) fs e t at.task refl at.task_is) known
      (sym (at_is p now t (λ (y : Here). changes.walked y y.task.phase) at.task at.step at.task_is at.step_is) ∙ made_is)
    where
      made_is : changes.walk p now t ≡ Some fs
      made_is = under (is_in_time p now) (changes.walk p now t) fs e

      at : Found p t
      at = found_at p now t (λ (y : Here). changes.walked y y.task.phase) (ap is_some (under (is_in_time p now) (changes.walk p now t) fs e))

      h : Here
      h = here_of p now t at.task at.step

      g : Here
      g = here_of q now t at.task at.step

      goes : has_ended (at.task).phase ≡ false
      goes =
          let own_is : Goes s b t = own.tasks.its_own t refl in
          ap (λ (y : Task). has_ended y.phase) (some_inner at.task own_is.was (sym at.task_is ∙ own_is.was_is)) ∙ own_is.goes_on

      known : AreFree s a one x k c (walk_reads h (at.task).phase)
      known n name among w = free n name (subst (λ (o : Option Here). Contains (option_map_or (λ (y : Here). walk_reads y y.task.phase) o []) (n, name)) (sym (here_is p now t at.task at.step at.task_is at.step_is)) among) w

      ways : (ph : Phase) → (at.task).phase ≡ ph → FreeAt p t ph → AreFree s a one x k c (walk_reads h ph) → changes.walked h ph ≡ Some fs → changes.walked g ph ≡ Some (again by fs)
      ways (phase.At since) stands free read made =
          walked_again p m l now t at.task at.step by refl scopes_grown tasks_grown (k.scoped.tasks t at.task at.task_is) (k.joined t at.task at.task_is) since
          (λ name among. subst (λ (n : ℕ). SeenSame (shown_edited (opens (Some (at.task).scope) (at.step).variables) (shown s).lists) (length s.scopes) (shown_edited (opens (Some (at.task).scope) (at.step).variables) (shown a).lists) n name) scopes_grown
          (seen_opened s a one x k c (at.task).scope (at.step).variables name (k.scoped.tasks t at.task at.task_is).0 (λ n home_is w.
          read n name (in_homes (s.scopes ++ (record { parent = Some (at.task).scope; vars = (at.step).variables }) ∷ []) (length s.scopes) (entered_names (at.step).kind) name n among home_is) w)))
          ∙ ap (option_map (again by)) made
      ways (phase.Joining from) stands free read made =
          walked_joins p m l now t at.task at.step from fs (root_same s a one k x c t at.task m at.task_is goes)
          (walks s a one x k c t now at.task at.step at.task_is apart (phase.Joining from) stands free (λ same. opens_none x.edits s (ap (λ (z : State). length z.scopes) (sym x.new_is) ∙ same)) read) made
          ∙ sym (sym (ap (option_map (again by)) made) ∙ walked_old p m l now t at.task at.step by refl scopes_grown tasks_grown (k.scoped.tasks t at.task at.task_is) (k.joined t at.task at.task_is) from ∙ made)
      ways (phase.Sending place) stands free read made = absurd (none_some fs made)
      ways (phase.Awaiting place issue) stands free read made = absurd (none_some fs made)
      ways (phase.Ended well) stands free read made = absurd (none_some fs made)

  -- any other record
  stays : (b : State) (r : Record) (y : Next s r b) → (task_of p one ≡ task_of p r → ⊥) → AtMostOne makes_issue x.edits y.edits → AreFree s a one x k c (reads p r) → MayStillCome a r → OpensNone y.edits
      → IfSome (changes.edits_of p r) (λ es. map (renumbered by) es ≡ es) → changes.edits_of q r ≡ Some (again by y.edits)
  stays b r y apart few free may none old =
      frame_of s a one x k c b r y apart
      (record { scopes = and_false (list_any opens_scope x.edits) (list_any opens_scope y.edits) none.0; tasks = and_false (list_any makes_task x.edits) (list_any makes_task y.edits) none.1; issues = few }) free may
      ∙ ap Some (sym (subst (λ (o : Option (List Edit)). IfSome o (λ es. map (renumbered by) es ≡ es)) (under (is_in_time p (moment_of r)) (changes.edits_of p r) y.edits y.change_is) old))

  again_of : (b : State) (r : Record) (y : Next s r b) → (task_of p one ≡ task_of p r → ⊥) → AtMostOne makes_issue x.edits y.edits → AreFree s a one x k c (reads p r) → MayStillCome a r
      → OwnShape p r y.edits → StaysOld p by refl (λ t task e. k.scoped.tasks t task e) r → changes.edits_of q r ≡ Some (again by y.edits)
  again_of b (entry.Begin run moment books bind) y apart few free may own old = absurd own
  again_of b (entry.Walk t now) y apart few free may own old = walk_again b t now y.edits y.change_is (records_change_own_task s b (entry.Walk t now) y) apart free
  again_of b (entry.Send t n agent now bytes) y apart few free may own old = stays b (entry.Send t n agent now bytes) y apart few free may (own_none p now (Some t) y.edits own) old
  again_of b (entry.Ask t n now bytes) y apart few free may own old = stays b (entry.Ask t n now bytes) y apart few free may (own_none p now (Some t) y.edits own) old
  again_of b (entry.Reply n now status rule text) y apart few free may own old = stays b (entry.Reply n now status rule text) y apart few free may (own_none p now (task_of p (entry.Reply n now status rule text)) y.edits own) old
  again_of b (entry.Told n now status text) y apart few free may own old = stays b (entry.Told n now status text) y apart few free may (own_none p now (task_of p (entry.Told n now status text)) y.edits own) old
  again_of b (entry.Expire n now) y apart few free may own old = stays b (entry.Expire n now) y apart few free may (own_none p now (task_of p (entry.Expire n now)) y.edits own) old
  again_of b (entry.Upgrade version now) y apart few free may own old =
      stays b (entry.Upgrade version now) y apart few free may (subst (λ (es : List Edit). OpensNone es) (sym own) (refl, refl)) old

  pub frame_again : (b : State) (r : Record) (y : Next s r b) → (task_of p one ≡ task_of p r → ⊥) → moment_of one ≤ moment_of r → AtMostOne makes_issue x.edits y.edits → AreFree s a one x k c (reads p r) → MayStillCome a r
      → changes.change (shown a) r ≡ option_map (map (renumbered by)) (changes.change p r)
  frame_again b r y apart le few free may =
      subst (λ (z : Shown). changes.change z r ≡ option_map (map (renumbered by)) (changes.change p r)) (sym (shown_is s a one x k c))
      (ap (λ t. cond t (changes.edits_of q r) None) timely
      ∙ again_of b r y apart few free may (change_own p r y.edits y.change_is) (stays_old p by refl (λ t task e. k.scoped.tasks t task e) r)
      ∙ sym (ap (option_map (map (renumbered by))) y.change_is))
    where
      bounded : nat_le (moment_of r) last_moment ≡ true
      bounded = (parts_true (nat_le s.moment (moment_of r)) (nat_le (moment_of r) last_moment) (test_of (is_in_time p (moment_of r)) (changes.edits_of p r) y.edits y.change_is)).1

      timely : is_in_time q (moment_of r) ≡ true
      timely = both_true (nat_le a.moment (moment_of r)) (nat_le (moment_of r) last_moment) (le_true a.moment (moment_of r) (subst (λ n. n ≤ moment_of r) (sym c.moment) le)) bounded

pub others_change_the_same_renumbered : OthersChangeTheSameRenumbered
others_change_the_same_renumbered given run records s a b one other leads x y tasks le few free may =
    frame_again s a one x (of_run given run records s leads) (records_change_own_task s a one x) b other y tasks le few (λ at name r w. free at name w r) may

pub both_orders_go_on : BothOrdersGoOn
both_orders_go_on given run records s a b one other leads x y tasks moments few other_reads one_reads may_other may_one = record {
  ab = after (moment_of other) (map (renumbered (grown s a)) y.edits) a;
  ba = after (moment_of one) (map (renumbered (grown s b)) x.edits) b;
  one_first = record { edits = map (renumbered (grown s a)) y.edits; change_is = of_other; new_is = refl };
  other_first = record { edits = map (renumbered (grown s b)) x.edits; change_is = of_one; new_is = refl };
  other_edits = refl;
  one_edits = refl;
}
  where
    at_most : (n k : ℕ) → n ≡ k → n ≤ k
    at_most n k e = omega arith

    flip : (c d : Bool) → (c && d) ≡ false → (d && c) ≡ false
    flip true true e = e
    flip true false e = refl
    flip false true e = refl
    flip false false e = refl

    of_other : changes.change (shown a) other ≡ Some (map (renumbered (grown s a)) y.edits)
    of_other =
        others_change_the_same_renumbered given run records s a b one other leads x y tasks (at_most (moment_of one) (moment_of other) moments) few other_reads may_other ∙ ap (option_map (map (renumbered (grown s a)))) y.change_is

    of_one : changes.change (shown b) one ≡ Some (map (renumbered (grown s b)) x.edits)
    of_one =
        others_change_the_same_renumbered given run records s b a other one leads y x (λ e. tasks (sym e)) (at_most (moment_of other) (moment_of one) (sym moments))
        (flip (list_any makes_issue x.edits) (list_any makes_issue y.edits) few) one_reads may_one ∙ ap (option_map (map (renumbered (grown s b)))) x.change_is
