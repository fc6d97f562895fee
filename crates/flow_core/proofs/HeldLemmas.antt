-- What a flow keeps behind each of its calls.
use Rattle.std.proofs.Common.{◌≡◌, ℕ, suc, ◌+◌, ◌<◌, ◌≤◌, ◌==◌, Bool, true, false, cond, not, List, length, Option, Some, None, arith, refl, ap, sym, subst, ◌∙◌}
use Rattle.std.specs.Prelude.{option_map, count_by, nat_lt, Result, Ok, Err, OnOk}
use Rattle.std.specs.List.{list_any}
use Rattle.run_records.specs.Ranges.{last_moment}
use Rattle.run_records.specs.declared.record.Record.{Record}
use Rattle.flow_core_rules.specs.State.{Shown, Lists}
use Rattle.flow_core_rules.specs.Edits.{Edit, all_shown_edited}
use Rattle.flow_core_rules.specs.Runnable.{IsRunnable}
use Rattle.flow_core_rules.specs.Sane.{IsNotStuck}
use Rattle.flow_core_rules.proofs.NotStuck.{not_stuck}
use Rattle.flow_core_rules.specs.Changes.{moment_of}
use Rattle.flow_core_rules.specs.Runs.{shown_after}
use Rattle.flow_core.specs.declared.flow.Flow.TheInside.{Inside}
use Rattle.flow_core.specs.declared.flow.Plan.{Plan}
use Rattle.flow_core_plans.specs.RunTypes.{Run}
use Rattle.flow_core_plans.specs.TableTypes.{Planned, Tables}
use Rattle.flow_core.specs.declared.flow_errors.LimitKind.TheVariants as limit
use Rattle.flow_core_plans.specs.Planned.{edit_of, edits_of, AreDeclared}
use Rattle.flow_core_plans.specs.Fits.{AllFit}
use Rattle.flow_core_plans.specs.TableFacts.{blank_lists, lists_of, seen_with, HasTables, HasRoom}
use Rattle.flow_core_plans.specs.RunFacts.{shown_of, IsWell}
use Rattle.flow_core.specs.Views.{View, has_begun, taken, passed, most_tasks, is_makes, is_long_command, IsReadyFor}
use Rattle.flow_core.specs.Flows.{plan_of, view_of, IsStateOf, IsReached, HasSizes, IsHeld, PlanIsHeld, IsSound}
use Rattle.flow_core.proofs.FlowLemmas.{sane_now, taken_fits, taken_reaches, issues_grow, tasks_grow, count_mapped, any_mapped}

inner : {A : Type 0} (a b : A) → Some a ≡ Some b → a ≡ b
inner a b h = cc

-- a run that has begun is well
pub is_well : (f : Inside) → IsSound f → (f.count ≡ 0 → ⊥) → IsRunnable f.run.setup → length f.run.tables.opened.scopes ≤ 200_000_001 → IsWell f.run
is_well f s apart runnable scopes =
    let few = s.few in
    let issues = s.sizes.issues in
    record {
      small = record { tasks = s.sizes.tasks; scopes = scopes; issues = omega arith };
      in_time = s.sizes.in_time;
      runnable = runnable;
      sane = sane_now f.count (shown_of f.run) apart runnable s.reached;
      tables = s.tables;
    }

-- the plan that a flow is ready with
held_edits : (f : Inside) (v : View) (r : Record) (plan : Plan) → view_of f ≡ v → f.plan ≡ Some plan → (h : IsReadyFor v r) → (edits_of plan.edits.items ≡ h.edits) × (plan.moment ≡ moment_of r)
held_edits f v r plan view is h =
    let same : Some (plan_of plan) ≡ Some (moment_of r, h.edits) = sym (ap (option_map plan_of) is) ∙ ap (λ (w : View). w.plan) view ∙ h.plan_is in
    let pair : plan_of plan ≡ (moment_of r, h.edits) = inner (plan_of plan) (moment_of r, h.edits) same in
    (ap (λ (p : ℕ × List Edit). p.1) pair, ap (λ (p : ℕ × List Edit). p.0) pair)

-- its edits are what the record changes
pub held_taken : (f : Inside) (v : View) (r : Record) (plan : Plan) → view_of f ≡ v → f.plan ≡ Some plan → IsReadyFor v r → taken (view_of f) r ≡ Some (edits_of plan.edits.items)
held_taken f v r plan view is h = ap (λ (w : View). taken w r) view ∙ h.taken_is ∙ ap Some (sym (held_edits f v r plan view is h).0)

pub held_moment : (f : Inside) (v : View) (r : Record) (plan : Plan) → view_of f ≡ v → f.plan ≡ Some plan → IsReadyFor v r → plan.moment ≡ moment_of r
held_moment f v r plan view is h = (held_edits f v r plan view is h).1

pub held_fits : (f : Inside) (r : Record) (plan : Plan) → IsSound f → IsRunnable f.run.setup → taken (view_of f) r ≡ Some (edits_of plan.edits.items) → AllFit (lists_of f.run.tables) (edits_of plan.edits.items)
held_fits f r plan s runnable e = taken_fits f.count (view_of f) r (edits_of plan.edits.items) refl runnable s.reached s.tables.texts_len e

pub held_plan : (f : Inside) (plan : Plan) → IsSound f → f.plan ≡ Some plan → IsHeld plan f.count f.run.tables
held_plan f plan s is = subst (λ p. PlanIsHeld p f.count f.run.tables) is s.plan

-- what is shown behind the plan
pub applied_shown : (f : Inside) (run : Run) (plan : Plan) → run.setup ≡ f.run.setup → run.number ≡ f.run.number → run.moment ≡ plan.moment → lists_of run.tables ≡ all_shown_edited (edits_of plan.edits.items) (lists_of f.run.tables)
    → shown_of run ≡ shown_after plan.moment (edits_of plan.edits.items) (shown_of f.run)
applied_shown f run plan a b c d =
    ap (λ g. record { moment = run.moment; run = run.number; given = g; lists = lists_of run.tables }) a
    ∙ ap (λ n. record { moment = run.moment; run = n; given = f.run.setup; lists = lists_of run.tables }) b
    ∙ ap (λ m. record { moment = m; run = f.run.number; given = f.run.setup; lists = lists_of run.tables }) c
    ∙ ap (λ (l : Lists). record { moment = plan.moment; run = f.run.number; given = f.run.setup; lists = l }) d

-- the invariant behind the plan
pub applied_sound : (f : Inside) (r : Record) (plan : Plan) (new : Inside) → IsSound f → IsRunnable f.run.setup → f.plan ≡ Some plan → taken (view_of f) r ≡ Some (edits_of plan.edits.items) → plan.moment ≡ moment_of r
    → new.count ≡ suc f.count → new.plan ≡ None → shown_of new.run ≡ shown_after plan.moment (edits_of plan.edits.items) (shown_of f.run) → HasTables (seen_with new.run.setup (lists_of new.run.tables)) new.run.tables → IsSound new
applied_sound f r plan new s runnable is e moment count none shown tables =
    let held : IsHeld plan f.count f.run.tables = held_plan f plan s is in
    let reaches = taken_reaches f.count (view_of f) r (edits_of plan.edits.items) refl s.reached e in
    let more = issues_grow f.count (view_of f) r (edits_of plan.edits.items) refl runnable s.reached e in
    let grown = tasks_grow (edits_of plan.edits.items) (lists_of f.run.tables) in
    let after : Shown = shown_after plan.moment (edits_of plan.edits.items) (shown_of f.run) in
    let few = held.few in
    let tasks = held.tasks in
    let issues = s.sizes.issues in
    let reached : IsStateOf (suc f.count) after = subst (λ m. IsStateOf (suc f.count) (shown_after m (edits_of plan.edits.items) (shown_of f.run))) (sym moment) reaches.0 in
    let sizes : HasSizes (suc f.count) after = record { tasks = omega arith; issues = omega arith; in_time = subst (λ m. m ≤ last_moment) (sym moment) reaches.1 } in
    record {
      few = subst (λ n. n ≤ 100_000_000) (sym count) (omega arith);
      reached = subst (λ n. IsReached n (shown_of new.run)) (sym count) (subst (IsStateOf (suc f.count)) (sym shown) reached);
      sizes = subst (λ n. HasSizes n (shown_of new.run)) (sym count) (subst (HasSizes (suc f.count)) (sym shown) sizes);
      tables = tables;
      plan = subst (λ p. PlanIsHeld p new.count new.run.tables) (sym none) tt;
    }

-- ---- before the Begin

pub idle_sound : (f : Inside) → f.count ≡ 0 → f.plan ≡ None → f.run.moment ≡ 0 → lists_of f.run.tables ≡ blank_lists → HasTables (seen_with f.run.setup (lists_of f.run.tables)) f.run.tables → IsSound f
idle_sound f count none moment lists tables = record {
  few = subst (λ n. n ≤ 100_000_000) (sym count) (omega arith);
  reached = subst (λ n. IsReached n (shown_of f.run)) (sym count)
      (ap (λ m. record { moment = m; run = f.run.number; given = f.run.setup; lists = lists_of f.run.tables }) moment ∙ ap (λ (l : Lists). record { moment = 0; run = f.run.number; given = f.run.setup; lists = l }) lists);
  sizes = record {
    tasks = subst (λ (l : Lists). length l.tasks ≤ 1_000_000) (sym lists) (omega arith);
    issues = subst (λ (l : Lists). length l.issues ≤ f.count) (sym lists) (omega arith);
    in_time = subst (λ m. m ≤ last_moment) (sym moment) (omega arith);
  };
  tables = tables;
  plan = subst (λ p. PlanIsHeld p f.count f.run.tables) (sym none) tt;
}

-- ---- never stuck

begun_apart : (n : ℕ) → not (n == 0) ≡ true → n ≡ 0 → ⊥
begun_apart n h e = clash (subst (λ k. not (k == 0) ≡ true) e h)
  where
    clash : false ≡ true → ⊥
    clash g = cc

pub begun_not_stuck : (f : Inside) → IsSound f → IsRunnable f.run.setup → has_begun (view_of f) ≡ true → IsNotStuck (shown_of f.run)
begun_not_stuck f s runnable begun = not_stuck (shown_of f.run) (sane_now f.count (shown_of f.run) (begun_apart f.count begun) runnable s.reached)

-- ---- limits

lt_false : (a b : ℕ) → b ≤ a → nat_lt a b ≡ false
lt_false a b le = grind arith

le_false : (a b : ℕ) → nat_lt a b ≡ false → b ≤ a
le_false a b h = grind arith

pub passes : (s : Shown) (ps : List Planned) (tasks made : ℕ) (long : Bool) → length s.lists.tasks ≡ tasks → made ≡ count_by (λ p. is_makes (edit_of p)) ps → tasks + made ≤ 1_000_000
    → long ≡ list_any (λ p. is_long_command (edit_of p)) ps → passed s (edits_of ps) ≡ cond long (Some limit.Command) None
passes s ps tasks made long len count within is =
    let number : count_by is_makes (edits_of ps) ≡ made = count_mapped is_makes edit_of ps ∙ sym count in
    let few : nat_lt most_tasks (length s.lists.tasks + count_by is_makes (edits_of ps)) ≡ false = lt_false most_tasks (length s.lists.tasks + count_by is_makes (edits_of ps)) (omega arith) in
    ap (λ b. cond b (Some limit.Tasks) (cond (list_any is_long_command (edits_of ps)) (Some limit.Command) None)) few
    ∙ ap (λ b. cond b (Some limit.Command) None) (any_mapped is_long_command edit_of ps ∙ sym is)

pub passed_none : (s : Shown) (es : List Edit) → None ≡ passed s es → length s.lists.tasks + count_by is_makes es ≤ 1_000_000
passed_none s es e = le_false most_tasks (length s.lists.tasks + count_by is_makes es) (by (nat_lt most_tasks (length s.lists.tasks + count_by is_makes es)) e)
  where
    no_limit : None ≡ Some limit.Tasks → ⊥
    no_limit g = cc

    by : (b : Bool) → None ≡ cond b (Some limit.Tasks) (cond (list_any is_long_command es) (Some limit.Command) None) → b ≡ false
    by true g = absurd (no_limit g)
    by false g = refl

-- ---- room that was taken

kept_plan : (p : Option Plan) (count : ℕ) (old new : Tables) → lists_of new ≡ lists_of old → ((k : ℕ) → HasRoom k old → HasRoom k new) → PlanIsHeld p count old → PlanIsHeld p count new
kept_plan None count old new same room h = tt
kept_plan (Some plan) count old new same room h = record {
  room = room (length plan.edits.items) h.room;
  declared = h.declared;
  tasks = subst (λ (l : Lists). length l.tasks + count_by is_makes (edits_of plan.edits.items) ≤ 1_000_000) (sym same) h.tasks;
  short = h.short;
  few = h.few;
}

-- a flow whose tables took room, with a plan that is held
reserved : (f new : Inside) → IsSound f → new.count ≡ f.count → new.run.setup ≡ f.run.setup → new.run.number ≡ f.run.number → new.run.moment ≡ f.run.moment → lists_of new.run.tables ≡ lists_of f.run.tables
    → HasTables (seen_with f.run.setup (lists_of f.run.tables)) new.run.tables → PlanIsHeld new.plan new.count new.run.tables → IsSound new
reserved f new s count setup number moment lists tables plan =
    let shown : shown_of new.run ≡ shown_of f.run =
    ap (λ g. record { moment = new.run.moment; run = new.run.number; given = g; lists = lists_of new.run.tables }) setup
    ∙ ap (λ n. record { moment = new.run.moment; run = n; given = f.run.setup; lists = lists_of new.run.tables }) number
    ∙ ap (λ m. record { moment = m; run = f.run.number; given = f.run.setup; lists = lists_of new.run.tables }) moment
    ∙ ap (λ (l : Lists). record { moment = f.run.moment; run = f.run.number; given = f.run.setup; lists = l }) lists in
    record {
      few = subst (λ n. n ≤ 100_000_000) (sym count) s.few;
      reached = subst (λ n. IsReached n (shown_of new.run)) (sym count) (subst (IsReached f.count) (sym shown) s.reached);
      sizes = subst (λ n. HasSizes n (shown_of new.run)) (sym count) (subst (HasSizes f.count) (sym shown) s.sizes);
      tables = subst (λ (l : Lists). HasTables (seen_with new.run.setup l) new.run.tables) (sym lists) (subst (λ g. HasTables (seen_with g (lists_of f.run.tables)) new.run.tables) (sym setup) tables);
      plan = plan;
    }

pub reserved_kept : (f new : Inside) → IsSound f → new.count ≡ f.count → new.plan ≡ f.plan → new.run.setup ≡ f.run.setup → new.run.number ≡ f.run.number → new.run.moment ≡ f.run.moment → lists_of new.run.tables ≡ lists_of f.run.tables
    → HasTables (seen_with f.run.setup (lists_of f.run.tables)) new.run.tables → ((k : ℕ) → HasRoom k f.run.tables → HasRoom k new.run.tables) → IsSound new
reserved_kept f new s count plan setup number moment lists tables room =
    reserved f new s count setup number moment lists tables
    (subst (λ p. PlanIsHeld p new.count new.run.tables) (sym plan) (subst (λ n. PlanIsHeld f.plan n new.run.tables) (sym count) (kept_plan f.plan f.count f.run.tables new.run.tables lists room s.plan)))

pub reserved_held : (f new : Inside) (plan : Plan) → IsSound f → new.count ≡ f.count → new.plan ≡ Some plan → new.run.setup ≡ f.run.setup → new.run.number ≡ f.run.number → new.run.moment ≡ f.run.moment → lists_of new.run.tables ≡ lists_of f.run.tables
    → HasTables (seen_with f.run.setup (lists_of f.run.tables)) new.run.tables → IsHeld plan f.count new.run.tables → IsSound new
reserved_held f new plan s count is setup number moment lists tables held =
    reserved f new s count setup number moment lists tables
    (subst (λ p. PlanIsHeld p new.count new.run.tables) (sym is) (subst (λ n. IsHeld plan n new.run.tables) (sym count) held))

pub is_held : (plan : Plan) (count size : ℕ) (f : Run) (t : Tables) → lists_of t ≡ lists_of f.tables → HasRoom size t → size ≡ length plan.edits.items → AreDeclared plan.edits.items → None ≡ passed (shown_of f) (edits_of plan.edits.items)
    → size ≤ 1_000_000 → count < 100_000_000 → IsHeld plan count t
is_held plan count size f t lists room len declared none short few = record {
  room = subst (λ n. HasRoom n t) len room;
  declared = declared;
  tasks = subst (λ (l : Lists). length l.tasks + count_by is_makes (edits_of plan.edits.items) ≤ 1_000_000) (sym lists) (passed_none (shown_of f) (edits_of plan.edits.items) none);
  short = subst (λ n. n ≤ 1_000_000) len short;
  few = few;
}

-- ---- ready

pub ready_held : (v new : View) (r : Record) (edits : List Edit) (m : ℕ) → taken v r ≡ Some edits → m ≡ moment_of r → new ≡ record v { plan = Some (m, edits) } → IsReadyFor new r
ready_held v new r edits m e moment same =
    subst (λ (w : View). IsReadyFor w r) (sym same) (record { edits = edits; taken_is = e; plan_is = ap (λ n. Some (n, edits)) moment })

pub on_ok : {T E P Q : Type 0} (r : Result T E) → (P → Q) → OnOk r P → OnOk r Q
on_ok (Ok x) f h = f h
on_ok (Err e) f h = tt
