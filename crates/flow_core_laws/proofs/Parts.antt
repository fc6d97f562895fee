-- What edits do to each of the lists that are shown.
use Rattle.std.proofs.Common.{◌≡◌, arith, Bool, true, false, List, [], ◌∷◌, length, Option, Some, None, refl, ap, sym, ◌∙◌}
use Rattle.cacao_vars.specs.declared.scoping.Scope.{Scope}
use Rattle.flow_core_rules.specs.declared.tasks.Task.{Task}
use Rattle.flow_core_rules.specs.declared.issues.Issue.{Issue}
use Rattle.flow_core_rules.specs.State.{Lists, Texts}
use Rattle.flow_core_rules.specs.Edits.{Edit, shown_edited, all_shown_edited, declared_texts, with_text, closed}
use Rattle.flow_core_rules.specs.Edits.Edit.{opens, writes, makes, moves, issues, closes, upgrades}
use Rattle.flow_core_laws.proofs.Acts.{Act, acts, ActsApart, swap_all, set_is_changed}
use Rattle.flow_core_laws.proofs.Acts.Act.{adds, alters}

abbrev pub task_act : Edit → Option (Act Task)
task_act (opens parent vars) = None
task_act (writes at name text) = None
task_act (makes task) = Some (adds task)
task_act (moves n task) = Some (alters n (λ was. task))
task_act (issues issue) = None
task_act (closes n end) = None
task_act upgrades = None

abbrev pub scope_act : Edit → Option (Act Scope)
scope_act (opens parent vars) = Some (adds (record { parent = parent; vars = vars }))
scope_act (writes at name text) = None
scope_act (makes task) = None
scope_act (moves n task) = None
scope_act (issues issue) = None
scope_act (closes n end) = None
scope_act upgrades = None

abbrev pub text_act : Edit → Option (Act Texts)
text_act (opens parent vars) = Some (adds (declared_texts vars))
text_act (writes at name text) = Some (alters at (with_text name text))
text_act (makes task) = None
text_act (moves n task) = None
text_act (issues issue) = None
text_act (closes n end) = None
text_act upgrades = None

abbrev pub issue_act : Edit → Option (Act Issue)
issue_act (opens parent vars) = None
issue_act (writes at name text) = None
issue_act (makes task) = None
issue_act (moves n task) = None
issue_act (issues issue) = Some (adds issue)
issue_act (closes n end) = Some (alters n (closed end))
issue_act upgrades = None

abbrev pub marked : List Edit → Bool → Bool
marked [] b = b
marked (opens parent vars ∷ es) b = marked es b
marked (writes at name text ∷ es) b = marked es b
marked (makes task ∷ es) b = marked es b
marked (moves n task ∷ es) b = marked es b
marked (issues issue ∷ es) b = marked es b
marked (closes n end ∷ es) b = marked es b
marked (upgrades ∷ es) b = marked es true

-- each list by itself
abbrev parts : List Edit → Lists → Lists
parts es l = record {
  is_upgraded = marked es l.is_upgraded;
  tasks = acts task_act es l.tasks;
  scopes = acts scope_act es l.scopes;
  texts = acts text_act es l.texts;
  issues = acts issue_act es l.issues;
}

in_parts : (es : List Edit) (l : Lists) → all_shown_edited es l ≡ parts es l
in_parts [] l = refl
in_parts (opens parent vars ∷ es) l = in_parts es (shown_edited (opens parent vars) l)
in_parts (writes at name text ∷ es) l = in_parts es (shown_edited (writes at name text) l)
in_parts (makes task ∷ es) l = in_parts es (shown_edited (makes task) l)
in_parts (moves n task ∷ es) l = in_parts es (shown_edited (moves n task) l) ∙ ap (λ (ts : List Task). parts es (record l { tasks = ts })) (set_is_changed l.tasks n task)
in_parts (issues issue ∷ es) l = in_parts es (shown_edited (issues issue) l)
in_parts (closes n end ∷ es) l = in_parts es (shown_edited (closes n end) l)
in_parts (upgrades ∷ es) l = in_parts es (shown_edited upgrades l)

-- an upgrade stays one
marked_true : (es : List Edit) → marked es true ≡ true
marked_true [] = refl
marked_true (opens parent vars ∷ es) = marked_true es
marked_true (writes at name text ∷ es) = marked_true es
marked_true (makes task ∷ es) = marked_true es
marked_true (moves n task ∷ es) = marked_true es
marked_true (issues issue ∷ es) = marked_true es
marked_true (closes n end ∷ es) = marked_true es
marked_true (upgrades ∷ es) = marked_true es

marked_both : (es fs : List Edit) (b : Bool) → marked fs (marked es b) ≡ marked es (marked fs b)
marked_both es fs true = ap (marked fs) (marked_true es) ∙ marked_true fs ∙ sym (ap (marked es) (marked_true fs) ∙ marked_true es)
marked_both es fs false = by (marked es false) (marked fs false) refl refl
  where
    by : (a c : Bool) → marked es false ≡ a → marked fs false ≡ c → marked fs (marked es false) ≡ marked es (marked fs false)
    by true true e f = ap (marked fs) e ∙ marked_true fs ∙ sym (ap (marked es) f ∙ marked_true es)
    by true false e f = ap (marked fs) e ∙ marked_true fs ∙ sym (ap (marked es) f ∙ e)
    by false true e f = ap (marked fs) e ∙ f ∙ sym (ap (marked es) f ∙ marked_true es)
    by false false e f = ap (marked fs) e ∙ f ∙ sym (ap (marked es) f ∙ e)

-- apart in each list
pub record PartsApart (l : Lists) (es fs : List Edit) : Type 0 where
  pub tasks : ActsApart task_act (length l.tasks) es fs
  pub scopes : ActsApart scope_act 0 es fs
  pub texts : ActsApart text_act (length l.texts) es fs
  pub issues : ActsApart issue_act (length l.issues) es fs

pub both_ways : (l : Lists) (es fs : List Edit) → PartsApart l es fs → all_shown_edited fs (all_shown_edited es l) ≡ all_shown_edited es (all_shown_edited fs l)
both_ways l es fs a =
    in_parts fs (all_shown_edited es l) ∙ ap (parts fs) (in_parts es l) ∙ same ∙ sym (in_parts es (all_shown_edited fs l) ∙ ap (parts es) (in_parts fs l))
  where
    same : parts fs (parts es l) ≡ parts es (parts fs l)
    same =
        ap (λ (b : Bool). record (parts fs (parts es l)) { is_upgraded = b }) (marked_both es fs l.is_upgraded)
        ∙ ap (λ (ts : List Task). record (parts fs (parts es l)) { is_upgraded = marked es (marked fs l.is_upgraded); tasks = ts }) (swap_all task_act (length l.tasks) es fs l.tasks (omega arith) a.tasks)
        ∙ ap (λ (ss : List Scope). record (parts fs (parts es l)) { is_upgraded = marked es (marked fs l.is_upgraded); tasks = acts task_act es (acts task_act fs l.tasks); scopes = ss }) (swap_all scope_act 0 es fs l.scopes (omega arith) a.scopes)
        ∙ ap (λ (ts : List Texts). record (parts es (parts fs l)) { texts = ts; issues = acts issue_act fs (acts issue_act es l.issues) }) (swap_all text_act (length l.texts) es fs l.texts (omega arith) a.texts)
        ∙ ap (λ (is : List Issue). record (parts es (parts fs l)) { issues = is }) (swap_all issue_act (length l.issues) es fs l.issues (omega arith) a.issues)
