-- What the edits of a record change: its own task, texts of scopes that are there or that it opened, and one issue of its task.
use Rattle.std.proofs.Common.{◌≡◌, ◌≢◌, ◌&&◌, ℕ, suc, ◌<◌, Bool, true, false, cond, List, [], ◌∷◌, length, Option, Some, None, refl, ap, sym, subst, ◌∙◌}
use Rattle.std.specs.Bool.{⊤}
use Rattle.std.specs.List.{AllByRecursion, list_any}
use Rattle.std.specs.Str.{bytes_eq}
use Rattle.std.proofs.lemmas.Slice.Eq.{bytes_eq-Decides}
use Rattle.run_records.specs.declared.record.Record.{Record}
use Rattle.run_records.specs.declared.record.Record.TheVariants as entry
use Rattle.cacao_vars.specs.declared.scoping.Scope.{Scope}
use Rattle.cacao_vars.specs.declared.scoping.Write.{Write}
use Rattle.flow_core_rules.specs.declared.tasks.Task.{Task}
use Rattle.flow_core_rules.specs.declared.issues.IssuePhase.{IssuePhase}
use Rattle.flow_core_rules.specs.State.{State, Shown, Texts, shown, texts_from}
use Rattle.flow_core_rules.specs.Edits.{Edit, with_text}
use Rattle.flow_core_rules.specs.Edits.Edit.{opens, writes, makes, moves, issues, closes, upgrades}
use Rattle.flow_core_rules.proofs.PlacedLemmas.{Placed}
use Rattle.flow_core_rules.proofs.QuietLemmas.{IsQuiet}
use Rattle.flow_core_rules.proofs.ShapeLemmas.{Issued, Closed, IssueShape}
use Rattle.flow_core_rules.proofs.TaskLemmas.{get_within}
use Rattle.flow_core_laws.specs.OwnTask.{owner_of, task_of}
use Rattle.flow_core_laws.proofs.Somes.{clash}
use Rattle.flow_core_laws.proofs.OwnEdits.{AreOwn, OwnEdits}
use Rattle.flow_core_laws.proofs.OwnRecords.{OwnShape}
use Rattle.flow_core_laws.specs.BothOrders.{opens_scope, makes_task, makes_issue}
use Rattle.flow_core_laws.proofs.Acts.{ActApart, ActsApart}
use Rattle.flow_core_laws.proofs.Parts.{task_act, scope_act, text_act, issue_act}

-- not both write to one name of one scope
abbrev pub WriteApart : Edit → Edit → Type 0
WriteApart (writes at name text) (writes at' name' text') = at ≡ at' → name ≢ name'
WriteApart one other = ⊤

-- ---- what one edit may do

abbrev pub TaskSide : Option ℕ → ℕ → Bool → Edit → Type 0
TaskSide own count made (makes task) = made ≡ true
TaskSide own count made (moves n task) = (own ≡ Some n) × (n < count)
TaskSide own count made (opens parent vars) = ⊤
TaskSide own count made (writes at name text) = ⊤
TaskSide own count made (issues issue) = ⊤
TaskSide own count made (closes n end) = ⊤
TaskSide own count made upgrades = ⊤

abbrev pub TextSide : Bool → ℕ → Edit → Type 0
TextSide opened count (opens parent vars) = opened ≡ true
TextSide opened count (writes at name text) = opened ≡ false → at < count
TextSide opened count (makes task) = ⊤
TextSide opened count (moves n task) = ⊤
TextSide opened count (issues issue) = ⊤
TextSide opened count (closes n end) = ⊤
TextSide opened count upgrades = ⊤

abbrev pub IssueSide : State → Option ℕ → Bool → Edit → Type 0
IssueSide s own issued (issues issue) = issued ≡ true
IssueSide s own issued (closes n end) = (owner_of (shown s) n ≡ own) × (n < length s.issues)
IssueSide s own issued (opens parent vars) = ⊤
IssueSide s own issued (writes at name text) = ⊤
IssueSide s own issued (makes task) = ⊤
IssueSide s own issued (moves n task) = ⊤
IssueSide s own issued upgrades = ⊤

pub record Sides (s : State) (own : Option ℕ) (es : List Edit) : Type 0 where
  pub tasks : AllByRecursion (TaskSide own (length s.tasks) (list_any makes_task es)) es
  pub texts : AllByRecursion (TextSide (list_any opens_scope es) (length s.scopes)) es
  pub issues : AllByRecursion (IssueSide s own (list_any makes_issue es)) es

-- ---- of the edits of a record

task_sides : (walks : Bool) (s : Shown) (now t : ℕ) (was : Task) (k count : ℕ) (made : Bool) (es : List Edit) → t < count → (list_any makes_task es ≡ true → made ≡ true) → AreOwn walks s now t was k es
    → AllByRecursion (TaskSide (Some t) count made) es
task_sides walks s now t was k count made [] less some own = tt
task_sides walks s now t was k count made (opens parent vars ∷ es) less some own = (tt, task_sides walks s now t was (suc k) count made es less some own.2)
task_sides walks s now t was k count made (writes at name text ∷ es) less some own = (tt, task_sides walks s now t was k count made es less some own.1)
task_sides walks s now t was k count made (makes task ∷ es) less some own = (some refl, task_sides walks s now t was k count made es less (λ e. some refl) own.2)
task_sides walks s now t was k count made (moves n task ∷ es) less some own = ((ap Some (sym own.0), subst (λ m. m < count) (sym own.0) less), task_sides walks s now t was k count made es less some own.2)
task_sides walks s now t was k count made (issues issue ∷ es) less some own = (tt, task_sides walks s now t was k count made es less some own)
task_sides walks s now t was k count made (closes n end ∷ es) less some own = (tt, task_sides walks s now t was k count made es less some own)
task_sides walks s now t was k count made (upgrades ∷ es) less some own = absurd own

text_sides : (opened : Bool) (count n : ℕ) (es : List Edit) → (opened ≡ false → n ≡ count) → (list_any opens_scope es ≡ true → opened ≡ true) → Placed n es → AllByRecursion (TextSide opened count) es
text_sides opened count n [] same some placed = tt
text_sides opened count n (opens parent vars ∷ es) same some placed =
    (some refl, text_sides opened count (suc n) es (λ e. absurd (clash opened (some refl) e)) (λ e. some refl) placed)
text_sides opened count n (writes at name text ∷ es) same some placed = ((λ e. subst (λ m. at < m) (same e) placed.0), text_sides opened count n es same some placed.1)
text_sides opened count n (makes task ∷ es) same some placed = (tt, text_sides opened count n es same some placed)
text_sides opened count n (moves t task ∷ es) same some placed = (tt, text_sides opened count n es same some placed)
text_sides opened count n (issues issue ∷ es) same some placed = (tt, text_sides opened count n es same some placed)
text_sides opened count n (closes i end ∷ es) same some placed = (tt, text_sides opened count n es same some placed)
text_sides opened count n (upgrades ∷ es) same some placed = (tt, text_sides opened count n es same some placed)

no_truth : false ≡ true → ⊥
no_truth h = cc

quiet_sides : (s : State) (own : Option ℕ) (issued : Bool) (es : List Edit) → IsQuiet es → AllByRecursion (IssueSide s own issued) es
quiet_sides s own issued [] q = tt
quiet_sides s own issued (opens parent vars ∷ es) q = (tt, quiet_sides s own issued es q)
quiet_sides s own issued (writes at name text ∷ es) q = (tt, quiet_sides s own issued es q)
quiet_sides s own issued (makes task ∷ es) q = (tt, quiet_sides s own issued es q)
quiet_sides s own issued (moves t task ∷ es) q = (tt, quiet_sides s own issued es q)
quiet_sides s own issued (issues issue ∷ es) q = absurd (no_truth q)
quiet_sides s own issued (closes i end ∷ es) q = absurd (no_truth q)
quiet_sides s own issued (upgrades ∷ es) q = absurd (no_truth q)

abbrev IssueSides : State → Option ℕ → List Edit → Type 0
IssueSides s own es = AllByRecursion (IssueSide s own (list_any makes_issue es)) es

issued_sides : (s : State) (own : Option ℕ) (task n agent now : ℕ) (bytes : List ℕ) (es : List Edit) → Issued (shown s) task n agent now bytes es → IssueSides s own es
issued_sides s own task n agent now bytes es i = subst (IssueSides s own) (sym i.edits_are) (refl, quiet_sides s own true i.rest i.quiet)

closed_sides : (s : State) (n : ℕ) (end : IssuePhase) (es : List Edit) → Closed (shown s) n end es → IssueSides s (owner_of (shown s) n) es
closed_sides s n end es c =
    subst (IssueSides s (owner_of (shown s) n)) (sym c.edits_are) ((refl, get_within s.issues n c.issue c.issue_is), quiet_sides s (owner_of (shown s) n) (list_any makes_issue c.rest) c.rest c.quiet)

issue_sides : (s : State) (r : Record) (es : List Edit) → IssueShape (shown s) r es → IssueSides s (task_of (shown s) r) es
issue_sides s (entry.Begin run moment books bind) es shape = absurd shape
issue_sides s (entry.Walk task moment) es shape = quiet_sides s (Some task) (list_any makes_issue es) es shape
issue_sides s (entry.Send task n agent moment bytes) es shape = issued_sides s (Some task) task n agent moment bytes es shape.issued
issue_sides s (entry.Ask task n moment bytes) es shape = issued_sides s (Some task) task n 0 moment bytes es shape
issue_sides s (entry.Upgrade version moment) es shape = subst (IssueSides s None) (sym shape) (tt, tt)
issue_sides s (entry.Reply n moment status rule text) es shape = closed_sides s n _ es shape
issue_sides s (entry.Told n moment status text) es shape = closed_sides s n _ es shape
issue_sides s (entry.Expire n moment) es shape = closed_sides s n _ es shape

own_sides : (s : State) (walks : Bool) (now : ℕ) (own : Option ℕ) (es : List Edit) → OwnEdits (shown s) walks now own es → AllByRecursion (TaskSide own (length s.tasks) (list_any makes_task es)) es
own_sides s walks now own es o =
    subst (λ x. AllByRecursion (TaskSide x (length s.tasks) (list_any makes_task es)) es) (sym o.number_is)
    (task_sides walks (shown s) now o.number o.was 0 (length s.tasks) (list_any makes_task es) es (get_within s.tasks o.number o.was o.was_is) (λ e. e) o.are)

tasks_of : (s : State) (r : Record) (es : List Edit) → OwnShape (shown s) r es → AllByRecursion (TaskSide (task_of (shown s) r) (length s.tasks) (list_any makes_task es)) es
tasks_of s (entry.Begin run moment books bind) es shape = absurd shape
tasks_of s (entry.Upgrade version moment) es shape = subst (λ xs. AllByRecursion (TaskSide None (length s.tasks) (list_any makes_task xs)) xs) (sym shape) (tt, tt)
tasks_of s (entry.Walk task moment) es shape = own_sides s true moment (Some task) es shape
tasks_of s (entry.Send task n agent moment bytes) es shape = own_sides s false moment (Some task) es shape
tasks_of s (entry.Ask task n moment bytes) es shape = own_sides s false moment (Some task) es shape
tasks_of s (entry.Reply n moment status rule text) es shape = own_sides s false moment (owner_of (shown s) n) es shape
tasks_of s (entry.Told n moment status text) es shape = own_sides s false moment (owner_of (shown s) n) es shape
tasks_of s (entry.Expire n moment) es shape = own_sides s false moment (owner_of (shown s) n) es shape

pub sides_of : (s : State) (r : Record) (es : List Edit) → OwnShape (shown s) r es → IssueShape (shown s) r es → Placed (length s.scopes) es → Sides s (task_of (shown s) r) es
sides_of s r es own shape placed = record {
  tasks = tasks_of s r es own;
  texts = text_sides (list_any opens_scope es) (length s.scopes) (length s.scopes) es (λ e. refl) (λ e. e) placed;
  issues = issue_sides s r es shape;
}

-- ---- pairs

pub both_no : (a b : Bool) → (a && b) ≡ false → a ≡ true → b ≡ true → ⊥
both_no true b e x y = clash b y e
both_no false b e x y = clash false x refl

other_no : (a b : Bool) → (a && b) ≡ false → a ≡ true → b ≡ false
other_no true b e x = e
other_no false b e x = absurd (clash false x refl)

first_no : (a b : Bool) → (a && b) ≡ false → b ≡ true → a ≡ false
first_no true b e y = absurd (clash b y e)
first_no false b e y = refl

pair_tasks : (p q : Option ℕ) (count : ℕ) (a b : Bool) → p ≢ q → (a && b) ≡ false → (e f : Edit) → TaskSide p count a e → TaskSide q count b f → ActApart count (task_act e) (task_act f)
pair_tasks p q count a b apart one (opens parent vars) f x y = tt
pair_tasks p q count a b apart one (writes at name text) f x y = tt
pair_tasks p q count a b apart one (issues issue) f x y = tt
pair_tasks p q count a b apart one (closes n end) f x y = tt
pair_tasks p q count a b apart one upgrades f x y = tt
pair_tasks p q count a b apart one (makes task) (opens parent vars) x y = tt
pair_tasks p q count a b apart one (makes task) (writes at name text) x y = tt
pair_tasks p q count a b apart one (makes task) (issues issue) x y = tt
pair_tasks p q count a b apart one (makes task) (closes n end) x y = tt
pair_tasks p q count a b apart one (makes task) upgrades x y = tt
pair_tasks p q count a b apart one (makes task) (makes other) x y = both_no a b one x y
pair_tasks p q count a b apart one (makes task) (moves n other) x y = y.1
pair_tasks p q count a b apart one (moves n task) (opens parent vars) x y = tt
pair_tasks p q count a b apart one (moves n task) (writes at name text) x y = tt
pair_tasks p q count a b apart one (moves n task) (issues issue) x y = tt
pair_tasks p q count a b apart one (moves n task) (closes m end) x y = tt
pair_tasks p q count a b apart one (moves n task) upgrades x y = tt
pair_tasks p q count a b apart one (moves n task) (makes other) x y = x.1
pair_tasks p q count a b apart one (moves n task) (moves m other) x y = λ same. absurd (apart (x.0 ∙ ap Some same ∙ sym y.0))

pair_issues : (s : State) (p q : Option ℕ) (a b : Bool) → p ≢ q → (a && b) ≡ false → (e f : Edit) → IssueSide s p a e → IssueSide s q b f → ActApart (length s.issues) (issue_act e) (issue_act f)
pair_issues s p q a b apart one (opens parent vars) f x y = tt
pair_issues s p q a b apart one (writes at name text) f x y = tt
pair_issues s p q a b apart one (makes task) f x y = tt
pair_issues s p q a b apart one (moves n task) f x y = tt
pair_issues s p q a b apart one upgrades f x y = tt
pair_issues s p q a b apart one (issues issue) (opens parent vars) x y = tt
pair_issues s p q a b apart one (issues issue) (writes at name text) x y = tt
pair_issues s p q a b apart one (issues issue) (makes task) x y = tt
pair_issues s p q a b apart one (issues issue) (moves n task) x y = tt
pair_issues s p q a b apart one (issues issue) upgrades x y = tt
pair_issues s p q a b apart one (issues issue) (issues other) x y = both_no a b one x y
pair_issues s p q a b apart one (issues issue) (closes m end) x y = y.1
pair_issues s p q a b apart one (closes n end) (opens parent vars) x y = tt
pair_issues s p q a b apart one (closes n end) (writes at name text) x y = tt
pair_issues s p q a b apart one (closes n end) (makes task) x y = tt
pair_issues s p q a b apart one (closes n end) (moves m task) x y = tt
pair_issues s p q a b apart one (closes n end) upgrades x y = tt
pair_issues s p q a b apart one (closes n end) (issues other) x y = x.1
pair_issues s p q a b apart one (closes n end) (closes m other) x y = λ same. absurd (apart (sym x.0 ∙ ap (owner_of (shown s)) same ∙ y.0))

pair_scopes : (a b : Bool) (n : ℕ) → (a && b) ≡ false → (e f : Edit) → TextSide a n e → TextSide b n f → ActApart 0 (scope_act e) (scope_act f)
pair_scopes a b n one (opens parent vars) (opens other names) x y = both_no a b one x y
pair_scopes a b n one (opens parent vars) (writes at name text) x y = tt
pair_scopes a b n one (opens parent vars) (makes task) x y = tt
pair_scopes a b n one (opens parent vars) (moves t task) x y = tt
pair_scopes a b n one (opens parent vars) (issues issue) x y = tt
pair_scopes a b n one (opens parent vars) (closes i end) x y = tt
pair_scopes a b n one (opens parent vars) upgrades x y = tt
pair_scopes a b n one (writes at name text) f x y = tt
pair_scopes a b n one (makes task) f x y = tt
pair_scopes a b n one (moves t task) f x y = tt
pair_scopes a b n one (issues issue) f x y = tt
pair_scopes a b n one (closes i end) f x y = tt
pair_scopes a b n one upgrades f x y = tt

-- texts for two names go in either order
with_both : (name other text word : List ℕ) → name ≢ other → (x : Texts) → with_text other word (with_text name text x) ≡ with_text name text (with_text other word x)
with_both name other text word apart [] = refl
with_both name other text word apart (e ∷ x) =
    ap (λ (r : Texts). (e.0, cond (bytes_eq other e.0) (Some word) (cond (bytes_eq name e.0) (Some text) e.1)) ∷ r) (with_both name other text word apart x)
    ∙ ap (λ (o : Option (List ℕ)). (e.0, o) ∷ with_text name text (with_text other word x)) (by (bytes_eq other e.0) (bytes_eq name e.0) refl refl)
  where
    by : (a b : Bool) → bytes_eq other e.0 ≡ a → bytes_eq name e.0 ≡ b → cond a (Some word) (cond b (Some text) e.1) ≡ cond b (Some text) (cond a (Some word) e.1)
    by true true p q = absurd (apart ((bytes_eq-Decides name e.0).0 q ∙ sym ((bytes_eq-Decides other e.0).0 p)))
    by true false p q = refl
    by false b p q = refl

pair_texts : (a b : Bool) (n : ℕ) → (a && b) ≡ false → (e f : Edit) → WriteApart e f → TextSide a n e → TextSide b n f → ActApart n (text_act e) (text_act f)
pair_texts a b n one (opens parent vars) (opens other names) w x y = both_no a b one x y
pair_texts a b n one (opens parent vars) (writes at name text) w x y = y (other_no a b one x)
pair_texts a b n one (opens parent vars) (makes task) w x y = tt
pair_texts a b n one (opens parent vars) (moves t task) w x y = tt
pair_texts a b n one (opens parent vars) (issues issue) w x y = tt
pair_texts a b n one (opens parent vars) (closes i end) w x y = tt
pair_texts a b n one (opens parent vars) upgrades w x y = tt
pair_texts a b n one (writes at name text) (opens other names) w x y = x (first_no a b one y)
pair_texts a b n one (writes at name text) (writes at' other word) w x y = λ same. with_both name other text word (w same)
pair_texts a b n one (writes at name text) (makes task) w x y = tt
pair_texts a b n one (writes at name text) (moves t task) w x y = tt
pair_texts a b n one (writes at name text) (issues issue) w x y = tt
pair_texts a b n one (writes at name text) (closes i end) w x y = tt
pair_texts a b n one (writes at name text) upgrades w x y = tt
pair_texts a b n one (makes task) f w x y = tt
pair_texts a b n one (moves t task) f w x y = tt
pair_texts a b n one (issues issue) f w x y = tt
pair_texts a b n one (closes i end) f w x y = tt
pair_texts a b n one upgrades f w x y = tt

-- ---- all pairs

pub all_pairs : (P Q : Edit → Type 0) (R S : Edit → Edit → Type 0) → ((e f : Edit) → R e f → P e → Q f → S e f) → (es fs : List Edit) → AllByRecursion (λ e. AllByRecursion (R e) fs) es → AllByRecursion P es → AllByRecursion Q fs
    → AllByRecursion (λ e. AllByRecursion (S e) fs) es
all_pairs P Q R S pair [] fs r p q = tt
all_pairs P Q R S pair (e ∷ es) fs r p q = (row fs r.0 q, all_pairs P Q R S pair es fs r.1 p.1 q)
  where
    row : (gs : List Edit) → AllByRecursion (R e) gs → AllByRecursion Q gs → AllByRecursion (S e) gs
    row [] r q = tt
    row (g ∷ gs) r q = (pair e g r.0 p.0 q.0, row gs r.1 q.1)

pub any_pairs : (P Q : Edit → Type 0) (S : Edit → Edit → Type 0) → ((e f : Edit) → P e → Q f → S e f) → (es fs : List Edit) → AllByRecursion P es → AllByRecursion Q fs → AllByRecursion (λ e. AllByRecursion (S e) fs) es
any_pairs P Q S pair [] fs p q = tt
any_pairs P Q S pair (e ∷ es) fs p q = (row fs q, any_pairs P Q S pair es fs p.1 q)
  where
    row : (gs : List Edit) → AllByRecursion Q gs → AllByRecursion (S e) gs
    row [] q = tt
    row (g ∷ gs) q = (pair e g p.0 q.0, row gs q.1)

pub tasks_apart : (s : State) (p q : Option ℕ) (es fs : List Edit) → p ≢ q → (list_any makes_task es && list_any makes_task fs) ≡ false → Sides s p es → Sides s q fs → ActsApart task_act (length s.tasks) es fs
tasks_apart s p q es fs apart one x y =
    any_pairs (TaskSide p (length s.tasks) (list_any makes_task es)) (TaskSide q (length s.tasks) (list_any makes_task fs)) (λ e f. ActApart (length s.tasks) (task_act e) (task_act f))
    (pair_tasks p q (length s.tasks) (list_any makes_task es) (list_any makes_task fs) apart one) es fs x.tasks y.tasks

pub issues_apart : (s : State) (p q : Option ℕ) (es fs : List Edit) → p ≢ q → (list_any makes_issue es && list_any makes_issue fs) ≡ false → Sides s p es → Sides s q fs → ActsApart issue_act (length s.issues) es fs
issues_apart s p q es fs apart one x y =
    any_pairs (IssueSide s p (list_any makes_issue es)) (IssueSide s q (list_any makes_issue fs)) (λ e f. ActApart (length s.issues) (issue_act e) (issue_act f))
    (pair_issues s p q (list_any makes_issue es) (list_any makes_issue fs) apart one) es fs x.issues y.issues

pub scopes_apart : (s : State) (p q : Option ℕ) (es fs : List Edit) → (list_any opens_scope es && list_any opens_scope fs) ≡ false → Sides s p es → Sides s q fs → ActsApart scope_act 0 es fs
scopes_apart s p q es fs one x y =
    any_pairs (TextSide (list_any opens_scope es) (length s.scopes)) (TextSide (list_any opens_scope fs) (length s.scopes)) (λ e f. ActApart 0 (scope_act e) (scope_act f))
    (pair_scopes (list_any opens_scope es) (list_any opens_scope fs) (length s.scopes) one) es fs x.texts y.texts

pub texts_apart : (s : State) (p q : Option ℕ) (es fs : List Edit) → (list_any opens_scope es && list_any opens_scope fs) ≡ false → AllByRecursion (λ e. AllByRecursion (WriteApart e) fs) es → Sides s p es → Sides s q fs
    → ActsApart text_act (length s.scopes) es fs
texts_apart s p q es fs one w x y =
    all_pairs (TextSide (list_any opens_scope es) (length s.scopes)) (TextSide (list_any opens_scope fs) (length s.scopes)) WriteApart (λ e f. ActApart (length s.scopes) (text_act e) (text_act f))
    (pair_texts (list_any opens_scope es) (list_any opens_scope fs) (length s.scopes) one) es fs w x.texts y.texts

pub texts_count : (n : ℕ) (scopes : List Scope) (ws : List Write) → length (texts_from n scopes ws) ≡ length scopes
texts_count n [] ws = refl
texts_count n (scope ∷ scopes) ws = ap suc (texts_count (suc n) scopes ws)
