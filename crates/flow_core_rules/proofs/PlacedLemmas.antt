-- The edits of a record write to scopes that are there, so what a record changes is shown by itself.
use Rattle.std.proofs.Common.{◌≡◌, ℕ, zero, suc, ◌+◌, ◌<◌, Bool, true, false, cond, List, [], ◌∷◌, ◌++◌, length, Option, Some, None, is_some, arith, refl, ap, sym, subst, ◌∙◌, append_assoc, length-append}
use Rattle.std.specs.Bool.{⊤}
use Rattle.std.specs.Prelude.{IfSome, is_none, option_and_then, option_map, map, slice_get, not, nat_le, ◌&&◌, ◌==◌}
use Rattle.std.specs.List.{AllByRecursion, flat_map, list_any, list_all}
use Rattle.std.specs.Option.{option_map_or}
use Rattle.std.specs.Str.{bytes_eq}
use Rattle.run_records.specs.declared.record.Record.{Record}
use Rattle.run_records.specs.declared.record.Record.TheVariants.{Begin, Walk, Send, Reply, Expire, Upgrade, Ask, Told}
use Rattle.cacao_vars.specs.declared.scoping.Scope.{Scope}
use Rattle.cacao_vars.specs.declared.scoping.Write.{Write}
use Rattle.cacao_vars.specs.Declarations.{declared}
use Rattle.cacao_vars.specs.Scopes.{home, along, declaration}
use Rattle.cacao_book.specs.declared.books.Book.{Book}
use Rattle.cacao_book.specs.declared.step_kinds.StepKind.{StepKind}
use Rattle.cacao_book.specs.declared.step_kinds.StepKind.TheVariants as does
use Rattle.flow_core_rules.specs.declared.tasks.Task.{Task}
use Rattle.flow_core_rules.specs.declared.issues.Issue.{Issue}
use Rattle.flow_core_rules.specs.declared.issues.IssuePhase.{IssuePhase}
use Rattle.flow_core_rules.specs.declared.phases.Phase.{Phase}
use Rattle.flow_core_rules.specs.declared.phases.Phase.TheVariants as phase
use Rattle.flow_core_rules.specs.declared.issues.IssuePhase.TheVariants as issue_phase
use Rattle.cacao_book.specs.declared.steps.Step.{Step}
use Rattle.flow_core_rules.specs.Givens.{Given, book_with, step_at}
use Rattle.flow_core_rules.specs.State.{State, Lists, Shown, shown}
use Rattle.flow_core_rules.specs.Edits.{Edit, edited, shown_edited, all_edited, all_shown_edited}
use Rattle.flow_core_rules.specs.Edits.Edit.{opens, writes, makes, moves, issues, closes, upgrades}
use Rattle.flow_core_rules.specs.Conditions.{heads, is_true}
use Rattle.flow_core_rules.specs.Places.{Place}
use Rattle.flow_core_rules.specs.Tasks.{Here, here_at, child}
use Rattle.flow_core_rules.specs.Changes as changes
use Rattle.flow_core_rules.specs.Changes.{Waiting, Issuing}
use Rattle.flow_core_rules.specs.Runs.{first_edits, first_task, blank, after}
use Rattle.flow_core_rules.specs.Laws.{HasPlacedWrites, RecordsAreShown, FirstRecordIsShown, IsShownAtFirst}
use Rattle.flow_core_rules.proofs.ShownLemmas.{edit_shown, find-passes}

-- writes go to scopes that are there by then
abbrev pub Placed : ℕ → List Edit → Type 0
Placed n [] = ⊤
Placed n (opens parent vars ∷ es) = Placed (suc n) es
Placed n (writes scope name text ∷ es) = (scope < n) × Placed n es
Placed n (makes task ∷ es) = Placed n es
Placed n (moves t task ∷ es) = Placed n es
Placed n (issues issue ∷ es) = Placed n es
Placed n (closes i phase ∷ es) = Placed n es
Placed n (upgrades ∷ es) = Placed n es

-- ---- edits that are placed

all-below : (ws : List Write) (n m : ℕ) → n < suc m → AllByRecursion (λ w. w.scope < n) ws → AllByRecursion (λ w. w.scope < m) ws
all-below [] n m less h = tt
all-below (w ∷ ws) n m less h = let a = h.0 in (omega arith, all-below ws n m less h.1)

all-push : (ws : List Write) (w : Write) (n : ℕ) → w.scope < n → AllByRecursion (λ v. v.scope < n) ws → AllByRecursion (λ v. v.scope < n) (ws ++ w ∷ [])
all-push [] w n h all = (h, tt)
all-push (v ∷ ws) w n h all = (all.0, all-push ws w n h all.1)

-- what is shown after an edit, beside what stays
edit_all : (s : State) (e : Edit) → HasPlacedWrites s → shown (edited e s) ≡ record (shown s) { lists = shown_edited e (shown s).lists }
edit_all s (opens parent vars) placed = ap (λ (l : Lists). record (shown s) { lists = l }) (edit_shown s (opens parent vars) placed)
edit_all s (writes scope name text) placed = ap (λ (l : Lists). record (shown s) { lists = l }) (edit_shown s (writes scope name text) placed)
edit_all s (makes task) placed = refl
edit_all s (moves n task) placed = refl
edit_all s (issues issue) placed = refl
edit_all s (closes n phase) placed = refl
edit_all s upgrades placed = refl

-- one edit, and then the others
one_more : (e : Edit) (es : List Edit) (s : State) → HasPlacedWrites s
    → (shown (all_edited es (edited e s)) ≡ record (shown (edited e s)) { lists = all_shown_edited es (shown (edited e s)).lists })
    → shown (all_edited es (edited e s)) ≡ record (shown s) { lists = all_shown_edited es (shown_edited e (shown s).lists) }
one_more e es s placed rest = rest ∙ ap (λ (x : Shown). record x { lists = all_shown_edited es x.lists }) (edit_all s e placed)

pub all_shown : (es : List Edit) (s : State) → Placed (length s.scopes) es → HasPlacedWrites s
    → (shown (all_edited es s) ≡ record (shown s) { lists = all_shown_edited es (shown s).lists }) × HasPlacedWrites (all_edited es s)
all_shown [] s h placed = (refl, placed)
all_shown (opens parent vars ∷ es) s h placed =
    let scope : Scope = record { parent = parent; vars = vars } in
    let grown : length (s.scopes ++ scope ∷ []) ≡ suc (length s.scopes) = omega (arith, length-append s.scopes (scope ∷ [])) in
    let more : HasPlacedWrites (edited (opens parent vars) s) = all-below s.writes (length s.scopes) (length (s.scopes ++ scope ∷ [])) (omega arith) placed in
    let rest = all_shown es (edited (opens parent vars) s) (subst (λ n. Placed n es) (sym grown) h) more in
    (one_more (opens parent vars) es s placed rest.0, rest.1)
all_shown (writes scope name text ∷ es) s h placed =
    let more : HasPlacedWrites (edited (writes scope name text) s) = all-push s.writes (record { scope = scope; name = name; worth = text }) (length s.scopes) h.0 placed in
    let rest = all_shown es (edited (writes scope name text) s) h.1 more in
    (one_more (writes scope name text) es s placed rest.0, rest.1)
all_shown (makes task ∷ es) s h placed = all_shown es (edited (makes task) s) h placed
all_shown (moves t task ∷ es) s h placed = all_shown es (edited (moves t task) s) h placed
all_shown (issues issue ∷ es) s h placed = all_shown es (edited (issues issue) s) h placed
all_shown (closes i phase ∷ es) s h placed = all_shown es (edited (closes i phase) s) h placed
all_shown (upgrades ∷ es) s h placed = all_shown es (edited upgrades s) h placed

-- ---- homes are there

there : {A B : Type 0} (f : A → Option B) (xs : List A) (k : ℕ) → is_some (option_and_then f (slice_get xs k)) ≡ true → k < length xs
there f [] k e = absurd (no e)
  where
    no : false ≡ true → ⊥
    no h = cc
there f (x ∷ xs) zero e = omega arith
there f (x ∷ xs) (suc k) e = let h : k < length xs = there f xs k e in omega arith

home_there : (scopes : List Scope) (scope : ℕ) (name : List ℕ) → IfSome (home scopes scope name) (λ at. at < length scopes)
home_there scopes scope name = by (home scopes scope name) (λ at e. find-passes (λ k. is_some (declaration scopes k name)) (along scopes scope) at e)
  where
    by : (o : Option ℕ) → ((at : ℕ) → o ≡ Some at → is_some (declaration scopes at name) ≡ true) → IfSome o (λ at. at < length scopes)
    by None h = tt
    by (Some at) h = there (λ (s : Scope). declared s.vars name) scopes at (h at refl)

-- ---- the edits of a record are placed

pub some_then : {A B : Type 0} (o : Option A) (f : A → Option B) (P : B → Type 0) → ((x : A) → IfSome (f x) P) → IfSome (option_and_then f o) P
some_then None f P h = tt
some_then (Some x) f P h = h x

pub some_if : {B : Type 0} (b : Bool) (o : Option B) (P : B → Type 0) → IfSome o P → IfSome (cond b o None) P
some_if true o P h = h
some_if false o P h = tt

pub some_map : {A B : Type 0} (o : Option A) (f : A → B) (P : B → Type 0) → ((x : A) → P (f x)) → IfSome (option_map f o) P
some_map None f P h = tt
some_map (Some x) f P h = h x

written-placed : (s : Lists) (scope : ℕ) (p : List ℕ × Option (List ℕ)) (es : List Edit) → Placed (length s.scopes) es → Placed (length s.scopes) (changes.written s scope p ++ es)
written-placed s scope (name, None) es h = h
written-placed s scope (name, Some text) es h = by (home s.scopes scope name) (home_there s.scopes scope name)
  where
    by : (o : Option ℕ) → IfSome o (λ at. at < length s.scopes) → Placed (length s.scopes) (option_map_or (λ at. writes at name text ∷ []) o [] ++ es)
    by None g = h
    by (Some at) g = (g, h)

all_written-placed : (s : Lists) (scope : ℕ) (ps : List (List ℕ × Option (List ℕ))) (es : List Edit) → Placed (length s.scopes) es → Placed (length s.scopes) (flat_map (changes.written s scope) ps ++ es)
all_written-placed s scope [] es h = h
all_written-placed s scope (p ∷ ps) es h =
    subst (Placed (length s.scopes)) (sym (append_assoc (changes.written s scope p) (flat_map (changes.written s scope) ps) es))
    (written-placed s scope p (flat_map (changes.written s scope) ps ++ es) (all_written-placed s scope ps es h))

bound-placed : (n scope : ℕ) (p : List ℕ × Option (List ℕ)) (es : List Edit) → scope < n → Placed n es → Placed n (changes.binding scope p ++ es)
bound-placed n scope (name, None) es less h = h
bound-placed n scope (name, Some text) es less h = (less, h)

all_bound-placed : (n scope : ℕ) (ps : List (List ℕ × Option (List ℕ))) (es : List Edit) → scope < n → Placed n es → Placed n (flat_map (changes.binding scope) ps ++ es)
all_bound-placed n scope [] es less h = h
all_bound-placed n scope (p ∷ ps) es less h =
    subst (Placed n) (sym (append_assoc (changes.binding scope p) (flat_map (changes.binding scope) ps) es))
    (bound-placed n scope p (flat_map (changes.binding scope) ps ++ es) less (all_bound-placed n scope ps es less h))

made-placed : (n : ℕ) (f : List ℕ → Task) (keys : List (List ℕ)) → Placed n (map (λ key. makes (f key)) keys)
made-placed n f [] = tt
made-placed n f (key ∷ keys) = made-placed n f keys

branched-placed : (n : ℕ) (h : Here) (scope : ℕ) (keys : List (List ℕ)) → Placed n (changes.branched h scope keys)
branched-placed n h scope [] = tt
branched-placed n h scope (key ∷ keys) = made-placed n (child h h.task.book scope) (key ∷ keys)

controlled-placed : (h : Here) (kind : StepKind) → Placed (length h.seen.lists.scopes) (changes.controlled h kind)
controlled-placed h kind =
    branched-placed (suc (length h.seen.lists.scopes)) (changes.inside h) (length h.seen.lists.scopes) (heads (changes.inside h).seen.lists (length h.seen.lists.scopes) kind)

entered-placed : (h : Here) (kind : StepKind) → IfSome (changes.entered h kind) (Placed (length h.seen.lists.scopes))
entered-placed h does.Start = tt
entered-placed h does.End = tt
entered-placed h (does.Action a b c d e) = tt
entered-placed h (does.PlaybookAction playbook version in_args out_args) =
    let n : ℕ = length h.seen.lists.scopes in
    some_map (book_with h.seen.given playbook) (λ theirs. changes.opening h ∷ changes.called (changes.inside h) n in_args theirs) (Placed n) (λ theirs.
    all_bound-placed (suc (suc n)) (suc n) (changes.valued (changes.inside h).seen.lists n in_args)
    (moves h.number (changes.joining (changes.inside h)) ∷ makes (child (changes.inside h) theirs.0 (suc n) (theirs.1).start) ∷ []) (omega arith) (tt {0}))
entered-placed h (does.Parallel a) = controlled-placed h (does.Parallel a)
entered-placed h (does.If a b c) = controlled-placed h (does.If a b c)
entered-placed h (does.While a b) = controlled-placed h (does.While a b)
entered-placed h (does.Switch a b) = controlled-placed h (does.Switch a b)

choice-placed : (n : ℕ) (b : Bool) (xs ys : List Edit) → Placed n xs → Placed n ys → Placed n (cond b xs ys)
choice-placed n true xs ys a b = a
choice-placed n false xs ys a b = b

rejoined-placed : (h : Here) (from scope : ℕ) (kind : StepKind) → Placed (length h.seen.lists.scopes) (changes.rejoined h from scope kind)
rejoined-placed h from scope (does.While condition on_true) =
    choice-placed (length h.seen.lists.scopes) (is_true h.seen.lists scope condition) (makes (child h h.task.book scope on_true) ∷ []) (changes.done h true) (tt {0}) (tt {0})
rejoined-placed h from scope (does.PlaybookAction a b c d) =
    all_written-placed h.seen.lists scope (option_map_or (λ (root : Task). changes.valued h.seen.lists root.scope d) (slice_get h.seen.lists.tasks from) []) (changes.done h true) (tt {0})
rejoined-placed h from scope does.Start = tt
rejoined-placed h from scope does.End = tt
rejoined-placed h from scope (does.Action a b c d e) = tt
rejoined-placed h from scope (does.Parallel a) = tt
rejoined-placed h from scope (does.If a b c) = tt
rejoined-placed h from scope (does.Switch a b) = tt

pub two_ways : {B : Type 0} (b : Bool) (x y : Option B) (P : B → Type 0) → IfSome x P → IfSome y P → IfSome (cond b x y) P
two_ways true x y P a b = a
two_ways false x y P a b = b

joined-placed : (h : Here) (from scope : ℕ) (branches : List Task) → IfSome (changes.joined h from scope branches) (Placed (length h.seen.lists.scopes))
joined-placed h from scope branches =
    let n : ℕ = length h.seen.lists.scopes in
    let stops : Option (List Edit) = Some (changes.done h false) in
    let goes : Option (List Edit) = Some (changes.rejoined h from scope h.step.kind) in
    let failed : Bool = list_any (λ task. changes.has_failed task.phase) branches in
    two_ways (not (list_all (λ task. changes.has_ended task.phase) branches)) None (cond failed stops goes) (Placed n) (tt {0})
    (two_ways failed stops goes (Placed n) (tt {0}) (rejoined-placed h from scope h.step.kind))

walked-placed : (h : Here) (at : Phase) → IfSome (changes.walked h at) (Placed (length h.seen.lists.scopes))
walked-placed h (phase.At since) = some_if (nat_le (since + h.step.delay) h.now) (changes.entered h h.step.kind) (Placed (length h.seen.lists.scopes)) (entered-placed h h.step.kind)
walked-placed h (phase.Joining from) =
    some_then h.task.step_scope (λ (scope : ℕ). changes.joined h from scope (changes.children h.seen.lists h.number from)) (Placed (length h.seen.lists.scopes))
    (λ scope. joined-placed h from scope (changes.children h.seen.lists h.number from))
walked-placed h (phase.Sending place) = tt
walked-placed h (phase.Awaiting place issue) = tt
walked-placed h (phase.Ended well) = tt

-- where a task stands, what is seen there is what was shown
pub some_here : {B : Type 0} (s : Shown) (now t : ℕ) (f : Here → Option B) (P : B → Type 0) → ((h : Here) → h.seen ≡ s → IfSome (f h) P) → IfSome (option_and_then f (here_at s now t)) P
some_here s now t f P g = by (slice_get s.lists.tasks t)
  where
    at : (task : Task) (o : Option Step) → IfSome (option_and_then f (option_map (λ (step : Step). record { seen = s; now = now; number = t; task = task; step = step }) o)) P
    at task None = tt
    at task (Some step) = g (record { seen = s; now = now; number = t; task = task; step = step }) refl

    by : (o : Option Task) → IfSome (option_and_then f (option_and_then (λ (task : Task). option_map (λ (step : Step). record { seen = s; now = now; number = t; task = task; step = step }) (step_at s.given task.book task.step)) o)) P
    by None = tt
    by (Some task) = at task (step_at s.given task.book task.step)

walk-placed : (s : Shown) (now t : ℕ) → IfSome (changes.walk s now t) (Placed (length s.lists.scopes))
walk-placed s now t = some_here s now t (λ (h : Here). changes.walked h h.task.phase) (Placed (length s.lists.scopes)) (λ h e.
    subst (λ (x : Shown). IfSome (changes.walked h h.task.phase) (Placed (length x.lists.scopes))) e (walked-placed h h.task.phase))

-- ---- sends, questions and answers

some_issuing : (n : ℕ) (h : Here) (o : Option Issue) → IfSome (option_and_then (λ (issue : Issue). Some (changes.issuing h issue)) o) (λ made. Placed n made.1)
some_issuing n h None = tt
some_issuing n h (Some issue) = tt

next_command-placed : (s : Shown) (now t n : ℕ) → IfSome (changes.next_command s now t) (λ made. Placed n made.1)
next_command-placed s now t n =
    some_here s now t (λ (h : Here). option_and_then (λ (place : Place). option_and_then (λ (issue : Issue). Some (changes.issuing h issue)) (changes.command_at h place)) (changes.place_at h h.task.phase)) (λ made. Placed n made.1) (λ h e.
    some_then (changes.place_at h h.task.phase) (λ (place : Place). option_and_then (λ (issue : Issue). Some (changes.issuing h issue)) (changes.command_at h place)) (λ made. Placed n made.1) (λ place. some_issuing n h (changes.command_at h place)))

next_question-placed : (s : Shown) (now t n : ℕ) → IfSome (changes.next_question s now t) (λ made. Placed n made.1)
next_question-placed s now t n =
    some_here s now t (λ (h : Here). option_and_then (λ (place : Place). option_and_then (λ (issue : Issue). Some (changes.issuing h issue)) (changes.question_at h place)) (changes.place_at h h.task.phase)) (λ made. Placed n made.1) (λ h e.
    some_then (changes.place_at h h.task.phase) (λ (place : Place). option_and_then (λ (issue : Issue). Some (changes.issuing h issue)) (changes.question_at h place)) (λ made. Placed n made.1) (λ place. some_issuing n h (changes.question_at h place)))

pub some_from : {A B : Type 0} (o : Option A) (f : A → Option B) (Q : A → Type 0) (P : B → Type 0) → IfSome o Q → ((x : A) → Q x → IfSome (f x) P) → IfSome (option_and_then f o) P
some_from None f Q P h g = tt
some_from (Some x) f Q P h g = g x h

send-placed : (s : Shown) (now t number agent n : ℕ) (bytes : List ℕ) → IfSome (changes.send s now t number agent bytes) (Placed n)
send-placed s now t number agent n bytes =
    some_from (changes.next_command s now t) (λ (made : Issuing). cond (same made) (Some made.1) None) (λ made. Placed n made.1) (Placed n) (next_command-placed s now t n) (λ made h. some_if (same made) (Some made.1) (Placed n) h)
  where
    same : Issuing → Bool
    same made = (number == length s.lists.issues) && (agent == (made.0).agent) && bytes_eq bytes (made.0).bytes

ask-placed : (s : Shown) (now t number n : ℕ) (bytes : List ℕ) → IfSome (changes.ask s now t number bytes) (Placed n)
ask-placed s now t number n bytes =
    some_from (changes.next_question s now t) (λ (made : Issuing). cond (same made) (Some made.1) None) (λ made. Placed n made.1) (Placed n) (next_question-placed s now t n) (λ made h. some_if (same made) (Some made.1) (Placed n) h)
  where
    same : Issuing → Bool
    same made = s.lists.is_upgraded && (number == length s.lists.issues) && bytes_eq bytes (made.0).bytes

-- an issue that waits is seen where it was shown
waiting-seen : (s : Shown) (now n : ℕ) → IfSome (changes.waiting_at s now n) (λ w. w.here.seen ≡ s)
waiting-seen s now n =
    some_then (slice_get s.lists.issues n) (λ (issue : Issue). option_and_then (here_of issue) (here_at s now issue.task)) (λ w. w.here.seen ≡ s) (λ issue.
    some_here s now issue.task (here_of issue) (λ w. w.here.seen ≡ s) (λ h e.
    some_then (changes.awaited_place n h.task.phase) (λ (place : ℕ). option_and_then (in_scope issue h place) h.task.step_scope) (λ w. w.here.seen ≡ s) (λ place.
    some_then h.task.step_scope (in_scope issue h place) (λ w. w.here.seen ≡ s) (λ scope.
    some_if (changes.is_waiting issue.phase) (Some (record { issue = issue; here = h; place = place; scope = scope })) (λ w. w.here.seen ≡ s) e))))
  where
    in_scope : Issue → Here → ℕ → ℕ → Option Waiting
    in_scope issue h place scope = cond (changes.is_waiting issue.phase) (Some (record { issue = issue; here = h; place = place; scope = scope })) None

    here_of : Issue → Here → Option Waiting
    here_of issue h = option_and_then (λ (place : ℕ). option_and_then (in_scope issue h place) h.task.step_scope) (changes.awaited_place n h.task.phase)

waiting_filter-seen : (s : Shown) (now n : ℕ) → IfSome (changes.waiting_filter_at s now n) (λ w. w.here.seen ≡ s)
waiting_filter-seen s now n =
    some_from (changes.waiting_at s now n) (λ (w : Waiting). cond (w.issue.agent == 0) None (Some w)) (λ w. w.here.seen ≡ s) (λ w. w.here.seen ≡ s) (waiting-seen s now n) (λ w e.
    two_ways (w.issue.agent == 0) None (Some w) (λ v. v.here.seen ≡ s) (tt {0}) e)

answered-placed : (s : Shown) (n : ℕ) (end : IssuePhase) (status rule : ℕ) (text : List ℕ) (w : Waiting) → w.here.seen ≡ s → Placed (length s.lists.scopes) (changes.answered n end status rule text w)
answered-placed s n end status rule text w e =
    subst (λ (x : Shown). Placed (length x.lists.scopes) (changes.answered n end status rule text w)) e
    (all_written-placed w.here.seen.lists w.scope (changes.paired (changes.out_args_of w.here.step.kind) (changes.results status rule text)) (moves w.here.number (changes.after_answer w status) ∷ []) (tt {0}))

pub map_from : {A B : Type 0} (o : Option A) (f : A → B) (Q : A → Type 0) (P : B → Type 0) → IfSome o Q → ((x : A) → Q x → P (f x)) → IfSome (option_map f o) P
map_from None f Q P h g = tt
map_from (Some x) f Q P h g = g x h

reply-placed : (s : Shown) (now n status rule : ℕ) (text : List ℕ) → IfSome (changes.reply s now n status rule text) (Placed (length s.lists.scopes))
reply-placed s now n status rule text =
    let f : Waiting → List Edit = changes.answered n (issue_phase.Answered status) status rule text in
    some_if (changes.is_answer status text) (option_map f (changes.waiting_filter_at s now n)) (Placed (length s.lists.scopes))
    (map_from (changes.waiting_filter_at s now n) f (λ w. w.here.seen ≡ s) (Placed (length s.lists.scopes)) (waiting_filter-seen s now n) (λ w e. answered-placed s n (issue_phase.Answered status) status rule text w e))

tell-placed : (s : Shown) (now n status : ℕ) (text : List ℕ) → IfSome (changes.tell s now n status text) (Placed (length s.lists.scopes))
tell-placed s now n status text =
    let f : Waiting → List Edit = changes.answered n (issue_phase.Told status) status 0 text in
    some_if (s.lists.is_upgraded && changes.is_answer status text) (option_map f (changes.waiting_at s now n)) (Placed (length s.lists.scopes))
    (map_from (changes.waiting_at s now n) f (λ w. w.here.seen ≡ s) (Placed (length s.lists.scopes)) (waiting-seen s now n) (λ w e. answered-placed s n (issue_phase.Told status) status 0 text w e))

expire-placed : (s : Shown) (now n m : ℕ) → IfSome (changes.expire s now n) (Placed m)
expire-placed s now n m =
    some_then (changes.waiting_filter_at s now n) (changes.expired n) (Placed m) (λ w.
    some_if (nat_le (w.issue.moment + w.here.step.timeout) w.here.now) (Some (closes n issue_phase.Expired ∷ changes.done w.here false)) (Placed m) (tt {0}))

edits-placed : (s : Shown) (r : Record) → IfSome (changes.edits_of s r) (Placed (length s.lists.scopes))
edits-placed s (Begin run moment books bind) = tt
edits-placed s (Walk task moment) = walk-placed s moment task
edits-placed s (Send task issue agent moment bytes) = send-placed s moment task issue agent (length s.lists.scopes) bytes
edits-placed s (Reply issue moment status rule text) = reply-placed s moment issue status rule text
edits-placed s (Expire issue moment) = expire-placed s moment issue (length s.lists.scopes)
edits-placed s (Upgrade version moment) = some_if ((version == 2) && is_none (changes.outcome s.lists) && not s.lists.is_upgraded) (Some (upgrades ∷ [])) (Placed (length s.lists.scopes)) (tt {0})
edits-placed s (Ask task issue moment bytes) = ask-placed s moment task issue (length s.lists.scopes) bytes
edits-placed s (Told issue moment status text) = tell-placed s moment issue status text

pub change-placed : (s : Shown) (r : Record) → IfSome (changes.change s r) (Placed (length s.lists.scopes))
change-placed s r = some_if (changes.is_in_time s (changes.moment_of r)) (changes.edits_of s r) (Placed (length s.lists.scopes)) (edits-placed s r)

pub records_shown : RecordsAreShown
records_shown s new r placed next =
    let here : Placed (length s.scopes) next.edits = subst (λ o. IfSome o (Placed (length s.scopes))) next.change_is (change-placed (shown s) r) in
    let both = all_shown next.edits s here placed in
    record {
      edits = next.edits;
      edits_are = next.change_is;
      shown_is = ap shown next.new_is ∙ ap (λ (x : Shown). record x { moment = changes.moment_of r }) both.0;
      placed = subst HasPlacedWrites (sym next.new_is) both.1;
    }

-- ---- the first record

bound_writes-placed : (bound : List (List ℕ × List ℕ)) (es : List Edit) → Placed 1 es → Placed 1 (map (λ b. writes 0 b.0 b.1) bound ++ es)
bound_writes-placed [] es h = h
bound_writes-placed (b ∷ bound) es h = (omega arith, bound_writes-placed bound es h)

first-placed : (given : Given) (now : ℕ) → IfSome (first_edits given now) (Placed 0)
first-placed given now =
    some_map (slice_get given.books 0) (λ (book : Book). opens None book.variables ∷ (map (λ b. writes 0 b.0 b.1) given.variables ++ makes (first_task given now book) ∷ [])) (Placed 0)
    (λ book. bound_writes-placed given.variables (makes (first_task given now book) ∷ []) (tt {0}))

pub first_shown : FirstRecordIsShown
first_shown given run now new e = by (first_edits given now) refl (first-placed given now) e
  where
    inner : (a b : State) → Some a ≡ Some b → a ≡ b
    inner a b h = cc

    by : (o : Option (List Edit)) → first_edits given now ≡ o → IfSome o (Placed 0) → option_map (λ es. after now es (blank given run)) o ≡ Some new
        → IsShownAtFirst given run now new
    by None is here h = absurd (no h)
      where
        no : None ≡ Some new → ⊥
        no g = cc
    by (Some edits) is here h =
        let new_is : after now edits (blank given run) ≡ new = inner (after now edits (blank given run)) new h in
        let both = all_shown edits (blank given run) here (tt {0}) in
        record {
          edits = edits;
          edits_are = is;
          shown_is = ap shown (sym new_is) ∙ ap (λ (x : Shown). record x { moment = now }) both.0;
          placed = subst HasPlacedWrites new_is both.1;
        }
