-- Plans, edit by edit.
use Rattle.std.proofs.Common.{◌≡◌, ℕ, suc, ◌+◌, ◌<◌, ◌≤◌, List, [], ◌∷◌, length, arith, refl, ap, sym, subst, ◌∙◌, length-append}
use Rattle.flow_core_rules.specs.State.{Lists}
use Rattle.flow_core_rules.specs.Edits.{Edit, shown_edited, all_shown_edited, closed}
use Rattle.flow_core_rules.specs.Edits.Edit.{opens, writes, makes, moves, issues, closes, upgrades}
use Rattle.flow_core_tables.specs.declared.planned.Planned.{Planned}
use Rattle.flow_core_tables.specs.declared.tables.Tables.{Tables}
use Rattle.flow_core_tables.specs.Planned.{edit_of, edits_of, IsDeclared, AreDeclared}
use Rattle.flow_core_tables.specs.Fits.{Fits, AllFit}
use Rattle.flow_core_tables.specs.TableFacts.{HasRoom}
use Rattle.flow_core_rules.proofs.TaskLemmas.{set_length}
use Rattle.flow_core_tables.proofs.EntryLemmas.{changed_length}

pub none_left : (items : List Planned) → length items ≡ 0 → items ≡ []
none_left [] e = refl
none_left (p ∷ items) e = absurd (omega (arith, e))

-- ---- the first one

pub first_fits : (items rest : List Planned) (p : Planned) (s : Lists) → items ≡ p ∷ rest → AllFit s (edits_of items) → Fits s (edit_of p)
first_fits items rest p s e h = let here : AllFit s (edits_of (p ∷ rest)) = subst (λ l. AllFit s (edits_of l)) e h in here.0

pub first_declared : (items rest : List Planned) (p : Planned) → items ≡ p ∷ rest → AreDeclared items → IsDeclared p
first_declared items rest p e h = let here : AreDeclared (p ∷ rest) = subst AreDeclared e h in here.0

pub first_below : (count most : ℕ) (items : List Planned) → count + length items < most → count < most
first_below count most items lt = omega (arith, lt)

pub first_room : (items rest : List Planned) (p : Planned) (t : Tables) → items ≡ p ∷ rest → HasRoom (length items) t → HasRoom 1 t
first_room items rest p t e room =
    let k : length items ≡ suc (length rest) = ap length e in
    let one : 1 ≤ length items = omega (arith, k) in record {
      tasks = omega (arith, one, room.tasks);
      waits = omega (arith, one, room.waits);
      scopes = omega (arith, one, room.scopes);
      issues = omega (arith, one, room.issues);
      ready = omega (arith, one, room.ready);
      delays = omega (arith, one, room.delays);
      deadlines = omega (arith, one, room.deadlines);
      questions = omega (arith, one, room.questions);
    }

-- ---- the others

pub rest_fits : (items rest : List Planned) (p : Planned) (s after : Lists) → items ≡ p ∷ rest → AllFit s (edits_of items) → after ≡ shown_edited (edit_of p) s → AllFit after (edits_of rest)
rest_fits items rest p s after e h step =
    let here : AllFit s (edits_of (p ∷ rest)) = subst (λ l. AllFit s (edits_of l)) e h in
    subst (λ (x : Lists). AllFit x (edits_of rest)) (sym step) here.1

pub rest_declared : (items rest : List Planned) (p : Planned) → items ≡ p ∷ rest → AreDeclared items → AreDeclared rest
rest_declared items rest p e h = let here : AreDeclared (p ∷ rest) = subst AreDeclared e h in here.1

pub rest_same : (items rest : List Planned) (p : Planned) (s after end : Lists) → items ≡ p ∷ rest → all_shown_edited (edits_of items) s ≡ end → after ≡ shown_edited (edit_of p) s
    → all_shown_edited (edits_of rest) after ≡ end
rest_same items rest p s after end e h step =
    ap (all_shown_edited (edits_of rest)) step ∙ ap (λ (ps : List Planned). all_shown_edited (edits_of ps) s) (sym e) ∙ h

-- an edit makes one task and one issue at most
tasks_grow : (e : Edit) (s : Lists) → length (shown_edited e s).tasks ≤ length s.tasks + 1
tasks_grow (opens parent vars) s = omega arith
tasks_grow (writes scope name text) s = omega arith
tasks_grow (makes task) s = omega (arith, length-append s.tasks (task ∷ []))
tasks_grow (moves t task) s = omega (arith, set_length s.tasks t task)
tasks_grow (issues issue) s = omega arith
tasks_grow (closes n end) s = omega arith
tasks_grow upgrades s = omega arith

issues_grow : (e : Edit) (s : Lists) → length (shown_edited e s).issues ≤ length s.issues + 1
issues_grow (opens parent vars) s = omega arith
issues_grow (writes scope name text) s = omega arith
issues_grow (makes task) s = omega arith
issues_grow (moves t task) s = omega arith
issues_grow (issues issue) s = omega (arith, length-append s.issues (issue ∷ []))
issues_grow (closes n end) s = omega (arith, changed_length n (closed end) s.issues)
issues_grow upgrades s = omega arith

pub rest_tasks : (items rest : List Planned) (p : Planned) (s after : Lists) (most : ℕ) → items ≡ p ∷ rest → length s.tasks + length items < most → after ≡ shown_edited (edit_of p) s
    → length after.tasks + length rest < most
rest_tasks items rest p s after most e h step =
    let k : length items ≡ suc (length rest) = ap length e in
    let g : length after.tasks ≤ length s.tasks + 1 = subst (λ (x : Lists). length x.tasks ≤ length s.tasks + 1) (sym step) (tasks_grow (edit_of p) s) in
    omega arith

pub rest_issues : (items rest : List Planned) (p : Planned) (s after : Lists) (most : ℕ) → items ≡ p ∷ rest → length s.issues + length items < most → after ≡ shown_edited (edit_of p) s
    → length after.issues + length rest < most
rest_issues items rest p s after most e h step =
    let k : length items ≡ suc (length rest) = ap length e in
    let g : length after.issues ≤ length s.issues + 1 = subst (λ (x : Lists). length x.issues ≤ length s.issues + 1) (sym step) (issues_grow (edit_of p) s) in
    omega arith

pub rest_room : (items rest : List Planned) (p : Planned) (t new : Tables) → items ≡ p ∷ rest → HasRoom (length items) t → ((k : ℕ) → HasRoom (suc k) t → HasRoom k new) → HasRoom (length rest) new
rest_room items rest p t new e h step = step (length rest) (subst (λ (n : ℕ). HasRoom n t) (ap length e) h)
