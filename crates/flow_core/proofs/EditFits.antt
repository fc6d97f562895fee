-- Edits that are calm, fine and timely fit the tables.
use Rattle.std.proofs.Common.{◌≡◌, ◌⊎◌, ℕ, zero, suc, ◌<◌, ◌≤◌, ◌==◌, ◌&&◌, Bool, true, false, List, [], ◌∷◌, length, Some, arith, refl, ap, sym, subst, ◌∙◌, length-append, inl, inr}
use Rattle.std.specs.Prelude.{IfSome, slice_get, map}
use Rattle.std.specs.List.{list_all}
use Rattle.run_records.specs.Ranges.{last_moment}
use Rattle.flow_core_rules.specs.declared.tasks.Task.{Task}
use Rattle.flow_core_rules.specs.declared.issues.Issue.{Issue}
use Rattle.flow_core_rules.specs.declared.issues.IssuePhase.{IssuePhase}
use Rattle.flow_core_rules.specs.declared.phases.Phase.{Phase}
use Rattle.flow_core_rules.specs.declared.phases.Phase.TheVariants as phase
use Rattle.flow_core_rules.specs.State.{Lists, Texts}
use Rattle.flow_core_rules.specs.Edits.{Edit, shown_edited, changed_at, closed, with_text}
use Rattle.flow_core_rules.specs.Edits.Edit.{opens, writes, makes, moves, issues, closes, upgrades}
use Rattle.flow_core_rules.specs.Changes.{has_ended, is_waiting}
use Rattle.flow_core_rules.specs.Sane.{JoinsFrom}
use Rattle.flow_core_rules.proofs.PlacedLemmas.{Placed}
use Rattle.flow_core_rules.proofs.QuietLemmas.{IsQuiet}
use Rattle.flow_core_rules.proofs.WaitLemmas.{is_calm, IsCalm, is_free_of}
use Rattle.flow_core_rules.proofs.TaskLemmas.{HasParent, IsOrderly, MayMake, MayMove, AreFine, fine-orderly, get_within, set_length}
use Rattle.flow_core_plans.specs.Fits.{IsInTime, JoinsFor, IsNewTask, NoneWaits, IsMove, AllFit}
use Rattle.flow_core.proofs.TimelyLemmas.{IsAtTime, IsStart, Timely}

clash : (b : Bool) → b ≡ true → b ≡ false → ⊥
clash true x y = cc
clash false x y = cc

both : (a b : Bool) → (a && b) ≡ true → (a ≡ true) × (b ≡ true)
both true true e = (refl, refl)
both true false e = (refl, e)
both false b e = absurd (clash false e refl)

same_number : (a b : ℕ) → (a == b) ≡ true → a ≡ b
same_number a b h = grind arith

-- ---- phases

in_time : (n : ℕ) (at : Phase) → IsAtTime n at → IsInTime at
in_time n (phase.At since) h = h
in_time n (phase.Sending place) h = tt
in_time n (phase.Awaiting place issue) h = tt
in_time n (phase.Joining from) h = tt
in_time n (phase.Ended well) h = tt

joins_next : (n from : ℕ) (at : Phase) → IsAtTime n at → at ≡ phase.Joining from → from ≡ n
joins_next n from at h e = let g : IsAtTime n (phase.Joining from) = subst (IsAtTime n) e h in g

start_of : (at : Phase) → IsStart at → (since : ℕ) × (at ≡ phase.At since) × (since ≤ last_moment)
start_of (phase.At since) h = (since, refl, h)
start_of (phase.Sending place) h = absurd h
start_of (phase.Awaiting place issue) h = absurd h
start_of (phase.Joining from) h = absurd h
start_of (phase.Ended well) h = absurd h

join_of : (t : ℕ) (at : Phase) → JoinsFrom t at → (from : ℕ) × (at ≡ phase.Joining from) × (from ≤ t)
join_of t (phase.Joining from) h = (from, refl, h)
join_of t (phase.At since) h = absurd h
join_of t (phase.Sending place) h = absurd h
join_of t (phase.Awaiting place issue) h = absurd h
join_of t (phase.Ended well) h = absurd h

-- ---- parents

joins_for : (s : Lists) (t parent : ℕ) (by : Task) → slice_get s.tasks parent ≡ Some by → JoinsFrom t by.phase → parent < t → JoinsFor s t parent
joins_for s t parent by is joins less =
    let j = join_of t by.phase joins in
    record { by = by; from = j.0; by_is = is; joins = j.1; from_is = j.2; earlier = less }

parent_joins : (s : Lists) (t : ℕ) (old : Task) → IsOrderly s.tasks → slice_get s.tasks t ≡ Some old → has_ended old.phase ≡ false → IfSome old.parent (JoinsFor s t)
parent_joins s t old o is going = by (o.parents t old is)
  where
    by : (t ≡ 0) ⊎ HasParent s.tasks t old → IfSome old.parent (JoinsFor s t)
    by (inl z) = subst (λ p. IfSome p (JoinsFor s t)) (sym (o.root old (subst (λ n. slice_get s.tasks n ≡ Some old) z is))) tt
    by (inr p) = subst (λ q. IfSome q (JoinsFor s t)) (sym p.parent_is) (joins_for s t p.parent p.by p.by_is (p.waits going) p.earlier)

-- ---- moves and new tasks

pub is_move : (s : Lists) (t : ℕ) (new : Task) → IsOrderly s.tasks → MayMove s.tasks t new → IsAtTime (length s.tasks) new.phase
    → ((old : Task) → slice_get s.tasks t ≡ Some old → ((new.book ≡ old.book) × (new.step ≡ old.step)) ⊎ NoneWaits s t) → IsMove s t new
is_move s t new o m at stays = record {
  old = m.old;
  old_is = m.old_is;
  going = m.going;
  parent_is = m.parent_is;
  in_time = in_time (length s.tasks) new.phase at;
  ended = λ e. subst (λ p. IfSome p (JoinsFor s t)) (sym m.parent_is) (parent_joins s t m.old o m.old_is m.going);
  joins = λ from e. joins_next (length s.tasks) from new.phase at e;
  stays = stays m.old m.old_is;
}

is_new_task : (s : Lists) (task : Task) → MayMake s.tasks task → IsStart task.phase → IsNewTask s task
is_new_task s task m start =
    let at = start_of task.phase start in
    record {
      since = at.0;
      phase_is = at.1;
      in_time = at.2;
      parent = subst (λ p. IfSome p (JoinsFor s (length s.tasks))) (sym m.parent_is)
          (joins_for s (length s.tasks) m.parent m.by m.by_is m.waits (get_within s.tasks m.parent m.by m.by_is));
    }

-- ---- edits of a rule that moves one task and makes others

texts_changed : (n : ℕ) (f : Texts → Texts) (xs : List Texts) → length (changed_at n f xs) ≡ length xs
texts_changed n f [] = refl
texts_changed zero f (x ∷ xs) = refl
texts_changed (suc n) f (x ∷ xs) = ap suc (texts_changed n f xs)

-- what the edits are: they move the task with this number alone, of which no issue waits
pub record IsCalmFor (s : Lists) (es : List Edit) : Type 0 where
  pub task : ℕ
  pub none : NoneWaits s task
  pub calm : IsCalm task es
  pub quiet : IsQuiet es
  pub timely : Timely (length s.tasks) es

pub fits_calm : (es : List Edit) (s : Lists) (t : ℕ) → length s.texts ≡ length s.scopes → 0 < length s.tasks → IsOrderly s.tasks → AreFine s.tasks es → Placed (length s.scopes) es
    → NoneWaits s t → IsCalm t es → IsQuiet es → Timely (length s.tasks) es → AllFit s es
fits_calm [] s t len some o f p w c q m = tt
fits_calm (opens parent vars ∷ es) s t len some o f p w c q m =
    let new : Lists = shown_edited (opens parent vars) s in
    let scopes : length new.scopes ≡ suc (length s.scopes) = omega (arith, length-append s.scopes ((record { parent = parent; vars = vars }) ∷ [])) in
    let texts : length new.texts ≡ suc (length s.texts) = omega (arith, length-append s.texts (map (λ var. (var.name, var.worth)) vars ∷ [])) in
    (tt, fits_calm es new t (omega arith) some o f (subst (λ n. Placed n es) (sym scopes) p) w c q m)
fits_calm (writes scope name text ∷ es) s t len some o f p w c q m =
    let new : Lists = shown_edited (writes scope name text) s in
    let texts : length new.texts ≡ length s.texts = texts_changed scope (with_text name text) s.texts in
    let first = p.0 in
    (omega arith, fits_calm es new t (texts ∙ len) some o f p.1 w c q m)
fits_calm (makes task ∷ es) s t len some o f p w c q m =
    let new : Lists = shown_edited (makes task) s in
    let grown : length new.tasks ≡ suc (length s.tasks) = omega (arith, length-append s.tasks (task ∷ [])) in
    let parts = both (is_free_of task.phase) (list_all (is_calm t) es) c in (
      is_new_task s task f.0 m.0,
      fits_calm es new t len (omega arith) (fine-orderly (makes task ∷ []) s.tasks some o (f.0, tt)) f.1 p w parts.1 q (subst (λ n. Timely n es) (sym grown) m.1),
    )
fits_calm (moves n task ∷ es) s t len some o f p w c q m =
    let new : Lists = shown_edited (moves n task) s in
    let same : length new.tasks ≡ length s.tasks = set_length s.tasks n task in
    let parts = both ((n == t) && is_free_of task.phase) (list_all (is_calm t) es) c in
    let here : n ≡ t = same_number n t (both (n == t) (is_free_of task.phase) parts.0).0 in (
      is_move s n task o f.0 m.0 (λ old is. inr (subst (NoneWaits s) (sym here) w)),
      fits_calm es new t len (subst (λ k. 0 < k) (sym same) some) (fine-orderly (moves n task ∷ []) s.tasks some o (f.0, tt)) f.1 p w parts.1 q (subst (λ k. Timely k es) (sym same) m.1),
    )
fits_calm (issues issue ∷ es) s t len some o f p w c q m = absurd (clash false q refl)
fits_calm (closes n end ∷ es) s t len some o f p w c q m = absurd (clash false q refl)
fits_calm (upgrades ∷ es) s t len some o f p w c q m = absurd (clash false q refl)

-- ---- edits of a new issue, and of one that ends

-- an issue of a task is made, and the task awaits it
pub record IsIssuing (s : Lists) (es : List Edit) : Type 0 where
  pub task : ℕ
  pub old : Task
  pub place : ℕ
  pub issue : Issue
  pub es_are : es ≡ issues issue ∷ moves task (record old { phase = phase.Awaiting place (length s.issues) }) ∷ []
  pub old_is : slice_get s.tasks task ≡ Some old
  pub own : issue.task ≡ task
  pub moment : issue.moment ≤ last_moment

-- the lists with an issue that is closed
abbrev pub with_end : ℕ → IssuePhase → Lists → Lists
with_end n end s = record s { issues = changed_at n (closed end) s.issues }

-- an issue ends, and its task goes on
pub record IsClosing (s : Lists) (es : List Edit) : Type 0 where
  pub number : ℕ
  pub end : IssuePhase
  pub rest : List Edit
  pub es_are : es ≡ closes number end ∷ rest
  pub within : number < length s.issues
  pub over : is_waiting end ≡ false
  pub calm : IsCalmFor (with_end number end s) rest

-- how the edits of a record look
abbrev pub Shaped : Lists → List Edit → Type 0
Shaped s es = IsCalmFor s es ⊎ (IsIssuing s es ⊎ (IsClosing s es ⊎ (es ≡ upgrades ∷ [])))

inner : {A : Type 0} (a b : A) → Some a ≡ Some b → a ≡ b
inner a b h = cc

fits_issuing : (s : Lists) (es : List Edit) → IsOrderly s.tasks → AreFine s.tasks es → IsIssuing s es → AllFit s es
fits_issuing s es o f i =
    let new : Task = record i.old { phase = phase.Awaiting i.place (length s.issues) } in
    let fine : AreFine s.tasks (issues i.issue ∷ moves i.task new ∷ []) = subst (AreFine s.tasks) i.es_are f in
    let there : i.task < length s.tasks = get_within s.tasks i.task i.old i.old_is in
    subst (AllFit s) (sym i.es_are) (
      (record { task_is = subst (λ t. t < length s.tasks) (sym i.own) there; in_time = i.moment }),
      (is_move (shown_edited (issues i.issue) s) i.task new o fine.0 tt (λ old is. inl (stays old is)), tt),
    )
  where
    stays : (old : Task) → slice_get s.tasks i.task ≡ Some old → (i.old.book ≡ old.book) × (i.old.step ≡ old.step)
    stays old is = let e : i.old ≡ old = inner i.old old (sym i.old_is ∙ is) in (ap (λ (x : Task). x.book) e, ap (λ (x : Task). x.step) e)

fits_closing : (s : Lists) (es : List Edit) → length s.texts ≡ length s.scopes → 0 < length s.tasks → IsOrderly s.tasks → AreFine s.tasks es → Placed (length s.scopes) es → IsClosing s es → AllFit s es
fits_closing s es len some o f p c =
    let fine : AreFine s.tasks (closes c.number c.end ∷ c.rest) = subst (AreFine s.tasks) c.es_are f in
    let placed : Placed (length s.scopes) (closes c.number c.end ∷ c.rest) = subst (Placed (length s.scopes)) c.es_are p in
    subst (AllFit s) (sym c.es_are) (
      (c.within, c.over),
      fits_calm c.rest (with_end c.number c.end s) c.calm.task len some o fine placed c.calm.none c.calm.calm c.calm.quiet c.calm.timely,
    )

pub fits_shaped : (s : Lists) (es : List Edit) → length s.texts ≡ length s.scopes → 0 < length s.tasks → IsOrderly s.tasks → AreFine s.tasks es → Placed (length s.scopes) es → Shaped s es → AllFit s es
fits_shaped s es len some o f p (inl c) = fits_calm es s c.task len some o f p c.none c.calm c.quiet c.timely
fits_shaped s es len some o f p (inr (inl i)) = fits_issuing s es o f i
fits_shaped s es len some o f p (inr (inr (inl c))) = fits_closing s es len some o f p c
fits_shaped s es len some o f p (inr (inr (inr e))) = subst (AllFit s) (sym e) (tt, tt)
