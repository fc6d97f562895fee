-- A record in range passes no limit but that on tasks, and the flow behind it took one record more.
use Rattle.std.proofs.Common.{◌≡◌, ℕ, zero, suc, ◌+◌, ◌<◌, ◌≤◌, ◌||◌, ◌==◌, Bool, true, false, cond, not, List, [], ◌∷◌, ◌++◌, map, length, Option, Some, None, arith, refl, ap, ap₂, sym, subst, ◌∙◌, length-append}
use Rattle.std.specs.Prelude.{count_by, nat_lt, option_and_then, option_map, slice_get}
use Rattle.std.specs.List.{list_any}
use Rattle.std.proofs.lemmas.Bool.{both_ways, le-ltb, ltb-true}
use Rattle.std.proofs.lemmas.List.Recursion.{is_count_by}
use Rattle.std.proofs.lemmas.Option.{none-some}
use Rattle.run_records.specs.Ranges.{InRange, most_text}
use Rattle.run_records.specs.declared.record.Record.{Record}
use Rattle.run_records.specs.declared.record.Record.TheVariants as entry
use Rattle.cacao_book.specs.declared.books.Book.{Book}
use Rattle.flow_core_rules.specs.declared.issues.Issue.{Issue}
use Rattle.flow_core_rules.specs.declared.issues.IssuePhase.{IssuePhase}
use Rattle.flow_core_rules.specs.declared.tasks.Task.{Task}
use Rattle.flow_core_rules.specs.Changes.{change, moment_of}
use Rattle.flow_core_rules.specs.Edits.{Edit}
use Rattle.flow_core_rules.specs.Edits.Edit.{opens, writes, makes, moves, issues, closes, upgrades}
use Rattle.flow_core_rules.specs.Givens.{Given}
use Rattle.flow_core_rules.specs.Runs.{begin_of, first_edits, first_task, shown_after}
use Rattle.flow_core_rules.specs.State.{Shown}
use Rattle.flow_core_rules.proofs.RunLemmas.{some_inner}
use Rattle.flow_core_rules.proofs.QuietLemmas.{IsQuiet}
use Rattle.flow_core_rules.proofs.ShapeLemmas.{IssueShape, change_shape, new_issue}
use Rattle.flow_core.specs.TakenRecords.{HasTaken, IsShownAfter, IsSoFar, MakesTooMany, RefusesRecord, Took}
use Rattle.flow_core.specs.Views.{Refuses, View, begins, blank_shown, is_long_command, is_makes, most_tasks, passed, stepped, taken}
use Rattle.flow_core.specs.declared.flow_errors.FlowError.{FlowError}
use Rattle.flow_core.specs.declared.flow_errors.FlowError.TheVariants as flow_error
use Rattle.flow_core.specs.declared.flow_errors.LimitKind.{LimitKind}
use Rattle.flow_core.specs.declared.flow_errors.LimitKind.TheVariants as limit
use Rattle.flow_core.proofs.FlowLemmas.{begins_first, first_quiet, is_first, makes_in, taken_first, taken_later}
use Rattle.flow_core.proofs.ReachedLemmas.{shown_first, shown_more}

-- ---- commands are short

quiet_short : (es : List Edit) → IsQuiet es → list_any is_long_command es ≡ false
quiet_short [] q = refl
quiet_short (opens parent vars ∷ es) q = quiet_short es q
quiet_short (writes scope name text ∷ es) q = quiet_short es q
quiet_short (makes task ∷ es) q = quiet_short es q
quiet_short (moves t task ∷ es) q = quiet_short es q
quiet_short (issues issue ∷ es) q = absurd (both_ways false refl q)
quiet_short (closes i end ∷ es) q = absurd (both_ways false refl q)
quiet_short (upgrades ∷ es) q = absurd (both_ways false refl q)

issued_short : (es rest : List Edit) (issue : Issue) → es ≡ issues issue ∷ rest → IsQuiet rest → length issue.bytes ≤ most_text → list_any is_long_command es ≡ false
issued_short es rest issue e q le =
    ap (λ (l : List Edit). list_any is_long_command l) e ∙ ap (λ b. b || list_any is_long_command rest) (le-ltb most_text (length issue.bytes) le) ∙ quiet_short rest q

closed_short : (es rest : List Edit) (n : ℕ) (end : IssuePhase) → es ≡ closes n end ∷ rest → IsQuiet rest → list_any is_long_command es ≡ false
closed_short es rest n end e q = ap (λ (l : List Edit). list_any is_long_command l) e ∙ quiet_short rest q

shape_short : (s : Shown) (r : Record) (es : List Edit) → InRange r → IssueShape s r es → list_any is_long_command es ≡ false
shape_short s (entry.Begin run moment books bind) es i h = absurd h
shape_short s (entry.Walk task moment) es i h = quiet_short es h
shape_short s (entry.Send task issue agent moment bytes) es i h =
    issued_short es h.issued.rest (new_issue task agent moment bytes) h.issued.edits_are h.issued.quiet i.short_bytes
shape_short s (entry.Reply issue moment status rule text) es i h = closed_short es h.rest issue _ h.edits_are h.quiet
shape_short s (entry.Expire issue moment) es i h = closed_short es h.rest issue _ h.edits_are h.quiet
shape_short s (entry.Upgrade version moment) es i h = ap (λ (l : List Edit). list_any is_long_command l) h
shape_short s (entry.Ask task issue moment bytes) es i h =
    issued_short es h.rest (new_issue task 0 moment bytes) h.edits_are h.quiet i.short_text
shape_short s (entry.Told issue moment status text) es i h = closed_short es h.rest issue _ h.edits_are h.quiet

-- ---- the edits of a Begin

bound_makes : (bound : List (List ℕ × List ℕ)) (task : Task) → makes_in (map (λ b. writes 0 b.0 b.1) bound ++ makes task ∷ []) ≡ 1
bound_makes [] task = refl
bound_makes (b ∷ bound) task = bound_makes bound task

makes_one : (given : Given) (now : ℕ) (book : Book) (edits : List Edit) → opens None book.variables ∷ (map (λ b. writes 0 b.0 b.1) given.variables ++ makes (first_task given now book) ∷ []) ≡ edits
    → count_by is_makes edits ≡ 1
makes_one given now book edits e =
    sym (is_count_by makes_in is_makes refl (λ x xs. refl) edits) ∙ ap makes_in (sym e) ∙ bound_makes given.variables (first_task given now book)

first_makes : (given : Given) (now : ℕ) (edits : List Edit) → first_edits given now ≡ Some edits → count_by is_makes edits ≡ 1
first_makes given now edits e = by (slice_get given.books 0) e
  where
    by : (o : Option Book) → option_map (λ (book : Book). opens None book.variables ∷ (map (λ b. writes 0 b.0 b.1) given.variables ++ makes (first_task given now book) ∷ [])) o ≡ Some edits
        → count_by is_makes edits ≡ 1
    by None g = absurd (none-some edits g)
    by (Some book) g = makes_one given now book edits (some_inner _ edits g)

-- ---- limits

short_at : (n : ℕ) (v : View) (r : Record) (edits : List Edit) → v.count ≡ n → InRange r → taken v r ≡ Some edits → list_any is_long_command edits ≡ false
short_at zero v r edits c i e = quiet_short edits (first_quiet v.seen.given (moment_of r) edits (begins_first v.seen r edits (taken_first v r (Some edits) c e)).1)
short_at (suc n) v r edits c i e = shape_short v.seen r edits i (change_shape v.seen r edits (taken_later v r (Some edits) n c e))

limit_of_test : (v : View) (r : Record) (edits : List Edit) (what : LimitKind) (many long : Bool) → nat_lt most_tasks (length v.seen.lists.tasks + count_by is_makes edits) ≡ many
    → long ≡ false → taken v r ≡ Some edits → cond many (Some limit.Tasks) (cond long (Some limit.Command) None) ≡ Some what → (what ≡ limit.Tasks) × MakesTooMany v r
limit_of_test v r edits what true long m l e h =
    (sym (some_inner limit.Tasks what h), record { edits = edits; takes = e; many = ltb-true most_tasks (length v.seen.lists.tasks + count_by is_makes edits) m })
limit_of_test v r edits what false true m l e h = absurd (both_ways true l refl)
limit_of_test v r edits what false false m l e h = absurd (none-some what h)

limit_by : (v : View) (r : Record) (what : LimitKind) (o : Option (List Edit)) → InRange r → taken v r ≡ o → option_and_then (passed v.seen) o ≡ Some what
    → (what ≡ limit.Tasks) × MakesTooMany v r
limit_by v r what None i e h = absurd (none-some what h)
limit_by v r what (Some edits) i e h =
    limit_of_test v r edits what (nat_lt most_tasks (length v.seen.lists.tasks + count_by is_makes edits)) (list_any is_long_command edits) refl
    (short_at v.count v r edits refl i e) e h

-- a record in range passes no limit but that on tasks
pub limit_is : (v : View) (r : Record) (what : LimitKind) → InRange r → option_and_then (passed v.seen) (taken v r) ≡ Some what → (what ≡ limit.Tasks) × MakesTooMany v r
limit_is v r what i h = limit_by v r what (taken v r) i refl h

-- and the first one passes none
pub first_passes_none : (v : View) (r : Record) (given : Given) (run : ℕ) → v.count ≡ 0 → v.seen ≡ blank_shown given run → MakesTooMany v r → ⊥
first_passes_none v r given run c blank m =
    let one : count_by is_makes m.edits ≡ 1 = first_makes v.seen.given (moment_of r) m.edits (begins_first v.seen r m.edits (taken_first v r (Some m.edits) c m.takes)).1 in
    let none : length v.seen.lists.tasks ≡ 0 = ap (λ (x : Shown). length x.lists.tasks) blank in
    let many : most_tasks < length v.seen.lists.tasks + count_by is_makes m.edits = m.many in
    omega (arith, many, one, none)

-- why a record in range is not taken
pub refuses_record : (v : View) (r : Record) (error : FlowError) → InRange r → Refuses v error (taken v r) → RefusesRecord v r error
refuses_record v r flow_error.NotEnabled i h = h
refuses_record v r (flow_error.Limit what) i h = limit_is v r what i h
refuses_record v r flow_error.Memory i h = tt

-- ---- one record more

-- it was taken, whatever the flow was ready for
pub took_as : (v u w : View) (r : Record) → v.count ≡ u.count → v.seen ≡ u.seen → Took v r w → Took u r w
took_as v u w r p q t =
    let same : taken u r ≡ taken v r = ap₂ (λ (n : ℕ) (s : Shown). cond (not (n == 0)) (change s r) (begins s r)) (sym p) (sym q) in
    let step : stepped (moment_of r, t.edits) v ≡ stepped (moment_of r, t.edits) u =
    ap₂ (λ (n : ℕ) (s : Shown). let x : View = record { count = suc n; seen = shown_after (moment_of r) t.edits s; plan = None } in x) p q in
    record { edits = t.edits; takes = same ∙ t.takes; new_is = t.new_is ∙ step }

pub so_far_more : (rs : List Record) (v : View) (r : Record) (edits : List Edit) → v.count ≡ length rs → IsSoFar rs v.seen → taken v r ≡ Some edits
    → IsSoFar (rs ++ r ∷ []) (shown_after (moment_of r) edits v.seen)
so_far_more [] v r edits c h e =
    let f = is_first v.seen r edits (taken_first v r (Some edits) c e) in
    let given : Given = v.seen.given in
    let run : ℕ = v.seen.run in
    let now : ℕ = moment_of r in
    subst (λ (q : Record). IsShownAfter given run (q ∷ []) (shown_after now edits v.seen)) (sym f.is)
    (subst (λ (x : Shown). IsShownAfter given run (begin_of given run now ∷ []) (shown_after now edits x)) (sym h) (shown_first given run now edits f.in_time f.edits_are))
so_far_more (first ∷ others) v r edits c h e =
    shown_more v.seen.given v.seen.run (first ∷ others) v.seen r edits h (taken_later v r (Some edits) (length others) c e)

pub took_none : (v : View) (given : Given) (run : ℕ) → v.count ≡ 0 → v.seen ≡ blank_shown given run → HasTaken [] v
took_none v given run c e = record { count = c; so_far = subst (λ (x : Shown). x ≡ blank_shown x.given x.run) (sym e) refl }

pub took_more : (rs : List Record) (v w : View) (r : Record) → HasTaken rs v → Took v r w → HasTaken (rs ++ r ∷ []) w
took_more rs v w r h t = record {
  count = ap (λ (x : View). x.count) t.new_is ∙ omega (arith, h.count, length-append rs (r ∷ []));
  so_far = subst (λ (x : View). IsSoFar (rs ++ r ∷ []) x.seen) (sym t.new_is) (so_far_more rs v r t.edits h.count h.so_far t.takes);
}
