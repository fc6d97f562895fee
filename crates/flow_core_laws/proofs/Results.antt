-- What a record writes in scopes that are there are results.
use Rattle.std.proofs.Common.{◌≡◌, ◌⊎◌, ℕ, zero, suc, ◌+◌, ◌<◌, ◌≤◌, ◌==◌, ◌&&◌, Bool, true, false, cond, List, [], ◌∷◌, ◌++◌, length, map, Contains, Option, Some, None, arith, refl, sym, subst, append_assoc, inl, inr}
use Rattle.std.specs.Bool.{⊤}
use Rattle.std.specs.Prelude.{IfSome, is_none, nat_le, not, option_and_then, option_map, slice_get, slice_index_or}
use Rattle.std.specs.List.{AllByRecursion, flat_map, list_all, list_any}
use Rattle.std.specs.Option.{option_map_or}
use Rattle.std.specs.Str.{bytes_eq}
use Rattle.run_records.specs.declared.record.Record.{Record}
use Rattle.run_records.specs.declared.record.Record.TheVariants as entry
use Rattle.cacao_vars.specs.Scopes.{home}
use Rattle.cacao_book.specs.declared.step_kinds.StepKind.{StepKind}
use Rattle.cacao_book.specs.declared.step_kinds.StepKind.TheVariants as does
use Rattle.flow_core_rules.specs.declared.tasks.Task.{Task}
use Rattle.flow_core_rules.specs.declared.issues.Issue.{Issue}
use Rattle.flow_core_rules.specs.declared.issues.IssuePhase.{IssuePhase}
use Rattle.flow_core_rules.specs.declared.issues.IssuePhase.TheVariants as issue_phase
use Rattle.flow_core_rules.specs.declared.phases.Phase.{Phase}
use Rattle.flow_core_rules.specs.declared.phases.Phase.TheVariants as phase
use Rattle.flow_core_rules.specs.Givens.{book_with}
use Rattle.flow_core_rules.specs.State.{Lists, Shown}
use Rattle.flow_core_rules.specs.Edits.{Edit}
use Rattle.flow_core_rules.specs.Edits.Edit.{opens, writes, makes, moves, issues, closes, upgrades}
use Rattle.flow_core_rules.specs.Conditions.{heads, is_true}
use Rattle.flow_core_rules.specs.Places.{Place}
use Rattle.flow_core_rules.specs.Tasks.{Here, here_at, child}
use Rattle.flow_core_rules.specs.Changes as changes
use Rattle.flow_core_rules.specs.Changes.{Waiting, Issuing, waiting_at, moment_of}
use Rattle.flow_core_rules.proofs.PlacedLemmas.{some_then, some_if, some_map, some_from, two_ways}
use Rattle.flow_core_rules.proofs.HereLemmas.{here_of, some_at}
use Rattle.flow_core_laws.specs.Reads.{homes, written_below}
use Rattle.flow_core_laws.specs.Results.{handed_back, joined_results, answer_results, results_of, WritesAreResults}
use Rattle.flow_core_laws.proofs.Homes.{in_homes, in_front, behind}
use Rattle.flow_core_laws.proofs.Frame.{here_is}

-- what edits write to scopes below a number is among these
abbrev AreIn : ℕ → List (ℕ × List ℕ) → List Edit → Type 0
AreIn count pairs [] = ⊤
AreIn count pairs (opens parent vars ∷ es) = AreIn count pairs es
AreIn count pairs (writes at name text ∷ es) = (at < count → Contains pairs (at, name)) × AreIn count pairs es
AreIn count pairs (makes task ∷ es) = AreIn count pairs es
AreIn count pairs (moves t task ∷ es) = AreIn count pairs es
AreIn count pairs (issues issue ∷ es) = AreIn count pairs es
AreIn count pairs (closes n end ∷ es) = AreIn count pairs es
AreIn count pairs (upgrades ∷ es) = AreIn count pairs es

first_or : (y x : ℕ × List ℕ) (ys : List (ℕ × List ℕ)) → Contains (y ∷ ys) x → (y ≡ x) ⊎ Contains ys x
first_or y x ys c = by c.0 c.1 c.2
  where
    by : (k : ℕ) → k < length (y ∷ ys) → slice_index_or (y ∷ ys) k x ≡ x → (y ≡ x) ⊎ Contains ys x
    by zero less is = inl is
    by (suc k) less is = inr (k, omega arith, is)

all_in : (count : ℕ) (pairs : List (ℕ × List ℕ)) (es : List Edit) → AreIn count pairs es → (x : ℕ × List ℕ) → Contains (written_below count es) x → Contains pairs x
all_in count pairs [] are x c = let less = c.1 in absurd (omega arith)
all_in count pairs (opens parent vars ∷ es) are x c = all_in count pairs es are x c
all_in count pairs (writes at name text ∷ es) are x c = by (nat_le (suc at) count) refl (λ w. all_in count pairs es are.1 x w) c
  where
    below : (n : ℕ) → nat_le (suc n) count ≡ true → n < count
    below n e = grind arith

    either : (((at, name) ≡ x) ⊎ Contains (written_below count es) x) → (Contains (written_below count es) x → Contains pairs x) → at < count → Contains pairs x
    either (inl e) rest less = subst (λ (y : ℕ × List ℕ). Contains pairs y) e (are.0 less)
    either (inr w) rest less = rest w

    by : (b : Bool) → nat_le (suc at) count ≡ b → (Contains (written_below count es) x → Contains pairs x) → Contains {X = ℕ × List ℕ} (cond b ((at, name) ∷ written_below count es) (written_below count es)) x → Contains pairs x
    by true e rest w = either (first_or (at, name) x (written_below count es) w) rest (below at e)
    by false e rest w = rest w
all_in count pairs (makes task ∷ es) are x c = all_in count pairs es are x c
all_in count pairs (moves t task ∷ es) are x c = all_in count pairs es are x c
all_in count pairs (issues issue ∷ es) are x c = all_in count pairs es are x c
all_in count pairs (closes n end ∷ es) are x c = all_in count pairs es are x c
all_in count pairs (upgrades ∷ es) are x c = all_in count pairs es are x c

-- ---- names that get texts

abbrev AreNamed : List (List ℕ) → List (List ℕ × Option (List ℕ)) → Type 0
AreNamed names ps = AllByRecursion (λ p. Contains names p.0) ps

more_named : (name : List ℕ) (names : List (List ℕ)) (ps : List (List ℕ × Option (List ℕ))) → AreNamed names ps → AreNamed (name ∷ names) ps
more_named name names [] h = tt
more_named name names (p ∷ ps) h = (behind name names p.0 h.0, more_named name names ps h.1)

paired_named : (names : List (List ℕ)) (texts : List (Option (List ℕ))) → AreNamed names (changes.paired names texts)
paired_named [] texts = tt
paired_named (name ∷ names) [] = tt
paired_named (name ∷ names) (text ∷ texts) = (in_front name names, more_named name names (changes.paired names texts) (paired_named names texts))

valued_named : (s : Lists) (scope : ℕ) (names : List (List ℕ)) → AreNamed names (changes.valued s scope names)
valued_named s scope [] = tt
valued_named s scope (name ∷ names) = (in_front name names, more_named name names (changes.valued s scope names) (valued_named s scope names))

-- ---- the edits of each record

written_in : (count : ℕ) (s : Lists) (scope : ℕ) (names : List (List ℕ)) (ps : List (List ℕ × Option (List ℕ))) (es : List Edit) → AreNamed names ps → AreIn count (homes s.scopes scope names) es
    → AreIn count (homes s.scopes scope names) (flat_map (changes.written s scope) ps ++ es)
written_in count s scope names [] es named h = h
written_in count s scope names (p ∷ ps) es named h =
    subst (AreIn count (homes s.scopes scope names)) (sym (append_assoc (changes.written s scope p) (flat_map (changes.written s scope) ps) es))
    (one p (flat_map (changes.written s scope) ps ++ es) named.0 (written_in count s scope names ps es named.1 h))
  where
    one : (p : List ℕ × Option (List ℕ)) (es : List Edit) → Contains names p.0 → AreIn count (homes s.scopes scope names) es → AreIn count (homes s.scopes scope names) (changes.written s scope p ++ es)
    one (name, None) es c h = h
    one (name, Some text) es c h = by (home s.scopes scope name) refl
      where
        by : (o : Option ℕ) → home s.scopes scope name ≡ o → AreIn count (homes s.scopes scope names) (option_map_or (λ at. writes at name text ∷ []) o [] ++ es)
        by None e = h
        by (Some at) e = ((λ less. in_homes s.scopes scope names name at c e), h)

bound_in : (count : ℕ) (pairs : List (ℕ × List ℕ)) (scope : ℕ) (ps : List (List ℕ × Option (List ℕ))) (es : List Edit) → count ≤ scope → AreIn count pairs es → AreIn count pairs (flat_map (changes.binding scope) ps ++ es)
bound_in count pairs scope [] es le h = h
bound_in count pairs scope (p ∷ ps) es le h =
    subst (AreIn count pairs) (sym (append_assoc (changes.binding scope p) (flat_map (changes.binding scope) ps) es))
    (one p (flat_map (changes.binding scope) ps ++ es) (bound_in count pairs scope ps es le h))
  where
    one : (p : List ℕ × Option (List ℕ)) (es : List Edit) → AreIn count pairs es → AreIn count pairs (changes.binding scope p ++ es)
    one (name, None) es h = h
    one (name, Some text) es h = ((λ less. absurd (omega (arith, less, le))), h)

made_in : (count : ℕ) (pairs : List (ℕ × List ℕ)) (f : List ℕ → Task) (keys : List (List ℕ)) → AreIn count pairs (map (λ key. makes (f key)) keys)
made_in count pairs f [] = tt
made_in count pairs f (key ∷ keys) = made_in count pairs f keys

branched_in : (count : ℕ) (pairs : List (ℕ × List ℕ)) (h : Here) (scope : ℕ) (keys : List (List ℕ)) → AreIn count pairs (changes.branched h scope keys)
branched_in count pairs h scope [] = tt
branched_in count pairs h scope (key ∷ keys) = made_in count pairs (child h h.task.book scope) (key ∷ keys)

entered_in : (pairs : List (ℕ × List ℕ)) (h : Here) (kind : StepKind) → IfSome (changes.entered h kind) (AreIn (length h.seen.lists.scopes) pairs)
entered_in pairs h does.Start = tt
entered_in pairs h does.End = tt
entered_in pairs h (does.Action a b c d e) = tt
entered_in pairs h (does.PlaybookAction playbook version in_args out_args) =
    let n : ℕ = length h.seen.lists.scopes in
    some_map (book_with h.seen.given playbook) (λ theirs. changes.opening h ∷ changes.called (changes.inside h) n in_args theirs) (AreIn n pairs) (λ theirs.
    bound_in n pairs (suc n) (changes.valued (changes.inside h).seen.lists n in_args)
    (moves h.number (changes.joining (changes.inside h)) ∷ makes (child (changes.inside h) theirs.0 (suc n) (theirs.1).start) ∷ []) (omega arith) (tt {0}))
entered_in pairs h (does.Parallel a) = branched_in (length h.seen.lists.scopes) pairs (changes.inside h) (length h.seen.lists.scopes) (heads (changes.inside h).seen.lists (length h.seen.lists.scopes) (does.Parallel a))
entered_in pairs h (does.If a b c) = branched_in (length h.seen.lists.scopes) pairs (changes.inside h) (length h.seen.lists.scopes) (heads (changes.inside h).seen.lists (length h.seen.lists.scopes) (does.If a b c))
entered_in pairs h (does.While a b) = branched_in (length h.seen.lists.scopes) pairs (changes.inside h) (length h.seen.lists.scopes) (heads (changes.inside h).seen.lists (length h.seen.lists.scopes) (does.While a b))
entered_in pairs h (does.Switch a b) = branched_in (length h.seen.lists.scopes) pairs (changes.inside h) (length h.seen.lists.scopes) (heads (changes.inside h).seen.lists (length h.seen.lists.scopes) (does.Switch a b))

choice_in : (count : ℕ) (pairs : List (ℕ × List ℕ)) (b : Bool) (xs ys : List Edit) → AreIn count pairs xs → AreIn count pairs ys → AreIn count pairs (cond b xs ys)
choice_in count pairs true xs ys a b = a
choice_in count pairs false xs ys a b = b

rejoined_in : (count : ℕ) (h : Here) (from scope : ℕ) (kind : StepKind) → AreIn count (homes h.seen.lists.scopes scope (handed_back kind)) (changes.rejoined h from scope kind)
rejoined_in count h from scope (does.While condition on_true) =
    choice_in count [] (is_true h.seen.lists scope condition) (makes (child h h.task.book scope on_true) ∷ []) (changes.done h true) (tt {0}) (tt {0})
rejoined_in count h from scope (does.PlaybookAction a b c d) =
    written_in count h.seen.lists scope d (option_map_or (λ (root : Task). changes.valued h.seen.lists root.scope d) (slice_get h.seen.lists.tasks from) []) (changes.done h true) (by (slice_get h.seen.lists.tasks from)) (tt {0})
  where
    by : (o : Option Task) → AreNamed d (option_map_or (λ (root : Task). changes.valued h.seen.lists root.scope d) o [])
    by None = tt
    by (Some root) = valued_named h.seen.lists root.scope d
rejoined_in count h from scope does.Start = tt
rejoined_in count h from scope does.End = tt
rejoined_in count h from scope (does.Action a b c d e) = tt
rejoined_in count h from scope (does.Parallel a) = tt
rejoined_in count h from scope (does.If a b c) = tt
rejoined_in count h from scope (does.Switch a b) = tt

walked_in : (h : Here) (at : Phase) → IfSome (changes.walked h at) (AreIn (length h.seen.lists.scopes) (joined_results h at))
walked_in h (phase.At since) = some_if (nat_le (since + h.step.delay) h.now) (changes.entered h h.step.kind) (AreIn (length h.seen.lists.scopes) []) (entered_in [] h h.step.kind)
walked_in h (phase.Joining from) = by h.task.step_scope
  where
    n : ℕ
    n = length h.seen.lists.scopes

    joined : (scope : ℕ) (branches : List Task) → IfSome (changes.joined h from scope branches) (AreIn (length h.seen.lists.scopes) (homes h.seen.lists.scopes scope (handed_back h.step.kind)))
    joined scope branches =
        let stops : Option (List Edit) = Some (changes.done h false) in
        let goes : Option (List Edit) = Some (changes.rejoined h from scope h.step.kind) in
        let failed : Bool = list_any (λ task. changes.has_failed task.phase) branches in
        two_ways (not (list_all (λ task. changes.has_ended task.phase) branches)) None (cond failed stops goes) (AreIn (length h.seen.lists.scopes) (homes h.seen.lists.scopes scope (handed_back h.step.kind))) (tt {0})
        (two_ways failed stops goes (AreIn (length h.seen.lists.scopes) (homes h.seen.lists.scopes scope (handed_back h.step.kind))) (tt {0}) (rejoined_in (length h.seen.lists.scopes) h from scope h.step.kind))

    by : (o : Option ℕ) → IfSome (option_and_then (λ scope. changes.joined h from scope (changes.children h.seen.lists h.number from)) o)
        (AreIn (length h.seen.lists.scopes) (option_map_or (λ scope. homes h.seen.lists.scopes scope (handed_back h.step.kind)) o []))
    by None = tt
    by (Some scope) = joined scope (changes.children h.seen.lists h.number from)
walked_in h (phase.Sending place) = tt
walked_in h (phase.Awaiting place issue) = tt
walked_in h (phase.Ended well) = tt

abbrev IsIn : Shown → Record → List Edit → Type 0
IsIn s r es = AreIn (length s.lists.scopes) (results_of s r) es

walk_in : (s : Shown) (now t : ℕ) → IfSome (changes.walk s now t) (IsIn s (entry.Walk t now))
walk_in s now t =
    some_at s now t (λ (h : Here). changes.walked h h.task.phase) (IsIn s (entry.Walk t now)) (λ task step is step_is.
    subst (λ (o : Option Here). IfSome (changes.walked (here_of s now t task step) task.phase) (AreIn (length s.lists.scopes) (option_map_or (λ (h : Here). joined_results h h.task.phase) o [])))
    (sym (here_is s now t task step is step_is)) (walked_in (here_of s now t task step) task.phase))

issuing_in : (s : Shown) (now t : ℕ) (pairs : List (ℕ × List ℕ)) (issue_at : Here → Place → Option Issue)
    → IfSome (option_and_then (λ (h : Here). option_and_then (λ (place : Place). option_and_then (λ (issue : Issue). Some (changes.issuing h issue)) (issue_at h place)) (changes.place_at h h.task.phase)) (here_at s now t)) (λ made. AreIn (length s.lists.scopes) pairs made.1)
issuing_in s now t pairs issue_at =
    some_at s now t (λ (h : Here). option_and_then (λ (place : Place). option_and_then (λ (issue : Issue). Some (changes.issuing h issue)) (issue_at h place)) (changes.place_at h h.task.phase)) (λ made. AreIn (length s.lists.scopes) pairs made.1) (λ task step task_is step_is.
    let h : Here = here_of s now t task step in
    some_then (changes.place_at h task.phase) (λ (place : Place). option_and_then (λ (issue : Issue). Some (changes.issuing h issue)) (issue_at h place)) (λ made. AreIn (length s.lists.scopes) pairs made.1) (λ place.
    some_then (issue_at h place) (λ (issue : Issue). Some (changes.issuing h issue)) (λ made. AreIn (length s.lists.scopes) pairs made.1) (λ issue. tt {0})))

answered_in : (count n : ℕ) (end : IssuePhase) (status rule : ℕ) (text : List ℕ) (w : Waiting) → AreIn count (answer_results w) (changes.answered n end status rule text w)
answered_in count n end status rule text w =
    written_in count w.here.seen.lists w.scope (changes.out_args_of w.here.step.kind) (changes.paired (changes.out_args_of w.here.step.kind) (changes.results status rule text)) (moves w.here.number (changes.after_answer w status) ∷ [])
    (paired_named (changes.out_args_of w.here.step.kind) (changes.results status rule text)) (tt {0})

reply_in : (s : Shown) (n now status rule : ℕ) (text : List ℕ) → IfSome (changes.reply s now n status rule text) (IsIn s (entry.Reply n now status rule text))
reply_in s n now status rule text =
    some_if (changes.is_answer status text) (option_map f (changes.waiting_filter_at s now n)) (IsIn s (entry.Reply n now status rule text)) (by (waiting_at s now n))
  where
    f : Waiting → List Edit
    f w = changes.answered n (issue_phase.Answered status) status rule text w

    one : (w : Waiting) (b : Bool) → IfSome (option_map (changes.answered n (issue_phase.Answered status) status rule text) (cond b None (Some w))) (AreIn (length s.lists.scopes) (answer_results w))
    one w true = tt
    one w false = answered_in (length s.lists.scopes) n (issue_phase.Answered status) status rule text w

    by : (o : Option Waiting) → IfSome (option_map (changes.answered n (issue_phase.Answered status) status rule text) (option_and_then (λ (w : Waiting). cond ((w.issue).agent == 0) None (Some w)) o)) (AreIn (length s.lists.scopes) (option_map_or answer_results o []))
    by None = tt
    by (Some w) = one w ((w.issue).agent == 0)

tell_in : (s : Shown) (n now status : ℕ) (text : List ℕ) → IfSome (changes.tell s now n status text) (IsIn s (entry.Told n now status text))
tell_in s n now status text =
    some_if (s.lists.is_upgraded && changes.is_answer status text) (option_map (changes.answered n (issue_phase.Told status) status 0 text) (waiting_at s now n)) (IsIn s (entry.Told n now status text)) (by (waiting_at s now n))
  where
    by : (o : Option Waiting) → IfSome (option_map (changes.answered n (issue_phase.Told status) status 0 text) o) (AreIn (length s.lists.scopes) (option_map_or answer_results o []))
    by None = tt
    by (Some w) = answered_in (length s.lists.scopes) n (issue_phase.Told status) status 0 text w

edits_in : (s : Shown) (r : Record) → IfSome (changes.edits_of s r) (IsIn s r)
edits_in s (entry.Begin run moment books bind) = tt
edits_in s (entry.Walk task moment) = walk_in s moment task
edits_in s (entry.Send t n agent moment bytes) =
    some_from (changes.next_command s moment t) (λ (made : Issuing). cond ((n == length s.lists.issues) && (agent == (made.0).agent) && bytes_eq bytes (made.0).bytes) (Some made.1) None) (λ made. AreIn (length s.lists.scopes) [] made.1) (AreIn (length s.lists.scopes) []) (issuing_in s moment t [] changes.command_at)
    (λ made h. some_if ((n == length s.lists.issues) && (agent == (made.0).agent) && bytes_eq bytes (made.0).bytes) (Some made.1) (AreIn (length s.lists.scopes) []) h)
edits_in s (entry.Ask t n moment bytes) =
    some_from (changes.next_question s moment t) (λ (made : Issuing). cond (s.lists.is_upgraded && (n == length s.lists.issues) && bytes_eq bytes (made.0).bytes) (Some made.1) None) (λ made. AreIn (length s.lists.scopes) [] made.1) (AreIn (length s.lists.scopes) []) (issuing_in s moment t [] changes.question_at)
    (λ made h. some_if (s.lists.is_upgraded && (n == length s.lists.issues) && bytes_eq bytes (made.0).bytes) (Some made.1) (AreIn (length s.lists.scopes) []) h)
edits_in s (entry.Reply n moment status rule text) = reply_in s n moment status rule text
edits_in s (entry.Told n moment status text) = tell_in s n moment status text
edits_in s (entry.Expire n moment) =
    some_then (changes.waiting_filter_at s moment n) (changes.expired n) (AreIn (length s.lists.scopes) []) (λ w.
    some_if (nat_le ((w.issue).moment + w.here.step.timeout) w.here.now) (Some (closes n issue_phase.Expired ∷ changes.done w.here false)) (AreIn (length s.lists.scopes) []) (tt {0}))
edits_in s (entry.Upgrade version moment) =
    some_if ((version == 2) && is_none (changes.outcome s.lists) && not s.lists.is_upgraded) (Some (upgrades ∷ [])) (AreIn (length s.lists.scopes) []) (tt {0})

pub writes_are_results : WritesAreResults
writes_are_results s r at name c = by (changes.change s r) (some_if (changes.is_in_time s (moment_of r)) (changes.edits_of s r) (IsIn s r) (edits_in s r)) c
  where
    by : (o : Option (List Edit)) → IfSome o (IsIn s r) → Contains (option_map_or (written_below (length s.lists.scopes)) o []) (at, name) → Contains (results_of s r) (at, name)
    by None are w = let less = w.1 in absurd (omega arith)
    by (Some es) are w = all_in (length s.lists.scopes) (results_of s r) es are (at, name) w
