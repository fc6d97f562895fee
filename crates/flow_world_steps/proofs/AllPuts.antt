-- Each issue that waits for a filter was put: what a record does to that, and what a put does. All of it is over engines alone.
use Rattle.std.proofs.Common.{◌≡◌, ◌≢◌, inl, inr, ℕ, zero, suc, ◌+◌, ◌≤◌, ◌<◌, Bool, true, false, cond, List, [], ◌∷◌, ◌++◌, length, refl, sym, ◌∙◌, subst, ap, arith, length-append}
use Rattle.std.specs.Prelude.{Option, Some, None, slice_get, nat_eq, min, map, not, option_map, ◌==◌}
use Rattle.std.specs.Map.{lookup}
use Rattle.std.specs.Option.{option_map_or}
use Rattle.std.proofs.lemmas.Bool.{false≢true}
use Rattle.std.proofs.lemmas.Option.{none-some}
use Rattle.std.proofs.lemmas.Map.Entries.{lookup_head, lookup_tail}
use Rattle.indexmap.specs.IndexMap.{insert_entry}
use Rattle.cacao_site.specs.View.{SiteView}
use Rattle.cacao_site.specs.declared.parcel.Parcel.{Parcel}
use Rattle.run_records.specs.declared.record.Record.{Record}
use Rattle.run_records.specs.declared.record.Record.TheVariants as entry
use Rattle.cacao_book.specs.declared.books.Book.{Book}
use Rattle.flow_core_rules.specs.Changes.{change, is_waiting, moment_of}
use Rattle.flow_core_rules.specs.Edits.{Edit, all_shown_edited, changed_at, closed, shown_edited}
use Rattle.flow_core_rules.specs.Edits.Edit.{opens, writes, makes, moves, issues, closes, upgrades}
use Rattle.flow_core_rules.specs.Givens.{Given}
use Rattle.flow_core_rules.specs.Laws.{ended_by, issued_by}
use Rattle.flow_core_rules.specs.Runs.{first_edits, first_task, shown_after}
use Rattle.flow_core_rules.specs.State.{Lists, Shown}
use Rattle.flow_core_rules.specs.declared.issues.Issue.{Issue}
use Rattle.flow_core_rules.specs.declared.issues.IssuePhase.{IssuePhase}
use Rattle.flow_core_rules.specs.declared.tasks.Task.{Task}
use Rattle.flow_core_rules.proofs.QuietLemmas.{IsQuiet}
use Rattle.flow_core_rules.proofs.ShapeLemmas.{IssueShape, change_shape, new_issue}
use Rattle.flow_engine.specs.Views.{View, begins, taken}
use Rattle.flow_engine.proofs.FlowLemmas.{begins_first}
use Rattle.flow_laws.proofs.Basics.{same_or_not, same_some}
use Rattle.flow_engine.specs.HistoryCalls.{Is, MayCome}
use Rattle.flow_engine.specs.HistoryView.{HistoryView, flow_of}
use Rattle.flow_engine.specs.Histories.{IsHistory}
use Rattle.flow_engine.proofs.SoFarLemmas.{begin_is}
use Rattle.flow_engine.specs.EngineCalls.{Appends, IsReply, IsWaiting, Sends}
use Rattle.flow_engine.specs.EngineView.{EngineView}
use Rattle.flow_engine.specs.OpenIssues.{ArePut, OpenIssues, count_of, most_puts, puts_of, with_put}
use Rattle.flow_engine.specs.declared.puts.Puts.{Puts}
use Rattle.flow_world_steps.specs.Sides.{AllPut}
use Rattle.flow_world_steps.proofs.Issues.{KeepsShown, below, is_ended, keeps_shown, puts_kept, puts_other}
use Rattle.flow_world_steps.proofs.Records.{taken_next}

-- each issue that waits for a filter was put since the files were opened, but for one number
abbrev pub AllPutBut : EngineView → ℕ → Type 0
AllPutBut v but =
    (issue : ℕ) (it : Issue) → IsWaiting v.history.seen issue it → issue ≢ but → puts_of v.puts issue ≢ None

-- ---- how many issues a record makes

abbrev pub new_issues : Record → ℕ
new_issues r = option_map_or (λ n. 1) (issued_by r) 0

one_at_most : (r : Record) → new_issues r ≤ 1
one_at_most r = by (issued_by r)
  where
    by : (o : Option ℕ) → option_map_or (λ n. 1) o 0 ≤ 1
    by None = omega arith
    by (Some n) = omega arith

clash : {P : Type 0} → false ≡ true → P
clash h = absurd (false≢true h)

quiet_shown : (es : List Edit) (s : Lists) → IsQuiet es → (all_shown_edited es s).issues ≡ s.issues
quiet_shown [] s q = refl
quiet_shown (opens parent vars ∷ es) s q = quiet_shown es (shown_edited (opens parent vars) s) q
quiet_shown (writes scope name text ∷ es) s q = quiet_shown es (shown_edited (writes scope name text) s) q
quiet_shown (makes task ∷ es) s q = quiet_shown es (shown_edited (makes task) s) q
quiet_shown (moves t task ∷ es) s q = quiet_shown es (shown_edited (moves t task) s) q
quiet_shown (issues issue ∷ es) s q = clash q
quiet_shown (closes i end ∷ es) s q = clash q
quiet_shown (upgrades ∷ es) s q = clash q

none_made : (s : Lists) (es : List Edit) → IsQuiet es → length (all_shown_edited es s).issues ≡ length s.issues + 0
none_made s es q = let e = ap (λ (l : List Issue). length l) (quiet_shown es s q) in omega (arith, e)

one_made : (s : Lists) (es rest : List Edit) (new : Issue) → es ≡ issues new ∷ rest → IsQuiet rest → length (all_shown_edited es s).issues ≡ length s.issues + 1
one_made s es rest new e q =
    let first = ap (λ (xs : List Edit). length (all_shown_edited xs s).issues) e in
    let then_ = ap (λ (l : List Issue). length l) (quiet_shown rest (shown_edited (issues new) s) q) in
    omega (arith, first, then_, length-append s.issues (new ∷ []))

length-changed : {A : Type 0} (n : ℕ) (f : A → A) (xs : List A) → length (changed_at n f xs) ≡ length xs
length-changed n f [] = refl
length-changed zero f (x ∷ xs) = refl
length-changed (suc n) f (x ∷ xs) = ap suc (length-changed n f xs)

one_closed : (s : Lists) (es rest : List Edit) (n : ℕ) (end : IssuePhase) → es ≡ closes n end ∷ rest → IsQuiet rest → length (all_shown_edited es s).issues ≡ length s.issues + 0
one_closed s es rest n end e q =
    let first = ap (λ (xs : List Edit). length (all_shown_edited xs s).issues) e in
    let then_ = ap (λ (l : List Issue). length l) (quiet_shown rest (shown_edited (closes n end) s) q) in
    omega (arith, first, then_, length-changed n (closed end) s.issues)

made_by : (s : Shown) (r : Record) (es : List Edit) → IssueShape s r es → length (all_shown_edited es s.lists).issues ≡ length s.lists.issues + new_issues r
made_by s (entry.Begin run moment books bind) es shape = absurd shape
made_by s (entry.Walk task moment) es shape = none_made s.lists es shape
made_by s (entry.Send task n agent moment bytes) es shape = one_made s.lists es (shape.issued).rest (new_issue task agent moment bytes) (shape.issued).edits_are (shape.issued).quiet
made_by s (entry.Reply n moment status rule text) es shape = one_closed s.lists es shape.rest n _ shape.edits_are shape.quiet
made_by s (entry.Expire n moment) es shape = one_closed s.lists es shape.rest n _ shape.edits_are shape.quiet
made_by s (entry.Upgrade version moment) es shape = let e = ap (λ (xs : List Edit). length (all_shown_edited xs s.lists).issues) shape in omega (arith, e)
made_by s (entry.Ask task n moment bytes) es shape = one_made s.lists es shape.rest (new_issue task 0 moment bytes) shape.edits_are shape.quiet
made_by s (entry.Told n moment status text) es shape = one_closed s.lists es shape.rest n _ shape.edits_are shape.quiet

bound_quiet : (bound : List (List ℕ × List ℕ)) (task : Task) → IsQuiet (map (λ b. writes 0 b.0 b.1) bound ++ makes task ∷ [])
bound_quiet [] task = refl
bound_quiet (b ∷ bound) task = bound_quiet bound task

pub first_quiet : (given : Given) (now : ℕ) (edits : List Edit) → first_edits given now ≡ Some edits → IsQuiet edits
first_quiet given now edits e = by (slice_get given.books 0) e
  where
    by : (o : Option Book) → option_map (λ (book : Book). opens None book.variables ∷ (map (λ b. writes 0 b.0 b.1) given.variables ++ makes (first_task given now book) ∷ [])) o ≡ Some edits → IsQuiet edits
    by None g = absurd (none-some edits g)
    by (Some book) g = subst IsQuiet (same_some g) (bound_quiet given.variables (first_task given now book))

taken_first : (v : View) (r : Record) (edits : List Edit) → v.count ≡ 0 → taken v r ≡ Some edits → begins v.seen r ≡ Some edits
taken_first v r edits c e = subst (λ (k : ℕ). cond (not (k == 0)) (change v.seen r) (begins v.seen r) ≡ Some edits) c e

made : (records : List Record) (h : HistoryView) (IsNext : Record → Type 0) → h.records ≡ records → (comes : MayCome h IsNext)
    → length (all_shown_edited comes.edits h.seen.lists).issues ≡ length h.seen.lists.issues + new_issues comes.next
made [] h IsNext are comes =
    let zero_of : (flow_of h).count ≡ 0 = ap (λ (l : List Record). length l) are in
    let begin = taken_first (flow_of h) comes.next comes.edits zero_of comes.takes in
    let quiet = first_quiet h.seen.given (moment_of comes.next) comes.edits (begins_first h.seen comes.next comes.edits begin).1 in
    let no_issue : new_issues comes.next ≡ 0 = ap new_issues (begin_is h.seen comes.next comes.edits begin) in
    omega (arith, none_made h.seen.lists comes.edits quiet, no_issue)
made (first ∷ others) h IsNext are comes =
    made_by h.seen comes.next comes.edits (change_shape h.seen comes.next comes.edits (taken_next h.records (flow_of h) comes.next comes.edits refl (λ e. not_empty (sym are ∙ e)) comes.takes))
  where
    not_empty : first ∷ others ≡ [] → ⊥
    not_empty e = let long = ap (λ (l : List Record). length l) e in absurd (omega (arith, long))

-- a record that may come makes so many issues
pub issues_made : (h : HistoryView) (IsNext : Record → Type 0) (comes : MayCome h IsNext)
    → length (shown_after (moment_of comes.next) comes.edits h.seen).lists.issues ≡ length h.seen.lists.issues + new_issues comes.next
issues_made h IsNext comes = made h.records h IsNext refl comes

-- ---- after a record

-- what the record shows afterwards
pub seen_after : (v w : EngineView) (IsNext : Record → Type 0) (old new : SiteView) (is : Appends v w IsNext old new)
    → w.history.seen ≡ shown_after (moment_of is.adds.offers.comes.next) is.adds.offers.comes.edits v.history.seen
seen_after v w IsNext old new is = ap (λ (h : HistoryView). h.seen) is.adds.view

-- so many issues are shown afterwards
pub issues_after : (v w : EngineView) (IsNext : Record → Type 0) (old new : SiteView) (is : Appends v w IsNext old new)
    → length w.history.seen.lists.issues ≡ length v.history.seen.lists.issues + new_issues is.adds.offers.comes.next
issues_after v w IsNext old new is =
    ap (λ (s : Shown). length s.lists.issues) (seen_after v w IsNext old new is) ∙ issues_made v.history IsNext is.adds.offers.comes

past_end : {T : Type 0} (xs : List T) (n : ℕ) → slice_get xs n ≡ None → length xs ≤ n
past_end [] n e = omega arith
past_end (x ∷ xs) zero e = absurd (none-some x (sym e))
past_end (x ∷ xs) (suc n) e = let le = past_end xs n e in omega (arith, le)

module _ (v w : EngineView) (IsNext : Record → Type 0) (old new : SiteView) (history : IsHistory v.history) (are : ArePut w.history.seen w.puts)
    (is : Appends v w IsNext old new) where
  keeps : KeepsShown v.history.seen w.history.seen is.adds.offers.comes.next
  keeps = subst (λ (s : Shown). KeepsShown v.history.seen s is.adds.offers.comes.next) (sym (seen_after v w IsNext old new is)) (keeps_shown v.history IsNext history is.adds.offers.comes)

  still_put : (n : ℕ) (p : Puts) → puts_of v.puts n ≡ Some p → (ended_by is.adds.offers.comes.next ≡ Some n → ⊥) → puts_of w.puts n ≡ Some p
  still_put n p there apart = subst (λ (o : OpenIssues). puts_of o n ≡ Some p) (sym is.puts)
      (puts_kept w.history.seen v.puts is.adds.offers.comes.next n p (subst (λ (o : OpenIssues). ArePut w.history.seen o) is.puts are) there apart)

  -- an issue that was there before, and waits after the record
  was_put : AllPut v → (n : ℕ) (was it : Issue) → slice_get v.history.seen.lists.issues n ≡ Some was → IsWaiting w.history.seen n it → puts_of w.puts n ≢ None
  was_put all n was it e waiting = elim (is_ended (ended_by is.adds.offers.comes.next) n) [
    | inl ends ↦ absurd (false≢true (sym (keeps.ended n was it e ends waiting.there) ∙ waiting.waits))
    | inr apart ↦ not_ended apart
  ]
    where
      by : (ended_by is.adds.offers.comes.next ≡ Some n → ⊥) → (o : Option Puts) → puts_of v.puts n ≡ o → o ≢ None → puts_of w.puts n ≢ None
      by apart None is_none some = absurd (some refl)
      by apart (Some p) is_some some = λ none. none-some p (sym none ∙ still_put n p is_some apart)

      not_ended : (ended_by is.adds.offers.comes.next ≡ Some n → ⊥) → puts_of w.puts n ≢ None
      not_ended apart =
          let same : it ≡ was = same_some (sym waiting.there ∙ keeps.others n was e apart) in
          let before : IsWaiting v.history.seen n was = record {
            there = e;
            waits = ap (λ (x : Issue). is_waiting x.phase) (sym same) ∙ waiting.waits;
            of_filter = λ z. waiting.of_filter (ap (λ (x : Issue). x.agent) same ∙ z);
          } in
          by apart (puts_of v.puts n) refl (all n was before)

  -- Whatever record was appended: each issue that waits for a filter was put, but for the one that the record made, if it made one.
  pub put_after : AllPut v → AllPutBut w (length v.history.seen.lists.issues)
  put_after all n it waiting apart = by (slice_get v.history.seen.lists.issues n) refl
    where
      by : (o : Option Issue) → slice_get v.history.seen.lists.issues n ≡ o → puts_of w.puts n ≢ None
      by None e = absurd (apart (omega (arith, past_end v.history.seen.lists.issues n e, below w.history.seen.lists.issues n it waiting.there, issues_after v w IsNext old new is, one_at_most is.adds.offers.comes.next)))
      by (Some was) e = was_put all n was it e waiting

  -- A record that made none: all were put.
  pub put_stays : issued_by is.adds.offers.comes.next ≡ None → AllPut v → AllPut w
  put_stays none all n it waiting =
      let no_issue : new_issues is.adds.offers.comes.next ≡ 0 = ap (λ (o : Option ℕ). option_map_or (λ k. 1) o 0) none in
      let lt : n < length v.history.seen.lists.issues = omega (arith, below w.history.seen.lists.issues n it waiting.there, issues_after v w IsNext old new is, no_issue) in
      put_after all n it waiting (λ e. absurd (omega (arith, e, lt)))

-- after a Reply
pub put_after_reply : (v w : EngineView) (parcel : Parcel) (moment : ℕ) (old new : SiteView) → IsHistory v.history → ArePut w.history.seen w.puts
    → Appends v w (IsReply v.history parcel moment) old new → AllPut v → AllPut w
put_after_reply v w parcel moment old new history are is = put_stays v w _ old new history are is (ap issued_by is.adds.offers.comes.is.is)

-- after an Expire
pub put_after_expire : (v w : EngineView) (issue moment : ℕ) (old new : SiteView) → IsHistory v.history → ArePut w.history.seen w.puts
    → Appends v w (Is (entry.Expire issue moment)) old new → AllPut v → AllPut w
put_after_expire v w issue moment old new history are is = put_stays v w _ old new history are is (ap issued_by is.adds.offers.comes.is)

-- after a Told
pub put_after_told : (v w : EngineView) (issue moment status : ℕ) (text : List ℕ) (old new : SiteView) → IsHistory v.history → ArePut w.history.seen w.puts
    → Appends v w (Is (entry.Told issue moment status text)) old new → AllPut v → AllPut w
put_after_told v w issue moment status text old new history are is = put_stays v w _ old new history are is (ap issued_by is.adds.offers.comes.is)

-- ---- after the Begin

-- ---- after a put

eq_itself : (n : ℕ) → nat_eq n n ≡ true
eq_itself n = grind arith

put_here : (es : OpenIssues) (k : ℕ) (p : Puts) → lookup (nat_eq k) (insert_entry nat_eq es k p) ≡ Some p
put_here [] k p = lookup_head (nat_eq k) (k, p) [] (eq_itself k)
put_here (e ∷ es) k p = by (nat_eq k e.0) refl (put_here es k p)
  where
    by : (b : Bool) → nat_eq k e.0 ≡ b → lookup (nat_eq k) (insert_entry nat_eq es k p) ≡ Some p → lookup (nat_eq k) (cond b ((e.0, p) ∷ es) (e ∷ insert_entry nat_eq es k p)) ≡ Some p
    by true t rest = lookup_head (nat_eq k) (e.0, p) es t
    by false t rest = lookup_tail (nat_eq k) e (insert_entry nat_eq es k p) t ∙ rest

-- the command of an issue was put: that is kept of it, and all else is as it was
pub record IsPutNow (v w : EngineView) (issue moment : ℕ) : Type 0 where
  pub history : w.history ≡ v.history
  pub here : puts_of w.puts issue ≡ Some (record { last = moment; count = min most_puts (count_of v.puts issue + 1) })
  pub others : (n : ℕ) → n ≢ issue → puts_of w.puts n ≡ puts_of v.puts n
  pub still : (n : ℕ) → puts_of v.puts n ≢ None → puts_of w.puts n ≢ None

some_not : {T : Type 0} (o : Option T) (x : T) → o ≡ Some x → o ≢ None
some_not o x e none = none-some x (sym none ∙ e)

pub put_now : (v w : EngineView) (issue moment : ℕ) (old new : SiteView) → Sends v w issue moment old new → IsPutNow v w issue moment
put_now v w issue moment old new is = record {
  history = ap (λ (x : EngineView). x.history) is.view;
  here = here;
  others = others;
  still = λ n some. elim (same_or_not n issue) [
    | inl e ↦ subst (λ (k : ℕ). puts_of w.puts k ≢ None) (sym e) (some_not (puts_of w.puts issue) _ here)
    | inr apart ↦ λ none. some (sym (others n apart) ∙ none)
  ];
}
  where
    puts : w.puts ≡ with_put v.puts issue moment
    puts = ap (λ (x : EngineView). x.puts) is.view

    here : puts_of w.puts issue ≡ Some (record { last = moment; count = min most_puts (count_of v.puts issue + 1) })
    here = ap (λ (o : OpenIssues). puts_of o issue) puts ∙ put_here v.puts issue (record { last = moment; count = min most_puts (count_of v.puts issue + 1) })

    others : (n : ℕ) → n ≢ issue → puts_of w.puts n ≡ puts_of v.puts n
    others n apart = ap (λ (o : OpenIssues). puts_of o n) puts ∙ puts_other v.puts issue moment n apart

-- where all others were put, all were put now
pub all_put_now : (v w : EngineView) (issue moment : ℕ) (old new : SiteView) → Sends v w issue moment old new → AllPutBut v issue → AllPut w
all_put_now v w issue moment old new is but n it waiting = elim (same_or_not n issue) [
  | inl e ↦ subst (λ (k : ℕ). puts_of w.puts k ≢ None) (sym e) (some_not (puts_of w.puts issue) _ now.here)
  | inr apart ↦ now.still n (but n it (subst (λ (h : HistoryView). IsWaiting h.seen n it) now.history waiting) apart)
]
  where
    now : IsPutNow v w issue moment
    now = put_now v w issue moment old new is

-- and where all were put, they stay put
pub all_stay_put : (v w : EngineView) (issue moment : ℕ) (old new : SiteView) → Sends v w issue moment old new → AllPut v → AllPut w
all_stay_put v w issue moment old new is all = all_put_now v w issue moment old new is (λ n it waiting apart. all n it waiting)
