-- What calls of an engine offer, add and refuse.
use Rattle.std.proofs.Common.{◌≡◌, ℕ, zero, suc, ◌==◌, Bool, false, cond, not, List, [], ◌∷◌, ◌++◌, ◌-◌, length, length-append, Option, Some, Result, Ok, Err, IfErr, OnOk, refl, sym, ap, subst, ◌∙◌, arith}
use Rattle.std.specs.Prelude.{IfSome, slice_get}
use Rattle.cacao_site.specs.View.{SiteView}
use Rattle.run_records.specs.declared.record.Record.{Record}
use Rattle.flow_core_rules.specs.declared.issues.Issue.{Issue}
use Rattle.flow_core_rules.specs.Changes.{change, moment_of}
use Rattle.flow_core_rules.specs.Edits.{Edit, all_edited, all_shown_edited, edited, shown_edited, changed_at, closed}
use Rattle.flow_core_rules.specs.Edits.Edit.{opens, writes, makes, moves, issues, closes, upgrades}
use Rattle.flow_core_rules.specs.Laws.{KeepsIssues, RecordsKeepIssues}
use Rattle.flow_core_rules.specs.declared.moves.Move.{Move}
use Rattle.flow_core_rules.specs.Moves.{enabled_move}
use Rattle.flow_core_rules.specs.Runs.{Next, after, shown_after}
use Rattle.flow_core_rules.specs.State.{Lists, Shown, State}
use Rattle.flow_engine_history.specs.Flows.{IsReached}
use Rattle.flow_engine_history.specs.Views.{View, begins, taken}
use Rattle.flow_engine_history.specs.HistoryCalls.{Adds, Is, IsOfMove, MayCome, Refuses}
use Rattle.flow_engine_history.specs.HistoryView.{HistoryView, flow_of}
use Rattle.flow_engine_history.specs.declared.error.EngineError.{EngineError}
use Rattle.flow_engine_history.specs.declared.error.EngineError.TheVariants as failed
use Rattle.flow_engine_history.proofs.KindLemmas.{adds_as, refuses_as}
use Rattle.flow_engine.specs.EngineCalls.{Appends, IsMove, IsStanding, Refused}
use Rattle.flow_engine.specs.EngineView.{EngineView}
use Rattle.flow_engine.specs.Inside.{IsLast}
use Rattle.flow_engine.specs.OpenIssues.{ArePut, OpenIssues, without_ended}
use Rattle.flow_engine.proofs.EndedPuts.{KeepsOthers, puts_stay}

-- ---- one record, and one of a kind

appends_as : (One Other : Record → Type 0) → ((r : Record) → One r → Other r) → (old new : SiteView) (v w : EngineView) → Appends v w One old new → Appends v w Other old new
appends_as One Other same old new v w a = record { adds = adds_as One Other same v.history w.history old new a.adds; puts = a.puts }

pub refused_of_kind : (One Other : Record → Type 0) → ((r : Record) → One r → Other r) → (old new : SiteView) (v w : EngineView) (error : EngineError) → Refused v w One error old new → Refused v w Other error old new
refused_of_kind One Other same old new v w error r = (refuses_as One Other same v.history w.history error old new r.0, r.1)

module _ (IsNext : Record → Type 0) (next : Record) (is_next : IsNext next) (old new : SiteView) where
  one : (r : Record) → Is next r → IsNext r
  one r is = subst IsNext (sym is) is_next

  pub ok_as : (v w : EngineView) (result : Result (Unit {0}) EngineError) → OnOk result (Appends v w (Is next) old new) → OnOk result (Appends v w IsNext old new)
  ok_as v w (Ok x) a = appends_as (Is next) IsNext one old new v w a
  ok_as v w (Err e) a = tt

  pub done_as : (v w : EngineView) → Appends v w (Is next) old new → Appends v w IsNext old new
  done_as v w a = appends_as (Is next) IsNext one old new v w a

  pub refused_as : (v w : EngineView) (error : EngineError) → Refused v w (Is next) error old new → Refused v w IsNext error old new
  refused_as v w error r = refused_of_kind (Is next) IsNext one old new v w error r

  pub err_as : (v w : EngineView) (result : Result (Unit {0}) EngineError) → IfErr result (λ error. Refused v w (Is next) error old new)
      → IfErr result (λ error. Refused v w IsNext error old new)
  err_as v w (Ok x) r = tt
  err_as v w (Err e) r = refused_as v w e r

  pub err_through : (v w : EngineView) (result : Result Bool EngineError) (f : EngineError) → (e : EngineError) × (result ≡ Err e) × (e ≡ f) → Refused v w (Is next) f old new
      → IfErr result (λ error. Refused v w IsNext error old new)
  err_through v w result f (e, is, same) r =
      subst (λ (x : Result Bool EngineError). IfErr x (λ error. Refused v w IsNext error old new)) (sym is)
      (subst (λ (x : EngineError). Refused v w IsNext x old new) (sym same) (refused_as v w f r))

-- the record of the enabled move
pub is_move : (h : HistoryView) (moment : ℕ) (found : Move) → enabled_move h.seen moment ≡ Some found → (r : Record) → IsOfMove h found moment r → IsMove h moment r
is_move h moment found enabled r is = record { move = found; enabled = enabled; is = is }

-- an append to the parts of an engine is one to the engine
pub appends_made : (v : EngineView) (h k : HistoryView) (p q : OpenIssues) (next : Record) (old new : SiteView) → (let here : EngineView = record { history = h; puts = p } in here) ≡ v
    → Adds h k (Is next) old new → q ≡ without_ended p next → Appends v (record { history = k; puts = q }) (Is next) old new
appends_made v h k p q next old new is adds ended =
    subst (λ (x : EngineView). Appends x (record { history = k; puts = q }) (Is next) old new) is
    (record { adds = adds; puts = ended ∙ ap (λ (r : Record). without_ended p r) (sym ((adds.offers).comes).is) })

-- ---- the record that was appended last

at_end : (rs : List Record) (r : Record) → IsLast (rs ++ r ∷ []) r
at_end rs r = subst (λ (n : ℕ). slice_get (rs ++ r ∷ []) n ≡ Some r) (sym (before_end rs)) (behind rs)
  where
    before_end : (xs : List Record) → length (xs ++ r ∷ []) - 1 ≡ length xs
    before_end xs = omega (arith, length-append xs (r ∷ []))

    behind : (xs : List Record) → slice_get (xs ++ r ∷ []) (length xs) ≡ Some r
    behind [] = refl
    behind (x ∷ xs) = behind xs

pub last_added : (h k : HistoryView) (next : Record) (old new : SiteView) → Adds h k (Is next) old new → IsLast k.records next
last_added h k next old new adds =
    let c : MayCome h (Is next) = (adds.offers).comes in
    subst (λ (x : HistoryView). IsLast x.records next) (sym adds.view)
    (subst (λ (r : Record). IsLast (h.records ++ c.next ∷ []) r) c.is (at_end h.records c.next))

-- the issues that were put wait, and the record that was appended last, if there is one, is the last one
abbrev StandsSo : OpenIssues → Option Record → HistoryView → Type 0
StandsSo p last h = ArePut h.seen p × IfSome last (IsLast h.records)

-- a refusal changes neither the records nor what is shown
last_still : (IsNext : Record → Type 0) (h k : HistoryView) (p : OpenIssues) (last : Option Record) (old new : SiteView) → StandsSo p last h → (error : EngineError) → Refuses h k IsNext error old new
    → StandsSo p last k
last_still IsNext h k p last old new kept failed.Disk r = subst (λ (x : HistoryView). StandsSo p last x) (sym r.1) kept
last_still IsNext h k p last old new kept (failed.Limit what) r = subst (λ (x : HistoryView). StandsSo p last x) (sym r.1) kept
last_still IsNext h k p last old new kept failed.Broken r = subst (λ (x : HistoryView). StandsSo p last x) (sym r.1) kept
last_still IsNext h k p last old new kept failed.Memory r = subst (λ (x : HistoryView). StandsSo p last x) (sym r.1) kept
last_still IsNext h k p last old new kept (failed.Damaged place) r = absurd r
last_still IsNext h k p last old new kept (failed.OtherRun held asked) r = absurd r
last_still IsNext h k p last old new kept (failed.OtherBook index) r = absurd r

pub last_stays : (IsNext : Record → Type 0) (h k : HistoryView) (p : OpenIssues) (last : Option Record) (error : EngineError) (old new : SiteView) → Refuses h k IsNext error old new
    → ArePut h.seen p × IfSome last (IsLast h.records) → ArePut k.seen p × IfSome last (IsLast k.records)
last_stays IsNext h k p last error old new refused kept = last_still IsNext h k p last old new kept error refused

-- ---- the issues that were put

same_issues : (edits : List Edit) (s : State) (l : Lists) → s.issues ≡ l.issues → (all_edited edits s).issues ≡ (all_shown_edited edits l).issues
same_issues [] s l e = e
same_issues (opens parent vars ∷ edits) s l e = same_issues edits (edited (opens parent vars) s) (shown_edited (opens parent vars) l) e
same_issues (writes scope name text ∷ edits) s l e = same_issues edits (edited (writes scope name text) s) (shown_edited (writes scope name text) l) e
same_issues (makes task ∷ edits) s l e = same_issues edits (edited (makes task) s) (shown_edited (makes task) l) e
same_issues (moves n task ∷ edits) s l e = same_issues edits (edited (moves n task) s) (shown_edited (moves n task) l) e
same_issues (issues issue ∷ edits) s l e = same_issues edits (edited (issues issue) s) (shown_edited (issues issue) l) (ap (λ (xs : List Issue). xs ++ issue ∷ []) e)
same_issues (closes n end ∷ edits) s l e = same_issues edits (edited (closes n end) s) (shown_edited (closes n end) l) (ap (λ (xs : List Issue). changed_at n (closed end) xs) e)
same_issues (upgrades ∷ edits) s l e = same_issues edits (edited upgrades s) (shown_edited upgrades l) e

not_zero : (n : ℕ) → (suc n == 0) ≡ false
not_zero n = grind arith

-- a record leaves the issues that it doesn't end
keeps_others : RecordsKeepIssues → (n : ℕ) (v : View) (r : Record) (edits : List Edit) → v.count ≡ n → IsReached n v.seen → taken v r ≡ Some edits
    → KeepsOthers v.seen (shown_after (moment_of r) edits v.seen) r
keeps_others law zero v r edits count blank takes = record {
  others = λ n issue there apart. absurd (none_there n issue (subst (λ (s : Shown). slice_get s.lists.issues n ≡ Some issue) blank there));
}
  where
    none_there : (n : ℕ) (issue : Issue) → slice_get [] n ≡ Some issue → ⊥
    none_there n issue h = cc
keeps_others law (suc n) v r edits count state takes =
    let now : change v.seen r ≡ Some edits = subst (λ b. cond (not b) (change v.seen r) (begins v.seen r) ≡ Some edits) (ap (λ k. k == 0) count ∙ not_zero n) takes in
    let s : State = state.state in
    let next : Next s r (after (moment_of r) edits s) =
    record { edits = edits; change_is = subst (λ (x : Shown). change x r ≡ Some edits) (sym state.shown_is) now; new_is = refl } in
    let keeps : KeepsIssues s (after (moment_of r) edits s) r = law s (after (moment_of r) edits s) r next in
    let same : s.issues ≡ v.seen.lists.issues = ap (λ (x : Shown). x.lists.issues) state.shown_is in
    record {
      others = λ k issue there apart.
          subst (λ (xs : List Issue). slice_get xs k ≡ Some issue) (same_issues edits s v.seen.lists same)
          (keeps.others k issue (subst (λ (xs : List Issue). slice_get xs k ≡ Some issue) (sym same) there) apart);
    }

pub puts_appended : RecordsKeepIssues → (h k : HistoryView) (next : Record) (open_issues : OpenIssues) (old new : SiteView) → IsStanding h → Adds h k (Is next) old new → ArePut h.seen open_issues
    → ArePut k.seen (without_ended open_issues next)
puts_appended law h k next open_issues old new is adds puts =
    let c : MayCome h (Is next) = (adds.offers).comes in
    let seen : shown_after (moment_of c.next) c.edits h.seen ≡ k.seen = ap (λ (x : HistoryView). x.seen) (sym adds.view) in
    let keeps : KeepsOthers h.seen (shown_after (moment_of c.next) c.edits h.seen) c.next = keeps_others law (length h.records) (flow_of h) c.next c.edits refl is.reached c.takes in
    subst (λ (s : Shown). ArePut s (without_ended open_issues next)) seen
    (subst (λ (r : Record). ArePut (shown_after (moment_of c.next) c.edits h.seen) (without_ended open_issues r)) c.is
    (puts_stay h.seen (shown_after (moment_of c.next) c.edits h.seen) c.next open_issues keeps puts))

-- so it is behind the calls of an engine
pub puts_kept : RecordsKeepIssues → (v : EngineView) (h k : HistoryView) (p q : OpenIssues) (next : Record) (old new : SiteView) → (let here : EngineView = record { history = h; puts = p } in here) ≡ v → IsStanding v.history
    → Adds h k (Is next) old new → ArePut h.seen p → q ≡ without_ended p next → ArePut k.seen q
puts_kept law v h k p q next old new is standing adds puts ended =
    subst (ArePut k.seen) (sym ended) (puts_appended law h k next p old new (subst IsStanding (ap (λ (x : EngineView). x.history) (sym is)) standing) adds puts)
