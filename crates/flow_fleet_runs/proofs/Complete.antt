-- What holds of each run of a fleet that lost no parcel.
use Rattle.std.proofs.Common.{◌≡◌, inl, inr, ℕ, zero, suc, Bool, true, false, List, [], ◌∷◌, ◌++◌, sym, ◌∙◌, subst, ap, arith, All}
use Rattle.std.specs.Prelude.{Some, IfSome, IsSome, Contains, slice_get, ◌==◌, if◌then◌else◌}
use Rattle.std.proofs.lemmas.List.{append_assoc, append-nil}
use Rattle.std.proofs.lemmas.List.Elements.{All-append, All-nil}
use Rattle.std.proofs.lemmas.Option.{none-some}
use Rattle.cacao_check.proofs.LawLemmas.{sound_gives}
use Rattle.run_records.specs.declared.record.Record.{Record}
use Rattle.run_records.specs.declared.record.Record.TheVariants as entry
use Rattle.flow_core_rules.specs.Changes.{outcome}
use Rattle.flow_core_rules.specs.Laws.{HasEnd, HasRecords, ended_by}
use Rattle.flow_core_rules.specs.Moves.{record_of}
use Rattle.flow_core_rules.specs.Runnable.{IsRunnable}
use Rattle.flow_core_rules.specs.Sane.{IsAllOver, IsSane}
use Rattle.flow_core_rules.specs.State.{Shown}
use Rattle.flow_core_rules.specs.declared.issues.Issue.{Issue}
use Rattle.flow_core_rules.specs.declared.moves.Move.{Move}
use Rattle.flow_core_rules.specs.declared.moves.Move.TheVariants as move
use Rattle.flow_core_rules.proofs.CanEndLemmas.{ended_is_all_over}
use Rattle.flow_core_rules.proofs.IssueLemmas.{issues_have_records}
use Rattle.flow_core_rules.proofs.SaneRuns.{runs_are_sane}
use Rattle.flow_core_setup.proofs.SetupRunnable.{accepted_is_runnable}
use Rattle.flow_engine_history.specs.HistoryView.{HistoryView}
use Rattle.flow_engine_history.specs.Histories.{IsHistory, IsSoFar}
use Rattle.flow_engine.specs.EngineView.{EngineView}
use Rattle.flow_laws.proofs.Basics.{same_some}
use Rattle.flow_world_steps.specs.Appends.{Tries}
use Rattle.flow_world_steps.specs.Appends.Tries.{done, failed, limited}
use Rattle.flow_world_steps.specs.Steps.{PutsCommand}
use Rattle.flow_world_steps.specs.Worlds.{Notes, World}
use Rattle.flow_world_steps.proofs.Adding.{of_option}
use Rattle.flow_world_steps.proofs.Filters.{get_set}
use Rattle.flow_world_steps.proofs.Issues.{below}
use Rattle.flow_fleet_steps.specs.Openings.{Runs}
use Rattle.flow_fleet_steps.specs.Steps.{DoesAt, ExpiresAt, FleetStep, FleetSteps, SameSides}
use Rattle.flow_fleet_steps.specs.Steps.FleetStep.{opens_clock, finds_run_used, asks_clock, finds_late, begins, moves, expires, says, fails_to_say, puts_first, resends}
use Rattle.flow_fleet_steps.specs.Steps.FleetStep.{takes, finds_none, fails_to_take, drops, replies, ignores_reply, acts_on, repeats_reply, fails_to_act, wants_memory_now}
use Rattle.flow_fleet_steps.specs.Steps.FleetSteps.{nothing, and_then}
use Rattle.flow_fleet_steps.specs.Worlds.{FleetWorld, Own, set_own}
use Rattle.flow_fleet_sums.proofs.Adding.{fleet_steps_add, there_of}
use Rattle.flow_world_laws.specs.Answered.{IsReplied}
use Rattle.flow_fleet_runs.specs.Complete.{AddsRepliesAlone, EachFleetComplete, EndsByReply, HasItsReply, LostNothing}
use Rattle.flow_fleet_runs.proofs.Known.{are_histories}
use Rattle.flow_fleet_runs.proofs.Lossless.{fleet_steps_told, lost_before, no_fleet_expiry}

-- ---- one run

none_more : (v w : EngineView) → w.history.records ≡ v.history.records → AddsRepliesAlone v w
none_more v w same = record { added = []; is = same ∙ sym (append-nil v.history.records); each = All-nil EndsByReply }

one_more : (v w : EngineView) (r : Record) → w.history.records ≡ v.history.records ++ r ∷ [] → EndsByReply r → AddsRepliesAlone v w
one_more v w r is so = record { added = r ∷ []; is = is; each = alone }
  where
    alone : All EndsByReply (r ∷ [])
    alone zero d lt = so
    alone (suc k) d lt = absurd (omega (arith, lt))

then_more : (u v w : EngineView) → AddsRepliesAlone u v → AddsRepliesAlone v w → AddsRepliesAlone u w
then_more u v w p q = record {
  added = p.added ++ q.added;
  is = q.is ∙ ap (λ (l : List Record). l ++ q.added) p.is ∙ append_assoc u.history.records p.added q.added;
  each = All-append EndsByReply p.added q.added p.each q.each;
}

-- ---- one call

-- of each run: what it has more ends issues by Replies alone, and so does a record that may stand
record AddsSo (old new : FleetWorld) : Type 0 where
  pub each : (place : ℕ) (v w : EngineView) → slice_get old.engines place ≡ Some v → slice_get new.engines place ≡ Some w → AddsRepliesAlone v w
  pub unsure : (place : ℕ) → IfSome (old.own place).unsure EndsByReply → IfSome (new.own place).unsure EndsByReply

no_run : (old new : FleetWorld) → new.engines ≡ old.engines → new.own ≡ old.own → AddsSo old new
no_run old new engines own = record {
  each = λ place v w there here.
      let same : w ≡ v = same_some (sym (subst (λ (l : List EngineView). slice_get l place ≡ Some w) engines here) ∙ there) in
      none_more v w (ap (λ (x : EngineView). x.history.records) same);
  unsure = λ place was. subst (λ (o : ℕ → Own). IfSome (o place).unsure EndsByReply) (sym own) was;
}

sides : (old new : FleetWorld) → SameSides old new → AddsSo old new
sides old new is = no_run old new is.engines is.own

-- what was noted of one run
noted_at : (place k : ℕ) (own : Own) (owns : ℕ → Own) → (P : Own → Type 0) → P own → P (owns k) → P (set_own place own owns k)
noted_at place k own owns P here there = by (k == place)
  where
    by : (b : Bool) → P (if b then own else owns k)
    by true = here
    by false = there

one_run : (Do : World → World → Type 0) (place : ℕ) (old new : FleetWorld) (is : DoesAt Do place old new) → AddsRepliesAlone is.v is.w
    → (IfSome (old.own place).unsure EndsByReply → IfSome is.own.unsure EndsByReply) → ((k : ℕ) → IfSome (old.own k).unsure EndsByReply) → AddsSo old new
one_run Do place old new is adds unsure all = record {
  each = λ k x y there here. elim (get_set old.engines place k is.w y (subst (λ (l : List EngineView). slice_get l k ≡ Some y) is.engines here)) [
    | inl it ↦
        let same : x ≡ is.v = same_some (sym there ∙ subst (λ (n : ℕ). slice_get old.engines n ≡ Some is.v) (sym it.0) is.there) in
        subst (λ (z : EngineView). AddsRepliesAlone z y) (sym same) (subst (λ (z : EngineView). AddsRepliesAlone is.v z) it.1 adds)
    | inr other ↦ none_more x y (ap (λ (z : EngineView). z.history.records) (same_some (sym other.1 ∙ there)))
  ];
  unsure = λ k was. subst (λ (o : ℕ → Own). IfSome (o k).unsure EndsByReply) (sym is.owns)
      (noted_at place k is.own old.own (λ (o : Own). IfSome o.unsure EndsByReply) (unsure (all place)) was);
}

-- a record was tried that ends no issue but as its Reply
tried : (IsNext : Record → Type 0) (old new : World) → ((next : Record) → IsNext next → EndsByReply next) → Tries IsNext old new → AddsRepliesAlone old.engine new.engine
tried IsNext old new so (done is) =
    let comes = is.appends.adds.offers.comes in
    one_more old.engine new.engine comes.next (ap (λ (h : HistoryView). h.records) is.appends.adds.view) (so comes.next comes.is)
tried IsNext old new so (failed is) = none_more old.engine new.engine (ap (λ (h : HistoryView). h.records) is.refuses.0.1)
tried IsNext old new so (limited what is) = none_more old.engine new.engine (ap (λ (h : HistoryView). h.records) is.refuses.0.1)

same_unsure : (old new : World) → new.notes.unsure ≡ old.notes.unsure → IfSome old.notes.unsure EndsByReply → IfSome new.notes.unsure EndsByReply
same_unsure old new e was = subst (λ o. IfSome o EndsByReply) (sym e) was

tried_unsure : (IsNext : Record → Type 0) (old new : World) → ((next : Record) → IsNext next → EndsByReply next) → Tries IsNext old new
    → IfSome old.notes.unsure EndsByReply → IfSome new.notes.unsure EndsByReply
tried_unsure IsNext old new so (done is) = same_unsure old new (ap (λ (n : Notes). n.unsure) is.notes)
tried_unsure IsNext old new so (failed is) =
    let comes = is.refuses.0.0.comes in
    λ was. subst (λ o. IfSome o EndsByReply) (sym (ap (λ (n : Notes). n.unsure) is.notes)) (so comes.next comes.is)
tried_unsure IsNext old new so (limited what is) = same_unsure old new (ap (λ (n : Notes). n.unsure) is.notes)

put_more : (issue : ℕ) (old new : World) → PutsCommand issue old new → AddsRepliesAlone old.engine new.engine
put_more issue old new is = none_more old.engine new.engine (ap (λ (v : EngineView). v.history.records) is.sends.view)

put_unsure : (issue : ℕ) (old new : World) → PutsCommand issue old new → IfSome old.notes.unsure EndsByReply → IfSome new.notes.unsure EndsByReply
put_unsure issue old new is = same_unsure old new (ap (λ (n : Notes). n.unsure) is.notes)

move_ends_none : (seen : Shown) (now : ℕ) (m : Move) (next : Record) → record_of seen now m ≡ Some next → EndsByReply next
move_ends_none seen now (move.Walk t) next e = subst EndsByReply (same_some e) tt
move_ends_none seen now (move.Send t) next e = of_option _ _ EndsByReply next (λ x. tt) e
move_ends_none seen now (move.Ask t) next e = of_option _ _ EndsByReply next (λ x. tt) e
move_ends_none seen now move.Upgrade next e = subst EndsByReply (same_some e) tt

step_adds_so : (old new : FleetWorld) → ((k : ℕ) → IfSome (old.own k).unsure EndsByReply) → ((place issue : ℕ) → ExpiresAt place issue old new → ⊥) → FleetStep old new → AddsSo old new
step_adds_so old new sure not (opens_clock answer is) = sides old new is.goes.sides
step_adds_so old new sure not (finds_run_used place agent is) = sides old new is.only.sides
step_adds_so old new sure not (asks_clock moment answer is) = sides old new is.goes.sides
step_adds_so old new sure not (finds_late moment is) = sides old new is.only.sides
step_adds_so old new sure not (begins place is) =
    let d = is.does in
    one_run _ place old new d (tried _ _ _ (λ next i. subst EndsByReply (sym i.is) tt) d.does.tries) (tried_unsure _ _ _ (λ next i. subst EndsByReply (sym i.is) tt) d.does.tries) sure
step_adds_so old new sure not (moves place is) =
    let d = is.does in
    one_run _ place old new d (tried _ _ _ (λ next i. move_ends_none d.v.history.seen old.site.clock.now i.move next i.is) d.does.tries)
    (tried_unsure _ _ _ (λ next i. move_ends_none d.v.history.seen old.site.clock.now i.move next i.is) d.does.tries) sure
step_adds_so old new sure not (expires place issue is) = absurd (not place issue is)
step_adds_so old new sure not (says place v bytes is) = sides old new is.speaks.sides
step_adds_so old new sure not (fails_to_say place v bytes is) = sides old new is.speaks.sides
step_adds_so old new sure not (puts_first place issue is) = let d = is.does in one_run _ place old new d (put_more issue _ _ d.does.puts) (put_unsure issue _ _ d.does.puts) sure
step_adds_so old new sure not (resends place issue is) = let d = is.does in one_run _ place old new d (put_more issue _ _ d.does.puts) (put_unsure issue _ _ d.does.puts) sure
step_adds_so old new sure not (takes parcel is) = sides old new is.sides
step_adds_so old new sure not (finds_none is) = sides old new is.sides
step_adds_so old new sure not (fails_to_take is) = sides old new is.sides
step_adds_so old new sure not (drops beat parcel is) = sides old new is.ignores.sides
step_adds_so old new sure not (replies beat parcel place is) =
    let d = is.does in
    one_run _ place old new d (tried _ _ _ (λ next i. subst EndsByReply (sym i.is) tt) d.does.tries) (tried_unsure _ _ _ (λ next i. subst EndsByReply (sym i.is) tt) d.does.tries) sure
step_adds_so old new sure not (ignores_reply beat parcel is) = sides old new is.ignores.sides
step_adds_so old new sure not (acts_on beat parcel v w is) = no_run old new is.engines is.own
step_adds_so old new sure not (repeats_reply beat parcel v w is) = no_run old new is.engines is.own
step_adds_so old new sure not (fails_to_act beat parcel v w error cause is) = no_run old new is.engines is.own
step_adds_so old new sure not (wants_memory_now is) = sides old new is.only.sides

-- ---- all calls

-- the same since a world
record AddedSo (a b : FleetWorld) : Type 0 where
  pub each : (place : ℕ) (v w : EngineView) → slice_get a.engines place ≡ Some v → slice_get b.engines place ≡ Some w → AddsRepliesAlone v w
  pub sure : (place : ℕ) → IfSome (b.own place).unsure EndsByReply

steps_add_so : (runs : Runs) (most : ℕ) (a b : FleetWorld) → (steps : FleetSteps a b) → LostNothing runs most a b → IsSome a.site.link.pending → AddedSo a b
steps_add_so runs most a b nothing lost told = record {
  each = λ place v w there here. none_more v w (ap (λ (x : EngineView). x.history.records) (same_some (sym here ∙ there)));
  sure = λ place. subst (λ (o : ℕ → Own). IfSome (o place).unsure EndsByReply) (sym lost.begins.own) tt;
}
steps_add_so runs most a b (and_then {mid} steps step) lost told =
    let parts = lost_before runs most a mid b lost steps step in
    let before = steps_add_so runs most a mid steps parts.0 told in
    let last = step_adds_so mid b before.sure (λ place issue. no_fleet_expiry a mid b runs most parts.0 (fleet_steps_told a mid steps told) place issue) step in
    record {
      each = λ place u w there here.
          let many = (fleet_steps_add mid b (and_then nothing step)).many in
          let v = there_of mid.engines place (let lt = below b.engines place w here in omega (arith, lt, many)) in
          then_more u v.0 w (before.each place u v.0 there v.1) (last.each place v.0 w v.1 here);
      sure = λ place. last.unsure place (before.sure place);
    }

-- ---- where a run has ended each issue has its Reply

-- the record that ended an issue is its Reply
reply_of : (records : List Record) (n : ℕ) (r : Record) → ended_by r ≡ Some n → EndsByReply r → Contains records r → IsReplied records n
reply_of records n (entry.Reply issue moment status rule text) e so has =
    record { moment = moment; status = status; rule = rule; text = text; has = subst (λ (k : ℕ). Contains records (entry.Reply k moment status rule text)) (same_some e) has }
reply_of records n (entry.Told issue moment status text) e so has = absurd so
reply_of records n (entry.Expire issue moment) e so has = absurd so
reply_of records n (entry.Begin run moment books bind) e so has = absurd (none-some n e)
reply_of records n (entry.Walk task moment) e so has = absurd (none-some n e)
reply_of records n (entry.Send task issue agent moment bytes) e so has = absurd (none-some n e)
reply_of records n (entry.Upgrade version moment) e so has = absurd (none-some n e)
reply_of records n (entry.Ask task issue moment bytes) e so has = absurd (none-some n e)

-- the records of an issue that is shown, and that it doesn't wait once the run has ended
record IsOver (records : List Record) (n : ℕ) (it : Issue) : Type 0 where
  pub has : HasRecords records n it
  pub over : HasEnd records n it.phase

is_over : (h : HistoryView) (n : ℕ) (it : Issue) → IsHistory h → IsSome (outcome h.seen.lists) → slice_get h.seen.lists.issues n ≡ Some it → IsOver h.records n it
is_over h n it history ended there = by h.records history.so_far
  where
    runnable : IsRunnable h.seen.given
    runnable = accepted_is_runnable sound_gives h.seen.given.texts h.seen.given.bind h.seen.given history.accepted

    by : (rs : List Record) → IsSoFar rs h.seen → IsOver rs n it
    by [] is = absurd (none-some it (sym (ap (λ (s : Shown). slice_get s.lists.issues n) is) ∙ there))
    by (r ∷ rs) is =
        let has = issues_have_records h.seen.given h.seen.run (r ∷ rs) is.state n it runnable is.leads (sym (ap (λ (s : Shown). slice_get s.lists.issues n) is.is) ∙ there) in
        let over : IsAllOver h.seen = ended_is_all_over h.seen (subst IsSane (sym is.is) (runs_are_sane h.seen.given h.seen.run (r ∷ rs) is.state runnable is.leads)) ended in
        record { has = has; over = has.ended (over.issues n it there) }

-- one that is among records of which all have P has it
has_of : (P : Record → Type 0) (xs : List Record) (r : Record) → All P xs → Contains xs r → P r
has_of P xs r all has = subst P has.2 (all has.0 r has.1)

has_reply : (v w : EngineView) → AddsRepliesAlone v w → IsHistory w.history → v.history.records ≡ [] → IsSome (outcome w.history.seen.lists) → (n : ℕ) (it : Issue)
    → slice_get w.history.seen.lists.issues n ≡ Some it → HasItsReply w.history.records n it
has_reply v w adds history empty ended n it there =
    let is = is_over w.history n it history ended there in
    let all : w.history.records ≡ adds.added = adds.is ∙ ap (λ (l : List Record). l ++ adds.added) empty in
    let each : All EndsByReply w.history.records = subst (λ (l : List Record). All EndsByReply l) (sym all) adds.each in
    record {
      issued = is.has.issued;
      replied = reply_of w.history.records n is.over.last is.over.issue_is (has_of EndsByReply w.history.records is.over.last each is.over.among) is.over.among;
    }

pub fleets_complete : EachFleetComplete
fleets_complete a b runs most lost told =
    let added = steps_add_so runs most a b lost.steps lost told in
    record {
      adds = added.each;
      unsure = added.sure;
      has_reply = λ place v w there here. has_reply v w (added.each place v w there here) (are_histories a b runs most lost.begins lost.steps place w here);
    }
