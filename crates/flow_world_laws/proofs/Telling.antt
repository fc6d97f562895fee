-- An operator tells of no issue of a filter, while no parcel is lost.
use Rattle.std.proofs.Common.{◌≡◌, ◌≢◌, ◌⊎◌, inl, inr, ℕ, ◌==◌, Bool, true, false, cond, List, [], ◌∷◌, ◌++◌, length, refl, sym, ◌∙◌, subst, ap, arith, eq-eqb}
use Rattle.std.specs.Prelude.{Option, Some, None, IfSome, IsSome, Contains, ⊤}
use Rattle.std.proofs.lemmas.Bool.{eqb-true, false≢true}
use Rattle.std.proofs.lemmas.List.{length-append}
use Rattle.std.proofs.lemmas.List.Elements.{Contains-append_left}
use Rattle.std.proofs.lemmas.Option.{none-some}
use Rattle.cacao_site.specs.Counts.{DidNotRise}
use Rattle.cacao_site.specs.View.{LinkView, SiteView}
use Rattle.cacao_site.specs.declared.parcel.Parcel.{Parcel}
use Rattle.run_records.specs.declared.record.Record.{Record}
use Rattle.run_records.specs.declared.record.Record.TheVariants as entry
use Rattle.flow_core_rules.specs.Changes.{is_waiting}
use Rattle.flow_core_rules.specs.Laws.{record_of_issue}
use Rattle.flow_core_rules.specs.Moves.{record_of}
use Rattle.flow_core_rules.specs.State.{Shown}
use Rattle.flow_core_rules.specs.declared.issues.Issue.{Issue}
use Rattle.flow_core_rules.specs.declared.moves.Move.{Move}
use Rattle.flow_core_rules.specs.declared.moves.Move.TheVariants as move
use Rattle.flow_world_steps.specs.HistoryView.{HistoryView}
use Rattle.flow_world_steps.specs.Histories.{IsHistory}
use Rattle.flow_engine_answers.specs.declared.answers.OperatorAnswer.{OperatorAnswer}
use Rattle.flow_world_steps.specs.EngineCalls.{IsWaiting}
use Rattle.flow_world_steps.specs.EngineView.{EngineView}
use Rattle.flow_laws.proofs.Basics.{same_some}
use Rattle.flow_world_steps.specs.Appends.{Tries}
use Rattle.flow_world_steps.specs.Appends.Tries.{done, failed, limited}
use Rattle.flow_world_steps.specs.Steps.{Step, Steps, Tells}
use Rattle.flow_world_steps.specs.Steps.Step.{opens_clock, finds_run_used, asks_clock, finds_late, begins, moves, upgrades, tells, expires, says, fails_to_say}
use Rattle.flow_world_steps.specs.Steps.Step.{puts_first, resends, takes, finds_none, fails_to_take, drops, replies, ignores_reply, acts_on, repeats_reply, fails_to_act, wants_memory_now}
use Rattle.flow_world_steps.specs.Steps.Steps.{nothing, and_then}
use Rattle.flow_world_steps.specs.UnderWay.{IsPending}
use Rattle.flow_world_steps.specs.Worlds.{HasAllFilters, IsGoing, Notes, Phase, World, opened, looked, holds}
use Rattle.flow_world_steps.proofs.Adding.{of_option, steps_add}
use Rattle.flow_world_steps.proofs.Came.{same_last, steps_came}
use Rattle.flow_world_steps.proofs.Failing.{fails_notes}
use Rattle.flow_world_steps.proofs.Looked.{steps_look}
use Rattle.flow_world_steps.proofs.Lost.{steps_put_or_lose}
use Rattle.flow_world_steps.proofs.PutWhile.{steps_all_put}
use Rattle.flow_world_steps.proofs.Readiness.{steps_ready}
use Rattle.flow_world_steps.proofs.Sites.{some_lost, some_more, some_same}
use Rattle.flow_world_steps.proofs.Spoken.{fails_said}
use Rattle.flow_world_steps.proofs.Unbroken.{journal_stands}
use Rattle.flow_world_steps.proofs.Unsure.{steps_unsure}
use Rattle.flow_world_steps.proofs.Waiting.{steps_wait}
use Rattle.flow_world_laws.specs.Answered.{IsNoToldOfFilter, IsQuestion, NoTold, NoToldOfFilters}
use Rattle.flow_world_laws.proofs.Known.{issue_issued, one_record}

-- ---- where a turn has looked, a command or a reply is pending for each issue of a filter

nothing_pending : (h : HistoryView) (issue : ℕ) (o : Option (List Parcel)) → IsSome o → IfSome o (λ pending. pending ≡ []) → IfSome o (IsPending h issue) → ⊥
nothing_pending h issue None some none is = false≢true some
nothing_pending h issue (Some l) some none is = let has = subst (λ (x : List Parcel). Contains x is.parcel) none is.has in absurd (omega (arith, has.1))

pub no_told : NoTold
no_told a old new all none not_looked still_ steps pending issue told is it there = by (it.agent == 0) refl
  where
    phase : old.phase ≡ looked
    phase = is.to_be_told.idle.has_looked.phase

    waits_now : is_waiting it.phase ≡ true
    waits_now =
        let has = is.to_be_told.has in
        let same : has.it ≡ it = same_some (sym has.there ∙ there) in
        subst (λ (x : Issue). is_waiting x.phase ≡ true) same has.waits

    free : (beat : ℕ) (parcel : Parcel) → old.phase ≡ holds beat parcel → ⊥
    free beat parcel h = let f : looked ≡ holds beat parcel = sym phase ∙ h in cc

    of_filter : (it.agent == 0) ≡ false → it.agent ≢ 0
    of_filter e z = let t : (it.agent == 0) ≡ true = eq-eqb it.agent 0 z in false≢true (sym e ∙ t)

    none_of_filter : it.agent ≢ 0 → ⊥
    none_of_filter ne =
        let waiting : IsWaiting old.engine.history.seen issue it = record { there = there; waits = waits_now; of_filter = ne } in
        let put = steps_all_put a old (λ e. absurd (not_looked e)) steps phase issue it waiting in
        let going : IsGoing old.phase = subst IsGoing (sym phase) tt in
        let found = (steps_look a old not_looked steps phase).none in
        elim ((steps_wait a old all none still_ steps).each going issue put) [
          | inl hand ↦ free hand.beat hand.parcel hand.is
          | inr has ↦ nothing_pending old.engine.history issue old.site.link.pending pending found has
        ]

    by : (b : Bool) → (it.agent == 0) ≡ b → it.agent ≡ 0
    by true e = eqb-true it.agent 0 e
    by false e = absurd (none_of_filter (of_filter e))

-- ---- pending parcels stay told

link_same : (old new : SiteView) → new.link ≡ old.link → IsSome old.link.pending → IsSome new.link.pending
link_same old new e is = some_same old.link.pending new.link.pending (ap (λ (l : LinkView). l.pending) e) is

site_same : (old new : SiteView) → new ≡ old → IsSome old.link.pending → IsSome new.link.pending
site_same old new e is = link_same old new (ap (λ (s : SiteView). s.link) e) is

tried_told : (IsNext : Record → Type 0) (old new : World) → Tries IsNext old new → IsSome old.site.link.pending → IsSome new.site.link.pending
tried_told IsNext old new (done is) told = link_same old.site new.site is.appends.adds.offers.file.rest.link told
tried_told IsNext old new (failed is) told = link_same old.site new.site is.refuses.0.0.file.rest.link told
tried_told IsNext old new (limited what is) told = site_same old.site new.site is.refuses.0.2 told

step_told : (old new : World) → Step old new → IsSome old.site.link.pending → IsSome new.site.link.pending
step_told old new (opens_clock answer is) told = some_more old.site.link.pending new.site.link.pending _ is.goes.reaches.pending.1 told
step_told old new (finds_run_used agent is) told = site_same old.site new.site is.only.site told
step_told old new (asks_clock moment answer is) told = some_more old.site.link.pending new.site.link.pending _ is.goes.reaches.pending.1 told
step_told old new (finds_late moment is) told = site_same old.site new.site is.only.site told
step_told old new (begins is) told = tried_told _ old new is.tries told
step_told old new (moves is) told = tried_told _ old new is.tries told
step_told old new (upgrades issue word is) told = tried_told _ old new is.tries told
step_told old new (tells issue word is) told = tried_told _ old new is.tries told
step_told old new (expires issue is) told = tried_told _ old new is.tries told
step_told old new (says bytes is) told = some_same old.site.link.pending new.site.link.pending is.speaks.only.pending told
step_told old new (fails_to_say bytes is) told = some_same old.site.link.pending new.site.link.pending is.speaks.only.pending told
step_told old new (puts_first issue is) told = some_more old.site.link.pending new.site.link.pending _ is.puts.sends.put.pending.1 told
step_told old new (resends issue is) told = some_more old.site.link.pending new.site.link.pending _ is.puts.sends.put.pending.1 told
step_told old new (takes parcel is) told = some_lost old.site.link.pending new.site.link.pending parcel is.some.pending told
step_told old new (finds_none is) told = some_same old.site.link.pending new.site.link.pending is.none.pending told
step_told old new (fails_to_take is) told = link_same old.site new.site is.link told
step_told old new (drops beat parcel is) told = site_same old.site new.site is.site told
step_told old new (replies beat parcel is) told = tried_told _ old new is.tries told
step_told old new (ignores_reply beat parcel is) told = site_same old.site new.site is.site told
step_told old new (acts_on beat parcel v w is) told =
    some_more is.acts.between.link.pending new.site.link.pending _ is.acts.puts.pending.1 (link_same old.site is.acts.between is.acts.offers.adds.file.rest.link told)
step_told old new (repeats_reply beat parcel v w is) told = some_more old.site.link.pending new.site.link.pending _ is.repeats.puts.pending.1 told
step_told old new (fails_to_act beat parcel v w error cause is) told = link_same old.site new.site (fails_said v parcel old.site.clock.now old.site new.site error is.refuses.site) told
step_told old new (wants_memory_now is) told = site_same old.site new.site is.only.site told

steps_told : (a b : World) → Steps a b → IsSome a.site.link.pending → IsSome b.site.link.pending
steps_told a b nothing told = told
steps_told a b (and_then {mid} steps step) told = step_told mid b step (steps_told a mid steps told)

-- ---- which step tells

-- an operator told of nothing by this record
abbrev IsNoTold : Record → Type 0
IsNoTold (entry.Told issue moment status text) = ⊥
IsNoTold other = ⊤

-- the step tells by this record
record ToldBy (old new : World) (r : Record) : Type 0 where
  pub issue : ℕ
  pub told : OperatorAnswer
  pub tells : Tells issue told old new
  pub is : r ≡ entry.Told issue old.site.clock.now told.status told.text

-- what a step appended, if it appended this
AppendsSo : World → World → Record → Type 0
AppendsSo old new r = IsNoTold r ⊎ ToldBy old new r

too_long : (a b : List Record) (r : Record) (P : Type 0) → b ≡ a → b ≡ a ++ r ∷ [] → P
too_long a b r P same more = let long = ap (λ (l : List Record). length l) (sym same ∙ more) in absurd (omega (arith, long, length-append a (r ∷ [])))

none_more : (old new : World) (r : Record) → new.engine ≡ old.engine → new.engine.history.records ≡ old.engine.history.records ++ r ∷ [] → AppendsSo old new r
none_more old new r e more = too_long old.engine.history.records new.engine.history.records r _ (ap (λ (v : EngineView). v.history.records) e) more

tried_so : (IsNext : Record → Type 0) (old new : World) (r : Record) → ((next : Record) → IsNext next → AppendsSo old new next) → Tries IsNext old new
    → new.engine.history.records ≡ old.engine.history.records ++ r ∷ [] → AppendsSo old new r
unfolding AppendsSo
tried_so IsNext old new r so (done is) more =
    let comes = is.appends.adds.offers.comes in
    let same = same_last old.engine.history.records old.engine.history.records comes.next r (sym (ap (λ (h : HistoryView). h.records) is.appends.adds.view) ∙ more) in
    subst (λ (x : Record). AppendsSo old new x) same.1 (so comes.next comes.is)
tried_so IsNext old new r so (failed is) more = too_long old.engine.history.records new.engine.history.records r _ (ap (λ (h : HistoryView). h.records) is.refuses.0.1) more
tried_so IsNext old new r so (limited what is) more = too_long old.engine.history.records new.engine.history.records r _ (ap (λ (h : HistoryView). h.records) is.refuses.0.1) more

move_tells_not : (seen : Shown) (now : ℕ) (m : Move) (next : Record) → record_of seen now m ≡ Some next → IsNoTold next
move_tells_not seen now (move.Walk t) next e = subst IsNoTold (same_some e) tt
move_tells_not seen now (move.Send t) next e = of_option _ _ IsNoTold next (λ x. tt) e
move_tells_not seen now (move.Ask t) next e = of_option _ _ IsNoTold next (λ x. tt) e
move_tells_not seen now move.Upgrade next e = subst IsNoTold (same_some e) tt

step_so : (old new : World) (r : Record) → Step old new → new.engine.history.records ≡ old.engine.history.records ++ r ∷ [] → AppendsSo old new r
unfolding AppendsSo
step_so old new r (opens_clock answer is) more = none_more old new r is.goes.sides.engine more
step_so old new r (finds_run_used agent is) more = none_more old new r is.only.sides.engine more
step_so old new r (asks_clock moment answer is) more = none_more old new r is.goes.sides.engine more
step_so old new r (finds_late moment is) more = none_more old new r is.only.sides.engine more
step_so old new r (begins is) more = tried_so _ old new r (λ next i. inl (subst IsNoTold (sym i.is) tt)) is.tries more
step_so old new r (moves is) more = tried_so _ old new r (λ next i. inl (move_tells_not old.engine.history.seen old.site.clock.now i.move next i.is)) is.tries more
step_so old new r (upgrades issue told is) more = tried_so _ old new r (λ next i. inl (subst IsNoTold (sym i) tt)) is.tries more
step_so old new r (tells issue told is) more = tried_so _ old new r (λ next i. inr (record { issue = issue; told = told; tells = is; is = i })) is.tries more
step_so old new r (expires issue is) more = tried_so _ old new r (λ next i. inl (subst IsNoTold (sym i) tt)) is.tries more
step_so old new r (says bytes is) more = none_more old new r is.speaks.sides.engine more
step_so old new r (fails_to_say bytes is) more = none_more old new r is.speaks.sides.engine more
step_so old new r (puts_first issue is) more = too_long old.engine.history.records new.engine.history.records r _ (ap (λ (v : EngineView). v.history.records) is.puts.sends.view) more
step_so old new r (resends issue is) more = too_long old.engine.history.records new.engine.history.records r _ (ap (λ (v : EngineView). v.history.records) is.puts.sends.view) more
step_so old new r (takes parcel is) more = none_more old new r is.sides.engine more
step_so old new r (finds_none is) more = none_more old new r is.sides.engine more
step_so old new r (fails_to_take is) more = none_more old new r is.sides.engine more
step_so old new r (drops beat parcel is) more = none_more old new r is.ignores.engine more
step_so old new r (replies beat parcel is) more = tried_so _ old new r (λ next i. inl (subst IsNoTold (sym i.is) tt)) is.tries more
step_so old new r (ignores_reply beat parcel is) more = none_more old new r is.ignores.engine more
step_so old new r (acts_on beat parcel v w is) more = none_more old new r is.engine more
step_so old new r (repeats_reply beat parcel v w is) more = none_more old new r is.ignores.engine more
step_so old new r (fails_to_act beat parcel v w error cause is) more = none_more old new r is.engine more
step_so old new r (wants_memory_now is) more = none_more old new r is.only.sides.engine more

-- ---- the same of a record that may stand after a fault

none_unsure : (old new : World) (r : Record) → new.notes.unsure ≡ old.notes.unsure → old.notes.unsure ≡ None → new.notes.unsure ≡ Some r → AppendsSo old new r
none_unsure old new r same none has = absurd (none-some r (sym none ∙ sym same ∙ has))

tried_unsure : (IsNext : Record → Type 0) (old new : World) (r : Record) → ((next : Record) → IsNext next → AppendsSo old new next) → Tries IsNext old new
    → old.notes.unsure ≡ None → new.notes.unsure ≡ Some r → AppendsSo old new r
unfolding AppendsSo
tried_unsure IsNext old new r so (done is) none has = none_unsure old new r (ap (λ (n : Notes). n.unsure) is.notes) none has
tried_unsure IsNext old new r so (failed is) none has =
    let comes = is.refuses.0.0.comes in
    subst (λ (x : Record). AppendsSo old new x) (same_some (sym (ap (λ (n : Notes). n.unsure) is.notes) ∙ has)) (so comes.next comes.is)
tried_unsure IsNext old new r so (limited what is) none has = none_unsure old new r (ap (λ (n : Notes). n.unsure) is.notes) none has

step_unsure_so : (old new : World) (r : Record) → Step old new → old.notes.unsure ≡ None → new.notes.unsure ≡ Some r → AppendsSo old new r
unfolding AppendsSo
step_unsure_so old new r (opens_clock answer is) none has = none_unsure old new r (ap (λ (n : Notes). n.unsure) is.goes.notes) none has
step_unsure_so old new r (finds_run_used agent is) none has = none_unsure old new r (ap (λ (n : Notes). n.unsure) is.only.notes) none has
step_unsure_so old new r (asks_clock moment answer is) none has = none_unsure old new r (ap (λ (n : Notes). n.unsure) is.goes.notes) none has
step_unsure_so old new r (finds_late moment is) none has = none_unsure old new r (ap (λ (n : Notes). n.unsure) is.only.notes) none has
step_unsure_so old new r (begins is) none has = tried_unsure _ old new r (λ next i. inl (subst IsNoTold (sym i.is) tt)) is.tries none has
step_unsure_so old new r (moves is) none has = tried_unsure _ old new r (λ next i. inl (move_tells_not old.engine.history.seen old.site.clock.now i.move next i.is)) is.tries none has
step_unsure_so old new r (upgrades issue told is) none has = tried_unsure _ old new r (λ next i. inl (subst IsNoTold (sym i) tt)) is.tries none has
step_unsure_so old new r (tells issue told is) none has = tried_unsure _ old new r (λ next i. inr (record { issue = issue; told = told; tells = is; is = i })) is.tries none has
step_unsure_so old new r (expires issue is) none has = tried_unsure _ old new r (λ next i. inl (subst IsNoTold (sym i) tt)) is.tries none has
step_unsure_so old new r (says bytes is) none has = none_unsure old new r (ap (λ (n : Notes). n.unsure) is.speaks.notes) none has
step_unsure_so old new r (fails_to_say bytes is) none has = none_unsure old new r (ap (λ (n : Notes). n.unsure) is.speaks.notes) none has
step_unsure_so old new r (puts_first issue is) none has = none_unsure old new r (ap (λ (n : Notes). n.unsure) is.puts.notes) none has
step_unsure_so old new r (resends issue is) none has = none_unsure old new r (ap (λ (n : Notes). n.unsure) is.puts.notes) none has
step_unsure_so old new r (takes parcel is) none has = none_unsure old new r (ap (λ (n : Notes). n.unsure) is.notes) none has
step_unsure_so old new r (finds_none is) none has = none_unsure old new r (ap (λ (n : Notes). n.unsure) is.notes) none has
step_unsure_so old new r (fails_to_take is) none has = none_unsure old new r (ap (λ (n : Notes). n.unsure) is.notes) none has
step_unsure_so old new r (drops beat parcel is) none has = none_unsure old new r (ap (λ (n : Notes). n.unsure) is.ignores.notes) none has
step_unsure_so old new r (replies beat parcel is) none has = tried_unsure _ old new r (λ next i. inl (subst IsNoTold (sym i.is) tt)) is.tries none has
step_unsure_so old new r (ignores_reply beat parcel is) none has = none_unsure old new r (ap (λ (n : Notes). n.unsure) is.ignores.notes) none has
step_unsure_so old new r (acts_on beat parcel v w is) none has = none_unsure old new r (ap (λ (n : Notes). n.unsure) is.notes) none has
step_unsure_so old new r (repeats_reply beat parcel v w is) none has = none_unsure old new r (ap (λ (n : Notes). n.unsure) is.ignores.notes) none has
step_unsure_so old new r (fails_to_act beat parcel v w error cause is) none has = none_unsure old new r (ap (λ (n : Notes). n.unsure) (fails_notes error parcel v old new is.notes)) none has
step_unsure_so old new r (wants_memory_now is) none has = none_unsure old new r (ap (λ (n : Notes). n.unsure) is.only.notes) none has

-- ---- what is told of is a question

-- an issue of no filter was asked
asked_of : (n : ℕ) (it : Issue) → it.agent ≡ 0 → record_of_issue n it ≡ entry.Ask it.task n it.moment it.bytes
asked_of n it e = ap (λ (b : Bool). cond b (entry.Ask it.task n it.moment it.bytes) (entry.Send it.task n it.agent it.moment it.bytes)) (eq-eqb it.agent 0 e)

-- what was asked was sent to no filter
is_question : (h : HistoryView) (task n moment : ℕ) (text : List ℕ) → IsHistory h → Contains h.records (entry.Ask task n moment text) → IsQuestion h.records n
is_question h task n moment text history asked = record {
  task = task;
  moment = moment;
  text = text;
  asked = asked;
  not_sent = λ agent bytes sent.
      let same = one_record h n (entry.Ask task n moment text) (entry.Send sent.task n agent sent.moment bytes) history asked sent.has refl refl in
      absurd (ask_or_send sent.task agent sent.moment bytes same);
}
  where
    ask_or_send : (t a u : ℕ) (y : List ℕ) → entry.Ask task n moment text ≡ entry.Send t n a u y → ⊥
    ask_or_send t a u y e = cc

-- what a step told of was asked before, so it stands among the records later
told_of : (a old new b : World) (r : Record) → HasAllFilters a → a.engine.puts ≡ [] → a.phase ≢ looked → DidNotRise a.site.counts.mishaps old.site.counts.mishaps → IsSome a.site.link.pending
    → Steps a old → Steps old b → IsHistory b.engine.history → ToldBy old new r → IsNoToldOfFilter b.engine.history.records r
told_of a old new b r all none not_looked still_ told before after_ history by =
    let has = by.tells.to_be_told.has in
    let up = by.tells.to_be_told.idle.has_looked.up in
    let zero_of : has.it.agent ≡ 0 = no_told a old new all none not_looked still_ before (steps_told a old before told) by.issue by.told by.tells has.it has.there in
    let own = issue_issued old.engine.history by.issue has.it up.has_file.engine.history has.there in
    let asked : Contains old.engine.history.records (entry.Ask has.it.task by.issue has.it.moment has.it.bytes) =
    subst (λ (x : Record). Contains old.engine.history.records x) (asked_of by.issue has.it zero_of) own in
    let adds = steps_add old b after_ in
    let later : Contains b.engine.history.records (entry.Ask has.it.task by.issue has.it.moment has.it.bytes) =
    subst (λ (l : List Record). Contains l (entry.Ask has.it.task by.issue has.it.moment has.it.bytes)) (sym adds.is) (Contains-append_left old.engine.history.records adds.added _ asked) in
    subst (λ (x : Record). IsNoToldOfFilter b.engine.history.records x) (sym by.is)
    (is_question b.engine.history has.it.task by.issue has.it.moment has.it.bytes history later)

-- any other record is no Told
told_not : (records : List Record) (r : Record) → IsNoTold r → IsNoToldOfFilter records r
told_not records (entry.Told issue moment status text) is = absurd is
told_not records (entry.Begin run moment books bind) is = tt
told_not records (entry.Walk task moment) is = tt
told_not records (entry.Send task issue agent moment bytes) is = tt
told_not records (entry.Reply issue moment status rule text) is = tt
told_not records (entry.Expire issue moment) is = tt
told_not records (entry.Upgrade version moment) is = tt
told_not records (entry.Ask task issue moment bytes) is = tt

not_looked : (p : Phase) → p ≡ opened → p ≢ looked
not_looked p e f = let g : opened ≡ looked = sym e ∙ f in absurd (cc)

before_all : (a b c : World) → Steps a b → Steps b c → Steps a c
before_all a b c one nothing = one
before_all a b c one (and_then {mid} two step) = and_then (before_all a b mid one two) step

pub no_told_of_filters : NoToldOfFilters
unfolding AppendsSo
no_told_of_filters a b given run most answers is all told still_ steps = record {
  added = λ front back r split.
      let came = steps_came a b steps front back r split in
      elim (step_so came.old came.new r came.step came.has) [
        | inl other ↦ told_not b.engine.history.records r other
        | inr by ↦
            let first = (steps_put_or_lose a came.old came.before).later in
            let one = (steps_put_or_lose came.old came.new (and_then nothing came.step)).later in
            let last = (steps_put_or_lose came.new b came.after).later in
            let same : came.old.site.counts.mishaps ≡ a.site.counts.mishaps = omega (arith, first, one, last, still_.0) in
            told_of a came.old came.new b r all is.no_puts (not_looked a.phase is.phase) (same, still_.1) told came.before
            (before_all came.old came.new b (and_then nothing came.step) came.after) history by
      ];
  unsure = by_unsure b.notes.unsure refl;
}
  where
    history : IsHistory b.engine.history
    history = (steps_ready a b (journal_stands a (record { whole = is.whole; sure = ap (λ (n : Notes). n.unsure) is.notes })) steps).engine.history

    by_unsure : (o : Option Record) → b.notes.unsure ≡ o → IfSome o (IsNoToldOfFilter b.engine.history.records)
    by_unsure None e = tt
    by_unsure (Some r) e =
        let last = steps_unsure a b r (ap (λ (n : Notes). n.unsure) is.notes) steps e in
        let first = (steps_put_or_lose a last.old last.before).later in
        let one = (steps_put_or_lose last.old b (and_then nothing last.step)).later in
        let same : last.old.site.counts.mishaps ≡ a.site.counts.mishaps = omega (arith, first, one, still_.0) in
        elim (step_unsure_so last.old b r last.step last.was last.has) [
          | inl other ↦ told_not b.engine.history.records r other
          | inr by ↦ told_of a last.old b b r all is.no_puts (not_looked a.phase is.phase) (same, still_.1) told last.before (and_then nothing last.step) history by
        ]
