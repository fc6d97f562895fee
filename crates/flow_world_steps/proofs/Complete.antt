-- What a session adds up to that lost no parcel.
use Rattle.std.proofs.Common.{◌≡◌, ◌≢◌, ◌⊎◌, inl, inr, ℕ, zero, suc, ◌<◌, List, [], ◌∷◌, ◌++◌, length, get_or, refl, sym, ◌∙◌, subst, ap, arith}
use Rattle.std.specs.Prelude.{Option, Some, None, IfSome, IsSome, Contains, slice_get}
use Rattle.std.proofs.lemmas.List.{length-append}
use Rattle.std.proofs.lemmas.Option.{none-some}
use Rattle.cacao_site.specs.Counts.{DidNotRise}
use Rattle.cacao_site.specs.View.{LinkView, SiteView}
use Rattle.cacao_check.proofs.LawLemmas.{sound_gives}
use Rattle.run_records.specs.declared.record.Record.{Record}
use Rattle.run_records.specs.declared.record.Record.TheVariants as entry
use Rattle.flow_core_rules.specs.Changes.{outcome}
use Rattle.flow_core_rules.specs.Laws.{HasEnd, HasRecords, ended_by}
use Rattle.flow_core_rules.specs.Moves.{record_of}
use Rattle.flow_core_rules.specs.Runnable.{IsRunnable}
use Rattle.flow_core_rules.specs.Sane.{IsAllOver, IsSane}
use Rattle.flow_core_rules.specs.State.{Shown}
use Rattle.flow_core_rules.specs.declared.issues.Issue.{Issue}
use Rattle.flow_core_rules.specs.declared.moves.Move.{Move}
use Rattle.flow_core_rules.specs.declared.moves.Move.TheVariants as move
use Rattle.flow_core_rules.proofs.CanEndLemmas.{ended_is_all_over}
use Rattle.flow_core_rules.proofs.IssueLemmas.{issues_have_records}
use Rattle.flow_core_rules.proofs.SaneRuns.{runs_are_sane}
use Rattle.flow_core_setup.proofs.SetupRunnable.{accepted_is_runnable}
use Rattle.flow_engine.specs.HistoryView.{HistoryView}
use Rattle.flow_engine.specs.Histories.{IsHistory, IsSoFar}
use Rattle.flow_engine.specs.EngineView.{EngineView}
use Rattle.flow_laws.proofs.Basics.{same_some}
use Rattle.flow_world_steps.specs.Appends.{Tries}
use Rattle.flow_world_steps.specs.Appends.Tries.{done, failed, limited}
use Rattle.flow_world_steps.specs.Complete.{EndsIssue, EachComplete, IsNoExpire}
use Rattle.flow_world_steps.specs.Steps.{Expires, Step, Steps}
use Rattle.flow_world_steps.specs.Steps.Step.{opens_clock, finds_run_used, asks_clock, finds_late, begins, moves, upgrades, tells, expires, says, fails_to_say}
use Rattle.flow_world_steps.specs.Steps.Step.{puts_first, resends, takes, finds_none, fails_to_take, drops, replies, ignores_reply, acts_on, repeats_reply, fails_to_act, wants_memory_now}
use Rattle.flow_world_steps.specs.Steps.Steps.{nothing, and_then}
use Rattle.flow_world_steps.specs.Worlds.{HasAllFilters, Notes, Phase, World, opened, looked}
use Rattle.flow_world_steps.proofs.Adding.{of_option}
use Rattle.flow_world_steps.proofs.Came.{same_last, steps_came}
use Rattle.flow_world_steps.proofs.Failing.{fails_notes}
use Rattle.flow_world_steps.proofs.Lost.{steps_put_or_lose}
use Rattle.flow_world_steps.proofs.Readiness.{steps_ready}
use Rattle.flow_world_steps.proofs.Sites.{some_lost, some_more, some_same}
use Rattle.flow_world_steps.proofs.Spoken.{fails_said}
use Rattle.flow_world_steps.proofs.Unsure.{steps_unsure}
use Rattle.flow_world_steps.proofs.Waiting.{no_expiry}

-- ---- pending parcels stay told

link_same : (old new : SiteView) → new.link ≡ old.link → IsSome old.link.pending → IsSome new.link.pending
link_same old new e is = some_same old.link.pending new.link.pending (ap (λ (l : LinkView). l.pending) e) is

site_same : (old new : SiteView) → new ≡ old → IsSome old.link.pending → IsSome new.link.pending
site_same old new e is = link_same old new (ap (λ (s : SiteView). s.link) e) is

tried_told : (IsNext : Record → Type 0) (old new : World) → Tries IsNext old new → IsSome old.site.link.pending → IsSome new.site.link.pending
tried_told IsNext old new (done is) told = link_same old.site new.site is.appends.adds.offers.file.rest.link told
tried_told IsNext old new (failed is) told = link_same old.site new.site is.refuses.0.0.file.rest.link told
tried_told IsNext old new (limited what is) told = site_same old.site new.site is.refuses.0.2 told

pub step_told : (old new : World) → Step old new → IsSome old.site.link.pending → IsSome new.site.link.pending
step_told old new (opens_clock answer is) told = some_more old.site.link.pending new.site.link.pending _ is.goes.reaches.pending.1 told
step_told old new (finds_run_used agent is) told = site_same old.site new.site is.only.site told
step_told old new (asks_clock moment answer is) told = some_more old.site.link.pending new.site.link.pending _ is.goes.reaches.pending.1 told
step_told old new (finds_late moment is) told = site_same old.site new.site is.only.site told
step_told old new (begins is) told = tried_told _ old new is.tries told
step_told old new (moves is) told = tried_told _ old new is.tries told
step_told old new (upgrades issue word is) told = tried_told _ old new is.tries told
step_told old new (tells issue word is) told = tried_told _ old new is.tries told
step_told old new (expires issue is) told = tried_told _ old new is.tries told
step_told old new (says bytes is) told = some_same old.site.link.pending new.site.link.pending is.speaks.only.pending told
step_told old new (fails_to_say bytes is) told = some_same old.site.link.pending new.site.link.pending is.speaks.only.pending told
step_told old new (puts_first issue is) told = some_more old.site.link.pending new.site.link.pending _ is.puts.sends.put.pending.1 told
step_told old new (resends issue is) told = some_more old.site.link.pending new.site.link.pending _ is.puts.sends.put.pending.1 told
step_told old new (takes parcel is) told = some_lost old.site.link.pending new.site.link.pending parcel is.some.pending told
step_told old new (finds_none is) told = some_same old.site.link.pending new.site.link.pending is.none.pending told
step_told old new (fails_to_take is) told = link_same old.site new.site is.link told
step_told old new (drops beat parcel is) told = site_same old.site new.site is.site told
step_told old new (replies beat parcel is) told = tried_told _ old new is.tries told
step_told old new (ignores_reply beat parcel is) told = site_same old.site new.site is.site told
step_told old new (acts_on beat parcel v w is) told =
    some_more is.acts.between.link.pending new.site.link.pending _ is.acts.puts.pending.1 (link_same old.site is.acts.between is.acts.offers.adds.file.rest.link told)
step_told old new (repeats_reply beat parcel v w is) told = some_more old.site.link.pending new.site.link.pending _ is.repeats.puts.pending.1 told
step_told old new (fails_to_act beat parcel v w error cause is) told = link_same old.site new.site (fails_said v parcel old.site.clock.now old.site new.site error is.refuses.site) told
step_told old new (wants_memory_now is) told = site_same old.site new.site is.only.site told

pub steps_told : (a b : World) → Steps a b → IsSome a.site.link.pending → IsSome b.site.link.pending
steps_told a b nothing told = told
steps_told a b (and_then {mid} steps step) told = step_told mid b step (steps_told a mid steps told)

-- ---- which step lets an issue expire

-- what a step appended, if it appended this
AppendsSo : World → World → Record → Type 0
AppendsSo old new r = IsNoExpire r ⊎ ((issue : ℕ) × Expires issue old new)

too_long : (a b : List Record) (r : Record) (P : Type 0) → b ≡ a → b ≡ a ++ r ∷ [] → P
too_long a b r P same more = let long = ap (λ (l : List Record). length l) (sym same ∙ more) in absurd (omega (arith, long, length-append a (r ∷ [])))

none_more : (old new : World) (r : Record) → new.engine ≡ old.engine → new.engine.history.records ≡ old.engine.history.records ++ r ∷ [] → AppendsSo old new r
none_more old new r e more = too_long old.engine.history.records new.engine.history.records r _ (ap (λ (v : EngineView). v.history.records) e) more

tried_so : (IsNext : Record → Type 0) (old new : World) (r : Record) → ((next : Record) → IsNext next → IsNoExpire next) → Tries IsNext old new
    → new.engine.history.records ≡ old.engine.history.records ++ r ∷ [] → AppendsSo old new r
unfolding AppendsSo
tried_so IsNext old new r no_expire (done is) more =
    let comes = is.appends.adds.offers.comes in
    let same = same_last old.engine.history.records old.engine.history.records comes.next r (sym (ap (λ (h : HistoryView). h.records) is.appends.adds.view) ∙ more) in
    inl (subst IsNoExpire same.1 (no_expire comes.next comes.is))
tried_so IsNext old new r no_expire (failed is) more = too_long old.engine.history.records new.engine.history.records r _ (ap (λ (h : HistoryView). h.records) is.refuses.0.1) more
tried_so IsNext old new r no_expire (limited what is) more = too_long old.engine.history.records new.engine.history.records r _ (ap (λ (h : HistoryView). h.records) is.refuses.0.1) more

move_no_expire : (seen : Shown) (now : ℕ) (m : Move) (next : Record) → record_of seen now m ≡ Some next → IsNoExpire next
move_no_expire seen now (move.Walk t) next e = subst IsNoExpire (same_some e) tt
move_no_expire seen now (move.Send t) next e = of_option _ _ IsNoExpire next (λ x. tt) e
move_no_expire seen now (move.Ask t) next e = of_option _ _ IsNoExpire next (λ x. tt) e
move_no_expire seen now move.Upgrade next e = subst IsNoExpire (same_some e) tt

step_so : (old new : World) (r : Record) → Step old new → new.engine.history.records ≡ old.engine.history.records ++ r ∷ [] → AppendsSo old new r
unfolding AppendsSo
step_so old new r (opens_clock answer is) more = none_more old new r is.goes.sides.engine more
step_so old new r (finds_run_used agent is) more = none_more old new r is.only.sides.engine more
step_so old new r (asks_clock moment answer is) more = none_more old new r is.goes.sides.engine more
step_so old new r (finds_late moment is) more = none_more old new r is.only.sides.engine more
step_so old new r (begins is) more = tried_so _ old new r (λ next i. subst IsNoExpire (sym i.is) tt) is.tries more
step_so old new r (moves is) more = tried_so _ old new r (λ next i. move_no_expire old.engine.history.seen old.site.clock.now i.move next i.is) is.tries more
step_so old new r (upgrades issue told is) more = tried_so _ old new r (λ next i. subst IsNoExpire (sym i) tt) is.tries more
step_so old new r (tells issue told is) more = tried_so _ old new r (λ next i. subst IsNoExpire (sym i) tt) is.tries more
step_so old new r (expires issue is) more = inr (issue, is)
step_so old new r (says bytes is) more = none_more old new r is.speaks.sides.engine more
step_so old new r (fails_to_say bytes is) more = none_more old new r is.speaks.sides.engine more
step_so old new r (puts_first issue is) more = too_long old.engine.history.records new.engine.history.records r _ (ap (λ (v : EngineView). v.history.records) is.puts.sends.view) more
step_so old new r (resends issue is) more = too_long old.engine.history.records new.engine.history.records r _ (ap (λ (v : EngineView). v.history.records) is.puts.sends.view) more
step_so old new r (takes parcel is) more = none_more old new r is.sides.engine more
step_so old new r (finds_none is) more = none_more old new r is.sides.engine more
step_so old new r (fails_to_take is) more = none_more old new r is.sides.engine more
step_so old new r (drops beat parcel is) more = none_more old new r is.ignores.engine more
step_so old new r (replies beat parcel is) more = tried_so _ old new r (λ next i. subst IsNoExpire (sym i.is) tt) is.tries more
step_so old new r (ignores_reply beat parcel is) more = none_more old new r is.ignores.engine more
step_so old new r (acts_on beat parcel v w is) more = none_more old new r is.engine more
step_so old new r (repeats_reply beat parcel v w is) more = none_more old new r is.ignores.engine more
step_so old new r (fails_to_act beat parcel v w error cause is) more = none_more old new r is.engine more
step_so old new r (wants_memory_now is) more = none_more old new r is.only.sides.engine more

-- ---- the same of a record that may stand after a fault

none_unsure : (old new : World) (r : Record) → new.notes.unsure ≡ old.notes.unsure → old.notes.unsure ≡ None → new.notes.unsure ≡ Some r → AppendsSo old new r
none_unsure old new r same none has = absurd (none-some r (sym none ∙ sym same ∙ has))

tried_unsure : (IsNext : Record → Type 0) (old new : World) (r : Record) → ((next : Record) → IsNext next → IsNoExpire next) → Tries IsNext old new
    → old.notes.unsure ≡ None → new.notes.unsure ≡ Some r → AppendsSo old new r
unfolding AppendsSo
tried_unsure IsNext old new r no_expire (done is) none has = none_unsure old new r (ap (λ (n : Notes). n.unsure) is.notes) none has
tried_unsure IsNext old new r no_expire (failed is) none has =
    let comes = is.refuses.0.0.comes in
    inl (subst IsNoExpire (same_some (sym (ap (λ (n : Notes). n.unsure) is.notes) ∙ has)) (no_expire comes.next comes.is))
tried_unsure IsNext old new r no_expire (limited what is) none has = none_unsure old new r (ap (λ (n : Notes). n.unsure) is.notes) none has

step_unsure_so : (old new : World) (r : Record) → Step old new → old.notes.unsure ≡ None → new.notes.unsure ≡ Some r → AppendsSo old new r
unfolding AppendsSo
step_unsure_so old new r (opens_clock answer is) none has = none_unsure old new r (ap (λ (n : Notes). n.unsure) is.goes.notes) none has
step_unsure_so old new r (finds_run_used agent is) none has = none_unsure old new r (ap (λ (n : Notes). n.unsure) is.only.notes) none has
step_unsure_so old new r (asks_clock moment answer is) none has = none_unsure old new r (ap (λ (n : Notes). n.unsure) is.goes.notes) none has
step_unsure_so old new r (finds_late moment is) none has = none_unsure old new r (ap (λ (n : Notes). n.unsure) is.only.notes) none has
step_unsure_so old new r (begins is) none has = tried_unsure _ old new r (λ next i. subst IsNoExpire (sym i.is) tt) is.tries none has
step_unsure_so old new r (moves is) none has = tried_unsure _ old new r (λ next i. move_no_expire old.engine.history.seen old.site.clock.now i.move next i.is) is.tries none has
step_unsure_so old new r (upgrades issue told is) none has = tried_unsure _ old new r (λ next i. subst IsNoExpire (sym i) tt) is.tries none has
step_unsure_so old new r (tells issue told is) none has = tried_unsure _ old new r (λ next i. subst IsNoExpire (sym i) tt) is.tries none has
step_unsure_so old new r (expires issue is) none has = inr (issue, is)
step_unsure_so old new r (says bytes is) none has = none_unsure old new r (ap (λ (n : Notes). n.unsure) is.speaks.notes) none has
step_unsure_so old new r (fails_to_say bytes is) none has = none_unsure old new r (ap (λ (n : Notes). n.unsure) is.speaks.notes) none has
step_unsure_so old new r (puts_first issue is) none has = none_unsure old new r (ap (λ (n : Notes). n.unsure) is.puts.notes) none has
step_unsure_so old new r (resends issue is) none has = none_unsure old new r (ap (λ (n : Notes). n.unsure) is.puts.notes) none has
step_unsure_so old new r (takes parcel is) none has = none_unsure old new r (ap (λ (n : Notes). n.unsure) is.notes) none has
step_unsure_so old new r (finds_none is) none has = none_unsure old new r (ap (λ (n : Notes). n.unsure) is.notes) none has
step_unsure_so old new r (fails_to_take is) none has = none_unsure old new r (ap (λ (n : Notes). n.unsure) is.notes) none has
step_unsure_so old new r (drops beat parcel is) none has = none_unsure old new r (ap (λ (n : Notes). n.unsure) is.ignores.notes) none has
step_unsure_so old new r (replies beat parcel is) none has = tried_unsure _ old new r (λ next i. subst IsNoExpire (sym i.is) tt) is.tries none has
step_unsure_so old new r (ignores_reply beat parcel is) none has = none_unsure old new r (ap (λ (n : Notes). n.unsure) is.ignores.notes) none has
step_unsure_so old new r (acts_on beat parcel v w is) none has = none_unsure old new r (ap (λ (n : Notes). n.unsure) is.notes) none has
step_unsure_so old new r (repeats_reply beat parcel v w is) none has = none_unsure old new r (ap (λ (n : Notes). n.unsure) is.ignores.notes) none has
step_unsure_so old new r (fails_to_act beat parcel v w error cause is) none has = none_unsure old new r (ap (λ (n : Notes). n.unsure) (fails_notes error parcel v old new is.notes)) none has
step_unsure_so old new r (wants_memory_now is) none has = none_unsure old new r (ap (λ (n : Notes). n.unsure) is.only.notes) none has

none_expires : (a b : World) → HasAllFilters a → a.phase ≡ opened → a.engine.puts ≡ [] → IsSome a.site.link.pending → DidNotRise a.site.counts.mishaps b.site.counts.mishaps → Steps a b
    → (front back : List Record) (r : Record) → b.engine.history.records ≡ (a.engine.history.records ++ front) ++ r ∷ back → IsNoExpire r
unfolding AppendsSo
none_expires a b all at none told still_ steps front back r is =
    let came = steps_came a b steps front back r is in
    elim (step_so came.old came.new r came.step came.has) [
      | inl so ↦ so
      | inr bad ↦
          let first = (steps_put_or_lose a came.old came.before).later in
          let one = (steps_put_or_lose came.old came.new (and_then nothing came.step)).later in
          let last = (steps_put_or_lose came.new b came.after).later in
          let same : came.old.site.counts.mishaps ≡ a.site.counts.mishaps = omega (arith, first, one, last, still_.0) in
          absurd (no_expiry a came.old came.new all none (not_looked a.phase at) (same, still_.1) came.before (steps_told a came.old came.before told) bad.0 bad.1)
    ]
  where
    not_looked : (p : Phase) → p ≡ opened → p ≢ looked
    not_looked p e f = let g : opened ≡ looked = sym e ∙ f in absurd (cc)

no_unsure_expiry : (a b : World) → HasAllFilters a → a.phase ≡ opened → a.engine.puts ≡ [] → IsSome a.site.link.pending → DidNotRise a.site.counts.mishaps b.site.counts.mishaps → Steps a b
    → a.notes.unsure ≡ None → IfSome b.notes.unsure IsNoExpire
unfolding AppendsSo
no_unsure_expiry a b all at none told still_ steps sure = by b.notes.unsure refl
  where
    not_looked : (p : Phase) → p ≡ opened → p ≢ looked
    not_looked p e f = let g : opened ≡ looked = sym e ∙ f in absurd (cc)

    by : (o : Option Record) → b.notes.unsure ≡ o → IfSome o IsNoExpire
    by None e = tt
    by (Some r) e =
        let last = steps_unsure a b r sure steps e in
        let first = (steps_put_or_lose a last.old last.before).later in
        let one = (steps_put_or_lose last.old b (and_then nothing last.step)).later in
        let same : last.old.site.counts.mishaps ≡ a.site.counts.mishaps = omega (arith, first, one, still_.0) in
        elim (step_unsure_so last.old b r last.step last.was last.has) [
          | inl so ↦ so
          | inr bad ↦ absurd (no_expiry a last.old b all none (not_looked a.phase at) (same, still_.1) last.before (steps_told a last.old last.before told) bad.0 bad.1)
        ]

-- ---- where a run has ended each issue has its end

-- the record that ended an issue is its Reply or what was told, unless it expired
end_of : (n : ℕ) (r : Record) → ended_by r ≡ Some n → IsNoExpire r → EndsIssue n r
end_of n (entry.Reply issue moment status rule text) e no_expire = same_some e
end_of n (entry.Told issue moment status text) e no_expire = same_some e
end_of n (entry.Expire issue moment) e no_expire = absurd no_expire
end_of n (entry.Begin run moment books bind) e no_expire = absurd (none-some n e)
end_of n (entry.Walk task moment) e no_expire = absurd (none-some n e)
end_of n (entry.Send task issue agent moment bytes) e no_expire = absurd (none-some n e)
end_of n (entry.Upgrade version moment) e no_expire = absurd (none-some n e)
end_of n (entry.Ask task issue moment bytes) e no_expire = absurd (none-some n e)

-- one of a list has others before and behind it
parts : (xs : List Record) (k : ℕ) (r : Record) → k < length xs → get_or xs k r ≡ r → (front : List Record) × (back : List Record) × (xs ≡ front ++ r ∷ back)
parts [] k r lt is = absurd (omega (arith, lt))
parts (x ∷ xs) zero r lt is = ([], xs, ap (λ (y : Record). y ∷ xs) is)
parts (x ∷ xs) (suc k) r lt is = let p = parts xs k r (omega (arith, lt)) is in (x ∷ p.0, p.1, ap (λ (l : List Record). x ∷ l) p.2)

contains_split : (xs : List Record) (r : Record) → Contains xs r → (front : List Record) × (back : List Record) × (xs ≡ front ++ r ∷ back)
contains_split xs r has = parts xs has.0 r has.1 has.2

-- the records of an issue that is shown, and that it doesn't wait once the run has ended
record IsOver (records : List Record) (n : ℕ) (it : Issue) : Type 0 where
  pub has : HasRecords records n it
  pub over : HasEnd records n it.phase

is_over : (h : HistoryView) (n : ℕ) (it : Issue) → IsHistory h → IsSome (outcome h.seen.lists) → slice_get h.seen.lists.issues n ≡ Some it → IsOver h.records n it
is_over h n it history ended there = by h.records history.so_far
  where
    runnable : IsRunnable h.seen.given
    runnable = accepted_is_runnable sound_gives h.seen.given.texts h.seen.given.bind h.seen.given history.accepted

    by : (rs : List Record) → IsSoFar rs h.seen → IsOver rs n it
    by [] is = absurd (none-some it (sym (ap (λ (s : Shown). slice_get s.lists.issues n) is) ∙ there))
    by (r ∷ rs) is =
        let has = issues_have_records h.seen.given h.seen.run (r ∷ rs) is.state n it runnable is.leads (sym (ap (λ (s : Shown). slice_get s.lists.issues n) is.is) ∙ there) in
        let over : IsAllOver h.seen = ended_is_all_over h.seen (subst IsSane (sym is.is) (runs_are_sane h.seen.given h.seen.run (r ∷ rs) is.state runnable is.leads)) ended in
        record { has = has; over = has.ended (over.issues n it there) }

pub steps_complete : EachComplete
steps_complete a b all at none stands told still_ steps = record {
  none_expires = none_expires a b all at none told still_ steps;
  none_unsure = no_unsure_expiry a b all at none told still_ steps;
  has_end = λ empty ended n it there.
      let is = is_over b.engine.history n it (steps_ready a b stands steps).engine.history ended there in
      record {
        issued = is.has.issued;
        last = is.over.last;
        among = is.over.among;
        ends = end_of n is.over.last is.over.issue_is (no_expire empty is.over.last is.over.among);
      };
}
  where
    no_expire : a.engine.history.records ≡ [] → (r : Record) → Contains b.engine.history.records r → IsNoExpire r
    no_expire empty r has =
        let parts = contains_split b.engine.history.records r has in
        none_expires a b all at none told still_ steps parts.0 parts.1 r (parts.2 ∙ ap (λ (l : List Record). (l ++ parts.0) ++ r ∷ parts.1) (sym empty))
