-- The journal's images, whatever happens.
use Rattle.std.proofs.Common.{◌≡◌, inl, inr, ℕ, true, false, List, refl, sym, ◌∙◌, subst, ap, IsTrue, arith}
use Rattle.std.specs.Prelude.{Option, Some, None}
use Rattle.cacao_site.specs.DiskCalls.{AllLeft, GoesOn, KeepsDisk, StaysAt}
use Rattle.cacao_site.specs.View.{SiteView}
use Rattle.cacao_site.specs.declared.parcel.Parcel.{Parcel}
use Rattle.cacao_site.proofs.Beats.{each-now, goes_on-refl, goes_on-trans, stays-trans}
use Rattle.run_journal.specs.Durable.{IsImage}
use Rattle.run_records.specs.declared.record.Record.{Record}
use Rattle.flow_engine.specs.HistoryView.{HistoryView, entries_of}
use Rattle.flow_engine.specs.Histories.{IsHistory}
use Rattle.flow_engine.specs.EngineView.{EngineView}
use Rattle.flow_engine.specs.OpenIssues.{ArePut, OpenIssues}
use Rattle.slpf_actuator.specs.ActuatorCalls.{MayHaveDone}
use Rattle.slpf_actuator.specs.ActuatorView.{ActuatorView}
use Rattle.slpf_actuator.specs.declared.error.ActError.{ActError}
use Rattle.slpf_actuator.specs.declared.error.ActError.TheVariants as act_error
use Rattle.flow_world_steps.specs.Appends.{Tries}
use Rattle.flow_world_steps.specs.Appends.Tries.{done, failed, limited}
use Rattle.flow_world_steps.specs.Ready.{EachReady, JournalStands}
use Rattle.flow_world_steps.specs.Sides.{HoldsWithUnsure, IsEngine}
use Rattle.flow_world_steps.specs.Steps.{ActsOn, FailsToAct, PutsCommand, Step}
use Rattle.flow_world_steps.specs.Steps.Step.{opens_clock, finds_run_used, asks_clock, finds_late, begins, moves, upgrades, tells, expires, says, fails_to_say}
use Rattle.flow_world_steps.specs.Steps.Step.{puts_first, resends, takes, finds_none, fails_to_take, drops, replies, ignores_reply, acts_on, repeats_reply, fails_to_act, wants_memory_now}
use Rattle.flow_world_steps.specs.Steps.Steps.{nothing, and_then}
use Rattle.flow_world_steps.specs.Worlds.{Cause, Notes, World}
use Rattle.flow_world_steps.proofs.Failing.{fails_notes}

-- what each image of a file has stays where the file stays
pub all_stays : (P : List ℕ → Type 0) (file : ℕ) (old new : SiteView) → GoesOn old.disk new.disk → StaysAt old.disk new.disk file → AllLeft file old.disk P → AllLeft file new.disk P
all_stays P file old new on stays all told image left = all (subst IsTrue on.told told) image (subst IsTrue (stays.images new.disk.beat image on.later (omega arith)) left)

pub engine_stays : (v : EngineView) (old new : SiteView) → GoesOn old.disk new.disk → StaysAt old.disk new.disk 0 → IsEngine v old → IsEngine v new
engine_stays v old new on stays is = record {
  ready = λ whole. all_stays _ 0 old new on stays (is.ready whole);
  history = is.history;
  put = is.put;
}

-- the journal stays
pub stays : (old new : World) → GoesOn old.site.disk new.site.disk → StaysAt old.site.disk new.site.disk 0 → new.engine ≡ old.engine → new.notes.unsure ≡ old.notes.unsure → JournalStands old → JournalStands new
stays old new on zero same unsure is = record {
  engine = subst (λ (v : EngineView). IsEngine v new.site) (sym same) (engine_stays old.engine old.site new.site on zero is.engine);
  holds = subst (λ (v : EngineView). AllLeft 0 new.site.disk (HoldsWithUnsure v.history.records new.notes.unsure)) (sym same)
      (subst (λ (o : Option Record). AllLeft 0 new.site.disk (HoldsWithUnsure old.engine.history.records o)) (sym unsure)
      (all_stays _ 0 old.site new.site on zero is.holds));
  sure = λ whole. unsure ∙ is.sure (sym (ap (λ (v : EngineView). v.history.broken) same) ∙ whole);
}

keeps : (old new : World) → KeepsDisk old.site.disk new.site.disk → new.engine ≡ old.engine → new.notes.unsure ≡ old.notes.unsure → JournalStands old → JournalStands new
keeps old new disk = stays old new disk.goes_on (disk.stays 0)

unsure_of : (old new : World) → new.notes ≡ old.notes → new.notes.unsure ≡ old.notes.unsure
unsure_of old new e = ap (λ (n : Notes). n.unsure) e

pub stays_same : (old new : SiteView) (file : ℕ) → new ≡ old → StaysAt old.disk new.disk file
stays_same old new file e = subst (λ (s : SiteView). StaysAt old.disk s.disk file) (sym e)
    (record { reads = refl; images = λ beat image from to. ap (λ (n : ℕ). old.disk.left file n image) (omega (arith, from, to)) })

at_site : (old new : World) → new.site ≡ old.site → new.engine ≡ old.engine → new.notes.unsure ≡ old.notes.unsure → JournalStands old → JournalStands new
at_site old new e = stays old new (subst (λ (s : SiteView). GoesOn old.site.disk s.disk) (sym e) (goes_on-refl old.site.disk)) (stays_same old.site new.site 0 e)

-- the images of an engine whose file holds its records
holds_now : (w : World) → IsEngine w.engine w.site → w.engine.history.broken ≡ false → w.notes.unsure ≡ None → JournalStands w
holds_now w is whole sure = record {
  engine = is;
  holds = subst (λ (o : Option Record). AllLeft 0 w.site.disk (HoldsWithUnsure w.engine.history.records o)) (sym sure) (λ told image left. (is.ready whole told image left).0);
  sure = λ e. sure;
}

abbrev IsImageOf : HistoryView → List ℕ → Type 0
IsImageOf h = IsImage h.prepared (entries_of h.records)

tried : (IsNext : Record → Type 0) (old new : World) → Tries IsNext old new → JournalStands old → JournalStands new
tried IsNext old new (done is) was =
    let whole : new.engine.history.broken ≡ false = ap (λ (h : HistoryView). h.broken) is.appends.adds.view in
    holds_now new is.engine whole (ap (λ (n : Notes). n.unsure) is.notes ∙ was.sure is.appends.adds.offers.whole)
tried IsNext old new (failed is) was =
    let offers = is.refuses.0.0 in
    let next = offers.comes.next in
    let records : new.engine.history.records ≡ old.engine.history.records = ap (λ (h : HistoryView). h.records) is.refuses.0.1 in
    let unsure : new.notes.unsure ≡ Some next = ap (λ (n : Notes). n.unsure) is.notes in
    let broken : new.engine.history.broken ≡ true = ap (λ (h : HistoryView). h.broken) is.refuses.0.1 in
    record {
      engine = is.engine;
      holds = subst (λ (l : List Record). AllLeft 0 new.site.disk (HoldsWithUnsure l new.notes.unsure)) (sym records)
          (subst (λ (o : Option Record). AllLeft 0 new.site.disk (HoldsWithUnsure old.engine.history.records o)) (sym unsure)
          (λ told image left. each-now offers.file.each (subst IsTrue offers.file.each.goes_on.told told) image left));
      sure = λ whole. absurd (both broken whole);
    }
  where
    both : new.engine.history.broken ≡ true → new.engine.history.broken ≡ false → ⊥
    both e f = let g : true ≡ false = sym e ∙ f in cc
tried IsNext old new (limited what is) was =
    let same : new.engine.history ≡ old.engine.history = is.refuses.0.1 in
    record {
      engine = record {
        ready = λ whole. subst (λ (h : HistoryView). AllLeft 0 new.site.disk (IsImageOf h)) (sym same) (subst (λ (s : SiteView). AllLeft 0 s.disk (IsImageOf old.engine.history)) (sym is.refuses.0.2)
            (was.engine.ready (sym (ap (λ (h : HistoryView). h.broken) same) ∙ whole)));
        history = subst IsHistory (sym same) was.engine.history;
        put = subst (λ (h : HistoryView). ArePut h.seen new.engine.puts) (sym same) (subst (λ (o : OpenIssues). ArePut old.engine.history.seen o) (sym is.refuses.1) was.engine.put);
      };
      holds = subst (λ (h : HistoryView). AllLeft 0 new.site.disk (HoldsWithUnsure h.records new.notes.unsure)) (sym same)
          (subst (λ (n : Notes). AllLeft 0 new.site.disk (HoldsWithUnsure old.engine.history.records n.unsure)) (sym is.notes)
          (subst (λ (s : SiteView). AllLeft 0 s.disk (HoldsWithUnsure old.engine.history.records old.notes.unsure)) (sym is.refuses.0.2) was.holds));
      sure = λ whole. unsure_of old new is.notes ∙ was.sure (sym (ap (λ (h : HistoryView). h.broken) same) ∙ whole);
    }

-- a command was put: the disk stays, and so do the records
put : (old new : World) (issue : ℕ) → PutsCommand issue old new → JournalStands old → JournalStands new
put old new issue is was =
    let whole : new.engine.history.broken ≡ false = ap (λ (v : EngineView). v.history.broken) is.sends.view ∙ is.sends.whole in
    holds_now new is.engine whole (ap (λ (n : Notes). n.unsure) is.notes ∙ was.sure is.sends.whole)

-- a filter's file alone may have changed
acted : (old new : World) (beat : ℕ) (parcel : Parcel) (v w : ActuatorView) → ActsOn beat parcel v w old new → JournalStands old → JournalStands new
acted old new beat parcel v w is =
    let file = is.acts.offers.adds.file in
    let disk = is.acts.puts.disk.disk in
    stays old new (goes_on-trans file.each.goes_on disk.goes_on)
    (stays-trans file.each.goes_on disk.goes_on (file.others 0 (λ e. absurd (omega (arith, e, is.holds_command.filter.ready.low)))) (disk.stays 0))
    is.engine (ap (λ (n : Notes). n.unsure) is.notes)

failed_act : (old new : World) (beat : ℕ) (parcel : Parcel) (v w : ActuatorView) (error : ActError) (cause : Cause) → FailsToAct beat parcel v w error cause old new → JournalStands old → JournalStands new
failed_act old new beat parcel v w error cause is was = by error is.refuses.site
  where
    unsure : new.notes.unsure ≡ old.notes.unsure
    unsure = ap (λ (n : Notes). n.unsure) (fails_notes error parcel v old new is.notes)

    by : (error : ActError) → MayHaveDone error v parcel old.site.clock.now old.site new.site → JournalStands new
    by act_error.Disk offers = stays old new offers.adds.file.each.goes_on (offers.adds.file.others 0 (λ e. absurd (omega (arith, e, is.holds_command.filter.ready.low)))) is.engine unsure was
    by act_error.Memory may = elim may [
      | inl e ↦ at_site old new e is.engine unsure was
      | inr offers ↦ stays old new offers.adds.file.each.goes_on (offers.adds.file.others 0 (λ e. absurd (omega (arith, e, is.holds_command.filter.ready.low)))) is.engine unsure was
    ]
    by (act_error.Damaged place) e = at_site old new e is.engine unsure was
    by (act_error.Full length) e = at_site old new e is.engine unsure was
    by act_error.Broken e = at_site old new e is.engine unsure was

pub step_ready : (old new : World) → JournalStands old → Step old new → JournalStands new
step_ready old new was (opens_clock answer is) = keeps old new is.goes.reaches.disk.disk is.goes.sides.engine (ap (λ (n : Notes). n.unsure) is.goes.notes) was
step_ready old new was (finds_run_used agent is) = at_site old new is.only.site is.only.sides.engine (ap (λ (n : Notes). n.unsure) is.only.notes) was
step_ready old new was (asks_clock moment answer is) = keeps old new is.goes.reaches.disk.disk is.goes.sides.engine (ap (λ (n : Notes). n.unsure) is.goes.notes) was
step_ready old new was (finds_late moment is) = at_site old new is.only.site is.only.sides.engine (ap (λ (n : Notes). n.unsure) is.only.notes) was
step_ready old new was (begins is) = tried _ old new is.tries was
step_ready old new was (moves is) = tried _ old new is.tries was
step_ready old new was (upgrades issue told is) = tried _ old new is.tries was
step_ready old new was (tells issue told is) = tried _ old new is.tries was
step_ready old new was (expires issue is) = tried _ old new is.tries was
step_ready old new was (says bytes is) = keeps old new is.speaks.only.disk is.speaks.sides.engine (ap (λ (n : Notes). n.unsure) is.speaks.notes) was
step_ready old new was (fails_to_say bytes is) = keeps old new is.speaks.only.disk is.speaks.sides.engine (ap (λ (n : Notes). n.unsure) is.speaks.notes) was
step_ready old new was (puts_first issue is) = put old new issue is.puts was
step_ready old new was (resends issue is) = put old new issue is.puts was
step_ready old new was (takes parcel is) = keeps old new is.only.disk.disk is.sides.engine (ap (λ (n : Notes). n.unsure) is.notes) was
step_ready old new was (finds_none is) = keeps old new is.only.disk.disk is.sides.engine (ap (λ (n : Notes). n.unsure) is.notes) was
step_ready old new was (fails_to_take is) = keeps old new is.only.disk.disk is.sides.engine (ap (λ (n : Notes). n.unsure) is.notes) was
step_ready old new was (drops beat parcel is) = at_site old new is.site is.ignores.engine (ap (λ (n : Notes). n.unsure) is.ignores.notes) was
step_ready old new was (replies beat parcel is) = tried _ old new is.tries was
step_ready old new was (ignores_reply beat parcel is) = at_site old new is.site is.ignores.engine (ap (λ (n : Notes). n.unsure) is.ignores.notes) was
step_ready old new was (acts_on beat parcel v w is) = acted old new beat parcel v w is was
step_ready old new was (repeats_reply beat parcel v w is) = keeps old new is.repeats.puts.disk.disk is.ignores.engine (ap (λ (n : Notes). n.unsure) is.ignores.notes) was
step_ready old new was (fails_to_act beat parcel v w error cause is) = failed_act old new beat parcel v w error cause is was
step_ready old new was (wants_memory_now is) = at_site old new is.only.site is.only.sides.engine (ap (λ (n : Notes). n.unsure) is.only.notes) was

pub steps_ready : EachReady
steps_ready a b is nothing = is
steps_ready a b is (and_then {mid} steps step) = step_ready mid b (steps_ready a mid is steps) step
