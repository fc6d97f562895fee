-- A session of the engine's end, from what followed once its journal was open.
use Rattle.std.proofs.Common.{◌≡◌, ◌≢◌, inl, inr, ℕ, ◌-◌, Bool, List, [], ◌∷◌, ◌++◌, length, refl, sym, ◌∙◌, subst, ap, arith}
use Rattle.std.specs.Prelude.{Option, Some, None, IsSome, IfErr, IfOk, Result, Ok, Err, slice_get}
use Rattle.std.proofs.lemmas.List.{append-nil}
use Rattle.std.proofs.lemmas.Option.{none-some}
use Rattle.cacao_site.specs.DiskCalls.{GoesOn}
use Rattle.cacao_site.specs.LinkCalls.{GainsAll, Keeps}
use Rattle.cacao_site.specs.Sound.{IsSound}
use Rattle.cacao_site.specs.View.{LinkView, SiteView}
use Rattle.cacao_site.specs.declared.parcel.Parcel.{Parcel}
use Rattle.cacao_site.proofs.Beats.{goes_on-trans}
use Rattle.flow_core_rules.specs.Givens.{Given}
use Rattle.flow_engine.specs.EngineView.{EngineView}
use Rattle.flow_engine_history.specs.Openings.{IsRefusedOpening}
use Rattle.flow_engine_history.specs.declared.error.EngineError.{EngineError}
use Rattle.flow_engine_history.specs.declared.error.EngineError.TheVariants as engine_error
use Rattle.flow_engine_answers.specs.declared.answers.OperatorAnswer.{OperatorAnswer}
use Rattle.slpf_actuator.specs.ActuatorView.{ActuatorView}
use Rattle.flow_world_steps.specs.Causes.{Shows}
use Rattle.flow_world_steps.specs.Sides.{FiltersReady}
use Rattle.flow_world_steps.specs.Steps.{Steps}
use Rattle.flow_world_steps.specs.Whole.{IsOpened, blank_notes}
use Rattle.flow_world_steps.specs.Worlds.{Cause, Notes, Phase, World, opened, refused, disk_failed, not_said, run_used, past, wants_memory}
use Rattle.flow_world_steps.proofs.Caused.{steps_cause}
use Rattle.flow_world_steps.proofs.Steady.{steps_steady}
use Rattle.flow_world_steps.proofs.Whole.{steps_add_up}
use Rattle.flow_world_parts.specs.Closes.{IsRefusal, refusal_of}
use Rattle.flow_world_parts.specs.Errors.{opening_refusal}
use Rattle.flow_world_parts.specs.Leads.{ClosesAt, EndedAt, IsNewTo, RefusesAt, at}
use Rattle.flow_world_parts.specs.Openings.{IsJournalOpen, OpensFile}
use Rattle.flow_world_parts.specs.declared.close.Close.{Close}
use Rattle.flow_world_parts.specs.declared.error.WorldError.{WorldError}
use Rattle.flow_world_parts.specs.declared.error.WorldError.TheVariants as error
use Rattle.flow_world.proofs.CloseLemmas.{closes_are_no_refusals}
use Rattle.flow_world_laws.proofs.Carried.{steps_keep_disk_on}
use Rattle.oc2_wire_laws.specs.Since.{EngineKeepsSince}
use Rattle.oc2_wire_steps.specs.Kept.{BeginsKept, IsToldStart, OpeningIsKept, StepsKeepEngine}
use Rattle.oc2_wire.specs.Errors.{IsOfEngine, wire_error}
use Rattle.oc2_wire.specs.Serving.{HasRefused, HasServed, RefusesFirst, Serves}
use Rattle.oc2_wire.specs.declared.error.WireError.{WireError}
use Rattle.oc2_wire.specs.declared.error.WireError.TheVariants as wire

same_some : {A : Type 0} {x y : A} → ◌≡◌ {A = Option A} (Some x) (Some y) → x ≡ y
same_some e = cc

-- ---- refusals

-- each refusal is one of the engine's end
pub of_engine : (why : WorldError) (refusal : WireError) → wire_error why ≡ Some refusal → IsOfEngine refusal
of_engine error.Disk refusal e = subst IsOfEngine (same_some e) tt
of_engine (error.Damaged file place) refusal e = subst IsOfEngine (same_some e) tt
of_engine (error.OtherRun held asked) refusal e = subst IsOfEngine (same_some e) tt
of_engine (error.OtherBook index) refusal e = subst IsOfEngine (same_some e) tt
of_engine (error.RunUsed agent) refusal e = absurd (none-some refusal e)
of_engine (error.Limit what) refusal e = subst IsOfEngine (same_some e) tt
of_engine error.Say refusal e = subst IsOfEngine (same_some e) tt
of_engine error.Memory refusal e = subst IsOfEngine (same_some e) tt

-- that of an opening has one
pub opening_some : (why : EngineError) (refusal : WorldError) → refusal ≡ opening_refusal why → IsSome (wire_error refusal)
opening_some why refusal is = subst (λ (x : WorldError). IsSome (wire_error x)) (sym is) (by why)
  where
    by : (why : EngineError) → IsSome (wire_error (opening_refusal why))
    by engine_error.Disk = refl
    by (engine_error.Damaged place) = refl
    by (engine_error.OtherRun held asked) = refl
    by (engine_error.OtherBook index) = refl
    by (engine_error.Limit what) = refl
    by engine_error.Memory = refl
    by engine_error.Broken = refl

-- the journal was not opened
pub refuses_first : (given : Given) (run : ℕ) (old new : SiteView) (why : EngineError) (told : WorldError) (refusal : WireError) → OpensFile 0 old new → IsRefusedOpening given run why old new
    → told ≡ opening_refusal why → (why ≢ engine_error.Disk → new.disk.faults ≡ old.disk.faults) → (why ≢ engine_error.Disk → new.disk.reads 0 ≡ old.disk.reads 0) → wire_error told ≡ Some refusal
    → RefusesFirst refusal given run old new
refuses_first given run old new why told refusal opens refused_so is steady reads e = record {
  why = told;
  journal = record {
    opens = opens;
    why = why;
    refused = refused_so;
    is = is;
    steady = λ other. steady (λ x. other (is ∙ ap opening_refusal x));
    reads = λ other. reads (λ x. other (is ∙ ap opening_refusal x));
  };
  is = e;
}

disk_is : (why : WorldError) (refusal : WireError) → wire_error why ≡ Some refusal → why ≡ error.Disk → refusal ≡ wire.Disk
disk_is why refusal e is = same_some (sym e ∙ ap wire_error is)

-- ---- no filter stands there

none_left : {A : Type 0} (xs : List A) → length xs ≡ 0 → xs ≡ []
none_left [] e = refl
none_left (x ∷ xs) e = absurd (omega (arith, e))

none_ready : (site : SiteView) → FiltersReady [] site
none_ready site = record { few = omega arith; each = λ k v there. absurd (none-some v there) }

-- where this is the list of those that stand
pub filters_none : (filters : List ActuatorView) (site : SiteView) → filters ≡ [] → FiltersReady filters site
filters_none filters site is = subst (λ (l : List ActuatorView). FiltersReady l site) (sym is) (none_ready site)

pub ended_alone : (result : Result Close WorldError) (site new : SiteView) (v : EngineView) (filters : List ActuatorView) (notes : Notes) → filters ≡ [] → EndedAt result new (at site v filters notes opened)
    → EndedAt result new (at site v [] notes opened)
ended_alone result site new v filters notes is ended = subst (λ (l : List ActuatorView). EndedAt result new (at site v l notes opened)) is ended

-- so none has acts of the run
none_used : (a w : World) (agent : ℕ) (cause : Cause) (lacks : Bool) → w.filters ≡ [] → Shows (refused cause lacks) a w → ◌≡◌ {A = WorldError} (error.RunUsed agent) (refusal_of cause) → ⊥
none_used a w agent disk_failed lacks none shows e = let f : error.RunUsed agent ≡ error.Disk = e in cc
none_used a w agent not_said lacks none shows e = let f : error.RunUsed agent ≡ error.Say = e in cc
none_used a w agent (run_used other) lacks none shows e = absurd (none-some shows.has.v (sym (ap (λ (l : List ActuatorView). slice_get l (other - 1)) none) ∙ shows.has.there))
none_used a w agent (past what) lacks none shows e = let f : error.RunUsed agent ≡ error.Limit what = e in cc
none_used a w agent wants_memory lacks none shows e = let f : error.RunUsed agent ≡ error.Memory = e in cc

some_unless : (why : WorldError) → ((agent : ℕ) → why ≡ error.RunUsed agent → ⊥) → IsSome (wire_error why)
some_unless error.Disk unused = refl
some_unless (error.Damaged file place) unused = refl
some_unless (error.OtherRun held asked) unused = refl
some_unless (error.OtherBook index) unused = refl
some_unless (error.RunUsed agent) unused = absurd (unused agent refl)
some_unless (error.Limit what) unused = refl
some_unless error.Say unused = refl
some_unless error.Memory unused = refl

-- ---- a session

pub new_to : (answers : List OperatorAnswer) (most : ℕ) → IsNewTo answers most (blank_notes most answers)
new_to answers most = record { answers_are = refl; left = refl; ignored = refl }

module _ (given : Given) (run most : ℕ) (answers : List OperatorAnswer) (old site new : SiteView) (v : EngineView) (journal : IsJournalOpen given run old site v) where
  abbrev start : World
  start = at site v [] (blank_notes most answers) opened

  begins : IsOpened start given run most answers
  begins = record {
    phase = refl;
    whole = journal.whole;
    given_is = journal.given_is;
    of_run = journal.of_run;
    no_puts = journal.no_puts;
    filters = none_ready site;
    notes = refl;
  }

  serves : (to : World) → Steps start to → to.site ≡ new → Serves given run most answers old new
  serves to steps is = record {
    start = start;
    journal = journal;
    alone = refl;
    begins = begins;
    to = to;
    to_is = is;
    steps = steps;
    sums = steps_add_up start to given run most answers begins steps;
    cause = steps_cause start to refl steps;
  }

  -- what was answered then
  pub served : (result : Result Close WorldError) (close : Close) → result ≡ Ok close → EndedAt result new start → HasServed close given run most answers old new
  unfolding serves
  served result close is ended = by (subst (λ (r : Result Close WorldError). EndedAt r new start) is ended)
    where
      by : ClosesAt close new start → HasServed close given run most answers old new
      by is = record { serves = serves is.to is.steps is.left_is; closes = is.closes }

  pub refuses : (result : Result Close WorldError) (why : WorldError) → result ≡ Err why → EndedAt result new start → (refusal : WireError) → wire_error why ≡ Some refusal
      → HasRefused refusal given run most answers old new
  unfolding serves
  refuses result why is ended refusal e = by (subst (λ (r : Result Close WorldError). EndedAt r new start) is ended)
    where
      by : RefusesAt why new start → HasRefused refusal given run most answers old new
      by is = inr (record { serves = serves is.to is.steps is.left_is; why = why; refuses = is.refuses; is = e })

  some_at : (why : WorldError) → RefusesAt why new start → IsSome (wire_error why)
  some_at why is = some_unless why (λ agent e.
      let cause = is.refuses.cause in
      let sums = steps_add_up start is.to given run most answers begins is.steps in
      let shows = subst (λ (p : Phase). Shows p start is.to) is.refuses.phase (steps_cause start is.to refl is.steps).shows in
      none_used start is.to agent cause is.refuses.lacks (none_left is.to.filters sums.grow.many) shows (sym e ∙ is.refuses.is))

  pub some_refusal : (result : Result Close WorldError) (why : WorldError) → result ≡ Err why → EndedAt result new start → IsSome (wire_error why)
  some_refusal result why is ended = some_at why (subst (λ (r : Result Close WorldError). EndedAt r new start) is ended)

-- ---- lists that stay

gains_none : {T : Type 0} (told : Option (List T)) → GainsAll told [] told
gains_none (Some list) = sym (append-nil list)
gains_none None = tt

pub keeps_same : {T : Type 0} (old new : Option (List T)) → new ≡ old → Keeps old new
keeps_same old new same = ([], subst (λ o. GainsAll old [] o) (sym same) (gains_none old))

-- ---- no end hides a fault of the disk

same_cause : (one other : Cause) (lacks lacked : Bool) → refused one lacks ≡ refused other lacked → one ≡ other
same_cause one other lacks lacked e = cc

module _ (given : Given) (run most : ℕ) (answers : List OperatorAnswer) (old new : SiteView) where
  serves_steady : (s : Serves given run most answers old new) → ((lacks : Bool) → s.to.phase ≢ refused disk_failed lacks) → new.disk.faults ≡ old.disk.faults
  serves_steady s other = ap (λ (x : SiteView). x.disk.faults) (sym s.to_is) ∙ steps_steady s.start s.to s.steps other ∙ s.journal.steady

  pub served_steady : (close : Close) → HasServed close given run most answers old new → new.disk.faults ≡ old.disk.faults
  served_steady close is =
      serves_steady is.serves (λ lacks e. closes_are_no_refusals is.serves.to close error.Disk is.closes (record { cause = disk_failed; lacks = lacks; phase = e; is = refl }))

  pub refused_steady : (refusal : WireError) → HasRefused refusal given run most answers old new → refusal ≢ wire.Disk → new.disk.faults ≡ old.disk.faults
  refused_steady refusal (inl first) other = first.journal.steady (λ e. other (disk_is first.why refusal first.is e))
  refused_steady refusal (inr later) other =
      serves_steady later.serves (λ lacks e.
      other (disk_is later.why refusal later.is (later.refuses.is ∙ ap refusal_of (same_cause later.refuses.cause disk_failed later.refuses.lacks lacks (sym later.refuses.phase ∙ e)))))

  -- ---- what the end promises

  pub serves_kept : StepsKeepEngine → BeginsKept → Serves given run most answers old new → IsSound old → IsToldStart old run → EngineKeepsSince old run new
  serves_kept steps begins_kept s sound told =
      let from = begins_kept old run s.start sound told (record { opens = s.journal.opens.only; phase = s.begins.phase; of_run = s.begins.of_run; alone = s.alone }) in
      subst (λ (x : SiteView). EngineKeepsSince old run x) s.to_is (steps old run s.start s.to from s.steps).kept

  pub refused_kept : StepsKeepEngine → BeginsKept → OpeningIsKept → (refusal : WireError) → HasRefused refusal given run most answers old new → IsSound old → IsToldStart old run
      → EngineKeepsSince old run new
  refused_kept steps begins_kept opening refusal (inl first) sound told = opening old new run sound told first.journal.opens.only
  refused_kept steps begins_kept opening refusal (inr later) sound told = serves_kept steps begins_kept later.serves sound told

  -- ---- whatever it answered

  pub each_steady : (result : Result Close WireError) → IfOk result (λ close. HasServed close given run most answers old new)
      → IfErr result (λ refusal. HasRefused refusal given run most answers old new) → result ≢ Err wire.Disk → new.disk.faults ≡ old.disk.faults
  each_steady (Ok close) served_so refused_so other = served_steady close served_so
  each_steady (Err refusal) served_so refused_so other = refused_steady refusal refused_so (λ e. other (ap (λ (x : WireError). Err x) e))

  pub each_kept : StepsKeepEngine → BeginsKept → OpeningIsKept → (result : Result Close WireError) → IfOk result (λ close. HasServed close given run most answers old new)
      → IfErr result (λ refusal. HasRefused refusal given run most answers old new) → IsSound old → IsToldStart old run → EngineKeepsSince old run new
  each_kept steps begins_kept opening (Ok close) served_so refused_so sound told = serves_kept steps begins_kept served_so.serves sound told
  each_kept steps begins_kept opening (Err refusal) served_so refused_so sound told = refused_kept steps begins_kept opening refusal refused_so sound told

  pub each_own : (result : Result Close WireError) → IfErr result (λ refusal. HasRefused refusal given run most answers old new) → IfErr result IsOfEngine
  each_own (Ok close) refused_so = tt
  each_own (Err refusal) (inl first) = of_engine first.why refusal first.is
  each_own (Err refusal) (inr later) = of_engine later.why refusal later.is

  serves_on : Serves given run most answers old new → GoesOn old.disk new.disk
  serves_on s = goes_on-trans s.journal.opens.only.each.goes_on (subst (λ (x : SiteView). GoesOn s.start.site.disk x.disk) s.to_is (steps_keep_disk_on s.start s.to s.steps))

  pub each_on : (result : Result Close WireError) → IfOk result (λ close. HasServed close given run most answers old new)
      → IfErr result (λ refusal. HasRefused refusal given run most answers old new) → GoesOn old.disk new.disk
  each_on (Ok close) served_so refused_so = serves_on served_so.serves
  each_on (Err refusal) served_so (inl first) = first.journal.opens.only.each.goes_on
  each_on (Err refusal) served_so (inr later) = serves_on later.serves

  -- ---- what it took and put

  took_from : (first : SiteView) → first.link ≡ old.link → (more : List (ℕ × Parcel)) → GainsAll first.link.taken more new.link.taken → Keeps old.link.taken new.link.taken
  took_from first same more gains = (more, subst (λ (l : LinkView). GainsAll l.taken more new.link.taken) same gains)

  put_from : (first : SiteView) → first.link ≡ old.link → (more : List (ℕ × Parcel)) → GainsAll first.link.puts more new.link.puts → Keeps old.link.puts new.link.puts
  put_from first same more gains = (more, subst (λ (l : LinkView). GainsAll l.puts more new.link.puts) same gains)

  serves_took : Serves given run most answers old new → Keeps old.link.taken new.link.taken
  serves_took s =
      let handled = s.sums.handles in
      took_from s.start.site s.journal.opens.only.rest.link (handled.handled ++ handled.at_hand)
      (subst (λ (x : SiteView). GainsAll s.start.site.link.taken (handled.handled ++ handled.at_hand) x.link.taken) s.to_is handled.takes)

  serves_put : Serves given run most answers old new → Keeps old.link.puts new.link.puts
  serves_put s =
      let noted = s.sums.noted in
      put_from s.start.site s.journal.opens.only.rest.link noted.put (subst (λ (x : SiteView). GainsAll s.start.site.link.puts noted.put x.link.puts) s.to_is noted.puts)

  pub each_took : (result : Result Close WireError) → IfOk result (λ close. HasServed close given run most answers old new)
      → IfErr result (λ refusal. HasRefused refusal given run most answers old new) → Keeps old.link.taken new.link.taken
  each_took (Ok close) served_so refused_so = serves_took served_so.serves
  each_took (Err refusal) served_so (inl first) = keeps_same old.link.taken new.link.taken (ap (λ (l : LinkView). l.taken) first.journal.opens.only.rest.link)
  each_took (Err refusal) served_so (inr later) = serves_took later.serves

  pub each_put : (result : Result Close WireError) → IfOk result (λ close. HasServed close given run most answers old new)
      → IfErr result (λ refusal. HasRefused refusal given run most answers old new) → Keeps old.link.puts new.link.puts
  each_put (Ok close) served_so refused_so = serves_put served_so.serves
  each_put (Err refusal) served_so (inl first) = keeps_same old.link.puts new.link.puts (ap (λ (l : LinkView). l.puts) first.journal.opens.only.rest.link)
  each_put (Err refusal) served_so (inr later) = serves_put later.serves
