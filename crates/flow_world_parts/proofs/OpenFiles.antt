-- One file that is opened, and the list of the filters that are open.
use Rattle.std.proofs.Common.{◌≡◌, ◌≢◌, inl, inr, ℕ, false, List, [], ◌∷◌, ◌++◌, refl, ◌∙◌, subst, ap}
use Rattle.std.specs.Prelude.{◌↔◌, ◌<◌, length, Option, Some, None, IfOk, IsTrue, IsErrOf, MatchOption, Result, Ok, Err}
use Rattle.cacao_site.specs.Counts.{Rose}
use Rattle.cacao_site.specs.DiskCalls.{IsDurable}
use Rattle.cacao_site.specs.View.{SiteView}
use Rattle.slpf_actuator.specs.ActuatorView.{ActuatorView, HoldsActs}
use Rattle.slpf_actuator.specs.ActuatorView as filter
use Rattle.slpf_actuator.specs.Damage.{IsDamaged}
use Rattle.slpf_actuator.specs.declared.error.ActError.{ActError}
use Rattle.slpf_actuator.specs.declared.error.ActError.TheVariants as act_error
use Rattle.flow_world_steps.specs.HistoryView.{HoldsRecords}
use Rattle.flow_world_steps.specs.HistoryView as engine
use Rattle.flow_world_steps.specs.Histories.{IsHistory}
use Rattle.flow_world_steps.specs.Openings.{IsRefusedOpening}
use Rattle.flow_world_steps.specs.EngineError.{EngineError}
use Rattle.flow_world_steps.specs.EngineError.TheVariants as engine_error
use Rattle.flow_world_steps.specs.EngineView.{EngineView}
use Rattle.flow_world_steps.specs.OpenIssues.{ArePut}
use Rattle.flow_core_rules.specs.Givens.{Given}
use Rattle.flow_world_parts.specs.Clock.{FallsShort, IsReached}
use Rattle.flow_world_parts.specs.Errors.{MayRefuseFile, file_refusal, opening_refusal}
use Rattle.flow_world_parts.specs.Openings.{IsJournalOpen, OpensFile, OpensNext, RefusesFile, RefusesFilters, RefusesOpening}
use Rattle.flow_world_parts.specs.declared.error.WorldError.{WorldError}

-- why a filter's file may not open
pub may_refuse_file : {T : Type 0} (r : Result T ActError) (error : ActError) → r ≡ Err error
    → ((needed : ℕ) → (r ≢ Err act_error.Broken) × (r ≢ Err (act_error.Full needed))) → MayRefuseFile error
may_refuse_file r act_error.Disk is no_other = tt
may_refuse_file r (act_error.Damaged place) is no_other = tt
may_refuse_file r act_error.Memory is no_other = tt
may_refuse_file r (act_error.Full needed) is no_other = absurd ((no_other needed).1 is)
may_refuse_file r act_error.Broken is no_other = absurd ((no_other 0).0 is)

pub file_refuses : {T : Type 0} (agent : ℕ) (old new : SiteView) (r : Result T ActError) (error : ActError) → r ≡ Err error → OpensFile agent old new
    → ((place : ℕ) → IsErrOf r (act_error.Damaged place) → IsDurable agent new.disk)
    → ((place : ℕ) → IsErrOf r (act_error.Damaged place) → IsTrue old.disk.told → IsDamaged (new.disk.reads agent) place)
    → (IsErrOf r act_error.Disk → Rose old.disk.faults new.disk.faults)
    → (r ≢ Err act_error.Disk → new.disk.faults ≡ old.disk.faults)
    → (r ≢ Err act_error.Disk → new.disk.reads agent ≡ old.disk.reads agent)
    → ((needed : ℕ) → (r ≢ Err act_error.Broken) × (r ≢ Err (act_error.Full needed))) → RefusesFile (file_refusal agent error) agent old new
file_refuses agent old new r act_error.Disk is opens durable damaged disk steady reads no_other = record { opens = opens; why = disk is; steady = λ other. absurd (other refl); reads = λ other. absurd (other refl) }
file_refuses agent old new r (act_error.Damaged place) is opens durable damaged disk steady reads no_other =
    record { opens = opens; why = (refl, durable place is, damaged place is); steady = λ other. steady (λ e. cc); reads = λ other. reads (λ e. cc) }
file_refuses agent old new r act_error.Memory is opens durable damaged disk steady reads no_other = record { opens = opens; why = tt; steady = λ other. steady (λ e. cc); reads = λ other. reads (λ e. cc) }
file_refuses agent old new r (act_error.Full needed) is opens durable damaged disk steady reads no_other = absurd ((no_other needed).1 is)
file_refuses agent old new r act_error.Broken is opens durable damaged disk steady reads no_other = absurd ((no_other 0).0 is)

told_then : (agent : ℕ) (old new : SiteView) → OpensFile agent old new → IsTrue new.disk.told → IsTrue old.disk.told
told_then agent old new opens told = subst IsTrue opens.only.each.goes_on.told told

pub next_opens : (agent : ℕ) (old new : SiteView) (v : ActuatorView) (fs gs : List ActuatorView) → OpensFile agent old new → new.disk.faults ≡ old.disk.faults → new.disk.reads agent ≡ old.disk.reads agent → filter.IsReady v new → IsDurable agent new.disk
    → (IsTrue old.disk.told → HoldsActs v.acts (new.disk.reads agent))
    → (IsTrue old.disk.told → IsTrue v.prepared ↔ (9 < length (new.disk.reads agent))) → v.agent ≡ agent → v.broken ≡ false → gs ≡ fs ++ v ∷ [] → OpensNext agent old new fs gs
next_opens agent old new v fs gs opens steady reads ready durable stands prepared of_agent whole more = record {
  opens = opens;
  steady = steady;
  reads = reads;
  v = v;
  is_open = record {
    filter = record { ready = ready; whole = whole; of_agent = of_agent };
    durable = durable;
    stands = λ told. stands (told_then agent old new opens told);
    prepared = λ told. prepared (told_then agent old new opens told);
  };
  more = more;
}

-- ---- the journal

pub journal_open : (given : Given) (run : ℕ) (old new : SiteView) (v : EngineView) → OpensFile 0 old new → new.disk.faults ≡ old.disk.faults → new.disk.reads 0 ≡ old.disk.reads 0 → engine.IsReady v.history new → IsHistory v.history
    → ArePut v.history.seen v.puts → v.history.broken ≡ false → v.history.seen.given ≡ given → v.history.seen.run ≡ run → v.puts ≡ [] → IsDurable 0 new.disk
    → (IsTrue old.disk.told → HoldsRecords v.history.records (new.disk.reads 0))
    → (IsTrue old.disk.told → IsTrue v.history.prepared ↔ (9 < length (new.disk.reads 0))) → IsJournalOpen given run old new v
journal_open given run old new v opens steady reads ready history put whole given_is of_run no_puts durable stands prepared = record {
  opens = opens;
  steady = steady;
  reads = reads;
  whole = record { engine = record { ready = ready; history = history; put = put }; whole = whole };
  given_is = given_is;
  of_run = of_run;
  no_puts = no_puts;
  durable = durable;
  stands = stands;
  prepared = prepared;
}

pub journal_refused : (given : Given) (run : ℕ) (old new : SiteView) (error : WorldError) (why : EngineError) → OpensFile 0 old new → IsRefusedOpening given run why old new
    → error ≡ opening_refusal why → (why ≢ engine_error.Disk → new.disk.faults ≡ old.disk.faults) → (why ≢ engine_error.Disk → new.disk.reads 0 ≡ old.disk.reads 0) → RefusesOpening error given run old new
journal_refused given run old new error why opens refused_so is steady reads =
    inl (record {
      opens = opens;
      why = why;
      refused = refused_so;
      is = is;
      steady = λ other. steady (λ e. other (is ∙ ap opening_refusal e));
      reads = λ other. reads (λ e. other (is ∙ ap opening_refusal e));
    })

pub second_refused : (error : WorldError) (given : Given) (run : ℕ) (old mid new : SiteView) (v : EngineView) → IsJournalOpen given run old mid v → RefusesFilters error mid new
    → RefusesOpening error given run old new
second_refused error given run old mid new v journal refuses = inr (record { middle = mid; v = v; journal = journal; refuses = refuses })

-- ---- the clock

pub reached_is : (last moment : ℕ) (old new : SiteView) (r : Result (Option ℕ) WorldError) (o : Option ℕ) (now : ℕ) → last ≡ moment → r ≡ Ok o → o ≡ Some now
    → IfOk r (λ (n : Option ℕ). MatchOption n (FallsShort last old new) (λ (now : ℕ). IsReached last now old new)) → IsReached moment now old new
reached_is last moment old new r o now at is some told =
    subst (λ (m : ℕ). IsReached m now old new) at
    (subst (λ (x : Result (Option ℕ) WorldError). IfOk x (λ (n : Option ℕ). MatchOption n (FallsShort last old new) (λ (now : ℕ). IsReached last now old new)))
    (is ∙ ap (λ (x : Option ℕ). Ok x) some) told)

pub short_is : (last moment : ℕ) (old new : SiteView) (r : Result (Option ℕ) WorldError) (o : Option ℕ) → last ≡ moment → r ≡ Ok o → o ≡ None
    → IfOk r (λ (n : Option ℕ). MatchOption n (FallsShort last old new) (λ (now : ℕ). IsReached last now old new)) → FallsShort moment old new
short_is last moment old new r o at is none told =
    subst (λ (m : ℕ). FallsShort m old new) at
    (subst (λ (x : Result (Option ℕ) WorldError). IfOk x (λ (n : Option ℕ). MatchOption n (FallsShort last old new) (λ (now : ℕ). IsReached last now old new)))
    (is ∙ ap (λ (x : Option ℕ). Ok x) none) told)
