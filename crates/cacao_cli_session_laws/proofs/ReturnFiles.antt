-- What the engine's file reads as where texts are accepted, and what it tells of a status.
use Rattle.std.proofs.Common.{◌≡◌, ◌⊎◌, inl, inr, ◌∙◌, sym, ap, subst, ℕ, ◌≤◌, [], ◌∷◌, Bool, true, false, Option, Some, None}
use Rattle.cacao_check.specs.Fits.{FitsKind}
use Rattle.cacao_site.specs.View.{SiteView}
use Rattle.flow_core.specs.Setups.{AreAccepted}
use Rattle.flow_core.specs.declared.flow_errors.LimitKind.TheVariants as limit
use Rattle.flow_core_rules.specs.Accepted.{Accepted}
use Rattle.flow_core_rules.specs.Changes.{outcome}
use Rattle.flow_core_rules.specs.Givens.{Given}
use Rattle.flow_core_rules.specs.State.{Shown}
use Rattle.flow_engine_history.specs.Laws.{HoldsRun}
use Rattle.flow_engine_history.specs.Openings.{RefusesImage}
use Rattle.flow_engine_history.specs.declared.error.EngineError.TheVariants as refusal
use Rattle.flow_engine_history.proofs.RefusalLaws.{no_run_where_refused}
use Rattle.flow_world_laws.proofs.AcceptLemmas.{accepted-one}
use Rattle.flow_world_laws.specs.Returned.{ReadsAsRun}
use Rattle.flow_world_laws.specs.Undamaged.{IsDamagedFor}
use Rattle.flow_world_laws.proofs.Returning.{reads_as_one_run}
use Rattle.cacao_cli_ends.specs.Comes.{IsOneOf}
use Rattle.cacao_cli_session_laws.specs.Returning.{BeginsAnother, FileTells, FindsUsed, GainsRecords, HasDamagedFilter, ReadsAsAnother, ReadsAsDamaged, ReadsSo, ReadsTooLarge, ReturnsSo, StatusTells, TurnTells, or_any}
use Rattle.cacao_cli_ends.specs.Work.{Start}
use Rattle.cacao_cli_session_laws.proofs.ReturnedRuns.{not-another, reads-run}
use Rattle.cacao_cli_session_laws.proofs.ReturnTells.{behind-faults, besides}

-- what the files besides the run tell of the status
pub record FileRest (start : Start) (mid : SiteView) (answer : ℕ) : Type 0 where
  pub another : ReadsAsAnother start mid → IsOneOf answer (12 ∷ or_any [])
  pub damaged : ReadsAsDamaged start mid → IsOneOf answer (13 ∷ or_any [])
  pub too_large : ReadsTooLarge start mid → IsOneOf answer (11 ∷ or_any [])
  pub filter_damaged : HasDamagedFilter start mid
      → IsOneOf answer (13 ∷ or_any []) ⊎ (((answer ≡ 11) × ReadsTooLarge start mid) ⊎ ((answer ≡ 12) × ReadsAsAnother start mid))
  pub used : FindsUsed start mid → IsOneOf answer (12 ∷ or_any (13 ∷ []))

module _ (start : Start) (mid : SiteView) (given : Given) (accepted : Accepted AreAccepted FitsKind start.books start.bind given) where
  same-given : (other : Given) → Accepted AreAccepted FitsKind start.books start.bind other → other ≡ given
  same-given other is = accepted-one start.books start.bind other given is accepted

  pub begins-as : ReadsAsAnother start mid → BeginsAnother given start.run (mid.disk.reads 0)
  begins-as a = subst (λ (g : Given). BeginsAnother g start.run (mid.disk.reads 0)) (same-given a.given a.accepted) a.begins

  pub reads-as : (how : Option Bool) (r : ReadsSo start how mid) → ReadsAsRun given start.run mid r.seen
  reads-as how r = subst (λ (g : Given). ReadsAsRun g start.run mid r.seen) (same-given r.given r.accepted) r.reads

  outcome-as : (seen : Shown) (end how : Option Bool) → ReadsAsRun given start.run mid seen → outcome seen.lists ≡ end → ReadsSo start how mid → end ≡ how
  outcome-as seen end how reads is r = sym is ∙ ap (λ (s : Shown). outcome s.lists) (reads_as_one_run given start.run mid seen r.seen reads (reads-as how r)) ∙ r.outcome_is

  abbrev pub so-read : (seen : Shown) (end : Option Bool) → ReadsAsRun given start.run mid seen → outcome seen.lists ≡ end → ReadsSo start end mid
  so-read seen end reads is = record { given = given; accepted = accepted; seen = seen; reads = reads; outcome_is = is }

  pub damaged-as : (d : ReadsAsDamaged start mid) → RefusesImage given start.run (mid.disk.reads 0) (refusal.Damaged d.place)
  damaged-as d = subst (λ (g : Given). IsDamagedFor g start.run (mid.disk.reads 0) d.place) (same-given d.given d.accepted) d.damaged

  pub large-as : (l : ReadsTooLarge start mid) → RefusesImage given start.run (mid.disk.reads 0) (refusal.Limit limit.Tasks)
  large-as l = subst (λ (g : Given). RefusesImage g start.run (mid.disk.reads 0) (refusal.Limit limit.Tasks)) (same-given l.given l.accepted) l.large

  -- where file 0 holds the run
  pub rest-of-run : (answer : ℕ) → HoldsRun given start.run (mid.disk.reads 0) → (HasDamagedFilter start mid → IsOneOf answer (13 ∷ or_any [])) → (FindsUsed start mid → IsOneOf answer (12 ∷ or_any (13 ∷ [])))
      → FileRest start mid answer
  rest-of-run answer holds filter used = record {
    another = λ a. absurd (not-another given start.run mid holds.seen (reads-run given start.run mid holds) (begins-as a));
    damaged = λ d. absurd (no_run_where_refused given start.run (mid.disk.reads 0) (refusal.Damaged d.place) (damaged-as d) holds);
    too_large = λ l. absurd (no_run_where_refused given start.run (mid.disk.reads 0) (refusal.Limit limit.Tasks) (large-as l) holds);
    filter_damaged = λ d. inl (filter d);
    used = used;
  }

module _ (start : Start) (old mid : SiteView) (given : Given) (accepted : Accepted AreAccepted FitsKind start.books start.bind given) (some : 1 ≤ start.most) where
  -- the file, where it is known how its run stands
  pub file-of : (seen : Shown) (end : Option Bool) (answer : ℕ) → ReadsAsRun given start.run mid seen → outcome seen.lists ≡ end
      → (end ≡ Some true → answer ≡ 0) → (end ≡ Some false → answer ≡ 6) → (end ≡ None → IsOneOf answer (7 ∷ 12 ∷ 15 ∷ 16 ∷ or_any besides))
      → (end ≡ None → 1 ≤ start.most → GainsRecords start.most old mid → IsOneOf answer (7 ∷ or_any [])) → FileRest start mid answer → FileTells start old mid answer
  file-of seen end answer reads is well failed goes_on pauses rest = record {
    well = λ r. inl (well (outcome-as start mid given accepted seen end (Some true) reads is r));
    failed = λ r. inl (failed (outcome-as start mid given accepted seen end (Some false) reads is r));
    goes_on = λ r. goes_on (outcome-as start mid given accepted seen end None reads is r);
    pauses = λ p. pauses (outcome-as start mid given accepted seen end None reads is p.0) some p.1;
    another = rest.another;
    damaged = rest.damaged;
    too_large = rest.too_large;
    filter_damaged = rest.filter_damaged;
    used = rest.used;
  }

  pub going-file : (seen : Shown) (answer : ℕ) → ReadsAsRun given start.run mid seen → outcome seen.lists ≡ None → IsOneOf answer (7 ∷ 12 ∷ 15 ∷ 16 ∷ or_any besides)
      → (1 ≤ start.most → GainsRecords start.most old mid → IsOneOf answer (7 ∷ or_any [])) → FileRest start mid answer → FileTells start old mid answer
  going-file seen answer reads out one pauses rest =
      file-of seen None answer reads out (λ e. absurd (cc)) (λ e. absurd (cc)) (λ e. one) (λ e. pauses) rest

module _ (start : Start) (old mid : SiteView) (some : 1 ≤ start.most) where
  -- a status that may come whatever the run does
  pub returns-besides : (answer : ℕ) → TurnTells start old mid answer → StatusTells start old mid answer → IsOneOf answer besides → (1 ≤ start.most → GainsRecords start.most old mid → ⊥) → FileRest start mid answer → ReturnsSo start old mid answer
  returns-besides answer turns tells one unspent rest = record {
    of_turn = turns;
    of_status = tells;
    of_file = record {
      well = λ r. inr (behind-faults answer besides one);
      failed = λ r. inr (behind-faults answer besides one);
      goes_on = λ r. inr (inr (inr (inr (behind-faults answer besides one))));
      pauses = λ p. absurd (unspent some p.1);
      another = rest.another;
      damaged = rest.damaged;
      too_large = rest.too_large;
      filter_damaged = rest.filter_damaged;
      used = rest.used;
    };
  }
