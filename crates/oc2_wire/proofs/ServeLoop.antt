-- The loop of a call of the filters' end.
use Rattle.std.proofs.Common.{◌≡◌, ◌≢◌, inl, inr, ℕ, ◌+◌, ◌*◌, ◌≤◌, Bool, true, false, List, [], ◌∷◌, ◌++◌, length, refl, ◌∙◌, subst, ap, IsTrue, arith, length-append}
use Rattle.std.specs.Prelude.{Some, None, IsSome, Result, Ok, Err}
use Rattle.std.proofs.lemmas.Option.{slice_get_cases}
use Rattle.cacao_site.specs.Counts.{Rose}
use Rattle.cacao_site.specs.Sound.{IsSound}
use Rattle.cacao_site.specs.declared.parcel.Parcel.{Parcel}
use Rattle.slpf_actuator.specs.ActuatorView.{ActuatorView, act_for}
use Rattle.flow_world_parts.specs.Openings.{OpensFilters, RefusesFilters}
use Rattle.flow_world_parts.specs.declared.error.WorldError.{WorldError}
use Rattle.flow_world_parts.specs.declared.error.WorldError.TheVariants as world
use Rattle.oc2_wire_laws.specs.Ends.{IsFiltersStart}
use Rattle.oc2_wire_site.specs.Wires.{WireView}
use Rattle.oc2_wire_site.specs.declared.link_state.LinkState.TheVariants as state
use Rattle.oc2_wire.specs.Answering.{ReadsNoLine, TellsLink, found_by}
use Rattle.oc2_wire.specs.FilterTurns.{AnsweredAs, Ended, GoesOnWith, KeptTo, Serving, counted, most_in_file}
use Rattle.oc2_wire.specs.Turns.{TookAs, opening_error}
use Rattle.oc2_wire.specs.declared.error.WireError.{WireError}
use Rattle.oc2_wire.specs.declared.error.WireError.TheVariants as error
use Rattle.oc2_wire.specs.declared.tally.Tally.{Tally}
use Rattle.oc2_wire.proofs.ActCounts.{acts_few}
use Rattle.oc2_wire.proofs.AnswerKept.{kept_first, kept_opened, kept_refused}
use Rattle.oc2_wire.proofs.LinkTold.{tells_none}
use Rattle.oc2_wire.proofs.ServeSteps.{serving_begins}
use Rattle.oc2_wire.proofs.ServeEnds.{ends_answer, ends_err, ends_ok, goes_on_acted, goes_on_again, serving_next}

-- ---- the loop

pub begins_with : (old now : WireView) (fs : List ActuatorView) → IsSound old.site → IsSome old.site.link.puts → IsSome old.site.link.taken → OpensFilters 16 old.site now.site fs → ReadsNoLine old now
    → old.lines.state ≡ state.Whole → GoesOnWith old now fs (record { acted = 0; repeated = 0 })
begins_with old now fs sound puts taken opens reads whole = record {
  opened = now.site;
  acts = [];
  serving = serving_begins old now fs opens reads (ap found_by whole) (λ told start. kept_opened old.site old.site now.site fs sound opens (kept_first old.site told puts taken start));
  many = refl;
  calm = omega arith;
}

pub refused_first : (old now : WireView) (why : WorldError) → IsSound old.site → IsSome old.site.link.puts → IsSome old.site.link.taken → RefusesFilters why old.site now.site → ReadsNoLine old now
    → now.lines.state ≡ state.Whole → old.asking ≡ false → Ended (Err (opening_error why)) old now
refused_first old now why sound puts taken refuses reads whole is = by why refuses
  where
    keeps_all : (w : WorldError) → RefusesFilters w old.site now.site → IsTrue old.site.disk.told → IsFiltersStart old.site → KeptTo old.site now.site
    keeps_all w refuses told start = kept_refused old.site old.site now.site w sound refuses (kept_first old.site told puts taken start)

    passed_still : old.lines.passed ≤ now.lines.passed
    passed_still = let same = reads.passed in omega (arith, same)

    told : (r : Result ℕ WireError) → TellsLink r now
    told r = tells_none r now whole

    still : (w : WorldError) → w ≢ world.Disk → RefusesFilters w old.site now.site → now.site.disk.faults ≡ old.site.disk.faults
    still w ne refuses = refuses.refuses.steady ne ∙ refuses.before.steady

    by : (w : WorldError) → RefusesFilters w old.site now.site → Ended (Err (opening_error w)) old now
    by world.Disk refuses =
        let rose : Rose old.site.disk.faults now.site.disk.faults = subst (λ (n : ℕ). Rose n now.site.disk.faults) refuses.before.steady refuses.refuses.why in
        record {
          served = inl (record { refuses = refuses; reads_none = reads });
          keeps = λ told start. (keeps_all world.Disk refuses told start).kept;
          disk = λ e. rose;
          steady = λ ne. absurd (ne refl);
          answering = reads.asking ∙ is;
          lines = passed_still;
          link = λ ne. told (Err error.Disk);
        }
    by (world.Damaged file place) refuses =
        let steady = still (world.Damaged file place) (λ e. cc) refuses in
        record {
          served = record { refuses = refuses; reads_none = reads };
          keeps = λ told start. (keeps_all (world.Damaged file place) refuses told start).kept;
          disk = λ e. absurd (cc);
          steady = λ ne. steady;
          answering = reads.asking ∙ is;
          lines = passed_still;
          link = λ ne. told (Err (error.Damaged file place));
        }
    by world.Memory refuses =
        let steady = still world.Memory (λ e. cc) refuses in
        record {
          served = inl (record { refuses = refuses; reads_none = reads });
          keeps = λ told start. (keeps_all world.Memory refuses told start).kept;
          disk = λ e. absurd (cc);
          steady = λ ne. steady;
          answering = reads.asking ∙ is;
          lines = passed_still;
          link = λ ne. told (Err error.Memory);
        }
    by (world.OtherRun held asked) refuses = absurd refuses.refuses.why
    by (world.OtherBook index) refuses = absurd refuses.refuses.why
    by (world.RunUsed agent) refuses = absurd refuses.refuses.why
    by (world.Limit what) refuses = absurd refuses.refuses.why
    by world.Say refuses = absurd refuses.refuses.why

module _ (old w : WireView) (fs : List ActuatorView) (tally : Tally) (s : GoesOnWith old w fs tally) where
  -- the counts are small
  pub few_acts : length s.acts ≤ 16 * most_in_file
  few_acts = acts_few most_in_file s.acts s.serving.agents (λ k lt. elim (slice_get_cases fs k).1 [
    | inl is ↦ (s.serving.short k is.0 is.2).few
    | inr past ↦ let many = s.serving.serves.many in absurd (omega (arith, past.0, lt, many))
  ])

  pub acted_few : tally.acted ≤ 1_073_741_824
  acted_few = let few = few_acts in let many = s.many in omega (arith, few, many)

  -- one command more
  module _ (t u : WireView) (gs : List ActuatorView) (parcel : Parcel) (told_taken : IsSome old.site.link.taken) (took : TookAs (Ok (Some parcel)) old.lines.passed tally.repeated w t) where
    pub now_in_hand : Serving old s.opened t fs s.acts tally.repeated ((t.site.disk.beat, parcel) ∷ [])
    now_in_hand = serving_next old s.opened w t fs s.acts tally.repeated s.serving parcel took.0

    pub one_more : (acted : Bool) → AnsweredAs (Ok acted) parcel t u fs gs → GoesOnWith old u gs (counted acted tally)
    one_more true did = record {
      opened = s.opened;
      acts = s.acts ++ (parcel.agent, act_for did.handed.answers.v.acts parcel did.asks.now) ∷ [];
      serving = goes_on_acted old s.opened t u fs gs s.acts tally.repeated t.site.disk.beat parcel now_in_hand told_taken did;
      many = let was = s.many in omega (arith, was, length-append s.acts ((parcel.agent, act_for did.handed.answers.v.acts parcel did.asks.now) ∷ []));
      calm = s.calm;
    }
    one_more false did = record {
      opened = s.opened;
      acts = s.acts;
      serving = goes_on_again old s.opened t u fs gs s.acts tally.repeated t.site.disk.beat parcel now_in_hand told_taken did;
      many = s.many;
      calm = let calm = took.1 in omega (arith, calm);
    }

    pub refused_last : (e : WireError) → old.asking ≡ false → AnsweredAs (Err e) parcel t u fs gs → Ended (Err e) old u
    refused_last e is did = ends_answer old s.opened t u fs gs s.acts tally.repeated t.site.disk.beat parcel now_in_hand told_taken e is took.0.whole took.1 did

  pub took_none : (t : WireView) → old.asking ≡ false → TookAs (Ok None) old.lines.passed tally.repeated w t → Ended (Ok tally.acted) old t
  took_none t is took = ends_ok old s.opened w t fs s.acts tally.repeated s.serving tally.acted s.many is took

  pub took_err : (t : WireView) (e : WireError) → old.asking ≡ false → TookAs (Err e) old.lines.passed tally.repeated w t → Ended (Err e) old t
  took_err t e is took = ends_err old s.opened w t fs s.acts tally.repeated s.serving e is took

-- each command is counted once
pub counted_more : (acted : Bool) (tally : Tally) → (counted acted tally).acted + (counted acted tally).repeated ≡ tally.acted + tally.repeated + 1
counted_more true tally = omega arith
counted_more false tally = omega arith
