-- What each step carries on of a site: its disk, and the count of answers that came too early.
use Rattle.std.proofs.Common.{◌≡◌, inl, inr, ℕ, ◌⊎◌, ◌≤◌, ◌<◌, refl, sym, ◌∙◌, subst, ap, arith}
use Rattle.std.proofs.lemmas.Bool.{cases_lt}
use Rattle.cacao_site.specs.Counts.{next_count}
use Rattle.cacao_site.specs.DiskCalls.{GoesOn}
use Rattle.cacao_site.specs.View.{ClockView, SiteView}
use Rattle.cacao_site.specs.declared.parcel.Parcel.{Parcel}
use Rattle.cacao_site.proofs.Beats.{goes_on-refl, goes_on-trans}
use Rattle.run_records.specs.declared.record.Record.{Record}
use Rattle.slpf_actuator.specs.ActuatorCalls.{MayHaveDone}
use Rattle.slpf_actuator.specs.ActuatorView.{ActuatorView}
use Rattle.slpf_actuator.specs.declared.error.ActError.{ActError}
use Rattle.slpf_actuator.specs.declared.error.ActError.TheVariants as act_error
use Rattle.flow_world_steps.specs.Appends.{Tries}
use Rattle.flow_world_steps.specs.Appends.Tries.{done, failed, limited}
use Rattle.flow_world_steps.specs.Steps.{GoesTowards, Step, Steps}
use Rattle.flow_world_steps.specs.Steps.Step.{opens_clock, finds_run_used, asks_clock, finds_late, begins, moves, upgrades, tells, expires, says, fails_to_say}
use Rattle.flow_world_steps.specs.Steps.Step.{puts_first, resends, takes, finds_none, fails_to_take, drops, replies, ignores_reply, acts_on, repeats_reply, fails_to_act, wants_memory_now}
use Rattle.flow_world_steps.specs.Steps.Steps.{nothing, and_then}
use Rattle.flow_world_steps.specs.Worlds.{IsGoing, World}
use Rattle.flow_world_steps.proofs.Adding.{fails_clock}
use Rattle.flow_world_steps.proofs.Ended.{step_going}
use Rattle.flow_world_steps.proofs.Timely.{goes_reached}
use Rattle.flow_world_laws.specs.Ends.{KeepsDiskOn}

-- the count stays, or takes one more and the session has ended
abbrev pub Shorts : World → World → Type 0
Shorts old new = (new.site.clock.shorts ≡ old.site.clock.shorts) ⊎ ((new.site.clock.shorts ≡ next_count old.site.clock.shorts) × (IsGoing new.phase → ⊥))

-- both, after a step
record Carries (old new : World) : Type 0 where
  pub disk : GoesOn old.site.disk new.site.disk
  pub shorts : Shorts old new

of_site : (old new : World) → new.site ≡ old.site → Carries old new
of_site old new e = record {
  disk = subst (λ (s : SiteView). GoesOn old.site.disk s.disk) (sym e) (goes_on-refl old.site.disk);
  shorts = inl (ap (λ (s : SiteView). s.clock.shorts) e);
}

of_clock : (old new : World) → GoesOn old.site.disk new.site.disk → new.site.clock ≡ old.site.clock → Carries old new
of_clock old new disk e = record { disk = disk; shorts = inl (ap (λ (c : ClockView). c.shorts) e) }

of_shorts : (old new : World) → GoesOn old.site.disk new.site.disk → new.site.clock.shorts ≡ old.site.clock.shorts → Carries old new
of_shorts old new disk e = record { disk = disk; shorts = inl e }

less_not : (a b : ℕ) → a < b → b ≤ a → ⊥
less_not a b less le = omega (arith, less, le)

went : (moment answer : ℕ) (old new : World) → GoesTowards moment answer old new → Carries old new
went moment answer old new is = record {
  disk = is.reaches.disk.disk.goes_on;
  shorts = elim (cases_lt answer moment) [
    | inl less ↦ inr (is.reaches.short less, λ going. less_not answer moment less (goes_reached moment answer old new is going).reached)
    | inr not ↦ inl (is.reaches.reached not)
  ];
}

tried : (IsNext : Record → Type 0) (old new : World) → Tries IsNext old new → Carries old new
tried IsNext old new (done is) = of_clock old new is.appends.adds.offers.file.each.goes_on is.appends.adds.offers.file.rest.clock
tried IsNext old new (failed is) = of_clock old new is.refuses.0.0.file.each.goes_on is.refuses.0.0.file.rest.clock
tried IsNext old new (limited what is) = of_site old new is.refuses.0.2

same_disk : (old new : SiteView) → new ≡ old → GoesOn old.disk new.disk
same_disk old new e = subst (λ (s : SiteView). GoesOn old.disk s.disk) (sym e) (goes_on-refl old.disk)

fails_disk : (v : ActuatorView) (parcel : Parcel) (moment : ℕ) (old new : SiteView) (error : ActError) → MayHaveDone error v parcel moment old new → GoesOn old.disk new.disk
fails_disk v parcel moment old new act_error.Disk offers = offers.adds.file.each.goes_on
fails_disk v parcel moment old new act_error.Memory may = elim may [ inl e ↦ same_disk old new e | inr offers ↦ offers.adds.file.each.goes_on ]
fails_disk v parcel moment old new (act_error.Damaged place) e = same_disk old new e
fails_disk v parcel moment old new (act_error.Full length) e = same_disk old new e
fails_disk v parcel moment old new act_error.Broken e = same_disk old new e

step_carries : (old new : World) → Step old new → Carries old new
step_carries old new (opens_clock answer is) = went _ answer old new is.goes
step_carries old new (finds_run_used agent is) = of_site old new is.only.site
step_carries old new (asks_clock moment answer is) = went moment answer old new is.goes
step_carries old new (finds_late moment is) = of_site old new is.only.site
step_carries old new (begins is) = tried _ old new is.tries
step_carries old new (moves is) = tried _ old new is.tries
step_carries old new (upgrades issue told is) = tried _ old new is.tries
step_carries old new (tells issue told is) = tried _ old new is.tries
step_carries old new (expires issue is) = tried _ old new is.tries
step_carries old new (says bytes is) = of_shorts old new is.speaks.only.disk.goes_on is.speaks.only.time.shorts
step_carries old new (fails_to_say bytes is) = of_shorts old new is.speaks.only.disk.goes_on is.speaks.only.time.shorts
step_carries old new (puts_first issue is) = of_shorts old new is.puts.sends.put.disk.disk.goes_on is.puts.sends.put.time.shorts
step_carries old new (resends issue is) = of_shorts old new is.puts.sends.put.disk.disk.goes_on is.puts.sends.put.time.shorts
step_carries old new (takes parcel is) = of_shorts old new is.only.disk.disk.goes_on is.only.time.shorts
step_carries old new (finds_none is) = of_shorts old new is.only.disk.disk.goes_on is.only.time.shorts
step_carries old new (fails_to_take is) = of_shorts old new is.only.disk.disk.goes_on is.only.time.shorts
step_carries old new (drops beat parcel is) = of_site old new is.site
step_carries old new (replies beat parcel is) = tried _ old new is.tries
step_carries old new (ignores_reply beat parcel is) = of_site old new is.site
step_carries old new (acts_on beat parcel v w is) =
    of_shorts old new (goes_on-trans is.acts.offers.adds.file.each.goes_on is.acts.puts.disk.disk.goes_on) (is.acts.puts.time.shorts ∙ ap (λ (c : ClockView). c.shorts) is.acts.offers.adds.file.rest.clock)
step_carries old new (repeats_reply beat parcel v w is) = of_shorts old new is.repeats.puts.disk.disk.goes_on is.repeats.puts.time.shorts
step_carries old new (fails_to_act beat parcel v w error cause is) =
    of_clock old new (fails_disk v parcel old.site.clock.now old.site new.site error is.refuses.site) (fails_clock v parcel old.site.clock.now old.site new.site error is.refuses.site)
step_carries old new (wants_memory_now is) = of_site old new is.only.site

-- ---- all

pub steps_keep_disk_on : KeepsDiskOn
steps_keep_disk_on a b nothing = goes_on-refl a.site.disk
steps_keep_disk_on a b (and_then {mid} steps step) = goes_on-trans (steps_keep_disk_on a mid steps) (step_carries mid b step).disk

pub steps_shorts : (a b : World) → Steps a b → Shorts a b
steps_shorts a b nothing = inl refl
steps_shorts a b (and_then {mid} steps step) = elim (steps_shorts a mid steps) [
  | inl same ↦ elim (step_carries mid b step).shorts [
    | inl still ↦ inl (still ∙ same)
    | inr one ↦ inr (one.0 ∙ ap next_count same, one.1)
  ]
  | inr over ↦ absurd (over.1 (step_going mid b step))
]
