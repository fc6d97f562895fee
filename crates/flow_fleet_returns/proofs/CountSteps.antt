-- What a call of a fleet counts: faults of the disk, and lines that could not be said.
use Rattle.std.proofs.Common.{◌≡◌, ℕ, ◌≤◌, Bool, true, false, refl, sym, ◌∙◌, subst, ap, arith}
use Rattle.std.specs.Prelude.{nat_lt, if◌then◌else◌}
use Rattle.cacao_site.specs.Counts.{Rose, next_count}
use Rattle.cacao_site.specs.DiskCalls.{KeepsDisk}
use Rattle.cacao_site.specs.View.{CountsView, SiteView}
use Rattle.cacao_site.specs.declared.parcel.Parcel.{Parcel}
use Rattle.run_records.specs.Ranges.{last_moment}
use Rattle.run_records.specs.declared.record.Record.{Record}
use Rattle.flow_core.specs.declared.flow_errors.LimitKind.TheVariants as limit
use Rattle.slpf_actuator.specs.ActuatorView.{ActuatorView}
use Rattle.slpf_actuator.specs.declared.error.ActError.{ActError}
use Rattle.slpf_actuator.specs.declared.error.ActError.TheVariants as act_error
use Rattle.flow_world_steps.specs.Appends.{Tries}
use Rattle.flow_world_steps.specs.Appends.Tries.{done, failed, limited}
use Rattle.flow_world_steps.specs.Steps.{ActsOn, FailsToAct, PutsCommand, RepeatsReply, after_reach}
use Rattle.flow_world_steps.specs.Worlds.{Cause, IsGoing, Phase, World, disk_failed, holds, looked, not_said, opened, owes, past, refused, rests, run_used, waits, wants_memory}
use Rattle.flow_world_steps.proofs.Adding.{fails_counts}
use Rattle.flow_fleet_laws.specs.Views.{seen_from}
use Rattle.flow_fleet_steps.specs.Steps.{FleetStep, FleetSteps, GoesTowards, OnlyPhase}
use Rattle.flow_fleet_steps.specs.Steps.FleetStep.{opens_clock, finds_run_used, asks_clock, finds_late, begins, moves, expires, says, fails_to_say, puts_first, resends}
use Rattle.flow_fleet_steps.specs.Steps.FleetStep.{takes, finds_none, fails_to_take, drops, replies, ignores_reply, acts_on, repeats_reply, fails_to_act, wants_memory_now}
use Rattle.flow_fleet_steps.specs.Steps.FleetSteps.{nothing, and_then}
use Rattle.flow_fleet_steps.specs.Worlds.{FleetWorld}
use Rattle.flow_fleet_steps.proofs.Spending.{fleet_step_going}
use Rattle.flow_fleet_returns.specs.Causes.{CountsFaults, CountsNone, CountsUnsaid}

-- the phase tells what was counted
abbrev pub CountsBy : Phase → SiteView → SiteView → Type 0
CountsBy (refused disk_failed lacks) old new = CountsFaults old new
CountsBy (refused not_said lacks) old new = CountsUnsaid old new
CountsBy other old new = CountsNone old new

by_as : (p q : Phase) (old new : SiteView) → p ≡ q → CountsBy q old new → CountsBy p old new
by_as p q old new e is = subst (λ (x : Phase). CountsBy x old new) (sym e) is

-- ---- nothing counted

pub none_same : (old new : SiteView) → new ≡ old → CountsNone old new
none_same old new e = record { faults = ap (λ (s : SiteView). s.disk.faults) e; unsaid = ap (λ (s : SiteView). s.counts.unsaid) e }

pub none_then : (a b c : SiteView) → CountsNone a b → CountsNone b c → CountsNone a c
none_then a b c one two = record { faults = two.faults ∙ one.faults; unsaid = two.unsaid ∙ one.unsaid }

pub faults_then : (a b c : SiteView) → CountsNone a b → CountsFaults b c → CountsFaults a c
faults_then a b c one two = record { faults = subst (λ (n : ℕ). Rose n c.disk.faults) one.faults two.faults; unsaid = two.unsaid ∙ one.unsaid }

pub unsaid_then : (a b c : SiteView) → CountsNone a b → CountsUnsaid b c → CountsUnsaid a c
unsaid_then a b c one two = record { faults = two.faults ∙ one.faults; unsaid = two.unsaid ∙ ap next_count one.unsaid }

-- what goes on counted nothing
none_so_far : (p : Phase) (old new : SiteView) → IsGoing p → CountsBy p old new → CountsNone old new
none_so_far opened old new going is = is
none_so_far rests old new going is = is
none_so_far looked old new going is = is
none_so_far owes old new going is = is
none_so_far (holds beat parcel) old new going is = is
none_so_far (waits due) old new going is = absurd going
none_so_far (refused cause lacks) old new going is = absurd going

by_then : (p : Phase) (a b c : SiteView) → CountsNone a b → CountsBy p b c → CountsBy p a c
by_then opened a b c one two = none_then a b c one two
by_then rests a b c one two = none_then a b c one two
by_then looked a b c one two = none_then a b c one two
by_then owes a b c one two = none_then a b c one two
by_then (holds beat parcel) a b c one two = none_then a b c one two
by_then (waits due) a b c one two = none_then a b c one two
by_then (refused disk_failed lacks) a b c one two = faults_then a b c one two
by_then (refused not_said lacks) a b c one two = unsaid_then a b c one two
by_then (refused (run_used agent) lacks) a b c one two = none_then a b c one two
by_then (refused (past what) lacks) a b c one two = none_then a b c one two
by_then (refused wants_memory lacks) a b c one two = none_then a b c one two

-- ---- a call

reached_none : (moment answer : ℕ) (old new : SiteView) → CountsNone old new → CountsBy (after_reach moment answer) old new
reached_none moment answer old new none = by (nat_lt last_moment answer) (nat_lt answer moment)
  where
    by : (a b : Bool) → CountsBy (if a then refused (past limit.Moment) false else if b then waits moment else rests) old new
    by true b = none
    by false true = none
    by false false = none

towards : (moment answer : ℕ) (old new : FleetWorld) → GoesTowards moment answer old new → CountsBy new.phase old.site new.site
towards moment answer old new is = by_as new.phase (after_reach moment answer) old.site new.site is.phase
    (reached_none moment answer old.site new.site (record { faults = is.reaches.disk.disk.faults; unsaid = is.reaches.unsaid }))

tried : (IsNext : Record → Type 0) (old new : World) → Tries IsNext old new → CountsBy new.phase old.site new.site
tried IsNext old new (done is) = by_as new.phase owes old.site new.site is.phase
    (record { faults = is.appends.adds.steady; unsaid = ap (λ (c : CountsView). c.unsaid) is.appends.adds.offers.file.rest.counts })
tried IsNext old new (failed is) = by_as new.phase (refused disk_failed false) old.site new.site is.phase
    (record { faults = is.refuses.0.2; unsaid = ap (λ (c : CountsView). c.unsaid) is.refuses.0.0.file.rest.counts })
tried IsNext old new (limited what is) = by_as new.phase (refused (past what) false) old.site new.site is.phase (none_same old.site new.site is.refuses.0.2)

puts : (issue : ℕ) (old new : World) → PutsCommand issue old new → CountsBy new.phase old.site new.site
puts issue old new is = by_as new.phase rests old.site new.site is.phase (record { faults = is.sends.put.disk.disk.faults; unsaid = is.sends.put.unsaid })

acted : (beat : ℕ) (parcel : Parcel) (v w : ActuatorView) (old new : World) → ActsOn beat parcel v w old new → CountsBy new.phase old.site new.site
acted beat parcel v w old new is = by_as new.phase rests old.site new.site is.phase (record {
  faults = is.acts.puts.disk.disk.faults ∙ is.acts.steady;
  unsaid = is.acts.puts.unsaid ∙ ap (λ (c : CountsView). c.unsaid) is.acts.offers.adds.file.rest.counts;
})

repeated : (beat : ℕ) (parcel : Parcel) (v w : ActuatorView) (old new : World) → RepeatsReply beat parcel v w old new → CountsBy new.phase old.site new.site
repeated beat parcel v w old new is = by_as new.phase rests old.site new.site is.ignores.phase
    (record { faults = is.repeats.puts.disk.disk.faults; unsaid = is.repeats.puts.unsaid })

failed_to : (beat : ℕ) (parcel : Parcel) (v w : ActuatorView) (error : ActError) (cause : Cause) (old new : World) → FailsToAct beat parcel v w error cause old new
    → CountsBy (refused cause false) old.site new.site
failed_to beat parcel v w act_error.Disk cause old new is = by_as (refused cause false) (refused disk_failed false) old.site new.site (ap (λ (c : Cause). refused c false) is.why.1)
    (record { faults = is.why.0; unsaid = ap (λ (c : CountsView). c.unsaid) (fails_counts v parcel old.site.clock.now old.site new.site act_error.Disk is.refuses.site) })
failed_to beat parcel v w (act_error.Full needed) cause old new is = by_as (refused cause false) (refused (past limit.Journal) false) old.site new.site (ap (λ (c : Cause). refused c false) is.why.1)
    (none_same old.site new.site is.refuses.site)
failed_to beat parcel v w act_error.Memory cause old new is = by_as (refused cause false) (refused wants_memory false) old.site new.site (ap (λ (c : Cause). refused c false) is.why)
    (record { faults = is.refuses.steady (λ e. cc); unsaid = ap (λ (c : CountsView). c.unsaid) (fails_counts v parcel old.site.clock.now old.site new.site act_error.Memory is.refuses.site) })
failed_to beat parcel v w (act_error.Damaged place) cause old new is = absurd is.why
failed_to beat parcel v w act_error.Broken cause old new is = absurd is.why

-- what a run counts, as it sees the rack, the rack counts
none_seen : (place : ℕ) (old new : SiteView) → CountsNone (seen_from place old) (seen_from place new) → CountsNone old new
none_seen place old new is = record { faults = is.faults; unsaid = is.unsaid }

by_seen : (place : ℕ) (p : Phase) (old new : SiteView) → CountsBy p (seen_from place old) (seen_from place new) → CountsBy p old new
by_seen place opened old new is = none_seen place old new is
by_seen place rests old new is = none_seen place old new is
by_seen place looked old new is = none_seen place old new is
by_seen place owes old new is = none_seen place old new is
by_seen place (holds beat parcel) old new is = none_seen place old new is
by_seen place (waits due) old new is = none_seen place old new is
by_seen place (refused disk_failed lacks) old new is = record { faults = is.faults; unsaid = is.unsaid }
by_seen place (refused not_said lacks) old new is = record { faults = is.faults; unsaid = is.unsaid }
by_seen place (refused (run_used agent) lacks) old new is = none_seen place old new is
by_seen place (refused (past what) lacks) old new is = none_seen place old new is
by_seen place (refused wants_memory lacks) old new is = none_seen place old new is

-- only the phase changed
only : (old new : FleetWorld) (then_ : Phase) → OnlyPhase old new then_ → CountsBy then_ old.site new.site → CountsBy new.phase old.site new.site
only old new then_ is counts = by_as new.phase then_ old.site new.site is.phase counts

same : (old new : FleetWorld) → new.site ≡ old.site → new.phase ≡ rests → CountsBy new.phase old.site new.site
same old new e phase = by_as new.phase rests old.site new.site phase (none_same old.site new.site e)

step_counts : (old new : FleetWorld) → FleetStep old new → CountsBy new.phase old.site new.site
step_counts old new (opens_clock answer is) = towards _ answer old new is.goes
step_counts old new (finds_run_used place agent is) = only old new (refused (run_used agent) false) is.only (none_same old.site new.site is.only.site)
step_counts old new (asks_clock moment answer is) = towards moment answer old new is.goes
step_counts old new (finds_late moment is) = only old new (refused (past limit.Moment) false) is.only (none_same old.site new.site is.only.site)
step_counts old new (begins place is) = by_seen place new.phase old.site new.site (tried _ _ _ is.does.does.tries)
step_counts old new (moves place is) = by_seen place new.phase old.site new.site (tried _ _ _ is.does.does.tries)
step_counts old new (expires place issue is) = by_seen place new.phase old.site new.site (tried _ _ _ is.does.does.tries)
step_counts old new (says place v bytes is) = by_as new.phase rests old.site new.site is.phase (record { faults = is.speaks.only.disk.faults; unsaid = is.counted })
step_counts old new (fails_to_say place v bytes is) = by_as new.phase (refused not_said true) old.site new.site is.phase (record { faults = is.speaks.only.disk.faults; unsaid = is.counted })
step_counts old new (puts_first place issue is) = by_seen place new.phase old.site new.site (puts issue _ _ is.does.does.puts)
step_counts old new (resends place issue is) = by_seen place new.phase old.site new.site (puts issue _ _ is.does.does.puts)
step_counts old new (takes parcel is) = by_as new.phase (holds new.site.disk.beat parcel) old.site new.site is.phase (record { faults = is.only.disk.disk.faults; unsaid = is.only.unsaid })
step_counts old new (finds_none is) = by_as new.phase looked old.site new.site is.phase (record { faults = is.only.disk.disk.faults; unsaid = is.only.unsaid })
step_counts old new (fails_to_take is) = by_as new.phase (refused wants_memory false) old.site new.site is.phase (record { faults = is.only.disk.disk.faults; unsaid = is.only.unsaid })
step_counts old new (drops beat parcel is) = same old new is.site is.ignores.phase
step_counts old new (replies beat parcel place is) = by_seen place new.phase old.site new.site (tried _ _ _ is.does.does.tries)
step_counts old new (ignores_reply beat parcel is) = same old new is.site is.ignores.phase
step_counts old new (acts_on beat parcel v w is) = by_seen 0 new.phase old.site new.site (acted beat parcel v w _ _ is.does)
step_counts old new (repeats_reply beat parcel v w is) = by_seen 0 new.phase old.site new.site (repeated beat parcel v w _ _ is.does)
step_counts old new (fails_to_act beat parcel v w error cause is) = by_as new.phase (refused cause false) old.site new.site is.does.phase
    (by_seen 0 (refused cause false) old.site new.site (failed_to beat parcel v w error cause _ _ is.does))
step_counts old new (wants_memory_now is) = only old new (refused wants_memory _) is.only (none_same old.site new.site is.only.site)

pub steps_count : (a b : FleetWorld) → a.phase ≡ opened → FleetSteps a b → CountsBy b.phase a.site b.site
steps_count a b first nothing = by_as a.phase opened a.site a.site first (record { faults = refl; unsaid = refl })
steps_count a b first (and_then {mid} steps step) =
    by_then b.phase a.site mid.site b.site (none_so_far mid.phase a.site mid.site (fleet_step_going mid b step) (steps_count a mid first steps)) (step_counts mid b step)
