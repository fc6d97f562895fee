-- The lines that a session could not say.
use Rattle.std.proofs.Common.{◌≡◌, ◌∙◌, refl, ap, subst, true}
use Rattle.cacao_site.specs.Counts.{next_count}
use Rattle.cacao_site.specs.View.{CountsView, SiteView}
use Rattle.run_records.specs.declared.record.Record.{Record}
use Rattle.flow_world_steps.specs.Appends.{Tries}
use Rattle.flow_world_steps.specs.Appends.Tries.{done, failed, limited}
use Rattle.flow_world_steps.specs.Steps.{Step, Steps}
use Rattle.flow_world_steps.specs.Steps.Step.{opens_clock, finds_run_used, asks_clock, finds_late, begins, moves, upgrades, tells, expires, says, fails_to_say, puts_first, resends, takes, finds_none, fails_to_take, drops, replies, ignores_reply, acts_on, repeats_reply, fails_to_act, wants_memory_now}
use Rattle.flow_world_steps.specs.Steps.Steps.{nothing, and_then}
use Rattle.flow_world_steps.specs.Worlds.{IsGoing, World, not_said, refused}
use Rattle.flow_world_steps.proofs.Adding.{fails_counts}
use Rattle.flow_world_steps.proofs.Ended.{step_going}

-- the count stays, or one line could not be said, and the session refuses
pub data Unsaid (old new : World) : Type 0 where
  none_unsaid : new.site.counts.unsaid ≡ old.site.counts.unsaid → Unsaid old new
  one_unsaid : new.phase ≡ refused not_said true → new.site.counts.unsaid ≡ next_count old.site.counts.unsaid → Unsaid old new

of_counts : (old new : World) → new.site.counts ≡ old.site.counts → Unsaid old new
of_counts old new e = none_unsaid (ap (λ (c : CountsView). c.unsaid) e)

of_site : (old new : World) → new.site ≡ old.site → Unsaid old new
of_site old new e = none_unsaid (ap (λ (s : SiteView). s.counts.unsaid) e)

tried : (IsNext : Record → Type 0) (old new : World) → Tries IsNext old new → Unsaid old new
tried IsNext old new (done is) = of_counts old new is.appends.adds.offers.file.rest.counts
tried IsNext old new (failed is) = of_counts old new is.refuses.0.0.file.rest.counts
tried IsNext old new (limited what is) = of_site old new is.refuses.0.2

step_unsaid : (old new : World) → Step old new → Unsaid old new
step_unsaid old new (opens_clock answer is) = none_unsaid is.goes.reaches.unsaid
step_unsaid old new (finds_run_used agent is) = of_site old new is.only.site
step_unsaid old new (asks_clock moment answer is) = none_unsaid is.goes.reaches.unsaid
step_unsaid old new (finds_late moment is) = of_site old new is.only.site
step_unsaid old new (begins is) = tried _ old new is.tries
step_unsaid old new (moves is) = tried _ old new is.tries
step_unsaid old new (upgrades issue told is) = tried _ old new is.tries
step_unsaid old new (tells issue told is) = tried _ old new is.tries
step_unsaid old new (expires issue is) = tried _ old new is.tries
step_unsaid old new (says bytes is) = none_unsaid is.counted
step_unsaid old new (fails_to_say bytes is) = one_unsaid is.phase is.counted
step_unsaid old new (puts_first issue is) = none_unsaid is.puts.sends.put.unsaid
step_unsaid old new (resends issue is) = none_unsaid is.puts.sends.put.unsaid
step_unsaid old new (takes parcel is) = none_unsaid is.only.unsaid
step_unsaid old new (finds_none is) = none_unsaid is.only.unsaid
step_unsaid old new (fails_to_take is) = none_unsaid is.only.unsaid
step_unsaid old new (drops beat parcel is) = of_site old new is.site
step_unsaid old new (replies beat parcel is) = tried _ old new is.tries
step_unsaid old new (ignores_reply beat parcel is) = of_site old new is.site
step_unsaid old new (acts_on beat parcel v w is) = none_unsaid (is.acts.puts.unsaid ∙ ap (λ (c : CountsView). c.unsaid) is.acts.offers.adds.file.rest.counts)
step_unsaid old new (repeats_reply beat parcel v w is) = none_unsaid is.repeats.puts.unsaid
step_unsaid old new (fails_to_act beat parcel v w error cause is) = of_counts old new (fails_counts v parcel old.site.clock.now old.site new.site error is.refuses.site)
step_unsaid old new (wants_memory_now is) = of_site old new is.only.site

pub steps_unsaid : (a b : World) → Steps a b → Unsaid a b
steps_unsaid a b nothing = none_unsaid refl
steps_unsaid a b (and_then {mid} steps step) = go (steps_unsaid a mid steps) (step_unsaid mid b step)
  where
    go : Unsaid a mid → Unsaid mid b → Unsaid a b
    go (none_unsaid e) (none_unsaid f) = none_unsaid (f ∙ e)
    go (none_unsaid e) (one_unsaid phase f) = one_unsaid phase (f ∙ ap next_count e)
    go (one_unsaid phase e) later = absurd (subst IsGoing phase (step_going mid b step))
