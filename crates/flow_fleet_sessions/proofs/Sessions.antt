-- A session, from the opening of its files on, is calls in a row.
use Rattle.std.proofs.Common.{◌≡◌, inl, inr, ℕ, [], ◌∷◌, sym, ◌∙◌, subst, IsTrue}
use Rattle.std.specs.Prelude.{IsSome}
use Rattle.cacao_site.specs.View.{SiteView}
use Rattle.cacao_site.specs.declared.parcel.Parcel.{Parcel}
use Rattle.cacao_site.specs.Sound.{IsSound}
use Rattle.flow_core_rules.specs.Givens.{Given}
use Rattle.flow_world_steps.specs.Worlds.{World, Phase, holds, opened}
use Rattle.flow_world.specs.Openings.{AreOpen}
use Rattle.flow_fleet_laws.specs.Events.{Events}
use Rattle.flow_fleet_laws.specs.Events.Event.{shrinks}
use Rattle.flow_fleet_laws.specs.Events.Events.{nothing, and_then}
use Rattle.flow_fleet_laws.specs.Speeches.Form.{without_numbers}
use Rattle.flow_fleet_sessions.specs.Sessions.{SessionsAreEvents}
use Rattle.flow_fleet_sessions.proofs.Calls.{link_stays}
use Rattle.flow_fleet_sessions.proofs.Openings.{openings_shrink, refused_openings_shrink}
use Rattle.flow_fleet_sessions.proofs.Steps.{Comes, steps_come}

empty_opened : (p : Phase) (beat : ℕ) (parcel : Parcel) → p ≡ opened → p ≡ holds beat parcel → ⊥
empty_opened p beat parcel e h = let f : opened ≡ holds beat parcel = sym e ∙ h in cc

opened_comes : (given : Given) (run : ℕ) (old : SiteView) (w : World) → IsSound old → IsTrue old.disk.told → IsSome old.link.puts → IsSome old.link.pending
    → AreOpen given run old w.site w.engine w.filters → w.phase ≡ opened → Comes old run w
opened_comes given run old w sound told puts pending files phase =
    let same : w.site.link ≡ old.link = files.others.rest.link ∙ files.journal.opens.only.rest.link in
    record {
      site = link_stays without_numbers (run ∷ []) old old w.site (record { events = nothing; told = told; puts = puts; pending = pending }) sound
          (shrinks (openings_shrink given run old w.site w.engine w.filters told files)) same;
      of_run = files.journal.of_run;
      in_hand = λ beat parcel h. absurd (empty_opened w.phase beat parcel phase h);
    }

pub sessions_are_events : SessionsAreEvents
sessions_are_events error given run most answers old new sound told puts pending (inl went) =
    let from = opened_comes given run old went.start sound told puts pending went.files went.begins.phase in
    subst (λ (s : SiteView). Events without_numbers (run ∷ []) old s) went.to_is (steps_come old run went.start went.to went.steps from).site.events
sessions_are_events error given run most answers old new sound told puts pending (inr refuses) =
    and_then nothing sound (shrinks (refused_openings_shrink error given run old new told refuses))
