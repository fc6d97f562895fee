-- What a session leaves to runs beside it, and to its own with numbers before its lines.
use Rattle.std.proofs.Common.{ℕ, ◌<◌, ◌^◌, [], ◌∷◌, refl, sym, ◌∙◌, subst, arith}
use Rattle.cacao_site.specs.View.{SiteView}
use Rattle.flow_laws.specs.Fresh.{IsFresh}
use Rattle.flow_laws.specs.Sessions.{IsStart as IsStartAs}
use Rattle.flow_world.specs.Sessions.{IsStart}
use Rattle.flow_fleet_laws.specs.Events.{StartsEach}
use Rattle.flow_fleet_laws.specs.Fleets.{AreRuns}
use Rattle.flow_fleet_laws.specs.Speeches.{bare}
use Rattle.flow_fleet_laws.specs.Speeches.Form.{with_numbers, without_numbers}
use Rattle.flow_fleet_laws.specs.Views.{seen_from}
use Rattle.flow_fleet_laws.proofs.Bystanders.{events_keep_bystanders}
use Rattle.flow_fleet_laws.proofs.Events.{events_keep_both_forms}
use Rattle.flow_fleet_laws.proofs.Racks.{bare_starts_are_sessions}
use Rattle.flow_fleet_laws.proofs.Seen.{views_from_the_first}
use Rattle.flow_fleet_sessions.specs.Sessions.{SessionsKeepBystanders, SessionsKeepNumbered}
use Rattle.flow_fleet_sessions.proofs.Records.{only_one}
use Rattle.flow_fleet_sessions.proofs.Sessions.{sessions_are_events}

are_one : (run : ℕ) → run < 2 ^ 64 → AreRuns without_numbers (run ∷ [])
are_one run small = record {
  few = omega arith;
  small = λ place number at. subst (λ (n : ℕ). n < 2 ^ 64) (sym (only_one run place number at).1) small;
  once = λ place other number at there. (only_one run other number there).0 ∙ sym (only_one run place number at).0;
}

-- a session's start is one of its run at place 0, without numbers
starts_one : (run : ℕ) (old : SiteView) → IsStart old run → StartsEach without_numbers (run ∷ []) old
starts_one run old start place number at =
    let is = only_one run place number at in
    subst (λ (p : ℕ). IsStartAs (bare number) (seen_from p old) × IsFresh (seen_from p old) number old.disk.beat) (sym is.0)
    (subst (λ (n : ℕ). IsStartAs (bare n) (seen_from 0 old) × IsFresh (seen_from 0 old) n old.disk.beat) (sym is.1)
    (subst (λ (s : SiteView). IsStartAs (bare run) s × IsFresh s run old.disk.beat) (sym (views_from_the_first old))
    ((bare_starts_are_sessions run old).0 start.start, start.fresh)))

pub sessions_keep_numbered : SessionsKeepNumbered
sessions_keep_numbered error given run most answers old new sound small start numbered_start went =
    events_keep_both_forms without_numbers with_numbers (run ∷ []) old new (are_one run small) start.told (starts_one run old start)
    (sessions_are_events error given run most answers old new sound start.told start.puts start.pending went) run refl numbered_start

pub sessions_keep_bystanders : SessionsKeepBystanders
sessions_keep_bystanders error given run most answers old new sound small told puts pending went place other is =
    events_keep_bystanders without_numbers (run ∷ []) old new (are_one run small) told
    (sessions_are_events error given run most answers old new sound told puts pending went) place other is
