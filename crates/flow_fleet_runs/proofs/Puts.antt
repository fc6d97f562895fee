-- What a fleet puts: the law.
use Rattle.std.proofs.Common.{◌≡◌, ◌⊎◌, inl, inr, ℕ, ◌==◌, ◌≤◌, false, List, [], ◌++◌, length, Option, Some, refl, sym, ap, subst, ◌∙◌, arith, IsTrue, All}
use Rattle.std.specs.Prelude.{Contains, IfSome, drop}
use Rattle.std.proofs.lemmas.Bool.{eq-eqb}
use Rattle.std.proofs.lemmas.List.{append-nil, append_cancel_left}
use Rattle.std.proofs.Math.Seq.{drop-append_seam}
use Rattle.cacao_site.specs.LinkCalls.{GainsAll}
use Rattle.cacao_site.specs.Sound.{IsSound}
use Rattle.cacao_site.specs.View.{LinkView, SiteView}
use Rattle.cacao_site.specs.declared.parcel.Parcel.{Parcel}
use Rattle.flow_engine.specs.OpenIssues.{most_puts}
use Rattle.flow_laws.specs.Images.{puts_of, puts_to, session_puts, told_list, up_to}
use Rattle.flow_laws.proofs.Basics.{same_some}
use Rattle.flow_laws.proofs.Calls.{all_past}
use Rattle.flow_world_steps.specs.Link.{commands_in, commands_of, in_hand, replies_in}
use Rattle.flow_world_laws.specs.Parcels.{Took}
use Rattle.flow_world_laws.proofs.Taken.{all_taken}
use Rattle.flow_fleet_laws.specs.Events.{Events, EventsPutOwn}
use Rattle.flow_fleet_laws.specs.Fleets.{IsAt, IsFleetStart, KeepsEach}
use Rattle.flow_fleet_laws.specs.Speeches.Form.{with_numbers}
use Rattle.flow_fleet_steps.specs.Laws.{FleetWent}
use Rattle.flow_fleet_steps.specs.Openings.{RefusesFleetOpening, Runs, numbers}
use Rattle.flow_fleet_steps.specs.Steps.FleetSteps.{nothing}
use Rattle.flow_fleet_steps.proofs.Whole.{fleets_are_events, fleets_keep_each}
use Rattle.flow_fleet_sums.proofs.Whole.{fleets_add_up}
use Rattle.flow_fleet.specs.Fleets.{AreFleetRuns}
use Rattle.flow_fleet.proofs.WholeLemmas.{are_runs}
use Rattle.flow_fleet_runs.specs.Puts.{EachFleetPutsFew, FleetPutsFew, HasPut, IsCommandOf}
use Rattle.flow_fleet_runs.proofs.Held.{engine_at, link_first, number_at, some_engine}
use Rattle.flow_fleet_runs.proofs.Parcels.{link_stays}
use Rattle.flow_fleet_runs.proofs.Putting.{AreApart, fleet_steps_note, fleet_steps_reply_few}

-- ---- commands

-- the puts past the first ones are those of the fleet
past_told : (beat : ℕ) (o : Option (List (ℕ × Parcel))) (l : List (ℕ × Parcel)) → o ≡ Some l → IfSome o (λ l. All (λ (e : ℕ × Parcel). e.0 ≤ beat) l) → up_to beat (told_list o) ≡ l
past_told beat o l is past =
    ap (λ (x : Option (List (ℕ × Parcel))). up_to beat (told_list x)) is
    ∙ all_past beat l (subst (λ (x : Option (List (ℕ × Parcel))). IfSome x (λ l. All (λ (e : ℕ × Parcel). e.0 ≤ beat) l)) is past)

own_puts : (old new : SiteView) (put : List (ℕ × Parcel)) → IsSound new → HasPut old new put → session_puts (puts_of old) new new.disk.beat ≡ put
own_puts old new put sound is =
    let first : puts_of old ≡ length is.before = ap (λ (o : Option (List (ℕ × Parcel))). length (told_list o)) is.was in
    let all : puts_to new new.disk.beat ≡ is.before ++ put = past_told new.disk.beat new.link.puts (is.before ++ put) is.now sound.puts.past in
    ap (λ (n : ℕ). drop n (puts_to new new.disk.beat)) first ∙ ap (λ (l : List (ℕ × Parcel)). drop (length is.before) l) all ∙ drop-append_seam is.before put

command_of_run : EventsPutOwn → (runs : Runs) (old new : SiteView) (put : List (ℕ × Parcel)) → IsSound new → Events with_numbers (numbers runs) old new → KeepsEach (numbers runs) old new → HasPut old new put
    → (e : ℕ × Parcel) → Contains put e → e.1.back ≡ false → IsCommandOf (numbers runs) new e.0 e.1
command_of_run law runs old new put sound events keeps is e has command =
    let among : Contains (session_puts (puts_of old) new new.disk.beat) (e.0, e.1) = subst (λ (l : List (ℕ × Parcel)). Contains l (e.0, e.1)) (sym (own_puts old new put sound is)) has in
    let of = law with_numbers (numbers runs) old new events e.0 e.1 among command in
    let kept = keeps of.0 e.1.run of.1 in
    let held = (kept.each new.disk.beat kept.later (omega arith)).held in
    let own : IsTrue (e.1.run == e.1.run) = eq-eqb e.1.run e.1.run refl in
    record { place = of.0; of_run = of.1; sent = held.was_open e.0 e.1 (record { has = among; command = command; own = own }) }

-- ---- how many

module _ (runs : Runs) (most : ℕ) (old new : SiteView) (put taken : List (ℕ × Parcel)) (sound_old : IsSound old) (are : AreFleetRuns runs) (start : IsFleetStart old (numbers runs)) (went : FleetWent runs most old new)
    (is : HasPut old new put) (took : Took old new taken) where
  abbrev first : SiteView
  first = went.start.site

  -- the lists of puts and takes from the opening on are those told
  put_is : (l : List (ℕ × Parcel)) → GainsAll first.link.puts l went.to.site.link.puts → put ≡ l
  put_is l gains =
      let from : first.link.puts ≡ old.link.puts = ap (λ (l : LinkView). l.puts) (link_first runs most old new sound_old are start went) in
      let to : went.to.site.link.puts ≡ new.link.puts = ap (λ (s : SiteView). s.link.puts) went.to_is in
      all_taken old.link.puts new.link.puts is.before put l is.was is.now
      (subst (λ (o : Option (List (ℕ × Parcel))). GainsAll o l new.link.puts) from (subst (λ (o : Option (List (ℕ × Parcel))). GainsAll first.link.puts l o) to gains))

  taken_is : (l : List (ℕ × Parcel)) → GainsAll first.link.taken l went.to.site.link.taken → taken ≡ l
  taken_is l gains =
      let from : first.link.taken ≡ old.link.taken = ap (λ (l : LinkView). l.taken) (link_first runs most old new sound_old are start went) in
      let to : went.to.site.link.taken ≡ new.link.taken = ap (λ (s : SiteView). s.link.taken) went.to_is in
      all_taken old.link.taken new.link.taken took.before taken l took.was took.now
      (subst (λ (o : Option (List (ℕ × Parcel))). GainsAll o l new.link.taken) from (subst (λ (o : Option (List (ℕ × Parcel))). GainsAll first.link.taken l o) to gains))

  few_replies : replies_in put ≤ commands_in taken
  few_replies =
      let r = fleet_steps_reply_few (some_engine runs most old new sound_old are start went) (went.start.own 0) went.start went.to went.steps in
      let puts = ap replies_in (put_is r.put r.puts) in
      let takes = ap commands_in (taken_is r.taken r.takes) in
      let none = ap in_hand went.begins.phase in
      let few = r.few in
      omega (arith, puts, takes, none, few)

  apart : AreApart went.start.engines
  apart place other v w there here same =
      are.once place other v.history.seen.run (number_at runs most old new sound_old are start went went.start nothing place v there)
      (subst (λ (n : ℕ). IsAt (numbers runs) other n) (sym same) (number_at runs most old new sound_old are start went went.start nothing other w here))

  few_commands : (place run issue : ℕ) → IsAt (numbers runs) place run → commands_of run issue put ≤ most_puts
  few_commands place run issue at =
      let u = engine_at runs most old new sound_old are start went went.start nothing place run at in
      let v = engine_at runs most old new sound_old are start went went.to went.steps place run at in
      let n = fleet_steps_note went.start went.to apart went.steps in
      let noted = n.noted place u.v issue u.there in
      let counted = ((fleets_add_up went.start went.to runs most went.begins went.steps).counted place v.v v.there).few issue in
      let puts = ap (λ (l : List (ℕ × Parcel)). commands_of run issue l) (put_is n.put n.puts) in
      let same = ap (λ (r : ℕ). commands_of r issue n.put) u.of_run in
      omega (arith, noted, counted, puts, same)

-- nothing was put or taken while files were opened
none_put : (old new : SiteView) (put : List (ℕ × Parcel)) → new.link ≡ old.link → HasPut old new put → put ≡ []
none_put old new put link is =
    let same : new.link.puts ≡ old.link.puts = ap (λ (l : LinkView). l.puts) link in
    append_cancel_left is.before put [] (same_some (sym is.now ∙ same ∙ is.was) ∙ sym (append-nil is.before))

-- ---- the law

pub each_fleet_puts_few : EventsPutOwn → EachFleetPutsFew
each_fleet_puts_few law error runs most old new put taken sound_old sound are start how is took = by how
  where
    events : Events with_numbers (numbers runs) old new
    events = fleets_are_events error runs most old new sound_old start.told start.puts start.pending how

    keeps : KeepsEach (numbers runs) old new
    keeps = fleets_keep_each error runs most old new sound_old (are_runs runs are) start how

    by : FleetWent runs most old new ⊎ RefusesFleetOpening error runs old new → FleetPutsFew put taken (numbers runs) new
    by (inl went) = record {
      commands = command_of_run law runs old new put sound events keeps is;
      few = few_commands runs most old new put taken sound_old are start went is took;
      replies = few_replies runs most old new put taken sound_old are start went is took;
    }
    by (inr refuses) =
        let none = none_put old new put (link_stays error runs old new refuses) is in
        record {
          commands = command_of_run law runs old new put sound events keeps is;
          few = λ place run issue at. let nothing_put = ap (λ (l : List (ℕ × Parcel)). commands_of run issue l) none in omega (arith, nothing_put);
          replies = let nothing_put = ap replies_in none in omega (arith, nothing_put);
        }
