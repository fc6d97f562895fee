-- Agreement along a life, and the beginning of one.
use Rattle.std.proofs.Common.{◌≡◌, ◌⊎◌, inl, inr, ℕ, ◌≤◌, List, [], arith, refl, sym, subst}
use Rattle.std.specs.Prelude.{IsSome, IsTrue, Option, Some, None}
use Rattle.cacao_site.specs.DiskCalls.{IsLeft}
use Rattle.cacao_site.specs.View.{SiteView}
use Rattle.run_journal.specs.Layout.{Stands}
use Rattle.flow_laws.specs.Fresh.{IsFresh, IsUnused}
use Rattle.flow_laws.specs.Held.{plain}
use Rattle.flow_laws.specs.Images.{HasImage, puts_of}
use Rattle.flow_laws.specs.Sessions.{IsNewRun, IsRestart, IsStart, StaysFresh}
use Rattle.flow_laws.proofs.Again.{begins_anew, goes_on_after_a_crash}
use Rattle.flow_laws.proofs.Blank.{begins_on_blank_files}
use Rattle.flow_world.specs.Sessions.{KeepsAgreement}
use Rattle.cacao_cli_ends.specs.Asked.{Asked, canonises, checks, runs, shows, lists_rules, decides, shadows, rehearses, audits}
use Rattle.cacao_cli_status_laws.specs.Agreement.{Agrees, MayBegin}
use Rattle.cacao_cli_life.specs.Lives.{AgreesThroughout, AllAgrees, EachBeatHasImages, EachCallMayBegin, EachLifeAgrees, HasItsNumber, Life, TakesJournalAway, Tells}
use Rattle.cacao_cli_life.specs.Lives.Life.{begins, calls, crashes, loses_journal}

-- ---- where a call or a crash has just been

-- at the one beat of a site on which nothing happened yet
at_once : (origin site : SiteView) → IsStart plain site → ((run : ℕ) → IsUnused origin run origin.disk.beat → IsFresh site run site.disk.beat)
    → AgreesThroughout origin site site
at_once origin site start fresh = record {
  later = omega arith;
  each = λ beat from to.
      let now : beat ≡ site.disk.beat = omega (arith, from, to) in
      subst (λ (b : ℕ). AllAgrees origin site site b) (sym now) (record { good = start.good; held = start.held; fresh = fresh; kept = λ run was. was });
}

-- a site is what a crash at its last beat may leave
same_site : (site : SiteView) → IsRestart site site.disk.beat site
same_site site = record {
  images = λ file small image left. left;
  puts = λ at parcel has. (at, has);
  said = λ bytes said. said;
}

restarts : (origin start old new : SiteView) (beat : ℕ) → AgreesThroughout origin start old → start.disk.beat ≤ beat → beat ≤ old.disk.beat
    → IsRestart old beat new → AgreesThroughout origin new new
restarts origin start old new beat agrees from to is =
    let then = agrees.each beat from to in
    let goes = goes_on_after_a_crash plain old new (puts_of start) beat is then.good then.held in
    at_once origin new goes.0 (λ run unused. goes.1 run (then.fresh run unused))

taken_away : (origin start old new : SiteView) (beat : ℕ) → AgreesThroughout origin start old → start.disk.beat ≤ beat → beat ≤ old.disk.beat
    → HasImage old 0 beat → TakesJournalAway old beat new → AgreesThroughout new new new
taken_away origin start old new beat agrees from to some away =
    let is : IsNewRun plain old beat new = record { some = some; empty = away.empty; images = away.images; puts = away.puts; silent = away.silent } in
    let goes = begins_anew plain old new beat is (agrees.each beat from to).good in
    at_once new new goes.0 goes.1

-- ---- the next call

-- all agrees where it begins
stands : (origin start site : SiteView) → AgreesThroughout origin start site → AgreesThroughout origin site site
stands origin start site agrees = restarts origin start site site site.disk.beat agrees agrees.later (omega arith) (same_site site)

starts : (origin site : SiteView) → AgreesThroughout origin site site → IsStart plain site
starts origin site agrees = let now = agrees.each site.disk.beat (omega arith) (omega arith) in record { good = now.good; held = now.held }

agrees_now : (origin site : SiteView) → AgreesThroughout origin site site → IsTrue site.disk.told → Agrees site
agrees_now origin site agrees told = record { told = told; start = starts origin site agrees }

-- its number is fresh now
number_now : (origin site : SiteView) (run : ℕ) → AgreesThroughout origin site site → IsFresh site run site.disk.beat ⊎ IsUnused origin run origin.disk.beat
    → IsFresh site run site.disk.beat
number_now origin site run agrees (inl fresh) = fresh
number_now origin site run agrees (inr unused) = (agrees.each site.disk.beat (omega arith) (omega arith)).fresh run unused

may_begin_now : (origin site : SiteView) (wanted : Option Asked) → AgreesThroughout origin site site → Tells wanted site → HasItsNumber wanted origin site
    → MayBegin wanted site
may_begin_now origin site None agrees told number = agrees_now origin site agrees told
may_begin_now origin site (Some (canonises book)) agrees told number = agrees_now origin site agrees told
may_begin_now origin site (Some (checks books)) agrees told number = agrees_now origin site agrees told
may_begin_now origin site (Some (runs wanted)) agrees tells number = record {
  told = tells.files;
  puts = tells.puts;
  pending = tells.pending;
  start = starts origin site agrees;
  fresh = number_now origin site wanted.run agrees number;
}
may_begin_now origin site (Some shows) agrees told number = agrees_now origin site agrees told
may_begin_now origin site (Some (lists_rules agent)) agrees told number = agrees_now origin site agrees told
may_begin_now origin site (Some (decides agent packets)) agrees told number = agrees_now origin site agrees told
may_begin_now origin site (Some (shadows agent)) agrees told number = agrees_now origin site agrees told
may_begin_now origin site (Some (rehearses positions)) agrees told number = agrees_now origin site agrees told
may_begin_now origin site (Some (audits engine filters)) agrees told number = agrees_now origin site agrees told

-- and at each of its beats
called : (origin old new : SiteView) → AgreesThroughout origin old old → KeepsAgreement old new → AgreesThroughout origin old new
called origin old new agrees keeps = record {
  later = keeps.later;
  each = λ beat from to.
      let then = keeps.each beat from to in
      record {
        good = then.good;
        held = then.held;
        fresh = λ run unused. then.fresh run refl ((agrees.each old.disk.beat (omega arith) (omega arith)).fresh run unused);
        kept = λ run was. then.fresh run refl was;
      };
}

-- ---- the theorem

pub each_life_agrees : EachLifeAgrees
each_life_agrees origin start site (begins _ blank) =
    let goes = begins_on_blank_files plain site blank in
    at_once site site goes.0 (λ run unused. goes.1 run)
each_life_agrees origin start site (calls _ before old _ wanted lived tells number keeps) =
    let now = stands origin before old (each_life_agrees origin before old lived) in
    called origin old site now (keeps (may_begin_now origin old wanted now tells number))
each_life_agrees origin start site (crashes _ before old _ beat lived from to is) =
    restarts origin before old site beat (each_life_agrees origin before old lived) from to is
each_life_agrees origin start site (loses_journal first before old _ beat lived from to some away) =
    taken_away first before old site beat (each_life_agrees first before old lived) from to some away

pub each_call_may_begin : EachCallMayBegin
each_call_may_begin origin start site wanted lived tells number =
    may_begin_now origin site wanted (stands origin start site (each_life_agrees origin start site lived)) tells number

-- ---- images

pub each_beat_has_images : EachBeatHasImages
each_beat_has_images site file beat sound told to =
    let image = sound.images file beat told to in
    record { image = image.0; left = image.1 }
