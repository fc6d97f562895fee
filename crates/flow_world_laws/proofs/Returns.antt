-- What a session did to its run, of one and the same list of added records.
use Rattle.std.proofs.Common.{◌≡◌, inl, inr, ℕ, ◌≤◌, List, [], ◌++◌, IsTrue, sym, ◌∙◌, subst, ap, arith}
use Rattle.std.specs.Prelude.{All, Option, Some, None, min}
use Rattle.std.specs.Option.{option_map_or}
use Rattle.std.proofs.lemmas.List.{append_assoc, append_cancel_left}
use Rattle.std.proofs.lemmas.List.Elements.{All-append, All-nil}
use Rattle.cacao_site.specs.DiskCalls.{IsLeft}
use Rattle.cacao_site.specs.Sound.{IsSound}
use Rattle.cacao_site.specs.View.{ClockView, SiteView}
use Rattle.run_records.specs.Ranges.{last_moment}
use Rattle.run_records.specs.declared.record.Record.{Record}
use Rattle.flow_core_rules.specs.Givens.{Given}
use Rattle.flow_core_rules.specs.Runs.{Leads}
use Rattle.flow_engine_answers.specs.declared.answers.OperatorAnswer.{OperatorAnswer}
use Rattle.flow_engine_history.specs.Histories.{IsShownAfter}
use Rattle.flow_laws.specs.Images.{IsRecords}
use Rattle.flow_laws.proofs.OneList.{records_of_layout, same_records}
use Rattle.flow_world_steps.specs.Sides.{IsUp}
use Rattle.flow_world_steps.specs.Sums.{Adds, AsksOnly, CameNext, IsBetween}
use Rattle.flow_world_steps.specs.Whole.{AddsUp}
use Rattle.flow_world_steps.specs.Worlds.{World}
use Rattle.flow_world_steps.proofs.Adding.{steps_add}
use Rattle.flow_world_steps.proofs.Records.{so_far_begun}
use Rattle.flow_world_parts.specs.Openings.{RefusesOpening}
use Rattle.flow_world_parts.specs.declared.error.WorldError.{WorldError}
use Rattle.flow_world.specs.Sessions.{Went}
use Rattle.flow_world_laws.specs.Prefixes.{AddsNothing, GoesOn, GoesOnDurably}
use Rattle.flow_world_laws.proofs.Prefixes.{each_close_goes_on, each_later_refusal_goes_on, each_refused_opening_adds_nothing}
use Rattle.flow_world_laws.specs.Returns.{AddsInTime, EachCloseReturns, EachLaterRefusalReturns, EachRefusalReturns, EachSessionAddsInTime, IsSession, ReachesNoFurther, ReturnsDurably, WasDue, last_of}
use Rattle.flow_world_laws.proofs.Behind.{StandsBehind, stands_behind, sums}
use Rattle.flow_world_laws.proofs.LastMoments.{seen_moment}

no_later : (at moment : ℕ) (resend : Option (ℕ × ℕ)) → moment ≡ option_map_or (λ (next : ℕ × ℕ). min at next.0) resend at → moment ≤ at
no_later at moment None e = omega (arith, e)
no_later at moment (Some next) e = let is : moment ≡ min at next.0 = e in omega (arith, is)

-- a session over worlds is one whose files were opened
pub session_of : (given : Given) (run most : ℕ) (answers : List OperatorAnswer) (old new : SiteView) (went : Went given run most answers old new)
    → IsSession given run most answers went.start went.to old new
session_of given run most answers old new went = record {
  middle = went.files.middle;
  journal = went.files.journal;
  rest = went.files.others.rest;
  begins = went.begins;
  steps = went.steps;
  to_is = went.to_is;
}

-- ---- a session

module _ (given : Given) (run most : ℕ) (answers : List OperatorAnswer) (a b : World) (old new : SiteView) (is : IsSession given run most answers a b old new) (sound : IsSound new)
    (told_old : IsTrue old.disk.told) (told : IsTrue new.disk.told) where
  abbrev before : List Record
  before = a.engine.history.records

  added_up : AddsUp a b most
  added_up = sums given run most answers a b is.begins is.steps

  clock : a.site.clock ≡ old.clock
  clock = is.rest.clock ∙ is.journal.opens.only.rest.clock

  now_first : a.site.clock.now ≡ old.clock.now
  now_first = ap (λ (c : ClockView). c.now) clock

  now_last : b.site.clock.now ≡ new.clock.now
  now_last = ap (λ (s : SiteView). s.clock.now) is.to_is

  far_first : a.site.clock.furthest ≡ old.clock.furthest
  far_first = ap (λ (c : ClockView). c.furthest) clock

  far_last : b.site.clock.furthest ≡ new.clock.furthest
  far_last = ap (λ (s : SiteView). s.clock.furthest) is.to_is

  had : IsRecords (old.disk.reads 0) before
  had = subst (λ (i : List ℕ). IsRecords i before) is.journal.reads
      (records_of_layout (is.middle.disk.reads 0) before is.journal.whole.engine.history.ranges (is.journal.stands told_old))

  last_left : IsLeft b.site.disk 0 b.site.disk.beat (new.disk.reads 0)
  last_left = subst (λ (s : SiteView). IsLeft s.disk 0 s.disk.beat (new.disk.reads 0)) (sym is.to_is) (sound.reads 0 told)

  behind : StandsBehind a b (new.disk.reads 0)
  behind = stands_behind given run most answers a b is.begins is.steps (subst (λ (s : SiteView). IsTrue s.disk.told) (sym is.to_is) told) (new.disk.reads 0) last_left

  between : (records : List Record) → All (IsBetween a.site.clock.now b.site.clock.now) records → All (IsBetween old.clock.now new.clock.now) records
  between records all = subst (λ (n : ℕ). All (IsBetween old.clock.now n) records) now_last (subst (λ (n : ℕ). All (IsBetween n b.site.clock.now) records) now_first all)

  module _ (goes : GoesOn most old new) (was_read : IsRecords (old.disk.reads 0) goes.before) where
    same_before : goes.before ≡ before
    same_before = same_records (old.disk.reads 0) goes.before before was_read had

    same_added : goes.added ≡ added_up.adds.added ++ behind.more
    same_added =
        let all : goes.before ++ goes.added ≡ b.engine.history.records ++ behind.more =
        same_records (new.disk.reads 0) (goes.before ++ goes.added) (b.engine.history.records ++ behind.more) goes.reads behind.are in
        let split : b.engine.history.records ++ behind.more ≡ before ++ (added_up.adds.added ++ behind.more) =
        ap (λ (l : List Record). l ++ behind.more) added_up.adds.is ∙ append_assoc before added_up.adds.added behind.more in
        append_cancel_left before goes.added (added_up.adds.added ++ behind.more) (ap (λ (l : List Record). l ++ goes.added) (sym same_before) ∙ all ∙ split)

    moments : All (IsBetween old.clock.now new.clock.now) goes.added
    moments = subst (λ (l : List Record). All (IsBetween old.clock.now new.clock.now) l) (sym same_added)
        (between (added_up.adds.added ++ behind.more)
        (All-append (IsBetween a.site.clock.now b.site.clock.now) added_up.adds.added behind.more added_up.adds.moments behind.moments))

    last_moment_is : a.engine.history.seen.moment ≡ last_of 0 goes.before
    last_moment_is = seen_moment before a.engine.history.seen is.begins.whole.engine.history.so_far ∙ ap (λ (l : List Record). last_of 0 l) (sym same_before)

    was_due : CameNext a b b.site.clock.furthest → WasDue goes.before goes.added new.clock.furthest
    was_due came =
        let early : Adds a came.w = steps_add a came.w came.before in
        let late : Adds came.w b = steps_add came.w b came.after in
        let up : IsUp came.w.engine came.w.site = came.next.up_to_date.on_time.untold.idle.has_looked.up in
        let shown : IsShownAfter came.w.engine.history.seen.given came.w.engine.history.seen.run came.w.engine.history.records came.w.engine.history.seen =
        so_far_begun came.w.engine.history.records came.w.engine.history.seen up.has_file.engine.history.so_far up.begun in
        let then : came.w.engine.history.records ≡ goes.before ++ early.added = early.is ∙ ap (λ (l : List Record). l ++ early.added) (sym same_before) in
        let all : before ++ added_up.adds.added ≡ before ++ (early.added ++ late.added) =
        sym added_up.adds.is ∙ late.is ∙ ap (λ (l : List Record). l ++ late.added) early.is ∙ append_assoc before early.added late.added in
        let both : added_up.adds.added ≡ early.added ++ late.added = append_cancel_left before added_up.adds.added (early.added ++ late.added) all in
        record {
          front = early.added;
          back = late.added ++ behind.more;
          is = same_added ∙ ap (λ (l : List Record). l ++ behind.more) both ∙ append_assoc early.added late.added behind.more;
          seen = came.w.engine.history.seen;
          shows = record {
            given = came.w.engine.history.seen.given;
            run = came.w.engine.history.seen.run;
            state = shown.state;
            accepted = up.has_file.engine.history.accepted;
            leads = subst (λ (l : List Record). Leads came.w.engine.history.seen.given came.w.engine.history.seen.run l shown.state) then shown.leads;
            is = shown.is;
          };
          at = came.next.at;
          due_is = came.next.due_is;
          no_later = no_later came.next.at new.clock.furthest came.next.up_to_date.resend (sym far_last ∙ came.next.is);
          in_time = subst (λ (n : ℕ). n ≤ last_moment) far_last came.in_time;
        }

    by_asking : AsksOnly a b → ReachesNoFurther goes.before goes.added old.clock.furthest new.clock.furthest
    by_asking (inl within) = inl (omega (arith, within, far_first, far_last))
    by_asking (inr (inl last)) = inr (inl (let at = last.1 in omega (arith, at, last_moment_is, far_last)))
    by_asking (inr (inr came)) = inr (inr (was_due came))

    pub adds_in_time : AddsInTime old new goes.before goes.added
    adds_in_time = record { moments = moments; reaches = by_asking added_up.asks_only }

pub each_session_adds_in_time : EachSessionAddsInTime
each_session_adds_in_time given run most answers a b old new is sound told_old told goes =
    adds_in_time given run most answers a b old new is sound told_old told goes.goes_on goes.was_read

-- ---- a refused opening

same_clock : (error : WorldError) (given : Given) (run : ℕ) (old new : SiteView) → RefusesOpening error given run old new → new.clock ≡ old.clock
same_clock error given run old new (inl one) = one.opens.only.rest.clock
same_clock error given run old new (inr two) = (two.refuses).refuses.opens.only.rest.clock ∙ (two.refuses).before.rest.clock ∙ two.journal.opens.only.rest.clock

nothing_in_time : (old new : SiteView) (before added : List Record) → new.clock ≡ old.clock → added ≡ [] → AddsInTime old new before added
nothing_in_time old new before added clock none = record {
  moments = subst (λ (l : List Record). All (IsBetween old.clock.now new.clock.now) l) (sym none) (All-nil (IsBetween old.clock.now new.clock.now));
  reaches = inl (let same = ap (λ (c : ClockView). c.furthest) clock in omega (arith, same));
}

-- ---- the law

pub each_close_returns : EachCloseReturns
each_close_returns close given run most answers old new sound_old sound start keeps closed =
    let goes : GoesOnDurably most old new = each_close_goes_on close given run most answers old new sound_old sound start keeps closed in
    record {
      goes_on = goes;
      in_time = each_session_adds_in_time given run most answers closed.went.start closed.went.to old new (session_of given run most answers old new closed.went) sound start.told keeps.told goes;
    }

pub each_later_refusal_returns : EachLaterRefusalReturns
each_later_refusal_returns error given run most answers old new sound_old sound start keeps later =
    let goes : GoesOnDurably most old new = each_later_refusal_goes_on error given run most answers old new sound_old sound start keeps later in
    record {
      goes_on = goes;
      in_time = each_session_adds_in_time given run most answers later.went.start later.went.to old new (session_of given run most answers old new later.went) sound start.told keeps.told goes;
    }

pub each_refusal_returns : EachRefusalReturns
each_refusal_returns error given run most answers old new sound_old sound start keeps (inl opening) =
    let nothing : AddsNothing most old new = each_refused_opening_adds_nothing error given run most answers old new sound_old sound start keeps opening in
    record {
      goes_on = nothing.goes_on;
      in_time = nothing_in_time old new nothing.goes_on.before nothing.goes_on.added (same_clock error given run old new opening) nothing.none;
    }
each_refusal_returns error given run most answers old new sound_old sound start keeps (inr later) =
    let returns : ReturnsDurably most old new = each_later_refusal_returns error given run most answers old new sound_old sound start keeps later in
    record { goes_on = returns.goes_on.goes_on; in_time = returns.in_time }
