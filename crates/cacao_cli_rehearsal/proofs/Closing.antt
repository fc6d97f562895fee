-- How no session of a rehearsal closes.
use Rattle.std.proofs.Common.{◌≡◌, inl, inr, ℕ, ◌+◌, ◌<◌, ◌≤◌, List, [], ◌∷◌, ◌++◌, length, length-append, None, sym, ◌∙◌, subst, ap, arith}
use Rattle.std.specs.Prelude.{Option, Some, IsSomeAnd}
use Rattle.cacao_site.specs.LinkCalls.{GainsAll}
use Rattle.cacao_site.specs.View.{SiteView}
use Rattle.cacao_site.specs.declared.parcel.Parcel.{Parcel}
use Rattle.run_records.specs.Ranges.{last_moment}
use Rattle.run_records.specs.declared.record.Record.{Record}
use Rattle.flow_engine_history.specs.HistoryView.{HistoryView}
use Rattle.flow_engine_history.specs.Histories.{IsHistory, IsSoFar}
use Rattle.flow_engine_answers.specs.declared.answers.OperatorAnswer.{OperatorAnswer}
use Rattle.flow_core_rules.specs.Earlier.{WasAccepted}
use Rattle.flow_core_rules.specs.Givens.{Given}
use Rattle.flow_core_rules.specs.Moves.{asks}
use Rattle.flow_core_rules.specs.State.{Shown}
use Rattle.flow_world_steps.specs.Causes.{IsShort, Shows}
use Rattle.flow_world_steps.specs.Turns.{most_ignored}
use Rattle.flow_world_steps.specs.Worlds.{Notes, Phase}
use Rattle.flow_world_steps.proofs.Bounded.{records_few}
use Rattle.flow_world.specs.Sessions.{HasClosed}
use Rattle.flow_world.specs.Close.{Close}
use Rattle.flow_world.specs.Close.TheVariants as close
use Rattle.cacao_cli_rehearsal.specs.NewSites.{MayClose}
use Rattle.cacao_cli_rehearsal.proofs.Asking.{asks_none}
use Rattle.cacao_cli_rehearsal.proofs.Moments.{moment_low}

-- ---- what is known of a history

no_question : (records : List Record) (seen : Shown) → WasAccepted seen.given → IsSoFar records seen → asks seen ≡ None
no_question [] seen was blank = ap asks blank
no_question (first ∷ others) seen was after = ap asks after.is ∙ asks_none seen.given seen.run (first ∷ others) after.state was after.leads

low_moment : (records : List Record) (seen : Shown) → IsSoFar records seen → seen.moment ≤ last_moment
low_moment [] seen blank = let none : seen.moment ≡ 0 = ap (λ (s : Shown). s.moment) blank in omega (arith, none)
low_moment (first ∷ others) seen after =
    subst (λ (s : Shown). s.moment ≤ last_moment) (sym after.is) (moment_low seen.given seen.run (first ∷ others) after.state after.leads)

-- ---- parcels

-- so many were not taken, of a list that is told and has as many more
too_many : (old new : Option (List (ℕ × Parcel))) (handled at_hand : List (ℕ × Parcel)) → most_ignored ≤ length handled → GainsAll old (handled ++ at_hand) new
    → IsSomeAnd new (λ taken. length taken < most_ignored) → ⊥
too_many old None handled at_hand many gains few = few
too_many None (Some new) handled at_hand many gains few = gains
too_many (Some old) (Some new) handled at_hand many gains few =
    let all : length new ≡ length old + length (handled ++ at_hand) = ap (λ (l : List (ℕ × Parcel)). length l) gains ∙ length-append old (handled ++ at_hand) in
    let both : length (handled ++ at_hand) ≡ length handled + length at_hand = length-append handled at_hand in
    omega arith

-- ---- a session

module _ (given : Given) (run most : ℕ) (answers : List OperatorAnswer) (old new : SiteView) where
  asks_nobody : (issue : ℕ) → WasAccepted given → HasClosed (close.Asked issue) given run most answers old new → ⊥
  asks_nobody issue was closed =
      let went = closed.went in
      let h : HistoryView = went.to.engine.history in
      let is : IsHistory h = closed.closes.untold.idle.has_looked.up.has_file.engine.history in
      let same : h.seen.given ≡ given = went.sums.given.given ∙ went.begins.given_is in
      let none : asks h.seen ≡ None = no_question h.records h.seen (subst WasAccepted (sym same) was) is.so_far in
      let least = closed.closes.least in
      cc

  pauses_never : 67108864 < most → HasClosed close.Paused given run most answers old new → ⊥
  pauses_never many closed =
      let went = closed.went in
      let adds = went.sums.adds in
      let budget : length adds.added + went.to.notes.left ≡ most = went.sums.budget in
      let none : went.to.notes.left ≡ 0 = closed.closes.none_left in
      let few : length went.to.engine.history.records ≤ 67108864 = records_few went.to.engine.history closed.closes.turn.up.has_file.engine.history in
      let all : length went.to.engine.history.records ≡ length went.start.engine.history.records + length adds.added =
      ap (λ (l : List Record). length l) adds.is ∙ length-append went.start.engine.history.records adds.added in
      omega arith

  waits_never : (moment : ℕ) → (new.clock.asked ≤ 9000000000000000 → new.clock.asked ≤ new.clock.now) → HasClosed (close.Waiting moment) given run most answers old new → ⊥
  waits_never moment reached closed =
      let went = closed.went in
      let short : IsShort went.start went.to moment = subst (λ (p : Phase). Shows p went.start went.to) closed.closes went.cause.shows in
      let low : moment ≤ last_moment = early short in
      let asked : new.clock.asked ≡ moment = ap (λ (s : SiteView). s.clock.asked) (sym went.to_is) ∙ short.asked in
      let now : new.clock.now ≡ went.to.site.clock.now = ap (λ (s : SiteView). s.clock.now) (sym went.to_is) in
      let before : went.to.site.clock.now < moment = short.short in
      let stands : new.clock.asked ≤ new.clock.now = reached (omega arith) in
      omega arith
    where
      early : IsShort closed.went.start closed.went.to moment → moment ≤ last_moment
      early short = elim short.why [
        | inl first ↦
            let h : HistoryView = closed.went.start.engine.history in
            let low = low_moment h.records h.seen closed.went.begins.whole.engine.history.so_far in
            let is = first.is in
            omega arith
        | inr last ↦ last.asks.in_time
      ]

  -- each parcel that changed nothing was taken
  floods_never : IsSomeAnd new.link.taken (λ taken. length taken < most_ignored) → HasClosed close.Flooded given run most answers old new → ⊥
  floods_never few closed =
      let went = closed.went in
      let handles = went.sums.handles in
      let many : went.to.notes.ignored ≡ most_ignored = closed.closes.many in
      let none : went.start.notes.ignored ≡ 0 = ap (λ (n : Notes). n.ignored) went.begins.notes in
      let counted = handles.counted in
      let all : most_ignored ≤ length handles.handled = omega (arith, many, none, counted) in
      too_many went.start.site.link.taken went.to.site.link.taken handles.handled handles.at_hand all handles.takes
      (subst (λ (site : SiteView). IsSomeAnd site.link.taken (λ taken. length taken < most_ignored)) (sym went.to_is) few)

  pub may_close : (how : Close) → WasAccepted given → 67108864 < most → IsSomeAnd new.link.taken (λ taken. length taken < most_ignored) → (new.clock.asked ≤ 9000000000000000 → new.clock.asked ≤ new.clock.now) → HasClosed how given run most answers old new → MayClose how
  may_close (close.Ended well) was many few reached closed = tt
  may_close close.Paused was many few reached closed = pauses_never many closed
  may_close (close.Waiting moment) was many few reached closed = waits_never moment reached closed
  may_close close.Flooded was many few reached closed = floods_never few closed
  may_close (close.Asked issue) was many few reached closed = asks_nobody issue was closed
