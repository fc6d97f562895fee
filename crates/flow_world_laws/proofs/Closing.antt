-- In which turn a session closes, and what its clock counted then.
use Rattle.std.proofs.Common.{◌≡◌, ◌≢◌, inl, inr, ℕ, ◌≤◌, [], sym, ◌∙◌, subst, ap, arith}
use Rattle.std.specs.Prelude.{None}
use Rattle.cacao_site.specs.Counts.{last_count, next_count}
use Rattle.cacao_site.specs.declared.parcel.Parcel.{Parcel}
use Rattle.run_records.specs.declared.record.Record.{Record}
use Rattle.flow_core_rules.specs.Changes.{outcome}
use Rattle.flow_world_steps.specs.HistoryView.{HistoryView}
use Rattle.flow_world_steps.specs.EngineView.{EngineView}
use Rattle.flow_world_steps.specs.Appends.{Tries}
use Rattle.flow_world_steps.specs.Appends.Tries.{done, failed, limited}
use Rattle.flow_world_steps.specs.Causes.{AskedLast}
use Rattle.flow_world_steps.specs.Sides.{AllPut}
use Rattle.flow_world_steps.specs.Steps.{GoesTowards, Ignores, Step, Steps}
use Rattle.flow_world_steps.specs.Steps.Step.{opens_clock, finds_run_used, asks_clock, finds_late, begins, moves, upgrades, tells, expires, says, fails_to_say}
use Rattle.flow_world_steps.specs.Steps.Step.{puts_first, resends, takes, finds_none, fails_to_take, drops, replies, ignores_reply, acts_on, repeats_reply, fails_to_act, wants_memory_now}
use Rattle.flow_world_steps.specs.Steps.Steps.{nothing, and_then}
use Rattle.flow_world_steps.specs.Turns.{HasLooked, most_ignored}
use Rattle.flow_world_steps.specs.Worlds.{Notes, Phase, World, opened, looked, holds, waits}
use Rattle.flow_world_steps.proofs.Ended.{step_going}
use Rattle.flow_world_steps.proofs.Failing.{fails_notes}
use Rattle.flow_world_steps.proofs.Resent.{step_asked}
use Rattle.flow_world.specs.Close.TheVariants as close
use Rattle.flow_world_laws.specs.Ends.{EachCountsShorts, EachEndsInTurn, EndsInTurn, IsInTurn, MayGoOn, TurnAt}
use Rattle.flow_world_laws.proofs.Carried.{steps_shorts}
use Rattle.flow_world_laws.proofs.Shown.{EndShows, step_shows, steps_in_turn}

-- where too many parcels changed nothing, the run may go on
abbrev Floods : World → Type 0
Floods w = w.notes.ignored ≡ most_ignored → MayGoOn w

-- the same records, and as many that may be appended
record Same (old new : World) : Type 0 where
  pub history : new.engine.history ≡ old.engine.history
  pub left : new.notes.left ≡ old.notes.left

may_still : (old new : World) → Same old new → MayGoOn old → MayGoOn new
may_still old new same is = record {
  begun = subst (λ (h : HistoryView). h.records ≢ []) (sym same.history) is.begun;
  goes_on = subst (λ (h : HistoryView). outcome h.seen.lists ≡ None) (sym same.history) is.goes_on;
  budget = subst (λ (n : ℕ). 1 ≤ n) (sym same.left) is.budget;
}

still : (old new : World) → Same old new → new.notes.ignored ≡ old.notes.ignored → Floods old → Floods new
still old new same ignored was e = may_still old new same (was (sym ignored ∙ e))

of_engine : (old new : World) → new.engine ≡ old.engine → new.notes.left ≡ old.notes.left → Same old new
of_engine old new engine left = record { history = ap (λ (v : EngineView). v.history) engine; left = left }

-- neither the engine nor the notes changed
calm_still : (old new : World) → new.engine ≡ old.engine → new.notes ≡ old.notes → Floods old → Floods new
calm_still old new engine notes = still old new (of_engine old new engine (ap (λ (n : Notes). n.left) notes)) (ap (λ (n : Notes). n.ignored) notes)

went : (moment answer : ℕ) (old new : World) → GoesTowards moment answer old new → Floods old → Floods new
went moment answer old new is = still old new (of_engine old new is.sides.engine (ap (λ (n : Notes). n.left) is.notes)) (ap (λ (n : Notes). n.ignored) is.notes)

-- no record is appended where too many parcels changed nothing
tried : (IsNext : Record → Type 0) (old new : World) → (old.notes.ignored ≡ most_ignored → ⊥) → Tries IsNext old new → Floods new
tried IsNext old new not (done is) e = absurd (not (sym (ap (λ (n : Notes). n.ignored) is.notes) ∙ e))
tried IsNext old new not (failed is) e = absurd (not (sym (ap (λ (n : Notes). n.ignored) is.notes) ∙ e))
tried IsNext old new not (limited what is) e = absurd (not (sym (ap (λ (n : Notes). n.ignored) is.notes) ∙ e))

at : (w : World) (p : Phase) → w.phase ≡ p → TurnAt w.phase w → TurnAt p w
at w p e is = subst (λ (x : Phase). TurnAt x w) e is

looked_calm : (w : World) → TurnAt w.phase w → w.phase ≡ looked → w.notes.ignored ≡ most_ignored → ⊥
looked_calm w turn e many = let calm = (at w looked e turn).calm in omega (arith, calm, many)

holds_calm : (w : World) (beat : ℕ) (parcel : Parcel) → TurnAt w.phase w → w.phase ≡ holds beat parcel → w.notes.ignored ≡ most_ignored → ⊥
holds_calm w beat parcel turn e many = let calm = (at w (holds beat parcel) e turn).0.calm in omega (arith, calm, many)

ignored : (old new : World) (beat : ℕ) (parcel : Parcel) → TurnAt old.phase old → old.phase ≡ holds beat parcel → Ignores old new → Floods new
ignored old new beat parcel turn e is many =
    may_still old new (of_engine old new is.engine (ap (λ (n : Notes). n.left) is.notes)) (at old (holds beat parcel) e turn).0.may

step_floods : (old new : World) → TurnAt old.phase old → Floods old → Step old new → Floods new
step_floods old new turn was (opens_clock answer is) = went _ answer old new is.goes was
step_floods old new turn was (finds_run_used agent is) = calm_still old new is.only.sides.engine is.only.notes was
step_floods old new turn was (asks_clock moment answer is) = went moment answer old new is.goes was
step_floods old new turn was (finds_late moment is) = calm_still old new is.only.sides.engine is.only.notes was
step_floods old new turn was (begins is) = tried _ old new (λ many. (was many).begun is.empty) is.tries
step_floods old new turn was (moves is) = tried _ old new (looked_calm old turn is.has_looked.phase) is.tries
step_floods old new turn was (upgrades issue told is) = tried _ old new (looked_calm old turn is.to_be_told.idle.has_looked.phase) is.tries
step_floods old new turn was (tells issue told is) = tried _ old new (looked_calm old turn is.to_be_told.idle.has_looked.phase) is.tries
step_floods old new turn was (expires issue is) = tried _ old new (looked_calm old turn is.overdue.untold.idle.has_looked.phase) is.tries
step_floods old new turn was (says bytes is) = calm_still old new is.speaks.sides.engine is.speaks.notes was
step_floods old new turn was (fails_to_say bytes is) = calm_still old new is.speaks.sides.engine is.speaks.notes was
step_floods old new turn was (puts_first issue is) = still old new (record { history = ap (λ (v : EngineView). v.history) is.puts.sends.view; left = ap (λ (n : Notes). n.left) is.puts.notes }) (ap (λ (n : Notes). n.ignored) is.puts.notes) was
step_floods old new turn was (resends issue is) = still old new (record { history = ap (λ (v : EngineView). v.history) is.puts.sends.view; left = ap (λ (n : Notes). n.left) is.puts.notes }) (ap (λ (n : Notes). n.ignored) is.puts.notes) was
step_floods old new turn was (takes parcel is) = calm_still old new is.sides.engine is.notes was
step_floods old new turn was (finds_none is) = calm_still old new is.sides.engine is.notes was
step_floods old new turn was (fails_to_take is) = calm_still old new is.sides.engine is.notes was
step_floods old new turn was (drops beat parcel is) = ignored old new beat parcel turn is.phase is.ignores
step_floods old new turn was (replies beat parcel is) = tried _ old new (holds_calm old beat parcel turn is.holds_reply.phase) is.tries
step_floods old new turn was (ignores_reply beat parcel is) = ignored old new beat parcel turn is.holds_reply.phase is.ignores
step_floods old new turn was (acts_on beat parcel v w is) = still old new (of_engine old new is.engine (ap (λ (n : Notes). n.left) is.notes)) (ap (λ (n : Notes). n.ignored) is.notes) was
step_floods old new turn was (repeats_reply beat parcel v w is) = ignored old new beat parcel turn is.holds_command.phase is.ignores
step_floods old new turn was (fails_to_act beat parcel v w error cause is) =
    let notes = fails_notes error parcel v old new is.notes in
    still old new (of_engine old new is.engine (ap (λ (n : Notes). n.left) notes)) (ap (λ (n : Notes). n.ignored) notes) was
step_floods old new turn was (wants_memory_now is) = calm_still old new is.only.sides.engine is.only.notes was

steps_flood : (a b : World) → a.phase ≡ opened → a.notes.ignored ≡ 0 → Steps a b → Floods b
steps_flood a b first none nothing = λ many. absurd (omega (arith, none, many))
steps_flood a b first none (and_then {mid} steps step) = step_floods mid b (steps_in_turn a mid first steps) (steps_flood a mid first none steps) step

-- ---- closes

no_wait : (P : Type 0) (p : Phase) (moment : ℕ) → p ≡ opened → p ≡ waits moment → P
no_wait P p moment e f = absurd (not (sym e ∙ f))
  where
    not : opened ≡ waits moment → ⊥
    not h = cc

-- the clock is asked in a turn
asked_in_turn : (a b : World) (moment : ℕ) → a.phase ≡ opened → AskedLast a b moment → IsInTurn b
asked_in_turn a b moment first is =
    let goes = is.asks.goes in
    let has_looked : HasLooked is.old = is.asks.next.up_to_date.on_time.untold.idle.has_looked in
    let turn = at is.old looked has_looked.phase (steps_in_turn a is.old first is.before) in
    record {
      may = may_still is.old b (of_engine is.old b goes.sides.engine (ap (λ (n : Notes). n.left) goes.notes)) turn.may;
      put = subst (λ (v : EngineView). AllPut v) (sym goes.sides.engine) turn.put;
      calm = let same = ap (λ (n : Notes). n.ignored) goes.notes in let calm = turn.calm in omega (arith, same, calm);
    }

waits_in_turn : (a b : World) (moment : ℕ) → a.phase ≡ opened → Steps a b → b.phase ≡ waits moment → EndsInTurn (close.Waiting moment) a b
waits_in_turn a b moment first nothing e = no_wait _ a.phase moment first e
waits_in_turn a b moment first (and_then {mid} steps step) e = elim (step_asked a mid b moment first steps step e) [
  | inl one ↦ inl one
  | inr last ↦ inr (asked_in_turn a b moment first last)
]

pub steps_end_in_turn : EachEndsInTurn
steps_end_in_turn a b first none steps (close.Ended well) is = tt
steps_end_in_turn a b first none steps close.Paused is = tt
steps_end_in_turn a b first none steps (close.Waiting moment) is = waits_in_turn a b moment first steps is
steps_end_in_turn a b first none steps close.Flooded is = steps_flood a b first none steps is.many
steps_end_in_turn a b first none steps (close.Asked issue) is = at b looked is.untold.idle.has_looked.phase (steps_in_turn a b first steps)

-- ---- counts

counts_at : (a b : World) → a.phase ≡ opened → Steps a b → (moment : ℕ) → b.phase ≡ waits moment → b.site.clock.shorts ≡ next_count a.site.clock.shorts
counts_at a b first nothing moment e = no_wait _ a.phase moment first e
counts_at a b first (and_then {mid} steps step) moment e =
    let one = subst (λ (x : Phase). EndShows x mid b) e (step_shows mid b step) in
    elim (steps_shorts a mid steps) [
      | inl same ↦ one ∙ ap next_count same
      | inr over ↦ absurd (over.1 (step_going mid b step))
    ]

grown : (x y : ℕ) → y ≡ next_count x → x ≤ last_count → x ≤ y
grown x y e fits = omega (arith, e, fits)

pub steps_count_shorts : EachCountsShorts
steps_count_shorts a b first steps = record {
  stays = λ going. elim (steps_shorts a b steps) [ inl same ↦ same | inr over ↦ absurd (over.1 going) ];
  counts = counts_at a b first steps;
  never_falls = λ fits. elim (steps_shorts a b steps) [
    | inl same ↦ omega (arith, same)
    | inr over ↦ grown a.site.clock.shorts b.site.clock.shorts over.0 fits
  ];
}
