-- What became of the last of the parcels that changed neither journal, where they were too many.
use Rattle.std.proofs.Common.{◌≡◌, ◌≢◌, ◌⊎◌, inl, inr, ◌∙◌, refl, sym, ap, subst, arith, ℕ, ◌+◌, ◌<◌, Bool, true, false, []}
use Rattle.std.specs.Prelude.{nat_lt}
use Rattle.cacao_site.specs.View.{SiteView}
use Rattle.cacao_site.specs.declared.parcel.Parcel.{Parcel}
use Rattle.run_records.specs.declared.record.Record.{Record}
use Rattle.flow_engine_history.specs.HistoryView.{HistoryView}
use Rattle.flow_engine.specs.EngineView.{EngineView}
use Rattle.slpf_actuator.specs.ActuatorView.{ActuatorView}
use Rattle.flow_world_steps.specs.Appends.{Tries}
use Rattle.flow_world_steps.specs.Appends.Tries.{done, failed, limited}
use Rattle.flow_world_steps.specs.Steps.{Drops, Ignores, IgnoresReply, RepeatsReply, Step, Steps}
use Rattle.flow_world_steps.specs.Steps.Step.{opens_clock, finds_run_used, asks_clock, finds_late, begins, moves, upgrades, tells, expires, says, fails_to_say, puts_first, resends, takes, finds_none, fails_to_take, drops, replies, ignores_reply, acts_on, repeats_reply, fails_to_act, wants_memory_now}
use Rattle.flow_world_steps.specs.Steps.Steps.{nothing, and_then}
use Rattle.flow_world_steps.specs.Turns.{BeginsTurn, most_ignored}
use Rattle.flow_world_steps.specs.Worlds.{Cause, IsGoing, Notes, Phase, World, holds, looked, opened, owes, refused, rests}
use Rattle.flow_world_steps.proofs.Ended.{step_going}
use Rattle.flow_world_steps.proofs.Failing.{fails_notes}
use Rattle.flow_world_laws.specs.Ends.{TurnAt}
use Rattle.flow_world_laws.proofs.Shown.{steps_in_turn}

-- ---- one step

-- the parcel in hand was handed on, and changed neither journal
abbrev pub IgnoresIt : ℕ → Parcel → World → World → Type 0
IgnoresIt beat parcel old new =
    Drops beat parcel old new ⊎ (IgnoresReply beat parcel old new ⊎ ((v : ActuatorView) × (w : ActuatorView) × RepeatsReply beat parcel v w old new))

record HandsOn (old new : World) : Type 0 where
  beat : ℕ
  parcel : Parcel
  in_hand : old.phase ≡ holds beat parcel
  counted : Ignores old new
  ignores : IgnoresIt beat parcel old new
  taken : new.site.link.taken ≡ old.site.link.taken

abbrev SameCount : World → World → Type 0
SameCount old new = new.notes.ignored ≡ old.notes.ignored

of-notes : (old new : World) → new.notes ≡ old.notes → SameCount old new
of-notes old new e = ap (λ (n : Notes). n.ignored) e

tried-count : (IsNext : Record → Type 0) (old new : World) → Tries IsNext old new → SameCount old new
tried-count IsNext old new (done is) = ap (λ (n : Notes). n.ignored) is.notes
tried-count IsNext old new (failed is) = ap (λ (n : Notes). n.ignored) is.notes
tried-count IsNext old new (limited what is) = ap (λ (n : Notes). n.ignored) is.notes

-- each step leaves the count, or hands on a parcel that changed neither journal
step-count : (old new : World) → Step old new → SameCount old new ⊎ HandsOn old new
step-count old new (opens_clock answer is) = inl (ap (λ (n : Notes). n.ignored) is.goes.notes)
step-count old new (finds_run_used agent is) = inl (of-notes old new is.only.notes)
step-count old new (asks_clock moment answer is) = inl (ap (λ (n : Notes). n.ignored) is.goes.notes)
step-count old new (finds_late moment is) = inl (of-notes old new is.only.notes)
step-count old new (begins is) = inl (tried-count _ old new is.tries)
step-count old new (moves is) = inl (tried-count _ old new is.tries)
step-count old new (upgrades issue told is) = inl (tried-count _ old new is.tries)
step-count old new (tells issue told is) = inl (tried-count _ old new is.tries)
step-count old new (expires issue is) = inl (tried-count _ old new is.tries)
step-count old new (says bytes is) = inl (of-notes old new is.speaks.notes)
step-count old new (fails_to_say bytes is) = inl (of-notes old new is.speaks.notes)
step-count old new (puts_first issue is) = inl (ap (λ (n : Notes). n.ignored) is.puts.notes)
step-count old new (resends issue is) = inl (ap (λ (n : Notes). n.ignored) is.puts.notes)
step-count old new (takes parcel is) = inl (of-notes old new is.notes)
step-count old new (finds_none is) = inl (of-notes old new is.notes)
step-count old new (fails_to_take is) = inl (of-notes old new is.notes)
step-count old new (drops beat parcel is) = inr (record {
  beat = beat;
  parcel = parcel;
  in_hand = is.phase;
  counted = is.ignores;
  ignores = inl is;
  taken = ap (λ (s : SiteView). s.link.taken) is.site;
})
step-count old new (replies beat parcel is) = inl (tried-count _ old new is.tries)
step-count old new (ignores_reply beat parcel is) = inr (record {
  beat = beat;
  parcel = parcel;
  in_hand = is.holds_reply.phase;
  counted = is.ignores;
  ignores = inr (inl is);
  taken = ap (λ (s : SiteView). s.link.taken) is.site;
})
step-count old new (acts_on beat parcel v w is) = inl (ap (λ (n : Notes). n.ignored) is.notes)
step-count old new (repeats_reply beat parcel v w is) = inr (record {
  beat = beat;
  parcel = parcel;
  in_hand = is.holds_command.phase;
  counted = is.ignores;
  ignores = inr (inr (v, w, is));
  taken = is.repeats.puts.taken;
})
step-count old new (fails_to_act beat parcel v w error cause is) = inl (ap (λ (n : Notes). n.ignored) (fails_notes error parcel v old new is.notes))
step-count old new (wants_memory_now is) = inl (of-notes old new is.only.notes)

-- ---- where they were too many

-- the session rests as it did, but that commands may have been put
record Rested (old new : World) : Type 0 where
  phase : new.phase ≡ rests
  ignored : new.notes.ignored ≡ old.notes.ignored
  history : new.engine.history ≡ old.engine.history
  taken : new.site.link.taken ≡ old.site.link.taken

-- nothing comes of a run that has begun but that, or a refusal
module _ (old new : World) (here : old.phase ≡ rests) (many : old.notes.ignored ≡ most_ignored) (begun : old.engine.history.records ≢ []) where
  abbrev Goes : Type 0
  Goes = Rested old new ⊎ (IsGoing new.phase → ⊥)

  elsewhere : (p : Phase) → (rests ≡ p → ⊥) → old.phase ≡ p → Goes
  elsewhere p not e = absurd (not (sym here ∙ e))

  turn-not : BeginsTurn old → Goes
  turn-not turn = let calm = turn.calm in absurd (omega (arith, calm, many))

  over : (cause : Cause) (lacks : Bool) → new.phase ≡ refused cause lacks → Goes
  over cause lacks e = inr (λ going. subst IsGoing e going)

  step-rested : Step old new → Goes
  step-rested (opens_clock answer is) = elsewhere opened (λ e. cc) is.phase
  step-rested (finds_run_used agent is) = elsewhere opened (λ e. cc) is.phase
  step-rested (asks_clock moment answer is) = elsewhere looked (λ e. cc) is.next.up_to_date.on_time.untold.idle.has_looked.phase
  step-rested (finds_late moment is) = elsewhere looked (λ e. cc) is.next.up_to_date.on_time.untold.idle.has_looked.phase
  step-rested (begins is) = absurd (begun is.empty)
  step-rested (moves is) = elsewhere looked (λ e. cc) is.has_looked.phase
  step-rested (upgrades issue told is) = elsewhere looked (λ e. cc) is.to_be_told.idle.has_looked.phase
  step-rested (tells issue told is) = elsewhere looked (λ e. cc) is.to_be_told.idle.has_looked.phase
  step-rested (expires issue is) = elsewhere looked (λ e. cc) is.overdue.untold.idle.has_looked.phase
  step-rested (says bytes is) = elsewhere owes (λ e. cc) is.speaks.phase
  step-rested (fails_to_say bytes is) = elsewhere owes (λ e. cc) is.speaks.phase
  step-rested (puts_first issue is) = inl (record {
    phase = is.puts.phase;
    ignored = ap (λ (n : Notes). n.ignored) is.puts.notes;
    history = ap (λ (v : EngineView). v.history) is.puts.sends.view;
    taken = is.puts.sends.put.taken;
  })
  step-rested (resends issue is) = elsewhere looked (λ e. cc) is.due.on_time.untold.idle.has_looked.phase
  step-rested (takes parcel is) = turn-not is.turn
  step-rested (finds_none is) = turn-not is.turn
  step-rested (fails_to_take is) = turn-not is.turn
  step-rested (drops beat parcel is) = elsewhere (holds beat parcel) (λ e. cc) is.phase
  step-rested (replies beat parcel is) = elsewhere (holds beat parcel) (λ e. cc) is.holds_reply.phase
  step-rested (ignores_reply beat parcel is) = elsewhere (holds beat parcel) (λ e. cc) is.holds_reply.phase
  step-rested (acts_on beat parcel v w is) = elsewhere (holds beat parcel) (λ e. cc) is.holds_command.phase
  step-rested (repeats_reply beat parcel v w is) = elsewhere (holds beat parcel) (λ e. cc) is.holds_command.phase
  step-rested (fails_to_act beat parcel v w error cause is) = elsewhere (holds beat parcel) (λ e. cc) is.holds_command.phase
  step-rested (wants_memory_now is) = over _ _ is.only.phase

-- ---- a session

-- The last parcel that was taken was handed on, and changed neither journal; no record and no parcel came behind it.
pub record FloodedBy (a b : World) : Type 0 where
  pub old : World
  pub new : World
  pub before : Steps a old
  pub beat : ℕ
  pub parcel : Parcel
  pub in_hand : old.phase ≡ holds beat parcel
  pub ignores : IgnoresIt beat parcel old new
  pub history : b.engine.history ≡ old.engine.history
  pub taken : b.site.link.taken ≡ old.site.link.taken

-- the session rests behind too many
record IsFull (a w : World) : Type 0 where
  phase : w.phase ≡ rests
  many : w.notes.ignored ≡ most_ignored
  begun : w.engine.history.records ≢ []
  by : FloodedBy a w

-- they are not too many, or the session rests behind them, or is over
abbrev FillsUp : World → World → Type 0
FillsUp a w = (w.notes.ignored < most_ignored) ⊎ (IsFull a w ⊎ (IsGoing w.phase → ⊥))

one-more : (n m : ℕ) → n < m → (n + 1 < m) ⊎ (n + 1 ≡ m)
one-more n m lt = by (nat_lt (n + 1) m) refl
  where
    less : (a b : ℕ) → nat_lt a b ≡ true → a < b
    less a b h = grind arith

    not-less : (a b : ℕ) → nat_lt a b ≡ false → (a < b → ⊥)
    not-less a b h lt = grind arith

    by : (b : Bool) → nat_lt (n + 1) m ≡ b → (n + 1 < m) ⊎ (n + 1 ≡ m)
    by true e = inl (less (n + 1) m e)
    by false e = let not = not-less (n + 1) m e in inr (omega (arith, not, lt))

module _ (a old new : World) (before : Steps a old) (turn : TurnAt old.phase old) (step : Step old new) where
  hands-on : old.notes.ignored < most_ignored → HandsOn old new → FillsUp a new
  hands-on calm h = go (one-more old.notes.ignored most_ignored calm)
    where
      count : new.notes.ignored ≡ old.notes.ignored + 1
      count = ap (λ (n : Notes). n.ignored) h.counted.notes

      in-turn : TurnAt (holds h.beat h.parcel) old
      in-turn = subst (λ (p : Phase). TurnAt p old) h.in_hand turn

      same : new.engine.history ≡ old.engine.history
      same = ap (λ (v : EngineView). v.history) h.counted.engine

      go : (old.notes.ignored + 1 < most_ignored) ⊎ (old.notes.ignored + 1 ≡ most_ignored) → FillsUp a new
      go (inl less) = inl (omega (arith, count, less))
      go (inr full) = inr (inl (record {
        phase = h.counted.phase;
        many = count ∙ full;
        begun = λ none. in-turn.0.may.begun (sym (ap (λ (v : HistoryView). v.records) same) ∙ none);
        by = record {
          old = old;
          new = new;
          before = before;
          beat = h.beat;
          parcel = h.parcel;
          in_hand = h.in_hand;
          ignores = h.ignores;
          history = same;
          taken = h.taken;
        };
      }))

  stays-full : IsFull a old → Rested old new → FillsUp a new
  stays-full f r = inr (inl (record {
    phase = r.phase;
    many = r.ignored ∙ f.many;
    begun = λ none. f.begun (sym (ap (λ (v : HistoryView). v.records) r.history) ∙ none);
    by = record {
      old = f.by.old;
      new = f.by.new;
      before = f.by.before;
      beat = f.by.beat;
      parcel = f.by.parcel;
      in_hand = f.by.in_hand;
      ignores = f.by.ignores;
      history = r.history ∙ f.by.history;
      taken = r.taken ∙ f.by.taken;
    };
  }))

  step-fills : FillsUp a old → FillsUp a new
  step-fills (inl calm) = elim (step-count old new step) [
    | inl same ↦ inl (omega (arith, same, calm))
    | inr h ↦ hands-on calm h
  ]
  step-fills (inr (inl full)) = elim (step-rested old new full.phase full.many full.begun step) [
    | inl r ↦ stays-full full r
    | inr over ↦ inr (inr over)
  ]
  step-fills (inr (inr over)) = absurd (over (step_going old new step))

steps-fill : (a b : World) → a.phase ≡ opened → a.notes.ignored ≡ 0 → Steps a b → FillsUp a b
steps-fill a b first none nothing = inl (omega (arith, none))
steps-fill a b first none (and_then {mid} steps step) = step-fills a mid b steps (steps_in_turn a mid first steps) step (steps-fill a mid first none steps)

pub flooded-by : (a b : World) → a.phase ≡ opened → a.notes.ignored ≡ 0 → Steps a b → b.phase ≡ rests → b.notes.ignored ≡ most_ignored → FloodedBy a b
flooded-by a b first none steps here many = go (steps-fill a b first none steps)
  where
    go : FillsUp a b → FloodedBy a b
    go (inl calm) = absurd (omega (arith, calm, many))
    go (inr (inl full)) = full.by
    go (inr (inr over)) = absurd (over (subst IsGoing (sym here) tt))
