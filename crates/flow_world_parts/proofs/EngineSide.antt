-- What the engine's side does, from the calls of its engine.
use Rattle.std.proofs.Common.{◌≡◌, ◌≢◌, ◌⊎◌, inl, inr, ℕ, ◌+◌, ◌<◌, ◌≤◌, true, List, [], ◌∷◌, ◌++◌, length, refl, sym, ◌∙◌, subst, ap, arith}
use Rattle.std.specs.Prelude.{Option, Some, None}
use Rattle.std.proofs.lemmas.Bool.{cases_lt}
use Rattle.cacao_site.specs.Sound.{IsSound}
use Rattle.cacao_site.specs.View.{SiteView}
use Rattle.cacao_site.specs.declared.parcel.Parcel.{Parcel}
use Rattle.run_records.specs.declared.record.Record.{Record}
use Rattle.flow_world_steps.specs.HistoryView.{HistoryView, IsReady}
use Rattle.flow_world_steps.specs.Histories.{IsHistory}
use Rattle.flow_world_steps.specs.EngineCalls.{Appends, IsBeginning, IsReply, IsWaiting, Sends}
use Rattle.flow_world_steps.specs.EngineView.{EngineView}
use Rattle.flow_world_steps.specs.OpenIssues.{ArePut, OpenIssues, puts_of}
use Rattle.flow_world_steps.specs.Sides.{AllPut, IsEngine, IsUp, IsWhole}
use Rattle.flow_world_steps.specs.Steps.{IsAddressed}
use Rattle.flow_world_steps.specs.Steps.Step.{begins, puts_first, replies}
use Rattle.flow_world_steps.specs.Steps.Steps.{nothing, and_then}
use Rattle.flow_world_steps.specs.Worlds.{Notes, Phase, holds, owes, rests}
use Rattle.flow_world_steps.proofs.AllPuts.{put_now}
use Rattle.flow_world_steps.proofs.Issues.{below}
use Rattle.flow_world_parts.specs.Leads.{AnyNotes, ArePutBelow, EngineGoes, EngineRefuses, MayAppend}
use Rattle.flow_world_parts.specs.declared.error.WorldError.{WorldError}
use Rattle.flow_world_parts.proofs.EngineSteps.{IsTry, appended, goes_refuses, goes_then}

-- ---- an append and its line

module _ (P : Notes → Type 0) (budget : (notes : Notes) → P notes → 1 ≤ notes.left) (IsNext : Record → Type 0) (so : SiteView) (v : EngineView) (p : Phase) (step : IsTry P IsNext so v p)
    (mid sn : SiteView) (w : EngineView) (is : Appends v w IsNext so mid) (engine : IsEngine w mid) where
  pub append_said : EngineGoes AnyNotes 0 mid w owes sn w rests → EngineGoes P 1 so v p sn w rests
  append_said said = goes_then P 1 0 so mid sn v w w p owes rests (appended P budget IsNext so v p step mid w is engine) said

  pub append_unsaid : (error : WorldError) → EngineRefuses AnyNotes error mid w owes sn → EngineRefuses P error so v p sn
  append_unsaid error unsaid = goes_refuses P 1 error so mid sn v w p owes (appended P budget IsNext so v p step mid w is engine) unsaid

pub engine_is : (w : EngineView) (site : SiteView) → IsReady w.history site → IsHistory w.history → ArePut w.history.seen w.puts → IsEngine w site
engine_is w site ready history put = record { ready = ready; history = history; put = put }

-- ---- the Begin

pub begin_step : (so : SiteView) (v : EngineView) → IsSound so → IsWhole v so → v.history.records ≡ [] → IsTry MayAppend (IsBeginning v.history so.clock.now) so v rests
begin_step so v sound whole empty filters notes given new tries = begins (record { phase = refl; sound = sound; whole = whole; empty = empty; budget = given; tries = tries })

-- ---- a Reply

pub reply_step : (so : SiteView) (v : EngineView) (beat : ℕ) (parcel : Parcel) → IsSound so → IsUp v so → IsAddressed parcel → parcel.back ≡ true
    → IsTry MayAppend (IsReply v.history parcel so.clock.now) so v (holds beat parcel)
reply_step so v beat parcel sound up addressed back filters notes given new tries =
    replies beat parcel (record { holds_reply = record { phase = refl; addressed = addressed; back = back }; sound = sound; up = up; budget = given; tries = tries })

-- ---- a put

same_or_not : (a b : ℕ) → a < b + 1 → (a ≡ b) ⊎ (a < b)
same_or_not a b lt = elim (cases_lt a b) [ inl less ↦ inr less | inr ge ↦ inl (omega (arith, lt, ge)) ]

module _ (v w : EngineView) (issue : ℕ) (so sn : SiteView) (put : ArePutBelow issue v) (sends : Sends v w issue so.clock.now so sn) where
  pub put_goes : IsSound so → IsUp v so → puts_of v.puts issue ≡ None → IsEngine w sn → EngineGoes AnyNotes 0 so v rests sn w rests
  put_goes sound up unput engine filters notes given = record {
    notes = record notes { put = notes.put ++ issue ∷ [] };
    steps = and_then nothing (puts_first issue (record {
      phase = refl;
      sound = sound;
      up = up;
      first = unput;
      least = λ lower it less waiting. put lower it less waiting;
      puts = record { sends = sends; engine = engine; filters = refl; notes = refl; phase = refl };
    }));
    adds = record { left = omega arith; answers = refl; ignored = refl };
  }

  pub put_below : ArePutBelow (issue + 1) w
  put_below lower it less waiting =
      let now = put_now v w issue so.clock.now so sn sends in
      elim (same_or_not lower issue less) [
        | inl e ↦ subst (λ (n : ℕ). puts_of w.puts n ≢ None) (sym e) (λ none. absurd (not_both (puts_of w.puts issue) _ now.here none))
        | inr lt ↦ now.still lower (put lower it lt (subst (λ (h : HistoryView). IsWaiting h.seen lower it) now.history waiting))
      ]
    where
      not_both : {T : Type 0} (o : Option T) (x : T) → o ≡ Some x → o ≡ None → ⊥
      not_both o x e f = let g : Some x ≡ None = sym e ∙ f in cc

  pub put_others : (other : ℕ) → other ≢ issue → puts_of w.puts other ≡ puts_of v.puts other
  put_others = (put_now v w issue so.clock.now so sn sends).others

-- each issue that waits was put where each below their number was
pub all_put : (n : ℕ) (v : EngineView) → length v.history.seen.lists.issues ≤ n → ArePutBelow n v → AllPut v
all_put n v most put issue it waiting = put issue it (omega (arith, most, below v.history.seen.lists.issues issue it waiting.there)) waiting

pub none_put : (v : EngineView) → v.puts ≡ [] → (other : ℕ) → puts_of v.puts other ≡ None
none_put v none other = ap (λ (o : OpenIssues). puts_of o other) none

pub no_records : (records : List Record) (count : ℕ) → count ≡ length records → (count ≡ 0) → records ≡ []
no_records [] count e f = refl
no_records (r ∷ records) count e f = absurd (omega (arith, e, f))
