-- Where the calls of a session lead, from those of its two sides.
use Rattle.std.proofs.Common.{◌≡◌, ◌⊎◌, inl, inr, ℕ, zero, suc, ◌+◌, ◌-◌, ◌<◌, ◌≤◌, Bool, true, false, List, [], ◌∷◌, length, refl, sym, ◌∙◌, subst, arith}
use Rattle.std.specs.Prelude.{◌↔◌, IsTrue, Option, Some, None, Result, Ok, Err, slice_get}
use Rattle.std.proofs.lemmas.Bool.{cases_lt}
use Rattle.cacao_site.specs.SiteCalls.{TakesNone, TakesOnly, TakesSome}
use Rattle.cacao_site.specs.Sound.{IsSound}
use Rattle.cacao_site.specs.View.{SiteView}
use Rattle.cacao_site.specs.declared.parcel.Parcel.{Parcel}
use Rattle.flow_engine_answers.specs.declared.answers.OperatorAnswer.{OperatorAnswer}
use Rattle.flow_world_steps.specs.EngineCalls.{IsReplyTo}
use Rattle.flow_world_steps.specs.EngineView.{EngineView}
use Rattle.flow_core_rules.specs.Changes.{outcome}
use Rattle.oc2_msg.specs.declared.answers.Answer.{Answer}
use Rattle.slpf_actuator.specs.ActuatorView.{ActuatorView}
use Rattle.flow_world_steps.specs.Steps.{IsAddressed, LacksFilter, Steps}
use Rattle.flow_world_steps.specs.Steps.Step.{takes, finds_none, fails_to_take, drops, ignores_reply}
use Rattle.flow_world_steps.specs.Steps.Steps.{nothing, and_then}
use Rattle.flow_world_steps.specs.Turns.{BeginsTurn, most_ignored}
use Rattle.flow_world_steps.specs.Worlds.{Notes, Phase, holds, looked, refused, rests, wants_memory}
use Rattle.flow_world_parts.specs.Leads.{AnyNotes, ClosesFrom, Counts, Ended, EngineGoes, EngineRefuses, FiltersGo, Goes, IsBetweenTurns, MayAnswer, MayAppend, Refuses, Turned, at, world_of}
use Rattle.flow_world_parts.specs.declared.close.Close.{Close}
use Rattle.flow_world_parts.specs.declared.close.Close.TheVariants as close
use Rattle.flow_world_parts.specs.declared.error.WorldError.{WorldError}
use Rattle.flow_world_parts.specs.declared.error.WorldError.TheVariants as error
use Rattle.flow_world_parts.specs.declared.turns.Session.{Session}
use Rattle.flow_world_parts.proofs.EngineSteps.{steps_then}

-- ---- what the engine's side may know

pub may_append : (answers : List OperatorAnswer) (s : Session) → 1 ≤ s.left → (notes : Notes) → Counts answers s notes → MayAppend notes
may_append answers s some notes counts = omega (arith, some, counts.left)

pub may_answer : (answers : List OperatorAnswer) (s : Session) → 1 ≤ s.left → (notes : Notes) → Counts answers s notes → MayAnswer answers notes
may_answer answers s some notes counts = record { answers_are = counts.answers_are; budget = omega (arith, some, counts.left) }

pub any_notes : (answers : List OperatorAnswer) (s : Session) (notes : Notes) → Counts answers s notes → AnyNotes notes
any_notes answers s notes counts = tt

-- the engine went so far, and the session counts that
pub engine_goes : (answers : List OperatorAnswer) (P : Notes → Type 0) (n : ℕ) (so sn : SiteView) (s t : Session) (p q : Phase) → ((notes : Notes) → Counts answers s notes → P notes)
    → EngineGoes P n so s.engine p sn t.engine q → t.filters ≡ s.filters → t.left + n ≡ s.left → t.ignored ≡ s.ignored → Goes answers so s p sn t q
engine_goes answers P n so sn s t p q from goes filters left ignored notes counts =
    let leads = goes s.filters notes (from notes counts) in
    record {
      notes = leads.notes;
      steps = subst (λ (fs : List ActuatorView). Steps (world_of so s notes p) (at sn t.engine fs leads.notes q)) (sym filters) leads.steps;
      counts = record {
        answers_are = leads.adds.answers ∙ counts.answers_are;
        left = omega (arith, leads.adds.left, counts.left, left);
        ignored = leads.adds.ignored ∙ counts.ignored ∙ sym ignored;
      };
    }

pub engine_refuses : (answers : List OperatorAnswer) (P : Notes → Type 0) (error : WorldError) (so sn : SiteView) (s : Session) (p : Phase) → ((notes : Notes) → Counts answers s notes → P notes)
    → EngineRefuses P error so s.engine p sn → Refuses error answers so s p sn
engine_refuses answers P error so sn s p from refuses notes counts = refuses s.filters notes (from notes counts)

-- the filters went so far
pub filters_go : (answers : List OperatorAnswer) (n beat : ℕ) (parcel : Parcel) (so sn : SiteView) (s t : Session) → s.ignored + 1 ≤ most_ignored
    → FiltersGo n beat parcel so s.filters sn t.filters → t.engine ≡ s.engine → t.left ≡ s.left → t.ignored ≡ s.ignored + n → Goes answers so s (holds beat parcel) sn t rests
filters_go answers n beat parcel so sn s t calm goes engine left ignored notes counts =
    let leads = goes s.engine notes (omega (arith, calm, counts.ignored)) in
    record {
      notes = leads.notes;
      steps = subst (λ (v : EngineView). Steps (world_of so s notes (holds beat parcel)) (at sn v t.filters leads.notes rests)) (sym engine) leads.steps;
      counts = record {
        answers_are = leads.answers ∙ counts.answers_are;
        left = leads.left ∙ counts.left ∙ sym left;
        ignored = omega (arith, leads.ignored, counts.ignored, ignored);
      };
    }

-- ---- one behind the other

pub then_goes : (answers : List OperatorAnswer) (so mid sn : SiteView) (s t u : Session) (p q r : Phase) → Goes answers so s p mid t q → Goes answers mid t q sn u r → Goes answers so s p sn u r
then_goes answers so mid sn s t u p q r first second notes counts =
    let one = first notes counts in
    let two = second one.notes one.counts in
    record { notes = two.notes; steps = steps_then one.steps two.steps; counts = two.counts }

pub then_refuses : (answers : List OperatorAnswer) (error : WorldError) (so mid sn : SiteView) (s t : Session) (p q : Phase) → Goes answers so s p mid t q → Refuses error answers mid t q sn → Refuses error answers so s p sn
then_refuses answers error so mid sn s t p q first second notes counts =
    let one = first notes counts in
    let two = second one.notes one.counts in
    record { to = two.to; steps = steps_then one.steps two.steps; left_is = two.left_is; refuses = two.refuses }

pub then_closes : (answers : List OperatorAnswer) (close : Close) (so mid sn : SiteView) (s t : Session) (p q : Phase) → Goes answers so s p mid t q → ClosesFrom close answers mid t q sn → ClosesFrom close answers so s p sn
then_closes answers close so mid sn s t p q first second notes counts =
    let one = first notes counts in
    let two = second one.notes one.counts in
    record { to = two.to; steps = steps_then one.steps two.steps; left_is = two.left_is; closes = two.closes }

pub then_turned : (result : Result (Option Close) WorldError) (answers : List OperatorAnswer) (so mid sn : SiteView) (s t u : Session) (p q : Phase) → Goes answers so s p mid t q → Turned result answers mid t q sn u
    → Turned result answers so s p sn u
then_turned (Ok None) answers so mid sn s t u p q first second = then_goes answers so mid sn s t u p q rests first second
then_turned (Ok (Some close)) answers so mid sn s t u p q first second = then_closes answers close so mid sn s t p q first second
then_turned (Err error) answers so mid sn s t u p q first second = then_refuses answers error so mid sn s t p q first second

pub then_ended : (result : Result Close WorldError) (answers : List OperatorAnswer) (so mid sn : SiteView) (s t : Session) (p q : Phase) → Goes answers so s p mid t q → Ended result answers mid t q sn
    → Ended result answers so s p sn
then_ended (Ok close) answers so mid sn s t p q first second = then_closes answers close so mid sn s t p q first second
then_ended (Err error) answers so mid sn s t p q first second = then_refuses answers error so mid sn s t p q first second

pub stays_so : (answers : List OperatorAnswer) (so : SiteView) (s : Session) (p : Phase) → Goes answers so s p so s p
stays_so answers so s p notes counts = record { notes = notes; steps = nothing; counts = counts }

-- ---- takes

module _ (answers : List OperatorAnswer) (so sn : SiteView) (s : Session) (sound : IsSound so) (between : IsBetweenTurns s so) (some : 1 ≤ s.left)
    (goes_on : outcome s.engine.history.seen.lists ≡ None) (only : TakesOnly so sn) where
  begins : (notes : Notes) → Counts answers s notes → BeginsTurn (world_of so s notes rests)
  begins notes counts = record {
    phase = refl;
    sound = sound;
    up = between.works.engine.up;
    put = between.put;
    goes_on = goes_on;
    budget = omega (arith, some, counts.left);
    calm = omega (arith, between.calm, counts.ignored);
  }

  pub took : (parcel : Parcel) → TakesSome parcel so sn → Goes answers so s rests sn s (holds sn.disk.beat parcel)
  took parcel is notes counts = record {
    notes = notes;
    steps = and_then nothing (takes parcel (record { turn = begins notes counts; only = only; some = is; sides = record { engine = refl; filters = refl }; notes = refl; phase = refl }));
    counts = counts;
  }

  pub took_none : TakesNone so sn → Goes answers so s rests sn s looked
  took_none is notes counts = record {
    notes = notes;
    steps = and_then nothing (finds_none (record { turn = begins notes counts; only = only; none = is; sides = record { engine = refl; filters = refl }; notes = refl; phase = refl }));
    counts = counts;
  }

  pub took_nothing : sn.link ≡ so.link → Refuses error.Memory answers so s rests sn
  took_nothing is notes counts = record {
    to = world_of sn s notes (refused wants_memory false);
    steps = and_then nothing (fails_to_take (record { turn = begins notes counts; only = only; link = is; sides = record { engine = refl; filters = refl }; notes = refl; phase = refl }));
    left_is = refl;
    refuses = record { cause = wants_memory; lacks = false; phase = refl; is = refl };
  }

-- ---- parcels that change nothing

module _ (answers : List OperatorAnswer) (so : SiteView) (s : Session) (beat : ℕ) (parcel : Parcel) (calm : s.ignored + 1 ≤ most_ignored) where
  abbrev one_more : Session
  one_more = record s { ignored = s.ignored + 1 }

  dropped_for : ((notes : Notes) → (IsAddressed parcel → ⊥) ⊎ LacksFilter (world_of so s notes (holds beat parcel)) parcel) → Goes answers so s (holds beat parcel) so one_more rests
  dropped_for why notes counts = record {
    notes = record notes { ignored = notes.ignored + 1 };
    steps = and_then nothing (drops beat parcel (record {
      phase = refl;
      why = why notes;
      site = refl;
      ignores = record { calm = omega (arith, calm, counts.ignored); engine = refl; filters = refl; notes = refl; phase = refl };
    }));
    counts = record { answers_are = counts.answers_are; left = counts.left; ignored = omega (arith, counts.ignored) };
  }

  pub dropped : (IsAddressed parcel → ⊥) → Goes answers so s (holds beat parcel) so one_more rests
  dropped why = dropped_for (λ notes. inl why)

  -- a command whose filter is not here
  pub lacking : (has : Bool) → IsAddressed parcel → parcel.back ≡ false → (IsTrue has ↔ (parcel.agent ≤ length s.filters)) → has ≡ false → Goes answers so s (holds beat parcel) so one_more rests
  lacking has addressed command here not = dropped_for (λ notes. inr (record { addressed = addressed; is_command = command; none = beyond s.filters (parcel.agent - 1) (omega (arith, far, addressed.low)) }))
    where
      far : length s.filters < parcel.agent
      far = elim (cases_lt (length s.filters) parcel.agent) [
        | inl lt ↦ lt
        | inr le ↦ let e : has ≡ true = here.1 le in absurd (let f : false ≡ true = sym not ∙ e in cc)
      ]

      beyond : {T : Type 0} (xs : List T) (k : ℕ) → length xs ≤ k → slice_get xs k ≡ None
      beyond [] zero le = refl
      beyond [] (suc k) le = refl
      beyond (x ∷ xs) zero le = absurd (omega (arith, le))
      beyond (x ∷ xs) (suc k) le = beyond xs k (omega (arith, le))

  pub reply_ignored : IsAddressed parcel → parcel.back ≡ true → ((read : Answer) → IsReplyTo s.engine.history parcel read → ⊥) → Goes answers so s (holds beat parcel) so one_more rests
  reply_ignored addressed back none notes counts = record {
    notes = record notes { ignored = notes.ignored + 1 };
    steps = and_then nothing (ignores_reply beat parcel (record {
      holds_reply = record { phase = refl; addressed = addressed; back = back };
      no_reply = none;
      site = refl;
      ignores = record { calm = omega (arith, calm, counts.ignored); engine = refl; filters = refl; notes = refl; phase = refl };
    }));
    counts = record { answers_are = counts.answers_are; left = counts.left; ignored = omega (arith, counts.ignored) };
  }

-- one parcel too many
pub flooded : (answers : List OperatorAnswer) (so : SiteView) (s : Session) → s.ignored ≡ most_ignored → ClosesFrom close.Flooded answers so s rests so
flooded answers so s many notes counts = record { to = world_of so s notes rests; steps = nothing; left_is = refl; closes = record { phase = refl; many = counts.ignored ∙ many } }

-- a reply that is none, as the engine's side tells
pub reply_none : (answers : List OperatorAnswer) (so sn : SiteView) (s : Session) (v : EngineView) (beat : ℕ) (parcel : Parcel) → s.ignored + 1 ≤ most_ignored → IsAddressed parcel → parcel.back ≡ true
    → ((read : Answer) → IsReplyTo s.engine.history parcel read → ⊥) → v ≡ s.engine → sn ≡ so → Goes answers so s (holds beat parcel) sn (record s { engine = v; ignored = s.ignored + 1 }) rests
reply_none answers so sn s v beat parcel calm addressed back none same stays =
    subst (λ (x : SiteView). Goes answers so s (holds beat parcel) x (record s { engine = v; ignored = s.ignored + 1 }) rests) (sym stays)
    (subst (λ (x : EngineView). Goes answers so s (holds beat parcel) so (record s { engine = x; ignored = s.ignored + 1 }) rests) (sym same) (reply_ignored answers so s beat parcel calm addressed back none))
