-- Where the calls of an engine lead in a session.
use Rattle.std.proofs.Common.{◌≡◌, ◌≢◌, ℕ, ◌+◌, ◌-◌, ◌≤◌, true, false, List, [], ◌∷◌, length, refl, sym, ◌∙◌, subst, arith}
use Rattle.std.specs.Prelude.{Some, Result, Ok, Err}
use Rattle.cacao_site.specs.Counts.{next_count}
use Rattle.cacao_site.specs.LinkCalls.{Gains}
use Rattle.cacao_site.specs.SayCalls.{SaysOnly}
use Rattle.cacao_site.specs.Sound.{IsSound}
use Rattle.cacao_site.specs.View.{SiteView}
use Rattle.run_records.specs.declared.record.Record.{Record}
use Rattle.flow_world_steps.specs.Histories.{IsLineAt}
use Rattle.flow_world_steps.specs.EngineError.{EngineError}
use Rattle.flow_world_steps.specs.EngineError.TheVariants as engine_error
use Rattle.flow_world_steps.specs.EngineCalls.{Appends, Refused}
use Rattle.flow_world_steps.specs.EngineView.{EngineView}
use Rattle.slpf_actuator.specs.ActuatorView.{ActuatorView}
use Rattle.flow_world_steps.specs.Appends.{Tries}
use Rattle.flow_world_steps.specs.Appends.Tries.{done, failed, limited}
use Rattle.flow_world_steps.specs.Sides.{IsEngine, IsUp}
use Rattle.flow_world_steps.specs.Steps.{IsLastLine, Step, Steps}
use Rattle.flow_world_steps.specs.Steps.Step.{says, fails_to_say, wants_memory_now}
use Rattle.flow_world_steps.specs.Steps.Steps.{nothing, and_then}
use Rattle.flow_world_steps.specs.Worlds.{IsGoing, Notes, Phase, World, disk_failed, not_said, owes, owes_line, past, refused, rests, wants_memory}
use Rattle.flow_world_parts.specs.Errors.{append_refusal}
use Rattle.flow_world_parts.specs.Leads.{AddsTo, AnyNotes, EngineDid, EngineGoes, EngineRefuses, RefusesAt, at}
use Rattle.flow_world_parts.specs.declared.error.WorldError.{WorldError}
use Rattle.flow_world_parts.specs.declared.error.WorldError.TheVariants as error

-- ---- steps in a row

pub steps_then : {a b c : World} → Steps a b → Steps b c → Steps a c
steps_then first nothing = first
steps_then first (and_then steps step) = and_then (steps_then first steps) step

adds_then : (n m : ℕ) (a b c : Notes) → AddsTo n a b → AddsTo m b c → AddsTo (n + m) a c
adds_then n m a b c one two = record {
  left = omega (arith, one.left, two.left);
  answers = two.answers ∙ one.answers;
  ignored = two.ignored ∙ one.ignored;
}

pub goes_then : (P : Notes → Type 0) (n m : ℕ) (so mid sn : SiteView) (v w x : EngineView) (p q r : Phase) → EngineGoes P n so v p mid w q
    → EngineGoes AnyNotes m mid w q sn x r → EngineGoes P (n + m) so v p sn x r
goes_then P n m so mid sn v w x p q r first second filters notes given =
    let one = first filters notes given in
    let two = second filters one.notes tt in
    record { notes = two.notes; steps = steps_then one.steps two.steps; adds = adds_then n m notes one.notes two.notes one.adds two.adds }

pub goes_refuses : (P : Notes → Type 0) (n : ℕ) (error : WorldError) (so mid sn : SiteView) (v w : EngineView) (p q : Phase) → EngineGoes P n so v p mid w q
    → EngineRefuses AnyNotes error mid w q sn → EngineRefuses P error so v p sn
goes_refuses P n error so mid sn v w p q first second filters notes given =
    let one = first filters notes given in
    let two = second filters one.notes tt in
    record { to = two.to; steps = steps_then one.steps two.steps; left_is = two.left_is; refuses = two.refuses }

-- what comes behind calls that went so far
pub did_then : {T : Type 0} (result : Result T WorldError) (P : Notes → Type 0) (n m : ℕ) (so mid sn : SiteView) (v w x : EngineView) (p q : Phase) → EngineGoes P n so v p mid w q
    → EngineDid result AnyNotes m mid w q sn x → EngineDid result P (n + m) so v p sn x
did_then (Ok t) P n m so mid sn v w x p q first second = goes_then P n m so mid sn v w x p q rests first second
did_then (Err error) P n m so mid sn v w x p q first second = goes_refuses P n error so mid sn v w p q first second

-- nothing was done
pub stays_there : (P : Notes → Type 0) (so : SiteView) (v : EngineView) (p : Phase) → EngineGoes P 0 so v p so v p
stays_there P so v p filters notes given = record { notes = notes; steps = nothing; adds = record { left = omega arith; answers = refl; ignored = refl } }

-- ---- want of memory

pub wants : (P : Notes → Type 0) (so : SiteView) (v : EngineView) (p : Phase) → IsGoing p → EngineRefuses P error.Memory so v p so
wants P so v p going filters notes given = record {
  to = at so v filters notes (refused wants_memory (owes_line p));
  steps = and_then nothing (wants_memory_now (record { going = going; only = record { site = refl; sides = record { engine = refl; filters = refl }; notes = refl; phase = refl } }));
  left_is = refl;
  refuses = record { cause = wants_memory; lacks = owes_line p; phase = refl; is = refl };
}

-- ---- lines

-- the line that was made is that of the last record
pub last_line : (v : EngineView) (line bytes : List ℕ) {site : SiteView} → IsUp v site → IsLineAt v.history (length v.history.records - 1) line → bytes ≡ line → IsLastLine v bytes
last_line v line bytes {site} up at same = record {
  n = length v.history.records - 1;
  last = more v.history.records up.begun;
  line = subst (λ (l : List ℕ). IsLineAt v.history (length v.history.records - 1) l) (sym same) at;
}
  where
    more : (records : List Record) → records ≢ [] → length records - 1 + 1 ≡ length records
    more [] some = absurd (some refl)
    more (r ∷ records) some = omega arith

module _ (v : EngineView) (so sn : SiteView) (bytes : List ℕ) (sound : IsSound so) (up : IsUp v so) (line : IsLastLine v bytes) (only : SaysOnly so sn) where
  pub line_said : Gains so.link.said (sn.disk.beat, bytes) sn.link.said → sn.counts.unsaid ≡ so.counts.unsaid → EngineGoes AnyNotes 0 so v owes sn v rests
  line_said said counted filters notes given = record {
    notes = notes;
    steps = and_then nothing (says bytes (record {
      speaks = record { phase = refl; sound = sound; up = up; line = line; only = only; sides = record { engine = refl; filters = refl }; notes = refl };
      said = said;
      counted = counted;
      phase = refl;
    }));
    adds = record { left = omega arith; answers = refl; ignored = refl };
  }

  pub line_unsaid : sn.link.said ≡ so.link.said → sn.counts.unsaid ≡ next_count so.counts.unsaid → EngineRefuses AnyNotes error.Say so v owes sn
  line_unsaid unsaid counted filters notes given = record {
    to = at sn v filters notes (refused not_said true);
    steps = and_then nothing (fails_to_say bytes (record {
      speaks = record { phase = refl; sound = sound; up = up; line = line; only = only; sides = record { engine = refl; filters = refl }; notes = refl };
      unsaid = unsaid;
      counted = counted;
      phase = refl;
    }));
    left_is = refl;
    refuses = record { cause = not_said; lacks = true; phase = refl; is = refl };
  }

-- ---- records

-- Each call that appends is a step by what it tries: `Tries` in a phase. What is asked here is that step, for each world of the engine.
abbrev pub IsTry : (Notes → Type 0) → (Record → Type 0) → SiteView → EngineView → Phase → Type 0
IsTry P IsNext so v p = (filters : List ActuatorView) (notes : Notes) → P notes → (new : World) → Tries IsNext (at so v filters notes p) new → Step (at so v filters notes p) new

module _ (P : Notes → Type 0) (budget : (notes : Notes) → P notes → 1 ≤ notes.left) (IsNext : Record → Type 0) (so : SiteView) (v : EngineView) (p : Phase) (step : IsTry P IsNext so v p) where
  -- it was appended
  pub appended : (sn : SiteView) (w : EngineView) → Appends v w IsNext so sn → IsEngine w sn → EngineGoes P 1 so v p sn w owes
  appended sn w is engine filters notes given = record {
    notes = record notes { left = notes.left - 1 };
    steps = and_then nothing (step filters notes given _ (done (record { appends = is; engine = engine; filters = refl; notes = refl; phase = refl })));
    adds = record { left = omega (arith, budget notes given); answers = refl; ignored = refl };
  }

  -- it was refused
  pub not_appended : (sn : SiteView) (w : EngineView) (why : EngineError) → IsGoing p → owes_line p ≡ false → v.history.broken ≡ false → IsEngine w sn → Refused v w IsNext why so sn
      → EngineRefuses P (append_refusal why) so v p sn
  not_appended sn w engine_error.Disk going none whole engine refuses filters notes given = record {
    to = at sn w filters (record notes { unsure = Some refuses.0.0.comes.next }) (refused disk_failed false);
    steps = and_then nothing (step filters notes given _ (failed (record { refuses = refuses; engine = engine; filters = refl; notes = refl; phase = refl })));
    left_is = refl;
    refuses = record { cause = disk_failed; lacks = false; phase = refl; is = refl };
  }
  not_appended sn w (engine_error.Limit what) going none whole engine refuses filters notes given = record {
    to = at sn w filters notes (refused (past what) false);
    steps = and_then nothing (step filters notes given _ (limited what (record { refuses = refuses; filters = refl; notes = refl; phase = refl })));
    left_is = refl;
    refuses = record { cause = past what; lacks = false; phase = refl; is = refl };
  }
  not_appended sn w engine_error.Memory going none whole engine refuses filters notes given =
      subst (λ (s : SiteView). RefusesAt error.Memory s (at so v filters notes p)) (sym refuses.0.2) (wants P so v p going filters notes given)
  not_appended sn w engine_error.Broken going none whole engine refuses filters notes given = absurd (both whole refuses.0.0)
    where
      both : v.history.broken ≡ false → v.history.broken ≡ true → ⊥
      both e f = let g : false ≡ true = sym e ∙ f in cc
  not_appended sn w (engine_error.Damaged place) going none whole engine refuses filters notes given = absurd refuses.0
  not_appended sn w (engine_error.OtherRun held asked) going none whole engine refuses filters notes given = absurd refuses.0
  not_appended sn w (engine_error.OtherBook index) going none whole engine refuses filters notes given = absurd refuses.0
