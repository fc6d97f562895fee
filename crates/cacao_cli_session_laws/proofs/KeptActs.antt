-- Where the disk did not fail, each agent's file keeps its acts, and may have others behind them.
use Rattle.std.proofs.Common.{◌≡◌, ◌≢◌, inl, inr, ◌∙◌, refl, sym, ap, subst, arith, ℕ, suc, ◌+◌, ◌-◌, ◌<◌, ◌≤◌, Bool, true, false, List, [], ◌∷◌, ◌++◌, append_assoc, append-nil, length, Option, Some, None}
use Rattle.std.specs.Prelude.{IsTrue, nat_eq, nat_lt, slice_get}
use Rattle.std.specs.List.{AllByRecursion}
use Rattle.cacao_site.specs.Counts.{DidNotRise, Rose}
use Rattle.cacao_site.specs.Sound.{IsSound}
use Rattle.cacao_site.specs.View.{SiteView}
use Rattle.run_records.specs.Ranges.{ActInRange}
use Rattle.run_records.specs.declared.act.Act.{Act}
use Rattle.flow_core_rules.specs.Givens.{Given}
use Rattle.flow_engine_answers.specs.declared.answers.OperatorAnswer.{OperatorAnswer}
use Rattle.flow_laws.specs.Images.{IsActs, IsAgent}
use Rattle.flow_laws.proofs.OneList.{acts_of_layout}
use Rattle.slpf_actuator.specs.ActuatorView.{ActuatorView, HoldsActs}
use Rattle.flow_world_steps.specs.Grown.{HasGrown, acts_of}
use Rattle.flow_world_steps.specs.Ready.{FilterStands, HoldsActsWithUnsure}
use Rattle.flow_world_steps.specs.Unsure.{UnsureByFilter}
use Rattle.flow_world_steps.specs.Worlds.{Notes}
use Rattle.flow_world_steps.proofs.Unsure.{steps_unsure_act}
use Rattle.flow_world.specs.Openings.{IsFileCause, RefusesJournal, RefusesOpening, RefusesSecond}
use Rattle.flow_world.specs.Sessions.{Went}
use Rattle.flow_world.specs.WorldError.{WorldError}
use Rattle.flow_world.specs.WorldError.TheVariants as error
use Rattle.cacao_cli_ends.specs.Lines.{SaysAtMostALine}
use Rattle.cacao_cli_session_laws.specs.Returning.{GainsActs, KeepsActs}
use Rattle.cacao_cli_session_laws.proofs.ExpireLemmas.{disk-or-not}
use Rattle.cacao_cli_session_laws.proofs.FloodLemmas.{had-acts}
use Rattle.cacao_cli_session_laws.proofs.ReturnedRuns.{sound-reads, sound-there, there-at, told-there}

abbrev HasActs : ℕ → SiteView → SiteView → Type 0
HasActs agent old mid = (acts : List Act) × GainsActs agent acts old mid

less : (a b : ℕ) → nat_lt a b ≡ true → a < b
less a b h = grind arith

not-less : (a b : ℕ) → nat_lt a b ≡ false → b ≤ a
not-less a b h = grind arith

same-number : (a b : ℕ) → nat_eq a b ≡ true → a ≡ b
same-number a b h = grind arith

other-number : (a b : ℕ) → nat_eq a b ≡ false → a ≢ b
other-number a b h = grind arith

-- ---- files that were only opened

-- the file reads as before
pub same-acts-kept : (old mid : SiteView) (agent : ℕ) → mid.disk.reads agent ≡ old.disk.reads agent → (before : List Act) → IsActs (old.disk.reads agent) before → HasActs agent old mid
same-acts-kept old mid agent same before are = (
  [],
  record {
    before = before;
    had = are;
    has = subst (IsActs (mid.disk.reads agent)) (sym (append-nil before)) (subst (λ (image : List ℕ). IsActs image before) (sym same) are);
  },
)

module _ (why : WorldError) (given : Given) (run : ℕ) (old mid : SiteView) where
  first-same : RefusesJournal why given run old mid → (agent : ℕ) → IsAgent agent → mid.disk.reads agent ≡ old.disk.reads agent
  first-same h agent is = (h.opens.only.others agent (λ e. omega (arith, e, is.0))).reads

  second-same : RefusesSecond why given run old mid → why ≢ error.Disk → (agent : ℕ) → IsAgent agent → mid.disk.reads agent ≡ old.disk.reads agent
  second-same h other agent is = last (nat_eq agent (h.refuses.agent + 1)) refl ∙ before (nat_lt h.refuses.agent agent) refl ∙ (h.journal.opens.only.others agent (λ e. omega (arith, e, is.0))).reads
    where
      before : (b : Bool) → nat_lt h.refuses.agent agent ≡ b → h.refuses.middle.disk.reads agent ≡ h.middle.disk.reads agent
      before true e = (h.refuses.before.others agent (inr (less h.refuses.agent agent e))).reads
      before false e = h.refuses.before.reads agent is.0 (not-less h.refuses.agent agent e)

      last : (b : Bool) → nat_eq agent (h.refuses.agent + 1) ≡ b → mid.disk.reads agent ≡ h.refuses.middle.disk.reads agent
      last true e = subst (λ (n : ℕ). mid.disk.reads n ≡ h.refuses.middle.disk.reads n) (sym (same-number agent (h.refuses.agent + 1) e)) (h.refuses.refuses.reads other)
      last false e = (h.refuses.refuses.opens.only.others agent (other-number agent (h.refuses.agent + 1) e)).reads

  second-rose : RefusesSecond why given run old mid → why ≡ error.Disk → DidNotRise old.disk.faults mid.disk.faults → ⊥
  second-rose h e still_ =
      let rose : Rose h.refuses.middle.disk.faults mid.disk.faults = subst (λ (w : WorldError). IsFileCause w (h.refuses.agent + 1) h.refuses.middle mid) e h.refuses.refuses.why in
      let same : h.refuses.middle.disk.faults ≡ old.disk.faults = h.refuses.before.steady ∙ h.journal.steady in
      omega (arith, rose, same, still_.0, still_.1)

  pub refused-acts : RefusesOpening why given run old mid → KeepsActs old mid
  refused-acts (inl h) still_ agent is before are = same-acts-kept old mid agent (first-same h agent is) before are
  refused-acts (inr h) still_ agent is before are = elim (disk-or-not why) [
    | inl failed ↦ absurd (second-rose h failed still_)
    | inr other ↦ same-acts-kept old mid agent (second-same h other agent is) before are
  ]

-- ---- sessions

one-more : (acts : List Act) (act : Act) → AllByRecursion ActInRange acts → ActInRange act → AllByRecursion ActInRange (acts ++ act ∷ [])
one-more [] act all is = (is, tt)
one-more (x ∷ acts) act all is = (all.0, one-more acts act all.1 is)

module _ (old mid : SiteView) (sound : IsSound mid) (told : IsTrue mid.disk.told) (given : Given) (run most : ℕ) (answers : List OperatorAnswer) (went : Went given run most answers old mid) where
  -- an act that may stand behind the others is in range
  unsure-ranges : (e : ℕ × Act) → went.to.notes.unsure_act ≡ Some e → ActInRange e.1
  unsure-ranges e is =
      let by : UnsureByFilter went.start went.to e = steps_unsure_act went.start went.to e (ap (λ (n : Notes). n.unsure_act) went.begins.notes) went.steps is in
      subst (λ (x : ℕ × Act). ActInRange x.1) (sym by.is) by.acted.offers.in_range

  module _ (agent : ℕ) (is : IsAgent agent) (v : ActuatorView) (there : slice_get went.start.filters (agent - 1) ≡ Some v) where
    same-agent : suc (agent - 1) ≡ agent
    same-agent = omega (arith, is.0)

    grown : HasGrown v went.to.filters (agent - 1) (acts_of agent went.sums.grow.acted)
    grown = subst (λ (n : ℕ). HasGrown v went.to.filters (agent - 1) (acts_of n went.sums.grow.acted)) same-agent (went.sums.grow.each (agent - 1) v there)

    stands : FilterStands went.to agent grown.now
    stands = subst (λ (n : ℕ). FilterStands went.to n grown.now) same-agent (went.sums.filters.each (agent - 1) grown.now grown.there)

    gained : (acts : List Act) → IsActs (went.to.site.disk.reads agent) (v.acts ++ acts) → HasActs agent old mid
    gained acts are = (
      acts,
      record {
        before = v.acts;
        had = had-acts given run most answers old mid (sound-reads mid sound) told went agent is v there;
        has = subst (λ (s : SiteView). IsActs (s.disk.reads agent) (v.acts ++ acts)) went.to_is are;
      },
    )

    -- it has the acts that were appended, or these and the one that may stand behind them
    by-unsure : (o : Option (ℕ × Act)) → went.to.notes.unsure_act ≡ o → HoldsActsWithUnsure agent (grown.now).acts o (went.to.site.disk.reads agent) → HasActs agent old mid
    by-unsure o e h = go o e h
      where
        sure : HoldsActs (grown.now).acts (went.to.site.disk.reads agent) → HasActs agent old mid
        sure h = gained (acts_of agent went.sums.grow.acted)
            (subst (IsActs (went.to.site.disk.reads agent)) grown.has (acts_of_layout (went.to.site.disk.reads agent) (grown.now).acts stands.ready.history.ranges h))

        more : (act : Act) → ActInRange act → HoldsActs ((grown.now).acts ++ act ∷ []) (went.to.site.disk.reads agent) → HasActs agent old mid
        more act range h = gained (acts_of agent went.sums.grow.acted ++ act ∷ [])
            (subst (IsActs (went.to.site.disk.reads agent)) (ap (λ (l : List Act). l ++ act ∷ []) grown.has ∙ append_assoc v.acts (acts_of agent went.sums.grow.acted) (act ∷ []))
            (acts_of_layout (went.to.site.disk.reads agent) ((grown.now).acts ++ act ∷ []) (one-more (grown.now).acts act stands.ready.history.ranges range) h))

        go : (o : Option (ℕ × Act)) → went.to.notes.unsure_act ≡ o → HoldsActsWithUnsure agent (grown.now).acts o (went.to.site.disk.reads agent) → HasActs agent old mid
        go None e h = sure h
        go (Some act) e (inl h) = sure h
        go (Some act) e (inr h) = more act.1 (unsure-ranges act e) h.1

    has-acts : HasActs agent old mid
    has-acts =
        let there = told-there given run most answers old mid (sound-reads mid sound) told went in
        by-unsure went.to.notes.unsure_act refl
        (stands.holds there (went.to.site.disk.reads agent) ((sound-there given run most answers old mid (sound-reads mid sound) told went).reads agent there))

  pub went-acts : KeepsActs old mid
  went-acts still_ agent is before are =
      let all : length went.start.filters ≡ 16 = went.files.others.many in
      let found = there-at given run most answers old mid (sound-reads mid sound) told went went.start.filters (agent - 1) (omega (arith, is.0, is.1, all)) in
      has-acts agent is found.0 found.1

-- the last line leaves it so
pub acts-behind : (old mid new : SiteView) → SaysAtMostALine mid new → KeepsActs old mid → KeepsActs old new
acts-behind old mid new (inl is) keeps = subst (λ (s : SiteView). KeepsActs old s) (sym is) keeps
acts-behind old mid new (inr says) keeps = λ still_ agent is before are.
    let k = keeps (subst (λ (n : ℕ). DidNotRise old.disk.faults n) says.disk.faults still_) agent is before are in (
      k.0,
      record {
        before = k.1.before;
        had = k.1.had;
        has = subst (λ (image : List ℕ). IsActs image (k.1.before ++ k.0)) (sym (says.disk.stays agent).reads) k.1.has;
      },
    )
