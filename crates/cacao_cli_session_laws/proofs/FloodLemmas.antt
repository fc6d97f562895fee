-- What the filters' files gained in a session, and how many parcels it took.
use Rattle.std.proofs.Common.{◌≡◌, ◌≢◌, ◌∙◌, refl, sym, ap, subst, arith, ℕ, zero, suc, ◌+◌, ◌-◌, ◌<◌, ◌≤◌, Bool, true, false, List, [], ◌∷◌, ◌++◌, length, length-append, Option, Some, None}
use Rattle.std.specs.Prelude.{IfSome, IsSome, IsTrue, nat_eq, slice_get, if◌then◌else◌}
use Rattle.std.specs.List.{AllByRecursion}
use Rattle.std.proofs.lemmas.Bool.{false≢true}
use Rattle.cacao_site.specs.LinkCalls.{GainsAll}
use Rattle.cacao_site.specs.View.{LinkView, SiteView}
use Rattle.cacao_site.specs.declared.parcel.Parcel.{Parcel}
use Rattle.run_records.specs.declared.act.Act.{Act}
use Rattle.run_records.specs.declared.record.Record.{Record}
use Rattle.flow_core_rules.specs.Givens.{Given}
use Rattle.flow_engine_answers.specs.declared.answers.OperatorAnswer.{OperatorAnswer}
use Rattle.flow_laws.specs.Images.{IsActs, IsAgent}
use Rattle.flow_laws.proofs.OneList.{acts_of_layout, same_acts, same_records}
use Rattle.slpf_actuator.specs.ActuatorView.{ActuatorView}
use Rattle.flow_world_steps.specs.Appends.{Tries}
use Rattle.flow_world_steps.specs.Appends.Tries.{done, failed, limited}
use Rattle.flow_world_steps.specs.Grown.{HasGrown, acts_of}
use Rattle.flow_world_steps.specs.Handled.{IsAtHand, one_reply}
use Rattle.flow_world_steps.specs.Steps.{Step, Steps}
use Rattle.flow_world_steps.specs.Steps.Step.{opens_clock, finds_run_used, asks_clock, finds_late, begins, moves, upgrades, tells, expires, says, fails_to_say, puts_first, resends, takes, finds_none, fails_to_take, drops, replies, ignores_reply, acts_on, repeats_reply, fails_to_act, wants_memory_now}
use Rattle.flow_world_steps.specs.Steps.Steps.{nothing, and_then}
use Rattle.flow_world_steps.specs.Sums.{total}
use Rattle.flow_world_steps.specs.Unbroken.{AreFiltersSure, IsJournalSure}
use Rattle.flow_world_steps.specs.Worlds.{Notes, Phase, World}
use Rattle.flow_world_steps.proofs.Failing.{fails_notes}
use Rattle.flow_world.specs.Openings.{IsFilterOpen}
use Rattle.flow_world.specs.Sessions.{Went}
use Rattle.cacao_cli_session_laws.specs.Returning.{FloodsSo, GainsActs}
use Rattle.cacao_cli_ends.specs.Work.{Start}
use Rattle.cacao_cli_session_laws.proofs.ReturnedRuns.{ReadsImages, gains-added, holds-there, there-at, told-start}

-- ---- acts are of agents

abbrev pub AreOfAgents : List (ℕ × Act) → Type 0
AreOfAgents acted = AllByRecursion (λ (e : ℕ × Act). IsAgent e.0) acted

one-more : (acted : List (ℕ × Act)) (e : ℕ × Act) → AreOfAgents acted → IsAgent e.0 → AreOfAgents (acted ++ e ∷ [])
one-more [] e all is = (is, tt)
one-more (x ∷ acted) e all is = (all.0, one-more acted e all.1 is)

kept : (old new : World) → new.notes.acted ≡ old.notes.acted → AreOfAgents old.notes.acted → AreOfAgents new.notes.acted
kept old new same all = subst AreOfAgents (sym same) all

tried : (IsNext : Record → Type 0) (old new : World) → Tries IsNext old new → new.notes.acted ≡ old.notes.acted
tried IsNext old new (done is) = ap (λ (n : Notes). n.acted) is.notes
tried IsNext old new (failed is) = ap (λ (n : Notes). n.acted) is.notes
tried IsNext old new (limited what is) = ap (λ (n : Notes). n.acted) is.notes

step-agents : (old new : World) → Step old new → AreOfAgents old.notes.acted → AreOfAgents new.notes.acted
step-agents old new (opens_clock answer is) all = kept old new (ap (λ (n : Notes). n.acted) is.goes.notes) all
step-agents old new (finds_run_used agent is) all = kept old new (ap (λ (n : Notes). n.acted) is.only.notes) all
step-agents old new (asks_clock moment answer is) all = kept old new (ap (λ (n : Notes). n.acted) is.goes.notes) all
step-agents old new (finds_late moment is) all = kept old new (ap (λ (n : Notes). n.acted) is.only.notes) all
step-agents old new (begins is) all = kept old new (tried _ old new is.tries) all
step-agents old new (moves is) all = kept old new (tried _ old new is.tries) all
step-agents old new (upgrades issue told is) all = kept old new (tried _ old new is.tries) all
step-agents old new (tells issue told is) all = kept old new (tried _ old new is.tries) all
step-agents old new (expires issue is) all = kept old new (tried _ old new is.tries) all
step-agents old new (says bytes is) all = kept old new (ap (λ (n : Notes). n.acted) is.speaks.notes) all
step-agents old new (fails_to_say bytes is) all = kept old new (ap (λ (n : Notes). n.acted) is.speaks.notes) all
step-agents old new (puts_first issue is) all = kept old new (ap (λ (n : Notes). n.acted) is.puts.notes) all
step-agents old new (resends issue is) all = kept old new (ap (λ (n : Notes). n.acted) is.puts.notes) all
step-agents old new (takes parcel is) all = kept old new (ap (λ (n : Notes). n.acted) is.notes) all
step-agents old new (finds_none is) all = kept old new (ap (λ (n : Notes). n.acted) is.notes) all
step-agents old new (fails_to_take is) all = kept old new (ap (λ (n : Notes). n.acted) is.notes) all
step-agents old new (drops beat parcel is) all = kept old new (ap (λ (n : Notes). n.acted) is.ignores.notes) all
step-agents old new (replies beat parcel is) all = kept old new (tried _ old new is.tries) all
step-agents old new (ignores_reply beat parcel is) all = kept old new (ap (λ (n : Notes). n.acted) is.ignores.notes) all
step-agents old new (acts_on beat parcel v w is) all =
    let addressed = is.holds_command.addressed in
    subst AreOfAgents (sym (ap (λ (n : Notes). n.acted) is.notes)) (one-more old.notes.acted _ all (addressed.low, addressed.high))
step-agents old new (repeats_reply beat parcel v w is) all = kept old new (ap (λ (n : Notes). n.acted) is.ignores.notes) all
step-agents old new (fails_to_act beat parcel v w error cause is) all = kept old new (ap (λ (n : Notes). n.acted) (fails_notes error parcel v old new is.notes)) all
step-agents old new (wants_memory_now is) all = kept old new (ap (λ (n : Notes). n.acted) is.only.notes) all

steps-agents : (a b : World) → Steps a b → AreOfAgents a.notes.acted → AreOfAgents b.notes.acted
steps-agents a b nothing all = all
steps-agents a b (and_then {mid} steps step) all = step-agents mid b step (steps-agents a mid steps all)

-- ---- what was gained

pub same-added : (xs ys zs : List Record) → xs ++ ys ≡ xs ++ zs → ys ≡ zs
same-added [] ys zs e = e
same-added (x ∷ xs) ys zs e = same-added xs ys zs (tails e)
  where
    tails : x ∷ (xs ++ ys) ≡ x ∷ (xs ++ zs) → xs ++ ys ≡ xs ++ zs
    tails e = cc

-- so many more were taken, where that is told
pub taken-exactly : (before after : Option (List (ℕ × Parcel))) (more : List (ℕ × Parcel)) (many : ℕ) → length more ≡ many → GainsAll before more after
    → IfSome before (λ before. IfSome after (λ after. length after ≡ length before + many))
taken-exactly None after more many le g = tt
taken-exactly (Some xs) None more many le g = tt
taken-exactly (Some xs) (Some ys) more many le g =
    let long : length ys ≡ length (xs ++ more) = ap (λ (l : List (ℕ × Parcel)). length l) g in
    omega (arith, le, long, length-append xs more)

-- ---- acts by their agents

-- how many acts the agents up to this one have
abbrev count : ℕ → List (ℕ × Act) → ℕ
count zero acted = 0
count (suc n) acted = length (acts_of (suc n) acted) + count n acted

same-number : (a b : ℕ) → nat_eq a b ≡ true → a ≡ b
same-number a b h = grind arith

other-number : (a b : ℕ) → nat_eq a b ≡ false → a ≢ b
other-number a b h = grind arith

count-past : (n : ℕ) (e : ℕ × Act) (acted : List (ℕ × Act)) → n < e.0 → count n (e ∷ acted) ≡ count n acted
count-past zero e acted lt = refl
count-past (suc n) e acted lt = by (nat_eq e.0 (suc n)) refl (count-past n e acted (omega (arith, lt)))
  where
    by : (b : Bool) → nat_eq e.0 (suc n) ≡ b → count n (e ∷ acted) ≡ count n acted
        → length (if b then e.1 ∷ acts_of (suc n) acted else acts_of (suc n) acted) + count n (e ∷ acted) ≡ length (acts_of (suc n) acted) + count n acted
    by true is rest = let same = same-number e.0 (suc n) is in absurd (omega (arith, same, lt))
    by false is rest = ap (λ (k : ℕ). length (acts_of (suc n) acted) + k) rest

count-more : (n : ℕ) (e : ℕ × Act) (acted : List (ℕ × Act)) → 1 ≤ e.0 → e.0 ≤ n → count n (e ∷ acted) ≡ suc (count n acted)
count-more zero e acted low high = absurd (omega (arith, low, high))
count-more (suc n) e acted low high = by (nat_eq e.0 (suc n)) refl (λ lt. count-past n e acted lt) (λ le. count-more n e acted low le)
  where
    by : (b : Bool) → nat_eq e.0 (suc n) ≡ b → (n < e.0 → count n (e ∷ acted) ≡ count n acted) → (e.0 ≤ n → count n (e ∷ acted) ≡ suc (count n acted))
        → length (if b then e.1 ∷ acts_of (suc n) acted else acts_of (suc n) acted) + count n (e ∷ acted) ≡ suc (length (acts_of (suc n) acted) + count n acted)
    by true is past_ more = let same = same-number e.0 (suc n) is in let rest = past_ (omega (arith, same)) in omega (arith, rest)
    by false is past_ more = let other = other-number e.0 (suc n) is in let rest = more (omega (arith, other, high)) in omega (arith, rest)

count-none : (n : ℕ) → count n [] ≡ 0
count-none zero = refl
count-none (suc n) = let rest = count-none n in omega (arith, rest)

counted-all : (acted : List (ℕ × Act)) → AreOfAgents acted → length acted ≡ count 16 acted
counted-all [] all = sym (count-none 16)
counted-all (e ∷ acted) all =
    let rest = counted-all acted all.1 in
    let more = count-more 16 e acted all.0.0 all.0.1 in
    omega (arith, rest, more)

count-same : (n : ℕ) (xs ys : List (ℕ × Act)) → n ≤ 16 → ((agent : ℕ) → IsAgent agent → acts_of agent xs ≡ acts_of agent ys) → count n xs ≡ count n ys
count-same zero xs ys le each = refl
count-same (suc n) xs ys le each =
    let here : length (acts_of (suc n) xs) ≡ length (acts_of (suc n) ys) = ap (λ (l : List Act). length l) (each (suc n) (omega arith, le)) in
    let rest = count-same n xs ys (omega (arith, le)) each in
    omega (arith, here, rest)

-- as many acts, where each agent has the same
same-many : (xs ys : List (ℕ × Act)) → AreOfAgents xs → AreOfAgents ys → ((agent : ℕ) → IsAgent agent → acts_of agent xs ≡ acts_of agent ys) → length xs ≡ length ys
same-many xs ys p q each =
    let one = counted-all xs p in
    let two = counted-all ys q in
    let same = count-same 16 xs ys (omega arith) each in
    omega (arith, one, two, same)

same-behind : (xs ys zs : List Act) → xs ++ ys ≡ xs ++ zs → ys ≡ zs
same-behind [] ys zs e = e
same-behind (x ∷ xs) ys zs e = same-behind xs ys zs (tails e)
  where
    tails : x ∷ (xs ++ ys) ≡ x ∷ (xs ++ zs) → xs ++ ys ≡ xs ++ zs
    tails e = cc

-- an agent's file gained one list of acts
one-gain : (agent : ℕ) (xs ys : List Act) (old mid : SiteView) → GainsActs agent xs old mid → GainsActs agent ys old mid → xs ≡ ys
one-gain agent xs ys old mid a b =
    let before : a.before ≡ b.before = same_acts (old.disk.reads agent) a.before b.before a.had b.had in
    same-behind b.before xs ys (subst (λ (l : List Act). l ++ xs ≡ b.before ++ ys) before (same_acts (mid.disk.reads agent) (a.before ++ xs) (b.before ++ ys) a.has b.has))

-- one number of parcels was taken
one-number : (o p : Option (List (ℕ × Parcel))) (a b : ℕ) → IsSome o → IsSome p → IfSome o (λ before. IfSome p (λ after. length after ≡ length before + a))
    → IfSome o (λ before. IfSome p (λ after. length after ≡ length before + b)) → a ≡ b
one-number None p a b some more f g = absurd (false≢true some)
one-number (Some xs) None a b some more f g = absurd (false≢true more)
one-number (Some xs) (Some ys) a b some more f g = omega (arith, f, g)

pub some-after : (o p : Option (List (ℕ × Parcel))) (more : List (ℕ × Parcel)) → IsSome o → GainsAll o more p → IsSome p
some-after None p more some g = absurd (false≢true some)
some-after (Some xs) None more some g = absurd g
some-after (Some xs) (Some ys) more some g = refl

-- none was taken: it was not flooded
pub same-not : (start : Start) (old mid : SiteView) → mid.link.taken ≡ old.link.taken → FloodsSo start old mid → IsSome old.link.taken → ⊥
same-not start old mid same f some = by old.link.taken some (subst (λ (o : Option (List (ℕ × Parcel))). IfSome old.link.taken (λ before. IfSome o (λ after.
    length after ≡ length before + (1_000_000 + total one_reply f.may.gains.added + length f.acted)))) same f.taken)
  where
    by : (o : Option (List (ℕ × Parcel))) → IsSome o → IfSome o (λ before. IfSome o (λ after. length after ≡ length before + (1_000_000 + total one_reply f.may.gains.added + length f.acted))) → ⊥
    by None some g = false≢true some
    by (Some xs) some g = omega (arith, g)

module _ (given : Given) (run most : ℕ) (answers : List OperatorAnswer) (old mid : SiteView) (sound : ReadsImages mid) (told : IsTrue mid.disk.told) (went : Went given run most answers old mid) where
  pub none-acted : went.start.notes.acted ≡ []
  none-acted = ap (λ (n : Notes). n.acted) went.begins.notes

  -- the acts that were appended
  pub acted-is : went.to.notes.acted ≡ went.sums.grow.acted
  acted-is = went.sums.grow.acts ∙ ap (λ (l : List (ℕ × Act)). l ++ went.sums.grow.acted) none-acted

  pub acted-agents : AreOfAgents went.sums.grow.acted
  acted-agents = subst AreOfAgents acted-is (steps-agents went.start went.to went.steps (subst AreOfAgents (sym none-acted) tt))

  -- the acts that a filter was opened with are those that its file had when the call began
  pub had-acts : (agent : ℕ) → IsAgent agent → (v : ActuatorView) → slice_get went.start.filters (agent - 1) ≡ Some v → IsActs (old.disk.reads agent) v.acts
  had-acts agent is v there =
      subst (λ (image : List ℕ). IsActs image v.acts) as-before
      (acts_of_layout (went.start.site.disk.reads agent) v.acts open_.filter.ready.history.ranges (open_.stands (told-start given run most answers old mid sound told went)))
    where
      same : suc (agent - 1) ≡ agent
      same = omega (arith, is.0)

      open_ : IsFilterOpen agent went.start.site v
      open_ = subst (λ (n : ℕ). IsFilterOpen n went.start.site v) same (went.files.others.each (agent - 1) v there)

      as-before : went.start.site.disk.reads agent ≡ old.disk.reads agent
      as-before = went.files.others.reads agent is.0 is.1 ∙ (went.files.journal.opens.only.others agent (λ e. omega (arith, e, is.0))).reads

  pub gained-acts : AreFiltersSure went.to → (agent : ℕ) → IsAgent agent → GainsActs agent (acts_of agent went.sums.grow.acted) old mid
  gained-acts sure agent is =
      let all : length went.start.filters ≡ 16 = went.files.others.many in
      let found = there-at given run most answers old mid sound told went went.start.filters (agent - 1) (omega (arith, is.0, is.1, all)) in
      let same : suc (agent - 1) ≡ agent = omega (arith, is.0) in
      let grown : HasGrown found.0 went.to.filters (agent - 1) (acts_of agent went.sums.grow.acted) =
      subst (λ (n : ℕ). HasGrown found.0 went.to.filters (agent - 1) (acts_of n went.sums.grow.acted)) same (went.sums.grow.each (agent - 1) found.0 found.1) in
      let f = holds-there given run most answers old mid sound told went sure agent is.0 grown.now grown.there in
      record {
        before = (found.0).acts;
        had = had-acts agent is found.0 found.1;
        has = subst (IsActs (mid.disk.reads agent)) grown.has (acts_of_layout (mid.disk.reads agent) (grown.now).acts f.history.ranges f.holds);
      }

  pub hand-empty : (phase : Phase) → went.to.phase ≡ phase → (IsAtHand phase went.sums.handles.at_hand → went.sums.handles.at_hand ≡ []) → went.sums.handles.at_hand ≡ []
  hand-empty phase is none = none (subst (λ (p : Phase). IsAtHand p went.sums.handles.at_hand) is went.sums.handles.open_one)

  pub takes-all : GainsAll old.link.taken (went.sums.handles.handled ++ went.sums.handles.at_hand) mid.link.taken
  takes-all =
      let handles = went.sums.handles in
      let link : went.start.site.link ≡ old.link = went.files.others.rest.link ∙ went.files.journal.opens.only.rest.link in
      subst (λ (s : SiteView). GainsAll old.link.taken (handles.handled ++ handles.at_hand) s.link.taken) went.to_is
      (subst (λ (l : LinkView). GainsAll l.taken (handles.handled ++ handles.at_hand) went.to.site.link.taken) link handles.takes)

  -- the parcels are told where they were before
  pub taken-told : IsSome old.link.taken → IsSome mid.link.taken
  taken-told some = some-after old.link.taken mid.link.taken (went.sums.handles.handled ++ went.sums.handles.at_hand) some takes-all

  -- parcels that were taken, where none is in hand
  pub many-taken : went.sums.handles.at_hand ≡ [] → IfSome old.link.taken (λ before. IfSome mid.link.taken (λ after.
      length after ≡ length before + (went.to.notes.ignored + total one_reply went.sums.adds.added + length went.sums.grow.acted)))
  many-taken empty =
      let handles = went.sums.handles in
      let none : went.start.notes.ignored ≡ 0 = ap (λ (n : Notes). n.ignored) went.begins.notes in
      let at_hand : length handles.at_hand ≡ 0 = ap (λ (l : List (ℕ × Parcel)). length l) empty in
      let counted = handles.counted in
      let added : handles.added ≡ went.sums.adds.added = same-added went.start.engine.history.records handles.added went.sums.adds.added (sym handles.adds ∙ went.sums.adds.is) in
      let replied : total one_reply handles.added ≡ total one_reply went.sums.adds.added = ap (λ (l : List Record). total one_reply l) added in
      let acts : went.start.notes.acted ++ handles.acted ≡ went.sums.grow.acted = sym handles.acts ∙ acted-is in
      let acted : length (went.start.notes.acted ++ handles.acted) ≡ length went.sums.grow.acted = ap (λ (l : List (ℕ × Act)). length l) acts in
      let before : length went.start.notes.acted ≡ 0 = ap (λ (l : List (ℕ × Act)). length l) none-acted in
      taken-exactly old.link.taken mid.link.taken (handles.handled ++ handles.at_hand) (went.to.notes.ignored + total one_reply went.sums.adds.added + length went.sums.grow.acted)
      (omega (arith, none, at_hand, counted, replied, acted, before, length-append handles.handled handles.at_hand, length-append went.start.notes.acted handles.acted)) takes-all

  -- So many did, where 1,000,000 parcels changed neither journal by what the files show, and they gained what the session appended.
  pub flooded-so : (start : Start) → IsJournalSure went.to → ((agent : ℕ) → IsAgent agent → GainsActs agent (acts_of agent went.sums.grow.acted) old mid) → (n : ℕ)
      → IfSome old.link.taken (λ before. IfSome mid.link.taken (λ after. length after ≡ length before + (n + total one_reply went.sums.adds.added + length went.sums.grow.acted)))
      → FloodsSo start old mid → IsSome old.link.taken → n ≡ 1_000_000
  flooded-so start sure gained n told_so f some =
      let g = gains-added given run most answers old mid sound told went sure in
      let before : f.may.gains.before ≡ g.before = same_records (old.disk.reads 0) f.may.gains.before g.before f.may.gains.had g.had in
      let all : f.may.gains.before ++ f.may.gains.added ≡ g.before ++ g.added = same_records (mid.disk.reads 0) (f.may.gains.before ++ f.may.gains.added) (g.before ++ g.added) f.may.gains.has g.has in
      let added : f.may.gains.added ≡ g.added = same-added g.before f.may.gains.added g.added (subst (λ (l : List Record). l ++ f.may.gains.added ≡ g.before ++ g.added) before all) in
      let replied : total one_reply f.may.gains.added ≡ total one_reply g.added = ap (λ (l : List Record). total one_reply l) added in
      let acted : length f.acted ≡ length went.sums.grow.acted = same-many f.acted went.sums.grow.acted f.of_agents acted-agents
      (λ agent is. one-gain agent (acts_of agent f.acted) (acts_of agent went.sums.grow.acted) old mid (f.gained agent is) (gained agent is)) in
      let taken : 1_000_000 + total one_reply f.may.gains.added + length f.acted ≡ n + total one_reply g.added + length went.sums.grow.acted =
      one-number old.link.taken mid.link.taken (1_000_000 + total one_reply f.may.gains.added + length f.acted) (n + total one_reply g.added + length went.sums.grow.acted)
      some (some-after old.link.taken mid.link.taken _ some takes-all) f.taken told_so in
      omega (arith, replied, acted, taken)

  -- so the session counted as many, where no parcel is in hand
  pub flooded-exactly : (start : Start) → IsJournalSure went.to → AreFiltersSure went.to → went.sums.handles.at_hand ≡ [] → FloodsSo start old mid → IsSome old.link.taken
      → went.to.notes.ignored ≡ 1_000_000
  flooded-exactly start sure filters empty f some = flooded-so start sure (gained-acts filters) went.to.notes.ignored (many-taken empty) f some
