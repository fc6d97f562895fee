-- The opening of the files, one after another.
use Rattle.std.proofs.Common.{◌≡◌, ◌≢◌, ◌⊎◌, inl, inr, ℕ, zero, suc, ◌+◌, ◌-◌, ◌*◌, ◌/◌, ◌<◌, ◌≤◌, List, [], ◌∷◌, ◌++◌, length, refl, sym, ◌∙◌, subst, ap, arith}
use Rattle.std.specs.Prelude.{◌↔◌, Some, IsTrue, slice_get}
use Rattle.std.proofs.lemmas.Bool.{cases_lt}
use Rattle.cacao_site.specs.DiskCalls.{GoesOn, IsDurable, IsLeft, OnlyFile, SameRest, StaysAt}
use Rattle.cacao_site.specs.View.{DiskView, SiteView}
use Rattle.cacao_site.proofs.Beats.{goes_on-refl, goes_on-trans, stays-trans}
use Rattle.flow_world_steps.specs.EngineView.{EngineView}
use Rattle.slpf_actuator.specs.ActuatorView.{ActuatorView, HoldsActs}
use Rattle.flow_world_steps.specs.Sides.{AreFilters, FiltersReady, IsWhole}
use Rattle.flow_world_steps.proofs.Filters.{ready_stays}
use Rattle.flow_world_steps.proofs.Growth.{get_last_or}
use Rattle.flow_world_steps.proofs.Readiness.{engine_stays}
use Rattle.flow_world_parts.specs.Openings.{IsFilterOpen, OpensFilters, OpensNext, RefusesFile, RefusesFilters, blocks_to}
use Rattle.flow_world_parts.specs.Openings.OpensInOrder.{nothing, and_then}
use Rattle.flow_world_parts.specs.declared.error.WorldError.{WorldError}

-- ---- files that stay

told_later : (old new : DiskView) → GoesOn old new → IsTrue new.told → IsTrue old.told
told_later old new on told = subst IsTrue on.told told

durable_stays : (file : ℕ) (old new : DiskView) → GoesOn old new → StaysAt old new file → IsDurable file old → IsDurable file new
durable_stays file old new on stays durable image left =
    durable image (subst IsTrue (stays.images new.beat image on.later (omega arith)) left) ∙ sym stays.reads

filter_stays : (agent : ℕ) (old new : SiteView) (v : ActuatorView) → GoesOn old.disk new.disk → StaysAt old.disk new.disk agent → IsFilterOpen agent old v → IsFilterOpen agent new v
filter_stays agent old new v on stays is = record {
  filter = record {
    ready = ready_stays v old new on (subst (λ (n : ℕ). StaysAt old.disk new.disk n) (sym is.filter.of_agent) stays) is.filter.ready;
    whole = is.filter.whole;
    of_agent = is.filter.of_agent;
  };
  durable = durable_stays agent old.disk new.disk on stays is.durable;
  stands = λ told. subst (λ (l : List ℕ). HoldsActs v.acts l) (sym stays.reads) (is.stands (told_later old.disk new.disk on told));
  prepared = λ told. subst (λ (l : List ℕ). IsTrue v.prepared ↔ (9 < length l)) (sym stays.reads) (is.prepared (told_later old.disk new.disk on told));
}

rest_then : (a b c : SiteView) → SameRest a b → SameRest b c → SameRest a c
rest_then a b c one two = record { link = two.link ∙ one.link; clock = two.clock ∙ one.clock; counts = two.counts ∙ one.counts }

-- ---- one filter more

pub opens_none : (site : SiteView) → OpensFilters 0 site site []
opens_none site = record {
  in_order = nothing;
  many = refl;
  each = λ k v there. absurd (cc);
  goes_on = goes_on-refl site.disk;
  images = λ file low high. absurd (omega (arith, low, high));
  reads = λ file low high. absurd (omega (arith, low, high));
  others = λ file other. record { reads = refl; images = λ beat image from to. ap (λ (n : ℕ). site.disk.left file n image) (omega (arith, from, to)) };
  rest = record { link = refl; clock = refl; counts = refl };
  steady = refl;
  calls = λ told. omega arith;
  written = omega arith;
}

blocks_stay : (n : ℕ) (old new : DiskView) → ((file : ℕ) → 1 ≤ file → file ≤ n → new.reads file ≡ old.reads file) → blocks_to n new ≡ blocks_to n old
blocks_stay zero old new same = refl
blocks_stay (suc n) old new same =
    let here : length (new.reads (suc n)) / 4096 ≡ length (old.reads (suc n)) / 4096 = ap (λ (l : List ℕ). length l / 4096) (same (suc n) (omega arith) (omega arith)) in
    let rest = blocks_stay n old new (λ file low high. same file low (omega (arith, high))) in
    omega (arith, here, rest)

length_last : {T : Type 0} (xs : List T) (x : T) → length (xs ++ x ∷ []) ≡ length xs + 1
length_last [] x = refl
length_last (y ∷ ys) x = let rest = length_last ys x in omega (arith, rest)

module _ (n : ℕ) (old mid new : SiteView) (fs gs : List ActuatorView) (was : OpensFilters n old mid fs) (next : OpensNext (n + 1) mid new fs gs) where
  one : OnlyFile (n + 1) mid new (IsLeft mid.disk (n + 1) mid.disk.beat)
  one = next.opens.only

  on : GoesOn mid.disk new.disk
  on = one.each.goes_on

  told_mid : IsTrue old.disk.told → IsTrue mid.disk.told
  told_mid told = subst IsTrue (sym was.goes_on.told) told

  each_open : (k : ℕ) (v : ActuatorView) → slice_get gs k ≡ Some v → IsFilterOpen (suc k) new v
  each_open k v there = elim (get_last_or fs next.v v k (subst (λ (l : List ActuatorView). slice_get l k ≡ Some v) next.more there)) [
    | inl before ↦ filter_stays (suc k) mid new v on (one.others (suc k) (λ e. absurd (omega (arith, e, below fs k v before, was.many)))) (was.each k v before)
    | inr last ↦
        let at : n + 1 ≡ suc k = omega (arith, last.0, was.many) in
        subst (λ (x : ActuatorView). IsFilterOpen (suc k) new x) last.1 (subst (λ (a : ℕ). IsFilterOpen a new next.v) at next.is_open)
  ]
    where
      below : {T : Type 0} (xs : List T) (k : ℕ) (x : T) → slice_get xs k ≡ Some x → k < length xs
      below [] k x is = absurd (cc)
      below (y ∷ ys) zero x is = omega arith
      below (y ∷ ys) (suc k) x is = let rest = below ys k x is in omega (arith, rest)

  images_were : (file : ℕ) → 1 ≤ file → file ≤ n + 1 → (beat : ℕ) (image : List ℕ) → IsTrue old.disk.told → old.disk.beat ≤ beat → beat ≤ new.disk.beat → IsLeft new.disk file beat image
      → IsLeft old.disk file old.disk.beat image
  images_were file low high beat image told from to left = elim (cases_lt n file) [
    | inl last ↦
        let at : file ≡ n + 1 = omega (arith, last, high) in
        elim (cases_lt beat mid.disk.beat) [
          | inl early ↦
              let at_mid : IsLeft mid.disk file beat image = subst IsTrue (on.past file beat image (omega (arith, early))) left in
              subst IsTrue ((was.others file (inr last)).images beat image from (omega (arith, early))) at_mid
          | inr late ↦
              let at_mid : IsLeft mid.disk (n + 1) mid.disk.beat image = one.each.each (told_mid told) beat image late to (subst (λ (f : ℕ). IsLeft new.disk f beat image) at left) in
              subst (λ (f : ℕ). IsLeft old.disk f old.disk.beat image) (sym at)
              (subst IsTrue ((was.others (n + 1) (inr (omega arith))).images mid.disk.beat image was.goes_on.later (omega arith)) at_mid)
        ]
    | inr earlier ↦
        elim (cases_lt beat mid.disk.beat) [
          | inl early ↦ was.images file low earlier beat image told from (omega (arith, early)) (subst IsTrue (on.past file beat image (omega (arith, early))) left)
          | inr late ↦ was.images file low earlier mid.disk.beat image told was.goes_on.later (omega arith)
              (subst IsTrue ((one.others file (λ e. absurd (omega (arith, e, earlier)))).images beat image late to) left)
        ]
  ]

  reads_stay : (file : ℕ) → 1 ≤ file → file ≤ n → new.disk.reads file ≡ mid.disk.reads file
  reads_stay file low high = (one.others file (λ e. absurd (omega (arith, e, high)))).reads

  reads_as_before : (file : ℕ) → 1 ≤ file → file ≤ n + 1 → new.disk.reads file ≡ old.disk.reads file
  reads_as_before file low high = elim (cases_lt n file) [
    | inl last ↦
        let at : n + 1 ≡ file = omega (arith, last, high) in
        subst (λ (f : ℕ). new.disk.reads f ≡ mid.disk.reads f) at next.reads ∙ (was.others file (inr last)).reads
    | inr earlier ↦ reads_stay file low earlier ∙ was.reads file low earlier
  ]

  calls_so_far : IsTrue old.disk.told → new.disk.calls ≤ old.disk.calls + 3 * (n + 1) + blocks_to (n + 1) new.disk
  calls_so_far told =
      let before = was.calls told in
      let here = next.opens.calls (told_mid told) in
      let same = blocks_stay n mid.disk new.disk reads_stay in
      let more : blocks_to (n + 1) new.disk ≡ length (new.disk.reads (n + 1)) / 4096 + blocks_to n new.disk = one_more n in
      omega (arith, before, here, same, more)
    where
      one_more : (n : ℕ) → blocks_to (n + 1) new.disk ≡ length (new.disk.reads (n + 1)) / 4096 + blocks_to n new.disk
      one_more n = let e : n + 1 ≡ suc n = omega arith in subst (λ (k : ℕ). blocks_to k new.disk ≡ length (new.disk.reads k) / 4096 + blocks_to n new.disk) (sym e) refl

  pub opens_more : OpensFilters (n + 1) old new gs
  opens_more = record {
    in_order = and_then was.in_order next.opens;
    many = ap length next.more ∙ length_last fs next.v ∙ ap (λ (k : ℕ). k + 1) was.many;
    each = each_open;
    goes_on = goes_on-trans was.goes_on on;
    images = images_were;
    reads = reads_as_before;
    others = λ file other. stays-trans was.goes_on on (was.others file (fewer file other)) (one.others file (apart file other));
    rest = rest_then old mid new was.rest one.rest;
    steady = next.steady ∙ was.steady;
    calls = calls_so_far;
    written = omega (arith, was.written, next.opens.written);
  }
    where
      fewer : (file : ℕ) → (file ≡ 0) ⊎ (n + 1 < file) → (file ≡ 0) ⊎ (n < file)
      fewer file (inl e) = inl e
      fewer file (inr lt) = inr (omega (arith, lt))

      apart : (file : ℕ) → (file ≡ 0) ⊎ (n + 1 < file) → file ≢ n + 1
      apart file (inl e) same = absurd (omega (arith, e, same))
      apart file (inr lt) same = absurd (omega (arith, lt, same))

-- ---- all files

pub whole_after : (old new : SiteView) (v : EngineView) (filters : List ActuatorView) (n : ℕ) → OpensFilters n old new filters → IsWhole v old → IsWhole v new
whole_after old new v filters n opens is = record { engine = engine_stays v old new opens.goes_on (opens.others 0 (inl refl)) is.engine; whole = is.whole }

pub filters_after : (old new : SiteView) (filters : List ActuatorView) → OpensFilters 16 old new filters → AreFilters filters new
filters_after old new filters opens = record { all = opens.many; each = λ k v there. (opens.each k v there).filter }

pub ready_after : (old new : SiteView) (filters : List ActuatorView) → OpensFilters 16 old new filters → FiltersReady filters new
ready_after old new filters opens = let many = opens.many in record { few = omega (arith, many); each = λ k v there. (opens.each k v there).filter }

-- ---- by agents

pub agent_opens : (agent : ℕ) (old mid new : SiteView) (fs gs : List ActuatorView) → 1 ≤ agent → OpensFilters (agent - 1) old mid fs → OpensNext agent mid new fs gs
    → OpensFilters (agent + 1 - 1) old new gs
agent_opens zero old mid new fs gs low was next = absurd (omega (arith, low))
agent_opens (suc n) old mid new fs gs low was next =
    let before : suc n - 1 ≡ n = omega arith in
    let here : suc n ≡ n + 1 = omega arith in
    let after : n + 1 ≡ suc n + 1 - 1 = omega arith in
    subst (λ (k : ℕ). OpensFilters k old new gs) after
    (opens_more n old mid new fs gs (subst (λ (k : ℕ). OpensFilters k old mid fs) before was) (subst (λ (k : ℕ). OpensNext k mid new fs gs) here next))

pub agent_refused : (error : WorldError) (agent : ℕ) (old mid new : SiteView) (fs : List ActuatorView) → 1 ≤ agent → agent < 17 → OpensFilters (agent - 1) old mid fs
    → RefusesFile error agent mid new → RefusesFilters error old new
agent_refused error agent old mid new fs low high was refuses = record {
  agent = agent - 1;
  high = omega (arith, low, high);
  middle = mid;
  filters = fs;
  before = was;
  refuses = let here : agent ≡ agent - 1 + 1 = omega (arith, low) in subst (λ (k : ℕ). RefusesFile error k mid new) here refuses;
}

pub as_many : (agent : ℕ) (old new : SiteView) (fs : List ActuatorView) → 1 ≤ agent → OpensFilters (agent - 1) old new fs → length fs + 1 ≡ agent
as_many agent old new fs low opens = let many = opens.many in omega (arith, low, many)

pub all_open : (agent : ℕ) (old new : SiteView) (fs : List ActuatorView) → agent ≡ 17 → OpensFilters (agent - 1) old new fs → OpensFilters 16 old new fs
all_open agent old new fs is opens = subst (λ (k : ℕ). OpensFilters k old new fs) (ap (λ (k : ℕ). k - 1) is) opens
