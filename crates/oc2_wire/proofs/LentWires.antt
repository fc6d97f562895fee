-- A wire that was lent to a call that knows of no wire, and came back.
use Rattle.std.proofs.Common.{◌≡◌, ◌≢◌, ◌⊎◌, inl, inr, ℕ, zero, suc, ◌+◌, ◌/◌, ◌<◌, ◌≤◌, Bool, true, false, List, [], ◌∷◌, ◌++◌, length, refl, sym, ◌∙◌, subst, ap, arith, length-append}
use Rattle.std.specs.Prelude.{IfErr, IfOk, IsSome, OnErr, OnOk, Option, Some, None, Result, Ok, Err}
use Rattle.std.proofs.lemmas.Bool.{false≢true}
use Rattle.cacao_site.specs.Counts.{Rose, last_count, next_count}
use Rattle.cacao_site.specs.DiskCalls.{CallsOn, SameRest}
use Rattle.cacao_site.specs.LinkCalls.{Gains}
use Rattle.cacao_site.specs.SayCalls.{SaysOnly}
use Rattle.cacao_site.specs.SiteCalls.{Puts, Reaches}
use Rattle.cacao_site.specs.View.{CountsView, DiskView, LinkView, SiteView}
use Rattle.cacao_site.specs.declared.parcel.Parcel.{Parcel}
use Rattle.flow_laws.proofs.Basics.{same_or_not}
use Rattle.slpf_actuator.specs.ActuatorCalls.{MayHaveDone}
use Rattle.slpf_actuator.specs.ActuatorView.{ActuatorView}
use Rattle.slpf_actuator.specs.declared.error.ActError.{ActError}
use Rattle.slpf_actuator.specs.declared.error.ActError.TheVariants as act_error
use Rattle.flow_world_steps.specs.Sides.{FiltersReady}
use Rattle.flow_world_parts.specs.Acting.{FilterAnswers, IsActCause, OneAnswers}
use Rattle.flow_world_parts.specs.Openings.{IsFileCause, IsFilterOpen, OpensFile, OpensFilters, OpensInOrder, RefusesFile, RefusesFilters, blocks_to}
use Rattle.flow_world_parts.specs.Openings.OpensInOrder.{nothing, and_then}
use Rattle.flow_world_parts.specs.declared.error.WorldError.{WorldError}
use Rattle.flow_world_parts.specs.declared.error.WorldError.TheVariants as world
use Rattle.oc2_wire_lines.specs.Lines.{IsCarried}
use Rattle.oc2_wire_site.specs.WireCalls.{KeepsWire, PutsLine}
use Rattle.oc2_wire_site.specs.LineLinks.{LinesView}
use Rattle.oc2_wire_site.specs.ReadLines.{count_told}
use Rattle.oc2_wire_site.specs.Wires.{WireView}
use Rattle.oc2_wire_site.specs.declared.link_state.LinkState.{LinkState}
use Rattle.oc2_wire_site.specs.declared.link_state.LinkState.TheVariants as state
use Rattle.oc2_wire.specs.Answering.{ReadsNoLine, found_by}
use Rattle.oc2_wire.specs.FilterTurns.{Handed, Opened, OpenedAs}
use Rattle.oc2_wire.specs.ReplyWires.{KeepsLink, bit, lent_wire, marks, retell}
use Rattle.oc2_wire.proofs.Retell.{CountsOnePut, acts_as, calls_as, on_as, only_as, puts_as, reaches_as, ready_as, refuses_as, repeats_as, rest_as, says_as, stays_as}

-- ---- calls that read no line

pub kept_reads_none : (old new : WireView) → KeepsWire old new → ReadsNoLine old new
kept_reads_none old new keeps = record {
  asking = keeps.asking;
  passed = ap (λ (l : LinesView). l.passed) keeps.lines;
  found_as = ap (λ (l : LinesView). found_by l.state) keeps.lines;
}

pub whole_or_not : (s : LinkState) → (s ≡ state.Whole) ⊎ (s ≢ state.Whole)
whole_or_not state.Whole = inl refl
whole_or_not state.Ended = inr (λ e. cc)
whole_or_not state.Failed = inr (λ e. cc)
whole_or_not state.TooLong = inr (λ e. cc)
whole_or_not state.PassedOver = inr (λ e. cc)
whole_or_not state.NoMemory = inr (λ e. cc)

module _ (parcel : Parcel) (old new : WireView) (puts : PutsLine parcel old new) where
  -- where a line can carry the parcel
  passed_carried : IsCarried parcel → new.lines.passed ≡ old.lines.passed
  passed_carried carried = elim (whole_or_not old.lines.state) [
    | inr broken ↦ ap (λ (l : LinesView). l.passed) (puts.broken broken).lines
    | inl whole ↦ elim (whole_or_not new.lines.state) [
      | inl still ↦ (puts.whole carried still).sends.keeps.passed
      | inr broke ↦ elim (puts.breaks whole broke) [
        | inl fails ↦ fails.fails.keeps.passed
        | inr unkept ↦ ap (λ (l : LinesView). l.passed) unkept.lines
      ]
    ]
  ]

  passed_stays : new.lines.passed ≡ old.lines.passed
  passed_stays = elim (same_or_not new.lines.passed old.lines.passed) [
    | inl same ↦ same
    | inr ne ↦ absurd (ne (ap (λ (l : LinesView). l.passed) (puts.uncarried (λ carried. ne (passed_carried carried))).0.lines))
  ]

  found_stays : found_by new.lines.state ≡ found_by old.lines.state
  found_stays = elim (whole_or_not old.lines.state) [
    | inr broken ↦ ap (λ (l : LinesView). found_by l.state) (puts.broken broken).lines
    | inl whole ↦
        let was : found_by old.lines.state ≡ 0 = ap found_by whole in
        elim (whole_or_not new.lines.state) [
          | inl still ↦ ap found_by still ∙ sym was
          | inr broke ↦ elim (puts.breaks whole broke) [
            | inl fails ↦ ap found_by fails.fails.failed ∙ sym was
            | inr unkept ↦ ap (λ (l : LinesView). found_by l.state) unkept.lines ∙ sym was
          ]
        ]
  ]

  pub put_reads_none : ReadsNoLine old new
  put_reads_none = record { asking = puts.asking; passed = passed_stays; found_as = found_stays }

-- ---- a link that stays as it was, but for what is put

-- nothing was put or lost
pub keeps_on : (lent old new : WireView) (put : ℕ) → KeepsLink lent old put → new.lines ≡ old.lines → new.site.link.puts ≡ old.site.link.puts → new.site.counts.mishaps ≡ old.site.counts.mishaps → KeepsLink lent new put
keeps_on lent old new put keeps lines puts mishaps =
    let count : count_told new.site.link.puts ≡ count_told old.site.link.puts = ap (λ (o : Option (List (ℕ × Parcel))). count_told o) puts in
    record {
      puts = omega (arith, keeps.puts, count);
      later = omega (arith, keeps.later, mishaps);
      whole = λ e. ap (λ (l : LinesView). l.state) lines ∙ keeps.whole e;
      none = λ e. mishaps ∙ keeps.none e;
      lost = λ some same. subst (λ (n : ℕ). Rose lent.site.counts.mishaps n) (sym mishaps) (keeps.lost some (sym count ∙ same));
    }

-- by a call of the disk
pub keeps_call : (lent old new : WireView) (put : ℕ) → KeepsLink lent old put → KeepsWire old new → SameRest old.site new.site → KeepsLink lent new put
keeps_call lent old new put keeps wire rest =
    keeps_on lent old new put keeps wire.lines (ap (λ (l : LinkView). l.puts) rest.link) (ap (λ (c : CountsView). c.mishaps) rest.counts)

gains_count : (old new : Option (List (ℕ × Parcel))) (e : ℕ × Parcel) → IsSome old → Gains old e new → count_told old < count_told new
gains_count (Some old) (Some new) e some gains =
    let same : length new ≡ length (old ++ e ∷ []) = ap (λ (l : List (ℕ × Parcel)). length l) gains in
    omega (arith, same, length-append old (e ∷ []))
gains_count (Some old) None e some gains = absurd gains
gains_count None new e some gains = absurd (false≢true some)

-- by a put
module _ (lent old new : WireView) (parcel : Parcel) (put more : ℕ) (counted : more ≡ next_count put) (puts : Puts parcel old.site new.site) (told : IsSome old.site.link.puts) (keeps : KeepsLink lent old put) where
  -- it joined the puts, or it was lost
  joined : (count_told old.site.link.puts < count_told new.site.link.puts) ⊎ ((count_told new.site.link.puts ≡ count_told old.site.link.puts) × Rose old.site.counts.mishaps new.site.counts.mishaps)
  joined = elim puts.puts [
    | inl gained ↦ inl (gains_count old.site.link.puts new.site.link.puts (new.site.disk.beat, parcel) told gained)
    | inr gone ↦ inr (ap (λ (o : Option (List (ℕ × Parcel))). count_told o) gone.0, gone.1)
  ]

  more_put : count_told old.site.link.puts ≤ count_told new.site.link.puts
  more_put = elim joined [
    | inl gained ↦ omega (arith, gained)
    | inr gone ↦ omega (arith, gone.0)
  ]

  some_now : more ≡ 0 → ⊥
  some_now e = omega (arith, e, counted)

  -- before it none was lost, or some were
  lost_now : count_told new.site.link.puts ≡ count_told lent.site.link.puts → Rose lent.site.counts.mishaps new.site.counts.mishaps
  lost_now same = elim joined [
    | inl gained ↦ absurd (let was = keeps.puts in omega (arith, gained, same, was))
    | inr gone ↦ let was = keeps.later in let rose = gone.1 in omega (arith, was, rose)
  ]

  pub keeps_put : KeepsLink lent new more
  keeps_put = record {
    puts = let was = keeps.puts in omega (arith, was, more_put);
    later = let was = keeps.later in let rest = puts.mishaps in omega (arith, was, rest);
    whole = λ e. absurd (some_now e);
    none = λ e. absurd (some_now e);
    lost = λ some same. lost_now same;
  }

-- ---- the trait's clauses on what is lent

same_list : (a b c d m n : ℕ) (k l : List ℕ) → b ≡ a → d ≡ c → n ≡ m → l ≡ k → b ∷ d ∷ n ∷ l ≡ a ∷ c ∷ m ∷ k
same_list a b c d m n k l one two three four = cc

-- the label of a wire that is lent
abbrev label_of : ℕ → WireView → WireView → List ℕ
label_of name lent wire = (lent_wire name lent 0 wire).disk.label

same_marks : (name : ℕ) (lent old new : WireView) → ReadsNoLine old new → new.site.disk.label ≡ old.site.disk.label → label_of name lent new ≡ label_of name lent old
same_marks name lent old new reads label =
    ap (λ (l : List ℕ). name ∷ count_told lent.site.link.puts ∷ lent.site.counts.mishaps ∷ l) (same_list (bit old.asking) (bit new.asking) old.lines.passed new.lines.passed (found_by old.lines.state) (found_by new.lines.state)
    old.site.disk.label new.site.disk.label (ap bit reads.asking) reads.passed reads.found_as label)

module _ (name : ℕ) (lent old new : WireView) (put : ℕ) where
  pub calls_lent : (file bytes : ℕ) → KeepsWire old new → CallsOn file bytes old.site.disk new.site.disk → CallsOn file bytes (lent_wire name lent put old).disk (lent_wire name lent put new).disk
  calls_lent file bytes keeps call =
      calls_as (label_of name lent old) (label_of name lent new) old.site.disk new.site.disk file bytes (same_marks name lent old new (kept_reads_none old new keeps) call.goes_on.label) call

  pub rest_lent : SameRest old.site new.site → SameRest (lent_wire name lent put old) (lent_wire name lent put new)
  rest_lent rest = rest_as (label_of name lent old) (label_of name lent new) put put old.site new.site refl rest

  pub says_lent : KeepsWire old new → SaysOnly old.site new.site → SaysOnly (lent_wire name lent put old) (lent_wire name lent put new)
  says_lent keeps says =
      says_as (label_of name lent old) (label_of name lent new) put put old.site new.site (same_marks name lent old new (kept_reads_none old new keeps) says.disk.goes_on.label) refl says

  pub reaches_lent : (moment answer : ℕ) → KeepsWire old new → Reaches moment answer old.site new.site → Reaches moment answer (lent_wire name lent put old) (lent_wire name lent put new)
  reaches_lent moment answer keeps reaches =
      reaches_as (label_of name lent old) (label_of name lent new) put put old.site new.site moment answer
      (same_marks name lent old new (kept_reads_none old new keeps) reaches.disk.disk.goes_on.label) refl reaches

  -- a count that takes one more rises, or stands at its end
  pub puts_lent : (more : ℕ) (parcel : Parcel) → more ≡ next_count put → put ≤ last_count → PutsLine parcel old new → Puts parcel old.site new.site
      → Puts parcel (lent_wire name lent put old) (lent_wire name lent more new)
  puts_lent more parcel counted few line puts =
      puts_as (label_of name lent old) (label_of name lent new) put more old.site new.site parcel
      (same_marks name lent old new (put_reads_none parcel old new line) puts.disk.disk.goes_on.label)
      (record {
        later = omega (arith, counted, few);
        lost = λ gone rose. omega (arith, counted);
        arrives = λ calm. absurd (omega (arith, counted, calm.0, calm.1));
      })
      puts

-- ---- what the label tells

name_of : (a b c d m n o p : ℕ) (k l : List ℕ) → a ∷ b ∷ c ∷ d ∷ k ≡ m ∷ n ∷ o ∷ p ∷ l → a ≡ m
name_of a b c d m n o p k l e = cc

end_of : (a b c d m n o p : ℕ) (k l : List ℕ) → a ∷ b ∷ c ∷ d ∷ k ≡ m ∷ n ∷ o ∷ p ∷ l → b ≡ n
end_of a b c d m n o p k l e = cc

passed_of : (a b c d m n o p : ℕ) (k l : List ℕ) → a ∷ b ∷ c ∷ d ∷ k ≡ m ∷ n ∷ o ∷ p ∷ l → c ≡ o
passed_of a b c d m n o p k l e = cc

found_of : (a b c d m n o p : ℕ) (k l : List ℕ) → a ∷ b ∷ c ∷ d ∷ k ≡ m ∷ n ∷ o ∷ p ∷ l → d ≡ p
found_of a b c d m n o p k l e = cc

label_in : (a b c d m n o p : ℕ) (k l : List ℕ) → a ∷ b ∷ c ∷ d ∷ k ≡ m ∷ n ∷ o ∷ p ∷ l → k ≡ l
label_in a b c d m n o p k l e = cc

same_bit : (a b : Bool) → bit a ≡ bit b → a ≡ b
same_bit true true e = refl
same_bit false false e = refl
same_bit true false e = absurd (omega (arith, e))
same_bit false true e = absurd (omega (arith, e))

behind_of : (a b c m n o : ℕ) (k l : List ℕ) → a ∷ b ∷ c ∷ k ≡ m ∷ n ∷ o ∷ l → a ∷ k ≡ m ∷ l
behind_of a b c m n o k l e = cc

second_of : (a b c m n o : ℕ) (k l : List ℕ) → a ∷ b ∷ c ∷ k ≡ m ∷ n ∷ o ∷ l → b ≡ n
second_of a b c m n o k l e = cc

third_of : (a b c m n o : ℕ) (k l : List ℕ) → a ∷ b ∷ c ∷ k ≡ m ∷ n ∷ o ∷ l → c ≡ o
third_of a b c m n o k l e = cc

-- the same loan, which read no line, on the same disk
record CameBack (name : ℕ) (lent a : WireView) (name' : ℕ) (lent' b : WireView) : Type 0 where
  pub same : name' ≡ name
  pub put : count_told lent'.site.link.puts ≡ count_told lent.site.link.puts
  pub lost : lent'.site.counts.mishaps ≡ lent.site.counts.mishaps
  pub reads : ReadsNoLine a b
  pub label : b.site.disk.label ≡ a.site.disk.label

came_back : (name name' : ℕ) (lent lent' a b : WireView) → label_of name' lent' b ≡ label_of name lent a → CameBack name lent a name' lent' b
came_back name name' lent lent' a b all =
    let e : name' ∷ marks b ≡ name ∷ marks a = behind_of _ _ _ _ _ _ _ _ all in
    record {
      same = name_of _ _ _ _ _ _ _ _ _ _ e;
      put = second_of _ _ _ _ _ _ _ _ all;
      lost = third_of _ _ _ _ _ _ _ _ all;
      reads = record {
        asking = same_bit b.asking a.asking (end_of _ _ _ _ _ _ _ _ _ _ e);
        passed = passed_of _ _ _ _ _ _ _ _ _ _ e;
        found_as = found_of _ _ _ _ _ _ _ _ _ _ e;
      };
      label = label_in _ _ _ _ _ _ _ _ _ _ e;
    }

-- ---- filters on it

filters_as : (k : List ℕ) (m : ℕ) (fs : List ActuatorView) (x : SiteView) → FiltersReady fs x → FiltersReady fs (retell k m x)
filters_as k m fs x ready = record {
  few = ready.few;
  each = λ n v there. let is = ready.each n v there in record { ready = ready_as k m v x is.ready; whole = is.whole; of_agent = is.of_agent };
}

pub filters_lent : (name : ℕ) (fs : List ActuatorView) (lent wire : WireView) (put : ℕ) → FiltersReady fs wire.site → FiltersReady fs (lent_wire name lent put wire)
filters_lent name fs lent wire put ready = filters_as (label_of name lent wire) put fs wire.site ready

-- the label stays
answers_label : (r : Result Bool ActError) (v w : ActuatorView) (parcel : Parcel) (moment : ℕ) (x y : SiteView) → FilterAnswers r v w parcel moment x y → y.disk.label ≡ x.disk.label
answers_label (Ok true) v w parcel moment x y acts = acts.puts.disk.disk.goes_on.label ∙ acts.offers.adds.file.each.goes_on.label
answers_label (Ok false) v w parcel moment x y repeats = repeats.puts.disk.disk.goes_on.label
answers_label (Err act_error.Disk) v w parcel moment x y refused = refused.0.site.adds.file.each.goes_on.label
answers_label (Err act_error.Memory) v w parcel moment x y refused = elim refused.0.site [
  | inl none ↦ ap (λ (s : SiteView). s.disk.label) none
  | inr offers ↦ offers.adds.file.each.goes_on.label
]
answers_label (Err (act_error.Full needed)) v w parcel moment x y refused = ap (λ (s : SiteView). s.disk.label) refused.0.site
answers_label (Err (act_error.Damaged place)) v w parcel moment x y refused = absurd refused.1
answers_label (Err act_error.Broken) v w parcel moment x y refused = absurd refused.1

cause_as : (k l : List ℕ) (m n : ℕ) (x y : SiteView) (error : ActError) (v : ActuatorView) (parcel : Parcel) (moment : ℕ) → IsActCause error v parcel moment x y
    → IsActCause error v parcel moment (retell k m x) (retell l n y)
cause_as k l m n x y act_error.Disk v parcel moment why = why
cause_as k l m n x y (act_error.Full needed) v parcel moment why = why
cause_as k l m n x y act_error.Memory v parcel moment why = tt
cause_as k l m n x y (act_error.Damaged place) v parcel moment why = absurd why
cause_as k l m n x y act_error.Broken v parcel moment why = absurd why

-- what a refusal leaves
same_link : (error : ActError) (v : ActuatorView) (parcel : Parcel) (moment : ℕ) (x y : SiteView) → MayHaveDone error v parcel moment x y → (y.link ≡ x.link) × (y.counts ≡ x.counts)
same_link act_error.Disk v parcel moment x y did = (did.adds.file.rest.link, did.adds.file.rest.counts)
same_link act_error.Memory v parcel moment x y did = elim did [
  | inl none ↦ (ap (λ (s : SiteView). s.link) none, ap (λ (s : SiteView). s.counts) none)
  | inr offers ↦ (offers.adds.file.rest.link, offers.adds.file.rest.counts)
]
same_link (act_error.Full needed) v parcel moment x y did = (ap (λ (s : SiteView). s.link) did, ap (λ (s : SiteView). s.counts) did)
same_link (act_error.Damaged place) v parcel moment x y did = (ap (λ (s : SiteView). s.link) did, ap (λ (s : SiteView). s.counts) did)
same_link act_error.Broken v parcel moment x y did = (ap (λ (s : SiteView). s.link) did, ap (λ (s : SiteView). s.counts) did)

-- the counts of mishaps of a wire, by how many parcels its loan was seen to put
pub record CountsLent (m n : ℕ) (x y : SiteView) : Type 0 where
  pub same : y.counts.mishaps ≡ x.counts.mishaps → n ≡ m
  pub one : CountsOnePut m n x y

answers_as : (k l : List ℕ) (m n : ℕ) (x y : SiteView) (r : Result Bool ActError) (v w : ActuatorView) (parcel : Parcel) (moment : ℕ) → l ≡ k → CountsLent m n x y
    → FilterAnswers r v w parcel moment x y → FilterAnswers r v w parcel moment (retell k m x) (retell l n y)
answers_as k l m n x y (Ok true) v w parcel moment same counts acts = acts_as k l m n x y v w parcel moment same counts.one acts
answers_as k l m n x y (Ok false) v w parcel moment same counts repeats = repeats_as k l m n x y v w parcel same counts.one repeats
answers_as k l m n x y (Err error) v w parcel moment same counts refused =
    let link = same_link error v parcel moment x y refused.0.site in
    let lost : n ≡ m = counts.same (ap (λ (c : CountsView). c.mishaps) link.1) in
    (refuses_as k l m n x y v w parcel moment error same lost refused.0, cause_as k l m n x y error v parcel moment refused.1)

one_as : (k l : List ℕ) (m n : ℕ) (x y : SiteView) (r : Result Bool ActError) (parcel : Parcel) (moment : ℕ) (fs gs : List ActuatorView) → l ≡ k → CountsLent m n x y
    → OneAnswers r parcel moment x y fs gs → OneAnswers r parcel moment (retell k m x) (retell l n y) fs gs
one_as k l m n x y r parcel moment fs gs same counts one = record {
  v = one.v;
  w = one.w;
  there = one.there;
  answers = answers_as k l m n x y r one.v one.w parcel moment same counts one.answers;
  others = one.others;
  agent = one.agent;
  ready = ready_as l n one.w y one.ready;
}

-- what a filter did on a lent wire it did on the wire itself
ready_if : (k : List ℕ) (m : ℕ) (r : Result Bool ActError) (gs : List ActuatorView) (y : SiteView) → OnOk r (FiltersReady gs y) → OnOk r (FiltersReady gs (retell k m y))
ready_if k m (Ok acted) gs y ready = filters_as k m gs y ready
ready_if k m (Err error) gs y ready = tt

-- a wire that came back after so many parcels were put over it, by which it is known what became of them
pub record Back (name : ℕ) (before lent a : WireView) (name' : ℕ) (lent' b : WireView) (put : ℕ) (after : WireView) : Type 0 where
  pub is : a ≡ before
  pub lent_is : lent ≡ before
  pub keeps : KeepsLink lent' b put
  pub end : name' ≡ name → after ≡ b
  pub untold : (a.site.link.pending ≡ None) × (b.site.link.pending ≡ None)

module _ (name name' : ℕ) (before lent lent' a b : WireView) (put : ℕ) (after : WireView) (back : Back name before lent a name' lent' b put after) where
  -- where nothing was put it is whole
  whole_now : put ≡ 0 → b.lines.state ≡ state.Whole
  whole_now none = back.keeps.whole none

  -- the counts of the wire itself
  counts_now : CameBack name lent a name' lent' b → CountsLent a.site.counts.mishaps b.site.counts.mishaps (lent_wire name lent 0 a) (lent_wire name' lent' put b)
  counts_now came =
      let was : lent ≡ a = back.lent_is ∙ sym back.is in
      let lost : lent'.site.counts.mishaps ≡ a.site.counts.mishaps = came.lost ∙ ap (λ (w : WireView). w.site.counts.mishaps) was in
      let puts : count_told lent'.site.link.puts ≡ count_told a.site.link.puts = came.put ∙ ap (λ (w : WireView). count_told w.site.link.puts) was in
      record {
        same = λ none. back.keeps.none none ∙ lost;
        one = record {
          later = let later = back.keeps.later in omega (arith, later, lost);
          lost = λ gone rose. subst (λ (n : ℕ). Rose n b.site.counts.mishaps) lost
              (back.keeps.lost (omega (arith, rose)) (ap (λ (o : Option (List (ℕ × Parcel))). count_told o) gone ∙ sym puts));
          untold = back.untold;
        };
      }

  whole_if : (r : Result Bool ActError) (v w : ActuatorView) (parcel : Parcel) (moment : ℕ) → FilterAnswers r v w parcel moment (lent_wire name lent 0 a) (lent_wire name' lent' put b)
      → OnErr r (b.lines.state ≡ state.Whole)
  whole_if (Ok acted) v w parcel moment did = tt
  whole_if (Err error) v w parcel moment did = whole_now (ap (λ (c : CountsView). c.mishaps) (same_link error v parcel moment (lent_wire name lent 0 a) (lent_wire name' lent' put b) did.0.site).1)

  pub handed_back : (r : Result Bool ActError) (parcel : Parcel) (moment : ℕ) (fs gs : List ActuatorView) → OneAnswers r parcel moment (lent_wire name lent 0 a) (lent_wire name' lent' put b) fs gs
      → OnOk r (FiltersReady gs (lent_wire name' lent' put b)) → Handed r parcel moment before after fs gs
  handed_back r parcel moment fs gs one ready =
      let came = came_back name name' lent lent' a b (answers_label r one.v one.w parcel moment (lent_wire name lent 0 a) (lent_wire name' lent' put b) one.answers) in
      let here : Handed r parcel moment a b fs gs = record {
        answers = one_as a.site.disk.label b.site.disk.label a.site.counts.mishaps b.site.counts.mishaps (lent_wire name lent 0 a) (lent_wire name' lent' put b) r parcel moment fs gs came.label (counts_now came) one;
        filters = ready_if b.site.disk.label b.site.counts.mishaps r gs (lent_wire name' lent' put b) ready;
        reads_none = came.reads;
        whole = whole_if r one.v one.w parcel moment one.answers;
      } in
      subst (λ (w : WireView). Handed r parcel moment before w fs gs) (sym (back.end came.same)) (subst (λ (w : WireView). Handed r parcel moment w b fs gs) back.is here)

-- ---- the opening

file_as : (k l : List ℕ) (m n : ℕ) (x y : SiteView) (file : ℕ) → l ≡ k → n ≡ m → OpensFile file x y → OpensFile file (retell k m x) (retell l n y)
file_as k l m n x y file same lost opens = record { only = only_as k l m n x y file _ same lost opens.only; calls = opens.calls; written = opens.written }

open_as : (k : List ℕ) (m : ℕ) (x : SiteView) (agent : ℕ) (v : ActuatorView) → IsFilterOpen agent x v → IsFilterOpen agent (retell k m x) v
open_as k m x agent v is = record {
  filter = record { ready = ready_as k m v x is.filter.ready; whole = is.filter.whole; of_agent = is.filter.of_agent };
  durable = is.durable;
  stands = is.stands;
  prepared = is.prepared;
}

blocks_as : (l : List ℕ) (n : ℕ) (y : DiskView) → blocks_to n (record y { label = l }) ≡ blocks_to n y
blocks_as l zero y = refl
blocks_as l (suc n) y = ap (λ (m : ℕ). length (y.reads (suc n)) / 4096 + m) (blocks_as l n y)

each_as : (k : List ℕ) (i : ℕ) (x : SiteView) (n : ℕ) (y : SiteView) → OpensInOrder x n y → OpensInOrder (retell k i x) n (retell k i y)
each_as k i x n y nothing = nothing
each_as k i x many y (and_then {n} {old} {new} before last) = and_then (each_as k i x n old before) (file_as k k i i old y (n + 1) refl refl last)

order_as : (k l : List ℕ) (i j : ℕ) (x : SiteView) (n : ℕ) (y : SiteView) → l ≡ k → j ≡ i → OpensInOrder x n y → OpensInOrder (retell k i x) n (retell l j y)
order_as k l i j x n y same lost order =
    subst (λ (m : List ℕ). OpensInOrder (retell k i x) n (retell m j y)) (sym same)
    (subst (λ (h : ℕ). OpensInOrder (retell k i x) n (retell k h y)) (sym lost) (each_as k i x n y order))

opens_as : (k l : List ℕ) (i j : ℕ) (x y : SiteView) (n : ℕ) (fs : List ActuatorView) → l ≡ k → j ≡ i → OpensFilters n x y fs → OpensFilters n (retell k i x) (retell l j y) fs
opens_as k l i j x y n fs same lost opens = record {
  in_order = order_as k l i j x n y same lost opens.in_order;
  many = opens.many;
  each = λ m v there. open_as l j y (suc m) v (opens.each m v there);
  goes_on = on_as k l x.disk y.disk same opens.goes_on;
  images = opens.images;
  reads = opens.reads;
  others = λ file other. stays_as k l x.disk y.disk file (opens.others file other);
  rest = rest_as k l i j x y lost opens.rest;
  steady = opens.steady;
  calls = λ told. let was = opens.calls told in let same = blocks_as l n y.disk in omega (arith, was, same);
  written = opens.written;
}

file_cause_as : (k l : List ℕ) (m n : ℕ) (x y : SiteView) (error : WorldError) (agent : ℕ) → IsFileCause error agent x y → IsFileCause error agent (retell k m x) (retell l n y)
file_cause_as k l m n x y world.Disk agent why = why
file_cause_as k l m n x y (world.Damaged file place) agent why = why
file_cause_as k l m n x y world.Memory agent why = tt
file_cause_as k l m n x y (world.OtherRun held asked) agent why = absurd why
file_cause_as k l m n x y (world.OtherBook index) agent why = absurd why
file_cause_as k l m n x y (world.RunUsed user) agent why = absurd why
file_cause_as k l m n x y (world.Limit what) agent why = absurd why
file_cause_as k l m n x y world.Say agent why = absurd why

refuses_file_as : (k l : List ℕ) (m n : ℕ) (x y : SiteView) (error : WorldError) (agent : ℕ) → l ≡ k → n ≡ m → RefusesFile error agent x y → RefusesFile error agent (retell k m x) (retell l n y)
refuses_file_as k l m n x y error agent same lost is = record { opens = file_as k l m n x y agent same lost is.opens; why = file_cause_as k l m n x y error agent is.why; steady = is.steady; reads = is.reads }

refuses_filters_as : (k l : List ℕ) (m n : ℕ) (x y : SiteView) (error : WorldError) → l ≡ k → n ≡ m → RefusesFilters error x y → RefusesFilters error (retell k m x) (retell l n y)
refuses_filters_as k l m n x y error same lost is = record {
  agent = is.agent;
  high = is.high;
  middle = retell k m is.middle;
  filters = is.filters;
  before = opens_as k k m m x is.middle is.agent is.filters refl refl is.before;
  refuses = refuses_file_as k l m n is.middle y error (is.agent + 1) same lost is.refuses;
}

-- what was opened on a lent wire was opened on the wire itself
opened_label : (r : Result (List ActuatorView) WorldError) (x y : SiteView) → OpenedAs r x y → y.disk.label ≡ x.disk.label
opened_label (Ok fs) x y opens = opens.goes_on.label
opened_label (Err error) x y is = is.refuses.opens.only.each.goes_on.label ∙ is.before.goes_on.label

opened_counts : (r : Result (List ActuatorView) WorldError) (x y : SiteView) → OpenedAs r x y → y.counts.mishaps ≡ x.counts.mishaps
opened_counts (Ok fs) x y opens = ap (λ (c : CountsView). c.mishaps) opens.rest.counts
opened_counts (Err error) x y is = ap (λ (c : CountsView). c.mishaps) (is.refuses.opens.only.rest.counts ∙ is.before.rest.counts)

opened_as : (k l : List ℕ) (m n : ℕ) (x y : SiteView) (r : Result (List ActuatorView) WorldError) → l ≡ k → n ≡ m → OpenedAs r x y → OpenedAs r (retell k m x) (retell l n y)
opened_as k l m n x y (Ok fs) same lost opens = opens_as k l m n x y 16 fs same lost opens
opened_as k l m n x y (Err error) same lost is = refuses_filters_as k l m n x y error same lost is

opened_by : (r : Result (List ActuatorView) WorldError) (x y : SiteView) → IfOk r (λ fs. OpensFilters 16 x y fs) → IfErr r (λ error. RefusesFilters error x y) → OpenedAs r x y
opened_by (Ok fs) x y opens refused = opens
opened_by (Err error) x y opens refused = refused

module _ (name name' : ℕ) (before lent lent' a b : WireView) (put : ℕ) (after : WireView) (back : Back name before lent a name' lent' b put after) where
  opened_whole : (r : Result (List ActuatorView) WorldError) → put ≡ 0 → OnErr r (b.lines.state ≡ state.Whole)
  opened_whole (Ok fs) none = tt
  opened_whole (Err error) none = whole_now name name' before lent lent' a b put after back none

  pub opened_back : (r : Result (List ActuatorView) WorldError) → IfOk r (λ fs. OpensFilters 16 (lent_wire name lent 0 a) (lent_wire name' lent' put b) fs)
      → IfErr r (λ error. RefusesFilters error (lent_wire name lent 0 a) (lent_wire name' lent' put b)) → Opened r before after
  opened_back r opens refused =
      let all = opened_by r (lent_wire name lent 0 a) (lent_wire name' lent' put b) opens refused in
      let came = came_back name name' lent lent' a b (opened_label r (lent_wire name lent 0 a) (lent_wire name' lent' put b) all) in
      let none : put ≡ 0 = opened_counts r (lent_wire name lent 0 a) (lent_wire name' lent' put b) all in
      let here : Opened r a b = record {
        opened = opened_as a.site.disk.label b.site.disk.label a.site.counts.mishaps b.site.counts.mishaps (lent_wire name lent 0 a) (lent_wire name' lent' put b) r came.label
            ((counts_now name name' before lent lent' a b put after back came).same none) all;
        reads_none = came.reads;
        whole = opened_whole r none;
      } in
      subst (λ (w : WireView). Opened r before w) (sym (back.end came.same)) (subst (λ (w : WireView). Opened r w b) back.is here)
