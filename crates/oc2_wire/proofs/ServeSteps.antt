-- What a call of the filters' end has done, from step to step.
use Rattle.std.proofs.Common.{◌≡◌, ◌≢◌, inl, inr, ℕ, suc, ◌+◌, ◌*◌, ◌-◌, ◌≤◌, Bool, true, false, List, [], ◌∷◌, ◌++◌, length, refl, sym, ◌∙◌, subst, ap, IsTrue, arith, All, length-append}
use Rattle.std.specs.Prelude.{Option, Some, None, Contains, slice_get, slice_set}
use Rattle.std.proofs.lemmas.List.{append_assoc, append-nil}
use Rattle.std.proofs.lemmas.List.Elements.{All-append, All-nil, Contains-append_left}
use Rattle.cacao_site.specs.DiskCalls.{AllLeft, IsLeft}
use Rattle.cacao_site.specs.LinkCalls.{GainsAll}
use Rattle.cacao_site.specs.SiteCalls.{LeavesDisk, Puts}
use Rattle.cacao_site.specs.View.{ClockView, CountsView, LinkView, SiteView}
use Rattle.cacao_site.specs.declared.parcel.Parcel.{Parcel}
use Rattle.cacao_site.proofs.Beats.{goes_on-trans, left-keeps, stays-trans}
use Rattle.run_journal.specs.Durable.{header_bytes, header_calls}
use Rattle.run_records.specs.declared.act.Act.{Act}
use Rattle.flow_laws.specs.Images.{IsAgent}
use Rattle.flow_laws.proofs.Basics.{same_or_not, same_some}
use Rattle.slpf_actuator.specs.ActuatorView.{ActuatorView}
use Rattle.flow_world_steps.specs.Grown.{HasGrown}
use Rattle.flow_world_steps.specs.Handled.{IsCommand, IsTakenAct}
use Rattle.flow_world_steps.specs.Ready.{HoldsActsWithUnsure}
use Rattle.flow_world_steps.specs.Sides.{FiltersReady}
use Rattle.flow_world_steps.specs.Sums.{total}
use Rattle.flow_world_steps.proofs.Growth.{gains_one, gains_same, gains_then}
use Rattle.flow_world_steps.proofs.Handling.{get_set_other, get_set_same}
use Rattle.flow_world_parts.specs.Openings.{OpensFilters, blocks_to}
use Rattle.flow_world_parts.proofs.Standing.{filters_stay}
use Rattle.oc2_wire_laws.specs.Ends.{IsFiltersStart}
use Rattle.oc2_wire_site.specs.Wires.{WireView}
use Rattle.oc2_wire.specs.Answering.{AreReplies, HasAct, IsReplyOf, ReadsNoLine, Serves, found_by}
use Rattle.oc2_wire.specs.Answering.AreReplies.{none, replied, lost}
use Rattle.oc2_wire.specs.FilterTurns.{KeptTo, Serving}
use Rattle.oc2_wire.proofs.ActCounts.{length_set}

abbrev pub calls_of : ActuatorView → ℕ
calls_of v = header_calls v.prepared

abbrev pub bytes_of : ActuatorView → ℕ
bytes_of v = header_bytes v.prepared

-- ---- the files

pub holds_ready : (fs : List ActuatorView) (site : SiteView) → FiltersReady fs site → (k : ℕ) (v : ActuatorView) → slice_get fs k ≡ Some v
    → AllLeft (suc k) site.disk (HoldsActsWithUnsure (suc k) v.acts None)
holds_ready fs site ready k v there told image left =
    let is = ready.each k v there in
    (is.ready.images is.whole told image (subst (λ (n : ℕ). IsLeft site.disk n site.disk.beat image) (sym is.of_agent) left)).0

-- ---- the beginning

totals_few : (f : ActuatorView → ℕ) (m : ℕ) (fs : List ActuatorView) → ((v : ActuatorView) → f v ≤ m) → total f fs ≤ m * length fs
totals_few f m [] each = omega arith
totals_few f m (v ∷ fs) each = let here = each v in let rest = totals_few f m fs each in omega (arith, here, rest)

calls_few : (v : ActuatorView) → calls_of v ≤ 2
calls_few v = by v.prepared
  where
    by : (b : Bool) → header_calls b ≤ 2
    by true = omega arith
    by false = omega arith

bytes_few : (v : ActuatorView) → bytes_of v ≤ 9
bytes_few v = by v.prepared
  where
    by : (b : Bool) → header_bytes b ≤ 9
    by true = omega arith
    by false = omega arith

module _ (old now : WireView) (fs : List ActuatorView) (opens : OpensFilters 16 old.site now.site fs) (reads : ReadsNoLine old now) where
  all_ready : FiltersReady fs now.site
  all_ready = record { few = omega (arith, opens.many); each = λ k v there. (opens.each k v there).filter }

  calls_begin : IsTrue old.site.disk.told → now.site.disk.calls + total calls_of fs ≤ old.site.disk.calls + 5 * 16 + blocks_to 16 now.site.disk + 4 * 0
  calls_begin told = let opened = opens.calls told in let few = totals_few calls_of 2 fs calls_few in omega (arith, opened, few, opens.many)

  written_begin : now.site.disk.written + total bytes_of fs ≤ old.site.disk.written + 9 * 16 + 0
  written_begin = let few = totals_few bytes_of 9 fs bytes_few in omega (arith, opens.written, few, opens.many)

  begins : Serves old now.site now fs [] 0 [] None
  begins = record {
    first = fs;
    opens = opens;
    handled = [];
    takes = gains_same old.site.link.taken now.site.link.taken (ap (λ (l : LinkView). l.taken) opens.rest.link);
    commands = All-nil (λ (e : ℕ × Parcel). IsCommand e.1);
    have_acts = All-nil (λ (e : ℕ × Parcel). HasAct fs e.1);
    counted = refl;
    grow = λ k v there. record { now = v; there = there; agent = refl; has = sym (append-nil v.acts) };
    of_acts = All-nil (IsTakenAct []);
    of_unsure = tt;
    many = opens.many;
    hold = holds_ready fs now.site all_ready;
    put = [];
    puts = gains_same old.site.link.puts now.site.link.puts (ap (λ (l : LinkView). l.puts) opens.rest.link);
    replies = none;
    goes_on = opens.goes_on;
    journal = opens.others 0 (inl refl);
    furthest = ap (λ (c : ClockView). c.furthest) opens.rest.clock;
    said = ap (λ (l : LinkView). l.said) opens.rest.link;
    says = ap (λ (c : CountsView). c.says) opens.rest.counts;
    unsaid = ap (λ (c : CountsView). c.unsaid) opens.rest.counts;
    calls = λ told. let all = calls_begin told in omega (arith, all);
    written = let all = written_begin in omega (arith, all);
    asking = reads.asking;
    passed = let same = reads.passed in omega (arith, same);
  }

  pub serving_begins : found_by old.lines.state ≡ 0 → (IsTrue old.site.disk.told → IsFiltersStart old.site → KeptTo old.site now.site) → Serving old now.site now fs [] 0 []
  serving_begins at_none keeps = record {
    serves = begins;
    ready = all_ready;
    steady = opens.steady;
    calls = calls_begin;
    written = written_begin;
    agents = All-nil (λ (e : ℕ × Act). IsAgent e.0);
    short = λ k v there. record { few = omega arith; within = omega arith };
    found_none = reads.found_as ∙ at_none;
    keeps = keeps;
  }

-- ---- a call that leaves the disk, the puts and the lines

pub record Quiet (a b : WireView) : Type 0 where
  pub leaves : LeavesDisk a.site b.site
  pub puts : b.site.link.puts ≡ a.site.link.puts
  pub said : b.site.link.said ≡ a.site.link.said
  pub furthest : b.site.clock.furthest ≡ a.site.clock.furthest
  pub unsaid : b.site.counts.unsaid ≡ a.site.counts.unsaid
  pub asking : b.asking ≡ a.asking
  pub later : a.lines.passed ≤ b.lines.passed

module _ (old : WireView) (opened : SiteView) (a b : WireView) (fs : List ActuatorView) (acts : List (ℕ × Act)) (repeats : ℕ) (hand more : List (ℕ × Parcel)) (quiet : Quiet a b)
    (takes : GainsAll a.site.link.taken more b.site.link.taken) (commands : All (λ (e : ℕ × Parcel). IsCommand e.1) more) where
  pub serves_quiet : Serves old opened a fs acts repeats hand None → Serves old opened b fs acts repeats (hand ++ more) None
  serves_quiet s = record {
    first = s.first;
    opens = s.opens;
    handled = s.handled;
    takes = subst (λ (l : List (ℕ × Parcel)). GainsAll old.site.link.taken l b.site.link.taken) (append_assoc s.handled hand more)
        (gains_then old.site.link.taken a.site.link.taken b.site.link.taken (s.handled ++ hand) more s.takes takes);
    commands = subst (λ (l : List (ℕ × Parcel)). All (λ (e : ℕ × Parcel). IsCommand e.1) l) (append_assoc s.handled hand more)
        (All-append (λ (e : ℕ × Parcel). IsCommand e.1) (s.handled ++ hand) more s.commands commands);
    have_acts = s.have_acts;
    counted = s.counted;
    grow = s.grow;
    of_acts = s.of_acts;
    of_unsure = tt;
    many = s.many;
    hold = λ k v there told image left. s.hold k v there (subst IsTrue quiet.leaves.disk.goes_on.told told) image (left-keeps quiet.leaves.disk (suc k) image left);
    put = s.put;
    puts = subst (λ (o : Option (List (ℕ × Parcel))). GainsAll old.site.link.puts s.put o) (sym quiet.puts) s.puts;
    replies = s.replies;
    goes_on = goes_on-trans s.goes_on quiet.leaves.disk.goes_on;
    journal = stays-trans s.goes_on quiet.leaves.disk.goes_on s.journal (quiet.leaves.disk.stays 0);
    furthest = quiet.furthest ∙ s.furthest;
    said = quiet.said ∙ s.said;
    says = quiet.leaves.says ∙ s.says;
    unsaid = quiet.unsaid ∙ s.unsaid;
    calls = λ told. let was = s.calls told in let same = quiet.leaves.calls in omega (arith, was, same, length-append hand more);
    written = let was = s.written in let same = quiet.leaves.disk.written in omega (arith, was, same);
    asking = quiet.asking ∙ s.asking;
    passed = omega (arith, s.passed, quiet.later);
  }

  pub serving_quiet : found_by b.lines.state ≡ 0 → (KeptTo old.site a.site → KeptTo old.site b.site) → Serving old opened a fs acts repeats hand
      → Serving old opened b fs acts repeats (hand ++ more)
  serving_quiet at_none keeps s = record {
    serves = serves_quiet s.serves;
    ready = filters_stay fs a.site b.site quiet.leaves.disk s.ready;
    steady = quiet.leaves.disk.faults ∙ s.steady;
    calls = λ told. let was = s.calls told in let same = quiet.leaves.calls in omega (arith, was, same);
    written = let was = s.written in let same = quiet.leaves.disk.written in omega (arith, was, same);
    agents = s.agents;
    short = s.short;
    found_none = at_none;
    keeps = λ told start. keeps (s.keeps told start);
  }

-- ---- a filter that has more acts

-- one filter is another, with these acts more
module _ (fs gs : List ActuatorView) (k : ℕ) (v w : ActuatorView) (more : List Act) (there : slice_get fs k ≡ Some v) (now : gs ≡ slice_set fs k w) (has : w.acts ≡ v.acts ++ more)
    (agent : w.agent ≡ v.agent) where
  pub now_there : slice_get gs k ≡ Some w
  now_there = ap (λ (l : List ActuatorView). slice_get l k) now ∙ get_set_same fs k v w there

  pub other_there : (j : ℕ) → j ≢ k → slice_get gs j ≡ slice_get fs j
  other_there j ne = ap (λ (l : List ActuatorView). slice_get l j) now ∙ get_set_other fs k j w ne

  pub act_kept : (parcel : Parcel) → HasAct fs parcel → HasAct gs parcel
  act_kept parcel is = elim (same_or_not (parcel.agent - 1) k) [
    | inl e ↦
        let same : is.filter ≡ v = same_some (sym is.there ∙ ap (λ (n : ℕ). slice_get fs n) e ∙ there) in
        record {
          filter = w;
          there = ap (λ (n : ℕ). slice_get gs n) e ∙ now_there;
          act = is.act;
          acted = record {
            has = subst (λ (l : List Act). Contains l is.act) (sym has) (Contains-append_left v.acts more is.act (subst (λ (f : ActuatorView). Contains f.acts is.act) same is.acted.has));
            of_run = is.acted.of_run;
            of_issue = is.acted.of_issue;
          };
        }
    | inr ne ↦ record { filter = is.filter; there = other_there (parcel.agent - 1) ne ∙ is.there; act = is.act; acted = is.acted }
  ]

  pub many_still : length gs ≡ length fs
  many_still = ap (λ (l : List ActuatorView). length l) now ∙ length_set fs k w

  -- a filter of the beginning has these acts more
  pub has_grown : (first : ActuatorView) (j : ℕ) (was is : List Act) → (j ≡ k → is ≡ was ++ more) → (j ≢ k → is ≡ was ++ []) → HasGrown first fs j was → HasGrown first gs j is
  has_grown first j was is own other grown = elim (same_or_not j k) [
    | inl e ↦
        let same : grown.now ≡ v = same_some (sym grown.there ∙ ap (λ (n : ℕ). slice_get fs n) e ∙ there) in
        record {
          now = w;
          there = ap (λ (n : ℕ). slice_get gs n) e ∙ now_there;
          agent = agent ∙ ap (λ (x : ActuatorView). x.agent) (sym same) ∙ grown.agent;
          has = has ∙ ap (λ (x : ActuatorView). x.acts ++ more) (sym same) ∙ ap (λ (l : List Act). l ++ more) grown.has ∙ append_assoc first.acts was more
              ∙ ap (λ (l : List Act). first.acts ++ l) (sym (own e));
        }
    | inr ne ↦ record {
      now = grown.now;
      there = other_there j ne ∙ grown.there;
      agent = grown.agent;
      has = grown.has ∙ ap (λ (l : List Act). first.acts ++ l) (sym (other ne ∙ append-nil was));
    }
  ]

pub act_left : (a b : List (ℕ × Parcel)) (act : ℕ × Act) → IsTakenAct a act → IsTakenAct (a ++ b) act
act_left a b act is = (is.0, Contains-append_left a b is.0 is.1, is.2, is.3, is.4, is.5, is.6)

-- the replies, with one more or none
pub record RepliesNow (old new : Option (List (ℕ × Parcel))) (handled : List (ℕ × Parcel)) : Type 0 where
  pub put : List (ℕ × Parcel)
  pub puts : GainsAll old put new
  pub replies : AreReplies handled put

pub one_reply : (old : Option (List (ℕ × Parcel))) (a b : SiteView) (handled put : List (ℕ × Parcel)) (x : ℕ × Parcel) (reply : Parcel) → GainsAll old put a.link.puts → AreReplies handled put
    → Puts reply a b → IsReplyOf x.1 reply → RepliesNow old b.link.puts (handled ++ x ∷ [])
one_reply old a b handled put x reply was are puts is = elim puts.puts [
  | inl gained ↦ record {
    put = put ++ (b.disk.beat, reply) ∷ [];
    puts = gains_then old a.link.puts b.link.puts put ((b.disk.beat, reply) ∷ []) was (gains_one a.link.puts b.link.puts (b.disk.beat, reply) gained);
    replies = replied x (b.disk.beat, reply) are is;
  }
  | inr gone ↦ record { put = put; puts = subst (λ (o : Option (List (ℕ × Parcel))). GainsAll old put o) (sym gone.0) was; replies = lost x are }
]
