-- What a call of the filters' end has done, behind a command that was handed to its filter.
use Rattle.std.proofs.Common.{◌≡◌, ◌≢◌, inl, inr, ℕ, suc, ◌+◌, ◌*◌, ◌-◌, ◌≤◌, List, [], ◌∷◌, ◌++◌, length, refl, sym, ◌∙◌, subst, ap, IsTrue, arith, All, length-append}
use Rattle.std.specs.Prelude.{Option, Some, None, Contains, slice_get, slice_set}
use Rattle.std.proofs.lemmas.List.{append-nil}
use Rattle.std.proofs.lemmas.List.Elements.{All-contains, All-nil, All-push, Contains-push}
use Rattle.cacao_site.specs.DiskCalls.{AllLeft, GoesOn, IsLeft, StaysAt}
use Rattle.cacao_site.specs.LinkCalls.{GainsAll}
use Rattle.cacao_site.specs.SiteCalls.{LeavesDisk}
use Rattle.cacao_site.specs.View.{ClockView, CountsView, LinkView, SiteView}
use Rattle.cacao_site.specs.declared.parcel.Parcel.{Parcel}
use Rattle.cacao_site.proofs.Beats.{each-now, goes_on-refl, goes_on-trans, stays-trans}
use Rattle.run_journal.specs.Durable.{header_bytes, header_calls}
use Rattle.run_records.specs.declared.act.Act.{Act}
use Rattle.flow_laws.specs.Images.{IsAgent}
use Rattle.flow_laws.proofs.Basics.{same_or_not, same_some}
use Rattle.slpf_actuator.specs.ActuatorCalls.{Acts, Offers, Repeats}
use Rattle.slpf_actuator.specs.ActuatorView.{ActuatorView, act_for, reply_parcel_of}
use Rattle.flow_world_steps.specs.Grown.{acts_of}
use Rattle.flow_world_steps.specs.Handled.{IsCommand, IsTakenAct}
use Rattle.flow_world_steps.specs.Ready.{HoldsActsWithUnsure}
use Rattle.flow_world_steps.specs.Sides.{FiltersReady, IsFilter}
use Rattle.flow_world_steps.specs.Sums.{total}
use Rattle.flow_world_steps.specs.Written.{act_bytes}
use Rattle.flow_world_steps.proofs.Costs.{sum_part, sum_set}
use Rattle.flow_world_steps.proofs.Growth.{gains_same}
use Rattle.flow_world_steps.proofs.Handling.{total_append}
use Rattle.flow_world_parts.specs.Openings.{blocks_to}
use Rattle.flow_world_parts.proofs.ActSteps.{filter_of}
use Rattle.flow_world_parts.proofs.Standing.{filters_stay}
use Rattle.oc2_wire_site.specs.Wires.{WireView}
use Rattle.oc2_wire.specs.Answering.{HasAct, ReadsNoLine, Serves}
use Rattle.oc2_wire.specs.FilterTurns.{IsShort, KeptTo, Serving, most_in_file}
use Rattle.oc2_wire.proofs.ActCounts.{acts_other, acts_own, each_all, fits_few, set_same}
use Rattle.oc2_wire.proofs.ServeSteps.{Quiet, RepliesNow, act_kept, act_left, bytes_of, calls_of, has_grown, holds_ready, many_still, now_there, one_reply, other_there, serves_quiet}

-- a filter was replaced by one with the same acts
serves_set : (old : WireView) (opened : SiteView) (u : WireView) (fs gs : List ActuatorView) (acts : List (ℕ × Act)) (repeats k : ℕ) (hand : List (ℕ × Parcel)) (unsure : Option (ℕ × Act)) (v w : ActuatorView)
    → slice_get fs k ≡ Some v → gs ≡ slice_set fs k w → w.acts ≡ v.acts → w.agent ≡ v.agent → Serves old opened u fs acts repeats hand unsure → Serves old opened u gs acts repeats hand unsure
serves_set old opened u fs gs acts repeats k hand unsure v w there now same agent s =
    let has : w.acts ≡ v.acts ++ [] = same ∙ sym (append-nil v.acts) in
    record {
      first = s.first;
      opens = s.opens;
      handled = s.handled;
      takes = s.takes;
      commands = s.commands;
      have_acts = each_all (λ (e : ℕ × Parcel). HasAct fs e.1) (λ (e : ℕ × Parcel). HasAct gs e.1) s.handled (λ e is. act_kept fs gs k v w [] there now has agent e.1 is) s.have_acts;
      counted = s.counted;
      grow = λ j first at. has_grown fs gs k v w [] there now has agent first j (acts_of (suc j) acts) (acts_of (suc j) acts) (λ e. sym (append-nil (acts_of (suc j) acts)))
          (λ ne. sym (append-nil (acts_of (suc j) acts))) (s.grow j first at);
      of_acts = s.of_acts;
      of_unsure = s.of_unsure;
      many = many_still fs gs k v w [] there now has agent ∙ s.many;
      hold = λ j y at told image left. elim (same_or_not j k) [
        | inl e ↦
            let is_w : w ≡ y = same_some (sym (now_there fs gs k v w [] there now has agent) ∙ ap (λ (n : ℕ). slice_get gs n) (sym e) ∙ at) in
            let was = s.hold j v (ap (λ (n : ℕ). slice_get fs n) e ∙ there) told image left in
            subst (λ (z : ActuatorView). HoldsActsWithUnsure (suc j) z.acts unsure image) is_w (subst (λ (l : List Act). HoldsActsWithUnsure (suc j) l unsure image) (sym same) was)
        | inr ne ↦ s.hold j y (sym (other_there fs gs k v w [] there now has agent j ne) ∙ at) told image left
      ];
      put = s.put;
      puts = s.puts;
      replies = s.replies;
      goes_on = s.goes_on;
      journal = s.journal;
      furthest = s.furthest;
      said = s.said;
      says = s.says;
      unsaid = s.unsaid;
      calls = s.calls;
      written = s.written;
      asking = s.asking;
      passed = s.passed;
    }

module _ (old : WireView) (opened : SiteView) (m u : WireView) (fs gs : List ActuatorView) (acts : List (ℕ × Act)) (repeats beat moment : ℕ) (parcel : Parcel)
    (s : Serving old opened m fs acts repeats ((beat, parcel) ∷ [])) (reads : ReadsNoLine m u) where
  pub at_hand : IsCommand parcel
  at_hand = All-contains (λ (e : ℕ × Parcel). IsCommand e.1) (s.serves.handled ++ (beat, parcel) ∷ []) (beat, parcel) s.serves.commands (Contains-push s.serves.handled (beat, parcel))

  pub of_parcel : (v : ActuatorView) → slice_get fs (parcel.agent - 1) ≡ Some v → IsFilter v parcel.agent m.site
  of_parcel v there = filter_of fs m.site parcel.agent v s.ready at_hand.addressed.low there

  number : suc (parcel.agent - 1) ≡ parcel.agent
  number = let low = at_hand.addressed.low in omega (arith, low)

  now_handled : u.site.link.taken ≡ m.site.link.taken → GainsAll old.site.link.taken ((s.serves.handled ++ (beat, parcel) ∷ []) ++ []) u.site.link.taken
  now_handled same =
      subst (λ (l : List (ℕ × Parcel)). GainsAll old.site.link.taken l u.site.link.taken) (sym (append-nil (s.serves.handled ++ (beat, parcel) ∷ [])))
      (subst (λ (o : Option (List (ℕ × Parcel))). GainsAll old.site.link.taken (s.serves.handled ++ (beat, parcel) ∷ []) o) (sym same) s.serves.takes)

  now_commands : All (λ (e : ℕ × Parcel). IsCommand e.1) ((s.serves.handled ++ (beat, parcel) ∷ []) ++ [])
  now_commands = subst (λ (l : List (ℕ × Parcel)). All (λ (e : ℕ × Parcel). IsCommand e.1) l) (sym (append-nil (s.serves.handled ++ (beat, parcel) ∷ []))) s.serves.commands

  -- ---- it acted

  module _ (v w : ActuatorView) (there : slice_get fs (parcel.agent - 1) ≡ Some v) (now : gs ≡ slice_set fs (parcel.agent - 1) w) (did : Acts v w parcel moment m.site u.site)
      (ready : FiltersReady gs u.site) (keeps : KeptTo old.site m.site → KeptTo old.site u.site) where
    abbrev act : Act
    act = act_for v.acts parcel moment

    abbrev entry : ℕ × Act
    entry = (parcel.agent, act_for v.acts parcel moment)

    acts_are : w.acts ≡ v.acts ++ act_for v.acts parcel moment ∷ []
    acts_are = ap (λ (x : ActuatorView). x.acts) did.view

    same_agent : w.agent ≡ v.agent
    same_agent = ap (λ (x : ActuatorView). x.agent) did.view

    own_acts : (k : ℕ) → k ≡ parcel.agent - 1 → acts_of (suc k) (acts ++ entry ∷ []) ≡ acts_of (suc k) acts ++ act ∷ []
    own_acts k e =
        let is : suc k ≡ parcel.agent = ap suc e ∙ number in
        subst (λ (n : ℕ). acts_of (suc k) (acts ++ (n, act) ∷ []) ≡ acts_of (suc k) acts ++ act ∷ []) is (acts_own (suc k) acts act)

    other_acts : (k : ℕ) → k ≢ parcel.agent - 1 → acts_of (suc k) (acts ++ entry ∷ []) ≡ acts_of (suc k) acts ++ []
    other_acts k ne = acts_other (suc k) parcel.agent acts act (λ e. ne (let low = at_hand.addressed.low in omega (arith, e, low)))

    on : GoesOn m.site.disk u.site.disk
    on = goes_on-trans did.offers.adds.file.each.goes_on did.puts.disk.disk.goes_on

    journal_stays : StaysAt m.site.disk u.site.disk 0
    journal_stays =
        let low = (of_parcel v there).ready.low in
        stays-trans did.offers.adds.file.each.goes_on did.puts.disk.disk.goes_on (did.offers.adds.file.others 0 (λ e. absurd (omega (arith, e, low)))) (did.puts.disk.disk.stays 0)

    calls_now : IsTrue old.site.disk.told → u.site.disk.calls + total calls_of gs ≤ old.site.disk.calls + 5 * 16 + blocks_to 16 opened.disk + 4 * length (acts ++ entry ∷ [])
    calls_now told =
        let was = s.calls told in
        let more = did.offers.adds.calls in
        let same = did.puts.disk.calls in
        let sum = sum_set calls_of fs (parcel.agent - 1) v w there in
        let sums = ap (total calls_of) now in
        let none : calls_of w ≡ 0 = ap (λ (x : ActuatorView). header_calls x.prepared) did.view in
        omega (arith, was, more, same, sum, sums, none, length-append acts (entry ∷ []))

    written_now : u.site.disk.written + total bytes_of gs ≤ old.site.disk.written + 9 * 16 + total act_bytes (acts ++ entry ∷ [])
    written_now =
        let was = s.written in
        let more = did.offers.adds.written in
        let same = did.puts.disk.disk.written in
        let sum = sum_set bytes_of fs (parcel.agent - 1) v w there in
        let sums = ap (total bytes_of) now in
        let none : bytes_of w ≡ 0 = ap (λ (x : ActuatorView). header_bytes x.prepared) did.view in
        omega (arith, was, more, same, sum, sums, none, total_append act_bytes acts (entry ∷ []))

    short_now : (k : ℕ) (y : ActuatorView) → slice_get gs k ≡ Some y → IsShort y (acts_of (suc k) (acts ++ entry ∷ []))
    short_now k y at = elim (same_or_not k (parcel.agent - 1)) [
      | inl e ↦
          let is_w : w ≡ y = same_some (sym (now_there fs gs (parcel.agent - 1) v w (act ∷ []) there now acts_are same_agent) ∙ ap (λ (n : ℕ). slice_get gs n) (sym e) ∙ at) in
          let was = s.short k v (ap (λ (n : ℕ). slice_get fs n) e ∙ there) in
          let long : length (acts_of (suc k) (acts ++ entry ∷ [])) ≡ length (acts_of (suc k) acts) + 1 = ap length (own_acts k e) ∙ length-append (acts_of (suc k) acts) (act ∷ []) in
          let longer : length w.acts ≡ length v.acts + 1 = ap length acts_are ∙ length-append v.acts (act ∷ []) in
          let few = fits_few v.acts act most_in_file did.fits in
          subst (λ (z : ActuatorView). IsShort z (acts_of (suc k) (acts ++ entry ∷ []))) is_w
          (record { few = omega (arith, long, was.within, few); within = omega (arith, long, longer, was.within) })
      | inr ne ↦
          let was = s.short k y (sym (other_there fs gs (parcel.agent - 1) v w (act ∷ []) there now acts_are same_agent k ne) ∙ at) in
          let same : length (acts_of (suc k) (acts ++ entry ∷ [])) ≡ length (acts_of (suc k) acts) = ap length (other_acts k ne ∙ append-nil (acts_of (suc k) acts)) in
          record { few = omega (arith, same, was.few); within = omega (arith, same, was.within) }
    ]

    replies_now : RepliesNow old.site.link.puts u.site.link.puts (s.serves.handled ++ (beat, parcel) ∷ [])
    replies_now =
        one_reply old.site.link.puts did.between u.site s.serves.handled s.serves.put (beat, parcel) (reply_parcel_of v.agent parcel act.reply)
        (subst (λ (o : Option (List (ℕ × Parcel))). GainsAll old.site.link.puts s.serves.put o) (sym (ap (λ (l : LinkView). l.puts) did.offers.adds.file.rest.link)) s.serves.puts) s.serves.replies did.puts
        (record { back = refl; agent = (of_parcel v there).of_agent; of_run = refl; of_issue = refl })

    serves_acts : Serves old opened u gs (acts ++ entry ∷ []) repeats [] None
    serves_acts =
        let was = s.serves in
        let rest = did.offers.adds.file.rest in
        let handled = was.handled ++ (beat, parcel) ∷ [] in
        record {
          first = was.first;
          opens = was.opens;
          handled = handled;
          takes = now_handled (did.puts.taken ∙ ap (λ (l : LinkView). l.taken) rest.link);
          commands = now_commands;
          have_acts = All-push (λ (e : ℕ × Parcel). HasAct gs e.1) was.handled (beat, parcel)
              (each_all (λ (e : ℕ × Parcel). HasAct fs e.1) (λ (e : ℕ × Parcel). HasAct gs e.1) was.handled
              (λ e is. act_kept fs gs (parcel.agent - 1) v w (act ∷ []) there now acts_are same_agent e.1 is) was.have_acts)
              (record {
                filter = w;
                there = now_there fs gs (parcel.agent - 1) v w (act ∷ []) there now acts_are same_agent;
                act = act;
                acted = record { has = subst (λ (l : List Act). Contains l act) (sym acts_are) (Contains-push v.acts act); of_run = refl; of_issue = refl };
              });
          counted = let n = was.counted in omega (arith, n, length-append was.handled ((beat, parcel) ∷ []), length-append acts (entry ∷ []));
          grow = λ k first at. has_grown fs gs (parcel.agent - 1) v w (act ∷ []) there now acts_are same_agent first k (acts_of (suc k) acts) (acts_of (suc k) (acts ++ entry ∷ [])) (own_acts k)
              (other_acts k) (was.grow k first at);
          of_acts = All-push (IsTakenAct handled) acts entry
              (each_all (IsTakenAct was.handled) (IsTakenAct handled) acts (λ e is. act_left was.handled ((beat, parcel) ∷ []) e is) was.of_acts)
              ((beat, parcel), Contains-push was.handled (beat, parcel), at_hand.command, refl, refl, refl, refl);
          of_unsure = tt;
          many = many_still fs gs (parcel.agent - 1) v w (act ∷ []) there now acts_are same_agent ∙ was.many;
          hold = holds_ready gs u.site ready;
          put = replies_now.put;
          puts = replies_now.puts;
          replies = replies_now.replies;
          goes_on = goes_on-trans was.goes_on on;
          journal = stays-trans was.goes_on on was.journal journal_stays;
          furthest = did.puts.time.furthest ∙ ap (λ (c : ClockView). c.furthest) rest.clock ∙ was.furthest;
          said = did.puts.said ∙ ap (λ (l : LinkView). l.said) rest.link ∙ was.said;
          says = did.puts.disk.says ∙ ap (λ (c : CountsView). c.says) rest.counts ∙ was.says;
          unsaid = did.puts.unsaid ∙ ap (λ (c : CountsView). c.unsaid) rest.counts ∙ was.unsaid;
          calls = λ told. let all = calls_now told in omega (arith, all);
          written = let all = written_now in omega (arith, all);
          asking = reads.asking ∙ was.asking;
          passed = let same = reads.passed in let before = was.passed in omega (arith, before, same);
        }

    pub serving_acts : Serving old opened u gs (acts ++ entry ∷ []) repeats []
    serving_acts = record {
      serves = serves_acts;
      ready = ready;
      steady = did.puts.disk.disk.faults ∙ did.steady ∙ s.steady;
      calls = calls_now;
      written = written_now;
      agents = All-push (λ (e : ℕ × Act). IsAgent e.0) acts entry s.agents (at_hand.addressed.low, at_hand.addressed.high);
      short = short_now;
      found_none = reads.found_as ∙ s.found_none;
      keeps = λ told start. keeps (s.keeps told start);
    }

  -- ---- it had acted before

  module _ (v w : ActuatorView) (there : slice_get fs (parcel.agent - 1) ≡ Some v) (now : gs ≡ slice_set fs (parcel.agent - 1) w) (did : Repeats v w parcel m.site u.site)
      (keeps : KeptTo old.site m.site → KeptTo old.site u.site) where
    same_filters : gs ≡ fs
    same_filters = now ∙ ap (λ (x : ActuatorView). slice_set fs (parcel.agent - 1) x) did.view ∙ set_same fs (parcel.agent - 1) v there

    replies_again : RepliesNow old.site.link.puts u.site.link.puts (s.serves.handled ++ (beat, parcel) ∷ [])
    replies_again =
        one_reply old.site.link.puts m.site u.site s.serves.handled s.serves.put (beat, parcel) (reply_parcel_of v.agent parcel did.act.reply) s.serves.puts s.serves.replies did.puts
        (record { back = refl; agent = (of_parcel v there).of_agent; of_run = refl; of_issue = refl })

    still_ready : FiltersReady fs u.site
    still_ready = filters_stay fs m.site u.site did.puts.disk.disk s.ready

    calls_again : IsTrue old.site.disk.told → u.site.disk.calls + total calls_of fs ≤ old.site.disk.calls + 5 * 16 + blocks_to 16 opened.disk + 4 * length acts
    calls_again told = let was = s.calls told in let same = did.puts.disk.calls in omega (arith, was, same)

    written_again : u.site.disk.written + total bytes_of fs ≤ old.site.disk.written + 9 * 16 + total act_bytes acts
    written_again = let was = s.written in let same = did.puts.disk.disk.written in omega (arith, was, same)

    serves_again : Serves old opened u fs acts (repeats + 1) [] None
    serves_again =
        let was = s.serves in
        let handled = was.handled ++ (beat, parcel) ∷ [] in
        record {
          first = was.first;
          opens = was.opens;
          handled = handled;
          takes = now_handled did.puts.taken;
          commands = now_commands;
          have_acts = All-push (λ (e : ℕ × Parcel). HasAct fs e.1) was.handled (beat, parcel) was.have_acts (record { filter = v; there = there; act = did.act; acted = did.acted });
          counted = let n = was.counted in omega (arith, n, length-append was.handled ((beat, parcel) ∷ []));
          grow = was.grow;
          of_acts = each_all (IsTakenAct was.handled) (IsTakenAct handled) acts (λ e is. act_left was.handled ((beat, parcel) ∷ []) e is) was.of_acts;
          of_unsure = tt;
          many = was.many;
          hold = holds_ready fs u.site still_ready;
          put = replies_again.put;
          puts = replies_again.puts;
          replies = replies_again.replies;
          goes_on = goes_on-trans was.goes_on did.puts.disk.disk.goes_on;
          journal = stays-trans was.goes_on did.puts.disk.disk.goes_on was.journal (did.puts.disk.disk.stays 0);
          furthest = did.puts.time.furthest ∙ was.furthest;
          said = did.puts.said ∙ was.said;
          says = did.puts.disk.says ∙ was.says;
          unsaid = did.puts.unsaid ∙ was.unsaid;
          calls = λ told. let all = calls_again told in omega (arith, all);
          written = let all = written_again in omega (arith, all);
          asking = reads.asking ∙ was.asking;
          passed = let same = reads.passed in let before = was.passed in omega (arith, before, same);
        }

    pub serving_again : Serving old opened u gs acts (repeats + 1) []
    serving_again = subst (λ (l : List ActuatorView). Serving old opened u l acts (repeats + 1) []) (sym same_filters) (record {
      serves = serves_again;
      ready = still_ready;
      steady = did.puts.disk.disk.faults ∙ s.steady;
      calls = calls_again;
      written = written_again;
      agents = s.agents;
      short = s.short;
      found_none = reads.found_as ∙ s.found_none;
      keeps = λ told start. keeps (s.keeps told start);
    })

  -- ---- it was refused

  module _ (v w : ActuatorView) (there : slice_get fs (parcel.agent - 1) ≡ Some v) (now : gs ≡ slice_set fs (parcel.agent - 1) w) (acts_same : w.acts ≡ v.acts) (agent_same : w.agent ≡ v.agent) where
    nothing_leaves : u.site ≡ m.site → LeavesDisk m.site u.site
    nothing_leaves none = subst (λ (t : SiteView). LeavesDisk m.site t) (sym none) (record {
      disk = record {
        goes_on = goes_on-refl m.site.disk;
        stays = λ file. record { reads = refl; images = λ beat image from to. let here : beat ≡ m.site.disk.beat = omega (arith, from, to) in ap (λ (n : ℕ). m.site.disk.left file n image) here };
        written = refl;
        faults = refl;
      };
      calls = refl;
      says = refl;
    })

    -- nothing was done
    pub serves_none : u.site ≡ m.site → Serves old opened u gs acts repeats ((beat, parcel) ∷ []) None
    serves_none none =
        let quiet : Quiet m u = record {
          leaves = nothing_leaves none;
          puts = ap (λ (t : SiteView). t.link.puts) none;
          said = ap (λ (t : SiteView). t.link.said) none;
          furthest = ap (λ (t : SiteView). t.clock.furthest) none;
          unsaid = ap (λ (t : SiteView). t.counts.unsaid) none;
          asking = reads.asking;
          later = let same = reads.passed in omega (arith, same);
        } in
        let no_more : GainsAll m.site.link.taken [] u.site.link.taken = gains_same m.site.link.taken u.site.link.taken (ap (λ (t : SiteView). t.link.taken) none) in
        serves_set old opened u fs gs acts repeats (parcel.agent - 1) ((beat, parcel) ∷ []) None v w there now acts_same agent_same
        (serves_quiet old opened m u fs acts repeats ((beat, parcel) ∷ []) [] quiet no_more (All-nil (λ (e : ℕ × Parcel). IsCommand e.1)) s.serves)

    -- the act may have been appended
    module _ (offers : Offers v parcel moment m.site u.site) where
      abbrev unsure : ℕ × Act
      unsure = (parcel.agent, act_for v.acts parcel moment)

      hold_unsure : (k : ℕ) (y : ActuatorView) → slice_get fs k ≡ Some y → AllLeft (suc k) u.site.disk (HoldsActsWithUnsure (suc k) y.acts (Some unsure))
      hold_unsure k y at told image left =
          let is = of_parcel v there in
          let file = offers.adds.file in
          let told_m : IsTrue m.site.disk.told = subst IsTrue file.each.goes_on.told told in
          elim (same_or_not k (parcel.agent - 1)) [
            | inl e ↦
                let is_v : v ≡ y = same_some (sym there ∙ ap (λ (n : ℕ). slice_get fs n) (sym e) ∙ at) in
                let agent : parcel.agent ≡ suc k = sym (ap suc e ∙ number) in
                let own : suc k ≡ v.agent = sym (is.of_agent ∙ agent) in
                let held = each-now file.each told_m image (subst (λ (n : ℕ). IsLeft u.site.disk n u.site.disk.beat image) own left) in
                subst (λ (z : ActuatorView). HoldsActsWithUnsure (suc k) z.acts (Some unsure) image) is_v (elim held [ inl before ↦ inl before | inr after ↦ inr (agent, after) ])
            | inr ne ↦
                let other : suc k ≢ v.agent = (λ e. ne (let low = at_hand.addressed.low in let of = is.of_agent in omega (arith, e, of, low))) in
                inl (s.serves.hold k y at told_m image (subst IsTrue ((file.others (suc k) other).images u.site.disk.beat image file.each.goes_on.later (omega arith)) left))
          ]

      pub serves_unsure : Serves old opened u gs acts repeats ((beat, parcel) ∷ []) (Some unsure)
      serves_unsure =
          let was = s.serves in
          let file = offers.adds.file in
          let low = (of_parcel v there).ready.low in
          serves_set old opened u fs gs acts repeats (parcel.agent - 1) ((beat, parcel) ∷ []) (Some unsure) v w there now acts_same agent_same (record {
            first = was.first;
            opens = was.opens;
            handled = was.handled;
            takes = subst (λ (o : Option (List (ℕ × Parcel))). GainsAll old.site.link.taken (was.handled ++ (beat, parcel) ∷ []) o) (sym (ap (λ (l : LinkView). l.taken) file.rest.link)) was.takes;
            commands = was.commands;
            have_acts = was.have_acts;
            counted = was.counted;
            grow = was.grow;
            of_acts = was.of_acts;
            of_unsure = ((beat, parcel), (0, omega arith, refl), at_hand.command, refl, refl, refl, refl);
            many = was.many;
            hold = hold_unsure;
            put = was.put;
            puts = subst (λ (o : Option (List (ℕ × Parcel))). GainsAll old.site.link.puts was.put o) (sym (ap (λ (l : LinkView). l.puts) file.rest.link)) was.puts;
            replies = was.replies;
            goes_on = goes_on-trans was.goes_on file.each.goes_on;
            journal = stays-trans was.goes_on file.each.goes_on was.journal (file.others 0 (λ e. absurd (omega (arith, e, low))));
            furthest = ap (λ (c : ClockView). c.furthest) file.rest.clock ∙ was.furthest;
            said = ap (λ (l : LinkView). l.said) file.rest.link ∙ was.said;
            says = ap (λ (c : CountsView). c.says) file.rest.counts ∙ was.says;
            unsaid = ap (λ (c : CountsView). c.unsaid) file.rest.counts ∙ was.unsaid;
            calls = λ told. let before = s.calls told in let more = offers.adds.calls in let part = sum_part calls_of fs (parcel.agent - 1) v there in omega (arith, before, more, part);
            written = let before = s.written in let more = offers.adds.written in let part = sum_part bytes_of fs (parcel.agent - 1) v there in omega (arith, before, more, part);
            asking = reads.asking ∙ was.asking;
            passed = let same = reads.passed in let before = was.passed in omega (arith, before, same);
          })
