-- What is under way for each issue that was put.
use Rattle.std.proofs.Common.{◌≡◌, ◌≢◌, ◌⊎◌, inl, inr, ℕ, zero, suc, ◌≤◌, Bool, true, false, List, [], ◌∷◌, ◌++◌, refl, sym, ◌∙◌, subst, ap, arith}
use Rattle.std.specs.Prelude.{Option, Some, None, IfSome, IsSome, Contains, option_and_then, option_map, slice_get}
use Rattle.std.proofs.lemmas.Bool.{false≢true}
use Rattle.std.proofs.lemmas.Option.{none-some}
use Rattle.std.proofs.lemmas.List.Elements.{Contains-append_left, Contains-push}
use Rattle.cacao_site.specs.Counts.{DidNotRise}
use Rattle.cacao_site.specs.LinkCalls.{Gains, GainsAll, Loses}
use Rattle.cacao_site.specs.SiteCalls.{Puts}
use Rattle.cacao_site.specs.View.{CountsView, LinkView, SiteView}
use Rattle.cacao_site.specs.declared.parcel.Parcel.{Parcel}
use Rattle.oc2_msg.specs.declared.answers.Answer.{Answer}
use Rattle.run_records.specs.declared.record.Record.{Record}
use Rattle.flow_core_rules.specs.Changes.{moment_of}
use Rattle.flow_core_rules.specs.Laws.{ended_by}
use Rattle.flow_core_rules.specs.Moves.{deadline_of}
use Rattle.flow_core_rules.specs.Runs.{shown_after}
use Rattle.flow_core_rules.specs.State.{Shown}
use Rattle.flow_core_rules.specs.declared.issues.Issue.{Issue}
use Rattle.base_dues.specs.Pairs.{is_by}
use Rattle.flow_engine.specs.HistoryView.{HistoryView}
use Rattle.flow_engine.specs.Histories.{IsHistory}
use Rattle.flow_engine.specs.EngineCalls.{IsReply, IsReplyTo, IsWaiting, put_deadline}
use Rattle.flow_engine.specs.EngineView.{EngineView}
use Rattle.flow_engine.specs.OpenIssues.{ArePut, OpenIssues, puts_of, with_put}
use Rattle.flow_engine.specs.declared.puts.Puts.{Puts as PutsOf}
use Rattle.slpf_actuator.specs.ActLists.{IsFinalReply}
use Rattle.slpf_actuator.specs.ActuatorView.{ActuatorView, reply_parcel_of}
use Rattle.flow_laws.proofs.Basics.{same_or_not}
use Rattle.flow_world_steps.specs.Appends.{Tries}
use Rattle.flow_world_steps.specs.Appends.Tries.{done, failed, limited}
use Rattle.flow_world_steps.specs.Sides.{IsFilter}
use Rattle.flow_world_steps.specs.Steps.{HoldsCommand, PutsCommand, Step}
use Rattle.flow_world_steps.specs.Steps.Step.{opens_clock, finds_run_used, asks_clock, finds_late, begins, moves, upgrades, tells, expires, says, fails_to_say}
use Rattle.flow_world_steps.specs.Steps.Step.{puts_first, resends, takes, finds_none, fails_to_take, drops, replies, ignores_reply, acts_on, repeats_reply, fails_to_act, wants_memory_now}
use Rattle.flow_world_steps.specs.Steps.Steps.{nothing, and_then}
use Rattle.flow_world_steps.specs.UnderWay.{EachUnderWay, IsInHand, IsPending, NoExpiry, Serves, IsUnderWay}
use Rattle.flow_world_steps.specs.Worlds.{Cause, HasAllFilters, IsGoing, Phase, World, opened, rests, looked, owes, holds, refused}
use Rattle.flow_world_steps.proofs.Beside.{dropped_for_none, steps_have_all}
use Rattle.flow_world_steps.proofs.Issues.{KeepsShown, keeps_shown, put_before, puts_other}
use Rattle.flow_world_steps.proofs.Looked.{steps_look}
use Rattle.flow_world_steps.proofs.Lost.{steps_put_or_lose}

-- ---- parcels that serve an issue

-- a parcel serves it as before, where a record doesn't end it
serves_on : (h k : HistoryView) (r : Record) (issue : ℕ) (parcel : Parcel) → KeepsShown h.seen k.seen r → k.seen.run ≡ h.seen.run → (ended_by r ≡ Some issue → ⊥)
    → Serves h issue parcel → Serves k issue parcel
serves_on h k r issue parcel keeps run apart s = record {
  addressed = s.addressed;
  kind = elim s.kind [
    | inl command ↦ inl (record {
      it = command.it;
      waiting = record { there = keeps.others issue command.it command.waiting.there apart; waits = command.waiting.waits; of_filter = command.waiting.of_filter };
      is = command.is ∙ ap (λ (n : ℕ). command_with n command.it) (sym run);
    })
    | inr reply ↦
        let from = reply.to.sent_back in
        let apart_here : ended_by r ≡ Some parcel.issue → ⊥ = λ e. apart (e ∙ ap Some reply.of_issue) in
        inr (record {
          of_issue = reply.of_issue;
          read = reply.read;
          to = record {
            sent_back = record {
              back = from.back;
              of_run = from.of_run ∙ sym run;
              it = from.it;
              waiting = record { there = keeps.others parcel.issue from.it from.waiting.there apart_here; waits = from.waiting.waits; of_filter = from.waiting.of_filter };
              of_agent = from.of_agent;
            };
            read_is = reply.to.read_is;
          };
        })
  ];
}
  where
    command_with : ℕ → Issue → Parcel
    command_with run it = record { agent = it.agent; back = false; run = run; issue = issue; bytes = it.bytes }

pending_on : (h k : HistoryView) (issue : ℕ) (o : Option (List Parcel)) → ((parcel : Parcel) → Serves h issue parcel → Serves k issue parcel) → IfSome o (IsPending h issue) → IfSome o (IsPending k issue)
pending_on h k issue None to is = tt
pending_on h k issue (Some l) to is = record { parcel = is.parcel; has = is.has; serves = to is.parcel is.serves }

pending_more : (h : HistoryView) (issue : ℕ) (a b : Option (List Parcel)) (more : List Parcel) → GainsAll a more b → IfSome a (IsPending h issue) → IfSome b (IsPending h issue)
pending_more h issue (Some a) (Some b) more e is =
    record { parcel = is.parcel; has = subst (λ (l : List Parcel). Contains l is.parcel) (sym e) (Contains-append_left a more is.parcel is.has); serves = is.serves }
pending_more h issue (Some a) None more e is = absurd e
pending_more h issue None (Some b) more e is = absurd e
pending_more h issue None None more e is = tt

pending_last : (h : HistoryView) (issue : ℕ) (a b : Option (List Parcel)) (parcel : Parcel) → Gains a parcel b → Serves h issue parcel → IfSome b (IsPending h issue)
pending_last h issue (Some a) (Some b) parcel e s = record { parcel = parcel; has = subst (λ (l : List Parcel). Contains l parcel) (sym e) (Contains-push a parcel); serves = s }
pending_last h issue (Some a) None parcel e s = tt
pending_last h issue None (Some b) parcel e s = absurd e
pending_last h issue None None parcel e s = tt

pending_with : (h : HistoryView) (issue : ℕ) (a b : Option (List Parcel)) (parcel : Parcel) → Gains a parcel b → IfSome a (IsPending h issue) → IfSome b (IsPending h issue)
pending_with h issue (Some a) (Some b) parcel e is =
    record { parcel = is.parcel; has = subst (λ (l : List Parcel). Contains l is.parcel) (sym e) (Contains-append_left a (parcel ∷ []) is.parcel is.has); serves = is.serves }
pending_with h issue (Some a) None parcel e is = tt
pending_with h issue None (Some b) parcel e is = absurd e
pending_with h issue None None parcel e is = tt

-- an element of a list is the one that was taken out, or among the others
in_parts : (front back : List Parcel) (p x : Parcel) → Contains (front ++ p ∷ back) x → (x ≡ p) ⊎ Contains (front ++ back) x
in_parts [] back p x (zero, lt, e) = inl (sym e)
in_parts [] back p x (suc k, lt, e) = inr (k, omega (arith, lt), e)
in_parts (y ∷ front) back p x (zero, lt, e) = inr (0, omega arith, e)
in_parts (y ∷ front) back p x (suc k, lt, e) = elim (in_parts front back p x (k, omega (arith, lt), e)) [
  | inl same ↦ inl same
  | inr rest ↦ inr (suc rest.0, omega (arith, rest.1), rest.2)
]

pending_less : (h : HistoryView) (issue : ℕ) (a b : Option (List Parcel)) (p : Parcel) → Loses a p b → IfSome a (IsPending h issue) → Serves h issue p ⊎ IfSome b (IsPending h issue)
pending_less h issue (Some a) (Some b) p lost is = elim (in_parts lost.front lost.back p is.parcel (subst (λ (l : List Parcel). Contains l is.parcel) lost.was is.has)) [
  | inl same ↦ inl (subst (λ (x : Parcel). Serves h issue x) same is.serves)
  | inr rest ↦ inr (record { parcel = is.parcel; has = subst (λ (l : List Parcel). Contains l is.parcel) (sym lost.is) rest; serves = is.serves })
]
pending_less h issue (Some a) None p lost is = absurd lost
pending_less h issue None (Some b) p lost is = absurd lost
pending_less h issue None None p lost is = inr tt

-- ---- phases

going_as : (p q : Phase) → p ≡ q → IsGoing q → IsGoing p
going_as p q e g = subst IsGoing (sym e) g

-- a session that has refused has nothing under way
refused_waits : (w : World) (cause : Cause) (lacks : Bool) → w.phase ≡ refused cause lacks → IsUnderWay w
refused_waits w cause lacks e = record { each = λ g. absurd (subst IsGoing e g) }

abbrev pub IsFree : Phase → Type 0
IsFree p = (beat : ℕ) (parcel : Parcel) → p ≡ holds beat parcel → ⊥

free_opened : (p : Phase) → p ≡ opened → IsFree p
free_opened p e beat parcel h = let f : opened ≡ holds beat parcel = sym e ∙ h in cc

free_rests : (p : Phase) → p ≡ rests → IsFree p
free_rests p e beat parcel h = let f : rests ≡ holds beat parcel = sym e ∙ h in cc

free_looked : (p : Phase) → p ≡ looked → IsFree p
free_looked p e beat parcel h = let f : looked ≡ holds beat parcel = sym e ∙ h in cc

free_owes : (p : Phase) → p ≡ owes → IsFree p
free_owes p e beat parcel h = let f : owes ≡ holds beat parcel = sym e ∙ h in cc

-- what was pending where nothing is in hand
pub was_pending : (w : World) → IsFree w.phase → IsGoing w.phase → IsUnderWay w → (issue : ℕ) → puts_of w.engine.puts issue ≢ None → IfSome w.site.link.pending (IsPending w.engine.history issue)
was_pending w free going is issue put = elim (is.each going issue put) [ inl hand ↦ absurd (free hand.beat hand.parcel hand.is) | inr pending ↦ pending ]

-- the engine stays, nothing is in hand, and no parcel was taken
pub still : (old new : World) → IsFree old.phase → IsGoing old.phase → new.engine ≡ old.engine
    → ((issue : ℕ) → IfSome old.site.link.pending (IsPending old.engine.history issue) → IfSome new.site.link.pending (IsPending old.engine.history issue)) → IsUnderWay old → IsUnderWay new
still old new free going same pending is = record {
  each = λ g issue put. inr (subst (λ (v : EngineView). IfSome new.site.link.pending (IsPending v.history issue)) (sym same)
      (pending issue (was_pending old free going is issue (subst (λ (v : EngineView). puts_of v.puts issue ≢ None) same put))));
}

same_pending : (old new : World) → new.site.link.pending ≡ old.site.link.pending → (issue : ℕ) → IfSome old.site.link.pending (IsPending old.engine.history issue)
    → IfSome new.site.link.pending (IsPending old.engine.history issue)
same_pending old new e issue is = subst (λ (o : Option (List Parcel)). IfSome o (IsPending old.engine.history issue)) (sym e) is

link_pending : (old new : SiteView) → new.link ≡ old.link → new.link.pending ≡ old.link.pending
link_pending old new e = ap (λ (l : LinkView). l.pending) e

site_pending : (old new : SiteView) → new ≡ old → new.link.pending ≡ old.link.pending
site_pending old new e = ap (λ (s : SiteView). s.link.pending) e

-- ---- a record was appended

appended : (IsNext : Record → Type 0) (old new : World) → IsHistory old.engine.history → ArePut old.engine.history.seen old.engine.puts → IsGoing old.phase → IsUnderWay old
    → ((issue : ℕ) (next : Record) → IsNext next → (ended_by next ≡ Some issue → ⊥) → IsInHand old.engine.history issue old.phase → ⊥) → Tries IsNext old new → IsUnderWay new
appended IsNext old new history are going was no_hand (failed is) = refused_waits new _ false is.phase
appended IsNext old new history are going was no_hand (limited what is) = refused_waits new _ false is.phase
appended IsNext old new history are going was no_hand (done is) =
    let offers = is.appends.adds.offers in
    let r = offers.comes.next in
    let seen : new.engine.history.seen ≡ shown_after (moment_of r) offers.comes.edits old.engine.history.seen = ap (λ (h : HistoryView). h.seen) is.appends.adds.view in
    let keeps : KeepsShown old.engine.history.seen new.engine.history.seen r =
    subst (λ (s : Shown). KeepsShown old.engine.history.seen s r) (sym seen) (keeps_shown old.engine.history IsNext history offers.comes) in
    let run : new.engine.history.seen.run ≡ old.engine.history.seen.run = ap (λ (s : Shown). s.run) seen in
    record {
      each = λ g issue put.
          let before = put_before old.engine.history.seen new.engine.history.seen old.engine.puts new.engine.puts r issue keeps are is.engine.put is.appends.puts put in
          elim (was.each going issue before.0) [
            | inl hand ↦ absurd (no_hand issue r offers.comes.is before.1 hand)
            | inr pending ↦ inr (pending_on old.engine.history new.engine.history issue new.site.link.pending
                (λ parcel. serves_on old.engine.history new.engine.history r issue parcel keeps run before.1)
                (same_pending old new (link_pending old.site new.site offers.file.rest.link) issue pending))
          ];
    }

free_hand : (IsNext : Record → Type 0) (h : HistoryView) (p : Phase) → IsFree p → (issue : ℕ) (next : Record) → IsNext next → (ended_by next ≡ Some issue → ⊥) → IsInHand h issue p → ⊥
free_hand IsNext h p free issue next is apart hand = free hand.beat hand.parcel hand.is

same_parcel : (a b : ℕ) (p q : Parcel) → holds a p ≡ holds b q → p ≡ q
same_parcel a b p q e = cc

-- the reply in hand serves the issue that its Reply ends
reply_hand : (h : HistoryView) (p : Phase) (beat : ℕ) (parcel : Parcel) (moment : ℕ) → p ≡ holds beat parcel → parcel.back ≡ true → (issue : ℕ) (next : Record) → IsReply h parcel moment next
    → (ended_by next ≡ Some issue → ⊥) → IsInHand h issue p → ⊥
reply_hand h p beat parcel moment at back issue next is apart hand =
    let same : hand.parcel ≡ parcel = sym (same_parcel beat hand.beat parcel hand.parcel (sym at ∙ hand.is)) in
    elim hand.serves.kind [
      | inl command ↦ false≢true (sym (ap (λ (q : Parcel). q.back) (sym same ∙ command.is)) ∙ back)
      | inr reply ↦ apart (ap ended_by is.is ∙ ap Some (ap (λ (q : Parcel). q.issue) (sym same) ∙ reply.of_issue))
    ]

-- ---- a command was put

command : (old new : World) (issue : ℕ) → IsFree old.phase → IsGoing old.phase → PutsCommand issue old new → DidNotRise old.site.counts.mishaps new.site.counts.mishaps → IsUnderWay old → IsUnderWay new
command old new issue free going is still_ was =
    let h = old.engine.history in
    let same : new.engine.history ≡ h = ap (λ (v : EngineView). v.history) is.sends.view in
    let puts : new.engine.puts ≡ with_put old.engine.puts issue old.site.clock.now = ap (λ (v : EngineView). v.puts) is.sends.view in
    let gained = is.sends.put.arrives still_ in
    let is_open = is.sends.is_open in
    record {
      each = λ g i put. inr (subst (λ (k : HistoryView). IfSome new.site.link.pending (IsPending k i)) (sym same) (elim (same_or_not i issue) [
        | inl e ↦ subst (λ (n : ℕ). IfSome new.site.link.pending (IsPending h n)) (sym e) (pending_last h issue old.site.link.pending new.site.link.pending _ gained (record {
          addressed = record { low = is_open.low; high = is_open.high; small = is_open.small };
          kind = inl (record { it = is.sends.it; waiting = is_open.waiting; is = refl });
        }))
        | inr ne ↦
            let before : puts_of old.engine.puts i ≢ None = λ e. put (ap (λ (o : OpenIssues). puts_of o i) puts ∙ puts_other old.engine.puts issue old.site.clock.now i ne ∙ e) in
            pending_with h i old.site.link.pending new.site.link.pending _ gained (was_pending old free going was i before)
      ]));
    }

-- ---- a command was handed on, and its reply put

-- the reply to the command of an issue that waits
reply_serves : (h : HistoryView) (issue : ℕ) (parcel : Parcel) (v : ActuatorView) (site : SiteView) (bytes : List ℕ) → IsFilter v parcel.agent site → parcel.back ≡ false → IsFinalReply bytes → Serves h issue parcel
    → Serves h issue (reply_parcel_of v.agent parcel bytes)
reply_serves h issue parcel v site bytes filter command final s = record {
  addressed = record { low = filter.ready.low; high = filter.ready.high; small = final.short };
  kind = elim s.kind [
    | inl is ↦
        let issue_is : parcel.issue ≡ issue = ap (λ (q : Parcel). q.issue) is.is in
        inr (record {
          of_issue = issue_is;
          read = final.read;
          to = record {
            sent_back = record {
              back = refl;
              of_run = ap (λ (q : Parcel). q.run) is.is;
              it = is.it;
              waiting = subst (λ (n : ℕ). IsWaiting h.seen n is.it) (sym issue_is) is.waiting;
              of_agent = filter.of_agent ∙ ap (λ (q : Parcel). q.agent) is.is;
            };
            read_is = record { reads = final.reads; final = final.final };
          };
        })
    | inr reply ↦ absurd (false≢true (sym command ∙ reply.to.sent_back.back))
  ];
}

replied : (old new : World) (mid : SiteView) (beat : ℕ) (parcel : Parcel) (v : ActuatorView) (bytes : List ℕ) → HoldsCommand beat parcel v old → new.engine ≡ old.engine → mid.link ≡ old.site.link
    → DidNotRise mid.counts.mishaps new.site.counts.mishaps → Puts (reply_parcel_of v.agent parcel bytes) mid new.site → IsFinalReply bytes → IsUnderWay old → IsUnderWay new
replied old new mid beat parcel v bytes held same link still_ puts final was =
    let h = old.engine.history in
    let gained : Gains old.site.link.pending (reply_parcel_of v.agent parcel bytes) new.site.link.pending =
    subst (λ (l : LinkView). Gains l.pending (reply_parcel_of v.agent parcel bytes) new.site.link.pending) link (puts.arrives still_) in
    record {
      each = λ g issue put. inr (subst (λ (w : EngineView). IfSome new.site.link.pending (IsPending w.history issue)) (sym same)
          (elim (was.each (going_as old.phase _ held.phase tt) issue (subst (λ (w : EngineView). puts_of w.puts issue ≢ None) same put)) [
            | inl hand ↦
                let one : hand.parcel ≡ parcel = sym (same_parcel beat hand.beat parcel hand.parcel (sym held.phase ∙ hand.is)) in
                pending_last h issue old.site.link.pending new.site.link.pending _ gained
                (reply_serves h issue parcel v old.site bytes held.filter held.command final (subst (λ (q : Parcel). Serves h issue q) one hand.serves))
            | inr pending ↦ pending_with h issue old.site.link.pending new.site.link.pending _ gained pending
          ]));
    }

-- a parcel in hand that serves no issue was dropped or ignored
unserved : (old new : World) (beat : ℕ) (parcel : Parcel) → old.phase ≡ holds beat parcel → new.engine ≡ old.engine → new.site ≡ old.site
    → ((issue : ℕ) → Serves old.engine.history issue parcel → ⊥) → IsUnderWay old → IsUnderWay new
unserved old new beat parcel at same site none was = record {
  each = λ g issue put. inr (subst (λ (w : EngineView). IfSome new.site.link.pending (IsPending w.history issue)) (sym same)
      (elim (was.each (going_as old.phase _ at tt) issue (subst (λ (w : EngineView). puts_of w.puts issue ≢ None) same put)) [
        | inl hand ↦
            let one : hand.parcel ≡ parcel = sym (same_parcel beat hand.beat parcel hand.parcel (sym at ∙ hand.is)) in
            absurd (none issue (subst (λ (q : Parcel). Serves old.engine.history issue q) one hand.serves))
        | inr pending ↦ same_pending old new (site_pending old.site new.site site) issue pending
      ]));
}

no_reply : (h : HistoryView) (parcel : Parcel) → parcel.back ≡ true → ((read : Answer) → IsReplyTo h parcel read → ⊥) → (issue : ℕ) → Serves h issue parcel → ⊥
no_reply h parcel back none issue s = elim s.kind [
  | inl command ↦ false≢true (sym (ap (λ (q : Parcel). q.back) command.is) ∙ back)
  | inr reply ↦ none reply.read reply.to
]

-- ---- a parcel was taken

took : (old new : World) (parcel : Parcel) → old.phase ≡ rests → new.phase ≡ holds new.site.disk.beat parcel → new.engine ≡ old.engine → Loses old.site.link.pending parcel new.site.link.pending → IsUnderWay old → IsUnderWay new
took old new parcel at now same lost was = record {
  each = λ g issue put. subst (λ (w : EngineView). IsInHand w.history issue new.phase ⊎ IfSome new.site.link.pending (IsPending w.history issue)) (sym same)
      (elim (pending_less old.engine.history issue old.site.link.pending new.site.link.pending parcel lost
      (was_pending old (free_rests old.phase at) (going_as old.phase _ at tt) was issue (subst (λ (w : EngineView). puts_of w.puts issue ≢ None) same put))) [
        | inl serves ↦ inl (record { beat = new.site.disk.beat; parcel = parcel; is = now; serves = serves })
        | inr pending ↦ inr pending
      ]);
}

between_still : (old mid new : SiteView) → mid.counts ≡ old.counts → DidNotRise old.counts.mishaps new.counts.mishaps → DidNotRise mid.counts.mishaps new.counts.mishaps
between_still old mid new e still_ = subst (λ (c : CountsView). DidNotRise c.mishaps new.counts.mishaps) (sym e) still_

pub step_waits : (old new : World) → HasAllFilters old → DidNotRise old.site.counts.mishaps new.site.counts.mishaps → IsUnderWay old → Step old new → IsUnderWay new
step_waits old new all still_ was (opens_clock answer is) = still old new (free_opened old.phase is.phase) (going_as old.phase _ is.phase tt) is.goes.sides.engine (λ issue. pending_more old.engine.history issue old.site.link.pending new.site.link.pending is.goes.reaches.pending.0 is.goes.reaches.pending.1) was
step_waits old new all still_ was (finds_run_used agent is) = refused_waits new _ _ is.only.phase
step_waits old new all still_ was (asks_clock moment answer is) = still old new (free_looked old.phase is.next.up_to_date.on_time.untold.idle.has_looked.phase) (going_as old.phase _ is.next.up_to_date.on_time.untold.idle.has_looked.phase tt) is.goes.sides.engine (λ issue. pending_more old.engine.history issue old.site.link.pending new.site.link.pending is.goes.reaches.pending.0 is.goes.reaches.pending.1) was
step_waits old new all still_ was (finds_late moment is) = refused_waits new _ _ is.only.phase
step_waits old new all still_ was (begins is) = appended _ old new is.whole.engine.history is.whole.engine.put (going_as old.phase _ is.phase tt) was (free_hand _ old.engine.history old.phase (free_rests old.phase is.phase)) is.tries
step_waits old new all still_ was (moves is) = appended _ old new is.has_looked.up.has_file.engine.history is.has_looked.up.has_file.engine.put (going_as old.phase _ is.has_looked.phase tt) was (free_hand _ old.engine.history old.phase (free_looked old.phase is.has_looked.phase)) is.tries
step_waits old new all still_ was (upgrades issue told is) = appended _ old new is.to_be_told.idle.has_looked.up.has_file.engine.history is.to_be_told.idle.has_looked.up.has_file.engine.put (going_as old.phase _ is.to_be_told.idle.has_looked.phase tt) was (free_hand _ old.engine.history old.phase (free_looked old.phase is.to_be_told.idle.has_looked.phase)) is.tries
step_waits old new all still_ was (tells issue told is) = appended _ old new is.to_be_told.idle.has_looked.up.has_file.engine.history is.to_be_told.idle.has_looked.up.has_file.engine.put (going_as old.phase _ is.to_be_told.idle.has_looked.phase tt) was (free_hand _ old.engine.history old.phase (free_looked old.phase is.to_be_told.idle.has_looked.phase)) is.tries
step_waits old new all still_ was (expires issue is) = appended _ old new is.overdue.untold.idle.has_looked.up.has_file.engine.history is.overdue.untold.idle.has_looked.up.has_file.engine.put (going_as old.phase _ is.overdue.untold.idle.has_looked.phase tt) was (free_hand _ old.engine.history old.phase (free_looked old.phase is.overdue.untold.idle.has_looked.phase)) is.tries
step_waits old new all still_ was (says bytes is) = still old new (free_owes old.phase is.speaks.phase) (going_as old.phase _ is.speaks.phase tt) is.speaks.sides.engine (same_pending old new is.speaks.only.pending) was
step_waits old new all still_ was (fails_to_say bytes is) = refused_waits new _ true is.phase
step_waits old new all still_ was (puts_first issue is) = command old new issue (free_rests old.phase is.phase) (going_as old.phase _ is.phase tt) is.puts still_ was
step_waits old new all still_ was (resends issue is) = command old new issue (free_looked old.phase is.due.on_time.untold.idle.has_looked.phase) (going_as old.phase _ is.due.on_time.untold.idle.has_looked.phase tt) is.puts still_ was
step_waits old new all still_ was (takes parcel is) = took old new parcel is.turn.phase is.phase is.sides.engine is.some.pending was
step_waits old new all still_ was (finds_none is) = still old new (free_rests old.phase is.turn.phase) (going_as old.phase _ is.turn.phase tt) is.sides.engine (same_pending old new is.none.pending) was
step_waits old new all still_ was (fails_to_take is) = refused_waits new _ false is.phase
step_waits old new all still_ was (drops beat parcel is) = unserved old new beat parcel is.phase is.ignores.engine is.site (λ issue s. dropped_for_none old parcel all is.why s.addressed) was
step_waits old new all still_ was (replies beat parcel is) = appended _ old new is.up.has_file.engine.history is.up.has_file.engine.put (going_as old.phase _ is.holds_reply.phase tt) was (reply_hand old.engine.history old.phase beat parcel old.site.clock.now is.holds_reply.phase is.holds_reply.back) is.tries
step_waits old new all still_ was (ignores_reply beat parcel is) = unserved old new beat parcel is.holds_reply.phase is.ignores.engine is.site (no_reply old.engine.history parcel is.holds_reply.back is.no_reply) was
step_waits old new all still_ was (acts_on beat parcel v w is) = replied old new is.acts.between beat parcel v _ is.holds_command is.engine is.acts.offers.adds.file.rest.link
    (between_still old.site is.acts.between new.site is.acts.offers.adds.file.rest.counts still_) is.acts.puts is.acts.final was
step_waits old new all still_ was (repeats_reply beat parcel v w is) = replied old new old.site beat parcel v _ is.holds_command is.ignores.engine refl still_ is.repeats.puts is.repeats.final was
step_waits old new all still_ was (fails_to_act beat parcel v w error cause is) = refused_waits new cause false is.phase
step_waits old new all still_ was (wants_memory_now is) = refused_waits new _ _ is.only.phase

-- ---- all

still_parts : (a mid b : ℕ) → a ≤ mid → mid ≤ b → DidNotRise a b → DidNotRise a mid × DidNotRise mid b
still_parts a mid b le le' is = ((omega (arith, le, le', is.0), is.1), (omega (arith, le, le', is.0), omega (arith, le, le', is.0, is.1)))

pub steps_wait : EachUnderWay
steps_wait a b all none still_ nothing = record { each = λ g issue put. absurd (put (ap (λ (o : OpenIssues). puts_of o issue) none)) }
steps_wait a b all none still_ (and_then {mid} steps step) =
    let before = steps_put_or_lose a mid steps in
    let behind = steps_put_or_lose mid b (and_then nothing step) in
    let parts = still_parts a.site.counts.mishaps mid.site.counts.mishaps b.site.counts.mishaps before.later behind.later still_ in
    step_waits mid b (steps_have_all a mid all steps) parts.1 (steps_wait a mid all none parts.0 steps) step

-- an issue with a deadline was put
pub has_put : (v : EngineView) (issue moment : ℕ) → is_by moment (put_deadline v issue) ≡ true → puts_of v.puts issue ≢ None
has_put v issue moment due none = by (puts_of v.puts issue) refl none due
  where
    by : (o : Option PutsOf) → puts_of v.puts issue ≡ o → o ≡ None
        → is_by moment (option_and_then (λ puts. option_map (deadline_of v.history.seen) (slice_get v.history.seen.lists.issues issue)) o) ≡ true → ⊥
    by None e n d = absurd (false≢true d)
    by (Some p) e n d = absurd (none-some p (sym n))

pub nothing_pending : (h : HistoryView) (issue : ℕ) (o : Option (List Parcel)) → IsSome o → IfSome o (λ pending. pending ≡ []) → IfSome o (IsPending h issue) → ⊥
nothing_pending h issue None some none is = false≢true some
nothing_pending h issue (Some l) some none is = let has = subst (λ (x : List Parcel). Contains x is.parcel) none is.has in absurd (omega (arith, has.1))

pub no_expiry : NoExpiry
no_expiry a old new all none not_looked still_ steps told issue is =
    let phase = is.overdue.untold.idle.has_looked.phase in
    let waits_ = steps_wait a old all none still_ steps in
    let put = has_put old.engine issue old.site.clock.now is.overdue.first.0 in
    nothing_pending old.engine.history issue old.site.link.pending told (steps_look a old not_looked steps phase).none
    (was_pending old (free_looked old.phase phase) (going_as old.phase _ phase tt) waits_ issue put)
