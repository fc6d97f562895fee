-- Each Send of a session that lost no parcel has its act and its Reply.
use Rattle.std.proofs.Common.{◌≡◌, ◌⊎◌, inl, inr, ℕ, zero, suc, ◌<◌, ◌≤◌, ◌-◌, Bool, List, [], ◌∷◌, ◌++◌, length, get_or, refl, sym, ◌∙◌, subst, ap, arith}
use Rattle.std.specs.Prelude.{Option, Some, IsSome, Contains, slice_get}
use Rattle.cacao_site.specs.Counts.{DidNotRise}
use Rattle.cacao_site.specs.View.{CountsView, LinkView, SiteView}
use Rattle.cacao_site.specs.Sound.{IsSound}
use Rattle.run_records.specs.declared.record.Record.{Record}
use Rattle.run_records.specs.declared.record.Record.TheVariants as entry
use Rattle.flow_core_rules.specs.Changes.{outcome}
use Rattle.flow_world_steps.specs.Histories.{IsHistory}
use Rattle.flow_laws.specs.Held.{plain}
use Rattle.flow_laws.specs.Journals.{IsSent}
use Rattle.flow_laws.specs.Since.{AgreedSince}
use Rattle.flow_world_steps.specs.Complete.{EndsIssue}
use Rattle.flow_world_steps.specs.Ready.{JournalStands}
use Rattle.flow_world_steps.specs.Unbroken.{AreFiltersSure, EndedByFilter, IsJournalSure}
use Rattle.flow_world_steps.specs.Unsure.{UnsureByStep}
use Rattle.flow_world_steps.specs.Worlds.{Cause, HasAllFilters, Notes, Phase, World, refused, rests}
use Rattle.flow_world_steps.proofs.Complete.{steps_complete}
use Rattle.flow_world_steps.proofs.Readiness.{steps_ready}
use Rattle.flow_world_steps.proofs.Unbroken.{journal_stands}
use Rattle.flow_world_laws.specs.Answered.{EachSendIsActedOn, EachSendIsAnswered, IsReplied, TellsNoFilter}
use Rattle.flow_world_laws.proofs.Acted.{act_is_sent, not_empty, reply_has_its_act}
use Rattle.flow_world_laws.proofs.Known.{issue_shown, one_record}
use Rattle.flow_world_laws.proofs.Telling.{no_told_of_filters}

-- one of a list has others before and behind it
parts : (xs : List Record) (k : ℕ) (r : Record) → k < length xs → get_or xs k r ≡ r → (front : List Record) × (back : List Record) × (xs ≡ front ++ r ∷ back)
parts [] k r lt is = absurd (omega (arith, lt))
parts (x ∷ xs) zero r lt is = ([], xs, ap (λ (y : Record). y ∷ xs) is)
parts (x ∷ xs) (suc k) r lt is = let p = parts xs k r (omega (arith, lt)) is in (x ∷ p.0, p.1, ap (λ (l : List Record). x ∷ l) p.2)

contains_split : (xs : List Record) (r : Record) → Contains xs r → (front : List Record) × (back : List Record) × (xs ≡ front ++ r ∷ back)
contains_split xs r has = parts xs has.0 r has.1 has.2

-- what ended a Send is a Reply
reply_of : (a b : World) (n task agent moment : ℕ) (bytes : List ℕ) (r : Record) → a.engine.history.records ≡ [] → TellsNoFilter a b
    → Contains b.engine.history.records (entry.Send task n agent moment bytes) → Contains b.engine.history.records r → EndsIssue n r → IsReplied b.engine.history.records n
reply_of a b n task agent moment bytes (entry.Reply issue at status rule text) empty not send has of =
    record { moment = at; status = status; rule = rule; text = text; has = subst (λ (k : ℕ). Contains b.engine.history.records (entry.Reply k at status rule text)) of has }
reply_of a b n task agent moment bytes (entry.Told issue at status text) empty not send has of =
    let r : Record = entry.Told issue at status text in
    let split = contains_split b.engine.history.records r has in
    let all = split.2 ∙ ap (λ (l : List Record). (l ++ split.0) ++ r ∷ split.1) (sym empty) in
    let question = not.added split.0 split.1 r all in
    absurd (question.not_sent agent bytes (record {
      task = task;
      moment = moment;
      has = subst (λ (k : ℕ). Contains b.engine.history.records (entry.Send task k agent moment bytes)) (sym of) send;
    }))
reply_of a b n task agent moment bytes (entry.Begin run at books bind) empty not send has of = absurd of
reply_of a b n task agent moment bytes (entry.Walk t at) empty not send has of = absurd of
reply_of a b n task agent moment bytes (entry.Send t issue g at text) empty not send has of = absurd of
reply_of a b n task agent moment bytes (entry.Expire issue at) empty not send has of = absurd of
reply_of a b n task agent moment bytes (entry.Upgrade version at) empty not send has of = absurd of
reply_of a b n task agent moment bytes (entry.Ask t issue at text) empty not send has of = absurd of

is_some_of : {T : Type 0} (o : Option T) (x : T) → o ≡ Some x → IsSome o
is_some_of {T} o x e = subst (λ (p : Option T). IsSome p) (sym e) refl

pub send_is_answered : EachSendIsAnswered
send_is_answered a b given run most answers is all empty told still_ steps well over task issue agent moment bytes send =
    let stands : JournalStands a = journal_stands a (record { whole = is.whole; sure = ap (λ (n : Notes). n.unsure) is.notes }) in
    let history : IsHistory b.engine.history = (steps_ready a b stands steps).engine.history in
    let shown = issue_shown b.engine.history issue (entry.Send task issue agent moment bytes) history send refl in
    let complete = steps_complete a b all is.phase is.no_puts stands told still_ steps in
    let ended = complete.has_end empty (is_some_of (outcome b.engine.history.seen.lists) well over) issue shown.one shown.there in
    reply_of a b issue task agent moment bytes ended.last empty (no_told_of_filters a b given run most answers is all told still_ steps) send ended.among ended.ends

-- ---- with its act

rests_not_refused : (p : Phase) (cause : Cause) (lacks : Bool) → p ≡ rests → p ≡ refused cause lacks → ⊥
rests_not_refused p cause lacks e f = let g : rests ≡ refused cause lacks = sym e ∙ f in cc

journal_sure : (a b : World) → b.phase ≡ rests → IsJournalSure b ⊎ ((r : Record) × UnsureByStep a b r) → IsJournalSure b
journal_sure a b e (inl sure) = sure
journal_sure a b e (inr over) = absurd (rests_not_refused b.phase _ _ e over.1.phase)

filters_sure : (a b : World) → b.phase ≡ rests → AreFiltersSure b ⊎ EndedByFilter a b → AreFiltersSure b
filters_sure a b e (inl sure) = sure
filters_sure a b e (inr over) = absurd (rests_not_refused b.phase _ _ e over.fails.phase)

agent_in : Record → ℕ
agent_in (entry.Send task issue agent moment bytes) = agent
agent_in other = 0

same_agent : (t m a u x y : ℕ) (issue : ℕ) (p q : List ℕ) → entry.Send t issue a m p ≡ entry.Send u issue x y q → a ≡ x
unfolding agent_in
same_agent t m a u x y issue p q e = ap agent_in e

bytes_in : Record → List ℕ
bytes_in (entry.Send task issue agent moment bytes) = bytes
bytes_in other = []

same_bytes : (t m a u x y : ℕ) (issue : ℕ) (p q : List ℕ) → entry.Send t issue a m p ≡ entry.Send u issue x y q → p ≡ q
unfolding bytes_in
same_bytes t m a u x y issue p q e = ap bytes_in e

pub send_is_acted_on : EachSendIsActedOn
send_is_acted_on well given run most answers old new closed empty told still_ agreed sound task issue agent moment bytes send =
    let went = closed.went in
    let a = went.start in
    let b = went.to in
    let first = went.files.journal.opens.only.rest in
    let second = went.files.others.rest in
    let link = ap (λ (l : LinkView). l.pending) (second.link ∙ first.link) in
    let counts = ap (λ (c : CountsView). c.mishaps) (second.counts ∙ first.counts) in
    let told_there : IsSome a.site.link.pending = subst (λ o. IsSome o) (sym link) told in
    let at_end : DidNotRise old.counts.mishaps b.site.counts.mishaps = subst (λ (s : SiteView). DidNotRise old.counts.mishaps s.counts.mishaps) (sym went.to_is) still_ in
    let still_there : DidNotRise a.site.counts.mishaps b.site.counts.mishaps = subst (λ (k : ℕ). DidNotRise k b.site.counts.mishaps) (sym counts) at_end in
    let all : HasAllFilters a = went.files.others.many in
    let all_there : HasAllFilters b = went.sums.grow.many ∙ all in
    let replied = send_is_answered a b given run most answers went.begins all empty told_there still_there went.steps well closed.closes.outcome_is task issue agent moment bytes send in
    let phase = closed.closes.turn.phase in
    let unbroken = went.sums.unbroken in
    let journal : IsJournalSure b = journal_sure a b phase unbroken.journal in
    let filters : AreFiltersSure b = filters_sure a b phase unbroken.filters in
    let agreed_there : AgreedSince plain old b.site = subst (λ (s : SiteView). AgreedSince plain old s) (sym went.to_is) agreed in
    let sound_there : IsSound b.site = subst (λ (s : SiteView). IsSound s) (sym went.to_is) sound in
    let acted = reply_has_its_act old b agreed_there sound_there journal filters all_there issue replied.moment replied.status replied.rule replied.text replied.has in
    let one = one_record b.engine.history issue (entry.Send acted.sent.task issue acted.agent acted.sent.moment acted.bytes) (entry.Send task issue agent moment bytes)
    journal.whole.engine.history acted.sent.has send refl refl in
    let same : acted.agent ≡ agent = same_agent acted.sent.task acted.sent.moment acted.agent task agent moment issue acted.bytes bytes one in
    let act = acted.reply.act in
    let of_act : IsSent b.engine.history.records act.issue acted.agent act.command = act_is_sent old b agreed_there sound_there journal filters (not_empty b.engine.history.records _ send)
    acted.agent (acted.low, acted.high) acted.v acted.there act acted.reply.has acted.reply.of_run in
    let on : IsSent b.engine.history.records issue acted.agent act.command = subst (λ (n : ℕ). IsSent b.engine.history.records n acted.agent act.command) acted.reply.of_issue of_act in
    let other = one_record b.engine.history issue (entry.Send on.task issue acted.agent on.moment act.command) (entry.Send task issue agent moment bytes)
    journal.whole.engine.history on.has send refl refl in
    record {
      moment = replied.moment;
      status = replied.status;
      rule = replied.rule;
      text = replied.text;
      has = replied.has;
      low = subst (λ (n : ℕ). 1 ≤ n) same acted.low;
      high = subst (λ (n : ℕ). n ≤ 16) same acted.high;
      v = acted.v;
      there = subst (λ (n : ℕ). slice_get b.filters (n - 1) ≡ Some acted.v) same acted.there;
      reply = acted.reply;
      command = same_bytes on.task on.moment acted.agent task agent moment issue act.command bytes other;
    }
