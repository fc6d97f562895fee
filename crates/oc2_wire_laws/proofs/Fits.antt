-- What the files of both ends have, by what was sent.
use Rattle.std.proofs.Common.{◌≡◌, ◌≢◌, ◌⊎◌, inl, inr, ℕ, true, false, List, [], ◌∷◌, ◌++◌, refl, sym, ◌∙◌, subst, ap}
use Rattle.std.specs.Prelude.{Contains, Some}
use Rattle.std.proofs.lemmas.List.{append_assoc}
use Rattle.std.proofs.lemmas.List.Elements.{All-contains, Contains-append_left, Contains-append_cases}
use Rattle.cacao_site.specs.DiskCalls.{IsLeft}
use Rattle.cacao_site.specs.declared.parcel.Parcel.{Parcel}
use Rattle.run_records.specs.declared.record.Record.{Record}
use Rattle.run_records.specs.declared.record.Record.TheVariants as entry
use Rattle.run_records.specs.declared.act.Act.{Act}
use Rattle.slpf_rules_acts.specs.Acts.{AreActs}
use Rattle.flow_laws.specs.Acts.{HasReply, IsBytes}
use Rattle.flow_laws.specs.Journals.{IsJournalRun, IsSent, run_of}
use Rattle.flow_laws.specs.Images.{IsAgent, IsRecords, IsActs, StandsFor, StandsForActs, puts_of}
use Rattle.flow_laws.proofs.Basics.{same_some, not_begun}
use Rattle.flow_laws.proofs.OneList.{same_records, same_acts, stands_empty}
use Rattle.oc2_wire_laws.specs.Ends.{EngineKeeps, FiltersKeep, HasGotCommand, IsOfReplies, IsRunFrom, AreActsFrom}
use Rattle.oc2_wire_laws.specs.Deliveries.{AreFresh, End, Ends, put_by, sent_by}
use Rattle.oc2_wire_laws.proofs.Lists.{in_puts, none_left, put_entry, run_append, run_front, sent_append}

-- a command of these parcels
pub record IsSentTo (sent : List Parcel) (agent run issue : ℕ) (bytes : List ℕ) : Type 0 where
  pub parcel : Parcel
  pub has : Contains sent parcel
  pub command : parcel.back ≡ false
  pub to : parcel.agent ≡ agent
  pub of_run : parcel.run ≡ run
  pub of_issue : parcel.issue ≡ issue
  pub is : parcel.bytes ≡ bytes

-- or of an act that stood in some image when all began
pub record WasActed (first : Ends) (agent run issue : ℕ) (bytes : List ℕ) : Type 0 where
  pub is_agent : IsAgent agent
  pub image : List ℕ
  pub left : IsLeft first.filters.site.disk agent first.filters.beat image
  pub acts : List Act
  pub are : IsActs image acts
  pub act : Act
  pub has : Contains acts act
  pub of_run : act.run ≡ run
  pub of_issue : act.issue ≡ issue
  pub is : act.command ≡ bytes

abbrev pub IsKnown : Ends → List Parcel → ℕ → ℕ → ℕ → List ℕ → Type 0
IsKnown first sent agent run issue bytes = IsSentTo sent agent run issue bytes ⊎ WasActed first agent run issue bytes

pub known_more : (first : Ends) (sent more : List Parcel) (agent run issue : ℕ) (bytes : List ℕ) → ((p : Parcel) → Contains sent p → Contains more p)
    → IsKnown first sent agent run issue bytes → IsKnown first more agent run issue bytes
known_more first sent more agent run issue bytes sub (inl s) = inl (record { parcel = s.parcel; has = sub s.parcel s.has; command = s.command; to = s.to; of_run = s.of_run; of_issue = s.of_issue; is = s.is })
known_more first sent more agent run issue bytes sub (inr a) = inr a

-- records that go on from those of an image when all began, each further Reply of one of these replies
pub record GoesOnSince (first : Ends) (replies : List Parcel) (records : List Record) : Type 0 where
  pub image : List ℕ
  pub left : IsLeft first.engine.site.disk 0 first.engine.beat image
  pub before : List Record
  pub were : IsRecords image before
  pub added : List Record
  pub is : records ≡ before ++ added
  pub of_replies : (r : Record) → Contains added r → IsOfReplies replies records r

-- the number of the list, or one that was fresh when all began
abbrev pub MayUse : Ends → ℕ → ℕ → Type 0
MayUse first run next = (next ≡ run) ⊎ AreFresh next first

-- a run that has a Send for each command and act known of its run; where it is empty, nothing known is of a number that may be used
pub record JournalFits (first : Ends) (run : ℕ) (sent replies : List Parcel) (records : List Record) : Type 0 where
  pub is_run : IsJournalRun records
  pub known : (agent r issue : ℕ) (bytes : List ℕ) → run_of records ≡ Some r → IsKnown first sent agent r issue bytes → IsSent records issue agent bytes
  pub unused : records ≡ [] → (next : ℕ) → MayUse first run next → (agent r issue : ℕ) (bytes : List ℕ) → IsKnown first sent agent r issue bytes → r ≢ next
  pub goes_on : GoesOnSince first replies records

-- acts that go on from those of an image when all began
pub record ActsGoOnSince (first : Ends) (agent : ℕ) (acts : List Act) : Type 0 where
  pub image : List ℕ
  pub left : IsLeft first.filters.site.disk agent first.filters.beat image
  pub before : List Act
  pub were : IsActs image before
  pub added : List Act
  pub is : acts ≡ before ++ added

-- acts on what is known, with each reply of these to the agent
pub record FileFits (first : Ends) (agent : ℕ) (sent replies : List Parcel) (acts : List Act) : Type 0 where
  pub are_acts : AreActs acts
  pub known : (act : Act) → Contains acts act → IsKnown first sent agent act.run act.issue act.command
  pub go_on : ActsGoOnSince first agent acts
  pub replies_of : (p : Parcel) → Contains replies p → p.back ≡ true → p.agent ≡ agent → HasReply acts p.run p.issue (IsBytes p.bytes)

-- ---- more was sent

pub of_more : (got more : List Parcel) (records : List Record) (r : Record) → ((p : Parcel) → Contains got p → Contains more p) → IsOfReplies got records r → IsOfReplies more records r
of_more got more records (entry.Reply issue moment status rule text) sub h = record {
  parcel = h.parcel;
  has = sub h.parcel h.has;
  back = h.back;
  is_agent = h.is_agent;
  of_run = h.of_run;
  of_issue = h.of_issue;
  bytes = h.bytes;
  sent = h.sent;
  reads = h.reads;
}
of_more got more records (entry.Begin a b c d) sub h = tt
of_more got more records (entry.Walk a b) sub h = tt
of_more got more records (entry.Send a b c d e) sub h = tt
of_more got more records (entry.Expire a b) sub h = tt
of_more got more records (entry.Upgrade a b) sub h = tt
of_more got more records (entry.Ask a b c d) sub h = tt
of_more got more records (entry.Told a b c d) sub h = tt

pub of_later : (got : List Parcel) (records ys : List Record) (r : Record) → IsOfReplies got records r → IsOfReplies got (records ++ ys) r
of_later got records ys (entry.Reply issue moment status rule text) h = record {
  parcel = h.parcel;
  has = h.has;
  back = h.back;
  is_agent = h.is_agent;
  of_run = run_append records ys h.parcel.run h.of_run;
  of_issue = h.of_issue;
  bytes = h.bytes;
  sent = sent_append records ys issue h.parcel.agent h.bytes h.sent;
  reads = h.reads;
}
of_later got records ys (entry.Begin a b c d) h = tt
of_later got records ys (entry.Walk a b) h = tt
of_later got records ys (entry.Send a b c d e) h = tt
of_later got records ys (entry.Expire a b) h = tt
of_later got records ys (entry.Upgrade a b) h = tt
of_later got records ys (entry.Ask a b c d) h = tt
of_later got records ys (entry.Told a b c d) h = tt

pub fits_more : (first : Ends) (run : ℕ) (sent replies more : List Parcel) (records : List Record) → ((p : Parcel) → Contains replies p → Contains more p)
    → JournalFits first run sent replies records → JournalFits first run sent more records
fits_more first run sent replies more records sub f = record {
  is_run = f.is_run;
  known = f.known;
  unused = f.unused;
  goes_on = record {
    image = f.goes_on.image;
    left = f.goes_on.left;
    before = f.goes_on.before;
    were = f.goes_on.were;
    added = f.goes_on.added;
    is = f.goes_on.is;
    of_replies = λ r has. of_more replies more records r sub (f.goes_on.of_replies r has);
  };
}

pub file_more : (first : Ends) (agent : ℕ) (sent more replies : List Parcel) (acts : List Act) → ((p : Parcel) → Contains sent p → Contains more p)
    → FileFits first agent sent replies acts → FileFits first agent more replies acts
file_more first agent sent more replies acts sub f = record {
  are_acts = f.are_acts;
  known = λ act has. known_more first sent more agent act.run act.issue act.command sub (f.known act has);
  go_on = f.go_on;
  replies_of = f.replies_of;
}

-- ---- the journal at a beat of a session, by what it was at the start

module _ (first : Ends) (run : ℕ) (e : End) (replies : List Parcel) (keeps : EngineKeeps e.start run e.got e.site e.beat)
    (got : (p : Parcel) → Contains e.got p → Contains replies p)
    (started : (image : List ℕ) → IsLeft e.start.disk 0 e.start.disk.beat image → StandsFor image (JournalFits first run e.before replies)) where
  module _ (image : List ℕ) (left : IsLeft e.site.disk 0 e.beat image) (records : List Record) (are : IsRecords image records) (from : IsRunFrom e.start run e.got records) where
    fits_then : JournalFits first run e.before replies from.goes_on.before
    fits_then =
        let s = started from.goes_on.image from.goes_on.left in
        subst (λ (l : List Record). JournalFits first run e.before replies l) (same_records from.goes_on.image s.records from.goes_on.before s.are from.goes_on.were) s.so

    sent_before : (agent r issue : ℕ) (bytes : List ℕ) → run_of records ≡ Some r → IsKnown first e.before agent r issue bytes → IsSent records issue agent bytes
    sent_before agent r issue bytes of known = by from.goes_on.before refl
      where
        later : IsSent from.goes_on.before issue agent bytes → IsSent records issue agent bytes
        later s = subst (λ (l : List Record). IsSent l issue agent bytes) (sym from.goes_on.is) (sent_append from.goes_on.before from.goes_on.added issue agent bytes s)

        by : (was : List Record) → from.goes_on.before ≡ was → IsSent records issue agent bytes
        by [] none =
            let some : records ≢ [] = λ empty. absurd (not_begun r (subst (λ (l : List Record). run_of l ≡ Some r) empty of)) in
            let same : r ≡ run = same_some (sym of ∙ from.goes_on.begins none some) in
            absurd (fits_then.unused none run (inl refl) agent r issue bytes known same)
        by (x ∷ xs) was =
            let here : records ≡ x ∷ xs ++ from.goes_on.added = from.goes_on.is ∙ ap (λ (l : List Record). l ++ from.goes_on.added) was in
            let of_was : run_of from.goes_on.before ≡ Some r = ap run_of was ∙ sym (run_front x xs from.goes_on.added) ∙ ap run_of (sym here) ∙ of in
            later (fits_then.known agent r issue bytes of_was known)

    sent_now : (agent r issue : ℕ) (bytes : List ℕ) → run_of records ≡ Some r → IsKnown first (sent_by e) agent r issue bytes → IsSent records issue agent bytes
    sent_now agent r issue bytes of (inr acted) = sent_before agent r issue bytes of (inr acted)
    sent_now agent r issue bytes of (inl s) = elim (Contains-append_cases e.before (put_by e) s.parcel s.has) [
      | inl old ↦ sent_before agent r issue bytes of (inl (record { parcel = s.parcel; has = old; command = s.command; to = s.to; of_run = s.of_run; of_issue = s.of_issue; is = s.is }))
      | inr own ↦
          let at = put_entry e s.parcel own in
          let is : IsSent records s.parcel.issue s.parcel.agent s.parcel.bytes = keeps.held.sent image records left are at.at s.parcel
          (in_puts (puts_of e.start) e.site e.beat at.at s.parcel at.has) s.command (of ∙ ap Some (sym s.of_run)) in
          subst (λ (b : List ℕ). IsSent records issue agent b) s.is
          (subst (λ (n : ℕ). IsSent records issue n s.parcel.bytes) s.to (subst (λ (n : ℕ). IsSent records n s.parcel.agent s.parcel.bytes) s.of_issue is))
    ]

    unused_now : records ≡ [] → (next : ℕ) → MayUse first run next → (agent r issue : ℕ) (bytes : List ℕ) → IsKnown first (sent_by e) agent r issue bytes → r ≢ next
    unused_now empty next may agent r issue bytes known = elim known [
      | inr acted ↦ fits_then.unused none next may agent r issue bytes (inr acted)
      | inl s ↦ elim (Contains-append_cases e.before (put_by e) s.parcel s.has) [
        | inl old ↦ fits_then.unused none next may agent r issue bytes (inl (record { parcel = s.parcel; has = old; command = s.command; to = s.to; of_run = s.of_run; of_issue = s.of_issue; is = s.is }))
        | inr own ↦
            let at = put_entry e s.parcel own in
            absurd (keeps.held.none_while_empty image left (stands_empty image (subst (λ (l : List Record). IsRecords image l) empty are)) at.at s.parcel
            (record { has = at.has; command = s.command; own = refl }))
      ]
    ]
      where
        none : from.goes_on.before ≡ []
        none = none_left from.goes_on.before from.goes_on.added (sym from.goes_on.is ∙ empty)

    goes_on_now : GoesOnSince first replies records
    goes_on_now =
        let was = fits_then.goes_on in
        let is : records ≡ was.before ++ (was.added ++ from.goes_on.added) = from.goes_on.is ∙ ap (λ (l : List Record). l ++ from.goes_on.added) was.is ∙ append_assoc was.before was.added from.goes_on.added in
        record {
          image = was.image;
          left = was.left;
          before = was.before;
          were = was.were;
          added = was.added ++ from.goes_on.added;
          is = is;
          of_replies = λ r has. elim (Contains-append_cases was.added from.goes_on.added r has) [
            | inl old ↦ subst (λ (l : List Record). IsOfReplies replies l r) (sym from.goes_on.is) (of_later replies from.goes_on.before from.goes_on.added r (was.of_replies r old))
            | inr new ↦ of_more e.got replies records r got (All-contains (IsOfReplies e.got records) from.goes_on.added r from.goes_on.replies new)
          ];
        }

    fits_now : JournalFits first run (sent_by e) replies records
    fits_now = record { is_run = from.is_run; known = sent_now; unused = unused_now; goes_on = goes_on_now }

  pub journal_now : (image : List ℕ) → IsLeft e.site.disk 0 e.beat image → StandsFor image (JournalFits first run (sent_by e) replies)
  journal_now image left =
      let s = keeps.journal image left in
      record { records = s.records; are = s.are; so = fits_now image left s.records s.are s.so }

-- ---- a filter's file at a beat of a session

module _ (first : Ends) (e : End) (sent : List Parcel) (keeps : FiltersKeep e.start e.got e.site e.beat)
    (got : (p : Parcel) → Contains e.got p → Contains sent p)
    (started : (agent : ℕ) → IsAgent agent → (image : List ℕ) → IsLeft e.start.disk agent e.start.disk.beat image → StandsForActs image (FileFits first agent sent e.before)) where
  module _ (agent : ℕ) (is_agent : IsAgent agent) (image : List ℕ) (left : IsLeft e.site.disk agent e.beat image) (acts : List Act) (are : IsActs image acts)
      (from : AreActsFrom e.start agent e.got acts) where
    file_then : FileFits first agent sent e.before from.go_on.before
    file_then =
        let s = started agent is_agent from.go_on.image from.go_on.left in
        subst (λ (l : List Act). FileFits first agent sent e.before l) (same_acts from.go_on.image s.acts from.go_on.before s.are from.go_on.were) s.so

    known_now : (act : Act) → Contains acts act → IsKnown first sent agent act.run act.issue act.command
    known_now act has = elim (Contains-append_cases from.go_on.before from.go_on.added act (subst (λ (l : List Act). Contains l act) from.go_on.is has)) [
      | inl old ↦ file_then.known act old
      | inr new ↦
          let h = All-contains (HasGotCommand agent e.got) from.go_on.added act from.go_on.commands new in
          inl (record { parcel = h.parcel; has = got h.parcel h.has; command = h.command; to = h.to; of_run = h.of_run; of_issue = h.of_issue; is = h.bytes })
    ]

    reply_later : (p : Parcel) → HasReply from.go_on.before p.run p.issue (IsBytes p.bytes) → HasReply acts p.run p.issue (IsBytes p.bytes)
    reply_later p h = record {
      act = h.act;
      has = subst (λ (l : List Act). Contains l h.act) (sym from.go_on.is) (Contains-append_left from.go_on.before from.go_on.added h.act h.has);
      of_run = h.of_run;
      of_issue = h.of_issue;
      reply = h.reply;
    }

    replies_now : (p : Parcel) → Contains (sent_by e) p → p.back ≡ true → p.agent ≡ agent → HasReply acts p.run p.issue (IsBytes p.bytes)
    replies_now p has back to = elim (Contains-append_cases e.before (put_by e) p has) [
      | inl old ↦ reply_later p (file_then.replies_of p old back to)
      | inr own ↦
          let at = put_entry e p own in
          let everywhere = keeps.replies at.at p (in_puts (puts_of e.start) e.site e.beat at.at p at.has) back in
          let s = everywhere.each image (subst (λ (n : ℕ). IsLeft e.site.disk n e.beat image) (sym to) left) in
          subst (λ (l : List Act). HasReply l p.run p.issue (IsBytes p.bytes)) (same_acts image s.acts acts s.are are) s.so
    ]

    file_fits : FileFits first agent sent (sent_by e) acts
    file_fits = record {
      are_acts = from.are_acts;
      known = known_now;
      go_on =
          let was = file_then.go_on in
          record {
            image = was.image;
            left = was.left;
            before = was.before;
            were = was.were;
            added = was.added ++ from.go_on.added;
            is = from.go_on.is ∙ ap (λ (l : List Act). l ++ from.go_on.added) was.is ∙ append_assoc was.before was.added from.go_on.added;
          };
      replies_of = replies_now;
    }

  pub file_now : (agent : ℕ) → IsAgent agent → (image : List ℕ) → IsLeft e.site.disk agent e.beat image → StandsForActs image (FileFits first agent sent (sent_by e))
  file_now agent is_agent image left =
      let s = keeps.files agent is_agent image left in
      record { acts = s.acts; are = s.are; so = file_fits agent is_agent image left s.acts s.are s.so }
