-- Where an end begins a session.
use Rattle.std.proofs.Common.{◌≡◌, inl, ℕ, true, false, List, [], refl, sym, subst}
use Rattle.std.specs.Prelude.{Contains, Some}
use Rattle.std.proofs.lemmas.List.{append-nil}
use Rattle.std.proofs.lemmas.List.Elements.{All-nil}
use Rattle.cacao_site.specs.DiskCalls.{IsLeft}
use Rattle.cacao_site.specs.View.{SiteView}
use Rattle.cacao_site.specs.declared.parcel.Parcel.{Parcel}
use Rattle.run_records.specs.declared.record.Record.{Record}
use Rattle.flow_laws.specs.Journals.{IsSent, run_of}
use Rattle.flow_laws.specs.Images.{AnyJournal, IsAgent, IsRecords, StandsFor, StandsForActs, puts_of, puts_to, session_puts}
use Rattle.flow_laws.specs.Held.{LinesAreOfRecords, plain}
use Rattle.flow_laws.proofs.OneList.{same_records, none_of_empty}
use Rattle.oc2_wire_laws.specs.Ends.{EngineKeeps, FiltersKeep, HasGotCommand, IsEngineStart, IsOfReplies, IsRunFrom}
use Rattle.oc2_wire_laws.specs.Deliveries.{Ends}
use Rattle.oc2_wire_laws.proofs.Lists.{none_in, none_put}
use Rattle.oc2_wire_laws.proofs.Fits.{FileFits, JournalFits}

pub none_of_none : (P : Type 0) (site : SiteView) (beat at : ℕ) (p : Parcel) → Contains (session_puts (puts_of site) site beat) (at, p) → P
none_of_none P site beat at p has = none_in P (at, p) (subst (λ (l : List (ℕ × Parcel)). Contains l (at, p)) (none_put site beat) has)

-- ---- the engine's end

module _ (first : Ends) (run : ℕ) (replies : List Parcel) (before : List Parcel) (start : SiteView)
    (copies : (at : ℕ) (p : Parcel) → Contains (puts_to start start.disk.beat) (at, p) → Contains before p)
    (lines : AnyJournal start start.disk.beat (LinesAreOfRecords plain start start.disk.beat))
    (fits : (image : List ℕ) → IsLeft start.disk 0 start.disk.beat image → StandsFor image (JournalFits first run before replies)) where
  begins_here : (image : List ℕ) → IsLeft start.disk 0 start.disk.beat image → StandsFor image (IsRunFrom start run [])
  begins_here image left =
      let s = fits image left in
      record {
        records = s.records;
        are = s.are;
        so = record {
          is_run = s.so.is_run;
          goes_on = record {
            image = image;
            left = left;
            before = s.records;
            were = s.are;
            added = [];
            is = sym (append-nil s.records);
            begins = λ none some. absurd (some none);
            replies = All-nil (IsOfReplies [] s.records);
          };
        };
      }

  sent_here : (image : List ℕ) (records : List Record) → IsLeft start.disk 0 start.disk.beat image → IsRecords image records
      → (at : ℕ) (p : Parcel) → Contains (puts_to start start.disk.beat) (at, p) → p.back ≡ false → run_of records ≡ Some p.run → IsSent records p.issue p.agent p.bytes
  sent_here image records left are at p has command of =
      let s = fits image left in
      let f = subst (λ (l : List Record). JournalFits first run before replies l) (same_records image s.records records s.are are) s.so in
      f.known p.agent p.run p.issue p.bytes of
      (inl (record { parcel = p; has = copies at p has; command = command; to = refl; of_run = refl; of_issue = refl; is = refl }))

  pub engine_keeps : EngineKeeps start run [] start start.disk.beat
  engine_keeps = record {
    journal = begins_here;
    held = record {
      lines = lines;
      sent = sent_here;
      none_while_empty = λ image left empty at p own. none_of_none _ start start.disk.beat at p own.has;
      was_open = λ at p own. none_of_none _ start start.disk.beat at p own.has;
    };
    only_commands = λ at p has. none_of_none _ start start.disk.beat at p has;
  }

  pub engine_start : ((p : Parcel) → Contains before p → p.back ≡ false) → IsEngineStart start run
  engine_start only = record {
    keeps = engine_keeps;
    unused = λ image left empty at p has.
        let s = fits image left in
        let none : s.records ≡ [] = none_of_empty image s.records empty s.are in
        let in_before = copies at p has in
        s.so.unused none run (inl refl) p.agent p.run p.issue p.bytes
        (inl (record { parcel = p; has = in_before; command = only p in_before; to = refl; of_run = refl; of_issue = refl; is = refl }));
  }

-- ---- the filters' end

module _ (first : Ends) (sent : List Parcel) (before : List Parcel) (start : SiteView)
    (copies : (at : ℕ) (p : Parcel) → Contains (puts_to start start.disk.beat) (at, p) → Contains before p)
    (agents : (p : Parcel) → Contains before p → p.back ≡ true → IsAgent p.agent)
    (fits : (agent : ℕ) → IsAgent agent → (image : List ℕ) → IsLeft start.disk agent start.disk.beat image → StandsForActs image (FileFits first agent sent before)) where
  pub filters_keep : FiltersKeep start [] start start.disk.beat
  filters_keep = record {
    files = λ agent is_agent image left.
        let s = fits agent is_agent image left in
        record {
          acts = s.acts;
          are = s.are;
          so = record {
            are_acts = s.so.are_acts;
            go_on = record {
              image = image;
              left = left;
              before = s.acts;
              were = s.are;
              added = [];
              is = sym (append-nil s.acts);
              commands = All-nil (HasGotCommand agent []);
            };
          };
        };
    replies = λ at p has back.
        let old = copies at p has in
        let is_agent = agents p old back in
        record {
          is_agent = is_agent;
          each = λ image left.
              let s = fits p.agent is_agent image left in
              record { acts = s.acts; are = s.are; so = s.so.replies_of p old back refl };
        };
    only_replies = λ at p has. none_of_none _ start start.disk.beat at p has;
  }
