-- The journal gained a record, at the engine's end.
use Rattle.std.proofs.Common.{◌≡◌, ◌≢◌, inl, inr, ℕ, List, [], ◌∷◌, ◌++◌, refl, sym, ◌∙◌, subst, ap}
use Rattle.std.specs.Prelude.{drop, Contains, Some, None}
use Rattle.std.proofs.lemmas.List.{append_assoc, take-append-le}
use Rattle.std.proofs.lemmas.List.Elements.{All-contains, Contains-push_cases}
use Rattle.cacao_site.specs.DiskCalls.{IsLeft}
use Rattle.cacao_site.specs.View.{SiteView}
use Rattle.cacao_site.specs.declared.parcel.Parcel.{Parcel}
use Rattle.run_records.specs.declared.record.Record.{Record}
use Rattle.run_journal.specs.Layout.{Stands}
use Rattle.flow_laws.specs.Agree.{CommandsAreSent}
use Rattle.flow_laws.specs.Held.{IsHeldAs, IsLineOf, IsRunLine, plain}
use Rattle.flow_laws.specs.Images.{IsRecords, StandsFor, WasSaid, puts_of, puts_to}
use Rattle.flow_laws.specs.Journals.{IsShownBefore, run_of}
use Rattle.flow_laws.proofs.Basics.{append_not_empty, get_below, get_more, run_of-more, same_some, sent_more}
use Rattle.flow_laws.proofs.OneList.{empty_records, same_records, stands_empty}
use Rattle.flow_laws.proofs.Shrink.{own_before, past_open, same_lines}
use Rattle.oc2_wire_laws.specs.Ends.{EngineKeeps, IsOfReplies, IsRunFrom}
use Rattle.oc2_wire_laws.specs.EngineBeats.{EngineGains, RecordIsKept}
use Rattle.oc2_wire_laws.proofs.Fits.{of_later}
use Rattle.oc2_wire_laws.proofs.Lists.{all_by}

module _ (start : SiteView) (run : ℕ) (got : List Parcel) (earlier : SiteView) (early : ℕ) (later : SiteView) (late : ℕ) (records : List Record) (next : Record)
    (gains : EngineGains run got earlier early later late records next) (keeps : EngineKeeps start run got earlier early) where
  was : IsRecords gains.some.image records
  was = gains.before gains.some.image gains.some.left

  was_from : IsRunFrom start run got records
  was_from =
      let s = keeps.journal gains.some.image gains.some.left in
      subst (λ (l : List Record). IsRunFrom start run got l) (same_records gains.some.image s.records records s.are was) s.so

  not_empty : (y : Record) (ys : List Record) → y ∷ ys ≡ [] → ⊥
  not_empty y ys e = cc

  more_from : IsRunFrom start run got (records ++ next ∷ [])
  more_from =
      let on = was_from.goes_on in
      record {
        is_run = gains.is_run;
        goes_on = record {
          image = on.image;
          left = on.left;
          before = on.before;
          were = on.were;
          added = on.added ++ next ∷ [];
          is = ap (λ (l : List Record). l ++ next ∷ []) on.is ∙ append_assoc on.before on.added (next ∷ []);
          begins = λ none some. by records refl none;
          replies = all_by (IsOfReplies got (records ++ next ∷ [])) (on.added ++ next ∷ []) (λ r has. elim (Contains-push_cases on.added next r has) [
            | inl old ↦ of_later got records (next ∷ []) r (All-contains (IsOfReplies got records) on.added r on.replies old)
            | inr same ↦ subst (λ (x : Record). IsOfReplies got (records ++ next ∷ []) x) same gains.reply
          ]);
        };
      }
    where
      by : (l : List Record) → records ≡ l → was_from.goes_on.before ≡ [] → run_of (records ++ next ∷ []) ≡ Some run
      by [] e none = ap (λ (l : List Record). run_of (l ++ next ∷ [])) e ∙ gains.first e
      by (x ∷ xs) e none =
          let some : records ≢ [] = λ (empty : records ≡ []). not_empty x xs (sym e ∙ empty) in
          ap (λ (l : List Record). run_of (l ++ next ∷ [])) e ∙ run_of-more x xs next ∙ ap run_of (sym e) ∙ was_from.goes_on.begins none some

  journal : (image : List ℕ) → IsLeft later.disk 0 late image → StandsFor image (IsRunFrom start run got)
  journal image left = elim (gains.now image left) [
    | inl still ↦ record { records = records; are = still; so = was_from }
    | inr new ↦ record { records = records ++ next ∷ []; are = new; so = more_from }
  ]

  -- ---- what was acknowledged

  or_more : (P : List Record → Type 0) → P records → P (records ++ next ∷ []) → (image : List ℕ) (now : List Record) → IsLeft later.disk 0 late image → IsRecords image now → P now
  or_more P still more image now left stands = elim (gains.now image left) [
    | inl old ↦ subst P (same_records image records now old stands) still
    | inr new ↦ subst P (same_records image (records ++ next ∷ []) now new stands) more
  ]

  line_more : (bytes : List ℕ) → IsLineOf plain records bytes → IsLineOf plain (records ++ next ∷ []) bytes
  line_more bytes line = record {
    n = line.n;
    it = line.it;
    before = line.before;
    stands = get_more records (next ∷ []) line.n line.it line.stands;
    shows = subst (λ (l : List Record). IsShownBefore l line.before) (sym (take-append-le line.n records (next ∷ []) (get_below records line.n line.it line.stands))) line.shows;
    is = line.is;
  }

  lines_then : (now : List Record) (image : List ℕ) → IsLeft later.disk 0 late image → IsRecords image now → (bytes : List ℕ) → WasSaid later late bytes → IsRunLine plain (run_of now) bytes
      → IsLineOf plain records bytes
  lines_then now image left stands bytes said line =
      keeps.held.lines gains.some.image records gains.some.left was bytes (same_lines plain (Some 0) None earlier early later late gains.only image now left stands bytes line said)
      (record { line = line.line; looks = line.looks; is = line.is })

  sent_then : CommandsAreSent records (puts_to earlier early)
  sent_then = keeps.held.sent gains.some.image records gains.some.left was

  sent_gained : (l : List Record) → records ≡ l → CommandsAreSent (records ++ next ∷ []) (puts_to earlier early)
  sent_gained [] e at p has command of =
      let of_next : run_of (next ∷ []) ≡ Some p.run = sym (ap (λ (l : List Record). run_of (l ++ next ∷ [])) e) ∙ of in
      absurd (gains.unused e at p has (same_some (sym of_next ∙ gains.first e)))
  sent_gained (x ∷ xs) e at p has command of =
      let of_before : run_of records ≡ Some p.run = ap run_of e ∙ sym (run_of-more x xs next) ∙ sym (ap (λ (l : List Record). run_of (l ++ next ∷ [])) e) ∙ of in
      sent_more records next p.issue p.agent p.bytes (sent_then at p has command of_before)

  was_empty : (image : List ℕ) → IsLeft later.disk 0 late image → Stands image [] → records ≡ []
  was_empty image left empty =
      or_more (λ (l : List Record). l ≡ [] → records ≡ []) (λ e. e) (λ e. absurd (append_not_empty records next e)) image [] left (empty_records image empty) refl

  held : IsHeldAs plain later (puts_of start) late
  held = record {
    lines = λ image now left stands bytes said line. or_more (λ (l : List Record). IsLineOf plain records bytes → IsLineOf plain l bytes) (λ l. l) (line_more bytes) image now left stands
        (lines_then now image left stands bytes said line);
    sent = λ image now left stands. or_more (λ (l : List Record). CommandsAreSent l (puts_to later late))
        (subst (λ (p : List (ℕ × Parcel)). CommandsAreSent records p) (sym gains.only.puts) sent_then)
        (subst (λ (p : List (ℕ × Parcel)). CommandsAreSent (records ++ next ∷ []) p) (sym gains.only.puts) (sent_gained records refl)) image now left stands;
    none_while_empty = λ image left empty at p own.
        let none : records ≡ [] = was_empty image left empty in
        let old : IsRecords gains.some.image [] = subst (λ (l : List Record). IsRecords gains.some.image l) none was in
        absurd (keeps.held.none_while_empty gains.some.image gains.some.left (stands_empty gains.some.image old) at p (own_before plain (puts_of start) earlier early later late gains.only.puts at p own));
    was_open = λ at p own. past_open plain (puts_of start) earlier early later gains.only.past keeps.held at p (own_before plain (puts_of start) earlier early later late gains.only.puts at p own);
  }

pub record_is_kept : RecordIsKept
record_is_kept start run got earlier early later late records next gains keeps = record {
  journal = journal start run got earlier early later late records next gains keeps;
  held = held start run got earlier early later late records next gains keeps;
  only_commands = λ at p has. keeps.only_commands at p (subst (λ (l : List (ℕ × Parcel)). Contains (drop (puts_of start) l) (at, p)) gains.only.puts has);
}
