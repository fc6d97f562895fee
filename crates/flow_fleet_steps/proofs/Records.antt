-- What one run of a fleet does, as a call on the rack.
use Rattle.std.proofs.Common.{◌≡◌, ◌≢◌, ◌⊎◌, inl, inr, ℕ, List, [], ◌∷◌, ◌++◌, take, refl, sym, ◌∙◌, ap, IsTrue}
use Rattle.std.specs.Prelude.{Option, Some, slice_get}
use Rattle.std.proofs.lemmas.Bool.{eq-eqb}
use Rattle.cacao_site.specs.View.{SiteView}
use Rattle.cacao_site.specs.DiskCalls.{OnlyFile}
use Rattle.cacao_site.specs.LinkCalls.{Gains}
use Rattle.cacao_site.specs.SayCalls.{SaysOnly}
use Rattle.cacao_site.proofs.Beats.{each-weaken}
use Rattle.run_records.specs.Ranges.{InRange}
use Rattle.run_records.specs.declared.record.Record.{Record}
use Rattle.flow_core_rules.specs.Lines.{record_line}
use Rattle.flow_laws.specs.Beats.{IsFurther}
use Rattle.flow_laws.specs.Held.{plain}
use Rattle.flow_laws.specs.Images.{IsRecords}
use Rattle.flow_laws.specs.Journals.{run_of}
use Rattle.flow_laws.proofs.Basics.{same_some}
use Rattle.flow_laws.proofs.OneList.{records_of_layout, same_records}
use Rattle.flow_world_steps.specs.HistoryCalls.{Offers}
use Rattle.flow_world_steps.specs.HistoryView.{HistoryView}
use Rattle.flow_world_steps.specs.Histories.{IsHistory, IsLineAt}
use Rattle.flow_world_steps.specs.EngineCalls.{Sends, command_of}
use Rattle.flow_world_steps.specs.EngineView.{EngineView}
use Rattle.flow_world_steps.specs.Sides.{IsUp, IsWhole}
use Rattle.flow_world_steps.proofs.Records.{has_records, run_known}
use Rattle.flow_fleet_laws.specs.Events.{AllOwn, Event}
use Rattle.flow_fleet_laws.specs.Events.Event.{record_by, line_by, command_by}
use Rattle.flow_fleet_laws.specs.Fleets.{IsAt}
use Rattle.flow_fleet_laws.specs.Speeches.{head_of, numbered}
use Rattle.flow_fleet_laws.specs.Speeches.Form.{with_numbers}
use Rattle.flow_fleet_laws.specs.Views.{seen_from}
use Rattle.flow_fleet_sessions.proofs.Records.{IsFurtherFor, all_more, first_of_run, open_send, shows_before}
use Rattle.flow_fleet_steps.specs.Turns.{StandsAt}
use Rattle.flow_fleet_steps.specs.Worlds.{EachRun}
use Rattle.flow_fleet_steps.proofs.Back.{only_back, puts_back}

-- ---- journals that are their own runs'

-- the run at each place has this number, and its engine is there
pub record IsRunAt (engines : List EngineView) (place run : ℕ) : Type 0 where
  pub v : EngineView
  pub there : slice_get engines place ≡ Some v
  pub of_run : v.history.seen.run ≡ run

abbrev pub AreRunsOf : List ℕ → List EngineView → Type 0
AreRunsOf runs engines = (place run : ℕ) → IsAt runs place run → IsRunAt engines place run

-- records that a run's file holds are of that run
of_own : (h : HistoryView) → IsHistory h → (records : List Record) → h.records ≡ records → (other : ℕ) → run_of records ≡ Some other → other ≡ h.seen.run
of_own h history [] are other of = absurd (cc)
of_own h history (first ∷ others) are other of =
    let some : h.records ≢ [] = λ none. absurd (not_none (sym are ∙ none)) in
    same_some (sym of ∙ ap run_of (sym are) ∙ run_known h history some)
  where
    not_none : first ∷ others ≡ [] → ⊥
    not_none e = cc

pub all_own : (runs : List ℕ) (engines : List EngineView) (site : SiteView) → AreRunsOf runs engines → EachRun engines (StandsAt site) → IsTrue site.disk.told → AllOwn runs site
all_own runs engines site are stands told place run at image records left holds other of =
    let is = are place run at in
    let whole = stands place is.v is.there in
    let one : records ≡ is.v.history.records = same_records image records is.v.history.records holds (has_records is.v (seen_from place site) whole told image left) in
    of_own is.v.history whole.engine.history records (sym one) other of ∙ is.of_run

-- ---- records

-- what is further for a session, as the run sees the rack, is so for a run with its number before its lines
numbered_further : (run : ℕ) (site : SiteView) (beat : ℕ) (records : List Record) (next : Record) → (records ≡ [] → run_of (next ∷ []) ≡ Some run)
    → IsFurther plain site beat records next → IsFurther (numbered run) site beat records next
numbered_further run site beat records next begins further = record {
  first = λ none.
      let f = further.first none in
      let same : f.run ≡ run = same_some (sym (ap (λ (r : Record). run_of (r ∷ [])) f.is) ∙ begins none) in
      record { run = f.run; moment = f.moment; books = f.books; bind = f.bind; is = f.is; alone = f.alone; unused = f.unused; speaks = ap head_of same };
  step = further.step;
  backed = further.backed;
}

head_line : (run : ℕ) (held : Option ℕ) (number : ℕ) (bytes text : List ℕ) → held ≡ Some number → bytes ≡ text → head_of number ++ bytes ≡ (numbered run).head held ++ text
head_line run held number bytes text e same =
    ap (λ (l : List ℕ). head_of number ++ l) same ∙ ap (λ (o : Option ℕ). (numbered run).head o ++ text) (sym e)

module _ (runs : List ℕ) (start : SiteView) (place run : ℕ) (at : IsAt runs place run) (v : EngineView) (old new : SiteView) (of_run : v.history.seen.run ≡ run) (told : IsTrue old.disk.told) where
  -- a record may have been appended
  pub record_event : (IsNext : Record → Type 0) → IsWhole v (seen_from place old) → (offers : Offers v.history IsNext (seen_from place old) (seen_from place new))
      → IsFurtherFor (seen_from place start) run (seen_from place old) v.history.records offers.comes.next → Event with_numbers runs start old new
  record_event IsNext whole offers further =
      let records = v.history.records in
      let next = offers.comes.next in
      let ranges = whole.engine.history.ranges in
      let begins : records ≡ [] → run_of (next ∷ []) ≡ Some run = λ none. first_of_run v.history IsNext offers.comes none ∙ ap Some of_run in
      let only : OnlyFile 0 (seen_from place old) (seen_from place new) (λ image. IsRecords image records ⊎ IsRecords image (records ++ next ∷ [])) = record {
        each = each-weaken offers.file.each (λ told image is. elim is [
          | inl before ↦ inl (records_of_layout image records ranges before)
          | inr after ↦ inr (records_of_layout image (records ++ next ∷ []) (all_more InRange records next ranges offers.in_range) after)
        ]);
        others = offers.file.others;
        rest = offers.file.rest;
      } in
      record_by place run at (record {
        records = records;
        next = next;
        only = only_back place (λ image. IsRecords image records ⊎ IsRecords image (records ++ next ∷ [])) old new only;
        before = has_records v (seen_from place old) whole told;
        further = λ fresh agreed. numbered_further run (seen_from place old) old.disk.beat records next begins
            (further agreed.good (λ is. agreed.fresh run (eq-eqb run run refl) is) fresh);
        begins = begins;
      })

  -- a command was put, or lost
  pub command_event : (w : EngineView) (issue moment : ℕ) → IsUp v (seen_from place old) → AllOwn runs old → Sends v w issue moment (seen_from place old) (seen_from place new)
      → Event with_numbers runs start old new
  command_event w issue moment up own sends = command_by place run at own (record {
    parcel = command_of v.history issue sends.it;
    command = refl;
    of_run = of_run;
    sent = λ image left. record {
      records = v.history.records;
      are = has_records v (seen_from place old) up.has_file told image left;
      so = open_send v (seen_from place old) issue sends.it up sends.is_open;
    };
    puts = puts_back place (command_of v.history issue sends.it) old new sends.put;
  })

  -- the line of a record was said, behind the run's number
  pub line_event : (n : ℕ) (bytes : List ℕ) → IsUp v (seen_from place old) → AllOwn runs old → IsLineAt v.history n bytes → SaysOnly old new
      → Gains old.link.said (new.disk.beat, head_of v.history.seen.run ++ bytes) new.link.said → Event with_numbers runs start old new
  line_event n bytes up own line says gained = line_by place run at own (record {
    line = head_of v.history.seen.run ++ bytes;
    stands = λ image left. record {
      records = v.history.records;
      are = has_records v (seen_from place old) up.has_file told image left;
      so = record {
        n = n;
        it = line.it;
        before = line.before;
        stands = line.there;
        shows = shows_before v.history (take n v.history.records) line.before up.has_file.engine.history line.shows;
        is = head_line run (run_of v.history.records) v.history.seen.run bytes (record_line line.before n line.it) (run_known v.history up.has_file.engine.history up.begun) line.is;
      };
    };
    disk = says.disk;
    puts = says.puts;
    gained = gained;
  })
