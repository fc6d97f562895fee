-- What a session's engine does, as calls of a run whose lines have no number before them.
use Rattle.std.proofs.Common.{◌≡◌, ◌≢◌, ◌⊎◌, inl, inr, ℕ, zero, suc, Bool, true, false, cond, List, [], ◌∷◌, ◌++◌, length, take, refl, sym, ◌∙◌, subst, ap, IsTrue}
use Rattle.std.specs.Prelude.{Contains, Some, ◌==◌, not}
use Rattle.std.specs.List.{AllByRecursion}
use Rattle.std.proofs.lemmas.Bool.{eq-eqb, eqb-true}
use Rattle.cacao_site.specs.View.{SiteView}
use Rattle.cacao_site.specs.DiskCalls.{OnlyFile}
use Rattle.cacao_site.specs.LinkCalls.{Gains}
use Rattle.cacao_site.specs.SayCalls.{SaysOnly}
use Rattle.cacao_site.proofs.Beats.{each-weaken}
use Rattle.run_records.specs.Ranges.{InRange}
use Rattle.run_records.specs.declared.record.Record.{Record}
use Rattle.run_records.specs.declared.record.Record.TheVariants as entry
use Rattle.flow_core_rules.specs.Changes.{change, moment_of}
use Rattle.flow_core_rules.specs.Edits.{Edit}
use Rattle.flow_core_rules.specs.Laws.{record_of_issue}
use Rattle.flow_core_rules.specs.Runs.{begin_of}
use Rattle.flow_core_rules.specs.State.{Shown}
use Rattle.flow_core_rules.specs.declared.issues.Issue.{Issue}
use Rattle.flow_world_steps.specs.Views.{View, begins, taken}
use Rattle.flow_laws.specs.Beats.{IsFurther}
use Rattle.flow_laws.specs.Fresh.{IsFresh}
use Rattle.flow_laws.specs.Good.{IsGood}
use Rattle.flow_laws.specs.Held.{HasOpenSend, plain}
use Rattle.flow_laws.specs.Images.{IsRecords}
use Rattle.flow_laws.specs.Journals.{IsShownBefore as ShowsBefore, run_of}
use Rattle.flow_laws.specs.Since.{Agreed}
use Rattle.flow_laws.proofs.Basics.{same_some}
use Rattle.flow_laws.proofs.OneList.{records_of_layout, same_records}
use Rattle.flow_world_steps.specs.HistoryCalls.{MayCome, Offers}
use Rattle.flow_world_steps.specs.HistoryView.{HistoryView, flow_of}
use Rattle.flow_world_steps.specs.Histories.{IsHistory, IsLineAt, IsShownBefore}
use Rattle.flow_world_steps.proofs.SoFarLemmas.{begin_is}
use Rattle.flow_world_steps.specs.EngineCalls.{IsOpen, Sends, command_of}
use Rattle.flow_world_steps.specs.EngineView.{EngineView}
use Rattle.flow_world_steps.specs.Sides.{IsUp, IsWhole}
use Rattle.flow_world_steps.proofs.Records.{has_records, run_known}
use Rattle.flow_fleet_laws.specs.Events.{AllOwn, Event}
use Rattle.flow_fleet_laws.specs.Events.Event.{record_by, line_by, command_by}
use Rattle.flow_fleet_laws.specs.Fleets.{IsAt}
use Rattle.flow_fleet_laws.specs.Speeches.{bare}
use Rattle.flow_fleet_laws.specs.Speeches.Form.{without_numbers}
use Rattle.flow_fleet_laws.specs.Views.{seen_from}
use Rattle.flow_fleet_laws.proofs.Seen.{views_from_the_first}

-- ---- the one run

-- no other run has a place
pub only_one : (run place number : ℕ) → IsAt (run ∷ []) place number → (place ≡ 0) × (number ≡ run)
only_one run zero number at = (refl, same_some (sym at))
only_one run (suc place) number at = absurd (none place at)
  where
    none : (k : ℕ) → IsAt [] k number → ⊥
    none k is = cc

-- once it has begun its journal is its own
pub all_own : (v : EngineView) (site : SiteView) (run : ℕ) → IsUp v site → v.history.seen.run ≡ run → IsTrue site.disk.told → AllOwn (run ∷ []) site
all_own v site run up of_run told place number at image records left stands other of =
    let is = only_one run place number at in
    let here : IsRecords image v.history.records =
    has_records v site up.has_file told image (subst (λ (p : ℕ). IsTrue ((seen_from p site).disk.left 0 site.disk.beat image)) is.0 left) in
    let one : records ≡ v.history.records = same_records image records v.history.records stands here in
    let known : run_of v.history.records ≡ Some v.history.seen.run = run_known v.history up.has_file.engine.history up.begun in
    same_some (sym of ∙ ap run_of one ∙ known) ∙ of_run ∙ sym is.1

-- what is further for a session is so for a run at place 0 without numbers
bare_further : (run : ℕ) (site : SiteView) (beat : ℕ) (records : List Record) (next : Record) → IsFurther plain site beat records next
    → IsFurther (bare run) (seen_from 0 site) beat records next
bare_further run site beat records next further =
    subst (λ (s : SiteView). IsFurther (bare run) s beat records next) (sym (views_from_the_first site)) (record {
      first = λ none.
          let f = further.first none in
          record { run = f.run; moment = f.moment; books = f.books; bind = f.bind; is = f.is; alone = f.alone; unused = f.unused; speaks = refl };
      step = further.step;
      backed = further.backed;
    })

-- ---- records

pub all_more : {A : Type 0} (P : A → Type 0) (xs : List A) (x : A) → AllByRecursion P xs → P x → AllByRecursion P (xs ++ x ∷ [])
all_more P [] x all is = (is, tt)
all_more P (y ∷ xs) x all is = (all.0, all_more P xs x all.1 is)

pub taken_first : (v : View) (r : Record) (edits : List Edit) → v.count ≡ 0 → taken v r ≡ Some edits → begins v.seen r ≡ Some edits
taken_first v r edits c e = subst (λ (k : ℕ). cond (not (k == 0)) (change v.seen r) (begins v.seen r) ≡ Some edits) c e

-- a record that comes first is the Begin of the run
pub first_of_run : (h : HistoryView) (IsNext : Record → Type 0) (comes : MayCome h IsNext) → h.records ≡ [] → run_of (comes.next ∷ []) ≡ Some h.seen.run
first_of_run h IsNext comes none =
    let zero_of : (flow_of h).count ≡ 0 = ap (λ (l : List Record). length l) none in
    let is : comes.next ≡ begin_of h.seen.given h.seen.run (moment_of comes.next) =
    begin_is h.seen comes.next comes.edits (taken_first (flow_of h) comes.next comes.edits zero_of comes.takes) in
    ap (λ (r : Record). run_of (r ∷ [])) is

-- what all agrees on, as a session sees the site
abbrev pub IsFurtherFor : SiteView → ℕ → SiteView → List Record → Record → Type 0
IsFurtherFor start run site records next = IsGood site site.disk.beat → (IsFresh start run start.disk.beat → IsFresh site run site.disk.beat)
    → IsFresh start run start.disk.beat → IsFurther plain site site.disk.beat records next

-- a record may have been appended
pub record_event : (start : SiteView) (run : ℕ) (v : EngineView) (IsNext : Record → Type 0) (old new : SiteView) → IsWhole v old → v.history.seen.run ≡ run → IsTrue old.disk.told
    → (offers : Offers v.history IsNext old new) → IsFurtherFor start run old v.history.records offers.comes.next → Event without_numbers (run ∷ []) start old new
record_event start run v IsNext old new whole of_run told offers further =
    let records = v.history.records in
    let next = offers.comes.next in
    let ranges = whole.engine.history.ranges in
    let only : OnlyFile 0 old new (λ image. IsRecords image records ⊎ IsRecords image (records ++ next ∷ [])) = record {
      each = each-weaken offers.file.each (λ told image is. elim is [
        | inl before ↦ inl (records_of_layout image records ranges before)
        | inr after ↦ inr (records_of_layout image (records ++ next ∷ []) (all_more InRange records next ranges offers.in_range) after)
      ]);
      others = offers.file.others;
      rest = offers.file.rest;
    } in
    record_by 0 run refl (record {
      records = records;
      next = next;
      only = only;
      before = has_records v old whole told;
      further = λ fresh agreed. bare_further run old old.disk.beat records next (by fresh agreed);
      begins = λ none. first_of_run v.history IsNext offers.comes none ∙ ap Some of_run;
    })
  where
    by : IsFresh (seen_from 0 start) run start.disk.beat → Agreed (bare run) (seen_from 0 start) (seen_from 0 old) old.disk.beat
        → IsFurther plain old old.disk.beat v.history.records offers.comes.next
    by fresh agreed =
        let first = views_from_the_first start in
        let here = views_from_the_first old in
        further (subst (λ (s : SiteView). IsGood s old.disk.beat) here agreed.good)
        (λ is. subst (λ (s : SiteView). IsFresh s run old.disk.beat) here
        (agreed.fresh run (eq-eqb run run refl) (subst (λ (s : SiteView). IsFresh s run start.disk.beat) (sym first) is)))
        (subst (λ (s : SiteView). IsFresh s run start.disk.beat) first fresh)

-- ---- commands

not_false : (a : ℕ) → a ≢ 0 → (b : Bool) → (a == 0) ≡ b → b ≡ false
not_false a ne true e = absurd (ne (eqb-true a 0 e))
not_false a ne false e = refl

-- the record of an issue of a filter is its Send
pub send_of : (issue : ℕ) (it : Issue) → it.agent ≢ 0 → record_of_issue issue it ≡ entry.Send it.task issue it.agent it.moment it.bytes
send_of issue it ne =
    ap (λ (b : Bool). cond b (entry.Ask it.task issue it.moment it.bytes) (entry.Send it.task issue it.agent it.moment it.bytes)) (not_false it.agent ne (it.agent == 0) refl)

pub open_send : (v : EngineView) (site : SiteView) (issue : ℕ) (it : Issue) → IsUp v site → IsOpen v.history issue it → HasOpenSend v.history.records (command_of v.history issue it)
open_send v site issue it up is = record {
  of_run = run_known v.history up.has_file.engine.history up.begun;
  sent = record {
    task = it.task;
    moment = it.moment;
    has = subst (λ (r : Record). Contains v.history.records r) (send_of issue it is.waiting.of_filter) is.has.issued;
  };
  is_open = is.has.waits is.waiting.waits;
}

-- a command was put, or lost
pub command_event : (start : SiteView) (run : ℕ) (v w : EngineView) (issue moment : ℕ) (old new : SiteView) → IsUp v old → v.history.seen.run ≡ run → IsTrue old.disk.told
    → Sends v w issue moment old new → Event without_numbers (run ∷ []) start old new
command_event start run v w issue moment old new up of_run told sends = command_by 0 run refl (all_own v old run up of_run told) (record {
  parcel = command_of v.history issue sends.it;
  command = refl;
  of_run = of_run;
  sent = λ image left. record {
    records = v.history.records;
    are = has_records v old up.has_file told image left;
    so = open_send v old issue sends.it up sends.is_open;
  };
  puts = sends.put;
})

-- ---- lines

pub shows_before : (h : HistoryView) (records : List Record) (before : Shown) → IsHistory h → IsShownBefore h.seen.given h.seen.run records before → ShowsBefore records before
shows_before h [] before history shows = tt
shows_before h (first ∷ others) before history shows = record {
  given = h.seen.given;
  run = h.seen.run;
  state = shows.state;
  accepted = history.accepted;
  leads = shows.leads;
  is = shows.is;
}

-- the line of a record was said
pub line_event : (start : SiteView) (run : ℕ) (v : EngineView) (n : ℕ) (bytes : List ℕ) (old new : SiteView) → IsUp v old → v.history.seen.run ≡ run → IsTrue old.disk.told
    → IsLineAt v.history n bytes → SaysOnly old new → Gains old.link.said (new.disk.beat, bytes) new.link.said → Event without_numbers (run ∷ []) start old new
line_event start run v n bytes old new up of_run told line says gained = line_by 0 run refl (all_own v old run up of_run told) (record {
  line = bytes;
  stands = λ image left. record {
    records = v.history.records;
    are = has_records v old up.has_file told image left;
    so = record {
      n = n;
      it = line.it;
      before = line.before;
      stands = line.there;
      shows = shows_before v.history (take n v.history.records) line.before up.has_file.engine.history line.shows;
      is = line.is;
    };
  };
  disk = says.disk;
  puts = says.puts;
  gained = gained;
})
