-- From call to call: where runs and fleets may begin, and begin again.
use Rattle.std.proofs.Common.{◌≡◌, ◌≢◌, ◌⊎◌, inl, inr, ℕ, ◌≤◌, List, [], ◌++◌, refl, sym, ◌∙◌, subst, ap, arith}
use Rattle.std.specs.Prelude.{IsSome, Option, Some, None, unwrap_or}
use Rattle.std.proofs.lemmas.Bool.{cases_eq, eq-eqb}
use Rattle.cacao_site.specs.DiskCalls.{IsLeft}
use Rattle.cacao_site.specs.Sound.{IsSound}
use Rattle.cacao_site.specs.View.{SiteView}
use Rattle.cacao_site.specs.declared.parcel.Parcel.{Parcel}
use Rattle.flow_core_rules.specs.Lines.{record_line}
use Rattle.run_records.specs.declared.record.Record.{Record}
use Rattle.flow_laws.specs.Beats.{Among}
use Rattle.flow_laws.specs.Fresh.{IsFresh}
use Rattle.flow_laws.specs.Held.{IsLineOf, IsRunLine, plain}
use Rattle.flow_laws.specs.Images.{AnyJournal, WasSaid, puts_of, told_list}
use Rattle.flow_laws.specs.Journals.{IsJournalRun, run_of}
use Rattle.flow_laws.specs.Sessions.{IsNewRun, IsRestart, IsStart}
use Rattle.flow_laws.proofs.Again.{begins_anew as run_begins_anew, goes_on_after_a_crash, none_put}
use Rattle.flow_laws.proofs.Basics.{not_begun, positive}
use Rattle.flow_laws.proofs.Blank.{begins_on_blank_files}
use Rattle.flow_laws.proofs.Fresh.{fresh_begun}
use Rattle.flow_laws.proofs.OneList.{none_of_empty, same_records}
use Rattle.flow_laws.proofs.Sites.{crashes_are_restarts}
use Rattle.flow_fleet_laws.specs.Racks.{BareStartsAreSessions, CrashesAreRackRestarts, FleetsBeginOnBlankRacks, FleetsFollow, IsBlankRack, IsRackRestart, IsSilent, KeepsJournal, KeptJournalsStayOwn, MayFollow, MayTake, RunsBeginAnew, RunsBeginOnBlankRacks, RunsGoOn, SessionsAreBare, StartsInAnotherForm, StartsUnderAnother}
use Rattle.flow_fleet_laws.specs.Racks.MayFollow.{goes_on, takes_another, begins_anew}
use Rattle.flow_fleet_laws.specs.Speeches.{bare, head_of, numbered}
use Rattle.cacao_site.specs.RunViews.{file_of, rack_file}
use Rattle.flow_fleet_laws.specs.Views.{seen_from}
use Rattle.flow_fleet_laws.proofs.Choices.{has_number, run_by_good}
use Rattle.flow_fleet_laws.proofs.Seen.{few_files, filter_file, sound-seen}

-- ---- one run

-- a filter's file in the eyes of two places
filters_among : (place other : ℕ) (old new : SiteView) (beat : ℕ) → IsRackRestart old beat new → (file : ℕ) → 1 ≤ file → file ≤ 16
    → Among file (seen_from other old) beat (seen_from place new) new.disk.beat
filters_among place other old new beat is file low le image left =
    subst (λ (f : ℕ). IsLeft old.disk f beat image) (sym (filter_file other file low le))
    (is.filters file (low, le) image (subst (λ (f : ℕ). IsLeft new.disk f new.disk.beat image) (filter_file place file low le) left))

restart : (place : ℕ) (old new : SiteView) (beat : ℕ) → IsRackRestart old beat new → KeepsJournal place old beat new → IsRestart (seen_from place old) beat (seen_from place new)
restart place old new beat is journal = record {
  images = λ file le image left. elim (cases_eq file 0) [
    | inl zero ↦ subst (λ (f : ℕ). IsLeft old.disk (rack_file place f) beat image) (sym zero)
        (journal image (subst (λ (f : ℕ). IsLeft new.disk (rack_file place f) new.disk.beat image) zero left))
    | inr ne ↦ filters_among place place old new beat is file (positive file ne) le image left
  ];
  puts = is.puts;
  said = λ bytes said. let was = is.said bytes (record { at = said.at; has = said.has }) in record { at = was.at; has = was.has };
}

pub crashes_are_rack_restarts : CrashesAreRackRestarts
crashes_are_rack_restarts old new is =
    let of_view = crashes_are_restarts old new (record { left = λ file image le left. is.left file image (omega (arith, le)) left; link = is.link; beat = is.beat }) in (
      record {
        filters = λ agent a image left. is.left agent image (omega (arith, a.1)) left;
        puts = of_view.puts;
        said = of_view.said;
      },
      λ place low image left. is.left (file_of place) image (few_files place 0 low (omega arith)) left,
    )

pub runs_go_on : RunsGoOn
runs_go_on speech place old new first beat is journal good held =
    goes_on_after_a_crash speech (seen_from place old) (seen_from place new) first beat (restart place old new beat is journal) good held

pub runs_begin_anew : RunsBeginAnew
runs_begin_anew speech place other old new beat is none silent good some =
    let from : IsNewRun speech (seen_from other old) beat (seen_from place new) = record {
      some = record { image = some.image; left = some.left };
      empty = none;
      images = λ file low le. filters_among place other old new beat is file low le;
      puts = is.puts;
      silent = λ bytes said line. silent bytes (record { at = said.at; has = said.has }) line;
    } in
    run_begins_anew speech (seen_from other old) (seen_from place new) beat from good

pub starts_in_another_form : StartsInAnotherForm
starts_in_another_form speech other site is silent = record {
  good = is.good;
  held = record {
    lines = λ image records left stands bytes said line. absurd (silent image records left stands bytes said line);
    sent = is.held.sent;
    none_while_empty = λ image left empty at parcel own. none_put other site site.disk.beat at parcel own;
    was_open = λ at parcel own. absurd (none_put other site site.disk.beat at parcel own);
  };
}

-- ---- under another number

-- where the journal has a number, what stands before its lines is the same whatever the number of the view's run
same_head : (run other : ℕ) (held : Option ℕ) (number : ℕ) → held ≡ Some number → (numbered other).head held ≡ (numbered run).head held
same_head run other held number of =
    ap (λ (h : Option ℕ). head_of (unwrap_or h other)) of ∙ sym (ap (λ (h : Option ℕ). head_of (unwrap_or h run)) of)

line_under : (run other : ℕ) (records : List Record) (bytes : List ℕ) (number : ℕ) → run_of records ≡ Some number
    → (IsRunLine (numbered run) (run_of records) bytes → IsLineOf (numbered run) records bytes) → IsRunLine (numbered other) (run_of records) bytes
    → IsLineOf (numbered other) records bytes
line_under run other records bytes number of held line =
    let same = same_head run other (run_of records) number of in
    let is = held (record { line = line.line; looks = line.looks; is = line.is ∙ ap (λ (h : List ℕ). h ++ line.line) same }) in
    record {
      n = is.n;
      it = is.it;
      before = is.before;
      stands = is.stands;
      shows = is.shows;
      is = is.is ∙ ap (λ (h : List ℕ). h ++ record_line is.before is.n is.it) (sym same);
    }

-- the journal's records have a number, or none of the other number's lines was said
abbrev pub HasNumber : List Record → Type 0
HasNumber records = (number : ℕ) × (run_of records ≡ Some number)

-- where none of the other number's lines was said, and the journal has none
unheard : (run other : ℕ) (site : SiteView) (records : List Record) (bytes : List ℕ) (held : Option ℕ) → run_of records ≡ held → IsSilent (numbered other) site
    → WasSaid site site.disk.beat bytes → (IsRunLine (numbered run) (run_of records) bytes → IsLineOf (numbered run) records bytes)
    → IsRunLine (numbered other) (run_of records) bytes → IsLineOf (numbered other) records bytes
unheard run other site records bytes None of silent said was line =
    absurd (silent bytes said (subst (λ (h : Option ℕ). IsRunLine (numbered other) h bytes) of line))
unheard run other site records bytes (Some number) of silent said was line = line_under run other records bytes number of was line

start_under : (run other : ℕ) (site : SiteView) → IsStart (numbered run) site
    → AnyJournal site site.disk.beat (λ records. HasNumber records ⊎ IsSilent (numbered other) site) → IsStart (numbered other) site
start_under run other site is known = record {
  good = is.good;
  held = record {
    lines = λ image records left stands bytes said line. elim (known image records left stands) [
      | inl has ↦ line_under run other records bytes has.0 has.1 (is.held.lines image records left stands bytes said) line
      | inr silent ↦ unheard run other site records bytes (run_of records) refl silent said (is.held.lines image records left stands bytes said) line
    ];
    sent = is.held.sent;
    none_while_empty = λ image left empty at parcel own. none_put (numbered other) site site.disk.beat at parcel own;
    was_open = λ at parcel own. absurd (none_put (numbered other) site site.disk.beat at parcel own);
  };
}

-- the number may be taken, where the journal's records are runs
taken : (run other : ℕ) (site : SiteView) → AnyJournal site site.disk.beat IsJournalRun → IsStart (numbered run) site → MayTake site other
    → IsStart (numbered other) site × IsFresh site other site.disk.beat
taken run other site runs is (inl begun) = (
  start_under run other site is (λ image records left stands.
      let there = begun image left in
      let one : there.records ≡ records = same_records image there.records records there.are stands in
      inl (has_number records (runs image records left stands) (subst (λ (l : List Record). l ≢ []) one there.so))),
  fresh_begun site site.disk.beat begun other,
)
taken run other site runs is (inr free) = (
  start_under run other site is (λ image records left stands. inr free.0),
  record { unused = λ image left empty. free.1 },
)

pub starts_under_another : StartsUnderAnother
starts_under_another run other site sound told is may =
    taken run other site (run_by_good site sound told site.disk.beat (omega arith) is.good) is may

pub kept_journals_stay_own : KeptJournalsStayOwn
kept_journals_stay_own place run old new beat journal own image records left stands = own image records (journal image left) stands

-- ---- a session over one journal

heard_plain : (run : ℕ) (records : List Record) (bytes : List ℕ) → IsRunLine (bare run) (run_of records) bytes → IsRunLine plain (run_of records) bytes
heard_plain run records bytes line = record { line = line.line; looks = line.looks; is = line.is }

heard_bare : (run : ℕ) (records : List Record) (bytes : List ℕ) → IsRunLine plain (run_of records) bytes → IsRunLine (bare run) (run_of records) bytes
heard_bare run records bytes line = record { line = line.line; looks = line.looks; is = line.is }

said_bare : (run : ℕ) (records : List Record) (bytes : List ℕ) → IsLineOf plain records bytes → IsLineOf (bare run) records bytes
said_bare run records bytes line = record { n = line.n; it = line.it; before = line.before; stands = line.stands; shows = line.shows; is = line.is }

said_plain : (run : ℕ) (records : List Record) (bytes : List ℕ) → IsLineOf (bare run) records bytes → IsLineOf plain records bytes
said_plain run records bytes line = record { n = line.n; it = line.it; before = line.before; stands = line.stands; shows = line.shows; is = line.is }

pub sessions_are_bare : SessionsAreBare
sessions_are_bare run start site is = record {
  told = is.told;
  later = is.later;
  each = λ beat from to.
      let here = is.each beat from to in
      record {
        good = here.good;
        held = record {
          lines = λ image records left stands bytes said line. said_bare run records bytes (here.held.lines image records left stands bytes said (heard_plain run records bytes line));
          sent = here.held.sent;
          none_while_empty = λ image left empty at parcel own. here.held.none_while_empty image left empty at parcel (record { has = own.has; command = own.command; own = refl });
          was_open = λ at parcel own. here.held.was_open at parcel (record { has = own.has; command = own.command; own = refl });
        };
        fresh = λ number own fresh. here.fresh number refl fresh;
      };
}

pub bare_starts_are_sessions : BareStartsAreSessions
bare_starts_are_sessions run site = (
  λ is. record {
    good = is.good;
    held = record {
      lines = λ image records left stands bytes said line. said_bare run records bytes (is.held.lines image records left stands bytes said (heard_plain run records bytes line));
      sent = is.held.sent;
      none_while_empty = λ image left empty at parcel own. none_put (bare run) site site.disk.beat at parcel own;
      was_open = λ at parcel own. absurd (none_put (bare run) site site.disk.beat at parcel own);
    };
  },
  λ is. record {
    good = is.good;
    held = record {
      lines = λ image records left stands bytes said line. said_plain run records bytes (is.held.lines image records left stands bytes said (heard_bare run records bytes line));
      sent = is.held.sent;
      none_while_empty = λ image left empty at parcel own. none_put plain site site.disk.beat at parcel own;
      was_open = λ at parcel own. absurd (none_put plain site site.disk.beat at parcel own);
    };
  },
)

-- ---- a fleet

-- one run of those that may begin on a blank rack
on_blank : (runs : List ℕ) (site : SiteView) (place run : ℕ) → place ≤ 15 → IsBlankRack runs site → IsSilent (numbered run) site
    → IsStart (numbered run) (seen_from place site) × ((number : ℕ) → IsFresh (seen_from place site) number site.disk.beat)
on_blank runs site place run low blank silent = begins_on_blank_files (numbered run) (seen_from place site) (record {
  empty = λ file image le left. blank.empty (rack_file place file) image (few_files place file low le) left;
  none_put = ap (λ (l : Option (List (ℕ × Parcel))). told_list l) blank.none_put;
  silent = λ bytes said line. silent bytes (record { at = said.at; has = said.has }) line;
})

pub fleets_begin_on_blank_racks : FleetsBeginOnBlankRacks
fleets_begin_on_blank_racks runs site few blank = record {
  told = blank.told;
  puts = subst IsSome (sym blank.none_put) refl;
  pending = blank.pending;
  start = λ place run at. (on_blank runs site place run (few place run at) blank (blank.silent place run at)).0;
  fresh = λ place run at. (on_blank runs site place run (few place run at) blank (blank.silent place run at)).1 run;
}

pub runs_begin_on_blank_racks : RunsBeginOnBlankRacks
runs_begin_on_blank_racks place run site low blank silent =
    let both = on_blank [] site place run low blank silent in (
      both.0,
      both.1 run,
      λ image records left stands other of.
          let none : records ≡ [] = none_of_empty image records (blank.empty (file_of place) image (few_files place 0 low (omega arith)) left) stands in
          absurd (not_begun other (subst (λ (l : List Record). run_of l ≡ Some other) none of)),
    )

module _ (start old : SiteView) (beat : ℕ) (new : SiteView) (from : start.disk.beat ≤ beat) (to : beat ≤ old.disk.beat) (sound : IsSound old) (is : IsRackRestart old beat new) where
  follows : (place run : ℕ) → MayFollow start old beat new place run → IsStart (numbered run) (seen_from place new) × IsFresh (seen_from place new) run new.disk.beat
  follows place run (goes_on agrees fresh journal) =
      let here = agrees.each beat from to in
      let next = runs_go_on (numbered run) place old new (puts_of (seen_from place start)) beat is journal here.good here.held in
      (next.0, next.1 run (here.fresh run (eq-eqb run run refl) fresh))
  follows place run (takes_another number agrees journal may) =
      let here = agrees.each beat from to in
      let next = runs_go_on (numbered number) place old new (puts_of (seen_from place start)) beat is journal here.good here.held in
      let runs = run_by_good (seen_from place old) (sound-seen place old sound) agrees.told beat to here.good in
      taken number run (seen_from place new) (λ image records left stands. runs image records (journal image left) stands) next.0 may
  follows place run (begins_anew other number agrees none silent unused) =
      let here = agrees.each beat from to in
      let some = sound.images (file_of other) beat agrees.told to in
      let next = runs_begin_anew (numbered run) place other old new beat is none silent here.good (record { image = some.0; left = some.1 }) in
      (next.0, next.1 run unused)

pub fleets_follow : FleetsFollow
fleets_follow start old beat new runs from to sound is told puts pending may = record {
  told = told;
  puts = puts;
  pending = pending;
  start = λ place run at. (follows start old beat new from to sound is place run (may place run at)).0;
  fresh = λ place run at. (follows start old beat new from to sound is place run (may place run at)).1;
}
