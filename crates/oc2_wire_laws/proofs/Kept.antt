-- What stands behind each list of deliveries.
use Rattle.std.proofs.Common.{◌≡◌, inl, inr, ℕ, true, false, List, [], ◌∷◌, ◌++◌, refl, sym, ◌∙◌, subst, ap}
use Rattle.std.specs.Prelude.{Contains}
use Rattle.std.proofs.lemmas.List.{append_assoc}
use Rattle.std.proofs.lemmas.List.Elements.{All-contains, Contains-append_left, Contains-append_cases, Contains-push_cases}
use Rattle.cacao_site.specs.DiskCalls.{IsLeft}
use Rattle.cacao_site.specs.View.{SiteView}
use Rattle.cacao_site.specs.declared.parcel.Parcel.{Parcel}
use Rattle.run_records.specs.declared.record.Record.{Record}
use Rattle.run_records.specs.declared.act.Act.{Act}
use Rattle.flow_laws.specs.Images.{AnyJournal, IsAgent, StandsFor, StandsForActs, puts_of}
use Rattle.flow_laws.specs.Held.{LinesAreOfRecords, plain}
use Rattle.oc2_wire_laws.specs.Ends.{EngineKeeps, FiltersKeep, HasGotCommand, IsOfReplies, IsRunFrom, AreActsFrom}
use Rattle.oc2_wire_laws.specs.Deliveries.{Crashes, IsJournal, IsSaidBefore, End, Ends, Event, Events, IsNew, TakesStep, put_by, sent_by}
use Rattle.oc2_wire_laws.specs.Deliveries.Event.{engine_steps, filters_step, engine_crashes, filters_crash, engine_gets, filters_get}
use Rattle.oc2_wire_laws.specs.Deliveries.Events.{nothing, and_then}
use Rattle.oc2_wire_laws.specs.EngineBeats.{MoreIsGot}
use Rattle.oc2_wire_laws.specs.FilterBeats.{MoreForFilters}
use Rattle.oc2_wire_laws.proofs.Lists.{all_by, none_in, put_entry, in_puts, sent_new}
use Rattle.oc2_wire_laws.proofs.Fits.{FileFits, JournalFits, file_more, file_now, fits_more, journal_now, of_more}
use Rattle.oc2_wire_laws.proofs.Starts.{engine_keeps, filters_keep}

-- all that is kept, of both ends
pub record Kept (first : Ends) (run : ℕ) (e f : End) : Type 0 where
  pub only_commands : (p : Parcel) → Contains (sent_by e) p → p.back ≡ false
  pub only_replies : (p : Parcel) → Contains (sent_by f) p → p.back ≡ true
  pub agents : (p : Parcel) → Contains (sent_by f) p → IsAgent p.agent
  pub got_replies : (p : Parcel) → Contains e.got p → Contains (sent_by f) p
  pub got_commands : (p : Parcel) → Contains f.got p → Contains (sent_by e) p
  pub journal : (image : List ℕ) → IsLeft e.start.disk 0 e.start.disk.beat image → StandsFor image (JournalFits first run e.before (sent_by f))
  pub files : (agent : ℕ) → IsAgent agent → (image : List ℕ) → IsLeft f.start.disk agent f.start.disk.beat image → StandsForActs image (FileFits first agent (sent_by e) f.before)
  pub engine : EngineKeeps e.start run e.got e.site e.beat
  pub filters : FiltersKeep f.start f.got f.site f.beat

-- ---- more was sent

pub journal_more : (first : Ends) (run : ℕ) (before replies more : List Parcel) (start : SiteView) → ((p : Parcel) → Contains replies p → Contains more p)
    → ((image : List ℕ) → IsLeft start.disk 0 start.disk.beat image → StandsFor image (JournalFits first run before replies))
    → (image : List ℕ) → IsLeft start.disk 0 start.disk.beat image → StandsFor image (JournalFits first run before more)
journal_more first run before replies more start sub each image left =
    let s = each image left in
    record { records = s.records; are = s.are; so = fits_more first run before replies more s.records sub s.so }

pub files_more : (first : Ends) (sent more before : List Parcel) (start : SiteView) → ((p : Parcel) → Contains sent p → Contains more p)
    → ((agent : ℕ) → IsAgent agent → (image : List ℕ) → IsLeft start.disk agent start.disk.beat image → StandsForActs image (FileFits first agent sent before))
    → (agent : ℕ) → IsAgent agent → (image : List ℕ) → IsLeft start.disk agent start.disk.beat image → StandsForActs image (FileFits first agent more before)
files_more first sent more before start sub each agent is_agent image left =
    let s = each agent is_agent image left in
    record { acts = s.acts; are = s.are; so = file_more first agent sent more before s.acts sub s.so }

sent_later : (old new : End) → TakesStep old new → (p : Parcel) → Contains (sent_by old) p → Contains (sent_by new) p
sent_later old new step p has =
    let same : sent_by new ≡ sent_by old ++ step.more =
    ap (λ (l : List Parcel). l ++ put_by new) step.before ∙ ap (λ (l : List Parcel). old.before ++ l) step.puts ∙ sym (append_assoc old.before (put_by old) step.more) in
    subst (λ (l : List Parcel). Contains l p) (sym same) (Contains-append_left (sent_by old) step.more p has)

-- ---- what an end got

run_from_more : (start : SiteView) (run : ℕ) (got more : List Parcel) (records : List Record) → ((p : Parcel) → Contains got p → Contains more p)
    → IsRunFrom start run got records → IsRunFrom start run more records
run_from_more start run got more records sub from = record {
  is_run = from.is_run;
  goes_on = record {
    image = from.goes_on.image;
    left = from.goes_on.left;
    before = from.goes_on.before;
    were = from.goes_on.were;
    added = from.goes_on.added;
    is = from.goes_on.is;
    begins = from.goes_on.begins;
    replies = all_by (IsOfReplies more records) from.goes_on.added (λ r has. of_more got more records r sub (All-contains (IsOfReplies got records) from.goes_on.added r from.goes_on.replies has));
  };
}

pub more_is_got : MoreIsGot
more_is_got start run got more site beat sub keeps = record {
  journal = λ image left.
      let s = keeps.journal image left in
      record { records = s.records; are = s.are; so = run_from_more start run got more s.records sub s.so };
  held = keeps.held;
  only_commands = keeps.only_commands;
}

command_more : (agent : ℕ) (got more : List Parcel) (act : Act) → ((p : Parcel) → Contains got p → Contains more p) → HasGotCommand agent got act → HasGotCommand agent more act
command_more agent got more act sub h = record {
  parcel = h.parcel;
  has = sub h.parcel h.has;
  command = h.command;
  to = h.to;
  of_run = h.of_run;
  of_issue = h.of_issue;
  bytes = h.bytes;
}

acts_from_more : (start : SiteView) (agent : ℕ) (got more : List Parcel) (acts : List Act) → ((p : Parcel) → Contains got p → Contains more p)
    → AreActsFrom start agent got acts → AreActsFrom start agent more acts
acts_from_more start agent got more acts sub from = record {
  are_acts = from.are_acts;
  go_on = record {
    image = from.go_on.image;
    left = from.go_on.left;
    before = from.go_on.before;
    were = from.go_on.were;
    added = from.go_on.added;
    is = from.go_on.is;
    commands = all_by (HasGotCommand agent more) from.go_on.added
        (λ act has. command_more agent got more act sub (All-contains (HasGotCommand agent got) from.go_on.added act from.go_on.commands has));
  };
}

pub more_for_filters : MoreForFilters
more_for_filters start got more site beat sub keeps = record {
  files = λ agent is_agent image left.
      let s = keeps.files agent is_agent image left in
      record { acts = s.acts; are = s.are; so = acts_from_more start agent got more s.acts sub s.so };
  replies = keeps.replies;
  only_replies = keeps.only_replies;
}

-- ---- what an end's own puts are

commands_only : (run : ℕ) (old new : End) → TakesStep old new → EngineKeeps new.start run new.got new.site new.beat → ((p : Parcel) → Contains (sent_by old) p → p.back ≡ false)
    → (p : Parcel) → Contains (sent_by new) p → p.back ≡ false
commands_only run old new step keeps was p has = elim (Contains-append_cases new.before (put_by new) p has) [
  | inl before ↦ was p (Contains-append_left old.before (put_by old) p (subst (λ (l : List Parcel). Contains l p) step.before before))
  | inr own ↦ let at = put_entry new p own in keeps.only_commands at.at p at.has
]

replies_only : (old new : End) → TakesStep old new → FiltersKeep new.start new.got new.site new.beat → ((p : Parcel) → Contains (sent_by old) p → p.back ≡ true)
    → (p : Parcel) → Contains (sent_by new) p → p.back ≡ true
replies_only old new step keeps was p has = elim (Contains-append_cases new.before (put_by new) p has) [
  | inl before ↦ was p (Contains-append_left old.before (put_by old) p (subst (λ (l : List Parcel). Contains l p) step.before before))
  | inr own ↦ let at = put_entry new p own in keeps.only_replies at.at p at.has
]

agents_only : (old new : End) → TakesStep old new → FiltersKeep new.start new.got new.site new.beat → ((p : Parcel) → Contains (sent_by old) p → IsAgent p.agent)
    → (p : Parcel) → Contains (sent_by new) p → IsAgent p.agent
agents_only old new step keeps was p has = elim (Contains-append_cases new.before (put_by new) p has) [
  | inl before ↦ was p (Contains-append_left old.before (put_by old) p (subst (λ (l : List Parcel). Contains l p) step.before before))
  | inr own ↦
      let at = put_entry new p own in
      (keeps.replies at.at p (in_puts (puts_of new.start) new.site new.beat at.at p at.has) (keeps.only_replies at.at p at.has)).is_agent
]

-- ---- event by event

got_none : (P : Type 0) (e : End) (p : Parcel) → e.got ≡ [] → Contains e.got p → P
got_none P e p none has = none_in P p (subst (λ (l : List Parcel). Contains l p) none has)

-- what an end sent before its session is all that it sent until the crash
sent_same : (IsOwn : ℕ → Type 0) (old new : End) → Crashes IsOwn old new → sent_by new ≡ sent_by old
sent_same IsOwn old new crash = sent_new new crash.is_new ∙ crash.before

pub engine_new : (first : Ends) (run : ℕ) (new : End) (replies : List Parcel) → IsNew new
    → AnyJournal new.start new.start.disk.beat (LinesAreOfRecords plain new.start new.start.disk.beat)
    → ((image : List ℕ) → IsLeft new.start.disk 0 new.start.disk.beat image → StandsFor image (JournalFits first run new.before replies))
    → EngineKeeps new.start run new.got new.site new.beat
engine_new first run new replies is lines fits =
    let keeps = engine_keeps first run replies new.before new.start is.copies lines fits in
    subst (λ (n : ℕ). EngineKeeps new.start run new.got new.site n) (sym is.beat)
    (subst (λ (s : SiteView). EngineKeeps new.start run new.got s new.start.disk.beat) (sym is.site)
    (subst (λ (l : List Parcel). EngineKeeps new.start run l new.start new.start.disk.beat) (sym is.got) keeps))

pub filters_new : (first : Ends) (new : End) (sent : List Parcel) → IsNew new → ((p : Parcel) → Contains new.before p → p.back ≡ true → IsAgent p.agent)
    → ((agent : ℕ) → IsAgent agent → (image : List ℕ) → IsLeft new.start.disk agent new.start.disk.beat image → StandsForActs image (FileFits first agent sent new.before))
    → FiltersKeep new.start new.got new.site new.beat
filters_new first new sent is agents fits =
    let keeps = filters_keep first sent new.before new.start is.copies agents fits in
    subst (λ (n : ℕ). FiltersKeep new.start new.got new.site n) (sym is.beat)
    (subst (λ (s : SiteView). FiltersKeep new.start new.got s new.start.disk.beat) (sym is.site)
    (subst (λ (l : List Parcel). FiltersKeep new.start l new.start new.start.disk.beat) (sym is.got) keeps))

journal_crashed : (first : Ends) (run : ℕ) (old f new : End) → Kept first run old f → Crashes IsJournal old new
    → (image : List ℕ) → IsLeft new.start.disk 0 new.start.disk.beat image → StandsFor image (JournalFits first run new.before (sent_by f))
journal_crashed first run old f new kept crash image left =
    let s = journal_now first run old (sent_by f) kept.engine kept.got_replies kept.journal image (crash.images 0 image refl left) in
    record { records = s.records; are = s.are; so = subst (λ (l : List Parcel). JournalFits first run l (sent_by f) s.records) (sym crash.before) s.so }

files_crashed : (first : Ends) (run : ℕ) (e old new : End) → Kept first run e old → Crashes IsAgent old new
    → (agent : ℕ) → IsAgent agent → (image : List ℕ) → IsLeft new.start.disk agent new.start.disk.beat image → StandsForActs image (FileFits first agent (sent_by e) new.before)
files_crashed first run e old new kept crash agent is_agent image left =
    let s = file_now first old (sent_by e) kept.filters kept.got_commands kept.files agent is_agent image (crash.images agent image is_agent left) in
    record { acts = s.acts; are = s.are; so = subst (λ (l : List Parcel). FileFits first agent (sent_by e) l s.acts) (sym crash.before) s.so }

lines_crashed : (run : ℕ) (old new : End) → EngineKeeps old.start run old.got old.site old.beat → Crashes IsJournal old new → IsSaidBefore old new
    → AnyJournal new.start new.start.disk.beat (LinesAreOfRecords plain new.start new.start.disk.beat)
lines_crashed run old new keeps crash before image records left are bytes said line =
    keeps.held.lines image records (crash.images 0 image refl left) are bytes (before bytes said) line

pushed : (P : Parcel → Type 0) (got : List Parcel) (parcel : Parcel) → ((p : Parcel) → Contains got p → P p) → P parcel → (p : Parcel) → Contains (got ++ parcel ∷ []) p → P p
pushed P got parcel each is p has = elim (Contains-push_cases got parcel p has) [ inl old ↦ each p old | inr same ↦ subst P same is ]

pub event_kept : (first : Ends) (run : ℕ) (old new : Ends) → Event run old new → Kept first run old.engine old.filters → Kept first run new.engine new.filters
event_kept first run old new (engine_steps {e} {f} next step keeps) kept = record {
  only_commands = commands_only run e next step keeps kept.only_commands;
  only_replies = kept.only_replies;
  agents = kept.agents;
  got_replies = λ p has. kept.got_replies p (subst (λ (l : List Parcel). Contains l p) step.got has);
  got_commands = λ p has. sent_later e next step p (kept.got_commands p has);
  journal = subst (λ (l : List Parcel). (image : List ℕ) → IsLeft next.start.disk 0 next.start.disk.beat image → StandsFor image (JournalFits first run l (sent_by f))) (sym step.before)
      (subst (λ (s : SiteView). (image : List ℕ) → IsLeft s.disk 0 s.disk.beat image → StandsFor image (JournalFits first run e.before (sent_by f))) (sym step.start) kept.journal);
  files = files_more first (sent_by e) (sent_by next) f.before f.start (sent_later e next step) kept.files;
  engine = keeps;
  filters = kept.filters;
}
event_kept first run old new (filters_step {e} {f} next step keeps) kept = record {
  only_commands = kept.only_commands;
  only_replies = replies_only f next step keeps kept.only_replies;
  agents = agents_only f next step keeps kept.agents;
  got_replies = λ p has. sent_later f next step p (kept.got_replies p has);
  got_commands = λ p has. kept.got_commands p (subst (λ (l : List Parcel). Contains l p) step.got has);
  journal = journal_more first run e.before (sent_by f) (sent_by next) e.start (sent_later f next step) kept.journal;
  files = subst (λ (l : List Parcel). (agent : ℕ) → IsAgent agent → (image : List ℕ) → IsLeft next.start.disk agent next.start.disk.beat image → StandsForActs image (FileFits first agent (sent_by e) l)) (sym step.before)
      (subst (λ (s : SiteView). (agent : ℕ) → IsAgent agent → (image : List ℕ) → IsLeft s.disk agent s.disk.beat image → StandsForActs image (FileFits first agent (sent_by e) f.before)) (sym step.start) kept.files);
  engine = kept.engine;
  filters = keeps;
}
event_kept first run old new (engine_crashes {e} {f} next crash before) kept =
    let same : sent_by next ≡ sent_by e = sent_same IsJournal e next crash in
    let journal = journal_crashed first run e f next kept crash in
    record {
      only_commands = λ p has. kept.only_commands p (subst (λ (l : List Parcel). Contains l p) same has);
      only_replies = kept.only_replies;
      agents = kept.agents;
      got_replies = λ p has. got_none _ next p crash.is_new.got has;
      got_commands = λ p has. subst (λ (l : List Parcel). Contains l p) (sym same) (kept.got_commands p has);
      journal = journal;
      files = files_more first (sent_by e) (sent_by next) f.before f.start (λ p has. subst (λ (l : List Parcel). Contains l p) (sym same) has) kept.files;
      engine = engine_new first run next (sent_by f) crash.is_new (lines_crashed run e next kept.engine crash before) journal;
      filters = kept.filters;
    }
event_kept first run old new (filters_crash {e} {f} next crash) kept =
    let same : sent_by next ≡ sent_by f = sent_same IsAgent f next crash in
    let files = files_crashed first run e f next kept crash in
    record {
      only_commands = kept.only_commands;
      only_replies = λ p has. kept.only_replies p (subst (λ (l : List Parcel). Contains l p) same has);
      agents = λ p has. kept.agents p (subst (λ (l : List Parcel). Contains l p) same has);
      got_replies = λ p has. subst (λ (l : List Parcel). Contains l p) (sym same) (kept.got_replies p has);
      got_commands = λ p has. got_none _ next p crash.is_new.got has;
      journal = journal_more first run e.before (sent_by f) (sent_by next) e.start (λ p has. subst (λ (l : List Parcel). Contains l p) (sym same) has) kept.journal;
      files = files;
      engine = kept.engine;
      filters = filters_new first next (sent_by e) crash.is_new (λ p has back. kept.agents p (subst (λ (l : List Parcel). Contains l p) crash.before has)) files;
    }
event_kept first run old new (engine_gets {e} {f} parcel sent) kept = record {
  only_commands = kept.only_commands;
  only_replies = kept.only_replies;
  agents = kept.agents;
  got_replies = pushed (λ p. Contains (sent_by f) p) e.got parcel kept.got_replies sent;
  got_commands = kept.got_commands;
  journal = kept.journal;
  files = kept.files;
  engine = more_is_got e.start run e.got (e.got ++ parcel ∷ []) e.site e.beat (λ p has. Contains-append_left e.got (parcel ∷ []) p has) kept.engine;
  filters = kept.filters;
}
event_kept first run old new (filters_get {e} {f} parcel sent) kept = record {
  only_commands = kept.only_commands;
  only_replies = kept.only_replies;
  agents = kept.agents;
  got_replies = kept.got_replies;
  got_commands = pushed (λ p. Contains (sent_by e) p) f.got parcel kept.got_commands sent;
  journal = kept.journal;
  files = kept.files;
  engine = kept.engine;
  filters = more_for_filters f.start f.got (f.got ++ parcel ∷ []) f.site f.beat (λ p has. Contains-append_left f.got (parcel ∷ []) p has) kept.filters;
}

pub events_kept : (first : Ends) (run : ℕ) (old new : Ends) → Events run old new → Kept first run old.engine old.filters → Kept first run new.engine new.filters
events_kept first run old new nothing kept = kept
events_kept first run old new (and_then {mid} events event) kept = event_kept first run mid new event (events_kept first run old mid events kept)
