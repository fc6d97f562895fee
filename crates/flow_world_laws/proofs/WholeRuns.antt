-- An image that stands for a run is not damaged, whoever opens it.
use Rattle.std.proofs.Common.{◌≡◌, inl, inr, ℕ, ◌<◌, ◌≤◌, List, [], ◌∷◌, ◌++◌, Some, None, sym, ◌∙◌, subst, ap, arith}
use Rattle.std.proofs.lemmas.Option.{none-some}
use Rattle.cacao_check.specs.Fits.{FitsKind}
use Rattle.run_journal.proofs.LayoutLaws.{no_list_where_damaged, one_list}
use Rattle.run_records.specs.Layout.{layout}
use Rattle.run_records.specs.Lists.{records as records_in}
use Rattle.run_records.specs.Ranges.{InRange, last_moment}
use Rattle.run_records.specs.Reading.{record_of}
use Rattle.run_records.specs.declared.record.Record.{Record}
use Rattle.run_records.specs.declared.record.Record.TheVariants as entry
use Rattle.run_records.proofs.ReadLemmas.{record_again}
use Rattle.flow_core_rules.specs.Accepted.{Accepted, IsRunOf}
use Rattle.flow_core_rules.specs.Changes.{change, moment_of}
use Rattle.flow_core_rules.specs.Givens.{Given}
use Rattle.flow_core_rules.specs.Runs.{GoesOn, Leads, Next, begin_of}
use Rattle.flow_core_rules.specs.State.{Shown, State, shown}
use Rattle.flow_core_rules.proofs.RunLemmas.{list_heads, run_one, some_inner}
use Rattle.flow_core.specs.Setups.{AreAccepted}
use Rattle.flow_laws.specs.Images.{IsRecords}
use Rattle.flow_laws.specs.Journals.{IsJournalRun}
use Rattle.flow_world_steps.specs.Histories.{IsShownAfter}
use Rattle.flow_world_steps.specs.Openings.{BreaksOff, RefusesEntries, RefusesImage}
use Rattle.flow_world_steps.specs.EngineError.TheVariants as refused
use Rattle.flow_engine_reports.specs.RunFiles.{IsBegin}
use Rattle.flow_engine_reports.specs.RunFiles as run_file
use Rattle.flow_engine_reports.proofs.AcceptLemmas.{accepted-one}
use Rattle.flow_world_laws.proofs.Cutting.{Halves, cut, halves, heads}

-- ---- the Begin of a run

abbrev run_in : Record → ℕ
run_in (entry.Begin run moment books bind) = run
run_in other = 0

abbrev texts_in : Record → List (List ℕ)
texts_in (entry.Begin run moment books bind) = books
texts_in other = []

abbrev bind_in : Record → List ℕ
bind_in (entry.Begin run moment books bind) = bind
bind_in other = []

is_run_of : (records : List Record) (r : Record) (others : List Record) → records ≡ r ∷ others → IsJournalRun records → IsRunOf AreAccepted FitsKind records
is_run_of records r others e is = subst (λ (l : List Record). IsRunOf AreAccepted FitsKind l) (sym e) (subst IsJournalRun e is)

-- the first entry of a run is its Begin
record BegunBy (first : List ℕ) : Type 0 where
  given : Given
  run : ℕ
  begin : IsBegin first given run

begun_by : (first : List ℕ) (others : List (List ℕ)) (records : List Record) → records_in (first ∷ others) ≡ Some records → IsJournalRun records → BegunBy first
begun_by first others records reads is =
    let h = heads (record_of first) (records_in others) records reads in
    let of = is_run_of records h.it h.others h.is is in
    let l : Leads of.given of.run records of.state = of.leads in
    let same = list_heads h.it (begin_of of.given of.run l.now) h.others l.others (sym h.is ∙ l.records_are) in
    record {
      given = of.given;
      run = of.run;
      begin = record { moment = l.now; reads = h.reads ∙ ap (λ (r : Record). Some r) same.0; in_time = l.in_time; accepted = of.accepted };
    }

-- ---- a run goes on to its end

-- records that lead on by what was given lead by that of a longer run, which is the same
given_is : (given : Given) (run now : ℕ) (of : Given) (number later : ℕ) → begin_of of number later ≡ begin_of given run now → Accepted AreAccepted FitsKind of.texts of.bind of
    → Accepted AreAccepted FitsKind given.texts given.bind given → of ≡ given
given_is given run now of number later e held accepted =
    accepted-one given.texts given.bind of given
    (subst (λ (b : List ℕ). Accepted AreAccepted FitsKind given.texts b of) (ap bind_in e) (subst (λ (ts : List (List ℕ)). Accepted AreAccepted FitsKind ts of.bind of) (ap texts_in e) held)) accepted

-- the record behind a front of the run may come next
may_come : (given : Given) (run : ℕ) (front records : List Record) (r : Record) (back : List Record) (state end : State) → Leads given run front state → Leads given run records end → records ≡ front ++ r ∷ back
    → change (shown state) r ≡ None → ⊥
may_come given run front records r back state end k l e none =
    let whole : begin_of given run l.now ∷ l.others ≡ begin_of given run k.now ∷ (k.others ++ r ∷ back) =
    sym l.records_are ∙ e ∙ ap (λ (x : List Record). x ++ r ∷ back) k.records_are in
    let parts = list_heads (begin_of given run l.now) (begin_of given run k.now) l.others (k.others ++ r ∷ back) whole in
    let c : Halves l.first k.others (r ∷ back) end = halves k.others (r ∷ back) l.first end (subst (λ (x : List Record). GoesOn l.first x end) parts.1 l.goes_on) in
    let there : Leads given run front c.mid = record {
      now = l.now;
      others = k.others;
      first = l.first;
      in_time = l.in_time;
      records_are = k.records_are ∙ ap (λ (x : Record). x ∷ k.others) (sym parts.0);
      begins = l.begins;
      goes_on = c.before;
    } in
    let g = c.behind in
    let n : Next c.mid r g.0 = g.1 in
    let same : c.mid ≡ state = run_one given run front c.mid state there k in
    none-some n.edits (sym none ∙ ap (λ (s : State). change (shown s) r) (sym same) ∙ n.change_is)

-- and so it is by what the front was given
no_break : (given : Given) (run : ℕ) (front records : List Record) (seen : Shown) (r : Record) (back : List Record) → IsRunOf AreAccepted FitsKind records → Accepted AreAccepted FitsKind given.texts given.bind given
    → IsShownAfter given run front seen → records ≡ front ++ r ∷ back → change seen r ≡ None → ⊥
no_break given run front records seen r back of accepted after e none =
    let l : Leads of.given of.run records of.state = of.leads in
    let k : Leads given run front after.state = after.leads in
    let whole : begin_of of.given of.run l.now ∷ l.others ≡ begin_of given run k.now ∷ (k.others ++ r ∷ back) =
    sym l.records_are ∙ e ∙ ap (λ (x : List Record). x ++ r ∷ back) k.records_are in
    let first = (list_heads (begin_of of.given of.run l.now) (begin_of given run k.now) l.others (k.others ++ r ∷ back) whole).0 in
    let same : of.given ≡ given = given_is given run k.now of.given of.run l.now first of.accepted accepted in
    let number : of.run ≡ run = ap run_in first in
    let here : Leads given run records of.state =
    subst (λ (n : ℕ). Leads given n records of.state) number (subst (λ (g : Given). Leads g of.run records of.state) same l) in
    may_come given run front records r back after.state of.state k here e (ap (λ (s : Shown). change s r) (sym after.is) ∙ none)

run_of_front : (given : Given) (run : ℕ) (front records : List Record) (seen : Shown) (r : Record) (back : List Record) → IsShownAfter given run front seen → records ≡ front ++ r ∷ back → IsJournalRun records
    → IsRunOf AreAccepted FitsKind records
run_of_front given run front records seen r back after e is =
    let k : Leads given run front after.state = after.leads in
    is_run_of records (begin_of given run k.now) (k.others ++ r ∷ back) (e ∙ ap (λ (x : List Record). x ++ r ∷ back) k.records_are) is

none_breaks_off : (given : Given) (run : ℕ) (entries : List (List ℕ)) (records : List Record) (place : ℕ) → records_in entries ≡ Some records → IsJournalRun records
    → Accepted AreAccepted FitsKind given.texts given.bind given → BreaksOff given run entries place → ⊥
none_breaks_off given run entries records place reads is accepted b =
    let g = b.goes_on in
    let c = cut record_of layout InRange record_again b.records records b.next g.others g.ranges (subst (λ (l : List (List ℕ)). records_in l ≡ Some records) g.are reads) in
    no_break given run b.records records b.seen c.it c.back (run_of_front given run b.records records b.seen c.it c.back g.shows c.is is) accepted g.shows c.is (b.bad c.it c.reads)

-- ---- entries and images

begin_in_time : (run moment number now : ℕ) (books texts : List (List ℕ)) (bind bound : List ℕ) → entry.Begin run moment books bind ≡ entry.Begin number now texts bound → now ≤ last_moment → last_moment < moment → ⊥
begin_in_time run moment number now books texts bind bound e le late = let same : moment ≡ now = ap moment_of e in omega (arith, same, le, late)

entries_undamaged : (given : Given) (run : ℕ) (entries : List (List ℕ)) (records : List Record) (place : ℕ) → records_in entries ≡ Some records → IsJournalRun records
    → Accepted AreAccepted FitsKind given.texts given.bind given → RefusesEntries given run entries (refused.Damaged place) → ⊥
entries_undamaged given run entries records place reads is accepted (inl (b, at)) =
    let f = begun_by b.first b.others records (subst (λ (l : List (List ℕ)). records_in l ≡ Some records) b.are reads) is in
    b.no_begin f.run f.begin.moment f.given.texts f.given.bind f.begin.reads
entries_undamaged given run entries records place reads is accepted (inr (inl ((moment, b, late), at))) =
    let f = begun_by b.first b.others records (subst (λ (l : List (List ℕ)). records_in l ≡ Some records) b.are reads) is in
    let g = f.given in
    begin_in_time run moment f.run f.begin.moment given.texts g.texts given.bind g.bind
    (some_inner (entry.Begin run moment given.texts given.bind) (begin_of g f.run f.begin.moment) (sym b.reads ∙ f.begin.reads)) f.begin.in_time late
entries_undamaged given run entries records place reads is accepted (inr (inr b)) = none_breaks_off given run entries records place reads is accepted b

reads_as : (image : List ℕ) (records : List Record) (is : IsRecords image records) (entries : List (List ℕ)) → is.entries ≡ entries → records_in entries ≡ Some records
reads_as image records is entries e = subst (λ (l : List (List ℕ)). records_in l ≡ Some records) e is.reads

-- where the journal is opened for a run of what is accepted
pub run_undamaged : (given : Given) (run : ℕ) (image : List ℕ) (records : List Record) (place : ℕ) → IsRecords image records → IsJournalRun records → Accepted AreAccepted FitsKind given.texts given.bind given
    → RefusesImage given run image (refused.Damaged place) → ⊥
run_undamaged given run image records place is so accepted (inl d) = no_list_where_damaged image d.place is.entries d.damaged is.stands
run_undamaged given run image records place is so accepted (inr r) =
    entries_undamaged given run r.entries records place (reads_as image records is r.entries (one_list image is.entries r.entries is.stands r.stands)) so accepted r.refuses

-- where its run is reported
report_breaks : (entries : List (List ℕ)) (records : List Record) (place : ℕ) → records_in entries ≡ Some records → IsJournalRun records → run_file.BreaksOff entries place → ⊥
report_breaks entries records place reads is (inl (b, at)) =
    let f = begun_by b.first b.others records (subst (λ (l : List (List ℕ)). records_in l ≡ Some records) b.are reads) is in
    b.bad f.given f.run f.begin
report_breaks entries records place reads is (inr b) = entries_undamaged b.given b.run entries records place reads is b.begins.begin.accepted b.refuses

pub report_undamaged : (image : List ℕ) (records : List Record) (place : ℕ) → IsRecords image records → IsJournalRun records → run_file.IsDamaged image place → ⊥
report_undamaged image records place is so (inl damaged) = no_list_where_damaged image place is.entries damaged is.stands
report_undamaged image records place is so (inr (entries, stands, breaks)) =
    report_breaks entries records place (reads_as image records is entries (one_list image is.entries entries is.stands stands)) so breaks
