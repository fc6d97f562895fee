-- From the parts of an audit to its verdict.
use Rattle.std.proofs.Common.{◌≡◌, inl, inr, ℕ, zero, suc, ◌<◌, ◌≤◌, List, [], ◌∷◌, length, take, Option, Some, None, refl, sym, ap, subst, ◌∙◌, arith, length-append}
use Rattle.std.proofs.lemmas.List.{length-map}
use Rattle.std.proofs.lemmas.Option.{slice_get_within, get_or_from_slice_get}
use Rattle.run_journal.specs.Image.{bytes_of}
use Rattle.run_journal.specs.Layout.{Stands, front}
use Rattle.run_journal.specs.declared.entries.Entry.{Entry}
use Rattle.run_journal.proofs.Headers.{count-le}
use Rattle.run_journal.proofs.LayoutLaws.{no_list_where_damaged, one_list}
use Rattle.run_records.specs.Lists.{all_read}
use Rattle.run_records.specs.Ranges.{ActInRange, InRange}
use Rattle.run_records.specs.Reading.{act_of, record_of}
use Rattle.run_records.specs.declared.record.Record.{Record}
use Rattle.run_records.specs.declared.record.Record.TheVariants as entry
use Rattle.run_records.specs.declared.act.Act.{Act}
use Rattle.flow_core.specs.Views.{View}
use Rattle.flow_laws.specs.Agree.{Agree}
use Rattle.flow_laws.specs.Images.{IsActs, IsAgent}
use Rattle.flow_laws.specs.Journals.{IsJournalRun}
use Rattle.flow_laws.proofs.OneList.{same_records}
use Rattle.flow_audit.specs.Breaks.{ActsFit, BreaksActs, IsWithinTasks, PassesTasks, RepliesHaveActs}
use Rattle.flow_audit.specs.Files.{AreRead, IsBadFile, IsFirstBadFile, IsGate, IsUnreadable, acts_of, gate_of, image_of}
use Rattle.flow_audit.specs.Parts.{ActOnce, AllActsFit, AreActFiles, AreFew, AreFilters, IsFileOf, IsFlowOf, IsWithin, StopsAudit, StopsFilters, StopsReading, StopsReplies, StopsRun, lists_of}
use Rattle.flow_audit.specs.declared.reading.ActFile.{ActFile}
use Rattle.flow_audit.specs.declared.verdict.Stop.{Stop}
use Rattle.flow_audit.specs.declared.verdict.Stop.TheVariants as stop
use Rattle.flow_audit.proofs.ActLemmas.{are_acts}
use Rattle.flow_audit.proofs.FilterLemmas.{lists_at}
use Rattle.flow_audit.proofs.ListLemmas.{get_there, place_of, take_get}
use Rattle.flow_audit.proofs.ReadLemmas.{many_read, read_at}
use Rattle.flow_audit.proofs.RunLemmas.{as_journal, inner_run, within_none, within_whole}

-- ---- what was read

-- the entries of an image can be counted
pub few_items : (image : List ℕ) (items : List (List ℕ)) → Stands image items → length items < 67_108_864
few_items image items (inl short) = omega (arith, ap length short.1)
few_items image items (inr long) =
    let layout = long.1 in
    omega (arith, count-le items, ap length layout.closed.is, length-append (front items) (layout.closed.gate ∷ layout.closed.rest), layout.within)

module _ {A : Type 0} (read : List ℕ → Option A) (InRange : A → Type 0) (image : List ℕ) (entries : List Entry) (values : List A) (is : IsFileOf read InRange image entries values) where
  pub few_values : length values < 67_108_864
  few_values = omega (arith, few_items image (bytes_of entries) is.stands, length-map entries (λ (e : Entry). e.bytes), many_read read InRange image entries values is)

  pub gate_at : (n place : ℕ) → place ≡ gate_of (bytes_of entries) n → IsGate image n place
  gate_at n place at = record { entries = bytes_of entries; stands = is.stands; at = at }

pub act_files : (files : List (List ℕ)) (filters : List ActFile) → AreFilters files 16 filters → AreActFiles filters
act_files files filters are k f there =
    let is = are.each k f there in
    record {
      placed = is.placed;
      many = many_read act_of ActInRange (image_of files (suc k)) f.entries f.acts.items is;
      ranges = is.ranges;
      few = few_values act_of ActInRange (image_of files (suc k)) f.entries f.acts.items is;
    }

pub are_few : (files : List (List ℕ)) (filters : List ActFile) → AreFilters files 16 filters → AreFew filters
are_few files filters are k d lt =
    let f = get_there filters k lt in
    subst (λ (x : ActFile). length x.acts.items < 67_108_864) (sym (get_or_from_slice_get filters k f.0 d f.1)) (act_files files filters are k f.0 f.1).few

module _ (files : List (List ℕ)) (entries : List Entry) (records : List Record) (filters : List ActFile) (journal : IsFileOf record_of InRange (image_of files 0) entries records) (are : AreFilters files 16 filters) where
  filter_read : (agent : ℕ) → IsAgent agent → IsActs (image_of files agent) (acts_of (lists_of filters) agent)
  filter_read zero h = absurd (omega (arith, h.0))
  filter_read (suc k) h =
      let f = get_there filters k (omega (arith, h.1, are.many)) in
      let is = are.each k f.0 f.1 in
      subst (λ (l : List Act). IsActs (image_of files (suc k)) l) (sym (lists_at filters k f.0 f.1)) (record { entries = bytes_of f.0.entries; stands = is.stands; reads = is.reads })

  pub all_are_read : AreRead files records (lists_of filters)
  all_are_read = record {
    journal = record { entries = bytes_of entries; stands = journal.stands; reads = journal.reads };
    many = length-map filters (λ (f : ActFile). f.acts.items) ∙ are.many;
    filters = filter_read;
  }

-- ---- files without a reading

module _ {A : Type 0} where
  pub not_unreadable : (read : List ℕ → Option A) (image : List ℕ) (place : ℕ) (entries : List (List ℕ)) (values : List A) → Stands image entries → all_read read entries ≡ Some values → IsUnreadable read image place → ⊥
  not_unreadable read image place entries values stands reads (inl damaged) = no_list_where_damaged image place entries damaged stands
  not_unreadable read image place entries values stands reads (inr stray) =
      let same : stray.entries ≡ entries = one_list image stray.entries entries stray.stands stands in
      read_at read stray.entries values stray.n stray.stray (ap (all_read read) same ∙ reads) stray.there stray.unread

pub not_bad : (files : List (List ℕ)) (file place : ℕ) (records : List Record) (lists : List (List Act)) → AreRead files records lists → IsFirstBadFile files file place → ⊥
not_bad files file place records lists are bad = by file bad.within bad.bad
  where
    by : (f : ℕ) → f ≤ 16 → IsBadFile files f place → ⊥
    by zero le h = not_unreadable record_of (image_of files 0) place are.journal.entries records are.journal.stands are.journal.reads h
    by (suc k) le h =
        let acts = are.filters (suc k) (omega arith, le) in
        not_unreadable act_of (image_of files (suc k)) place acts.entries (acts_of lists (suc k)) acts.stands acts.reads h

-- ---- the run

pub flow_runs : (records : List Record) (o : Option View) → IsFlowOf records o → IsJournalRun records
flow_runs records None is = subst IsJournalRun (sym is) tt
flow_runs records (Some v) is = as_journal records (inner_run records v is)

pub flow_within : (records : List Record) (o : Option View) → IsFlowOf records o → IsWithinTasks records
flow_within records None is = subst IsWithinTasks (sym is) within_none
flow_within records (Some v) is = within_whole records v is

pub is_within : (files : List (List ℕ)) (records : List Record) (lists : List (List Act)) → AreRead files records lists → IsWithinTasks records → IsWithin files
is_within files records lists are within place p =
    within p.n (subst (λ (l : List Record). PassesTasks l p.n) (same_records (image_of files 0) p.records records p.are.journal are.journal) p.passes)

pub bad_within : (files : List (List ℕ)) (file place : ℕ) → IsFirstBadFile files file place → IsWithin files
bad_within files file place bad at p = not_bad files file place p.records p.lists p.are bad

-- ---- each way to stop

pub stops_reading : (files : List (List ℕ)) (s : Stop) → StopsReading files s → StopsAudit files s
stops_reading files (stop.No file place) bad = (inl bad, bad_within files file place bad)
stops_reading files (stop.Tasks place) h = absurd h
stops_reading files stop.Memory h = tt

module _ (files : List (List ℕ)) (entries : List Entry) (records : List Record) (filters : List ActFile) (journal : IsFileOf record_of InRange (image_of files 0) entries records) (are : AreFilters files 16 filters) where
  gate_zero : (file n place : ℕ) → file ≡ 0 → place ≡ gate_of (bytes_of entries) n → IsGate (image_of files file) n place
  gate_zero file n place is at =
      subst (λ f. IsGate (image_of files f) n place) (sym is) (gate_at record_of InRange (image_of files 0) entries records journal n place at)

  pub stops_run : (s : Stop) → StopsRun (bytes_of entries) records s → StopsAudit files s
  stops_run (stop.No file place) (is, (n, breaks, within, at)) =
      let read = all_are_read files entries records filters journal are in (
        inr (record { records = records; lists = lists_of filters; n = n; are = read; breaks = inl (is, breaks); at = gate_zero file n place is at }),
        is_within files records (lists_of filters) read within,
      )
  stops_run (stop.Tasks place) (n, passes, at) = record {
    records = records;
    lists = lists_of filters;
    n = n;
    are = all_are_read files entries records filters journal are;
    passes = passes;
    at = gate_zero 0 n place refl at;
  }
  stops_run stop.Memory h = tt

  module _ (o : Option View) (flow : IsFlowOf records o) where
    fits_before : (k : ℕ) → k ≤ 16 → AllActsFit records (take k filters) → (agent : ℕ) → IsAgent agent → agent < suc k → ActsFit records agent (acts_of (lists_of filters) agent)
    fits_before k le fit zero h lt = absurd (omega (arith, h.0))
    fits_before k le fit (suc j) h lt =
        let f = get_there filters j (omega (arith, h.1, are.many)) in
        subst (ActsFit records (suc j)) (sym (lists_at filters j f.0 f.1)) (fit j f.0 (take_get filters k j f.0 (omega (arith, lt)) f.1))

    fits_all : AllActsFit records filters → (agent : ℕ) → IsAgent agent → ActsFit records agent (acts_of (lists_of filters) agent)
    fits_all fit zero h = absurd (omega (arith, h.0))
    fits_all fit (suc j) h =
        let f = get_there filters j (omega (arith, h.1, are.many)) in
        subst (ActsFit records (suc j)) (sym (lists_at filters j f.0 f.1)) (fit j f.0 f.1)

    pub stops_filters : (s : Stop) → StopsFilters records filters s → StopsAudit files s
    stops_filters (stop.No file place) b =
        let read = all_are_read files entries records filters journal are in
        let lt : b.k < length filters = slice_get_within filters b.k b.f b.there in
        let is_agent : IsAgent file = (omega (arith, b.file_is), omega (arith, b.file_is, lt, are.many)) in
        let acts_are : acts_of (lists_of filters) file ≡ b.f.acts.items = ap (acts_of (lists_of filters)) b.file_is ∙ lists_at filters b.k b.f b.there in
        let gate : IsGate (image_of files (suc b.k)) b.n place =
        gate_at act_of ActInRange (image_of files (suc b.k)) b.f.entries b.f.acts.items (are.each b.k b.f b.there) b.n place b.at in (
          inr (record {
            records = records;
            lists = lists_of filters;
            n = b.n;
            are = read;
            breaks = inr (inl (
              flow_runs records o flow,
              is_agent,
              subst (λ (l : List Act). BreaksActs records file l b.n) (sym acts_are) b.breaks,
              λ agent h before. fits_before b.k (omega (arith, lt, are.many)) b.before agent h (omega (arith, before, b.file_is)),
            ));
            at = subst (λ f. IsGate (image_of files f) b.n place) (sym b.file_is) gate;
          }),
          is_within files records (lists_of filters) read (flow_within records o flow),
        )
    stops_filters (stop.Tasks place) h = absurd h
    stops_filters stop.Memory h = tt

    module _ (fit : AllActsFit records filters) where
      pub stops_replies : (s : Stop) → StopsReplies (bytes_of entries) records (acts_of (lists_of filters)) s → StopsAudit files s
      stops_replies (stop.No file place) (is, (n, lacks, at)) =
          let read = all_are_read files entries records filters journal are in (
            inr (record {
              records = records;
              lists = lists_of filters;
              n = n;
              are = read;
              breaks = inr (inr (is, flow_runs records o flow, fits_all fit, lacks));
              at = gate_zero file n place is at;
            }),
            is_within files records (lists_of filters) read (flow_within records o flow),
          )
      stops_replies (stop.Tasks place) h = absurd h
      stops_replies stop.Memory h = tt

      pub all_within : IsWithin files
      all_within = is_within files records (lists_of filters) (all_are_read files entries records filters journal are) (flow_within records o flow)

      -- all agrees
      pub all_agree : RepliesHaveActs records (acts_of (lists_of filters)) records → Agree records (acts_of (lists_of filters)) []
      all_agree have = record {
        is_run = flow_runs records o flow;
        acts_once = λ agent h. are_acts records agent (acts_of (lists_of filters) agent) (fits_all fit agent h);
        replies = λ at parcel has back. absurd (omega (arith, has.1));
        commands = λ at parcel has forth of_run. absurd (omega (arith, has.1));
        acts_sent = λ agent act h has of_run.
            let at = place_of (acts_of (lists_of filters) agent) act has in
            (fits_all fit agent h at.0 act at.1).sent of_run;
        answers = λ run issue moment status rule text of_run has.
            let at = place_of records (entry.Reply issue moment status rule text) has in
            have at.0 (entry.Reply issue moment status rule text) at.1 run of_run;
      }

pub act_once : (records : List Record) (filters : List ActFile) → AllActsFit records filters → ActOnce filters
act_once records filters fit k f there = are_acts records (suc k) f.acts.items (fit k f there)
