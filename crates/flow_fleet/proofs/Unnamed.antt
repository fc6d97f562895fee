-- What a run sees of a rack through a loan, and what it sees but for the loan's name, are the same.
use Rattle.std.proofs.Common.{◌≡◌, ◌≢◌, ℕ, Bool, true, false, List, refl, sym, ◌∙◌, subst, ap}
use Rattle.std.specs.Prelude.{IfErr, IfOk, OnErr, OnOk, Result, Ok, Err}
use Rattle.cacao_site.specs.DiskCalls.{GoesOn, KeepsDisk, OnlyFile, StaysAt}
use Rattle.cacao_site.specs.RunViews.{seen_from as lent_from}
use Rattle.cacao_site.specs.Seen.{same_label, same_name, same_place}
use Rattle.cacao_site.specs.SiteCalls.{Puts}
use Rattle.cacao_site.specs.View.{SiteView}
use Rattle.cacao_site.specs.declared.parcel.Parcel.{Parcel}
use Rattle.run_records.specs.declared.record.Record.{Record}
use Rattle.flow_core_rules.specs.Givens.{Given}
use Rattle.flow_engine_history.specs.HistoryCalls.{Offers}
use Rattle.flow_engine_history.specs.HistoryView.{HistoryView, IsReady}
use Rattle.flow_engine_history.specs.Openings.{IsRefusedOpening}
use Rattle.flow_engine_history.specs.declared.error.EngineError.{EngineError}
use Rattle.flow_engine_history.specs.declared.error.EngineError.TheVariants as refused
use Rattle.flow_engine.specs.EngineCalls.{Appends, Refused, Sends}
use Rattle.flow_engine.specs.EngineView.{EngineView}
use Rattle.flow_world_parts.specs.Errors.{opening_refusal}
use Rattle.flow_world_parts.specs.Openings.{IsJournalOpen, OpensFile, RefusesJournal}
use Rattle.flow_world_parts.specs.declared.error.WorldError.{WorldError}
use Rattle.flow_fleet_laws.specs.Views.{seen_from}

-- ---- calls, with the name of the loan and without

module _ (place name : ℕ) (a b : SiteView) (label : b.disk.label ≡ a.disk.label) where
  abbrev Old : SiteView
  Old = lent_from place name a

  abbrev New : SiteView
  New = lent_from place name b

  pub goes_on : GoesOn Old.disk New.disk → GoesOn (seen_from place a).disk (seen_from place b).disk
  goes_on on = record { told = on.told; later = on.later; past = on.past; calls = on.calls; written = on.written; faults = on.faults; label = label }

  stays : (file : ℕ) → StaysAt Old.disk New.disk file → StaysAt (seen_from place a).disk (seen_from place b).disk file
  stays file is = record { reads = is.reads; images = is.images }

  keeps : KeepsDisk Old.disk New.disk → KeepsDisk (seen_from place a).disk (seen_from place b).disk
  keeps is = record { goes_on = goes_on is.goes_on; stays = λ file. stays file (is.stays file); written = is.written; faults = is.faults }

  pub only : (P : List ℕ → Type 0) → OnlyFile 0 Old New P → OnlyFile 0 (seen_from place a) (seen_from place b) P
  only P is = record {
    each = record { goes_on = goes_on is.each.goes_on; each = is.each.each };
    others = λ other ne. stays other (is.others other ne);
    rest = record { link = is.rest.link; clock = is.rest.clock; counts = is.rest.counts };
  }

  pub puts : (parcel : Parcel) → Puts parcel Old New → Puts parcel (seen_from place a) (seen_from place b)
  puts parcel is = record {
    disk = record { disk = keeps is.disk.disk; calls = is.disk.calls; says = is.disk.says };
    time = is.time;
    unsaid = is.unsaid;
    mishaps = is.mishaps;
    puts = is.puts;
    arrives = is.arrives;
    pending = is.pending;
    taken = is.taken;
    empty_takes = is.empty_takes;
    said = is.said;
  }

  abbrev pub offers : (h : HistoryView) (IsNext : Record → Type 0) → Offers h IsNext Old New → Offers h IsNext (seen_from place a) (seen_from place b)
  offers h IsNext is = record {
    comes = is.comes;
    in_range = is.in_range;
    within = is.within;
    whole = is.whole;
    file = only _ is.file;
    calls = is.calls;
    written = is.written;
  }

  pub appends : (v w : EngineView) (IsNext : Record → Type 0) → Appends v w IsNext Old New → Appends v w IsNext (seen_from place a) (seen_from place b)
  appends v w IsNext is = record {
    adds = record { offers = offers v.history IsNext is.adds.offers; steady = is.adds.steady; view = is.adds.view };
    puts = is.puts;
  }

  pub sends : (v w : EngineView) (issue moment : ℕ) → Sends v w issue moment Old New → Sends v w issue moment (seen_from place a) (seen_from place b)
  sends v w issue moment is = record { whole = is.whole; it = is.it; is_open = is.is_open; put = puts _ is.put; view = is.view }

  opens_file : OpensFile 0 Old New → OpensFile 0 (seen_from place a) (seen_from place b)
  opens_file is = record { only = only _ is.only; calls = is.calls; written = is.written }

  pub journal_open : (given : Given) (run : ℕ) (v : EngineView) → IsJournalOpen given run Old New v → IsJournalOpen given run (seen_from place a) (seen_from place b) v
  journal_open given run v is = record {
    opens = opens_file is.opens;
    steady = is.steady;
    reads = is.reads;
    whole = record { engine = record { ready = is.whole.engine.ready; history = is.whole.engine.history; put = is.whole.engine.put }; whole = is.whole.whole };
    given_is = is.given_is;
    of_run = is.of_run;
    no_puts = is.no_puts;
    durable = is.durable;
    stands = is.stands;
    prepared = is.prepared;
  }

  refused_opening : (given : Given) (run : ℕ) (why : EngineError) → IsRefusedOpening given run why Old New → IsRefusedOpening given run why (seen_from place a) (seen_from place b)
  refused_opening given run refused.Disk is = is
  refused_opening given run (refused.OtherRun held asked) is = is
  refused_opening given run (refused.Limit what) is = is
  refused_opening given run (refused.Damaged at) is = is
  refused_opening given run (refused.OtherBook index) is = is
  refused_opening given run refused.Memory is = is
  refused_opening given run refused.Broken is = is

  pub refuses_journal : (error : WorldError) (given : Given) (run : ℕ) → RefusesJournal error given run Old New → RefusesJournal error given run (seen_from place a) (seen_from place b)
  refuses_journal error given run is = record {
    opens = opens_file is.opens;
    why = is.why;
    refused = refused_opening given run is.why is.refused;
    is = is.is;
    steady = is.steady;
    reads = is.reads;
  }

-- equal views are of equal racks
same_seen : (place name : ℕ) (a b : SiteView) → b.disk.label ≡ a.disk.label → lent_from place name b ≡ lent_from place name a → seen_from place b ≡ seen_from place a
same_seen place name a b label same =
    ap (λ (s : SiteView). record s { disk = record s.disk { label = b.disk.label } }) same
    ∙ ap (λ (l : List ℕ). record (seen_from place a) { disk = record (seen_from place a).disk { label = l } }) label

refuses : (place name : ℕ) (a b : SiteView) → b.disk.label ≡ a.disk.label → (v w : EngineView) (IsNext : Record → Type 0) (error : EngineError)
    → Refused v w IsNext error (lent_from place name a) (lent_from place name b) → Refused v w IsNext error (seen_from place a) (seen_from place b)
refuses place name a b label v w IsNext refused.Disk is = ((offers place name a b label v.history IsNext is.0.0, is.0.1, is.0.2), is.1)
refuses place name a b label v w IsNext (refused.Limit what) is = ((is.0.0, is.0.1, same_seen place name a b label is.0.2), is.1)
refuses place name a b label v w IsNext refused.Broken is = ((is.0.0, is.0.1, same_seen place name a b label is.0.2), is.1)
refuses place name a b label v w IsNext refused.Memory is = ((is.0.0, is.0.1, same_seen place name a b label is.0.2), is.1)
refuses place name a b label v w IsNext (refused.Damaged at) is = absurd is.0
refuses place name a b label v w IsNext (refused.OtherRun held other) is = absurd is.0
refuses place name a b label v w IsNext (refused.OtherBook index) is = absurd is.0

-- ---- before a call through a view

-- a journal that is ready as the run sees the rack is ready through the loan
pub ready_lent : (h : HistoryView) (asked place name : ℕ) (before a : SiteView) → place ≡ asked → a ≡ before → IsReady h (seen_from asked before) → IsReady h (lent_from place name a)
ready_lent h asked place name before a is was ready =
    subst (λ (s : SiteView). IsReady h (lent_from place name s)) (sym was) (subst (λ (p : ℕ). IsReady h (lent_from p name before)) (sym is) ready)

-- ---- behind a call through a view

-- the rack was lent from this place, under a name that is known again, and what came back is what the view left
pub record IsLent (asked place name place' name' : ℕ) (before a b after : SiteView) : Type 0 where
  pub is : place ≡ asked
  pub was : a ≡ before
  pub end : name' ≡ name → after ≡ b

module _ (asked place name place' name' : ℕ) (before a b after : SiteView) (lent : IsLent asked place name place' name' before a b after) where
  abbrev At : SiteView
  At = lent_from place name a

  abbrev To : SiteView
  To = lent_from place' name' b

  there : (P : SiteView → SiteView → Type 0) → To.disk.label ≡ At.disk.label → P At To → P (lent_from asked name before) (lent_from asked name after)
  there P label p =
      let one = subst (λ (q : ℕ). P (lent_from place name a) (lent_from q name' b)) (same_place _ _ _ _ _ _ label) p in
      let two = subst (λ (n : ℕ). P (lent_from place name a) (lent_from place n b)) (same_name _ _ _ _ _ _ label) one in
      let three = subst (λ (q : ℕ). P (lent_from q name a) (lent_from q name b)) lent.is two in
      let four = subst (λ (s : SiteView). P (lent_from asked name s) (lent_from asked name b)) lent.was three in
      subst (λ (s : SiteView). P (lent_from asked name before) (lent_from asked name s)) (sym (lent.end (same_name _ _ _ _ _ _ label))) four

  same : To.disk.label ≡ At.disk.label → after.disk.label ≡ before.disk.label
  same label = ap (λ (s : SiteView). s.disk.label) (lent.end (same_name _ _ _ _ _ _ label)) ∙ same_label _ _ _ _ _ _ label ∙ ap (λ (s : SiteView). s.disk.label) lent.was

  ready_there : (h : HistoryView) → To.disk.label ≡ At.disk.label → IsReady h To → IsReady h (seen_from asked after)
  ready_there h label ready = there (λ (x y : SiteView). IsReady h y) label ready

  pub appends_back : (v w : EngineView) (IsNext : Record → Type 0) → Appends v w IsNext At To → Appends v w IsNext (seen_from asked before) (seen_from asked after)
  appends_back v w IsNext is =
      let label = is.adds.offers.file.each.goes_on.label in
      appends asked name before after (same label) v w IsNext (there (λ (x y : SiteView). Appends v w IsNext x y) label is)

  pub sends_back : (v w : EngineView) (issue moment : ℕ) → Sends v w issue moment At To → Sends v w issue moment (seen_from asked before) (seen_from asked after)
  sends_back v w issue moment is =
      let label = is.put.disk.disk.goes_on.label in
      sends asked name before after (same label) v w issue moment (there (λ (x y : SiteView). Sends v w issue moment x y) label is)

  refused_label : (v w : EngineView) (IsNext : Record → Type 0) (error : EngineError) → Refused v w IsNext error At To → To.disk.label ≡ At.disk.label
  refused_label v w IsNext refused.Disk is = is.0.0.file.each.goes_on.label
  refused_label v w IsNext (refused.Limit what) is = ap (λ (s : SiteView). s.disk.label) is.0.2
  refused_label v w IsNext refused.Broken is = ap (λ (s : SiteView). s.disk.label) is.0.2
  refused_label v w IsNext refused.Memory is = ap (λ (s : SiteView). s.disk.label) is.0.2
  refused_label v w IsNext (refused.Damaged at) is = absurd is.0
  refused_label v w IsNext (refused.OtherRun held other) is = absurd is.0
  refused_label v w IsNext (refused.OtherBook index) is = absurd is.0

  pub refused_back : (v w : EngineView) (IsNext : Record → Type 0) (error : EngineError) → Refused v w IsNext error At To → Refused v w IsNext error (seen_from asked before) (seen_from asked after)
  refused_back v w IsNext error is =
      let label = refused_label v w IsNext error is in
      refuses asked name before after (same label) v w IsNext error (there (λ (x y : SiteView). Refused v w IsNext error x y) label is)

  -- the journal is ready as the run sees the rack, whatever was answered
  pub ready_appended : (v w : EngineView) (IsNext : Record → Type 0) → Appends v w IsNext At To → IsReady w.history To → IsReady w.history (seen_from asked after)
  ready_appended v w IsNext is ready = ready_there w.history is.adds.offers.file.each.goes_on.label ready

  pub ready_refused : (v w : EngineView) (IsNext : Record → Type 0) (error : EngineError) → Refused v w IsNext error At To → IsReady w.history To → IsReady w.history (seen_from asked after)
  ready_refused v w IsNext error is ready = ready_there w.history (refused_label v w IsNext error is) ready

  pub ready_sent : (v w : EngineView) (issue moment : ℕ) → Sends v w issue moment At To → IsReady w.history To → IsReady w.history (seen_from asked after)
  ready_sent v w issue moment is ready = ready_there w.history is.put.disk.disk.goes_on.label ready

  pub ready_same : (h : HistoryView) → To ≡ At → IsReady h To → IsReady h (seen_from asked after)
  ready_same h e ready = ready_there h (ap (λ (s : SiteView). s.disk.label) e) ready

  -- nothing changed
  pub rack_same : To ≡ At → b ≡ a → after ≡ before
  rack_same e f = lent.end (same_name _ _ _ _ _ _ (ap (λ (s : SiteView). s.disk.label) e)) ∙ f ∙ lent.was

  pub journal_back : (given : Given) (run : ℕ) (v : EngineView) → IsJournalOpen given run At To v → IsJournalOpen given run (seen_from asked before) (seen_from asked after) v
  journal_back given run v is =
      let label = is.opens.only.each.goes_on.label in
      journal_open asked name before after (same label) given run v (there (λ (x y : SiteView). IsJournalOpen given run x y v) label is)

  pub journal_refused : (error : WorldError) (given : Given) (run : ℕ) → RefusesJournal error given run At To → RefusesJournal error given run (seen_from asked before) (seen_from asked after)
  journal_refused error given run is =
      let label = is.opens.only.each.goes_on.label in
      refuses_journal asked name before after (same label) error given run (there (λ (x y : SiteView). RefusesJournal error given run x y) label is)

-- ---- results

pub ok_map : {T E : Type 0} (A B : Type 0) (result : Result T E) → (A → B) → OnOk result A → OnOk result B
ok_map A B (Ok x) f a = f a
ok_map A B (Err e) f a = tt

pub ok_three : {T E : Type 0} (A B C D : Type 0) (result : Result T E) → (A → B → C → D) → OnOk result A → OnOk result B → OnOk result C → OnOk result D
ok_three A B C D (Ok x) f a b c = f a b c
ok_three A B C D (Err e) f a b c = tt

pub ok_with : {T E : Type 0} (A B : T → Type 0) (result : Result T E) → ((x : T) → A x → B x) → IfOk result A → IfOk result B
ok_with A B (Ok x) f a = f x a
ok_with A B (Err e) f a = tt

pub err_map : {T E : Type 0} (A B : E → Type 0) (result : Result T E) → ((e : E) → A e → B e) → IfErr result A → IfErr result B
err_map A B (Ok x) f a = tt
err_map A B (Err e) f a = f e a

pub err_on : {T E : Type 0} (A B : Type 0) (result : Result T E) → (A → B) → OnErr result A → OnErr result B
err_on A B (Ok x) f a = tt
err_on A B (Err e) f a = f a

module _ (asked place name place' name' : ℕ) (before a b after : SiteView) (lent : IsLent asked place name place' name' before a b after) (v w : EngineView) (IsNext : Record → Type 0) where
  abbrev X : SiteView
  X = lent_from place name a

  abbrev Y : SiteView
  Y = lent_from place' name' b

  pub ready_by : {T : Type 0} (result : Result T EngineError) → OnOk result (Appends v w IsNext X Y) → IfErr result (λ e. Refused v w IsNext e X Y) → IsReady w.history Y → IsReady w.history (seen_from asked after)
  ready_by (Ok x) ok refused_so ready = ready_appended asked place name place' name' before a b after lent v w IsNext ok ready
  ready_by (Err e) ok refused_so ready = ready_refused asked place name place' name' before a b after lent v w IsNext e refused_so ready

  pub ready_tried : (result : Result Bool EngineError) → (result ≡ Ok true → Appends v w IsNext X Y) → (result ≡ Ok false → Y ≡ X) → IfErr result (λ e. Refused v w IsNext e X Y) → IsReady w.history Y
      → IsReady w.history (seen_from asked after)
  ready_tried (Ok true) done none refused_so ready = ready_appended asked place name place' name' before a b after lent v w IsNext (done refl) ready
  ready_tried (Ok false) done none refused_so ready = ready_same asked place name place' name' before a b after lent w.history (none refl) ready
  ready_tried (Err e) done none refused_so ready = ready_refused asked place name place' name' before a b after lent v w IsNext e refused_so ready

module _ (asked place name place' name' : ℕ) (before a b after : SiteView) (lent : IsLent asked place name place' name' before a b after) (v w : EngineView) where
  pub ready_send : {T : Type 0} (issue moment : ℕ) (result : Result T EngineError) → OnOk result (Sends v w issue moment (lent_from place name a) (lent_from place' name' b)) → OnErr result (lent_from place' name' b ≡ lent_from place name a) → IsReady w.history (lent_from place' name' b) → IsReady w.history (seen_from asked after)
  ready_send issue moment (Ok x) ok none ready = ready_sent asked place name place' name' before a b after lent v w issue moment ok ready
  ready_send issue moment (Err e) ok none ready = ready_same asked place name place' name' before a b after lent w.history none ready

-- the journal could not be opened
pub refused_journal : (given : Given) (run : ℕ) (old new : SiteView) (error : WorldError) (why : EngineError) → OpensFile 0 old new → IsRefusedOpening given run why old new
    → error ≡ opening_refusal why → (why ≢ refused.Disk → new.disk.faults ≡ old.disk.faults) → (why ≢ refused.Disk → new.disk.reads 0 ≡ old.disk.reads 0) → RefusesJournal error given run old new
refused_journal given run old new error why opens refused_so is steady reads = record {
  opens = opens;
  why = why;
  refused = refused_so;
  is = is;
  steady = λ other. steady (λ e. other (is ∙ ap opening_refusal e));
  reads = λ other. reads (λ e. other (is ∙ ap opening_refusal e));
}
