-- One record more is told.
use Rattle.std.proofs.Common.{◌≡◌, ◌⊎◌, inl, inr, ℕ, zero, suc, ◌<◌, ◌≤◌, List, [], ◌∷◌, ◌++◌, length, take, drop, Some, Err, arith, refl, ap, sym, subst, ◌∙◌, append-nil, append_assoc, length-append}
use Rattle.std.specs.Prelude.{IsErrOf, slice_get}
use Rattle.std.specs.List.{AllByRecursion}
use Rattle.std.proofs.lemmas.Option.{none-some}
use Rattle.run_records.specs.Ranges.{InRange}
use Rattle.run_records.specs.declared.record.Record.{Record}
use Rattle.flow_core_rules.specs.Givens.{Given}
use Rattle.flow_core_rules.specs.State.{Shown}
use Rattle.flow_core.specs.Views.{View}
use Rattle.flow_engine_history.specs.HistoryView.{entries_of}
use Rattle.flow_engine_history.specs.Histories.{IsShownBefore, IsSoFar}
use Rattle.flow_engine_history.specs.KeptHistory.{records_of}
use Rattle.flow_engine_history.proofs.HistoryLemmas.{all_push, entries_push, get_front, get_last, get_within, last_or, records_back, shown_before, take_front, take_last}
use Rattle.flow_engine_reports.specs.Beginnings.{HasBegun}
use Rattle.flow_engine_reports.specs.RunFiles.{IsBegin}
use Rattle.flow_engine_reports.proofs.ReplayLemmas.{taken_more}
use Rattle.flow_engine_reports.proofs.ReportLemmas.{shown-after}
use Rattle.flow_engine_reports.specs.declared.error.ReportError.{ReportError}
use Rattle.flow_engine_reports.specs.declared.error.ReportError.TheVariants.{Damaged}
use Rattle.cacao_view_log.specs.Logs.{AreTold, IsToldAt, Logs}
use Rattle.cacao_view_log.specs.Senders.{sender_in, senders}
use Rattle.cacao_view_log.specs.Telling.{IsEntryOf, IsLogged, TellsEntry, TellsFlow}
use Rattle.cacao_view_log.specs.Texts.{record_text}
use Rattle.cacao_view_log.specs.declared.form.Form.{Form}
use Rattle.cacao_view_log.specs.declared.sender.Sender.{Sender}

pub inner : {A : Type 0} (a b : A) → Some a ≡ Some b → a ≡ b
inner a b h = cc

-- entries are the layouts of one list of records
same_records : (xs ys : List Record) → AllByRecursion InRange xs → AllByRecursion InRange ys → entries_of xs ≡ entries_of ys → xs ≡ ys
same_records xs ys p q e = sym (records_back xs p) ∙ ap records_of e ∙ records_back ys q

told_more : (form : Form) (given : Given) (run : ℕ) (rs : List Record) (seen : Shown) (r : Record) (texts : List (List ℕ)) → AreTold form given run rs texts → IsShownBefore given run rs seen
    → AreTold form given run (rs ++ r ∷ []) (texts ++ record_text form run seen (senders rs) (length rs) r ∷ [])
told_more form given run rs seen r texts are shows = record {
  many = omega (arith, length-append texts (text ∷ []), length-append rs (r ∷ []), are.many);
  each = λ n q e.
      let lt : n < length (rs ++ r ∷ []) = get_within (rs ++ r ∷ []) n q e in
      let lt_suc : n < suc (length rs) = omega (arith, length-append rs (r ∷ []), lt) in
      by n q e (last_or n (length rs) lt_suc);
}
  where
    text : List ℕ
    text = record_text form run seen (senders rs) (length rs) r

    by : (n : ℕ) (q : Record) → slice_get (rs ++ r ∷ []) n ≡ Some q → (n < length rs) ⊎ (n ≡ length rs) → IsToldAt form given run (rs ++ r ∷ []) (texts ++ record_text form run seen (senders rs) (length rs) r ∷ []) n q
    by n q e (inl lt) =
        let was : IsToldAt form given run rs texts n q = are.each n q (sym (get_front rs r n lt) ∙ e) in
        record {
          before = was.before;
          shows = subst (λ (l : List Record). IsShownBefore given run l was.before) (sym (take_front rs r n lt)) was.shows;
          told = get_front texts (record_text form run seen (senders rs) (length rs) r) n (omega (arith, lt, are.many)) ∙ was.told
              ∙ ap (λ (l : List Record). Some (record_text form run was.before (senders l) n q)) (sym (take_front rs r n lt));
        }
    by n q e (inr eq) =
        let here : slice_get (rs ++ r ∷ []) n ≡ Some r = ap (slice_get (rs ++ r ∷ [])) eq ∙ get_last rs r in
        let same : r ≡ q = inner r q (sym here ∙ e) in
        let whole : take n (rs ++ r ∷ []) ≡ rs = ap (λ (k : ℕ). take k (rs ++ r ∷ [])) eq ∙ take_last rs r in
        record {
          before = seen;
          shows = subst (λ (l : List Record). IsShownBefore given run l seen) (sym whole) shows;
          told = ap (slice_get (texts ++ record_text form run seen (senders rs) (length rs) r ∷ [])) (eq ∙ sym are.many) ∙ get_last texts (record_text form run seen (senders rs) (length rs) r)
              ∙ ap (λ (p : Record). Some (record_text form run seen (senders rs) (length rs) p)) same ∙ ap (λ (k : ℕ). Some (record_text form run seen (senders rs) k q)) (sym eq)
              ∙ ap (λ (l : List Record). Some (record_text form run seen (senders l) n q)) (sym whole);
        }

-- who sent and asked, by one record more
senders_push : (rs : List Record) (r : Record) → senders (rs ++ r ∷ []) ≡ senders rs ++ sender_in r
senders_push [] r = append-nil (sender_in r)
senders_push (x ∷ rs) r = ap (λ (l : List Sender). sender_in x ++ l) (senders_push rs r) ∙ sym (append_assoc (sender_in x) (senders rs) (sender_in r))

-- the first entry was told
pub logged_first : (form : Form) (item : List ℕ) (r : Record) (flow : View) (texts : List (List ℕ)) (none sent : List Sender) → IsEntryOf r item → InRange r → HasBegun item flow → none ≡ []
    → texts ≡ record_text form flow.seen.run flow.seen none 0 r ∷ [] → sent ≡ none ++ sender_in r → IsLogged form flow.seen.given flow.seen.run (item ∷ []) flow texts sent
logged_first form item r flow texts none sent of in_range begun blank is noted = record {
  replayed = begun.replayed;
  records = r ∷ [];
  ranges = (in_range, tt);
  are = ap (λ (e : List ℕ). e ∷ []) of.is;
  told = subst (AreTold form flow.seen.given flow.seen.run (r ∷ [])) (sym (is ∙ ap (λ (l : List Sender). record_text form flow.seen.run flow.seen l 0 r ∷ []) blank)) (record { many = refl; each = one });
  sent_are = noted ∙ ap (λ (l : List Sender). l ++ sender_in r) blank ∙ sym (senders_push [] r);
}
  where
    one : (n : ℕ) (q : Record) → slice_get (r ∷ []) n ≡ Some q → IsToldAt form flow.seen.given flow.seen.run (r ∷ []) (record_text form flow.seen.run flow.seen [] 0 r ∷ []) n q
    one zero q e = record {
      before = flow.seen;
      shows = tt;
      told = ap (λ (p : Record). Some (record_text form flow.seen.run flow.seen [] 0 p)) (inner r q e);
    }
    one (suc n) q e = absurd (none-some q e)

-- so was the next one
pub logged_more : (form : Form) (given : Given) (run : ℕ) (items : List (List ℕ)) (v w : View) (texts more : List (List ℕ)) (sent later : List Sender) (item : List ℕ) → IsLogged form given run items v texts sent
    → TellsEntry form v texts sent item w more later → IsLogged form given run (items ++ item ∷ []) w more later
logged_more form given run items v w texts more sent later item h t =
    let r : Record = t.takes.r in
    let was = h.replayed.1 in
    let same : was.records ≡ h.records = same_records was.records h.records was.ranges h.ranges (sym was.are ∙ h.are) in
    let shows : IsShownBefore given run h.records v.seen =
    shown_before given run h.records v.seen was.given_is was.run_is (subst (λ (l : List Record). IsSoFar l v.seen) same was.so_far) in
    let count : v.count ≡ length h.records = was.count ∙ ap (λ (l : List Record). length l) same in
    let is : more ≡ texts ++ record_text form run v.seen (senders h.records) (length h.records) r ∷ [] =
    t.more_is ∙ ap (λ (k : ℕ). texts ++ record_text form k v.seen sent v.count r ∷ []) was.run_is ∙ ap (λ (n : ℕ). texts ++ record_text form run v.seen sent n r ∷ []) count
    ∙ ap (λ (l : List Sender). texts ++ record_text form run v.seen l (length h.records) r ∷ []) h.sent_are in
    record {
      replayed = taken_more given run items v w item h.replayed t.takes;
      records = h.records ++ r ∷ [];
      ranges = all_push InRange h.records r h.ranges t.takes.in_range;
      are = ap (λ (l : List (List ℕ)). l ++ item ∷ []) h.are ∙ ap (λ (e : List ℕ). entries_of h.records ++ e ∷ []) t.takes.is ∙ sym (entries_push h.records r);
      told = subst (AreTold form given run (h.records ++ r ∷ [])) (sym is) (told_more form given run h.records v.seen r texts h.told shows);
      sent_are = t.later_is ∙ ap (λ (l : List Sender). l ++ sender_in r) h.sent_are ∙ sym (senders_push h.records r);
    }

-- all entries were told
pub tells_flow : (form : Form) (items : List (List ℕ)) (first : List ℕ) (begun flow : View) (texts : List (List ℕ)) (sent : List Sender) → items ≡ first ∷ drop 1 items → HasBegun first begun
    → IsLogged form begun.seen.given begun.seen.run items flow texts sent → length flow.seen.lists.tasks ≤ 1_000_000 → TellsFlow form items flow texts
tells_flow form items first begun flow texts sent are h logged few =
    let r = logged.replayed.1 in
    let begin : IsBegin first flow.seen.given flow.seen.run =
    subst (λ (g : Given). IsBegin first g flow.seen.run) (sym r.given_is) (subst (λ (n : ℕ). IsBegin first begun.seen.given n) (sym r.run_is) h.begin) in
    let same : r.records ≡ logged.records = same_records r.records logged.records r.ranges logged.ranges (sym r.are ∙ logged.are) in
    record {
      records = r.records;
      tells = record {
        begins = record { first = first; others = drop 1 items; are = are; begin = begin };
        are = r.are;
        ranges = r.ranges;
        shows = shown-after r.records items first (drop 1 items) flow.seen are r.are r.so_far;
        tasks = few;
      };
      count = r.count;
      told = subst (λ (l : List Record). AreTold form flow.seen.given flow.seen.run l texts) (sym same)
          (subst (λ (g : Given). AreTold form g flow.seen.run logged.records texts) (sym r.given_is) (subst (λ (n : ℕ). AreTold form begun.seen.given n logged.records texts) (sym r.run_is) logged.told));
    }

-- so they are logged
pub logs_run : (form : Form) (items : List (List ℕ)) (flow : View) (texts : List (List ℕ)) → TellsFlow form items flow texts → Logs form items texts
logs_run form items flow texts h = inr (record { records = h.records; seen = flow.seen; tells = h.tells; told = h.told })

-- the first record is damaged at its gate
pub place_is : {T : Type 0} (place : ℕ) → IsErrOf {T = T} {E = ReportError} (Err (Damaged 8)) (Damaged place) → place ≡ 8
place_is place e = cc

-- what was told of the first entry was told of the first one of all
pub begins_take : (form : Form) (items : List (List ℕ)) (first : List ℕ) (flow : View) (texts : List (List ℕ)) (sent : List Sender) → items ≡ first ∷ drop 1 items
    → IsLogged form flow.seen.given flow.seen.run (first ∷ []) flow texts sent → IsLogged form flow.seen.given flow.seen.run (take 1 items) flow texts sent
begins_take form items first flow texts sent are h =
    subst (λ (l : List (List ℕ)). IsLogged form flow.seen.given flow.seen.run l flow texts sent) (sym (ap (take 1) are)) h
