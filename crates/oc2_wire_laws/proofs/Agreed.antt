-- From a start where all agrees to agreement behind each list of deliveries.
use Rattle.std.proofs.Common.{◌≡◌, ◌≢◌, ◌⊎◌, inl, inr, ℕ, zero, suc, true, false, List, [], ◌∷◌, ◌++◌, refl, sym, ◌∙◌, subst, ap, arith}
use Rattle.std.specs.Prelude.{map, Contains, Some}
use Rattle.std.proofs.lemmas.List.{append-nil}
use Rattle.std.proofs.lemmas.List.Elements.{Contains-append_left, Contains-append_right, Contains-append_cases}
use Rattle.cacao_site.specs.DiskCalls.{IsLeft}
use Rattle.cacao_site.specs.View.{SiteView}
use Rattle.cacao_site.specs.declared.parcel.Parcel.{Parcel}
use Rattle.run_records.specs.declared.record.Record.{Record}
use Rattle.run_records.specs.declared.record.Record.TheVariants as entry
use Rattle.run_records.specs.declared.act.Act.{Act}
use Rattle.flow_laws.specs.Acts.{HasReply, IsBytes, ReadsAs}
use Rattle.flow_laws.specs.Agree.{IsActedOn}
use Rattle.flow_laws.specs.Journals.{IsSent, run_of}
use Rattle.flow_laws.specs.Images.{AnyJournal, IsAgent, IsRecords, IsActs, StandsFor, StandsForActs}
use Rattle.flow_laws.specs.Held.{LinesAreOfRecords, plain}
use Rattle.flow_laws.proofs.Basics.{not_zero, put_at, put_at-each, put_at-other, put_at-same, same_some}
use Rattle.flow_laws.proofs.OneList.{same_records, same_acts, stands_empty}
use Rattle.oc2_wire_laws.specs.Ends.{EngineKeeps, HasGotReply}
use Rattle.oc2_wire_laws.specs.Deliveries.{AgreeOnBoth, AreFresh, AreStarts, DeliveriesKeepAgreement, End, Ends, IsChoiceOfBoth, IsNew, RestartsAreStarts, put_by, sent_by}
use Rattle.oc2_wire_laws.proofs.Lists.{agent_or_not, none_in, run_front, sent_append, sent_new}
use Rattle.oc2_wire_laws.proofs.Fits.{FileFits, GoesOnSince, IsKnown, JournalFits, MayUse, file_now, journal_now}
use Rattle.oc2_wire_laws.proofs.Starts.{engine_start, filters_keep}
use Rattle.oc2_wire_laws.proofs.Kept.{Kept, events_kept, engine_new, filters_new}

-- ---- parcels with a number

pub marked : (l : List Parcel) (p : Parcel) → Contains l p → Contains {X = ℕ × Parcel} (map (λ (parcel : Parcel). (0, parcel)) l) (0, p)
marked [] p has = none_in _ p has
marked (x ∷ l) p (zero, lt, is) = (zero, omega arith, ap (λ (q : Parcel). (0, q)) is)
marked (x ∷ l) p (suc k, lt, is) =
    let rest = marked l p (k, omega (arith, lt), is) in
    (suc rest.0, omega (arith, rest.1), rest.2)

pub unmarked : (l : List Parcel) (at : ℕ) (p : Parcel) → Contains {X = ℕ × Parcel} (map (λ (parcel : Parcel). (0, parcel)) l) (at, p) → Contains l p
unmarked [] at p has = none_in _ (at, p) has
unmarked (x ∷ l) at p (zero, lt, is) = (zero, omega arith, ap (λ (e : ℕ × Parcel). e.1) is)
unmarked (x ∷ l) at p (suc k, lt, is) =
    let rest = unmarked l at p (k, omega (arith, lt), is) in
    (suc rest.0, omega (arith, rest.1), rest.2)

-- ---- at the start

module _ (run : ℕ) (first : Ends) (starts : AreStarts run first) where
  abbrev e : End
  e = first.engine

  abbrev f : End
  f = first.filters

  abbrev all : List Parcel
  all = sent_by e ++ sent_by f

  -- a choice with this image of the journal, and one with another image of an agent's file
  abbrev with_journal : List ℕ → ℕ → List ℕ
  with_journal image = put_at 0 image starts.some.files

  is_choice : (image : List ℕ) → IsLeft e.site.disk 0 e.beat image → IsChoiceOfBoth first (with_journal image)
  is_choice image left = record {
    journal = subst (λ (l : List ℕ). IsLeft e.site.disk 0 e.beat l) (sym (put_at-same 0 image starts.some.files)) left;
    filters = λ agent a. subst (λ (l : List ℕ). IsLeft f.site.disk agent f.beat l) (sym (put_at-other 0 agent image starts.some.files (not_zero agent a.0))) (starts.some.files_left agent a);
  }

  abbrev with_file : List ℕ → ℕ → List ℕ → ℕ → List ℕ
  with_file journal agent image = put_at agent image (with_journal journal)

  is_choice_too : (journal : List ℕ) → IsLeft e.site.disk 0 e.beat journal → (agent : ℕ) → IsAgent agent → (image : List ℕ) → IsLeft f.site.disk agent f.beat image
      → IsChoiceOfBoth first (with_file journal agent image)
  is_choice_too journal left agent is_agent image there = record {
    journal = subst (λ (l : List ℕ). IsLeft e.site.disk 0 e.beat l) (sym (put_at-other agent 0 image (with_journal journal) (λ same. not_zero agent is_agent.0 (sym same)) ∙ put_at-same 0 journal starts.some.files)) left;
    filters = λ other a. put_at-each (λ (n : ℕ) (l : List ℕ). IsAgent n → IsLeft f.site.disk n f.beat l) agent image (with_journal journal) other
        (λ same b. subst (λ (n : ℕ). IsLeft f.site.disk n f.beat image) (sym same) there)
        (λ ne b. (is_choice journal left).filters other b)
        a;
  }

  journal_in : (journal : List ℕ) (agent : ℕ) (image : List ℕ) → IsAgent agent → (records : List Record) → IsRecords journal records → IsRecords (with_file journal agent image 0) records
  journal_in journal agent image is_agent records are =
      subst (λ (l : List ℕ). IsRecords l records) (sym (put_at-other agent 0 image (with_journal journal) (λ same. not_zero agent is_agent.0 (sym same)) ∙ put_at-same 0 journal starts.some.files)) are

  file_in : (journal : List ℕ) (agent : ℕ) (image : List ℕ) (acts : List Act) → IsActs image acts → IsActs (with_file journal agent image agent) acts
  file_in journal agent image acts are = subst (λ (l : List ℕ). IsActs l acts) (sym (put_at-same agent image (with_journal journal))) are

  in_all_engine : (p : Parcel) → Contains e.before p → Contains {X = ℕ × Parcel} (map (λ (parcel : Parcel). (0, parcel)) all) (0, p)
  in_all_engine p has = marked all p (Contains-append_left (sent_by e) (sent_by f) p (Contains-append_left e.before (put_by e) p has))

  in_all_filters : (p : Parcel) → Contains f.before p → Contains {X = ℕ × Parcel} (map (λ (parcel : Parcel). (0, parcel)) all) (0, p)
  in_all_filters p has = marked all p (Contains-append_right (sent_by e) (sent_by f) p (Contains-append_left f.before (put_by f) p has))

  known_first : (image : List ℕ) → IsLeft e.site.disk 0 e.beat image → (records : List Record) → IsRecords image records
      → (agent r issue : ℕ) (bytes : List ℕ) → run_of records ≡ Some r → IsKnown first e.before agent r issue bytes → IsSent records issue agent bytes
  known_first image left records are agent r issue bytes of (inl s) =
      let g = starts.good (with_journal image) (is_choice image left) in
      let g_are : IsRecords image g.records = subst (λ (l : List ℕ). IsRecords l g.records) (put_at-same 0 image starts.some.files) g.are_records in
      let same : g.records ≡ records = same_records image g.records records g_are are in
      let of' : run_of g.records ≡ Some s.parcel.run = ap run_of same ∙ of ∙ ap Some (sym s.of_run) in
      let is = g.agree.commands 0 s.parcel (in_all_engine s.parcel s.has) s.command of' in
      let here : IsSent records s.parcel.issue s.parcel.agent s.parcel.bytes = subst (λ (l : List Record). IsSent l s.parcel.issue s.parcel.agent s.parcel.bytes) same is in
      subst (λ (b : List ℕ). IsSent records issue agent b) s.is
      (subst (λ (n : ℕ). IsSent records issue n s.parcel.bytes) s.to (subst (λ (n : ℕ). IsSent records n s.parcel.agent s.parcel.bytes) s.of_issue here))
  known_first image left records are agent r issue bytes of (inr w) =
      let g = starts.good (with_file image agent w.image) (is_choice_too image left agent w.is_agent w.image w.left) in
      let same : g.records ≡ records = same_records (with_file image agent w.image 0) g.records records g.are_records (journal_in image agent w.image w.is_agent records are) in
      let acts : g.acts agent ≡ w.acts = same_acts (with_file image agent w.image agent) (g.acts agent) w.acts (g.are_acts agent w.is_agent) (file_in image agent w.image w.acts w.are) in
      let has : Contains (g.acts agent) w.act = subst (λ (l : List Act). Contains l w.act) (sym acts) w.has in
      let of' : run_of g.records ≡ Some w.act.run = ap run_of same ∙ of ∙ ap Some (sym w.of_run) in
      let is = g.agree.acts_sent agent w.act w.is_agent has of' in
      let here : IsSent records w.act.issue agent w.act.command = subst (λ (l : List Record). IsSent l w.act.issue agent w.act.command) same is in
      subst (λ (b : List ℕ). IsSent records issue agent b) w.is (subst (λ (n : ℕ). IsSent records n agent w.act.command) w.of_issue here)

  -- a number that was fresh
  fresh_first : (image : List ℕ) → IsLeft e.site.disk 0 e.beat image → (records : List Record) → IsRecords image records → records ≡ [] → (next : ℕ) → AreFresh next first
      → (agent r issue : ℕ) (bytes : List ℕ) → IsKnown first e.before agent r issue bytes → r ≢ next
  fresh_first image left records are none next fresh agent r issue bytes (inl s) same =
      fresh.sent image left (stands_empty image (subst (λ (l : List Record). IsRecords image l) none are)) s.parcel (Contains-append_left e.before (put_by e) s.parcel s.has) (s.of_run ∙ same)
  fresh_first image left records are none next fresh agent r issue bytes (inr w) same =
      fresh.acts image left (stands_empty image (subst (λ (l : List Record). IsRecords image l) none are)) agent w.image w.acts w.act w.is_agent w.left w.are w.has (w.of_run ∙ same)

  unused_first : (image : List ℕ) → IsLeft e.site.disk 0 e.beat image → (records : List Record) → IsRecords image records → records ≡ [] → (next : ℕ) → MayUse first run next
      → (agent r issue : ℕ) (bytes : List ℕ) → IsKnown first e.before agent r issue bytes → r ≢ next
  unused_first image left records are none next (inr fresh) = fresh_first image left records are none next fresh
  unused_first image left records are none next (inl same) = fresh_first image left records are none next (subst (λ (n : ℕ). AreFresh n first) (sym same) starts.fresh)

  journal_first : (image : List ℕ) → IsLeft e.site.disk 0 e.beat image → StandsFor image (JournalFits first run e.before (sent_by f))
  journal_first image left =
      let g = starts.good (with_journal image) (is_choice image left) in
      let are : IsRecords image g.records = subst (λ (l : List ℕ). IsRecords l g.records) (put_at-same 0 image starts.some.files) g.are_records in
      record {
        records = g.records;
        are = are;
        so = record {
          is_run = g.agree.is_run;
          known = known_first image left g.records are;
          unused = unused_first image left g.records are;
          goes_on = record {
            image = image;
            left = left;
            before = g.records;
            were = are;
            added = [];
            is = sym (append-nil g.records);
            of_replies = λ r has. none_in _ r has;
          };
        };
      }

  file_first : (agent : ℕ) → IsAgent agent → (image : List ℕ) → IsLeft f.site.disk agent f.beat image → StandsForActs image (FileFits first agent (sent_by e) f.before)
  file_first agent is_agent image left =
      let g = starts.good (with_file starts.some.journal agent image) (is_choice_too starts.some.journal starts.some.left agent is_agent image left) in
      let are : IsActs image (g.acts agent) = subst (λ (l : List ℕ). IsActs l (g.acts agent)) (put_at-same agent image (with_journal starts.some.journal)) (g.are_acts agent is_agent) in
      record {
        acts = g.acts agent;
        are = are;
        so = record {
          are_acts = g.agree.acts_once agent is_agent;
          known = λ act has. inr (record { is_agent = is_agent; image = image; left = left; acts = g.acts agent; are = are; act = act; has = has; of_run = refl; of_issue = refl; is = refl });
          go_on = record { image = image; left = left; before = g.acts agent; were = are; added = []; is = sym (append-nil (g.acts agent)) };
          replies_of = λ p has back to.
              let o = g.agree.replies 0 p (in_all_filters p has) back in
              subst (λ (n : ℕ). HasReply (g.acts n) p.run p.issue (IsBytes p.bytes)) to o.reply;
        };
      }

  agents_first : (p : Parcel) → Contains f.before p → IsAgent p.agent
  agents_first p has =
      let g = starts.good (with_journal starts.some.journal) (is_choice starts.some.journal starts.some.left) in
      (g.agree.replies 0 p (in_all_filters p has) (starts.replies p has)).is_agent

  -- the same, of the sites on which the sessions began
  journal_start : (image : List ℕ) → IsLeft e.start.disk 0 e.start.disk.beat image → StandsFor image (JournalFits first run e.before (sent_by f))
  journal_start image left = journal_first image
      (subst (λ (n : ℕ). IsLeft e.site.disk 0 n image) (sym starts.engine.beat) (subst (λ (s : SiteView). IsLeft s.disk 0 e.start.disk.beat image) (sym starts.engine.site) left))

  files_start : (agent : ℕ) → IsAgent agent → (image : List ℕ) → IsLeft f.start.disk agent f.start.disk.beat image → StandsForActs image (FileFits first agent (sent_by e) f.before)
  files_start agent is_agent image left = file_first agent is_agent image
      (subst (λ (n : ℕ). IsLeft f.site.disk agent n image) (sym starts.filters.beat) (subst (λ (s : SiteView). IsLeft s.disk agent f.start.disk.beat image) (sym starts.filters.site) left))

  pub kept_first : Kept first run e f
  kept_first = record {
    only_commands = λ p has. starts.commands p (subst (λ (l : List Parcel). Contains l p) (sent_new e starts.engine) has);
    only_replies = λ p has. starts.replies p (subst (λ (l : List Parcel). Contains l p) (sent_new f starts.filters) has);
    agents = λ p has. agents_first p (subst (λ (l : List Parcel). Contains l p) (sent_new f starts.filters) has);
    got_replies = λ p has. none_in _ p (subst (λ (l : List Parcel). Contains l p) starts.engine.got has);
    got_commands = λ p has. none_in _ p (subst (λ (l : List Parcel). Contains l p) starts.filters.got has);
    journal = journal_start;
    files = files_start;
    engine = engine_new first run e (sent_by f) starts.engine starts.held.lines journal_start;
    filters = filters_new first f (sent_by e) starts.filters (λ p has back. agents_first p has) files_start;
  }

  -- ---- behind a list of deliveries

  module _ (now : Ends) (kept : Kept first run now.engine now.filters) (choice : ℕ → List ℕ) (is : IsChoiceOfBoth now choice) where
    abbrev sent : List Parcel
    sent = sent_by now.engine

    abbrev replied : List Parcel
    replied = sent_by now.filters

    abbrev journal : StandsFor (choice 0) (JournalFits first run sent replied)
    journal = journal_now first run now.engine replied kept.engine kept.got_replies kept.journal (choice 0) is.journal

    abbrev file : (agent : ℕ) → IsAgent agent → StandsForActs (choice agent) (FileFits first agent sent replied)
    file agent a = file_now first now.filters sent kept.filters kept.got_commands kept.files agent a (choice agent) (is.filters agent a)

    abbrev acts_by : (agent : ℕ) → IsAgent agent ⊎ (IsAgent agent → ⊥) → List Act
    acts_by agent (inl a) = (file agent a).acts
    acts_by agent (inr isnt) = []

    abbrev acts : ℕ → List Act
    acts agent = acts_by agent (agent_or_not agent)

    by_file : (agent : ℕ) (a : IsAgent agent) (d : IsAgent agent ⊎ (IsAgent agent → ⊥)) → IsActs (choice agent) (acts_by agent d) × FileFits first agent sent replied (acts_by agent d)
    by_file agent a (inl b) = ((file agent b).are, (file agent b).so)
    by_file agent a (inr isnt) = absurd (isnt a)

    abbrev fits : (agent : ℕ) → IsAgent agent → FileFits first agent sent replied (acts agent)
    fits agent a = (by_file agent a (agent_or_not agent)).1

    -- the image of an agent's file when all began from which its acts go on
    abbrev image_by : (agent : ℕ) → IsAgent agent ⊎ (IsAgent agent → ⊥) → List ℕ
    image_by agent (inl a) = (fits agent a).go_on.image
    image_by agent (inr isnt) = []

    abbrev began : List ℕ → ℕ → List ℕ
    began image = put_at 0 image (λ agent. image_by agent (agent_or_not agent))

    image_left : (agent : ℕ) (a : IsAgent agent) (d : IsAgent agent ⊎ (IsAgent agent → ⊥)) → IsLeft f.site.disk agent f.beat (image_by agent d)
    image_left agent a (inl b) = (fits agent b).go_on.left
    image_left agent a (inr isnt) = absurd (isnt a)

    acts_later : (agent : ℕ) (a : IsAgent agent) (d : IsAgent agent ⊎ (IsAgent agent → ⊥)) (was : List Act) → IsActs (image_by agent d) was
        → (r issue : ℕ) (P : List ℕ → Type 0) → HasReply was r issue P → HasReply (acts agent) r issue P
    acts_later agent a (inr isnt) was are r issue P h = absurd (isnt a)
    acts_later agent a (inl b) was are r issue P h =
        let on = (fits agent b).go_on in
        let same : was ≡ on.before = same_acts on.image was on.before are on.were in
        record {
          act = h.act;
          has = subst (λ (l : List Act). Contains l h.act) (sym on.is) (Contains-append_left on.before on.added h.act (subst (λ (l : List Act). Contains l h.act) same h.has));
          of_run = h.of_run;
          of_issue = h.of_issue;
          reply = h.reply;
        }

    is_began : (image : List ℕ) → IsLeft e.site.disk 0 e.beat image → IsChoiceOfBoth first (began image)
    is_began image left = record {
      journal = subst (λ (l : List ℕ). IsLeft e.site.disk 0 e.beat l) (sym (put_at-same 0 image (λ n. image_by n (agent_or_not n)))) left;
      filters = λ agent a. subst (λ (l : List ℕ). IsLeft f.site.disk agent f.beat l) (sym (put_at-other 0 agent image (λ n. image_by n (agent_or_not n)) (not_zero agent a.0))) (image_left agent a (agent_or_not agent));
    }

    not_empty : (P : Type 0) (l : List Record) (r : Record) → l ≡ [] → Contains l r → P
    not_empty P l r none has = none_in P r (subst (λ (l : List Record). Contains l r) none has)

    abbrev on : GoesOnSince first replied journal.records
    on = journal.so.goes_on

    answered : (r issue moment status rule : ℕ) (text : List ℕ) → run_of journal.records ≡ Some r → Contains journal.records (entry.Reply issue moment status rule text)
        → IsActedOn journal.records acts r issue (ReadsAs status rule text)
    answered r issue moment status rule text of has =
        elim (Contains-append_cases on.before on.added (entry.Reply issue moment status rule text) (subst (λ (l : List Record). Contains l (entry.Reply issue moment status rule text)) on.is has)) [
          | inl old ↦ before on.before refl old
          | inr new ↦ since (on.of_replies (entry.Reply issue moment status rule text) new)
        ]
      where
        since : HasGotReply replied journal.records issue (ReadsAs status rule text) → IsActedOn journal.records acts r issue (ReadsAs status rule text)
        since h =
            let reply = (fits h.parcel.agent h.is_agent).replies_of h.parcel h.has h.back refl in
            record {
              agent = h.parcel.agent;
              bytes = h.bytes;
              is_agent = h.is_agent;
              sent = h.sent;
              reply = record {
                act = reply.act;
                has = reply.has;
                of_run = reply.of_run ∙ same_some (sym h.of_run ∙ of);
                of_issue = reply.of_issue ∙ h.of_issue;
                reply = subst (λ (b : List ℕ). ReadsAs status rule text b) (sym reply.reply) h.reads;
              };
            }

        before : (was : List Record) → on.before ≡ was → Contains on.before (entry.Reply issue moment status rule text) → IsActedOn journal.records acts r issue (ReadsAs status rule text)
        before [] none old = not_empty _ on.before _ none old
        before (x ∷ xs) was old =
            let g = starts.good (began on.image) (is_began on.image on.left) in
            let g_are : IsRecords on.image g.records = subst (λ (l : List ℕ). IsRecords l g.records) (put_at-same 0 on.image (λ n. image_by n (agent_or_not n))) g.are_records in
            let same : g.records ≡ on.before = same_records on.image g.records on.before g_are on.were in
            let here : journal.records ≡ x ∷ xs ++ on.added = on.is ∙ ap (λ (l : List Record). l ++ on.added) was in
            let of_was : run_of g.records ≡ Some r = ap run_of same ∙ ap run_of was ∙ sym (run_front x xs on.added) ∙ ap run_of (sym here) ∙ of in
            let a = g.agree.answers r issue moment status rule text of_was (subst (λ (l : List Record). Contains l (entry.Reply issue moment status rule text)) (sym same) old) in
            let are : IsActs (image_by a.agent (agent_or_not a.agent)) (g.acts a.agent) =
            subst (λ (l : List ℕ). IsActs l (g.acts a.agent)) (put_at-other 0 a.agent on.image (λ n. image_by n (agent_or_not n)) (not_zero a.agent a.is_agent.0)) (g.are_acts a.agent a.is_agent) in
            record {
              agent = a.agent;
              bytes = a.bytes;
              is_agent = a.is_agent;
              sent = subst (λ (l : List Record). IsSent l issue a.agent a.bytes) (sym on.is) (sent_append on.before on.added issue a.agent a.bytes (subst (λ (l : List Record). IsSent l issue a.agent a.bytes) same a.sent));
              reply = acts_later a.agent a.is_agent (agent_or_not a.agent) (g.acts a.agent) are r issue (ReadsAs status rule text) a.reply;
            }

    false_true : (P : Type 0) (p : Parcel) → p.back ≡ false → p.back ≡ true → P
    false_true P p is_no is_yes = let same : false ≡ true = sym is_no ∙ is_yes in cc

    agreed : AgreeOnBoth now choice
    agreed = record {
      records = journal.records;
      acts = acts;
      are_records = journal.are;
      are_acts = λ agent a. (by_file agent a (agent_or_not agent)).0;
      agree = record {
        is_run = journal.so.is_run;
        acts_once = λ agent a. (fits agent a).are_acts;
        replies = λ at p has back. elim (Contains-append_cases sent replied p (unmarked (sent ++ replied) at p has)) [
          | inl of_engine ↦ false_true _ p (kept.only_commands p of_engine) back
          | inr of_filters ↦ record { is_agent = kept.agents p of_filters; reply = (fits p.agent (kept.agents p of_filters)).replies_of p of_filters back refl }
        ];
        commands = λ at p has command of. elim (Contains-append_cases sent replied p (unmarked (sent ++ replied) at p has)) [
          | inl of_engine ↦ journal.so.known p.agent p.run p.issue p.bytes of
              (inl (record { parcel = p; has = of_engine; command = command; to = refl; of_run = refl; of_issue = refl; is = refl }))
          | inr of_filters ↦ false_true _ p command (kept.only_replies p of_filters)
        ];
        acts_sent = λ agent act a has of. journal.so.known agent act.run act.issue act.command of ((fits agent a).known act has);
        answers = answered;
      };
    }

pub deliveries_keep_agreement : DeliveriesKeepAgreement
deliveries_keep_agreement run first now starts events choice is =
    agreed run first starts now (events_kept first run first now events (kept_first run first starts)) choice is

lines_new : (run : ℕ) (e : End) → IsNew e → EngineKeeps e.start run e.got e.site e.beat → AnyJournal e.start e.start.disk.beat (LinesAreOfRecords plain e.start e.start.disk.beat)
lines_new run e is keeps =
    subst (λ (n : ℕ). AnyJournal e.start n (LinesAreOfRecords plain e.start n)) is.beat
    (subst (λ (s : SiteView). AnyJournal s e.beat (LinesAreOfRecords plain s e.beat)) is.site keeps.held.lines)

pub restarts_are_starts : RestartsAreStarts
restarts_are_starts run first now starts events =
    let kept = events_kept first run first now events (kept_first run first starts) in (
      λ new. engine_start first run (sent_by now.filters) now.engine.before now.engine.start new.copies (lines_new run now.engine new kept.engine) kept.journal
          (λ p has. kept.only_commands p (Contains-append_left now.engine.before (put_by now.engine) p has)),
      λ new. filters_keep first (sent_by now.engine) now.filters.before now.filters.start new.copies
          (λ p has back. kept.agents p (Contains-append_left now.filters.before (put_by now.filters) p has)) kept.files,
    )
