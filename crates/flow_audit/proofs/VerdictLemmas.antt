-- Files have one verdict.
use Rattle.std.proofs.Common.{◌≡◌, inl, inr, ℕ, zero, suc, ◌<◌, ◌≤◌, true, false, List, [], ◌∷◌, length, get_or, take, Option, Some, None, refl, sym, ap, ap₂, subst, ◌∙◌, arith}
use Rattle.std.specs.Prelude.{IsSome, slice_get, slice_index_or, sum_by}
use Rattle.std.proofs.lemmas.Bool.{cases_lt}
use Rattle.std.proofs.lemmas.List.{take_all}
use Rattle.std.proofs.lemmas.Option.{get_or_from_slice_get, slice_get_within}
use Rattle.cacao_check.specs.Fits.{FitsKind}
use Rattle.run_journal.proofs.LayoutLaws.{no_list_where_damaged, one_list}
use Rattle.run_journal.proofs.PlaceLaws.{one_place}
use Rattle.run_records.specs.Lists.{all_read}
use Rattle.run_records.specs.Reading.{act_of, record_of}
use Rattle.run_records.specs.declared.record.Record.{Record}
use Rattle.run_records.specs.declared.record.Record.TheVariants as entry
use Rattle.run_records.specs.declared.act.Act.{Act}
use Rattle.slpf_rules_acts.specs.Acts.{IsOther}
use Rattle.flow_core_rules.specs.Accepted.{IsRunOf}
use Rattle.flow_core_rules.specs.State.{State}
use Rattle.flow_laws.specs.Agree.{Agree}
use Rattle.flow_laws.specs.Images.{IsAgent}
use Rattle.flow_laws.specs.Journals.{AreAccepted, IsJournalRun}
use Rattle.flow_laws.proofs.OneList.{same_acts, same_records}
use Rattle.flow_audit.specs.Audits.{AllAgree, BreaksAt, Disagrees, IsVerdict, PassesTasksAt}
use Rattle.flow_audit.specs.Breaks.{ActsFit, BreaksActs, BreaksRun, FitsAct, HasItsAct, LacksAct, PassesTasks, RepliesHaveActs}
use Rattle.flow_audit.specs.Files.{AreRead, HasStray, IsBadFile, IsFirstBadFile, IsGate, IsGoodFile, IsUnreadable, acts_of, gate_of, image_of}
use Rattle.flow_audit.specs.declared.verdict.Verdict17.{Verdict17}
use Rattle.flow_audit.specs.declared.verdict.Verdict17.TheVariants as verdict
use Rattle.flow_audit.proofs.JudgeLemmas.{not_bad, not_unreadable}
use Rattle.flow_audit.proofs.ListLemmas.{get_take, get_there, got, take_get, take_take}
use Rattle.flow_audit.proofs.ReadLemmas.{read_at}
use Rattle.flow_audit.proofs.RunLemmas.{as_journal, front_at, renamed, same_tasks, too_many}

-- ---- one list of records, and of acts

lists_same : (n : ℕ) (xs ys : List (List Act)) → length xs ≡ n → length ys ≡ n → ((k : ℕ) → k < n → slice_index_or xs k [] ≡ slice_index_or ys k []) → xs ≡ ys
lists_same n [] [] p q same = refl
lists_same n [] (y ∷ ys) p q same = absurd (omega (arith, p, q))
lists_same n (x ∷ xs) [] p q same = absurd (omega (arith, p, q))
lists_same zero (x ∷ xs) (y ∷ ys) p q same = absurd (omega (arith, p))
lists_same (suc n) (x ∷ xs) (y ∷ ys) p q same =
    ap₂ (λ (z : List Act) (l : List (List Act)). z ∷ l) (same 0 (omega arith)) (lists_same n xs ys (omega (arith, p)) (omega (arith, q)) (λ k lt. same (suc k) (omega (arith, lt))))

pub same_journal : (files : List (List ℕ)) (xs ys : List Record) (ls ms : List (List Act)) → AreRead files xs ls → AreRead files ys ms → xs ≡ ys
same_journal files xs ys ls ms p q = same_records (image_of files 0) xs ys p.journal q.journal

same_lists : (files : List (List ℕ)) (xs ys : List Record) (ls ms : List (List Act)) → AreRead files xs ls → AreRead files ys ms → ls ≡ ms
same_lists files xs ys ls ms p q = lists_same 16 ls ms p.many q.many (λ k lt.
    same_acts (image_of files (suc k)) (acts_of ls (suc k)) (acts_of ms (suc k)) (p.filters (suc k) (omega arith, omega (arith, lt))) (q.filters (suc k) (omega arith, omega (arith, lt))))

same_gate : (image : List ℕ) (n p q : ℕ) → IsGate image n p → IsGate image n q → p ≡ q
same_gate image n p q a b = a.at ∙ ap (λ (l : List (List ℕ)). gate_of l n) (one_list image a.entries b.entries a.stands b.stands) ∙ sym b.at

-- ---- one bad file

earlier_read : {A : Type 0} (read : List ℕ → Option A) (x y : List (List ℕ)) (n m : ℕ) (stray : List ℕ) → x ≡ y → n < m → slice_get x n ≡ Some stray → read stray ≡ None → IsSome (all_read read (take m y)) → ⊥
earlier_read {A} read x y n m stray same lt there unread before = by (all_read read (take m y)) refl before
  where
    by : (o : Option (List A)) → all_read read (take m y) ≡ o → IsSome o → ⊥
    by None is h = let no_such : false ≡ true = h in cc
    by (Some values) is h =
        read_at read (take m y) values n stray is (take_get y m n stray lt (subst (λ (l : List (List ℕ)). slice_get l n ≡ Some stray) same there)) unread

one_stray : {A : Type 0} (read : List ℕ → Option A) (image : List ℕ) (p q : ℕ) → HasStray read image p → HasStray read image q → p ≡ q
one_stray read image p q a b =
    let same : a.entries ≡ b.entries = one_list image a.entries b.entries a.stands b.stands in
    elim (cases_lt a.n b.n) [
      | inl lt ↦ absurd (earlier_read read a.entries b.entries a.n b.n a.stray same lt a.there a.unread b.before)
      | inr ge ↦ elim (cases_lt b.n a.n) [
        | inl lt ↦ absurd (earlier_read read b.entries a.entries b.n a.n b.stray (sym same) lt b.there b.unread a.before)
        | inr le ↦
            let n_is : a.n ≡ b.n = omega (arith, ge, le) in
            a.at ∙ ap₂ (λ (l : List (List ℕ)) (n : ℕ). gate_of l n) same n_is ∙ sym b.at
      ]
    ]

one_unreadable : {A : Type 0} (read : List ℕ → Option A) (image : List ℕ) (p q : ℕ) → IsUnreadable read image p → IsUnreadable read image q → p ≡ q
one_unreadable read image p q (inl a) (inl b) = one_place image p q a b
one_unreadable read image p q (inl a) (inr b) = absurd (no_list_where_damaged image p b.entries a b.stands)
one_unreadable read image p q (inr a) (inl b) = absurd (no_list_where_damaged image q a.entries b a.stands)
one_unreadable read image p q (inr a) (inr b) = one_stray read image p q a b

good_not_bad : (files : List (List ℕ)) (file place : ℕ) → IsGoodFile files file → IsBadFile files file place → ⊥
good_not_bad files zero place good bad = not_unreadable record_of (image_of files 0) place good.1.entries good.0 good.1.stands good.1.reads bad
good_not_bad files (suc k) place good bad = not_unreadable act_of (image_of files (suc k)) place good.1.entries good.0 good.1.stands good.1.reads bad

one_bad_place : (files : List (List ℕ)) (file p q : ℕ) → IsBadFile files file p → IsBadFile files file q → p ≡ q
one_bad_place files zero p q a b = one_unreadable record_of (image_of files 0) p q a b
one_bad_place files (suc k) p q a b = one_unreadable act_of (image_of files (suc k)) p q a b

one_bad_file : (files : List (List ℕ)) (f g p q : ℕ) → IsFirstBadFile files f p → IsFirstBadFile files g q → (f ≡ g) × (p ≡ q)
one_bad_file files f g p q a b = elim (cases_lt f g) [
  | inl lt ↦ absurd (good_not_bad files f p (b.before f lt) a.bad)
  | inr ge ↦ elim (cases_lt g f) [
    | inl lt ↦ absurd (good_not_bad files g q (a.before g lt) b.bad)
    | inr le ↦
        let same : f ≡ g = omega (arith, ge, le) in
        (same, one_bad_place files g p q (subst (λ h. IsBadFile files h p) same a.bad) b.bad)
  ]
]

-- ---- one break

-- a front of a run is a run
front_of : (records : List Record) (k m : ℕ) → suc k ≤ length records → suc k ≤ m → IsJournalRun (take m records) → IsJournalRun (take (suc k) records)
front_of records k m le within run = as_journal (take (suc k) records) (front_at records k m le within (as_run records k m le within run)).0
  where
    as_run : (rs : List Record) (k m : ℕ) → suc k ≤ length rs → suc k ≤ m → IsJournalRun (take m rs) → IsRunOf AreAccepted FitsKind (take m rs)
    as_run [] k m le within h = absurd (omega (arith, le))
    as_run (r ∷ rs) k zero le within h = absurd (omega (arith, within))
    as_run (r ∷ rs) k (suc m) le within h = h

no_break : (records : List Record) (n : ℕ) → IsJournalRun records → BreaksRun records n → ⊥
no_break records n run b =
    b.breaks (front_of records n (length records) (omega (arith, b.there)) (omega (arith, b.there)) (subst IsJournalRun (sym (take_all (length records) records (omega arith))) run))

one_run_break : (records : List Record) (n m : ℕ) → BreaksRun records n → BreaksRun records m → n ≡ m
one_run_break records n m a b = elim (cases_lt n m) [
  | inl lt ↦ absurd (a.breaks (front_of records n m (omega (arith, a.there)) (omega (arith, lt)) b.before))
  | inr ge ↦ elim (cases_lt m n) [
    | inl lt ↦ absurd (b.breaks (front_of records m n (omega (arith, b.there)) (omega (arith, lt)) a.before))
    | inr le ↦ omega (arith, ge, le)
  ]
]

fits_earlier : (records : List Record) (agent : ℕ) (acts : List Act) (n m : ℕ) → n < m → BreaksActs records agent acts n → ActsFit records agent (take m acts) → ⊥
fits_earlier records agent acts n m lt a fit =
    a.breaks (subst (λ (l : List Act). FitsAct records agent l a.act) (take_take acts m n (omega (arith, lt))) (fit n a.act (take_get acts m n a.act lt a.there)))

fits_whole : (records : List Record) (agent : ℕ) (acts : List Act) (n : ℕ) → BreaksActs records agent acts n → ActsFit records agent acts → ⊥
fits_whole records agent acts n a fit = a.breaks (fit n a.act a.there)

one_act_break : (records : List Record) (agent : ℕ) (acts : List Act) (n m : ℕ) → BreaksActs records agent acts n → BreaksActs records agent acts m → n ≡ m
one_act_break records agent acts n m a b = elim (cases_lt n m) [
  | inl lt ↦ absurd (fits_earlier records agent acts n m lt a b.before)
  | inr ge ↦ elim (cases_lt m n) [
    | inl lt ↦ absurd (fits_earlier records agent acts m n lt b a.before)
    | inr le ↦ omega (arith, ge, le)
  ]
]

has_earlier : (records : List Record) (acts : ℕ → List Act) (n m : ℕ) → n < m → LacksAct records acts n → RepliesHaveActs records acts (take m records) → ⊥
has_earlier records acts n m lt a have = a.lacks (have n a.r (take_get records m n a.r lt a.there))

one_lack : (records : List Record) (acts : ℕ → List Act) (n m : ℕ) → LacksAct records acts n → LacksAct records acts m → n ≡ m
one_lack records acts n m a b = elim (cases_lt n m) [
  | inl lt ↦ absurd (has_earlier records acts n m lt a b.before)
  | inr ge ↦ elim (cases_lt m n) [
    | inl lt ↦ absurd (has_earlier records acts m n lt b a.before)
    | inr le ↦ omega (arith, ge, le)
  ]
]

one_break : (records : List Record) (lists : List (List Act)) (f g n m : ℕ) → BreaksAt records lists f n → BreaksAt records lists g m → (f ≡ g) × (n ≡ m)
one_break records lists f g n m (inl a) (inl b) = (a.0 ∙ sym b.0, one_run_break records n m a.1 b.1)
one_break records lists f g n m (inl a) (inr (inl b)) = absurd (no_break records n b.0 a.1)
one_break records lists f g n m (inl a) (inr (inr b)) = absurd (no_break records n b.1 a.1)
one_break records lists f g n m (inr (inl a)) (inl b) = absurd (no_break records m a.0 b.1)
one_break records lists f g n m (inr (inl a)) (inr (inl b)) = elim (cases_lt f g) [
  | inl lt ↦ absurd (fits_whole records f (acts_of lists f) n a.2 (b.3 f a.1 lt))
  | inr ge ↦ elim (cases_lt g f) [
    | inl lt ↦ absurd (fits_whole records g (acts_of lists g) m b.2 (a.3 g b.1 lt))
    | inr le ↦
        let same : f ≡ g = omega (arith, ge, le) in
        (same, one_act_break records g (acts_of lists g) n m (subst (λ h. BreaksActs records h (acts_of lists h) n) same a.2) b.2)
  ]
]
one_break records lists f g n m (inr (inl a)) (inr (inr b)) = absurd (fits_whole records f (acts_of lists f) n a.2 (b.2 f a.1))
one_break records lists f g n m (inr (inr a)) (inl b) = absurd (no_break records m a.1 b.1)
one_break records lists f g n m (inr (inr a)) (inr (inl b)) = absurd (fits_whole records g (acts_of lists g) m b.2 (a.2 g b.1))
one_break records lists f g n m (inr (inr a)) (inr (inr b)) = (a.0 ∙ sym b.0, one_lack records (acts_of lists) n m a.3 b.3)

-- ---- no break where all agree

agree_fit : (records : List Record) (acts : ℕ → List Act) (agent : ℕ) → Agree records acts [] → IsAgent agent → ActsFit records agent (acts agent)
agree_fit records acts agent agree is n act there =
    let once = agree.acts_once agent is in
    record {
      other = λ k d lt.
          let at = get_there (take n (acts agent)) k lt in
          let in_list = get_take (acts agent) n k at.0 at.1 in
          let first : get_or (take n (acts agent)) k d ≡ get_or (acts agent) k d = get_or_from_slice_get (take n (acts agent)) k at.0 d at.1 ∙ sym (get_or_from_slice_get (acts agent) k at.0 d in_list.1) in
          let second : get_or (acts agent) n d ≡ act = get_or_from_slice_get (acts agent) n act d there in
          subst (λ (x : Act). IsOther x act) (sym first) (subst (λ (x : Act). IsOther (get_or (acts agent) k d) x) second (once.once k n d in_list.0 (slice_get_within (acts agent) n act there)));
      replied = once.replied n act there;
      sent = λ of_run. agree.acts_sent agent act is (got (acts agent) n act there) of_run;
    }

agree_has : (records : List Record) (acts : ℕ → List Act) (n : ℕ) (r : Record) → Agree records acts [] → slice_get records n ≡ Some r → HasItsAct records acts r
agree_has records acts n (entry.Reply issue moment status rule text) agree there = λ run of_run.
    agree.answers run issue moment status rule text of_run (got records n (entry.Reply issue moment status rule text) there)
agree_has records acts n (entry.Begin run moment books bind) agree there = tt
agree_has records acts n (entry.Walk task moment) agree there = tt
agree_has records acts n (entry.Send task issue agent moment bytes) agree there = tt
agree_has records acts n (entry.Expire issue moment) agree there = tt
agree_has records acts n (entry.Upgrade version moment) agree there = tt
agree_has records acts n (entry.Ask task issue moment bytes) agree there = tt
agree_has records acts n (entry.Told issue moment status text) agree there = tt

no_disagreement : (records : List Record) (lists : List (List Act)) (file n : ℕ) → Agree records (acts_of lists) [] → BreaksAt records lists file n → ⊥
no_disagreement records lists file n agree (inl a) = no_break records n agree.is_run a.1
no_disagreement records lists file n agree (inr (inl a)) = fits_whole records file (acts_of lists file) n a.2 (agree_fit records (acts_of lists) file agree a.1)
no_disagreement records lists file n agree (inr (inr a)) = a.3.lacks (agree_has records (acts_of lists) n a.3.r agree a.3.there)

agrees_not : (files : List (List ℕ)) (records acts file place : ℕ) → AllAgree files records acts → Disagrees files file place → ⊥
agrees_not files records acts file place a d =
    let same : d.records ≡ a.all = same_journal files d.records a.all d.lists a.lists d.are a.are in
    let lists : d.lists ≡ a.lists = same_lists files d.records a.all d.lists a.lists d.are a.are in
    no_disagreement a.all a.lists file d.n a.agree (subst (λ (l : List (List Act)). BreaksAt a.all l file d.n) lists (subst (λ (rs : List Record). BreaksAt rs d.lists file d.n) same d.breaks))

one_disagreement : (files : List (List ℕ)) (f g p q : ℕ) → Disagrees files f p → Disagrees files g q → (f ≡ g) × (p ≡ q)
one_disagreement files f g p q a b =
    let same : a.records ≡ b.records = same_journal files a.records b.records a.lists b.lists a.are b.are in
    let lists : a.lists ≡ b.lists = same_lists files a.records b.records a.lists b.lists a.are b.are in
    let here : BreaksAt b.records b.lists f a.n = subst (λ (l : List (List Act)). BreaksAt b.records l f a.n) lists (subst (λ (rs : List Record). BreaksAt rs a.lists f a.n) same a.breaks) in
    let both = one_break b.records b.lists f g a.n b.n here b.breaks in
    let gate : IsGate (image_of files g) b.n p = subst (λ h. IsGate (image_of files h) b.n p) both.0 (subst (λ k. IsGate (image_of files f) k p) both.1 a.at) in
    (both.0, same_gate (image_of files g) b.n p q gate b.at)

-- ---- one verdict

one_no : (f g p q : ℕ) → (f ≡ g) × (p ≡ q) → verdict.No f p ≡ verdict.No g q
one_no f g p q both = ap₂ (λ (file place : ℕ). verdict.No file place) both.0 both.1

pub one_verdict : (files : List (List ℕ)) (a b : Verdict17) → IsVerdict files a → IsVerdict files b → a ≡ b
one_verdict files (verdict.Yes r s) (verdict.Yes t u) a b =
    let records : r ≡ t = a.records_are ∙ ap (λ (l : List Record). length l) (same_journal files a.all b.all a.lists b.lists a.are b.are) ∙ sym b.records_are in
    let acts : s ≡ u = a.acts_are ∙ ap (λ (l : List (List Act)). sum_by (λ (x : List Act). length x) l) (same_lists files a.all b.all a.lists b.lists a.are b.are) ∙ sym b.acts_are in
    ap₂ (λ (x y : ℕ). verdict.Yes x y) records acts
one_verdict files (verdict.Yes r s) (verdict.No g q) a (inl b) = absurd (not_bad files g q a.all a.lists a.are b)
one_verdict files (verdict.Yes r s) (verdict.No g q) a (inr b) = absurd (agrees_not files r s g q a b)
one_verdict files (verdict.No f p) (verdict.Yes t u) (inl a) b = absurd (not_bad files f p b.all b.lists b.are a)
one_verdict files (verdict.No f p) (verdict.Yes t u) (inr a) b = absurd (agrees_not files t u f p b a)
one_verdict files (verdict.No f p) (verdict.No g q) (inl a) (inl b) = one_no f g p q (one_bad_file files f g p q a b)
one_verdict files (verdict.No f p) (verdict.No g q) (inl a) (inr b) = absurd (not_bad files f p b.records b.lists b.are a)
one_verdict files (verdict.No f p) (verdict.No g q) (inr a) (inl b) = absurd (not_bad files g q a.records a.lists a.are b)
one_verdict files (verdict.No f p) (verdict.No g q) (inr a) (inr b) = one_no f g p q (one_disagreement files f g p q a b)

-- ---- one place of too many tasks

passes_there : (records : List Record) (n : ℕ) → PassesTasks records n → n < length records
passes_there records n p = elim (cases_lt n (length records)) [
  | inl lt ↦ lt
  | inr le ↦
      let same : take (suc n) records ≡ take n records = take_all (suc n) records (omega (arith, le)) ∙ sym (take_all n records le) in
      let mine = renamed (take (suc n) records) (take n records) same p.next in
      let tasks : length p.next.state.tasks ≡ length p.before.state.tasks = sym (ap (λ (s : State). length s.tasks) mine.1) ∙ same_tasks (take n records) mine.0 p.before in
      absurd (omega (arith, tasks, p.few, p.many))
]

passes_before : (records : List Record) (n m : ℕ) → n < m → PassesTasks records n → PassesTasks records m → ⊥
passes_before records n m lt a b =
    let mine = front_at records n m (omega (arith, passes_there records n a)) (omega (arith, lt)) b.before in
    too_many (length mine.0.state.tasks) (length b.before.state.tasks) (length a.next.state.tasks) (same_tasks (take (suc n) records) mine.0 a.next) mine.1 b.few a.many

pub one_passing : (files : List (List ℕ)) (p q : ℕ) → PassesTasksAt files p → PassesTasksAt files q → p ≡ q
one_passing files p q a b =
    let same : a.records ≡ b.records = same_journal files a.records b.records a.lists b.lists a.are b.are in
    let here : PassesTasks b.records a.n = subst (λ (rs : List Record). PassesTasks rs a.n) same a.passes in
    elim (cases_lt a.n b.n) [
      | inl lt ↦ absurd (passes_before b.records a.n b.n lt here b.passes)
      | inr ge ↦ elim (cases_lt b.n a.n) [
        | inl lt ↦ absurd (passes_before b.records b.n a.n lt b.passes here)
        | inr le ↦
            let n_is : a.n ≡ b.n = omega (arith, ge, le) in
            same_gate (image_of files 0) b.n p q (subst (λ n. IsGate (image_of files 0) n p) n_is a.at) b.at
      ]
    ]
