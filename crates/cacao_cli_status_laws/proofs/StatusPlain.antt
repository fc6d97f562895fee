-- The statuses of the commands that hold no session.
use Rattle.std.proofs.Common.{◌≡◌, ◌⊎◌, ⊎_elim, ◌∙◌, inl, inr, refl, sym, subst, arith, ℕ, ◌≤◌, Bool, true, false, List, [], ◌∷◌, length, map, ◌<◌, Option, Some, None, Ok, Err}
use Rattle.std.specs.Prelude.{IsOkAnd, IsSomeAnd, if◌then◌else◌, nat_eq}
use Rattle.std.specs.List.{list_any}
use Rattle.std.proofs.lemmas.Bool.{true≢false}
use Rattle.serde_json.specs.Data.{Data}
use Rattle.cacao_check.specs.FirstBreak.{IsAccepted}
use Rattle.cacao_check.specs.declared.breaks.Mode.TheVariants.{Read as Reading}
use Rattle.cacao_site.specs.View.{SiteView}
use Rattle.cacao_cli_words.specs.Words.{Text}
use Rattle.cacao_cli_ends.specs.Asked.{Asked, canonises, checks, decides, rehearses, audits}
use Rattle.cacao_cli_ends.specs.Ends.{End, done, accepted, most, no_such_file, not_readable, past, rehearsed}
use Rattle.cacao_cli_ends.specs.Files.{File, Files, NamedText, files_of, book_file, packet_file, has_too_many, reading}
use Rattle.cacao_cli_ends.specs.Work.{Work, ends, judges, opens_filter, at_decisions, or_end, canon_line, run_files, work_on}
use Rattle.cacao_cli_looks.specs.Audited.{FilesAgree, Disagree, PassTasks, HasVerdict}
use Rattle.cacao_cli_ends.specs.Comes.{IsOneOf}
use Rattle.cacao_cli_status_laws.specs.Exact.{IsBroken, HasStatus, HasRehearsed, IsRehearsed}
use Rattle.cacao_cli_ends.specs.FileCauses.{AllWithin, IsAuditOf, SomeTreeless, Trees, IsMissing, IsTooLong}
use Rattle.cacao_cli_status_laws.specs.Causes.{FindsDisagreement, IsUnreadable, IsPastLimit, IsRefused, BreaksRule, KeepsRules}
use Rattle.cacao_cli_status_laws.specs.Rehearsing.{MayEndSo, RehearsalTo}
use Rattle.cacao_cli_looks.specs.Openings.{HoldsFilter, IsDamagedFilter}
use Rattle.cacao_cli_ends.specs.declared.limit.Limit.TheVariants.{BookCount}
use Rattle.cacao_cli_ends.specs.declared.reason.Reason.TheVariants.{Line}
use Rattle.cacao_cli_looks.proofs.AuditLemmas.{agree-verdict, disagree-verdict, has-other, tasks-verdict, verdict-agree, verdict-disagree, verdict-tasks}
use Rattle.cacao_cli_status_laws.proofs.CauseLemmas.{EndsByTrees, missing-only, missing-always, long-only, long-always, treeless-only, treeless-always, trees-only, trees-always, trees-few, missing-long, missing-within, long-within, first-within, texts-within, ReadingCase, all_within, one_missing, one_long, reading_case}
use Rattle.cacao_cli_status_laws.proofs.ExactLemmas.{Comes}
use Rattle.cacao_cli_looks.proofs.OpenLemmas.{ComesOpened}
use Rattle.cacao_cli_ends.proofs.ReadLemmas.{Read}
use Rattle.cacao_cli_status_laws.proofs.RehearseLemmas.{broken-rehearsed, came-counted, rehearsal-listed, rehearsed-broken, rehearsed-other, rehearsed-ran}
use Rattle.cacao_cli_ends.proofs.EndCases.{session-end, session_only}
use Rattle.cacao_cli_ends.proofs.StatusLists.{not-among, session_statuses}
use Rattle.cacao_cli_status_laws.proofs.PacketLemmas.{PacketWork, packet_work, packet_work_case, is_missing, is_too_long, is_bad, is_read, missing-apart, long-apart, bad-apart, holds-or-damaged}
use Rattle.cacao_cli_status_laws.proofs.StatusKinds.{Called, FileStatuses, ToldStatuses, SessionEnds, SessionStatuses, Statuses}

pub one_tree : (files : Files) (file : File) (roots : List Data) → Trees files (file ∷ []) roots → (root : Data) × Trees files (file ∷ []) (root ∷ [])
one_tree files file [] t = absurd t
one_tree files file (root ∷ []) t = (root, t)
one_tree files file (root ∷ other ∷ roots) t = absurd t.1

pub canon-statuses : (book : Text) (files : Files) (old new : SiteView) (n : ℕ) → Called (Some (canonises book)) files old new n → Statuses (Some (canonises book)) files old new n
canon-statuses book files old new n called = record {
  of_files = record {
    is_refused = λ e. let t = trees-only files list does so old new n called (omega (arith, e)) in absurd (omega (arith, e, t.2));
    refused_is = λ h. absurd h;
    is_missing = missing-only files list does so old new n called;
    missing_is = missing-always files list does so old new n called;
    is_unreadable = treeless-only files list does so old new n called;
    unreadable_is = treeless-always files list does so old new n called;
    is_disagreed = λ e. absurd (omega (arith, e, trees-few files list does so old new n called));
    disagreed_is = λ h. absurd h;
  };
  told = record {
    is_done = λ e. let t = trees-only files list does so old new n called (omega (arith, e)) in one_tree files (book_file book) t.0 t.1;
    done_is = λ h. inl (trees-always files list does so old new n called (h.0 ∷ []) h.1);
    is_past = λ e. inr (long-only files list does so old new n called e);
    past_is = λ h. inl (past h);
    is_damaged = λ e. absurd (omega (arith, e, trees-few files list does so old new n called));
    damaged_is = λ h. absurd h;
  };
}
  where
    list : List File
    list = book_file book ∷ []

    does : List Data → Work
    does roots = ends (map canon_line roots) done

    so : EndsByTrees does
    so roots old new n h = omega (arith, h)

    past : IsPastLimit (Some (canonises book)) files old new → n ≡ 11
    past (inl many) = absurd (true≢false (sym many))
    past (inr long) = long-always files list does so old new n called long

-- ---- check

module _ (files : Files) (old new : SiteView) (n : ℕ) where
  pub zero-or-one : (roots : List Data) → Comes (judges roots Reading (ends [] accepted)) old new n → n ≤ 1
  zero-or-one roots (inl (kept, e)) = omega (arith, e)
  zero-or-one roots (inr (broken, e)) = omega (arith, e)

  pub judged-kept : (roots : List Data) → n ≡ 0 → Comes (judges roots Reading (ends [] accepted)) old new n → IsAccepted roots Reading
  judged-kept roots e (inl (kept, is)) = kept
  judged-kept roots e (inr (broken, is)) = absurd (omega (arith, e, is))

  pub kept-zero : (roots : List Data) → IsAccepted roots Reading → Comes (judges roots Reading (ends [] accepted)) old new n → n ≡ 0
  kept-zero roots kept (inl (_, is)) = is
  kept-zero roots kept (inr (broken, is)) = absurd (broken.1 (kept broken.0))

  pub judged-broken : (roots : List Data) → n ≡ 1 → Comes (judges roots Reading (ends [] accepted)) old new n → IsBroken roots Reading
  judged-broken roots e (inl (kept, is)) = absurd (omega (arith, e, is))
  judged-broken roots e (inr (broken, is)) = broken

  pub broken-one : (roots : List Data) → IsBroken roots Reading → Comes (judges roots Reading (ends [] accepted)) old new n → n ≡ 1
  broken-one roots broken (inl (kept, is)) = absurd (broken.1 (kept broken.0))
  broken-one roots broken (inr (_, is)) = is

abbrev pub listed : List Text → Bool → List File
listed books b = if b then [] else map book_file books

-- the same of `check`, by whether it has too many playbooks
pub record CheckStatuses (books : List Text) (files : Files) (n : ℕ) (b : Bool) : Type 0 where
  pub is_done : n ≡ 0 → (b ≡ false) × KeepsRules files (listed books b) Reading
  pub done_is : (b ≡ false) × KeepsRules files (listed books b) Reading → n ≡ 0
  pub is_refused : n ≡ 1 → (b ≡ false) × BreaksRule files (listed books b) Reading
  pub refused_is : (b ≡ false) × BreaksRule files (listed books b) Reading → n ≡ 1
  pub is_missing : n ≡ 4 → IsMissing files (listed books b)
  pub missing_is : IsMissing files (listed books b) → n ≡ 4
  pub is_unreadable : n ≡ 5 → AllWithin files (listed books b) × SomeTreeless files (listed books b)
  pub unreadable_is : AllWithin files (listed books b) × SomeTreeless files (listed books b) → n ≡ 5
  pub is_past : n ≡ 11 → (b ≡ true) ⊎ IsTooLong files (listed books b)
  pub past_is : (b ≡ true) ⊎ IsTooLong files (listed books b) → n ≡ 11
  pub few : n ≤ 11

pub check-by : (books : List Text) (files : Files) (old new : SiteView) (n : ℕ) (b : Bool)
    → Comes (if b then ends [] (past BookCount) else or_end (reading files (listed books b)) (work_on (checks books))) old new n → CheckStatuses books files n b
check-by books files old new n true called = record {
  is_done = λ e. absurd (omega (arith, e, called));
  done_is = λ h. absurd (true≢false h.0);
  is_refused = λ e. absurd (omega (arith, e, called));
  refused_is = λ h. absurd (true≢false h.0);
  is_missing = λ e. absurd (omega (arith, e, called));
  missing_is = λ h. absurd h;
  is_unreadable = λ e. absurd (omega (arith, e, called));
  unreadable_is = λ h. absurd h.1;
  is_past = λ e. inl refl;
  past_is = λ h. called;
  few = omega (arith, called);
}
check-by books files old new n false called = record {
  is_done = λ e. let t = trees-only files list does so old new n called (omega (arith, e)) in (refl, record { roots = t.0; trees = t.1; accepted = judged-kept files old new n t.0 e t.2 });
  done_is = λ h. kept-zero files old new n h.1.roots h.1.accepted (trees-always files list does so old new n called h.1.roots h.1.trees);
  is_refused = λ e. let t = trees-only files list does so old new n called (omega (arith, e)) in (refl, record { roots = t.0; trees = t.1; broken = judged-broken files old new n t.0 e t.2 });
  refused_is = λ h. broken-one files old new n h.1.roots h.1.broken (trees-always files list does so old new n called h.1.roots h.1.trees);
  is_missing = missing-only files list does so old new n called;
  missing_is = missing-always files list does so old new n called;
  is_unreadable = treeless-only files list does so old new n called;
  unreadable_is = treeless-always files list does so old new n called;
  is_past = λ e. inr (long-only files list does so old new n called e);
  past_is = past_by;
  few = trees-few files list does so old new n called;
}
  where
    list : List File
    list = map book_file books

    does : List Data → Work
    does roots = judges roots Reading (ends [] accepted)

    so : EndsByTrees does
    so roots old new n h = zero-or-one files old new n roots h

    past_by : (false ≡ true) ⊎ IsTooLong files (map book_file books) → n ≡ 11
    past_by (inl e) = absurd (true≢false (sym e))
    past_by (inr long) = long-always files list does so old new n called long

pub check-statuses : (books : List Text) (files : Files) (old new : SiteView) (n : ℕ) → Called (Some (checks books)) files old new n → Statuses (Some (checks books)) files old new n
check-statuses books files old new n called = let s = check-by books files old new n (has_too_many (checks books)) called in record {
  of_files = record {
    is_refused = s.is_refused;
    refused_is = s.refused_is;
    is_missing = s.is_missing;
    missing_is = s.missing_is;
    is_unreadable = s.is_unreadable;
    unreadable_is = s.unreadable_is;
    is_disagreed = λ e. absurd (omega (arith, e, s.few));
    disagreed_is = λ h. absurd h;
  };
  told = record {
    is_done = s.is_done;
    done_is = λ h. inl (s.done_is h);
    is_past = s.is_past;
    past_is = λ h. inl (s.past_is h);
    is_damaged = λ e. absurd (omega (arith, e, s.few));
    damaged_is = λ h. absurd h;
  };
}

-- ---- the commands that open a filter

pub opened-other : (agent : ℕ) (old new : SiteView) (n m : ℕ) → ComesOpened agent old new n → n ≡ m → (0 ≡ m → ⊥) → (13 ≡ m → ⊥) → (8 ≡ m → ⊥) → ⊥
opened-other agent old new n m (inl (inl h)) e a b c = a (sym h.1 ∙ e)
opened-other agent old new n m (inl (inr h)) e a b c = b (sym h.1 ∙ e)
opened-other agent old new n m (inr h) e a b c = c (sym h ∙ e)

-- a filter that is looked at without a file
pub filter-files : (asked : Option Asked) (agent : ℕ) (files : Files) (old new : SiteView) (n : ℕ) → ComesOpened agent old new n → (IsRefused asked files → ⊥) → (IsMissing files (files_of asked) → ⊥) → (IsUnreadable asked files → ⊥) → (FindsDisagreement asked files → ⊥) → FileStatuses asked files n
filter-files asked agent files old new n called a b c d = record {
  is_refused = λ e. absurd (opened-other agent old new n 1 called e (λ f. omega (arith, f)) (λ f. omega (arith, f)) (λ f. omega (arith, f)));
  refused_is = λ h. absurd (a h);
  is_missing = λ e. absurd (opened-other agent old new n 4 called e (λ f. omega (arith, f)) (λ f. omega (arith, f)) (λ f. omega (arith, f)));
  missing_is = λ h. absurd (b h);
  is_unreadable = λ e. absurd (opened-other agent old new n 5 called e (λ f. omega (arith, f)) (λ f. omega (arith, f)) (λ f. omega (arith, f)));
  unreadable_is = λ h. absurd (c h);
  is_disagreed = λ e. absurd (opened-other agent old new n 18 called e (λ f. omega (arith, f)) (λ f. omega (arith, f)) (λ f. omega (arith, f)));
  disagreed_is = λ h. absurd (d h);
}

abbrev pub FilterStatus : ℕ → SiteView → ℕ → Type 0
FilterStatus agent new n = (HoldsFilter agent new × (n ≡ 0)) ⊎ (IsDamagedFilter agent new × (n ≡ 13))

pub filter-done : (agent : ℕ) (new : SiteView) (n : ℕ) → FilterStatus agent new n → n ≡ 0 → HoldsFilter agent new
filter-done agent new n (inl h) e = h.0
filter-done agent new n (inr h) e = absurd (omega (arith, e, h.1))

pub done-filter : (agent : ℕ) (new : SiteView) (n : ℕ) → FilterStatus agent new n → HoldsFilter agent new → n ≡ 0
done-filter agent new n (inl h) holds = h.1
done-filter agent new n (inr h) holds = absurd (holds-or-damaged agent new holds h.0)

pub filter-damaged : (agent : ℕ) (new : SiteView) (n : ℕ) → FilterStatus agent new n → n ≡ 13 → IsDamagedFilter agent new
filter-damaged agent new n (inl h) e = absurd (omega (arith, e, h.1))
filter-damaged agent new n (inr h) e = h.0

pub damaged-filter : (agent : ℕ) (new : SiteView) (n : ℕ) → FilterStatus agent new n → IsDamagedFilter agent new → n ≡ 13
damaged-filter agent new n (inl h) is = absurd (holds-or-damaged agent new h.0 is)
damaged-filter agent new n (inr h) is = h.1

pub filter-past : (agent : ℕ) (new : SiteView) (n : ℕ) → FilterStatus agent new n → n ≡ 11 → ⊥
filter-past agent new n (inl h) e = omega (arith, e, h.1)
filter-past agent new n (inr h) e = omega (arith, e, h.1)

-- ---- decide

pub decide-files : (agent : ℕ) (packets : Text) (files : Files) (old new : SiteView) (n : ℕ) → Comes (packet_work files agent packets) old new n → FileStatuses (Some (decides agent packets)) files n
decide-files agent packets files old new n called = go (packet_work_case files agent packets)
  where
    at : (w : Work) → packet_work files agent packets ≡ w → Comes w old new n
    at w is = subst (λ (w : Work). Comes w old new n) is called

    go : PacketWork files agent packets → FileStatuses (Some (decides agent packets)) files n
    go (is_missing name m is) = let k : n ≡ 4 = at (ends [] (no_such_file name)) is in record {
      is_refused = λ e. absurd (omega (arith, e, k));
      refused_is = λ h. absurd h;
      is_missing = λ e. m;
      missing_is = λ h. k;
      is_unreadable = λ e. absurd (omega (arith, e, k));
      unreadable_is = λ h. absurd (missing-apart files packets m h.0);
      is_disagreed = λ e. absurd (omega (arith, e, k));
      disagreed_is = λ h. absurd h;
    }
    go (is_too_long limit l is) = let k : n ≡ 11 = at (ends [] (past limit)) is in record {
      is_refused = λ e. absurd (omega (arith, e, k));
      refused_is = λ h. absurd h;
      is_missing = λ e. absurd (omega (arith, e, k));
      missing_is = λ h. absurd (missing-long files (packet_file packets ∷ []) h l);
      is_unreadable = λ e. absurd (omega (arith, e, k));
      unreadable_is = λ h. absurd (long-apart files packets l h.0);
      is_disagreed = λ e. absurd (omega (arith, e, k));
      disagreed_is = λ h. absurd h;
    }
    go (is_bad name number b is) = let k : n ≡ 5 = at (ends [] (not_readable name (Line number))) is in record {
      is_refused = λ e. absurd (omega (arith, e, k));
      refused_is = λ h. absurd h;
      is_missing = λ e. absurd (omega (arith, e, k));
      missing_is = λ h. absurd (missing-apart files packets h b.0);
      is_unreadable = λ e. b;
      unreadable_is = λ h. k;
      is_disagreed = λ e. absurd (omega (arith, e, k));
      disagreed_is = λ h. absurd h;
    }
    go (is_read found has is) = filter-files (Some (decides agent packets)) agent files old new n (at (opens_filter agent (at_decisions found)) is)
        (λ h. h) (λ h. missing-apart files packets h has.0) (λ h. bad-apart files packets h.1 found has) (λ h. h)

pub decide-told : (agent : ℕ) (packets : Text) (files : Files) (old new : SiteView) (n : ℕ) → HasStatus (packet_work files agent packets) old new n → ToldStatuses (Some (decides agent packets)) files old new n
decide-told agent packets files old new n called = go (packet_work_case files agent packets)
  where
    at : (w : Work) → packet_work files agent packets ≡ w → HasStatus w old new n
    at w is = subst (λ (w : Work). HasStatus w old new n) is called

    go : PacketWork files agent packets → ToldStatuses (Some (decides agent packets)) files old new n
    go (is_missing name m is) = let k : n ≡ 4 = at (ends [] (no_such_file name)) is in record {
      is_done = λ e. absurd (omega (arith, e, k));
      done_is = λ h. absurd (missing-apart files packets m h.0.1.0);
      is_past = λ e. absurd (omega (arith, e, k));
      past_is = λ h. absurd (missing-long files (packet_file packets ∷ []) m h);
      is_damaged = λ e. absurd (omega (arith, e, k));
      damaged_is = λ h. absurd (missing-apart files packets m h.0.1.0);
    }
    go (is_too_long limit l is) = let k : n ≡ 11 = at (ends [] (past limit)) is in record {
      is_done = λ e. absurd (omega (arith, e, k));
      done_is = λ h. absurd (long-apart files packets l h.0.1.0);
      is_past = λ e. l;
      past_is = λ h. inl k;
      is_damaged = λ e. absurd (omega (arith, e, k));
      damaged_is = λ h. absurd (long-apart files packets l h.0.1.0);
    }
    go (is_bad name number b is) = let k : n ≡ 5 = at (ends [] (not_readable name (Line number))) is in record {
      is_done = λ e. absurd (omega (arith, e, k));
      done_is = λ h. absurd (bad-apart files packets b.1 h.0.0 h.0.1);
      is_past = λ e. absurd (omega (arith, e, k));
      past_is = λ h. absurd (long-apart files packets h b.0);
      is_damaged = λ e. absurd (omega (arith, e, k));
      damaged_is = λ h. absurd (bad-apart files packets b.1 h.0.0 h.0.1);
    }
    go (is_read found has is) = let s : FilterStatus agent new n = at (opens_filter agent (at_decisions found)) is in record {
      is_done = λ e. ((found, has), filter-done agent new n s e);
      done_is = λ h. inl (done-filter agent new n s h.1);
      is_past = λ e. absurd (filter-past agent new n s e);
      past_is = λ h. absurd (long-apart files packets h has.0);
      is_damaged = λ e. ((found, has), filter-damaged agent new n s e);
      damaged_is = λ h. inl (damaged-filter agent new n s h.1);
    }

-- ---- audit

module _ (engine : Text) (filters : List (ℕ × Text)) (files : Files) (old new : SiteView) (n : ℕ) where
  abbrev pub list : List File
  list = files_of (Some (audits engine filters))

  -- one of the files was not read
  pub none-audited : (P : List Text → Type 0) (end : End) → reading files list ≡ Err end → IsAuditOf files engine filters P → ⊥
  none-audited P end is h = subst (λ (r : Read). IsOkAnd r (λ texts. P (run_files filters texts))) is h

  pub to-audit : (P : List Text → Type 0) (texts : List NamedText) → reading files list ≡ Ok texts → P (run_files filters texts) → IsAuditOf files engine filters P
  to-audit P texts is h = subst (λ (r : Read). IsOkAnd r (λ texts. P (run_files filters texts))) (sym is) h

  pub of-audit : (P : List Text → Type 0) (texts : List NamedText) → reading files list ≡ Ok texts → IsAuditOf files engine filters P → P (run_files filters texts)
  of-audit P texts is h = subst (λ (r : Read). IsOkAnd r (λ texts. P (run_files filters texts))) is h

  pub audit-statuses : Called (Some (audits engine filters)) files old new n → Statuses (Some (audits engine filters)) files old new n
  audit-statuses called = go (reading_case files list)
    where
      at : (r : Read) → reading files list ≡ r → Comes (or_end r (work_on (audits engine filters))) old new n
      at r is = subst (λ (r : Read). Comes (or_end r (work_on (audits engine filters))) old new n) is called

      go : ReadingCase files list → Statuses (Some (audits engine filters)) files old new n
      go (one_missing name m is) = let k : n ≡ 4 = at (Err (no_such_file name)) is in record {
        of_files = record {
          is_refused = λ e. absurd (omega (arith, e, k));
          refused_is = λ h. absurd h;
          is_missing = λ e. m;
          missing_is = λ h. k;
          is_unreadable = λ e. absurd (omega (arith, e, k));
          unreadable_is = λ h. absurd h;
          is_disagreed = λ e. absurd (omega (arith, e, k));
          disagreed_is = λ h. absurd (none-audited Disagree (no_such_file name) is h);
        };
        told = record {
          is_done = λ e. absurd (omega (arith, e, k));
          done_is = λ h. absurd (none-audited FilesAgree (no_such_file name) is h);
          is_past = λ e. absurd (omega (arith, e, k));
          past_is = ⊎_elim (λ l. absurd (missing-long files list m l)) (λ h. absurd (none-audited PassTasks (no_such_file name) is h));
          is_damaged = λ e. absurd (omega (arith, e, k));
          damaged_is = λ h. absurd h;
        };
      }
      go (one_long limit l is) = let k : n ≡ 11 = at (Err (past limit)) is in record {
        of_files = record {
          is_refused = λ e. absurd (omega (arith, e, k));
          refused_is = λ h. absurd h;
          is_missing = λ e. absurd (omega (arith, e, k));
          missing_is = λ h. absurd (missing-long files list h l);
          is_unreadable = λ e. absurd (omega (arith, e, k));
          unreadable_is = λ h. absurd h;
          is_disagreed = λ e. absurd (omega (arith, e, k));
          disagreed_is = λ h. absurd (none-audited Disagree (past limit) is h);
        };
        told = record {
          is_done = λ e. absurd (omega (arith, e, k));
          done_is = λ h. absurd (none-audited FilesAgree (past limit) is h);
          is_past = λ e. inl l;
          past_is = λ h. inl k;
          is_damaged = λ e. absurd (omega (arith, e, k));
          damaged_is = λ h. absurd h;
        };
      }
      go (all_within texts t is) = let v : HasVerdict (run_files filters texts) n = at (Ok texts) is in record {
        of_files = record {
          is_refused = λ e. absurd (has-other (run_files filters texts) n 1 v e (λ f. omega (arith, f)) (λ f. omega (arith, f)) (λ f. omega (arith, f)));
          refused_is = λ h. absurd h;
          is_missing = λ e. absurd (has-other (run_files filters texts) n 4 v e (λ f. omega (arith, f)) (λ f. omega (arith, f)) (λ f. omega (arith, f)));
          missing_is = λ m. absurd (first-within files (λ file. files file.name ≡ None) list (missing-within files) m (texts-within files list texts t));
          is_unreadable = λ e. absurd (has-other (run_files filters texts) n 5 v e (λ f. omega (arith, f)) (λ f. omega (arith, f)) (λ f. omega (arith, f)));
          unreadable_is = λ h. absurd h;
          is_disagreed = λ e. to-audit Disagree texts is (verdict-disagree (run_files filters texts) n v e);
          disagreed_is = λ h. disagree-verdict (run_files filters texts) n v (of-audit Disagree texts is h);
        };
        told = record {
          is_done = λ e. to-audit FilesAgree texts is (verdict-agree (run_files filters texts) n v e);
          done_is = λ h. inl (agree-verdict (run_files filters texts) n v (of-audit FilesAgree texts is h));
          is_past = λ e. inr (to-audit PassTasks texts is (verdict-tasks (run_files filters texts) n v e));
          past_is = ⊎_elim (λ l. absurd (first-within files (λ file. IsSomeAnd (files file.name) (λ bytes. most file.limit < length bytes)) list (long-within files) l (texts-within files list texts t)))
              (λ h. inl (tasks-verdict (run_files filters texts) n v (of-audit PassTasks texts is h)));
          is_damaged = λ e. absurd (has-other (run_files filters texts) n 13 v e (λ f. omega (arith, f)) (λ f. omega (arith, f)) (λ f. omega (arith, f)));
          damaged_is = λ h. absurd h;
        };
      }

-- ---- rehearse

module _ (positions : ℕ) (files : Files) (old new : SiteView) (n : ℕ) where
  pub rehearse-other : (m : ℕ) → HasRehearsed positions n → n ≡ m → (1 ≡ m → ⊥) → list_any (nat_eq m) session_statuses ≡ false → ⊥
  rehearse-other m h e b none = rehearsed-other positions n m h e b none

  pub ran-at : (m : ℕ) → HasRehearsed positions n → n ≡ m → (1 ≡ m → ⊥) → IsRehearsed positions n
  ran-at m h e b = rehearsed-ran positions n h (λ f. b (sym f ∙ e))

  pub rehearse-past : HasRehearsed positions n → n ≡ 11 → IsPastLimit (Some (rehearses positions)) files old new
  rehearse-past (inl h) e = absurd (omega (arith, e, h.1))
  rehearse-past (inr h) e = let p = (session-end h.last).passes (sym h.is ∙ e) in (p.0, subst (RehearsalTo positions) p.1 h.came)

  pub rehearse-files : HasRehearsed positions n → FileStatuses (Some (rehearses positions)) files n
  rehearse-files h = record {
    is_refused = rehearsed-broken positions n h;
    refused_is = broken-rehearsed positions n h;
    is_missing = λ e. absurd (rehearse-other 4 h e (λ f. omega (arith, f)) refl);
    missing_is = λ m. absurd m;
    is_unreadable = λ e. absurd (rehearse-other 5 h e (λ f. omega (arith, f)) refl);
    unreadable_is = λ u. absurd u;
    is_disagreed = λ e. absurd (rehearse-other 18 h e (λ f. omega (arith, f)) refl);
    disagreed_is = λ d. absurd d;
  }

  pub rehearse-told : HasRehearsed positions n → ToldStatuses (Some (rehearses positions)) files old new n
  rehearse-told h = record {
    is_done = λ e. let t = ran-at 0 h e (λ f. omega (arith, f)) in came-counted positions t.last t.came (sym t.is ∙ e);
    done_is = λ c. inr (rehearsal-listed positions n h (rehearsed positions c.0 c.1 c.2) c.3);
    is_past = rehearse-past h;
    past_is = λ p. inr (rehearsal-listed positions n h (past p.0) p.1);
    is_damaged = λ e. let t = ran-at 13 h e (λ f. omega (arith, f)) in let d = (session-end t.last).damage (sym t.is ∙ e) in subst MayEndSo d.2 t.came.may;
    damaged_is = λ d. absurd d;
  }

  pub rehearse-session : HasRehearsed positions n → SessionStatuses (Some (rehearses positions)) files old new n
  rehearse-session h = record { ends = by h; among = λ last one r. inr (rehearsal-listed positions n h last r) }
    where
      unlike : (m : ℕ) → n ≡ m → list_any (nat_eq m) session_only ≡ false → IsOneOf n session_only → ⊥
      unlike m e none one = not-among m session_only none (subst (λ (k : ℕ). IsOneOf k session_only) e one)

      by : HasRehearsed positions n → IsOneOf n session_only → SessionEnds (Some (rehearses positions)) files old new n
      by (inl h) one = absurd (unlike 1 h.1 refl one)
      by (inr h) one = record { last = h.last; held = h.came; is = h.is }
