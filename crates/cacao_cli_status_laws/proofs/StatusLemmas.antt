-- The clauses on the statuses.
use Rattle.std.proofs.Common.{◌≡◌, ◌⊎◌, ◌∙◌, inl, inr, refl, sym, subst, arith, ℕ, Bool, true, false, List, [], ◌∷◌, ◌++◌, map, Option, Some, None, Ok, Err, Result}
use Rattle.std.specs.Prelude.{IfSome, if◌then◌else◌, is_some, nat_eq}
use Rattle.std.specs.List.{list_any}
use Rattle.oc2_nets.specs.declared.packets.Packet.{Packet}
use Rattle.cacao_cli_filters.specs.PacketFiles.{packets_of}
use Rattle.std.proofs.lemmas.Bool.{true≢false}
use Rattle.serde_json.specs.Data.{Data}
use Rattle.cacao_check.specs.declared.breaks.Mode.TheVariants.{Read as Reading}
use Rattle.cacao_site.specs.View.{SiteView}
use Rattle.cacao_cli_words.specs.Words.{Text}
use Rattle.cacao_cli_ends.specs.Asked.{Asked, canonises, checks, shows, lists_rules, decides, shadows, rehearses, audits, runs}
use Rattle.cacao_cli_ends.specs.Ends.{End, done, accepted, no_such_file, past, asked_for, ended_failed, flooded, other_book, other_run, paused, run_used, waiting}
use Rattle.cacao_cli_ends.specs.Files.{File, Files, NamedText, ShelfCall, files_of, packet_file, has_too_many, reading}
use Rattle.cacao_cli_ends.specs.Work.{Work, ends, judges, opens_filter, opens_run, compares, rehearsals, at_decisions, or_end, canon_line, work, work_on, starts, packets_in, packets_or_end, trees_of}
use Rattle.cacao_cli_status_laws.specs.Ended.{Ended}
use Rattle.cacao_cli_ends.specs.Comes.{IsOneOf, ComesExactly, ComesFor, IfFilesTold, IfTold, statuses_beside, file_faults, faults_of, disk_failed_if_full, run_rehearsal_statuses, stands_for}
use Rattle.cacao_cli_status_laws.specs.Exact.{HasStatus}
use Rattle.cacao_cli_status_laws.specs.Causes.{FindsDisagreement, IsUnreadable, IsPastLimit, NamesTooMuch, IsRefused, CanBeDone, FindsItDamaged, EndsAs, EndsAsAnother, EndsAsAsked, EndsAsWaiting}
use Rattle.cacao_cli_ends.specs.FileCauses.{IsMissing, IsTooLong, HasTexts}
use Rattle.cacao_cli_ends.specs.declared.limit.Limit.TheVariants.{BookCount}
use Rattle.cacao_cli_looks.proofs.BudgetLemmas.{HasBudget}
use Rattle.cacao_cli_status_laws.proofs.CauseLemmas.{missing-long, ReadingCase, all_within, one_missing, one_long, reading_case, comes, comes-in}
use Rattle.cacao_cli_ends.proofs.TreeCases.{TreesCase, all_trees, one_treeless, trees_case}
use Rattle.cacao_cli_words.specs.Requests.{RunRequest}
use Rattle.cacao_cli_status_laws.proofs.CountLemmas.{understood-ended, not_understood-ended}
use Rattle.cacao_cli_status_laws.proofs.ExactLemmas.{Comes, status-seen, status-told, if-told, if-asked}
use Rattle.cacao_cli_looks.proofs.RunLemmas.{damaged-run, done-run, large-run, run-damaged, run-done, run-large, shown-other}
use Rattle.cacao_cli_ends.proofs.EndCases.{IsPlainEnd, session-end, session_only}
use Rattle.cacao_cli_ends.proofs.StatusLists.{not-among, widen}
use Rattle.cacao_cli_ends.proofs.ReadLemmas.{Read as WasRead}
use Rattle.cacao_cli_session_laws.proofs.ReturnedRuns.{ReadsImages}
use Rattle.cacao_cli_status_laws.proofs.PacketLemmas.{PacketWork, packet_work, packet_work_case, is_missing, is_too_long, is_bad, is_read, long-apart}
use Rattle.cacao_cli_status_laws.proofs.StatusKinds.{Called, FileStatuses, ToldStatuses, SessionEnds, SessionStatuses}
use Rattle.cacao_cli_status_laws.proofs.StatusPlain.{canon-statuses, check-by, check-statuses, filter-files, filter-done, done-filter, filter-damaged, damaged-filter, filter-past, decide-files, decide-told, audit-statuses, rehearse-files, rehearse-told, rehearse-session}
use Rattle.cacao_cli_status_laws.proofs.StandRuns.{run-told, run-session}
use Rattle.cacao_cli_status_laws.proofs.StatusRuns.{RunCase, run_case, run_many, run_missing, run_long, run_treeless, run_starts, RunList, no-texts, long-texts, run-files}

-- ---- all commands

file-statuses : (asked : Option Asked) (files : Files) (old new : SiteView) (n : ℕ) → Called asked files old new n → FileStatuses asked files n
file-statuses None files old new n called = record {
  is_refused = λ e. absurd (omega (arith, e, called));
  refused_is = λ h. absurd h;
  is_missing = λ e. absurd (omega (arith, e, called));
  missing_is = λ h. absurd h;
  is_unreadable = λ e. absurd (omega (arith, e, called));
  unreadable_is = λ h. absurd h;
  is_disagreed = λ e. absurd (omega (arith, e, called));
  disagreed_is = λ h. absurd h;
}
file-statuses (Some (canonises book)) files old new n called = (canon-statuses book files old new n called).of_files
file-statuses (Some (checks books)) files old new n called = (check-statuses books files old new n called).of_files
file-statuses (Some (runs wanted)) files old new n called = run-files wanted files old new n called
file-statuses (Some shows) files old new n called = record {
  is_refused = λ e. absurd (shown-other old new n 1 called e (λ f. omega (arith, f)) (λ f. omega (arith, f)) (λ f. omega (arith, f)) (λ f. omega (arith, f)));
  refused_is = λ h. absurd h;
  is_missing = λ e. absurd (shown-other old new n 4 called e (λ f. omega (arith, f)) (λ f. omega (arith, f)) (λ f. omega (arith, f)) (λ f. omega (arith, f)));
  missing_is = λ h. absurd h;
  is_unreadable = λ e. absurd (shown-other old new n 5 called e (λ f. omega (arith, f)) (λ f. omega (arith, f)) (λ f. omega (arith, f)) (λ f. omega (arith, f)));
  unreadable_is = λ h. absurd h;
  is_disagreed = λ e. absurd (shown-other old new n 18 called e (λ f. omega (arith, f)) (λ f. omega (arith, f)) (λ f. omega (arith, f)) (λ f. omega (arith, f)));
  disagreed_is = λ h. absurd h;
}
file-statuses (Some (lists_rules agent)) files old new n called = filter-files (Some (lists_rules agent)) agent files old new n called (λ h. h) (λ h. h) (λ h. h) (λ h. h)
file-statuses (Some (shadows agent)) files old new n called = filter-files (Some (shadows agent)) agent files old new n called (λ h. h) (λ h. h) (λ h. h) (λ h. h)
file-statuses (Some (decides agent packets)) files old new n called = decide-files agent packets files old new n called
file-statuses (Some (rehearses positions)) files old new n called = rehearse-files positions files old new n called
file-statuses (Some (audits engine filters)) files old new n called = (audit-statuses engine filters files old new n called).of_files

-- too many playbooks, and files that are too long, are told before all work
decides-much : (agent : ℕ) (packets : Text) (files : Files) (old new : SiteView) (n : ℕ) → Comes (packet_work files agent packets) old new n → IsTooLong files (packet_file packets ∷ []) → n ≡ 11
decides-much agent packets files old new n called long = go (packet_work_case files agent packets)
  where
    at : (w : Work) → packet_work files agent packets ≡ w → Comes w old new n
    at w is = subst (λ (w : Work). Comes w old new n) is called

    go : PacketWork files agent packets → n ≡ 11
    go (is_missing name m is) = absurd (missing-long files (packet_file packets ∷ []) m long)
    go (is_too_long limit l is) = at (ends [] (past limit)) is
    go (is_bad name number b is) = absurd (long-apart files packets long b.0)
    go (is_read found has is) = absurd (long-apart files packets long has.0)

runs-much : (wanted : RunRequest) (files : Files) (old new : SiteView) (n : ℕ) → Called (Some (runs wanted)) files old new n → NamesTooMuch (Some (runs wanted)) files → n ≡ 11
runs-much wanted files old new n called much = go (run_case wanted files) much
  where
    at : (w : Work) → work (Some (runs wanted)) (reading files (files_of (Some (runs wanted)))) ≡ w → Comes w old new n
    at w is = subst (λ (w : Work). Comes w old new n) is called

    none : (texts : List NamedText) → HasTexts files wanted texts → NamesTooMuch (Some (runs wanted)) files → ⊥
    none texts has (inl many) = no-texts files wanted texts has many
    none texts has (inr long) = long-texts wanted files old new n texts has long

    go : RunCase wanted files → NamesTooMuch (Some (runs wanted)) files → n ≡ 11
    go (run_many many is) h = at (ends [] (past BookCount)) is
    go (run_missing name m is) (inl many) = absurd (subst (λ (b : Bool). IsMissing files (RunList wanted b)) many m)
    go (run_missing name m is) (inr long) = absurd (missing-long files (files_of (Some (runs wanted))) m long)
    go (run_long limit l is) h = at (ends [] (past limit)) is
    go (run_treeless texts name reason has within t is) h = absurd (none texts has h)
    go (run_starts texts roots has within r is) h = absurd (none texts has h)

too-much : (asked : Option Asked) (files : Files) (old new : SiteView) (n : ℕ) → Called asked files old new n → NamesTooMuch asked files → IsOneOf n (11 ∷ file_faults (files_of asked))
too-much None files old new n called h = absurd h
too-much (Some (canonises book)) files old new n called h = (canon-statuses book files old new n called).told.past_is h
too-much (Some (checks books)) files old new n called h = inl ((check-by books files old new n (has_too_many (checks books)) called).past_is h)
too-much (Some (runs wanted)) files old new n called h = inl (runs-much wanted files old new n called h)
too-much (Some shows) files old new n called (inl many) = absurd (true≢false (sym many))
too-much (Some shows) files old new n called (inr long) = absurd long
too-much (Some (lists_rules agent)) files old new n called (inl many) = absurd (true≢false (sym many))
too-much (Some (lists_rules agent)) files old new n called (inr long) = absurd long
too-much (Some (shadows agent)) files old new n called (inl many) = absurd (true≢false (sym many))
too-much (Some (shadows agent)) files old new n called (inr long) = absurd long
too-much (Some (decides agent packets)) files old new n called (inl many) = absurd (true≢false (sym many))
too-much (Some (decides agent packets)) files old new n called (inr long) = inl (decides-much agent packets files old new n called long)
too-much (Some (rehearses positions)) files old new n called (inl many) = absurd (true≢false (sym many))
too-much (Some (rehearses positions)) files old new n called (inr long) = absurd long
too-much (Some (audits engine filters)) files old new n called (inl many) = absurd (true≢false (sym many))
too-much (Some (audits engine filters)) files old new n called (inr long) = (audit-statuses engine filters files old new n called).told.past_is (inl long)

-- a status may come of its work
has-comes : (w : Work) (old new : SiteView) (n : ℕ) → HasStatus w old new n → Comes w old new n
has-comes (ends lines end) old new n h = h
has-comes (judges trees mode kept) old new n (inl h) = inl (h.0, has-comes kept old new n h.1)
has-comes (judges trees mode kept) old new n (inr h) = inr h
has-comes (opens_filter agent look) old new n (inl h) = inl (inl ((λ told. h.0), h.1))
has-comes (opens_filter agent look) old new n (inr h) = inl (inr ((λ told. h.0), h.1))
has-comes (starts start) old new n h = h
has-comes opens_run old new n (inl h) = inl ((λ told. h.0), h.1)
has-comes opens_run old new n (inr (inl h)) = inr (inl ((λ told. h.0), h.1))
has-comes opens_run old new n (inr (inr h)) = inr (inr (inl ((λ told. h.0), h.1)))
has-comes (compares files) old new n h = h
has-comes (rehearsals positions) old new n h = h

abbrev Held : Option Asked → Files → SiteView → SiteView → ℕ → Type 0
Held asked files old new n = HasStatus (work asked (reading files (files_of asked))) old new n

told-statuses : (asked : Option Asked) (files : Files) (old new : SiteView) (n : ℕ) → ReadsImages new → IfSome asked HasBudget → Held asked files old new n → ToldStatuses asked files old new n
told-statuses None files old new n images some held = record {
  is_done = λ e. absurd (omega (arith, e, held));
  done_is = λ h. absurd h;
  is_past = λ e. absurd (omega (arith, e, held));
  past_is = λ h. absurd h;
  is_damaged = λ e. absurd (omega (arith, e, held));
  damaged_is = λ h. absurd h;
}
told-statuses (Some (canonises book)) files old new n images some held =
    (canon-statuses book files old new n (has-comes (work (Some (canonises book)) (reading files (files_of (Some (canonises book))))) old new n held)).told
told-statuses (Some (checks books)) files old new n images some held =
    (check-statuses books files old new n (has-comes (work (Some (checks books)) (reading files (files_of (Some (checks books))))) old new n held)).told
told-statuses (Some (runs wanted)) files old new n images some held = run-told wanted files old new n images some held
told-statuses (Some shows) files old new n images some held = record {
  is_done = run-done new n held;
  done_is = λ h. inl (done-run new n held h);
  is_past = run-large new n held;
  past_is = λ h. inl (large-run new n held h);
  is_damaged = run-damaged new n held;
  damaged_is = λ h. inl (damaged-run new n held h);
}
told-statuses (Some (lists_rules agent)) files old new n images some held = record {
  is_done = filter-done agent new n held;
  done_is = λ h. inl (done-filter agent new n held h);
  is_past = λ e. absurd (filter-past agent new n held e);
  past_is = λ h. absurd h;
  is_damaged = filter-damaged agent new n held;
  damaged_is = λ h. inl (damaged-filter agent new n held h);
}
told-statuses (Some (shadows agent)) files old new n images some held = record {
  is_done = filter-done agent new n held;
  done_is = λ h. inl (done-filter agent new n held h);
  is_past = λ e. absurd (filter-past agent new n held e);
  past_is = λ h. absurd h;
  is_damaged = filter-damaged agent new n held;
  damaged_is = λ h. inl (damaged-filter agent new n held h);
}
told-statuses (Some (decides agent packets)) files old new n images some held = decide-told agent packets files old new n held
told-statuses (Some (rehearses positions)) files old new n images some held = rehearse-told positions files old new n held
told-statuses (Some (audits engine filters)) files old new n images some held =
    (audit-statuses engine filters files old new n (has-comes (work (Some (audits engine filters)) (reading files (files_of (Some (audits engine filters))))) old new n held)).told

-- ---- the statuses that sessions alone give

-- the work holds no session, and its end is not one of a session
abbrev Sessionless : Work → Type 0
Sessionless (ends lines end) = IsPlainEnd end
Sessionless (judges trees mode kept) = Sessionless kept
Sessionless (opens_filter agent look) = Unit {0}
Sessionless opens_run = Unit {0}
Sessionless (compares files) = Unit {0}
Sessionless (rehearsals positions) = ⊥
Sessionless (starts start) = ⊥

no-session : (w : Work) (old new : SiteView) (n : ℕ) → Sessionless w → HasStatus w old new n → IsOneOf n session_only → ⊥
no-session w old new n plain h one = go w plain h
  where
    other : (m : ℕ) → n ≡ m → list_any (nat_eq m) session_only ≡ false → ⊥
    other m e none = not-among m session_only none (subst (λ (k : ℕ). IsOneOf k session_only) e one)

    go : (w : Work) → Sessionless w → HasStatus w old new n → ⊥
    go (ends lines end) plain e = plain (subst (λ (k : ℕ). IsOneOf k session_only) e one)
    go (judges trees mode kept) plain (inl h) = go kept plain h.1
    go (judges trees mode kept) plain (inr h) = other 1 h.1 refl
    go (opens_filter agent look) plain (inl h) = other 0 h.1 refl
    go (opens_filter agent look) plain (inr h) = other 13 h.1 refl
    go opens_run plain (inl h) = other 0 h.1 refl
    go opens_run plain (inr (inl h)) = other 13 h.1 refl
    go opens_run plain (inr (inr h)) = other 11 h.1 refl
    go (rehearsals positions) plain h = absurd plain
    go (compares files) plain (inl h) = other 0 h.1 refl
    go (compares files) plain (inr (inl h)) = other 18 h.1 refl
    go (compares files) plain (inr (inr h)) = other 11 h.1 refl
    go (starts start) plain h = plain

plain-read : (files : Files) (list : List File) (r : WasRead) → reading files list ≡ r → (does : List NamedText → Work) → ((texts : List NamedText) → Sessionless (does texts)) → Sessionless (or_end r does)
plain-read files list (Ok texts) is does each = each texts
plain-read files list (Err end) is does each = go (reading_case files list)
  where
    same : (x y : End) → reading files list ≡ Err x → reading files list ≡ Err y → x ≡ y
    same x y e f = cc

    ok : (texts : List NamedText) (x : End) → reading files list ≡ Ok texts → reading files list ≡ Err x → ⊥
    ok texts x e f = cc

    go : ReadingCase files list → IsPlainEnd end
    go (all_within texts t e) = absurd (ok texts end e is)
    go (one_missing name m e) = subst IsPlainEnd (same (no_such_file name) end e is) (not-among 4 session_only refl)
    go (one_long limit m e) = subst IsPlainEnd (same (past limit) end e is) (not-among 11 session_only refl)

plain-trees : (texts : List NamedText) (does : List Data → Work) → ((roots : List Data) → Sessionless (does roots)) → Sessionless (or_end (trees_of texts) does)
plain-trees texts does each = go (trees_case texts)
  where
    go : TreesCase texts → Sessionless (or_end (trees_of texts) does)
    go (all_trees roots r e) = subst (λ (r : Result (List Data) End). Sessionless (or_end r does)) (sym e) (each roots)
    go (one_treeless name reason r e) = subst (λ (r : Result (List Data) End). Sessionless (or_end r does)) (sym e) (not-among 5 session_only refl)

plain-packets : (texts : List NamedText) (does : List (ℕ × Packet) → Work) → ((found : List (ℕ × Packet)) → Sessionless (does found)) → Sessionless (or_end (packets_in texts) does)
plain-packets [] does each = each []
plain-packets (text ∷ texts) does each = go (packets_of text.bytes)
  where
    go : (r : Result (List (ℕ × Packet)) ℕ) → Sessionless (or_end (packets_or_end text.name r) does)
    go (Ok found) = each found
    go (Err number) = not-among 5 session_only refl

plain-asked : (asked : Asked) (files : Files) → ((texts : List NamedText) → Sessionless (work_on asked texts)) → Sessionless (work (Some asked) (reading files (files_of (Some asked))))
plain-asked asked files each = go (has_too_many asked) refl
  where
    go : (b : Bool) → b ≡ has_too_many asked → Sessionless (if b then ends [] (past BookCount) else or_end (reading files (files_of (Some asked))) (work_on asked))
    go true e = not-among 11 session_only refl
    go false e = plain-read files (files_of (Some asked)) (reading files (files_of (Some asked))) refl (work_on asked) each

sessionless : (asked : Option Asked) (files : Files) (old new : SiteView) (n : ℕ) → Sessionless (work asked (reading files (files_of asked))) → ((last : End) → EndsAs asked files last old new → ⊥) → Held asked files old new n
    → SessionStatuses asked files old new n
sessionless asked files old new n plain none held = record {
  ends = λ one. absurd (no-session (work asked (reading files (files_of asked))) old new n plain held one);
  among = λ last one h. absurd (none last h);
}

session-statuses-of : (asked : Option Asked) (files : Files) (old new : SiteView) (n : ℕ) → ReadsImages new → IfSome asked HasBudget → Held asked files old new n → SessionStatuses asked files old new n
session-statuses-of None files old new n images some held = sessionless None files old new n (not-among 2 session_only refl) (λ last h. h) held
session-statuses-of (Some (canonises book)) files old new n images some held = sessionless (Some (canonises book)) files old new n
    (plain-asked (canonises book) files (λ texts. plain-trees texts (λ roots. ends (map canon_line roots) done) (λ roots. not-among 0 session_only refl))) (λ last h. h) held
session-statuses-of (Some (checks books)) files old new n images some held = sessionless (Some (checks books)) files old new n
    (plain-asked (checks books) files (λ texts. plain-trees texts (λ roots. judges roots Reading (ends [] accepted)) (λ roots. not-among 0 session_only refl))) (λ last h. h) held
session-statuses-of (Some (runs wanted)) files old new n images some held = run-session wanted files old new n images some held
session-statuses-of (Some shows) files old new n images some held = sessionless (Some shows) files old new n tt (λ last h. h) held
session-statuses-of (Some (lists_rules agent)) files old new n images some held = sessionless (Some (lists_rules agent)) files old new n tt (λ last h. h) held
session-statuses-of (Some (decides agent packets)) files old new n images some held = sessionless (Some (decides agent packets)) files old new n
    (plain-asked (decides agent packets) files (λ texts. plain-packets texts (λ found. opens_filter agent (at_decisions found)) (λ found. tt))) (λ last h. h) held
session-statuses-of (Some (shadows agent)) files old new n images some held = sessionless (Some (shadows agent)) files old new n tt (λ last h. h) held
session-statuses-of (Some (rehearses positions)) files old new n images some held = rehearse-session positions files old new n held
session-statuses-of (Some (audits engine filters)) files old new n images some held = sessionless (Some (audits engine filters)) files old new n
    (plain-asked (audits engine filters) files (λ texts. tt)) (λ last h. h) held

-- ---- the clauses

apart : (n : ℕ) → (n ≡ 3 → ⊥) → (n ≡ 9 → ⊥) → (n ≡ 10 → ⊥) → IsOneOf n (3 ∷ 9 ∷ 10 ∷ []) → ⊥
apart n a b c (inl e) = a e
apart n a b c (inr (inl e)) = b e
apart n a b c (inr (inr (inl e))) = c e
apart n a b c (inr (inr (inr h))) = h

apart-files : (n : ℕ) (list : List File) → (n ≡ 3 → ⊥) → (n ≡ 9 → ⊥) → (n ≡ 10 → ⊥) → IsOneOf n (file_faults list) → ⊥
apart-files n [] a b c h = apart n a b c (inr h)
apart-files n (file ∷ more) a b c h = apart n a b c h

apart-asked : (n : ℕ) (asked : Option Asked) → (n ≡ 3 → ⊥) → (n ≡ 8 → ⊥) → (n ≡ 9 → ⊥) → (n ≡ 10 → ⊥) → IsOneOf n (faults_of asked) → ⊥
apart-asked n None a f b c h = apart n a b c (inr h)
apart-asked n (Some (canonises book)) a f b c h = apart n a b c h
apart-asked n (Some (checks books)) a f b c h = apart-files n (files_of (Some (checks books))) a b c h
apart-asked n (Some (runs wanted)) a f b c h = apart-files n (files_of (Some (runs wanted))) a b c h
apart-asked n (Some shows) a f b c (inl e) = f e
apart-asked n (Some shows) a f b c (inr h) = apart n a b c (inr h)
apart-asked n (Some (lists_rules agent)) a f b c (inl e) = f e
apart-asked n (Some (lists_rules agent)) a f b c (inr h) = apart n a b c (inr h)
apart-asked n (Some (shadows agent)) a f b c (inl e) = f e
apart-asked n (Some (shadows agent)) a f b c (inr h) = apart n a b c (inr h)
apart-asked n (Some (rehearses positions)) a f b c h = apart n a b c (inr h)
apart-asked n (Some (audits engine filters)) a f b c h = apart n a b c h
apart-asked n (Some (decides agent packets)) a f b c (inl e) = a e
apart-asked n (Some (decides agent packets)) a f b c (inr (inl e)) = f e
apart-asked n (Some (decides agent packets)) a f b c (inr (inr h)) = apart n a b c (inr h)

-- what may stand in the place of a status that the files settle, may stand in that of one that a session does
run-with : (n : ℕ) (list : List File) (ms : List ℕ) → IsOneOf n (file_faults list) → IsOneOf n (3 ∷ 9 ∷ 10 ∷ ms)
run-with n [] ms (inl e) = inr (inl e)
run-with n [] ms (inr (inl e)) = inr (inr (inl e))
run-with n [] ms (inr (inr h)) = absurd h
run-with n (file ∷ more) ms (inl e) = inl e
run-with n (file ∷ more) ms (inr (inl e)) = inr (inl e)
run-with n (file ∷ more) ms (inr (inr (inl e))) = inr (inr (inl e))
run-with n (file ∷ more) ms (inr (inr (inr h))) = absurd h

stands-with : (asked : Option Asked) (old new : SiteView) (m n : ℕ) → IsOneOf n (faults_of asked) → IsOneOf n (stands_for asked old new m)
stands-with None old new m n h = h
stands-with (Some (canonises book)) old new m n h = h
stands-with (Some (checks books)) old new m n h = h
stands-with (Some (runs wanted)) old new m n h = run-with n (files_of (Some (runs wanted))) (disk_failed_if_full new.disk ++ statuses_beside new.disk.told (is_some old.link.taken) m) h
stands-with (Some shows) old new m n h = h
stands-with (Some (lists_rules agent)) old new m n h = h
stands-with (Some (decides agent packets)) old new m n h = h
stands-with (Some (shadows agent)) old new m n h = h
stands-with (Some (rehearses positions)) old new m n h = widen n (9 ∷ 10 ∷ []) run_rehearsal_statuses refl h
stands-with (Some (audits engine filters)) old new m n h = h

module _ (asked : Option Asked) (shelf : ShelfCall) (old new : SiteView) (answer : ℕ) (ended : Ended asked shelf old new answer) where
  pub missing-ended : IfFilesTold (files_of asked) shelf.told (λ files. ComesExactly 4 (file_faults (files_of asked)) (IsMissing files (files_of asked)) answer)
  missing-ended = if-told (files_of asked) shelf.told _ (λ files seen.
      comes 4 (file_faults (files_of asked)) (Called asked files old new answer) (IsMissing files (files_of asked)) answer (λ h. (file-statuses asked files old new answer h).is_missing) (λ h. (file-statuses asked files old new answer h).missing_is)
      (apart-files 4 (files_of asked) (λ e. omega (arith, e)) (λ e. omega (arith, e)) (λ e. omega (arith, e)))
      (status-seen asked files shelf old new answer seen ended))

  pub unreadable-ended : IfFilesTold (files_of asked) shelf.told (λ files. ComesExactly 5 (file_faults (files_of asked)) (IsUnreadable asked files) answer)
  unreadable-ended = if-told (files_of asked) shelf.told _ (λ files seen.
      comes 5 (file_faults (files_of asked)) (Called asked files old new answer) (IsUnreadable asked files) answer (λ h. (file-statuses asked files old new answer h).is_unreadable) (λ h. (file-statuses asked files old new answer h).unreadable_is)
      (apart-files 5 (files_of asked) (λ e. omega (arith, e)) (λ e. omega (arith, e)) (λ e. omega (arith, e)))
      (status-seen asked files shelf old new answer seen ended))

  pub refused-ended : IfFilesTold (files_of asked) shelf.told (λ files. ComesExactly 1 (file_faults (files_of asked)) (IsRefused asked files) answer)
  refused-ended = if-told (files_of asked) shelf.told _ (λ files seen.
      comes 1 (file_faults (files_of asked)) (Called asked files old new answer) (IsRefused asked files) answer (λ h. (file-statuses asked files old new answer h).is_refused) (λ h. (file-statuses asked files old new answer h).refused_is)
      (apart-files 1 (files_of asked) (λ e. omega (arith, e)) (λ e. omega (arith, e)) (λ e. omega (arith, e)))
      (status-seen asked files shelf old new answer seen ended))

  pub much-ended : IfFilesTold (files_of asked) shelf.told (λ files. NamesTooMuch asked files → IsOneOf answer (11 ∷ file_faults (files_of asked)))
  much-ended = if-told (files_of asked) shelf.told _ (λ files seen. λ h. much files h (status-seen asked files shelf old new answer seen ended))
    where
      much : (files : Files) → NamesTooMuch asked files → Called asked files old new answer ⊎ IsOneOf answer (file_faults (files_of asked)) → IsOneOf answer (11 ∷ file_faults (files_of asked))
      much files h (inl called) = too-much asked files old new answer called h
      much files h (inr f) = inr f

  pub disagreement-ended : IfFilesTold (files_of asked) shelf.told (λ files. ComesExactly 18 (file_faults (files_of asked)) (FindsDisagreement asked files) answer)
  disagreement-ended = if-told (files_of asked) shelf.told _ (λ files seen.
      comes 18 (file_faults (files_of asked)) (Called asked files old new answer) (FindsDisagreement asked files) answer (λ h. (file-statuses asked files old new answer h).is_disagreed) (λ h. (file-statuses asked files old new answer h).disagreed_is)
      (apart-files 18 (files_of asked) (λ e. omega (arith, e)) (λ e. omega (arith, e)) (λ e. omega (arith, e)))
      (status-seen asked files shelf old new answer seen ended))

  pub words-ended : ComesExactly 2 (9 ∷ 10 ∷ []) (asked ≡ None) answer
  words-ended = record { only = understood-ended asked shelf old new answer ended; always = not_understood-ended asked shelf old new answer ended }

module _ (asked : Option Asked) (shelf : ShelfCall) (old new : SiteView) (answer : ℕ) (images : ReadsImages new) (some : IfSome asked HasBudget) (ended : Ended asked shelf old new answer) where
  pub done-ended : IfTold asked shelf.told old (λ files. ComesFor asked old new 0 (CanBeDone asked files old new) answer)
  done-ended = if-asked asked shelf.told old _ (λ disk files seen.
      comes-in 0 (faults_of asked) (stands_for asked old new 0) (Held asked files old new answer) (CanBeDone asked files old new) answer (λ h. (told-statuses asked files old new answer images some h).is_done) (λ h. (told-statuses asked files old new answer images some h).done_is)
      (apart-asked 0 asked (λ e. omega (arith, e)) (λ e. omega (arith, e)) (λ e. omega (arith, e)) (λ e. omega (arith, e))) (stands-with asked old new 0 answer)
      (status-told asked files shelf old new answer disk seen ended))

  pub past-ended : IfTold asked shelf.told old (λ files. ComesFor asked old new 11 (IsPastLimit asked files old new) answer)
  past-ended = if-asked asked shelf.told old _ (λ disk files seen.
      comes-in 11 (faults_of asked) (stands_for asked old new 11) (Held asked files old new answer) (IsPastLimit asked files old new) answer (λ h. (told-statuses asked files old new answer images some h).is_past) (λ h. (told-statuses asked files old new answer images some h).past_is)
      (apart-asked 11 asked (λ e. omega (arith, e)) (λ e. omega (arith, e)) (λ e. omega (arith, e)) (λ e. omega (arith, e))) (stands-with asked old new 11 answer)
      (status-told asked files shelf old new answer disk seen ended))

  pub damaged-ended : IfTold asked shelf.told old (λ files. ComesFor asked old new 13 (FindsItDamaged asked files old new) answer)
  damaged-ended = if-asked asked shelf.told old _ (λ disk files seen.
      comes-in 13 (faults_of asked) (stands_for asked old new 13) (Held asked files old new answer) (FindsItDamaged asked files old new) answer (λ h. (told-statuses asked files old new answer images some h).is_damaged) (λ h. (told-statuses asked files old new answer images some h).damaged_is)
      (apart-asked 13 asked (λ e. omega (arith, e)) (λ e. omega (arith, e)) (λ e. omega (arith, e)) (λ e. omega (arith, e))) (stands-with asked old new 13 answer)
      (status-told asked files shelf old new answer disk seen ended))

  -- a status that sessions alone give comes exactly with this cause
  session-clause : (n : ℕ) (Cause : Files → Type 0) → list_any (nat_eq n) (3 ∷ 8 ∷ 9 ∷ 10 ∷ []) ≡ false → IsOneOf n session_only
      → ((files : Files) → SessionEnds asked files old new answer → answer ≡ n → Cause files) → ((files : Files) → SessionStatuses asked files old new answer → Cause files → IsOneOf answer (n ∷ stands_for asked old new n))
      → IfTold asked shelf.told old (λ files. ComesFor asked old new n (Cause files) answer)
  session-clause n Cause other one to from = if-asked asked shelf.told old _ (λ disk files seen.
      comes-in n (faults_of asked) (stands_for asked old new n) (Held asked files old new answer) (Cause files) answer
      (λ h e. to files ((session-statuses-of asked files old new answer images some h).ends (subst (λ (m : ℕ). IsOneOf m session_only) (sym e) one)) e)
      (λ h c. from files (session-statuses-of asked files old new answer images some h) c)
      (apart-asked n asked (λ e. apart-from 3 e (inl refl)) (λ e. apart-from 8 e (inr (inl refl))) (λ e. apart-from 9 e (inr (inr (inl refl)))) (λ e. apart-from 10 e (inr (inr (inr (inl refl))))))
      (stands-with asked old new n answer)
      (status-told asked files shelf old new answer disk seen ended))
    where
      apart-from : (m : ℕ) → n ≡ m → IsOneOf m (3 ∷ 8 ∷ 9 ∷ 10 ∷ []) → ⊥
      apart-from m e h = not-among n (3 ∷ 8 ∷ 9 ∷ 10 ∷ []) other (subst (λ (k : ℕ). IsOneOf k (3 ∷ 8 ∷ 9 ∷ 10 ∷ [])) (sym e) h)

  ended-as : (files : Files) (end : End) (s : SessionEnds asked files old new answer) → s.last ≡ end → EndsAs asked files end old new
  ended-as files end s e = subst (λ (x : End). EndsAs asked files x old new) e s.held

  pub failed-run-ended : IfTold asked shelf.told old (λ files. ComesFor asked old new 6 (EndsAs asked files ended_failed old new) answer)
  failed-run-ended = session-clause 6 (λ files. EndsAs asked files ended_failed old new) refl (inl refl)
      (λ files s e. ended-as files ended_failed s ((session-end s.last).failed (sym s.is ∙ e))) (λ files all c. all.among ended_failed (inr (inl refl)) c)

  pub paused-ended : IfTold asked shelf.told old (λ files. ComesFor asked old new 7 (EndsAs asked files paused old new) answer)
  paused-ended = session-clause 7 (λ files. EndsAs asked files paused old new) refl (inr (inl refl))
      (λ files s e. ended-as files paused s ((session-end s.last).pauses (sym s.is ∙ e))) (λ files all c. all.among paused (inr (inr (inl refl))) c)

  pub another-ended : IfTold asked shelf.told old (λ files. ComesFor asked old new 12 (EndsAsAnother asked files old new) answer)
  another-ended = session-clause 12 (λ files. EndsAsAnother asked files old new) refl (inr (inr (inl refl)))
      (λ files s e. to files s ((session-end s.last).another (sym s.is ∙ e))) (λ files all c. from files all c)
    where
      to : (files : Files) (s : SessionEnds asked files old new answer)
          → ((held : ℕ) × (number : ℕ) × (s.last ≡ other_run held number)) ⊎ (((index : ℕ) × (s.last ≡ other_book index)) ⊎ ((agent : ℕ) × (s.last ≡ run_used agent))) → EndsAsAnother asked files old new
      to files s (inl h) = inl (h.0, h.1, ended-as files (other_run h.0 h.1) s h.2)
      to files s (inr (inl h)) = inr (inl (h.0, ended-as files (other_book h.0) s h.1))
      to files s (inr (inr h)) = inr (inr (h.0, ended-as files (run_used h.0) s h.1))

      from : (files : Files) → SessionStatuses asked files old new answer → EndsAsAnother asked files old new → IsOneOf answer (12 ∷ stands_for asked old new 12)
      from files all (inl h) = all.among (other_run h.0 h.1) (inr (inr (inr (inl refl)))) h.2
      from files all (inr (inl h)) = all.among (other_book h.0) (inr (inr (inr (inl refl)))) h.1
      from files all (inr (inr h)) = all.among (run_used h.0) (inr (inr (inr (inl refl)))) h.1

  pub waiting-ended : IfTold asked shelf.told old (λ files. ComesFor asked old new 14 (EndsAsWaiting asked files old new) answer)
  waiting-ended = session-clause 14 (λ files. EndsAsWaiting asked files old new) refl (inr (inr (inr (inl refl))))
      (λ files s e. let w = (session-end s.last).waits (sym s.is ∙ e) in (w.0, ended-as files (waiting w.0) s w.1)) (λ files all c. all.among (waiting c.0) (inr (inr (inr (inr (inr (inl refl)))))) c.1)

  pub flooded-ended : IfTold asked shelf.told old (λ files. ComesFor asked old new 15 (EndsAs asked files flooded old new) answer)
  flooded-ended = session-clause 15 (λ files. EndsAs asked files flooded old new) refl (inr (inr (inr (inr (inl refl)))))
      (λ files s e. ended-as files flooded s ((session-end s.last).floods (sym s.is ∙ e))) (λ files all c. all.among flooded (inr (inr (inr (inr (inr (inr (inr (inl refl)))))))) c)

  pub asked-ended : IfTold asked shelf.told old (λ files. ComesFor asked old new 16 (EndsAsAsked asked files old new) answer)
  asked-ended = session-clause 16 (λ files. EndsAsAsked asked files old new) refl (inr (inr (inr (inr (inr (inl refl))))))
      (λ files s e. let w = (session-end s.last).asks (sym s.is ∙ e) in (w.0, ended-as files (asked_for w.0) s w.1)) (λ files all c. all.among (asked_for c.0) (inr (inr (inr (inr (inr (inr (inr (inr (inl refl))))))))) c.1)
