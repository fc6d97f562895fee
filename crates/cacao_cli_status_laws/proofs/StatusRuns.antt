-- The statuses of `run`.
use Rattle.std.proofs.Common.{◌≡◌, ◌∙◌, inl, inr, refl, sym, subst, arith, ℕ, Bool, true, false, List, [], map, Some, Ok, Err, Result, ap}
use Rattle.std.specs.Prelude.{if◌then◌else◌}
use Rattle.std.proofs.lemmas.Bool.{true≢false}
use Rattle.serde_json.specs.Data.{Data}
use Rattle.cacao_site.specs.View.{SiteView}
use Rattle.cacao_cli_words.specs.Words.{Text}
use Rattle.cacao_cli_ends.specs.Asked.{runs}
use Rattle.cacao_cli_ends.specs.Ends.{End, no_such_file, not_readable, past}
use Rattle.cacao_cli_ends.specs.Files.{File, Files, NamedText, files_of, book_file, has_too_many, reading, run_names}
use Rattle.cacao_cli_ends.specs.Work.{Work, ends, or_end, work, work_on, starts, start_of, trees_wanted}
use Rattle.cacao_cli_status_laws.specs.Exact.{HasStatus}
use Rattle.cacao_cli_ends.specs.FileCauses.{AllWithin, IsMissing, IsTooLong, HasTexts, HasTrees, LacksTree}
use Rattle.cacao_cli_status_laws.specs.Causes.{IsUnreadable, SessionTo}
use Rattle.cacao_cli_ends.specs.declared.limit.Limit.TheVariants.{BookCount}
use Rattle.cacao_cli_status_laws.proofs.CauseLemmas.{missing-long, texts-within, ReadingCase, all_within, one_missing, one_long, reading_case, first-missing, first-long}
use Rattle.cacao_cli_ends.proofs.TreeCases.{Roots, Treeless, TreesCase, all_trees, one_treeless, trees_case}
use Rattle.cacao_cli_session_laws.specs.Holding.{HasBadAnswer, IsAcceptedStart, IsRefusedStart}
use Rattle.cacao_cli_ends.specs.declared.limit.Limit.{Limit}
use Rattle.cacao_cli_ends.specs.declared.reason.Reason.{Reason}
use Rattle.cacao_cli_words.specs.Requests.{RunRequest}
use Rattle.cacao_cli_status_laws.proofs.ExactLemmas.{Comes}
use Rattle.cacao_cli_status_laws.proofs.JudgedLemmas.{bad-start, lacks-tree, refused-start, roots-lack, start-bad, start-other, start-refused}
use Rattle.cacao_cli_session_laws.proofs.JudgedLemmas.{came-accepted}
use Rattle.cacao_cli_ends.proofs.ReadLemmas.{Read as WasRead}
use Rattle.cacao_cli_status_laws.proofs.StatusKinds.{Called, FileStatuses}

-- ---- run

-- what the files of `run` come to
pub data RunCase (wanted : RunRequest) (files : Files) : Type 0 where
  run_many : has_too_many (runs wanted) ≡ true → work (Some (runs wanted)) (reading files (files_of (Some (runs wanted)))) ≡ ends [] (past BookCount) → RunCase wanted files
  run_missing : (name : Text) → IsMissing files (files_of (Some (runs wanted))) → work (Some (runs wanted)) (reading files (files_of (Some (runs wanted)))) ≡ ends [] (no_such_file name) → RunCase wanted files
  run_long : (limit : Limit) → IsTooLong files (files_of (Some (runs wanted))) → work (Some (runs wanted)) (reading files (files_of (Some (runs wanted)))) ≡ ends [] (past limit) → RunCase wanted files
  run_treeless : (texts : List NamedText) (name : Text) (reason : Reason) → HasTexts files wanted texts → AllWithin files (files_of (Some (runs wanted))) → Treeless (trees_wanted wanted texts)
      → work (Some (runs wanted)) (reading files (files_of (Some (runs wanted)))) ≡ ends [] (not_readable name reason) → RunCase wanted files
  run_starts : (texts : List NamedText) (roots : List Data) → HasTexts files wanted texts → AllWithin files (files_of (Some (runs wanted))) → Roots (trees_wanted wanted texts) roots
      → work (Some (runs wanted)) (reading files (files_of (Some (runs wanted)))) ≡ starts (start_of wanted texts) → RunCase wanted files

abbrev pub RunList : RunRequest → Bool → List File
RunList wanted b = if b then [] else map book_file (run_names wanted)

abbrev pub RunWork : RunRequest → Bool → WasRead → Work
RunWork wanted b r = if b then ends [] (past BookCount) else or_end r (work_on (runs wanted))

pub run_case : (wanted : RunRequest) (files : Files) → RunCase wanted files
run_case wanted files = go (has_too_many (runs wanted)) refl
  where
    go : (b : Bool) → b ≡ has_too_many (runs wanted) → RunCase wanted files
    go true many = run_many (sym many) (ap (λ (b : Bool). RunWork wanted b (reading files (RunList wanted b))) (sym many))
    go false few = by (reading_case files (map book_file (run_names wanted)))
      where
        list : files_of (Some (runs wanted)) ≡ map book_file (run_names wanted)
        list = ap (RunList wanted) (sym few)

        at : (r : WasRead) → reading files (map book_file (run_names wanted)) ≡ r → work (Some (runs wanted)) (reading files (files_of (Some (runs wanted)))) ≡ or_end r (work_on (runs wanted))
        at r e = ap (λ (b : Bool). RunWork wanted b (reading files (RunList wanted b))) (sym few) ∙ ap (λ (r : WasRead). or_end r (work_on (runs wanted))) e

        by : ReadingCase files (map book_file (run_names wanted)) → RunCase wanted files
        by (one_missing name m e) = run_missing name (subst (IsMissing files) (sym list) m) (at (Err (no_such_file name)) e)
        by (one_long limit m e) = run_long limit (subst (IsTooLong files) (sym list) m) (at (Err (past limit)) e)
        by (all_within texts t e) = in_trees (trees_case (trees_wanted wanted texts))
          where
            has : HasTexts files wanted texts
            has = record { few = sym few; are = e }

            within : AllWithin files (files_of (Some (runs wanted)))
            within = subst (AllWithin files) (sym list) (texts-within files (map book_file (run_names wanted)) texts t)

            in_trees : TreesCase (trees_wanted wanted texts) → RunCase wanted files
            in_trees (one_treeless name reason t f) = run_treeless texts name reason has within t (at (Ok texts) e ∙ ap (λ (r : Result (List Data) End). or_end r (λ roots. starts (start_of wanted texts))) f)
            in_trees (all_trees roots r f) = run_starts texts roots has within r (at (Ok texts) e ∙ ap (λ (r : Result (List Data) End). or_end r (λ roots. starts (start_of wanted texts))) f)

-- the texts are one list
pub same-texts : (files : Files) (wanted : RunRequest) (xs ys : List NamedText) → HasTexts files wanted xs → HasTexts files wanted ys → xs ≡ ys
same-texts files wanted xs ys a b = one (reading files (map book_file (run_names wanted))) xs ys a.are b.are
  where
    one : (r : WasRead) (xs ys : List NamedText) → r ≡ Ok xs → r ≡ Ok ys → xs ≡ ys
    one r xs ys e f = cc

pub no-texts : (files : Files) (wanted : RunRequest) (texts : List NamedText) → HasTexts files wanted texts → has_too_many (runs wanted) ≡ true → ⊥
no-texts files wanted texts h many = true≢false (sym many ∙ h.few)

pub texts-all-within : (files : Files) (wanted : RunRequest) (texts : List NamedText) → HasTexts files wanted texts → AllWithin files (files_of (Some (runs wanted)))
texts-all-within files wanted texts h = subst (λ (b : Bool). AllWithin files (RunList wanted b)) (sym h.few) (go (reading_case files (map book_file (run_names wanted))))
  where
    go : ReadingCase files (map book_file (run_names wanted)) → AllWithin files (map book_file (run_names wanted))
    go (one_missing name m e) = absurd (differ (reading files (map book_file (run_names wanted))) texts (no_such_file name) h.are e)
      where
        differ : (r : WasRead) (xs : List NamedText) (end : End) → r ≡ Ok xs → r ≡ Err end → ⊥
        differ r xs end e f = cc
    go (one_long limit m e) = absurd (differ (reading files (map book_file (run_names wanted))) texts (past limit) h.are e)
      where
        differ : (r : WasRead) (xs : List NamedText) (end : End) → r ≡ Ok xs → r ≡ Err end → ⊥
        differ r xs end e f = cc
    go (all_within xs t e) = texts-within files (map book_file (run_names wanted)) xs t

module _ (wanted : RunRequest) (files : Files) (old new : SiteView) (n : ℕ) where
  pub missing-texts : (texts : List NamedText) → HasTexts files wanted texts → IsMissing files (files_of (Some (runs wanted))) → ⊥
  missing-texts texts h m = first-missing files (files_of (Some (runs wanted))) m (texts-all-within files wanted texts h)

  pub long-texts : (texts : List NamedText) → HasTexts files wanted texts → IsTooLong files (files_of (Some (runs wanted))) → ⊥
  long-texts texts h m = first-long files (files_of (Some (runs wanted))) m (texts-all-within files wanted texts h)

  pub run-files : Called (Some (runs wanted)) files old new n → FileStatuses (Some (runs wanted)) files n
  run-files called = go (run_case wanted files)
    where
      at : (w : Work) → work (Some (runs wanted)) (reading files (files_of (Some (runs wanted)))) ≡ w → Comes w old new n
      at w is = subst (λ (w : Work). Comes w old new n) is called

      go : RunCase wanted files → FileStatuses (Some (runs wanted)) files n
      go (run_many many is) = let k : n ≡ 11 = at (ends [] (past BookCount)) is in record {
        is_refused = λ e. absurd (omega (arith, e, k));
        refused_is = λ h. absurd (no-texts files wanted h.0 h.1 many);
        is_missing = λ e. absurd (omega (arith, e, k));
        missing_is = λ h. absurd (subst (λ (b : Bool). IsMissing files (RunList wanted b)) many h);
        is_unreadable = λ e. absurd (omega (arith, e, k));
        unreadable_is = λ h. absurd (no-texts files wanted h.0 h.1 many);
        is_disagreed = λ e. absurd (omega (arith, e, k));
        disagreed_is = λ h. absurd h;
      }
      go (run_missing name m is) = let k : n ≡ 4 = at (ends [] (no_such_file name)) is in record {
        is_refused = λ e. absurd (omega (arith, e, k));
        refused_is = λ h. absurd (missing-texts h.0 h.1 m);
        is_missing = λ e. m;
        missing_is = λ h. k;
        is_unreadable = λ e. absurd (omega (arith, e, k));
        unreadable_is = λ h. absurd (missing-texts h.0 h.1 m);
        is_disagreed = λ e. absurd (omega (arith, e, k));
        disagreed_is = λ h. absurd h;
      }
      go (run_long limit l is) = let k : n ≡ 11 = at (ends [] (past limit)) is in record {
        is_refused = λ e. absurd (omega (arith, e, k));
        refused_is = λ h. absurd (long-texts h.0 h.1 l);
        is_missing = λ e. absurd (omega (arith, e, k));
        missing_is = λ h. absurd (missing-long files (files_of (Some (runs wanted))) h l);
        is_unreadable = λ e. absurd (omega (arith, e, k));
        unreadable_is = λ h. absurd (long-texts h.0 h.1 l);
        is_disagreed = λ e. absurd (omega (arith, e, k));
        disagreed_is = λ h. absurd h;
      }
      go (run_treeless texts name reason has within t is) = let k : n ≡ 5 = at (ends [] (not_readable name reason)) is in record {
        is_refused = λ e. absurd (omega (arith, e, k));
        refused_is = λ h. absurd (h.2 (lacks-there h.0 h.1 (lacks-tree (trees_wanted wanted texts) t)));
        is_missing = λ e. absurd (omega (arith, e, k));
        missing_is = λ h. absurd (missing-texts texts has h);
        is_unreadable = λ e. (texts, has, inl (lacks-tree (trees_wanted wanted texts) t));
        unreadable_is = λ h. k;
        is_disagreed = λ e. absurd (omega (arith, e, k));
        disagreed_is = λ h. absurd h;
      }
        where
          lacks-there : (other : List NamedText) → HasTexts files wanted other → LacksTree (trees_wanted wanted texts) → LacksTree (trees_wanted wanted other)
          lacks-there other has_other lacks = subst (λ (l : List NamedText). LacksTree (trees_wanted wanted l)) (same-texts files wanted texts other has has_other) lacks
      go (run_starts texts roots has within r is) = let s : HasStatus (starts (start_of wanted texts)) old new n = at (starts (start_of wanted texts)) is in record {
        is_refused = λ e. (texts, has, roots-lack (trees_wanted wanted texts) roots r, start-refused (start_of wanted texts) s e);
        refused_is = λ h. refused-start (start_of wanted texts) (subst (λ (l : List NamedText). IsRefusedStart (start_of wanted l)) (same-texts files wanted h.0 texts h.1 has) h.3) s;
        is_missing = λ e. absurd (start-other (start_of wanted texts) 4 s e (λ f. omega (arith, f)) (λ f. omega (arith, f)) refl);
        missing_is = λ h. absurd (missing-texts texts has h);
        is_unreadable = λ e. (texts, has, inr (start-bad (start_of wanted texts) s e));
        unreadable_is = λ h. bad-start (start_of wanted texts) (unreadable-by h) s;
        is_disagreed = λ e. absurd (start-other (start_of wanted texts) 18 s e (λ f. omega (arith, f)) (λ f. omega (arith, f)) refl);
        disagreed_is = λ h. absurd h;
      }
        where
          unreadable-by : IsUnreadable (Some (runs wanted)) files → HasBadAnswer (start_of wanted texts)
          unreadable-by (other, has_other, inl lacks) = absurd (roots-lack (trees_wanted wanted texts) roots r (subst (λ (l : List NamedText). LacksTree (trees_wanted wanted l)) (same-texts files wanted other texts has_other has) lacks))
          unreadable-by (other, has_other, inr bad) = subst (λ (l : List NamedText). HasBadAnswer (start_of wanted l)) (same-texts files wanted other texts has_other has) bad

  -- the session that is told is held with these texts
  pub session-texts : (texts : List NamedText) → HasTexts files wanted texts → (last : End) → SessionTo wanted files last old new → IsAcceptedStart (start_of wanted texts) × HasTrees wanted texts
  session-texts texts has last h = (
    subst (λ (l : List NamedText). IsAcceptedStart (start_of wanted l)) (same-texts files wanted h.texts texts h.has has) (came-accepted (start_of wanted h.texts) old new last h.came),
    subst (λ (l : List NamedText). HasTrees wanted l) (same-texts files wanted h.texts texts h.has has) h.trees,
  )

  pub no-session-of-many : (last : End) → has_too_many (runs wanted) ≡ true → SessionTo wanted files last old new → ⊥
  no-session-of-many last many h = no-texts files wanted h.texts h.has many
