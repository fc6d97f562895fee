-- Where all agrees, no command on the site that was handed in tells of damage.
use Rattle.std.proofs.Common.{◌≡◌, ◌⊎◌, inl, inr, ◌∙◌, refl, sym, ap, subst, arith, ℕ, Bool, true, false, List, [], ◌∷◌, map, Option, Some, None, Result, Ok, Err}
use Rattle.std.specs.Prelude.{IsTrue, if◌then◌else◌}
use Rattle.serde_json.specs.Data.{Data}
use Rattle.cacao_check.specs.declared.breaks.Mode.TheVariants.{Read as Reading}
use Rattle.cacao_site.proofs.Beats.{told-goes_on}
use Rattle.cacao_site.specs.DiskCalls.{IsLeft}
use Rattle.cacao_site.specs.Sound.{IsSound}
use Rattle.cacao_site.specs.View.{SiteView}
use Rattle.oc2_nets.specs.declared.packets.Packet.{Packet}
use Rattle.cacao_cli_filters.specs.PacketFiles.{packets_of}
use Rattle.flow_engine_reports.specs.RunLines.{lines_of}
use Rattle.flow_core_rules.specs.Givens.{Given}
use Rattle.flow_engine_answers.specs.declared.answers.OperatorAnswer.{OperatorAnswer}
use Rattle.flow_laws.specs.Good.{IsGood}
use Rattle.flow_world.specs.Sessions.{HasRefused}
use Rattle.flow_world.specs.Close.{Close}
use Rattle.flow_world.specs.Close.TheVariants as close
use Rattle.flow_world.specs.WorldError.{WorldError}
use Rattle.flow_world.specs.WorldError.TheVariants as error
use Rattle.cacao_cli_session_laws.specs.Undamaged.{ComesOfTexts, GoodIsUndamaged, IsUndamaged, NoneFindsDamage}
use Rattle.cacao_cli_ends.specs.Asked.{Asked, canonises, checks, runs, shows, lists_rules, decides, shadows, rehearses, audits}
use Rattle.cacao_cli_status_laws.specs.Ended.{Ended, Performs}
use Rattle.cacao_cli_ends.specs.Ends.{End, status_of, accepted, disk_failed, done, no_memory, past}
use Rattle.cacao_cli_looks.specs.Audited.{HasVerdict}
use Rattle.cacao_cli_ends.specs.Comes.{IsOneOf}
use Rattle.cacao_cli_ends.specs.Files.{Files, NamedText, ShelfCall, files_of, has_too_many, Reads}
use Rattle.cacao_cli_session_laws.specs.Holding.{ClosesSo, RefusesSo, close_end, error_end}
use Rattle.cacao_cli_ends.specs.Lines.{Tells}
use Rattle.cacao_cli_looks.specs.Openings.{Opens}
use Rattle.cacao_cli_ends.specs.Work.{Work, ends, judges, opens_filter, opens_run, compares, rehearsals, starts, at_decisions, canon_line, or_end, packets_or_end, start_of, trees_of, trees_wanted, work, work_on}
use Rattle.cacao_cli_ends.specs.declared.limit.Limit.TheVariants.{BookCount}
use Rattle.cacao_cli_status_laws.proofs.AnswerLemmas.{never}
use Rattle.cacao_cli_ends.proofs.TreeCases.{TreesCase, all_trees, one_treeless, trees_case}
use Rattle.cacao_cli_status_laws.proofs.CountLemmas.{read-status}
use Rattle.cacao_cli_status_laws.proofs.ExactLemmas.{performs-comes}
use Rattle.cacao_cli_ends.proofs.LineLemmas.{IsCutOff, says-status, tells-status}
use Rattle.cacao_cli_ends.proofs.ReadLemmas.{Read}

-- ---- other statuses than damage

-- an end of another status
apart-end : (last end : End) (mid new : SiteView) (answer m : ℕ) → last ≡ end → status_of end ≡ m → (m ≡ 13 → ⊥) → Tells last mid new answer → answer ≡ 13 → ⊥
apart-end last end mid new answer m e is other tells thirteen = go (tells-status last mid new answer tells)
  where
    go : (answer ≡ status_of last) ⊎ IsCutOff answer → ⊥
    go (inl f) = other (sym is ∙ ap status_of (sym e) ∙ sym f ∙ thirteen)
    go (inr (inl f)) = omega (arith, f, thirteen)
    go (inr (inr (inl f))) = omega (arith, f, thirteen)
    go (inr (inr (inr h))) = h

says-apart : (lines : List (List ℕ)) (old mid new : SiteView) (last : End) (answer : ℕ) → (answer ≡ 0) ⊎ IsCutOff answer → answer ≡ 13 → ⊥
says-apart lines old mid new last answer (inl f) e = omega (arith, f, e)
says-apart lines old mid new last answer (inr (inl f)) e = omega (arith, f, e)
says-apart lines old mid new last answer (inr (inr (inl f))) e = omega (arith, f, e)
says-apart lines old mid new last answer (inr (inr (inr h))) e = h

close-apart : (how : Close) → status_of (close_end how) ≡ 13 → ⊥
close-apart (close.Ended true) e = omega (arith, e)
close-apart (close.Ended false) e = omega (arith, e)
close-apart close.Paused e = omega (arith, e)
close-apart (close.Waiting moment) e = omega (arith, e)
close-apart close.Flooded e = omega (arith, e)
close-apart (close.Asked issue) e = omega (arith, e)

-- ---- damage

-- the work tells no damage of its own
abbrev MayDo : Work → Type 0
MayDo (ends lines end) = status_of end ≡ 13 → ⊥
MayDo (judges trees mode kept) = MayDo kept
MayDo (opens_filter agent look) = Unit {0}
MayDo opens_run = Unit {0}
MayDo (compares files) = Unit {0}
MayDo (rehearsals positions) = ⊥
MayDo (starts start) = Unit {0}

module _ (undamaged : GoodIsUndamaged) (none : NoneFindsDamage) (old mid new : SiteView) (last : End) (answer : ℕ) (sound_old : IsSound old) (sound_mid : IsSound mid) (told : IsTrue old.disk.told)
    (good : IsGood old old.disk.beat) (tells : Tells last mid new answer) (thirteen : answer ≡ 13) where
  at-start : IsUndamaged old old.disk.beat
  at-start = undamaged old old.disk.beat told sound_old (omega arith) good

  -- what a file reads as that was only opened is an image that it had
  was-image : (file : ℕ) → Opens file old mid → IsLeft old.disk file old.disk.beat (mid.disk.reads file)
  was-image file opens =
      let each = opens.only.each in
      each.each told mid.disk.beat (mid.disk.reads file) each.goes_on.later (omega arith) (sound_mid.reads file (told-goes_on each.goes_on told))

  none-refused : (given : Given) (run most : ℕ) (answers : List OperatorAnswer) (why : WorldError) → ComesOfTexts given → HasRefused why given run most answers old mid → status_of (error_end why) ≡ 13 → ⊥
  none-refused given run most answers error.Disk is h e = omega (arith, e)
  none-refused given run most answers (error.Damaged file place) is h e = none given run most answers old mid file place is told good sound_mid h
  none-refused given run most answers (error.OtherRun held asked) is h e = omega (arith, e)
  none-refused given run most answers (error.OtherBook index) is h e = omega (arith, e)
  none-refused given run most answers (error.RunUsed agent) is h e = omega (arith, e)
  none-refused given run most answers (error.Limit what) is h e = omega (arith, e)
  none-refused given run most answers error.Say is h e = omega (arith, e)
  none-refused given run most answers error.Memory is h e = omega (arith, e)

  work-undamaged : (w : Work) → MayDo w → Performs w old mid last → ⊥
  work-undamaged (ends lines end) b p = go (says-status lines end old mid new last answer p tells)
    where
      go : (answer ≡ status_of end) ⊎ IsCutOff answer → ⊥
      go (inl f) = b (sym f ∙ thirteen)
      go (inr (inl f)) = omega (arith, f, thirteen)
      go (inr (inr (inl f))) = omega (arith, f, thirteen)
      go (inr (inr (inr h))) = h
  work-undamaged (judges trees mode kept) b (inl p) = work-undamaged kept b p.1
  work-undamaged (judges trees mode kept) b (inr (inl p)) = apart-end last _ mid new answer 1 p.ends refl (λ e. omega (arith, e)) tells thirteen
  work-undamaged (judges trees mode kept) b (inr (inr p)) = apart-end last no_memory mid new answer 10 p.ends refl (λ e. omega (arith, e)) tells thirteen
  work-undamaged (opens_filter agent look) b (inl p) = says-apart p.lines p.between mid new last answer (says-status p.lines done p.between mid new last answer p.says tells) thirteen
  work-undamaged (opens_filter agent look) b (inr (inl p)) =
      at-start.filters agent p.of_agent (mid.disk.reads agent) p.place (was-image agent p.opens) (p.is_damaged told)
  work-undamaged (opens_filter agent look) b (inr (inr (inl p))) = apart-end last disk_failed mid new answer 8 p.ends refl (λ e. omega (arith, e)) tells thirteen
  work-undamaged (opens_filter agent look) b (inr (inr (inr p))) = apart-end last no_memory mid new answer 10 p.ends refl (λ e. omega (arith, e)) tells thirteen
  work-undamaged opens_run b (inl p) = says-apart (lines_of p.text) p.between mid new last answer (says-status (lines_of p.text) done p.between mid new last answer p.says tells) thirteen
  work-undamaged opens_run b (inr (inl p)) =
      at-start.reports (mid.disk.reads 0) p.place (was-image 0 p.opens) (p.is_damaged told)
  work-undamaged opens_run b (inr (inr (inl p))) = apart-end last _ mid new answer 11 p.ends refl (λ e. omega (arith, e)) tells thirteen
  work-undamaged opens_run b (inr (inr (inr (inl p)))) = apart-end last disk_failed mid new answer 8 p.ends refl (λ e. omega (arith, e)) tells thirteen
  work-undamaged opens_run b (inr (inr (inr (inr p)))) = apart-end last no_memory mid new answer 10 p.ends refl (λ e. omega (arith, e)) tells thirteen
  work-undamaged (compares files) b p = go (performs-comes (compares files) old mid new last answer p tells)
    where
      go : HasVerdict files answer ⊎ IsCutOff answer → ⊥
      go (inl (inl h)) = omega (arith, h.1, thirteen)
      go (inl (inr (inl h))) = omega (arith, h.1, thirteen)
      go (inl (inr (inr h))) = omega (arith, h.1, thirteen)
      go (inr (inl f)) = omega (arith, f, thirteen)
      go (inr (inr (inl f))) = omega (arith, f, thirteen)
      go (inr (inr (inr h))) = h
  work-undamaged (rehearsals positions) b p = b
  work-undamaged (starts start) b (inl p) = apart-end last _ mid new answer 5 p.ends refl (λ e. omega (arith, e)) tells thirteen
  work-undamaged (starts start) b (inr (inl p)) = apart-end last _ mid new answer 1 p.ends refl (λ e. omega (arith, e)) tells thirteen
  work-undamaged (starts start) b (inr (inr (inl p))) = apart-end last _ mid new answer 1 p.ends refl (λ e. omega (arith, e)) tells thirteen
  work-undamaged (starts start) b (inr (inr (inr (inl p)))) = go p.holds.held
    where
      go : ClosesSo p.given start.run start.most p.answers old mid last ⊎ RefusesSo p.given start.run start.most p.answers old mid last → ⊥
      go (inl c) = apart-end last (close_end c.close) mid new answer (status_of (close_end c.close)) c.ends refl (close-apart c.close) tells thirteen
      go (inr r) = apart-end last (error_end r.error) mid new answer (status_of (error_end r.error)) r.ends refl
          (none-refused p.given start.run start.most p.answers r.error (record { texts = start.books; bind = start.bind; accepted = p.accepted }) r.why) tells thirteen
  work-undamaged (starts start) b (inr (inr (inr (inr p)))) = apart-end last no_memory mid new answer 10 p.ends refl (λ e. omega (arith, e)) tells thirteen

-- ---- by the words

-- the command opens no site of its own
abbrev IsOnSite : Asked → Type 0
IsOnSite (canonises book) = Unit {0}
IsOnSite (checks books) = Unit {0}
IsOnSite (runs wanted) = Unit {0}
IsOnSite shows = Unit {0}
IsOnSite (lists_rules agent) = Unit {0}
IsOnSite (decides agent packets) = Unit {0}
IsOnSite (shadows agent) = Unit {0}
IsOnSite (rehearses positions) = ⊥
IsOnSite (audits engine filters) = Unit {0}

trees-may : (texts : List NamedText) (does : List Data → Work) → ((roots : List Data) → MayDo (does roots)) → MayDo (or_end (trees_of texts) does)
trees-may texts does each = go (trees_case texts)
  where
    go : TreesCase texts → MayDo (or_end (trees_of texts) does)
    go (all_trees roots r e) = subst (λ (r : Result (List Data) End). MayDo (or_end r does)) (sym e) (each roots)
    go (one_treeless name reason r e) = subst (λ (r : Result (List Data) End). MayDo (or_end r does)) (sym e) (λ f. omega (arith, f))

texts-may : (asked : Asked) (texts : List NamedText) → IsOnSite asked → MayDo (work_on asked texts)
texts-may (canonises book) texts on = trees-may texts (λ roots. ends (map canon_line roots) done) (λ roots e. omega (arith, e))
texts-may (checks books) texts on = trees-may texts (λ roots. judges roots Reading (ends [] accepted)) (λ roots e. omega (arith, e))
texts-may (runs wanted) texts on = trees-may (trees_wanted wanted texts) (λ roots. starts (start_of wanted texts)) (λ roots. tt)
texts-may shows texts on = tt
texts-may (lists_rules agent) texts on = tt
texts-may (decides agent packets) [] on = tt
texts-may (decides agent packets) (text ∷ texts) on = go (packets_of text.bytes)
  where
    go : (r : Result (List (ℕ × Packet)) ℕ) → MayDo (or_end (packets_or_end text.name r) (λ found. opens_filter agent (at_decisions found)))
    go (Err number) = λ e. omega (arith, e)
    go (Ok found) = tt
texts-may (shadows agent) texts on = tt
texts-may (rehearses positions) texts on = absurd on
texts-may (audits engine filters) texts on = tt

-- reading ends with other statuses
read-apart : (n : ℕ) → IsOneOf n (3 ∷ 4 ∷ 10 ∷ 11 ∷ []) → n ≡ 13 → ⊥
read-apart n (inl e) f = omega (arith, e, f)
read-apart n (inr (inl e)) f = omega (arith, e, f)
read-apart n (inr (inr (inl e))) f = omega (arith, e, f)
read-apart n (inr (inr (inr (inl e)))) f = omega (arith, e, f)
read-apart n (inr (inr (inr (inr h)))) f = h

work-may : (asked : Asked) (told : Option Files) (count : ℕ) (read : Read) → IsOnSite asked → Reads told (files_of (Some asked)) count read → MayDo (work (Some asked) read)
work-may asked told count read on reads = go (has_too_many asked) read (λ end e. read-status told (files_of (Some asked)) count read end reads e)
  where
    go : (b : Bool) (r : Read) → ((end : End) → r ≡ Err end → IsOneOf (status_of end) (3 ∷ 4 ∷ 10 ∷ 11 ∷ [])) → MayDo (if b then ends [] (past BookCount) else or_end r (work_on asked))
    go true r each = λ e. omega (arith, e)
    go false (Err end) each = λ e. read-apart (status_of end) (each end refl) e
    go false (Ok texts) each = texts-may asked texts on

module _ (undamaged : GoodIsUndamaged) (none : NoneFindsDamage) (shelf : ShelfCall) (old new : SiteView) (answer : ℕ) (sound : IsSound old) (told : IsTrue old.disk.told) (good : IsGood old old.disk.beat) where
  asked-undamaged : (asked : Asked) → IsOnSite asked → (ended : Ended (Some asked) shelf old new answer) → IsSound ended.between → answer ≡ 13 → ⊥
  asked-undamaged asked on ended later e =
      let p = ended.performed in
      work-undamaged undamaged none old ended.between new ended.last answer sound later told good ended.tells e (work (Some asked) p.read)
      (work-may asked shelf.told p.reads.count p.read on p.reads.reads) p.performs

  pub undamaged-ended : (asked : Option Asked) (ended : Ended asked shelf old new answer) → IsSound ended.between → answer ≡ 13 → ⊥
  undamaged-ended None ended later = never None shelf old new answer 13 refl ended
  undamaged-ended (Some (canonises book)) ended later = never (Some (canonises book)) shelf old new answer 13 refl ended
  undamaged-ended (Some (checks books)) ended later = never (Some (checks books)) shelf old new answer 13 refl ended
  undamaged-ended (Some (runs wanted)) ended later = asked-undamaged (runs wanted) tt ended later
  undamaged-ended (Some shows) ended later = asked-undamaged shows tt ended later
  undamaged-ended (Some (lists_rules agent)) ended later = asked-undamaged (lists_rules agent) tt ended later
  undamaged-ended (Some (decides agent packets)) ended later = asked-undamaged (decides agent packets) tt ended later
  undamaged-ended (Some (shadows agent)) ended later = asked-undamaged (shadows agent) tt ended later
  undamaged-ended (Some (rehearses positions)) ended later = never (Some (rehearses positions)) shelf old new answer 13 refl ended
  undamaged-ended (Some (audits engine filters)) ended later = never (Some (audits engine filters)) shelf old new answer 13 refl ended
