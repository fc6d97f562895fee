-- Which counts a call raises, and which statuses come of which work.
use Rattle.std.proofs.Common.{◌≡◌, ◌⊎◌, inl, inr, ◌∙◌, refl, sym, ap, subst, arith, ℕ, ◌==◌, Bool, true, false, List, [], ◌∷◌, map, Option, Some, None, Result, Ok, Err}
use Rattle.std.specs.Prelude.{if◌then◌else◌}
use Rattle.std.proofs.lemmas.Bool.{true≢false}
use Rattle.serde_json.specs.Data.{Data}
use Rattle.cacao_site.specs.Counts.{Rose, next_count}
use Rattle.cacao_site.specs.View.{SiteView}
use Rattle.cacao_check.specs.declared.breaks.Mode.TheVariants.{Read as Reading}
use Rattle.oc2_nets.specs.declared.packets.Packet.{Packet}
use Rattle.cacao_cli_filters.specs.PacketFiles.{packets_of}
use Rattle.cacao_cli_words.specs.Words.{Text}
use Rattle.cacao_cli_ends.specs.Asked.{Asked, canonises, checks, shows, lists_rules, decides, shadows, rehearses, audits, runs}
use Rattle.cacao_cli_ends.specs.Ends.{End, status_of, text_of, is_fault, done, accepted, refused, past, shelf_failed, no_such_file, unsaid, no_memory}
use Rattle.cacao_cli_ends.specs.Files.{File, Files, Content, ShelfCall, NamedText, Reads, all_read, wants_memory, stops, goes_on, text_in, item_then, named, whole, missing, too_long, failed, no_room, faults_behind, files_of, named_by, has_too_many}
use Rattle.cacao_cli_ends.specs.Lines.{SaysWork, Tells}
use Rattle.cacao_cli_ends.specs.Work.{Work, ends, judges, opens_filter, opens_run, compares, rehearsals, at_decisions, or_end, packets_or_end, trees_of, canon_line, work, work_on, starts, start_of, trees_wanted}
use Rattle.cacao_cli_status_laws.specs.Ended.{Performs, Performed, Ended}
use Rattle.cacao_cli_ends.specs.Comes.{IsOneOf}
use Rattle.cacao_cli_ends.specs.Stays.{NoFault}
use Rattle.cacao_cli_ends.specs.declared.limit.Limit.TheVariants.{BookCount}
use Rattle.cacao_cli_looks.proofs.AuditLemmas.{compares-failed, compares-said, compares-unsaid, has-other}
use Rattle.cacao_cli_status_laws.proofs.RehearseLemmas.{rehearsed-other, rehearses-said, rehearses-unsaid}
use Rattle.cacao_cli_ends.proofs.TreeCases.{TreesCase, all_trees, one_treeless, trees_case}
use Rattle.cacao_cli_status_laws.proofs.ExactLemmas.{Comes, performs-comes}
use Rattle.cacao_cli_ends.proofs.StatusLists.{not-among, session_statuses}
use Rattle.cacao_cli_status_laws.proofs.JudgedLemmas.{settled-listed}
use Rattle.cacao_cli_ends.proofs.EndLemmas.{end-failed, no-more, no_cons}
use Rattle.cacao_cli_status_laws.proofs.LeaveLemmas.{rehearse-performed}
use Rattle.cacao_cli_status_laws.proofs.OpenLemmas.{opens-said, opens-unsaid, opens-failed}
use Rattle.cacao_cli_status_laws.proofs.RunLemmas.{run-failed, run-said, run-unsaid}
use Rattle.cacao_cli_looks.proofs.RunLemmas.{shown-other}
use Rattle.cacao_cli_status_laws.proofs.StartLemmas.{start-failed, start-said, start-unsaid}
use Rattle.cacao_cli_status_laws.proofs.SteadyLemmas.{disk-steady-ended}
use Rattle.cacao_cli_ends.proofs.UnsaidLemmas.{last-said, last-unsaid, works-said, works-unsaid}
use Rattle.cacao_cli_ends.proofs.LineLemmas.{IsCutOff, tells-status}
use Rattle.cacao_cli_ends.proofs.ReadLemmas.{Read, empty-read}

performs-said : (w : Work) (old mid new : SiteView) (last : End) (answer : ℕ) → Performs w old mid last → Tells last mid new answer → (answer ≡ 9 → ⊥) → new.counts.unsaid ≡ old.counts.unsaid
performs-said (ends lines end) old mid new last answer h tells unlike = works-said lines end old mid new last answer h tells unlike
performs-said (judges trees mode kept) old mid new last answer (inl h) tells unlike = performs-said kept old mid new last answer h.1 tells unlike
performs-said (judges trees mode kept) old mid new last answer (inr (inl h)) tells unlike = last-said last (text_of last) mid new answer tells unlike ∙ ap (λ (s : SiteView). s.counts.unsaid) h.same
performs-said (judges trees mode kept) old mid new last answer (inr (inr h)) tells unlike = last-said last (text_of last) mid new answer tells unlike ∙ ap (λ (s : SiteView). s.counts.unsaid) h.same
performs-said (opens_filter agent look) old mid new last answer h tells unlike = opens-said agent look old mid new last answer h tells unlike
performs-said opens_run old mid new last answer h tells unlike = run-said old mid new last answer h tells unlike
performs-said (compares files) old mid new last answer h tells unlike = compares-said files old mid new last answer h tells unlike
performs-said (rehearsals positions) old mid new last answer h tells unlike = rehearses-said positions old mid new last answer h tells unlike
performs-said (starts start) old mid new last answer h tells unlike = start-said start old mid new last answer h tells unlike

-- the work ends with other statuses than 2, 3, 8 and 9
abbrev pub IsOther : Work → Type 0
IsOther (ends lines end) = (status_of end ≡ 2 → ⊥) × (status_of end ≡ 3 → ⊥) × (status_of end ≡ 9 → ⊥) × (status_of end ≡ 8 → ⊥)
IsOther (judges trees mode kept) = IsOther kept
IsOther (opens_filter agent look) = Unit {0}
IsOther opens_run = Unit {0}
IsOther (compares files) = Unit {0}
IsOther (rehearsals positions) = Unit {0}
IsOther (starts start) = Unit {0}

session-other : (n : ℕ) → IsOneOf n session_statuses → (n ≡ 2 → ⊥) × (n ≡ 3 → ⊥)
session-other n h = (λ e. two (subst (λ m. IsOneOf m session_statuses) e h), λ e. three (subst (λ m. IsOneOf m session_statuses) e h))
  where
    two : IsOneOf 2 session_statuses → ⊥
    two h = not-among 2 session_statuses refl h

    three : IsOneOf 3 session_statuses → ⊥
    three h = not-among 3 session_statuses refl h

other-status : (w : Work) (old new : SiteView) (n : ℕ) → IsOther w → Comes w old new n → (n ≡ 2 → ⊥) × (n ≡ 3 → ⊥)
other-status (ends lines end) old new n h is = (λ e. h.0 (sym is ∙ e), λ e. h.1 (sym is ∙ e))
other-status (judges trees mode kept) old new n h (inl is) = other-status kept old new n h is.1
other-status (judges trees mode kept) old new n h (inr is) = (λ e. omega (arith, e, is.1), λ e. omega (arith, e, is.1))
other-status (opens_filter agent look) old new n h (inl (inl is)) = (λ e. omega (arith, e, is.1), λ e. omega (arith, e, is.1))
other-status (opens_filter agent look) old new n h (inl (inr is)) = (λ e. omega (arith, e, is.1), λ e. omega (arith, e, is.1))
other-status (opens_filter agent look) old new n h (inr is) = (λ e. omega (arith, e, is), λ e. omega (arith, e, is))
other-status opens_run old new n h is = (
  λ e. shown-other old new n 2 is e (λ f. omega (arith, f)) (λ f. omega (arith, f)) (λ f. omega (arith, f)) (λ f. omega (arith, f)),
  λ e. shown-other old new n 3 is e (λ f. omega (arith, f)) (λ f. omega (arith, f)) (λ f. omega (arith, f)) (λ f. omega (arith, f)),
)
other-status (compares files) old new n h is = (
  λ e. has-other files n 2 is e (λ f. omega (arith, f)) (λ f. omega (arith, f)) (λ f. omega (arith, f)),
  λ e. has-other files n 3 is e (λ f. omega (arith, f)) (λ f. omega (arith, f)) (λ f. omega (arith, f)),
)
other-status (rehearsals positions) old new n h is = (
  λ e. rehearsed-other positions n 2 is e (λ f. omega (arith, f)) refl,
  λ e. rehearsed-other positions n 3 is e (λ f. omega (arith, f)) refl,
)
other-status (starts start) old new n h (inl is) = (λ e. omega (arith, e, is.1), λ e. omega (arith, e, is.1))
other-status (starts start) old new n h (inr (inl is)) = (λ e. omega (arith, e, is.1), λ e. omega (arith, e, is.1))
other-status (starts start) old new n h (inr (inr is)) = session-other n (settled-listed start is)

-- neither 8 nor 9 is told as the end of lines
abbrev pub NotUnsaid : Work → Type 0
NotUnsaid (ends lines end) = (status_of end ≡ 9 → ⊥) × (status_of end ≡ 8 → ⊥)
NotUnsaid (judges trees mode kept) = NotUnsaid kept
NotUnsaid (opens_filter agent look) = Unit {0}
NotUnsaid opens_run = Unit {0}
NotUnsaid (compares files) = Unit {0}
NotUnsaid (rehearsals positions) = Unit {0}
NotUnsaid (starts start) = Unit {0}

other-said : (w : Work) → IsOther w → NotUnsaid w
other-said (ends lines end) h = (h.2, h.3)
other-said (judges trees mode kept) h = other-said kept h
other-said (opens_filter agent look) h = tt
other-said opens_run h = tt
other-said (compares files) h = tt
other-said (rehearsals positions) h = tt
other-said (starts start) h = tt

-- the work is done with the site that is handed in
abbrev pub IsHanded : Work → Type 0
IsHanded (ends lines end) = Unit {0}
IsHanded (judges trees mode kept) = IsHanded kept
IsHanded (opens_filter agent look) = Unit {0}
IsHanded opens_run = Unit {0}
IsHanded (compares files) = Unit {0}
IsHanded (rehearsals positions) = ⊥
IsHanded (starts start) = Unit {0}

rose-next : (n m : ℕ) → m ≡ next_count n → Rose n m
rose-next n m e = omega (arith, e)

performs-unsaid : (w : Work) (old mid new : SiteView) (last : End) (answer : ℕ) → IsHanded w → NotUnsaid w → Performs w old mid last → Tells last mid new answer → answer ≡ 9 → Rose old.counts.unsaid new.counts.unsaid
performs-unsaid (ends lines end) old mid new last answer handed other h tells e = rose-next old.counts.unsaid new.counts.unsaid (works-unsaid lines end old mid new last answer other.0 h tells e)
performs-unsaid (judges trees mode kept) old mid new last answer handed other (inl h) tells e = performs-unsaid kept old mid new last answer handed other h.1 tells e
performs-unsaid (judges trees mode kept) old mid new last answer handed other (inr (inl h)) tells e = rose-next old.counts.unsaid new.counts.unsaid
    (last-unsaid last (text_of last) mid new answer (λ is. let k : status_of last ≡ 1 = ap status_of h.ends in omega (arith, is, k)) tells e ∙ ap (λ (s : SiteView). next_count s.counts.unsaid) h.same)
performs-unsaid (judges trees mode kept) old mid new last answer handed other (inr (inr h)) tells e = absurd (omega (arith, e, (no-more last no_memory mid new answer h.ends refl tells).1))
performs-unsaid (opens_filter agent look) old mid new last answer handed other h tells e = rose-next old.counts.unsaid new.counts.unsaid (opens-unsaid agent look old mid new last answer h tells e)
performs-unsaid opens_run old mid new last answer handed other h tells e = rose-next old.counts.unsaid new.counts.unsaid (run-unsaid old mid new last answer h tells e)
performs-unsaid (compares files) old mid new last answer handed other h tells e = rose-next old.counts.unsaid new.counts.unsaid (compares-unsaid files old mid new last answer h tells e)
performs-unsaid (rehearsals positions) old mid new last answer handed other h tells e = absurd handed
performs-unsaid (starts start) old mid new last answer handed other h tells e = start-unsaid start old mid new last answer h tells e

eight : (end : End) (last : End) (mid new : SiteView) (answer : ℕ) → last ≡ end → (status_of end ≡ 8 → ⊥) → Tells last mid new answer → answer ≡ 8 → ⊥
eight end last mid new answer is other tells e = go (tells-status last mid new answer tells)
  where
    go : (answer ≡ status_of last) ⊎ IsCutOff answer → ⊥
    go (inl f) = other (sym (ap status_of is) ∙ sym f ∙ e)
    go (inr (inl f)) = omega (arith, e, f)
    go (inr (inr (inl f))) = omega (arith, e, f)
    go (inr (inr (inr f))) = f

performs-failed : (w : Work) (old mid new : SiteView) (last : End) (answer : ℕ) → IsHanded w → NotUnsaid w → Performs w old mid last → Tells last mid new answer → answer ≡ 8 → Rose old.disk.faults new.disk.faults
performs-failed (ends lines end) old mid new last answer handed other (inl h) tells e = absurd (eight end last mid new answer h.ends other.1 tells e)
performs-failed (ends lines end) old mid new last answer handed other (inr (inl h)) tells e = absurd (eight unsaid last mid new answer h.ends (λ f. omega (arith, f)) tells e)
performs-failed (ends lines end) old mid new last answer handed other (inr (inr h)) tells e = absurd (eight no_memory last mid new answer h.ends (λ f. omega (arith, f)) tells e)
performs-failed (judges trees mode kept) old mid new last answer handed other (inl h) tells e = performs-failed kept old mid new last answer handed other h.1 tells e
performs-failed (judges trees mode kept) old mid new last answer handed other (inr (inl h)) tells e = absurd (eight (refused h.broken) last mid new answer h.ends (λ f. omega (arith, f)) tells e)
performs-failed (judges trees mode kept) old mid new last answer handed other (inr (inr h)) tells e = absurd (eight no_memory last mid new answer h.ends (λ f. omega (arith, f)) tells e)
performs-failed (opens_filter agent look) old mid new last answer handed other h tells e = opens-failed agent look old mid new last answer h tells e
performs-failed opens_run old mid new last answer handed other h tells e = run-failed old mid new last answer h tells e
performs-failed (compares files) old mid new last answer handed other h tells e = absurd (compares-failed files old mid new last answer h tells e)
performs-failed (rehearsals positions) old mid new last answer handed other h tells e = absurd handed
performs-failed (starts start) old mid new last answer handed other h tells e = start-failed start old mid new last answer h tells e

-- ---- the statuses of the work

content-status : (file : File) (content : Content) (end : End) → text_in file content ≡ Err end → IsOneOf (status_of end) (3 ∷ 4 ∷ 10 ∷ 11 ∷ [])
content-status file (whole bytes) end e = absurd (cc)
content-status file missing end e = let is : end ≡ no_such_file file.name = cc in inr (inl (ap status_of is))
content-status file too_long end e = let is : end ≡ past file.limit = cc in inr (inr (inr (inl (ap status_of is))))
content-status file failed end e = let is : end ≡ shelf_failed file.name = cc in inl (ap status_of is)
content-status file no_room end e = let is : end ≡ no_memory = cc in inr (inr (inl (ap status_of is)))

pub read-status : (told : Option Files) (list : List File) (count : ℕ) (read : Read) (end : End) → Reads told list count read → read ≡ Err end → IsOneOf (status_of end) (3 ∷ 4 ∷ 10 ∷ 11 ∷ [])
read-status told list count read end all_read e = absurd (cc)
read-status told list count read end (wants_memory file behind) e = let is : end ≡ no_memory = cc in inr (inr (inl (ap status_of is)))
read-status told list count read end (stops file behind content stop gives is) e = let same : end ≡ stop = cc in subst (λ (x : End). IsOneOf (status_of x) (3 ∷ 4 ∷ 10 ∷ 11 ∷ [])) (sym same) (content-status file content stop is)
read-status told list count read end (goes_on file behind bytes more rest gives reads) e = go rest (λ f. read-status told behind more rest end reads f) e
  where
    go : (r : Read) → (r ≡ Err end → IsOneOf (status_of end) (3 ∷ 4 ∷ 10 ∷ 11 ∷ [])) → item_then (Ok (named file.name bytes)) r ≡ Err end → IsOneOf (status_of end) (3 ∷ 4 ∷ 10 ∷ 11 ∷ [])
    go (Err stop) h e = h e
    go (Ok texts) h e = absurd (cc)

-- the work with the texts ends with other statuses
trees-other : (texts : List NamedText) (does : List Data → Work) → ((roots : List Data) → IsOther (does roots)) → IsOther (or_end (trees_of texts) does)
trees-other texts does so = go (trees_case texts)
  where
    go : TreesCase texts → IsOther (or_end (trees_of texts) does)
    go (all_trees roots r e) = subst (λ (r : Result (List Data) End). IsOther (or_end r does)) (sym e) (so roots)
    go (one_treeless name reason r e) = subst (λ (r : Result (List Data) End). IsOther (or_end r does)) (sym e) ((λ e. omega (arith, e), λ e. omega (arith, e), λ e. omega (arith, e), λ e. omega (arith, e)))

texts-other : (asked : Asked) (texts : List NamedText) → IsOther (work_on asked texts)
texts-other (canonises book) texts = trees-other texts (λ roots. ends (map canon_line roots) done) (λ roots. (λ e. omega (arith, e), λ e. omega (arith, e), λ e. omega (arith, e), λ e. omega (arith, e)))
texts-other (checks books) texts = trees-other texts (λ roots. judges roots Reading (ends [] accepted)) (λ roots. (λ e. omega (arith, e), λ e. omega (arith, e), λ e. omega (arith, e), λ e. omega (arith, e)))
texts-other (runs wanted) texts = trees-other (trees_wanted wanted texts) (λ roots. starts (start_of wanted texts)) (λ roots. tt)
texts-other shows texts = tt
texts-other (lists_rules agent) texts = tt
texts-other (shadows agent) texts = tt
texts-other (rehearses positions) texts = tt
texts-other (audits engine filters) texts = tt
texts-other (decides agent packets) [] = tt
texts-other (decides agent packets) (text ∷ texts) = go (packets_of text.bytes)
  where
    go : (r : Result (List (ℕ × Packet)) ℕ) → IsOther (or_end (packets_or_end text.name r) (λ found. opens_filter agent (at_decisions found)))
    go (Ok found) = tt
    go (Err number) = (λ e. omega (arith, e), λ e. omega (arith, e), λ e. omega (arith, e), λ e. omega (arith, e))

-- a command ends with a status by its texts, with that of a file, or for too many playbooks
data StatusCase (asked : Asked) (read : Read) : Type 0 where
  too_many : has_too_many asked ≡ true → work (Some asked) read ≡ ends [] (past BookCount) → StatusCase asked read
  by_file : (end : End) → has_too_many asked ≡ false → read ≡ Err end → work (Some asked) read ≡ ends [] end → StatusCase asked read
  by_texts : IsOther (work (Some asked) read) → StatusCase asked read

status_case : (asked : Asked) (read : Read) → StatusCase asked read
status_case asked read = go (has_too_many asked) refl
  where
    at : (b : Bool) → b ≡ has_too_many asked → work (Some asked) read ≡ (if b then ends [] (past BookCount) else or_end read (work_on asked))
    at b is = ap (λ (b : Bool). if b then ends [] (past BookCount) else or_end read (work_on asked)) (sym is)

    go : (b : Bool) → b ≡ has_too_many asked → StatusCase asked read
    go true is = too_many (sym is) (at true is)
    go false is = by read refl
      where
        by : (r : Read) → read ≡ r → StatusCase asked read
        by (Err end) e = by_file end (sym is) e (at false is ∙ ap (λ (r : Read). or_end r (work_on asked)) e)
        by (Ok texts) e = by_texts (subst IsOther (sym (at false is ∙ ap (λ (r : Read). or_end r (work_on asked)) e)) (texts-other asked texts))

among-file : (n : ℕ) → IsOneOf n (3 ∷ 4 ∷ 10 ∷ 11 ∷ []) → (n ≡ 2 → ⊥) × (n ≡ 9 → ⊥) × (n ≡ 8 → ⊥)
among-file n (inl e) = (λ f. omega (arith, e, f), λ f. omega (arith, e, f), λ f. omega (arith, e, f))
among-file n (inr (inl e)) = (λ f. omega (arith, e, f), λ f. omega (arith, e, f), λ f. omega (arith, e, f))
among-file n (inr (inr (inl e))) = (λ f. omega (arith, e, f), λ f. omega (arith, e, f), λ f. omega (arith, e, f))
among-file n (inr (inr (inr (inl e)))) = (λ f. omega (arith, e, f), λ f. omega (arith, e, f), λ f. omega (arith, e, f))
among-file n (inr (inr (inr (inr h)))) = absurd h

has-end : (w : Work) (end : End) (old new : SiteView) (n : ℕ) → w ≡ ends [] end → Comes w old new n → n ≡ status_of end
has-end w end old new n is h = subst (λ (w : Work). Comes w old new n) is h

-- neither 2 nor 9 is a status of the work of a command
some-status : (asked : Asked) (told : Option Files) (count : ℕ) (read : Read) (old new : SiteView) (n : ℕ) → Reads told (files_of (Some asked)) count read → Comes (work (Some asked) read) old new n → n ≡ 2 → ⊥
some-status asked told count read old new n reads h = go (status_case asked read)
  where
    go : StatusCase asked read → n ≡ 2 → ⊥
    go (too_many many is) e = let k : n ≡ 11 = has-end (work (Some asked) read) (past BookCount) old new n is h in omega (arith, e, k)
    go (by_file end few f is) e = (among-file (status_of end) (read-status told (files_of (Some asked)) count read end reads f)).0 (sym (has-end (work (Some asked) read) end old new n is h) ∙ e)
    go (by_texts other) e = (other-status (work (Some asked) read) old new n other h).0 e

no-nine : (asked : Option Asked) (told : Option Files) (count : ℕ) (read : Read) → Reads told (files_of asked) count read → NotUnsaid (work asked read)
no-nine None told count read reads = (λ e. omega (arith, e), λ e. omega (arith, e))
no-nine (Some asked) told count read reads = go (status_case asked read)
  where
    go : StatusCase asked read → NotUnsaid (work (Some asked) read)
    go (too_many many is) = subst NotUnsaid (sym is) (λ e. omega (arith, e), λ e. omega (arith, e))
    go (by_file end few f is) = let a = among-file (status_of end) (read-status told (files_of (Some asked)) count read end reads f) in subst NotUnsaid (sym is) (a.1, a.2)
    go (by_texts other) = other-said (work (Some asked) read) other

-- ---- the clauses

-- 2 comes only of words with no reading
pub understood-ended : (asked : Option Asked) (shelf : ShelfCall) (old new : SiteView) (answer : ℕ) → Ended asked shelf old new answer → answer ≡ 2 → asked ≡ None
understood-ended None shelf old new answer h e = refl
understood-ended (Some asked) shelf old new answer h e = absurd (go (performs-comes (work (Some asked) h.performed.read) old h.between new h.last answer h.performed.performs h.tells))
  where
    go : Comes (work (Some asked) h.performed.read) old new answer ⊎ IsCutOff answer → ⊥
    go (inl is) = some-status asked shelf.told h.performed.reads.count h.performed.read old new answer h.performed.reads.reads is e
    go (inr (inl is)) = omega (arith, e, is)
    go (inr (inr (inl is))) = omega (arith, e, is)
    go (inr (inr (inr x))) = x

pub not_understood-ended : (asked : Option Asked) (shelf : ShelfCall) (old new : SiteView) (answer : ℕ) → Ended asked shelf old new answer → asked ≡ None → IsOneOf answer (2 ∷ 9 ∷ 10 ∷ [])
not_understood-ended None shelf old new answer h e = go (performs-comes (work None h.performed.read) old h.between new h.last answer h.performed.performs h.tells)
  where
    go : (answer ≡ 2) ⊎ IsCutOff answer → IsOneOf answer (2 ∷ 9 ∷ 10 ∷ [])
    go (inl is) = inl is
    go (inr c) = inr c
not_understood-ended (Some asked) shelf old new answer h e = absurd (cc)

-- all commands but `rehearse` do their work with that site
abbrev pub WithSite : Option Asked → Type 0
WithSite None = Unit {0}
WithSite (Some (canonises book)) = Unit {0}
WithSite (Some (checks books)) = Unit {0}
WithSite (Some (runs wanted)) = Unit {0}
WithSite (Some shows) = Unit {0}
WithSite (Some (lists_rules agent)) = Unit {0}
WithSite (Some (decides agent packets)) = Unit {0}
WithSite (Some (shadows agent)) = Unit {0}
WithSite (Some (rehearses positions)) = ⊥
WithSite (Some (audits engine filters)) = Unit {0}

handed-trees : (r : Result (List Data) End) (does : List Data → Work) → ((roots : List Data) → IsHanded (does roots)) → IsHanded (or_end r does)
handed-trees (Err end) does each = tt
handed-trees (Ok roots) does each = each roots

handed-texts : (asked : Asked) (texts : List NamedText) → WithSite (Some asked) → IsHanded (work_on asked texts)
handed-texts (canonises book) texts h = handed-trees (trees_of texts) (λ roots. ends (map canon_line roots) done) (λ roots. tt)
handed-texts (checks books) texts h = handed-trees (trees_of texts) (λ roots. judges roots Reading (ends [] accepted)) (λ roots. tt)
handed-texts (runs wanted) texts h = handed-trees (trees_of (trees_wanted wanted texts)) (λ roots. starts (start_of wanted texts)) (λ roots. tt)
handed-texts shows texts h = tt
handed-texts (lists_rules agent) texts h = tt
handed-texts (shadows agent) texts h = tt
handed-texts (rehearses positions) texts h = absurd h
handed-texts (audits engine filters) texts h = tt
handed-texts (decides agent packets) [] h = tt
handed-texts (decides agent packets) (text ∷ texts) h = go (packets_of text.bytes)
  where
    go : (r : Result (List (ℕ × Packet)) ℕ) → IsHanded (or_end (packets_or_end text.name r) (λ found. opens_filter agent (at_decisions found)))
    go (Ok found) = tt
    go (Err number) = tt

handed-work : (asked : Option Asked) (read : Read) → WithSite asked → IsHanded (work asked read)
handed-work None read h = tt
handed-work (Some asked) read h = go (has_too_many asked) read
  where
    go : (b : Bool) (r : Read) → IsHanded (if b then ends [] (past BookCount) else or_end r (work_on asked))
    go true r = tt
    go false (Err end) = tt
    go false (Ok texts) = handed-texts asked texts h

rose-unsaid : (asked : Option Asked) (shelf : ShelfCall) (old new : SiteView) (answer : ℕ) → WithSite asked → Ended asked shelf old new answer → answer ≡ 9 → Rose old.counts.unsaid new.counts.unsaid
rose-unsaid asked shelf old new answer has h e = performs-unsaid (work asked h.performed.read) old h.between new h.last answer (handed-work asked h.performed.read has)
    (no-nine asked shelf.told h.performed.reads.count h.performed.read h.performed.reads.reads) h.performed.performs h.tells e

pub unsaid-ended : (asked : Option Asked) (shelf : ShelfCall) (old new : SiteView) (answer : ℕ) → Ended asked shelf old new answer → answer ≡ 9 → Rose old.counts.unsaid new.counts.unsaid
unsaid-ended None shelf old new answer h e = rose-unsaid None shelf old new answer tt h e
unsaid-ended (Some (canonises book)) shelf old new answer h e = rose-unsaid (Some (canonises book)) shelf old new answer tt h e
unsaid-ended (Some (checks books)) shelf old new answer h e = rose-unsaid (Some (checks books)) shelf old new answer tt h e
unsaid-ended (Some (runs wanted)) shelf old new answer h e = rose-unsaid (Some (runs wanted)) shelf old new answer tt h e
unsaid-ended (Some shows) shelf old new answer h e = rose-unsaid (Some shows) shelf old new answer tt h e
unsaid-ended (Some (lists_rules agent)) shelf old new answer h e = rose-unsaid (Some (lists_rules agent)) shelf old new answer tt h e
unsaid-ended (Some (decides agent packets)) shelf old new answer h e = rose-unsaid (Some (decides agent packets)) shelf old new answer tt h e
unsaid-ended (Some (shadows agent)) shelf old new answer h e = rose-unsaid (Some (shadows agent)) shelf old new answer tt h e
unsaid-ended (Some (audits engine filters)) shelf old new answer h e = rose-unsaid (Some (audits engine filters)) shelf old new answer tt h e
unsaid-ended (Some (rehearses positions)) shelf old new answer h e = rehearses-unsaid positions old h.between new h.last answer (rehearse-performed positions shelf old h.between h.last h.performed) h.tells e

pub said-ended : (asked : Option Asked) (shelf : ShelfCall) (old new : SiteView) (answer : ℕ) → Ended asked shelf old new answer → (answer ≡ 9 → ⊥) → new.counts.unsaid ≡ old.counts.unsaid
said-ended asked shelf old new answer h unlike = performs-said (work asked h.performed.read) old h.between new h.last answer h.performed.performs h.tells unlike

-- a failed read is told, unless its line could not be said
fault-status : (name : Text) (end : End) (old mid new : SiteView) (last : End) (answer : ℕ) → end ≡ shelf_failed name → SaysWork [] end old mid last → Tells last mid new answer → (answer ≡ 3) ⊎ (answer ≡ 9)
fault-status name end old mid new last answer is (inl h) tells = go (subst (λ (e : End). Tells e mid new answer) (h.ends ∙ is) tells)
  where
    go : Tells (shelf_failed name) mid new answer → (answer ≡ 3) ⊎ (answer ≡ 9)
    go (inl (inl h)) = inl h.answers
    go (inl (inr h)) = inr h.answers
    go (inr h) = absurd (true≢false h.no_fault)
fault-status name end old mid new last answer is (inr (inl h)) tells = absurd (no_cons h.front h.behind h.line h.line h.is)
fault-status name end old mid new last answer is (inr (inr h)) tells = absurd (true≢false (sym (ap is_fault is) ∙ h.no_fault))

is-three : (n : ℕ) → true ≡ (n == 3) → n ≡ 3
is-three n e = grind arith

three-is : (n : ℕ) → n ≡ 3 → (n == 3) ≡ true
three-is n e = grind arith

pub steady-ended : (asked : Option Asked) (shelf : ShelfCall) (old new : SiteView) (answer : ℕ) → Ended asked shelf old new answer → (answer ≡ 3 → ⊥) → (answer ≡ 9 → ⊥) → shelf.after ≡ shelf.before
steady-ended asked shelf old new answer h no3 no9 = h.performed.reads.faults ∙ by h.performed.read refl
  where
    failed_read : (a : Option Asked) (p : Performed a shelf old h.between h.last) (end : End) → p.read ≡ Err end → status_of end ≡ 3 → ⊥
    failed_read None p end is three = let none = (empty-read shelf.told p.reads.count p.read p.reads.reads).1 in cc
    failed_read (Some asked) p end is three = go (has_too_many asked) refl p.reads.reads p.performs
      where
        go : (b : Bool) → b ≡ has_too_many asked → Reads shelf.told (if b then [] else named_by asked) p.reads.count p.read → Performs (if b then ends [] (past BookCount) else or_end p.read (work_on asked)) old h.between h.last → ⊥
        go true many reads performs = let none = (empty-read shelf.told p.reads.count p.read reads).1 in cc
        go false few reads performs = at (fault-status (end-failed end three).0 end old h.between new h.last answer (end-failed end three).1 (subst (λ (r : Read). Performs (or_end r (work_on asked)) old h.between h.last) is performs) h.tells)
          where
            at : (answer ≡ 3) ⊎ (answer ≡ 9) → ⊥
            at (inl e) = no3 e
            at (inr e) = no9 e

    by : (r : Read) → h.performed.read ≡ r → faults_behind shelf.before h.performed.read ≡ shelf.before
    by (Ok texts) e = ap (faults_behind shelf.before) e
    by (Err end) e = ap (faults_behind shelf.before) e ∙ go (status_of end == 3) refl
      where
        go : (b : Bool) → b ≡ (status_of end == 3) → (if status_of end == 3 then next_count shelf.before else shelf.before) ≡ shelf.before
        go true is = absurd (failed_read asked h.performed end e (is-three (status_of end) is))
        go false is = ap (λ (b : Bool). if b then next_count shelf.before else shelf.before) (sym is)

pub failed-ended : (asked : Option Asked) (shelf : ShelfCall) (old new : SiteView) (answer : ℕ) → Ended asked shelf old new answer → answer ≡ 3 → shelf.after ≡ next_count shelf.before
failed-ended asked shelf old new answer h three = by asked h.performed
  where
    by : (a : Option Asked) → Performed a shelf old h.between h.last → shelf.after ≡ next_count shelf.before
    by a p = at a p (performs-comes (work a p.read) old h.between new h.last answer p.performs h.tells)
      where
        at : (a : Option Asked) (p : Performed a shelf old h.between h.last) → Comes (work a p.read) old new answer ⊎ IsCutOff answer → shelf.after ≡ next_count shelf.before
        at a p (inr (inl is)) = absurd (omega (arith, three, is))
        at a p (inr (inr (inl is))) = absurd (omega (arith, three, is))
        at a p (inr (inr (inr x))) = absurd x
        at None p (inl is) = absurd (omega (arith, three, is))
        at (Some asked) p (inl is) = go (status_case asked p.read)
          where
            go : StatusCase asked p.read → shelf.after ≡ next_count shelf.before
            go (too_many many e) = let k : answer ≡ 11 = has-end (work (Some asked) p.read) (past BookCount) old new answer e is in absurd (omega (arith, three, k))
            go (by_file end few e s) = p.reads.faults ∙ ap (faults_behind shelf.before) e
                ∙ ap (λ (b : Bool). if b then next_count shelf.before else shelf.before) (three-is (status_of end) (sym (has-end (work (Some asked) p.read) end old new answer s is) ∙ three))
            go (by_texts other) = absurd ((other-status (work (Some asked) p.read) old new answer other is).1 three)

pub disk-handed : (asked : Option Asked) (shelf : ShelfCall) (old new : SiteView) (answer : ℕ) → WithSite asked → Ended asked shelf old new answer → answer ≡ 8 → Rose old.disk.faults new.disk.faults
disk-handed asked shelf old new answer has h e = performs-failed (work asked h.performed.read) old h.between new h.last answer (handed-work asked h.performed.read has)
    (no-nine asked shelf.told h.performed.reads.count h.performed.read h.performed.reads.reads) h.performed.performs h.tells e

pub memory-ended : (asked : Option Asked) (shelf : ShelfCall) (old new : SiteView) (answer : ℕ) → Ended asked shelf old new answer → answer ≡ 10 → NoFault shelf.before shelf.after old new
memory-ended asked shelf old new answer h e = record {
  shelf = steady-ended asked shelf old new answer h (λ f. omega (arith, e, f)) (λ f. omega (arith, e, f));
  disk = disk-steady-ended asked shelf old new answer h (λ f. omega (arith, e, f)) (λ f. omega (arith, e, f));
  say = said-ended asked shelf old new answer h (λ f. omega (arith, e, f));
}
