-- What a call leaves as it was, and which counts it raises.
use Rattle.std.proofs.Common.{◌≡◌, ◌⊎◌, inl, inr, ◌∙◌, refl, sym, ap, subst, arith, ℕ, Bool, true, false, List, [], ◌∷◌, ◌++◌, length, map, Option, Some, None, Result, Ok, Err}
use Rattle.std.specs.Prelude.{if◌then◌else◌}
use Rattle.serde_json.specs.Data.{Data}
use Rattle.cacao_site.specs.SayCalls.{SaysOnly}
use Rattle.cacao_site.specs.View.{SiteView}
use Rattle.cacao_check.specs.declared.breaks.Mode.{Mode}
use Rattle.cacao_check.specs.declared.breaks.Mode.TheVariants.{Read as Reading}
use Rattle.oc2_nets.specs.declared.packets.Packet.{Packet}
use Rattle.cacao_cli_filters.specs.PacketFiles.{packets_of}
use Rattle.cacao_cli_words.specs.Requests.{RunRequest}
use Rattle.cacao_cli_words.specs.Words.{Text}
use Rattle.cacao_cli_ends.specs.Asked.{Asked, canonises, checks, shows, lists_rules, decides, shadows, rehearses, audits, runs}
use Rattle.cacao_cli_ends.specs.Ends.{End, text_of, done, accepted, not_understood, past, not_readable, unsaid, status_of}
use Rattle.cacao_cli_ends.specs.Files.{Files, ShelfCall, NamedText, Reads, item_then, files_of, has_too_many}
use Rattle.cacao_cli_ends.specs.Lines.{SaysAll, Tells, TellsText, SaysWork}
use Rattle.cacao_cli_status_laws.specs.Rehearsing.{Rehearses}
use Rattle.cacao_cli_ends.specs.Work.{Work, ends, judges, opens_filter, opens_run, compares, rehearsals, at_rules, at_shadows, at_decisions, or_end, packets_or_end, tree_of, trees_of, canon_line, run_files, work, work_on, Start, starts, start_of, trees_wanted}
use Rattle.cacao_cli_status_laws.specs.Ended.{Performs, Performed, Ended}
use Rattle.cacao_cli_ends.specs.Comes.{IsOneOf}
use Rattle.cacao_cli_session_laws.specs.Holding.{HoldsSession}
use Rattle.cacao_cli_status_laws.specs.Leaves.{LeavesSession, Leaves}
use Rattle.cacao_cli_ends.specs.Stays.{SaysAtMostOnce, ReadsAtMost, WritesNothing}
use Rattle.cacao_cli_ends.specs.declared.limit.Limit.TheVariants.{BookCount}
use Rattle.cacao_cli_ends.specs.declared.reason.Reason.TheVariants.{Line}
use Rattle.cacao_cli_ends.proofs.EndLemmas.{end-unsaid, end-memory, no-more, no_cons}
use Rattle.cacao_cli_looks.proofs.OpenLemmas.{nothing-written, opens-refl, work-some}
use Rattle.cacao_cli_status_laws.proofs.OpenLemmas.{writes-nothing}
use Rattle.cacao_cli_status_laws.proofs.RunLemmas.{run-leaves}
use Rattle.cacao_cli_session_laws.proofs.HoldLemmas.{holds-status}
use Rattle.cacao_cli_ends.proofs.LineLemmas.{IsCutOff, tells-status}
use Rattle.cacao_cli_status_laws.proofs.StartLemmas.{tells-line}
use Rattle.cacao_cli_ends.proofs.ReadLemmas.{Read, reads-few, empty-read, reads-length}
use Rattle.cacao_cli_ends.proofs.StatusLists.{session_statuses}

-- ---- what is said by a command that says one line

-- the work is one line and no more, or no line but the last
pub data IsBrief : Work → Type 0 where
  silent : (end : End) → IsBrief (ends [] end)
  one_line : (line : Text) → IsBrief (ends (line ∷ []) done)
  judged : (trees : List Data) (mode : Mode) (kept : Work) → IsBrief kept → IsBrief (judges trees mode kept)
  compared : (files : List Text) → IsBrief (compares files)
  rehearsed : (positions : ℕ) → IsBrief (rehearsals positions)

last-once : (last : End) (text : Option Text) (mid new : SiteView) (answer : ℕ) → text ≡ text_of last → TellsText last text mid new answer → SaysAtMostOnce mid new answer
last-once last None mid new answer is h = record { once = inl h.same; unsaid = λ e. ap (λ (s : SiteView). s.link.said) h.same; no_memory = λ e. h.same }
last-once last (Some text) mid new answer is (inl (inl h)) = record {
  once = inr h.says.only;
  unsaid = λ e. absurd (no_text (is ∙ end-unsaid last (sym h.answers ∙ e)));
  no_memory = λ e. absurd (no_text (is ∙ end-memory last (sym h.answers ∙ e)));
}
  where
    no_text : Some text ≡ None → ⊥
    no_text e = cc
last-once last (Some text) mid new answer is (inl (inr h)) = record { once = inr h.fails.only; unsaid = λ e. h.fails.said; no_memory = λ e. absurd (omega (arith, e, h.answers)) }
last-once last (Some text) mid new answer is (inr h) = record { once = inl h.same; unsaid = λ e. ap (λ (s : SiteView). s.link.said) h.same; no_memory = λ e. h.same }

pub tells-once : (last : End) (mid new : SiteView) (answer : ℕ) → Tells last mid new answer → SaysAtMostOnce mid new answer
tells-once last mid new answer h = last-once last (text_of last) mid new answer refl h

one_cons : (front behind : List Text) (first line only : Text) → only ∷ [] ≡ (first ∷ front) ++ line ∷ behind → ⊥
one_cons front behind first line only e = no_cons front behind first line (tails e)
  where
    tail : List Text → List Text
    tail [] = []
    tail (x ∷ xs) = xs

    tails : only ∷ [] ≡ (first ∷ front) ++ line ∷ behind → [] ≡ front ++ line ∷ behind
    tails e = cc

pub brief-once : (w : Work) (old mid new : SiteView) (last : End) (answer : ℕ) → IsBrief w → Performs w old mid last → Tells last mid new answer → SaysAtMostOnce old new answer
brief-once w old mid new last answer (silent end) (inl h) tells = subst (λ (s : SiteView). SaysAtMostOnce s new answer) h.says (tells-once last mid new answer tells)
brief-once w old mid new last answer (silent end) (inr (inl h)) tells = absurd (no_cons h.front h.behind h.line h.line h.is)
brief-once w old mid new last answer (silent end) (inr (inr h)) tells = subst (λ (s : SiteView). SaysAtMostOnce s new answer) h.same (tells-once last mid new answer tells)
brief-once w old mid new last answer (one_line line) (inl h) tells =
    let k = no-more last done mid new answer h.ends refl tells in
    record {
      once = inr (subst (SaysOnly old) (sym (k.0 ∙ h.says.2)) h.says.1.only);
      unsaid = λ e. absurd (omega (arith, e, k.1));
      no_memory = λ e. absurd (omega (arith, e, k.1));
    }
brief-once w old mid new last answer (one_line line) (inr (inl h)) tells = go h.front h.is h.says
  where
    go : (front : List Text) → line ∷ [] ≡ front ++ h.line ∷ h.behind → SaysAll front old h.between → SaysAtMostOnce old new answer
    go [] is says =
        let k = no-more last unsaid mid new answer h.ends refl tells in
        record {
          once = inr (subst (λ (s : SiteView). SaysOnly s new) says (subst (SaysOnly h.between) (sym k.0) h.fails.only));
          unsaid = λ e. ap (λ (s : SiteView). s.link.said) k.0 ∙ h.fails.said ∙ ap (λ (s : SiteView). s.link.said) says;
          no_memory = λ e. absurd (omega (arith, e, k.1));
        }
    go (first ∷ front) is says = absurd (one_cons front h.behind first h.line line is)
brief-once w old mid new last answer (one_line line) (inr (inr h)) tells = subst (λ (s : SiteView). SaysAtMostOnce s new answer) h.same (tells-once last mid new answer tells)
brief-once w old mid new last answer (judged trees mode kept brief) (inl h) tells = brief-once kept old mid new last answer brief h.1 tells
brief-once w old mid new last answer (judged trees mode kept brief) (inr (inl h)) tells = subst (λ (s : SiteView). SaysAtMostOnce s new answer) h.same (tells-once last mid new answer tells)
brief-once w old mid new last answer (judged trees mode kept brief) (inr (inr h)) tells = subst (λ (s : SiteView). SaysAtMostOnce s new answer) h.same (tells-once last mid new answer tells)
brief-once w old mid new last answer (compared files) h tells = subst (λ (s : SiteView). SaysAtMostOnce s new answer) h.same (tells-once last mid new answer tells)
brief-once w old mid new last answer (rehearsed positions) h tells = subst (λ (s : SiteView). SaysAtMostOnce s new answer) h.same (tells-once last mid new answer tells)

pub brief-canon : (book : Text) (told : Option Files) (count : ℕ) (read : Read) → Reads told (files_of (Some (canonises book))) count read → IsBrief (work (Some (canonises book)) read)
brief-canon book told count (Err end) reads = silent end
brief-canon book told count (Ok []) reads = absurd (let e = reads-length told (files_of (Some (canonises book))) count (Ok []) [] reads refl in omega (arith, e))
brief-canon book told count (Ok (text ∷ other ∷ texts)) reads = absurd (let e = reads-length told (files_of (Some (canonises book))) count (Ok (text ∷ other ∷ texts)) (text ∷ other ∷ texts) reads refl in omega (arith, e))
brief-canon book told count (Ok (text ∷ [])) reads = go (tree_of text)
  where
    go : (r : Result Data End) → IsBrief (or_end (item_then r (Ok [])) (λ roots. ends (map canon_line roots) done))
    go (Err end) = silent end
    go (Ok root) = one_line (canon_line root)

pub brief-check : (books : List Text) (read : Read) → IsBrief (work (Some (checks books)) read)
brief-check books read = go (has_too_many (checks books))
  where
    by : (r : Read) → IsBrief (or_end r (work_on (checks books)))
    by (Err end) = silent end
    by (Ok texts) = at (trees_of texts)
      where
        at : (r : Result (List Data) End) → IsBrief (or_end r (λ roots. judges roots Reading (ends [] accepted)))
        at (Err end) = silent end
        at (Ok roots) = judged roots Reading (ends [] accepted) (silent accepted)

    go : (b : Bool) → IsBrief (if b then ends [] (past BookCount) else or_end read (work_on (checks books)))
    go true = silent (past BookCount)
    go false = by read

pub brief-audit : (engine : Text) (filters : List (ℕ × Text)) (read : Read) → IsBrief (work (Some (audits engine filters)) read)
brief-audit engine filters (Err end) = silent end
brief-audit engine filters (Ok texts) = compared (run_files filters texts)

pub brief-rehearse : (positions : ℕ) (read : Read) → IsBrief (work (Some (rehearses positions)) read)
brief-rehearse positions (Err end) = silent end
brief-rehearse positions (Ok texts) = rehearsed positions

pub rehearse-performed : (positions : ℕ) (shelf : ShelfCall) (old mid : SiteView) (last : End) → Performed (Some (rehearses positions)) shelf old mid last → Rehearses positions old mid last
rehearse-performed positions shelf old mid last p = subst (λ (r : Read). Performs (or_end r (work_on (rehearses positions))) old mid last) (empty-read shelf.told p.reads.count p.read p.reads.reads).1 p.performs

-- ---- the commands that open a filter

pub show-performed : (shelf : ShelfCall) (old mid : SiteView) (last : End) → Performed (Some shows) shelf old mid last → Performs opens_run old mid last
show-performed shelf old mid last p = subst (λ (r : Read). Performs (or_end r (work_on shows)) old mid last) (empty-read shelf.told p.reads.count p.read p.reads.reads).1 p.performs

pub rules-performed : (agent : ℕ) (shelf : ShelfCall) (old mid : SiteView) (last : End) → Performed (Some (lists_rules agent)) shelf old mid last → Performs (opens_filter agent at_rules) old mid last
rules-performed agent shelf old mid last p = subst (λ (r : Read). Performs (or_end r (work_on (lists_rules agent))) old mid last) (empty-read shelf.told p.reads.count p.read p.reads.reads).1 p.performs

pub shadows-performed : (agent : ℕ) (shelf : ShelfCall) (old mid : SiteView) (last : End) → Performed (Some (shadows agent)) shelf old mid last → Performs (opens_filter agent at_shadows) old mid last
shadows-performed agent shelf old mid last p = subst (λ (r : Read). Performs (or_end r (work_on (shadows agent))) old mid last) (empty-read shelf.told p.reads.count p.read p.reads.reads).1 p.performs

decide-leaves : (agent : ℕ) (packets : Text) (old mid new : SiteView) (last : End) (answer : ℕ) (read : Read) → Performs (or_end read (work_on (decides agent packets))) old mid last → Tells last mid new answer → WritesNothing agent old new
decide-leaves agent packets old mid new last answer (Err end) p tells = nothing-written agent old old new (opens-refl agent old) (work-some [] end old mid new last answer p tells)
decide-leaves agent packets old mid new last answer (Ok []) p tells = writes-nothing agent (at_decisions []) old mid new last answer p tells
decide-leaves agent packets old mid new last answer (Ok (text ∷ texts)) p tells = go (packets_of text.bytes) p
  where
    go : (r : Result (List (ℕ × Packet)) ℕ) → Performs (or_end (packets_or_end text.name r) (λ found. opens_filter agent (at_decisions found))) old mid last → WritesNothing agent old new
    go (Ok found) q = writes-nothing agent (at_decisions found) old mid new last answer q tells
    go (Err number) q = nothing-written agent old old new (opens-refl agent old) (work-some [] (not_readable text.name (Line number)) old mid new last answer q tells)

-- ---- `run`

-- no line was said before the last
pub silent-same : (end : End) (old mid : SiteView) (last : End) → SaysWork [] end old mid last → mid ≡ old
silent-same end old mid last (inl h) = h.says
silent-same end old mid last (inr (inl h)) = absurd (no_cons h.front h.behind h.line h.line h.is)
silent-same end old mid last (inr (inr h)) = h.same

pub silent-once : (end : End) (old mid new : SiteView) (last : End) (answer : ℕ) → SaysWork [] end old mid last → Tells last mid new answer → SaysAtMostOnce old new answer
silent-once end old mid new last answer h tells = subst (λ (s : SiteView). SaysAtMostOnce s new answer) (silent-same end old mid last h) (tells-once last mid new answer tells)

-- the session was held, and one line said at most behind it; or that line alone
abbrev pub RunLeft : RunRequest → SiteView → SiteView → ℕ → Type 0
RunLeft wanted old new answer = SaysAtMostOnce old new answer ⊎ (LeavesSession wanted old new × ((IsOneOf answer session_statuses) ⊎ IsCutOff answer))

start-left : (wanted : RunRequest) (texts : List NamedText) (old mid new : SiteView) (last : End) (answer : ℕ) → Performs (starts (start_of wanted texts)) old mid last → Tells last mid new answer → RunLeft wanted old new answer
start-left wanted texts old mid new last answer p tells = go p
  where
    start : Start
    start = start_of wanted texts

    same : mid ≡ old → RunLeft wanted old new answer
    same e = inl (subst (λ (s : SiteView). SaysAtMostOnce s new answer) e (tells-once last mid new answer tells))

    listed : HoldsSession start old mid last → (answer ≡ status_of last) ⊎ IsCutOff answer → (IsOneOf answer session_statuses) ⊎ IsCutOff answer
    listed h (inl e) = inl (subst (λ (n : ℕ). IsOneOf n session_statuses) (sym e) (holds-status h.given start.run start.most h.answers old mid last h.holds))
    listed h (inr c) = inr c

    go : Performs (starts start) old mid last → RunLeft wanted old new answer
    go (inl h) = same h.same
    go (inr (inl h)) = same h.same
    go (inr (inr (inl h))) = same h.same
    go (inr (inr (inr (inl h)))) = inr (
      record { start = start; of_run = refl; most = refl; last = last; came = record { between = mid; session = h; behind = tells-line last mid new answer tells } },
      listed h (tells-status last mid new answer tells),
    )
    go (inr (inr (inr (inr h)))) = same h.same

pub run-left : (wanted : RunRequest) (r : Read) (b : Bool) (old mid new : SiteView) (last : End) (answer : ℕ) → Performs (if b then ends [] (past BookCount) else or_end r (work_on (runs wanted))) old mid last
    → Tells last mid new answer → RunLeft wanted old new answer
run-left wanted r true old mid new last answer h tells = inl (silent-once (past BookCount) old mid new last answer h tells)
run-left wanted (Err end) false old mid new last answer h tells = inl (silent-once end old mid new last answer h tells)
run-left wanted (Ok texts) false old mid new last answer h tells = go (trees_of (trees_wanted wanted texts)) h
  where
    go : (t : Result (List Data) End) → Performs (or_end t (λ roots. starts (start_of wanted texts))) old mid last → RunLeft wanted old new answer
    go (Err end) h = inl (silent-once end old mid new last answer h tells)
    go (Ok roots) h = start-left wanted texts old mid new last answer h tells

pub leaves-ended : (asked : Option Asked) (shelf : ShelfCall) (old new : SiteView) (answer : ℕ) → Ended asked shelf old new answer → Leaves asked old new answer
leaves-ended None shelf old new answer h = brief-once (ends [] not_understood) old h.between new h.last answer (silent not_understood) h.performed.performs h.tells
leaves-ended (Some (canonises book)) shelf old new answer h = brief-once (work (Some (canonises book)) h.performed.read) old h.between new h.last answer
    (brief-canon book shelf.told h.performed.reads.count h.performed.read h.performed.reads.reads) h.performed.performs h.tells
leaves-ended (Some (checks books)) shelf old new answer h = brief-once (work (Some (checks books)) h.performed.read) old h.between new h.last answer (brief-check books h.performed.read) h.performed.performs h.tells
leaves-ended (Some (runs wanted)) shelf old new answer h = go (run-left wanted h.performed.read (has_too_many (runs wanted)) old h.between new h.last answer h.performed.performs h.tells)
  where
    go : RunLeft wanted old new answer → SaysAtMostOnce old new answer ⊎ LeavesSession wanted old new
    go (inl once) = inl once
    go (inr left) = inr left.0
leaves-ended (Some shows) shelf old new answer h = run-leaves old h.between new h.last answer (show-performed shelf old h.between h.last h.performed) h.tells
leaves-ended (Some (lists_rules agent)) shelf old new answer h = writes-nothing agent at_rules old h.between new h.last answer (rules-performed agent shelf old h.between h.last h.performed) h.tells
leaves-ended (Some (decides agent packets)) shelf old new answer h = decide-leaves agent packets old h.between new h.last answer h.performed.read h.performed.performs h.tells
leaves-ended (Some (shadows agent)) shelf old new answer h = writes-nothing agent at_shadows old h.between new h.last answer (shadows-performed agent shelf old h.between h.last h.performed) h.tells
leaves-ended (Some (rehearses positions)) shelf old new answer h = brief-once (work (Some (rehearses positions)) h.performed.read) old h.between new h.last answer (brief-rehearse positions h.performed.read) h.performed.performs h.tells
leaves-ended (Some (audits engine filters)) shelf old new answer h = brief-once (work (Some (audits engine filters)) h.performed.read) old h.between new h.last answer (brief-audit engine filters h.performed.read) h.performed.performs h.tells

pub few-ended : (asked : Option Asked) (shelf : ShelfCall) (old new : SiteView) (answer : ℕ) → Ended asked shelf old new answer → ReadsAtMost (length (files_of asked)) shelf.reads_before shelf.reads_after
few-ended asked shelf old new answer h = (h.performed.reads.count, reads-few shelf.told (files_of asked) h.performed.reads.count h.performed.read h.performed.reads.reads, h.performed.reads.counted)
