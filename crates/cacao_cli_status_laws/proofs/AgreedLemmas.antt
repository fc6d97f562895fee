-- Agreement at each beat of a call.
use Rattle.std.proofs.Common.{◌≡◌, inl, inr, refl, ap, subst, ℕ, Bool, true, false, List, [], ◌∷◌, ◌++◌, Option, Some, None, Result, Ok, Err, map}
use Rattle.std.specs.Prelude.{if◌then◌else◌}
use Rattle.serde_json.specs.Data.{Data}
use Rattle.cacao_site.specs.Sound.{IsSound}
use Rattle.cacao_site.specs.View.{LinkView, SiteView}
use Rattle.oc2_nets.specs.declared.packets.Packet.{Packet}
use Rattle.cacao_cli_filters.specs.PacketFiles.{packets_of}
use Rattle.flow_laws.specs.Held.{plain}
use Rattle.flow_laws.specs.Since.{AgreedSince}
use Rattle.flow_laws.proofs.Calls.{since_quiet, since_start}
use Rattle.flow_world.specs.Sessions.{IsStart, KeepsAgreement}
use Rattle.slpf_rules_acts.specs.Acts.{table_of}
use Rattle.cacao_check.specs.declared.breaks.Mode.TheVariants.{Read as Reading}
use Rattle.flow_engine_reports.specs.RunLines.{lines_of}
use Rattle.cacao_cli_words.specs.Words.{Text}
use Rattle.cacao_cli_status_laws.specs.Agreement.{Agrees, MayBegin}
use Rattle.cacao_cli_ends.specs.Asked.{Asked, canonises, checks, runs, shows, lists_rules, decides, shadows, rehearses, audits}
use Rattle.cacao_cli_status_laws.specs.Ended.{Performed, Performs}
use Rattle.cacao_cli_ends.specs.Ends.{End, text_of, accepted, done, past}
use Rattle.cacao_cli_ends.specs.Files.{NamedText, ShelfCall, has_too_many}
use Rattle.cacao_cli_ends.specs.Lines.{SaysWork, Tells, TellsText}
use Rattle.cacao_cli_looks.specs.Openings.{Opens}
use Rattle.cacao_cli_ends.specs.Work.{Work, ends, judges, opens_filter, opens_run, compares, rehearsals, starts, at_decisions, canon_line, or_end, packets_or_end, start_of, trees_of, trees_wanted, work, work_on}
use Rattle.cacao_cli_ends.specs.declared.limit.Limit.TheVariants.{BookCount}
use Rattle.cacao_cli_looks.proofs.AgreeLemmas.{AreOtherLines, SaysOthers, front-others, others-all, others-failed, others-line, others-same, others-trans, rest-in-time, since-others, sound-in-time}
use Rattle.cacao_cli_looks.proofs.OpenLemmas.{each-file}
use Rattle.cacao_cli_looks.proofs.OtherLines.{canon-others, filter-others, last-other}
use Rattle.cacao_cli_ends.proofs.ReadLemmas.{Read}
use Rattle.cacao_cli_looks.proofs.ReportLines.{run-others}
use Rattle.cacao_cli_ends.proofs.SayingLemmas.{keeps-refl}
use Rattle.cacao_cli_status_laws.proofs.StartLemmas.{start-agrees}

-- ---- what is said

says-others : (lines : List Text) (end : End) (old mid : SiteView) (last : End) → AreOtherLines lines → SaysWork lines end old mid last → SaysOthers old mid
says-others lines end old mid last o (inl h) = others-all lines old mid o h.says
says-others lines end old mid last o (inr (inl h)) =
    others-trans old h.between mid (others-all h.front old h.between (front-others h.front (h.line ∷ h.behind) (subst AreOtherLines h.is o)) h.says) (others-failed h.between mid h.fails)
says-others lines end old mid last o (inr (inr h)) = others-same old mid h.same

tells-text : (last : End) (text : Option Text) (mid new : SiteView) (answer : ℕ) → text_of last ≡ text → TellsText last text mid new answer → SaysOthers mid new
tells-text last None mid new answer is h = others-same mid new h.same
tells-text last (Some text) mid new answer is (inl (inl h)) = others-line (text ++ 10 ∷ []) mid new (last-other last text is) h.says
tells-text last (Some text) mid new answer is (inl (inr h)) = others-failed mid new h.fails
tells-text last (Some text) mid new answer is (inr h) = others-same mid new h.same

tells-others : (last : End) (mid new : SiteView) (answer : ℕ) → Tells last mid new answer → SaysOthers mid new
tells-others last mid new answer h = tells-text last (text_of last) mid new answer refl h

-- ---- from the start on

module _ (old : SiteView) (sound : IsSound old) (agrees : Agrees old) where
  at-start : AgreedSince plain old old
  at-start = since_start plain old agrees.told agrees.start

  said-since : (new : SiteView) → SaysOthers old new → KeepsAgreement old new
  said-since new says = since-others old old new at-start (sound-in-time old sound) says

  opened-since : (file : ℕ) (between : SiteView) → Opens file old between → AgreedSince plain old between
  opened-since file between opens = since_quiet plain old old between at-start sound opens.only.each.goes_on
      (λ other low beat image from to left. (each-file file old between between opens (keeps-refl between.disk) other).each agrees.told beat image from to left)
      (ap (λ (l : LinkView). l.puts) opens.only.rest.link) (ap (λ (l : LinkView). l.said) opens.only.rest.link)

  read-since : (file : ℕ) (between new : SiteView) → Opens file old between → SaysOthers between new → KeepsAgreement old new
  read-since file between new opens says =
      since-others old between new (opened-since file between opens) (rest-in-time old between opens.only.rest opens.only.each.goes_on.later (sound-in-time old sound)) says

-- ---- by the work

-- where the work may begin, and that it says no line of a record
abbrev BeginsWork : Work → SiteView → Type 0
BeginsWork (ends lines end) old = AreOtherLines lines × Agrees old
BeginsWork (judges trees mode kept) old = BeginsWork kept old × Agrees old
BeginsWork (opens_filter agent look) old = Agrees old
BeginsWork opens_run old = Agrees old
BeginsWork (compares files) old = Agrees old
BeginsWork (rehearsals positions) old = Agrees old
BeginsWork (starts start) old = IsStart old start.run

work-agrees : (w : Work) (old mid new : SiteView) (last : End) (answer : ℕ) → IsSound old → IsSound mid → BeginsWork w old → Performs w old mid last → Tells last mid new answer → KeepsAgreement old new
work-agrees (ends lines end) old mid new last answer sound later b p tells =
    said-since old sound b.1 new (others-trans old mid new (says-others lines end old mid last b.0 p) (tells-others last mid new answer tells))
work-agrees (judges trees mode kept) old mid new last answer sound later b (inl p) tells = work-agrees kept old mid new last answer sound later b.0 p.1 tells
work-agrees (judges trees mode kept) old mid new last answer sound later b (inr (inl p)) tells =
    said-since old sound b.1 new (others-trans old mid new (others-same old mid p.same) (tells-others last mid new answer tells))
work-agrees (judges trees mode kept) old mid new last answer sound later b (inr (inr p)) tells =
    said-since old sound b.1 new (others-trans old mid new (others-same old mid p.same) (tells-others last mid new answer tells))
work-agrees (opens_filter agent look) old mid new last answer sound later b (inl p) tells = read-since old sound b agent p.between new p.opens
    (others-trans p.between mid new (says-others p.lines done p.between mid last (filter-others look (table_of p.acts) p.lines p.are) p.says) (tells-others last mid new answer tells))
work-agrees (opens_filter agent look) old mid new last answer sound later b (inr (inl p)) tells = read-since old sound b agent mid new p.opens (tells-others last mid new answer tells)
work-agrees (opens_filter agent look) old mid new last answer sound later b (inr (inr (inl p))) tells = read-since old sound b agent mid new p.opens (tells-others last mid new answer tells)
work-agrees (opens_filter agent look) old mid new last answer sound later b (inr (inr (inr p))) tells = read-since old sound b agent mid new p.opens (tells-others last mid new answer tells)
work-agrees opens_run old mid new last answer sound later b (inl p) tells = read-since old sound b 0 p.between new p.opens
    (others-trans p.between mid new (says-others (lines_of p.text) done p.between mid last (run-others p.entries p.text p.reports) p.says) (tells-others last mid new answer tells))
work-agrees opens_run old mid new last answer sound later b (inr (inl p)) tells = read-since old sound b 0 mid new p.opens (tells-others last mid new answer tells)
work-agrees opens_run old mid new last answer sound later b (inr (inr (inl p))) tells = read-since old sound b 0 mid new p.opens (tells-others last mid new answer tells)
work-agrees opens_run old mid new last answer sound later b (inr (inr (inr (inl p)))) tells = read-since old sound b 0 mid new p.opens (tells-others last mid new answer tells)
work-agrees opens_run old mid new last answer sound later b (inr (inr (inr (inr p)))) tells = read-since old sound b 0 mid new p.opens (tells-others last mid new answer tells)
work-agrees (compares files) old mid new last answer sound later b p tells =
    said-since old sound b new (others-trans old mid new (others-same old mid p.same) (tells-others last mid new answer tells))
work-agrees (rehearsals positions) old mid new last answer sound later b p tells =
    said-since old sound b new (others-trans old mid new (others-same old mid p.same) (tells-others last mid new answer tells))
work-agrees (starts start) old mid new last answer sound later b p tells =
    since-others old mid new (start-agrees start old mid mid last answer p b) (sound-in-time mid later) (tells-others last mid new answer tells)

-- ---- by the words

start-of-run : (old : SiteView) (run : ℕ) → IsStart old run → Agrees old
start-of-run old run h = record { told = h.told; start = h.start }

trees-begin : (texts : List NamedText) (does : List Data → Work) (old : SiteView) → Agrees old → ((roots : List Data) → BeginsWork (does roots) old) → BeginsWork (or_end (trees_of texts) does) old
trees-begin texts does old agrees each = go (trees_of texts)
  where
    go : (r : Result (List Data) End) → BeginsWork (or_end r does) old
    go (Err end) = (tt, agrees)
    go (Ok roots) = each roots

texts-begin : (asked : Asked) (texts : List NamedText) (old : SiteView) → MayBegin (Some asked) old → BeginsWork (work_on asked texts) old
texts-begin (canonises book) texts old h = trees-begin texts (λ roots. ends (map canon_line roots) done) old h (λ roots. (canon-others roots, h))
texts-begin (checks books) texts old h = trees-begin texts (λ roots. judges roots Reading (ends [] accepted)) old h (λ roots. ((tt, h), h))
texts-begin (runs wanted) texts old h = trees-begin (trees_wanted wanted texts) (λ roots. starts (start_of wanted texts)) old (start-of-run old wanted.run h) (λ roots. h)
texts-begin shows texts old h = h
texts-begin (lists_rules agent) texts old h = h
texts-begin (decides agent packets) [] old h = h
texts-begin (decides agent packets) (text ∷ texts) old h = go (packets_of text.bytes)
  where
    go : (r : Result (List (ℕ × Packet)) ℕ) → BeginsWork (or_end (packets_or_end text.name r) (λ found. opens_filter agent (at_decisions found))) old
    go (Err number) = (tt, h)
    go (Ok found) = h
texts-begin (shadows agent) texts old h = h
texts-begin (rehearses positions) texts old h = h
texts-begin (audits engine filters) texts old h = h

agrees-there : (asked : Option Asked) (old : SiteView) → MayBegin asked old → Agrees old
agrees-there None old h = h
agrees-there (Some (canonises book)) old h = h
agrees-there (Some (checks books)) old h = h
agrees-there (Some (runs wanted)) old h = start-of-run old wanted.run h
agrees-there (Some shows) old h = h
agrees-there (Some (lists_rules agent)) old h = h
agrees-there (Some (decides agent packets)) old h = h
agrees-there (Some (shadows agent)) old h = h
agrees-there (Some (rehearses positions)) old h = h
agrees-there (Some (audits engine filters)) old h = h

work-begins : (asked : Option Asked) (read : Read) (old : SiteView) → MayBegin asked old → BeginsWork (work asked read) old
work-begins None read old h = (tt, h)
work-begins (Some asked) read old h = go (has_too_many asked) read
  where
    go : (b : Bool) (read : Read) → BeginsWork (if b then ends [] (past BookCount) else or_end read (work_on asked)) old
    go true read = (tt, agrees-there (Some asked) old h)
    go false (Err end) = (tt, agrees-there (Some asked) old h)
    go false (Ok texts) = texts-begin asked texts old h

pub agrees-ended : (asked : Option Asked) (shelf : ShelfCall) (old mid new : SiteView) (last : End) (answer : ℕ) → IsSound old → IsSound mid → Performed asked shelf old mid last → Tells last mid new answer
    → MayBegin asked old → KeepsAgreement old new
agrees-ended asked shelf old mid new last answer sound later p tells begins = work-agrees (work asked p.read) old mid new last answer sound later (work-begins asked p.read old begins) p.performs tells
