-- What a session that is held with what is ready makes of the call; and a call without a session.
use Rattle.std.proofs.Common.{◌≡◌, ◌∙◌, inl, inr, ap, refl, sym, subst, ℕ, Bool, List, [], map, Option, Some, Ok, Result}
use Rattle.std.specs.Prelude.{if◌then◌else◌}
use Rattle.serde_json.specs.Data.{Data}
use Rattle.cacao_site.specs.View.{SiteView}
use Rattle.flow_core_rules.specs.Givens.{Given}
use Rattle.flow_engine_answers.specs.declared.answers.OperatorAnswer.{OperatorAnswer}
use Rattle.cacao_cli_words.specs.Requests.{RunRequest}
use Rattle.cacao_cli_ends.specs.Asked.{Asked, runs}
use Rattle.cacao_cli_ends.specs.Ends.{End, no_memory, past}
use Rattle.cacao_cli_ends.specs.Files.{NamedText, ReadsTo, ShelfCall, book_file, files_of, has_too_many, run_names}
use Rattle.cacao_cli_ends.specs.Work.{Start, Work, compares, ends, judges, opens_filter, opens_run, or_end, rehearsals, start_of, starts, work, work_on}
use Rattle.cacao_cli_ends.specs.declared.limit.Limit.TheVariants.{BookCount}
use Rattle.cacao_cli_status_laws.specs.Ended.{NoSession, PerformedBy, PerformsBy}
use Rattle.cacao_cli_starts.specs.ReadyRuns.{IsNotReady, IsReady}

module _ (Holds : Start → SiteView → SiteView → End → Type 0) where
  -- a call without a session went so whatever becomes of sessions
  performs-any : (w : Work) (old new : SiteView) (last : End) → PerformsBy NoSession w old new last → PerformsBy Holds w old new last
  performs-any (ends lines end) old new last h = h
  performs-any (opens_filter agent look) old new last h = h
  performs-any opens_run old new last h = h
  performs-any (compares files) old new last h = h
  performs-any (rehearsals positions) old new last h = h
  performs-any (starts start) old new last (inl h) = inl h
  performs-any (starts start) old new last (inr (inl h)) = inr (inl h)
  performs-any (starts start) old new last (inr (inr (inl h))) = inr (inr (inl h))
  performs-any (starts start) old new last (inr (inr (inr (inl h)))) = absurd h
  performs-any (starts start) old new last (inr (inr (inr (inr h)))) = inr (inr (inr (inr h)))
  performs-any (judges trees mode accepted) old new last (inl h) = inl (h.0, performs-any accepted old new last h.1)
  performs-any (judges trees mode accepted) old new last (inr h) = inr h

  pub not-ready-performed : (asked : Option Asked) (shelf : ShelfCall) (old new : SiteView) (last : End) → PerformedBy NoSession asked shelf old new last → PerformedBy Holds asked shelf old new last
  not-ready-performed asked shelf old new last h = record { read = h.read; reads = h.reads; performs = performs-any (work asked h.read) old new last h.performs }

  -- what is ready came to this
  started-performed : (wanted : RunRequest) (shelf : ShelfCall) (given : Given) (answers : List OperatorAnswer) (old new : SiteView) (last : End)
      → (ready : IsReady wanted shelf given answers) → PerformsBy Holds (starts (start_of wanted ready.texts)) old new last → PerformedBy Holds (Some (runs wanted)) shelf old new last
  started-performed wanted shelf given answers old new last ready performs = record {
    read = Ok ready.texts;
    reads = subst (λ (b : Bool). ReadsTo shelf (if b then [] else map book_file (run_names wanted)) (Ok ready.texts)) (sym ready.few) ready.reads;
    performs = subst (λ (b : Bool). PerformsBy Holds (if b then ends [] (past BookCount) else or_end (Ok ready.texts) (work_on (runs wanted))) old new last) (sym ready.few)
        (subst (λ (r : Result (List Data) End). PerformsBy Holds (or_end r (λ roots. starts (start_of wanted ready.texts))) old new last) (sym ready.trees) performs);
  }

  -- the session was held
  pub ready-performed : (wanted : RunRequest) (shelf : ShelfCall) (given : Given) (answers : List OperatorAnswer) (old new : SiteView) (last : End)
      → (ready : IsReady wanted shelf given answers) → Holds (start_of wanted ready.texts) old new last → PerformedBy Holds (Some (runs wanted)) shelf old new last
  ready-performed wanted shelf given answers old new last ready holds = started-performed wanted shelf given answers old new last ready (inr (inr (inr (inl holds))))

-- the work that the words ask for is then a session with what is ready
pub ready-work : (wanted : RunRequest) (shelf : ShelfCall) (given : Given) (answers : List OperatorAnswer) → (ready : IsReady wanted shelf given answers)
    → work (Some (runs wanted)) (Ok ready.texts) ≡ starts (start_of wanted ready.texts)
ready-work wanted shelf given answers ready =
    ap (λ (b : Bool). if b then ends [] (past BookCount) else or_end (Ok ready.texts) (work_on (runs wanted))) ready.few
    ∙ ap (λ (r : Result (List Data) End). or_end r (λ roots. starts (start_of wanted ready.texts))) ready.trees

pub ready-reads : (wanted : RunRequest) (shelf : ShelfCall) (given : Given) (answers : List OperatorAnswer) → (ready : IsReady wanted shelf given answers)
    → ReadsTo shelf (files_of (Some (runs wanted))) (Ok ready.texts)
ready-reads wanted shelf given answers ready =
    subst (λ (b : Bool). ReadsTo shelf (if b then [] else map book_file (run_names wanted)) (Ok ready.texts)) (sym ready.few) ready.reads

-- all was ready, and memory was wanted before the session
pub ready-wants : (wanted : RunRequest) (shelf : ShelfCall) (given : Given) (answers : List OperatorAnswer) (last : End)
    → IsReady wanted shelf given answers → last ≡ no_memory → IsNotReady wanted shelf last
ready-wants wanted shelf given answers last ready is other =
    started-performed NoSession wanted shelf given answers other other last ready (inr (inr (inr (inr (record { same = refl; ends = is })))))
