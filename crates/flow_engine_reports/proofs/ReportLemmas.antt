-- What the entries of a run tell, and its report.
use Rattle.std.proofs.Common.{◌≡◌, ◌∙◌, inr, sym, ap, subst, ℕ, ◌≤◌, List, [], ◌∷◌, length, drop}
use Rattle.run_records.specs.declared.record.Record.{Record}
use Rattle.flow_core_rules.specs.Givens.{Given}
use Rattle.flow_core_rules.specs.Lines.{report}
use Rattle.flow_core_rules.specs.State.{Shown}
use Rattle.flow_core.specs.Views.{View}
use Rattle.flow_engine_history.specs.HistoryView.{entries_of}
use Rattle.flow_engine_history.specs.Histories.{IsShownAfter, IsSoFar}
use Rattle.flow_engine_reports.specs.Beginnings.{HasBegun}
use Rattle.flow_engine_reports.specs.Replaying.{IsReplayed}
use Rattle.flow_engine_reports.specs.RunFiles.{IsBegin}
use Rattle.flow_engine_reports.specs.RunLines.{Reports}

-- behind a first entry the records are some
pub shown-after : (records : List Record) (items : List (List ℕ)) (first : List ℕ) (rest : List (List ℕ)) (seen : Shown) → items ≡ first ∷ rest → items ≡ entries_of records → IsSoFar records seen
    → IsShownAfter seen.given seen.run records seen
shown-after [] items first rest seen e are so = absurd (let f : first ∷ rest ≡ [] = sym e ∙ are in cc)
shown-after (r ∷ records) items first rest seen e are so = so

pub reports-run : (items : List (List ℕ)) (first : List ℕ) (begun flow : View) (text : List ℕ) → items ≡ first ∷ drop 1 items → HasBegun first begun
    → IsReplayed begun.seen.given begun.seen.run items flow → length flow.seen.lists.tasks ≤ 1_000_000 → text ≡ report flow.seen flow.count → Reports items text
reports-run items first begun flow text are h replayed few is =
    let r = replayed.1 in
    let begin : IsBegin first flow.seen.given flow.seen.run =
    subst (λ (g : Given). IsBegin first g flow.seen.run) (sym r.given_is) (subst (λ (n : ℕ). IsBegin first begun.seen.given n) (sym r.run_is) h.begin) in
    inr (record {
      records = r.records;
      seen = flow.seen;
      tells = record {
        begins = record { first = first; others = drop 1 items; are = are; begin = begin };
        are = r.are;
        ranges = r.ranges;
        shows = shown-after r.records items first (drop 1 items) flow.seen are r.are r.so_far;
        tasks = few;
      };
      is = is ∙ ap (λ (n : ℕ). report flow.seen n) r.count;
    })
