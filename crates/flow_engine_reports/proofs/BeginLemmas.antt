-- The Begin of a run, by the entry of its record.
use Rattle.std.proofs.Common.{◌≡◌, ◌∙◌, refl, sym, ap, subst, ℕ, List, [], Option, Some, None, Err}
use Rattle.std.specs.Prelude.{IsErrOf, MatchOption}
use Rattle.std.proofs.lemmas.Option.{same_Some}
use Rattle.cacao_site.specs.declared.bytes.Bytes.{Bytes}
use Rattle.run_records.specs.Layout.{layout}
use Rattle.run_records.specs.Ranges.{InRange}
use Rattle.run_records.specs.Reading.{record_of}
use Rattle.run_records.specs.declared.record.Record.{Record}
use Rattle.flow_core_rules.specs.Givens.{Given}
use Rattle.flow_core_rules.specs.Runs.{begin_of}
use Rattle.flow_core.specs.TakenRecords.{BeginsNone, BeginsRun, idle}
use Rattle.flow_core.specs.TakenRecords as flow
use Rattle.flow_core.specs.Views.{View}
use Rattle.flow_core.proofs.BeginLemmas.{one_begin}
pub use Rattle.flow_core.proofs.BeginLemmas.{none_arm as none-arm, some_arm as some-arm}
use Rattle.flow_engine_history.proofs.ReplayLemmas.{replayed_none}
use Rattle.flow_engine_reports.specs.Beginnings.{HasBegun, IsNotBegun}
use Rattle.flow_engine_reports.specs.Replaying.{IsReplayed}
use Rattle.flow_engine_reports.specs.declared.error.ReportError.{ReportError}
use Rattle.flow_engine_reports.specs.declared.error.ReportError.TheVariants.{Damaged}
use Rattle.flow_engine_reports.specs.RunFiles.{IsBegin}
use Rattle.flow_engine_reports.proofs.ReplayLemmas.{taken_more}

-- ---- arms of an answer

pub none-case : {A : Type 0} (N : Type 0) (S : A → Type 0) (o : Option A) → MatchOption o N S → o ≡ None → N
none-case N S o h e = subst (λ p. MatchOption p N S) e h

pub place-is : (place : ℕ) → IsErrOf {T = Bytes} {E = ReportError} (Err (Damaged 8)) (Damaged place) → place ≡ 8
place-is place e = cc

-- ---- by the record, and by the entry

as-entry : (bytes : List ℕ) (r : Record) (given : Given) (run : ℕ) → record_of bytes ≡ Some r → BeginsRun r given run → IsBegin bytes given run
as-entry bytes r given run reads b = record { moment = b.moment; reads = reads ∙ ap (λ (x : Record). Some x) b.is; in_time = b.in_time; accepted = b.accepted }

as-record : (bytes : List ℕ) (r : Record) (given : Given) (run : ℕ) → record_of bytes ≡ Some r → IsBegin bytes given run → BeginsRun r given run
as-record bytes r given run reads b = record { moment = b.moment; is = same_Some r (begin_of given run b.moment) (sym reads ∙ b.reads); in_time = b.in_time; accepted = b.accepted }

abbrev pub SameRun : Given → Given → ℕ → ℕ → Type 0
SameRun g h k n = (g ≡ h) × (k ≡ n)

-- an entry begins one run at most
pub one-begin : (bytes : List ℕ) (g h : Given) (k n : ℕ) → IsBegin bytes g k → IsBegin bytes h n → SameRun g h k n
one-begin bytes g h k n a b =
    let r : Record = begin_of g k a.moment in
    one_begin r g h k n (as-record bytes r g k a.reads a) (as-record bytes r h n a.reads b)

-- ---- a Begin that is not taken

none-begun : (bytes : List ℕ) (r : Record) → record_of bytes ≡ Some r → BeginsNone r → IsNotBegun bytes
none-begun bytes r reads none given run b = none given run (as-record bytes r given run reads b)

-- ---- a Begin that is taken

has-taken : (bytes : List ℕ) (r : Record) (w : View) → record_of bytes ≡ Some r → InRange r → bytes ≡ layout r → flow.HasBegun r w → HasBegun bytes w
has-taken bytes r w reads in_range laid h =
    let given : Given = w.seen.given in
    let run : ℕ = w.seen.run in
    let none : IsReplayed given run [] (idle given run) = ([], replayed_none given run (idle given run) refl refl) in
    record {
      begin = as-entry bytes r given run reads h.begins;
      replayed = taken_more given run [] (idle given run) w bytes none
          (record { r = r; in_range = in_range; is = laid; edits = h.took.edits; takes = h.took.takes; new_is = h.took.new_is });
    }

-- ---- the answer

pub by_entry : (bytes : List ℕ) (r : Record) (o : Option View) → record_of bytes ≡ Some r → InRange r → bytes ≡ layout r → MatchOption o (BeginsNone r) (flow.HasBegun r)
    → MatchOption o (IsNotBegun bytes) (HasBegun bytes)
by_entry bytes r None reads in_range laid h = none-begun bytes r reads h
by_entry bytes r (Some w) reads in_range laid h = has-taken bytes r w reads in_range laid h
