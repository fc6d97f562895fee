-- The bytes of the engine's file have one answer.
use Rattle.std.proofs.Common.{◌≡◌, inl, inr, refl, subst, ℕ, List, [], ◌∷◌}
use Rattle.run_journal.specs.Layout.{Stands}
use Rattle.run_journal.proofs.LayoutLaws.{no_list_where_damaged, one_list}
use Rattle.run_records.specs.declared.record.Record.{Record}
use Rattle.flow_core_rules.specs.Givens.{Given}
use Rattle.flow_core_rules.specs.State.{Shown}
use Rattle.flow_core.specs.declared.flow_errors.LimitKind.TheVariants as limit
use Rattle.flow_engine_history.specs.HistoryView.{entries_of}
use Rattle.flow_engine_history.specs.Histories.{IsShownAfter, IsSoFar}
use Rattle.flow_engine_history.specs.Laws.{HoldsRun}
use Rattle.flow_engine_history.specs.Openings.{RefusesEntries, RefusesImage}
use Rattle.flow_engine_history.specs.declared.error.EngineError.{EngineError}
use Rattle.flow_engine_history.specs.declared.error.EngineError.TheVariants as refused
use Rattle.flow_engine_history.proofs.RefusalLaws.{no_run_where_refused, one_refusal}
use Rattle.flow_engine_reports.specs.RunFiles.{Begins, BeginsOtherwise, BreaksOff, IsBegin, IsDamaged, IsTooLarge, Overgrows, TellsRun}
use Rattle.flow_engine_reports.specs.RunLines.{HoldsReport, Reports}
use Rattle.flow_engine_reports.proofs.BeginLemmas.{SameRun, one-begin}

-- ---- one Begin

first-of : (x y : List ℕ) (xs ys entries : List (List ℕ)) → entries ≡ x ∷ xs → entries ≡ y ∷ ys → x ≡ y
first-of x y xs ys entries e f = cc

not-empty : (x : List ℕ) (xs entries : List (List ℕ)) → entries ≡ [] → entries ≡ x ∷ xs → ⊥
not-empty x xs entries e f = cc

one-run : (entries : List (List ℕ)) (g h : Given) (k n : ℕ) → Begins entries g k → Begins entries h n → SameRun g h k n
one-run entries g h k n a b =
    one-begin a.first g h k n a.begin (subst (λ (x : List ℕ). IsBegin x h n) (first-of b.first a.first b.others a.others entries b.are a.are) b.begin)

begins-so : (entries : List (List ℕ)) (g : Given) (k : ℕ) → Begins entries g k → BeginsOtherwise entries → ⊥
begins-so entries g k a b = b.bad g k (subst (λ (x : List ℕ). IsBegin x g k) (first-of a.first b.first a.others b.others entries a.are b.are) a.begin)

-- ---- entries of a run are refused in no way

so-far : (records : List Record) (seen : Shown) (entries : List (List ℕ)) → entries ≡ entries_of records → Begins entries seen.given seen.run → IsShownAfter seen.given seen.run records seen → IsSoFar records seen
so-far [] seen entries are begins h = absurd (not-empty begins.first begins.others entries are begins.are)
so-far (first ∷ others) seen entries are begins h = h

holds-run : (image : List ℕ) (entries : List (List ℕ)) (records : List Record) (seen : Shown) → Stands image entries → TellsRun entries records seen → HoldsRun seen.given seen.run image
holds-run image entries records seen stands t = record {
  records = records;
  seen = seen;
  holds = subst (λ (l : List (List ℕ)). Stands image l) t.are stands;
  ranges = t.ranges;
  given_is = refl;
  run_is = refl;
  so_far = so-far records seen entries t.are t.begins t.shows;
  tasks = t.tasks;
}

as-image : (image : List ℕ) (entries : List (List ℕ)) (g h : Given) (k n : ℕ) (error : EngineError) → Stands image entries → SameRun g h k n → RefusesEntries g k entries error → RefusesImage h n image error
as-image image entries g h k n error stands same r = inr (record {
  entries = entries;
  stands = stands;
  refuses = subst (λ (m : ℕ). RefusesEntries h m entries error) same.1 (subst (λ (x : Given). RefusesEntries x k entries error) same.0 r);
})

not-refused : (image : List ℕ) (entries : List (List ℕ)) (records : List Record) (seen : Shown) (g : Given) (k : ℕ) (error : EngineError) → Stands image entries → TellsRun entries records seen
    → Begins entries g k → RefusesEntries g k entries error → ⊥
not-refused image entries records seen g k error stands t begins r =
    no_run_where_refused seen.given seen.run image error (as-image image entries g seen.given k seen.run error stands (one-run entries g seen.given k seen.run begins t.begins) r)
    (holds-run image entries records seen stands t)

-- ---- a report, damage, or too many tasks

stopped : (image : List ℕ) (entries : List (List ℕ)) (text : List ℕ) (place : ℕ) → Stands image entries → Reports entries text → BreaksOff entries place → ⊥
stopped image entries text place stands (inl h) (inl b) = not-empty b.0.first b.0.others entries h.0 b.0.are
stopped image entries text place stands (inl h) (inr b) = not-empty b.begins.first b.begins.others entries h.0 b.begins.are
stopped image entries text place stands (inr h) (inl b) = begins-so entries h.seen.given h.seen.run h.tells.begins b.0
stopped image entries text place stands (inr h) (inr b) = not-refused image entries h.records h.seen b.given b.run (refused.Damaged place) stands h.tells b.begins b.refuses

grown : (image : List ℕ) (entries : List (List ℕ)) (text : List ℕ) → Stands image entries → Reports entries text → Overgrows entries → ⊥
grown image entries text stands (inl h) o = not-empty o.begins.first o.begins.others entries h.0 o.begins.are
grown image entries text stands (inr h) o = not-refused image entries h.records h.seen o.given o.run (refused.Limit limit.Tasks) stands h.tells o.begins o.refuses

pub report-or-damaged : (image text : List ℕ) (place : ℕ) → HoldsReport image text → IsDamaged image place → ⊥
report-or-damaged image text place h (inl d) = no_list_where_damaged image place h.0 d h.1
report-or-damaged image text place h (inr d) =
    stopped image h.0 text place h.1 h.2 (subst (λ (l : List (List ℕ)). BreaksOff l place) (one_list image d.0 h.0 d.1 h.1) d.2)

pub report-or-large : (image text : List ℕ) → HoldsReport image text → IsTooLarge image → ⊥
report-or-large image text h o = grown image h.0 text h.1 h.2 (subst Overgrows (one_list image o.0 h.0 o.1 h.1) o.2)

differs : (place : ℕ) → refused.Damaged place ≡ refused.Limit limit.Tasks → ⊥
differs place e = cc

broken-or-large : (image : List ℕ) (entries : List (List ℕ)) (place : ℕ) → Stands image entries → BreaksOff entries place → Overgrows entries → ⊥
broken-or-large image entries place stands (inl b) o = begins-so entries o.given o.run o.begins b.0
broken-or-large image entries place stands (inr b) o =
    differs place (one_refusal o.given o.run image (refused.Damaged place) (refused.Limit limit.Tasks)
    (as-image image entries b.given o.given b.run o.run (refused.Damaged place) stands (one-run entries b.given o.given b.run o.run b.begins o.begins) b.refuses)
    (as-image image entries o.given o.given o.run o.run (refused.Limit limit.Tasks) stands (refl, refl) o.refuses))

pub damaged-or-large : (image : List ℕ) (place : ℕ) → IsDamaged image place → IsTooLarge image → ⊥
damaged-or-large image place (inl d) o = no_list_where_damaged image place o.0 d o.1
damaged-or-large image place (inr d) o =
    broken-or-large image d.0 place d.1 d.2 (subst Overgrows (one_list image o.0 d.0 o.1 d.1) o.2)
