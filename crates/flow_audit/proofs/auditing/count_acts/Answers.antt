use Rattle.std.proofs.Common.{◌≡◌, ◌+◌, ◌<◌, ◌++◌, ◌∷◌, [], ℕ, suc, List, length, take, Some, refl, ap, ◌∙◌, arith}
use Rattle.std.specs.Prelude.{slice_get, sum_by}
use Rattle.std.proofs.lemmas.List.{map-append, take_all}
use Rattle.std.proofs.lemmas.List.Sums.{sum_by_push}
use Rattle.std.proofs.lemmas.Option.{slice_get_read}
use Rattle.run_records.specs.declared.act.Act.{Act}
use Rattle.flow_audit.specs.Parts.{lists_of}
use Rattle.flow_audit.specs.declared.reading.ActFile.{ActFile}
use Rattle.flow_audit.proofs.ListLemmas.{all_get, take_next}
use Rattle.flow_audit.proofs.auditing.count_acts.Goals as goal

pub loop-file-preserved : goal.loop-file-preserved
loop-file-preserved c =
    let filters = c.args.filters.now in
    let k = c.loop-file.file-index in
    let f = c.file-item.result in
    let size : List Act → ℕ = λ (acts : List Act). length acts in
    let there : slice_get filters k ≡ Some f = slice_get_read filters (length filters) k f refl (omega (arith, c.loop-file-test.true)) c.file-item.is in
    let next : take (k + 1) filters ≡ take k filters ++ f ∷ [] = ap (λ m. take m filters) (let e : k + 1 ≡ suc k = omega arith in e) ∙ take_next filters k f there in
    let lists : lists_of (take (k + 1) filters) ≡ lists_of (take k filters) ++ f.acts.items ∷ [] =
    ap lists_of next ∙ map-append (λ (x : ActFile). x.acts.items) (take k filters) (f ∷ []) in
    let total : sum_by size (lists_of (take (k + 1) filters)) ≡ sum_by size (lists_of (take k filters)) + length f.acts.items =
    ap (sum_by size) lists ∙ sum_by_push size (lists_of (take k filters)) f.acts.items in
    let long : length c.as_slice.result.now ≡ length f.acts.items = ap length c.as_slice.ensures.value in
    let short : length f.acts.items < 67_108_864 = all_get (λ (x : ActFile). length x.acts.items < 67_108_864) filters k f there c.requires.few in
    record { counted = omega (arith, total, long, c.loop-file.invariant.counted); few = omega (arith, long, short, c.loop-file.invariant.few) }

pub returns : goal.returns
returns c =
    let filters = c.args.filters.now in
    c.loop-file.invariant.counted
    ∙ ap (λ (l : List ActFile). sum_by (λ (acts : List Act). length acts) (lists_of l)) (take_all c.loop-file.file-index filters (omega (arith, c.loop-file-test.false)))
