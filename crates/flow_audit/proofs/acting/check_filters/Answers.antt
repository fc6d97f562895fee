use Rattle.std.proofs.Common.{◌≡◌, ◌+◌, ◌++◌, ◌∷◌, [], suc, List, length, take, Some, refl, sym, ap, subst, ◌∙◌, arith, length-append}
use Rattle.std.specs.Prelude.{slice_get}
use Rattle.std.proofs.lemmas.List.{take_all}
use Rattle.std.proofs.lemmas.Option.{slice_get_read}
use Rattle.flow_audit.specs.Breaks.{ActsFit}
use Rattle.flow_audit.specs.Parts.{AllActsFit, AreIndexes}
use Rattle.flow_audit.specs.declared.reading.ActFile.{ActFile}
use Rattle.flow_audit.proofs.FilterLemmas.{fit_more, fit_none, indexes_more, no_indexes, stops_filter}
use Rattle.flow_audit.proofs.acting.check_filters.Goals as goal

pub loop-k-init : goal.loop-k-init
loop-k-init c = record {
  fit = fit_none c.args.run.now.file.records.items;
  indexes = no_indexes c.new-indexes.result.items;
  many = ap length c.new-indexes.ensures.items;
}

pub loop-k-preserved : goal.loop-k-preserved
loop-k-preserved c =
    let records = c.args.run.now.file.records.items in
    let filters = c.args.filters.now in
    let k = c.loop-k.k in
    let f = c.index-filters-k.result in
    let there : slice_get filters k ≡ Some f = slice_get_read filters (length filters) k f refl (omega (arith, c.loop-k-test.true)) c.index-filters-k.is in
    let pushed : c.push.new.self.items ≡ c.loop-k.indexes.items ++ c.in-Ok.index ∷ [] = c.in_ok-push-in-Ok.ensures.items in
    let fits : ActsFit records (suc k) f.acts.items = subst (λ a. ActsFit records a f.acts.items) (let e : k + 1 ≡ suc k = omega arith in e) c.in-Ok.ensures.fit in
    record {
      fit = fit_more records filters k f there c.loop-k.invariant.fit fits;
      indexes = subst (AreIndexes (take (k + 1) filters)) (sym pushed)
          (indexes_more filters c.loop-k.indexes.items k f c.in-Ok.index there c.loop-k.invariant.indexes c.loop-k.invariant.many c.in-Ok.ensures.index);
      many = ap length pushed ∙ omega (arith, length-append c.loop-k.indexes.items (c.in-Ok.index ∷ []), c.loop-k.invariant.many);
    }

pub returns-in-Err-clause-stops : goal.returns-in-Err-clause-stops
returns-in-Err-clause-stops c =
    let records = c.args.run.now.file.records.items in
    let filters = c.args.filters.now in
    let k = c.loop-k.k in
    let f = c.index-filters-k.result in
    let there : slice_get filters k ≡ Some f = slice_get_read filters (length filters) k f refl (omega (arith, c.loop-k-test.true)) c.index-filters-k.is in
    stops_filter records filters k f c.in-Err.stop there c.loop-k.invariant.fit c.in-Err.ensures.stops

pub check_acts-requires : goal.check_acts-requires
check_acts-requires c =
    let filters = c.args.filters.now in
    let k = c.loop-k.k in
    let f = c.index-filters-k.result in
    let there : slice_get filters k ≡ Some f = slice_get_read filters (length filters) k f refl (omega (arith, c.loop-k-test.true)) c.index-filters-k.is in
    record { flow = c.requires.flow; agent = (omega arith, omega (arith, c.loop-k-test.true, c.requires.many)); file = c.requires.files k f there }

pub returns-clause-fit : goal.returns-clause-fit
returns-clause-fit c =
    subst (AllActsFit c.args.run.now.file.records.items) (take_all c.loop-k.k c.args.filters.now (omega (arith, c.loop-k-test.false))) c.loop-k.invariant.fit

pub returns-clause-indexes : goal.returns-clause-indexes
returns-clause-indexes c =
    subst (λ (l : List ActFile). AreIndexes l c.loop-k.indexes.items) (take_all c.loop-k.k c.args.filters.now (omega (arith, c.loop-k-test.false))) c.loop-k.invariant.indexes
