use Rattle.std.proofs.Common.{◌≡◌, ◌∷◌, ◌++◌, ◌∙◌, ℕ, List, [], length, refl, sym, subst, ap, arith, append_assoc, rules}
use Rattle.std.specs.Vec.Iter.{into_iter_items}
use Rattle.flow_core_rules.specs.Givens.{Given}
use Rattle.flow_engine.specs.EngineView.{EngineView}
use Rattle.flow_fleet.proofs.OpenLemmas.{HasOpened, journals_all, journals_more, journals_refused, opened_none, place_low}
use Rattle.flow_fleet.proofs.opening.open_journals.Goals as goal

pub loop-run-init : goal.loop-run-init
loop-run-init g c = record {
  done = [];
  all = sym c.into_list-run-items.ensures.list ∙ sym c.into_iter-run-iterator.ensures.into_iter_gives.0;
  left = search rules;
  opened = subst (λ (l : List EngineView). HasOpened c.args.runs (g.R.Disk.view c.args.rack.now) (g.R.Disk.view c.args.rack.now) 0 l 0) (sym c.new-engines.ensures.items)
      (opened_none c.args.runs (g.R.Disk.view c.args.rack.now));
}

pub loop-run-preserved : goal.loop-run-preserved
loop-run-preserved g c =
    let l = c.loop-run in
    let done = l.invariant.done in
    let one : ℕ × Given = (c.in-Some.run', c.in-Some.setup) in
    let rest = into_iter_items c.next.new.self in
    let all : c.args.runs ≡ done ++ one ∷ rest = l.invariant.all ∙ ap (λ xs. done ++ xs) c.in-Some.ensures.steps.0 in
    record {
      done = done ++ one ∷ [];
      all = all ∙ sym (append_assoc done (one ∷ []) rest);
      left = omega (arith, l.invariant.left, ap length c.in-Some.ensures.steps.0, c.in-Some.ensures.steps.1);
      opened = journals_more c.args.runs (g.R.Disk.view c.args.rack.now) (g.R.Disk.view l.rack) (g.R.Disk.view c.open_next.new.rack) done rest c.in-Some.run' l.place c.in-Some.setup l.engines.items c.into_list-run-items.ensures.runs.few all
          l.invariant.opened c.open_next.new.engines.items c.min-place.result c.in-Ok.ensures.opens (search rules);
    }

pub open_next-requires : goal.open_next-requires
open_next-requires g c = let is = c.loop-run.invariant.opened.place_is in omega (arith, is)

pub returns-in-Err-clause-refused : goal.returns-in-Err-clause-refused
returns-in-Err-clause-refused g c =
    let l = c.loop-run in
    let done = l.invariant.done in
    let one : ℕ × Given = (c.in-Some.run', c.in-Some.setup) in
    let rest = into_iter_items c.next.new.self in
    let all : c.args.runs ≡ done ++ one ∷ rest = l.invariant.all ∙ ap (λ xs. done ++ xs) c.in-Some.ensures.steps.0 in
    journals_refused c.args.runs (g.R.Disk.view c.args.rack.now) (g.R.Disk.view l.rack) (g.R.Disk.view c.open_next.new.rack) done rest c.in-Some.run' l.place c.in-Some.setup l.engines.items c.into_list-run-items.ensures.runs.few all
    l.invariant.opened c.in-Err.error c.in-Err.ensures.refused

pub returns-clause-opens : goal.returns-clause-opens
returns-clause-opens g c =
    let l = c.loop-run in
    journals_all c.args.runs (g.R.Disk.view c.args.rack.now) (g.R.Disk.view l.rack) l.invariant.done (into_iter_items l.run-iterator) l.engines.items l.place l.invariant.all
    (sym l.invariant.left ∙ c.in-None.ensures.steps.0) l.invariant.opened
