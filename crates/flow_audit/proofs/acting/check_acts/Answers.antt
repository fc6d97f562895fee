use Rattle.std.proofs.Common.{List, [], Ok, refl, sym, ap, subst, ◌∙◌, arith}
use Rattle.std.proofs.lemmas.List.{take_all}
use Rattle.run_records.specs.declared.act.Act.{Act}
use Rattle.slpf_rules_acts.specs.Index.{Places}
use Rattle.flow_audit.specs.Breaks.{ActsFit, BreaksActs}
use Rattle.flow_audit.specs.Index.{ArePlacesOf}
use Rattle.flow_audit.proofs.ActLemmas.{fit_next, fit_none, no_places}
use Rattle.flow_audit.proofs.ListLemmas.{get_there}
use Rattle.flow_audit.proofs.acting.check_acts.Goals as goal

pub loop-n-init : goal.loop-n-init
loop-n-init c = record {
  fit = fit_none c.args.run.now.file.records.items c.args.agent;
  index = subst (λ (p : Places). ArePlacesOf [] p) (sym c.new-index.ensures) no_places;
  table = c.new-table.ensures;
}

pub loop-n-preserved : goal.loop-n-preserved
loop-n-preserved c =
    let acts = c.as_slice-acts.result.now in
    let n = c.loop-n.n in
    let x = get_there acts n (omega (arith, c.loop-n-test.true)) in
    let ok = ap (λ b. Ok b) c.if-not-branch.false in
    record {
      fit = fit_next c.args.run.now.file.records.items c.args.agent acts n x.0 x.1 c.loop-n.invariant.fit (c.in_ok-check_act.ensures.fits ok x.0 x.1);
      index = c.in_ok-check_act.ensures.index ok;
      table = c.in_ok-check_act.ensures.table ok;
    }

pub returns-then-not-branch-clause-stops : goal.returns-then-not-branch-clause-stops
returns-then-not-branch-clause-stops c =
    let records = c.args.run.now.file.records.items in
    let acts = c.as_slice-acts.result.now in
    let n = c.loop-n.n in
    let x = get_there acts n (omega (arith, c.loop-n-test.true)) in
    let broken : BreaksActs records c.args.agent acts n = record {
      act = x.0;
      there = x.1;
      breaks = c.in_ok-check_act.ensures.breaks (ap (λ b. Ok b) c.if-not-branch.true) x.0 x.1;
      before = c.loop-n.invariant.fit;
    } in
    (refl, (n, subst (λ (l : List Act). BreaksActs records c.args.agent l n) c.as_slice-acts.ensures.value broken, c.gate.ensures))

pub returns-clause-fit : goal.returns-clause-fit
returns-clause-fit c =
    let acts = c.as_slice-acts.result.now in
    subst (ActsFit c.args.run.now.file.records.items c.args.agent) (take_all c.loop-n.n acts (omega (arith, c.loop-n-test.false)) ∙ c.as_slice-acts.ensures.value) c.loop-n.invariant.fit

pub returns-clause-index : goal.returns-clause-index
returns-clause-index c =
    let acts = c.as_slice-acts.result.now in
    subst (λ (l : List Act). ArePlacesOf l c.loop-n.index) (take_all c.loop-n.n acts (omega (arith, c.loop-n-test.false)) ∙ c.as_slice-acts.ensures.value) c.loop-n.invariant.index
