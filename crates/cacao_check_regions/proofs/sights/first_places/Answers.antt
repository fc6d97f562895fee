use Rattle.std.proofs.Common.{◌≡◌, ◌↔◌, ◌<◌, ℕ, List, IsTrue, length, Contains, ap, subst, arith}
use Rattle.base_graphs.proofs.RowLemmas.{row_is}
use Rattle.cacao_check_regions.proofs.ChartLemmas.{chosen_within, within_members, heads_all}
use Rattle.cacao_check_regions.proofs.SightLemmas.{Gathers-none, Gathers-more, Gathers-all}
use Rattle.cacao_check_regions.proofs.sights.first_places.Goals as goal

pub loop-control-init : goal.loop-control-init
loop-control-init c =
    Gathers-none c.args.chart.now.starts c.args.chart.now.heads.items c.args.chosen.now c.args.at_start c.in_ok-places.places
    (λ p. subst (λ (v : List ℕ). Contains c.in_ok-places.places p ↔ (IsTrue c.args.at_start × Contains v p)) c.as_slice.ensures (c.in_ok-places.ensures p))

pub loop-control-preserved : goal.loop-control-preserved
loop-control-preserved c =
    let same : length c.as_slice-control-end.result.now ≡ length c.args.book.now.steps = ap length c.as_slice-control-end.ensures.steps in
    let all : length c.args.chart.now.heads.items ≡ length c.args.book.now.steps = heads_all c.args.book.now c.args.chart.now c.requires in
    let inside : c.loop-control.control < length c.args.chart.now.heads.items = omega (arith, same, all, c.loop-control-test.true) in
    Gathers-more c.args.chart.now.starts c.args.chart.now.heads.items c.args.chosen.now c.args.at_start c.loop-control.control c.as_slice-heads.result.now c.loop-control.places c.append_where_wanted.new.these c.has.result
    (row_is c.args.chart.now.heads.items c.loop-control.control c.index.result.now c.as_slice-heads.result.now inside c.index.ensures c.as_slice-heads.ensures)
    c.has.ensures c.loop-control.invariant c.in_ok-append_where_wanted.ensures

pub returns-clause-within : goal.returns-clause-within
returns-clause-within c =
    let same : length c.as_slice-control-end.result.now ≡ length c.args.book.now.steps = ap length c.as_slice-control-end.ensures.steps in
    within_members (length c.args.book.now.steps) c.loop-control.places
    (λ p h. chosen_within c.args.book.now c.args.chart.now c.requires c.args.chosen.now c.args.at_start p
    ((Gathers-all c.args.book.now c.args.chart.now c.requires c.args.chosen.now c.args.at_start c.loop-control.control c.loop-control.places (omega (arith, same, c.loop-control-test.false)) c.loop-control.invariant p).0 h))

pub returns-clause-exact : goal.returns-clause-exact
returns-clause-exact c =
    let same : length c.as_slice-control-end.result.now ≡ length c.args.book.now.steps = ap length c.as_slice-control-end.ensures.steps in
    Gathers-all c.args.book.now c.args.chart.now c.requires c.args.chosen.now c.args.at_start c.loop-control.control c.loop-control.places (omega (arith, same, c.loop-control-test.false)) c.loop-control.invariant
