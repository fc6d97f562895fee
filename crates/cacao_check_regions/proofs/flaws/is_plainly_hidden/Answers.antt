use Rattle.std.proofs.Common.{ℕ, List, length, Contains, subst}
use Rattle.cacao_check_regions.proofs.ChartLemmas.{within_members}
use Rattle.cacao_check_regions.proofs.SightLists.{some_within}
use Rattle.cacao_check_regions.proofs.HiddenLemmas.{plainly_hidden}
use Rattle.cacao_check_regions.proofs.flaws.is_plainly_hidden.Goals as goal

pub none_flawed-requires : goal.none_flawed-requires
none_flawed-requires c =
    within_members (length c.args.book.now.steps) c.find-places.result.now
    (λ p h. some_within c.args.book.now c.args.name.now p ((c.requires.declarers_are c.args.name.now p).0 (subst (λ (v : List ℕ). Contains v p) c.find-places.ensures h)))

pub returns : goal.returns
returns c h =
    plainly_hidden c.args.book.now c.args.chart.now c.args.name.now c.args.flaw.now c.find-places.result.now c.args.place c.requires c.find-places.ensures
    (c.is_behind.ensures c.if-not-is_behind.false) (c.none_flawed.ensures h)
