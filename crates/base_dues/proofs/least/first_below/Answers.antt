use Rattle.std.proofs.Common.{ℕ, ◌<◌, Option, None, length, get_or, subst}
use Rattle.std.specs.Prelude.{IfSome}
use Rattle.base_dues.specs.Pairs.{IsFirstBy}
use Rattle.base_dues.proofs.LeastLemmas.{none_under, found_under}
use Rattle.base_dues.proofs.least.first_below.Goals as goal

pub returns-in-Some-clause-number : goal.returns-in-Some-clause-number
returns-in-Some-clause-number c =
    found_under c.args.moment c.in-Some.block c.args.moments.now c.args.least.now c.first_by.result c.requires.tells
    (subst (λ (o : Option ℕ). IfSome o (λ n. n < length c.args.least.now)) c.in-Some.is c.requires.there)
    (subst (λ (o : Option ℕ). IsFirstBy c.args.moment (λ k. get_or c.args.least.now k None) o) c.in-Some.is c.requires.found)
    c.first_by.ensures

pub returns-in-None-clause-number : goal.returns-in-None-clause-number
returns-in-None-clause-number c =
    none_under c.args.moment c.args.moments.now c.args.least.now c.requires.tells
    (subst (λ (o : Option ℕ). IsFirstBy c.args.moment (λ k. get_or c.args.least.now k None) o) c.in-None.is c.requires.found)
