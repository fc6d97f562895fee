use Rattle.std.proofs.Common.{ℕ, List, Option, Some, None, set, ap, sym, ◌∙◌, arith}
use Rattle.base_dues.proofs.MomentLemmas.{number_within, set-some, set-none}
use Rattle.base_dues.proofs.moments.Moments.set.Goals as goal

pub index_mut-requires : goal.index_mut-requires
index_mut-requires c =
    omega (arith, number_within c.self.inside.there.items c.self.inside.times.items c.args.self.now c.args.number c.self.invariant c.self.view_is c.requires, c.self.inside.there.ok.0)

pub index_mut-requires-in-Some : goal.index_mut-requires-in-Some
index_mut-requires-in-Some c =
    omega (arith, number_within c.self.inside.there.items c.self.inside.times.items c.args.self.now c.args.number c.self.invariant c.self.view_is c.requires, c.self.invariant, c.self.inside.times.ok.0)

pub index_mut-requires-in-None : goal.index_mut-requires-in-None
index_mut-requires-in-None c =
    omega (arith, number_within c.self.inside.there.items c.self.inside.times.items c.args.self.now c.args.number c.self.invariant c.self.view_is c.requires, c.self.inside.there.ok.0)

pub returns-in-Some : goal.returns-in-Some
returns-in-Some c =
    set-some c.self.inside.there.items c.self.inside.times.items c.args.number c.in-Some.moment c.self.invariant
    (number_within c.self.inside.there.items c.self.inside.times.items c.args.self.now c.args.number c.self.invariant c.self.view_is c.requires)
    ∙ ap (λ (l : List (Option ℕ)). set l c.args.number (Some c.in-Some.moment)) c.self.view_is
    ∙ ap (λ (due : Option ℕ). set c.args.self.now c.args.number due) (sym c.in-Some.is)

pub returns-in-None : goal.returns-in-None
returns-in-None c =
    set-none c.self.inside.there.items c.self.inside.times.items c.args.number c.self.invariant
    (number_within c.self.inside.there.items c.self.inside.times.items c.args.self.now c.args.number c.self.invariant c.self.view_is c.requires)
    ∙ ap (λ (l : List (Option ℕ)). set l c.args.number None) c.self.view_is
    ∙ ap (λ (due : Option ℕ). set c.args.self.now c.args.number due) (sym c.in-None.is)
