-- A name that was not declared is put in its place.
use Rattle.std.proofs.Common.{◌≡◌, ◌∙◌, sym, refl, subst, false, is_some}
use Rattle.std.specs.Prelude.{insert}
use Rattle.cacao_vars.specs.Declarations.{declared, placed}
use Rattle.cacao_vars.proofs.OrderLemmas.{added_order}
use Rattle.cacao_vars.proofs.declarations.Vars.insert.Goals as goal

pub invariant_of-self-2 : goal.invariant_of-self-2
invariant_of-self-2 c =
    let place = c.place_of-place.result in
    let fresh = subst (λ vars. false ≡ is_some (declared vars c.args.var.name)) (sym c.self.view_is) c.if-declares.ensures in
    let same = subst (λ vars. placed vars c.args.var ≡ insert vars place c.args.var) c.as_slice.ensures.value (c.place_of-place.ensures.place c.args.var refl) in
    added_order c.self.inside.items.items c.args.var c.insert.new.self.items c.self.invariant fresh (c.in_ok-insert.ensures.items ∙ sym same)
