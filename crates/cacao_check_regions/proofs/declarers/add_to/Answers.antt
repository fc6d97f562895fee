use Rattle.std.proofs.Common.{ℕ, List, subst}
use Rattle.cacao_check_regions.specs.Declarers.{Puts}
use Rattle.cacao_check_regions.proofs.DeclarerLemmas.{adds_from_puts}
use Rattle.cacao_check_regions.proofs.declarers.add_to.Goals as goal

pub returns-then-branch : goal.returns-then-branch
returns-then-branch c = adds_from_puts c.args.places.now.entries c.add_under.new.places.entries c.args.name.now c.args.place (c.in_ok-add_under.ensures.added c.if-branch.true)

pub returns : goal.returns
returns c =
    let puts : Puts c.args.places.now.entries c.put_first.new.places.entries c.args.name.now c.args.place =
    subst (λ (v : List (List ℕ × List ℕ)). Puts v c.put_first.new.places.entries c.args.name.now c.args.place) (c.in_ok-add_under.ensures.unchanged c.if-branch.false) c.in_ok-put_first.ensures in
    adds_from_puts c.args.places.now.entries c.put_first.new.places.entries c.args.name.now c.args.place puts
