use Rattle.std.proofs.Common.{ℕ, List, subst}
use Rattle.cacao_check_regions.specs.Declarers.{Adds}
use Rattle.cacao_check_regions.proofs.declarers.Declarers.add.Goals as goal

pub returns : goal.returns
returns c = subst (λ (v : List (List ℕ × List ℕ)). Adds v c.add_to.new.places.entries c.args.name.now c.args.place) c.self.view_is c.in_ok-add_to.ensures
