-- Promise: The laws of the order of nets.
use Rattle.std.specs.Prelude.{◌≡◌, refl}
use Rattle.std.specs.Ordering.{eq_by_cmp, as_partial_cmp}
use Rattle.std.specs.Cmp.{IsTotalOrder, IsEquivalence, IsPartialOrder, po}
use Rattle.std.proofs.lemmas.Cmp.{nat_cmp_total, on_total, then_total, eq_by_cmp_equiv}
use Rattle.slpf_rules.specs.declared.any_nets.AnyNet.{AnyNet}
use Rattle.slpf_rules.specs.AnyNets.{family, bits, width, net_cmp}

pub net_cmp_total : IsTotalOrder net_cmp
net_cmp_total =
    then_total (on_total family nat_cmp_total) (then_total (on_total bits nat_cmp_total) (on_total width nat_cmp_total))

pub net_eq_equiv : IsEquivalence (eq_by_cmp net_cmp)
net_eq_equiv = eq_by_cmp_equiv net_cmp_total

pub net_ties : (x y : AnyNet) → eq_by_cmp net_cmp x y ≡ eq_by_cmp net_cmp x y
net_ties x y = refl

pub net_partial_order : IsPartialOrder (eq_by_cmp net_cmp) (as_partial_cmp net_cmp)
net_partial_order = po net_cmp_total (λ x y. refl)
