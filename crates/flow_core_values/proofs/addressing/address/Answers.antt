use Rattle.std.proofs.Common.{refl, ap, ◌∙◌}
use Rattle.cacao_text.specs.Canon.{canon}
use Rattle.flow_core_values.specs.Completed.{completed_args}
use Rattle.flow_core_values.proofs.AddressLemmas.{addressed_new}
use Rattle.flow_core_values.proofs.addressing.address.Goals as goal

pub returns : goal.returns
returns c =
    addressed_new c.args.run c.args.issue c.args.pairs _ _ _ _ _ _ _ c.as_slice.ensures.sorted c.remove-args.ensures.others c.as_slice-2.ensures.sorted
    refl refl c.in_ok-put_id.ensures c.as_slice-3.ensures.sorted
    refl (c.in_ok-args.ensures ∙ ap (λ o. canon (completed_args o)) c.remove-args.ensures.value) c.in_ok-put.ensures
