use Rattle.std.proofs.Common.{◌≡◌, ◌-◌, List, length, Some, slice_get, sym, subst, ap, ◌∙◌}
use Rattle.run_records.specs.declared.act.Act.{Act}
use Rattle.slpf_actuator_acts.specs.ActLists.{moment_of_last}
use Rattle.slpf_actuator_acts.proofs.ActLemmas.{last_at}
use Rattle.slpf_actuator_acts.proofs.history.History.last_moment.Goals as goal

pub returns-in-Some : goal.returns-in-Some
returns-in-Some c =
    let last : slice_get c.self.inside.acts.items (length c.self.inside.acts.items - 1) ≡ Some c.in-Some.act.now =
    subst (λ (acts : List Act). slice_get acts (length acts - 1) ≡ Some c.in-Some.act.now) c.deref.ensures.value (sym c.in-Some.ensures.value) in
    sym (last_at 0 c.self.inside.acts.items c.in-Some.act.now last) ∙ ap moment_of_last c.self.view_is
