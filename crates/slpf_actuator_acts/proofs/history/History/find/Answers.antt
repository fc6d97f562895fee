use Rattle.std.proofs.Common.{◌≡◌, ◌<◌, List, length, find, Some, None, slice_get, sym, subst, ap, ◌∙◌, arith}
use Rattle.std.specs.Prelude.{option_and_then}
use Rattle.run_records.specs.declared.act.Act.{Act}
use Rattle.slpf_actuator_acts.specs.History.{is_of, place_of}
use Rattle.slpf_actuator_acts.proofs.Places.{find_at, got_at, place_within}
use Rattle.slpf_actuator_acts.proofs.history.History.find.Goals as goal

pub returns-in-Some : goal.returns-in-Some
returns-in-Some c =
    let acts = c.self.inside.acts.items in
    let at : place_of c.args.run c.args.issue acts ≡ Some c.in-Some.place = sym (c.self.invariant.indexed c.args.run c.args.issue) ∙ sym c.find.ensures ∙ c.in-Some.is in
    let within : c.in-Some.place < length c.deref.result.now =
    subst (λ (l : List Act). c.in-Some.place < length l) (sym c.deref.ensures.value) (place_within c.args.run c.args.issue acts c.in-Some.place at) in
    let found = c.get.ensures.lookup in
    got_at c.get.result c.deref.result.now c.in-Some.place within found.2 (found.4 (omega arith))
    ∙ ap (λ (l : List Act). slice_get l c.in-Some.place) c.deref.ensures.value
    ∙ sym (find_at c.args.run c.args.issue acts ∙ ap (option_and_then (slice_get acts)) at)
    ∙ ap (find (is_of c.args.run c.args.issue)) c.self.view_is

pub returns-in-None : goal.returns-in-None
returns-in-None c =
    let acts = c.self.inside.acts.items in
    let at : place_of c.args.run c.args.issue acts ≡ None = sym (c.self.invariant.indexed c.args.run c.args.issue) ∙ sym c.find.ensures ∙ c.in-None.is in
    sym (find_at c.args.run c.args.issue acts ∙ ap (option_and_then (slice_get acts)) at)
    ∙ ap (find (is_of c.args.run c.args.issue)) c.self.view_is
