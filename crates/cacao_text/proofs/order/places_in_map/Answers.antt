use Rattle.std.proofs.Common.{[], ◌∷◌, ◌++◌, sym, ap, ◌∙◌, append_assoc, append-nil}
use Rattle.cacao_text.specs.Keys.{places_in}
use Rattle.cacao_text.proofs.order.places_in_map.Goals as goal

pub loop-key-preserved : goal.loop-key-preserved
loop-key-preserved c =
    let old = c.loop-key.list.items in
    let left = places_in c.next.new.self in
    ap (λ xs. xs ++ left) c.in_ok-push.ensures.items ∙ append_assoc old (c.in-Some.key.now.place ∷ []) left ∙ ap (λ es. old ++ places_in es) (sym c.in-Some.ensures.steps) ∙ c.loop-key.invariant

pub returns : goal.returns
returns c =
    let old = c.loop-key.list.items in
    sym (append-nil old) ∙ ap (λ es. old ++ places_in es) (sym c.in-None.ensures.steps.0) ∙ c.loop-key.invariant
