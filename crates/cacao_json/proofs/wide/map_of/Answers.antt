use Rattle.std.proofs.Common.{◌≡◌, [], ◌∷◌, ◌++◌, length, sym, ap, subst, ◌∙◌, append_assoc, arith}
use Rattle.std.specs.Vec.Iter.{into_iter_items}
use Rattle.serde_json.specs.Data.{put}
use Rattle.cacao_json.specs.Profile.{AreSortedMembers}
use Rattle.cacao_json.specs.Tree.{data_of, pairs_data}
use Rattle.cacao_json.proofs.StraightLemmas.{put-last}
use Rattle.cacao_json.proofs.wide.map_of.Goals as goal

pub loop-pair-preserved : goal.loop-pair-preserved
loop-pair-preserved c =
    let l = c.loop-pair in
    let done = l.invariant.0 in
    let p = c.in-Some.pair in
    let left = into_iter_items c.next.new.self in
    let all : c.args.pairs ≡ pairs_data (done ++ p ∷ left) = l.invariant.1 ∙ ap (λ ps. pairs_data (done ++ ps)) c.in-Some.ensures.steps.0 in (
      done ++ p ∷ [],
      all ∙ ap pairs_data (sym (append_assoc done (p ∷ []) left)),
      c.in_ok-add_new.ensures.value ∙ ap (put p.name (data_of p.tree)) l.invariant.2 ∙ put-last done left p (subst AreSortedMembers all c.into_vec-pair-items.ensures.sorted),
      omega (arith, l.invariant.3, ap length c.in-Some.ensures.steps.0, c.in-Some.ensures.steps.1),
    )
