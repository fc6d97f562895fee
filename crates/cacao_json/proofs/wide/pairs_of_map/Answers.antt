use Rattle.std.proofs.Common.{◌≡◌, [], ◌∷◌, ◌++◌, refl, sym, ap, subst, ◌∙◌, append_assoc, append-nil}
use Rattle.cacao_json.specs.Profile.{AreSortedMembers}
use Rattle.cacao_json.specs.Straight.{entries_data}
use Rattle.cacao_json.specs.Tree.{members_of}
use Rattle.cacao_json.proofs.FormedParts.{sorted_members}
use Rattle.cacao_json.proofs.StraightLemmas.{Entry, entries_push}
use Rattle.cacao_json.proofs.wide.pairs_of_map.Goals as goal

pub loop-name-preserved : goal.loop-name-preserved
loop-name-preserved c =
    let l = c.loop-name in
    let done = l.invariant.0 in
    let e : Entry = (c.in-Some.name, c.in-Some.tree) in
    let left = c.next.new.self in
    let all : c.args.map.entries ≡ done ++ e ∷ left = l.invariant.1 ∙ ap (λ es. done ++ es) c.in-Some.ensures.steps in
    (done ++ e ∷ [], all ∙ sym (append_assoc done (e ∷ []) left), entries_push l.pairs.items c.push.new.self.items _ done e c.in_ok-push.ensures.items l.invariant.2 refl)

pub invariant_of-result : goal.invariant_of-result
invariant_of-result c =
    let l = c.loop-name in
    let same = ap members_of l.invariant.2 ∙ ap entries_data (sym (l.invariant.1 ∙ ap (λ es. l.invariant.0 ++ es) c.in-None.ensures.steps.0 ∙ append-nil l.invariant.0)) in
    subst AreSortedMembers (sym same) (sorted_members _ c.requires)
