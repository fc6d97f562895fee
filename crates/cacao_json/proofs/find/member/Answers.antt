use Rattle.std.proofs.Common.{◌≡◌, ◌+◌, Some, refl, sym, ap, ◌∙◌, arith}
use Rattle.serde_json.specs.Find.{get, get_member}
use Rattle.cacao_json.specs.Tree.{data_of, pairs_data}
use Rattle.cacao_json.specs.Size.{size, members_size}
use Rattle.cacao_json.proofs.Trees.{pair_within}
use Rattle.cacao_json.proofs.Places.{found_there, not_found}
use Rattle.cacao_json.proofs.find.member.Goals as goal

pub returns-in-Ok-clause-value : goal.returns-in-Ok-clause-value
returns-in-Ok-clause-value c =
    let ps = c.as_slice-pairs.result.now in
    let name = c.args.name.now in
    ap (λ p. Some (data_of p.tree)) (sym c.index-pairs-place.is) ∙ sym (found_there ps ps refl name c.in-Ok.place c.index-pairs-place.result c.index-pairs-place.is c.in-Ok.ensures)
    ∙ ap (get_member name) c.as_slice-pairs.ensures.value ∙ ap (λ t. get name (data_of t)) (sym c.in-Members.is)

pub returns-in-Ok-clause-smaller : goal.returns-in-Ok-clause-smaller
returns-in-Ok-clause-smaller c =
    let ps = c.as_slice-pairs.result.now in
    let whole : size (data_of c.args.tree.now) ≡ 1 + members_size (pairs_data ps) = ap (λ t. size (data_of t)) c.in-Members.is ∙ ap (λ ms. 1 + members_size ms) (sym c.as_slice-pairs.ensures.value) in
    let same = ap (λ p. size (data_of p.tree)) c.index-pairs-place.is in
    omega (arith, whole, same, pair_within ps c.in-Ok.place c.index-pairs-place.result c.in-Ok.ensures.0 c.index-pairs-place.is)

pub returns-in-Err-clause-value : goal.returns-in-Err-clause-value
returns-in-Err-clause-value c =
    let ps = c.as_slice-pairs.result.now in
    let name = c.args.name.now in
    sym (not_found ps ps refl name c.in-Err.field-0 c.in-Err.ensures) ∙ ap (get_member name) c.as_slice-pairs.ensures.value ∙ ap (λ t. get name (data_of t)) (sym c.in-Members.is)
