use Rattle.std.proofs.Common.{codes, sym, subst, ◌∙◌}
use Rattle.std.proofs.lemmas.Slice.Eq.{bytes_eq-Decides}
use Rattle.cacao_ids.specs.Ids.{HasObjectType}
use Rattle.cacao_book_shape.proofs.IdLemmas.{object_types_agree}
use Rattle.cacao_book_shape.proofs.grammars.is_of_playbook.Goals as goal

pub returns : goal.returns
returns c =
    let same = bytes_eq-Decides c.object_type.result.now (codes "playbook") in (
      λ t. subst (λ o. HasObjectType o c.args.id.now) (same.0 (sym c.eq.ensures ∙ t)) c.object_type.ensures,
      λ h. c.eq.ensures ∙ same.1 (object_types_agree c.object_type.result.now (codes "playbook") c.args.id.now c.object_type.ensures h),
    )
