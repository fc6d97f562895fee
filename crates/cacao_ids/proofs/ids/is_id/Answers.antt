-- The parts are tested where the two hyphens stand.
use Rattle.std.proofs.Common.{refl, sym, subst}
use Rattle.cacao_ids.specs.Uuids.{IsUuid}
use Rattle.cacao_ids.proofs.IdLemmas.{cut_behind, id_answers}
use Rattle.cacao_ids.proofs.ids.is_id.Goals as goal

pub range_from-requires : goal.range_from-requires
range_from-requires c =
    λ _. cut_behind c.args.text.now c.as_bytes-bytes.result.now c.as_bytes-bytes.ensures.value c.utf8.text c.if-len-lt38.false c.if-bytes-len-ne45-2.false

pub returns-then-is_object_type : goal.returns-then-is_object_type
returns-then-is_object_type c =
    id_answers c.args.text.now c.as_bytes-bytes.result.now c.is_uuid.result c.as_bytes-bytes.ensures.value c.if-len-lt38.false c.if-len-gt-MAX_BYTES.false c.if-bytes-len-ne45.false c.if-bytes-len-ne45-2.false
    (c.if-is_object_type.ensures.0 refl) (λ t. subst IsUuid c.range_from.ensures.value (c.is_uuid.ensures.0 t)) (λ u. c.is_uuid.ensures.1 (subst IsUuid (sym c.range_from.ensures.value) u))
