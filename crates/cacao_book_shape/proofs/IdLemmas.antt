-- An identifier has one object type.
use Rattle.std.proofs.Common.{◌≡◌, ℕ, ◌+◌, List, ◌∷◌, length, take, sym, ◌∙◌, ap, arith}
use Rattle.std.proofs.lemmas.List.{length-append}
use Rattle.std.proofs.Math.Seq.{take-append_seam}
use Rattle.cacao_ids.specs.Ids.{HasObjectType}

lengths : (object_type text : List ℕ) (h : HasObjectType object_type text) → length text ≡ length object_type + 38
lengths object_type text h = ap length h.joined ∙ omega (arith, length-append object_type (45 ∷ 45 ∷ h.uuid), h.uuid_fits.size)

pub object_types_agree : (a b text : List ℕ) → HasObjectType a text → HasObjectType b text → a ≡ b
object_types_agree a b text h k =
    let same : length a ≡ length b = omega (arith, lengths a text h, lengths b text k) in
    sym (take-append_seam a (45 ∷ 45 ∷ h.uuid)) ∙ ap (take (length a)) (sym h.joined) ∙ ap (λ n. take n text) same ∙ ap (take (length b)) k.joined ∙ take-append_seam b (45 ∷ 45 ∷ k.uuid)
