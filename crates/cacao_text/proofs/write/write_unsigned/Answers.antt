use Rattle.std.proofs.Common.{◌<◌, [], ◌∷◌, true, length, sym, ap, subst, ◌∙◌}
use Rattle.std.specs.Prelude.{All, flat_map, codes}
use Rattle.json.specs.Token.{begin_object, end_object}
use Rattle.cacao_json.specs.Tree.{without}
use Rattle.cacao_text.specs.Arranged.{pairs_data, sorted_tokens, place_tokens, Adds}
use Rattle.cacao_text.proofs.Placed.{sorted_places_within, members_of-kept}
use Rattle.cacao_text.proofs.Added.{adds_then, adds_last, object_tokens, sorted_tokens-places}
use Rattle.cacao_text.proofs.write.write_unsigned.Goals as goal

pub write_places-requires : goal.write_places-requires
write_places-requires c =
    let ps = c.args.pairs.now in
    subst (All (λ i. i < length ps)) (sym (c.deref.ensures.value ∙ c.in_ok-order.ensures)) (sorted_places_within true ps)

pub returns : goal.returns
returns c =
    let ps = c.args.pairs.now in
    let ms = without (codes "signatures") (pairs_data c.args.pairs.now) in
    let start = c.args.writer.now in
    let opened = c.begin_object.new.self in
    let full = c.write_places.new.writer in
    let first : Adds start opened (begin_object ∷ []) = (c.in_ok-begin_object.ensures.room.0, c.in_ok-begin_object.ensures.ok) in
    let whole = ap (flat_map (place_tokens ps)) (c.deref.ensures.value ∙ c.in_ok-order.ensures) ∙ sorted_tokens-places true ps ∙ ap sorted_tokens (members_of-kept ps) in
    let members : Adds opened full (sorted_tokens ms) = subst (Adds opened full) whole c.in_ok-write_places.ensures in
    adds_last c.end_object.result start full c.end_object.new.self (begin_object ∷ sorted_tokens ms) _ end_object (adds_then start opened full (begin_object ∷ []) (sorted_tokens ms) first members) c.end_object.ensures (object_tokens ms)
