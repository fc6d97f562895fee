-- What the scan answers is what the grammar says.
use Rattle.std.proofs.Common.{arith, ◌≡◌, ◌<◌, ◌∙◌, sym, ap, ◌==◌, ◌&&◌, false, drop, length, suc, slice_index_or, drop-cons}
use Rattle.std.proofs.lemmas.List.{at_drop_all}
use Rattle.cacao_ids.proofs.IdLemmas.{completes, refuses, answers}
use Rattle.cacao_ids.proofs.ids.is_object_type.Goals as goal

pub returns-else-byte-eq45 : goal.returns-else-byte-eq45
returns-else-byte-eq45 c =
    let text = c.args.text.now in
    let i = c.loop-byte.byte-index in
    let byte = slice_index_or text i 0 in
    let here : i < length text = c.loop-byte-test.true in
    let hyphen : ((byte == 45) && c.loop-byte.is_in_part) ≡ false = grind (arith, c.else-byte-eq45.either) in
    answers false text (sym c.loop-byte.invariant ∙ ap (completes c.loop-byte.is_in_part) (drop-cons text i 0 here) ∙ refuses c.loop-byte.is_in_part byte (drop (suc i) text) (sym c.if-is_part_byte.ensures) hyphen)

pub returns : goal.returns
returns c =
    answers c.loop-byte.is_in_part c.args.text.now (sym c.loop-byte.invariant ∙ at_drop_all (completes c.loop-byte.is_in_part) c.args.text.now c.loop-byte.byte-index c.loop-byte-test.false)
