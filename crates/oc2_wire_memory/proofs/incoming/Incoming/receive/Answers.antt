use Rattle.std.proofs.Common.{◌<◌, ◌∙◌, ℕ, List, length, ap, arith, sym}
use Rattle.oc2_wire_memory.specs.Pieces.{front_for}
use Rattle.oc2_wire_memory.proofs.PieceLemmas.{front_of_nothing, left_nowhere, part_left}
use Rattle.oc2_wire_memory.proofs.incoming.Incoming.receive.Goals as goal

pub returns-then-number-as_slice-clause-count : goal.returns-then-number-as_slice-clause-count
returns-then-number-as_slice-clause-count c =
    let left = left_nowhere c.as_slice.result.now c.args.self.now.pieces.items c.args.self.now.number c.args.self.now.place c.next_place-number.result.0 c.next_place-number.result.1
    c.as_slice.ensures.value c.next_place-number.ensures.count (c.if-number-as_slice.true ∙ ap length c.as_slice-2.ensures.value) in
    sym (ap length (front_of_nothing (length c.args.into.now) _ left))

pub returns-then-number-as_slice-clause-bytes : goal.returns-then-number-as_slice-clause-bytes
returns-then-number-as_slice-clause-bytes c =
    let left = left_nowhere c.as_slice.result.now c.args.self.now.pieces.items c.args.self.now.number c.args.self.now.place c.next_place-number.result.0 c.next_place-number.result.1
    c.as_slice.ensures.value c.next_place-number.ensures.count (c.if-number-as_slice.true ∙ ap length c.as_slice-2.ensures.value) in
    sym (front_of_nothing (length c.args.into.now) _ left)

pub returns-clause-count : goal.returns-clause-count
returns-clause-count c =
    let lt : c.next_place-number.result.0 < length c.args.self.now.pieces.items =
    omega (arith, c.next_place-number.ensures.number, c.if-number-as_slice.false, ap length c.as_slice.ensures.value, ap length c.as_slice-2.ensures.value) in
    let part = part_left c.as_slice.result.now c.args.self.now.pieces.items c.args.self.now.number c.args.self.now.place c.next_place-number.result.0 c.next_place-number.result.1
    c.as_slice-3.result.now c.index.result.now c.as_slice.ensures.value c.next_place-number.ensures.count lt c.next_place-number.ensures.byte (c.as_slice-3.ensures ∙ c.index.ensures) in
    c.copy_front-count.ensures.count ∙ ap (λ (bytes : List ℕ). length (front_for (length c.args.into.now) bytes)) part

pub returns-clause-bytes : goal.returns-clause-bytes
returns-clause-bytes c =
    let lt : c.next_place-number.result.0 < length c.args.self.now.pieces.items =
    omega (arith, c.next_place-number.ensures.number, c.if-number-as_slice.false, ap length c.as_slice.ensures.value, ap length c.as_slice-2.ensures.value) in
    let part = part_left c.as_slice.result.now c.args.self.now.pieces.items c.args.self.now.number c.args.self.now.place c.next_place-number.result.0 c.next_place-number.result.1
    c.as_slice-3.result.now c.index.result.now c.as_slice.ensures.value c.next_place-number.ensures.count lt c.next_place-number.ensures.byte (c.as_slice-3.ensures ∙ c.index.ensures) in
    c.copy_front-count.ensures.bytes ∙ ap (front_for (length c.args.into.now)) part
