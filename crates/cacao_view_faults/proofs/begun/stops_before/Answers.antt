use Rattle.std.proofs.Common.{rules, ◌≡◌, ◌≤◌, ◌<◌, ◌==◌, ◌∙◌, sym, false, true, length, take}
use Rattle.std.specs.Prelude.{slice_range}
use Rattle.cacao_view_faults.specs.Closing.{is_begun}
use Rattle.cacao_view_faults.specs.Kinds.{is_piece}
use Rattle.cacao_view_faults.proofs.begun.stops_before.Goals as goal

pub returns : goal.returns
returns c =
    let after : c.args.at < c.args.end = search rules in
    let before : c.args.end ≤ length c.args.bytes.now = search rules in
    let whole : c.in_ok-is_piece.field-0 ≡ true = search rules in
    let piece : c.in_ok-is_piece.field-0 ≡ is_piece (slice_range c.args.bytes.now c.args.at c.args.end) (c.args.end == length c.args.bytes.now) = search rules in
    let stopped : c.in_ok-is_begun.field-0 ≡ false = search rules in
    let begun : c.in_ok-is_begun.field-0 ≡ is_begun (take c.args.end c.args.bytes.now) = search rules in
    λ t. record { end = c.args.end; after = after; before = before; piece = sym piece ∙ whole; is = sym begun ∙ stopped; uncut = c.in_ok-yes.ensures t }
