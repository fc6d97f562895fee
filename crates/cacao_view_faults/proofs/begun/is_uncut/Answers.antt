use Rattle.std.proofs.Common.{rules, ◌≡◌, false}
use Rattle.cacao_view_faults.proofs.begun.is_uncut.Goals as goal

pub returns : goal.returns
returns c =
    let dead : c.in_ok-is_cut.field-0 ≡ false = search rules in
    λ t e. c.in_ok-is_cut.ensures.dead dead
