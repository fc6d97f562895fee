use Rattle.std.proofs.Common.{◌≡◌, ◌∙◌, ◌-◌, ℕ, Option, ap, subst}
use Rattle.std.specs.Prelude.{IfSome, slice_get}
use Rattle.run_records.specs.declared.record.Record.{Record}
use Rattle.flow_engine.specs.Inside.{IsLast}
use Rattle.flow_engine.proofs.engine.Engine.last_line.Goals as goal

pub line_of-requires : goal.line_of-requires
line_of-requires c =
    let records = c.self.inside.history.records in
    ap (λ (n : ℕ). slice_get records (n - 1)) c.count-n.ensures ∙ subst (λ (o : Option Record). IfSome o (IsLast records)) c.in-Some.is c.self.invariant.last
