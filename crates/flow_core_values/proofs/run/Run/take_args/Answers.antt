use Rattle.std.proofs.Common.{◌-◌, ap, sym, arith, ◌∙◌}
use Rattle.flow_core_tables.specs.TableFacts.{lists_of}
use Rattle.flow_core_values.proofs.SizeLemmas.{none_bytes, args_bytes}
use Rattle.flow_core_values.proofs.run.Run.take_args.Goals as goal

pub returns-in_default : goal.returns-in_default
returns-in_default c = rw c.in_default.is (c.take.ensures ∙ ap (λ n. c.args.left.now - n) (sym none_bytes))

pub returns : goal.returns
returns c =
    rw (c.in-Some.is, c.in-Members.is)
    (omega (arith, c.take-2.ensures, c.take_entries.ensures, args_bytes (lists_of c.args.self.now.tables) c.args.scope c.in-Members.entries c.as_slice.ensures.sorted))
