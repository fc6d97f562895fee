use Rattle.std.proofs.Common.{◌++◌, ℕ, List}
use Rattle.cacao_book.specs.declared.commands.StepCommand.{StepCommand}
use Rattle.cacao_view_preflight.specs.Warnings.{Text, each, of_command}
use Rattle.cacao_view_preflight.proofs.EachLemmas.{each_all, each_next}
use Rattle.cacao_view_preflight.proofs.commands.add_commands.Goals as goal

pub loop-c-preserved : goal.loop-c-preserved
loop-c-preserved c =
    let make : ℕ → StepCommand → List Text = of_command c.args.own.now c.args.outer.now c.args.n c.args.key.now in
    each_next make c.args.commands.now c.loop-c.c c.index-commands-c.result c.loop-c.lines c.add_command.new.lines (c.args.lines.now ++ each make 0 c.args.commands.now)
    c.loop-c-test.true c.index-commands-c.is c.in_ok-add_command.ensures c.loop-c.invariant

pub returns : goal.returns
returns c =
    let make : ℕ → StepCommand → List Text = of_command c.args.own.now c.args.outer.now c.args.n c.args.key.now in
    each_all make c.args.commands.now c.loop-c.c c.loop-c.lines (c.args.lines.now ++ each make 0 c.args.commands.now) c.loop-c-test.false c.loop-c.invariant
