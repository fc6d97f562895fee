use Rattle.std.proofs.Common.{option_map}
use Rattle.cacao_json.specs.Tree.{data_of}
use Rattle.cacao_check_steps.specs.Uses.{content_tree}
use Rattle.cacao_check_steps.proofs.PairLemmas.{mapped_at}
use Rattle.cacao_check_steps.proofs.uses.add_commands.Goals as goal

pub add_command-requires : goal.add_command-requires
add_command-requires c = mapped_at (option_map data_of) content_tree c.args.contents.now c.args.commands.now c.loop-at.at c.index-contents-at.result c.index-commands-at.result c.requires c.loop-at-test.true c.index-contents-at.is c.index-commands-at.is
