use Rattle.cacao_cli_looks.specs.Command.{text_of}
use Rattle.cacao_view_explain.proofs.UnreadLemmas.{tells_twice}
use Rattle.cacao_view_explain.proofs.unread.two_places.Goals as goal

pub returns : goal.returns
returns c = λ colons members.
    tells_twice (text_of c.args.text.now) c.args.twice.first c.args.twice.second colons members c.args.here.now c.args.there.now c.in_ok-first.first.items c.in_ok-second.second.items c.in_ok-lines.lines
    c.requires.twice c.in_ok-first.ensures c.in_ok-second.ensures c.in_ok-lines.ensures
