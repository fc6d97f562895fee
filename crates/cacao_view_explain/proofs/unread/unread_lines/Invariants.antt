use Rattle.std.proofs.Common.{◌≡◌, drop, map}
use Rattle.cacao_cli_looks.specs.Command.{text_of}
use Rattle.cacao_view_explain.specs.Tells.{first_unread}
use Rattle.cacao_view_explain.proofs.unread.unread_lines.Given as goal

abbrev pub invariant-loop-text : goal.invariant-loop-text
invariant-loop-text l = first_unread (map text_of (drop l.text-index l.texts)) ≡ first_unread (map text_of l.texts)
