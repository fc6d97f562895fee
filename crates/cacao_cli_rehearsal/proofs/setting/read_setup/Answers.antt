use Rattle.cacao_cli_rehearsal.proofs.Given.{not_bind, not_unreadable}
use Rattle.cacao_cli_rehearsal.proofs.setting.read_setup.Goals as goal

pub unreachable-requires : goal.unreachable-requires
unreachable-requires c =
    not_unreadable c.args.text c.no_bindings-bind.result c.in-Err-Unreadable.field-0-0 c.in-Err-Unreadable.field-0-1 c.in-Err-Unreadable.field-0 c.no_bindings-bind.ensures
    c.in-Err-Unreadable.field-0-is c.requires.tree c.in-Err-Unreadable.ensures.err

pub unreachable-requires-in-Err-Bind : goal.unreachable-requires-in-Err-Bind
unreachable-requires-in-Err-Bind c =
    not_bind c.args.text c.no_bindings-bind.result c.in-Err-Bind.field-0-0 c.in-Err-Bind.field-0 c.no_bindings-bind.ensures c.in-Err-Bind.field-0-is c.in-Err-Bind.ensures.err
