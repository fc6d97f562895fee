use Rattle.cacao_view_explain.proofs.unread.not_whole.Goals as goal

pub returns-in_default : goal.returns-in_default
returns-in_default c = c.no_place.ensures.number c.args.index
