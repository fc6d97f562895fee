use Rattle.cacao_view_explain.proofs.unread.repeated.Goals as goal

pub returns-in_default : goal.returns-in_default
returns-in_default c = c.no_place.ensures.repeated c.args.colons c.args.members

pub returns-then-not-branch : goal.returns-then-not-branch
returns-then-not-branch c = c.no_place-then-not-branch.ensures.repeated c.args.colons c.args.members

pub returns : goal.returns
returns c = c.two_places.ensures c.args.colons c.args.members
