use Rattle.flow_fleet_laws.proofs.Seen.{views_are_whole, views_from_the_first, views_hide_others, views_share_filters}
use Rattle.flow_fleet_laws.proofs.views_law.Goals as goal

pub returns : goal.returns
returns c = record { whole = views_are_whole; filters = views_share_filters; others = views_hide_others; first = views_from_the_first }
