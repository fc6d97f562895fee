-- Scaffold: A place of the code as that of the definitions.
use Rattle.cacao_view_graph.specs.Statements as drawn
use Rattle.cacao_view_graph.specs.declared.lines.Place.{Place}

abbrev pub place_of : Place → drawn.Place
place_of place = (place.number, place.key.now)
