-- Scaffold: A place of the code as that of the definitions.
use Rattle.cacao_view_faults.specs.Places as as_said
use Rattle.cacao_view_faults.specs.declared.places.Place.{Place}

abbrev pub place_by : Place → as_said.Place
place_by place = record { line = place.line; column = place.column }
