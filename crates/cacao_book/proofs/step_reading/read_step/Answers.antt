use Rattle.cacao_book_shape.specs.Shape.{k6, k7, k9, k10, k11}
use Rattle.cacao_book.proofs.step_reading.read_step.Goals as goal

pub read_vars-requires : goal.read_vars-requires
read_vars-requires c = c.requires.shaped k7

pub read_kind-requires-clause-k9 : goal.read_kind-requires-clause-k9
read_kind-requires-clause-k9 c = c.requires.shaped k9

pub read_kind-requires-clause-k10 : goal.read_kind-requires-clause-k10
read_kind-requires-clause-k10 c = c.requires.shaped k10

pub read_kind-requires-clause-k11 : goal.read_kind-requires-clause-k11
read_kind-requires-clause-k11 c = c.requires.shaped k11

pub number_at-requires : goal.number_at-requires
number_at-requires c = (c.requires.shaped k6).0

pub number_at-requires-2 : goal.number_at-requires-2
number_at-requires-2 c = (c.requires.shaped k6).1
