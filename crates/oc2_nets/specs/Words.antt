-- Scaffold: The words of a packet's line, as the code keeps them.
use Rattle.std.specs.Prelude.{ℕ, List, [], ◌∷◌}
use Rattle.oc2_nets.specs.declared.lines.Words.{Words}

abbrev pub seven_words : Words → List (List ℕ)
seven_words w =
    w.moment.now ∷ w.direction.now ∷ w.protocol.now ∷ w.source.now ∷ w.source_port.now ∷ w.target.now
    ∷ w.target_port.now ∷ []
