-- More than seven words are no packet.
use Rattle.std.proofs.Common.{◌≡◌, ◌<◌, ℕ, List, [], ◌∷◌, None, length, eqb, refl, arith}
use Rattle.std.proofs.lemmas.List.Splits.{length-slice_split}
use Rattle.oc2_nets.specs.Texts.{parts}
use Rattle.oc2_nets.specs.Packets.{packet_at}
use Rattle.oc2_nets.proofs.lines.read_words.Goals as goal

more_words : (a b c d e f g : List ℕ) (words : List (List ℕ)) → 0 < length words → packet_at (a ∷ b ∷ c ∷ d ∷ e ∷ f ∷ g ∷ words) ≡ None
more_words a b c d e f g [] some = absurd (omega arith)
more_words a b c d e f g (h ∷ words) some = refl

pub returns-in-Some : goal.returns-in-Some
returns-in-Some c =
    let rest = c.in-Some.field-0.1.now in
    rw (
      c.in_ok-moment.ensures,
      c.in_ok-direction.ensures,
      c.in_ok-protocol.ensures,
      c.in_ok-source.ensures,
      c.in_ok-source_port.ensures,
      c.in_ok-target.ensures,
      c.in-Some.ensures,
    )
    (more_words c.in_ok-moment.moment.now c.in_ok-direction.direction.now c.in_ok-protocol.protocol.now c.in_ok-source.source.now c.in_ok-source_port.source_port.now c.in_ok-target.target.now c.in-Some.field-0.0.now (parts 32 rest) (omega (arith, length-slice_split (λ c. eqb c 32) rest)))
