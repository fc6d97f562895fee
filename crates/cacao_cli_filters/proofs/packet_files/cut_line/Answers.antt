-- The first line feed is found.
use Rattle.std.proofs.Common.{◌≡◌, ◌∙◌, ◌+◌, ◌-◌, length-drop, sym, ap, List, ◌∷◌, take, drop, length, take_all, arith, ℕ}
use Rattle.oc2_nets.specs.Texts.{parts}
use Rattle.cacao_cli_filters.specs.PacketFiles.{line_feed}
use Rattle.cacao_cli_filters.proofs.PacketLemmas.{IsCutAt, cut-some, cut-none}
use Rattle.cacao_cli_filters.proofs.packet_files.cut_line.Goals as goal

pub returns-in-Some-clause-parts : goal.returns-in-Some-clause-parts
returns-in-Some-clause-parts c =
    let at : IsCutAt c.args.text.now c.in-Some.place = cut-some c.args.text.now c.in-Some.place c.in-Some.ensures in
    let text : List ℕ = c.args.text.now in
    let behind : List ℕ = drop (c.in-Some.place + 1) text in
    let whole : behind ≡ take (length text - (c.in-Some.place + 1)) behind = sym (take_all (length text - (c.in-Some.place + 1)) behind (omega (arith, length-drop {A = ℕ} (c.in-Some.place + 1) text))) in
    at.parts ∙ ap (λ (l : List ℕ). take c.in-Some.place text ∷ parts line_feed l) whole

pub returns-in-None-clause-parts : goal.returns-in-None-clause-parts
returns-in-None-clause-parts c = cut-none c.args.text.now c.in-None.ensures
