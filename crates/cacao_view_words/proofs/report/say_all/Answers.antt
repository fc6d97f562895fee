-- All the lines were said, or one could not be.
use Rattle.std.proofs.Common.{inl, inr, refl, subst, Bool}
use Rattle.cacao_cli_ends.specs.Lines.{FailsAmong, SaysAll, SaysOrStops}
use Rattle.cacao_view_words.proofs.report.say_all.Goals as goal

pub returns-then-say_lines : goal.returns-then-say_lines
returns-then-say_lines g c =
    let says : SaysAll c.args.lines.now (g.S.Disk.view c.args.site.now) (g.S.Disk.view c.say_lines.new.site) =
    subst (λ (b : Bool). SaysOrStops c.args.lines.now b (g.S.Disk.view c.args.site.now) (g.S.Disk.view c.say_lines.new.site)) c.if-say_lines.true c.say_lines.ensures in
    inl (record { says = says; ends = refl })

pub returns : goal.returns
returns g c =
    let stops : FailsAmong c.args.lines.now (g.S.Disk.view c.args.site.now) (g.S.Disk.view c.say_lines.new.site) =
    subst (λ (b : Bool). SaysOrStops c.args.lines.now b (g.S.Disk.view c.args.site.now) (g.S.Disk.view c.say_lines.new.site)) c.if-say_lines.false c.say_lines.ensures in
    inr (inl (record { front = stops.front; line = stops.line; behind = stops.behind; is = stops.is; between = stops.between; says = stops.says; fails = stops.fails; ends = refl }))
