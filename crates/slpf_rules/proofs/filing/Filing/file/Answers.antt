use Rattle.std.proofs.Common.{sym, subst}
use Rattle.slpf_rules.specs.Filed.{source_net, destination_net}
use Rattle.slpf_rules.specs.Filing.{IsSide}
use Rattle.slpf_rules.specs.Rules.{place}
use Rattle.slpf_rules.proofs.Rising.{IsRising-place, rule_at-place, without-place}
use Rattle.slpf_rules.proofs.Filings.{IsFiling-place_unfiled, IsFiling-place_filed, on_err_from}
use Rattle.slpf_rules.proofs.filing.Filing.file.Goals as goal

pub returns-then-is_unfiled-clause-ok : goal.returns-then-is_unfiled-clause-ok
returns-then-is_unfiled-clause-ok c = λ rules h rising free.
    IsFiling-place_unfiled c.args.rule.now rules _ _ _ _ h rising free (sym c.if-is_unfiled.ensures) c.in_ok-insert.ensures.ok

pub returns-in-Ok-clause-ok : goal.returns-in-Ok-clause-ok
returns-in-Ok-clause-ok c = λ rules h rising free.
    IsFiling-place_filed c.args.rule.now rules _ _ _ h.unfiled (sym c.if-is_unfiled.ensures)
    (c.in_ok-file.ensures.ok source_net rules (sym c.source_net.ensures) h.sources rising free)
    (c.in-Ok.ensures.ok destination_net rules (sym c.destination_net.ensures) h.destinations rising free)

pub returns-in_err-file-clause-err : goal.returns-in_err-file-clause-err
returns-in_err-file-clause-err c =
    on_err_from c.from_residual-in_err-file.result
    (λ rules h rising free. record {
      sources = c.in_err-file.ensures.err source_net rules h.sources;
      destinations = h.destinations;
      unfiled = h.unfiled;
    })

pub returns-in-Err-clause-err : goal.returns-in-Err-clause-err
returns-in-Err-clause-err c = λ rules h rising free.
    let rule = c.args.rule.now in
    let more = place rule rules in
    let filed = c.in_ok-file.ensures.ok source_net rules (sym c.source_net.ensures) h.sources rising free in
    let undone = c.unfile.ensures source_net more (sym c.source_net-in-Err.ensures) filed (IsRising-place rule rules rising free) (rule_at-place rule rules free) in
    record {
      sources = subst (λ l. IsSide source_net l c.unfile.new.self) (without-place rule rules free) undone;
      destinations = c.in-Err.ensures.err destination_net rules h.destinations;
      unfiled = h.unfiled;
    }
