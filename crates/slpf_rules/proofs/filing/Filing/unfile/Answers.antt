use Rattle.std.proofs.Common.{sym}
use Rattle.slpf_rules.specs.Filed.{source_net, destination_net}
use Rattle.slpf_rules.proofs.Filings.{IsFiling-without_unfiled, IsFiling-without_filed}
use Rattle.slpf_rules.proofs.filing.Filing.unfile.Goals as goal

pub returns-then-is_unfiled : goal.returns-then-is_unfiled
returns-then-is_unfiled c = λ rules h rising held.
    IsFiling-without_unfiled c.args.rule.now rules _ _ _ _ h rising held (sym c.if-is_unfiled.ensures) c.remove.ensures

pub returns : goal.returns
returns c = λ rules h rising held.
    IsFiling-without_filed c.args.rule.now rules _ _ _ h.unfiled (sym c.if-is_unfiled.ensures) rising held
    (c.unfile.ensures source_net rules (sym c.source_net.ensures) h.sources rising held)
    (c.unfile-2.ensures destination_net rules (sym c.destination_net.ensures) h.destinations rising held)
