use Rattle.std.proofs.Common.{replicate, refl}
use Rattle.slpf_rules.proofs.Zeros.{get_or-zeros}
use Rattle.slpf_rules.proofs.widths.zeros4.Goals as goal

pub returns : goal.returns
returns c = λ width. get_or-zeros (replicate 33 0) width refl
