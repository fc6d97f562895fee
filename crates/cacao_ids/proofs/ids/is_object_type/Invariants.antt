use Rattle.std.proofs.Common.{◌≡◌, drop, false}
use Rattle.cacao_ids.proofs.IdLemmas.{completes}
use Rattle.cacao_ids.proofs.ids.is_object_type.Given as goal

-- the bytes so far decide nothing but whether a part is open
abbrev pub invariant-loop-byte : goal.invariant-loop-byte
invariant-loop-byte l = completes l.is_in_part (drop l.byte-index l.text) ≡ completes false l.text
