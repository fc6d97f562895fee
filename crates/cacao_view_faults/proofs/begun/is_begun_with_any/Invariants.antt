use Rattle.std.proofs.Common.{◌≡◌, ◌++◌, Bor, false, ℕ, List, take}
use Rattle.std.specs.Prelude.{All}
use Rattle.cacao_view_faults.specs.Closing.{is_begun}
use Rattle.cacao_view_faults.proofs.begun.is_begun_with_any.Given as goal

abbrev pub invariant-loop-n : goal.invariant-loop-n
invariant-loop-n l = All (λ (rest : Bor (List ℕ)). is_begun (l.bytes ++ rest.now) ≡ false) (take l.n l.rests)
