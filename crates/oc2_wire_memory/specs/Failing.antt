-- Promise: Which calls fail by a plan.
use Rattle.std.specs.Prelude.{ℕ, Bool, ◌&&◌, List, nat_lt, nat_eq}
use Rattle.std.specs.List.{list_any}

-- whether the call of this number, from 0, is among those that fail, whose numbers have 32 bits
abbrev pub is_listed : List ℕ → ℕ → Bool
is_listed failing call = nat_lt call 4_294_967_296 && list_any (λ n. nat_eq n call) failing
