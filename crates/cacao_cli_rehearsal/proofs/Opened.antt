-- How many device calls are made where the files are opened one after another.
use Rattle.std.proofs.Common.{◌≡◌, ◌≢◌, ℕ, zero, suc, ◌+◌, ◌-◌, ◌*◌, ◌/◌, ◌≤◌, List, length, refl, sym, ◌∙◌, subst, ap, arith}
use Rattle.cacao_site.specs.View.{DiskView}
use Rattle.flow_world.specs.Openings.{blocks_to}

blocks_stay : (n : ℕ) (old new : DiskView) → ((file : ℕ) → 1 ≤ file → file ≤ n → new.reads file ≡ old.reads file) → blocks_to n new ≡ blocks_to n old
blocks_stay zero old new same = refl
blocks_stay (suc n) old new same =
    let here : length (new.reads (suc n)) / 4096 ≡ length (old.reads (suc n)) / 4096 = ap (λ (l : List ℕ). length l / 4096) (same (suc n) (omega arith) (omega arith)) in
    let rest = blocks_stay n old new (λ file low high. same file low (omega (arith, high))) in
    omega (arith, here, rest)

calls_more : (n : ℕ) (old mid new : DiskView) → mid.calls ≤ old.calls + 3 * n + blocks_to n mid → new.calls ≤ mid.calls + 3 + length (new.reads (suc n)) / 4096
    → ((other : ℕ) → other ≢ suc n → new.reads other ≡ mid.reads other) → new.calls ≤ old.calls + 3 * suc n + blocks_to (suc n) new
calls_more n old mid new before here others =
    let same = blocks_stay n mid new (λ file low high. others file (λ e. absurd (omega (arith, e, high)))) in
    let more : blocks_to (suc n) new ≡ length (new.reads (suc n)) / 4096 + blocks_to n new = refl in
    omega (arith, before, here, same, more)

-- behind the files 1 to agent - 1 that of the agent is opened
pub calls_next : (agent : ℕ) (old mid new : DiskView) → 1 ≤ agent → mid.calls ≤ old.calls + 3 * (agent - 1) + blocks_to (agent - 1) mid
    → new.calls ≤ mid.calls + 3 + length (new.reads agent) / 4096 → ((other : ℕ) → other ≢ agent → new.reads other ≡ mid.reads other)
    → new.calls ≤ old.calls + 3 * (agent + 1 - 1) + blocks_to (agent + 1 - 1) new
calls_next agent old mid new low before here others =
    subst (λ (k : ℕ). new.calls ≤ old.calls + 3 * k + blocks_to k new) at_next
    (calls_more (agent - 1) old mid new before (subst (λ (k : ℕ). new.calls ≤ mid.calls + 3 + length (new.reads k) / 4096) (sym at) here) (λ other apart. others other (λ e. apart (e ∙ sym at))))
  where
    at : suc (agent - 1) ≡ agent
    at = omega (arith, low)

    at_next : suc (agent - 1) ≡ agent + 1 - 1
    at_next = omega (arith, low)

pub first_stays : (agent : ℕ) (old mid new : DiskView) → 1 ≤ agent → mid.reads 0 ≡ old.reads 0 → ((other : ℕ) → other ≢ agent → new.reads other ≡ mid.reads other) → new.reads 0 ≡ old.reads 0
first_stays agent old mid new low same others = others 0 (λ e. omega (arith, e, low)) ∙ same
