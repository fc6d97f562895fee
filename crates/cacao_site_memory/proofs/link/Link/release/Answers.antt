-- The parcels that are released, by their places.
use Rattle.std.proofs.Common.{arith, ap, length, List, ℕ, sym}
use Rattle.std.specs.List.{filter}
use Rattle.cacao_site_memory.specs.Parcels.{is_later}
use Rattle.cacao_site_memory.proofs.Held.{due-and_later}
use Rattle.cacao_site_memory.proofs.ParcelLemmas.{release-held, release-named, release-pending}
use Rattle.cacao_site_memory.proofs.link.Link.release.Goals as goal

pub returns-clause-together : goal.returns-clause-together
returns-clause-together c = omega (
  arith,
  due-and_later c.args.now c.as_slice.result.now,
  ap (λ (l : List (ℕ × ℕ)). length (filter (is_later c.args.now) l)) c.as_slice.ensures.value,
  ap length c.as_slice.ensures.value,
  ap length c.keep_later.ensures.items,
)

pub returns-clause-fewer : goal.returns-clause-fewer
returns-clause-fewer c = omega (arith, due-and_later c.args.now c.args.self.now.held.items, ap length c.keep_later.ensures.items)

pub returns-clause-named : goal.returns-clause-named
returns-clause-named c = λ named.
    rw (c.add_due.ensures.items, c.keep_later.ensures.items, c.as_slice.ensures.value)
    (release-named c.args.self.now.puts.items c.args.now c.args.self.now.pending.items c.args.self.now.held.items c.args.self.now.taken.items named)

pub returns-clause-pending : goal.returns-clause-pending
returns-clause-pending c = rw (c.add_due.ensures.items, c.as_slice.ensures.value) (release-pending c.args.self.now.puts.items c.args.now c.args.self.now.pending.items c.args.self.now.held.items)

pub returns-clause-held : goal.returns-clause-held
returns-clause-held c = rw c.keep_later.ensures.items (sym (release-held c.args.self.now.puts.items c.args.now c.args.self.now.held.items))
