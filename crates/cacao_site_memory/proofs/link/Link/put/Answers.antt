-- The parcels after one put more, by their places.
use Rattle.std.proofs.Common.{◌≡◌, arith, length}
use Rattle.cacao_site_memory.specs.Weather.{arrivals}
use Rattle.cacao_site_memory.proofs.ParcelLemmas.{put-held, put-named, put-pending, put-taken}
use Rattle.cacao_site_memory.proofs.link.Link.put.Goals as goal

pub returns-clause-named : goal.returns-clause-named
returns-clause-named c =
    let place : c.len-place.result ≡ length c.args.self.now.puts.items = omega arith in
    rw (c.arrive.ensures.pending, c.arrive.ensures.held, c.arrive.ensures.puts, c.arrive.ensures.taken, c.push_reserved.ensures.items, place)
    (put-named c.args.self.now.puts.items (c.args.beat, c.args.parcel) c.args.self.now.pending.items c.args.self.now.held.items c.args.self.now.taken.items c.args.weather (arrivals c.args.weather) c.requires.named)

pub returns-clause-pending : goal.returns-clause-pending
returns-clause-pending c =
    let place : c.len-place.result ≡ length c.args.self.now.puts.items = omega arith in
    rw (c.arrive.ensures.pending, c.arrive.ensures.puts, c.push_reserved.ensures.items, place)
    (put-pending c.args.self.now.puts.items (c.args.beat, c.args.parcel) c.args.self.now.pending.items c.args.self.now.held.items c.args.self.now.taken.items c.args.weather (arrivals c.args.weather) c.requires.named)

pub returns-clause-held : goal.returns-clause-held
returns-clause-held c =
    let place : c.len-place.result ≡ length c.args.self.now.puts.items = omega arith in
    rw (c.arrive.ensures.held, c.arrive.ensures.puts, c.push_reserved.ensures.items, place)
    (put-held c.args.self.now.puts.items (c.args.beat, c.args.parcel) c.args.self.now.pending.items c.args.self.now.held.items c.args.self.now.taken.items c.args.weather (arrivals c.args.weather) c.requires.named)

pub returns-clause-taken : goal.returns-clause-taken
returns-clause-taken c =
    rw (c.arrive.ensures.puts, c.arrive.ensures.taken, c.push_reserved.ensures.items)
    (put-taken c.args.self.now.puts.items (c.args.beat, c.args.parcel) c.args.self.now.pending.items c.args.self.now.held.items c.args.self.now.taken.items c.args.weather (arrivals c.args.weather) c.requires.named)
