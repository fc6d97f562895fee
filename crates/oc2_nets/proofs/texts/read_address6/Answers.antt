use Rattle.std.proofs.Common.{sym, ap, ◌∙◌, Some, lit<}
use Rattle.std.specs.declared.net.ipv6_addr.Ipv6Addr.{Ipv6Addr}
use Rattle.std.specs.Net.Addr.{ipv6_segments, ipv6_bits}
use Rattle.std.proofs.lemmas.Bool.{both_ways}
use Rattle.std.proofs.lemmas.Str.Pattern.{contains_char}
use Rattle.oc2_nets.proofs.TextParts.{Lacks}
use Rattle.oc2_nets.proofs.Ipv6Forms.{segments_sound}
use Rattle.oc2_nets.proofs.AddressBits.{colon_hex_bits, address6_none}
use Rattle.oc2_nets.proofs.texts.read_address6.Goals as goal

pub returns-then-contains : goal.returns-then-contains
returns-then-contains c =
    let there = (contains_char 46 c.args.text.now c.contains.result c.contains.ensures.cases (lit< tt)).0 c.if-contains.true in
    sym (address6_none c.args.text.now λ gs e. (segments_sound c.args.text.now gs e).1 there.0 there.1 there.2)

pub returns-in-Ok : goal.returns-in-Ok
unfolding ipv6_bits
returns-in-Ok c =
    let plain : Lacks 46 c.args.text.now = λ i h e. both_ways _ c.if-contains.false ((contains_char 46 c.args.text.now c.contains.result c.contains.ensures.cases (lit< tt)).1 i h e) in
    ap Some c.to_bits.ensures ∙ colon_hex_bits c.args.text.now (ipv6_segments c.in-Ok.address) c.in-Ok.ensures.value plain

pub returns-in-Err : goal.returns-in-Err
returns-in-Err c = sym (address6_none c.args.text.now λ gs e.
    let address : Ipv6Addr = record { segments = gs } in
    c.in-Err.ensures.value address (segments_sound c.args.text.now gs e).0)
